-- Laws of the definitions, for every text.
use Rattle.std.specs.Prelude.{◌≡◌, ℕ, ◌⊎◌, List, Result, Err}
use Rattle.std.specs.List.{AllByRecursion}
use Rattle.in_syntax.specs.declared.words.Token.{Token}
use Rattle.in_syntax.specs.declared.expecting.Expected.{Expected}
use Rattle.in_syntax.specs.declared.faults.Fault.TheVariants.{Refused}
use Rattle.in_syntax.specs.declared.faults.Refusal.{Refusal}
use Rattle.in_syntax.specs.declared.signs.Sign.{Sign}
use Rattle.in_syntax.specs.declared.tree.Source.{Source}
use Rattle.in_syntax.specs.Tokens.{IsTokensOf, IsTokenFault, StandsIn, StandInOrder}
use Rattle.in_syntax.specs.Answers.{IsOne}
use Rattle.in_syntax.specs.Expecting.{IsExpected, IsNoted}
use Rattle.in_syntax.specs.Order.{BeginApart, source_places}
use Rattle.in_syntax.specs.Parsing.{IsAnswer, IsTreeOf, Parses}
use Rattle.in_syntax.specs.declared.text_limits.TextLimits.{TextLimits}

-- a text has at most one list of tokens
abbrev pub TokensAreUnique : Type 0
TokensAreUnique = (limits : TextLimits) (text : List ℕ) (ts us : List Token) → IsTokensOf limits text ts → IsTokensOf limits text us → ts ≡ us

-- a text has at most one first fault of its tokens
abbrev pub TokenFaultsAreUnique : Type 0
TokenFaultsAreUnique = (limits : TextLimits) (text : List ℕ) (q r : Refusal) → IsTokenFault limits text q → IsTokenFault limits text r → q ≡ r

-- a text has tokens or a fault of its tokens
abbrev pub TextsHaveTokensOrFault : Type 0
TextsHaveTokensOrFault = (limits : TextLimits) (text : List ℕ) → ((ts : List Token) × IsTokensOf limits text ts) ⊎ ((r : Refusal) × IsTokenFault limits text r)

-- no text has both tokens and a fault of its tokens
abbrev pub NoTextHasBoth : Type 0
NoTextHasBoth = (limits : TextLimits) (text : List ℕ) (ts : List Token) (r : Refusal) → IsTokensOf limits text ts → IsTokenFault limits text r → ⊥

-- each token of a text is in it
abbrev pub TokensStandInTheirText : Type 0
TokensStandInTheirText = (limits : TextLimits) (text : List ℕ) (ts : List Token) → IsTokensOf limits text ts → AllByRecursion (StandsIn text) ts

-- the tokens of a text are in it one after another
abbrev pub TokensStandInOrder : Type 0
TokensStandInOrder = (limits : TextLimits) (text : List ℕ) (ts : List Token) → IsTokensOf limits text ts → StandInOrder 0 ts

-- each text is exactly one of these: one tree, or one first fault
abbrev pub OneAnswer : Type 0
OneAnswer = (limits : TextLimits) (text : List ℕ) → (a : Result Source Refusal) × IsAnswer limits text a × ((b : Result Source Refusal) → IsAnswer limits text b → b ≡ a)

-- all results that parsing may have for a text agree
abbrev pub TextsAreParsedOnce : Type 0
TextsAreParsedOnce = (limits : TextLimits) (text : List ℕ) → IsOne (Parses limits text)

-- the names and the ~ of a text's program that begin at one byte have one place
abbrev pub TextsBeginApart : Type 0
TextsBeginApart = (limits : TextLimits) (text : List ℕ) (s : Source) → IsTreeOf limits text s → BeginApart (source_places s)

-- signs have at most one expectation
abbrev pub OneExpected : Type 0
OneExpected = (limits : TextLimits) (text : List ℕ) (front : List Sign) (d e : Expected) → IsExpected limits text front d → IsExpected limits text front e → d ≡ e

-- a refused text has one noted expectation
abbrev pub TextsAreNotedOnce : Type 0
TextsAreNotedOnce =
    (limits : TextLimits) (text : List ℕ) (before d e : Expected) (q r : Refusal) → IsNoted limits text before d (Err (Refused q)) → IsNoted limits text before e (Err (Refused r)) → d ≡ e
