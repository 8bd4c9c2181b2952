-- The result of parsing a text.
use Rattle.std.specs.Prelude.{◌≡◌, ◌⊎◌, ℕ, List, drop, None, Result, Ok, Err}
use Rattle.in_syntax.specs.declared.faults.Refusal.{Refusal}
use Rattle.in_syntax.specs.declared.faults.Fault.{Fault}
use Rattle.in_syntax.specs.declared.faults.Fault.TheVariants.{Refused, Memory}
use Rattle.in_syntax.specs.declared.tree.Source.{Source}
use Rattle.in_syntax.specs.declared.words.Token.{Token}
use Rattle.in_syntax.specs.Places.{end_place}
use Rattle.in_syntax.specs.Tokens.{IsTokensOf, IsTokenFault}
use Rattle.in_syntax.specs.Programs.{signs_of, IsTree, IsOutcomeOfSigns, fault, place_at}
use Rattle.in_syntax.specs.declared.text_limits.TextLimits.{TextLimits}

-- the text has tokens, and the grammar relates them to this tree
pub record IsTreeOf (limits : TextLimits) (text : List ℕ) (source : Source) : Type 0 where
  pub tokens : List Token
  pub read : IsTokensOf limits text tokens
  pub tree : IsTree limits (signs_of text tokens) source

-- the tree of some text, by its limits
pub record IsOfText (source : Source) : Type 0 where
  pub text : List ℕ
  pub tree : IsTreeOf source.limits text source

-- the text has tokens, and this is the first fault of the grammar in them
pub record IsGrammarFault (limits : TextLimits) (text : List ℕ) (r : Refusal) : Type 0 where
  pub tokens : List Token
  pub read : IsTokensOf limits text tokens
  pub at : ℕ
  pub first : IsOutcomeOfSigns limits (signs_of text tokens) (fault r.code at)
  pub place : r.place ≡ place_at (drop at tokens) (end_place text)
  pub other : r.other ≡ None

-- the first fault of a text: that of its tokens, or, if they have none, that of the grammar
abbrev pub IsTextFault : TextLimits → List ℕ → Refusal → Type 0
IsTextFault limits text r = IsTokenFault limits text r ⊎ IsGrammarFault limits text r

-- a text is a tree, or a first fault
abbrev pub IsAnswer : TextLimits → List ℕ → Result Source Refusal → Type 0
IsAnswer limits text (Ok source) = IsTreeOf limits text source
IsAnswer limits text (Err r) = IsTextFault limits text r

-- Ok with the tree, otherwise the first fault
abbrev pub Parses : TextLimits → List ℕ → Result Source Fault → Type 0
Parses limits text (Ok source) = IsTreeOf limits text source
Parses limits text (Err (Refused r)) = IsTextFault limits text r
Parses limits text (Err (Memory e)) = Unit {0}
