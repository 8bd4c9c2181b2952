-- The rest of a text, and single steps of reading it.
use Rattle.std.specs.Prelude.{◌≡◌, ℕ, ◌+◌, ◌<◌, ◌≤◌, Bool, true, false, ◌==◌, List, [], ◌∷◌, ◌++◌, length, option_to_list}
use Rattle.std.specs.List.{list_all}
use Rattle.std.specs.Str.{chars, IsUtf8}
use Rattle.std.specs.Char.{encode_utf8}
use Rattle.in_syntax.specs.declared.characters.Spot.{Spot}
use Rattle.in_syntax.specs.declared.words.Token.{Token}
use Rattle.in_syntax.specs.declared.faults.Fault.{Fault}
use Rattle.in_syntax.specs.declared.faults.Fault.TheVariants.{Refused, Memory}
use Rattle.in_syntax.specs.declared.faults.Code.{Code}
use Rattle.in_syntax.specs.declared.faults.Refusal.{Refusal}
use Rattle.in_syntax.specs.declared.lexer.Move.{Move}
use Rattle.in_syntax.specs.declared.lexer.Move.TheVariants as move
use Rattle.in_syntax.specs.Characters.{is_blank, begins_name}
use Rattle.in_syntax.specs.Places.{start, past_all}
use Rattle.in_syntax.specs.Tokens.{Passes, Faults, Stops, refusal_at}
use Rattle.in_syntax.specs.TextLimits.{most_bytes}

-- the text is a character and then the rest
pub record BeginsWith (text : List ℕ) (c : ℕ) (rest : List ℕ) : Type 0 where
  pub chars : chars text ≡ c ∷ chars rest
  pub bytes : length text ≡ length (encode_utf8 c) + length rest
  pub some : 0 < length (encode_utf8 c)
  pub utf8 : IsUtf8 rest

-- the first character has P
abbrev pub FirstIs : (ℕ → Type 0) → List ℕ → Type 0
FirstIs P [] = ⊥
FirstIs P (c ∷ cs) = P c

-- the first character, if there is one, fails the test
abbrev pub FirstFails : (ℕ → Bool) → List ℕ → Type 0
FirstFails passes [] = Unit {0}
FirstFails passes (c ∷ cs) = passes c ≡ false

-- the character begins only signs
pub record BeginsSigns (c : ℕ) : Type 0 where
  pub blank : is_blank c ≡ false
  pub comment : (c == 35) ≡ false
  pub name : begins_name c ≡ false

-- a spot, and the rest of a text after it, within the limit on texts
pub record IsWithin (s : Spot) (rest : List ℕ) : Type 0 where
  pub total : s.at + length rest ≤ most_bytes
  pub line : s.line ≤ s.at + 1
  pub col : s.col ≤ s.at + 1

-- the text from a spot is a run of characters that pass the test, and then the rest, at the second spot
pub record RunsThrough (passes : ℕ → Bool) (s : Spot) (text w : List ℕ) (t : Spot) (rest : List ℕ) : Type 0 where
  pub split : chars text ≡ w ++ chars rest
  pub all : list_all passes w ≡ true
  pub end : t ≡ past_all s w
  pub within : IsWithin t rest
  pub utf8 : IsUtf8 rest
  pub shorter : length w + length rest ≤ length text

-- the longest such run, with the number of its characters
pub record IsRun (passes : ℕ → Bool) (s : Spot) (text w : List ℕ) (r : ℕ × Spot × List ℕ) : Type 0 where
  pub runs : RunsThrough passes s text w r.1 r.2
  pub count : r.0 ≡ length w
  pub longest : FirstFails passes (chars r.2)

-- a part of the text is read, and the rest is shorter
pub record Goes (s : Spot) (text : List ℕ) (ts : List Token) (t : Spot) (rest : List ℕ) : Type 0 where
  pub passes : Passes s (chars text) ts t (chars rest)
  pub within : IsWithin t rest
  pub utf8 : IsUtf8 rest
  pub shorter : length rest < length text

-- the next move in a text from a spot: its end, a part that is passed, or a fault
abbrev pub IsMove : Spot → List ℕ → Move → Type 0
IsMove s text move.End = chars text ≡ []
IsMove s text (move.Past token t rest) = Goes s text (option_to_list token) t rest.now
IsMove s text (move.Wrong code at) = Faults s (chars text) code at

-- the fault is this refusal, or running out of memory
abbrev pub RefusedBy : (Refusal → Type 0) → Fault → Type 0
RefusedBy P (Refused r) = P r
RefusedBy P (Memory e) = Unit {0}

-- a refusal for the first fault of the characters
abbrev pub IsStopOf : List ℕ → Refusal → Type 0
IsStopOf cs r = (code : Code) × (at : Spot) × Stops start cs code at × (r ≡ refusal_at code at)
