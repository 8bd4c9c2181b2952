-- The tokens that are a program, and the first fault of those that aren't.
use Rattle.std.specs.Prelude.{◌≡◌, ℕ, ◌≤◌, List, [], ◌∷◌, ◌++◌, length, map, take, drop, slice_range, None, true, Result, Ok, Err}
use Rattle.std.specs.Str.{IsUtf8}
use Rattle.in_syntax.specs.declared.places.Place.{Place}
use Rattle.in_syntax.specs.declared.faults.Code.{Code}
use Rattle.in_syntax.specs.declared.faults.Code.TheVariants.{E02, E03}
use Rattle.in_syntax.specs.declared.faults.Fault.{Fault}
use Rattle.in_syntax.specs.declared.faults.Fault.TheVariants.{Refused, Memory}
use Rattle.in_syntax.specs.declared.words.Token.{Token}
use Rattle.in_syntax.specs.declared.words.TokenKind.{TokenKind}
use Rattle.in_syntax.specs.declared.words.TokenKind.TheVariants as kind
use Rattle.in_syntax.specs.declared.signs.Sign.{Sign}
use Rattle.in_syntax.specs.declared.signs.Sign.TheVariants.{Named, Tilde, Plain}
use Rattle.in_syntax.specs.declared.tree.Name.{Name}
use Rattle.in_syntax.specs.declared.tree.Source.{Source}
use Rattle.in_syntax.specs.Grammar.{Spelling, marked, within, GrammarProgram, spelling, source_of}
use Rattle.in_syntax.specs.declared.text_limits.TextLimits.{TextLimits}

-- the place is that of a part of the text
pub record IsTextAt (text : List ℕ) (place : Place) : Type 0 where
  pub order : place.from ≤ place.to
  pub within : place.to ≤ length text
  pub utf8 : IsUtf8 (slice_range text place.from place.to)

-- a name is in the text
abbrev pub HasText : List ℕ → TokenKind → Place → Type 0
HasText text kind.Name place = IsTextAt text place
HasText text _ place = Unit {0}

-- each name is in the text
abbrev pub HasTexts : List ℕ → List Token → Type 0
HasTexts text [] = Unit {0}
HasTexts text (t ∷ ts) = HasText text t.kind t.place × HasTexts text ts

-- a name as the tree keeps it
abbrev pub name_at : List ℕ → Place → Name
name_at text place = record { text = slice_range text place.from place.to; place = place }

-- a token of a kind at a place, as the grammar sees it
abbrev pub sign_at : List ℕ → TokenKind → Place → Sign
sign_at text kind.Name place = Named (name_at text place)
sign_at text kind.Tilde place = Tilde place
sign_at text k place = Plain k

-- a token of a text, as the grammar sees it
abbrev pub sign_of : List ℕ → Token → Sign
sign_of text t = sign_at text t.kind t.place

-- the tokens of a text, as the grammar sees them
abbrev pub signs_of : List ℕ → List Token → List Sign
signs_of text = map (sign_of text)

-- the signs without their marks
abbrev pub signs : Spelling → List Sign
signs = map (λ m. m.sign)

-- these signs, none of which passes a limit
abbrev pub unmarked : List Sign → Spelling
unmarked = map within

-- the signs are those of a program of this tree, and none of them passes a limit
abbrev pub IsTree : TextLimits → List Sign → Source → Type 0
IsTree limits s source = (p : GrammarProgram) × (spelling limits p ≡ unmarked s) × (source_of limits p ≡ source)

-- the signs are a program's, whether or not one passes a limit
abbrev pub IsProgram : TextLimits → List Sign → Type 0
IsProgram limits s = (p : GrammarProgram) × (signs (spelling limits p) ≡ s)

-- some program begins so, whether or not a sign passes a limit
abbrev pub Begins : TextLimits → List Sign → Type 0
Begins limits front = (p : GrammarProgram) × (more : List Sign) × (signs (spelling limits p) ≡ front ++ more)

-- some program begins so, and passes no limit there
abbrev pub BeginsWithin : TextLimits → List Sign → Type 0
BeginsWithin limits front = (p : GrammarProgram) × (more : Spelling) × (spelling limits p ≡ unmarked front ++ more)

-- some program begins so, and passes a limit first at the last sign
abbrev pub BeginsPast : TextLimits → List Sign → Sign → Type 0
BeginsPast limits front s = (p : GrammarProgram) × (more : Spelling) × (spelling limits p ≡ unmarked front ++ marked true s ∷ more)

-- the first fault is this one, between the signs `front` before it and those from it on: some program begins with `front`, and passes no
-- limit there; E02 if none continues with the next sign, or none ends here; E03 if one does, and its sign passes a limit
abbrev pub IsFault : TextLimits → Code → List Sign → List Sign → Type 0
IsFault limits E02 front [] = BeginsWithin limits front × ¬ IsProgram limits front
IsFault limits E02 front (s ∷ rest) = BeginsWithin limits front × ¬ Begins limits (front ++ s ∷ [])
IsFault limits E03 front (s ∷ rest) = BeginsPast limits front s
IsFault limits _ front rest = ⊥

-- the outcome of signs
pub data Outcome : Type 0 where
  tree : Source → Outcome
  -- a fault at the sign of this number, counted from 0, or at the end
  fault : Code → ℕ → Outcome

-- the signs are a program within the limits, or they have a first fault
abbrev pub IsOutcomeOfSigns : TextLimits → List Sign → Outcome → Type 0
IsOutcomeOfSigns limits s (tree source) = IsTree limits s source
IsOutcomeOfSigns limits s (fault code i) = (i ≤ length s) × IsFault limits code (take i s) (drop i s)

-- the place of the first of the tokens, or the end
abbrev pub place_at : List Token → Place → Place
place_at [] end = end
place_at (t ∷ ts) end = t.place

-- the result on a text's tokens
abbrev pub IsParsing : (limits : TextLimits) (text : List ℕ) (tokens : List Token) (end : Place) → Result Source Fault → Type 0
IsParsing limits text tokens end (Ok source) = IsOutcomeOfSigns limits (signs_of text tokens) (tree source)
IsParsing limits text tokens end (Err (Refused r)) =
    (i : ℕ) × IsOutcomeOfSigns limits (signs_of text tokens) (fault r.code i) × (r.place ≡ place_at (drop i tokens) end) × (r.other ≡ None)
IsParsing limits text tokens end (Err (Memory e)) = Unit {0}
