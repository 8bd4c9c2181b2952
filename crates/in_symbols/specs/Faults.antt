-- Faults of names: those of the types, symbols and free names of a program, and the first one among them.
-- Lafont 1990 declares the type and sign of each port of a symbol, and lets an agent be of a declared symbol. That types and
-- symbols are two namespaces, the codes, and the place of a fault are this project's own choice.
use Rattle.std.specs.Prelude.{◌≡◌, ◌⊎◌, ℕ, List, [], ◌∷◌, map}
use Rattle.in_base.specs.Lists.{AnyByRecursion, IsAmong}
use Rattle.in_syntax.specs.declared.faults.Code.{Code}
use Rattle.in_syntax.specs.declared.faults.Code.TheVariants.{E04, E05, E06}
use Rattle.in_syntax.specs.Refusals.{IsFirstOf, HasNone}
use Rattle.in_syntax.specs.declared.places.Place.{Place}
use Rattle.in_syntax.specs.declared.tree.Equation.{Equation}
use Rattle.in_syntax.specs.declared.tree.Head.{Head}
use Rattle.in_syntax.specs.declared.tree.Name.{Name}
use Rattle.in_syntax.specs.declared.tree.Source.{Source}
use Rattle.in_syntax.specs.declared.tree.SourcePort.{SourcePort}
use Rattle.in_syntax.specs.declared.tree.SourceRule.{SourceRule}
use Rattle.in_syntax.specs.declared.tree.Term.{Term, out-Term}

abbrev pub IsTypeName : Source → List ℕ → Type 0
IsTypeName s name = AnyByRecursion (λ t. t.text ≡ name) s.types

abbrev pub IsSymbolName : Source → List ℕ → Type 0
IsSymbolName s name = AnyByRecursion (λ d. d.name.text ≡ name) s.symbols

-- ---- declared twice

-- the place is that of a name of the list that also occurs earlier in the list
abbrev pub IsRepeatedAt : List Name → Place → Type 0
IsRepeatedAt [] p = ⊥
IsRepeatedAt (n ∷ ns) p = AnyByRecursion (λ m. (m.text ≡ n.text) × (m.place ≡ p)) ns ⊎ IsRepeatedAt ns p

-- the place is that of a name that is declared again: a type's, a symbol's, or a free name, which must not be a symbol's either
pub data IsDeclaredTwiceAt (s : Source) (p : Place) : Type 0 where
  type_twice : IsRepeatedAt s.types p → IsDeclaredTwiceAt s p
  symbol_twice : IsRepeatedAt (map (λ d. d.name) s.symbols) p → IsDeclaredTwiceAt s p
  free_twice : IsRepeatedAt (map (λ f. f.name) s.net.free) p → IsDeclaredTwiceAt s p
  free_symbol : AnyByRecursion (λ f. IsSymbolName s f.name.text × (f.name.place ≡ p)) s.net.free → IsDeclaredTwiceAt s p

-- ---- unknown types

-- the place is that of the port's type, which isn't declared
abbrev pub IsUntypedAt : Source → Place → SourcePort → Type 0
IsUntypedAt s p port = (IsTypeName s port.kind.text → ⊥) × (port.kind.place ≡ p)

-- the place is that of an unknown type: of a principal port, of an auxiliary port in a class, or of a free name
pub data IsUnknownTypeAt (s : Source) (p : Place) : Type 0 where
  of_principal : AnyByRecursion (λ d. IsUntypedAt s p d.port) s.symbols → IsUnknownTypeAt s p
  of_auxiliary : AnyByRecursion (λ d. AnyByRecursion (AnyByRecursion (IsUntypedAt s p)) d.classes) s.symbols → IsUnknownTypeAt s p
  of_free : AnyByRecursion (λ f. IsUntypedAt s p f.port) s.net.free → IsUnknownTypeAt s p

-- ---- names before ( and [

-- it holds of the term, or of a term within it
pub data HasPart (P : Term → Type 0) : Term → Type 0 where
  itself : (t : Term) → P t → HasPart P t
  argument : (t a : Term) → IsAmong a (out-Term t).args → HasPart P a → HasPart P t

-- the place is that of the term's name, before its arguments, which is no symbol's
pub record IsUnknownHead (s : Source) (p : Place) (t : Term) : Type 0 where
  pub unknown : IsSymbolName s (out-Term t).name.text → ⊥
  pub arguments : (out-Term t).args ≡ [] → ⊥
  pub place : (out-Term t).name.place ≡ p

-- it holds of one of the rule's two heads
abbrev pub OfAHead : (Head → Type 0) → SourceRule → Type 0
OfAHead P r = P r.first ⊎ P r.second

-- it holds of a term of one of the equations, or of a term within one
abbrev pub HasPartIn : (Term → Type 0) → List Equation → Type 0
HasPartIn P = AnyByRecursion (λ e. HasPart P e.left ⊎ HasPart P e.right)

-- the place is that of a name that is no symbol's: before ( in an equation of the net or of a rule, before [ in a rule, or before ( in a
-- term of a head
pub data IsUnknownHeadAt (s : Source) (p : Place) : Type 0 where
  in_equation : HasPartIn (IsUnknownHead s p) s.net.equations → IsUnknownHeadAt s p
  in_rule_equation : AnyByRecursion (λ r. HasPartIn (IsUnknownHead s p) r.equations) s.rules → IsUnknownHeadAt s p
  of_head : AnyByRecursion (OfAHead (λ h. (IsSymbolName s h.name.text → ⊥) × (h.name.place ≡ p))) s.rules → IsUnknownHeadAt s p
  in_head : AnyByRecursion (OfAHead (λ h. AnyByRecursion (HasPart (IsUnknownHead s p)) h.terms)) s.rules → IsUnknownHeadAt s p

-- ---- the first fault

-- a fault of this code is at the place
pub data IsFaultAt (s : Source) : Code → Place → Type 0 where
  declared_twice : (p : Place) → IsDeclaredTwiceAt s p → IsFaultAt s E04 p
  unknown_type : (p : Place) → IsUnknownTypeAt s p → IsFaultAt s E05 p
  unknown_symbol : (p : Place) → IsUnknownHeadAt s p → IsFaultAt s E06 p

-- a fault is there, none is earlier, and none at its place has a lower code
abbrev pub IsFirstFault : Source → Code → Place → Type 0
IsFirstFault s = IsFirstOf (IsFaultAt s)

abbrev pub IsFaultless : Source → Type 0
IsFaultless s = HasNone (IsFaultAt s)
