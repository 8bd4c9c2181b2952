-- Tables and faults of names are the same by all limits.
use Rattle.std.proofs.Common.{◌⊎◌, inl, inr, List, Result, Ok, Err}
use Rattle.in_base.specs.Lists.{AnyByRecursion}
use Rattle.in_base.proofs.Each.{any_of}
use Rattle.in_syntax.specs.declared.faults.Code.{Code}
use Rattle.in_syntax.specs.declared.faults.Fault.{Fault}
use Rattle.in_syntax.specs.declared.faults.Fault.TheVariants.{Refused, Memory}
use Rattle.in_syntax.specs.declared.places.Place.{Place}
use Rattle.in_syntax.specs.declared.text_limits.TextLimits.{TextLimits}
use Rattle.in_syntax.specs.declared.tree.Equation.{Equation}
use Rattle.in_syntax.specs.declared.tree.Source.{Source}
use Rattle.in_syntax.specs.declared.tree.SourceRule.{SourceRule}
use Rattle.in_syntax.specs.declared.tree.Term.{Term}
use Rattle.in_symbols.specs.Faults.{HasPart, HasPartIn, IsDeclaredTwiceAt, IsFaultAt, IsFaultless, IsFirstFault, IsUnknownHead, IsUnknownHeadAt, IsUnknownTypeAt, OfAHead}
use Rattle.in_symbols.specs.Faults.{itself, argument, type_twice, symbol_twice, free_twice, free_symbol, of_principal, of_auxiliary, of_free, in_equation, in_rule_equation, of_head, in_head, declared_twice, unknown_type, unknown_symbol}
use Rattle.in_symbols.specs.Tables.{IsTabled, Tables, Tabulates}
use Rattle.in_larger_limits.specs.Laws.{read_by}

module _ (P Q : Term → Type 0) (kept : (u : Term) → P u → Q u) where
  part_kept : (u : Term) → HasPart P u → HasPart Q u
  part_kept u (itself v h) = itself v (kept v h)
  part_kept u (argument v a among h) = argument v a among (part_kept a h)

  equation_kept : (e : Equation) → HasPart P e.left ⊎ HasPart P e.right → HasPart Q e.left ⊎ HasPart Q e.right
  equation_kept e (inl h) = inl (part_kept e.left h)
  equation_kept e (inr h) = inr (part_kept e.right h)

  equations_kept : (es : List Equation) → HasPartIn P es → HasPartIn Q es
  equations_kept = any_of (λ e. HasPart P e.left ⊎ HasPart P e.right) (λ e. HasPart Q e.left ⊎ HasPart Q e.right) equation_kept

module _ (limits : TextLimits) (s : Source) where
  twice_kept : (p : Place) → IsDeclaredTwiceAt s p → IsDeclaredTwiceAt (read_by limits s) p
  twice_kept p (type_twice h) = type_twice h
  twice_kept p (symbol_twice h) = symbol_twice h
  twice_kept p (free_twice h) = free_twice h
  twice_kept p (free_symbol h) = free_symbol h

  type_kept : (p : Place) → IsUnknownTypeAt s p → IsUnknownTypeAt (read_by limits s) p
  type_kept p (of_principal h) = of_principal h
  type_kept p (of_auxiliary h) = of_auxiliary h
  type_kept p (of_free h) = of_free h

  module _ (p : Place) where
    unknown_kept : (u : Term) → IsUnknownHead s p u → IsUnknownHead (read_by limits s) p u
    unknown_kept u h = record { unknown = h.unknown; arguments = h.arguments; place = h.place }

    parts_kept : (u : Term) → HasPart (IsUnknownHead s p) u → HasPart (IsUnknownHead (read_by limits s) p) u
    parts_kept = part_kept (IsUnknownHead s p) (IsUnknownHead (read_by limits s) p) unknown_kept

    all_equations_kept : (es : List Equation) → HasPartIn (IsUnknownHead s p) es → HasPartIn (IsUnknownHead (read_by limits s) p) es
    all_equations_kept = equations_kept (IsUnknownHead s p) (IsUnknownHead (read_by limits s) p) unknown_kept

    heads_kept : (r : SourceRule) → OfAHead (λ k. AnyByRecursion (HasPart (IsUnknownHead s p)) k.terms) r → OfAHead (λ k. AnyByRecursion (HasPart (IsUnknownHead (read_by limits s) p)) k.terms) r
    heads_kept r (inl h) = inl (any_of (HasPart (IsUnknownHead s p)) (HasPart (IsUnknownHead (read_by limits s) p)) parts_kept r.first.terms h)
    heads_kept r (inr h) = inr (any_of (HasPart (IsUnknownHead s p)) (HasPart (IsUnknownHead (read_by limits s) p)) parts_kept r.second.terms h)

    name_kept : IsUnknownHeadAt s p → IsUnknownHeadAt (read_by limits s) p
    name_kept (in_equation h) = in_equation (all_equations_kept s.net.equations h)
    name_kept (in_rule_equation h) =
        in_rule_equation (any_of (λ r. HasPartIn (IsUnknownHead s p) r.equations) (λ r. HasPartIn (IsUnknownHead (read_by limits s) p) r.equations) (λ r. all_equations_kept r.equations) s.rules h)
    name_kept (of_head h) = of_head h
    name_kept (in_head h) =
        in_head (any_of
        (OfAHead (λ k. AnyByRecursion (HasPart (IsUnknownHead s p)) k.terms))
        (OfAHead (λ k. AnyByRecursion (HasPart (IsUnknownHead (read_by limits s) p)) k.terms))
        heads_kept s.rules h)

  fault_kept : (c : Code) (p : Place) → IsFaultAt s c p → IsFaultAt (read_by limits s) c p
  fault_kept c p (declared_twice q h) = declared_twice q (twice_kept q h)
  fault_kept c p (unknown_type q h) = unknown_type q (type_kept q h)
  fault_kept c p (unknown_symbol q h) = unknown_symbol q (name_kept q h)

module _ (limits : TextLimits) (s : Source) where
  fault_back : (c : Code) (p : Place) → IsFaultAt (read_by limits s) c p → IsFaultAt s c p
  fault_back = fault_kept s.limits (read_by limits s)

  faultless_kept : IsFaultless s → IsFaultless (read_by limits s)
  faultless_kept none c p h = none c p (fault_back c p h)

  first_fault_kept : (c : Code) (p : Place) → IsFirstFault s c p → IsFirstFault (read_by limits s) c p
  first_fault_kept c p h = record { stands = fault_kept limits s c p h.stands; first = λ d q f. h.first d q (fault_back d q f) }

  tabled_kept : (t : Tables) → IsTabled s t → IsTabled (read_by limits s) t
  tabled_kept t h = record { tables = h.tables; heads = h.heads; free = h.free; rules = h.rules }

  pub tabulates_kept : (x : Result Tables Fault) → Tabulates s x → Tabulates (read_by limits s) x
  tabulates_kept (Ok t) h = (tabled_kept t h.0, faultless_kept h.1)
  tabulates_kept (Err (Refused r)) h = (first_fault_kept r.code r.place h.0, h.1)
  tabulates_kept (Err (Memory e)) h = tt
