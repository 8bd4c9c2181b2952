-- The passes over rules, one rule after another.
use Rattle.std.proofs.Common.{◌≡◌, ◌⊎◌, inl, inr, List, [], ◌∷◌, ◌++◌, length, ℕ, suc, ◌<◌, Some, slice_get, Ok, Err, refl, sym, ◌∙◌, ap, subst, arith}
use Rattle.std.specs.List.{AllByRecursion}
use Rattle.std.proofs.lemmas.Option.{slice_get_within}
use Rattle.in_syntax.specs.declared.faults.Fault.{Fault}
use Rattle.in_syntax.specs.declared.faults.Fault.TheVariants.{Refused, Memory}
use Rattle.in_syntax.specs.declared.tree.Source.{Source}
use Rattle.in_symbols.specs.Tables.{Tables}
use Rattle.in_net.specs.Rules.{RuleParts, BuildsRule, IsRuleOver}
use Rattle.in_base.proofs.Places.{more_at}
use Rattle.in_typing.specs.Typed.{TypesRule}
use Rattle.in_cover.specs.Cover.{IsRuleOfPair}
use Rattle.in_check.specs.Checking.{BuildsRules, TypesRules}
use Rattle.in_base.proofs.Each.{at_index}

-- ---- rules

-- the first rule that is refused
pub at_rule : (s : Source) (t : Tables) (rules : List RuleParts) (i : ℕ) (e : Fault) → length rules ≡ i → ((j : ℕ) (p : RuleParts) → slice_get rules j ≡ Some p → BuildsRule s t j (Ok p)) → BuildsRule s t i (Err e) → BuildsRules s t (Err e)
at_rule s t rules i (Memory e) count each refuses = tt
at_rule s t rules i (Refused r) count each refuses = record {
  number = i;
  stands = refuses;
  first = λ j lt. let here = at_index rules j (omega (arith, lt, count)) in (here.0, each j here.0 here.1);
}

-- one more rule is built
pub one_more : (s : Source) (t : Tables) (rules more : List RuleParts) (rule : RuleParts) → more ≡ rules ++ rule ∷ [] → ((j : ℕ) (p : RuleParts) → slice_get rules j ≡ Some p → BuildsRule s t j (Ok p)) → BuildsRule s t (length rules) (Ok rule) →
    (j : ℕ) (p : RuleParts) → slice_get more j ≡ Some p → BuildsRule s t j (Ok p)
one_more s t rules more rule grown each built j p is = by_side (more_at rules rule p j (ap (λ z. slice_get z j) (sym grown) ∙ is))
  where
    by_side : (slice_get rules j ≡ Some p) ⊎ ((j ≡ length rules) × (rule ≡ p)) → BuildsRule s t j (Ok p)
    by_side (inl h) = each j p h
    by_side (inr h) = subst (λ k. BuildsRule s t k (Ok p)) (sym h.0) (subst (λ p. BuildsRule s t (length rules) (Ok p)) h.1 built)

-- ---- types

-- rules that are built are over the tables, and, once they are typed, each is of a pair
pub all_of : {X : Type 0} (P : X → Type 0) (xs : List X) → ((i : ℕ) (x : X) → slice_get xs i ≡ Some x → P x) → AllByRecursion P xs
all_of P [] h = tt
all_of P (x ∷ xs) h = (h 0 x refl, all_of P xs (λ i y e. h (suc i) y e))

pub rules_over : (s : Source) (t : Tables) (rules : List RuleParts) → BuildsRules s t (Ok rules) → AllByRecursion (IsRuleOver t) rules
rules_over s t rules h = all_of (IsRuleOver t) rules (λ i p e. (h.each i p e).2.0)

pub rules_typed : (t : Tables) (rules : List RuleParts) → ((i : ℕ) (p : RuleParts) → i < length rules → slice_get rules i ≡ Some p → TypesRule t p (Ok tt)) → TypesRules t rules (Ok tt)
rules_typed t rules h = all_of (λ p. TypesRule t p (Ok tt)) rules (λ i p e. h i p (slice_get_within rules i p e) e)

both_all : {X : Type 0} (P Q R : X → Type 0) → ((x : X) → P x → Q x → R x) → (xs : List X) → AllByRecursion P xs → AllByRecursion Q xs → AllByRecursion R xs
both_all P Q R f [] h g = tt
both_all P Q R f (x ∷ xs) h g = (f x h.0 g.0, both_all P Q R f xs h.1 g.1)

pub rules_paired : (t : Tables) (rules : List RuleParts) → AllByRecursion (IsRuleOver t) rules → TypesRules t rules (Ok tt) → AllByRecursion (IsRuleOfPair t) rules
rules_paired t rules over typed =
    both_all (IsRuleOver t) (λ p. TypesRule t p (Ok tt)) (IsRuleOfPair t) (λ p o y. record { first = o.heads.0; second = o.heads.1; matched = y.0 }) rules over typed
