-- The first place of a name before ( or [ that is no symbol's, also in the rules.
use Rattle.std.proofs.Common.{◌≡◌, ◌⊎◌, ℕ, Bool, true, false, List, Some, None, is_some, if◌then◌else◌, refl, inl, inr, ap, arith}
use Rattle.std.specs.List.{AllByRecursion}
use Rattle.in_syntax.specs.declared.places.Place.{Place}
use Rattle.in_syntax.specs.declared.tree.Head.{Head}
use Rattle.in_syntax.specs.declared.tree.Source.{Source}
use Rattle.in_syntax.specs.declared.tree.SourceRule.{SourceRule}
use Rattle.in_base.specs.Lists.{AnyByRecursion}
use Rattle.in_symbols.specs.Faults.{IsSymbolName, HasPart, IsUnknownHead, OfAHead, IsUnknownHeadAt, in_equation, in_rule_equation, of_head, in_head}
use Rattle.in_symbols.specs.Names.{number_in}
use Rattle.in_syntax.specs.Refusals.{earlier}
use Rattle.in_symbols.specs.Searching.{unknown_name, unknown_in_term, unknown_in_equations, unknown_in_head, unknown_in_rule, unknown_in_rules}
use Rattle.in_symbols.specs.Tables.{heads_known, IsHeadKnown, IsRuleKnown}
use Rattle.in_syntax.proofs.Public.{IsLeast, least_same, least_earlier, least_earliest, least_of_all, earlier_none, earliest_none}
use Rattle.in_symbols.proofs.Named.{AreNamesOf, has_number, no_number, known_by}
use Rattle.in_symbols.proofs.Unknown.{IsUnknownInEquations, term_least, equations_least, term_known, equations_known}
use Rattle.in_base.proofs.Each.{any_of, any_either}

-- the place is that of the head's name, which is no symbol's
abbrev IsUnnamed : Source → Place → Head → Type 0
IsUnnamed s q h = (IsSymbolName s h.name.text → ⊥) × (h.name.place ≡ q)

abbrev IsUnknownWithin : Source → Place → Head → Type 0
IsUnknownWithin s q h = AnyByRecursion (HasPart (IsUnknownHead s q)) h.terms

abbrev IsUnknownIn : Source → Place → Head → Type 0
IsUnknownIn s q h = IsUnnamed s q h ⊎ IsUnknownWithin s q h

name_by : (s : Source) (names : List (List ℕ)) → AreNamesOf (IsSymbolName s) names → (h : Head) (b : Bool) → is_some (number_in h.name.text names) ≡ b → IsLeast (λ q. IsUnnamed s q h) (if b then None else Some h.name.place)
name_by s names are h true is = λ q k. k.0 ((are h.name.text).0 (has_number names h.name.text is))
name_by s names are h false is = (((λ k. no_number names h.name.text is ((are h.name.text).1 k)), refl), λ q k. omega (arith, ap (λ (r : Place). r.from) k.1))

head_least : (s : Source) (names : List (List ℕ)) → AreNamesOf (IsSymbolName s) names → (h : Head) → IsLeast (λ q. IsUnknownIn s q h) (unknown_in_head names h)
head_least s names are h =
    least_earliest (unknown_in_term names) (λ t q. HasPart (IsUnknownHead s q) t) (term_least s names are) (λ q. IsUnnamed s q h) (unknown_name names h.name)
    (name_by s names are h (is_some (number_in h.name.text names)) refl) h.terms

-- in a head of the rule, or in one of its equations
abbrev IsUnknownInRule : Source → Place → SourceRule → Type 0
IsUnknownInRule s q r = OfAHead (IsUnknownIn s q) r ⊎ IsUnknownInEquations s r.equations q

rule_least : (s : Source) (names : List (List ℕ)) → AreNamesOf (IsSymbolName s) names → (r : SourceRule) → IsLeast (λ q. IsUnknownInRule s q r) (unknown_in_rule names r)
rule_least s names are r =
    least_earlier (λ q. OfAHead (IsUnknownIn s q) r) (IsUnknownInEquations s r.equations) (earlier (unknown_in_head names r.first) (unknown_in_head names r.second)) (unknown_in_equations names r.equations)
    (least_earlier (λ q. IsUnknownIn s q r.first) (λ q. IsUnknownIn s q r.second) (unknown_in_head names r.first) (unknown_in_head names r.second)
    (head_least s names are r.first) (head_least s names are r.second))
    (equations_least s names are r.equations)

abbrev IsUnknownInRules : Source → Place → Type 0
IsUnknownInRules s q = AnyByRecursion (IsUnknownInRule s q) s.rules

-- ---- a head's own name, or one within it

apart : (A B C D : Type 0) → (A ⊎ B) ⊎ (C ⊎ D) → (A ⊎ C) ⊎ (B ⊎ D)
apart A B C D (inl (inl a)) = inl (inl a)
apart A B C D (inl (inr b)) = inr (inl b)
apart A B C D (inr (inl c)) = inl (inr c)
apart A B C D (inr (inr d)) = inr (inr d)

head_of_two : (P Q : Head → Type 0) (r : SourceRule) → OfAHead (λ h. P h ⊎ Q h) r → OfAHead P r ⊎ OfAHead Q r
head_of_two P Q r h = apart (P r.first) (Q r.first) (P r.second) (Q r.second) h

of_one_head : (P Q : Head → Type 0) → ((h : Head) → P h → Q h) → (r : SourceRule) → OfAHead P r → OfAHead Q r
of_one_head P Q to r (inl h) = inl (to r.first h)
of_one_head P Q to r (inr h) = inr (to r.second h)

-- in heads, or in equations
as_unknown : (s : Source) (q : Place) → IsUnknownInRules s q ⊎ IsUnknownInEquations s s.net.equations q → IsUnknownHeadAt s q
as_unknown s q (inl h) = elim (any_either (OfAHead (IsUnknownIn s q)) (λ r. IsUnknownInEquations s r.equations q) s.rules h) [ inl a ↦ in_heads a | inr b ↦ in_rule_equation b ]
  where
    in_heads : AnyByRecursion (OfAHead (IsUnknownIn s q)) s.rules → IsUnknownHeadAt s q
    in_heads h =
        elim (any_either (OfAHead (IsUnnamed s q)) (OfAHead (IsUnknownWithin s q)) s.rules
        (any_of (OfAHead (IsUnknownIn s q)) (λ r. OfAHead (IsUnnamed s q) r ⊎ OfAHead (IsUnknownWithin s q) r) (head_of_two (IsUnnamed s q) (IsUnknownWithin s q)) s.rules h)) [ inl a ↦ of_head a | inr b ↦ in_head b ]
as_unknown s q (inr h) = in_equation h

of_unknown : (s : Source) (q : Place) → IsUnknownHeadAt s q → IsUnknownInRules s q ⊎ IsUnknownInEquations s s.net.equations q
of_unknown s q (in_equation h) = inr h
of_unknown s q (in_rule_equation h) = inl (any_of (λ r. IsUnknownInEquations s r.equations q) (IsUnknownInRule s q) (λ r a. inr a) s.rules h)
of_unknown s q (of_head h) = inl (any_of (OfAHead (IsUnnamed s q)) (IsUnknownInRule s q) (λ r a. inl (of_one_head (IsUnnamed s q) (IsUnknownIn s q) (λ k a. inl a) r a)) s.rules h)
of_unknown s q (in_head h) = inl (any_of (OfAHead (IsUnknownWithin s q)) (IsUnknownInRule s q) (λ r a. inl (of_one_head (IsUnknownWithin s q) (IsUnknownIn s q) (λ k a. inr a) r a)) s.rules h)

pub unknown_least : (s : Source) (names : List (List ℕ)) → AreNamesOf (IsSymbolName s) names → IsLeast (IsUnknownHeadAt s) (earlier (unknown_in_rules names s.rules) (unknown_in_equations names s.net.equations))
unknown_least s names are =
    least_same (λ q. IsUnknownInRules s q ⊎ IsUnknownInEquations s s.net.equations q) (IsUnknownHeadAt s) (earlier (unknown_in_rules names s.rules) (unknown_in_equations names s.net.equations))
    (λ q h. as_unknown s q h) (λ q h. of_unknown s q h)
    (least_earlier (IsUnknownInRules s) (IsUnknownInEquations s s.net.equations) (unknown_in_rules names s.rules) (unknown_in_equations names s.net.equations)
    (least_of_all (unknown_in_rule names) (λ r q. IsUnknownInRule s q r) (rule_least s names are) s.rules)
    (equations_least s names are s.net.equations))

-- ---- without an unknown name, each is a symbol's

head_known : (names : List (List ℕ)) (h : Head) → unknown_in_head names h ≡ None → IsHeadKnown names h
head_known names h e =
    let both = earliest_none (unknown_in_term names) (λ t. heads_known names t ≡ true) (term_known names) (unknown_name names h.name) h.terms e in
    (known_by (is_some (number_in h.name.text names)) h.name.place both.0, both.1)

rule_known : (names : List (List ℕ)) (r : SourceRule) → unknown_in_rule names r ≡ None → IsRuleKnown names r
rule_known names r e =
    let all = earlier_none (earlier (unknown_in_head names r.first) (unknown_in_head names r.second)) (unknown_in_equations names r.equations) e in
    let both = earlier_none (unknown_in_head names r.first) (unknown_in_head names r.second) all.0 in
    (head_known names r.first both.0, head_known names r.second both.1, equations_known names r.equations all.1)

pub rules_known : (names : List (List ℕ)) (rs : List SourceRule) → unknown_in_rules names rs ≡ None → AllByRecursion (IsRuleKnown names) rs
rules_known names rs e = (earliest_none (unknown_in_rule names) (IsRuleKnown names) (rule_known names) None rs e).1
