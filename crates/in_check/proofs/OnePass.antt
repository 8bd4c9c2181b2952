-- Each pass that goes rule by rule has one result, and so have the steps.
use Rattle.std.proofs.Common.{◌≡◌, inl, inr, ℕ, ◌<◌, List, length, Some, slice_get, Ok, Err, sym, ◌∙◌, ap, subst, arith}
use Rattle.std.proofs.lemmas.Bool.{cases_order}
use Rattle.std.proofs.lemmas.Option.{slice_get_within}
use Rattle.in_syntax.specs.declared.faults.Code.{Code}
use Rattle.in_syntax.specs.declared.faults.Fault.TheVariants.{Refused, Memory}
use Rattle.in_syntax.specs.declared.faults.Refusal.{Refusal}
use Rattle.in_syntax.specs.declared.tree.Source.{Source}
use Rattle.in_syntax.specs.Answers.{IsOne, IsOneBy}
use Rattle.in_syntax.proofs.Public.{same_refusal}
use Rattle.in_symbols.specs.Tables.{Tables}
use Rattle.in_net.specs.Parts.{Parts}
use Rattle.in_net.specs.Rules.{RuleParts, RulesProperty, BuildsRule}
use Rattle.in_typing.specs.Typed.{TypesRule, IsRuleMistyped}
use Rattle.in_typing.proofs.Public.{one_mistyped, one_rule_mistyped, rule_not_both}
use Rattle.in_open_nets.specs.OpenNets.{OpenNet, IsOpenNet}
use Rattle.in_open_nets.specs.Derivations.{IsDerivation}
use Rattle.in_simple_deriving.specs.TakenOrder.{AreTaken}
use Rattle.in_simple_deriving.proofs.Public.{derived_once, one_stuck_place}
use Rattle.in_open_nets_of_programs.proofs.Public.{by_elements}
use Rattle.in_open_nets.proofs.Public.{derivation_builds}
use Rattle.in_check.specs.declared.checked.Certificate.{Certificate}
use Rattle.in_check.specs.Certificates.{IsCertificate, IsRefusedAt, CertifiesRule, CertifiesRules, CertifiesSome}
use Rattle.in_check.specs.Checking.{BuildsRules, TypesRules, TypePasses}
use Rattle.in_check.proofs.Certified.{same_rule}
use Rattle.in_base.proofs.Each.{at_index, all_at}

-- two numbers neither of which comes before the other are one
of_neither : {P : Type 0} (i j : ℕ) → (i ≡ j → P) → (i < j → ⊥) → (j < i → ⊥) → P
of_neither i j same before after = elim (cases_order i j) [ inl e ↦ same e | inr z ↦ elim z [ inl lt ↦ absurd (before lt) | inr lt ↦ absurd (after lt) ] ]

-- ---- the rules of a text

pub one_rules : (s : Source) (t : Tables) → ((i : ℕ) → IsOne (BuildsRule s t i)) → IsOne (BuildsRules s t)
one_rules s t one (Ok xs) (Ok ys) h k = by_elements xs ys (h.count ∙ sym k.count) (λ i x y is at. one i (Ok x) (Ok y) (h.each i x is) (k.each i y at))
one_rules s t one (Ok xs) (Err (Refused r)) h k =
    let there : k.number < length s.rules = slice_get_within s.rules k.number k.stands.0 k.stands.1 in
    let x = at_index xs k.number (let e = h.count in omega (arith, there, e)) in
    one k.number (Ok x.0) (Err (Refused r)) (h.each k.number x.0 x.1) k.stands
one_rules s t one (Ok xs) (Err (Memory e)) h k = tt
one_rules s t one (Err (Refused q)) (Ok ys) h k =
    let there : h.number < length s.rules = slice_get_within s.rules h.number h.stands.0 h.stands.1 in
    let y = at_index ys h.number (let e = k.count in omega (arith, there, e)) in
    one h.number (Err (Refused q)) (Ok y.0) h.stands (k.each h.number y.0 y.1)
one_rules s t one (Err (Refused q)) (Err (Refused r)) h k =
    of_neither h.number k.number
    (λ e. one k.number (Err (Refused q)) (Err (Refused r)) (subst (λ i. BuildsRule s t i (Err (Refused q))) e h.stands) k.stands)
    (λ lt. let x = k.first h.number lt in one h.number (Ok x.0) (Err (Refused q)) x.1 h.stands)
    (λ lt. let x = h.first k.number lt in one k.number (Ok x.0) (Err (Refused r)) x.1 k.stands)
one_rules s t one (Err (Refused q)) (Err (Memory e)) h k = tt
one_rules s t one (Err (Memory e)) b h k = tt

-- ---- types

rules_not_both : (t : Tables) (rules : List RuleParts) (r : Refusal) → TypesRules t rules (Ok tt) → TypesRules t rules (Err r) → ⊥
rules_not_both t rules r h k = rule_not_both t k.rule r (all_at (λ p. TypesRule t p (Ok tt)) rules k.number k.rule h k.stands) k.refused

one_rules_refusal : (t : Tables) (rules : List RuleParts) (q r : Refusal) → TypesRules t rules (Err q) → TypesRules t rules (Err r) → q ≡ r
one_rules_refusal t rules q r h k =
    of_neither h.number k.number
    (λ e.
    let rule : h.rule ≡ k.rule = same_rule h.rule k.rule (sym h.stands ∙ ap (slice_get rules) e ∙ k.stands) in
    one_rule_mistyped t k.rule q r (subst (λ p. IsRuleMistyped t p q) rule h.refused) k.refused)
    (λ lt. rule_not_both t h.rule q (k.first h.number h.rule lt h.stands) h.refused) (λ lt. rule_not_both t k.rule r (h.first k.number k.rule lt k.stands) k.refused)

pub one_types : (t : Tables) (rules : List RuleParts) (n : Parts) → IsOneBy (λ (u v : Unit {0}). Unit {0}) (TypePasses t rules n)
one_types t rules n (Ok u) (Ok v) h k = tt
one_types t rules n (Ok u) (Err (Refused r)) h (inl k) = rules_not_both t rules r h.0 k
one_types t rules n (Ok u) (Err (Refused r)) h (inr k) = k.1.mistyped (h.1 k.1.wire)
one_types t rules n (Ok u) (Err (Memory e)) h k = tt
one_types t rules n (Err (Refused q)) (Ok v) (inl h) k = rules_not_both t rules q k.0 h
one_types t rules n (Err (Refused q)) (Ok v) (inr h) k = h.1.mistyped (k.1 h.1.wire)
one_types t rules n (Err (Refused q)) (Err (Refused r)) (inl h) (inl k) = one_rules_refusal t rules q r h k
one_types t rules n (Err (Refused q)) (Err (Refused r)) (inl h) (inr k) = absurd (rules_not_both t rules q k.0 h)
one_types t rules n (Err (Refused q)) (Err (Refused r)) (inr h) (inl k) = absurd (rules_not_both t rules r h.0 k)
one_types t rules n (Err (Refused q)) (Err (Refused r)) (inr h) (inr k) = one_mistyped t n q r h.1 k.1
one_types t rules n (Err (Refused q)) (Err (Memory e)) h k = tt
one_types t rules n (Err (Memory e)) b h k = tt

-- ---- steps

one_refused : (o u : OpenNet) (c : Code) (q r : Refusal) → IsOpenNet u → o ≡ u → IsRefusedAt o c q → IsRefusedAt u c r → q ≡ r
one_refused o u c q r net e h k =
    let g : IsRefusedAt u c q = subst (λ o. IsRefusedAt o c q) e h in
    same_refusal q r (g.code_is ∙ sym k.code_is) (one_stuck_place u q.place r.place net g.at k.at) (g.other ∙ sym k.other)

not_refused : (o : OpenNet) (c : Code) (d : Certificate) (r : Refusal) → IsOpenNet d.shape → o ≡ d.shape → IsCertificate d → IsRefusedAt o c r → ⊥
not_refused o c d r net e built refused = (subst (λ o. IsRefusedAt o c r) e refused).underivable (derivation_builds d.shape net d.derivation.steps built.0)

one_certificate : (c d : Certificate) → IsOpenNet d.shape → c.shape ≡ d.shape → IsCertificate c → IsCertificate d → c ≡ d
one_certificate c d net e h k =
    let steps : c.derivation.steps ≡ d.derivation.steps = derived_once d.shape (Ok c.derivation) (Ok d.derivation) net (subst (λ o. IsDerivation o c.derivation.steps × AreTaken o c.derivation.steps) e h) k in
    ap (λ z. let x : Certificate = record { shape = z; derivation = c.derivation } in x) e
    ∙ ap (λ z. let x : Certificate = record { shape = d.shape; derivation = record { steps = z } } in x) steps

-- if at most one open net has the property, there is one result
pub one_certified : (P : OpenNet → Type 0) (code : Code) → ((o : OpenNet) → P o → IsOpenNet o) → ((o u : OpenNet) → P o → P u → o ≡ u) → IsOne (CertifiesSome P code)
one_certified P code net one (Ok c) (Ok d) h k = one_certificate c d (net d.shape k.0) (one c.shape d.shape h.0 k.0) h.1 k.1
one_certified P code net one (Ok c) (Err (Refused r)) h k = not_refused k.0 code c r (net c.shape h.0) (one k.0 c.shape k.1 h.0) h.1 k.2
one_certified P code net one (Ok c) (Err (Memory e)) h k = tt
one_certified P code net one (Err (Refused q)) (Ok d) h k = not_refused h.0 code d q (net d.shape k.0) (one h.0 d.shape h.1 k.0) k.1 h.2
one_certified P code net one (Err (Refused q)) (Err (Refused r)) h k = one_refused h.0 k.0 code q r (net k.0 k.1) (one h.0 k.0 h.1 k.1) h.2 k.2
one_certified P code net one (Err (Refused q)) (Err (Memory e)) h k = tt
one_certified P code net one (Err (Memory e)) b h k = tt

abbrev pub AllOne : RulesProperty
AllOne t rules = (i : ℕ) (p : RuleParts) → slice_get rules i ≡ Some p → IsOne (CertifiesRule t p)

pub one_rules_steps : (t : Tables) (rules : List RuleParts) → AllOne t rules → IsOne (CertifiesRules t rules)
one_rules_steps t rules one (Ok cs) (Ok ds) h k = by_elements cs ds (h.count ∙ sym k.count) (λ i c d is at. at_rule i c d is at)
  where
    at_rule : (i : ℕ) (c d : Certificate) → slice_get cs i ≡ Some c → slice_get ds i ≡ Some d → c ≡ d
    at_rule i c d is at =
        let lt = slice_get_within cs i c is in
        let p = at_index rules i (let e = h.count in omega (arith, lt, e)) in
        one i p.0 p.1 (Ok c) (Ok d) (h.each i p.0 c p.1 is) (k.each i p.0 d p.1 at)
one_rules_steps t rules one (Ok cs) (Err (Refused r)) h k =
    let lt = slice_get_within rules k.number k.rule k.stands in
    let c = at_index cs k.number (let e = h.count in omega (arith, lt, e)) in
    one k.number k.rule k.stands (Ok c.0) (Err (Refused r)) (h.each k.number k.rule c.0 k.stands c.1) k.refused
one_rules_steps t rules one (Ok cs) (Err (Memory e)) h k = tt
one_rules_steps t rules one (Err (Refused q)) (Ok ds) h k =
    let lt = slice_get_within rules h.number h.rule h.stands in
    let d = at_index ds h.number (let e = k.count in omega (arith, lt, e)) in
    one h.number h.rule h.stands (Err (Refused q)) (Ok d.0) h.refused (k.each h.number h.rule d.0 h.stands d.1)
one_rules_steps t rules one (Err (Refused q)) (Err (Refused r)) h k =
    of_neither h.number k.number
    (λ e.
    let rule : h.rule ≡ k.rule = same_rule h.rule k.rule (sym h.stands ∙ ap (slice_get rules) e ∙ k.stands) in
    one k.number k.rule k.stands (Err (Refused q)) (Err (Refused r)) (subst (λ p. CertifiesRule t p (Err (Refused q))) rule h.refused) k.refused)
    (λ lt. let c = k.first h.number h.rule lt h.stands in one h.number h.rule h.stands (Ok c.0) (Err (Refused q)) c.1 h.refused)
    (λ lt. let c = h.first k.number k.rule lt k.stands in one k.number k.rule k.stands (Ok c.0) (Err (Refused r)) c.1 k.refused)
one_rules_steps t rules one (Err (Refused q)) (Err (Memory e)) h k = tt
one_rules_steps t rules one (Err (Memory e)) b h k = tt
