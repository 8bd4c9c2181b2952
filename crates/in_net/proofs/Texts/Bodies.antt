-- The bodies of a net and of a rule are ready to be read.
use Rattle.std.proofs.Common.{◌≡◌, ◌≢◌, ◌⊎◌, inl, inr, ℕ, zero, suc, ◌+◌, ◌-◌, ◌<◌, ◌≤◌, Bool, true, false, cond, List, [], ◌∷◌, length, Option, Some, None, IsSome, slice_get, unwrap_or, subst, arith}
use Rattle.std.proofs.lemmas.Bool.{eqb-true, and_parts, cases_lt}
use Rattle.in_syntax.specs.declared.tree.Source.{Source}
use Rattle.in_syntax.specs.declared.tree.SourceRule.{SourceRule}
use Rattle.in_syntax.specs.Order.{IsWrittenInOrder, IsRuleInOrder}
use Rattle.in_syntax.specs.Sizes.{IsSized, names_in_rule, names_in_rules}
use Rattle.in_symbols.specs.Faults.{IsFaultless}
use Rattle.in_symbols.specs.Names.{number_in}
use Rattle.in_symbols.specs.Tables.{Tables, IsTabled, IsRuleKnown, arity_of}
use Rattle.in_net.specs.Arities.{fits_arity, all_arities_fit}
use Rattle.in_net.specs.Rules.{symbol_of, is_turned, body_of_rule, IsReadable}
use Rattle.in_net.proofs.Texts.Small.{are_small}
use Rattle.in_net.specs.TextNet.{Body, body_of, heads_at}
use Rattle.in_net.proofs.Refusals.FirstFault.{IsReady}
use Rattle.in_net.proofs.Texts.Known.{net_known, rule_known, free_differ}
use Rattle.in_net.proofs.Texts.NetRead.{AreHeadsOf}
use Rattle.in_net.proofs.Texts.Order.{net_rises, rule_rises, rule_order}
use Rattle.in_net.proofs.Texts.ReadFrom.{IsFew}
use Rattle.in_base.proofs.Each.{all_at}
use Rattle.in_syntax.proofs.Public.{free_few, text_few}

-- ---- a net

pub net_ready : (source : Source) (t : Tables) → IsTabled source t → IsFaultless source → IsWrittenInOrder source → IsReady t (body_of source.net)
net_ready source t tabled faultless order = record { known = net_known source t tabled; rises = net_rises source.net order.net; order = order.net; differ = free_differ source faultless }

pub net_few : (source : Source) (t : Tables) → IsSized source → IsFew t (body_of source.net)
net_few source t sized = (let f = sized.free in omega (arith, f, free_few source.limits), let n = sized.names in omega (arith, n, text_few source.limits))

pub net_heads : (t : Tables) (source : Source) → AreHeadsOf t (body_of source.net)
net_heads t source = record { apart = tt; inside = λ i w. omega (arith, w); covered = λ i lt. omega (arith, lt) }

-- ---- a rule

pub rule_ready : (t : Tables) (r : SourceRule) → IsRuleKnown t.names r → IsRuleInOrder r → IsReady t (body_of_rule t r)
rule_ready t r known order =
    let c = symbol_of t r.first in
    let d = symbol_of t r.second in
    let first : ℕ = cond (is_turned t (symbol_of t r.first) (symbol_of t r.second)) (arity_of t (symbol_of t r.second)) 0 in
    let second : ℕ = cond (is_turned t (symbol_of t r.first) (symbol_of t r.second)) 0 (arity_of t (symbol_of t r.first)) in
    record { known = rule_known t r first second known; rises = rule_rises r first second order; order = rule_order r order; differ = λ k l f g is_f is_g e. absurd (let wrong : None ≡ Some f = is_f in cc) }

terms_fit : (t : Tables) (o : Option ℕ) (n : ℕ) → IsSome o → fits_arity t o n ≡ true → n ≡ arity_of t (unwrap_or o 0)
terms_fit t None n some fits = cc
terms_fit t (Some s) n some fits = eqb-true n (arity_of t s) fits

-- each head has as many terms as its symbol has auxiliary places, one for each of its ends
module _ (t : Tables) (r : SourceRule) (known : IsRuleKnown t.names r) (fits : all_arities_fit t (body_of_rule t r) ≡ true) where
  abbrev c : ℕ
  c = symbol_of t r.first

  abbrev d : ℕ
  d = symbol_of t r.second

  abbrev b : Body
  b = body_of_rule t r

  one_fits : length r.first.terms ≡ arity_of t (symbol_of t r.first)
  one_fits =
      let both = and_parts _ _ (and_parts _ _ fits).0 in
      terms_fit t (number_in r.first.name.text t.names) (length r.first.terms) known.0.0 (and_parts _ _ both.0).0

  other_fits : length r.second.terms ≡ arity_of t (symbol_of t r.second)
  other_fits =
      let both = and_parts _ _ (and_parts _ _ (and_parts _ _ fits).0).1 in
      terms_fit t (number_in r.second.name.text t.names) (length r.second.terms) known.1.0 (and_parts _ _ both.0).0

  -- for either head with the first ends
  ends_by : (turned : Bool) → AreHeadsOf t (record { free = []; heads = heads_at r (cond turned (arity_of t d) 0) (cond turned 0 (arity_of t c)); equations = r.equations })
  ends_by true = record {
    apart = (apart, (λ i j w. absurd (omega (arith, w)), tt));
    inside = inside;
    covered = covered;
  }
    where
      apart : (i j : ℕ) → ((x : ℕ) × (x < length r.second.terms) × (i ≡ 0 + x)) ⊎ (i < 0) → j < length r.first.terms → i ≢ arity_of t d + j
      apart i j (inl (x, lt, e)) less same = absurd (omega (arith, lt, e, less, same, other_fits))
      apart i j (inr w) less same = absurd (omega (arith, w))

      inside : (i : ℕ) → ((j : ℕ) × (j < length r.first.terms) × (i ≡ arity_of t d + j)) ⊎ (((x : ℕ) × (x < length r.second.terms) × (i ≡ 0 + x)) ⊎ (i < 0)) → i < 0 + (arity_of t c + (arity_of t d + 0))
      inside i (inl (j, lt, e)) = omega (arith, lt, e, one_fits)
      inside i (inr (inl (x, lt, e))) = omega (arith, lt, e, other_fits)
      inside i (inr (inr w)) = absurd (omega (arith, w))

      covered : (i : ℕ) → i < 0 + (arity_of t c + (arity_of t d + 0)) → ((j : ℕ) × (j < length r.first.terms) × (i ≡ arity_of t d + j)) ⊎ (((x : ℕ) × (x < length r.second.terms) × (i ≡ 0 + x)) ⊎ (i < 0))
      covered i lt = by_side (cases_lt i (arity_of t d))
        where
          by_side : (i < arity_of t d) ⊎ (arity_of t d ≤ i) → ((j : ℕ) × (j < length r.first.terms) × (i ≡ arity_of t d + j)) ⊎ (((x : ℕ) × (x < length r.second.terms) × (i ≡ 0 + x)) ⊎ (i < 0))
          by_side (inl x) = inr (inl (i, omega (arith, x, other_fits), omega arith))
          by_side (inr x) = inl (i - arity_of t d, omega (arith, x, lt, one_fits), omega (arith, x))
  ends_by false = record {
    apart = (apart, (λ i j w. absurd (omega (arith, w)), tt));
    inside = inside;
    covered = covered;
  }
    where
      apart : (i j : ℕ) → ((x : ℕ) × (x < length r.second.terms) × (i ≡ arity_of t c + x)) ⊎ (i < 0) → j < length r.first.terms → i ≢ 0 + j
      apart i j (inl (x, lt, e)) less same = absurd (omega (arith, lt, e, less, same, one_fits))
      apart i j (inr w) less same = absurd (omega (arith, w))

      inside : (i : ℕ) → ((j : ℕ) × (j < length r.first.terms) × (i ≡ 0 + j)) ⊎ (((x : ℕ) × (x < length r.second.terms) × (i ≡ arity_of t c + x)) ⊎ (i < 0)) → i < 0 + (arity_of t c + (arity_of t d + 0))
      inside i (inl (j, lt, e)) = omega (arith, lt, e, one_fits)
      inside i (inr (inl (x, lt, e))) = omega (arith, lt, e, other_fits)
      inside i (inr (inr w)) = absurd (omega (arith, w))

      covered : (i : ℕ) → i < 0 + (arity_of t c + (arity_of t d + 0)) → ((j : ℕ) × (j < length r.first.terms) × (i ≡ 0 + j)) ⊎ (((x : ℕ) × (x < length r.second.terms) × (i ≡ arity_of t c + x)) ⊎ (i < 0))
      covered i lt = by_side (cases_lt i (arity_of t c))
        where
          by_side : (i < arity_of t c) ⊎ (arity_of t c ≤ i) → ((j : ℕ) × (j < length r.first.terms) × (i ≡ 0 + j)) ⊎ (((x : ℕ) × (x < length r.second.terms) × (i ≡ arity_of t c + x)) ⊎ (i < 0))
          by_side (inl x) = inl (i, omega (arith, x, one_fits), omega arith)
          by_side (inr x) = inr (inl (i - arity_of t c, omega (arith, x, lt, other_fits), omega (arith, x)))

  pub rule_heads : AreHeadsOf t (body_of_rule t r)
  rule_heads = ends_by (is_turned t (symbol_of t r.first) (symbol_of t r.second))

-- a rule is one of the program's
pub rule_names : (rs : List SourceRule) (r : SourceRule) (i : ℕ) → slice_get rs i ≡ Some r → names_in_rule r ≤ names_in_rules rs
rule_names [] r i e = absurd (let wrong : None ≡ Some r = e in cc)
rule_names (x ∷ rs) r zero e = let same : x ≡ r = cc in subst (λ z. names_in_rule z ≤ names_in_rules (x ∷ rs)) same (omega arith)
rule_names (x ∷ rs) r (suc i) e = let less = rule_names rs r i e in omega (arith, less)

pub rule_few : (t : Tables) (r : SourceRule) → IsReadable t r → IsFew t (body_of_rule t r)
rule_few t r read =
    let a = read.small (symbol_of t r.first) in
    let b = read.small (symbol_of t r.second) in
    let few = read.few in
    (omega (arith, a, b), omega (arith, few))

-- a rule of a program is readable
pub readable : (source : Source) (t : Tables) (r : SourceRule) (i : ℕ) → IsSized source → IsWrittenInOrder source → IsTabled source t → slice_get source.rules i ≡ Some r → IsReadable t r
readable source t r i sized order tabled is = record {
  known = all_at (IsRuleKnown t.names) source.rules i r tabled.rules is;
  order = all_at IsRuleInOrder source.rules i r order.rules is;
  few = let less = rule_names source.rules r i is in let few = sized.heads in omega (arith, less, few, text_few source.limits);
  small = are_small source t sized tabled;
}
