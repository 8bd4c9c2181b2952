-- If no agent and no name of a rule is refused, its wires can be followed; and the symbols of its heads.
use Rattle.std.proofs.Common.{◌≡◌, ◌∙◌, ℕ, ◌+◌, Bool, true, false, cond, ap, sym, refl, None, arith}
use Rattle.in_syntax.specs.declared.tree.SourceRule.{SourceRule}
use Rattle.in_syntax.specs.declared.symbol_no.SymbolNo.{SymbolNo}
use Rattle.in_symbols.specs.Tables.{Tables, IsSymbol, arity_of}
use Rattle.in_net.specs.declared.reading.Reading.{Reading}
use Rattle.in_net.specs.Built.{IsReadFrom}
use Rattle.in_net.specs.Reading.{reading_of}
use Rattle.in_net.specs.Rules.{symbol_of, is_turned, body_of_rule, written_of, heads_of, IsReadable}
use Rattle.in_net.specs.Searching.{first_fault}
use Rattle.in_net.proofs.Texts.Bodies.{rule_ready, rule_few, rule_heads}
use Rattle.in_net.proofs.Refusals.FirstFault.{none_misfit, none_miscounted}
use Rattle.in_net.proofs.Texts.NetRead.{ends_in}
use Rattle.in_net.proofs.Texts.ReadFrom as read_from
use Rattle.in_net.proofs.Wiring.TextWires.{IsGood, read}
use Rattle.in_syntax.specs.TextLimits.{max_member_agents}
use Rattle.in_syntax.specs.declared.text_limits.TextLimits.{TextLimits}

pub good : (limits : TextLimits) (t : Tables) (r : SourceRule) (q : Reading) → IsReadable t r → q ≡ reading_of t (body_of_rule t r) → None ≡ first_fault (max_member_agents limits) t (body_of_rule t r) q → IsGood t (body_of_rule t r)
good limits t r q readable is clear =
    let ready = rule_ready t r readable.known readable.order in
    let fits = none_misfit (max_member_agents limits) t (body_of_rule t r) q clear in
    record {
      ready = ready;
      small = readable.small;
      heads = rule_heads t r readable.known fits;
      fits = fits;
      twice = none_miscounted (max_member_agents limits) t (body_of_rule t r) ready (clear ∙ ap (first_fault (max_member_agents limits) t (body_of_rule t r)) is);
    }

pub from : (t : Tables) (r : SourceRule) (readable : IsReadable t r) → IsGood t (body_of_rule t r) → IsReadFrom t (ends_in t (body_of_rule t r)) (reading_of t (body_of_rule t r))
from t r readable g = read_from.read_from t (body_of_rule t r) (read t (body_of_rule t r) g) readable.small (rule_few t r readable)

-- the number of boundary ends doesn't depend on which symbol is the first
abbrev pair_by : SymbolNo → SymbolNo → Bool → SymbolNo × SymbolNo
pair_by c d turned = cond turned (d, c) (c, d)

both_arities : (t : Tables) (c d : SymbolNo) (turned : Bool) → arity_of t (pair_by c d turned).0.0 + arity_of t (pair_by c d turned).1.0 ≡ arity_of t c.0 + arity_of t d.0
both_arities t c d true = omega arith
both_arities t c d false = refl

pub both_symbols : (t : Tables) (c d : SymbolNo) (turned : Bool) → IsSymbol t c.0 → IsSymbol t d.0 → IsSymbol t (pair_by c d turned).0.0 × IsSymbol t (pair_by c d turned).1.0
both_symbols t c d true h g = (g, h)
both_symbols t c d false h g = (h, g)

-- the symbols that the code finds
module _ (t : Tables) (r : SourceRule) (c d : SymbolNo) (turned : Bool) (heads : SymbolNo × SymbolNo) (one : c.0 ≡ symbol_of t r.first) (other : d.0 ≡ symbol_of t r.second)
    (turns : turned ≡ is_turned t c.0 d.0) (are : heads ≡ cond turned (d, c) (c, d)) where
  symbol : (s : SymbolNo) (n : ℕ) → s.0 ≡ n → s ≡ record { 0 = n }
  symbol s n e = ap (λ n. let x : SymbolNo = record { 0 = n } in x) e

  pub are_written : (c, d) ≡ written_of t r
  are_written = ap (λ x. (x, d)) (symbol c (symbol_of t r.first) one) ∙ ap (λ y. let x : SymbolNo = record { 0 = symbol_of t r.first } in (x, y)) (symbol d (symbol_of t r.second) other)

  pub are_heads : heads ≡ heads_of t r
  are_heads =
      let turns_ : turned ≡ is_turned t (symbol_of t r.first) (symbol_of t r.second) = turns ∙ ap (λ x. is_turned t x d.0) one ∙ ap (is_turned t (symbol_of t r.first)) other in
      are ∙ ap (λ (w : SymbolNo × SymbolNo). cond turned (w.1, w.0) w) are_written ∙ ap (λ b. cond b ((written_of t r).1, (written_of t r).0) (written_of t r)) turns_

  pub count : ends_in t (body_of_rule t r) ≡ arity_of t heads.0.0 + arity_of t heads.1.0
  count =
      let sum = both_arities t c d turned in
      let a = ap (arity_of t) one in
      let b = ap (arity_of t) other in
      let all : ends_in t (body_of_rule t r) ≡ arity_of t (pair_by c d turned).0.0 + arity_of t (pair_by c d turned).1.0 = omega (arith, sum, a, b) in
      all ∙ ap (λ (h : SymbolNo × SymbolNo). arity_of t h.0.0 + arity_of t h.1.0) (sym are)
