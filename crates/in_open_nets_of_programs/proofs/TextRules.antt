-- The rule of a text is whole.
use Rattle.std.proofs.Common.{◌≡◌, ◌≢◌, ◌≤◌, ◌+◌, Bool, true, false, not, cond, nat_eq, Ok, length, length-append, sym, ap, inl, inr, ◌∙◌, arith}
use Rattle.std.proofs.lemmas.Bool.Decides.{eqb_tells}
use Rattle.std.proofs.lemmas.List.{length-map}
use Rattle.in_syntax.specs.declared.tree.SourceRule.{SourceRule}
use Rattle.in_syntax.specs.declared.symbol_no.SymbolNo.{SymbolNo}
use Rattle.in_symbols.specs.Tables.{Tables, arity_of}
use Rattle.in_symbols.proofs.Public.{same_symbol}
use Rattle.in_net.specs.declared.nets.FreeEnd.{FreeEnd}
use Rattle.in_syntax.specs.TextLimits.{max_member_agents, most_member_agents}
use Rattle.in_syntax.specs.declared.text_limits.TextLimits.{TextLimits}
use Rattle.in_syntax.proofs.Public.{member_agents_few}
use Rattle.in_net.specs.Rules.{RuleParts, IsRuleOf, BuildsRuleOf, types_from, auxiliary_types, body_of_rule, heads_of, written_of}
use Rattle.in_net.specs.Rules as rules_of
use Rattle.in_open_nets_of_programs.specs.OpeningRules.{is_turned, IsRuleWhole}
use Rattle.in_open_nets_of_programs.proofs.Counted.{cells_there}
use Rattle.in_net.proofs.Public.{few_agents, types_many}

same_pair : (x y u v : SymbolNo) → x ≡ u → y ≡ v → ◌≡◌ {A = SymbolNo × SymbolNo} (x, y) (u, v)
same_pair x y u v e f = ap (λ (z : SymbolNo). (z, y)) e ∙ ap (λ (z : SymbolNo). (u, z)) f

-- the heads are turned if the first one isn't the one that is written first
pick : (heads written : SymbolNo × SymbolNo) (b : Bool) → heads ≡ cond b (written.1, written.0) written → heads ≡ cond (not (nat_eq heads.0.0 written.0.0)) (written.1, written.0) written
pick heads written b e = elim (eqb_tells heads.0.0 written.0.0) [
  | inl h ↦ same b e h.1 ∙ sym (ap (λ z. cond (not z) (written.1, written.0) written) h.0)
  | inr h ↦ other b e h.1 ∙ sym (ap (λ z. cond (not z) (written.1, written.0) written) h.0)
]
  where
    same : (b : Bool) → heads ≡ cond b (written.1, written.0) written → heads.0.0 ≡ written.0.0 → heads ≡ written
    same true e h =
        let k : written.1.0 ≡ written.0.0 = sym (ap (λ (z : SymbolNo × SymbolNo). z.0.0) e) ∙ h in
        e ∙ same_pair written.1 written.0 written.0 written.1 (same_symbol written.1 written.0 k) (same_symbol written.0 written.1 (sym k))
    same false e h = e

    other : (b : Bool) → heads ≡ cond b (written.1, written.0) written → heads.0.0 ≢ written.0.0 → heads ≡ (written.1, written.0)
    other true e h = e
    other false e h = absurd (h (ap (λ (z : SymbolNo × SymbolNo). z.0.0) e))

pub rule_whole : (limits : TextLimits) (t : Tables) (r : SourceRule) (p : RuleParts) → BuildsRuleOf limits t r (Ok p) → IsRuleWhole t p
rule_whole limits t r p h = record { heads = heads; ends = ends; there = cells_there t _ p.member.cells of.member.agents.agents; few = few }
  where
    of : IsRuleOf t r p
    of = h.1

    heads : p.heads ≡ cond (is_turned p) (p.written.1, p.written.0) p.written
    heads = pick p.heads p.written (rules_of.is_turned t (rules_of.symbol_of t r.first) (rules_of.symbol_of t r.second)) (of.heads ∙ ap (λ (w : SymbolNo × SymbolNo). cond (rules_of.is_turned t (rules_of.symbol_of t r.first) (rules_of.symbol_of t r.second)) (w.1, w.0) w) (sym of.written))

    ends : length p.member.free ≡ arity_of t p.heads.0.0 + arity_of t p.heads.1.0
    ends =
        let a = length-map p.member.free (λ (f : FreeEnd). f.kind) in
        let b = ap length of.member.types in
        let c = length-append (auxiliary_types t (heads_of t r).0.0) (auxiliary_types t (heads_of t r).1.0) in
        let d = types_many t (heads_of t r).0.0 1 (arity_of t (heads_of t r).0.0) in
        let e = types_many t (heads_of t r).1.0 1 (arity_of t (heads_of t r).1.0) in
        let f : arity_of t p.heads.0.0 ≡ arity_of t (heads_of t r).0.0 = ap (λ (z : SymbolNo × SymbolNo). arity_of t z.0.0) of.heads in
        let g : arity_of t p.heads.1.0 ≡ arity_of t (heads_of t r).1.0 = ap (λ (z : SymbolNo × SymbolNo). arity_of t z.1.0) of.heads in
        omega arith

    few : length p.member.cells ≤ most_member_agents
    few = omega (arith, few_agents (max_member_agents limits) t (body_of_rule t r) p.member.cells h.2 of.member.agents.agents, member_agents_few limits)
