-- An active pair of a sound net: its rule, by which its agents can interact, and that a step at it is one.
use Rattle.std.proofs.Common.{◌≡◌, ◌++◌, ℕ, ◌<◌, ◌≤◌, true, false, List, length, Option, Some, slice_get, sym, subst, ap, inl, inr, ◌∙◌}
use Rattle.std.specs.Prelude.{option_map, count_by, is_some}
use Rattle.std.proofs.lemmas.Option.{same_Some}
use Rattle.in_syntax.specs.declared.symbol_no.SymbolNo.{SymbolNo}
use Rattle.in_symbols.specs.Tables.{port_at}
use Rattle.in_net.specs.declared.nets.AgentNo.{AgentNo}
use Rattle.in_net.specs.declared.nets.Point as coded
use Rattle.in_net.specs.Built.{IsOver}
use Rattle.in_net.specs.Interactions.{redex_at}
use Rattle.in_net.specs.Nets.{Port, net_of, signature_of, point_of}
use Rattle.in_net.specs.Parts.{Parts, IsWhole, symbol_in}
use Rattle.in_net.specs.Rules.{RuleParts, auxiliary_types}
use Rattle.in_interaction.specs.Interacting.{unused, most_agents, CanInteract, Interacts}
use Rattle.in_interaction.proofs.Public.{least_are_names, one_outcome}
use Rattle.in_symbols.proofs.Public.{same_symbol}
use Rattle.in_cover.specs.Cover.{IsPair, IsRuleOfSymbols}
use Rattle.in_check.specs.Checking.{IsAccepted, IsProgramOf}
use Rattle.in_check.specs.Programs.{Program}
use Rattle.in_check.specs.Plain.{PlainParts, StepsTo, StepsAs, IsPairAt, IsRuleAt}
use Rattle.in_check.specs.Promises.{IsAsPromised}
use Rattle.in_check.specs.Runs.{IsInteraction}
use Rattle.in_check.specs.Systems.{IsMatching, IsNumberOfRule, IsSound, IsSoundSystem, rule_in, system_of}
use Rattle.in_check.proofs.Chain.{program_of}
use Rattle.in_check.proofs.Reached.FromText.{is_matching, is_sound}
use Rattle.in_base.proofs.Places.{to_mapped}
use Rattle.in_syntax.specs.declared.text_limits.TextLimits.{TextLimits}

-- symbols and wires as numbers
symbol_is : (p : PlainParts) (x : ℕ) (s : SymbolNo) → symbol_in p.net x ≡ Some s → (net_of p.net).symbol x ≡ Some s.0
symbol_is p x s e = ap (λ (o : Option SymbolNo). option_map (λ (s : SymbolNo). s.0) o) e

active_is : (p : PlainParts) (a b : AgentNo) → IsPairAt p a b → (net_of p.net).partner (Port a.0 0) ≡ Some (Port b.0 0)
active_is p a b at = ap (λ (o : Option coded.Point). option_map point_of o) at.active

-- the two agents can interact by the rule
pub fits : (p : PlainParts) (a b : AgentNo) → IsOver p.program.tables p.net → IsPairAt p a b → (k : ℕ) (r : RuleParts) → IsRuleAt p a b k r → CanInteract p.program.tables p.net r a b
fits p a b over at k r is = record { net = over; rule = is.over; declared = is.declared; one = is.one; two = is.two; active = at.active }

-- a step is an interaction
pub acts_of : (p q : PlainParts) (a b : AgentNo) (name : ℕ → ℕ) → IsPairAt p a b → (to : StepsAs p a b name q) → IsInteraction (system_of p.program) (net_of p.net) (redex_at to.rule a.0 b.0) name (net_of q.net)
acts_of p q a b name at to = record {
  at = record {
    one = symbol_is p a.0 to.rule.heads.0 to.is_rule.one;
    two = symbol_is p b.0 to.rule.heads.1 to.is_rule.two;
    active = active_is p a b at;
    rule = (to.number, to_mapped rule_in p.program.rules to.number to.rule to.is_rule.stands);
  };
  step = to.acts.step;
}

-- one as `interact` does it is one under the least numbers
pub as_least : (p q : PlainParts) (a b : AgentNo) → IsOver p.program.tables p.net → IsPairAt p a b → StepsTo p a b q → StepsAs p a b (unused p.net.cells) q
as_least p q a b over at to = record {
  number = to.number;
  rule = to.rule;
  is_rule = to.is_rule;
  acts = least_are_names p.program.tables p.net to.rule a b q.net (fits p a b over at to.number to.rule to.is_rule) to.acts;
  program = to.program;
}

same_plain : (q r : PlainParts) → q.program ≡ r.program → q.net ≡ r.net → q ≡ r
same_plain q r e f = ap (λ (z : Program). record { program = z; net = q.net }) e ∙ ap (λ (z : Parts). record { program = r.program; net = z }) f

module _ (limits : TextLimits) (text : List ℕ) (p : PlainParts) (a b : AgentNo) (accepted : IsAccepted limits text p.program) (sound : IsSound (system_of p.program) (net_of p.net)) (promised : IsAsPromised (system_of p.program) (net_of p.net))
    (over : IsOver p.program.tables p.net) (at : IsPairAt p a b) where
  good : IsSoundSystem (system_of p.program)
  good = is_sound limits text p.program accepted

  matches : IsMatching (signature_of p.program.tables) at.first.0 at.second.0
  matches = elim (promised.one_rule a.0 b.0 at.first.0 at.second.0 (symbol_is p a.0 at.first at.one) (symbol_is p b.0 at.second at.two) (active_is p a b at)) [
    | inl r ↦ r.0
    | inr r ↦ absurd (let z : true ≡ false = sym at.constructor ∙ r.0.1 in cc)
  ]

  pub rule_at : (i : ℕ) (r : RuleParts) → slice_get p.program.rules i ≡ Some r → IsRuleOfSymbols r at.first.0 at.second.0 → IsRuleAt p a b i r
  rule_at i r e for =
      let program : IsProgramOf limits text p.program = program_of limits text p.program accepted in
      let b = program.builds_rules.each i r e in
      let heads = in_order for in
      record {
        stands = e;
        over = b.2.0;
        declared = b.2.1.member.types ∙ ap (λ (h : SymbolNo × SymbolNo). auxiliary_types p.program.tables h.0.0 ++ auxiliary_types p.program.tables h.1.0) (sym b.2.1.heads);
        one = at.one ∙ ap Some (same_symbol at.first r.heads.0 (sym heads.0));
        two = at.two ∙ ap Some (same_symbol at.second r.heads.1 (sym heads.1));
      }
    where
      in_order : IsRuleOfSymbols r at.first.0 at.second.0 → (r.heads.0.0 ≡ at.first.0) × (r.heads.1.0 ≡ at.second.0)
      in_order (inl f) = f
      in_order (inr f) =
          let m = (good.rule i (rule_in r) (to_mapped rule_in p.program.rules i r e)).matching in
          absurd (let z : true ≡ false = sym m.0 ∙ ap (λ z. (port_at p.program.tables z 0).output) f.0 ∙ matches.1 in cc)

  below : (x : ℕ) (s : SymbolNo) → symbol_in p.net x ≡ Some s → s.0 < length p.program.tables.names
  below x s e = sound.within x s.0 (symbol_is p x s e)

  pub is_pair : IsPair p.program.tables at.first.0 at.second.0
  is_pair = record { first = below a.0 at.first at.one; second = below b.0 at.second at.two; matched = is_matching p.program.tables at.first.0 at.second.0 matches }

  -- the rule of the pair is one
  is_rule_of : (i : ℕ) (r : RuleParts) → IsRuleAt p a b i r → IsNumberOfRule (system_of p.program) at.first.0 at.second.0 i
  is_rule_of i r is = (
    rule_in r,
    to_mapped rule_in p.program.rules i r is.stands,
    ap (λ (s : SymbolNo). s.0) (same_Some r.heads.0 at.first (sym is.one ∙ at.one)),
    ap (λ (s : SymbolNo). s.0) (same_Some r.heads.1 at.second (sym is.two ∙ at.two)),
  )

  same_rule : (i j : ℕ) (r s : RuleParts) → IsRuleAt p a b i r → IsRuleAt p a b j s → r ≡ s
  same_rule i j r s x y =
      let one = good.covered at.first.0 at.second.0 (below a.0 at.first at.one) (below b.0 at.second at.two) matches in
      let number : i ≡ j = one.2 i (is_rule_of i r x) ∙ sym (one.2 j (is_rule_of j s y)) in
      same_Some r s (sym x.stands ∙ ap (λ k. slice_get p.program.rules k) number ∙ y.stands)

  pub one_step : (q r : PlainParts) → count_by is_some p.net.cells ≤ most_agents → IsWhole q.net → IsWhole r.net → StepsTo p a b q → StepsTo p a b r → q ≡ r
  one_step q r few whole other x y =
      let same = same_rule x.number y.number x.rule y.rule x.is_rule y.is_rule in
      let acts = subst (λ (z : RuleParts). Interacts p.net z a b r.net) (sym same) y.acts in
      let net = one_outcome p.net x.rule a b q.net r.net ((p.program.tables, fits p a b over at x.number x.rule x.is_rule), few) whole other x.acts acts in
      same_plain q r (x.program ∙ sym y.program) net
