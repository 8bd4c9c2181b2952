-- Of two agents whose principal ports are joined, in a net that is as promised, one is a constructor and the other isn't.
use Rattle.std.proofs.Common.{◌≡◌, ◌⊎◌, inl, inr, true, false, Option, Some, sym, ap, ◌∙◌}
use Rattle.std.specs.Prelude.{option_map}
use Rattle.in_symbols.specs.Tables.{is_constructor}
use Rattle.in_syntax.specs.declared.symbol_no.SymbolNo.{SymbolNo}
use Rattle.in_net.specs.declared.nets.AgentNo.{AgentNo}
use Rattle.in_net.specs.declared.nets.Point as coded
use Rattle.in_net.specs.ActivePairs.{AreActive, StandsFirst, IsActivePair}
use Rattle.in_net.specs.Nets.{net_of, point_of, signature_of}
use Rattle.in_net.specs.Parts.{Parts, symbol_in}
use Rattle.in_check.specs.Plain.{IsPairAt}
use Rattle.in_check.specs.Programs.{Program}
use Rattle.in_check.specs.Promises.{IsAsPromised}
use Rattle.in_check.specs.Systems.{IsMatching, system_of}

module _ (p : Program) (n : Parts) (promised : IsAsPromised (system_of p) (net_of n)) (a b : AgentNo) (c d : SymbolNo) (one : symbol_in n a.0 ≡ Some c) (two : symbol_in n b.0 ≡ Some d) (active : AreActive n a b) where
  matched : IsMatching (signature_of p.tables) c.0 d.0 ⊎ IsMatching (signature_of p.tables) d.0 c.0
  matched = elim (promised.one_rule a.0 b.0 c.0 d.0 (ap (λ (o : Option SymbolNo). option_map (λ (s : SymbolNo). s.0) o) one) (ap (λ (o : Option SymbolNo). option_map (λ (s : SymbolNo). s.0) o) two) (ap (λ (o : Option coded.Point). option_map point_of o) active)) [
    | inl h ↦ inl h.0
    | inr h ↦ inr h.0
  ]

  -- if the first is a constructor, it is first
  pub stands : is_constructor p.tables c.0 ≡ true → StandsFirst p.tables c d a b
  stands e = elim matched [
    | inl m ↦ inl (e, m.1)
    | inr m ↦ absurd (let z : true ≡ false = sym e ∙ m.1 in cc)
  ]

  pub stands_other : is_constructor p.tables c.0 ≡ false → StandsFirst p.tables d c b a
  stands_other e = elim matched [
    | inl m ↦ absurd (let z : true ≡ false = sym m.0 ∙ e in cc)
    | inr m ↦ inl (m.0, e)
  ]

  -- .. and the agent that is first is a constructor
  pub constructs : StandsFirst p.tables c d a b → is_constructor p.tables c.0 ≡ true
  constructs (inl h) = h.0
  constructs (inr h) = elim matched [
    | inl m ↦ m.0
    | inr m ↦ absurd (let z : true ≡ false = sym m.0 ∙ sym h.0 ∙ m.1 in cc)
  ]

pub pair_at : (p : Program) (n : Parts) → IsAsPromised (system_of p) (net_of n) → (q : AgentNo × AgentNo) → IsActivePair p.tables n q → IsPairAt (record { program = p; net = n }) q.0 q.1
pair_at p n promised q h = record {
  first = h.first;
  second = h.second;
  one = h.one;
  two = h.two;
  active = h.active;
  constructor = constructs p n promised q.0 q.1 h.first h.second h.one h.two h.active h.order;
}
