-- The agents of a machine, each once.
use Rattle.std.proofs.Common.{◌≡◌, ℕ, Option, Some, None, IsSome, is_some, option_map, option_and_then, true≢false, slice_get, refl, sym, ap, subst}
use Rattle.in_net.specs.declared.nets.Cell.{Cell}
use Rattle.in_net.specs.Nets.{net_of}
use Rattle.in_check.specs.NetText.{AreAgents}
use Rattle.in_reducer.specs.Machines.{MachineParts, parts_of}
use Rattle.in_reducer.proofs.Public.{agent_numbers, numbered, numbered_once, numbered_only}

pub cell_there : (m : MachineParts) (x : ℕ) → IsSome ((net_of (parts_of m)).symbol x) → (c : Cell) × (slice_get m.agents x ≡ Some (Some c))
cell_there m x h = by (slice_get m.agents x) refl h
  where
    shown : Option (Option Cell) → Option ℕ
    shown o = option_map (λ s. s.0) (option_map (λ c. c.symbol) (option_and_then (λ c. c) o))

    by : (o : Option (Option Cell)) → slice_get m.agents x ≡ o → IsSome (shown (slice_get m.agents x)) → (c : Cell) × (slice_get m.agents x ≡ Some (Some c))
    by None e h = absurd (none (subst (λ o. IsSome (shown o)) e h))
      where
        none : IsSome (shown None) → ⊥
        none h = true≢false (sym h)
    by (Some None) e h = absurd (none (subst (λ o. IsSome (shown o)) e h))
      where
        none : IsSome (shown (Some None)) → ⊥
        none h = true≢false (sym h)
    by (Some (Some c)) e h = (c, e)

agent_shown : (m : MachineParts) (x : ℕ) (c : Cell) → slice_get m.agents x ≡ Some (Some c) → IsSome ((net_of (parts_of m)).symbol x)
agent_shown m x c e = ap (λ o. is_some (option_map (λ s. s.0) (option_map (λ (c : Cell). c.symbol) (option_and_then (λ c. c) o)))) e

pub agents_listed : (m : MachineParts) → AreAgents (net_of (parts_of m)) (agent_numbers m.agents)
agents_listed m = record {
  all = λ x. (
    (λ h. (let c = cell_there m x h in numbered m.agents x c.0 c.1)),
    (λ h. (let r = numbered_only m.agents x h in agent_shown m x r.0 r.1)),
  );
  once = numbered_once m.agents;
}
