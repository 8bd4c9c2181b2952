-- The list of the active pairs that an interaction makes is determined.
use Rattle.std.proofs.Common.{ℕ, List, ◌++◌, map, sym, ap, ◌∙◌}
use Rattle.in_net.specs.declared.nets.AgentNo.{AgentNo}
use Rattle.in_interaction.specs.OutcomeLaws.{MadePairsAreListedOnce}
use Rattle.in_interaction.specs.Queues.{agents_at, both}
use Rattle.in_interaction.proofs.Stepping.OneOutcome.{one_made_over_ends}
use Rattle.in_interaction.proofs.Queues.FirstPairs.{same_first}

pub one_made_list : MadePairsAreListedOnce
one_made_list t n r a b name ps qs h g =
    h.listed
    ∙ ap (λ (over : List (AgentNo × AgentNo)). over ++ map (λ q. agents_at (both name q)) h.own) (one_made_over_ends t n r a b name h.over g.over h.are_over g.are_over)
    ∙ ap (λ (own : List (ℕ × ℕ)). g.over ++ map (λ q. agents_at (both name q)) own) (same_first t r.member h.own g.own h.are_own g.are_own)
    ∙ sym g.listed
