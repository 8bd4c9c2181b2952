use Rattle.std.proofs.Common.{List, ◌++◌, map, reverse, sym, ap, ◌∙◌}
use Rattle.in_net.specs.declared.nets.AgentNo.{AgentNo}
use Rattle.in_interaction.specs.Queues.{numbers_of}
use Rattle.in_interaction.proofs.Public.{one_made_over_ends}
use Rattle.in_cells.proofs.laws.pairs_are_added_once.Goals as goal

pub returns : goal.returns
returns c = λ t x old new other one two.
    one.1 ∙ ap (λ (qs : List (AgentNo × AgentNo)). old ++ map numbers_of (reverse qs)) (one_made_over_ends t x.net x.rule x.one x.two x.name one.0 two.0 one.2 two.2) ∙ sym two.1
