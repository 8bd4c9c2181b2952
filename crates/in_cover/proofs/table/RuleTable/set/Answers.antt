use Rattle.std.proofs.Common.{ap, set, ◌∙◌}
use Rattle.in_cover.proofs.Written.{sets_cell}
use Rattle.in_cover.proofs.table.RuleTable.set.Goals as goal

pub returns : goal.returns
returns c =
    sets_cell c.args.self.now c.self.inside.size c.args.c.0 c.args.d.0 c.word-word.result c.self.inside.words c.set.new.self c.args.rule c.self.view_is c.self.invariant c.requires.first c.requires.second
    c.word-word.ensures.number (c.set.ensures ∙ ap (set c.self.inside.words c.word-word.result) c.of.ensures)
