use Rattle.in_reducer.proofs.Steps.Found as found
use Rattle.in_reducer.proofs.reducer.Reducer.template_by.Goals as goal

pub of-requires : goal.of-requires
of-requires c =
    let h = c.requires.1 in
    found.is_there c.args.self.now c.pairs.ensures.reducer c.args.number h.pair h.stands c.args.templates.now c.requires.0 c.args.heads.0 c.args.heads.1 h.one h.two

pub returns : goal.returns
returns c =
    let h = c.requires.1 in
    found.is_template c.args.self.now c.pairs.ensures.reducer c.args.number h.pair h.stands c.args.templates.now c.requires.0 c.args.heads.0 c.args.heads.1 h.one h.two c.of.result.now c.of.ensures
