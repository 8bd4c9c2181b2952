use Rattle.std.proofs.Common.{sym, ◌∙◌, ap}
use Rattle.in_symbols.specs.Names.{number_in}
use Rattle.in_symbols.proofs.Maps.{number-map}
use Rattle.in_symbols.proofs.names.Names.number_of.Goals as goal

pub returns-in-Some : goal.returns-in-Some
returns-in-Some c = c.in-Some.ensures.index ∙ sym (number-map c.args.name.now c.self.inside.set.keys) ∙ ap (number_in c.args.name.now) c.self.view_is

pub returns-in-None : goal.returns-in-None
returns-in-None c = c.in-None.ensures.index ∙ sym (number-map c.args.name.now c.self.inside.set.keys) ∙ ap (number_in c.args.name.now) c.self.view_is
