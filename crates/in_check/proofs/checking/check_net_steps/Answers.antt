use Rattle.in_open_nets_of_programs.proofs.Public.{tables_numbered, text_net_there}
use Rattle.in_check.proofs.checking.check_net_steps.Goals as goal

pub certify_net-requires-clause-there : goal.certify_net-requires-clause-there
certify_net-requires-clause-there c = text_net_there c.args.declared.symbols c.requires.source.net c.args.declared.net c.requires.builds.1

pub certify_net-requires-clause-numbered : goal.certify_net-requires-clause-numbered
certify_net-requires-clause-numbered c = tables_numbered c.requires.source c.args.declared.symbols c.requires.tabulates.0
