-- The lemmas that proofs of other crates cite. They import this module alone, so all others may be renamed and cut anew.
pub use Rattle.in_open_nets_of_programs.proofs.Classes.{class_between, of_map, tables_numbered}
pub use Rattle.in_open_nets_of_programs.proofs.Counted.{text_net_there}
pub use Rattle.in_open_nets_of_programs.proofs.OfNets.{net_circle}
pub use Rattle.in_open_nets_of_programs.proofs.OfRules.{rule_circle}
pub use Rattle.in_open_nets_of_programs.proofs.OneOpening.{by_elements, one_open_net}
pub use Rattle.in_open_nets_of_programs.proofs.Opened.{is_open_net}
pub use Rattle.in_open_nets_of_programs.proofs.RuleLaws.{no_circle, opened_once, rules_open}
pub use Rattle.in_open_nets_of_programs.proofs.RulePoints.{NodeKind, agent_within, kind_of, of_agent, of_first, of_second, place_there, same_agent, same_place}
pub use Rattle.in_open_nets_of_programs.proofs.TextRules.{rule_whole}
pub use Rattle.in_open_nets_of_programs.proofs.Opened
pub use Rattle.in_open_nets_of_programs.proofs.OpenedRules
