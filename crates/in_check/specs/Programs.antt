-- An accepted program, and what certifies it.
use Rattle.std.specs.Prelude.{◌<◌, List, length, slice_get, Option, Some, is_some, count_by}
use Rattle.in_symbols.specs.Tables.{Tables}
use Rattle.in_net.specs.Parts.{Parts}
use Rattle.in_net.specs.Rules.{RuleParts}
use Rattle.in_cover.specs.Table.{Cells}
use Rattle.in_check.specs.declared.checked.Certificate.{Certificate}
use Rattle.in_check.specs.declared.checked.ProgramCounts.{ProgramCounts}
use Rattle.in_check.specs.declared.checked.Item.{Item}
use Rattle.in_check.specs.declared.checked.Item.TheVariants.{RuleItem, NetItem}

-- its tables, its rules and its net, and the numbers of the rules by their symbols
pub record Program : Type 0 where
  pub tables : Tables
  pub rules : List RuleParts
  pub net : Parts
  pub numbers : Cells

-- a program, and an open net with its steps for each rule and for the net
pub record Certified : Type 0 where
  pub program : Program
  pub rule_certificates : List Certificate
  pub net_certificate : Certificate

-- the item is the net, or a rule of the program
abbrev pub IsItemOf : Program → Item → Type 0
IsItemOf p (RuleItem k) = k.0 < length p.rules
IsItemOf p NetItem = Unit {0}

abbrev pub certificate_of : Certified → Item → Option Certificate
certificate_of c (RuleItem k) = slice_get c.rule_certificates k.0
certificate_of c NetItem = Some c.net_certificate

-- the numbers of types and symbols of the tables, of rules, and of agents of the net
abbrev pub counts_of : Program → ProgramCounts
counts_of p = record { types = length p.tables.types; symbols = length p.tables.names; rules = length p.rules; agents = count_by is_some p.net.cells }
