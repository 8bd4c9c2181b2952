-- The known properties of a text's tables, rules and net: as much as the calls on them require.
use Rattle.std.specs.Prelude.{IsTrue}
use Rattle.in_syntax.specs.Order.{IsWrittenInOrder}
use Rattle.in_syntax.specs.Parsing.{IsOfText}
use Rattle.in_syntax.specs.Sizes.{IsSized}
use Rattle.in_symbols.specs.Tables.{Tables}
use Rattle.in_net.specs.Built.{IsOver, IsReadableNet}
use Rattle.in_net.specs.Parts.{Parts}
use Rattle.in_net.specs.Rules.{HasTypesOfHeads, IsRuleOver, RuleParts}
use Rattle.in_syntax.specs.declared.tree.Source.{Source}

-- a tree that was read
abbrev pub IsRead : Source → Type 0
IsRead s = IsOfText s × IsSized s × IsWrittenInOrder s

-- a tree that was read, with its tables
abbrev pub IsReadProgram : Source → Tables → Type 0
IsReadProgram s t = IsReadableNet s t

-- a net as built
abbrev pub IsBuilt : Tables → Parts → Type 0
IsBuilt t n = IsOver t n × IsTrue n.built

-- a rule as built
abbrev pub IsBuiltRule : Tables → RuleParts → Type 0
IsBuiltRule t r = IsRuleOver t r × HasTypesOfHeads t r
