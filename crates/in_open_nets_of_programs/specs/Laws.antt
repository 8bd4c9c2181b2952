-- The laws of the open nets of nets and rules, over the definitions alone.
use Rattle.std.specs.Prelude.{◌≡◌, ℕ, Ok}
use Rattle.in_base.specs.Graphs.{CrossingCircle}
use Rattle.in_syntax.specs.declared.tree.Source.{Source}
use Rattle.in_syntax.specs.declared.tree.SourceNet.{SourceNet}
use Rattle.in_syntax.specs.declared.tree.SourceRule.{SourceRule}
use Rattle.in_symbols.specs.Tables.{Tables, IsTabled}
use Rattle.in_net.specs.Built.{IsOver}
use Rattle.in_net.specs.Parts.{Parts, IsWhole}
use Rattle.in_syntax.specs.declared.text_limits.TextLimits.{TextLimits}
use Rattle.in_net.specs.Rules.{RuleParts, BuildsRuleOf, IsRuleOver}
use Rattle.in_net.specs.TextNet.{IsNetOf}
use Rattle.in_net.specs.Graphs.{graph_of}
use Rattle.in_net.specs.Interactions.{redex_at, open_member}
use Rattle.in_net.specs.Nets.{net_of, signature_of}
use Rattle.in_open_nets.specs.OpenNets.{OpenNet, IsOpenNet, IsDerivable, open_graph}
use Rattle.in_open_nets_of_programs.specs.Opening.{AreAllThere, AreNumbered, Opens}
use Rattle.in_open_nets_of_programs.specs.OpeningRules.{IsRuleWhole, OpensRule}

-- the net of a text has an agent at each of its numbers, as `open_net` requires
abbrev pub TextNetsAreAllThere : Type 0
TextNetsAreAllThere = (t : Tables) (text : SourceNet) (n : Parts) → IsNetOf t text n → AreAllThere n

-- the rule of a text is whole, as `open_rule` requires
abbrev pub TextRulesAreWhole : Type 0
TextRulesAreWhole = (limits : TextLimits) (t : Tables) (text : SourceRule) (p : RuleParts) → BuildsRuleOf limits t text (Ok p) → IsRuleWhole t p

-- the open net of a whole net over tables is an open net: each point is in exactly one wire
abbrev pub OpenNetsAreOpen : Type 0
OpenNetsAreOpen = (t : Tables) (n : Parts) (o : OpenNet) → AreNumbered t → IsWhole n → IsOver t n → Opens t n o → IsOpenNet o

-- the tables of a program number classes as its open nets require
abbrev pub TablesAreNumbered : Type 0
TablesAreNumbered = (source : Source) (t : Tables) → IsTabled source t → AreNumbered t

-- the open net of a whole rule over tables is an open net
abbrev pub OpenRulesAreOpen : Type 0
OpenRulesAreOpen = (t : Tables) (p : RuleParts) (o : OpenNet) → AreNumbered t → IsRuleWhole t p → IsWhole p.member → IsRuleOver t p → OpensRule t p o → IsOpenNet o

-- and if it is derivable, it has no crossing circle
abbrev pub DerivableRulesHaveNoCircle : Type 0
DerivableRulesHaveNoCircle = (t : Tables) (p : RuleParts) (o : OpenNet) → AreNumbered t → IsRuleWhole t p → IsWhole p.member → IsRuleOver t p → OpensRule t p o → IsDerivable o → CrossingCircle (open_graph o) → ⊥

-- ---- circles

-- a crossing circle of a net is one of its open net
abbrev pub NetCirclesAreOpen : Type 0
NetCirclesAreOpen = (t : Tables) (n : Parts) (o : OpenNet) → AreNumbered t → IsWhole n → IsOver t n → Opens t n o → CrossingCircle (graph_of (signature_of t) (net_of n)) → CrossingCircle (open_graph o)

-- a crossing circle of a right member with its class nodes, at any active pair, is one of the rule's open net
abbrev pub RuleCirclesAreOpen : Type 0
RuleCirclesAreOpen = (t : Tables) (p : RuleParts) (o : OpenNet) (a b : ℕ) → AreNumbered t → IsRuleWhole t p → IsWhole p.member → IsRuleOver t p → OpensRule t p o →
    CrossingCircle (open_member (signature_of t) (redex_at p a b)) → CrossingCircle (open_graph o)

-- ---- one result

-- a net has one open net
abbrev pub NetsAreOpenedOnce : Type 0
NetsAreOpenedOnce = (t : Tables) (n : Parts) (o u : OpenNet) → Opens t n o → Opens t n u → o ≡ u

-- a whole rule has one open net
abbrev pub RulesAreOpenedOnce : Type 0
RulesAreOpenedOnce = (t : Tables) (p : RuleParts) (o u : OpenNet) → IsWhole p.member → IsRuleOver t p → OpensRule t p o → OpensRule t p u → o ≡ u
