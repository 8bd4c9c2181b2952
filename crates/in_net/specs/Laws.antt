-- Laws over the definitions of a net.
use Rattle.std.specs.Prelude.{◌≡◌, ◌≢◌, ℕ, List, length, Option, Some, Ok}
use Rattle.in_syntax.specs.declared.tree.Source.{Source}
use Rattle.in_syntax.specs.Parsing.{IsOfText}
use Rattle.in_syntax.specs.declared.tree.SourceNet.{SourceNet}
use Rattle.in_net.specs.ActivePairs.{IsActivePair, JoinsAgents}
use Rattle.in_net.specs.declared.nets.AgentNo.{AgentNo}
use Rattle.in_net.specs.declared.nets.Cell.{Cell}
use Rattle.in_net.specs.declared.nets.Wire.{Wire}
use Rattle.in_net.specs.declared.nets.Point.{Point}
use Rattle.in_net.specs.Rules.{BuildsRule}
use Rattle.in_symbols.specs.Tables.{Tables, Tabulates}
use Rattle.in_syntax.specs.Answers.{IsOne}
use Rattle.in_net.specs.Built.{IsOver, Builds}
use Rattle.in_net.specs.Nets.{IsNet, net_of, signature_of}
use Rattle.in_net.specs.Parts.{Parts, IsWhole, IsPointOf, partner_in, symbol_in, free_type_in, free_name_in}
use Rattle.in_net.specs.Renewing.{IsRenewed}
use Rattle.in_net.specs.TextNet.{IsNetOf, spot_at}

-- the partner of a point's partner is the point, and no point is its own partner
abbrev pub PartnersLeadBack : Type 0
PartnersLeadBack = (n : Parts) (p q : Point) → IsWhole n → partner_in n p ≡ Some q → (partner_in n q ≡ Some p) × (p ≢ q)

-- whole parts over tables are a net over the tables' signature
abbrev pub WholePartsAreNets : Type 0
WholePartsAreNets = (t : Tables) (n : Parts) → IsWhole n → IsOver t n → IsNet (signature_of t) (net_of n)

-- each point of the second net is one of the first
abbrev pub HasPointsOf : Parts → Parts → Type 0
HasPointsOf m n = (p : Point) → IsPointOf n p → IsPointOf m p

-- two nets of one text have the same agents, points, places and free ends, and a point leads to the same spot of the text in both
pub record AreOneNet (n m : Parts) : Type 0 where
  pub points : HasPointsOf m n
  pub symbols : (x : ℕ) → symbol_in n x ≡ symbol_in m x
  pub places : n.places ≡ m.places
  pub types : (k : ℕ) → free_type_in n k ≡ free_type_in m k
  pub names : (k : ℕ) → free_name_in n k ≡ free_name_in m k
  pub partners : (p x y : Point) → partner_in n p ≡ Some x → partner_in m p ≡ Some y → spot_at n x ≡ spot_at m y

abbrev pub TextNetsAreOne : Type 0
TextNetsAreOne = (t : Tables) (text : SourceNet) (n m : Parts) → IsNetOf t text n → IsNetOf t text m → AreOneNet n m

-- ---- one result

-- all results that building the net of a text's program may have agree: nets are equal, with the numbers and places of their wires
abbrev pub NetsAreBuiltOnce : Type 0
NetsAreBuiltOnce = (s : Source) (t : Tables) → IsOfText s → Tabulates s (Ok t) → IsOne (Builds s t)

-- .. and all results of building a rule of it agree
abbrev pub RulesAreBuiltOnce : Type 0
RulesAreBuiltOnce = (s : Source) (t : Tables) (i : ℕ) → IsOfText s → Tabulates s (Ok t) → IsOne (BuildsRule s t i)

-- a wire joins at most one active pair
abbrev pub WiresJoinOnePair : Type 0
WiresJoinOnePair = (t : Tables) (n : Parts) (w : ℕ) (p q : AgentNo × AgentNo) → IsActivePair t n p → IsActivePair t n q → JoinsAgents n w p → JoinsAgents n w q → p ≡ q

-- .. and all results of renewing a net agree
abbrev pub NetsAreRenewedOnce : Type 0
NetsAreRenewedOnce = (old n m : Parts) (cells : List (Option Cell)) (ends : List Point) (wires : List Wire) → length ends ≡ length old.free → IsRenewed old cells ends wires n → IsRenewed old cells ends wires m → n ≡ m
