-- The checker's result on rules and nets in usual braces.
use Rattle.std.proofs.Common.{◌≡◌, ◌↔◌, ℕ, List, slice_get, Some, sym, ap, ◌∙◌, arith}
use Rattle.std.specs.Prelude.{Ok, ◌++◌}
use Rattle.std.proofs.lemmas.Option.{slice_get_within}
use Rattle.in_syntax.specs.declared.symbol_no.SymbolNo.{SymbolNo}
use Rattle.in_symbols.specs.Tables.{Tables}
use Rattle.in_net.specs.Parts.{Parts}
use Rattle.in_net.specs.Rules.{RuleParts, auxiliary_types}
use Rattle.in_typing.specs.Typed.{TypesRule}
use Rattle.in_open_nets.specs.OpenNets.{OpenNet, IsDerivable}
use Rattle.in_open_nets.proofs.Public.{derivation_builds}
use Rattle.in_open_nets_of_programs.specs.Opening.{AreNumbered, Opens}
use Rattle.in_open_nets_of_programs.specs.OpeningRules.{OpensRule}
use Rattle.in_open_nets_of_programs.proofs.Public.{is_open_net, rule_whole, rules_open, tables_numbered}
use Rattle.in_base.proofs.Each.{all_at, at_index}
use Rattle.in_check.specs.Checking.{IsAccepted, IsProgramOf, BuildsRules, TypesAll}
use Rattle.in_check.specs.Programs.{Program}
use Rattle.in_symbols.specs.Tables.{Tabulates}
use Rattle.in_net.specs.Built.{Builds}
use Rattle.in_syntax.specs.declared.tree.Source.{Source}
use Rattle.in_check.proofs.Public.{program_of}
use Rattle.in_usual_braces_of_programs.specs.Laws.{HasNoDirectedCircle, NetsDecide, RightMembersDecide}
use Rattle.in_usual_braces_of_programs.specs.Signs.{AreUsual}
use Rattle.in_syntax.specs.declared.text_limits.TextLimits.{TextLimits}

module _ (source : Source) (t : Tables) (rules : List RuleParts) (n : Parts) (tabulates : Tabulates source (Ok t)) (builds_rules : BuildsRules source t (Ok rules)) (builds : Builds source t (Ok n)) (fits : TypesAll t rules n (Ok tt)) where
  numbered : AreNumbered t
  numbered = tables_numbered source t tabulates.0

  pub rule_in_text : RightMembersDecide → AreUsual t → (i : ℕ) (p : RuleParts) (o : OpenNet) → slice_get rules i ≡ Some p → OpensRule t p o → IsDerivable o ↔ HasNoDirectedCircle t p.member
  rule_in_text law usual i p o e opens =
      let b = builds_rules.each i p e in
      let of = b.2.1 in
      let over = b.2.0 in
      let typed = all_at (λ p. TypesRule t p (Ok tt)) rules i p fits.0 e in
      law t p o numbered (rule_whole source.limits t b.0 p b.2) of.member.whole over
      (of.member.types ∙ ap (λ (h : SymbolNo × SymbolNo). auxiliary_types t h.0.0 ++ auxiliary_types t h.1.0) (sym of.heads)) typed.1 opens usual

  pub net_in_text : NetsDecide → AreUsual t → (o : OpenNet) → Opens t n o → IsDerivable o ↔ HasNoDirectedCircle t n
  net_in_text law usual o opens = law t n o numbered builds.1.whole builds.0 fits.1 opens usual

module _ (limits : TextLimits) (text : List ℕ) (p : Program) (accepted : IsAccepted limits text p) (members : RightMembersDecide) (nets : NetsDecide) (usual : AreUsual p.tables) where
  a : IsProgramOf limits text p
  a = program_of limits text p accepted

  pub rules_accepted : (i : ℕ) (r : RuleParts) → slice_get p.rules i ≡ Some r → HasNoDirectedCircle p.tables r.member
  rules_accepted i r e =
      let b = a.builds_rules.each i r e in
      let c = at_index a.rule_certificates i (omega (arith, slice_get_within p.rules i r e, a.simple_rules.count)) in
      let k = a.simple_rules.each i r c.0 e c.1 in
      let open_net = rules_open p.tables r c.0.shape (tables_numbered a.source p.tables a.tabulates.0) (rule_whole a.source.limits p.tables b.0 r b.2) b.2.1.member.whole b.2.0 k.0 in
      (rule_in_text a.source p.tables p.rules p.net a.tabulates a.builds_rules a.builds a.fits members usual i r c.0.shape e k.0).0 (derivation_builds c.0.shape open_net c.0.derivation.steps k.1.0)

  pub net_accepted : HasNoDirectedCircle p.tables p.net
  net_accepted =
      let k = a.simple_net in
      let open_net = is_open_net p.tables p.net a.net_certificate.shape (tables_numbered a.source p.tables a.tabulates.0) a.builds.1.whole a.builds.0 k.0 in
      (net_in_text a.source p.tables p.rules p.net a.tabulates a.builds_rules a.builds a.fits nets usual a.net_certificate.shape k.0).0 (derivation_builds a.net_certificate.shape open_net a.net_certificate.derivation.steps k.1.0)
