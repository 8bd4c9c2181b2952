-- An accepted program's net and rules are over its tables, with an agent at each number, a right member without an active pair, and
-- one rule for each pair.
use Rattle.std.proofs.Common.{◌≡◌, ℕ, List, Option, Some, slice_get, refl, sym, ap, subst, inl, ◌∙◌}
use Rattle.std.specs.Prelude.{option_map}
use Rattle.std.proofs.lemmas.Option.{same_Some}
use Rattle.in_symbols.specs.Tables.{Tables, IsSymbol}
use Rattle.in_syntax.specs.declared.symbol_no.SymbolNo.{SymbolNo}
use Rattle.in_net.specs.declared.nets.AgentNo.{AgentNo}
use Rattle.in_net.specs.Built.{IsOver, HaveFewPorts}
use Rattle.in_net.specs.Nets.{net_of}
use Rattle.in_net.specs.Parts.{Parts, IsWhole, symbol_in}
use Rattle.in_net.specs.Rules.{RuleParts, IsRuleOver}
use Rattle.in_net.proofs.Public.{are_small}
use Rattle.in_syntax.proofs.Public.{tree_sized}
use Rattle.in_cover.specs.Cover.{IsRuleFor}
use Rattle.in_open_nets_of_programs.specs.Opening.{AreAllThere}
use Rattle.in_open_nets_of_programs.proofs.Public.{text_net_there}
use Rattle.in_check.specs.Checking.{IsAccepted, IsProgramOf}
use Rattle.in_check.specs.Plain.{PlainParts, IsRuleAt}
use Rattle.in_check.specs.Programs.{Program}
use Rattle.in_check.specs.Promises.{IsAsPromised}
use Rattle.in_check.specs.Systems.{system_of}
use Rattle.in_check.proofs.Public.{program_of, is_sound, starts, promised}
use Rattle.in_compile.proofs.Public.Accepted as rules
use Rattle.in_syntax.specs.declared.text_limits.TextLimits.{TextLimits}

module _ (limits : TextLimits) (text : List ℕ) (p : Program) (accepted : IsAccepted limits text p) where
  of : IsProgramOf limits text p
  of = program_of limits text p accepted

  pub net_over : IsOver p.tables p.net
  net_over = of.builds.0

  pub net_there : AreAllThere p.net
  net_there = text_net_there p.tables of.source.net p.net of.builds.1

  pub net_whole : IsWhole p.net
  net_whole = of.builds.1.whole

  pub few_ports : HaveFewPorts p.tables
  few_ports = are_small of.source p.tables (tree_sized limits text of.source of.parses) of.tabulates.0

  pub net_over_at : (t : Tables) (n : Parts) → t ≡ p.tables → n ≡ p.net → IsOver t n
  net_over_at t n e f = subst (λ (t : Tables). IsOver t n) (sym e) (subst (λ (n : Parts). IsOver p.tables n) (sym f) net_over)

  pub net_there_at : (n : Parts) → n ≡ p.net → AreAllThere n
  net_there_at n f = subst (λ (n : Parts). AreAllThere n) (sym f) net_there

  pub net_promised : IsAsPromised (system_of p) (net_of p.net)
  net_promised = promised limits text (record { program = p; net = p.net }) accepted (starts p net_over).0

  pub known_in_net : (x : ℕ) (s : SymbolNo) → symbol_in p.net x ≡ Some s → IsSymbol p.tables s.0
  known_in_net x s e = (is_sound limits text p accepted).start.within x s.0 (ap (λ (o : Option SymbolNo). option_map (λ (s : SymbolNo). s.0) o) e)

  module _ (k : ℕ) (r : RuleParts) (stands : slice_get p.rules k ≡ Some r) where
    rule_over : IsRuleOver p.tables r
    rule_over = rules.rule_over limits text p accepted k r stands

    pub member_over : IsOver p.tables r.member
    member_over = rule_over.member

    pub member_there : AreAllThere r.member
    member_there = (rules.whole_rule limits text p accepted k r stands).there

    pub member_whole : IsWhole r.member
    member_whole = rules.member_whole limits text p accepted k r stands

    -- the same of equal tables and parts
    pub over_at : (t : Tables) (n : Parts) → t ≡ p.tables → n ≡ r.member → IsOver t n
    over_at t n e f = subst (λ (t : Tables). IsOver t n) (sym e) (subst (λ (n : Parts). IsOver p.tables n) (sym f) member_over)

    pub there_at : (n : Parts) → n ≡ r.member → AreAllThere n
    there_at n f = subst (λ (n : Parts). AreAllThere n) (sym f) member_there

    pub rule_over_at : (t : Tables) → t ≡ p.tables → IsRuleOver t r
    rule_over_at t e = subst (λ (t : Tables). IsRuleOver t r) (sym e) rule_over

  -- two agents have one rule
  pub one_rule : (q : PlainParts) (a b : AgentNo) (j k : ℕ) (r s : RuleParts) → q.program ≡ p → IsRuleAt q a b j r → IsRuleAt q a b k s → r ≡ s
  one_rule q a b j k r s e x y = same_Some r s (sym stands ∙ ap (λ i. slice_get q.program.rules i) number ∙ y.stands)
    where
      stands : slice_get q.program.rules j ≡ Some r
      stands = x.stands

      first : r.heads.0 ≡ s.heads.0
      first = same_Some r.heads.0 s.heads.0 (sym x.one ∙ y.one)

      second : r.heads.1 ≡ s.heads.1
      second = same_Some r.heads.1 s.heads.1 (sym x.two ∙ y.two)

      one : IsRuleFor p.rules j r.heads.0.0 r.heads.1.0
      one = record { rule = r; stands = subst (λ (z : Program). slice_get z.rules j ≡ Some r) e x.stands; symbols = inl (refl, refl) }

      other : IsRuleFor p.rules k r.heads.0.0 r.heads.1.0
      other = record { rule = s; stands = subst (λ (z : Program). slice_get z.rules k ≡ Some s) e y.stands; symbols = inl (ap (λ (z : SymbolNo). z.0) (sym first), ap (λ (z : SymbolNo). z.0) (sym second)) }

      number : j ≡ k
      number = of.covers.0.at_most_one r.heads.0.0 r.heads.1.0 j k one other
