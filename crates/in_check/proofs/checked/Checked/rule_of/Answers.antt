use Rattle.std.proofs.Common.{◌≡◌, Some, IsSome, refl, sym, subst}
use Rattle.in_cover.specs.Cover.{IsPair, IsRuleFor}
use Rattle.in_cover.specs.Table.{rule_at}
use Rattle.in_check.specs.declared.checked.Checked.TheInside.{Inside}
use Rattle.in_check.specs.Programs.{Certified}
use Rattle.in_check.proofs.Chain.{program_of}
use Rattle.in_check.proofs.checked.Checked.rule_of.Goals as goal

pub rule-requires : goal.rule-requires
rule-requires c =
    let covers = (program_of c.self.invariant.2.0 c.self.invariant.2.1 c.self.inside.passed.program (c.self.inside.passed, refl, c.self.invariant.2.2)).covers in
    let pair = subst (λ (x : Certified). IsPair x.program.tables c.args.one.0 c.args.other.0) (sym c.self.view_is) c.requires in
    subst (λ (s : Inside). IsSome (rule_at s.passed.program.numbers c.args.one.0 c.args.other.0)) (sym c.self-inside.view_is) (covers.1.pairs c.args.one.0 c.args.other.0 pair)

pub returns : goal.returns
returns c =
    let covers = (program_of c.self.invariant.2.0 c.self.invariant.2.1 c.self.inside.passed.program (c.self.inside.passed, refl, c.self.invariant.2.2)).covers in
    let found = subst (λ (s : Inside). rule_at s.passed.program.numbers c.args.one.0 c.args.other.0 ≡ Some c.rule.result) c.self-inside.view_is c.rule.ensures in
    subst (λ (x : Certified). IsRuleFor x.program.rules c.rule.result.0 c.args.one.0 c.args.other.0) c.self.view_is ((covers.1.numbers c.args.one.0 c.args.other.0 c.rule.result).0 found)
