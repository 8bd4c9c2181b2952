-- The open net of a rule is determined, and is an open net; if it is derivable, it has no crossing circle.
use Rattle.std.proofs.Common.{nat_lt, arith}
use Rattle.std.proofs.lemmas.List.Sums.{count_by-le-length}
use Rattle.in_syntax.specs.declared.places.Place.{Place}
use Rattle.in_open_nets.proofs.Public.{derivable_no_circle}
use Rattle.in_open_nets_of_programs.specs.Laws.{RulesAreOpenedOnce, OpenRulesAreOpen, DerivableRulesHaveNoCircle}
use Rattle.in_open_nets_of_programs.proofs.OneOpening.{one_open_rule}
use Rattle.in_open_nets_of_programs.proofs.OpenedRules.{is_open_net}

pub opened_once : RulesAreOpenedOnce
opened_once t p o u whole over =
    one_open_rule t p o u (let a = whole.placed over.built in let b = count_by-le-length (λ (q : Place). nat_lt q.from p.head_places.1.from) p.member.places in omega (arith, a, b))

pub rules_open : OpenRulesAreOpen
rules_open t p o numbered rule_whole whole over opens = is_open_net t p o numbered rule_whole whole over.member over.built opens

pub no_circle : DerivableRulesHaveNoCircle
no_circle t p o numbered rule_whole whole over opens = derivable_no_circle o (rules_open t p o numbered rule_whole whole over opens)
