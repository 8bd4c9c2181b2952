use Rattle.std.proofs.Common.{ap, refl, sym, subst, true, map, List, [], ◌≡◌, ◌∙◌}
use Rattle.std.specs.Borrow.{Bor}
use Rattle.clap.specs.Words.{App, HasKind, fault_of, is_simple, is_simple_and_free, subcommand_of}
use Rattle.clap.proofs.OnLiterals.{clap_on_literals}
use Rattle.in_command_line.specs.Asking.{faults}
use Rattle.in_command_line.specs.CommandLine.{command_line}
use Rattle.in_command_line.proofs.Naming.{faultless_asks}
use Rattle.in_command_line.proofs.Subcommands.{refused_so}
use Rattle.in_command_line.proofs.action.action_of.Goals as goal

simple : is_simple command_line ≡ true
unfolding clap_on_literals
simple = refl

simple_and_free : is_simple_and_free command_line ≡ true
unfolding clap_on_literals
simple_and_free = refl

pub unreachable-requires : goal.unreachable-requires
unreachable-requires c =
    let is = c.in_ok-command.ensures in
    let words = map (λ (w : Bor (List _)). w.now) c.args.words.now in
    let none : faults words ≡ [] = sym (ap (λ (a : App). fault_of a words) is) ∙ c.in-Ok.ensures.kinds (ap is_simple_and_free is ∙ simple_and_free) in
    let given = (c.in-Ok.ensures.matches (ap is_simple is ∙ simple)).1 ∙ ap (λ (a : App). subcommand_of a words) is in
    let asked = faultless_asks words none in
    c.in-None.ensures asked.1.name asked.1.options asked.0.action (given ∙ asked.1.given) asked.1.named

pub returns-in-Some-clause-ok : goal.returns-in-Some-clause-ok
returns-in-Some-clause-ok c =
    let is = c.in_ok-command.ensures in
    let words = map (λ (w : Bor (List _)). w.now) c.args.words.now in
    let none : faults words ≡ [] = sym (ap (λ (a : App). fault_of a words) is) ∙ c.in-Ok.ensures.kinds (ap is_simple_and_free is ∙ simple_and_free) in
    let given = (c.in-Ok.ensures.matches (ap is_simple is ∙ simple)).1 ∙ ap (λ (a : App). subcommand_of a words) is in
    let n = c.in-Some.ensures in
    record { name = n.0; options = n.1; taken = none; given = sym given ∙ n.2; named = n.3; file_is = n.4; stats_are = n.5; large_is = n.6 }

pub returns-in-Err-clause-err : goal.returns-in-Err-clause-err
returns-in-Err-clause-err c =
    let is = c.in_ok-command.ensures in
    let words = map (λ (w : Bor (List _)). w.now) c.args.words.now in
    let has = subst (λ (a : App). HasKind (fault_of a words) c.in-Err.error) is (c.in-Err.ensures.kinds (ap is_simple_and_free is ∙ simple_and_free)) in
    refused_so words c.in-Err.error c.usage_of.result has c.usage_of.ensures
