use Rattle.std.proofs.Common.{◌≡◌, refl, sym, subst, ◌∙◌}
use Rattle.in_net.specs.Nets.{net_of}
use Rattle.in_net.specs.Parts.{Parts}
use Rattle.in_check.specs.Plain.{IsPlain, IsReachedBy}
use Rattle.in_check.specs.Programs.{Program}
use Rattle.in_check.specs.Promises.{IsAsPromised}
use Rattle.in_check.specs.Systems.{system_of}
use Rattle.in_check.proofs.Chain.{program_of}
use Rattle.in_check.proofs.Reached.Plain.{starts, promised}
use Rattle.in_check.proofs.plain.Plain.new.Goals as goal

pub invariant_of-result : goal.invariant_of-result
invariant_of-result c =
    let p : Program = c.args.checked.now.program in
    let same : c.in_ok-net.net ≡ p.net = c.in_ok-net.ensures ∙ c.net.ensures in
    let over = (program_of c.is_accepted.ensures.accepted.0 c.is_accepted.ensures.accepted.1 p c.is_accepted.ensures.accepted.2).builds.0 in
    subst (λ (n : Parts). IsPlain (record { program = p; net = n })) (sym same) (starts p over).0

pub returns-clause-starts : goal.returns-clause-starts
returns-clause-starts c =
    let p : Program = c.args.checked.now.program in
    let same : c.in_ok-net.net ≡ p.net = c.in_ok-net.ensures ∙ c.net.ensures in
    let over = (program_of c.is_accepted.ensures.accepted.0 c.is_accepted.ensures.accepted.1 p c.is_accepted.ensures.accepted.2).builds.0 in
    (refl, same, subst (λ (n : Parts). IsReachedBy (record { program = p; net = n }) 0) (sym same) (starts p over).1)

pub returns-clause-promised : goal.returns-clause-promised
returns-clause-promised c =
    let p : Program = c.args.checked.now.program in
    let same : c.in_ok-net.net ≡ p.net = c.in_ok-net.ensures ∙ c.net.ensures in
    let over = (program_of c.is_accepted.ensures.accepted.0 c.is_accepted.ensures.accepted.1 p c.is_accepted.ensures.accepted.2).builds.0 in
    subst (λ (n : Parts). IsAsPromised (system_of p) (net_of n)) (sym same)
    (promised c.is_accepted.ensures.accepted.0 c.is_accepted.ensures.accepted.1 (record { program = p; net = p.net }) c.is_accepted.ensures.accepted.2 (starts p over).0)
