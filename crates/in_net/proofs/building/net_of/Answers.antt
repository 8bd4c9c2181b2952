use Rattle.std.proofs.Common.{◌∙◌, sym, subst, length}
use Rattle.in_net.specs.Counting.{NamesInside}
use Rattle.in_net.specs.NetFaults.{of_names}
use Rattle.in_net.specs.TextNet.{body_of}
use Rattle.in_net.proofs.Texts.Bodies.{net_ready}
use Rattle.in_net.proofs.Refusals.FirstFault.{is_first, names_inside}
use Rattle.in_net.proofs.building.net_of.Goals as goal
use Rattle.in_syntax.specs.TextLimits.{max_agents}

pub first_fault-requires : goal.first_fault-requires
first_fault-requires c = subst (λ r. NamesInside (length r.names) r.spots) (sym c.requires.read) (names_inside c.args.symbols.now (body_of c.args.source.now.net))

pub returns-in-Some : goal.returns-in-Some
returns-in-Some c =
    let source = c.args.source.now in
    let t = c.args.symbols.now in
    let fault = is_first (max_agents source.limits) t (body_of source.net) c.args.reading.now c.in-Some.refusal (net_ready source t c.requires.readable.tabled c.requires.readable.faultless c.requires.readable.order) c.requires.read (sym c.in-Some.is ∙ c.in_ok-refusal.ensures {u = tt}) in
    (of_names c.in-Some.refusal.code c.in-Some.refusal.place fault.0, fault.1)
