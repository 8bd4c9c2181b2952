use Rattle.std.proofs.Common.{◌<◌, IsSome, length, sym, subst, refl}
use Rattle.in_net.specs.Parts.{symbol_in}
use Rattle.in_reducer.specs.Inside.{reducer_view}
use Rattle.in_reducer.specs.Machines.{MachineParts, parts_of}
use Rattle.in_reducer.proofs.Cells.Looked.{have_symbols}
use Rattle.in_reducer.proofs.reducer.Reducer.pair.Goals as goal
use Rattle.std.proofs.lemmas.Option.{slice_get_read}

pub returns-clause-agents : goal.returns-clause-agents
returns-clause-agents c =
    let k = c.args.number in
    let q = c.at-one.result in
    let low = subst (λ (m : MachineParts). k < length m.queue) (sym c.self.view_is) c.requires in
    subst (λ (m : MachineParts). IsSome (symbol_in (parts_of m) q.0) × IsSome (symbol_in (parts_of m) q.1)) c.self.view_is
    (have_symbols c.self.inside.body.checked.now.program.tables (parts_of (reducer_view c.self.inside.body)) q (c.self.invariant.all.net.reducer.queue.pairs k q (slice_get_read c.self.inside.body.queue.items (length c.self.inside.body.queue.items) k q refl low c.at-one.ensures)))
