use Rattle.std.proofs.Common.{count_by, is_some, sym, ap, ◌∙◌, get_or, arith}
use Rattle.in_arena.proofs.Public.{class_few}
use Rattle.in_arena.specs.Classes.{amount, classes}
use Rattle.in_arena.specs.declared.content.CellClass.TheVariants.{Small}
use Rattle.in_arena.specs.declared.content.CellCounts.{CellCounts}
use Rattle.in_reducer.specs.Machines.{MachineParts}
use Rattle.in_reducer.specs.Standing.{agents_in}
use Rattle.in_reducer.proofs.Starts.Accepted.{few_ports}
use Rattle.in_reducer.proofs.Cells.AtRest.{net_rests}
use Rattle.in_reducer.proofs.Cells.Looked.{one_more_class, no_more, all_counted}
use Rattle.in_reducer.proofs.Pairs.Queues.{all_classes}
use Rattle.in_reducer.proofs.reducer.Reducer.agents.Goals as goal

pub overflow_add-agents : goal.overflow_add-agents
overflow_add-agents c =
    let r = c.self.inside.body in
    let few = class_few r.arena.cells c.self.invariant.all.net.few Small in
    let net = net_rests r.checked.now.program.tables r.arena c.self.invariant.none c.self.invariant.all.net.net in
    let room = no_more r.checked.now.program.tables r.arena net c.loop-class.class-index c.loop-class.agents c.of.result c.free_count.result c.loop-class-test.true c.loop-class.invariant (c.of.ensures ∙ ap (λ (z : CellCounts). amount z (get_or classes c.loop-class.class-index Small)) c.cells.ensures.0) c.free_count.ensures in
    omega (arith, few.1, room)

pub loop-class-preserved : goal.loop-class-preserved
loop-class-preserved c =
    let r = c.self.inside.body in
    let net = net_rests r.checked.now.program.tables r.arena c.self.invariant.none c.self.invariant.all.net.net in
    one_more_class r.checked.now.program.tables r.arena net c.loop-class.class-index c.loop-class.agents c.of.result c.free_count.result c.loop-class-test.true c.loop-class.invariant (c.of.ensures ∙ ap (λ (z : CellCounts). amount z (get_or classes c.loop-class.class-index Small)) c.cells.ensures.0) c.free_count.ensures

pub returns : goal.returns
returns c =
    let p = c.self.inside.body.checked.now.program in
    let a = c.self.inside.body.arena in
    let accepted = c.self.invariant.all.net.reducer.accepted in
    let net = net_rests p.tables a c.self.invariant.none c.self.invariant.all.net.net in
    all_counted p.tables a net c.loop-class.class-index c.loop-class.agents c.loop-class-test.false c.loop-class.invariant ∙ sym (all_classes p.tables (few_ports accepted.0 accepted.1 p accepted.2) (agents_in a))
    ∙ ap (λ (m : MachineParts). count_by is_some m.agents) c.self.view_is
