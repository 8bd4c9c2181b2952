use Rattle.std.proofs.Common.{◌≤◌, ◌+◌, ◌*◌, sym, subst, arith}
use Rattle.in_arena.specs.Arenas.{NoneLeased}
use Rattle.in_arena.specs.Classes.{all_of}
use Rattle.in_reducer.specs.declared.body.Body.{Body}
use Rattle.in_reducer.specs.declared.tools.Tools.{Tools}
use Rattle.in_reducer.specs.Inside.{AreTools, IsKept, most_ends, reducer_view}
use Rattle.in_reducer.specs.Starts.{IsStart}
use Rattle.in_reducer.proofs.Starts.StartKept.{is_kept, member_is, starts}
use Rattle.in_reducer.proofs.Starts.StartNet.{all_free, empty_none, enough, few_joints, few_pairs, has_joint, has_pair}
use Rattle.in_reducer.proofs.reducer.Reducer.new.Goals as goal

pub lay-requires : goal.lay-requires
lay-requires c =
    let p = c.args.checked.now.program in
    let h = c.is_accepted.ensures.accepted in
    let m = c.start.result.now in
    let of = member_is p c.args.templates.now m c.requires.templates c.start.ensures in
    let a = c.in_ok-fresh.fresh.arena in
    let fresh = c.in_ok-fresh.ensures in
    record {
      free = enough h.0 h.1 p h.2 m of c.args.cells _ c.requires.fits (all_free a c.args.cells fresh.cells fresh.empty p.tables);
      few = few_joints h.0 h.1 p h.2 m of;
      joints = has_joint h.0 h.1 p h.2 m of;
      pairs = has_pair h.0 h.1 p h.2 m of;
      queue = fresh.queue;
      room = (let few = few_pairs h.0 h.1 p h.2 m of c.args.cells c.requires.fits in let room = fresh.queue_room in omega (arith, few, room));
    }

pub drop-fresh-requires : goal.drop-fresh-requires
drop-fresh-requires c =
    let fresh = c.in_ok-fresh.ensures in
    subst NoneLeased (sym c.in_err-ends.ensures.refused) (empty_none c.in_ok-fresh.fresh.arena c.args.cells fresh.cells fresh.empty)

pub invariant_of-result : goal.invariant_of-result
invariant_of-result c =
    let h = c.is_accepted.ensures.accepted in
    let p = c.args.checked.now.program in
    let f = c.lay.new.fresh in
    let fresh = c.in_ok-fresh.ensures in
    let laid = c.in_ok-ends.ensures.laid in
    let x : Body = record { checked = c.args.checked; arena = f.arena; free = c.in_ok-free.free; ends = c.in_ok-ends.ends; queue = f.queue; tools = f.tools } in
    let room : all_of c.args.cells + 2 * most_ends ≤ 2 * f.queue.room + 1 = (let r = laid.room in let s = fresh.queue_room in omega (arith, r, s)) in
    let tools = subst (λ (t : Tools). AreTools t c.in_ok-fresh.fresh.arena) (sym laid.tools) fresh.tools in
    subst IsKept (sym c.into_body.ensures)
    (is_kept h.0 h.1 x c.args.templates.now c.start.result.now c.args.cells c.in_ok-fresh.fresh.arena laid.names (record {
      accepted = h.2;
      templates = c.requires.templates;
      start = c.start.ensures;
      few = c.requires.cells;
      same = fresh.cells;
      empty = fresh.empty;
      put = laid.put;
      first = laid.first;
      long = laid.long;
      queue = laid.queue;
      free = c.in_ok-free.ensures.program p (sym c.net.ensures);
    }) room tools (c.in_ok-free.ensures.each p (sym c.net.ensures)))

pub returns : goal.returns
returns c =
    let h = c.is_accepted.ensures.accepted in
    let p = c.args.checked.now.program in
    let f = c.lay.new.fresh in
    let fresh = c.in_ok-fresh.ensures in
    let laid = c.in_ok-ends.ensures.laid in
    let x : Body = record { checked = c.args.checked; arena = f.arena; free = c.in_ok-free.free; ends = c.in_ok-ends.ends; queue = f.queue; tools = f.tools } in
    subst (λ (b : Body). IsStart p c.args.cells (reducer_view b)) (sym c.into_body.ensures)
    (starts h.0 h.1 x c.args.templates.now c.start.result.now c.args.cells c.in_ok-fresh.fresh.arena laid.names (record {
      accepted = h.2;
      templates = c.requires.templates;
      start = c.start.ensures;
      few = c.requires.cells;
      same = fresh.cells;
      empty = fresh.empty;
      put = laid.put;
      first = laid.first;
      long = laid.long;
      queue = laid.queue;
      free = c.in_ok-free.ensures.program p (sym c.net.ensures);
    }))
