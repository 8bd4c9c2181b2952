use Rattle.std.proofs.Common.{◌≡◌, ◌<◌, ◌≤◌, ◌+◌, ℕ, List, length, sym, ap, subst, ◌∙◌, arith}
use Rattle.in_arena.specs.Arenas.{ArenaView, changed, state_at}
use Rattle.in_arena.specs.States.{Vacant, IsLive}
use Rattle.in_arena.specs.declared.content.CellNo.{CellNo}
use Rattle.in_cells.specs.Cells.{KeepsCells}
use Rattle.in_cells.proofs.Public.{keep_on}
use Rattle.in_compile.specs.Members.{MemberParts}
use Rattle.in_reducer.specs.declared.sides.Pair.{Pair}
use Rattle.in_reducer.specs.Inside.{most_ends}
use Rattle.in_reducer.specs.Wiring.{AreAtAgents, HasBegun, retired}
use Rattle.in_reducer.proofs.Steps.CanWire as can
use Rattle.in_reducer.proofs.Steps.Points.{over_few}
use Rattle.in_reducer.proofs.wiring.wire_up.Goals as goal

-- the agents that were begun are the template's
begun_there : (m n : MemberParts) (ns : List CellNo) (a b : ArenaView) → m ≡ n → HasBegun m ns a b → HasBegun n ns a b
begun_there m n ns a b same h = subst (λ (m : MemberParts). HasBegun m ns a b) same h

pub read_ports-requires : goal.read_ports-requires
read_ports-requires c =
    let t = c.requires.ready.0 in
    let ready = c.requires.ready.1 in
    let q = ready.about in
    let b = c.begin_agents.ensures.begun in
    let p = c.args.template.now in
    let many = c.boundary_ends.ensures in
    let begun = begun_there c.member.result.now p.member b.0 c.args.arena.now c.begin_agents.new.arena c.member.ensures b.1 in
    can.can_read t q.0 p c.args.pair q.1 c.args.arena.now c.args.ends.now q.2 b.0 c.begin_agents.new.arena begun ready.unmarked c.begin_agents.new.points c.boundary_ends.result many
    (let f = ready.few in omega (arith, f, many)) (let l = ready.begin.long in let m = c.begin_agents.ensures.long in omega (arith, l, m))

pub retire-requires : goal.retire-requires
retire-requires c =
    let t = c.requires.ready.0 in
    let ready = c.requires.ready.1 in
    let q = ready.about in
    let b = c.begin_agents.ensures.begun in
    let p = c.args.template.now in
    let begun = begun_there c.member.result.now p.member b.0 c.args.arena.now c.begin_agents.new.arena c.member.ensures b.1 in
    (can.live t q.0 p c.args.pair q.1 c.args.arena.now c.args.ends.now q.2 b.0 c.begin_agents.new.arena begun ready.unmarked).0

pub retire-requires-2 : goal.retire-requires-2
retire-requires-2 c =
    let t = c.requires.ready.0 in
    let ready = c.requires.ready.1 in
    let q = ready.about in
    let b = c.begin_agents.ensures.begun in
    let p = c.args.template.now in
    let begun = begun_there c.member.result.now p.member b.0 c.args.arena.now c.begin_agents.new.arena c.member.ensures b.1 in
    subst (λ (a : ArenaView). IsLive (state_at a c.args.pair.other.0)) (sym c.retire.ensures) (can.live t q.0 p c.args.pair q.1 c.args.arena.now c.args.ends.now q.2 b.0 c.begin_agents.new.arena begun ready.unmarked).1

-- the two changes are one
both_retired : (p : Pair) (a b d : ArenaView) → b ≡ changed a p.one.0 Vacant → d ≡ changed b p.other.0 Vacant → d ≡ retired p a
both_retired p a b d one two = two ∙ ap (λ (a : ArenaView). changed a p.other.0 Vacant) one

pub write_over-requires-clause-ready : goal.write_over-requires-clause-ready
write_over-requires-clause-ready c =
    let t = c.requires.ready.0 in
    let ready = c.requires.ready.1 in
    let q = ready.about in
    let b = c.begin_agents.ensures.begun in
    let p = c.args.template.now in
    let many = c.boundary_ends.ensures in
    let few = ready.few in
    let begun = begun_there c.member.result.now p.member b.0 c.args.arena.now c.begin_agents.new.arena c.member.ensures b.1 in (
      t,
      q.0,
      q.1,
      b.0,
      can.can_wire t q.0 p c.args.pair q.1 c.args.arena.now c.args.ends.now q.2 b.0 c.begin_agents.new.arena begun ready.unmarked c.retire-2.new.self (both_retired c.args.pair c.begin_agents.new.arena c.retire.new.self c.retire-2.new.self c.retire.ensures c.retire-2.ensures) c.read_ports.new.points
          (λ e low. c.read_ports.ensures.read e (let l : e < c.boundary_ends.result = omega (arith, low, many) in l))
          (λ k low. c.read_ports.ensures.others (32 + k) (let l : most_ends ≤ 32 + k = omega arith in l) ∙ b.2 k low),
    )

pub write_over-requires-clause-room : goal.write_over-requires-clause-room
write_over-requires-clause-room c =
    let few = c.requires.ready.1.few in
    let over = over_few c.args.template.now.member in
    let room = c.requires.room in
    omega (arith, few, over, room)

pub write_within-requires : goal.write_within-requires
write_within-requires c =
    let t = c.requires.ready.0 in
    let ready = c.requires.ready.1 in
    let q = ready.about in
    let b = c.begin_agents.ensures.begun in
    let p = c.args.template.now in
    let many = c.boundary_ends.ensures in
    let few = ready.few in
    let begun = begun_there c.member.result.now p.member b.0 c.args.arena.now c.begin_agents.new.arena c.member.ensures b.1 in
    let start = can.can_wire t q.0 p c.args.pair q.1 c.args.arena.now c.args.ends.now q.2 b.0 c.begin_agents.new.arena begun ready.unmarked c.retire-2.new.self (both_retired c.args.pair c.begin_agents.new.arena c.retire.new.self c.retire-2.new.self c.retire.ensures c.retire-2.ensures) c.read_ports.new.points
    (λ e low. c.read_ports.ensures.read e (let l : e < c.boundary_ends.result = omega (arith, low, many) in l))
    (λ k low. c.read_ports.ensures.others (32 + k) (let l : most_ends ≤ 32 + k = omega arith in l) ∙ b.2 k low) in
    record { ready = (t, q.0, q.1, b.0, c.write_over.ensures.written t q.0 q.1 b.0 start) }

pub returns-clause-wired : goal.returns-clause-wired
returns-clause-wired c = λ t ready. (
    let b = c.begin_agents.ensures.begun in
    let p = c.args.template.now in
    let middle = c.begin_agents.new.arena in
    let points = c.read_ports.new.points in
    let many = c.boundary_ends.ensures in
    let few = ready.few in
    let begun = begun_there c.member.result.now p.member b.0 c.args.arena.now middle c.member.ensures b.1 in
    let at : AreAtAgents b.0 points = (λ k low. c.read_ports.ensures.others (32 + k) (let l : most_ends ≤ 32 + k = omega arith in l) ∙ b.2 k low) in
    let read : (e : ℕ) → e < length p.member.joints → _ = (λ e low. c.read_ports.ensures.read e (let l : e < c.boundary_ends.result = omega (arith, low, many) in l)) in
    record {
      cells = b.0;
      middle = middle;
      begun = begun;
      live = can.live t ready.about.0 p c.args.pair ready.about.1 c.args.arena.now c.args.ends.now ready.about.2 b.0 middle begun ready.unmarked;
      kept = subst (λ (a : ArenaView). KeepsCells a c.write_within.new.arena) (both_retired c.args.pair middle c.retire.new.self c.retire-2.new.self c.retire.ensures c.retire-2.ensures)
          (keep_on c.retire-2.new.self c.write_over.new.arena c.write_within.new.arena c.write_over.ensures.kept c.write_within.ensures.kept);
      at = at;
      written = λ s own about. c.write_within.ensures.written t s own b.0
          (c.write_over.ensures.written t s own b.0 (can.can_wire t s p c.args.pair own c.args.arena.now c.args.ends.now about b.0 middle begun ready.unmarked c.retire-2.new.self (both_retired c.args.pair middle c.retire.new.self c.retire-2.new.self c.retire.ensures c.retire-2.ensures) points read at));
      queued = λ s own about. c.write_over.ensures.queued t s own b.0 (can.can_wire t s p c.args.pair own c.args.arena.now c.args.ends.now about b.0 middle begun ready.unmarked c.retire-2.new.self (both_retired c.args.pair middle c.retire.new.self c.retire-2.new.self c.retire.ensures c.retire-2.ensures) points read at);
    }
    )
