use Rattle.std.proofs.Common.{◌≡◌, ◌<◌, ◌≤◌, ℕ, List, length, slice_get, refl, ◌∙◌, arith}
use Rattle.in_arena.specs.Arenas.{ArenaView}
use Rattle.in_arena.specs.declared.content.End.{End}
use Rattle.in_cells.proofs.Public.{keep_on}
use Rattle.in_reducer.specs.declared.sides.Pair.{Pair}
use Rattle.in_reducer.specs.Inside.{most_ends}
use Rattle.in_reducer.specs.Sides.{end_there, port_at}
use Rattle.in_reducer.specs.Wiring.{aside_of}
use Rattle.in_reducer.proofs.Steps.Anew as anew
use Rattle.in_reducer.proofs.Steps.Points.{over_few}
use Rattle.in_reducer.proofs.Steps.Reading as read
use Rattle.in_reducer.proofs.wiring.wire_anew.Goals as goal

-- the ends that were read at the boundary ends are still there
read_still : (a : ArenaView) (p : Pair) (many joints : ℕ) (middle points : List End) → many ≡ joints → joints ≤ most_ends → ((e : ℕ) → e < many → slice_get middle e ≡ end_there a (port_at p e))
    → ((e : ℕ) → e < most_ends → slice_get points e ≡ slice_get middle e) → (e : ℕ) → e < joints → slice_get points e ≡ end_there a (port_at p e)
read_still a p many joints middle points is few read stay e low = stay e (let l : e < most_ends = omega (arith, low, few) in l) ∙ read e (let l : e < many = omega (arith, low, is) in l)

pub read_ports-requires : goal.read_ports-requires
read_ports-requires g c =
    let t = c.requires.ready.0 in
    let h = c.requires.ready.1 in
    let many = c.boundary_ends.ensures in
    read.can_read t h.setting c.args.template.now c.args.pair h.own c.args.arena.now c.args.ends.now h.about c.args.arena.now refl refl c.args.points.now c.boundary_ends.result many
    (let f = h.few in omega (arith, f, many)) h.begin.long

pub begin_anew-requires : goal.begin_anew-requires
begin_anew-requires g c =
    let t = c.requires.ready.0 in
    let h = c.requires.ready.1 in
    let begin = h.begin in (
      read.live t h.setting c.args.template.now c.args.pair h.own c.args.arena.now c.args.ends.now h.about c.args.arena.now refl refl,
      record { all = begin.all; free = begin.free; few = begin.few; long = (let l = begin.long in let a = c.read_ports.auto.points in omega (arith, l, a)) },
      h.classed,
    )

pub write_over-requires-clause-ready : goal.write_over-requires-clause-ready
write_over-requires-clause-ready g c =
    let t = c.requires.ready.0 in
    let h = c.requires.ready.1 in
    let p = c.args.template.now in
    let b = c.begin_anew.ensures.begun in
    let begun = b.1 in (
      t,
      aside_of h.setting h.aside.0 h.aside.1,
      h.own,
      b.0,
      anew.can_wire t h.setting p c.args.pair h.own c.args.arena.now c.args.ends.now h.about b.0 c.begin_anew.new.arena begun h.unmarked h.aside.0 h.aside.1 h.aside.2 c.begin_anew.new.points
          (read_still c.args.arena.now c.args.pair c.boundary_ends.result (length p.member.joints) c.read_ports.new.points c.begin_anew.new.points c.boundary_ends.ensures h.few c.read_ports.ensures.read c.begin_anew.ensures.ends) b.2,
    )

pub write_over-requires-clause-room : goal.write_over-requires-clause-room
write_over-requires-clause-room g c =
    let few = c.requires.ready.1.few in
    let over = over_few c.args.template.now.member in
    let room = c.requires.room in
    omega (arith, few, over, room)

pub write_within-requires : goal.write_within-requires
write_within-requires g c =
    let t = c.requires.ready.0 in
    let h = c.requires.ready.1 in
    let p = c.args.template.now in
    let b = c.begin_anew.ensures.begun in
    let begun = b.1 in
    let start = anew.can_wire t h.setting p c.args.pair h.own c.args.arena.now c.args.ends.now h.about b.0 c.begin_anew.new.arena begun h.unmarked h.aside.0 h.aside.1 h.aside.2 c.begin_anew.new.points
    (read_still c.args.arena.now c.args.pair c.boundary_ends.result (length p.member.joints) c.read_ports.new.points c.begin_anew.new.points c.boundary_ends.ensures h.few c.read_ports.ensures.read c.begin_anew.ensures.ends) b.2 in
    record { ready = (t, aside_of h.setting h.aside.0 h.aside.1, h.own, b.0, c.write_over.ensures.written t (aside_of h.setting h.aside.0 h.aside.1) h.own b.0 start) }

pub returns-clause-wired : goal.returns-clause-wired
returns-clause-wired g c = λ t h. (
    let p = c.args.template.now in
    let b = c.begin_anew.ensures.begun in
    let middle = c.begin_anew.new.arena in
    let points = c.begin_anew.new.points in
    let begun = b.1 in
    let still = read_still c.args.arena.now c.args.pair c.boundary_ends.result (length p.member.joints) c.read_ports.new.points points c.boundary_ends.ensures h.few c.read_ports.ensures.read c.begin_anew.ensures.ends in
    record {
      cells = b.0;
      middle = middle;
      live = read.live t h.setting p c.args.pair h.own c.args.arena.now c.args.ends.now h.about c.args.arena.now refl refl;
      begun = begun;
      kept = keep_on middle c.write_over.new.arena c.write_within.new.arena c.write_over.ensures.kept c.write_within.ensures.kept;
      at = b.2;
      written = λ s own n f about set. c.write_within.ensures.written t (aside_of s n f) own b.0 (c.write_over.ensures.written t (aside_of s n f) own b.0
          (anew.can_wire t s p c.args.pair own c.args.arena.now c.args.ends.now about b.0 middle begun h.unmarked n f set points still b.2));
      queued = λ s own n f about set. c.write_over.ensures.queued t (aside_of s n f) own b.0 (anew.can_wire t s p c.args.pair own c.args.arena.now c.args.ends.now about b.0 middle begun h.unmarked n f set points still b.2);
    }
    )
