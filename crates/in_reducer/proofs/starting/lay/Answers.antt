use Rattle.std.proofs.Common.{◌≡◌, ◌<◌, ◌++◌, ℕ, List, length, map, take, refl, ap, subst, ◌∙◌, arith}
use Rattle.std.proofs.lemmas.List.{length-set, take_all}
use Rattle.in_interaction.specs.Queues.{both}
use Rattle.in_compile.specs.declared.joints.Joint.TheVariants.{ToBoundary}
use Rattle.in_compile.proofs.Public.{at_port}
use Rattle.in_reducer.specs.Interacting.{named}
use Rattle.in_reducer.specs.Sides.{inner_of}
use Rattle.in_reducer.proofs.Starts.Begun.{one_more_end}
use Rattle.in_reducer.proofs.starting.lay.Goals as goal

pub place_start-requires : goal.place_start-requires
place_start-requires c = c.requires.free

pub inner-requires-clause-there : goal.inner-requires-clause-there
inner-requires-clause-there c = c.requires.joints c.in_ok-placed.placed.cells c.in_ok-placed.ensures.put.count c.loop-number.number c.joint.result c.joint.ensures

pub inner-requires-clause-port : goal.inner-requires-clause-port
inner-requires-clause-port c = at_port c.args.start.now c.is_sound.ensures (ToBoundary c.loop-number.number) c.joint.result c.joint.ensures

pub loop-number-preserved : goal.loop-number-preserved
loop-number-preserved c =
    let es = c.loop-number.ends.items in
    let k = c.loop-number.number in
    let long = c.loop-number.invariant.long in
    let low : k < length es = omega (arith, long) in
    record {
      first = one_more_end c.in_ok-placed.placed.cells c.args.start.now.joints k c.joint.result es c.inner.result c.joint.ensures low c.inner.ensures c.loop-number.invariant.first;
      long = length-set es k c.inner.result ∙ long;
    }

pub queue_own-requires-clause-there : goal.queue_own-requires-clause-there
queue_own-requires-clause-there c = c.requires.pairs c.in_ok-placed.placed.cells c.in_ok-placed.ensures.put.count

pub queue_own-requires-clause-room : goal.queue_own-requires-clause-room
queue_own-requires-clause-room c =
    let none = ap length c.requires.queue in
    let room = c.requires.room in
    omega (arith, none, room)

pub returns-clause-laid : goal.returns-clause-laid
returns-clause-laid c =
    let m = c.args.start.now in
    let ns = c.in_ok-placed.placed.cells in
    let es = c.loop-number.ends.items in
    let k = c.loop-number.number in
    let h = c.loop-number.invariant in
    let done : k ≡ length m.joints = omega arith in
    record {
      names = ns;
      put = c.in_ok-placed.ensures.put;
      first = subst (λ z. take z es ≡ map (inner_of ns 0) (take z m.joints)) done h.first ∙ ap (map (inner_of ns 0)) (take_all (length m.joints) m.joints (omega arith));
      long = (let l = h.long in omega (arith, l, done));
      queue = c.queue_own.ensures.items ∙ ap (λ (q : List (ℕ × ℕ)). q ++ map (both (named ns)) m.pairs) c.requires.queue;
      room = c.queue_own.ensures.room;
      tools = refl;
    }
