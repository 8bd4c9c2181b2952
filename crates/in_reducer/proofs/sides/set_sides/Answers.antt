use Rattle.std.proofs.Common.{◌≡◌, ◌<◌, ◌+◌, ℕ, Some, length, set, slice_get, sym, ap, subst, ◌∙◌, arith}
use Rattle.std.specs.Prelude.{option_map}
use Rattle.in_compile.specs.declared.joints.Joint.TheVariants.{ToBoundary}
use Rattle.in_compile.specs.Members.{IsSoundMember}
use Rattle.in_compile.proofs.Public.{at_port}
use Rattle.in_reducer.specs.Sides.{inner_of, AreSetBelow}
use Rattle.in_reducer.proofs.Steps.Sided.{has_place, not_one, not_other, outer_read, one_more_set}
use Rattle.in_reducer.proofs.sides.set_sides.Goals as goal

pub word-requires : goal.word-requires
word-requires c =
    let low : c.loop-end.end < length c.args.next.now.template.now.member.joints = omega (arith, c.boundary_ends-many.ensures) in
    has_place c.args.arena.now c.args.next.now.pair c.loop-end.end (c.requires.ports c.loop-end.end low) c.port-place.result c.port-place.ensures

pub outer-requires-clause-one : goal.outer-requires-clause-one
outer-requires-clause-one c =
    let low : c.loop-end.end < length c.args.next.now.template.now.member.joints = omega (arith, c.boundary_ends-many.ensures) in
    not_one c.args.arena.now c.args.next.now.pair c.loop-end.end (c.requires.ports c.loop-end.end low) c.port-place.result c.port-place.ensures c.word.result c.word.ensures

pub outer-requires-clause-other : goal.outer-requires-clause-other
outer-requires-clause-other c =
    let low : c.loop-end.end < length c.args.next.now.template.now.member.joints = omega (arith, c.boundary_ends-many.ensures) in
    not_other c.args.arena.now c.args.next.now.pair c.loop-end.end (c.requires.ports c.loop-end.end low) c.port-place.result c.port-place.ensures c.word.result c.word.ensures

pub inner-requires-clause-port : goal.inner-requires-clause-port
inner-requires-clause-port c = at_port c.args.next.now.template.now.member (subst IsSoundMember c.member.ensures c.is_sound.ensures) (ToBoundary c.loop-end.end) c.joint.result c.joint.ensures

pub loop-end-preserved : goal.loop-end-preserved
loop-end-preserved c =
    let a = c.args.arena.now in
    let p = c.args.next.now.pair in
    let joints = c.args.next.now.template.now.member.joints in
    let ns = c.args.next.now.placed.now.cells in
    let own = c.args.next.now.own in
    let x = c.loop-end.end in
    let u = c.outer.result in
    let v = c.inner.result in
    let low : x < length joints = omega (arith, c.boundary_ends-many.ensures) in
    let many : length joints ≡ c.from.result = omega (arith, c.boundary_ends-many.ensures, c.from.ensures) in
    let outer = outer_read a p x (c.requires.ports x low) c.port-place.result c.port-place.ensures c.word.result c.word.ensures own u c.outer.ensures in
    let inner : Some v ≡ option_map (inner_of ns (own + c.from.result)) (slice_get joints x) = ap (λ z. Some z) c.inner.ensures ∙ ap (option_map (inner_of ns (own + c.from.result))) (sym c.joint.ensures) in
    let more = one_more_set p a joints ns own c.args.ends.now x c.loop-end.ends c.loop-end.invariant low c.requires.room u v outer
    (subst (λ (m : ℕ). Some v ≡ option_map (inner_of ns (own + m)) (slice_get joints x)) (sym many) inner) in
    subst (λ (m : ℕ). AreSetBelow p a joints ns own (length joints) (x + 1) c.args.ends.now (set (set c.loop-end.ends (own + x) u) (own + m + x) v)) many more
