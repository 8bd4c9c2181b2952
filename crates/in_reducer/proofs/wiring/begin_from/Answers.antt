use Rattle.std.proofs.Common.{◌≡◌, ◌<◌, ◌≤◌, ◌+◌, ◌∷◌, [], ◌++◌, ℕ, Some, List, length, set, slice_get, refl, ap, ◌∙◌, arith}
use Rattle.std.proofs.lemmas.List.{length-set}
use Rattle.in_arena.specs.Arenas.{ArenaView}
use Rattle.in_arena.specs.declared.content.CellNo.{CellNo}
use Rattle.in_arena.specs.declared.content.End.{End}
use Rattle.in_arena.specs.declared.content.End.TheVariants.{Cell}
use Rattle.in_base.proofs.Each.{at_index}
use Rattle.in_base.proofs.Places.{set_there}
use Rattle.in_compile.specs.Members.{AgentParts, MemberParts}
use Rattle.in_compile.specs.Putting.{AreBegunBelow, BeginsAgent}
use Rattle.in_compile.proofs.Public.{one_more_begun, some_free}
use Rattle.in_reducer.specs.Wiring.{CanBegin, HasBegunBelow}
use Rattle.in_reducer.proofs.Steps.Points.{all_begun, one_more_at, still_all}
use Rattle.in_reducer.proofs.wiring.begin_from.Goals as goal

one_more : (m : MemberParts) (v : ArenaView) (x : ℕ) (now : ArenaView) (points : List End) (a : AgentParts) (n : CellNo) (new : ArenaView) (p : End) → HasBegunBelow m v x now points → slice_get m.agents x ≡ Some a → BeginsAgent a now n.0 new → p ≡ Cell n 0 → 32 + x < length points → HasBegunBelow m v (x + 1) new (set points (32 + x) p)
one_more m v x now points a n new p h at b is there = (h.0 ++ n ∷ [], one_more_begun m v x now h.0 h.1 a at n new b (h.0 ++ n ∷ []) refl, one_more_at h.0 n points x h.1.count there p is h.2)

pub loop-next-init : goal.loop-next-init
loop-next-init c = record { begun = λ a can h. h; few = (let many = c.agents-many.ensures in let few = c.requires.few in omega (arith, many, few)); ends = λ e low. refl; long = refl }

pub begin_small-large-requires-clause-all : goal.begin_small-large-requires-clause-all
begin_small-large-requires-clause-all c =
    let q = c.requires.begun in
    still_all c.args.member.now q.0 c.loop-next.next c.loop-next.arena c.loop-next.points q.1.all (c.loop-next.invariant.begun q.0 q.1 q.2)

pub returns-then-large-many-clause-begun : goal.returns-then-large-many-clause-begun
returns-then-large-many-clause-begun c = λ v can h. (
    let s = c.begin_small-large in
    let b = s.ensures.begun v (c.loop-next.invariant.begun v can h) in
    let many = c.agents-many.ensures in
    let last = c.if-large-many.true in
    (b.0, all_begun c.args.member.now v s.new.arena b.0 s.result (omega (arith, many, last)) b.1, b.2)
    )

pub returns-then-large-many-clause-ends : goal.returns-then-large-many-clause-ends
returns-then-large-many-clause-ends c = λ e low. c.begin_small-large.ensures.before e (omega (arith, low)) ∙ c.loop-next.invariant.ends e low

pub begin-cell-requires-clause-all : goal.begin-cell-requires-clause-all
begin-cell-requires-clause-all c =
    let q = c.requires.begun in let s = c.begin_small-large in
    still_all c.args.member.now q.0 s.result s.new.arena s.new.points q.1.all (s.ensures.begun q.0 (c.loop-next.invariant.begun q.0 q.1 q.2))

pub begin-cell-requires-clause-free : goal.begin-cell-requires-clause-free
begin-cell-requires-clause-free c = λ x at.
    let q = c.requires.begun in let s = c.begin_small-large in
    let b = s.ensures.begun q.0 (c.loop-next.invariant.begun q.0 q.1 q.2) in
    some_free c.args.member.now q.0 s.result s.new.arena b.0 b.1 x at c.is_sound.ensures q.1.free

pub loop-next-preserved : goal.loop-next-preserved
loop-next-preserved c =
    let m = c.args.member.now in let q = c.requires.begun in let i = c.loop-next.invariant in let s = c.begin_small-large in let x = s.result in
    let few : x < length m.agents = (let order = s.ensures.order in let many = c.agents-many.ensures in let t = c.if-large-many.false in omega (arith, order.1, many, t)) in
    let a = at_index m.agents x few in
    let there : 32 + x < length s.new.points = (let long = i.long in let longer = s.ensures.long in let most = q.1.few in let room = q.1.long in omega (arith, few, long, longer, most, room)) in
    record {
      begun = λ v can h. one_more m v x s.new.arena s.new.points a.0 c.begin-cell.result c.begin-cell.new.arena c.place_of.result (s.ensures.begun v (i.begun v can h)) a.1 (c.begin-cell.ensures a.0 a.1) c.place_of.ensures there;
      few = (let many = c.agents-many.ensures in omega (arith, many, few));
      ends = λ e low. set_there s.new.points (32 + x) e c.place_of.result (λ same. omega (arith, low, same)) ∙ s.ensures.before e (omega (arith, low)) ∙ i.ends e low;
      long = length-set s.new.points (32 + x) c.place_of.result ∙ s.ensures.long ∙ i.long;
    }

pub returns-clause-begun : goal.returns-clause-begun
returns-clause-begun c = λ v can h. (
    let b = c.loop-next.invariant.begun v can h in
    let many = c.agents-many.ensures in
    let few = c.loop-next.invariant.few in
    let last = c.loop-next-test.false in
    (b.0, all_begun c.args.member.now v c.loop-next.arena b.0 c.loop-next.next (omega (arith, many, few, last)) b.1, b.2)
    )
