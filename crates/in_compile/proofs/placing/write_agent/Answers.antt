use Rattle.std.proofs.Common.{◌≡◌, ◌<◌, length, refl, sym, ap, subst, ◌∙◌, arith}
use Rattle.std.proofs.lemmas.Option.{same_Some, slice_get_read}
use Rattle.in_base.proofs.Each.{at_index}
use Rattle.in_arena.specs.Arenas.{changed, state_at}
use Rattle.in_arena.specs.Bags.{IsInBag}
use Rattle.in_arena.specs.Classes.{Holds, IsNumberOf}
use Rattle.in_arena.specs.States.{places, with_end}
use Rattle.in_arena.specs.declared.content.CellNo.{CellNo}
use Rattle.in_compile.specs.declared.joints.Joint.TheVariants.{ToAgent}
use Rattle.in_compile.specs.PlacingSteps.{IsInside, IsBeingWritten}
use Rattle.in_compile.proofs.Listed.Slots.{at_port}
use Rattle.in_compile.proofs.Placements.EndByEnd.{inside_of, places_are, has_place, one_more_end, all_written}
use Rattle.in_compile.proofs.placing.write_agent.Goals as goal

pub begin-requires-clause-is_in : goal.begin-requires-clause-is_in
begin-requires-clause-is_in c =
    let m = c.args.member.now in
    let ns = c.args.numbers.now in
    let k = c.args.agent in
    let a = at_index m.agents k c.requires.there in
    let at = slice_get_read ns (length ns) k c.index-numbers-agent.result refl (let t = c.requires.there in let e = c.requires.many in omega (arith, t, e)) c.index-numbers-agent.is in
    subst (λ (p : CellNo). IsInBag c.args.bag.now p.0) (sym c.no.ensures) (c.requires.cell a.0 (c.index-numbers-agent.result) a.1 at).1

pub begin-requires-clause-many : goal.begin-requires-clause-many
begin-requires-clause-many c =
    let m = c.args.member.now in
    let ns = c.args.numbers.now in
    let k = c.args.agent in
    let a = at_index m.agents k c.requires.there in
    let at = slice_get_read ns (length ns) k c.index-numbers-agent.result refl (let t = c.requires.there in let e = c.requires.many in omega (arith, t, e)) c.index-numbers-agent.is in
    let many = places_are m k c.head.result.count a.0 a.1 c.head.ensures.places in
    (a.0.class, subst (λ (p : CellNo). IsNumberOf c.args.bag.now.cells a.0.class p.0) (sym c.no.ensures) (c.requires.cell a.0 (c.index-numbers-agent.result) a.1 at).0, subst (Holds a.0.class) many (c.is_sound.ensures.fits k a.0 a.1))

pub end_of-end-requires-clause-port : goal.end_of-end-requires-clause-port
end_of-end-requires-clause-port c = at_port c.args.member.now c.is_sound.ensures (ToAgent c.args.agent c.loop-place.place) c.end.result c.end.ensures

pub end_of-end-requires-clause-inside : goal.end_of-end-requires-clause-inside
end_of-end-requires-clause-inside c =
    let m = c.args.member.now in
    subst (λ n. IsInside n c.end.result) (sym c.requires.many) (inside_of m c.is_sound.ensures (ToAgent c.args.agent c.loop-place.place) c.end.result c.end.ensures)

pub set-requires : goal.set-requires
set-requires c =
    let m = c.args.member.now in
    let ns = c.args.numbers.now in
    let k = c.args.agent in
    let n = c.index-numbers-agent.result in
    let a = at_index m.agents k c.requires.there in
    let at = slice_get_read ns (length ns) k c.index-numbers-agent.result refl (let t = c.requires.there in let e = c.requires.many in omega (arith, t, e)) c.index-numbers-agent.is in
    subst (λ (p : CellNo). c.loop-place.place < places (state_at c.loop-place.bag p.0)) (sym c.no-in-loop-place.ensures)
    (has_place m ns k n c.args.bag.now c.loop-place.place c.loop-place.bag c.loop-place.invariant (c.requires.cell a.0 n a.1 at).1 c.places-places.result c.places-places.ensures c.loop-place-test.true)

pub loop-place-preserved : goal.loop-place-preserved
loop-place-preserved c =
    let m = c.args.member.now in
    let ns = c.args.numbers.now in
    let k = c.args.agent in
    let n = c.index-numbers-agent.result in
    let a = at_index m.agents k c.requires.there in
    let at = slice_get_read ns (length ns) k c.index-numbers-agent.result refl (let t = c.requires.there in let e = c.requires.many in omega (arith, t, e)) c.index-numbers-agent.is in
    one_more_end m ns k n c.args.bag.now c.loop-place.place c.loop-place.bag c.loop-place.invariant (c.requires.cell a.0 n a.1 at).1 c.end.result c.end_of-end.result c.set.new.self c.end.ensures c.end_of-end.ensures
    (c.set.ensures ∙ ap (λ (p : CellNo). changed c.loop-place.bag p.0 (with_end (state_at c.loop-place.bag p.0) c.loop-place.place c.end_of-end.result)) c.no-in-loop-place.ensures)

pub returns : goal.returns
returns c = λ a n stands at.
    let m = c.args.member.now in
    let ns = c.args.numbers.now in
    let k = c.args.agent in
    let read = slice_get_read ns (length ns) k c.index-numbers-agent.result refl (let t = c.requires.there in let e = c.requires.many in omega (arith, t, e)) c.index-numbers-agent.is in
    let cell : n ≡ c.index-numbers-agent.result = same_Some n (c.index-numbers-agent.result) (sym at ∙ read) in
    all_written m ns k n c.args.bag.now c.loop-place.place c.loop-place.bag (subst (λ (p : CellNo). IsBeingWritten m ns k c.loop-place.place p c.args.bag.now c.loop-place.bag) (sym cell) c.loop-place.invariant)
    c.places-places.result c.places-places.ensures c.loop-place-test.false a stands
