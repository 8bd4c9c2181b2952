use Rattle.std.proofs.Common.{◌≡◌, ◌<◌, length, refl, sym, ap, subst, ◌∙◌, arith}
use Rattle.std.proofs.lemmas.Option.{same_Some, slice_get_read}
use Rattle.in_base.proofs.Each.{at_index}
use Rattle.in_arena.specs.Arenas.{changed, state_at}
use Rattle.in_arena.specs.States.{places, with_end}
use Rattle.in_arena.specs.declared.content.CellNo.{CellNo}
use Rattle.in_compile.specs.declared.joints.Joint.TheVariants.{ToAgent}
use Rattle.in_compile.specs.PlacingSteps.{IsBeingWritten, IsInside}
use Rattle.in_compile.proofs.Listed.Slots.{at_port}
use Rattle.in_compile.proofs.Placements.EndByEnd.{all_written, has_place, inside_of, one_more_end}
use Rattle.in_compile.proofs.Placements.Put.{begun_in, none_written}
use Rattle.in_compile.proofs.putting.write.Goals as goal

pub loop-place-init : goal.loop-place-init
loop-place-init c =
    let m = c.args.member.now in
    let ns = c.args.numbers.now in
    let k = c.args.agent in
    let n = c.index-numbers-agent.result in
    let a = at_index m.agents k c.requires.there in
    let at = slice_get_read ns (length ns) k c.index-numbers-agent.result refl (let t = c.requires.there in let e = c.requires.many in omega (arith, t, e)) c.index-numbers-agent.is in
    none_written m ns k n c.args.arena.now a.0 a.1 (c.requires.begun a.0 n a.1 at)

pub end_of-end-requires-clause-port : goal.end_of-end-requires-clause-port
end_of-end-requires-clause-port c = at_port c.args.member.now c.is_sound.ensures (ToAgent c.args.agent c.loop-place.place) c.end.result c.end.ensures

pub end_of-end-requires-clause-inside : goal.end_of-end-requires-clause-inside
end_of-end-requires-clause-inside c =
    let m = c.args.member.now in
    subst (λ n. IsInside n c.end.result) (sym c.requires.many) (inside_of m c.is_sound.ensures (ToAgent c.args.agent c.loop-place.place) c.end.result c.end.ensures)

pub set_word-requires : goal.set_word-requires
set_word-requires c =
    let m = c.args.member.now in
    let ns = c.args.numbers.now in
    let k = c.args.agent in
    let n = c.index-numbers-agent.result in
    let a = at_index m.agents k c.requires.there in
    let at = slice_get_read ns (length ns) k c.index-numbers-agent.result refl (let t = c.requires.there in let e = c.requires.many in omega (arith, t, e)) c.index-numbers-agent.is in
    subst (λ (p : CellNo). c.loop-place.place < places (state_at c.loop-place.arena p.0)) (sym c.no.ensures)
    (has_place m ns k n c.args.arena.now c.loop-place.place c.loop-place.arena c.loop-place.invariant (begun_in a.0.symbol.0 (length a.0.ends) (state_at c.args.arena.now n.0) (c.requires.begun a.0 n a.1 at))
    c.places-place-end.result c.places-place-end.ensures c.loop-place-test.true)

pub loop-place-preserved : goal.loop-place-preserved
loop-place-preserved c =
    let m = c.args.member.now in
    let ns = c.args.numbers.now in
    let k = c.args.agent in
    let n = c.index-numbers-agent.result in
    let a = at_index m.agents k c.requires.there in
    let at = slice_get_read ns (length ns) k c.index-numbers-agent.result refl (let t = c.requires.there in let e = c.requires.many in omega (arith, t, e)) c.index-numbers-agent.is in
    one_more_end m ns k n c.args.arena.now c.loop-place.place c.loop-place.arena c.loop-place.invariant (begun_in a.0.symbol.0 (length a.0.ends) (state_at c.args.arena.now n.0) (c.requires.begun a.0 n a.1 at))
    c.end.result c.end_of-end.result c.set_word.new.self c.end.ensures c.end_of-end.ensures
    (c.set_word.ensures ∙ ap (λ (p : CellNo). changed c.loop-place.arena p.0 (with_end (state_at c.loop-place.arena p.0) c.loop-place.place c.end_of-end.result)) c.no.ensures)

pub returns : goal.returns
returns c = λ a n stands at.
    let m = c.args.member.now in
    let ns = c.args.numbers.now in
    let k = c.args.agent in
    let read = slice_get_read ns (length ns) k c.index-numbers-agent.result refl (let t = c.requires.there in let e = c.requires.many in omega (arith, t, e)) c.index-numbers-agent.is in
    let cell : n ≡ c.index-numbers-agent.result = same_Some n (c.index-numbers-agent.result) (sym at ∙ read) in
    all_written m ns k n c.args.arena.now c.loop-place.place c.loop-place.arena (subst (λ (p : CellNo). IsBeingWritten m ns k c.loop-place.place p c.args.arena.now c.loop-place.arena) (sym cell) c.loop-place.invariant)
    c.places-place-end.result c.places-place-end.ensures c.loop-place-test.false a stands
