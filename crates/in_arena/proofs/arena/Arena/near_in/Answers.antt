use Rattle.std.proofs.Common.{◌<◌, ◌∙◌, ap, subst, arith}
use Rattle.in_arena.specs.Classes.{width}
use Rattle.in_arena.specs.States.{end_at, places}
use Rattle.in_arena.proofs.Inside.{few_ends, live_of, live_state, near_place, place_found, place_says}
use Rattle.in_arena.proofs.RowStarts.{row_at}
use Rattle.in_arena.proofs.Words.{head_inside}
use Rattle.in_arena.proofs.arena.Arena.near_in.Goals as goal

pub get-requires : goal.get-requires
get-requires c =
    let a = c.self.inside in let h = c.self.invariant in let n = c.args.cell.0 in let p = c.args.place in let v = c.args.self.now in
    let l = live_of a h v c.self.view_is n c.requires.live in
    let near = c.requires.near in let wide : p < width l.class = (let head = head_inside l.class in omega (arith, near, head)) in
    (row_at a v c.self.view_is c.args.row c.requires.row, place_found a.words a.cells n h.whole l p c.near_word.result wide (c.near_word.ensures ∙ near_place a.cells n l.class l.index p l.place near))

pub returns : goal.returns
returns c = λ has. (
    let a = c.self.inside in let h = c.self.invariant in let n = c.args.cell.0 in let p = c.args.place in let v = c.args.self.now in
    let l = live_of a h v c.self.view_is n c.requires.live in
    let is = live_state a.words.at a.cells a.words.slots v n c.self.view_is l in
    let near = c.requires.near in let wide : p < width l.class = (let head = head_inside l.class in omega (arith, near, head)) in
    ap (λ s. end_at s p) is
    ∙ place_says a.words a.cells n h.whole l p c.near_word.result c.get.result.now wide (subst (λ s. p < places s) is has) (few_ends a h n l) (c.near_word.ensures ∙ near_place a.cells n l.class l.index p l.place near) c.get.ensures
    )
