use Rattle.std.proofs.Common.{◌≡◌, ◌∙◌, ℕ, sym, Some}
use Rattle.in_arena.specs.Arenas.{ArenaView, changed, state_at}
use Rattle.in_arena.specs.ByClass.{view_of}
use Rattle.in_arena.specs.States.{with_end}
use Rattle.in_arena.specs.declared.content.CellNo.{CellNo}
use Rattle.in_arena.specs.declared.content.End.{End}
use Rattle.in_arena.specs.declared.content.End.TheVariants.{Cell}
use Rattle.in_arena.proofs.FreeLists.{places_live}
use Rattle.in_arena.proofs.Inside.{end_set, live_of, near_place, place_found, width_of}
use Rattle.in_arena.proofs.RowStarts.{row_at}
use Rattle.in_arena.proofs.arena.Arena.set_near_in.Goals as goal

pub write-requires : goal.write-requires
write-requires c =
    let a = c.self.inside in let h = c.self.invariant in let v = c.args.self.now in let x = c.requires.near in let n = x.0.0 in let p = x.1 in
    let lt = c.requires.place x.0 p x.2 in
    let l = live_of a h v c.self.view_is n (places_live (state_at v n) p lt) in
    let e = place_found a.words a.cells n h.whole l p c.near_word.result (width_of a h v c.self.view_is n l p lt) (c.near_word.ensures x.0 p x.2 ∙ near_place a.cells n l.class l.index p l.place x.3) in
    (row_at a v c.self.view_is c.args.row c.requires.row, (Some e.0, e.1))

pub invariant_of-self : goal.invariant_of-self
invariant_of-self c =
    let a = c.self.inside in let h = c.self.invariant in let v = c.args.self.now in let x = c.requires.near in let n = x.0.0 in let p = x.1 in
    let lt = c.requires.place x.0 p x.2 in
    let l = live_of a h v c.self.view_is n (places_live (state_at v n) p lt) in
    (end_set a h v c.self.view_is n l c.write.new.self c.write.ensures.0 p c.args.end c.near_word.result (width_of a h v c.self.view_is n l p lt) (c.near_word.ensures x.0 p x.2 ∙ near_place a.cells n l.class l.index p l.place x.3) c.write.ensures.1).0

-- an end is one place of one cell
one_place : (v w : ArenaView) (x : End) (c d : CellNo) (p q : ℕ) (e : End) → x ≡ Cell c p → x ≡ Cell d q → w ≡ changed v c.0 (with_end (state_at v c.0) p e) → w ≡ changed v d.0 (with_end (state_at v d.0) q e)
one_place v w x c d p q e f g is = let same : Cell c p ≡ Cell d q = sym f ∙ g in cc

pub returns : goal.returns
returns c = λ d q at. (
    let a = c.self.inside in let h = c.self.invariant in let v = c.args.self.now in let x = c.requires.near in let n = x.0.0 in let p = x.1 in
    let lt = c.requires.place x.0 p x.2 in
    let l = live_of a h v c.self.view_is n (places_live (state_at v n) p lt) in
    one_place v (view_of c.write.new.self.at a.cells c.write.new.self.slots) c.args.at x.0 d p q c.args.end x.2 at
    (end_set a h v c.self.view_is n l c.write.new.self c.write.ensures.0 p c.args.end c.near_word.result (width_of a h v c.self.view_is n l p lt) (c.near_word.ensures x.0 p x.2 ∙ near_place a.cells n l.class l.index p l.place x.3) c.write.ensures.1).1
    )
