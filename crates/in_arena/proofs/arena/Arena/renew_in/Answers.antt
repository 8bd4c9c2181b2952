use Rattle.std.proofs.Common.{◌≤◌, ◌∙◌, ap, subst, get_or, set, None, Some, arith}
use Rattle.in_arena.specs.Arenas.{ArenaView}
use Rattle.in_arena.specs.Classes.{IsNumberOf, width}
use Rattle.in_arena.specs.declared.content.End.TheVariants.{Cell}
use Rattle.in_arena.proofs.Classes.{held_some, numbers_apart}
use Rattle.in_arena.proofs.Arenas.{live_inside}
use Rattle.in_arena.proofs.Inside.{head_found, head_set, inside_all, live_of, near_spot}
use Rattle.in_arena.proofs.Seen.{number_of_place}
use Rattle.in_arena.proofs.RowStarts.{row_at}
use Rattle.in_arena.proofs.arena.Arena.renew_in.Goals as goal

pub write-requires : goal.write-requires
write-requires c =
    let a = c.self.inside in let h = c.self.invariant in let n = c.args.cell.0 in let l = live_of a h c.args.self.now c.self.view_is n c.requires.live in
    let e = head_found a.words a.cells n h.whole l in (row_at a c.args.self.now c.self.view_is c.args.row c.requires.row, (Some e.0, ap (λ k. get_or a.words.slots k None) c.near_word.ensures ∙ e.1))

pub of-requires : goal.of-requires
of-requires c =
    let a = c.self.inside in let h = c.self.invariant in let few = h.few in
    omega (arith, few, inside_all a h c.args.self.now c.self.view_is c.args.cell.0 (live_inside c.args.self.now c.args.cell.0 c.requires.live))

pub invariant_of-self : goal.invariant_of-self
invariant_of-self c =
    let a = c.self.inside in let h = c.self.invariant in let n = c.args.cell.0 in let v = c.args.self.now in let l = live_of a h v c.self.view_is n c.requires.live in
    let for = c.requires.many in let same = numbers_apart v.cells n for.0 l.class for.1 (subst (λ (w : ArenaView). IsNumberOf w.cells l.class n) c.self.view_is (number_of_place a.cells n l.class l.index l.place)) in
    (head_set a h v c.self.view_is n l c.write.new.self c.write.ensures.0 (Cell (record { 0 = c.args.head.word }) c.args.head.count) c.near_word.result tt (held_some for.0 c.args.head.count for.2) (subst (λ k. c.args.head.count ≤ width k) same for.2.1)
    (c.near_word.ensures ∙ near_spot a.cells n l.class l.index 3 l.place (omega arith)) (c.write.ensures.1 ∙ ap (λ e. set a.words.slots c.near_word.result (Some (Some e))) c.word.ensures)).0

pub returns-clause-renewed : goal.returns-clause-renewed
returns-clause-renewed c =
    let a = c.self.inside in let h = c.self.invariant in let n = c.args.cell.0 in let v = c.args.self.now in let l = live_of a h v c.self.view_is n c.requires.live in
    let for = c.requires.many in let same = numbers_apart v.cells n for.0 l.class for.1 (subst (λ (w : ArenaView). IsNumberOf w.cells l.class n) c.self.view_is (number_of_place a.cells n l.class l.index l.place)) in
    (head_set a h v c.self.view_is n l c.write.new.self c.write.ensures.0 (Cell (record { 0 = c.args.head.word }) c.args.head.count) c.near_word.result tt (held_some for.0 c.args.head.count for.2) (subst (λ k. c.args.head.count ≤ width k) same for.2.1)
    (c.near_word.ensures ∙ near_spot a.cells n l.class l.index 3 l.place (omega arith)) (c.write.ensures.1 ∙ ap (λ e. set a.words.slots c.near_word.result (Some (Some e))) c.word.ensures)).1
