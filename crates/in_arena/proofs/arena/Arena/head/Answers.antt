use Rattle.std.proofs.Common.{◌∙◌, ap, sym, Some, arith}
use Rattle.in_arena.specs.States.{places, word_of}
use Rattle.in_arena.specs.Words.{Head}
use Rattle.in_arena.proofs.Inside.{content_long, few_ends, head_found, head_says, live_of, live_state, places_are, word_is}
use Rattle.in_arena.proofs.arena.Arena.head.Goals as goal

pub head_of-requires : goal.head_of-requires
head_of-requires c =
    let a = c.self.inside in let h = c.self.invariant in let l = live_of a h c.args.self.now c.self.view_is c.args.cell.0 c.requires in
    (sym h.block.0, head_found a.words a.cells c.args.cell.0 h.whole l)

pub from-requires : goal.from-requires
from-requires c =
    let a = c.self.inside in let h = c.self.invariant in let n = c.args.cell.0 in let l = live_of a h c.args.self.now c.self.view_is n c.requires in
    (head_says a.words a.cells n h.whole l c.head_of.result c.head_of.ensures).2

pub returns-clause-symbol : goal.returns-clause-symbol
returns-clause-symbol c =
    let a = c.self.inside in let h = c.self.invariant in let n = c.args.cell.0 in let v = c.args.self.now in let l = live_of a h v c.self.view_is n c.requires in
    let s = head_says a.words a.cells n h.whole l c.head_of.result c.head_of.ensures in
    ap word_of (live_state a.words.at a.cells a.words.slots v n c.self.view_is l) ∙ word_is l.content l.some ∙ ap Some (sym s.0 ∙ ap (λ (x : Head). x.word) (sym c.from.ensures))

pub returns-clause-places : goal.returns-clause-places
returns-clause-places c =
    let a = c.self.inside in let h = c.self.invariant in let n = c.args.cell.0 in let v = c.args.self.now in let l = live_of a h v c.self.view_is n c.requires in
    let s = head_says a.words a.cells n h.whole l c.head_of.result c.head_of.ensures in
    ap (λ (x : Head). x.count) c.from.ensures ∙ s.1 ∙ sym (ap places (live_state a.words.at a.cells a.words.slots v n c.self.view_is l) ∙ places_are l.content l.some (omega (arith, few_ends a h n l, content_long a.cells a.words.slots n h.whole l)))
