use Rattle.std.proofs.Common.{◌∙◌, ap, sym, Some}
use Rattle.in_arena.specs.States.{word_of}
use Rattle.in_arena.proofs.Inside.{head_found, head_says, live_of, live_state, word_is}
use Rattle.in_arena.proofs.Rewriting.{number_of_head}
use Rattle.in_arena.proofs.arena.Arena.symbol.Goals as goal

pub head_of-requires : goal.head_of-requires
head_of-requires c =
    let a = c.self.inside in let h = c.self.invariant in let l = live_of a h c.args.self.now c.self.view_is c.args.cell.0 c.requires in
    (sym h.block.0, head_found a.words a.cells c.args.cell.0 h.whole l)

pub returns : goal.returns
returns c =
    let a = c.self.inside in let h = c.self.invariant in let n = c.args.cell.0 in let v = c.args.self.now in let l = live_of a h v c.self.view_is n c.requires in
    let s = head_says a.words a.cells n h.whole l c.head_of.result c.head_of.ensures in
    ap word_of (live_state a.words.at a.cells a.words.slots v n c.self.view_is l) ∙ word_is l.content l.some
    ∙ ap Some (sym (number_of_head c.head_of.result c.number.result s.2 c.number.ensures.cell ∙ s.0))
