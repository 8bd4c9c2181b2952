use Rattle.std.proofs.Common.{◌≡◌, ◌∙◌, ap, get_or, set, Some, None}
use Rattle.in_arena.specs.Words.{head}
use Rattle.in_arena.proofs.Rows.{with_word}
use Rattle.in_arena.proofs.Rewriting.{head_filled, head_rewrites}
use Rattle.in_arena.proofs.row.begin_cell.Goals as goal

pub write-requires : goal.write-requires
write-requires c =
    let w = c.requires.words in let x = c.requires.written in let h = head_filled c.args.words.now c.args.words.now c.args.spot x.0 w.2 w.3 x.1 (λ i. c.args.words.now.at) in
    (w.0, (Some h.0, ap (λ k. get_or c.args.words.now.slots k None) c.head.ensures ∙ h.1))

pub returns : goal.returns
returns c = λ x at.
    let w = c.requires.words in let s = c.args.spot in let ws = c.args.words.now.slots in
    let now : c.write.new.self.slots ≡ with_word s.cells ws s.class s.index head c.word.result = c.write.ensures.1 ∙ ap (λ k. set ws k (Some (Some c.word.result))) c.head.ensures in
    head_rewrites c.args.words.now c.write.new.self s x w.2 w.3 at c.write.ensures.0 _ tt (now ∙ ap (λ e. with_word s.cells ws s.class s.index head e) c.word.ensures)
