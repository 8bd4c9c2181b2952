use Rattle.std.proofs.Common.{◌∙◌, ap, get_or, set, Some, None}
use Rattle.in_arena.proofs.Rewriting.{end_rewrites, place_filled}
use Rattle.in_arena.proofs.row.set_end.Goals as goal

pub write-requires : goal.write-requires
write-requires c =
    let w = c.requires.words in let x = c.requires.written in let e = place_filled c.args.words.now c.args.words.now c.args.spot x.0 w.2 w.3 x.1 (λ i. c.args.words.now.at) c.args.place c.requires.place in
    (w.0, (Some e.0, ap (λ k. get_or c.args.words.now.slots k None) c.word.ensures ∙ e.1))

pub returns : goal.returns
returns c = λ x at.
    let w = c.requires.words in let s = c.args.spot in let ws = c.args.words.now.slots in
    end_rewrites c.args.words.now c.write.new.self s x w.2 w.3 at c.write.ensures.0 c.args.place c.args.end c.requires.place
    (c.write.ensures.1 ∙ ap (λ k. set ws k (Some (Some c.args.end))) c.word.ensures)
