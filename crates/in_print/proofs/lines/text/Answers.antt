use Rattle.std.proofs.Common.{◌++◌, [], ◌∙◌, nat_eq, length, count_by, is_some, sym, ap, arith}
use Rattle.std.proofs.lemmas.List.{length-map}
use Rattle.in_check.specs.NetText.{numbers, bytes_of}
use Rattle.in_print.specs.Texts.{setting_of, free_lines_in, pair_lines_in}
use Rattle.in_print.specs.Writings.{TextSoFar, nothing_written, with_parts}
use Rattle.in_print.proofs.Texts.{bytes_follow}
use Rattle.in_print.proofs.lines.text.Goals as goal

pub returns : goal.returns
returns c =
    let m = c.args.machine.now in let s = setting_of m in let d = count_by is_some m.agents in
    let free = free_lines_in m d 0 (length m.free) in let pairs = pair_lines_in m d m.queue in
    let sheet = c.in_ok-all_lines.ensures d (omega arith) ∙ ap (λ w. with_parts s w (free ++ pairs)) c.new-sheet.ensures in
    c.into_bytes.ensures ∙ ap (λ (w : TextSoFar). w.bytes) sheet ∙ bytes_follow s nothing_written (free ++ pairs)
    ∙ ap (λ k. (let parts = free_lines_in m d 0 k ++ pairs in bytes_of s.words s.net (numbers nat_eq [] parts) parts)) (sym (length-map m.free (λ f. f.kind)))
