use Rattle.std.proofs.Common.{◌∙◌, length, sym, ap}
use Rattle.in_print.specs.Texts.{setting_of, free_lines_in, pair_lines_in}
use Rattle.in_print.specs.Writings.{with_parts}
use Rattle.in_print.proofs.Texts.{with_parts_join}
use Rattle.in_print.proofs.lines.all_lines.Goals as goal

pub returns : goal.returns
returns c d enough =
    let m = c.args.machine.now in let s = setting_of m in
    let free = free_lines_in m d 0 (length m.free) in let pairs = pair_lines_in m d m.queue in
    c.in_ok-pair_lines.ensures d enough ∙ ap (λ w. with_parts s w pairs) (c.in_ok-free_lines.ensures d enough) ∙ sym (with_parts_join s c.args.sheet.now free pairs)
