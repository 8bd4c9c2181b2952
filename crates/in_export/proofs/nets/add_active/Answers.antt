use Rattle.std.proofs.Common.{◌++◌, ap, ◌∙◌}
use Rattle.in_export.specs.Json.{numbers_text}
use Rattle.in_export.proofs.nets.add_active.Goals as goal

pub returns : goal.returns
returns c = c.in_ok-add_numbers.ensures ∙ ap (λ z. c.args.bytes.now.items ++ numbers_text z) (c.as_slice.ensures.value ∙ c.in_ok-active.ensures)
