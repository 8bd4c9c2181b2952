use Rattle.std.proofs.Common.{◌∙◌, sym, ap, unwrap_or, length}
use Rattle.in_net.proofs.Texts.Absent.{added}
use Rattle.in_net.proofs.reading.number_of.Goals as goal

pub returns : goal.returns
returns c = (
  c.len-number.ensures ∙ ap (λ o. unwrap_or o (length c.args.names.now)) c.in_default.ensures,
  added c.args.names.now c.declare.new.self c.args.name.now c.in_ok-declare.field-0 (sym c.in_default.ensures) c.in_ok-declare.ensures,
)
