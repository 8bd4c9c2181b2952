use Rattle.std.proofs.Common.{◌≡◌, subst}
use Rattle.in_command_line.specs.declared.action.Action.{Action}
use Rattle.in_program.specs.Acting.{Acts}
use Rattle.in_program.specs.declared.acting.Status.{Status}
use Rattle.in_syntax.specs.declared.text_limits.TextLimits.{TextLimits}
use Rattle.in_syntax.specs.Streams.{Device, Reader}
use Rattle.inet.proofs.answer_text.Goals as goal

-- the same by equal limits
acted : {l m : TextLimits} {a : Action} {x y : Reader} {v w : Device} {s : Status} → l ≡ m → Acts l a x y v w s → (r : Reader) × (r2 : Reader) × Acts m a r r2 v w s
acted {a = a} {x = x} {y = y} {v = v} {w = w} {s = s} e h = (x, y, subst (λ z. Acts z a x y v w s) e h)

pub returns : goal.returns
returns g c = acted c.text_limits.ensures c.act_watched-status.ensures
