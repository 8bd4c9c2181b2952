-- The output of the program by the large limits of a text.
use Rattle.std.proofs.Common.{◌<◌, inl, inr, ℕ, Bool, List, length, Ok, Err, refl, arith}
use Rattle.in_syntax.specs.declared.faults.Code.TheVariants.{E03}
use Rattle.in_syntax.specs.declared.faults.Fault.TheVariants.{Refused}
use Rattle.in_syntax.specs.declared.text_limits.TextLimits.{TextLimits}
use Rattle.in_syntax.specs.declared.text_limits.TextLimits.TheVariants.{Large}
use Rattle.in_syntax.specs.Places.{start}
use Rattle.in_syntax.specs.Streams.{Reader}
use Rattle.in_syntax.specs.TextLimits.{text_limit}
use Rattle.in_syntax.specs.Tokens.{long_text, refusal_at}
use Rattle.in_syntax.proofs.Public.{text_few}
use Rattle.in_check.specs.Checking.{IsRefused}
use Rattle.in_check.proofs.Public.{chain_of}
use Rattle.in_larger_limits.proofs.Public.{checked_alike}
use Rattle.in_command_line.specs.declared.action.Action.{Action}
use Rattle.in_program.specs.declared.acting.Status.{Status}
use Rattle.in_program.specs.Acting.{told, unread, unwritten, IsReport, Report, accepted, refused, Says}
use Rattle.in_program.specs.Devices.{AreFewReads, Fails, Gives, IsEnoughText}
use Rattle.in_program.specs.Laws.{CallsByLarge, IsRefusedByNoLimit, RepliesByLarge}
use Rattle.in_program.proofs.AnyOrder.{replied}

module _ (limits : TextLimits) where
  report_kept : (a : Action) (text : List ℕ) (x : Report) → IsRefusedByNoLimit limits text → IsReport limits a text x → IsReport Large a text x
  report_kept a text (accepted p f) other h = (checked_alike limits text (Ok p) tt h.0, h.1)
  report_kept a text (refused r) other h = checked_alike limits text (Err (Refused r)) (other r h) h

  few_kept : (r r' : Reader) (bytes : List ℕ) → AreFewReads limits r r' bytes → AreFewReads Large r r' bytes
  few_kept r r' bytes h = record { some = h.some; each = h.each; most = omega (arith, h.most, text_few limits) }

  gives_kept : (r r' : Reader) (text : List ℕ) → Gives limits r r' text → Gives Large r r' text
  gives_kept r r' text h = record { moves = h.moves; few = few_kept r r' text h.few }

  fails_kept : (r r' : Reader) (text : List ℕ) → Fails limits r r' text → Fails Large r r' text
  fails_kept r r' text h = record { breaks = h.breaks; few = few_kept r r' text h.few }

  -- a text past the limit is refused by it
  long_refused : (text : List ℕ) → text_limit limits < length text → IsRefused limits text (refusal_at E03 start)
  long_refused text long = chain_of limits text (Err (Refused (refusal_at E03 start))) (inl (inl (long_text long)))

  enough_kept : (ended : Bool) (text : List ℕ) → IsRefusedByNoLimit limits text → IsEnoughText limits ended text → IsEnoughText Large ended text
  enough_kept ended text other (inl h) = inl h
  enough_kept ended text other (inr long) = absurd (other (refusal_at E03 start) (long_refused text long) refl)

pub replies_by_large : RepliesByLarge
replies_by_large limits a text lines s other h = replied Large a text lines s h.report (report_kept limits a text h.report other h.so) h.lines_are h.status_is

says_kept : (limits : TextLimits) (a : Action) (ended : Bool) (text lines : List ℕ) (s : Status) → IsRefusedByNoLimit limits text → Says limits a ended text lines s → Says Large a ended text lines s
says_kept limits a ended text lines s other (inl h) = inl (enough_kept limits ended text other h.0, replies_by_large limits a text lines s other h.1)
says_kept limits a ended text lines s other (inr h) = inr h

pub calls_by_large : CallsByLarge
calls_by_large limits a r r' w w' s other (told text lines gives says moves) = told text lines (gives_kept limits r r' text gives) (says_kept limits a r'.ended text lines s (other text gives) says) moves
calls_by_large limits a r r' w w' s other (unread text fails same is) = unread text (fails_kept limits r r' text fails) same is
calls_by_large limits a r r' w w' s other (unwritten text lines t gives says breaks is) =
    unwritten text lines t (gives_kept limits r r' text gives) (says_kept limits a r'.ended text lines t (other text gives) says) breaks is
