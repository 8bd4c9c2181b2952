-- The effects of writing lines on a text.
use Rattle.std.proofs.Common.{◌≡◌, ◌<◌, ◌+◌, List, ◌++◌, [], ◌∷◌, length, take, ℕ, zero, suc, sym, subst, ap, ◌∙◌, refl, inl, inr, arith, length-append, Result, Ok, Err, IfOk, OnErr, Vec, Global}
use Rattle.std.specs.Io.KnownBytes.{append_known}
use Rattle.in_syntax.specs.Streams.{Device, Reader}
use Rattle.in_syntax.specs.declared.text_limits.TextLimits.{TextLimits}
use Rattle.in_print.proofs.Public.{append_known-twice}
use Rattle.in_command_line.specs.declared.action.Action.{Action}
use Rattle.in_program.specs.declared.acting.Status.{Status}
use Rattle.in_print.specs.Devices.{Moves, BreaksAt}
use Rattle.in_program.specs.Devices.{Gives, IsEnoughText}
use Rattle.in_program.specs.Lines.{memory_line}
use Rattle.in_program.specs.Acting.{Acts, told, unwritten, memory_status, fault_status, IsReply, Says, Tells, TellsOne}

-- the lines are written, or a write fails within them
pub tells : (limits : TextLimits) (a : Action) (r r' : Reader) (w w' : Device) (text line : List ℕ) (s answer : Status) →
    Gives limits r r' text → Says limits a r'.ended text line s → Tells w w' line s answer → Acts limits a r r' w w' answer
tells limits a r r' w w' text line s answer read says (inl (wrote, is)) =
    let P : Status → Type 0 = λ z. Says limits a r'.ended text line z in told text line read (subst P (sym is) says) wrote
tells limits a r r' w w' text line s answer read says (inr (breaks, is)) = unwritten text line s read says breaks is

-- the output on the text, if it is seen through another
pub tells_reply : (limits : TextLimits) (a : Action) (r r' : Reader) (w w' : Device) (text seen : List ℕ) (answer : Status) → seen ≡ text → (Gives limits r r' text × IsEnoughText limits r'.ended text) → TellsOne (IsReply limits a seen) w w' answer → Acts limits a r r' w w' answer
tells_reply limits a r r' w w' text seen answer of_text (read, enough) (lines, s, inl reply, tell) =
    let P : List ℕ → Type 0 = λ z. IsReply limits a z lines s in
    tells limits a r r' w w' text lines s answer read (inl (enough, subst P of_text reply)) tell
tells_reply limits a r r' w w' text seen answer of_text (read, enough) (lines, s, inr wants, tell) = tells limits a r r' w w' text lines s answer read (inr wants) tell

-- memory may run out for any text
pub wants_memory : (limits : TextLimits) (a : Action) (r r' : Reader) (w w' : Device) (text : List ℕ) (answer : Status) →
    Gives limits r r' text → Tells w w' memory_line memory_status answer → Acts limits a r r' w w' answer
wants_memory limits a r r' w w' text answer read tell = tells limits a r r' w w' text memory_line memory_status answer read (inr (refl, refl)) tell

-- running out of memory is reported in the place of anything
pub wanted : (So : List ℕ → Status → Type 0) (w w' : Device) (answer : Status) → Tells w w' memory_line memory_status answer → TellsOne So w w' answer
wanted So w w' answer tell = (memory_line, memory_status, inr (refl, refl), tell)

pub one : (So : List ℕ → Status → Type 0) (w w' : Device) (lines : List ℕ) (s answer : Status) → So lines s → Tells w w' lines s answer → TellsOne So w w' answer
one So w w' lines s answer so tell = (lines, s, inl so, tell)

-- the lines are written, or running out of memory is reported
pub lines_told : {E : Type 0} (So : List ℕ → Status → Type 0) (w w' : Device) (lines : Result (Vec ℕ Global) E) (these : List ℕ) (s answer : Status) → So these s → IfOk lines (λ v. v.items ≡ these) →
    IfOk lines (λ v. Tells w w' v.items s answer) → OnErr lines (Tells w w' memory_line memory_status answer) → TellsOne So w w' answer
lines_told So w w' (Ok v) these s answer so is tell none = (v.items, s, inl (subst (λ l. So l s) (sym is) so), tell)
lines_told So w w' (Err e) these s answer so is tell none = wanted So w w' answer none

-- a relation of the lines and the status that implies another one
pub told_as : (So That : List ℕ → Status → Type 0) (w w' : Device) (answer : Status) → ((lines : List ℕ) (s : Status) → So lines s → That lines s) → TellsOne So w w' answer → TellsOne That w w' answer
told_as So That w w' answer f (lines, s, inl so, tell) = (lines, s, inl (f lines s so), tell)
told_as So That w w' answer f (lines, s, inr wants, tell) = (lines, s, inr wants, tell)

-- ---- two texts, one after the other

take_front : (n : ℕ) (front rest : List ℕ) → n < length front → take n front ≡ take n (front ++ rest)
take_front zero front rest lt = refl
take_front (suc n) [] rest lt = absurd (omega (arith, lt))
take_front (suc n) (x ∷ front) rest lt = ap (λ l. x ∷ l) (take_front n front rest (omega (arith, lt)))

take_past : (front rest : List ℕ) (n : ℕ) → front ++ take n rest ≡ take (length front + n) (front ++ rest)
take_past [] rest n = ap (λ k. take k rest) (let e : n ≡ 0 + n = omega arith in e)
take_past (x ∷ front) rest n = ap (λ l. x ∷ l) (take_past front rest n) ∙ ap (λ k. take k (x ∷ (front ++ rest))) (let e : suc (length front + n) ≡ suc (length front) + n = omega arith in e)

pub both_told : (w v w' : Device) (front rest : List ℕ) (s answer : Status) → Moves w v front → Tells v w' rest s answer → Tells w w' (front ++ rest) s answer
both_told w v w' front rest s answer first (inl (second, is)) = inl (
  record {
    moved = second.moved ∙ ap (λ z. append_known z rest) first.moved ∙ append_known-twice w.bytes front rest;
    sound = second.sound ∙ first.sound;
  },
  is,
)
both_told w v w' front rest s answer first (inr ((n, breaks), is)) = inr (
  (
    length front + n,
    record {
      short = omega (arith, breaks.short, length-append front rest);
      breaks = record {
        moved = breaks.breaks.moved ∙ ap (λ z. append_known z (take n rest)) first.moved ∙ append_known-twice w.bytes front (take n rest) ∙ ap (append_known w.bytes) (take_past front rest n);
        failed = breaks.breaks.failed ∙ ap (λ k. k + 1) first.sound;
      };
    },
  ),
  is,
)

pub front_broken : (w w' : Device) (front rest : List ℕ) (n : ℕ) (s : Status) → BreaksAt w w' front n → Tells w w' (front ++ rest) s fault_status
front_broken w w' front rest n s breaks = inr (
  (
    n,
    record {
      short = omega (arith, breaks.short, length-append front rest);
      breaks = record { moved = breaks.breaks.moved ∙ ap (append_known w.bytes) (take_front n front rest breaks.short); failed = breaks.breaks.failed };
    },
  ),
  refl,
)
