-- The output of `run` with status 0 is that of the only end of its program.
use Rattle.std.proofs.Common.{◌≡◌, inl, inr, ℕ, nat_eq, List, [], ◌++◌, map, length, Option, Ok, refl, sym, subst, ap, ◌∙◌}
use Rattle.std.proofs.lemmas.List.{append_cancel_left}
use Rattle.std.proofs.lemmas.Option.{same_Some}
use Rattle.std.specs.Io.KnownBytes.{append_known}
use Rattle.in_syntax.specs.Streams.{Device, Reader}
use Rattle.in_syntax.specs.declared.text_limits.TextLimits.{TextLimits}
use Rattle.in_net.specs.Nets.{net_of, signature_of}
use Rattle.in_check.specs.Checking.{IsAccepted}
use Rattle.in_check.specs.Laws.{AreOneProgram}
use Rattle.in_check.specs.NetText.{text}
use Rattle.in_check.specs.Programs.{Program}
use Rattle.in_check.specs.Runs.{Reached}
use Rattle.in_check.specs.Systems.{System, rule_in, system_of}
use Rattle.in_check.proofs.Public.{programs_once}
use Rattle.in_order.specs.Ends.{words_in, Ends, EndsOnce}
use Rattle.in_limits.specs.declared.limits.Limits.{Limits}
use Rattle.in_run.specs.declared.running.Outcome.{Outcome}
use Rattle.in_run.specs.declared.stops.Stop.{Stop}
use Rattle.in_run.specs.declared.stops.Stop.TheVariants.{Normal, Limit, Full}
use Rattle.in_reducer.specs.Machines.{MachineParts}
use Rattle.in_print.specs.Devices.{Moves}
use Rattle.in_machine.specs.Texts.{text_of}
use Rattle.in_run.specs.Outcomes.{RunsTo}
use Rattle.in_run.proofs.Public.{normal_outcomes_are_one}
use Rattle.in_command_line.specs.declared.action.Action.{Action}
use Rattle.in_command_line.specs.declared.action.Action.TheVariants.{Check, Derive, Run, Count}
use Rattle.in_program.specs.declared.acting.Status.{Status}
use Rattle.in_program.specs.Acting.{Acts, told, unread, unwritten, Says, IsReply, IsOfEachEnd, IsReport, IsFinding, counted, derived, ran, stopped, full, Report, accepted, refused, lines_of, status_of, status, stop_status}
use Rattle.in_program.specs.Lines.{run_lines}
use Rattle.in_program.specs.Laws.{CallsAreAnsweredOnce, IsAnswered, Moved, NormalCallsAreOne, NormalCountCallsAreOne, NormalCountsAreOne, NormalLinesAreOne}
use Rattle.in_program.proofs.OneReply.{answered_once}

-- two programs of one text have one end
same_system : (p q : Program) → AreOneProgram p q → system_of p ≡ system_of q
same_system p q h =
    λ i. (let s : System = record { count = length (h.tables i).names; symbols = signature_of (h.tables i); rules = map rule_in (h.rules i); start = net_of (h.net i) } in s)

ends_kept : (p q : Program) (k : ℕ) (written : List ℕ) → AreOneProgram p q → Ends p k written → Ends q k written
ends_kept p q k written h e = record {
  net = e.net;
  reached = subst (λ s. Reached s k e.net) (same_system p q h) e.reached;
  ended = e.ended;
  agents = e.agents;
  are_agents = e.are_agents;
  is_text = e.is_text
      ∙ ap (λ t. text (signature_of t) (words_in (record { tables = t; rules = p.rules; net = p.net; numbers = p.numbers })) nat_eq e.net (length e.agents) []) h.tables
      ∙ ap (λ n. text (signature_of q.tables) (words_in (record { tables = q.tables; rules = p.rules; net = n; numbers = p.numbers })) nat_eq e.net (length e.agents) []) h.net;
}

-- the program of a reply with status 0; the lines begin with the shown part of the net's text
record IsNormal (limits : TextLimits) (shown : List ℕ → List ℕ) (input lines : List ℕ) : Type 0 where
  program : Program
  valid : IsAccepted limits input program
  count : ℕ
  written : List ℕ
  once : EndsOnce program count written
  lines_are : lines ≡ shown written ++ run_lines count Normal

abbrev all_shown : List ℕ → List ℕ
all_shown t = t

abbrev none_shown : List ℕ → List ℕ
none_shown t = []

module _ (limits : TextLimits) (shown : List ℕ → List ℕ) (l : Limits) (input lines : List ℕ) where
  after_run : (q : Program) (m : MachineParts) (k : ℕ) (s : Stop) → IsAccepted limits input q → RunsTo q l (Ok (record { machine = m; interactions = k; stop = s })) → lines ≡ shown (text_of m) ++ run_lines k s → status 0 ≡ stop_status s
      → IsNormal limits shown input lines
  after_run q m k Normal valid h e is =
      let o : Outcome = record { machine = m; interactions = k; stop = Normal } in
      record { program = q; valid = valid; count = k; written = text_of m; once = normal_outcomes_are_one limits input q l o valid h refl; lines_are = e }
  after_run q m k Limit valid h e is = absurd (let z : 0 ≡ 3 = ap (λ s. s.0) is in cc)
  after_run q m k (Full c need free) valid h e is = absurd (let z : 0 ≡ 4 = ap (λ s. s.0) is in cc)

normal : (limits : TextLimits) (l : Limits) (input lines : List ℕ) (s : Status) (r : Report) → IsReport limits (Run l) input r → lines ≡ lines_of input r → s ≡ status_of r → s ≡ status 0 → IsNormal limits all_shown input lines
normal limits l input lines s r so e is zero = go r so e (sym zero ∙ is)
  where
    go : (r : Report) → IsReport limits (Run l) input r → lines ≡ lines_of input r → status 0 ≡ status_of r → IsNormal limits all_shown input lines
    go (accepted q (ran m k s)) h e is = after_run limits all_shown l input lines q.program m k s (q, refl, h.0) h.1 e is
    go (accepted q (full c need free)) h e is = absurd (let z : 0 ≡ 4 = ap (λ s. s.0) is in cc)
    go (accepted q counted) h e is = elim h.1 [ ]
    go (accepted q derived) h e is = elim h.1 [ ]
    go (accepted q (stopped m k s)) h e is = elim h.1 [ ]
    go (refused r) h e is = absurd (let z : 0 ≡ 1 = ap (λ s. s.0) is in cc)

normal_count : (limits : TextLimits) (l : Limits) (input lines : List ℕ) (s : Status) (r : Report) → IsReport limits (Count l) input r → lines ≡ lines_of input r → s ≡ status_of r → s ≡ status 0 → IsNormal limits none_shown input lines
normal_count limits l input lines s r so e is zero = go r so e (sym zero ∙ is)
  where
    go : (r : Report) → IsReport limits (Count l) input r → lines ≡ lines_of input r → status 0 ≡ status_of r → IsNormal limits none_shown input lines
    go (accepted q (stopped m k s)) h e is = after_run limits none_shown l input lines q.program m k s (q, refl, h.0) h.1 e is
    go (accepted q (full c need free)) h e is = absurd (let z : 0 ≡ 4 = ap (λ s. s.0) is in cc)
    go (accepted q counted) h e is = elim h.1 [ ]
    go (accepted q derived) h e is = elim h.1 [ ]
    go (accepted q (ran m k s)) h e is = elim h.1 [ ]
    go (refused r) h e is = absurd (let z : 0 ≡ 1 = ap (λ s. s.0) is in cc)

-- each end of the program gives these lines
one_normal : (limits : TextLimits) (shown : List ℕ → List ℕ) (input lines : List ℕ) → IsNormal limits shown input lines → (p : Program) → IsAccepted limits input p → (k : ℕ) (written : List ℕ) → Ends p k written → lines ≡ shown written ++ run_lines k Normal
one_normal limits shown input lines n p valid k written ends =
    let one = n.once.1 k written (ends_kept p n.program k written (programs_once limits input p n.program valid n.valid) ends) in
    n.lines_are ∙ (λ i. shown (one.1 i) ++ run_lines (one.0 i) Normal)

of_each_end : (limits : TextLimits) (a : Action) (input lines : List ℕ) (s : Status) (r : Report) → IsReport limits a input r → lines ≡ lines_of input r → s ≡ status_of r → IsOfEachEnd limits a input lines s
of_each_end limits Check input lines s r so e is = tt
of_each_end limits Derive input lines s r so e is = tt
of_each_end limits (Run l) input lines s r so e is = λ zero. one_normal limits all_shown input lines (normal limits l input lines s r so e is zero)
of_each_end limits (Count l) input lines s r so e is = λ zero. one_normal limits none_shown input lines (normal_count limits l input lines s r so e is zero)

-- the lines and the status of a report are a reply
pub replied : (limits : TextLimits) (a : Action) (input lines : List ℕ) (s : Status) (r : Report) → IsReport limits a input r → lines ≡ lines_of input r → s ≡ status_of r → IsReply limits a input lines s
replied limits a input lines s r so e is = record { report = r; so = so; lines_are = e; status_is = is; any_order = of_each_end limits a input lines s r so e is }

-- two replies of `run` to one text that end normally are the same, with any limits
pub normal_lines_are_one : NormalLinesAreOne
normal_lines_are_one limits l m input lines more one other =
    let n = normal limits m input more (status 0) other.report other.so other.lines_are other.status_is refl in
    one.any_order refl n.program n.valid n.count n.written n.once.0 ∙ sym n.lines_are

pub normal_counts_are_one : NormalCountsAreOne
normal_counts_are_one limits l m input lines more one other =
    let n = normal_count limits m input more (status 0) other.report other.so other.lines_are other.status_is refl in
    one.any_order refl n.program n.valid n.count n.written n.once.0 ∙ sym n.lines_are

-- ---- calls

-- bytes that are known were moved once
moved_once : (d d' : Device) (bytes more : List ℕ) → Moves d d' bytes → Moved d d' more → bytes ≡ more
moved_once d d' bytes more moves (before, is, after) =
    append_cancel_left before bytes more
    (same_Some (before ++ bytes) (before ++ more) (sym (ap (λ (z : Option (List ℕ)). append_known z bytes) is) ∙ sym moves.moved ∙ after))

-- the output of a call, if memory didn't run out and no device failed, is a reply to its input
reply_of : (limits : TextLimits) (a : Action) (r r' : Reader) (w w' : Device) (input lines : List ℕ) (s : Status) → Acts limits a r r' w w' s → IsAnswered s → Moved r.device r'.device input → Moved w w' lines → IsReply limits a input lines s
reply_of limits a r r' w w' input lines s (told read written gives says moves) answered given taken =
    subst (λ t. IsReply limits a t lines s) (moved_once r.device r'.device read input gives.moves given)
    (subst (λ t. IsReply limits a read t s) (moved_once w w' written lines moves taken) (said says))
  where
    said : Says limits a r'.ended read written s → IsReply limits a read written s
    said (inl h) = h.1
    said (inr h) = absurd (answered.0 h.1)
reply_of limits a r r' w w' input lines s (unread read fails same is) answered given taken = absurd (answered.1 is)
reply_of limits a r r' w w' input lines s (unwritten read written t gives says breaks is) answered given taken = absurd (answered.1 is)

normal_is_answered : IsAnswered (status 0)
normal_is_answered = (λ e. (let z : 0 ≡ 5 = ap (λ (s : Status). s.0) e in cc), λ e. (let z : 0 ≡ 6 = ap (λ (s : Status). s.0) e in cc))

pub normal_calls_are_one : NormalCallsAreOne
normal_calls_are_one limits l m input lines more r r' u u' w w' v v' one given taken other gives takes =
    normal_lines_are_one limits l m input lines more
    (reply_of limits (Run l) r r' w w' input lines (status 0) one normal_is_answered given taken)
    (reply_of limits (Run m) u u' v v' input more (status 0) other normal_is_answered gives takes)

pub normal_count_calls_are_one : NormalCountCallsAreOne
normal_count_calls_are_one limits l m input lines more r r' u u' w w' v v' one given taken other gives takes =
    normal_counts_are_one limits l m input lines more
    (reply_of limits (Count l) r r' w w' input lines (status 0) one normal_is_answered given taken)
    (reply_of limits (Count m) u u' v v' input more (status 0) other normal_is_answered gives takes)

pub calls_answered_once : CallsAreAnsweredOnce
calls_answered_once limits a input lines more s t r r' u u' w w' v v' turns one answered given taken other answers gives takes =
    answered_once limits a input lines more s t turns (reply_of limits a r r' w w' input lines s one answered given taken) (reply_of limits a u u' v v' input more t other answers gives takes)
