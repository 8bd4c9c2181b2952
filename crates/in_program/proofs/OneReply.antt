-- The program has one reply to a text.
use Rattle.std.proofs.Common.{◌≡◌, ℕ, List, ◌++◌, length, count_by, is_some, Ok, Err, refl, sym, ◌∙◌, ap}
use Rattle.in_arena.specs.Classes.{amount}
use Rattle.in_syntax.specs.declared.faults.Fault.TheVariants.{Refused}
use Rattle.in_syntax.specs.declared.text_limits.TextLimits.{TextLimits}
use Rattle.in_symbols.specs.Tables.{Tables}
use Rattle.in_net.specs.Parts.{Parts}
use Rattle.in_net.specs.Rules.{RuleParts}
use Rattle.in_command_line.specs.declared.action.Action.{Action}
use Rattle.in_command_line.specs.declared.action.Action.TheVariants.{Check, Derive, Run, Count}
use Rattle.in_limits.specs.declared.limits.Limits.{Limits}
use Rattle.in_machine.specs.Starts.{DoesNotFit}
use Rattle.in_check.specs.declared.checked.Certificate.{Certificate}
use Rattle.in_check.specs.declared.checked.ProgramCounts.{ProgramCounts}
use Rattle.in_check.specs.Laws.{AreOneCertified, AreOneProgram}
use Rattle.in_check.specs.Programs.{Certified, Program, counts_of}
use Rattle.in_check.proofs.Public.{checked_once}
use Rattle.in_program.specs.Acting.{Finding, counted, derived, ran, stopped, full, IsFinding, finding_lines, finding_status, stop_status, Report, accepted, refused, IsReport, lines_of, status_of}
use Rattle.in_program.specs.Laws.{TakesTurns, TextsAreAnsweredOnce}
use Rattle.in_arena.specs.declared.content.CellClass.{CellClass}
use Rattle.in_check.specs.Checking.{IsCertified}
use Rattle.in_program.specs.Lines.{accepted_line, refused_line, run_lines, start_line}
use Rattle.in_compile.specs.Cells.{agents_of}
use Rattle.in_compile.proofs.Public.{one_short, short_needed}
use Rattle.in_program.proofs.OneRun.{one_run, starts_or_not, same_agents}
use Rattle.in_program.specs.Steps.{derivation_lines, net_lines, rules_lines}

counts_alike : (p q : Program) → AreOneProgram p q → counts_of p ≡ counts_of q
counts_alike p q h =
    ap (λ (t : Tables). let x : ProgramCounts = record { types = length t.types; symbols = length t.names; rules = length p.rules; agents = count_by is_some p.net.cells } in x) h.tables
    ∙ ap (λ (r : List RuleParts). let x : ProgramCounts = record { types = length q.tables.types; symbols = length q.tables.names; rules = length r; agents = count_by is_some p.net.cells } in x) h.rules
    ∙ ap (λ (n : Parts). let x : ProgramCounts = record { types = length q.tables.types; symbols = length q.tables.names; rules = length q.rules; agents = count_by is_some n.cells } in x) h.net

steps_alike : (c d : Certified) → AreOneCertified c d → derivation_lines c ≡ derivation_lines d
steps_alike c d h =
    ap (λ (t : Tables). rules_lines t c.program.rules c.rule_certificates ++ net_lines t c.net_certificate) h.program.tables
    ∙ ap (λ (r : List RuleParts). rules_lines d.program.tables r c.rule_certificates ++ net_lines d.program.tables c.net_certificate) h.program.rules
    ∙ ap (λ (cs : List Certificate). rules_lines d.program.tables d.program.rules cs ++ net_lines d.program.tables c.net_certificate) h.rule_certificates
    ∙ ap (λ (x : Certificate). rules_lines d.program.tables d.program.rules d.rule_certificates ++ net_lines d.program.tables x) h.net_certificate

turned : (p q : Program) → AreOneProgram p q → AreOneProgram q p
turned p q h = record { tables = sym h.tables; rules = sym h.rules; net = sym h.net; numbers = λ c d. sym (h.numbers c d) }

-- a net that doesn't fit is reported in one way
one_full : (p q : Program) (l : Limits) (c d : CellClass) (need free more less : ℕ) → AreOneProgram p q → DoesNotFit p l.cells c need free → DoesNotFit q l.cells d more less → start_line c need free ≡ start_line d more less
one_full p q l c d need free more less same (short, is, all) (shorter, are, each) =
    let needs : (e : CellClass) → agents_of q.tables e q.net.cells ≡ agents_of p.tables e p.net.cells = λ e. sym (same_agents p q same e) in
    let class : c ≡ d = one_short (λ e. agents_of p.tables e p.net.cells) (amount l.cells) c d short (short_needed (λ e. agents_of q.tables e q.net.cells) (λ e. agents_of p.tables e p.net.cells) (amount l.cells) d needs shorter) in
    let need_is : need ≡ more = is ∙ same_agents p q same c ∙ ap (λ (e : CellClass). agents_of q.tables e q.net.cells) class ∙ sym are in
    (λ i. start_line (class i) (need_is i) ((all ∙ ap (amount l.cells) class ∙ sym each) i))

one_finding : (limits : TextLimits) (text : List ℕ) (a : Action) (p q : Certified) (x y : Finding) → AreOneCertified p q → IsCertified limits text q → TakesTurns a → IsFinding a p.program x → IsFinding a q.program y → (finding_lines p x ≡ finding_lines q y) × (finding_status x ≡ finding_status y)
one_finding limits text Check p q counted counted same valid turns h k = (ap accepted_line (counts_alike p.program q.program same.program), refl)
one_finding limits text Derive p q derived derived same valid turns h k = (steps_alike p q same, refl)
one_finding limits text (Run l) p q (ran n j s) (ran r k t) same valid turns h g =
    let x = h.1 turns in
    let y = g.1 turns in
    let one = one_run limits text p.program q.program l x.0 n y.0 r j k s t same.program (q, refl, valid) x.1 x.2 y.1 y.2 in
    ((λ i. one.0 i ++ run_lines (one.1 i) (one.2 i)), ap stop_status one.2)
one_finding limits text (Run l) p q (ran n j s) (full c need free) same valid turns h g = absurd (starts_or_not p.program q.program same.program l.cells h.0.0.start.0 c need free h.0.0.start.1 g)
one_finding limits text (Run l) p q (full c need free) (ran r k t) same valid turns h g = absurd (starts_or_not q.program p.program (turned p.program q.program same.program) l.cells g.0.0.start.0 c need free g.0.0.start.1 h)
one_finding limits text (Run l) p q (full c need free) (full d more less) same valid turns h g = (one_full p.program q.program l c d need free more less same.program h g, refl)
one_finding limits text (Count l) p q (stopped n j s) (stopped r k t) same valid turns h g =
    let x = h.1 turns in
    let y = g.1 turns in
    let one = one_run limits text p.program q.program l x.0 n y.0 r j k s t same.program (q, refl, valid) x.1 x.2 y.1 y.2 in
    ((λ i. run_lines (one.1 i) (one.2 i)), ap stop_status one.2)
one_finding limits text (Count l) p q (stopped n j s) (full c need free) same valid turns h g = absurd (starts_or_not p.program q.program same.program l.cells h.0.0.start.0 c need free h.0.0.start.1 g)
one_finding limits text (Count l) p q (full c need free) (stopped r k t) same valid turns h g = absurd (starts_or_not q.program p.program (turned p.program q.program same.program) l.cells g.0.0.start.0 c need free g.0.0.start.1 h)
one_finding limits text (Count l) p q (full c need free) (full d more less) same valid turns h g = (one_full p.program q.program l c d need free more less same.program h g, refl)
one_finding limits text Check p q counted derived same valid turns h k = elim k [ ]
one_finding limits text Check p q counted (ran r _ t) same valid turns h k = elim k [ ]
one_finding limits text Check p q counted (stopped r _ t) same valid turns h k = elim k [ ]
one_finding limits text Check p q counted (full c need free) same valid turns h k = elim k [ ]
one_finding limits text Check p q derived y same valid turns h k = elim h [ ]
one_finding limits text Check p q (ran n j s) y same valid turns h k = elim h [ ]
one_finding limits text Check p q (stopped n j s) y same valid turns h k = elim h [ ]
one_finding limits text Check p q (full c need free) y same valid turns h k = elim h [ ]
one_finding limits text Derive p q counted y same valid turns h k = elim h [ ]
one_finding limits text Derive p q derived counted same valid turns h k = elim k [ ]
one_finding limits text Derive p q derived (ran r _ t) same valid turns h k = elim k [ ]
one_finding limits text Derive p q derived (stopped r _ t) same valid turns h k = elim k [ ]
one_finding limits text Derive p q derived (full c need free) same valid turns h k = elim k [ ]
one_finding limits text Derive p q (ran n j s) y same valid turns h k = elim h [ ]
one_finding limits text Derive p q (stopped n j s) y same valid turns h k = elim h [ ]
one_finding limits text Derive p q (full c need free) y same valid turns h k = elim h [ ]
one_finding limits text (Run l) p q counted y same valid turns h g = elim h [ ]
one_finding limits text (Run l) p q derived y same valid turns h g = elim h [ ]
one_finding limits text (Run l) p q (ran n j s) counted same valid turns h g = elim g [ ]
one_finding limits text (Run l) p q (ran n j s) derived same valid turns h g = elim g [ ]
one_finding limits text (Run l) p q (full c need free) counted same valid turns h g = elim g [ ]
one_finding limits text (Run l) p q (full c need free) derived same valid turns h g = elim g [ ]
one_finding limits text (Run l) p q (stopped n j s) y same valid turns h g = elim h [ ]
one_finding limits text (Run l) p q (ran n j s) (stopped r k t) same valid turns h g = elim g [ ]
one_finding limits text (Run l) p q (full c need free) (stopped r k t) same valid turns h g = elim g [ ]
one_finding limits text (Count l) p q counted y same valid turns h g = elim h [ ]
one_finding limits text (Count l) p q derived y same valid turns h g = elim h [ ]
one_finding limits text (Count l) p q (ran n j s) y same valid turns h g = elim h [ ]
one_finding limits text (Count l) p q (stopped n j s) counted same valid turns h g = elim g [ ]
one_finding limits text (Count l) p q (stopped n j s) derived same valid turns h g = elim g [ ]
one_finding limits text (Count l) p q (stopped n j s) (ran r k t) same valid turns h g = elim g [ ]
one_finding limits text (Count l) p q (full c need free) counted same valid turns h g = elim g [ ]
one_finding limits text (Count l) p q (full c need free) derived same valid turns h g = elim g [ ]
one_finding limits text (Count l) p q (full c need free) (ran r k t) same valid turns h g = elim g [ ]

one_report : (limits : TextLimits) (a : Action) (text : List ℕ) (x y : Report) → TakesTurns a → IsReport limits a text x → IsReport limits a text y → (lines_of text x ≡ lines_of text y) × (status_of x ≡ status_of y)
one_report limits a text (accepted p f) (accepted q g) turns h k = one_finding limits text a p q f g (checked_once limits text (Ok p) (Ok q) h.0 k.0) k.0 turns h.1 k.1
one_report limits a text (accepted p f) (refused r) turns h k = absurd (checked_once limits text (Ok p) (Err (Refused r)) h.0 k)
one_report limits a text (refused q) (accepted p f) turns h k = absurd (checked_once limits text (Err (Refused q)) (Ok p) h k.0)
one_report limits a text (refused q) (refused r) turns h k = (ap (refused_line text) (checked_once limits text (Err (Refused q)) (Err (Refused r)) h k), refl)

pub answered_once : TextsAreAnsweredOnce
answered_once limits a text lines more s t turns h k =
    let same = one_report limits a text h.report k.report turns h.so k.so in
    (h.lines_are ∙ same.0 ∙ sym k.lines_are, h.status_is ∙ same.1 ∙ sym k.status_is)
