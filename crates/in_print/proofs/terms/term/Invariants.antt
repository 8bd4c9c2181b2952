use Rattle.std.proofs.Common.{◌≡◌, ◌≤◌, ℕ, length, count_by, is_some, option_map}
use Rattle.in_print.specs.Points.{point_at}
use Rattle.in_print.specs.Texts.{setting_of}
use Rattle.in_print.specs.Writings.{with_parts}
use Rattle.in_print.specs.Terms.{term_in, remaining, LeadsDown, IsInHand}
use Rattle.in_print.proofs.terms.term.Given as goal

abbrev pub invariant-loop-focus : goal.invariant-loop-focus
invariant-loop-focus l =
    ((d : ℕ) → count_by is_some l.fn.machine.agents ≤ d → with_parts (setting_of l.fn.machine) l.sheet (remaining (setting_of l.fn.machine) d l.stack.items (option_map point_at l.focus)) ≡ with_parts (setting_of l.fn.machine) l.fn.sheet (term_in (setting_of l.fn.machine) d (point_at l.fn.from)))
    × LeadsDown (setting_of l.fn.machine) (point_at l.fn.from) l.stack.items × IsInHand (point_at l.fn.from) l.stack.items (option_map point_at l.focus)

abbrev pub decreases-loop-focus : goal.decreases-loop-focus
decreases-loop-focus l = length (remaining (setting_of l.fn.machine) (count_by is_some l.fn.machine.agents) l.stack.items (option_map point_at l.focus))
