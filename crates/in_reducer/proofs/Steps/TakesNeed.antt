-- An interaction takes no more cells than its pair needs.
use Rattle.std.proofs.Common.{◌≡◌, ◌≤◌, ◌+◌, ℕ, sym, ap, ◌∙◌, arith}
use Rattle.std.proofs.lemmas.Option.{same_Some}
use Rattle.in_arena.specs.declared.content.CellClass.{CellClass}
use Rattle.in_net.specs.Rules.{RuleParts}
use Rattle.in_compile.specs.declared.cells.Need.{Need}
use Rattle.in_compile.specs.Cells.{agents_of, count_of}
use Rattle.in_reducer.specs.Machines.{MachineParts, parts_of}
use Rattle.in_reducer.specs.Reducers.{IsReducer}
use Rattle.in_reducer.specs.Same.{StepsUpToNumbers}
use Rattle.in_reducer.specs.Steps.{NeedsAt, StepsAt}
use Rattle.in_reducer.proofs.Cells.AsMany.{no_more_than}
use Rattle.in_reducer.proofs.Numbers.OfSame.{reducer_same}
use Rattle.in_reducer.proofs.Numbers.SameStep.{need_moved}
use Rattle.in_reducer.proofs.Steps.StepsOn.{same_rule}

pub takes_its_need : (m o : MachineParts) (i : ℕ) → IsReducer m → StepsAt m i o → (x : Need) → NeedsAt m i x → (c : CellClass) → count_of m.vacant c ≤ count_of o.vacant c + count_of x c
takes_its_need m o i h s x at c =
    let t = m.program.tables in
    let same : at.pair ≡ s.pair = same_Some at.pair s.pair (sym at.stands ∙ s.stands) in
    let rule : at.rule ≡ s.step.rule = same_rule m h at.pair s.pair at.number s.step.number at.rule s.step.rule same at.is_rule s.step.is_rule in
    let need : count_of x c ≡ agents_of t c s.step.rule.member.cells = at.is_need c ∙ ap (λ (z : RuleParts). agents_of t c z.member.cells) rule in
    let a = no_more_than t c (parts_of m) (parts_of o) s.step.rule s.pair.0 s.pair.1 s.name s.step.acts.step in
    let d = s.cells c in
    omega (arith, need, a, d)

-- nor does one up to numbers
pub takes_its_need_up_to_numbers : (m o : MachineParts) (i : ℕ) → IsReducer m → StepsUpToNumbers m i o → (x : Need) → NeedsAt m i x → (c : CellClass) → count_of m.vacant c ≤ count_of o.vacant c + count_of x c
takes_its_need_up_to_numbers m o i h (s, (f, same), step) x at c =
    let taken = takes_its_need s o i (reducer_same m s h f same) step x (need_moved f m s same i x at) c in
    let vacant : count_of s.vacant c ≡ count_of m.vacant c = ap (λ (z : Need). count_of z c) same.vacant in
    omega (arith, taken, vacant)
