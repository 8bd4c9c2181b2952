use Rattle.std.proofs.Common.{◌≡◌, ◌≤◌, ◌∙◌, ℕ, ap, sym, ⊎_elim, arith}
use Rattle.std.proofs.lemmas.Bool.{cases_lt}
use Rattle.in_arena.specs.Classes.{Holds, width}
use Rattle.in_arena.specs.States.{places}
use Rattle.in_arena.specs.declared.content.CellClass.{CellClass}
use Rattle.in_arena.specs.declared.content.CellClass.TheVariants.{Small, Large, Wide}
use Rattle.in_arena.proofs.Inside.{content_long, few_ends, head_found, head_says, live_of, live_state, places_are}
use Rattle.in_arena.proofs.Rewriting.{count_of_head}
use Rattle.in_arena.proofs.arena.Arena.places.Goals as goal

pub head_of-requires : goal.head_of-requires
head_of-requires c =
    let a = c.self.inside in let h = c.self.invariant in let l = live_of a h c.args.self.now c.self.view_is c.args.cell.0 c.requires in
    (sym h.block.0, head_found a.words a.cells c.args.cell.0 h.whole l)

pub returns-clause-places : goal.returns-clause-places
returns-clause-places c =
    let a = c.self.inside in let h = c.self.invariant in let n = c.args.cell.0 in let v = c.args.self.now in let l = live_of a h v c.self.view_is n c.requires in
    let s = head_says a.words a.cells n h.whole l c.head_of.result c.head_of.ensures in
    count_of_head c.head_of.result c.place.result s.2 c.place.ensures ∙ s.1 ∙ sym (ap places (live_state a.words.at a.cells a.words.slots v n c.self.view_is l) ∙ places_are l.content l.some (omega (arith, few_ends a h n l, content_long a.cells a.words.slots n h.whole l)))

class_for : (n : ℕ) (c : CellClass) → 1 ≤ n → n ≤ width c → (d : CellClass) × Holds d n
class_for n c some few =
    ⊎_elim
    (λ small. (Small, (some, omega (arith, small))))
    (λ more. ⊎_elim (λ large. (Large, (more, omega (arith, large)))) (λ most. (Wide, (most, at_most n c few))) (cases_lt n 10))
    (cases_lt n 4)
  where
    at_most : (n : ℕ) (c : CellClass) → n ≤ width c → n ≤ 17
    at_most n Small few = omega (arith, few)
    at_most n Large few = omega (arith, few)
    at_most n Wide few = omega (arith, few)

pub returns-clause-held : goal.returns-clause-held
returns-clause-held c =
    let a = c.self.inside in let h = c.self.invariant in let n = c.args.cell.0 in let l = live_of a h c.args.self.now c.self.view_is n c.requires in
    let s = head_says a.words a.cells n h.whole l c.head_of.result c.head_of.ensures in
    let same : c.place.result ≡ l.content.count = count_of_head c.head_of.result c.place.result s.2 c.place.ensures ∙ s.1 in
    class_for c.place.result l.class (omega (arith, same, l.some)) (omega (arith, same, few_ends a h n l))
