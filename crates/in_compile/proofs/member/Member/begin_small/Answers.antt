use Rattle.std.proofs.Common.{◌≡◌, ◌∙◌, ◌≤◌, ◌<◌, ◌+◌, sym, ap, subst, ℕ, List, Some, slice_get, length, arith}
use Rattle.in_base.proofs.Each.{at_index}
use Rattle.in_arena.specs.Arenas.{ArenaView}
use Rattle.in_arena.specs.Beginning.{BeginsSmall}
use Rattle.in_arena.specs.declared.content.CellClass.TheVariants.{Small}
use Rattle.in_arena.specs.declared.content.End.{End}
use Rattle.in_arena.specs.declared.head.NewCell.{NewCell}
use Rattle.in_compile.specs.Members.{MemberParts, class_at}
use Rattle.in_compile.proofs.Placements.InTurn.{begun_to, cells_fit, class_from, class_here}
use Rattle.in_compile.proofs.member.Member.begin_small.Goals as goal

pub begin_small-requires-clause-fits : goal.begin_small-requires-clause-fits
begin_small-requires-clause-fits c = λ k x at. cells_fit c.self.inside c.self.invariant k x (ap (λ (z : List NewCell). slice_get z k) (sym c.as_slice.ensures) ∙ at)

abbrev answer : (agents items : List NewCell) → items ≡ agents → (from first to : ℕ) (old new : ArenaView) (before points : List End) → BeginsSmall items from first old before to new points → BeginsSmall agents from first old before to new points
answer agents items same from first to old new before points b = subst (λ (z : List NewCell). BeginsSmall z from first old before to new points) same b

pub returns-clause-begun : goal.returns-clause-begun
returns-clause-begun c = λ a h.
    let s = c.begin_small in let b = answer c.self.inside.agents c.as_slice.result.now c.as_slice.ensures c.args.from c.args.first s.result c.args.arena.now s.new.self c.args.points.now s.new.points s.ensures in
    begun_to c.self.inside c.self.invariant c.args.self.now c.self.view_is a c.args.arena.now s.new.self c.args.from c.args.first s.result c.args.points.now s.new.points c.requires.all b.begun h

pub returns-clause-small : goal.returns-clause-small
returns-clause-small c = λ k le lt.
    let s = c.begin_small in let b = answer c.self.inside.agents c.as_slice.result.now c.as_slice.ensures c.args.from c.args.first s.result c.args.arena.now s.new.self c.args.points.now s.new.points s.ensures in
    let within = b.begun.within in let x = at_index c.self.inside.agents k (omega (arith, lt, within)) in
    ap (λ (m : MemberParts). class_at m k) (sym c.self.view_is) ∙ class_here c.self.inside c.self.invariant k x.0 x.1 ∙ ap Some (b.small k x.0 le lt x.1)

pub returns-clause-last : goal.returns-clause-last
returns-clause-last c = λ is.
    let s = c.begin_small in let b = answer c.self.inside.agents c.as_slice.result.now c.as_slice.ensures c.args.from c.args.first s.result c.args.arena.now s.new.self c.args.points.now s.new.points s.ensures in
    let x = class_from c.self.inside c.self.invariant s.result Small (ap (λ (m : MemberParts). class_at m s.result) c.self.view_is ∙ is) in
    b.last x.0 x.1 x.2
