use Rattle.std.proofs.Common.{◌≡◌, ◌<◌, ℕ, sym, ap, subst, ◌∙◌, arith}
use Rattle.std.proofs.lemmas.List.{length-set}
use Rattle.in_arena.specs.Arenas.{ArenaView, changed, free_of}
use Rattle.in_arena.specs.Changes.{HasAllCells}
use Rattle.in_arena.specs.States.{Vacant}
use Rattle.in_arena.proofs.Public.{same_class}
use Rattle.std.specs.Prelude.{option_map}
use Rattle.std.proofs.lemmas.Option.{same_Some}
use Rattle.in_arena.specs.Classes.{IsNumberOf}
use Rattle.in_arena.specs.declared.content.CellClass.{CellClass}
use Rattle.in_compile.specs.Members.{AgentParts}
use Rattle.in_compile.specs.Putting.{BeginsAgent}
use Rattle.in_compile.proofs.member.Member.begin_in.Goals as goal

all_stay : (a : ArenaView) (n : ℕ) → HasAllCells a → HasAllCells (changed a n Vacant)
all_stay a n all = let l = length-set a.states n Vacant in omega (arith, all, l)

pub renew-requires-clause-own : goal.renew-requires-clause-own
renew-requires-clause-own c = λ a at.
    let class : a.class ≡ c.class.result = same_Some a.class c.class.result (sym (ap (option_map (λ (a : AgentParts). a.class)) at) ∙ c.class.ensures) in
    let same = same_class c.args.own c.class.result (sym c.number-2.ensures ∙ sym c.if-number.true ∙ c.number.ensures) in
    subst (λ (d : CellClass). IsNumberOf c.args.arena.now.cells d c.args.cell.0) (same ∙ sym class) c.requires.own

pub begin-requires-clause-all : goal.begin-requires-clause-all
begin-requires-clause-all c = subst HasAllCells (sym c.retire_as.ensures) (all_stay c.args.arena.now c.args.cell.0 c.requires.all)

pub begin-requires-clause-free : goal.begin-requires-clause-free
begin-requires-clause-free c = λ a at. subst (λ (v : ArenaView). 0 < free_of v a.class) (sym c.retire_as.ensures) (c.requires.free a at)

pub returns : goal.returns
returns c = λ a at. subst (λ (v : ArenaView). BeginsAgent a v c.begin.result.0 c.begin.new.arena) c.retire_as.ensures (c.begin.ensures a at)
