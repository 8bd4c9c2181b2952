use Rattle.std.proofs.Common.{◌≡◌, ℕ, slice_get, Some, sym, ap, subst, ◌∙◌, set, arith}
use Rattle.std.specs.Prelude.{option_map}
use Rattle.std.proofs.lemmas.List.{length-set}
use Rattle.std.proofs.lemmas.Option.{same_Some}
use Rattle.in_base.proofs.Each.{at_index}
use Rattle.in_base.proofs.Places.{set_there}
use Rattle.in_arena.specs.Arenas.{ArenaView}
use Rattle.in_arena.specs.Classes.{IsNumberOf}
use Rattle.in_arena.specs.declared.content.CellClass.{CellClass}
use Rattle.in_arena.proofs.Public.{row_still}
use Rattle.in_compile.specs.Members.{AgentParts, MemberParts}
use Rattle.in_compile.specs.OwnOrders.{Takes}
use Rattle.in_reducer.specs.Wiring.{retired}
use Rattle.in_reducer.proofs.Steps.Points.{still_begin, two_below}
use Rattle.in_reducer.proofs.Steps.Taken as taken
use Rattle.in_reducer.proofs.wiring.begin_both.Goals as goal

-- the class that an agent takes
class_taken : (m : MemberParts) (k : ℕ) (class : CellClass) → Takes m k class → (a : AgentParts) → slice_get m.agents k ≡ Some a → a.class ≡ class
class_taken m k class t a at = same_Some a.class class (sym (ap (option_map (λ (a : AgentParts). a.class)) at) ∙ t.1)

pub renew-first-requires-clause-there : goal.renew-first-requires-clause-there
renew-first-requires-clause-there c = c.requires.taken.1.0.0

pub renew-first-requires-clause-live : goal.renew-first-requires-clause-live
renew-first-requires-clause-live c = c.requires.pair.0.0

pub renew-first-requires-clause-own : goal.renew-first-requires-clause-own
renew-first-requires-clause-own c = λ a at.
    subst (λ (d : CellClass). IsNumberOf c.args.arena.now.cells d c.args.pair.one.0) (sym (class_taken c.args.member.now 0 c.requires.taken.0.0 c.requires.taken.1.0 a at)) c.requires.taken.2.0

pub renew-first-requires-clause-row : goal.renew-first-requires-clause-row
renew-first-requires-clause-row c = c.row-row.ensures

pub renew-first-requires-clause-all : goal.renew-first-requires-clause-all
renew-first-requires-clause-all c = c.requires.pair.1.all

pub renew-second-requires-clause-there : goal.renew-second-requires-clause-there
renew-second-requires-clause-there c = c.requires.taken.1.1.0

pub renew-second-requires-clause-live : goal.renew-second-requires-clause-live
renew-second-requires-clause-live c =
    let m = c.args.member.now in
    let x = at_index m.agents 0 c.requires.taken.1.0.0 in
    taken.other_live m c.is_sound.ensures c.args.pair c.args.arena.now c.requires.pair.0 c.args.points.now c.requires.pair.1 x.0 x.1 c.renew-first.result c.renew-first.new.arena (c.renew-first.ensures x.0 x.1)

pub renew-second-requires-clause-own : goal.renew-second-requires-clause-own
renew-second-requires-clause-own c = λ a at.
    let m = c.args.member.now in
    let x = at_index m.agents 0 c.requires.taken.1.0.0 in
    subst (λ (v : ArenaView). IsNumberOf v.cells a.class c.args.pair.other.0) (sym (c.renew-first.ensures x.0 x.1).arena)
    (subst (λ (d : CellClass). IsNumberOf c.args.arena.now.cells d c.args.pair.other.0) (sym (class_taken m 1 c.requires.taken.0.1 c.requires.taken.1.1 a at)) c.requires.taken.2.1)

pub renew-second-requires-clause-row : goal.renew-second-requires-clause-row
renew-second-requires-clause-row c =
    let m = c.args.member.now in
    let x = at_index m.agents 0 c.requires.taken.1.0.0 in
    row_still c.row-row.result c.args.arena.now c.renew-first.new.arena (ap (λ (v : ArenaView). v.memory) (c.renew-first.ensures x.0 x.1).arena) c.row-row.ensures

pub renew-second-requires-clause-all : goal.renew-second-requires-clause-all
renew-second-requires-clause-all c =
    let m = c.args.member.now in
    let x = at_index m.agents 0 c.requires.taken.1.0.0 in
    taken.all_next m c.is_sound.ensures c.args.pair c.args.arena.now c.requires.pair.0 c.args.points.now c.requires.pair.1 x.0 x.1 c.renew-first.result c.renew-first.new.arena (c.renew-first.ensures x.0 x.1)

pub begin_rest-requires-clause-begun : goal.begin_rest-requires-clause-begun
begin_rest-requires-clause-begun c =
    let m = c.args.member.now in
    let x = at_index m.agents 0 c.requires.taken.1.0.0 in
    let y = at_index m.agents 1 c.requires.taken.1.1.0 in
    let points = c.args.points.now in
    let long = c.requires.pair.1.long in
    let after = retired c.args.pair c.args.arena.now in (
      after,
      still_begin m after points (set (set points 32 c.place_of.result) 33 c.place_of-2.result) (length-set (set points 32 c.place_of.result) 33 c.place_of-2.result ∙ length-set points 32 c.place_of.result)
          (taken.can_retired m c.is_sound.ensures c.args.pair c.args.arena.now c.requires.pair.0 points c.requires.pair.1),
      two_below m after c.renew-second.new.arena c.renew-first.result c.renew-second.result points c.place_of.result c.place_of-2.result
          (taken.both_below m c.is_sound.ensures c.args.pair c.args.arena.now c.requires.pair.0 points c.requires.pair.1 x.0 x.1 c.renew-first.result c.renew-first.new.arena (c.renew-first.ensures x.0 x.1) y.0 y.1 c.renew-second.result
          c.renew-second.new.arena (c.renew-second.ensures y.0 y.1))
          (omega (arith, long)) c.place_of.ensures c.place_of-2.ensures,
    )

pub begin_rest-requires-clause-few : goal.begin_rest-requires-clause-few
begin_rest-requires-clause-few c = let two = c.requires.taken.1.1.0 in omega (arith, two)

pub returns-clause-begun : goal.returns-clause-begun
returns-clause-begun c =
    let m = c.args.member.now in
    let x = at_index m.agents 0 c.requires.taken.1.0.0 in
    let y = at_index m.agents 1 c.requires.taken.1.1.0 in
    let points = c.args.points.now in
    let long = c.requires.pair.1.long in
    let after = retired c.args.pair c.args.arena.now in
    c.begin_rest.ensures.begun after
    (still_begin m after points (set (set points 32 c.place_of.result) 33 c.place_of-2.result) (length-set (set points 32 c.place_of.result) 33 c.place_of-2.result ∙ length-set points 32 c.place_of.result)
    (taken.can_retired m c.is_sound.ensures c.args.pair c.args.arena.now c.requires.pair.0 points c.requires.pair.1))
    (two_below m after c.renew-second.new.arena c.renew-first.result c.renew-second.result points c.place_of.result c.place_of-2.result
    (taken.both_below m c.is_sound.ensures c.args.pair c.args.arena.now c.requires.pair.0 points c.requires.pair.1 x.0 x.1 c.renew-first.result c.renew-first.new.arena (c.renew-first.ensures x.0 x.1) y.0 y.1 c.renew-second.result
    c.renew-second.new.arena (c.renew-second.ensures y.0 y.1))
    (omega (arith, long)) c.place_of.ensures c.place_of-2.ensures)

pub returns-clause-ends : goal.returns-clause-ends
returns-clause-ends c = λ e low.
    c.begin_rest.ensures.ends e low ∙ set_there (set c.args.points.now 32 c.place_of.result) 33 e c.place_of-2.result (λ same. omega (arith, low, same)) ∙ set_there c.args.points.now 32 e c.place_of.result (λ same. omega (arith, low, same))
