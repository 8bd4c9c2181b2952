use Rattle.std.proofs.Common.{◌≡◌, List, [], ◌∷◌, set, sym, ap, subst, ◌∙◌, arith}
use Rattle.std.proofs.lemmas.List.{length-set}
use Rattle.in_base.proofs.Each.{at_index}
use Rattle.in_base.proofs.Places.{set_there}
use Rattle.in_arena.specs.Arenas.{ArenaView, changed}
use Rattle.in_arena.specs.Classes.{IsNumberOf}
use Rattle.in_arena.specs.States.{Vacant}
use Rattle.in_arena.specs.declared.content.End.{End}
use Rattle.in_compile.specs.Members.{MemberParts}
use Rattle.in_compile.specs.Putting.{AreBegunBelow}
use Rattle.in_compile.proofs.Public.{none_begun}
use Rattle.in_reducer.specs.declared.sides.Pair.{Pair}
use Rattle.in_reducer.specs.Wiring.{HasBegunBelow, retired}
use Rattle.in_reducer.proofs.Steps.Points.{none_at, one_below, still_begin, two_below}
use Rattle.in_reducer.proofs.Steps.Taken as taken
use Rattle.in_reducer.proofs.wiring.begin_in.Goals as goal

-- the two changes are one
both_retired : (p : Pair) (a b d : ArenaView) → b ≡ changed a p.one.0 Vacant → d ≡ changed b p.other.0 Vacant → d ≡ retired p a
both_retired p a b d one two = two ∙ ap (λ (a : ArenaView). changed a p.other.0 Vacant) one

-- none is begun yet
none_below : (m : MemberParts) (a b : ArenaView) (points : List End) → a ≡ b → HasBegunBelow m b 0 a points
none_below m a b points same = ([], subst (λ (v : ArenaView). AreBegunBelow m b 0 v []) (sym same) (none_begun m b), none_at points)

pub begin_rest-requires-clause-begun : goal.begin_rest-requires-clause-begun
begin_rest-requires-clause-begun c =
    let m = c.args.member.now in
    let gone = both_retired c.args.pair c.args.arena.now c.retire_as.new.self c.retire_as-then-many-eq0.new.self c.retire_as.ensures c.retire_as-then-many-eq0.ensures in (
      retired c.args.pair c.args.arena.now,
      taken.can_retired m c.is_sound.ensures c.args.pair c.args.arena.now c.requires.0 c.args.points.now c.requires.1,
      none_below m c.retire_as-then-many-eq0.new.self (retired c.args.pair c.args.arena.now) c.args.points.now gone,
    )

pub returns-then-many-eq0-clause-begun : goal.returns-then-many-eq0-clause-begun
returns-then-many-eq0-clause-begun c =
    let m = c.args.member.now in
    let gone = both_retired c.args.pair c.args.arena.now c.retire_as.new.self c.retire_as-then-many-eq0.new.self c.retire_as.ensures c.retire_as-then-many-eq0.ensures in
    c.begin_rest.ensures.begun (retired c.args.pair c.args.arena.now) (taken.can_retired m c.is_sound.ensures c.args.pair c.args.arena.now c.requires.0 c.args.points.now c.requires.1)
    (none_below m c.retire_as-then-many-eq0.new.self (retired c.args.pair c.args.arena.now) c.args.points.now gone)

pub begin_in-first-requires-clause-free : goal.begin_in-first-requires-clause-free
begin_in-first-requires-clause-free c = taken.first_free c.args.member.now c.is_sound.ensures c.args.pair c.args.arena.now c.requires.0 c.args.points.now c.requires.1

pub retire_as-requires-then-many-eq1-clause-live : goal.retire_as-requires-then-many-eq1-clause-live
retire_as-requires-then-many-eq1-clause-live c =
    let m = c.args.member.now in
    let x = at_index m.agents 0 (let many = c.agents-many.ensures in let f = c.if-many-eq1.true in omega (arith, many, f)) in
    taken.other_live m c.is_sound.ensures c.args.pair c.args.arena.now c.requires.0 c.args.points.now c.requires.1 x.0 x.1 c.begin_in-first.result c.begin_in-first.new.arena (c.begin_in-first.ensures x.0 x.1)

pub begin_rest-requires-then-many-eq1-clause-begun : goal.begin_rest-requires-then-many-eq1-clause-begun
begin_rest-requires-then-many-eq1-clause-begun c =
    let m = c.args.member.now in
    let x = at_index m.agents 0 (let many = c.agents-many.ensures in let f = c.if-many-eq1.true in omega (arith, many, f)) in
    let points = c.args.points.now in
    let long = c.requires.1.long in
    let below = taken.first_below m c.is_sound.ensures c.args.pair c.args.arena.now c.requires.0 points c.requires.1 x.0 x.1 c.begin_in-first.result c.begin_in-first.new.arena (c.begin_in-first.ensures x.0 x.1) in (
      retired c.args.pair c.args.arena.now,
      still_begin m (retired c.args.pair c.args.arena.now) points (set points 32 c.place_of.result) (length-set points 32 c.place_of.result) (taken.can_retired m c.is_sound.ensures c.args.pair c.args.arena.now c.requires.0 points c.requires.1),
      one_below m (retired c.args.pair c.args.arena.now) c.retire_as-then-many-eq1.new.self c.begin_in-first.result points c.place_of.result
          (subst (λ (v : ArenaView). AreBegunBelow m (retired c.args.pair c.args.arena.now) 1 v (c.begin_in-first.result ∷ [])) (sym c.retire_as-then-many-eq1.ensures) below) (omega (arith, long)) c.place_of.ensures,
    )

pub returns-then-many-eq1-clause-begun : goal.returns-then-many-eq1-clause-begun
returns-then-many-eq1-clause-begun c =
    let m = c.args.member.now in
    let x = at_index m.agents 0 (let many = c.agents-many.ensures in let f = c.if-many-eq1.true in omega (arith, many, f)) in
    let points = c.args.points.now in
    let long = c.requires.1.long in
    let below = taken.first_below m c.is_sound.ensures c.args.pair c.args.arena.now c.requires.0 points c.requires.1 x.0 x.1 c.begin_in-first.result c.begin_in-first.new.arena (c.begin_in-first.ensures x.0 x.1) in
    c.begin_rest-then-many-eq1.ensures.begun (retired c.args.pair c.args.arena.now)
    (still_begin m (retired c.args.pair c.args.arena.now) points (set points 32 c.place_of.result) (length-set points 32 c.place_of.result) (taken.can_retired m c.is_sound.ensures c.args.pair c.args.arena.now c.requires.0 points c.requires.1))
    (one_below m (retired c.args.pair c.args.arena.now) c.retire_as-then-many-eq1.new.self c.begin_in-first.result points c.place_of.result
    (subst (λ (v : ArenaView). AreBegunBelow m (retired c.args.pair c.args.arena.now) 1 v (c.begin_in-first.result ∷ [])) (sym c.retire_as-then-many-eq1.ensures) below) (omega (arith, long)) c.place_of.ensures)

pub returns-then-many-eq1-clause-ends : goal.returns-then-many-eq1-clause-ends
returns-then-many-eq1-clause-ends c = λ e low. c.begin_rest-then-many-eq1.ensures.ends e low ∙ set_there c.args.points.now 32 e c.place_of.result (λ same. omega (arith, low, same))

pub begin_in-second-requires-clause-live : goal.begin_in-second-requires-clause-live
begin_in-second-requires-clause-live c =
    let m = c.args.member.now in
    let x = at_index m.agents 0 (let many = c.agents-many.ensures in let f = c.if-many-eq0.false in omega (arith, many, f)) in
    taken.other_live m c.is_sound.ensures c.args.pair c.args.arena.now c.requires.0 c.args.points.now c.requires.1 x.0 x.1 c.begin_in-first.result c.begin_in-first.new.arena (c.begin_in-first.ensures x.0 x.1)

pub begin_in-first-requires-clause-own : goal.begin_in-first-requires-clause-own
begin_in-first-requires-clause-own c = c.requires.2.0

pub begin_in-second-requires-clause-own : goal.begin_in-second-requires-clause-own
begin_in-second-requires-clause-own c =
    let m = c.args.member.now in
    let x = at_index m.agents 0 (let many = c.agents-many.ensures in let f = c.if-many-eq0.false in omega (arith, many, f)) in
    subst (λ (v : ArenaView). IsNumberOf v.cells c.args.classes.1 c.args.pair.other.0) (sym (c.begin_in-first.ensures x.0 x.1).arena) c.requires.2.1

pub begin_in-second-requires-clause-all : goal.begin_in-second-requires-clause-all
begin_in-second-requires-clause-all c =
    let m = c.args.member.now in
    let x = at_index m.agents 0 (let many = c.agents-many.ensures in let f = c.if-many-eq0.false in omega (arith, many, f)) in
    taken.all_next m c.is_sound.ensures c.args.pair c.args.arena.now c.requires.0 c.args.points.now c.requires.1 x.0 x.1 c.begin_in-first.result c.begin_in-first.new.arena (c.begin_in-first.ensures x.0 x.1)

pub begin_in-second-requires-clause-free : goal.begin_in-second-requires-clause-free
begin_in-second-requires-clause-free c =
    let m = c.args.member.now in
    let x = at_index m.agents 0 (let many = c.agents-many.ensures in let f = c.if-many-eq0.false in omega (arith, many, f)) in
    taken.second_free m c.is_sound.ensures c.args.pair c.args.arena.now c.requires.0 c.args.points.now c.requires.1 x.0 x.1 c.begin_in-first.result c.begin_in-first.new.arena (c.begin_in-first.ensures x.0 x.1)

pub begin_rest-requires-2-clause-begun : goal.begin_rest-requires-2-clause-begun
begin_rest-requires-2-clause-begun c =
    let m = c.args.member.now in
    let x = at_index m.agents 0 (let many = c.agents-many.ensures in let f = c.if-many-eq0.false in omega (arith, many, f)) in
    let y = at_index m.agents 1 (let many = c.agents-many.ensures in let f = c.if-many-eq0.false in let g = c.if-many-eq1.false in omega (arith, many, f, g)) in
    let points = c.args.points.now in
    let long = c.requires.1.long in (
      retired c.args.pair c.args.arena.now,
      still_begin m (retired c.args.pair c.args.arena.now) points (set (set points 32 c.place_of.result) 33 c.place_of-2.result) (length-set (set points 32 c.place_of.result) 33 c.place_of-2.result ∙ length-set points 32 c.place_of.result)
          (taken.can_retired m c.is_sound.ensures c.args.pair c.args.arena.now c.requires.0 points c.requires.1),
      two_below m (retired c.args.pair c.args.arena.now) c.begin_in-second.new.arena c.begin_in-first.result c.begin_in-second.result points c.place_of.result c.place_of-2.result
          (taken.both_below m c.is_sound.ensures c.args.pair c.args.arena.now c.requires.0 points c.requires.1 x.0 x.1 c.begin_in-first.result c.begin_in-first.new.arena (c.begin_in-first.ensures x.0 x.1) y.0 y.1 c.begin_in-second.result
          c.begin_in-second.new.arena (c.begin_in-second.ensures y.0 y.1))
          (omega (arith, long)) c.place_of.ensures c.place_of-2.ensures,
    )

pub returns-clause-begun : goal.returns-clause-begun
returns-clause-begun c =
    let m = c.args.member.now in
    let x = at_index m.agents 0 (let many = c.agents-many.ensures in let f = c.if-many-eq0.false in omega (arith, many, f)) in
    let y = at_index m.agents 1 (let many = c.agents-many.ensures in let f = c.if-many-eq0.false in let g = c.if-many-eq1.false in omega (arith, many, f, g)) in
    let points = c.args.points.now in
    let long = c.requires.1.long in
    c.begin_rest-2.ensures.begun (retired c.args.pair c.args.arena.now)
    (still_begin m (retired c.args.pair c.args.arena.now) points (set (set points 32 c.place_of.result) 33 c.place_of-2.result) (length-set (set points 32 c.place_of.result) 33 c.place_of-2.result ∙ length-set points 32 c.place_of.result)
    (taken.can_retired m c.is_sound.ensures c.args.pair c.args.arena.now c.requires.0 points c.requires.1))
    (two_below m (retired c.args.pair c.args.arena.now) c.begin_in-second.new.arena c.begin_in-first.result c.begin_in-second.result points c.place_of.result c.place_of-2.result
    (taken.both_below m c.is_sound.ensures c.args.pair c.args.arena.now c.requires.0 points c.requires.1 x.0 x.1 c.begin_in-first.result c.begin_in-first.new.arena (c.begin_in-first.ensures x.0 x.1) y.0 y.1 c.begin_in-second.result
    c.begin_in-second.new.arena (c.begin_in-second.ensures y.0 y.1))
    (omega (arith, long)) c.place_of.ensures c.place_of-2.ensures)

pub returns-clause-ends : goal.returns-clause-ends
returns-clause-ends c = λ e low.
    c.begin_rest-2.ensures.ends e low ∙ set_there (set c.args.points.now 32 c.place_of.result) 33 e c.place_of-2.result (λ same. omega (arith, low, same)) ∙ set_there c.args.points.now 32 e c.place_of.result (λ same. omega (arith, low, same))

pub retire_as-requires-clause-class : goal.retire_as-requires-clause-class
retire_as-requires-clause-class c = c.requires.2.0

pub retire_as-requires-then-many-eq0-clause-class : goal.retire_as-requires-then-many-eq0-clause-class
retire_as-requires-then-many-eq0-clause-class c = subst (λ (v : ArenaView). IsNumberOf v.cells c.args.classes.1 c.args.pair.other.0) (sym c.retire_as.ensures) c.requires.2.1

pub retire_as-requires-then-many-eq1-clause-class : goal.retire_as-requires-then-many-eq1-clause-class
retire_as-requires-then-many-eq1-clause-class c =
    let m = c.args.member.now in
    let x = at_index m.agents 0 (let many = c.agents-many.ensures in let f = c.if-many-eq1.true in omega (arith, many, f)) in
    subst (λ (v : ArenaView). IsNumberOf v.cells c.args.classes.1 c.args.pair.other.0) (sym (c.begin_in-first.ensures x.0 x.1).arena) c.requires.2.1
