use Rattle.std.proofs.Common.{◌≡◌, ◌≤◌, ◌*◌, ◌++◌, ℕ, vec_len, length, replicate, ap, sym, subst, ◌∙◌, arith}
use Rattle.std.specs.Option.{option_to_list}
use Rattle.in_arena.specs.Arenas.{free_of}
use Rattle.in_compile.specs.Cells.{count_of}
use Rattle.in_compile.specs.Templates.{TemplatesParts}
use Rattle.in_rounds.specs.Gathers.{GatherParts, bags_of}
use Rattle.in_rounds.specs.declared.gather.JobState.TheVariants.{Fresh}
use Rattle.in_rounds.specs.Bringing.{AreMadeWith, HandsAreMadeWith, in_hands}
use Rattle.in_rounds.specs.Plans.{PlanParts}
use Rattle.in_rounds.specs.Works.{IsReady}
use Rattle.in_rounds.proofs.Gathered.{none_made, made, same_count, are_bags, lent_back}
use Rattle.in_rounds.proofs.Threading.{last_of, all_but_last}
use Rattle.in_rounds.proofs.gathering.place_jobs.Goals as goal

pub all-back-requires-clause-mine : goal.all-back-requires-clause-mine
all-back-requires-clause-mine g c = λ κs within.
    let split = c.pop.ensures.items ∙ ap (λ r. c.pop.new.self.items ++ option_to_list r) c.in-Some.is in
    last_of (IsReady c.args.plan.now c.args.board.now) c.lend-others.result.items c.pop.new.self.items c.in-Some.mine split c.lend-others.ensures.ready

pub all-back-requires-clause-others : goal.all-back-requires-clause-others
all-back-requires-clause-others g c = λ κs within.
    let split = c.pop.ensures.items ∙ ap (λ r. c.pop.new.self.items ++ option_to_list r) c.in-Some.is in
    all_but_last (IsReady c.args.plan.now c.args.board.now) c.lend-others.result.items c.pop.new.self.items c.in-Some.mine split c.lend-others.ensures.ready

pub all-back-requires-clause-few : goal.all-back-requires-clause-few
all-back-requires-clause-few g c = λ κs within.
    let seats = c.args.seats.ok.0 in
    omega (arith, seats, c.requires.some, c.in-Some.ensures.cases, c.lend-others.ensures.count, c.in_ok-crew.ensures.count, c.requires.most)

pub all-back-requires-clause-room : goal.all-back-requires-clause-room
all-back-requires-clause-room g c = λ κs within.
    let seats = c.args.seats.ok.0 in (
      c.in_ok-begun.ensures.items,
      omega (arith, seats, c.requires.some, c.in-Some.ensures.cases, c.lend-others.ensures.count, c.in_ok-crew.ensures.count, c.in_ok-begun.ensures.exact),
      c.in_ok-crew.ensures.back.0,
      omega (arith, seats, c.requires.some, c.in-Some.ensures.cases, c.lend-others.ensures.count, c.in_ok-crew.ensures.count, c.in_ok-crew.ensures.back.1),
    )

pub bring_all-requires-clause-bags : goal.bring_all-requires-clause-bags
bring_all-requires-clause-bags g c =
    let split = c.pop.ensures.items ∙ ap (λ r. c.pop.new.self.items ++ option_to_list r) c.in-Some.is in
    are_bags c.args.plan.now c.lend-others.result.items c.pop.new.self.items c.all-back.result.0.items c.in-Some.mine split c.all-back.ensures.works c.lend-others.ensures.none_done c.args.gather.now.slots
    (length c.args.plan.now.jobs, ap (λ (z : GatherParts). z.slots) c.requires.gather) c.args.arena.now c.lend-others.new.arena c.lend-others.ensures.lent

pub bring_all-requires-clause-made : goal.bring_all-requires-clause-made
bring_all-requires-clause-made g c =
    let split = c.pop.ensures.items ∙ ap (λ r. c.pop.new.self.items ++ option_to_list r) c.in-Some.is in
    let templates : c.plan.inside.templates.now ≡ c.args.plan.now.templates = ap (λ (p : PlanParts). p.templates) c.plan.view_is in
    let slots : c.args.gather.now.slots ≡ replicate (length c.args.plan.now.jobs) Fresh = ap (λ (z : GatherParts). z.slots) c.requires.gather in
    let hands = made c.args.plan.now c.lend-others.result.items c.pop.new.self.items c.all-back.result.0.items c.in-Some.mine split c.all-back.ensures.works c.lend-others.ensures.none_done c.args.gather.now.slots
    (length c.args.plan.now.jobs, slots) c.args.arena.now c.lend-others.new.arena c.lend-others.ensures.lent
    in (
      subst (λ (ts : TemplatesParts). HandsAreMadeWith ts c.all-back.result.0.items) (sym templates) hands,
      subst (AreMadeWith c.plan.inside.templates.now) (sym slots) (none_made c.plan.inside.templates.now (length c.args.plan.now.jobs)),
    )

pub returns-clause-lent : goal.returns-clause-lent
returns-clause-lent g c =
    let split = c.pop.ensures.items ∙ ap (λ r. c.pop.new.self.items ++ option_to_list r) c.in-Some.is in
    let slots : c.args.gather.now.slots ≡ replicate (length c.args.plan.now.jobs) Fresh = ap (λ (z : GatherParts). z.slots) c.requires.gather in
    lent_back (in_hands c.lend-others.result.items) (in_hands c.all-back.result.0.items ++ bags_of c.args.gather.now.slots) (bags_of c.bring_all.new.gather.slots) c.args.arena.now c.lend-others.new.arena c.bring_all.new.arena c.lend-others.ensures.lent
    (same_count c.args.plan.now c.lend-others.result.items c.pop.new.self.items c.all-back.result.0.items c.in-Some.mine split c.all-back.ensures.works c.lend-others.ensures.none_done c.args.gather.now.slots
    (length c.args.plan.now.jobs, slots) c.args.arena.now c.lend-others.new.arena c.lend-others.ensures.lent) c.bring_all.ensures.returns c.bring_all.ensures.bags

pub returns-clause-made : goal.returns-clause-made
returns-clause-made g c =
    let templates : c.plan.inside.templates.now ≡ c.args.plan.now.templates = ap (λ (p : PlanParts). p.templates) c.plan.view_is in
    subst (λ (ts : TemplatesParts). AreMadeWith ts c.bring_all.new.gather.slots) templates c.bring_all.ensures.made

pub returns-clause-threads : goal.returns-clause-threads
returns-clause-threads g c =
    let seats = c.args.seats.ok.0 in
    omega (arith, seats, c.requires.some, c.in-Some.ensures.cases, c.lend-others.ensures.count, c.in_ok-crew.ensures.count, c.all-back.ensures.threads)

pub lend-others-requires-clause-share : goal.lend-others-requires-clause-share
lend-others-requires-clause-share g c = λ d.
    (
    let seats = c.args.seats.ok.0 in
    let many : vec_len c.args.seats ≡ vec_len c.in_ok-crew.crew.hands = omega (arith, seats, c.in_ok-crew.ensures.count) in
    subst (λ (n : ℕ). n * count_of c.args.share d ≤ free_of c.args.arena.now d) many (c.requires.share d)
    )
