use Rattle.std.proofs.Common.{[], ◌∷◌, ◌++◌, subst, arith}
use Rattle.std.proofs.lemmas.List.Elements.{All-push, All-same}
use Rattle.in_compile.specs.Templates.{AreMostAgents}
use Rattle.in_rounds.specs.Plans.{PlanParts}
use Rattle.in_rounds.specs.Works.{IsEmptyRoom}
use Rattle.in_rounds.proofs.Lent.{empty_room}
use Rattle.in_rounds.proofs.lending.rooms_for.Goals as goal

pub loop-made-preserved : goal.loop-made-preserved
loop-made-preserved c =
    let v = c.loop-made.invariant in
    let one = c.in_ok-empty.field-0 in
    let ts = c.args.plan.now.templates.templates in
    let most = subst (λ (p : PlanParts). AreMostAgents p.templates.templates c.most_agents-agents.result) c.plan.view_is c.most_agents-agents.ensures in
    let Empty = IsEmptyRoom ts c.args.stock.now in
    let new = empty_room ts c.args.stock.now c.args.arena.now one c.most_agents-agents.result c.requires most c.in_ok-empty.ensures in
    record {
      each = All-same Empty c.push_reserved.new.self.items (c.loop-made.rooms.items ++ one ∷ []) c.push_reserved.ensures.items (All-push Empty c.loop-made.rooms.items one v.each new);
      made = omega (arith, v.made, c.push_reserved.ensures.len);
      room = omega (arith, v.room, c.push_reserved.ensures.capacity);
    }
