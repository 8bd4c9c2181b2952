use Rattle.std.proofs.Common.{◌≡◌, List, sym, subst}
use Rattle.in_arena.specs.Arenas.{ArenaView}
use Rattle.in_arena.specs.declared.content.CellNo.{CellNo}
use Rattle.in_arena.specs.declared.content.End.{End}
use Rattle.in_compile.specs.Members.{MemberParts}
use Rattle.in_compile.specs.OwnOrders.{BothTake}
use Rattle.in_reducer.specs.Wiring.{AreAtAgents, CanBegin, HasBegun, retired}
use Rattle.in_reducer.proofs.Steps.Turned as turned
use Rattle.in_reducer.proofs.wiring.begin_anew.Goals as goal

-- the agents that were begun are the template's, in the pair's cells
begun_there : (m n : MemberParts) (a d b : ArenaView) (points : List End) → m ≡ n → d ≡ a → (ns : List CellNo) × HasBegun m ns d b × AreAtAgents ns points → (ns : List CellNo) × HasBegun n ns a b × AreAtAgents ns points
begun_there m n a d b points same gone h = (h.0, subst (λ (m : MemberParts). HasBegun m h.0 a b) same (subst (λ (v : ArenaView). HasBegun m h.0 v b) gone h.1), h.2)

pub begin_both-requires-clause-pair : goal.begin_both-requires-clause-pair
begin_both-requires-clause-pair c =
    let own = c.own_cells.result in
    let order = c.own_order-order.result.turned in (
      turned.own_live c.args.pair c.args.arena.now c.requires.0 order c.args.template.now.classes own.1 own.0 c.own_cells.ensures,
      subst (λ (m : MemberParts). CanBegin m c.args.arena.now c.args.points.now) (sym c.member.ensures) c.requires.1,
    )

pub begin_both-requires-clause-taken : goal.begin_both-requires-clause-taken
begin_both-requires-clause-taken c =
    let own = c.own_cells.result in
    let order = c.own_order-order.result.turned in (
      own.1,
      subst (λ (m : MemberParts). BothTake m own.1) (sym c.member.ensures)
          (subst (BothTake c.args.template.now.member) (sym c.own_cells.ensures.1) (c.own_order-order.ensures c.if-order.true)),
      turned.own_classed c.args.pair c.args.arena.now c.requires.0 order c.args.template.now.classes own.1 own.0 c.own_cells.ensures c.requires.2,
    )

pub begin_in-requires : goal.begin_in-requires
begin_in-requires c =
    let own = c.own_cells-else-order.result in
    let order = c.own_order-order.result.turned in (
      turned.own_live c.args.pair c.args.arena.now c.requires.0 order c.args.template.now.classes own.1 own.0 c.own_cells-else-order.ensures,
      subst (λ (m : MemberParts). CanBegin m c.args.arena.now c.args.points.now) (sym c.member-else-order.ensures) c.requires.1,
      turned.own_classed c.args.pair c.args.arena.now c.requires.0 order c.args.template.now.classes own.1 own.0 c.own_cells-else-order.ensures c.requires.2,
    )

pub returns-then-order-clause-begun : goal.returns-then-order-clause-begun
returns-then-order-clause-begun c =
    let own = c.own_cells.result in
    begun_there c.member.result.now c.args.template.now.member (retired c.args.pair c.args.arena.now) (retired own.0 c.args.arena.now) c.begin_both.new.arena c.begin_both.new.points c.member.ensures
    (turned.own_retired c.args.pair c.args.arena.now c.requires.0 c.own_order-order.result.turned c.args.template.now.classes own.1 own.0 c.own_cells.ensures) c.begin_both.ensures.begun

pub returns-else-order-clause-begun : goal.returns-else-order-clause-begun
returns-else-order-clause-begun c =
    let own = c.own_cells-else-order.result in
    begun_there c.member-else-order.result.now c.args.template.now.member (retired c.args.pair c.args.arena.now) (retired own.0 c.args.arena.now) c.begin_in.new.arena c.begin_in.new.points c.member-else-order.ensures
    (turned.own_retired c.args.pair c.args.arena.now c.requires.0 c.own_order-order.result.turned c.args.template.now.classes own.1 own.0 c.own_cells-else-order.ensures) c.begin_in.ensures.begun
