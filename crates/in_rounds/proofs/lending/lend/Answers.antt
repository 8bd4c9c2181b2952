use Rattle.std.proofs.Common.{◌≡◌, List, [], ◌∷◌, ◌++◌, vec_len, subst, sym, ap, ◌∙◌, arith}
use Rattle.std.specs.Option.{option_to_list}
use Rattle.std.proofs.lemmas.List.Elements.{All-push, All-same}
use Rattle.in_compile.specs.Stocks.{StockParts, HasRoom, IsStockOf}
use Rattle.in_rounds.specs.Bringing.{in_hands}
use Rattle.in_rounds.specs.Lending.{AreLentOut, IsFreshHand}
use Rattle.in_rounds.specs.Works.{IsReady}
use Rattle.in_rounds.specs.declared.hand.Hand.{Hand}
use Rattle.in_rounds.proofs.Lent.{empty_has_room, empty_stock_of, lent_one, is_ready, share_left}
use Rattle.in_rounds.proofs.Threading.{last_of, all_but_last}
use Rattle.in_rounds.proofs.lending.lend.Goals as goal

pub add-requires-clause-of : goal.add-requires-clause-of
add-requires-clause-of c =
    let split = c.pop.ensures.items ∙ ap (λ r. c.pop.new.self.items ++ option_to_list r) c.in-Some.is in
    let is = last_of (IsFreshHand c.args.plan.now c.args.board.now c.args.arena.now c.args.share) c.loop-hand.hands.items c.pop.new.self.items c.in-Some.hand split c.loop-hand.invariant.hands in
    let lent = c.loop-hand.invariant.lent in
    subst (λ (s : StockParts). IsStockOf s c.loop-hand.arena) (sym is.stock) (empty_stock_of c.args.arena.now c.loop-hand.arena c.args.share lent.memory lent.cells)

pub add-requires-clause-room : goal.add-requires-clause-room
add-requires-clause-room c =
    let split = c.pop.ensures.items ∙ ap (λ r. c.pop.new.self.items ++ option_to_list r) c.in-Some.is in
    let is = last_of (IsFreshHand c.args.plan.now c.args.board.now c.args.arena.now c.args.share) c.loop-hand.hands.items c.pop.new.self.items c.in-Some.hand split c.loop-hand.invariant.hands in
    subst (λ (s : StockParts). HasRoom s c.args.share) (sym is.stock) (empty_has_room c.args.arena.now c.args.share)

pub loop-hand-preserved : goal.loop-hand-preserved
loop-hand-preserved c =
    let split = c.pop.ensures.items ∙ ap (λ r. c.pop.new.self.items ++ option_to_list r) c.in-Some.is in
    let v = c.loop-hand.invariant in
    let is = last_of (IsFreshHand c.args.plan.now c.args.board.now c.args.arena.now c.args.share) c.loop-hand.hands.items c.pop.new.self.items c.in-Some.hand split v.hands in
    let got : Hand = record { seat = c.in-Some.hand.seat; stock = c.add.new.self; rooms = c.in-Some.hand.rooms; done = c.in-Some.hand.done } in
    let all = c.cells.ensures.1 in
    let lent = lent_one c.args.plan.now c.args.board.now c.args.share c.loop-hand.lent.items c.args.arena.now c.loop-hand.arena c.add.new.arena c.in-Some.hand c.add.new.self all v.lent is c.add.ensures in
    let ready = is_ready c.args.plan.now c.args.board.now c.args.share c.loop-hand.lent.items c.args.arena.now c.loop-hand.arena c.add.new.arena c.in-Some.hand c.add.new.self all v.lent is c.add.ensures in
    let new = c.push_reserved.ensures.items in
    let Ready = IsReady c.args.plan.now c.args.board.now in
    record {
      lent = subst (λ (ps : List Hand). AreLentOut (in_hands ps) c.args.arena.now c.add.new.arena) (sym new) lent;
      ready = All-same Ready c.push_reserved.new.self.items (c.loop-hand.lent.items ++ got ∷ []) new (All-push Ready c.loop-hand.lent.items got v.ready ready);
      none_done = All-same (λ (p : Hand). p.done.items ≡ []) c.push_reserved.new.self.items (c.loop-hand.lent.items ++ got ∷ []) new (All-push (λ (p : Hand). p.done.items ≡ []) c.loop-hand.lent.items got v.none_done is.done);
      hands = all_but_last (IsFreshHand c.args.plan.now c.args.board.now c.args.arena.now c.args.share) c.loop-hand.hands.items c.pop.new.self.items c.in-Some.hand split v.hands;
      share = share_left (vec_len c.loop-hand.hands) (vec_len c.pop.new.self) c.args.share c.loop-hand.arena c.add.new.arena (omega (arith, c.in-Some.ensures.cases)) v.share c.add.ensures.0.left;
      count = omega (arith, v.count, c.push_reserved.ensures.len, c.in-Some.ensures.cases);
      room = omega (arith, v.room, c.push_reserved.ensures.len, c.push_reserved.ensures.capacity, c.in-Some.ensures.cases);
    }
