use Rattle.std.proofs.Common.{◌≡◌, [], ◌∷◌, length, length-append, refl, sym, ap, subst, ◌∙◌, arith}
use Rattle.std.proofs.lemmas.List.{length-set}
use Rattle.in_arena.specs.Arenas.{ArenaView, changed}
use Rattle.in_arena.specs.Bags.{IsBagOf}
use Rattle.in_arena.specs.Changes.{HasAllCells}
use Rattle.in_arena.specs.States.{Leased, Vacant}
use Rattle.in_arena.specs.declared.content.CellNo.{CellNo}
use Rattle.in_compile.specs.Listing.{listed, IsListing, IsOnTheWay}
use Rattle.in_compile.proofs.Placements.Stocked.{taken_in, rest_listed, one_back, back_too}
use Rattle.in_compile.proofs.stock.give_back.Goals as goal

pub loop-turn-preserved : goal.loop-turn-preserved
loop-turn-preserved c =
    let h = c.loop-turn.invariant in
    let a = c.loop-turn.arena in
    let b = c.loop-turn.bag in
    let n = c.take-cell.result in
    let t = c.take-cell.ensures in
    let l = listed c.take-cell.new.self in
    let k = listed c.loop-turn.lists in
    let new = subst (λ (p : CellNo). (c.give_back_from.new.self ≡ changed a p.0 Vacant) × (c.give_back_from.new.bag ≡ changed b p.0 Leased) × IsBagOf c.give_back_from.new.bag c.give_back_from.new.self) c.no.ensures c.give_back_from.ensures in
    let in_it = taken_in b l k c.args.class n (λ d o. t.others d o) h.listing t.here in
    let back = one_back (λ _. Vacant) a b n.0 Vacant h.all h.listing.all h.of in_it refl in
    record {
      listing = subst (λ (v : ArenaView). IsListing v l) (sym new.1) (rest_listed b l k c.args.class n (λ d o. t.others d o) h.listing t.here);
      of = new.2;
      all = subst HasAllCells (sym new.0) (length-set a.states n.0 Vacant ∙ h.all);
      turns = (let e = ap length t.here ∙ length-append (l c.args.class) (n ∷ []) in let was = h.turns in omega (arith, e, was));
      others = λ d o. sym (t.others d o) ∙ h.others d o;
      back = back_too (λ _. Vacant) c.args.arena.now c.args.bag.now a b c.give_back_from.new.self c.give_back_from.new.bag h.back
          (subst (λ (q : ArenaView × ArenaView). IsOnTheWay (λ _. Vacant) a b q.0 q.1) (λ i. (sym new.0 i, sym new.1 i)) back);
    }
