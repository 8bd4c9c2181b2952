-- A pair's cells may be taken in either order.
use Rattle.std.proofs.Common.{◌≡◌, ◌≢◌, List, refl, sym, ap, subst, ◌∙◌, get_or-set_same, get_or-set_other}
use Rattle.std.specs.Prelude.{Bool, false, true}
use Rattle.std.proofs.lemmas.List.{set_comm}
use Rattle.in_arena.specs.Arenas.{ArenaView, changed, state_at}
use Rattle.in_arena.specs.States.{State, Vacant, Leased, IsLive}
use Rattle.in_arena.specs.declared.content.CellClass.{CellClass}
use Rattle.in_arena.proofs.Public.{live_inside}
use Rattle.in_compile.specs.OwnOrders.{in_order}
use Rattle.in_reducer.specs.declared.sides.Pair.{Pair}
use Rattle.in_reducer.specs.Wiring.{AreLive, AreOfClasses, AreOwnCells, pair_in_order, retired, turned}

module _ (p : Pair) (a : ArenaView) (live : AreLive p a) where
  -- a retired cell isn't live
  differ : p.one.0 ≢ p.other.0
  differ e =
      let gone : state_at (changed a p.one.0 Vacant) p.other.0 ≡ Vacant = ap (state_at (changed a p.one.0 Vacant)) (sym e) ∙ get_or-set_same a.states p.one.0 Vacant Leased (live_inside a p.one.0 live.0) in
      subst IsLive gone live.1

  live_turned : AreLive (turned p) a
  live_turned = (
    subst IsLive (get_or-set_other a.states p.one.0 p.other.0 Vacant Leased (λ e. differ (sym e))) live.1,
    subst IsLive (sym (get_or-set_other a.states p.other.0 p.one.0 Vacant Leased differ)) live.0,
  )

  retired_turned : retired (turned p) a ≡ retired p a
  retired_turned = ap (λ (ss : List State). let v : ArenaView = record { memory = a.memory; cells = a.cells; states = ss } in v) (set_comm a.states p.other.0 p.one.0 Vacant Vacant (λ e. differ (sym e)))

  live_in : (order : Bool) → AreLive (pair_in_order order p) a
  live_in false = live
  live_in true = live_turned

  retired_in : (order : Bool) → retired (pair_in_order order p) a ≡ retired p a
  retired_in false = refl
  retired_in true = retired_turned

  classed_in : (order : Bool) (classes : CellClass × CellClass) → AreOfClasses classes p a → AreOfClasses (in_order order classes) (pair_in_order order p) a
  classed_in false classes of = of
  classed_in true classes of = (of.1, of.0)

  module _ (order : Bool) (classes own : CellClass × CellClass) (q : Pair) (h : AreOwnCells order p classes q own) where
    pub own_live : AreLive q a
    own_live = subst (λ (z : Pair). AreLive z a) (sym h.0) (live_in order)

    pub own_retired : retired q a ≡ retired p a
    own_retired = ap (λ (z : Pair). retired z a) h.0 ∙ retired_in order

    pub own_classed : AreOfClasses classes p a → AreOfClasses own q a
    own_classed of = subst (λ (ks : CellClass × CellClass). AreOfClasses ks q a) (sym h.1) (subst (λ (z : Pair). AreOfClasses (in_order order classes) z a) (sym h.0) (classed_in order classes of))
