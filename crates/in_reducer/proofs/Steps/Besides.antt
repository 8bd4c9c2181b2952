-- A member that a worker placed is beside its pair once it is settled.
use Rattle.std.proofs.Common.{◌≡◌, ℕ, List, refl, subst, sym, arith}
use Rattle.in_arena.specs.Arenas.{ArenaView}
use Rattle.in_arena.specs.Bags.{IsBagOf}
use Rattle.in_arena.specs.declared.content.CellNo.{CellNo}
use Rattle.in_compile.specs.Members.{IsSoundMember}
use Rattle.in_compile.specs.Placing.{PlacedParts, IsPlacedMember}
use Rattle.in_compile.specs.Stocks.{Regains}
use Rattle.in_compile.specs.Templates.{TemplateParts}
use Rattle.in_reducer.specs.declared.body.Body.{Body}
use Rattle.in_reducer.specs.declared.tools.Tools.{Tools}
use Rattle.in_reducer.specs.Inside.{KeepsNet, StandsBeside, reducer_view}
use Rattle.in_compile.specs.Putting.{IsPut}
use Rattle.in_reducer.specs.Standing.{at_rest}
use Rattle.in_reducer.specs.Steps.{HasRoomAt}
use Rattle.in_reducer.specs.Templates.{IsTemplateAt}
use Rattle.in_reducer.proofs.Steps.Settled as settled
use Rattle.in_reducer.proofs.Steps.Stepped.{free_is}

module _ (r : Body) (k : KeepsNet r) (i : ℕ) (p : TemplateParts) (at : IsTemplateAt (reducer_view r) i p) (sound : IsSoundMember p.member) (d : PlacedParts) (is : IsPlacedMember p.member d) (of : IsBagOf d.bag r.arena) (b : ArenaView) (back : Regains (λ x. x) r.arena d.bag b) where
  put : IsPut p.member d.cells r.arena b
  put = settled.is_put p.member d is r.arena b of back d.cells refl

  room : HasRoomAt (reducer_view r) i
  room = (
    p.member.need,
    record { pair = at.pair; stands = at.stands; number = at.number; rule = at.rule; is_rule = at.is_rule; is_need = at.template.member.need },
    λ c. (let l = settled.there_was_room p.member sound d.cells r.arena b put k.net.all c in let e = free_is (at_rest r.arena) c in omega (arith, l, e)),
  )

  -- .. with tools that have the numbers of its cells
  pub stands_beside : (x : Tools) → x.placed.cells ≡ d.cells → StandsBeside (record { checked = r.checked; arena = b; free = r.free; ends = r.ends; queue = r.queue; tools = x }) r.arena i p
  stands_beside x cells = record {
    net = record { reducer = k.reducer; net = k.net; few = k.few; few_free = k.few_free; free = k.free; ends = k.ends; queue = k.queue };
    at = at;
    room = room;
    put = subst (λ (ns : List CellNo). IsPut p.member ns r.arena b) (sym cells) put;
  }
