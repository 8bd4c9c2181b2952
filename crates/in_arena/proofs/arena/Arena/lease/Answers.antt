use Rattle.std.proofs.Common.{◌≡◌, ◌≢◌, ◌<◌, ◌-◌, ◌∙◌, ℕ, ap, get_or, sym, subst, None, Some, true}
use Rattle.in_memory.specs.Splitting.{but, those_of}
use Rattle.in_memory.specs.declared.cells.Cells.{Cells}
use Rattle.in_arena.specs.Arenas.{ArenaView, Leases}
use Rattle.in_arena.specs.ByClass.{view_of}
use Rattle.in_arena.specs.Classes.{amount}
use Rattle.in_arena.specs.FreeLists.{list_in}
use Rattle.in_arena.specs.Inside.{IsArena, arena_view}
use Rattle.in_arena.specs.Leases.{IsLease, lease_view}
use Rattle.in_arena.specs.Rows.{MakesReady}
use Rattle.in_arena.specs.Words.{head, is_spot, spot}
use Rattle.in_arena.specs.declared.arena.Arena.TheInside.{Inside}
use Rattle.in_arena.specs.declared.lease.Lease.TheInside.{Inside as LeaseInside}
use Rattle.in_arena.specs.declared.content.CellClass.{CellClass}
use Rattle.in_arena.specs.declared.content.CellNo.{CellNo}
use Rattle.in_arena.specs.declared.content.End.{End}
use Rattle.in_arena.specs.declared.content.End.TheVariants.{Cell}
use Rattle.in_arena.specs.declared.free_list.FreeList.{FreeList}
use Rattle.in_arena.specs.declared.free_list.FreeLists.{FreeLists}
use Rattle.in_arena.specs.declared.spot.Spot.{Spot}
use Rattle.in_arena.proofs.FreeLists.{list_with}
use Rattle.in_arena.proofs.Inside.{first_head, first_inside, first_next, lent_in, none_ready_in, ready_in, with_row}
use Rattle.in_arena.proofs.Rewriting.{free_some}
use Rattle.in_arena.proofs.arena.Arena.lease.Goals as goal

pub returns-then-not-is_ready : goal.returns-then-not-is_ready
returns-then-not-is_ready c =
    let a = c.self.inside in let h = c.self.invariant in
    none_ready_in a h c.args.self.now c.self.view_is c.args.class c.is_ready.new.words c.is_ready.new.lists (subst (λ b. MakesReady a.cells c.args.class a.words a.lists b c.is_ready.new.words c.is_ready.new.lists) c.if-not-is_ready.true c.is_ready.ensures)

pub head-requires : goal.head-requires
head-requires c =
    let a = c.self.inside in let h = c.self.invariant in let k = c.args.class in let w = c.is_ready.new.words in let z = c.is_ready.new.lists in
    let r = ready_in a h c.args.self.now c.self.view_is k w z (subst (λ b. MakesReady a.cells k a.words a.lists b w z) c.if-not-is_ready.false c.is_ready.ensures) in
    (h.few, subst (λ i. i < amount a.cells k) (sym (ap (λ (l : FreeList). l.next) c.of-list.ensures)) (first_inside (with_row a w z) r.0 c.args.self.now r.1 k r.2))

pub get-requires : goal.get-requires
get-requires c =
    let a = c.self.inside in let h = c.self.invariant in let k = c.args.class in let w = c.is_ready.new.words in let z = c.is_ready.new.lists in
    let ready = subst (λ b. MakesReady a.cells k a.words a.lists b w z) c.if-not-is_ready.false c.is_ready.ensures in
    let r = ready_in a h c.args.self.now c.self.view_is k w z ready in let at = first_head (with_row a w z) r.0 c.args.self.now r.1 k r.2 in
    (sym h.block.0 ∙ sym ready.0, (at.0, ap (λ j. get_or w.slots j None) (c.head.ensures ∙ ap (λ (l : FreeList). spot k a.cells l.next head) c.of-list.ensures) ∙ at.1))

pub pop-requires : goal.pop-requires
pop-requires c =
    let a = c.self.inside in let k = c.args.class in let w = c.is_ready.new.words in let z = c.is_ready.new.lists in
    let ready = subst (λ b. MakesReady a.cells k a.words a.lists b w z) c.if-not-is_ready.false c.is_ready.ensures in
    free_some a.cells k w z ready.1 ready.2 ready.4

all : (a : Inside) (h : IsArena a) (v : ArenaView) (e : arena_view a ≡ v) (k : CellClass) (w : Cells End) (z : FreeLists) (ready : MakesReady a.cells k a.words a.lists true w z) (l : FreeList) → l ≡ list_in z k
    → (at : ℕ) → at ≡ spot k a.cells l.next head → (x : End) → get_or w.slots at None ≡ Some (Some x) → (next : ℕ) → ((d : CellNo) (p : ℕ) → x ≡ Cell d p → next ≡ d.0) → (lists : FreeLists) → list_in lists k ≡ list_with next (list_in z k).fresh ((list_in z k).free - 1) → ((d : CellClass) → d ≢ k → list_in lists d ≡ list_in z d)
    → (one rest : Cells End) → (one.at ≡ w.at) × (one.slots ≡ those_of (is_spot k a.cells l.next) w.slots) → (rest.at ≡ w.at) × (rest.slots ≡ those_of (but (is_spot k a.cells l.next)) w.slots)
    → let m : LeaseInside = record { spot = (let s : Spot = record { class = k; index = l.next; cells = a.cells } in s); base = a.base; words = one } in IsLease m × IsArena (with_row a rest lists) × Leases v k (Some (lease_view m)) (view_of rest.at a.cells rest.slots)
all a h v e k w z ready l is at word x here next named lists own others one rest parted left =
    let b = with_row a w z in let r = ready_in a h v e k w z ready in
    let spot_is : at ≡ spot k a.cells (list_in z k).next head = word ∙ ap (λ (m : FreeList). spot k a.cells m.next head) is in
    let there = ap (λ j. get_or w.slots j None) (sym spot_is) ∙ here in
    lent_in b r.0 v r.1 k r.2 l.next (ap (λ (m : FreeList). m.next) is) lists next (first_next b r.0 v r.1 k r.2 x next there named) own others one rest parted left

pub invariant_of-result : goal.invariant_of-result
invariant_of-result c = (all c.self.inside c.self.invariant c.args.self.now c.self.view_is c.args.class c.is_ready.new.words c.is_ready.new.lists
    (subst (λ b. MakesReady c.self.inside.cells c.args.class c.self.inside.words c.self.inside.lists b c.is_ready.new.words c.is_ready.new.lists) c.if-not-is_ready.false c.is_ready.ensures)
    c.of-list.result c.of-list.ensures c.head.result c.head.ensures c.get.result.now c.get.ensures c.number-next.result c.number-next.ensures.cell c.pop.new.self c.pop.ensures.class c.pop.ensures.others
    c.part_by.result c.part_by.new.self c.part_by.ensures.one c.part_by.ensures.rest).0

pub invariant_of-self-2 : goal.invariant_of-self-2
invariant_of-self-2 c = (all c.self.inside c.self.invariant c.args.self.now c.self.view_is c.args.class c.is_ready.new.words c.is_ready.new.lists
    (subst (λ b. MakesReady c.self.inside.cells c.args.class c.self.inside.words c.self.inside.lists b c.is_ready.new.words c.is_ready.new.lists) c.if-not-is_ready.false c.is_ready.ensures)
    c.of-list.result c.of-list.ensures c.head.result c.head.ensures c.get.result.now c.get.ensures c.number-next.result c.number-next.ensures.cell c.pop.new.self c.pop.ensures.class c.pop.ensures.others
    c.part_by.result c.part_by.new.self c.part_by.ensures.one c.part_by.ensures.rest).1

pub returns : goal.returns
returns c = (all c.self.inside c.self.invariant c.args.self.now c.self.view_is c.args.class c.is_ready.new.words c.is_ready.new.lists
    (subst (λ b. MakesReady c.self.inside.cells c.args.class c.self.inside.words c.self.inside.lists b c.is_ready.new.words c.is_ready.new.lists) c.if-not-is_ready.false c.is_ready.ensures)
    c.of-list.result c.of-list.ensures c.head.result c.head.ensures c.get.result.now c.get.ensures c.number-next.result c.number-next.ensures.cell c.pop.new.self c.pop.ensures.class c.pop.ensures.others
    c.part_by.result c.part_by.new.self c.part_by.ensures.one c.part_by.ensures.rest).2
