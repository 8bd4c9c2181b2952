use Rattle.std.proofs.Common.{◌≡◌, ◌-◌, ◌∙◌, ℕ, ap, get_or, sym, subst, Some, None, arith}
use Rattle.in_arena.specs.Arenas.{ArenaView}
use Rattle.in_arena.specs.ByClass.{IsPlace}
use Rattle.in_arena.specs.Classes.{IsNumberOf, first_of}
use Rattle.in_arena.specs.Inside.{arena_view}
use Rattle.in_arena.specs.declared.arena.Arena.TheInside.{Inside}
use Rattle.in_arena.specs.declared.content.CellClass.{CellClass}
use Rattle.in_arena.specs.declared.content.CellNo.{CellNo}
use Rattle.in_arena.specs.declared.content.End.TheVariants.{Cell}
use Rattle.in_arena.specs.declared.free_list.FreeList.{FreeList}
use Rattle.in_arena.proofs.Classes.{class_few}
use Rattle.in_arena.proofs.Inside.{freed_in, head_found, live_in_place, live_of, near_spot}
use Rattle.in_arena.proofs.Rewriting.{free_few, next_few}
use Rattle.in_arena.proofs.arena.Arena.retire_as.Goals as goal

-- the cell's number is its place in the class
numbered : (a : Inside) (v : ArenaView) → arena_view a ≡ v → (k : CellClass) (n : ℕ) → IsNumberOf v.cells k n → IsNumberOf a.cells k n
numbered a v e k n of = subst (λ cells. IsNumberOf cells k n) (sym (ap (λ (w : ArenaView). w.cells) e)) of

place_of : (a : Inside) (k : CellClass) (n first : ℕ) → IsNumberOf a.cells k n → first ≡ first_of a.cells k → IsPlace a.cells n k (n - first)
place_of a k n first of is = let low = of.0 in let high = of.1 in (omega (arith, low, high, is), omega (arith, low, is))

pub overflow_sub-index : goal.overflow_sub-index
overflow_sub-index c =
    let a = c.self.inside in let h = c.self.invariant in let n = c.args.cell.0 in let k = c.args.class in
    let of = numbered a c.args.self.now c.self.view_is k n c.requires.class in let low = of.0 in let first = c.first.ensures a.cells h.starts in
    omega (arith, low, first)

pub port-requires : goal.port-requires
port-requires c =
    let a = c.self.inside in let h = c.self.invariant in let k = c.args.class in let few = class_few a.cells h.few k in
    (omega (arith, next_few a.cells k a.words a.lists h.whole h.free, few.0, ap (λ (l : FreeList). l.next) c.of-list.ensures), omega arith)

pub write-requires : goal.write-requires
write-requires c =
    let a = c.self.inside in let h = c.self.invariant in let n = c.args.cell.0 in let l = live_of a h c.args.self.now c.self.view_is n c.requires.live in
    let e = head_found a.words a.cells n h.whole l in (sym h.block.0, (Some e.0, ap (λ k. get_or a.words.slots k None) c.near_word.ensures ∙ e.1))

pub push-requires : goal.push-requires
push-requires c =
    let a = c.self.inside in let h = c.self.invariant in let k = c.args.class in let most = class_few a.cells h.few k in
    omega (arith, free_few a.cells k a.words a.lists h.whole h.free, most.0)

pub invariant_of-self : goal.invariant_of-self
invariant_of-self c =
    let a = c.self.inside in let h = c.self.invariant in let n = c.args.cell.0 in let v = c.args.self.now in let k = c.args.class in
    let place = place_of a k n c.first.result (numbered a v c.self.view_is k n c.requires.class) (c.first.ensures a.cells h.starts) in
    let l = live_in_place a.words.at a.cells a.words.slots v n k (n - c.first.result) c.self.view_is place c.requires.live in
    (freed_in a h v c.self.view_is n l c.write.new.self c.push.new.self c.port.result c.near_word.result c.write.ensures.0 (c.port.ensures ∙ ap (λ (m : FreeList). Cell (let z : CellNo = record { 0 = m.next } in z) 0) c.of-list.ensures)
    (c.near_word.ensures ∙ near_spot a.cells n k (n - c.first.result) 3 place (omega arith)) c.write.ensures.1 c.push.ensures.class c.push.ensures.others).0

pub returns : goal.returns
returns c =
    let a = c.self.inside in let h = c.self.invariant in let n = c.args.cell.0 in let v = c.args.self.now in let k = c.args.class in
    let place = place_of a k n c.first.result (numbered a v c.self.view_is k n c.requires.class) (c.first.ensures a.cells h.starts) in
    let l = live_in_place a.words.at a.cells a.words.slots v n k (n - c.first.result) c.self.view_is place c.requires.live in
    (freed_in a h v c.self.view_is n l c.write.new.self c.push.new.self c.port.result c.near_word.result c.write.ensures.0 (c.port.ensures ∙ ap (λ (m : FreeList). Cell (let z : CellNo = record { 0 = m.next } in z) 0) c.of-list.ensures)
    (c.near_word.ensures ∙ near_spot a.cells n k (n - c.first.result) 3 place (omega arith)) c.write.ensures.1 c.push.ensures.class c.push.ensures.others).1
