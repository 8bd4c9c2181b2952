use Rattle.std.proofs.Common.{◌≡◌, ◌<◌, ◌+◌, ℕ, ◌∙◌, ap, get_or, set, Some, None, refl, sym, subst, arith}
use Rattle.in_arena.specs.ByClass.{IsPlace}
use Rattle.in_arena.specs.Classes.{amount, first_of, width}
use Rattle.in_arena.specs.Words.{head, slot_of, cell_in, ends_in, ChangesCell, IsInOneState}
use Rattle.in_arena.specs.declared.spot.Spot.{Spot}
use Rattle.in_arena.proofs.Classes.{class_few}
use Rattle.in_arena.proofs.Inside.{near_spot}
use Rattle.in_arena.proofs.Filling.{IsFilledTo, filled_all, filled_more, filled_none}
use Rattle.in_arena.proofs.Rows.{head_now, with_word}
use Rattle.in_arena.proofs.Seen.{place_inside}
use Rattle.in_arena.proofs.Words.{ends_long, head_inside, slot_inside}
use Rattle.in_arena.proofs.row.write_new.Goals as goal

below : (n m k : ℕ) → n < m → m ≡ k → n < k
below n m k lt e = omega (arith, lt, e)

-- the place of the cell
place : (s : Spot) (n first : ℕ) → s.index < amount s.cells s.class → first ≡ first_of s.cells s.class → n ≡ first + s.index → IsPlace s.cells n s.class s.index
place s n first inside is num = (inside, num ∙ ap (λ f. f + s.index) is)

pub loop-place-init : goal.loop-place-init
loop-place-init c = let s = c.args.spot in record { same = refl; filled = filled_none s.cells c.args.words.now.slots s.class s.index c.requires.new }

pub overflow_add-cell : goal.overflow_add-cell
overflow_add-cell c =
    let s = c.args.spot in let w = c.requires.words in
    record { fits = omega (arith, c.first.ensures s.cells c.requires.starts, place_inside s.cells s.class s.index w.2, (class_few s.cells w.1 s.class).1) }

pub place_word-at-requires-clause-cells : goal.place_word-at-requires-clause-cells
place_word-at-requires-clause-cells c =
    let s = c.args.spot in let w = c.requires.words in (
      w.1,
      (
        s.class,
        s.index,
        place s (c.first.result + s.index) c.first.result w.2 (c.first.ensures s.cells c.requires.starts) refl,
        below c.loop-place.place c.width-place-end.result (width s.class) c.loop-place-test.true c.width-place-end.ensures,
      ),
    )

pub write-requires : goal.write-requires
write-requires c =
    let s = c.args.spot in let w = c.requires.words in let p = c.loop-place.place in let lt = below p c.width-place-end.result (width s.class) c.loop-place-test.true c.width-place-end.ensures in
    let there = c.loop-place.invariant.filled.here (slot_of p) (slot_inside s.class p lt) in
    let at = c.place_word-at.ensures s.class s.index (place s (c.first.result + s.index) c.first.result w.2 (c.first.ensures s.cells c.requires.starts) refl) in
    (w.0 ∙ sym c.loop-place.invariant.same, (there.0, ap (λ k. get_or c.loop-place.words.slots k None) at ∙ there.1))

pub loop-place-preserved : goal.loop-place-preserved
loop-place-preserved c =
    let s = c.args.spot in let w = c.requires.words in let ws = c.args.words.now.slots in let now = c.loop-place.words.slots in let f = c.loop-place.invariant.filled in
    let p = c.loop-place.place in let lt = below p c.width-place-end.result (width s.class) c.loop-place-test.true c.width-place-end.ensures in
    let there = c.place_word-at.ensures s.class s.index (place s (c.first.result + s.index) c.first.result w.2 (c.first.ensures s.cells c.requires.starts) refl) in
    let at : c.write.new.self.slots ≡ with_word s.cells now s.class s.index (slot_of p) c.free.result = c.write.ensures.1 ∙ ap (λ n. set now n (Some (Some c.free.result))) there in
    record {
      same = c.write.ensures.0 ∙ c.loop-place.invariant.same;
      filled = subst (λ x. IsFilledTo s.cells ws x s.class s.index (p + 1)) (sym at) (filled_more s.cells ws now s.class s.index p c.free.result (f.change.long ∙ w.3) w.2 lt f);
    }

pub write-requires-2 : goal.write-requires-2
write-requires-2 c =
    let s = c.args.spot in let w = c.requires.words in let there = c.loop-place.invariant.filled.here head (head_inside s.class) in
    let at = c.near_word.ensures ∙ near_spot s.cells (c.first.result + s.index) s.class s.index 3 (place s (c.first.result + s.index) c.first.result w.2 (c.first.ensures s.cells c.requires.starts) refl) (omega arith) in
    (w.0 ∙ sym c.loop-place.invariant.same, (there.0, ap (λ k. get_or c.loop-place.words.slots k None) at ∙ there.1))

pub returns : goal.returns
returns c =
    let s = c.args.spot in let w = c.requires.words in let ws = c.args.words.now.slots in let now = c.loop-place.words.slots in let f = c.loop-place.invariant.filled in
    let end = c.loop-place.auto.place-end in let done = c.loop-place-test.false in
    let to : c.loop-place.place ≡ width s.class = omega (arith, end, done, c.width-place-end.ensures) in
    let long = f.change.long ∙ w.3 in
    let there = c.near_word.ensures ∙ near_spot s.cells (c.first.result + s.index) s.class s.index 3 (place s (c.first.result + s.index) c.first.result w.2 (c.first.ensures s.cells c.requires.starts) refl) (omega arith) in
    let at : c.write-2.new.self.slots ≡ with_word s.cells now s.class s.index head c.args.head = c.write-2.ensures.1 ∙ ap (λ n. set now n (Some (Some c.args.head))) there in
    let z = filled_all s.cells ws now s.class s.index c.args.head long w.2 c.requires.head (subst (IsFilledTo s.cells ws now s.class s.index) to f) in
    record {
      same = c.write-2.ensures.0 ∙ c.loop-place.invariant.same;
      state = subst (λ x. IsInOneState s.cells x s.class s.index) (sym at) z.0;
      changes = subst (λ x. ChangesCell s.cells ws x s.class s.index) (sym at) z.1;
      ends = ends_in s.cells now s.class s.index;
      long = ends_long s.cells now s.class s.index;
      cell = ap (λ x. cell_in s.cells x s.class s.index) at ∙ head_now s.cells now s.class s.index c.args.head long w.2;
    }
