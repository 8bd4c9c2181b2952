-- A right member that was placed in leased cells and is settled is beside its pair, and there was room for it.
use Rattle.std.proofs.Common.{◌≡◌, ◌⊎◌, inl, inr, ◌<◌, ◌≤◌, ◌+◌, ℕ, zero, suc, cond, nat_eq, Some, None, List, [], ◌∷◌, length, map, get_or, count_by, slice_get, refl, sym, ap, subst, ◌∙◌, get_or-set_other, arith}
use Rattle.std.proofs.lemmas.List.{length-set}
use Rattle.std.proofs.lemmas.List.Sums.{sum_by-cons}
use Rattle.in_arena.specs.Arenas.{ArenaView, changed, free_of, state_at}
use Rattle.in_arena.specs.Bags.{IsBagOf, IsInBag}
use Rattle.in_arena.specs.Changes.{HasAllCells, one_if_free}
use Rattle.in_arena.specs.Classes.{IsNumberOf, class_no}
use Rattle.in_arena.specs.States.{State, Vacant, Leased, Live, word_of}
use Rattle.in_arena.specs.declared.content.CellClass.{CellClass}
use Rattle.in_arena.specs.declared.content.CellCounts.{CellCounts}
use Rattle.in_arena.specs.declared.content.CellNo.{CellNo}
use Rattle.in_arena.proofs.Public.{leased_or, counts_change, number_inside}
use Rattle.in_compile.specs.Cells.{count_of}
use Rattle.in_compile.specs.Listing.{of_class}
use Rattle.in_compile.specs.Members.{AgentParts, MemberParts, IsSoundMember, has_class}
use Rattle.in_compile.specs.Placing.{PlacedParts, IsPlacedMember}
use Rattle.in_compile.specs.Stocks.{Regains}
use Rattle.in_compile.specs.Putting.{IsPut}
use Rattle.in_compile.proofs.Public.{of_itself, same_or_other}
use Rattle.in_reducer.specs.Standing.{at_rest, rested}
use Rattle.in_reducer.proofs.Cells.AtRest.{as_many}

-- ---- settled

module _ (m : MemberParts) (p : PlacedParts) (is : IsPlacedMember m p) (a b : ArenaView) (of : IsBagOf p.bag a) (back : Regains (λ x. x) a p.bag b) where
  pub is_put : (ns : List CellNo) → ns ≡ p.cells → IsPut m ns a b
  is_put ns e = subst (λ (ns : List CellNo). IsPut m ns a b) (sym e) (record {
    count = is.count;
    each = λ k x n at here. (
        let there = is.each k x n at here in
        let in_it = is.written.cells.each k n here in (
          subst (λ (z : CellCounts). IsNumberOf z x.class n.0) (of.cells ∙ sym back.cells) there.0,
          ap word_of (of.leased n.0 in_it),
          back.back n.0 in_it ∙ there.1,
        ));
    once = is.written.cells.once;
    others = λ n out. back.others n (not_in n out (leased_or (state_at p.bag n)));
    memory = back.memory;
    cells = back.cells;
    many = back.count;
  })
    where
      not_in : (n : ℕ) → ((k : ℕ) → slice_get p.cells k ≡ Some (record { 0 = n }) → ⊥) → (state_at p.bag n ≡ Leased) ⊎ IsInBag p.bag n → state_at p.bag n ≡ Leased
      not_in n out (inl e) = e
      not_in n out (inr here) = let k = is.written.cells.only n here in absurd (out k.0 k.1)

-- ---- room

rested_none : (xs : List State) (n : ℕ) → n < length xs → word_of (get_or xs n Leased) ≡ None → get_or (map rested xs) n Leased ≡ Vacant
rested_none [] n l e = absurd (omega (arith, l))
rested_none (Vacant ∷ xs) zero l e = refl
rested_none (Leased ∷ xs) zero l e = refl
rested_none (Live w es ∷ xs) zero l e = absurd (let f : Some w ≡ None = e in cc)
rested_none (x ∷ xs) (suc n) l e = rested_none xs n (omega (arith, l)) e

-- the number that one more cell adds to a class
one_more : (c d : CellClass) (before after : ℕ) → (c ≡ d → before + 1 ≡ after) → ((c ≡ d → ⊥) → before ≡ after) → cond (nat_eq (class_no d) (class_no c)) 1 0 + before ≡ after
one_more c d before after same other = go (same_or_other d c)
  where
    go : (c ≡ d) ⊎ ((c ≡ d → ⊥) × ((n : ℕ) → of_class d n c ≡ 0)) → of_class d 1 c + before ≡ after
    go (inl e) = let one = ap (of_class d 1) e ∙ of_itself d 1 in let f = same e in omega (arith, one, f)
    go (inr o) = let none = o.1 1 in let f = other o.0 in omega (arith, none, f)

-- agents that have different free cells of their classes are no more than are free
they_fit : (a : ArenaView) → HasAllCells a → (xs : List AgentParts) (ns : List CellNo) → length ns ≡ length xs
    → ((k : ℕ) (x : AgentParts) (n : CellNo) → slice_get xs k ≡ Some x → slice_get ns k ≡ Some n → IsNumberOf a.cells x.class n.0 × (state_at a n.0 ≡ Vacant))
    → ((j k : ℕ) (n : CellNo) → slice_get ns j ≡ Some n → slice_get ns k ≡ Some n → j ≡ k) → (c : CellClass) → count_by (has_class c) xs ≤ free_of a c
they_fit a all [] ns count each once c = omega arith
they_fit a all (x ∷ xs) [] count each once c = absurd (omega (arith, count))
they_fit a all (x ∷ xs) (n ∷ ns) count each once c =
    let here = each 0 x n refl refl in
    let b = changed a n.0 Leased in
    let change = counts_change a n.0 x.class Leased all here.0 in
    let was : one_if_free (state_at a n.0) ≡ 1 = ap one_if_free here.1 in
    let rest = they_fit b (length-set a.states n.0 Leased ∙ all) xs ns (omega (arith, count)) rest_each (λ j k m e f. (let g = once (suc j) (suc k) m e f in omega (arith, g))) c in
    let head = sum_by-cons (λ (y : AgentParts). cond (has_class c y) 1 0) x xs in
    let sum = one_more c x.class (free_of b c) (free_of a c)
    (λ e. subst (λ (d : CellClass). free_of b d + 1 ≡ free_of a d) (sym e) (let g = change.0 in omega (arith, g, was)))
    (λ other. change.1 c other) in
    omega (arith, rest, head, sum)
  where
    rest_each : (k : ℕ) (y : AgentParts) (m : CellNo) → slice_get xs k ≡ Some y → slice_get ns k ≡ Some m → IsNumberOf a.cells y.class m.0 × (state_at (changed a n.0 Leased) m.0 ≡ Vacant)
    rest_each k y m e f =
        let there = each (suc k) y m e f in
        (there.0, get_or-set_other a.states n.0 m.0 Leased Leased (λ same. (let g = once (suc k) 0 m f (ap (λ (z : ℕ). Some (record { 0 = z })) (sym same)) in omega (arith, g))) ∙ there.1)

-- if a right member is beside its pair, there was room for it
module _ (m : MemberParts) (sound : IsSoundMember m) (ns : List CellNo) (a b : ArenaView) (put : IsPut m ns a b) (all : HasAllCells (at_rest a)) where
  rested_there : (k : ℕ) (x : AgentParts) (n : CellNo) → slice_get m.agents k ≡ Some x → slice_get ns k ≡ Some n → IsNumberOf a.cells x.class n.0 × (state_at (at_rest a) n.0 ≡ Vacant)
  rested_there k x n e f =
      let there = put.each k x n e f in
      let number : IsNumberOf a.cells x.class n.0 = subst (λ (z : CellCounts). IsNumberOf z x.class n.0) put.cells there.0 in
      (number, rested_none a.states n.0 (subst (λ (z : ℕ). n.0 < z) (as_many a) (number_inside (at_rest a) n.0 x.class all number)) there.1)

  pub there_was_room : (c : CellClass) → count_of m.need c ≤ free_of (at_rest a) c
  there_was_room c =
      let fit = they_fit (at_rest a) all m.agents ns put.count rested_there put.once c in
      let count = sound.counts c in
      omega (arith, fit, count)
