-- Cells are taken for agents, one after another.
use Rattle.std.proofs.Common.{◌≡◌, ◌≢◌, ◌⊎◌, inl, inr, ◌<◌, ◌+◌, ℕ, Bool, true, false, cond, Some, None, List, length, take, set, get_or, count_by, slice_get, refl, sym, ap, subst, ◌∙◌, get_or-set_same, get_or-set_other, arith}
use Rattle.std.specs.Prelude.{nat_le}
use Rattle.std.proofs.lemmas.Bool.{cases_eq, le-leb, leb-true}
use Rattle.std.proofs.lemmas.List.{length-set}
use Rattle.std.proofs.lemmas.List.Sums.{sum_by_more, sum_by_more_le}
use Rattle.std.proofs.lemmas.Option.{same_Some, slice_get_within, get_or_from_slice_get}
use Rattle.std.specs.Cmp.{first_so, second_so}
use Rattle.std.specs.Cmp.Derive.{both_true}
use Rattle.in_arena.specs.Arenas.{ArenaView, BeginsCell, free_of, state_at}
use Rattle.in_arena.specs.Changes.{AllButOneStay, HasAllCells, OneFewerIsFree}
use Rattle.in_arena.specs.Classes.{Holds, holds, IsNumberOf, least, width}
use Rattle.in_arena.specs.States.{State, Vacant, Leased, Live, IsLive, places, word_of}
use Rattle.in_arena.specs.declared.content.CellClass.{CellClass}
use Rattle.in_arena.specs.declared.content.CellClass.TheVariants.{Small, Large, Wide}
use Rattle.in_arena.specs.declared.content.CellNo.{CellNo}
use Rattle.in_arena.proofs.Public.{begun_takes_one, others_stay, vacant_inside}
use Rattle.in_cells.specs.Copying.{ArePart, LooksLike, HasCellsFor, is_for, name_in}
use Rattle.in_cells.specs.CopyingSteps.{TakesCell, HasCell, HaveCellsBelow, HaveOwnCells}

-- ---- classes

pub apart : (n : ℕ) (c d : CellClass) → Holds c n → Holds d n → d ≡ c
apart n Small Small h k = refl
apart n Small Large h k = absurd (let a = h.1 in let b = k.0 in omega (arith, a, b))
apart n Small Wide h k = absurd (let a = h.1 in let b = k.0 in omega (arith, a, b))
apart n Large Small h k = absurd (let a = h.0 in let b = k.1 in omega (arith, a, b))
apart n Large Large h k = refl
apart n Large Wide h k = absurd (let a = h.1 in let b = k.0 in omega (arith, a, b))
apart n Wide Small h k = absurd (let a = h.0 in let b = k.1 in omega (arith, a, b))
apart n Wide Large h k = absurd (let a = h.0 in let b = k.1 in omega (arith, a, b))
apart n Wide Wide h k = refl

abbrev pub one_if : Bool → ℕ
one_if b = cond b 1 0

pub one_for : (c : CellClass) (n : ℕ) → Holds c n → one_if (holds c n) ≡ 1
one_for c n h = ap one_if (both_true (le-leb (least c) n h.0) (le-leb n (width c) h.1))

-- n places are for this class, or for another one
pub which : (c : CellClass) (n : ℕ) → Holds c n ⊎ (one_if (holds c n) ≡ 0)
which c n = go (holds c n) refl
  where
    go : (b : Bool) → holds c n ≡ b → Holds c n ⊎ (one_if (holds c n) ≡ 0)
    go true e = let one = nat_le (least c) n in let two = nat_le n (width c) in inl (leb-true (least c) n (first_so one two e), leb-true n (width c) (second_so one two e))
    go false e = inr (ap one_if e)

-- ---- states

live_word : (x y : State) → IsLive x → word_of y ≡ word_of x → y ≡ Vacant → ⊥
live_word Vacant y live e f = live
live_word Leased y live e f = live
live_word (Live w es) y live e f = let g : None ≡ Some w = sym (ap word_of f) ∙ e in cc

-- ---- numbers

pub name_here : (names : List CellNo) (n : ℕ) (c : CellNo) → n < length names → name_in (set names n c) n ≡ c.0
name_here names n c lt = ap (λ (z : CellNo). z.0) (get_or-set_same names n c (record { 0 = 0 }) lt)

pub name_there : (names : List CellNo) (n m : ℕ) (c : CellNo) → m ≢ n → name_in (set names n c) m ≡ name_in names m
name_there names n m c other = ap (λ (z : CellNo). z.0) (get_or-set_other names n m c (record { 0 = 0 }) other)

-- ---- one cell is taken

module _ (old : ArenaView) (all : HasAllCells old) (y : State) (d : CellClass) (p w : ℕ) (many : p ≡ places y) (word : word_of y ≡ Some w) (held : Holds d p) (n : ℕ) (new : ArenaView) (b : BeginsCell d w p old n new) where
  fewer : OneFewerIsFree d old new
  fewer = begun_takes_one old new d w p n all b

  left_by : (c : CellClass) → Holds c (places y) ⊎ (one_if (holds c (places y)) ≡ 0) → free_of new c + one_if (holds c (places y)) ≡ free_of old c
  left_by c (inl h) =
      let is : c ≡ d = apart (places y) d c (subst (Holds d) many held) h in
      let first = fewer.0 in
      let one = one_for d (places y) (subst (Holds d) many held) in
      subst (λ (z : CellClass). free_of new z + one_if (holds z (places y)) ≡ free_of old z) (sym is) (omega (arith, first, one))
  left_by c (inr none) =
      let other : c ≡ d → ⊥ = λ is. (let one = ap (λ (z : CellClass). one_if (holds z (places y))) is ∙ one_for d (places y) (subst (Holds d) many held) in omega (arith, one, none)) in
      let rest = fewer.1 c other in
      omega (arith, none, rest)

  pub cell_taken : TakesCell y old n new
  cell_taken = record {
    class = d;
    held = subst (Holds d) many held;
    at = b.at;
    was = b.was;
    state = b.state;
    alike = (ap word_of b.begun.2 ∙ sym word, ap places b.begun.2 ∙ b.begun.1 ∙ many);
    arena = b.arena;
    left = λ c. left_by c (which c (places y));
  }

-- ---- one agent after another

pub none_taken : (from : ArenaView) (agents : List CellNo) (old : ArenaView) (names : List CellNo) → HaveCellsBelow from agents old 0 old names
none_taken from agents old names = record {
  each = λ k c less. absurd (omega (arith, less));
  once = λ j k c d less. absurd (omega (arith, less));
  others = λ n out. refl;
  free = λ d. omega arith;
  memory = refl;
  cells = refl;
  many = refl;
}

module _ (from : ArenaView) (agents : List CellNo) (old : ArenaView) (x : ℕ) (now : ArenaView) (names : List CellNo) (part : ArePart from agents) (h : HaveCellsBelow from agents old x now names) (c : CellNo) (at : slice_get agents x ≡ Some c) where
  -- the agent counts for the class for its places
  counted : (d : CellClass) → one_if (is_for from d (get_or agents x c)) ≡ one_if (holds d (places (state_at from c.0)))
  counted d = ap (λ (a : CellNo). one_if (is_for from d a)) (get_or_from_slice_get agents x c c at)

  pub some_free : HasCellsFor from agents old → (d : CellClass) → Holds d (places (state_at from c.0)) → 0 < free_of now d
  some_free room d held =
      let within = sum_by_more_le (λ (a : CellNo). one_if (is_for from d a)) agents x c (slice_get_within agents x c at) in
      let one = counted d ∙ one_for d (places (state_at from c.0)) held in
      let so_far = h.free d in
      let has = room d in
      omega (arith, within, one, so_far, has)

  module _ (n : CellNo) (now' : ArenaView) (t : TakesCell (state_at from c.0) now n.0 now') (room : c.0 < length names) where
    abbrev names' : List CellNo
    names' = set names c.0 n

    here : name_in names' c.0 ≡ n.0
    here = name_here names c.0 n room

    kept : (k : ℕ) (d : CellNo) → k < x → slice_get agents k ≡ Some d → name_in names' d.0 ≡ name_in names d.0
    kept k d less s = name_there names c.0 d.0 n (λ e. (let same : k ≡ x = part.once k x c (s ∙ ap (λ (z : ℕ). Some (record { 0 = z })) e) at in omega (arith, less, same)))

    -- an agent that has a cell has another one
    other : (k : ℕ) (d : CellNo) → k < x → slice_get agents k ≡ Some d → name_in names d.0 ≢ n.0
    other k d less s e = live_word (state_at from d.0) (state_at now (name_in names d.0)) (part.live k d s) (h.each k d less s).alike.0 (ap (state_at now) e ∙ t.was)

    at_new : state_at now' n.0 ≡ t.state
    at_new = ap (λ v. state_at v n.0) t.arena ∙ get_or-set_same now.states n.0 t.state Leased (vacant_inside now n.0 t.was)

    at_other : AllButOneStay n.0 now now'
    at_other = others_stay now now' n.0 t.state t.arena

    has_cell : HasCell (state_at from c.0) old now' n.0
    has_cell = record {
      was = sym (h.others n.0 other) ∙ t.was;
      alike = subst (LooksLike (state_at from c.0)) (sym at_new) t.alike;
      class = (t.class, t.held, subst (λ z. IsNumberOf z t.class n.0) h.cells t.at);
    }

    each_by : (k : ℕ) (d : CellNo) → (k ≡ x) ⊎ (k ≢ x) → k < x + 1 → slice_get agents k ≡ Some d → HasCell (state_at from d.0) old now' (name_in names' d.0)
    each_by k d (inl e) less s =
        let same : c ≡ d = same_Some c d (sym at ∙ ap (slice_get agents) (sym e) ∙ s) in
        subst (λ (z : CellNo). HasCell (state_at from z.0) old now' (name_in names' z.0)) same (subst (HasCell (state_at from c.0) old now') (sym here) has_cell)
    each_by k d (inr ne) less s =
        let before : k < x = omega (arith, less, ne) in
        let g = h.each k d before s in
        subst (HasCell (state_at from d.0) old now') (sym (kept k d before s)) (record {
          was = g.was;
          alike = subst (LooksLike (state_at from d.0)) (sym (at_other (name_in names d.0) (other k d before s))) g.alike;
          class = g.class;
        })

    -- the name of the last one, and those before
    last : (k : ℕ) (d : CellNo) → k ≡ x → slice_get agents k ≡ Some d → name_in names' d.0 ≡ n.0
    last k d e s = ap (λ (z : CellNo). name_in names' z.0) (same_Some d c (sym s ∙ ap (slice_get agents) e ∙ at)) ∙ here

    once_by : (j k : ℕ) (a b : CellNo) → (j ≡ x) ⊎ (j ≢ x) → (k ≡ x) ⊎ (k ≢ x) → j < x + 1 → k < x + 1 → slice_get agents j ≡ Some a → slice_get agents k ≡ Some b → name_in names' a.0 ≡ name_in names' b.0 → j ≡ k
    once_by j k a b (inl e) (inl f) lj lk s r same = e ∙ sym f
    once_by j k a b (inl e) (inr ne) lj lk s r same =
        let before : k < x = omega (arith, lk, ne) in
        absurd (other k b before r (sym (kept k b before r) ∙ sym same ∙ last j a e s))
    once_by j k a b (inr ne) (inl f) lj lk s r same =
        let before : j < x = omega (arith, lj, ne) in
        absurd (other j a before s (sym (kept j a before s) ∙ same ∙ last k b f r))
    once_by j k a b (inr ne) (inr nf) lj lk s r same =
        let one : j < x = omega (arith, lj, ne) in
        let two : k < x = omega (arith, lk, nf) in
        h.once j k a b one two s r (sym (kept j a one s) ∙ same ∙ kept k b two r)

    left_now : (d : CellClass) → free_of now' d + count_by (is_for from d) (take (x + 1) agents) ≡ free_of old d
    left_now d =
        let sum = sum_by_more (λ (a : CellNo). one_if (is_for from d a)) agents x c (slice_get_within agents x c at) in
        let one = counted d in
        let so_far = h.free d in
        let more = t.left d in
        omega (arith, sum, one, so_far, more)

    pub one_more_taken : HaveCellsBelow from agents old (x + 1) now' names'
    one_more_taken = record {
      each = λ k d less s. each_by k d (cases_eq k x) less s;
      once = λ j k a b lj lk s r same. once_by j k a b (cases_eq j x) (cases_eq k x) lj lk s r same;
      others = λ m out. at_other m (λ e. out x c (omega arith) at (here ∙ sym e)) ∙ h.others m (λ k d less s e. out k d (omega (arith, less)) s (kept k d less s ∙ e));
      free = left_now;
      memory = ap (λ (v : ArenaView). v.memory) t.arena ∙ h.memory;
      cells = ap (λ (v : ArenaView). v.cells) t.arena ∙ h.cells;
      many = ap (λ (v : ArenaView). length v.states) t.arena ∙ length-set now.states n.0 t.state ∙ h.many;
    }

-- all have their cells
pub cells_for : (from : ArenaView) (agents : List CellNo) (old now : ArenaView) (names : List CellNo) → HaveCellsBelow from agents old (length agents) now names → HaveOwnCells from agents names now
cells_for from agents old now names h = record {
  each = λ k c s. (h.each k c (slice_get_within agents k c s) s).alike;
  once = λ j k c d s r. h.once j k c d (slice_get_within agents j c s) (slice_get_within agents k d r) s r;
}
