-- Cells that are begun at other numbers: what differs is how the free cells are numbered.
use Rattle.std.proofs.Common.{◌≡◌, ◌≢◌, ◌⊎◌, inl, inr, ◌<◌, ◌+◌, ◌-◌, ℕ, zero, suc, true, cond, List, [], ◌∷◌, ◌++◌, length, slice_get, Option, Some, None, refl, sym, ap, subst, ◌∙◌, length-append, length-set, get_or-set_same, arith}
use Rattle.std.specs.Prelude.{eqb}
use Rattle.std.proofs.lemmas.Bool.{cases_eq}
use Rattle.std.proofs.lemmas.Bool.Decides.{nat_tests}
use Rattle.std.proofs.lemmas.Option.{same_Some, slice_get_within}
use Rattle.in_base.proofs.Each.{at_index}
use Rattle.in_base.proofs.Places.{kept_at, last_at, more_at}
use Rattle.in_arena.specs.Arenas.{ArenaView, BeginsCell, free_of, state_at}
use Rattle.in_arena.specs.Beginning.{AreBegunInTurn, AreSmall, BeginsSmall, ArePointsRenumbered, IsLike, AreOneUpToNumbers, BegunCellsAreOne, SmallCellsBegunAreOne}
use Rattle.in_arena.specs.Changes.{HasAllCells, OneFewerIsFree}
use Rattle.in_arena.specs.Classes.{IsNumberOf, class_no}
use Rattle.in_arena.specs.States.{State, Vacant, Leased, Live, IsBegun, is_vacant, places, word_of}
use Rattle.in_arena.specs.declared.content.CellClass.{CellClass}
use Rattle.in_arena.specs.declared.content.CellClass.TheVariants.{Small}
use Rattle.in_arena.specs.declared.content.CellNo.{CellNo}
use Rattle.in_arena.specs.declared.content.End.{End}
use Rattle.in_arena.specs.declared.content.End.TheVariants.{Cell}
use Rattle.in_arena.specs.declared.head.NewCell.{NewCell}
use Rattle.in_arena.proofs.Arenas.{vacant_inside}
use Rattle.in_arena.proofs.Changes.{begun_takes_one, others_stay}
use Rattle.in_arena.proofs.Classes.{numbers_apart, same_class}

-- ---- two numbers in each other's place

abbrev swapped : ℕ → ℕ → ℕ → ℕ
swapped i j n = cond (eqb n i) j (cond (eqb n j) i n)

swapped_first : (i j : ℕ) → swapped i j i ≡ j
swapped_first i j = grind (arith, nat_tests)

swapped_apart : (i j n : ℕ) → n ≢ i → n ≢ j → swapped i j n ≡ n
swapped_apart i j n f g = grind (arith, nat_tests)

swapped_twice : (i j n : ℕ) → swapped i j (swapped i j n) ≡ n
swapped_twice i j n = grind (arith, nat_tests)

-- what holds of both or of none holds of a number's other place
swapped_has : (P : ℕ → Type 0) (i j n : ℕ) → (P i → P j) → (P j → P i) → P n → P (swapped i j n)
swapped_has P i j n to from h = go (cases_eq n i) (cases_eq n j)
  where
    go : (n ≡ i) ⊎ (n ≢ i) → (n ≡ j) ⊎ (n ≢ j) → P (swapped i j n)
    go (inl e) other = subst P (sym (ap (swapped i j) e ∙ swapped_first i j)) (to (subst P e h))
    go (inr f) (inl e) = let there : swapped i j n ≡ i = grind (arith, nat_tests) in subst P (sym there) (from (subst P e h))
    go (inr f) (inr g) = subst P (sym (swapped_apart i j n f g)) h

-- ---- states

vacant_by_test : (x : State) → is_vacant x ≡ true → x ≡ Vacant
vacant_by_test Vacant e = refl
vacant_by_test Leased e = cc
vacant_by_test (Live word ends) e = cc

begun_used : (word count : ℕ) (x : State) → IsBegun word count x → x ≢ Vacant
begun_used word count x b e = let z : Live word b.0 ≡ Vacant = sym b.2 ∙ e in cc

begun_alike : (word count : ℕ) (x y : State) → IsBegun word count x → IsBegun word count y → IsLike x y
begun_alike word count x y b d = (ap word_of b.2 ∙ sym (ap word_of d.2), ap places b.2 ∙ b.1 ∙ sym (ap places d.2 ∙ d.1), ap is_vacant b.2 ∙ sym (ap is_vacant d.2))

module _ (a new : ArenaView) (c : CellClass) (word count n : ℕ) (b : BeginsCell c word count a n new) where
  now_begun : state_at new n ≡ b.state
  now_begun = ap (λ v. state_at v n) b.arena ∙ get_or-set_same a.states n b.state Leased (vacant_inside a n b.was)

  all_begun : HasAllCells a → HasAllCells new
  all_begun all = subst HasAllCells (sym b.arena) (length-set a.states n b.state ∙ all)

fewer_alike : (c : CellClass) (a new b new' : ArenaView) → OneFewerIsFree c a new → OneFewerIsFree c b new' → ((d : CellClass) → free_of b d ≡ free_of a d) → (d : CellClass) → free_of new' d ≡ free_of new d
fewer_alike c a new b new' f g same d = go (cases_eq (class_no d) (class_no c))
  where
    go : (class_no d ≡ class_no c) ⊎ (class_no d ≢ class_no c) → free_of new' d ≡ free_of new d
    go (inl e) = subst (λ (z : CellClass). free_of new' z ≡ free_of new z) (sym (same_class d c e)) (let one = f.0 in let other = g.0 in omega (arith, one, other, same c))
    go (inr apart) = let other : d ≡ c → ⊥ = λ e. apart (ap class_no e) in g.1 d other ∙ same d ∙ sym (f.1 d other)

-- ---- one cell more

itself : (old : ArenaView) → AreOneUpToNumbers old old old (λ n. n)
itself old = record {
  back = λ n. n;
  there = λ n. refl;
  here = λ n. refl;
  kept = λ n used. (refl, refl, refl);
  class = λ c n at. at;
  like = λ n. (refl, refl, refl);
  memory = (refl, refl);
  cells = (refl, refl);
  free = λ c. refl;
}

module _ (old one other : ArenaView) (to : ℕ → ℕ) (r : AreOneUpToNumbers old one other to) where
  apart_from_free : (i n : ℕ) → state_at other i ≡ Vacant → state_at other n ≢ Vacant → n ≢ i
  apart_from_free i n free used e = used (ap (state_at other) e ∙ free)

  -- two free cells of a class in each other's place
  exchanged : (c : CellClass) (i j : ℕ) → IsNumberOf old.cells c i → IsNumberOf old.cells c j → state_at other i ≡ Vacant → state_at other j ≡ Vacant → AreOneUpToNumbers old one other (λ n. swapped i j (to n))
  exchanged c i j at_i at_j free_i free_j = record {
    back = λ n. r.back (swapped i j n);
    there = λ n. ap r.back (swapped_twice i j (to n)) ∙ r.there n;
    here = λ n. ap (swapped i j) (r.here (swapped i j n)) ∙ swapped_twice i j n;
    kept = λ n used.
        let k = r.kept n used in let still : state_at other n ≢ Vacant = λ e. used (sym k.2 ∙ e) in
        (ap (swapped i j) k.0 ∙ swapped_apart i j n (apart_from_free i n free_i still) (apart_from_free j n free_j still), k.1, k.2);
    class = λ d n at. swapped_has (IsNumberOf old.cells d) i j (to n)
        (λ h. subst (λ (z : CellClass). IsNumberOf old.cells z j) (numbers_apart old.cells i c d at_i h) at_j)
        (λ h. subst (λ (z : CellClass). IsNumberOf old.cells z i) (numbers_apart old.cells j c d at_j h) at_i) (r.class d n at);
    like = λ n. swapped_has (λ k. IsLike (state_at one n) (state_at other k)) i j (to n)
        (λ h. subst (IsLike (state_at one n)) (free_i ∙ sym free_j) h) (λ h. subst (IsLike (state_at one n)) (free_j ∙ sym free_i) h) (r.like n);
    memory = r.memory;
    cells = r.cells;
    free = r.free;
  }

  module _ (all : HasAllCells one) (all' : HasAllCells other) (c : CellClass) (word count n m : ℕ) (new new' : ArenaView) (b : BeginsCell c word count one n new) (d : BeginsCell c word count other m new') where
    -- where their numbers lead to one another
    both_begun : to n ≡ m → AreOneUpToNumbers old new new' to
    both_begun same = record {
      back = r.back;
      there = r.there;
      here = r.here;
      kept = λ k used.
          let s = r.kept k used in (
            s.0,
            others_stay one new n b.state b.arena k (λ e. used (sym s.1 ∙ ap (state_at one) e ∙ b.was)) ∙ s.1,
            others_stay other new' m d.state d.arena k (λ e. used (sym s.2 ∙ ap (state_at other) e ∙ d.was)) ∙ s.2,
          );
      class = r.class;
      like = λ k. go k (cases_eq k n);
      memory = (ap (λ (v : ArenaView). v.memory) b.arena ∙ r.memory.0, ap (λ (v : ArenaView). v.memory) d.arena ∙ r.memory.1);
      cells = (ap (λ (v : ArenaView). v.cells) b.arena ∙ r.cells.0, ap (λ (v : ArenaView). v.cells) d.arena ∙ r.cells.1);
      free = fewer_alike c one new other new' (begun_takes_one one new c word count n all b) (begun_takes_one other new' c word count m all' d) r.free;
    }
      where
        go : (k : ℕ) → (k ≡ n) ⊎ (k ≢ n) → IsLike (state_at new k) (state_at new' (to k))
        go k (inl e) =
            let here = ap (state_at new) e ∙ now_begun one new c word count n b in
            let there = ap (λ (z : ℕ). state_at new' (to z)) e ∙ ap (state_at new') same ∙ now_begun other new' c word count m d in
            subst (λ (x : State). IsLike x (state_at new' (to k))) (sym here) (subst (IsLike b.state) (sym there) (begun_alike word count b.state d.state b.begun d.begun))
        go k (inr f) =
            let here = others_stay one new n b.state b.arena k f in
            let there = others_stay other new' m d.state d.arena (to k) (λ e. f (sym (r.there k) ∙ ap r.back (e ∙ sym same) ∙ r.there n)) in
            subst (λ (x : State). IsLike x (state_at new' (to k))) (sym here) (subst (IsLike (state_at one k)) (sym there) (r.like k))

-- the next cell is begun in both
module _ (old one other : ArenaView) (to : ℕ → ℕ) (r : AreOneUpToNumbers old one other to) (all : HasAllCells one) (all' : HasAllCells other) (c : CellClass) (word count n m : ℕ) (new new' : ArenaView) (b : BeginsCell c word count one n new) (d : BeginsCell c word count other m new') where
  free_there : state_at other (to n) ≡ Vacant
  free_there = vacant_by_test (state_at other (to n)) (sym (r.like n).2 ∙ ap is_vacant b.was)

  one_more : AreOneUpToNumbers old new new' (λ k. swapped (to n) m (to k))
  one_more =
      let at = r.class c n (subst (λ cells. IsNumberOf cells c n) r.cells.0 b.at) in let at' = subst (λ cells. IsNumberOf cells c m) r.cells.1 d.at in
      both_begun old one other (λ k. swapped (to n) m (to k)) (exchanged old one other to r c (to n) m at at' free_there d.was) all all' c word count n m new new' b d (swapped_first (to n) m)

pub begun_one : BegunCellsAreOne
begun_one old one other c word count n m all b d = (swapped n m, one_more old old old (λ k. k) (itself old) all all c word count n m one other b d, swapped_first n m)

-- ---- cells in turn

-- the numbers of the cells of one list lead to those of the other, of which none is free
record AreOne (old : ArenaView) (ns ms : List CellNo) (one other : ArenaView) : Type 0 where
  pub to : ℕ → ℕ
  pub renumbered : AreOneUpToNumbers old one other to
  pub each : (k : ℕ) (n m : CellNo) → slice_get ns k ≡ Some n → slice_get ms k ≡ Some m → to n.0 ≡ m.0
  pub used : (k : ℕ) (m : CellNo) → slice_get ms k ≡ Some m → state_at other m.0 ≢ Vacant
  pub long : length ns ≡ length ms
  pub all : HasAllCells one
  pub all_there : HasAllCells other

none_one : (old : ArenaView) → HasAllCells old → AreOne old [] [] old old
none_one old all = record {
  to = λ n. n;
  renumbered = itself old;
  each = λ k n m e f. let z : ◌≡◌ {A = Option CellNo} None (Some n) = e in cc;
  used = λ k m e. let z : ◌≡◌ {A = Option CellNo} None (Some m) = e in cc;
  long = refl;
  all = all;
  all_there = all;
}

module _ (old mid mid' : ArenaView) (ns ms : List CellNo) (i : AreOne old ns ms mid mid') (c : CellClass) (word count : ℕ) (n m : CellNo) (new new' : ArenaView) (b : BeginsCell c word count mid n.0 new) (d : BeginsCell c word count mid' m.0 new') where
  next_one : AreOne old (ns ++ n ∷ []) (ms ++ m ∷ []) new new'
  next_one = record {
    to = λ k. swapped (i.to n.0) m.0 (i.to k);
    renumbered = one_more old mid mid' i.to i.renumbered i.all i.all_there c word count n.0 m.0 new new' b d;
    each = λ k p q at at'. each k p q (more_at ns n p k at) (more_at ms m q k at');
    used = λ k q at. used k q (more_at ms m q k at);
    long = length-append ns (n ∷ []) ∙ ap (λ k. k + 1) i.long ∙ sym (length-append ms (m ∷ []));
    all = all_begun mid new c word count n.0 b i.all;
    all_there = all_begun mid' new' c word count m.0 d i.all_there;
  }
    where
      each : (k : ℕ) (p q : CellNo) → (slice_get ns k ≡ Some p) ⊎ ((k ≡ length ns) × (n ≡ p)) → (slice_get ms k ≡ Some q) ⊎ ((k ≡ length ms) × (m ≡ q)) → swapped (i.to n.0) m.0 (i.to p.0) ≡ q.0
      each k p q (inl x) (inl y) =
          let same = i.each k p q x y in let used = i.used k q y in
          swapped_apart (i.to n.0) m.0 (i.to p.0)
          (λ e. used (ap (state_at mid') (sym same ∙ e) ∙ free_there old mid mid' i.to i.renumbered i.all i.all_there c word count n.0 m.0 new new' b d))
          (λ e. used (ap (state_at mid') (sym same ∙ e) ∙ d.was)) ∙ same
      each k p q (inr x) (inr y) = ap (λ (z : CellNo). swapped (i.to n.0) m.0 (i.to z.0)) (sym x.1) ∙ swapped_first (i.to n.0) m.0 ∙ ap (λ (z : CellNo). z.0) y.1
      each k p q (inl x) (inr y) = let lt = slice_get_within ns k p x in let end = y.0 in let long = i.long in absurd (omega (arith, lt, end, long))
      each k p q (inr x) (inl y) = let lt = slice_get_within ms k q y in let end = x.0 in let long = i.long in absurd (omega (arith, lt, end, long))

      used : (k : ℕ) (q : CellNo) → (slice_get ms k ≡ Some q) ⊎ ((k ≡ length ms) × (m ≡ q)) → state_at new' q.0 ≢ Vacant
      used k q (inl y) e =
          let before = i.used k q y in
          before (sym (others_stay mid' new' m.0 d.state d.arena q.0 (λ f. before (ap (state_at mid') f ∙ d.was))) ∙ e)
      used k q (inr y) e = begun_used word count d.state d.begun (sym (now_begun mid' new' c word count m.0 d) ∙ ap (λ (z : CellNo). state_at new' z.0) y.1 ∙ e)

module _ (cells : List NewCell) (from first : ℕ) (old : ArenaView) (all : HasAllCells old) (points : List End) where
  are_one : (others : List End) (k : ℕ) (ns ms : List CellNo) (one other : ArenaView) → AreBegunInTurn cells from first points old k ns one → AreBegunInTurn cells from first others old k ms other → AreOne old ns ms one other
  are_one others zero ns ms one other t u = subst (λ l. AreOne old l ms one other) (sym t.0) (subst (λ l. AreOne old [] l one other) (sym u.0)
      (subst (λ v. AreOne old [] [] v other) (sym t.1) (subst (AreOne old [] [] old) (sym u.1) (none_one old all))))
  are_one others (suc k) ns ms one other t u =
      let c = t.0 in
      let d = subst (λ (x : NewCell). BeginsCell x.class x.head.word x.head.count u.3 u.2.0 other) (same_Some u.0 c (sym u.4 ∙ t.4)) u.7 in
      subst (λ l. AreOne old l ms one other) (sym t.5) (subst (λ l. AreOne old (t.1 ++ t.2 ∷ []) l one other) (sym u.5)
      (next_one old t.3 u.3 t.1 u.1 (are_one others k t.1 u.1 t.3 u.3 t.8 u.8) c.class c.head.word c.head.count t.2 u.2 one other t.7 d))

  -- so many cells are named, and each has its principal port at its point
  abbrev AreAtPoints : ℕ → List CellNo → Type 0
  AreAtPoints k ns = (length ns ≡ k) × ((j : ℕ) → j < k → (n : CellNo) × (slice_get ns j ≡ Some n) × (slice_get points (first + (from + j)) ≡ Some (Cell n 0)))

  at_points : (k : ℕ) (ns : List CellNo) (new : ArenaView) → AreBegunInTurn cells from first points old k ns new → AreAtPoints k ns
  at_points zero ns new t = (ap length t.0, λ j lt. absurd (omega (arith, lt)))
  at_points (suc k) ns new t =
      let i = at_points k t.1 t.3 t.8 in let long = i.0 in (
        (let z = length-append t.1 (t.2 ∷ []) in omega (arith, ap length t.5, z, long)),
        λ j lt. go i j lt (cases_eq j k),
      )
    where
      go : AreAtPoints k t.1 → (j : ℕ) → j < suc k → (j ≡ k) ⊎ (j ≢ k) → (n : CellNo) × (slice_get ns j ≡ Some n) × (slice_get points (first + (from + j)) ≡ Some (Cell n 0))
      go i j lt (inl e) = (t.2, ap (slice_get ns) (e ∙ sym i.0) ∙ ap (λ (l : List CellNo). slice_get l (length t.1)) t.5 ∙ last_at t.1 t.2, ap (λ z. slice_get points (first + (from + z))) e ∙ t.6)
      go i j lt (inr f) = let h = i.1 j (omega (arith, lt, f)) in (h.0, ap (λ (l : List CellNo). slice_get l j) t.5 ∙ kept_at t.1 (t.2 ∷ []) j h.0 h.1, h.2)

  -- small cells in turn take one free small cell each
  counted : (k : ℕ) (ns : List CellNo) (new : ArenaView) → AreBegunInTurn cells from first points old k ns new → AreSmall cells from (from + k) → HasAllCells new × (free_of new Small + k ≡ free_of old Small)
  counted zero ns new t small = (subst HasAllCells (sym t.1) all, let same = ap (λ v. free_of v Small) t.1 in omega (arith, same))
  counted (suc k) ns new t small =
      let c = t.0 in let i = counted k t.1 t.3 t.8 (λ j x le lt at. small j x le (omega (arith, lt)) at) in
      let of_small = small (from + k) c (omega arith) (omega arith) t.4 in
      let b = subst (λ (d : CellClass). BeginsCell d c.head.word c.head.count t.3 t.2.0 new) of_small t.7 in
      let fewer = (begun_takes_one t.3 new Small c.head.word c.head.count t.2.0 i.0 b).0 in let before = i.1 in
      (all_begun t.3 new Small c.head.word c.head.count t.2.0 b i.0, omega (arith, before, fewer))

-- no answer goes on where the other one found no cell
no_more : (cells : List NewCell) (from first : ℕ) (old one other : ArenaView) (before points others : List End) (to to' : ℕ) → HasAllCells old → BeginsSmall cells from first old before to one points → BeginsSmall cells from first old before to' other others → to < to' → ⊥
no_more cells from first old one other before points others to to' all b d lt =
    let end = b.begun.end in let end' = d.begun.end in let within = d.begun.within in
    let next = at_index cells to (omega (arith, lt, within)) in
    let none = b.last next.0 next.1 (d.small to next.0 (omega (arith, end)) lt next.1) in
    let x = (counted cells from first old all points b.begun.many b.begun.numbers one b.begun.begun (subst (AreSmall cells from) end b.small)).1 in
    let y = (counted cells from first old all others d.begun.many d.begun.numbers other d.begun.begun (subst (AreSmall cells from) end' d.small)).1 in
    omega (arith, lt, end, end', none, x, y)

pub small_begun_one : SmallCellsBegunAreOne
small_begun_one cells from first old one other before points others to to' all b d =
    let none_after = no_more cells from first old one other before points others to to' all b d in
    let none_before = no_more cells from first old other one before others points to' to all d b in
    let same : to' ≡ to = omega (arith, none_after, none_before) in
    let end = b.begun.end in let end' = d.begun.end in
    let many : d.begun.many ≡ b.begun.many = omega (arith, same, end, end') in
    let t = b.begun.begun in let u = subst (λ k. AreBegunInTurn cells from first others old k d.begun.numbers other) many d.begun.begun in
    let k = b.begun.many in
    let i = are_one cells from first old all points others k b.begun.numbers d.begun.numbers one other t u in
    let p = (at_points cells from first old all points k b.begun.numbers one t).1 in
    let q = (at_points cells from first old all others k d.begun.numbers other u).1 in
    let at : ArePointsRenumbered first from to i.to points others = λ j le lt.
    let x = p (j - from) (omega (arith, le, lt, end)) in let y = q (j - from) (omega (arith, le, lt, end)) in
    let place : first + (from + (j - from)) ≡ first + j = omega (arith, le) in
    (x.0, y.0, subst (λ z. slice_get points z ≡ Some (Cell x.0 0)) place x.2, subst (λ z. slice_get others z ≡ Some (Cell y.0 0)) place y.2, i.each (j - from) x.0 y.0 x.1 y.1) in
    (same, (i.to, i.renumbered, i.each, at))
