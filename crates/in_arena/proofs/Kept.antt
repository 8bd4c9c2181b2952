-- A bag by its words, and as contracts see it after a change of one cell.
use Rattle.std.proofs.Common.{◌≡◌, ◌≢◌, ℕ, zero, suc, ◌+◌, ◌<◌, ◌≤◌, ◌⊎◌, List, [], ◌∷◌, map, length, get_or, replicate, Some, None, refl, sym, ap, ◌∙◌, subst, ⊎_elim, inl, inr, arith, get_or-set_same}
use Rattle.in_memory.specs.Places.{together}
use Rattle.in_memory.specs.Splitting.{but, those_of}
use Rattle.in_memory.specs.declared.cells.Cells.{Cells}
use denote.RawPtr.{Ptr, null_ptr}
use Rattle.in_arena.specs.Arenas.{ArenaView, LeaseView, Leases, changed, memory_of, state_at}
use Rattle.in_arena.specs.BagInside.{IsBag, IsKeptCell, bag_view}
use Rattle.in_arena.specs.Bags.{IsBagOf, IsInBag, LeasesTo, empty_bag}
use Rattle.in_arena.specs.ByClass.{IsPlace, view_of}
use Rattle.in_arena.specs.Classes.{IsNumberOf, all_of, amount, class_no, first_of, width}
use Rattle.in_arena.specs.FreeLists.{state_in, state_of, states}
use Rattle.in_arena.specs.Inside.{IsArena, arena_view}
use Rattle.in_arena.specs.Leases.{IsLease, lease_view}
use Rattle.in_arena.specs.Rows.{OwnsOne, Rewrites}
use Rattle.in_arena.specs.States.{State, Vacant, Leased, IsLeased}
use Rattle.in_arena.specs.Words.{Word, Content, CellWords, is_spot, words_of, cell_in, row_in, AreWhole, ChangesCell}
use Rattle.in_arena.specs.declared.arena.Arena.TheInside.{Inside as ArenaInside}
use Rattle.in_arena.specs.declared.bag.Bag.TheInside.{Inside}
use Rattle.in_arena.specs.declared.lease.Lease.TheInside.{Inside as LeaseInside}
use Rattle.in_arena.specs.declared.content.CellClass.{CellClass}
use Rattle.in_arena.specs.declared.content.CellClass.TheVariants.{Small}
use Rattle.in_arena.specs.declared.content.CellCounts.{CellCounts}
use Rattle.in_arena.specs.declared.content.End.{End}
use Rattle.in_arena.specs.declared.spot.Spot.{Spot}
use Rattle.in_arena.proofs.Arenas.{changed_same, state_inside}
use Rattle.in_arena.proofs.Bags.{bag_more, vacant_apart}
use Rattle.in_arena.proofs.Classes.{at_class}
use Rattle.in_arena.proofs.FreeLists.{leased_none}
use Rattle.in_arena.proofs.Owners.{in_one, none_cell, none_whole, one_alone, one_cell, rest_cell, rest_changes, rest_gone}
use Rattle.in_arena.proofs.Rewriting.{put_in}
use Rattle.in_arena.proofs.Rows.{all_filled, class_cases, head_is, rows_become, state_is, still_whole, view_becomes, view_long}
use Rattle.in_arena.proofs.Seen.{alike}
use Rattle.in_arena.proofs.Words.{ends_long, head_inside, kept_cell, kept_whole, near_below, other_kept, row_at, row_long}
use Rattle.std.proofs.lemmas.Bool.{cases_eq}
use Rattle.std.proofs.lemmas.List.{ext_get_or, get_or-replicate, length-replicate}

-- a kept cell that isn't another owner's has a content
kept_here : (most : ℕ) (s : CellWords) → IsKeptCell most s → (IsLeased (state_of s) → ⊥) → (x : Content) × (s ≡ Some (Some x)) × (x.count ≤ most)
kept_here most None kept out = absurd (out tt)
kept_here most (Some None) kept out = absurd kept
kept_here most (Some (Some x)) kept out = (x, refl, kept)

module _ (b : Inside) (k : IsBag b) (w : ArenaView) (f : bag_view b ≡ w) where
  pub in_bag_all : (n : ℕ) → (state_at w n ≡ Leased → ⊥) → n < all_of b.cells
  in_bag_all n here = let lt = state_inside w n here in let long = ap (λ (v : ArenaView). length v.states) f in omega (arith, lt, long, view_long b.words.at b.cells b.words.slots)

  pub bag_state : (n : ℕ) (c : CellClass) (i : ℕ) → IsPlace b.cells n c i → state_at w n ≡ state_of (cell_in b.cells b.words.slots c i)
  bag_state n c i p = ap (λ v. state_at v n) (sym f) ∙ state_is b.words.at b.cells b.words.slots n c i p

  pub bag_cell : (n : ℕ) (c : CellClass) (i : ℕ) → IsPlace b.cells n c i → IsInBag w n → (x : Content) × (cell_in b.cells b.words.slots c i ≡ Some (Some x)) × (x.count ≤ width c)
  bag_cell n c i p in_it = kept_here (width c) (cell_in b.cells b.words.slots c i) (k.kept c i p.0) (λ leased. in_it (subst IsLeased (sym (bag_state n c i p)) leased))

  pub bag_long : (c : CellClass) (i : ℕ) → i < amount b.cells c → (x : Content) → cell_in b.cells b.words.slots c i ≡ Some (Some x) → length x.ends ≡ width c
  bag_long c i inside x is =
      let g = all_filled b.cells b.words.slots c i x (k.whole.each c i inside) is in let hd = g.0 3 (head_inside c) in
      ap length (sym (head_is b.cells b.words.slots c i x hd.0 is hd.1).2) ∙ ends_long b.cells b.words.slots c i

  -- after a change of one cell
  pub bag_becomes : (words : Cells End) (n : ℕ) (c : CellClass) (i : ℕ) (s : CellWords) (x : State) → IsPlace b.cells n c i → words.at ≡ b.words.at → AreWhole b.cells words.slots → ChangesCell b.cells b.words.slots words.slots c i → cell_in b.cells words.slots c i ≡ s → IsKeptCell (width c) s → state_of s ≡ x
      → IsBag (record { base = b.base; words = words; cells = b.cells }) × (view_of words.at b.cells words.slots ≡ changed w n x)
  bag_becomes words n c i s x p same whole change now kept is = (
    record {
      few = k.few;
      block = same ∙ k.block;
      whole = whole;
      kept = λ d j lj. ⊎_elim
          (λ (e : (c ≡ d) × (i ≡ j)). subst (λ (z : CellClass × ℕ). IsKeptCell (width z.0) (cell_in b.cells words.slots z.0 z.1)) (λ z. (e.0 z, e.1 z)) (subst (IsKeptCell (width c)) (sym now) kept))
          (λ (differ : (c ≡ d) × (i ≡ j) → ⊥). subst (IsKeptCell (width d)) (sym (kept_cell b.cells b.words.slots words.slots d j (other_kept b.cells b.words.slots words.slots c d i j p.0 lj change differ))) (k.kept d j lj))
          (both c d i j);
    },
    view_becomes b.words.at words.at b.cells b.cells b.words.slots words.slots n c i (state_of s) same refl p (rows_become b.cells b.words.slots words.slots c i p.0 change s now) ∙ changed_same f refl is,
  )
    where
      both : (c d : CellClass) (i j : ℕ) → ((c ≡ d) × (i ≡ j)) ⊎ ((c ≡ d) × (i ≡ j) → ⊥)
      both c d i j = ⊎_elim
          (λ (e : c ≡ d). ⊎_elim (λ (g : i ≡ j). inl (e, g)) (λ (g : i ≢ j). inr (λ one. g one.1)) (cases_eq i j))
          (λ (e : c ≢ d). inr (λ one. e one.0))
          (class_cases c d)

  -- .. which was written again
  pub bag_rewritten : (words : Cells End) (n : ℕ) (at : Spot) (y : Content) (x : State) → at.cells ≡ b.cells → IsPlace b.cells n at.class at.index → Rewrites b.words at y words → y.count ≤ width at.class → state_in y ≡ x
      → IsBag (record { base = b.base; words = words; cells = b.cells }) × (view_of words.at b.cells words.slots ≡ changed w n x)
  bag_rewritten words n at y x many p r few is =
      bag_becomes words n at.class at.index (Some (Some y)) x p r.same (subst (λ m. AreWhole m words.slots) many r.whole) (subst (λ m. ChangesCell m b.words.slots words.slots at.class at.index) many r.changes) (subst (λ m. cell_in m words.slots at.class at.index ≡ Some (Some y)) many r.cell) few is

  -- .. which was taken out
  module _ (n : ℕ) (at : Spot) (many : at.cells ≡ b.cells) (p : IsPlace b.cells n at.class at.index) (in_it : IsInBag w n) where
    c : CellClass
    c = at.class

    abbrev pub the_cell : (x : Content) × (cell_in b.cells b.words.slots at.class at.index ≡ Some (Some x)) × (x.count ≤ width at.class)
    the_cell = bag_cell n at.class at.index p in_it

    pub taken_from : (rest : Cells End) → (rest.at ≡ b.words.at) × (rest.slots ≡ those_of (but (is_spot at.class at.cells at.index)) b.words.slots)
        → IsBag (record { base = b.base; words = rest; cells = b.cells }) × (view_of rest.at b.cells rest.slots ≡ changed w n Leased)
    taken_from rest left =
        let is = left.1 ∙ ap (λ m. those_of (but (is_spot at.class m at.index)) b.words.slots) many in let ws = b.words.slots in
        let out = rest_changes b.cells at.class at.index ws in
        bag_becomes rest n at.class at.index None Leased p left.0 (subst (AreWhole b.cells) (sym is) (still_whole b.cells ws (those_of (but (is_spot at.class b.cells at.index)) ws) at.class at.index p.0 out k.whole (rest_gone b.cells at.class at.index ws)))
        (subst (λ l. ChangesCell b.cells ws l at.class at.index) (sym is) out) (ap (λ l. cell_in b.cells l at.class at.index) is ∙ rest_cell b.cells at.class at.index ws) tt refl

    -- the words that were taken out own one cell, for any row in which it is another owner's
    abbrev pub owned : (one words : Cells End) → (one.at ≡ b.words.at) × (one.slots ≡ those_of (is_spot at.class at.cells at.index) b.words.slots) → b.words.at ≡ words.at → cell_in at.cells words.slots at.class at.index ≡ None → OwnsOne words at one
    owned one words parted same out =
        let ws = b.words.slots in let cells = b.cells in let x = the_cell in
        let is = parted.1 ∙ ap (λ m. those_of (is_spot at.class m at.index) ws) many in
        let alone = one_alone cells at.class at.index ws k.whole.long in
        let whole : AreWhole cells one.slots = subst (AreWhole cells) (sym is) (still_whole cells (replicate (words_of cells) None) (those_of (is_spot at.class cells at.index) ws) at.class at.index p.0 alone (none_whole cells at.class at.index) (kept_whole cells ws (those_of (is_spot at.class cells at.index) ws) at.class at.index (in_one cells at.class at.index ws) (k.whole.each at.class at.index p.0))) in
        record {
          same = parted.0 ∙ same;
          index = subst (λ m. at.index < amount m at.class) (sym many) p.0;
          whole = subst (λ m. AreWhole m one.slots) (sym many) whole;
          alone = subst (λ m. ChangesCell m (replicate (words_of m) None) one.slots at.class at.index) (sym many) (subst (λ l. ChangesCell cells (replicate (words_of cells) None) l at.class at.index) (sym is) alone);
          content = x.0;
          cell = subst (λ m. cell_in m one.slots at.class at.index ≡ Some (Some x.0)) (sym many) (ap (λ l. cell_in cells l at.class at.index) is ∙ one_cell cells at.class at.index ws ∙ x.1);
          room = x.2;
          out = out;
        }

    pub cell_state : state_in the_cell.0 ≡ state_at w n
    cell_state = sym (bag_state n at.class at.index p ∙ ap state_of the_cell.1)

  -- .. which another owner had
  pub put_into : (words one : Cells End) (n : ℕ) (at : Spot) (o : OwnsOne b.words at one) → at.cells ≡ b.cells → IsPlace b.cells n at.class at.index → words.at ≡ b.words.at → words.slots ≡ together b.words.slots one.slots
      → IsBag (record { base = b.base; words = words; cells = b.cells }) × (view_of words.at b.cells words.slots ≡ changed w n (state_in o.content))
  put_into words one n at o many p same is =
      let z = put_in b.words one at o (subst (λ m. AreWhole m b.words.slots) (sym many) k.whole) words.slots is in
      bag_becomes words n at.class at.index (Some (Some o.content)) (state_in o.content) p same (subst (λ m. AreWhole m words.slots) many z.whole) (subst (λ m. ChangesCell m b.words.slots words.slots at.class at.index) many z.changes) (subst (λ m. cell_in m words.slots at.class at.index ≡ Some (Some o.content)) many z.cell) o.room refl

-- a cell that a row's owner doesn't have
pub none_where_leased : (at : Ptr) (cells : CellCounts) (ws : List Word) (v : ArenaView) (n : ℕ) (c : CellClass) (i : ℕ) → view_of at cells ws ≡ v → IsPlace cells n c i → state_at v n ≡ Leased → cell_in cells ws c i ≡ None
none_where_leased at cells ws v n c i e p leased =
    leased_none (cell_in cells ws c i) (subst IsLeased (sym (sym (state_is at cells ws n c i p) ∙ ap (λ w. state_at w n) e ∙ leased)) tt)

-- ---- a bag without a cell

none_row : (cells : CellCounts) (c : CellClass) → row_in cells (replicate (words_of cells) None) c ≡ replicate (amount cells c) None
none_row cells c =
    ext_get_or None (row_in cells (replicate (words_of cells) None) c) (replicate (amount cells c) None) (row_long cells (replicate (words_of cells) None) c ∙ sym (length-replicate (amount cells c) None))
    (λ i lt.
    let inside : i < amount cells c = omega (arith, lt, row_long cells (replicate (words_of cells) None) c) in
    row_at cells (replicate (words_of cells) None) c i inside ∙ none_cell cells c i c i ∙ sym (get_or-replicate (amount cells c) i None None inside))

none_states : (n : ℕ) → map state_of (replicate n None) ≡ replicate n Leased
none_states zero = refl
none_states (suc n) = ap (λ l. Leased ∷ l) (none_states n)

pub new_bag : (a : ArenaInside) (h : IsArena a) (v : ArenaView) (words : Cells End) → arena_view a ≡ v → (words.at ≡ a.words.at) × (words.slots ≡ replicate (length a.words.slots) None)
    → IsBag (record { base = a.base; words = words; cells = a.cells }) × (view_of words.at a.cells words.slots ≡ empty_bag v)
new_bag a h v words e made =
    let cells = a.cells in
    let is : words.slots ≡ replicate (words_of cells) None = made.1 ∙ ap (λ n. replicate n None) h.whole.long in
    let st : (view_of words.at cells words.slots).states ≡ replicate (all_of cells) Leased = alike (λ c. words.at) cells (λ c. states (row_in cells words.slots c)) Leased (λ c. ap (λ l. states (row_in cells l c)) is ∙ ap states (none_row cells c) ∙ none_states (amount cells c)) in (
      record {
        few = h.few;
        block = made.0 ∙ h.block.0;
        whole = subst (AreWhole cells) (sym is) (none_whole cells Small 0);
        kept = λ c i lt. subst (IsKeptCell (width c)) (sym (ap (λ l. cell_in cells l c i) is ∙ none_cell cells c i c i)) tt;
      },
      (λ z. record { memory = (let m : List Ptr = made.0 z ∷ made.0 z ∷ made.0 z ∷ [] in m); cells = cells; states = st z }) ∙ ap empty_bag e,
    )

-- two owners of one row, as contracts see them
pub memory_one : (at at' : Ptr) (cells cells' : CellCounts) (ws ws' : List Word) (b d : ArenaView) → view_of at cells ws ≡ b → view_of at' cells' ws' ≡ d → (d.memory ≡ b.memory) × (d.cells ≡ b.cells) → (at ≡ at') × (cells ≡ cells')
memory_one at at' cells cells' ws ws' b d f g one = (
  ap (λ (v : ArenaView). get_or v.memory 0 null_ptr) f ∙ ap (λ m. get_or m 0 null_ptr) (sym one.0) ∙ sym (ap (λ (v : ArenaView). get_or v.memory 0 null_ptr) g),
  ap (λ (v : ArenaView). v.cells) f ∙ sym one.1 ∙ sym (ap (λ (v : ArenaView). v.cells) g),
)

pub bag_of_is : {b b' a a' : ArenaView} → b ≡ b' → a ≡ a' → IsBagOf b a → IsBagOf b' a'
bag_of_is {b'} {a} e f of = subst (λ x. IsBagOf b' x) f (subst (λ x. IsBagOf x a) e of)

-- a free cell that was leased goes into a bag
pub leased_to : (b : Inside) (k : IsBag b) (w v u : ArenaView) (f : bag_view b ≡ w) (of : IsBagOf w v) (c : CellClass) (l : LeaseInside) (h : IsLease l) (m : LeaseView) (g : lease_view l ≡ m) (made : Leases v c (Some m) u) (words : Cells End) (n : ℕ) → n ≡ first_of l.spot.cells l.spot.class + l.spot.index
    → words.at ≡ b.words.at → words.slots ≡ together b.words.slots l.words.slots → IsBag (record { base = b.base; words = words; cells = b.cells }) × LeasesTo v c w (Some (record { 0 = n })) u (view_of words.at b.cells words.slots)
leased_to b k w v u f of c l h m g made words n num same is =
    let d = l.spot.class in let i = l.spot.index in
    let number : n ≡ m.number = num ∙ ap (λ (z : LeaseView). z.number) g in
    let cells : l.spot.cells ≡ b.cells = ap (λ (z : LeaseView). z.cells) g ∙ made.4.cells ∙ ap (λ (z : ArenaView). z.cells) made.3 ∙ sym of.cells ∙ sym (ap (λ (z : ArenaView). z.cells) f) in
    let memory : l.words.at ≡ b.words.at = ap (λ (z : LeaseView). z.memory) g ∙ made.4.memory ∙ ap (λ (z : ArenaView). memory_of z m.class) made.3 ∙ ap (λ ms. get_or ms (class_no m.class) null_ptr) (sym of.memory ∙ sym (ap (λ (z : ArenaView). z.memory) f)) ∙ at_class (λ e. b.words.at) null_ptr m.class in
    let p : IsPlace b.cells n d i = subst (λ q. IsPlace q n d i) cells (h.index, num) in
    let free : state_at v n ≡ Vacant = ap (state_at v) number ∙ made.2 in
    let out : state_at w n ≡ Leased = vacant_apart w v n of free in
    let o : OwnsOne b.words l.spot l.words = record {
      same = memory;
      index = h.index;
      whole = h.whole;
      alone = h.alone;
      content = h.content;
      cell = h.cell;
      room = h.room;
      out = subst (λ q. cell_in q b.words.slots d i ≡ None) (sym cells) (none_where_leased b.words.at b.cells b.words.slots w n d i f p out);
    } in
    let z = put_into b k w f words l.words n l.spot o cells p same is in
    let empty : state_in h.content ≡ Vacant = sym (ap state_of h.cell) ∙ ap (λ (x : LeaseView). x.state) g ∙ made.5 in
    let now = z.1 ∙ ap (changed w n) empty in
    let after = made.3 ∙ ap (λ q. changed v q Leased) (sym number) in (
      z.0,
      (
        subst (IsNumberOf v.cells c) (sym number) made.1,
        free,
        after,
        now,
        bag_of_is (sym now) (sym after) (bag_more w v n of),
        ap (λ x. state_at x n) now ∙ get_or-set_same w.states n Vacant Leased (let lt = in_all n d i p in omega (arith, lt)),
      ),
    )
  where
    in_all : (n : ℕ) (d : CellClass) (i : ℕ) → IsPlace b.cells n d i → n < length w.states
    in_all n d i p = let long = ap (λ (v : ArenaView). length v.states) f in let at = p.1 in omega (arith, at, near_below d b.cells i p.0, long, view_long b.words.at b.cells b.words.slots)
