-- Agents are written in the cells that were taken for them, end by end.
use Rattle.std.proofs.Common.{◌≡◌, ◌≢◌, ◌⊎◌, inl, inr, ◌≤◌, ◌<◌, ◌+◌, ◌*◌, ℕ, Some, None, List, [], ◌∷◌, ◌++◌, length, map, take, set, count_by, slice_get, refl, sym, ap, subst, ◌∙◌, get_or-set_same, get_or-set_other, arith}
use Rattle.std.proofs.lemmas.Bool.{cases_eq, cases_lt}
use Rattle.std.proofs.lemmas.List.{length-set, map-append, take_more, take_more_set, take_all}
use Rattle.std.proofs.lemmas.Option.{same_Some, slice_get_within, get_or_from_slice_get}
use Rattle.in_arena.specs.Arenas.{ArenaView, changed, free_of, state_at}
use Rattle.in_arena.specs.Changes.{HasAllCells, one_if_free}
use Rattle.in_arena.specs.Classes.{IsNumberOf, all_of, amount, first_of}
use Rattle.in_arena.specs.States.{State, Vacant, Leased, Live, IsLive, end_at, places, with_end}
use Rattle.in_arena.specs.declared.content.CellClass.{CellClass}
use Rattle.in_arena.specs.declared.content.CellCounts.{CellCounts}
use Rattle.in_arena.specs.declared.content.CellNo.{CellNo}
use Rattle.in_arena.specs.declared.content.End.{End}
use Rattle.in_arena.specs.declared.content.End.TheVariants.{Cell, Free}
use Rattle.in_arena.proofs.Public.{changed_to_itself, changed_twice, counts_change, class_of_number, live_inside}
use Rattle.in_cells.specs.Copying.{AreBelow, ArePart, LeadsInto, IsEndWithin, LooksLike, is_for, moved, moved_end, name_in, number_in, IsCopied}
use Rattle.in_cells.specs.CopyingSteps.{HaveCellsBelow, HaveOwnCells, IsBeingMoved, AreMovedBelow}

-- ---- states

pub alike_live : (x y : State) → IsLive x → LooksLike x y → IsLive y
alike_live Vacant y live e = absurd live
alike_live Leased y live e = absurd live
alike_live (Live w es) Vacant live e = let f : None ≡ Some w = e.0 in cc
alike_live (Live w es) Leased live e = let f : None ≡ Some w = e.0 in cc
alike_live (Live w es) (Live v ds) live e = tt

parts : (x : State) → IsLive x → (w : ℕ) × (es : List End) × (x ≡ Live w es)
parts Vacant live = absurd live
parts Leased live = absurd live
parts (Live w es) live = (w, es, refl)

-- a cell that looks like a live one is live with as many ends
like_parts : (w : ℕ) (es : List End) (y : State) → LooksLike (Live w es) y → (ds : List End) × (y ≡ Live w ds) × (length ds ≡ length es)
like_parts w es Vacant e = absurd (let f : None ≡ Some w = e.0 in cc)
like_parts w es Leased e = absurd (let f : None ≡ Some w = e.0 in cc)
like_parts w es (Live v ds) e = (ds, ap (λ z. Live z ds) (same_Some v w e.0), e.1)

-- ---- end by end

module _ (name number : ℕ → ℕ) (x : State) (n : ℕ) (first : ArenaView) where
  pub begun : IsLive x → LooksLike x (state_at first n) → IsBeingMoved name number x n 0 first first
  begun live alike =
      let p = parts x live in
      let q = like_parts p.0 p.1 (state_at first n) (subst (λ z. LooksLike z (state_at first n)) p.2 alike) in
      record {
        word = p.0;
        all = p.1;
        is = p.2;
        ends = q.0;
        arena = sym (changed_to_itself first n) ∙ ap (changed first n) q.1;
        count = q.2;
        so_far = refl;
      }

  module _ (i : ℕ) (now : ArenaView) (h : IsBeingMoved name number x n i first now) (inside : n < length first.states) where
    stands : state_at now n ≡ Live h.word h.ends
    stands = ap (λ v. state_at v n) h.arena ∙ get_or-set_same first.states n (Live h.word h.ends) Leased inside

    many : places x ≡ length h.all
    many = ap places h.is

    pub has_place : i < places x → i < places (state_at now n)
    has_place less = subst (λ z. i < places z) (sym stands) (let c = h.count in let m = many in omega (arith, less, c, m))

    pub one_more_end : (e : End) (now' : ArenaView) → end_at x i ≡ Some e → now' ≡ changed now n (with_end (state_at now n) i (moved_end name number e)) → IsBeingMoved name number x n (i + 1) first now'
    one_more_end e now' at change =
        let here : slice_get h.all i ≡ Some e = sym (ap (λ z. end_at z i) h.is) ∙ at in
        let less = slice_get_within h.all i e here in
        let room : i < length h.ends = (let c = h.count in omega (arith, less, c)) in
        let new : List End = set h.ends i (moved_end name number e) in
        let more : take (i + 1) h.all ≡ take i h.all ++ e ∷ [] = take_more h.all i e less ∙ ap (λ (z : End). take i h.all ++ z ∷ []) (get_or_from_slice_get h.all i e e here) in
        record {
          word = h.word;
          all = h.all;
          is = h.is;
          ends = new;
          arena = change ∙ ap (λ z. changed now n (with_end z i (moved_end name number e))) stands ∙ ap (λ v. changed v n (Live h.word new)) h.arena ∙ changed_twice first n (Live h.word h.ends) (Live h.word new);
          count = length-set h.ends i (moved_end name number e) ∙ h.count;
          so_far =
              take_more_set h.ends i (moved_end name number e) room ∙ ap (λ zs. zs ++ moved_end name number e ∷ []) h.so_far ∙ sym (map-append (moved_end name number) (take i h.all) (e ∷ []))
              ∙ sym (ap (map (moved_end name number)) more);
        }

  pub all_written : (i : ℕ) (now : ArenaView) → IsBeingMoved name number x n i first now → places x ≤ i → now ≡ changed first n (moved name number x)
  all_written i now h le =
      let m : places x ≡ length h.all = ap places h.is in
      let c = h.count in
      let ends : h.ends ≡ map (moved_end name number) h.all =
      sym (take_all i h.ends (omega (arith, le, m, c))) ∙ h.so_far ∙ ap (map (moved_end name number)) (take_all i h.all (omega (arith, le, m))) in
      h.arena ∙ ap (λ es. changed first n (Live h.word es)) ends ∙ ap (λ z. changed first n (moved name number z)) (sym h.is)

-- ---- one agent after another

-- an end that leads to an agent of a list has numbers within
pub within_list : (agents : List CellNo) (many cells : ℕ) → AreBelow agents cells → (e : End) → LeadsInto agents many e → IsEndWithin cells many e
within_list agents many cells below (Cell c i) at = below at.0 c at.1
within_list agents many cells below (Free k) at = at

pub none_written : (from : ArenaView) (agents names : List CellNo) (ends : List ℕ) (first : ArenaView) → AreMovedBelow from agents names ends first 0 first
none_written from agents names ends first = record {
  each = λ k c less. absurd (omega (arith, less));
  others = λ n out. refl;
  free = λ d. refl;
  memory = refl;
  cells = refl;
  many = refl;
}

pub moved_live : (name number : ℕ → ℕ) (x : State) → IsLive x → IsLive (moved name number x)
moved_live name number Vacant live = live
moved_live name number Leased live = live
moved_live name number (Live w es) live = tt

pub not_free : (x : State) → IsLive x → one_if_free x ≡ 0
not_free Vacant live = absurd live
not_free Leased live = absurd live
not_free (Live w es) live = refl

number_or : (cells : CellCounts) (d : CellClass) (n : ℕ) → IsNumberOf cells d n ⊎ (IsNumberOf cells d n → ⊥)
number_or cells d n = go (cases_lt n (first_of cells d)) (cases_lt n (first_of cells d + amount cells d))
  where
    go : (n < first_of cells d) ⊎ (first_of cells d ≤ n) → (n < first_of cells d + amount cells d) ⊎ (first_of cells d + amount cells d ≤ n) → IsNumberOf cells d n ⊎ (IsNumberOf cells d n → ⊥)
    go (inl l) k = inr (λ h. (let a = h.0 in omega (arith, l, a)))
    go (inr l) (inl k) = inl (l, k)
    go (inr l) (inr k) = inr (λ h. (let a = h.1 in omega (arith, k, a)))

-- a cell that is live before and after isn't one of the free ones
pub live_keeps_free : (a : ArenaView) (n : ℕ) (x : State) → HasAllCells a → IsLive (state_at a n) → IsLive x → (d : CellClass) → free_of (changed a n x) d ≡ free_of a d
live_keeps_free a n x all was is d = go (class_of_number a.cells n (let i = live_inside a n was in omega (arith, i, all))) (number_or a.cells d n)
  where
    go : (b : CellClass) × IsNumberOf a.cells b n → IsNumberOf a.cells d n ⊎ (IsNumberOf a.cells d n → ⊥) → free_of (changed a n x) d ≡ free_of a d
    go b (inl here) =
        let f = (counts_change a n d x all here).0 in
        let before = not_free (state_at a n) was in
        let after = not_free x is in
        omega (arith, f, before, after)
    go b (inr out) = (counts_change a n b.0 x all b.1).1 d (λ e. out (subst (λ (z : CellClass). IsNumberOf a.cells z n) (sym e) b.1))

module _ (from : ArenaView) (agents names : List CellNo) (ends : List ℕ) (first : ArenaView) (all : HasAllCells first) (part : ArePart from agents) (cells : HaveOwnCells from agents names first) (x : ℕ) (now : ArenaView) (h : AreMovedBelow from agents names ends first x now) (c : CellNo) (at : slice_get agents x ≡ Some c) where
  abbrev n : ℕ
  n = name_in names c.0

  abbrev new : State
  new = moved (name_in names) (number_in ends) (state_at from c.0)

  other : (k : ℕ) (d : CellNo) → k < x → slice_get agents k ≡ Some d → name_in names d.0 ≢ n
  other k d less s e = let same = cells.once k x d c s at e in omega (arith, less, same)

  untouched : state_at now n ≡ state_at first n
  untouched = h.others n other

  -- its cell is still as it was taken
  pub alike : LooksLike (state_at from c.0) (state_at now n)
  alike = subst (LooksLike (state_at from c.0)) (sym untouched) (cells.each x c at)

  live_now : IsLive (state_at now n)
  live_now = alike_live (state_at from c.0) (state_at now n) (part.live x c at) alike

  inside : n < length now.states
  inside = live_inside now n live_now

  module _ (now' : ArenaView) (e : now' ≡ changed now n new) where
    at_new : state_at now' n ≡ new
    at_new = ap (λ v. state_at v n) e ∙ get_or-set_same now.states n new Leased inside

    at_other : (m : ℕ) → m ≢ n → state_at now' m ≡ state_at now m
    at_other m ne = ap (λ v. state_at v m) e ∙ get_or-set_other now.states n m new Leased ne

    all_now : HasAllCells now
    all_now = h.many ∙ all ∙ ap all_of (sym h.cells)

    free : (d : CellClass) → free_of now' d ≡ free_of now d
    free d = ap (λ v. free_of v d) e ∙ live_keeps_free now n new all_now live_now (moved_live (name_in names) (number_in ends) (state_at from c.0) (part.live x c at)) d

    each_by : (k : ℕ) (d : CellNo) → (k ≡ x) ⊎ (k ≢ x) → k < x + 1 → slice_get agents k ≡ Some d → state_at now' (name_in names d.0) ≡ moved (name_in names) (number_in ends) (state_at from d.0)
    each_by k d (inl same) less s =
        let is : c ≡ d = same_Some c d (sym at ∙ ap (slice_get agents) (sym same) ∙ s) in
        subst (λ (z : CellNo). state_at now' (name_in names z.0) ≡ moved (name_in names) (number_in ends) (state_at from z.0)) is at_new
    each_by k d (inr ne) less s = let before : k < x = omega (arith, less, ne) in at_other (name_in names d.0) (other k d before s) ∙ h.each k d before s

    pub one_more_written : AreMovedBelow from agents names ends first (x + 1) now'
    one_more_written = record {
      each = λ k d less s. each_by k d (cases_eq k x) less s;
      others = λ m out. at_other m (λ e. out x c (omega arith) at (sym e)) ∙ h.others m (λ k d less s. out k d (omega (arith, less)) s);
      free = λ d. free d ∙ h.free d;
      memory = ap (λ (v : ArenaView). v.memory) e ∙ h.memory;
      cells = ap (λ (v : ArenaView). v.cells) e ∙ h.cells;
      many = ap (λ (v : ArenaView). length v.states) e ∙ length-set now.states n new ∙ h.many;
    }

-- ---- all of them

pub all_copied : (from : ArenaView) (agents names : List CellNo) (ends : List ℕ) (old first new : ArenaView) → HaveCellsBelow from agents old (length agents) first names → AreMovedBelow from agents names ends first (length agents) new
    → IsCopied from agents ends names old new
all_copied from agents names ends old first new t w = record {
  each = λ k c s. (let l = slice_get_within agents k c s in ((t.each k c l s).was, w.each k c l s));
  classes = λ k c s. (let g = (t.each k c (slice_get_within agents k c s) s).class in (g.0, g.1, subst (λ z. IsNumberOf z g.0 (name_in names c.0)) (sym (w.cells ∙ t.cells)) g.2));
  once = λ j k c d s r. t.once j k c d (slice_get_within agents j c s) (slice_get_within agents k d r) s r;
  others = λ n out. w.others n (λ k c l s. out k c s) ∙ t.others n (λ k c l s. out k c s);
  free = λ d. ap (λ z. z + count_by (is_for from d) agents) (w.free d) ∙ ap (λ cs. free_of first d + count_by (is_for from d) cs) (sym (take_all (length agents) agents (omega arith))) ∙ t.free d;
  memory = w.memory ∙ t.memory;
  cells = w.cells ∙ t.cells;
  many = w.many ∙ t.many;
}
