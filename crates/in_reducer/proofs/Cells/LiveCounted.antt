-- A list of the live cells of an arena has as many of each class as there are.
use Rattle.std.proofs.Common.{◌≡◌, ◌≢◌, ◌<◌, ◌≤◌, ◌+◌, ◌-◌, ℕ, zero, suc, Bool, false, cond, Some, List, [], ◌∷◌, get_or, count_by, length, map, slice_get, refl, sym, ap, subst, ◌∙◌, arith}
use Rattle.std.proofs.lemmas.List.Sums.{sum_by-cons}
use Rattle.std.proofs.lemmas.Option.{same_Some}
use Rattle.in_arena.specs.Arenas.{ArenaView, state_at}
use Rattle.in_arena.specs.Classes.{holds}
use Rattle.in_arena.specs.States.{State, Vacant, Leased, Live, IsLive, places, word_of}
use Rattle.in_arena.specs.declared.content.CellClass.{CellClass}
use Rattle.in_arena.specs.declared.content.CellNo.{CellNo}
use Rattle.in_symbols.specs.Tables.{Tables, arity_of}
use Rattle.in_compile.specs.Cells.{agents_of, takes}
use Rattle.in_cells.specs.Copying.{IsListOfLive, is_for}
use Rattle.in_reducer.specs.Standing.{agent_in, agents_in}

-- the cell is live, and of this class
abbrev is_live_for : CellClass → State → Bool
is_live_for c Vacant = false
is_live_for c Leased = false
is_live_for c (Live word ends) = holds c (length ends)

module _ (a : ArenaView) (d : CellClass) where
  -- these are the live ones of the cells from this one on
  record Lists (s : ℕ) (xs : List State) (cs : List CellNo) : Type 0 where
    from : (k : ℕ) (c : CellNo) → slice_get cs k ≡ Some c → s ≤ c.0
    live : (k : ℕ) (c : CellNo) → slice_get cs k ≡ Some c → IsLive (state_at a c.0)
    all : (i : ℕ) → IsLive (get_or xs i Leased) → (k : ℕ) × (c : CellNo) × (slice_get cs k ≡ Some c) × (c.0 ≡ s + i)
    rising : (j k : ℕ) (c e : CellNo) → j < k → slice_get cs j ≡ Some c → slice_get cs k ≡ Some e → c.0 < e.0
    same : (i : ℕ) → get_or xs i Leased ≡ state_at a (s + i)

  dead : (s : ℕ) (x : State) (xs : List State) (cs : List CellNo) → Lists s (x ∷ xs) cs → (IsLive x → ⊥) → Lists (suc s) xs cs
  dead s x xs cs h none = record {
    from = λ k c at. (
        let l = h.from k c at in
        let not : c.0 ≢ s = λ e. none (subst IsLive (ap (state_at a) (e ∙ (let z : s ≡ s + 0 = omega arith in z)) ∙ sym (h.same 0)) (h.live k c at)) in
        omega (arith, l, not)
        );
    live = h.live;
    all = λ i live. (let z = h.all (suc i) live in let e = z.3 in (z.0, z.1, z.2, omega (arith, e)));
    rising = h.rising;
    same = λ i. h.same (suc i) ∙ ap (state_at a) (let z : s + suc i ≡ suc s + i = omega arith in z);
  }

  first_is : (s : ℕ) (x : State) (xs : List State) (c : CellNo) (cs : List CellNo) → Lists s (x ∷ xs) (c ∷ cs) → IsLive x → c.0 ≡ s
  first_is s x xs c cs h live = go (h.all 0 live)
    where
      go : (k : ℕ) × (e : CellNo) × (slice_get (c ∷ cs) k ≡ Some e) × (e.0 ≡ s + 0) → c.0 ≡ s
      go (zero, e, at, is) = ap (λ (z : CellNo). z.0) (same_Some c e at) ∙ (let z : e.0 ≡ s = omega (arith, is) in z)
      go (suc k, e, at, is) = let low = h.from 0 c refl in let l = h.rising 0 (suc k) c e (omega arith) refl at in absurd (omega (arith, low, l, is))

  alive : (s : ℕ) (x : State) (xs : List State) (c : CellNo) (cs : List CellNo) → Lists s (x ∷ xs) (c ∷ cs) → IsLive x → Lists (suc s) xs cs
  alive s x xs c cs h live = record {
    from = λ k e at. (let f = first_is s x xs c cs h live in let l = h.rising 0 (suc k) c e (omega arith) refl at in omega (arith, f, l));
    live = λ k e at. h.live (suc k) e at;
    all = λ i there. go i (h.all (suc i) there);
    rising = λ j k b e l at to. h.rising (suc j) (suc k) b e (omega (arith, l)) at to;
    same = λ i. h.same (suc i) ∙ ap (state_at a) (let z : s + suc i ≡ suc s + i = omega arith in z);
  }
    where
      go : (i : ℕ) → (k : ℕ) × (e : CellNo) × (slice_get (c ∷ cs) k ≡ Some e) × (e.0 ≡ s + suc i) → (k : ℕ) × (e : CellNo) × (slice_get cs k ≡ Some e) × (e.0 ≡ suc s + i)
      go i (zero, e, at, is) =
          let f = first_is s x xs c cs h live in
          let g : c.0 ≡ e.0 = ap (λ (z : CellNo). z.0) (same_Some c e at) in
          absurd (omega (arith, f, g, is))
      go i (suc k, e, at, is) = (k, e, at, omega (arith, is))

  counted : (s : ℕ) (xs : List State) (cs : List CellNo) → Lists s xs cs → count_by (is_for a d) cs ≡ count_by (is_live_for d) xs
  counted s [] [] h = refl
  counted s [] (c ∷ cs) h =
      let low = h.from 0 c refl in
      let at : state_at a c.0 ≡ Leased = ap (state_at a) (let z : c.0 ≡ s + (c.0 - s) = omega (arith, low) in z) ∙ sym (h.same (c.0 - s)) in
      absurd (subst IsLive at (h.live 0 c refl))
  counted s (Vacant ∷ xs) cs h = let e = counted (suc s) xs cs (dead s Vacant xs cs h (λ z. z)) in let f = sum_by-cons (λ y. cond (is_live_for d y) 1 0) Vacant xs in omega (arith, e, f)
  counted s (Leased ∷ xs) cs h = let e = counted (suc s) xs cs (dead s Leased xs cs h (λ z. z)) in let f = sum_by-cons (λ y. cond (is_live_for d y) 1 0) Leased xs in omega (arith, e, f)
  counted s (Live w es ∷ xs) [] h = let z = h.all 0 tt in absurd (let f = z.2 in cc)
  counted s (Live w es ∷ xs) (c ∷ cs) h =
      let e = counted (suc s) xs cs (alive s (Live w es) xs c cs h tt) in
      let at : state_at a c.0 ≡ Live w es = ap (state_at a) (first_is s (Live w es) xs c cs h tt ∙ (let z : s ≡ s + 0 = omega arith in z)) ∙ sym (h.same 0) in
      let here : ◌≡◌ {A = ℕ} (cond (is_for a d c) 1 0) (cond (is_live_for d (Live w es)) 1 0) = ap (λ (y : State). cond (holds d (places y)) 1 0) at in
      let f = sum_by-cons (λ y. cond (is_live_for d y) 1 0) (Live w es) xs in
      let g = sum_by-cons (λ y. cond (is_for a d y) 1 0) c cs in
      omega (arith, e, here, f, g)

  all_counted : (cs : List CellNo) → IsListOfLive a cs → count_by (is_for a d) cs ≡ count_by (is_live_for d) a.states
  all_counted cs h = counted 0 a.states cs (record {
    from = λ k c at. (let z : 0 ≤ c.0 = omega arith in z);
    live = λ k c at. h.part.live k c at;
    all = λ i live. (let z = h.all i live in (z.0, record { 0 = i }, z.1, (let w : i ≡ 0 + i = omega arith in w)));
    rising = h.rising;
    same = λ i. ap (λ (z : ℕ). get_or a.states z Leased) (let w : i ≡ 0 + i = omega arith in w);
  })

-- a cell is counted as its agent is
module _ (t : Tables) (c : CellClass) where
  counted_here : (x : State) → ((s : ℕ) → word_of x ≡ Some s → places x ≡ suc (arity_of t s)) → is_live_for c x ≡ takes t c (agent_in x)
  counted_here Vacant h = refl
  counted_here Leased h = refl
  counted_here (Live word ends) h = let e = h word refl in ap (holds c) (let z : length ends ≡ arity_of t word + 1 = omega (arith, e) in z)

  by_agents : (xs : List State) → ((i s : ℕ) → word_of (get_or xs i Leased) ≡ Some s → places (get_or xs i Leased) ≡ suc (arity_of t s)) → count_by (is_live_for c) xs ≡ agents_of t c (map agent_in xs)
  by_agents [] h = refl
  by_agents (x ∷ xs) h =
      let here : ◌≡◌ {A = ℕ} (cond (is_live_for c x) 1 0) (cond (takes t c (agent_in x)) 1 0) = ap (λ (b : Bool). cond b 1 0) (counted_here x (h 0)) in
      let rest = by_agents xs (λ i. h (suc i)) in
      let one = sum_by-cons (λ y. cond (is_live_for c y) 1 0) x xs in
      let other = sum_by-cons (λ y. cond (takes t c y) 1 0) (agent_in x) (map agent_in xs) in
      omega (arith, here, rest, one, other)

  -- .. so a list has as many cells of a class as agents that take one
  pub agents_listed : (a : ArenaView) (cs : List CellNo) → IsListOfLive a cs → ((i s : ℕ) → word_of (state_at a i) ≡ Some s → places (state_at a i) ≡ suc (arity_of t s)) → count_by (is_for a c) cs ≡ agents_of t c (agents_in a)
  agents_listed a cs h many = all_counted a c cs h ∙ by_agents a.states many
