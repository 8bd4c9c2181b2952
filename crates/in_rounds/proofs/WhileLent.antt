-- While cells of a reducer's arena are on lease: its view doesn't depend on which are, and each leased cell is in a bag of those kept.
use Rattle.std.proofs.Common.{◌≡◌, ◌⊎◌, inl, inr, ◌<◌, ◌≤◌, ℕ, zero, suc, Some, List, [], ◌∷◌, ◌++◌, length, length-append, map, get_or, remove, set, slice_get, All, refl, sym, ap, subst, ◌∙◌, arith}
use Rattle.std.proofs.lemmas.List.Elements.{All-cons, All-head, All-tail}
use Rattle.in_arena.specs.Arenas.{ArenaView, NoneLeased, state_at}
use Rattle.in_arena.specs.Bags.{IsBagOf, IsInBag}
use Rattle.in_arena.specs.Classes.{all_of}
use Rattle.in_arena.specs.States.{State, Vacant, Leased, Live, IsLeased}
use Rattle.in_arena.proofs.Public.{leased_or}
use Rattle.in_compile.specs.Stocks.{Regains}
use Rattle.in_reducer.specs.Limiting.{AreAllowed}
use Rattle.in_rounds.specs.Dones.{DoneParts}
use Rattle.in_rounds.specs.Gathers.{bags_of}
use Rattle.in_rounds.specs.Holding.{HaveAllLeased, Returns, holders}
use Rattle.in_rounds.specs.declared.gather.JobState.{JobState}
use Rattle.in_rounds.specs.declared.gather.JobState.TheVariants.{Fresh, Kept, Taken}
use Rattle.in_rounds.proofs.Holding.{holders-cons, in_one, leased_of, out_of_one}
use Rattle.in_rounds.proofs.Keeping.{take_holders}
use Rattle.in_reducer.specs.declared.body.Body.{Body}
use Rattle.in_reducer.specs.Inside.{KeepsAll, KeepsNet, over, reducer_view}
use Rattle.in_reducer.specs.Lent.{AreSettled}
use Rattle.in_reducer.specs.Machines.{MachineParts}
use Rattle.in_reducer.specs.Placed.{IsNoneOf}
use Rattle.in_reducer.specs.Reducers.{IsReducer}
use Rattle.in_reducer.specs.Runs.{Runs, at_start, then_step}
use Rattle.in_reducer.specs.Standing.{IsNetIn, agents_in, at_rest, rested, vacant_in}
use Rattle.in_rounds.specs.Lending.{AreLentOut}
use Rattle.in_reducer.proofs.Public.{agents_same}

-- ---- at rest

rested_same : (xs ys : List State) → length ys ≡ length xs → ((n : ℕ) → n < length xs → rested (get_or ys n Leased) ≡ rested (get_or xs n Leased)) → map rested ys ≡ map rested xs
rested_same [] [] e h = refl
rested_same [] (y ∷ ys) e h = cc
rested_same (x ∷ xs) [] e h = cc
rested_same (x ∷ xs) (y ∷ ys) e h =
    let first : rested y ≡ rested x = h 0 (omega arith) in
    let rest = rested_same xs ys (let k : suc (length ys) ≡ suc (length xs) = e in omega (arith, k)) (λ n l. h (suc n) (omega (arith, l))) in
    λ i. first i ∷ rest i

pub is_leased : (x : State) → IsLeased x → x ≡ Leased
is_leased Vacant h = absurd h
is_leased Leased h = refl
is_leased (Live w es) h = absurd h

-- a cell stays as it was, or one of both states is leased and the other free
abbrev pub IsAlike : State → State → Type 0
IsAlike x y = (y ≡ x) ⊎ (((x ≡ Leased) × (y ≡ Vacant)) ⊎ ((x ≡ Vacant) × (y ≡ Leased)))

-- .. and so it is with each cell of an arena
abbrev pub AreAlike : ArenaView → ArenaView → Type 0
AreAlike a b = (n : ℕ) → n < length a.states → IsAlike (state_at a n) (state_at b n)

alike : (x y : State) → IsAlike x y → rested y ≡ rested x
alike x y (inl e) = ap rested e
alike x y (inr (inl h)) = ap rested h.1 ∙ sym (ap rested h.0)
alike x y (inr (inr h)) = ap rested h.1 ∙ sym (ap rested h.0)

module _ (a b : ArenaView) (memory : b.memory ≡ a.memory) (cells : b.cells ≡ a.cells) (many : length b.states ≡ length a.states) (each : AreAlike a b) where
  pub rest_same : at_rest b ≡ at_rest a
  rest_same =
      let states = rested_same a.states b.states many (λ n l. alike (state_at a n) (state_at b n) (each n l)) in
      λ i. record { memory = memory i; cells = cells i; states = states i }

  agents_alike : agents_in b ≡ agents_in a
  agents_alike = sym (agents_same b) ∙ ap agents_in rest_same ∙ agents_same a

  none_alike : (c : ArenaView) → IsNoneOf c a → IsNoneOf c b
  none_alike c h = (
    record {
      memory = h.0.memory ∙ sym memory;
      cells = h.0.cells ∙ sym cells;
      leased = λ n here. absurd (here (subst IsLeased (sym (h.1 n)) tt));
    },
    h.1,
  )

module _ (r : Body) (b : ArenaView) (memory : b.memory ≡ r.arena.memory) (cells : b.cells ≡ r.arena.cells) (many : length b.states ≡ length r.arena.states) (each : AreAlike r.arena b) where
  pub view_same : reducer_view (over b r) ≡ reducer_view r
  view_same =
      let rest = rest_same r.arena b memory cells many each in
      let agents = agents_alike r.arena b memory cells many each in
      λ i. record { program = (reducer_view r).program; agents = agents i; free = (reducer_view r).free; queue = (reducer_view r).queue; vacant = vacant_in (rest i) }

  pub keeps_net : KeepsNet r → KeepsNet (over b r)
  keeps_net k = record {
    reducer = subst IsReducer (sym view_same) k.reducer;
    net = subst (IsNetIn r.checked.now.program.tables) (sym (rest_same r.arena b memory cells many each)) k.net;
    few = subst AreAllowed (sym cells) k.few;
    few_free = k.few_free;
    free = k.free;
    ends = k.ends;
    queue = (let e = k.queue in omega (arith, e, ap all_of cells));
  }

  pub keeps_all : KeepsAll r → KeepsAll (over b r)
  keeps_all k = record {
    net = keeps_net k.net;
    tools = record {
      placed = none_alike r.arena b memory cells many each r.tools.placed.bag k.tools.placed;
      room = k.tools.room;
      made = k.tools.made;
      made_room = k.tools.made_room;
      points = k.tools.points;
    };
  }

-- ---- given back

-- one bag
module _ (a b bag : ArenaView) (of : IsBagOf bag a) (back : Regains (λ _. Vacant) a bag b) where
  pub back_alike : AreAlike a b
  back_alike n l = go (leased_or (state_at bag n))
    where
      go : (state_at bag n ≡ Leased) ⊎ IsInBag bag n → IsAlike (state_at a n) (state_at b n)
      go (inl out) = inl (back.others n out)
      go (inr here) = inr (inl (of.leased n here, back.back n here))

  pub back_settled : AreSettled bag a b
  back_settled = record {
    memory = back.memory;
    cells = back.cells;
    many = back.count;
    stay = λ n leased out. subst IsLeased (sym (back.others n out)) leased;
    none = λ n l leased. still n leased (leased_or (state_at bag n));
  }
    where
      still : (n : ℕ) → IsLeased (state_at b n) → (state_at bag n ≡ Leased) ⊎ IsInBag bag n → IsLeased (state_at a n) × (state_at bag n ≡ Leased)
      still n leased (inl out) = (subst IsLeased (back.others n out) leased, out)
      still n leased (inr here) = absurd (subst IsLeased (back.back n here) leased)

-- all that are kept
module _ (bs : List ArenaView) (a b : ArenaView) (have : HaveAllLeased bs a) (back : Returns bs [] a b) where
  some_or_none : (k : ℕ) → (0 < k) ⊎ (k ≡ 0)
  some_or_none zero = inr refl
  some_or_none (suc k) = inl (omega arith)

  pub all_alike : AreAlike a b
  all_alike n l = go (some_or_none (holders n bs))
    where
      go : (0 < holders n bs) ⊎ (holders n bs ≡ 0) → IsAlike (state_at a n) (state_at b n)
      go (inl some) = inr (inl (leased_of bs a n have.bags some, back.free n some))
      go (inr none) = inl (back.others n (sym none))

  pub none_left : NoneLeased b
  none_left n l leased = go (some_or_none (holders n bs))
    where
      go : (0 < holders n bs) ⊎ (holders n bs ≡ 0) → ⊥
      go (inl some) = subst IsLeased (back.free n some) leased
      go (inr none) =
          let one = have.all n (let c = back.count in omega (arith, l, c)) (subst IsLeased (back.others n (sym none)) leased) in
          omega (arith, one, none)

-- ---- lent out

module _ (bs : List ArenaView) (a b : ArenaView) (lent : AreLentOut bs a b) where
  one_or_none : (k : ℕ) → k ≤ 1 → (k ≡ 1) ⊎ (k ≡ 0)
  one_or_none zero l = inr refl
  one_or_none (suc k) l = inl (omega (arith, l))

  pub lent_alike : AreAlike a b
  lent_alike n l = go (one_or_none (holders n bs) (lent.bags.once n))
    where
      go : (holders n bs ≡ 1) ⊎ (holders n bs ≡ 0) → IsAlike (state_at a n) (state_at b n)
      go (inl one) = inr (inr (lent.free n one, leased_of bs b n lent.bags (omega (arith, one))))
      go (inr none) = inl (lent.others n none)

-- ---- taken

-- a property of each bag is one of a kept result's bag
pub kept_has : (P : ArenaView → Type 0) (slots : List JobState) (j : ℕ) (d : DoneParts) → slice_get slots j ≡ Some (Kept d) → All P (bags_of slots) → P d.placed.placed.bag
kept_has P [] j d at all = cc
kept_has P (Fresh ∷ slots) zero d at all = absurd (let f : Some Fresh ≡ Some (Kept d) = at in cc)
kept_has P (Kept e ∷ slots) zero d at all =
    let same : e ≡ d = (let f : Some (Kept e) ≡ Some (Kept d) = at in cc) in
    subst (λ (z : DoneParts). P z.placed.placed.bag) same (All-head P e.placed.placed.bag (bags_of slots) all)
kept_has P (Taken ∷ slots) zero d at all = absurd (let f : Some Taken ≡ Some (Kept d) = at in cc)
kept_has P (Fresh ∷ slots) (suc j) d at all = kept_has P slots j d at all
kept_has P (Kept e ∷ slots) (suc j) d at all = kept_has P slots j d at (All-tail P e.placed.placed.bag (bags_of slots) all)
kept_has P (Taken ∷ slots) (suc j) d at all = kept_has P slots j d at all

-- .. and of those that are left
left_have : (P : ArenaView → Type 0) (slots : List JobState) (j : ℕ) → All P (bags_of slots) → All P (bags_of (set slots j Taken))
left_have P [] j all = all
left_have P (Fresh ∷ slots) zero all = all
left_have P (Kept e ∷ slots) zero all = All-tail P e.placed.placed.bag (bags_of slots) all
left_have P (Taken ∷ slots) zero all = all
left_have P (Fresh ∷ slots) (suc j) all = left_have P slots j all
left_have P (Kept e ∷ slots) (suc j) all =
    All-cons P e.placed.placed.bag (bags_of (set slots j Taken)) (All-head P e.placed.placed.bag (bags_of slots) all) (left_have P slots j (All-tail P e.placed.placed.bag (bags_of slots) all))
left_have P (Taken ∷ slots) (suc j) all = left_have P slots j all

-- the rest of the slots after a result was taken
pub left_at : (slots : List JobState) (j k : ℕ) (d : DoneParts) → slice_get (set slots j Taken) k ≡ Some (Kept d) → slice_get slots k ≡ Some (Kept d)
left_at [] j k d at = at
left_at (s ∷ slots) zero zero d at = absurd (let f : Some Taken ≡ Some (Kept d) = at in cc)
left_at (s ∷ slots) zero (suc k) d at = at
left_at (s ∷ slots) (suc j) zero d at = at
left_at (s ∷ slots) (suc j) (suc k) d at = left_at slots j k d at

module _ (slots : List JobState) (j : ℕ) (d : DoneParts) (at : slice_get slots j ≡ Some (Kept d)) (a : ArenaView) (have : HaveAllLeased (bags_of slots) a) where
  pub taken_is_bag : IsBagOf d.placed.placed.bag a
  taken_is_bag = kept_has (λ b. IsBagOf b a) slots j d at have.bags.each

  module _ (b : ArenaView) (settled : AreSettled d.placed.placed.bag a b) where
    -- a cell of one that is left isn't one of those taken
    apart : (n : ℕ) → 0 < holders n (bags_of (set slots j Taken)) → (state_at d.placed.placed.bag n ≡ Leased) ⊎ IsInBag d.placed.placed.bag n → state_at d.placed.placed.bag n ≡ Leased
    apart n some (inl out) = out
    apart n some (inr here) = absurd (
        let both = take_holders n slots j d at in
        let one = in_one d.placed.placed.bag n here in
        let once = have.bags.once n in
        omega (arith, both, one, once, some)
        )

    bag_after : (c : ArenaView) → IsBagOf c a → ((n : ℕ) → IsInBag c n → 0 < holders n (bags_of (set slots j Taken))) → IsBagOf c b
    bag_after c of some = record {
      memory = of.memory ∙ sym settled.memory;
      cells = of.cells ∙ sym settled.cells;
      leased = λ n here. is_leased (state_at b n)
          (settled.stay n (subst IsLeased (sym (of.leased n here)) tt) (apart n (some n here) (leased_or (state_at d.placed.placed.bag n))));
    }

    all_after : (bs : List ArenaView) → ((n : ℕ) → holders n bs ≤ holders n (bags_of (set slots j Taken))) → All (λ c. IsBagOf c a) bs → All (λ c. IsBagOf c b) bs
    all_after [] fewer all = λ i x lt. absurd (omega (arith, lt))
    all_after (c ∷ bs) fewer all =
        All-cons (λ c. IsBagOf c b) c bs
        (bag_after c (All-head (λ c. IsBagOf c a) c bs all) (λ n here. (let one = in_one c n here in let split = holders-cons n c bs in let f = fewer n in omega (arith, one, split, f))))
        (all_after bs (λ n. (let split = holders-cons n c bs in let f = fewer n in omega (arith, split, f))) (All-tail (λ c. IsBagOf c a) c bs all))

    pub have_left : HaveAllLeased (bags_of (set slots j Taken)) b
    have_left = record {
      bags = record {
        each = all_after (bags_of (set slots j Taken)) (λ n. omega arith) (left_have (λ c. IsBagOf c a) slots j have.bags.each);
        once = λ n. (let both = take_holders n slots j d at in let once = have.bags.once n in omega (arith, both, once));
      };
      all = λ n l leased. (
          let was = settled.none n (let m = settled.many in omega (arith, l, m)) leased in
          let one = have.all n (let m = settled.many in omega (arith, l, m)) was.0 in
          let both = take_holders n slots j d at in
          let none = out_of_one d.placed.placed.bag n was.1 in
          omega (arith, one, both, none)
          );
    }

-- ---- queues

-- an interaction takes one pair out of the queue
pub one_fewer : (xs zs ys : List (ℕ × ℕ)) → ys ≡ remove xs 0 ++ zs → length xs ≤ suc (length ys)
one_fewer [] zs ys e = omega arith
one_fewer (x ∷ xs) zs ys e = let f = ap length e in let g = length-append xs zs in omega (arith, f, g)

-- ---- runs

pub none_run : (m n : MachineParts) (k : ℕ) → Runs m k n → k ≡ 0 → n ≡ m
none_run m n k (at_start start) e = refl
none_run m n k (then_step start middle end j run step) e = absurd (omega (arith, e))
