-- Bags as contracts see them, beside an arena and other bags, after a cell is taken out of one or put in.
use Rattle.std.proofs.Common.{◌≡◌, ℕ, zero, suc, List, take, drop, count_by, cond, ◌<◌, ◌⊎◌, inl, inr, get_or, set, replicate, refl, sym, ap, ◌∙◌, subst, ⊎_elim, arith, get_or-set_other}
use Rattle.std.proofs.lemmas.Bool.{cases_eq}
use Rattle.std.proofs.lemmas.List.{set-set, length-replicate}
use Rattle.std.proofs.lemmas.List.Sums.{sum_by-cons, sum_by-take-drop, sum_by-take-le}
use Rattle.in_arena.specs.Arenas.{ArenaView, IsOf, changed, free_of, state_at}
use Rattle.in_arena.specs.Bags.{IsBagOf}
use Rattle.in_arena.specs.Changes.{one_if_free, EmptyBagIsOf, BagsStay, LeaseToTakesOne, BagsStayApart, MovingKeepsApart, LeaseIsInNoBag}
use Rattle.in_arena.specs.Classes.{IsNumberOf, all_of, amount, first_of}
use Rattle.in_arena.specs.States.{State, Vacant, Leased, Live, IsLeased, IsLive, places, is_vacant}
use Rattle.in_arena.proofs.Rows.{stays}
use Rattle.in_arena.proofs.Changes.{counts_change, lease_stays}

-- ---- states

pub leased_or : (x : State) → (x ≡ Leased) ⊎ (IsLeased x → ⊥)
leased_or Vacant = inr (λ h. h)
leased_or Leased = inl refl
leased_or (Live w es) = inr (λ h. h)

pub in_here : (x : State) → (IsLeased x → ⊥) → x ≡ Leased → ⊥
in_here x in_it e = in_it (subst IsLeased (sym e) tt)

pub live_in : (x : State) → IsLive x → IsLeased x → ⊥
live_in Vacant live leased = leased
live_in Leased live leased = live
live_in (Live w es) live leased = leased

pub placed_in : (x : State) (p : ℕ) → p < places x → IsLeased x → ⊥
placed_in Vacant p lt leased = leased
placed_in Leased p lt leased = absurd (omega arith)
placed_in (Live w es) p lt leased = leased

pub changed_twice : (a : ArenaView) (n : ℕ) (x y : State) → changed (changed a n x) n y ≡ changed a n y
changed_twice a n x y = λ i. record { memory = a.memory; cells = a.cells; states = set-set a.states n x y i }

-- ---- a bag and its arena

pub vacant_apart : (b a : ArenaView) (n : ℕ) → IsBagOf b a → state_at a n ≡ Vacant → state_at b n ≡ Leased
vacant_apart b a n of free = ⊎_elim (λ e. e) (λ in_it. absurd (subst IsLeased (sym (of.leased n in_it) ∙ free) tt)) (leased_or (state_at b n))

-- one cell more is leased, and in the bag
pub bag_more : (b a : ArenaView) (n : ℕ) → IsBagOf b a → IsBagOf (changed b n Vacant) (changed a n Leased)
bag_more b a n of = record {
  memory = of.memory;
  cells = of.cells;
  leased = λ m in_it. ⊎_elim
      (λ (e : m ≡ n). ap (λ k. get_or (set a.states n Leased) k Leased) e ∙ stays a.states n Leased)
      (λ other. get_or-set_other a.states n m Leased Leased other ∙ of.leased m (subst (λ x. IsLeased x → ⊥) (get_or-set_other b.states n m Vacant Leased other) in_it))
      (cases_eq m n);
}

-- a cell changes that isn't in the bag
pub bag_stays : BagsStay
bag_stays a b n x of out = record {
  memory = of.memory;
  cells = of.cells;
  leased = λ m in_it. get_or-set_other a.states n m x Leased (λ (e : m ≡ n). in_it (subst IsLeased (sym (ap (state_at b) e ∙ out)) tt)) ∙ of.leased m in_it;
}

-- a cell leaves the bag
pub bag_less : (b a : ArenaView) (n : ℕ) (x : State) → IsBagOf b a → IsBagOf (changed b n Leased) (changed a n x)
bag_less b a n x of = record {
  memory = of.memory;
  cells = of.cells;
  leased = λ m in_it. ⊎_elim
      (λ (e : m ≡ n). absurd (in_it (subst IsLeased (sym (ap (λ k. get_or (set b.states n Leased) k Leased) e ∙ stays b.states n Leased)) tt)))
      (λ other. get_or-set_other a.states n m x Leased other ∙ of.leased m (subst (λ y. IsLeased y → ⊥) (get_or-set_other b.states n m Leased Leased other) in_it))
      (cases_eq m n);
}

pub stay_apart : BagsStayApart
stay_apart a b d a' b' c n of apart made =
    let k = n.0 in let free = vacant_apart d a k of made.1 in (
      λ m in_it. ⊎_elim
          (λ (e : m ≡ k). ap (state_at d) e ∙ free)
          (λ other. apart m (subst (λ x. IsLeased x → ⊥) (ap (λ (v : ArenaView). state_at v m) made.3 ∙ get_or-set_other b.states k m Vacant Leased other) in_it))
          (cases_eq m k),
      subst (IsBagOf d) (sym made.2) (bag_stays a d k Leased of free),
    )

pub moved_apart : MovingKeepsApart
moved_apart b d n x apart m in_it =
    ⊎_elim
    (λ (e : m ≡ n). absurd (in_it (subst IsLeased (sym (ap (λ k. get_or (set b.states n Leased) k Leased) e ∙ stays b.states n Leased)) tt)))
    (λ other. get_or-set_other d.states n m x Leased other ∙ apart m (subst (λ y. IsLeased y → ⊥) (get_or-set_other b.states n m Leased Leased other) in_it))
    (cases_eq m n)

pub lease_in_no_bag : LeaseIsInNoBag
lease_in_no_bag a b a' b' c l n of made =
    let other : l.number ≡ n.0 → ⊥ = λ e. subst IsLeased (sym of.leased ∙ ap (state_at a) e ∙ made.1) tt in
    (other, subst (IsOf l) (sym made.2) (lease_stays a l n.0 Leased of other))

-- ---- a bag that has no cell

none_counted : (n : ℕ) → count_by is_vacant (replicate n Leased) ≡ 0
none_counted zero = refl
none_counted (suc n) = let some : List State = replicate n Leased in omega (arith, sum_by-cons (λ x. cond (is_vacant x) 1 0) Leased some, none_counted n)

part_replicate : (k n m : ℕ) → count_by is_vacant (take k (drop n (replicate m Leased))) ≡ 0
part_replicate k n m =
    let all : List State = replicate m Leased in
    omega (arith, none_counted m, sum_by-take-drop (λ x. cond (is_vacant x) 1 0) all n, sum_by-take-le (λ x. cond (is_vacant x) 1 0) (drop n all) k)

pub empty_is_of : EmptyBagIsOf
empty_is_of a = (
  record { memory = refl; cells = refl; leased = λ n in_it. absurd (in_it (subst IsLeased (sym (none_in n (all_of a.cells))) tt)) },
  length-replicate (all_of a.cells) Leased,
  λ c. part_replicate (amount a.cells c) (first_of a.cells c) (all_of a.cells),
)
  where
    none_in : (n m : ℕ) → get_or (replicate m Leased) n Leased ≡ Leased
    none_in n zero = refl
    none_in zero (suc m) = refl
    none_in (suc n) (suc m) = none_in n m

pub lease_to_takes_one : LeaseToTakesOne
lease_to_takes_one a b a' b' c n all_a all_b of made =
    let k = n.0 in
    let first = counts_change a k c Leased all_a made.0 in let second = counts_change b k c Vacant all_b (subst (λ m. IsNumberOf m c k) (sym of.cells) made.0) in
    let one = first.0 in let other = second.0 in
    let was : one_if_free (state_at a k) ≡ 1 = ap one_if_free made.1 in let out : one_if_free (state_at b k) ≡ 0 = ap one_if_free (vacant_apart b a k of made.1) in (
      omega (arith, one, was, ap (λ v. free_of v c) made.2),
      omega (arith, other, out, ap (λ v. free_of v c) made.3),
      λ d apart. (ap (λ v. free_of v d) made.2 ∙ first.1 d apart, ap (λ v. free_of v d) made.3 ∙ second.1 d apart),
    )
