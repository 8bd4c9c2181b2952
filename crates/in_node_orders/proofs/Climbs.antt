-- Climbing from head to head, and the edges that come.
use Rattle.std.proofs.Common.{◌≡◌, ◌<◌, ◌≤◌, ℕ, suc, pred, Bool, false, List, [], ◌∷◌, ◌++◌, length, take, get_or, sym, subst, inl, inr, ◌∙◌, arith, set}
use Rattle.std.specs.Prelude.{slice_get, Some}
use Rattle.std.proofs.Math.Nat.{suc-pred-eq_of_pos}
use Rattle.std.proofs.lemmas.Bool.{cases_Bool, cases_eq, cases_lt}
use Rattle.std.proofs.lemmas.Option.{get_or_from_slice_get, slice_get-get_or, slice_get_past}
use Rattle.in_base.proofs.Places.{kept_at}
use Rattle.in_simple_bridges.specs.Spans.{AreWithin, at}
use Rattle.in_open_nets.proofs.Public.{at_other, at_set, none_there}
use Rattle.in_growing_graphs.specs.Blobs.{AreBlobs}
use Rattle.in_node_orders.specs.declared.growing.Growing.{Growing}
use Rattle.in_node_orders.specs.Heads.{AreFalling, AreSkips, LeadsToHead}
use Rattle.in_node_orders.specs.Growing.{AreClimbable, ClimbsTo, IsGrowing, Merges, MergesTo, with_covered}
use Rattle.in_node_orders.proofs.Ways.{begins, covered_other, covers, covers_way, goes_further, turned}

-- ---- falling numbers

pub set_falls : (ns : List ℕ) (x v : ℕ) → x < length ns → v ≤ x → AreFalling ns → AreFalling (set ns x v)
set_falls ns x v l less f y = elim (cases_eq y x) [
  | inl same ↦ let e : at (set ns x v) y ≡ v = at_set ns x v 0 y l same in omega (arith, e, same, less)
  | inr d ↦ let e : at (set ns x v) y ≡ at ns y = at_other ns x v 0 y d in let g = f y in omega (arith, e, g)
]

pub past_zero : (ns : List ℕ) (x : ℕ) → length ns ≤ x → at ns x ≡ 0
past_zero ns x l = none_there ns x 0 (slice_get_past ns x l)

pub skips_fall : (up : ℕ → ℕ) (covered : ℕ → Bool) (skips : List ℕ) → AreSkips up covered skips → AreFalling skips
skips_fall up covered skips s x = elim (cases_lt x (length skips)) [
  | inl l ↦ elim (cases_Bool (covered x)) [ inl h ↦ let k = s.lower x l h in omega (arith, k) | inr h ↦ let k = s.bare x l h in omega (arith, k) ]
  | inr l ↦ let e = past_zero skips x l in omega (arith, e)
]

pub own_fall : (ns : List ℕ) → ((x : ℕ) → x < length ns → at ns x ≡ x) → AreFalling ns
own_fall ns own x = elim (cases_lt x (length ns)) [
  | inl l ↦ let e = own x l in omega (arith, e)
  | inr l ↦ let e = past_zero ns x l in omega (arith, e)
]

pub all_zero : (ns : List ℕ) → ((x : ℕ) → x < length ns → at ns x ≡ 0) → (x : ℕ) → at ns x ≡ 0
all_zero ns roots x = elim (cases_lt x (length ns)) [ inl l ↦ roots x l | inr l ↦ past_zero ns x l ]

rooted_fall : (es : List (ℕ × ℕ)) (ups vias : List ℕ) (covered : ℕ → Bool) → AreBlobs es (at ups) (at vias) (λ x. x) covered → AreFalling ups
rooted_fall es ups vias covered blobs x = elim (cases_eq (at ups x) 0) [
  | inl e ↦ omega (arith, e)
  | inr d ↦
      let some : 0 < at ups x = omega (arith, d) in
      let e : at ups x ≡ suc (pred (at ups x)) = sym (suc-pred-eq_of_pos some) in
      let k = blobs.rooted.deeper x (pred (at ups x)) e in
      omega (arith, e, k)
]

pub is_climbable : (g : Growing) → IsGrowing g → AreClimbable g.ups g.skips
is_climbable g h = record {
  size = sym h.skips;
  ups_fall = rooted_fall (take g.come g.edges) g.ups g.vias h.blobs.0 h.blobs.1;
  skips_fall = skips_fall (at g.ups) h.blobs.0 g.skips h.blobs.2;
}

-- ---- one step up

pub climbs_to : (ups skips skips' : List ℕ) (x p y : ℕ) → x < length skips → AreFalling ups → at ups x ≡ suc p → LeadsToHead (set skips x p) skips' p y → ClimbsTo ups skips skips' x y
climbs_to ups skips skips' x p y here falls e leads covered s bare =
    let f = falls x in
    let k = covers (at ups) covered skips s x p here bare e (omega (arith, f, e)) in
    let r = leads (at ups) (with_covered covered x) k in
    (r.0, p, e, r.1)

module _ (ups : List ℕ) (falls : AreFalling ups) (skips : List ℕ) where
  lower : (z q : ℕ) → at ups z ≡ suc q → q < z
  lower z q e = let f = falls z in omega (arith, e, f)

  pub merge_begins : (one two : List ℕ) (a b x y : ℕ) → LeadsToHead skips one a x → LeadsToHead one two b y → MergesTo ups skips two a b x y
  merge_begins one two a b x y first second old s =
      let r = first (at ups) old s in
      let t = second (at ups) old r.0 in
      (old, begins (at ups) lower old a b x y r.1.0 t.1.0, t.0, r.1.1, t.1.1)

  pub merge_further : (one two : List ℕ) (a b x y far : ℕ) → MergesTo ups skips one a b x y → ClimbsTo ups one two x far → y < x → MergesTo ups skips two a b far y
  merge_further one two a b x y far merges climbs less old s =
      let m = merges old s in
      let k = climbs m.0 m.2 m.3 in
      let head : with_covered m.0 x far ≡ false = k.3.1 in
      (with_covered m.0 x, goes_further (at ups) lower old a b m.0 x y k.1 far m.1 m.3 less k.2 k.3.0, k.0, head, covered_other m.0 x y (λ same. omega (arith, same, less)) ∙ m.4)

  pub merge_turned : (two : List ℕ) (a b x y : ℕ) → MergesTo ups skips two a b x y → MergesTo ups skips two b a y x
  merge_turned two a b x y merges old s = let m = merges old s in (m.0, turned (at ups) lower old m.0 a b x y m.1, m.2, m.4, m.3)

  pub merge_other : (one two : List ℕ) (a b x y far : ℕ) → MergesTo ups skips one a b x y → ClimbsTo ups one two y far → x < y → MergesTo ups skips two a b x far
  merge_other one two a b x y far merges climbs less = merge_turned two b a far x (merge_further one two b a y x far (merge_turned one a b x y merges) climbs less)

  pub merge_ends : (two : List ℕ) (a b x y : ℕ) → MergesTo ups skips two a b x y → x ≡ y → Merges ups skips two a b
  merge_ends two a b x y merges same old s =
      let m = subst (λ z. MergesTo ups skips two a b x z) (sym same) merges old s in
      (m.0, covers_way (at ups) lower old m.0 a b x m.1, m.2)

-- ---- reading lists

pub pair_at : (edges xs : List (ℕ × ℕ)) (b : ℕ) → xs ≡ edges → b < length edges → slice_get edges b ≡ Some (get_or xs b (0, 0))
pair_at edges xs b same l = subst (λ z. slice_get edges b ≡ Some (get_or z b (0, 0))) (sym same) (slice_get-get_or edges b (0, 0) l)

pub ends_at : (edges xs : List (ℕ × ℕ)) (b count : ℕ) → AreWithin count edges → xs ≡ edges → b < length edges → ((get_or xs b (0, 0)).0 < count) × ((get_or xs b (0, 0)).1 < count)
ends_at edges xs b count within same l = let p = get_or xs b (0, 0) in within b p.0 p.1 (pair_at edges xs b same l)

pub in_read : (xs ys : List ℕ) (a : ℕ) → xs ≡ ys → a < length ys → a < length xs
in_read xs ys a same l = subst (λ z. a < length z) (sym same) l

pub kept_pushed : (xs : List ℕ) (x k : ℕ) → k < length xs → at (xs ++ x ∷ []) k ≡ at xs k
kept_pushed xs x k l = get_or_from_slice_get (xs ++ x ∷ []) k (at xs k) 0 (kept_at xs (x ∷ []) k (at xs k) (slice_get-get_or xs k 0 l))

pub number_read : (ys xs : List ℕ) (k at_k : ℕ) → xs ≡ ys → k < length ys → at_k ≡ k → slice_get ys at_k ≡ Some (get_or xs k 0)
number_read ys xs k at_k same l e = subst (λ z. slice_get ys z ≡ Some (get_or xs k 0)) (sym e) (subst (λ z. slice_get ys k ≡ Some (get_or z k 0)) (sym same) (slice_get-get_or ys k 0 l))
