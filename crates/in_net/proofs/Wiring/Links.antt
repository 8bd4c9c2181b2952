-- The partners of spots: the changes by joining.
use Rattle.std.proofs.Common.{◌≡◌, ℕ, zero, suc, ◌+◌, ◌-◌, ◌<◌, ◌≤◌, List, [], ◌∷◌, ◌++◌, length, refl, sym, ◌∙◌, ap, subst, arith, append_assoc, get_or, set, drop, drop-cons}
use Rattle.std.specs.List.{AllByRecursion}
use Rattle.std.proofs.lemmas.List.{length-set}
use Rattle.in_syntax.specs.declared.places.Place.{Place}
use Rattle.in_net.specs.declared.joining.Link.{Link}
use Rattle.in_net.specs.declared.reading.TextJoint.{TextJoint}
use Rattle.in_net.specs.Joining.{self_link, self_links, with_link, with_joints, JointsInside}

-- one spot more
pub one_more : (to count : ℕ) (links new all : List Link) → to < count → new ≡ links ++ self_link to ∷ [] → links ++ self_links to (count - to) ≡ all → new ++ self_links (to + 1) (count - (to + 1)) ≡ all
one_more to count links new all lt pushed e =
    let size : count - to ≡ suc (count - (to + 1)) = omega arith in
    ap (λ z. z ++ self_links (to + 1) (count - (to + 1))) pushed
    ∙ append_assoc links (self_link to ∷ []) (self_links (to + 1) (count - (to + 1)))
    ∙ ap (λ z. links ++ z) (sym (ap (self_links to) size))
    ∙ e

pub length-self_links : (k n : ℕ) → length (self_links k n) ≡ n
length-self_links k zero = refl
length-self_links k (suc n) = omega (arith, length-self_links (k + 1) n)

pub length-with_link : (links : List Link) (one other : ℕ) (place : Place) → length (with_link links one other place) ≡ length links
length-with_link links one other place = simp length-set refl

pub length-with_joints : (links : List Link) (js : List TextJoint) → length (with_joints links js) ≡ length links
length-with_joints links [] = refl
length-with_joints links (j ∷ js) = length-with_joints (with_link links (j.one + j.port) j.other j.place) js ∙ length-with_link links (j.one + j.port) j.other j.place

-- an element of a list, and those after it
pub from_place : {X : Type 0} (xs : List X) (i : ℕ) (d : X) → i < length xs → drop i xs ≡ get_or xs i d ∷ drop (i + 1) xs
from_place xs i d lt = let next : suc i ≡ i + 1 = omega arith in drop-cons xs i d lt ∙ ap (λ k. get_or xs i d ∷ drop k xs) next

pub all_here : {X : Type 0} (P : X → Type 0) (xs : List X) (i : ℕ) (d : X) → i < length xs → AllByRecursion P (drop i xs) → P (get_or xs i d)
all_here P xs i d lt all = (subst (AllByRecursion P) (from_place xs i d lt) all).0

pub all_rest : {X : Type 0} (P : X → Type 0) (xs : List X) (i : ℕ) (d : X) → i < length xs → AllByRecursion P (drop i xs) → AllByRecursion P (drop (i + 1) xs)
all_rest P xs i d lt all = (subst (AllByRecursion P) (from_place xs i d lt) all).1

pub all_set : {X : Type 0} (P : X → Type 0) (xs : List X) (i : ℕ) (x : X) → AllByRecursion P xs → P x → AllByRecursion P (set xs i x)
all_set P [] i x all p = tt
all_set P (y ∷ ys) zero x all p = (p, all.1)
all_set P (y ∷ ys) (suc i) x all p = (all.0, all_set P ys i x all.1 p)

pub all_at : {X : Type 0} (P : X → Type 0) (xs : List X) (i : ℕ) (d : X) → AllByRecursion P xs → i < length xs → P (get_or xs i d)
all_at P [] i d all lt = absurd (omega arith)
all_at P (y ∷ ys) zero d all lt = all.0
all_at P (y ∷ ys) (suc i) d all lt = all_at P ys i d all.1 (omega arith)

pub within_link : (n : ℕ) (links : List Link) (one other : ℕ) (place : Place) → AllByRecursion (λ l. l.to < n) links → one < n → other < n → AllByRecursion (λ l. l.to < n) (with_link links one other place)
within_link n links one other place all h k =
    all_set (λ l. l.to < n) (set links one (record { to = other; place = place })) other (record { to = one; place = place })
    (all_set (λ l. l.to < n) links one (record { to = other; place = place }) all k) h

pub within_self : (n k count : ℕ) → k + count ≤ n → AllByRecursion (λ l. l.to < n) (self_links k count)
within_self n k zero le = tt
within_self n k (suc count) le = (omega arith, within_self n (k + 1) count (omega arith))

pub within_joints : (n : ℕ) (links : List Link) (js : List TextJoint) → AllByRecursion (λ l. l.to < n) links → JointsInside n js → AllByRecursion (λ l. l.to < n) (with_joints links js)
within_joints n links [] all h = all
within_joints n links (j ∷ js) all h = within_joints n (with_link links (j.one + j.port) j.other j.place) js (within_link n links (j.one + j.port) j.other j.place all h.0.0 h.0.1) h.1
