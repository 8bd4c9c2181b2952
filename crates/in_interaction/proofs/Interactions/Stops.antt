-- Closed walks over both sides of an interaction, joined and parted.
use Rattle.std.proofs.Common.{◌≡◌, List, [], ◌∷◌, ◌++◌, refl, ap, inl, inr}
use Rattle.in_net.specs.Interactions.{Side}
use Rattle.in_interaction.proofs.Interactions.Places.{Place, Old, New, Boundary, Loose}
use Rattle.in_interaction.proofs.Interactions.Tours.{Stop, At_old, At_new, Through, enters, leaves, Tour, agents_of, boundary_of}

-- a place is an agent's port with this property, or a boundary end
abbrev pub AtPlace : {A B : Type 0} → (Place A B → Type 0) → Side → Place A B → Type 0
AtPlace P s (Old x i) = P (Old x i)
AtPlace P s (New y i) = P (New y i)
AtPlace P s (Boundary e) = Unit {0}
AtPlace P s (Loose k) = ⊥

pub agents_join : {A B : Type 0} (xs ys : List (Stop A B)) → agents_of (xs ++ ys) ≡ agents_of xs ++ agents_of ys
agents_join [] ys = refl
agents_join (At_old x i j ∷ xs) ys = ap (λ ps. record { node = inl x; enter = i; leave = j } ∷ ps) (agents_join xs ys)
agents_join (At_new y i j ∷ xs) ys = ap (λ ps. record { node = inr y; enter = i; leave = j } ∷ ps) (agents_join xs ys)
agents_join (Through s e ∷ xs) ys = agents_join xs ys

pub boundary_join : {A B : Type 0} (xs ys : List (Stop A B)) → boundary_of (xs ++ ys) ≡ boundary_of xs ++ boundary_of ys
boundary_join [] ys = refl
boundary_join (At_old x i j ∷ xs) ys = boundary_join xs ys
boundary_join (At_new y i j ∷ xs) ys = boundary_join xs ys
boundary_join (Through s e ∷ xs) ys = ap (λ es. e ∷ es) (boundary_join xs ys)

-- walks each of whose places is entered as En says, and left as Le says
module _ {A B : Type 0} (wire : Side → Place A B → Place A B → Type 0) (En Le : Side → Place A B → Type 0) where
  pub tour_to : (u v : Side × Place A B) (xs : List (Stop A B)) (q : Stop A B) (ys : List (Stop A B)) → Tour wire En Le u (xs ++ q ∷ ys) v → Tour wire En Le u xs (enters q) × En (enters q).0 (enters q).1 × Le (leaves q).0 (leaves q).1 × Tour wire En Le (leaves q) ys v
  tour_to u v [] q ys w = w
  tour_to u v (x ∷ xs) q ys w =
      let r = tour_to (leaves x) v xs q ys w.3 in
      ((w.0, w.1, w.2, r.0), r.1, r.2, r.3)

  pub tour_join : (u v : Side × Place A B) (xs : List (Stop A B)) (q : Stop A B) (ys : List (Stop A B)) → Tour wire En Le u xs (enters q) → En (enters q).0 (enters q).1 → Le (leaves q).0 (leaves q).1 → Tour wire En Le (leaves q) ys v → Tour wire En Le u (xs ++ q ∷ ys) v
  tour_join u v [] q ys w e l r = (w, e, l, r)
  tour_join u v (x ∷ xs) q ys w e l r = (w.0, w.1, w.2, tour_join (leaves x) v xs q ys w.3 e l r)

  -- a closed walk
  pub record ClosedTour : Type 0 where
    pub first : Stop A B
    pub rest : List (Stop A B)
    pub enter : En (enters first).0 (enters first).1
    pub leave : Le (leaves first).0 (leaves first).1
    pub closed : Tour wire En Le (leaves first) rest (enters first)
