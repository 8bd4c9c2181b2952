-- A net has at most half as many wires as points: each listed wire has two of them, and no two wires share one.
use Rattle.std.proofs.Common.{◌≡◌, ◌≢◌, inl, inr, ◌+◌, ◌*◌, ◌≤◌, ℕ, zero, suc, Option, Some, None, List, [], ◌∷◌, ◌++◌, length, length-append, count_by, is_some, slice_get, refl, sym, ap, subst, ◌∙◌, arith}
use Rattle.std.specs.Prelude.{option_map, option_and_then}
use Rattle.std.specs.List.{AllByRecursion}
use Rattle.std.proofs.lemmas.Option.{same_Some}
use Rattle.in_base.specs.Lists.{IsAmong}
use Rattle.in_base.proofs.Among.{among_left, among_right, among_all}
use Rattle.in_syntax.specs.Grammar.{max_ports}
use Rattle.in_interaction.specs.Listing.{HaveFewEnds}
use Rattle.in_interaction.specs.Pieces.{AreDifferent}
use Rattle.in_net.specs.Parts.{Parts, partner_in}
use Rattle.in_net.specs.TextNet.{ComesBefore}
use Rattle.in_net.specs.declared.nets.AgentNo.{AgentNo}
use Rattle.in_net.specs.declared.nets.Cell.{Cell}
use Rattle.in_net.specs.declared.nets.FreeEnd.{FreeEnd}
use Rattle.in_net.specs.declared.nets.Point.{Point}
use Rattle.in_net.specs.declared.nets.Point.TheVariants.{Port, Free}
use Rattle.in_net.specs.declared.nets.Wire.{Wire}
use Rattle.in_net.proofs.Public.{not_both}
use Rattle.in_interaction.proofs.Interactions.Ahead.{remove}
use Rattle.in_interaction.proofs.Stepping.Unused.{counted}

-- different elements of a list are at most as many
pub few : {X : Type 0} (xs ys : List X) → AreDifferent xs → ((x : X) → IsAmong x xs → IsAmong x ys) → length xs ≤ length ys
few [] ys d h = omega arith
few (x ∷ xs) ys d h =
    let r = remove x ys (h x (inl refl)) in
    let k : length xs ≤ length r.rest = few xs r.rest d.1 (λ y a. r.kept y (h y (inr a)) (λ e. among_all (λ y. x ≢ y) xs y d.0 a (sym e))) in
    let s : length ys ≡ suc (length r.rest) = r.shorter in
    omega arith

-- ---- all points

frees_from : ℕ → List FreeEnd → List Point
frees_from k [] = []
frees_from k (f ∷ fs) = Free k ∷ frees_from (suc k) fs

ports_from : AgentNo → ℕ → List Point → List Point
ports_from x i [] = []
ports_from x i (p ∷ ps) = Port x i ∷ ports_from x (suc i) ps

ports_of : ℕ → Option Cell → List Point
ports_of x None = []
ports_of x (Some c) = ports_from (record { 0 = x }) 0 c.ends

agents_from : ℕ → List (Option Cell) → List Point
agents_from x [] = []
agents_from x (c ∷ cs) = ports_of x c ++ agents_from (suc x) cs

abbrev points : Parts → List Point
points m = frees_from 0 m.free ++ agents_from 0 m.cells

length-frees : (k : ℕ) (fs : List FreeEnd) → length (frees_from k fs) ≡ length fs
unfolding frees_from
length-frees k [] = refl
length-frees k (f ∷ fs) = ap suc (length-frees (suc k) fs)

length-ports : (x : AgentNo) (i : ℕ) (ps : List Point) → length (ports_from x i ps) ≡ length ps
unfolding ports_from
length-ports x i [] = refl
length-ports x i (p ∷ ps) = ap suc (length-ports x (suc i) ps)

few_ports : (x : ℕ) (cs : List (Option Cell)) → ((y : ℕ) (c : Cell) → option_and_then (λ c. c) (slice_get cs y) ≡ Some c → length c.ends ≤ max_ports + 1) → length (agents_from x cs) ≤ (max_ports + 1) * count_by is_some cs
unfolding agents_from ports_of
few_ports x [] h = omega arith
few_ports x (None ∷ cs) h = let r = few_ports (suc x) cs (λ y c e. h (suc y) c e) in let n = counted None cs in omega (arith, r, n)
few_ports x (Some c ∷ cs) h =
    let r = few_ports (suc x) cs (λ y c e. h (suc y) c e) in
    let n = counted (Some c) cs in
    let most = h 0 c refl in
    let ports = length-ports (record { 0 = x }) 0 c.ends in
    let both = length-append (ports_from (record { 0 = x }) 0 c.ends) (agents_from (suc x) cs) in
    omega (arith, r, n, most, ports, both)

-- ---- a point with a partner is one of them

in_frees : (k j : ℕ) (fs : List FreeEnd) (q : Point) → option_map (λ (f : FreeEnd). f.end) (slice_get fs j) ≡ Some q → IsAmong (Free (k + j)) (frees_from k fs)
unfolding frees_from
in_frees k j [] q e = cc
in_frees k zero (f ∷ fs) q e = inl (let z : k ≡ k + 0 = omega arith in ap (λ i. Free i) z)
in_frees k (suc j) (f ∷ fs) q e = inr (subst (λ i. IsAmong (Free i) (frees_from (suc k) fs)) (let z : suc k + j ≡ k + suc j = omega arith in z) (in_frees (suc k) j fs q e))

in_ports : (x : AgentNo) (i j : ℕ) (ps : List Point) (q : Point) → slice_get ps j ≡ Some q → IsAmong (Port x (i + j)) (ports_from x i ps)
unfolding ports_from
in_ports x i j [] q e = cc
in_ports x i zero (p ∷ ps) q e = inl (let z : i ≡ i + 0 = omega arith in ap (λ k. Port x k) z)
in_ports x i (suc j) (p ∷ ps) q e = inr (subst (λ k. IsAmong (Port x k) (ports_from x (suc i) ps)) (let z : suc i + j ≡ i + suc j = omega arith in z) (in_ports x (suc i) j ps q e))

in_agents : (x y j : ℕ) (cs : List (Option Cell)) (q : Point) → option_and_then (λ (c : Cell). slice_get c.ends j) (option_and_then (λ (c : Option Cell). c) (slice_get cs y)) ≡ Some q → IsAmong (Port (record { 0 = x + y }) j) (agents_from x cs)
unfolding agents_from ports_of
in_agents x y j [] q e = cc
in_agents x zero j (None ∷ cs) q e = cc
in_agents x zero j (Some c ∷ cs) q e =
    among_left (Port (record { 0 = x + 0 }) j) (ports_from (record { 0 = x }) 0 c.ends) (agents_from (suc x) cs)
    (subst (λ k. IsAmong (Port (record { 0 = k }) j) (ports_from (record { 0 = x }) 0 c.ends)) (let z : x ≡ x + 0 = omega arith in z)
    (subst (λ i. IsAmong (Port (record { 0 = x }) i) (ports_from (record { 0 = x }) 0 c.ends)) (let z : 0 + j ≡ j = omega arith in z) (in_ports (record { 0 = x }) 0 j c.ends q e)))
in_agents x (suc y) j (c ∷ cs) q e =
    among_right (Port (record { 0 = x + suc y }) j) (ports_of x c) (agents_from (suc x) cs)
    (subst (λ k. IsAmong (Port (record { 0 = k }) j) (agents_from (suc x) cs)) (let z : suc x + y ≡ x + suc y = omega arith in z) (in_agents (suc x) y j cs q e))

in_points : (m : Parts) (p q : Point) → partner_in m p ≡ Some q → IsAmong p (points m)
in_points m (Free k) q e =
    among_left (Free k) (frees_from 0 m.free) (agents_from 0 m.cells) (subst (λ j. IsAmong (Free j) (frees_from 0 m.free)) (let z : 0 + k ≡ k = omega arith in z) (in_frees 0 k m.free q e))
in_points m (Port x i) q e =
    among_right (Port x i) (frees_from 0 m.free) (agents_from 0 m.cells)
    (subst (λ k. IsAmong (Port (record { 0 = k }) i) (agents_from 0 m.cells)) (let z : 0 + x.0 ≡ x.0 = omega arith in z) (in_agents 0 x.0 i m.cells q e))

-- ---- the ends of wires

ends_of : List Wire → List Point
ends_of [] = []
ends_of (w ∷ ws) = w.one ∷ w.other ∷ ends_of ws

twice : (ws : List Wire) → length (ends_of ws) ≡ 2 * length ws
unfolding ends_of
twice [] = refl
twice (w ∷ ws) = let e = twice ws in omega arith

module _ (m : Parts) (back : (p q : Point) → partner_in m p ≡ Some q → partner_in m q ≡ Some p) (alone : (p : Point) → partner_in m p ≢ Some p) where
  -- the wire joins its two points, the first of which comes first
  abbrev IsTold : Wire → Type 0
  IsTold w = (partner_in m w.one ≡ Some w.other) × ComesBefore w.one w.other

  abbrev AreTold : List Wire → Type 0
  AreTold ws = (k : ℕ) (w : Wire) → slice_get ws k ≡ Some w → IsTold w

  abbrev BeginOnce : List Wire → Type 0
  BeginOnce ws = (j k : ℕ) (v w : Wire) → slice_get ws j ≡ Some v → slice_get ws k ≡ Some w → v.one ≡ w.one → j ≡ k

  one_partner : (p q r : Point) → partner_in m p ≡ Some q → partner_in m p ≡ Some r → q ≡ r
  one_partner p q r e f = same_Some q r (sym e ∙ f)

  -- the first end of a wire is the second end of none
  crossed : (v w : Wire) → IsTold v → IsTold w → v.one ≡ w.other → ⊥
  crossed v w h g e =
      let same : v.other ≡ w.one = one_partner v.one v.other w.one h.0 (ap (partner_in m) e ∙ back w.one w.other g.0) in
      not_both w.one w.other g.1 (subst (λ (z : Point). ComesBefore z w.one) e (subst (ComesBefore v.one) same h.1))

  -- two wires with one second end have one first end
  second_same : (v w : Wire) → IsTold v → IsTold w → v.other ≡ w.other → v.one ≡ w.one
  second_same v w h g e = one_partner v.other v.one w.one (back v.one v.other h.0) (ap (partner_in m) e ∙ back w.one w.other g.0)

  first_elsewhere : (v : Wire) (ws : List Wire) → IsTold v → AreTold ws → ((k : ℕ) (w : Wire) → slice_get ws k ≡ Some w → v.one ≢ w.one) → AllByRecursion (λ y. v.one ≢ y) (ends_of ws)
  unfolding ends_of
  first_elsewhere v [] h told other = tt
  first_elsewhere v (w ∷ ws) h told other = (other 0 w refl, ((λ e. crossed v w h (told 0 w refl) e), first_elsewhere v ws h (λ k. told (suc k)) (λ k. other (suc k))))

  second_elsewhere : (v : Wire) (ws : List Wire) → IsTold v → AreTold ws → ((k : ℕ) (w : Wire) → slice_get ws k ≡ Some w → v.one ≢ w.one) → AllByRecursion (λ y. v.other ≢ y) (ends_of ws)
  unfolding ends_of
  second_elsewhere v [] h told other = tt
  second_elsewhere v (w ∷ ws) h told other = (
    (λ e. crossed w v (told 0 w refl) h (sym e)),
    ((λ e. other 0 w refl (second_same v w h (told 0 w refl) e)), second_elsewhere v ws h (λ k. told (suc k)) (λ k. other (suc k))),
  )

  different : (ws : List Wire) → AreTold ws → BeginOnce ws → AreDifferent (ends_of ws)
  unfolding ends_of
  different [] told once = tt
  different (v ∷ ws) told once = (
    ((λ e. alone v.one (here.0 ∙ ap Some (sym e))), first_elsewhere v ws here rest other),
    (second_elsewhere v ws here rest other, different ws rest (λ j k x y e f g. (let z : suc j ≡ suc k = once (suc j) (suc k) x y e f g in omega (arith, z)))),
  )
    where
      here : IsTold v
      here = told 0 v refl

      rest : AreTold ws
      rest k = told (suc k)

      other : (k : ℕ) (w : Wire) → slice_get ws k ≡ Some w → v.one ≢ w.one
      other k w e same = let z : 0 ≡ suc k = once 0 (suc k) v w refl e same in omega (arith, z)

  there : (ws : List Wire) → AreTold ws → (p : Point) → IsAmong p (ends_of ws) → IsAmong p (points m)
  unfolding ends_of
  there [] told p h = absurd h
  there (w ∷ ws) told p (inl e) = subst (λ z. IsAmong z (points m)) e (in_points m w.one w.other (told 0 w refl).0)
  there (w ∷ ws) told p (inr (inl e)) = subst (λ z. IsAmong z (points m)) e (in_points m w.other w.one (back w.one w.other (told 0 w refl).0))
  there (w ∷ ws) told p (inr (inr h)) = there ws (λ k. told (suc k)) p h

  pub half : (ws : List Wire) → HaveFewEnds m.cells → AreTold ws → BeginOnce ws → 2 * length ws ≤ length m.free + (max_ports + 1) * count_by is_some m.cells
  half ws ends told once =
      let a = few (ends_of ws) (points m) (different ws told once) (there ws told) in
      let b = twice ws in
      let c = length-append (frees_from 0 m.free) (agents_from 0 m.cells) in
      let d = length-frees 0 m.free in
      let e = few_ports 0 m.cells ends in
      omega (arith, a, b, c, d, e)
