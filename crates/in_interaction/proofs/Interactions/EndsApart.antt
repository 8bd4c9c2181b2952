-- The boundary ends that a cycle after an interaction passes are different: one path continues from each of them, and one leads back.
use Rattle.std.proofs.Common.{◌≡◌, ◌≢◌, ◌⊎◌, ◌<◌, ℕ, suc, List, [], ◌∷◌, length, sym, subst, ap, inl, inr, arith}
use Rattle.std.specs.List.{AllByRecursion}
use Rattle.in_base.specs.Graphs.{Passage, entered, left, AreApart}
use Rattle.in_net.specs.Interactions.{Side, Outer, Inner, other}
use Rattle.in_interaction.specs.Pieces.{AreDifferent}
use Rattle.in_base.proofs.Circuits.{Walk, AreSeparate, Circuit}
use Rattle.in_interaction.proofs.Interactions.Places.{Place, Boundary, Path, Stays, side_of, IsJoined}
use Rattle.in_interaction.proofs.Interactions.Paths.{AreWires, other_twice, one_path}
use Rattle.in_interaction.proofs.Interactions.Expand.{place, after, bounds}
use Rattle.in_interaction.proofs.Interactions.Cycles.{different_join}
use Rattle.in_base.proofs.Each.{all_map, all_append}

module _ {A B : Type 0} (wire : Side → Place A B → Place A B → Type 0) (wires : AreWires wire) where
  -- from this end one path leads to v, through fewer than k others, and one leads back to u
  record Between (u v : Place A B) (k e : ℕ) : Type 0 where
    side : Side
    on : List ℕ
    fewer : length on < k
    goes : Path wire (other side) (Boundary e) on v
    back : List ℕ
    came : Path wire side (Boundary e) back u

  raised : (u v : Place A B) (k e : ℕ) → Between u v k e → Between u v (suc k) e
  raised u v k e b =
      let h = b.fewer in
      record { side = b.side; on = b.on; fewer = omega arith; goes = b.goes; back = b.back; came = b.came }

  passed : (s : Side) (p : Place A B) (es : List ℕ) (u v : Place A B) → Path wire s p es v → ((e : ℕ) → wire s p (Boundary e) → (back : List ℕ) × Path wire s (Boundary e) back u) → AllByRecursion (Between u v (length es)) es
  passed s p [] u v w came = tt
  passed s p (e ∷ es) u v w came =
      let b = came e w.0 in (
        record { side = s; on = es; fewer = omega arith; goes = w.1; back = b.0; came = b.1 },
        all_map (Between u v (length es)) (Between u v (length (e ∷ es))) (λ f h. raised u v (length es) f h) es (passed (other s) (Boundary e) es u v w.1
            (λ f x. (e ∷ b.0, (wires.back (other s) (Boundary e) (Boundary f) x, subst (λ t. Path wire t (Boundary e) b.0 u) (sym (other_twice s)) b.1)))),
      )

  -- two ways through one end are equal, or one is the other in the opposite direction
  meet : (u v x y : Place A B) (k l e f : ℕ) → e ≡ f → Stays v → Stays x → Stays y → (a : Between u v k e) (b : Between x y l f) → ((v ≡ y) × (a.on ≡ b.on)) ⊎ (v ≡ x)
  meet u v x y k l e f same hv hx hy a b = go a.side b.side a.goes (subst (λ z. Path wire (other b.side) (Boundary z) b.on y) (sym same) b.goes) (subst (λ z. Path wire b.side (Boundary z) b.back x) (sym same) b.came)
    where
      go : (s t : Side) → Path wire (other s) (Boundary e) a.on v → Path wire (other t) (Boundary e) b.on y → Path wire t (Boundary e) b.back x → ((v ≡ y) × (a.on ≡ b.on)) ⊎ (v ≡ x)
      go Outer Outer g h c = let r = one_path wire wires Inner (Boundary e) a.on b.on v y hv hy g h in inl (r.1, r.0)
      go Inner Inner g h c = let r = one_path wire wires Outer (Boundary e) a.on b.on v y hv hy g h in inl (r.1, r.0)
      go Outer Inner g h c = inr (one_path wire wires Inner (Boundary e) a.on b.back v x hv hx g c).1
      go Inner Outer g h c = inr (one_path wire wires Outer (Boundary e) a.on b.back v x hv hx g c).1

  shorter : (es fs : List ℕ) → es ≡ fs → length fs < length es → ⊥
  shorter es fs same h = let e : length es ≡ length fs = ap length same in omega arith

  -- a path passes no end twice
  once : (s : Side) (p : Place A B) (es : List ℕ) (u v : Place A B) → Stays u → Stays v → v ≢ u → Path wire s p es v → ((e : ℕ) → wire s p (Boundary e) → (back : List ℕ) × Path wire s (Boundary e) back u) → AreDifferent es
  once s p [] u v hu hv d w came = tt
  once s p (e ∷ es) u v hu hv d w came =
      let b = came e w.0 in
      let next : (f : ℕ) → wire (other s) (Boundary e) (Boundary f) → (back : List ℕ) × Path wire (other s) (Boundary f) back u = λ f x. (e ∷ b.0, (wires.back (other s) (Boundary e) (Boundary f) x, subst (λ t. Path wire t (Boundary e) b.0 u) (sym (other_twice s)) b.1)) in
      let here : Between u v (suc (length es)) e = record { side = s; on = es; fewer = omega arith; goes = w.1; back = b.0; came = b.1 } in
      let apart : (f : ℕ) → Between u v (length es) f → e ≢ f = λ f h same.
      elim (meet u v u v (suc (length es)) (length es) e f same hv hu hv here h) [ inl r ↦ shorter es h.on r.1 h.fewer | inr r ↦ d r ] in
      (all_map (Between u v (length es)) (λ f. e ≢ f) apart es (passed (other s) (Boundary e) es u v w.1 next), once (other s) (Boundary e) es u v hu hv d w.1 next)

  -- ---- over the walk of a cycle

  module _ (class : A ⊎ B → ℕ → ℕ) (E L : (A ⊎ B) × ℕ → Type 0) (separate : AreSeparate (after wire class) E L) where
    stays : (v : (A ⊎ B) × ℕ) → Stays (place {A = A} {B = B} v)
    stays v = go v.0 v.1
      where
        go : (n : A ⊎ B) (i : ℕ) → Stays (place {A = A} {B = B} (n, i))
        go (inl y) i = tt
        go (inr y) i = tt

    one_place : (u v : (A ⊎ B) × ℕ) → place {A = A} {B = B} u ≡ place v → (u.0 ≡ v.0) × (u.1 ≡ v.1)
    one_place u v e = go u.0 v.0 u.1 v.1 e
      where
        go : (m n : A ⊎ B) (i j : ℕ) → place {A = A} {B = B} (m, i) ≡ place (n, j) → (m ≡ n) × (i ≡ j)
        go (inl y) (inl z) i j e = (cc, cc)
        go (inl y) (inr z) i j e = cc
        go (inr y) (inl z) i j e = cc
        go (inr y) (inr z) i j e = (cc, cc)

    -- no port is entered and left
    clash : (u v : (A ⊎ B) × ℕ) → E u → L v → place {A = A} {B = B} u ≢ place v
    clash u v e l same =
        let r = one_place u v same in
        separate u.0 u.1 v.1 e (subst (λ n. L (n, v.1)) (sym r.0) l) (ap (class u.0) r.1)

    -- an end on the way from a port that is left to one of T that is entered
    record Passed (T : (A ⊎ B) × ℕ → Type 0) (e : ℕ) : Type 0 where
      from : (A ⊎ B) × ℕ
      to : (A ⊎ B) × ℕ
      leaves : L from
      target : T to
      most : ℕ
      way : Between (place from) (place to) most e

    wire_ways : (u v : (A ⊎ B) × ℕ) (j : IsJoined wire (place u) (place v)) → AllByRecursion (Between (place u) (place v) (length j.2.0)) j.2.0
    wire_ways u v j = passed (side_of (place u)) (place u) j.2.0 (place u) (place v) j.2.1 (λ f w. ([], wires.back (side_of (place u)) (place u) (Boundary f) w))

    ways : (T : (A ⊎ B) × ℕ → Type 0) (u v : (A ⊎ B) × ℕ) (ps : List (Passage (A ⊎ B))) → L u → T v → AllByRecursion (λ p. T (entered p)) ps → (w : Walk (after wire class) E L u ps v) → AllByRecursion (Passed T) (bounds wire wires class E L u v ps w)
    ways T u v [] l t ts w = all_map (Between (place u) (place v) (length w.2.0)) (Passed T) (λ e b. record { from = u; to = v; leaves = l; target = t; most = length w.2.0; way = b }) w.2.0 (wire_ways u v w)
    ways T u v (p ∷ ps) l t ts w =
        all_append (Passed T) w.0.2.0 (bounds wire wires class E L (left p) v ps w.3)
        (all_map (Between (place u) (place (entered p)) (length w.0.2.0)) (Passed T) (λ e b. record { from = u; to = entered p; leaves = l; target = ts.0; most = length w.0.2.0; way = b }) w.0.2.0 (wire_ways u (entered p) w.0))
        (ways T (left p) v ps w.2 t ts.1 w.3)

    wire_once : (u v : (A ⊎ B) × ℕ) → L u → E v → (j : IsJoined wire (place u) (place v)) → AreDifferent j.2.0
    wire_once u v l e j = once (side_of (place u)) (place u) j.2.0 (place u) (place v) (stays u) (stays v) (clash v u e l) j.2.1 (λ f w. ([], wires.back (side_of (place u)) (place u) (Boundary f) w))

    different : (u v : (A ⊎ B) × ℕ) (ps : List (Passage (A ⊎ B))) → L u → E v → AreApart ps → AllByRecursion (λ p. p.node ≢ v.0) ps → AllByRecursion (λ p. E (entered p)) ps → (w : Walk (after wire class) E L u ps v) → AreDifferent (bounds wire wires class E L u v ps w)
    different u v [] l e apart far es w = wire_once u v l e w
    different u v (p ∷ ps) l e apart far es w =
        different_join w.0.2.0 (bounds wire wires class E L (left p) v ps w.3) (wire_once u (entered p) l w.1 w.0) (different (left p) v ps w.2 e apart.1 far.1 es.1 w.3)
        (all_map (Between (place u) (place (entered p)) (length w.0.2.0)) (λ f. AllByRecursion (λ g. f ≢ g) (bounds wire wires class E L (left p) v ps w.3)) apart_from w.0.2.0 (wire_ways u (entered p) w.0))
      where
        T : (A ⊎ B) × ℕ → Type 0
        T q = (p.node ≢ q.0) × E q

        differ : (f : ℕ) → Between (place u) (place (entered p)) (length w.0.2.0) f → (g : ℕ) → Passed T g → f ≢ g
        differ f b g c same =
            elim (meet (place u) (place (entered p)) (place c.from) (place c.to) (length w.0.2.0) c.most f g same (stays (entered p)) (stays c.from) (stays c.to) b c.way) [
              | inl r ↦ c.target.0 (one_place (entered p) c.to r.0).0
              | inr r ↦ clash (entered p) c.from w.1 c.leaves r
            ]

        targets : (qs : List (Passage (A ⊎ B))) → AllByRecursion (λ q. p.node ≢ q.node) qs → AllByRecursion (λ q. E (entered q)) qs → AllByRecursion (λ q. T (entered q)) qs
        targets [] h k = tt
        targets (q ∷ qs) h k = ((h.0, k.0), targets qs h.1 k.1)

        apart_from : (f : ℕ) → Between (place u) (place (entered p)) (length w.0.2.0) f → AllByRecursion (λ g. f ≢ g) (bounds wire wires class E L (left p) v ps w.3)
        apart_from f b = all_map (Passed T) (λ g. f ≢ g) (differ f b) (bounds wire wires class E L (left p) v ps w.3) (ways T (left p) v ps w.2 (far.0, e) (targets ps apart.0 es.1) w.3)

    entered_all : (u v : (A ⊎ B) × ℕ) (ps : List (Passage (A ⊎ B))) → Walk (after wire class) E L u ps v → AllByRecursion (λ p. E (entered p)) ps
    entered_all u v [] w = tt
    entered_all u v (p ∷ ps) w = (w.1, entered_all (left p) v ps w.3)

    -- a cycle through different agents passes no boundary end twice
    pub ends_apart : (c : Circuit (after wire class) E L) → AreApart (c.first ∷ c.rest) → AreDifferent (bounds wire wires class E L (left c.first) (entered c.first) c.rest c.closed)
    ends_apart c apart =
        different (left c.first) (entered c.first) c.rest c.leaves c.enters apart.1 (all_map (λ q. c.first.node ≢ q.node) (λ q. q.node ≢ c.first.node) (λ q d h. d (sym h)) c.rest apart.0)
        (entered_all (left c.first) (entered c.first) c.rest c.closed) c.closed
