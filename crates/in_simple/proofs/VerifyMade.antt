-- A net built by tests and numbers is the one that a step makes.
use Rattle.std.proofs.Common.{◌≡◌, ◌⊎◌, ◌↔◌, ◌<◌, ◌≤◌, ◌+◌, ◌-◌, ℕ, zero, suc, Bool, true, false, cond, ◌||◌, nat_eq, Some, None, List, [], ◌∷◌, length, slice_get, refl, eq-eqb, ne_eqb, sym, subst, ap, inl, inr, ◌∙◌, arith}
use Rattle.std.proofs.Math.ListN.{set}
use Rattle.std.proofs.lemmas.Bool.Decides.{eqb_tells}
use Rattle.std.proofs.lemmas.List.{length-set}
use Rattle.std.proofs.lemmas.Option.{slice_get_within}
use Rattle.in_open_nets.specs.declared.open_nets.OpenPoint.{OpenPoint}
use Rattle.in_open_nets.specs.declared.open_nets.OpenPoint.TheVariants.{Port, Free}
use Rattle.in_simple.specs.declared.verifying.Built.{Built}
use Rattle.in_open_nets.specs.OpenNets.{OpenNet, IsWire, IsOpenNet, IsClass}
use Rattle.in_open_nets.specs.declared.derivations.Step.TheVariants.{Empty, Link, Given, Cut, Mix}
use Rattle.in_open_nets.specs.Derivations.{Part, one_if, is_port_in, nodes_of, links_of, ends_of, ShareNothing, IsCut}
use Rattle.in_simple.specs.Checking.{ends_at, has_node, has_link, HasNoNodes, HasNoLinks, first_ends, second_ends, IsSizedBuilt, IsBuiltPart, Gathers, IsNothing, AreBeside, ShareOne, IsLed, IsFrom, IsJoint, MakesPart, OnAlone, OnPair, in_one}
use Rattle.in_open_nets.specs.Members.{nodes_in}
use Rattle.in_open_nets.proofs.Public.{wire_within, same_nat, port_same, one_same, one_other, at_set, at_other}
use Rattle.in_base.proofs.Places.{some_same}
use Rattle.std.proofs.lemmas.Bool.{or_left, or_right}
use Rattle.in_base.proofs.Each.{at_index}

-- ---- a part of the built net

same_point : OpenPoint → OpenPoint → Bool
same_point (Port n i) (Port m j) = cond (nat_eq n m) (nat_eq i j) false
same_point (Port n i) (Free k) = false
same_point (Free k) (Port n i) = false
same_point (Free k) (Free l) = nat_eq k l

point_tells : (p q : OpenPoint) → ((same_point p q ≡ true) × (p ≡ q)) ⊎ ((same_point p q ≡ false) × (p ≡ q → ⊥))
unfolding same_point
point_tells (Port n i) (Port m j) = elim (eqb_tells n m) [
  | inl e ↦ elim (eqb_tells i j) [
    | inl f ↦ let a : nat_eq n m ≡ true = e.0 in let b : nat_eq i j ≡ true = f.0 in let c = e.1 in let d = f.1 in inl (rw (a, b) refl, cc)
    | inr f ↦ let a : nat_eq n m ≡ true = e.0 in let b : nat_eq i j ≡ false = f.0 in inr (rw (a, b) refl, λ g. f.1 cc)
  ]
  | inr e ↦ let a : nat_eq n m ≡ false = e.0 in inr (rw a refl, λ g. e.1 cc)
]
point_tells (Port n i) (Free k) = inr (refl, λ g. cc)
point_tells (Free k) (Port n i) = inr (refl, λ g. cc)
point_tells (Free k) (Free l) = elim (eqb_tells k l) [
  | inl e ↦ let a : nat_eq k l ≡ true = e.0 in let c = e.1 in inl (a, cc)
  | inr e ↦ let a : nat_eq k l ≡ false = e.0 in inr (a, λ g. e.1 cc)
]

-- how many ends there are for a point, found at its first wire
ends_for : List (OpenPoint × OpenPoint) → List (ℕ × ℕ) → ℕ → OpenPoint → ℕ
ends_for [] es k p = 0
ends_for (v ∷ vs) es k p = cond (same_point v.0 p) (ends_at es k).0 (cond (same_point v.1 p) (ends_at es k).1 (ends_for vs es (suc k) p))

abbrev InList : List (OpenPoint × OpenPoint) → ℕ → OpenPoint → OpenPoint → Type 0
InList vs w p q = (slice_get vs w ≡ Some (p, q)) ⊎ (slice_get vs w ≡ Some (q, p))

-- no earlier wire has the point
abbrev IsNew : List (OpenPoint × OpenPoint) → ℕ → OpenPoint → Type 0
IsNew vs w p = (v : ℕ) (r : OpenPoint) → v < w → InList vs v p r → ⊥

ends_first : (vs : List (OpenPoint × OpenPoint)) (es : List (ℕ × ℕ)) (k w : ℕ) (p q : OpenPoint) → slice_get vs w ≡ Some (p, q) → IsNew vs w p → ends_for vs es k p ≡ (ends_at es (w + k)).0
unfolding ends_for
ends_first [] es k w p q h new = cc
ends_first (v ∷ vs) es k zero p q h new =
    let e : v ≡ (p, q) = some_same (Some v) v (p, q) refl h in
    let f : v.0 ≡ p = ap (λ z. z.0) e in
    elim (point_tells v.0 p) [
      | inl g ↦ let a : same_point v.0 p ≡ true = g.0 in let z : k ≡ 0 + k = omega arith in rw a (ap (λ z. (ends_at es z).0) z)
      | inr g ↦ absurd (g.1 f)
    ]
ends_first (v ∷ vs) es k (suc w) p q h new =
    elim (point_tells v.0 p) [
      | inl g ↦ absurd (new 0 v.1 (omega arith) (inl (ap (λ z. Some (z, v.1)) g.1)))
      | inr g ↦ elim (point_tells v.1 p) [
        | inl f ↦ absurd (new 0 v.0 (omega arith) (inr (ap (λ z. Some (v.0, z)) f.1)))
        | inr f ↦
            let a : same_point v.0 p ≡ false = g.0 in
            let b : same_point v.1 p ≡ false = f.0 in
            let r = ends_first vs es (suc k) w p q h (λ u r l i. new (suc u) r (omega arith) i) in
            let z : w + suc k ≡ suc w + k = omega arith in
            rw (a, b) (r ∙ ap (λ z. (ends_at es z).0) z)
      ]
    ]

ends_second : (vs : List (OpenPoint × OpenPoint)) (es : List (ℕ × ℕ)) (k w : ℕ) (p q : OpenPoint) → slice_get vs w ≡ Some (p, q) → (p ≡ q → ⊥) → IsNew vs w q → ends_for vs es k q ≡ (ends_at es (w + k)).1
unfolding ends_for
ends_second [] es k w p q h d new = cc
ends_second (v ∷ vs) es k zero p q h d new =
    let e : v ≡ (p, q) = some_same (Some v) v (p, q) refl h in
    let f : v.1 ≡ q = ap (λ z. z.1) e in
    let f' : v.0 ≡ p = ap (λ z. z.0) e in
    elim (point_tells v.0 q) [
      | inl g ↦ absurd (d (sym f' ∙ g.1))
      | inr g ↦ elim (point_tells v.1 q) [
        | inl u ↦ let a : same_point v.0 q ≡ false = g.0 in let b : same_point v.1 q ≡ true = u.0 in let z : k ≡ 0 + k = omega arith in rw (a, b) (ap (λ z. (ends_at es z).1) z)
        | inr u ↦ absurd (u.1 f)
      ]
    ]
ends_second (v ∷ vs) es k (suc w) p q h d new =
    elim (point_tells v.0 q) [
      | inl g ↦ absurd (new 0 v.1 (omega arith) (inl (ap (λ z. Some (z, v.1)) g.1)))
      | inr g ↦ elim (point_tells v.1 q) [
        | inl f ↦ absurd (new 0 v.0 (omega arith) (inr (ap (λ z. Some (v.0, z)) f.1)))
        | inr f ↦
            let a : same_point v.0 q ≡ false = g.0 in
            let b : same_point v.1 q ≡ false = f.0 in
            let r = ends_second vs es (suc k) w p q h d (λ u r l i. new (suc u) r (omega arith) i) in
            let z : w + suc k ≡ suc w + k = omega arith in
            rw (a, b) (r ∙ ap (λ z. (ends_at es z).1) z)
      ]
    ]

pub part_of : OpenNet → Built → Part
part_of o b = record { nodes = has_node b; links = has_link b; ends = ends_for o.wires b.ends 0 }

pub holds_part : (o : OpenNet) → IsOpenNet o → (b : Built) → IsBuiltPart o b (part_of o b)
unfolding part_of
holds_part o net b = record {
  nodes = λ n. refl;
  links = λ w. refl;
  ends = λ w p q h.
      let z : w + 0 ≡ w = omega arith in (
        ends_first o.wires b.ends 0 w p q h (λ v r l i. let e = (net.once w v p q r (inl h) i).0 in omega arith) ∙ ap (λ z. (ends_at b.ends z).0) z,
        ends_second o.wires b.ends 0 w p q h (net.apart w p q (inl h)) (λ v r l i. let e = (net.once w v q p r (inr h) i).0 in omega arith) ∙ ap (λ z. (ends_at b.ends z).1) z,
      );
}

module _ (o : OpenNet) where
  -- the ends at each point of a wire by a step, and at the two points of a listed wire
  abbrev pub AtPoints : (ℕ → OpenPoint → OpenPoint → ℕ → Type 0) → Part → Type 0
  AtPoints R x = (w : ℕ) (p q : OpenPoint) → IsWire o w p q → R w p q (x.ends q)

  abbrev pub AtWires : (ℕ → OpenPoint → OpenPoint → ℕ → Type 0) → Built → Type 0
  AtWires R b = (w : ℕ) (p q : OpenPoint) → slice_get o.wires w ≡ Some (p, q) → R w q p (first_ends b w) × R w p q (second_ends b w)

  abbrev pub OnlyOne : (ℕ → OpenPoint → OpenPoint → ℕ → Type 0) → Type 0
  OnlyOne R = (w : ℕ) (p q : OpenPoint) (e f : ℕ) → R w p q e → R w p q f → e ≡ f

  pub at_points : (R : ℕ → OpenPoint → OpenPoint → ℕ → Type 0) (b : Built) (x : Part) → AtWires R b → IsBuiltPart o b x → AtPoints R x
  at_points R b x f h w p q (inl e) = subst (λ z. R w p q z) (sym (h.ends w p q e).1) (f w p q e).1
  at_points R b x f h w p q (inr e) = subst (λ z. R w p q z) (sym (h.ends w q p e).0) (f w q p e).0

  pub at_wires : (R : ℕ → OpenPoint → OpenPoint → ℕ → Type 0) (b : Built) (x : Part) → OnlyOne R → AtWires R b → AtPoints R x → (w : ℕ) (p q : OpenPoint) → slice_get o.wires w ≡ Some (p, q) → (x.ends p ≡ first_ends b w) × (x.ends q ≡ second_ends b w)
  at_wires R b x one f j w p q h = (one w q p (x.ends p) (first_ends b w) (j w q p (inr h)) (f w p q h).0, one w p q (x.ends q) (second_ends b w) (j w p q (inl h)) (f w p q h).1)

  -- ---- each step

  pub made_empty : (b : Built) → IsNothing o b → (x : Part) → MakesPart o Empty [] x ↔ IsBuiltPart o b x
  made_empty b h x =
      let R : ℕ → OpenPoint → OpenPoint → ℕ → Type 0 = λ w p q e. e ≡ 0 in
      let f : AtWires R b = λ w p q g. (ap (λ z. z.0) (h.ends w), ap (λ z. z.1) (h.ends w)) in (
        (λ m. record {
          nodes = λ n. m.nodes n ∙ sym (h.nodes n);
          links = λ w. m.links w ∙ sym (h.links w);
          ends = at_wires R b x (λ w p q e f g k. g ∙ sym k) f m.joins;
        }),
        λ k. record {
          apart = tt;
          nodes = λ n. k.nodes n ∙ h.nodes n;
          links = λ w. k.links w ∙ h.links w;
          joins = at_points R b x f k;
        },
      )

  -- one Link, and an end for both points of its wire
  pub record IsLink (v : ℕ) (b : Built) : Type 0 where
    pub nodes : HasNoNodes b
    pub links : (w : ℕ) → has_link b w ≡ nat_eq w v
    pub ends : (w : ℕ) → (first_ends b w ≡ one_if w v) × (second_ends b w ≡ one_if w v)

  or_end : (b : Bool) → b ≡ ((b || false) || false)
  or_end true = refl
  or_end false = refl

  pub made_link : (v : ℕ) (b : Built) → ((p : OpenPoint) × (q : OpenPoint) × IsWire o v p q) → IsLink v b → (x : Part) → MakesPart o (Link v) [] x ↔ IsBuiltPart o b x
  made_link v b there h x =
      let R : ℕ → OpenPoint → OpenPoint → ℕ → Type 0 = λ w p q e. e ≡ one_if w v in
      let f : AtWires R b = λ w p q g. h.ends w in (
        (λ m. record {
          nodes = λ n. m.nodes n ∙ sym (h.nodes n);
          links = λ w. m.links w ∙ sym (or_end (nat_eq w v)) ∙ sym (h.links w);
          ends = at_wires R b x (λ w p q e f g k. g ∙ sym k) f m.joins.1;
        }),
        λ k. record {
          apart = tt;
          nodes = λ n. k.nodes n ∙ h.nodes n;
          links = λ w. k.links w ∙ h.links w ∙ or_end (nat_eq w v);
          joins = (there, at_points R b x f k);
        },
      )

  pub record IsGivenNode (n : ℕ) (b : Built) : Type 0 where
    pub nodes : (m : ℕ) → has_node b m ≡ nat_eq m n
    pub links : HasNoLinks b
    pub led : IsLed o (has_node b) b.ends (length o.wires)

  pub made_given : (n : ℕ) (b : Built) → IsClass o n → IsGivenNode n b → ((w : ℕ) (p q : OpenPoint) → slice_get o.wires w ≡ Some (p, q) → w < length o.wires) → (x : Part) → MakesPart o (Given n) [] x ↔ IsBuiltPart o b x
  made_given n b class h within x =
      let R : ℕ → OpenPoint → OpenPoint → ℕ → Type 0 = λ w p q e. e ≡ is_port_in (λ m. nat_eq m n) p in
      let f : AtWires R b = λ w p q g.
      let e = h.led w p q (within w p q g) g in
      (ap (λ z. z.0) e ∙ port_same (has_node b) (λ m. nat_eq m n) q h.nodes, ap (λ z. z.1) e ∙ port_same (has_node b) (λ m. nat_eq m n) p h.nodes) in (
        (λ m. record {
          nodes = λ k. m.nodes k ∙ sym (or_end (nat_eq k n)) ∙ sym (h.nodes k);
          links = λ w. m.links w ∙ sym (h.links w);
          ends = at_wires R b x (λ w p q e f g k. g ∙ sym k) f m.joins.1;
        }),
        λ k. record {
          apart = tt;
          nodes = λ m. k.nodes m ∙ h.nodes m ∙ or_end (nat_eq m n);
          links = λ w. k.links w ∙ h.links w;
          joins = (class, at_points R b x f k);
        },
      )

  -- ---- side by side

  pub gathers_none : (b : Built) → IsNothing o b → Gathers o b []
  gathers_none b h = record {
    share = tt;
    nodes = λ n. sym (h.nodes n);
    links = λ w. sym (h.links w);
    ends = λ w p q g. (ap (λ z. z.0) (sym (h.ends w)), ap (λ z. z.1) (sym (h.ends w)));
  }

  or_none : (b : Bool) → (b || false) ≡ b
  or_none true = refl
  or_none false = refl

  pub gathers_one : (b : Built) (z : Part) → IsBuiltPart o b z → Gathers o b (z ∷ [])
  gathers_one b z h = record {
    share = ((λ n k g. cc), (λ w k g. cc), tt);
    nodes = λ n. or_none (z.nodes n) ∙ h.nodes n;
    links = λ w. or_none (z.links w) ∙ h.links w;
    ends = λ w p q g. let a = (h.ends w p q g).0 in let c = (h.ends w p q g).1 in (omega arith, omega arith);
  }

  both_or : (a b c d : Bool) → a ≡ c → b ≡ d → (a || b) ≡ (c || d)
  both_or a b c d e f = cc

  pub gathers_more : (a b c : Built) (x : Part) (xs : List Part) → AreBeside a b c → IsBuiltPart o a x → Gathers o b xs → Gathers o c (x ∷ xs)
  gathers_more a b c x xs s h g = record {
    share = (
      (λ n k l. s.apart (n, sym (h.nodes n) ∙ k, sym (g.nodes n) ∙ l)),
      (λ w k l. s.apart_links (w, sym (h.links w) ∙ k, sym (g.links w) ∙ l)),
      g.share,
    );
    nodes = λ n. both_or (x.nodes n) (nodes_of xs n) (has_node a n) (has_node b n) (h.nodes n) (g.nodes n) ∙ sym (s.nodes n);
    links = λ w. both_or (x.links w) (links_of xs w) (has_link a w) (has_link b w) (h.links w) (g.links w) ∙ sym (s.links w);
    ends = λ w p q e.
        let u = (h.ends w p q e).0 in
        let u' = (h.ends w p q e).1 in
        let v = (g.ends w p q e).0 in
        let v' = (g.ends w p q e).1 in
        let t = (s.ends w).0 in
        let t' = (s.ends w).1 in
        (omega arith, omega arith);
  }

  pub share_none : (a b : Built) (x : Part) (xs : List Part) → ShareOne a b → IsBuiltPart o a x → Gathers o b xs → ShareNothing (x ∷ xs) → ⊥
  share_none a b x xs (inl s) h g n = n.0 s.0 (h.nodes s.0 ∙ s.1) (g.nodes s.0 ∙ s.2)
  share_none a b x xs (inr s) h g n = n.1 s.0 (h.links s.0 ∙ s.1) (g.links s.0 ∙ s.2)

  pub made_mix : (i j : ℕ) (b : Built) (xs : List Part) → Gathers o b xs → (x : Part) → MakesPart o (Mix i j) xs x ↔ IsBuiltPart o b x
  made_mix i j b xs h x =
      let R : ℕ → OpenPoint → OpenPoint → ℕ → Type 0 = λ w p q e. e ≡ ends_of xs q in
      let f : AtWires R b = λ w p q g. (sym (h.ends w p q g).0, sym (h.ends w p q g).1) in (
        (λ m. record {
          nodes = λ n. m.nodes n ∙ h.nodes n;
          links = λ w. m.links w ∙ h.links w;
          ends = at_wires R b x (λ w p q e f g k. g ∙ sym k) f m.joins;
        }),
        λ k. record {
          apart = h.share;
          nodes = λ n. k.nodes n ∙ sym (h.nodes n);
          links = λ w. k.links w ∙ sym (h.links w);
          joins = at_points R b x f k;
        },
      )

  -- one end less for both points of the wire
  pub record IsLess (v : ℕ) (b c : Built) : Type 0 where
    pub nodes : c.nodes ≡ b.nodes
    pub links : c.links ≡ b.links
    pub ends : (w : ℕ) → (first_ends c w + one_if w v ≡ first_ends b w) × (second_ends c w + one_if w v ≡ second_ends b w)

  pub made_cut : (v i j : ℕ) (b c : Built) (y z : Part) → IsCut o v y z → Gathers o b (y ∷ z ∷ []) → IsLess v b c → (x : Part) → MakesPart o (Cut v i j) (y ∷ z ∷ []) x ↔ IsBuiltPart o c x
  made_cut v i j b c y z is h l x =
      let R : ℕ → OpenPoint → OpenPoint → ℕ → Type 0 = λ w p q e. e + one_if w v ≡ y.ends q + z.ends q in
      let f : AtWires R c = λ w p q g.
      let u = (h.ends w p q g).0 in
      let u' = (h.ends w p q g).1 in
      let t = (l.ends w).0 in
      let t' = (l.ends w).1 in
      (omega arith, omega arith) in
      let nodes : (n : ℕ) → nodes_of (y ∷ z ∷ []) n ≡ has_node c n = λ n. subst (λ s. nodes_of (y ∷ z ∷ []) n ≡ nodes_in s n) (sym l.nodes) (h.nodes n) in
      let links : (n : ℕ) → links_of (y ∷ z ∷ []) n ≡ has_link c n = λ n. subst (λ s. links_of (y ∷ z ∷ []) n ≡ nodes_in s n) (sym l.links) (h.links n) in (
        (λ m. record {
          nodes = λ n. m.nodes n ∙ nodes n;
          links = λ w. m.links w ∙ links w;
          ends = at_wires R c x (λ w p q e f g k. omega arith) f m.joins.1;
        }),
        λ k. record {
          apart = h.share;
          nodes = λ n. k.nodes n ∙ sym (nodes n);
          links = λ w. k.links w ∙ sym (links w);
          joins = (is, at_points R c x f k);
        },
      )

  -- a cut is a joint
  pub cut_joint : (v : ℕ) (a b : Built) (y z : Part) → IsBuiltPart o a y → IsBuiltPart o b z → IsCut o v y z → IsJoint o v a b
  cut_joint v a b y z h k c = go c.wire
    where
      go : IsWire o v c.p c.q → IsJoint o v a b
      go (inl e) = (
        c.p,
        c.q,
        e,
        inl (
          sym (port_same y.nodes (has_node a) c.p h.nodes) ∙ c.own,
          (let u = (h.ends v c.p c.q e).1 in let f = c.first in omega arith),
          (let u = (k.ends v c.p c.q e).0 in let f = c.second in omega arith),
        ),
      )
      go (inr e) = (
        c.q,
        c.p,
        e,
        inr (
          sym (port_same y.nodes (has_node a) c.p h.nodes) ∙ c.own,
          (let u = (h.ends v c.q c.p e).0 in let f = c.first in omega arith),
          (let u = (k.ends v c.q c.p e).1 in let f = c.second in omega arith),
        ),
      )

  pub joint_cut : (v : ℕ) (a b : Built) (y z : Part) → IsBuiltPart o a y → IsBuiltPart o b z → IsJoint o v a b → IsCut o v y z
  joint_cut v a b y z h k (p, q, e, inl j) = record {
    p = p;
    q = q;
    wire = inl e;
    own = port_same y.nodes (has_node a) p h.nodes ∙ j.0;
    first = let u = (h.ends v p q e).1 in let f = j.1 in omega arith;
    second = let u = (k.ends v p q e).0 in let f = j.2 in omega arith;
  }
  joint_cut v a b y z h k (p, q, e, inr j) = record {
    p = q;
    q = p;
    wire = inr e;
    own = port_same y.nodes (has_node a) q h.nodes ∙ j.0;
    first = let u = (h.ends v p q e).0 in let f = j.1 in omega arith;
    second = let u = (k.ends v p q e).1 in let f = j.2 in omega arith;
  }

  -- ---- the nets that the code builds

  pub link_alone : (v : ℕ) (b : Built) (ls : List Bool) (es : List (ℕ × ℕ)) → IsNothing o b → v < length o.wires → ls ≡ set b.links v true → es ≡ set b.ends v (1, 1) → OnAlone o (Link v) (Some (record { nodes = b.nodes; links = ls; ends = es }))
  link_alone v b ls es h l e f =
      let c : Built = record { nodes = b.nodes; links = ls; ends = es } in
      let w = at_index o.wires v l in
      let is : IsLink v c = record {
        nodes = h.nodes;
        links = λ w. ap (λ z. nodes_in z w) e ∙ elim (same_nat w v) [
          | inl g ↦ at_set b.links v true false w (let z = h.sized.links in omega arith) g ∙ sym (eq-eqb w v g)
          | inr g ↦ at_other b.links v true false w g ∙ h.links w ∙ sym (ne_eqb w v g)
        ];
        ends = λ w. elim (same_nat w v) [
          | inl g ↦
              let z : ends_at es w ≡ (1, 1) = ap (λ z. ends_at z w) f ∙ at_set b.ends v (1, 1) (0, 0) w (let z = h.sized.ends in omega arith) g in
              (ap (λ z. z.0) z ∙ sym (one_same w v g), ap (λ z. z.1) z ∙ sym (one_same w v g))
          | inr g ↦
              let z : ends_at es w ≡ (0, 0) = ap (λ z. ends_at z w) f ∙ at_other b.ends v (1, 1) (0, 0) w g ∙ h.ends w in
              (ap (λ z. z.0) z ∙ sym (one_other w v g), ap (λ z. z.1) z ∙ sym (one_other w v g))
        ];
      } in (
        record {
          nodes = h.sized.nodes;
          links = ap length e ∙ length-set b.links v true ∙ h.sized.links;
          ends = ap length f ∙ length-set b.ends v (1, 1) ∙ h.sized.ends;
        },
        made_link v c (w.0.0, w.0.1, inl w.1) is,
        (λ n. ap (λ z. cond z 1 0) (h.nodes n)),
      )

  pub link_refused : (v : ℕ) → length o.wires ≤ v → (x : Part) → MakesPart o (Link v) [] x → ⊥
  link_refused v l x m = let j = m.joins.0 in let w = wire_within o v j.0 j.1 j.2 in omega arith

  pub set_node : (b : Built) (n : ℕ) (ns : List Bool) → n < length b.nodes → ns ≡ set b.nodes n true → (m : ℕ) → nodes_in ns m ≡ (nat_eq m n || has_node b m)
  set_node b n ns l e m = ap (λ z. nodes_in z m) e ∙ elim (same_nat m n) [
    | inl g ↦ at_set b.nodes n true false m l g ∙ sym (or_left (nat_eq m n) (has_node b m) (eq-eqb m n g))
    | inr g ↦ at_other b.nodes n true false m g ∙ ap (λ z. z || has_node b m) (sym (ne_eqb m n g))
  ]

  pub given_alone : (n : ℕ) (b : Built) (ns : List Bool) (es : List (ℕ × ℕ)) → IsNothing o b → IsClass o n → n < length o.nodes → ns ≡ set b.nodes n true → length es ≡ length b.ends → IsLed o (nodes_in ns) es (length o.wires) → OnAlone o (Given n) (Some (record { nodes = ns; links = b.links; ends = es }))
  given_alone n b ns es h class l e f led =
      let c : Built = record { nodes = ns; links = b.links; ends = es } in
      let nodes : (m : ℕ) → nodes_in ns m ≡ nat_eq m n = λ m. set_node b n ns (let z = h.sized.nodes in omega arith) e m ∙ ap (λ z. nat_eq m n || z) (h.nodes m) ∙ or_none (nat_eq m n) in (
        record {
          nodes = ap length e ∙ length-set b.nodes n true ∙ h.sized.nodes;
          links = h.sized.links;
          ends = f ∙ h.sized.ends;
        },
        made_given n c class (record { nodes = nodes; links = h.links; led = led }) (λ w p q g. slice_get_within o.wires w (p, q) g),
        (λ m. elim (same_nat m n) [
          | inl g ↦ let z : in_one c m ≡ 1 = ap (λ z. cond z 1 0) (nodes m ∙ eq-eqb m n g) in let y = one_same m n g in omega arith
          | inr g ↦ let z : in_one c m ≡ 0 = ap (λ z. cond z 1 0) (nodes m ∙ ne_eqb m n g) in let y = one_other m n g in omega arith
        ]),
      )

  pub beside_counted : (a b c : Built) → AreBeside a b c → (m : ℕ) → in_one c m ≡ in_one a m + in_one b m
  beside_counted a b c h m = go (has_node a m) (has_node b m) refl refl
    where
      go : (d e : Bool) → has_node a m ≡ d → has_node b m ≡ e → in_one c m ≡ in_one a m + in_one b m
      go true true d e = absurd (h.apart (m, d, e))
      go true false d e = let f : has_node c m ≡ true = h.nodes m ∙ or_left (has_node a m) (has_node b m) d in rw (d, e, f) refl
      go false true d e = let f : has_node c m ≡ true = h.nodes m ∙ or_right (has_node a m) (has_node b m) e in rw (d, e, f) refl
      go false false d e = let f : has_node c m ≡ false = h.nodes m ∙ cc in rw (d, e, f) refl

  pub mix_pair : (a b c : Built) → AreBeside a b c → IsSizedBuilt o c → OnPair o Mix a b (Some c)
  mix_pair a b c h s = (
    s,
    (λ i j y z x k g. made_mix i j c (y ∷ z ∷ []) (gathers_more a b c y (z ∷ []) h k (gathers_one b z g)) x),
    beside_counted a b c h,
  )

  pub mix_refused : (a b : Built) → ShareOne a b → OnPair o Mix a b None
  mix_refused a b s i j y z x k g m = share_none a b y (z ∷ []) s k (gathers_one b z g) m.apart

  pub cut_refused : (v : ℕ) (a b : Built) → ShareOne a b → OnPair o (Cut v) a b None
  cut_refused v a b s i j y z x k g m = share_none a b y (z ∷ []) s k (gathers_one b z g) m.apart

  pub joint_refused : (v : ℕ) (a b : Built) → (IsJoint o v a b → ⊥) → OnPair o (Cut v) a b None
  joint_refused v a b s i j y z x k g m = s (cut_joint v a b y z k g m.joins.0)

  pub cut_past : (v : ℕ) (a b : Built) → length o.wires ≤ v → OnPair o (Cut v) a b None
  cut_past v a b l i j y z x k g m = let c = m.joins.0 in let w = wire_within o v c.p c.q c.wire in omega arith

  -- at a joint there is an end for both points
  pub joint_ends : (v : ℕ) (a b c : Built) → IsJoint o v a b → AreBeside a b c → (0 < first_ends c v) × (0 < second_ends c v)
  joint_ends v a b c (p, q, e, inl j) s = let t = (s.ends v).0 in let t' = (s.ends v).1 in let f = j.1 in let g = j.2 in (omega arith, omega arith)
  joint_ends v a b c (p, q, e, inr j) s = let t = (s.ends v).0 in let t' = (s.ends v).1 in let f = j.1 in let g = j.2 in (omega arith, omega arith)

  pub cut_pair : (v : ℕ) (a b d : Built) (es : List (ℕ × ℕ)) → v < length o.wires → IsJoint o v a b → AreBeside a b d → IsSizedBuilt o d → es ≡ set d.ends v (first_ends d v - 1, second_ends d v - 1) → OnPair o (Cut v) a b (Some (record { nodes = d.nodes; links = d.links; ends = es }))
  cut_pair v a b d es l j h s e =
      let c : Built = record { nodes = d.nodes; links = d.links; ends = es } in
      let some = joint_ends v a b d j h in
      let some0 = some.0 in
      let some1 = some.1 in
      let less : IsLess v d c = record {
        nodes = refl;
        links = refl;
        ends = λ w. elim (same_nat w v) [
          | inl g ↦
              let z : ends_at es w ≡ (first_ends d v - 1, second_ends d v - 1) = ap (λ z. ends_at z w) e ∙ at_set d.ends v (first_ends d v - 1, second_ends d v - 1) (0, 0) w (let z = s.ends in omega arith) g in
              let one = one_same w v g in
              let z0 : first_ends c w ≡ first_ends d v - 1 = ap (λ z. z.0) z in
              let z1 : second_ends c w ≡ second_ends d v - 1 = ap (λ z. z.1) z in
              let y0 : first_ends d w ≡ first_ends d v = ap (first_ends d) g in
              let y1 : second_ends d w ≡ second_ends d v = ap (second_ends d) g in
              (omega arith, omega arith)
          | inr g ↦
              let z : ends_at es w ≡ ends_at d.ends w = ap (λ z. ends_at z w) e ∙ at_other d.ends v (first_ends d v - 1, second_ends d v - 1) (0, 0) w g in
              let one = one_other w v g in
              let z0 : first_ends c w ≡ first_ends d w = ap (λ z. z.0) z in
              let z1 : second_ends c w ≡ second_ends d w = ap (λ z. z.1) z in
              (omega arith, omega arith)
        ];
      } in (
        record {
          nodes = s.nodes;
          links = s.links;
          ends = ap length e ∙ length-set d.ends v (first_ends d v - 1, second_ends d v - 1) ∙ s.ends;
        },
        (λ i k y z x f g. made_cut v i k d c y z (joint_cut v a b y z f g j) (gathers_more a b d y (z ∷ []) h f (gathers_one b z g)) less x),
        beside_counted a b d h,
      )

  pub joint_at : (w : ℕ) (a b : Built) (v : OpenPoint × OpenPoint) → slice_get o.wires w ≡ Some v → IsJoint o w a b → IsFrom a.nodes v.0 (second_ends a w) (first_ends b w) ⊎ IsFrom a.nodes v.1 (first_ends a w) (second_ends b w)
  joint_at w a b v h (p, q, e, j) =
      let s : ◌≡◌ {A = OpenPoint × OpenPoint} (p, q) v = some_same (slice_get o.wires w) (p, q) v e h in
      subst (λ z. IsFrom a.nodes z.0 (second_ends a w) (first_ends b w) ⊎ IsFrom a.nodes z.1 (first_ends a w) (second_ends b w)) s j
