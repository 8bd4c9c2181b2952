-- A net that a step builds is built by the constructions, if its open ends lead out of it.
use Rattle.std.proofs.Common.{◌≡◌, ◌≢◌, ◌⊎◌, ◌<◌, ◌+◌, ℕ, zero, suc, Bool, true, false, cond, ◌||◌, nat_eq, Option, Some, None, IsSomeAnd, List, [], ◌∷◌, slice_get, refl, sym, subst, ap, inl, inr, ◌∙◌, eq-eqb, eqb-true, arith}
use mathlib.Core.Path.{fun_ext}
use Rattle.std.proofs.lemmas.Bool.Decides.{eqb_tells}
use Rattle.in_open_nets.specs.declared.open_nets.OpenPoint.{OpenPoint}
use Rattle.in_open_nets.specs.declared.open_nets.OpenPoint.TheVariants.{Port, Free}
use Rattle.std.proofs.lemmas.Option.{slice_get_within}
use Rattle.in_open_nets.specs.Constructions.{IsIn, AreParts, numbered, IsGraft, Built, empty, given, mix, cut, graft}
use Rattle.in_open_nets.specs.declared.open_nets.Node.{Node}
use Rattle.in_open_nets.specs.declared.open_nets.Node.TheVariants.{AgentNode, ClassNode}
use Rattle.in_open_nets.specs.declared.open_nets.OpenNode.{OpenNode}
use Rattle.in_open_nets.specs.OpenNets.{classes_of, OpenNet, IsAgentNode, IsClassNode, IsAgent, IsClass, class_in, IsWire, IsOpenNet, open_graph}
use Rattle.in_open_nets.specs.Derivations.{Step, Empty, Link, Given, Graft, Cut, Mix, Part, named, own_nodes, one_if, is_port_in, is_principal, is_auxiliary, is_among, nodes_of, ends_of, ShareNothing, AreEarlier, IsCut, IsGrafted, Joins}
use Rattle.in_base.proofs.Places.{some_same}
use Rattle.in_open_nets.proofs.PartsOf.Sums.{not_both, same_test, port_yes, port_no, port_own, other_port, auxiliary_most, principal_one, one_same, one_other, in_nodes_of, of_nodes, ends_most, ends_two, parts_apart, both_left, both_right}
use Rattle.in_open_nets.proofs.Built.Balance.{wire_turn, IsBalanced, AllBalanced, all_nodes}
use Rattle.std.proofs.lemmas.Bool.{or_cases, or_left, or_right, cases_Bool, false_from_ne_true, or_parts, and_from}
use Rattle.in_base.proofs.Each.{at_index}

pub class_no_agent : (m : Option OpenNode) → IsSomeAnd m IsClassNode → IsSomeAnd m IsAgentNode → ⊥
class_no_agent None h k = h
class_no_agent (Some m) h k = go m.node h k
  where
    go : (n : Node) → elim n as (λ _. Type 0) [ AgentNode y ↦ ⊥ | ClassNode y c ↦ Unit {0} ] → elim n as (λ _. Type 0) [ AgentNode y ↦ Unit {0} | ClassNode y c ↦ ⊥ ] → ⊥
    go (AgentNode y) h k = h
    go (ClassNode y c) h k = k

-- two points of one wire
pub wire_points : (o : OpenNet) (w : ℕ) (p q r s : OpenPoint) → IsWire o w p q → IsWire o w r s → ((r ≡ p) × (s ≡ q)) ⊎ ((r ≡ q) × (s ≡ p))
wire_points o w p q r s (inl h) (inl k) = let e = some_same (slice_get o.wires w) (p, q) (r, s) h k in inl (sym (ap (λ z. z.0) e), sym (ap (λ z. z.1) e))
wire_points o w p q r s (inl h) (inr k) = let e = some_same (slice_get o.wires w) (p, q) (s, r) h k in inr (sym (ap (λ z. z.1) e), sym (ap (λ z. z.0) e))
wire_points o w p q r s (inr h) (inl k) = let e = some_same (slice_get o.wires w) (q, p) (r, s) h k in inr (sym (ap (λ z. z.0) e), sym (ap (λ z. z.1) e))
wire_points o w p q r s (inr h) (inr k) = let e = some_same (slice_get o.wires w) (q, p) (s, r) h k in inl (sym (ap (λ z. z.1) e), sym (ap (λ z. z.0) e))

pub port_place : (n m i j : ℕ) → ◌≡◌ {A = OpenPoint} (Port n i) (Port m j) → (n ≡ m) × (i ≡ j)
port_place n m i j e = let a : n ≡ m = cc in let b : i ≡ j = cc in (a, b)

-- whether a point is a port in s
find_port : (s : ℕ → Bool) (q : OpenPoint) → ((m : ℕ) × (j : ℕ) × (q ≡ Port m j) × IsIn m s) ⊎ ((m j : ℕ) → q ≡ Port m j → IsIn m s → ⊥)
find_port s (Port m j) = elim (cases_Bool (s m)) [ inl h ↦ inl (m, j, refl, h) | inr h ↦ inr (λ n i e k. not_both (s m) (subst (λ z. IsIn z s) (sym (port_place m n j i e).0) k) h) ]
find_port s (Free k) = inr (λ n i e h. let e' : ◌≡◌ {A = OpenPoint} (Free k) (Port n i) = e in cc)

-- the number of the first part with the node, counted from c on; 0 if there is none
abbrev part_from : ℕ → List Part → ℕ → ℕ
part_from c [] m = 0
part_from c (x ∷ xs) m = cond (x.nodes m) c (part_from (suc c) xs m)

part_in : (c : ℕ) (xs : List Part) (i : ℕ) (x : Part) (m : ℕ) → ShareNothing xs → slice_get xs i ≡ Some x → IsIn m x.nodes → part_from c xs m ≡ c + i
part_in c [] i x m s h k = cc
part_in c (y ∷ ys) zero x m s h k = let e : y.nodes m ≡ true = subst (λ z. IsIn m z.nodes) (sym (some_same (Some y) y x refl h)) k in rw e (omega arith)
part_in c (y ∷ ys) (suc i) x m s h k =
    let e : y.nodes m ≡ false = false_from_ne_true (y.nodes m) (λ t. s.0 m t (in_nodes_of ys i x m h k)) in
    let r = part_in (suc c) ys i x m s.2 h k in
    rw e (r ∙ omega arith)

part_none : (c : ℕ) (xs : List Part) (m : ℕ) → nodes_of xs m ≡ false → part_from c xs m ≡ 0
part_none c [] m h = refl
part_none c (x ∷ xs) m h =
    let e = or_parts (x.nodes m) (nodes_of xs m) h in
    let r = part_none (suc c) xs m e.1 in
    let e0 : x.nodes m ≡ false = e.0 in
    rw e0 r

module _ (o : OpenNet) (net : IsOpenNet o) where
  -- no wire with both points in it is still open
  abbrev pub IsClean : Part → Type 0
  IsClean x = (w l i m j : ℕ) → IsWire o w (Port l i) (Port m j) → IsIn l x.nodes → IsIn m x.nodes → x.ends (Port m j) ≡ 0

  abbrev pub IsGood : Part → Type 0
  IsGood x = IsBalanced o x.ends x.nodes × (IsClean x → Built (open_graph o) (IsAgent o) (classes_of o) x.nodes)

  abbrev pub AllGood : List Part → Type 0
  AllGood [] = Unit {0}
  AllGood (x ∷ xs) = IsGood x × AllGood xs

  pub all_balanced : (xs : List Part) → AllGood xs → AllBalanced o xs
  all_balanced [] h = tt
  all_balanced (x ∷ xs) h = (h.0.0, all_balanced xs h.1)

  good_at : (xs : List Part) (i : ℕ) (x : Part) → AllGood xs → slice_get xs i ≡ Some x → IsGood x
  good_at [] i x h e = cc
  good_at (y ∷ ys) zero x h e = subst IsGood (some_same (Some y) y x refl e) h.0
  good_at (y ∷ ys) (suc i) x h e = good_at ys i x h.1 e

  -- a wire that leads out is an open end
  leads_out : (x : Part) → IsBalanced o x.ends x.nodes → (w l i m j : ℕ) → IsWire o w (Port l i) (Port m j) → IsIn l x.nodes → x.nodes m ≡ false → 0 < x.ends (Port m j)
  leads_out x b w l i m j h k n =
      let e = b w (Port l i) (Port m j) h in
      let f = port_yes x.nodes l i k in
      let g = port_no x.nodes m j n in
      omega arith

  -- two parts side by side
  two_parts : (x y z : Part) → ShareNothing (y ∷ z ∷ []) → ((n : ℕ) → x.nodes n ≡ nodes_of (y ∷ z ∷ []) n) → AreParts x.nodes y.nodes z.nodes
  two_parts x y z s nodes n = (
    (
      (λ h. elim (or_cases (y.nodes n) (z.nodes n || false) (sym (nodes n) ∙ h)) [ inl k ↦ inl k | inr k ↦ elim (or_cases (z.nodes n) false k) [ inl u ↦ inr u | inr u ↦ cc ] ]),
      λ h. nodes n ∙ elim h [ inl k ↦ or_left (y.nodes n) (z.nodes n || false) k | inr k ↦ or_right (y.nodes n) (z.nodes n || false) (or_left (z.nodes n) false k) ],
    ),
    λ h k. s.0 n h (or_left (z.nodes n) false k),
  )

  module _ (x y z : Part) (s : ShareNothing (y ∷ z ∷ [])) (nodes : (n : ℕ) → x.nodes n ≡ nodes_of (y ∷ z ∷ []) n) (gy : IsGood y) (gz : IsGood z) where
    parts : AreParts x.nodes y.nodes z.nodes
    parts = two_parts x y z s nodes

    not_z : (n : ℕ) → IsIn n y.nodes → z.nodes n ≡ false
    not_z n h = false_from_ne_true (z.nodes n) (λ k. (parts n).1 h k)

    not_y : (n : ℕ) → IsIn n z.nodes → y.nodes n ≡ false
    not_y n h = false_from_ne_true (y.nodes n) (λ k. (parts n).1 k h)

    mix_good : ((w : ℕ) (p q : OpenPoint) → IsWire o w p q → x.ends q ≡ ends_of (y ∷ z ∷ []) q) → IsClean x → Built (open_graph o) (IsAgent o) (classes_of o) x.nodes
    mix_good join clean = mix x.nodes y.nodes z.nodes parts
        (λ u v w ha hb.
        let e = clean w.0 u.0 u.1 v.0 v.1 w.1 ((parts u.0).0.1 (inl ha)) ((parts v.0).0.1 (inr hb)) in
        let f = join w.0 (Port u.0 u.1) (Port v.0 v.1) w.1 in
        let g = leads_out y gy.0 w.0 u.0 u.1 v.0 v.1 w.1 ha (not_y v.0 hb) in
        omega arith)
        (gy.1 (λ w l i m j h a b.
        let e = clean w l i m j h ((parts l).0.1 (inl a)) ((parts m).0.1 (inl b)) in
        let f = join w (Port l i) (Port m j) h in
        omega arith))
        (gz.1 (λ w l i m j h a b.
        let e = clean w l i m j h ((parts l).0.1 (inr a)) ((parts m).0.1 (inr b)) in
        let f = join w (Port l i) (Port m j) h in
        omega arith))

    module _ (v : ℕ) (c : IsCut o v y z) (join : (w : ℕ) (p q : OpenPoint) → IsWire o w p q → x.ends q + one_if w v ≡ y.ends q + z.ends q) (clean : IsClean x) where
      -- the one wire between the two
      only : (w l i m j : ℕ) → IsWire o w (Port l i) (Port m j) → IsIn l y.nodes → IsIn m z.nodes → (Port l i ≡ c.p) × (Port m j ≡ c.q)
      only w l i m j h a b =
          let e = clean w l i m j h ((parts l).0.1 (inl a)) ((parts m).0.1 (inr b)) in
          let f = join w (Port l i) (Port m j) h in
          let g = leads_out y gy.0 w l i m j h a (not_y m b) in
          elim (eqb_tells w v) [
            | inl t ↦ elim (wire_points o v c.p c.q (Port l i) (Port m j) c.wire (subst (λ k. IsWire o k (Port l i) (Port m j)) t.1 h)) [
              | inl r ↦ r
              | inr r ↦
                  let q = port_yes z.nodes m j b in
                  let o' = port_own y.nodes c.p c.own in
                  let same = port_place m o'.0 j o'.1 (r.1 ∙ o'.2) in
                  absurd ((parts m).1 (subst (λ k. IsIn k y.nodes) (sym same.0) o'.3) b)
            ]
            | inr t ↦ let k = one_other w v t.1 in absurd (omega arith)
          ]

      clean_y : IsClean y
      clean_y w l i m j h a b =
          let e = clean w l i m j h ((parts l).0.1 (inl a)) ((parts m).0.1 (inl b)) in
          let f = join w (Port l i) (Port m j) h in
          elim (eqb_tells w v) [
            | inl t ↦
                let one = one_same w v t.1 in
                let zl = port_no z.nodes l i (not_z l a) in
                let zm = port_no z.nodes m j (not_z m b) in
                let bal = gz.0 w (Port l i) (Port m j) h in
                elim (wire_points o v c.p c.q (Port l i) (Port m j) c.wire (subst (λ k. IsWire o k (Port l i) (Port m j)) t.1 h)) [
                  | inl r ↦ let second : 0 < z.ends (Port l i) = subst (λ k. 0 < z.ends k) (sym r.0) c.second in omega arith
                  | inr r ↦ let second : 0 < z.ends (Port m j) = subst (λ k. 0 < z.ends k) (sym r.1) c.second in omega arith
                ]
            | inr t ↦ let k = one_other w v t.1 in omega arith
          ]

      clean_z : IsClean z
      clean_z w l i m j h a b =
          let e = clean w l i m j h ((parts l).0.1 (inr a)) ((parts m).0.1 (inr b)) in
          let f = join w (Port l i) (Port m j) h in
          let o' = port_own y.nodes c.p c.own in
          elim (eqb_tells w v) [
            | inl t ↦ elim (wire_points o v c.p c.q (Port l i) (Port m j) c.wire (subst (λ k. IsWire o k (Port l i) (Port m j)) t.1 h)) [
              | inl r ↦ absurd ((parts l).1 (subst (λ k. IsIn k y.nodes) (sym (port_place l o'.0 i o'.1 (r.0 ∙ o'.2)).0) o'.3) a)
              | inr r ↦ absurd ((parts m).1 (subst (λ k. IsIn k y.nodes) (sym (port_place m o'.0 j o'.1 (r.1 ∙ o'.2)).0) o'.3) b)
            ]
            | inr t ↦ let k = one_other w v t.1 in omega arith
          ]

      cut_good : Built (open_graph o) (IsAgent o) (classes_of o) x.nodes
      cut_good = go (find_port z.nodes c.q)
        where
          go : ((m : ℕ) × (j : ℕ) × (c.q ≡ Port m j) × IsIn m z.nodes) ⊎ ((m j : ℕ) → c.q ≡ Port m j → IsIn m z.nodes → ⊥) → Built (open_graph o) (IsAgent o) (classes_of o) x.nodes
          go (inl f) =
              let l = port_own y.nodes c.p c.own in
              let w : IsWire o v (Port l.0 l.1) (Port f.0 f.1) = subst (λ k. IsWire o v k (Port f.0 f.1)) l.2 (subst (λ k. IsWire o v c.p k) f.2 c.wire) in
              cut x.nodes y.nodes z.nodes (l.0, l.1) (f.0, f.1) parts (v, w) l.3 f.3
              (λ r s u a b.
              let e = only u.0 r.0 r.1 s.0 s.1 u.1 a b in
              let d = port_place r.0 l.0 r.1 l.1 (e.0 ∙ l.2) in
              let d' = port_place s.0 f.0 s.1 f.1 (e.1 ∙ f.2) in
              (pair_same r (l.0, l.1) d.0 d.1, pair_same s (f.0, f.1) d'.0 d'.1))
              (gy.1 clean_y) (gz.1 clean_z)
            where
              pair_same : (r s : ℕ × ℕ) → r.0 ≡ s.0 → r.1 ≡ s.1 → r ≡ s
              pair_same (a, b) (c, d) e f = cc
          go (inr none) = mix x.nodes y.nodes z.nodes parts (λ r s u a b. none s.0 s.1 (sym (only u.0 r.0 r.1 s.0 s.1 u.1 a b).1) b) (gy.1 clean_y) (gz.1 clean_z)

  module _ (n : ℕ) (xs : List Part) (x : Part) (s : ShareNothing xs) (good : AllGood xs) (r : IsGrafted o n xs) (fresh : nodes_of xs n ≡ false) (nodes : (m : ℕ) → x.nodes m ≡ ((nat_eq m n || false) || nodes_of xs m)) (join : (w : ℕ) (p q : OpenPoint) → IsWire o w p q → x.ends q + is_auxiliary n q ≡ ends_of xs q + is_principal n p) (clean : IsClean x) where
    abbrev part : ℕ → ℕ
    part m = part_from 1 xs m

    root : IsIn n x.nodes
    root = nodes n ∙ or_left (nat_eq n n || false) (nodes_of xs n) (or_left (nat_eq n n) false (eq-eqb n n refl))

    inner : (m : ℕ) → IsIn m (nodes_of xs) → IsIn m x.nodes
    inner m h = nodes m ∙ or_right (nat_eq m n || false) (nodes_of xs m) h

    other : (m : ℕ) → IsIn m x.nodes → m ≢ n → IsIn m (nodes_of xs)
    other m h d = elim (or_cases (nat_eq m n || false) (nodes_of xs m) (sym (nodes m) ∙ h)) [
      | inl k ↦ elim (or_cases (nat_eq m n) false k) [ inl e ↦ absurd (d (eqb-true m n e)) | inr e ↦ cc ]
      | inr k ↦ k
    ]

    not_root : (i m : ℕ) (y : Part) → slice_get xs i ≡ Some y → IsIn m y.nodes → m ≢ n
    not_root i m y h k e = not_both (nodes_of xs n) (subst (λ z. IsIn z (nodes_of xs)) e (in_nodes_of xs i y m h k)) fresh

    no_root : (i : ℕ) (y : Part) → slice_get xs i ≡ Some y → y.nodes n ≡ false
    no_root i y h = false_from_ne_true (y.nodes n) (λ k. not_root i n y h k refl)

    -- the part of a port's class has an end for it
    has_end : (w i c : ℕ) (q : OpenPoint) → IsWire o w (Port n i) q → class_in o n i ≡ suc c → (y : Part) × (slice_get xs c ≡ Some y) × (0 < y.ends (Port n i))
    has_end w i c q h e =
        let most = net.classes n i r.agent (net.points w (Port n i) q h) in
        let many = r.many in
        let y = at_index xs c (omega arith) in
        (y.0, y.1, r.each w i c q y.0 h e y.1)

    -- a class of n, or its principal port
    class_cases : (w i : ℕ) (q : OpenPoint) → IsWire o w (Port n i) q → ((i ≡ 0) × (class_in o n i ≡ 0)) ⊎ ((i ≢ 0) × ((c : ℕ) × (class_in o n i ≡ suc c)))
    class_cases w i q h = go (class_in o n i) refl
      where
        go : (c : ℕ) → class_in o n i ≡ c → ((i ≡ 0) × (class_in o n i ≡ 0)) ⊎ ((i ≢ 0) × ((c : ℕ) × (class_in o n i ≡ suc c)))
        go zero e = inl ((net.principal n i r.agent (net.points w (Port n i) q h)).0 e, e)
        go (suc c) e = inr ((λ z. let k = (net.principal n i r.agent (net.points w (Port n i) q h)).1 z in omega arith), (c, e))

    -- a node of the part c that n's port i is wired to is in the net of the port's class
    to_class : (w i m j c : ℕ) (y : Part) → IsWire o w (Port n i) (Port m j) → slice_get xs c ≡ Some y → IsIn m y.nodes → class_in o n i ≡ suc c
    to_class w i m j c y h g k =
        let back = wire_turn o w (Port n i) (Port m j) h in
        let out = leads_out y (good_at xs c y good g).0 w m j n i back k (no_root c y g) in
        let most = ends_most xs c y (Port n i) g in
        let e = clean w m j n i back (inner m (in_nodes_of xs c y m g k)) root in
        let f = join w (Port m j) (Port n i) back in
        elim (class_cases w i (Port m j) h) [
          | inl t ↦
              let z : is_auxiliary n (Port n i) ≡ 0 = ap (λ i. is_auxiliary n (Port n i)) t.0 in
              absurd (omega arith)
          | inr t ↦ elim (eqb_tells t.1.0 c) [
            | inl u ↦ t.1.1 ∙ ap suc u.1
            | inr u ↦
                let d = has_end w i t.1.0 (Port m j) h t.1.1 in
                let two = ends_two xs t.1.0 c d.0 y (Port n i) u.1 d.1 g in
                let one = auxiliary_most n n i in
                let d2 = d.2 in
                absurd (omega arith)
          ]
        ]

    -- a wire between two parts
    within : (w l i m j c d : ℕ) (y z : Part) → IsWire o w (Port l i) (Port m j) → slice_get xs c ≡ Some y → IsIn l y.nodes → slice_get xs d ≡ Some z → IsIn m z.nodes → c ≡ d
    within w l i m j c d y z h g a k b = elim (eqb_tells c d) [
      | inl t ↦ t.1
      | inr t ↦
          let none = false_from_ne_true (y.nodes m) (λ u. t.1 (parts_apart xs s c d y z m g k u b)) in
          let out = leads_out y (good_at xs c y good g).0 w l i m j h a none in
          let most = ends_most xs c y (Port m j) g in
          let e = clean w l i m j h (inner l (in_nodes_of xs c y l g a)) (inner m (in_nodes_of xs d z m k b)) in
          let f = join w (Port l i) (Port m j) h in
          let z = other_port n m j (not_root d m z k b) in
          absurd (omega arith)
    ]

    -- a wire of n to itself
    own_class : (w i j : ℕ) → IsWire o w (Port n i) (Port n j) → class_in o n i ≡ class_in o n j
    own_class w i j h =
        let back = wire_turn o w (Port n i) (Port n j) h in
        let e = clean w n i n j h root root in
        let e' = clean w n j n i back root root in
        let f = join w (Port n i) (Port n j) h in
        let f' = join w (Port n j) (Port n i) back in
        elim (class_cases w i (Port n j) h) [
          | inl t ↦ elim (class_cases w j (Port n i) back) [
            | inl u ↦ t.1 ∙ sym u.1
            | inr u ↦
                let d = has_end w j u.1.0 (Port n i) back u.1.1 in
                let d2 = d.2 in
                let most = ends_most xs u.1.0 d.0 (Port n j) d.1 in
                let p : is_principal n (Port n i) ≡ 1 = ap (λ i. is_principal n (Port n i)) t.0 ∙ principal_one n in
                let one = auxiliary_most n n j in
                absurd (omega arith)
          ]
          | inr t ↦ elim (class_cases w j (Port n i) back) [
            | inl u ↦
                let d = has_end w i t.1.0 (Port n j) h t.1.1 in
                let d2 = d.2 in
                let most = ends_most xs t.1.0 d.0 (Port n i) d.1 in
                let p : is_principal n (Port n j) ≡ 1 = ap (λ i. is_principal n (Port n i)) u.0 ∙ principal_one n in
                let one = auxiliary_most n n i in
                absurd (omega arith)
            | inr u ↦ elim (eqb_tells t.1.0 u.1.0) [
              | inl v ↦ t.1.1 ∙ ap suc v.1 ∙ sym u.1.1
              | inr v ↦
                  let c = has_end w i t.1.0 (Port n j) h t.1.1 in
                  let d = has_end w j u.1.0 (Port n i) back u.1.1 in
                  let c2 = c.2 in
                  let d2 = d.2 in
                  let b = (good_at xs t.1.0 c.0 good c.1).0 w (Port n i) (Port n j) h in
                  let k = port_no c.0.nodes n i (no_root t.1.0 c.0 c.1) in
                  let k' = port_no c.0.nodes n j (no_root t.1.0 c.0 c.1) in
                  let two = ends_two xs t.1.0 u.1.0 c.0 d.0 (Port n j) v.1 c.1 d.1 in
                  let one = auxiliary_most n n j in
                  absurd (omega arith)
            ]
          ]
        ]

    clean_part : (c : ℕ) (y : Part) → slice_get xs c ≡ Some y → IsClean y
    clean_part c y g w l i m j h a b =
        let e = clean w l i m j h (inner l (in_nodes_of xs c y l g a)) (inner m (in_nodes_of xs c y m g b)) in
        let f = join w (Port l i) (Port m j) h in
        let z = other_port n m j (not_root c m y g b) in
        let most = ends_most xs c y (Port m j) g in
        omega arith

    part_at : (m c : ℕ) (y : Part) → slice_get xs c ≡ Some y → IsIn m y.nodes → part m ≡ suc c
    part_at m c y g h = part_in 1 xs c y m s g h ∙ omega arith

    is_graft : IsGraft (open_graph o) n (classes_of o n) x.nodes part
    is_graft = record {
      root = root;
      others = λ m h d. let f = of_nodes xs m (other m h d) in let e = part_at m f.0 f.1 f.2 f.3 in omega arith;
      most = λ m h d. let f = of_nodes xs m (other m h d) in let e = part_at m f.0 f.1 f.2 f.3 in let lt = slice_get_within xs f.0 f.1 f.2 in let many = r.many in omega arith;
      own = λ i j w. own_class w.0 i j w.1;
      to = λ i j m h d w. let f = of_nodes xs m (other m h d) in part_at m f.0 f.1 f.2 f.3 ∙ sym (to_class w.0 i m j f.0 f.1 w.1 f.2 f.3);
      among = λ l m i j h k d e w.
          let f = of_nodes xs l (other l h d) in
          let g = of_nodes xs m (other m k e) in
          part_at l f.0 f.1 f.2 f.3 ∙ ap suc (within w.0 l i m j f.0 g.0 f.1 g.1 w.1 f.2 f.3 g.2 g.3) ∙ sym (part_at m g.0 g.1 g.2 g.3);
    }

    -- the nodes numbered c are those of the part before c
    is_numbered : (c m : ℕ) → IsIn m (numbered x.nodes part (suc c)) → (y : Part) × (slice_get xs c ≡ Some y) × IsIn m y.nodes
    is_numbered c m h =
        let e = eqb-true (part m) (suc c) (both_right (x.nodes m) (nat_eq (part m) (suc c)) h) in
        let inside = both_left (x.nodes m) (nat_eq (part m) (suc c)) h in
        let there = other m inside (λ k. let z : part m ≡ 0 = part_none 1 xs m (subst (λ z. nodes_of xs z ≡ false) (sym k) fresh) in omega arith) in
        let f = of_nodes xs m there in
        let k : f.0 ≡ c = let u = part_at m f.0 f.1 f.2 f.3 in omega arith in
        (f.1, subst (λ z. slice_get xs z ≡ Some f.1) k f.2, f.3)

    nets : (c : ℕ) → 0 < c → Built (open_graph o) (IsAgent o) (classes_of o) (numbered x.nodes part c)
    nets zero h = absurd (omega arith)
    nets (suc c) h = go (slice_get xs c) refl
      where
        go : (y : Option Part) → slice_get xs c ≡ y → Built (open_graph o) (IsAgent o) (classes_of o) (numbered x.nodes part (suc c))
        go None e = empty (numbered x.nodes part (suc c)) (λ m. false_from_ne_true (numbered x.nodes part (suc c) m) (λ k. let f = is_numbered c m k in let g : slice_get xs c ≡ Some f.0 = f.1 in cc))
        go (Some y) e =
            let same : y.nodes ≡ numbered x.nodes part (suc c) = fun_ext (λ m. same_test (y.nodes m) (numbered x.nodes part (suc c) m)
            (λ k. and_from (x.nodes m) (nat_eq (part m) (suc c)) (inner m (in_nodes_of xs c y m e k)) (eq-eqb (part m) (suc c) (part_at m c y e k)))
            (λ k. let f = is_numbered c m k in subst (λ z. IsIn m z.nodes) (some_same (slice_get xs c) f.0 y f.1 e) f.2)) in
            subst (Built (open_graph o) (IsAgent o) (classes_of o)) same ((good_at xs c y good e).1 (clean_part c y e))

    graft_good : Built (open_graph o) (IsAgent o) (classes_of o) x.nodes
    graft_good = graft n x.nodes part r.agent is_graft (λ c some le. nets c some)

  given_good : (n : ℕ) (x : Part) → IsClass o n → ((m : ℕ) → x.nodes m ≡ ((nat_eq m n || false) || false)) → ((w : ℕ) (p q : OpenPoint) → IsWire o w p q → x.ends q ≡ is_port_in (λ m. nat_eq m n) p) → IsClean x → Built (open_graph o) (IsAgent o) (classes_of o) x.nodes
  given_good n x c nodes join clean = given n x.nodes (class_no_agent (slice_get o.nodes n) c) (λ m. (is_n m, λ e. here m (eq-eqb m n e)))
      (λ i j w.
      let e = clean w.0 n i n j w.1 (here n (eq-eqb n n refl)) (here n (eq-eqb n n refl)) in
      let f = join w.0 (Port n i) (Port n j) w.1 in
      let g = port_yes (λ m. nat_eq m n) n i (eq-eqb n n refl) in
      omega arith)
    where
      here : (m : ℕ) → nat_eq m n ≡ true → IsIn m x.nodes
      here m e = nodes m ∙ or_left (nat_eq m n || false) false (or_left (nat_eq m n) false e)

      is_n : (m : ℕ) → IsIn m x.nodes → m ≡ n
      is_n m h = elim (or_cases (nat_eq m n || false) false (sym (nodes m) ∙ h)) [
        | inl k ↦ elim (or_cases (nat_eq m n) false k) [ inl e ↦ eqb-true m n e | inr e ↦ cc ]
        | inr k ↦ cc
      ]

  -- a step's part is good if those that it names are
  pub step_good : (ps : List Part) (k : ℕ) (step : Step) (xs : List Part) (x : Part) → AreEarlier ps k (named step) xs → ShareNothing xs → AllGood xs → Joins o step xs x → ((n : ℕ) → is_among n (own_nodes step) ≡ true → nodes_of xs n ≡ false) → ((n : ℕ) → x.nodes n ≡ all_nodes o step xs n) → IsClean x → Built (open_graph o) (IsAgent o) (classes_of o) x.nodes
  step_good ps k Empty [] x e s b j fresh nodes clean = empty x.nodes nodes
  step_good ps k Empty (y ∷ ys) x e s b j fresh nodes clean = absurd e
  step_good ps k (Link l) [] x e s b j fresh nodes clean = empty x.nodes nodes
  step_good ps k (Link l) (y ∷ ys) x e s b j fresh nodes clean = absurd e
  step_good ps k (Given n) [] x e s b j fresh nodes clean = given_good n x j.0 nodes j.1 clean
  step_good ps k (Given n) (y ∷ ys) x e s b j fresh nodes clean = absurd e
  step_good ps k (Graft n is) xs x e s b j fresh nodes clean = graft_good n xs x s b j.0 (fresh n (or_left (nat_eq n n) false (eq-eqb n n refl))) nodes j.1 clean
  step_good ps k (Cut l c d) [] x e s b j fresh nodes clean = absurd e
  step_good ps k (Cut l c d) (y ∷ []) x e s b j fresh nodes clean = absurd j
  step_good ps k (Cut l c d) (y ∷ z ∷ []) x e s b j fresh nodes clean = cut_good x y z s nodes b.0 b.1.0 l j.0 j.1 clean
  step_good ps k (Cut l c d) (y ∷ z ∷ v ∷ vs) x e s b j fresh nodes clean = absurd e.2.2
  step_good ps k (Mix c d) [] x e s b j fresh nodes clean = absurd e
  step_good ps k (Mix c d) (y ∷ []) x e s b j fresh nodes clean = absurd e.2
  step_good ps k (Mix c d) (y ∷ z ∷ []) x e s b j fresh nodes clean = mix_good x y z s nodes b.0 b.1.0 j clean
  step_good ps k (Mix c d) (y ∷ z ∷ v ∷ vs) x e s b j fresh nodes clean = absurd e.2.2
