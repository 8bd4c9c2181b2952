-- Each set of nodes splits or has just one first stuck sub-net.
use Rattle.std.proofs.Common.{◌≡◌, ◌≢◌, ◌⊎◌, ◌<◌, ◌≤◌, ◌+◌, ℕ, zero, suc, Bool, true, false, cond, nat_eq, Option, Some, None, IsSomeAnd, length, slice_get, refl, sym, subst, inl, inr, ◌∙◌, arith}
use mathlib.Core.Path.{fun_ext}
use Rattle.std.proofs.lemmas.Bool.Decides.{eqb_tells}
use Rattle.in_open_nets.specs.declared.open_nets.OpenPoint.{OpenPoint}
use Rattle.in_open_nets.specs.declared.open_nets.OpenPoint.TheVariants.{Port, Free}
use Rattle.in_open_nets.specs.declared.open_nets.Node.{Node}
use Rattle.in_open_nets.specs.declared.open_nets.Node.TheVariants.{AgentNode, ClassNode}
use Rattle.in_open_nets.specs.Constructions.{IsIn}
pub use Rattle.in_open_nets.specs.Constructions.{count}
use Rattle.in_open_nets.specs.Splitting.{Linked, alone, Without, SplitsAt, IsFirstSplitting, IsComponent, Splits, none, first}
use Rattle.in_open_nets.specs.declared.open_nets.OpenNode.{OpenNode}
use Rattle.in_open_nets.specs.OpenNets.{OpenNet, class_in, IsWire, IsOpenNet, open_graph}
use Rattle.in_open_nets.specs.Stuck.{Touches, ports_of, turn, ComesAt, FirstStuck, whole, within}
use Rattle.in_open_nets.proofs.PartsOf.Sums.{not_both, same_test}
use Rattle.in_open_nets.proofs.Built.Sound.{port_place}
use Rattle.in_open_nets.proofs.Reached.Links.{Decided, same_nat, both_decided, either_decided, at_most, least, link_join, link_back, link_first, are_linked}
use Rattle.std.proofs.lemmas.Bool.{cases_Bool, false_from_ne_true}

pub each_below : (P : ℕ → Type 0) → ((i : ℕ) → Decided (P i)) → (b : ℕ) → Decided ((i : ℕ) → i < b → P i)
each_below P dec zero = inl (λ i l. absurd (omega arith))
each_below P dec (suc b) = go (dec b) (each_below P dec b)
  where
    go : Decided (P b) → Decided ((i : ℕ) → i < b → P i) → Decided ((i : ℕ) → i < suc b → P i)
    go (inl h) (inl all) = inl (λ i l. elim (same_nat i b) [ inl e ↦ subst P (sym e) h | inr d ↦ all i (omega arith) ])
    go (inl h) (inr nay) = inr (λ all. nay (λ i l. all i (omega arith)))
    go (inr nay) r = inr (λ all. nay (all b (omega arith)))

pub implied : {A B : Type 0} → Decided A → Decided B → Decided (A → B)
implied (inl a) (inl b) = inl (λ x. b)
implied (inl a) (inr b) = inr (λ f. b (f a))
implied (inr a) b = inl (λ x. absurd (a x))

pub denied : {A : Type 0} → Decided A → Decided (A → ⊥)
denied (inl a) = inr (λ f. f a)
denied (inr a) = inl a

pub is_in : (n : ℕ) (s : ℕ → Bool) → Decided (IsIn n s)
is_in n s = elim (cases_Bool (s n)) [ inl h ↦ inl h | inr h ↦ inr (λ k. not_both (s n) k h) ]

abbrev pub test : {A : Type 0} → Decided A → Bool
test (inl a) = true
test (inr a) = false

pub test_yes : {A : Type 0} (d : Decided A) → A → test d ≡ true
test_yes (inl a) x = refl
test_yes (inr a) x = absurd (a x)

pub test_is : {A : Type 0} (d : Decided A) → test d ≡ true → A
test_is (inl a) h = a
test_is (inr a) h = cc

one_more : (b c : Bool) → (c ≡ true → b ≡ true) → cond c 1 0 ≤ cond b 1 0
one_more true true f = omega arith
one_more true false f = omega arith
one_more false true f = let e = f refl in cc
one_more false false f = omega arith

count_most : (s c : ℕ → Bool) → ((n : ℕ) → IsIn n c → IsIn n s) → (b : ℕ) → count c b ≤ count s b
count_most s c f zero = omega arith
count_most s c f (suc b) = let r = count_most s c f b in let e = one_more (s b) (c b) (f b) in omega arith

pub count_less : (s c : ℕ → Bool) → ((n : ℕ) → IsIn n c → IsIn n s) → (m : ℕ) → IsIn m s → c m ≡ false → (b : ℕ) → m < b → count c b < count s b
count_less s c f m h k zero l = absurd (omega arith)
count_less s c f m h k (suc b) l = elim (same_nat m b) [
  | inl e ↦
      let r = count_most s c f b in
      let h' : s b ≡ true = subst (λ z. s z ≡ true) e h in
      let k' : c b ≡ false = subst (λ z. c z ≡ false) e k in
      let u : cond {A = ℕ} (s b) 1 0 ≡ 1 = rw h' refl in
      let v : cond {A = ℕ} (c b) 1 0 ≡ 0 = rw k' refl in
      omega arith
  | inr d ↦ let r = count_less s c f m h k b (omega arith) in let e = one_more (s b) (c b) (f b) in omega arith
]

ports_at : (i : ℕ) (m : Option OpenNode) → IsSomeAnd m (λ m. i < length m.class_of) → i < elim m [ None ↦ 0 | Some m ↦ length m.class_of ]
ports_at i None h = absurd h
ports_at i (Some m) h = h

pub at_ports : (i : ℕ) (m : Option OpenNode) → i < elim m [ None ↦ 0 | Some m ↦ length m.class_of ] → IsSomeAnd m (λ m. i < length m.class_of)
at_ports i None h = absurd (omega arith)
at_ports i (Some m) h = h

abbrev turn_in : Option OpenNode → ℕ → ℕ
turn_in m i = elim m [ None ↦ i | Some m ↦ elim m.node [ AgentNode y ↦ cond (nat_eq i 0) (length m.class_of) i | ClassNode y c ↦ i ] ]

abbrev name_turn : ℕ → Node → ℕ → ℕ
name_turn a c i = elim c [ AgentNode y ↦ cond (nat_eq i 0) a i | ClassNode y c ↦ i ]

pub turn_cases : (i a : ℕ) → ((i ≡ 0) × (cond (nat_eq i 0) a i ≡ a)) ⊎ ((i ≢ 0) × (cond (nat_eq i 0) a i ≡ i))
turn_cases i a = elim (eqb_tells i 0) [
  | inl h ↦ let e : nat_eq i 0 ≡ true = h.0 in inl (h.1, rw e refl)
  | inr h ↦ let e : nat_eq i 0 ≡ false = h.0 in inr (h.1, rw e refl)
]

-- turns of different ports are different
turn_at : (i : ℕ) (m : Option OpenNode) → IsSomeAnd m (λ m. i < length m.class_of) → turn_in m i ≤ elim m [ None ↦ 0 | Some m ↦ length m.class_of ]
turn_at i None h = absurd h
turn_at i (Some m) h = go m.node
  where
    go : (c : Node) → elim c [ AgentNode y ↦ cond (nat_eq i 0) (length m.class_of) i | ClassNode y c ↦ i ] ≤ length m.class_of
    go (AgentNode y) = elim (turn_cases i (length m.class_of)) [ inl e ↦ let f = e.1 in omega arith | inr e ↦ let f = e.1 in omega arith ]
    go (ClassNode y c) = omega arith

pub turn_one : (i j : ℕ) (m : Option OpenNode) → IsSomeAnd m (λ m. i < length m.class_of) → IsSomeAnd m (λ m. j < length m.class_of) → turn_in m i ≡ turn_in m j → i ≡ j
turn_one i j None h k e = absurd h
turn_one i j (Some m) h k e = go m.node e
  where
    go : (c : Node) → name_turn (length m.class_of) c i ≡ name_turn (length m.class_of) c j → i ≡ j
    go (AgentNode y) e = elim (turn_cases i (length m.class_of)) [
      | inl a ↦ elim (turn_cases j (length m.class_of)) [ inl b ↦ a.0 ∙ sym b.0 | inr b ↦ let f = a.1 in let g = b.1 in absurd (omega arith) ]
      | inr a ↦ elim (turn_cases j (length m.class_of)) [ inl b ↦ let f = a.1 in let g = b.1 in absurd (omega arith) | inr b ↦ let f = a.1 in let g = b.1 in omega arith ]
    ]
    go (ClassNode y c) e = e

module _ (o : OpenNet) (net : IsOpenNet o) where
  pub in_ports : (w n i : ℕ) (q : OpenPoint) → IsWire o w (Port n i) q → i < ports_of o n
  in_ports w n i q h = ports_at i (slice_get o.nodes n) (net.points w (Port n i) q h)

  pub turn_one_port : (n i j : ℕ) → i < ports_of o n → j < ports_of o n → turn o n i ≡ turn o n j → i ≡ j
  turn_one_port n i j a b e = turn_one i j (slice_get o.nodes n) (at_ports i (slice_get o.nodes n) a) (at_ports j (slice_get o.nodes n) b) e

  pub turn_one_port_most : (n i : ℕ) → i < ports_of o n → turn o n i ≤ ports_of o n
  turn_one_port_most n i a = turn_at i (slice_get o.nodes n) (at_ports i (slice_get o.nodes n) a)

  pub partner : (n i : ℕ) → Decided ((w : ℕ) × (q : OpenPoint) × IsWire o w (Port n i) q)
  partner n i = elim (at_most (ports_of o n) i) [
    | inl h ↦ inr (λ r. let k = in_ports r.0 n i r.1 r.2 in omega arith)
    | inr h ↦ inl (net.joined (Port n i) (at_ports i (slice_get o.nodes n) h))
  ]

  -- port i is wired to a node, of which P can be decided
  pub wired : (P : ℕ → Type 0) → ((l : ℕ) → Decided (P l)) → (n i : ℕ) → Decided ((w : ℕ) × (l : ℕ) × (k : ℕ) × IsWire o w (Port n i) (Port l k) × P l)
  wired P dec n i = go (partner n i)
    where
      at : (w : ℕ) (q : OpenPoint) → IsWire o w (Port n i) q → Decided ((w : ℕ) × (l : ℕ) × (k : ℕ) × IsWire o w (Port n i) (Port l k) × P l)
      at w (Free e) h = inr (λ r. let f : ◌≡◌ {A = OpenPoint} (Free e) (Port r.1 r.2) = (net.once w r.0 (Port n i) (Free e) (Port r.1 r.2) h r.3).1 in cc)
      at w (Port l k) h = elim (dec l) [
        | inl p ↦ inl (w, l, k, h, p)
        | inr p ↦ inr (λ r. p (subst P (sym (port_place l r.1 k r.2 (net.once w r.0 (Port n i) (Port l k) (Port r.1 r.2) h r.3).1).0) r.4))
      ]

      go : Decided ((w : ℕ) × (q : OpenPoint) × IsWire o w (Port n i) q) → Decided ((w : ℕ) × (l : ℕ) × (k : ℕ) × IsWire o w (Port n i) (Port l k) × P l)
      go (inl r) = at r.0 r.1 r.2
      go (inr nay) = inr (λ r. nay (r.0, Port r.1 r.2, r.3))

  module _ (s : ℕ → Bool) (in_net : (m : ℕ) → IsIn m s → m < length o.nodes) (n : ℕ) where
    pub without : (m : ℕ) → Decided (Without n s m)
    without m = both_decided (is_in m s) (denied (same_nat m n))

    pub linked : (l m : ℕ) → Decided (Linked (open_graph o) (Without n s) l m)
    linked l m = are_linked o (Without n s) without (length o.nodes) (λ m h. in_net m h.0) l m

    -- the component of m
    abbrev pub component : ℕ → ℕ → Bool
    component m k = test (linked m k)

    pub is_component : (m : ℕ) → Without n s m → IsComponent (open_graph o) (Without n s) (component m)
    is_component m h = (m, h, λ k. (test_is (linked m k), test_yes (linked m k)))

    pub component_same : (c : ℕ → Bool) (r : IsComponent (open_graph o) (Without n s) c) → component r.0 ≡ c
    component_same c r = fun_ext (λ k. same_test (component r.0 k) (c k) (λ h. (r.2 k).1 (test_is (linked r.0 k) h)) (λ h. test_yes (linked r.0 k) ((r.2 k).0 h)))

    -- ports i and j meet: they are wired to each other, or touch one component
    abbrev Meets : ℕ → ℕ → Type 0
    Meets i j = ((w : ℕ) × (l : ℕ) × (k : ℕ) × IsWire o w (Port n i) (Port l k) × ((l ≡ n) × (k ≡ j))) ⊎ ((w : ℕ) × (l : ℕ) × (k : ℕ) × IsWire o w (Port n i) (Port l k) × ((v : ℕ) × (m : ℕ) × (h : ℕ) × IsWire o v (Port n j) (Port m h) × Linked (open_graph o) (Without n s) l m))

    self : (i j : ℕ) → Decided ((w : ℕ) × (l : ℕ) × (k : ℕ) × IsWire o w (Port n i) (Port l k) × ((l ≡ n) × (k ≡ j)))
    self i j = go (partner n i)
      where
        at : (w : ℕ) (q : OpenPoint) → IsWire o w (Port n i) q → Decided ((w : ℕ) × (l : ℕ) × (k : ℕ) × IsWire o w (Port n i) (Port l k) × ((l ≡ n) × (k ≡ j)))
        at w (Free e) h = inr (λ r. let f : ◌≡◌ {A = OpenPoint} (Free e) (Port r.1 r.2) = (net.once w r.0 (Port n i) (Free e) (Port r.1 r.2) h r.3).1 in cc)
        at w (Port l k) h = elim (both_decided (same_nat l n) (same_nat k j)) [
          | inl p ↦ inl (w, l, k, h, p)
          | inr p ↦ inr (λ r.
              let e = port_place l r.1 k r.2 (net.once w r.0 (Port n i) (Port l k) (Port r.1 r.2) h r.3).1 in
              p (e.0 ∙ r.4.0, e.1 ∙ r.4.1))
        ]

        go : Decided ((w : ℕ) × (q : OpenPoint) × IsWire o w (Port n i) q) → Decided ((w : ℕ) × (l : ℕ) × (k : ℕ) × IsWire o w (Port n i) (Port l k) × ((l ≡ n) × (k ≡ j)))
        go (inl r) = at r.0 r.1 r.2
        go (inr nay) = inr (λ r. nay (r.0, Port r.1 r.2, r.3))

    meets : (i j : ℕ) → Decided (Meets i j)
    meets i j = either_decided (self i j) (wired (λ l. (v : ℕ) × (m : ℕ) × (h : ℕ) × IsWire o v (Port n j) (Port m h) × Linked (open_graph o) (Without n s) l m) (λ l. wired (λ m. Linked (open_graph o) (Without n s) l m) (λ m. linked l m) n j) n i)

    pub splits_at : Decided (SplitsAt (open_graph o) n s)
    splits_at = elim (each_below (λ i. (j : ℕ) → j < ports_of o n → Meets i j → class_in o n i ≡ class_in o n j) (λ i. each_below (λ j. Meets i j → class_in o n i ≡ class_in o n j) (λ j. implied (meets i j) (same_nat (class_in o n i) (class_in o n j))) (ports_of o n)) (ports_of o n)) [
      | inl all ↦ inl (record {
        own = λ i j w. all i (in_ports w.0 n i (Port n j) w.1) j (in_ports w.0 n j (Port n i) (back w.0 n i n j w.1)) (inl (w.0, n, j, w.1, (refl, refl)));
        touched = λ i j l m k h w v link. all i (in_ports w.0 n i (Port l k) w.1) j (in_ports v.0 n j (Port m h) v.1) (inr (w.0, l, k, w.1, (v.0, m, h, v.1, link)));
      })
      | inr nay ↦ inr (λ r. nay (λ i a j b t. elim t [
        | inl u ↦ r.own i j (u.0, subst (λ z. IsWire o u.0 (Port n i) (Port n z)) u.4.1 (subst (λ z. IsWire o u.0 (Port n i) (Port z u.2)) u.4.0 u.3))
        | inr u ↦ r.touched i j u.1 u.4.1 u.2 u.4.2 (u.0, u.3) (u.4.0, u.4.3) u.4.4
      ]))
    ]
      where
        back : (w l i m j : ℕ) → IsWire o w (Port l i) (Port m j) → IsWire o w (Port m j) (Port l i)
        back w l i m j (inl h) = inr h
        back w l i m j (inr h) = inl h

    -- each component has its turn
    touches : (c : ℕ → Bool) (i : ℕ) → Decided (Touches o n c i)
    touches c i = wired (λ l. IsIn l c) (λ l. is_in l c) n i

    pub comes_at : (c : ℕ → Bool) (m : ℕ) → IsIn m c → m < length o.nodes → (k : ℕ) × ComesAt o n c k
    comes_at c m h b = elim (least (Touches o n c) (touches c) (turn o n) (ports_of o n)) [
      | inr r ↦ (turn o n r.0, inl (r.0, r.2, refl, λ j t. r.3 j (in_ports t.0 n j (Port t.1 t.2) t.3) t))
      | inl nay ↦ elim (least (λ m. IsIn m c) (λ m. is_in m c) (λ m. m) (length o.nodes)) [
        | inl off ↦ absurd (off m b h)
        | inr r ↦ (suc (ports_of o n) + r.0, inr ((λ i t. nay i (in_ports t.0 n i (Port t.1 t.2) t.3) t), (r.0, r.2, refl, λ l g. elim (at_most (length o.nodes) l) [ inl u ↦ let v = r.1 in omega arith | inr u ↦ r.3 l u g ])))
      ]
    ]

    turn_most : (c : ℕ → Bool) (i : ℕ) → Touches o n c i → turn o n i ≤ ports_of o n
    turn_most c i t = turn_at i (slice_get o.nodes n) (net.points t.0 (Port n i) (Port t.1 t.2) t.3)

    pub one_turn : (c : ℕ → Bool) (k l : ℕ) → ComesAt o n c k → ComesAt o n c l → k ≡ l
    one_turn c k l (inl a) (inl b) = let x = a.3 b.0 b.1 in let y = b.3 a.0 a.1 in let u = a.2 in let v = b.2 in omega arith
    one_turn c k l (inl a) (inr b) = absurd (b.0 a.0 a.1)
    one_turn c k l (inr a) (inl b) = absurd (a.0 b.0 b.1)
    one_turn c k l (inr a) (inr b) = let x = a.1.3 b.1.0 b.1.1 in let y = b.1.3 a.1.0 a.1.1 in let u = a.1.2 in let v = b.1.2 in omega arith

    -- components with a node in common are equal
    pub meet_same : (c d : ℕ → Bool) → IsComponent (open_graph o) (Without n s) c → IsComponent (open_graph o) (Without n s) d → (l : ℕ) → IsIn l c → IsIn l d → c ≡ d
    meet_same c d a b l h g = fun_ext (λ k. same_test (c k) (d k) (over c d a b h g k) (over d c b a g h k))
      where
        over : (c d : ℕ → Bool) → (a : IsComponent (open_graph o) (Without n s) c) → (b : IsComponent (open_graph o) (Without n s) d) → IsIn l c → IsIn l d → (k : ℕ) → IsIn k c → IsIn k d
        over c d a b h g k u = (b.2 k).1 (link_join o (Without n s) without b.0 l k ((b.2 l).0 g) (link_join o (Without n s) without l a.0 k (link_back o (Without n s) without a.0 l ((a.2 l).0 h)) ((a.2 k).0 u)))

    pub turn_same : (c d : ℕ → Bool) → IsComponent (open_graph o) (Without n s) c → IsComponent (open_graph o) (Without n s) d → (k : ℕ) → ComesAt o n c k → ComesAt o n d k → c ≡ d
    turn_same c d a b k (inl x) (inl y) =
        let i = turn_one x.0 y.0 (slice_get o.nodes n) (net.points x.1.0 (Port n x.0) (Port x.1.1 x.1.2) x.1.3) (net.points y.1.0 (Port n y.0) (Port y.1.1 y.1.2) y.1.3) (x.2 ∙ sym y.2) in
        let w : IsWire o y.1.0 (Port n x.0) (Port y.1.1 y.1.2) = subst (λ z. IsWire o y.1.0 (Port n z) (Port y.1.1 y.1.2)) (sym i) y.1.3 in
        let e = port_place x.1.1 y.1.1 x.1.2 y.1.2 (net.once x.1.0 y.1.0 (Port n x.0) (Port x.1.1 x.1.2) (Port y.1.1 y.1.2) x.1.3 w).1 in
        meet_same c d a b x.1.1 x.1.4 (subst (λ z. IsIn z d) (sym e.0) y.1.4)
    turn_same c d a b k (inl x) (inr y) = let u = turn_most c x.0 x.1 in let v = x.2 in let w = y.1.2 in absurd (omega arith)
    turn_same c d a b k (inr x) (inl y) = let u = turn_most d y.0 y.1 in let v = y.2 in let w = x.1.2 in absurd (omega arith)
    turn_same c d a b k (inr x) (inr y) = let u = x.1.2 in let v = y.1.2 in let e : x.1.0 ≡ y.1.0 = omega arith in meet_same c d a b x.1.0 x.1.1 (subst (λ z. IsIn z d) (sym e) y.1.1)

  abbrev pub AllSplit : (ℕ → Bool) → Type 0
  AllSplit s = Splits (open_graph o) (λ m n. m < n) s

  abbrev IsFirst : ℕ → (ℕ → Bool) → Type 0
  IsFirst n s = IsFirstSplitting (open_graph o) (λ m n. m < n) n s

  pub one_first : (s : ℕ → Bool) (n m : ℕ) → IsFirst n s → IsFirst m s → n ≡ m
  one_first s n m a b = elim (same_nat n m) [
    | inl e ↦ e
    | inr d ↦ elim (at_most n m) [ inl l ↦ absurd (b.first n a.here (omega arith) a.splits) | inr l ↦ absurd (a.first m b.here (omega arith) b.splits) ]
  ]

  -- a set that splits has no first stuck sub-net
  pub not_both_ways : (s t : ℕ → Bool) → FirstStuck o s t → AllSplit s → ⊥
  not_both_ways s _ (whole _ h) (none _ e) = not_both (s h.0.0) h.0.1 (e h.0.0)
  not_both_ways s _ (whole _ h) (first _ n f rest) = h.1 n f.here f.splits
  not_both_ways s t (within _ n c k _ f part comes before stuck) (none _ e) = not_both (s n) f.here (e n)
  not_both_ways s t (within _ n c k _ f part comes before stuck) (first _ m f' rest) =
      not_both_ways c t stuck (rest c (subst (λ z. IsComponent (open_graph o) (Without z s) c) (one_first s n m f f') part))

  abbrev pub Found : (ℕ → Bool) → Type 0
  Found s = AllSplit s ⊎ ((t : ℕ → Bool) × FirstStuck o s t)

  module _ (s : ℕ → Bool) (in_net : (m : ℕ) → IsIn m s → m < length o.nodes) (n : ℕ) (f : IsFirst n s) (found : (c : ℕ → Bool) → IsComponent (open_graph o) (Without n s) c → Found c) where
    abbrev comp : ℕ → ℕ → Bool
    comp m = component s in_net n m

    abbrev StuckAt : ℕ → Type 0
    StuckAt m = Without n s m × ((t : ℕ → Bool) × FirstStuck o (component s in_net n m) t)

    stuck_at : (m : ℕ) → Decided (StuckAt m)
    stuck_at m = go (without s in_net n m)
      where
        at : (h : Without n s m) → Found (component s in_net n m) → Decided (StuckAt m)
        at h (inl y) = inr (λ r. not_both_ways (component s in_net n m) r.1.0 r.1.1 y)
        at h (inr r) = inl (h, r)

        go : Decided (Without n s m) → Decided (StuckAt m)
        go (inl h) = at h (found (component s in_net n m) (is_component s in_net n m h))
        go (inr u) = inr (λ r. u r.0)

    self_in : (m : ℕ) → Without n s m → IsIn m (component s in_net n m)
    self_in m h = test_yes (linked s in_net n m m) (alone m h)

    key : ℕ → ℕ
    key m = elim (without s in_net n m) [ inl h ↦ (comes_at s in_net n (component s in_net n m) m (self_in m h) (in_net m h.0)).0 | inr h ↦ 0 ]

    key_at : (m : ℕ) → Without n s m → ComesAt o n (component s in_net n m) (key m)
    unfolding key
    key_at m h = go (without s in_net n m)
      where
        go : (d : Decided (Without n s m)) → ComesAt o n (component s in_net n m) (elim d [ inl h ↦ (comes_at s in_net n (component s in_net n m) m (self_in m h) (in_net m h.0)).0 | inr h ↦ 0 ])
        go (inl h) = (comes_at s in_net n (component s in_net n m) m (self_in m h) (in_net m h.0)).1
        go (inr u) = absurd (u h)

    of_component : (c : ℕ → Bool) → IsComponent (open_graph o) (Without n s) c → (AllSplit c → ⊥) → (m : ℕ) × StuckAt m × (component s in_net n m ≡ c)
    of_component c r bad =
        let e = component_same s in_net n c r in
        elim (stuck_at r.0) [
          | inl y ↦ (r.0, y, e)
          | inr u ↦ absurd (go (found (component s in_net n r.0) (is_component s in_net n r.0 r.1)) u e)
        ]
      where
        go : Found (component s in_net n r.0) → (StuckAt r.0 → ⊥) → component s in_net n r.0 ≡ c → ⊥
        go (inl y) u e = bad (subst AllSplit e y)
        go (inr y) u e = u (r.1, y)

    among : Found s
    among = elim (least StuckAt stuck_at key (length o.nodes)) [
      | inl off ↦ inl (first s n f (λ c r. go c r (found c r) off))
      | inr r ↦ inr (
        r.2.1.0,
        within s n (component s in_net n r.0) (key r.0) r.2.1.0 f (is_component s in_net n r.0 r.2.0) (key_at r.0 r.2.0)
            (λ d l part comes less. before d l part comes r.0 less r.3 (found d part)) r.2.1.1,
      )
    ]
      where
        go : (c : ℕ → Bool) → IsComponent (open_graph o) (Without n s) c → Found c → ((m : ℕ) → m < length o.nodes → StuckAt m → ⊥) → AllSplit c
        go c r (inl y) off = y
        go c r (inr y) off =
            let a = of_component c r (λ z. not_both_ways c y.0 y.1 z) in
            absurd (off a.0 (in_net a.0 a.1.0.0) a.1)

        before : (d : ℕ → Bool) (l : ℕ) → IsComponent (open_graph o) (Without n s) d → ComesAt o n d l → (m : ℕ) → l < key m → ((j : ℕ) → j < length o.nodes → StuckAt j → key m ≤ key j) → Found d → AllSplit d
        before d l part comes m less most (inl y) = y
        before d l part comes m less most (inr y) =
            let a = of_component d part (λ z. not_both_ways d y.0 y.1 z) in
            let at : ComesAt o n d (key a.0) = subst (λ z. ComesAt o n z (key a.0)) a.2 (key_at a.0 a.1.0) in
            let e = one_turn s in_net n d l (key a.0) comes at in
            let k = most a.0 (in_net a.0 a.1.0.0) a.1 in
            absurd (omega arith)

  -- components are smaller
  pub smaller : (s : ℕ → Bool) → ((m : ℕ) → IsIn m s → m < length o.nodes) → (n : ℕ) → IsIn n s → (c : ℕ → Bool) → IsComponent (open_graph o) (Without n s) c → ((m : ℕ) → IsIn m c → Without n s m) × (count c (length o.nodes) < count s (length o.nodes))
  smaller s in_net n h c r = (inside, count_less s c (λ m k. (inside m k).0) n h (false_from_ne_true (c n) (λ k. (inside n k).1 refl)) (length o.nodes) (in_net n h))
    where
      inside : (m : ℕ) → IsIn m c → Without n s m
      inside m k = link_first (open_graph o) (Without n s) m r.0 (link_back o (Without n s) (without s in_net n) r.0 m ((r.2 m).0 k))

  abbrev SplitsIt : (ℕ → Bool) → ℕ → Type 0
  SplitsIt s n = IsIn n s × SplitsAt (open_graph o) n s

  pub search : (b : ℕ) (s : ℕ → Bool) → ((m : ℕ) → IsIn m s → m < length o.nodes) → count s (length o.nodes) ≤ b → Found s
  search zero s in_net few = inl (none s (λ n. false_from_ne_true (s n) (λ h. let e = count_less s (λ m. false) (λ m k. cc) n h refl (length o.nodes) (in_net n h) in omega arith)))
  search (suc b) s in_net few = go (least (λ m. IsIn m s) (λ m. is_in m s) (λ m. m) (length o.nodes)) (least (SplitsIt s) (λ n. both_decided (is_in n s) (splits_at s in_net n)) (λ n. n) (length o.nodes)) (λ n h c r.
      let e = smaller s in_net n h c r in
      let l = e.1 in
      search b c (λ m k. in_net m (e.0 m k).0) (omega arith))
    where
      go : ((m : ℕ) → m < length o.nodes → IsIn m s → ⊥) ⊎ ((m : ℕ) × (m < length o.nodes) × IsIn m s × ((j : ℕ) → j < length o.nodes → IsIn j s → m ≤ j))
          → ((m : ℕ) → m < length o.nodes → SplitsIt s m → ⊥) ⊎ ((m : ℕ) × (m < length o.nodes) × SplitsIt s m × ((j : ℕ) → j < length o.nodes → SplitsIt s j → m ≤ j))
          → ((n : ℕ) → IsIn n s → (c : ℕ → Bool) → IsComponent (open_graph o) (Without n s) c → Found c) → Found s
      go (inl off) q found = inl (none s (λ n. false_from_ne_true (s n) (λ h. off n (in_net n h) h)))
      go (inr r) (inl stuck) found = inr (s, whole s ((r.0, r.2), λ n h k. stuck n (in_net n h) (h, k)))
      go (inr r) (inr q) found = among s in_net q.0 (record { here = q.2.0; splits = q.2.1; first = λ m h l k. let e = q.3 m (in_net m h) (h, k) in omega arith }) (found q.0 q.2.0)

  -- there is at most one
  pub one_stuck : (s t u : ℕ → Bool) → ((m : ℕ) → IsIn m s → m < length o.nodes) → FirstStuck o s t → FirstStuck o s u → t ≡ u
  one_stuck s _ _ in_net (whole _ h) (whole _ k) = refl
  one_stuck s _ u in_net (whole _ h) (within _ n c k _ f part comes before stuck) = absurd (h.1 n f.here f.splits)
  one_stuck s t _ in_net (within _ n c k _ f part comes before stuck) (whole _ h) = absurd (h.1 n f.here f.splits)
  one_stuck s t u in_net (within _ n c k _ f part comes before stuck) (within _ m d l _ f' part' comes' before' stuck') =
      let e = one_first s n m f f' in
      let part2 = subst (λ z. IsComponent (open_graph o) (Without z s) d) (sym e) part' in
      let comes2 = subst (λ z. ComesAt o z d l) (sym e) comes' in
      let same : k ≡ l = elim (same_nat k l) [
        | inl q ↦ q
        | inr q ↦ elim (at_most k l) [
          | inl y ↦ absurd (not_both_ways c t stuck (before' c k (subst (λ z. IsComponent (open_graph o) (Without z s) c) e part) (subst (λ z. ComesAt o z c k) e comes) (omega arith)))
          | inr y ↦ absurd (not_both_ways d u stuck' (before d l part2 comes2 y))
        ]
      ] in
      let c_d = turn_same s in_net n c d part part2 k comes (subst (λ z. ComesAt o n d z) (sym same) comes2) in
      one_stuck c t u (λ j h. in_net j ((smaller s in_net n f.here c part).0 j h).0) stuck (subst (λ z. FirstStuck o z u) (sym c_d) stuck')
