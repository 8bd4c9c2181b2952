-- A set of nodes that splits is built by the constructions.
use Rattle.std.proofs.Common.{◌≡◌, ◌≢◌, ◌⊎◌, ◌↔◌, ◌<◌, ◌≤◌, ◌+◌, ℕ, zero, suc, Bool, true, false, cond, ◌&&◌, ◌||◌, not, nat_eq, Option, Some, None, IsSomeAnd, length, slice_get, refl, sym, subst, ap, inl, inr, ◌∙◌, eq-eqb, eqb-true, ne_eqb, arith}
use mathlib.Core.Path.{fun_ext}
use Rattle.in_open_nets.specs.declared.open_nets.OpenPoint.TheVariants.{Port}
use Rattle.in_open_nets.specs.declared.open_nets.Node.{Node}
use Rattle.in_open_nets.specs.declared.open_nets.Node.TheVariants.{AgentNode, ClassNode}
use Rattle.in_open_nets.specs.Constructions.{IsIn, AreParts, numbered, IsGraft, Built, empty, given, mix, cut, graft}
use Rattle.in_open_nets.specs.Splitting.{Linked, alone, onward, Without, SplitsAt, IsFirstSplitting, Splits, none, first}
use Rattle.in_open_nets.specs.declared.open_nets.OpenNode.{OpenNode}
use Rattle.in_open_nets.specs.OpenNets.{OpenNet, IsAgentNode, IsClassNode, IsAgent, IsClass, class_at, class_in, classes_of, IsWire, IsOpenNet, open_graph}
use Rattle.in_open_nets.specs.Stuck.{ports_of}
use Rattle.in_open_nets.proofs.PartsOf.Sums.{not_both, same_test, numbered_is, both_left, both_right}
use Rattle.in_open_nets.proofs.Built.Sound.{port_place, class_no_agent}
use Rattle.in_open_nets.proofs.Reached.Links.{Decided, same_nat, both_decided, least, AreNext, are_next, link_join, link_back, link_first}
use Rattle.in_open_nets.proofs.Splits.Search.{is_in, test, test_yes, test_is, in_ports, wired, without, linked, component, is_component}
use Rattle.std.proofs.lemmas.Bool.{and_from, or_cases, or_left, or_right, cases_Bool}
use Rattle.in_base.proofs.Each.{at_index}

pub pair_same : (r s : ℕ × ℕ) → r.0 ≡ s.0 → r.1 ≡ s.1 → r ≡ s
pair_same (a, b) (c, d) e f = cc

pub class_is_place : (i : ℕ) (m : Option OpenNode) → IsSomeAnd m IsClassNode → class_at m i ≡ i
class_is_place i None h = absurd h
class_is_place i (Some m) h = go m.node h
  where
    go : (n : Node) → elim n as (λ _. Type 0) [ AgentNode y ↦ ⊥ | ClassNode y c ↦ Unit {0} ] → elim n [ AgentNode y ↦ Rattle.std.proofs.Common.get_or m.class_of i 0 | ClassNode y c ↦ i ] ≡ i
    go (AgentNode y) h = absurd h
    go (ClassNode y c) h = refl

pub agent_or_class : (m : Option OpenNode) → (x : OpenNode) → m ≡ Some x → IsSomeAnd m IsAgentNode ⊎ IsSomeAnd m IsClassNode
agent_or_class None x e = cc
agent_or_class (Some m) x e = go m.node
  where
    go : (n : Node) → elim n as (λ _. Type 0) [ AgentNode y ↦ Unit {0} | ClassNode y c ↦ ⊥ ] ⊎ elim n as (λ _. Type 0) [ AgentNode y ↦ ⊥ | ClassNode y c ↦ Unit {0} ]
    go (AgentNode y) = inl tt
    go (ClassNode y c) = inr tt

-- a property that the constructions keep, if a cut is at the principal port of an agent or at a class node
pub record Constructions (o : OpenNet) (B : (ℕ → Bool) → Type 0) : Type 0 where
  pub empty : (s : ℕ → Bool) → ((n : ℕ) → s n ≡ false) → B s
  pub given : (n : ℕ) (s : ℕ → Bool) → IsClass o n → ((m : ℕ) → IsIn m s ↔ (m ≡ n)) → ((i j w : ℕ) → IsWire o w (Port n i) (Port n j) → ⊥) → B s
  pub mix : (s a b : ℕ → Bool) → AreParts s a b → ((l i m j w : ℕ) → IsWire o w (Port l i) (Port m j) → IsIn l a → IsIn m b → ⊥) → B a → B b → B s
  pub cut : (s a b : ℕ → Bool) (l i m j v : ℕ) → AreParts s a b → IsWire o v (Port l i) (Port m j) → (IsAgent o l → i ≡ 0) → IsIn l a → IsIn m b → ((l' i' m' j' w : ℕ) → IsWire o w (Port l' i') (Port m' j') → IsIn l' a → IsIn m' b → ((l' ≡ l) × (i' ≡ i)) × ((m' ≡ m) × (j' ≡ j))) → B a → B b → B s
  pub graft : (n : ℕ) (s : ℕ → Bool) (part : ℕ → ℕ) → IsAgent o n → part n ≡ 0 → ((m : ℕ) → IsIn m s → part m ≤ classes_of o n) → IsGraft (open_graph o) n (classes_of o n) s part → ((c : ℕ) → 0 < c → B (numbered s part c)) → B s

pub built_constructions : (o : OpenNet) → Constructions o (Built (open_graph o) (IsAgent o) (classes_of o))
built_constructions o = record {
  empty = λ s h. empty s h;
  given = λ n s c all self. given n s (class_no_agent (slice_get o.nodes n) c) all (λ i j w. self i j w.0 w.1);
  mix = λ s a b parts off x y. mix s a b parts (λ u v w h k. off u.0 u.1 v.0 v.1 w.0 w.1 h k) x y;
  cut = λ s a b l i m j v parts w firm la mb only x y. cut s a b (l, i) (m, j) parts (v, w) la mb
      (λ r t u h k. let e = only r.0 r.1 t.0 t.1 u.0 u.1 h k in (pair_same r (l, i) e.0.0 e.0.1, pair_same t (m, j) e.1.0 e.1.1)) x y;
  graft = λ n s part agent z most r nets. graft n s part agent r (λ c some le. nets c some);
}

module _ (o : OpenNet) (net : IsOpenNet o) (BuiltSet : (ℕ → Bool) → Type 0) (make : Constructions o BuiltSet) where
  built_same : (s t : ℕ → Bool) → ((n : ℕ) → s n ≡ t n) → BuiltSet s → BuiltSet t
  built_same s t e h = subst BuiltSet (fun_ext e) h

  module _ (s : ℕ → Bool) (in_net : (m : ℕ) → IsIn m s → m < length o.nodes) (n : ℕ) where
    abbrev Link : ℕ → ℕ → Type 0
    Link l m = Linked (open_graph o) (Without n s) l m

    abbrev Wired : ℕ → ℕ → ℕ → ℕ → ℕ → Type 0
    Wired w l i m j = IsWire o w (Port l i) (Port m j)

    join : (l m k : ℕ) → Link l m → Link m k → Link l k
    join = link_join o (Without n s) (without o net s in_net n)

    back : (l m : ℕ) → Link l m → Link m l
    back = link_back o (Without n s) (without o net s in_net n)

    begins : (l m : ℕ) → Link l m → Without n s l
    begins = link_first (open_graph o) (Without n s)

    ends : (l m : ℕ) → Link l m → Without n s m
    ends l m h = begins m l (back l m h)

    near : (w l i m j : ℕ) → Wired w l i m j → Without n s l → Without n s m → Link l m
    near w l i m j h a b = onward l m m i j a (w, h) (alone m b)

    abbrev link : (l m : ℕ) → Decided (Link l m)
    link = linked o net s in_net n

    -- some node below b is linked to j
    abbrev below : ℕ → ℕ → Bool
    below zero j = false
    below (suc b) j = test (link b j) || below b j

    below_on : (b j k : ℕ) → IsIn j (below b) → Link j k → IsIn k (below b)
    below_on zero j k h l = h
    below_on (suc b) j k h l = elim (or_cases (test (link b j)) (below b j) h) [
      | inl e ↦ or_left (test (link b k)) (below b k) (test_yes (link b k) (join b j k (test_is (link b j) e) l))
      | inr e ↦ or_right (test (link b k)) (below b k) (below_on b j k e l)
    ]

    below_self : (b j : ℕ) → j < b → Without n s j → IsIn j (below b)
    below_self zero j l h = absurd (omega arith)
    below_self (suc b) j l h = elim (same_nat j b) [
      | inl e ↦ or_left (test (link b j)) (below b j) (test_yes (link b j) (subst (λ z. Link z j) e (alone j h)))
      | inr d ↦ or_right (test (link b j)) (below b j) (below_self b j (omega arith) h)
    ]

    -- components, each joined to a by at most one wire, beside a
    module _ (a t : ℕ → Bool) (a_in : (m : ℕ) → IsIn m a → m < length o.nodes) (apart : (m : ℕ) → IsIn m a → IsIn m t → ⊥) (inside : (m : ℕ) → IsIn m t → Without n s m) (closed : (l m : ℕ) → IsIn l t → Link l m → IsIn m t) (one : (w l i m j v l' i' m' j' : ℕ) → IsIn l a → IsIn m t → IsIn l' a → IsIn m' t → Link m m' → Wired w l i m j → Wired v l' i' m' j' → ((l ≡ l') × (i ≡ i')) × ((m ≡ m') × (j ≡ j'))) (firm : (w l i m j : ℕ) → IsIn l a → IsIn m t → Wired w l i m j → IsAgent o l → i ≡ 0) (built : BuiltSet a) (nets : (m : ℕ) → IsIn m t → BuiltSet (component o net s in_net n m)) where
      upto : ℕ → ℕ → Bool
      upto b j = a j || (t j && below b j)

      upto_cases : (b j : ℕ) → IsIn j (upto b) → IsIn j a ⊎ (IsIn j t × IsIn j (below b))
      unfolding upto
      upto_cases b j h = elim (or_cases (a j) (t j && below b j) h) [ inl e ↦ inl e | inr e ↦ inr (both_left (t j) (below b j) e, both_right (t j) (below b j) e) ]

      upto_old : (b j : ℕ) → IsIn j a → IsIn j (upto b)
      unfolding upto
      upto_old b j h = or_left (a j) (t j && below b j) h

      upto_new : (b j : ℕ) → IsIn j t → IsIn j (below b) → IsIn j (upto b)
      unfolding upto
      upto_new b j h k = or_right (a j) (t j && below b j) (and_from (t j) (below b j) h k)

      same : (b : ℕ) → ((j : ℕ) → IsIn j t → Link b j → IsIn j (below b)) → (j : ℕ) → upto b j ≡ upto (suc b) j
      same b f j = same_test (upto b j) (upto (suc b) j)
          (λ h. elim (upto_cases b j h) [ inl e ↦ upto_old (suc b) j e | inr e ↦ upto_new (suc b) j e.0 (or_right (test (link b j)) (below b j) e.1) ])
          (λ h. elim (upto_cases (suc b) j h) [
            | inl e ↦ upto_old b j e
            | inr e ↦ upto_new b j e.0 (elim (or_cases (test (link b j)) (below b j) e.1) [ inl k ↦ f j e.0 (test_is (link b j) k) | inr k ↦ k ])
          ])

      module _ (b : ℕ) (here : IsIn b t) (fresh : below b b ≡ false) where
        abbrev comp : ℕ → Bool
        comp = component o net s in_net n b

        in_comp : (j : ℕ) → IsIn j comp → Link b j
        in_comp j h = test_is (link b j) h

        parts : AreParts (upto (suc b)) (upto b) comp
        parts j = (
          (
            (λ h. elim (upto_cases (suc b) j h) [
              | inl e ↦ inl (upto_old b j e)
              | inr e ↦ elim (or_cases (test (link b j)) (below b j) e.1) [ inl k ↦ inr k | inr k ↦ inl (upto_new b j e.0 k) ]
            ]),
            λ h. elim h [
              | inl u ↦ elim (upto_cases b j u) [ inl e ↦ upto_old (suc b) j e | inr e ↦ upto_new (suc b) j e.0 (or_right (test (link b j)) (below b j) e.1) ]
              | inr u ↦ upto_new (suc b) j (closed b j here (in_comp j u)) (or_left (test (link b j)) (below b j) u)
            ],
          ),
          λ h k. elim (upto_cases b j h) [
            | inl e ↦ apart j e (closed b j here (in_comp j k))
            | inr e ↦ not_both (below b b) (below_on b j b e.1 (back b j (in_comp j k))) fresh
          ],
        )

        from_a : (w l i m j : ℕ) → Wired w l i m j → IsIn l (upto b) → IsIn m comp → IsIn l a
        from_a w l i m j h u v = elim (upto_cases b l u) [
          | inl e ↦ e
          | inr e ↦
              let q = near w l i m j h (inside l e.0) (ends b m (in_comp m v)) in
              absurd (not_both (below b b) (below_on b l b e.1 (join l m b q (back b m (in_comp m v)))) fresh)
        ]

        abbrev Crosses : ℕ → Type 0
        Crosses l = IsIn l a × ((m : ℕ) × IsIn m comp × AreNext o l m)

        crosses : (l : ℕ) → Decided (Crosses l)
        crosses l = both_decided (is_in l a) (go (least (λ m. IsIn m comp × AreNext o l m) (λ m. both_decided (is_in m comp) (are_next o l m)) (λ m. 0) (length o.nodes)))
          where
            go : ((m : ℕ) → m < length o.nodes → IsIn m comp × AreNext o l m → ⊥) ⊎ ((m : ℕ) × (m < length o.nodes) × (IsIn m comp × AreNext o l m) × ((j : ℕ) → j < length o.nodes → IsIn j comp × AreNext o l j → 0 ≤ 0)) → Decided ((m : ℕ) × IsIn m comp × AreNext o l m)
            go (inl off) = inr (λ r. off r.0 (in_net r.0 (ends b r.0 (in_comp r.0 r.1)).0) (r.1, r.2))
            go (inr r) = inl (r.0, r.2.0, r.2.1)

        add : BuiltSet (upto b) → BuiltSet (upto (suc b))
        add x = go (least Crosses crosses (λ m. 0) (length o.nodes))
          where
            go : ((l : ℕ) → l < length o.nodes → Crosses l → ⊥) ⊎ ((l : ℕ) × (l < length o.nodes) × Crosses l × ((j : ℕ) → j < length o.nodes → Crosses j → 0 ≤ 0)) → BuiltSet (upto (suc b))
            go (inl off) = make.mix (upto (suc b)) (upto b) comp parts (λ l i m j w u h k. let e = from_a w l i m j u h k in off l (a_in l e) (e, (m, k, (i, j, w, u)))) x (nets b here)
            go (inr r) =
                let c = r.2 in
                let l = r.0 in
                let m = c.1.0 in
                let i = c.1.2.0 in
                let j = c.1.2.1 in
                make.cut (upto (suc b)) (upto b) comp l i m j c.1.2.2 parts c.1.2.3 (firm c.1.2.2 l i m j c.0 (closed b m here (in_comp m c.1.1)) c.1.2.3) (upto_old b l c.0) c.1.1
                (λ l' i' m' j' w u h k. one w l' i' m' j' c.1.2.2 l i m j (from_a w l' i' m' j' u h k) (closed b m' here (in_comp m' k)) c.0 (closed b m here (in_comp m c.1.1)) (join m' b m (back b m' (in_comp m' k)) (in_comp m c.1.1)) u c.1.2.3)
                x (nets b here)

      grown : (b : ℕ) → BuiltSet (upto b)
      grown zero = built_same a (upto zero) (λ j. same_test (a j) (upto zero j) (upto_old zero j) (λ h. elim (upto_cases zero j h) [ inl e ↦ e | inr e ↦ let z : ◌≡◌ {A = Bool} false true = e.1 in cc ])) built
      grown (suc b) = go (is_in b t) (cases_Bool (below b b)) (grown b)
        where
          go : Decided (IsIn b t) → (below b b ≡ true) ⊎ (below b b ≡ false) → BuiltSet (upto b) → BuiltSet (upto (suc b))
          go (inr off) f x = built_same (upto b) (upto (suc b)) (same b (λ j h k. absurd (off (closed j b h (back b j k))))) x
          go (inl here) (inl old) x = built_same (upto b) (upto (suc b)) (same b (λ j h k. below_on b b j old k)) x
          go (inl here) (inr new) x = add b here new x

      pub grow : (r : ℕ → Bool) → AreParts r a t → BuiltSet r
      grow r p = built_same (upto (length o.nodes)) r (λ j. same_test (upto (length o.nodes) j) (r j)
          (λ h. elim (upto_cases (length o.nodes) j h) [ inl e ↦ (p j).0.1 (inl e) | inr e ↦ (p j).0.1 (inr e.0) ])
          (λ h. elim ((p j).0.0 h) [ inl e ↦ upto_old (length o.nodes) j e | inr e ↦ upto_new (length o.nodes) j e (below_self (length o.nodes) j (in_net j (inside j e).0) (inside j e)) ])) (grown (length o.nodes))

    module _ (here : IsIn n s) (splits : SplitsAt (open_graph o) n s) (nets : (m : ℕ) → Without n s m → BuiltSet (component o net s in_net n m)) where
      abbrev only : ℕ → Bool
      only m = nat_eq m n

      -- a class node, and its components
      class_built : IsClass o n → BuiltSet s
      class_built c = grow only others
          (λ m h. subst (λ z. z < length o.nodes) (sym (eqb-true m n h)) (in_net n here))
          (λ m h k. (inside m k).1 (eqb-true m n h))
          inside
          (λ l m h k. test_yes (without o net s in_net n m) (ends l m k))
          (λ w l i m j v l' i' m' j' a b a' b' q h k.
          let e = eqb-true l n a in
          let e' = eqb-true l' n a' in
          let h' : Wired w n i m j = subst (λ z. Wired w z i m j) e h in
          let k' : Wired v n i' m' j' = subst (λ z. Wired v z i' m' j') e' k in
          let f = sym (class_is_place i (slice_get o.nodes n) c) ∙ splits.touched i i' m m' j j' (w, h') (v, k') q ∙ class_is_place i' (slice_get o.nodes n) c in
          ((e ∙ sym e', f), port_place m m' j j' (net.once w v (Port n i) (Port m j) (Port m' j') h' (subst (λ z. Wired v n z m' j') (sym f) k')).1))
          (λ w l i m j a b h agent. absurd (class_no_agent (slice_get o.nodes n) c (subst (λ z. IsAgent o z) (eqb-true l n a) agent)))
          (make.given n only c (λ m. ((λ h. eqb-true m n h), λ h. eq-eqb m n h)) (λ i j w u.
          let f = sym (class_is_place i (slice_get o.nodes n) c) ∙ splits.own i j (w, u) ∙ class_is_place j (slice_get o.nodes n) c in
          net.apart w (Port n i) (Port n j) u (ap (λ z. Port n z) f)))
          (λ m h. nets m (inside m h))
          s
          (λ m. (
            (
              (λ h. elim (same_nat m n) [ inl e ↦ inl (eq-eqb m n e) | inr d ↦ inr (test_yes (without o net s in_net n m) (h, d)) ]),
              λ h. elim h [ inl e ↦ subst (λ z. IsIn z s) (sym (eqb-true m n e)) here | inr e ↦ (inside m e).0 ],
            ),
            λ h k. (inside m k).1 (eqb-true m n h),
          ))
        where
          others : ℕ → Bool
          others m = test (without o net s in_net n m)

          inside : (m : ℕ) → IsIn m others → Without n s m
          inside m h = test_is (without o net s in_net n m) h

      -- port i touches the component of m
      abbrev Touch : ℕ → ℕ → Type 0
      Touch i m = (w : ℕ) × (l : ℕ) × (k : ℕ) × IsWire o w (Port n i) (Port l k) × Linked (open_graph o) (Without n s) l m

      touch : (i m : ℕ) → Decided (Touch i m)
      touch i m = wired o net (λ l. Link l m) (λ l. link l m) n i

      touch_on : (i l m : ℕ) → Touch i l → Link l m → Touch i m
      touch_on i l m t k = (t.0, t.1, t.2, t.3, join t.1 l m t.4 k)

      touch_class : (i j m : ℕ) → Touch i m → Touch j m → class_in o n i ≡ class_in o n j
      touch_class i j m t u = splits.touched i j t.1 u.1 t.2 u.2 (t.0, t.3) (u.0, u.3) (join t.1 m u.1 t.4 (back u.1 m u.4))

      -- the class of the ports below b that touch the component of m; 0 if there is none
      abbrev class_below : ℕ → ℕ → ℕ
      class_below zero m = 0
      class_below (suc b) m = cond (test (touch b m)) (class_in o n b) (class_below b m)

      class_touched : (b i m : ℕ) → i < b → Touch i m → class_below b m ≡ class_in o n i
      class_touched zero i m l t = absurd (omega arith)
      class_touched (suc b) i m l t = go (touch b m) (λ d. class_touched b i m (before d) t)
        where
          before : i ≢ b → i < b
          before d = omega arith

          go : (d : Decided (Touch b m)) → (i ≢ b → class_below b m ≡ class_in o n i) → cond (test d) (class_in o n b) (class_below b m) ≡ class_in o n i
          go (inl u) f = touch_class b i m u t
          go (inr u) f = f (λ e. u (subst (λ z. Touch z m) e t))

      touched_class : (b m c : ℕ) → class_below b m ≡ suc c → (i : ℕ) × (i < b) × Touch i m × (class_in o n i ≡ suc c)
      touched_class zero m c e = absurd (omega arith)
      touched_class (suc b) m c e = go (touch b m) e (λ f. touched_class b m c f)
        where
          go : (d : Decided (Touch b m)) → cond (test d) (class_in o n b) (class_below b m) ≡ suc c → (class_below b m ≡ suc c → (i : ℕ) × (i < b) × Touch i m × (class_in o n i ≡ suc c)) → (i : ℕ) × (i < suc b) × Touch i m × (class_in o n i ≡ suc c)
          go (inl u) e f = (b, omega arith, u, e)
          go (inr u) e f = let r = f e in let l = r.1 in (r.0, omega arith, r.2, r.3)

      class_linked : (b l m : ℕ) → Link l m → class_below b l ≡ class_below b m
      class_linked zero l m k = refl
      class_linked (suc b) l m k =
          let e : test (touch b l) ≡ test (touch b m) = same_test (test (touch b l)) (test (touch b m))
          (λ h. test_yes (touch b m) (touch_on b l m (test_is (touch b l) h) k))
          (λ h. test_yes (touch b l) (touch_on b m l (test_is (touch b m) h) (back l m k))) in
          let f = class_linked b l m k in
          ap (λ z. cond z (class_in o n b) (class_below b l)) e ∙ ap (λ z. cond (test (touch b m)) (class_in o n b) z) f

      abbrev part : ℕ → ℕ
      part m = class_below (ports_of o n) m

      part_touched : (i m : ℕ) → Touch i m → part m ≡ class_in o n i
      part_touched i m t = class_touched (ports_of o n) i m (in_ports o net t.0 n i (Port t.1 t.2) t.3) t

      -- the nodes numbered c, without n
      abbrev of_class : ℕ → ℕ → Bool
      of_class c m = test (without o net s in_net n m) && nat_eq (part m) c

      class_inside : (c m : ℕ) → IsIn m (of_class c) → Without n s m
      class_inside c m h = test_is (without o net s in_net n m) (both_left (test (without o net s in_net n m)) (nat_eq (part m) c) h)

      class_number : (c m : ℕ) → IsIn m (of_class c) → part m ≡ c
      class_number c m h = numbered_is (λ m. test (without o net s in_net n m)) part c m h

      in_class : (c m : ℕ) → Without n s m → part m ≡ c → IsIn m (of_class c)
      in_class c m h e = and_from (test (without o net s in_net n m)) (nat_eq (part m) c) (test_yes (without o net s in_net n m) h) (eq-eqb (part m) c e)

      class_closed : (c l m : ℕ) → IsIn l (of_class c) → Link l m → IsIn m (of_class c)
      class_closed c l m h k = in_class c m (ends l m k) (sym (class_linked (ports_of o n) l m k) ∙ class_number c l h)

      class_net : (c : ℕ) → BuiltSet (of_class c)
      class_net c = grow (λ m. false) (of_class c)
          (λ m h. cc) (λ m h k. not_both false h refl) (class_inside c) (class_closed c)
          (λ w l i m j v l' i' m' j' a b a' b' q h k. absurd (not_both false a refl))
          (λ w l i m j a b h agent. absurd (not_both false a refl))
          (make.empty (λ m. false) (λ m. refl))
          (λ m h. nets m (class_inside c m h))
          (of_class c)
          (λ m. (((λ h. inr h), λ h. elim h [ inl e ↦ absurd (not_both false e refl) | inr e ↦ e ]), λ h k. not_both false h refl))

      agent_built : IsAgent o n → BuiltSet s
      agent_built agent = grow joined (of_class 0)
          (λ m h. in_net m (joined_in m h))
          apart
          (class_inside 0)
          (class_closed 0)
          (λ w l i m j v l' i' m' j' a b a' b' q h k.
          let e = leads w l i m j a b h in
          let f = leads v l' i' m' j' a' b' k in
          let same : i ≡ i' = let u = e.1 in let v = f.1 in omega arith in
          let h' : Wired w n i m j = subst (λ z. Wired w z i m j) e.0 h in
          let k' : Wired v n i m' j' = subst (λ z. Wired v n z m' j') (sym same) (subst (λ z. Wired v z i' m' j') f.0 k) in
          ((e.0 ∙ sym f.0, same), port_place m m' j j' (net.once w v (Port n i) (Port m j) (Port m' j') h' k').1))
          (λ w l i m j a b h e. (leads w l i m j a b h).1)
          (make.graft n joined part agent (root_zero (part n) refl) (λ m h. part_most m (part m) refl) is_graft class_nets)
          (λ m h. nets m (class_inside 0 m h))
          s
          (λ m. (
            (
              (λ h. elim (same_nat m n) [
                | inl e ↦ inl (at_root m e)
                | inr d ↦ elim (same_nat (part m) 0) [ inl z ↦ inr (in_class 0 m (h, d) z) | inr z ↦ inl (at_other m (h, d) z) ]
              ]),
              λ h. elim h [ inl e ↦ joined_in m e | inr e ↦ (class_inside 0 m e).0 ],
            ),
            apart m,
          ))
        where
          joined : ℕ → Bool
          joined m = nat_eq m n || (test (without o net s in_net n m) && not (nat_eq (part m) 0))

          not_zero : (k : ℕ) → k ≢ 0 → not (nat_eq k 0) ≡ true
          not_zero k h = let e : nat_eq k 0 ≡ false = ne_eqb k 0 h in rw e refl

          not_yes : (k : ℕ) → not (nat_eq k 0) ≡ true → k ≢ 0
          not_yes k h e = let f : nat_eq k 0 ≡ true = eq-eqb k 0 e in let g : not (nat_eq k 0) ≡ false = ap not f in cc

          joined_cases : (m : ℕ) → IsIn m joined → (m ≡ n) ⊎ (Without n s m × (part m ≢ 0))
          joined_cases m h = elim (or_cases (nat_eq m n) (test (without o net s in_net n m) && not (nat_eq (part m) 0)) h) [
            | inl e ↦ inl (eqb-true m n e)
            | inr e ↦ inr (test_is (without o net s in_net n m) (both_left (test (without o net s in_net n m)) (not (nat_eq (part m) 0)) e), not_yes (part m) (both_right (test (without o net s in_net n m)) (not (nat_eq (part m) 0)) e))
          ]

          at_root : (m : ℕ) → m ≡ n → IsIn m joined
          at_root m e = or_left (nat_eq m n) (test (without o net s in_net n m) && not (nat_eq (part m) 0)) (eq-eqb m n e)

          at_other : (m : ℕ) → Without n s m → part m ≢ 0 → IsIn m joined
          at_other m h z = or_right (nat_eq m n) (test (without o net s in_net n m) && not (nat_eq (part m) 0))
              (and_from (test (without o net s in_net n m)) (not (nat_eq (part m) 0)) (test_yes (without o net s in_net n m) h) (not_zero (part m) z))

          joined_in : (m : ℕ) → IsIn m joined → IsIn m s
          joined_in m h = elim (joined_cases m h) [ inl e ↦ subst (λ z. IsIn z s) (sym e) here | inr e ↦ e.0.0 ]

          apart : (m : ℕ) → IsIn m joined → IsIn m (of_class 0) → ⊥
          apart m h k = elim (joined_cases m h) [ inl e ↦ (class_inside 0 m k).1 e | inr e ↦ e.1 (class_number 0 m k) ]

          other : (m : ℕ) → IsIn m joined → m ≢ n → Without n s m × (part m ≢ 0)
          other m h d = elim (joined_cases m h) [ inl e ↦ absurd (d e) | inr e ↦ e ]

          -- of these only n's principal port leads on
          leads : (w l i m j : ℕ) → IsIn l joined → IsIn m (of_class 0) → Wired w l i m j → (l ≡ n) × (i ≡ 0)
          leads w l i m j a b h = elim (joined_cases l a) [
            | inl e ↦
                let h' : Wired w n i m j = subst (λ z. Wired w z i m j) e h in
                let p = part_touched i m (w, m, j, h', alone m (class_inside 0 m b)) in
                (e, (net.principal n i agent (net.points w (Port n i) (Port m j) h')).0 (sym p ∙ class_number 0 m b))
            | inr e ↦ absurd (e.1 (class_linked (ports_of o n) l m (near w l i m j h e.0 (class_inside 0 m b)) ∙ class_number 0 m b))
          ]

          part_most : (m c : ℕ) → part m ≡ c → part m ≤ classes_of o n
          part_most m zero e = omega arith
          part_most m (suc c) e =
              let t = touched_class (ports_of o n) m c e in
              let u = net.classes n t.0 agent (net.points t.2.0 (Port n t.0) (Port t.2.1 t.2.2) t.2.3) in
              let v = t.3 in
              omega arith

          is_graft : IsGraft (open_graph o) n (classes_of o n) joined part
          is_graft = record {
            root = at_root n refl;
            others = λ m h d. let e = (other m h d).1 in omega arith;
            most = λ m h d. part_most m (part m) refl;
            own = splits.own;
            to = λ i j m h d w. part_touched i m (w.0, m, j, w.1, alone m (other m h d).0);
            among = λ l m i j h k d e w. class_linked (ports_of o n) l m (near w.0 l i m j w.1 (other l h d).0 (other m k e).0);
          }

          root_number : (c m : ℕ) → 0 < c → m ≡ n → part m ≡ c → ⊥
          root_number zero m l r e = absurd (omega arith)
          root_number (suc c) m l r e = let t = touched_class (ports_of o n) m c e in (ends t.2.1 m t.2.4).1 r

          root_zero : (k : ℕ) → part n ≡ k → part n ≡ 0
          root_zero zero e = e
          root_zero (suc k) e = absurd (root_number (suc k) n (omega arith) refl e)

          class_nets : (c : ℕ) → 0 < c → BuiltSet (numbered joined part c)
          class_nets c l = built_same (of_class c) (numbered joined part c) (λ m. same_test (of_class c m) (numbered joined part c m)
              (λ h. and_from (joined m) (nat_eq (part m) c) (at_other m (class_inside c m h) (λ z. let e = class_number c m h in omega arith)) (eq-eqb (part m) c (class_number c m h)))
              (λ h.
              let e = eqb-true (part m) c (both_right (joined m) (nat_eq (part m) c) h) in
              elim (joined_cases m (both_left (joined m) (nat_eq (part m) c) h)) [
                | inl r ↦ absurd (root_number c m l r e)
                | inr r ↦ in_class c m r.0 e
              ])) (class_net c)

  pub splits_built : (s : ℕ → Bool) → ((m : ℕ) → IsIn m s → m < length o.nodes) → Splits (open_graph o) (λ m n. m < n) s → BuiltSet s
  splits_built s in_net (none _ e) = make.empty s e
  splits_built s in_net (first _ n f rest) =
      built_at s in_net n f (λ m h. splits_built (component o net s in_net n m) (λ k e. in_net k (ends s in_net n m k (test_is (linked o net s in_net n m k) e)).0) (rest (component o net s in_net n m) (is_component o net s in_net n m h)))
    where
      built_at : (s : ℕ → Bool) (in_net : (m : ℕ) → IsIn m s → m < length o.nodes) (n : ℕ) → IsFirstSplitting (open_graph o) (λ m n. m < n) n s → ((m : ℕ) → Without n s m → BuiltSet (component o net s in_net n m)) → BuiltSet s
      built_at s in_net n f nets =
          let x = at_index o.nodes n (in_net n f.here) in
          elim (agent_or_class (slice_get o.nodes n) x.0 x.1) [
            | inl h ↦ agent_built s in_net n f.here f.splits nets h
            | inr h ↦ class_built s in_net n f.here f.splits nets h
          ]
