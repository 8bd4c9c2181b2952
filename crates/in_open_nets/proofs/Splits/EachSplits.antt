-- In a derivable open net every set of nodes has a node that splits it.
use Rattle.std.proofs.Common.{◌≤◌, ◌≡◌, ◌≢◌, ◌⊎◌, ◌<◌, ℕ, Bool, true, false, ◌&&◌, nat_eq, refl, sym, subst, ap, inl, inr, ◌∙◌, eq-eqb, eqb-true}
use Rattle.in_base.specs.Graphs.{Graph}
use Rattle.in_open_nets.specs.Constructions.{IsIn, AreParts, numbered, IsGraft, Built, empty, given, mix, cut, graft}
use Rattle.in_open_nets.specs.Splitting.{Linked, alone, onward, Without, SplitsAt}
use Rattle.std.proofs.lemmas.Bool.{and_from}
use Rattle.in_open_nets.proofs.Reached.Links.{link_first, link_last, link_map}
use Rattle.in_open_nets.proofs.PartsOf.Sums.{both_left, both_right, not_both, swap_parts}

module _ (g : Graph) (wire_back : (u v : g.Node × ℕ) → g.Wire u v → g.Wire v u) where
  -- links between nodes of P stay in Q, if wires do
  link_stay : (P Q : g.Node → Type 0) → ((l m : g.Node) (i j : ℕ) → g.Wire (l, i) (m, j) → P l → P m → Q l → Q m) → (R : g.Node → Type 0) → ((n : g.Node) → P n → Q n → R n) → (u v : g.Node) → Q u → Linked g P u v → Linked g R u v × Q v
  link_stay P Q closed R both u v q (alone _ h) = (alone u (both u h q), q)
  link_stay P Q closed R both u v q (onward _ m _ i j h w k) =
      let r = link_stay P Q closed R both m v (closed u m i j w h (link_first g P m v k) q) k in
      (onward u m v i j (both u h q) w r.0, r.1)

  -- a node that splits the part of t in Q splits t, if no wire of t leaves Q
  lift : (t part : g.Node → Bool) (Q : g.Node → Type 0) → ((k : g.Node) → IsIn k t → Q k → IsIn k part) → ((l m : g.Node) (i j : ℕ) → g.Wire (l, i) (m, j) → IsIn l t → IsIn m t → Q l → Q m) → (n : g.Node) → IsIn n t → Q n → SplitsAt g n part → SplitsAt g n t
  lift t part Q both closed n here q s = record {
    own = s.own;
    touched = λ i j l m k h w v link.
        let a : Without n t l = link_first g (Without n t) l m link in
        let inside = link_stay (Without n t) Q (λ l m i j w x y. closed l m i j w x.0 y.0) (Without n part) (λ k x y. (both k x.0 y, x.1)) l m (closed n l i k w here a.0 q) link in
        s.touched i j l m k h w v inside.0;
  }

  -- each set of nodes of s that isn't empty has a node that splits it
  abbrev pub EachPartSplits : (g.Node → Bool) → Type 0
  EachPartSplits s = (t : g.Node → Bool) → ((k : g.Node) → IsIn k t → IsIn k s) → (m : g.Node) → IsIn m t → (n : g.Node) × IsIn n t × SplitsAt g n t

  module _ (s a b : g.Node → Bool) (parts : AreParts s a b) (p q : g.Node × ℕ) (only : (u v : g.Node × ℕ) → g.Wire u v → IsIn u.0 a → IsIn v.0 b → (u ≡ p) × (v ≡ q)) where
    -- links from a to b go through p
    link_over : (P : g.Node → Type 0) → ((k : g.Node) → P k → IsIn k s) → (u v : g.Node) → IsIn u a → IsIn v b → Linked g P u v → P p.0
    link_over P in_s u v ua vb (alone _ h) = absurd ((parts u).1 ua vb)
    link_over P in_s u v ua vb (onward _ m _ i j h w k) =
        elim ((parts m).0.0 (in_s m (link_first g P m v k))) [
          | inl ma ↦ link_over P in_s m v ma vb k
          | inr mb ↦ subst P (ap (λ r. r.0) (only (u, i) (m, j) w ua mb).0) h
        ]

    -- links that end in a stay there, or do so after they have come back to p
    link_back : (P : g.Node → Type 0) → ((k : g.Node) → P k → IsIn k s) → (u v : g.Node) → IsIn v a → Linked g P u v → (IsIn u a → Linked g (λ k. P k × IsIn k a) u v) × (IsIn u b → Linked g (λ k. P k × IsIn k a) p.0 v)
    link_back P in_s u v va (alone _ h) = ((λ ua. alone u (h, ua)), λ ub. absurd ((parts u).1 va ub))
    link_back P in_s u v va (onward _ m _ i j h w k) =
        let r = link_back P in_s m v va k in
        elim ((parts m).0.0 (in_s m (link_first g P m v k))) [
          | inl ma ↦ (
            (λ ua. onward u m v i j (h, ua) w (r.0 ma)),
            λ ub. subst (λ z. Linked g (λ k. P k × IsIn k a) z v) (ap (λ r. r.0) (only (m, j) (u, i) (wire_back (u, i) (m, j) w) ma ub).0) (r.0 ma),
          )
          | inr mb ↦ (
            (λ ua. subst (λ z. Linked g (λ k. P k × IsIn k a) z v) (sym (ap (λ r. r.0) (only (u, i) (m, j) w ua mb).0)) (r.1 mb)),
            λ ub. r.1 mb,
          )
        ]

    -- a node that splits the part of t in a splits t
    lift_over : (t : g.Node → Bool) → ((k : g.Node) → IsIn k t → IsIn k s) → (n : g.Node) → IsIn n t → IsIn n a → SplitsAt g n (λ k. t k && a k) → SplitsAt g n t
    lift_over t in_s n here na split = record {
      own = split.own;
      touched = λ i j l m k h w v link. over i j l m k h w v link ((parts l).0.0 (in_s l (link_first g (Without n t) l m link).0)) ((parts m).0.0 (in_s m (link_last g (Without n t) l m link).0));
    }
      where
        at : (i : ℕ) (l : g.Node) (k : ℕ) → g.Wire (n, i) (l, k) → IsIn l b → (n, i) ≡ p
        at i l k w lb = (only (n, i) (l, k) w na lb).0

        over : (i j : ℕ) (l m : g.Node) (k h : ℕ) → g.Wire (n, i) (l, k) → g.Wire (n, j) (m, h) → Linked g (Without n t) l m → IsIn l a ⊎ IsIn l b → IsIn m a ⊎ IsIn m b → g.class n i ≡ g.class n j
        over i j l m k h w v link (inl la) (inl ma) =
            split.touched i j l m k h w v (link_map g (λ z. Without n t z × IsIn z a) (Without n (λ z. t z && a z)) (λ z x. (and_from (t z) (a z) x.0.0 x.1, x.0.1)) l m
            ((link_back (Without n t) (λ z x. in_s z x.0) l m ma link).0 la))
        over i j l m k h w v link (inr lb) (inl ma) =
            let x = link_first g (λ z. Without n t z × IsIn z a) p.0 m ((link_back (Without n t) (λ z x. in_s z x.0) l m ma link).1 lb) in
            absurd (x.0.1 (sym (ap (λ r. r.0) (at i l k w lb))))
        over i j l m k h w v link (inl la) (inr mb) =
            let x = link_over (Without n t) (λ z x. in_s z x.0) l m la mb link in
            absurd (x.1 (sym (ap (λ r. r.0) (at j m h v mb))))
        over i j l m k h w v link (inr lb) (inr mb) = ap (λ r. g.class r.0 r.1) (at i l k w lb ∙ sym (at j m h v mb))

  -- two parts joined by at most one wire
  in_two : (s a b : g.Node → Bool) → AreParts s a b → (p q : g.Node × ℕ) → ((u v : g.Node × ℕ) → g.Wire u v → IsIn u.0 a → IsIn v.0 b → (u ≡ p) × (v ≡ q)) → EachPartSplits a → EachPartSplits b → EachPartSplits s
  in_two s a b parts p q only x y t in_s m here = go ((parts m).0.0 (in_s m here))
    where
      back : (u v : g.Node × ℕ) → g.Wire u v → IsIn u.0 b → IsIn v.0 a → (u ≡ q) × (v ≡ p)
      back u v w ub va = ((only v u (wire_back u v w) va ub).1, (only v u (wire_back u v w) va ub).0)

      go : IsIn m a ⊎ IsIn m b → (n : g.Node) × IsIn n t × SplitsAt g n t
      go (inl ma) =
          let r = x (λ k. t k && a k) (λ k h. both_right (t k) (a k) h) m (and_from (t m) (a m) here ma) in
          (r.0, both_left (t r.0) (a r.0) r.1, lift_over s a b parts p q only t in_s r.0 (both_left (t r.0) (a r.0) r.1) (both_right (t r.0) (a r.0) r.1) r.2)
      go (inr mb) =
          let r = y (λ k. t k && b k) (λ k h. both_right (t k) (b k) h) m (and_from (t m) (b m) here mb) in
          (r.0, both_left (t r.0) (b r.0) r.1, lift_over s b a (swap_parts s a b parts) q p back t in_s r.0 (both_left (t r.0) (b r.0) r.1) (both_right (t r.0) (b r.0) r.1) r.2)

  -- the agent of a graft splits each set of its nodes that it is in
  root_splits : (n : g.Node) (s : g.Node → Bool) (part : g.Node → ℕ) → (many : ℕ) → IsGraft g n many s part → (t : g.Node → Bool) → ((k : g.Node) → IsIn k t → IsIn k s) → SplitsAt g n t
  root_splits n s part many r t in_s = record {
    own = r.own;
    touched = λ i j l m k h w v link.
        let a = link_first g (Without n t) l m link in
        let b = link_last g (Without n t) l m link in
        let same = link_stay (Without n t) (λ z. part l ≡ part z) (λ y z i j w x x'. λ e. e ∙ r.among y z i j (in_s y x.0) (in_s z x'.0) x.1 x'.1 w) (λ z. Unit {0}) (λ z x y. tt) l m refl link in
        sym (r.to i k l (in_s l a.0) a.1 w) ∙ same.1 ∙ r.to j h m (in_s m b.0) b.1 v;
  }

  pub each_part_splits : {IsAgent : g.Node → Type 0} → {classes : g.Node → ℕ} → {s : g.Node → Bool} → Built g IsAgent classes s → EachPartSplits s
  each_part_splits (empty s none) t in_s m here = absurd (not_both (s m) (in_s m here) (none m))
  each_part_splits (given n s _ all self) t in_s m here = (
    m,
    here,
    record {
      own = λ i j w. absurd (self i j (subst (λ z. g.Wire (z, i) (z, j)) ((all m).0 (in_s m here)) w));
      touched = λ i j l k _ _ w v link.
          let a = link_first g (Without m t) l k link in
          absurd (a.1 ((all l).0 (in_s l a.0) ∙ sym ((all m).0 (in_s m here))));
    },
  )
  each_part_splits (mix s a b parts apart x y) t in_s m here =
      in_two s a b parts (m, 0) (m, 0) (λ u v w ua vb. absurd (apart u v w ua vb)) (each_part_splits x) (each_part_splits y) t in_s m here
  each_part_splits (cut s a b p q parts joined pa qb only x y) t in_s m here =
      in_two s a b parts p q only (each_part_splits x) (each_part_splits y) t in_s m here
  each_part_splits {classes = classes} (graft n s part _ r nets) t in_s m here = go (t n) refl (λ z le. each_part_splits (nets (part m) z le))
    where
      go : (b : Bool) → t n ≡ b → (0 < part m → part m ≤ classes n → EachPartSplits (numbered s part (part m))) → (n : g.Node) × IsIn n t × SplitsAt g n t
      go true h net = (n, h, root_splits n s part (classes n) r t in_s)
      go false h net =
          let other : (k : g.Node) → IsIn k t → k ≢ n = λ k kt e. let u : t n ≡ true = sym (ap t e) ∙ kt in cc in
          let c = net (r.others m (in_s m here) (other m here)) (r.most m (in_s m here) (other m here)) (λ k. t k && nat_eq (part k) (part m))
          (λ k x. and_from (s k) (nat_eq (part k) (part m)) (in_s k (both_left (t k) (nat_eq (part k) (part m)) x)) (both_right (t k) (nat_eq (part k) (part m)) x))
          m (and_from (t m) (nat_eq (part m) (part m)) here (eq-eqb (part m) (part m) refl)) in
          let in_t = both_left (t c.0) (nat_eq (part c.0) (part m)) c.1 in (
            c.0,
            in_t,
            lift t (λ k. t k && nat_eq (part k) (part m)) (λ k. part k ≡ part m)
                (λ k x y. and_from (t k) (nat_eq (part k) (part m)) x (eq-eqb (part k) (part m) y))
                (λ l k i j w x y e. sym (r.among l k i j (in_s l x) (in_s k y) (other l x) (other k y) w) ∙ e)
                c.0 in_t (eqb-true (part c.0) (part m) (both_right (t c.0) (nat_eq (part c.0) (part m)) c.1)) c.2,
          )
