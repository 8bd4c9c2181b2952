-- A graft: its classes are gathered one by one, and its own ports joined to them.
use Rattle.std.proofs.Common.{◌≡◌, ◌↔◌, ◌<◌, ◌≤◌, ◌+◌, ◌-◌, ℕ, zero, suc, Bool, true, false, cond, ◌||◌, nat_eq, Some, None, List, [], ◌∷◌, length, drop, get_or, slice_get, refl, sym, subst, ap, inl, inr, ◌∙◌, eq-eqb, ne_eqb, arith}
use Rattle.std.proofs.Math.ListN.{set}
use Rattle.std.proofs.lemmas.List.{length-set, drop_all}
use Rattle.std.proofs.lemmas.Option.{slice_get_within}
use Rattle.in_open_nets.specs.declared.open_nets.OpenPoint.{OpenPoint}
use Rattle.in_open_nets.specs.declared.open_nets.OpenPoint.TheVariants.{Port, Free}
use Rattle.in_simple.specs.declared.verifying.Built.{Built}
use Rattle.in_open_nets.specs.OpenNets.{OpenNet, IsWire, IsAgent, classes_of, class_in}
use Rattle.in_open_nets.specs.declared.derivations.Step.TheVariants.{Graft}
use Rattle.in_open_nets.specs.Derivations.{Part, is_principal, is_auxiliary, is_among, nodes_of, links_of, ends_of, IsGrafted, times}
use Rattle.in_simple.specs.Checking.{BuiltParts, ends_at, has_node, has_link, in_one, IsSizedBuilt, IsBuiltPart, AllHold, Gathers, IsNothing, Took, MakesPart, IsMadeByStep, AreOpen, IsInClass, IsOpenAt, IsOpen, HasClassBuilt, AreGrafted, OnStep, IsClassTaken, IsClassRefused, AreGathered, AreRefused, IsGraftedTo, LacksSome}
use Rattle.in_open_nets.specs.Members.{nodes_in}
use Rattle.in_open_nets.proofs.Public.{same_nat, one_same, one_other, at_set, at_other, drop_here}
use Rattle.in_base.proofs.Places.{some_same}
use Rattle.in_simple.proofs.VerifyMade.{AtWires, beside_counted, at_points, at_wires, gathers_none, gathers_more, share_none}
use Rattle.in_simple.proofs.VerifyTaken.{taken_counted, took_hold, took_kept, again_left, earlier_length}
use Rattle.std.proofs.lemmas.Bool.{or_left, or_right}

all_length : (o : OpenNet) (bs : List Built) (xs : List Part) → AllHold o bs xs → length bs ≡ length xs
all_length o [] [] h = refl
all_length o [] (x ∷ xs) h = absurd h
all_length o (b ∷ bs) [] h = absurd h
all_length o (b ∷ bs) (x ∷ xs) h = ap suc (all_length o bs xs h.1)

took_length : (is : List ℕ) (old new : BuiltParts) (bs : List Built) → Took is old new bs → length is ≡ length bs
took_length [] old new [] h = refl
took_length [] old new (b ∷ bs) h = absurd h
took_length (i ∷ is) old new [] h = absurd h
took_length (i ∷ is) old new (b ∷ bs) h = ap suc (took_length is old h.0 bs h.1)

module _ (o : OpenNet) (n : ℕ) where
  -- the ends for the ports of a class
  abbrev HasEnds : ℕ → Part → Type 0
  HasEnds c x = (w i : ℕ) (q : OpenPoint) → IsWire o w (Port n i) q → class_in o n i ≡ c → 0 < x.ends (Port n i)

  class_ends : (c : ℕ) (b : Built) (x : Part) → IsBuiltPart o b x → HasClassBuilt o n c b → HasEnds c x
  class_ends c b x h k w i q (inl e) f = let u = (h.ends w (Port n i) q e).0 in let v = (k w (slice_get_within o.wires w (Port n i, q) e) (Port n i) q e).0 (refl, f) in omega arith
  class_ends c b x h k w i q (inr e) f = let u = (h.ends w q (Port n i) e).1 in let v = (k w (slice_get_within o.wires w (q, Port n i) e) q (Port n i) e).1 (refl, f) in omega arith

  ends_class : (c : ℕ) (b : Built) (x : Part) → IsBuiltPart o b x → HasEnds c x → HasClassBuilt o n c b
  ends_class c b x h k w l p q e = (
    (λ f. go p q f (inl e) (h.ends w p q e).0),
    λ f. go q p f (inr e) (h.ends w p q e).1,
  )
    where
      go : (p q : OpenPoint) {m : ℕ} → IsInClass o n c p → IsWire o w p q → x.ends p ≡ m → 0 < m
      go (Port m i) q f g u =
          let g' : IsWire o w (Port n i) q = subst (λ z. IsWire o w (Port z i) q) f.0 g in
          let v = k w i q g' f.1 in
          let u' : x.ends (Port n i) ≡ x.ends (Port m i) = ap (λ z. x.ends (Port z i)) (sym f.0) in
          omega arith
      go (Free j) q f g u = absurd f

  pub gathered_none : (old : BuiltParts) (c : ℕ) (built : Built) → IsNothing o built → AreGathered o n c [] old old built
  gathered_none old c built h = record {
    from = [];
    took = refl;
    gathers = λ xs a. go xs a;
    counted = λ m. let e : in_one built m ≡ 0 = ap (λ z. cond z 1 0) (h.nodes m) in omega arith;
  }
    where
      go : (xs : List Part) → AllHold o [] xs → Gathers o built xs × AreOpen o n c xs
      go [] a = (gathers_none o built h, tt)
      go (x ∷ xs) a = absurd a

  pub gathered_more : (c i : ℕ) (is : List ℕ) (old mid new : BuiltParts) (built built' : Built) → AreGathered o n (suc c) is old mid built → IsClassTaken o n (suc c) i mid new built built' → AreGathered o n c (i ∷ is) old new built'
  gathered_more c i is old mid new built built' h t = record {
    from = t.0 ∷ h.from;
    took = (mid, h.took, t.1);
    gathers = λ xs a. go xs a;
    counted = λ m. let a = h.counted m in let b = taken_counted i mid new t.0 t.1 m in let d = beside_counted o t.0 built built' t.3 m in omega arith;
  }
    where
      go : (xs : List Part) → AllHold o (t.0 ∷ h.from) xs → Gathers o built' xs × AreOpen o n c xs
      go [] a = absurd a
      go (x ∷ xs) a = let r = h.gathers xs a.1 in (gathers_more o t.0 built built' x xs t.3 a.0 r.0, (class_ends (suc c) t.0 x a.0 t.2, r.1))

  -- a graft that is refused at one class is refused
  pub refused_here : (c i : ℕ) (is : List ℕ) (old mid : BuiltParts) (built : Built) → AreGathered o n (suc c) is old mid built → IsClassRefused o n (suc c) i mid built → AreRefused o n c (i ∷ is) old
  refused_here c i is old mid built h (inl none) all from held e d s p = (i, or_left (nat_eq i i) (is_among i is) (eq-eqb i i refl), again_left is old mid h.from i h.took none d.0)
  refused_here c i is old mid built h (inr r) all [] held e d s p = absurd e
  refused_here c i is old mid built h (inr r) all (x ∷ xs) held e d s p =
      let g = held i r.0 (took_kept is old mid h.from h.took i r.0 r.1) in
      let b = subst (λ z. IsBuiltPart o r.0 z) (some_same (slice_get all i) g.0 x g.1 e.1) g.2 in
      elim r.2 [
        | inl no_class ↦ absurd (no_class (ends_class (suc c) r.0 x b p.0))
        | inr shared ↦ absurd (share_none o r.0 built x xs shared b (h.gathers xs (took_hold o all (length old) is old mid h.from xs h.took held e.2)).0 s)
      ]

  refused_more : (c i : ℕ) (is : List ℕ) (old : BuiltParts) → AreRefused o n (suc c) is old → AreRefused o n c (i ∷ is) old
  refused_more c i is old r all [] held e d s p = absurd e
  refused_more c i is old r all (x ∷ xs) held e d s p =
      let k = r all xs held e.2 d.1 s.2 p.1 in
      (k.0, or_right (nat_eq k.0 i) (is_among k.0 is) k.1, k.2)

  refused_from : (k c : ℕ) (is : List ℕ) (old : BuiltParts) → k < length is → AreRefused o n (k + c) (drop k is) old → AreRefused o n c is old
  refused_from zero c is old l r = let e : 0 + c ≡ c = omega arith in subst (λ z. AreRefused o n z is old) e r
  refused_from (suc k) c [] old l r = absurd (omega arith)
  refused_from (suc k) c (i ∷ is) old l r =
      let e : suc k + c ≡ k + suc c = omega arith in
      refused_more c i is old (refused_from k (suc c) is old (omega arith) (subst (λ z. AreRefused o n z (drop k is) old) e r))

  pub refused_all : (k : ℕ) (is : List ℕ) (old : BuiltParts) → k < length is → AreRefused o n k (drop k is) old → AreRefused o n 0 is old
  refused_all k is old l r = let e : k + 0 ≡ k = omega arith in refused_from k 0 is old l (subst (λ z. AreRefused o n z (drop k is) old) (sym e) r)

  -- the ends for the classes, one by one
  open_at : (c : ℕ) (xs : List Part) → AreOpen o n c xs → (k w i : ℕ) (q : OpenPoint) (x : Part) → IsWire o w (Port n i) q → class_in o n i ≡ suc (k + c) → slice_get xs k ≡ Some x → 0 < x.ends (Port n i)
  open_at c [] a k w i q x h e g = cc
  open_at c (y ∷ ys) a zero w i q x h e g =
      let f : 0 + c ≡ c = omega arith in
      subst (λ z. 0 < z.ends (Port n i)) (some_same (Some y) y x refl g) (a.0 w i q h (e ∙ ap suc f))
  open_at c (y ∷ ys) a (suc k) w i q x h e g =
      let f : suc k + c ≡ k + suc c = omega arith in
      open_at (suc c) ys a.1 k w i q x h (e ∙ ap suc f) g

  open_all : (c : ℕ) (xs : List Part) → ((k w i : ℕ) (q : OpenPoint) (x : Part) → IsWire o w (Port n i) q → class_in o n i ≡ suc (k + c) → slice_get xs k ≡ Some x → 0 < x.ends (Port n i)) → AreOpen o n c xs
  open_all c [] f = tt
  open_all c (y ∷ ys) f = (
    (λ w i q h e. let z : 0 + c ≡ c = omega arith in f 0 w i q y h (e ∙ ap suc (sym z)) refl),
    open_all (suc c) ys (λ k w i q x h e g. let z : suc k + c ≡ k + suc c = omega arith in f (suc k) w i q x h (e ∙ ap suc (sym z)) g),
  )

  pub grafted_open : (xs : List Part) → IsGrafted o n xs → AreOpen o n 0 xs
  grafted_open xs g = open_all 0 xs (λ k w i q x h e f. let z : k + 0 ≡ k = omega arith in g.each w i k q x h (e ∙ ap suc z) f)

  open_grafted : (xs : List Part) → IsAgent o n → length xs ≡ classes_of o n → AreOpen o n 0 xs → IsGrafted o n xs
  open_grafted xs a m p = record {
    agent = a;
    many = m;
    each = λ w i c q x h e f. let z : c + 0 ≡ c = omega arith in open_at 0 xs p c w i q x h (e ∙ ap suc (sym z)) f;
  }

  -- the node put in, and its ends joined
  pub record IsGraftOf (built c : Built) : Type 0 where
    pub new : has_node built n ≡ false
    pub nodes : (m : ℕ) → has_node c m ≡ (nat_eq m n || has_node built m)
    pub links : c.links ≡ built.links
    pub ends : IsGraftedTo o n built.ends c.ends (length o.wires)

  or_or : (b c : Bool) → (b || c) ≡ ((b || false) || c)
  or_or true c = refl
  or_or false c = refl

  graft_counted : (built c : Built) → IsGraftOf built c → (m : ℕ) → in_one c m ≡ in_one built m + times m (n ∷ [])
  graft_counted built c h m = elim (same_nat m n) [
    | inl e ↦
        let f : has_node c m ≡ true = h.nodes m ∙ or_left (nat_eq m n) (has_node built m) (eq-eqb m n e) in
        let g : has_node built m ≡ false = subst (λ z. has_node built z ≡ false) (sym e) h.new in
        let a : in_one c m ≡ 1 = ap (λ z. cond z 1 0) f in
        let b : in_one built m ≡ 0 = ap (λ z. cond z 1 0) g in
        let d = one_same m n e in
        omega arith
    | inr e ↦
        let f : has_node c m ≡ has_node built m = h.nodes m ∙ ap (λ z. z || has_node built m) (ne_eqb m n e) in
        let a : in_one c m ≡ in_one built m = ap (λ z. cond z 1 0) f in
        let d = one_other m n e in
        omega arith
  ]

  pub made_graft : (is : List ℕ) (built c : Built) (xs : List Part) → IsAgent o n → length xs ≡ classes_of o n → AreOpen o n 0 xs → Gathers o built xs → IsGraftOf built c → (x : Part) → MakesPart o (Graft n is) xs x ↔ IsBuiltPart o c x
  made_graft is built c xs a m p g h x =
      let R : ℕ → OpenPoint → OpenPoint → ℕ → Type 0 = λ w p q e. e + is_auxiliary n q ≡ ends_of xs q + is_principal n p in
      let f : AtWires o R c = λ w p q e.
      let u = (g.ends w p q e).0 in
      let v = (g.ends w p q e).1 in
      let k = h.ends.below w p q (slice_get_within o.wires w (p, q) e) e in
      let k0 = k.0 in
      let k1 = k.1 in
      (omega arith, omega arith) in
      let links : (w : ℕ) → links_of xs w ≡ has_link c w = λ w. subst (λ s. links_of xs w ≡ nodes_in s w) (sym h.links) (g.links w) in (
        (λ y. record {
          nodes = λ m. y.nodes m ∙ sym (or_or (nat_eq m n) (nodes_of xs m)) ∙ ap (λ z. nat_eq m n || z) (g.nodes m) ∙ sym (h.nodes m);
          links = λ w. y.links w ∙ links w;
          ends = at_wires o R c x (λ w p q e f g k. omega arith) f y.joins.1;
        }),
        λ k. record {
          apart = g.share;
          nodes = λ m. k.nodes m ∙ h.nodes m ∙ ap (λ z. nat_eq m n || z) (sym (g.nodes m)) ∙ or_or (nat_eq m n) (nodes_of xs m);
          links = λ w. k.links w ∙ sym (links w);
          joins = (open_grafted xs a m p, at_points o R c x f k);
        },
      )

  pub graft_made : (is : List ℕ) (old new : BuiltParts) (built c : Built) → IsAgent o n → length is ≡ classes_of o n → AreGathered o n 0 is old new built → IsGraftOf built c → IsSizedBuilt o c → IsMadeByStep o (Graft n is) old new c
  graft_made is old new built c a m g h s = record {
    from = g.from;
    took = g.took;
    sized = s;
    makes = λ xs all x.
        let r = g.gathers xs all in
        made_graft is built c xs a (sym (all_length o g.from xs all) ∙ sym (took_length is old new g.from g.took) ∙ m) r.1 r.0 h x;
    counted = λ k. let u = g.counted k in let v = graft_counted built c h k in omega arith;
  }

  -- an end that is lacking
  pub graft_lacks : (built : Built) (xs : List Part) (x : Part) → LacksSome o n built.ends → Gathers o built xs → ((w : ℕ) (p q : OpenPoint) → IsWire o w p q → x.ends q + is_auxiliary n q ≡ ends_of xs q + is_principal n p) → ⊥
  graft_lacks built xs x (w, p, q, h, inl l) g f =
      let u = (g.ends w p q h).0 in
      let v = f w q p (inr h) in
      omega arith
  graft_lacks built xs x (w, p, q, h, inr l) g f =
      let u = (g.ends w p q h).1 in
      let v = f w p q (inl h) in
      omega arith

  -- ---- loops

  pub open_more : (c : ℕ) (es : List (ℕ × ℕ)) (k : ℕ) → IsOpen o n c es k → IsOpenAt o n c k (ends_at es k) → IsOpen o n c es (k + 1)
  open_more c es k h here w l = elim (same_nat w k) [
    | inl e ↦ subst (λ z. IsOpenAt o n c z (ends_at es z)) (sym e) here
    | inr d ↦ h w (omega arith)
  ]

  pub graft_more : (old es : List (ℕ × ℕ)) (k : ℕ) (v : OpenPoint × OpenPoint) (left : ℕ × ℕ) → IsGraftedTo o n old es k → slice_get o.wires k ≡ Some v → k < length es → AreGrafted n v.0 v.1 (ends_at es k) left → IsGraftedTo o n old (set es k left) (k + 1)
  graft_more old es k v left h e l g = record {
    size = length-set es k left ∙ h.size;
    below = λ w p q b f. elim (same_nat w k) [
      | inl d ↦
          let s : v ≡ (p, q) = some_same (slice_get o.wires k) v (p, q) e (subst (λ z. slice_get o.wires z ≡ Some (p, q)) d f) in
          let a : ends_at es k ≡ ends_at old w = h.above k (λ l. omega arith) ∙ ap (ends_at old) (sym d) in
          subst (λ z. AreGrafted n p q (ends_at old w) z) (sym (at_set es k left (0, 0) w l d))
          (subst (λ z. AreGrafted n p q z left) a (subst (λ z. AreGrafted n z.0 z.1 (ends_at es k) left) s g))
      | inr d ↦ subst (λ z. AreGrafted n p q (ends_at old w) z) (sym (at_other es k left (0, 0) w d)) (h.below w p q (omega arith) f)
    ];
    above = λ w b. at_other es k left (0, 0) w (λ d. b (omega arith)) ∙ h.above w (λ l. b (omega arith));
  }

  pub classes_more : (is : List ℕ) (old mid new : BuiltParts) (built built' : Built) (class : ℕ) → 0 < class → class ≤ length is → AreGathered o n class (drop class is) old mid built → IsClassTaken o n class (get_or is (class - 1) 0) mid new built built' → AreGathered o n (class - 1) (drop (class - 1) is) old new built'
  classes_more is old mid new built built' zero l m h t = absurd (omega arith)
  classes_more is old mid new built built' (suc k) l m h t =
      let e : suc k - 1 ≡ k = omega arith in
      subst (λ z. AreGathered o n z (drop z is) old new built') (sym e)
      (subst (λ z. AreGathered o n k z old new built') (sym (drop_here is k (omega arith)))
      (gathered_more k (get_or is k 0) (drop (suc k) is) old mid new built built' h (subst (λ z. IsClassTaken o n (suc k) (get_or is z 0) mid new built built') e t)))

  pub classes_refused : (is : List ℕ) (old mid : BuiltParts) (built : Built) (class : ℕ) → 0 < class → class ≤ length is → AreGathered o n class (drop class is) old mid built → IsClassRefused o n class (get_or is (class - 1) 0) mid built → AreRefused o n 0 is old
  classes_refused is old mid built zero l m h t = absurd (omega arith)
  classes_refused is old mid built (suc k) l m h t =
      let e : suc k - 1 ≡ k = omega arith in
      refused_all k is old (omega arith)
      (subst (λ z. AreRefused o n k z old) (sym (drop_here is k (omega arith)))
      (refused_here k (get_or is k 0) (drop (suc k) is) old mid built h (subst (λ z. IsClassRefused o n (suc k) (get_or is z 0) mid built) e t)))

  pub classes_start : (is : List ℕ) (old : BuiltParts) (built : Built) → IsNothing o built → AreGathered o n (length is) (drop (length is) is) old old built
  classes_start is old built h = subst (λ z. AreGathered o n (length is) z old old built) (sym (drop_all (length is) is (omega arith))) (gathered_none old (length is) built h)

  -- ---- the reasons of a refused graft

  pub none_grafts : (is : List ℕ) (old new : BuiltParts) → (IsAgent o n × (length is ≡ classes_of o n) → ⊥) → OnStep o (Graft n is) old new None
  none_grafts is old new h all x held b = absurd (h (b.joins.0.agent, earlier_length all (length old) is b.from b.earlier ∙ b.joins.0.many))

  pub classes_none : (is : List ℕ) (old new : BuiltParts) → AreRefused o n 0 is old → OnStep o (Graft n is) old new None
  classes_none is old new h all x held b = inl (h all b.from held b.earlier b.different b.apart (grafted_open b.from b.joins.0))

  pub node_again : (is : List ℕ) (old new : BuiltParts) (built : Built) → AreGathered o n 0 is old new built → has_node built n ≡ true → OnStep o (Graft n is) old new None
  node_again is old new built g h all x held b =
      let u = g.counted n in
      let v : in_one built n ≡ 1 = ap (λ z. cond z 1 0) h in
      inr (n, or_left (nat_eq n n) false (eq-eqb n n refl), omega arith)

  pub ends_lack : (is : List ℕ) (old new : BuiltParts) (built : Built) → AreGathered o n 0 is old new built → LacksSome o n built.ends → OnStep o (Graft n is) old new None
  ends_lack is old new built g l all x held b =
      let a = took_hold o all (length old) is old new g.from b.from g.took held b.earlier in
      absurd (graft_lacks built b.from x l (g.gathers b.from a).0 b.joins.1)
