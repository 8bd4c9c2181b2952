-- The steps so far, the nets that they build, and the steps that are left.
use Rattle.std.proofs.Common.{◌≡◌, ◌↔◌, ◌<◌, ◌≤◌, ◌+◌, ◌-◌, ℕ, zero, suc, true, false, cond, nat_eq, Option, Some, None, List, [], ◌∷◌, ◌++◌, length, length-append, take, slice_get, refl, sym, subst, ap, inl, inr, ◌∙◌, eq-eqb, arith}
use Rattle.std.proofs.lemmas.Option.{slice_get_within}
use Rattle.in_simple.specs.declared.verifying.Built.{Built}
use Rattle.in_open_nets.specs.OpenNets.{OpenNet, IsOpenNet}
use Rattle.in_open_nets.specs.declared.derivations.Step.{Step}
use Rattle.in_open_nets.specs.Derivations.{Part, named, own_nodes, is_among, HaveNoRepeats, AreEarlier, BuildsPart, IsDerivation, is_free, times, times_in}
use Rattle.in_simple.specs.Checking.{BuiltParts, AreSizedBuilt, AreHeld, AllHold, Again, IsBuiltPart, IsLastBuilt, IsMadeByStep, IsWholeNet, IsSizedBuilt, IsTaken, Took, MakesPart, OnStep, OnAlone, OnPair, has_node, in_one, left_of, left_at, times_left}
use Rattle.in_simple.proofs.Named.{AreLeft, left_start, left_more, left_app, take_whole, times_next}
use Rattle.in_open_nets.proofs.Public.{get_past, get_cases, same_nat, at_most, one_same, one_other, earlier_of, times_among}
use Rattle.in_open_nets.proofs.Public.{is_node}
use Rattle.in_base.proofs.Options.{snoc_parts}
use Rattle.in_base.proofs.Places.{kept_at, unsnoc}
use Rattle.in_base.proofs.Places.{some_same}
use Rattle.in_simple.proofs.VerifyMade.{at_points, part_of, holds_part}
use Rattle.in_simple.proofs.VerifyTaken.{left_most, taken_counted, took_takes, took_kept, took_sized, took_different, took_hold, took_from, again_left}
use Rattle.std.proofs.lemmas.Bool.{or_left, or_right, cases_Bool}

-- the first k steps build these parts
abbrev pub IsPrefix : OpenNet → List Step → ℕ → List Part → Type 0
IsPrefix o steps k all = (i : ℕ) (step : Step) → i < k → slice_get steps i ≡ Some step → (x : Part) × (slice_get all i ≡ Some x) × BuildsPart o all i step x

-- the steps and nets that the first k steps leave
pub record AreBuilt (o : OpenNet) (steps : List Step) (k : ℕ) (parts : BuiltParts) : Type 0 where
  pub left : AreLeft steps k parts
  pub last : (j : ℕ) → k ≡ suc j → left_at parts j ≡ 1
  pub sized : AreSizedBuilt o parts
  pub counted : (n : ℕ) → times_left n parts ≡ times_in own_nodes n (take k steps)
  pub held : (all : List Part) → IsPrefix o steps k all → AreHeld o parts all
  pub some : IsOpenNet o → (all : List Part) × (length all ≡ k) × IsPrefix o steps k all

-- parts that agree below k
earlier_as : (all more : List Part) (k : ℕ) → ((i : ℕ) (x : Part) → i < k → slice_get all i ≡ Some x → slice_get more i ≡ Some x) → (is : List ℕ) (xs : List Part) → AreEarlier all k is xs → AreEarlier more k is xs
earlier_as all more k f [] [] e = tt
earlier_as all more k f [] (x ∷ xs) e = e
earlier_as all more k f (i ∷ is) [] e = e
earlier_as all more k f (i ∷ is) (x ∷ xs) e = (e.0, f i x e.0 e.1, earlier_as all more k f is xs e.2)

times_left_app : (n : ℕ) (parts : BuiltParts) (c : Built) → times_left n (parts ++ Some c ∷ []) ≡ times_left n parts + in_one c n
times_left_app n [] c = omega arith
times_left_app n (None ∷ parts) c = times_left_app n parts c
times_left_app n (Some b ∷ parts) c = let r = times_left_app n parts c in omega arith

module _ (o : OpenNet) where
  builds_as : (all more : List Part) (k : ℕ) → ((i : ℕ) (x : Part) → i < k → slice_get all i ≡ Some x → slice_get more i ≡ Some x) → (step : Step) (x : Part) → BuildsPart o all k step x → BuildsPart o more k step x
  builds_as all more k f step x b = record {
    from = b.from;
    earlier = earlier_as all more k f (named step) b.from b.earlier;
    different = b.different;
    apart = b.apart;
    nodes = b.nodes;
    links = b.links;
    joins = b.joins;
  }

  -- a made step builds exactly the net that is kept
  pub builds_held : (step : Step) (old new : BuiltParts) (c : Built) (all : List Part) → IsMadeByStep o step old new c → AreHeld o old all → (k : ℕ) (x : Part) → BuildsPart o all k step x → IsBuiltPart o c x
  builds_held step old new c all m held k x b =
      (m.makes b.from (took_hold o all k (named step) old new m.from b.from m.took held b.earlier) x).0
      (record { apart = b.apart; nodes = b.nodes; links = b.links; joins = b.joins })

  pub held_builds : (step : Step) (old new : BuiltParts) (c : Built) (all : List Part) → IsMadeByStep o step old new c → AreHeld o old all → (x : Part) → IsBuiltPart o c x → BuildsPart o all (length old) step x
  held_builds step old new c all m held x h =
      let f = took_from o all (named step) old new m.from m.took held in
      let k = (m.makes f.0 f.2 x).1 h in
      record {
        from = f.0;
        earlier = f.1;
        different = took_different (named step) old new m.from m.took;
        apart = k.apart;
        nodes = k.nodes;
        links = k.links;
        joins = k.joins;
      }

  -- ---- steps that name none, or two

  makes_of : (all : List Part) (k : ℕ) (step : Step) (x : Part) → (b : BuildsPart o all k step x) → MakesPart o step b.from x
  makes_of all k step x b = record { apart = b.apart; nodes = b.nodes; links = b.links; joins = b.joins }

  from_none : (all : List Part) (k : ℕ) (is : List ℕ) (xs : List Part) → is ≡ [] → AreEarlier all k is xs → xs ≡ []
  from_none all k [] [] e h = refl
  from_none all k [] (x ∷ xs) e h = absurd h
  from_none all k (i ∷ is) xs e h = cc

  pub step_alone : (step : Step) (old : BuiltParts) (r : Option Built) → named step ≡ [] → OnAlone o step r → OnStep o step old old r
  step_alone step old None e h = λ all x held b. absurd (h x (subst (λ z. MakesPart o step z x) (from_none all (length old) (named step) b.from e b.earlier) (makes_of all (length old) step x b)))
  step_alone step old (Some c) e h = record {
    from = [];
    took = subst (λ z. Took z old old []) (sym e) refl;
    sized = h.0;
    makes = λ xs a. go xs a;
    counted = λ n. let u = h.2 n in omega arith;
  }
    where
      go : (xs : List Part) → AllHold o [] xs → (x : Part) → MakesPart o step xs x ↔ IsBuiltPart o c x
      go [] a = h.1
      go (x ∷ xs) a = absurd a

  module _ (f : ℕ → ℕ → Step) (two : (i j : ℕ) → named (f i j) ≡ i ∷ j ∷ []) (own : (i j : ℕ) → own_nodes (f i j) ≡ []) (a b : ℕ) (old : BuiltParts) where
    pub second_refused : (new : BuiltParts) → left_at old b ≡ 0 → OnStep o (f a b) old new None
    second_refused new h all x held k = inl (b, subst (λ z. is_among b z ≡ true) (sym (two a b)) (or_right (nat_eq b a) (is_among b (b ∷ [])) (or_left (nat_eq b b) false (eq-eqb b b refl))), h)

    pub first_refused : (mid new : BuiltParts) (second : Built) → IsTaken b old mid second → left_at mid a ≡ 0 → OnStep o (f a b) old new None
    first_refused mid new second t h all x held k =
        let d = subst HaveNoRepeats (two a b) k.different in
        inl (a, subst (λ z. is_among a z ≡ true) (sym (two a b)) (or_left (nat_eq a a) (is_among a (b ∷ [])) (eq-eqb a a refl)), again_left (b ∷ []) old mid (second ∷ []) a (old, refl, t) h d.0)

    pub step_pair : (mid new : BuiltParts) (first second : Built) (r : Option Built) → IsTaken b old mid second → IsTaken a mid new first → OnPair o f first second r → OnStep o (f a b) old new r
    step_pair mid new first second None t u h =
        λ all x held k. go x k.from (took_hold o all (length old) (a ∷ b ∷ []) old new (first ∷ second ∷ []) k.from (mid, (old, refl, t), u) held (subst (λ z. AreEarlier all (length old) z k.from) (two a b) k.earlier)) (makes_of all (length old) (f a b) x k)
      where
        go : (x : Part) (xs : List Part) → AllHold o (first ∷ second ∷ []) xs → MakesPart o (f a b) xs x → Again (f a b) old
        go x [] g m = absurd g
        go x (y ∷ []) g m = absurd g.1
        go x (y ∷ z ∷ []) g m = absurd (h a b y z x g.0 g.1.0 m)
        go x (y ∷ z ∷ v ∷ vs) g m = absurd g.1.1
    step_pair mid new first second (Some c) t u h = record {
      from = first ∷ second ∷ [];
      took = subst (λ z. Took z old new (first ∷ second ∷ [])) (sym (two a b)) (mid, (old, refl, t), u);
      sized = h.0;
      makes = λ xs g. go xs g;
      counted = λ n.
          let e = h.2 n in
          let v = taken_counted b old mid second t n in
          let w = taken_counted a mid new first u n in
          let z : times n (own_nodes (f a b)) ≡ 0 = ap (times n) (own a b) in
          omega arith;
    }
      where
        go : (xs : List Part) → AllHold o (first ∷ second ∷ []) xs → (x : Part) → MakesPart o (f a b) xs x ↔ IsBuiltPart o c x
        go [] g = absurd g
        go (y ∷ []) g = absurd g.1
        go (y ∷ z ∷ []) g = λ x. h.1 a b y z x g.0 g.1.0
        go (y ∷ z ∷ v ∷ vs) g = absurd g.1.1

-- ---- one step more

take_most : (f : Step → List ℕ) (n : ℕ) (steps : List Step) (k : ℕ) → times_in f n (take k steps) ≤ times_in f n steps
take_most f n [] zero = omega arith
take_most f n [] (suc k) = omega arith
take_most f n (x ∷ xs) zero = omega arith
take_most f n (x ∷ xs) (suc k) = let r = take_most f n xs k in omega arith

module _ (o : OpenNet) (steps : List Step) where
  pub built_start : (parts : BuiltParts) → parts ≡ [] → AreBuilt o steps 0 parts
  built_start parts e = subst (λ z. AreBuilt o steps 0 z) (sym e) (record {
    left = left_start steps [] refl;
    last = λ j f. cc;
    sized = λ i b f. cc;
    counted = λ n. refl;
    held = λ all h i b f. cc;
    some = λ net. ([], refl, (λ i step l f. absurd (omega arith)));
  })

  pub built_more : (k : ℕ) (parts new : BuiltParts) (step : Step) (c : Built) → AreBuilt o steps k parts → slice_get steps k ≡ Some step → IsMadeByStep o step parts new c → AreBuilt o steps (k + 1) (new ++ Some c ∷ [])
  built_more k parts new step c h e m =
      let t = took_takes (named step) parts new m.from m.took in
      let size : length new ≡ k = t.size ∙ h.left.size in
      record {
        left = left_more steps k parts new step c h.left e t;
        last = λ j f.
            let a = left_app new c j in
            let b = left_most (new ++ Some c ∷ []) j in
            let d = one_same j (length new) (omega arith) in
            omega arith;
        sized = λ i b f. elim (get_cases new (Some c ∷ []) i (Some b) f) [
          | inl g ↦ took_sized o (named step) parts new m.from m.took h.sized i b g
          | inr g ↦ subst (IsSizedBuilt o) (last_of g.0 b g.2) m.sized
        ];
        counted = λ n.
            let a = times_left_app n new c in
            let b = m.counted n in
            let d = h.counted n in
            let f = times_next own_nodes n steps k step e in
            omega arith;
        held = λ all p i b f.
            let p' : IsPrefix o steps k all = λ i step l e. p i step (omega arith) e in
            let held = h.held all p' in
            elim (get_cases new (Some c ∷ []) i (Some b) f) [
              | inl g ↦ held i b (took_kept (named step) parts new m.from m.took i b g)
              | inr g ↦
                  let x = p k step (omega arith) e in
                  let j : k ≡ i = let a = g.1 in let z = last_index g.0 b g.2 in omega arith in
                  (x.0, subst (λ z. slice_get all z ≡ Some x.0) j x.1, subst (λ z. IsBuiltPart o z x.0) (last_of g.0 b g.2) (builds_held o step parts new c all m held k x.0 x.2))
            ];
        some = some';
      }
    where
      last_of : (i : ℕ) (b : Built) → slice_get (Some c ∷ []) i ≡ Some (Some b) → c ≡ b
      last_of zero b f = cc
      last_of (suc i) b f = cc

      last_index : (i : ℕ) (b : Built) → slice_get (Some c ∷ []) i ≡ Some (Some b) → i ≡ 0
      last_index zero b f = refl
      last_index (suc i) b f = cc

      some' : IsOpenNet o → (all : List Part) × (length all ≡ k + 1) × IsPrefix o steps (k + 1) all
      some' net =
          let so = h.some net in
          let all = so.0 in
          let x = part_of o c in
          let held = h.held all so.2 in
          let l = so.1 in
          let size = length-append all (x ∷ []) in
          let more : (i : ℕ) (y : Part) → slice_get all i ≡ Some y → slice_get (all ++ x ∷ []) i ≡ Some y = λ i y g. kept_at all (x ∷ []) i y g in (
            all ++ x ∷ [],
            omega arith,
            λ i step' b f. elim (same_nat i k) [
              | inl g ↦
                  let same : step ≡ step' = some_same (slice_get steps k) step step' e (subst (λ z. slice_get steps z ≡ Some step') g f) in
                  let j : length parts ≡ i = h.left.size ∙ sym g in
                  let made = held_builds o step parts new c all m held x (holds_part o net c) in
                  (x, get_past all (x ∷ []) 0 i x (omega arith) refl, subst (λ z. BuildsPart o (all ++ x ∷ []) z step' x) j (subst (λ z. BuildsPart o (all ++ x ∷ []) (length parts) z x) same (builds_as o all (all ++ x ∷ []) (length parts) (λ i y l g. more i y g) step x made)))
              | inr g ↦
                  let r = so.2 i step' (omega arith) f in
                  (r.0, more i r.0 r.1, builds_as o all (all ++ x ∷ []) i (λ i y l g. more i y g) step' r.0 r.2)
            ],
          )

  pub built_refused : (k : ℕ) (parts new : BuiltParts) (step : Step) → AreBuilt o steps k parts → slice_get steps k ≡ Some step → OnStep o step parts new None → IsDerivation o steps → ⊥
  built_refused k parts new step h e r d =
      let x = d.each k step e in
      let held = h.held d.parts (λ i step' l f. d.each i step' f) in
      let b : BuildsPart o d.parts (length parts) step x.0 = subst (λ z. BuildsPart o d.parts z step x.0) (sym h.left.size) x.2 in
      let kl = slice_get_within steps k step e in
      elim (r d.parts x.0 held b) [
        | inl a ↦
            let low = (earlier_of d.parts k (named step) x.2.from x.2.earlier a.0 a.1).0 in
            let once = d.named_once a.0 (omega arith) in
            let u = h.left.below a.0 low in
            let none = a.2 in
            let v = times_next named a.0 steps k step e in
            let w = times_among a.0 (named step) a.1 in
            let z = take_most named a.0 steps (k + 1) in
            omega arith
        | inr a ↦
            let once = d.node_once a.0 (is_node o step a.0 x.2.from x.0 x.2.joins a.1) in
            let u = h.counted a.0 in
            let some = a.2 in
            let v = times_next own_nodes a.0 steps k step e in
            let w = times_among a.0 (own_nodes step) a.1 in
            let z = take_most own_nodes a.0 steps (k + 1) in
            omega arith
      ]

  -- ---- the last step

  left_all : (n : ℕ) (front : BuiltParts) → ((i : ℕ) → left_at front i ≡ 0) → times_left n front ≡ 0
  left_all n [] h = refl
  left_all n (None ∷ front) h = left_all n front (λ i. h (suc i))
  left_all n (Some b ∷ front) h = let a : ◌≡◌ {A = ℕ} 1 0 = h 0 in absurd (omega arith)

  pub built_whole : (parts : BuiltParts) → IsOpenNet o → AreBuilt o steps (length steps) parts → IsWholeNet o parts → IsDerivation o steps
  built_whole parts net h (front, b, e, last) =
      let free = last.0 in
      let all_nodes = last.1 in
      let none = last.2 in
      let so = h.some net in
      let size : length front + 1 ≡ length steps = sym (length-append front (Some b ∷ [])) ∙ ap length (sym e) ∙ h.left.size in
      let here : slice_get parts (length front) ≡ Some (Some b) = subst (λ z. slice_get z (length front) ≡ Some (Some b)) (sym e) (get_past front (Some b ∷ []) 0 (length front) (Some b) (omega arith) refl) in
      record {
        parts = so.0;
        each = λ k step f. so.2 k step (slice_get_within steps k step f) f;
        named_once = λ k l.
            let a = h.left.below k (omega arith) in
            let c : times_in named k (take (length steps) steps) ≡ times_in named k steps = ap (times_in named k) (take_whole steps (length steps) (omega arith)) in
            let d : left_at parts k ≡ left_at (front ++ Some b ∷ []) k = ap (λ z. left_at z k) e in
            let f = left_app front b k in
            let g = none k in
            let j = one_other k (length front) (λ z. omega arith) in
            omega arith;
        node_once = λ n l.
            let a = h.counted n in
            let c : times_in own_nodes n (take (length steps) steps) ≡ times_in own_nodes n steps = ap (times_in own_nodes n) (take_whole steps (length steps) (omega arith)) in
            let d : times_left n parts ≡ times_left n (front ++ Some b ∷ []) = ap (times_left n) e in
            let f = times_left_app n front b in
            let g = left_all n front none in
            let there = h.sized (length front) b here in
            let j : in_one b n ≡ 1 = ap (λ z. cond z 1 0) (all_nodes n (let v = there.nodes in omega arith)) in
            omega arith;
        some = omega arith;
        ends = λ x f w p q wire.
            let at : length steps - 1 ≡ length front = omega arith in
            let y = h.held so.0 so.2 (length front) b here in
            let same : y.0 ≡ x = some_same (slice_get so.0 (length front)) y.0 x y.1 (subst (λ z. slice_get so.0 z ≡ Some x) at f) in
            at_points o (λ w p q e. e ≡ is_free q) b x (λ w p q g. free w p q (slice_get_within o.wires w (p, q) g) g) (subst (λ z. IsBuiltPart o b z) same y.2) w p q wire;
      }

  pub whole_built : (parts : BuiltParts) → AreBuilt o steps (length steps) parts → IsDerivation o steps → IsWholeNet o parts
  whole_built parts h d = go (unsnoc parts (let a = d.some in let b = h.left.size in omega arith))
    where
      there : (front : BuiltParts) (last : Option Built) → parts ≡ front ++ last ∷ [] → slice_get parts (length front) ≡ Some last
      there front last e = subst (λ z. slice_get z (length front) ≡ Some last) (sym e) (get_past front (last ∷ []) 0 (length front) last (omega arith) refl)

      of : (front : BuiltParts) (b : Built) → parts ≡ front ++ Some b ∷ [] → length front + 1 ≡ length steps → IsWholeNet o parts
      of front b e size =
          let none : (i : ℕ) → left_at front i ≡ 0 = λ i.
          let c : left_at parts i ≡ left_at (front ++ Some b ∷ []) i = ap (λ z. left_at z i) e in
          let f = left_app front b i in
          let m = left_most parts i in
          elim (same_nat i (length front)) [
            | inl g ↦ let j = one_same i (length front) g in omega arith
            | inr g ↦
                let j = one_other i (length front) g in
                elim (at_most (length steps) i) [
                  | inl l ↦ let a = h.left.above i l in omega arith
                  | inr l ↦
                      let a = h.left.below i l in
                      let k : times_in named i (take (length steps) steps) ≡ times_in named i steps = ap (times_in named i) (take_whole steps (length steps) (omega arith)) in
                      let once = d.named_once i (omega arith) in
                      omega arith
                ]
          ] in
          let y = h.held d.parts (λ i step l f. d.each i step f) (length front) b (there front (Some b) e) in
          let at : length front ≡ length steps - 1 = omega arith in
          let ends = d.ends y.0 (subst (λ z. slice_get d.parts z ≡ Some y.0) at y.1) in (
            front,
            b,
            e,
            (
              (λ w p q l g. (sym (y.2.ends w p q g).0 ∙ ends w q p (inr g), sym (y.2.ends w p q g).1 ∙ ends w p q (inl g))),
              (λ n l.
                  let size = h.sized (length front) b (there front (Some b) e) in
                  let v = size.nodes in
                  let once = d.node_once n (omega arith) in
                  let a = h.counted n in
                  let c : times_in own_nodes n (take (length steps) steps) ≡ times_in own_nodes n steps = ap (times_in own_nodes n) (take_whole steps (length steps) (omega arith)) in
                  let u : times_left n parts ≡ times_left n (front ++ Some b ∷ []) = ap (times_left n) e in
                  let f = times_left_app n front b in
                  let g = left_all n front none in
                  elim (cases_Bool (has_node b n)) [
                    | inl t ↦ t
                    | inr t ↦ let j : in_one b n ≡ 0 = ap (λ z. cond z 1 0) t in absurd (omega arith)
                  ]),
              none,
            ),
          )

      go : (front : BuiltParts) × (last : Option Built) × (parts ≡ front ++ last ∷ []) → IsWholeNet o parts
      go (front, None, e) =
          let size : length front + 1 ≡ length steps = sym (length-append front (None ∷ [])) ∙ ap length (sym e) ∙ h.left.size in
          let a = h.last (length front) (omega arith) in
          let b : left_at parts (length front) ≡ 0 = ap left_of (there front None e) in
          absurd (omega arith)
      go (front, Some b, e) = of front b e (sym (length-append front (Some b ∷ [])) ∙ ap length (sym e) ∙ h.left.size)

pub whole_last : (o : OpenNet) (parts others : BuiltParts) (b : Built) → parts ≡ others ++ Some b ∷ [] → IsWholeNet o parts → IsLastBuilt o b others
whole_last o parts others b e w =
    let r = snoc_parts w.0 others (Some w.1) (Some b) (sym w.2 ∙ e) in
    let s : w.1 ≡ b = let f = r.1 in cc in
    subst (λ z. IsLastBuilt o z others) s (subst (λ z. IsLastBuilt o w.1 z) r.0 w.3)
