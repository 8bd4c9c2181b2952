-- Each node of a stuck sub-net has a closed walk that leaves and enters it by different classes, so that the sub-net has a crossing circle.
use Rattle.std.proofs.Common.{◌≡◌, ◌≢◌, ◌⊎◌, ◌<◌, ℕ, zero, suc, Bool, List, [], length, refl, sym, subst, inl, inr, ◌∙◌, arith}
use Rattle.in_base.specs.Graphs.{Passage, CrossingCircle}
use Rattle.in_open_nets.specs.declared.open_nets.OpenPoint.{OpenPoint}
use Rattle.in_open_nets.specs.declared.open_nets.OpenPoint.TheVariants.{Port, Free}
use Rattle.in_open_nets.specs.Constructions.{IsIn}
use Rattle.in_open_nets.specs.Laws.{SplitsOrFirstStuck, SplitsWhereDerivable}
use Rattle.in_open_nets.specs.OpenNets.{OpenNet, IsOpenNet, IsDerivable, IsWire, class_in, open_graph}
use Rattle.in_open_nets.specs.Splitting.{Linked, Without, SplitsAt, IsStuck}
use Rattle.in_open_nets.specs.Stuck.{FirstStuck, IsFirstStuck, ports_of, whole, within}
use Rattle.in_open_nets.proofs.Public.{Decided, both_decided, in_ports, link_back, link_first, linked, partner, port_place, same_nat, without}
use Rattle.in_crossing_circles.specs.Laws.{HasCircleIn}
use Rattle.in_crossing_circles.proofs.Cycles.{Cycle, has_circle}
use Rattle.in_crossing_circles.proofs.Walks.{Wire, linked_way, one_room, turned}

-- ---- the first stuck sub-net

-- no node splits it
stuck : (o : OpenNet) (s t : ℕ → Bool) → FirstStuck o s t → IsStuck (open_graph o) t
stuck o s _ (whole _ h) = h
stuck o s t (within _ n c k _ first part comes before later) = stuck o c t later

-- .. and its nodes are nodes of the net
inside : (o : OpenNet) (net : IsOpenNet o) (s t : ℕ → Bool) → ((n : ℕ) → IsIn n s → n < length o.nodes) → FirstStuck o s t → (n : ℕ) → IsIn n t → n < length o.nodes
inside o net s _ in_net (whole _ h) n here = in_net n here
inside o net s t in_net (within _ m c k _ first part comes before later) n here =
    inside o net c t (λ l l_here. in_net l (link_first (open_graph o) (Without m s) l part.0 (link_back o (Without m s) (without o net s in_net m) part.0 l ((part.2 l).0 l_here))).0) later n here

-- ---- closed walks

each_or : {Q : Type 0} (P : ℕ → Type 0) → ((i : ℕ) → Q ⊎ P i) → (b : ℕ) → Q ⊎ ((i : ℕ) → i < b → P i)
each_or P f zero = inr (λ i l. absurd (omega arith))
each_or P f (suc b) = elim (f b) [
  | inl q ↦ inl q
  | inr p ↦ elim (each_or P f b) [
    | inl q ↦ inl q
    | inr all ↦ inr (λ i l. elim (same_nat i b) [ inl e ↦ subst P (sym e) p | inr d ↦ all i (omega arith) ])
  ]
]

module _ (o : OpenNet) (net : IsOpenNet o) (t : ℕ → Bool) (in_net : (n : ℕ) → IsIn n t → n < length o.nodes) (v : ℕ) (here : IsIn v t) where
  abbrev HasCycle : Type 0
  HasCycle = (i : ℕ) × (j : ℕ) × (ps : List (Passage ℕ)) × Cycle o t v i j ps

  -- the port of a node to which port i is wired
  abbrev End : ℕ → Type 0
  End i = (l : ℕ) × (k : ℕ) × Wire o (v, i) (l, k)

  end : (i : ℕ) → Decided (End i)
  end i = elim (partner o net v i) [ inl r ↦ at r.0 r.1 r.2 | inr none ↦ inr (λ f. none (f.2.0, Port f.0 f.1, f.2.1)) ]
    where
      at : (w : ℕ) (q : OpenPoint) → IsWire o w (Port v i) q → Decided (End i)
      at w (Free e) h = inr (λ f. let k : ◌≡◌ {A = OpenPoint} (Free e) (Port f.0 f.1) = (net.once w f.2.0 (Port v i) (Free e) (Port f.0 f.1) h f.2.1).1 in cc)
      at w (Port l k) h = inl (l, k, (w, h))

  one_end : (i l k m h : ℕ) → Wire o (v, i) (l, k) → Wire o (v, i) (m, h) → (l ≡ m) × (k ≡ h)
  one_end i l k m h w x = let e = port_place l m k h (net.once w.0 x.0 (Port v i) (Port l k) (Port m h) w.1 x.1).1 in (e.0, e.1)

  -- ports i and j are wired to each other, or to these nodes, which are linked without v
  abbrev Meet : ℕ → ℕ → ℕ → ℕ → Type 0
  Meet j l k m = ((l ≡ v) × (k ≡ j)) ⊎ Linked (open_graph o) (Without v t) l m

  meet : (j l k m : ℕ) → Decided (Meet j l k m)
  meet j l k m = elim (both_decided (same_nat l v) (same_nat k j)) [
    | inl h ↦ inl (inl h)
    | inr d ↦ elim (linked o net t in_net v l m) [ inl h ↦ inl (inr h) | inr f ↦ inr (λ s. elim s [ inl h ↦ d h | inr h ↦ f h ]) ]
  ]

  -- if they meet, they are of one class
  abbrev IsOneClass : ℕ → ℕ → Type 0
  IsOneClass i j = (l k m h : ℕ) → Wire o (v, i) (l, k) → Wire o (v, j) (m, h) → Meet j l k m → class_in o v i ≡ class_in o v j

  -- otherwise there is a closed walk
  cycle : (i j : ℕ) → class_in o v i ≢ class_in o v j → (l k m h : ℕ) → Wire o (v, i) (l, k) → Wire o (v, j) (m, h) → Meet j l k m → HasCycle
  cycle i j differ l k m h w x (inl own) = (
    i,
    j,
    [],
    record {
      way = subst (λ z. Wire o (v, i) (v, z)) own.1 (subst (λ z. Wire o (v, i) (z, k)) own.0 w);
      changes = differ;
      apart = λ n. let a = one_room o t n v here in omega arith;
    },
  )
  cycle i j differ l k m h w x (inr link) =
      let r = linked_way o t v here l m link k h (v, i) (v, j) w (turned o (v, j) (m, h) x) in
      (i, j, r.0, record { way = r.1; changes = differ; apart = r.2 })

  one_class : (i j : ℕ) → HasCycle ⊎ IsOneClass i j
  one_class i j = elim (same_nat (class_in o v i) (class_in o v j)) [
    | inl e ↦ inr (λ l k m h w x s. e)
    | inr differ ↦ elim (end i) [
      | inr none ↦ inr (λ l k m h w x s. absurd (none (l, k, w)))
      | inl a ↦ elim (end j) [
        | inr none ↦ inr (λ l k m h w x s. absurd (none (m, h, x)))
        | inl b ↦ elim (meet j a.0 a.1 b.0) [
          | inl s ↦ inl (cycle i j differ a.0 a.1 b.0 b.1 a.2 b.2 s)
          | inr none ↦ inr (λ l k m h w x s.
              let e = one_end i l k a.0 a.1 w a.2 in
              let f = one_end j m h b.0 b.1 x b.2 in
              absurd (none (elim s [
                | inl own ↦ inl (sym e.0 ∙ own.0, sym e.1 ∙ own.1)
                | inr link ↦ inr (subst (Linked (open_graph o) (Without v t) a.0) f.0 (subst (λ z. Linked (open_graph o) (Without v t) z m) e.0 link))
              ])))
        ]
      ]
    ]
  ]

  -- a node that doesn't split the set has such a walk
  has_cycle : (SplitsAt (open_graph o) v t → ⊥) → HasCycle
  has_cycle none = elim (each_or (λ i. (j : ℕ) → j < ports_of o v → IsOneClass i j) (λ i. each_or (IsOneClass i) (one_class i) (ports_of o v)) (ports_of o v)) [
    | inl c ↦ c
    | inr all ↦ absurd (none (record {
      own = λ i j w. all i (port i v j w) j (port j v i (turned o (v, i) (v, j) w)) v j v i w (turned o (v, i) (v, j) w) (inl (refl, refl));
      touched = λ i j l m k h w x link. all i (port i l k w) j (port j m h x) l k m h w x (inr link);
    }))
  ]
    where
      port : (i l k : ℕ) → Wire o (v, i) (l, k) → i < ports_of o v
      port i l k w = in_ports o net w.0 v i (Port l k) w.1

-- ---- the laws

module _ (o : OpenNet) (net : IsOpenNet o) where
  pub stuck_circle : (t : ℕ → Bool) → IsFirstStuck o t → HasCircleIn o t
  stuck_circle t f =
      let in_net : (n : ℕ) → IsIn n t → n < length o.nodes = inside o net f.0 t (λ n here. (f.1 n).0 here) f.2 in
      let h = stuck o f.0 t f.2 in
      has_circle o t (λ v here. has_cycle o net t in_net v here (h.1 v here)) (length o.nodes) in_net h.0.0 h.0.1

  pub circle_or_derivable : SplitsOrFirstStuck → SplitsWhereDerivable → (CrossingCircle (open_graph o) → ⊥) → IsDerivable o
  circle_or_derivable either splits none = elim (either o net) [ inl h ↦ (splits o net).0 h.0 | inr h ↦ absurd (none (stuck_circle h.1.0 h.1.1).0) ]
