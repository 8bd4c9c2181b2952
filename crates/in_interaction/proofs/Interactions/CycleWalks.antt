-- The pieces inside that remain of a cycle are a closed walk of the open right member.
use Rattle.std.proofs.Common.{◌≡◌, ◌≢◌, ◌⊎◌, ℕ, Bool, List, [], ◌∷◌, ◌++◌, map, refl, sym, subst, ap, inl, inr, ◌∙◌, append-nil, append_assoc}
use Rattle.std.specs.List.{AllByRecursion}
use Rattle.std.proofs.lemmas.List.{map-append}
use Rattle.in_base.specs.Graphs.{Graph, Passage, entered, left, LeadsThrough, IsCrossing, AreApart}
use Rattle.in_net.specs.Graphs.{graph_of}
use Rattle.in_net.specs.Nets.{Signature, Net}
use Rattle.in_net.specs.Interactions.{Redex, Outer, class_node, open_member}
use Rattle.in_interaction.specs.Pieces.{Piece, Outside, Inside, begins, lies, IsPiece, IsPassage, passages_of, Follows, FollowInTurn, AreDifferent, PieceCycle, ports_of, AtOtherAgent, AgentsOnce, ClosedWalk, renamed}
use Rattle.in_interaction.proofs.Interactions.Compress.{outer_inner}
use Rattle.in_interaction.proofs.Interactions.Cycles.{apart_turned, different_turned, apart_after}
use Rattle.in_base.proofs.Each.{all_map, all_append, all_left, all_right}

leads_join : (g : Graph) (from to : g.Node × ℕ) (xs : List (Passage g.Node)) (q : Passage g.Node) (ys : List (Passage g.Node)) → LeadsThrough g from xs (entered q) → LeadsThrough g (left q) ys to → LeadsThrough g from (xs ++ q ∷ ys) to
leads_join g from to [] q ys w v = (w, v)
leads_join g from to (x ∷ xs) q ys w v = (w.0, leads_join g (left x) to xs q ys w.1 v)

passages_join : {A B : Type 0} (xs ys : List (Piece A B)) → passages_of (xs ++ ys) ≡ passages_of xs ++ passages_of ys
passages_join [] ys = refl
passages_join (Outside e ps f ∷ xs) ys = ap (λ z. map (renamed (λ y. inl y)) ps ++ z) (passages_join xs ys) ∙ sym (append_assoc (map (renamed (λ y. inl y)) ps) (passages_of xs) (passages_of ys))
passages_join (Inside e ps f ∷ xs) ys = ap (λ z. map (renamed (λ y. inr y)) ps ++ z) (passages_join xs ys) ∙ sym (append_assoc (map (renamed (λ y. inr y)) ps) (passages_of xs) (passages_of ys))

follow_join : {A B : Type 0} (p : Piece A B) (ps : List (Piece A B)) (q r : Piece A B) → FollowInTurn p ps q → Follows q r → FollowInTurn p (ps ++ q ∷ []) r
follow_join p [] q r w v = (w, v)
follow_join p (s ∷ ss) q r w v = (w.0, follow_join s ss q r w.1 v)

-- new agents keep their classes in the open right member
pub crossing_in : {A B : Type 0} (sig : Signature) (x : Redex A B) (ps : List (Passage B)) → AllByRecursion (IsCrossing (graph_of sig x.member)) ps → AllByRecursion (IsCrossing (open_member sig x)) (map (renamed (λ y. inl y)) ps)
crossing_in sig x [] h = tt
crossing_in sig x (p ∷ ps) h = (h.0, crossing_in sig x ps h.1)

module _ {A B : Type 0} (sig : Signature) (n : Net A) (x : Redex A B) where
  abbrev Node : Type 0
  Node = B ⊎ (Bool × ℕ)

  abbrev agent : Passage B → Passage Node
  agent p = renamed (λ y. inl y) p

  abbrev through : ℕ → ℕ → Passage Node
  through e f = record { node = inr (class_node sig x e); enter = e; leave = f }

  -- a passage through one class node for each outer piece
  abbrev walk : List (Piece A B) → List (Passage Node)
  walk [] = []
  walk (Outside e ps f ∷ qs) = through e f ∷ walk qs
  walk (Inside e ps f ∷ qs) = map (renamed (λ y. inl y)) ps ++ walk qs

  abbrev port : ℕ → Node × ℕ
  port e = (inr (class_node sig x e), e)

  -- from an inner piece on the walk leads to the boundary end at which an outer one begins
  leads : (e : ℕ) (ps : List (Passage B)) (f : ℕ) (qs : List (Piece A B)) (t : Piece A B) → lies t ≡ Outer → FollowInTurn (Inside e ps f) qs t → AllByRecursion (IsPiece sig n x) (Inside e ps f ∷ qs) → AllByRecursion (IsPassage sig x) qs →
      LeadsThrough (open_member sig x) (port e) (walk (Inside e ps f ∷ qs)) (port (begins t))
  leads e ps f [] t o w h k = subst (λ z. LeadsThrough (open_member sig x) (port e) z (port (begins t))) (sym (append-nil (map (renamed (λ y. inl y)) ps))) (subst (λ z. LeadsThrough (open_member sig x) (port e) (map (renamed (λ y. inl y)) ps) (port z)) w.0 h.0.leads)
  leads e ps f (Outside a os b ∷ []) t o w h k = absurd (outer_inner (sym o ∙ w.1.1))
  leads e ps f (Outside a os b ∷ Inside c is d ∷ qs) t o w h k =
      let rest = leads c is d qs t o w.1.1 (h.1.1.0, h.1.1.1) k.1.1 in
      let here : LeadsThrough (open_member sig x) (left (through a b)) (walk (Inside c is d ∷ qs)) (port (begins t)) =
      subst (λ z. LeadsThrough (open_member sig x) (inr z, b) (walk (Inside c is d ∷ qs)) (port (begins t))) (sym k.0.0) (subst (λ z. LeadsThrough (open_member sig x) (port z) (walk (Inside c is d ∷ qs)) (port (begins t))) (sym w.1.0.0) rest) in
      leads_join (open_member sig x) (port e) (port (begins t)) (map (renamed (λ y. inl y)) ps) (through a b) (walk (Inside c is d ∷ qs))
      (subst (λ z. LeadsThrough (open_member sig x) (port e) (map (renamed (λ y. inl y)) ps) (port z)) w.0.0 h.0.leads) here
  leads e ps f (Outside a os b ∷ Outside c is d ∷ qs) t o w h k = absurd (outer_inner w.1.0.1)
  leads e ps f (Inside a os b ∷ qs) t o w h k = absurd (outer_inner (sym w.0.1))

  crossing : (qs : List (Piece A B)) → AllByRecursion (IsPiece sig n x) qs → AllByRecursion (IsPassage sig x) qs → AllByRecursion (IsCrossing (open_member sig x)) (walk qs)
  crossing [] h k = tt
  crossing (Outside e ps f ∷ qs) h k = (k.0.1, crossing qs h.1 k.1)
  crossing (Inside e ps f ∷ qs) h k = all_append (IsCrossing (open_member sig x)) (map (renamed (λ y. inl y)) ps) (walk qs) (crossing_in sig x ps h.0.crossing) (crossing qs h.1 k.1)

  -- ---- no port and no agent comes twice

  -- two passages have different ports, and are not at one agent
  record AreFar (p q : Passage Node) : Type 0 where
    ee : entered p ≢ entered q
    el : entered p ≢ left q
    le : left p ≢ entered q
    ll : left p ≢ left q
    agent : AtOtherAgent p q

  abbrev Far : List (Passage Node) → Type 0
  Far [] = Unit {0}
  Far (p ∷ ps) = AllByRecursion (AreFar p) ps × Far ps

  far_join : (xs ys : List (Passage Node)) → Far xs → Far ys → AllByRecursion (λ p. AllByRecursion (AreFar p) ys) xs → Far (xs ++ ys)
  far_join [] ys h k c = k
  far_join (p ∷ xs) ys h k c = (all_append (AreFar p) xs ys h.0 c.0, far_join xs ys h.1 k c.1)

  -- passages at different agents
  agents_far : (p q : Passage B) → p.node ≢ q.node → AreFar (renamed (λ y. inl y) p) (renamed (λ y. inl y) q)
  agents_far p q d = record { ee = λ h. one (ap (λ v. v.0) h); el = λ h. one (ap (λ v. v.0) h); le = λ h. one (ap (λ v. v.0) h); ll = λ h. one (ap (λ v. v.0) h); agent = one }
    where
      one : ◌≡◌ {A = Node} (inl p.node) (inl q.node) → ⊥
      one h = d cc

  agent_class : (y : B) (c : Bool × ℕ) → ◌≡◌ {A = Node} (inl y) (inr c) → ⊥
  agent_class y c h = cc

  -- one at an agent, one at a class node
  agent_far : (p : Passage B) (e f : ℕ) → AreFar (renamed (λ y. inl y) p) (through e f)
  agent_far p e f = record {
    ee = λ h. agent_class p.node (class_node sig x e) (ap (λ v. v.0) h);
    el = λ h. agent_class p.node (class_node sig x e) (ap (λ v. v.0) h);
    le = λ h. agent_class p.node (class_node sig x e) (ap (λ v. v.0) h);
    ll = λ h. agent_class p.node (class_node sig x e) (ap (λ v. v.0) h);
    agent = λ h. agent_class p.node (class_node sig x e) h;
  }

  through_agent : (e f : ℕ) (p : Passage B) → AreFar (through e f) (renamed (λ y. inl y) p)
  through_agent e f p = record {
    ee = λ h. agent_class p.node (class_node sig x e) (sym (ap (λ v. v.0) h));
    el = λ h. agent_class p.node (class_node sig x e) (sym (ap (λ v. v.0) h));
    le = λ h. agent_class p.node (class_node sig x e) (sym (ap (λ v. v.0) h));
    ll = λ h. agent_class p.node (class_node sig x e) (sym (ap (λ v. v.0) h));
    agent = tt;
  }

  -- it is at an agent, or its ports have other numbers than k
  abbrev IsOff : ℕ → Passage Node → Type 0
  IsOff k p = elim p.node [ inl y ↦ Unit {0} | inr c ↦ (k ≢ p.enter) × (k ≢ p.leave) ]

  agents_off : (k : ℕ) (ps : List (Passage B)) → AllByRecursion (IsOff k) (map (renamed (λ y. inl y)) ps)
  agents_off k [] = tt
  agents_off k (p ∷ ps) = (tt, agents_off k ps)

  off : (k : ℕ) (q : Piece A B) (qs : List (Piece A B)) (t : Piece A B) → lies t ≡ Outer → FollowInTurn q qs t → AllByRecursion (λ b. k ≢ b) (map begins (q ∷ qs)) → AllByRecursion (IsOff k) (walk (q ∷ qs))
  off k (Inside e ps f) [] t o w h = all_append (IsOff k) (map (renamed (λ y. inl y)) ps) [] (agents_off k ps) tt
  off k (Inside e ps f) (r ∷ rs) t o w h = all_append (IsOff k) (map (renamed (λ y. inl y)) ps) (walk (r ∷ rs)) (agents_off k ps) (off k r rs t o w.1 h.1)
  off k (Outside e ps f) [] t o w h = absurd (outer_inner (sym o ∙ w.1))
  off k (Outside e ps f) (r ∷ rs) t o w h = ((h.0, λ same. h.1.0 (same ∙ w.0.0)), off k r rs t o w.1 h.1)

  -- a passage through a class node is far from those whose numbers are others
  off_far : (e f : ℕ) (ps : List (Passage Node)) → AllByRecursion (IsOff e) ps → AllByRecursion (IsOff f) ps → AllByRecursion (AreFar (through e f)) ps
  off_far e f [] h k = tt
  off_far e f (p ∷ ps) h k = (go p.node h.0 k.0, off_far e f ps h.1 k.1)
    where
      go : (m : Node) → IsOff e (record { node = m; enter = p.enter; leave = p.leave }) → IsOff f (record { node = m; enter = p.enter; leave = p.leave }) → AreFar (through e f) (record { node = m; enter = p.enter; leave = p.leave })
      go (inl y) h k = through_agent e f (record { node = y; enter = p.enter; leave = p.leave })
      go (inr c) h k = record { ee = λ e. h.0 (ap (λ v. v.1) e); el = λ e. h.1 (ap (λ v. v.1) e); le = λ e. k.0 (ap (λ v. v.1) e); ll = λ e. k.1 (ap (λ v. v.1) e); agent = tt }

  -- an agent is far from the others
  agents_apart : (p : Passage B) (ps : List (Passage B)) → AllByRecursion (λ (q : Passage (A ⊎ B)). inr p.node ≢ q.node) (map (renamed (λ y. inr y)) ps) → AllByRecursion (AreFar (renamed (λ y. inl y) p)) (map (renamed (λ y. inl y)) ps)
  agents_apart p [] h = tt
  agents_apart p (q ∷ qs) h = (agents_far p q (λ e. h.0 (ap (λ (y : B). let m : A ⊎ B = inr y in m) e)), agents_apart p qs h.1)

  named_far : (p : Passage B) (qs : List (Piece A B)) → AllByRecursion (λ (q : Passage (A ⊎ B)). inr p.node ≢ q.node) (passages_of qs) → AllByRecursion (AreFar (renamed (λ y. inl y) p)) (walk qs)
  named_far p [] h = tt
  named_far p (Outside e ps f ∷ qs) h = (agent_far p e f, named_far p qs (all_right (λ (q : Passage (A ⊎ B)). inr p.node ≢ q.node) (map (renamed (λ y. inl y)) ps) (passages_of qs) h))
  named_far p (Inside e ps f ∷ qs) h =
      all_append (AreFar (renamed (λ y. inl y) p)) (map (renamed (λ y. inl y)) ps) (walk qs)
      (agents_apart p ps (all_left (λ (q : Passage (A ⊎ B)). inr p.node ≢ q.node) (map (renamed (λ y. inr y)) ps) (passages_of qs) h))
      (named_far p qs (all_right (λ (q : Passage (A ⊎ B)). inr p.node ≢ q.node) (map (renamed (λ y. inr y)) ps) (passages_of qs) h))

  inner_far : (ps : List (Passage B)) (qs : List (Piece A B)) → AreApart (map (renamed (λ y. inr y)) ps ++ passages_of qs) → Far (walk qs) → Far (map (renamed (λ y. inl y)) ps ++ walk qs)
  inner_far [] qs a h = h
  inner_far (p ∷ ps) qs a h = (
    all_append (AreFar (renamed (λ y. inl y) p)) (map (renamed (λ y. inl y)) ps) (walk qs)
        (agents_apart p ps (all_left (λ (q : Passage (A ⊎ B)). inr p.node ≢ q.node) (map (renamed (λ y. inr y)) ps) (passages_of qs) a.0))
        (named_far p qs (all_right (λ (q : Passage (A ⊎ B)). inr p.node ≢ q.node) (map (renamed (λ y. inr y)) ps) (passages_of qs) a.0)),
    inner_far ps qs a.1 h,
  )

  -- the numbers after an inner piece are others than the one at which it begins
  later_off : (c : ℕ) (is : List (Passage B)) (b k : ℕ) (rs : List (Piece A B)) (t : Piece A B) → lies t ≡ Outer → FollowInTurn (Inside c is b) rs t → k ≡ c → AllByRecursion (λ z. c ≢ z) (map begins rs) → AllByRecursion (IsOff k) (walk (Inside c is b ∷ rs))
  later_off c is b k [] t o w e h = all_append (IsOff k) (map (renamed (λ y. inl y)) is) [] (agents_off k is) tt
  later_off c is b k (r ∷ rs) t o w e h =
      all_append (IsOff k) (map (renamed (λ y. inl y)) is) (walk (r ∷ rs)) (agents_off k is)
      (off k r rs t o w.1 (subst (λ z. AllByRecursion (λ y. z ≢ y) (map begins (r ∷ rs))) (sym e) h))

  far : (q : Piece A B) (qs : List (Piece A B)) (t : Piece A B) → lies t ≡ Outer → FollowInTurn q qs t → AreApart (passages_of (q ∷ qs)) → AreDifferent (map begins (q ∷ qs)) → Far (walk (q ∷ qs))
  far (Inside e ps f) [] t o w a d = inner_far ps [] a tt
  far (Inside e ps f) (r ∷ rs) t o w a d = inner_far ps (r ∷ rs) a (far r rs t o w.1 (apart_after (map (renamed (λ y. inr y)) ps) (passages_of (r ∷ rs)) a) d.1)
  far (Outside e ps f) [] t o w a d = absurd (outer_inner (sym o ∙ w.1))
  far (Outside e ps f) (Outside c is b ∷ rs) t o w a d = absurd (outer_inner w.0.1)
  far (Outside e ps f) (Inside c is b ∷ rs) t o w a d = (
    off_far e f (walk (Inside c is b ∷ rs)) (off e (Inside c is b) rs t o w.1 d.0) (later_off c is b f rs t o w.1 w.0.0 d.1.0),
    far (Inside c is b) rs t o w.1 (apart_after (map (renamed (λ y. inl y)) ps) (passages_of (Inside c is b ∷ rs)) a) d.1,
  )

  -- .. so that ports and agents come once
  agents_once : (ps : List (Passage Node)) → Far ps → AgentsOnce ps
  agents_once [] h = tt
  agents_once (p ∷ ps) h = (all_map (AreFar p) (AtOtherAgent p) (λ q f. f.agent) ps h.0, agents_once ps h.1)

  ports_differ : (ps : List (Passage Node)) → AllByRecursion (IsCrossing (open_member sig x)) ps → Far ps → AreDifferent (ports_of ps)
  ports_differ [] c h = tt
  ports_differ (p ∷ ps) c h = (((λ e. c.0 (ap (λ v. (open_member sig x).class v.0 v.1) e)), entered_far ps h.0), (left_far ps h.0, ports_differ ps c.1 h.1))
    where
      entered_far : (qs : List (Passage Node)) → AllByRecursion (AreFar p) qs → AllByRecursion (λ v. entered p ≢ v) (ports_of qs)
      entered_far [] h = tt
      entered_far (q ∷ qs) h = (h.0.ee, (h.0.el, entered_far qs h.1))

      left_far : (qs : List (Passage Node)) → AllByRecursion (AreFar p) qs → AllByRecursion (λ v. left p ≢ v) (ports_of qs)
      left_far [] h = tt
      left_far (q ∷ qs) h = (h.0.le, (h.0.ll, left_far qs h.1))

  -- ---- a cycle that begins outside, and one that begins inside

  outside : (e : ℕ) (ps : List (Passage A)) (f : ℕ) (qs : List (Piece A B)) → FollowInTurn (Outside e ps f) qs (Outside e ps f) → AllByRecursion (IsPiece sig n x) qs → AllByRecursion (IsPassage sig x) (Outside e ps f ∷ qs) → AreApart (passages_of (Outside e ps f ∷ qs)) → AreDifferent (map begins (Outside e ps f ∷ qs)) →
      AllByRecursion (IsPiece sig n x) (Outside e ps f ∷ qs) → ClosedWalk sig x
  outside e ps f [] w h k a d all = absurd (outer_inner w.1)
  outside e ps f (Outside c is b ∷ rs) w h k a d all = absurd (outer_inner w.0.1)
  outside e ps f (Inside c is b ∷ rs) w h k a d all =
      let apart = far (Outside e ps f) (Inside c is b ∷ rs) (Outside e ps f) refl w a d in
      let cross = crossing (Outside e ps f ∷ Inside c is b ∷ rs) all k in
      let on = leads c is b rs (Outside e ps f) refl w.1 h k.1.1 in
      record {
        first = through e f;
        rest = walk (Inside c is b ∷ rs);
        closed = subst (λ z. LeadsThrough (open_member sig x) (inr z, f) (walk (Inside c is b ∷ rs)) (port e)) (sym k.0.0) (subst (λ z. LeadsThrough (open_member sig x) (port z) (walk (Inside c is b ∷ rs)) (port e)) (sym w.0.0) on);
        crossing = cross;
        ports = ports_differ (walk (Outside e ps f ∷ Inside c is b ∷ rs)) cross apart;
        agents = agents_once (walk (Outside e ps f ∷ Inside c is b ∷ rs)) apart;
      }

  pub closed_walk : (r : PieceCycle sig n x) → AllByRecursion (IsPassage sig x) (r.first ∷ r.rest) → ClosedWalk sig x
  closed_walk r k = go r.first r.rest r.closed r.pieces k r.agents r.boundary
    where
      go : (p : Piece A B) (ps : List (Piece A B)) → FollowInTurn p ps p → AllByRecursion (IsPiece sig n x) (p ∷ ps) → AllByRecursion (IsPassage sig x) (p ∷ ps) → AreApart (passages_of (p ∷ ps)) → AreDifferent (map begins (p ∷ ps)) → ClosedWalk sig x
      go (Outside e os f) ps w h k a d = outside e os f ps w h.1 k a d h
      go (Inside e is f) [] w h k a d = absurd (outer_inner (sym w.1))
      go (Inside e is f) (Inside c js b ∷ ps) w h k a d = absurd (outer_inner (sym w.0.1))
      go (Inside e is f) (Outside c os b ∷ ps) w h k a d =
          let p : Piece A B = Inside e is f in
          let q : Piece A B = Outside c os b in
          let pieces = all_append (IsPiece sig n x) ps (p ∷ []) h.1.1 (h.0, tt) in
          let passages = all_append (IsPassage sig x) ps (p ∷ []) k.1.1 (tt, tt) in
          let joined : passages_of (q ∷ ps ++ p ∷ []) ≡ passages_of (q ∷ ps) ++ passages_of (p ∷ []) = passages_join (q ∷ ps) (p ∷ []) in
          outside c os b (ps ++ p ∷ []) (follow_join q ps p q w.1 w.0) pieces (k.1.0, passages)
          (subst AreApart (sym joined) (apart_turned (passages_of (p ∷ [])) (passages_of (q ∷ ps)) (subst AreApart (passages_join (p ∷ []) (q ∷ ps)) a)))
          (subst AreDifferent (sym (map-append begins (q ∷ ps) (p ∷ []))) (different_turned (e ∷ []) (map begins (q ∷ ps)) d))
          (h.1.0, pieces)
