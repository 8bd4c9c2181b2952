-- A sound net that is cut at a wire is sound.
use Rattle.std.proofs.Common.{◌≡◌, ◌≢◌, ◌⊎◌, ◌<◌, ◌≤◌, ◌+◌, ℕ, zero, suc, Some, None, IsSome, IsSomeAnd, List, [], ◌∷◌, ◌++◌, length, slice_get, refl, sym, subst, ap, ◌∙◌, inl, inr, arith}
use native.Mathlib.Decide.{ℕ_discrete}
use Rattle.std.specs.List.{AllByRecursion}
use Rattle.std.proofs.lemmas.Option.{same_Some}
use Rattle.in_base.specs.Graphs.{Passage, entered, left, LeadsThrough, IsCrossing}
use Rattle.in_symbols.specs.declared.symbols.PortType.{PortType}
use Rattle.in_net.specs.Graphs.{class_of_symbol, graph_of}
use Rattle.in_net.specs.Nets.{Point, Port, Free, Net, IsPoint, IsNet}
use Rattle.in_interaction.proofs.Public.{has_value, same_option, same_point}
use Rattle.in_typing.specs.Typed.{opposite}
use Rattle.in_typing.specs.TypedNets.{type_in, IsTypedNet}
use Rattle.in_typing.proofs.Public.{opposite_twice}
use Rattle.in_check.specs.Systems.{System, IsSound}
use Rattle.in_gluing.specs.Joining.{CutsWire}
use Rattle.in_order.specs.GluingLaws.{CutsKeepSound}

length_two : {T : Type 0} (xs : List T) (s t : T) → length (xs ++ (s ∷ t ∷ [])) ≡ length xs + 2
length_two [] s t = refl
length_two (x ∷ xs) s t = let h : length (xs ++ (s ∷ t ∷ [])) ≡ length xs + 2 = length_two xs s t in omega arith

get_left : {T : Type 0} (xs : List T) (s t : T) (k : ℕ) → k < length xs → slice_get (xs ++ (s ∷ t ∷ [])) k ≡ slice_get xs k
get_left [] s t k h = absurd (let b : ⊥ = omega arith in b)
get_left (x ∷ xs) s t zero h = refl
get_left (x ∷ xs) s t (suc k) h = get_left xs s t k (omega arith)

get_first : {T : Type 0} (xs : List T) (s t : T) → slice_get (xs ++ (s ∷ t ∷ [])) (length xs) ≡ Some s
get_first [] s t = refl
get_first (x ∷ xs) s t = get_first xs s t

get_second : {T : Type 0} (xs : List T) (s t : T) → slice_get (xs ++ (s ∷ t ∷ [])) (suc (length xs)) ≡ Some t
get_second [] s t = refl
get_second (x ∷ xs) s t = get_second xs s t

-- a wire of a sound net is cut, and two free ends are added to its last ones
pub record CutsSoundNet (p : System) (w : Net ℕ) (u v : Point ℕ) (s t : PortType) (m : Net ℕ) : Type 0 where
  -- the net before is sound
  pub sound : IsSound p w
  -- this wire is there
  pub wire : w.partner u ≡ Some v
  -- its one point has this type
  pub type_u : type_in p.symbols w u ≡ Some s
  -- its other point has this type
  pub type_v : type_in p.symbols w v ≡ Some t
  -- the two new free ends come last, with these types
  pub frees : m.free ≡ w.free ++ (s ∷ t ∷ [])
  -- the net after is the one before with that wire cut
  pub cut : CutsWire w u v (length w.free) (suc (length w.free)) m

module _ (p : System) (w : Net ℕ) (u v : Point ℕ) (s t : PortType) (m : Net ℕ) (given : CutsSoundNet p w u v s t m) where
  open given use {sound, wire, type_u, type_v, frees, cut}

  abbrev a : ℕ
  a = length w.free

  abbrev b : ℕ
  b = suc (length w.free)

  abbrev net : IsNet p.symbols w
  net = sound.net

  wire_back : w.partner v ≡ Some u
  wire_back = net.back u v wire

  same_symbol : (y : ℕ) → m.symbol y ≡ w.symbol y
  same_symbol y = same_option (m.symbol y) (w.symbol y) (λ s e. (cut.agents y s).1 e) (λ s e. (cut.agents y s).0 e)

  many : length m.free ≡ length w.free + 2
  many = ap length frees ∙ length_two w.free s t

  not_a : (x : Point ℕ) → IsPoint p.symbols w x → x ≢ Free a
  not_a x h e = let g : length w.free < length w.free = subst (IsPoint p.symbols w) e h in absurd (omega arith)

  not_b : (x : Point ℕ) → IsPoint p.symbols w x → x ≢ Free b
  not_b x h e = let g : suc (length w.free) < length w.free = subst (IsPoint p.symbols w) e h in absurd (omega arith)

  point_u : IsPoint p.symbols w u
  point_u = net.points u v wire

  point_v : IsPoint p.symbols w v
  point_v = net.points v u wire_back

  kept : (x : Point ℕ) → IsPoint p.symbols w x → IsPoint p.symbols m x
  kept (Port y i) h = subst (λ o. IsSomeAnd o (λ s. i ≤ p.symbols.arity s)) (sym (same_symbol y)) h
  kept (Free k) h = let n : length m.free ≡ length w.free + 2 = many in omega arith

  at_a : IsPoint p.symbols m (Free a)
  at_a = let n : length m.free ≡ length w.free + 2 = many in omega arith

  at_b : IsPoint p.symbols m (Free b)
  at_b = let n : length m.free ≡ length w.free + 2 = many in omega arith

  old_or_new : (x : Point ℕ) → IsPoint p.symbols m x → IsPoint p.symbols w x ⊎ (x ≡ Free a) ⊎ (x ≡ Free b)
  old_or_new (Port y i) h = inl (subst (λ o. IsSomeAnd o (λ s. i ≤ p.symbols.arity s)) (same_symbol y) h)
  old_or_new (Free k) h = go (ℕ_discrete k a) (ℕ_discrete k b)
    where
      go : Dec (k ≡ a) → Dec (k ≡ b) → (k < length w.free) ⊎ (◌≡◌ {A = Point ℕ} (Free k) (Free a)) ⊎ (◌≡◌ {A = Point ℕ} (Free k) (Free b))
      go (yes e) d = inr (inl (ap (λ k. Free k) e))
      go (no n) (yes e) = inr (inr (ap (λ k. Free k) e))
      go (no n) (no d) = let c : length m.free ≡ length w.free + 2 = many in inl (grind (arith, c, h, n, d))

  -- the five kinds of wires after the cut
  abbrev Old : Point ℕ → Point ℕ → Type 0
  Old x y = (x ≢ u) × (x ≢ v) × (w.partner x ≡ Some y)

  old_back : (x y : Point ℕ) → Old x y → Old y x
  old_back x y h =
      let back = net.back x y h.2 in (
        (λ e. h.1 (same_Some x v (sym back ∙ ap w.partner e ∙ wire))),
        (λ e. h.0 (same_Some x u (sym back ∙ ap w.partner e ∙ wire_back))),
        back,
      )

  joined_at : (x : Point ℕ) → IsPoint p.symbols m x → (y : Point ℕ) × (m.partner x ≡ Some y)
  joined_at x h = go (old_or_new x h) (same_point x u) (same_point x v)
    where
      go : IsPoint p.symbols w x ⊎ (x ≡ Free a) ⊎ (x ≡ Free b) → Dec (x ≡ u) → Dec (x ≡ v) → (y : Point ℕ) × (m.partner x ≡ Some y)
      go (inr (inl e)) c d = (u, (cut.wires x u).1 (inr (inr (inl (e, refl)))))
      go (inr (inr e)) c d = (v, (cut.wires x v).1 (inr (inr (inr (inr (e, refl))))))
      go (inl h) (yes c) d = (Free a, (cut.wires x (Free a)).1 (inr (inl (c, refl))))
      go (inl h) (no c) (yes d) = (Free b, (cut.wires x (Free b)).1 (inr (inr (inr (inl (d, refl))))))
      go (inl h) (no c) (no d) = let q = has_value (w.partner x) (net.joined x h) in (q.0, (cut.wires x q.0).1 (inl (c, d, q.1)))

  points_at : (x y : Point ℕ) → m.partner x ≡ Some y → IsPoint p.symbols m x
  points_at x y e = elim ((cut.wires x y).0 e) [
    | inl r ↦ kept x (net.points x y r.2)
    | inr r ↦ elim r [
      | inl q ↦ subst (IsPoint p.symbols m) (sym q.0) (kept u point_u)
      | inr q ↦ elim q [
        | inl z ↦ subst (IsPoint p.symbols m) (sym z.0) at_a
        | inr z ↦ elim z [
          | inl k ↦ subst (IsPoint p.symbols m) (sym k.0) (kept v point_v)
          | inr k ↦ subst (IsPoint p.symbols m) (sym k.0) at_b
        ]
      ]
    ]
  ]

  back_at : (x y : Point ℕ) → m.partner x ≡ Some y → m.partner y ≡ Some x
  back_at x y e = elim ((cut.wires x y).0 e) [
    | inl r ↦ (cut.wires y x).1 (inl (old_back x y r))
    | inr r ↦ elim r [
      | inl q ↦ (cut.wires y x).1 (inr (inr (inl (q.1, q.0))))
      | inr q ↦ elim q [
        | inl z ↦ (cut.wires y x).1 (inr (inl (z.1, z.0)))
        | inr z ↦ elim z [
          | inl k ↦ (cut.wires y x).1 (inr (inr (inr (inr (k.1, k.0)))))
          | inr k ↦ (cut.wires y x).1 (inr (inr (inr (inl (k.1, k.0)))))
        ]
      ]
    ]
  ]

  apart_at : (x : Point ℕ) → m.partner x ≡ Some x → ⊥
  apart_at x e = elim ((cut.wires x x).0 e) [
    | inl r ↦ net.apart x r.2
    | inr r ↦ elim r [
      | inl q ↦ not_a u point_u (sym q.0 ∙ q.1)
      | inr q ↦ elim q [
        | inl z ↦ not_a u point_u (sym z.1 ∙ z.0)
        | inr z ↦ elim z [
          | inl k ↦ not_b v point_v (sym k.0 ∙ k.1)
          | inr k ↦ not_b v point_v (sym k.1 ∙ k.0)
        ]
      ]
    ]
  ]

  -- ---- types

  type_kept : (x : Point ℕ) → IsPoint p.symbols w x → type_in p.symbols m x ≡ type_in p.symbols w x
  type_kept (Port y i) h = ap (λ o. elim o [ None ↦ None | Some s ↦ Some (p.symbols.type_of s i) ]) (same_symbol y)
  type_kept (Free k) h = ap (λ o. elim o [ None ↦ None | Some t ↦ Some (opposite t) ]) (ap (λ ts. slice_get ts k) frees ∙ get_left w.free s t k h)

  type_a : type_in p.symbols m (Free a) ≡ Some (opposite s)
  type_a = ap (λ o. elim o [ None ↦ None | Some t ↦ Some (opposite t) ]) (ap (λ ts. slice_get ts a) frees ∙ get_first w.free s t)

  type_b : type_in p.symbols m (Free b) ≡ Some (opposite t)
  type_b = ap (λ o. elim o [ None ↦ None | Some t ↦ Some (opposite t) ]) (ap (λ ts. slice_get ts b) frees ∙ get_second w.free s t)

  -- a wire between an old point and its new free end
  new_wire : (x y z e : Point ℕ) (r c d : PortType) → IsPoint p.symbols w z → type_in p.symbols w z ≡ Some r → type_in p.symbols m e ≡ Some (opposite r) → x ≡ z → y ≡ e → type_in p.symbols m x ≡ Some c → type_in p.symbols m y ≡ Some d → (d ≡ opposite c) × (c ≡ opposite d)
  new_wire x y z e r c d h tz te ex ey hc hd =
      let c_is : c ≡ r = same_Some c r (sym hc ∙ ap (type_in p.symbols m) ex ∙ type_kept z h ∙ tz) in
      let d_is : d ≡ opposite r = same_Some d (opposite r) (sym hd ∙ ap (type_in p.symbols m) ey ∙ te) in
      (d_is ∙ ap opposite (sym c_is), c_is ∙ sym (opposite_twice r) ∙ ap opposite (sym d_is))

  typed : IsTypedNet p.symbols m
  typed x y c d e hc hd = elim ((cut.wires x y).0 e) [
    | inl r ↦ sound.typed x y c d r.2 (sym (type_kept x (net.points x y r.2)) ∙ hc) (sym (type_kept y (net.points y x (net.back x y r.2))) ∙ hd)
    | inr r ↦ elim r [
      | inl q ↦ (new_wire x y u (Free a) s c d point_u type_u type_a q.0 q.1 hc hd).0
      | inr q ↦ elim q [
        | inl z ↦ (new_wire y x u (Free a) s d c point_u type_u type_a z.1 z.0 hd hc).1
        | inr z ↦ elim z [
          | inl k ↦ (new_wire x y v (Free b) t c d point_v type_v type_b k.0 k.1 hc hd).0
          | inr k ↦ (new_wire y x v (Free b) t d c point_v type_v type_b k.1 k.0 hd hc).1
        ]
      ]
    ]
  ]

  -- ---- circles

  port_wire : (x i y j : ℕ) → m.partner (Port x i) ≡ Some (Port y j) → w.partner (Port x i) ≡ Some (Port y j)
  port_wire x i y j e = elim ((cut.wires (Port x i) (Port y j)).0 e) [
    | inl r ↦ r.2
    | inr r ↦ elim r [
      | inl q ↦ (let f : Port y j ≡ Free a = q.1 in cc)
      | inr q ↦ elim q [
        | inl z ↦ (let f : Port x i ≡ Free a = z.0 in cc)
        | inr z ↦ elim z [
          | inl k ↦ (let f : Port y j ≡ Free b = k.1 in cc)
          | inr k ↦ (let f : Port x i ≡ Free b = k.0 in cc)
        ]
      ]
    ]
  ]

  leads : (from to : ℕ × ℕ) (ps : List (Passage ℕ)) → LeadsThrough (graph_of p.symbols m) from ps to → LeadsThrough (graph_of p.symbols w) from ps to
  leads from to [] h = port_wire from.0 from.1 to.0 to.1 h
  leads from to (q ∷ qs) h = (port_wire from.0 from.1 q.node q.enter h.0, leads (left q) to qs h.1)

  crossing : (ps : List (Passage ℕ)) → AllByRecursion (IsCrossing (graph_of p.symbols m)) ps → AllByRecursion (IsCrossing (graph_of p.symbols w)) ps
  crossing [] h = tt
  crossing (q ∷ qs) h = (
    (λ e. h.0 (ap (λ o. class_of_symbol p.symbols o q.enter) (same_symbol q.node) ∙ e ∙ ap (λ o. class_of_symbol p.symbols o q.leave) (sym (same_symbol q.node)))),
    crossing qs h.1,
  )

  pub is_sound : IsSound p m
  is_sound = record {
    net = record {
      agents = net.agents;
      all = λ y h. net.all y (subst IsSome (same_symbol y) h);
      joined = λ x h. (let r = joined_at x h in subst IsSome (sym r.1) refl);
      points = points_at;
      back = back_at;
      apart = apart_at;
    };
    within = λ y s e. sound.within y s (sym (same_symbol y) ∙ e);
    typed = typed;
    no_circle = λ c. sound.no_circle (record {
      first = c.first;
      rest = c.rest;
      closed = leads (left c.first) (entered c.first) c.rest c.closed;
      crossing = crossing (c.first ∷ c.rest) c.crossing;
      apart = c.apart;
    });
  }

pub cuts_keep_sound : CutsKeepSound
cuts_keep_sound p w u v s t m sound wire type_u type_v frees cut = is_sound p w u v s t m (record { sound = sound; wire = wire; type_u = type_u; type_v = type_v; frees = frees; cut = cut })
