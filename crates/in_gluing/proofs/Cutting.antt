-- A joint can always be made, and undoes a cut.
use Rattle.std.proofs.Common.{◌≡◌, ◌≢◌, ◌⊎◌, ℕ, Option, Some, None, refl, sym, ap, ◌∙◌, inl, inr}
use native.Mathlib.Decide.{ℕ_discrete}
use Rattle.std.proofs.lemmas.Option.{same_Some}
use Rattle.in_net.specs.Nets.{Point, Port, Free, Net}
use Rattle.in_interaction.proofs.Public.{same_free, same_point}
use Rattle.in_gluing.specs.Joining.{ArePartnersAfter, IsNeither, JoinsEnds, WiresLeadBack, JoinExists, CutsWire, CutsAreJoined}
use Rattle.in_gluing.proofs.Points.{none_some}
use Rattle.in_gluing.proofs.Helpers.{pick, pick_yes, pick_no}

-- ---- a joint

-- ---- partners lead back

module _ (m : Net ℕ) (a b : ℕ) (w : Net ℕ) (differ : a ≢ b) (h : WiresLeadBack m) (ends : JoinsEnds m a b w) where
  made_back : (u v : Point ℕ) → ArePartnersAfter m a b u v → ArePartnersAfter m a b v u
  made_back u v (inl e) = inl (h.0 u v e)
  made_back u v (inr (inl e)) = inr (inr (h.0 (Free b) v e.1, h.0 u (Free a) e.0))
  made_back u v (inr (inr e)) = inr (inl (h.0 (Free a) v e.1, h.0 u (Free b) e.0))

  made_apart : (u : Point ℕ) → ArePartnersAfter m a b u u → ⊥
  made_apart u (inl e) = h.1 u e
  made_apart u (inr (inl e)) = differ (same_free a b (same_Some (Free a) (Free b) (sym e.0 ∙ h.0 (Free b) u e.1)))
  made_apart u (inr (inr e)) = differ (same_free a b (sym (same_Some (Free b) (Free a) (sym e.0 ∙ h.0 (Free a) u e.1))))

  pub joins_lead_back : WiresLeadBack w
  joins_lead_back = (
    (λ u v e. (let r = (ends.wires u v).0 e in (ends.wires v u).1 (r.1, r.0, made_back u v r.2))),
    (λ u e. made_apart u ((ends.wires u u).0 e).2),
  )

-- ---- a joint

module _ (m : Net ℕ) (a b : ℕ) (differ : a ≢ b) (back : (u v : Point ℕ) → m.partner u ≡ Some v → m.partner v ≡ Some u) (apart : (u : Point ℕ) → m.partner u ≢ Some u) where
  abbrev redirect : Option (Point ℕ) → Option (Point ℕ)
  redirect None = None
  redirect (Some (Port y i)) = Some (Port y i)
  redirect (Some (Free c)) = pick (ℕ_discrete c a) (m.partner (Free b)) (pick (ℕ_discrete c b) (m.partner (Free a)) (Some (Free c)))

  abbrev gate : Point ℕ → Option (Point ℕ) → Option (Point ℕ)
  gate (Port y i) o = o
  gate (Free c) o = pick (ℕ_discrete c a) None (pick (ℕ_discrete c b) None o)

  abbrev joined : Net ℕ
  joined = record { symbol = m.symbol; partner = λ u. gate u (redirect (m.partner u)); free = m.free }

  gate_forth : (u : Point ℕ) (o : Option (Point ℕ)) (v : Point ℕ) → gate u o ≡ Some v → IsNeither a b u × (o ≡ Some v)
  gate_forth (Port y i) o v e = (((λ h. cc), (λ h. cc)), e)
  gate_forth (Free c) o v e = go (ℕ_discrete c a) (ℕ_discrete c b) e
    where
      go : (d : Dec (c ≡ a)) (f : Dec (c ≡ b)) → pick d None (pick f None o) ≡ Some v → IsNeither {C = ℕ} a b (Free c) × (o ≡ Some v)
      go (yes h) f e = cc
      go (no h) (yes g) e = cc
      go (no h) (no g) e = (((λ k. h (same_free {A = ℕ} c a k)), (λ k. g (same_free {A = ℕ} c b k))), e)

  gate_back : (u : Point ℕ) (o : Option (Point ℕ)) → IsNeither a b u → gate u o ≡ o
  gate_back (Port y i) o n = refl
  gate_back (Free c) o n =
      pick_no (ℕ_discrete c a) None (pick (ℕ_discrete c b) None o) (λ h. n.0 (ap (λ k. Free k) h)) ∙ pick_no (ℕ_discrete c b) None o (λ h. n.1 (ap (λ k. Free k) h))

  abbrev Through : Option (Point ℕ) → Point ℕ → Type 0
  Through o v = ((o ≡ Some v) × IsNeither a b v) ⊎ ((o ≡ Some (Free a)) × (m.partner (Free b) ≡ Some v)) ⊎ ((o ≡ Some (Free b)) × (m.partner (Free a) ≡ Some v))

  redirect_forth : (o : Option (Point ℕ)) (v : Point ℕ) → redirect o ≡ Some v → Through o v
  redirect_forth None v e = cc
  redirect_forth (Some (Port y i)) v e =
      let s : Port y i ≡ v = same_Some (Port y i) v e in
      inl (e, ((λ h. (let z : Port y i ≡ Free a = s ∙ h in cc)), (λ h. (let z : Port y i ≡ Free b = s ∙ h in cc))))
  redirect_forth (Some (Free c)) v e = go (ℕ_discrete c a) (ℕ_discrete c b) e
    where
      go : (d : Dec (c ≡ a)) (f : Dec (c ≡ b)) → pick d (m.partner (Free b)) (pick f (m.partner (Free a)) (Some (Free c))) ≡ Some v → Through (Some (Free c)) v
      go (yes h) f e = inr (inl (ap (λ c. Some (Free c)) h, e))
      go (no h) (yes g) e = inr (inr (ap (λ c. Some (Free c)) g, e))
      go (no h) (no g) e =
          let s : Free c ≡ v = same_Some (Free c) v e in
          inl (e, ((λ k. h (same_free {A = ℕ} c a (s ∙ k))), (λ k. g (same_free {A = ℕ} c b (s ∙ k)))))

  redirect_stays : (v : Point ℕ) → IsNeither a b v → redirect (Some v) ≡ Some v
  redirect_stays (Port y i) n = refl
  redirect_stays (Free c) n =
      pick_no (ℕ_discrete c a) (m.partner (Free b)) (pick (ℕ_discrete c b) (m.partner (Free a)) (Some (Free c))) (λ h. n.0 (ap (λ k. Free k) h))
      ∙ pick_no (ℕ_discrete c b) (m.partner (Free a)) (Some (Free c)) (λ h. n.1 (ap (λ k. Free k) h))

  redirect_one : redirect (Some (Free a)) ≡ m.partner (Free b)
  redirect_one = pick_yes (ℕ_discrete a a) (m.partner (Free b)) (pick (ℕ_discrete a b) (m.partner (Free a)) (Some (Free a))) refl

  redirect_two : redirect (Some (Free b)) ≡ m.partner (Free a)
  redirect_two =
      pick_no (ℕ_discrete b a) (m.partner (Free b)) (pick (ℕ_discrete b b) (m.partner (Free a)) (Some (Free b))) (λ h. differ (sym h))
      ∙ pick_yes (ℕ_discrete b b) (m.partner (Free a)) (Some (Free b)) refl

  -- no end leads to an end
  no_end : (u v : Point ℕ) (c d : ℕ) → (u ≢ Free d) → m.partner u ≡ Some (Free c) → m.partner (Free d) ≡ Some v → (v ≢ Free c) × (v ≢ Free d)
  no_end u v c d n e f = (
    (λ h. (let far : m.partner (Free c) ≡ Some (Free d) = back (Free d) (Free c) (f ∙ ap (λ z. Some z) h) in n (same_Some u (Free d) (sym (back u (Free c) e) ∙ far)))),
    (λ h. apart (Free d) (f ∙ ap (λ z. Some z) h)),
  )

  forth : (u v : Point ℕ) → joined.partner u ≡ Some v → IsNeither a b u × IsNeither a b v × ArePartnersAfter m a b u v
  forth u v e =
      let g = gate_forth u (redirect (m.partner u)) v e in
      elim (redirect_forth (m.partner u) v g.1) [
        | inl r ↦ (g.0, r.1, inl r.0)
        | inr r ↦ elim r [
          | inl q ↦ (g.0, no_end u v a b g.0.1 q.0 q.1, inr (inl q))
          | inr q ↦ (let n = no_end u v b a g.0.0 q.0 q.1 in (g.0, (n.1, n.0), inr (inr q)))
        ]
      ]

  again : (u v : Point ℕ) → IsNeither a b u × IsNeither a b v × ArePartnersAfter m a b u v → joined.partner u ≡ Some v
  again u v (nu, nv, made) = gate_back u (redirect (m.partner u)) nu ∙ go made
    where
      go : ArePartnersAfter m a b u v → redirect (m.partner u) ≡ Some v
      go (inl e) = ap redirect e ∙ redirect_stays v nv
      go (inr (inl e)) = ap redirect e.0 ∙ redirect_one ∙ e.1
      go (inr (inr e)) = ap redirect e.0 ∙ redirect_two ∙ e.1

  is_joined : JoinsEnds m a b joined
  is_joined = record { agents = λ y s. ((λ e. e), (λ e. e)); wires = λ u v. ((λ e. forth u v e), (λ h. again u v h)) }

pub join_exists : JoinExists
join_exists m a b differ lead = (joined m a b differ lead.0 lead.1, is_joined m a b differ lead.0 lead.1, joins_lead_back m a b (joined m a b differ lead.0 lead.1) differ lead (is_joined m a b differ lead.0 lead.1))

-- ---- a cut

-- a wire is cut, and its two points get partners that are new free ends
pub record CutsToNewEnds (w : Net ℕ) (u v : Point ℕ) (a b : ℕ) (m : Net ℕ) : Type 0 where
  -- each wire leads back
  pub back : (u v : Point ℕ) → w.partner u ≡ Some v → w.partner v ≡ Some u
  -- this wire is there
  pub wire : w.partner u ≡ Some v
  -- the two new free ends differ
  pub differ : a ≢ b
  -- the first one has no wire before
  pub no_a : w.partner (Free a) ≡ None
  -- the second one has none before
  pub no_b : w.partner (Free b) ≡ None
  -- the net after is the one before with that wire cut
  pub cut : CutsWire w u v a b m

module _ (w : Net ℕ) (u v : Point ℕ) (a b : ℕ) (m : Net ℕ) (given : CutsToNewEnds w u v a b m) where
  open given use {back, wire, differ, no_a, no_b, cut}

  abbrev Before : Point ℕ → Point ℕ → Type 0
  Before x y = (m.partner x ≡ Some y) ⊎ ((m.partner x ≡ Some (Free a)) × (m.partner (Free b) ≡ Some y)) ⊎ ((m.partner x ≡ Some (Free b)) × (m.partner (Free a) ≡ Some y))

  new_end : (x y : Point ℕ) → w.partner x ≡ Some y → IsNeither a b x
  new_end x y e = (
    (λ h. none_some (w.partner (Free a)) y no_a (ap w.partner (sym h) ∙ e)),
    (λ h. none_some (w.partner (Free b)) y no_b (ap w.partner (sym h) ∙ e)),
  )

  one_end : (x y : Point ℕ) → w.partner x ≡ Some y → IsNeither a b y
  one_end x y e = new_end y x (back x y e)

  cut_forth : (x y : Point ℕ) → w.partner x ≡ Some y → IsNeither a b x × IsNeither a b y × Before x y
  cut_forth x y e = (new_end x y e, one_end x y e, go (same_point x u) (same_point x v))
    where
      go : Dec (x ≡ u) → Dec (x ≡ v) → Before x y
      go (yes h) d =
          let far : y ≡ v = same_Some y v (sym e ∙ ap w.partner h ∙ wire) in
          inr (inl ((cut.wires x (Free a)).1 (inr (inl (h, refl))), (cut.wires (Free b) y).1 (inr (inr (inr (inr (refl, far)))))))
      go (no n) (yes h) =
          let far : y ≡ u = same_Some y u (sym e ∙ ap w.partner h ∙ back u v wire) in
          inr (inr ((cut.wires x (Free b)).1 (inr (inr (inr (inl (h, refl))))), (cut.wires (Free a) y).1 (inr (inr (inl (refl, far))))))
      go (no n) (no d) = inl ((cut.wires x y).1 (inl (n, d, e)))

  -- the partners of the two new ends, and of other points
  to_one : (x : Point ℕ) → IsNeither a b x → m.partner x ≡ Some (Free a) → x ≡ u
  to_one x n e = elim ((cut.wires x (Free a)).0 e) [
    | inl r ↦ absurd ((one_end x (Free a) r.2).0 refl)
    | inr r ↦ elim r [
      | inl q ↦ q.0
      | inr q ↦ elim q [
        | inl z ↦ absurd (n.0 z.0)
        | inr z ↦ elim z [
          | inl y ↦ absurd (differ (same_free {A = ℕ} a b y.1))
          | inr y ↦ absurd (n.1 y.0)
        ]
      ]
    ]
  ]

  to_two : (x : Point ℕ) → IsNeither a b x → m.partner x ≡ Some (Free b) → x ≡ v
  to_two x n e = elim ((cut.wires x (Free b)).0 e) [
    | inl r ↦ absurd ((one_end x (Free b) r.2).1 refl)
    | inr r ↦ elim r [
      | inl q ↦ absurd (differ (same_free {A = ℕ} a b (sym q.1)))
      | inr q ↦ elim q [
        | inl z ↦ absurd (n.0 z.0)
        | inr z ↦ elim z [
          | inl y ↦ y.0
          | inr y ↦ absurd (n.1 y.0)
        ]
      ]
    ]
  ]

  at_one : (y : Point ℕ) → m.partner (Free a) ≡ Some y → y ≡ u
  at_one y e = elim ((cut.wires (Free a) y).0 e) [
    | inl r ↦ absurd ((new_end (Free a) y r.2).0 refl)
    | inr r ↦ elim r [
      | inl q ↦ absurd ((new_end u v wire).0 (sym q.0))
      | inr q ↦ elim q [
        | inl z ↦ z.1
        | inr z ↦ elim z [
          | inl y ↦ absurd ((one_end u v wire).0 (sym y.0))
          | inr y ↦ absurd (differ (same_free {A = ℕ} a b y.0))
        ]
      ]
    ]
  ]

  at_two : (y : Point ℕ) → m.partner (Free b) ≡ Some y → y ≡ v
  at_two y e = elim ((cut.wires (Free b) y).0 e) [
    | inl r ↦ absurd ((new_end (Free b) y r.2).1 refl)
    | inr r ↦ elim r [
      | inl q ↦ absurd ((new_end u v wire).1 (sym q.0))
      | inr q ↦ elim q [
        | inl z ↦ absurd (differ (same_free {A = ℕ} a b (sym z.0)))
        | inr z ↦ elim z [
          | inl y ↦ absurd ((one_end u v wire).1 (sym y.0))
          | inr y ↦ y.1
        ]
      ]
    ]
  ]

  cut_back : (x y : Point ℕ) → IsNeither a b x × IsNeither a b y × Before x y → w.partner x ≡ Some y
  cut_back x y (nx, ny, inl e) = elim ((cut.wires x y).0 e) [
    | inl r ↦ r.2
    | inr r ↦ absurd (elim r [
      | inl q ↦ ny.0 q.1
      | inr q ↦ elim q [
        | inl z ↦ nx.0 z.0
        | inr z ↦ elim z [
          | inl k ↦ ny.1 k.1
          | inr k ↦ nx.1 k.0
        ]
      ]
    ])
  ]
  cut_back x y (nx, ny, inr (inl e)) = ap w.partner (to_one x nx e.0) ∙ wire ∙ ap (λ z. Some z) (sym (at_two y e.1))
  cut_back x y (nx, ny, inr (inr e)) = ap w.partner (to_two x nx e.0) ∙ back u v wire ∙ ap (λ z. Some z) (sym (at_one y e.1))

  is_cut : JoinsEnds m a b w
  is_cut = record { agents = cut.agents; wires = λ x y. ((λ e. cut_forth x y e), (λ h. cut_back x y h)) }

pub cuts_are_joined : CutsAreJoined
cuts_are_joined w u v a b m lead wire differ no_a no_b cut = is_cut w u v a b m (record { back = lead.0; wire = wire; differ = differ; no_a = no_a; no_b = no_b; cut = cut })
