-- Without a crossing circle each agent leads to an active pair or to a free end.
use Rattle.std.proofs.Common.{◌≡◌, ◌≢◌, ◌⊎◌, ◌≤◌, ℕ, zero, suc, Option, Some, None, IsSome, IsSomeAnd, List, [], ◌∷◌, length, refl, sym, subst, ap, inl, inr, ◌∙◌, arith}
use mathlib.Core.HLevel.{Discrete}
use Rattle.std.specs.List.{AllByRecursion}
use Rattle.in_base.specs.Graphs.{Passage, AreApart, CrossingCircle}
use Rattle.in_net.specs.Graphs.{class_of_symbol, graph_of}
use Rattle.in_net.specs.Nets.{Point, Port, Free, Signature, AreClasses, Net, IsPoint, IsNet}
use Rattle.in_base.specs.Lists.{IsAmong}
use Rattle.in_interaction.specs.Ahead.{MeetsPair, pair, pair_later, WaitsAt, free, free_later}
use Rattle.in_base.proofs.Circuits.{Walk, AreSeparate, scan}

-- xs without one x
pub record Rest {X : Type 0} (x : X) (xs : List X) : Type 0 where
  pub rest : List X
  pub shorter : length xs ≡ suc (length rest)
  pub kept : (y : X) → IsAmong y xs → y ≢ x → IsAmong y rest

pub remove : {X : Type 0} (x : X) (xs : List X) → IsAmong x xs → Rest x xs
remove x [] h = absurd h
remove x (z ∷ zs) (inl e) = record { rest = zs; shorter = refl; kept = λ y h differ. elim h [ inl k ↦ absurd (differ (sym k ∙ e)) | inr k ↦ k ] }
remove x (z ∷ zs) (inr h) =
    let r = remove x zs h in
    record { rest = z ∷ r.rest; shorter = ap suc r.shorter; kept = λ y k differ. elim k [ inl e ↦ inl e | inr j ↦ inr (r.kept y j differ) ] }

map_all : {X : Type 0} (P Q : X → Type 0) (xs : List X) → AllByRecursion P xs → AllByRecursion Q xs → (R : X → Type 0) → ((x : X) → P x → Q x → R x) → AllByRecursion R xs
map_all P Q [] h k R f = tt
map_all P Q (x ∷ xs) h k R f = (f x h.0 k.0, map_all P Q xs h.1 k.1 R f)

-- passages at different agents of a list are at most as many
pub few : {V : Type 0} (ps : List (Passage V)) (xs : List V) → AreApart ps → AllByRecursion (λ p. IsAmong p.node xs) ps → length ps ≤ length xs
few [] xs apart h = omega arith
few (p ∷ ps) xs apart h =
    let r = remove p.node xs h.0 in
    let k : length ps ≤ length r.rest = few ps r.rest apart.1
    (map_all (λ q. IsAmong q.node xs) (λ q. p.node ≢ q.node) ps h.1 apart.0 (λ q. IsAmong q.node r.rest) (λ q among differ. r.kept q.node among (λ e. differ (sym e)))) in
    let s : length xs ≡ suc (length r.rest) = r.shorter in
    omega arith

module _ {A : Type 0} (sig : Signature) (classed : AreClasses sig) (n : Net A) (net : IsNet sig n) (same : Discrete A) (none : CrossingCircle (graph_of sig n) → ⊥) where
  -- entered by an auxiliary port of an agent, left by a principal one
  abbrev E : A × ℕ → Type 0
  E v = ((i : ℕ) × (v.1 ≡ suc i)) × ((s : ℕ) × (n.symbol v.0 ≡ Some s))

  abbrev L : A × ℕ → Type 0
  L v = v.1 ≡ 0

  separate : AreSeparate (graph_of sig n) E L
  separate x i j e l h =
      let s = e.1.0 in
      classed s e.0.0 (sym (ap (λ i. sig.class_of s i) e.0.1) ∙ ap (λ o. class_of_symbol sig o i) (sym e.1.1) ∙ h ∙ ap (λ o. class_of_symbol sig o j) e.1.1 ∙ ap (λ j. sig.class_of s j) l)

  Ends : A → Type 0
  Ends x = MeetsPair n x ⊎ ((k : ℕ) × WaitsAt n k x)

  agent_of : (o : Option ℕ) (i : ℕ) → IsSomeAnd o (λ s. i ≤ sig.arity s) → (s : ℕ) × (o ≡ Some s)
  agent_of None i h = absurd h
  agent_of (Some s) i h = (s, refl)

  -- after k agents the walk has ended, or it continues
  abbrev Goes : ℕ → A → Type 0
  Goes k x = (MeetsPair n x ⊎ ((k : ℕ) × WaitsAt n k x)) ⊎ ((ps : List (Passage A)) × (to : A × ℕ) × (length ps ≡ k) × Walk (graph_of sig n) E L (x, 0) ps to × AllByRecursion (λ p. IsAmong p.node net.agents) ps)

  some_is : (s : ℕ) (o : Option ℕ) → o ≡ Some s → IsSome o
  some_is s o e = subst IsSome (sym e) refl

  has_point : (x : A) → ((s : ℕ) × (n.symbol x ≡ Some s)) → IsPoint sig n (Port x 0)
  has_point x there = subst (λ o. IsSomeAnd o (λ s. 0 ≤ sig.arity s)) (sym there.1) (omega arith)

  agent_at : (p : Point A) (y : A) (i : ℕ) → n.partner p ≡ Some (Port y i) → (s : ℕ) × (n.symbol y ≡ Some s)
  agent_at p y i e = agent_of (n.symbol y) i (net.points (Port y i) p (net.back p (Port y i) e))

  last_step : (x : A) (o : Option (Point A)) → n.partner (Port x 0) ≡ o → IsSome o → Goes 0 x
  last_step x None e h = cc
  last_step x (Some (Free j)) e h = inl (inr (j, free x e))
  last_step x (Some (Port y zero)) e h = inl (inl (pair x y e))
  last_step x (Some (Port y (suc i))) e h = inr ([], (y, suc i), refl, e, tt)

  one_step : (k : ℕ) (x : A) (o : Option (Point A)) → n.partner (Port x 0) ≡ o → IsSome o → ((y : A) → ((s : ℕ) × (n.symbol y ≡ Some s)) → Goes k y) → Goes (suc k) x
  one_step k x None e h on = cc
  one_step k x (Some (Free j)) e h on = inl (inr (j, free x e))
  one_step k x (Some (Port y zero)) e h on = inl (inl (pair x y e))
  one_step k x (Some (Port y (suc i))) e h on =
      let there = agent_at (Port x 0) y (suc i) e in
      elim (on y there) [
        | inl (inl m) ↦ inl (inl (pair_later x y i e m))
        | inl (inr w) ↦ inl (inr (w.0, free_later x y i e w.1))
        | inr r ↦ inr (record { node = y; enter = suc i; leave = 0 } ∷ r.0, r.1, ap suc r.2, (e, ((i, refl), there), refl, r.3), (net.all y (some_is there.0 (n.symbol y) there.1), r.4))
      ]

  ahead : (k : ℕ) (x : A) → ((s : ℕ) × (n.symbol x ≡ Some s)) → Goes k x
  ahead zero x there = last_step x (n.partner (Port x 0)) refl (net.joined (Port x 0) (has_point x there))
  ahead (suc k) x there = one_step k x (n.partner (Port x 0)) refl (net.joined (Port x 0) (has_point x there)) (λ y h. ahead k y h)

  -- a list of more agents than there are has one twice
  too_long : (ps : List (Passage A)) (from to : A × ℕ) → Walk (graph_of sig n) E L from ps to → length ps ≡ suc (length net.agents) → AllByRecursion (λ p. IsAmong p.node net.agents) ps → ⊥
  too_long [] from to w h all = omega arith
  too_long (p ∷ ps) from to w h all =
      elim (scan (graph_of sig n) E L same separate p ps to w.2 w.3) [
        | inl r ↦ none r
        | inr apart ↦
            let k : length (p ∷ ps) ≤ length net.agents = few (p ∷ ps) net.agents apart all in
            omega arith
      ]

  pub each_leads_on : (x : A) → IsSome (n.symbol x) → MeetsPair n x ⊎ ((k : ℕ) × WaitsAt n k x)
  each_leads_on x h =
      elim (ahead (suc (length net.agents)) x (some_of (n.symbol x) h)) [
        | inl r ↦ r
        | inr r ↦ absurd (too_long r.0 (x, 0) r.1 r.3 r.2 r.4)
      ]
    where
      some_of : (o : Option ℕ) → IsSome o → (s : ℕ) × (o ≡ Some s)
      some_of None h = cc
      some_of (Some s) h = (s, refl)
