-- Wires listed by their first points, point by point.
use Rattle.std.proofs.Common.{◌≡◌, ◌⊎◌, inl, inr, ◌+◌, ◌<◌, ◌≤◌, ℕ, zero, suc, Option, Some, None, List, [], ◌∷◌, ◌++◌, map, length, slice_get, get_or, refl, sym, ap, subst, ◌∙◌, arith}
use Rattle.std.specs.Prelude.{option_and_then}
use Rattle.std.proofs.lemmas.List.{length-map}
use Rattle.std.proofs.lemmas.Option.{slice_get_within, slice_get-get_or, slice_get-map}
use Rattle.in_syntax.specs.declared.places.Place.{Place}
use Rattle.in_interaction.specs.Listing.{AddsWire, AreEndsOf, AreListed, wire_at, wire_between}
use Rattle.in_net.specs.Parts.{Parts, cell_in, partner_in}
use Rattle.in_net.specs.TextNet.{ComesBefore}
use Rattle.in_net.specs.declared.nets.AgentNo.{AgentNo}
use Rattle.in_net.specs.declared.nets.Cell.{Cell}
use Rattle.in_net.specs.declared.nets.FreeEnd.{FreeEnd}
use Rattle.in_net.specs.declared.nets.Point.{Point}
use Rattle.in_net.specs.declared.nets.Point.TheVariants.{Port, Free}
use Rattle.in_net.specs.declared.nets.Wire.{Wire}
use Rattle.in_net.proofs.Public.{has_partner, cell_within}
use Rattle.in_base.proofs.Places.{some_same}

-- ---- one more wire

last_wire : (ws : List Wire) (v : Wire) → wire_at (ws ++ v ∷ []) (length ws) ≡ Some (v.one, v.other)
last_wire [] v = refl
last_wire (w ∷ ws) v = last_wire ws v

kept_wire : (ws : List Wire) (v : Wire) (k : ℕ) (z : Point × Point) → wire_at ws k ≡ Some z → wire_at (ws ++ v ∷ []) k ≡ Some z
kept_wire [] v k z e = cc
kept_wire (w ∷ ws) v zero z e = e
kept_wire (w ∷ ws) v (suc k) z e = kept_wire ws v k z e

pub both_ends : (a b x y : Point) → ◌≡◌ {A = Option (Point × Point)} (Some (a, b)) (Some (x, y)) → (a ≡ x) × (b ≡ y)
both_ends a b x y e = let same : ◌≡◌ {A = Point × Point} (a, b) (x, y) = cc in (ap (λ (p : Point × Point). p.0) same, ap (λ (p : Point × Point). p.1) same)

more_wire : (ws : List Wire) (v : Wire) (k : ℕ) (x y : Point) → wire_at (ws ++ v ∷ []) k ≡ Some (x, y) → (wire_at ws k ≡ Some (x, y)) ⊎ ((k ≡ length ws) × (v.one ≡ x) × (v.other ≡ y))
more_wire [] v zero x y e = let s = both_ends v.one v.other x y e in inr (refl, s.0, s.1)
more_wire [] v (suc k) x y e = cc
more_wire (w ∷ ws) v zero x y e = inl e
more_wire (w ∷ ws) v (suc k) x y e = elim (more_wire ws v k x y e) [ inl h ↦ inl h | inr h ↦ inr (ap suc h.0, h.1, h.2) ]

pub wire_within : (ws : List Wire) (k : ℕ) (z : Point × Point) → wire_at ws k ≡ Some z → k < length ws
wire_within [] k z e = cc
wire_within (w ∷ ws) zero z e = omega arith
wire_within (w ∷ ws) (suc k) z e = let l = wire_within ws k z e in omega (arith, l)

nowhere_more : (ws : List Wire) (v : Wire) → v.place ≡ record { from = 0; to = 0; line = 0; col = 0 } → map (λ (w : Wire). w.place) ws ≡ map (λ (w : Wire). record { from = 0; to = 0; line = 0; col = 0 }) ws →
    map (λ (w : Wire). w.place) (ws ++ v ∷ []) ≡ map (λ (w : Wire). record { from = 0; to = 0; line = 0; col = 0 }) (ws ++ v ∷ [])
nowhere_more [] v e h = ap (λ (p : Place). p ∷ []) e
nowhere_more (w ∷ ws) v e h =
    let both : (w.place ≡ record { from = 0; to = 0; line = 0; col = 0 }) × (map (λ (w : Wire). w.place) ws ≡ map (λ (w : Wire). record { from = 0; to = 0; line = 0; col = 0 }) ws) = parts w.place _ _ _ h in
    ap (λ (p : Place). p ∷ map (λ (w : Wire). w.place) (ws ++ v ∷ [])) both.0 ∙ ap (λ (ps : List Place). record { from = 0; to = 0; line = 0; col = 0 } ∷ ps) (nowhere_more ws v e both.1)
  where
    parts : (a b : Place) (xs ys : List Place) → a ∷ xs ≡ b ∷ ys → (a ≡ b) × (xs ≡ ys)
    parts a b xs ys e = (cc, cc)

pub none_listed : (n : Parts) (Done : Point → Type 0) → ((x y : Point) → partner_in n x ≡ Some y → Done x → ⊥) → AreListed n Done []
none_listed n Done none = record { sound = λ w p q e. cc; all = λ p q e l d. absurd (none p q e d); rising = λ v w p q x y lt e f. cc; nowhere = refl }

module _ (n : Parts) (Done : Point → Type 0) (ws : List Wire) (h : AreListed n Done ws) where
  -- the same wires, of other points that are done
  pub redone : (More : Point → Type 0) → ((x y : Point) → partner_in n x ≡ Some y → More x → Done x) → ((x : Point) → Done x → More x) → AreListed n More ws
  redone More there here = record {
    sound = λ w p q e. let r = h.sound w p q e in (r.0, r.1, here p r.2);
    all = λ p q e l d. h.all p q e l (there p q e d);
    rising = h.rising;
    nowhere = h.nowhere;
  }

  pub one_listed : (p q : Point) (new : List Wire) → partner_in n p ≡ Some q → ((x : Point) → Done x → ComesBefore x p) → AddsWire p q ws new → AreListed n (λ x. Done x ⊎ (x ≡ p)) new
  one_listed p q new e before (inl a) = subst (AreListed n (λ x. Done x ⊎ (x ≡ p))) (sym a.1) (record { sound = sound; all = all; rising = rising; nowhere = nowhere_more ws (wire_between p q) refl h.nowhere })
    where
      sound : (w : ℕ) (x y : Point) → wire_at (ws ++ wire_between p q ∷ []) w ≡ Some (x, y) → (partner_in n x ≡ Some y) × ComesBefore x y × (Done x ⊎ (x ≡ p))
      sound w x y f = elim (more_wire ws (wire_between p q) w x y f) [
        | inl g ↦ let r = h.sound w x y g in (r.0, r.1, inl r.2)
        | inr g ↦ (
          ap (partner_in n) (sym g.1) ∙ e ∙ ap (λ (z : Point). Some z) g.2,
          subst (λ (z : Point). ComesBefore z y) g.1 (subst (ComesBefore p) g.2 a.0),
          inr (sym g.1),
        )
      ]

      all : (x y : Point) → partner_in n x ≡ Some y → ComesBefore x y → Done x ⊎ (x ≡ p) → (w : ℕ) × (wire_at (ws ++ wire_between p q ∷ []) w ≡ Some (x, y))
      all x y f l (inl d) = let r = h.all x y f l d in (r.0, kept_wire ws (wire_between p q) r.0 (x, y) r.1)
      all x y f l (inr same) =
          let other : q ≡ y = some_same (partner_in n p) q y e (ap (partner_in n) (sym same) ∙ f) in
          (length ws, last_wire ws (wire_between p q) ∙ ap (λ (z : Point). let u : Point × Point = (z, q) in Some u) (sym same) ∙ ap (λ (z : Point). let u : Point × Point = (x, z) in Some u) other)

      rising : (v w : ℕ) (a b x y : Point) → v < w → wire_at (ws ++ wire_between p q ∷ []) v ≡ Some (a, b) → wire_at (ws ++ wire_between p q ∷ []) w ≡ Some (x, y) → ComesBefore a x
      rising v w a b x y lt f g = go (more_wire ws (wire_between p q) v a b f) (more_wire ws (wire_between p q) w x y g)
        where
          go : (wire_at ws v ≡ Some (a, b)) ⊎ ((v ≡ length ws) × (p ≡ a) × (q ≡ b)) → (wire_at ws w ≡ Some (x, y)) ⊎ ((w ≡ length ws) × (p ≡ x) × (q ≡ y)) → ComesBefore a x
          go (inl k) (inl m) = h.rising v w a b x y lt k m
          go (inl k) (inr m) = subst (ComesBefore a) m.1 (before a (h.sound v a b k).2)
          go (inr k) (inl m) = let l = wire_within ws w (x, y) m in let s = k.0 in absurd (omega (arith, l, s, lt))
          go (inr k) (inr m) = let l = m.0 in let s = k.0 in absurd (omega (arith, l, s, lt))
  one_listed p q new e before (inr a) = subst (AreListed n (λ x. Done x ⊎ (x ≡ p))) (sym a.1) (record {
    sound = λ w x y f. let r = h.sound w x y f in (r.0, r.1, inl r.2);
    all = λ x y f l d. all x y f l d;
    rising = h.rising;
    nowhere = h.nowhere;
  })
    where
      all : (x y : Point) → partner_in n x ≡ Some y → ComesBefore x y → Done x ⊎ (x ≡ p) → (w : ℕ) × (wire_at ws w ≡ Some (x, y))
      all x y f l (inl d) = h.all x y f l d
      all x y f l (inr same) =
          let other : y ≡ q = some_same (partner_in n p) y q (ap (partner_in n) (sym same) ∙ f) e in
          absurd (a.0 (subst (λ (z : Point). ComesBefore z q) same (subst (ComesBefore x) other l)))

-- ---- point by point

same_free : (k l : ℕ) → ◌≡◌ {A = Point} (Free k) (Free l) → k ≡ l
same_free k l e = cc

same_port : (a b : AgentNo) (i j : ℕ) → ◌≡◌ {A = Point} (Port a i) (Port b j) → (a ≡ b) × (i ≡ j)
same_port a b i j e = (cc, cc)

pub next_free : (n : Parts) (k : ℕ) (q : Point) (ws new : List Wire) → AreListed n (λ x. ComesBefore x (Free k)) ws → partner_in n (Free k) ≡ Some q → AddsWire (Free k) q ws new → AreListed n (λ x. ComesBefore x (Free (k + 1))) new
next_free n k q ws new h e a =
    redone n (λ x. ComesBefore x (Free k) ⊎ (x ≡ Free k)) new (one_listed n (λ x. ComesBefore x (Free k)) ws h (Free k) q new e (λ x d. d) a) (λ x. ComesBefore x (Free (k + 1))) there here
  where
    there : (x y : Point) → partner_in n x ≡ Some y → ComesBefore x (Free (k + 1)) → ComesBefore x (Free k) ⊎ (x ≡ Free k)
    there (Free l) y e d = elim (let o : (l < k) ⊎ (l ≡ k) = grind arith in o) [ inl s ↦ inl s | inr s ↦ inr (ap Free s) ]
    there (Port b j) y e d = absurd d

    here : (x : Point) → ComesBefore x (Free k) ⊎ (x ≡ Free k) → ComesBefore x (Free (k + 1))
    here (Free l) (inl s) = omega (arith, s)
    here (Free l) (inr s) = let t = same_free l k s in omega (arith, t)
    here (Port b j) (inl s) = s
    here (Port b j) (inr s) = cc

pub next_port : (n : Parts) (a : AgentNo) (i : ℕ) (q : Point) (ws new : List Wire) → AreListed n (λ x. ComesBefore x (Port a i)) ws → partner_in n (Port a i) ≡ Some q → AddsWire (Port a i) q ws new → AreListed n (λ x. ComesBefore x (Port a (i + 1))) new
next_port n a i q ws new h e add =
    redone n (λ x. ComesBefore x (Port a i) ⊎ (x ≡ Port a i)) new (one_listed n (λ x. ComesBefore x (Port a i)) ws h (Port a i) q new e (λ x d. d) add) (λ x. ComesBefore x (Port a (i + 1))) there here
  where
    there : (x y : Point) → partner_in n x ≡ Some y → ComesBefore x (Port a (i + 1)) → ComesBefore x (Port a i) ⊎ (x ≡ Port a i)
    there (Free l) y e d = inl tt
    there (Port b j) y e (inl s) = inl (inl s)
    there (Port b j) y e (inr s) =
        let lt = s.1 in
        elim (let o : (j < i) ⊎ (j ≡ i) = grind arith in o) [
          | inl t ↦ inl (inr (s.0, t))
          | inr t ↦ inr (ap (λ (z : ℕ). Port (record { 0 = z }) j) s.0 ∙ ap (λ (z : ℕ). Port a z) t)
        ]

    here : (x : Point) → ComesBefore x (Port a i) ⊎ (x ≡ Port a i) → ComesBefore x (Port a (i + 1))
    here (Free l) o = tt
    here (Port b j) (inl (inl s)) = inl s
    here (Port b j) (inl (inr s)) = let t = s.1 in inr (s.0, omega (arith, t))
    here (Port b j) (inr s) = let t = same_port b a j i s in let u = t.1 in inr (ap (λ (z : AgentNo). z.0) t.0, omega (arith, u))

-- ---- from free ends to agents, from agent to agent, and to the end

pub no_point : (n : Parts) → AreListed n (λ x. ComesBefore x (Free 0)) []
no_point n = none_listed n (λ x. ComesBefore x (Free 0)) none
  where
    none : (x y : Point) → partner_in n x ≡ Some y → ComesBefore x (Free 0) → ⊥
    none (Free l) y e d = absurd (omega (arith, d))
    none (Port b j) y e d = d

pub first_agent : (n : Parts) (ws : List Wire) → AreListed n (λ x. ComesBefore x (Free (length n.free))) ws → AreListed n (λ x. ComesBefore x (Port (record { 0 = 0 }) 0)) ws
first_agent n ws h = redone n (λ x. ComesBefore x (Free (length n.free))) ws h (λ x. ComesBefore x (Port (record { 0 = 0 }) 0)) there here
  where
    there : (x y : Point) → partner_in n x ≡ Some y → ComesBefore x (Port (record { 0 = 0 }) 0) → ComesBefore x (Free (length n.free))
    there (Free l) y e d = has_partner n (Free l) y e
    there (Port b j) y e (inl s) = absurd (omega (arith, s))
    there (Port b j) y e (inr s) = let t = s.1 in absurd (omega (arith, t))

    here : (x : Point) → ComesBefore x (Free (length n.free)) → ComesBefore x (Port (record { 0 = 0 }) 0)
    here (Free l) d = tt
    here (Port b j) d = absurd d

port_there : (n : Parts) (b : AgentNo) (j : ℕ) (y : Point) → partner_in n (Port b j) ≡ Some y → (c : Cell) × (cell_in n b.0 ≡ Some c) × (j < length c.ends)
port_there n b j y e = go (cell_in n b.0) refl e
  where
    go : (o : Option Cell) → cell_in n b.0 ≡ o → option_and_then (λ (c : Cell). slice_get c.ends j) o ≡ Some y → (c : Cell) × (cell_in n b.0 ≡ Some c) × (j < length c.ends)
    go None is e = cc
    go (Some c) is e = (c, is, slice_get_within c.ends j y e)

pub next_agent : (n : Parts) (x m : ℕ) (ws : List Wire) → ((c : Cell) → cell_in n x ≡ Some c → length c.ends ≤ m) → AreListed n (λ p. ComesBefore p (Port (record { 0 = x }) m)) ws → AreListed n (λ p. ComesBefore p (Port (record { 0 = x + 1 }) 0)) ws
next_agent n x m ws most h = redone n (λ p. ComesBefore p (Port (record { 0 = x }) m)) ws h (λ p. ComesBefore p (Port (record { 0 = x + 1 }) 0)) there here
  where
    there : (p y : Point) → partner_in n p ≡ Some y → ComesBefore p (Port (record { 0 = x + 1 }) 0) → ComesBefore p (Port (record { 0 = x }) m)
    there (Free l) y e d = tt
    there (Port b j) y e (inl s) = elim (let o : (b.0 < x) ⊎ (b.0 ≡ x) = grind arith in o) [
      | inl t ↦ inl t
      | inr t ↦ let c = port_there n b j y e in let l = most c.0 (ap (cell_in n) (sym t) ∙ c.1) in let k = c.2 in inr (t, omega (arith, l, k))
    ]
    there (Port b j) y e (inr s) = let t = s.1 in absurd (omega (arith, t))

    here : (p : Point) → ComesBefore p (Port (record { 0 = x }) m) → ComesBefore p (Port (record { 0 = x + 1 }) 0)
    here (Free l) d = tt
    here (Port b j) (inl s) = inl (omega (arith, s))
    here (Port b j) (inr s) = let t = s.0 in inl (omega (arith, t))

pub all_agents : (n : Parts) (x : ℕ) (ws : List Wire) → length n.cells ≤ x → AreListed n (λ p. ComesBefore p (Port (record { 0 = x }) 0)) ws → AreListed n (λ p. Unit {0}) ws
all_agents n x ws last h = redone n (λ p. ComesBefore p (Port (record { 0 = x }) 0)) ws h (λ p. Unit {0}) there (λ p d. tt)
  where
    there : (p y : Point) → partner_in n p ≡ Some y → Unit {0} → ComesBefore p (Port (record { 0 = x }) 0)
    there (Free l) y e d = tt
    there (Port b j) y e d = let c = port_there n b j y e in let l = cell_within n.cells b.0 c.0 c.1 in inl (omega (arith, l, last))

-- the next free end
pub one_free : (n : Parts) (k : ℕ) (ends : List Point) (d : Point) (ws new : List Wire) → AreEndsOf ends n.free → k < length ends → AddsWire (Free k) (get_or ends k d) ws new → AreListed n (λ x. ComesBefore x (Free k)) ws →
    AreListed n (λ x. ComesBefore x (Free (k + 1))) new
one_free n k ends d ws new is lt add h =
    let here : partner_in n (Free k) ≡ Some (get_or ends k d) = sym (slice_get-map (λ (f : FreeEnd). f.end) n.free k) ∙ ap (λ (es : List Point). slice_get es k) is ∙ slice_get-get_or ends k d lt in
    next_free n k (get_or ends k d) ws new h here add

-- the next end of an agent
pub one_port : (n : Parts) (c : Cell) (a : AgentNo) (i : ℕ) (ends : List Point) (d : Point) (ws new : List Wire) → cell_in n a.0 ≡ Some c → c.ends ≡ ends → i < length ends → AddsWire (Port a i) (get_or ends i d) ws new →
    AreListed n (λ x. ComesBefore x (Port a i)) ws → AreListed n (λ x. ComesBefore x (Port a (i + 1))) new
one_port n c a i ends d ws new is same lt add h =
    let here : partner_in n (Port a i) ≡ Some (get_or ends i d) = ap (option_and_then (λ (c : Cell). slice_get c.ends i)) is ∙ ap (λ (es : List Point). slice_get es i) same ∙ slice_get-get_or ends i d lt in
    next_port n a i (get_or ends i d) ws new h here add

pub none_at : (cs : List (Option Cell)) (x : ℕ) (d : Cell) → slice_get cs x ≡ Some None → option_and_then (λ (c : Option Cell). c) (slice_get cs x) ≡ Some d → length d.ends ≤ 0
none_at cs x d e h = let z : ◌≡◌ {A = Option Cell} None (Some d) = sym (ap (option_and_then (λ (c : Option Cell). c)) e) ∙ h in cc

pub is_many : (ends : List Point) (free : List FreeEnd) → AreEndsOf ends free → length free ≡ length ends
is_many ends free is = sym (length-map free (λ (f : FreeEnd). f.end)) ∙ ap length is
