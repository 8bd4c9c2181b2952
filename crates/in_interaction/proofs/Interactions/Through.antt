-- Alternating paths through a boundary end: such a path falls into two halves there, two halves make a path, and the path is determined.
use Rattle.std.proofs.Common.{◌≡◌, ◌⊎◌, ◌+◌, ◌*◌, ◌≤◌, ◌<◌, ℕ, List, [], ◌∷◌, length, refl, sym, subst, ap, inl, inr, ◌∙◌, arith}
use mathlib.Core.HLevel.{Discrete}
use Rattle.in_base.specs.Lists.{IsAmong}
use Rattle.in_net.specs.Nets.{Point, Port, Signature, Net, IsPoint, IsNet}
use Rattle.in_net.specs.Interactions.{Redex, IsRedex, Side, Outer, Inner, other, Alternates, stands_for, InnerWire, wire_of, IsOfPair, IsNaming, end_agent, end_place}
use Rattle.in_interaction.proofs.Interactions.Alternating.{wire_back, one_wire, both_sides}
use Rattle.in_net.proofs.Public.{first_wire, end_of, port_agent, port_place, end_same}
use Rattle.in_interaction.proofs.Interactions.PathEnds.{ends}
use Rattle.in_interaction.proofs.Interactions.Paths.{other_twice}

module _ {P : Type 0} (wire : Side → P → P → Type 0) (End : P → Type 0) where
  abbrev Path : Side → P → List P → P → Type 0
  Path = Alternates wire End

  -- with the ends that it goes through
  pub same_path : ((s : Side) (p q r : P) → wire s p q → wire s p r → q ≡ r) → (s : Side) (u : P) (es fs : List P) (v w : P) → (End v → ⊥) → (End w → ⊥) → Alternates wire End s u es v → Alternates wire End s u fs w → (es ≡ fs) × (v ≡ w)
  same_path one s u [] [] v w hv hw a b = (refl, one s u v w a b)
  same_path one s u [] (f ∷ fs) v w hv hw a b = absurd (hv (subst End (sym (one s u v f a b.0)) b.1))
  same_path one s u (e ∷ es) [] v w hv hw a b = absurd (hw (subst End (sym (one s u w e b a.0)) a.1))
  same_path one s u (e ∷ es) (f ∷ fs) v w hv hw a b =
      let same : e ≡ f = one s u e f a.0 b.0 in
      let r = same_path one (other s) f es fs v w hv hw (subst (λ e. Alternates wire End (other s) e es v) same a.2) b.2 in
      (ap (λ z. z ∷ es) same ∙ ap (λ zs. f ∷ zs) r.0, r.1)

  -- two halves from one end make a path from the far end of the first one to that of the second
  pub record Joins (e : P) (es fs : List P) (v w : P) : Type 0 where
    pub side : Side
    pub ends : List P
    pub path : Alternates wire End side v ends w
    pub through : IsAmong e ends
    pub kept : (p : P) → IsAmong p fs → IsAmong p ends
    pub only : (p : P) → IsAmong p ends → (e ≡ p) ⊎ (IsAmong p es ⊎ IsAmong p fs)

  pub join : ((s : Side) (p q : P) → wire s p q → wire s q p) → (s : Side) (e : P) (es : List P) (v : P) → End e → Alternates wire End s e es v → (fs : List P) (w : P) → Alternates wire End (other s) e fs w → Joins e es fs v w
  join back s e [] v h a fs w b = record { side = s; ends = e ∷ fs; path = (back s e v a, h, b); through = inl refl; kept = λ p i. inr i; only = λ p i. elim i [ inl k ↦ inl k | inr k ↦ inr (inr k) ] }
  join back s e (f ∷ es) v h a fs w b =
      let rest : Alternates wire End (other (other s)) f (e ∷ fs) w = subst (λ t. Alternates wire End t f (e ∷ fs) w) (sym (other_twice s)) (back s e f a.0, h, b) in
      let j = join back (other s) f es v a.1 a.2 (e ∷ fs) w rest in
      record {
        side = j.side;
        ends = j.ends;
        path = j.path;
        through = j.kept e (inl refl);
        kept = λ p i. j.kept p (inr i);
        only = λ p i. elim (j.only p i) [
          | inl k ↦ inr (inl (inl k))
          | inr k ↦ elim k [ inl m ↦ inr (inl (inr m)) | inr m ↦ elim m [ inl o ↦ inl o | inr o ↦ inr (inr o) ] ]
        ];
      }

  -- a path through an end falls into the halves from there to both of its far ends
  pub record Cut (u v e : P) (es : List P) : Type 0 where
    pub side : Side
    pub front : List P
    pub rear : List P
    pub is_end : End e
    pub ahead : Alternates wire End side e front v
    pub behind : Alternates wire End (other side) e rear u
    pub front_of : (p : P) → IsAmong p front → IsAmong p es
    pub rear_of : (p : P) → IsAmong p rear → IsAmong p es
    pub short : length front + length rear < length es

  cut_on : ((s : Side) (p q : P) → wire s p q → wire s q p) → (s : Side) (e : P) (es : List P) (v : P) → End e → Alternates wire End s e es v → (fs : List P) (u : P) → Alternates wire End (other s) e fs u → (all : List P) → IsAmong e all → ((p : P) → IsAmong p es → IsAmong p all) → ((p : P) → IsAmong p fs → IsAmong p all) → length es + length fs < length all → (d : P) → (e ≡ d) ⊎ IsAmong d es → Cut u v d all
  cut_on back s e es v h a fs u b all here front rear less d (inl same) =
      subst (λ d. Cut u v d all) same (record { side = s; front = es; rear = fs; is_end = h; ahead = a; behind = b; front_of = front; rear_of = rear; short = less })
  cut_on back s e (f ∷ es) v h a fs u b all here front rear less d (inr i) =
      cut_on back (other s) f es v a.1 a.2 (e ∷ fs) u (subst (λ t. Alternates wire End t f (e ∷ fs) u) (sym (other_twice s)) (back s e f a.0, h, b)) all (front f (inl refl)) (λ p k. front p (inr k))
      (λ p k. elim k [ inl m ↦ subst (λ p. IsAmong p all) m here | inr m ↦ rear p m ]) (omega (arith, less)) d i
  cut_on back s e [] v h a fs u b all here front rear less d (inr i) = absurd i

  pub cut : ((s : Side) (p q : P) → wire s p q → wire s q p) → (s : Side) (u : P) (es : List P) (v : P) → Alternates wire End s u es v → (e : P) → IsAmong e es → Cut u v e es
  cut back s u [] v a e i = absurd i
  cut back s u (f ∷ es) v a e i =
      cut_on back (other s) f es v a.1 a.2 [] u (subst (λ t. wire t f u) (sym (other_twice s)) (back s u f a.0)) (f ∷ es) (inl refl) (λ p k. inr k) (λ p k. absurd k) (omega arith) e i

module _ {A B : Type 0} (sig : Signature) (n : Net A) (x : Redex A B) (name : B → A) (net : IsNet sig n) (inside : IsNet sig x.member) (redex : IsRedex sig n x) (naming : IsNaming n x name) where
  abbrev pub pt : ℕ → Point A
  pt e = Port (end_agent sig x e) (end_place sig x e)

  abbrev pub Way : Side → Point A → List (Point A) → Point A → Type 0
  Way = Alternates (wire_of sig n x name) (IsOfPair x)

  pub pt_same : (e f : ℕ) → pt e ≡ pt f → e ≡ f
  pt_same e f w =
      end_same sig n x net inside redex e f (port_agent (end_agent sig x e) (end_agent sig x f) (end_place sig x e) (end_place sig x f) w) (port_place (end_agent sig x e) (end_agent sig x f) (end_place sig x e) (end_place sig x f) w)

  -- from a point that stays there is at most one path to such a point
  pub one_way : (s t : Side) (u v w : Point A) (es fs : List (Point A)) → (IsOfPair x u → ⊥) → (IsOfPair x v → ⊥) → (IsOfPair x w → ⊥) → Way s u es v → Way t u fs w → (es ≡ fs) × (v ≡ w)
  one_way Outer Outer u v w es fs hu hv hw a b = same_path (wire_of sig n x name) (IsOfPair x) (one_wire sig n x name net inside redex naming) Outer u es fs v w hv hw a b
  one_way Inner Inner u v w es fs hu hv hw a b = same_path (wire_of sig n x name) (IsOfPair x) (one_wire sig n x name net inside redex naming) Inner u es fs v w hv hw a b
  one_way Outer Inner u v w es fs hu hv hw a b =
      let f = first_wire sig n x name net inside redex naming Outer u es v a in
      let g = first_wire sig n x name net inside redex naming Inner u fs w b in
      absurd (hu (both_sides sig n x name net inside redex naming u f.0 g.0 f.1 g.1))
  one_way Inner Outer u v w es fs hu hv hw a b =
      let f = first_wire sig n x name net inside redex naming Inner u es v a in
      let g = first_wire sig n x name net inside redex naming Outer u fs w b in
      absurd (hu (both_sides sig n x name net inside redex naming u g.0 f.0 g.1 f.1))

  pub cut_at : (s : Side) (u : Point A) (es : List (Point A)) (v : Point A) → Way s u es v → (e : Point A) → IsAmong e es → Cut (wire_of sig n x name) (IsOfPair x) u v e es
  cut_at = cut (wire_of sig n x name) (IsOfPair x) (wire_back sig n x name net inside)

  pub join_at : (s : Side) (e : Point A) (es : List (Point A)) (v : Point A) → IsOfPair x e → Way s e es v → (fs : List (Point A)) (w : Point A) → Way (other s) e fs w → Joins (wire_of sig n x name) (IsOfPair x) e es fs v w
  join_at = join (wire_of sig n x name) (IsOfPair x) (wire_back sig n x name net inside)

  -- a port of the pair with a wire of the right member is a boundary end
  end_inside : (p w : Point A) → IsOfPair x p → InnerWire sig x name p w → (d : ℕ) × (d < length x.member.free) × (p ≡ pt d)
  end_inside p w h i =
      let there = inside.points i.0 i.1 i.4 in
      let e = end_of sig n x name net inside redex naming i.0 there (subst (IsOfPair x) (sym i.2) h) in
      (e.0, subst (IsPoint sig x.member) e.1 there, sym i.2 ∙ ap (stands_for sig x name) e.1)

  -- a path goes through boundary ends alone
  pub through_ends : (s : Side) (u : Point A) (es : List (Point A)) (v : Point A) → Way s u es v → (p : Point A) → IsAmong p es → (d : ℕ) × (d < length x.member.free) × (p ≡ pt d)
  through_ends s u es v a p i = go (cut_at s u es v a p i)
    where
      by : (t : Side) (front rear : List (Point A)) → IsOfPair x p → Way t p front v → Way (other t) p rear u → (d : ℕ) × (d < length x.member.free) × (p ≡ pt d)
      by Inner front rear h a b = let f = first_wire sig n x name net inside redex naming Inner p front v a in end_inside p f.0 h f.1
      by Outer front rear h a b = let f = first_wire sig n x name net inside redex naming Inner p rear u b in end_inside p f.0 h f.1

      go : Cut (wire_of sig n x name) (IsOfPair x) u v p es → (d : ℕ) × (d < length x.member.free) × (p ≡ pt d)
      go c = by c.side c.front c.rear c.is_end c.ahead c.behind

  -- a path between points that stay is short
  pub short_way : Discrete A → (s : Side) (u : Point A) (es : List (Point A)) (v : Point A) → (IsOfPair x u → ⊥) → (IsOfPair x v → ⊥) → Way s u es v → length es ≤ 2 * (sig.arity x.first + sig.arity x.second) + 1
  short_way same s u [] v hu hv a = omega arith
  short_way same s u (f ∷ es) v hu hv a =
      let d = through_ends s u (f ∷ es) v a f (inl refl) in
      let within : d.0 < sig.arity x.first + sig.arity x.second = subst (λ m. d.0 < m) redex.ends d.1 in
      let r = ends sig n x name net inside redex naming same s d.0 within u hu (subst (wire_of sig n x name s u) d.2 a.0) in
      let one = same_path (wire_of sig n x name) (IsOfPair x) (one_wire sig n x name net inside redex naming) (other s) (pt d.0) es r.0 v r.1 hv r.2 (subst (λ z. Way (other s) z es v) d.2 a.2) r.3 in
      let many : length es ≡ length r.0 = ap length one.0 in
      let most = r.4 in
      omega (arith, many, most)

  -- the lowest of the boundary ends that a path goes through
  pub lowest : (es : List (Point A)) → ((p : Point A) → IsAmong p es → (d : ℕ) × (d < length x.member.free) × (p ≡ pt d)) → (es ≡ []) ⊎ ((e : ℕ) × IsAmong (pt e) es × ((d : ℕ) → IsAmong (pt d) es → e ≤ d))
  lowest [] all = inl refl
  lowest (p ∷ es) all =
      let h = all p (inl refl) in
      go h.0 h.2 (lowest es (λ q i. all q (inr i)))
    where
      first : (c : ℕ) → p ≡ pt c → (d : ℕ) → p ≡ pt d → c ≡ d
      first c is d same = pt_same c d (sym is ∙ same)

      by : (c e : ℕ) → p ≡ pt c → IsAmong (pt e) es → ((d : ℕ) → IsAmong (pt d) es → e ≤ d) → (c ≤ e) ⊎ (e < c) → (e : ℕ) × IsAmong (pt e) (p ∷ es) × ((d : ℕ) → IsAmong (pt d) (p ∷ es) → e ≤ d)
      by c e is i low (inl le) = (c, inl is, λ d j. elim j [ inl k ↦ (let m = first c is d k in omega (arith, m)) | inr k ↦ (let m = low d k in omega (arith, m, le)) ])
      by c e is i low (inr lt) = (e, inr i, λ d j. elim j [ inl k ↦ (let m = first c is d k in omega (arith, m, lt)) | inr k ↦ low d k ])

      go : (c : ℕ) → p ≡ pt c → (es ≡ []) ⊎ ((e : ℕ) × IsAmong (pt e) es × ((d : ℕ) → IsAmong (pt d) es → e ≤ d)) → ((p ∷ es) ≡ []) ⊎ ((e : ℕ) × IsAmong (pt e) (p ∷ es) × ((d : ℕ) → IsAmong (pt d) (p ∷ es) → e ≤ d))
      go c is (inl none) = inr (c, inl is, λ d j. elim j [ inl k ↦ (let m = first c is d k in omega (arith, m)) | inr k ↦ absurd (subst (IsAmong (pt d)) none k) ])
      go c is (inr r) = inr (by c r.0 is r.1 r.2 (let o : (c ≤ r.0) ⊎ (r.0 < c) = grind arith in o))
