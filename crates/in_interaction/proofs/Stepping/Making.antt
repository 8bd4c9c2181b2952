-- The pairs that an interaction makes: one for each lowest boundary end, found by the two halves of its path.
use Rattle.std.proofs.Common.{◌≡◌, ◌≢◌, ◌⊎◌, inl, inr, ◌+◌, ◌*◌, ◌<◌, ◌≤◌, ℕ, Option, Some, List, [], ◌∷◌, ◌++◌, length, slice_get, refl, sym, ap, subst, ◌∙◌, arith}
use Rattle.std.specs.Prelude.{option_map, IsSomeAnd}
use native.Mathlib.Decide.{ℕ_discrete}
use Rattle.std.proofs.lemmas.List.{length-map}
use Rattle.std.proofs.lemmas.Option.{slice_get_within}
use Rattle.in_base.specs.Lists.{IsAmong}
use Rattle.in_symbols.specs.Tables.{Tables, arity_of, IsSymbol}
use Rattle.in_syntax.specs.declared.symbol_no.SymbolNo.{SymbolNo}
use Rattle.in_net.specs.ActivePairs.{StandsFirst}
use Rattle.in_interaction.specs.Following.{SiteParts}
use Rattle.in_interaction.specs.Interacting.{unused, CanInteract}
use Rattle.in_net.specs.Interactions.{Redex, IsRedex, IsNaming, Side, Outer, Inner, other, PairPath, wire_of, IsOfPair, AreJoined, end_agent, end_place, redex_at}
use Rattle.in_interaction.specs.Made.{PassesEnd, HasSymbolAfter, IsMade, AreMadeOverEnds}
use Rattle.in_interaction.specs.Making.{Over, AreMadeBelow, most_wires}
use Rattle.in_net.specs.Nets.{Point, Port, IsPoint, IsNet, net_of, signature_of}
use Rattle.in_net.specs.Parts.{Parts, IsWhole}
use Rattle.in_net.specs.Rules.{RuleParts}
use Rattle.in_net.specs.declared.nets.AgentNo.{AgentNo}
use Rattle.in_net.specs.declared.nets.FreeEnd.{FreeEnd}
use Rattle.in_net.proofs.Public.{end_of_pair, not_pair, below_or, symbol_known}
use Rattle.in_interaction.proofs.Interactions.Alternating.{one_wire}
use Rattle.in_interaction.proofs.Interactions.StaysNet as stays_net
use Rattle.in_interaction.proofs.Interactions.StepExists.{step_exists}
use Rattle.in_interaction.proofs.Interactions.Through as through
use Rattle.in_base.proofs.Places.{last_at, kept_at, more_at}
use Rattle.in_interaction.proofs.Stepping.Sites.{Site, net, inside, redex, naming, few_places, known}

pub agent_same : (x y : AgentNo) → x.0 ≡ y.0 → x ≡ y
agent_same x y e = ap (λ (z : ℕ). let w : AgentNo = record { 0 = z } in w) e

-- a pair has one lowest boundary end
pub end_once : (t : Tables) (n : Parts) (r : RuleParts) (a b : AgentNo) (name : ℕ → ℕ) (d e : ℕ) (q : AgentNo × AgentNo) → IsMade t n r a b name d q → IsMade t n r a b name e q → d ≡ e
end_once t n r a b name d e q h g = let x = h.path.lowest e g.path.passed in let y = g.path.lowest d h.path.passed in omega (arith, x, y)

pub symbol_after_known : (t : Tables) (n : Parts) (r : RuleParts) (a b y : AgentNo) (s : SymbolNo) → CanInteract t n r a b → HasSymbolAfter n r a b (unused n.cells) y s → IsSymbol t s.0
symbol_after_known t n r a b y s can (inl h) = symbol_known t n y.0 s can.net h.2
symbol_after_known t n r a b y s can (inr h) = symbol_known t r.member h.0 s can.rule.member h.2

-- an agent after the interaction isn't one of the pair
pub stays_as : (t : Tables) (n : Parts) (r : RuleParts) (a b : AgentNo) (name : ℕ → ℕ) → IsNet (signature_of t) (net_of n) → IsNet (signature_of t) (net_of r.member) → IsRedex (signature_of t) (net_of n) (redex_at r a.0 b.0) → IsNaming (net_of n) (redex_at r a.0 b.0) name →
    (y : AgentNo) (s : SymbolNo) → HasSymbolAfter n r a b name y s → IsOfPair (redex_at r a.0 b.0) (Port y.0 0) → ⊥
stays_as t n r a b name net inside redex naming y s (inl h) = λ o. elim o [ inl e ↦ h.0 (agent_same y a e) | inr e ↦ h.1 (agent_same y b e) ]
stays_as t n r a b name net inside redex naming y s (inr h) =
    let there : IsPoint (signature_of t) (net_of r.member) (Port h.0 0) =
    subst (λ (o : Option SymbolNo). IsSomeAnd (option_map (λ (s : SymbolNo). s.0) o) (λ s. 0 ≤ arity_of t s)) (sym h.2) (omega arith) in
    λ o. not_pair (signature_of t) (net_of n) (redex_at r a.0 b.0) name net inside redex naming h.0 0 there (subst (λ z. IsOfPair (redex_at r a.0 b.0) (Port z 0)) (sym h.1) o)

module _ (here : Site) where
  open here use {t, n, r, a, b}

  abbrev pair : Redex ℕ ℕ
  pair = redex_at r a.0 b.0

  abbrev name : ℕ → ℕ
  name = unused n.cells

  abbrev pub pt : ℕ → Point ℕ
  pt e = Port (end_agent (signature_of t) pair e) (end_place (signature_of t) pair e)

  abbrev HasSymbol : AgentNo → SymbolNo → Type 0
  HasSymbol = HasSymbolAfter n r a b name

  abbrev Makes : ℕ → AgentNo × AgentNo → Type 0
  Makes = IsMade t n r a b name

  abbrev pub Stays : Point ℕ → Type 0
  Stays u = IsOfPair pair u → ⊥

  pub stays_after : (y : AgentNo) (s : SymbolNo) → HasSymbol y s → Stays (Port y.0 0)
  stays_after = stays_as t n r a b name (net here) (inside here) (redex here) (naming here)

  -- the path from a boundary end by one side ends at this agent's principal port
  pub record Half (side : Side) (e : ℕ) (z : AgentNo) : Type 0 where
    pub symbol : SymbolNo
    pub has : HasSymbol z symbol
    pub ends : List (Point ℕ)
    pub way : PairPath (signature_of t) (net_of n) pair name side (pt e) ends (Port z.0 0)
    pub few : length ends < most_wires
    pub low : (d : ℕ) → IsAmong (pt d) ends → e ≤ d

  -- .. by both sides
  pub record Halves (e : ℕ) (q : AgentNo × AgentNo) : Type 0 where
    pub one : AgentNo
    pub two : AgentNo
    pub outer : Half Outer e one
    pub inner : Half Inner e two
    pub are : (q ≡ (one, two)) ⊎ (q ≡ (two, one))

  pub halves : (e : ℕ) (q : AgentNo × AgentNo) → Makes e q → Halves e q
  halves e q h = by c.side c.front c.rear c.ahead c.behind c.front_of c.rear_of c.short
    where
      es : List (Point ℕ)
      es = h.path.passed.1

      c : through.Cut (wire_of (signature_of t) (net_of n) pair name) (IsOfPair pair) (Port q.0.0 0) (Port q.1.0 0) (pt e) es
      c = known here through.cut_at h.path.passed.0 (Port q.0.0 0) es (Port q.1.0 0) h.path.passed.2 (pt e) h.path.passed.3

      most : length es ≤ 2 * (arity_of t r.heads.0.0 + arity_of t r.heads.1.0) + 1
      most =
          known here through.short_way ℕ_discrete h.path.passed.0 (Port q.0.0 0) es (Port q.1.0 0) (stays_after q.0 h.first h.one) (stays_after q.1 h.second h.two) h.path.passed.2

      low : (fs : List (Point ℕ)) → ((p : Point ℕ) → IsAmong p fs → IsAmong p es) → (d : ℕ) → IsAmong (pt d) fs → e ≤ d
      low fs into d i = h.path.lowest d (h.path.passed.0, es, h.path.passed.2, into (pt d) i)

      by : (s : Side) (front rear : List (Point ℕ)) → PairPath (signature_of t) (net_of n) pair name s (pt e) front (Port q.1.0 0) → PairPath (signature_of t) (net_of n) pair name (other s) (pt e) rear (Port q.0.0 0) → ((p : Point ℕ) → IsAmong p front → IsAmong p es) → ((p : Point ℕ) → IsAmong p rear → IsAmong p es) →
          length front + length rear < length es → Halves e q
      by Outer front rear x y f g less = let k = few_places here in let m = most in record {
        one = q.1;
        two = q.0;
        outer = record { symbol = h.second; has = h.two; ends = front; way = x; few = omega (arith, less, k, m); low = low front f };
        inner = record { symbol = h.first; has = h.one; ends = rear; way = y; few = omega (arith, less, k, m); low = low rear g };
        are = inr refl;
      }
      by Inner front rear x y f g less = let k = few_places here in let m = most in record {
        one = q.0;
        two = q.1;
        outer = record { symbol = h.first; has = h.one; ends = rear; way = y; few = omega (arith, less, k, m); low = low rear g };
        inner = record { symbol = h.second; has = h.two; ends = front; way = x; few = omega (arith, less, k, m); low = low front f };
        are = inl refl;
      }

  -- from a boundary end by one side one path goes to a point that stays
  pub one_from : (s : Side) (e : ℕ) (u v : Point ℕ) (es fs : List (Point ℕ)) → Stays u → Stays v → PairPath (signature_of t) (net_of n) pair name s (pt e) es u → PairPath (signature_of t) (net_of n) pair name s (pt e) fs v → (es ≡ fs) × (u ≡ v)
  one_from s e u v es fs hu hv x y = through.same_path (wire_of (signature_of t) (net_of n) pair name) (IsOfPair pair) (known here one_wire) s (pt e) es fs u v hu hv x y

  -- two halves without a lower end make a pair, in its order
  pub is_made : (s : Side) (e : ℕ) (x y : AgentNo) (c d : SymbolNo) (es fs : List (Point ℕ)) → PairPath (signature_of t) (net_of n) pair name s (pt e) es (Port x.0 0) → ((l : ℕ) → IsAmong (pt l) es → e ≤ l) → PairPath (signature_of t) (net_of n) pair name (other s) (pt e) fs (Port y.0 0) → ((l : ℕ) → IsAmong (pt l) fs → e ≤ l) →
      HasSymbol x c → HasSymbol y d → StandsFirst t c d x y → Makes e (x, y)
  is_made s e x y c d es fs h low_h g low_g one two order = record {
    first = c;
    second = d;
    one = one;
    two = two;
    path = record { passed = (j.side, j.ends, j.path, j.through); lowest = lowest };
    order = order;
  }
    where
      j : through.Joins (wire_of (signature_of t) (net_of n) pair name) (IsOfPair pair) (pt e) es fs (Port x.0 0) (Port y.0 0)
      j = known here through.join_at s (pt e) es (Port x.0 0) (known here end_of_pair e) h fs (Port y.0 0) g

      lowest : (l : ℕ) → PassesEnd (signature_of t) (net_of n) pair name l (Port x.0 0) (Port y.0 0) → e ≤ l
      lowest l p =
          let two_stays = stays_after y d two in
          let same = (known here through.one_way p.0 j.side (Port x.0 0) (Port y.0 0) (Port y.0 0) p.1 j.ends (stays_after x c one) two_stays two_stays p.2 j.path).0 in
          elim (j.only (pt l) (subst (IsAmong (pt l)) same p.3)) [
            | inl k ↦ let m = known here through.pt_same e l k in omega (arith, m)
            | inr k ↦ elim k [ inl i ↦ low_h l i | inr i ↦ low_g l i ]
          ]

  pub end_within : (e : ℕ) → e < arity_of t r.heads.0.0 + arity_of t r.heads.1.0 → e < length r.member.free
  end_within e lt =
      let many = length-map r.member.free (λ (f : FreeEnd). f.kind) in
      let all = (redex here).ends in
      omega (arith, lt, many, all)

  -- a lowest end of a pair is a boundary end
  pub made_within : (e : ℕ) (q : AgentNo × AgentNo) → Makes e q → e < length r.member.free
  made_within e q h =
      let d = known here through.through_ends h.path.passed.0 (Port q.0.0 0) h.path.passed.1 (Port q.1.0 0) h.path.passed.2 (pt e) h.path.passed.3 in
      let same = known here through.pt_same e d.0 d.2 in
      let many = length-map r.member.free (λ (f : FreeEnd). f.kind) in
      let l = d.1 in
      omega (arith, same, l, many)

  -- two principal ports that are joined are those of two agents
  pub agents_differ : (x y : AgentNo) → AreJoined (signature_of t) (net_of n) pair name (Port x.0 0) (Port y.0 0) → x ≢ y
  agents_differ x y j same =
      let after = known here step_exists ℕ_discrete in
      let is_net = stays_net.is_net (signature_of t) (net_of n) pair name after.0 (net here) (inside here) (redex here) after.1 ℕ_discrete in
      is_net.apart (Port x.0 0) ((after.1.wires (Port x.0 0) (Port x.0 0)).1 (subst (λ (z : AgentNo). AreJoined (signature_of t) (net_of n) pair name (Port x.0 0) (Port z.0 0)) (sym same) j))

-- ---- end by end

module _ (t : Tables) (s : SiteParts) where
  abbrev Made : ℕ → AgentNo × AgentNo → Type 0
  Made = IsMade t s.net s.rule s.one s.two (unused s.net.cells)

  pub none_below : AreMadeBelow t s 0 []
  none_below = record { each = λ k q e. cc; all = λ e q lt h. absurd (omega (arith, lt)); rising = λ j k d e p q lt f g h i. cc }

  pub none_more : (e : ℕ) (qs : List (AgentNo × AgentNo)) → AreMadeBelow t s e qs → ((q : AgentNo × AgentNo) → Made e q → ⊥) → AreMadeBelow t s (e + 1) qs
  none_more e qs h none = record {
    each = λ k q f. (let r = h.each k q f in (r.0, (let l = r.1 in omega (arith, l)), r.2));
    all = λ d q lt m. all d q m (below_or d e lt);
    rising = h.rising;
  }
    where
      all : (d : ℕ) (q : AgentNo × AgentNo) → Made d q → (d < e) ⊎ (d ≡ e) → (k : ℕ) × (slice_get qs k ≡ Some q)
      all d q m (inl lt) = h.all d q lt m
      all d q m (inr same) = absurd (none q (subst (λ (z : ℕ). Made z q) same m))

  pub one_more : (e : ℕ) (qs : List (AgentNo × AgentNo)) (p : AgentNo × AgentNo) → AreMadeBelow t s e qs → Made e p → ((q : AgentNo × AgentNo) → Made e q → q ≡ p) → AreMadeBelow t s (e + 1) (qs ++ p ∷ [])
  one_more e qs p h made once = record {
    each = λ k q f. each k q (more_at qs p q k f);
    all = λ d q lt m. all d q m (below_or d e lt);
    rising = λ j k d c x y lt f g m i. rising j k d c x y lt m i (more_at qs p x j f) (more_at qs p y k g);
  }
    where
      each : (k : ℕ) (q : AgentNo × AgentNo) → (slice_get qs k ≡ Some q) ⊎ ((k ≡ length qs) × (p ≡ q)) → (d : ℕ) × (d < e + 1) × Made d q
      each k q (inl f) = let r = h.each k q f in (r.0, (let l = r.1 in omega (arith, l)), r.2)
      each k q (inr f) = (e, omega arith, subst (Made e) f.1 made)

      all : (d : ℕ) (q : AgentNo × AgentNo) → Made d q → (d < e) ⊎ (d ≡ e) → (k : ℕ) × (slice_get (qs ++ p ∷ []) k ≡ Some q)
      all d q m (inl lt) = let r = h.all d q lt m in (r.0, kept_at qs (p ∷ []) r.0 q r.1)
      all d q m (inr same) = (length qs, last_at qs p ∙ ap (λ (z : AgentNo × AgentNo). Some z) (sym (once q (subst (λ (z : ℕ). Made z q) same m))))

      rising : (j k d c : ℕ) (x y : AgentNo × AgentNo) → j < k → Made d x → Made c y → (slice_get qs j ≡ Some x) ⊎ ((j ≡ length qs) × (p ≡ x)) → (slice_get qs k ≡ Some y) ⊎ ((k ≡ length qs) × (p ≡ y)) → d < c
      rising j k d c x y lt m i (inl f) (inl g) = h.rising j k d c x y lt f g m i
      rising j k d c x y lt m i (inl f) (inr g) =
          let r = h.each j x f in
          let less = r.1 in
          let one = end_once t s.net s.rule s.one s.two (unused s.net.cells) d r.0 x m r.2 in
          let two = end_once t s.net s.rule s.one s.two (unused s.net.cells) c e y i (subst (Made e) g.1 made) in
          omega (arith, less, one, two)
      rising j k d c x y lt m i (inr f) (inl g) = let l = slice_get_within qs k y g in let n = f.0 in absurd (omega (arith, l, n, lt))
      rising j k d c x y lt m i (inr f) (inr g) = let l = g.0 in let n = f.0 in absurd (omega (arith, l, n, lt))

  pub all_ends : (e : ℕ) (qs : List (AgentNo × AgentNo)) → IsWhole s.net → IsWhole s.rule.member → Over s t → AreMadeBelow t s e qs → length s.rule.member.free ≤ e →
      AreMadeOverEnds t s.net s.rule s.one s.two (unused s.net.cells) qs
  all_ends e qs whole small can h le = record {
    each = λ k q f. (let r = h.each k q f in (r.0, r.2));
    all = λ d q m. h.all d q (let l = made_within here d q m in omega (arith, l, le)) m;
    rising = h.rising;
  }
    where
      here : Site
      here = record { t = t; n = s.net; r = s.rule; a = s.one; b = s.two; whole = whole; small = small; can = can }
