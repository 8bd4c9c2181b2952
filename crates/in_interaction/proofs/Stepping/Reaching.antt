-- The ends of the wires of a boundary end, and the path that continues there.
use Rattle.std.proofs.Common.{◌≡◌, ◌≢◌, ◌⊎◌, inl, inr, ◌+◌, ◌<◌, ◌≤◌, ℕ, zero, suc, Option, Some, None, List, [], ◌∷◌, length, slice_get, refl, sym, ap, subst, ◌∙◌, arith}
use native.Mathlib.Decide.{ℕ_discrete}
use Rattle.std.proofs.lemmas.List.{length-map}
use Rattle.std.proofs.lemmas.Option.{none-some}
use Rattle.in_base.specs.Lists.{IsAmong}
use Rattle.in_symbols.specs.Tables.{Tables}
use Rattle.in_syntax.specs.declared.symbol_no.SymbolNo.{SymbolNo}
use Rattle.in_net.specs.ActivePairs.{IsOrdered}
use Rattle.in_interaction.specs.Following.{SiteParts, IsSite, end_of, port_of}
use Rattle.in_interaction.specs.Interacting.{unused}
use Rattle.in_net.specs.Interactions.{Side, Outer, Inner, other, PairPath, IsOfPair}
use Rattle.in_interaction.specs.Made.{HasSymbolAfter, IsMade}
use Rattle.in_interaction.specs.Making.{IsSymbolAfter, IsPairAtEnd, SiteWire, Leaves, Over, LeadsTo, LandsAt, LandsNowhere, NoneLower, IsOnWay, end_point, redex_of, most_wires, principal_of}
use Rattle.in_net.specs.Nets.{Point, Port, Free, IsPoint, net_of, signature_of, point_of, coded_point}
use Rattle.in_net.specs.Parts.{IsPointOf, symbol_in, partner_in}
use Rattle.in_interaction.specs.declared.making.Reached.TheVariants.{End, Staying}
use Rattle.in_net.specs.declared.nets.AgentNo.{AgentNo}
use Rattle.in_net.specs.declared.nets.FreeEnd.{FreeEnd}
use Rattle.in_net.specs.declared.nets.Point as coded
use Rattle.in_net.specs.declared.nets.Point.TheVariants as code
use Rattle.in_net.proofs.Public.{not_pair, end_of_pair, round_code, map_is, has_partner}
use Rattle.in_interaction.proofs.Interactions.Alternating.{one_wire}
use Rattle.in_interaction.proofs.Interactions.PathEnds.{outer_next, outer_at, not_principal}
use Rattle.in_interaction.proofs.Interactions.Through as through
use Rattle.in_interaction.proofs.Stepping.Landing as landing
use Rattle.in_interaction.proofs.Stepping.Making as making
use Rattle.in_interaction.proofs.Stepping.OnePair.{pair_once}
use Rattle.in_interaction.proofs.Stepping.Partners.{net_wire, named}
use Rattle.in_interaction.proofs.Stepping.Sites.{Site, at_site, net, inside, redex, naming, known, first_is}
use Rattle.in_base.proofs.Places.{some_same}
use Rattle.in_interaction.proofs.Stepping.Unused.{unused_apart}

port_agent_of : (x y : AgentNo) (i j : ℕ) → ◌≡◌ {A = coded.Point} (code.Port x i) (code.Port y j) → x ≡ y
port_agent_of x y i j e = cc

module _ (s : SiteParts) (site : IsSite s) where
  abbrev Stays : Point ℕ → Type 0
  Stays u = IsOfPair (redex_of s) u → ⊥

  abbrev HasSymbol : AgentNo → SymbolNo → Type 0
  HasSymbol = HasSymbolAfter s.net s.rule s.one s.two (unused s.net.cells)

  -- the outer wire of a boundary end, as the code looks for it
  abbrev HasOuter : ℕ → coded.Point → Type 0
  HasOuter e p = partner_in s.net (port_of s.one s.two s.first e) ≡ Some p

  module _ (t : Tables) (can : Over s t) where
    abbrev here : Site
    here = at_site s site t can

    port_there : (e : ℕ) → port_of s.one s.two s.first e ≡ coded_point (end_point t s e)
    port_there e = ap (λ (z : ℕ). port_of s.one s.two z e) (sym (first_is s site t can)) ∙ landing.port_is here e

    end_there : (e : ℕ) → end_of s.one s.two s.first (coded_point (end_point t s e)) ≡ Some e
    end_there e = ap (λ (z : ℕ). end_of s.one s.two z (coded_point (end_point t s e))) (sym (first_is s site t can)) ∙ landing.end_at here e

    no_end : (v : Point ℕ) → Stays v → end_of s.one s.two s.first (coded_point v) ≡ None
    no_end v h = ap (λ (z : ℕ). end_of s.one s.two z (coded_point v)) (sym (first_is s site t can)) ∙ landing.end_none here v h

    pub end_wire : (e : ℕ) (p : coded.Point) → HasOuter e p → SiteWire t s Outer (end_point t s e) (point_of p)
    end_wire e p w = net_wire s.net (coded_point (end_point t s e)) p (ap (partner_in s.net) (sym (port_there e)) ∙ w)

    -- the outer wire of a boundary end leads to a point that stays, or to another boundary end
    next_outer : (e : ℕ) (p : coded.Point) → HasOuter e p → Stays (point_of p) ⊎ ((d : ℕ) × (d < length s.rule.member.free) × (point_of p ≡ end_point t s d))
    next_outer e p w =
        let port = known here not_principal ℕ_discrete e in
        elim (known here outer_next ℕ_discrete (end_point t s e) (point_of p) (end_wire e p w) (port s.one.0) (port s.two.0)) [
          | inl h ↦ inl h
          | inr d ↦ inr (d.0, making.end_within here d.0 d.1, d.2)
        ]

    pub outer_end : (e f : ℕ) (p : coded.Point) → HasOuter e p → end_of s.one s.two s.first p ≡ Some f → (f < length s.rule.member.free) × SiteWire t s Outer (end_point t s e) (end_point t s f)
    outer_end e f p w is = go (next_outer e p w)
      where
        found : end_of s.one s.two s.first (coded_point (point_of p)) ≡ Some f
        found = ap (end_of s.one s.two s.first) (round_code p) ∙ is

        go : Stays (point_of p) ⊎ ((d : ℕ) × (d < length s.rule.member.free) × (point_of p ≡ end_point t s d)) →
            (f < length s.rule.member.free) × SiteWire t s Outer (end_point t s e) (end_point t s f)
        go (inl h) = absurd (none-some f (sym (no_end (point_of p) h) ∙ found))
        go (inr d) =
            let same : d.0 ≡ f = some_same (end_of s.one s.two s.first (coded_point (point_of p))) d.0 f (ap (λ (z : Point ℕ). end_of s.one s.two s.first (coded_point z)) d.2 ∙ end_there d.0) found in
            let l = d.1 in
            (omega (arith, l, same), subst (SiteWire t s Outer (end_point t s e)) (d.2 ∙ ap (end_point t s) same) (end_wire e p w))

    pub outer_stays : (e : ℕ) (p : coded.Point) → HasOuter e p → end_of s.one s.two s.first p ≡ None → Stays (point_of p)
    outer_stays e p w is = elim (next_outer e p w) [
      | inl h ↦ h
      | inr d ↦ absurd (none-some d.0 (sym is ∙ ap (end_of s.one s.two s.first) (sym (round_code p)) ∙ ap (λ (z : Point ℕ). end_of s.one s.two s.first (coded_point z)) d.2 ∙ end_there d.0))
    ]

    pub inner_end : (e f : ℕ) → partner_in s.rule.member (code.Free e) ≡ Some (code.Free f) → SiteWire t s Inner (end_point t s e) (end_point t s f)
    inner_end e f w = (Free e, Free f, refl, refl, net_wire s.rule.member (code.Free e) (code.Free f) w)

    agent_there : (e i : ℕ) (k : AgentNo) → partner_in s.rule.member (code.Free e) ≡ Some (code.Port k i) → IsPoint (signature_of t) (net_of s.rule.member) (Port k.0 i)
    agent_there e i k w =
        let n = inside here in
        n.points (Port k.0 i) (Free e) (n.back (Free e) (Port k.0 i) (net_wire s.rule.member (code.Free e) (code.Port k i) w))

    pub inner_named : (e i : ℕ) (k : AgentNo) → partner_in s.rule.member (code.Free e) ≡ Some (code.Port k i) → slice_get s.names k.0 ≡ Some (record { 0 = unused s.net.cells k.0 })
    inner_named e i k w = named s site t k.0 i (agent_there e i k w)

    pub inner_stays : (e i : ℕ) (k y : AgentNo) → partner_in s.rule.member (code.Free e) ≡ Some (code.Port k i) → record { 0 = unused s.net.cells k.0 } ≡ y →
        SiteWire t s Inner (end_point t s e) (Port y.0 i) × Stays (Port y.0 i)
    inner_stays e i k y w same = subst (λ (z : AgentNo). SiteWire t s Inner (end_point t s e) (Port z.0 i) × Stays (Port z.0 i)) same (
      (Free e, Port k.0 i, refl, refl, net_wire s.rule.member (code.Free e) (code.Port k i) w),
      known here not_pair k.0 i (agent_there e i k w),
    )

    pub is_pair_end : (e : ℕ) → IsOfPair (redex_of s) (end_point t s e)
    is_pair_end e = known here end_of_pair e

    one_wire_at : (side : Side) (u v w : Point ℕ) → SiteWire t s side u v → SiteWire t s side u w → v ≡ w
    one_wire_at = known here one_wire

    -- a path from a boundary end whose wire leads to another continues from there
    pub goes_on : (side : Side) (e f : ℕ) (es : List (Point ℕ)) (v : Point ℕ) → SiteWire t s side (end_point t s e) (end_point t s f) → Leaves t s side e es v →
        (fs : List (Point ℕ)) × (es ≡ end_point t s f ∷ fs) × Leaves t s (other side) f fs v
    goes_on side e f [] v w h = absurd (h.1 (subst (IsOfPair (redex_of s)) (one_wire_at side (end_point t s e) (end_point t s f) v w h.0) (is_pair_end f)))
    goes_on side e f (g ∷ fs) v w h =
        let same : g ≡ end_point t s f = one_wire_at side (end_point t s e) g (end_point t s f) h.0.0 w in
        (fs, ap (λ (z : Point ℕ). z ∷ fs) same, subst (λ (z : Point ℕ). Leaves t s (other side) f fs v) same (subst (λ (z : Point ℕ). PairPath (signature_of t) (net_of s.net) (redex_of s) (unused s.net.cells) (other side) z fs v) same h.0.2, h.1))

    end_same : (d e : ℕ) → end_point t s d ≡ end_point t s e → d ≡ e
    end_same = known here through.pt_same

    pub low_more : (e f : ℕ) (fs : List (Point ℕ)) → e ≤ f → NoneLower t s e fs → NoneLower t s e (end_point t s f ∷ fs)
    low_more e f fs le low d (inl same) = let k = end_same f d same in omega (arith, k, le)
    low_more e f fs le low d (inr i) = low d i

  -- a boundary end is a port that is there
  pub port_is_point : (e : ℕ) → e < length s.rule.member.free → IsPointOf s.net (port_of s.one s.two s.first e)
  port_is_point e lt =
      let t = site.over.0 in
      let can = site.over.1 in
      let many = length-map s.rule.member.free (λ (f : FreeEnd). f.kind) in
      let all = (redex (here t can)).ends in
      let r = known (here t can) outer_at ℕ_discrete e (omega (arith, lt, many, all)) in
      subst (IsPointOf s.net) (sym (port_there t can e)) (has_partner s.net (coded_point (end_point t s e)) (coded_point r.0) (map_is (partner_in s.net (coded_point (end_point t s e))) r.0 r.1))

  -- ---- wire by wire

  pub starts : (side : Side) (e : ℕ) → e < length s.rule.member.free → IsOnWay s side e side e 0
  starts side e lt = record {
    within = lt;
    ahead = λ t can es v h. (es, h, omega arith, (λ p i. i));
    behind = λ t can fs v h low. (fs, h, low);
  }

  pub next_turn : (side by : Side) (e at count f : ℕ) → IsOnWay s side e by at count → LeadsTo s by at (End f) → e ≤ f → IsOnWay s side e (other by) f (count + 1)
  next_turn side by e at count f on to le = record {
    within = to.0;
    ahead = λ t can es v h. ahead t can es v (on.ahead t can es v h);
    behind = λ t can fs v h low. on.behind t can (end_point t s f ∷ fs) v ((to.1 t can, is_pair_end t can f, h.0), h.1) (low_more t can e f fs le low);
  }
    where
      ahead : (t : Tables) → Over s t → (es : List (Point ℕ)) (v : Point ℕ) →
          (gs : List (Point ℕ)) × Leaves t s by at gs v × (length gs + count ≤ length es) × ((p : Point ℕ) → IsAmong p gs → IsAmong p es) →
          (fs : List (Point ℕ)) × Leaves t s (other by) f fs v × (length fs + (count + 1) ≤ length es) × ((p : Point ℕ) → IsAmong p fs → IsAmong p es)
      ahead t can es v g =
          let r = goes_on t can by at f g.0 v (to.1 t can) g.1 in
          let many : length g.0 ≡ length (end_point t s f ∷ r.0) = ap length r.1 in
          let most = g.2 in
          (r.0, r.2, omega (arith, many, most), (λ p i. g.3 p (subst (IsAmong p) (sym r.1) (inr i))))

  -- it has reached a point that stays
  pub has_landed : (side by : Side) (e at count : ℕ) (p : coded.Point) → IsOnWay s side e by at count → LeadsTo s by at (Staying p) → LandsAt s side e p
  has_landed side by e at count p on to = λ t can. on.behind t can [] (point_of p) (to t can) (λ d i. absurd i)

  -- .. to a lower end
  pub too_low : (side by : Side) (e at count f : ℕ) → IsOnWay s side e by at count → LeadsTo s by at (End f) → f < e → LandsNowhere s side e
  too_low side by e at count f on to lt = λ t can es v h few. (
      let g = on.ahead t can es v h in
      let r = goes_on t can by at f g.0 v (to.1 t can) g.1 in
      (f, lt, g.3 (end_point t s f) (subst (IsAmong (end_point t s f)) (sym r.1) (inl refl)))
      )

  -- .. or is too long
  pub too_long : (side by : Side) (e at count : ℕ) → IsOnWay s side e by at count → most_wires ≤ count → LandsNowhere s side e
  too_long side by e at count on le = λ t can es v h few. (let g = on.ahead t can es v h in let l = g.2 in absurd (omega (arith, l, le, few)))

  -- ---- symbols after

  pub new_symbol : (y : AgentNo) (k : ℕ) (o : Option SymbolNo) → symbol_in s.net y.0 ≡ None → unused s.net.cells k ≡ y.0 → o ≡ symbol_in s.rule.member k →
      IsSymbolAfter s y o
  new_symbol y k None old named is = λ z h. elim h [
    | inl g ↦ none-some z (sym old ∙ g.2)
    | inr g ↦ none-some z (is ∙ ap (symbol_in s.rule.member) (unused_apart s.net.cells k g.0 (named ∙ sym g.1)) ∙ g.2)
  ]
  new_symbol y k (Some z) old named is = inr (k, named, sym is)

  -- ---- the pair of a boundary end

  module _ (t : Tables) (can : Over s t) where
    abbrev Made : ℕ → AgentNo × AgentNo → Type 0
    Made = IsMade t s.net s.rule s.one s.two (unused s.net.cells)

    abbrev Half : Side → ℕ → AgentNo → Type 0
    Half = making.Half (here t can)

    half_of : (side : Side) (e : ℕ) (q : AgentNo × AgentNo) → Made e q → (z : AgentNo) × Half side e z
    half_of Outer e q h = let r = making.halves (here t can) e q h in (r.one, r.outer)
    half_of Inner e q h = let r = making.halves (here t can) e q h in (r.two, r.inner)

    pub nowhere : (side : Side) (e : ℕ) → LandsNowhere s side e → (q : AgentNo × AgentNo) → Made e q → ⊥
    nowhere side e lost q h =
        let r = half_of side e q h in
        let l = lost t can r.1.ends (Port r.0.0 0) (r.1.way, making.stays_after (here t can) r.0 r.1.symbol r.1.has) r.1.few in
        let lt = l.1 in
        let le = r.1.low l.0 l.2 in
        absurd (omega (arith, lt, le))

    landed : (side : Side) (e : ℕ) (p : coded.Point) → LandsAt s side e p → (z : AgentNo) → Half side e z → p ≡ code.Port z 0
    landed side e p at z h =
        let l = at t can in
        let one = (making.one_from (here t can) side e (point_of p) (Port z.0 0) l.0 h.ends l.1.1 (making.stays_after (here t can) z h.symbol h.has) l.1.0 h.way).1 in
        sym (round_code p) ∙ ap coded_point one

    pub not_principal_port : (side : Side) (e : ℕ) (p : coded.Point) → LandsAt s side e p → principal_of p ≡ None → (q : AgentNo × AgentNo) → Made e q → ⊥
    not_principal_port side e p at none q h =
        let r = half_of side e q h in
        none-some r.0 (sym none ∙ ap principal_of (landed side e p at r.0 r.1))

    pub no_symbol_there : (side : Side) (e : ℕ) (x : AgentNo) → LandsAt s side e (code.Port x 0) → ((z : SymbolNo) → HasSymbol x z → ⊥) → (q : AgentNo × AgentNo) → Made e q → ⊥
    no_symbol_there side e x at none q h =
        let r = half_of side e q h in
        let same = port_agent_of x r.0 0 0 (landed side e (code.Port x 0) at r.0 r.1) in
        none r.1.symbol (subst (λ (y : AgentNo). HasSymbol y r.1.symbol) (sym same) r.1.has)

    pub differ : (e : ℕ) (x y : AgentNo) → LandsAt s Outer e (code.Port x 0) → LandsAt s Inner e (code.Port y 0) → x ≢ y
    differ e x y outer inner =
        let o = outer t can in
        let i = inner t can in
        let j = known (here t can) through.join_at Outer (end_point t s e) o.0 (Port x.0 0) (is_pair_end t can e) o.1.0 i.0 (Port y.0 0) i.1.0 in
        making.agents_differ (here t can) x y (o.1.1, i.1.1, (j.side, j.ends, j.path))

    pub pair_there : (e : ℕ) (x y : AgentNo) (c d : SymbolNo) (q : AgentNo × AgentNo) → LandsAt s Outer e (code.Port x 0) → LandsAt s Inner e (code.Port y 0) → HasSymbol x c → HasSymbol y d →
        IsOrdered t (x, c) (y, d) q → Made e q × ((p : AgentNo × AgentNo) → Made e p → p ≡ q)
    pair_there e x y c d q outer inner one two order = (made order, (λ p h. pair_once t s.net s.rule s.one s.two (unused s.net.cells) (net (here t can)) (inside (here t can)) (redex (here t can)) (naming (here t can)) e p q h (made order)))
      where
        made : IsOrdered t (x, c) (y, d) q → Made e q
        made (inl h) =
            let o = outer t can in
            let i = inner t can in
            subst (Made e) (sym h.0) (making.is_made (here t can) Outer e x y c d o.0 i.0 o.1.0 o.2 i.1.0 i.2 one two h.1)
        made (inr h) =
            let o = outer t can in
            let i = inner t can in
            subst (Made e) (sym h.0) (making.is_made (here t can) Inner e y x d c i.0 o.0 i.1.0 i.2 o.1.0 o.2 two one h.1)

pub principal_is : (p : coded.Point) (o : Option AgentNo) (x : AgentNo) → o ≡ principal_of p → o ≡ Some x → p ≡ code.Port x 0
principal_is (code.Port y zero) o x is e = let same : y ≡ x = cc in ap (λ (z : AgentNo). code.Port z 0) same
principal_is (code.Port y (suc i)) o x is e = cc
principal_is (code.Free k) o x is e = cc

-- ---- the result at a boundary end

pub no_pair : (t : Tables) (s : SiteParts) (e : ℕ) (o : Option (AgentNo × AgentNo)) → o ≡ None → IsPairAtEnd t s e None → IsPairAtEnd t s e o
no_pair t s e o is h = subst (IsPairAtEnd t s e) (sym is) h

pub lands_there : (s : SiteParts) (side : Side) (e : ℕ) (p : coded.Point) (o : Option AgentNo) (x : AgentNo) → LandsAt s side e p → o ≡ principal_of p → o ≡ Some x → LandsAt s side e (code.Port x 0)
lands_there s side e p o x at is found = subst (LandsAt s side e) (principal_is p o x is found) at
