-- The net after an interaction: it is the one of the definitions, over the same tables, and whole.
use Rattle.std.proofs.Common.{◌≡◌, ◌≢◌, ◌⊎◌, inl, inr, ◌+◌, ◌<◌, ◌≤◌, ℕ, zero, suc, false, cond, Option, Some, None, List, [], ◌∷◌, map, length, count_by, is_some, slice_get, refl, sym, ap, subst, ◌∙◌, arith}
use Rattle.std.specs.Prelude.{option_map, option_and_then}
use Rattle.std.specs.List.{AllByRecursion}
use native.Mathlib.Decide.{ℕ_discrete}
use Rattle.std.proofs.lemmas.Option.{slice_get_within}
use Rattle.in_syntax.specs.Grammar.{max_ports}
use Rattle.in_symbols.specs.Tables.{Tables, arity_of}
use Rattle.in_syntax.specs.declared.symbol_no.SymbolNo.{SymbolNo}
use Rattle.in_interaction.specs.After.{AreCellsAfter, IsAgentAfter, StaysAt, IsNewAt, AreFreeAfter, cell_at}
use Rattle.in_net.specs.Built.{IsOver, IsCellOver}
use Rattle.in_interaction.specs.Following.{SiteParts, IsSite}
use Rattle.in_interaction.specs.Interacting.{unused, numbers_after, CanInteract, Interacts}
use Rattle.in_net.specs.Interactions.{IsStep, AreJoined, IsOfPair, InnerWire, Side, Outer, Inner, wire_of, stands_for}
use Rattle.in_interaction.specs.Listing.{unlisted, AreListed, HaveFewEnds}
use Rattle.in_interaction.specs.Making.{redex_of}
use Rattle.in_net.specs.Nets.{Point, Port, Free, IsNet, net_of, signature_of, point_of, coded_point}
use Rattle.in_net.specs.Parts.{Parts, IsWhole, IsWireBetween, cell_in, partner_in, wire_in}
use Rattle.in_net.specs.TextNet.{ComesBefore}
use Rattle.in_net.specs.declared.nets.Cell.{Cell}
use Rattle.in_net.specs.declared.nets.FreeEnd.{FreeEnd}
use Rattle.in_net.specs.declared.nets.Point as coded
use Rattle.in_net.specs.declared.nets.Point.TheVariants as code
use Rattle.in_net.specs.declared.nets.Wire.{Wire}
use Rattle.in_net.proofs.Public.{round_point, round_code, map_is, cell_over, not_both, first_wire, end_of_pair, symbol_known, cell_within}
use Rattle.in_interaction.proofs.Interactions.Alternating.{joined_once}
use Rattle.in_interaction.proofs.Interactions.StaysNet as stays_net
use Rattle.in_interaction.proofs.Stepping.Cells.{numbers_fit}
use Rattle.in_interaction.proofs.Stepping.Halves.{half}
use Rattle.in_interaction.proofs.Stepping.Partners.{net_wire}
use Rattle.in_interaction.proofs.Stepping.Sites.{Site, at_site, net, inside, redex, naming, known}
use Rattle.in_interaction.proofs.Stepping.Unused.{counted}
use Rattle.in_base.proofs.Each.{at_index}

-- an agent that is there has a cell with its symbol
pub cell_of_symbol : (n : Parts) (y i : ℕ) → (net_of n).symbol y ≡ Some i → (c : Cell) × (cell_in n y ≡ Some c) × (c.symbol.0 ≡ i)
cell_of_symbol n y i e = go (cell_in n y) refl e
  where
    go : (o : Option Cell) → cell_in n y ≡ o → option_map (λ (s : SymbolNo). s.0) (option_map (λ (c : Cell). c.symbol) o) ≡ Some i → (c : Cell) × (cell_in n y ≡ Some c) × (c.symbol.0 ≡ i)
    go None is e = cc
    go (Some c) is e = (c, is, cc)

-- ---- lists

map_same : {X Y : Type 0} (f : X → Y) (xs ys : List X) → length xs ≡ length ys → ((k : ℕ) (x y : X) → slice_get ys k ≡ Some y → slice_get xs k ≡ Some x → f x ≡ f y) → map f xs ≡ map f ys
map_same f [] [] e h = refl
map_same f [] (y ∷ ys) e h = absurd (omega (arith, e))
map_same f (x ∷ xs) [] e h = absurd (omega (arith, e))
map_same {X} {Y} f (x ∷ xs) (y ∷ ys) e h = ap (λ (z : Y). z ∷ map f xs) (h 0 x y refl refl) ∙ ap (λ (zs : List Y). f y ∷ zs) (map_same f xs ys (omega (arith, e)) (λ k a b s r. h (suc k) a b s r))

all_over : (t : Tables) (cs : List (Option Cell)) → ((x : ℕ) (c : Cell) → cell_at cs x ≡ Some c → IsCellOver t (Some c)) → AllByRecursion (IsCellOver t) cs
all_over t [] h = tt
all_over t (None ∷ cs) h = (tt, all_over t cs (λ x c e. h (suc x) c e))
all_over t (Some c ∷ cs) h = (h 0 c refl, all_over t cs (λ x c e. h (suc x) c e))

at_most : (d : Option Cell) → cond (is_some d) 1 0 ≤ 1
at_most None = omega arith
at_most (Some d) = omega arith

-- agents that have a number of the old ones or one of the first `count` unused ones are few
few_agents : (cs ds : List (Option Cell)) (count : ℕ) → ((x : ℕ) (d : Cell) → cell_at ds x ≡ Some d → ((c : Cell) × (cell_at cs x ≡ Some c)) ⊎ ((k : ℕ) × (k < count) × (unused cs k ≡ x))) → count_by is_some ds ≤ count_by is_some cs + count
few_agents cs [] count h = omega arith
few_agents [] (None ∷ ds) count h =
    let r = few_agents [] ds count (λ x d e. elim (h (suc x) d e) [ inl c ↦ absurd (let z : ◌≡◌ {A = Option Cell} None (Some c.0) = c.1 in cc) | inr k ↦ (let a = k.1 in let b = k.2 in inr (x, omega (arith, a, b), refl)) ]) in
    let n = counted None ds in
    omega (arith, r, n)
few_agents [] (Some d ∷ ds) zero h = elim (h 0 d refl) [ inl c ↦ absurd (let z : ◌≡◌ {A = Option Cell} None (Some c.0) = c.1 in cc) | inr k ↦ (let a = k.1 in absurd (omega (arith, a))) ]
few_agents [] (Some d ∷ ds) (suc count) h =
    let r = few_agents [] ds count (λ x d e. elim (h (suc x) d e) [ inl c ↦ absurd (let z : ◌≡◌ {A = Option Cell} None (Some c.0) = c.1 in cc) | inr k ↦ (let a = k.1 in let b = k.2 in inr (x, omega (arith, a, b), refl)) ]) in
    let n = counted (Some d) ds in
    omega (arith, r, n)
few_agents (Some c ∷ cs) (d ∷ ds) count h =
    let r = few_agents cs ds count (λ x d e. elim (h (suc x) d e) [ inl c ↦ inl c | inr k ↦ (let b = k.2 in inr (k.0, k.1, omega (arith, b))) ]) in
    let n = counted d ds in
    let m = counted (Some c) cs in
    let o = at_most d in
    omega (arith, r, n, m, o)
few_agents (None ∷ cs) (None ∷ ds) zero h =
    let r = few_agents cs ds zero (λ x d e. elim (h (suc x) d e) [ inl c ↦ inl c | inr k ↦ (let a = k.1 in absurd (omega (arith, a))) ]) in
    let n = counted None ds in
    let m = counted None cs in
    omega (arith, r, n, m)
few_agents (None ∷ cs) (Some d ∷ ds) zero h = elim (h 0 d refl) [ inl c ↦ absurd (let z : ◌≡◌ {A = Option Cell} None (Some c.0) = c.1 in cc) | inr k ↦ (let a = k.1 in absurd (omega (arith, a))) ]
few_agents (None ∷ cs) (d ∷ ds) (suc count) h =
    let r = few_agents cs ds count (λ x d e. elim (h (suc x) d e) [ inl c ↦ inl c | inr k ↦ earlier x k.0 k.1 k.2 ]) in
    let n = counted d ds in
    let m = counted None cs in
    let o = at_most d in
    omega (arith, r, n, m, o)
  where
    earlier : (x k : ℕ) → k < suc count → unused (None ∷ cs) k ≡ suc x → ((c : Cell) × (cell_at cs x ≡ Some c)) ⊎ ((k : ℕ) × (k < count) × (unused cs k ≡ x))
    earlier x zero lt e = absurd (let z : zero ≡ suc x = e in omega (arith, z))
    earlier x (suc k) lt e = inr (k, omega (arith, lt), (let z : suc (unused cs k) ≡ suc x = e in omega (arith, z)))

less_or : (k l : ℕ) → ((k < l) ⊎ (l < k)) ⊎ (k ≡ l)
less_or k l = grind arith

before_or : (p q : coded.Point) → p ≢ q → ComesBefore p q ⊎ ComesBefore q p
before_or (code.Free k) (code.Free l) h = elim (less_or k l) [ inl a ↦ a | inr e ↦ absurd (h (ap code.Free e)) ]
before_or (code.Free k) (code.Port y j) h = inl tt
before_or (code.Port x i) (code.Free l) h = inr tt
before_or (code.Port x i) (code.Port y j) h = by_agent (less_or x.0 y.0)
  where
    by_place : x.0 ≡ y.0 → ((i < j) ⊎ (j < i)) ⊎ (i ≡ j) → ComesBefore (code.Port x i) (code.Port y j) ⊎ ComesBefore (code.Port y j) (code.Port x i)
    by_place e (inl (inl l)) = inl (inr (e, l))
    by_place e (inl (inr l)) = inr (inr (sym e, l))
    by_place e (inr f) = absurd (h (ap (λ (z : ℕ). code.Port (record { 0 = z }) i) e ∙ ap (λ (z : ℕ). code.Port y z) f))

    by_agent : ((x.0 < y.0) ⊎ (y.0 < x.0)) ⊎ (x.0 ≡ y.0) → ComesBefore (code.Port x i) (code.Port y j) ⊎ ComesBefore (code.Port y j) (code.Port x i)
    by_agent (inl (inl l)) = inl (inl l)
    by_agent (inl (inr l)) = inr (inl l)
    by_agent (inr e) = by_place e (less_or i j)

module _ (s : SiteParts) (site : IsSite s) (cells : List (Option Cell)) (free : List FreeEnd) (wires : List Wire) (numbers : length cells ≡ numbers_after s.net.cells (length s.rule.member.cells)) (after : AreCellsAfter s cells) (frees : AreFreeAfter s free) where
  abbrev pub m : Parts
  m = record { cells = cells; free = free; wires = wires; places = []; built = false }

  pub few_ends : HaveFewEnds cells
  few_ends x c e = go (after x).only
    where
      go : ((d : Cell) → cell_at cells x ≡ Some d → (c : Cell) × (StaysAt s x c ⊎ IsNewAt s x c) × IsAgentAfter s x c d) → length c.ends ≤ max_ports + 1
      go only =
          let r = only c e in
          let many = r.2.many in
          let most : length r.0.ends ≤ max_ports + 1 = elim r.1 [ inl h ↦ site.whole.ports x r.0 h.there | inr h ↦ site.member.ports h.agent r.0 h.there ] in
          omega (arith, many, most)

  module _ (t : Tables) (can : CanInteract t s.net s.rule s.one s.two) where
    abbrev here : Site
    here = at_site s site t can

    abbrev Joined : Point ℕ → Point ℕ → Type 0
    Joined = AreJoined (signature_of t) (net_of s.net) (redex_of s) (unused s.net.cells)

    -- it stays, or is new
    abbrev IsAgent : ℕ → ℕ → Type 0
    IsAgent y i = ((y ≢ s.one.0) × (y ≢ s.two.0) × ((net_of s.net).symbol y ≡ Some i)) ⊎ ((k : ℕ) × (unused s.net.cells k ≡ y) × ((net_of s.rule.member).symbol k ≡ Some i))

    agents_from : (y i : ℕ) → ((net_of m).symbol y ≡ Some i) → IsAgent y i
    agents_from y i e = go (cell_at cells y) refl e
      where
        go : (o : Option Cell) → cell_at cells y ≡ o → option_map (λ (s : SymbolNo). s.0) (option_map (λ (c : Cell). c.symbol) o) ≡ Some i → IsAgent y i
        go None is e = cc
        go (Some d) is e =
            let r = (after y).only d is in
            let number : (o : Option Cell) → o ≡ Some r.0 → option_map (λ (s : SymbolNo). s.0) (option_map (λ (c : Cell). c.symbol) o) ≡ Some i =
            λ o f. ap (λ (o : Option Cell). option_map (λ (s : SymbolNo). s.0) (option_map (λ (c : Cell). c.symbol) o)) f ∙ ap (λ (s : SymbolNo). Some s.0) (sym r.2.symbol) ∙ e in
            elim r.1 [ inl h ↦ inl (h.one, h.two, number (cell_in s.net y) h.there) | inr h ↦ inr (h.agent, h.name, number (cell_in s.rule.member h.agent) h.there) ]

    new_at : (k : ℕ) (c : Cell) → cell_in s.rule.member k ≡ Some c → IsNewAt s (unused s.net.cells k) c
    new_at k c e = record { agent = k; within = (let l = cell_within s.rule.member.cells k c e in let n = site.many in omega (arith, l, n)); name = refl; there = e }

    shown : (y i : ℕ) (c : Cell) → c.symbol.0 ≡ i → (d : Cell) × (cell_at cells y ≡ Some d) × IsAgentAfter s y c d → (net_of m).symbol y ≡ Some i
    shown y i c e r = ap (λ (o : Option Cell). option_map (λ (s : SymbolNo). s.0) (option_map (λ (c : Cell). c.symbol) o)) r.1 ∙ ap (λ (s : SymbolNo). Some s.0) r.2.symbol ∙ ap (λ (z : ℕ). Some z) e

    agents_to : (y i : ℕ) → IsAgent y i → (net_of m).symbol y ≡ Some i
    agents_to y i (inl h) = let c = cell_of_symbol s.net y i h.2 in shown y i c.0 c.2 ((after y).stays c.0 (record { there = c.1; one = h.0; two = h.1 }))
    agents_to y i (inr h) =
        let c = cell_of_symbol s.rule.member h.0 i h.2 in
        subst (λ (z : ℕ). (net_of m).symbol z ≡ Some i) h.1 (shown (unused s.net.cells h.0) i c.0 c.2 ((after (unused s.net.cells h.0)).fresh c.0 (new_at h.0 c.0 c.1)))

    wires_from : (u v : Point ℕ) → (net_of m).partner u ≡ Some v → Joined u v
    wires_from (Port y i) v e = go (cell_at cells y) refl (map_is (partner_in m (code.Port (record { 0 = y }) i)) v e)
      where
        go : (o : Option Cell) → cell_at cells y ≡ o → option_and_then (λ (c : Cell). slice_get c.ends i) o ≡ Some (coded_point v) → Joined (Port y i) v
        go None is e = cc
        go (Some d) is e = let r = (after y).only d is in subst (Joined (Port y i)) (round_point v) (r.2.ends i (coded_point v) e t can)
    wires_from (Free k) v e = go (slice_get free k) refl (map_is (partner_in m (code.Free k)) v e)
      where
        go : (o : Option FreeEnd) → slice_get free k ≡ o → option_map (λ (f : FreeEnd). f.end) o ≡ Some (coded_point v) → Joined (Free k) v
        go None is e = cc
        go (Some g) is e =
            let many = frees.many in
            let f = at_index s.net.free k (let l = slice_get_within free k g is in omega (arith, l, many)) in
            let end : g.end ≡ coded_point v = cc in
            subst (Joined (Free k)) (ap point_of end ∙ round_point v) ((frees.each k f.0 g f.1 is).end t can)

    -- a point that is joined to another one has a partner
    ends_there : (y i : ℕ) (c : Cell) → i < length c.ends → (d : Cell) × (cell_at cells y ≡ Some d) × IsAgentAfter s y c d → (w : Point ℕ) × ((net_of m).partner (Port y i) ≡ Some w)
    ends_there y i c lt r =
        let many = r.2.many in
        let q = at_index r.0.ends i (omega (arith, lt, many)) in
        (point_of q.0, ap (λ (o : Option Cell). option_map point_of (option_and_then (λ (c : Cell). slice_get c.ends i) o)) r.1 ∙ ap (option_map point_of) q.1)

    port_cell : (n : Parts) (y i : ℕ) (w : Point ℕ) → (net_of n).partner (Port y i) ≡ Some w → (c : Cell) × (cell_in n y ≡ Some c) × (i < length c.ends)
    port_cell n y i w e = go (cell_in n y) refl (map_is (partner_in n (code.Port (record { 0 = y }) i)) w e)
      where
        go : (o : Option Cell) → cell_in n y ≡ o → option_and_then (λ (c : Cell). slice_get c.ends i) o ≡ Some (coded_point w) → (c : Cell) × (cell_in n y ≡ Some c) × (i < length c.ends)
        go None is e = cc
        go (Some c) is e = (c, is, slice_get_within c.ends i (coded_point w) e)

    outer_there : (u w : Point ℕ) → (IsOfPair (redex_of s) u → ⊥) → (net_of s.net).partner u ≡ Some w → (v : Point ℕ) × ((net_of m).partner u ≡ Some v)
    outer_there (Port y i) w stays e =
        let c = port_cell s.net y i w e in
        ends_there y i c.0 c.2 ((after y).stays c.0 (record { there = c.1; one = λ z. stays (inl z); two = λ z. stays (inr z) }))
    outer_there (Free k) w stays e = go (slice_get s.net.free k) refl (map_is (partner_in s.net (code.Free k)) w e)
      where
        go : (o : Option FreeEnd) → slice_get s.net.free k ≡ o → option_map (λ (f : FreeEnd). f.end) o ≡ Some (coded_point w) → (v : Point ℕ) × ((net_of m).partner (Free k) ≡ Some v)
        go None is e = cc
        go (Some f) is e =
            let many = frees.many in
            let g = at_index free k (let l = slice_get_within s.net.free k f is in omega (arith, l, many)) in
            (point_of g.0.end, ap (λ (o : Option FreeEnd). option_map point_of (option_map (λ (f : FreeEnd). f.end) o)) g.1)

    inner_there : (u w : Point ℕ) → (IsOfPair (redex_of s) u → ⊥) → InnerWire (signature_of t) (redex_of s) (unused s.net.cells) u w → (v : Point ℕ) × ((net_of m).partner u ≡ Some v)
    inner_there u w stays h = go h.0 h.2 h.4
      where
        go : (p : Point ℕ) → stands_for (signature_of t) (redex_of s) (unused s.net.cells) p ≡ u → (net_of s.rule.member).partner p ≡ Some h.1 → (v : Point ℕ) × ((net_of m).partner u ≡ Some v)
        go (Port k i) is e =
            let c = port_cell s.rule.member k i h.1 e in
            subst (λ (z : Point ℕ). (v : Point ℕ) × ((net_of m).partner z ≡ Some v)) is (ends_there (unused s.net.cells k) i c.0 c.2 ((after (unused s.net.cells k)).fresh c.0 (new_at k c.0 c.1)))
        go (Free e) is f =
            absurd (stays (subst (IsOfPair (redex_of s)) is (known here end_of_pair e)))

    wires_to : (u v : Point ℕ) → Joined u v → (net_of m).partner u ≡ Some v
    wires_to u v j =
        let first = known here first_wire j.2.0 u j.2.1 v j.2.2 in
        let w : (w : Point ℕ) × ((net_of m).partner u ≡ Some w) = by_side j.2.0 first.0 first.1 in
        w.1 ∙ ap (λ (z : Point ℕ). Some z) (known here joined_once u w.0 v (wires_from u w.0 w.1) j)
      where
        by_side : (side : Side) (w : Point ℕ) → wire_of (signature_of t) (net_of s.net) (redex_of s) (unused s.net.cells) side u w → (w : Point ℕ) × ((net_of m).partner u ≡ Some w)
        by_side Outer w h = outer_there u w j.0 h
        by_side Inner w h = inner_there u w j.0 h

    pub step : IsStep (signature_of t) (net_of s.net) (redex_of s) (unused s.net.cells) (net_of m)
    step = record {
      naming = naming here;
      agents = λ y i. (agents_from y i, agents_to y i);
      wires = λ u v. (wires_from u v, wires_to u v);
      free = map_same (λ (f : FreeEnd). f.kind) free s.net.free frees.many (λ k g f a b. (frees.each k f g a b).kind);
    }

    pub over : IsOver t m
    over = record { cells = all_over t cells one }
      where
        old : (n : Parts) (y : ℕ) (c : Cell) → IsOver t n → cell_in n y ≡ Some c → IsCellOver t (Some c)
        old n y c o e = (symbol_known t n y c.symbol o (ap (option_map (λ (c : Cell). c.symbol)) e), (cell_over t n.cells y c o.cells e).1)

        one : (y : ℕ) (d : Cell) → cell_at cells y ≡ Some d → IsCellOver t (Some d)
        one y d e =
            let r = (after y).only d e in
            let before : IsCellOver t (Some r.0) = elim r.1 [ inl h ↦ old s.net y r.0 can.net h.there | inr h ↦ old s.rule.member h.agent r.0 can.rule.member h.there ] in
            let same = sym r.2.symbol in
            (subst (λ (z : SymbolNo). z.0 < length t.names) same before.0, r.2.many ∙ before.1 ∙ ap (λ (z : SymbolNo). arity_of t z.0 + 1) same)

    is_net : IsNet (signature_of t) (net_of m)
    is_net = stays_net.is_net (signature_of t) (net_of s.net) (redex_of s) (unused s.net.cells) (net_of m) (net here) (inside here) (redex here) step ℕ_discrete

  -- ---- it is whole

  few_after : count_by is_some cells ≤ count_by is_some s.net.cells + length s.rule.member.cells
  few_after = few_agents s.net.cells cells (length s.rule.member.cells) one
    where
      one : (x : ℕ) (d : Cell) → cell_at cells x ≡ Some d → ((c : Cell) × (cell_at s.net.cells x ≡ Some c)) ⊎ ((k : ℕ) × (k < length s.rule.member.cells) × (unused s.net.cells k ≡ x))
      one x d e =
          let r = (after x).only d e in
          elim r.1 [ inl h ↦ inl (r.0, h.there) | inr h ↦ (let l = h.within in let n = site.many in inr (h.agent, omega (arith, l, n), h.name)) ]

  module _ (listed : AreListed (unlisted cells free) (λ p. Unit {0}) wires) where
    back : (p q : coded.Point) → partner_in m p ≡ Some q → partner_in m q ≡ Some p
    back p q e =
        let r = map_is (partner_in m (coded_point (point_of q))) (point_of p) ((is_net site.over.0 site.over.1).back (point_of p) (point_of q) (net_wire m p q e)) in
        ap (partner_in m) (sym (round_code q)) ∙ r ∙ ap (λ (z : coded.Point). Some z) (round_code p)

    apart : (p : coded.Point) → partner_in m p ≢ Some p
    apart p e = (is_net site.over.0 site.over.1).apart (point_of p) (net_wire m p p e)

    between : (v w : ℕ) (p q x y : coded.Point) → wire_in m v ≡ Some (p, q) → wire_in m w ≡ Some (x, y) → p ≡ x → v ≡ w
    between v w p q x y f g e = elim (less_or v w) [
      | inl a ↦ elim a [
        | inl lt ↦ let c = listed.rising v w p q x y lt f g in absurd (not_both p p (subst (ComesBefore p) (sym e) c) (subst (ComesBefore p) (sym e) c))
        | inr lt ↦ let c = listed.rising w v x y p q lt g f in absurd (not_both p p (subst (λ (z : coded.Point). ComesBefore z p) (sym e) c) (subst (λ (z : coded.Point). ComesBefore z p) (sym e) c))
      ]
      | inr same ↦ same
    ]

    wire_is : (w : ℕ) (v : Wire) → slice_get wires w ≡ Some v → wire_in m w ≡ Some (v.one, v.other)
    wire_is w v e = ap (option_map {T = Wire} {U = coded.Point × coded.Point} (λ v. (v.one, v.other))) e

    told : (w : ℕ) (v : Wire) → slice_get wires w ≡ Some v → (partner_in m v.one ≡ Some v.other) × ComesBefore v.one v.other
    told w v e = let r = listed.sound w v.one v.other (wire_is w v e) in (r.0, r.1)

    begin_once : (j k : ℕ) (v w : Wire) → slice_get wires j ≡ Some v → slice_get wires k ≡ Some w → v.one ≡ w.one → j ≡ k
    begin_once j k v w e f same = between j k v.one v.other w.one w.other (wire_is j v e) (wire_is k w f) same

    pub whole : IsWhole m
    whole = record {
      agents = let n = numbers_fit s site in omega (arith, n, numbers);
      ports = few_ends;
      ends = let n = frees.many in let l = site.whole.ends in omega (arith, n, l);
      wires =
          let a = few_after in
          let b = site.room in
          let c = site.few in
          let d = frees.many in
          let e = site.whole.ends in
          let n = half m back apart wires few_ends told begin_once in
          omega (arith, n, a, b, c, d, e);
      back = back;
      apart = apart;
      listed = λ p q e. elim (before_or p q (λ same. apart p (e ∙ ap (λ (z : coded.Point). Some z) (sym same)))) [
        | inl l ↦ let w = listed.all p q e l tt in (w.0, inl w.1)
        | inr l ↦ let w = listed.all q p (back p q e) l tt in (w.0, inr w.1)
      ];
      partners = λ w p q e. (listed.sound w p q e).0;
      once = once;
      placed = λ b. cc;
    }
      where
        turned : (v w : ℕ) (p q : coded.Point) → wire_in m v ≡ Some (p, q) → wire_in m w ≡ Some (q, p) → ⊥
        turned v w p q f g = not_both p q (listed.sound v p q f).1 (listed.sound w q p g).1

        once : (v w : ℕ) (p q : coded.Point) → IsWireBetween m v p q → IsWireBetween m w p q → v ≡ w
        once v w p q (inl f) (inl g) = between v w p q p q f g refl
        once v w p q (inl f) (inr g) = absurd (turned v w p q f g)
        once v w p q (inr f) (inl g) = absurd (turned w v p q g f)
        once v w p q (inr f) (inr g) = between v w q p q p f g refl

    pub interacts : Interacts s.net s.rule s.one s.two m
    interacts = record {
      step = step;
      over = over;
      numbers = numbers;
      names = map_same (λ (f : FreeEnd). f.name) free s.net.free frees.many (λ k g f a b. (frees.each k f g a b).name);
      wires = record { turned = λ w p q e. (listed.sound w p q e).1; rising = listed.rising; nowhere = listed.nowhere };
      places = refl;
      built = refl;
    }
