-- Building has one result.
use Rattle.std.proofs.Common.{◌≡◌, ◌⊎◌, inl, inr, ℕ, zero, suc, ◌+◌, ◌<◌, ◌≤◌, List, [], ◌∷◌, ◌++◌, length, map, Option, Some, None, slice_get, Ok, Err, refl, sym, ◌∙◌, ap, subst, arith}
use Rattle.std.specs.List.{flat_map}
use Rattle.std.proofs.lemmas.Option.{same_Some}
use Rattle.in_syntax.specs.declared.faults.Code.{Code}
use Rattle.in_syntax.specs.declared.faults.Code.TheVariants.{E03, E07, E08}
use Rattle.in_syntax.specs.declared.faults.Fault.TheVariants.{Refused, Memory}
use Rattle.in_syntax.specs.declared.faults.Refusal.{Refusal}
use Rattle.in_syntax.specs.declared.places.Place.{Place}
use Rattle.in_syntax.specs.declared.tree.Equation.{Equation}
use Rattle.in_syntax.specs.declared.tree.Source.{Source}
use Rattle.in_syntax.specs.declared.tree.SourceFree.{SourceFree}
use Rattle.in_syntax.specs.declared.tree.SourceRule.{SourceRule}
use Rattle.in_syntax.specs.declared.tree.Term.{Term, out-Term}
use Rattle.in_base.proofs.Among.{among_left, among_right, among_either, in_flat, of_flat, in_map, of_map, among_at, among_all}
use Rattle.in_syntax.proofs.Public.{places_out, tree_in_order, tree_sized, part_small, texts_begin_apart, same_refusal, both_first, IsOneOf}
use Rattle.in_syntax.proofs.Public.{code_is, names_out}
use Rattle.in_symbols.proofs.Public.{at_free, at_equations}
use Rattle.in_net.specs.Laws.{NetsAreBuiltOnce, RulesAreBuiltOnce}
use Rattle.in_syntax.specs.Order.{BeginApart, source_places, Rises, IsWrittenInOrder, IsRuleInOrder, term_places, equation_places, head_places, rule_places}
use Rattle.in_syntax.specs.Sizes.{IsSized, names_in}
use Rattle.in_symbols.specs.Names.{number_in}
use Rattle.in_symbols.specs.Tables.{Tables, Tabulates}
use Rattle.in_net.specs.declared.reading.Agent.{Agent}
use Rattle.in_net.specs.declared.reading.TextSpot.TheVariants as spot
use Rattle.in_syntax.specs.Answers.{IsOne}
use Rattle.in_net.specs.Built.{Builds}
use Rattle.in_net.specs.Building.{nth_agent, nth_spot}
use Rattle.in_net.specs.NetFaults.{IsNetFaultAt, too_many, misfit, miscounted, HasNoNetFault, HasNoClosedWire, IsFirstNameFault, IsFirstNetFault, of_names, of_wires, IsMiscountedAt, only, third, missing, second, IsAgentMisfitAt, IsHeadMisfitAt}
use Rattle.in_net.specs.Reading.{reading_of}
use Rattle.in_net.specs.Rules.{RuleParts, BuildsRule, BuildsRuleOf, body_of_rule, IsReadable, IsRuleOf}
use Rattle.in_net.specs.Searching.{first_fault}
use Rattle.in_net.specs.TextNet as text
use Rattle.in_base.specs.Lists.{IsAmong}
use Rattle.in_net.specs.TextNet.{Body, LeftHead, IsLastOf, IsClosedWireOf, Written, written_by, agents_of, agents_of_body, agents_of_heads, agents_of_equations, body_of, place_of}
use Rattle.in_net.proofs.Texts.Agents.{agents_out, places_for}
use Rattle.in_net.proofs.Texts.Bodies.{net_ready, net_heads, rule_ready, rule_heads, readable}
use Rattle.in_net.proofs.Refusals.FirstFault.{IsReady, is_first, none_misfit, none_miscounted}
use Rattle.in_net.proofs.WholeNets.SameNet.{AreSingle, StandApart, same_net, same_member}
use Rattle.in_net.proofs.Wiring.Single.{one_spot, one_way}
use Rattle.in_net.proofs.Texts.Small.{are_small}
use Rattle.in_net.proofs.Wiring.Sound.{named}
use Rattle.in_net.proofs.Texts.TextPlaces.{all_places, text_places, equation_place, term_place, chain_place}
use Rattle.in_net.proofs.Wiring.TextWires.{IsGood, read, read_whole}
use Rattle.in_syntax.specs.TextLimits.{max_agents, max_member_agents}
use Rattle.in_syntax.specs.declared.text_limits.TextLimits.{TextLimits}

-- places that rise begin apart
pub rising_apart : (ps : List Place) → Rises ps → BeginApart ps
rising_apart [] up p q h k e = absurd h
rising_apart (r ∷ ps) up p q (inl a) (inl c) e = sym a ∙ c
rising_apart (r ∷ ps) up p q (inl a) (inr k) e =
    let lt = among_all (λ q. r.from < q.from) ps q up.0 k in
    let same : r.from ≡ p.from = ap (λ (x : Place). x.from) a in
    absurd (omega (arith, lt, same, e))
rising_apart (r ∷ ps) up p q (inr h) (inl c) e =
    let lt = among_all (λ q. r.from < q.from) ps p up.0 h in
    let same : r.from ≡ q.from = ap (λ (x : Place). x.from) c in
    absurd (omega (arith, lt, same, e))
rising_apart (r ∷ ps) up p q (inr h) (inr k) e = rising_apart ps up.1 p q h k e

-- ---- wires are single

last_once : (ps : List Place) (p q : Place) → IsLastOf p ps → IsLastOf q ps → p.from ≡ q.from
last_once ps p q h k =
    let a = among_all (λ (z : Place). z.from ≤ p.from) ps q h.1 k.0 in
    let c = among_all (λ (z : Place). z.from ≤ q.from) ps p k.1 h.0 in
    omega (arith, a, c)

single_wires : (t : Tables) (b : Body) → IsGood t b → BeginApart (text_places b) → AreSingle t b
single_wires t b good apart x y z p q v w =
    let way = one_way t b (reading_of t b) (read_whole t b good) x y z p q v w in
    let at : IsLastOf q v.places = subst (IsLastOf q) (sym way.1) w.place in
    (way.0, apart p q (chain_place t b v.first v.last x y v.places p v.chain v.place.0) (chain_place t b w.first w.last x z w.places q w.chain w.place.0) (last_once v.places p q v.place at))

-- ---- agents are apart

nth_of : (as_ : List Agent) (i : ℕ) (p : Place) → slice_get (map (λ (a : Agent). a.place) as_) i ≡ Some p → (i < length as_) × ((nth_agent as_ i).place ≡ p)
nth_of [] i p e = cc
nth_of (a ∷ as_) zero p e = (omega arith, same_Some a.place p e)
nth_of (a ∷ as_) (suc i) p e = let r = nth_of as_ i p e in (omega (arith, r.0), r.1)

agents_apart : (t : Tables) (b : Body) → IsGood t b → StandApart (map (λ w. w.place) (agents_of_body t b))
agents_apart t b good i j p h k =
    let as_ : List Agent = (reading_of t b).agents in
    let same : map (λ (a : Agent). a.place) (reading_of t b).agents ≡ map (λ w. w.place) (agents_of_body t b) = places_for t b (reading_of t b) (map (λ (a : Agent). a.place) (reading_of t b).agents) refl refl in
    let a = nth_of (reading_of t b).agents i p (ap (λ z. slice_get z i) same ∙ h) in
    let c = nth_of (reading_of t b).agents j p (ap (λ z. slice_get z j) same ∙ k) in
    let one = (read t b good).net.read.numbered.ports i 0 a.0 (omega arith) in
    let other = (read t b good).net.read.numbered.ports j 0 c.0 (omega arith) in
    let spot_is : (nth_agent (reading_of t b).agents i).first + 0 ≡ (nth_agent (reading_of t b).agents j).first + 0 =
    one_spot t b (reading_of t b) (read_whole t b good) ((nth_agent (reading_of t b).agents i).first + 0) ((nth_agent (reading_of t b).agents j).first + 0) one.0 other.0
    (ap named one.1 ∙ ap (λ p. text.port_at p 0) (a.1 ∙ sym c.1) ∙ sym (ap named other.1)) in
    number i j (nth_agent (reading_of t b).agents i).place (nth_agent (reading_of t b).agents j).place (sym one.1 ∙ ap (nth_spot (reading_of t b).spots) spot_is ∙ other.1)
  where
    number : (i j : ℕ) (p q : Place) → spot.Port i 0 p ≡ spot.Port j 0 q → i ≡ j
    number i j p q e = cc

-- ---- faults of names

own_place : (o : Option ℕ) (p : Place) (w : Written) → IsAmong w (written_by o p) → p ≡ w.place
own_place None p w h = absurd h
own_place (Some s) p w (inl e) = ap (λ (w : Written). w.place) e
own_place (Some s) p w (inr h) = absurd h

agent_by : (t : Tables) (h : ℕ) (u : Term) (w : Written) → ((v : Term) → names_in v ≤ h → IsAmong w (agents_of t v) → IsAmong w.place (term_places v)) → names_in u ≤ suc h →
    IsAmong w (written_by (number_in (out-Term u).name.text t.names) (out-Term u).name.place) ⊎ IsAmong w (flat_map (λ (a : List Written). a) (map (agents_of t) (out-Term u).args)) →
    IsAmong w.place ((out-Term u).name.place ∷ flat_map (λ (ps : List Place). ps) (map term_places (out-Term u).args))
agent_by t h u w ih le (inl a) = inl (own_place (number_in (out-Term u).name.text t.names) (out-Term u).name.place w a)
agent_by t h u w ih le (inr a) =
    let x = of_flat (λ (a : List Written). a) (map (agents_of t) (out-Term u).args) w a in
    let v = of_map (agents_of t) (out-Term u).args x.0 x.1 in
    let small = part_small (out-Term u).args v.0 v.1 in
    let e = names_out u in
    let lt : names_in v.0 ≤ h = omega (arith, small, e, le) in
    inr (in_flat (λ (ps : List Place). ps) (map term_places (out-Term u).args) (term_places v.0) w.place (in_map term_places (out-Term u).args v.0 v.1) (ih v.0 lt (subst (IsAmong w) (sym v.2) x.2)))

agent_place : (t : Tables) (h : ℕ) (u : Term) (w : Written) → names_in u ≤ h → IsAmong w (agents_of t u) → IsAmong w.place (term_places u)
agent_place t zero u w le k = absurd (let e = names_out u in omega (arith, le, e))
agent_place t (suc h) u w le k =
    subst (IsAmong w.place) (sym (places_out u))
    (agent_by t h u w (λ v small among. agent_place t h v w small among) le
    (among_either w (written_by (number_in (out-Term u).name.text t.names) (out-Term u).name.place) (flat_map (λ (a : List Written). a) (map (agents_of t) (out-Term u).args)) (subst (IsAmong w) (agents_out t u) k)))

body_agent : (t : Tables) (b : Body) (w : Written) → IsAmong w (agents_of_body t b) → IsAmong w.place (text_places b)
body_agent t b w h = by_side (among_either w (agents_of_heads t b.heads) (agents_of_equations t b.equations) h)
  where
    by_part : (e : Equation) → IsAmong w (agents_of t e.left) ⊎ IsAmong w (agents_of t e.right) → IsAmong w.place (equation_places e)
    by_part e (inl a) = among_left w.place (term_places e.left) (e.tilde ∷ term_places e.right) (agent_place t (names_in e.left) e.left w (omega arith) a)
    by_part e (inr a) = among_right w.place (term_places e.left) (e.tilde ∷ term_places e.right) (inr (agent_place t (names_in e.right) e.right w (omega arith) a))

    by_side : IsAmong w (agents_of_heads t b.heads) ⊎ IsAmong w (agents_of_equations t b.equations) → IsAmong w.place (text_places b)
    by_side (inl a) =
        let g = of_flat (λ (h : LeftHead). flat_map (agents_of t) h.head.terms) b.heads w a in
        let v = of_flat (agents_of t) g.0.head.terms w g.2 in
        among_left w.place (flat_map (λ (h : LeftHead). flat_map term_places h.head.terms) b.heads) (flat_map equation_places b.equations)
        (in_flat (λ (h : LeftHead). flat_map term_places h.head.terms) b.heads g.0 w.place g.1 (in_flat term_places g.0.head.terms v.0 w.place v.1 (agent_place t (names_in v.0) v.0 w (omega arith) v.2)))
    by_side (inr a) =
        let e = of_flat (λ (e : Equation). agents_of t e.left ++ agents_of t e.right) b.equations w a in
        equation_place b e.0 w.place e.1 (by_part e.0 (among_either w (agents_of t e.0.left) (agents_of t e.0.right) e.2))

in_text : (b : Body) (p : Place) → IsAmong p (text_places b) → IsAmong p (all_places b)
in_text b p h = among_right p (map (λ (f : SourceFree). f.name.place) b.free) (map (λ (h : LeftHead). h.head.name.place) b.heads ++ text_places b) (among_right p (map (λ (h : LeftHead). h.head.name.place) b.heads) (text_places b) h)

misplaced : (t : Tables) (b : Body) (p : Place) → IsMiscountedAt t b p → IsAmong p (all_places b)
misplaced t b _ (only u occurs none all) = in_text b (place_of u) (term_place b u occurs.0)
misplaced t b _ (third u v w ou ov ow none uv vw two) = in_text b (place_of w) (term_place b w ow.0)
misplaced t b _ (missing f among none) = among_left f.name.place (map (λ (f : SourceFree). f.name.place) b.free) (map (λ (h : LeftHead). h.head.name.place) b.heads ++ text_places b) (in_map (λ (f : SourceFree). f.name.place) b.free f among)
misplaced t b _ (second f u v among ou ov uv one) = in_text b (place_of v) (term_place b v ov.0)

misfit_place : (t : Tables) (b : Body) (p : Place) → IsAgentMisfitAt t b p ⊎ IsHeadMisfitAt t b p → IsAmong p (all_places b)
misfit_place t b p (inl h) = subst (λ p. IsAmong p (all_places b)) h.place (in_text b (place_of h.term) (term_place b h.term h.there))
misfit_place t b p (inr h) =
    subst (λ p. IsAmong p (all_places b)) h.place
    (among_right h.left.head.name.place (map (λ (f : SourceFree). f.name.place) b.free) (map (λ (h : LeftHead). h.head.name.place) b.heads ++ text_places b)
    (among_left h.left.head.name.place (map (λ (h : LeftHead). h.head.name.place) b.heads) (text_places b) (in_map (λ (h : LeftHead). h.head.name.place) b.heads h.left h.there)))

-- the codes of faults of names, and their places
abbrev IsNamed : Body → Code → Place → Type 0
IsNamed b c p = IsOneOf E03 E07 E08 c × IsAmong p (all_places b)

name_fault : (most : ℕ) (t : Tables) (b : Body) (c : Code) (p : Place) → IsNetFaultAt most t b c p → IsNamed b c p
name_fault most t b _ _ (too_many p h) = (inl refl, subst (λ p. IsAmong p (all_places b)) h.2 (in_text b h.0.place (body_agent t b h.0 (among_at (agents_of_body t b) most h.0 h.1))))
name_fault most t b _ _ (misfit p h) = (inr (inl refl), misfit_place t b p h)
name_fault most t b _ _ (miscounted p h) = (inr (inr refl), misplaced t b p h)

one_name_fault : (most : ℕ) (t : Tables) (b : Body) (c d : Code) (p q : Place) → BeginApart (all_places b) → IsFirstNameFault most t b c p → IsFirstNameFault most t b d q → (c ≡ d) × (p ≡ q)
one_name_fault most t b c d p q apart h k =
    let a = name_fault most t b c p h.stands in
    let e = name_fault most t b d q k.stands in
    let both = both_first c d p q (h.first d q k.stands) (k.first c p h.stands) in
    (code_is E03 E07 E08 (omega arith) (omega arith) c d a.0 e.0 both.1, apart p q a.1 e.1 both.0)

-- ---- without a fault, all is good

no_first : (most : ℕ) (t : Tables) (b : Body) → IsReady t b → HasNoNetFault most t b → None ≡ first_fault most t b (reading_of t b)
no_first most t b ready none = by_fault (first_fault most t b (reading_of t b)) refl
  where
    by_fault : (o : Option Refusal) → first_fault most t b (reading_of t b) ≡ o → None ≡ first_fault most t b (reading_of t b)
    by_fault None e = sym e
    by_fault (Some r) e = absurd (none r.code r.place (is_first most t b (reading_of t b) r ready refl (sym e)).0.stands)

good_net : (s : Source) (t : Tables) → IsSized s → IsWrittenInOrder s → Tabulates s (Ok t) → HasNoNetFault (max_agents s.limits) t (body_of s.net) → IsGood t (body_of s.net)
good_net s t sized order tabled none =
    let ready = net_ready s t tabled.0 tabled.1 order in
    let clear = no_first (max_agents s.limits) t (body_of s.net) ready none in
    record {
      ready = ready;
      small = are_small s t sized tabled.0;
      heads = net_heads t s;
      fits = none_misfit (max_agents s.limits) t (body_of s.net) (reading_of t (body_of s.net)) clear;
      twice = none_miscounted (max_agents s.limits) t (body_of s.net) ready clear;
    }

good_rule : (limits : TextLimits) (t : Tables) (r : SourceRule) → IsReadable t r → HasNoNetFault (max_member_agents limits) t (body_of_rule t r) → IsGood t (body_of_rule t r)
good_rule limits t r read none =
    let ready = rule_ready t r read.known read.order in
    let clear = no_first (max_member_agents limits) t (body_of_rule t r) ready none in
    let fits = none_misfit (max_member_agents limits) t (body_of_rule t r) (reading_of t (body_of_rule t r)) clear in
    record { ready = ready; small = read.small; heads = rule_heads t r read.known fits; fits = fits; twice = none_miscounted (max_member_agents limits) t (body_of_rule t r) ready clear }

-- ---- the net

text_apart : (b : Body) → BeginApart (all_places b) → BeginApart (text_places b)
text_apart b apart p q h k e = apart p q (in_text b p h) (in_text b q k) e

closed_place : (t : Tables) (b : Body) (p : Place) → IsClosedWireOf t b p → IsAmong p (text_places b)
closed_place t b p w = chain_place t b text.placed text.of_name w.through w.through w.places p w.chain w.place.0

one_net_fault : (most : ℕ) (t : Tables) (b : Body) (c d : Code) (p q : Place) → BeginApart (all_places b) → IsFirstNetFault most t b c p → IsFirstNetFault most t b d q → (c ≡ d) × (p ≡ q)
one_net_fault most t b _ _ _ _ apart (of_names c p h) (of_names d q k) = one_name_fault most t b c d p q apart h k
one_net_fault most t b _ _ _ _ apart (of_names c p h) (of_wires q none wire first) = absurd (none c p h.stands)
one_net_fault most t b _ _ _ _ apart (of_wires p none wire first) (of_names d q k) = absurd (none d q k.stands)
one_net_fault most t b _ _ _ _ apart (of_wires p none wire first) (of_wires q none1 wire1 first1) =
    (refl, text_apart b apart p q (closed_place t b p wire) (closed_place t b q wire1) (let a = first q wire1 in let c = first1 p wire in omega (arith, a, c)))

not_both : (most : ℕ) (t : Tables) (b : Body) (c : Code) (p : Place) → HasNoNetFault most t b → HasNoClosedWire t b → IsFirstNetFault most t b c p → ⊥
not_both most t b _ _ none open_ (of_names c p h) = none c p h.stands
not_both most t b _ _ none open_ (of_wires p no_ wire first) = open_ p wire

pub one_built : (s : Source) (t : Tables) → IsSized s → IsWrittenInOrder s → BeginApart (all_places (body_of s.net)) → Tabulates s (Ok t) → IsOne (Builds s t)
one_built s t sized order apart tabled (Ok n) (Ok m) h k =
    let good = good_net s t sized order tabled h.2 in
    same_net t s.net n m (single_wires t (body_of s.net) good (text_apart (body_of s.net) apart)) (agents_apart t (body_of s.net) good) h.1 k.1
one_built s t sized order apart tabled (Ok n) (Err (Refused r)) h k = not_both (max_agents s.limits) t (body_of s.net) r.code r.place h.2 h.3 k.0
one_built s t sized order apart tabled (Ok n) (Err (Memory e)) h k = tt
one_built s t sized order apart tabled (Err (Refused q)) (Ok m) h k = not_both (max_agents s.limits) t (body_of s.net) q.code q.place k.2 k.3 h.0
one_built s t sized order apart tabled (Err (Refused q)) (Err (Refused r)) h k =
    let same = one_net_fault (max_agents s.limits) t (body_of s.net) q.code r.code q.place r.place apart h.0 k.0 in same_refusal q r same.0 same.1 (h.1 ∙ sym k.1)
one_built s t sized order apart tabled (Err (Refused q)) (Err (Memory e)) h k = tt
one_built s t sized order apart tabled (Err (Memory e)) b h k = tt

-- ---- a rule

in_heads : (r : SourceRule) (p : Place) → IsAmong p (head_places r.first ++ head_places r.second) → IsAmong p (rule_places r)
in_heads r p h = among_left p (head_places r.first ++ head_places r.second) (flat_map equation_places r.equations) h

-- the places of a rule are those of its heads and equations
rule_place : (t : Tables) (r : SourceRule) (p : Place) → IsAmong p (all_places (body_of_rule t r)) → IsAmong p (rule_places r)
rule_place t r p (inl e) = inl e
rule_place t r p (inr (inl e)) = in_heads r p (among_right p (head_places r.first) (head_places r.second) (inl e))
rule_place t r p (inr (inr h)) = by_side (among_either p (flat_map term_places r.first.terms ++ (flat_map term_places r.second.terms ++ [])) (flat_map equation_places r.equations) h)
  where
    by_last : IsAmong p (flat_map term_places r.second.terms) ⊎ ⊥ → IsAmong p (rule_places r)
    by_last (inl c) = in_heads r p (among_right p (head_places r.first) (head_places r.second) (inr c))
    by_last (inr c) = absurd c

    by_head : IsAmong p (flat_map term_places r.first.terms) ⊎ IsAmong p (flat_map term_places r.second.terms ++ []) → IsAmong p (rule_places r)
    by_head (inl a) = in_heads r p (among_left p (head_places r.first) (head_places r.second) (inr a))
    by_head (inr a) = by_last (among_either p (flat_map term_places r.second.terms) [] a)

    by_side : IsAmong p (flat_map term_places r.first.terms ++ (flat_map term_places r.second.terms ++ [])) ⊎ IsAmong p (flat_map equation_places r.equations) → IsAmong p (rule_places r)
    by_side (inl a) = by_head (among_either p (flat_map term_places r.first.terms) (flat_map term_places r.second.terms ++ []) a)
    by_side (inr a) = among_right p (head_places r.first ++ head_places r.second) (flat_map equation_places r.equations) a

rule_apart : (t : Tables) (r : SourceRule) → IsRuleInOrder r → BeginApart (all_places (body_of_rule t r))
rule_apart t r order p q h k e = rising_apart (rule_places r) order p q (rule_place t r p h) (rule_place t r q k) e

rule_is : (t : Tables) (r : SourceRule) (p q : RuleParts) → IsRuleOf t r p → IsRuleOf t r q → p.member ≡ q.member → p ≡ q
rule_is t r p q h k e =
    ap (λ z. let x : RuleParts = record { written = z; heads = p.heads; head_places = p.head_places; member = p.member } in x) (h.written ∙ sym k.written)
    ∙ ap (λ z. let x : RuleParts = record { written = q.written; heads = z; head_places = p.head_places; member = p.member } in x) (h.heads ∙ sym k.heads)
    ∙ ap (λ z. let x : RuleParts = record { written = q.written; heads = q.heads; head_places = z; member = p.member } in x) (h.head_places ∙ sym k.head_places)
    ∙ ap (λ z. let x : RuleParts = record { written = q.written; heads = q.heads; head_places = q.head_places; member = z } in x) e

one_rule_of : (limits : TextLimits) (t : Tables) (r : SourceRule) → IsReadable t r → IsOne (BuildsRuleOf limits t r)
one_rule_of limits t r ready (Ok p) (Ok q) h k =
    let good = good_rule limits t r ready h.2 in
    rule_is t r p q h.1 k.1 (same_member t r p.member q.member (single_wires t (body_of_rule t r) good (text_apart (body_of_rule t r) (rule_apart t r ready.order))) (agents_apart t (body_of_rule t r) good) h.1.member k.1.member)
one_rule_of limits t r ready (Ok p) (Err (Refused f)) h k = not_both (max_member_agents limits) t (body_of_rule t r) f.code f.place h.2 h.3 k.0
one_rule_of limits t r ready (Ok p) (Err (Memory e)) h k = tt
one_rule_of limits t r ready (Err (Refused f)) (Ok q) h k = not_both (max_member_agents limits) t (body_of_rule t r) f.code f.place k.2 k.3 h.0
one_rule_of limits t r ready (Err (Refused f)) (Err (Refused g)) h k =
    let same = one_net_fault (max_member_agents limits) t (body_of_rule t r) f.code g.code f.place g.place (rule_apart t r ready.order) h.0 k.0 in same_refusal f g same.0 same.1 (h.1 ∙ sym k.1)
one_rule_of limits t r ready (Err (Refused f)) (Err (Memory e)) h k = tt
one_rule_of limits t r ready (Err (Memory e)) b h k = tt

pub one_rule_built : (s : Source) (t : Tables) (i : ℕ) → IsSized s → IsWrittenInOrder s → Tabulates s (Ok t) → IsOne (BuildsRule s t i)
one_rule_built s t i sized order tabled a b h k =
    let same : h.0 ≡ k.0 = same_Some h.0 k.0 (sym h.1 ∙ k.1) in
    one_rule_of s.limits t k.0 (readable s t k.0 i sized order tabled.0 k.1) a b (subst (λ r. BuildsRuleOf s.limits t r a) same h.2) k.2

-- ---- of the program of a text

-- the places in a program's net are among those in the program
net_apart : (s : Source) → BeginApart (source_places s) → BeginApart (all_places (body_of s.net))
net_apart s apart p q h k e = apart p q (there p h) (there q k) e
  where
    by_side : (p : Place) → IsAmong p (map (λ (f : SourceFree). f.name.place) s.net.free) ⊎ IsAmong p (flat_map equation_places s.net.equations) → IsAmong p (source_places s)
    by_side p (inl a) = let f = of_map (λ (f : SourceFree). f.name.place) s.net.free p a in at_free s f.0 p f.1 (inl f.2)
    by_side p (inr a) = at_equations s p a

    there : (p : Place) → IsAmong p (all_places (body_of s.net)) → IsAmong p (source_places s)
    there p h = by_side p (among_either p (map (λ (f : SourceFree). f.name.place) s.net.free) (flat_map equation_places s.net.equations) h)

pub nets_once : NetsAreBuiltOnce
nets_once s t of_text tabled = one_built s t (tree_sized s.limits of_text.text s of_text.tree) (tree_in_order s.limits of_text.text s of_text.tree) (net_apart s (texts_begin_apart s.limits of_text.text s of_text.tree)) tabled

pub rules_once : RulesAreBuiltOnce
rules_once s t i of_text tabled = one_rule_built s t i (tree_sized s.limits of_text.text s of_text.tree) (tree_in_order s.limits of_text.text s of_text.tree) tabled
