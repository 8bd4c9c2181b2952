-- The reading of a net: its spots, agents and joints are those of the text.
use Rattle.std.proofs.Common.{◌≡◌, ◌≢◌, ◌⊎◌, inl, inr, ℕ, zero, suc, ◌+◌, ◌*◌, ◌<◌, ◌≤◌, List, [], ◌∷◌, ◌++◌, length, Option, Some, None, refl, sym, ◌∙◌, ap, subst, arith, get_or, slice_get, length-append, is_some, cond, unwrap_or, append-nil}
use Rattle.std.specs.List.{AllByRecursion}
use Rattle.std.specs.Str.{bytes_eq}
use Rattle.std.proofs.lemmas.List.Quantifiers.{position-Some}
use Rattle.std.proofs.lemmas.Slice.Eq.{bytes_eq-Decides}
use Rattle.in_syntax.specs.declared.places.Place.{Place}
use Rattle.in_syntax.specs.declared.tree.Term.{Term, out-Term}
use Rattle.in_syntax.specs.declared.tree.SourceFree.{SourceFree}
use Rattle.in_syntax.specs.declared.symbol_no.SymbolNo.{SymbolNo}
use Rattle.in_net.specs.declared.reading.TextSpot.{TextSpot}
use Rattle.in_net.specs.declared.reading.TextSpot.TheVariants.{Port, Free, End, Occurrence}
use Rattle.in_net.specs.declared.reading.Agent.{Agent}
use Rattle.in_net.specs.declared.reading.Reading.{Reading}
use Rattle.in_symbols.specs.Names.{number_in, name_in}
use Rattle.in_symbols.specs.Tables.{Tables, arity_of}
use Rattle.in_net.specs.Reading.{with_agent, with_occurrence, with_joint, with_name, number_with, ports_from, reads_free_end}
use Rattle.in_net.specs.Counting as counting
use Rattle.in_net.specs.Counting.{IsNameInside}
use Rattle.in_net.specs.Joining.{JointsInside, links_of}
use Rattle.in_net.specs.Building.{no_agent, no_spot, nth_spot, nth_link, nth_agent}
use Rattle.in_net.specs.Built.{IsPortOf, IsEnd, IsNumbered}
use Rattle.in_net.specs.TextNet.{Body, IsTermOf, IsVariable, PlacedJoint, name_of, place_of}
use Rattle.in_net.proofs.Wiring.Linked.{front_or_back, at_front, at_back, links_joint, length-links_of}
use Rattle.in_net.proofs.Wiring.Sound.{named, IsLinked, linked_more, linked_joint}
use Rattle.in_base.proofs.Each.{all_map, all_append}
use Rattle.in_syntax.specs.Grammar.{max_ports}

-- the name of that number is the term's, which is no symbol's
pub record IsVariableAt (t : Tables) (b : Body) (names : List (List ℕ)) (m : ℕ) (p : Place) : Type 0 where
  pub term : Term
  pub there : IsTermOf b term
  pub variable : IsVariable t term
  pub place : place_of term ≡ p
  pub name : name_in m names ≡ name_of term
  pub inside : m < length names

-- the name of that number is the free end's
pub record IsFreeAt (b : Body) (names : List (List ℕ)) (k m : ℕ) : Type 0 where
  pub end : SourceFree
  pub declared : slice_get b.free k ≡ Some end
  pub name : name_in m names ≡ end.name.text
  pub inside : m < length names

-- the names of the spots, in the text
abbrev pub IsNamed : Tables → Body → List (List ℕ) → TextSpot → Type 0
IsNamed t b names (Port a i p) = Unit {0}
IsNamed t b names (Free k m) = IsFreeAt b names k m
IsNamed t b names (End k) = Unit {0}
IsNamed t b names (Occurrence m p) = IsVariableAt t b names m p

-- the reading so far, with at most `count` names
pub record IsRead (t : Tables) (b : Body) (free count : ℕ) (r : Reading) : Type 0 where
  pub numbered : IsNumbered t free r
  pub joints : JointsInside (length r.spots) r.joints
  pub linked : IsLinked t b r.spots (links_of r)
  pub known : AllByRecursion (λ a. a.symbol.0 < length t.names) r.agents
  pub named_as : AllByRecursion (IsNamed t b r.names) r.spots
  pub few_agents : length r.agents ≤ count
  pub few_spots : length r.spots ≤ free + (max_ports + 1) * count

-- ---- names

pub name_there : (names : List (List ℕ)) (name : List ℕ) (o : Option ℕ) → number_in name names ≡ o → (number_with names name < length (with_name names name)) × (name_in (number_with names name) (with_name names name) ≡ name)
name_there names name None is =
    let grown : with_name names name ≡ names ++ name ∷ [] = ap (λ (o : Option ℕ). cond (is_some o) names (names ++ name ∷ [])) is in
    let last : number_with names name ≡ length names = ap (λ o. unwrap_or o (length names)) is in
    let here : length names ≡ length names + 0 = omega arith in (
      omega (arith, ap length grown, length-append names (name ∷ []), last),
      ap (λ n. get_or (with_name names name) n []) (last ∙ here) ∙ ap (λ z. get_or z (length names + 0) []) grown ∙ at_back names (name ∷ []) 0 [],
    )
name_there names name (Some n) is =
    let same : with_name names name ≡ names = ap (λ (o : Option ℕ). cond (is_some o) names (names ++ name ∷ [])) is in
    let number : number_with names name ≡ n = ap (λ o. unwrap_or o (length names)) is in
    let found = position-Some (bytes_eq name) names n [] is in (
      omega (arith, ap length same, number, found.0),
      ap (λ k. get_or (with_name names name) k []) number ∙ ap (λ z. get_or z n []) same ∙ sym ((bytes_eq-Decides name (get_or names n [])).0 found.1),
    )

pub grows_by : (names : List (List ℕ)) (name : List ℕ) (o : Option ℕ) → number_in name names ≡ o → (more : List (List ℕ)) × (with_name names name ≡ names ++ more)
grows_by names name None is = (name ∷ [], ap (λ (o : Option ℕ). cond (is_some o) names (names ++ name ∷ [])) is)
grows_by names name (Some n) is = ([], ap (λ (o : Option ℕ). cond (is_some o) names (names ++ name ∷ [])) is ∙ sym (append-nil names))

-- names that are added leave those before them
pub still_named : (t : Tables) (b : Body) (names more : List (List ℕ)) (s : TextSpot) → IsNamed t b names s → IsNamed t b (names ++ more) s
still_named t b names more (Port a i p) h = tt
still_named t b names more (End k) h = tt
still_named t b names more (Free k m) h = record {
  end = h.end;
  declared = h.declared;
  name = at_front names more m [] h.inside ∙ h.name;
  inside = omega (arith, h.inside, length-append names more);
}
still_named t b names more (Occurrence m p) h = record {
  term = h.term;
  there = h.there;
  variable = h.variable;
  place = h.place;
  name = at_front names more m [] h.inside ∙ h.name;
  inside = omega (arith, h.inside, length-append names more);
}

pub all_still_named : (t : Tables) (b : Body) (names : List (List ℕ)) (name : List ℕ) (spots : List TextSpot) → AllByRecursion (IsNamed t b names) spots → AllByRecursion (IsNamed t b (with_name names name)) spots
all_still_named t b names name spots all =
    let grown = grows_by names name (number_in name names) refl in
    all_map _ _ (λ s h. subst (λ z. IsNamed t b z s) (sym grown.1) (still_named t b names grown.0 s h)) spots all

pub name_inside : (t : Tables) (b : Body) (names : List (List ℕ)) (s : TextSpot) → IsNamed t b names s → IsNameInside (length names) s
name_inside t b names (Port a i p) h = tt
name_inside t b names (End k) h = tt
name_inside t b names (Free k m) h = h.inside
name_inside t b names (Occurrence m p) h = h.inside

pub name_known : (t : Tables) (b : Body) (names : List (List ℕ)) (s : TextSpot) (m : ℕ) → IsNamed t b names s → counting.name_of s ≡ Some m → m < length names
name_known t b names (Port a i p) m h e = cc
name_known t b names (End k) m h e = cc
name_known t b names (Free k n) m h e = let same : n ≡ m = cc in omega (arith, same, h.inside)
name_known t b names (Occurrence n p) m h e = let same : n ≡ m = cc in omega (arith, same, h.inside)

-- ---- an agent

nth_port : (agent : ℕ) (at : Place) (port n j : ℕ) → j < n → nth_spot (ports_from agent at port n) j ≡ Port agent (port + j) at
nth_port agent at port zero j lt = absurd (omega arith)
nth_port agent at port (suc n) zero lt = let e : port ≡ port + 0 = omega arith in ap (λ i. Port agent i at) e
nth_port agent at port (suc n) (suc j) lt = let e : port + 1 + j ≡ port + suc j = omega arith in nth_port agent at (port + 1) n j (omega arith) ∙ ap (λ i. Port agent i at) e

pub length-ports_from : (agent : ℕ) (at : Place) (port n : ℕ) → length (ports_from agent at port n) ≡ n
length-ports_from agent at port zero = refl
length-ports_from agent at port (suc n) = omega (arith, length-ports_from agent at (port + 1) n)

pub ports_named : (t : Tables) (b : Body) (names : List (List ℕ)) (agent : ℕ) (at : Place) (port n : ℕ) → AllByRecursion (IsNamed t b names) (ports_from agent at port n)
ports_named t b names agent at port zero = tt
ports_named t b names agent at port (suc n) = (tt, ports_named t b names agent at (port + 1) n)

module _ (t : Tables) (free : ℕ) (r : Reading) (numbered : IsNumbered t free r) (s : SymbolNo) (place : Place) where
  abbrev arity : ℕ
  arity = arity_of t s.0

  abbrev ports : List TextSpot
  ports = ports_from (length r.agents) place 0 (arity_of t s.0 + 1)

  abbrev then_ : Reading
  then_ = with_agent r s (arity_of t s.0) place

  abbrev agent : Agent
  agent = record { symbol = s; place = place; first = length r.spots }

  count : length (r.spots ++ ports) ≡ length r.spots + (arity_of t s.0 + 1)
  count = length-append r.spots ports ∙ ap (λ n. length r.spots + n) (length-ports_from (length r.agents) place 0 (arity_of t s.0 + 1))

  agents : length (r.agents ++ agent ∷ []) ≡ length r.agents + 1
  agents = length-append r.agents (agent ∷ [])

  same_agent : (a : ℕ) → a < length r.agents → nth_agent (r.agents ++ agent ∷ []) a ≡ nth_agent r.agents a
  same_agent a lt = at_front r.agents (agent ∷ []) a no_agent lt

  new_agent : nth_agent (r.agents ++ agent ∷ []) (length r.agents) ≡ agent
  new_agent = let e : length r.agents ≡ length r.agents + 0 = omega arith in ap (nth_agent (r.agents ++ agent ∷ [])) e ∙ at_back r.agents (agent ∷ []) 0 no_agent

  old_spot : (k : ℕ) → k < length r.spots → nth_spot (r.spots ++ ports) k ≡ nth_spot r.spots k
  old_spot k lt = at_front r.spots ports k no_spot lt

  pub new_spot : (j : ℕ) → j ≤ arity_of t s.0 → nth_spot (r.spots ++ ports) (length r.spots + j) ≡ Port (length r.agents) j place
  new_spot j le = let e : 0 + j ≡ j = omega arith in at_back r.spots ports j no_spot ∙ nth_port (length r.agents) place 0 (arity_of t s.0 + 1) j (omega (arith, le)) ∙ ap (λ i. Port (length r.agents) i place) e

  port_old : (k a i : ℕ) (p : Place) → IsPortOf t r k a i p → IsPortOf t then_ k a i p
  port_old k a i p h =
      let same = same_agent a h.agent in
      record {
        agent = omega (arith, h.agent, agents);
        place = subst (λ (x : Agent). i ≤ arity_of t x.symbol.0) (sym same) h.place;
        number = ap (λ (x : Agent). x.first + i) same ∙ h.number;
        name = h.name ∙ sym (ap (λ (x : Agent). x.place) same);
      }

  port_new : (k j a i : ℕ) (p : Place) → k ≡ length r.spots + j → j ≤ arity_of t s.0 → Port (length r.agents) j place ≡ Port a i p → IsPortOf t then_ k a i p
  port_new k j a i p at le is =
      let agent_is : length r.agents ≡ a = cc in
      let place_is : j ≡ i = cc in
      let name_is : place ≡ p = cc in
      let here : nth_agent (r.agents ++ agent ∷ []) a ≡ agent = subst (λ n. nth_agent (r.agents ++ agent ∷ []) n ≡ agent) agent_is new_agent in
      record {
        agent = omega (arith, agent_is, agents);
        place = subst (λ (x : Agent). i ≤ arity_of t x.symbol.0) (sym here) (omega (arith, place_is, le));
        number = let first = ap (λ (x : Agent). x.first) here in omega (arith, at, first, place_is);
        name = sym name_is ∙ sym (ap (λ (x : Agent). x.place) here);
      }

  port_by : (k a i : ℕ) (p : Place) → k < length (r.spots ++ ports) → nth_spot (r.spots ++ ports) k ≡ Port a i p → (k < length r.spots) ⊎ ((j : ℕ) × (k ≡ length r.spots + j)) → IsPortOf t then_ k a i p
  port_by k a i p lt is (inl front) = port_old k a i p (numbered.port k a i p front (sym (old_spot k front) ∙ is))
  port_by k a i p lt is (inr (j, e)) =
      let le : j ≤ arity_of t s.0 = omega (arith, lt, e, count) in
      port_new k j a i p e le (sym (new_spot j le) ∙ sym (ap (nth_spot (r.spots ++ ports)) e) ∙ is)

  end_by : (k j : ℕ) → k < length (r.spots ++ ports) → IsEnd (nth_spot (r.spots ++ ports) k) j → (k < length r.spots) ⊎ ((i : ℕ) × (k ≡ length r.spots + i)) → (j ≡ k) × (j < free)
  end_by k j lt is (inl front) = numbered.end k j front (subst (λ s. IsEnd s j) (old_spot k front) is)
  end_by k j lt is (inr (i, e)) =
      let le : i ≤ arity_of t s.0 = omega (arith, lt, e, count) in
      absurd (subst (λ s. IsEnd s j) (ap (nth_spot (r.spots ++ ports)) e ∙ new_spot i le) is)

  ports_by : (a i : ℕ) → a < length (r.agents ++ agent ∷ []) → i ≤ arity_of t (nth_agent (r.agents ++ agent ∷ []) a).symbol.0 → (a < length r.agents) ⊎ ((j : ℕ) × (a ≡ length r.agents + j)) →
      ((nth_agent (r.agents ++ agent ∷ []) a).first + i < length (r.spots ++ ports)) ×
      (nth_spot (r.spots ++ ports) ((nth_agent (r.agents ++ agent ∷ []) a).first + i) ≡ Port a i (nth_agent (r.agents ++ agent ∷ []) a).place)
  ports_by a i lt le (inl front) =
      let same = same_agent a front in
      let old = numbered.ports a i front (subst (λ (x : Agent). i ≤ arity_of t x.symbol.0) same le) in
      subst (λ (x : Agent). (x.first + i < length (r.spots ++ ports)) × (nth_spot (r.spots ++ ports) (x.first + i) ≡ Port a i x.place)) (sym same)
      (omega (arith, old.0, count), old_spot ((nth_agent r.agents a).first + i) old.0 ∙ old.1)
  ports_by a i lt le (inr (j, e)) =
      let at : length r.agents ≡ a = omega (arith, lt, e, agents) in
      let here : nth_agent (r.agents ++ agent ∷ []) a ≡ agent = subst (λ n. nth_agent (r.agents ++ agent ∷ []) n ≡ agent) at new_agent in
      let fits : i ≤ arity_of t s.0 = subst (λ (x : Agent). i ≤ arity_of t x.symbol.0) here le in
      subst (λ (x : Agent). (x.first + i < length (r.spots ++ ports)) × (nth_spot (r.spots ++ ports) (x.first + i) ≡ Port a i x.place)) (sym here)
      (omega (arith, fits, count), new_spot i fits ∙ ap (λ n. Port n i place) at)

  rise_by : (a c : ℕ) → c < a → a < length (r.agents ++ agent ∷ []) → (a < length r.agents) ⊎ ((j : ℕ) × (a ≡ length r.agents + j)) → (nth_agent (r.agents ++ agent ∷ []) c).first < (nth_agent (r.agents ++ agent ∷ []) a).first
  rise_by a c lt in_ (inl front) =
      let one = ap (λ (x : Agent). x.first) (same_agent c (omega (arith, lt, front))) in
      let other = ap (λ (x : Agent). x.first) (same_agent a front) in
      let old = numbered.rise a c lt front in
      omega (arith, one, other, old)
  rise_by a c lt in_ (inr (j, e)) =
      let last : length r.agents ≡ a = omega (arith, in_, e, agents) in
      let front : c < length r.agents = omega (arith, lt, last) in
      let one = ap (λ (x : Agent). x.first) (same_agent c front) in
      let other : (nth_agent (r.agents ++ agent ∷ []) a).first ≡ length r.spots = subst (λ n. (nth_agent (r.agents ++ agent ∷ []) n).first ≡ length r.spots) last (ap (λ (x : Agent). x.first) new_agent) in
      let old = (numbered.ports c 0 front (omega arith)).0 in
      omega (arith, one, other, old)

  pub numbered_agent : IsNumbered t free then_
  numbered_agent = record {
    port = λ k a i p lt is. port_by k a i p lt is (front_or_back (length r.spots) k);
    end = λ k j lt is. end_by k j lt is (front_or_back (length r.spots) k);
    ports = λ a i lt le. ports_by a i lt le (front_or_back (length r.agents) a);
    ends = λ k lt. let old = numbered.ends k lt in (omega (arith, old.0, count), subst (λ s. IsEnd s k) (sym (old_spot k old.0)) old.1);
    rise = λ a c lt in_. rise_by a c lt in_ (front_or_back (length r.agents) a);
  }

  pub wider_agent : length (r.spots ++ ports) ≡ length r.spots + (arity_of t s.0 + 1)
  wider_agent = count

wider_joints : (n m : ℕ) (r : Reading) → n ≤ m → JointsInside n r.joints → JointsInside m r.joints
wider_joints n m r le all = all_map _ _ (λ j h. (omega (arith, h.0, le), omega (arith, h.1, le))) r.joints all

pub with_agent_read : (t : Tables) (b : Body) (free names : ℕ) (r : Reading) (s : SymbolNo) (place : Place) → IsRead t b free names r → s.0 < length t.names → arity_of t s.0 ≤ max_ports →
    IsRead t b free (names + 1) (with_agent r s (arity_of t s.0) place)
with_agent_read t b free names r s place read known few =
    let count = wider_agent t free r read.numbered s place in
    let one : Agent = record { symbol = s; place = place; first = length r.spots } in
    record {
      numbered = numbered_agent t free r read.numbered s place;
      joints = wider_joints (length r.spots) _ r (omega (arith, count)) read.joints;
      linked = linked_more t b r.spots (ports_from (length r.agents) place 0 (arity_of t s.0 + 1)) r.joints read.joints read.linked;
      known = all_append _ r.agents (one ∷ []) read.known (known, tt);
      named_as = all_append _ r.spots (ports_from (length r.agents) place 0 (arity_of t s.0 + 1)) read.named_as (ports_named t b r.names (length r.agents) place 0 (arity_of t s.0 + 1));
      few_agents = omega (arith, read.few_agents, length-append r.agents (one ∷ []));
      few_spots = omega (arith, read.few_spots, few, count);
    }

-- ---- one spot that is no agent's: the occurrence of a name, or a free end

before_it : (spots : List TextSpot) (s : TextSpot) (k : ℕ) → k < length spots → nth_spot (spots ++ s ∷ []) k ≡ nth_spot spots k
before_it spots s k lt = at_front spots (s ∷ []) k no_spot lt

is_it : (spots : List TextSpot) (s : TextSpot) (k j : ℕ) → k < length (spots ++ s ∷ []) → k ≡ length spots + j → nth_spot (spots ++ s ∷ []) k ≡ s
is_it spots s k j lt e =
    let none : j ≡ 0 = omega (arith, lt, e, length-append spots (s ∷ [])) in
    ap (nth_spot (spots ++ s ∷ [])) (e ∙ ap (λ i. length spots + i) none) ∙ at_back spots (s ∷ []) 0 no_spot

-- a spot that isn't a port or a free end keeps the numbering, and so does the next free end
module _ (t : Tables) (free : ℕ) (r : Reading) (numbered : IsNumbered t free r) (s : TextSpot) (names : List (List ℕ)) where
  abbrev and_one : Reading
  and_one = record r { spots = r.spots ++ s ∷ []; names = names }

  one_more : length (r.spots ++ s ∷ []) ≡ length r.spots + 1
  one_more = length-append r.spots (s ∷ [])

  one_port : (k a i : ℕ) (p : Place) → ((a i : ℕ) (p : Place) → s ≢ Port a i p) → k < length (r.spots ++ s ∷ []) → nth_spot (r.spots ++ s ∷ []) k ≡ Port a i p → (k < length r.spots) ⊎ ((j : ℕ) × (k ≡ length r.spots + j)) →
      IsPortOf t r k a i p
  one_port k a i p never lt is (inl front) = numbered.port k a i p front (sym (before_it r.spots s k front) ∙ is)
  one_port k a i p never lt is (inr (j, e)) = absurd (never a i p (sym (is_it r.spots s k j lt e) ∙ is))

  one_end : (k j : ℕ) → ((j : ℕ) → IsEnd s j → (j ≡ length r.spots) × (j < free)) → k < length (r.spots ++ s ∷ []) → IsEnd (nth_spot (r.spots ++ s ∷ []) k) j → (k < length r.spots) ⊎ ((j : ℕ) × (k ≡ length r.spots + j)) →
      (j ≡ k) × (j < free)
  one_end k j only lt is (inl front) = numbered.end k j front (subst (λ s. IsEnd s j) (before_it r.spots s k front) is)
  one_end k j only lt is (inr (i, e)) = let here = only j (subst (λ s. IsEnd s j) (is_it r.spots s k i lt e) is) in (omega (arith, here.0, lt, e, one_more), here.1)

  pub numbered_one : ((a i : ℕ) (p : Place) → s ≢ Port a i p) → ((j : ℕ) → IsEnd s j → (j ≡ length r.spots) × (j < free)) → IsNumbered t free and_one
  numbered_one never only = record {
    port = λ k a i p lt is. let old = one_port k a i p never lt is (front_or_back (length r.spots) k) in record { agent = old.agent; place = old.place; number = old.number; name = old.name };
    end = λ k j lt is. one_end k j only lt is (front_or_back (length r.spots) k);
    ports = λ a i lt le. let old = numbered.ports a i lt le in (omega (arith, old.0, one_more), before_it r.spots s ((nth_agent r.agents a).first + i) old.0 ∙ old.1);
    ends = λ k lt. let old = numbered.ends k lt in (omega (arith, old.0, one_more), subst (λ s. IsEnd s k) (sym (before_it r.spots s k old.0)) old.1);
    rise = numbered.rise;
  }

pub with_occurrence_read : (t : Tables) (b : Body) (free names : ℕ) (r : Reading) (u : Term) → IsTermOf b u → IsVariable t u → IsRead t b free names r → IsRead t b free (names + 1) (with_occurrence r (out-Term u).name)
with_occurrence_read t b free names r u there variable read =
    let name : List ℕ = (out-Term u).name.text in
    let spot : TextSpot = Occurrence (number_with r.names name) (out-Term u).name.place in
    let count : length (r.spots ++ Occurrence (number_with r.names (out-Term u).name.text) (out-Term u).name.place ∷ []) ≡ length r.spots + 1 = length-append r.spots (spot ∷ []) in
    let at = name_there r.names name (number_in name r.names) refl in
    record {
      numbered = numbered_one t free r read.numbered spot (with_name r.names name) (λ a i p e. cc) (λ j e. absurd e);
      joints = wider_joints (length r.spots) _ r (omega (arith, count)) read.joints;
      linked = linked_more t b r.spots (spot ∷ []) r.joints read.joints read.linked;
      known = read.known;
      named_as =
          all_append _ r.spots (spot ∷ []) (all_still_named t b r.names name r.spots read.named_as) (record { term = u; there = there; variable = variable; place = refl; name = at.1; inside = at.0 }, tt);
      few_agents = omega (arith, read.few_agents);
      few_spots = omega (arith, count, read.few_spots);
    }

-- ---- two spots that are joined

pub with_joint_read : (t : Tables) (b : Body) (free names : ℕ) (r : Reading) (one port other : ℕ) (place : Place) → IsRead t b free names r → one + port < length r.spots → other < length r.spots → one + port ≢ other →
    (nth_link (links_of r) (one + port)).to ≡ one + port → (nth_link (links_of r) other).to ≡ other → PlacedJoint t b (named (nth_spot r.spots (one + port))) (named (nth_spot r.spots other)) place →
    IsRead t b free names (with_joint r one port other place)
with_joint_read t b free names r one port other place read a c apart one_alone other_alone joint = record {
  numbered = record { port = λ k a i p lt is. let old = read.numbered.port k a i p lt is in record { agent = old.agent; place = old.place; number = old.number; name = old.name }; end = read.numbered.end; ports = read.numbered.ports; ends = read.numbered.ends; rise = read.numbered.rise };
  joints = all_append _ r.joints (record { one = one; port = port; other = other; place = place } ∷ []) read.joints ((a, c), tt);
  linked =
      subst (IsLinked t b r.spots) (sym (links_joint r one port other place)) (linked_joint t b r.spots (links_of r) (length-links_of r) read.linked (one + port) other place a c apart one_alone other_alone joint);
  known = read.known;
  named_as = read.named_as;
  few_agents = read.few_agents;
  few_spots = read.few_spots;
}

pub more_names : (t : Tables) (b : Body) (free names most : ℕ) (r : Reading) → names ≤ most → IsRead t b free names r → IsRead t b free most r
more_names t b free names most r le read = record {
  numbered = read.numbered;
  joints = read.joints;
  linked = read.linked;
  known = read.known;
  named_as = read.named_as;
  few_agents = omega (arith, read.few_agents, le);
  few_spots = omega (arith, read.few_spots, le);
}

-- ---- a free or boundary end

-- if only ends are read so far, the next one is added
module _ (t : Tables) (b : Body) (k : ℕ) (r : Reading) (count : length r.spots ≡ k) (no_agents : r.agents ≡ []) (no_joints : r.joints ≡ []) (read : IsRead t b k 0 r)
    (s : TextSpot) (is_end : IsEnd s k) (names : List (List ℕ)) (all : AllByRecursion (IsNamed t b names) r.spots) (named_end : IsNamed t b names s) where
  abbrev and_end : Reading
  and_end = record r { spots = r.spots ++ s ∷ []; names = names }

  grown : length (r.spots ++ s ∷ []) ≡ length r.spots + 1
  grown = length-append r.spots (s ∷ [])

  end_no_port : (u : TextSpot) (a i j : ℕ) (p : Place) → IsEnd u j → u ≢ Port a i p
  end_no_port u a i j p h e = subst (λ u. IsEnd u j) e h

  one_number : (u : TextSpot) (i j : ℕ) → IsEnd u i → IsEnd u j → i ≡ j
  one_number (Port a x p) i j h g = absurd h
  one_number (Free x m) i j h g = sym h ∙ g
  one_number (End x) i j h g = sym h ∙ g
  one_number (Occurrence m p) i j h g = absurd h

  no_port : (j a i : ℕ) (p : Place) → j < length (r.spots ++ s ∷ []) → nth_spot (r.spots ++ s ∷ []) j ≡ Port a i p → (j < length r.spots) ⊎ ((i : ℕ) × (j ≡ length r.spots + i)) → ⊥
  no_port j a i p lt e (inl front) =
      let old = read.numbered.port j a i p front (sym (before_it r.spots s j front) ∙ e) in
      let none = ap length no_agents in
      absurd (omega (arith, old.agent, none))
  no_port j a i p lt e (inr (x, f)) = end_no_port s a i k p is_end (sym (is_it r.spots s j x lt f) ∙ e)

  end_at : (j i : ℕ) → j < length (r.spots ++ s ∷ []) → IsEnd (nth_spot (r.spots ++ s ∷ []) j) i → (j < length r.spots) ⊎ ((x : ℕ) × (j ≡ length r.spots + x)) → (i ≡ j) × (i < k + 1)
  end_at j i lt e (inl front) = let old = read.numbered.end j i front (subst (λ u. IsEnd u i) (before_it r.spots s j front) e) in (old.0, omega (arith, old.1))
  end_at j i lt e (inr (x, f)) =
      let same : k ≡ i = one_number s k i is_end (subst (λ u. IsEnd u i) (is_it r.spots s j x lt f) e) in
      (omega (arith, same, f, lt, grown, count), omega (arith, same))

  ends_at : (j : ℕ) → j < k + 1 → (j < length r.spots) ⊎ ((x : ℕ) × (j ≡ length r.spots + x)) → (j < length (r.spots ++ s ∷ [])) × IsEnd (nth_spot (r.spots ++ s ∷ []) j) j
  ends_at j lt (inl front) =
      let old = read.numbered.ends j (omega (arith, front, count)) in
      (omega (arith, front, grown), subst (λ u. IsEnd u j) (sym (before_it r.spots s j front)) old.1)
  ends_at j lt (inr (x, e)) =
      let same : k ≡ j = omega (arith, lt, e, count) in
      let there : j < length (r.spots ++ s ∷ []) = omega (arith, lt, grown, count) in
      (omega (arith, lt, grown, count), subst (λ u. IsEnd u j) (sym (is_it r.spots s j x there e)) (subst (IsEnd s) same is_end))

  pub end_read : IsRead t b (k + 1) 0 and_end
  end_read = record {
    numbered = record {
      port = λ j a i p lt e. absurd (no_port j a i p lt e (front_or_back (length r.spots) j));
      end = λ j i lt e. end_at j i lt e (front_or_back (length r.spots) j);
      ports = λ a i lt le. absurd (let none = ap length no_agents in omega (arith, lt, none));
      ends = λ j lt. ends_at j lt (front_or_back (length r.spots) j);
      rise = λ a c less lt. absurd (let none = ap length no_agents in omega (arith, lt, none));
    };
    joints = wider_joints (length r.spots) _ r (omega (arith, grown)) read.joints;
    linked = linked_more t b r.spots (s ∷ []) r.joints read.joints read.linked;
    known = read.known;
    named_as = all_append _ r.spots (s ∷ []) all (named_end, tt);
    few_agents = read.few_agents;
    few_spots = omega (arith, grown, count);
  }

pub free_end_read : (t : Tables) (b : Body) (k : ℕ) (r : Reading) (f : SourceFree) → slice_get b.free k ≡ Some f → length r.spots ≡ k → r.agents ≡ [] → r.joints ≡ [] → IsRead t b k 0 r → IsRead t b (k + 1) 0 (reads_free_end k f r)
free_end_read t b k r f is count no_agents no_joints read =
    let at = name_there r.names f.name.text (number_in f.name.text r.names) refl in
    end_read t b k r count no_agents no_joints read (Free k (number_with r.names f.name.text)) refl (with_name r.names f.name.text) (all_still_named t b r.names f.name.text r.spots read.named_as)
    (record { end = f; declared = is; name = at.1; inside = at.0 })

pub boundary_end_read : (t : Tables) (b : Body) (k : ℕ) (r : Reading) → length r.spots ≡ k → r.agents ≡ [] → r.joints ≡ [] → IsRead t b k 0 r → IsRead t b (k + 1) 0 (record r { spots = r.spots ++ End k ∷ [] })
boundary_end_read t b k r count no_agents no_joints read = end_read t b k r count no_agents no_joints read (End k) refl r.names read.named_as tt
