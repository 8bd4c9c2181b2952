-- The points of the spots that are joined, and their partners.
use Rattle.std.proofs.Common.{◌≡◌, ◌≢◌, ◌⊎◌, inl, inr, ℕ, zero, suc, ◌+◌, ◌<◌, ◌≤◌, List, [], ◌∷◌, length, Option, Some, None, slice_get, option_map, option_and_then, refl, sym, ◌∙◌, ap, subst, arith}
use Rattle.std.proofs.lemmas.Option.{slice_get-map, same_Some}
use Rattle.in_syntax.specs.declared.places.Place.{Place}
use Rattle.in_symbols.specs.Tables.{Tables, arity_of}
use Rattle.in_net.specs.declared.reading.TextSpot.{TextSpot}
use Rattle.in_net.specs.declared.reading.TextSpot.TheVariants as spot
use Rattle.in_net.specs.declared.reading.Agent.{Agent}
use Rattle.in_net.specs.declared.reading.Reading.{Reading}
use Rattle.in_net.specs.declared.joining.Link.{Link}
use Rattle.in_net.specs.declared.nets.AgentNo.{AgentNo}
use Rattle.in_net.specs.declared.nets.Point.{Point}
use Rattle.in_net.specs.declared.nets.Point.TheVariants.{Port, Free}
use Rattle.in_net.specs.declared.nets.Cell.{Cell}
use Rattle.in_net.specs.declared.nets.FreeEnd.{FreeEnd}
use Rattle.in_net.specs.declared.nets.Wire.{Wire}
use Rattle.in_net.specs.Building.{nth_spot, nth_link, nth_agent, IsPointSpot, point_in, IsJoined, partner_of, ends_from, cell_of, cells_of}
use Rattle.in_net.specs.Built.{IsEnd, IsNumbered, AreJoinedTo}
use Rattle.in_net.specs.Parts.{Parts, as_built, cell_in, partner_in}

-- the point is at the spot of that number
pub record Stands (spots : List TextSpot) (p : Point) (k : ℕ) : Type 0 where
  pub inside : k < length spots
  pub point : IsPointSpot (nth_spot spots k)
  pub is : point_in (nth_spot spots k) ≡ p

is_point_or_not : (s : TextSpot) → IsPointSpot s ⊎ (IsPointSpot s → ⊥)
is_point_or_not (spot.Port a i p) = inl tt
is_point_or_not (spot.Free k m) = inl tt
is_point_or_not (spot.End k) = inl tt
is_point_or_not (spot.Occurrence m p) = inr (λ x. x)

module _ (spots : List TextSpot) (links : List Link) (joined : IsJoined spots links) where
  -- a point is joined to a point
  pub point_to : (i : ℕ) → i < length spots → IsPointSpot (nth_spot spots i) → IsPointSpot (nth_spot spots (nth_link links i).to)
  point_to i lt h = either (is_point_or_not (nth_spot spots (nth_link links i).to))
    where
      either : IsPointSpot (nth_spot spots (nth_link links i).to) ⊎ (IsPointSpot (nth_spot spots (nth_link links i).to) → ⊥) → IsPointSpot (nth_spot spots (nth_link links i).to)
      either (inl x) = x
      either (inr x) =
          let self = joined.alone (nth_link links i).to (joined.inside i lt) x in
          absurd (joined.apart i lt h (sym self ∙ ap (λ (l : Link). l.to) (joined.back i lt)))

  -- the partner is at the spot that a point's spot is joined to, and so back
  pub partner_stands : (p : Point) (k : ℕ) → Stands spots p k → Stands spots (partner_of spots links k) (nth_link links k).to
  partner_stands p k h = record { inside = joined.inside k h.inside; point = point_to k h.inside h.point; is = refl }

  pub partner_back : (p : Point) (k : ℕ) → Stands spots p k → partner_of spots links (nth_link links k).to ≡ p
  partner_back p k h = ap (λ (l : Link). point_in (nth_spot spots l.to)) (joined.back k h.inside) ∙ h.is

  -- a spot that is joined to a later one is a point's
  pub point_here : (i : ℕ) → i < length spots → (nth_link links i).to ≢ i → IsPointSpot (nth_spot spots i)
  point_here i lt apart = either (is_point_or_not (nth_spot spots i))
    where
      either : IsPointSpot (nth_spot spots i) ⊎ (IsPointSpot (nth_spot spots i) → ⊥) → IsPointSpot (nth_spot spots i)
      either (inl x) = x
      either (inr x) = absurd (apart (joined.alone i lt x))

nth_end : (spots : List TextSpot) (links : List Link) (first n i : ℕ) → i < n → slice_get (ends_from spots links first n) i ≡ Some (partner_of spots links (first + i))
nth_end spots links first zero i lt = absurd (omega (arith, lt))
nth_end spots links first (suc n) zero lt = let e : first ≡ first + 0 = omega arith in ap (λ k. Some (partner_of spots links k)) e
nth_end spots links first (suc n) (suc i) lt = let e : first + 1 + i ≡ first + suc i = omega arith in nth_end spots links (first + 1) n i (omega (arith, lt)) ∙ ap (λ k. Some (partner_of spots links k)) e

no_end : (spots : List TextSpot) (links : List Link) (first n i : ℕ) (q : Point) → slice_get (ends_from spots links first n) i ≡ Some q → i < n
no_end spots links first zero i q e = cc
no_end spots links first (suc n) zero q e = omega arith
no_end spots links first (suc n) (suc i) q e = let less = no_end spots links (first + 1) n i q e in omega (arith, less)

nth_cell : (t : Tables) (spots : List TextSpot) (links : List Link) (agents : List Agent) (a : ℕ) → a < length agents → slice_get (cells_of t spots links agents) a ≡ Some (Some (cell_of t spots links (nth_agent agents a)))
nth_cell t spots links [] a lt = absurd (omega (arith, lt))
nth_cell t spots links (x ∷ agents) zero lt = refl
nth_cell t spots links (x ∷ agents) (suc a) lt = nth_cell t spots links agents a (omega (arith, lt))

no_cell : (t : Tables) (spots : List TextSpot) (links : List Link) (agents : List Agent) (a : ℕ) (c : Cell) → option_and_then (λ c. c) (slice_get (cells_of t spots links agents) a) ≡ Some c → a < length agents
no_cell t spots links [] a c e = cc
no_cell t spots links (x ∷ agents) zero c e = omega arith
no_cell t spots links (x ∷ agents) (suc a) c e = let less = no_cell t spots links agents a c e in omega (arith, less)

nth_free : (spots : List TextSpot) (links : List Link) (free : List FreeEnd) → AreJoinedTo spots links free → (k : ℕ) → k < length free → option_map (λ (f : FreeEnd). f.end) (slice_get free k) ≡ Some (partner_of spots links k)
nth_free spots links free same k lt =
    let zero_on : 0 + k ≡ k = omega arith in
    sym (slice_get-map (λ (f : FreeEnd). f.end) free k) ∙ ap (λ z. slice_get z k) same ∙ nth_end spots links 0 (length free) k lt ∙ ap (λ k. Some (partner_of spots links k)) zero_on

no_free : (free : List FreeEnd) (k : ℕ) (q : Point) → option_map (λ (f : FreeEnd). f.end) (slice_get free k) ≡ Some q → k < length free
no_free [] k q e = cc
no_free (f ∷ fs) zero q e = omega arith
no_free (f ∷ fs) (suc k) q e = let less = no_free fs k q e in omega (arith, less)

abbrev agent_no : ℕ → AgentNo
agent_no a = record { 0 = a }

-- the net of a reading and its links
module _ (t : Tables) (free : List FreeEnd) (r : Reading) (links : List Link) (numbered : IsNumbered t (length free) r) (joined : IsJoined r.spots links) (ends : AreJoinedTo r.spots links free) (wires : List Wire) (places : List Place) where
  abbrev net : Parts
  net = as_built (cells_of t r.spots links r.agents) free wires places

  cell_here : (a : ℕ) → a < length r.agents → cell_in net a ≡ Some (cell_of t r.spots links (nth_agent r.agents a))
  cell_here a lt = ap (option_and_then {T = Option Cell} {U = Cell} (λ c. c)) (nth_cell t r.spots links r.agents a lt)

  -- one spot of a point
  pub only_one : (p : Point) (k l : ℕ) → Stands r.spots p k → Stands r.spots p l → k ≡ l
  only_one p k l h g = by_spots (nth_spot r.spots k) (nth_spot r.spots l) refl refl h.point g.point (h.is ∙ sym g.is)
    where
      one_end : (a c : ℕ) → IsEnd (nth_spot r.spots k) a → IsEnd (nth_spot r.spots l) c → a ≡ c → k ≡ l
      one_end a c x y same = let one = numbered.end k a h.inside x in let other = numbered.end l c g.inside y in omega (arith, one.0, other.0, same)

      by_spots : (s u : TextSpot) → nth_spot r.spots k ≡ s → nth_spot r.spots l ≡ u → IsPointSpot s → IsPointSpot u → point_in s ≡ point_in u → k ≡ l
      by_spots (spot.Port a i x) (spot.Port c j y) e f m n same =
          let one = numbered.port k a i x h.inside e in
          let other = numbered.port l c j y g.inside f in
          let number : agent_no a ≡ agent_no c = cc in
          let agent : a ≡ c = ap (λ (n : AgentNo). n.0) number in
          let place : i ≡ j = cc in
          sym one.number ∙ ap (λ z. (nth_agent r.agents z).first + i) agent ∙ ap (λ z. (nth_agent r.agents c).first + z) place ∙ other.number
      by_spots (spot.Port a i x) (spot.Free c j) e f m n same = cc
      by_spots (spot.Port a i x) (spot.End c) e f m n same = cc
      by_spots (spot.Port a i x) (spot.Occurrence c y) e f m n same = absurd n
      by_spots (spot.Free a i) (spot.Port c j y) e f m n same = cc
      by_spots (spot.Free a i) (spot.Free c j) e f m n same = let number : a ≡ c = cc in one_end a c (subst (λ s. IsEnd s a) (sym e) refl) (subst (λ s. IsEnd s c) (sym f) refl) number
      by_spots (spot.Free a i) (spot.End c) e f m n same = let number : a ≡ c = cc in one_end a c (subst (λ s. IsEnd s a) (sym e) refl) (subst (λ s. IsEnd s c) (sym f) refl) number
      by_spots (spot.Free a i) (spot.Occurrence c y) e f m n same = absurd n
      by_spots (spot.End a) (spot.Port c j y) e f m n same = cc
      by_spots (spot.End a) (spot.Free c j) e f m n same = let number : a ≡ c = cc in one_end a c (subst (λ s. IsEnd s a) (sym e) refl) (subst (λ s. IsEnd s c) (sym f) refl) number
      by_spots (spot.End a) (spot.End c) e f m n same = let number : a ≡ c = cc in one_end a c (subst (λ s. IsEnd s a) (sym e) refl) (subst (λ s. IsEnd s c) (sym f) refl) number
      by_spots (spot.End a) (spot.Occurrence c y) e f m n same = absurd n
      by_spots (spot.Occurrence a x) u e f m n same = absurd m

  -- the partner of a point that is there
  pub partner_at : (p : Point) (k : ℕ) → Stands r.spots p k → partner_in net p ≡ Some (partner_of r.spots links k)
  partner_at p k h = subst (λ p. partner_in net p ≡ Some (partner_of r.spots links k)) h.is (by_spot (nth_spot r.spots k) refl h.point)
    where
      at_end : (j : ℕ) → IsEnd (nth_spot r.spots k) j → partner_in net (Free j) ≡ Some (partner_of r.spots links k)
      at_end j e = let end = numbered.end k j h.inside e in nth_free r.spots links free ends j end.1 ∙ ap (λ z. Some (partner_of r.spots links z)) end.0

      by_spot : (s : TextSpot) → nth_spot r.spots k ≡ s → IsPointSpot s → partner_in net (point_in s) ≡ Some (partner_of r.spots links k)
      by_spot (spot.Port a i x) e m =
          let port = numbered.port k a i x h.inside e in
          ap (option_and_then {T = Cell} {U = Point} (λ c. slice_get c.ends i)) (cell_here a port.agent)
          ∙ nth_end r.spots links (nth_agent r.agents a).first (arity_of t (nth_agent r.agents a).symbol.0 + 1) i (let le = port.place in omega (arith, le))
          ∙ ap (λ z. Some (partner_of r.spots links z)) port.number
      by_spot (spot.Free j m_) e m = at_end j (subst (λ s. IsEnd s j) (sym e) refl)
      by_spot (spot.End j) e m = at_end j (subst (λ s. IsEnd s j) (sym e) refl)
      by_spot (spot.Occurrence m_ x) e m = absurd m

  -- each point of the net has a spot
  pub stands_at : (p q : Point) → partner_in net p ≡ Some q → (k : ℕ) × Stands r.spots p k × (q ≡ partner_of r.spots links k)
  stands_at (Port a i) q e =
      let lt = agent_in (cell_in net a.0) refl e in
      let here : slice_get (ends_from r.spots links (nth_agent r.agents a.0).first (arity_of t (nth_agent r.agents a.0).symbol.0 + 1)) i ≡ Some q = sym (ap (option_and_then {T = Cell} {U = Point} (λ c. slice_get c.ends i)) (cell_here a.0 lt)) ∙ e in
      let le : i ≤ arity_of t (nth_agent r.agents a.0).symbol.0 = let less = no_end r.spots links (nth_agent r.agents a.0).first (arity_of t (nth_agent r.agents a.0).symbol.0 + 1) i q here in omega (arith, less) in
      let port = numbered.ports a.0 i lt le in
      let k : ℕ = (nth_agent r.agents a.0).first + i in
      let stands : Stands r.spots (Port a i) ((nth_agent r.agents a.0).first + i) = record { inside = port.0; point = subst IsPointSpot (sym port.1) tt; is = ap point_in port.1 } in
      (k, stands, same_Some q (partner_of r.spots links k) (sym e ∙ partner_at (Port a i) k stands))
    where
      agent_in : (o : Option Cell) → cell_in net a.0 ≡ o → partner_in net (Port a i) ≡ Some q → a.0 < length r.agents
      agent_in None is e = absurd (let wrong : None ≡ Some q = sym (ap (option_and_then {T = Cell} {U = Point} (λ c. slice_get c.ends i)) is) ∙ e in cc)
      agent_in (Some c) is e = no_cell t r.spots links r.agents a.0 c is
  stands_at (Free k) q e =
      let lt = no_free free k q e in
      let end = numbered.ends k lt in
      let stands : Stands r.spots (Free k) k = by_end k (nth_spot r.spots k) end.0 refl end.1 in
      (k, stands, same_Some q (partner_of r.spots links k) (sym e ∙ partner_at (Free k) k stands))
    where
      by_end : (k : ℕ) (s : TextSpot) → k < length r.spots → nth_spot r.spots k ≡ s → IsEnd s k → Stands r.spots (Free k) k
      by_end k (spot.Port a i p) lt is h = absurd h
      by_end k (spot.Free j m) lt is h = record { inside = lt; point = subst IsPointSpot (sym is) tt; is = ap point_in is ∙ ap Free h }
      by_end k (spot.End j) lt is h = record { inside = lt; point = subst IsPointSpot (sym is) tt; is = ap point_in is ∙ ap Free h }
      by_end k (spot.Occurrence m p) lt is h = absurd h

  pub leads_back : (p q : Point) → partner_in net p ≡ Some q → partner_in net q ≡ Some p
  leads_back p q e =
      let at = stands_at p q e in
      let there = partner_stands r.spots links joined p at.0 at.1 in
      subst (λ x. partner_in net x ≡ Some p) (sym at.2) (partner_at (partner_of r.spots links at.0) (nth_link links at.0).to there ∙ ap Some (partner_back r.spots links joined p at.0 at.1))

  pub never_itself : (p : Point) → partner_in net p ≢ Some p
  never_itself p e =
      let at = stands_at p p e in
      let there : Stands r.spots p (nth_link links at.0).to = subst (λ x. Stands r.spots x (nth_link links at.0).to) (sym at.2) (partner_stands r.spots links joined p at.0 at.1) in
      joined.apart at.0 at.1.inside at.1.point (only_one p (nth_link links at.0).to at.0 there at.1)
