-- The boundary ends of an interaction joined one after another, in place and in any order: the rest of the net and the right member are
-- side by side in one net, and each joint makes the partners of the two sides of a boundary end partners of one another. No path is
-- followed. Doing an interaction so is this project's own choice.
use Rattle.std.specs.Prelude.{◌≡◌, ◌≢◌, ◌⊎◌, ◌↔◌, ◌+◌, ◌-◌, ◌<◌, ℕ, zero, suc, Bool, true, false, cond, nat_lt, List, [], ◌∷◌, length, Some}
use Rattle.in_base.specs.Lists.{IsAmong}
use Rattle.in_interaction.specs.Pieces.{AreDifferent}
use Rattle.in_net.specs.Interactions.{Redex, IsStep}
use Rattle.in_net.specs.Nets.{Point, Port, Free, Signature, Net}
use Rattle.in_gluing.specs.AsGluing.{boundary_port, IsRestOf, two_parts, old_and_new, boundary, ends_from, CanStep}
use Rattle.in_gluing.specs.Joining.{IsJoinedBy, IsBeside, JoinsEnds, WiresLeadBack}

-- the free ends of the two parts side by side: the net's own keep their numbers, then come the outer sides of the boundary ends, and then
-- their inner sides
abbrev pub outer_end : Net ℕ → Redex ℕ ℕ → ℕ → ℕ
outer_end n x e = length n.free + e

abbrev pub inner_end : Net ℕ → Redex ℕ ℕ → ℕ → ℕ
inner_end n x e = length n.free + length x.member.free + e

-- .. by the part and the number in that part
abbrev pub end_number : Net ℕ → Redex ℕ ℕ → ℕ → ℕ → ℕ
end_number n x zero f = cond (nat_lt f (length x.member.free)) (outer_end n x f) (f - length x.member.free)
end_number n x (suc i) f = inner_end n x f

-- the rest and the right member side by side in one net, in which these boundary ends have been joined
pub record HasJoined (sig : Signature) (n : Net ℕ) (x : Redex ℕ ℕ) (name : ℕ → ℕ) (joined : ℕ → Bool) (m : Net ℕ) : Type 0 where
  pub rest : Net ℕ
  pub is_rest : IsRestOf sig n x rest
  pub within : (e : ℕ) → joined e ≡ true → e < length x.member.free
  pub joins : IsJoinedBy (two_parts rest x.member) (old_and_new name) (λ p. end_number n x p.0 p.1) (boundary n x joined) m
  pub leads_back : WiresLeadBack m

-- these boundary ends and this one
pub record IsOneEndMore (joined more : ℕ → Bool) (e : ℕ) : Type 0 where
  pub before : joined e ≡ false
  pub now : more e ≡ true
  pub others : (d : ℕ) → d ≢ e → more d ≡ joined d

-- the place of a point of the net, and of one of the right member, in the net in which they are side by side
abbrev pub IsOuterAt : Signature → Net ℕ → Redex ℕ ℕ → Point ℕ → Point ℕ → Type 0
IsOuterAt sig n x (Port y i) u = ((y ≢ x.one) × (y ≢ x.two) × (u ≡ Port y i)) ⊎ ((e : ℕ) × (e < length x.member.free) × (boundary_port sig x e ≡ Port y i) × (u ≡ Free (outer_end n x e)))
IsOuterAt sig n x (Free k) u = u ≡ Free k

abbrev pub IsInnerAt : Net ℕ → Redex ℕ ℕ → (ℕ → ℕ) → Point ℕ → Point ℕ → Type 0
IsInnerAt n x name (Port k i) u = u ≡ Port (name k) i
IsInnerAt n x name (Free e) u = u ≡ Free (inner_end n x e)

-- the pair is taken out of the net, and the right member is beside it: the wires are those of the net before, without the one between
-- the pair's principal ports, and those of the right member
pub record IsTakenApart (sig : Signature) (n : Net ℕ) (x : Redex ℕ ℕ) (name : ℕ → ℕ) (m : Net ℕ) : Type 0 where
  pub agents : (y s : ℕ) → (m.symbol y ≡ Some s) ↔ (((y ≢ x.one) × (y ≢ x.two) × (n.symbol y ≡ Some s)) ⊎ ((k : ℕ) × (name k ≡ y) × (x.member.symbol k ≡ Some s)))
  pub wires : (u v : Point ℕ) → (m.partner u ≡ Some v) ↔ (((p q : Point ℕ) × IsOuterAt sig n x p u × IsOuterAt sig n x q v × (n.partner p ≡ Some q))
      ⊎ ((p q : Point ℕ) × IsInnerAt n x name p u × IsInnerAt n x name q v × (x.member.partner p ≡ Some q)))

-- there is such a net
abbrev pub TakenApartExists : Type 0
TakenApartExists = (sig : Signature) (n : Net ℕ) (x : Redex ℕ ℕ) (name : ℕ → ℕ) → CanStep sig n x name → (m : Net ℕ) × IsTakenApart sig n x name m × (m.free ≡ n.free)

-- .. and in it no boundary end is joined
abbrev pub TakenApartHasJoinedNone : Type 0
TakenApartHasJoinedNone = (sig : Signature) (n : Net ℕ) (x : Redex ℕ ℕ) (name : ℕ → ℕ) (joined : ℕ → Bool) (m : Net ℕ) → CanStep sig n x name →
    ((e : ℕ) → joined e ≡ false) → IsTakenApart sig n x name m → HasJoined sig n x name joined m

-- none is joined either if the rest and the right member are side by side
abbrev pub BesideHasJoinedNone : Type 0
BesideHasJoinedNone = (sig : Signature) (n : Net ℕ) (x : Redex ℕ ℕ) (name : ℕ → ℕ) (joined : ℕ → Bool) (rest m : Net ℕ) →
    CanStep sig n x name → IsRestOf sig n x rest →
    ((e : ℕ) → joined e ≡ false) → IsBeside (two_parts rest x.member) (old_and_new name) (λ p. end_number n x p.0 p.1) m → HasJoined sig n x name joined m

-- one boundary end more is joined by making the partners of its two sides partners of one another
abbrev pub EndsAreJoinedInTurn : Type 0
EndsAreJoinedInTurn = (sig : Signature) (n : Net ℕ) (x : Redex ℕ ℕ) (name : ℕ → ℕ) (joined more : ℕ → Bool) (e : ℕ) (m w : Net ℕ) → CanStep sig n x name →
    e < length x.member.free → HasJoined sig n x name joined m → IsOneEndMore joined more e → JoinsEnds m (outer_end n x e) (inner_end n x e) w →
    HasJoined sig n x name more w

-- the boundary ends from one on are those from the next one on, and that one
abbrev pub EndsFromHaveOneMore : Type 0
EndsFromHaveOneMore = (x : Redex ℕ ℕ) (e : ℕ) → e < length x.member.free → IsOneEndMore (ends_from x (suc e)) (ends_from x e) e

-- .. from their number on there is none, and from 0 on there are all
abbrev pub EndsFromNoneToAll : Type 0
EndsFromNoneToAll = (x : Redex ℕ ℕ) → ((e : ℕ) → ends_from x (length x.member.free) e ≡ false) × ((e : ℕ) → e < length x.member.free → ends_from x 0 e ≡ true)

-- if all have been joined, in any order, the net is the one after the interaction
abbrev pub AllJoinedIsStep : Type 0
AllJoinedIsStep = (sig : Signature) (n : Net ℕ) (x : Redex ℕ ℕ) (name : ℕ → ℕ) (joined : ℕ → Bool) (m : Net ℕ) → CanStep sig n x name →
    HasJoined sig n x name joined m → ((e : ℕ) → e < length x.member.free → joined e ≡ true) → m.free ≡ n.free → IsStep sig n x name m

-- joined at these boundary ends, one after another
pub data JoinsInTurn (n : Net ℕ) (x : Redex ℕ ℕ) : List ℕ → Net ℕ → Net ℕ → Type 0 where
  no_end : (m : Net ℕ) → JoinsInTurn n x [] m m
  end_first : (e : ℕ) (es : List ℕ) (m k w : Net ℕ) → JoinsEnds m (outer_end n x e) (inner_end n x e) k → JoinsInTurn n x es k w → JoinsInTurn n x (e ∷ es) m w

-- these are the boundary ends, each once
pub record AreEnds (x : Redex ℕ ℕ) (es : List ℕ) : Type 0 where
  pub all : (e : ℕ) → (e < length x.member.free) ↔ IsAmong e es
  pub once : AreDifferent es

-- the net taken apart, joined at the boundary ends in any order, is the net after the interaction
abbrev pub AnyOrderIsStep : Type 0
AnyOrderIsStep = (sig : Signature) (n : Net ℕ) (x : Redex ℕ ℕ) (name : ℕ → ℕ) (es : List ℕ) (m w : Net ℕ) → CanStep sig n x name →
    IsTakenApart sig n x name m → AreEnds x es → JoinsInTurn n x es m w → w.free ≡ n.free → IsStep sig n x name w
