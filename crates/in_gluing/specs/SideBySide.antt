-- Nets side by side.
use Rattle.std.specs.Prelude.{◌≡◌, ◌<◌, ℕ, List, length, map, Some, IsSome, slice_get}
use Rattle.in_base.specs.Lists.{IsAmong}
use Rattle.in_net.specs.Nets.{Point, Port, Free, Signature, Net, IsNet}
use Rattle.in_net.specs.Renaming.{IsRenamed}
use Rattle.in_gluing.specs.AsGluing.{old_and_new, two_parts}
use Rattle.in_gluing.specs.Joining.{IsBeside, WiresLeadBack}
use Rattle.in_gluing.specs.Laws.{KeepsApart}

-- the net is the other two side by side: agents of the first keep their names, those of the second have these, and the free ends are these
-- of the first (0) and the second (1), each once
pub record StandBeside (one two : Net ℕ) (name : ℕ → ℕ) (ends : List (ℕ × ℕ)) (m : Net ℕ) : Type 0 where
  pub number : ℕ × ℕ → ℕ
  pub beside : IsBeside (two_parts one two) (old_and_new name) number m
  pub numbered : (k : ℕ) (p : ℕ × ℕ) → slice_get ends k ≡ Some p → number p ≡ k
  pub all : (i e : ℕ) → e < length (two_parts one two i).free → slice_get ends (number (i, e)) ≡ Some (i, e)
  pub free : map (λ t. Some t) m.free ≡ map (λ p. slice_get (two_parts one two p.0).free p.1) ends
  pub apart : KeepsApart (two_parts one two) (old_and_new name)

-- the point is a place of an agent that is there, or a free end that is there
abbrev pub IsThere : Net ℕ → Point ℕ → Type 0
IsThere m (Port x i) = IsSome (m.symbol x)
IsThere m (Free k) = k < length m.free

-- finitely many agents, and wires that lead from points that are there, and back: it is a net, except that a point may be in no wire, and a place
-- may be one that its agent's symbol doesn't have
pub record IsWiredWithin (m : Net ℕ) : Type 0 where
  pub agents : List ℕ
  pub all : (x : ℕ) → IsSome (m.symbol x) → IsAmong x agents
  pub there : (u v : Point ℕ) → m.partner u ≡ Some v → IsThere m u
  pub back : WiresLeadBack m

-- nets side by side in a net are nets
abbrev pub BesidePartsAreNets : Type 0
BesidePartsAreNets = (sig : Signature) (one two n : Net ℕ) (name : ℕ → ℕ) (ends : List (ℕ × ℕ)) → IsNet sig n → IsWiredWithin one → IsWiredWithin two →
    StandBeside one two name ends n → IsNet sig one × IsNet sig two

-- the symbols of the first part determine which nets are side by side in a net, except for the numbers that agents of the second have in
-- it
abbrev pub BesidePartsAreAlike : Type 0
BesidePartsAreAlike = (one two one_too two_too n : Net ℕ) (name name_too : ℕ → ℕ) (ends : List (ℕ × ℕ)) →
    IsWiredWithin one → IsWiredWithin two → IsWiredWithin one_too → IsWiredWithin two_too →
    StandBeside one two name ends n → StandBeside one_too two_too name_too ends n → ((y : ℕ) → one.symbol y ≡ one_too.symbol y) →
    IsRenamed (λ y. y) one one_too × (f : ℕ → ℕ) × IsRenamed f two two_too

-- two nets are side by side in one net, up to the names of its agents
abbrev pub BesideIsOne : Type 0
BesideIsOne = (one two n n_too : Net ℕ) (name name_too : ℕ → ℕ) (ends : List (ℕ × ℕ)) → IsWiredWithin one → IsWiredWithin two →
    StandBeside one two name ends n → StandBeside one two name_too ends n_too → (f : ℕ → ℕ) × IsRenamed f n n_too
