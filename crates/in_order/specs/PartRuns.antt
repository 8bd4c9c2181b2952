-- Runs of the parts, each by itself, and the parts of a sound net.
use Rattle.std.specs.Prelude.{◌≡◌, ◌+◌, ℕ, zero, suc, Some}
use Rattle.in_symbols.specs.declared.symbols.PortType.{PortType}
use Rattle.in_net.specs.Interactions.{Redex}
use Rattle.in_net.specs.Nets.{Point, Signature, Net}
use Rattle.in_typing.specs.Typed.{opposite}
use Rattle.in_typing.specs.TypedNets.{type_in}
use Rattle.in_check.specs.Runs.{IsInteraction, Reached}
use Rattle.in_check.specs.Systems.{System}
use Rattle.in_gluing.specs.Gluing.{Cuts, IsJointEndAt}

-- a given number of interactions lead from one net to the other; the new agents' names are new at each
pub data Run (p : System) : ℕ → Net ℕ → Net ℕ → Type 0 where
  none : (n : Net ℕ) → Run p zero n n
  one_more : (k : ℕ) (n m : Net ℕ) (x : Redex ℕ ℕ) (name : ℕ → ℕ) (after : Net ℕ) → Run p k n m → IsInteraction p m x name after → Run p (suc k) n after

-- the sum of a given number of counts, from the first one on
abbrev pub total : (ℕ → ℕ) → ℕ → ℕ
total counts zero = 0
total counts (suc w) = total counts w + counts w

-- a wire at a joined free end has one type throughout: the declared type there is that of the wire's other point
abbrev pub AreTypedAtCuts : Signature → (ℕ → Net ℕ) → Cuts → Type 0
AreTypedAtCuts sig parts cuts = (i : ℕ) (p q : Point ℕ) (s t : PortType) →
    IsJointEndAt cuts i p → (parts i).partner p ≡ Some q → type_in sig (parts i) p ≡ Some s → type_in sig (parts i) q ≡ Some t → t ≡ opposite s

-- a run continues where another one ended, and leads from a reached net to a reached net
abbrev pub RunsGoOn : Type 0
RunsGoOn = (p : System) (j k : ℕ) (l n m : Net ℕ) → Run p j l n → Run p k n m → Run p (k + j) l m

abbrev pub RunsLeadOn : Type 0
RunsLeadOn = (p : System) (k j : ℕ) (n m : Net ℕ) → Reached p k n → Run p j n m → Reached p (k + j) m
