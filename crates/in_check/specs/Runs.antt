-- The nets that a program reaches: after any number of interactions, the agents under any names. Lafont 1990 reduces a net by interactions,
-- one active pair after another, and takes nets up to the names of their agents.
use Rattle.std.specs.Prelude.{◌≡◌, ◌≢◌, ℕ, zero, suc, Some, slice_get}
use Rattle.in_net.specs.Interactions.{Redex, IsStep}
use Rattle.in_net.specs.Nets.{Port, Net}
pub use Rattle.in_net.specs.Renaming.{renamed, IsRenamed}
use Rattle.in_check.specs.Systems.{System, SystemRule}

-- an active pair under other names, with the same rule
abbrev pub moved : {A B C : Type 0} → (A → B) → Redex A C → Redex B C
moved f x = record { one = f x.one; two = f x.two; first = x.first; second = x.second; member = x.member }

abbrev pub rule_of : {A : Type 0} → Redex A ℕ → SystemRule
rule_of x = record { first = x.first; second = x.second; member = x.member }

-- an active pair, and a rule of its two symbols
pub record IsPairWithRule {A : Type 0} (p : System) (n : Net A) (x : Redex A ℕ) : Type 0 where
  pub one : n.symbol x.one ≡ Some x.first
  pub two : n.symbol x.two ≡ Some x.second
  pub active : n.partner (Port x.one 0) ≡ Some (Port x.two 0)
  pub rule : (i : ℕ) × (slice_get p.rules i ≡ Some (rule_of x))

-- the net after an interaction there, the new agents under any names that are new
pub record IsInteraction {A : Type 0} (p : System) (n : Net A) (x : Redex A ℕ) (name : ℕ → A) (after : Net A) : Type 0 where
  pub at : IsPairWithRule p n x
  pub step : IsStep p.symbols n x name after

-- the net is after a run of a given number of interactions
pub data Reached {A : Type 0} (p : System) : ℕ → Net A → Type 0 where
  at_start : (f : ℕ → A) (n : Net A) → IsRenamed f p.start n → Reached p zero n
  then_step : (k : ℕ) (n : Net A) (x : Redex A ℕ) (name : ℕ → A) (after : Net A) → Reached p k n → IsInteraction p n x name after → Reached p (suc k) after
  then_renamed : (k : ℕ) (n : Net A) (f : A → A) (m : Net A) → Reached p k n → IsRenamed f n m → Reached p k m

-- the run has ended: no two principal ports are one wire
pub record HasEnded {A : Type 0} (n : Net A) : Type 0 where
  pub no_pair : (x y : A) → n.partner (Port x 0) ≢ Some (Port y 0)
