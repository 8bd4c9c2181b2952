-- Pairs to which no wire leads back: the premise of an interaction in place, by the pair's symbols alone.
use Rattle.std.specs.Prelude.{ℕ}
use Rattle.in_net.specs.declared.nets.AgentNo.{AgentNo}
use Rattle.in_net.specs.Interactions.{Redex, IsRedex, redex_at}
use Rattle.in_net.specs.Nets.{Net, net_of, signature_of}
use Rattle.in_net.specs.Rules.{RuleParts}
use Rattle.in_check.specs.Plain.{IsPairAt, IsRuleAt}
use Rattle.in_check.specs.Systems.{System, IsSound, IsSoundSystem}
use Rattle.in_overwriting.specs.Flag.{IsMarkedSymbol}
use Rattle.in_overwriting.specs.Overwriting.{NoneLeadsBack}
use Rattle.in_reducer.specs.Machines.{MachineParts, parts_of, plain_of}
use Rattle.in_reducer.specs.Reducers.{IsReducer}

-- in a sound net of a sound system no wire leads back to a pair without a marked symbol
abbrev pub UnmarkedPairsOfSoundNetsAreApart : Type 0
UnmarkedPairsOfSoundNetsAreApart = (p : System) (n : Net ℕ) (x : Redex ℕ ℕ) → IsSoundSystem p → IsSound p n → IsRedex p.symbols n x →
    (IsMarkedSymbol p.symbols x.first → ⊥) → (IsMarkedSymbol p.symbols x.second → ⊥) → NoneLeadsBack n x

-- so none leads back to such a pair of a reducer
abbrev pub UnmarkedLeadNoneBack : Type 0
UnmarkedLeadNoneBack = (m : MachineParts) (a b : AgentNo) (k : ℕ) (r : RuleParts) → IsReducer m → IsPairAt (plain_of m) a b → IsRuleAt (plain_of m) a b k r →
    (IsMarkedSymbol (signature_of m.program.tables) r.heads.0.0 → ⊥) → (IsMarkedSymbol (signature_of m.program.tables) r.heads.1.0 → ⊥) → NoneLeadsBack (net_of (parts_of m)) (redex_at r a.0 b.0)
