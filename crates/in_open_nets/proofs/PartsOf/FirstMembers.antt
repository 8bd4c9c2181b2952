-- The members of a part are tried one after another.
use Rattle.std.proofs.Common.{◌≡◌, ◌<◌, ◌+◌, ℕ, Bool, List, length, get_or, subst, arith}
use Rattle.in_open_nets.specs.OpenNets.{OpenNet}
use Rattle.in_open_nets.specs.Members.{nodes_in}
use Rattle.in_open_nets.specs.Parts.{IsFirst, NoneSplits, SplitsIt}
use Rattle.in_open_nets.specs.Stuck.{IsListed}
use Rattle.in_open_nets.proofs.PartsOf.Members.{holds_all, holds_before, holds_next, next_in, past}
use Rattle.in_open_nets.proofs.Reached.Reaching.{in_length}

module _ (o : OpenNet) (part : List Bool) (ns : List ℕ) (l : IsListed (nodes_in part) ns) where
  abbrev NotSplit : ℕ → Type 0
  NotSplit m = SplitsIt o part m → ⊥

  pub next_small : length part ≡ length o.nodes → (i : ℕ) → i < length ns → get_or ns i 0 < length o.nodes
  next_small size i b = let a = in_length part (get_or ns i 0) (next_in (nodes_in part) ns l i b) in omega arith

  -- if no earlier node splits the part, and the next one does, it is the first
  pub first_next : (i : ℕ) → i < length ns → NoneSplits o part (past ns i) → SplitsIt o part (get_or ns i 0) → IsFirst o part (get_or ns i 0)
  first_next i b none s = record {
    here = s.0;
    splits = s.1;
    first = λ m here k g. holds_before (nodes_in part) ns l NotSplit (λ m out h. out h.0) i b none m k (here, g);
  }

  pub none_next : (i : ℕ) → i < length ns → NoneSplits o part (past ns i) → NotSplit (get_or ns i 0) → NoneSplits o part (past ns (i + 1))
  none_next i b none off = holds_next (nodes_in part) ns l NotSplit (λ m out h. out h.0) i b none off

  pub none_splits : (i : ℕ) → i ≡ length ns → NoneSplits o part (past ns i) → NoneSplits o part (length o.nodes)
  none_splits i e none m k = holds_all (nodes_in part) ns l NotSplit (λ m out h. out h.0) (let P : ℕ → Type 0 = λ z. NoneSplits o part (past ns z) in subst P e none) m
