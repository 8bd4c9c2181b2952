-- A right member without a fault has few agents.
use Rattle.std.proofs.Common.{◌≡◌, ◌⊎◌, inl, inr, ◌<◌, ◌≤◌, ℕ, suc, Option, Some, None, List, [], ◌∷◌, length, refl, ap, arith}
use Rattle.std.proofs.lemmas.Bool.{cases_lt}
use Rattle.in_syntax.specs.declared.faults.Code.TheVariants.{E03}
use Rattle.in_symbols.specs.Tables.{Tables}
use Rattle.in_net.specs.NetFaults.{HasNoNetFault, too_many}
use Rattle.in_net.specs.TextNet.{Body, Written, AreCellsFor, agents_of_body}
use Rattle.in_net.specs.declared.nets.Cell.{Cell}
use Rattle.in_base.proofs.Each.{at_index}

as_many : (t : Tables) (ws : List Written) (cs : List (Option Cell)) → AreCellsFor t ws cs → length cs ≡ length ws
as_many t [] [] h = refl
as_many t [] (c ∷ cs) h = absurd h
as_many t (w ∷ ws) [] h = absurd h
as_many t (w ∷ ws) (None ∷ cs) h = absurd h
as_many t (w ∷ ws) (Some c ∷ cs) h = ap suc (as_many t ws cs h.1)

pub few_agents : (most : ℕ) (t : Tables) (b : Body) (cs : List (Option Cell)) → HasNoNetFault most t b → AreCellsFor t (agents_of_body t b) cs → length cs ≤ most
few_agents most t b cs clear are = go (cases_lt most (length (agents_of_body t b)))
  where
    go : (most < length (agents_of_body t b)) ⊎ (length (agents_of_body t b) ≤ most) → length cs ≤ most
    go (inl l) = let w = at_index (agents_of_body t b) most l in absurd (clear E03 w.0.place (too_many w.0.place (w.0, w.1, refl)))
    go (inr l) = let n = as_many t (agents_of_body t b) cs are in omega (arith, n, l)
