-- The new pairs by numbers: those over boundary ends, and then the right member's own under their new names.
use Rattle.std.proofs.Common.{◌≡◌, ℕ, List, [], ◌∷◌, ◌++◌, map, refl, ap, ◌∙◌}
use Rattle.std.proofs.lemmas.List.{map-append}
use Rattle.in_symbols.specs.Tables.{Tables}
use Rattle.in_net.specs.declared.nets.AgentNo.{AgentNo}
use Rattle.in_net.specs.Parts.{Parts}
use Rattle.in_net.specs.Rules.{RuleParts}
use Rattle.in_interaction.specs.Made.{AreMade}
use Rattle.in_interaction.specs.Queues.{agents_at, both, numbers_of}

own_numbers : (name : ℕ → ℕ) (own : List (ℕ × ℕ)) → map numbers_of (map (λ q. agents_at (both name q)) own) ≡ map (both name) own
own_numbers name [] = refl
own_numbers name (q ∷ qs) = ap (λ (z : List (ℕ × ℕ)). both name q ∷ z) (own_numbers name qs)

pub made_numbers : (t : Tables) (n : Parts) (r : RuleParts) (a b : AgentNo) (name : ℕ → ℕ) (made : List (AgentNo × AgentNo)) (h : AreMade t n r a b name made) → map numbers_of made ≡ map numbers_of h.over ++ map (both name) h.own
made_numbers t n r a b name made h =
    ap (map numbers_of) h.listed ∙ map-append numbers_of h.over (map (λ q. agents_at (both name q)) h.own)
    ∙ ap (λ (z : List (ℕ × ℕ)). map numbers_of h.over ++ z) (own_numbers name h.own)
