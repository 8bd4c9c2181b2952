-- The end that an accepted program reaches, for any order of its interactions: after how many interactions, and with which text.
-- The text is this project's own choice.
use Rattle.std.specs.Prelude.{◌≡◌, ℕ, nat_eq, List, [], length, unwrap_or}
use Rattle.in_symbols.specs.Names.{name_in}
use Rattle.in_net.specs.Nets.{Net, signature_of}
use Rattle.in_net.specs.Parts.{free_name_in}
use Rattle.in_check.specs.Checking.{IsAccepted}
use Rattle.in_check.specs.NetText.{Words, text, AreAgents}
use Rattle.in_check.specs.Programs.{Program}
use Rattle.in_check.specs.Runs.{Reached, HasEnded}
use Rattle.in_check.specs.Systems.{system_of}
use Rattle.in_syntax.specs.declared.text_limits.TextLimits.{TextLimits}

-- the names of a program's symbols and of its net's free ends
abbrev pub words_in : Program → Words
words_in p = record { symbol = λ s. name_in s p.tables.names; free = λ k. unwrap_or (free_name_in p.net k) [] }

-- some run of the program, its interactions in any order and its agents under any names, ends after k interactions, in a net
-- without active pairs that has this text
pub record Ends (p : Program) (k : ℕ) (written : List ℕ) : Type 0 where
  pub net : Net ℕ
  pub reached : Reached (system_of p) k net
  pub ended : HasEnded net
  pub agents : List ℕ
  pub are_agents : AreAgents net agents
  pub is_text : written ≡ text (signature_of p.tables) (words_in p) nat_eq net (length agents) []

-- some run ends so, and every other run that ends does
abbrev pub EndsOnce : Program → ℕ → List ℕ → Type 0
EndsOnce p k written = Ends p k written × ((j : ℕ) (other : List ℕ) → Ends p j other → (k ≡ j) × (written ≡ other))

-- an accepted program has one end, if it has any
abbrev pub ProgramsHaveOneEnd : Type 0
ProgramsHaveOneEnd = (limits : TextLimits) (input : List ℕ) (p : Program) → IsAccepted limits input p → (k : ℕ) (written : List ℕ) → Ends p k written → EndsOnce p k written
