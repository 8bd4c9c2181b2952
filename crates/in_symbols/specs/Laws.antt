-- Laws over the definitions of tables and of matching symbols.
use Rattle.std.specs.Prelude.{◌≡◌, ◌↔◌, ℕ, true, not}
use Rattle.in_syntax.specs.declared.tree.Source.{Source}
use Rattle.in_syntax.specs.Answers.{IsOne}
use Rattle.in_syntax.specs.Parsing.{IsOfText}
use Rattle.in_symbols.specs.Tables.{Tables, Tabulates, port_at, is_constructor, matching}

abbrev pub MatchingIsSymmetric : Type 0
MatchingIsSymmetric = (t : Tables) (c d : ℕ) → matching t c d ≡ matching t d c

-- two symbols match exactly when their principal types have one name and opposite signs
abbrev pub MatchingTypesAreOpposite : Type 0
MatchingTypesAreOpposite = (t : Tables) (c d : ℕ) → (matching t c d ≡ true) ↔ (((port_at t c 0).kind ≡ (port_at t d 0).kind) × (is_constructor t c ≡ not (is_constructor t d)))

-- all results that building the tables of a text's program may have agree
abbrev pub TablesAreOnce : Type 0
TablesAreOnce = (s : Source) → IsOfText s → IsOne (Tabulates s)
