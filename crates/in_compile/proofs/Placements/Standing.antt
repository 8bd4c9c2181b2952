-- A placed member that is settled is in the arena.
use Rattle.std.proofs.Common.{◌≡◌, ℕ, Option, Some, None, slice_get, refl, sym, ap, ◌∙◌}
use Rattle.std.specs.Prelude.{option_map, option_and_then, slice_index_or}
use Rattle.std.proofs.lemmas.Option.{same_Some, slice_get-map, slice_get_within, slice_get-get_or}
use Rattle.in_arena.specs.Arenas.{ArenaView, state_at}
use Rattle.in_arena.specs.States.{State, word_of, end_at}
use Rattle.in_arena.specs.declared.content.CellNo.{CellNo}
use Rattle.in_arena.specs.declared.content.End.TheVariants.{Cell}
use Rattle.in_syntax.specs.declared.symbol_no.SymbolNo.{SymbolNo}
use Rattle.in_compile.specs.declared.joints.Joint.{Joint}
use Rattle.in_compile.specs.declared.joints.Joint.TheVariants.{ToAgent, ToBoundary}
use Rattle.in_compile.specs.Members.{AgentParts, MemberParts}
use Rattle.in_compile.specs.Placing.{PlacedParts, IsPlacedMember, end_in, content}
use Rattle.in_compile.specs.PlacingLaws.{StandsInCells}
use Rattle.in_compile.specs.Stocks.{Regains}

module _ (m : MemberParts) (p : PlacedParts) (a a' : ArenaView) (h : IsPlacedMember m p) (back : Regains (λ x. x) a p.bag a') where
  -- each cell is as it was written
  written : (k : ℕ) (e : AgentParts) (n : CellNo) → slice_get m.agents k ≡ Some e → slice_get p.cells k ≡ Some n → state_at a' n.0 ≡ content p.cells e
  written k e n stands at = back.back n.0 (h.written.cells.each k n at) ∙ (h.each k e n stands at).1

  by_symbol : (k : ℕ) (s : SymbolNo) (n : CellNo) (o : Option AgentParts) → slice_get m.agents k ≡ o → option_map (λ (e : AgentParts). e.symbol) o ≡ Some s → slice_get p.cells k ≡ Some n → word_of (state_at a' n.0) ≡ Some s.0
  by_symbol k s n None stands is at = let f : None ≡ Some s = is in cc
  by_symbol k s n (Some e) stands is at = ap word_of (written k e n stands at) ∙ ap (λ (z : SymbolNo). Some z.0) (same_Some e.symbol s is)

  by_joint : (k i : ℕ) (j : Joint) (n : CellNo) (o : Option AgentParts) → slice_get m.agents k ≡ o → option_and_then (λ (e : AgentParts). slice_get e.ends i) o ≡ Some j → slice_get p.cells k ≡ Some n → end_at (state_at a' n.0) i ≡ Some (end_in p.cells j)
  by_joint k i j n None stands is at = let f : None ≡ Some j = is in cc
  by_joint k i j n (Some e) stands is at = ap (λ (x : State). end_at x i) (written k e n stands at) ∙ slice_get-map (end_in p.cells) e.ends i ∙ ap (option_map (end_in p.cells)) is

  pub stands : StandsInCells m p.cells a'
  stands = record {
    agents = λ k s n is at. by_symbol k s n (slice_get m.agents k) refl is at;
    wires = λ k i l j n o is at to.
        let cell : slice_index_or p.cells l (record { 0 = 0 }) ≡ o =
        same_Some (slice_index_or p.cells l (record { 0 = 0 })) o (sym (slice_get-get_or p.cells l (record { 0 = 0 }) (slice_get_within p.cells l o to)) ∙ to) in
        by_joint k i (ToAgent l j) n (slice_get m.agents k) refl is at ∙ ap (λ (z : CellNo). Some (Cell z j)) cell;
    ends = λ k i e n is at. by_joint k i (ToBoundary e) n (slice_get m.agents k) refl is at;
  }
