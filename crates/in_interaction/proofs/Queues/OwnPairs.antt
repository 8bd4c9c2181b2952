-- A right member's own active pairs, added wire by wire under the numbers that its agents get.
use Rattle.std.proofs.Common.{◌≡◌, ◌≤◌, ◌<◌, ◌+◌, ℕ, Some, List, [], ◌∷◌, ◌++◌, length, map, slice_get, slice_index_or, sym, ap, subst, ◌∙◌, append_assoc, append-nil, arith}
use Rattle.std.proofs.lemmas.List.{map-append}
use Rattle.std.proofs.lemmas.Option.{get_or_from_slice_get}
use Rattle.in_symbols.specs.Tables.{Tables}
use Rattle.in_syntax.specs.declared.symbol_no.SymbolNo.{SymbolNo}
use Rattle.in_net.specs.ActivePairs.{IsActivePair, JoinsAgents}
use Rattle.in_net.specs.declared.nets.AgentNo.{AgentNo}
use Rattle.in_net.specs.Parts.{IsWhole, symbol_in}
use Rattle.in_net.proofs.Public.{symbol_within}
use Rattle.in_interaction.specs.Following.{SiteParts, IsSite}
use Rattle.in_interaction.specs.Interacting.{unused}
use Rattle.in_interaction.specs.Making.{renumbered, AddsOwn}
use Rattle.in_interaction.specs.Queues.{agents_at, numbers_of}
use Rattle.in_interaction.proofs.Queues.FirstQueue.{AreFirst, none_yet, not_here, one_here, is_first}

-- an agent of the right member has its number in the site
module _ (s : SiteParts) (site : IsSite s) (x : AgentNo) (c : SymbolNo) (there : symbol_in s.rule.member x.0 ≡ Some c) where
  pub in_names : x.0 < length s.names
  in_names = let l = symbol_within s.rule.member x.0 c there in let m = site.many in omega (arith, l, m)

  pub name_read : (ns : List AgentNo) → ns ≡ s.names → slice_index_or ns x.0 (record { 0 = 0 }) ≡ record { 0 = unused s.net.cells x.0 }
  name_read ns same =
      let name : AgentNo = record { 0 = unused s.net.cells x.0 } in
      let at : slice_get ns x.0 ≡ Some name = subst (λ (l : List AgentNo). slice_get l x.0 ≡ Some name) (sym same) (site.names x.0 in_names) in
      get_or_from_slice_get ns x.0 name (record { 0 = 0 }) at

-- ---- wire by wire

-- the pairs of the wires below this one come behind the earlier pairs
abbrev pub AddsBelow : Tables → SiteParts → ℕ → List (AgentNo × AgentNo) → List (AgentNo × AgentNo) → Type 0
AddsBelow t s w before after = (own : List (ℕ × ℕ)) × AreFirst t s.rule.member w own × (after ≡ before ++ map (renumbered s) own)

pub adds_none : (t : Tables) (s : SiteParts) (before : List (AgentNo × AgentNo)) → AddsBelow t s 0 before before
adds_none t s before = ([], none_yet t s.rule.member, sym (append-nil before))

module _ (t : Tables) (s : SiteParts) (w : ℕ) (before after : List (AgentNo × AgentNo)) (h : AddsBelow t s w before after) where
  pub adds_no_more : ((q : AgentNo × AgentNo) → JoinsAgents s.rule.member w q → ⊥) → AddsBelow t s (w + 1) before after
  adds_no_more never = (h.0, not_here t s.rule.member w h.0 h.1 (λ q j. never (agents_at q) j), h.2)

  pub adds_one_more : IsWhole s.rule.member → (q : AgentNo × AgentNo) → IsActivePair t s.rule.member q → JoinsAgents s.rule.member w q → AddsBelow t s (w + 1) before (after ++ renumbered s (numbers_of q) ∷ [])
  adds_one_more whole q active joins = (
    h.0 ++ numbers_of q ∷ [],
    one_here t s.rule.member whole w h.0 (numbers_of q) h.1 active joins,
    ap (λ (z : List (AgentNo × AgentNo)). z ++ renumbered s (numbers_of q) ∷ []) h.2
        ∙ append_assoc before (map (renumbered s) h.0) (renumbered s (numbers_of q) ∷ [])
        ∙ ap (λ (z : List (AgentNo × AgentNo)). before ++ z) (sym (map-append (renumbered s) h.0 (numbers_of q ∷ []))),
  )

  pub adds_all : IsWhole s.rule.member → length s.rule.member.wires ≤ w → AddsOwn t s before after
  adds_all whole last = (h.0, is_first t s.rule.member whole w h.0 h.1 last, h.2)
