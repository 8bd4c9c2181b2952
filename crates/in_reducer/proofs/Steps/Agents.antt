-- The agents in cells once new ones are begun: those that stayed, and the new ones.
use Rattle.std.proofs.Common.{◌≡◌, ◌⊎◌, ◌↔◌, inl, inr, ℕ, suc, Some, List, sym, ap, ◌∙◌}
use Rattle.in_arena.specs.Arenas.{ArenaView, state_at}
use Rattle.in_arena.specs.States.{word_of, places}
use Rattle.in_arena.specs.declared.content.CellNo.{CellNo}
use Rattle.in_arena.specs.declared.content.End.{End}
use Rattle.in_symbols.specs.Tables.{Tables, arity_of}
use Rattle.in_net.specs.Nets.{net_of}
use Rattle.in_compile.specs.Templates.{TemplateParts}
use Rattle.in_reducer.specs.declared.sides.Pair.{Pair}
use Rattle.in_reducer.specs.Interacting.{PairSetting, IsAbout, named}
use Rattle.in_reducer.specs.Standing.{HaveTheirPlaces}
use Rattle.in_reducer.specs.Wiring.{HasBegun}
use Rattle.in_reducer.proofs.Steps.Laid as laid
use Rattle.in_reducer.proofs.Steps.Laid.{in_or_out}
use Rattle.in_reducer.proofs.Steps.Reading as read

-- the cells hold these agents, each with as many places as its symbol has ports
pub record HoldsAgents (t : Tables) (a : ArenaView) (IsAgent : ℕ → ℕ → Type 0) : Type 0 where
  pub symbols : (y z : ℕ) → (word_of (state_at a y) ≡ Some z) ↔ IsAgent y z
  pub places : HaveTheirPlaces t a

-- `Stays y z` says that an agent z of the net stays in the cell y
module _ (t : Tables) (s : PairSetting) (p : TemplateParts) (pair : Pair) (own : ℕ) (old : ArenaView) (ends : List End) (about : IsAbout t s p pair own old ends) (ns : List CellNo) (base now : ArenaView) (begun : HasBegun p.member ns base now)
    (Stays : ℕ → ℕ → Type 0) (was : (y z : ℕ) → word_of (state_at now y) ≡ Some z → word_of (state_at base y) ≡ Some z → Stays y z) (is : (y z : ℕ) → Stays y z → (state_at now y ≡ state_at old y) × ((net_of s.net).symbol y ≡ Some z)) where
  abbrev IsAgent : ℕ → ℕ → Type 0
  IsAgent y z = Stays y z ⊎ ((k : ℕ) × (named ns k ≡ y) × ((net_of s.rule.member).symbol k ≡ Some z))

  symbols_are : (y z : ℕ) → (word_of (state_at now y) ≡ Some z) ↔ IsAgent y z
  symbols_are y z = (forth (in_or_out ns y), back)
    where
      forth : laid.InOrOut ns y → word_of (state_at now y) ≡ Some z → IsAgent y z
      forth (inr out) w = inl (was y z w (sym (ap word_of (begun.others y out)) ∙ w))
      forth (inl at) w =
          let a = laid.begun_whose t s.rule.member about.member_over p.member about.template.member ns base now begun at.0 y at.1 in
          let symbol = laid.symbol_of t s.rule.member about.member_over p.member about.template.member at.0 a.0 a.1 in
          let there = laid.begun_word t s.rule.member about.member_over p.member about.template.member ns base now begun at.0 a.0.symbol.0 symbol in
          let same : a.0.symbol.0 ≡ z = (let g : Some a.0.symbol.0 ≡ Some z = sym there ∙ ap (λ (y : ℕ). word_of (state_at now y)) a.2 ∙ w in cc) in
          inr (at.0, a.2, symbol ∙ ap (λ (z : ℕ). Some z) same)

      back : IsAgent y z → word_of (state_at now y) ≡ Some z
      back (inl h) = let k = is y z h in ap word_of k.0 ∙ sym (about.shown.agents y) ∙ k.1
      back (inr (k, name, e)) =
          ap (λ (y : ℕ). word_of (state_at now y)) (sym name) ∙ laid.begun_word t s.rule.member about.member_over p.member about.template.member ns base now begun k z e

  all_places : HaveTheirPlaces t now
  all_places y z w = go ((symbols_are y z).0 w)
    where
      go : IsAgent y z → places (state_at now y) ≡ suc (arity_of t z)
      go (inl h) = let k = is y z h in ap places k.0 ∙ read.old_places t s p pair own old ends about y z k.1
      go (inr (k, name, e)) =
          ap (λ (y : ℕ). places (state_at now y)) (sym name) ∙ laid.begun_places t s.rule.member about.member_over p.member about.template.member ns base now begun k z e

  pub held : HoldsAgents t now IsAgent
  held = record { symbols = symbols_are; places = all_places }
