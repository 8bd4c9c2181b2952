-- The goals of one step of the slow reducer: its pair matches, its rule fits, and the net after it is reached by one interaction more.
use Rattle.std.proofs.Common.{◌≡◌, ℕ, List, Some, Result, Ok, Err, slice_get, refl, sym, ◌∙◌, subst}
use Rattle.std.specs.Prelude.{OnOk, OnErr}
use Rattle.std.proofs.lemmas.Option.{same_Some}
use Rattle.in_syntax.specs.declared.symbol_no.SymbolNo.{SymbolNo}
use Rattle.in_net.specs.declared.nets.AgentNo.{AgentNo}
use Rattle.in_interaction.specs.Interacting.{CanInteract, Interacts}
use Rattle.in_net.specs.Parts.{Parts, symbol_in}
use Rattle.in_net.specs.Rules.{RuleParts}
use Rattle.in_cover.specs.Cover.{IsPair, IsRuleOfSymbols, IsRuleFor}
use Rattle.in_check.specs.Checking.{IsAccepted}
use Rattle.in_check.specs.Plain.{PlainParts, IsPlain, IsPairAt, IsRuleAt, StepsTo}
use Rattle.in_check.proofs.Reached.PairRules.{fits}
use Rattle.in_check.proofs.Reached.Plain.{have_their_rule}
use Rattle.in_syntax.specs.declared.text_limits.TextLimits.{TextLimits}

module _ (limits : TextLimits) (text : List ℕ) (p : PlainParts) (a b : AgentNo) (accepted : IsAccepted limits text p.program) (h : IsPlain p) (at : IsPairAt p a b) where
  pub pair_of : (c d : SymbolNo) → symbol_in p.net a.0 ≡ Some c → symbol_in p.net b.0 ≡ Some d → IsPair p.program.tables c.0 d.0
  pair_of c d e f =
      subst (λ (z : SymbolNo). IsPair p.program.tables z.0 d.0) (same_Some at.first c (sym at.one ∙ e))
      (subst (λ (z : SymbolNo). IsPair p.program.tables at.first.0 z.0) (same_Some at.second d (sym at.two ∙ f)) (have_their_rule limits text p a b accepted h at).0)

  pub rule_is : (c d : SymbolNo) → symbol_in p.net a.0 ≡ Some c → symbol_in p.net b.0 ≡ Some d →
      (k : ℕ) (r : RuleParts) → IsRuleFor p.program.rules k c.0 d.0 → slice_get p.program.rules k ≡ Some r → IsRuleAt p a b k r
  rule_is c d e f k r found stands =
      let same : found.rule ≡ r = same_Some found.rule r (sym found.stands ∙ stands) in
      let here : IsRuleOfSymbols r c.0 d.0 = subst (λ (z : RuleParts). IsRuleOfSymbols z c.0 d.0) same found.symbols in
      let first : IsRuleOfSymbols r at.first.0 d.0 = subst (λ (z : SymbolNo). IsRuleOfSymbols r z.0 d.0) (same_Some c at.first (sym e ∙ at.one)) here in
      let both : IsRuleOfSymbols r at.first.0 at.second.0 = subst (λ (z : SymbolNo). IsRuleOfSymbols r at.first.0 z.0) (same_Some d at.second (sym f ∙ at.two)) first in
      (have_their_rule limits text p a b accepted h at).1 k r stands both

  pub can : (k : ℕ) (r : RuleParts) → IsRuleAt p a b k r → CanInteract p.program.tables p.net r a b
  can k r is = fits p a b h.over at k r is

  pub stepped : (k : ℕ) (r : RuleParts) (m : Parts) → IsRuleAt p a b k r → Interacts p.net r a b m → StepsTo p a b (record { program = p.program; net = m })
  stepped k r m is act = record { number = k; rule = r; is_rule = is; acts = act; program = refl }

pub on_ok : {A E : Type 0} {P Q : Type 0} (r : Result A E) → OnOk r P → (P → Q) → OnOk r Q
on_ok (Ok x) h f = f h
on_ok (Err e) h f = tt

pub either_way : {A E : Type 0} {P R Q : Type 0} (r : Result A E) → OnOk r P → OnErr r R → (P → Q) → (R → Q) → Q
either_way (Ok x) h k f g = f h
either_way (Err e) h k f g = g k
