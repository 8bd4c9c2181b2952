-- A member placed from a stock, and the rest of the stock.
use Rattle.std.proofs.Common.{◌≡◌, ◌≤◌, ◌+◌, ℕ, length, cond, [], ◌∷◌, Some, slice_get, ap, ◌∙◌, subst, arith}
use Rattle.std.proofs.lemmas.Option.{option_and_then_some}
use Rattle.in_base.proofs.Each.{all_at}
use Rattle.in_arena.specs.Arenas.{ArenaView, state_at}
use Rattle.in_arena.specs.Bags.{IsInBag, AreOfOne}
use Rattle.in_arena.specs.States.{Vacant, Leased, IsLeased}
use Rattle.in_arena.specs.declared.content.CellNo.{CellNo}
use Rattle.in_arena.proofs.Public.{vacant_inside}
use Rattle.in_cover.specs.Table.{rule_at}
use Rattle.in_cover.specs.declared.table.RuleNo.{RuleNo}
use Rattle.in_compile.specs.declared.cells.Need.{Need}
use Rattle.in_compile.specs.Cells.{count_of, IsEnough}
use Rattle.in_compile.specs.Placing.{PlacedParts, AreCellsOf, TakesCells}
use Rattle.in_compile.specs.Stocks.{StockParts, held}
use Rattle.in_compile.specs.Templates.{TemplateParts, TemplatesParts, AreMostAgents, IsLargestNeed, template_at}
use Rattle.in_compile.proofs.Public.{as_left, one_of_all, cells_all, memory_all}
use Rattle.in_rounds.specs.Holding.{holders, is_own}
use Rattle.in_rounds.proofs.Holding.{InOrOut, in_or_out, in_one, out_of_one}
use Rattle.in_rounds.proofs.Holding.InOrOut.{IsHere, IsOut}

module _ (need : Need) (s s' : StockParts) (p : PlacedParts) (takes : TakesCells need p.cells s s') (cells : AreCellsOf p.bag p.cells) where
  -- a placed cell was the stock's, and no longer is
  was : (n : ℕ) → IsInBag p.bag n → state_at s.bag n ≡ Vacant
  was n in_it = let at = cells.only n in_it in all_at (λ (m : CellNo). state_at s.bag m.0 ≡ Vacant) p.cells at.0 (record { 0 = n }) takes.were at.1

  gone : (n : ℕ) → IsInBag p.bag n → state_at s'.bag n ≡ Leased
  gone n in_it =
      let at = cells.only n in_it in
      ap (λ v. state_at v n) takes.bag ∙ one_of_all s.bag p.cells Leased (record { 0 = n }) at.0 (vacant_inside s.bag n (was n in_it)) at.1

  count_by : (n : ℕ) → InOrOut p.bag n → holders n (s'.bag ∷ []) + holders n (p.bag ∷ []) ≡ holders n (s.bag ∷ [])
  count_by n (IsHere in_it one) =
      let none = out_of_one s'.bag n (gone n in_it) in
      let had = in_one s.bag n (λ leased. subst IsLeased (was n in_it) leased) in
      omega (arith, none, one, had)
  count_by n (IsOut out none) =
      let same = ap (λ x. cond {A = ℕ} (is_own x) 1 0) (as_left need s s' p takes cells n out) in omega (arith, none, same)

  pub placed_count : (n : ℕ) → holders n (s'.bag ∷ []) + holders n (p.bag ∷ []) ≡ holders n (s.bag ∷ [])
  placed_count n = count_by n (in_or_out p.bag n)

  pub stays_of_one : AreOfOne s.bag s'.bag
  stays_of_one = (ap (λ v. v.memory) takes.bag ∙ memory_all s.bag p.cells Leased, ap (λ v. v.cells) takes.bag ∙ cells_all s.bag p.cells Leased)

pub one_of_one : (a b c : ArenaView) → AreOfOne a b → AreOfOne b c → AreOfOne a c
one_of_one a b c ab bc = (bc.0 ∙ ab.0, bc.1 ∙ ab.1)

-- ---- the need of a template

-- a template that is found is one of the templates
pub template_in : (ts : TemplatesParts) (c d : ℕ) (t : TemplateParts) → template_at ts c d ≡ Some t → (k : ℕ) × (slice_get ts.templates k ≡ Some t)
template_in ts c d t e = option_and_then_some (λ (k : RuleNo). slice_get ts.templates k.0) (rule_at ts.numbers c d) t e (λ k is at. (k.0, at))

-- .. and has no more agents than any of them
pub at_most : (ts : TemplatesParts) (most : ℕ) (c d : ℕ) (t : TemplateParts) → AreMostAgents ts.templates most → template_at ts c d ≡ Some t → length t.member.agents ≤ most
at_most ts most c d t are at = let k = template_in ts c d t at in are.0 k.0 t k.1

-- the stock holds the need of any template
pub holds_any : (ts : TemplatesParts) (largest : Need) (s : StockParts) (c d : ℕ) (t : TemplateParts) → IsLargestNeed ts.templates largest → IsEnough (count_of largest) (held s) → template_at ts c d ≡ Some t → IsEnough (count_of t.member.need) (held s)
holds_any ts largest s c d t most enough at class =
    let k = template_in ts c d t at in let m = (most class).0 k.0 t k.1 in let e = enough class in omega (arith, m, e)
