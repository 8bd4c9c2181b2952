use Rattle.std.proofs.Common.{[], ◌∷◌, IsSome, List}
use Rattle.std.proofs.lemmas.List.Elements.{All-nil}
use Rattle.in_base.proofs.Each.{all_at}
use Rattle.in_arena.specs.Bags.{AreOfOne}
use Rattle.in_syntax.specs.declared.symbol_no.SymbolNo.{SymbolNo}
use Rattle.in_compile.specs.Templates.{template_at}
use Rattle.in_rounds.specs.Gathers.{bags_of}
use Rattle.in_rounds.proofs.Public.{left_have_all, none_leased_by}
use Rattle.in_rounds.proofs.Public.{lent_have_all}
use Rattle.in_harness.proofs.workers.add_done.Goals as goal

pub new-plan-requires : goal.new-plan-requires
new-plan-requires g c =
    let next : SymbolNo × SymbolNo = (record { 0 = 1 }, record { 0 = 2 }) in
    let jobs : List (SymbolNo × SymbolNo) = next ∷ next ∷ next ∷ next ∷ next ∷ next ∷ [] in
    let some = c.requires.next in
    λ k h at. all_at (λ (h : SymbolNo × SymbolNo). IsSome (template_at c.args.templates.now h.0.0 h.1.0)) jobs k h (some, (some, (some, (some, (some, (some, tt)))))) at

pub kept-found-requires : goal.kept-found-requires
kept-found-requires g c = lent_have_all (bags_of c.in-Ok.gather.slots) c.args.arena.now c.gather_jobs.new.arena c.requires.whole c.in-Ok.ensures.lent

pub returns : goal.returns
returns g c =
    none_leased_by c.spend.new.arena
    (left_have_all (bags_of c.kept-found.new.gather.slots) [] c.kept-found.new.arena c.spend.new.arena c.kept-found.ensures (All-nil (AreOfOne c.kept-found.new.arena)) c.spend.ensures)
