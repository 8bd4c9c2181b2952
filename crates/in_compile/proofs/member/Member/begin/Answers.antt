use Rattle.std.proofs.Common.{◌≡◌, sym, ap, subst, ◌∙◌}
use Rattle.std.specs.Prelude.{option_map}
use Rattle.std.proofs.lemmas.Option.{same_Some}
use Rattle.in_base.proofs.Each.{at_index}
use Rattle.in_arena.specs.Classes.{Holds}
use Rattle.in_arena.specs.declared.content.CellClass.{CellClass}
use Rattle.in_compile.specs.Members.{AgentParts}
use Rattle.in_compile.proofs.Placements.EndByEnd.{places_are, symbol_is}
use Rattle.in_compile.proofs.Placements.Put.{begins}
use Rattle.in_compile.proofs.member.Member.begin.Goals as goal

pub begin-begun-requires : goal.begin-begun-requires
begin-begun-requires c =
    let m = c.args.self.now in
    let a = at_index m.agents c.args.agent c.requires.there in
    let class : a.0.class ≡ c.class.result = same_Some a.0.class c.class.result (sym (ap (option_map (λ (a : AgentParts). a.class)) a.1) ∙ c.class.ensures) in
    let many = places_are m c.args.agent c.head.result.count a.0 a.1 c.head.ensures.places in
    subst (λ (d : CellClass). Holds d c.head.result.count) class (subst (Holds a.0.class) many (c.is_sound.ensures.fits c.args.agent a.0 a.1))

pub returns : goal.returns
returns c = λ a at.
    let m = c.args.self.now in
    let class : a.class ≡ c.class.result = same_Some a.class c.class.result (sym (ap (option_map (λ (a : AgentParts). a.class)) at) ∙ c.class.ensures) in
    begins c.args.arena.now c.requires.all a c.class.result class c.head.result.word c.head.result.count (symbol_is m c.args.agent c.head.result.word a at c.head.ensures.symbol)
    (places_are m c.args.agent c.head.result.count a at c.head.ensures.places) c.in-Some.cell.0 c.begin-begun.new.self c.in-Some.ensures
