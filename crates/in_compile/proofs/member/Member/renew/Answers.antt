use Rattle.std.proofs.Common.{ℕ, refl, sym, subst, arith}
use Rattle.std.proofs.lemmas.List.{length-set}
use Rattle.in_base.proofs.Each.{at_index}
use Rattle.in_arena.specs.Arenas.{ArenaView, changed}
use Rattle.in_arena.specs.Changes.{HasAllCells}
use Rattle.in_arena.specs.Classes.{Holds}
use Rattle.in_arena.specs.States.{Vacant}
use Rattle.in_arena.specs.declared.content.CellNo.{CellNo}
use Rattle.in_arena.proofs.Public.{begun_again}
use Rattle.in_compile.specs.Putting.{BeginsAgent}
use Rattle.in_compile.proofs.Placements.EndByEnd.{places_are, symbol_is}
use Rattle.in_compile.proofs.Placements.Put.{begins}
use Rattle.in_compile.proofs.member.Member.renew.Goals as goal

pub renew_in-requires-clause-many : goal.renew_in-requires-clause-many
renew_in-requires-clause-many c =
    let m = c.args.self.now in
    let a = at_index m.agents c.args.agent c.requires.there in
    let many = places_are m c.args.agent c.head.result.count a.0 a.1 c.head.ensures.places in
    (a.0.class, c.requires.own a.0 a.1, subst (Holds a.0.class) many (c.is_sound.ensures.fits c.args.agent a.0 a.1))

all_stay : (a : ArenaView) (n : ℕ) → HasAllCells a → HasAllCells (changed a n Vacant)
all_stay a n all = let l = length-set a.states n Vacant in omega (arith, all, l)

pub returns : goal.returns
returns c = λ a at.
    let m = c.args.self.now in
    let n = c.args.cell.0 in
    let r = c.renew_in.ensures.renewed in
    let begun = begun_again c.args.arena.now c.renew_in.new.self a.class a.class n c.head.result.word c.head.result.count r.0 refl (c.requires.own a at) c.requires.live r.1 r.2 in
    subst (λ (p : CellNo). BeginsAgent a (changed c.args.arena.now n Vacant) p.0 c.renew_in.new.self) (sym c.renew_in.ensures.cell)
    (begins (changed c.args.arena.now n Vacant) (all_stay c.args.arena.now n c.requires.all) a a.class refl c.head.result.word c.head.result.count (symbol_is m c.args.agent c.head.result.word a at c.head.ensures.symbol)
    (places_are m c.args.agent c.head.result.count a at c.head.ensures.places) n c.renew_in.new.self begun)
