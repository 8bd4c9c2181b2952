use Rattle.std.proofs.Common.{◌≡◌, ◌+◌, ℕ, suc, refl, subst, arith}
use Rattle.in_arena.specs.Arenas.{ArenaView}
use Rattle.in_arena.specs.declared.content.End.{End}
use Rattle.in_arena.specs.declared.content.End.TheVariants as end
use Rattle.in_cells.specs.Shown.{AreExchanged}
use Rattle.in_cells.proofs.CutInCells as cells
use Rattle.in_cells.proofs.cutting.cut.Goals as goal

-- the free end after this one
last : (own : ℕ) (other : End) (a : ArenaView) (es : _) (b : ArenaView) (fs : _) → AreExchanged other (end.Free (own + 1)) a es b fs → AreExchanged other (end.Free (suc own)) a es b fs
last own other a es b fs h = subst (λ (k : ℕ). AreExchanged other (end.Free k) a es b fs) (let e : own + 1 ≡ suc own = omega arith in e) h

exchanged : (x y v w : End) (a : ArenaView) (es : _) (b : ArenaView) (fs : _) → x ≡ v → y ≡ w → AreExchanged x y a es b fs → AreExchanged v w a es b fs
exchanged x y v w a es b fs e f h = subst (λ (z : End). AreExchanged v z a es b fs) f (subst (λ (z : End). AreExchanged z y a es b fs) e h)

pub exchange-requires-2-clause-one : goal.exchange-requires-2-clause-one
exchange-requires-2-clause-one c =
    let s = c.requires.shown in
    cells.at_other s.0 c.args.own c.args.arena.now c.args.ends.now s.1 s.2 c.requires.room c.args.cell.0 c.args.place c.word-other.result c.word-other.ensures c.exchange.new.arena c.exchange.new.ends
    (exchanged _ _ _ _ _ _ _ _ c.place-here.ensures c.free.ensures c.exchange.ensures)

pub returns-clause-cut : goal.returns-clause-cut
returns-clause-cut c sig w m shows shown =
    cells.is_cut sig c.args.own c.args.arena.now c.args.ends.now w shows c.requires.room c.args.cell.0 c.args.place c.word-other.result c.word-other.ensures c.exchange.new.arena c.exchange.new.ends
    (exchanged _ _ _ _ _ _ _ _ c.place-here.ensures c.free.ensures c.exchange.ensures)
    c.exchange-2.new.arena c.exchange-2.new.ends
    (last c.args.own c.word-other.result c.exchange.new.arena c.exchange.new.ends c.exchange-2.new.arena c.exchange-2.new.ends (exchanged _ _ _ _ _ _ _ _ refl c.free-2.ensures c.exchange-2.ensures)) m shown

pub returns-clause-kept : goal.returns-clause-kept
returns-clause-kept c =
    let s = c.requires.shown in
    cells.kept s.0 c.args.own c.args.arena.now c.args.ends.now s.1 s.2 c.requires.room c.args.cell.0 c.args.place c.word-other.result c.word-other.ensures c.exchange.new.arena c.exchange.new.ends
    (exchanged _ _ _ _ _ _ _ _ c.place-here.ensures c.free.ensures c.exchange.ensures)
    c.exchange-2.new.arena c.exchange-2.new.ends
    (last c.args.own c.word-other.result c.exchange.new.arena c.exchange.new.ends c.exchange-2.new.arena c.exchange-2.new.ends (exchanged _ _ _ _ _ _ _ _ refl c.free-2.ensures c.exchange-2.ensures))
