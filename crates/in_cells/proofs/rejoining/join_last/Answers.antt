use Rattle.std.proofs.Common.{◌≡◌, ◌≤◌, ◌+◌, ℕ, suc, Some, List, length, get_or, slice_get, sym, ap, subst, ◌∙◌, arith}
use Rattle.std.proofs.lemmas.Option.{same_Some, slice_get-get_or}
use Rattle.in_arena.specs.Arenas.{ArenaView}
use Rattle.in_arena.specs.declared.content.End.{End}
use Rattle.in_net.specs.Nets.{Net, Signature}
use Rattle.in_symbols.specs.Tables.{Tables}
use Rattle.in_cells.specs.Cells.{KeepsCells}
use Rattle.in_cells.specs.Pairs.{AddsPair}
use Rattle.in_cells.specs.Shown.{point_of, end_of, IsPlaceAt, AreExchanged}
use Rattle.in_cells.proofs.OnTheWay.{live_after, symbols_kept}
use Rattle.in_cells.proofs.Writes.{end_point}
use Rattle.in_cells.specs.Cutting.{Shows}
use Rattle.in_cells.proofs.JoinedInCells as cells
use Rattle.in_cells.proofs.rejoining.join_last.Goals as goal

-- the ends that are read at the two free ends
module _ (sig : Signature) (own : ℕ) (a : ArenaView) (es : List End) (m : Net ℕ) (before : Shows sig (own + 2) a es m) (long : own + 2 ≤ length es) (one other : End) (one_read : one ≡ get_or es own one) (other_read : other ≡ get_or es (own + 1) other) where
  one_there : slice_get es own ≡ Some one
  one_there = slice_get-get_or es own one (omega (arith, long)) ∙ ap Some (sym one_read)

  other_there : slice_get es (suc own) ≡ Some other
  other_there = ap (slice_get es) (let e : suc own ≡ own + 1 = omega arith in e) ∙ slice_get-get_or es (own + 1) other (omega (arith, long)) ∙ ap Some (sym other_read)

  is_one : one ≡ end_of (cells.at sig own a es m before long).p
  is_one = cells.is_one sig own a es m before long one one_there

  is_other : other ≡ end_of (cells.at sig own a es m before long).q
  is_other = cells.is_other sig own a es m before long other other_there

  place_one : IsPlaceAt a es one
  place_one = subst (IsPlaceAt a es) (sym is_one) (cells.at sig own a es m before long).at_p

  place_other : IsPlaceAt a es other
  place_other = subst (IsPlaceAt a es) (sym is_other) (cells.at sig own a es m before long).at_q

  differ : one ≡ other → ⊥
  differ same = (cells.at sig own a es m before long).differ (sym (end_point (cells.at sig own a es m before long).p) ∙ ap point_of (sym is_one ∙ same ∙ is_other) ∙ end_point (cells.at sig own a es m before long).q)

  module _ (b : ArenaView) (bs : List End) (h : AreExchanged one other a es b bs) where
    written : AreExchanged (end_of (cells.at sig own a es m before long).p) (end_of (cells.at sig own a es m before long).q) a es b bs
    written = subst (λ (z : End). AreExchanged (end_of (cells.at sig own a es m before long).p) z a es b bs) is_other (subst (λ (z : End). AreExchanged z other a es b bs) is_one h)

    kept : KeepsCells a b
    kept = (cells.kept sig own a es m before long b bs written).0

-- for any two ends there
adds : (t : Tables) (b : ArenaView) (es : List End) (own : ℕ) (one other x y : End) (old new : List (ℕ × ℕ)) → slice_get es own ≡ Some one → slice_get es (suc own) ≡ Some other → slice_get es own ≡ Some x → slice_get es (suc own) ≡ Some y → AddsPair t b one other old new → AddsPair t b x y old new
adds t b es own one other x y old new h k u v made =
    subst (λ (z : End). AddsPair t b x z old new) (same_Some other y (sym k ∙ v)) (subst (λ (z : End). AddsPair t b z other old new) (same_Some one x (sym h ∙ u)) made)

pub exchange-requires-clause-one : goal.exchange-requires-clause-one
exchange-requires-clause-one c = let s = c.requires.shown in place_one s.0 c.args.own c.args.arena.now c.args.ends.now s.1 s.2 c.requires.room _ _ c.index-ends-first.is c.index-ends-first-2.is

pub exchange-requires-clause-other : goal.exchange-requires-clause-other
exchange-requires-clause-other c = let s = c.requires.shown in place_other s.0 c.args.own c.args.arena.now c.args.ends.now s.1 s.2 c.requires.room _ _ c.index-ends-first.is c.index-ends-first-2.is

pub add_pair-requires-clause-one : goal.add_pair-requires-clause-one
add_pair-requires-clause-one c =
    let s = c.requires.shown in
    let k = kept s.0 c.args.own c.args.arena.now c.args.ends.now s.1 s.2 c.requires.room _ _ c.index-ends-first.is c.index-ends-first-2.is c.exchange.new.arena c.exchange.new.ends c.exchange.ensures in
    live_after _ c.args.arena.now c.args.ends.now c.exchange.new.arena k (place_one s.0 c.args.own c.args.arena.now c.args.ends.now s.1 s.2 c.requires.room _ _ c.index-ends-first.is c.index-ends-first-2.is)

pub add_pair-requires-clause-other : goal.add_pair-requires-clause-other
add_pair-requires-clause-other c =
    let s = c.requires.shown in
    let k = kept s.0 c.args.own c.args.arena.now c.args.ends.now s.1 s.2 c.requires.room _ _ c.index-ends-first.is c.index-ends-first-2.is c.exchange.new.arena c.exchange.new.ends c.exchange.ensures in
    live_after _ c.args.arena.now c.args.ends.now c.exchange.new.arena k (place_other s.0 c.args.own c.args.arena.now c.args.ends.now s.1 s.2 c.requires.room _ _ c.index-ends-first.is c.index-ends-first-2.is)

pub add_pair-requires-clause-differ : goal.add_pair-requires-clause-differ
add_pair-requires-clause-differ c = let s = c.requires.shown in differ s.0 c.args.own c.args.arena.now c.args.ends.now s.1 s.2 c.requires.room _ _ c.index-ends-first.is c.index-ends-first-2.is

pub add_pair-requires-clause-symbols : goal.add_pair-requires-clause-symbols
add_pair-requires-clause-symbols c =
    let s = c.requires.shown in
    let k = kept s.0 c.args.own c.args.arena.now c.args.ends.now s.1 s.2 c.requires.room _ _ c.index-ends-first.is c.index-ends-first-2.is c.exchange.new.arena c.exchange.new.ends c.exchange.ensures in
    symbols_kept c.args.symbols.now c.args.arena.now c.exchange.new.arena k c.requires.symbols

pub returns-clause-joined : goal.returns-clause-joined
returns-clause-joined c sig m n shows shown =
    let w = written sig c.args.own c.args.arena.now c.args.ends.now m shows c.requires.room _ _ c.index-ends-first.is c.index-ends-first-2.is c.exchange.new.arena c.exchange.new.ends c.exchange.ensures in
    cells.joins sig c.args.own c.args.arena.now c.args.ends.now m shows c.requires.room c.exchange.new.arena c.exchange.new.ends w n shown

pub returns-clause-made : goal.returns-clause-made
returns-clause-made c one other h k =
    let s = c.requires.shown in
    adds c.args.symbols.now c.exchange.new.arena c.args.ends.now c.args.own _ _ one other c.args.made.now.items c.add_pair.new.made.items
    (one_there s.0 c.args.own c.args.arena.now c.args.ends.now s.1 s.2 c.requires.room _ _ c.index-ends-first.is c.index-ends-first-2.is) (other_there s.0 c.args.own c.args.arena.now c.args.ends.now s.1 s.2 c.requires.room _ _ c.index-ends-first.is c.index-ends-first-2.is) h k c.add_pair.ensures.added

pub returns-clause-kept : goal.returns-clause-kept
returns-clause-kept c = let s = c.requires.shown in kept s.0 c.args.own c.args.arena.now c.args.ends.now s.1 s.2 c.requires.room _ _ c.index-ends-first.is c.index-ends-first-2.is c.exchange.new.arena c.exchange.new.ends c.exchange.ensures
