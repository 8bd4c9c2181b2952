-- The points of a right member, filled one after another.
use Rattle.std.proofs.Common.{◌≡◌, ◌≢◌, ◌⊎◌, inl, inr, ◌<◌, ◌≤◌, ◌+◌, ◌-◌, ℕ, suc, Bool, true, false, cond, nat_lt, Some, List, [], ◌∷◌, ◌++◌, length, length-append, map, set, slice_get, refl, sym, ap, subst, ◌∙◌, arith}
use Rattle.std.specs.Prelude.{slice_index_or}
use Rattle.std.proofs.lemmas.List.{length-map, length-set}
use Rattle.std.proofs.lemmas.Bool.{cases_eq}
use Rattle.std.proofs.lemmas.Bool.Decides.{nat_tests}
use Rattle.std.proofs.lemmas.Option.{get_or_from_slice_get, slice_get_read}
use Rattle.in_arena.specs.declared.content.CellCounts.{CellCounts}
use Rattle.in_base.proofs.Places.{kept_at, last_at, set_here, set_there}
use Rattle.std.specs.List.{enumerate_from}
use Rattle.std.proofs.lemmas.List.FromFn.{length-enumerate_from}
use Rattle.std.proofs.lemmas.List.Sums.{count_by-le-length, length-filter}
use Rattle.in_arena.specs.Arenas.{ArenaView, state_at}
use Rattle.in_arena.specs.Changes.{HasAllCells}
use Rattle.in_arena.specs.Classes.{IsNumberOf, all_of}
use Rattle.in_arena.specs.States.{end_at, places, word_of}
use Rattle.in_arena.specs.declared.content.CellNo.{CellNo}
use Rattle.in_arena.specs.declared.content.End.{End}
use Rattle.in_arena.specs.declared.content.End.TheVariants.{Cell}
use Rattle.in_net.specs.Nets.{Point, Free}
use Rattle.in_compile.specs.Members.{MemberParts}
use Rattle.in_compile.specs.Putting.{AreBegunBelow}
use Rattle.in_compile.specs.Wires.{both_points, is_from_lowest, over_of, over_point, within_of}
use Rattle.in_compile.proofs.Public.{read_at}
use Rattle.in_reducer.specs.declared.sides.Pair.{Pair}
use Rattle.in_reducer.specs.Inside.{most_ends}
use Rattle.in_reducer.specs.Sides.{end_there, port_at}
use Rattle.in_reducer.specs.Wiring.{AreAtAgents, CanBegin, CanRead, HasBegun, HasBegunBelow, HasPortsIn, wires_of}

-- ---- agents

pub none_at : (points : List End) → AreAtAgents [] points
none_at points k low = absurd (let l : k < 0 = low in omega (arith, l))

-- the next agent's point comes after those of the ones before
module _ (ns : List CellNo) (n : CellNo) (points : List End) (x : ℕ) (here : length ns ≡ x) (long : 32 + x < length points) (v : End) (is : v ≡ Cell n 0) (at : AreAtAgents ns points) where
  abbrev more : List CellNo
  more = ns ++ n ∷ []

  stands : (k : ℕ) (m : CellNo) → slice_get more k ≡ Some m → slice_index_or more k (record { 0 = 0 }) ≡ m
  stands k m e = get_or_from_slice_get more k m (record { 0 = 0 }) e

  pub one_more_at : AreAtAgents (ns ++ n ∷ []) (set points (32 + x) v)
  one_more_at k low = go (cases_eq k x)
    where
      go : (k ≡ x) ⊎ (k ≢ x) → slice_get (set points (32 + x) v) (32 + k) ≡ Some (Cell (slice_index_or more k (record { 0 = 0 })) 0)
      go (inl same) =
          let last : slice_get more k ≡ Some n = ap (slice_get more) (same ∙ sym here) ∙ last_at ns n in
          ap (λ (z : ℕ). slice_get (set points (32 + x) v) (32 + z)) same ∙ set_here points (32 + x) v long
          ∙ ap (λ (e : End). Some e) is ∙ ap (λ (m : CellNo). Some (Cell m 0)) (sym (stands k n last))
      go (inr other) =
          let l : k < length ns = (let m = length-append ns (n ∷ []) in omega (arith, low, m, other, here)) in
          let old = kept_at ns (n ∷ []) k (slice_index_or ns k (record { 0 = 0 })) (read_at ns k l) in
          set_there points (32 + x) (32 + k) v (λ f. other (let g : k ≡ x = omega (arith, f) in g)) ∙ at k l
          ∙ ap (λ (m : CellNo). Some (Cell m 0)) (sym (stands k (slice_index_or ns k (record { 0 = 0 })) old))

-- one is begun, and is at its point
pub one_below : (m : MemberParts) (b new : ArenaView) (one : CellNo) (points : List End) (v : End) → AreBegunBelow m b 1 new (one ∷ []) → 33 ≤ length points → v ≡ Cell one 0 → HasBegunBelow m b 1 new (set points 32 v)
one_below m b new one points v below long is_v = (one ∷ [], below, one_more_at [] one points 0 refl (omega (arith, long)) v is_v (none_at points))

-- two are begun, and are at their points
pub two_below : (m : MemberParts) (b new : ArenaView) (one two : CellNo) (points : List End) (v w : End) → AreBegunBelow m b 2 new (one ∷ two ∷ []) → 34 ≤ length points → v ≡ Cell one 0 → w ≡ Cell two 0 → HasBegunBelow m b 2 new (set (set points 32 v) 33 w)
two_below m b new one two points v w below long is_v is_w = (
  one ∷ two ∷ [],
  below,
  one_more_at (one ∷ []) two (set points 32 v) 1 refl (let l = length-set points 32 v in omega (arith, l, long)) w is_w (one_more_at [] one points 0 refl (omega (arith, long)) v is_v (none_at points)),
)

-- points of the same number
pub still_begin : (m : MemberParts) (a : ArenaView) (points after : List End) → length after ≡ length points → CanBegin m a points → CanBegin m a after
still_begin m a points after same h = record { all = h.all; free = h.free; few = h.few; long = (let l = h.long in omega (arith, l, same)) }

-- the arena still has all its cells
pub still_all : (m : MemberParts) (old : ArenaView) (x : ℕ) (now : ArenaView) (points : List End) → HasAllCells old → HasBegunBelow m old x now points → HasAllCells now
still_all m old x now points all h = let many = h.1.many in let cells = ap all_of h.1.cells in omega (arith, all, many, cells)

-- ---- boundary ends

pub none_read : (a : ArenaView) (c : CellNo) (first : ℕ) (points : List End) → HasPortsIn a c first first points points
none_read a c first points = record { read = λ e low high has. absurd (omega (arith, low, high)); others = λ k out. λ i. slice_get points k; long = λ i. length points }

-- one more port is read
pub one_more_read : (a : ArenaView) (c : CellNo) (first x : ℕ) (old points : List End) (v : End) → HasPortsIn a c first x old points → first ≤ x → x < most_ends → most_ends ≤ length points
    → (suc (x - first) < places (state_at a c.0) → end_at (state_at a c.0) (suc (x - first)) ≡ Some v) → HasPortsIn a c first (x + 1) old (set points x v)
one_more_read a c first x old points v h order low long is = record {
  read = λ e from l has. read e from l has (cases_eq e x);
  others = λ k out. set_there points x k v (apart k out) ∙ h.others k out;
  long = length-set points x v ∙ h.long;
}
  where
    read : (e : ℕ) → first ≤ e → e < x + 1 → suc (e - first) < places (state_at a c.0) → (e ≡ x) ⊎ (e ≢ x) → slice_get (set points x v) e ≡ end_at (state_at a c.0) (suc (e - first))
    read e from l has (inl same) =
        let here = is (subst (λ (e : ℕ). suc (e - first) < places (state_at a c.0)) same has) in
        ap (slice_get (set points x v)) same ∙ set_here points x v (omega (arith, low, long)) ∙ sym here ∙ ap (λ (e : ℕ). end_at (state_at a c.0) (suc (e - first))) (sym same)
    read e from l has (inr other) = set_there points x e v other ∙ h.read e from (let z : e < x = omega (arith, l, other) in z) has

    apart : (k : ℕ) → (k < first) ⊎ (most_ends ≤ k) → k ≢ x
    apart k (inl l) same = omega (arith, l, same, order)
    apart k (inr l) same = omega (arith, l, same, low)

-- fewer ports are read, too
pub fewer_read : (a : ArenaView) (c : CellNo) (first few many : ℕ) (old points : List End) → few ≤ many → HasPortsIn a c first many old points → HasPortsIn a c first few old points
fewer_read a c first few many old points le h = record { read = λ e from l has. h.read e from (let z : e < many = omega (arith, l, le) in z) has; others = h.others; long = h.long }

-- those of the first agent, and then those of the second one
pub both_read : (a : ArenaView) (p : Pair) (many : ℕ) (old middle new : List End) → CanRead a p many old → HasPortsIn a p.one 0 p.first_ends old middle → HasPortsIn a p.other p.first_ends many middle new
    → ((e : ℕ) → e < many → slice_get new e ≡ end_there a (port_at p e)) × ((k : ℕ) → most_ends ≤ k → slice_get new k ≡ slice_get old k)
both_read a p many old middle new can one two = ((λ e l. read e l (nat_lt e p.first_ends) refl), λ k l. two.others k (inr l) ∙ one.others k (inr l))
  where
    read : (e : ℕ) → e < many → (b : Bool) → nat_lt e p.first_ends ≡ b → slice_get new e ≡ end_there a (port_at p e)
    read e l true is =
        let low : e < p.first_ends = grind (arith, nat_tests, is) in
        let from : e - 0 ≡ e = omega arith in
        let first = can.first in
        let here : slice_get new e ≡ end_there a (p.one, suc e) =
        two.others e (inl low) ∙ one.read e (let z : 0 ≤ e = omega arith in z) low (omega (arith, low, first)) ∙ ap (λ (z : ℕ). end_at (state_at a p.one.0) (suc z)) from in
        here ∙ ap (λ (b : Bool). end_there a (cond b (p.one, suc e) (p.other, suc (e - p.first_ends)))) (sym is)
    read e l false is =
        let high : p.first_ends ≤ e = grind (arith, nat_tests, is) in
        let second = can.second in
        let here : slice_get new e ≡ end_there a (p.other, suc (e - p.first_ends)) = two.read e high l (omega (arith, high, l, second)) in
        here ∙ ap (λ (b : Bool). end_there a (cond b (p.one, suc e) (p.other, suc (e - p.first_ends)))) (sym is)

-- ---- wires

-- the element that is read of a list is this one
pub listed_at : {X : Type 0} (xs ys : List X) (k : ℕ) (x : X) → ys ≡ xs → k < length ys → x ≡ slice_index_or ys k x → slice_get xs k ≡ Some x
listed_at {X} xs ys k x same low is = ap (λ (zs : List X). slice_get zs k) (sym same) ∙ slice_get_read ys (length ys) k x refl low is

-- no more wires have boundary ends than there are such ends
pub over_few : (m : MemberParts) → length (over_of m) ≤ length m.joints
over_few m =
    let a = length-filter is_from_lowest (enumerate_from 0 m.joints) in
    let b = count_by-le-length is_from_lowest (enumerate_from 0 m.joints) in
    let c = length-enumerate_from 0 m.joints in
    omega (arith, a, b, c)

-- ---- all agents are begun

pub all_begun : (m : MemberParts) (old now : ArenaView) (ns : List CellNo) (x : ℕ) → x ≡ length m.agents → AreBegunBelow m old x now ns → HasBegun m ns old now
all_begun m old now ns x all h = record {
  count = h.count ∙ all;
  each = λ k a n e at. (let g = h.each k a n e at in (subst (λ (z : CellCounts). IsNumberOf z a.class n.0) (sym h.cells) g.0, ap word_of g.1, g.2));
  once = h.once;
  others = h.others;
  memory = h.memory;
  cells = h.cells;
  many = h.many;
}

-- the wires of a member are those with boundary ends and those within it
pub wires_many : (m : MemberParts) → length (wires_of m) ≡ length (over_of m) + length (within_of m)
wires_many m =
    let a = length-append (map (λ (w : ℕ × Point ℕ). (Free w.0, w.1)) (map over_point (over_of m))) (map both_points (within_of m)) in
    let b = length-map {B = Point ℕ × Point ℕ} (map over_point (over_of m)) (λ (w : ℕ × Point ℕ). (Free w.0, w.1)) in
    let c = length-map (over_of m) over_point in
    let d = length-map (within_of m) both_points in
    omega (arith, a, b, c, d)
