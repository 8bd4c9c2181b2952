-- A reducer's calls have one result.
use Rattle.std.proofs.Common.{◌≡◌, ◌⊎◌, ◌↔◌, inl, inr, ◌<◌, ◌+◌, ℕ, zero, suc, Option, Some, None, List, [], ◌∷◌, ◌++◌, length, map, take, slice_get, refl, sym, ap, subst, ◌∙◌, length-append, arith}
use Rattle.std.proofs.lemmas.List.{append-nil, map-id}
use Rattle.std.proofs.lemmas.Option.{same_Some, slice_get_within}
use Rattle.std.proofs.Math.Seq.{take-append_seam}
use Rattle.in_base.proofs.Places.{kept_at}
use Rattle.in_symbols.specs.Tables.{Tables}
use Rattle.in_symbols.specs.declared.symbols.PortType.{PortType}
use Rattle.in_syntax.specs.declared.symbol_no.SymbolNo.{SymbolNo}
use Rattle.in_net.specs.declared.nets.FreeEnd.{FreeEnd}
use Rattle.in_net.specs.declared.nets.Point.TheVariants as code
use Rattle.in_net.specs.ActivePairs.{IsActivePair}
use Rattle.in_net.specs.Nets.{Point, Port, Free, Net}
use Rattle.in_net.specs.Parts.{partner_in, symbol_in}
use Rattle.in_net.specs.Rules.{RuleParts}
use Rattle.in_net.proofs.Public.{map_is}
use Rattle.in_typing.specs.TypedNets.{type_in}
use Rattle.in_interaction.specs.Queues.{IsQueueOf, agents_at, both}
use Rattle.in_interaction.proofs.Public.{net_wire, symbol_is, symbol_number}
use Rattle.in_gluing.specs.Joining.{CutsWire, JoinsEnds}
use Rattle.in_arena.specs.Arenas.{ArenaView, state_at}
use Rattle.in_arena.specs.States.{IsLeased}
use Rattle.in_check.specs.Programs.{Program}
use Rattle.in_check.specs.Runs.{IsRenamed}
use Rattle.in_check.specs.Systems.{System, system_of}
use Rattle.in_check.proofs.Public.{renamed_self}
use Rattle.in_cells.proofs.Public.{past_first}
use Rattle.in_compile.specs.Cells.{agents_of, count_of, IsEnough}
use Rattle.in_compile.proofs.Public.{same_need}
use Rattle.in_reducer.specs.Cutting.{JoinsLast, net_in}
use Rattle.in_reducer.specs.Lent.{AreSettled, SettledLeasesAreOne}
use Rattle.in_reducer.specs.Machines.{MachineParts, parts_of}
use Rattle.in_reducer.specs.PartingLaws.{AreSameTwo}
use Rattle.in_reducer.specs.Reducers.{IsReducer}
use Rattle.in_reducer.specs.ResultLaws.{CutsAreOne, FirstStepsAreOne, HeadsAreOne, JointsAreOne, NeedsAreOne, TakesNoFirst}
use Rattle.in_reducer.specs.Runs.{Runs, at_start, then_step}
use Rattle.in_reducer.specs.Same.{AreSame, IsSameMachine}
use Rattle.in_reducer.specs.Steps.{HasRoomAt, StepsAt}
use Rattle.in_reducer.proofs.Numbers.Before.{reducer_runs, same_run}
use Rattle.in_reducer.proofs.Numbers.OfSame.{reducer_same}
use Rattle.in_reducer.proofs.Numbers.SameKind.{an_equivalence}
use Rattle.in_reducer.proofs.Numbers.SameStep.{need_moved}
use Rattle.in_reducer.proofs.Pairs.Reordered.{both_same, one_order}
use Rattle.in_reducer.proofs.Steps.StepsOn.{net_at, same_rule}

-- ---- needs and symbols

pub needs_are_one : NeedsAreOne
needs_are_one m i x y h a b =
    let pair : a.pair ≡ b.pair = same_Some a.pair b.pair (sym a.stands ∙ b.stands) in
    let rule : a.rule ≡ b.rule = same_rule m h a.pair b.pair a.number b.number a.rule b.rule pair a.is_rule b.is_rule in
    same_need x y (λ c. a.is_need c ∙ ap (λ (z : RuleParts). agents_of m.program.tables c z.member.cells) rule ∙ sym (b.is_need c))

pub heads_are_one : HeadsAreOne
heads_are_one m i g h a b =
    let pair : a.pair ≡ b.pair = same_Some a.pair b.pair (sym a.stands ∙ b.stands) in
    let one : g.0 ≡ h.0 = same_Some g.0 h.0 (sym a.one ∙ ap (λ (q : ℕ × ℕ). symbol_in (parts_of m) q.0) pair ∙ b.one) in
    let two : g.1 ≡ h.1 = same_Some g.1 h.1 (sym a.two ∙ ap (λ (q : ℕ × ℕ). symbol_in (parts_of m) q.1) pair ∙ b.two) in
    λ j. (one j, two j)

-- ---- cells on lease

stays_leased : (bag a b c : ArenaView) → AreSettled bag a b → AreSettled bag a c → (n : ℕ) → n < length a.states → IsLeased (state_at b n) → IsLeased (state_at c n)
stays_leased bag a b c s t n small leased =
    let was = s.none n small leased in
    t.stay n was.0 was.1

pub settled_leases_are_one : SettledLeasesAreOne
settled_leases_are_one bag a b c s t =
    (s.memory ∙ sym t.memory, s.cells ∙ sym t.cells, λ n small. (stays_leased bag a b c s t n small, stays_leased bag a c b t s n small))

-- ---- first pairs

pub passes : (m n : MachineParts) (j k : ℕ) → Runs m k n → j < k → (u : MachineParts) × Runs m j u × ((o : MachineParts) × StepsAt u 0 o)
passes m n j zero (at_start _) l = absurd (omega (arith, l))
passes m o j (suc k) (then_step _ n _ _ before s) l = elim (let z : (j < k) ⊎ (j ≡ k) = grind (arith, l) in z) [
  | inl less ↦ passes m n j k before less
  | inr same ↦ (n, subst (λ i. Runs m i n) (sym same) before, (o, s))
]

module _ (f : ℕ → ℕ) (m n : MachineParts) (same : IsSameMachine f m n) where
  pub room_moved : HasRoomAt m 0 → HasRoomAt n 0
  room_moved (need, at, room) = (need, need_moved f m n same 0 need at, subst (IsEnough (count_of need)) (sym (ap count_of same.vacant)) room)

-- a run that can't go on is no shorter than another one
not_shorter : (s u n o : MachineParts) (j k : ℕ) → IsReducer s → IsReducer u → AreSame s u → Runs s j n → Runs u k o → TakesNoFirst n → j < k → ⊥
not_shorter s u n o j k h g same one two ends l =
    let w = passes u o j k two l in
    let r = same_run s u n w.0 j h g same one w.1 in
    let back = an_equivalence.back n w.0 (reducer_runs s n j h one) r in
    elim ends [
      | inl none ↦ (
          let first = w.2.1 in
          let z : ◌≡◌ {A = Option (ℕ × ℕ)} None (Some first.pair) = sym (ap (λ q. slice_get q 0) (r.1.queue ∙ ap (map (both r.0)) none)) ∙ first.stands in
          cc
          )
      | inr never ↦ never (room_moved back.0 w.0 n back.1 w.2.1.room)
    ]

pub first_steps_are_one : FirstStepsAreOne
first_steps_are_one m n o most j k h (s, one, run) fits ends (u, two, other) fits_too ends_too =
    let of_s = reducer_same m s h one.0 one.1 in
    let of_u = reducer_same m u h two.0 two.1 in
    let same = an_equivalence.through s m u (an_equivalence.back m s h one) two in
    let back = an_equivalence.through u m s (an_equivalence.back m u h two) one in
    let as_long : j ≡ k = elim (let z : (j < k) ⊎ (k < j) ⊎ (j ≡ k) = grind arith in z) [
      | inl l ↦ absurd (not_shorter s u n o j k of_s of_u same run other (ends (omega (arith, l, fits_too))) l)
      | inr z ↦ elim z [ inl l ↦ absurd (not_shorter u s o n k j of_u of_s back other run (ends_too (omega (arith, l, fits))) l) | inr e ↦ e ]
    ] in
    (as_long, same_run s u n o k of_s of_u same (subst (λ i. Runs s i n) as_long run) other)

-- ---- cuts

-- a net with the same agents, wires and free ends is the same under the same names
module _ (a b : Net ℕ) (symbols : (y s : ℕ) → (b.symbol y ≡ Some s) ↔ (a.symbol y ≡ Some s)) (wires : (u v : Point ℕ) → (b.partner u ≡ Some v) ↔ (a.partner u ≡ Some v)) (free : b.free ≡ a.free) where
  same_net : IsRenamed (λ y. y) a b
  same_net =
      let own = renamed_self a in
      record {
        apart = own.apart;
        agents = λ y s. ((λ e. (own.agents y s).0 ((symbols y s).0 e)), (λ e. (symbols y s).1 ((own.agents y s).1 e)));
        wires = λ u v. ((λ e. (own.wires u v).0 ((wires u v).0 e)), (λ e. (wires u v).1 ((own.wires u v).1 e)));
        free = free;
      }

pub cuts_are_one : CutsAreOne
cuts_are_one m n o c i x y =
    let p : System = system_of m.program in
    let w : Net ℕ = net_in m in
    let a : ℕ = length w.free in
    let one : x.cut.one ≡ y.cut.one = x.here ∙ sym y.here in
    let other : x.cut.other ≡ y.cut.other = same_Some x.cut.other y.cut.other (sym x.cut.wire ∙ ap w.partner one ∙ y.cut.wire) in
    let first : x.cut.first ≡ y.cut.first = same_Some x.cut.first y.cut.first (sym x.cut.type_one ∙ ap (type_in p.symbols w) one ∙ y.cut.type_one) in
    let second : x.cut.second ≡ y.cut.second = same_Some x.cut.second y.cut.second (sym x.cut.type_other ∙ ap (type_in p.symbols w) other ∙ y.cut.type_other) in
    let cut : CutsWire w x.cut.one x.cut.other a (suc a) (net_in o) =
    subst (λ (q : Point ℕ). CutsWire w x.cut.one q a (suc a) (net_in o)) (sym other) (subst (λ (q : Point ℕ). CutsWire w q y.cut.other a (suc a) (net_in o)) (sym one) y.cut.cut)
    in
    record {
      program = y.program ∙ sym x.program;
      net = same_net (net_in n) (net_in o)
          (λ k s. ((λ e. (x.cut.cut.agents k s).0 ((cut.agents k s).1 e)), (λ e. (cut.agents k s).0 ((x.cut.cut.agents k s).1 e))))
          (λ u v. ((λ e. (x.cut.cut.wires u v).1 ((cut.wires u v).0 e)), (λ e. (cut.wires u v).1 ((x.cut.cut.wires u v).0 e))))
          (y.cut.free ∙ ap (λ (t : PortType). w.free ++ (t ∷ y.cut.second ∷ [])) (sym first) ∙ ap (λ (t : PortType). w.free ++ (x.cut.first ∷ t ∷ [])) (sym second) ∙ sym x.cut.free);
      names = y.names ∙ sym x.names;
      queue = y.queue ∙ sym x.queue ∙ sym (map-id n.queue);
      vacant = y.vacant ∙ sym x.vacant;
    }

-- ---- joints

same_beginning : {X : Type 0} (xs ys zs ws : List X) → length zs ≡ length ws → xs ++ zs ≡ ys ++ ws → xs ≡ ys
same_beginning xs ys zs ws many e =
    let one = length-append xs zs in
    let two = length-append ys ws in
    let all = ap length e in
    let same : length xs ≡ length ys = omega (arith, one, two, all, many) in
    sym (take-append_seam xs zs) ∙ ap (take (length xs)) e ∙ ap (λ k. take k (ys ++ ws)) same ∙ take-append_seam ys ws

-- a pair of the one net is one of the other, if its agents have the same symbols there, and their principal ports are a wire
pair_there : (t : Tables) (k l : MachineParts) → ((x : ℕ) (s : SymbolNo) → symbol_in (parts_of k) x ≡ Some s → symbol_in (parts_of l) x ≡ Some s)
    → (q : ℕ × ℕ) → IsActivePair t (parts_of k) (agents_at q) → (net_in l).partner (Port q.0 0) ≡ Some (Port q.1 0) → IsActivePair t (parts_of l) (agents_at q)
pair_there t k l symbols q h wire = record {
  active = map_is (partner_in (parts_of l) (code.Port (agents_at q).0 0)) (Port q.1 0) wire;
  first = h.first;
  second = h.second;
  one = symbols q.0 h.first h.one;
  two = symbols q.1 h.second h.two;
  order = h.order;
}

pair_wire : (t : Tables) (k : MachineParts) (q : ℕ × ℕ) → IsActivePair t (parts_of k) (agents_at q) → (net_in k).partner (Port q.0 0) ≡ Some (Port q.1 0)
pair_wire t k q h = net_wire (parts_of k) (code.Port (agents_at q).0 0) (code.Port (agents_at q).1 0) h.active

symbols_by : (k l : MachineParts) → ((y s : ℕ) → (net_in k).symbol y ≡ Some s → (net_in l).symbol y ≡ Some s) → (x : ℕ) (s : SymbolNo) → symbol_in (parts_of k) x ≡ Some s → symbol_in (parts_of l) x ≡ Some s
symbols_by k l same x s e = symbol_is (symbol_in (parts_of l) x) s (same x s.0 (symbol_number (symbol_in (parts_of k) x) s e))

-- the two are the agents at whose principal ports these free ends were
abbrev MeetAt : Net ℕ → ℕ → ℕ → ℕ × ℕ → Type 0
MeetAt w a b q = (r : ℕ × ℕ) × (w.partner (Free a) ≡ Some (Port r.0 0)) × (w.partner (Free b) ≡ Some (Port r.1 0)) × AreSameTwo r q

port_of : (x y : ℕ) → ◌≡◌ {A = Point ℕ} (Port x 0) (Port y 0) → x ≡ y
port_of x y e = cc

meet_once : (w : Net ℕ) (a b : ℕ) (p q : ℕ × ℕ) → MeetAt w a b p → MeetAt w a b q → AreSameTwo p q
meet_once w a b p q (r, one, two, is) (s, first, second, also) =
    let left : r.0 ≡ s.0 = port_of r.0 s.0 (same_Some (Port r.0 0) (Port s.0 0) (sym one ∙ first)) in
    let right : r.1 ≡ s.1 = port_of r.1 s.1 (same_Some (Port r.1 0) (Port s.1 0) (sym two ∙ second)) in
    let same : r ≡ s = λ j. (left j, right j) in
    both_same s p q (subst (λ (z : ℕ × ℕ). AreSameTwo z p) same is) also

first_of : (made : List (ℕ × ℕ)) (q : ℕ × ℕ) → made ≡ q ∷ [] → slice_get made 0 ≡ Some q
first_of made q e = ap (λ (z : List (ℕ × ℕ)). slice_get z 0) e

-- the pairs after a joint: those of before, and at most one more
module _ (m n : MachineParts) (h : IsReducer m) (k : IsReducer n) (x : JoinsLast m n) where
  abbrev t : Tables
  t = m.program.tables

  abbrev w : Net ℕ
  w = net_in m

  abbrev a : ℕ
  a = length (net_in n).free

  queue_there : IsQueueOf t (parts_of n) n.queue
  queue_there = subst (λ (p : Program). IsQueueOf p.tables (parts_of n) n.queue) x.program k.queue

  old_or_new : (q : ℕ × ℕ) → IsActivePair t (parts_of n) (agents_at q) → IsActivePair t (parts_of m) (agents_at q) ⊎ MeetAt w a (suc a) q
  old_or_new q pair = let after = (x.joined.joins.wires (Port q.0 0) (Port q.1 0)).0 (pair_wire t n q pair) in elim (after.2) [
    | inl old ↦ inl (pair_there t n m (symbols_by n m (λ y s e. (x.joined.joins.agents y s).0 e)) q pair old)
    | inr new ↦ elim new [
      | inl z ↦ inr (q, (net_at m h).back (Port q.0 0) (Free a) z.0, z.1, inl refl)
      | inr z ↦ inr ((q.1, q.0), z.1, (net_at m h).back (Port q.0 0) (Free (suc a)) z.0, inr refl)
    ]
  ]

  -- a pair of before is not behind
  pub not_behind : (j : ℕ) (q : ℕ × ℕ) → slice_get x.made j ≡ Some q → IsActivePair t (parts_of m) (agents_at q) → ⊥
  not_behind j q at pair =
      let i = h.queue.all (agents_at q) pair in
      let low = slice_get_within m.queue i.0 q i.1 in
      let first : slice_get n.queue i.0 ≡ Some q = ap (λ (z : List (ℕ × ℕ)). slice_get z i.0) x.queue ∙ kept_at m.queue x.made i.0 q i.1 in
      let second : slice_get n.queue (length m.queue + j) ≡ Some q = ap (λ (z : List (ℕ × ℕ)). slice_get z (length m.queue + j)) x.queue ∙ past_first m.queue x.made j ∙ at in
      let same = queue_there.once i.0 (length m.queue + j) q first second in
      omega (arith, low, same)

  pub made_pair : (j : ℕ) (q : ℕ × ℕ) → slice_get x.made j ≡ Some q → IsActivePair t (parts_of n) (agents_at q)
  made_pair j q at = queue_there.pairs (length m.queue + j) q (ap (λ (z : List (ℕ × ℕ)). slice_get z (length m.queue + j)) x.queue ∙ past_first m.queue x.made j ∙ at)

  pub meets : (j : ℕ) (q : ℕ × ℕ) → slice_get x.made j ≡ Some q → MeetAt w a (suc a) q
  meets j q at = elim (old_or_new q (made_pair j q at)) [ inl old ↦ absurd (not_behind j q at old) | inr new ↦ new ]

  -- .. and a pair that isn't of before is behind
  pub is_behind : (q : ℕ × ℕ) → IsActivePair t (parts_of n) (agents_at q) → (IsActivePair t (parts_of m) (agents_at q) → ⊥) → x.made ≡ [] → ⊥
  is_behind q pair none empty =
      let i = queue_there.all (agents_at q) pair in
      let here : slice_get m.queue i.0 ≡ Some q = sym (ap (λ (z : List (ℕ × ℕ)). slice_get z i.0) (x.queue ∙ ap (λ (z : List (ℕ × ℕ)). m.queue ++ z) empty ∙ append-nil m.queue)) ∙ i.1 in
      none (h.queue.pairs i.0 q here)

  one_made : (p q : ℕ × ℕ) → slice_get x.made 0 ≡ Some p → slice_get x.made 1 ≡ Some q → ⊥
  one_made p q first second =
      let same : p ≡ q = one_order t (parts_of n) (parts_of n) (λ y s e. e) p q (made_pair 0 p first) (made_pair 1 q second) (meet_once w a (suc a) p q (meets 0 p first) (meets 1 q second)) in
      let at : (j : ℕ) (r : ℕ × ℕ) → slice_get x.made j ≡ Some r → slice_get n.queue (length m.queue + j) ≡ Some r = λ j r e. ap (λ (z : List (ℕ × ℕ)). slice_get z (length m.queue + j)) x.queue ∙ past_first m.queue x.made j ∙ e in
      let places = queue_there.once (length m.queue + 0) (length m.queue + 1) q (at 0 p first ∙ ap (λ (z : ℕ × ℕ). Some z) same) (at 1 q second) in
      omega (arith, places)

  pub at_most_one : (x.made ≡ []) ⊎ ((q : ℕ × ℕ) × (x.made ≡ q ∷ []))
  at_most_one = go x.made refl
    where
      go : (qs : List (ℕ × ℕ)) → x.made ≡ qs → (x.made ≡ []) ⊎ ((q : ℕ × ℕ) × (x.made ≡ q ∷ []))
      go [] e = inl e
      go (q ∷ []) e = inr (q, e)
      go (p ∷ q ∷ qs) e = absurd (one_made p q (ap (λ (z : List (ℕ × ℕ)). slice_get z 0) e) (ap (λ (z : List (ℕ × ℕ)). slice_get z 1) e))

module _ (m n o : MachineParts) (h : IsReducer m) (k : IsReducer n) (l : IsReducer o) (x : JoinsLast m n) (y : JoinsLast m o) where
  abbrev own : ℕ
  own = length (net_in n).free

  same_free : (net_in n).free ≡ (net_in o).free
  same_free =
      same_beginning (net_in n).free (net_in o).free (x.joined.first ∷ x.joined.second ∷ []) (y.joined.first ∷ y.joined.second ∷ []) refl (sym x.joined.free ∙ y.joined.free)

  joins : JoinsEnds (net_in m) own (suc own) (net_in o)
  joins = subst (λ (z : ℕ). JoinsEnds (net_in m) z (suc z) (net_in o)) (sym (ap length same_free)) y.joined.joins

  nets : IsRenamed (λ y. y) (net_in n) (net_in o)
  nets = same_net (net_in n) (net_in o)
      (λ z s. ((λ e. (x.joined.joins.agents z s).1 ((joins.agents z s).0 e)), (λ e. (joins.agents z s).1 ((x.joined.joins.agents z s).0 e))))
      (λ u v. ((λ e. (x.joined.joins.wires u v).1 ((joins.wires u v).0 e)), (λ e. (joins.wires u v).1 ((x.joined.joins.wires u v).0 e))))
      (sym same_free)

  forth : (q : ℕ × ℕ) → IsActivePair m.program.tables (parts_of n) (agents_at q) → IsActivePair m.program.tables (parts_of o) (agents_at q)
  forth q pair =
      pair_there m.program.tables n o (symbols_by n o (λ z s e. (joins.agents z s).1 ((x.joined.joins.agents z s).0 e))) q pair
      ((joins.wires (Port q.0 0) (Port q.1 0)).1 ((x.joined.joins.wires (Port q.0 0) (Port q.1 0)).0 (pair_wire m.program.tables n q pair)))

  back : (q : ℕ × ℕ) → IsActivePair m.program.tables (parts_of o) (agents_at q) → IsActivePair m.program.tables (parts_of n) (agents_at q)
  back q pair =
      pair_there m.program.tables o n (symbols_by o n (λ z s e. (x.joined.joins.agents z s).1 ((joins.agents z s).0 e))) q pair
      ((x.joined.joins.wires (Port q.0 0) (Port q.1 0)).1 ((joins.wires (Port q.0 0) (Port q.1 0)).0 (pair_wire m.program.tables o q pair)))

  same_made : x.made ≡ y.made
  same_made = go (at_most_one m n h k x) (at_most_one m o h l y)
    where
      go : (x.made ≡ []) ⊎ ((q : ℕ × ℕ) × (x.made ≡ q ∷ [])) → (y.made ≡ []) ⊎ ((q : ℕ × ℕ) × (y.made ≡ q ∷ [])) → x.made ≡ y.made
      go (inl e) (inl f) = e ∙ sym f
      go (inl e) (inr (q, f)) =
          let at = first_of y.made q f in absurd (is_behind m n h k x q (back q (made_pair m o h l y 0 q at)) (not_behind m o h l y 0 q at) e)
      go (inr (p, e)) (inl f) =
          let at = first_of x.made p e in absurd (is_behind m o h l y p (forth p (made_pair m n h k x 0 p at)) (not_behind m n h k x 0 p at) f)
      go (inr (p, e)) (inr (q, f)) =
          let one = first_of x.made p e in
          let two = first_of y.made q f in
          let meets_too = subst (λ (z : ℕ). MeetAt (net_in m) z (suc z) q) (sym (ap length same_free)) (meets m o h l y 0 q two) in
          let same : p ≡ q =
          one_order m.program.tables (parts_of n) (parts_of o) (symbols_by n o (λ z s d. (joins.agents z s).1 ((x.joined.joins.agents z s).0 d))) p q (made_pair m n h k x 0 p one) (made_pair m o h l y 0 q two)
          (meet_once (net_in m) own (suc own) p q (meets m n h k x 0 p one) meets_too)
          in
          e ∙ ap (λ (z : ℕ × ℕ). z ∷ []) same ∙ sym f

  pub joined_once : IsSameMachine (λ y. y) n o
  joined_once = record {
    program = y.program ∙ sym x.program;
    net = nets;
    names = sym (same_beginning (map (λ (f : FreeEnd). f.name) n.free) (map (λ (f : FreeEnd). f.name) o.free) (x.names.0 ∷ x.names.1 ∷ []) (y.names.0 ∷ y.names.1 ∷ []) refl (sym x.names.2 ∙ y.names.2));
    queue = y.queue ∙ ap (λ (z : List (ℕ × ℕ)). m.queue ++ z) (sym same_made) ∙ sym x.queue ∙ sym (map-id n.queue);
    vacant = y.vacant ∙ sym x.vacant;
  }

pub joints_are_one : JointsAreOne
joints_are_one m n o h k l x y = joined_once m n o h k l x y
