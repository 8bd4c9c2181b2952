-- A state that is the same as a reducer, up to the numbers of its agents, is a reducer.
use Rattle.std.proofs.Common.{◌≡◌, ◌<◌, ◌+◌, ℕ, suc, Option, Some, None, IsSome, List, [], ◌∷◌, map, length, slice_get, option_map, option_and_then, refl, sym, ap, subst, ◌∙◌, arith}
use native.Mathlib.Decide.{ℕ_discrete}
use Rattle.std.proofs.lemmas.Option.{same_Some}
use Rattle.in_arena.specs.declared.content.CellCounts.{CellCounts}
use Rattle.in_base.proofs.Among.{among_all, among_at}
use Rattle.in_symbols.specs.Tables.{Tables, arity_of}
use Rattle.in_net.specs.declared.nets.Cell.{Cell}
use Rattle.in_net.specs.declared.nets.Point as points
use Rattle.in_net.specs.Built.{IsOver, IsCellOver}
use Rattle.in_net.specs.Nets.{Port, Free, Point, net_of, point_of}
use Rattle.in_net.specs.Parts.{Parts, cell_in}
use Rattle.in_net.proofs.Public.{port_agent, port_place}
use Rattle.in_interaction.specs.Queues.{IsQueueOf, both}
use Rattle.in_interaction.proofs.Public.{cell_of_symbol, has_value}
use Rattle.in_gluing.proofs.Public.{not_some}
use Rattle.in_check.specs.Checking.{IsAccepted}
use Rattle.in_check.specs.Programs.{Program}
use Rattle.in_net.specs.Renaming.{renamed, IsRenamed}
use Rattle.in_check.specs.Systems.{System, IsSound, system_of}
use Rattle.in_base.proofs.Each.{all_of}
use Rattle.in_check.proofs.Public.{net_renamed, below_renamed, typed_renamed, circle_renamed}
use Rattle.in_base.proofs.Places.{is_some as there}
use Rattle.in_compile.specs.Cells.{agents_of, count_of}
use Rattle.in_compile.specs.declared.cells.Need.{Need}
use Rattle.in_reducer.specs.Machines.{MachineParts, HasCells, parts_of}
use Rattle.in_reducer.specs.Reducers.{IsReducer}
use Rattle.in_reducer.specs.Starts.{IsStart}
use Rattle.in_reducer.proofs.Cells.AsMany.{as_many_of}
use Rattle.in_reducer.proofs.Steps.Wired.{at_among}
use Rattle.in_reducer.proofs.Starts.Started.{queue_moved}
use Rattle.in_reducer.proofs.Steps.StepsOn.{net_at, opposed_at}
use Rattle.in_reducer.specs.Same.{IsSameMachine, AreSame}
use Rattle.in_reducer.proofs.Numbers.Renamed.{symbol_of_cell}
use Rattle.in_reducer.proofs.Numbers.SameStep.{map_twice}
use Rattle.in_reducer.proofs.Numbers.SameKind.{composed}

-- ---- a sound net under other names

pub sound_under : (p : System) (f : ℕ → ℕ) (n m : Parts) → IsRenamed f (net_of n) (net_of m) → IsSound p (net_of n) → IsSound p (net_of m)
sound_under p f n m named h = record {
  net = net_renamed p.symbols f (net_of n) (net_of m) h.net named;
  within = below_renamed p.symbols f (net_of n) (net_of m) h.net named p.count h.within;
  typed = typed_renamed p.symbols f (net_of n) (net_of m) h.net named h.typed;
  no_circle = λ c. h.no_circle (circle_renamed p.symbols f (net_of n) (net_of m) h.net named ℕ_discrete c);
}

-- ---- cells that show the same under other numbers

-- two lists have one length if each place of either is a place of the other
as_long : {X Y : Type 0} (xs : List X) (ys : List Y) → ((i : ℕ) → IsSome (slice_get xs i) → IsSome (slice_get ys i)) → ((i : ℕ) → IsSome (slice_get ys i) → IsSome (slice_get xs i)) → length xs ≡ length ys
as_long [] [] a b = refl
as_long {X} [] (y ∷ ys) a b = absurd (not_some {X = X} None refl (b 0 refl))
as_long {X} {Y} (x ∷ xs) [] a b = absurd (not_some {X = Y} None refl (a 0 refl))
as_long (x ∷ xs) (y ∷ ys) a b = ap suc (as_long xs ys (λ i. a (suc i)) (λ i. b (suc i)))

module _ (t : Tables) (f : ℕ → ℕ) (m n : Parts) (named : IsRenamed f (net_of m) (net_of n)) (over : IsOver t m) where
  -- an agent with a joined port is there
  joined_there : (k : Parts) (x i : ℕ) (v : Point ℕ) → (net_of k).partner (Port x i) ≡ Some v → (c : Cell) × (cell_in k x ≡ Some c) × IsSome (slice_get c.ends i)
  joined_there k x i v e = go (cell_in k x) refl e
    where
      some_end : (c : Cell) → option_map point_of (slice_get c.ends i) ≡ Some v → IsSome (slice_get c.ends i)
      some_end c e = by (slice_get c.ends i) refl e
        where
          by : (o : Option points.Point) → slice_get c.ends i ≡ o → option_map point_of o ≡ Some v → IsSome (slice_get c.ends i)
          by None is h = absurd (not_some {X = Point ℕ} None refl (there None v h))
          by (Some q) is h = there (slice_get c.ends i) q is

      go : (o : Option Cell) → cell_in k x ≡ o → option_map point_of (option_and_then (λ (c : Cell). slice_get c.ends i) o) ≡ Some v → (c : Cell) × (cell_in k x ≡ Some c) × IsSome (slice_get c.ends i)
      go None is h = absurd (not_some {X = Point ℕ} None refl (there None v h))
      go (Some c) is h = (c, is, some_end c h)

  end_at : (k : Parts) (x i : ℕ) (c : Cell) → cell_in k x ≡ Some c → IsSome (slice_get c.ends i) → (v : Point ℕ) × ((net_of k).partner (Port x i) ≡ Some v)
  end_at k x i c e h =
      let q = has_value (slice_get c.ends i) h in
      (point_of q.0, ap (λ (o : Option Cell). option_map point_of (option_and_then (λ (c : Cell). slice_get c.ends i) o)) e ∙ ap (option_map point_of) q.1)

  listed_at : (k : Parts) (x : ℕ) (c : Cell) → cell_in k x ≡ Some c → slice_get k.cells x ≡ Some (Some c)
  listed_at k x c e = go (slice_get k.cells x) refl e
    where
      go : (o : Option (Option Cell)) → slice_get k.cells x ≡ o → option_and_then (λ (c : Option Cell). c) o ≡ Some c → slice_get k.cells x ≡ Some (Some c)
      go None is h = absurd (not_some {X = Cell} None refl (there None c h))
      go (Some o) is h = is ∙ ap (λ (z : Option Cell). Some z) h

  module _ (y : ℕ) (d : Cell) (stands : cell_in n y ≡ Some d) where
    before : (x : ℕ) × (f x ≡ y) × ((net_of m).symbol x ≡ Some d.symbol.0)
    before = (named.agents y d.symbol.0).0 (symbol_of_cell n y d stands)

    abbrev Old : Type 0
    Old = (c : Cell) × (cell_in m before.0 ≡ Some c) × (c.symbol.0 ≡ d.symbol.0)

    old : Old
    old = cell_of_symbol m before.0 d.symbol.0 before.2

    old_over : IsCellOver t (Some old.0)
    old_over = among_all (IsCellOver t) m.cells (Some old.0) over.cells (among_at m.cells before.0 (Some old.0) (listed_at m before.0 old.0 old.1))

    forth : (i : ℕ) → IsSome (slice_get old.0.ends i) → IsSome (slice_get d.ends i)
    forth i h =
        let v = end_at m before.0 i old.0 old.1 h in
        let w : (net_of n).partner (Port y i) ≡ Some (renamed f v.0) = ap (λ (z : ℕ). (net_of n).partner (Port z i)) (sym before.1) ∙ (named.wires (Port (f before.0) i) (renamed f v.0)).1 (Port before.0 i, v.0, refl, refl, v.1) in
        let z = joined_there n y i (renamed f v.0) w in
        subst (λ (c : Cell). IsSome (slice_get c.ends i)) (same_Some z.0 d (sym z.1 ∙ stands)) z.2

    back : (i : ℕ) → IsSome (slice_get d.ends i) → IsSome (slice_get old.0.ends i)
    back i h =
        let v = end_at n y i d stands h in
        let w = (named.wires (Port y i) v.0).0 v.1 in
        go w.0 w.1 w.2 w.4
      where
        go : (p q : Point ℕ) → renamed f p ≡ Port y i → (net_of m).partner p ≡ Some q → IsSome (slice_get old.0.ends i)
        go (Free k) q e h = cc
        go (Port x j) q e h =
            let z = joined_there m x j q h in
            let same : x ≡ before.0 = named.apart x before.0 (there ((net_of m).symbol x) z.0.symbol.0 (symbol_of_cell m x z.0 z.1)) (there ((net_of m).symbol before.0) d.symbol.0 before.2) (port_agent (f x) y j i e ∙ sym before.1) in
            let cell : z.0 ≡ old.0 = same_Some z.0 old.0 (sym z.1 ∙ ap (cell_in m) same ∙ old.1) in
            subst (λ (k : ℕ). IsSome (slice_get old.0.ends k)) (port_place (f x) y j i e) (subst (λ (c : Cell). IsSome (slice_get c.ends j)) cell z.2)

    new_over : IsCellOver t (Some d)
    new_over = (
      subst (λ (s : ℕ). s < length t.names) old.2 old_over.0,
      as_long d.ends old.0.ends back forth ∙ old_over.1 ∙ ap (λ (s : ℕ). arity_of t s + 1) old.2,
    )

  pub over_under : IsOver t n
  over_under = record { cells = all_of (IsCellOver t) n.cells (λ o a. go o (at_among n.cells o a)) }
    where
      go : (o : Option Cell) → (k : ℕ) × (slice_get n.cells k ≡ Some o) → IsCellOver t o
      go None r = tt
      go (Some d) r = new_over r.0 d (ap (option_and_then (λ (c : Option Cell). c)) r.1)

-- ---- reducers

pub counted_same : (m n : MachineParts) (f : ℕ → ℕ) → IsSameMachine f m n → (cells : CellCounts) → HasCells cells m → HasCells cells n
counted_same m n f same cells counted c =
    let as_many = as_many_of m.program.tables c f (parts_of m) (parts_of n) same.net in
    let free : count_of n.vacant c ≡ count_of m.vacant c = ap (λ (z : Need). count_of z c) same.vacant in
    let before = counted c in
    ap (λ (z : Program). count_of n.vacant c + agents_of z.tables c n.agents) same.program ∙ omega (arith, as_many, free, before)

module _ (m n : MachineParts) (h : IsReducer m) (f : ℕ → ℕ) (same : IsSameMachine f m n) where
  sound : IsSound (system_of m.program) (net_of (parts_of n))
  sound = sound_under (system_of m.program) f (parts_of m) (parts_of n) same.net h.net.sound

  pub reducer_same : IsReducer n
  reducer_same = record {
    accepted = (h.accepted.0, h.accepted.1, subst (λ (z : Program). IsAccepted h.accepted.0 h.accepted.1 z) (sym same.program) h.accepted.2);
    net = record {
      sound = subst (λ (z : Program). IsSound (system_of z) (net_of (parts_of n))) (sym same.program) sound;
      over = subst (λ (z : Program). IsOver z.tables (parts_of n)) (sym same.program) (over_under m.program.tables f (parts_of m) (parts_of n) same.net h.net.over);
    };
    queue = subst (λ (z : Program). IsQueueOf z.tables (parts_of n) n.queue) (sym same.program)
        (subst (IsQueueOf m.program.tables (parts_of n)) (sym same.queue) (queue_moved m.program.tables f (parts_of m) (parts_of n) (net_at m h) same.net (opposed_at m h) m.queue h.queue));
    cells = (h.cells.0, h.cells.1, counted_same m n f same h.cells.0 h.cells.2);
  }

-- ---- starts

pub start_same_as : (p : Program) (cells : CellCounts) (m n : MachineParts) → IsStart p cells m → AreSame m n → IsStart p cells n
start_same_as p cells m n h (f, same) = record {
  program = same.program ∙ h.program;
  over = over_under p.tables f (parts_of m) (parts_of n) same.net h.over;
  name = λ x. f (h.name x);
  net = composed h.name f (net_of p.net) (net_of (parts_of m)) (net_of (parts_of n)) h.net same.net;
  names = same.names ∙ h.names;
  first = h.first;
  pairs = h.pairs;
  queue = same.queue ∙ ap (map (both f)) h.queue ∙ map_twice (both f) (both h.name) h.first;
  counted = counted_same m n f same cells h.counted;
}
