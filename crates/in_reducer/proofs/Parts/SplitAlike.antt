-- The results of splitting off and of gluing on are determined, except for the numbers of agents.
use Rattle.std.proofs.Common.{◌≡◌, inl, inr, ◌+◌, ◌<◌, ℕ, Option, Some, None, List, length, map, slice_get, refl, sym, subst, ap, ◌∙◌, arith}
use Rattle.std.proofs.lemmas.List.{length-map}
use Rattle.std.proofs.lemmas.Option.{slice_get_within}
use Rattle.in_arena.specs.declared.content.CellClass.{CellClass}
use Rattle.in_arena.specs.declared.content.CellNo.{CellNo}
use Rattle.in_net.proofs.Public.{all_same}
use Rattle.in_check.specs.Programs.{Program}
use Rattle.in_check.specs.Runs.{IsRenamed}
use Rattle.in_compile.specs.Cells.{agents_of, count_of}
use Rattle.in_interaction.specs.Queues.{IsQueueOf, both}
use Rattle.in_gluing.proofs.Public.{at_outer, map_some, beside_is_one, beside_parts_are_alike}
use Rattle.in_cells.proofs.Public.{NamedOr, named_or}
use Rattle.in_reducer.specs.Cutting.{net_in}
use Rattle.in_reducer.specs.Machines.{MachineParts, HasItsPairs, parts_of}
use Rattle.in_reducer.specs.Parting.{IsSplitButQueues, ends_of_two, names_of, names_of_two, place_of_two}
use Rattle.in_reducer.specs.PartingLaws.{AreSameTwo, DifferInNumbers, DifferInOrder, GluingsAreAlike, IsReordered, SplitsAreAlike}
use Rattle.in_reducer.proofs.Cuts.Reduced.{same_agents}
use Rattle.in_reducer.proofs.Pairs.Reordered.{JoinsThere, joins_beside, joins_within, reordered, reordered_alone}
use Rattle.in_reducer.proofs.Parts.TwoEnds.{part_of_two, rest_of_two}

-- two lists of one length are one if they have the same element at each place
same_below : {X : Type 0} (xs ys : List X) (w : ℕ) → length xs ≡ w → length ys ≡ w → ((e : ℕ) → e < w → slice_get xs e ≡ slice_get ys e) → xs ≡ ys
same_below {X} xs ys w many many_too at = all_same xs ys (λ e. go e (slice_get xs e) (slice_get ys e) refl refl)
  where
    go : (e : ℕ) (a b : Option X) → slice_get xs e ≡ a → slice_get ys e ≡ b → slice_get xs e ≡ slice_get ys e
    go e (Some x) b f g = at e (let l = slice_get_within xs e x f in omega (arith, l, many))
    go e None (Some y) f g = at e (let l = slice_get_within ys e y g in omega (arith, l, many_too))
    go e None None f g = f ∙ sym g

-- queues of nets that differ in their numbers alone
module _ (m m_too : MachineParts) (program : m.program ≡ m_too.program) (own : HasItsPairs m) (own_too : HasItsPairs m_too) where
  pairs_too : IsQueueOf m.program.tables (parts_of m_too) m_too.queue
  pairs_too = subst (λ (z : Program). IsQueueOf z.tables (parts_of m_too) m_too.queue) (sym program) own_too

  queues_alike : (f : ℕ → ℕ) → IsRenamed f (net_in m) (net_in m_too) → JoinsThere (net_in m) → IsReordered (λ q r. AreSameTwo (both f q) r) m.queue m_too.queue
  queues_alike f named joins = reordered m.program.tables f (parts_of m) (parts_of m_too) named joins m.queue m_too.queue own pairs_too

  one_way_round : IsRenamed (λ y. y) (net_in m) (net_in m_too) → IsReordered (λ q r. AreSameTwo (both (λ y. y) q) r) m.queue m_too.queue → IsReordered (λ q r. q ≡ r) m.queue m_too.queue
  one_way_round named alike = reordered_alone m.program.tables (parts_of m) (parts_of m_too) named m.queue m_too.queue own pairs_too alike

module _ (m rest part rest_too part_too : MachineParts) (agents : List CellNo) (own cuts size : ℕ) (off : IsSplitButQueues m agents own cuts size rest part) (off_too : IsSplitButQueues m agents own cuts size rest_too part_too) where
  abbrev ends : List (ℕ × ℕ)
  ends = ends_of_two own cuts

  same_symbol : (y : ℕ) → (net_in rest).symbol y ≡ (net_in rest_too).symbol y
  same_symbol y = go (named_or agents (λ z. z) y)
    where
      go : NamedOr agents (λ z. z) y → (net_in rest).symbol y ≡ (net_in rest_too).symbol y
      go (inl at) =
          ap (net_in rest).symbol (sym at.3) ∙ off.of_rest.gone at.0 at.1 at.2 ∙ sym (off_too.of_rest.gone at.0 at.1 at.2) ∙ ap (net_in rest_too).symbol at.3
      go (inr out) =
          let none : (k : ℕ) → slice_get agents k ≡ Some (record { 0 = y }) → ⊥ = λ k at. out k (record { 0 = y }) at refl in
          off.of_rest.others y none ∙ sym (off_too.of_rest.others y none)

  -- ---- names of free ends

  name_kept : (a b : MachineParts) → map (λ n. Some n) (names_of m) ≡ map (names_of_two (names_of a) (names_of b)) ends →
      (k : ℕ) (q : ℕ × ℕ) → slice_get ends k ≡ Some q → slice_get (names_of m) k ≡ names_of_two (names_of a) (names_of b) q
  name_kept a b names k q at = at_outer (names_of m) ends (names_of_two (names_of a) (names_of b)) names k q at

  many_names : (a : MachineParts) (w : ℕ) → length a.free ≡ w → length (names_of a) ≡ w
  many_names a w many = length-map a.free (λ f. f.name) ∙ many

  same_rest_names : names_of rest ≡ names_of rest_too
  same_rest_names =
      same_below (names_of rest) (names_of rest_too) (own + cuts) (many_names rest (own + cuts) off.many_rest) (many_names rest_too (own + cuts) off_too.many_rest)
      (λ e l. (
      let at = rest_of_two own cuts e l in
      let k = place_of_two own 0 e in
      sym (name_kept rest part off.two.names k (0, e) at) ∙ name_kept rest_too part_too off_too.two.names k (0, e) at
      ))

  same_part_names : names_of part ≡ names_of part_too
  same_part_names =
      same_below (names_of part) (names_of part_too) cuts (many_names part cuts off.many_part) (many_names part_too cuts off_too.many_part)
      (λ e l. (
      let at = part_of_two own cuts e l in
      let k = place_of_two own 1 e in
      sym (name_kept rest part off.two.names k (1, e) at) ∙ name_kept rest_too part_too off_too.two.names k (1, e) at
      ))

  -- ---- free cells

  same_rest_agents : (c : CellClass) → agents_of m.program.tables c rest.agents ≡ agents_of m.program.tables c rest_too.agents
  same_rest_agents c = same_agents m.program.tables c rest rest_too (λ y s. ((λ e. sym (same_symbol y) ∙ e), (λ e. same_symbol y ∙ e)))

  same_rest_vacant : (c : CellClass) → count_of rest.vacant c ≡ count_of rest_too.vacant c
  same_rest_vacant c = let a = off.cells c in let b = off_too.cells c in let d = same_rest_agents c in omega (arith, a, b, d)

  part_vacant : (a : MachineParts) (c : CellClass) → a.program ≡ m.program → count_of a.vacant c + agents_of a.program.tables c a.agents ≡ size → count_of a.vacant c + agents_of m.program.tables c a.agents ≡ size
  part_vacant a c same counted = subst (λ (p : Program). count_of a.vacant c + agents_of p.tables c a.agents ≡ size) same counted

  same_part_vacant : (c : CellClass) → count_of part.vacant c ≡ count_of part_too.vacant c
  same_part_vacant c =
      let a = part_vacant part c off.two.program_part (off.part_cells c) in
      let b = part_vacant part_too c off_too.two.program_part (off_too.part_cells c) in
      let d = off.vacant c in
      let e = off_too.vacant c in
      let f = same_rest_vacant c in
      omega (arith, a, b, d, e, f)

  -- ---- nets

  alike : DifferInOrder rest rest_too × DifferInNumbers part part_too
  alike =
      let nets =
      beside_parts_are_alike (net_in rest) (net_in part) (net_in rest_too) (net_in part_too) (net_in m) off.two.name off_too.two.name ends
      off.two.within_rest off.two.within_part off_too.two.within_rest off_too.two.within_part off.two.beside off_too.two.beside same_symbol in
      let program_rest = off.two.program_rest ∙ sym off_too.two.program_rest in
      let program_part = off.two.program_part ∙ sym off_too.two.program_part in
      let rests : DifferInNumbers rest rest_too = record {
        number = λ y. y;
        net = nets.0;
        program = program_rest;
        names = same_rest_names;
        vacant = same_rest_vacant;
        queue = λ own_pairs too. queues_alike rest rest_too program_rest own_pairs too (λ y. y) nets.0 (joins_within (net_in rest) off.two.within_rest);
      } in (
        record {
          net = nets.0;
          alike = rests;
          queue = λ own_pairs too. one_way_round rest rest_too program_rest own_pairs too nets.0 (rests.queue own_pairs too);
        },
        record {
          number = nets.1;
          net = nets.2;
          program = program_part;
          names = same_part_names;
          vacant = same_part_vacant;
          queue = λ own_pairs too. queues_alike part part_too program_part own_pairs too nets.1 nets.2 (joins_within (net_in part) off.two.within_part);
        },
      )

pub splits_are_alike : SplitsAreAlike
splits_are_alike m rest part rest_too part_too agents own cuts size off off_too = alike m rest part rest_too part_too agents own cuts size off off_too

pub gluings_are_alike : GluingsAreAlike
gluings_are_alike rest part m m_too own cuts on on_too =
    let nets = beside_is_one (net_in rest) (net_in part) (net_in m) (net_in m_too) on.two.name on_too.two.name (ends_of_two own cuts) on.two.within_rest on.two.within_part on.two.beside on_too.two.beside in
    let program : m.program ≡ m_too.program = sym on.two.program_rest ∙ on_too.two.program_rest in
    record {
      number = nets.0;
      net = nets.1;
      program = program;
      names = map_some (names_of m) (names_of m_too) (on.two.names ∙ sym on_too.two.names);
      vacant = λ c. (
          let a = on.vacant c in
          let b = on_too.vacant c in
          let same = ap (λ (p : Program). agents_of p.tables c part.agents) program in
          omega (arith, a, b, same)
          );
      queue = λ own_pairs too.
          queues_alike m m_too program own_pairs too nets.0 nets.1 (joins_beside (net_in rest) (net_in part) (net_in m) on.two.name (ends_of_two own cuts) on.two.within_rest on.two.within_part on.two.beside);
    }
