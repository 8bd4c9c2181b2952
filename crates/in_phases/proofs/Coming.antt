-- A part comes back.
use Rattle.std.proofs.Common.{◌≡◌, ◌+◌, ◌≤◌, ℕ, List, Vec, length, refl, sym, ap, subst, ◌∙◌, arith}
use Rattle.std.specs.Vec.{with_items}
use Rattle.std.proofs.lemmas.List.{length-map, with_items_is}
use Rattle.in_arena.specs.declared.content.CellClass.{CellClass}
use Rattle.in_check.specs.Programs.{Program}
use Rattle.in_compile.specs.Cells.{agents_of, count_of}
use Rattle.in_reducer.specs.Gluing.{CanAppend}
use Rattle.in_reducer.specs.Machines.{MachineParts}
use Rattle.in_reducer.specs.Parting.{IsGluedOn, ReducesTo}
use Rattle.in_reducer.specs.Reducers.{IsReducer}
use Rattle.in_reducer.specs.PartingLaws.{IsCutTimes}
use Rattle.in_reducer.proofs.Public.{parts_reduce_the_whole, stays_reduce}
use Rattle.in_phases.specs.declared.taking.Taken.{Taken}
use Rattle.in_phases.specs.Phases.{CanComeBack, HasFree, IsSplitBy, IsTakenOut}
use Rattle.in_phases.proofs.Undoing.{IsCutAndReduced}

-- as many free ends as before
same_ends : (m o : MachineParts) (k : ℕ) → ReducesTo m k o → length o.free ≡ length m.free
same_ends m o k h = sym (length-map o.free (λ f. f.name)) ∙ ap length h.names ∙ length-map m.free (λ f. f.name)

module _ (m : MachineParts) (k : ℕ) (t : Taken) (now : MachineParts) (h : CanComeBack m k t now) where
  -- the programs are one
  program_part : t.part.program ≡ now.program
  program_part = h.part_reduced.program ∙ h.taken.split.split.but_queues.two.program_part ∙ sym (h.rest_reduced.program ∙ h.taken.split.split.but_queues.two.program_rest)

  pub many_rest : length now.free ≡ h.taken.split.own + t.cuts
  many_rest = same_ends h.rest now h.by_rest h.rest_reduced ∙ h.taken.split.split.but_queues.many_rest

  pub many_part : length t.part.free ≡ t.cuts
  many_part = same_ends h.part t.part h.by_part h.part_reduced ∙ h.taken.split.split.but_queues.many_part

  pub can_append : CanAppend now t.part
  can_append = record { program = program_part; room = h.room }

  pub fewer : length t.part.free ≤ length now.free
  fewer = let a = many_rest in let b = many_part in omega (arith, a, b)

  pub ends_fit : length now.free + length t.part.free ≤ t.seam.most
  ends_fit = let a = many_rest in let b = many_part in let c = h.taken.split.ends in omega (arith, a, b, c)

  -- the part has as many cells as when it was taken
  pub cells_fit : (c : CellClass) → count_of t.part.vacant c + agents_of t.part.program.tables c t.part.agents ≤ t.seam.cells
  cells_fit c =
      let a = ap (λ (p : Program). count_of t.part.vacant c + agents_of p.tables c t.part.agents) h.part_reduced.program in
      let b = h.part_reduced.cells c in
      let d = h.taken.split.split.but_queues.part_cells c in
      let e = h.taken.split.cells in
      omega (arith, a, b, d, e)

  module _ (after : MachineParts) (glued : IsGluedOn now t.part h.taken.split.own t.cuts after) where
    pub whole_reduced : IsCutAndReduced m t.cuts k after
    whole_reduced = record {
      cut = h.taken.cut;
      times = h.taken.times;
      reduced = subst (λ (z : ℕ). ReducesTo h.taken.cut z after) h.together
          (parts_reduce_the_whole h.taken.cut h.rest h.part now t.part after h.taken.split.agents h.taken.split.own t.cuts t.cells h.by_rest h.by_part h.taken.of_cut h.taken.split.of_rest h.taken.split.of_part
          h.taken.split.split.but_queues h.rest_reduced h.part_reduced glued.but_queue);
    }

module _ (m : MachineParts) (k : ℕ) (t : Taken) (now after : MachineParts) (h : CanComeBack m k t now) (glues : (own : ℕ) → length now.free ≡ own + length t.part.free → IsGluedOn now t.part own (length t.part.free) after) where
  pub glued_there : IsGluedOn now t.part h.taken.split.own t.cuts after
  glued_there =
      let a = many_rest m k t now h in
      let b = many_part m k t now h in
      subst (λ (z : ℕ). IsGluedOn now t.part h.taken.split.own z after) b (glues h.taken.split.own (omega (arith, a, b)))

  pub comes_back : IsCutAndReduced m t.cuts k after
  comes_back = whole_reduced m k t now h after glued_there

  pub room_back : (c : CellClass) → count_of after.vacant c + agents_of now.program.tables c t.part.agents ≡ count_of now.vacant c
  room_back c = ap (λ (p : Program). count_of after.vacant c + agents_of p.tables c t.part.agents) glued_there.but_queue.two.program_rest ∙ glued_there.but_queue.vacant c

-- a part that was just taken out can come back at once
pub comes_at_once : (m cut now : MachineParts) (t : Taken) → IsReducer m → IsReducer cut → (cuts : ℕ) → IsCutTimes m cuts cut → t.cuts ≡ cuts → IsSplitBy cut t.cuts t.cells t.seam t.part now → CanComeBack m 0 t now
comes_at_once m cut now t of of_cut cuts times same split = record {
  rest = now;
  part = t.part;
  taken = record { reducer = of; cut = cut; times = subst (λ (z : ℕ). IsCutTimes m z cut) (sym same) times; of_cut = of_cut; split = split };
  by_rest = 0;
  by_part = 0;
  rest_reduced = stays_reduce now;
  part_reduced = stays_reduce t.part;
  together = refl;
  room = λ c. (
      let out = split.split.but_queues.vacant c in
      let tables = ap (λ (p : Program). agents_of p.tables c t.part.agents) split.split.but_queues.two.program_rest in
      omega (arith, out, tables)
      );
}

-- .. and so can a part that was reduced since
pub comes_reduced : (m rest now part : MachineParts) (t : Taken) (i j floor : ℕ) → IsTakenOut m t.cuts t.cells t.seam t.part rest → ReducesTo rest i now → ReducesTo t.part j part → HasFree now (floor + t.cells)
    → CanComeBack m (i + j) (record { part = part; seam = t.seam; cuts = t.cuts; cells = t.cells }) now
comes_reduced m rest now part t i j floor taken of_rest of_part free = record {
  rest = rest;
  part = t.part;
  taken = taken;
  by_rest = i;
  by_part = j;
  rest_reduced = of_rest;
  part_reduced = of_part;
  together = refl;
  room = λ c. (
      let there = free c in
      let many = of_part.cells c in
      let size = taken.split.split.but_queues.part_cells c in
      let tables = ap (λ (p : Program). agents_of p.tables c part.agents) (taken.split.split.but_queues.two.program_part ∙ sym (of_rest.program ∙ taken.split.split.but_queues.two.program_rest)) in
      let first = ap (λ (p : Program). agents_of p.tables c part.agents) taken.split.split.but_queues.two.program_part in
      omega (arith, there, many, size, tables, first)
      );
}

-- a list that was lent as a slice is as long as before
pub lent_back : {X Z : Type 0} (v : Vec X Z) (ws : List X) → length ws ≡ length v.items → length (with_items v ws).items ≡ length v.items
lent_back v ws long = ap length (with_items_is v ws (let ok = v.ok.0 in omega (arith, ok, long))) ∙ long
