-- Reducers that are reduced, cut and joined, split and glued.
use Rattle.std.proofs.Common.{◌≡◌, ◌↔◌, ◌≤◌, ◌+◌, ℕ, suc, Option, Some, None, Bool, cond, List, [], ◌∷◌, ◌++◌, length, map, take, option_map, slice_get, refl, sym, ap, subst, ◌∙◌, length-append, arith}
use Rattle.std.specs.Prelude.{option_and_then}
use Rattle.std.proofs.lemmas.List.{length-map}
use Rattle.std.proofs.lemmas.List.Sums.{sum_by-cons}
use Rattle.std.proofs.lemmas.Option.{same_Some}
use Rattle.std.proofs.Math.Seq.{take-append_seam}
use Rattle.in_arena.specs.declared.content.CellClass.{CellClass}
use Rattle.in_arena.specs.declared.content.CellNo.{CellNo}
use Rattle.in_symbols.specs.Tables.{Tables}
use Rattle.in_net.specs.declared.nets.Cell.{Cell}
use Rattle.in_net.specs.Nets.{Net}
use Rattle.in_check.specs.Programs.{Program}
use Rattle.in_check.specs.Runs.{at_start, then_step}
use Rattle.in_check.specs.Systems.{System, IsSound, IsSoundSystem, system_of}
use Rattle.in_check.proofs.Public.{is_sound, renamed_self}
use Rattle.in_order.specs.PartRuns.{Run, none, one_more}
use Rattle.in_gluing.proofs.Public.{map_some}
use Rattle.in_order.proofs.Public.{with_start}
use Rattle.in_compile.specs.declared.cells.Need.{Need}
use Rattle.in_compile.specs.Cells.{agents_of, count_of, is_of, takes}
use Rattle.in_order.specs.Leading.{Leads}
use Rattle.in_order.proofs.Public.{beside_leads, leads_go_on}
use Rattle.in_reducer.specs.Cutting.{CanJoin, CutsAt, JoinsLast, net_in}
use Rattle.in_reducer.specs.Machines.{MachineParts, KeepsCellCounts, parts_of}
use Rattle.in_reducer.specs.Parting.{IsGluedButQueue, IsSplitButQueues, ReducesTo, ends_of_two, names_of, names_of_two}
use Rattle.in_reducer.specs.PartingLaws.{CutsAreUndone, PartsReduceTheWhole, ReductionsGoOn, StaysReduce, StepsReduce}
use Rattle.in_reducer.specs.Reducers.{IsReducer}
use Rattle.in_reducer.specs.Same.{AreSame, StepsUpToNumbers}
use Rattle.in_reducer.proofs.Cells.AsMany.{as_many_of}
use Rattle.in_reducer.proofs.Numbers.OfSame.{reducer_same}
use Rattle.in_reducer.proofs.Steps.StepsOn.{steps_keep_reducers}
use Rattle.in_reducer.proofs.Cuts.Undone.{joints_undo_cuts}

-- ---- one interaction, and more

run_leads : (p : System) (k : ℕ) (n m : Net ℕ) → Run p k n m → Leads p k n m
run_leads p _ n _ (none _) = at_start (λ x. x) n (renamed_self n)
run_leads p _ n m (one_more k _ l x name _ before act) = then_step k l x name m (run_leads p k n l before) (record { at = with_start p n l x act.at; step = act.step })

pub stays_reduce : StaysReduce
stays_reduce m = record { program = refl; leads = at_start (λ x. x) (net_in m) (renamed_self (net_in m)); names = refl; cells = λ c. refl }

pub steps_reduce : StepsReduce
steps_reduce m o i h s = record {
  program = s.step.program;
  leads = run_leads (system_of m.program) 1 (net_in m) (net_in o) ((steps_keep_reducers m o i h s).1 0 (net_in m) (none (net_in m)));
  names = s.step.acts.names;
  cells = s.cells;
}

-- a machine that is the same up to numbers is reached by no interaction
same_reduces : (m n : MachineParts) → AreSame m n → ReducesTo m 0 n
same_reduces m n (f, same) = record {
  program = same.program;
  leads = at_start f (net_in n) same.net;
  names = same.names;
  cells = λ c. (
      let as_many = as_many_of m.program.tables c f (parts_of m) (parts_of n) same.net in
      let free : count_of n.vacant c ≡ count_of m.vacant c = ap (λ (z : Need). count_of z c) same.vacant in
      omega (arith, as_many, free)
      );
}

-- the same counts over an equal program
counted_over : (p q : Program) (a b : MachineParts) (c : CellClass) → p ≡ q → count_of a.vacant c + agents_of p.tables c a.agents ≡ count_of b.vacant c + agents_of p.tables c b.agents
    → count_of a.vacant c + agents_of q.tables c a.agents ≡ count_of b.vacant c + agents_of q.tables c b.agents
counted_over p q a b c same counted = subst (λ (z : Program). count_of a.vacant c + agents_of z.tables c a.agents ≡ count_of b.vacant c + agents_of z.tables c b.agents) same counted

leads_over : (p q : Program) (k : ℕ) (n m : Net ℕ) → p ≡ q → Leads (system_of p) k n m → Leads (system_of q) k n m
leads_over p q k n m same leads = subst (λ (z : Program). Leads (system_of z) k n m) same leads

pub reductions_go_on : ReductionsGoOn
reductions_go_on l m n j k first on = record {
  program = on.program ∙ first.program;
  leads = leads_go_on (system_of l.program) j k (net_in l) (net_in m) (net_in n) first.leads (leads_over m.program l.program k (net_in m) (net_in n) first.program on.leads);
  names = on.names ∙ first.names;
  cells = λ c. counted_over m.program l.program n m c first.program (on.cells c) ∙ first.cells c;
}

pub steps_up_to_numbers_reduce : (m o : MachineParts) (i : ℕ) → IsReducer m → StepsUpToNumbers m i o → ReducesTo m 1 o
steps_up_to_numbers_reduce m o i h (s, same, step) = reductions_go_on m s o 0 1 (same_reduces m s same) (steps_reduce s o i (reducer_same m s h same.0 same.1) step)

-- ---- parts

-- a reducer is split in a rest and a part, each is reduced by itself, and both are glued again
pub record AreReducedApart (m rest part rest_after part_after after : MachineParts) (agents : List CellNo) (own cuts size j k : ℕ) : Type 0 where
  -- the whole is a reducer
  pub reducer : IsReducer m
  -- the rest is one
  pub reducer_rest : IsReducer rest
  -- the part is one
  pub reducer_part : IsReducer part
  -- these agents are the part, and the others the rest
  pub off : IsSplitButQueues m agents own cuts size rest part
  -- so many interactions lead from the rest to the rest after
  pub first : ReducesTo rest j rest_after
  -- so many lead from the part to the part after
  pub second : ReducesTo part k part_after
  -- the rest after and the part after are glued where the wires were cut
  pub glued : IsGluedButQueue rest_after part_after own cuts after

module _ (m rest part rest_after part_after after : MachineParts) (agents : List CellNo) (own cuts size j k : ℕ) (given : AreReducedApart m rest part rest_after part_after after agents own cuts size j k) where
  open given use {reducer, reducer_rest, reducer_part, off, first, second, glued}

  good : IsSoundSystem (system_of m.program)
  good = is_sound reducer.accepted.0 reducer.accepted.1 m.program reducer.accepted.2

  whole_program : after.program ≡ m.program
  whole_program = sym glued.two.program_rest ∙ first.program ∙ off.two.program_rest

  whole_leads : Leads (system_of m.program) (j + k) (net_in m) (net_in after)
  whole_leads =
      beside_leads (system_of m.program) j k (net_in rest) (net_in part) (net_in rest_after) (net_in part_after) (net_in m) (net_in after) off.two.name glued.two.name (ends_of_two own cuts) good reducer.net.sound
      (subst (λ (z : Program). IsSound (system_of z) (net_in rest)) off.two.program_rest reducer_rest.net.sound) (subst (λ (z : Program). IsSound (system_of z) (net_in part)) off.two.program_part reducer_part.net.sound) off.two.beside
      (leads_over rest.program m.program j (net_in rest) (net_in rest_after) off.two.program_rest first.leads) (leads_over part.program m.program k (net_in part) (net_in part_after) off.two.program_part second.leads) glued.two.beside

  whole_names : names_of after ≡ names_of m
  whole_names = map_some (names_of after) (names_of m) (glued.two.names ∙ (λ i. map (names_of_two (first.names i) (second.names i)) (ends_of_two own cuts)) ∙ sym off.two.names)

  whole_cells : KeepsCellCounts m after
  whole_cells c =
      counted_over after.program m.program after rest_after c whole_program (glued.cells c) ∙ counted_over rest.program m.program rest_after rest c off.two.program_rest (first.cells c) ∙ off.cells c

pub parts_reduce_the_whole : PartsReduceTheWhole
parts_reduce_the_whole m rest part rest_after part_after after agents own cuts size j k h h_rest h_part off first second glued = record {
  program = whole_program m rest part rest_after part_after after agents own cuts size j k given;
  leads = whole_leads m rest part rest_after part_after after agents own cuts size j k given;
  names = whole_names m rest part rest_after part_after after agents own cuts size j k given;
  cells = whole_cells m rest part rest_after part_after after agents own cuts size j k given;
}
  where
    given : AreReducedApart m rest part rest_after part_after after agents own cuts size j k
    given = record { reducer = h; reducer_rest = h_rest; reducer_part = h_part; off = off; first = first; second = second; glued = glued }

-- ---- the same agents, at each number

abbrev symbol_of_cell : Option Cell → Option ℕ
symbol_of_cell x = option_map (λ s. s.0) (option_map (λ a. a.symbol) x)

abbrev symbol_at : List (Option Cell) → ℕ → Option ℕ
symbol_at xs y = symbol_of_cell (option_and_then (λ x. x) (slice_get xs y))

takes_alike : (t : Tables) (c : CellClass) (x y : Option Cell) → symbol_of_cell x ≡ symbol_of_cell y → takes t c x ≡ takes t c y
takes_alike t c None None e = refl
takes_alike t c None (Some b) e = let f : None ≡ Some b.symbol.0 = e in cc
takes_alike t c (Some a) None e = let f : None ≡ Some a.symbol.0 = sym e in cc
takes_alike t c (Some a) (Some b) e = ap (is_of t c) (same_Some a.symbol.0 b.symbol.0 e)

abbrev one_if : Bool → ℕ
one_if b = cond b 1 0

one_more_agent : (t : Tables) (c : CellClass) (x : Option Cell) (xs : List (Option Cell)) → agents_of t c (x ∷ xs) ≡ one_if (takes t c x) + agents_of t c xs
one_more_agent t c x xs = sum_by-cons (λ (z : Option Cell). one_if (takes t c z)) x xs

agents_alike : (t : Tables) (c : CellClass) (xs ys : List (Option Cell)) → ((y : ℕ) → symbol_at xs y ≡ symbol_at ys y) → agents_of t c xs ≡ agents_of t c ys
agents_alike t c [] [] same = refl
agents_alike t c [] (y ∷ ys) same =
    let head : 0 ≡ one_if (takes t c y) = ap one_if (takes_alike t c None y (same 0)) in
    let rest : 0 ≡ agents_of t c ys = agents_alike t c [] ys (λ k. same (suc k)) in
    omega (arith, head, rest, one_more_agent t c y ys)
agents_alike t c (x ∷ xs) [] same =
    let head : one_if (takes t c x) ≡ 0 = ap one_if (takes_alike t c x None (same 0)) in
    let rest : agents_of t c xs ≡ 0 = agents_alike t c xs [] (λ k. same (suc k)) in
    omega (arith, head, rest, one_more_agent t c x xs)
agents_alike t c (x ∷ xs) (y ∷ ys) same =
    let head : one_if (takes t c x) ≡ one_if (takes t c y) = ap one_if (takes_alike t c x y (same 0)) in
    let rest : agents_of t c xs ≡ agents_of t c ys = agents_alike t c xs ys (λ k. same (suc k)) in
    omega (arith, head, rest, one_more_agent t c x xs, one_more_agent t c y ys)

same_option : (o p : Option ℕ) → ((s : ℕ) → (o ≡ Some s) ↔ (p ≡ Some s)) → o ≡ p
same_option None None same = refl
same_option None (Some s) same = (same s).1 refl
same_option (Some s) p same = sym ((same s).0 refl)

pub same_agents : (t : Tables) (c : CellClass) (a b : MachineParts) → ((y s : ℕ) → ((net_in a).symbol y ≡ Some s) ↔ ((net_in b).symbol y ≡ Some s)) → agents_of t c a.agents ≡ agents_of t c b.agents
same_agents t c a b same = agents_alike t c a.agents b.agents (λ y. same_option ((net_in a).symbol y) ((net_in b).symbol y) (same y))

-- ---- cuts and joints

same_front : (xs ys zs ws : List (List ℕ)) → length zs ≡ length ws → xs ++ zs ≡ ys ++ ws → xs ≡ ys
same_front xs ys zs ws many e =
    let one = length-append xs zs in
    let two = length-append ys ws in
    let both = ap length e in
    let same : length xs ≡ length ys = omega (arith, one, two, both, many) in
    sym (take-append_seam xs zs) ∙ ap (take (length xs)) e ∙ ap (λ k. take k (ys ++ ws)) same ∙ take-append_seam ys ws

module _ (m n o : MachineParts) (c i k : ℕ) (h : IsReducer m) (cut : CutsAt m c i n) (lead : ReducesTo n k o) where
  program_after : o.program ≡ m.program
  program_after = lead.program ∙ cut.program

  names_after : names_of o ≡ names_of m ++ ([] ∷ [] ∷ [])
  names_after = lead.names ∙ cut.names

  undone : CanJoin o × ((after : MachineParts) → JoinsLast o after → Leads (system_of m.program) k (net_in m) (net_in after))
  undone = joints_undo_cuts m n o c i k h cut program_after (leads_over n.program m.program k (net_in n) (net_in o) cut.program lead.leads)

  two_ends : 2 ≤ length o.free
  two_ends =
      let here = length-map o.free (λ f. f.name) in
      let all = ap length names_after in
      let sum = length-append (names_of m) ([] ∷ [] ∷ []) in
      omega (arith, here, all, sum)

  joined : (after : MachineParts) → JoinsLast o after → ReducesTo m k after
  joined after last = record {
    program = last.program ∙ program_after;
    leads = undone.1 after last;
    names = same_front (names_of after) (names_of m) (last.names.0 ∷ last.names.1 ∷ []) ([] ∷ [] ∷ []) refl (sym last.names.2 ∙ names_after);
    cells = λ d. (
        let free_after = ap (λ v. count_of v d) last.vacant in
        let free_before = ap (λ v. count_of v d) cut.vacant in
        let agents_after = same_agents m.program.tables d after o last.joined.joins.agents in
        let agents_before = same_agents m.program.tables d m n cut.cut.cut.agents in
        let on = counted_over n.program m.program o n d cut.program (lead.cells d) in
        omega (arith, free_after, free_before, agents_after, agents_before, on)
        );
  }

pub cuts_are_undone : CutsAreUndone
cuts_are_undone m n o c i k h cut lead = ((undone m n o c i k h cut lead).0, two_ends m n o c i k h cut lead, joined m n o c i k h cut lead)
