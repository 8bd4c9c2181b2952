-- The results of accessors, by the net that cells show.
use Rattle.std.proofs.Common.{◌≡◌, ◌<◌, ◌≤◌, ◌+◌, ◌-◌, ℕ, zero, suc, Option, Some, None, IsSome, List, [], ◌∷◌, length, take, get_or, slice_get, sum_by, unwrap_or, refl, ap, ◌∙◌, arith}
use Rattle.std.specs.Prelude.{is_some, option_map, option_and_then}
use Rattle.std.proofs.lemmas.List.{take_all}
use Rattle.std.proofs.lemmas.List.Sums.{sum_by_more, sum_by_more_le}
use Rattle.std.proofs.lemmas.Option.{slice_get-map, unwrap_or-slice_get}
use Rattle.in_arena.specs.Arenas.{ArenaView, free_of, state_at}
use Rattle.in_arena.specs.Classes.{all_of, amount, classes}
use Rattle.in_arena.specs.States.{State, Vacant, Leased, Live, end_at}
use Rattle.in_arena.specs.declared.content.CellClass.{CellClass}
use Rattle.in_arena.specs.declared.content.CellClass.TheVariants.{Small}
use Rattle.in_arena.specs.declared.content.End.{End}
use Rattle.in_symbols.specs.Tables.{Tables}
use Rattle.in_net.specs.declared.nets.AgentNo.{AgentNo}
use Rattle.in_net.specs.declared.nets.Cell.{Cell}
use Rattle.in_net.specs.declared.nets.FreeEnd.{FreeEnd}
use Rattle.in_net.specs.declared.nets.Point.TheVariants.{Port}
use Rattle.in_net.specs.ActivePairs.{IsActivePair}
use Rattle.in_net.specs.Parts.{Parts, cell_in, symbol_in, partner_in}
use Rattle.in_interaction.specs.Listing.{unlisted}
use Rattle.in_interaction.specs.Queues.{agents_at}
use Rattle.in_compile.specs.Cells.{agents_of}
use Rattle.in_compile.proofs.Public.{sum_at_most}
use Rattle.in_reducer.specs.Machines.{point_at}
use Rattle.in_reducer.specs.Standing.{agent_in, agents_in, leading_to, IsNetIn}
use Rattle.in_reducer.proofs.Cells.Counted.{all_cells}

-- ---- agents

-- the agent of a number is the one in its cell; past the last cell there is none
pub cell_is : (a : ArenaView) (free : List FreeEnd) (n : ℕ) → cell_in (unlisted (agents_in a) free) n ≡ agent_in (state_at a n)
cell_is a free n =
    ap (option_and_then (λ (c : Option Cell). c)) (slice_get-map agent_in a.states n) ∙ held (slice_get a.states n)
    ∙ ap agent_in (unwrap_or-slice_get a.states n Leased)
  where
    held : (o : Option State) → option_and_then (λ (c : Option Cell). c) (option_map agent_in o) ≡ agent_in (unwrap_or o Leased)
    held None = refl
    held (Some x) = refl

-- .. and its places lead where the cell's ends do
pub partner_is : (a : ArenaView) (free : List FreeEnd) (x : AgentNo) (i : ℕ) → partner_in (unlisted (agents_in a) free) (Port x i) ≡ option_map point_at (end_at (state_at a x.0) i)
partner_is a free x i = ap (option_and_then (λ (c : Cell). slice_get c.ends i)) (cell_is a free x.0) ∙ at (state_at a x.0)
  where
    at : (s : State) → option_and_then (λ (c : Cell). slice_get c.ends i) (agent_in s) ≡ option_map point_at (end_at s i)
    at Vacant = refl
    at Leased = refl
    at (Live word ends) = slice_get-map point_at ends i

-- the agents of an active pair have symbols
pub have_symbols : (t : Tables) (n : Parts) (q : ℕ × ℕ) → IsActivePair t n (agents_at q) → IsSome (symbol_in n q.0) × IsSome (symbol_in n q.1)
have_symbols t n q h = (ap is_some h.one, ap is_some h.two)

-- ---- free ends

-- each free end has an end in the list
pub free_below : (fs : List FreeEnd) (es : List End) (k : ℕ) → k < length (leading_to fs es) → k < length es
free_below [] es k l = absurd (omega (arith, l))
free_below (f ∷ fs) [] k l = absurd (omega (arith, l))
free_below (f ∷ fs) (e ∷ es) zero l = omega arith
free_below (f ∷ fs) (e ∷ es) (suc k) l = let m = free_below fs es k (omega (arith, l)) in omega (arith, m)

-- each leads to the end at its number
pub free_leads : (fs : List FreeEnd) (es : List End) (k : ℕ) (e : End) → k < length (leading_to fs es) → slice_get es k ≡ Some e → option_map (λ (f : FreeEnd). f.end) (slice_get (leading_to fs es) k) ≡ Some (point_at e)
free_leads [] es k e l h = absurd (omega (arith, l))
free_leads (f ∷ fs) [] k e l h = absurd (omega (arith, l))
free_leads (f ∷ fs) (d ∷ es) zero e l h = ap (option_map point_at) h
free_leads (f ∷ fs) (d ∷ es) (suc k) e l h = free_leads fs es k e (omega (arith, l)) h

-- .. and has its name
pub free_named : (fs : List FreeEnd) (es : List End) (k : ℕ) → k < length (leading_to fs es) → option_map (λ (f : FreeEnd). f.name) (slice_get (leading_to fs es) k) ≡ option_map (λ (f : FreeEnd). f.name) (slice_get fs k)
free_named [] es k l = absurd (omega (arith, l))
free_named (f ∷ fs) [] k l = absurd (omega (arith, l))
free_named (f ∷ fs) (e ∷ es) zero l = refl
free_named (f ∷ fs) (e ∷ es) (suc k) l = free_named fs es k (omega (arith, l))

-- ---- the number of agents

module _ (t : Tables) (a : ArenaView) (h : IsNetIn t a) where
  abbrev of_class : CellClass → ℕ
  of_class c = agents_of t c (agents_in a)

  -- the cells of one class more that aren't free have agents
  module _ (k agents cells free : ℕ) (low : k < length classes) (before : agents ≡ sum_by of_class (take k classes)) (all : cells ≡ amount a.cells (get_or classes k Small)) (vacant : free ≡ free_of a (get_or classes k Small)) where
    here : cells - free ≡ of_class (get_or classes k Small)
    here = let e = all_cells t a h (get_or classes k Small) in omega (arith, e, all, vacant)

    pub one_more_class : agents + (cells - free) ≡ sum_by of_class (take (k + 1) classes)
    one_more_class = let e = sum_by_more of_class classes k Small low in let f = here in omega (arith, e, f, before)

    -- .. and are no more than all cells
    pub no_more : agents + (cells - free) ≤ all_of a.cells
    no_more =
        let e = sum_by_more_le of_class classes k Small low in
        let f = here in
        let g = sum_at_most of_class a.cells (λ c. (let z = all_cells t a h c in omega (arith, z))) in
        omega (arith, e, f, g, before)

  pub all_counted : (k agents : ℕ) → length classes ≤ k → agents ≡ sum_by of_class (take k classes) → agents ≡ sum_by of_class classes
  all_counted k agents past is = is ∙ ap (sum_by of_class) (take_all k classes past)
