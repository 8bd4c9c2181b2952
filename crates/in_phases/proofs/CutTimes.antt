-- Wires that are cut, one after another.
use Rattle.std.proofs.Common.{◌≡◌, ◌<◌, ◌+◌, ℕ, zero, suc, Bool, Option, Some, None, IsSomeAnd, List, [], ◌∷◌, length, map, get_or, slice_get, option_map, option_and_then, refl, sym, ap, subst, ◌∙◌, is_some, arith}
use Rattle.std.proofs.lemmas.List.{length-append, length-map}
use Rattle.std.proofs.lemmas.Option.{same_Some, slice_get-get_or}
use Rattle.in_arena.specs.declared.content.CellNo.{CellNo}
use Rattle.in_symbols.specs.Tables.{arity_of}
use Rattle.in_syntax.specs.declared.symbol_no.SymbolNo.{SymbolNo}
use Rattle.in_net.specs.declared.nets.Cell.{Cell}
use Rattle.in_net.specs.declared.nets.Point.TheVariants as point
use Rattle.in_net.specs.Nets.{point_of}
use Rattle.in_net.specs.Parts.{cell_in, partner_in, symbol_in}
use Rattle.in_check.specs.Programs.{Program}
use Rattle.in_reducer.specs.Cutting.{CutsAt, net_in}
use Rattle.in_reducer.specs.Machines.{MachineParts, parts_of}
use Rattle.in_reducer.specs.PartingLaws.{IsCutTimes, uncut, then_cut}
use Rattle.in_reducer.specs.Reducers.{IsReducer}
use Rattle.in_phases.specs.Branches.{AgentHasPlace, AreOfBranch, HasAgent}
use Rattle.in_phases.proofs.Places.{agent_in_net, agent_of_net, place_below, place_there}
use Rattle.in_phases.proofs.Gathered.{gathered_still}
use Rattle.in_interaction.proofs.Public.{has_value}

-- a cut keeps the program, the agents' symbols and the free cells
pub record Stays (m n : MachineParts) : Type 0 where
  pub program : n.program ≡ m.program
  pub on : (y s : ℕ) → (net_in m).symbol y ≡ Some s → (net_in n).symbol y ≡ Some s
  pub back : (y s : ℕ) → (net_in n).symbol y ≡ Some s → (net_in m).symbol y ≡ Some s
  pub vacant : n.vacant ≡ m.vacant
  pub queue : n.queue ≡ m.queue

one_stays : (m n : MachineParts) (c i : ℕ) → CutsAt m c i n → Stays m n
one_stays m n c i h = record {
  program = h.program;
  on = λ y s at. (h.cut.cut.agents y s).0 at;
  back = λ y s at. (h.cut.cut.agents y s).1 at;
  vacant = h.vacant;
  queue = h.queue;
}

pub times_stay : (m n : MachineParts) (w : ℕ) → IsCutTimes m w n → Stays m n
times_stay m n zero (uncut _) = record { program = refl; on = λ y s at. at; back = λ y s at. at; vacant = refl; queue = refl }
times_stay m o (suc w) (then_cut _ _ n _ c i before reducer cut) =
    let a = times_stay m n w before in
    let b = one_stays n o c i cut in
    record {
      program = b.program ∙ a.program;
      on = λ y s at. b.on y s (a.on y s at);
      back = λ y s at. a.back y s (b.back y s at);
      vacant = b.vacant ∙ a.vacant;
      queue = b.queue ∙ a.queue;
    }

-- an option with a value
module _ (m n : MachineParts) (h : Stays m n) where
  pub agent_on : (y : ℕ) → HasAgent m y → HasAgent n y
  agent_on y there = let s = has_value ((net_in m).symbol y) (agent_in_net m y there) in agent_of_net n y (ap is_some (h.on y s.0 s.1))

  agent_back : (y : ℕ) → HasAgent n y → HasAgent m y
  agent_back y there = let s = has_value ((net_in n).symbol y) (agent_in_net n y there) in agent_of_net m y (ap is_some (h.back y s.0 s.1))

  pub gathered_on : (agents : List CellNo) (marks : List Bool) → AreOfBranch m agents marks → AreOfBranch n agents marks
  gathered_on agents marks = gathered_still m n agents marks agent_on agent_back

-- two free ends more each time
pub ends_more : (m n : MachineParts) (w : ℕ) → IsCutTimes m w n → length n.free ≡ length m.free + (w + w)
ends_more m n zero (uncut _) = omega arith
ends_more m o (suc w) (then_cut _ _ n _ c i before reducer cut) =
    let a = ends_more m n w before in
    let e = sym (length-map o.free (λ f. f.name)) ∙ ap length cut.names ∙ length-append (map (λ f. f.name) n.free) ([] ∷ [] ∷ []) in
    let f = length-map n.free (λ f. f.name) in
    omega (arith, a, e, f)

-- one run of cuts after another
pub times_on : (l m n : MachineParts) (v w : ℕ) → IsCutTimes l v m → IsCutTimes m w n → IsCutTimes l (v + w) n
times_on l m n v zero first (uncut _) = subst (λ (z : ℕ). IsCutTimes l z m) (let z : v ≡ v + 0 = omega arith in z) first
times_on l m o v (suc w) first (then_cut _ _ n _ c i before reducer cut) =
    subst (λ (z : ℕ). IsCutTimes l z o) (let z : suc (v + w) ≡ v + suc w = omega arith in z) (then_cut (v + w) l n o c i (times_on l m n v w first before) reducer cut)

-- an agent keeps its number of ports
pub arity_stays : (m n : MachineParts) → Stays m n → (c a : ℕ) → option_map (λ s. arity_of m.program.tables s.0) (symbol_in (parts_of m) c) ≡ Some a → option_map (λ s. arity_of n.program.tables s.0) (symbol_in (parts_of n) c) ≡ Some a
arity_stays m n h c a e = by (symbol_in (parts_of m) c) (symbol_in (parts_of n) c) refl refl
  where
    by : (o u : Option SymbolNo) → symbol_in (parts_of m) c ≡ o → symbol_in (parts_of n) c ≡ u → option_map (λ s. arity_of n.program.tables s.0) (symbol_in (parts_of n) c) ≡ Some a
    by None u f g = let k : None ≡ Some a = sym (ap (option_map (λ (s : SymbolNo). arity_of m.program.tables s.0)) f) ∙ e in cc
    by (Some s) None f g = let k : None ≡ Some s.0 = sym (ap (option_map (λ (s : SymbolNo). s.0)) g) ∙ h.on c s.0 (ap (option_map (λ (s : SymbolNo). s.0)) f) in cc
    by (Some s) (Some u) f g =
        let same : u.0 ≡ s.0 = same_Some u.0 s.0 (sym (ap (option_map (λ (s : SymbolNo). s.0)) g) ∙ h.on c s.0 (ap (option_map (λ (s : SymbolNo). s.0)) f)) in
        let number : arity_of m.program.tables s.0 ≡ a = same_Some (arity_of m.program.tables s.0) a (sym (ap (option_map (λ (s : SymbolNo). arity_of m.program.tables s.0)) f) ∙ e) in
        ap (option_map (λ (s : SymbolNo). arity_of n.program.tables s.0)) g ∙ ap (λ (z : ℕ). Some (arity_of n.program.tables z)) same ∙ ap (λ (p : Program). Some (arity_of p.tables s.0)) h.program ∙ ap (λ (z : ℕ). Some z) number

-- an agent keeps its places
pub place_on : (m n : MachineParts) → IsReducer m → IsReducer n → Stays m n → (c i : ℕ) → AgentHasPlace m c i → AgentHasPlace n c i
place_on m n of_m of_n h c i there = by (cell_in (parts_of m) c) refl there
  where
    by : (o : Option Cell) → cell_in (parts_of m) c ≡ o → IsSomeAnd o (λ x. i < length x.ends) → AgentHasPlace n c i
    by None e low = absurd low
    by (Some x) e low =
        let a = arity_of m.program.tables x.symbol.0 in
        let arity : option_map (λ s. arity_of m.program.tables s.0) (symbol_in (parts_of m) c) ≡ Some a = ap (λ (o : Option Cell). option_map (λ s. arity_of m.program.tables s.0) (option_map (λ (c : Cell). c.symbol) o)) e in
        let q = get_or x.ends i (point.Free 0) in
        let at : partner_in (parts_of m) (point.Port (record { 0 = c }) i) ≡ Some q = ap (λ (o : Option Cell). option_and_then (λ c. slice_get c.ends i) o) e ∙ slice_get-get_or x.ends i (point.Free 0) low in
        place_there n of_n c i a (arity_stays m n h c a arity) (place_below m of_m c i a (point_of q) arity (ap (option_map point_of) at))
