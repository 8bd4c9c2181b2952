-- The queue of a reducer is one of its net, and no longer than half the number of its agents.
use Rattle.std.proofs.Common.{◌≡◌, ◌≢◌, ◌⊎◌, inl, inr, ◌≤◌, ◌+◌, ◌*◌, ℕ, zero, suc, Bool, true, false, cond, Option, Some, None, List, [], ◌∷◌, length, count_by, is_some, sum_by, slice_get, refl, sym, ap, subst, ◌∙◌, arith}
use Rattle.std.specs.Prelude.{option_map}
use Rattle.std.specs.List.{AllByRecursion}
use Rattle.std.proofs.lemmas.Bool.Decides.{nat_tests}
use Rattle.std.proofs.lemmas.List.Sums.{sum_by-cons}
use Rattle.std.proofs.lemmas.Option.{same_Some}
use Rattle.in_base.specs.Lists.{IsAmong}
use Rattle.in_arena.specs.Classes.{all_of, classes, holds}
use Rattle.in_arena.specs.declared.content.CellClass.{CellClass}
use Rattle.in_syntax.specs.Grammar.{max_ports}
use Rattle.in_symbols.specs.Tables.{Tables, arity_of, is_constructor}
use Rattle.in_syntax.specs.declared.symbol_no.SymbolNo.{SymbolNo}
use Rattle.in_net.specs.declared.nets.AgentNo.{AgentNo}
use Rattle.in_net.specs.declared.nets.Cell.{Cell}
use Rattle.in_net.specs.declared.nets.Point as coded
use Rattle.in_net.specs.declared.nets.Point.TheVariants as code
use Rattle.in_net.specs.ActivePairs.{AreActive, IsActivePair}
use Rattle.in_net.specs.Built.{HaveFewPorts}
use Rattle.in_net.specs.Nets.{Port, IsNet, net_of, signature_of}
use Rattle.in_net.specs.Parts.{Parts, symbol_in, partner_in}
use Rattle.in_interaction.specs.Pieces.{AreDifferent}
use Rattle.in_net.proofs.Public.{flipped, symbol_of, map_is}
use Rattle.in_interaction.proofs.Public.{net_wire, few, apart, back_in, same_numbers, symbol_number}
use Rattle.in_check.specs.NetText.{IsQueue, agents_of}
use Rattle.in_check.specs.Programs.{Program}
use Rattle.in_check.specs.Promises.{IsAsPromised}
use Rattle.in_check.specs.Systems.{system_of}
use Rattle.in_order.proofs.Public.{reducible_as_promised}
use Rattle.in_interaction.specs.Queues.{IsQueueOf, agents_at}
use Rattle.in_compile.specs.Cells as machines
use Rattle.in_compile.specs.Cells.{takes}
use Rattle.in_compile.proofs.Public.{sum_at_most}
use Rattle.in_reducer.specs.Machines.{MachineParts, parts_of, plain_of}
use Rattle.in_reducer.specs.Reducers.{IsReducer}
use Rattle.in_reducer.proofs.Cells.AsMany as cells
use Rattle.in_reducer.proofs.Starts.Accepted.{few_ports}
use Rattle.in_reducer.proofs.Steps.Ordered.{stands, stands_other}

-- ---- the agents of a net, by number

-- the numbers of the cells with an agent
abbrev pub agent_numbers : List (Option Cell) → List ℕ
agent_numbers = cells.places is_some 0

pub as_many : (cs : List (Option Cell)) → length (agent_numbers cs) ≡ count_by is_some cs
as_many = cells.as_many is_some 0

pub numbered : (cs : List (Option Cell)) (k : ℕ) (c : Cell) → slice_get cs k ≡ Some (Some c) → IsAmong k (agent_numbers cs)
numbered cs k c e = subst (λ (z : ℕ). IsAmong z (agent_numbers cs)) (let z : 0 + k ≡ k = omega arith in z) (cells.in_places is_some 0 cs k (Some c) e refl)

-- .. each once, and no other number
pub numbered_once : (cs : List (Option Cell)) → AreDifferent (agent_numbers cs)
numbered_once = cells.different is_some 0

pub numbered_only : (cs : List (Option Cell)) (k : ℕ) → IsAmong k (agent_numbers cs) → (c : Cell) × (slice_get cs k ≡ Some (Some c))
numbered_only cs k among = go h.cell (subst (λ (z : ℕ). slice_get cs z ≡ Some h.cell) (let e = h.is in let z : h.at ≡ k = omega (arith, e) in z) h.stands) h.holds
  where
    h : cells.HoldsAt is_some 0 cs k
    h = cells.of_places is_some 0 cs k among

    go : (o : Option Cell) → slice_get cs k ≡ Some o → is_some o ≡ true → (c : Cell) × (slice_get cs k ≡ Some (Some c))
    go None e holds = cc
    go (Some c) e holds = (c, e)

-- the sum of two numbers of each class
sums : (f g : CellClass → ℕ) → sum_by (λ c. f c + g c) classes ≡ sum_by f classes + sum_by g classes
sums f g = omega arith

-- each agent takes a cell of one class
module _ (t : Tables) (few : HaveFewPorts t) where
  one_class : (n : ℕ) → n ≤ max_ports → sum_by (λ c. cond (holds c (n + 1)) 1 0) classes ≡ 1
  one_class n l = grind (arith, nat_tests, l)

  in_one : (x : Option Cell) → sum_by (λ c. cond (takes t c x) 1 0) classes ≡ cond (is_some x) 1 0
  in_one None = omega arith
  in_one (Some a) = one_class (arity_of t a.symbol.0) (few a.symbol.0)

  pub all_classes : (cs : List (Option Cell)) → count_by is_some cs ≡ sum_by (λ c. machines.agents_of t c cs) classes
  all_classes [] = omega arith
  all_classes (x ∷ cs) =
      let all = sum_by-cons (λ c. cond (is_some c) 1 0) x cs in
      let here = in_one x in
      let rest = all_classes cs in
      let sum = sums (λ c. cond (takes t c x) 1 0) (λ c. machines.agents_of t c cs) in
      let each : sum_by (λ c. machines.agents_of t c (x ∷ cs)) classes ≡ sum_by (λ c. cond (takes t c x) 1 0 + machines.agents_of t c cs) classes =
      λ i. sum_by (λ c. sum_by-cons (λ y. cond (takes t c y) 1 0) x cs i) classes in
      omega (arith, all, here, rest, sum, each)

-- ---- lists of pairs

-- the agents of a pair differ
pub apart_agents : (t : Tables) (n : Parts) (q : ℕ × ℕ) → IsActivePair t n (agents_at q) → q.0 ≢ q.1
apart_agents t n q h e =
    let a : AgentNo = record { 0 = q.0 } in
    let same : IsActivePair t n (a, a) = subst (λ (z : ℕ). IsActivePair t n (agents_at (q.0, z))) (sym e) h in
    flipped t n a a same same

module _ (t : Tables) (n : Parts) (back : (p q : coded.Point) → partner_in n p ≡ Some q → partner_in n q ≡ Some p) where
  abbrev AreActivePairs : List (ℕ × ℕ) → Type 0
  AreActivePairs qs = (k : ℕ) (q : ℕ × ℕ) → slice_get qs k ≡ Some q → IsActivePair t n (agents_at q)

  abbrev StandOnce : List (ℕ × ℕ) → Type 0
  StandOnce qs = (j k : ℕ) (q : ℕ × ℕ) → slice_get qs j ≡ Some q → slice_get qs k ≡ Some q → j ≡ k

  numbers_apart : (x y : ℕ) → x ≡ y → ◌≡◌ {A = AgentNo} (record { 0 = x }) (record { 0 = y })
  numbers_apart x y e = ap (λ (z : ℕ). let a : AgentNo = record { 0 = z } in a) e

  -- an agent of one pair is in no other of them
  elsewhere : (q : ℕ × ℕ) (x : ℕ) → IsActivePair t n (agents_at q) → (x ≡ q.0) ⊎ (x ≡ q.1) → (qs : List (ℕ × ℕ)) → AreActivePairs qs → ((k : ℕ) → slice_get qs k ≡ Some q → ⊥) → AllByRecursion (λ y. x ≢ y) (agents_of qs)
  elsewhere q x h at [] each none = tt
  elsewhere q x h at (r ∷ rs) each none = (
    (λ e. none 0 (ap (λ (z : ℕ × ℕ). Some z) (by_first at e))),
    ((λ e. none 0 (ap (λ (z : ℕ × ℕ). Some z) (by_second at e))), elsewhere q x h at rs (λ k. each (suc k)) (λ k. none (suc k))),
  )
    where
      by_first : (x ≡ q.0) ⊎ (x ≡ q.1) → x ≡ r.0 → r ≡ q
      by_first (inl a) e = sym (same_numbers q r (apart t n back (agents_at q) (agents_at r) h (each 0 r refl) (inl (numbers_apart q.0 r.0 (sym a ∙ e)))))
      by_first (inr a) e = sym (same_numbers q r (apart t n back (agents_at q) (agents_at r) h (each 0 r refl) (inr (inr (inl (numbers_apart q.1 r.0 (sym a ∙ e)))))))

      by_second : (x ≡ q.0) ⊎ (x ≡ q.1) → x ≡ r.1 → r ≡ q
      by_second (inl a) e = sym (same_numbers q r (apart t n back (agents_at q) (agents_at r) h (each 0 r refl) (inr (inl (numbers_apart q.0 r.1 (sym a ∙ e))))))
      by_second (inr a) e = sym (same_numbers q r (apart t n back (agents_at q) (agents_at r) h (each 0 r refl) (inr (inr (inr (numbers_apart q.1 r.1 (sym a ∙ e)))))))

  pub different : (qs : List (ℕ × ℕ)) → AreActivePairs qs → StandOnce qs → AreDifferent (agents_of qs)
  different [] each once = tt
  different (q ∷ qs) each once =
      let none : (k : ℕ) → slice_get qs k ≡ Some q → ⊥ = λ k e. absurd (let z : 0 ≡ suc k = once 0 (suc k) q refl e in omega (arith, z)) in (
        (apart_agents t n q (each 0 q refl), elsewhere q q.0 (each 0 q refl) (inl refl) qs (λ k. each (suc k)) none),
        (elsewhere q q.1 (each 0 q refl) (inr refl) qs (λ k. each (suc k)) none, different qs (λ k. each (suc k)) (λ j k p e f. (let z : suc j ≡ suc k = once (suc j) (suc k) p e f in omega (arith, z)))),
      )

  -- each of their agents is one of the net
  there : (qs : List (ℕ × ℕ)) → AreActivePairs qs → (x : ℕ) → IsAmong x (agents_of qs) → IsAmong x (agent_numbers n.cells)
  there [] each x h = absurd h
  there (q ∷ qs) each x (inl e) = let h = each 0 q refl in let c = cells.cell_at n q.0 h.first.0 (symbol_number (symbol_in n q.0) h.first h.one) in subst (λ z. IsAmong z (agent_numbers n.cells)) e (numbered n.cells q.0 c.0 c.1)
  there (q ∷ qs) each x (inr (inl e)) = let h = each 0 q refl in let c = cells.cell_at n q.1 h.second.0 (symbol_number (symbol_in n q.1) h.second h.two) in subst (λ z. IsAmong z (agent_numbers n.cells)) e (numbered n.cells q.1 c.0 c.1)
  there (q ∷ qs) each x (inr (inr h)) = there qs (λ k. each (suc k)) x h

  twice : (qs : List (ℕ × ℕ)) → length (agents_of qs) ≡ 2 * length qs
  twice [] = refl
  twice (q ∷ qs) = let e = twice qs in omega arith

  pub half : (qs : List (ℕ × ℕ)) → AreActivePairs qs → StandOnce qs → 2 * length qs ≤ count_by is_some n.cells
  half qs each once =
      let a = few (agents_of qs) (agent_numbers n.cells) (different qs each once) (there qs each) in
      let b = twice qs in
      let d = as_many n.cells in
      omega arith

-- ---- the queue of a net that is as promised

module _ (p : Program) (n : Parts) (promised : IsAsPromised (system_of p) (net_of n)) (qs : List (ℕ × ℕ)) (queue : IsQueueOf p.tables n qs) where
  net : IsNet (signature_of p.tables) (net_of n)
  net = promised.typed.0

  pub back_of : (u v : coded.Point) → partner_in n u ≡ Some v → partner_in n v ≡ Some u
  back_of = back_in p.tables n net

  pub half_of : 2 * length qs ≤ count_by is_some n.cells
  half_of = half p.tables n back_of qs queue.pairs queue.once

  active : (qs : List (ℕ × ℕ)) → ((k : ℕ) (q : ℕ × ℕ) → slice_get qs k ≡ Some q → IsActivePair p.tables n (agents_at q)) → AllByRecursion (λ q. (net_of n).partner (Port q.0 0) ≡ Some (Port q.1 0)) qs
  active [] each = tt
  active (q ∷ qs) each = (net_wire n (code.Port (agents_at q).0 0) (code.Port (agents_at q).1 0) (each 0 q refl).active, active qs (λ k. each (suc k)))

  symbol_there : (x : ℕ) (s : ℕ) → (net_of n).symbol x ≡ Some s → (c : SymbolNo) × (symbol_in n x ≡ Some c)
  symbol_there x s e = go (symbol_in n x) refl e
    where
      go : (o : Option SymbolNo) → symbol_in n x ≡ o → option_map (λ (s : SymbolNo). s.0) o ≡ Some s → (c : SymbolNo) × (symbol_in n x ≡ Some c)
      go None is f = cc
      go (Some c) is f = (c, is)

  first_in : (qs : List (ℕ × ℕ)) (k : ℕ) (q : ℕ × ℕ) → slice_get qs k ≡ Some q → IsAmong q.0 (agents_of qs) × IsAmong q.1 (agents_of qs)
  first_in [] k q e = cc
  first_in (r ∷ rs) zero q e = let same : r ≡ q = same_Some r q e in (inl (ap (λ (z : ℕ × ℕ). z.0) same), inr (inl (ap (λ (z : ℕ × ℕ). z.1) same)))
  first_in (r ∷ rs) (suc k) q e = let m = first_in rs k q e in (inr (inr m.0), inr (inr m.1))

  all : (x y : ℕ) → (net_of n).partner (Port x 0) ≡ Some (Port y 0) → IsAmong x (agents_of qs)
  all x y e =
      let s = symbol_of (signature_of p.tables) ((net_of n).symbol x) 0 (net.points (Port x 0) (Port y 0) e) in
      let r = symbol_of (signature_of p.tables) ((net_of n).symbol y) 0 (net.points (Port y 0) (Port x 0) (net.back (Port x 0) (Port y 0) e)) in
      let c = symbol_there x s.0 s.1 in
      let d = symbol_there y r.0 r.1 in
      go c.0 d.0 c.1 d.1 (is_constructor p.tables c.0.0) refl
    where
      a : AgentNo
      a = record { 0 = x }

      b : AgentNo
      b = record { 0 = y }

      joined : AreActive n (record { 0 = x }) (record { 0 = y })
      joined = map_is (partner_in n (code.Port (record { 0 = x }) 0)) (Port y 0) e

      go : (c d : SymbolNo) → symbol_in n x ≡ Some c → symbol_in n y ≡ Some d → (v : Bool) → is_constructor p.tables c.0 ≡ v → IsAmong x (agents_of qs)
      go c d one two true is =
          let k = queue.all (record { 0 = x }, record { 0 = y }) (record { active = joined; first = c; second = d; one = one; two = two; order = stands p n promised (record { 0 = x }) (record { 0 = y }) c d one two joined is }) in
          (first_in qs k.0 (x, y) k.1).0
      go c d one two false is =
          let k = queue.all (record { 0 = y }, record { 0 = x }) (record {
            active = back_of (code.Port (record { 0 = x }) 0) (code.Port (record { 0 = y }) 0) joined;
            first = d;
            second = c;
            one = two;
            two = one;
            order = stands_other p n promised (record { 0 = x }) (record { 0 = y }) c d one two joined is;
          }) in
          (first_in qs k.0 (y, x) k.1).1

  pub is_queue : IsQueue (net_of n) qs
  is_queue = record { active = active qs queue.pairs; all = all; once = different p.tables n back_of qs queue.pairs queue.once }

-- ---- reducers

module _ (m : MachineParts) (h : IsReducer m) where
  pub reducer_promised : IsAsPromised (system_of m.program) (net_of (parts_of m))
  reducer_promised = reducible_as_promised h.accepted.0 h.accepted.1 (plain_of m) h.accepted.2 h.net

  pub reducer_queue : IsQueue (net_of (parts_of m)) m.queue
  reducer_queue = is_queue m.program (parts_of m) reducer_promised m.queue h.queue

  pub few_agents : count_by is_some m.agents ≤ all_of h.cells.0
  few_agents =
      let a = all_classes m.program.tables (few_ports h.accepted.0 h.accepted.1 m.program h.accepted.2) m.agents in
      let each = sum_at_most (λ c. machines.agents_of m.program.tables c m.agents) h.cells.0 (λ c. (let all = h.cells.2 c in omega (arith, all))) in
      omega (arith, a, each)

  pub short_queue : 2 * length m.queue ≤ all_of h.cells.0
  short_queue = let a = few_agents in let b = half_of m.program (parts_of m) reducer_promised m.queue h.queue in omega arith
