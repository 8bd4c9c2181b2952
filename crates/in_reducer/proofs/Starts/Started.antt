-- A start of an accepted program is a reducer.
use Rattle.std.proofs.Common.{◌≡◌, ℕ, Some, IsSome, List, map, refl, sym, ap, subst, ◌∙◌}
use Rattle.std.proofs.lemmas.Option.{same_Some}
use native.Mathlib.Decide.{ℕ_discrete}
use Rattle.in_arena.specs.declared.content.CellCounts.{CellCounts}
use Rattle.in_symbols.specs.Tables.{Tables}
use Rattle.in_syntax.specs.declared.symbol_no.SymbolNo.{SymbolNo}
use Rattle.in_net.specs.declared.nets.AgentNo.{AgentNo}
use Rattle.in_net.specs.declared.nets.Point.TheVariants as code
use Rattle.in_net.specs.ActivePairs.{AreActive, IsActivePair}
use Rattle.in_net.specs.Built.{IsOver}
use Rattle.in_net.specs.Nets.{Port, IsNet, net_of, signature_of}
use Rattle.in_net.specs.Parts.{Parts, symbol_in, partner_in}
use Rattle.in_net.proofs.Public.{map_is, symbol_of}
use Rattle.in_interaction.specs.Queues.{IsQueueOf, agents_at, both, numbers_of}
use Rattle.in_interaction.proofs.Public.{symbol_is, symbol_number, net_wire}
use Rattle.in_check.specs.Checking.{IsAccepted}
use Rattle.in_check.specs.Programs.{Program}
use Rattle.in_check.specs.Runs.{IsRenamed, at_start}
use Rattle.in_check.specs.Systems.{IsSound, system_of}
use Rattle.in_check.proofs.Public.{is_sound, sound_reached, agents_before, AreOpposed, opposed_in}
use Rattle.in_base.proofs.Places.{of_mapped, to_mapped, is_some as there}
use Rattle.in_check.proofs.Public.{stands_anywhere}
use Rattle.in_reducer.specs.Laws.{StartsAreReducers}
use Rattle.in_reducer.specs.Limiting.{AreAllowed}
use Rattle.in_reducer.specs.Machines.{MachineParts, parts_of}
use Rattle.in_reducer.specs.Reducers.{IsReducer}
use Rattle.in_reducer.specs.Starts.{IsStart}
use Rattle.in_reducer.proofs.Pairs.Requeued.{StandOnce}
use Rattle.in_syntax.specs.declared.text_limits.TextLimits.{TextLimits}

-- ---- a symbol under other numbers

pub symbol_moved : (f : ℕ → ℕ) (n m : Parts) → IsRenamed f (net_of n) (net_of m) → (x : ℕ) (s : SymbolNo) → symbol_in n x ≡ Some s → symbol_in m (f x) ≡ Some s
symbol_moved f n m r x s e = symbol_is (symbol_in m (f x)) s ((r.agents (f x) s.0).1 (x, refl, symbol_number (symbol_in n x) s e))

pub symbol_back : (f : ℕ → ℕ) (n m : Parts) → IsRenamed f (net_of n) (net_of m) → (x k : ℕ) (s : SymbolNo) → (net_of n).symbol x ≡ Some k → symbol_in m (f x) ≡ Some s → symbol_in n x ≡ Some s
symbol_back f n m r x k s h e =
    let same : k ≡ s.0 = same_Some k s.0 (sym ((r.agents (f x) k).1 (x, refl, h)) ∙ symbol_number (symbol_in m (f x)) s e) in
    symbol_is (symbol_in n x) s (h ∙ ap (λ (z : ℕ). Some z) same)

-- ---- a queue under other numbers

-- the two agents of an active pair are there
pub lives : (t : Tables) (n : Parts) (q : ℕ × ℕ) → IsActivePair t n (agents_at q) → IsSome ((net_of n).symbol q.0) × IsSome ((net_of n).symbol q.1)
lives t n q h = (there ((net_of n).symbol q.0) h.first.0 (symbol_number (symbol_in n q.0) h.first h.one), there ((net_of n).symbol q.1) h.second.0 (symbol_number (symbol_in n q.1) h.second h.two))

module _ (t : Tables) (f : ℕ → ℕ) (n m : Parts) (net : IsNet (signature_of t) (net_of n)) (named : IsRenamed f (net_of n) (net_of m)) (opposed : AreOpposed t n) (qs : List (ℕ × ℕ)) (queue : IsQueueOf t n qs) where
  moved : (q : ℕ × ℕ) → IsActivePair t n (agents_at q) → IsActivePair t m (agents_at (both f q))
  moved q h =
      let wire : (net_of m).partner (Port (f q.0) 0) ≡ Some (Port (f q.1) 0) =
      (named.wires (Port (f q.0) 0) (Port (f q.1) 0)).1 (Port q.0 0, Port q.1 0, refl, refl, net_wire n (code.Port (agents_at q).0 0) (code.Port (agents_at q).1 0) h.active) in
      let z = agents_at (both f q) in
      record {
        active = map_is (partner_in m (code.Port z.0 0)) (Port (f q.1) 0) wire;
        first = h.first;
        second = h.second;
        one = symbol_moved f n m named q.0 h.first h.one;
        two = symbol_moved f n m named q.1 h.second h.two;
        order = stands_anywhere t n (agents_at q).0 (agents_at q).1 (agents_at q).0 (agents_at q).1 h.first h.second opposed h.active h.one h.two h.order z.0 z.1;
      }

  before : (q : AgentNo × AgentNo) → IsActivePair t m q → (z : ℕ × ℕ) × (both f z ≡ numbers_of q) × IsActivePair t n (agents_at z)
  before q h =
      let w = agents_before f (net_of n) (net_of m) named q.0.0 q.1.0 (net_wire m (code.Port q.0 0) (code.Port q.1 0) h.active) in
      let x : AgentNo = record { 0 = w.0 } in
      let y : AgentNo = record { 0 = w.1 } in
      let s = symbol_of (signature_of t) ((net_of n).symbol w.0) 0 (net.points (Port w.0 0) (Port w.1 0) w.4) in
      let v = symbol_of (signature_of t) ((net_of n).symbol w.1) 0 (net.points (Port w.1 0) (Port w.0 0) (net.back (Port w.0 0) (Port w.1 0) w.4)) in
      let one : symbol_in n w.0 ≡ Some h.first = symbol_back f n m named w.0 s.0 h.first s.1 (ap (symbol_in m) w.2 ∙ h.one) in
      let two : symbol_in n w.1 ≡ Some h.second = symbol_back f n m named w.1 v.0 h.second v.1 (ap (symbol_in m) w.3 ∙ h.two) in
      let active : AreActive n x y = map_is (partner_in n (code.Port x 0)) (Port w.1 0) w.4 in (
        (w.0, w.1),
        ap (λ (z : ℕ). let p : ℕ × ℕ = (z, f w.1) in p) w.2 ∙ ap (λ (z : ℕ). let p : ℕ × ℕ = (q.0.0, z) in p) w.3,
        record { active = active; first = h.first; second = h.second; one = one; two = two; order = stands_anywhere t n x y q.0 q.1 h.first h.second opposed active one two h.order x y },
      )

  pub queue_moved : IsQueueOf t m (map (both f) qs)
  queue_moved = record {
    pairs = λ k q e. (let z = of_mapped (both f) qs k q e in subst (λ (v : ℕ × ℕ). IsActivePair t m (agents_at v)) z.2 (moved z.0 (queue.pairs k z.0 z.1)));
    all = λ q h. (let z = before q h in let k = queue.all (agents_at z.0) z.2 in (k.0, to_mapped (both f) qs k.0 z.0 k.1 ∙ ap (λ (v : ℕ × ℕ). Some v) z.1));
    once = once;
  }
    where
      once : StandOnce (map (both f) qs)
      once j k q e d =
          let x = of_mapped (both f) qs j q e in
          let y = of_mapped (both f) qs k q d in
          let a = lives t n x.0 (queue.pairs j x.0 x.1) in
          let b = lives t n y.0 (queue.pairs k y.0 y.1) in
          let named_alike : both f x.0 ≡ both f y.0 = x.2 ∙ sym y.2 in
          let one : x.0.0 ≡ y.0.0 = named.apart x.0.0 y.0.0 a.0 b.0 (ap (λ (z : ℕ × ℕ). z.0) named_alike) in
          let two : x.0.1 ≡ y.0.1 = named.apart x.0.1 y.0.1 a.1 b.1 (ap (λ (z : ℕ × ℕ). z.1) named_alike) in
          let same : x.0 ≡ y.0 = ap (λ (z : ℕ). let w : ℕ × ℕ = (z, x.0.1) in w) one ∙ ap (λ (z : ℕ). let w : ℕ × ℕ = (y.0.0, z) in w) two in
          queue.once j k y.0 (x.1 ∙ ap (λ (z : ℕ × ℕ). Some z) same) y.1

-- ---- starts

module _ (limits : TextLimits) (text : List ℕ) (p : Program) (accepted : IsAccepted limits text p) where
  pub net_at : IsNet (signature_of p.tables) (net_of p.net)
  net_at = (is_sound limits text p accepted).start.net

  pub opposed_at : AreOpposed p.tables p.net
  opposed_at = opposed_in p.tables p.net (is_sound limits text p accepted).start.typed

  -- the program's net is sound under any names
  pub sound_at : (f : ℕ → ℕ) (n : Parts) → IsRenamed f (net_of p.net) (net_of n) → IsSound (system_of p) (net_of n)
  sound_at f n named = sound_reached (system_of p) (is_sound limits text p accepted) ℕ_discrete 0 (net_of n) (at_start f (net_of n) named)

  module _ (cells : CellCounts) (few : AreAllowed cells) (m : MachineParts) (h : IsStart p cells m) where
    start_queue : IsQueueOf p.tables (parts_of m) m.queue
    start_queue = subst (IsQueueOf p.tables (parts_of m)) (sym h.queue) (queue_moved p.tables h.name p.net (parts_of m) net_at h.net opposed_at h.first h.pairs.pairs)

    pub start_reducer : IsReducer m
    start_reducer = record {
      accepted = (limits, text, subst (λ (z : Program). IsAccepted limits text z) (sym h.program) accepted);
      net = record {
        sound = subst (λ (z : Program). IsSound (system_of z) (net_of (parts_of m))) (sym h.program) (sound_at h.name (parts_of m) h.net);
        over = subst (λ (z : Program). IsOver z.tables (parts_of m)) (sym h.program) h.over;
      };
      queue = subst (λ (z : Program). IsQueueOf z.tables (parts_of m) m.queue) (sym h.program) start_queue;
      cells = (cells, few, h.counted);
    }

pub starts_are_reducers : StartsAreReducers
starts_are_reducers limits text p cells m accepted few h = start_reducer limits text p accepted cells few m h
