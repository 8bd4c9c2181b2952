-- If a pair to which no wire leads back is retired, and then new agents are begun, also in its cells, the wires can be written: as in the
-- net in which the pair has numbers of no cell.
use Rattle.std.proofs.Common.{◌≡◌, ◌≢◌, ◌⊎◌, inl, inr, ◌<◌, ◌≤◌, ℕ, Option, Some, None, List, length, map, slice_get, refl, sym, ap, subst, ◌∙◌, arith}
use native.Mathlib.Decide.{ℕ_discrete}
use Rattle.std.proofs.lemmas.List.{length-set}
use Rattle.std.specs.Prelude.{IsSomeAnd, IsTrue}
use Rattle.in_base.proofs.Options.{none_of}
use Rattle.in_arena.specs.Arenas.{ArenaView, changed, state_at}
use Rattle.in_arena.specs.States.{State, Vacant, word_of, end_at}
use Rattle.in_arena.specs.declared.content.CellNo.{CellNo}
use Rattle.in_arena.specs.declared.content.End.{End}
use Rattle.in_arena.proofs.Public.{live_inside, word_live}
use Rattle.in_symbols.specs.Tables.{Tables, arity_of}
use Rattle.in_net.specs.Interactions.{Redex, IsOfPair, end_agent, end_place, redex_at}
use Rattle.in_net.specs.Nets.{Point, Port, Free, Net, Signature, IsPoint, net_of, signature_of}
use Rattle.in_net.specs.Parts.{Parts}
use Rattle.in_interaction.proofs.Public.{has_value, outer_next}
use Rattle.in_cells.specs.Between.{Interaction, before, redex_of}
use Rattle.in_cells.specs.Shown.{end_of, stands_at}
use Rattle.in_cells.proofs.Public.{take_at}
use Rattle.in_compile.specs.Templates.{TemplateParts}
use Rattle.in_compile.specs.Wires.{both_points, over_of, over_point, within_of}
use Rattle.in_compile.proofs.Public.{over_ends, wires_within}
use Rattle.in_overwriting.specs.InTurn.{AreAllWiresOf}
use Rattle.in_overwriting.specs.MadeByWires.{CanOverwriteAt}
use Rattle.in_overwriting.proofs.Public.{sides_are_apart, wires_in_two_parts}
use Rattle.in_reducer.specs.declared.sides.Pair.{Pair}
use Rattle.in_reducer.specs.Aside.{AreAlikeAside}
use Rattle.in_reducer.specs.Interacting.{PairSetting, IsAbout, interaction_of, named}
use Rattle.in_reducer.specs.Sides.{end_there, port_at}
use Rattle.in_reducer.specs.Wiring.{AreAtAgents, AreLive, HasBegun, IsSetAside, IsSideAfter, IsSideOf, IsWiring, aside_of, retired, wires_of}
use Rattle.in_reducer.proofs.Numbers.Aside.{pairs_aside_are_alike}
use Rattle.in_reducer.proofs.Steps.Agents as agents
use Rattle.in_reducer.proofs.Steps.Agents.{HoldsAgents}
use Rattle.in_reducer.proofs.Steps.Laid as laid
use Rattle.in_reducer.proofs.Steps.Laid.{in_or_out}
use Rattle.in_reducer.proofs.Steps.Reading as read
use Rattle.in_reducer.proofs.Steps.SetUp.{boundary_many, own_many}

module _ (t : Tables) (s : PairSetting) (p : TemplateParts) (pair : Pair) (own : ℕ) (old : ArenaView) (ends : List End) (about : IsAbout t s p pair own old ends) (ns : List CellNo) (now : ArenaView) (begun : HasBegun p.member ns (retired pair old) now) (unmarked : IsTrue p.unmarked)
    (n : Parts) (f : ℕ → ℕ) (set : IsSetAside t s old n f) where
  abbrev x : Interaction
  x = interaction_of (aside_of s n f) ns

  abbrev m : Net ℕ
  m = net_of s.rule.member

  abbrev sig : Signature
  sig = signature_of t

  -- the pair as it was
  abbrev redex : Redex ℕ ℕ
  redex = redex_at s.rule s.one.0 s.two.0

  alike : AreAlikeAside sig (net_of s.net) (net_of n) redex f
  alike = pairs_aside_are_alike sig (net_of s.net) (net_of n) redex f about.net about.redex (about.apart (about.template.unmarked.0 unmarked)) set.aside

  pub live : AreLive pair old
  live = read.live t s p pair own old ends about old refl refl

  -- ---- cells

  gone : ArenaView
  gone = retired pair old

  one_gone : state_at (retired pair old) s.one.0 ≡ Vacant
  one_gone = ap (state_at (retired pair old)) (sym about.one) ∙ read.one_gone pair old live (read.pair_differs t s p pair own old ends about) (retired pair old) refl

  two_gone : state_at (retired pair old) s.two.0 ≡ Vacant
  two_gone = ap (state_at (retired pair old)) (sym about.two) ∙ read.two_gone pair old live (read.pair_differs t s p pair own old ends about) (retired pair old) refl

  others : (y : ℕ) → y ≢ s.one.0 → y ≢ s.two.0 → state_at (retired pair old) y ≡ state_at old y
  others y g h = read.others_stay pair old live (read.pair_differs t s p pair own old ends about) (retired pair old) refl y (λ e. g (e ∙ about.one)) (λ e. h (e ∙ about.two))

  as_many : length now.states ≡ length old.states
  as_many = begun.many ∙ length-set (changed old pair.one.0 Vacant).states pair.other.0 Vacant ∙ length-set old.states pair.one.0 Vacant

  -- a live cell has none of the numbers aside
  not_aside : (y z : ℕ) → word_of (state_at now y) ≡ Some z → (y ≢ f s.one.0) × (y ≢ f s.two.0)
  not_aside y z w =
      let low = live_inside now y (word_live (state_at now y) z w) in
      let many = as_many in
      let one = set.one in
      let two = set.two in
      ((λ e. omega (arith, low, many, one, e)), (λ e. omega (arith, low, many, two, e)))

  -- no new agent was begun in the cell of an agent that stays
  stays_out : (y z : ℕ) → y ≢ s.one.0 → y ≢ s.two.0 → (net_of s.net).symbol y ≡ Some z → (k : ℕ) → slice_get ns k ≡ Some (record { 0 = y }) → ⊥
  stays_out y z g h e k at =
      let a = laid.begun_whose t s.rule.member about.member_over p.member about.template.member ns (retired pair old) now begun k y at in
      let free = laid.begun_free t s.rule.member about.member_over p.member about.template.member ns (retired pair old) now begun k a.0 a.1 in
      let none : word_of (state_at old y) ≡ None = sym (ap word_of (others y g h)) ∙ ap (λ (z : ℕ). word_of (state_at (retired pair old) z)) (sym a.2) ∙ free in
      let w : None ≡ Some z = sym none ∙ sym (about.shown.agents y) ∙ e in cc

  stays : (y z : ℕ) → y ≢ s.one.0 → y ≢ s.two.0 → (net_of s.net).symbol y ≡ Some z → state_at now y ≡ state_at old y
  stays y z g h e = begun.others y (stays_out y z g h e) ∙ others y g h

  -- ---- agents

  -- an agent of the net aside that isn't the pair is one of the net
  agent_back : (y z : ℕ) → y ≢ f s.one.0 → y ≢ f s.two.0 → (net_of n).symbol y ≡ Some z → (y ≢ s.one.0) × (y ≢ s.two.0) × ((net_of s.net).symbol y ≡ Some z)
  agent_back y z g h e = go ((set.aside.renamed.agents y z).0 e)
    where
      go : (w : ℕ) × (f w ≡ y) × ((net_of s.net).symbol w ≡ Some z) → (y ≢ s.one.0) × (y ≢ s.two.0) × ((net_of s.net).symbol y ≡ Some z)
      go (w, is, there) =
          let not_one : w ≢ s.one.0 = (λ e. g (sym is ∙ ap f e)) in
          let not_two : w ≢ s.two.0 = (λ e. h (sym is ∙ ap f e)) in
          let same : w ≡ y = sym (set.aside.stays w not_one not_two) ∙ is in
          ((λ e. not_one (same ∙ e)), (λ e. not_two (same ∙ e)), ap (net_of s.net).symbol (sym same) ∙ there)

  agent_forth : (y z : ℕ) → y ≢ s.one.0 → y ≢ s.two.0 → (net_of s.net).symbol y ≡ Some z → (net_of n).symbol y ≡ Some z
  agent_forth y z g h e = (set.aside.renamed.agents y z).1 (y, set.aside.stays y g h, e)

  abbrev IsAgent : ℕ → ℕ → Type 0
  IsAgent y z = ((y ≢ f s.one.0) × (y ≢ f s.two.0) × ((net_of n).symbol y ≡ Some z)) ⊎ ((k : ℕ) × (x.name k ≡ y) × (m.symbol k ≡ Some z))

  -- a cell that is live once the pair is retired has an agent of the net that isn't the pair
  stood_before : (y z : ℕ) → word_of (state_at (retired pair old) y) ≡ Some z → (y ≢ s.one.0) × (y ≢ s.two.0) × ((net_of s.net).symbol y ≡ Some z)
  stood_before y z w =
      let not_one : y ≢ s.one.0 = (λ e. (let v : None ≡ Some z = sym (ap word_of (ap (state_at (retired pair old)) e ∙ one_gone)) ∙ w in cc)) in
      let not_two : y ≢ s.two.0 = (λ e. (let v : None ≡ Some z = sym (ap word_of (ap (state_at (retired pair old)) e ∙ two_gone)) ∙ w in cc)) in
      (not_one, not_two, about.shown.agents y ∙ sym (ap word_of (others y not_one not_two)) ∙ w)

  held : HoldsAgents t now IsAgent
  held =
      agents.held t s p pair own old ends about ns (retired pair old) now begun (λ y z. (y ≢ f s.one.0) × (y ≢ f s.two.0) × ((net_of n).symbol y ≡ Some z))
      (λ y z here w. (let b = stood_before y z w in let a = not_aside y z here in (a.0, a.1, agent_forth y z b.0 b.1 b.2)))
      (λ y z h. (let b = agent_back y z h.0 h.1 h.2 in (stays y z b.0 b.1 b.2, b.2)))

  -- ---- names

  can : CanOverwriteAt t n s.rule (record { 0 = f s.one.0 }) (record { 0 = f s.two.0 }) (named ns)
  can = record {
    net = set.net;
    inside = about.inside;
    redex = set.redex;
    naming = record { fresh = fresh; apart = apart };
    none_back = alike.none_back;
  }
    where
      fresh : (k z : ℕ) → m.symbol k ≡ Some z → (net_of n).symbol (named ns k) ≡ None
      fresh k z e = none_of ((net_of n).symbol (named ns k)) (λ w there. (
          let a = laid.agent_at t s.rule.member about.member_over p.member about.template.member k z e in
          let free = laid.begun_free t s.rule.member about.member_over p.member about.template.member ns (retired pair old) now begun k a.0 a.1 in
          let away = not_aside (named ns k) z (laid.begun_word t s.rule.member about.member_over p.member about.template.member ns (retired pair old) now begun k z e) in
          let b = agent_back (named ns k) w away.0 away.1 there in
          let v : None ≡ Some w = sym free ∙ ap word_of (others (named ns k) b.0 b.1) ∙ sym (about.shown.agents (named ns k)) ∙ b.2 in
          cc
          ))

      apart : (k l v w : ℕ) → m.symbol k ≡ Some v → m.symbol l ≡ Some w → named ns k ≡ named ns l → k ≡ l
      apart k l v w e g same =
          let a = laid.agent_at t s.rule.member about.member_over p.member about.template.member k v e in
          let b = laid.agent_at t s.rule.member about.member_over p.member about.template.member l w g in
          laid.begun_once t s.rule.member about.member_over p.member about.template.member ns (retired pair old) now begun k l a.0 b.0 a.1 b.1 same

  -- ---- wires

  own_is : own ≡ length (net_of n).free
  own_is = own_many t s p pair own old ends about ∙ sym (ap length set.aside.renamed.free)

  port_side : (e : ℕ) (u : Point ℕ) → IsSideOf t x (Free e) u → end_there old (port_at pair e) ≡ Some (end_of u)
  port_side e u side =
      read.port_stands t s p pair own old ends about old e u
      (read.stood t s p pair own old ends about (Port (end_agent sig redex e) (end_place sig redex e)) u ((alike.ends e u).0 side))

  -- a point of the right member has a wire, so it leads to a side
  is_side : (q u : Point ℕ) → IsPoint sig m q → IsSideOf t x q u → IsSideAfter t x u
  is_side q u h at =
      let r = has_value (m.partner q) (about.inside.joined q h) in
      let w = (sides_are_apart sig (before x) (redex_of x) x.name can).side r.0 (about.inside.points r.0 q (about.inside.back q r.0 r.1)) in
      (w.0, (q, r.0, r.1, at, w.1))

  -- a point that leads to the pair is a side
  leads_out : (u v : Point ℕ) → (net_of n).partner u ≡ Some v → (IsOfPair (redex_of x) u → ⊥) → (IsSideAfter t x u → ⊥) → IsOfPair (redex_of x) v → ⊥
  leads_out u v wire away none of =
      elim (outer_next sig (net_of n) (redex_of x) x.name set.net about.inside set.redex can.naming ℕ_discrete u v wire (λ e. away (subst (IsOfPair (redex_of x)) (sym e) (inl refl))) (λ e. away (subst (IsOfPair (redex_of x)) (sym e) (inr refl)))) [
        | inl out ↦ out of
        | inr d ↦ none (is_side (Free d.0) u (subst (λ (k : ℕ). d.0 < k) (sym set.redex.ends) d.1) (ap (net_of n).partner (sym d.2) ∙ set.net.back u v wire))
      ]

  still : (u v : Point ℕ) → (net_of n).partner u ≡ Some v → (IsOfPair (redex_of x) u → ⊥) → (IsSideAfter t x u → ⊥) → stands_at now ends u ≡ Some (end_of v)
  still u v wire away none = go u (alike.back u v away (leads_out u v wire away none) wire)
    where
      go : (u : Point ℕ) → ((net_of s.net).partner u ≡ Some v) × (IsOfPair redex u → ⊥) × (IsOfPair redex v → ⊥) → stands_at now ends u ≡ Some (end_of v)
      go (Port y i) (w, out, _) = ap (λ (c : State). end_at c i) (stays y symbol.0 (λ e. out (inl e)) (λ e. out (inr e)) symbol.1) ∙ read.stood t s p pair own old ends about (Port y i) v w
        where
          symbol : (z : ℕ) × ((net_of s.net).symbol y ≡ Some z)
          symbol = pick ((net_of s.net).symbol y) refl (about.net.points (Port y i) v w)
            where
              pick : (o : Option ℕ) → (net_of s.net).symbol y ≡ o → IsSomeAnd o (λ s. i ≤ arity_of t s) → (z : ℕ) × ((net_of s.net).symbol y ≡ Some z)
              pick None is h = absurd h
              pick (Some z) is h = (z, is)
      go (Free k) (w, _, _) =
          sym (take_at own k ends (let l : k < length (net_of s.net).free = about.net.points (Free k) v w in let o = own_many t s p pair own old ends about in omega (arith, l, o))) ∙ read.stood t s p pair own old ends about (Free k) v w

  all_wires : AreAllWiresOf m (wires_of p.member)
  all_wires =
      wires_in_two_parts sig m (map over_point (over_of p.member)) (map both_points (within_of p.member)) about.inside (over_ends t s.rule.member p.member about.template.member)
      (wires_within t s.rule.member p.member about.template.member sig about.inside)

  -- none of its wires is written yet
  pub can_wire : (points : List End) → ((e : ℕ) → e < length p.member.joints → slice_get points e ≡ end_there old (port_at pair e)) → AreAtAgents ns points
      → IsWiring t (aside_of s n f) p own ns points 0 now ends
  can_wire points at_ends at_agents = record {
    member_over = about.member_over;
    template = about.template;
    typed = set.typed;
    typed_inside = about.typed_inside;
    many = begun.count;
    sides = record { ends = λ e u low side. at_ends e (subst (λ (n : ℕ). e < n) (sym (boundary_many t s p pair own old ends about)) low) ∙ port_side e u side; agents = at_agents };
    from = record {
      can = can;
      all = all_wires;
      own_ends = own_is;
      room = (let r = about.room in omega (arith, r));
      symbols = held.symbols;
      places = held.places;
      written = λ j p q u v low. absurd (omega (arith, low));
      still = still;
    };
  }
