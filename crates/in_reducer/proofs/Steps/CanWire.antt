-- If new agents are begun beside a pair to which no wire leads back, and the pair is retired, the wires can be written.
use Rattle.std.proofs.Common.{◌≡◌, ◌≢◌, ◌⊎◌, ◌↔◌, inl, inr, ◌<◌, ◌≤◌, ℕ, suc, Option, Some, None, List, length, map, slice_get, refl, sym, ap, subst, ◌∙◌, arith}
use native.Mathlib.Decide.{ℕ_discrete}
use Rattle.std.specs.Prelude.{IsSomeAnd, IsTrue}
use Rattle.in_arena.specs.Arenas.{ArenaView, state_at}
use Rattle.in_arena.specs.States.{State, Vacant, word_of, end_at, places}
use Rattle.in_arena.specs.declared.content.CellNo.{CellNo}
use Rattle.in_arena.specs.declared.content.End.{End}
use Rattle.in_symbols.specs.Tables.{Tables, arity_of}
use Rattle.in_net.specs.Interactions.{IsOfPair, end_agent, end_place}
use Rattle.in_net.specs.Nets.{Point, Port, Free, Net, net_of, signature_of}
use Rattle.in_cells.specs.Between.{Interaction, IsDone, before, redex_of}
use Rattle.in_cells.specs.Shown.{end_of, stands_at}
use Rattle.in_cells.proofs.Public.{take_at}
use Rattle.in_compile.specs.Templates.{TemplateParts}
use Rattle.in_compile.specs.Wires.{both_points, over_of, over_point, within_of}
use Rattle.in_compile.proofs.Public.{over_ends, wires_within}
use Rattle.in_overwriting.specs.MadeByWires.{CanOverwriteAt}
use Rattle.in_overwriting.specs.InTurn.{AreAllWiresOf}
use Rattle.in_overwriting.proofs.Public.{wires_in_two_parts}
use Rattle.in_reducer.specs.declared.sides.Pair.{Pair}
use Rattle.in_reducer.specs.Interacting.{PairSetting, IsAbout, interaction_of, named}
use Rattle.in_reducer.specs.Sides.{end_there, port_at}
use Rattle.in_reducer.specs.Wiring.{AreAtAgents, AreLive, HasBegun, IsSideOf, IsWiring, retired, wires_of}
use Rattle.in_reducer.proofs.Steps.Agents as agents
use Rattle.in_reducer.proofs.Steps.Agents.{HoldsAgents}
use Rattle.in_reducer.proofs.Steps.Reading as read
use Rattle.in_reducer.proofs.Steps.SetUp as ready
use Rattle.in_reducer.proofs.Steps.SetUp.{AgentsStay}
use Rattle.in_reducer.proofs.Steps.Wired as wires

module _ (t : Tables) (s : PairSetting) (p : TemplateParts) (pair : Pair) (own : ℕ) (old : ArenaView) (ends : List End) (about : IsAbout t s p pair own old ends) (ns : List CellNo) (now : ArenaView) (begun : HasBegun p.member ns old now) (unmarked : IsTrue p.unmarked) where
  abbrev x : Interaction
  x = interaction_of s ns

  abbrev m : Net ℕ
  m = net_of s.rule.member

  can : CanOverwriteAt t s.net s.rule s.one s.two (named ns)
  can =
      let c = (ready.begun_with t s p pair own old ends about ns now begun).can in
      record { net = c.net; inside = c.inside; redex = c.redex; naming = c.naming; none_back = about.apart (about.template.unmarked.0 unmarked) }

  own_is : own ≡ length (net_of s.net).free
  own_is = (ready.begun_with t s p pair own old ends about ns now begun).own_ends

  many_is : length p.member.joints ≡ length m.free
  many_is = (ready.begun_with t s p pair own old ends about ns now begun).boundary

  abbrev IsAgent : ℕ → ℕ → Type 0
  IsAgent y z = ((before x).symbol y ≡ Some z) ⊎ ((k : ℕ) × (x.name k ≡ y) × (m.symbol k ≡ Some z))

  stays : AgentsStay (net_of s.net) old now
  stays = ready.begun_stays t s p pair own old ends about ns now begun

  held : HoldsAgents t now IsAgent
  held = agents.held t s p pair own old ends about ns old now begun (λ y z. (before x).symbol y ≡ Some z) (λ y z here w. about.shown.agents y ∙ w) (λ y z f. (stays y z f, f))

  still : (u v : Point ℕ) → (net_of s.net).partner u ≡ Some v → stands_at now ends u ≡ Some (end_of v)
  still (Port y i) v w = ap (λ (c : State). end_at c i) (stays y symbol.0 symbol.1) ∙ read.stood t s p pair own old ends about (Port y i) v w
    where
      symbol : (z : ℕ) × ((net_of s.net).symbol y ≡ Some z)
      symbol = go ((net_of s.net).symbol y) refl (about.net.points (Port y i) v w)
        where
          go : (o : Option ℕ) → (net_of s.net).symbol y ≡ o → IsSomeAnd o (λ s. i ≤ arity_of t s) → (z : ℕ) × ((net_of s.net).symbol y ≡ Some z)
          go None is h = absurd h
          go (Some z) is h = (z, is)
  still (Free k) v w =
      sym (take_at own k ends (let l : k < length (net_of s.net).free = about.net.points (Free k) v w in let o = own_is in omega (arith, l, o))) ∙ read.stood t s p pair own old ends about (Free k) v w

  -- the partner of the pair's port at a boundary end is a side of that end
  port_stands : (e : ℕ) (u : Point ℕ) → IsSideOf t x (Free e) u → end_there now (port_at pair e) ≡ Some (end_of u)
  port_stands e u side =
      read.port_stands t s p pair own old ends about now e u (still (Port (end_agent (signature_of t) (redex_of x) e) (end_place (signature_of t) (redex_of x) e)) u side)

  one_stays : state_at now pair.one.0 ≡ state_at old pair.one.0
  one_stays = stays pair.one.0 s.rule.heads.0.0 (ap (net_of s.net).symbol about.one ∙ about.redex.one)

  two_stays : state_at now pair.other.0 ≡ state_at old pair.other.0
  two_stays = stays pair.other.0 s.rule.heads.1.0 (ap (net_of s.net).symbol about.two ∙ about.redex.two)

  -- the pair's ports can be read
  pub can_read : read.CanReadFor p.member now pair
  can_read = read.can_read t s p pair own old ends about now one_stays two_stays

  all_wires : AreAllWiresOf m (wires_of p.member)
  all_wires =
      wires_in_two_parts (signature_of t) m (map over_point (over_of p.member)) (map both_points (within_of p.member)) about.inside (over_ends t s.rule.member p.member about.template.member)
      (wires_within t s.rule.member p.member about.template.member (signature_of t) about.inside)

  -- ---- the pair is retired

  pub live : AreLive pair now
  live = read.live t s p pair own old ends about now one_stays two_stays

  module _ (b : ArenaView) (gone : b ≡ retired pair now) where
    differ : pair.one.0 ≢ pair.other.0
    differ = read.pair_differs t s p pair own old ends about

    one_gone : state_at b s.one.0 ≡ Vacant
    one_gone = ap (state_at b) (sym about.one) ∙ read.one_gone pair now live differ b gone

    two_gone : state_at b s.two.0 ≡ Vacant
    two_gone = ap (state_at b) (sym about.two) ∙ read.two_gone pair now live differ b gone

    others : (y : ℕ) → y ≢ s.one.0 → y ≢ s.two.0 → state_at b y ≡ state_at now y
    others y f g = read.others_stay pair now live differ b gone y (λ e. f (e ∙ about.one)) (λ e. g (e ∙ about.two))

    -- a number is one of the pair's, or the cell is as it was
    data Where (y : ℕ) : Type 0 where
      at_one : y ≡ s.one.0 → Where y
      at_two : y ≡ s.two.0 → Where y
      other : y ≢ s.one.0 → y ≢ s.two.0 → Where y

    where_is : (y : ℕ) → Where y
    where_is y = go (ℕ_discrete y s.one.0) (ℕ_discrete y s.two.0)
      where
        go : Dec (y ≡ s.one.0) → Dec (y ≡ s.two.0) → Where y
        go (yes f) e = at_one f
        go (no f) (yes g) = at_two g
        go (no f) (no g) = other f g

    no_word_one : (y z : ℕ) → y ≡ s.one.0 → word_of (state_at b y) ≡ Some z → ⊥
    no_word_one y z f w = let n : None ≡ Some z = sym (ap word_of (ap (state_at b) f ∙ one_gone)) ∙ w in cc

    no_word_two : (y z : ℕ) → y ≡ s.two.0 → word_of (state_at b y) ≡ Some z → ⊥
    no_word_two y z f w = let n : None ≡ Some z = sym (ap word_of (ap (state_at b) f ∙ two_gone)) ∙ w in cc

    -- a new agent isn't one of the pair
    new_other : (k z : ℕ) → m.symbol k ≡ Some z → (x.name k ≢ s.one.0) × (x.name k ≢ s.two.0)
    new_other k z f = (
      (λ same. (let g : None ≡ Some s.rule.heads.0.0 = sym (can.naming.fresh k z f) ∙ ap (before x).symbol same ∙ about.redex.one in cc)),
      (λ same. (let g : None ≡ Some s.rule.heads.1.0 = sym (can.naming.fresh k z f) ∙ ap (before x).symbol same ∙ about.redex.two in cc)),
    )

    abbrev IsAgentAfter : ℕ → ℕ → Type 0
    IsAgentAfter y z = ((y ≢ s.one.0) × (y ≢ s.two.0) × ((before x).symbol y ≡ Some z)) ⊎ ((k : ℕ) × (x.name k ≡ y) × (m.symbol k ≡ Some z))

    symbols_after : (y z : ℕ) → (word_of (state_at b y) ≡ Some z) ↔ IsAgentAfter y z
    symbols_after y z = (forth (where_is y), back)
      where
        forth : Where y → word_of (state_at b y) ≡ Some z → IsAgentAfter y z
        forth (at_one f) w = absurd (no_word_one y z f w)
        forth (at_two f) w = absurd (no_word_two y z f w)
        forth (other f g) w = go ((held.symbols y z).0 (sym (ap word_of (others y f g)) ∙ w))
          where
            go : IsAgent y z → IsAgentAfter y z
            go (inl old) = inl (f, g, old)
            go (inr new) = inr new

        back : IsAgentAfter y z → word_of (state_at b y) ≡ Some z
        back (inl (f, g, old)) = ap word_of (others y f g) ∙ (held.symbols y z).1 (inl old)
        back (inr (k, name, new)) =
            let apart = new_other k z new in
            ap word_of (others y (λ same. apart.0 (name ∙ same)) (λ same. apart.1 (name ∙ same))) ∙ (held.symbols y z).1 (inr (k, name, new))

    places_after : (y z : ℕ) → word_of (state_at b y) ≡ Some z → places (state_at b y) ≡ suc (arity_of t z)
    places_after y z w = go (where_is y)
      where
        go : Where y → places (state_at b y) ≡ suc (arity_of t z)
        go (at_one f) = absurd (no_word_one y z f w)
        go (at_two f) = absurd (no_word_two y z f w)
        go (other f g) = ap places (others y f g) ∙ held.places y z (sym (ap word_of (others y f g)) ∙ w)

    still_after : (u v : Point ℕ) → (net_of s.net).partner u ≡ Some v → (IsOfPair (redex_of x) u → ⊥) → stands_at b ends u ≡ Some (end_of v)
    still_after (Port y i) v w away = ap (λ (c : State). end_at c i) (others y (λ f. away (inl f)) (λ f. away (inr f))) ∙ still (Port y i) v w
    still_after (Free k) v w away = still (Free k) v w

    -- none of its wires is written yet
    pub can_wire : (points : List End) → ((e : ℕ) → e < length p.member.joints → slice_get points e ≡ end_there now (port_at pair e)) → AreAtAgents ns points
        → IsWiring t s p own ns points 0 b ends
    can_wire points at_ends at_agents = record {
      member_over = about.member_over;
      template = about.template;
      typed = about.typed;
      typed_inside = about.typed_inside;
      many = begun.count;
      sides = record { ends = λ e u low side. at_ends e (subst (λ (n : ℕ). e < n) (sym many_is) low) ∙ port_stands e u side; agents = at_agents };
      from = record {
        can = can;
        all = all_wires;
        own_ends = own_is;
        room = (let r = about.room in omega (arith, r));
        symbols = symbols_after;
        places = places_after;
        written = λ j p q u v low. absurd (omega (arith, low));
        still = λ u v w away out. still_after u v w away;
      };
    }

-- ---- all are written

module _ (t : Tables) (s : PairSetting) (p : TemplateParts) (own : ℕ) (ns : List CellNo) (points : List End) (a : ArenaView) (es : List End)
    (h : IsWiring t s p own ns points (length (wires_of p.member)) a es) where
  pub is_done : IsDone t (interaction_of s ns) own a es
  is_done = wires.is_done t (interaction_of s ns) (wires_of p.member) h.from.can h.from.all own a es h.from
