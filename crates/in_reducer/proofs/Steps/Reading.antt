-- An active pair in cells: its agents' places, the words at its ports, and that it can be retired.
use Rattle.std.proofs.Common.{◌≡◌, ◌≢◌, ◌<◌, ◌≤◌, ◌+◌, ◌-◌, ℕ, suc, Bool, cond, nat_lt, Option, Some, None, List, length, take, sym, ap, subst, ◌∙◌, get_or-set_same, get_or-set_other, arith}
use Rattle.std.specs.Prelude.{option_map, IsSomeAnd}
use Rattle.in_arena.specs.Arenas.{ArenaView, changed, state_at}
use Rattle.in_arena.specs.States.{State, Vacant, Leased, Live, IsLive, word_of, end_at, places}
use Rattle.in_arena.specs.declared.content.End.{End}
use Rattle.in_arena.proofs.Public.{live_inside, word_live}
use Rattle.in_symbols.specs.Tables.{Tables, arity_of}
use Rattle.in_net.specs.Interactions.{end_agent, end_place, redex_at}
use Rattle.in_net.specs.Nets.{Point, Port, net_of, signature_of}
use Rattle.in_interaction.proofs.Public.{has_value}
use Rattle.in_base.proofs.Each.{at_index}
use Rattle.in_cells.specs.Shown.{end_of, point_of, stands_at}
use Rattle.in_cells.proofs.Public.{place_within, point_end}
use Rattle.in_compile.specs.Members.{MemberParts}
use Rattle.in_compile.specs.Templates.{TemplateParts}
use Rattle.in_reducer.specs.declared.sides.Pair.{Pair}
use Rattle.in_reducer.specs.Inside.{most_ends, most_points}
use Rattle.in_reducer.specs.Interacting.{PairSetting, IsAbout}
use Rattle.in_reducer.specs.Sides.{end_there, port_at}
use Rattle.in_reducer.specs.Wiring.{AreLive, CanRead, retired}
use Rattle.in_reducer.proofs.Steps.SetUp.{boundary_many, port_is}

-- the pair's ports can be read into any list that has room for the points
abbrev pub CanReadFor : MemberParts → ArenaView → Pair → Type 0
CanReadFor m now pair = (points : List End) (many : ℕ) → many ≡ length m.joints → many ≤ most_ends → most_points ≤ length points → CanRead now pair many points

-- ---- a pair is retired

module _ (pair : Pair) (a : ArenaView) (live : AreLive pair a) (differ : pair.one.0 ≢ pair.other.0) (b : ArenaView) (gone : b ≡ retired pair a) where
  pub one_gone : state_at b pair.one.0 ≡ Vacant
  one_gone =
      ap (λ (b : ArenaView). state_at b pair.one.0) gone
      ∙ get_or-set_other (changed a pair.one.0 Vacant).states pair.other.0 pair.one.0 Vacant Leased differ
      ∙ get_or-set_same a.states pair.one.0 Vacant Leased (live_inside a pair.one.0 live.0)

  pub two_gone : state_at b pair.other.0 ≡ Vacant
  two_gone =
      ap (λ (b : ArenaView). state_at b pair.other.0) gone
      ∙ get_or-set_same (changed a pair.one.0 Vacant).states pair.other.0 Vacant Leased (live_inside (changed a pair.one.0 Vacant) pair.other.0 live.1)

  pub others_stay : (y : ℕ) → y ≢ pair.one.0 → y ≢ pair.other.0 → state_at b y ≡ state_at a y
  others_stay y f g =
      ap (λ (b : ArenaView). state_at b y) gone
      ∙ get_or-set_other (changed a pair.one.0 Vacant).states pair.other.0 y Vacant Leased g
      ∙ get_or-set_other a.states pair.one.0 y Vacant Leased f

module _ (t : Tables) (s : PairSetting) (p : TemplateParts) (pair : Pair) (own : ℕ) (old : ArenaView) (ends : List End) (about : IsAbout t s p pair own old ends) where
  -- the end at a point of the net
  pub stood : (u v : Point ℕ) → (net_of s.net).partner u ≡ Some v → stands_at old (take own ends) u ≡ Some (end_of v)
  stood u v w = go (stands_at old (take own ends) u) (sym (about.shown.wires u) ∙ w)
    where
      go : (o : Option End) → option_map point_of o ≡ Some v → o ≡ Some (end_of v)
      go None f = absurd (let g : None ≡ Some v = f in cc)
      go (Some e) f = let same : point_of e ≡ v = (let g : Some (point_of e) ≡ Some v = f in cc) in ap (λ (e : End). Some e) (sym (point_end e) ∙ ap end_of same)

  -- an agent of the net has a place for each port, and no other
  pub old_places : (y z : ℕ) → (net_of s.net).symbol y ≡ Some z → places (state_at old y) ≡ suc (arity_of t z)
  old_places y z f = between (places (state_at old y)) (arity_of t z) least most
    where
      least : (i : ℕ) → i ≤ arity_of t z → i < places (state_at old y)
      least i low =
          let v = has_value ((net_of s.net).partner (Port y i)) (about.net.joined (Port y i) (subst (λ (o : Option ℕ). IsSomeAnd o (λ s. i ≤ arity_of t s)) (sym f) low)) in
          place_within (state_at old y) i (end_of v.0) (stood (Port y i) v.0 v.1)

      most : (i : ℕ) → i < places (state_at old y) → i ≤ arity_of t z
      most i low =
          let e = there (state_at old y) low in
          let v : (net_of s.net).partner (Port y i) ≡ Some (point_of e.0) = about.shown.wires (Port y i) ∙ ap (option_map point_of) e.1 in
          subst (λ (o : Option ℕ). IsSomeAnd o (λ s. i ≤ arity_of t s)) f (about.net.points (Port y i) (point_of e.0) v)
        where
          there : (c : State) → i < places c → (e : End) × (end_at c i ≡ Some e)
          there Vacant l = absurd (omega (arith, l))
          there Leased l = absurd (omega (arith, l))
          there (Live word es) l = at_index es i l

      between : (n a : ℕ) → ((i : ℕ) → i ≤ a → i < n) → ((i : ℕ) → i < n → i ≤ a) → n ≡ suc a
      between n a least most =
          let l = least a (let z : a ≤ a = omega arith in z) in
          let m = most (n - 1) (let z : n - 1 < n = omega (arith, l) in z) in
          omega (arith, l, m)

  -- the end at the port of a boundary end
  pub port_stands : (c : ArenaView) (e : ℕ) (u : Point ℕ)
      → stands_at c ends (Port (end_agent (signature_of t) (redex_at s.rule s.one.0 s.two.0) e) (end_place (signature_of t) (redex_at s.rule s.one.0 s.two.0) e)) ≡ Some (end_of u) → end_there c (port_at pair e) ≡ Some (end_of u)
  port_stands c e u stands = at_port (nat_lt e (arity_of t s.rule.heads.0.0)) (port_is pair (arity_of t s.rule.heads.0.0) s.one.0 s.two.0 about.one about.two (about.first_ends ∙ about.template.first_ends) e) stands
    where
      at_port : (b : Bool) → ((port_at pair e).0.0 ≡ cond b s.one.0 s.two.0) × ((port_at pair e).1 ≡ cond b (suc e) (suc (e - arity_of t s.rule.heads.0.0)))
          → end_at (state_at c (cond b s.one.0 s.two.0)) (cond b (suc e) (suc (e - arity_of t s.rule.heads.0.0))) ≡ Some (end_of u) → end_there c (port_at pair e) ≡ Some (end_of u)
      at_port b is stands = ap (λ (z : ℕ). end_at (state_at c z) (port_at pair e).1) is.0 ∙ ap (end_at (state_at c (cond b s.one.0 s.two.0))) is.1 ∙ stands

  boundary_is : length p.member.joints ≡ length (net_of s.rule.member).free
  boundary_is = boundary_many t s p pair own old ends about

  pub pair_differs : pair.one.0 ≢ pair.other.0
  pair_differs e = about.redex.differ (sym about.one ∙ e ∙ about.two)

  -- if the pair's cells are as before, they are live and their ports can be read
  module _ (now : ArenaView) (one : state_at now pair.one.0 ≡ state_at old pair.one.0) (other : state_at now pair.other.0 ≡ state_at old pair.other.0) where
    one_symbol : (net_of s.net).symbol pair.one.0 ≡ Some s.rule.heads.0.0
    one_symbol = ap (net_of s.net).symbol about.one ∙ about.redex.one

    other_symbol : (net_of s.net).symbol pair.other.0 ≡ Some s.rule.heads.1.0
    other_symbol = ap (net_of s.net).symbol about.two ∙ about.redex.two

    one_live : IsLive (state_at now pair.one.0)
    one_live = word_live (state_at now pair.one.0) s.rule.heads.0.0 (ap word_of one ∙ sym (about.shown.agents pair.one.0) ∙ one_symbol)

    other_live : IsLive (state_at now pair.other.0)
    other_live = word_live (state_at now pair.other.0) s.rule.heads.1.0 (ap word_of other ∙ sym (about.shown.agents pair.other.0) ∙ other_symbol)

    pub live : AreLive pair now
    live = (one_live, subst IsLive (sym (get_or-set_other now.states pair.one.0 pair.other.0 Vacant Leased (λ e. pair_differs (sym e)))) other_live)

    pub can_read : CanReadFor p.member now pair
    can_read points many is few long =
        let one_many = ap places one ∙ old_places pair.one.0 s.rule.heads.0.0 one_symbol in
        let two_many = ap places other ∙ old_places pair.other.0 s.rule.heads.1.0 other_symbol in
        let ends : length (net_of s.rule.member).free ≡ arity_of t s.rule.heads.0.0 + arity_of t s.rule.heads.1.0 = about.redex.ends in
        let first : pair.first_ends ≡ arity_of t s.rule.heads.0.0 = about.first_ends ∙ about.template.first_ends in
        let joints = boundary_is in
        record {
          one = one_live;
          other = other_live;
          order = omega (arith, is, joints, ends, first);
          first = omega (arith, one_many, first);
          second = omega (arith, two_many, is, joints, ends, first);
          few = few;
          long = long;
        }
