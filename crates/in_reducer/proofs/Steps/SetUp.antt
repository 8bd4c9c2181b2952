-- Once the right member is put beside an active pair, the sides of the boundary ends are set and the pair is retired, joining can begin.
use Rattle.std.proofs.Common.{◌≡◌, ◌≢◌, ◌⊎◌, inl, inr, ◌<◌, ◌≤◌, ◌+◌, ◌-◌, ℕ, suc, Bool, true, false, cond, nat_eq, nat_lt, Option, Some, None, List, length, slice_get, refl, sym, ap, subst, ◌∙◌, get_or-set_same, get_or-set_other, arith}
use Rattle.std.specs.Prelude.{option_map, IsSomeAnd}
use Rattle.std.proofs.lemmas.Bool.Decides.{eqb_tells, nat_tests}
use Rattle.std.proofs.lemmas.List.{length-map}
use Rattle.std.proofs.lemmas.Option.{same_Some}
use Rattle.in_arena.specs.Arenas.{ArenaView, changed, state_at}
use Rattle.in_arena.specs.States.{State, Vacant, Leased, IsLive, word_of, end_at, places}
use Rattle.in_arena.specs.declared.content.CellNo.{CellNo}
use Rattle.in_arena.specs.declared.content.End.{End}
use Rattle.in_arena.specs.declared.content.End.TheVariants as end
use Rattle.in_arena.proofs.Public.{live_inside, word_live}
use Rattle.in_symbols.specs.Tables.{Tables, arity_of}
use Rattle.in_net.specs.declared.nets.Point as coded
use Rattle.in_net.specs.declared.nets.Point.TheVariants as code
use Rattle.in_net.specs.Interactions.{redex_at, end_agent, end_place}
use Rattle.in_net.specs.Nets.{Net, Point, Port, Free, net_of, point_of, signature_of}
use Rattle.in_interaction.proofs.Public.{has_value}
use Rattle.in_gluing.specs.AsGluing.{boundary_port}
use Rattle.in_gluing.specs.EndByEnd.{IsOuterAt, IsInnerAt}
use Rattle.in_gluing.specs.MadeByJoining.{CanStepAt}
use Rattle.in_cells.specs.Between.{IsReadyToJoin, IsWith}
use Rattle.in_cells.specs.Cells.{HasSymbols}
use Rattle.in_cells.specs.Shown as shown
use Rattle.in_cells.specs.Shown.{end_of}
use Rattle.in_cells.specs.Start.{AreLaid, AreSet, IsNew}
use Rattle.in_cells.proofs.Public.{set_has_symbols, set_is_ready, started_end_point as end_point}
use Rattle.in_compile.specs.declared.joints.Joint.{Joint}
use Rattle.in_compile.specs.declared.joints.Joint.TheVariants.{ToAgent, ToBoundary}
use Rattle.in_compile.specs.Members.{IsSoundMember, joint_of}
use Rattle.in_compile.specs.Templates.{TemplateParts}
use Rattle.in_compile.proofs.Public.{inside_of, joints_many}
use Rattle.in_reducer.specs.declared.sides.Pair.{Pair}
use Rattle.in_reducer.specs.Interacting.{PairSetting, IsAbout, interaction_of, named}
use Rattle.in_compile.specs.Putting.{IsPut}
use Rattle.in_reducer.specs.Wiring.{HasBegun}
use Rattle.in_reducer.specs.Sides.{AreSetBelow, HasJoint, HasPort, end_there, inner_of, outer_of, port_at}
use Rattle.in_reducer.proofs.Steps.Laid as laid
use Rattle.in_reducer.proofs.Steps.Laid.{in_or_out}

-- the cells of the net's own agents are as before
abbrev pub AgentsStay : Net ℕ → ArenaView → ArenaView → Type 0
AgentsStay n old new = (y s : ℕ) → n.symbol y ≡ Some s → state_at new y ≡ state_at old y

-- ---- ports

port_parts : (y i z j : ℕ) → ◌≡◌ {A = Point ℕ} (Port y i) (Port z j) → (y ≡ z) × (i ≡ j)
port_parts y i z j e = (cc, cc)

module _ (p : Pair) (first : ℕ) (one two : ℕ) (is_one : p.one.0 ≡ one) (is_two : p.other.0 ≡ two) (is_first : p.first_ends ≡ first) where
  -- the port of a boundary end, by its agent and place
  pub port_is : (e : ℕ) → ((port_at p e).0.0 ≡ cond (nat_lt e first) one two) × ((port_at p e).1 ≡ cond (nat_lt e first) (suc e) (suc (e - first)))
  port_is e = subst (λ (f : ℕ). ((port_at p e).0.0 ≡ cond (nat_lt e f) one two) × ((port_at p e).1 ≡ cond (nat_lt e f) (suc e) (suc (e - f)))) is_first (go (nat_lt e p.first_ends))
    where
      go : (b : Bool) → ((let q : CellNo × ℕ = cond b (p.one, suc e) (p.other, suc (e - p.first_ends)) in q).0.0 ≡ cond b one two)
          × ((let q : CellNo × ℕ = cond b (p.one, suc e) (p.other, suc (e - p.first_ends)) in q).1 ≡ cond b (suc e) (suc (e - p.first_ends)))
      go true = (is_one, refl)
      go false = (is_two, refl)

module _ (t : Tables) (s : PairSetting) (p : TemplateParts) (pair : Pair) (own : ℕ) (old : ArenaView) (ends : List End) (about : IsAbout t s p pair own old ends) where
  abbrev many : ℕ
  many = length p.member.joints

  pub boundary_many : length p.member.joints ≡ length (net_of s.rule.member).free
  boundary_many = joints_many t s.rule.member p.member about.template.member ∙ sym (length-map s.rule.member.free (λ f. f.kind))

  pub own_many : own ≡ length (net_of s.net).free
  own_many = about.own_ends ∙ sym (length-map s.net.free (λ f. f.kind))

  abbrev first : ℕ
  first = arity_of t s.rule.heads.0.0

  first_is : pair.first_ends ≡ arity_of t s.rule.heads.0.0
  first_is = about.first_ends ∙ about.template.first_ends

  live_word : (y x : ℕ) → (net_of s.net).symbol y ≡ Some x → word_of (state_at old y) ≡ Some x
  live_word y x e = sym (about.shown.agents y) ∙ e

  not_vacant : (y x : ℕ) → (net_of s.net).symbol y ≡ Some x → word_of (state_at old y) ≡ None → ⊥
  not_vacant y x e v = let f : None ≡ Some x = sym v ∙ live_word y x e in cc

  differ : pair.one.0 ≢ pair.other.0
  differ e = about.redex.differ (sym about.one ∙ e ∙ about.two)

  module _ (ns : List CellNo) (now : ArenaView) (begun : HasBegun p.member ns old now) where
    -- ---- names

    begun_fresh : (k x : ℕ) → (net_of s.rule.member).symbol k ≡ Some x → (net_of s.net).symbol (named ns k) ≡ None
    begun_fresh k x e =
        let a = laid.agent_at t s.rule.member about.member_over p.member about.template.member k x e in
        about.shown.agents (named ns k) ∙ laid.begun_free t s.rule.member about.member_over p.member about.template.member ns old now begun k a.0 a.1

    begun_apart : (k l x y : ℕ) → (net_of s.rule.member).symbol k ≡ Some x → (net_of s.rule.member).symbol l ≡ Some y → named ns k ≡ named ns l → k ≡ l
    begun_apart k l x y e f same =
        let a = laid.agent_at t s.rule.member about.member_over p.member about.template.member k x e in
        let b = laid.agent_at t s.rule.member about.member_over p.member about.template.member l y f in
        laid.begun_once t s.rule.member about.member_over p.member about.template.member ns old now begun k l a.0 b.0 a.1 b.1 same

    begun_can : CanStepAt t s.net s.rule s.one s.two (named ns)
    begun_can = record { net = about.net; inside = about.inside; redex = about.redex; naming = record { fresh = begun_fresh; apart = begun_apart } }

    pub begun_with : IsWith t (interaction_of s ns) own (length p.member.joints)
    begun_with = record { can = begun_can; own_ends = own_many; boundary = boundary_many }

    pub begun_stays : AgentsStay (net_of s.net) old now
    begun_stays y x e = begun.others y (λ k at. (
        let a = laid.begun_whose t s.rule.member about.member_over p.member about.template.member ns old now begun k y at in
        not_vacant y x e (ap (λ (z : ℕ). word_of (state_at old z)) (sym a.2) ∙ laid.begun_free t s.rule.member about.member_over p.member about.template.member ns old now begun k a.0 a.1)
        ))

  module _ (ns : List CellNo) (put : ArenaView) (is_put : IsPut p.member ns old put) where
    begun : HasBegun p.member ns old put
    begun = laid.begun_of t s.rule.member about.member_over p.member about.template.member ns old put is_put

    can : CanStepAt t s.net s.rule s.one s.two (named ns)
    can = begun_can ns put begun

    pub is_with : IsWith t (interaction_of s ns) own (length p.member.joints)
    is_with = begun_with ns put begun

    -- ---- the pair is still live

    pub stays : AgentsStay (net_of s.net) old put
    stays = begun_stays ns put begun

    one_stays : state_at put pair.one.0 ≡ state_at old pair.one.0
    one_stays = stays pair.one.0 s.rule.heads.0.0 (ap (net_of s.net).symbol about.one ∙ about.redex.one)

    two_stays : state_at put pair.other.0 ≡ state_at old pair.other.0
    two_stays = stays pair.other.0 s.rule.heads.1.0 (ap (net_of s.net).symbol about.two ∙ about.redex.two)

    pub one_live : IsLive (state_at put pair.one.0)
    one_live = subst IsLive (sym one_stays) (word_live (state_at old pair.one.0) s.rule.heads.0.0 (live_word pair.one.0 s.rule.heads.0.0 (ap (net_of s.net).symbol about.one ∙ about.redex.one)))

    two_live : IsLive (state_at put pair.other.0)
    two_live = subst IsLive (sym two_stays) (word_live (state_at old pair.other.0) s.rule.heads.1.0 (live_word pair.other.0 s.rule.heads.1.0 (ap (net_of s.net).symbol about.two ∙ about.redex.two)))

    pub other_live : IsLive (state_at (changed put pair.one.0 Vacant) pair.other.0)
    other_live = subst IsLive (sym (get_or-set_other put.states pair.one.0 pair.other.0 Vacant Leased (λ e. differ (sym e)))) two_live

    -- a boundary end's port has the end of before
    port_stays : (e : ℕ) → end_there put (port_at pair e) ≡ end_at (state_at old (end_agent (signature_of t) (redex_at s.rule s.one.0 s.two.0) e)) (end_place (signature_of t) (redex_at s.rule s.one.0 s.two.0) e)
    port_stays e = go (nat_lt e (arity_of t s.rule.heads.0.0)) (port_is pair (arity_of t s.rule.heads.0.0) s.one.0 s.two.0 about.one about.two first_is e)
      where
        go : (b : Bool) → ((port_at pair e).0.0 ≡ cond b s.one.0 s.two.0) × ((port_at pair e).1 ≡ cond b (suc e) (suc (e - arity_of t s.rule.heads.0.0)))
            → end_there put (port_at pair e) ≡ end_at (state_at old (cond b s.one.0 s.two.0)) (cond b (suc e) (suc (e - arity_of t s.rule.heads.0.0)))
        go true h =
            ap (λ (z : ℕ). end_at (state_at put z) (port_at pair e).1) h.0 ∙ ap (end_at (state_at put s.one.0)) h.1
            ∙ ap (λ (x : State). end_at x (suc e)) (stays s.one.0 s.rule.heads.0.0 about.redex.one)
        go false h =
            ap (λ (z : ℕ). end_at (state_at put z) (port_at pair e).1) h.0 ∙ ap (end_at (state_at put s.two.0)) h.1
            ∙ ap (λ (x : State). end_at x (suc (e - arity_of t s.rule.heads.0.0))) (stays s.two.0 s.rule.heads.1.0 about.redex.two)

    -- the wire there
    wire_there : (e : ℕ) (w : End) → end_there put (port_at pair e) ≡ Some w → (net_of s.net).partner (boundary_port (signature_of t) (redex_at s.rule s.one.0 s.two.0) e) ≡ Some (shown.point_of w)
    wire_there e w h = about.shown.wires (boundary_port (signature_of t) (redex_at s.rule s.one.0 s.two.0) e) ∙ ap (option_map shown.point_of) (sym (port_stays e) ∙ h)

    pub has_port : (e : ℕ) → e < length p.member.joints → HasPort put pair e
    has_port e l =
        let point = end_point (signature_of t) (net_of s.net) (redex_at s.rule s.one.0 s.two.0) (named ns) can e (subst (λ (z : ℕ). e < z) boundary_many l) in
        let v = has_value ((net_of s.net).partner (boundary_port (signature_of t) (redex_at s.rule s.one.0 s.two.0) e)) (about.net.joined (boundary_port (signature_of t) (redex_at s.rule s.one.0 s.two.0) e) point) in
        let w = standing (end_at (state_at old (end_agent (signature_of t) (redex_at s.rule s.one.0 s.two.0) e)) (end_place (signature_of t) (redex_at s.rule s.one.0 s.two.0) e)) v.0
        (sym (about.shown.wires (boundary_port (signature_of t) (redex_at s.rule s.one.0 s.two.0) e)) ∙ v.1) in
        let stands = port_stays e ∙ w.1 in
        record {
          end = w.0;
          stands = stands;
          one = λ f. principal e w.0 stands s.one.0 s.two.0 (ap shown.point_of f ∙ ap (λ (z : ℕ). Port z 0) about.one) about.redex.active;
          other = λ f. principal e w.0 stands s.two.0 s.one.0 (ap shown.point_of f ∙ ap (λ (z : ℕ). Port z 0) about.two) (about.net.back (Port s.one.0 0) (Port s.two.0 0) about.redex.active);
        }
      where
        standing : (o : Option End) (v : Point ℕ) → option_map shown.point_of o ≡ Some v → (w : End) × (o ≡ Some w)
        standing None v h = absurd (let f : None ≡ Some v = h in cc)
        standing (Some w) v h = (w, refl)

        -- a principal port of the pair leads to the other one, and so to no auxiliary port
        principal : (e : ℕ) (w : End) → end_there put (port_at pair e) ≡ Some w → (y z : ℕ) → shown.point_of w ≡ Port y 0 → (net_of s.net).partner (Port y 0) ≡ Some (Port z 0) → ⊥
        principal e w stands y z is active =
            let back = about.net.back (boundary_port (signature_of t) (redex_at s.rule s.one.0 s.two.0) e) (Port y 0) (wire_there e w stands ∙ ap (λ (q : Point ℕ). Some q) is) in
            let same = same_Some (Port z 0) (boundary_port (signature_of t) (redex_at s.rule s.one.0 s.two.0) e) (sym active ∙ back) in
            let place = (port_parts z 0 (end_agent (signature_of t) (redex_at s.rule s.one.0 s.two.0) e) (end_place (signature_of t) (redex_at s.rule s.one.0 s.two.0) e) same).1 in
            let h = (port_is pair (arity_of t s.rule.heads.0.0) s.one.0 s.two.0 about.one about.two first_is e).1 in
            above (nat_lt e (arity_of t s.rule.heads.0.0)) place
          where
            above : (b : Bool) → 0 ≡ cond b (suc e) (suc (e - arity_of t s.rule.heads.0.0)) → ⊥
            above true f = omega (arith, f)
            above false f = let n : ℕ = e - arity_of t s.rule.heads.0.0 in let g : 0 ≡ suc n = f in omega (arith, g)

    pub has_joint : IsSoundMember p.member → (e : ℕ) (j : Joint) → slice_get p.member.joints e ≡ Some j → HasJoint ns j
    has_joint sound e (ToAgent k i) h = let l = inside_of p.member sound (ToBoundary e) (ToAgent k i) h in let c = is_put.count in let z : k < length ns = omega (arith, l, c) in z
    has_joint sound e (ToBoundary f) h = tt

    -- ---- the sides

    module _ (after : ArenaView) (retired : after ≡ changed (changed put pair.one.0 Vacant) pair.other.0 Vacant) (list : List End) (set : AreSetBelow pair put p.member.joints ns own (length p.member.joints) (length p.member.joints) ends list) where
      one_gone : state_at after s.one.0 ≡ Vacant
      one_gone =
          ap (λ (b : ArenaView). state_at b s.one.0) retired ∙ ap (state_at (changed (changed put pair.one.0 Vacant) pair.other.0 Vacant)) (sym about.one)
          ∙ get_or-set_other (changed put pair.one.0 Vacant).states pair.other.0 pair.one.0 Vacant Leased differ
          ∙ get_or-set_same put.states pair.one.0 Vacant Leased (live_inside put pair.one.0 one_live)

      two_gone : state_at after s.two.0 ≡ Vacant
      two_gone =
          ap (λ (b : ArenaView). state_at b s.two.0) retired ∙ ap (state_at (changed (changed put pair.one.0 Vacant) pair.other.0 Vacant)) (sym about.two)
          ∙ get_or-set_same (changed put pair.one.0 Vacant).states pair.other.0 Vacant Leased (live_inside (changed put pair.one.0 Vacant) pair.other.0 other_live)

      pub as_put : (y : ℕ) → y ≢ s.one.0 → y ≢ s.two.0 → state_at after y ≡ state_at put y
      as_put y f g =
          ap (λ (b : ArenaView). state_at b y) retired
          ∙ get_or-set_other (changed put pair.one.0 Vacant).states pair.other.0 y Vacant Leased (λ e. g (e ∙ about.two))
          ∙ get_or-set_other put.states pair.one.0 y Vacant Leased (λ e. f (e ∙ about.one))

      others : (y : ℕ) → y ≢ s.one.0 → y ≢ s.two.0 → IsNew (interaction_of s ns) y ⊎ (state_at after y ≡ state_at old y)
      others y f g = go (in_or_out ns y)
        where
          go : laid.InOrOut ns y → IsNew (interaction_of s ns) y ⊎ (state_at after y ≡ state_at old y)
          go (inl at) =
              let a = laid.begun_whose t s.rule.member about.member_over p.member about.template.member ns old put begun at.0 y at.1 in
              inl (at.0, a.0.symbol.0, laid.symbol_of t s.rule.member about.member_over p.member about.template.member at.0 a.0 a.1, a.2)
          go (inr out) = inr (as_put y f g ∙ is_put.others y out)

      -- a new agent isn't one of the pair
      not_one : (k x : ℕ) → (net_of s.rule.member).symbol k ≡ Some x → named ns k ≢ s.one.0
      not_one k x e same = let f : None ≡ Some s.rule.heads.0.0 = sym (begun_fresh ns put begun k x e) ∙ ap (net_of s.net).symbol same ∙ about.redex.one in cc

      not_two : (k x : ℕ) → (net_of s.rule.member).symbol k ≡ Some x → named ns k ≢ s.two.0
      not_two k x e same = let f : None ≡ Some s.rule.heads.1.0 = sym (begun_fresh ns put begun k x e) ∙ ap (net_of s.net).symbol same ∙ about.redex.two in cc

      new_as_put : (k x : ℕ) → (net_of s.rule.member).symbol k ≡ Some x → state_at after (named ns k) ≡ state_at put (named ns k)
      new_as_put k x e = as_put (named ns k) (not_one k x e) (not_two k x e)

      laid_after : AreLaid t (interaction_of s ns) after
      laid_after = record {
        symbols = λ k x e. ap word_of (new_as_put k x e) ∙ laid.begun_word t s.rule.member about.member_over p.member about.template.member ns old put begun k x e;
        places = λ k x e. ap places (new_as_put k x e) ∙ laid.begun_places t s.rule.member about.member_over p.member about.template.member ns old put begun k x e;
        wires = λ k i l j e. (
            let x = symbol_at_port k i (Port l j) e in
            ap (λ (z : State). end_at z i) (new_as_put k x.0 x.1) ∙ laid.wire_there t s.rule.member about.member_over p.member about.template.member ns old put is_put k i l j e
            );
      }
        where
          symbol_at_port : (k i : ℕ) (v : Point ℕ) → (net_of s.rule.member).partner (Port k i) ≡ Some v → (x : ℕ) × ((net_of s.rule.member).symbol k ≡ Some x)
          symbol_at_port k i v e = go ((net_of s.rule.member).symbol k) refl (about.inside.points (Port k i) v e)
            where
              go : (o : Option ℕ) → (net_of s.rule.member).symbol k ≡ o → IsSomeAnd o (λ x. i ≤ arity_of t x) → (x : ℕ) × ((net_of s.rule.member).symbol k ≡ Some x)
              go None is h = absurd h
              go (Some x) is h = (x, is)

      -- the end at an outer side
      outer_is : (w : End) (v : Point ℕ) → IsOuterAt (signature_of t) (net_of s.net) (redex_at s.rule s.one.0 s.two.0) (shown.point_of w) v → outer_of pair own w ≡ end_of v
      outer_is (end.Free k) v h = ap end_of (sym h)
      outer_is (end.Cell c i) v (inl h) =
          let no_one : nat_eq c.0 pair.one.0 ≡ false = not_same c.0 pair.one.0 (λ e. h.0 (e ∙ about.one)) in
          let no_two : nat_eq c.0 pair.other.0 ≡ false = not_same c.0 pair.other.0 (λ e. h.1 (e ∙ about.two)) in
          ap (λ (b : Bool). cond b (end.Free (own + (i - 1))) (cond (nat_eq c.0 pair.other.0) (end.Free (own + pair.first_ends + (i - 1))) (end.Cell c i))) no_one
          ∙ ap (λ (b : Bool). cond b (end.Free (own + pair.first_ends + (i - 1))) (end.Cell c i)) no_two ∙ ap end_of (sym h.2)
        where
          not_same : (x y : ℕ) → x ≢ y → nat_eq x y ≡ false
          not_same x y ne = elim (eqb_tells x y) [ inl f ↦ absurd (ne f.1) | inr f ↦ f.0 ]
      outer_is (end.Cell c i) v (inr h) = port (nat_lt h.0 (arity_of t s.rule.heads.0.0)) refl h.2
        where
          same : (x y : ℕ) → x ≡ y → nat_eq x y ≡ true
          same x y e = elim (eqb_tells x y) [ inl f ↦ f.0 | inr f ↦ absurd (f.1 e) ]

          not_same : (x y : ℕ) → x ≢ y → nat_eq x y ≡ false
          not_same x y ne = elim (eqb_tells x y) [ inl f ↦ absurd (ne f.1) | inr f ↦ f.0 ]

          port : (b : Bool) → nat_lt h.0 (arity_of t s.rule.heads.0.0) ≡ b → Port (cond b s.one.0 s.two.0) (cond b (suc h.0) (suc (h.0 - arity_of t s.rule.heads.0.0))) ≡ Port c.0 i → outer_of pair own (end.Cell c i) ≡ end_of v
          port true is e =
              let q = port_parts s.one.0 (suc h.0) c.0 i e in
              let yes : nat_eq c.0 pair.one.0 ≡ true = same c.0 pair.one.0 (sym q.0 ∙ sym about.one) in
              let number : own + (i - 1) ≡ length (net_of s.net).free + h.0 = (let z = q.1 in let o = own_many in omega (arith, z, o)) in
              ap (λ (b : Bool). cond b (end.Free (own + (i - 1))) (cond (nat_eq c.0 pair.other.0) (end.Free (own + pair.first_ends + (i - 1))) (end.Cell c i))) yes
              ∙ ap end.Free number ∙ ap end_of (sym h.3)
          port false is e =
              let q = port_parts s.two.0 (suc (h.0 - arity_of t s.rule.heads.0.0)) c.0 i e in
              let no : nat_eq c.0 pair.one.0 ≡ false = not_same c.0 pair.one.0 (λ f. differ (sym f ∙ sym q.0 ∙ sym about.two)) in
              let yes : nat_eq c.0 pair.other.0 ≡ true = same c.0 pair.other.0 (sym q.0 ∙ sym about.two) in
              let above : arity_of t s.rule.heads.0.0 ≤ h.0 = not_below h.0 (arity_of t s.rule.heads.0.0) is in
              let number : own + pair.first_ends + (i - 1) ≡ length (net_of s.net).free + h.0 = (let z = q.1 in let o = own_many in let f = first_is in omega (arith, z, o, f, above)) in
              ap (λ (b : Bool). cond b (end.Free (own + (i - 1))) (cond (nat_eq c.0 pair.other.0) (end.Free (own + pair.first_ends + (i - 1))) (end.Cell c i))) no
              ∙ ap (λ (b : Bool). cond b (end.Free (own + pair.first_ends + (i - 1))) (end.Cell c i)) yes ∙ ap end.Free number ∙ ap end_of (sym h.3)
            where
              not_below : (x y : ℕ) → nat_lt x y ≡ false → y ≤ x
              not_below x y e = grind (arith, nat_tests, e)

      outer_set : (e : ℕ) (w : End) (v : Point ℕ) → e < length (net_of s.rule.member).free → end_at (state_at old (end_agent (signature_of t) (redex_at s.rule s.one.0 s.two.0) e)) (end_place (signature_of t) (redex_at s.rule s.one.0 s.two.0) e) ≡ Some w
          → IsOuterAt (signature_of t) (net_of s.net) (redex_at s.rule s.one.0 s.two.0) (shown.point_of w) v → slice_get list (own + e) ≡ Some (end_of v)
      outer_set e w v l h at =
          set.outer e (subst (λ (z : ℕ). e < z) (sym boundary_many) l) ∙ ap (option_map (outer_of pair own)) (port_stays e ∙ h) ∙ ap (λ (z : End). Some z) (outer_is w v at)

      inner_set : (e : ℕ) (u v : Point ℕ) → (net_of s.rule.member).partner (Free e) ≡ Some u → IsInnerAt (net_of s.net) (redex_at s.rule s.one.0 s.two.0) (named ns) u v → slice_get list (own + length p.member.joints + e) ≡ Some (end_of v)
      inner_set e u v h at =
          let q = laid.boundary_joint t s.rule.member about.member_over p.member about.template.member e u h in
          let l : e < length p.member.joints = subst (λ (z : ℕ). e < z) (sym boundary_many) (about.inside.points (Free e) u h) in
          set.inner e l ∙ ap (option_map (inner_of ns (own + length p.member.joints))) q.1 ∙ ap (λ (z : End). Some z) (leads q.0 u v q.2 at)
        where
          leads : (q : coded.Point) (u v : Point ℕ) → point_of q ≡ u → IsInnerAt (net_of s.net) (redex_at s.rule s.one.0 s.two.0) (named ns) u v → inner_of ns (own + length p.member.joints) (joint_of q) ≡ end_of v
          leads (code.Port y i) u v is at = ap end_of (sym (subst (λ (u : Point ℕ). IsInnerAt (net_of s.net) (redex_at s.rule s.one.0 s.two.0) (named ns) u v) (sym is) at))
          leads (code.Free f) u v is at =
              let z = subst (λ (u : Point ℕ). IsInnerAt (net_of s.net) (redex_at s.rule s.one.0 s.two.0) (named ns) u v) (sym is) at in
              let number : own + length p.member.joints + f ≡ length (net_of s.net).free + length (net_of s.rule.member).free + f = (let o = own_many in let b = boundary_many in omega (arith, o, b)) in
              ap end.Free number ∙ ap end_of (sym z)

      pub are_set : AreSet t (interaction_of s ns) own (length p.member.joints) old after list
      are_set = record {
        given = is_with;
        shown = subst (λ (es : List End). shown.IsShown old es (net_of s.net)) (sym set.first) about.shown;
        one = one_gone;
        two = two_gone;
        others = others;
        laid = laid_after;
        outer = outer_set;
        inner = inner_set;
        room = (let l = set.long in let r = about.room in omega (arith, l, r));
      }

      pub is_ready : IsReadyToJoin t (interaction_of s ns) own (length p.member.joints) after list
      is_ready = set_is_ready t (interaction_of s ns) own (length p.member.joints) old after list are_set

      pub has_symbols : HasSymbols t after
      has_symbols = set_has_symbols t (interaction_of s ns) own (length p.member.joints) old after list about.over about.member_over are_set
