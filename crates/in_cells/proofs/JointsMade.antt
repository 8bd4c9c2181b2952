-- Boundary ends joined one after another: the first, one more, and all.
use Rattle.std.proofs.Common.{◌≡◌, ◌≢◌, ◌⊎◌, ◌↔◌, ◌+◌, ◌<◌, ◌++◌, ℕ, zero, suc, false, List, [], ◌∷◌, length, map, reverse, Some, sym, ap, subst, ◌∙◌, inl, inr, arith, append_assoc, append-nil}
use Rattle.std.proofs.lemmas.List.{length-map, map-append, reverse-reverse}
use Rattle.in_base.proofs.Places.{some_same}
use Rattle.in_arena.specs.Arenas.{ArenaView, state_at}
use Rattle.in_arena.specs.States.{word_of}
use Rattle.in_arena.specs.declared.content.End.{End}
use Rattle.in_interaction.specs.Made.{HasSymbolAfter, IsMade}
use Rattle.in_interaction.specs.Queues.{numbers_of}
use Rattle.in_net.specs.declared.nets.AgentNo.{AgentNo}
use Rattle.in_net.specs.ActivePairs.{IsOrdered}
use Rattle.in_net.specs.Nets.{Point, Port, Free, Net, signature_of}
use Rattle.in_net.specs.Parts.{symbol_in}
use Rattle.in_symbols.specs.Tables.{Tables}
use Rattle.in_syntax.specs.declared.symbol_no.SymbolNo.{SymbolNo}
use Rattle.in_gluing.specs.AsGluing.{ends_from, two_parts, old_and_new}
use Rattle.in_gluing.specs.EndByEnd.{outer_end, inner_end}
use Rattle.in_gluing.specs.Joining.{JoinsEnds}
use Rattle.in_gluing.specs.MadeByJoining as made
use Rattle.in_gluing.proofs.Public.{agent_back, join_exists, ends_are_joined_in_turn, ends_from_have_one_more, ends_from_none_to_all, pairs_are_made_where_joined, none_is_made_first, one_more_is_made, no_more_is_made, all_made_are_over_ends, mapped, taken_apart_has_joined_none}
use Rattle.in_symbols.proofs.Public.{same_symbol}
use Rattle.in_cells.specs.Between.{Interaction, before, redex_of, IsWith, IsReadyToJoin, IsBetween, HasMade, AddsMade}
use Rattle.in_cells.specs.Cells.{KeepsCells}
use Rattle.in_cells.specs.Pairs.{IsPrincipal, IsPairOf, IsNoPair, AddsPair}
use Rattle.in_cells.specs.Shown.{point_of, end_of, AreExchanged}
use Rattle.in_cells.proofs.Kept.{word_kept}
use Rattle.in_cells.proofs.OneJoint.{AreAtSides, sides_at, shown_next}
use Rattle.in_cells.proofs.Writes.{end_point}

module _ (t : Tables) (x : Interaction) (own many : ℕ) where
  -- ---- the first

  pub begins : (a : ArenaView) (es : List End) → IsReadyToJoin t x own many a es → IsBetween t x own many many a es
  begins a es h = record {
    given = h.given;
    net = h.net;
    joined = taken_apart_has_joined_none (signature_of t) (before x) (redex_of x) x.name (ends_from (redex_of x) many) h.net h.given.can
        (subst (λ (k : ℕ). (e : ℕ) → ends_from (redex_of x) k e ≡ false) (sym h.given.boundary) (ends_from_none_to_all (redex_of x)).0) h.apart;
    free = h.free;
    shown = h.shown;
  }

  pub none_made : IsWith t x own many → (first : List (ℕ × ℕ)) → HasMade t x many first first
  none_made h first =
      let many_is : length x.rule.member.free ≡ many = sym (length-map x.rule.member.free (λ f. f.kind)) ∙ sym h.boundary in (
        [],
        sym (append-nil first),
        subst (λ (k : ℕ). made.AreMadeSoFar t x.net x.rule x.one x.two x.name k []) many_is (none_is_made_first t x.net x.rule x.one x.two x.name h.can),
      )

  -- ---- one more

  module _ (e : ℕ) (a : ArenaView) (es : List End) (h : IsBetween t x own many (suc e) a es) (low : e < many) where
    pub sides : AreAtSides own many e a es h.net
    sides = sides_at own many e a es h.net h.joined.leads_back low h.shown

    outer_is : own + e ≡ outer_end (before x) (redex_of x) e
    outer_is = ap (λ (o : ℕ). o + e) h.given.own_ends

    inner_is : own + many + e ≡ inner_end (before x) (redex_of x) e
    inner_is = ap (λ (o : ℕ). o + many + e) h.given.own_ends ∙ ap (λ (k : ℕ). length (before x).free + k + e) h.given.boundary

    below : e < length (redex_of x).member.free
    below = subst (λ (k : ℕ). e < k) h.given.boundary low

    differ : own + e ≢ own + many + e
    differ s = omega (arith, s, low)

    pub between_next : (b : ArenaView) (fs : List End) → AreExchanged (end_of sides.p) (end_of sides.q) a es b fs → IsBetween t x own many e b fs
    between_next b fs written = record {
      given = h.given;
      net = next;
      joined = ends_are_joined_in_turn (signature_of t) (before x) (redex_of x) x.name (ends_from (redex_of x) (suc e)) (ends_from (redex_of x) e) e h.net next h.given.can below h.joined
          (ends_from_have_one_more (redex_of x) e below)
          (subst (λ (k : ℕ). JoinsEnds h.net k (inner_end (before x) (redex_of x) e) next) outer_is (subst (λ (k : ℕ). JoinsEnds h.net (own + e) k next) inner_is joins));
      free = h.free;
      shown = shown_next own many e a es h.net h.joined.leads_back low h.shown sides b fs written next joins;
    }
      where
        joint : (w : Net ℕ) × JoinsEnds h.net (own + e) (own + many + e) w
        joint = let j = join_exists h.net (own + e) (own + many + e) differ h.joined.leads_back in (j.0, j.1)

        next : Net ℕ
        next = record { symbol = joint.0.symbol; partner = joint.0.partner; free = h.net.free }

        joins : JoinsEnds h.net (own + e) (own + many + e) next
        joins = record { agents = joint.1.agents; wires = joint.1.wires }

    -- ---- the pair that it makes

    symbol_after : (y : AgentNo) (s : SymbolNo) → word_of (state_at a y.0) ≡ Some s.0 → HasSymbolAfter x.net x.rule x.one x.two x.name y s
    symbol_after y s word = go (agent_back (signature_of t) (before x) (redex_of x) x.name h.joined.rest h.given.can h.joined.is_rest y.0 s.0 r.0 r.1 r.2 r.3)
      where
        r : (i k : ℕ) × (old_and_new x.name i k ≡ y.0) × ((two_parts h.joined.rest (redex_of x).member i).symbol k ≡ Some s.0)
        r = (h.joined.joins.agents y.0 s.0).0 ((h.shown.agents y.0 s.0).1 word)

        go : ((y.0 ≢ x.one.0) × (y.0 ≢ x.two.0) × ((before x).symbol y.0 ≡ Some s.0)) ⊎ ((k : ℕ) × (x.name k ≡ y.0) × ((redex_of x).member.symbol k ≡ Some s.0)) → HasSymbolAfter x.net x.rule x.one x.two x.name y s
        go (inl (one, two, k)) =
            let z = mapped (λ (s : SymbolNo). s.0) (symbol_in x.net y.0) s.0 k in
            inl ((λ e. one (ap (λ (n : AgentNo). n.0) e)), (λ e. two (ap (λ (n : AgentNo). n.0) e)), z.1 ∙ ap (λ (s : SymbolNo). Some s) (same_symbol z.0 s z.2))
        go (inr (k, name, l)) =
            let z = mapped (λ (s : SymbolNo). s.0) (symbol_in x.rule.member k) s.0 l in
            inr (k, name, z.1 ∙ ap (λ (s : SymbolNo). Some s) (same_symbol z.0 s z.2))

    abbrev AtSides : Point ℕ → Point ℕ → Type 0
    AtSides u v = made.AreAtSides (before x) (redex_of x) e h.net u v

    at_outer : h.net.partner (Free (outer_end (before x) (redex_of x) e)) ≡ Some sides.p
    at_outer = ap (λ (k : ℕ). h.net.partner (Free k)) (sym outer_is) ∙ sides.outer

    at_inner : h.net.partner (Free (inner_end (before x) (redex_of x) e)) ≡ Some sides.q
    at_inner = ap (λ (k : ℕ). h.net.partner (Free k)) (sym inner_is) ∙ sides.inner

    principal_point : (y : ℕ) (u : Point ℕ) → IsPrincipal y (end_of u) → u ≡ Port y 0
    principal_point y u p = sym (end_point u) ∙ ap point_of p

    module _ (b : ArenaView) (kept : KeepsCells a b) where
      pair_sides : (q : AgentNo × AgentNo) → IsPairOf t b (end_of sides.p) (end_of sides.q) q → made.IsPairAtSides t x.net x.rule x.one x.two x.name e h.net q
      pair_sides q is = go is.order
        where
          one : sides.p ≡ Port is.one.0.0 0
          one = principal_point is.one.0.0 sides.p is.at_one

          two : sides.q ≡ Port is.two.0.0 0
          two = principal_point is.two.0.0 sides.q is.at_two

          symbol_one : HasSymbolAfter x.net x.rule x.one x.two x.name is.one.0 is.one.1
          symbol_one = symbol_after is.one.0 is.one.1 (sym (word_kept a b kept is.one.0.0) ∙ is.symbol_one)

          symbol_two : HasSymbolAfter x.net x.rule x.one x.two x.name is.two.0 is.two.1
          symbol_two = symbol_after is.two.0 is.two.1 (sym (word_kept a b kept is.two.0.0) ∙ is.symbol_two)

          outer : h.net.partner (Free (outer_end (before x) (redex_of x) e)) ≡ Some (Port is.one.0.0 0)
          outer = at_outer ∙ ap (λ (p : Point ℕ). Some p) one

          inner : h.net.partner (Free (inner_end (before x) (redex_of x) e)) ≡ Some (Port is.two.0.0 0)
          inner = at_inner ∙ ap (λ (p : Point ℕ). Some p) two

          go : IsOrdered t is.one is.two q → made.IsPairAtSides t x.net x.rule x.one x.two x.name e h.net q
          go (inl (same, order)) = subst (λ (q : AgentNo × AgentNo). made.IsPairAtSides t x.net x.rule x.one x.two x.name e h.net q) (sym same)
              (record { first = is.one.1; second = is.two.1; one = symbol_one; two = symbol_two; sides = inl (outer, inner); order = order })
          go (inr (same, order)) = subst (λ (q : AgentNo × AgentNo). made.IsPairAtSides t x.net x.rule x.one x.two x.name e h.net q) (sym same)
              (record { first = is.two.1; second = is.one.1; one = symbol_two; two = symbol_one; sides = inr (inner, outer); order = order })

      member_low : e < made.ends_of x.rule
      member_low = subst (λ (k : ℕ). e < k) (length-map x.rule.member.free (λ f. f.kind)) below

      made_where : (q : AgentNo × AgentNo) → IsMade t x.net x.rule x.one x.two x.name e q ↔ made.IsPairAtSides t x.net x.rule x.one x.two x.name e h.net q
      made_where q = pairs_are_made_where_joined t x.net x.rule x.one x.two x.name e h.net h.given.can member_low h.joined q

      none_there : IsNoPair (end_of sides.p) (end_of sides.q) → (q : AgentNo × AgentNo) → IsMade t x.net x.rule x.one x.two x.name e q → ⊥
      none_there none q is = go ((made_where q).0 is).sides
        where
          go : AtSides (Port q.0.0 0) (Port q.1.0 0) → ⊥
          go (inl (o, i)) = none q.0.0 q.1.0 (ap end_of (some_same _ sides.p (Port q.0.0 0) at_outer o)) (ap end_of (some_same _ sides.q (Port q.1.0 0) at_inner i))
          go (inr (i, o)) = none q.1.0 q.0.0 (ap end_of (some_same _ sides.p (Port q.1.0 0) at_outer o)) (ap end_of (some_same _ sides.q (Port q.0.0 0) at_inner i))

      pub made_next : (first old new : List (ℕ × ℕ)) → HasMade t x (suc e) first old → AddsPair t b (end_of sides.p) (end_of sides.q) old new → HasMade t x e first new
      made_next first old new (qs, is, far) (inl (none, same)) = (qs, same ∙ is, no_more_is_made t x.net x.rule x.one x.two x.name e qs far (none_there none))
      made_next first old new (qs, is, far) (inr (q, pair, same)) = (
        qs ++ q ∷ [],
        same ∙ ap (λ (old : List (ℕ × ℕ)). old ++ numbers_of q ∷ []) is ∙ append_assoc first (map numbers_of qs) (numbers_of q ∷ []) ∙ ap (λ (ps : List (ℕ × ℕ)). first ++ ps) (sym (map-append numbers_of qs (q ∷ []))),
        one_more_is_made t x.net x.rule x.one x.two x.name e qs q h.given.can far ((made_where q).1 (pair_sides q pair)),
      )

  -- ---- all

  pub all_made : (first new : List (ℕ × ℕ)) → HasMade t x zero first new → AddsMade t x first new
  all_made first new (qs, is, far) = (
    reverse qs,
    is ∙ ap (λ (qs : List (AgentNo × AgentNo)). first ++ map numbers_of qs) (sym (reverse-reverse qs)),
    all_made_are_over_ends t x.net x.rule x.one x.two x.name qs far,
  )
