-- The wires of a right member, written one after another: one more, and all.
use Rattle.std.proofs.Common.{◌≡◌, ◌≢◌, ◌⊎◌, ◌<◌, ◌≤◌, ◌+◌, ◌++◌, ℕ, suc, Bool, true, false, not, cond, List, [], ◌∷◌, length, map, slice_get, take, Option, Some, None, option_map, refl, sym, ap, subst, ◌∙◌, inl, inr, append_assoc, arith}
use native.Mathlib.Decide.{ℕ_discrete}
use Rattle.std.proofs.lemmas.List.{length-take-le, map-append, take_more}
use Rattle.std.proofs.lemmas.Option.{get_or_from_slice_get, same_Some, slice_get_within}
use Rattle.std.specs.Prelude.{IsSomeAnd}
use Rattle.in_base.specs.Lists.{IsAmong}
use Rattle.in_base.proofs.Among.{among_at}
use Rattle.in_arena.specs.Arenas.{ArenaView, state_at}
use Rattle.in_arena.specs.States.{State, Vacant, Leased, Live, word_of, end_at, places}
use Rattle.in_arena.specs.declared.content.End.{End}
use Rattle.in_symbols.specs.Tables.{Tables}
use Rattle.in_symbols.specs.declared.symbols.PortType.{PortType}
use Rattle.in_net.specs.declared.nets.AgentNo.{AgentNo}
use Rattle.in_net.specs.Interactions.{IsOfPair, end_agent, end_place}
use Rattle.in_net.specs.Nets.{Point, Port, Free, Signature, Net, IsPoint, signature_of}
use Rattle.in_net.proofs.Public.{symbol_of}
use Rattle.in_interaction.specs.Queues.{agents_at, numbers_of}
use Rattle.in_interaction.proofs.Public.{has_value, same_point}
use Rattle.in_cells.specs.Between.{Interaction, before, redex_of, IsDone}
use Rattle.in_cells.specs.Cells.{KeepsCells}
use Rattle.in_cells.specs.Pairs.{IsNoPair, IsPrincipal}
use Rattle.in_cells.specs.Shown.{AreExchanged, IsPlaceAt, end_of, point_of, stands_at}
use Rattle.in_cells.proofs.Public.{exchange_keeps, place_within, places_kept, stands_one, stands_still, stands_two, take_at, word_kept, writes_end_point as end_point}
use Rattle.in_overwriting.specs.BySign.{TellThePair}
use Rattle.in_overwriting.specs.MadeByWires.{CanOverwriteAt, IsMadeByWire, LeadsFrom, MakeInTurn, OneByOne, of_none, with_one, without}
use Rattle.in_overwriting.specs.InTurn.{AreAllWiresOf}
use Rattle.in_overwriting.specs.Overwriting.{AreSidesOf, IsOverwritten, IsSide, IsSideAt}
use Rattle.in_overwriting.proofs.Public.{free_type, side_once, sides_are_apart, sides_tell_the_pair, steps_are_overwritten}
use Rattle.in_typing.specs.Typed.{opposite}
use Rattle.in_typing.specs.TypedNets.{IsTypedNet, type_in}
use Rattle.in_reducer.specs.Wiring.{AddsInOrder, AreFirstWired, HasQueued, IsSideAfter, IsSideOf}

-- ---- lists

-- the value of the last one comes last
with_last : {W Q : Type 0} (Makes : W → Q → Type 0) (ws : List W) (qs : List Q) (w : W) (q : Q) → OneByOne Makes ws qs → Makes w q → OneByOne Makes (ws ++ w ∷ []) (qs ++ q ∷ [])
with_last Makes ws qs w q of_none made = with_one w [] q [] made of_none
with_last Makes ws qs w q (with_one v vs p ps one rest) made = with_one v (vs ++ w ∷ []) p (ps ++ q ∷ []) one (with_last Makes vs ps w q rest made)
with_last Makes ws qs w q (without v vs ps nothing rest) made = without v (vs ++ w ∷ []) (ps ++ q ∷ []) nothing (with_last Makes vs ps w q rest made)

without_last : {W Q : Type 0} (Makes : W → Q → Type 0) (ws : List W) (qs : List Q) (w : W) → OneByOne Makes ws qs → ((q : Q) → Makes w q → ⊥) → OneByOne Makes (ws ++ w ∷ []) qs
without_last Makes ws qs w of_none none = without w [] [] none of_none
without_last Makes ws qs w (with_one v vs p ps one rest) none = with_one v (vs ++ w ∷ []) p ps one (without_last Makes vs ps w rest none)
without_last Makes ws qs w (without v vs ps nothing rest) none = without v (vs ++ w ∷ []) ps nothing (without_last Makes vs ps w rest none)

-- an element that is in a list has a place there
pub at_among : {X : Type 0} (xs : List X) (x : X) → IsAmong x xs → (i : ℕ) × (slice_get xs i ≡ Some x)
at_among {X} [] x h = absurd h
at_among {X} (y ∷ ys) x (inl e) = (0, ap (λ (z : X). Some z) e)
at_among {X} (y ∷ ys) x (inr h) = let at = at_among ys x h in (suc at.0, at.1)

take_one : {X : Type 0} (xs : List X) (k : ℕ) (x : X) → slice_get xs k ≡ Some x → take (k + 1) xs ≡ take k xs ++ x ∷ []
take_one {X} xs k x at = take_more xs k x (slice_get_within xs k x at) ∙ ap (λ (y : X). take k xs ++ y ∷ []) (get_or_from_slice_get xs k x x at)

module _ (t : Tables) (x : Interaction) (wires : List (Point ℕ × Point ℕ)) (can : CanOverwriteAt t x.net x.rule x.one x.two x.name) (are : AreAllWiresOf (redex_of x).member wires) where
  abbrev sig : Signature
  sig = signature_of t

  abbrev m : Net ℕ
  m = (redex_of x).member

  -- the pair's port at a boundary end
  abbrev port : ℕ → Point ℕ
  port e = Port (end_agent sig (redex_of x) e) (end_place sig (redex_of x) e)

  near : (p q : Point ℕ) → m.partner p ≡ Some q → IsPoint sig m p
  near p q w = can.inside.points p q w

  far : (p q : Point ℕ) → m.partner p ≡ Some q → IsPoint sig m q
  far p q w = can.inside.points q p (can.inside.back p q w)

  one_point : (p q u : Point ℕ) → IsPoint sig m p → IsPoint sig m q → IsSideOf t x p u → IsSideOf t x q u → p ≡ q
  one_point = (sides_are_apart sig (before x) (redex_of x) x.name can).one

  once : (p u v : Point ℕ) → IsSideOf t x p u → IsSideOf t x p v → u ≡ v
  once = side_once sig (before x) (redex_of x) x.name can

  -- a listed wire is a wire
  is_wire : (j : ℕ) (p q : Point ℕ) → slice_get wires j ≡ Some (p, q) → m.partner p ≡ Some q
  is_wire j p q at = are.wire p q (among_at wires j (p, q) at)

  -- ---- one wire more

  module _ (own k : ℕ) (a : ArenaView) (es : List End) (h : AreFirstWired t x own wires k a es) where
    -- a point of the net that isn't the pair's can be written
    net_place : (u v : Point ℕ) → (before x).partner u ≡ Some v → (IsOfPair (redex_of x) u → ⊥) → IsPlaceAt a es (end_of u)
    net_place (Port y i) v w away =
        let point = can.net.points (Port y i) v w in
        let s = symbol_of sig ((before x).symbol y) i point in
        let low : i ≤ sig.arity s.0 = subst (λ (o : Option ℕ). IsSomeAnd o (λ s. i ≤ sig.arity s)) s.1 point in
        let many = h.places y s.0 ((h.symbols y s.0).1 (inl ((λ e. away (inl e)), (λ e. away (inr e)), s.1))) in
        omega (arith, low, many)
    net_place (Free k) v w away = let l : k < length (before x).free = can.net.points (Free k) v w in let o = h.own_ends in let r = h.room in omega (arith, l, o, r)

    -- .. and so can a side
    side_place : (p u : Point ℕ) → IsPoint sig m p → IsSideOf t x p u → IsPlaceAt a es (end_of u)
    side_place (Port l i) u point side =
        let s = symbol_of sig (m.symbol l) i point in
        let low : i ≤ sig.arity s.0 = subst (λ (o : Option ℕ). IsSomeAnd o (λ s. i ≤ sig.arity s)) s.1 point in
        let many = h.places (x.name l) s.0 ((h.symbols (x.name l) s.0).1 (inr (l, refl, s.1))) in
        let here : i < places (state_at a (x.name l)) = omega (arith, low, many) in
        subst (λ (u : Point ℕ). IsPlaceAt a es (end_of u)) (sym side) here
    side_place (Free f) u point side = net_place u (port f) (can.net.back (port f) u side) ((sides_are_apart sig (before x) (redex_of x) x.name can).stays (Free f) u point side)

    module _ (p q u v : Point ℕ) (at : slice_get wires k ≡ Some (p, q)) (at_u : IsSideOf t x p u) (at_v : IsSideOf t x q v) where
      wire : m.partner p ≡ Some q
      wire = is_wire k p q at

      pub differ : u ≢ v
      differ same =
          let f = one_point p q u (near p q wire) (far p q wire) at_u (subst (λ (v : Point ℕ). IsSideOf t x q v) (sym same) at_v) in
          can.inside.apart p (wire ∙ ap (λ (p : Point ℕ). Some p) (sym f))

      pub place_u : IsPlaceAt a es (end_of u)
      place_u = side_place p u (near p q wire) at_u

      pub place_v : IsPlaceAt a es (end_of v)
      place_v = side_place q v (far p q wire) at_v

      module _ (b : ArenaView) (fs : List End) (exchanged : AreExchanged (end_of u) (end_of v) a es b fs) where
        pub kept : KeepsCells a b × (length fs ≡ length es)
        kept = exchange_keeps (end_of u) (end_of v) a es b fs place_u place_v exchanged

        one_stands : stands_at b fs u ≡ Some (end_of v)
        one_stands =
            ap (stands_at b fs) (sym (end_point u))
            ∙ stands_one (end_of u) (end_of v) a es b fs place_u place_v exchanged (λ same. differ (sym (end_point u) ∙ same ∙ end_point v))

        two_stands : stands_at b fs v ≡ Some (end_of u)
        two_stands = ap (stands_at b fs) (sym (end_point v)) ∙ stands_two (end_of u) (end_of v) a es b fs place_u place_v exchanged

        others_stand : (w : Point ℕ) → w ≢ u → w ≢ v → stands_at b fs w ≡ stands_at a es w
        others_stand w one two =
            stands_still (end_of u) (end_of v) a es b fs place_u place_v exchanged w (λ same. one (same ∙ end_point u)) (λ same. two (same ∙ end_point v))

        pub one_more : AreFirstWired t x own wires (k + 1) b fs
        one_more = record {
          can = h.can;
          all = h.all;
          own_ends = h.own_ends;
          room = (let r = h.room in let l = kept.1 in omega (arith, r, l));
          symbols = λ y s. ((λ f. (h.symbols y s).0 (sym (word_kept a b kept.0 y) ∙ f)), (λ f. word_kept a b kept.0 y ∙ (h.symbols y s).1 f));
          places = λ y s f. places_kept a b kept.0 y ∙ h.places y s (sym (word_kept a b kept.0 y) ∙ f);
          written = λ j r s w z low f at_w at_z. written j r s w z low f at_w at_z (same_point w u) (same_point w v) (same_point z u) (same_point z v);
          still = still;
        }
          where
            -- the two sides of a wire, one of which is here: the other one is there
            one_here : (j : ℕ) (r s w z : Point ℕ) → slice_get wires j ≡ Some (r, s) → IsSideOf t x r w → IsSideOf t x s z → w ≡ u → z ≡ v
            one_here j r s w z f at_w at_z same =
                let there = is_wire j r s f in
                let r_is : r ≡ p = one_point r p w (near r s there) (near p q wire) at_w (subst (λ (u : Point ℕ). IsSideOf t x p u) (sym same) at_u) in
                let s_is : s ≡ q = same_Some s q (sym there ∙ ap m.partner r_is ∙ wire) in
                once q z v (subst (λ (s : Point ℕ). IsSideOf t x s z) s_is at_z) at_v

            two_here : (j : ℕ) (r s w z : Point ℕ) → slice_get wires j ≡ Some (r, s) → IsSideOf t x r w → IsSideOf t x s z → w ≡ v → z ≡ u
            two_here j r s w z f at_w at_z same =
                let there = is_wire j r s f in
                let r_is : r ≡ q = one_point r q w (near r s there) (far p q wire) at_w (subst (λ (v : Point ℕ). IsSideOf t x q v) (sym same) at_v) in
                let s_is : s ≡ p = same_Some s p (sym there ∙ ap m.partner r_is ∙ can.inside.back p q wire) in
                once p z u (subst (λ (s : Point ℕ). IsSideOf t x s z) s_is at_z) at_u

            three_here : (j : ℕ) (r s w z : Point ℕ) → slice_get wires j ≡ Some (r, s) → IsSideOf t x r w → IsSideOf t x s z → z ≡ u → w ≡ v
            three_here j r s w z f at_w at_z same =
                let there = can.inside.back r s (is_wire j r s f) in
                let s_is : s ≡ p = one_point s p z (near s r there) (near p q wire) at_z (subst (λ (u : Point ℕ). IsSideOf t x p u) (sym same) at_u) in
                let r_is : r ≡ q = same_Some r q (sym there ∙ ap m.partner s_is ∙ wire) in
                once q w v (subst (λ (r : Point ℕ). IsSideOf t x r w) r_is at_w) at_v

            four_here : (j : ℕ) (r s w z : Point ℕ) → slice_get wires j ≡ Some (r, s) → IsSideOf t x r w → IsSideOf t x s z → z ≡ v → w ≡ u
            four_here j r s w z f at_w at_z same =
                let there = can.inside.back r s (is_wire j r s f) in
                let s_is : s ≡ q = one_point s q z (near s r there) (far p q wire) at_z (subst (λ (v : Point ℕ). IsSideOf t x q v) (sym same) at_v) in
                let r_is : r ≡ p = same_Some r p (sym there ∙ ap m.partner s_is ∙ can.inside.back p q wire) in
                once p w u (subst (λ (r : Point ℕ). IsSideOf t x r w) r_is at_w) at_u

            written : (j : ℕ) (r s w z : Point ℕ) → j < k + 1 → slice_get wires j ≡ Some (r, s) → IsSideOf t x r w → IsSideOf t x s z → Dec (w ≡ u) → Dec (w ≡ v) → Dec (z ≡ u) → Dec (z ≡ v)
                → (stands_at b fs w ≡ Some (end_of z)) × (stands_at b fs z ≡ Some (end_of w))
            written j r s w z low f at_w at_z (yes w_is) other third fourth =
                let z_is = one_here j r s w z f at_w at_z w_is in (
                  ap (stands_at b fs) w_is ∙ one_stands ∙ ap (λ (v : Point ℕ). Some (end_of v)) (sym z_is),
                  ap (stands_at b fs) z_is ∙ two_stands ∙ ap (λ (u : Point ℕ). Some (end_of u)) (sym w_is),
                )
            written j r s w z low f at_w at_z (no first) (yes w_is) third fourth =
                let z_is = two_here j r s w z f at_w at_z w_is in (
                  ap (stands_at b fs) w_is ∙ two_stands ∙ ap (λ (u : Point ℕ). Some (end_of u)) (sym z_is),
                  ap (stands_at b fs) z_is ∙ one_stands ∙ ap (λ (v : Point ℕ). Some (end_of v)) (sym w_is),
                )
            written j r s w z low f at_w at_z (no first) (no other) (yes z_is) fourth = absurd (other (three_here j r s w z f at_w at_z z_is))
            written j r s w z low f at_w at_z (no first) (no other) (no third) (yes z_is) = absurd (first (four_here j r s w z f at_w at_z z_is))
            written j r s w z low f at_w at_z (no first) (no other) (no third) (no fourth) =
                let old = h.written j r s w z (earlier (ℕ_discrete j k)) f at_w at_z in
                (others_stand w first other ∙ old.0, others_stand z third fourth ∙ old.1)
              where
                earlier : Dec (j ≡ k) → j < k
                earlier (no apart) = omega (arith, low, apart)
                earlier (yes same) =
                    let both : (r, s) ≡ (p, q) = same_Some (r, s) (p, q) (sym f ∙ ap (slice_get wires) same ∙ at) in
                    absurd (first (once p w u (subst (λ (e : Point ℕ × Point ℕ). IsSideOf t x e.0 w) both at_w) at_u))

            still : (w z : Point ℕ) → (before x).partner w ≡ Some z → (IsOfPair (redex_of x) w → ⊥) → (IsSideAfter t x w → ⊥) → stands_at b fs w ≡ Some (end_of z)
            still w z f away out =
                others_stand w (λ same. out (v, (p, q, wire, subst (λ (u : Point ℕ). IsSideOf t x p u) (sym same) at_u, at_v)))
                (λ same. out (u, (q, p, can.inside.back p q wire, subst (λ (v : Point ℕ). IsSideOf t x q v) (sym same) at_v, at_u)))
                ∙ h.still w z f away out

        -- ---- the pair that it makes, if it has a boundary end

        principal_point : (y : ℕ) (w : Point ℕ) → IsPrincipal y (end_of w) → w ≡ Port y 0
        principal_point y w f = sym (end_point w) ∙ ap point_of f

        module _ (e : ℕ) (over : p ≡ Free e) (leads : LeadsFrom m e q) (typed : IsTypedNet sig (before x)) (typed_inside : IsTypedNet sig m) (input : Bool) (declared : (s : PortType) × (slice_get m.free e ≡ Some s) × (s.output ≡ input)) where
          abbrev IsMadeHere : AgentNo × AgentNo → Type 0
          IsMadeHere = IsMadeByWire t x.net x.rule x.one x.two x.name (e, q)

          told : TellThePair t x.net x.rule x.one x.two x.name (e, q) u v
          told = sides_tell_the_pair t x.net x.rule x.one x.two x.name can typed typed_inside (e, q) u v leads (subst (λ (p : Point ℕ). IsSideOf t x p u) over at_u) at_v

          type_here : type_in sig m (Free e) ≡ Some (opposite declared.0)
          type_here = free_type sig m e declared.0 declared.1

          -- an input is declared if the outer side is at the input of its wire
          pair_made : (c d : ℕ) → IsPrincipal c (end_of u) → IsPrincipal d (end_of v) → IsMadeHere (agents_at (cond input (d, c) (c, d)))
          pair_made c d at_c at_d = go input declared.2
            where
              go : (b : Bool) → declared.0.output ≡ b → IsMadeHere (agents_at (cond b (d, c) (c, d)))
              go true is = told.input (opposite declared.0) (record { 0 = c }) (record { 0 = d }) type_here (ap not is) (principal_point c u at_c) (principal_point d v at_d)
              go false is = told.output (opposite declared.0) (record { 0 = c }) (record { 0 = d }) type_here (ap not is) (principal_point c u at_c) (principal_point d v at_d)

          none_there : IsNoPair (end_of u) (end_of v) → (r : AgentNo × AgentNo) → IsMadeHere r → ⊥
          none_there none r is = go (told.only r is)
            where
              go : ((u ≡ Port r.0.0 0) × (v ≡ Port r.1.0 0)) ⊎ ((u ≡ Port r.1.0 0) × (v ≡ Port r.0.0 0)) → ⊥
              go (inl (o, i)) = none r.0.0 r.1.0 (ap end_of o) (ap end_of i)
              go (inr (o, i)) = none r.1.0 r.0.0 (ap end_of o) (ap end_of i)

          pub one_more_queued : (list : List (ℕ × Point ℕ)) → slice_get list k ≡ Some (e, q) → (first old new : List (ℕ × ℕ)) → HasQueued t x list k first old → AddsInOrder input (end_of u) (end_of v) old new
              → HasQueued t x list (k + 1) first new
          one_more_queued list is_last first old new (qs, made, is) (inl (none, same)) = (
            qs,
            subst (λ (ws : List (ℕ × Point ℕ)). MakeInTurn t x.net x.rule x.one x.two x.name ws qs) (sym (take_one list k (e, q) is_last))
                (without_last (IsMadeByWire t x.net x.rule x.one x.two x.name) (take k list) qs (e, q) made (none_there none)),
            same ∙ is,
          )
          one_more_queued list is_last first old new (qs, made, is) (inr (c, d, at_c, at_d, same)) =
              let r : AgentNo × AgentNo = agents_at (cond input (d, c) (c, d)) in (
                qs ++ r ∷ [],
                subst (λ (ws : List (ℕ × Point ℕ)). MakeInTurn t x.net x.rule x.one x.two x.name ws (qs ++ r ∷ [])) (sym (take_one list k (e, q) is_last))
                    (with_last (IsMadeByWire t x.net x.rule x.one x.two x.name) (take k list) qs (e, q) r made (pair_made c d at_c at_d)),
                same ∙ ap (λ (old : List (ℕ × ℕ)). old ++ numbers_of r ∷ []) is ∙ append_assoc first (map numbers_of qs) (numbers_of r ∷ [])
                    ∙ ap (λ (ps : List (ℕ × ℕ)). first ++ ps) (sym (map-append numbers_of qs (r ∷ []))),
              )

  -- ---- all

  module _ (own : ℕ) (a : ArenaView) (es : List End) (h : AreFirstWired t x own wires (length wires) a es) where
    -- the net that the cells show
    abbrev shown_net : Net ℕ
    shown_net = record { symbol = λ y. word_of (state_at a y); partner = λ u. option_map point_of (stands_at a (take own es) u); free = (before x).free }

    -- a new agent isn't one of the pair
    new_other : (k s : ℕ) → m.symbol k ≡ Some s → (x.name k ≢ x.one.0) × (x.name k ≢ x.two.0)
    new_other k s f = (
      (λ same. (let g : None ≡ Some (redex_of x).first = sym (can.naming.fresh k s f) ∙ ap (before x).symbol same ∙ can.redex.one in cc)),
      (λ same. (let g : None ≡ Some (redex_of x).second = sym (can.naming.fresh k s f) ∙ ap (before x).symbol same ∙ can.redex.two in cc)),
    )

    -- so no agent has the pair's numbers
    none_of_pair : (y s : ℕ) → (y ≡ x.one.0) ⊎ (y ≡ x.two.0) → word_of (state_at a y) ≡ Some s → ⊥
    none_of_pair y s of w = go of ((h.symbols y s).0 w)
      where
        go : (y ≡ x.one.0) ⊎ (y ≡ x.two.0) → ((y ≢ x.one.0) × (y ≢ x.two.0) × ((before x).symbol y ≡ Some s)) ⊎ ((k : ℕ) × (x.name k ≡ y) × (m.symbol k ≡ Some s)) → ⊥
        go (inl e) (inl old) = old.0 e
        go (inr e) (inl old) = old.1 e
        go (inl e) (inr (k, name, new)) = (new_other k s new).0 (name ∙ e)
        go (inr e) (inr (k, name, new)) = (new_other k s new).1 (name ∙ e)

    nothing_stands : (c : State) (i : ℕ) → ((s : ℕ) → word_of c ≡ Some s → ⊥) → option_map point_of (end_at c i) ≡ None
    nothing_stands Vacant i none = refl
    nothing_stands Leased i none = refl
    nothing_stands (Live word ends) i none = absurd (none word refl)

    -- a free end of the net is among the first ends
    own_stands : (u v : Point ℕ) → (before x).partner u ≡ Some v → stands_at a (take own es) u ≡ stands_at a es u
    own_stands (Port y i) v w = refl
    own_stands (Free k) v w = take_at own k es (let l : k < length (before x).free = can.net.points (Free k) v w in let o = h.own_ends in omega (arith, l, o))

    abbrev Side : Point ℕ → Point ℕ → Type 0
    Side = IsSideOf t x

    -- a side is among the first ends if it is a free one
    side_stands : (p u : Point ℕ) → Side p u → stands_at a (take own es) u ≡ stands_at a es u
    side_stands (Port k i) u side = ap (stands_at a (take own es)) side ∙ sym (ap (stands_at a es) side)
    side_stands (Free f) u side = own_stands u (port f) (can.net.back (port f) u side)

    written : (u v : Point ℕ) → AreSidesOf (redex_of x).member (IsSideAt sig (before x) (redex_of x) x.name) u v → option_map point_of (stands_at a (take own es) u) ≡ Some v
    written u v (p, q, w, at_p, at_q) =
        ap (option_map point_of) (side_stands p u at_p ∙ go (are.all p q w)) ∙ ap (λ (v : Point ℕ). Some v) (end_point v)
      where
        go : IsAmong (p, q) wires ⊎ IsAmong (q, p) wires → stands_at a es u ≡ Some (end_of v)
        go (inl among) = let at = at_among wires (p, q) among in (h.written at.0 p q u v (slice_get_within wires at.0 (p, q) at.1) at.1 at_p at_q).0
        go (inr among) = let at = at_among wires (q, p) among in (h.written at.0 q p v u (slice_get_within wires at.0 (q, p) at.1) at.1 at_q at_p).1

    gone : (u : Point ℕ) → IsOfPair (redex_of x) u → option_map point_of (stands_at a (take own es) u) ≡ None
    gone (Port y i) of = nothing_stands (state_at a y) i (λ s. none_of_pair y s of)
    gone (Free k) of = absurd of

    -- a point without a wire has none if it is no side
    none_stands : (u : Point ℕ) → (IsOfPair (redex_of x) u → ⊥) → (IsSide sig (before x) (redex_of x) x.name u → ⊥) → (before x).partner u ≡ None → option_map point_of (stands_at a (take own es) u) ≡ None
    none_stands (Free k) stays no_side none = go (slice_get (take own es) k) refl
      where
        go : (o : Option End) → slice_get (take own es) k ≡ o → option_map point_of (slice_get (take own es) k) ≡ None
        go None f = ap (option_map point_of) f
        go (Some w) f =
            let l = slice_get_within (take own es) k w f in
            let n = length-take-le own es in
            let o = h.own_ends in
            let v = has_value ((before x).partner (Free k)) (can.net.joined (Free k) (let low : k < length (before x).free = omega (arith, l, n, o) in low)) in
            absurd (let z : None ≡ Some v.0 = sym none ∙ v.1 in cc)
    none_stands (Port y i) stays no_side none = go (end_at (state_at a y) i) refl
      where
        go : (o : Option End) → end_at (state_at a y) i ≡ o → option_map point_of (end_at (state_at a y) i) ≡ None
        go None f = ap (option_map point_of) f
        go (Some w) f = absurd (there (live_word (state_at a y) (place_within (state_at a y) i w f)))
          where
            live_word : (s : State) → i < places s → (word : ℕ) × (word_of s ≡ Some word)
            live_word Vacant l = absurd (omega (arith, l))
            live_word Leased l = absurd (omega (arith, l))
            live_word (Live word ends) l = (word, refl)

            there : (word : ℕ) × (word_of (state_at a y) ≡ Some word) → ⊥
            there (s, is) = point ((h.symbols y s).0 is)
              where
                low : i ≤ sig.arity s
                low = let l = place_within (state_at a y) i w f in let many = h.places y s is in omega (arith, l, many)

                point : ((y ≢ x.one.0) × (y ≢ x.two.0) × ((before x).symbol y ≡ Some s)) ⊎ ((k : ℕ) × (x.name k ≡ y) × (m.symbol k ≡ Some s)) → ⊥
                point (inl (first, second, old)) =
                    let v = has_value ((before x).partner (Port y i)) (can.net.joined (Port y i) (subst (λ (o : Option ℕ). IsSomeAnd o (λ s. i ≤ sig.arity s)) (sym old) low)) in
                    let z : None ≡ Some v.0 = sym none ∙ v.1 in
                    cc
                point (inr (k, name, new)) =
                    let q = has_value (m.partner (Port k i)) (can.inside.joined (Port k i) (subst (λ (o : Option ℕ). IsSomeAnd o (λ s. i ≤ sig.arity s)) (sym new) low)) in
                    let v = (sides_are_apart sig (before x) (redex_of x) x.name can).side q.0 (far (Port k i) q.0 q.1) in
                    no_side (v.0, (Port k i, q.0, q.1, ap (λ (y : ℕ). Port y i) (sym name), v.1))

    kept_stands : (u : Point ℕ) → (IsOfPair (redex_of x) u → ⊥) → (IsSide sig (before x) (redex_of x) x.name u → ⊥) → option_map point_of (stands_at a (take own es) u) ≡ (before x).partner u
    kept_stands u stays no_side = go ((before x).partner u) refl
      where
        go : (o : Option (Point ℕ)) → (before x).partner u ≡ o → option_map point_of (stands_at a (take own es) u) ≡ (before x).partner u
        go None f = none_stands u stays no_side f ∙ sym f
        go (Some v) f =
            ap (option_map point_of) (own_stands u v f ∙ h.still u v f stays no_side) ∙ ap (λ (v : Point ℕ). Some v) (end_point v) ∙ sym f

    overwritten : IsOverwritten sig (before x) (redex_of x) x.name shown_net
    overwritten = record { agents = h.symbols; partners = record { written = written; gone = gone; kept = kept_stands }; free = refl }

    pub is_done : IsDone t x own a es
    is_done = record {
      after = shown_net;
      step = (steps_are_overwritten sig (before x) (redex_of x) x.name shown_net can).1 overwritten;
      shown = record { agents = λ y. refl; wires = λ u. refl };
    }
