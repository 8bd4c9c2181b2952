-- Two nets side by side in a net are determined by it and by the symbols of the first, except for the numbers that agents of the second have by
-- themselves. Two nets are side by side in one net, up to the names of its agents.
use Rattle.std.proofs.Common.{◌≡◌, ◌<◌, ℕ, zero, suc, Option, Some, None, IsSome, List, [], length, slice_get, refl, sym, ap, ◌∙◌}
use Rattle.std.proofs.lemmas.Option.{slice_get_within}
use Rattle.in_symbols.specs.declared.symbols.PortType.{PortType}
use Rattle.in_net.specs.Nets.{Point, Port, Free, Net}
use Rattle.in_net.proofs.Public.{all_same, port_agent}
use Rattle.in_interaction.proofs.Public.{has_value}
use Rattle.in_base.proofs.Places.{is_some}
use Rattle.in_net.specs.Renaming.{IsRenamed, renamed}
use Rattle.in_gluing.specs.AsGluing.{old_and_new, two_parts}
use Rattle.in_gluing.proofs.Frame.{map_some}
use Rattle.in_gluing.specs.SideBySide.{IsThere, IsWiredWithin, StandBeside, BesideIsOne, BesidePartsAreAlike}
use Rattle.in_gluing.proofs.SideBySide.{end_there, end_type, image, is_image, wire_kept, symbol_kept, one_place}

module _ (m : Net ℕ) (ends : List (ℕ × ℕ)) where
  record Pair : Type 0 where
    one : Net ℕ
    two : Net ℕ
    name : ℕ → ℕ
    stand : StandBeside one two name ends m
    wired : (i : ℕ) → IsWiredWithin (two_parts one two i)

  abbrev part : Pair → ℕ → Net ℕ
  part a = two_parts a.one a.two

  -- the place of a point of a part in the whole
  abbrev at : Pair → ℕ → Point ℕ → Point ℕ
  at a = image a.one a.two m a.name ends a.stand

  there : (a : Pair) (i : ℕ) (q r : Point ℕ) → (part a i).partner q ≡ Some r → IsThere (part a i) q × IsThere (part a i) r
  there a i q r e = ((a.wired i).there q r e, (a.wired i).there r q ((a.wired i).back.0 q r e))

  -- a part of one pair compared with that of the other pair
  module _ (a b : Pair) (same : (y : ℕ) → a.one.symbol y ≡ b.one.symbol y) where
    -- an agent of the second part has there another number
    abbrev Carried : ℕ → Type 0
    Carried x = (z : ℕ) × ((s : ℕ) → a.two.symbol x ≡ Some s → (b.name z ≡ a.name x) × (b.two.symbol z ≡ Some s))

    carried : (x : ℕ) → Carried x
    carried x = go (a.two.symbol x) refl
      where
        go : (o : Option ℕ) → a.two.symbol x ≡ o → Carried x
        go None e = (x, λ s f. absurd (let none : None ≡ Some s = sym e ∙ f in cc))
        go (Some t) e = found ((b.stand.beside.agents (a.name x) t).0 (symbol_kept a.one a.two m a.name ends a.stand 1 x t e))
          where
            found : ((i : ℕ) × (z : ℕ) × (old_and_new b.name i z ≡ a.name x) × ((part b i).symbol z ≡ Some t)) → Carried x
            found (zero, z, e_z, f) = absurd (let w = (a.stand.apart 0 1 z x (is_some (a.one.symbol z) t (same z ∙ f)) (is_some (a.two.symbol x) t e) e_z).0 in cc)
            found (suc zero, z, e_z, f) = (z, λ s g. (e_z, f ∙ sym e ∙ g))
            found (suc (suc i), z, e_z, f) = cc

    abbrev new : ℕ → ℕ → ℕ
    new zero x = x
    new (suc i) x = (carried x).0

    agent_over : (i x s : ℕ) → (part a i).symbol x ≡ Some s → (old_and_new b.name i (new i x) ≡ old_and_new a.name i x) × ((part b i).symbol (new i x) ≡ Some s)
    agent_over zero x s e = (refl, sym (same x) ∙ e)
    agent_over (suc zero) x s e = (carried x).1 s e
    agent_over (suc (suc i)) x s e = cc

    -- the same free ends are of that part
    end_over : (i e : ℕ) → e < length (part a i).free → (e < length (part b i).free) × (slice_get (part b i).free e ≡ slice_get (part a i).free e)
    end_over i e low =
        let k = a.stand.number (i, e) in
        let stands = a.stand.all i e low in (
          end_there b.one b.two m b.name ends b.stand k (i, e) stands,
          sym (end_type b.one b.two m b.name ends b.stand k (i, e) stands) ∙ end_type a.one a.two m a.name ends a.stand k (i, e) stands,
        )

    point_over : (i : ℕ) (q : Point ℕ) → IsThere (part a i) q → (at b i (renamed (new i) q) ≡ at a i q) × IsThere (part b i) (renamed (new i) q)
    point_over i (Port x k) t =
        let s = has_value ((part a i).symbol x) t in
        let over = agent_over i x s.0 s.1 in
        (ap (λ (z : ℕ). Port z k) over.0, is_some ((part b i).symbol (new i x)) s.0 over.1)
    point_over i (Free e) low = (ap (λ (z : ℕ). Free z) (b.stand.numbered (a.stand.number (i, e)) (i, e) (a.stand.all i e low)), (end_over i e low).0)

    -- a point of that part at the place of one of this part
    one_over : (i j : ℕ) (q r : Point ℕ) → IsThere (part a i) q → IsThere (part b j) r → at a i q ≡ at b j r → (i ≡ j) × (renamed (new i) q ≡ r)
    one_over i j q r t g e = let over = point_over i q t in one_place b.one b.two m b.name ends b.stand i j (renamed (new i) q) r over.1 g (over.0 ∙ e)

    wire_over : (i : ℕ) (q r : Point ℕ) → (part a i).partner q ≡ Some r → (part b i).partner (renamed (new i) q) ≡ Some (renamed (new i) r)
    wire_over i q r e =
        let w = (b.stand.beside.wires (at a i q) (at a i r)).0 (wire_kept a.one a.two m a.name ends a.stand i q r e) in
        let here = there a i q r e in
        let far = there b w.0 w.1 w.2 w.5 in
        let first = one_over i w.0 q w.1 here.0 far.0 (is_image b.one b.two m b.name ends b.stand w.0 w.1 (at a i q) w.3) in
        let second = one_over i w.0 r w.2 here.1 far.1 (is_image b.one b.two m b.name ends b.stand w.0 w.2 (at a i r) w.4) in
        (λ k. (part b (first.0 k)).partner (first.1 k)) ∙ w.5 ∙ ap (λ (z : Point ℕ). Some z) (sym second.1)

  module _ (a b : Pair) (same : (y : ℕ) → a.one.symbol y ≡ b.one.symbol y) where
    abbrev over : ℕ → ℕ → ℕ
    over = new a b same

    abbrev turned : (y : ℕ) → b.one.symbol y ≡ a.one.symbol y
    turned y = sym (same y)

    abbrev back : ℕ → ℕ → ℕ
    back = new b a turned

    back_and_over : (i : ℕ) (u : Point ℕ) → IsThere (part b i) u → renamed (over i) (renamed (back i) u) ≡ u
    back_and_over i u t = let g = point_over b a turned i u t in (one_over a b same i i (renamed (back i) u) u g.1 t g.0).1

    ends_same : (i e : ℕ) → slice_get (part b i).free e ≡ slice_get (part a i).free e
    ends_same i e = go (slice_get (part b i).free e) (slice_get (part a i).free e) refl refl
      where
        go : (x y : Option PortType) → slice_get (part b i).free e ≡ x → slice_get (part a i).free e ≡ y → slice_get (part b i).free e ≡ slice_get (part a i).free e
        go (Some x) y f g = sym (end_over b a turned i e (slice_get_within (part b i).free e x f)).1
        go None (Some y) f g = (end_over a b same i e (slice_get_within (part a i).free e y g)).1
        go None None f g = f ∙ sym g

    part_over : (i : ℕ) → IsRenamed (over i) (part a i) (part b i)
    part_over i = record {
      apart = λ x y s t e. (
          let v = has_value ((part a i).symbol x) s in
          let w = has_value ((part a i).symbol y) t in
          (a.stand.apart i i x y s t (sym (agent_over a b same i x v.0 v.1).0 ∙ ap (old_and_new b.name i) e ∙ (agent_over a b same i y w.0 w.1).0)).1
          );
      agents = λ y s. (
        (λ e. (
          back i y,
          port_agent (over i (back i y)) y 0 0 (back_and_over i (Port y 0) (is_some ((part b i).symbol y) s e)),
          (agent_over b a turned i y s e).1,
        )),
        (λ w. sym (ap (part b i).symbol w.1) ∙ (agent_over a b same i w.0 s w.2).1),
      );
      wires = λ u v. (
        (λ e. (
            let far = there b i u v e in
            (renamed (back i) u, renamed (back i) v, back_and_over i u far.0, back_and_over i v far.1, wire_over b a turned i u v e)
            )),
        (λ w. sym (ap (part b i).partner w.2) ∙ wire_over a b same i w.0 w.1 w.4 ∙ ap (λ (z : Point ℕ). Some z) w.3),
      );
      free = all_same (part b i).free (part a i).free (ends_same i);
    }

wired_parts : (one two : Net ℕ) → IsWiredWithin one → IsWiredWithin two → (i : ℕ) → IsWiredWithin (two_parts one two i)
wired_parts one two wired_one wired_two zero = wired_one
wired_parts one two wired_one wired_two (suc zero) = wired_two
wired_parts one two wired_one wired_two (suc (suc i)) = record { agents = []; all = λ x g. cc; there = λ u v e. cc; back = ((λ u v e. cc), λ u e. cc) }

pub beside_parts_are_alike : BesidePartsAreAlike
beside_parts_are_alike one two one_too two_too n name name_too ends wired_one wired_two wired_one_too wired_two_too h h_too same =
    let a : Pair n ends = record { one = one; two = two; name = name; stand = h; wired = wired_parts one two wired_one wired_two } in
    let b : Pair n ends = record { one = one_too; two = two_too; name = name_too; stand = h_too; wired = wired_parts one_too two_too wired_one_too wired_two_too } in
    (part_over n ends a b same 0, over n ends a b same 1, part_over n ends a b same 1)

-- ---- the two nets that are side by side

module _ (one two : Net ℕ) (ends : List (ℕ × ℕ)) (wired_one : IsWiredWithin one) (wired_two : IsWiredWithin two) where
  abbrev both : ℕ → Net ℕ
  both = two_parts one two

  abbrev wired : (i : ℕ) → IsWiredWithin (both i)
  wired = wired_parts one two wired_one wired_two

  -- a net that they are
  record Whole : Type 0 where
    n : Net ℕ
    name : ℕ → ℕ
    stand : StandBeside one two name ends n

  abbrev named : Whole → ℕ → ℕ → ℕ
  named a = old_and_new a.name

  abbrev place : Whole → ℕ → Point ℕ → Point ℕ
  place a = image one two a.n a.name ends a.stand

  module _ (a b : Whole) where
    name_by : (y : ℕ) (o : Option ℕ) → a.n.symbol y ≡ o → ℕ
    name_by y None e = y
    name_by y (Some s) e = let r = (a.stand.beside.agents y s).0 e in named b r.0 r.1

    -- the name in the other net of an agent of this net
    abbrev renaming : ℕ → ℕ
    renaming y = name_by y (a.n.symbol y) refl

    renamed_by : (i x : ℕ) → IsSome ((both i).symbol x) → (o : Option ℕ) (e : a.n.symbol (named a i x) ≡ o) → name_by (named a i x) o e ≡ named b i x
    unfolding name_by
    renamed_by i x h None e = let s = has_value ((both i).symbol x) h in let g = symbol_kept one two a.n a.name ends a.stand i x s.0 s.1 in cc
    renamed_by i x h (Some s) e =
        let r = (a.stand.beside.agents (named a i x) s).0 e in
        let same = a.stand.apart r.0 i r.1 x (is_some ((both r.0).symbol r.1) s r.3) h r.2 in
        ap (λ j. named b j r.1) same.0 ∙ ap (named b i) same.1

    renamed_at : (i x : ℕ) → IsSome ((both i).symbol x) → renaming (named a i x) ≡ named b i x
    renamed_at i x h = renamed_by i x h (a.n.symbol (named a i x)) refl

    point_at : (i : ℕ) (q : Point ℕ) → IsThere (both i) q → renamed renaming (place a i q) ≡ place b i q
    point_at i (Port x k) t = ap (λ (y : ℕ). Port y k) (renamed_at i x t)
    point_at i (Free e) low = ap (λ (y : ℕ). Free y) (sym (b.stand.numbered (a.stand.number (i, e)) (i, e) (a.stand.all i e low)))

    there_both : (i : ℕ) (q r : Point ℕ) → (both i).partner q ≡ Some r → IsThere (both i) q × IsThere (both i) r
    there_both i q r e = ((wired i).there q r e, (wired i).there r q ((wired i).back.0 q r e))

    agents_apart : (x y : ℕ) → IsSome (a.n.symbol x) → IsSome (a.n.symbol y) → renaming x ≡ renaming y → x ≡ y
    agents_apart x y g h e =
        let s = has_value (a.n.symbol x) g in
        let t = has_value (a.n.symbol y) h in
        let r = (a.stand.beside.agents x s.0).0 s.1 in
        let q = (a.stand.beside.agents y t.0).0 t.1 in
        let hr = is_some ((both r.0).symbol r.1) s.0 r.3 in
        let hq = is_some ((both q.0).symbol q.1) t.0 q.3 in
        let same = b.stand.apart r.0 q.0 r.1 q.1 hr hq (sym (renamed_at r.0 r.1 hr) ∙ ap renaming r.2 ∙ e ∙ ap renaming (sym q.2) ∙ renamed_at q.0 q.1 hq) in
        sym r.2 ∙ ap (λ j. named a j r.1) same.0 ∙ ap (named a q.0) same.1 ∙ q.2

    agents_forth : (y s : ℕ) → b.n.symbol y ≡ Some s → (x : ℕ) × (renaming x ≡ y) × (a.n.symbol x ≡ Some s)
    agents_forth y s e =
        let r = (b.stand.beside.agents y s).0 e in
        (named a r.0 r.1, renamed_at r.0 r.1 (is_some ((both r.0).symbol r.1) s r.3) ∙ r.2, symbol_kept one two a.n a.name ends a.stand r.0 r.1 s r.3)

    agents_back : (y s : ℕ) → (x : ℕ) × (renaming x ≡ y) × (a.n.symbol x ≡ Some s) → b.n.symbol y ≡ Some s
    agents_back y s w =
        let r = (a.stand.beside.agents w.0 s).0 w.2 in
        ap b.n.symbol (sym w.1 ∙ ap renaming (sym r.2) ∙ renamed_at r.0 r.1 (is_some ((both r.0).symbol r.1) s r.3)) ∙ symbol_kept one two b.n b.name ends b.stand r.0 r.1 s r.3

    wires_forth : (u v : Point ℕ) → b.n.partner u ≡ Some v → (p q : Point ℕ) × (renamed renaming p ≡ u) × (renamed renaming q ≡ v) × (a.n.partner p ≡ Some q)
    wires_forth u v e =
        let w = (b.stand.beside.wires u v).0 e in
        let t = there_both w.0 w.1 w.2 w.5 in (
          place a w.0 w.1,
          place a w.0 w.2,
          point_at w.0 w.1 t.0 ∙ sym (is_image one two b.n b.name ends b.stand w.0 w.1 u w.3),
          point_at w.0 w.2 t.1 ∙ sym (is_image one two b.n b.name ends b.stand w.0 w.2 v w.4),
          wire_kept one two a.n a.name ends a.stand w.0 w.1 w.2 w.5,
        )

    wires_back : (u v : Point ℕ) → (p q : Point ℕ) × (renamed renaming p ≡ u) × (renamed renaming q ≡ v) × (a.n.partner p ≡ Some q) → b.n.partner u ≡ Some v
    wires_back u v r =
        let w = (a.stand.beside.wires r.0 r.1).0 r.4 in
        let t = there_both w.0 w.1 w.2 w.5 in
        let first : u ≡ place b w.0 w.1 = sym r.2 ∙ ap (renamed renaming) (is_image one two a.n a.name ends a.stand w.0 w.1 r.0 w.3) ∙ point_at w.0 w.1 t.0 in
        let last : place b w.0 w.2 ≡ v = sym (point_at w.0 w.2 t.1) ∙ ap (renamed renaming) (sym (is_image one two a.n a.name ends a.stand w.0 w.2 r.1 w.4)) ∙ r.3 in
        ap b.n.partner first ∙ wire_kept one two b.n b.name ends b.stand w.0 w.1 w.2 w.5 ∙ ap (λ (z : Point ℕ). Some z) last

    is_renamed : IsRenamed renaming a.n b.n
    is_renamed = record {
      apart = agents_apart;
      agents = λ y s. ((λ e. agents_forth y s e), (λ w. agents_back y s w));
      wires = λ u v. ((λ e. wires_forth u v e), (λ w. wires_back u v w));
      free = map_some b.n.free a.n.free (b.stand.free ∙ sym a.stand.free);
    }

pub beside_is_one : BesideIsOne
beside_is_one one two n n_too name name_too ends wired_one wired_two h h_too =
    let a : Whole one two ends wired_one wired_two = record { n = n; name = name; stand = h } in
    let b : Whole one two ends wired_one wired_two = record { n = n_too; name = name_too; stand = h_too } in
    (renaming one two ends wired_one wired_two a b, is_renamed one two ends wired_one wired_two a b)
