-- The nets glued from the same parts are equal up to names.
use Rattle.std.proofs.Common.{◌≡◌, ℕ, Option, Some, None, IsSome, List, [], ◌∷◌, map, refl, sym, subst, ap, ◌∙◌}
use Rattle.in_net.specs.Interactions.{Side, Outer, Inner, other, Alternates}
use Rattle.in_net.specs.Nets.{Point, Port, Free, Signature, Net, IsPoint, IsNet}
use Rattle.in_net.proofs.Public.{symbol_of}
use Rattle.in_interaction.proofs.Public.{has_value}
use Rattle.in_net.specs.Renaming.{renamed, IsRenamed}
use Rattle.in_base.proofs.Places.{is_some}
use Rattle.in_gluing.specs.Gluing.{Cuts, IsJointEnd, glue_wire, AreLinked, IsPlaced, IsGlued}
use Rattle.in_gluing.specs.Laws.{KeepsApart, GluedOnce}
use Rattle.in_gluing.proofs.Frame.{map_some}

-- ---- glued under one set of names and another

module _ (sig : Signature) (parts : ℕ → Net ℕ) (cuts : Cuts) (nets : (i : ℕ) → IsNet sig (parts i)) where
  present : (i x k : ℕ) → IsPoint sig (parts i) (Port x k) → IsSome ((parts i).symbol x)
  present i x k h = let s = symbol_of sig ((parts i).symbol x) k h in is_some ((parts i).symbol x) s.0 s.1

  abbrev Present : ℕ → Point ℕ → Type 0
  Present i (Port x k) = IsSome ((parts i).symbol x)
  Present i (Free e) = Unit {0}

  of_point : (i : ℕ) (u : Point ℕ) → IsPoint sig (parts i) u → Present i u
  of_point i (Port x k) h = present i x k h
  of_point i (Free e) h = tt

  of_free : (i : ℕ) (u : Point ℕ) (e : ℕ) → u ≡ Free e → Present i u
  of_free i u e h = subst (λ u. Present i u) (sym h) tt

  -- both points of a wire are there
  wire_first : (s : Side) (p q : ℕ × Point ℕ) → glue_wire parts cuts s p q → Present p.0 p.1
  wire_first Outer p q w = of_point p.0 p.1 ((nets p.0).points p.1 q.1 w.1)
  wire_first Inner p q w = of_free p.0 p.1 w.0 w.2

  wire_last : (s : Side) (p q : ℕ × Point ℕ) → glue_wire parts cuts s p q → Present q.0 q.1
  wire_last Outer p q w = subst (λ j. Present j q.1) w.0 (of_point p.0 q.1 ((nets p.0).points q.1 p.1 ((nets p.0).back p.1 q.1 w.1)))
  wire_last Inner p q w = of_free q.0 q.1 w.1 w.3

  path_first : (s : Side) (p : ℕ × Point ℕ) (es : List (ℕ × Point ℕ)) (q : ℕ × Point ℕ) → Alternates (glue_wire parts cuts) (IsJointEnd cuts) s p es q → Present p.0 p.1
  path_first s p [] q w = wire_first s p q w
  path_first s p (e ∷ es) q w = wire_first s p e w.0

  path_last : (s : Side) (p : ℕ × Point ℕ) (es : List (ℕ × Point ℕ)) (q : ℕ × Point ℕ) → Alternates (glue_wire parts cuts) (IsJointEnd cuts) s p es q → Present q.0 q.1
  path_last s p [] q w = wire_last s p q w
  path_last s p (e ∷ es) q w = path_last (other s) e es q w.2

  module _ (a b : ℕ → ℕ → ℕ) (apart_a : KeepsApart parts a) (n : Net ℕ) (glued : IsGlued parts a cuts n) where
    -- the other name of an agent
    pub name_by : (y : ℕ) (o : Option ℕ) → n.symbol y ≡ o → ℕ
    name_by y None e = 0
    name_by y (Some s) e = let r = (glued.agents y s).0 e in b r.0 r.1

    abbrev pub rename : ℕ → ℕ
    rename y = name_by y (n.symbol y) refl

    rename_by : (i x : ℕ) → IsSome ((parts i).symbol x) → (o : Option ℕ) (e : n.symbol (a i x) ≡ o) → name_by (a i x) o e ≡ b i x
    unfolding name_by
    rename_by i x h None e = let s = has_value ((parts i).symbol x) h in let g : n.symbol (a i x) ≡ Some s.0 = (glued.agents (a i x) s.0).1 (i, x, refl, s.1) in cc
    rename_by i x h (Some s) e =
        let r = (glued.agents (a i x) s).0 e in
        let same = apart_a r.0 i r.1 x (is_some ((parts r.0).symbol r.1) s r.3) h r.2 in
        ap (λ j. b j r.1) same.0 ∙ ap (b i) same.1

    rename_at : (i x : ℕ) → IsSome ((parts i).symbol x) → rename (a i x) ≡ b i x
    rename_at i x h = rename_by i x h (n.symbol (a i x)) refl

    pub rename_apart : KeepsApart parts b → (x y : ℕ) → IsSome (n.symbol x) → IsSome (n.symbol y) → rename x ≡ rename y → x ≡ y
    rename_apart apart_b x y h g e =
        let s = has_value (n.symbol x) h in
        let t = has_value (n.symbol y) g in
        let r = (glued.agents x s.0).0 s.1 in
        let q = (glued.agents y t.0).0 t.1 in
        let hr = is_some ((parts r.0).symbol r.1) s.0 r.3 in
        let hq = is_some ((parts q.0).symbol q.1) t.0 q.3 in
        let same = apart_b r.0 q.0 r.1 q.1 hr hq (sym (rename_at r.0 r.1 hr) ∙ ap rename r.2 ∙ e ∙ ap rename (sym q.2) ∙ rename_at q.0 q.1 hq) in
        sym r.2 ∙ ap (λ j. a j r.1) same.0 ∙ ap (a q.0) same.1 ∙ q.2

    -- the place of a point under one and the other
    placed_forth : (i : ℕ) (u p : Point ℕ) → Present i u → IsPlaced cuts a i u p → IsPlaced cuts b i u (renamed rename p)
    placed_forth i (Port x k) p h g = ap (renamed rename) g ∙ ap (λ y. Port y k) (rename_at i x h)
    placed_forth i (Free e) p h g = (g.0, ap (renamed rename) g.1, g.2)

    placed_back : (i : ℕ) (u v : Point ℕ) → Present i u → IsPlaced cuts b i u v → (p : Point ℕ) × IsPlaced cuts a i u p × (renamed rename p ≡ v)
    placed_back i (Port x k) v h g = (Port (a i x) k, refl, ap (λ y. Port y k) (rename_at i x h) ∙ sym g)
    placed_back i (Free e) v h g = (Free g.0, (g.0, refl, g.2), sym g.1)

    links_forth : (p q : Point ℕ) → n.partner p ≡ Some q → (x y : ℕ × Point ℕ) × IsPlaced cuts b x.0 x.1 (renamed rename p) × IsPlaced cuts b y.0 y.1 (renamed rename q) × AreLinked parts cuts x y
    links_forth p q e =
        let r = (glued.wires p q).0 e in
        let first = path_first r.4.2.0 r.0 r.4.2.1 r.1 r.4.2.2 in
        let last = path_last r.4.2.0 r.0 r.4.2.1 r.1 r.4.2.2 in
        (r.0, r.1, placed_forth r.0.0 r.0.1 p first r.2, placed_forth r.1.0 r.1.1 q last r.3, r.4)

    links_back : (u v : Point ℕ) → (x y : ℕ × Point ℕ) × IsPlaced cuts b x.0 x.1 u × IsPlaced cuts b y.0 y.1 v × AreLinked parts cuts x y → (p q : Point ℕ) × (renamed rename p ≡ u) × (renamed rename q ≡ v) × (n.partner p ≡ Some q)
    links_back u v r =
        let first = path_first r.4.2.0 r.0 r.4.2.1 r.1 r.4.2.2 in
        let last = path_last r.4.2.0 r.0 r.4.2.1 r.1 r.4.2.2 in
        let p = placed_back r.0.0 r.0.1 u first r.2 in
        let q = placed_back r.1.0 r.1.1 v last r.3 in
        (p.0, q.0, p.2, q.2, (glued.wires p.0 q.0).1 (r.0, r.1, p.1, q.1, r.4))

    agents_forth : (y s : ℕ) → (i x : ℕ) × (b i x ≡ y) × ((parts i).symbol x ≡ Some s) → (z : ℕ) × (rename z ≡ y) × (n.symbol z ≡ Some s)
    agents_forth y s r = (a r.0 r.1, rename_at r.0 r.1 (is_some ((parts r.0).symbol r.1) s r.3) ∙ r.2, (glued.agents (a r.0 r.1) s).1 (r.0, r.1, refl, r.3))

    agents_back : (y s : ℕ) → (z : ℕ) × (rename z ≡ y) × (n.symbol z ≡ Some s) → (i x : ℕ) × (b i x ≡ y) × ((parts i).symbol x ≡ Some s)
    agents_back y s h =
        let r = (glued.agents h.0 s).0 h.2 in
        (r.0, r.1, sym (rename_at r.0 r.1 (is_some ((parts r.0).symbol r.1) s r.3)) ∙ ap rename r.2 ∙ h.1, r.3)

    -- .. so a net glued under the other names is a renamed one, and the other way round
    renamed_of_glued : KeepsApart parts b → (m : Net ℕ) → IsGlued parts b cuts m → IsRenamed rename n m
    renamed_of_glued apart_b m gm = record {
      apart = rename_apart apart_b;
      agents = λ y s. ((λ e. agents_forth y s ((gm.agents y s).0 e)), (λ h. (gm.agents y s).1 (agents_back y s h)));
      wires = λ u v. (
        (λ e. links_back u v ((gm.wires u v).0 e)),
        (λ h. ap m.partner (sym h.2) ∙ (gm.wires (renamed rename h.0) (renamed rename h.1)).1 (links_forth h.0 h.1 h.4) ∙ ap (λ q. Some q) h.3),
      );
      free = map_some m.free n.free (gm.free ∙ sym glued.free);
    }

    pub glued_of_renamed : (m : Net ℕ) → IsRenamed rename n m → IsGlued parts b cuts m
    glued_of_renamed m r = record {
      agents = λ y s. ((λ e. agents_back y s ((r.agents y s).0 e)), (λ h. (r.agents y s).1 (agents_forth y s h)));
      wires = λ u v. (
        (λ e. (
            let w = (r.wires u v).0 e in
            let l = links_forth w.0 w.1 w.4 in
            (l.0, l.1, subst (λ u. IsPlaced cuts b l.0.0 l.0.1 u) w.2 l.2, subst (λ v. IsPlaced cuts b l.1.0 l.1.1 v) w.3 l.3, l.4)
            )),
        (λ h. (r.wires u v).1 (links_back u v h)),
      );
      free = ap (λ ts. map (λ t. Some t) ts) r.free ∙ glued.free;
    }

pub glued_once : GluedOnce
glued_once sig parts cuts a b n m nets apart_a apart_b gn gm = (rename sig parts cuts nets a b apart_a n gn, renamed_of_glued sig parts cuts nets a b apart_a n gn apart_b m gm)
