-- Gluing begins at parts side by side, and ends at the glued net.
use Rattle.std.proofs.Common.{◌≡◌, ℕ, Some, None, List, [], ◌∷◌, slice_get, refl, sym, subst, ap, ◌∙◌}
use Rattle.in_net.specs.Interactions.{Side, Outer, Inner, Alternates}
use Rattle.in_net.specs.Nets.{Point, Port, Free, Net}
use Rattle.in_interaction.proofs.Public.{has_value}
use Rattle.in_gluing.specs.Gluing.{Cuts, IsJointEndAt, IsJointEnd, glue_wire, IsPlaced, IsGlued}
use Rattle.in_gluing.specs.Joining.{HasOwnNumber, IsAtNumber, IsJoinedBy, IsBeside, BesideJoinsNone, IsRenumbered, Renumbers, AllJoinedIsGlued}
use Rattle.in_gluing.proofs.Joining.{UsedAt, used_first, used_last}
use Rattle.in_gluing.proofs.Points.{none_some}

module _ (parts : ℕ → Net ℕ) (name : ℕ → ℕ → ℕ) (number : ℕ × ℕ → ℕ) (cuts : Cuts) (m : Net ℕ) where
  module _ (none : (p : ℕ × ℕ) → cuts.across p ≡ None) (beside : IsBeside parts name number m) where
    no_cut : (i : ℕ) (u : Point ℕ) → IsJointEndAt cuts i u → ⊥
    no_cut i (Port x k) h = h
    no_cut i (Free e) h = let r = has_value (cuts.across (i, e)) h in none_some (cuts.across (i, e)) r.0 (none (i, e)) r.1

    single : (p q : ℕ × Point ℕ) (s : Side) (es : List (ℕ × Point ℕ)) → Alternates (glue_wire parts cuts) (IsJointEnd cuts) s p es q → glue_wire parts cuts Outer p q
    single p q Outer [] w = w
    single p q Inner [] w = absurd (none_some (cuts.across (p.0, w.0)) (q.0, w.1) (none (p.0, w.0)) w.4)
    single p q s (e ∷ es) w = absurd (no_cut e.0 e.1 w.1)

    joined : IsJoinedBy parts name number cuts m
    joined = record {
      agents = beside.agents;
      wires = λ u v. (
        (λ e. (
            let r = (beside.wires u v).0 e in
            ((r.0, r.1), (r.0, r.2), r.3, r.4, (no_cut r.0 r.1, no_cut r.0 r.2, (Outer, [], (refl, r.5))))
            )),
        (λ r. (
            let w = single r.0 r.1 r.4.2.0 r.4.2.1 r.4.2.2 in
            (beside.wires u v).1 (r.0.0, r.0.1, r.1.1, r.2, subst (λ j. IsAtNumber number name j r.1.1 v) (sym w.0) r.3, w.1)
            )),
      );
    }

  module _ (own : (k : ℕ) (p : ℕ × ℕ) → slice_get cuts.outer k ≡ Some p → HasOwnNumber parts cuts number p) (by : IsJoinedBy parts name number cuts m) (w : Net ℕ) (renumbers : Renumbers parts number cuts m w) where
    -- the place of a part's point at the end
    placed : (i : ℕ) (p x u : Point ℕ) → UsedAt parts cuts (i, p) → IsAtNumber number name i p x → IsRenumbered number cuts.outer x u → IsPlaced cuts name i p u
    placed i (Port y k) x u used h r = subst (λ z. IsRenumbered number cuts.outer z u) h r
    placed i (Free e) x u used h r = go (subst (λ z. IsRenumbered number cuts.outer z u) h r)
      where
        go : (k : ℕ) × (p : ℕ × ℕ) × (u ≡ Free k) × (slice_get cuts.outer k ≡ Some p) × (number p ≡ number (i, e)) → (k : ℕ) × (u ≡ Free k) × (slice_get cuts.outer k ≡ Some (i, e))
        go r = (r.0, r.2, r.3 ∙ ap (λ p. Some p) (sym (own r.0 r.1 r.3 (i, e) (used e refl) (sym r.4))))

    numbered : (i : ℕ) (p u : Point ℕ) → IsPlaced cuts name i p u → (x : Point ℕ) × IsAtNumber number name i p x × IsRenumbered number cuts.outer x u
    numbered i (Port y k) u h = (Port (name i y) k, refl, h)
    numbered i (Free e) u h = (Free (number (i, e)), refl, (h.0, (i, e), h.1, h.2, refl))

    glued : IsGlued parts name cuts w
    glued = record {
      agents = λ y s. ((λ e. (by.agents y s).0 ((renumbers.agents y s).0 e)), (λ h. (renumbers.agents y s).1 ((by.agents y s).1 h)));
      wires = λ u v. (
        (λ e. (
            let r = (renumbers.wires u v).0 e in
            let l = (by.wires r.0 r.1).0 r.4 in
            (l.0, l.1, placed l.0.0 l.0.1 r.0 u (used_first parts cuts l.4.2.0 l.0 l.4.2.1 l.1 l.4.2.2 l.4.0) l.2 r.2, placed l.1.0 l.1.1 r.1 v (used_last parts cuts l.4.2.0 l.0 l.4.2.1 l.1 l.4.2.2) l.3 r.3, l.4)
            )),
        (λ l. (
            let a = numbered l.0.0 l.0.1 u l.2 in
            let b = numbered l.1.0 l.1.1 v l.3 in
            (renumbers.wires u v).1 (a.0, b.0, a.2, b.2, (by.wires a.0 b.0).1 (l.0, l.1, a.1, b.1, l.4))
            )),
      );
      free = renumbers.free;
    }

pub beside_joins_none : BesideJoinsNone
beside_joins_none parts name number cuts m none beside = joined parts name number cuts m none beside

pub all_joined_is_glued : AllJoinedIsGlued
all_joined_is_glued parts name number cuts m w own by renumbers = glued parts name number cuts m own by w renumbers
