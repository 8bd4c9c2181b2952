-- After an interaction each point has a partner.
use Rattle.std.proofs.Common.{◌≡◌, ◌≤◌, ◌<◌, ℕ, Option, Some, None, IsSome, IsSomeAnd, length, refl, sym, subst, inl, inr}
use mathlib.Core.HLevel.{Discrete}
use Rattle.in_net.specs.Nets.{Point, Port, Free, Signature, Net, IsPoint, IsNet}
use Rattle.in_net.specs.Interactions.{Redex, IsRedex, IsOfPair, AreJoined, IsStep}
use Rattle.in_interaction.proofs.Interactions.Alternating.{has_value}
use Rattle.in_interaction.proofs.Interactions.PathEnds.{joined_outer, joined_inner}

pub each_joined : {A B : Type 0} (sig : Signature) (n : Net A) (x : Redex A B) (name : B → A) (after : Net A) → IsNet sig n → IsNet sig x.member → IsRedex sig n x → IsStep sig n x name after → Discrete A → (u : Point A) → IsPoint sig after u → IsSome (after.partner u)
each_joined {A} {B} sig n x name after net inside redex step same u h = go u h
  where
    given : (u : Point A) → (v : Point A) × AreJoined sig n x name u v → IsSome (after.partner u)
    given u j = subst IsSome (sym ((step.wires u j.0).1 j.1)) refl

    old : (u : Point A) → (IsOfPair x u → ⊥) → IsPoint sig n u → IsSome (after.partner u)
    old u np h =
        let f = has_value (n.partner u) (net.joined u h) in
        given u (joined_outer sig n x name net inside redex step.naming same u f.0 np f.1)

    there : (y : A) (i : ℕ) (o : Option ℕ) → after.symbol y ≡ o → IsSomeAnd o (λ s. i ≤ sig.arity s) → (s : ℕ) × (after.symbol y ≡ Some s) × (i ≤ sig.arity s)
    there y i None e h = absurd h
    there y i (Some s) e h = (s, e, h)

    go : (u : Point A) → IsPoint sig after u → IsSome (after.partner u)
    go (Free k) h = old (Free k) (λ e. e) (subst (λ ts. k < length ts) step.free h)
    go (Port y i) h =
        let s = there y i (after.symbol y) refl h in
        elim ((step.agents y s.0).0 s.1) [
          | inl r ↦ old (Port y i) (λ e. elim e [ inl a ↦ r.0 a | inr b ↦ r.1 b ]) (subst (λ o. IsSomeAnd o (λ s. i ≤ sig.arity s)) (sym r.2) s.2)
          | inr r ↦
              let point : IsPoint sig x.member (Port r.0 i) = subst (λ o. IsSomeAnd o (λ s. i ≤ sig.arity s)) (sym r.2) s.2 in
              let q = has_value (x.member.partner (Port r.0 i)) (inside.joined (Port r.0 i) point) in
              subst (λ y. IsSome (after.partner (Port y i))) r.1 (given (Port (name r.0) i) (joined_inner sig n x name net inside redex step.naming same r.0 i q.0 q.1))
        ]
