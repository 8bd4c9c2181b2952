-- Properties of each sound net, reached or not; and parts of a sound net are sound.
use Rattle.std.proofs.Common.{◌≡◌, ◌≢◌, ◌⊎◌, ◌-◌, ℕ, Option, Some, None, IsSome, List, [], ◌∷◌, map, slice_get, refl, sym, subst, ap, inl, inr, ◌∙◌}
use native.Mathlib.Decide.{ℕ_discrete}
use Rattle.std.specs.List.{AllByRecursion}
use Rattle.in_base.specs.Graphs.{Passage, entered, left, LeadsThrough, IsCrossing, AreApart as NodesApart, CrossingCircle}
use Rattle.in_net.specs.Graphs.{class_of_symbol, graph_of}
use Rattle.in_net.specs.Interactions.{Redex, Outer}
use Rattle.in_net.specs.Nets.{Point, Port, Free, Net, IsPoint, IsNet}
use Rattle.in_interaction.proofs.Public.{same_option}
use Rattle.in_typing.specs.Typed.{opposite}
use Rattle.in_typing.specs.TypedNets.{type_in, IsTypedNet}
use Rattle.in_typing.proofs.Public.{opposite_twice}
use Rattle.in_check.specs.Runs.{IsPairWithRule, Reached, at_start, then_step}
use Rattle.in_check.specs.Systems.{System, IsSound}
use Rattle.in_check.proofs.Public.{renamed_self, each_promised, sound_reached}
use Rattle.in_gluing.specs.Gluing.{Cuts, IsJointEndAt, IsPlaced, AreAllApart, IsGlued, AreCuts}
use Rattle.in_order.specs.Laws.{from_net}
use Rattle.in_order.specs.PartRuns.{AreTypedAtCuts}
use Rattle.in_gluing.proofs.Public.{at_outer}
use Rattle.in_order.specs.GluingLaws.{PartsAreSound, SoundIsPromised, SoundSteps, SoundIsStart}

-- ---- a sound net as the initial one

pub sound_is_start : SoundIsStart
sound_is_start p n good h = record {
  classes = good.classes;
  start = record { net = h.net; within = h.within; typed = h.typed; no_circle = h.no_circle };
  rule = λ i r e. (
      let q = good.rule i r e in
      record { matching = q.matching; net = q.net; within = q.within; ends = q.ends; declared = q.declared; typed = q.typed; no_circle = q.no_circle }
      );
  covered = good.covered;
}

module _ (p : System) (s : Net ℕ) where
  pub with_start : (n : Net ℕ) (x : Redex ℕ ℕ) → IsPairWithRule p n x → IsPairWithRule (from_net p s) n x
  with_start n x at = record { one = at.one; two = at.two; active = at.active; rule = at.rule }

  without_start : (n : Net ℕ) (x : Redex ℕ ℕ) → IsPairWithRule (from_net p s) n x → IsPairWithRule p n x
  without_start n x at = record { one = at.one; two = at.two; active = at.active; rule = at.rule }

pub sound_is_promised : SoundIsPromised
sound_is_promised p n good h =
    let a = each_promised (from_net p n) (sound_is_start p n good h) 0 n (at_start (λ x. x) n (renamed_self n)) in
    record {
      typed = a.typed;
      one_rule = a.one_rule;
      no_circle = a.no_circle;
      interactions_end = λ x at. (
          let r = a.interactions_end x (with_start p n n x at) in
          (r.0, λ name naming. (let s = r.1 name naming in (s.0, record { at = at; step = s.1.step })))
          );
      leads_on = a.leads_on;
      written_whole = record { agents = a.written_whole.agents; queue = a.written_whole.queue; holds = a.written_whole.holds };
    }

pub sound_steps : SoundSteps
sound_steps p n x name after good h act =
    let from : Reached (from_net p n) 0 n = at_start (λ x. x) n (renamed_self n) in
    let r = sound_reached (from_net p n) (sound_is_start p n good h) ℕ_discrete 1 after (then_step 0 n x name after from (record { at = with_start p n n x act.at; step = act.step })) in
    record { net = r.net; within = r.within; typed = r.typed; no_circle = r.no_circle }

-- ---- parts of a sound net

none_of : {X : Type 0} (o : Option X) → (IsSome o → ⊥) → o ≡ None
none_of None h = refl
none_of (Some x) h = absurd (h refl)

some_or : {X : Type 0} (o : Option X) → IsSome o ⊎ (IsSome o → ⊥)
some_or None = inr (λ h. cc)
some_or (Some x) = inl refl

module _ (p : System) (parts : ℕ → Net ℕ) (name : ℕ → ℕ → ℕ) (cuts : Cuts) (whole : Net ℕ) (apart : AreAllApart name) (glued : IsGlued parts name cuts whole) (cutting : AreCuts parts cuts) (i : ℕ) where
  same_symbol : (x : ℕ) → whole.symbol (name i x) ≡ (parts i).symbol x
  same_symbol x =
      same_option (whole.symbol (name i x)) ((parts i).symbol x)
      (λ s e. (
      let r = (glued.agents (name i x) s).0 e in
      let n = apart r.0 i r.1 x r.2 in
      subst (λ j. (parts j).symbol x ≡ Some s) n.0 (ap (λ a. (parts r.0).symbol a) (sym n.1) ∙ r.3)
      ))
      (λ s e. (glued.agents (name i x) s).1 (i, x, refl, e))

  is_cut : (u : Point ℕ) → IsJointEndAt cuts i u ⊎ (IsJointEndAt cuts i u → ⊥)
  is_cut (Port x k) = inr (λ h. h)
  is_cut (Free e) = some_or (cuts.across (i, e))

  -- a point that isn't joined is in the whole, with its type
  placed : (u : Point ℕ) → IsPoint p.symbols (parts i) u → (IsJointEndAt cuts i u → ⊥) → (v : Point ℕ) × IsPlaced cuts name i u v × (type_in p.symbols whole v ≡ type_in p.symbols (parts i) u)
  placed (Port x k) h c = (Port (name i x) k, refl, ap (λ o. elim o [ None ↦ None | Some s ↦ Some (p.symbols.type_of s k) ]) (same_symbol x))
  placed (Free e) h c =
      let k = cutting.all i e (none_of (cuts.across (i, e)) c) h in
      let kind : slice_get whole.free k.0 ≡ slice_get (parts i).free e = at_outer whole.free cuts.outer (λ q. slice_get (parts q.0).free q.1) glued.free k.0 (i, e) k.1 in
      (Free k.0, (k.0, refl, k.1), ap (λ o. elim o [ None ↦ None | Some t ↦ Some (opposite t) ]) kind)

  wire_placed : (u v : Point ℕ) (a b : Point ℕ) → (IsJointEndAt cuts i u → ⊥) → (IsJointEndAt cuts i v → ⊥) → IsPlaced cuts name i u a → IsPlaced cuts name i v b → (parts i).partner u ≡ Some v → whole.partner a ≡ Some b
  wire_placed u v a b cu cv pa pb e = (glued.wires a b).1 ((i, u), (i, v), pa, pb, (cu, cv, (Outer, [], (refl, e))))

  typed_part : IsNet p.symbols (parts i) → AreTypedAtCuts p.symbols parts cuts → IsTypedNet p.symbols whole → IsTypedNet p.symbols (parts i)
  typed_part net at_cuts typed u v s t e hs ht = go (is_cut u) (is_cut v)
    where
      go : IsJointEndAt cuts i u ⊎ (IsJointEndAt cuts i u → ⊥) → IsJointEndAt cuts i v ⊎ (IsJointEndAt cuts i v → ⊥) → t ≡ opposite s
      go (inl c) d = at_cuts i u v s t c e hs ht
      go (inr c) (inl d) =
          let r : s ≡ opposite t = at_cuts i v u t s d (net.back u v e) ht hs in
          sym (opposite_twice t) ∙ ap opposite (sym r)
      go (inr c) (inr d) =
          let a = placed u (net.points u v e) c in
          let b = placed v (net.points v u (net.back u v e)) d in
          typed a.0 b.0 s t (wire_placed u v a.0 b.0 c d a.1 b.1 e) (a.2 ∙ hs) (b.2 ∙ ht)

  -- ---- circles

  abbrev moved : Passage ℕ → Passage ℕ
  moved q = record { node = name i q.node; enter = q.enter; leave = q.leave }

  leads : (from to : ℕ × ℕ) (ps : List (Passage ℕ)) → LeadsThrough (graph_of p.symbols (parts i)) from ps to → LeadsThrough (graph_of p.symbols whole) (name i from.0, from.1) (map moved ps) (name i to.0, to.1)
  leads from to [] w = wire_placed (Port from.0 from.1) (Port to.0 to.1) (Port (name i from.0) from.1) (Port (name i to.0) to.1) (λ h. h) (λ h. h) refl refl w
  leads from to (q ∷ qs) w = (
    wire_placed (Port from.0 from.1) (Port q.node q.enter) (Port (name i from.0) from.1) (Port (name i q.node) q.enter) (λ h. h) (λ h. h) refl refl w.0,
    leads (left q) to qs w.1,
  )

  crossing : (ps : List (Passage ℕ)) → AllByRecursion (IsCrossing (graph_of p.symbols (parts i))) ps → AllByRecursion (IsCrossing (graph_of p.symbols whole)) (map moved ps)
  crossing [] h = tt
  crossing (q ∷ qs) h = (
    (λ e. h.0 (ap (λ o. class_of_symbol p.symbols o q.enter) (sym (same_symbol q.node)) ∙ e ∙ ap (λ o. class_of_symbol p.symbols o q.leave) (same_symbol q.node))),
    crossing qs h.1,
  )

  apart_one : (q : Passage ℕ) (ps : List (Passage ℕ)) → AllByRecursion (λ r. q.node ≢ r.node) ps → AllByRecursion (λ r. name i q.node ≢ r.node) (map moved ps)
  apart_one q [] h = tt
  apart_one q (r ∷ rs) h = ((λ e. h.0 (apart i i q.node r.node e).1), apart_one q rs h.1)

  apart_all : (ps : List (Passage ℕ)) → NodesApart ps → NodesApart (map moved ps)
  apart_all [] h = tt
  apart_all (q ∷ qs) h = (apart_one q qs h.0, apart_all qs h.1)

  circle : CrossingCircle (graph_of p.symbols (parts i)) → CrossingCircle (graph_of p.symbols whole)
  circle c = record {
    first = moved c.first;
    rest = map moved c.rest;
    closed = leads (left c.first) (entered c.first) c.rest c.closed;
    crossing = crossing (c.first ∷ c.rest) c.crossing;
    apart = apart_all (c.first ∷ c.rest) c.apart;
  }

  sound_part : AreTypedAtCuts p.symbols parts cuts → IsSound p whole → IsNet p.symbols (parts i) → IsSound p (parts i)
  sound_part at_cuts h net = record {
    net = net;
    within = λ x s e. h.within (name i x) s (same_symbol x ∙ e);
    typed = typed_part net at_cuts h.typed;
    no_circle = λ c. h.no_circle (circle c);
  }

pub parts_are_sound : PartsAreSound
parts_are_sound p parts name cuts whole apart glued cutting at_cuts h i net = sound_part p parts name cuts whole apart glued cutting i at_cuts h net
