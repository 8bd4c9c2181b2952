-- A net and the same net under other names.
use Rattle.std.proofs.Common.{◌≡◌, ◌≤◌, ◌<◌, ℕ, Option, Some, None, IsSome, IsSomeAnd, List, [], ◌∷◌, map, length, slice_get, refl, sym, subst, ap, ◌∙◌}
use mathlib.Core.HLevel.{Discrete}
use Rattle.in_base.proofs.Among.{in_map}
use Rattle.in_base.proofs.Places.{is_some}
use Rattle.in_typing.proofs.Public.{port_type}
use Rattle.in_base.specs.Graphs.{Passage, entered, CrossingCircle}
use Rattle.in_net.specs.Graphs.{class_of_symbol, graph_of}
use Rattle.in_net.specs.Nets.{Point, Port, Free, Signature, Net, IsPoint, IsNet}
use Rattle.in_base.specs.Lists.{IsAmong}
use Rattle.in_typing.specs.Typed.{opposite}
use Rattle.in_typing.specs.TypedNets.{type_in, IsTypedNet}
use Rattle.in_interaction.proofs.Public.{has_value}
use Rattle.in_net.proofs.Public.{symbol_of, port_agent, port_place}
use Rattle.in_base.proofs.Circuits.{Walk, Circuit, IsEntered, IsLeft, crossings_separate, circuit_of, shorten}
use Rattle.in_check.specs.Systems.{HasSymbolsBelow}
use Rattle.in_check.specs.Runs.{renamed, IsRenamed}

module _ {A B : Type 0} (sig : Signature) (f : A → B) (n : Net A) (m : Net B) (net : IsNet sig n) (r : IsRenamed f n m) where
  pub symbol_kept : (x : A) (s : ℕ) → n.symbol x ≡ Some s → m.symbol (f x) ≡ Some s
  symbol_kept x s e = (r.agents (f x) s).1 (x, refl, e)

  pub wire_kept : (p q : Point A) → n.partner p ≡ Some q → m.partner (renamed f p) ≡ Some (renamed f q)
  wire_kept p q e = (r.wires (renamed f p) (renamed f q)).1 (p, q, refl, refl, e)

  pub live : (x : A) (i : ℕ) → IsPoint sig n (Port x i) → IsSome (n.symbol x)
  live x i h = let s = symbol_of sig (n.symbol x) i h in is_some (n.symbol x) s.0 s.1

  pub one_point : (p q : Point A) → IsPoint sig n p → IsPoint sig n q → renamed f p ≡ renamed f q → p ≡ q
  one_point (Port x i) (Port y j) h g e =
      let same : x ≡ y = r.apart x y (live x i h) (live y j g) (port_agent (f x) (f y) i j e) in
      let place : i ≡ j = port_place (f x) (f y) i j e in
      cc
  one_point (Port x i) (Free k) h g e = cc
  one_point (Free k) (Port x i) h g e = cc
  one_point (Free j) (Free k) h g e = let same : j ≡ k = cc in ap (λ k. Free k) same

  -- the wire of a point is that of its name
  pub wire_from : (p : Point A) (v : Point B) → IsPoint sig n p → m.partner (renamed f p) ≡ Some v → (q : Point A) × (renamed f q ≡ v) × (n.partner p ≡ Some q)
  wire_from p v h e =
      let w = (r.wires (renamed f p) v).0 e in
      let same : w.0 ≡ p = one_point w.0 p (net.points w.0 w.1 w.4) h w.2 in
      (w.1, w.3, ap n.partner (sym same) ∙ w.4)

  -- each point has a name's point
  pub point_of : (u : Point B) → IsPoint sig m u → (p : Point A) × (renamed f p ≡ u) × IsPoint sig n p
  point_of (Free k) h = (Free k, refl, subst (λ ts. k < length ts) r.free h)
  point_of (Port y i) h = go (m.symbol y) refl h
    where
      go : (o : Option ℕ) → m.symbol y ≡ o → IsSomeAnd o (λ s. i ≤ sig.arity s) → (p : Point A) × (renamed f p ≡ Port y i) × IsPoint sig n p
      go None e h = absurd h
      go (Some s) e h =
          let x = (r.agents y s).0 e in
          (Port x.0 i, ap (λ y. Port y i) x.1, subst (λ o. IsSomeAnd o (λ s. i ≤ sig.arity s)) (sym x.2) h)

  pub point_kept : (p : Point A) → IsPoint sig n p → IsPoint sig m (renamed f p)
  point_kept (Free k) h = subst (λ ts. k < length ts) (sym r.free) h
  point_kept (Port x i) h =
      let s = symbol_of sig (n.symbol x) i h in
      let h' : IsSomeAnd (Some s.0) (λ s. i ≤ sig.arity s) = subst (λ o. IsSomeAnd o (λ s. i ≤ sig.arity s)) s.1 h in
      subst (λ o. IsSomeAnd o (λ s. i ≤ sig.arity s)) (sym (symbol_kept x s.0 s.1)) h'

  pub net_renamed : IsNet sig m
  net_renamed = record {
    agents = map f net.agents;
    all = λ y h. (
        let s = has_value (m.symbol y) h in
        let x = (r.agents y s.0).0 s.1 in
        subst (λ y. IsAmong y (map f net.agents)) x.1 (in_map f net.agents x.0 (net.all x.0 (is_some (n.symbol x.0) s.0 x.2)))
        );
    joined = λ u h. (
        let p = point_of u h in
        let q = has_value (n.partner p.0) (net.joined p.0 p.2) in
        is_some (m.partner u) (renamed f q.0) (ap m.partner (sym p.1) ∙ wire_kept p.0 q.0 q.1)
        );
    points = λ u v e. (
        let w = (r.wires u v).0 e in
        subst (IsPoint sig m) w.2 (point_kept w.0 (net.points w.0 w.1 w.4))
        );
    back = λ u v e. (
        let w = (r.wires u v).0 e in
        (r.wires v u).1 (w.1, w.0, w.3, w.2, net.back w.0 w.1 w.4)
        );
    apart = λ u e. (
        let w = (r.wires u u).0 e in
        let same : w.0 ≡ w.1 = one_point w.0 w.1 (net.points w.0 w.1 w.4) (net.points w.1 w.0 (net.back w.0 w.1 w.4)) (w.2 ∙ sym w.3) in
        net.apart w.0 (w.4 ∙ ap (λ q. Some q) (sym same))
        );
  }

  pub below_renamed : (k : ℕ) → HasSymbolsBelow k n → HasSymbolsBelow k m
  below_renamed k h y s e = let x = (r.agents y s).0 e in h x.0 s x.2

  type_kept : (p : Point A) → IsPoint sig n p → type_in sig m (renamed f p) ≡ type_in sig n p
  type_kept (Free k) h = ap (λ ts. elim (slice_get ts k) [ None ↦ None | Some t ↦ Some (opposite t) ]) r.free
  type_kept (Port x i) h =
      let s = symbol_of sig (n.symbol x) i h in
      port_type sig m (f x) i s.0 (symbol_kept x s.0 s.1) ∙ sym (port_type sig n x i s.0 s.1)

  pub typed_renamed : IsTypedNet sig n → IsTypedNet sig m
  typed_renamed typed u v s t e hs ht =
      let w = (r.wires u v).0 e in
      typed w.0 w.1 s t w.4
      (sym (type_kept w.0 (net.points w.0 w.1 w.4)) ∙ ap (type_in sig m) w.2 ∙ hs)
      (sym (type_kept w.1 (net.points w.1 w.0 (net.back w.0 w.1 w.4))) ∙ ap (type_in sig m) w.3 ∙ ht)

  module _ (E L : B × ℕ → Type 0) where
    abbrev E' : A × ℕ → Type 0
    E' v = E (f v.0, v.1) × IsSome (n.symbol v.0)

    abbrev L' : A × ℕ → Type 0
    L' v = L (f v.0, v.1)

    wire_at : (a : A) (i : ℕ) (y : B) (j : ℕ) → IsSome (n.symbol a) → m.partner (Port (f a) i) ≡ Some (Port y j) → (b : A) × (f b ≡ y) × (n.partner (Port a i) ≡ Some (Port b j)) × IsSome (n.symbol b)
    wire_at a i y j h e = go w.0 w.1 w.2 w.3 w.4
      where
        w : (p q : Point A) × (renamed f p ≡ Port (f a) i) × (renamed f q ≡ Port y j) × (n.partner p ≡ Some q)
        w = (r.wires (Port (f a) i) (Port y j)).0 e

        go : (p q : Point A) → renamed f p ≡ Port (f a) i → renamed f q ≡ Port y j → n.partner p ≡ Some q → (b : A) × (f b ≡ y) × (n.partner (Port a i) ≡ Some (Port b j)) × IsSome (n.symbol b)
        go (Free k) q e1 e2 e3 = cc
        go p (Free k) e1 e2 e3 = cc
        go (Port c k) (Port b l) e1 e2 e3 =
            let pc = net.points (Port c k) (Port b l) e3 in
            let pb = net.points (Port b l) (Port c k) (net.back (Port c k) (Port b l) e3) in
            let c_a : c ≡ a = r.apart c a (live c k pc) h (port_agent (f c) (f a) k i e1) in
            let k_i : k ≡ i = port_place (f c) (f a) k i e1 in
            let b_y : f b ≡ y = port_agent (f b) y l j e2 in
            let l_j : l ≡ j = port_place (f b) y l j e2 in
            (b, b_y, (let g : n.partner (Port c k) ≡ Some (Port b l) = e3 in cc), live b l pb)

    lift : (a : A) (i : ℕ) (ps : List (Passage B)) (to : B × ℕ) → IsSome (n.symbol a) → Walk (graph_of sig m) E L (f a, i) ps to → (qs : List (Passage A)) × (b : A) × (f b ≡ to.0) × IsSome (n.symbol b) × Walk (graph_of sig n) E' L' (a, i) qs (b, to.1)
    lift a i [] to h w = let b = wire_at a i to.0 to.1 h w in ([], b.0, b.1, b.3, b.2)
    lift a i (p ∷ ps) to h w =
        let b = wire_at a i p.node p.enter h w.0 in
        let rest = lift b.0 p.leave ps to b.3 (subst (λ y. Walk (graph_of sig m) E L (y, p.leave) ps to) (sym b.1) w.3) in (
          record { node = b.0; enter = p.enter; leave = p.leave } ∷ rest.0,
          rest.1,
          rest.2,
          rest.3,
          (b.2, (subst (λ y. E (y, p.enter)) (sym b.1) w.1, b.3), subst (λ y. L (y, p.leave)) (sym b.1) w.2, rest.4),
        )

    some_there : (y : B) (i : ℕ) (v : Point B) → m.partner (Port y i) ≡ Some v → IsSome (m.symbol y)
    some_there y i v e = let s = symbol_of sig (m.symbol y) i (net_renamed.points (Port y i) v e) in is_some (m.symbol y) s.0 s.1

    first_node : (y : B) (i : ℕ) (ps : List (Passage B)) (to : B × ℕ) → Walk (graph_of sig m) E L (y, i) ps to → IsSome (m.symbol y)
    first_node y i [] to w = some_there y i (Port to.0 to.1) w
    first_node y i (p ∷ ps) to w = some_there y i (Port p.node p.enter) w.0

    lift_circuit : Circuit (graph_of sig m) E L → Circuit (graph_of sig n) E' L'
    lift_circuit c =
        let p = c.first in
        let s = has_value (m.symbol p.node) (first_node p.node p.leave c.rest (entered p) c.closed) in
        let a = (r.agents p.node s.0).0 s.1 in
        let h = is_some (n.symbol a.0) s.0 a.2 in
        let w = lift a.0 p.leave c.rest (entered p) h (subst (λ y. Walk (graph_of sig m) E L (y, p.leave) c.rest (entered p)) (sym a.1) c.closed) in
        let same : w.1 ≡ a.0 = r.apart w.1 a.0 w.3 h (w.2 ∙ sym a.1) in
        record {
          first = record { node = a.0; enter = p.enter; leave = p.leave };
          rest = w.0;
          enters = (subst (λ y. E (y, p.enter)) (sym a.1) c.enters, h);
          leaves = subst (λ y. L (y, p.leave)) (sym a.1) c.leaves;
          closed = subst (λ b. Walk (graph_of sig n) E' L' (a.0, p.leave) w.0 (b, p.enter)) same w.4;
        }

  pub circle_renamed : Discrete A → CrossingCircle (graph_of sig m) → CrossingCircle (graph_of sig n)
  circle_renamed same c =
      let ps = c.first ∷ c.rest in
      let E : B × ℕ → Type 0 = IsEntered ps in
      let L : B × ℕ → Type 0 = IsLeft ps in
      shorten (graph_of sig n) (E' E L) (L' E L) same (λ a i j e l h. (
      let s = has_value (n.symbol a) e.1 in
      let kept : m.symbol (f a) ≡ n.symbol a = symbol_kept a s.0 s.1 ∙ sym s.1 in
      crossings_separate (graph_of sig m) ps c.crossing c.apart (f a) i j e.0 l (ap (λ o. class_of_symbol sig o i) kept ∙ h ∙ ap (λ o. class_of_symbol sig o j) (sym kept))
      )) (lift_circuit E L (circuit_of (graph_of sig m) c))
