-- Nets side by side are sound exactly if the net of both is.
use Rattle.std.proofs.Common.{◌≡◌, ◌≢◌, ◌<◌, ◌≤◌, ℕ, zero, suc, Option, Some, None, IsSome, IsSomeAnd, List, [], ◌∷◌, ◌++◌, map, length, slice_get, refl, sym, subst, ap, ◌∙◌, arith}
use Rattle.std.specs.List.{AllByRecursion}
use Rattle.in_symbols.specs.declared.symbols.PortType.{PortType}
use Rattle.in_base.specs.Graphs.{Passage, entered, left, IsCrossing, AreApart as NodesApart, CrossingCircle}
use Rattle.in_base.specs.Graphs as graphs
use Rattle.in_base.specs.Lists.{IsAmong}
use Rattle.in_base.proofs.Among.{among_left, among_right, in_map}
use Rattle.in_net.specs.Graphs.{class_of_symbol, graph_of}
use Rattle.in_net.specs.Nets.{Point, Port, Free, Net, IsPoint, IsNet}
use Rattle.in_net.proofs.Public.{symbol_of, port_agent, port_place}
use Rattle.in_interaction.proofs.Public.{has_value}
use Rattle.in_typing.specs.Typed.{opposite}
use Rattle.in_typing.specs.TypedNets.{type_in, IsTypedNet}
use Rattle.in_typing.proofs.Public.{port_type}
use Rattle.in_base.proofs.Places.{is_some}
use Rattle.in_check.specs.Systems.{System, IsSound}
use Rattle.in_gluing.specs.AsGluing.{old_and_new, two_parts}
use Rattle.in_gluing.specs.Gluing.{IsJointEndAt, AreCuts}
use Rattle.in_order.proofs.Gluing.Names.{parts_are_sound_by_names}
use Rattle.in_gluing.proofs.Public.{point_there, image, is_image, wire_kept, symbol_kept, end_type, end_there, many_ends, point_kept, one_point}
use Rattle.in_gluing.specs.SideBySide.{StandBeside}
use Rattle.in_order.specs.Leading.{BesidePartsAreSound, BesideSoundIsSound}
use Rattle.in_order.proofs.Parts.CutOnce.{loose, stand_glued}
use Rattle.in_order.proofs.Parts.Leading.{empty_sound}

module _ (one two m : Net ℕ) (name : ℕ → ℕ) (ends : List (ℕ × ℕ)) (h : StandBeside one two name ends m) where
  abbrev both : ℕ → Net ℕ
  both = two_parts one two

  abbrev in_whole : ℕ → ℕ → ℕ
  in_whole = old_and_new name

  module _ (p : System) where
    -- ---- the parts of a sound net

    module _ (net_one : IsNet p.symbols one) (net_two : IsNet p.symbols two) where
      net_of_part : (i : ℕ) → IsNet p.symbols (both i)
      net_of_part zero = net_one
      net_of_part (suc zero) = net_two
      net_of_part (suc (suc i)) = (empty_sound p).net

      no_end : (i : ℕ) (u : Point ℕ) → IsJointEndAt (loose p.symbols one two name ends m net_one net_two h) i u → ⊥
      no_end i (Port x k) e = e
      no_end i (Free k) e = cc

      are_cuts : AreCuts both (loose p.symbols one two name ends m net_one net_two h)
      are_cuts = record {
        back = λ a b e. cc;
        apart = λ a e. cc;
        within = λ i e s. cc;
        opposite_types = λ i e j f s t a. cc;
        stay = λ k i e at. (refl, end_there one two m name ends h k (i, e) at);
        once = λ k l q a b. sym (h.numbered k q a) ∙ h.numbered l q b;
        all = λ i e none low. (h.number (i, e), h.all i e low);
      }

      parts_sound : IsSound p m → IsSound p one × IsSound p two
      parts_sound sound =
          let each = parts_are_sound_by_names p both in_whole (loose p.symbols one two name ends m net_one net_two h) m h.apart (stand_glued p.symbols one two name ends m net_one net_two h) are_cuts
          (λ i u v s t c. absurd (no_end i u c)) net_of_part sound in
          (each 0, each 1)

    -- ---- the net of sound parts

    module _ (sound_one : IsSound p one) (sound_two : IsSound p two) where
      sound_part : (i : ℕ) → IsSound p (both i)
      sound_part zero = sound_one
      sound_part (suc zero) = sound_two
      sound_part (suc (suc i)) = empty_sound p

      abbrev Whose : Point ℕ → Type 0
      Whose u = (i : ℕ) × (q : Point ℕ) × (image one two m name ends h i q ≡ u) × IsPoint p.symbols (both i) q

      whose : (u : Point ℕ) → IsPoint p.symbols m u → Whose u
      whose (Port y k) g =
          let s = symbol_of p.symbols (m.symbol y) k g in
          let a = (h.beside.agents y s.0).0 s.1 in (
            a.0,
            Port a.1 k,
            ap (λ (z : ℕ). Port z k) a.2,
            subst (λ (o : Option ℕ). IsSomeAnd o (λ s. k ≤ p.symbols.arity s)) (s.1 ∙ sym a.3) g,
          )
      whose (Free k) g = go (slice_get ends k) refl
        where
          go : (o : Option (ℕ × ℕ)) → slice_get ends k ≡ o → Whose (Free k)
          go None e = absurd (outside ends k (let f = many_ends one two m name ends h in let l : k < length m.free = g in omega (arith, f, l)) e)
            where
              outside : (qs : List (ℕ × ℕ)) (k : ℕ) → k < length qs → slice_get qs k ≡ None → ⊥
              outside [] k l e = omega (arith, l)
              outside (q ∷ qs) zero l e = cc
              outside (q ∷ qs) (suc k) l e = outside qs k (omega (arith, l)) e
          go (Some q) e = (q.0, Free q.1, ap (λ (z : ℕ). Free z) (h.numbered k q e), end_there one two m name ends h k q e)

      abbrev one_agents : List ℕ
      one_agents = sound_one.net.agents

      abbrev two_agents : List ℕ
      two_agents = sound_two.net.agents

      all_among : (y : ℕ) → IsSome (m.symbol y) → IsAmong y (one_agents ++ map name two_agents)
      all_among y g = go (has_value (m.symbol y) g)
        where
          go : ((s : ℕ) × (m.symbol y ≡ Some s)) → IsAmong y (one_agents ++ map name two_agents)
          go s = among ((h.beside.agents y s.0).0 s.1)
            where
              among : ((i : ℕ) × (x : ℕ) × (in_whole i x ≡ y) × ((both i).symbol x ≡ Some s.0)) → IsAmong y (one_agents ++ map name two_agents)
              among (zero, x, e, f) = among_left y one_agents (map name two_agents) (subst (λ (z : ℕ). IsAmong z one_agents) e (sound_one.net.all x (is_some (one.symbol x) s.0 f)))
              among (suc zero, x, e, f) =
                  among_right y one_agents (map name two_agents)
                  (subst (λ (z : ℕ). IsAmong z (map name two_agents)) e (in_map name two_agents x (sound_two.net.all x (is_some (two.symbol x) s.0 f))))
              among (suc (suc i), x, e, f) = cc

      whole_net : IsNet p.symbols m
      whole_net = record {
        agents = one_agents ++ map name two_agents;
        all = all_among;
        joined = λ u g. (
            let w = whose u g in
            let r = has_value ((both w.0).partner w.1) ((sound_part w.0).net.joined w.1 w.3) in
            is_some (m.partner u) (image one two m name ends h w.0 r.0) (ap m.partner (sym w.2) ∙ wire_kept one two m name ends h w.0 w.1 r.0 r.1)
            );
        points = λ u v e. (
            let w = (h.beside.wires u v).0 e in
            subst (IsPoint p.symbols m) (sym (is_image one two m name ends h w.0 w.1 u w.3)) (point_kept one two m name ends h p.symbols w.0 w.1 ((sound_part w.0).net.points w.1 w.2 w.5))
            );
        back = λ u v e. (
            let w = (h.beside.wires u v).0 e in
            (h.beside.wires v u).1 (w.0, w.2, w.1, w.4, w.3, (sound_part w.0).net.back w.1 w.2 w.5)
            );
        apart = λ u e. (
            let w = (h.beside.wires u u).0 e in
            let net = (sound_part w.0).net in
            let same : w.1 ≡ w.2 = one_point one two m name ends h p.symbols w.0 w.1 w.2 (net.points w.1 w.2 w.5) (net.points w.2 w.1 (net.back w.1 w.2 w.5)) (sym (is_image one two m name ends h w.0 w.1 u w.3) ∙ is_image one two m name ends h w.0 w.2 u w.4) in
            net.apart w.1 (w.5 ∙ ap (λ (z : Point ℕ). Some z) (sym same))
            );
      }

      -- ---- types

      type_kept : (i : ℕ) (q : Point ℕ) → IsPoint p.symbols (both i) q → type_in p.symbols m (image one two m name ends h i q) ≡ type_in p.symbols (both i) q
      type_kept i (Port x k) g =
          let s = symbol_of p.symbols ((both i).symbol x) k g in
          port_type p.symbols m (in_whole i x) k s.0 (symbol_kept one two m name ends h i x s.0 s.1) ∙ sym (port_type p.symbols (both i) x k s.0 s.1)
      type_kept i (Free e) g = ap (λ (o : Option PortType). elim o [ None ↦ None | Some t ↦ Some (opposite t) ]) (end_type one two m name ends h (h.number (i, e)) (i, e) (h.all i e g))

      whole_typed : IsTypedNet p.symbols m
      whole_typed u v s t e hs ht =
          let w = (h.beside.wires u v).0 e in
          let net = (sound_part w.0).net in
          (sound_part w.0).typed w.1 w.2 s t w.5
          (sym (type_kept w.0 w.1 (net.points w.1 w.2 w.5)) ∙ ap (type_in p.symbols m) (sym (is_image one two m name ends h w.0 w.1 u w.3)) ∙ hs)
          (sym (type_kept w.0 w.2 (net.points w.2 w.1 (net.back w.1 w.2 w.5))) ∙ ap (type_in p.symbols m) (sym (is_image one two m name ends h w.0 w.2 v w.4)) ∙ ht)

      -- ---- circles

      -- an agent of this part that a path reaches from that place of another one of it
      abbrev Next : ℕ × ℕ → ℕ → ℕ × ℕ → Type 0
      Next w l to = (x : ℕ) × (in_whole w.0 x ≡ to.0) × IsSome ((both w.0).symbol x) × ((both w.0).partner (Port w.1 l) ≡ Some (Port x to.1))

      is_port : (i : ℕ) (q : Point ℕ) (y k : ℕ) → Port y k ≡ image one two m name ends h i q → (x : ℕ) × (q ≡ Port x k) × (in_whole i x ≡ y)
      is_port i (Port x l) y k e = (x, (let f : k ≡ l = port_place y (in_whole i x) k l e in ap (λ (z : ℕ). Port x z) (sym f)), sym (port_agent y (in_whole i x) k l e))
      is_port i (Free l) y k e = cc

      next : (i x l : ℕ) (to : ℕ × ℕ) → IsSome ((both i).symbol x) → m.partner (Port (in_whole i x) l) ≡ Some (Port to.0 to.1) → Next (i, x) l to
      next i x l to there e =
          let w = (h.beside.wires (Port (in_whole i x) l) (Port to.0 to.1)).0 e in
          let net = (sound_part w.0).net in
          let a = is_port w.0 w.1 (in_whole i x) l (is_image one two m name ends h w.0 w.1 (Port (in_whole i x) l) w.3) in
          let b = is_port w.0 w.2 to.0 to.1 (is_image one two m name ends h w.0 w.2 (Port to.0 to.1) w.4) in
          let wire : (both w.0).partner (Port a.0 l) ≡ Some (Port b.0 to.1) = ap (both w.0).partner (sym a.1) ∙ w.5 ∙ ap (λ (z : Point ℕ). Some z) b.1 in
          let here = point_there p.symbols (both w.0) (Port a.0 l) (net.points (Port a.0 l) (Port b.0 to.1) wire) in
          let same = h.apart w.0 i a.0 x here there a.2 in
          let found : Next (w.0, a.0) l to = (b.0, b.2, point_there p.symbols (both w.0) (Port b.0 to.1) (net.points (Port b.0 to.1) (Port a.0 l) (net.back (Port a.0 l) (Port b.0 to.1) wire)), wire) in
          subst (λ (z : ℕ × ℕ). Next z l to) (λ k. (same.0 k, same.1 k)) found

      abbrev moved : ℕ → Passage ℕ → Passage ℕ
      moved i q = record { node = in_whole i q.node; enter = q.enter; leave = q.leave }

      abbrev AreThere : ℕ → List (Passage ℕ) → Type 0
      AreThere i qs = AllByRecursion (λ q. IsSome ((both i).symbol q.node)) qs

      -- a path from an agent of a part stays in the part
      record Lifted (i x l : ℕ) (ps : List (Passage ℕ)) (to : ℕ × ℕ) : Type 0 where
        qs : List (Passage ℕ)
        same : map (moved i) qs ≡ ps
        there : AreThere i qs
        last : ℕ
        at : in_whole i last ≡ to.0
        live_last : IsSome ((both i).symbol last)
        leads : graphs.LeadsThrough (graph_of p.symbols (both i)) (x, l) qs (last, to.1)

      lift : (i x l : ℕ) (ps : List (Passage ℕ)) (to : ℕ × ℕ) → IsSome ((both i).symbol x) → graphs.LeadsThrough (graph_of p.symbols m) (in_whole i x, l) ps to → Lifted i x l ps to
      lift i x l [] to there w =
          let n = next i x l to there w in
          record { qs = []; same = refl; there = tt; last = n.0; at = n.1; live_last = n.2; leads = n.3 }
      lift i x l (q ∷ qs) to there w =
          let n = next i x l (entered q) there w.0 in
          let r = lift i n.0 q.leave qs to n.2 (subst (λ (y : ℕ). graphs.LeadsThrough (graph_of p.symbols m) (y, q.leave) qs to) (sym n.1) w.1) in
          let here : Passage ℕ = record { node = n.0; enter = q.enter; leave = q.leave } in
          record {
            qs = here ∷ r.qs;
            same = λ k. record { node = n.1 k; enter = q.enter; leave = q.leave } ∷ r.same k;
            there = (n.2, r.there);
            last = r.last;
            at = r.at;
            live_last = r.live_last;
            leads = (n.3, r.leads);
          }

      same_class : (i x k : ℕ) → IsSome ((both i).symbol x) → class_of_symbol p.symbols (m.symbol (in_whole i x)) k ≡ class_of_symbol p.symbols ((both i).symbol x) k
      same_class i x k there = let s = has_value ((both i).symbol x) there in ap (λ (o : Option ℕ). class_of_symbol p.symbols o k) (symbol_kept one two m name ends h i x s.0 s.1 ∙ sym s.1)

      crossing : (i : ℕ) (qs : List (Passage ℕ)) → AreThere i qs → AllByRecursion (IsCrossing (graph_of p.symbols m)) (map (moved i) qs) → AllByRecursion (IsCrossing (graph_of p.symbols (both i))) qs
      crossing i [] there g = tt
      crossing i (q ∷ qs) there g = (
        (λ e. g.0 (same_class i q.node q.enter there.0 ∙ e ∙ sym (same_class i q.node q.leave there.0))),
        crossing i qs there.1 g.1,
      )

      apart_one : (i x : ℕ) (qs : List (Passage ℕ)) → AllByRecursion (λ (r : Passage ℕ). in_whole i x ≢ r.node) (map (moved i) qs) → AllByRecursion (λ (r : Passage ℕ). x ≢ r.node) qs
      apart_one i x [] g = tt
      apart_one i x (q ∷ qs) g = ((λ e. g.0 (ap (in_whole i) e)), apart_one i x qs g.1)

      apart_all : (i : ℕ) (qs : List (Passage ℕ)) → NodesApart (map (moved i) qs) → NodesApart qs
      apart_all i [] g = tt
      apart_all i (q ∷ qs) g = (apart_one i q.node qs g.0, apart_all i qs g.1)

      -- the first wire of a circle leads from an agent
      leaves : (q : ℕ × ℕ) (ps : List (Passage ℕ)) (to : ℕ × ℕ) → graphs.LeadsThrough (graph_of p.symbols m) q ps to → IsSome (m.symbol q.0)
      leaves q [] to w = let s = symbol_of p.symbols (m.symbol q.0) q.1 (whole_net.points (Port q.0 q.1) (Port to.0 to.1) w) in is_some (m.symbol q.0) s.0 s.1
      leaves q (r ∷ rs) to w = let s = symbol_of p.symbols (m.symbol q.0) q.1 (whole_net.points (Port q.0 q.1) (Port r.node r.enter) w.0) in is_some (m.symbol q.0) s.0 s.1

      no_circle : CrossingCircle (graph_of p.symbols m) → ⊥
      no_circle c =
          let s = has_value (m.symbol c.first.node) (leaves (left c.first) c.rest (entered c.first) c.closed) in
          let a = (h.beside.agents c.first.node s.0).0 s.1 in
          let i = a.0 in
          let x = a.1 in
          let there = is_some ((both i).symbol x) s.0 a.3 in
          let r = lift i x c.first.leave c.rest (entered c.first) there (subst (λ (y : ℕ). graphs.LeadsThrough (graph_of p.symbols m) (y, c.first.leave) c.rest (entered c.first)) (sym a.2) c.closed) in
          let first : Passage ℕ = record { node = x; enter = c.first.enter; leave = c.first.leave } in
          let back : x ≡ r.last = (h.apart i i x r.last there r.live_last (a.2 ∙ sym r.at)).1 in
          let all : map (moved i) (first ∷ r.qs) ≡ c.first ∷ c.rest = λ k. record { node = a.2 k; enter = c.first.enter; leave = c.first.leave } ∷ r.same k in
          (sound_part i).no_circle (record {
            first = first;
            rest = r.qs;
            closed = subst (λ (z : ℕ). graphs.LeadsThrough (graph_of p.symbols (both i)) (x, c.first.leave) r.qs (z, c.first.enter)) (sym back) r.leads;
            crossing = crossing i (first ∷ r.qs) (there, r.there) (subst (AllByRecursion (IsCrossing (graph_of p.symbols m))) (sym all) c.crossing);
            apart = apart_all i (first ∷ r.qs) (subst NodesApart (sym all) c.apart);
          })

      whole_sound : IsSound p m
      whole_sound = record {
        net = whole_net;
        within = λ y s e. (let a = (h.beside.agents y s).0 e in (sound_part a.0).within a.1 s a.3);
        typed = whole_typed;
        no_circle = no_circle;
      }

pub beside_parts_are_sound : BesidePartsAreSound
beside_parts_are_sound p one two n name ends sound net_one net_two h = parts_sound one two n name ends h p net_one net_two sound

pub beside_sound_is_sound : BesideSoundIsSound
beside_sound_is_sound p one two n name ends sound_one sound_two h = whole_sound one two n name ends h p sound_one sound_two
