-- Runs of parts whose agents have other names after each step.
use Rattle.std.proofs.Common.{◌≡◌, ◌<◌, ◌≤◌, ◌+◌, ℕ, zero, suc, Option, Some, None, IsSome, List, [], ◌∷◌, map, slice_get, refl, sym, subst, ap, ◌∙◌, arith}
use native.Mathlib.Decide.{ℕ_discrete}
use mathlib.Core.Path.{fun_ext}
use Rattle.in_net.specs.Interactions.{Redex, IsRedex, Side, Outer, Inner, other, Alternates, IsStep}
use Rattle.in_base.specs.Graphs as graphs
use Rattle.in_base.specs.Graphs.{Passage, entered, left}
use Rattle.in_net.specs.Graphs.{graph_of}
use Rattle.in_net.specs.Nets.{Point, Port, Free, Net, IsPoint, IsNet}
use Rattle.in_net.proofs.Public.{symbol_of}
use Rattle.in_interaction.proofs.Public.{step_exists, has_value}
use Rattle.in_net.specs.Renaming.{renamed, IsRenamed}
use Rattle.in_check.specs.Runs.{moved, rule_of, IsPairWithRule, IsInteraction, at_start, then_step, then_renamed}
use Rattle.in_check.specs.Systems.{System, IsSound, IsSoundSystem}
use Rattle.in_check.proofs.Public.{redex_of, agents_before, path_map, renamed_steps, renamed_self}
use Rattle.in_base.proofs.Places.{is_some}
use Rattle.in_order.specs.Laws.{from_net}
use Rattle.in_order.proofs.Orders.EndAlike.{runs_are_joined}
use Rattle.in_order.proofs.Orders.Names.{composed, new_names, are_new}
use Rattle.in_gluing.specs.AsGluing.{empty, two_parts}
use Rattle.in_gluing.specs.Gluing.{Cuts, IsJointEndAt, IsJointEnd, glue_wire, AreLinked, IsPlaced, IsGlued}
use Rattle.in_gluing.specs.Laws.{KeepsApart}
use Rattle.in_order.specs.Leading.{Leads, LeadsGoOn, PartsLeadTheWhole}
use Rattle.in_order.specs.PartRuns.{Run, none, one_more, total}
use Rattle.in_order.proofs.Gluing.Names.{cut_run_and_glued, runs_keep_sound}
use Rattle.in_order.proofs.Gluing.Sound.{sound_is_start, with_start}

pub leads_go_on : LeadsGoOn
leads_go_on p j k l n m first on = runs_are_joined (from_net p l) j k n m first on

-- ---- a run without renaming, and one renaming at its end

pub record Ran (p : System) (k : ℕ) (n m : Net ℕ) : Type 0 where
  pub last : Net ℕ
  pub run : Run p k n last
  pub name : ℕ → ℕ
  pub named : IsRenamed name last m

module _ (p : System) (good : IsSoundSystem p) (n : Net ℕ) (sound : IsSound p n) where
  -- the step under the names before
  step_before : (k : ℕ) (m : Net ℕ) → Ran p k n m → (x : Redex ℕ ℕ) (name : ℕ → ℕ) (after : Net ℕ) → IsInteraction (from_net p n) m x name after → Ran p (suc k) n after
  step_before k m r x name after act =
      let l = r.last in
      let f = r.name in
      let net : IsNet p.symbols l = (runs_keep_sound p k n l good sound r.run).net in
      let pair = agents_before f l m r.named x.one x.two act.at.active in
      let here : (a : ℕ) (u : Point ℕ) → l.partner (Port a 0) ≡ Some u → IsSome (l.symbol a) = λ a u e. (let s = symbol_of p.symbols (l.symbol a) 0 (net.points (Port a 0) u e) in is_some (l.symbol a) s.0 s.1) in
      let symbol : (a y s : ℕ) → f a ≡ y → IsSome (l.symbol a) → m.symbol y ≡ Some s → l.symbol a ≡ Some s = λ a y s is h e. (
      let z = (r.named.agents y s).0 e in
      let same : z.0 ≡ a = r.named.apart z.0 a (is_some (l.symbol z.0) s z.2) h (z.1 ∙ sym is) in
      ap l.symbol (sym same) ∙ z.2
      ) in
      let back = net.back (Port pair.0 0) (Port pair.1 0) pair.4 in
      let y : Redex ℕ ℕ = record { one = pair.0; two = pair.1; first = x.first; second = x.second; member = x.member } in
      let at : IsPairWithRule p l y = record {
        one = symbol pair.0 x.one x.first pair.2 (here pair.0 (Port pair.1 0) pair.4) act.at.one;
        two = symbol pair.1 x.two x.second pair.3 (here pair.1 (Port pair.0 0) back) act.at.two;
        active = pair.4;
        rule = act.at.rule;
      } in
      let same : moved f y ≡ x = λ i. record { one = pair.2 i; two = pair.3 i; first = x.first; second = x.second; member = x.member } in
      let inside = (good.rule act.at.rule.0 (rule_of x) act.at.rule.1).net in
      let redex : IsRedex p.symbols l y = redex_of p good l net y at in
      let s = step_exists p.symbols l y (new_names net) net inside redex (are_new p.symbols l net y) ℕ_discrete in
      let g = renamed_steps p.symbols l m s.0 after f (new_names net) name y net inside redex r.named s.1 (subst (λ z. IsStep p.symbols m z name after) (sym same) act.step) in
      record { last = s.0; run = one_more k n l y (new_names net) s.0 r.run (record { at = at; step = s.1 }); name = g.0; named = g.1 }

  pub ran : (k : ℕ) (m : Net ℕ) → Leads p k n m → Ran p k n m
  ran _ m (at_start f _ r) = record { last = n; run = none n; name = f; named = r }
  ran _ m (then_step k l x name _ before act) = step_before k l (ran k l before) x name m act
  ran k m (then_renamed _ l f _ before r) =
      let b = ran k l before in
      record { last = b.last; run = b.run; name = λ x. f (b.name x); named = composed b.name f b.last l m b.named r }

-- ---- parts under other names

module _ (parts other_parts : ℕ → Net ℕ) (f : ℕ → ℕ → ℕ) (named : (i : ℕ) → IsRenamed (f i) (parts i) (other_parts i)) (name : ℕ → ℕ → ℕ) (cuts : Cuts) where
  abbrev Spot : Type 0
  Spot = ℕ × Point ℕ

  abbrev h : Spot → Spot
  h p = (p.0, renamed (f p.0) p.1)

  abbrev Wire : Side → Spot → Spot → Type 0
  Wire = glue_wire parts cuts

  abbrev Wire' : Side → Spot → Spot → Type 0
  Wire' = glue_wire other_parts cuts

  end_kept : (i : ℕ) (u : Point ℕ) → IsJointEndAt cuts i u → IsJointEndAt cuts i (renamed (f i) u)
  end_kept i (Port x k) e = e
  end_kept i (Free k) e = e

  end_back : (i : ℕ) (u : Point ℕ) → IsJointEndAt cuts i (renamed (f i) u) → IsJointEndAt cuts i u
  end_back i (Port x k) e = e
  end_back i (Free k) e = e

  wire_kept : (s : Side) (p q : Spot) → Wire s p q → Wire' s (h p) (h q)
  wire_kept Outer p q w = (
    w.0,
    subst (λ j. (other_parts p.0).partner (renamed (f p.0) p.1) ≡ Some (renamed (f j) q.1)) w.0 (((named p.0).wires (renamed (f p.0) p.1) (renamed (f p.0) q.1)).1 (p.1, q.1, refl, refl, w.1)),
  )
  wire_kept Inner p q w = (w.0, w.1, ap (renamed (f p.0)) w.2, ap (renamed (f q.0)) w.3, w.4)

  placed_kept : (i : ℕ) (u v : Point ℕ) → IsPlaced cuts (λ i x. name i (f i x)) i u v → IsPlaced cuts name i (renamed (f i) u) v
  placed_kept i (Port x k) v e = e
  placed_kept i (Free k) v e = e

  placed_back : (i : ℕ) (u v : Point ℕ) → IsPlaced cuts name i (renamed (f i) u) v → IsPlaced cuts (λ i x. name i (f i x)) i u v
  placed_back i (Port x k) v e = e
  placed_back i (Free k) v e = e

  linked_kept : (p q : Spot) → AreLinked parts cuts p q → AreLinked other_parts cuts (h p) (h q)
  linked_kept p q l = (
    (λ e. l.0 (end_back p.0 p.1 e)),
    (λ e. l.1 (end_back q.0 q.1 e)),
    (l.2.0, map h l.2.1, path_map Wire (IsJointEnd cuts) Wire' (IsJointEnd cuts) h wire_kept (λ u e. end_kept u.0 u.1 e) l.2.0 p l.2.1 q l.2.2),
  )

  -- the spot of the parts for a spot of those under other names
  abbrev Was : Spot → Spot → Type 0
  Was p' p = h p ≡ p'

  -- a joined free end is itself
  was_end : (i : ℕ) (u v : Point ℕ) → renamed (f i) u ≡ v → IsJointEndAt cuts i v → u ≡ v
  was_end i (Port x k) (Port y l) e end = absurd end
  was_end i (Port x k) (Free l) e end = cc
  was_end i (Free k) v e end = e

  one_end : (p' p q : Spot) → IsJointEnd cuts p' → Was p' p → Was p' q → p ≡ q
  one_end p' p q end a b =
      let go : (r : Spot) → Was p' r → r ≡ p' = λ r e. (
      let part : r.0 ≡ p'.0 = ap (λ (z : Spot). z.0) e in
      let point : renamed (f r.0) r.1 ≡ p'.1 = ap (λ (z : Spot). z.1) e in
      let same : r.1 ≡ p'.1 = was_end r.0 r.1 p'.1 point (subst (λ i. IsJointEndAt cuts i p'.1) (sym part) end) in
      λ i. (part i, same i)
      ) in
      go p a ∙ sym (go q b)

  wire_back : (s : Side) (p' q' : Spot) → Wire' s p' q' → (p q : Spot) × Was p' p × Was q' q × Wire s p q
  wire_back Outer p' q' w =
      let r = ((named p'.0).wires p'.1 q'.1).0 w.1 in
      ((p'.0, r.0), (q'.0, r.1), (λ i. (p'.0, r.2 i)), (λ i. (q'.0, subst (λ j. renamed (f j) r.1 ≡ q'.1) w.0 r.3 i)), (w.0, r.4))
  wire_back Inner p' q' w = (p', q', (λ i. (p'.0, at (f p'.0) p'.1 w.0 w.2 i)), (λ i. (q'.0, at (f q'.0) q'.1 w.1 w.3 i)), w)
    where
      at : (g : ℕ → ℕ) (u : Point ℕ) (e : ℕ) → u ≡ Free e → renamed g u ≡ u
      at g (Port x k) e is = cc
      at g (Free k) e is = refl

  path_back : (s : Side) (p' : Spot) (es : List Spot) (q' : Spot) → Alternates Wire' (IsJointEnd cuts) s p' es q' → (p q : Spot) × Was p' p × Was q' q × ((fs : List Spot) × Alternates Wire (IsJointEnd cuts) s p fs q)
  path_back s p' [] q' w = let r = wire_back s p' q' w in (r.0, r.1, r.2, r.3, ([], r.4))
  path_back s p' (e ∷ es) q' w =
      let r = wire_back s p' e w.0 in
      let l = path_back (other s) e es q' w.2 in
      let same : r.1 ≡ l.0 = one_end e r.1 l.0 w.1 r.3 l.2 in
      let end : IsJointEnd cuts l.0 = end_back l.0.0 l.0.1 (subst (IsJointEnd cuts) (sym l.2) w.1) in
      (r.0, l.1, r.2, l.3, (l.0 ∷ l.4.0, (subst (λ z. Wire s r.0 z) same r.4, end, l.4.1)))

  pub glued_before : (w : Net ℕ) → IsGlued other_parts name cuts w → IsGlued parts (λ i x. name i (f i x)) cuts w
  glued_before w g = record {
    agents = λ y s. (
      (λ e. (let r = (g.agents y s).0 e in let a = ((named r.0).agents r.1 s).0 r.3 in (r.0, a.0, ap (name r.0) a.1 ∙ r.2, a.2))),
      (λ r. (g.agents y s).1 (r.0, f r.0 r.1, r.2, ((named r.0).agents (f r.0 r.1) s).1 (r.1, refl, r.3))),
    );
    wires = λ u v. (
      (λ e. (
          let r = (g.wires u v).0 e in
          let b = path_back r.4.2.0 r.0 r.4.2.1 r.1 r.4.2.2 in (
            b.0,
            b.1,
            placed_back b.0.0 b.0.1 u (subst (λ (z : Spot). IsPlaced cuts name z.0 z.1 u) (sym b.2) r.2),
            placed_back b.1.0 b.1.1 v (subst (λ (z : Spot). IsPlaced cuts name z.0 z.1 v) (sym b.3) r.3),
            (
              (λ end. r.4.0 (subst (IsJointEnd cuts) b.2 (end_kept b.0.0 b.0.1 end))),
              (λ end. r.4.1 (subst (IsJointEnd cuts) b.3 (end_kept b.1.0 b.1.1 end))),
              (r.4.2.0, b.4.0, b.4.1),
            ),
          )
          )),
      (λ r. (g.wires u v).1 (h r.0, h r.1, placed_kept r.0.0 r.0.1 u r.2, placed_kept r.1.0 r.1.1 v r.3, linked_kept r.0 r.1 r.4)),
    );
    free = g.free ∙ ap (λ (k : ℕ × ℕ → Option _). map k cuts.outer) (fun_ext (λ p. ap (λ ts. slice_get ts p.1) (named p.0).free));
  }

  pub apart_before : KeepsApart other_parts name → KeepsApart parts (λ i x. name i (f i x))
  apart_before apart i j x y here there e =
      let kept : (i x : ℕ) → IsSome ((parts i).symbol x) → IsSome ((other_parts i).symbol (f i x)) = λ i x k. (
      let s = has_value ((parts i).symbol x) k in
      is_some ((other_parts i).symbol (f i x)) s.0 (((named i).agents (f i x) s.0).1 (x, refl, s.1))
      ) in
      let r = apart i j (f i x) (f j y) (kept i x here) (kept j y there) e in
      let point : f i x ≡ f i y = r.1 ∙ ap (λ j. f j y) (sym r.0) in
      (r.0, (named i).apart x y here (subst (λ j. IsSome ((parts j).symbol y)) (sym r.0) there) point)

-- ---- two parts

pub no_wire : (q r : Point ℕ) → empty.partner q ≡ Some r → ⊥
no_wire q r e = let f : ◌≡◌ {A = Option (Point ℕ)} None (Some r) = e in cc

no_path : (p : System) (from to : ℕ × ℕ) (qs : List (Passage ℕ)) → graphs.LeadsThrough (graph_of p.symbols empty) from qs to → ⊥
no_path p from to [] h = no_wire (Port from.0 from.1) (Port to.0 to.1) h
no_path p from to (q ∷ qs) h = no_wire (Port from.0 from.1) (Port q.node q.enter) h.0

-- a net without agents and wires is sound
pub empty_sound : (p : System) → IsSound p empty
empty_sound p = record {
  net = record {
    agents = [];
    all = λ x h. no_symbol h;
    joined = λ q h. absurd (no_point q h);
    points = λ q r e. absurd (no_wire q r e);
    back = λ q r e. absurd (no_wire q r e);
    apart = λ q e. no_wire q q e;
  };
  within = λ x s e. absurd (no_symbol (is_some (empty.symbol x) s e));
  typed = λ q r s t e a b. absurd (no_wire q r e);
  no_circle = λ c. no_path p (left c.first) (entered c.first) c.rest c.closed;
}
  where
    no_symbol : IsSome {T = ℕ} None → ⊥
    no_symbol h = cc

    no_point : (q : Point ℕ) → IsPoint p.symbols empty q → ⊥
    no_point (Port x i) h = h
    no_point (Free k) h = omega (arith, h)

-- two of each
abbrev pub of_two : {X : Type 0} → X → X → ℕ → X
of_two x y zero = x
of_two x y (suc i) = y

module _ (p : System) (s : Net ℕ) where
  run_from : (k : ℕ) (n m : Net ℕ) → Run p k n m → Run (from_net p s) k n m
  run_from _ n _ (none _) = none n
  run_from _ n m (one_more k _ l x name _ before act) = one_more k n l x name m (run_from k n l before) (record { at = with_start p s l x act.at; step = act.step })

  sound_from : (n : Net ℕ) → IsSound p n → IsSound (from_net p s) n
  sound_from n h = record { net = h.net; within = h.within; typed = h.typed; no_circle = h.no_circle }

pub parts_lead_the_whole : PartsLeadTheWhole
parts_lead_the_whole p j k n m one two one_after two_after before after cuts good sound glued apart sound_one sound_two lead_one lead_two glued_after apart_after =
    let a = ran p good one sound_one j one_after lead_one in
    let b = ran p good two sound_two k two_after lead_two in
    let f = of_two a.name b.name in
    let named : (i : ℕ) → IsRenamed (f i) (two_parts a.last b.last i) (two_parts one_after two_after i) = names a b in
    let sounds : (i : ℕ) → IsSound (from_net p n) (two_parts one two i) = all_sound in
    let runs : (i : ℕ) → i < 2 → Run (from_net p n) (of_two j k i) (two_parts one two i) (two_parts a.last b.last i) = all_run a b in
    let idle : (i : ℕ) → 2 ≤ i → two_parts a.last b.last i ≡ two_parts one two i = all_idle a b in
    let r = cut_run_and_glued (from_net p n) 0 n m (two_parts one two) (two_parts a.last b.last) before (λ i x. after i (f i x)) cuts 2 (of_two j k) (sound_is_start p n good sound) (at_start (λ x. x) n (renamed_self n))
    glued apart sounds runs idle (glued_before (two_parts a.last b.last) (two_parts one_after two_after) f named after cuts m glued_after) (apart_before (two_parts a.last b.last) (two_parts one_after two_after) f named after cuts apart_after) in
    subst (λ c. Leads p c n m) (let e : 0 + total (of_two j k) 2 ≡ j + k = omega arith in e) r
  where
    names : (a : Ran p j one one_after) (b : Ran p k two two_after) (i : ℕ) → IsRenamed (of_two a.name b.name i) (two_parts a.last b.last i) (two_parts one_after two_after i)
    names a b zero = a.named
    names a b (suc zero) = b.named
    names a b (suc (suc i)) = record { apart = λ x y h g e. cc; agents = λ y s. ((λ e. cc), (λ r. (let e = r.2 in cc))); wires = λ u v. ((λ e. cc), (λ r. (let e = r.4 in cc))); free = refl }

    all_sound : (i : ℕ) → IsSound (from_net p n) (two_parts one two i)
    all_sound zero = sound_from p n one sound_one
    all_sound (suc zero) = sound_from p n two sound_two
    all_sound (suc (suc i)) = empty_sound (from_net p n)

    all_run : (a : Ran p j one one_after) (b : Ran p k two two_after) (i : ℕ) → i < 2 → Run (from_net p n) (of_two j k i) (two_parts one two i) (two_parts a.last b.last i)
    all_run a b zero l = run_from p n j one a.last a.run
    all_run a b (suc zero) l = run_from p n k two b.last b.run
    all_run a b (suc (suc i)) l = absurd (omega (arith, l))

    all_idle : (a : Ran p j one one_after) (b : Ran p k two two_after) (i : ℕ) → 2 ≤ i → two_parts a.last b.last i ≡ two_parts one two i
    all_idle a b zero l = absurd (omega (arith, l))
    all_idle a b (suc zero) l = absurd (omega (arith, l))
    all_idle a b (suc (suc i)) l = refl
