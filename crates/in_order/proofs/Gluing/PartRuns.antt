-- Runs of the parts are one run of the whole.
use Rattle.std.proofs.Common.{◌≡◌, ◌≢◌, ◌⊎◌, ◌<◌, ◌≤◌, ◌+◌, ℕ, zero, suc, [], refl, sym, subst, ap, ◌∙◌, inl, inr, arith}
use native.Mathlib.Decide.{ℕ_discrete}
use mathlib.Core.Path.{fun_ext}
use Rattle.in_net.specs.Interactions.{Redex, Outer}
use Rattle.in_net.specs.Nets.{Port, Net, IsNet}
use Rattle.in_interaction.proofs.Public.{step_exists}
use Rattle.in_check.specs.Runs.{rule_of, IsInteraction, IsPairWithRule, Reached, then_step}
use Rattle.in_check.specs.Systems.{System, IsSoundSystem}
use Rattle.in_check.proofs.Public.{redex_of, sound_reached}
use Rattle.in_gluing.specs.Gluing.{Cuts, AreAllApart, IsGlued, placed_pair, AreOthers}
use Rattle.in_order.specs.PartRuns.{Run, none, one_more, total, RunsGoOn, RunsLeadOn}
use Rattle.in_order.specs.GluingLaws.{RunsAreGlued}
use Rattle.in_gluing.proofs.Public.{naming, glued_of_step, cases_le, pick, pick_yes, pick_no}

-- the parts with another one at this number
abbrev with_part : (ℕ → Net ℕ) → ℕ → Net ℕ → ℕ → Net ℕ
with_part parts w n j = pick (ℕ_discrete j w) n (parts j)

with_part_at : (parts : ℕ → Net ℕ) (w : ℕ) (n : Net ℕ) → with_part parts w n w ≡ n
with_part_at parts w n = pick_yes (ℕ_discrete w w) n (parts w) refl

with_part_else : (parts : ℕ → Net ℕ) (w : ℕ) (n : Net ℕ) (j : ℕ) → j ≢ w → with_part parts w n j ≡ parts j
with_part_else parts w n j d = pick_no (ℕ_discrete j w) n (parts j) d

with_own : (parts : ℕ → Net ℕ) (w : ℕ) → with_part parts w (parts w) ≡ parts
with_own parts w = fun_ext (λ j. go j (ℕ_discrete j w))
  where
    go : (j : ℕ) → (d : Dec (j ≡ w)) → pick d (parts w) (parts j) ≡ parts j
    go j (yes e) = ap parts (sym e)
    go j (no d) = refl

module _ (p : System) (good : IsSoundSystem p) (name : ℕ → ℕ → ℕ) (apart : AreAllApart name) (cuts : Cuts) where
  -- a reached net that is glued from these parts
  abbrev Reaches : ℕ → (ℕ → Net ℕ) → Type 0
  Reaches k parts = (whole : Net ℕ) × IsGlued parts name cuts whole × Reached p k whole

  -- one interaction of one part
  one_step : (k : ℕ) (parts after : ℕ → Net ℕ) (i : ℕ) (x : Redex ℕ ℕ) (new : ℕ → ℕ) → Reaches k parts → IsInteraction p (parts i) x new (after i) → AreOthers i parts after → Reaches (suc k) after
  one_step k parts after i x new r act others =
      let whole : Net ℕ = r.0 in
      let glued : IsGlued parts name cuts whole = r.1 in
      let net : IsNet p.symbols whole = (sound_reached p good ℕ_discrete k whole r.2).net in
      let rule = good.rule act.at.rule.0 (rule_of x) act.at.rule.1 in
      let at : IsPairWithRule p whole (placed_pair name i x) = record {
        one = (glued.agents (name i x.one) x.first).1 (i, x.one, refl, act.at.one);
        two = (glued.agents (name i x.two) x.second).1 (i, x.two, refl, act.at.two);
        active = (glued.wires (Port (name i x.one) 0) (Port (name i x.two) 0)).1 ((i, Port x.one 0), (i, Port x.two 0), refl, refl, ((λ h. h), (λ h. h), (Outer, [], (refl, act.at.active))));
        rule = act.at.rule;
      } in
      let names = naming p.symbols parts name cuts i x new after act.step others apart whole glued in
      let s = step_exists p.symbols whole (placed_pair name i x) (λ k. name i (new k)) net rule.net (redex_of p good whole net (placed_pair name i x) at) names ℕ_discrete in
      (s.0, glued_of_step p.symbols parts name cuts i x new after act.step others apart whole glued s.0 s.1, then_step k whole (placed_pair name i x) (λ k. name i (new k)) s.0 r.2 (record { at = at; step = s.1 }))

  -- .. and a run of one
  one_run : (k c : ℕ) (n m : Net ℕ) (parts : ℕ → Net ℕ) (w : ℕ) → parts w ≡ n → Reaches k parts → Run p c n m → Reaches (c + k) (with_part parts w m)
  one_run k _ n _ parts w e r (none _) =
      let same : parts ≡ with_part parts w n = sym (with_own parts w) ∙ ap (with_part parts w) e in
      subst (λ c. Reaches c (with_part parts w n)) (omega arith) (subst (λ z. Reaches k z) same r)
  one_run k _ n m parts w e r (one_more c _ l x new _ before act) =
      let ih : Reaches (c + k) (with_part parts w l) = one_run k c n l parts w e r before in
      let act' : IsInteraction p (with_part parts w l w) x new (with_part parts w m w) =
      subst (λ z. IsInteraction p z x new (with_part parts w m w)) (sym (with_part_at parts w l)) (subst (λ z. IsInteraction p l x new z) (sym (with_part_at parts w m)) act) in
      let others : AreOthers w (with_part parts w l) (with_part parts w m) = λ j d. with_part_else parts w m j d ∙ sym (with_part_else parts w l j d) in
      let done : Reaches (suc (c + k)) (with_part parts w m) = one_step (c + k) (with_part parts w l) (with_part parts w m) w x new ih act' others in
      subst (λ c. Reaches c (with_part parts w m)) (omega arith) done

  module _ (k : ℕ) (parts after : ℕ → Net ℕ) (counts : ℕ → ℕ) (start : Reaches k parts) where
    -- the first w parts have run, and the others not
    record Mixed (w : ℕ) : Type 0 where
      family : ℕ → Net ℕ
      done : (j : ℕ) → j < w → family j ≡ after j
      waiting : (j : ℕ) → w ≤ j → family j ≡ parts j
      reaches : Reaches (k + total counts w) family

    mixed : (w : ℕ) → ((i : ℕ) → i < w → Run p (counts i) (parts i) (after i)) → Mixed w
    mixed zero runs = record { family = parts; done = λ j h. absurd (let b : ⊥ = omega arith in b); waiting = λ j h. refl; reaches = subst (λ c. Reaches c parts) (omega arith) start }
    mixed (suc w) runs =
        let m = mixed w (λ i h. runs i (omega arith)) in
        let r : Reaches (counts w + (k + total counts w)) (with_part m.family w (after w)) = one_run (k + total counts w) (counts w) (parts w) (after w) m.family w (m.waiting w (omega arith)) m.reaches (runs w (omega arith)) in
        record {
          family = with_part m.family w (after w);
          done = λ j h. at_done m j h (ℕ_discrete j w);
          waiting = λ j h. with_part_else m.family w (after w) j (λ e. (let b : ⊥ = omega arith in b)) ∙ m.waiting j (omega arith);
          reaches = subst (λ c. Reaches c (with_part m.family w (after w))) (omega arith) r;
        }
      where
        at_done : (m : Mixed w) (j : ℕ) → j < suc w → (d : Dec (j ≡ w)) → with_part m.family w (after w) j ≡ after j
        at_done m j h (yes e) = ap (with_part m.family w (after w)) e ∙ with_part_at m.family w (after w) ∙ ap after (sym e)
        at_done m j h (no d) = with_part_else m.family w (after w) j d ∙ m.done j (omega (arith, d))

    all : (w : ℕ) → ((i : ℕ) → i < w → Run p (counts i) (parts i) (after i)) → ((i : ℕ) → w ≤ i → after i ≡ parts i) → Reaches (k + total counts w) after
    all w runs idle =
        let m = mixed w runs in
        let same : m.family ≡ after = fun_ext (λ j. go m j (cases_le j w)) in
        subst (λ z. Reaches (k + total counts w) z) same m.reaches
      where
        go : (m : Mixed w) (j : ℕ) → (j < w) ⊎ (w ≤ j) → m.family j ≡ after j
        go m j (inl h) = m.done j h
        go m j (inr h) = m.waiting j h ∙ sym (idle j h)

pub runs_are_glued : RunsAreGlued
runs_are_glued p k parts after name cuts whole workers counts good reached apart glued runs idle =
    all p good name apart cuts k parts after counts (whole, glued, reached) workers runs idle

-- ---- runs that continue at the end of another one

pub runs_go_on : RunsGoOn
runs_go_on p j _ l n _ before (none _) = subst (λ k. Run p k l n) (omega arith) before
runs_go_on p j _ l n m before (one_more k _ q x name _ run act) = subst (λ k. Run p k l m) (omega arith) (one_more (k + j) l q x name m (runs_go_on p j k l n q before run) act)

pub runs_lead_on : RunsLeadOn
runs_lead_on p k _ n _ reached (none _) = subst (λ k. Reached p k n) (omega arith) reached
runs_lead_on p k _ n m reached (one_more j _ q x name _ run act) = subst (λ k. Reached p k m) (omega arith) (then_step (k + j) q x name m (runs_lead_on p k j n q reached run) act)
