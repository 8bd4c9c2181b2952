-- The properties that an interaction of a sound system keeps, and that every net has that is reached.
use Rattle.std.proofs.Common.{◌≡◌, ◌⊎◌, ◌<◌, ℕ, true, false, not, Bool, Some, refl, sym, ap, inl, inr, ◌∙◌}
use mathlib.Core.HLevel.{Discrete}
use native.Mathlib.Decide.{ℕ_discrete}
use Rattle.in_net.specs.Interactions.{Redex, IsRedex, IsNaming, ClosedPath}
use Rattle.in_net.specs.Nets.{Port, Net, IsNet}
use Rattle.in_interaction.proofs.Public.{each_leads_on, no_closed_path, class_discrete, no_new_circle, is_net, step_exists, crossing_circle}
use Rattle.in_typing.specs.Typed.{opposite}
use Rattle.in_typing.proofs.Public.{port_type, typed_after}
use Rattle.in_check.specs.Promises.{IsAsPromised, ReachesAsPromised}
use Rattle.in_check.specs.Runs.{rule_of, IsRenamed, IsPairWithRule, IsInteraction, Reached, at_start, then_step, then_renamed}
use Rattle.in_check.specs.Systems.{System, IsMatching, HasOneRule, IsSound, IsSoundSystem}
use Rattle.in_check.proofs.Reached.HoldsEach.{holds_all}
use Rattle.in_check.proofs.Reached.Listed.{listed_agents, queued_pairs}
use Rattle.in_check.proofs.Reached.Renaming.{net_renamed, below_renamed, typed_renamed, circle_renamed}

module _ {A : Type 0} (p : System) (good : IsSoundSystem p) where
  pub redex_of : (n : Net A) → IsNet p.symbols n → (x : Redex A ℕ) → IsPairWithRule p n x → IsRedex p.symbols n x
  redex_of n net x at =
      let r = good.rule at.rule.0 (rule_of x) at.rule.1 in
      record {
        one = at.one;
        two = at.two;
        differ = λ same. net.apart (Port x.one 0) (at.active ∙ ap (λ y. Some (Port y 0)) (sym same));
        active = at.active;
        ends = r.ends;
        declared = r.declared;
      }

  module _ (same : Discrete A) where
    sound_after : (n : Net A) (x : Redex A ℕ) (name : ℕ → A) (after : Net A) → IsSound p n → IsInteraction p n x name after → IsSound p after
    sound_after n x name after h act =
        let rule = good.rule act.at.rule.0 (rule_of x) act.at.rule.1 in
        let redex = redex_of n h.net x act.at in
        record {
          net = is_net p.symbols n x name after h.net rule.net redex act.step same;
          within = λ y s e. elim ((act.step.agents y s).0 e) [
            | inl r ↦ h.within y s r.2
            | inr r ↦ rule.within r.0 s r.2
          ];
          typed = typed_after p.symbols n x name h.net rule.net redex act.step.naming h.typed rule.typed after act.step;
          no_circle = λ circle. no_new_circle p.symbols good.classes n x h.net rule.net redex name after act.step same ℕ_discrete h.no_circle rule.no_circle circle;
        }

    sound_renamed : (f : A → A) (n m : Net A) → IsRenamed f n m → IsSound p n → IsSound p m
    sound_renamed f n m r h = record {
      net = net_renamed p.symbols f n m h.net r;
      within = below_renamed p.symbols f n m h.net r p.count h.within;
      typed = typed_renamed p.symbols f n m h.net r h.typed;
      no_circle = λ circle. h.no_circle (circle_renamed p.symbols f n m h.net r same circle);
    }

    pub sound_reached : (k : ℕ) (n : Net A) → Reached p k n → IsSound p n
    sound_reached k n (at_start f _ r) = record {
      net = net_renamed p.symbols f p.start n good.start.net r;
      within = below_renamed p.symbols f p.start n good.start.net r p.count good.start.within;
      typed = typed_renamed p.symbols f p.start n good.start.net r good.start.typed;
      no_circle = λ circle. good.start.no_circle (circle_renamed p.symbols f p.start n good.start.net r ℕ_discrete circle);
    }
    sound_reached _ n (then_step k m x name _ before act) = sound_after m x name n (sound_reached k m before) act
    sound_reached _ n (then_renamed k m f _ before r) = sound_renamed f m n r (sound_reached k m before)

-- opposite types of two principal ports are those of a pair that matches
one_rule : (p : System) → IsSoundSystem p → (c d : ℕ) → c < p.count → d < p.count → p.symbols.type_of d 0 ≡ opposite (p.symbols.type_of c 0) → (IsMatching p.symbols c d × HasOneRule p c d) ⊎ (IsMatching p.symbols d c × HasOneRule p d c)
one_rule p good c d hc hd e = go (p.symbols.type_of c 0).output refl
  where
    go : (b : Bool) → (p.symbols.type_of c 0).output ≡ b → (IsMatching p.symbols c d × HasOneRule p c d) ⊎ (IsMatching p.symbols d c × HasOneRule p d c)
    go true h =
        let match : IsMatching p.symbols c d = (h, ap (λ t. t.output) e ∙ ap not h, sym (ap (λ t. t.kind) e)) in
        inl (match, good.covered c d hc hd match)
    go false h =
        let match : IsMatching p.symbols d c = (ap (λ t. t.output) e ∙ ap not h, h, ap (λ t. t.kind) e) in
        inr (match, good.covered d c hd hc match)

-- an interaction leaves no closed path, and has a result
ends : (p : System) → IsSoundSystem p → (n : Net ℕ) → IsSound p n → (x : Redex ℕ ℕ) → IsPairWithRule p n x → (ClosedPath p.symbols n x → ⊥) × ((name : ℕ → ℕ) → IsNaming n x name → (after : Net ℕ) × IsInteraction p n x name after)
ends p good n h x at =
    let rule = good.rule at.rule.0 (rule_of x) at.rule.1 in
    let redex = redex_of p good n h.net x at in (
      λ path. elim (no_closed_path p.symbols good.classes n x h.net rule.net redex ℕ_discrete ℕ_discrete class_discrete path) [ inl r ↦ h.no_circle r | inr r ↦ rule.no_circle r ],
      λ name naming. let s = step_exists p.symbols n x name h.net rule.net redex naming ℕ_discrete in (s.0, record { at = at; step = s.1 }),
    )

pub each_promised : (p : System) → IsSoundSystem p → (k : ℕ) (n : Net ℕ) → Reached p k n → IsAsPromised p n
each_promised p good k n r =
    let h = sound_reached p good ℕ_discrete k n r in
    let leads = each_leads_on p.symbols good.classes n h.net ℕ_discrete h.no_circle in
    record {
      typed = (h.net, h.typed);
      one_rule = λ a b c d ea eb active. one_rule p good c d (h.within a c ea) (h.within b d eb)
          (h.typed (Port a 0) (Port b 0) (p.symbols.type_of c 0) (p.symbols.type_of d 0) active (port_type p.symbols n a 0 c ea) (port_type p.symbols n b 0 d eb));
      no_circle = (h.no_circle, λ v. h.no_circle (crossing_circle p.symbols good.classes n h.net v));
      interactions_end = λ x at. ends p good n h x at;
      leads_on = leads;
      written_whole = record {
        agents = listed_agents p.symbols n h.net;
        queue = queued_pairs p.symbols n h.net;
        holds = λ words xs queue agents queued. holds_all p n h.net leads words xs agents queue queued;
      };
    }

pub as_promised : (p : System) → IsSoundSystem p → ReachesAsPromised p
unfolding ReachesAsPromised
as_promised p good k n r = each_promised p good k n r
