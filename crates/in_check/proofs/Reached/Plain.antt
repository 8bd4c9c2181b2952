-- The invariant of the slow reducer: it starts at a reached net, a step leads to a reached net, and its active pairs have their rule.
use Rattle.std.proofs.Common.{◌≡◌, ℕ, zero, suc, List, map, Some, refl, sym, subst, ap, ◌∙◌}
use native.Mathlib.Decide.{ℕ_discrete}
use Rattle.in_net.specs.declared.nets.AgentNo.{AgentNo}
use Rattle.in_net.specs.Built.{IsOver}
use Rattle.in_interaction.specs.Interacting.{unused}
use Rattle.in_net.specs.Interactions.{redex_at}
use Rattle.in_net.specs.Nets.{Point, Port, Free, Net, net_of}
use Rattle.in_check.specs.Checking.{IsAccepted}
use Rattle.in_check.specs.Programs.{Program}
use Rattle.in_check.specs.Plain.{PlainParts, IsReachedBy, IsPlain, StepsAs, IsPairAt, PlainStarts, PlainSteps, PlainStepsUnderNames, PlainStepsAreOne, PairsHaveTheirRule, PlainAsPromised}
use Rattle.in_check.specs.Runs.{renamed, IsRenamed, Reached, at_start, then_step}
use Rattle.in_check.specs.Systems.{IsSound, system_of}
use Rattle.in_check.proofs.Reached.FromText.{is_sound}
use Rattle.in_check.proofs.Reached.Kept.{each_promised, sound_reached}
use Rattle.in_check.proofs.Reached.PairRules.{acts_of, as_least, is_pair, one_step, rule_at}
use Rattle.in_syntax.specs.declared.text_limits.TextLimits.{TextLimits}

same_points : (p : Point ℕ) → renamed (λ x. x) p ≡ p
same_points (Port x i) = refl
same_points (Free k) = refl

-- a net is one under its own names
pub renamed_self : (n : Net ℕ) → IsRenamed (λ x. x) n n
renamed_self n = record {
  apart = λ x y h k e. e;
  agents = λ y s. ((λ e. (y, refl, e)), (λ h. ap n.symbol (sym h.1) ∙ h.2));
  wires = λ u v. (
    (λ e. (u, v, same_points u, same_points v, e)),
    (λ h. (let a : h.0 ≡ u = sym (same_points h.0) ∙ h.2 in let b : h.1 ≡ v = sym (same_points h.1) ∙ h.3 in ap n.partner (sym a) ∙ h.4 ∙ ap (λ (z : Point ℕ). Some z) b)),
  );
  free = refl;
}

starts_reached : (p : Program) → IsReachedBy (record { program = p; net = p.net }) zero
starts_reached p = at_start (λ x. x) (net_of p.net) (renamed_self (net_of p.net))

pub starts : PlainStarts
starts p over = (record { reached = (zero, starts_reached p); over = over; names = refl }, starts_reached p)

one_more : (p q : PlainParts) (a b : AgentNo) (name : ℕ → ℕ) → IsPlain p → IsPairAt p a b → StepsAs p a b name q → (k : ℕ) → IsReachedBy p k → IsReachedBy q (suc k)
one_more p q a b name plain at to k h =
    let now : Reached (system_of p.program) (suc k) (net_of q.net) = then_step k (net_of p.net) (redex_at to.rule a.0 b.0) name (net_of q.net) h (acts_of p q a b name at to) in
    subst (λ z. Reached (system_of z) (suc k) (net_of q.net)) (sym to.program) now

pub steps_under_names : PlainStepsUnderNames
steps_under_names p q a b name h at to = (
  record {
    reached = (suc h.reached.0, one_more p q a b name h at to h.reached.0 h.reached.1);
    over = subst (λ z. IsOver z.tables q.net) (sym to.program) to.acts.over;
    names = to.acts.names ∙ h.names ∙ ap (λ z. map (λ f. f.name) z.net.free) (sym to.program);
  },
  one_more p q a b name h at to,
)

pub steps : PlainSteps
steps p q a b h at to = steps_under_names p q a b (unused p.net.cells) h at (as_least p q a b h.over at to)

pub promised : PlainAsPromised
promised limits text p accepted h = each_promised (system_of p.program) (is_sound limits text p.program accepted) h.reached.0 (net_of p.net) h.reached.1

-- a net that is reached is sound
pub plain_is_sound : (limits : TextLimits) (text : List ℕ) (p : PlainParts) → IsAccepted limits text p.program → IsPlain p → IsSound (system_of p.program) (net_of p.net)
plain_is_sound limits text p accepted h = sound_reached (system_of p.program) (is_sound limits text p.program accepted) ℕ_discrete h.reached.0 (net_of p.net) h.reached.1

pub steps_once : PlainStepsAreOne
steps_once limits text p q r a b accepted h at few whole other x y = one_step limits text p a b accepted (plain_is_sound limits text p accepted h) (promised limits text p accepted h) h.over at q r few whole other x y

pub have_their_rule : PairsHaveTheirRule
have_their_rule limits text p a b accepted h at =
    let s = plain_is_sound limits text p accepted h in
    let z = promised limits text p accepted h in
    (is_pair limits text p a b accepted s z h.over at, λ i r e for. rule_at limits text p a b accepted s z h.over at i r e for)
