-- A reducer that keeps a sound net has steps, a rule for each pair, and one result: as for reached nets, with soundness in the place of being
-- reached.
use Rattle.std.proofs.Common.{sym, subst}
use Rattle.in_net.specs.Built.{IsOver}
use Rattle.in_interaction.specs.Interacting.{unused}
use Rattle.in_net.specs.Interactions.{redex_at}
use Rattle.in_net.specs.Nets.{net_of}
use Rattle.in_check.specs.Systems.{IsSound, system_of}
use Rattle.in_check.proofs.Public.{acts_of, as_least, is_pair, is_sound, one_step, plain_is_sound, rule_at}
use Rattle.in_order.specs.PartRuns.{one_more}
use Rattle.in_order.specs.Reducible.{PlainIsReducible, ReducibleSteps, ReducibleStepsUnderNames, ReduciblePairsHaveTheirRule, ReducibleStepsAreOne, ReducibleAsPromised}
use Rattle.in_order.proofs.Gluing.Sound.{sound_is_promised, sound_steps}

pub reducible_steps_under_names : ReducibleStepsUnderNames
reducible_steps_under_names limits text p q a b name accepted h at to =
    let act = acts_of p q a b name at to in
    let sound : IsSound (system_of p.program) (net_of q.net) = sound_steps (system_of p.program) (net_of p.net) (redex_at to.rule a.0 b.0) name (net_of q.net) (is_sound limits text p.program accepted) h.sound act in (
      record {
        sound = subst (λ z. IsSound (system_of z) (net_of q.net)) (sym to.program) sound;
        over = subst (λ z. IsOver z.tables q.net) (sym to.program) to.acts.over;
      },
      λ k n run. one_more k n (net_of p.net) (redex_at to.rule a.0 b.0) name (net_of q.net) run act,
    )

pub reducible_steps : ReducibleSteps
reducible_steps limits text p q a b accepted h at to = reducible_steps_under_names limits text p q a b (unused p.net.cells) accepted h at (as_least p q a b h.over at to)

pub reducible_as_promised : ReducibleAsPromised
reducible_as_promised limits text p accepted h = sound_is_promised (system_of p.program) (net_of p.net) (is_sound limits text p.program accepted) h.sound

pub reducible_steps_are_one : ReducibleStepsAreOne
reducible_steps_are_one limits text p q r a b accepted h at few whole other x y = one_step limits text p a b accepted h.sound (reducible_as_promised limits text p accepted h) h.over at q r few whole other x y

pub reducible_pairs_have_their_rule : ReduciblePairsHaveTheirRule
reducible_pairs_have_their_rule limits text p a b accepted h at =
    let z = reducible_as_promised limits text p accepted h in
    (is_pair limits text p a b accepted h.sound z h.over at, λ i r e for. rule_at limits text p a b accepted h.sound z h.over at i r e for)

pub plain_is_reducible : PlainIsReducible
plain_is_reducible limits text p accepted h = record { sound = plain_is_sound limits text p accepted h; over = h.over }
