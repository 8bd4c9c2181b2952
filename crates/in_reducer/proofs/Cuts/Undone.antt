-- A cut that is undone after a run.
use Rattle.std.proofs.Common.{ℕ, sym, subst}
use native.Mathlib.Decide.{ℕ_discrete}
use Rattle.in_net.specs.Nets.{Net}
use Rattle.in_check.specs.Programs.{Program}
use Rattle.in_check.specs.Systems.{System, IsSound, IsSoundSystem, system_of}
use Rattle.in_check.proofs.Public.{is_sound, sound_reached}
use Rattle.in_order.specs.Laws.{from_net}
use Rattle.in_order.proofs.Public.{sound_is_start}
use Rattle.in_order.specs.Leading.{Leads, IsJoinedOnce}
use Rattle.in_order.proofs.Public.{cut_leads_are_joined}
use Rattle.in_reducer.specs.Cutting.{JointsUndoCuts, net_in}

-- a sound net leads to sound nets
led_sound : (p : System) (k : ℕ) (n m : Net ℕ) → IsSoundSystem p → IsSound p n → Leads p k n m → IsSound p m
led_sound p k n m good sound lead =
    let s = sound_reached (from_net p n) (sound_is_start p n good sound) ℕ_discrete k m lead in
    record { net = s.net; within = s.within; typed = s.typed; no_circle = s.no_circle }

pub joints_undo_cuts : JointsUndoCuts
joints_undo_cuts m n o c i k h cut program lead = (
  (λ w joined. subst (λ (z : Program). IsSound (system_of z) w) (sym program) (led_sound (system_of m.program) k (net_in m) w good h.net.sound (leads w joined))),
  (λ after last. leads (net_in after) last.joined),
)
  where
    good : IsSoundSystem (system_of m.program)
    good = is_sound h.accepted.0 h.accepted.1 m.program h.accepted.2

    leads : (w : Net ℕ) → IsJoinedOnce (net_in o) w → Leads (system_of m.program) k (net_in m) w
    leads w joined = cut_leads_are_joined (system_of m.program) k (net_in m) (net_in n) (net_in o) w good h.net.sound cut.cut lead joined
