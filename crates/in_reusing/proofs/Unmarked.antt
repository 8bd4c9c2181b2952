-- A sound net is typed and without crossing circle.
use Rattle.in_net.specs.Interactions.{redex_at}
use Rattle.in_net.specs.Nets.{net_of}
use Rattle.in_check.specs.Systems.{system_of}
use Rattle.in_check.proofs.Public.{is_sound}
use Rattle.in_overwriting.proofs.Public.{unmarked_pairs_are_apart}
use Rattle.in_reducer.specs.Machines.{parts_of}
use Rattle.in_reducer.proofs.Public.StepsOn.{redex}
use Rattle.in_reusing.specs.Unmarked.{UnmarkedPairsOfSoundNetsAreApart, UnmarkedLeadNoneBack}

pub unmarked_pairs_of_sound_nets_are_apart : UnmarkedPairsOfSoundNetsAreApart
unmarked_pairs_of_sound_nets_are_apart p n x system sound active one two =
    unmarked_pairs_are_apart p.symbols n x (record { classes = system.classes; net = sound.net; typed = sound.typed; no_circle = sound.no_circle }) active one two

pub unmarked_lead_none_back : UnmarkedLeadNoneBack
unmarked_lead_none_back m a b k r h at is_rule one two =
    unmarked_pairs_of_sound_nets_are_apart (system_of m.program) (net_of (parts_of m)) (redex_at r a.0 b.0) (is_sound h.accepted.0 h.accepted.1 m.program h.accepted.2) h.net.sound (redex m h a b at k r is_rule) one two
