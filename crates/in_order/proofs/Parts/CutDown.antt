-- Wires that are cut one after another, and joined in the opposite order.
use Rattle.std.proofs.Common.{zero, suc}
use Rattle.in_order.specs.Leading.{uncut, then_cut, unjoined, joined_first, CutDownIsSound, CutDownLeadsAreJoinedUp}
use Rattle.in_order.proofs.Parts.CutOnce.{cut_once_is_sound, cut_leads_are_joined}

pub cut_down_is_sound : CutDownIsSound
cut_down_is_sound p zero n m sound (uncut _) = sound
cut_down_is_sound p (suc w) n o sound (then_cut _ _ m _ before c) = cut_once_is_sound p m o (cut_down_is_sound p w n m sound before) c

pub cut_down_leads_are_joined_up : CutDownLeadsAreJoinedUp
cut_down_leads_are_joined_up p zero k n m o q good sound (uncut _) lead (unjoined _) = lead
cut_down_leads_are_joined_up p (suc w) k n m o q good sound (then_cut _ _ before _ cuts c) lead (joined_first _ _ after _ j joins) =
    cut_down_leads_are_joined_up p w k n before after q good sound cuts (cut_leads_are_joined p k before m o after good (cut_down_is_sound p w n before sound cuts) c lead j) joins
