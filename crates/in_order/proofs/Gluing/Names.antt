-- Runs of parts that are glued again, under any names, and parts of a sound net.
use Rattle.std.proofs.Common.{◌+◌, ℕ, sym, subst, inl, inr}
use native.Mathlib.Decide.{ℕ_discrete}
use Rattle.in_net.specs.Nets.{Net, IsNet}
use Rattle.in_net.specs.Renaming.{IsRenamed}
use Rattle.in_check.specs.Runs.{then_renamed}
use Rattle.in_check.specs.Systems.{System, IsSound}
use Rattle.in_check.proofs.Public.{sound_reached, net_renamed, below_renamed, typed_renamed, circle_renamed}
use Rattle.in_gluing.specs.Gluing.{AreAllApart, IsGlued}
use Rattle.in_order.specs.PartRuns.{none, one_more, total}
use Rattle.in_order.specs.GluingLaws.{RunsKeepSound, CutRunAndGlued, PartsAreSoundByNames}
use Rattle.in_gluing.proofs.Public.{cases_le, names_exist, rename, rename_apart, glued_of_renamed, glued_once, renamed_exists}
use Rattle.in_order.proofs.Gluing.PartRuns.{runs_are_glued}
use Rattle.in_order.proofs.Gluing.Sound.{parts_are_sound, sound_steps}

pub runs_keep_sound : RunsKeepSound
runs_keep_sound p _ n _ good h (none _) = h
runs_keep_sound p _ n m good h (one_more k _ l x name _ before act) = sound_steps p l x name m good (runs_keep_sound p k n l good h before) act

pub cut_run_and_glued : CutRunAndGlued
cut_run_and_glued p k n m parts after a b cuts workers counts good reached gn apart_a sound runs idle gm apart_b =
    let name : ℕ → ℕ → ℕ = names_exist.0 in
    let apart : AreAllApart name = names_exist.1 in
    let nets : (i : ℕ) → IsNet p.symbols (parts i) = λ i. (sound i).net in
    let f : ℕ → ℕ = rename p.symbols parts cuts nets a name apart_a n gn in
    let whole = renamed_exists p.symbols n f (sound_reached p good ℕ_discrete k n reached).net (rename_apart p.symbols parts cuts nets a name apart_a n gn (λ i j x y h g e. apart i j x y e)) in
    let glued : IsGlued parts name cuts whole.0 = glued_of_renamed p.symbols parts cuts nets a name apart_a n gn whole.0 whole.1 in
    let run = runs_are_glued p k parts after name cuts whole.0 workers counts good (then_renamed k n f whole.0 reached whole.1) apart glued runs idle in
    let sound_after : (i : ℕ) → IsSound p (after i) = λ i. elim (cases_le i workers) [
      | inl h ↦ runs_keep_sound p (counts i) (parts i) (after i) good (sound i) (runs i h)
      | inr h ↦ subst (λ z. IsSound p z) (sym (idle i h)) (sound i)
    ] in
    let last = glued_once p.symbols after cuts name b run.0 m (λ i. (sound_after i).net) (λ i j x y h g e. apart i j x y e) apart_b run.1 gm in
    then_renamed (k + total counts workers) run.0 last.0 m run.2 last.1

sound_renamed : (p : System) (f : ℕ → ℕ) (n m : Net ℕ) → IsRenamed f n m → IsSound p n → IsSound p m
sound_renamed p f n m r h = record {
  net = net_renamed p.symbols f n m h.net r;
  within = below_renamed p.symbols f n m h.net r p.count h.within;
  typed = typed_renamed p.symbols f n m h.net r h.typed;
  no_circle = λ circle. h.no_circle (circle_renamed p.symbols f n m h.net r ℕ_discrete circle);
}

pub parts_are_sound_by_names : PartsAreSoundByNames
parts_are_sound_by_names p parts a cuts n apart_a gn cutting at_cuts nets h i =
    let name : ℕ → ℕ → ℕ = names_exist.0 in
    let apart : AreAllApart name = names_exist.1 in
    let f : ℕ → ℕ = rename p.symbols parts cuts nets a name apart_a n gn in
    let whole = renamed_exists p.symbols n f h.net (rename_apart p.symbols parts cuts nets a name apart_a n gn (λ i j x y h g e. apart i j x y e)) in
    parts_are_sound p parts name cuts whole.0 apart (glued_of_renamed p.symbols parts cuts nets a name apart_a n gn whole.0 whole.1) cutting at_cuts (sound_renamed p f n whole.0 whole.1 h) i (nets i)
