-- Words request at most one action.
use Rattle.std.proofs.Common.{◌≡◌, List, refl, sym, ◌∙◌, ap, subst}
use Rattle.std.proofs.lemmas.Option.{same_Some}
use Rattle.std.specs.Prelude.{codes, Bool, true, false}
use Rattle.clap.specs.Words.{Row, Text}
use Rattle.in_limits.specs.declared.limits.Limits.{Limits}
use Rattle.in_limits.proofs.Public.{one_limits}
use Rattle.in_command_line.specs.Asking.{Asked, HasLimits, Names, file_in, is_set}
use Rattle.in_command_line.specs.Laws.{WordsAskForOneAction}
use Rattle.in_command_line.specs.declared.action.Action.{Action}
use Rattle.in_command_line.specs.declared.action.Action.TheVariants.{Check, Derive, Run, Count}
use Rattle.in_command_line.proofs.Numbers.{counts_once, number_once}

one_number : (options : List Row) (l k : Limits) → HasLimits options l → HasLimits options k → l ≡ k
one_number options l k h g =
    one_limits l k (number_once (codes "workers") options l.workers k.workers h.0 g.0) (number_once (codes "limit") options l.limit k.limit h.1 g.1)
    (counts_once options l.cells k.cells h.2 g.2)

one_name : (name : Text) (options : List Row) (a b : Action) → Names name options a → Names name options b → a ≡ b
one_name name options Check Check h g = refl
one_name name options Check Derive h g = let bad : codes "check" ≡ codes "derive" = sym h ∙ g in cc
one_name name options Check (Run k) h g = let bad : codes "check" ≡ codes "run" = sym h ∙ g.0 in cc
one_name name options Check (Count k) h g = let bad : codes "check" ≡ codes "run" = sym h ∙ g.0 in cc
one_name name options Derive Check h g = let bad : codes "derive" ≡ codes "check" = sym h ∙ g in cc
one_name name options Derive Derive h g = refl
one_name name options Derive (Run k) h g = let bad : codes "derive" ≡ codes "run" = sym h ∙ g.0 in cc
one_name name options Derive (Count k) h g = let bad : codes "derive" ≡ codes "run" = sym h ∙ g.0 in cc
one_name name options (Run l) Check h g = let bad : codes "run" ≡ codes "check" = sym h.0 ∙ g in cc
one_name name options (Run l) Derive h g = let bad : codes "run" ≡ codes "derive" = sym h.0 ∙ g in cc
one_name name options (Run l) (Run k) h g = ap Run (one_number options l k h.1 g.1)
one_name name options (Run l) (Count k) h g = let bad : ◌≡◌ {A = Bool} false true = sym h.2 ∙ g.2 in cc
one_name name options (Count l) Check h g = let bad : codes "run" ≡ codes "check" = sym h.0 ∙ g in cc
one_name name options (Count l) Derive h g = let bad : codes "run" ≡ codes "derive" = sym h.0 ∙ g in cc
one_name name options (Count l) (Run k) h g = let bad : ◌≡◌ {A = Bool} true false = sym h.2 ∙ g.2 in cc
one_name name options (Count l) (Count k) h g = ap Count (one_number options l k h.1 g.1)

pub one_action : WordsAskForOneAction
one_action words a b h g =
    let same : (h.name, h.options) ≡ (g.name, g.options) = same_Some _ _ (sym h.given ∙ g.given) in
    let actions : a.action ≡ b.action = one_name g.name g.options a.action b.action (subst (λ (p : Text × List Row). Names p.0 p.1 a.action) same h.named) g.named in
    let files : a.file ≡ b.file = h.file_is ∙ ap (λ (p : Text × List Row). file_in p.1) same ∙ sym g.file_is in
    let figures : a.stats ≡ b.stats = h.stats_are ∙ ap (λ (p : Text × List Row). is_set (codes "stats") p.1) same ∙ sym g.stats_are in
    let sizes : a.large ≡ b.large = h.large_is ∙ ap (λ (p : Text × List Row). is_set (codes "large") p.1) same ∙ sym g.large_is in
    λ i. (let z : Asked = record { action = actions i; file = files i; stats = figures i; large = sizes i } in z)
