-- The subcommand of a match by its getters, and the usage that reports an error.
use Rattle.std.proofs.Common.{◌≡◌, ◌∙◌, List, Option, Some, None, refl, sym, subst, inl, inr}
use Rattle.std.proofs.lemmas.Option.{same_Some}
use Rattle.std.specs.Box.{box_value}
use Rattle.std.specs.Prelude.{codes, option_map}
use Rattle.clap.specs.Words.{HasKind, IsAmong, Row, Text, kind_of, subcommand_name_of, subcommand_rows_of, subcommand_rows}
use Rattle.clap.specs.declared.error.Error.{Error}
use Rattle.clap.specs.declared.error.kind.ErrorKind.{ErrorKind}
use Rattle.clap.specs.declared.parser.matches.ArgMatches.{ArgMatches}
use Rattle.clap.specs.declared.parser.matches.ArgMatches.TheViews.{out-ArgMatches, out-SubCommand}
use Rattle.in_limits.specs.declared.limits.Limits.{Limits}
use Rattle.in_command_line.specs.Asking.{HasLimits, IsNamed, IsRequested, IsRunNamed, AreWordsRefused, IsErrorTold, Names, faults}
use Rattle.in_command_line.specs.declared.action.Action.{Action}
use Rattle.in_command_line.specs.declared.action.Action.TheVariants.{Check, Derive, Run, Count}
use Rattle.in_command_line.specs.declared.action.Usage.{Usage}
use Rattle.in_command_line.specs.declared.action.Usage.TheVariants.{Wrong, Help, Version, Memory}

pub name_of_rows : (m : ArgMatches) → subcommand_name_of m ≡ option_map (λ p. p.0) (subcommand_rows_of m)
name_of_rows m = elim (out-ArgMatches m).subcommand as (λ o. option_map (λ b. (out-SubCommand (box_value b)).name.now) o ≡ option_map (λ p. p.0) (subcommand_rows o)) [
  | None ↦ refl
  | Some b ↦ refl
]

-- a match whose subcommand names no action makes no request
pub none_requested : (found : Option (Text × List Row)) (name : Text) (options : List Row) → Some name ≡ option_map (λ p. p.0) found → Some options ≡ option_map (λ p. p.1) found
    → IsNamed name options None → IsRequested found None
none_requested None name options is are none n o a given named = cc
none_requested (Some p) name options is are none n o a given named =
    none a (subst (λ (q : Text × List Row). Names q.0 q.1 a) (sym (same_Some p (n, o) given) ∙ same) named)
  where
    same : p ≡ (name, options)
    same = λ i. (sym (same_Some name p.0 is) i, sym (same_Some options p.1 are) i)

-- .. and one that names an action is found
pub found_so : (found : Option (Text × List Row)) (name : Text) (options : List Row) → Some name ≡ option_map (λ p. p.0) found → Some options ≡ option_map (λ p. p.1) found
    → found ≡ Some (name, options)
found_so None name options is are = cc
found_so (Some p) name options is are = λ i. Some (sym (same_Some name p.0 is) i, sym (same_Some options p.1 are) i)

-- options without limits request no run
pub no_run : (options : List Row) → ((l : Limits) → HasLimits options l → ⊥) → (name : Text) → (name ≡ codes "check" → ⊥) → (name ≡ codes "derive" → ⊥) → IsNamed name options None
no_run options none name no_check no_derive Check h = no_check h
no_run options none name no_check no_derive Derive h = no_derive h
no_run options none name no_check no_derive (Run l) h = none l h.1
no_run options none name no_check no_derive (Count l) h = none l h.1

-- the run that options request is named by `run`
pub run_is_named : (options : List Row) (name : Text) → name ≡ codes "run" → (name ≡ codes "check" → ⊥) → (name ≡ codes "derive" → ⊥) → (r : Option Action) → IsRunNamed options r → IsNamed name options r
run_is_named options name is no_check no_derive (Some a) named = subst (λ (n : Text). Names n options a) (sym is) named
run_is_named options name is no_check no_derive None none = no_run options none name no_check no_derive

-- an error of one of the kinds that `clap` finds in the words is reported as it should be
pub refused_so : (words : List Text) (e : Error) (u : Usage) → HasKind (faults words) e → IsErrorTold (kind_of e) u → AreWordsRefused words u
refused_so words e Memory has told = tt
refused_so words e (Help text) has told = elim has [
  | inl memory ↦ cc
  | inr among ↦ subst (λ (k : ErrorKind). IsAmong k (faults words)) told among
]
refused_so words e Version has told = elim has [
  | inl memory ↦ cc
  | inr among ↦ subst (λ (k : ErrorKind). IsAmong k (faults words)) told among
]
refused_so words e (Wrong text) has told = elim has [
  | inl memory ↦ absurd (told.2 memory)
  | inr among ↦ (kind_of e, among, told.0, told.1)
]
