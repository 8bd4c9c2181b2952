use Rattle.std.proofs.Common.{◌∙◌, ◌≡◌, Bool, true, false, cond, sym, ap}
use Rattle.std.specs.Prelude.{codes, None, Some, option_and_then, option_map}
use Rattle.std.specs.Str.{bytes_eq}
use Rattle.clap.specs.Words.{found_of}
use Rattle.clap.proofs.WalkLemmas.{first_value-rows}
use Rattle.in_command_line.specs.Asking.{unless_input}
use Rattle.in_command_line.proofs.action.file_in.Goals as goal

pub returns-then-eq : goal.returns-then-eq
returns-then-eq c =
    let is : bytes_eq c.in-Some.file.now (codes "-") ≡ true = sym c.eq.ensures ∙ c.if-eq.true in
    ap (λ (b : Bool). cond b None (Some c.in-Some.file.now)) (sym is)
    ∙ ap (option_and_then unless_input) (ap (option_map (λ s. s.now)) (sym c.in-Some.is) ∙ c.get_str.ensures ∙ first_value-rows (found_of c.args.options.now) (codes "file"))

pub returns-else-eq : goal.returns-else-eq
returns-else-eq c =
    let is : bytes_eq c.in-Some.file.now (codes "-") ≡ false = sym c.eq.ensures ∙ c.if-eq.false in
    ap (λ (b : Bool). cond b None (Some c.in-Some.file.now)) (sym is)
    ∙ ap (option_and_then unless_input) (ap (option_map (λ s. s.now)) (sym c.in-Some.is) ∙ c.get_str.ensures ∙ first_value-rows (found_of c.args.options.now) (codes "file"))

pub returns-in-None : goal.returns-in-None
returns-in-None c =
    ap (option_and_then unless_input) (ap (option_map (λ s. s.now)) (sym c.in-None.is) ∙ c.get_str.ensures ∙ first_value-rows (found_of c.args.options.now) (codes "file"))
