-- An accepted program has one end.
use Rattle.std.proofs.Common.{sym, ◌∙◌}
use Rattle.in_check.specs.Systems.{system_of}
use Rattle.in_check.proofs.Public.{is_sound}
use Rattle.in_order.specs.Ends.{words_in, ProgramsHaveOneEnd}
use Rattle.in_order.proofs.Orders.EndAlike.{runs_end_alike}

pub programs_have_one_end : ProgramsHaveOneEnd
programs_have_one_end limits input p accepted k written e = (
  e,
  λ j other f. (
      let alike = runs_end_alike (system_of p) (is_sound limits input p accepted) k j e.net f.net e.reached f.reached e.ended f.ended in
      (alike.count, e.is_text ∙ alike.text (words_in p) e.agents f.agents e.are_agents f.are_agents ∙ sym f.is_text)
      ),
)
