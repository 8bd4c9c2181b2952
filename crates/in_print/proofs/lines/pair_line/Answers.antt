use Rattle.std.proofs.Common.{◌∙◌, ◌∷◌, [], suc, ap, arith}
use Rattle.in_check.specs.NetText.{agent_term}
use Rattle.in_print.specs.Terms.{term_in}
use Rattle.in_print.specs.Texts.{setting_of}
use Rattle.in_print.specs.Writings.{with_bytes, with_parts}
use Rattle.in_print.proofs.LineByLine.{first_there, second_there, first_term, second_term, two_terms}
use Rattle.in_print.proofs.lines.pair_line.Goals as goal

pub term-requires-clause-point : goal.term-requires-clause-point
term-requires-clause-point c = second_there c.args.machine.now c.requires.machine c.args.number c.pair.result.0 c.pair.result.1 c.pair.ensures.pair

pub term-requires-2-clause-point : goal.term-requires-2-clause-point
term-requires-2-clause-point c = first_there c.args.machine.now c.requires.machine c.args.number c.pair.result.0 c.pair.result.1 c.pair.ensures.pair

pub returns : goal.returns
returns c = (
  (c.pair.result.0.0, c.pair.result.1.0),
  c.pair.ensures.pair,
  λ d le. (
      let m = c.args.machine.now in let s = setting_of m in let w = c.args.sheet.now in
      let one = c.pair.result.0 in let two = c.pair.result.1 in
      let first = c.in_ok-term.ensures (suc d) (omega (arith, le)) ∙ ap (with_parts s w) (first_term m c.requires.machine c.args.number one two c.pair.ensures.pair d) in
      let second = c.in_ok-term-2.ensures (suc d) (omega (arith, le)) ∙ ap (with_parts s c.add.new.self) (second_term m c.requires.machine c.args.number one two c.pair.ensures.pair d) in
      c.in_ok-add-2.ensures ∙ ap (λ w. with_bytes w (10 ∷ [])) (second ∙ ap (λ w. with_parts s w (agent_term s.symbols s.net (term_in s d) two.0)) (c.in_ok-add.ensures ∙ ap (λ w. with_bytes w (32 ∷ 126 ∷ 32 ∷ [])) first))
      ∙ two_terms s w (agent_term s.symbols s.net (term_in s d) one.0) (agent_term s.symbols s.net (term_in s d) two.0)
      ),
)
