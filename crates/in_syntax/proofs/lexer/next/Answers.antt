use Rattle.std.proofs.Common.{sym, ◌∙◌}
use Rattle.in_syntax.proofs.Lexing.Moves.{blank_goes}
use Rattle.in_syntax.proofs.lexer.next.Goals as goal

pub returns-then-is_blank : goal.returns-then-is_blank
returns-then-is_blank c =
    blank_goes c.args.spot c.past.result c.args.text.now c.in-Some.rest.now c.in-Some.first c.requires c.in-Some.ensures c.past.ensures (sym c.is_blank.ensures ∙ c.if-is_blank.true)
