use Rattle.std.proofs.Common.{[], ◌∷◌, ◌++◌, arith, length-append, sym, ◌∙◌, subst}
use Rattle.in_syntax.specs.Characters.{continues_name}
use Rattle.in_syntax.specs.Cursors.{RunsThrough}
use Rattle.in_syntax.proofs.Lexing.Cursors.{runs_more}
use Rattle.in_syntax.proofs.lexer.run.Goals as goal

pub loop-c-preserved : goal.loop-c-preserved
loop-c-preserved c =
    let i = c.loop-c.invariant in
    let more = runs_more continues_name c.args.spot c.loop-c.end c.args.text.now i.0 c.loop-c.rest.now c.in-Some.more.now c.in-Some.c i.1 c.in-Some.ensures (sym c.continues_name.ensures ∙ c.if-not-continues_name.false) in
    (i.0 ++ c.in-Some.c ∷ [], subst (λ t. RunsThrough continues_name c.args.spot c.args.text.now (i.0 ++ c.in-Some.c ∷ []) t c.in-Some.more.now) (sym c.past-end.ensures) more, omega (arith, i.2, length-append i.0 (c.in-Some.c ∷ [])))
