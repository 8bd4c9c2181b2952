use Rattle.std.proofs.Common.{[], ◌∷◌, ◌++◌, sym, subst}
use Rattle.std.proofs.lemmas.Bool.{not_from_false, ne_eqb}
use Rattle.in_syntax.specs.Characters.{stays_in_comment}
use Rattle.in_syntax.specs.Tokens.{EndsLine}
use Rattle.in_syntax.specs.Cursors.{RunsThrough}
use Rattle.in_syntax.proofs.Lexing.Cursors.{runs_more}
use Rattle.in_syntax.proofs.Lexing.Moves.{comment_goes}
use Rattle.in_syntax.proofs.lexer.comment.Goals as goal
use Rattle.in_syntax.proofs.lexer.comment.Goals.{in-Some+then-c-eq10, in_default}

pub loop-c-preserved : goal.loop-c-preserved
loop-c-preserved c =
    let i = c.loop-c.invariant in
    let stays = not_from_false _ (ne_eqb c.in-Some.c 10 c.if-c-eq10.false) in
    let more = runs_more stays_in_comment c.args.spot c.loop-c.end c.args.text.now i.0 c.loop-c.rest.now c.in-Some.more.now c.in-Some.c i.1 c.in-Some.ensures stays in
    (i.0 ++ c.in-Some.c ∷ [], subst (λ t. RunsThrough stays_in_comment c.args.spot c.args.text.now (i.0 ++ c.in-Some.c ∷ []) t c.in-Some.more.now) (sym c.past-end.ensures) more)

pub returns : goal.returns
returns c =
    let i = c.loop-c.invariant in
    let goes = comment_goes c.args.spot c.loop-c.end c.args.text.now i.0 c.loop-c.rest.now c.requires.first i.1 in
    elim c.match-first_char.branch [
      | in-Some+then-c-eq10 w ↦ goes (subst EndsLine (sym w.in-Some.ensures.chars) w.if-c-eq10.true)
      | in_default w ↦ goes (subst EndsLine (sym w.in_default.ensures) tt)
    ]
