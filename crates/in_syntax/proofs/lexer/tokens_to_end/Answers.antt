use Rattle.std.proofs.Common.{◌<◌, ◌≤◌, length, sym, subst}
use Rattle.std.proofs.lemmas.Result.{err_from_is_err_and}
use Rattle.in_syntax.specs.Tokens.{IsTokenFault, long_text}
use Rattle.in_syntax.specs.Cursors.{RefusedBy}
use Rattle.in_syntax.proofs.Lexing.TokenSteps.{stop_is_fault, end_is_fault, end_is_whole}
use Rattle.in_syntax.proofs.Lexing.Standing.{tokens_stand}
use Rattle.in_syntax.proofs.lexer.tokens_to_end.Goals as goal

pub returns-then-text-text_bytes-clause-fault : goal.returns-then-text-text_bytes-clause-fault
returns-then-text-text_bytes-clause-fault c =
    subst (RefusedBy (IsTokenFault c.args.limits c.args.text.now)) (sym c.refused.ensures) (long_text (subst (λ n. n < length c.args.text.now) c.text_bytes.ensures c.if-text-text_bytes.true))

pub returns-in_err-tokens-clause-fault : goal.returns-in_err-tokens-clause-fault
returns-in_err-tokens-clause-fault c =
    let p = err_from_is_err_and c.from_residual.result c.from_residual.ensures.1 in
    rw (p.1, p.2) (stop_is_fault c.args.limits c.args.text.now c.front-front.result.now c.in_err-tokens.field-0.0 (subst (λ n. length c.args.text.now ≤ n) c.text_bytes.ensures c.if-text-text_bytes.false) c.front-front.ensures c.in_err-tokens.ensures.fault)

pub returns-then-front-text-clause-fault : goal.returns-then-front-text-clause-fault
returns-then-front-text-clause-fault c =
    subst (RefusedBy (IsTokenFault c.args.limits c.args.text.now)) (sym c.refused-then-front-text.ensures)
    (end_is_fault c.args.limits c.args.text.now c.front-front.result.now c.in_ok-tokens.tokens.items c.in_ok-tokens.end (subst (λ n. length c.args.text.now ≤ n) c.text_bytes.ensures c.if-text-text_bytes.false) c.front-front.ensures c.in_ok-tokens.ensures.tokens c.in_ok-tokens.ensures.end c.if-front-text.true)

pub returns-clause-texts : goal.returns-clause-texts
returns-clause-texts c =
    tokens_stand c.args.limits c.args.text.now c.in_ok-tokens.tokens.items
    (end_is_whole c.args.limits c.args.text.now c.front-front.result.now c.in_ok-tokens.tokens.items (subst (λ n. length c.args.text.now ≤ n) c.text_bytes.ensures c.if-text-text_bytes.false) c.front-front.ensures c.front-front.utf8 c.in_ok-tokens.ensures.tokens c.if-front-text.false)
