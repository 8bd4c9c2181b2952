use Rattle.std.proofs.Common.{inl, inr, ◌==◌, sym, ◌∙◌, subst}
use Rattle.std.proofs.lemmas.Bool.{ne_eqb}
use Rattle.in_syntax.specs.Cursors.{FirstFails}
use Rattle.in_syntax.proofs.Lexing.Moves.{mark_goes, meets_goes, sign_wrong}
use Rattle.in_syntax.proofs.lexer.sign.Goals as goal
use Rattle.in_syntax.proofs.lexer.sign.Goals.{then-first-eq62+in-Some-first_char+else-second-eq60, then-first-eq62+in_default-first_char, else-first-eq62}

pub returns-in-Some-mark_kind : goal.returns-in-Some-mark_kind
returns-in-Some-mark_kind c =
    mark_goes c.args.spot c.past-end.result c.args.text.now c.in-Some.rest.now c.in-Some.first c.in-Some-mark_kind.kind c.place_to-place.result
    c.requires.within c.requires.first c.in-Some.ensures c.past-end.ensures (sym c.mark_kind.ensures ∙ c.in-Some-mark_kind.is) c.place_to-place.ensures

pub returns-then-second-eq60 : goal.returns-then-second-eq60
returns-then-second-eq60 c =
    meets_goes c.args.spot c.past-end.result c.past-end-then-second-eq60.result c.args.text.now c.in-Some.rest.now c.in-Some-first_char.rest.now c.in-Some.first c.in-Some-first_char.second c.place_to-place-then-second-eq60.result
    c.requires.within c.in-Some.ensures c.if-first-eq62.true c.past-end.ensures c.in-Some-first_char.ensures c.if-second-eq60.true c.past-end-then-second-eq60.ensures c.place_to-place-then-second-eq60.ensures

pub returns : goal.returns
returns c =
    let wrong = sign_wrong c.args.spot c.args.text.now c.in-Some.rest.now c.in-Some.first c.requires.first c.in-Some.ensures (sym c.mark_kind.ensures ∙ c.in_default-mark_kind.is) in
    elim c.if-first-eq62.branch [
      | then-first-eq62+in-Some-first_char+else-second-eq60 w ↦ wrong (inr (subst (FirstFails (λ d. d == 60)) (sym w.in-Some-first_char.ensures.chars) (ne_eqb w.in-Some-first_char.second 60 w.if-second-eq60.false)))
      | then-first-eq62+in_default-first_char w ↦ wrong (inr (subst (FirstFails (λ d. d == 60)) (sym w.in_default-first_char.ensures) tt))
      | else-first-eq62 w ↦ wrong (inl (ne_eqb c.in-Some.first 62 w.if-first-eq62.false))
    ]
