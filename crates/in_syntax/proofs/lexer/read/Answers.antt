use Rattle.std.proofs.Common.{[], ◌++◌, refl, sym, ◌∙◌, ap, subst, append_assoc}
use Rattle.std.specs.Prelude.{option_to_list}
use Rattle.std.specs.Str.{chars}
use Rattle.std.proofs.lemmas.List.{append-nil}
use Rattle.in_syntax.specs.Places.{start}
use Rattle.in_syntax.specs.Tokens.{Reads, ends, goes_on, here, later}
use Rattle.in_syntax.specs.Cursors.{RefusedBy, IsStopOf}
use Rattle.in_syntax.proofs.Lexing.TokenSteps.{passes_end}
use Rattle.in_syntax.proofs.lexer.read.Goals as goal

pub returns-in-End-clause-tokens : goal.returns-in-End-clause-tokens
returns-in-End-clause-tokens c =
    let items = c.loop-tokens.tokens.items in
    subst (Reads start (chars c.args.text.now)) (append-nil items)
    (c.loop-tokens.invariant.reads [] (subst (λ cs. Reads c.loop-tokens.spot cs []) (sym c.in-End.ensures) ends))

pub loop-tokens-preserved : goal.loop-tokens-preserved
loop-tokens-preserved c =
    let i = c.loop-tokens.invariant in
    let goes = c.in-Past.ensures in
    let ts = option_to_list c.in-Past.token in
    let items = c.loop-tokens.tokens.items in
    record {
      within = goes.within;
      utf8 = goes.utf8;
      reads = λ more h. subst (Reads start (chars c.args.text.now)) (sym (ap (λ z. z ++ more) c.in_ok-keep-in-Past.ensures ∙ append_assoc items ts more)) (i.reads (ts ++ more) (goes_on ts more goes.passes h));
      stops = λ code at h. i.stops code at (later goes.passes h);
      end = passes_end c.loop-tokens.spot c.in-Past.end (chars c.loop-tokens.rest.now) (chars c.in-Past.more.now) ts goes.passes ∙ i.end;
    }

pub returns-in-Wrong-clause-fault : goal.returns-in-Wrong-clause-fault
returns-in-Wrong-clause-fault c =
    subst (RefusedBy (IsStopOf (chars c.args.text.now))) (sym c.refused.ensures)
    (c.in-Wrong.code, c.in-Wrong.place, c.loop-tokens.invariant.stops c.in-Wrong.code c.in-Wrong.place (here c.in-Wrong.ensures), refl)
