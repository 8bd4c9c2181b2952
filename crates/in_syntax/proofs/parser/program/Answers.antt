use Rattle.std.proofs.lemmas.Grind.{common_steps}
use Rattle.std.proofs.Common.{◌≡◌, ◌≤◌, ℕ, List, [], Result, Ok, Err, take, drop, length, sym, ap, subst, ◌∙◌, arith}
use Rattle.std.proofs.lemmas.List.{drop_all, take_all}
use Rattle.in_syntax.specs.declared.expecting.Expected.{Expected}
use Rattle.in_syntax.specs.declared.faults.Code.{Code}
use Rattle.in_syntax.specs.declared.faults.Fault.{Fault}
use Rattle.in_syntax.specs.declared.faults.Fault.TheVariants.{Refused, Memory}
use Rattle.in_syntax.specs.declared.places.Place.{Place}
use Rattle.in_syntax.specs.declared.reader.Reader.{Reader}
use Rattle.in_syntax.specs.declared.text_limits.TextLimits.{TextLimits}
use Rattle.in_syntax.specs.declared.tree.Source.{Source}
use Rattle.in_syntax.specs.declared.words.Token.{Token}
use Rattle.in_syntax.specs.Programs.{signs_of, place_at}
use Rattle.in_syntax.specs.Steps.{run, start, refused, EndsText, GivesSource, SignsLead, Notes, expected_in}
use Rattle.in_syntax.proofs.Lexing.Reading.{texts_after, goes_on, leads_after}
use Rattle.in_syntax.proofs.Grammar.Continues.{noted}
use Rattle.in_syntax.proofs.Grammar.Outcomes.{parsing, whole_expects}
use Rattle.in_syntax.proofs.parser.program.Goals as goal

pub loop-token-preserved : goal.loop-token-preserved
loop-token-preserved c = record {
  texts = texts_after c.args.text.now c.loop-token.token-index c.args.tokens.now c.loop-token.invariant.texts;
  answer = goes_on c.args.text.now c.loop-token.token-index c.args.tokens.now c.loop-token.reader c.take.new.self
      (run (start c.args.limits) (signs_of c.args.text.now c.args.tokens.now)) (omega arith) c.in_ok-take.ensures c.loop-token.invariant.answer;
  leads = leads_after (start c.args.limits) c.args.text.now c.loop-token.token-index c.args.tokens.now c.loop-token.reader c.take.new.self (omega arith) c.in_ok-take.ensures c.loop-token.invariant.leads;
  expected = c.expected_in-in-loop-token.ensures;
}

-- where the end of the tokens is refused
refused_at_end : (limits : TextLimits) (text : List ℕ) (i : ℕ) (tokens : List Token) (reader : Reader) (c : Code) → length tokens ≤ i → run reader (signs_of text (drop i tokens)) ≡ run (start limits) (signs_of text tokens) →
    run reader [] ≡ refused c [] → run (start limits) (signs_of text tokens) ≡ refused c (signs_of text (drop (length tokens) tokens))
refused_at_end limits text i tokens reader c past e is =
    sym e ∙ ap (λ (ts : List Token). run reader (signs_of text ts)) (drop_all i tokens past) ∙ is
    ∙ ap (λ (ts : List Token). refused c (signs_of text ts)) (sym (drop_all (length tokens) tokens (omega arith)))

-- what the reader makes of the end, once it has read all tokens
ended : (limits : TextLimits) (text : List ℕ) (i : ℕ) (tokens : List Token) (end : Place) (reader : Reader) (r : Result Source Fault) → length tokens ≤ i →
    run reader (signs_of text (drop i tokens)) ≡ run (start limits) (signs_of text tokens) → EndsText reader end r → GivesSource limits text tokens end r
ended limits text i tokens end reader (Ok source) past e h = sym e ∙ ap (λ (ts : List Token). run reader (signs_of text ts)) (drop_all i tokens past) ∙ h
ended limits text i tokens end reader (Err (Refused f)) past e h = (
  length tokens,
  omega arith,
  refused_at_end limits text i tokens reader f.code past e h.0,
  h.1 ∙ ap (λ (ts : List Token). place_at ts end) (sym (drop_all (length tokens) tokens (omega arith))),
  h.2,
)
ended limits text i tokens end reader (Err (Memory m)) past e h = tt

-- and what is noted then
noted_at_end : (limits : TextLimits) (text : List ℕ) (i : ℕ) (tokens : List Token) (end : Place) (reader : Reader) (e : Expected) (r : Result Source Fault) → length tokens ≤ i →
    SignsLead (start limits) (signs_of text (take i tokens)) reader → e ≡ expected_in reader.state → run reader (signs_of text (drop i tokens)) ≡ run (start limits) (signs_of text tokens) → EndsText reader end r →
    Notes limits text tokens r e
noted_at_end limits text i tokens end reader e (Ok source) past leads is same h = is ∙ whole_expects reader source h
noted_at_end limits text i tokens end reader e (Err (Refused f)) past leads is same h = (
  length tokens,
  omega arith,
  refused_at_end limits text i tokens reader f.code past same h.0,
  (reader, subst (λ ts. SignsLead (start limits) (signs_of text ts) reader) (take_all i tokens past ∙ sym (take_all (length tokens) tokens (omega arith))) leads, is),
)
noted_at_end limits text i tokens end reader e (Err (Memory m)) past leads is same h = tt

pub returns-clause-parsing : goal.returns-clause-parsing
returns-clause-parsing c =
    parsing c.args.limits c.args.text.now c.args.tokens.now c.args.end c.finish.result (ended c.args.limits c.args.text.now c.loop-token.token-index c.args.tokens.now c.args.end c.loop-token.reader c.finish.result c.loop-token-test.false c.loop-token.invariant.answer c.finish.ensures)

pub returns-clause-expected : goal.returns-clause-expected
returns-clause-expected c =
    noted c.args.limits c.args.text.now c.args.tokens.now c.finish.result c.loop-token.expected
    (noted_at_end c.args.limits c.args.text.now c.loop-token.token-index c.args.tokens.now c.args.end c.loop-token.reader c.loop-token.expected c.finish.result c.loop-token-test.false
    c.loop-token.invariant.leads c.loop-token.invariant.expected c.loop-token.invariant.answer c.finish.ensures)

pub returns-in_err-take-clause-parsing : goal.returns-in_err-take-clause-parsing
returns-in_err-take-clause-parsing c = parsing c.args.limits c.args.text.now c.args.tokens.now c.args.end c.from_residual.result (grind (arith, common_steps))

pub returns-in_err-take-clause-expected : goal.returns-in_err-take-clause-expected
returns-in_err-take-clause-expected c = noted c.args.limits c.args.text.now c.args.tokens.now c.from_residual.result c.loop-token.expected (grind (arith, common_steps))
