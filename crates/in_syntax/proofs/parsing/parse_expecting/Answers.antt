use Rattle.std.proofs.Common.{sym, subst}
use Rattle.in_syntax.specs.Programs.{HasTexts, IsParsing}
use Rattle.in_syntax.specs.Expecting.{IsNotedOf}
use Rattle.in_syntax.proofs.Grammar.Parsed.{has_texts, of_text_when, parsed, noted_when}
use Rattle.in_syntax.proofs.Trees.Ordered.{in_order_when}
use Rattle.in_syntax.proofs.Trees.Sized.{sized_when}
use Rattle.in_syntax.proofs.parsing.parse_expecting.Goals as goal

pub program-requires : goal.program-requires
program-requires c = subst (HasTexts c.args.text.now) (sym c.as_slice.ensures.value) (has_texts c.args.text.now c.in_ok-tokens.tokens.items c.in_ok-tokens.ensures.texts)

pub returns-clause-tree : goal.returns-clause-tree
returns-clause-tree c =
    parsed c.args.limits c.args.text.now c.in_ok-tokens.tokens.items c.in_ok-tokens.end c.program.result c.in_ok-tokens.ensures.tokens c.in_ok-tokens.ensures.end
    (subst (λ ts. IsParsing c.args.limits c.args.text.now ts c.in_ok-tokens.end c.program.result) c.as_slice.ensures.value c.program.ensures.parsing)

pub returns-clause-of_text : goal.returns-clause-of_text
returns-clause-of_text c =
    of_text_when c.args.limits c.args.text.now c.program.result
    (parsed c.args.limits c.args.text.now c.in_ok-tokens.tokens.items c.in_ok-tokens.end c.program.result c.in_ok-tokens.ensures.tokens c.in_ok-tokens.ensures.end
    (subst (λ ts. IsParsing c.args.limits c.args.text.now ts c.in_ok-tokens.end c.program.result) c.as_slice.ensures.value c.program.ensures.parsing))

pub returns-clause-sized : goal.returns-clause-sized
returns-clause-sized c =
    sized_when c.args.limits c.args.text.now c.program.result
    (parsed c.args.limits c.args.text.now c.in_ok-tokens.tokens.items c.in_ok-tokens.end c.program.result c.in_ok-tokens.ensures.tokens c.in_ok-tokens.ensures.end
    (subst (λ ts. IsParsing c.args.limits c.args.text.now ts c.in_ok-tokens.end c.program.result) c.as_slice.ensures.value c.program.ensures.parsing))

pub returns-clause-order : goal.returns-clause-order
returns-clause-order c =
    in_order_when c.args.limits c.args.text.now c.program.result
    (parsed c.args.limits c.args.text.now c.in_ok-tokens.tokens.items c.in_ok-tokens.end c.program.result c.in_ok-tokens.ensures.tokens c.in_ok-tokens.ensures.end
    (subst (λ ts. IsParsing c.args.limits c.args.text.now ts c.in_ok-tokens.end c.program.result) c.as_slice.ensures.value c.program.ensures.parsing))

pub returns-clause-expected : goal.returns-clause-expected
returns-clause-expected c =
    noted_when c.args.limits c.args.text.now c.in_ok-tokens.tokens.items c.args.expected.now c.program.new.expected c.program.result c.in_ok-tokens.ensures.tokens
    (subst (λ ts. IsNotedOf c.args.limits c.args.text.now ts c.program.result c.program.new.expected) c.as_slice.ensures.value c.program.ensures.expected)
