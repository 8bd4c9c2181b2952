use Rattle.std.proofs.Common.{◌≡◌, ◌<◌, ℕ, List, length, get_or, sym, ◌∙◌, ap, slice_get, Some}
use Rattle.std.proofs.lemmas.Option.{slice_get-get_or}
use Rattle.in_syntax.specs.declared.tree.SourceRule.{SourceRule}
use Rattle.in_net.proofs.Texts.Bodies.{readable}
use Rattle.in_net.proofs.members.build_rule.Goals as goal

found : (rules items : List SourceRule) (i : ℕ) (r : SourceRule) → items ≡ rules → i < length rules → r ≡ get_or items i r → slice_get rules i ≡ Some r
found rules items i r same lt is = slice_get-get_or rules i r lt ∙ ap Some (ap (λ z. get_or z i r) (sym same) ∙ sym is)

pub rule_of-requires : goal.rule_of-requires
rule_of-requires c =
    readable c.args.source.now c.args.symbols.now c.index-as_slice-index.result c.args.index c.requires.sized c.requires.order c.requires.tabled
    (found c.args.source.now.rules c.as_slice.result.now c.args.index c.index-as_slice-index.result c.as_slice.ensures c.requires.index c.index-as_slice-index.is)

pub returns : goal.returns
returns c =
    (c.index-as_slice-index.result, found c.args.source.now.rules c.as_slice.result.now c.args.index c.index-as_slice-index.result c.as_slice.ensures c.requires.index c.index-as_slice-index.is, c.rule_of.ensures)
