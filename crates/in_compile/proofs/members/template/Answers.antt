use Rattle.std.proofs.Common.{◌≡◌, ◌↔◌, ap, subst, ◌∙◌, true, map}
use Rattle.std.specs.Prelude.{IsTrue}
use Rattle.in_symbols.specs.Tables.{arity_of}
use Rattle.in_syntax.specs.declared.symbol_no.SymbolNo.{SymbolNo}
use Rattle.in_net.specs.Parts.{Parts}
use Rattle.in_compile.specs.Cells.{is_of}
use Rattle.in_compile.specs.Members.{IsMemberOf}
use Rattle.in_compile.specs.Templates.{AreUnmarked}
use Rattle.in_compile.proofs.Listed.Slots.{small_member}
use Rattle.in_compile.proofs.members.template.Goals as goal

pub over_wires-requires : goal.over_wires-requires
over_wires-requires c =
    small_member c.args.symbols.now c.args.rule.now c.in_ok-member.member c.member.result.now c.member.ensures c.in_ok-member.ensures c.requires.whole c.heads.result c.heads.ensures c.arity-first_ends.result c.arity.result
    c.arity-first_ends.ensures.arity c.arity-first_ends.ensures.few c.arity.ensures.arity c.arity.ensures.few

pub within_wires-requires : goal.within_wires-requires
within_wires-requires c =
    small_member c.args.symbols.now c.args.rule.now c.in_ok-member.member c.member.result.now c.member.ensures c.in_ok-member.ensures c.requires.whole c.heads.result c.heads.ensures c.arity-first_ends.result c.arity.result
    c.arity-first_ends.ensures.arity c.arity-first_ends.ensures.few c.arity.ensures.arity c.arity.ensures.few

pub invariant_of-result : goal.invariant_of-result
invariant_of-result c = record {
  small =
      small_member c.args.symbols.now c.args.rule.now c.in_ok-member.member c.member.result.now c.member.ensures c.in_ok-member.ensures c.requires.whole c.heads.result c.heads.ensures c.arity-first_ends.result c.arity.result
      c.arity-first_ends.ensures.arity c.arity-first_ends.ensures.few c.arity.ensures.arity c.arity.ensures.few;
  own = c.own_order-own.ensures;
  over = c.in_ok-over.ensures;
  within = c.in_ok-within.ensures;
}

pub returns : goal.returns
returns c =
    let t = c.args.symbols.now in
    let heads = c.heads.ensures in
    record {
      heads = heads;
      classes = (
        subst (λ (h : SymbolNo × SymbolNo). is_of t c.class_of.result h.0.0 ≡ true) heads c.class_of.ensures,
        subst (λ (h : SymbolNo × SymbolNo). is_of t c.class_of-2.result h.1.0 ≡ true) heads c.class_of-2.ensures,
      );
      first_ends = c.arity-first_ends.ensures.arity ∙ ap (λ (h : SymbolNo × SymbolNo). arity_of t h.0.0) heads;
      unmarked = subst (λ (h : SymbolNo × SymbolNo). IsTrue c.are_unmarked-unmarked.result ↔ AreUnmarked t h) heads c.are_unmarked-unmarked.ensures;
      outputs = c.in_ok-outputs.ensures ∙ ap (λ (n : Parts). map (λ f. f.kind.output) n.free) c.member-3.ensures;
      member = subst (λ (n : Parts). IsMemberOf t n c.in_ok-member.member) c.member.ensures c.in_ok-member.ensures;
    }
