use Rattle.std.proofs.Common.{◌≡◌, ◌≤◌, ◌<◌, ◌+◌, ◌^◌, ℕ, Option, Some, List, length, count_by, is_some, sym, ap, subst, ◌∙◌, arith}
use Rattle.in_interaction.specs.After.{AreUnused}
use Rattle.in_interaction.specs.Following.{IsSite}
use Rattle.in_interaction.specs.Interacting.{MayInteract}
use Rattle.in_syntax.specs.TextLimits.{most_member_agents}
use Rattle.in_net.specs.Parts.{Parts, IsWhole, cell_in}
use Rattle.in_net.specs.Rules.{RuleParts}
use Rattle.in_net.specs.declared.nets.AgentNo.{AgentNo}
use Rattle.in_net.specs.declared.nets.Cell.{Cell}
use Rattle.in_interaction.proofs.interacting.after_pair.Goals as goal

pub unused-requires-clause-cells : goal.unused-requires-clause-cells
unused-requires-clause-cells c = subst (λ (cs : List (Option Cell)). length cs < 2 ^ 32) (sym c.cells.ensures.cells) c.cells.ensures.whole.agents

pub unused-requires-clause-few : goal.unused-requires-clause-few
unused-requires-clause-few c =
    let few = c.member_cells.ensures.few in
    let room = c.requires.1 in
    let one : count_by is_some c.cells.result.now ≡ count_by is_some c.args.net.now.cells = ap (count_by is_some) c.cells.ensures.cells in
    let two : length c.member_cells.result.now ≡ length c.args.rule.now.member.cells = ap length c.member_cells.ensures.cells in
    omega (arith, few, room, one, two)

is_site : (n : Parts) (r : RuleParts) (a b : AgentNo) (names : List AgentNo) (first k : ℕ) → MayInteract n r a b → IsWhole n → IsWhole r.member → length r.member.cells ≤ most_member_agents →
    ((c : Cell) → cell_in n a.0 ≡ Some c → length c.ends ≡ first + 1) → k ≡ length r.member.cells → AreUnused n.cells k names → IsSite (record { net = n; rule = r; one = a; two = b; first = first; names = names })
is_site n r a b names first k may whole member few arity many found = record {
  over = may.0;
  whole = whole;
  member = member;
  room = may.1;
  few = few;
  first = arity;
  many = found.0 ∙ many;
  names = λ j lt. found.1 j (let l = found.0 in omega (arith, l, lt));
}

pub invariant_of-site : goal.invariant_of-site
invariant_of-site c =
    let n = c.args.net.now in
    let many : length c.member_cells.result.now ≡ length c.args.rule.now.member.cells = ap length c.member_cells.ensures.cells in
    let found : AreUnused n.cells (length c.member_cells.result.now) c.as_slice.result.now =
    subst (AreUnused n.cells (length c.member_cells.result.now)) (sym c.as_slice.ensures.value) (subst (λ (cs : List (Option Cell)). AreUnused cs (length c.member_cells.result.now) c.in_ok-names.names.items) c.cells.ensures.cells (c.in_ok-names.ensures {u = tt})) in
    let site : IsSite (record { net = c.args.net.now; rule = c.args.rule.now; one = c.args.a; two = c.args.b; first = c.arity.result; names = c.as_slice.result.now }) =
    is_site n c.args.rule.now c.args.a c.args.b c.as_slice.result.now c.arity.result (length c.member_cells.result.now) c.requires c.cells.ensures.whole c.member_cells.ensures.whole c.member_cells.ensures.few c.arity.ensures many found in
    site
