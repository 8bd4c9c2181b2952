use Rattle.std.proofs.Common.{◌≡◌, Option, Some, None, List, length, slice_index_or, sym, ap, subst, ◌∙◌, arith}
use Rattle.in_net.specs.Parts.{cell_in}
use Rattle.in_net.specs.declared.nets.Cell.{Cell}
use Rattle.in_net.proofs.Public.{there_read}
use Rattle.in_base.proofs.Places.{some_same}
use Rattle.in_interaction.proofs.interacting.arity.Goals as goal

pub overflow_cast-result : goal.overflow_cast-result
overflow_cast-result c =
    let n = c.args.net.now in
    let whole = c.cells.ensures.whole in
    let is = subst (λ (cs : List (Option Cell)). c.index-cells-agent.result ≡ slice_index_or cs c.args.agent.0 c.index-cells-agent.result) c.cells.ensures.cells c.index-cells-agent.is in
    let read = there_read n.cells c.args.agent.0 c.index-cells-agent.result c.requires.0 c.requires.1 is in
    let same : length c.in-Some.cell.ends ≡ length c.requires.0.ends = ap (λ (c : Cell). length c.ends) (some_same c.index-cells-agent.result c.in-Some.cell c.requires.0 c.in-Some.is read) in
    let most = whole.ports c.args.agent.0 c.requires.0 c.requires.1 in
    omega (arith, c.len.ensures, same, most)

pub overflow_sub-result : goal.overflow_sub-result
overflow_sub-result c =
    let n = c.args.net.now in
    let is = subst (λ (cs : List (Option Cell)). c.index-cells-agent.result ≡ slice_index_or cs c.args.agent.0 c.index-cells-agent.result) c.cells.ensures.cells c.index-cells-agent.is in
    let read = there_read n.cells c.args.agent.0 c.index-cells-agent.result c.requires.0 c.requires.1 is in
    let same : length c.in-Some.cell.ends ≡ length c.requires.0.ends = ap (λ (c : Cell). length c.ends) (some_same c.index-cells-agent.result c.in-Some.cell c.requires.0 c.in-Some.is read) in
    omega (arith, c.len.ensures, same, c.requires.2)

pub unreachable-requires : goal.unreachable-requires
unreachable-requires c =
    let is = subst (λ (cs : List (Option Cell)). c.index-cells-agent.result ≡ slice_index_or cs c.args.agent.0 c.index-cells-agent.result) c.cells.ensures.cells c.index-cells-agent.is in
    let read = there_read c.args.net.now.cells c.args.agent.0 c.index-cells-agent.result c.requires.0 c.requires.1 is in
    let z : ◌≡◌ {A = Option Cell} None (Some c.requires.0) = sym c.in-None.is ∙ read in
    cc

pub returns : goal.returns
returns c = λ d e. (
    let n = c.args.net.now in
    let is = subst (λ (cs : List (Option Cell)). c.index-cells-agent.result ≡ slice_index_or cs c.args.agent.0 c.index-cells-agent.result) c.cells.ensures.cells c.index-cells-agent.is in
    let read = there_read n.cells c.args.agent.0 c.index-cells-agent.result c.requires.0 c.requires.1 is in
    let same : length c.in-Some.cell.ends ≡ length c.requires.0.ends = ap (λ (c : Cell). length c.ends) (some_same c.index-cells-agent.result c.in-Some.cell c.requires.0 c.in-Some.is read) in
    let other : length d.ends ≡ length c.requires.0.ends = ap (λ (c : Cell). length c.ends) (some_same (cell_in n c.args.agent.0) d c.requires.0 e c.requires.1) in
    omega (arith, c.len.ensures, same, other, c.requires.2)
    )
