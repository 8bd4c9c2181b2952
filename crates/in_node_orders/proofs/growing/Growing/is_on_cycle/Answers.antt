use Rattle.std.proofs.Common.{◌∙◌, length, get_or, refl, sym, inl, inr, arith}
use Rattle.std.proofs.lemmas.Bool.{false≢true}
use Rattle.in_node_orders.proofs.Climbs.{pair_at}
use Rattle.in_node_orders.proofs.Edges.{ends_of, ends_small, off_cycles, on_cycles}
use Rattle.in_node_orders.proofs.growing.Growing.is_on_cycle.Goals as goal

pub number_at-requires : goal.number_at-requires
number_at-requires c =
    let g = c.args.self.now in
    let most = c.requires.growing.most in
    let less = c.requires.come in
    let pair = get_or c.as_slice.result.now c.args.edge (0, 0) in
    let ends = ends_of g.edges c.args.edge pair.0 pair.1 c.high_and_low-high.result.0 c.high_and_low-high.result.1 (pair_at g.edges c.as_slice.result.now c.args.edge c.as_slice.ensures (omega (arith, most, less))) c.high_and_low-high.ensures.same in
    (ends_small (length g.ups) g.edges c.requires.growing.within c.args.edge c.high_and_low-high.result.0 c.high_and_low-high.result.1 ends).0

pub returns-then-number_at-eq0 : goal.returns-then-number_at-eq0
returns-then-number_at-eq0 c =
    let g = c.args.self.now in
    let most = c.requires.growing.most in
    let less = c.requires.come in
    let pair = get_or c.as_slice.result.now c.args.edge (0, 0) in
    let high = c.high_and_low-high.result.0 in
    let low = c.high_and_low-high.result.1 in
    let ends = ends_of g.edges c.args.edge pair.0 pair.1 high low (pair_at g.edges c.as_slice.result.now c.args.edge c.as_slice.ensures (omega (arith, most, less))) c.high_and_low-high.ensures.same in
    ((λ t. on_cycles g c.requires.growing c.args.edge high low ends c.high_and_low-high.ensures.low c.requires.come (inl (sym c.number_at.ensures ∙ c.if-number_at-eq0.true))), λ on. refl)

pub returns-then-number_at-edge : goal.returns-then-number_at-edge
returns-then-number_at-edge c =
    let g = c.args.self.now in
    let most = c.requires.growing.most in
    let less = c.requires.come in
    let pair = get_or c.as_slice.result.now c.args.edge (0, 0) in
    let high = c.high_and_low-high.result.0 in
    let low = c.high_and_low-high.result.1 in
    let ends = ends_of g.edges c.args.edge pair.0 pair.1 high low (pair_at g.edges c.as_slice.result.now c.args.edge c.as_slice.ensures (omega (arith, most, less))) c.high_and_low-high.ensures.same in
    ((λ t. on_cycles g c.requires.growing c.args.edge high low ends c.high_and_low-high.ensures.low c.requires.come (inr (inl (λ e. c.if-number_at-edge.true (c.number_at-2.ensures ∙ e))))), λ on. refl)

pub returns-then-number_at-high : goal.returns-then-number_at-high
returns-then-number_at-high c =
    let g = c.args.self.now in
    let most = c.requires.growing.most in
    let less = c.requires.come in
    let pair = get_or c.as_slice.result.now c.args.edge (0, 0) in
    let high = c.high_and_low-high.result.0 in
    let low = c.high_and_low-high.result.1 in
    let ends = ends_of g.edges c.args.edge pair.0 pair.1 high low (pair_at g.edges c.as_slice.result.now c.args.edge c.as_slice.ensures (omega (arith, most, less))) c.high_and_low-high.ensures.same in
    ((λ t. on_cycles g c.requires.growing c.args.edge high low ends c.high_and_low-high.ensures.low c.requires.come (inr (inr (λ e. c.if-number_at-high.true (c.number_at-3.ensures ∙ e))))), λ on. refl)

pub returns : goal.returns
returns c =
    let g = c.args.self.now in
    let most = c.requires.growing.most in
    let less = c.requires.come in
    let pair = get_or c.as_slice.result.now c.args.edge (0, 0) in
    let high = c.high_and_low-high.result.0 in
    let low = c.high_and_low-high.result.1 in
    let ends = ends_of g.edges c.args.edge pair.0 pair.1 high low (pair_at g.edges c.as_slice.result.now c.args.edge c.as_slice.ensures (omega (arith, most, less))) c.high_and_low-high.ensures.same in
    ((λ t. absurd (false≢true t)), λ on. absurd (off_cycles g c.requires.growing c.args.edge high low ends c.high_and_low-high.ensures.low c.requires.come (λ e. c.if-number_at-eq0.false (c.number_at.ensures ∙ e)) (sym c.number_at-2.ensures ∙ c.if-number_at-edge.false) (sym c.number_at-3.ensures ∙ c.if-number_at-high.false) on))
