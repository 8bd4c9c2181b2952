use Rattle.std.proofs.Common.{◌+◌, ◌<◌, length, slice_index_or, sym, subst, arith}
use Rattle.in_simple_deriving.specs.declared.heads.Met.TheVariants.{Head}
use Rattle.in_simple_deriving.specs.Heads.{MeetsAt, last_turn}
use Rattle.in_simple_deriving.specs.Turns.{NodeOrder}
use Rattle.in_simple_deriving.proofs.HeadParts.{left_in}
use Rattle.in_simple_deriving.proofs.heads.Heads.met.Goals as goal

pub returns-clause-met : goal.returns-clause-met
returns-clause-met c =
    let x = c.self.inside.order.now in
    let n = c.args.node in
    let k = c.args.turn in
    let e = c.self.view_is in
    let small = subst (λ (z : NodeOrder). n < length z.net.nodes) (sym e) c.requires.node in
    let less = subst (λ (z : NodeOrder). k < last_turn z n) (sym e) c.requires.turn in
    let r = c.self.invariant.each n k (left_in x 0 n small (omega arith)) less in
    let a = subst (λ z. MeetsAt x n k (slice_index_or z (slice_index_or c.self.inside.first n 0 + k) (Head 0))) (sym c.as_slice.ensures) r in
    let b = subst (λ z. MeetsAt x n k (slice_index_or c.as_slice.result.now (slice_index_or z n 0 + k) (Head 0))) (sym c.as_slice-2.ensures) a in
    subst (λ z. MeetsAt z n k (slice_index_or c.as_slice.result.now (slice_index_or c.as_slice-2.result.now n 0 + k) (Head 0))) e b
