use Rattle.std.proofs.Common.{◌≡◌, ◌<◌, ◌+◌, ◌-◌, ◌++◌, ◌∷◌, [], Some, List, length, length-append, slice_get, sym, subst, ap, ◌∙◌, arith}
use Rattle.in_interaction.specs.Interacting.{unused}
use Rattle.in_net.specs.declared.nets.AgentNo.{AgentNo}
use Rattle.in_interaction.proofs.Stepping.Unused.{few_unused, one_more}
use Rattle.in_interaction.proofs.interacting.unused.Goals as goal

pub overflow_cast-cells : goal.overflow_cast-cells
overflow_cast-cells c =
    let cs = c.args.cells.now in
    let found = length c.in_ok-names.names.items in
    let more = c.loop-more.more in
    let k : found ≡ c.len-found.result = omega arith in
    let less : found + more < c.args.count = omega (arith, c.loop-more-test.true, k) in
    let at = (c.in_ok-names.ensures {u = tt}).rest (found + more) (omega arith) less in
    let few = few_unused cs (found + more) in
    let room = c.requires.few in
    let left : found + more - found ≡ more = omega arith in
    omega (arith, at, few, room, left, less)

pub loop-more-init : goal.loop-more-init
loop-more-init c = record { many = omega arith; names = (c.in_ok-names.ensures {u = tt}).names }

pub loop-more-preserved : goal.loop-more-preserved
loop-more-preserved c =
    let cs = c.args.cells.now in
    let old = c.loop-more.names.items in
    let found = length c.in_ok-names.names.items in
    let more = c.loop-more.more in
    let k : found ≡ c.len-found.result = omega arith in
    let less : found + more < c.args.count = omega (arith, c.loop-more-test.true, k) in
    let many : length old ≡ found + more = omega (arith, c.loop-more.invariant.many, k) in
    let left : found + more - found ≡ more = omega arith in
    let here : unused cs (length old) ≡ length cs + more = ap (unused cs) many ∙ (c.in_ok-names.ensures {u = tt}).rest (found + more) (omega arith) less ∙ ap (λ z. length cs + z) left in
    let new : AgentNo = record { 0 = length cs + more } in
    let items : c.push.new.self.items ≡ old ++ new ∷ [] = (c.in_ok-push.ensures {u = tt}).items in
    let grown = length-append old (new ∷ []) in
    record {
      many = ap length items ∙ (let z : length (old ++ new ∷ []) ≡ c.len-found.result + (more + 1) = omega (arith, grown, many, k) in z);
      names = λ j lt. subst (λ (xs : List AgentNo). slice_get xs j ≡ Some (record { 0 = unused cs j })) (sym items)
          (one_more cs old (length cs + more) (sym here) c.loop-more.invariant.names j (let n = ap length items in omega (arith, n, grown, lt)));
    }

pub returns : goal.returns
returns c =
    let k : length c.in_ok-names.names.items ≡ c.len-found.result = omega arith in
    let few = (c.in_ok-names.ensures {u = tt}).few in
    let many : length c.loop-more.names.items ≡ c.args.count = omega (arith, c.loop-more.invariant.many, c.loop-more-test.false, c.loop-more.auto.more-end, few, k) in
    (many, λ j lt. c.loop-more.invariant.names j (omega (arith, many, lt)))
