use Rattle.std.proofs.Common.{◌<◌, ◌+◌, ℕ, List, drop, length, length-drop, ap, ◌∙◌, remove, arith}
use Rattle.in_reducer.specs.PairQueues.{QueueParts}
use Rattle.in_reducer.proofs.PairQueues.{removed}
use Rattle.in_reducer.proofs.pair_queue.PairQueue.remove.Goals as goal

pub returns-else-number-len-clause-items : goal.returns-else-number-len-clause-items
returns-else-number-len-clause-items c =
    let xs = c.self.inside.row.items in
    let i = c.self.inside.first in
    let k = c.args.number in
    let is = ap (λ (q : QueueParts). q.items) c.self.view_is in
    let low : i + k < length xs = (let r = c.requires in let l = ap length is in let d = length-drop i xs in omega (arith, r, l, d)) in
    ap (drop i) c.remove.ensures.items ∙ removed xs i k low ∙ ap (λ (z : List (ℕ × ℕ)). remove z k) is
