use Rattle.std.proofs.Common.{◌≡◌, ◌<◌, ◌≤◌, ◌+◌, length, count_by, is_some, sym, ap, ◌∙◌, arith}
use Rattle.std.proofs.lemmas.List.{take_all}
use Rattle.in_compile.specs.Cells.{takes}
use Rattle.in_compile.proofs.Needs.Counting.{all_there, one_more, no_more, none_here}
use Rattle.in_compile.proofs.cells.agents_of.Goals as goal
use Rattle.in_compile.proofs.cells.agents_of.Goals.{in-Some+then-is_of, in-Some+else-is_of, in_default}

pub loop-number-preserved : goal.loop-number-preserved
loop-number-preserved c =
    let t = c.args.symbols.now in
    let n = c.args.net.now in
    let x = c.loop-number.number in
    let all : count_by is_some n.cells ≡ length n.cells = all_there n.cells c.requires.there in
    let within : x < length n.cells = omega (arith, all, c.agents-number-end.ensures.count, c.loop-number-test.true) in
    elim c.match-symbol.branch [
      | in-Some+then-is_of w ↦ w.count-is ∙ ap (λ z. z + 1) c.loop-number.invariant ∙ sym (one_more t c.args.class n x within w.in-Some.symbol (sym (w.in-Some.ensures {u = tt})) (sym (w.if-is_of.ensures {u = tt})))
      | in-Some+else-is_of w ↦ w.count-is ∙ c.loop-number.invariant ∙ sym (no_more t c.args.class n x within w.in-Some.symbol (sym (w.in-Some.ensures {u = tt})) (sym (w.if-is_of.ensures {u = tt})))
      | in_default w ↦ w.count-is ∙ c.loop-number.invariant ∙ sym (none_here t c.args.class n x within (sym (w.in_default.ensures {u = tt})))
    ]

pub returns : goal.returns
returns c =
    let all : count_by is_some c.args.net.now.cells ≡ length c.args.net.now.cells = all_there c.args.net.now.cells c.requires.there in
    let past : length c.args.net.now.cells ≤ c.loop-number.number = omega (arith, all, c.agents-number-end.ensures.count, c.loop-number-test.false) in
    c.loop-number.invariant ∙ ap (count_by (takes c.args.symbols.now c.args.class)) (take_all c.loop-number.number c.args.net.now.cells past)
