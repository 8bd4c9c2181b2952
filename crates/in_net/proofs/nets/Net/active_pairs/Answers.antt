use Rattle.std.proofs.Common.{◌≤◌, ◌+◌, length, Option, List, sym, subst}
use Rattle.in_net.specs.Parts.{IsWhole}
use Rattle.in_net.specs.declared.nets.Cell.{Cell}
use Rattle.in_net.proofs.AtPairs.ActivePairs.{AreFirstPairs, none_yet, none_here, one_here, all_pairs}
use Rattle.in_net.proofs.nets.Net.active_pairs.Goals as goal
use Rattle.in_net.proofs.nets.Net.active_pairs.Goals.{in-Some+in_ok-push, in_default}

pub loop-number-init : goal.loop-number-init
loop-number-init c =
    let whole = subst IsWhole c.self.view_is c.self.invariant in
    subst (AreFirstPairs c.args.symbols.now c.args.self.now 0) (sym c.new-pairs.ensures.items) (none_yet c.args.symbols.now c.args.self.now whole)

pub loop-number-preserved : goal.loop-number-preserved
loop-number-preserved c =
    let t = c.args.symbols.now in
    let n = c.args.self.now in
    let whole = subst IsWhole c.self.view_is c.self.invariant in
    let x = c.loop-number.number in
    elim c.match-pair_at.branch [
      | in-Some+in_ok-push w ↦
          let found = w.in-Some.ensures {u = tt} in
          subst (λ v. AreFirstPairs t n (x + 1) v.items) (sym w.pairs-is)
          (subst (AreFirstPairs t n (x + 1)) (sym (w.in_ok-push.ensures {u = tt}).items)
          (one_here t n whole x c.loop-number.pairs.items w.in-Some.pair c.loop-number.invariant found.0 found.1))
      | in_default w ↦
          subst (λ v. AreFirstPairs t n (x + 1) v.items) (sym w.pairs-is)
          (none_here t n whole x c.loop-number.pairs.items c.loop-number.invariant (w.in_default.ensures {u = tt}))
    ]

pub returns : goal.returns
returns c =
    let whole = subst IsWhole c.self.view_is c.self.invariant in
    let last : length c.args.self.now.cells ≤ c.loop-number.number = subst (λ (cs : List (Option Cell)). length cs ≤ c.loop-number.number) c.cells-number-end.ensures.cells c.loop-number-test.false in
    all_pairs c.args.symbols.now c.args.self.now whole c.loop-number.number c.loop-number.pairs.items c.loop-number.invariant last
