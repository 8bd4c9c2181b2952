use Rattle.std.proofs.Common.{◌≤◌, ◌+◌, length, sym, subst}
use Rattle.in_interaction.specs.Following.{SiteParts}
use Rattle.in_interaction.specs.Making.{AreMadeBelow}
use Rattle.in_net.specs.Parts.{Parts}
use Rattle.in_interaction.proofs.Stepping.Making.{none_below, none_more, one_more, all_ends}
use Rattle.in_interaction.proofs.making.made.Goals as goal
use Rattle.in_interaction.proofs.making.made.Goals.{in-Some+in_ok-push, in_default}

pub loop-end-init : goal.loop-end-init
loop-end-init c =
    let s : SiteParts = record { net = c.args.net.now; rule = c.args.rule.now; one = c.args.a; two = c.args.b; first = c.arity.result; names = c.as_slice.result.now } in
    subst (AreMadeBelow c.args.symbols.now s 0) (sym c.new-pairs.ensures.items) (none_below c.args.symbols.now s)

pub loop-end-preserved : goal.loop-end-preserved
loop-end-preserved c =
    let t = c.args.symbols.now in
    let s : SiteParts = record { net = c.args.net.now; rule = c.args.rule.now; one = c.args.a; two = c.args.b; first = c.arity.result; names = c.as_slice.result.now } in
    let e = c.loop-end.end in
    elim c.match-pair_through.branch [
      | in-Some+in_ok-push w ↦
          let found = w.in-Some.ensures {u = tt} in
          subst (λ v. AreMadeBelow t s (e + 1) v.items) (sym w.pairs-is)
          (subst (AreMadeBelow t s (e + 1)) (sym (w.in_ok-push.ensures {u = tt}).ok)
          (one_more t s e c.loop-end.pairs.items w.in-Some.pair c.loop-end.invariant found.0 found.1))
      | in_default w ↦
          subst (λ v. AreMadeBelow t s (e + 1) v.items) (sym w.pairs-is) (none_more t s e c.loop-end.pairs.items c.loop-end.invariant (w.in_default.ensures {u = tt}))
    ]

pub returns : goal.returns
returns c =
    let s : SiteParts = record { net = c.args.net.now; rule = c.args.rule.now; one = c.args.a; two = c.args.b; first = c.arity.result; names = c.as_slice.result.now } in
    let last : length c.args.rule.now.member.free ≤ c.loop-end.end = subst (λ (m : Parts). length m.free ≤ c.loop-end.end) c.member-right.ensures (subst (λ k. k ≤ c.loop-end.end) c.free_ends-end-end.ensures c.loop-end-test.false) in
    let added = c.in_ok-add_own.ensures {u = tt} in
    record {
      over = c.loop-end.pairs.items;
      own = added.0;
      are_over = all_ends c.args.symbols.now s c.loop-end.end c.loop-end.pairs.items c.cells.ensures.whole c.member_cells.ensures.whole c.requires.over c.loop-end.invariant last;
      are_own = added.1;
      listed = added.2;
    }
