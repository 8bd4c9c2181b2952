use Rattle.std.proofs.Common.{◌≤◌, ◌+◌, [], ◌∷◌, length, length-append, sym, ap, subst, ◌∙◌, arith}
use Rattle.in_net.specs.declared.nets.AgentNo.{AgentNo}
use Rattle.in_interaction.specs.Queues.{agents_at, numbers_of}
use Rattle.in_interaction.proofs.Public.{AreFirst, not_here, one_here, is_first}
use Rattle.in_compile.proofs.members.own_pairs.Goals as goal
use Rattle.in_compile.proofs.members.own_pairs.Goals.{in-Some+in_ok-push, in_default}

pub loop-wire-preserved : goal.loop-wire-preserved
loop-wire-preserved c =
    let t = c.args.symbols.now in
    let n = c.args.net.now in
    let w = c.loop-wire.wire in
    elim c.match-pair_of_wire.branch [
      | in-Some+in_ok-push b ↦
          let added = b.pairs-is ∙ (b.in_ok-push.ensures {u = tt}).ok in
          record {
            few = (let l = ap length added ∙ length-append c.loop-wire.pairs ((b.in-Some.one.0, b.in-Some.other.0) ∷ []) in let f = c.loop-wire.invariant.few in omega (arith, l, f));
            pairs =
                let q : AgentNo × AgentNo = (b.in-Some.one, b.in-Some.other) in
                let told = b.in-Some.ensures {u = tt} in
                subst (AreFirst t n (w + 1)) (sym added) (one_here t n c.requires.whole w c.loop-wire.pairs (numbers_of q) c.loop-wire.invariant.pairs told.0 told.1);
          }
      | in_default b ↦ record {
        few = (let l = ap length b.pairs-is in let f = c.loop-wire.invariant.few in omega (arith, l, f));
        pairs =
            let none = b.in_default.ensures {u = tt} in
            subst (AreFirst t n (w + 1)) (sym b.pairs-is) (not_here t n w c.loop-wire.pairs c.loop-wire.invariant.pairs (λ q j. none (agents_at q) j));
      }
    ]

pub returns-clause-pairs : goal.returns-clause-pairs
returns-clause-pairs c =
    let n = c.args.net.now in
    let last : length n.wires ≤ c.loop-wire.wire = omega (arith, c.loop-wire-test.false, c.wires-wire-end.ensures) in
    is_first c.args.symbols.now n c.requires.whole c.loop-wire.wire c.loop-wire.pairs c.loop-wire.invariant.pairs last
