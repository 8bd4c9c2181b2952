use Rattle.std.proofs.Common.{Some, sym, ap, ◌∙◌, arith}
use Rattle.std.specs.Prelude.{slice_index_or}
use Rattle.in_arena.specs.declared.content.CellNo.{CellNo}
use Rattle.in_compile.proofs.Public.{read_at}
use Rattle.in_reducer.proofs.Pairs.Queued.{one_more_own}
use Rattle.in_reducer.proofs.wiring.queue_begun.Goals as goal

pub agent_at-first-requires : goal.agent_at-first-requires
agent_at-first-requires c =
    let h = c.requires.there in
    let there = h.2 c.loop-number.number c.pair-one.result c.pair-one.ensures in
    (slice_index_or h.0 c.pair-one.result.0 (record { 0 = 0 }), h.1 c.pair-one.result.0 there.0)

pub agent_at-second-requires : goal.agent_at-second-requires
agent_at-second-requires c =
    let h = c.requires.there in
    let there = h.2 c.loop-number.number c.pair-one.result c.pair-one.ensures in
    (slice_index_or h.0 c.pair-one.result.1 (record { 0 = 0 }), h.1 c.pair-one.result.1 there.1)

pub loop-number-preserved : goal.loop-number-preserved
loop-number-preserved c =
    let i = c.loop-number.invariant in
    let q = c.pair-one.result in
    record {
      items = λ ns at pairs. (
          let there = pairs c.loop-number.number q c.pair-one.ensures in
          let first = read_at ns q.0 there.0 ∙ ap (λ (n : CellNo). Some n) (sym (c.agent_at-first.ensures (slice_index_or ns q.0 (record { 0 = 0 })) (at q.0 there.0))) in
          let second = read_at ns q.1 there.1 ∙ ap (λ (n : CellNo). Some n) (sym (c.agent_at-second.ensures (slice_index_or ns q.1 (record { 0 = 0 })) (at q.1 there.1))) in
          one_more_own ns c.args.member.now.pairs c.loop-number.number q c.agent_at-first.result c.agent_at-second.result c.args.queue.now.items c.loop-number.queue.items c.push_back_reserved.new.self.items
          c.pair-one.ensures first second (i.items ns at pairs) c.push_back_reserved.ensures.items
          );
      room = omega arith;
      capacity = c.push_back_reserved.ensures.capacity ∙ i.capacity;
    }
