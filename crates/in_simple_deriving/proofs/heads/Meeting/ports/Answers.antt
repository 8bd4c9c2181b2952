use Rattle.std.proofs.Common.{◌+◌, sym, subst, ap, ◌∙◌}
use Rattle.in_simple_deriving.specs.Heads.{AreMetAfter, MeetsAt, MeetsTo, meets_next}
use Rattle.in_simple_deriving.proofs.Meetings.{list_more}
use Rattle.in_simple_deriving.proofs.heads.Meeting.ports.Goals as goal

pub loop-port-preserved : goal.loop-port-preserved
loop-port-preserved c =
    let x = c.args.self.order in
    let n = c.args.self.node in
    let k = c.loop-port.port in
    let i = c.loop-port.invariant in
    let m = c.port-next.result.1 in
    let met = subst (λ (z : MeetsTo). MeetsAt z.order z.node z.turn m) i.next c.port-next.ensures.met in
    record {
      next = c.port-next.ensures.next ∙ ap meets_next i.next;
      met = subst (AreMetAfter x n c.args.met.now (k + 1)) (sym c.in_ok-push.ensures.ok) (list_more x n c.args.met.now c.loop-port.met k m i.met met);
    }
