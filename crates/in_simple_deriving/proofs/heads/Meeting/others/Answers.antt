use Rattle.std.proofs.Common.{◌≡◌, ◌+◌, suc, sym, subst, ap, ◌∙◌, arith}
use Rattle.in_open_nets.specs.Stuck.{ports_of}
use Rattle.in_simple_deriving.specs.Heads.{AreMetAfter, MeetsAt, MeetsTo, meets_next, meets_to}
use Rattle.in_simple_deriving.proofs.Meetings.{list_more}
use Rattle.in_simple_deriving.proofs.heads.Meeting.others.Goals as goal

pub loop-near-preserved : goal.loop-near-preserved
loop-near-preserved c =
    let x = c.args.self.order in
    let n = c.args.self.node in
    let k = suc (ports_of x.net n) + c.loop-near.near in
    let i = c.loop-near.invariant in
    let m = c.meet-next.result.1 in
    let met = subst (λ (z : MeetsTo). MeetsAt z.order z.node z.turn m) i.next c.meet-next.ensures.met in
    let on : k + 1 ≡ suc (ports_of x.net n) + (c.loop-near.near + 1) = omega arith in
    record {
      next = c.meet-next.ensures.next ∙ ap meets_next i.next ∙ ap (meets_to x n) on;
      met = λ old a. subst (λ z. AreMetAfter x n old z c.push.new.self) on (subst (AreMetAfter x n old (k + 1)) (sym c.in_ok-push.ensures.ok) (list_more x n old c.loop-near.met k m (i.met old a) met));
    }
