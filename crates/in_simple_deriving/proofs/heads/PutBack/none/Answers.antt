use Rattle.std.proofs.Common.{◌≡◌, length, sym, subst, ap, ◌∙◌, arith}
use Rattle.in_open_nets.specs.OpenNets.{OpenNet}
use Rattle.in_simple_deriving.specs.Heads.{AreHeads, IsUp}
use Rattle.in_simple_deriving.proofs.Alone.{alone_up}
use Rattle.in_simple_deriving.proofs.Meetings.{heads_none, up_none}
use Rattle.in_simple_deriving.proofs.heads.PutBack.none.Goals as goal

pub invariant_of-result : goal.invariant_of-result
invariant_of-result c =
    let x = c.args.order.now in
    let up = c.in_ok-alone.field-0 in
    let a = c.in_ok-alone.ensures in
    let h = c.taken.ensures.turns in
    let turns = sym c.turns.ensures in
    let count : length x.net.nodes ≡ c.nodes-count.result = sym (c.nodes-count.ensures.count ∙ ap (λ (z : OpenNet). length z.nodes) c.wired.ensures) in (
      omega arith,
      (λ some. subst (λ z. IsUp x z up) turns (up_none x up h (a.size ∙ sym count) (alone_up x.turns c.nodes-count.result up a))),
      subst (λ z. AreHeads x z c.in_ok-zeros.field-0 c.new.result) turns (subst (AreHeads x (length x.nodes) c.in_ok-zeros.field-0) (sym c.new.ensures) (heads_none x c.in_ok-zeros.field-0 h (c.in_ok-zeros.ensures ∙ sym count))),
    )
