use Rattle.std.proofs.Common.{◌≡◌, ◌≢◌, length, sym, subst, ap, ◌∙◌, ltb-true, lt-ltb}
use Rattle.in_open_nets.specs.declared.derivations.Stuck.{Stuck}
use Rattle.in_open_nets.specs.Members.{nodes_in}
use Rattle.in_open_nets.specs.Stuck.{IsListed}
use Rattle.in_node_orders.specs.Orders.{all_nodes}
use Rattle.in_open_nets.proofs.Public.{if_ok}
use Rattle.in_simple_deriving.specs.Heads.{PutBackTo}
use Rattle.in_simple_deriving.specs.Turns.{HeadedPart, IsHeadFrom, IsNodeTurns, NodeOrder, is_joined_from, part_of, turn_of}
use Rattle.in_simple_deriving.proofs.HeadParts.{from_is, head_link, part_all, part_joined, part_small, stuck_head}
use Rattle.in_simple_deriving.proofs.Listing.{listed_for}
use Rattle.in_simple_deriving.proofs.heads.Headed.stuck.Goals as goal

pub component-requires-clause-head : goal.component-requires-clause-head
component-requires-clause-head c =
    let x = c.self.inside.heads.now in
    let a = c.self.inside.head in
    let f : c.taken.result ≡ x.taken = c.taken.ensures.taken ∙ ap (λ (z : NodeOrder). z.taken) c.order-order.ensures in
    let h = subst IsNodeTurns c.order-order.ensures c.turn-first.ensures.turns in
    let e : c.turn-first.result ≡ turn_of x a = c.turn-first.ensures.turn ∙ ap (λ z. turn_of z a) c.order-order.ensures in
    let some : turn_of x a ≢ 0 = λ zero. c.if-first-eq0.false (e ∙ zero) in
    let own : IsHeadFrom x x.taken a = stuck_head x h a c.args.self c.self.invariant c.self.view_is c.requires some in
    let r = subst (λ z. IsHeadFrom z c.taken.result a) (sym c.order-order.ensures) (subst (λ z. IsHeadFrom x z a) (sym f) own) in
    subst (λ (z : PutBackTo). IsHeadFrom z.order z.turn a) (sym c.in_ok-until.ensures) r

pub returns-then-first-eq0 : goal.returns-then-first-eq0
returns-then-first-eq0 c =
    let x = c.self.inside.heads.now in
    let a = c.self.inside.head in
    let e : c.turn-first.result ≡ turn_of x a = c.turn-first.ensures.turn ∙ ap (λ z. turn_of z a) c.order-order.ensures in
    let zero : turn_of x a ≡ 0 = sym e ∙ c.if-first-eq0.true in
    if_ok c.all_of.result (λ (s : Stuck) l. subst (λ (z : HeadedPart). IsListed (nodes_in z.nodes) s.nodes) c.self.view_is
    (listed_for (all_nodes x.net) (nodes_in (part_of x a)) s.nodes (subst (λ (z : NodeOrder). IsListed (all_nodes z.net) s.nodes) c.order-order.ensures l)
    (λ n. ((λ g. part_all x a n zero (ltb-true n (length x.net.nodes) g)), λ g. lt-ltb n (length x.net.nodes) (part_small x a n g))))) c.all_of.ensures

pub returns-in_ok-until : goal.returns-in_ok-until
returns-in_ok-until c =
    let x = c.self.inside.heads.now in
    let a = c.self.inside.head in
    let f : c.taken.result ≡ x.taken = c.taken.ensures.taken ∙ ap (λ (z : NodeOrder). z.taken) c.order-order.ensures in
    let h = subst IsNodeTurns c.order-order.ensures c.turn-first.ensures.turns in
    let e : c.turn-first.result ≡ turn_of x a = c.turn-first.ensures.turn ∙ ap (λ z. turn_of z a) c.order-order.ensures in
    let some : turn_of x a ≢ 0 = λ zero. c.if-first-eq0.false (e ∙ zero) in
    let own : IsHeadFrom x x.taken a = stuck_head x h a c.args.self c.self.invariant c.self.view_is c.requires some in
    if_ok c.component.result (λ (s : Stuck) l.
    let l1 = subst (λ (z : PutBackTo). IsListed (is_joined_from z.order z.turn a) s.nodes) c.in_ok-until.ensures l in
    let l2 = subst (λ z. IsListed (is_joined_from z c.taken.result a) s.nodes) c.order-order.ensures l1 in
    let l3 = subst (λ z. IsListed (is_joined_from x z a) s.nodes) f l2 in
    subst (λ (z : HeadedPart). IsListed (nodes_in z.nodes) s.nodes) c.self.view_is
    (listed_for (is_joined_from x x.taken a) (nodes_in (part_of x a)) s.nodes l3
    (λ n. (
      (λ g. (part_joined x a n some).1 ((head_link x x.taken a n own).0 ((from_is x x.taken a n).0 g))),
      λ g. (from_is x x.taken a n).1 ((head_link x x.taken a n own).1 ((part_joined x a n some).0 g)),
    )))) c.component.ensures
