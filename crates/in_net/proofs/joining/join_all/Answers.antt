use Rattle.std.proofs.Common.{◌≡◌, ◌∙◌, sym, ap, subst, length, arith, ◌<◌}
use Rattle.std.specs.List.{AllByRecursion}
use Rattle.in_net.specs.Counting.{NamesInside}
use Rattle.in_net.specs.Joining.{JointsInside, self_links, with_joints, IsJoiningInside}
use Rattle.in_net.proofs.Wiring.Links.{length-self_links, length-with_joints, within_self, within_joints}
use Rattle.in_net.proofs.Wiring.Joins.{length-none_seen, none_inside}
use Rattle.in_net.proofs.joining.join_all.Goals as goal

pub join_joints-requires-clause-joints : goal.join_joints-requires-clause-joints
join_joints-requires-clause-joints c =
    subst (λ n. JointsInside n c.as_slice.result.now) (sym (ap length c.in_ok-links.ensures ∙ length-self_links 0 c.len.result ∙ c.len.ensures)) (subst (JointsInside (length c.args.reading.now.spots)) (sym c.as_slice.ensures) c.requires.joints)

pub join_joints-requires-clause-count : goal.join_joints-requires-clause-count
join_joints-requires-clause-count c = omega (arith, ap length c.in_ok-links.ensures, length-self_links 0 c.len.result)

pub join_names-requires-clause-count : goal.join_names-requires-clause-count
join_names-requires-clause-count c =
    ap (λ j. length j.links) c.in_ok-joining.ensures ∙ ap length c.join_joints.ensures ∙ length-with_joints c.in_ok-links.links c.as_slice.result.now ∙ ap length c.in_ok-links.ensures ∙ length-self_links 0 c.len.result
    ∙ c.len.ensures ∙ sym (ap length c.as_slice-2.ensures)

pub join_names-requires-clause-names : goal.join_names-requires-clause-names
join_names-requires-clause-names c =
    let count = ap (λ j. length j.seen) c.in_ok-joining.ensures ∙ length-none_seen c.len-2.result ∙ c.len-2.ensures in
    subst (λ n. NamesInside n c.as_slice-2.result.now) (sym count) (subst (NamesInside (length c.args.reading.now.names)) (sym c.as_slice-2.ensures) c.requires.names)

pub join_names-requires-clause-inside : goal.join_names-requires-clause-inside
join_names-requires-clause-inside c =
    let n = c.len.result in
    let links = c.join_joints.new.links in
    let begun = length-self_links 0 n in
    let count : length links ≡ n = ap length c.join_joints.ensures ∙ length-with_joints c.in_ok-links.links c.as_slice.result.now ∙ ap length c.in_ok-links.ensures ∙ begun in
    let joints = subst (λ m. JointsInside m c.as_slice.result.now) (sym c.len.ensures) (subst (JointsInside (length c.args.reading.now.spots)) (sym c.as_slice.ensures) c.requires.joints) in
    let within : AllByRecursion (λ l. l.to < n) c.join_joints.new.links =
    subst (AllByRecursion (λ l. l.to < n)) (sym (c.join_joints.ensures ∙ ap (λ l. with_joints l c.as_slice.result.now) c.in_ok-links.ensures)) (within_joints n (self_links 0 n) c.as_slice.result.now (within_self n 0 n (omega arith)) joints) in
    subst IsJoiningInside (sym c.in_ok-joining.ensures)
    (record { links = subst (λ m. AllByRecursion (λ l. l.to < m) c.join_joints.new.links) (sym count) within; seen = none_inside (length c.join_joints.new.links) c.len-2.result })
