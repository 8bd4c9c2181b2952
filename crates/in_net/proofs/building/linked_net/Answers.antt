use Rattle.std.proofs.Common.{◌≡◌, ◌∙◌, ap, sym, subst, length, None, arith}
use Rattle.in_net.specs.Joining.{joining_of}
use Rattle.in_net.specs.Building.{AreSmallSpots, IsJoined, free_ends_from}
use Rattle.in_net.specs.Built.{ArePointsAt, AreJoinedTo, IsReadFrom}
use Rattle.in_net.specs.Reading.{reading_of}
use Rattle.in_net.specs.TextNet.{body_of, AreFreeOf}
use Rattle.in_net.proofs.Texts.Agents.{free_for}
use Rattle.in_net.proofs.WholeNets.Frees.{length-free, free_joined}
use Rattle.in_net.proofs.Texts.NetRead.{ends_in}
use Rattle.in_net.proofs.Texts.Bodies.{net_ready, net_few}
use Rattle.in_net.proofs.Refusals.FirstFault.{no_fault}
use Rattle.in_net.proofs.Texts.ReadFrom as read_from
use Rattle.in_net.proofs.Wiring.TextWires.{read, read_joined, read_none, is_text_net}
use Rattle.in_net.proofs.Refusals.GoodNets.{good}
use Rattle.in_net.proofs.building.linked_net.Goals as goal
use Rattle.in_syntax.specs.TextLimits.{max_agents}

pub free_ends-requires-clause-free : goal.free_ends-requires-clause-free
free_ends-requires-clause-free c =
    let source = c.args.source.now in
    let t = c.args.symbols.now in
    let g = good source t c.args.reading.now c.requires.readable c.requires.read c.requires.clear in
    let from = read_from.read_from t (body_of source.net) (read t (body_of source.net) g) g.small (net_few source t c.requires.readable.sized) in
    let zero_on : ends_in t (body_of source.net) ≡ length source.net.free = omega arith in
    subst (λ spots. ArePointsAt spots 0 (length c.as_slice.result.now)) (sym (c.as_slice-spots.ensures ∙ ap (λ r. r.spots) c.requires.read))
    (subst (ArePointsAt (reading_of t (body_of source.net)).spots 0) (zero_on ∙ sym (ap length c.as_slice.ensures)) from.free_points)

pub free_ends-requires-clause-joined : goal.free_ends-requires-clause-joined
free_ends-requires-clause-joined c =
    let source = c.args.source.now in
    let t = c.args.symbols.now in
    let g = good source t c.args.reading.now c.requires.readable c.requires.read c.requires.clear in
    subst (λ spots. IsJoined spots c.args.links.now) (sym (c.as_slice-spots.ensures ∙ ap (λ r. r.spots) c.requires.read))
    (subst (IsJoined (reading_of t (body_of source.net)).spots) (sym (c.requires.links ∙ ap (λ r. (joining_of r).links) c.requires.read)) (read_joined t (body_of source.net) g))

pub free_ends-requires-clause-small : goal.free_ends-requires-clause-small
free_ends-requires-clause-small c =
    let source = c.args.source.now in
    let t = c.args.symbols.now in
    let g = good source t c.args.reading.now c.requires.readable c.requires.read c.requires.clear in
    let from = read_from.read_from t (body_of source.net) (read t (body_of source.net) g) g.small (net_few source t c.requires.readable.sized) in
    subst AreSmallSpots (sym (c.as_slice-spots.ensures ∙ ap (λ r. r.spots) c.requires.read)) from.small

pub assemble-requires-clause-read : goal.assemble-requires-clause-read
assemble-requires-clause-read c =
    let source = c.args.source.now in
    let t = c.args.symbols.now in
    let g = good source t c.args.reading.now c.requires.readable c.requires.read c.requires.clear in
    let from = read_from.read_from t (body_of source.net) (read t (body_of source.net) g) g.small (net_few source t c.requires.readable.sized) in
    let count : ends_in t (body_of source.net) ≡ length c.in_ok-free.free.items =
    (let e : ends_in t (body_of source.net) ≡ length source.net.free = omega arith in e)
    ∙ sym (ap length c.as_slice.ensures) ∙ sym (ap length c.in_ok-free.ensures ∙ length-free t c.as_slice-spots.result.now c.args.links.now 0 c.as_slice.result.now) in
    subst (IsReadFrom t (length c.in_ok-free.free.items)) (sym c.requires.read) (subst (λ k. IsReadFrom t k (reading_of t (body_of source.net))) count from)

pub assemble-requires-clause-joined : goal.assemble-requires-clause-joined
assemble-requires-clause-joined c =
    let source = c.args.source.now in
    let t = c.args.symbols.now in
    let g = good source t c.args.reading.now c.requires.readable c.requires.read c.requires.clear in
    subst (λ spots. IsJoined spots c.args.links.now) (sym (ap (λ r. r.spots) c.requires.read))
    (subst (IsJoined (reading_of t (body_of source.net)).spots) (sym (c.requires.links ∙ ap (λ r. (joining_of r).links) c.requires.read)) (read_joined t (body_of source.net) g))

pub assemble-requires-clause-free : goal.assemble-requires-clause-free
assemble-requires-clause-free c =
    let t = c.args.symbols.now in
    let fs = c.as_slice.result.now in
    let links = c.args.links.now in
    subst (AreJoinedTo c.args.reading.now.spots links) (sym (c.in_ok-free.ensures ∙ ap (λ z. free_ends_from t z links 0 fs) c.as_slice-spots.ensures)) (free_joined t c.args.reading.now.spots links fs)

pub returns : goal.returns
returns c =
    let source = c.args.source.now in
    let t = c.args.symbols.now in
    let r = c.args.reading.now in
    let is = c.requires.read in
    let clear = c.requires.clear in
    let ready = net_ready source t c.requires.readable.tabled c.requires.readable.faultless c.requires.readable.order in
    let g = good source t r c.requires.readable is clear in
    let links = c.requires.links in
    let fs : free_ends_from t c.args.reading.now.spots c.args.links.now 0 source.net.free ≡ c.in_ok-free.free.items =
    sym (c.in_ok-free.ensures ∙ ap (λ z. free_ends_from t z c.args.links.now 0 c.as_slice.result.now) c.as_slice-spots.ensures ∙ ap (free_ends_from t c.args.reading.now.spots c.args.links.now 0) c.as_slice.ensures) in
    let ends = subst (AreJoinedTo c.args.reading.now.spots c.args.links.now) fs (free_joined t c.args.reading.now.spots c.args.links.now source.net.free) in
    let count : length c.in_ok-free.free.items ≡ ends_in t (body_of source.net) =
    sym (ap length fs) ∙ length-free t c.args.reading.now.spots c.args.links.now 0 source.net.free ∙ (let e : length source.net.free ≡ ends_in t (body_of source.net) = omega arith in e) in
    let made = c.in_ok-assemble.ensures in
    let none : (joining_of (reading_of t (body_of source.net))).closed ≡ None = sym (ap (λ r. (joining_of r).closed) is) ∙ c.requires.whole in
    let net = is_text_net t (body_of source.net) c.in_ok-free.free.items r c.args.links.now c.in_ok-assemble.field-0 g is links count ends made in (
      net.0,
      record {
        agents = net.1;
        free = subst (AreFreeOf t source.net.free) (fs ∙ sym made.free_ends) (free_for t c.args.reading.now.spots c.args.links.now 0 source.net.free);
        wires = net.2;
        whole = made.whole;
      },
      no_fault (max_agents source.limits) t (body_of source.net) r ready is clear,
      read_none t (body_of source.net) g none,
    )
