use Rattle.std.proofs.Common.{◌≡◌, ◌∙◌, ap, map, subst, sym, length}
use Rattle.in_net.specs.Building.{cells_of, wires_from}
use Rattle.in_net.specs.Built.{AreListedOf}
use Rattle.in_net.specs.Parts.{IsWhole, as_built}
use Rattle.in_net.proofs.WholeNets.Whole.{whole}
use Rattle.in_net.proofs.building.assemble.Goals as goal

pub built-requires : goal.built-requires
built-requires c =
    let t = c.args.symbols.now in
    let r = c.args.reading.now in
    let free = c.args.free.items in
    let links = c.args.links.now in
    let spots = c.as_slice-spots.ensures in
    let agents = c.as_slice-agents.ensures in
    let cells : c.in_ok-cells.cells ≡ cells_of t r.spots links r.agents = c.in_ok-cells.ensures ∙ ap (λ z. cells_of t z links c.as_slice-agents.result.now) spots ∙ ap (cells_of t r.spots links) agents in
    let places : c.in_ok-places.places ≡ map (λ a. a.place) r.agents = c.in_ok-places.ensures ∙ ap (map (λ a. a.place)) agents in
    let listed = subst (λ z. AreListedOf (wires_from z links 0 (length z)) c.in_ok-wires.wires) spots c.in_ok-wires.ensures in
    subst (λ cs. IsWhole (as_built cs free c.in_ok-wires.wires c.in_ok-places.places)) (sym cells)
    (whole t free r links c.requires.read.numbered c.requires.joined c.requires.free c.in_ok-wires.wires c.in_ok-places.places listed c.requires.read places)
