-- If no agent and no name of a net is refused, its wires can be followed.
use Rattle.std.proofs.Common.{◌≡◌, ◌∙◌, ap, None}
use Rattle.in_net.specs.declared.reading.Reading.{Reading}
use Rattle.in_syntax.specs.declared.tree.Source.{Source}
use Rattle.in_net.specs.Built.{IsReadableNet}
use Rattle.in_net.specs.Reading.{reading_of}
use Rattle.in_net.specs.Searching.{first_fault}
use Rattle.in_net.specs.TextNet.{body_of}
use Rattle.in_symbols.specs.Tables.{Tables}
use Rattle.in_net.proofs.Texts.Bodies.{net_ready, net_heads}
use Rattle.in_net.proofs.Refusals.FirstFault.{none_misfit, none_miscounted}
use Rattle.in_net.proofs.Texts.Small.{are_small}
use Rattle.in_net.proofs.Wiring.TextWires.{IsGood}
use Rattle.in_syntax.specs.TextLimits.{max_agents}

pub good : (source : Source) (t : Tables) (r : Reading) → IsReadableNet source t → r ≡ reading_of t (body_of source.net) → None ≡ first_fault (max_agents source.limits) t (body_of source.net) r → IsGood t (body_of source.net)
good source t r readable is clear =
    let ready = net_ready source t readable.tabled readable.faultless readable.order in
    record {
      ready = ready;
      small = are_small source t readable.sized readable.tabled;
      heads = net_heads t source;
      fits = none_misfit (max_agents source.limits) t (body_of source.net) r clear;
      twice = none_miscounted (max_agents source.limits) t (body_of source.net) ready (clear ∙ ap (first_fault (max_agents source.limits) t (body_of source.net)) is);
    }
