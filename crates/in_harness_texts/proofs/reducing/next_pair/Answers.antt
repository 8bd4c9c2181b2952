use Rattle.std.proofs.Common.{◌≡◌, List, Some, length, slice_get, refl, subst}
use Rattle.std.proofs.lemmas.Option.{slice_get_read}
use Rattle.in_symbols.specs.Tables.{Tables}
use Rattle.in_net.specs.declared.nets.AgentNo.{AgentNo}
use Rattle.in_net.specs.ActivePairs.{IsActivePair}
use Rattle.in_net.specs.Parts.{Parts}
use Rattle.in_harness_texts.proofs.reducing.next_pair.Goals as goal

pub returns-in-Some : goal.returns-in-Some
returns-in-Some c =
    let at = subst (λ (qs : List (AgentNo × AgentNo)). slice_get qs c.place_of-at.result ≡ Some c.in-Some.pair.now) c.deref.ensures.value
    (slice_get_read c.deref.result.now (length c.deref.result.now) c.place_of-at.result c.in-Some.pair.now refl c.in-Some.ensures.lookup.3.0 c.in-Some.ensures.lookup.1) in
    subst (λ (t : Tables). IsActivePair t c.args.plain.now.net c.in-Some.pair.now) c.symbols.ensures
    (subst (λ (n : Parts). IsActivePair c.symbols.result.now n c.in-Some.pair.now) c.net.ensures.net (c.in_ok-pairs.ensures.pairs c.place_of-at.result c.in-Some.pair.now at))
