use Rattle.std.proofs.Common.{arith, ◌≡◌, ◌∙◌, [], ◌+◌, ◌++◌, ap, sym, subst, refl, length, length-append, map}
use Rattle.std.specs.List.{AllByRecursion}
use Rattle.in_syntax.specs.declared.symbol_no.SymbolNo.{SymbolNo}
use Rattle.in_symbols.specs.Tables.{IsSymbol, arity_of}
use Rattle.in_net.specs.declared.nets.FreeEnd.{FreeEnd}
use Rattle.in_net.specs.Joining.{joining_of}
use Rattle.in_net.specs.Building.{AreSmallSpots, IsJoined, boundary_of}
use Rattle.in_net.specs.Built.{ArePointsAt, AreJoinedTo, IsReadFrom}
use Rattle.in_net.specs.Reading.{reading_of}
use Rattle.in_net.specs.Rules.{body_of_rule, auxiliary_types}
use Rattle.in_net.proofs.Texts.Bodies.{rule_ready}
use Rattle.in_net.proofs.Refusals.FirstFault.{no_fault}
use Rattle.in_net.proofs.WholeNets.Frees.{length-boundary, boundary_joined, boundary_types, boundary_unnamed}
use Rattle.in_net.proofs.Texts.NetRead.{ends_in}
use Rattle.in_net.proofs.Wiring.TextWires.{read_joined, read_none, is_text_net}
use Rattle.in_net.proofs.Refusals.FewAgents.{few_agents}
use Rattle.in_net.proofs.Refusals.GoodRules.{good, from, both_symbols, are_written, are_heads, count}
use Rattle.in_net.proofs.members.linked_rule.Goals as goal
use Rattle.in_syntax.specs.TextLimits.{max_member_agents}
use Rattle.in_syntax.proofs.Public.{member_agents_few}

pub boundary-requires-clause-points : goal.boundary-requires-clause-points
boundary-requires-clause-points c =
    let t = c.args.symbols.now in
    let r = c.args.rule.now in
    let g = good c.args.limits t r c.args.reading.now c.requires.readable c.requires.read c.requires.clear in
    let n = count t r c.symbol_of.result c.symbol_of-2.result c.is_turned-turned.result c.ordered-heads.result c.symbol_of.ensures.symbol c.symbol_of-2.ensures.symbol c.is_turned-turned.ensures c.ordered-heads.ensures in
    subst (λ spots. ArePointsAt spots 0 (arity_of t c.ordered-heads.result.0.0 + arity_of t c.ordered-heads.result.1.0)) (sym (c.as_slice-spots.ensures ∙ ap (λ r. r.spots) c.requires.read))
    (subst (ArePointsAt (reading_of t (body_of_rule t r)).spots 0) n (from t r c.requires.readable g).free_points)

pub boundary-requires-clause-joined : goal.boundary-requires-clause-joined
boundary-requires-clause-joined c =
    let t = c.args.symbols.now in
    let r = c.args.rule.now in
    let g = good c.args.limits t r c.args.reading.now c.requires.readable c.requires.read c.requires.clear in
    subst (λ spots. IsJoined spots c.args.links.now) (sym (c.as_slice-spots.ensures ∙ ap (λ r. r.spots) c.requires.read))
    (subst (IsJoined (reading_of t (body_of_rule t r)).spots) (sym (c.requires.links ∙ ap (λ r. (joining_of r).links) c.requires.read)) (read_joined t (body_of_rule t r) g))

pub boundary-requires-clause-small : goal.boundary-requires-clause-small
boundary-requires-clause-small c =
    let t = c.args.symbols.now in
    let r = c.args.rule.now in
    let g = good c.args.limits t r c.args.reading.now c.requires.readable c.requires.read c.requires.clear in
    subst AreSmallSpots (sym (c.as_slice-spots.ensures ∙ ap (λ r. r.spots) c.requires.read)) (from t r c.requires.readable g).small

pub assemble-requires-clause-read : goal.assemble-requires-clause-read
assemble-requires-clause-read c =
    let t = c.args.symbols.now in
    let r = c.args.rule.now in
    let heads = c.ordered-heads.result in
    let spots = c.as_slice-spots.result.now in
    let links = c.args.links.now in
    let g = good c.args.limits t r c.args.reading.now c.requires.readable c.requires.read c.requires.clear in
    let n = count t r c.symbol_of.result c.symbol_of-2.result c.is_turned-turned.result c.ordered-heads.result c.symbol_of.ensures.symbol c.symbol_of-2.ensures.symbol c.is_turned-turned.ensures c.ordered-heads.ensures in
    let made : length c.in_ok-free.free.items ≡ arity_of t c.ordered-heads.result.0.0 + arity_of t c.ordered-heads.result.1.0 =
    ap length c.in_ok-free.ensures ∙ length-append (boundary_of t spots links heads.0.0 0) (boundary_of t spots links heads.1.0 (arity_of t heads.0.0))
    ∙ ap (λ n. n + length (boundary_of t spots links heads.1.0 (arity_of t heads.0.0))) (length-boundary t spots links heads.0.0 0) ∙ ap (λ n. arity_of t heads.0.0 + n) (length-boundary t spots links heads.1.0 (arity_of t heads.0.0)) in
    subst (IsReadFrom t (length c.in_ok-free.free.items)) (sym c.requires.read) (subst (λ k. IsReadFrom t k (reading_of t (body_of_rule t r))) (n ∙ sym made) (from t r c.requires.readable g))

pub assemble-requires-clause-joined : goal.assemble-requires-clause-joined
assemble-requires-clause-joined c =
    let t = c.args.symbols.now in
    let r = c.args.rule.now in
    let g = good c.args.limits t r c.args.reading.now c.requires.readable c.requires.read c.requires.clear in
    subst (λ spots. IsJoined spots c.args.links.now) (sym (ap (λ r. r.spots) c.requires.read))
    (subst (IsJoined (reading_of t (body_of_rule t r)).spots) (sym (c.requires.links ∙ ap (λ r. (joining_of r).links) c.requires.read)) (read_joined t (body_of_rule t r) g))

pub assemble-requires-clause-free : goal.assemble-requires-clause-free
assemble-requires-clause-free c =
    let t = c.args.symbols.now in
    let heads = c.ordered-heads.result in
    let links = c.args.links.now in
    subst (AreJoinedTo c.args.reading.now.spots links) (sym (c.in_ok-free.ensures ∙ ap (λ z. boundary_of t z links heads.0.0 0 ++ boundary_of t z links heads.1.0 (arity_of t heads.0.0)) c.as_slice-spots.ensures))
    (boundary_joined t c.args.reading.now.spots links heads.0.0 heads.1.0)

pub invariant_of-result : goal.invariant_of-result
invariant_of-result c =
    let t = c.args.symbols.now in
    let r = c.args.rule.now in
    let q = c.args.reading.now in
    let is = c.requires.read in
    let heads = c.ordered-heads.result in
    let links = c.args.links.now in
    let clear = c.requires.clear in
    let g = good c.args.limits t r c.args.reading.now c.requires.readable is clear in
    let ready = rule_ready t r c.requires.readable.known c.requires.readable.order in
    let n = count t r c.symbol_of.result c.symbol_of-2.result c.is_turned-turned.result c.ordered-heads.result c.symbol_of.ensures.symbol c.symbol_of-2.ensures.symbol c.is_turned-turned.ensures c.ordered-heads.ensures in
    let spots = c.args.reading.now.spots in
    let ends : c.in_ok-free.free.items ≡ boundary_of t c.args.reading.now.spots links heads.0.0 0 ++ boundary_of t c.args.reading.now.spots links heads.1.0 (arity_of t heads.0.0) =
    c.in_ok-free.ensures ∙ ap (λ z. boundary_of t z links heads.0.0 0 ++ boundary_of t z links heads.1.0 (arity_of t heads.0.0)) c.as_slice-spots.ensures in
    let made : length c.in_ok-free.free.items ≡ ends_in t (body_of_rule t r) =
    ap length ends ∙ length-append (boundary_of t spots links heads.0.0 0) (boundary_of t spots links heads.1.0 (arity_of t heads.0.0))
    ∙ ap (λ n. n + length (boundary_of t spots links heads.1.0 (arity_of t heads.0.0))) (length-boundary t spots links heads.0.0 0) ∙ ap (λ n. arity_of t heads.0.0 + n) (length-boundary t spots links heads.1.0 (arity_of t heads.0.0))
    ∙ sym n in
    let joined = subst (AreJoinedTo c.args.reading.now.spots links) (sym ends) (boundary_joined t c.args.reading.now.spots links heads.0.0 heads.1.0) in
    let net = is_text_net t (body_of_rule t r) c.in_ok-free.free.items q links c.in_ok-member.member g is c.requires.links made joined c.in_ok-member.ensures in
    omega (arith, few_agents (max_member_agents c.args.limits) t (body_of_rule t r) c.in_ok-member.member.cells (no_fault (max_member_agents c.args.limits) t (body_of_rule t r) q ready is clear) net.1.agents, member_agents_few c.args.limits)

pub returns : goal.returns
returns c =
    let t = c.args.symbols.now in
    let r = c.args.rule.now in
    let q = c.args.reading.now in
    let is = c.requires.read in
    let heads = c.ordered-heads.result in
    let links = c.args.links.now in
    let clear = c.requires.clear in
    let g = good c.args.limits t r c.args.reading.now c.requires.readable is clear in
    let ready = rule_ready t r c.requires.readable.known c.requires.readable.order in
    let n = count t r c.symbol_of.result c.symbol_of-2.result c.is_turned-turned.result c.ordered-heads.result c.symbol_of.ensures.symbol c.symbol_of-2.ensures.symbol c.is_turned-turned.ensures c.ordered-heads.ensures in
    let same_heads = are_heads t r c.symbol_of.result c.symbol_of-2.result c.is_turned-turned.result c.ordered-heads.result c.symbol_of.ensures.symbol c.symbol_of-2.ensures.symbol c.is_turned-turned.ensures c.ordered-heads.ensures in
    let written = are_written t r c.symbol_of.result c.symbol_of-2.result c.is_turned-turned.result c.ordered-heads.result c.symbol_of.ensures.symbol c.symbol_of-2.ensures.symbol c.is_turned-turned.ensures c.ordered-heads.ensures in
    let spots = c.args.reading.now.spots in
    let ends : c.in_ok-free.free.items ≡ boundary_of t c.args.reading.now.spots links heads.0.0 0 ++ boundary_of t c.args.reading.now.spots links heads.1.0 (arity_of t heads.0.0) =
    c.in_ok-free.ensures ∙ ap (λ z. boundary_of t z links heads.0.0 0 ++ boundary_of t z links heads.1.0 (arity_of t heads.0.0)) c.as_slice-spots.ensures in
    let made : length c.in_ok-free.free.items ≡ ends_in t (body_of_rule t r) =
    ap length ends ∙ length-append (boundary_of t spots links heads.0.0 0) (boundary_of t spots links heads.1.0 (arity_of t heads.0.0))
    ∙ ap (λ n. n + length (boundary_of t spots links heads.1.0 (arity_of t heads.0.0))) (length-boundary t spots links heads.0.0 0) ∙ ap (λ n. arity_of t heads.0.0 + n) (length-boundary t spots links heads.1.0 (arity_of t heads.0.0))
    ∙ sym n in
    let joined = subst (AreJoinedTo c.args.reading.now.spots links) (sym ends) (boundary_joined t c.args.reading.now.spots links heads.0.0 heads.1.0) in
    let net = is_text_net t (body_of_rule t r) c.in_ok-free.free.items q links c.in_ok-member.member g is c.requires.links made joined c.in_ok-member.ensures in
    let frees : c.in_ok-member.member.free ≡ boundary_of t c.args.reading.now.spots links heads.0.0 0 ++ boundary_of t c.args.reading.now.spots links heads.1.0 (arity_of t heads.0.0) = c.in_ok-member.ensures.free_ends ∙ ends in
    let types : map (λ (f : FreeEnd). f.kind) c.in_ok-member.member.free ≡ auxiliary_types t heads.0.0 ++ auxiliary_types t heads.1.0 =
    ap (map (λ (f : FreeEnd). f.kind)) frees ∙ boundary_types t spots links heads.0.0 heads.1.0 in (
      record {
        written = (c.symbol_of.ensures.there, c.symbol_of-2.ensures.there);
        heads =
            subst (λ (h : SymbolNo × SymbolNo). IsSymbol t h.0.0 × IsSymbol t h.1.0) (sym c.ordered-heads.ensures) (both_symbols t c.symbol_of.result c.symbol_of-2.result c.is_turned-turned.result c.symbol_of.ensures.there c.symbol_of-2.ensures.there);
        member = net.0;
        built = c.in_ok-member.ensures.built;
      },
      record {
        written = written;
        heads = same_heads;
        head_places = refl;
        member = record {
          agents = net.1;
          types = types ∙ ap (λ (h : SymbolNo × SymbolNo). auxiliary_types t h.0.0 ++ auxiliary_types t h.1.0) same_heads;
          unnamed = subst (AllByRecursion (λ (f : FreeEnd). f.name ≡ [])) (sym frees) (boundary_unnamed t spots links heads.0.0 heads.1.0);
          wires = net.2;
          whole = c.in_ok-member.ensures.whole;
        };
      },
      no_fault (max_member_agents c.args.limits) t (body_of_rule t r) q ready is clear,
      read_none t (body_of_rule t r) g (sym (ap (λ r. (joining_of r).closed) is) ∙ c.requires.whole),
    )
