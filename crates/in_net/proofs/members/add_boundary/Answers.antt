use Rattle.std.proofs.Common.{◌≡◌, ◌∙◌, ◌+◌, ◌-◌, ◌++◌, ◌∷◌, [], suc, length, length-append, ap, arith}
use Rattle.in_net.specs.Building.{partner_of, boundary_from}
use Rattle.in_net.specs.declared.nets.FreeEnd.{FreeEnd}
use Rattle.in_symbols.specs.Tables.{port_at}
use Rattle.in_net.proofs.WholeNets.Frees.{one_boundary}
use Rattle.in_net.proofs.members.add_boundary.Goals as goal

pub loop-place-preserved : goal.loop-place-preserved
loop-place-preserved c =
    let t = c.args.symbols.now in
    let spots = c.args.spots.now in
    let links = c.args.links.now in
    let s = c.args.symbol.0 in
    let ends = c.loop-place.ends.items in
    let i = c.loop-place.place in
    let arity = c.arity-arity.result in
    let some : arity - i ≡ suc (arity - i - 1) = omega (arith, c.loop-place-test.true) in
    let less : arity - (i + 1) ≡ arity - i - 1 = omega arith in
    let e : FreeEnd = record { name = c.in_ok-from_str.field-0; kind = c.port.result; end = c.partner.result } in
    let grown : c.push.new.self.items ≡ c.loop-place.ends.items ++ e ∷ [] = c.in_ok-push.ensures.items in
    let size : length c.push.new.self.items ≡ length c.loop-place.ends.items + 1 = ap length grown ∙ length-append ends (e ∷ []) in
    let is : e ≡ record { name = []; kind = port_at t s (i + 1); end = partner_of spots links (length c.loop-place.ends.items) } =
    ap (λ x. let f : FreeEnd = record { name = x; kind = c.port.result; end = c.partner.result } in f) c.in_ok-from_str.ensures
    ∙ ap (λ x. let f : FreeEnd = record { name = []; kind = x; end = c.partner.result } in f) c.port.ensures
    ∙ ap (λ x. let f : FreeEnd = record { name = []; kind = port_at t s (i + 1); end = x } in f) (c.partner.ensures ∙ ap (partner_of spots links) (let len : c.len-number.result ≡ length c.loop-place.ends.items = omega arith in len)) in
    record {
      ends =
          ap (λ z. c.push.new.self.items ++ boundary_from t spots links s (i + 1) z (arity - (i + 1))) size ∙ ap (λ z. c.push.new.self.items ++ boundary_from t spots links s (i + 1) (length c.loop-place.ends.items + 1) z) less
          ∙ ap (λ z. z ++ boundary_from t spots links s (i + 1) (length c.loop-place.ends.items + 1) (arity - i - 1)) grown
          ∙ one_boundary t spots links s i (length c.loop-place.ends.items) (arity - i) ends e _ some is c.loop-place.invariant.ends;
      count = let n = c.loop-place.invariant.count in omega (arith, size, n);
    }
