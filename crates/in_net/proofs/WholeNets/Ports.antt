-- Ports in the order of their places.
use Rattle.std.proofs.Common.{◌≡◌, ℕ, suc, ◌+◌, ◌-◌, ◌≤◌, List, [], ◌∷◌, ◌++◌, sym, ◌∙◌, ap, arith, append_assoc}
use Rattle.in_syntax.specs.declared.places.Place.{Place}
use Rattle.in_net.specs.declared.reading.TextSpot.{TextSpot}
use Rattle.in_net.specs.declared.reading.TextSpot.TheVariants.{Port}
use Rattle.in_net.specs.Reading.{ports_from}

pub ports_step : (agent : ℕ) (at : Place) (port arity : ℕ) → port ≤ arity → ports_from agent at port (arity + 1 - port) ≡ Port agent port at ∷ ports_from agent at (port + 1) (arity + 1 - (port + 1))
ports_step agent at port arity le =
    let count : arity + 1 - port ≡ suc (arity + 1 - (port + 1)) = omega arith in
    ap (ports_from agent at port) count

-- one port more
pub one_more : (agent : ℕ) (at : Place) (port arity : ℕ) (spots new all : List TextSpot) → port ≤ arity → new ≡ spots ++ Port agent port at ∷ [] → spots ++ ports_from agent at port (arity + 1 - port) ≡ all →
    new ++ ports_from agent at (port + 1) (arity + 1 - (port + 1)) ≡ all
one_more agent at port arity spots new all le pushed e =
    ap (λ z. z ++ ports_from agent at (port + 1) (arity + 1 - (port + 1))) pushed
    ∙ append_assoc spots (Port agent port at ∷ []) (ports_from agent at (port + 1) (arity + 1 - (port + 1)))
    ∙ ap (λ z. spots ++ z) (sym (ports_step agent at port arity le))
    ∙ e
