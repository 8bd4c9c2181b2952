-- Deriving an open net has one result.
use Rattle.std.proofs.Common.{◌≡◌, ℕ, Bool, Ok, Err, sym, ◌∙◌, ap, subst, arith}
use Rattle.std.proofs.lemmas.Option.{same_Some}
use Rattle.in_open_nets.specs.declared.derivations.Derivation.{Derivation}
use Rattle.in_open_nets.specs.declared.derivations.Stuck.{Stuck as StuckNet}
use Rattle.in_open_nets.specs.declared.derivations.Undone.TheVariants.{Stuck, Memory}
use Rattle.in_open_nets.specs.Constructions.{IsIn}
use Rattle.in_simple_deriving.specs.Laws.{Derives, NetsAreDerivedOnce, OneStuckPlace}
use Rattle.in_open_nets.specs.OpenNets.{OpenNet, IsOpenNet, node_place_in}
use Rattle.in_open_nets.specs.Stuck.{IsListed, IsStuckNet, IsFirstStuck}
use Rattle.in_open_nets.proofs.Public.{one_first_stuck, one_listing, derivation_builds}
use Rattle.in_simple_deriving.proofs.OneOrder.{one_list}

-- ---- the first stuck sub-net

one_stuck : (o : OpenNet) (s t : ℕ → Bool) → IsOpenNet o → IsFirstStuck o s → IsFirstStuck o t → s ≡ t
one_stuck o s t net h k = (one_first_stuck o net s h).1 t k

pub one_stuck_place : OneStuckPlace
one_stuck_place o p q net h k =
    let same = one_stuck o h.stuck k.stuck net h.is_first k.is_first in
    let a = k.least h.node (subst (IsIn h.node) same h.here) in
    let b = h.least k.node (subst (IsIn k.node) (sym same) k.here) in
    let node : h.node ≡ k.node = omega (arith, a, b) in
    same_Some p q (sym h.place ∙ ap (node_place_in o) node ∙ k.place)

-- ---- deriving

no_steps : (o : OpenNet) (d : Derivation) (s : StuckNet) → IsOpenNet o → Derives o (Ok d) → IsStuckNet o s → ⊥
no_steps o d s net h k = k.0 (derivation_builds o net d.steps h.0)

pub derived_once : NetsAreDerivedOnce
derived_once o (Ok d) (Ok e) net h k = one_list o net d.steps e.steps h.1 k.1
derived_once o (Ok d) (Err (Stuck s)) net h k = no_steps o d s net h k
derived_once o (Ok d) (Err (Memory e)) net h k = tt
derived_once o (Err (Stuck s)) (Ok d) net h k = no_steps o d s net k h
derived_once o (Err (Stuck s)) (Err (Stuck r)) net h k = one_listing k.1.0 s.nodes r.nodes (subst (λ z. IsListed z s.nodes) (one_stuck o h.1.0 k.1.0 net h.1.1 k.1.1) h.1.2) k.1.2
derived_once o (Err (Stuck s)) (Err (Memory e)) net h k = tt
derived_once o (Err (Memory e)) b net h k = tt
