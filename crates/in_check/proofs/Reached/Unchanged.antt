-- Renaming the agents of a reached net changes nothing more.
use Rattle.std.proofs.Common.{◌≡◌, ℕ, nat_eq, Some, subst, ◌∙◌}
use native.Mathlib.Decide.{ℕ_discrete}
use Rattle.in_net.specs.Nets.{Point, Port, Free, Net}
use Rattle.in_net.proofs.Public.{port_place}
use Rattle.in_check.specs.Promises.{RenamingChangesNothing}
use Rattle.in_check.specs.Runs.{renamed, then_renamed, HasEnded}
use Rattle.in_check.proofs.Reached.Counts.{agents_before, one_count}
use Rattle.in_check.proofs.Reached.Kept.{sound_reached}
use Rattle.in_check.proofs.Reached.Renaming.{wire_kept}
use Rattle.in_check.proofs.Reached.SameText.{nat_test, text_same}

at_agents : (f : ℕ → ℕ) (n : Net ℕ) (x y : ℕ) (p q : Point ℕ) → renamed f p ≡ Port x 0 → renamed f q ≡ Port y 0 → n.partner p ≡ Some q → HasEnded n → ⊥
at_agents f n x y (Port a i) (Port b j) at_x at_y e ended =
    let i_is : i ≡ 0 = port_place (f a) x i 0 at_x in
    let j_is : j ≡ 0 = port_place (f b) y j 0 at_y in
    ended.no_pair a b (subst (λ k. n.partner (Port a k) ≡ Some (Port b 0)) i_is (subst (λ k. n.partner (Port a i) ≡ Some (Port b k)) j_is e))
at_agents f n x y (Free k) q at_x at_y e ended = cc
at_agents f n x y (Port a i) (Free k) at_x at_y e ended = cc

pub unchanged : RenamingChangesNothing
unchanged p k n f m good reached r =
    let net = (sound_reached p good ℕ_discrete k n reached).net in
    record {
      reached = then_renamed k n f m reached r;
      agents = λ xs ys one other. (let before = agents_before f n m r ys other in one_count n xs before.0 one before.2 ∙ before.1);
      ended = (
        (λ ended. record { no_pair = λ x y e. ended.no_pair (f x) (f y) (wire_kept p.symbols f n m net r (Port x 0) (Port y 0) e) }),
        (λ ended. record { no_pair = λ x y e. (let w = (r.wires (Port x 0) (Port y 0)).0 e in at_agents f n x y w.0 w.1 w.2 w.3 w.4 ended) }),
      );
      text = λ words d queue is_queue. text_same p.symbols f n m net r words d nat_eq nat_eq nat_test nat_test queue is_queue;
    }
