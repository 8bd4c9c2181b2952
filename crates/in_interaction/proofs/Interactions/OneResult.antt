-- An interaction has one result. Two points are equal or not: this decides where a wire leads.
use Rattle.std.proofs.Common.{◌≡◌, ◌↔◌, ℕ, Some, refl, sym, ap, ◌∙◌}
use mathlib.Core.Path.{fun_ext}
use native.Mathlib.Decide.{ℕ_discrete}
use Rattle.in_net.specs.Interactions.{Redex, IsStep}
use Rattle.in_net.specs.Nets.{Point, Port, Free, Signature, Net}
use Rattle.in_net.proofs.Public.{port_agent, port_place}
use Rattle.in_interaction.proofs.Stepping.OneOutcome.{same_option}

pub same_free : {A : Type 0} (j k : ℕ) → ◌≡◌ {A = Point A} (Free j) (Free k) → j ≡ k
same_free j k e = cc

pub same_point : (p q : Point ℕ) → Dec (p ≡ q)
same_point (Port x i) (Port y j) = go (ℕ_discrete x y) (ℕ_discrete i j)
  where
    go : Dec (x ≡ y) → Dec (i ≡ j) → Dec (Port x i ≡ Port y j)
    go (yes e) (yes f) = yes (ap (λ x. Port x i) e ∙ ap (λ i. Port y i) f)
    go (no d) f = no (λ e. d (port_agent x y i j e))
    go (yes e) (no d) = no (λ e. d (port_place x y i j e))
same_point (Port x i) (Free k) = no (λ e. cc)
same_point (Free k) (Port x i) = no (λ e. cc)
same_point (Free j) (Free k) = go (ℕ_discrete j k)
  where
    go : Dec (j ≡ k) → Dec (◌≡◌ {A = Point ℕ} (Free j) (Free k))
    go (yes e) = yes (ap (λ k. Free k) e)
    go (no d) = no (λ e. d (same_free {A = ℕ} j k e))

-- nets of the same agents, wires and free ends are equal
pub same_net : {A : Type 0} (m k : Net A) → ((c : A) (s : ℕ) → (m.symbol c ≡ Some s) ↔ (k.symbol c ≡ Some s)) → ((u v : Point A) → (m.partner u ≡ Some v) ↔ (k.partner u ≡ Some v)) → m.free ≡ k.free → m ≡ k
same_net m k agents wires free =
    let symbols : m.symbol ≡ k.symbol = fun_ext (λ c. same_option (m.symbol c) (k.symbol c) (λ s. (agents c s).0) (λ s. (agents c s).1)) in
    let partners : m.partner ≡ k.partner = fun_ext (λ u. same_option (m.partner u) (k.partner u) (λ v. (wires u v).0) (λ v. (wires u v).1)) in
    λ i. record { symbol = symbols i; partner = partners i; free = free i }

-- an interaction has one result
pub one_result : {A B : Type 0} (sig : Signature) (n : Net A) (x : Redex A B) (name : B → A) (m k : Net A) → IsStep sig n x name m → IsStep sig n x name k → m ≡ k
one_result sig n x name m k s t =
    same_net m k
    (λ c i. ((λ e. (t.agents c i).1 ((s.agents c i).0 e)), (λ e. (s.agents c i).1 ((t.agents c i).0 e))))
    (λ u v. ((λ e. (t.wires u v).1 ((s.wires u v).0 e)), (λ e. (s.wires u v).1 ((t.wires u v).0 e))))
    (s.free ∙ sym t.free)
