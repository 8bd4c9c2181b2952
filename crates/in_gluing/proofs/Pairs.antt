-- Two active pairs of a net are the same, or share no agent.
use Rattle.std.proofs.Common.{◌≡◌, ◌≢◌, Some, sym, ap, inl, inr, ◌∙◌}
use Rattle.std.proofs.lemmas.Option.{same_Some}
use Rattle.in_net.specs.Interactions.{Redex, IsRedex}
use Rattle.in_net.specs.Nets.{Port, Signature, Net, IsNet}
use Rattle.in_net.proofs.Public.{port_agent}
use Rattle.in_gluing.specs.BirthNames.{IsSamePair}

-- no agent of one is an agent of the other
pub record AreApart {A B : Type 0} (x y : Redex A B) : Type 0 where
  pub one : (x.one ≢ y.one) × (x.one ≢ y.two)
  pub two : (x.two ≢ y.one) × (x.two ≢ y.two)

pub turned : {A B : Type 0} (x y : Redex A B) → AreApart x y → AreApart y x
turned x y apart = record {
  one = ((λ e. apart.one.0 (sym e)), (λ e. apart.two.0 (sym e)));
  two = ((λ e. apart.one.1 (sym e)), (λ e. apart.two.1 (sym e)));
}

module _ {A : Type 0} (sig : Signature) (n : Net A) (net : IsNet sig n) where
  -- principal ports have one partner each
  pub other_agent : (a b c d : A) → n.partner (Port a 0) ≡ Some (Port b 0) → n.partner (Port c 0) ≡ Some (Port d 0) → a ≡ c → b ≡ d
  other_agent a b c d e f same =
      let points : Port b 0 ≡ Port d 0 = same_Some (Port b 0) (Port d 0) (sym e ∙ ap (λ z. n.partner (Port z 0)) same ∙ f) in
      port_agent b d 0 0 points

  pub apart : {B : Type 0} (x y : Redex A B) → IsRedex sig n x → IsRedex sig n y → (IsSamePair x y → ⊥) → AreApart x y
  apart x y rx ry differ =
      let back_x = net.back (Port x.one 0) (Port x.two 0) rx.active in
      let back_y = net.back (Port y.one 0) (Port y.two 0) ry.active in
      record {
        one = (
          (λ e. differ (inl (e, other_agent x.one x.two y.one y.two rx.active ry.active e))),
          (λ e. differ (inr (e, other_agent x.one x.two y.two y.one rx.active back_y e))),
        );
        two = (
          (λ e. differ (inr (other_agent x.two x.one y.one y.two back_x ry.active e, e))),
          (λ e. differ (inl (other_agent x.two x.one y.two y.one back_x back_y e, e))),
        );
      }
