-- Under birth names, interactions that are possible on two pairs lead to one net.
use Rattle.std.proofs.Common.{◌≡◌, ℕ, Option, Some, None, [], refl, sym, subst, ap, inl, inr}
use mathlib.Core.HLevel.{Discrete}
use native.Mathlib.Decide.{ℕ_discrete}
use Rattle.in_net.specs.Nets.{Port, Signature, Net, IsNet}
use Rattle.in_net.specs.Interactions.{Redex, IsRedex, Outer, IsNaming, IsStep}
use Rattle.in_interaction.proofs.Public.{is_net, step_exists}
use Rattle.in_gluing.specs.BirthNames.{BirthName, Initial, Born, born}
use Rattle.in_gluing.specs.Orders.{InteractionsCommute, OrdersAreOne, OrdersAreBothAtOnce}
use Rattle.in_gluing.proofs.AtNets.{both_at_once, commute}
use Rattle.in_gluing.proofs.Pairs.{AreApart, turned, apart}

pub birth_discrete : Discrete BirthName
birth_discrete (Initial i) (Initial j) = go (ℕ_discrete i j)
  where
    go : Dec (i ≡ j) → Dec (Initial i ≡ Initial j)
    go (yes e) = yes (ap (λ i. Initial i) e)
    go (no d) = no (λ e. let h : i ≡ j = cc in d h)
birth_discrete (Initial i) (Born a b k) = no (λ e. cc)
birth_discrete (Born a b k) (Initial i) = no (λ e. cc)
birth_discrete (Born a b k) (Born c d l) = go (birth_discrete a c) (birth_discrete b d) (ℕ_discrete k l)
  where
    go : Dec (a ≡ c) → Dec (b ≡ d) → Dec (k ≡ l) → Dec (Born a b k ≡ Born c d l)
    go (yes e) (yes f) (yes h) = yes (cc)
    go (no u) f h = no (λ e. let w : a ≡ c = cc in u w)
    go (yes e) (no u) h = no (λ i. let w : b ≡ d = cc in u w)
    go (yes e) (yes f) (no u) = no (λ i. let w : k ≡ l = cc in u w)

-- the other pair is after the interaction
pub redex_stays : {A B : Type 0} (sig : Signature) (n : Net A) (x y : Redex A B) → IsRedex sig n y → AreApart x y → (name : B → A) (one : Net A) → IsStep sig n x name one → IsRedex sig one y
redex_stays sig n x y ry apart name one step = record {
  one = (step.agents y.one y.first).1 (inl ((λ e. apart.one.0 (sym e)), (λ e. apart.two.0 (sym e)), ry.one));
  two = (step.agents y.two y.second).1 (inl ((λ e. apart.one.1 (sym e)), (λ e. apart.two.1 (sym e)), ry.two));
  differ = ry.differ;
  active = (step.wires (Port y.one 0) (Port y.two 0)).1
      ((λ h. elim h [ inl e ↦ apart.one.0 (sym e) | inr e ↦ apart.two.0 (sym e) ]), (λ h. elim h [ inl e ↦ apart.one.1 (sym e) | inr e ↦ apart.two.1 (sym e) ]), (Outer, [], ry.active));
  ends = ry.ends;
  declared = ry.declared;
}

module _ (sig : Signature) (n : Net BirthName) (x y : Redex BirthName ℕ) (apart : AreApart x y) (one : Net BirthName) (step : IsStep sig n x (born x) one) where
  -- .. and its new agents' names are new
  pub naming_stays : IsNaming n y (born y) → IsNaming one y (born y)
  naming_stays naming = record { fresh = λ k s h. none k s h (one.symbol (born y k)) refl; apart = naming.apart }
    where
      none : (k s : ℕ) → y.member.symbol k ≡ Some s → (o : Option ℕ) → one.symbol (born y k) ≡ o → one.symbol (born y k) ≡ None
      none k s h None e = e
      none k s h (Some t) e =
          elim ((step.agents (born y k) t).0 e) [
            | inl r ↦ (let u : n.symbol (born y k) ≡ None = naming.fresh k s h in let w : n.symbol (born y k) ≡ Some t = r.2 in cc)
            | inr r ↦ (let same : Born x.one x.two r.0 ≡ Born y.one y.two k = r.1 in let a : x.one ≡ y.one = cc in absurd (apart.one.0 a))
          ]

-- two interactions on two pairs lead, each followed by the other, to one net
pub diamond : (sig : Signature) (n : Net BirthName) (x y : Redex BirthName ℕ) → IsNet sig n → IsNet sig x.member → IsNet sig y.member → IsRedex sig n x → IsRedex sig n y → AreApart x y → (one other : Net BirthName) → IsStep sig n x (born x) one → IsStep sig n y (born y) other → (m : Net BirthName) × IsStep sig one y (born y) m × IsStep sig other x (born x) m
diamond sig n x y net in_x in_y rx ry apart one other step1 step2 =
    let back = turned x y apart in
    let a = step_exists sig one y (born y) (is_net sig n x (born x) one net in_x rx step1 birth_discrete) in_y (redex_stays sig n x y ry apart (born x) one step1) (naming_stays sig n x y apart one step1 step2.naming) birth_discrete in
    let b = step_exists sig other x (born x) (is_net sig n y (born y) other net in_y ry step2 birth_discrete) in_x (redex_stays sig n y x rx back (born y) other step2) (naming_stays sig n y x back other step2 step1.naming) birth_discrete in
    let same : a.0 ≡ b.0 = commute sig n x y (born x) (born y) in_x in_y rx ry apart one other a.0 b.0 step1 a.1 step2 b.1 in
    (a.0, a.1, subst (λ m. IsStep sig other x (born x) m) (sym same) b.1)

-- ---- the laws

pub interactions_commute : InteractionsCommute
interactions_commute sig n x y net in_x in_y rx ry differ one other s t = diamond sig n x y net in_x in_y rx ry (apart sig n net x y rx ry differ) one other s t

pub orders_are_one : OrdersAreOne
orders_are_one sig n x y net in_x in_y rx ry differ one other m k s t u v =
    commute sig n x y (born x) (born y) in_x in_y rx ry (apart sig n net x y rx ry differ) one other m k s t u v

pub orders_are_both_at_once : OrdersAreBothAtOnce
orders_are_both_at_once sig n x y net in_x in_y rx ry differ one m naming s t =
    both_at_once sig n x y (born x) (born y) one m (record { in_x = in_x; in_y = in_y; rx = rx; ry = ry; apart = apart sig n net x y rx ry differ; naming = naming; first = s; second = t })
