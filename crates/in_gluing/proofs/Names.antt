-- Names of glued nets: those glued from the same parts are one net up to names.
use Rattle.std.proofs.Common.{◌≡◌, ◌⊎◌, ℕ, Option, Some, None, IsSome, List, [], ◌∷◌, option_map, refl, sym, ap, ◌∙◌, inl, inr}
use native.Mathlib.Decide.{ℕ_discrete}
use Rattle.in_base.specs.Lists.{IsAmong}
use Rattle.in_net.specs.Interactions.{other}
use Rattle.in_net.specs.Nets.{Point, Port, Free, Signature, Net, IsNet}
use Rattle.in_net.proofs.Public.{symbol_of}
use Rattle.in_net.specs.Renaming.{renamed, IsRenamed}
use Rattle.in_gluing.specs.Laws.{RenamedExists}
use Rattle.in_base.proofs.Places.{is_some}
use Rattle.in_gluing.proofs.Points.{mapped}

some_or_none : {X : Type 0} (o : Option X) → IsSome o ⊎ (o ≡ None)
some_or_none None = inr refl
some_or_none (Some x) = inl refl

pub not_some : {X : Type 0} (o : Option X) → o ≡ None → IsSome o → ⊥
not_some None e h = cc
not_some (Some x) e h = cc

-- ---- a net under other names

module _ (sig : Signature) (n : Net ℕ) (f : ℕ → ℕ) (net : IsNet sig n) (apart : (x y : ℕ) → IsSome (n.symbol x) → IsSome (n.symbol y) → f x ≡ f y → x ≡ y) where
  abbrev Named : ℕ → Type 0
  Named y = (x : ℕ) × (f x ≡ y) × IsSome (n.symbol x)

  find : (y : ℕ) (xs : List ℕ) → Named y ⊎ ((x : ℕ) → IsAmong x xs → f x ≡ y → IsSome (n.symbol x) → ⊥)
  find y [] = inr (λ x a e h. a)
  find y (z ∷ zs) = go (find y zs) (ℕ_discrete (f z) y) (some_or_none (n.symbol z))
    where
      go : Named y ⊎ ((x : ℕ) → IsAmong x zs → f x ≡ y → IsSome (n.symbol x) → ⊥) → Dec (f z ≡ y) → IsSome (n.symbol z) ⊎ (n.symbol z ≡ None) → Named y ⊎ ((x : ℕ) → IsAmong x (z ∷ zs) → f x ≡ y → IsSome (n.symbol x) → ⊥)
      go (inl r) d h = inl r
      go (inr g) (yes e) (inl h) = inl (z, e, h)
      go (inr g) (yes e) (inr h) = inr (λ x a e k. elim a [ inl i ↦ not_some (n.symbol x) (ap n.symbol (sym i) ∙ h) k | inr b ↦ g x b e k ])
      go (inr g) (no d) h = inr (λ x a e k. elim a [ inl i ↦ d (ap f i ∙ e) | inr b ↦ g x b e k ])

  abbrev Found : ℕ → Type 0
  Found y = Named y ⊎ ((x : ℕ) → IsAmong x net.agents → f x ≡ y → IsSome (n.symbol x) → ⊥)

  abbrev symbol_by : (y : ℕ) → Found y → Option ℕ
  symbol_by y (inl r) = n.symbol r.0
  symbol_by y (inr g) = None

  abbrev partner_by : (y k : ℕ) → Found y → Option (Point ℕ)
  partner_by y k (inl r) = option_map (renamed f) (n.partner (Port r.0 k))
  partner_by y k (inr g) = None

  abbrev partner_at : Point ℕ → Option (Point ℕ)
  partner_at (Port y k) = partner_by y k (find y net.agents)
  partner_at (Free e) = option_map (renamed f) (n.partner (Free e))

  abbrev named : Net ℕ
  named = record { symbol = λ y. symbol_by y (find y net.agents); partner = partner_at; free = n.free }

  symbol_forth : (y s : ℕ) (d : Found y) → symbol_by y d ≡ Some s → (x : ℕ) × (f x ≡ y) × (n.symbol x ≡ Some s)
  symbol_forth y s (inl r) e = (r.0, r.1, e)
  symbol_forth y s (inr g) e = cc

  symbol_back : (y s : ℕ) (d : Found y) → (x : ℕ) × (f x ≡ y) × (n.symbol x ≡ Some s) → symbol_by y d ≡ Some s
  symbol_back y s (inl r) h = ap n.symbol (apart r.0 h.0 r.2 (is_some (n.symbol h.0) s h.2) (r.1 ∙ sym h.1)) ∙ h.2
  symbol_back y s (inr g) h = let there = is_some (n.symbol h.0) s h.2 in absurd (g h.0 (net.all h.0 there) h.1 there)

  partner_forth : (u v : Point ℕ) → partner_at u ≡ Some v → (p q : Point ℕ) × (renamed f p ≡ u) × (renamed f q ≡ v) × (n.partner p ≡ Some q)
  partner_forth (Free e) v h = let r = mapped (renamed f) (n.partner (Free e)) v h in (Free e, r.0, refl, r.2, r.1)
  partner_forth (Port y k) v h = go (find y net.agents) h
    where
      go : (d : Found y) → partner_by y k d ≡ Some v → (p q : Point ℕ) × (renamed f p ≡ Port y k) × (renamed f q ≡ v) × (n.partner p ≡ Some q)
      go (inl r) h = let q = mapped (renamed f) (n.partner (Port r.0 k)) v h in (Port r.0 k, q.0, ap (λ y. Port y k) r.1, q.2, q.1)
      go (inr g) h = cc

  partner_back : (p q : Point ℕ) → n.partner p ≡ Some q → partner_at (renamed f p) ≡ Some (renamed f q)
  partner_back (Free e) q h = ap (option_map (renamed f)) h
  partner_back (Port x k) q h = go (find (f x) net.agents)
    where
      there : IsSome (n.symbol x)
      there = let s = symbol_of sig (n.symbol x) k (net.points (Port x k) q h) in is_some (n.symbol x) s.0 s.1

      go : (d : Found (f x)) → partner_by (f x) k d ≡ Some (renamed f q)
      go (inl r) = ap (λ x. option_map (renamed f) (n.partner (Port x k))) (apart r.0 x r.2 there r.1) ∙ ap (option_map (renamed f)) h
      go (inr g) = absurd (g x (net.all x there) refl there)

  is_renamed : IsRenamed f n named
  is_renamed = record {
    apart = apart;
    agents = λ y s. ((λ e. symbol_forth y s (find y net.agents) e), (λ h. symbol_back y s (find y net.agents) h));
    wires = λ u v. ((λ e. partner_forth u v e), (λ h. ap partner_at (sym h.2) ∙ partner_back h.0 h.1 h.4 ∙ ap (λ q. Some q) h.3));
    free = refl;
  }

pub renamed_exists : RenamedExists
renamed_exists sig n f net apart = (named sig n f net apart, is_renamed sig n f net apart)
