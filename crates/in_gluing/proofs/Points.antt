-- Tests that tell points and options apart; and a sum with its sides exchanged.
use Rattle.std.proofs.Common.{◌≡◌, ◌⊎◌, ℕ, Option, Some, None, option_map, refl, sym, inl, inr, ◌∙◌}
use Rattle.std.proofs.lemmas.Option.{same_Some}
use Rattle.in_net.specs.Nets.{Point, Port, Free}

pub port_free : {A : Type 0} (y : A) (i k : ℕ) → Port y i ≡ Free k → ⊥
port_free y i k e = cc

pub none_some : {X : Type 0} (o : Option X) (x : X) → o ≡ None → o ≡ Some x → ⊥
none_some o x e f = let g : None ≡ Some x = sym e ∙ f in cc

pub mapped : {X Y : Type 0} (f : X → Y) (o : Option X) (y : Y) → option_map f o ≡ Some y → (x : X) × (o ≡ Some x) × (f x ≡ y)
mapped f None y e = cc
mapped f (Some x) y e = (x, refl, same_Some (f x) y e)

pub turned : {P Q : Type 0} → P ⊎ Q → Q ⊎ P
turned (inl h) = inr h
turned (inr h) = inl h
