-- Nets under other names.
use Rattle.std.specs.Prelude.{◌≡◌, ◌↔◌, ℕ, Some, IsSome}
use Rattle.in_net.specs.Nets.{Point, Port, Free, Net}

abbrev pub renamed : {A B : Type 0} → (A → B) → Point A → Point B
renamed f (Port y i) = Port (f y) i
renamed f (Free k) = Free k

-- the second net is the first under other names, and different agents get different ones
pub record IsRenamed {A B : Type 0} (f : A → B) (n : Net A) (m : Net B) : Type 0 where
  pub apart : (x y : A) → IsSome (n.symbol x) → IsSome (n.symbol y) → f x ≡ f y → x ≡ y
  pub agents : (y : B) (s : ℕ) → (m.symbol y ≡ Some s) ↔ ((x : A) × (f x ≡ y) × (n.symbol x ≡ Some s))
  pub wires : (u v : Point B) → (m.partner u ≡ Some v) ↔ ((p q : Point A) × (renamed f p ≡ u) × (renamed f q ≡ v) × (n.partner p ≡ Some q))
  pub free : m.free ≡ n.free
