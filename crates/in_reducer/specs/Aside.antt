-- An active pair under other numbers, while all other agents keep theirs: then new agents can get the numbers that the pair had. Lafont 1990
-- takes nets up to the names of their agents; which numbers new agents get is this project's own choice.
use Rattle.std.specs.Prelude.{◌≡◌, ◌≢◌, ◌⊎◌, ◌↔◌, ℕ, Some, None}
use Rattle.in_net.specs.Interactions.{Redex, IsRedex, IsOfPair, IsNaming, end_agent, end_place}
use Rattle.in_net.specs.Nets.{Point, Port, Signature, Net, IsNet}
use Rattle.in_net.specs.Renaming.{IsRenamed}
use Rattle.in_check.specs.Runs.{moved}
use Rattle.in_overwriting.specs.Overwriting.{NoneLeadsBack}

-- the second net is the first with other numbers for the pair alone
pub record IsAside (n m : Net ℕ) (x : Redex ℕ ℕ) (f : ℕ → ℕ) : Type 0 where
  pub renamed : IsRenamed f n m
  pub stays : (z : ℕ) → z ≢ x.one → z ≢ x.two → f z ≡ z

-- new agents have different numbers, which no staying agent has; they may have those of the pair
pub record IsNamingInPlace (n : Net ℕ) (x : Redex ℕ ℕ) (name : ℕ → ℕ) : Type 0 where
  pub fresh : (k s : ℕ) → x.member.symbol k ≡ Some s → (n.symbol (name k) ≡ None) ⊎ ((name k ≡ x.one) ⊎ (name k ≡ x.two))
  pub apart : (k l s t : ℕ) → x.member.symbol k ≡ Some s → x.member.symbol l ≡ Some t → name k ≡ name l → k ≡ l

-- .. but they aren't the pair's numbers in the net with the pair aside
pub record IsReusing (n : Net ℕ) (x : Redex ℕ ℕ) (f name : ℕ → ℕ) : Type 0 where
  pub in_place : IsNamingInPlace n x name
  pub aside : (k s : ℕ) → x.member.symbol k ≡ Some s → (name k ≢ f x.one) × (name k ≢ f x.two)

module _ (n m : Net ℕ) (x : Redex ℕ ℕ) (f : ℕ → ℕ) where
  -- a wire between points away from the pair, in the net with the pair aside, is one of the net itself, with both points away from the pair there
  abbrev pub WiresAreOfBefore : Type 0
  WiresAreOfBefore = (u v : Point ℕ) → (IsOfPair (moved f x) u → ⊥) → (IsOfPair (moved f x) v → ⊥) → m.partner u ≡ Some v → (n.partner u ≡ Some v) × (IsOfPair x u → ⊥) × (IsOfPair x v → ⊥)

  -- numbers that new agents may have in place are new in the net with the pair aside
  abbrev pub NumbersAreNew : Type 0
  NumbersAreNew = (name : ℕ → ℕ) → IsReusing n x f name → IsNaming m (moved f x) name

-- the net with the pair aside has the wires of the net itself: the same partners at the pair's auxiliary ports, and the same other wires
pub record AreAlikeAside (sig : Signature) (n m : Net ℕ) (x : Redex ℕ ℕ) (f : ℕ → ℕ) : Type 0 where
  pub none_back : NoneLeadsBack m (moved f x)
  pub ends : (e : ℕ) (u : Point ℕ) → (m.partner (Port (end_agent sig (moved f x) e) (end_place sig (moved f x) e)) ≡ Some u) ↔ (n.partner (Port (end_agent sig x e) (end_place sig x e)) ≡ Some u)
  pub forth : (u v : Point ℕ) → (IsOfPair x u → ⊥) → (IsOfPair x v → ⊥) → n.partner u ≡ Some v → m.partner u ≡ Some v
  pub back : WiresAreOfBefore n m x f
  pub naming : NumbersAreNew n m x f

-- this holds if no wire leads back to the pair
abbrev pub PairsAsideAreAlike : Type 0
PairsAsideAreAlike = (sig : Signature) (n m : Net ℕ) (x : Redex ℕ ℕ) (f : ℕ → ℕ) → IsNet sig n → IsRedex sig n x → NoneLeadsBack n x → IsAside n m x f → AreAlikeAside sig n m x f
