-- Derivations: lists of steps that build an open net.
use Rattle.std.specs.Prelude.{◌≡◌, ℕ, suc, ◌+◌, ◌-◌, ◌<◌, Bool, false, cond, ◌||◌, nat_eq, List, [], ◌∷◌, length, slice_get, Some}
pub use Rattle.in_open_nets.specs.declared.derivations.Step.{Step}
pub use Rattle.in_open_nets.specs.declared.derivations.Step.TheVariants.{Empty, Link, Given, Graft, Cut, Mix}
use Rattle.in_open_nets.specs.declared.open_nets.OpenPoint.{OpenPoint}
use Rattle.in_open_nets.specs.declared.open_nets.OpenPoint.TheVariants.{Port, Free}
use Rattle.in_open_nets.specs.Constructions.{IsIn}
use Rattle.in_open_nets.specs.OpenNets.{OpenNet, IsAgent, IsClass, class_in, classes_of, IsWire}

-- the steps that a step names, and the nodes and Link wires that it has itself
abbrev pub named : Step → List ℕ
named Empty = []
named (Link w) = []
named (Given n) = []
named (Graft n steps) = steps
named (Cut w a b) = a ∷ b ∷ []
named (Mix a b) = a ∷ b ∷ []

abbrev pub own_nodes : Step → List ℕ
own_nodes Empty = []
own_nodes (Link w) = []
own_nodes (Given n) = n ∷ []
own_nodes (Graft n steps) = n ∷ []
own_nodes (Cut w a b) = []
own_nodes (Mix a b) = []

abbrev pub own_links : Step → List ℕ
own_links Empty = []
own_links (Link w) = w ∷ []
own_links (Given n) = []
own_links (Graft n steps) = []
own_links (Cut w a b) = []
own_links (Mix a b) = []

-- the part that a step builds: its nodes, the wires of its Links, and the number of its open ends for each point
pub record Part : Type 0 where
  pub nodes : ℕ → Bool
  pub links : ℕ → Bool
  pub ends : OpenPoint → ℕ

abbrev pub one_if : ℕ → ℕ → ℕ
one_if n m = cond (nat_eq n m) 1 0

-- a port of a node of s; the principal port of n; another port of n; a free end
abbrev pub is_port_in : (ℕ → Bool) → OpenPoint → ℕ
is_port_in s (Port n i) = cond (s n) 1 0
is_port_in s (Free k) = 0

abbrev pub is_principal : ℕ → OpenPoint → ℕ
is_principal n (Port m i) = cond (nat_eq i 0) (one_if n m) 0
is_principal n (Free k) = 0

abbrev pub is_auxiliary : ℕ → OpenPoint → ℕ
is_auxiliary n (Port m i) = cond (nat_eq i 0) 0 (one_if n m)
is_auxiliary n (Free k) = 0

abbrev pub is_free : OpenPoint → ℕ
is_free (Port n i) = 0
is_free (Free k) = 1

-- side by side
abbrev pub is_among : ℕ → List ℕ → Bool
is_among n [] = false
is_among n (m ∷ ms) = nat_eq n m || is_among n ms

abbrev pub nodes_of : List Part → ℕ → Bool
nodes_of [] n = false
nodes_of (x ∷ xs) n = x.nodes n || nodes_of xs n

abbrev pub links_of : List Part → ℕ → Bool
links_of [] w = false
links_of (x ∷ xs) w = x.links w || links_of xs w

abbrev pub ends_of : List Part → OpenPoint → ℕ
ends_of [] p = 0
ends_of (x ∷ xs) p = x.ends p + ends_of xs p

-- no two of them share a node or a Link wire
abbrev pub ShareNothing : List Part → Type 0
ShareNothing [] = Unit {0}
ShareNothing (x ∷ xs) = ((n : ℕ) → IsIn n x.nodes → IsIn n (nodes_of xs) → ⊥) × ((w : ℕ) → IsIn w x.links → IsIn w (links_of xs) → ⊥) × ShareNothing xs

abbrev pub HaveNoRepeats : List ℕ → Type 0
HaveNoRepeats [] = Unit {0}
HaveNoRepeats (n ∷ ns) = (is_among n ns ≡ false) × HaveNoRepeats ns

-- these steps are earlier than step k, and build these parts
abbrev pub AreEarlier : List Part → ℕ → List ℕ → List Part → Type 0
AreEarlier parts k [] [] = Unit {0}
AreEarlier parts k [] (x ∷ xs) = ⊥
AreEarlier parts k (i ∷ is) [] = ⊥
AreEarlier parts k (i ∷ is) (x ∷ xs) = (i < k) × (slice_get parts i ≡ Some x) × AreEarlier parts k is xs

-- How the open ends of a step come from those of the steps that it names. A wire's ends are each for one of its two points

-- a has an end for q, where p is a's own port, and b has an end for p
pub record IsCut (o : OpenNet) (w : ℕ) (a b : Part) : Type 0 where
  pub p : OpenPoint
  pub q : OpenPoint
  pub wire : IsWire o w p q
  pub own : is_port_in a.nodes p ≡ 1
  pub first : 0 < a.ends q
  pub second : 0 < b.ends p

-- the step of each class has an end for each port of the class
pub record IsGrafted (o : OpenNet) (n : ℕ) (xs : List Part) : Type 0 where
  pub agent : IsAgent o n
  pub many : length xs ≡ classes_of o n
  pub each : (w i c : ℕ) (q : OpenPoint) (x : Part) → IsWire o w (Port n i) q → class_in o n i ≡ suc c → slice_get xs c ≡ Some x → 0 < x.ends (Port n i)

-- at each wire {p, q}, by number w: the ends for q
abbrev pub Joins : OpenNet → Step → List Part → Part → Type 0
Joins o Empty xs x = (w : ℕ) (p q : OpenPoint) → IsWire o w p q → x.ends q ≡ 0
Joins o (Link v) xs x = ((p q : OpenPoint) × IsWire o v p q) × ((w : ℕ) (p q : OpenPoint) → IsWire o w p q → x.ends q ≡ one_if w v)
Joins o (Given n) xs x = IsClass o n × ((w : ℕ) (p q : OpenPoint) → IsWire o w p q → x.ends q ≡ is_port_in (λ m. nat_eq m n) p)
Joins o (Graft n steps) xs x = IsGrafted o n xs × ((w : ℕ) (p q : OpenPoint) → IsWire o w p q → x.ends q + is_auxiliary n q ≡ ends_of xs q + is_principal n p)
Joins o (Cut v a b) [] x = ⊥
Joins o (Cut v a b) (y ∷ []) x = ⊥
Joins o (Cut v a b) (y ∷ z ∷ zs) x = IsCut o v y z × ((w : ℕ) (p q : OpenPoint) → IsWire o w p q → x.ends q + one_if w v ≡ y.ends q + z.ends q)
Joins o (Mix a b) xs x = (w : ℕ) (p q : OpenPoint) → IsWire o w p q → x.ends q ≡ ends_of xs q

-- step k builds x out of the parts of the steps that it names
pub record BuildsPart (o : OpenNet) (parts : List Part) (k : ℕ) (step : Step) (x : Part) : Type 0 where
  pub from : List Part
  pub earlier : AreEarlier parts k (named step) from
  pub different : HaveNoRepeats (named step)
  pub apart : ShareNothing from
  pub nodes : (n : ℕ) → x.nodes n ≡ (is_among n (own_nodes step) || nodes_of from n)
  pub links : (w : ℕ) → x.links w ≡ (is_among w (own_links step) || links_of from w)
  pub joins : Joins o step from x

-- how often n is in the lists of the steps
abbrev pub times : ℕ → List ℕ → ℕ
times n [] = 0
times n (m ∷ ms) = one_if n m + times n ms

abbrev pub times_in : (Step → List ℕ) → ℕ → List Step → ℕ
times_in f n [] = 0
times_in f n (x ∷ xs) = times n (f x) + times_in f n xs

-- each step builds its part of those of the steps before it
abbrev pub EachBuilds : OpenNet → List Step → List Part → Type 0
EachBuilds o steps parts = (k : ℕ) (step : Step) → slice_get steps k ≡ Some step → (x : Part) × (slice_get parts k ≡ Some x) × BuildsPart o parts k step x

-- the steps build the open net
pub record IsDerivation (o : OpenNet) (steps : List Step) : Type 0 where
  pub parts : List Part
  pub each : EachBuilds o steps parts
  pub named_once : (k : ℕ) → suc k < length steps → times_in named k steps ≡ 1
  pub node_once : (n : ℕ) → n < length o.nodes → times_in own_nodes n steps ≡ 1
  pub some : 0 < length steps
  pub ends : (x : Part) → slice_get parts (length steps - 1) ≡ Some x → (w : ℕ) (p q : OpenPoint) → IsWire o w p q → x.ends q ≡ is_free q
