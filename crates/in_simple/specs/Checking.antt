-- The invariants of the check of a derivation. Sets of nodes and of wires are lists of tests.
use Rattle.std.specs.Prelude.{◌≡◌, ◌⊎◌, ◌↔◌, ◌<◌, ◌+◌, ℕ, suc, Bool, true, false, cond, ◌||◌, List, [], ◌∷◌, ◌++◌, Option, Some, None, length, slice_get, slice_set, slice_index_or}
use Rattle.in_open_nets.specs.declared.open_nets.OpenPoint.{OpenPoint}
use Rattle.in_open_nets.specs.declared.open_nets.OpenPoint.TheVariants.{Port, Free}
use Rattle.in_simple.specs.declared.verifying.Built.{Built}
use Rattle.in_open_nets.specs.Constructions.{IsIn}
use Rattle.in_open_nets.specs.declared.derivations.Step.{Step}
use Rattle.in_open_nets.specs.Derivations.{Part, named, own_nodes, own_links, is_port_in, is_principal, is_auxiliary, is_free, is_among, nodes_of, links_of, ends_of, ShareNothing, HaveNoRepeats, AreEarlier, Joins, BuildsPart, times}
use Rattle.in_open_nets.specs.OpenNets.{OpenNet, class_in, IsWire}
use Rattle.in_open_nets.specs.Members.{IsUnion, nodes_in}

-- the result says which of the two holds
abbrev pub SaysWhich : Bool → Type 0 → Type 0 → Type 0
SaysWhich b P Q = (b ≡ true → P) × (b ≡ false → Q)

-- how many open ends there are for the two points of a wire
abbrev pub ends_at : List (ℕ × ℕ) → ℕ → ℕ × ℕ
ends_at ends w = slice_index_or ends w (0, 0)

abbrev pub has_node : Built → ℕ → Bool
has_node b = nodes_in b.nodes

abbrev pub has_link : Built → ℕ → Bool
has_link b = nodes_in b.links

abbrev pub first_ends : Built → ℕ → ℕ
first_ends b w = (ends_at b.ends w).0

abbrev pub second_ends : Built → ℕ → ℕ
second_ends b w = (ends_at b.ends w).1

-- there is a test for each node and each wire, and two numbers for each wire
pub record IsSizedBuilt (o : OpenNet) (b : Built) : Type 0 where
  pub nodes : length b.nodes ≡ length o.nodes
  pub links : length b.links ≡ length o.wires
  pub ends : length b.ends ≡ length o.wires

-- the built net is this part, as far as the wires show it
pub record IsBuiltPart (o : OpenNet) (b : Built) (x : Part) : Type 0 where
  pub nodes : (n : ℕ) → x.nodes n ≡ has_node b n
  pub links : (w : ℕ) → x.links w ≡ has_link b w
  pub ends : (w : ℕ) (p q : OpenPoint) → slice_get o.wires w ≡ Some (p, q) → (x.ends p ≡ first_ends b w) × (x.ends q ≡ second_ends b w)

-- .. or these parts side by side
pub record Gathers (o : OpenNet) (b : Built) (xs : List Part) : Type 0 where
  pub share : ShareNothing xs
  pub nodes : (n : ℕ) → nodes_of xs n ≡ has_node b n
  pub links : (w : ℕ) → links_of xs w ≡ has_link b w
  pub ends : (w : ℕ) (p q : OpenPoint) → slice_get o.wires w ≡ Some (p, q) → (ends_of xs p ≡ first_ends b w) × (ends_of xs q ≡ second_ends b w)

-- ---- sets and ends

abbrev pub SharesNodes : List Bool → List Bool → Type 0
SharesNodes a b = (n : ℕ) × IsIn n (nodes_in a) × IsIn n (nodes_in b)

abbrev pub IsSum : List (ℕ × ℕ) → List (ℕ × ℕ) → List (ℕ × ℕ) → Type 0
IsSum a b c = (w : ℕ) → ((ends_at c w).0 ≡ (ends_at a w).0 + (ends_at b w).0) × ((ends_at c w).1 ≡ (ends_at a w).1 + (ends_at b w).1)

abbrev pub HasNoNodes : Built → Type 0
HasNoNodes b = (n : ℕ) → has_node b n ≡ false

abbrev pub HasNoLinks : Built → Type 0
HasNoLinks b = (w : ℕ) → has_link b w ≡ false

pub record IsNothing (o : OpenNet) (b : Built) : Type 0 where
  pub sized : IsSizedBuilt o b
  pub nodes : HasNoNodes b
  pub links : HasNoLinks b
  pub ends : (w : ℕ) → ends_at b.ends w ≡ (0, 0)

-- c is a and b side by side, which share no node and no Link
pub record AreBeside (a b c : Built) : Type 0 where
  pub apart : SharesNodes a.nodes b.nodes → ⊥
  pub apart_links : SharesNodes a.links b.links → ⊥
  pub nodes : IsUnion a.nodes b.nodes c.nodes
  pub links : IsUnion a.links b.links c.links
  pub ends : IsSum a.ends b.ends c.ends

abbrev pub ShareOne : Built → Built → Type 0
ShareOne a b = SharesNodes a.nodes b.nodes ⊎ SharesNodes a.links b.links

-- an end for each far point of a wire at one of the nodes, of the wires below k
abbrev pub IsLed : OpenNet → (ℕ → Bool) → List (ℕ × ℕ) → ℕ → Type 0
IsLed o s ends k = (w : ℕ) (p q : OpenPoint) → w < k → slice_get o.wires w ≡ Some (p, q) → ends_at ends w ≡ (is_port_in s q, is_port_in s p)

-- one point is a's own port, a has an end for the other point, and b one for it
abbrev pub IsFrom : List Bool → OpenPoint → ℕ → ℕ → Type 0
IsFrom nodes p far near = (is_port_in (nodes_in nodes) p ≡ 1) × (0 < far) × (0 < near)

abbrev pub IsJoint : OpenNet → ℕ → Built → Built → Type 0
IsJoint o w a b = (p : OpenPoint) × (q : OpenPoint) × (slice_get o.wires w ≡ Some (p, q))
    × (IsFrom a.nodes p (second_ends a w) (first_ends b w) ⊎ IsFrom a.nodes q (first_ends a w) (second_ends b w))

-- the point is a port of the node in this class
abbrev pub IsInClass : OpenNet → ℕ → ℕ → OpenPoint → Type 0
IsInClass o n c (Port m i) = (m ≡ n) × (class_in o n i ≡ c)
IsInClass o n c (Free k) = ⊥

abbrev pub IsOpenAt : OpenNet → ℕ → ℕ → ℕ → ℕ × ℕ → Type 0
IsOpenAt o n c w ends = (p q : OpenPoint) → slice_get o.wires w ≡ Some (p, q) → (IsInClass o n c p → 0 < ends.0) × (IsInClass o n c q → 0 < ends.1)

-- there is an end for each port of the node in this class, of the wires below k
abbrev pub IsOpen : OpenNet → ℕ → ℕ → List (ℕ × ℕ) → ℕ → Type 0
IsOpen o n c ends k = (w : ℕ) → w < k → IsOpenAt o n c w (ends_at ends w)

abbrev pub HasClassBuilt : OpenNet → ℕ → ℕ → Built → Type 0
HasClassBuilt o n c b = IsOpen o n c b.ends (length o.wires)

-- how many ends for a point are left when the node is joined to one end and its principal port is opened; `None` if there is no end to join
abbrev pub OnGraftEnd : ℕ → OpenPoint → OpenPoint → ℕ → Option ℕ → Type 0
OnGraftEnd n p q count None = count + is_principal n q < is_auxiliary n p
OnGraftEnd n p q count (Some m) = m + is_auxiliary n p ≡ count + is_principal n q

abbrev pub AreGrafted : ℕ → OpenPoint → OpenPoint → ℕ × ℕ → ℕ × ℕ → Type 0
AreGrafted n p q old new = (new.0 + is_auxiliary n p ≡ old.0 + is_principal n q) × (new.1 + is_auxiliary n q ≡ old.1 + is_principal n p)

abbrev pub LacksEnd : ℕ → OpenPoint → OpenPoint → ℕ × ℕ → Type 0
LacksEnd n p q old = (old.0 + is_principal n q < is_auxiliary n p) ⊎ (old.1 + is_principal n p < is_auxiliary n q)

abbrev pub OnGraftWire : ℕ → OpenPoint → OpenPoint → ℕ × ℕ → Option (ℕ × ℕ) → Type 0
OnGraftWire n p q old None = LacksEnd n p q old
OnGraftWire n p q old (Some new) = AreGrafted n p q old new

-- the ends of wires from k on are unchanged
abbrev pub StayFrom : ℕ → List (ℕ × ℕ) → List (ℕ × ℕ) → Type 0
StayFrom k old new = (w : ℕ) → (w < k → ⊥) → ends_at new w ≡ ends_at old w

-- the wires below k are grafted, and the others are unchanged
pub record IsGraftedTo (o : OpenNet) (n : ℕ) (old new : List (ℕ × ℕ)) (k : ℕ) : Type 0 where
  pub size : length new ≡ length old
  pub below : (w : ℕ) (p q : OpenPoint) → w < k → slice_get o.wires w ≡ Some (p, q) → AreGrafted n p q (ends_at old w) (ends_at new w)
  pub above : StayFrom k old new

abbrev pub LacksSome : OpenNet → ℕ → List (ℕ × ℕ) → Type 0
LacksSome o n ends = (w : ℕ) × (p : OpenPoint) × (q : OpenPoint) × (slice_get o.wires w ≡ Some (p, q)) × LacksEnd n p q (ends_at ends w)

abbrev pub HasFreeEnds : OpenNet → Built → ℕ → Type 0
HasFreeEnds o b k = (w : ℕ) (p q : OpenPoint) → w < k → slice_get o.wires w ≡ Some (p, q) → (first_ends b w ≡ is_free p) × (second_ends b w ≡ is_free q)

abbrev pub AreAll : List Bool → ℕ → Type 0
AreAll bits k = (n : ℕ) → n < k → IsIn n (nodes_in bits)

-- ---- steps

-- the conditions of `Builds` on the parts of the named steps
pub record MakesPart (o : OpenNet) (step : Step) (xs : List Part) (x : Part) : Type 0 where
  pub apart : ShareNothing xs
  pub nodes : (n : ℕ) → x.nodes n ≡ (is_among n (own_nodes step) || nodes_of xs n)
  pub links : (w : ℕ) → x.links w ≡ (is_among w (own_links step) || links_of xs w)
  pub joins : Joins o step xs x

-- 1 if the node is there
abbrev pub in_one : Built → ℕ → ℕ
in_one b n = cond (has_node b n) 1 0

-- a step that names none
abbrev pub OnAlone : OpenNet → Step → Option Built → Type 0
OnAlone o step None = (x : Part) → MakesPart o step [] x → ⊥
OnAlone o step (Some c) = IsSizedBuilt o c × ((x : Part) → MakesPart o step [] x ↔ IsBuiltPart o c x) × ((n : ℕ) → in_one c n ≡ times n (own_nodes step))

-- a step that names two
abbrev pub OnPair : OpenNet → (ℕ → ℕ → Step) → Built → Built → Option Built → Type 0
OnPair o f a b None = (i j : ℕ) (y z x : Part) → IsBuiltPart o a y → IsBuiltPart o b z → MakesPart o (f i j) (y ∷ z ∷ []) x → ⊥
OnPair o f a b (Some c) = IsSizedBuilt o c × ((i j : ℕ) (y z x : Part) → IsBuiltPart o a y → IsBuiltPart o b z → MakesPart o (f i j) (y ∷ z ∷ []) x ↔ IsBuiltPart o c x) × ((n : ℕ) → in_one c n ≡ in_one a n + in_one b n)

-- 1 if step i is there and no step named it yet
abbrev pub left_of : Option (Option Built) → ℕ
left_of None = 0
left_of (Some None) = 0
left_of (Some (Some b)) = 1

-- the nets that the steps so far have built, without those that a later step has taken
abbrev pub BuiltParts : Type 0
BuiltParts = List (Option Built)

abbrev pub left_at : BuiltParts → ℕ → ℕ
left_at parts i = left_of (slice_get parts i)

-- how many of the nets that are left have the node
abbrev pub times_left : ℕ → BuiltParts → ℕ
times_left n [] = 0
times_left n (None ∷ parts) = times_left n parts
times_left n (Some b ∷ parts) = in_one b n + times_left n parts

abbrev pub AreSizedBuilt : OpenNet → BuiltParts → Type 0
AreSizedBuilt o parts = (i : ℕ) (b : Built) → slice_get parts i ≡ Some (Some b) → IsSizedBuilt o b

-- these steps were left, each named once, and are not left any more
pub record TakesNamed (ns : List ℕ) (old new : BuiltParts) : Type 0 where
  pub size : length new ≡ length old
  pub each : (i : ℕ) → left_at new i + times i ns ≡ left_at old i

-- step i was left with b, and is not left any more
abbrev pub IsTaken : ℕ → BuiltParts → BuiltParts → Built → Type 0
IsTaken i old new b = (slice_get old i ≡ Some (Some b)) × (new ≡ slice_set old i None)

abbrev pub OnTaken : ℕ → BuiltParts → BuiltParts → Option Built → Type 0
OnTaken i old new None = left_at old i ≡ 0
OnTaken i old new (Some b) = IsTaken i old new b

-- these steps were taken, the last of them first
abbrev pub Took : List ℕ → BuiltParts → BuiltParts → List Built → Type 0
Took [] old new [] = new ≡ old
Took [] old new (b ∷ bs) = ⊥
Took (i ∷ is) old new [] = ⊥
Took (i ∷ is) old new (b ∷ bs) = (mid : BuiltParts) × Took is old mid bs × IsTaken i mid new b

abbrev pub AllHold : OpenNet → List Built → List Part → Type 0
AllHold o [] [] = Unit {0}
AllHold o [] (x ∷ xs) = ⊥
AllHold o (b ∷ bs) [] = ⊥
AllHold o (b ∷ bs) (x ∷ xs) = IsBuiltPart o b x × AllHold o bs xs

-- the parts of the steps that are left
abbrev pub AreHeld : OpenNet → BuiltParts → List Part → Type 0
AreHeld o parts all = (i : ℕ) (b : Built) → slice_get parts i ≡ Some (Some b) → (x : Part) × (slice_get all i ≡ Some x) × IsBuiltPart o b x

-- the step names one that is not left, or has a node that an earlier step has
abbrev pub Again : Step → BuiltParts → Type 0
Again step old = ((i : ℕ) × (is_among i (named step) ≡ true) × (left_at old i ≡ 0))
    ⊎ ((n : ℕ) × (is_among n (own_nodes step) ≡ true) × (0 < times_left n old))

pub record IsMadeByStep (o : OpenNet) (step : Step) (old new : BuiltParts) (c : Built) : Type 0 where
  pub from : List Built
  pub took : Took (named step) old new from
  pub sized : IsSizedBuilt o c
  pub makes : (xs : List Part) → AllHold o from xs → (x : Part) → MakesPart o step xs x ↔ IsBuiltPart o c x
  pub counted : (n : ℕ) → times_left n new + in_one c n ≡ times_left n old + times n (own_nodes step)

abbrev pub OnStep : OpenNet → Step → BuiltParts → BuiltParts → Option Built → Type 0
OnStep o step old new None = (all : List Part) (x : Part) → AreHeld o old all → BuildsPart o all (length old) step x → Again step old
OnStep o step old new (Some c) = IsMadeByStep o step old new c

-- the parts have ends for the ports of the classes after c
abbrev pub AreOpen : OpenNet → ℕ → ℕ → List Part → Type 0
AreOpen o n c [] = Unit {0}
AreOpen o n c (x ∷ xs) = ((w i : ℕ) (q : OpenPoint) → IsWire o w (Port n i) q → class_in o n i ≡ suc c → 0 < x.ends (Port n i)) × AreOpen o n (suc c) xs

-- one more class beside the later ones
abbrev pub IsClassTaken : OpenNet → ℕ → ℕ → ℕ → BuiltParts → BuiltParts → Built → Built → Type 0
IsClassTaken o n c i old new built built' = (b : Built) × IsTaken i old new b × HasClassBuilt o n c b × AreBeside b built built'

abbrev pub IsClassRefused : OpenNet → ℕ → ℕ → ℕ → BuiltParts → Built → Type 0
IsClassRefused o n c i old built = (left_at old i ≡ 0) ⊎ ((b : Built) × (slice_get old i ≡ Some (Some b)) × ((HasClassBuilt o n c b → ⊥) ⊎ ShareOne b built))

-- the steps of the classes after c are taken, and side by side
pub record AreGathered (o : OpenNet) (n c : ℕ) (is : List ℕ) (old new : BuiltParts) (built : Built) : Type 0 where
  pub from : List Built
  pub took : Took is old new from
  pub gathers : (xs : List Part) → AllHold o from xs → Gathers o built xs × AreOpen o n c xs
  pub counted : (m : ℕ) → times_left m new + in_one built m ≡ times_left m old

abbrev pub AreRefused : OpenNet → ℕ → ℕ → List ℕ → BuiltParts → Type 0
AreRefused o n c is old = (all from : List Part) → AreHeld o old all → AreEarlier all (length old) is from → HaveNoRepeats is → ShareNothing from → AreOpen o n c from → (i : ℕ) × (is_among i is ≡ true) × (left_at old i ≡ 0)

-- ---- the whole

-- it has all nodes and the free ends, and no step is left
abbrev pub IsLastBuilt : OpenNet → Built → BuiltParts → Type 0
IsLastBuilt o b others = HasFreeEnds o b (length o.wires) × AreAll b.nodes (length b.nodes) × ((i : ℕ) → left_at others i ≡ 0)

abbrev pub IsWholeNet : OpenNet → BuiltParts → Type 0
IsWholeNet o parts = (others : BuiltParts) × (b : Built) × (parts ≡ others ++ Some b ∷ []) × IsLastBuilt o b others
