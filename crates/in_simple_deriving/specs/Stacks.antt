-- The nets that the steps so far have built, and the result of the tasks that are left. A net on the way is known by its nodes and by the
-- wires of its Links that are open at both ends.
use Rattle.std.specs.Prelude.{◌≡◌, ◌≢◌, ◌⊎◌, ◌↔◌, ℕ, ◌+◌, ◌-◌, ◌<◌, ◌≤◌, Bool, true, false, cond, ◌||◌, ◌&&◌, nat_lt, List, [], ◌∷◌, ◌++◌, length}
use Rattle.in_open_nets.specs.declared.open_nets.OpenPoint.{OpenPoint}
use Rattle.in_open_nets.specs.declared.open_nets.OpenPoint.TheVariants.{Port}
use Rattle.in_simple_deriving.specs.declared.plans.StackStep.{StackStep}
use Rattle.in_simple_deriving.specs.declared.plans.Task.{Task}
use Rattle.in_simple_deriving.specs.declared.plans.Task.TheVariants.{Derive, Make}
use Rattle.in_open_nets.specs.Constructions.{IsIn}
use Rattle.in_open_nets.specs.OpenNets.{OpenNet, IsNode, IsAgent, IsWire}
use Rattle.in_open_nets.specs.declared.derivations.Step.{Step}
use Rattle.in_open_nets.specs.Derivations.{Part, named, own_nodes, own_links, is_port_in, is_among, nodes_of, links_of, ShareNothing, AreEarlier, Joins, EachBuilds, times, times_in}
pub use Rattle.in_simple_deriving.specs.Joints.{count_of, over_two, step_of, are_free, loose_in}
use Rattle.in_open_nets.specs.Members.{nodes_in}
use Rattle.in_simple_deriving.specs.TakenOrder.{AreTaken, Comes, part, steps_from}
use Rattle.in_simple_deriving.specs.Turns.{HeadedPart}

pub record Shape : Type 0 where
  pub nodes : ℕ → Bool
  pub links : ℕ → Bool

abbrev pub shape : (ℕ → Bool) → (ℕ → Bool) → Shape
shape nodes links = record { nodes = nodes; links = links }

abbrev pub no_wires : ℕ → Bool
no_wires w = false

-- 1 if the wire between p and q leads out of these nodes at q
abbrev pub leads_out : (ℕ → Bool) → OpenPoint → OpenPoint → ℕ
leads_out nodes p q = is_port_in nodes p - is_port_in nodes q

-- the wire of a Link of the net: one that is open at both ends, or one at an agent's auxiliary port
abbrev pub IsLinkOf : OpenNet → Shape → ℕ → Type 0
IsLinkOf o x w = IsIn w x.links ⊎ ((l : ℕ) × (i : ℕ) × (q : OpenPoint) × IsWire o w (Port l i) q × IsIn l x.nodes × IsAgent o l × (i ≢ 0))

-- the part of a step is a net of this shape, with an end for each wire that leads out of it
pub record HasShape (o : OpenNet) (x : Shape) (y : Part) : Type 0 where
  pub nodes : (n : ℕ) → y.nodes n ≡ x.nodes n
  pub ends : (w : ℕ) (p q : OpenPoint) → IsWire o w p q → y.ends q ≡ leads_out x.nodes p q + cond (x.links w) 1 0
  pub links : (w : ℕ) → IsIn w y.links → IsLinkOf o x w

abbrev pub HaveShapes : OpenNet → List Shape → List Part → Type 0
HaveShapes o [] [] = Unit {0}
HaveShapes o [] (y ∷ ys) = ⊥
HaveShapes o (x ∷ xs) [] = ⊥
HaveShapes o (x ∷ xs) (y ∷ ys) = HasShape o x y × HaveShapes o xs ys

-- how often a node is in the parts
abbrev pub times_node : ℕ → List Part → ℕ
times_node n [] = 0
times_node n (y ∷ ys) = cond (y.nodes n) 1 0 + times_node n ys

-- the steps build nets of these shapes, the first one first, which no step names yet; each other step is named once
pub record IsStack (o : OpenNet) (steps : List Step) (roots : List ℕ) (shapes : List Shape) : Type 0 where
  pub parts : List Part
  pub tops : List Part
  pub same : length parts ≡ length steps
  pub each : EachBuilds o steps parts
  pub roots_are : AreEarlier parts (length steps) roots tops
  pub once : (k : ℕ) → k < length steps → times_in named k steps + times k roots ≡ 1
  pub later : (k : ℕ) → length steps ≤ k → times_in named k steps + times k roots ≡ 0
  pub nodes : (n : ℕ) → times_in own_nodes n steps ≡ times_node n tops
  pub shaped : HaveShapes o shapes tops

-- ---- steps

-- the last of these, and the others; 0 if there is none
abbrev pub IsLastLeft : ℕ → List ℕ → List ℕ → Type 0
IsLastLeft n old new = (old ≡ new ++ n ∷ []) ⊎ ((old ≡ []) × (new ≡ []))

-- the last `count` of these are gone, or all, if there are fewer
abbrev pub AreLast : ℕ → List ℕ → List ℕ → Type 0
AreLast count old new = (gone : List ℕ) × (old ≡ new ++ gone) × ((length gone ≡ count) ⊎ ((new ≡ []) × (length gone ≤ count)))

-- one more step, over the last ones that no step names
abbrev pub MakesStep : StackStep → List Step → List ℕ → List Step → List ℕ → Type 0
MakesStep j steps roots steps' roots' = (below names : List ℕ) → roots ≡ below ++ names → length names ≡ count_of j → (steps' ≡ steps ++ step_of j names ∷ []) × (roots' ≡ below ++ length steps ∷ [])

-- a step over these parts builds y, at any place in the list
pub record BuildsOver (o : OpenNet) (step : Step) (names : List ℕ) (from : List Part) (y : Part) : Type 0 where
  pub names_are : named step ≡ names
  pub own_once : (n : ℕ) → times n (own_nodes step) ≡ cond (is_among n (own_nodes step)) 1 0
  pub fresh : (n : ℕ) → IsIn n (λ n. is_among n (own_nodes step)) → IsIn n (nodes_of from) → ⊥
  pub apart : ShareNothing from
  pub nodes : (n : ℕ) → y.nodes n ≡ (is_among n (own_nodes step) || nodes_of from n)
  pub links : (w : ℕ) → y.links w ≡ (is_among w (own_links step) || links_of from w)
  pub joins : Joins o step from y

-- over nets of the shapes xs, a joint builds one of the shape x
pub record Fits (o : OpenNet) (j : StackStep) (xs : List Shape) (x : Shape) : Type 0 where
  pub many : length xs ≡ count_of j
  pub builds : (names : List ℕ) (from : List Part) → length names ≡ count_of j → HaveShapes o xs from → (y : Part) × HasShape o x y × BuildsOver o (step_of j names) names from y

-- ---- tasks

-- the joints that the tasks yield
pub data Yields (o : OpenNet) : List Task → List StackStep → Type 0 where
  done : Yields o [] []
  made : (j : StackStep) (ts : List Task) (js : List StackStep) → Yields o ts js → Yields o (Make j ∷ ts) (j ∷ js)
  derived : (c : HeadedPart) (ts : List Task) (is js : List StackStep) → Comes o (part (nodes_in c.nodes)) is → Yields o ts js → Yields o (Derive c ∷ ts) (is ++ js)

-- the tasks turn one stack into the other, if each part that is to be derived comes with no open Link
abbrev pub RunsTasks : OpenNet → List Task → List Shape → List Shape → Type 0
RunsTasks o [] old new = old ≡ new
RunsTasks o (Derive c ∷ ts) old new = RunsTasks o ts (old ++ shape (nodes_in c.nodes) no_wires ∷ []) new
RunsTasks o (Make j ∷ ts) old new = (below : List Shape) × (xs : List Shape) × (x : Shape) × (old ≡ below ++ xs) × Fits o j xs x × RunsTasks o ts (below ++ x ∷ []) new

-- a wire between two free ends, below a number
abbrev pub loose_below : OpenNet → ℕ → ℕ → Bool
loose_below o b w = nat_lt w b && loose_in o w

-- the net of all nodes, if it is begun: the Links are set beside it
abbrev pub begun_with : Bool → (ℕ → Bool) → List Shape
begun_with true whole = shape whole no_wires ∷ []
begun_with false whole = []

abbrev pub NoneWhere : Bool → (ℕ → Bool) → Type 0
NoneWhere begun whole = begun ≡ false → (n : ℕ) → whole n ≡ false

-- the tasks set a Link of each loose wire below b beside the begun net; some says whether anything came yet
abbrev pub SetsBeside : OpenNet → Bool → ℕ → Bool → List Task → Type 0
SetsBeside o begun b true tasks = (whole : ℕ → Bool) → NoneWhere begun whole → RunsTasks o tasks (begun_with begun whole) (shape whole (loose_below o b) ∷ [])
SetsBeside o begun b false tasks = (begun ≡ false) × (tasks ≡ []) × ((w : ℕ) → w < b → loose_in o w ≡ false)

-- the tasks make the net of all nodes from the begun net
abbrev pub EndsInWhole : OpenNet → Bool → List Task → Type 0
EndsInWhole o begun tasks = (whole : ℕ → Bool) → NoneWhere begun whole → RunsTasks o tasks (begun_with begun whole) (shape whole (loose_in o) ∷ [])

-- the tasks put nets of these shapes on any stack
abbrev pub PutsShapes : OpenNet → List Task → List Shape → Type 0
PutsShapes o tasks xs = (below : List Shape) → RunsTasks o tasks below (below ++ xs)

-- after these steps, the tasks lead to a net of all nodes, with a Link of each wire between free ends, by steps in their order
pub record IsUnderWay (o : OpenNet) (tasks : List Task) (steps : List Step) (roots : List ℕ) : Type 0 where
  pub whole : ℕ → Bool
  pub all : (n : ℕ) → IsIn n whole ↔ IsNode o n
  pub shapes : List Shape
  pub stack : IsStack o steps roots shapes
  pub runs : RunsTasks o tasks shapes (shape whole (loose_in o) ∷ [])
  pub order : (js : List StackStep) → Yields o tasks js → AreTaken o (steps_from js steps roots)

-- the tasks and steps stay under way
abbrev pub AdvancesTasks : List Task → List Step → List ℕ → List Task → List Step → List ℕ → Type 0
AdvancesTasks tasks steps roots tasks' steps' roots' = (o : OpenNet) → IsUnderWay o tasks steps roots → IsUnderWay o tasks' steps' roots'
