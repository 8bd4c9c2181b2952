-- The results of the tasks of a plan, turn by turn.
use Rattle.std.proofs.Common.{◌≡◌, ◌⊎◌, inl, inr, ℕ, zero, suc, ◌+◌, ◌-◌, ◌<◌, ◌≤◌, Bool, true, false, cond, nat_eq, nat_lt, Option, Some, None, IsSomeAnd, List, [], ◌∷◌, ◌++◌, length, map, slice_get, get_or, append_assoc, append-nil, refl, sym, ◌∙◌, ap, subst, arith, lt-ltb, le-ltb, eq-eqb, ne_eqb}
use Rattle.in_open_nets.specs.declared.open_nets.Node.{Node}
use Rattle.in_open_nets.specs.declared.open_nets.Node.TheVariants.{AgentNode, ClassNode}
use Rattle.in_open_nets.specs.declared.open_nets.OpenNode.{OpenNode}
use Rattle.in_open_nets.specs.declared.open_nets.OpenPoint.{OpenPoint}
use Rattle.in_open_nets.specs.declared.open_nets.OpenPoint.TheVariants.{Port, Free}
use Rattle.in_simple_deriving.specs.declared.plans.StackStep.{StackStep}
use Rattle.in_simple_deriving.specs.declared.plans.StackStep.TheVariants.{Empty, Link, Given, Graft, Cut, Mix}
use Rattle.in_simple_deriving.specs.TaskStates.{TaskState}
use Rattle.in_simple_deriving.specs.declared.plans.Task.{Task}
use Rattle.in_simple_deriving.specs.declared.plans.Task.TheVariants.{Derive, Make}
use Rattle.in_open_nets.specs.Constructions.{IsIn}
use Rattle.in_simple_deriving.specs.Joints.{loose_in}
use Rattle.in_open_nets.specs.OpenNets.{OpenNet, IsAgent, IsAgentNode, IsClass, IsClassNode, IsOpenNet, IsWire, class_at, class_in, classes_of}
use Rattle.in_simple_deriving.specs.Planned.{AddsNothing, Brings, HasClasses, TakesJoints, TakesPart, WhatComes, WithEmpties, a_component, a_link}
use Rattle.in_simple_deriving.specs.Procedure.{DerivesNear, IsPlanAtTurn, with_task}
use Rattle.in_open_nets.specs.Parts.{IsFirst, IsRest}
use Rattle.in_open_nets.specs.Members.{nodes_in}
use Rattle.in_simple_deriving.specs.Turns.{HeadedPart}
use Rattle.in_open_nets.specs.Splitting.{alone}
use Rattle.in_open_nets.specs.Stuck.{ComesAt, IsPart, ports_of, turn}
use Rattle.in_simple_deriving.specs.TakenOrder.{Comes, JoinsInManner, LeadsAway, LinksAt, Manner, NothingAt, at, before, begins, beside, component, cut, empties, first_joint, link, links_from, manner, next, nothing, part, start, taken, turns}
use Rattle.in_simple_deriving.specs.Stacks.{Yields, derived, done, made}
use Rattle.in_open_nets.proofs.Public.{at_most, at_ports, class_no_agent, port_place, not_both, port_no}
use Rattle.in_simple_deriving.proofs.OneOrder.{split}
use Rattle.in_simple_deriving.proofs.Planning.{NoneAt, agent_none, class_none, node_none, node_turn, port_none, port_turn, reached_part, turn_agent, turn_class, turn_principal}

-- ---- tasks that are steps alone

yields_none : (o : OpenNet) (js : List StackStep) → Yields o [] js → js ≡ []
yields_none o _ done = refl

pub yields_makes : (o : OpenNet) (ms js : List StackStep) → Yields o (map Make ms) js → js ≡ ms
yields_makes o [] js h = yields_none o js h
yields_makes o (m ∷ ms) _ (made _ _ js h) = ap (λ z. m ∷ z) (yields_makes o ms js h)

pub yields_part : (o : OpenNet) (c : HeadedPart) (ms js : List StackStep) → Yields o (Derive c ∷ map Make ms) js → (ls : List StackStep) × Comes o (part (nodes_in c.nodes)) ls × (js ≡ ls ++ ms)
yields_part o c ms _ (derived _ _ is js h rest) = (is, h, ap (λ z. is ++ z) (yields_makes o ms js rest))

pub empties_more : (k : ℕ) → map Make (empties k) ++ Make Empty ∷ [] ≡ map Make (empties (suc k))
empties_more zero = refl
empties_more (suc k) = ap (λ z. Make Empty ∷ z) (empties_more k)

pub more_empties : (k : ℕ) (p q r : TaskState) → WithEmpties k p q → r ≡ with_task q (Make Empty) → WithEmpties (k + 1) p r
more_empties k p q r h e =
    let next : suc k ≡ k + 1 = omega arith in
    ap (λ x. x.tasks) e ∙ ap (λ z. z ++ Make Empty ∷ []) h ∙ append_assoc p.tasks (map Make (empties k)) (Make Empty ∷ []) ∙ ap (λ z. p.tasks ++ z) (empties_more k) ∙ ap (λ z. p.tasks ++ map Make (empties z)) next

-- ---- one task or more

module _ (o : OpenNet) (n k : ℕ) (pre : List StackStep) (p q : TaskState) (takes : TakesJoints o n k pre p) (same : q.rest ≡ p.rest) where
  in_rest : (g : ℕ) (js : List StackStep) → Comes o (turns (nodes_in p.rest) n g) js → Comes o (turns (nodes_in q.rest) n g) js
  in_rest g js h = subst (λ z. Comes o (turns (nodes_in z) n g) js) (sym same) h

  pub takes_makes : (ms : List StackStep) → q.tasks ≡ p.tasks ++ map Make ms → TakesJoints o n k (pre ++ ms) q
  takes_makes ms e = λ js y.
      let s = split o p.tasks (map Make ms) js (subst (λ z. Yields o z js) e y) in
      let a = takes s.one s.first in
      (a.0, in_rest k a.0 a.1, sym s.whole ∙ ap (λ z. z ++ s.other) a.2 ∙ ap (λ z. (a.0 ++ pre) ++ z) (yields_makes o ms s.other s.second) ∙ append_assoc a.0 pre ms)

  -- the turn k, at which these joints come
  turn_taken : (is ls : List StackStep) → pre ≡ before o n k → Comes o (turns (nodes_in p.rest) n k) is → Comes o (at (nodes_in p.rest) n k) ls → (js : List StackStep) → js ≡ (is ++ pre) ++ ls →
      (js1 : List StackStep) × Comes o (turns (nodes_in q.rest) n (suc k)) js1 × (js ≡ js1 ++ [])
  turn_taken is ls e h g js f = (
    is ++ (before o n k ++ ls),
    in_rest (suc k) (is ++ (before o n k ++ ls)) (next (nodes_in p.rest) n k is ls h g),
    f ∙ append_assoc is pre ls ∙ ap (λ z. is ++ (z ++ ls)) e ∙ sym (append-nil (is ++ (before o n k ++ ls))),
  )

  pub takes_nothing : pre ≡ before o n k → q.tasks ≡ p.tasks → NothingAt o (nodes_in p.rest) n k → TakesJoints o n (suc k) [] q
  takes_nothing e f none = λ js y.
      let a = takes js (subst (λ z. Yields o z js) f y) in
      turn_taken a.0 [] e a.1 (nothing (nodes_in p.rest) n k none) js (a.2 ∙ sym (append-nil (a.0 ++ pre)))

  pub takes_task : pre ≡ before o n k → (task : Task) (ms : List StackStep) → q.tasks ≡ p.tasks ++ task ∷ map Make ms → Brings o (nodes_in p.rest) n k task → JoinsInManner o n k (manner o n k) ms → TakesJoints o n (suc k) [] q
  takes_task e _ ms f (a_component c is_part comes) joined = λ js y.
      let s = split o p.tasks (Derive c ∷ map Make ms) js (subst (λ z. Yields o z js) f y) in
      let a = takes s.one s.first in
      let b = yields_part o c ms s.other s.second in
      turn_taken a.0 (b.0 ++ ms) e a.1 (component (nodes_in p.rest) n k (nodes_in c.nodes) b.0 ms is_part comes b.1 joined) js (sym s.whole ∙ ap (λ z. z ++ s.other) a.2 ∙ ap (λ z. (a.0 ++ pre) ++ z) b.2)
  takes_task e _ ms f (a_link w links) joined = λ js y.
      let s = split o p.tasks (map Make (Link w ∷ ms)) js (subst (λ z. Yields o z js) f y) in
      let a = takes s.one s.first in
      turn_taken a.0 (Link w ∷ ms) e a.1 (link (nodes_in p.rest) n k w ms links joined) js (sym s.whole ∙ ap (λ z. z ++ s.other) a.2 ∙ ap (λ z. (a.0 ++ pre) ++ z) (yields_makes o (Link w ∷ ms) s.other s.second))

-- ---- the joints before a turn, and its manner

of_agent : {X : Type 0} (x : Option OpenNode) (a b c : X) → IsSomeAnd x IsAgentNode → elim x [ None ↦ c | Some m ↦ elim m.node [ AgentNode y ↦ a | ClassNode y d ↦ b ] ] ≡ a
of_agent None a b c h = absurd h
of_agent {X} (Some m) a b c h = by_node m.node h
  where
    by_node : (z : Node) → elim z as (λ _. Type 0) [ AgentNode y ↦ Unit {0} | ClassNode y d ↦ ⊥ ] → elim z as (λ _. X) [ AgentNode y ↦ a | ClassNode y d ↦ b ] ≡ a
    by_node (AgentNode y) h = refl
    by_node (ClassNode y d) h = absurd h

of_class : {X : Type 0} (x : Option OpenNode) (a b c : X) → IsSomeAnd x IsClassNode → elim x [ None ↦ c | Some m ↦ elim m.node [ AgentNode y ↦ a | ClassNode y d ↦ b ] ] ≡ b
of_class None a b c h = absurd h
of_class {X} (Some m) a b c h = by_node m.node h
  where
    by_node : (z : Node) → elim z as (λ _. Type 0) [ AgentNode y ↦ ⊥ | ClassNode y d ↦ Unit {0} ] → elim z as (λ _. X) [ AgentNode y ↦ a | ClassNode y d ↦ b ] ≡ b
    by_node (AgentNode y) h = absurd h
    by_node (ClassNode y d) h = refl

-- a value that is the same for all nodes
of_any : {X : Type 0} (x : Option OpenNode) (a b c : X) → a ≡ c → b ≡ c → elim x [ None ↦ c | Some m ↦ elim m.node [ AgentNode y ↦ a | ClassNode y d ↦ b ] ] ≡ c
of_any None a b c e f = refl
of_any {X} (Some m) a b c e f = by_node m.node
  where
    by_node : (z : Node) → elim z as (λ _. X) [ AgentNode y ↦ a | ClassNode y d ↦ b ] ≡ c
    by_node (AgentNode y) = e
    by_node (ClassNode y d) = f

-- an agent or a class node
kinds : (x : Option OpenNode) → 0 < elim x [ None ↦ 0 | Some m ↦ length m.class_of ] → IsSomeAnd x IsAgentNode ⊎ IsSomeAnd x IsClassNode
kinds None lt = absurd (omega (arith, lt))
kinds (Some m) lt = by_node m.node
  where
    by_node : (z : Node) → elim z as (λ _. Type 0) [ AgentNode y ↦ Unit {0} | ClassNode y d ↦ ⊥ ] ⊎ elim z as (λ _. Type 0) [ AgentNode y ↦ ⊥ | ClassNode y d ↦ Unit {0} ]
    by_node (AgentNode y) = inl tt
    by_node (ClassNode y d) = inr tt

module _ (o : OpenNet) (n : ℕ) where
  abbrev ports : ℕ
  ports = ports_of o n

  abbrev aux_manner : ℕ → Manner
  aux_manner k = cond (nat_lt (class_in o n (k - 1)) (class_in o n k)) begins beside

  abbrev agent_manner : ℕ → Manner
  agent_manner k = cond (nat_lt k (ports_of o n)) (aux_manner k) (cond (nat_eq k (ports_of o n)) cut beside)

  abbrev class_manner : ℕ → Manner
  class_manner k = cond (nat_lt k (ports_of o n)) cut beside

  manner_agent : (k : ℕ) → IsAgent o n → manner o n k ≡ agent_manner k
  manner_agent k h = of_agent (slice_get o.nodes n) (agent_manner k) (class_manner k) beside h

  manner_aux : (k : ℕ) → IsAgent o n → k < ports → manner o n k ≡ aux_manner k
  manner_aux k h lt = manner_agent k h ∙ ap (λ b. cond b (aux_manner k) (cond (nat_eq k (ports_of o n)) cut beside)) (lt-ltb k (ports_of o n) lt)

  pub manner_first : (k : ℕ) → IsAgent o n → k < ports → class_in o n (k - 1) < class_in o n k → manner o n k ≡ begins
  manner_first k h lt less = manner_aux k h lt ∙ ap (λ b. cond b begins beside) (lt-ltb (class_in o n (k - 1)) (class_in o n k) less)

  pub manner_further : (k : ℕ) → IsAgent o n → k < ports → class_in o n k ≤ class_in o n (k - 1) → manner o n k ≡ beside
  manner_further k h lt le = manner_aux k h lt ∙ ap (λ b. cond b begins beside) (le-ltb (class_in o n (k - 1)) (class_in o n k) le)

  manner_past : (k : ℕ) → ports ≤ k → agent_manner k ≡ cond (nat_eq k (ports_of o n)) cut beside
  manner_past k le = ap (λ b. cond b (aux_manner k) (cond (nat_eq k (ports_of o n)) cut beside)) (le-ltb k (ports_of o n) le)

  pub manner_principal : IsAgent o n → manner o n ports ≡ cut
  manner_principal h = manner_agent (ports_of o n) h ∙ manner_past (ports_of o n) (omega arith) ∙ ap (λ b. cond b cut beside) (eq-eqb (ports_of o n) (ports_of o n) refl)

  pub manner_given : (k : ℕ) → IsClass o n → k < ports → manner o n k ≡ cut
  manner_given k h lt = of_class (slice_get o.nodes n) (agent_manner k) (class_manner k) beside h ∙ ap (λ b. cond b cut beside) (lt-ltb k (ports_of o n) lt)

  pub manner_other : (k : ℕ) → ports < k → manner o n k ≡ beside
  manner_other k lt = of_any (slice_get o.nodes n) (agent_manner k) (class_manner k) beside
      (manner_past k (omega (arith, lt)) ∙ ap (λ b. cond b cut beside) (ne_eqb k (ports_of o n) (λ e. omega (arith, lt, e))))
      (ap (λ b. cond b cut beside) (le-ltb k (ports_of o n) (omega (arith, lt))))

  abbrev aux_before : ℕ → List StackStep
  aux_before k = empties (class_in o n k - class_in o n (k - 1) - 1)

  abbrev last_before : ℕ → List StackStep
  last_before k = cond (nat_eq k (ports_of o n)) (empties (classes_of o n - class_in o n (k - 1)) ++ Graft n (classes_of o n) ∷ []) []

  abbrev agent_before : ℕ → List StackStep
  agent_before k = cond (nat_lt k (ports_of o n)) (aux_before k) (last_before k)

  nil : List StackStep
  nil = []

  pub before_aux : (k : ℕ) → IsAgent o n → k < ports → before o n k ≡ aux_before k
  before_aux k h lt = of_agent (slice_get o.nodes n) (agent_before k) [] [] h ∙ ap (λ b. cond b (aux_before k) (last_before k)) (lt-ltb k (ports_of o n) lt)

  pub before_principal : IsAgent o n → before o n ports ≡ empties (classes_of o n - class_in o n (ports - 1)) ++ Graft n (classes_of o n) ∷ []
  before_principal h =
      of_agent (slice_get o.nodes n) (agent_before (ports_of o n)) [] [] h ∙ ap (λ b. cond b (aux_before (ports_of o n)) (last_before (ports_of o n))) (le-ltb (ports_of o n) (ports_of o n) (omega arith))
      ∙ ap (λ b. cond b (empties (classes_of o n - class_in o n (ports_of o n - 1)) ++ Graft n (classes_of o n) ∷ []) []) (eq-eqb (ports_of o n) (ports_of o n) refl)

  pub before_given : (k : ℕ) → IsClass o n → before o n k ≡ []
  before_given k h = of_class (slice_get o.nodes n) (agent_before k) [] [] h

  pub before_other : (k : ℕ) → ports < k → before o n k ≡ []
  before_other k lt = of_any (slice_get o.nodes n) (agent_before k) [] []
      (ap (λ b. cond b (aux_before k) (last_before k)) (le-ltb k (ports_of o n) (omega (arith, lt)))
      ∙ ap (λ b. cond b (empties (classes_of o n - class_in o n (k - 1)) ++ Graft n (classes_of o n) ∷ []) []) (ne_eqb k (ports_of o n) (λ e. omega (arith, lt, e)))) refl

  first_agent : IsAgent o n → first_joint o n ≡ []
  first_agent h = of_agent (slice_get o.nodes n) [] (Given n ∷ []) [] h

  first_given : IsClass o n → first_joint o n ≡ Given n ∷ []
  first_given h = of_class (slice_get o.nodes n) [] (Given n ∷ []) [] h

  -- ---- the start

  pub agent_takes : (p : TaskState) → IsAgent o n → p.tasks ≡ [] → TakesJoints o n 0 [] p
  agent_takes p h e = λ js y. (first_joint o n, start (nodes_in p.rest) n, yields_none o js (subst (λ z. Yields o z js) e y) ∙ sym (ap (λ z. z ++ []) (first_agent h)))

  pub class_takes : (p q : TaskState) → IsClass o n → p.tasks ≡ [] → q ≡ with_task p (Make (Given n)) → TakesJoints o n 0 [] q
  class_takes p q h e f = λ js y. (
    first_joint o n,
    start (nodes_in q.rest) n,
    yields_makes o (Given n ∷ []) js (subst (λ z. Yields o z js) (ap (λ z. z.tasks) f ∙ ap (λ z. z ++ Make (Given n) ∷ []) e) y) ∙ sym (ap (λ z. z ++ []) (first_given h)),
  )

-- ---- port by port

module _ (o : OpenNet) (net : IsOpenNet o) (n : ℕ) where
  no_link : (t : ℕ → Bool) (k w : ℕ) (q : OpenPoint) → IsWire o w (Port n k) q → (LeadsAway t n k q → ⊥) → (v : ℕ) → LinksAt o t n k v → ⊥
  no_link t k w q wire bad v l = bad (subst (LeadsAway t n k) (net.once v w (Port n k) l.point q l.wire wire).1 l.away)

  -- at an auxiliary port
  module _ (p : TaskState) (i w : ℕ) (agent : IsAgent o n) (aux : 0 < i) (lt : i < ports_of o n) (h : IsPlanAtTurn o n (turn o n i) p) where
    own_turn : turn o n i ≡ i
    own_turn = turn_agent o n i agent (λ e. absurd (omega (arith, aux, e)))

    none_here : ((v l k : ℕ) → IsWire o v (Port n i) (Port l k) → IsIn l (nodes_in p.rest) → IsIn l (nodes_in p.done)) → (c : ℕ → Bool) → IsPart o n (nodes_in p.rest) c → ComesAt o n c i → ⊥
    none_here all c is_part comes = port_none o net n p i lt h all c is_part (subst (ComesAt o n c) (sym own_turn) comes)

    pub comes_done : (l k : ℕ) → IsWire o w (Port n i) (Port l k) → IsIn l (nodes_in p.rest) → IsIn l (nodes_in p.done) → WhatComes o n i p p false
    comes_done l k wire here gone = (
      refl,
      (
        none_here (λ v l1 j g m. let e = (port_place l l1 k j (net.once w v (Port n i) (Port l k) (Port l1 j) wire g).1).0 in subst (λ z. IsIn z (nodes_in p.done)) e gone),
        no_link (nodes_in p.rest) i w (Port l k) wire (λ a. a.0 here),
      ),
    )

    pub comes_own : (l k : ℕ) → IsWire o w (Port n i) (Port l k) → nodes_in p.rest l ≡ false → l ≡ n → k ≤ i → WhatComes o n i p p false
    comes_own l k wire out own le = (
      refl,
      (
        none_here (λ v l1 j g m. let e = (port_place l l1 k j (net.once w v (Port n i) (Port l k) (Port l1 j) wire g).1).0 in absurd (not_both (nodes_in p.rest l1) m (subst (λ z. nodes_in p.rest z ≡ false) e out))),
        no_link (nodes_in p.rest) i w (Port l k) wire (λ a. let less = a.1 own in omega (arith, less, le)),
      ),
    )

    pub comes_component : (q : TaskState) (l k : ℕ) → IsWire o w (Port n i) (Port l k) → IsIn l (nodes_in p.rest) → nodes_in p.done l ≡ false → DerivesNear o l p q → WhatComes o n i p q true
    comes_component q l k wire here off d =
        let is_part = reached_part o net n p.rest d.component.nodes l h.out here d.reached in
        let inside = (d.reached l).1 (alone l here) in
        (Derive d.component, d.tasks, a_component d.component is_part (subst (ComesAt o n (nodes_in d.component.nodes)) own_turn (port_turn o net n p i w l k h wire here off (nodes_in d.component.nodes) is_part inside)))

    pub comes_link : (q : TaskState) (z : OpenPoint) → IsWire o w (Port n i) z → LeadsAway (nodes_in p.rest) n i z → q ≡ with_task p (Make (Link w)) → WhatComes o n i p q true
    comes_link q z wire away e = (Make (Link w), ap (λ x. x.tasks) e, a_link w (record { agent = agent; auxiliary = aux; port = lt; point = z; wire = wire; away = away }))

  -- ---- a port to which a component is cut

  kind_of : (i : ℕ) → i < ports_of o n → IsAgent o n ⊎ IsClass o n
  kind_of i lt = kinds (slice_get o.nodes n) (omega (arith, lt))

  join_link : (t : ℕ → Bool) (i w : ℕ) → (IsAgent o n → i ≡ 0) → LinksAt o t n (turn o n i) w → ⊥
  join_link t i w principal l =
      let zero_on = principal l.agent in
      let e = ap (turn o n) zero_on ∙ turn_principal o n l.agent in
      let lt = l.port in
      absurd (omega (arith, e, lt))

  pub join_nothing : (p : TaskState) (i : ℕ) → i < ports_of o n → (IsAgent o n → i ≡ 0) → IsPlanAtTurn o n (turn o n i) p → ((v l k : ℕ) → IsWire o v (Port n i) (Port l k) → IsIn l (nodes_in p.rest) → IsIn l (nodes_in p.done)) →
      TakesJoints o n (turn o n i) (before o n (turn o n i)) p → TakesJoints o n (suc (turn o n i)) [] p
  join_nothing p i lt principal h all takes =
      takes_nothing o n (turn o n i) (before o n (turn o n i)) p p takes refl refl refl ((λ c is_part comes. port_none o net n p i lt h all c is_part comes), λ w l. join_link (nodes_in p.rest) i w principal l)

  manner_join : (i : ℕ) → i < ports_of o n → (IsAgent o n → i ≡ 0) → manner o n (turn o n i) ≡ cut
  manner_join i lt principal = elim (kind_of i lt) [
    | inl a ↦ ap (manner o n) (ap (turn o n) (principal a) ∙ turn_principal o n a) ∙ manner_principal o n a
    | inr c ↦ ap (manner o n) (turn_class o n i c) ∙ manner_given o n i c lt
  ]

  pub join_takes : (p q r : TaskState) (i w l k : ℕ) → i < ports_of o n → (IsAgent o n → i ≡ 0) → IsPlanAtTurn o n (turn o n i) p → IsWire o w (Port n i) (Port l k) → IsIn l (nodes_in p.rest) → nodes_in p.done l ≡ false → DerivesNear o l p q → r ≡ with_task q (Make (Cut w)) →
      TakesJoints o n (turn o n i) (before o n (turn o n i)) p → TakesJoints o n (suc (turn o n i)) [] r
  join_takes p q r i w l k lt principal h wire here off d e takes =
      let is_part = reached_part o net n p.rest d.component.nodes l h.out here d.reached in
      let inside = (d.reached l).1 (alone l here) in
      takes_task o n (turn o n i) (before o n (turn o n i)) p r takes (ap (λ x. x.rest) e ∙ d.same) refl (Derive d.component) (Cut w ∷ [])
      (ap (λ x. x.tasks) e ∙ ap (λ z. z ++ Make (Cut w) ∷ []) d.tasks ∙ append_assoc p.tasks (Derive d.component ∷ []) (Make (Cut w) ∷ []))
      (a_component d.component is_part (port_turn o net n p i w l k h wire here off (nodes_in d.component.nodes) is_part inside))
      (subst (λ m. JoinsInManner o n (turn o n i) m (Cut w ∷ [])) (sym (manner_join i lt principal)) (w, (i, Port l k, wire, refl), refl))

  pub before_next : (i : ℕ) → i < ports_of o n → (IsAgent o n → i ≡ 0) → before o n (suc (turn o n i)) ≡ []
  before_next i lt principal = elim (kind_of i lt) [
    | inl a ↦ ap (λ k. before o n (suc k)) (ap (turn o n) (principal a) ∙ turn_principal o n a) ∙ before_other o n (suc (ports_of o n)) (omega arith)
    | inr c ↦ before_given o n (suc (turn o n i)) c
  ]

  -- ---- the nodes that aren't touched

  other_link : (t : ℕ → Bool) (m w : ℕ) → LinksAt o t n (suc (ports_of o n) + m) w → ⊥
  other_link t m w l = let lt = l.port in absurd (omega (arith, lt))

  -- at a turn that no component has
  pub over_nothing : (p : TaskState) (m : ℕ) → NoneAt o net n (nodes_in p.rest) (suc (ports_of o n) + m) → TakesJoints o n (suc (ports_of o n) + m) [] p → TakesJoints o n (suc (suc (ports_of o n) + m)) [] p
  over_nothing p m none takes =
      takes_nothing o n (suc (ports_of o n) + m) [] p p takes refl (sym (before_other o n (suc (ports_of o n) + m) (omega arith))) refl ((λ c is_part comes. none c is_part comes), λ w l. other_link (nodes_in p.rest) m w l)

  pub other_nothing : (p : TaskState) (m : ℕ) → IsPlanAtTurn o n (suc (ports_of o n) + m) p → (IsIn m (nodes_in p.rest) → IsIn m (nodes_in p.done)) → TakesJoints o n (suc (ports_of o n) + m) [] p → TakesJoints o n (suc (suc (ports_of o n) + m)) [] p
  other_nothing p m h all takes =
      over_nothing p m (node_none o net n p m h all) takes

  pub other_takes : (p q r : TaskState) (m : ℕ) → IsPlanAtTurn o n (suc (ports_of o n) + m) p → IsIn m (nodes_in p.rest) → nodes_in p.done m ≡ false → DerivesNear o m p q → r ≡ with_task q (Make Mix) → TakesJoints o n (suc (ports_of o n) + m) [] p →
      TakesJoints o n (suc (suc (ports_of o n) + m)) [] r
  other_takes p q r m h here off d e takes =
      let is_part = reached_part o net n p.rest d.component.nodes m h.out here d.reached in
      let inside = (d.reached m).1 (alone m here) in
      takes_task o n (suc (ports_of o n) + m) [] p r takes (ap (λ x. x.rest) e ∙ d.same) (sym (before_other o n (suc (ports_of o n) + m) (omega arith))) (Derive d.component) (Mix ∷ [])
      (ap (λ x. x.tasks) e ∙ ap (λ z. z ++ Make Mix ∷ []) d.tasks ∙ append_assoc p.tasks (Derive d.component ∷ []) (Make Mix ∷ []))
      (a_component d.component is_part (node_turn o net n p m h here off (nodes_in d.component.nodes) is_part inside))
      (subst (λ z. JoinsInManner o n (suc (ports_of o n) + m) z (Mix ∷ [])) (sym (manner_other o n (suc (ports_of o n) + m) (omega arith))) refl)

  -- ---- the ports of a class

  -- the first port of a class brings something
  pub first_brings : (p q : TaskState) (i begun : ℕ) → IsAgent o n → 0 < i → i < ports_of o n → IsPlanAtTurn o n (turn o n i) p → HasClasses o n i begun p → begun < class_in o n i → AddsNothing o n i p q → ⊥
  first_brings p q i begun agent aux lt h classes less none =
      let wire = net.joined (Port n i) (at_ports i (slice_get o.nodes n) lt) in
      by_point wire.0 wire.1 wire.2
    where
      by_point : (w : ℕ) (z : OpenPoint) → IsWire o w (Port n i) z → ⊥
      by_point w (Free e) wire =
          let back = none.past w (Free e, wire, refl) in
          let wrong : ◌≡◌ {A = OpenPoint} (Free e) (Port n back.0) = (net.once w w (Port n i) (Free e) (Port n back.0) wire back.2).1 in
          cc
      by_point w (Port l k) wire = by_bit (nodes_in p.rest l) refl
        where
          by_bit : (b : Bool) → nodes_in p.rest l ≡ b → ⊥
          by_bit true here =
              let gone = none.met l (w, l, k, wire, alone l here) in
              let y = (classes.done_is l).0 gone in
              let m = y.2 in
              let same = (h.splits y.0).touched i m.0 w m.1 l m.2 k m.3 wire m.4 in
              let below = y.1.1 in
              let most = classes.most y.0 y.1 (omega (arith, below, lt)) in
              omega (arith, same, most, less)
          by_bit false out =
              let back = none.past w (Port l k, wire, port_no (nodes_in p.rest) l k out) in
              let same = (h.splits i).own back.0 w back.2 in
              by_zero back.0 back.1 back.2 same (at_most 1 back.0)
            where
              by_zero : (j : ℕ) → j < i → IsWire o w (Port n i) (Port n j) → class_in o n i ≡ class_in o n j → (1 ≤ j) ⊎ (j < 1) → ⊥
              by_zero j lt1 wire1 same (inl some) = let most = classes.most j (omega (arith, some), lt1) (omega (arith, lt1, lt)) in omega (arith, same, most, less)
              by_zero j lt1 wire1 same (inr none1) =
                  let zero_on : j ≡ 0 = omega (arith, none1) in
                  let class = ap (class_in o n) zero_on in
                  let principal = (net.principal n 0 agent (at_ports 0 (slice_get o.nodes n) (omega (arith, lt)))).1 refl in
                  omega (arith, same, class, principal, less)

  pub first_takes : (p q r : TaskState) (i skipped : ℕ) → IsAgent o n → i < ports_of o n → class_in o n i ≡ suc (class_in o n (i - 1) + skipped) → TakesJoints o n i [] p → q.rest ≡ p.rest → WithEmpties skipped p q → r.rest ≡ q.rest → WhatComes o n i q r true →
      TakesJoints o n (suc i) [] r
  first_takes p q r i skipped agent lt class takes same empty same1 comes =
      takes_task o n i (empties skipped) q r (takes_makes o n i [] p q takes same (empties skipped) empty) same1
      (sym (before_aux o n i agent lt ∙ ap empties (let e : class_in o n i - class_in o n (i - 1) - 1 ≡ skipped = omega (arith, class) in e))) comes.0 [] comes.1 comes.2
      (subst (λ m. JoinsInManner o n i m []) (sym (manner_first o n i agent lt (omega (arith, class)))) refl)

  none_before : (i : ℕ) → IsAgent o n → i < ports_of o n → class_in o n i ≡ class_in o n (i - 1) → [] ≡ before o n i
  none_before i agent lt class = sym (before_aux o n i agent lt ∙ ap empties (let e : class_in o n i - class_in o n (i - 1) - 1 ≡ 0 = omega (arith, class) in e))

  pub further_takes : (p q r : TaskState) (i : ℕ) → IsAgent o n → i < ports_of o n → class_in o n i ≡ class_in o n (i - 1) → TakesJoints o n i [] p → q.rest ≡ p.rest → WhatComes o n i p q true → r ≡ with_task q (Make Mix) → TakesJoints o n (suc i) [] r
  further_takes p q r i agent lt class takes same comes e =
      takes_task o n i [] p r takes (ap (λ x. x.rest) e ∙ same) (none_before i agent lt class) comes.0 (Mix ∷ [])
      (ap (λ x. x.tasks) e ∙ ap (λ z. z ++ Make Mix ∷ []) comes.1 ∙ append_assoc p.tasks (comes.0 ∷ []) (Make Mix ∷ [])) comes.2
      (subst (λ m. JoinsInManner o n i m (Mix ∷ [])) (sym (manner_further o n i agent lt (omega (arith, class)))) refl)

  pub further_nothing : (p q : TaskState) (i : ℕ) → IsAgent o n → i < ports_of o n → class_in o n i ≡ class_in o n (i - 1) → TakesJoints o n i [] p → q.rest ≡ p.rest → WhatComes o n i p q false → TakesJoints o n (suc i) [] q
  further_nothing p q i agent lt class takes same comes = takes_nothing o n i [] p q takes same (none_before i agent lt class) comes.0 comes.1

  -- ---- whole nodes

  -- the principal port's class is 0, even if there are no ports
  pub principal_zero : IsAgent o n → class_in o n 0 ≡ 0
  principal_zero agent = elim (at_most 1 (ports_of o n)) [ inl some ↦ (net.principal n 0 agent (at_ports 0 (slice_get o.nodes n) (omega (arith, some)))).1 refl | inr none ↦ no_ports (slice_get o.nodes n) (let few = none in omega (arith, few)) ]
    where
      no_ports : (x : Option OpenNode) → ◌≡◌ {A = ℕ} (elim x [ None ↦ 0 | Some m ↦ length m.class_of ]) 0 → class_at x 0 ≡ 0
      no_ports None e = refl
      no_ports (Some m) e = by_list m.class_of m.node e
        where
          by_list : (xs : List ℕ) (z : Node) → length xs ≡ 0 → ◌≡◌ {A = ℕ} (elim z as (λ _. ℕ) [ AgentNode y ↦ get_or xs 0 0 | ClassNode y c ↦ 0 ]) 0
          by_list [] (AgentNode y) e = refl
          by_list [] (ClassNode y c) e = refl
          by_list (x ∷ xs) z e = absurd (omega (arith, e))

  -- the turn 0 of an agent has nothing
  agent_nothing : (t : ℕ → Bool) → IsAgent o n → NothingAt o t n 0
  agent_nothing t agent = ((λ c is_part comes. agent_none o net n t agent c is_part comes), λ w l. let a = l.auxiliary in absurd (omega (arith, a)))

  pub agent_first : (p : TaskState) → IsAgent o n → 0 < ports_of o n → TakesJoints o n 0 [] p → TakesJoints o n 1 [] p
  agent_first p agent some takes = takes_nothing o n 0 [] p p takes refl (sym (before_aux o n 0 agent some ∙ ap empties (let e : class_in o n 0 - class_in o n 0 - 1 ≡ 0 = omega arith in e))) refl (agent_nothing (nodes_in p.rest) agent)

  -- an agent without ports
  pub agent_alone : (p : TaskState) → IsAgent o n → ports_of o n ≡ 0 → TakesJoints o n (ports_of o n) (before o n (ports_of o n)) p → TakesJoints o n (suc (ports_of o n)) [] p
  agent_alone p agent none takes = takes_nothing o n (ports_of o n) (before o n (ports_of o n)) p p takes refl refl refl (subst (NothingAt o (nodes_in p.rest) n) (sym none) (agent_nothing (nodes_in p.rest) agent))

  pub agent_grafts : (p q : TaskState) (count : ℕ) → IsAgent o n → count ≡ classes_of o n → TakesJoints o n (ports_of o n) (empties (classes_of o n - class_in o n (ports_of o n - 1))) p → q ≡ with_task p (Make (Graft n count)) → TakesJoints o n (ports_of o n) (before o n (ports_of o n)) q
  agent_grafts p q count agent many takes e =
      subst (λ z. TakesJoints o n (ports_of o n) z q) (sym (before_principal o n agent))
      (takes_makes o n (ports_of o n) (empties (classes_of o n - class_in o n (ports_of o n - 1))) p q takes (ap (λ x. x.rest) e) (Graft n (classes_of o n) ∷ []) (ap (λ x. x.tasks) e ∙ ap (λ c. p.tasks ++ Make (Graft n c) ∷ []) many))

  pub class_end : (p : TaskState) → IsClass o n → TakesJoints o n (ports_of o n) [] p → TakesJoints o n (suc (ports_of o n)) [] p
  class_end p class takes =
      takes_nothing o n (ports_of o n) [] p p takes refl (sym (before_given o n (ports_of o n) class)) refl
      ((λ c is_part comes. class_none o net n (nodes_in p.rest) class c is_part comes), λ w l. absurd (class_no_agent (slice_get o.nodes n) class l.agent))

  pub part_taken : (whole : List Bool) (p : TaskState) → IsFirst o whole n → IsRest n whole p.rest → TakesJoints o n (suc (ports_of o n) + length o.nodes) [] p → TakesPart o (nodes_in whole) p.tasks
  part_taken whole p first left takes = λ js y.
      let a = takes js y in
      taken (nodes_in whole) (nodes_in p.rest) n js first left (subst (Comes o (turns (nodes_in p.rest) n (suc (ports_of o n) + length o.nodes))) (sym (a.2 ∙ append-nil a.0)) a.1)

-- ---- the Links of loose wires

-- the rest, from a wire on, gives these tasks
abbrev pub LinksCome : OpenNet → ℕ → Bool → List Task → List Task → Type 0
LinksCome o b came ts all = ts ++ map Make (links_from o came b (length o.wires - b)) ≡ all

abbrev links_by : OpenNet → ℕ → ℕ → Bool → Bool → List StackStep
links_by o b n came loose = cond loose (Link b ∷ (cond came (Mix ∷ []) [] ++ links_from o true (b + 1) n)) (links_from o came (b + 1) n)

module _ (o : OpenNet) (b : ℕ) (ts all : List Task) (lt : b < length o.wires) where
  abbrev left : ℕ
  left = length o.wires - (b + 1)

  one_fewer : length o.wires - b ≡ suc left
  one_fewer = omega (arith, lt)

  -- the next wire, which is loose or not
  at_next : (came loose : Bool) → loose_in o b ≡ loose → LinksCome o b came ts all → ts ++ map Make (links_by o b left came loose) ≡ all
  at_next came loose is h = ap (λ z. ts ++ map Make (links_by o b (length o.wires - (b + 1)) came z)) (sym is) ∙ sym (ap (λ k. ts ++ map Make (links_from o came b k)) one_fewer) ∙ h

  pub links_more : loose_in o b ≡ true → LinksCome o b true ts all → LinksCome o (b + 1) true ((ts ++ Make (Link b) ∷ []) ++ Make Mix ∷ []) all
  links_more is h =
      append_assoc (ts ++ Make (Link b) ∷ []) (Make Mix ∷ []) (map Make (links_from o true (b + 1) left)) ∙ append_assoc ts (Make (Link b) ∷ []) (Make Mix ∷ map Make (links_from o true (b + 1) left))
      ∙ at_next true true is h

  pub links_first : loose_in o b ≡ true → LinksCome o b false ts all → LinksCome o (b + 1) true (ts ++ Make (Link b) ∷ []) all
  links_first is h = append_assoc ts (Make (Link b) ∷ []) (map Make (links_from o true (b + 1) left)) ∙ at_next false true is h

  pub links_past : (came : Bool) → loose_in o b ≡ false → LinksCome o b came ts all → LinksCome o (b + 1) came ts all
  links_past came is h = at_next came false is h

-- no wire is left: the tasks are complete
pub links_done : (o : OpenNet) (b : ℕ) (ts all : List Task) → length o.wires ≤ b → LinksCome o b true ts all → ts ≡ all
links_done o b ts all le h =
    let none : length o.wires - b ≡ 0 = omega (arith, le) in
    sym (append-nil ts) ∙ ap (λ k. ts ++ map Make (links_from o true b k)) (sym none) ∙ h

pub links_none : (o : OpenNet) (b : ℕ) (ts all : List Task) → length o.wires ≤ b → LinksCome o b false ts all → ts ++ Make Empty ∷ [] ≡ all
links_none o b ts all le h = let none : length o.wires - b ≡ 0 = omega (arith, le) in ap (λ k. ts ++ map Make (links_from o false b k)) (sym none) ∙ h
