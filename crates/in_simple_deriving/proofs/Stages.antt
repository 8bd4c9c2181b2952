-- The invariant of a plan from turn to turn.
use Rattle.std.proofs.Common.{◌≡◌, ◌⊎◌, ◌<◌, ◌+◌, ◌-◌, ℕ, zero, suc, Bool, true, false, cond, List, [], refl, sym, ◌∙◌, ap, subst, inl, inr, arith}
use Rattle.in_open_nets.specs.declared.open_nets.OpenPoint.{OpenPoint}
use Rattle.in_open_nets.specs.declared.open_nets.OpenPoint.TheVariants.{Port}
use Rattle.in_simple_deriving.specs.declared.plans.Fate.{Fate}
use Rattle.in_simple_deriving.specs.declared.plans.Fate.TheVariants.{Waits, Derived, Outside}
use Rattle.in_simple_deriving.specs.declared.plans.StackStep.TheVariants.{Cut, Given, Graft, Mix}
use Rattle.in_simple_deriving.specs.TaskStates.{TaskState}
use Rattle.in_simple_deriving.specs.declared.plans.Task.TheVariants.{Derive, Make}
use Rattle.in_open_nets.specs.OpenNets.{OpenNet, IsAgent, IsClass, IsWire, class_in, classes_of}
use Rattle.in_simple_deriving.specs.Planned.{HasClasses, HasFate, HasFateAt, IsAuxiliaryPort, PutsNet, Skips, TakesJoints, WhatComes, WhatPort, WithEmpties, after_fate}
use Rattle.in_simple_deriving.specs.Procedure.{StaysForRest, IsPlanAtTurn, KeepsPlan, with_task}
use Rattle.in_open_nets.specs.Members.{nodes_in}
use Rattle.in_simple_deriving.specs.Progress.{HasNoTurnLeft, PlansClasses, PlansNet, Progress, StartsPlan, later, progress, until}
use Rattle.in_open_nets.specs.Stuck.{ports_of, turn}
use Rattle.in_simple_deriving.specs.TakenOrder.{before, empties}
use Rattle.in_simple_deriving.proofs.ClassNets.{begun_most, classes_start, first_came, further_came, further_none, net_graft, skip_has, some_class}
use Rattle.in_simple_deriving.proofs.Fates.{along, derives_near, met_past, past}
use Rattle.in_open_nets.proofs.Public.{at_most}
use Rattle.in_simple_deriving.proofs.Nets.{net_given, net_join, net_other, one_port}
use Rattle.in_simple_deriving.proofs.Planning.{NoneAt, agent_start, class_last, goes_make, node_derive, node_pass, plan_skip, port_derive, port_pass, turn_agent}
use Rattle.in_simple_deriving.proofs.Taking.{agent_alone, agent_first, agent_grafts, agent_takes, before_given, before_next, before_other, class_end, class_takes, first_brings, first_takes, further_nothing, further_takes, join_nothing, join_takes, other_nothing, other_takes, over_nothing, principal_zero, takes_makes}

-- the same net and node, and the same nodes that are left
pub moves : (o : OpenNet) (n k j : ℕ) (rest new : List Bool) (s : Progress) → progress o n rest k ≡ s → new ≡ rest → progress o n new j ≡ until s j
moves o n k j rest new s e same = ap (λ z. progress o n z j) same ∙ ap (λ z. until z j) e

pub moves_on : (o : OpenNet) (n k : ℕ) (rest new : List Bool) (s : Progress) → progress o n rest k ≡ s → new ≡ rest → progress o n new (k + 1) ≡ later s
moves_on o n k rest new s e same = ap (λ z. progress o n z (k + 1)) same ∙ ap later e

pub own_turn : (o : OpenNet) (n i : ℕ) → IsAuxiliaryPort o n i → turn o n i ≡ i
own_turn o n i a = turn_agent o n i a.agent (λ e. let b = a.auxiliary in omega arith)

-- ---- an agent's classes

pub starts_classes : (o : OpenNet) (n : ℕ) (p : TaskState) → StartsPlan o n p → IsAgent o n → PlansClasses o n 1 0 p
starts_classes o n p s agent =
    let net = s.orderly.net in
    record {
      orderly = s.orderly;
      node = s.node;
      agent = agent;
      auxiliary = omega arith;
      plan = (agent_start o net n p agent s.plan).0;
      classes = classes_start o net n p s.plan s.start;
      first = inl refl;
      last = sym (principal_zero o net n agent);
      takes = λ some. agent_first o net n p agent some (agent_takes o n p agent s.start);
      none = λ none. agent_takes o n p agent s.start;
    }

-- an agent with an auxiliary port has ports
some_ports : (o : OpenNet) (n i : ℕ) → i < ports_of o n → 0 < ports_of o n
some_ports o n i lt = omega arith

module _ (o : OpenNet) (n i begun : ℕ) (p : TaskState) (x : PlansClasses o n i begun p) (lt : i < ports_of o n) where
  -- the next port's class has these nets up to it
  next_classes : (class : ℕ) (r : TaskState) → class ≡ class_in o n i → IsPlanAtTurn o n (suc i) r → HasClasses o n (suc i) (class_in o n i) r → TakesJoints o n (suc i) [] r → PlansClasses o n (i + 1) class r
  next_classes class r e plan classes takes =
      let next : suc i ≡ i + 1 = omega arith in
      let back : i ≡ i + 1 - 1 = omega arith in
      record {
        orderly = x.orderly;
        node = x.node;
        agent = x.agent;
        auxiliary = omega arith;
        plan = subst (λ z. IsPlanAtTurn o n z r) next plan;
        classes = subst (λ z. HasClasses o n z class r) next (subst (λ z. HasClasses o n (suc i) z r) (sym e) classes);
        first = inr (i, (x.auxiliary, omega arith), lt, sym e);
        last = e ∙ ap (class_in o n) back;
        takes = λ some. subst (λ z. TakesJoints o n z [] r) next takes;
        none = λ none. absurd (omega arith);
      }

  pub first_next : (class : ℕ) (q r : TaskState) (came : Bool) → class ≡ class_in o n i → begun < class → KeepsPlan p q → Skips (class - begun - 1) p q → WithEmpties (class - begun - 1) p q →
      StaysForRest o n (suc i) q r → WhatPort o n i q r came → WhatComes o n i q r came → PlansClasses o n (i + 1) class r × (r.rest ≡ p.rest)
  first_next class q r true e less keeps skips empty goes adds comes =
      let net = x.orderly.net in
      let last = x.last in
      let kept = keeps o n i x.plan in
      let has = skip_has o net n i begun (class - begun - 1) p q x.classes skips in (
        next_classes class r e goes.0 (first_came o net n x.agent i q kept.0 i x.auxiliary (begun + (class - begun - 1)) has (omega arith) r goes.1 adds)
            (first_takes o net n p q r i (class - begun - 1) x.agent lt (omega arith) (x.takes (omega arith)) kept.1 empty goes.1 comes),
        goes.1 ∙ kept.1,
      )
  first_next class q r false e less keeps skips empty goes adds comes =
      let net = x.orderly.net in
      let kept = keeps o n i x.plan in
      let has = skip_has o net n i begun (class - begun - 1) p q x.classes skips in
      let own = own_turn o n i (record { agent = x.agent; auxiliary = x.auxiliary; port = lt }) in
      absurd (first_brings o net n q r i (begun + (class - begun - 1)) x.agent x.auxiliary lt (subst (λ z. IsPlanAtTurn o n z q) (sym own) kept.0) has (omega arith) adds)

  pub further_next : (r s : TaskState) (came : Bool) → begun ≡ class_in o n i → StaysForRest o n (suc i) p r → WhatPort o n i p r came → WhatComes o n i p r came → s ≡ cond came (with_task r (Make Mix)) r → PlansClasses o n (i + 1) begun s × (s.rest ≡ p.rest)
  further_next r s true e goes adds comes mixed =
      let net = x.orderly.net in
      let has = subst (λ z. HasClasses o n i z p) e x.classes in
      let some = some_class o net n i x.agent x.auxiliary lt in
      let on = goes_make o n (suc i) p r s Mix goes mixed in (
        next_classes begun s e on.0 (further_came o net n x.agent i p x.plan i x.auxiliary has some r s goes.1 adds mixed)
            (further_takes o net n p r s i x.agent lt (sym e ∙ x.last) (x.takes (omega arith)) goes.1 comes mixed),
        on.1,
      )
  further_next r s false e goes adds comes same =
      let net = x.orderly.net in
      let has = subst (λ z. HasClasses o n i z p) e x.classes in
      let some = some_class o net n i x.agent x.auxiliary lt in
      subst (λ z. PlansClasses o n (i + 1) begun z × (z.rest ≡ p.rest)) (sym same) (
        next_classes begun r e goes.0 (further_none o net n x.agent i p x.plan i x.auxiliary has some r adds)
            (further_nothing o net n p r i x.agent lt (sym e ∙ x.last) (x.takes (omega arith)) goes.1 comes),
        goes.1,
      )

-- the graft over the classes
pub grafts : (o : OpenNet) (n i begun : ℕ) (p q r : TaskState) (count : ℕ) → PlansClasses o n i begun p → i ≡ 1 + (ports_of o n - 1) → count ≡ classes_of o n → KeepsPlan p q → Skips (count - begun) p q → WithEmpties (count - begun) p q →
    r ≡ with_task q (Make (Graft n count)) → PlansNet o n i r × (r.rest ≡ p.rest)
grafts o n i begun p q r count x at many keeps skips empty e =
    let net = x.orderly.net in
    let kept = keeps o n i x.plan in
    let most = begun_most o net n i begun x.agent x.first in
    let all : begun + (count - begun) ≡ classes_of o n = omega arith in
    let has = subst (λ z. HasClasses o n i z q) all (skip_has o net n i begun (count - begun) p q x.classes skips) in
    let on = goes_make o n i p q r (Graft n count) kept e in
    let back : i - 1 ≡ ports_of o n - 1 = omega arith in
    let last : begun ≡ class_in o n (ports_of o n - 1) = x.last ∙ ap (class_in o n) back in
    let left : count - begun ≡ classes_of o n - class_in o n (ports_of o n - 1) = omega arith in
    let filled = λ (takes : TakesJoints o n (ports_of o n) [] p). subst (λ z. TakesJoints o n (ports_of o n) (empties z) q) left (takes_makes o n (ports_of o n) [] p q takes kept.1 (empties (count - begun)) empty) in
    let grafted = λ (takes : TakesJoints o n (ports_of o n) [] p). agent_grafts o net n q r count x.agent many (filled takes) e in (
      record {
        orderly = x.orderly;
        node = x.node;
        plan = on.0;
        net = net_graft o net n x.agent i q kept.0 i has (omega arith) r count many e;
        takes = elim (at_most 1 (ports_of o n)) [
          | inl some ↦
              let same : i ≡ ports_of o n = omega arith in
              subst (λ z. TakesJoints o n z (before o n z) r) (sym same) (grafted (subst (λ z. TakesJoints o n z [] p) same (x.takes (omega arith))))
          | inr none ↦
              let no : ports_of o n ≡ 0 = omega arith in
              let same : i ≡ suc (ports_of o n) = omega arith in
              let alone = agent_alone o net n r x.agent no (grafted (subst (λ z. TakesJoints o n z [] p) (sym no) (x.none no))) in
              subst (λ z. TakesJoints o n z (before o n z) r) (sym same) (subst (λ z. TakesJoints o n (suc (ports_of o n)) z r) (sym (before_other o n (suc (ports_of o n)) (omega arith))) alone)
        ];
      },
      on.1,
    )

-- ---- one net

pub gives : (o : OpenNet) (n : ℕ) (p q : TaskState) → StartsPlan o n p → IsClass o n → q ≡ with_task p (Make (Given n)) → PlansNet o n 0 q × (q.rest ≡ p.rest)
gives o n p q s class e =
    let on = goes_make o n 0 p p q (Given n) (s.plan, refl) e in (
      record {
        orderly = s.orderly;
        node = s.node;
        plan = on.0;
        net = net_given o s.orderly.net n p q s.plan s.start class e;
        takes = subst (λ z. TakesJoints o n 0 z q) (sym (before_given o n 0 class)) (class_takes o n p q class s.start e);
      },
      on.1,
    )

-- no component comes at the turn after a class node's ports
pub past_ports : (o : OpenNet) (n : ℕ) (p : TaskState) → PlansNet o n (ports_of o n) p → IsClass o n → PlansNet o n (ports_of o n + 1) p
past_ports o n p x class =
    let next : suc (ports_of o n) ≡ ports_of o n + 1 = omega arith in
    let takes = class_end o x.orderly.net n p class (subst (λ z. TakesJoints o n (ports_of o n) z p) (before_given o n (ports_of o n) class) x.takes) in
    subst (λ z. PlansNet o n z p) next
    (record {
      orderly = x.orderly;
      node = x.node;
      plan = (class_last o x.orderly.net n p p class (x.plan, refl)).0;
      net = x.net;
      takes = subst (λ z. TakesJoints o n (suc (ports_of o n)) z p) (sym (before_given o n (suc (ports_of o n)) class)) takes;
    })

module _ (o : OpenNet) (n k : ℕ) (p r : TaskState) (x : PlansNet o n k p) where
  -- one turn further
  next_net : StaysForRest o n (suc k) p r → PutsNet o n r → before o n (suc k) ≡ [] → TakesJoints o n (suc k) [] r → PlansNet o n (k + 1) r × (r.rest ≡ p.rest)
  next_net goes net none takes =
      let next : suc k ≡ k + 1 = omega arith in (
        subst (λ z. PlansNet o n z r) next (record { orderly = x.orderly; node = x.node; plan = goes.0; net = net; takes = subst (λ z. TakesJoints o n (suc k) z r) (sym none) takes }),
        goes.1,
      )

port_passes : (o : OpenNet) (n i w : ℕ) (q : OpenPoint) (p r : TaskState) (f : Fate) → PlansNet o n (turn o n i) p → i < ports_of o n → (IsAgent o n → i ≡ 0) → IsWire o w (Port n i) q → HasFateAt p q f → (f ≡ Derived) ⊎ (f ≡ Outside) → r ≡ p →
    PlansNet o n (turn o n i + 1) r × (r.rest ≡ p.rest)
port_passes o n i w q p r f x lt principal wire h none e =
    let net = x.orderly.net in
    let met = met_past o net n p i w q wire f none h in
    subst (λ z. PlansNet o n (turn o n i + 1) z × (z.rest ≡ p.rest)) (sym e)
    (next_net o n (turn o n i) p p x (port_pass o net n p i lt x.plan met) x.net (before_next o net n i lt principal) (join_nothing o net n p i lt principal x.plan met x.takes))

-- the turn of a port
pub joins_port : (o : OpenNet) (n i w : ℕ) (q : OpenPoint) (p r : TaskState) (f : Fate) → PlansNet o n (turn o n i) p → i < ports_of o n → (IsAgent o n → i ≡ 0) → IsWire o w (Port n i) q → HasFateAt p q f → r ≡ after_fate (Cut w) p f →
    PlansNet o n (turn o n i + 1) r × (r.rest ≡ p.rest)
joins_port o n i w q p r (Waits c) x lt principal wire f e =
    let net = x.orderly.net in
    let l = f.0 in
    let there = along o net n p i w q wire l f.1 f.2 in
    let u = with_task p (Derive c) in
    let d = derives_near o n (turn o n i) l p u c x.plan f.3 refl in
    next_net o n (turn o n i) p r x
    (goes_make o n (suc (turn o n i)) p u r (Cut w) (port_derive o net n p u i w l f.1 x.plan there f.4 f.5 d) e)
    (net_join o net n (turn o n i) p x.plan l u f.4 f.5 d r i w f.1 x.net there principal (one_port o net n i w q x.node wire principal) e)
    (before_next o net n i lt principal)
    (join_takes o net n p u r i w l f.1 lt principal x.plan there f.4 f.5 d e x.takes)
joins_port o n i w q p r Derived x lt principal wire f j = port_passes o n i w q p r Derived x lt principal wire f (inl refl) j
joins_port o n i w q p r Outside x lt principal wire f j = port_passes o n i w q p r Outside x lt principal wire f (inr refl) j

node_passes : (o : OpenNet) (n m : ℕ) (p r : TaskState) (f : Fate) → PlansNet o n (suc (ports_of o n) + m) p → HasFate p m f → (f ≡ Derived) ⊎ (f ≡ Outside) → r ≡ p → PlansNet o n (suc (ports_of o n) + m + 1) r × (r.rest ≡ p.rest)
node_passes o n m p r f x h none e =
    let net = x.orderly.net in
    let k = suc (ports_of o n) + m in
    let derived = past p m f none h in
    let takes = subst (λ z. TakesJoints o n k z p) (before_other o n k (omega arith)) x.takes in
    subst (λ z. PlansNet o n (k + 1) z × (z.rest ≡ p.rest)) (sym e)
    (next_net o n k p p x (node_pass o net n p m x.plan derived) x.net (before_other o n (suc k) (omega arith)) (other_nothing o net n p m x.plan derived takes))

-- the turn of a node that isn't touched
pub joins_node : (o : OpenNet) (n m : ℕ) (p r : TaskState) (f : Fate) → PlansNet o n (suc (ports_of o n) + m) p → HasFate p m f → r ≡ after_fate Mix p f → PlansNet o n (suc (ports_of o n) + m + 1) r × (r.rest ≡ p.rest)
joins_node o n m p r (Waits c) x f e =
    let net = x.orderly.net in
    let k = suc (ports_of o n) + m in
    let u = with_task p (Derive c) in
    let d = derives_near o n k m p u c x.plan f.0 refl in
    let takes = subst (λ z. TakesJoints o n k z p) (before_other o n k (omega arith)) x.takes in
    next_net o n k p r x
    (goes_make o n (suc k) p u r Mix (node_derive o net n p u m x.plan f.1 f.2 d) e)
    (net_other o net n p m x.plan u r f.1 f.2 d x.net e)
    (before_other o n (suc k) (omega arith))
    (other_takes o net n p u r m x.plan f.1 f.2 d e takes)
joins_node o n m p r Derived x f j = node_passes o n m p r Derived x f (inl refl) j
joins_node o n m p r Outside x f j = node_passes o n m p r Outside x f (inr refl) j

-- the turns that no component has any more
pub ends : (o : OpenNet) (n d m : ℕ) (p : TaskState) → PlansNet o n (suc (ports_of o n) + m) p → HasNoTurnLeft (progress o n p.rest (suc (ports_of o n) + m)) → PlansNet o n (suc (ports_of o n) + (m + d)) p
ends o n zero m p x over = subst (λ z. PlansNet o n z p) (let e : suc (ports_of o n) + m ≡ suc (ports_of o n) + (m + 0) = omega arith in e) x
ends o n (suc d) m p x over =
    let net = x.orderly.net in
    let k = suc (ports_of o n) + m in
    let none : NoneAt o net n (nodes_in p.rest) k = λ c part comes. over c k part comes (omega arith) in
    let takes = subst (λ z. TakesJoints o n k z p) (before_other o n k (omega arith)) x.takes in
    let y = (next_net o n k p p x (plan_skip o net n k p x.plan none, refl) x.net (before_other o n (suc k) (omega arith)) (over_nothing o net n p m none takes)).0 in
    let e : suc (ports_of o n) + m + 1 ≡ suc (ports_of o n) + (m + 1) = omega arith in
    let f : suc (ports_of o n) + (m + 1 + d) ≡ suc (ports_of o n) + (m + suc d) = omega arith in
    subst (λ z. PlansNet o n z p) f (ends o n d (m + 1) p (subst (λ z. PlansNet o n z p) e y) (λ c l part comes low. over c l part comes (omega arith)))
