-- A plan lists the components that a node leaves, by their turns.
use Rattle.std.proofs.Math.Bool.{or_comm}
use Rattle.std.proofs.Common.{◌≡◌, ◌≢◌, ◌<◌, ◌≤◌, ◌+◌, ℕ, suc, Bool, false, cond, ◌||◌, nat_eq, Option, Some, None, IsSomeAnd, List, [], ◌∷◌, ◌++◌, length, slice_get, append_assoc, refl, sym, subst, ap, inl, inr, ◌∙◌, ne_eqb, arith}
use Rattle.in_open_nets.specs.declared.open_nets.Node.{Node}
use Rattle.in_open_nets.specs.declared.open_nets.Node.TheVariants.{AgentNode, ClassNode}
use Rattle.in_open_nets.specs.declared.open_nets.OpenNode.{OpenNode}
use Rattle.in_open_nets.specs.declared.open_nets.OpenPoint.TheVariants.{Port}
use Rattle.in_simple_deriving.specs.declared.plans.StackStep.{StackStep}
use Rattle.in_simple_deriving.specs.TaskStates.{TaskState}
use Rattle.in_simple_deriving.specs.declared.plans.Task.{Task}
use Rattle.in_simple_deriving.specs.declared.plans.Task.TheVariants.{Derive, Make}
use Rattle.in_open_nets.specs.Constructions.{IsIn}
use Rattle.in_open_nets.specs.Pieces.{IsLeftOf}
use Rattle.in_open_nets.specs.Splitting.{alone, Without}
use Rattle.in_open_nets.specs.OpenNets.{OpenNet, IsWire, IsOpenNet, open_graph, IsAgentNode, IsClassNode, IsAgent, IsClass}
use Rattle.in_open_nets.specs.Stuck.{IsPart, ports_of, turn, ComesAt}
use Rattle.in_open_nets.specs.Members.{nodes_in}
use Rattle.in_open_nets.specs.Parts.{IsReached, IsRest, PortSplits}
use Rattle.in_simple_deriving.specs.Turns.{HeadedPart}
use Rattle.in_simple_deriving.specs.Procedure.{Lists, AreSizedTasks, IsPlanAtTurn, HasTurn, StaysForRest, KeepsPlan, DerivesNear, with_task}
use Rattle.in_open_nets.proofs.Public.{not_both, same_nat, at_most, link_back, link_first, link_map, in_length, in_ports, one_turn}
use Rattle.in_open_nets.proofs.Public.{turn_same, meet_same, comes_at, turn_one_port, turn_one_port_most, without}
use Rattle.std.proofs.lemmas.Bool.{or_cases, or_left, or_right}

pub sized_more : (o : OpenNet) (ts : List Task) (us : List Task) → AreSizedTasks o ts → AreSizedTasks o us → AreSizedTasks o (ts ++ us)
sized_more o [] us h k = k
sized_more o (Derive c ∷ ts) us h k = (h.0, h.1, sized_more o ts us h.2 k)
sized_more o (Make x ∷ ts) us h k = sized_more o ts us h k

-- turns by place
pub turn_agent : (o : OpenNet) (n i : ℕ) → IsAgent o n → i ≢ 0 → turn o n i ≡ i
turn_agent o n i a d = go (slice_get o.nodes n) a
  where
    go : (m : Option OpenNode) → IsSomeAnd m IsAgentNode → elim m [ None ↦ i | Some m ↦ elim m.node [ AgentNode y ↦ cond (nat_eq i 0) (length m.class_of) i | ClassNode y c ↦ i ] ] ≡ i
    go None h = absurd h
    go (Some m) h = let e : nat_eq i 0 ≡ false = ne_eqb i 0 d in at m.node e
      where
        at : (x : Node) → nat_eq i 0 ≡ false → elim x [ AgentNode y ↦ cond (nat_eq i 0) (length m.class_of) i | ClassNode y c ↦ i ] ≡ i
        at (AgentNode y) e = rw e refl
        at (ClassNode y c) e = refl

pub turn_principal : (o : OpenNet) (n : ℕ) → IsAgent o n → turn o n 0 ≡ ports_of o n
turn_principal o n a = go (slice_get o.nodes n) a
  where
    at : (m : OpenNode) (x : Node) → elim x as (λ _. Type 0) [ AgentNode y ↦ Unit {0} | ClassNode y c ↦ ⊥ ] → elim x [ AgentNode y ↦ length m.class_of | ClassNode y c ↦ 0 ] ≡ length m.class_of
    at m (AgentNode y) h = refl
    at m (ClassNode y c) h = absurd h

    go : (m : Option OpenNode) → IsSomeAnd m IsAgentNode → ◌≡◌ {A = ℕ} (elim m [ None ↦ 0 | Some m ↦ elim m.node [ AgentNode y ↦ cond (nat_eq 0 0) (length m.class_of) 0 | ClassNode y c ↦ 0 ] ]) (elim m [ None ↦ 0 | Some m ↦ length m.class_of ])
    go None h = absurd h
    go (Some m) h = at m m.node h

pub turn_class : (o : OpenNet) (n i : ℕ) → IsClass o n → turn o n i ≡ i
turn_class o n i a = go (slice_get o.nodes n) a
  where
    at : (m : OpenNode) (x : Node) → elim x as (λ _. Type 0) [ AgentNode y ↦ ⊥ | ClassNode y c ↦ Unit {0} ] → elim x [ AgentNode y ↦ cond (nat_eq i 0) (length m.class_of) i | ClassNode y c ↦ i ] ≡ i
    at m (AgentNode y) h = absurd h
    at m (ClassNode y c) h = refl

    go : (m : Option OpenNode) → IsSomeAnd m IsClassNode → elim m [ None ↦ i | Some m ↦ elim m.node [ AgentNode y ↦ cond (nat_eq i 0) (length m.class_of) i | ClassNode y c ↦ i ] ] ≡ i
    go None h = absurd h
    go (Some m) h = at m m.node h

pub plan_make : (o : OpenNet) (n t : ℕ) (p : TaskState) (j : StackStep) → IsPlanAtTurn o n t p → IsPlanAtTurn o n t (with_task p (Make j))
plan_make o n t p j h = record {
  net = h.net;
  node = h.node;
  most = h.most;
  rest_size = h.rest_size;
  done_size = h.done_size;
  out = h.out;
  done = h.done;
  sized = sized_more o p.tasks (Make j ∷ []) h.sized tt;
  lists = λ more k. subst (λ z. Lists o n (nodes_in p.rest) 0 z) (sym (append_assoc p.tasks (Make j ∷ []) more)) (h.lists (Make j ∷ more) k);
  splits = h.splits;
  left = h.left;
}

pub keeps_make : (old p q : TaskState) (j : StackStep) → KeepsPlan old p → q ≡ with_task p (Make j) → KeepsPlan old q
keeps_make old p q j h e = λ o n t k.
    let x = h o n t k in
    subst (λ z. StaysForRest o n t old z) (sym e) (plan_make o n t p j x.0, x.1)

pub keeps_same : (p : TaskState) → KeepsPlan p p
keeps_same p = λ o n t k. (k, refl)

pub goes_make : (o : OpenNet) (n t : ℕ) (old p q : TaskState) (j : StackStep) → StaysForRest o n t old p → q ≡ with_task p (Make j) → StaysForRest o n t old q
goes_make o n t old p q j h e = subst (λ z. StaysForRest o n t old z) (sym e) (plan_make o n t p j h.0, h.1)

pub goes_keep : (o : OpenNet) (n t : ℕ) (old p q : TaskState) → StaysForRest o n t old p → KeepsPlan p q → StaysForRest o n t old q
goes_keep o n t old p q h k = let x = k o n t h.0 in (x.0, x.1 ∙ h.1)

pub goes_on : (o : OpenNet) (n t u : ℕ) (old p q : TaskState) → StaysForRest o n t old p → StaysForRest o n u p q → StaysForRest o n u old q
goes_on o n t u old p q h k = (k.0, k.1 ∙ h.1)

module _ (o : OpenNet) (net : IsOpenNet o) (n : ℕ) where
  -- no component has this turn
  abbrev pub NoneAt : (ℕ → Bool) → ℕ → Type 0
  NoneAt s t = (d : ℕ → Bool) → IsPart o n s d → ComesAt o n d t → ⊥

  lists_down : (s : ℕ → Bool) (t : ℕ) → NoneAt s t → (ts : List Task) → Lists o n s (suc t) ts → Lists o n s t ts
  lists_down s t none [] h = λ d l part comes low. elim (same_nat l t) [
    | inl e ↦ none d part (subst (λ z. ComesAt o n d z) e comes)
    | inr g ↦ h d l part comes (omega arith)
  ]
  lists_down s t none (Derive c ∷ ts) h = let low = h.1 in (
    h.0,
    omega arith,
    h.2,
    h.3,
    (λ d l part comes a b. elim (same_nat l t) [
      | inl e ↦ none d part (subst (λ z. ComesAt o n d z) e comes)
      | inr g ↦ h.4 d l part comes (omega arith) b
    ]),
    h.5,
  )
  lists_down s t none (Make x ∷ ts) h = lists_down s t none ts h

  pub plan_start : (p : TaskState) → p.net ≡ o → p.node ≡ n → suc (ports_of o n) ≤ p.turns → length p.rest ≡ length o.nodes → length p.done ≡ length o.nodes → nodes_in p.rest n ≡ false → ((m : ℕ) → nodes_in p.done m ≡ false) → p.tasks ≡ [] → ((i : ℕ) → PortSplits o p.rest n i) → IsLeftOf o n p.rest → IsPlanAtTurn o n 0 p
  plan_start p same own most a b out off e splits left = record {
    net = same;
    node = own;
    most = most;
    rest_size = a;
    done_size = b;
    out = out;
    done = λ m. ((λ h. absurd (not_both (nodes_in p.done m) h (off m))), λ h. absurd (let l = h.4 in omega arith));
    sized = subst (λ z. AreSizedTasks o z) (sym e) tt;
    lists = λ more h. subst (λ z. Lists o n (nodes_in p.rest) 0 (z ++ more)) (sym e) h;
    splits = splits;
    left = left;
  }

  pub plan_skip : (t : ℕ) (p : TaskState) → IsPlanAtTurn o n t p → NoneAt (nodes_in p.rest) t → IsPlanAtTurn o n (suc t) p
  plan_skip t p h none = record {
    net = h.net;
    node = h.node;
    most = h.most;
    rest_size = h.rest_size;
    done_size = h.done_size;
    out = h.out;
    done = λ m. (
      (λ k. let x = (h.done m).0 k in let l = x.4 in (x.0, x.1, x.2, x.3, omega arith, x.5)),
      λ x. elim (same_nat x.1 t) [
        | inl e ↦ absurd (none x.0 x.2 (subst (λ z. ComesAt o n x.0 z) e x.3))
        | inr d ↦ let l = x.4 in (h.done m).1 (x.0, x.1, x.2, x.3, omega arith, x.5)
      ],
    );
    sized = h.sized;
    lists = λ more k. h.lists more (lists_down (nodes_in p.rest) t none more k);
    splits = h.splits;
    left = h.left;
  }

  pub in_net : (t : ℕ) (p : TaskState) → IsPlanAtTurn o n t p → (m : ℕ) → IsIn m (nodes_in p.rest) → m < length o.nodes
  in_net t p h m k = let a = in_length p.rest m k in let b = h.rest_size in omega arith

  pub plan_derive : (t : ℕ) (p : TaskState) (c : HeadedPart) (d : List Bool) → IsPlanAtTurn o n t p → (c.net ≡ o) × (length c.nodes ≡ length o.nodes) → length d ≡ length o.nodes → ((m : ℕ) → nodes_in d m ≡ (nodes_in p.done m || nodes_in c.nodes m)) → IsPart o n (nodes_in p.rest) (nodes_in c.nodes) → ComesAt o n (nodes_in c.nodes) t → IsPlanAtTurn o n (suc t) (record p { tasks = p.tasks ++ Derive c ∷ []; done = d })
  plan_derive t p c d h size size' both part comes = record {
    net = h.net;
    node = h.node;
    most = h.most;
    rest_size = h.rest_size;
    done_size = size';
    out = h.out;
    done = λ m. (
      (λ k. elim (or_cases (nodes_in p.done m) (nodes_in c.nodes m) (sym (both m) ∙ k)) [
        | inl g ↦ let x = (h.done m).0 g in let l = x.4 in (x.0, x.1, x.2, x.3, omega arith, x.5)
        | inr g ↦ (nodes_in c.nodes, t, part, comes, omega arith, g)
      ]),
      λ x. both m ∙ elim (same_nat x.1 t) [
        | inl e ↦
            let f = turn_same o net (nodes_in p.rest) (in_net t p h) n x.0 (nodes_in c.nodes) x.2 part t (subst (λ z. ComesAt o n x.0 z) e x.3) comes in
            or_right (nodes_in p.done m) (nodes_in c.nodes m) (subst (λ z. IsIn m z) f x.5)
        | inr g ↦ let l = x.4 in or_left (nodes_in p.done m) (nodes_in c.nodes m) ((h.done m).1 (x.0, x.1, x.2, x.3, omega arith, x.5))
      ],
    );
    sized = sized_more o p.tasks (Derive c ∷ []) h.sized (size, (part.0, (part.2 part.0).1 (alone part.0 part.1)), tt);
    lists = λ more k. subst (λ z. Lists o n (nodes_in p.rest) 0 z) (sym (append_assoc p.tasks (Derive c ∷ []) more)) (h.lists (Derive c ∷ more) (t, omega arith, part, comes, (λ d l q u a b. absurd (omega arith)), k));
    splits = h.splits;
    left = h.left;
  }

  -- a search reaches a component
  pub reached_part : (rest c : List Bool) (near : ℕ) → nodes_in rest n ≡ false → IsIn near (nodes_in rest) → IsReached o rest near c → IsPart o n (nodes_in rest) (nodes_in c)
  reached_part rest c near out here r = (
    near,
    (here, not_n near here),
    λ k. (
      (λ h. link_map (open_graph o) (λ m. IsIn m (nodes_in rest)) (Without n (nodes_in rest)) (λ m k. (k, not_n m k)) near k ((r k).0 h)),
      λ h. (r k).1 (link_map (open_graph o) (Without n (nodes_in rest)) (λ m. IsIn m (nodes_in rest)) (λ m k. k.0) near k h),
    ),
  )
    where
      not_n : (m : ℕ) → IsIn m (nodes_in rest) → m ≢ n
      not_n m h e = not_both (nodes_in rest m) h (subst (λ z. nodes_in rest z ≡ false) (sym e) out)

  pub derive_goes : (t near : ℕ) (p q : TaskState) → IsPlanAtTurn o n t p → IsIn near (nodes_in p.rest) → HasTurn o n p near t → DerivesNear o near p q → StaysForRest o n (suc t) p q
  derive_goes t near p q h here now d =
      let part = reached_part p.rest d.component.nodes near h.out here d.reached in
      let inside = (d.reached near).1 (alone near here) in
      let x = plan_derive t p d.component q.done h d.size (d.done_size ∙ h.done_size) (λ m. d.both m ∙ or_comm (nodes_in d.component.nodes m) (nodes_in p.done m)) part (now (nodes_in d.component.nodes) part inside) in
      let e : record p { tasks = p.tasks ++ Derive d.component ∷ []; done = q.done } ≡ q = plan_same p q (p.tasks ++ Derive d.component ∷ []) d.tasks d.same d.net d.node d.turns in
      (subst (λ z. IsPlanAtTurn o n (suc t) z) e x, d.same)
    where
      plan_same : (p q : TaskState) (ts : List Task) → q.tasks ≡ ts → q.rest ≡ p.rest → q.net ≡ p.net → q.node ≡ p.node → q.turns ≡ p.turns → ◌≡◌ {A = TaskState} (record p { tasks = ts; done = q.done }) q
      plan_same p q ts e f a b c =
          ap (λ z. record { net = z; node = p.node; turns = p.turns; tasks = ts; rest = p.rest; done = q.done }) (sym a)
          ∙ ap (λ z. record { net = q.net; node = z; turns = p.turns; tasks = ts; rest = p.rest; done = q.done }) (sym b)
          ∙ ap (λ z. record { net = q.net; node = q.node; turns = z; tasks = ts; rest = p.rest; done = q.done }) (sym c)
          ∙ ap (λ z. record { net = q.net; node = q.node; turns = q.turns; tasks = z; rest = p.rest; done = q.done }) (sym e)
          ∙ ap (λ z. record { net = q.net; node = q.node; turns = q.turns; tasks = q.tasks; rest = z; done = q.done }) (sym f)

  -- each node of a component is one of the rest
  pub part_inside : (s : ℕ → Bool) → ((m : ℕ) → IsIn m s → m < length o.nodes) → (d : ℕ → Bool) → IsPart o n s d → (m : ℕ) → IsIn m d → Without n s m
  part_inside s inside d part m h = link_first (open_graph o) (Without n s) m part.0 (link_back o (Without n s) (without o net s inside n) part.0 m ((part.2 m).0 h))

  -- a component with a done node has an earlier turn
  done_before : (t : ℕ) (p : TaskState) → IsPlanAtTurn o n t p → (d : ℕ → Bool) (l m : ℕ) → IsPart o n (nodes_in p.rest) d → ComesAt o n d l → IsIn m d → IsIn m (nodes_in p.done) → l < t
  done_before t p h d l m part comes inside here =
      let x = (h.done m).0 here in
      let e = meet_same o net (nodes_in p.rest) (in_net t p h) n x.0 d x.2 part m x.5 inside in
      let f = one_turn o net (nodes_in p.rest) (in_net t p h) n d x.1 l (subst (λ z. ComesAt o n z x.1) e x.3) comes in
      let g = x.4 in
      omega arith

  undone_after : (t : ℕ) (p : TaskState) → IsPlanAtTurn o n t p → (d : ℕ → Bool) (l m : ℕ) → IsPart o n (nodes_in p.rest) d → ComesAt o n d l → IsIn m d → nodes_in p.done m ≡ false → t ≤ l
  undone_after t p h d l m part comes inside off = elim (at_most t l) [
    | inl g ↦ g
    | inr g ↦ absurd (not_both (nodes_in p.done m) ((h.done m).1 (d, l, part, comes, g, inside)) off)
  ]

  -- at the turn of port i: the component that it touches, if it isn't done
  pub port_turn : (p : TaskState) (i w l k : ℕ) → IsPlanAtTurn o n (turn o n i) p → IsWire o w (Port n i) (Port l k) → IsIn l (nodes_in p.rest) → nodes_in p.done l ≡ false → HasTurn o n p l (turn o n i)
  port_turn p i w l k h wire here off c part inside =
      let q = comes_at o net (nodes_in p.rest) (in_net (turn o n i) p h) n c l inside (in_net (turn o n i) p h l here) in
      let low = undone_after (turn o n i) p h c q.0 l part q.1 inside off in
      subst (λ z. ComesAt o n c z) (go q.0 q.1 low) q.1
    where
      go : (k' : ℕ) → ComesAt o n c k' → turn o n i ≤ k' → k' ≡ turn o n i
      go k' (inl x) low = let u = x.3 i (w, l, k, wire, inside) in omega arith
      go k' (inr x) low = absurd (x.0 i (w, l, k, wire, inside))

  -- .. and none, if it touches none or one that is done
  pub port_none : (p : TaskState) (i : ℕ) → i < ports_of o n → IsPlanAtTurn o n (turn o n i) p → ((w l k : ℕ) → IsWire o w (Port n i) (Port l k) → IsIn l (nodes_in p.rest) → IsIn l (nodes_in p.done)) → NoneAt (nodes_in p.rest) (turn o n i)
  port_none p i b h all d part (inl x) =
      let t = x.1 in
      let e : x.0 ≡ i = turn_one_port o net n x.0 i (in_ports o net t.0 n x.0 (Port t.1 t.2) t.3) b x.2 in
      let wire : IsWire o t.0 (Port n i) (Port t.1 t.2) = subst (λ z. IsWire o t.0 (Port n z) (Port t.1 t.2)) e t.3 in
      let here = (part_inside (nodes_in p.rest) (in_net (turn o n i) p h) d part t.1 t.4).0 in
      let f = done_before (turn o n i) p h d (turn o n i) t.1 part (inl x) t.4 (all t.0 t.1 t.2 wire here) in
      absurd (omega arith)
  port_none p i b h all d part (inr x) = let a = turn_one_port_most o net n i b in let c = x.1.2 in absurd (omega arith)

  -- the principal port has no turn 0, and no port of a class node has the turn after its last
  pub agent_none : (s : ℕ → Bool) → IsAgent o n → NoneAt s 0
  agent_none s a d part (inl x) = elim (same_nat x.0 0) [
    | inl e ↦
        let u = turn_principal o n a in
        let v : turn o n x.0 ≡ turn o n 0 = ap (turn o n) e in
        let b = in_ports o net x.1.0 n x.0 (Port x.1.1 x.1.2) x.1.3 in
        let c = x.2 in
        absurd (omega arith)
    | inr e ↦ let u = turn_agent o n x.0 a e in let c = x.2 in e (omega arith)
  ]
  agent_none s a d part (inr x) = let c = x.1.2 in absurd (omega arith)

  pub class_none : (s : ℕ → Bool) → IsClass o n → NoneAt s (ports_of o n)
  class_none s a d part (inl x) =
      let u = turn_class o n x.0 a in
      let b = in_ports o net x.1.0 n x.0 (Port x.1.1 x.1.2) x.1.3 in
      let c = x.2 in
      absurd (omega arith)
  class_none s a d part (inr x) = let c = x.1.2 in absurd (omega arith)

  -- after the ports, the components by their first nodes
  pub node_turn : (p : TaskState) (m : ℕ) → IsPlanAtTurn o n (suc (ports_of o n) + m) p → IsIn m (nodes_in p.rest) → nodes_in p.done m ≡ false → HasTurn o n p m (suc (ports_of o n) + m)
  node_turn p m h here off c part inside =
      let t = suc (ports_of o n) + m in
      let q = comes_at o net (nodes_in p.rest) (in_net t p h) n c m inside (in_net t p h m here) in
      let low = undone_after t p h c q.0 m part q.1 inside off in
      subst (λ z. ComesAt o n c z) (go q.0 q.1 low) q.1
    where
      go : (k' : ℕ) → ComesAt o n c k' → suc (ports_of o n) + m ≤ k' → k' ≡ suc (ports_of o n) + m
      go k' (inl x) low =
          let b = in_ports o net x.1.0 n x.0 (Port x.1.1 x.1.2) x.1.3 in
          let u = turn_one_port_most o net n x.0 b in
          let v = x.2 in
          absurd (omega arith)
      go k' (inr x) low = let u = x.1.3 m inside in let v = x.1.2 in omega arith

  pub node_none : (p : TaskState) (m : ℕ) → IsPlanAtTurn o n (suc (ports_of o n) + m) p → (IsIn m (nodes_in p.rest) → IsIn m (nodes_in p.done)) → NoneAt (nodes_in p.rest) (suc (ports_of o n) + m)
  node_none p m h all d part (inl x) =
      let b = in_ports o net x.1.0 n x.0 (Port x.1.1 x.1.2) x.1.3 in
      let u = turn_one_port_most o net n x.0 b in
      let v = x.2 in
      absurd (omega arith)
  node_none p m h all d part (inr x) =
      let t = suc (ports_of o n) + m in
      let v = x.1.2 in
      let e : x.1.0 ≡ m = omega arith in
      let inside : IsIn m d = subst (λ z. IsIn z d) e x.1.1 in
      let here = (part_inside (nodes_in p.rest) (in_net t p h) d part m inside).0 in
      let f = done_before t p h d t m part (inr x) inside (all here) in
      absurd (omega arith)

  pub plan_end : (p : TaskState) → IsPlanAtTurn o n (suc (ports_of o n) + length o.nodes) p → Lists o n (nodes_in p.rest) 0 p.tasks
  plan_end p h = subst (λ z. Lists o n (nodes_in p.rest) 0 z) (none_more p.tasks) (h.lists [] (λ d l part comes low. last d l part comes low))
    where
      none_more : (ts : List Task) → ts ++ [] ≡ ts
      none_more [] = refl
      none_more (t ∷ ts) = ap (λ z. t ∷ z) (none_more ts)

      last : (d : ℕ → Bool) (l : ℕ) → IsPart o n (nodes_in p.rest) d → ComesAt o n d l → suc (ports_of o n) + length o.nodes ≤ l → ⊥
      last d l part (inl x) low =
          let b = in_ports o net x.1.0 n x.0 (Port x.1.1 x.1.2) x.1.3 in
          let u = turn_one_port_most o net n x.0 b in
          let v = x.2 in
          omega arith
      last d l part (inr x) low =
          let a = in_net (suc (ports_of o n) + length o.nodes) p h x.1.0 (part_inside (nodes_in p.rest) (in_net (suc (ports_of o n) + length o.nodes) p h) d part x.1.0 x.1.1).0 in
          let v = x.1.2 in
          omega arith

  -- components of the rest are those of the part without n
  part_of_rest : (part rest : List Bool) → IsRest n part rest → (d : ℕ → Bool) → IsPart o n (nodes_in rest) d → IsPart o n (nodes_in part) d
  part_of_rest part rest r d h = (
    h.0,
    (r h.0).0 h.1.0,
    λ k. (
      (λ g. link_map (open_graph o) (Without n (nodes_in rest)) (Without n (nodes_in part)) (λ m k. (r m).0 k.0) h.0 k ((h.2 k).0 g)),
      λ g. (h.2 k).1 (link_map (open_graph o) (Without n (nodes_in part)) (Without n (nodes_in rest)) (λ m k. ((r m).1 k, k.1)) h.0 k g),
    ),
  )

  rest_of_part : (part rest : List Bool) → IsRest n part rest → (d : ℕ → Bool) → IsPart o n (nodes_in part) d → IsPart o n (nodes_in rest) d
  rest_of_part part rest r d h = (
    h.0,
    ((r h.0).1 h.1, h.1.1),
    λ k. (
      (λ g. link_map (open_graph o) (Without n (nodes_in part)) (Without n (nodes_in rest)) (λ m k. ((r m).1 k, k.1)) h.0 k ((h.2 k).0 g)),
      λ g. (h.2 k).1 (link_map (open_graph o) (Without n (nodes_in rest)) (Without n (nodes_in part)) (λ m k. (r m).0 k.0) h.0 k g),
    ),
  )

  pub lists_part : (part rest : List Bool) → IsRest n part rest → (low : ℕ) (ts : List Task) → Lists o n (nodes_in rest) low ts → Lists o n (nodes_in part) low ts
  lists_part part rest r low [] h = λ d l p comes a. h d l (rest_of_part part rest r d p) comes a
  lists_part part rest r low (Derive c ∷ ts) h = (
    h.0,
    h.1,
    part_of_rest part rest r (nodes_in c.nodes) h.2,
    h.3,
    (λ d l p comes a b. h.4 d l (rest_of_part part rest r d p) comes a b),
    lists_part part rest r (suc h.0) ts h.5,
  )
  lists_part part rest r low (Make x ∷ ts) h = lists_part part rest r low ts h

  -- port by port
  pub port_pass : (p : TaskState) (i : ℕ) → i < ports_of o n → IsPlanAtTurn o n (turn o n i) p → ((w l k : ℕ) → IsWire o w (Port n i) (Port l k) → IsIn l (nodes_in p.rest) → IsIn l (nodes_in p.done)) → StaysForRest o n (suc (turn o n i)) p p
  port_pass p i b h all = (plan_skip (turn o n i) p h (port_none p i b h all), refl)

  pub port_derive : (p q : TaskState) (i w l k : ℕ) → IsPlanAtTurn o n (turn o n i) p → IsWire o w (Port n i) (Port l k) → IsIn l (nodes_in p.rest) → nodes_in p.done l ≡ false → DerivesNear o l p q → StaysForRest o n (suc (turn o n i)) p q
  port_derive p q i w l k h wire here off d = derive_goes (turn o n i) l p q h here (port_turn p i w l k h wire here off) d

  pub node_pass : (p : TaskState) (m : ℕ) → IsPlanAtTurn o n (suc (ports_of o n) + m) p → (IsIn m (nodes_in p.rest) → IsIn m (nodes_in p.done)) → StaysForRest o n (suc (suc (ports_of o n) + m)) p p
  node_pass p m h all = (plan_skip (suc (ports_of o n) + m) p h (node_none p m h all), refl)

  pub node_derive : (p q : TaskState) (m : ℕ) → IsPlanAtTurn o n (suc (ports_of o n) + m) p → IsIn m (nodes_in p.rest) → nodes_in p.done m ≡ false → DerivesNear o m p q → StaysForRest o n (suc (suc (ports_of o n) + m)) p q
  node_derive p q m h here off d = derive_goes (suc (ports_of o n) + m) m p q h here (node_turn p m h here off) d

  pub agent_start : (p : TaskState) → IsAgent o n → IsPlanAtTurn o n 0 p → StaysForRest o n 1 p p
  agent_start p a h = (plan_skip 0 p h (agent_none (nodes_in p.rest) a), refl)

  pub class_last : (old p : TaskState) → IsClass o n → StaysForRest o n (ports_of o n) old p → StaysForRest o n (suc (ports_of o n)) old p
  class_last old p a h = (plan_skip (ports_of o n) p h.0 (class_none (nodes_in p.rest) a), h.1)
