-- A plan begins with nothing, and ends where no component is left.
use Rattle.std.proofs.Common.{◌≡◌, ◌<◌, ◌≤◌, ◌+◌, ℕ, suc, Bool, true, false, List, [], length, refl, sym, subst, ap, inl, inr, ◌∙◌, arith}
use Rattle.std.proofs.lemmas.Bool.{false_from_ne_true}
use Rattle.in_open_nets.specs.declared.open_nets.OpenPoint.TheVariants.{Port}
use Rattle.in_open_nets.specs.Constructions.{IsIn}
use Rattle.in_open_nets.specs.Members.{nodes_in}
use Rattle.in_open_nets.specs.OpenNets.{OpenNet, IsOpenNet, IsWire, open_graph}
use Rattle.in_open_nets.specs.Parts.{IsFirst}
use Rattle.in_open_nets.specs.Pieces.{IsPieceOrWhole}
use Rattle.in_open_nets.specs.Splitting.{Linked, Without}
use Rattle.in_open_nets.specs.Stuck.{ports_of}
use Rattle.in_open_nets.proofs.Public.{each_split, in_ports, link_back, link_map, not_both, turn_one_port_most}
use Rattle.in_simple_deriving.specs.declared.plans.StackStep.{StackStep}
use Rattle.in_simple_deriving.specs.declared.plans.StackStep.TheVariants.{Mix}
use Rattle.in_simple_deriving.specs.declared.plans.Fate.{Fate}
use Rattle.in_simple_deriving.specs.declared.plans.Fate.TheVariants.{Waits, Derived, Outside}
use Rattle.in_simple_deriving.specs.declared.plans.Task.{Task}
use Rattle.in_simple_deriving.specs.Planned.{AreTouched, HasFateOfTurn, after_fate}
use Rattle.in_simple_deriving.specs.Progress.{HasNoTurnLeft, PlansNet, StartsPlan, progress}
use Rattle.in_simple_deriving.specs.TaskStates.{TaskState, pending_in, state_of}
use Rattle.in_simple_deriving.specs.Turns.{HeadedPart, NodeOrder, NamesPart, IsNodeTurns, headed, is_in_part, part_of, rest_of, tests_below, turn_of}
use Rattle.in_simple_deriving.proofs.Fated.{some_turns}
use Rattle.in_simple_deriving.proofs.HeadParts.{part_taken, rest_is}
use Rattle.in_simple_deriving.proofs.Planning.{plan_start}
use Rattle.in_simple_deriving.proofs.Stages.{ends, joins_node}
use Rattle.in_simple_deriving.proofs.Tests.{below_in, below_many, is_in}

starts_own : (x : NodeOrder) (a : ℕ) (ts : List Task) → IsNodeTurns x → NamesPart x a → IsFirst x.net (part_of x a) a → IsPieceOrWhole x.net (part_of x a) → ts ≡ [] → StartsPlan x.net a (state_of x a ts)
starts_own x a ts h head f piece none = record {
  orderly = h.orderly;
  node = head.0;
  plan = plan_start x.net net a (state_of x a ts) refl refl (some_turns x a) (below_many N _) (below_many N (pending_in ts)) out off none
      (each_split x.net net (part_of x a) (rest_of x a) a (rest_is x a) f.splits)
      (part_of x a, below_many N (is_in_part x a) ∙ sym (below_many N _), rest_is x a, piece);
  start = none;
}
  where
    N : ℕ
    N = length x.net.nodes

    net : IsOpenNet x.net
    net = h.orderly.net

    out : nodes_in (rest_of x a) a ≡ false
    out = false_from_ne_true (nodes_in (rest_of x a) a) (λ k. ((rest_is x a a).0 k).1 refl)

    off : (m : ℕ) → nodes_in (tests_below N (pending_in ts)) m ≡ false
    off m = false_from_ne_true (nodes_in (tests_below N (pending_in ts)) m) (λ k. let g = ((below_in N (pending_in ts) m).0 k).1 in not_both false (subst (λ z. pending_in z m ≡ true) none g) refl)

pub starts : (o : OpenNet) (x : NodeOrder) (a : ℕ) (part : HeadedPart) (ts : List Task) → IsNodeTurns x → NamesPart x a → part ≡ headed x a → part.net ≡ o → IsFirst o part.nodes part.head → IsPieceOrWhole o part.nodes → ts ≡ [] → StartsPlan o a (state_of x a ts)
starts o x a part ts h head e same f piece none =
    let own : x.net ≡ o = ap (λ (z : HeadedPart). z.net) (sym e) ∙ same in
    let f1 = subst (λ (z : HeadedPart). IsFirst o z.nodes z.head) e f in
    let p1 = subst (λ (z : HeadedPart). IsPieceOrWhole o z.nodes) e piece in
    subst (λ z. StartsPlan z a (state_of x a ts)) own (starts_own x a ts h head (subst (λ z. IsFirst z (part_of x a) a) (sym own) f1) (subst (λ z. IsPieceOrWhole z (part_of x a)) (sym own) p1) none)

pub takes_head : (o : OpenNet) (x : NodeOrder) (a : ℕ) (part : HeadedPart) → IsNodeTurns x → NamesPart x a → part ≡ headed x a → part.net ≡ o → IsFirst o part.nodes part.head → turn_of x a < x.taken
takes_head o x a part h head e same f =
    let own : x.net ≡ o = ap (λ (z : HeadedPart). z.net) (sym e) ∙ same in
    let f1 = subst (λ (z : HeadedPart). IsFirst o z.nodes z.head) e f in
    part_taken x h a head (subst (λ z. IsFirst z (part_of x a) a) (sym own) f1)

-- a node that touches all components leaves none for the turns after its ports
none_left : (o : OpenNet) (net : IsOpenNet o) (n : ℕ) (rest : List Bool) → ((m : ℕ) → IsIn m (nodes_in rest) → (i : ℕ) × (w : ℕ) × (l : ℕ) × (k : ℕ) × IsWire o w (Port n i) (Port l k) × Linked (open_graph o) (λ u. IsIn u (nodes_in rest)) l m) →
    nodes_in rest n ≡ false → (k : ℕ) → suc (ports_of o n) ≤ k → HasNoTurnLeft (progress o n rest k)
none_left o net n rest touched out k low d l part (inl c) after =
    let t = c.1 in
    let few = turn_one_port_most o net n c.0 (in_ports o net t.0 n c.0 (Port t.1 t.2) t.3) in
    let e = c.2 in
    omega arith
none_left o net n rest touched out k low d l part (inr c) after =
    let m = part.0 in
    let t = touched m part.1.0 in
    let dec = is_in (nodes_in rest) in
    let back = link_back o (λ u. IsIn u (nodes_in rest)) dec t.2 m t.5 in
    let on = link_map (open_graph o) (λ u. IsIn u (nodes_in rest)) (Without n (nodes_in rest)) (λ u g. (g, λ e. not_both (nodes_in rest u) g (subst (λ z. nodes_in rest z ≡ false) (sym e) out))) m t.2 back in
    c.0 t.0 (t.1, t.2, t.3, t.4, (part.2 t.2).1 on)

pub ends_touched : (o : OpenNet) (n k d : ℕ) (p : TaskState) → PlansNet o n k p → k ≡ suc (ports_of o n) → AreTouched p → PlansNet o n (k + d) p
ends_touched o n k d p x e touched =
    let net = x.orderly.net in
    let own = subst (λ z. (m : ℕ) → IsIn m (nodes_in p.rest) → (i : ℕ) × (w : ℕ) × (l : ℕ) × (j : ℕ) × IsWire o w (Port z i) (Port l j) × Linked (open_graph o) (λ u. IsIn u (nodes_in p.rest)) l m) x.plan.node
    (subst (λ z. (m : ℕ) → IsIn m (nodes_in p.rest) → (i : ℕ) × (w : ℕ) × (l : ℕ) × (j : ℕ) × IsWire z w (Port p.node i) (Port l j) × Linked (open_graph z) (λ u. IsIn u (nodes_in p.rest)) l m) x.plan.net touched) in
    let e0 : k ≡ suc (ports_of o n) + 0 = omega arith in
    let e1 : suc (ports_of o n) + (0 + d) ≡ k + d = omega arith in
    subst (λ z. PlansNet o n z p) e1 (ends o n d 0 p (subst (λ z. PlansNet o n z p) e0 x) (none_left o net n p.rest own x.plan.out (suc (ports_of o n) + 0) (omega arith)))

after_turns : (j : StackStep) (p : TaskState) (f : Fate) → (after_fate j p f).turns ≡ p.turns
after_turns j p (Waits c) = refl
after_turns j p Derived = refl
after_turns j p Outside = refl

pub other_next : (o : OpenNet) (n k m : ℕ) (p r : TaskState) (f : Fate) → PlansNet o n (k + m) p → k ≡ suc (ports_of o n) → m < length o.nodes → HasFateOfTurn p (k + m) f → r ≡ after_fate Mix p f → PlansNet o n (k + (m + 1)) r × (r.rest ≡ p.rest) × (r.turns ≡ p.turns)
other_next o n k m p r f x e small fate made =
    let e0 : k + m ≡ suc (ports_of o n) + m = omega arith in
    let e1 : suc (ports_of o n) + m + 1 ≡ k + (m + 1) = omega arith in
    let own = x.plan.node in
    let same = x.plan.net in
    let at : suc (ports_of p.net p.node) + m ≡ k + m = subst (λ z. suc (ports_of z p.node) + m ≡ k + m) (sym same) (subst (λ z. suc (ports_of o z) + m ≡ k + m) (sym own) (sym e0)) in
    let has = fate.other m (subst (λ z. m < length z.nodes) (sym same) small) at in
    let on = joins_node o n m p r f (subst (λ z. PlansNet o n z p) e0 x) has made in
    (subst (λ z. PlansNet o n z r) e1 on.0, on.1, ap (λ (z : TaskState). z.turns) made ∙ after_turns Mix p f)
