-- The fate of the node at the other end of a wire, and the tasks that a port adds there.
use Rattle.std.proofs.Common.{◌≡◌, ◌⊎◌, ◌<◌, ◌≤◌, ℕ, Bool, ◌||◌, length, refl, sym, subst, ap, inl, inr, ◌∙◌, arith}
use Rattle.std.proofs.lemmas.Bool.{or_cases}
use Rattle.in_open_nets.specs.declared.open_nets.OpenPoint.{OpenPoint}
use Rattle.in_open_nets.specs.declared.open_nets.OpenPoint.TheVariants.{Port, Free}
use Rattle.in_simple_deriving.specs.declared.plans.Fate.{Fate}
use Rattle.in_simple_deriving.specs.declared.plans.Fate.TheVariants.{Derived, Outside}
use Rattle.in_simple_deriving.specs.declared.plans.Task.TheVariants.{Derive}
use Rattle.in_simple_deriving.specs.TaskStates.{TaskState, with_task}
use Rattle.in_simple_deriving.specs.Procedure.{DerivesNear, IsPlanAtTurn}
use Rattle.in_simple_deriving.specs.Turns.{HeadedPart, tests_below}
use Rattle.in_open_nets.specs.Parts.{IsReached}
use Rattle.in_simple_deriving.proofs.Tests.{below_at, below_in, below_many}
use Rattle.in_open_nets.specs.Constructions.{IsIn}
use Rattle.in_open_nets.specs.Derivations.{is_port_in}
use Rattle.in_open_nets.specs.OpenNets.{OpenNet, IsWire, IsOpenNet}
use Rattle.in_simple_deriving.specs.Planned.{HasFate, HasFateAt, HasFateOfTurn, IsComponentOf, LeadsBack}
use Rattle.in_open_nets.specs.Stuck.{turn}
use Rattle.in_open_nets.specs.Members.{nodes_in}
use Rattle.in_simple_deriving.specs.TakenOrder.{LeadsAway}
use Rattle.in_open_nets.proofs.Public.{at_most, in_length, port_place, not_both, port_yes, same_test}

pub back_at : (n i : ℕ) (q : OpenPoint) → LeadsBack n i q → (l : ℕ) × (k : ℕ) × (q ≡ Port l k) × (l ≡ n) × (k ≤ i)
back_at n i (Port l k) h = (l, k, refl, h.0, h.1)
back_at n i (Free k) h = absurd h

pub leads_away : (t : ℕ → Bool) (n i : ℕ) (q : OpenPoint) → is_port_in t q ≡ 0 → (LeadsBack n i q → ⊥) → LeadsAway t n i q
leads_away t n i (Port l k) off not = (
  (λ here. let one = port_yes t l k here in omega arith),
  λ e. elim (at_most k i) [ inl le ↦ absurd (not (e, le)) | inr lt ↦ lt ],
)
leads_away t n i (Free k) off not = tt

pub later_port : (t : ℕ → Bool) (n i : ℕ) (q : OpenPoint) → LeadsAway t n i q → (j : ℕ) → q ≡ Port n j → i < j
later_port t n i q away j e = (subst (LeadsAway t n i) e away).1 refl

-- a plan is for its own net and node
pub plan_own : (o : OpenNet) (n t : ℕ) (p : TaskState) → IsPlanAtTurn o n t p → IsPlanAtTurn p.net p.node t p
plan_own o n t p h = subst (λ z. IsPlanAtTurn p.net z t p) (sym h.node) (subst (λ z. IsPlanAtTurn z n t p) (sym h.net) h)

pub fate_of_port : (o : OpenNet) (n i k w : ℕ) (q : OpenPoint) (p : TaskState) (f : Fate) → p.net ≡ o → p.node ≡ n → HasFateOfTurn p k f → IsWire o w (Port n i) q → turn o n i ≡ k → HasFateAt p q f
fate_of_port o n i k w q p f same own h wire at =
    h.port i w q (subst (λ z. IsWire z w (Port p.node i) q) (sym same) (subst (λ z. IsWire o w (Port z i) q) (sym own) wire)) (subst (λ z. turn z p.node i ≡ k) (sym same) (subst (λ z. turn o z i ≡ k) (sym own) at))

-- one more task derives the component that waits
pub derives_near : (o : OpenNet) (n t l : ℕ) (p q : TaskState) (c : HeadedPart) → IsPlanAtTurn o n t p → IsComponentOf p l c → q ≡ with_task p (Derive c) → DerivesNear o l p q
derives_near o n t l p q c h part e = subst (DerivesNear o l p) (sym e) (record {
  component = c;
  size = (part.0 ∙ h.net, part.1 ∙ ap (λ z. length z.nodes) h.net);
  reached = subst (λ z. IsReached z p.rest l c.nodes) h.net part.2;
  tasks = refl;
  net = refl;
  node = refl;
  turns = refl;
  same = refl;
  done_size = below_many (length p.net.nodes) s ∙ ap (λ z. length z.nodes) h.net ∙ sym h.done_size;
  both = λ m. elim (at_most (length p.net.nodes) m) [
    | inl past ↦ off m past
    | inr less ↦ below_at (length p.net.nodes) s m less
  ];
})
  where
    s : ℕ → Bool
    s m = nodes_in c.nodes m || nodes_in p.done m

    off : (m : ℕ) → length p.net.nodes ≤ m → nodes_in (tests_below (length p.net.nodes) s) m ≡ (nodes_in c.nodes m || nodes_in p.done m)
    off m past = same_test (nodes_in (tests_below (length p.net.nodes) s) m) (nodes_in c.nodes m || nodes_in p.done m)
        (λ k. let l = ((below_in (length p.net.nodes) s m).0 k).0 in absurd (omega arith))
        (λ k. elim (or_cases (nodes_in c.nodes m) (nodes_in p.done m) k) [
          | inl g ↦ let l = in_length c.nodes m g in let e = part.1 in absurd (omega arith)
          | inr g ↦ let l = in_length p.done m g in let e = h.done_size in let e' : length p.net.nodes ≡ length o.nodes = ap (λ z. length z.nodes) h.net in absurd (omega arith)
        ])

pub past : (p : TaskState) (m : ℕ) (f : Fate) → (f ≡ Derived) ⊎ (f ≡ Outside) → HasFate p m f → IsIn m (nodes_in p.rest) → IsIn m (nodes_in p.done)
past p m f (inl e) h here = (subst (HasFate p m) e h).1
past p m f (inr e) h here = absurd (not_both (nodes_in p.rest m) here (subst (HasFate p m) e h))

module _ (o : OpenNet) (net : IsOpenNet o) (n : ℕ) (p : TaskState) (i w : ℕ) (q : OpenPoint) (wire : IsWire o w (Port n i) q) where
  pub along : (l k : ℕ) → q ≡ Port l k → IsWire o w (Port n i) (Port l k)
  along l k e = subst (λ z. IsWire o w (Port n i) z) e wire

  -- the node that the port meets is derived
  pub met_derived : HasFateAt p q Derived → (v l k : ℕ) → IsWire o v (Port n i) (Port l k) → IsIn l (nodes_in p.rest) → IsIn l (nodes_in p.done)
  met_derived f v l k g here =
      let e = (port_place f.0 l f.1 k (net.once w v (Port n i) (Port f.0 f.1) (Port l k) (along f.0 f.1 f.2) g).1).0 in
      subst (λ z. IsIn z (nodes_in p.done)) e f.4

  -- it meets no node that is left
  pub met_none : HasFateAt p q Outside → (v l k : ℕ) → IsWire o v (Port n i) (Port l k) → IsIn l (nodes_in p.rest) → ⊥
  met_none off v l k g here =
      let e = (net.once w v (Port n i) q (Port l k) wire g).1 in
      let one : is_port_in (nodes_in p.rest) q ≡ 1 = subst (λ z. is_port_in (nodes_in p.rest) z ≡ 1) (sym e) (port_yes (nodes_in p.rest) l k here) in
      omega (arith, one, off)

  -- if no component waits there, the port meets no node that isn't derived
  pub met_past : (f : Fate) → (f ≡ Derived) ⊎ (f ≡ Outside) → HasFateAt p q f → (v l k : ℕ) → IsWire o v (Port n i) (Port l k) → IsIn l (nodes_in p.rest) → IsIn l (nodes_in p.done)
  met_past f (inl e) h = met_derived (subst (HasFateAt p q) e h)
  met_past f (inr e) h = λ v l k g here. absurd (met_none (subst (HasFateAt p q) e h) v l k g here)
