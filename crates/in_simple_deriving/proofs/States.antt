-- What contracts see of a plan, task by task.
use Rattle.std.proofs.Common.{◌≡◌, ◌<◌, ℕ, zero, suc, Bool, true, false, ◌||◌, List, [], ◌∷◌, ◌++◌, length, refl, sym, ap, ◌∙◌, arith}
use Rattle.in_simple_deriving.specs.declared.plans.Task.{Task}
use Rattle.in_simple_deriving.specs.declared.plans.Task.TheVariants.{Derive, Make}
use Rattle.in_open_nets.specs.Members.{nodes_in}
use Rattle.in_open_nets.specs.OpenNets.{OpenNet}
use Rattle.in_simple_deriving.specs.TaskStates.{also, pending_in, state_of, with_task}
use Rattle.in_simple_deriving.specs.Turns.{NodeOrder, tests_below}
use Rattle.in_simple_deriving.specs.Heads.{last_turn}
use Rattle.in_simple_deriving.specs.Turns.{rest_of}
use Rattle.in_simple_deriving.proofs.Tests.{below_at}

below_same : (b : ℕ) (f g : ℕ → Bool) → ((m : ℕ) → m < b → f m ≡ g m) → tests_below b f ≡ tests_below b g
unfolding tests_below
below_same zero f g e = refl
below_same (suc b) f g e = ap (λ z. z ++ f b ∷ []) (below_same b f g (λ m l. e m (omega arith))) ∙ ap (λ z. tests_below b g ++ z ∷ []) (e b (omega arith))

or_more : (a b : Bool) → (a || (b || false)) ≡ (a || b)
or_more true b = refl
or_more false true = refl
or_more false false = refl

or_turn : (a b c : Bool) → (a || (b || c)) ≡ (b || (a || c))
or_turn true true c = refl
or_turn true false c = refl
or_turn false true c = refl
or_turn false false c = refl

pending_make : (ts : List Task) (t : Task) → ((m : ℕ) → pending_in (t ∷ []) m ≡ false) → (m : ℕ) → pending_in (ts ++ t ∷ []) m ≡ pending_in ts m
pending_make [] t none m = none m
pending_make (Derive c ∷ ts) t none m = ap (λ z. nodes_in c.nodes m || z) (pending_make ts t none m)
pending_make (Make j ∷ ts) t none m = pending_make ts t none m

pending_derive : (ts : List Task) (c : List Bool) (t : Task) → ((us : List Task) (m : ℕ) → pending_in (t ∷ us) m ≡ (nodes_in c m || pending_in us m)) → (m : ℕ) → pending_in (ts ++ t ∷ []) m ≡ (nodes_in c m || pending_in ts m)
pending_derive [] c t more m = more [] m
pending_derive (Derive d ∷ ts) c t more m = ap (λ z. nodes_in d.nodes m || z) (pending_derive ts c t more m) ∙ or_turn (nodes_in d.nodes m) (nodes_in c m) (pending_in ts m)
pending_derive (Make j ∷ ts) c t more m = pending_derive ts c t more m

done_more : (o : OpenNet) (ts : List Task) (t : Task) → tests_below (length o.nodes) (pending_in (ts ++ t ∷ [])) ≡ also o t (tests_below (length o.nodes) (pending_in ts))
done_more o ts (Make j) = below_same (length o.nodes) (pending_in (ts ++ Make j ∷ [])) (pending_in ts) (λ m l. pending_make ts (Make j) (λ m. refl) m)
done_more o ts (Derive c) =
    below_same (length o.nodes) (pending_in (ts ++ Derive c ∷ [])) (λ m. nodes_in c.nodes m || nodes_in (tests_below (length o.nodes) (pending_in ts)) m)
    (λ m l. pending_derive ts c.nodes (Derive c) (λ us m. refl) m ∙ ap (λ z. nodes_in c.nodes m || z) (sym (below_at (length o.nodes) (pending_in ts) m l)))

pub one_more_task : (x : NodeOrder) (n : ℕ) (ts : List Task) (t : Task) → state_of x n (ts ++ t ∷ []) ≡ with_task (state_of x n ts) t
one_more_task x n ts t = ap (λ z. record { net = x.net; node = n; turns = last_turn x n; tasks = ts ++ t ∷ []; rest = rest_of x n; done = z }) (done_more x.net ts t)
