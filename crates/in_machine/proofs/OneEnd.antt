-- A machine without active pairs is the only end of its program.
use Rattle.std.proofs.Common.{◌≡◌, ℕ, zero, suc, nat_eq, List, [], ◌∷◌, map, length, count_by, is_some, unwrap_or, slice_get, refl, sym, ap, ◌∙◌}
use Rattle.std.proofs.lemmas.Option.{slice_get-map}
use mathlib.Core.Path.{fun_ext}
use Rattle.in_symbols.specs.Names.{name_in}
use Rattle.in_net.specs.declared.nets.FreeEnd.{FreeEnd}
use Rattle.in_net.specs.Nets.{Net, net_of, signature_of}
use Rattle.in_net.specs.Parts.{Parts, free_name_in}
use Rattle.in_check.specs.NetText.{Words, text, IsQueue}
use Rattle.in_check.specs.Runs.{HasEnded}
use Rattle.in_reducer.specs.Machines.{MachineParts, parts_of}
use Rattle.in_machine.specs.Machines.{IsMachine}
use Rattle.in_reducer.specs.Runs.{Runs, at_start, then_step}
use Rattle.in_reducer.proofs.Public.{agent_numbers, as_many}
use Rattle.in_machine.proofs.StepsOn.{machine_queue}
use Rattle.in_machine.specs.Texts.{words_of, text_of}
use Rattle.in_machine.proofs.ListedAgents.{agents_listed}
use Rattle.in_order.specs.Ends.{words_in}
use Rattle.in_order.proofs.Public.{programs_have_one_end}
use Rattle.in_machine.specs.MachineLaws.{NormalEndsAreOne}

-- a net whose queue is empty has no active pair
ended_by : (n : Net ℕ) (queue : List (ℕ × ℕ)) → IsQueue n queue → queue ≡ [] → HasEnded n
ended_by n [] h same = record { no_pair = λ x y e. h.all x y e }
ended_by n (q ∷ qs) h same = absurd (let wrong : ◌≡◌ {A = List (ℕ × ℕ)} (q ∷ qs) [] = same in cc)

-- free ends of the same names
pub free_names : (n m : Parts) → map (λ f. f.name) n.free ≡ map (λ f. f.name) m.free → (k : ℕ) → free_name_in n k ≡ free_name_in m k
free_names n m e k =
    sym (slice_get-map (λ (f : FreeEnd). f.name) n.free k) ∙ ap (λ ns. slice_get ns k) e ∙ slice_get-map (λ (f : FreeEnd). f.name) m.free k

-- a machine's words are its program's
same_words : (m : MachineParts) → IsMachine m → words_of m ≡ words_in m.program
same_words m h =
    ap (λ f. let w : Words = record { symbol = λ s. name_in s m.program.tables.names; free = f } in w)
    (fun_ext (λ k. ap (λ o. unwrap_or o []) (free_names (parts_of m) m.program.net h.plain.names k)))

-- the text of a machine without pairs
abbrev last_text : MachineParts → List ℕ
last_text m = text (signature_of m.program.tables) (words_in m.program) nat_eq (net_of (parts_of m)) (length (agent_numbers m.agents)) []

same_text : (m : MachineParts) → IsMachine m → m.queue ≡ [] → text_of m ≡ last_text m
same_text m h none =
    ap (λ w. text (signature_of m.program.tables) w nat_eq (net_of (parts_of m)) (count_by is_some m.agents) m.queue) (same_words m h)
    ∙ ap (λ d. text (signature_of m.program.tables) (words_in m.program) nat_eq (net_of (parts_of m)) d m.queue) (sym (as_many m.agents))
    ∙ ap (λ q. text (signature_of m.program.tables) (words_in m.program) nat_eq (net_of (parts_of m)) (length (agent_numbers m.agents)) q) none

pub normal_ends_are_one : NormalEndsAreOne
normal_ends_are_one m k h reached none =
    let ended = ended_by (net_of (parts_of m)) m.queue (machine_queue m h) none in
    programs_have_one_end h.accepted.0 h.accepted.1 m.program h.accepted.2 k (text_of m) (record {
      net = net_of (parts_of m);
      reached = reached;
      ended = ended;
      agents = agent_numbers m.agents;
      are_agents = agents_listed m;
      is_text = same_text m h none;
    })

pub program_kept : (m n : MachineParts) (k : ℕ) → Runs m k n → n.program ≡ m.program
program_kept m n zero (at_start _) = refl
program_kept m o (suc k) (then_step _ n _ _ before s) = s.step.program ∙ program_kept m n k before
