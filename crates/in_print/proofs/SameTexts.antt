-- Machines that are the same up to the numbers of their agents have one text.
use Rattle.std.proofs.Common.{◌≡◌, ℕ, zero, suc, nat_eq, Option, List, [], ◌∷◌, map, count_by, is_some, slice_get, unwrap_or, refl, sym, ap, ◌∙◌}
use Rattle.std.specs.Prelude.{option_map}
use Rattle.in_symbols.specs.Names.{name_in}
use Rattle.in_symbols.specs.Tables.{Tables}
use Rattle.in_net.specs.declared.nets.FreeEnd.{FreeEnd}
use Rattle.in_net.specs.Nets.{net_of, signature_of}
use Rattle.in_net.specs.Parts.{free_name_in}
use Rattle.in_check.specs.NetText.{Words, text}
use Rattle.in_check.proofs.Public.{nat_test, text_same}
use Rattle.in_reducer.specs.Machines.{MachineParts, parts_of}
use Rattle.in_machine.specs.Machines.{IsMachine}
use Rattle.in_reducer.specs.Same.{IsSameMachine}
use Rattle.in_reducer.proofs.Public.{agents_as_many}
use Rattle.in_machine.proofs.Public.{machine_queue, machine_promised}
use Rattle.in_machine.specs.Texts.{words_of, text_of}

named_at : (fs : List FreeEnd) (k : ℕ) → option_map (λ (f : FreeEnd). f.name) (slice_get fs k) ≡ slice_get (map (λ (f : FreeEnd). f.name) fs) k
named_at [] k = refl
named_at (f ∷ fs) zero = refl
named_at (f ∷ fs) (suc k) = named_at fs k

module _ (m n : MachineParts) (machine : IsMachine m) (f : ℕ → ℕ) (same : IsSameMachine f m n) where
  same_name : (k : ℕ) → unwrap_or (free_name_in (parts_of n) k) [] ≡ unwrap_or (free_name_in (parts_of m) k) []
  same_name k = ap (λ (o : Option (List ℕ)). unwrap_or o []) (named_at n.free k ∙ ap (λ (ns : List (List ℕ)). slice_get ns k) same.names ∙ sym (named_at m.free k))

  same_words : words_of n ≡ words_of m
  same_words = λ i. record { symbol = λ s. name_in s (same.program i).tables.names; free = λ k. same_name k i }

  same_depth : count_by is_some n.agents ≡ count_by is_some m.agents
  same_depth = sym (agents_as_many f (parts_of m) (parts_of n) same.net)

  pub same_texts : text_of m ≡ text_of n
  same_texts = sym (
      ap (λ (t : Tables). text (signature_of t) (words_of n) nat_eq (net_of (parts_of n)) (count_by is_some n.agents) n.queue) (λ i. (same.program i).tables)
      ∙ ap (λ (w : Words). text (signature_of m.program.tables) w nat_eq (net_of (parts_of n)) (count_by is_some n.agents) n.queue) same_words
      ∙ ap (λ (d : ℕ). text (signature_of m.program.tables) (words_of m) nat_eq (net_of (parts_of n)) d n.queue) same_depth
      ∙ ap (λ (q : List (ℕ × ℕ)). text (signature_of m.program.tables) (words_of m) nat_eq (net_of (parts_of n)) (count_by is_some m.agents) q) same.queue
      ∙ text_same (signature_of m.program.tables) f (net_of (parts_of m)) (net_of (parts_of n)) (machine_promised m machine).typed.0 same.net (words_of m) (count_by is_some m.agents) nat_eq nat_eq nat_test nat_test m.queue (machine_queue m machine)
      )
