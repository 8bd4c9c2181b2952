-- The text of a machine's net, by `in_check`'s definitions, with the names of its program, its queue, and its number of agents as the depth.
use Rattle.std.specs.Prelude.{ℕ, List, [], count_by, is_some, nat_eq, unwrap_or}
use Rattle.in_symbols.specs.Names.{name_in}
use Rattle.in_net.specs.Nets.{net_of, signature_of}
use Rattle.in_net.specs.Parts.{free_name_in}
use Rattle.in_check.specs.NetText.{Words, text}
use Rattle.in_reducer.specs.Machines.{MachineParts, parts_of}

-- the names of the symbols and of the free ends
abbrev pub words_of : MachineParts → Words
words_of m = record { symbol = λ s. name_in s m.program.tables.names; free = λ k. unwrap_or (free_name_in (parts_of m) k) [] }

-- the lines of the free ends in their order, then those of the active pairs in the order of the queue
abbrev pub text_of : MachineParts → List ℕ
text_of m = text (signature_of m.program.tables) (words_of m) nat_eq (net_of (parts_of m)) (count_by is_some m.agents) m.queue
