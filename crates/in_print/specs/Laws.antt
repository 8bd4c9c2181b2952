-- Laws over the text of a machine's net.
use Rattle.std.specs.Prelude.{◌≡◌, ℕ, List, count_by, is_some}
use Rattle.in_net.specs.Nets.{net_of, signature_of}
use Rattle.in_check.specs.NetText.{TextPart, text_parts}
use Rattle.in_check.specs.Promises.{HoldsAll}
use Rattle.in_reducer.specs.Machines.{MachineParts, parts_of}
use Rattle.in_machine.specs.Machines.{IsMachine}
use Rattle.in_reducer.specs.Same.{AreSame}
use Rattle.in_machine.specs.Texts.{words_of, text_of}

-- the text in parts: names of agents, variables, and the bytes between them
abbrev pub parts_of_text : MachineParts → List (TextPart ℕ)
parts_of_text m = text_parts (signature_of m.program.tables) (words_of m) (net_of (parts_of m)) (count_by is_some m.agents) m.queue

-- the text holds each agent once, and each variable twice: so it is deep enough
abbrev pub TextsHoldAll : Type 0
TextsHoldAll = (m : MachineParts) → IsMachine m → HoldsAll (net_of (parts_of m)) (parts_of_text m)

-- machines that are the same up to the numbers of their agents have one text
abbrev pub TextsAreSame : Type 0
TextsAreSame = (m n : MachineParts) → IsMachine m → AreSame m n → text_of m ≡ text_of n
