use Rattle.std.proofs.Common.{◌≡◌, drop}
use Rattle.in_net.specs.Reading.{reads_free_from, reads_free}
use Rattle.in_net.proofs.reading.read_free.Given as goal

abbrev pub invariant-loop-number : goal.invariant-loop-number
invariant-loop-number l = reads_free_from l.number (drop l.number l.free) l.reading ≡ reads_free l.free
