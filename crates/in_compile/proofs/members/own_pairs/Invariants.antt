use Rattle.std.proofs.Common.{◌≤◌, length}
use Rattle.in_interaction.proofs.Public.{AreFirst}
use Rattle.in_compile.proofs.members.own_pairs.Given as goal

abbrev pub invariant-loop-wire : goal.invariant-loop-wire
invariant-loop-wire l = record { few : length l.pairs ≤ l.wire; pairs : AreFirst l.symbols l.net l.wire l.pairs }
