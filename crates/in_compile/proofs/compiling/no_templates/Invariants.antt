use Rattle.std.proofs.Common.{◌≡◌, length}
use Rattle.in_compile.proofs.compiling.no_templates.Given as goal

abbrev pub invariant-loop-place : goal.invariant-loop-place
invariant-loop-place l = length l.found ≡ l.place
