use Rattle.std.proofs.Common.{arith}
use Rattle.in_compile.proofs.laws.leasing_keeps_all.Goals as goal

pub returns : goal.returns
returns c = λ count a b a2 b2 d h. (let l = h.left d in let m = h.more d in omega (arith, l, m))
