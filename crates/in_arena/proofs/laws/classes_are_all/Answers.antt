use Rattle.std.proofs.Common.{⊎_elim, arith}
use Rattle.std.proofs.lemmas.Bool.{cases_lt}
use Rattle.in_arena.specs.declared.content.CellClass.TheVariants.{Small, Large, Wide}
use Rattle.in_arena.proofs.laws.classes_are_all.Goals as goal

pub returns : goal.returns
returns c = λ n one most. ⊎_elim
    (λ few. (Small, (one, omega (arith, few))))
    (λ more. ⊎_elim (λ many. (Large, (more, omega (arith, many)))) (λ most_of_all. (Wide, (most_of_all, most))) (cases_lt n 10))
    (cases_lt n 4)
