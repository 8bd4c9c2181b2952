use Rattle.std.proofs.Common.{List, [], ◌∷◌, ◌++◌, ap, ◌∙◌, arith}
use Rattle.std.proofs.lemmas.List.{replicate_more}
use Rattle.in_rounds.specs.declared.gather.JobState.{JobState}
use Rattle.in_rounds.specs.declared.gather.JobState.TheVariants.{Fresh}
use Rattle.in_rounds.proofs.gather.fresh.Goals as goal

pub loop-made-preserved : goal.loop-made-preserved
loop-made-preserved c =
    let v = c.loop-made.invariant in
    record {
      made = c.push_reserved.ensures.items ∙ ap (λ (l : List JobState). l ++ Fresh ∷ []) v.made ∙ replicate_more c.loop-made._made Fresh;
      room = omega (arith, v.room, c.push_reserved.ensures.capacity);
    }
