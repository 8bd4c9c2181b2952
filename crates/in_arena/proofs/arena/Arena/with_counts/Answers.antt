use Rattle.std.proofs.Common.{◌∙◌, Some, None, ap, refl, replicate}
use Rattle.in_arena.specs.FreeLists.{list_in}
use Rattle.in_arena.specs.Words.{Word}
use Rattle.in_arena.proofs.Inside.{new_free, new_states, new_whole}
use Rattle.in_arena.proofs.arena.Arena.with_counts.Goals as goal

pub invariant_of-result : goal.invariant_of-result
invariant_of-result c =
    let made = c.in_ok-base.ensures in let cells = c.args.cells in let ws = c.in_ok-base.words.slots in
    let new = made.1 ∙ ap (λ n. replicate n (let w : Word = Some None in w)) c.words_of-len.ensures in
    record {
      few = c.requires;
      block = (made.0, made.2, made.3 ∙ c.words_of-len.ensures, made.4);
      starts = c.in_row.ensures;
      whole = new_whole cells ws new;
      free = λ k. new_free cells ws k (list_in c.unused.result k) new (c.unused.ensures k);
    }

pub returns : goal.returns
returns c = (refl, new_states c.in_ok-base.words.at c.args.cells c.in_ok-base.words.slots (c.in_ok-base.ensures.1 ∙ ap (λ n. replicate n (let w : Word = Some None in w)) c.words_of-len.ensures))
