use Rattle.std.proofs.Common.{◌∙◌, sym}
use Rattle.in_arena.proofs.Inside.{all_words_here}
use Rattle.in_arena.proofs.arena.Arena.drop.Goals as goal

pub deallocate-requires : goal.deallocate-requires
deallocate-requires c =
    let a = c.self.inside in let h = c.self.invariant in
    (h.block.0, h.whole.long ∙ sym c.words_of.ensures, all_words_here a h c.args.self c.self.view_is c.requires, h.block.1, h.block.2 ∙ sym c.words_of.ensures, h.block.3)
