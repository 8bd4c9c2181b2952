use Rattle.std.proofs.Common.{◌≡◌, ◌<◌, ◌∙◌, ℕ, List, length, get_or, ap}
use Rattle.std.proofs.lemmas.List.{get_or_default}
use Rattle.in_arena.specs.declared.content.CellNo.{CellNo}
use Rattle.in_cells.specs.Copying.{name_in}
use Rattle.in_reducer.proofs.appending.pair_named.Goals as goal

-- the number that was read in the list is the new one
read_name : (names : List CellNo) (n : ℕ) (read named : CellNo) → n < length names → read ≡ get_or names n read → named ≡ read → named.0 ≡ name_in names n
read_name names n read named lt is same = ap (λ (m : CellNo). m.0) (same ∙ is ∙ get_or_default names n read (record { 0 = 0 }) lt)

pub returns : goal.returns
returns c =
    let names = c.args.names.now in
    let q = c.args.pair in
    λ i. (
      read_name names q.0 c.index-names-pair.result c.no.result c.requires.0 c.index-names-pair.is c.no.ensures i,
      read_name names q.1 c.index-names-pair-2.result c.no-2.result c.requires.1 c.index-names-pair-2.is c.no-2.ensures i,
    )
