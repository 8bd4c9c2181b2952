use Rattle.std.proofs.Common.{length, refl}
use Rattle.in_reducer.specs.Inside.{reducer_view}
use Rattle.in_reducer.specs.Machines.{parts_of}
use Rattle.in_reducer.proofs.Cells.Looked.{have_symbols}
use Rattle.in_reducer.proofs.body.Body.heads.Goals as goal
use Rattle.std.proofs.lemmas.Option.{slice_get_read}

pub symbol-requires : goal.symbol-requires
symbol-requires c =
    let r = c.args.self.now in
    let q = c.at-one.result in
    (have_symbols r.checked.now.program.tables (parts_of (reducer_view r)) q (c.requires.net.reducer.queue.pairs c.args.number q (slice_get_read r.queue.items (length r.queue.items) c.args.number q refl c.requires.pair c.at-one.ensures))).0

pub symbol-requires-2 : goal.symbol-requires-2
symbol-requires-2 c =
    let r = c.args.self.now in
    let q = c.at-one.result in
    (have_symbols r.checked.now.program.tables (parts_of (reducer_view r)) q (c.requires.net.reducer.queue.pairs c.args.number q (slice_get_read r.queue.items (length r.queue.items) c.args.number q refl c.requires.pair c.at-one.ensures))).1

pub returns : goal.returns
returns c = record {
  pair = c.at-one.result;
  stands = slice_get_read c.args.self.now.queue.items (length c.args.self.now.queue.items) c.args.number c.at-one.result refl c.requires.pair c.at-one.ensures;
  one = c.symbol.ensures;
  two = c.symbol-2.ensures;
}
