use Rattle.in_rounds.proofs.WhileLent as lending
use Rattle.in_rounds.proofs.stitching.put_back.Goals as goal

pub returns-clause-all : goal.returns-clause-all
returns-clause-all c =
    let r = c.args.body.now in
    let b = c.spend.new.arena in
    let back = c.spend.ensures in
    lending.keeps_all r b back.memory back.cells back.count (lending.back_alike r.arena b c.args.done.placed.placed.bag c.requires.of back) c.requires.all

pub returns-clause-same : goal.returns-clause-same
returns-clause-same c =
    let r = c.args.body.now in
    let b = c.spend.new.arena in
    let back = c.spend.ensures in
    lending.view_same r b back.memory back.cells back.count (lending.back_alike r.arena b c.args.done.placed.placed.bag c.requires.of back)

pub returns-clause-settled : goal.returns-clause-settled
returns-clause-settled c = lending.back_settled c.args.body.now.arena c.spend.new.arena c.args.done.placed.placed.bag c.requires.of c.spend.ensures
