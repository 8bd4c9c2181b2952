use Rattle.in_rounds.specs.Gathers.{bags_of}
use Rattle.in_rounds.proofs.WhileLent as lending
use Rattle.in_rounds.proofs.stitching.give_back.Goals as goal

pub returns-clause-kept : goal.returns-clause-kept
returns-clause-kept c =
    let r = c.args.body.now in
    let b = c.spend.new.arena in
    let back = c.spend.ensures in
    let each = lending.all_alike (bags_of c.args.gather.slots) r.arena b c.requires.lent back in
    record {
      all = lending.keeps_all r b back.memory back.cells back.count each c.requires.all;
      none = lending.none_left (bags_of c.args.gather.slots) r.arena b c.requires.lent back;
    }

pub returns-clause-same : goal.returns-clause-same
returns-clause-same c =
    let r = c.args.body.now in
    let b = c.spend.new.arena in
    let back = c.spend.ensures in
    lending.view_same r b back.memory back.cells back.count (lending.all_alike (bags_of c.args.gather.slots) r.arena b c.requires.lent back)
