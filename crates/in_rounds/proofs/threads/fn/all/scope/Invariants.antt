use Rattle.std.proofs.Common.{◌≡◌, ◌+◌, ◌≤◌, List, ◌++◌, length, vec_len, vec_capacity, All}
use Rattle.in_rounds.proofs.Threading.{Mirrors, Ends}
use Rattle.in_rounds.proofs.threads.fn.all.scope.Given as goal

abbrev pub invariant-loop-part : goal.invariant-loop-part
invariant-loop-part g l = record {
  back : List g.row.P.Denot;
  others : l.initial.others.items ≡ l.others.items ++ back;
  begun : Mirrors g.W.Work.is_worked l.work.now back l.begun.items;
  ready : All (g.W.Work.is_ready l.work.now) l.others.items;
  threads : l.threads ≤ length back;
  room : vec_len l.begun + vec_len l.others ≤ vec_capacity l.begun;
}

abbrev pub decreases-loop-part : goal.decreases-loop-part
decreases-loop-part g l = vec_len l.others

abbrev pub invariant-loop-one : goal.invariant-loop-one
invariant-loop-one g l = record {
  got : List g.row.P.Denot;
  done : l.done.items ≡ l.initial.done.items ++ got;
  ends : (w : g.row.W.Denot) (all : List g.row.P.Denot) → Mirrors g.W.Work.is_worked w all l.initial.begun.items → Ends g.W.Work.is_worked w all got l.begun.items;
  room : vec_len l.done + vec_len l.begun ≤ vec_capacity l.done;
}

abbrev pub decreases-loop-one : goal.decreases-loop-one
decreases-loop-one g l = vec_len l.begun
