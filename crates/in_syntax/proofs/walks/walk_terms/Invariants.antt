use Rattle.std.proofs.Common.{◌≡◌, drop, map}
use Rattle.in_syntax.specs.Walks.{walks_term, walks_terms, walks_from}
use Rattle.in_syntax.proofs.walks.walk_terms.Given as goal

abbrev pub invariant-loop-number : goal.invariant-loop-number
invariant-loop-number g l =
    let v = g.V.Visitor.visits in
    walks_from v l.of l.number (map (walks_term v) (drop l.number l.terms)) l.visitor ≡ walks_terms v l.of l.terms l.fn.visitor
