use Rattle.std.proofs.Common.{◌+◌, map, reverse, sym, ap, ◌∙◌}
use Rattle.in_print.specs.Points.{point_at}
use Rattle.in_print.specs.Writings.{number_at, met_after}
use Rattle.in_print.proofs.Numbering.{later, known_number, new_number, later_none, unlisted}
use Rattle.in_print.proofs.numbers.Numbers.number.Goals as goal

pub returns-in-Some-clause-number : goal.returns-in-Some-clause-number
returns-in-Some-clause-number c =
    let is = (λ i. later (sym c.get_index_of.ensures.index i) (sym c.get_index_of-2.ensures.index i)) ∙ sym c.max-known.ensures ∙ c.in-Some.is in
    (known_number c.args.end c.args.partner c.self.inside.met.keys c.len-count.ensures.unique c.in-Some.index is).0
    ∙ ap (λ met. number_at met (point_at c.args.end) (point_at c.args.partner)) c.self.view_is

pub returns-in-Some-clause-met : goal.returns-in-Some-clause-met
returns-in-Some-clause-met c =
    let is = (λ i. later (sym c.get_index_of.ensures.index i) (sym c.get_index_of-2.ensures.index i)) ∙ sym c.max-known.ensures ∙ c.in-Some.is in
    sym c.self.view_is ∙ (known_number c.args.end c.args.partner c.self.inside.met.keys c.len-count.ensures.unique c.in-Some.index is).1
    ∙ ap (λ met. met_after met (point_at c.args.end) (point_at c.args.partner)) c.self.view_is

pub returns-in_ok-insert-in-None-clause-number : goal.returns-in_ok-insert-in-None-clause-number
returns-in_ok-insert-in-None-clause-number c =
    let is = (λ i. later (sym c.get_index_of.ensures.index i) (sym c.get_index_of-2.ensures.index i)) ∙ sym c.max-known.ensures ∙ c.in-None.is in
    ap (λ n. n + 1) c.len-count.ensures.len ∙ (new_number c.args.end c.args.partner c.self.inside.met.keys c.len-count.ensures.unique is).0
    ∙ ap (λ met. number_at met (point_at c.args.end) (point_at c.args.partner)) c.self.view_is

pub returns-in_ok-insert-in-None-clause-met : goal.returns-in_ok-insert-in-None-clause-met
returns-in_ok-insert-in-None-clause-met c =
    let is = (λ i. later (sym c.get_index_of.ensures.index i) (sym c.get_index_of-2.ensures.index i)) ∙ sym c.max-known.ensures ∙ c.in-None.is in
    let new = unlisted c.args.end c.self.inside.met.keys (sym c.get_index_of.ensures.index ∙ later_none c.get_index_of.result c.get_index_of-2.result (sym c.max-known.ensures ∙ c.in-None.is)) in
    ap (λ ks. reverse (map point_at ks)) (c.in_ok-insert-in-None.ensures.keys ∙ new)
    ∙ (new_number c.args.end c.args.partner c.self.inside.met.keys c.len-count.ensures.unique is).1
    ∙ ap (λ met. met_after met (point_at c.args.end) (point_at c.args.partner)) c.self.view_is
