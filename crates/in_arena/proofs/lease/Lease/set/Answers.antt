use Rattle.std.proofs.Common.{◌<◌, ◌∙◌, sym, subst, ap, set}
use Rattle.in_arena.specs.Arenas.{LeaseView}
use Rattle.in_arena.specs.FreeLists.{state_in, state_of}
use Rattle.in_arena.specs.Classes.{width}
use Rattle.in_arena.specs.States.{places, with_end}
use Rattle.in_arena.specs.Words.{Content}
use Rattle.in_arena.proofs.FreeLists.{end_written, place_within}
use Rattle.in_arena.proofs.Inside.{lease_long, lease_rewrites, lease_written}
use Rattle.in_arena.proofs.lease.Lease.set.Goals as goal

pub set_end-requires-clause-place : goal.set_end-requires-clause-place
set_end-requires-clause-place c =
    let l = c.self.inside in let k = c.self.invariant in let x = k.content in
    place_within x.count x.word x.ends c.args.place (width l.spot.class) (subst (λ z. c.args.place < places z) (ap (λ (m : LeaseView). m.state) (sym c.self.view_is) ∙ ap state_of k.cell) c.requires.place) k.room (sym (lease_long l k x k.cell))

pub invariant_of-self : goal.invariant_of-self
invariant_of-self c =
    let l = c.self.inside in let k = c.self.invariant in
    let x : Content = record { word = k.content.word; count = k.content.count; ends = set k.content.ends c.args.place c.of.result } in
    lease_rewrites l k c.set_end.new.words x (c.set_end.ensures k.content k.cell) k.room

pub returns : goal.returns
returns c =
    let l = c.self.inside in let k = c.self.invariant in let p = c.args.place in
    let x : Content = record { word = k.content.word; count = k.content.count; ends = set k.content.ends p c.of.result } in
    lease_written l c.args.self.now c.set_end.new.words x (with_end c.args.self.now.state p c.args.end) c.self.view_is (c.set_end.ensures k.content k.cell)
    (end_written k.content.word k.content.count k.content.ends p c.of.result ∙ ap (λ e. with_end (state_in k.content) p e) c.of.ensures ∙ ap (λ s. with_end s p c.args.end) (sym (ap state_of k.cell) ∙ ap (λ (m : LeaseView). m.state) c.self.view_is))
