use Rattle.std.proofs.Common.{◌∙◌, length, sym, subst, ap}
use Rattle.in_open_nets.specs.Members.{IsUnion, marked}
use Rattle.in_open_nets.proofs.PartsOf.Marks.{marked_many}
use Rattle.in_open_nets.proofs.scratch.Scratch.insert_all.Goals as goal

pub mark_all-self-inside-requires-clause-size : goal.mark_all-self-inside-requires-clause-size
mark_all-self-inside-requires-clause-size c = c.requires ∙ sym (ap length c.self.view_is) ∙ marked_many c.self.inside.last c.self.inside.marks

pub returns-clause-size : goal.returns-clause-size
returns-clause-size c =
    let s = c.self.inside in
    marked_many s.last c.mark_all-self-inside.new.marks ∙ c.mark_all-self-inside.ensures.size ∙ sym (marked_many s.last s.marks) ∙ ap length c.self.view_is

pub returns-clause-union : goal.returns-clause-union
returns-clause-union c = subst (λ z. IsUnion c.args.list.now z (marked c.self.inside.last c.mark_all-self-inside.new.marks)) c.self.view_is c.mark_all-self-inside.ensures.union
