use Rattle.std.proofs.Common.{◌≡◌, ◌≤◌, length, sym, ap, subst, ◌∙◌, arith}
use Rattle.in_syntax.specs.TextLimits.{most_member_agents}
use Rattle.in_compile.specs.Members.{IsSoundMember}
use Rattle.in_compile.specs.Placing.{PlacedParts}
use Rattle.in_compile.specs.Templates.{TemplateParts}
use Rattle.in_reducer.specs.declared.body.Body.{Body}
use Rattle.in_reducer.specs.declared.tools.Tools.{Tools}
use Rattle.in_reducer.specs.Inside.{StandsBeside}
use Rattle.in_reducer.specs.Placed.{IsNoneOf}
use Rattle.in_reducer.proofs.Steps.Besides as besides
use Rattle.in_reducer.proofs.Steps.StillNet as still
use Rattle.in_reducer.proofs.body.Body.stitch.Goals as goal

pub finish-requires-clause-beside : goal.finish-requires-clause-beside
finish-requires-clause-beside c =
    let r = c.args.self.now in
    let p = c.args.done.template in
    let same : c.template-template.result.now ≡ p = c.template-template.ensures in
    let sound = subst IsSoundMember (c.member.ensures ∙ ap (λ (z : TemplateParts). z.member) same) c.is_sound.ensures in
    let x : Tools = record { placed = c.replace-own.new.dest; made = r.tools.made; points = r.tools.points } in
    let o : Body = record { checked = r.checked; arena = c.settle-settled.new.arena; free = r.free; ends = r.ends; queue = r.queue; tools = x } in
    let cells = ap (λ (z : PlacedParts). z.cells) c.replace-own.ensures.after ∙ c.settle-settled.ensures.numbers.0 in
    (r.arena, subst (StandsBeside o r.arena 0) (sym same) (besides.stands_beside r c.requires.all.net 0 p c.requires.template sound c.args.done.placed c.is_of_template.ensures c.requires.of c.settle-settled.new.arena c.settle-settled.ensures.arena x cells))

pub returns-clause-steps : goal.returns-clause-steps
returns-clause-steps c =
    let r = c.args.self.now in
    let p = c.args.done.template in
    let same : c.template-template.result.now ≡ p = c.template-template.ensures in
    let sound = subst IsSoundMember (c.member.ensures ∙ ap (λ (z : TemplateParts). z.member) same) c.is_sound.ensures in
    let x : Tools = record { placed = c.replace-own.new.dest; made = r.tools.made; points = r.tools.points } in
    let o : Body = record { checked = r.checked; arena = c.settle-settled.new.arena; free = r.free; ends = r.ends; queue = r.queue; tools = x } in
    let cells = ap (λ (z : PlacedParts). z.cells) c.replace-own.ensures.after ∙ c.settle-settled.ensures.numbers.0 in
    c.finish.ensures.steps r.arena (subst (StandsBeside o r.arena 0) (sym same) (besides.stands_beside r c.requires.all.net 0 p c.requires.template sound c.args.done.placed c.is_of_template.ensures c.requires.of c.settle-settled.new.arena c.settle-settled.ensures.arena x cells))

-- the tools hold nothing, as before: the worker's cells are the arena's, and its list of them goes
pub returns-clause-all : goal.returns-clause-all
returns-clause-all c =
    let r = c.args.self.now in
    let k = c.requires.all in
    let n = c.finish.new.self in
    let net = c.finish.ensures.net in
    let tools = c.finish.ensures.tools in
    let memory = c.finish.ensures.leased.memory ∙ c.settle-settled.ensures.arena.memory in
    let cells = c.finish.ensures.leased.cells ∙ c.settle-settled.ensures.arena.cells in
    let placed : c.replace-own.result ≡ r.tools.placed = c.replace-own.ensures.value in
    record {
      net = record { reducer = net.reducer; net = net.net; few = net.few; few_free = net.few_free; free = net.free; ends = net.ends; queue = net.queue };
      tools = record {
        placed = subst (λ (p : PlacedParts). IsNoneOf p.bag n.arena) (sym placed) (still.none_there r.tools.placed.bag r.arena n.arena memory cells k.tools.placed);
        room = subst (λ (p : PlacedParts). most_member_agents ≤ p.room) (sym placed) k.tools.room;
        made = tools.made;
        made_room = (let e = tools.made_room in let g = k.tools.made_room in omega (arith, e, g));
        points = (let e = ap (λ v. length v.items) tools.points in let g = k.tools.points in omega (arith, e, g));
      };
    }
