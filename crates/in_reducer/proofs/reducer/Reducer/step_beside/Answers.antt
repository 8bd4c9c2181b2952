use Rattle.std.proofs.Common.{◌≡◌, ℕ, length, sym, ap, subst, ◌∙◌, arith}
use Rattle.in_arena.specs.Arenas.{ArenaView}
use Rattle.in_compile.specs.Cells.{count_of}
use Rattle.in_compile.specs.Members.{MemberParts}
use Rattle.in_compile.specs.Placing.{PlacedParts}
use Rattle.in_reducer.specs.Inside.{KeepsNet, over}
use Rattle.in_reducer.specs.Machines.{MachineParts}
use Rattle.in_compile.specs.Putting.{IsPut}
use Rattle.in_reducer.specs.Placed.{IsNoneOf}
use Rattle.in_reducer.specs.Steps.{HasRoomAt, StepsAt}
use Rattle.in_reducer.specs.Templates.{IsTemplateAt}
use Rattle.in_reducer.proofs.Steps.Stepped as stepped
use Rattle.in_reducer.proofs.Steps.Laid as laid
use Rattle.in_reducer.proofs.Steps.StillNet as still
use Rattle.in_reducer.proofs.reducer.Reducer.step_beside.Goals as goal

pub put-requires-clause-free : goal.put-requires-clause-free
put-requires-clause-free c class =
    let k = c.self.invariant in
    let at = subst (λ (m : MachineParts). IsTemplateAt m c.args.number c.args.template.now) (sym c.self.view_is) c.requires.at in
    let room = subst (λ (m : MachineParts). HasRoomAt m c.args.number) (sym c.self.view_is) c.requires.room in
    let enough = stepped.enough c.self.inside.body k.all.net c.args.number c.args.template.now at k.none room class in
    let same = ap (λ (m : MemberParts). count_of m.need class) c.member.ensures in
    omega (arith, enough, same)

pub put-requires-clause-room : goal.put-requires-clause-room
put-requires-clause-room c =
    let k = c.self.invariant in
    let at = subst (λ (m : MachineParts). IsTemplateAt m c.args.number c.args.template.now) (sym c.self.view_is) c.requires.at in
    let few = stepped.few_agents c.self.inside.body k.all.net c.args.number c.args.template.now at in
    let room = k.all.tools.room in
    let same = ap (λ (m : MemberParts). length m.agents) c.member.ensures in
    omega (arith, few, room, same)

pub finish-requires-clause-beside : goal.finish-requires-clause-beside
finish-requires-clause-beside c =
    let r = c.self.inside.body in
    let at = subst (λ (m : MachineParts). IsTemplateAt m c.args.number c.args.template.now) (sym c.self.view_is) c.requires.at in
    let room = subst (λ (m : MachineParts). HasRoomAt m c.args.number) (sym c.self.view_is) c.requires.room in
    let k = c.self.invariant.all.net in
    let net : KeepsNet (over r.arena (record { checked = r.checked; arena = c.put.new.arena; free = r.free; ends = r.ends; queue = r.queue; tools = record { placed = c.put.new.self; made = r.tools.made; points = r.tools.points } })) = record { reducer = k.reducer; net = k.net; few = k.few; few_free = k.few_free; free = k.free; ends = k.ends; queue = k.queue } in
    (r.arena, record { net = net; at = at; room = room; put = subst (λ (m : MemberParts). IsPut m c.put.new.self.cells r.arena c.put.new.arena) c.member.ensures c.put.ensures.put })

steps_there : (m n o : MachineParts) (i : ℕ) → m ≡ n → StepsAt m i o → StepsAt n i o
steps_there m n o i same h = subst (λ (z : MachineParts). StepsAt z i o) same h

pub returns : goal.returns
returns c =
    let r = c.self.inside.body in
    let at = subst (λ (m : MachineParts). IsTemplateAt m c.args.number c.args.template.now) (sym c.self.view_is) c.requires.at in
    let room = subst (λ (m : MachineParts). HasRoomAt m c.args.number) (sym c.self.view_is) c.requires.room in
    let k = c.self.invariant.all.net in
    let net : KeepsNet (over r.arena (record { checked = r.checked; arena = c.put.new.arena; free = r.free; ends = r.ends; queue = r.queue; tools = record { placed = c.put.new.self; made = r.tools.made; points = r.tools.points } })) = record { reducer = k.reducer; net = k.net; few = k.few; few_free = k.few_free; free = k.free; ends = k.ends; queue = k.queue } in
    steps_there _ _ _ c.args.number c.self.view_is
    (c.finish.ensures.steps r.arena (record { net = net; at = at; room = room; put = subst (λ (m : MemberParts). IsPut m c.put.new.self.cells r.arena c.put.new.arena) c.member.ensures c.put.ensures.put }))

pub invariant_of-self : goal.invariant_of-self
invariant_of-self c =
    let r = c.self.inside.body in
    let k = c.self.invariant in
    let at = subst (λ (m : MachineParts). IsTemplateAt m c.args.number c.args.template.now) (sym c.self.view_is) c.requires.at in
    let old = c.put.new.arena in
    let new = c.finish.new.self in
    let alike = c.finish.ensures.leased in
    let tools = c.finish.ensures.tools in
    let put = subst (λ (m : MemberParts). IsPut m c.put.new.self.cells r.arena old) c.member.ensures c.put.ensures.put in
    let placed : new.tools.placed.bag ≡ r.tools.placed.bag = ap (λ (p : PlacedParts). p.bag) tools.placed ∙ c.put.ensures.same.0 in
    let memory = alike.memory ∙ put.memory in
    let cells = alike.cells ∙ put.cells in
    record {
      all = record {
        net = c.finish.ensures.net;
        tools = record {
          placed = subst (λ (b : ArenaView). IsNoneOf b new.arena) (sym placed) (still.none_there r.tools.placed.bag r.arena new.arena memory cells k.all.tools.placed);
          room = (let e = ap (λ (p : PlacedParts). p.room) tools.placed in let f = c.put.ensures.same.1 in let g = k.all.tools.room in omega (arith, e, f, g));
          made = tools.made;
          made_room = (let e = tools.made_room in let g = k.all.tools.made_room in omega (arith, e, g));
          points = (let e = ap (λ v. length v.items) tools.points in let g = k.all.tools.points in omega (arith, e, g));
        };
      };
      none = still.still_unleased old new.arena alike
          (still.begun_unleased r.checked.now.program.tables at.rule.member at.is_rule.over.member c.args.template.now.member at.template.member c.put.new.self.cells r.arena old
          (laid.begun_of r.checked.now.program.tables at.rule.member at.is_rule.over.member c.args.template.now.member at.template.member c.put.new.self.cells r.arena old put) k.none);
    }
