use Rattle.std.proofs.Common.{◌≡◌, ◌≤◌, ◌+◌, ◌++◌, [], ◌∷◌, length, slice_index_or, sym, ap, subst, ◌∙◌}
use Rattle.in_net.specs.ActivePairs.{IsActivePair, JoinsAgents}
use Rattle.in_net.specs.declared.nets.AgentNo.{AgentNo}
use Rattle.in_net.specs.Parts.{Parts}
use Rattle.in_interaction.specs.Following.{SiteParts, IsSite}
use Rattle.in_interaction.specs.Interacting.{unused}
use Rattle.in_interaction.proofs.Queues.OwnPairs.{AddsBelow, adds_no_more, adds_one_more, adds_all, name_read}
use Rattle.in_interaction.proofs.following.Site.add_own.Goals as goal
use Rattle.in_interaction.proofs.following.Site.add_own.Goals.{in-Some+in_ok-push, in_default}

pub loop-wire-preserved : goal.loop-wire-preserved
loop-wire-preserved c =
    let t = c.args.symbols.now in
    let s = c.args.self.now in
    let w = c.loop-wire.wire in
    let before = c.args.pairs.now.items in
    let site = subst IsSite c.self.view_is c.self.invariant in
    let member : c.member-right.result.now ≡ s.rule.member = c.member-right.ensures ∙ ap (λ (s : SiteParts). s.rule.member) c.self.view_is in
    let names : c.self.inside.names.now ≡ s.names = ap (λ (s : SiteParts). s.names) c.self.view_is in
    elim c.match-pair_of_wire.branch [
      | in-Some+in_ok-push b ↦
          let q : AgentNo × AgentNo = (b.in-Some.one, b.in-Some.other) in
          let told = b.in-Some.ensures {u = tt} in
          let active : IsActivePair t s.rule.member q = subst (λ (m : Parts). IsActivePair t m q) member told.0 in
          let joins : JoinsAgents s.rule.member w q = subst (λ (m : Parts). JoinsAgents m w q) member told.1 in
          let one = name_read s site q.0 active.first active.one c.self.inside.names.now names in
          let two = name_read s site q.1 active.second active.two c.self.inside.names.now names in
          let added = adds_one_more t s w before c.loop-wire.pairs.items c.loop-wire.invariant site.member q active joins in
          let pair =
          ap (λ (x : AgentNo). let z : AgentNo × AgentNo = (x, slice_index_or c.self.inside.names.now b.in-Some.other.0 (record { 0 = 0 })) in z) one
          ∙ ap (λ (y : AgentNo). let z : AgentNo × AgentNo = (record { 0 = unused s.net.cells b.in-Some.one.0 }, y) in z) two in
          subst (λ v. AddsBelow t s (w + 1) before v.items) (sym b.pairs-is)
          (subst (AddsBelow t s (w + 1) before) (sym ((b.in_ok-push.ensures {u = tt}).ok ∙ ap (λ (z : AgentNo × AgentNo). c.loop-wire.pairs.items ++ z ∷ []) pair)) added)
      | in_default b ↦
          let none = b.in_default.ensures {u = tt} in
          subst (λ v. AddsBelow t s (w + 1) before v.items) (sym b.pairs-is)
          (adds_no_more t s w before c.loop-wire.pairs.items c.loop-wire.invariant (λ q j. none q (subst (λ (m : Parts). JoinsAgents m w q) (sym member) j)))
    ]

pub returns : goal.returns
returns c =
    let s = c.args.self.now in
    let site = subst IsSite c.self.view_is c.self.invariant in
    let last : length s.rule.member.wires ≤ c.loop-wire.wire =
    subst (λ k. k ≤ c.loop-wire.wire) (c.wires-wire-end.ensures ∙ ap (λ (m : Parts). length m.wires) (c.member-right.ensures ∙ ap (λ (s : SiteParts). s.rule.member) c.self.view_is)) c.loop-wire-test.false in
    adds_all c.args.symbols.now s c.loop-wire.wire c.args.pairs.now.items c.loop-wire.pairs.items c.loop-wire.invariant site.member last
