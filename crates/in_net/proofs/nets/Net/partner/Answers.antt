use Rattle.std.proofs.Common.{◌≡◌, ◌<◌, ℕ, List, Option, Some, None, length, slice_get, slice_index_or, refl, sym, ap, subst, ◌∙◌}
use Rattle.std.specs.Prelude.{IsSomeAnd, option_and_then}
use Rattle.std.proofs.lemmas.Option.{get_or_from_slice_get}
use Rattle.in_base.proofs.Each.{at_index}
use Rattle.in_net.specs.Parts.{Parts, IsPointOf, partner_in}
use Rattle.in_net.specs.declared.nets.Cell.{Cell}
use Rattle.in_net.specs.declared.nets.Point.{Point}
use Rattle.in_net.specs.declared.nets.Point.TheVariants.{Port}
use Rattle.in_net.proofs.Texts.Lists.{there_read, cell_within}
use Rattle.in_base.proofs.Places.{some_same}
use Rattle.in_net.proofs.nets.Net.partner.Goals as goal

-- the agent that a port is of
port_at : (cs : List (Option Cell)) (x i : ℕ) → IsSomeAnd (option_and_then (λ (c : Option Cell). c) (slice_get cs x)) (λ c. i < length c.ends) →
    (c : Cell) × (option_and_then (λ (c : Option Cell). c) (slice_get cs x) ≡ Some c) × (i < length c.ends)
port_at cs x i h = go (option_and_then (λ (c : Option Cell). c) (slice_get cs x)) refl h
  where
    go : (o : Option Cell) → option_and_then (λ (c : Option Cell). c) (slice_get cs x) ≡ o → IsSomeAnd o (λ c. i < length c.ends) →
        (c : Cell) × (option_and_then (λ (c : Option Cell). c) (slice_get cs x) ≡ Some c) × (i < length c.ends)
    go None is h = absurd h
    go (Some c) is h = (c, is, h)

-- reading at an index in range
read_at : (ps : List Point) (i : ℕ) (d : Point) → i < length ps → slice_get ps i ≡ Some (slice_index_or ps i d)
read_at ps i d lt = let q = at_index ps i lt in q.1 ∙ ap (λ (p : Point). Some p) (sym (get_or_from_slice_get ps i q.0 d q.1))

pub bounds-as_slice-agent : goal.bounds-as_slice-agent
bounds-as_slice-agent c =
    let n = c.args.self.now in
    let at = c.in-Port in
    let listed : c.as_slice.result.now ≡ n.cells = c.as_slice.ensures ∙ ap (λ (m : Parts). m.cells) c.self.view_is in
    let is = port_at n.cells at.agent.0 at.place (subst (IsPointOf n) at.is c.requires) in
    subst (λ (cs : List (Option Cell)). at.agent.0 < length cs) (sym listed) (cell_within n.cells at.agent.0 is.0 is.1)

pub bounds-as_slice-place : goal.bounds-as_slice-place
bounds-as_slice-place c =
    let n = c.args.self.now in
    let at = c.in-Port in
    let o = c.index-as_slice-agent.result in
    let listed : c.as_slice.result.now ≡ n.cells = c.as_slice.ensures ∙ ap (λ (m : Parts). m.cells) c.self.view_is in
    let is = port_at n.cells at.agent.0 at.place (subst (IsPointOf n) at.is c.requires) in
    let read = there_read n.cells at.agent.0 o is.0 is.1 (subst (λ (cs : List (Option Cell)). o ≡ slice_index_or cs at.agent.0 o) listed c.index-as_slice-agent.is) in
    let same : is.0 ≡ c.in-Some.cell = some_same o is.0 c.in-Some.cell read c.in-Some.is in
    subst (λ (ps : List Point). at.place < length ps) (ap (λ (d : Cell). d.ends) same ∙ sym c.as_slice-in-Some.ensures) is.2

pub unreachable-requires : goal.unreachable-requires
unreachable-requires c =
    let n = c.args.self.now in
    let at = c.in-Port in
    let o = c.index-as_slice-agent.result in
    let listed : c.as_slice.result.now ≡ n.cells = c.as_slice.ensures ∙ ap (λ (m : Parts). m.cells) c.self.view_is in
    let is = port_at n.cells at.agent.0 at.place (subst (IsPointOf n) at.is c.requires) in
    let read = there_read n.cells at.agent.0 o is.0 is.1 (subst (λ (cs : List (Option Cell)). o ≡ slice_index_or cs at.agent.0 o) listed c.index-as_slice-agent.is) in
    let z : ◌≡◌ {A = Option Cell} None (Some is.0) = sym c.in-None.is ∙ read in
    cc

pub returns-in-Some : goal.returns-in-Some
returns-in-Some c =
    let n = c.args.self.now in
    let at = c.in-Port in
    let o = c.index-as_slice-agent.result in
    let d : Point = Port (record { 0 = 0 }) 0 in
    let listed : c.as_slice.result.now ≡ n.cells = c.as_slice.ensures ∙ ap (λ (m : Parts). m.cells) c.self.view_is in
    let is = port_at n.cells at.agent.0 at.place (subst (IsPointOf n) at.is c.requires) in
    let read = there_read n.cells at.agent.0 o is.0 is.1 (subst (λ (cs : List (Option Cell)). o ≡ slice_index_or cs at.agent.0 o) listed c.index-as_slice-agent.is) in
    let same : is.0 ≡ c.in-Some.cell = some_same o is.0 c.in-Some.cell read c.in-Some.is in
    let ends : is.0.ends ≡ c.as_slice-in-Some.result.now = ap (λ (d : Cell). d.ends) same ∙ sym c.as_slice-in-Some.ensures in
    let here : partner_in n (Port at.agent at.place) ≡ slice_get is.0.ends at.place = ap (option_and_then (λ (d : Cell). slice_get d.ends at.place)) is.1 in
    ap (partner_in n) at.is ∙ here ∙ read_at is.0.ends at.place d is.2 ∙ ap (λ (ps : List Point). Some (slice_index_or ps at.place d)) ends
