use Rattle.std.proofs.Common.{◌≡◌, inl, inr, List, Option, Some, slice_get, sym, ap, subst, ◌∙◌, eq-eqb, refl}
use Rattle.std.proofs.lemmas.Bool.{eqb-true, true≢false}
use Rattle.std.specs.Prelude.{option_and_then}
use Rattle.in_interaction.specs.After.{StaysAt}
use Rattle.in_interaction.specs.Following.{SiteParts}
use Rattle.in_net.specs.Parts.{cell_in}
use Rattle.in_net.specs.declared.nets.Cell.{Cell}
use Rattle.in_interaction.proofs.Stepping.Cells.{after_kept, after_pair}
use Rattle.std.proofs.lemmas.Option.{slice_get_read}
use Rattle.in_interaction.proofs.following.Site.cell.Goals as goal
use Rattle.in_interaction.proofs.following.Site.cell.Goals.{then-number-self, else-number-self}

pub returns-then-number-self-2 : goal.returns-then-number-self-2
returns-then-number-self-2 c =
    let s = c.args.self.now in
    let there : cell_in s.net c.args.number.0 ≡ Some c.in-Some-Some.cell =
    (let h = c.in-Some-Some.ensures.lookup in
    let listed : c.cells.result.now ≡ s.net.cells = c.cells.ensures.cells ∙ ap (λ (s : SiteParts). s.net.cells) c.self.view_is in
    let read = subst (λ (cs : List (Option Cell)). slice_get cs c.args.number.0 ≡ Some c.in-Some-Some.field-0.now) listed (slice_get_read c.cells.result.now _ c.args.number.0 c.in-Some-Some.field-0.now refl h.3.0 h.1) in
    ap (option_and_then (λ (c : Option Cell). c)) read ∙ c.in-Some-Some.field-0-is) in
    let one : c.self.inside.one.0 ≡ s.one.0 = ap (λ (s : SiteParts). s.one.0) c.self.view_is in
    let two : c.self.inside.two.0 ≡ s.two.0 = ap (λ (s : SiteParts). s.two.0) c.self.view_is in
    after_pair s c.args.number.0 c.in-Some-Some.cell there (elim c.if-number-self.branch [
      | then-number-self w ↦ inl (w.if-number-self.true ∙ one)
      | else-number-self w ↦ inr (eqb-true c.args.number.0 c.self.inside.two.0 (sym w.value-is ∙ c.if-number-self-2.true) ∙ two)
    ])

pub kept-requires : goal.kept-requires
kept-requires c =
    let s = c.args.self.now in
    let there : cell_in s.net c.args.number.0 ≡ Some c.in-Some-Some.cell =
    (let h = c.in-Some-Some.ensures.lookup in
    let listed : c.cells.result.now ≡ s.net.cells = c.cells.ensures.cells ∙ ap (λ (s : SiteParts). s.net.cells) c.self.view_is in
    let read = subst (λ (cs : List (Option Cell)). slice_get cs c.args.number.0 ≡ Some c.in-Some-Some.field-0.now) listed (slice_get_read c.cells.result.now _ c.args.number.0 c.in-Some-Some.field-0.now refl h.3.0 h.1) in
    ap (option_and_then (λ (c : Option Cell). c)) read ∙ c.in-Some-Some.field-0-is) in
    let one : c.self.inside.one.0 ≡ s.one.0 = ap (λ (s : SiteParts). s.one.0) c.self.view_is in
    let two : c.self.inside.two.0 ≡ s.two.0 = ap (λ (s : SiteParts). s.two.0) c.self.view_is in
    elim c.if-number-self.branch [
      | then-number-self w ↦ absurd (true≢false (sym (eq-eqb c.args.number.0 c.self.inside.one.0 w.if-number-self.true) ∙ sym w.value-is ∙ c.if-number-self-2.false))
      | else-number-self w ↦ record {
        there = there;
        one = λ e. w.if-number-self.false (e ∙ sym one);
        two = λ e. true≢false (sym (eq-eqb c.args.number.0 c.self.inside.two.0 (e ∙ sym two)) ∙ sym w.value-is ∙ c.if-number-self-2.false);
      }
    ]

pub returns-in_default : goal.returns-in_default
returns-in_default c = c.new_at.ensures

pub returns-in_ok-kept-in-Some-Some : goal.returns-in_ok-kept-in-Some-Some
returns-in_ok-kept-in-Some-Some c =
    let s = c.args.self.now in
    let there : cell_in s.net c.args.number.0 ≡ Some c.in-Some-Some.cell =
    (let h = c.in-Some-Some.ensures.lookup in
    let listed : c.cells.result.now ≡ s.net.cells = c.cells.ensures.cells ∙ ap (λ (s : SiteParts). s.net.cells) c.self.view_is in
    let read = subst (λ (cs : List (Option Cell)). slice_get cs c.args.number.0 ≡ Some c.in-Some-Some.field-0.now) listed (slice_get_read c.cells.result.now _ c.args.number.0 c.in-Some-Some.field-0.now refl h.3.0 h.1) in
    ap (option_and_then (λ (c : Option Cell). c)) read ∙ c.in-Some-Some.field-0-is) in
    let one : c.self.inside.one.0 ≡ s.one.0 = ap (λ (s : SiteParts). s.one.0) c.self.view_is in
    let two : c.self.inside.two.0 ≡ s.two.0 = ap (λ (s : SiteParts). s.two.0) c.self.view_is in
    let stays : StaysAt s c.args.number.0 c.in-Some-Some.cell =
    elim c.if-number-self.branch [
      | then-number-self w ↦ absurd (true≢false (sym (eq-eqb c.args.number.0 c.self.inside.one.0 w.if-number-self.true) ∙ sym w.value-is ∙ c.if-number-self-2.false))
      | else-number-self w ↦ record {
        there = there;
        one = λ e. w.if-number-self.false (e ∙ sym one);
        two = λ e. true≢false (sym (eq-eqb c.args.number.0 c.self.inside.two.0 (e ∙ sym two)) ∙ sym w.value-is ∙ c.if-number-self-2.false);
      }
    ] in
    after_kept s c.args.number.0 c.in-Some-Some.cell c.in_ok-kept-in-Some-Some.field-0 stays (c.in_ok-kept-in-Some-Some.ensures {u = tt})
