use Rattle.std.proofs.Common.{◌≡◌, ℕ, true, nat_eq, sym, ap, subst, ◌∙◌}
use mathlib.Core.Bool.{not}
use Rattle.in_arena.specs.declared.content.End.TheVariants as end
use Rattle.in_cells.specs.Shown.{point_of}
use Rattle.in_net.specs.Nets.{Point, Port, Free}
use Rattle.in_phases.specs.Branches.{LeadsSomewhere}
use Rattle.in_phases.proofs.Places.{leads_somewhere, partner_shown}
use Rattle.in_phases.proofs.cutting.leads_out.Goals as goal

pub has-requires : goal.has-requires
has-requires c =
    let m = c.args.reducer.now in
    let e = end.Cell c.args.cell c.args.place in
    c.requires.branch.inside c.in-Cell.other.0 (subst (LeadsSomewhere m) c.in-Cell.is
    (leads_somewhere m c.pairs.ensures.reducer (point_of e) c.partner.result (partner_shown m e c.partner.result c.partner.ensures)))

pub returns-then-place-ne0 : goal.returns-then-place-ne0
returns-then-place-ne0 c = λ test.
    (
    let m = c.args.reducer.now in
    let e = end.Cell c.args.cell c.args.place in
    record {
      other = point_of c.partner.result;
      wire = partner_shown m e c.partner.result c.partner.ensures;
      waits = λ none d. absurd (let f : not (nat_eq 0 0) ≡ true = subst (λ (z : ℕ). not (nat_eq z 0) ≡ true) none test in cc);
    }
    )

abbrev place_in : Point ℕ → ℕ
place_in (Port x i) = i
place_in (Free k) = 1

pub returns-else-place-ne0 : goal.returns-else-place-ne0
returns-else-place-ne0 c = λ test.
    (
    let m = c.args.reducer.now in
    let e = end.Cell c.args.cell c.args.place in
    record {
      other = point_of c.partner.result;
      wire = partner_shown m e c.partner.result c.partner.ensures;
      waits = λ none d same. (
          let at : c.in-Cell.at ≡ 0 = ap place_in (sym (ap point_of c.in-Cell.is) ∙ same) in
          let f : not (nat_eq 0 0) ≡ true = subst (λ (z : ℕ). not (nat_eq z 0) ≡ true) at test in
          cc
          );
    }
    )

pub returns-in-Free : goal.returns-in-Free
returns-in-Free c = λ test.
    (
    let m = c.args.reducer.now in
    let e = end.Cell c.args.cell c.args.place in
    record {
      other = point_of c.partner.result;
      wire = partner_shown m e c.partner.result c.partner.ensures;
      waits = λ none d same. (let f : Free c.in-Free.field-0 ≡ Port d 0 = sym (ap point_of c.in-Free.is) ∙ same in cc);
    }
    )
