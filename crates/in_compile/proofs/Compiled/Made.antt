-- The layout is the member of its net, and one more rule has its template.
use Rattle.std.proofs.Common.{◌≡◌, ◌⊎◌, inl, inr, ◌+◌, ℕ, Some, List, [], ◌∷◌, ◌++◌, length, take, slice_get, sym, ap, subst, ◌∙◌, length-append}
use Rattle.std.specs.Prelude.{option_map}
use Rattle.std.proofs.lemmas.Option.{same_Some}
use Rattle.in_base.proofs.Places.{more_at}
use Rattle.in_symbols.specs.Tables.{Tables}
use Rattle.in_net.specs.declared.nets.Point.{Point}
use Rattle.in_net.specs.declared.nets.Point.TheVariants.{Port, Free}
use Rattle.in_net.specs.Parts.{Parts, partner_in}
use Rattle.in_net.specs.Rules.{RuleParts}
use Rattle.in_interaction.specs.Queues.{IsFirstQueue}
use Rattle.in_compile.specs.declared.cells.Need.{Need}
use Rattle.in_compile.specs.declared.joints.Joint.{Joint}
use Rattle.in_arena.specs.declared.head.NewCell.{NewCell}
use Rattle.in_compile.specs.Cells.{IsNeedOf}
use Rattle.in_compile.specs.Storing.{agents_from, AreLaidBelow}
use Rattle.in_compile.specs.Members.{joint_of, joint_at, IsMemberOf}
use Rattle.in_compile.specs.Templates.{TemplateParts, IsTemplateOf, HaveFirst}
use Rattle.in_compile.proofs.Compiled.Laid.{symbols_are, classes_are, ends_are, boundary_is}

module _ (t : Tables) (n : Parts) (agents : List NewCell) (joints : List Joint) (pairs : List (ℕ × ℕ)) (need : Need) (boundary : ℕ) where
  module _ (laid : AreLaidBelow t n (length n.cells) agents joints) (ends : boundary ≡ length n.free) (queue : IsFirstQueue t n pairs) (counts : IsNeedOf t n.cells need) where
    pub made : IsMemberOf t n (record { agents = agents_from joints agents; joints = take boundary joints; pairs = pairs; need = need })
    made = record {
      agents = symbols_are t n agents joints laid;
      classes = classes_are t n agents joints laid;
      joints = at;
      pairs = queue;
      need = counts;
    }
      where
        at : (q : Point) → joint_at (record { agents = agents_from joints agents; joints = take boundary joints; pairs = pairs; need = need }) (joint_of q) ≡ option_map joint_of (partner_in n q)
        at (Port x i) = ends_are t n agents joints laid x.0 i
        at (Free e) = boundary_is t n agents joints laid boundary ends e

-- ---- rule by rule

module _ (t : Tables) (rules : List RuleParts) where
  pub one_more : (x : ℕ) (r : RuleParts) (p : TemplateParts) (templates longer : List TemplateParts) → slice_get rules x ≡ Some r → IsTemplateOf t r p → HaveFirst t rules x templates → longer ≡ templates ++ p ∷ [] →
      HaveFirst t rules (x + 1) longer
  one_more x r p templates longer stands of h e = record {
    count_is = ap length e ∙ length-append templates (p ∷ []) ∙ ap (λ z. z + 1) h.count_is;
    each = λ k s q a b. go k s q a (more_at templates p q k (sym (ap (λ z. slice_get z k) e) ∙ b));
  }
    where
      go : (k : ℕ) (s : RuleParts) (q : TemplateParts) → slice_get rules k ≡ Some s → (slice_get templates k ≡ Some q) ⊎ ((k ≡ length templates) × (p ≡ q)) → IsTemplateOf t s q
      go k s q a (inl b) = h.each k s q a b
      go k s q a (inr b) =
          let at : k ≡ x = b.0 ∙ h.count_is in
          subst (λ (s : RuleParts). IsTemplateOf t s q) (same_Some r s (sym stands ∙ ap (slice_get rules) (sym at) ∙ a)) (subst (IsTemplateOf t r) b.1 of)
