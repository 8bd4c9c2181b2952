-- A joint of a net's member leads where the wire of the net does.
use Rattle.std.proofs.Common.{◌≡◌, ℕ, Option, Some, None, refl, sym, ap, ◌∙◌}
use Rattle.std.specs.Prelude.{option_map}
use Rattle.std.proofs.lemmas.Option.{none-some, same_Some}
use Rattle.in_symbols.specs.Tables.{Tables}
use Rattle.in_net.specs.declared.nets.Point as coded
use Rattle.in_net.specs.declared.nets.Point.TheVariants as code
use Rattle.in_net.specs.Nets as nets
use Rattle.in_net.specs.Nets.{net_of, coded_point}
use Rattle.in_net.specs.Parts.{Parts, partner_in}
use Rattle.in_compile.specs.declared.joints.Joint.{Joint}
use Rattle.in_compile.specs.declared.joints.Joint.TheVariants.{ToAgent, ToBoundary}
use Rattle.in_compile.specs.Members.{MemberParts, IsMemberOf, joint_at, joint_of}
use Rattle.in_compile.specs.Wires.{point_at}
use Rattle.in_compile.proofs.Compiled.Sound.{back_joint, mapped_back, point_of}

pub same_coded : (j : Joint) → coded_point (point_at j) ≡ point_of j
unfolding point_of
same_coded (ToAgent k i) = refl
same_coded (ToBoundary e) = refl

pub same_point : (j : Joint) → nets.point_of (point_of j) ≡ point_at j
unfolding point_of
same_point (ToAgent k i) = refl
same_point (ToBoundary e) = refl

same_joint : (q : coded.Point) → point_at (joint_of q) ≡ nets.point_of q
same_joint (code.Port x i) = refl
same_joint (code.Free e) = refl

-- a point is that of one joint
pub one_joint : (i j : Joint) → point_at i ≡ point_at j → i ≡ j
one_joint (ToAgent k i) (ToAgent l j) same = cc
one_joint (ToAgent k i) (ToBoundary e) same = cc
one_joint (ToBoundary e) (ToAgent k i) same = cc
one_joint (ToBoundary d) (ToBoundary e) same = cc

module _ (t : Tables) (n : Parts) (m : MemberParts) (of : IsMemberOf t n m) where
  joint_is : (i : Joint) → joint_at m i ≡ option_map joint_of (partner_in n (coded_point (point_at i)))
  joint_is i =
      ap (joint_at m) (sym (back_joint i)) ∙ of.joints (point_of i) ∙ ap (λ (q : coded.Point). option_map joint_of (partner_in n q)) (sym (same_coded i))

  pub leads : (i j : Joint) → joint_at m i ≡ Some j → (net_of n).partner (point_at i) ≡ Some (point_at j)
  leads i j at =
      let partner : partner_in n (coded_point (point_at i)) ≡ Some (point_of j) = mapped_back (partner_in n (coded_point (point_at i))) j (sym (joint_is i) ∙ at) in
      ap (option_map nets.point_of) partner ∙ ap (λ (q : nets.Point ℕ). Some q) (same_point j)

  pub joins : (i : Joint) (q : nets.Point ℕ) → (net_of n).partner (point_at i) ≡ Some q → (j : Joint) × (joint_at m i ≡ Some j) × (point_at j ≡ q)
  joins i q wire = go (partner_in n (coded_point (point_at i))) refl wire
    where
      go : (o : Option coded.Point) → partner_in n (coded_point (point_at i)) ≡ o → option_map nets.point_of o ≡ Some q → (j : Joint) × (joint_at m i ≡ Some j) × (point_at j ≡ q)
      go None is wire = absurd (none-some q wire)
      go (Some r) is wire = (joint_of r, joint_is i ∙ ap (option_map joint_of) is, same_joint r ∙ same_Some (nets.point_of r) q wire)
