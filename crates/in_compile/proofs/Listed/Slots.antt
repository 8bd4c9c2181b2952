-- The joints of a right member have slots.
use Rattle.std.proofs.Common.{◌≡◌, ◌≤◌, ◌<◌, ◌+◌, Option, Some, None, slice_get, refl, ap, subst, ◌∙◌, ℕ, arith}
use Rattle.std.specs.Prelude.{option_and_then}
use Rattle.std.proofs.lemmas.Option.{slice_get_within}
use Rattle.in_arena.specs.Classes.{width}
use Rattle.in_arena.specs.declared.content.CellClass.{CellClass}
use Rattle.in_arena.specs.declared.content.CellClass.TheVariants.{Small, Large, Wide}
use Rattle.in_syntax.specs.Grammar.{max_ports}
use Rattle.in_syntax.specs.declared.symbol_no.SymbolNo.{SymbolNo}
use Rattle.in_symbols.specs.Tables.{Tables, arity_of}
use Rattle.in_syntax.specs.TextLimits.{most_member_agents}
use Rattle.in_net.specs.Parts.{Parts}
use Rattle.in_net.specs.Rules.{RuleParts}
use Rattle.in_open_nets_of_programs.specs.OpeningRules.{IsRuleWhole}
use Rattle.in_compile.specs.declared.joints.Joint.{Joint}
use Rattle.in_compile.specs.declared.joints.Joint.TheVariants.{ToAgent, ToBoundary}
use Rattle.in_compile.specs.Members.{AgentParts, IsAtPort, MemberParts, joint_at, IsMemberOf, IsSoundMember}
use Rattle.in_compile.proofs.Compiled.Sound.{few_agents, joints_many}
use Rattle.in_compile.specs.Storing.{IsSmallJoint, IsSmallMember}

widest : (c : CellClass) → width c ≤ max_ports + 1
widest Small = omega arith
widest Large = omega arith
widest Wide = omega arith

module _ (m : MemberParts) (sound : IsSoundMember m) where
  port_place : (j p : Joint) → joint_at m j ≡ Some p → IsAtPort j
  port_place (ToBoundary e) p at = tt
  port_place (ToAgent k i) p at = go (slice_get m.agents k) refl at
    where
      go : (o : Option AgentParts) → slice_get m.agents k ≡ o → option_and_then (λ (a : AgentParts). slice_get a.ends i) o ≡ Some p → IsAtPort (ToAgent k i)
      go None is at = absurd (let e : None ≡ Some p = at in cc)
      go (Some a) is at =
          let place = slice_get_within a.ends i p at in
          let fits = (sound.fits k a is).1 in
          let wide = widest a.class in
          omega (arith, place, fits, wide)

  -- a wire leads to a place that an agent can have
  pub at_port : (p j : Joint) → joint_at m p ≡ Some j → IsAtPort j
  at_port p j at = port_place j p (sound.back p j at)

module _ (m : MemberParts) (small : IsSmallMember m) (sound : IsSoundMember m) where
  pub small_place : (j p : Joint) → joint_at m j ≡ Some p → IsSmallJoint j
  small_place (ToBoundary e) p at = let l = slice_get_within m.joints e p at in let few = small.0 in omega (arith, l, few)
  small_place (ToAgent k i) p at = go (slice_get m.agents k) refl at
    where
      go : (o : Option AgentParts) → slice_get m.agents k ≡ o → option_and_then (λ (a : AgentParts). slice_get a.ends i) o ≡ Some p → IsSmallJoint (ToAgent k i)
      go None is at = absurd (let e : None ≡ Some p = at in cc)
      go (Some a) is at =
          let agent = slice_get_within m.agents k a is in
          let few = small.1 in
          ((let l : k < most_member_agents = omega (arith, agent, few) in l), port_place m sound (ToAgent k i) p (ap (option_and_then (λ (a : AgentParts). slice_get a.ends i)) is ∙ at))

  pub small_joint : (p j : Joint) → joint_at m p ≡ Some j → IsSmallJoint j
  small_joint p j at = small_place j p (sound.back p j at)

-- a rule's right member is small: its boundary ends are the auxiliary ports of two symbols
pub small_member : (t : Tables) (r : RuleParts) (m : MemberParts) (n : Parts) → n ≡ r.member → IsMemberOf t n m → IsRuleWhole t r → (heads : SymbolNo × SymbolNo) → heads ≡ r.heads
    → (first second : ℕ) → first ≡ arity_of t heads.0.0 → first ≤ max_ports → second ≡ arity_of t heads.1.0 → second ≤ max_ports → IsSmallMember m
small_member t r m n same of whole heads are first second a few b also =
    let of_rule : IsMemberOf t r.member m = subst (λ (n : Parts). IsMemberOf t n m) same of in
    let many = joints_many t r.member m of_rule in
    let ends = whole.ends in
    let one = a ∙ ap (λ (h : SymbolNo × SymbolNo). arity_of t h.0.0) are in
    let other = b ∙ ap (λ (h : SymbolNo × SymbolNo). arity_of t h.1.0) are in
    (omega (arith, many, ends, one, other, few, also), few_agents t r.member m of_rule most_member_agents whole.few)
