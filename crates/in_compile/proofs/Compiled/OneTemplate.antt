-- A net has one member, a rule has one template, and two symbols that match have that of their rule.
use Rattle.std.proofs.Common.{◌≡◌, ◌⊎◌, ◌↔◌, ℕ, Bool, true, false, IsTrue, nat_le, Option, Some, None, IsSome, slice_get, refl, sym, ap, subst, ◌∙◌, leb-true, arith}
use Rattle.std.specs.Prelude.{option_map, option_and_then}
use Rattle.std.proofs.lemmas.Bool.{and_parts}
use Rattle.std.proofs.lemmas.Option.{same_Some, slice_get_within}
use Rattle.in_base.proofs.Each.{at_index}
use Rattle.in_arena.specs.declared.content.CellClass.{CellClass}
use Rattle.in_arena.specs.declared.content.CellClass.TheVariants.{Small, Large, Wide}
use Rattle.in_arena.specs.Classes.{least, width, Holds, holds, ClassesAreApart}
use Rattle.in_symbols.specs.Tables.{Tables}
use Rattle.in_syntax.specs.declared.symbol_no.SymbolNo.{SymbolNo}
use Rattle.in_net.specs.declared.nets.Point.TheVariants.{Port, Free}
use Rattle.in_net.specs.Parts.{Parts}
use Rattle.in_net.specs.Rules.{RuleParts}
use Rattle.in_net.proofs.Public.{all_same}
use Rattle.in_interaction.proofs.Public.{same_first}
use Rattle.in_cover.specs.declared.table.RuleNo.{RuleNo}
use Rattle.in_cover.specs.Cover.{IsPair, IsRuleOfSymbols, IsRuleFor, IsComplete}
use Rattle.in_cover.specs.Table.{rule_at}
use Rattle.in_check.specs.Programs.{Program}
use Rattle.in_compile.specs.Cells.{is_of}
use Rattle.in_compile.specs.Members.{AgentParts, MemberParts, IsMemberOf}
use Rattle.in_compile.specs.Templates.{TemplateParts, HasHeads, IsTemplateOf, TemplatesParts, template_at, AreTemplatesOf}
use Rattle.in_compile.specs.Laws.{HasOneTemplate}
use Rattle.in_compile.proofs.Needs.Classes.{one_need}

-- ---- one class

pub classes_apart : ClassesAreApart
classes_apart n Small Small h g = refl
classes_apart n Small Large h g = absurd (let a = h.1 in let b = g.0 in omega (arith, a, b))
classes_apart n Small Wide h g = absurd (let a = h.1 in let b = g.0 in omega (arith, a, b))
classes_apart n Large Small h g = absurd (let a = h.0 in let b = g.1 in omega (arith, a, b))
classes_apart n Large Large h g = refl
classes_apart n Large Wide h g = absurd (let a = h.1 in let b = g.0 in omega (arith, a, b))
classes_apart n Wide Small h g = absurd (let a = h.0 in let b = g.1 in omega (arith, a, b))
classes_apart n Wide Large h g = absurd (let a = h.0 in let b = g.1 in omega (arith, a, b))
classes_apart n Wide Wide h g = refl

pub held : (c : CellClass) (n : ℕ) → holds c n ≡ true → Holds c n
held c n h =
    let parts = and_parts (nat_le (least c) n) (nat_le n (width c)) h in
    (leb-true (least c) n parts.0, leb-true n (width c) parts.1)

pub one_class : (n : ℕ) (c d : CellClass) → holds c n ≡ true → holds d n ≡ true → c ≡ d
one_class n c d h g = classes_apart n c d (held c n h) (held d n g)

-- ---- one member

module _ (t : Tables) (n : Parts) (p q : MemberParts) (a : IsMemberOf t n p) (b : IsMemberOf t n q) where
  symbols : (k : ℕ) → option_map (λ (x : AgentParts). x.symbol) (slice_get p.agents k) ≡ option_map (λ (x : AgentParts). x.symbol) (slice_get q.agents k)
  symbols k = a.agents k ∙ sym (b.agents k)

  ends : (k i : ℕ) → option_and_then (λ (x : AgentParts). slice_get x.ends i) (slice_get p.agents k) ≡ option_and_then (λ (x : AgentParts). slice_get x.ends i) (slice_get q.agents k)
  ends k i = a.joints (Port (record { 0 = k }) i) ∙ sym (b.joints (Port (record { 0 = k }) i))

  module _ (k : ℕ) where
    same_agent : (x y : AgentParts) → slice_get p.agents k ≡ Some x → slice_get q.agents k ≡ Some y → x ≡ y
    same_agent x y e f = λ i. record { symbol = symbol i; class = class i; ends = joints i }
      where
        symbol : x.symbol ≡ y.symbol
        symbol = same_Some x.symbol y.symbol (sym (ap (option_map (λ (x : AgentParts). x.symbol)) e) ∙ symbols k ∙ ap (option_map (λ (x : AgentParts). x.symbol)) f)

        joints : x.ends ≡ y.ends
        joints = all_same x.ends y.ends (λ i.
            sym (ap (λ (o : Option AgentParts). option_and_then (λ (x : AgentParts). slice_get x.ends i) o) e) ∙ ends k i ∙ ap (λ (o : Option AgentParts). option_and_then (λ (x : AgentParts). slice_get x.ends i) o) f)

        class : x.class ≡ y.class
        class =
            let one : is_of t x.class y.symbol.0 ≡ true = subst (λ (s : SymbolNo). is_of t x.class s.0 ≡ true) symbol (a.classes k x e) in
            one_class _ x.class y.class one (b.classes k y f)

    agents_by : (o u : Option AgentParts) → slice_get p.agents k ≡ o → slice_get q.agents k ≡ u → slice_get p.agents k ≡ slice_get q.agents k
    agents_by None None e f = e ∙ sym f
    agents_by None (Some y) e f = absurd (let s = sym (ap (option_map (λ (x : AgentParts). x.symbol)) e) ∙ symbols k ∙ ap (option_map (λ (x : AgentParts). x.symbol)) f in cc)
    agents_by (Some x) None e f = absurd (let s = sym (ap (option_map (λ (x : AgentParts). x.symbol)) e) ∙ symbols k ∙ ap (option_map (λ (x : AgentParts). x.symbol)) f in cc)
    agents_by (Some x) (Some y) e f = e ∙ ap (λ (z : AgentParts). Some z) (same_agent x y e f) ∙ sym f

  agents : p.agents ≡ q.agents
  agents = all_same p.agents q.agents (λ k. agents_by k (slice_get p.agents k) (slice_get q.agents k) refl refl)

  joints : p.joints ≡ q.joints
  joints = all_same p.joints q.joints (λ e. a.joints (Free e) ∙ sym (b.joints (Free e)))

  pairs : p.pairs ≡ q.pairs
  pairs = same_first t n p.pairs q.pairs a.pairs b.pairs

  pub one_member : p ≡ q
  one_member = λ i. record {
    agents = agents i;
    joints = joints i;
    pairs = pairs i;
    need = one_need t n.cells p.need q.need a.need b.need i;
  }

-- ---- one template

same_truth : (b c : Bool) → (IsTrue b ↔ IsTrue c) → b ≡ c
same_truth true true h = refl
same_truth true false h = absurd (let f : false ≡ true = h.0 refl in cc)
same_truth false true h = absurd (let f : false ≡ true = h.1 refl in cc)
same_truth false false h = refl

module _ (t : Tables) (r : RuleParts) (p q : TemplateParts) (a : IsTemplateOf t r p) (b : IsTemplateOf t r q) where
  heads : p.heads ≡ q.heads
  heads = a.heads ∙ sym b.heads

  classes : p.classes ≡ q.classes
  classes = λ i. (one_class _ p.classes.0 q.classes.0 a.classes.0 b.classes.0 i, one_class _ p.classes.1 q.classes.1 a.classes.1 b.classes.1 i)

  first_ends : p.first_ends ≡ q.first_ends
  first_ends = a.first_ends ∙ sym b.first_ends

  unmarked : p.unmarked ≡ q.unmarked
  unmarked = same_truth p.unmarked q.unmarked ((λ h. b.unmarked.1 (a.unmarked.0 h)), (λ h. a.unmarked.1 (b.unmarked.0 h)))

  pub one_template : p ≡ q
  one_template = λ i. record { heads = heads i; classes = classes i; first_ends = first_ends i; unmarked = unmarked i; outputs = (a.outputs ∙ sym b.outputs) i; member = one_member t r.member p.member q.member a.member b.member i }

-- ---- the template of two symbols

module _ (p : Program) (ts : TemplatesParts) (h : AreTemplatesOf p ts) where
  module _ (k : ℕ) (r : RuleParts) (stands : slice_get p.rules k ≡ Some r) where
    pub its_template : (x : TemplateParts) × (slice_get ts.templates k ≡ Some x)
    its_template = at_index ts.templates k (let l = slice_get_within p.rules k r stands in let e = h.templates.count_is in omega (arith, l, e))

  rule_of : (k : ℕ) (x : TemplateParts) → slice_get ts.templates k ≡ Some x → (r : RuleParts) × (slice_get p.rules k ≡ Some r)
  rule_of k x stands = at_index p.rules k (let l = slice_get_within ts.templates k x stands in let e = h.templates.count_is in omega (arith, l, e))

  -- the template of the rule that is for two symbols is found for them
  pub found_for : (k c d : ℕ) (x : TemplateParts) → IsRuleFor p.rules k c d → slice_get ts.templates k ≡ Some x → template_at ts c d ≡ Some x
  found_for k c d x is stands =
      let n : RuleNo = record { 0 = k } in
      ap (λ (o : Option RuleNo). option_and_then (λ (k : RuleNo). slice_get ts.templates k.0) o) ((h.numbers.numbers c d n).1 is) ∙ stands

  -- .. so every two matching symbols have one
  found_by : (c d : ℕ) (o : Option RuleNo) → rule_at ts.numbers c d ≡ o → IsSome o → IsSome (template_at ts c d)
  found_by c d None is some = cc
  found_by c d (Some k) is some =
      let rule = (h.numbers.numbers c d k).0 is in
      let x = its_template k.0 rule.rule rule.stands in
      subst (λ (o : Option TemplateParts). IsSome o) (sym (found_for k.0 c d x.0 rule x.1)) refl

  pub has_template : (c d : ℕ) → IsPair p.tables c d → IsSome (template_at ts c d)
  has_template c d pair = found_by c d (rule_at ts.numbers c d) refl (h.numbers.pairs c d pair)

  module _ (complete : IsComplete p.tables p.rules) (c d : ℕ) (pair : IsPair p.tables c d) where
    heads_for : (r : RuleParts) (x : TemplateParts) → x.heads ≡ r.heads → HasHeads x c d → IsRuleOfSymbols r c d
    heads_for r x e has = subst (λ (z : SymbolNo × SymbolNo). ((z.0.0 ≡ c) × (z.1.0 ≡ d)) ⊎ ((z.0.0 ≡ d) × (z.1.0 ≡ c))) e has

    pub one_for : HasOneTemplate p ts c d
    one_for =
        let rule = complete.at_least_one c d pair in
        let x = its_template rule.0 rule.1.rule rule.1.stands in
        record {
          number = rule.0;
          is_rule = rule.1;
          template = x.0;
          stands = x.1;
          found = found_for rule.0 c d x.0 rule.1 x.1;
          of_rule = h.templates.each rule.0 rule.1.rule x.0 rule.1.stands x.1;
          alone = λ k other stands has.
              let r = rule_of k other stands in
              complete.at_most_one c d k rule.0 (record { rule = r.0; stands = r.1; symbols = heads_for r.0 other (h.templates.each k r.0 other r.1 stands).heads has }) rule.1;
        }
