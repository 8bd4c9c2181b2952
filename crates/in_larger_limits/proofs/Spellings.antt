-- A program is spelled by the large limits as by others, and no further sign passes a limit.
use Rattle.std.proofs.Common.{◌≡◌, ℕ, ◌+◌, ◌≤◌, false, nat_lt, List, [], ◌∷◌, ◌++◌, length, refl, sym, ◌∙◌, ap, arith, Option}
use Rattle.std.specs.List.{flat_map}
use Rattle.std.proofs.lemmas.Bool.Decides.{nat_tests}
use Rattle.in_syntax.specs.declared.places.Place.{Place}
use Rattle.in_syntax.specs.declared.signs.Sign.{Sign}
use Rattle.in_syntax.specs.declared.text_limits.TextLimits.{TextLimits}
use Rattle.in_syntax.specs.declared.text_limits.TextLimits.TheVariants.{Large}
use Rattle.in_syntax.specs.declared.tree.SourceFree.{SourceFree}
use Rattle.in_syntax.specs.declared.tree.SourceNet.{SourceNet}
use Rattle.in_syntax.specs.declared.tree.SourceRule.{SourceRule}
use Rattle.in_syntax.specs.declared.tree.SourceSymbol.{SourceSymbol}
use Rattle.in_syntax.specs.declared.words.TokenKind.TheVariants as kind
use Rattle.in_syntax.specs.Grammar.{GrammarProgram, Item, types, symbol, rule, Marked, Spelling, marked, numbered, plain, separated, spell_classes, spell_equation, spell_free, spell_head, spell_items, spell_net, spell_port, spell_rule, spell_symbol, spell_types, spell_with, spelling}
use Rattle.in_syntax.specs.Programs.{signs, unmarked}
use Rattle.in_syntax.specs.TextLimits.{max_free, max_rules, max_symbols}
use Rattle.in_syntax.proofs.Public.{free_few, rules_few, symbols_few}

-- the same signs, and those that pass no limit in the first spelling pass none in the second
pub data Eases : Spelling → Spelling → Type 0 where
  none : Eases [] []
  then : {m n : Marked} {a b : Spelling} → m.sign ≡ n.sign → (m.past ≡ false → n.past ≡ false) → Eases a b → Eases (m ∷ a) (n ∷ b)

same : (a : Spelling) → Eases a a
same [] = none
same (m ∷ a) = then refl (λ e. e) (same a)

appended : {a b c d : Spelling} → Eases a b → Eases c d → Eases (a ++ c) (b ++ d)
appended none k = k
appended (then sign past h) k = then sign past (appended h k)

-- ---- what follows from it

pub same_signs : {a b : Spelling} → Eases a b → signs a ≡ signs b
same_signs none = refl
same_signs (then sign past h) = let tail = same_signs h in cc

same_mark : (n : Marked) (s : Sign) → n.sign ≡ s → n.past ≡ false → n ≡ marked false s
same_mark n s e f = ap (λ z. marked n.past z) e ∙ ap (λ p. marked p s) f

head_eased : (m n : Marked) (s : Sign) → m.sign ≡ n.sign → (m.past ≡ false → n.past ≡ false) → m ≡ marked false s → n ≡ marked false s
head_eased m n s sign past e = same_mark n s (sym sign ∙ ap (λ (z : Marked). z.sign) e) (past (ap (λ (z : Marked). z.past) e))

-- no sign passes a limit
pub all_eased : {a b : Spelling} (s : List Sign) → Eases a b → a ≡ unmarked s → b ≡ unmarked s
all_eased s none e = e
all_eased [] (then sign past h) e = cc
all_eased (s ∷ more) (then {m} {n} {a} {b} sign past h) e =
    let head : m ≡ marked false s = cc in
    let tail : a ≡ unmarked more = cc in
    let there : b ≡ unmarked more = all_eased more h tail in
    let first : n ≡ marked false s = head_eased m n s sign past head in
    cc

-- no sign of a front passes a limit
pub front_eased : {a b : Spelling} (front : List Sign) (more : Spelling) → Eases a b → a ≡ unmarked front ++ more → (rest : Spelling) × (b ≡ unmarked front ++ rest)
front_eased {a} {b} [] more h e = (b, refl)
front_eased (s ∷ front) more none e = (cc)
front_eased (s ∷ front) more (then {m} {n} {a} {b} sign past h) e =
    let head : m ≡ marked false s = cc in
    let tail : a ≡ unmarked front ++ more = cc in
    let there : (rest : Spelling) × (b ≡ unmarked front ++ rest) = front_eased front more h tail in
    let first : n ≡ marked false s = head_eased m n s sign past head in
    let rest : b ≡ unmarked front ++ there.0 = there.1 in
    let whole : n ∷ b ≡ unmarked (s ∷ front) ++ there.0 = cc in
    (there.0, whole)

-- ---- the spelling of a program

past_eased : (few most number : ℕ) → few ≤ most → nat_lt few number ≡ false → nat_lt most number ≡ false
past_eased few most number le e = grind (arith, nat_tests)

module _ (limits : TextLimits) where
  symbol_eased : (number : ℕ) (d : SourceSymbol) → Eases (spell_symbol limits number d) (spell_symbol Large number d)
  symbol_eased number d =
      appended
      (appended (then refl (λ e. e) (then refl (past_eased (max_symbols limits) (max_symbols Large) number (symbols_few limits)) (same (plain kind.Colon ∷ spell_port false d.port)))) (same (spell_classes 1 d.classes)))
      (same (plain kind.Semicolon ∷ []))

  rule_eased : (number : ℕ) (w : Option Place) (r : SourceRule) → Eases (spell_rule limits number w r) (spell_rule Large number w r)
  rule_eased number w r =
      then refl (past_eased (max_rules limits) (max_rules Large) number (rules_few limits))
      (same (((spell_head r.first ++ plain kind.Meets ∷ spell_head r.second) ++ spell_with w r.equations) ++ plain kind.Semicolon ∷ []))

  items_eased : (t s r : ℕ) (items : List Item) →
      Eases (spell_items (record { limits = limits; types = t; symbols = s; rules = r }) items) (spell_items (record { limits = Large; types = t; symbols = s; rules = r }) items)
  items_eased t s r [] = none
  items_eased t s r (types names ∷ more) = appended (same (spell_types (t + 1) names)) (items_eased (t + length names) s r more)
  items_eased t s r (symbol d ∷ more) = appended (symbol_eased (s + 1) d) (items_eased t (s + 1) r more)
  items_eased t s r (rule w d ∷ more) = appended (rule_eased (r + 1) w d) (items_eased t s (r + 1) more)

  free_eased : (number : ℕ) (f : SourceFree) → Eases (spell_free limits number f) (spell_free Large number f)
  free_eased number f = then refl (past_eased (max_free limits) (max_free Large) number (free_few limits)) (same (plain kind.Colon ∷ spell_port false f.port))

  frees_eased : (number : ℕ) (free : List SourceFree) →
      Eases (flat_map (λ b. plain kind.Comma ∷ b) (numbered (spell_free limits) number free)) (flat_map (λ b. plain kind.Comma ∷ b) (numbered (spell_free Large) number free))
  frees_eased number [] = none
  frees_eased number (f ∷ more) = then refl (λ e. e) (appended (free_eased number f) (frees_eased (number + 1) more))

  separated_eased : (number : ℕ) (free : List SourceFree) → Eases (separated (numbered (spell_free limits) number free)) (separated (numbered (spell_free Large) number free))
  separated_eased number [] = none
  separated_eased number (f ∷ more) = appended (free_eased number f) (frees_eased (number + 1) more)

  net_eased : (n : SourceNet) → Eases (spell_net limits n) (spell_net Large n)
  net_eased n =
      appended
      (appended (then refl (λ e. e) (then refl (λ e. e) (separated_eased 1 n.free))) (same (plain kind.CloseParenthesis ∷ plain kind.OpenBrace ∷ flat_map spell_equation n.equations)))
      (same (plain kind.CloseBrace ∷ []))

  pub spelling_eased : (p : GrammarProgram) → Eases (spelling limits p) (spelling Large p)
  spelling_eased p = appended (items_eased 0 0 0 p.items) (net_eased p.net)
