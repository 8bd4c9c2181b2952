-- A tree has no more names than its text has bytes.
use Rattle.std.proofs.Common.{◌≡◌, ℕ, zero, suc, ◌+◌, ◌<◌, ◌≤◌, false, List, [], ◌∷◌, ◌++◌, length, map, refl, sym, ◌∙◌, ap, subst, arith, length-append, ltb-false, Result, Ok, Err, IfOk, Option, Some, None}
use Rattle.std.proofs.lemmas.List.{length-map}
use Rattle.std.specs.List.{AllByRecursion, flat_map}
use Rattle.in_syntax.specs.declared.tree.Term.{Term, out-Term}
use Rattle.in_syntax.specs.declared.tree.Equation.{Equation}
use Rattle.in_syntax.specs.declared.tree.Source.{Source}
use Rattle.in_syntax.specs.declared.tree.SourcePort.{SourcePort}
use Rattle.in_syntax.specs.declared.tree.SourceNet.{SourceNet}
use Rattle.in_syntax.specs.declared.tree.SourceSymbol.{SourceSymbol}
use Rattle.in_syntax.specs.declared.tree.SourceRule.{SourceRule}
use Rattle.in_syntax.specs.declared.tree.Head.{Head}
use Rattle.in_syntax.specs.declared.counts.Counts.{Counts}
use Rattle.in_syntax.specs.declared.places.Place.{Place}
use Rattle.in_syntax.specs.declared.faults.Fault.{Fault}
use Rattle.in_syntax.specs.declared.words.Token.{Token}
use Rattle.in_syntax.specs.declared.words.TokenKind.TheVariants as kind
use Rattle.in_syntax.specs.declared.signs.Sign.{Sign}
use Rattle.in_syntax.specs.declared.signs.Sign.TheVariants.{Tilde}
use Rattle.in_syntax.specs.Grammar.{Spelling, within, plain, max_types, max_ports, separated, numbered, spell_port, spell_auxiliary, spell_class, spell_classes, spell_symbol, spell_type, spell_arguments, spell_term, spell_outermost, spell_head, spell_with, StandAfterWord, spell_rule, spell_equation, spell_free, spell_net, Item, types, symbol, rule, none_yet, counted, spell_item, spell_items, IsItem, GrammarProgram, spelling, types_in, symbols_in, rules_in, source_of}
use Rattle.in_syntax.specs.Programs.{sign_of, signs_of, unmarked}
use Rattle.in_syntax.specs.Parsing.{IsTreeOf, Parses}
use Rattle.in_syntax.specs.Sizes.{total, names_in, names_in_equation, names_in_equations, names_in_head, names_in_rule, names_in_rules, IsSizedSymbol, IsSized}
use Rattle.in_syntax.specs.Tokens.{StandsIn, StandInOrder}
use Rattle.in_syntax.proofs.Grammar.Separated.{counted_all}
use Rattle.in_syntax.proofs.Lexing.Standing.{tokens_stand, tokens_in_order}
use Rattle.in_syntax.proofs.Trees.Terms.{names_out, spell_out}
use Rattle.in_syntax.specs.declared.text_limits.TextLimits.{TextLimits}
use Rattle.in_syntax.specs.TextLimits.{text_limit, max_symbols, max_rules, max_free}

-- tokens that follow one another are no more than the bytes
fits_text : (text : List ℕ) (n : ℕ) (ts : List Token) → n ≤ length text → StandInOrder n ts → AllByRecursion (StandsIn text) ts → n + length ts ≤ length text
fits_text text n [] le order all = omega arith
fits_text text n (t ∷ ts) le order all =
    let stands = all.0 in
    let rest = fits_text text t.place.to ts stands.within order.1 all.1 in
    let some = stands.some in
    omega (arith, rest, some, order.0)

-- the names of a term are among its signs
abbrev Spells : ℕ → Type 0
Spells h = (u : Term) (depth : ℕ) → names_in u ≤ h → names_in u ≤ length (spell_term u depth)

commas_sum : (h : ℕ) → Spells h → (d : ℕ) (us : List Term) → total (map names_in us) ≤ h → total (map names_in us) ≤ length (flat_map (λ b. plain kind.Comma ∷ b) (map (λ a. a d) (map spell_term us)))
commas_sum h ih d [] short = omega arith
commas_sum h ih d (u ∷ us) short =
    omega (arith, ih u d (omega (arith, short)), commas_sum h ih d us (omega (arith, short)), length-append (spell_term u d) (flat_map (λ b. plain kind.Comma ∷ b) (map (λ a. a d) (map spell_term us))))

arguments_sum : (h : ℕ) → Spells h → (d : ℕ) (us : List Term) → total (map names_in us) ≤ h → total (map names_in us) ≤ length (spell_arguments (map (λ a. a d) (map spell_term us)))
arguments_sum h ih d [] short = omega arith
arguments_sum h ih d (u ∷ us) short =
    let first = ih u d (omega (arith, short)) in
    let rest = commas_sum h ih d us (omega (arith, short)) in
    omega (
      arith,
      first,
      rest,
      length-append (spell_term u d) (flat_map (λ b. plain kind.Comma ∷ b) (map (λ a. a d) (map spell_term us))),
      length-append (spell_term u d ++ flat_map (λ b. plain kind.Comma ∷ b) (map (λ a. a d) (map spell_term us))) (plain kind.CloseParenthesis ∷ []),
    )

spells : (h : ℕ) → Spells h
spells zero u depth short = absurd (omega (arith, names_out u))
spells (suc h) u depth short =
    let out = names_out u in
    let is = ap (λ (f : ℕ → Spelling). length (f depth)) (spell_out u) in
    omega (arith, out, is, arguments_sum h (λ v d le. spells h v d le) (depth + 1) (out-Term u).args (omega (arith, out)))

equation_sum : (e : Equation) → names_in_equation e ≤ length (spell_equation e)
equation_sum e =
    let left = spells (names_in e.left) e.left 1 (omega arith) in
    let right = spells (names_in e.right) e.right 1 (omega arith) in
    omega (
      arith,
      left,
      right,
      length-append (spell_term e.left 1) (within (Tilde e.tilde) ∷ spell_term e.right 1),
      length-append (spell_term e.left 1 ++ within (Tilde e.tilde) ∷ spell_term e.right 1) (plain kind.Semicolon ∷ []),
    )

equations_sum : (es : List Equation) → names_in_equations es ≤ length (flat_map spell_equation es)
equations_sum [] = omega arith
equations_sum (e ∷ es) = omega (arith, equation_sum e, equations_sum es, length-append (spell_equation e) (flat_map spell_equation es))

outermost_commas : (ts : List Term) → total (map names_in ts) ≤ length (flat_map (λ b. plain kind.Comma ∷ b) (map spell_outermost ts))
outermost_commas [] = omega arith
outermost_commas (t ∷ ts) =
    let first = spells (names_in t) t 1 (omega arith) in
    omega (arith, first, outermost_commas ts, length-append (spell_term t 1) (flat_map (λ b. plain kind.Comma ∷ b) (map spell_outermost ts)))

outermost_sum : (ts : List Term) → total (map names_in ts) ≤ length (separated (map spell_outermost ts))
outermost_sum [] = omega arith
outermost_sum (t ∷ ts) =
    let first = spells (names_in t) t 1 (omega arith) in
    omega (arith, first, outermost_commas ts, length-append (spell_term t 1) (flat_map (λ b. plain kind.Comma ∷ b) (map spell_outermost ts)))

head_sum : (h : Head) → names_in_head h ≤ length (spell_head h)
head_sum h =
    omega (arith, outermost_sum h.terms, length-append (separated (map spell_outermost h.terms)) (plain kind.CloseBracket ∷ []))

with_sum : (w : Option Place) (es : List Equation) → StandAfterWord w es → names_in_equations es ≤ length (spell_with w es)
with_sum None es none = subst (λ z. names_in_equations z ≤ 0) (sym none) (omega arith)
with_sum (Some p) es some = omega (arith, equations_sum es, length-append (flat_map spell_equation es) (plain kind.CloseBrace ∷ []))

rule_sum : (limits : TextLimits) (number : ℕ) (w : Option Place) (y : SourceRule) → StandAfterWord w y.equations → names_in_rule y ≤ length (spell_rule limits number w y)
rule_sum limits number w y is =
    omega (
      arith,
      head_sum y.first,
      head_sum y.second,
      with_sum w y.equations is,
      length-append (spell_head y.first) (plain kind.Meets ∷ spell_head y.second),
      length-append (spell_head y.first ++ plain kind.Meets ∷ spell_head y.second) (spell_with w y.equations),
      length-append ((spell_head y.first ++ plain kind.Meets ∷ spell_head y.second) ++ spell_with w y.equations) (plain kind.Semicolon ∷ []),
    )

items_sum : (is : List Item) (c : Counts) → AllByRecursion IsItem is → names_in_rules (flat_map rules_in is) ≤ length (spell_items c is)
items_sum [] c each = omega arith
items_sum (types names ∷ is) c each = omega (arith, items_sum is (counted c (types names)) each.1, length-append (spell_item c (types names)) (spell_items (counted c (types names)) is))
items_sum (symbol s ∷ is) c each = omega (arith, items_sum is (counted c (symbol s)) each.1, length-append (spell_item c (symbol s)) (spell_items (counted c (symbol s)) is))
items_sum (rule w y ∷ is) c each =
    omega (arith, rule_sum c.limits (c.rules + 1) w y each.0, items_sum is (counted c (rule w y)) each.1, length-append (spell_item c (rule w y)) (spell_items (counted c (rule w y)) is))

-- ---- lists without a mark

abbrev Unmarked : Spelling → Type 0
Unmarked = AllByRecursion (λ m. m.past ≡ false)

unmarked_all : (s : List Sign) → Unmarked (unmarked s)
unmarked_all [] = tt
unmarked_all (x ∷ s) = (refl, unmarked_all s)

front_all : (a b : Spelling) → Unmarked (a ++ b) → Unmarked a
front_all [] b all = tt
front_all (m ∷ a) b all = (all.0, front_all a b all.1)

back_all : (a b : Spelling) → Unmarked (a ++ b) → Unmarked b
back_all [] b all = all
back_all (m ∷ a) b all = back_all a b all.1

-- an element without a mark is within the limit
abbrev Within : {A : Type 0} → ℕ → (ℕ → A → Spelling) → Type 0
Within {A = A} most f = (number : ℕ) (x : A) → Unmarked (f number x) → number ≤ most

commas_within : {A : Type 0} (most : ℕ) (f : ℕ → A → Spelling) → Within most f → (number : ℕ) (l : List A) → number ≤ most + 1 →
    Unmarked (flat_map (λ b. plain kind.Comma ∷ b) (numbered f number l)) → number + length l ≤ most + 1
commas_within most f each number [] le all = omega (arith, le)
commas_within most f each number (x ∷ l) le all =
    let here = each number x (front_all (f number x) _ all.1) in
    let rest = commas_within most f each (number + 1) l (omega (arith, here)) (back_all (f number x) _ all.1) in
    omega (arith, rest)

separated_within : {A : Type 0} (most : ℕ) (f : ℕ → A → Spelling) → Within most f → (number : ℕ) (l : List A) → number ≤ most + 1 →
    Unmarked (separated (numbered f number l)) → number + length l ≤ most + 1
separated_within most f each number [] le all = omega (arith, le)
separated_within most f each number (x ∷ l) le all =
    let here = each number x (front_all (f number x) _ all) in
    let rest = commas_within most f each (number + 1) l (omega (arith, here)) (back_all (f number x) _ all) in
    omega (arith, rest)

auxiliary_within : Within max_ports spell_auxiliary
auxiliary_within number p all = ltb-false max_ports number all.0

type_within : Within max_types spell_type
type_within number n all = ltb-false max_types number all.0

free_within : (limits : TextLimits) → Within (max_free limits) (spell_free limits)
free_within limits number f all = ltb-false (max_free limits) number all.0

classes_within : (number : ℕ) (cs : List (List SourcePort)) → number ≤ max_ports + 1 → AllByRecursion (λ c. 0 < length c) cs → Unmarked (spell_classes number cs) → (number + length (flat_map (λ c. c) cs) ≤ max_ports + 1) × (number + length cs ≤ max_ports + 1)
classes_within number [] le some all = (omega (arith, le), omega (arith, le))
classes_within number ([] ∷ cs) le some all = absurd (let h = some.0 in omega (arith, h))
classes_within number ((p ∷ c) ∷ cs) le some all =
    let front = front_all (spell_class number (p ∷ c)) (spell_classes (number + length (p ∷ c)) cs) all in
    let here : number + length (p ∷ c) ≤ max_ports + 1 =
    separated_within max_ports spell_auxiliary auxiliary_within number (p ∷ c) le (front_all (separated (numbered spell_auxiliary number (p ∷ c))) (plain kind.CloseBrace ∷ []) front.1) in
    let rest = classes_within (number + length (p ∷ c)) cs here some.1 (back_all (spell_class number (p ∷ c)) (spell_classes (number + length (p ∷ c)) cs) all) in
    (omega (arith, rest.0, length-append (p ∷ c) (flat_map (λ c. c) cs)), omega (arith, rest.1))

symbol_sized : (limits : TextLimits) (number : ℕ) (s : SourceSymbol) → AllByRecursion (λ c. 0 < length c) s.classes → Unmarked (spell_symbol limits number s) → IsSizedSymbol s
symbol_sized limits number s some all =
    let ports : Spelling = spell_port false s.port in
    let tail = front_all (spell_port false s.port ++ spell_classes 1 s.classes) (plain kind.Semicolon ∷ []) all.1.1.1 in
    let both = classes_within 1 s.classes (omega arith) some (back_all (spell_port false s.port) (spell_classes 1 s.classes) tail) in
    let a = both.0 in
    let b = both.1 in
    record { ports = omega (arith, a); classes = omega (arith, b) }

symbols_sized : (is : List Item) (c : Counts) → AllByRecursion IsItem is → Unmarked (spell_items c is) → AllByRecursion IsSizedSymbol (flat_map symbols_in is)
symbols_sized [] c each all = tt
symbols_sized (types names ∷ is) c each all = symbols_sized is (counted c (types names)) each.1 (back_all (spell_item c (types names)) (spell_items (counted c (types names)) is) all)
symbols_sized (symbol s ∷ is) c each all = (
  symbol_sized c.limits (c.symbols + 1) s each.0 (front_all (spell_item c (symbol s)) (spell_items (counted c (symbol s)) is) all),
  symbols_sized is (counted c (symbol s)) each.1 (back_all (spell_item c (symbol s)) (spell_items (counted c (symbol s)) is) all),
)
symbols_sized (rule w y ∷ is) c each all = symbols_sized is (counted c (rule w y)) each.1 (back_all (spell_item c (rule w y)) (spell_items (counted c (rule w y)) is) all)

-- no list is longer than its limit
record IsFew (c : Counts) : Type 0 where
  types : c.types ≤ max_types
  symbols : c.symbols ≤ max_symbols c.limits
  rules : c.rules ≤ max_rules c.limits

item_few : (c : Counts) (i : Item) → IsFew c → Unmarked (spell_item c i) → IsFew (counted c i)
item_few c (types names) few all =
    let n : (c.types + 1) + length names ≤ max_types + 1 =
    separated_within max_types spell_type type_within (c.types + 1) names (omega (arith, few.types)) (front_all (separated (numbered spell_type (c.types + 1) names)) (plain kind.Semicolon ∷ []) all.1) in
    record { types = omega (arith, n); symbols = few.symbols; rules = few.rules }
item_few c (symbol s) few all = record { types = few.types; symbols = ltb-false (max_symbols c.limits) (c.symbols + 1) all.1.0; rules = few.rules }
item_few c (rule w y) few all = record { types = few.types; symbols = few.symbols; rules = ltb-false (max_rules c.limits) (c.rules + 1) all.0 }

items_few : (is : List Item) (c : Counts) → IsFew c → Unmarked (spell_items c is) → IsFew (counted_all c is)
items_few [] c few all = few
items_few (i ∷ is) c few all = items_few is (counted c i) (item_few c i few (front_all (spell_item c i) (spell_items (counted c i) is) all)) (back_all (spell_item c i) (spell_items (counted c i) is) all)

-- the counted declarations are in the lists of the tree
count_types : (is : List Item) (c : Counts) → c.types + length (flat_map types_in is) ≡ (counted_all c is).types
count_types [] c = omega arith
count_types (types names ∷ is) c = omega (arith, count_types is (counted c (types names)), length-append names (flat_map types_in is))
count_types (symbol s ∷ is) c = count_types is (counted c (symbol s))
count_types (rule w y ∷ is) c = count_types is (counted c (rule w y))

count_symbols : (is : List Item) (c : Counts) → c.symbols + length (flat_map symbols_in is) ≡ (counted_all c is).symbols
count_symbols [] c = omega arith
count_symbols (types names ∷ is) c = count_symbols is (counted c (types names))
count_symbols (symbol s ∷ is) c = omega (arith, count_symbols is (counted c (symbol s)))
count_symbols (rule w y ∷ is) c = count_symbols is (counted c (rule w y))

count_rules : (is : List Item) (c : Counts) → c.rules + length (flat_map rules_in is) ≡ (counted_all c is).rules
count_rules [] c = omega arith
count_rules (types names ∷ is) c = count_rules is (counted c (types names))
count_rules (symbol s ∷ is) c = count_rules is (counted c (symbol s))
count_rules (rule w y ∷ is) c = omega (arith, count_rules is (counted c (rule w y)))

-- the limits stay
count_limits : (is : List Item) (c : Counts) → (counted_all c is).limits ≡ c.limits
count_limits [] c = refl
count_limits (types names ∷ is) c = count_limits is (counted c (types names))
count_limits (symbol s ∷ is) c = count_limits is (counted c (symbol s))
count_limits (rule w y ∷ is) c = count_limits is (counted c (rule w y))

-- ---- a whole program

net_names : (limits : TextLimits) (n : SourceNet) → names_in_equations n.equations ≤ length (spell_net limits n)
net_names limits n =
    let names = equations_sum n.equations in
    omega (
      arith,
      names,
      length-append (separated (numbered (spell_free limits) 1 n.free)) (plain kind.CloseParenthesis ∷ plain kind.OpenBrace ∷ flat_map spell_equation n.equations),
      length-append (separated (numbered (spell_free limits) 1 n.free) ++ plain kind.CloseParenthesis ∷ plain kind.OpenBrace ∷ flat_map spell_equation n.equations) (plain kind.CloseBrace ∷ []),
    )

net_free : (limits : TextLimits) (n : SourceNet) → Unmarked (spell_net limits n) → length n.free ≤ max_free limits
net_free limits n all =
    let frees : 1 + length n.free ≤ max_free limits + 1 =
    separated_within (max_free limits) (spell_free limits) (free_within limits) 1 n.free (omega arith) (front_all (separated (numbered (spell_free limits) 1 n.free)) _ (front_all _ (plain kind.CloseBrace ∷ []) all.1.1)) in
    omega (arith, frees)

program_sized : (limits : TextLimits) (p : GrammarProgram) (s : List Sign) → spelling limits p ≡ unmarked s → length s ≤ text_limit limits → IsSized (source_of limits p)
program_sized limits p s is short =
    let all : Unmarked (spelling limits p) = subst Unmarked (sym is) (unmarked_all s) in
    let size : length (spelling limits p) ≡ length s = ap length is ∙ length-map s within in
    let whole = length-append (spell_items (none_yet limits) p.items) (spell_net limits p.net) in
    let items = front_all (spell_items (none_yet limits) p.items) (spell_net limits p.net) all in
    let few = items_few p.items (none_yet limits) (record { types = omega arith; symbols = omega arith; rules = omega arith }) items in
    let by = count_limits p.items (none_yet limits) in
    let symbols = subst (λ z. (counted_all (none_yet limits) p.items).symbols ≤ max_symbols z) by few.symbols in
    let rules = subst (λ z. (counted_all (none_yet limits) p.items).rules ≤ max_rules z) by few.rules in
    record {
      types = omega (arith, few.types, count_types p.items (none_yet limits));
      symbols = omega (arith, symbols, count_symbols p.items (none_yet limits));
      ports = symbols_sized p.items (none_yet limits) p.each items;
      rules = omega (arith, rules, count_rules p.items (none_yet limits));
      free = net_free limits p.net (back_all (spell_items (none_yet limits) p.items) (spell_net limits p.net) all);
      names = omega (arith, net_names limits p.net, size, whole, short);
      heads = omega (arith, items_sum p.items (none_yet limits) p.each, size, whole, short);
    }

pub tree_sized : (limits : TextLimits) (text : List ℕ) (source : Source) → IsTreeOf limits text source → IsSized source
tree_sized limits text source t =
    let count = fits_text text 0 t.tokens (omega arith) (tokens_in_order limits text t.tokens t.read) (tokens_stand limits text t.tokens t.read) in
    let short = t.read.short in
    let same = length-map t.tokens (sign_of text) in
    subst IsSized t.tree.2 (program_sized limits t.tree.0 (signs_of text t.tokens) t.tree.1 (omega (arith, count, short, same)))

pub sized_when : (limits : TextLimits) (text : List ℕ) (r : Result Source Fault) → Parses limits text r → IfOk r IsSized
sized_when limits text (Ok source) p = tree_sized limits text source p
sized_when limits text (Err e) p = tt
