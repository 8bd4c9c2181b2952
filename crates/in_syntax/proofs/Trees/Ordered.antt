-- The names and the ~ of a tree are in its text in the order in which the tree lists them.
use Rattle.std.proofs.Common.{◌≡◌, ℕ, zero, suc, ◌+◌, ◌≤◌, ◌<◌, List, [], ◌∷◌, ◌++◌, map, refl, sym, ◌∙◌, ap, subst, arith, append_assoc, append-nil, Result, Ok, Err, IfOk, Option, Some, None}
use Rattle.std.specs.List.{AllByRecursion, flat_map}
use Rattle.in_syntax.specs.declared.places.Place.{Place}
use Rattle.in_syntax.specs.declared.tree.Term.{Term, out-Term}
use Rattle.in_syntax.specs.declared.tree.Term.TheFolds.{fold_out-Term}
use Rattle.in_syntax.specs.declared.tree.Equation.{Equation}
use Rattle.in_syntax.specs.declared.tree.Source.{Source}
use Rattle.in_syntax.specs.declared.tree.SourceNet.{SourceNet}
use Rattle.in_syntax.specs.declared.tree.SourceRule.{SourceRule}
use Rattle.in_syntax.specs.declared.tree.Head.{Head}
use Rattle.in_syntax.specs.declared.counts.Counts.{Counts}
use Rattle.in_syntax.specs.declared.faults.Fault.{Fault}
use Rattle.in_syntax.specs.declared.words.Token.{Token}
use Rattle.in_syntax.specs.declared.words.TokenKind.{TokenKind}
use Rattle.in_syntax.specs.declared.words.TokenKind.TheVariants as kind
use Rattle.in_syntax.specs.declared.signs.Sign.{Sign}
use Rattle.in_syntax.specs.declared.signs.Sign.TheVariants.{Named, Tilde, Plain}
use Rattle.in_syntax.specs.Grammar.{Spelling, within, plain, separated, numbered, spell_arguments, spell_term, spell_outermost, spell_head, spell_with, StandAfterWord, spell_rule, spell_equation, IsItem, spell_free, spell_net, Item, types, symbol, rule, none_yet, counted, spell_item, spell_items, GrammarProgram, spelling, rules_in, source_of}
use Rattle.in_syntax.specs.Programs.{sign_at, signs_of, unmarked}
use Rattle.in_syntax.specs.Parsing.{IsTreeOf, Parses}
use Rattle.in_syntax.specs.Sizes.{total, names_in}
use Rattle.in_syntax.specs.Order.{Rises, term_places, equation_places, IsInOrder, head_places, IsRuleInOrder, IsWrittenInOrder}
use Rattle.in_syntax.specs.Tokens.{StandsIn, StandInOrder}
use Rattle.in_syntax.proofs.Lexing.Standing.{tokens_stand, tokens_in_order}
use Rattle.in_base.proofs.Each.{all_left, all_right, all_append}
use Rattle.in_syntax.proofs.Trees.Terms.{names_out, spell_out}
use Rattle.in_syntax.proofs.Grammar.Separated.{after}
use Rattle.in_syntax.specs.declared.text_limits.TextLimits.{TextLimits}

-- ---- the places of signs

-- the place that the tree keeps of a sign
abbrev sign_places : Sign → List Place
sign_places (Named n) = n.place ∷ []
sign_places (Tilde p) = p ∷ []
sign_places (Plain k) = []

abbrev places_of : Spelling → List Place
places_of [] = []
places_of (m ∷ ms) = sign_places m.sign ++ places_of ms

places_append : (a b : Spelling) → places_of (a ++ b) ≡ places_of a ++ places_of b
places_append [] b = refl
places_append (m ∷ a) b = ap (λ z. sign_places m.sign ++ z) (places_append a b) ∙ sym (append_assoc (sign_places m.sign) (places_of a) (places_of b))

-- a sign that closes a list has no place
places_closed : (a : Spelling) (k : TokenKind) → places_of (a ++ plain k ∷ []) ≡ places_of a
places_closed a k = places_append a (plain k ∷ []) ∙ append-nil (places_of a)

-- a list that is spelled one by one has the places of each, one after another
both_places : (a b : Spelling) (p q : List Place) → places_of a ≡ p → places_of b ≡ q → places_of (a ++ b) ≡ p ++ q
both_places a b p q e f = places_append a b ∙ ap (λ z. z ++ places_of b) e ∙ ap (λ z. p ++ z) f

-- ---- the places that the tree spells are those that it lists

-- the signs of a term have its places
abbrev Placed : ℕ → Type 0
Placed h = (u : Term) (depth : ℕ) → names_in u ≤ h → places_of (spell_term u depth) ≡ term_places u

abbrev all_places : List Term → List Place
all_places us = flat_map (λ ps. ps) (map term_places us)

commas_placed : (h : ℕ) → Placed h → (d : ℕ) (us : List Term) → total (map names_in us) ≤ h → places_of (after (map (λ a. a d) (map spell_term us))) ≡ all_places us
commas_placed h ih d [] short = refl
commas_placed h ih d (u ∷ us) short =
    both_places (spell_term u d) (after (map (λ a. a d) (map spell_term us))) (term_places u) (all_places us)
    (ih u d (omega (arith, short))) (commas_placed h ih d us (omega (arith, short)))

arguments_placed : (h : ℕ) → Placed h → (d : ℕ) (us : List Term) → total (map names_in us) ≤ h → places_of (spell_arguments (map (λ a. a d) (map spell_term us))) ≡ all_places us
arguments_placed h ih d [] short = refl
arguments_placed h ih d (u ∷ us) short =
    let rest : Spelling = after (map (λ a. a d) (map spell_term us)) in
    places_closed (spell_term u d ++ rest) kind.CloseParenthesis
    ∙ both_places (spell_term u d) rest (term_places u) (all_places us) (ih u d (omega (arith, short))) (commas_placed h ih d us (omega (arith, short)))

pub places_out : (u : Term) → term_places u ≡ (out-Term u).name.place ∷ all_places (out-Term u).args
places_out = fold_out-Term (List Place) (λ f. f.name.place ∷ flat_map (λ ps. ps) f.args)

placed : (h : ℕ) → Placed h
placed zero u depth short = absurd (omega (arith, names_out u))
placed (suc h) u depth short =
    let out = names_out u in
    ap (λ (f : ℕ → Spelling). places_of (f depth)) (spell_out u)
    ∙ ap (λ z. (out-Term u).name.place ∷ z) (arguments_placed h (λ v d le. placed h v d le) (depth + 1) (out-Term u).args (omega (arith, out)))
    ∙ sym (places_out u)

term_placed : (u : Term) (depth : ℕ) → places_of (spell_term u depth) ≡ term_places u
term_placed u depth = placed (names_in u) u depth (omega arith)

equation_placed : (e : Equation) → places_of (spell_equation e) ≡ equation_places e
equation_placed e =
    places_closed (spell_term e.left 1 ++ within (Tilde e.tilde) ∷ spell_term e.right 1) kind.Semicolon
    ∙ both_places (spell_term e.left 1) (within (Tilde e.tilde) ∷ spell_term e.right 1) (term_places e.left) (e.tilde ∷ term_places e.right)
    (term_placed e.left 1) (ap (λ z. e.tilde ∷ z) (term_placed e.right 1))

equations_placed : (es : List Equation) → places_of (flat_map spell_equation es) ≡ flat_map equation_places es
equations_placed [] = refl
equations_placed (e ∷ es) = both_places (spell_equation e) (flat_map spell_equation es) (equation_places e) (flat_map equation_places es) (equation_placed e) (equations_placed es)

outermost_after : (ts : List Term) → places_of (after (map spell_outermost ts)) ≡ flat_map term_places ts
outermost_after [] = refl
outermost_after (t ∷ ts) = both_places (spell_term t 1) (after (map spell_outermost ts)) (term_places t) (flat_map term_places ts) (term_placed t 1) (outermost_after ts)

outermost_placed : (ts : List Term) → places_of (separated (map spell_outermost ts)) ≡ flat_map term_places ts
outermost_placed [] = refl
outermost_placed (t ∷ ts) = both_places (spell_term t 1) (after (map spell_outermost ts)) (term_places t) (flat_map term_places ts) (term_placed t 1) (outermost_after ts)

head_placed : (h : Head) → places_of (spell_head h) ≡ head_places h
head_placed h = ap (λ z. h.name.place ∷ z) (places_closed (separated (map spell_outermost h.terms)) kind.CloseBracket ∙ outermost_placed h.terms)

heads_placed : (f h : Head) → places_of (spell_head f ++ plain kind.Meets ∷ spell_head h) ≡ head_places f ++ head_places h
heads_placed f h = both_places (spell_head f) (plain kind.Meets ∷ spell_head h) (head_places f) (head_places h) (head_placed f) (head_placed h)

-- ---- parts of lists that rise

pub front_rises : (a b : List Place) → Rises (a ++ b) → Rises a
front_rises [] b up = tt
front_rises (p ∷ a) b up = (all_left (λ q. p.from < q.from) a b up.0, front_rises a b up.1)

pub back_rises : (a b : List Place) → Rises (a ++ b) → Rises b
back_rises [] b up = up
back_rises (p ∷ a) b up = back_rises a b up.1

-- the signs' places rise
abbrev Rising : Spelling → Type 0
Rising ms = Rises (places_of ms)

front_rising : (a b : Spelling) → Rising (a ++ b) → Rising a
front_rising a b up = front_rises (places_of a) (places_of b) (subst Rises (places_append a b) up)

back_rising : (a b : Spelling) → Rising (a ++ b) → Rising b
back_rising a b up = back_rises (places_of a) (places_of b) (subst Rises (places_append a b) up)

-- a rule's names and ~ rise, if its signs do: the word `with` is between them
with_rising : (ps : List Place) (w : Option Place) (es : List Equation) → StandAfterWord w es → Rises (ps ++ places_of (spell_with w es)) → Rises (ps ++ flat_map equation_places es)
with_rising ps None es none up = subst (λ z. Rises (ps ++ flat_map equation_places z)) (sym none) up
with_rising ps (Some p) es some up = without ps (subst (λ z. Rises (ps ++ p ∷ z)) (places_closed (flat_map spell_equation es) kind.CloseBrace ∙ equations_placed es) up)
  where
    without : (ps : List Place) → Rises (ps ++ p ∷ flat_map equation_places es) → Rises (ps ++ flat_map equation_places es)
    without [] up = up.1
    without (q ∷ ps) up = (
      all_append (λ r. q.from < r.from) ps (flat_map equation_places es) (all_left (λ r. q.from < r.from) ps (p ∷ flat_map equation_places es) up.0)
          (all_right (λ r. q.from < r.from) ps (p ∷ flat_map equation_places es) up.0).1,
      without ps up.1,
    )

rule_rising : (limits : TextLimits) (number : ℕ) (w : Option Place) (y : SourceRule) → StandAfterWord w y.equations → Rising (spell_rule limits number w y) → IsRuleInOrder y
rule_rising limits number w y is up =
    let heads : Spelling = spell_head y.first ++ plain kind.Meets ∷ spell_head y.second in
    with_rising (head_places y.first ++ head_places y.second) w y.equations is
    (subst (λ z. Rises (z ++ places_of (spell_with w y.equations))) (heads_placed y.first y.second)
    (subst Rises (places_append heads (spell_with w y.equations)) (front_rising (heads ++ spell_with w y.equations) (plain kind.Semicolon ∷ []) up)))

-- ---- the places of tokens rise

abbrev AllFrom : ℕ → List Place → Type 0
AllFrom n = AllByRecursion (λ q. n ≤ q.from)

all_from_less : (m n : ℕ) (ps : List Place) → m ≤ n → AllFrom n ps → AllFrom m ps
all_from_less m n [] le all = tt
all_from_less m n (p ∷ ps) le all = (omega (arith, le, all.0), all_from_less m n ps le all.1)

all_after : (p : Place) (ps : List Place) → p.from < p.to → AllFrom p.to ps → AllByRecursion (λ q. p.from < q.from) ps
all_after p [] some all = tt
all_after p (q ∷ ps) some all = (omega (arith, some, all.0), all_after p ps some all.1)

sign_rises : (text : List ℕ) (n : ℕ) (k : TokenKind) (p : Place) (ps : List Place) → n ≤ p.from → p.from < p.to → Rises ps → AllFrom p.to ps →
    Rises (sign_places (sign_at text k p) ++ ps) × AllFrom n (sign_places (sign_at text k p) ++ ps)
sign_rises text n k p ps le some up all = go k
  where
    later : AllFrom n ps
    later = all_from_less n p.to ps (omega (arith, le, some)) all

    go : (k : TokenKind) → Rises (sign_places (sign_at text k p) ++ ps) × AllFrom n (sign_places (sign_at text k p) ++ ps)
    go kind.Name = ((all_after p ps some all, up), (le, later))
    go kind.Tilde = ((all_after p ps some all, up), (le, later))
    go _ = (up, later)

tokens_rise : (text : List ℕ) (n : ℕ) (ts : List Token) → StandInOrder n ts → AllByRecursion (StandsIn text) ts →
    Rising (unmarked (signs_of text ts)) × AllFrom n (places_of (unmarked (signs_of text ts)))
tokens_rise text n [] order all = (tt, tt)
tokens_rise text n (t ∷ ts) order all =
    let rest = tokens_rise text t.place.to ts order.1 all.1 in
    sign_rises text n t.kind t.place (places_of (unmarked (signs_of text ts))) order.0 all.0.some rest.0 rest.1

-- ---- a whole program

rules_in_order : (is : List Item) (c : Counts) → AllByRecursion IsItem is → Rising (spell_items c is) → AllByRecursion IsRuleInOrder (flat_map rules_in is)
rules_in_order [] c each up = tt
rules_in_order (types names ∷ is) c each up = rules_in_order is (counted c (types names)) each.1 (back_rising (spell_item c (types names)) (spell_items (counted c (types names)) is) up)
rules_in_order (symbol s ∷ is) c each up = rules_in_order is (counted c (symbol s)) each.1 (back_rising (spell_item c (symbol s)) (spell_items (counted c (symbol s)) is) up)
rules_in_order (rule w y ∷ is) c each up = (
  rule_rising c.limits (c.rules + 1) w y each.0 (front_rising (spell_item c (rule w y)) (spell_items (counted c (rule w y)) is) up),
  rules_in_order is (counted c (rule w y)) each.1 (back_rising (spell_item c (rule w y)) (spell_items (counted c (rule w y)) is) up),
)

net_in_order : (limits : TextLimits) (n : SourceNet) → Rising (spell_net limits n) → IsInOrder n
net_in_order limits n up =
    let free : Spelling = separated (numbered (spell_free limits) 1 n.free) in
    let opened : Spelling = plain kind.CloseParenthesis ∷ plain kind.OpenBrace ∷ flat_map spell_equation n.equations in
    subst Rises (equations_placed n.equations) (back_rising free opened (front_rising (free ++ opened) (plain kind.CloseBrace ∷ []) up))

program_in_order : (limits : TextLimits) (p : GrammarProgram) → Rising (spelling limits p) → IsWrittenInOrder (source_of limits p)
program_in_order limits p up = record {
  rules = rules_in_order p.items (none_yet limits) p.each (front_rising (spell_items (none_yet limits) p.items) (spell_net limits p.net) up);
  net = net_in_order limits p.net (back_rising (spell_items (none_yet limits) p.items) (spell_net limits p.net) up);
}

pub tree_in_order : (limits : TextLimits) (text : List ℕ) (source : Source) → IsTreeOf limits text source → IsWrittenInOrder source
tree_in_order limits text source t =
    let up = (tokens_rise text 0 t.tokens (tokens_in_order limits text t.tokens t.read) (tokens_stand limits text t.tokens t.read)).0 in
    subst IsWrittenInOrder t.tree.2 (program_in_order limits t.tree.0 (subst Rising (sym t.tree.1) up))

pub in_order_when : (limits : TextLimits) (text : List ℕ) (r : Result Source Fault) → Parses limits text r → IfOk r IsWrittenInOrder
in_order_when limits text (Ok source) p = tree_in_order limits text source p
in_order_when limits text (Err e) p = tt
