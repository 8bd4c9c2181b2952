-- The tokens read before a reader are spelled so.
use Rattle.std.proofs.Common.{◌≡◌, ℕ, ◌+◌, ◌<◌, Bool, true, false, nat_lt, List, [], ◌∷◌, ◌++◌, length, map, refl, sym, ◌∙◌, ap, subst, append_assoc, append-nil, length-append, arith, Option, Some, None}
use Rattle.std.specs.List.{flat_map, AllByRecursion}
use Rattle.std.proofs.lemmas.List.{map_push}
use Rattle.std.proofs.lemmas.Slice.Eq.{bytes_eq-Decides}
use Rattle.in_syntax.specs.declared.words.TokenKind.TheVariants as kind
use Rattle.in_syntax.specs.declared.signs.Sign.{Sign}
use Rattle.in_syntax.specs.declared.signs.Sign.TheVariants.{Named, Tilde, Plain}
use Rattle.in_syntax.specs.declared.counts.Counts.{Counts}
use Rattle.in_syntax.specs.declared.places.Place.{Place}
use Rattle.in_syntax.specs.declared.tree.Name.{Name}
use Rattle.in_syntax.specs.declared.tree.SourcePort.{SourcePort}
use Rattle.in_syntax.specs.declared.tree.SourceSymbol.{SourceSymbol}
use Rattle.in_syntax.specs.declared.tree.SourceRule.{SourceRule}
use Rattle.in_syntax.specs.declared.tree.Head.{Head}
use Rattle.in_syntax.specs.declared.tree.SourceFree.{SourceFree}
use Rattle.in_syntax.specs.declared.tree.SourceNet.{SourceNet}
use Rattle.in_syntax.specs.declared.tree.Term.{Term, out-Term, roll-Term}
use Rattle.in_syntax.specs.declared.tree.Term.TheOpen.{Term-F}
use Rattle.in_syntax.specs.declared.tree.Term.TheFolds.{fold_out-Term}
use Rattle.in_syntax.specs.declared.tree.Term.TheViews.{out-roll-Term}
use Rattle.in_syntax.specs.declared.reader.Reader.{Reader}
use Rattle.in_syntax.specs.declared.states.State.{State}
use Rattle.in_syntax.specs.declared.states.State.TheVariants as state
use Rattle.in_syntax.specs.declared.states.PortOf.{PortOf}
use Rattle.in_syntax.specs.declared.states.PortOf.TheVariants.{Principal, Auxiliary, Free}
use Rattle.in_syntax.specs.declared.states.HeadOf.{HeadOf}
use Rattle.in_syntax.specs.declared.states.HeadOf.TheVariants.{First, Second}
use Rattle.in_syntax.specs.declared.states.TermOf.{TermOf}
use Rattle.in_syntax.specs.declared.states.TermOf.TheVariants.{Left, Right, Inside}
use Rattle.in_syntax.specs.declared.states.Nest.{Nest}
use Rattle.in_syntax.specs.declared.states.EquationsOf.{EquationsOf}
use Rattle.in_syntax.specs.declared.states.EquationsOf.TheVariants as body
use Rattle.in_syntax.specs.declared.text_limits.TextLimits.{TextLimits}
use Rattle.in_syntax.specs.declared.text_limits.TextLimits.TheVariants.{Usual, Large}
use Rattle.in_syntax.specs.TextLimits.{max_symbols, max_rules, max_free}
use Rattle.in_syntax.specs.Grammar.{Marked, Spelling, marked, within, named, plain, separated, numbered, spell_port, spell_auxiliary, spell_classes, spell_symbol, spell_type, spell_types, spell_arguments, spell_level, spell_term, spell_outermost, spell_head, with_word, is_with, word_at, spell_with, StandAfterWord, spell_rule, spell_equation, spell_free, spell_net, max_ports, max_depth, Item, types, symbol, rule, none_yet, counted, spell_item, spell_items, IsItem, types_in, symbols_in, rules_in}
use Rattle.in_syntax.specs.Steps.{Step, goes, adds_types, adds_symbol, adds_rule, stuck, at_item, at_type_name, at_type_end, at_symbol_name, at_symbol_colon, at_port_kind, after_port, at_port_sign, at_symbol_end, at_class_end, at_head_name, at_head_open, at_head_first, at_with, at_head_end, at_rule_open, at_rule_close, at_net_open, at_free_first, at_free_name, at_free_colon, at_free_end, at_body_open, at_equation, at_term_name, after_argument, after_left, after_right, after_head_term, after_outermost, after_term, at_term_end, at_term_open, step, at_state, with_types, with_symbol, with_rule, counts_of, start}
use Rattle.in_syntax.specs.Trees.{bare, bare_head, with_argument}
use Rattle.in_syntax.proofs.Grammar.Separated.{comma, before, separated_snoc, before_is, nonempty_snoc, flat_snoc, numbered_snoc, nonempty_numbered, ports_after, ports_after_snoc, classes_snoc, counted_all, counted_snoc, items_snoc}
use Rattle.in_syntax.proofs.Grammar.Paths.{turns, turn_of, Path}
use Rattle.in_base.proofs.Each.{all_append}

-- ---- the part of an item or the net that is read before a state

abbrev pub arguments_at : ℕ → List Term → List Spelling
arguments_at depth ts = map (λ a. a depth) (map spell_term ts)

-- a term up to where its next argument begins
abbrev pub opened : ℕ → Term → Spelling
opened depth t = marked (nat_lt max_depth depth) (Named (out-Term t).name) ∷ plain kind.OpenParenthesis ∷ before (arguments_at (depth + 1) (out-Term t).args)

abbrev pub stacked : List Term → Spelling
stacked [] = []
stacked (t ∷ around) = stacked around ++ opened (length around + 1) t

abbrev pub types_front : Counts → List Name → Spelling
types_front c names = plain kind.Type ∷ separated (numbered spell_type (c.types + 1) names)

abbrev pub symbol_front : Counts → SourceSymbol → Spelling
symbol_front c s =
    plain kind.Symbol ∷ marked (nat_lt (max_symbols c.limits) (c.symbols + 1)) (Named s.name) ∷ plain kind.Colon ∷ spell_port false s.port ++ spell_classes 1 s.classes

abbrev pub head_of_front : Counts → HeadOf → Spelling
head_of_front c First = marked (nat_lt (max_rules c.limits) (c.rules + 1)) (Plain kind.Rule) ∷ []
head_of_front c (Second h) = marked (nat_lt (max_rules c.limits) (c.rules + 1)) (Plain kind.Rule) ∷ spell_head h ++ plain kind.Meets ∷ []

-- a head up to where its next term begins
abbrev pub head_before : Counts → HeadOf → Head → Spelling
head_before c o h = head_of_front c o ++ named h.name ∷ plain kind.OpenBracket ∷ before (map spell_outermost h.terms)

abbrev pub frees_front : Counts → List SourceFree → Spelling
frees_front c fs = plain kind.Net ∷ plain kind.OpenParenthesis ∷ separated (numbered (spell_free c.limits) 1 fs)

abbrev pub frees_before : Counts → List SourceFree → Spelling
frees_before c fs = plain kind.Net ∷ plain kind.OpenParenthesis ∷ before (numbered (spell_free c.limits) 1 fs)

-- a free name after those before it
abbrev pub free_name : Counts → List SourceFree → Name → Marked
free_name c fs n = marked (nat_lt (max_free c.limits) (1 + length fs)) (Named n)

abbrev pub net_front : Counts → SourceNet → Spelling
net_front c n = frees_front c n.free ++ plain kind.CloseParenthesis ∷ plain kind.OpenBrace ∷ flat_map spell_equation n.equations

-- a rule's heads
abbrev pub heads_front : Counts → Head → Head → Spelling
heads_front c f h = marked (nat_lt (max_rules c.limits) (c.rules + 1)) (Plain kind.Rule) ∷ (spell_head f ++ plain kind.Meets ∷ spell_head h)

-- up to the beginning of the next equation
abbrev pub body_front : Counts → EquationsOf → Spelling
body_front c (body.Net n) = net_front c n
body_front c (body.Rule y p) = heads_front c y.first y.second ++ named (word_at p) ∷ plain kind.OpenBrace ∷ flat_map spell_equation y.equations

-- the signs before a term and the terms that are open around it
abbrev pub of_front : Counts → TermOf → Spelling
of_front c (Left b) = body_front c b
of_front c (Right b l p) = body_front c b ++ spell_term l 1 ++ within (Tilde p) ∷ []
of_front c (Inside o h) = head_before c o h

abbrev pub nest_front : Counts → Nest → Spelling
nest_front c b = of_front c b.of ++ stacked b.around

-- the number of the port after these
abbrev pub next_port : SourceSymbol → List SourcePort → ℕ
next_port s c = ports_after 1 s.classes + length c

abbrev pub class_before : Counts → SourceSymbol → List SourcePort → Spelling
class_before k s c = symbol_front k s ++ plain kind.OpenBrace ∷ before (numbered spell_auxiliary (ports_after 1 s.classes) c)

abbrev pub port_front : Counts → PortOf → Spelling
port_front k (Principal n) = plain kind.Symbol ∷ marked (nat_lt (max_symbols k.limits) (k.symbols + 1)) (Named n) ∷ plain kind.Colon ∷ []
port_front k (Auxiliary s c number) = class_before k s c
port_front k (Free fs n) = frees_before k fs ++ free_name k fs n ∷ plain kind.Colon ∷ []

-- whether the port that is written passes the limit
abbrev pub port_past : PortOf → Bool
port_past (Principal n) = false
port_past (Auxiliary s c number) = nat_lt max_ports (next_port s c)
port_past (Free fs n) = false

abbrev pub spelled : Counts → State → Spelling
spelled k state.Item = []
spelled k (state.TypeName names) = plain kind.Type ∷ before (numbered spell_type (k.types + 1) names)
spelled k (state.TypeEnd names) = types_front k names
spelled k state.SymbolName = plain kind.Symbol ∷ []
spelled k (state.SymbolColon n) = plain kind.Symbol ∷ marked (nat_lt (max_symbols k.limits) (k.symbols + 1)) (Named n) ∷ []
spelled k (state.PortKind o) = port_front k o
spelled k (state.PortSign o n) = port_front k o ++ marked (port_past o) (Named n) ∷ []
spelled k (state.SymbolEnd s number) = symbol_front k s
spelled k (state.ClassEnd s c number) = symbol_front k s ++ plain kind.OpenBrace ∷ separated (numbered spell_auxiliary (ports_after 1 s.classes) c)
spelled k (state.HeadName o) = head_of_front k o
spelled k (state.HeadOpen o n) = head_of_front k o ++ named n ∷ []
spelled k (state.HeadFirst o n) = head_of_front k o ++ named n ∷ plain kind.OpenBracket ∷ []
spelled k (state.HeadEnd o h) = head_of_front k o ++ spell_head h
spelled k (state.RuleOpen f h p) = heads_front k f h ++ named (word_at p) ∷ []
spelled k (state.RuleClose y p) = heads_front k y.first y.second ++ spell_with (Some p) y.equations
spelled k state.NetOpen = plain kind.Net ∷ []
spelled k state.FreeFirst = plain kind.Net ∷ plain kind.OpenParenthesis ∷ []
spelled k (state.FreeName fs) = frees_before k fs
spelled k (state.FreeColon fs n) = frees_before k fs ++ free_name k fs n ∷ []
spelled k (state.FreeEnd fs) = frees_front k fs
spelled k (state.BodyOpen fs) = frees_front k fs ++ plain kind.CloseParenthesis ∷ []
spelled k (state.Equation b) = body_front k b
spelled k (state.TermName b) = nest_front k b
spelled k (state.TermOpen b n) = nest_front k b ++ marked (nat_lt max_depth (length b.around + 1)) (Named n) ∷ []
spelled k (state.TermEnd b t) = nest_front k b ++ spell_term t (length b.around + 1)
spelled k (state.Done n) = spell_net k.limits n

-- lists that have an element, and the numbers of ports
abbrev pub IsFullPort : PortOf → Type 0
IsFullPort (Principal n) = Unit {0}
IsFullPort (Auxiliary s c number) = AllByRecursion (λ c. 0 < length c) s.classes × (number ≡ next_port s c)
IsFullPort (Free fs n) = Unit {0}

abbrev pub IsFullSign : PortOf → Type 0
IsFullSign (Principal n) = Unit {0}
IsFullSign (Auxiliary s c number) = AllByRecursion (λ c. 0 < length c) s.classes × (number ≡ next_port s c + 1)
IsFullSign (Free fs n) = Unit {0}

abbrev pub IsFull : State → Type 0
IsFull (state.TypeEnd names) = 0 < length names
IsFull (state.PortKind o) = IsFullPort o
IsFull (state.PortSign o k) = IsFullSign o
IsFull (state.SymbolEnd s number) = AllByRecursion (λ c. 0 < length c) s.classes × (number ≡ ports_after 1 s.classes)
IsFull (state.ClassEnd s c number) = AllByRecursion (λ c. 0 < length c) s.classes × (0 < length c) × (number ≡ next_port s c)
IsFull (state.FreeEnd fs) = 0 < length fs
IsFull _ = Unit {0}

-- the property that a step from a state has to keep
abbrev pub KeepsAll : Counts → Spelling → Sign → Step → Type 0
KeepsAll k l x (goes past q) = IsFull q × (spelled k q ≡ l ++ marked past x ∷ [])
KeepsAll k l x (adds_types names) = (0 < length names) × (spell_types (k.types + 1) names ≡ l ++ within x ∷ [])
KeepsAll k l x (adds_symbol s) = AllByRecursion (λ c. 0 < length c) s.classes × (spell_symbol k.limits (k.symbols + 1) s ≡ l ++ within x ∷ [])
KeepsAll k l x (adds_rule y) = (w : Option Place) × StandAfterWord w y.equations × (spell_rule k.limits (k.rules + 1) w y ≡ l ++ within x ∷ [])
KeepsAll k l x stuck = Unit {0}

abbrev pub Keeps : Counts → State → Sign → Step → Type 0
Keeps k p = KeepsAll k (spelled k p)

-- ---- items

keeps_item : (k : Counts) (x : Sign) → Keeps k state.Item x (at_item k x)
keeps_item k (Plain kind.Type) = (tt, refl)
keeps_item k (Plain kind.Symbol) = (tt, refl)
keeps_item k (Plain kind.Rule) = (tt, refl)
keeps_item k (Plain kind.Net) = (tt, refl)
keeps_item k _ = tt

keeps_type_name : (k : Counts) (names : List Name) (x : Sign) → Keeps k (state.TypeName names) x (at_type_name k names x)
keeps_type_name k names (Named n) = (
  nonempty_snoc names n,
  ap (λ z. plain kind.Type ∷ z)
      (ap separated (numbered_snoc spell_type (k.types + 1) names n)
      ∙ separated_snoc (numbered spell_type (k.types + 1) names) (spell_type ((k.types + 1) + length names) n)),
)
keeps_type_name k names _ = tt

keeps_type_end : (k : Counts) (names : List Name) (x : Sign) → 0 < length names → Keeps k (state.TypeEnd names) x (at_type_end names x)
keeps_type_end k names (Plain kind.Comma) full =
    (tt, ap (λ z. plain kind.Type ∷ z) (before_is (numbered spell_type (k.types + 1) names) (nonempty_numbered spell_type (k.types + 1) names full)))
keeps_type_end k names (Plain kind.Semicolon) full = (full, refl)
keeps_type_end k names _ full = tt

keeps_symbol_name : (k : Counts) (x : Sign) → Keeps k state.SymbolName x (at_symbol_name k x)
keeps_symbol_name k (Named n) = (tt, refl)
keeps_symbol_name k _ = tt

keeps_symbol_colon : (k : Counts) (n : Name) (x : Sign) → Keeps k (state.SymbolColon n) x (at_symbol_colon n x)
keeps_symbol_colon k n (Plain kind.Colon) = (tt, refl)
keeps_symbol_colon k n _ = tt

keeps_kind : (k : Counts) (o : PortOf) (n : Name) → IsFullPort o → Keeps k (state.PortKind o) (Named n) (at_port_kind o (Named n))
keeps_kind k (Principal m) n full = (tt, refl)
keeps_kind k (Auxiliary s c number) n full =
    ((full.0, ap (λ z. z + 1) full.1), ap (λ z. class_before k s c ++ marked (nat_lt max_ports z) (Named n) ∷ []) (sym full.1))
keeps_kind k (Free fs m) n full = (tt, refl)

keeps_port_kind : (k : Counts) (o : PortOf) (x : Sign) → IsFullPort o → Keeps k (state.PortKind o) x (at_port_kind o x)
keeps_port_kind k o (Named n) full = keeps_kind k o n full
keeps_port_kind k o _ full = tt

-- a port is whole
abbrev whole_port : Counts → PortOf → SourcePort → Spelling
whole_port k o p = port_front k o ++ spell_port (port_past o) p

keeps_after_port : (k : Counts) (o : PortOf) (p : SourcePort) → IsFullSign o → IsFull (after_port o p) × (spelled k (after_port o p) ≡ whole_port k o p)
keeps_after_port k (Principal n) p full = ((tt, refl), append-nil _)
keeps_after_port k (Auxiliary s c number) p full = (
  (full.0, nonempty_snoc c p, omega (arith, length-append c (p ∷ []))),
  ap (λ z. symbol_front k s ++ plain kind.OpenBrace ∷ z)
      (ap separated (numbered_snoc spell_auxiliary (ports_after 1 s.classes) c p)
      ∙ separated_snoc (numbered spell_auxiliary (ports_after 1 s.classes) c) (spell_auxiliary (next_port s c) p))
      ∙ simp append_assoc,
)
keeps_after_port k (Free fs n) p full = (
  nonempty_snoc fs (record { name = n; port = p }),
  ap (λ z. plain kind.Net ∷ plain kind.OpenParenthesis ∷ z)
      (ap separated (numbered_snoc (spell_free k.limits) 1 fs (record { name = n; port = p }))
      ∙ separated_snoc (numbered (spell_free k.limits) 1 fs) (spell_free k.limits (1 + length fs) (record { name = n; port = p })))
      ∙ simp append_assoc,
)

keeps_port_sign : (k : Counts) (o : PortOf) (n : Name) (x : Sign) → IsFullSign o → Keeps k (state.PortSign o n) x (at_port_sign o n x)
keeps_port_sign k o n (Plain kind.Plus) full =
    let kept = keeps_after_port k o (record { kind = n; output = true }) full in
    (kept.0, kept.1 ∙ sym (append_assoc (port_front k o) (marked (port_past o) (Named n) ∷ []) (plain kind.Plus ∷ [])))
keeps_port_sign k o n (Plain kind.Minus) full =
    let kept = keeps_after_port k o (record { kind = n; output = false }) full in
    (kept.0, kept.1 ∙ sym (append_assoc (port_front k o) (marked (port_past o) (Named n) ∷ []) (plain kind.Minus ∷ [])))
keeps_port_sign k o n _ full = tt

keeps_symbol_end : (k : Counts) (s : SourceSymbol) (number : ℕ) (x : Sign) → IsFull (state.SymbolEnd s number) → Keeps k (state.SymbolEnd s number) x (at_symbol_end s number x)
keeps_symbol_end k s number (Plain kind.OpenBrace) full = ((full.0, full.1 ∙ omega arith), refl)
keeps_symbol_end k s number (Plain kind.Semicolon) full = (full.0, refl)
keeps_symbol_end k s number _ full = tt

keeps_class_end : (k : Counts) (s : SourceSymbol) (c : List SourcePort) (number : ℕ) (x : Sign) → IsFull (state.ClassEnd s c number) →
    Keeps k (state.ClassEnd s c number) x (at_class_end s c number x)
keeps_class_end k s c number (Plain kind.Comma) full = (
  (full.0, full.2),
  ap (λ z. symbol_front k s ++ plain kind.OpenBrace ∷ z)
      (before_is (numbered spell_auxiliary (ports_after 1 s.classes) c) (nonempty_numbered spell_auxiliary (ports_after 1 s.classes) c full.1))
      ∙ simp append_assoc,
)
keeps_class_end k s c number (Plain kind.CloseBrace) full = (
  (all_append (λ c. 0 < length c) s.classes (c ∷ []) full.0 (full.1, tt), full.2 ∙ sym (ports_after_snoc 1 s.classes c)),
  ap (λ z. plain kind.Symbol ∷ marked (nat_lt (max_symbols k.limits) (k.symbols + 1)) (Named s.name) ∷ plain kind.Colon ∷ spell_port false s.port ++ z) (classes_snoc 1 s.classes c)
      ∙ simp append_assoc,
)
keeps_class_end k s c number _ full = tt

-- ---- rules

keeps_head_name : (k : Counts) (o : HeadOf) (x : Sign) → Keeps k (state.HeadName o) x (at_head_name o x)
keeps_head_name k o (Named n) = (tt, refl)
keeps_head_name k o _ = tt

keeps_head_open : (k : Counts) (o : HeadOf) (n : Name) (x : Sign) → Keeps k (state.HeadOpen o n) x (at_head_open o n x)
keeps_head_open k o n (Plain kind.OpenBracket) = (tt, sym (append_assoc (head_of_front k o) (named n ∷ []) (plain kind.OpenBracket ∷ [])))
keeps_head_open k o n _ = tt

keeps_head_first : (k : Counts) (o : HeadOf) (n : Name) (x : Sign) → Keeps k (state.HeadFirst o n) x (at_head_first o n x)
keeps_head_first k o n (Named m) =
    (tt, ap (λ z. z ++ named m ∷ []) (append-nil (head_before k o (bare_head n))))
keeps_head_first k o n (Plain kind.CloseBracket) =
    (tt, sym (append_assoc (head_of_front k o) (named n ∷ plain kind.OpenBracket ∷ []) (plain kind.CloseBracket ∷ [])))
keeps_head_first k o n _ = tt

-- the heads, read one after the other
heads_are : (k : Counts) (f h : Head) → heads_front k f h ≡ spelled k (state.HeadEnd (Second f) h)
heads_are k f h = ap (λ z. marked (nat_lt (max_rules k.limits) (k.rules + 1)) (Plain kind.Rule) ∷ z) (sym (append_assoc (spell_head f) (plain kind.Meets ∷ []) (spell_head h)))

-- a name that is the word `with` is spelled as that word
is_word : (n : Name) → is_with n ≡ true → word_at n.place ≡ n
is_word n e = ap (λ z. record { text = z; place = n.place }) (sym ((bytes_eq-Decides n.text with_word).0 e))

keeps_with : (k : Counts) (f h : Head) (n : Name) (b : Bool) → is_with n ≡ b → Keeps k (state.HeadEnd (Second f) h) (Named n) (at_with f h n.place b)
keeps_with k f h n true e = (tt, ap (λ z. z ++ named (word_at n.place) ∷ []) (heads_are k f h) ∙ ap (λ z. spelled k (state.HeadEnd (Second f) h) ++ named z ∷ []) (is_word n e))
keeps_with k f h n false e = tt

keeps_head_end : (k : Counts) (o : HeadOf) (h : Head) (x : Sign) → Keeps k (state.HeadEnd o h) x (at_head_end o h x)
keeps_head_end k First h (Plain kind.Meets) = (tt, refl)
keeps_head_end k (Second f) h (Plain kind.Semicolon) =
    (None, refl, ap (λ z. z ++ plain kind.Semicolon ∷ []) (append-nil (heads_front k f h) ∙ heads_are k f h))
keeps_head_end k (Second f) h (Named n) = keeps_with k f h n (is_with n) refl
keeps_head_end k First h _ = tt
keeps_head_end k (Second f) h _ = tt

keeps_rule_open : (k : Counts) (f h : Head) (p : Place) (x : Sign) → Keeps k (state.RuleOpen f h p) x (at_rule_open f h p x)
keeps_rule_open k f h p (Plain kind.OpenBrace) = (tt, sym (append_assoc (heads_front k f h) (named (word_at p) ∷ []) (plain kind.OpenBrace ∷ [])))
keeps_rule_open k f h p _ = tt

keeps_rule_close : (k : Counts) (y : SourceRule) (p : Place) (x : Sign) → Keeps k (state.RuleClose y p) x (at_rule_close y x)
keeps_rule_close k y p (Plain kind.Semicolon) = (Some p, tt, refl)
keeps_rule_close k y p _ = tt

-- ---- the net

keeps_net_open : (k : Counts) (x : Sign) → Keeps k state.NetOpen x (at_net_open x)
keeps_net_open k (Plain kind.OpenParenthesis) = (tt, refl)
keeps_net_open k _ = tt

-- the first free name passes no limit
pub free_one : (limits : TextLimits) → nat_lt (max_free limits) 1 ≡ false
free_one Usual = refl
free_one Large = refl

keeps_free_first : (k : Counts) (x : Sign) → Keeps k state.FreeFirst x (at_free_first x)
keeps_free_first k (Named n) = (tt, ap (λ z. plain kind.Net ∷ plain kind.OpenParenthesis ∷ marked z (Named n) ∷ []) (free_one k.limits))
keeps_free_first k (Plain kind.CloseParenthesis) = (tt, refl)
keeps_free_first k _ = tt

keeps_free_name : (k : Counts) (fs : List SourceFree) (x : Sign) → Keeps k (state.FreeName fs) x (at_free_name k fs x)
keeps_free_name k fs (Named n) = (tt, refl)
keeps_free_name k fs _ = tt

keeps_free_colon : (k : Counts) (fs : List SourceFree) (n : Name) (x : Sign) → Keeps k (state.FreeColon fs n) x (at_free_colon fs n x)
keeps_free_colon k fs n (Plain kind.Colon) = (tt, simp append_assoc)
keeps_free_colon k fs n _ = tt

keeps_free_end : (k : Counts) (fs : List SourceFree) (x : Sign) → 0 < length fs → Keeps k (state.FreeEnd fs) x (at_free_end fs x)
keeps_free_end k fs (Plain kind.Comma) full =
    (tt, ap (λ z. plain kind.Net ∷ plain kind.OpenParenthesis ∷ z) (before_is (numbered (spell_free k.limits) 1 fs) (nonempty_numbered (spell_free k.limits) 1 fs full)))
keeps_free_end k fs (Plain kind.CloseParenthesis) full = (tt, refl)
keeps_free_end k fs _ full = tt

keeps_body_open : (k : Counts) (fs : List SourceFree) (x : Sign) → Keeps k (state.BodyOpen fs) x (at_body_open fs x)
keeps_body_open k fs (Plain kind.OpenBrace) = (tt, simp append_assoc)
keeps_body_open k fs _ = tt

keeps_closing : (k : Counts) (b : EquationsOf) → Keeps k (state.Equation b) (Plain kind.CloseBrace) (at_equation b (Plain kind.CloseBrace))
keeps_closing k (body.Net n) = (tt, simp append_assoc)
keeps_closing k (body.Rule y p) = (
  tt,
  sym (append_assoc (heads_front k y.first y.second) (named (word_at p) ∷ plain kind.OpenBrace ∷ flat_map spell_equation y.equations) (plain kind.CloseBrace ∷ [])),
)

keeps_equation : (k : Counts) (b : EquationsOf) (x : Sign) → Keeps k (state.Equation b) x (at_equation b x)
keeps_equation k b (Named m) = (tt, ap (λ z. z ++ named m ∷ []) (append-nil (body_front k b)))
keeps_equation k b (Plain kind.CloseBrace) = keeps_closing k b
keeps_equation k b _ = tt

-- ---- terms

pub spell_out : (t : Term) (depth : ℕ) → spell_term t depth ≡ marked (nat_lt max_depth depth) (Named (out-Term t).name) ∷ spell_arguments (arguments_at (depth + 1) (out-Term t).args)
spell_out t depth = ap (λ g. g depth) (fold_out-Term (ℕ → Spelling) spell_level t)

opened_roll : (depth : ℕ) (x : Term-F Term) → opened depth (roll-Term x) ≡ marked (nat_lt max_depth depth) (Named x.name) ∷ plain kind.OpenParenthesis ∷ before (arguments_at (depth + 1) x.args)
opened_roll depth x = ap (λ (y : Term-F Term). marked (nat_lt max_depth depth) (Named y.name) ∷ plain kind.OpenParenthesis ∷ before (arguments_at (depth + 1) y.args)) (out-roll-Term x)

spell_roll : (depth : ℕ) (x : Term-F Term) → spell_term (roll-Term x) depth ≡ marked (nat_lt max_depth depth) (Named x.name) ∷ spell_arguments (arguments_at (depth + 1) x.args)
spell_roll depth x = spell_out (roll-Term x) depth ∙ ap (λ (y : Term-F Term). marked (nat_lt max_depth depth) (Named y.name) ∷ spell_arguments (arguments_at (depth + 1) y.args)) (out-roll-Term x)

arguments_snoc : (depth : ℕ) (ts : List Term) (t : Term) → arguments_at depth (ts ++ t ∷ []) ≡ arguments_at depth ts ++ spell_term t depth ∷ []
arguments_snoc depth [] t = refl
arguments_snoc depth (u ∷ ts) t = ap (λ z. spell_term u depth ∷ z) (arguments_snoc depth ts t)

before_snoc : (l : List Spelling) (a : Spelling) → before (l ++ a ∷ []) ≡ before l ++ (a ++ comma ∷ [])
before_snoc [] a = append-nil (a ++ comma ∷ [])
before_snoc (b ∷ l) a = ap (λ z. (b ++ comma ∷ []) ++ z) (before_snoc l a) ∙ sym (append_assoc (b ++ comma ∷ []) (before l) (a ++ comma ∷ []))

closed_snoc : (l : List Spelling) (a : Spelling) → spell_arguments (l ++ a ∷ []) ≡ plain kind.OpenParenthesis ∷ (before l ++ a) ++ plain kind.CloseParenthesis ∷ []
closed_snoc [] a = ap (λ z. plain kind.OpenParenthesis ∷ z ++ plain kind.CloseParenthesis ∷ []) (separated_snoc [] a)
closed_snoc (b ∷ l) a = ap (λ z. plain kind.OpenParenthesis ∷ z ++ plain kind.CloseParenthesis ∷ []) (separated_snoc (b ∷ l) a)

opened_more : (depth : ℕ) (f t : Term) → opened depth (with_argument f t) ≡ opened depth f ++ (spell_term t (depth + 1) ++ comma ∷ [])
opened_more depth f t =
    opened_roll depth (record { name = (out-Term f).name; args = (out-Term f).args ++ t ∷ [] })
    ∙ ap (λ z. marked (nat_lt max_depth depth) (Named (out-Term f).name) ∷ plain kind.OpenParenthesis ∷ z)
    (ap before (arguments_snoc (depth + 1) (out-Term f).args t) ∙ before_snoc (arguments_at (depth + 1) (out-Term f).args) (spell_term t (depth + 1)))

closed_one : (depth : ℕ) (f t : Term) → spell_term (with_argument f t) depth ≡ opened depth f ++ (spell_term t (depth + 1) ++ plain kind.CloseParenthesis ∷ [])
closed_one depth f t =
    spell_roll depth (record { name = (out-Term f).name; args = (out-Term f).args ++ t ∷ [] })
    ∙ ap (λ z. marked (nat_lt max_depth depth) (Named (out-Term f).name) ∷ z)
    (ap spell_arguments (arguments_snoc (depth + 1) (out-Term f).args t) ∙ closed_snoc (arguments_at (depth + 1) (out-Term f).args) (spell_term t (depth + 1))
    ∙ ap (λ z. plain kind.OpenParenthesis ∷ z) (append_assoc (before (arguments_at (depth + 1) (out-Term f).args)) (spell_term t (depth + 1)) (plain kind.CloseParenthesis ∷ [])))

opened_bare : (depth : ℕ) (n : Name) → opened depth (bare n) ≡ marked (nat_lt max_depth depth) (Named n) ∷ plain kind.OpenParenthesis ∷ []
opened_bare depth n = opened_roll depth (record { name = n; args = [] })

pub spell_bare : (depth : ℕ) (n : Name) → spell_term (bare n) depth ≡ marked (nat_lt max_depth depth) (Named n) ∷ []
spell_bare depth n = spell_roll depth (record { name = n; args = [] })

keeps_term_name : (k : Counts) (b : Nest) (x : Sign) → Keeps k (state.TermName b) x (at_term_name b x)
keeps_term_name k b (Named n) = (tt, refl)
keeps_term_name k b _ = tt

-- an argument is one deeper than its agent
one_deeper : (outer : Term) (around : List Term) → (length around + 1) + 1 ≡ length (outer ∷ around) + 1
one_deeper outer around = omega arith

regroup_more : (f s o a c : Spelling) → f ++ (s ++ (o ++ (a ++ c))) ≡ ((f ++ (s ++ o)) ++ a) ++ c
regroup_more f s o a c = simp append_assoc

regroup_closed : (f s o a c : Spelling) → (f ++ s) ++ (o ++ (a ++ c)) ≡ ((f ++ (s ++ o)) ++ a) ++ c
regroup_closed f s o a c = simp append_assoc

regroup_equation : (f o e l c t d : Spelling) → f ++ (o ++ (e ++ ((l ++ (c ++ t)) ++ d))) ≡ ((((f ++ (o ++ e)) ++ l) ++ c) ++ t) ++ d
regroup_equation f o e l c t d = simp append_assoc

keeps_after_argument : (k : Counts) (of : TermOf) (around : List Term) (outer t : Term) (x : Sign) →
    Keeps k (state.TermEnd (record { of = of; around = outer ∷ around }) t) x (after_argument of around outer t x)
keeps_after_argument k of around outer t (Plain kind.Comma) = (
  tt,
  ap (λ z. of_front k of ++ (stacked around ++ z)) (opened_more (length around + 1) outer t)
      ∙ ap (λ d. of_front k of ++ (stacked around ++ (opened (length around + 1) outer ++ (spell_term t d ++ comma ∷ [])))) (one_deeper outer around)
      ∙ regroup_more (of_front k of) (stacked around) (opened (length around + 1) outer) (spell_term t (length (outer ∷ around) + 1)) (comma ∷ []),
)
keeps_after_argument k of around outer t (Plain kind.CloseParenthesis) = (
  tt,
  ap (λ z. (of_front k of ++ stacked around) ++ z) (closed_one (length around + 1) outer t)
      ∙ ap (λ d. (of_front k of ++ stacked around) ++ (opened (length around + 1) outer ++ (spell_term t d ++ plain kind.CloseParenthesis ∷ []))) (one_deeper outer around)
      ∙ regroup_closed (of_front k of) (stacked around) (opened (length around + 1) outer) (spell_term t (length (outer ∷ around) + 1)) (plain kind.CloseParenthesis ∷ []),
)
keeps_after_argument k of around outer t _ = tt

keeps_after_left : (k : Counts) (b : EquationsOf) (t : Term) (x : Sign) → Keeps k (state.TermEnd (record { of = Left b; around = [] }) t) x (after_left b t x)
keeps_after_left k b t (Tilde p) = (
  tt,
  append-nil ((body_front k b ++ spell_term t 1) ++ within (Tilde p) ∷ [])
      ∙ ap (λ z. (z ++ spell_term t 1) ++ within (Tilde p) ∷ []) (sym (append-nil (body_front k b))),
)
keeps_after_left k b t _ = tt

keeps_after_right : (k : Counts) (b : EquationsOf) (l : Term) (p : Place) (t : Term) (x : Sign) →
    Keeps k (state.TermEnd (record { of = Right b l p; around = [] }) t) x (after_right b l p t x)
keeps_after_right k (body.Net n) l p t (Plain kind.Semicolon) = (
  tt,
  ap (λ z. frees_front k n.free ++ plain kind.CloseParenthesis ∷ plain kind.OpenBrace ∷ z)
      (flat_snoc spell_equation n.equations (record { left = l; tilde = p; right = t }))
      ∙ regroup_equation (frees_front k n.free) (plain kind.CloseParenthesis ∷ plain kind.OpenBrace ∷ []) (flat_map spell_equation n.equations) (spell_term l 1) (within (Tilde p) ∷ []) (spell_term t 1) (plain kind.Semicolon ∷ [])
      ∙ ap (λ z. (z ++ spell_term t 1) ++ plain kind.Semicolon ∷ []) (sym (append-nil ((net_front k n ++ spell_term l 1) ++ within (Tilde p) ∷ []))),
)
keeps_after_right k (body.Rule y w) l p t (Plain kind.Semicolon) = (
  tt,
  ap (λ z. heads_front k y.first y.second ++ named (word_at w) ∷ plain kind.OpenBrace ∷ z)
      (flat_snoc spell_equation y.equations (record { left = l; tilde = p; right = t }))
      ∙ regroup_equation (heads_front k y.first y.second) (named (word_at w) ∷ plain kind.OpenBrace ∷ []) (flat_map spell_equation y.equations) (spell_term l 1) (within (Tilde p) ∷ []) (spell_term t 1) (plain kind.Semicolon ∷ [])
      ∙ ap (λ z. (z ++ spell_term t 1) ++ plain kind.Semicolon ∷ []) (sym (append-nil ((body_front k (body.Rule y w) ++ spell_term l 1) ++ within (Tilde p) ∷ []))),
)
keeps_after_right k b l p t _ = tt

regroup_term : (f h b t c : Spelling) → (f ++ (h ++ (b ++ (t ++ c)))) ++ [] ≡ (((f ++ (h ++ b)) ++ []) ++ t) ++ c
regroup_term f h b t c = simp (append_assoc, append-nil)

regroup_head : (f h b t c : Spelling) → f ++ (h ++ ((b ++ t) ++ c)) ≡ (((f ++ (h ++ b)) ++ []) ++ t) ++ c
regroup_head f h b t c = simp (append_assoc, append-nil)

keeps_after_head_term : (k : Counts) (o : HeadOf) (h : Head) (t : Term) (x : Sign) →
    Keeps k (state.TermEnd (record { of = Inside o h; around = [] }) t) x (after_head_term o h t x)
keeps_after_head_term k o h t (Plain kind.Comma) = (
  tt,
  ap (λ z. (head_of_front k o ++ named h.name ∷ plain kind.OpenBracket ∷ z) ++ [])
      (ap before (map_push spell_outermost h.terms t) ∙ before_snoc (map spell_outermost h.terms) (spell_term t 1))
      ∙ regroup_term (head_of_front k o) (named h.name ∷ plain kind.OpenBracket ∷ []) (before (map spell_outermost h.terms)) (spell_term t 1) (comma ∷ []),
)
keeps_after_head_term k o h t (Plain kind.CloseBracket) = (
  tt,
  ap (λ z. head_of_front k o ++ (named h.name ∷ plain kind.OpenBracket ∷ z ++ plain kind.CloseBracket ∷ []))
      (ap separated (map_push spell_outermost h.terms t) ∙ separated_snoc (map spell_outermost h.terms) (spell_term t 1))
      ∙ regroup_head (head_of_front k o) (named h.name ∷ plain kind.OpenBracket ∷ []) (before (map spell_outermost h.terms)) (spell_term t 1) (plain kind.CloseBracket ∷ []),
)
keeps_after_head_term k o h t _ = tt

keeps_after_outermost : (k : Counts) (of : TermOf) (t : Term) (x : Sign) → Keeps k (state.TermEnd (record { of = of; around = [] }) t) x (after_outermost of t x)
keeps_after_outermost k (Left b) t x = keeps_after_left k b t x
keeps_after_outermost k (Right b l p) t x = keeps_after_right k b l p t x
keeps_after_outermost k (Inside o h) t x = keeps_after_head_term k o h t x

keeps_after_term : (k : Counts) (of : TermOf) (around : List Term) (t : Term) (x : Sign) →
    Keeps k (state.TermEnd (record { of = of; around = around }) t) x (after_term of around t x)
keeps_after_term k of [] t x = keeps_after_outermost k of t x
keeps_after_term k of (outer ∷ around) t x = keeps_after_argument k of around outer t x

keeps_as_bare : (k : Counts) (b : Nest) (n : Name) (x : Sign) → Keeps k (state.TermOpen b n) x (at_term_end b (bare n) x)
keeps_as_bare k b n x =
    subst (λ z. KeepsAll k (nest_front k b ++ z) x (at_term_end b (bare n) x)) (spell_bare (length b.around + 1) n) (keeps_after_term k b.of b.around (bare n) x)

keeps_opening : (k : Counts) (b : Nest) (n : Name) → Keeps k (state.TermOpen b n) (Plain kind.OpenParenthesis) (at_term_open b n (Plain kind.OpenParenthesis))
keeps_opening k b n = (
  tt,
  ap (λ z. of_front k b.of ++ (stacked b.around ++ z)) (opened_bare (length b.around + 1) n) ∙ simp append_assoc,
)

keeps_term_open : (k : Counts) (b : Nest) (n : Name) (x : Sign) → Keeps k (state.TermOpen b n) x (at_term_open b n x)
keeps_term_open k b n (Plain kind.OpenParenthesis) = keeps_opening k b n
keeps_term_open k b n x = keeps_as_bare k b n x

pub keeps : (k : Counts) (p : State) (x : Sign) → IsFull p → Keeps k p x (step k p x)
keeps k state.Item x full = keeps_item k x
keeps k (state.TypeName names) x full = keeps_type_name k names x
keeps k (state.TypeEnd names) x full = keeps_type_end k names x full
keeps k state.SymbolName x full = keeps_symbol_name k x
keeps k (state.SymbolColon n) x full = keeps_symbol_colon k n x
keeps k (state.PortKind o) x full = keeps_port_kind k o x full
keeps k (state.PortSign o n) x full = keeps_port_sign k o n x full
keeps k (state.SymbolEnd s number) x full = keeps_symbol_end k s number x full
keeps k (state.ClassEnd s c number) x full = keeps_class_end k s c number x full
keeps k (state.HeadName o) x full = keeps_head_name k o x
keeps k (state.HeadOpen o n) x full = keeps_head_open k o n x
keeps k (state.HeadFirst o n) x full = keeps_head_first k o n x
keeps k (state.HeadEnd o h) x full = keeps_head_end k o h x
keeps k (state.RuleOpen f h p) x full = keeps_rule_open k f h p x
keeps k (state.RuleClose y p) x full = keeps_rule_close k y p x
keeps k state.NetOpen x full = keeps_net_open k x
keeps k state.FreeFirst x full = keeps_free_first k x
keeps k (state.FreeName fs) x full = keeps_free_name k fs x
keeps k (state.FreeColon fs n) x full = keeps_free_colon k fs n x
keeps k (state.FreeEnd fs) x full = keeps_free_end k fs x full
keeps k (state.BodyOpen fs) x full = keeps_body_open k fs x
keeps k (state.Equation b) x full = keeps_equation k b x
keeps k (state.TermName b) x full = keeps_term_name k b x
keeps k (state.TermOpen b n) x full = keeps_term_open k b n x
keeps k (state.TermEnd b t) x full = keeps_after_term k b.of b.around t x
keeps k (state.Done n) x full = tt

-- ---- the signs read by a reader

pub counts_types : (r : Reader) (names : List Name) → counts_of (with_types r names) ≡ counted (counts_of r) (types names)
counts_types r names = ap (λ z. record { limits = r.limits; types = z; symbols = length r.symbols; rules = length r.rules }) (length-append r.types names)

pub counts_symbol : (r : Reader) (s : SourceSymbol) → counts_of (with_symbol r s) ≡ counted (counts_of r) (symbol s)
counts_symbol r s = ap (λ z. record { limits = r.limits; types = length r.types; symbols = z; rules = length r.rules }) (length-append r.symbols (s ∷ []))

pub counts_rule : (r : Reader) (w : Option Place) (y : SourceRule) → counts_of (with_rule r y) ≡ counted (counts_of r) (rule w y)
counts_rule r w y = ap (λ z. record { limits = r.limits; types = length r.types; symbols = length r.symbols; rules = z }) (length-append r.rules (y ∷ []))

pub record HasRead (limits : TextLimits) (r : Reader) (m : Spelling) : Type 0 where
  pub by : r.limits ≡ limits
  pub items : List Item
  pub each : AllByRecursion IsItem items
  pub types : r.types ≡ flat_map types_in items
  pub symbols : r.symbols ≡ flat_map symbols_in items
  pub rules : r.rules ≡ flat_map rules_in items
  pub counts : counts_of r ≡ counted_all (none_yet limits) items
  pub full : IsFull r.state
  pub spells : m ≡ spell_items (none_yet limits) items ++ spelled (counts_of r) r.state

pub read_nothing : (limits : TextLimits) → HasRead limits (start limits) []
read_nothing limits = record { by = refl; items = []; each = tt; types = refl; symbols = refl; rules = refl; counts = refl; full = tt; spells = refl }

-- an item more
with_item : (none : Counts) (l : Spelling) (k : Counts) (items : List Item) (i : Item) (p : Spelling) (x : Marked) → l ≡ spell_items none items ++ p → k ≡ counted_all none items → spell_item k i ≡ p ++ x ∷ [] →
    l ++ x ∷ [] ≡ spell_items none (items ++ i ∷ []) ++ []
with_item none l k items i p x e n f =
    ap (λ z. z ++ x ∷ []) e ∙ append_assoc (spell_items none items) p (x ∷ []) ∙ ap (λ z. spell_items none items ++ z) (sym f)
    ∙ ap (λ z. spell_items none items ++ spell_item z i) n
    ∙ sym (items_snoc none items i) ∙ sym (append-nil (spell_items none (items ++ i ∷ [])))

-- the numbers of declarations with an item more
count_item : (none : Counts) (k next : Counts) (items : List Item) (i : Item) → k ≡ counted_all none items → next ≡ counted k i → next ≡ counted_all none (items ++ i ∷ [])
count_item none k next items i n e = e ∙ ap (λ z. counted z i) n ∙ sym (counted_snoc none items i)

-- a list of the tree, by an item that adds nothing to it
none_more : {A : Type 0} (f : Item → List A) (l : List A) (items : List Item) (i : Item) → l ≡ flat_map f items → f i ≡ [] → l ≡ flat_map f (items ++ i ∷ [])
none_more f l items i e n = e ∙ sym (append-nil (flat_map f items)) ∙ ap (λ z. flat_map f items ++ z) (sym n) ∙ sym (flat_snoc f items i)

-- and by one that adds something
some_more : {A : Type 0} (f : Item → List A) (l more : List A) (items : List Item) (i : Item) → l ≡ flat_map f items → f i ≡ more → l ++ more ≡ flat_map f (items ++ i ∷ [])
some_more f l more items i e n = ap (λ z. z ++ more) e ∙ ap (λ z. flat_map f items ++ z) (sym n) ∙ sym (flat_snoc f items i)

module _ (limits : TextLimits) where
  reads_step : (r next : Reader) (m : Spelling) (x : Sign) (past : Bool) (s : Step) → HasRead limits r m → Keeps (counts_of r) r.state x s → turn_of r s ≡ turns past next → HasRead limits next (m ++ marked past x ∷ [])
  reads_step r next m x past (goes b q) h k e =
      let is : at_state r q ≡ next = cc in
      let same : b ≡ past = cc in
      subst (λ z. HasRead limits z (m ++ marked past x ∷ [])) is (record {
        by = h.by;
        items = h.items;
        each = h.each;
        types = h.types;
        symbols = h.symbols;
        rules = h.rules;
        counts = h.counts;
        full = k.0;
        spells = ap (λ z. z ++ marked past x ∷ []) h.spells ∙ append_assoc (spell_items (none_yet limits) h.items) (spelled (counts_of r) r.state) (marked past x ∷ [])
            ∙ ap (λ z. spell_items (none_yet limits) h.items ++ z) (ap (λ z. spelled (counts_of r) r.state ++ marked z x ∷ []) (sym same) ∙ sym k.1);
      })
  reads_step r next m x past (adds_types names) h k e =
      let is : with_types r names ≡ next = cc in
      let same : false ≡ past = cc in
      subst (λ z. HasRead limits z (m ++ marked past x ∷ [])) is (subst (λ z. HasRead limits (with_types r names) (m ++ marked z x ∷ [])) same (record {
        by = h.by;
        items = h.items ++ types names ∷ [];
        each = all_append IsItem h.items (types names ∷ []) h.each (k.0, tt);
        types = some_more types_in r.types names h.items (types names) h.types refl;
        symbols = none_more symbols_in r.symbols h.items (types names) h.symbols refl;
        rules = none_more rules_in r.rules h.items (types names) h.rules refl;
        counts = count_item (none_yet limits) (counts_of r) (counts_of (with_types r names)) h.items (types names) h.counts (counts_types r names);
        full = tt;
        spells = with_item (none_yet limits) m (counts_of r) h.items (types names) (spelled (counts_of r) r.state) (within x) h.spells h.counts k.1;
      }))
  reads_step r next m x past (adds_symbol s) h k e =
      let is : with_symbol r s ≡ next = cc in
      let same : false ≡ past = cc in
      subst (λ z. HasRead limits z (m ++ marked past x ∷ [])) is (subst (λ z. HasRead limits (with_symbol r s) (m ++ marked z x ∷ [])) same (record {
        by = h.by;
        items = h.items ++ symbol s ∷ [];
        each = all_append IsItem h.items (symbol s ∷ []) h.each (k.0, tt);
        types = none_more types_in r.types h.items (symbol s) h.types refl;
        symbols = some_more symbols_in r.symbols (s ∷ []) h.items (symbol s) h.symbols refl;
        rules = none_more rules_in r.rules h.items (symbol s) h.rules refl;
        counts = count_item (none_yet limits) (counts_of r) (counts_of (with_symbol r s)) h.items (symbol s) h.counts (counts_symbol r s);
        full = tt;
        spells = with_item (none_yet limits) m (counts_of r) h.items (symbol s) (spelled (counts_of r) r.state) (within x) h.spells h.counts k.1;
      }))
  reads_step r next m x past (adds_rule y) h (w, is_with, spells) e =
      let is : with_rule r y ≡ next = cc in
      let same : false ≡ past = cc in
      subst (λ z. HasRead limits z (m ++ marked past x ∷ [])) is (subst (λ z. HasRead limits (with_rule r y) (m ++ marked z x ∷ [])) same (record {
        by = h.by;
        items = h.items ++ rule w y ∷ [];
        each = all_append IsItem h.items (rule w y ∷ []) h.each (is_with, tt);
        types = none_more types_in r.types h.items (rule w y) h.types refl;
        symbols = none_more symbols_in r.symbols h.items (rule w y) h.symbols refl;
        rules = some_more rules_in r.rules (y ∷ []) h.items (rule w y) h.rules refl;
        counts = count_item (none_yet limits) (counts_of r) (counts_of (with_rule r y)) h.items (rule w y) h.counts (counts_rule r w y);
        full = tt;
        spells = with_item (none_yet limits) m (counts_of r) h.items (rule w y) (spelled (counts_of r) r.state) (within x) h.spells h.counts spells;
      }))
  reads_step r next m x past stuck h k e = cc

  pub has_read : (n m : Spelling) (r last : Reader) → HasRead limits r m → Path r n last → HasRead limits last (m ++ n)
  has_read [] m r last h p = subst (λ z. HasRead limits z (m ++ [])) p (subst (λ z. HasRead limits r z) (sym (append-nil m)) h)
  has_read (x ∷ n) m r last h p =
      let next : HasRead limits p.0 (m ++ x ∷ []) = reads_step r p.0 m x.sign x.past (step (counts_of r) r.state x.sign) h (keeps (counts_of r) r.state x.sign h.full) p.1 in
      subst (λ z. HasRead limits last z) (append_assoc m (x ∷ []) n) (has_read n (m ++ x ∷ []) p.0 last next p.2)
