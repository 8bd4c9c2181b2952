-- The grammar of programs, as the spelling of their trees: Lafont's language (1990), in signs and with limits of this project's own choice.
-- That a rule may have equations, as the net has, is this project's own choice too.
use Rattle.std.specs.Prelude.{ℕ, ◌+◌, ◌<◌, Bool, false, cond, nat_lt, List, [], ◌∷◌, ◌++◌, length, map, Option, Some, None, codes, ◌≡◌}
use Rattle.std.specs.List.{flat_map, AllByRecursion}
use Rattle.std.specs.Str.{bytes_eq}
use Rattle.in_syntax.specs.declared.places.Place.{Place}
use Rattle.in_syntax.specs.declared.counts.Counts.{Counts}
use Rattle.in_syntax.specs.declared.tree.Name.{Name}
use Rattle.in_syntax.specs.declared.tree.SourcePort.{SourcePort}
use Rattle.in_syntax.specs.declared.tree.SourceSymbol.{SourceSymbol}
use Rattle.in_syntax.specs.declared.tree.SourceRule.{SourceRule}
use Rattle.in_syntax.specs.declared.tree.Head.{Head}
use Rattle.in_syntax.specs.declared.tree.SourceFree.{SourceFree}
use Rattle.in_syntax.specs.declared.tree.SourceNet.{SourceNet}
use Rattle.in_syntax.specs.declared.tree.Source.{Source}
use Rattle.in_syntax.specs.declared.tree.Equation.{Equation}
use Rattle.in_syntax.specs.declared.tree.Term.{Term}
use Rattle.in_syntax.specs.declared.tree.Term.TheOpen.{Term-F}
use Rattle.in_syntax.specs.declared.tree.Term.TheFolds.{fold-Term}
use Rattle.in_syntax.specs.declared.signs.Sign.{Sign}
use Rattle.in_syntax.specs.declared.signs.Sign.TheVariants.{Named, Tilde, Plain}
use Rattle.in_syntax.specs.declared.words.TokenKind.{TokenKind}
use Rattle.in_syntax.specs.declared.words.TokenKind.TheVariants as kind
use Rattle.in_syntax.specs.declared.text_limits.TextLimits.{TextLimits}
use Rattle.in_syntax.specs.TextLimits.{max_symbols, max_rules, max_free}

-- the greatest number of types
abbrev pub max_types : ℕ
max_types = 256

-- the greatest number of a symbol's auxiliary ports
abbrev pub max_ports : ℕ
max_ports = 16

-- the greatest depth of a term
abbrev pub max_depth : ℕ
max_depth = 200

-- a sign, and whether it passes a limit
pub record Marked : Type 0 where
  pub sign : Sign
  pub past : Bool

-- a sign with its mark
abbrev pub marked : Bool → Sign → Marked
marked past s = record { sign = s; past = past }

-- signs with their marks, one after another
abbrev pub Spelling : Type 0
Spelling = List Marked

-- a sign that passes no limit
abbrev pub within : Sign → Marked
within = marked false

-- a name that passes no limit
abbrev pub named : Name → Marked
named n = within (Named n)

-- a word or sign that is known by its kind
abbrev pub plain : TokenKind → Marked
plain k = within (Plain k)

-- the spellings with a comma between each two
abbrev pub separated : List Spelling → Spelling
separated [] = []
separated (a ∷ more) = a ++ flat_map (λ b. plain kind.Comma ∷ b) more

-- each spelled with its number, if the first one's is given
abbrev pub numbered : {A : Type 0} → (ℕ → A → Spelling) → ℕ → List A → List Spelling
numbered spell number [] = []
numbered spell number (x ∷ more) = spell number x ∷ numbered spell (number + 1) more

-- port = name ("+" | "-")
abbrev pub spell_port : Bool → SourcePort → Spelling
spell_port past p = marked past (Named p.kind) ∷ plain (cond p.output kind.Plus kind.Minus) ∷ []

-- an auxiliary port by its number in the symbol: the seventeenth and later ones pass the limit
abbrev pub spell_auxiliary : ℕ → SourcePort → Spelling
spell_auxiliary number p = spell_port (nat_lt max_ports number) p

-- class = "{" port ("," port)* "}"
abbrev pub spell_class : ℕ → List SourcePort → Spelling
spell_class number c = plain kind.OpenBrace ∷ separated (numbered spell_auxiliary number c) ++ plain kind.CloseBrace ∷ []

-- class*, with the numbers of ports continuing from class to class
abbrev pub spell_classes : ℕ → List (List SourcePort) → Spelling
spell_classes number [] = []
spell_classes number (c ∷ more) = spell_class number c ++ spell_classes (number + length c) more

-- "symbol" name ":" port class* ";", of a symbol by its number: past the greatest number of symbols its name passes the limit
abbrev pub spell_symbol : TextLimits → ℕ → SourceSymbol → Spelling
spell_symbol limits number s =
    plain kind.Symbol ∷ marked (nat_lt (max_symbols limits) number) (Named s.name) ∷ plain kind.Colon ∷ spell_port false s.port
    ++ spell_classes 1 s.classes ++ plain kind.Semicolon ∷ []

-- a type's name by its number: the 257th and later ones pass the limit
abbrev pub spell_type : ℕ → Name → Spelling
spell_type number n = marked (nat_lt max_types number) (Named n) ∷ []

-- "type" name ("," name)* ";", if the first name's number is given
abbrev pub spell_types : ℕ → List Name → Spelling
spell_types number names = plain kind.Type ∷ separated (numbered spell_type number names) ++ plain kind.Semicolon ∷ []

-- [ "(" term ("," term)* ")" ]
abbrev pub spell_arguments : List Spelling → Spelling
spell_arguments [] = []
spell_arguments (a ∷ more) = plain kind.OpenParenthesis ∷ separated (a ∷ more) ++ plain kind.CloseParenthesis ∷ []

-- one level of a term at a depth, with the spelling of each argument, one deeper, in its place
abbrev pub spell_level : Term-F (ℕ → Spelling) → ℕ → Spelling
spell_level f depth = marked (nat_lt max_depth depth) (Named f.name) ∷ spell_arguments (map (λ a. a (depth + 1)) f.args)

-- term = name [ "(" term ("," term)* ")" ], at a depth: a name at depth 201 and deeper passes the limit
abbrev pub spell_term : Term → ℕ → Spelling
spell_term = fold-Term (ℕ → Spelling) spell_level

-- term "~" term ";"
abbrev pub spell_equation : Equation → Spelling
spell_equation e = spell_term e.left 1 ++ within (Tilde e.tilde) ∷ spell_term e.right 1 ++ plain kind.Semicolon ∷ []

-- a term of a head, at depth 1
abbrev pub spell_outermost : Term → Spelling
spell_outermost t = spell_term t 1

-- head = name "[" [ term ("," term)* ] "]"
abbrev pub spell_head : Head → Spelling
spell_head h = named h.name ∷ plain kind.OpenBracket ∷ separated (map spell_outermost h.terms) ++ plain kind.CloseBracket ∷ []

-- the word before the equations of a rule. It isn't reserved: after the heads of a rule it is this word, elsewhere it is a name like any other
abbrev pub with_word : List ℕ
with_word = codes "with"

-- whether a name is that word
abbrev pub is_with : Name → Bool
is_with n = bytes_eq n.text with_word

-- the word at a place
abbrev pub word_at : Place → Name
word_at p = record { text = with_word; place = p }

-- [ "with" "{" (term "~" term ";")* "}" ]: the place of the word is given, if it is written
abbrev pub spell_with : Option Place → List Equation → Spelling
spell_with None es = []
spell_with (Some p) es = named (word_at p) ∷ plain kind.OpenBrace ∷ (flat_map spell_equation es ++ plain kind.CloseBrace ∷ [])

-- there are equations only after that word
abbrev pub StandAfterWord : Option Place → List Equation → Type 0
StandAfterWord None es = es ≡ []
StandAfterWord (Some p) es = Unit {0}

-- "rule" head "><" head [ "with" .. ] ";", of a rule by its number: past the greatest number of rules its word `rule` passes the limit
abbrev pub spell_rule : TextLimits → ℕ → Option Place → SourceRule → Spelling
spell_rule limits number w r =
    marked (nat_lt (max_rules limits) number) (Plain kind.Rule)
    ∷ (((spell_head r.first ++ plain kind.Meets ∷ spell_head r.second) ++ spell_with w r.equations) ++ plain kind.Semicolon ∷ [])

-- free = name ":" port, by its number: past the greatest number of free names its name passes the limit
abbrev pub spell_free : TextLimits → ℕ → SourceFree → Spelling
spell_free limits number f = marked (nat_lt (max_free limits) number) (Named f.name) ∷ plain kind.Colon ∷ spell_port false f.port

-- net = "net" "(" [ free ("," free)* ] ")" "{" (term "~" term ";")* "}"
abbrev pub spell_net : TextLimits → SourceNet → Spelling
spell_net limits n =
    plain kind.Net ∷ plain kind.OpenParenthesis ∷ separated (numbered (spell_free limits) 1 n.free)
    ++ plain kind.CloseParenthesis ∷ plain kind.OpenBrace ∷ flat_map spell_equation n.equations
    ++ plain kind.CloseBrace ∷ []

-- the declarations and rules before the net, in any order
pub data Item : Type 0 where
  types : List Name → Item
  symbol : SourceSymbol → Item
  -- with the place of its word `with`, if it has one
  rule : Option Place → SourceRule → Item

-- no declarations yet
abbrev pub none_yet : TextLimits → Counts
none_yet limits = record { limits = limits; types = 0; symbols = 0; rules = 0 }

-- the numbers of declarations after an item
abbrev pub counted : Counts → Item → Counts
counted c (types names) = record { limits = c.limits; types = c.types + length names; symbols = c.symbols; rules = c.rules }
counted c (symbol s) = record { limits = c.limits; types = c.types; symbols = c.symbols + 1; rules = c.rules }
counted c (rule w r) = record { limits = c.limits; types = c.types; symbols = c.symbols; rules = c.rules + 1 }

-- item = "type" .. | "symbol" .. | "rule" .., with these numbers of declarations before it
abbrev pub spell_item : Counts → Item → Spelling
spell_item c (types names) = spell_types (c.types + 1) names
spell_item c (symbol s) = spell_symbol c.limits (c.symbols + 1) s
spell_item c (rule w r) = spell_rule c.limits (c.rules + 1) w r

-- item*
abbrev pub spell_items : Counts → List Item → Spelling
spell_items c [] = []
spell_items c (i ∷ more) = spell_item c i ++ spell_items (counted c i) more

-- a list that the grammar writes with one element at least has one, and a rule has equations only after the word for them
abbrev pub IsItem : Item → Type 0
IsItem (types names) = 0 < length names
IsItem (symbol s) = AllByRecursion (λ c. 0 < length c) s.classes
IsItem (rule w r) = StandAfterWord w r.equations

-- program = item* net
pub record GrammarProgram : Type 0 where
  pub items : List Item
  pub each : AllByRecursion IsItem items
  pub net : SourceNet

-- its signs in the order of the text
abbrev pub spelling : TextLimits → GrammarProgram → Spelling
spelling limits p = spell_items (none_yet limits) p.items ++ spell_net limits p.net

-- the types that an item declares
abbrev pub types_in : Item → List Name
types_in (types names) = names
types_in (symbol s) = []
types_in (rule w r) = []

-- the symbol that an item declares
abbrev pub symbols_in : Item → List SourceSymbol
symbols_in (types names) = []
symbols_in (symbol s) = s ∷ []
symbols_in (rule w r) = []

-- the rule that an item is
abbrev pub rules_in : Item → List SourceRule
rules_in (types names) = []
rules_in (symbol s) = []
rules_in (rule w r) = r ∷ []

-- the tree, which gathers the types, the symbols and the rules, each in the order of the text
abbrev pub source_of : TextLimits → GrammarProgram → Source
source_of limits p = record {
  limits = limits;
  types = flat_map types_in p.items;
  symbols = flat_map symbols_in p.items;
  rules = flat_map rules_in p.items;
  net = p.net;
}
