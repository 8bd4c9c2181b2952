-- The text of an accepted program as data: one JSON object on one line. Its form is this project's own choice. All numbers are those of the
-- program's tables, rules, nets and certificates.
use Rattle.std.specs.Prelude.{ℕ, List, [], ◌∷◌, ◌++◌, length, codes, decimal, Option, Some, None, option_map, slice_get}
use Rattle.in_syntax.specs.declared.symbol_no.SymbolNo.{SymbolNo}
use Rattle.in_net.specs.Parts.{Parts}
use Rattle.in_net.specs.Rules.{RuleParts}
use Rattle.in_check.specs.declared.checked.Item.{Item}
use Rattle.in_check.specs.declared.checked.Item.TheVariants.{RuleItem, NetItem}
use Rattle.in_check.specs.Programs.{Certified, Program, certificate_of}
use Rattle.in_export.specs.Json.{key, array}
use Rattle.in_export.specs.Parts.{types_text, symbols_text, graph_text, free_ends_text, certificate_text}

-- the nodes of a rule or of the net, and the steps that build it
abbrev pub item_text : Certified → Item → List ℕ
item_text c i = certificate_text (option_map (λ x. x.shape) (certificate_of c i)) (option_map (λ x. x.derivation) (certificate_of c i))

-- the symbols of a rule's two heads
abbrev pub heads_text : SymbolNo × SymbolNo → List ℕ
heads_text heads = key (codes "constructor") ++ (decimal heads.0.0 ++ (codes "," ++ (key (codes "destructor") ++ decimal heads.1.0)))

-- the heads and the right member
abbrev pub both_members_text : RuleParts → List ℕ
both_members_text r = heads_text r.heads ++ (codes "," ++ graph_text r.member)

-- the rule of that number: its heads, its right member, and the steps that build the right member
abbrev pub rule_text : Certified → ℕ → Option RuleParts → List ℕ
rule_text c k None = []
rule_text c k (Some r) = codes "{" ++ (both_members_text r ++ (codes "," ++ (item_text c (RuleItem (record { 0 = k })) ++ codes "}")))

abbrev pub rules_text : Certified → List ℕ
rules_text c = array (λ k. rule_text c k (slice_get c.program.rules k)) (length c.program.rules)

-- the free ends, the agents and the wires
abbrev pub ends_text : Parts → List ℕ
ends_text n = key (codes "free") ++ (free_ends_text n ++ (codes "," ++ graph_text n))

-- the initial net: its free ends, its agents and wires, and the steps that build it
abbrev pub net_text : Certified → List ℕ
net_text c = codes "{" ++ (ends_text c.program.net ++ (codes "," ++ (item_text c NetItem ++ codes "}")))

abbrev pub tables_text : Program → List ℕ
tables_text p = key (codes "types") ++ (types_text p.tables ++ (codes "," ++ (key (codes "symbols") ++ symbols_text p.tables)))

abbrev pub rules_and_net_text : Certified → List ℕ
rules_and_net_text c = key (codes "rules") ++ (rules_text c ++ (codes "," ++ (key (codes "net") ++ net_text c)))

-- the number of this form of the line; a form that a reader of this one can't read has another number
abbrev pub format_text : List ℕ
format_text = key (codes "format") ++ decimal 1

-- the line: one object, and the line's end
abbrev pub program_line : Certified → List ℕ
program_line c = codes "{" ++ (format_text ++ (codes "," ++ (tables_text c.program ++ (codes "," ++ (rules_and_net_text c ++ (125 ∷ 10 ∷ []))))))
