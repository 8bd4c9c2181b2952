-- The result of checking a text: its tree, its tables, its rules and its net, their types, one rule for each pair, and the steps that
-- build its rules and its net, one after another.
use Rattle.std.specs.Prelude.{◌≡◌, ◌⊎◌, ℕ, ◌<◌, List, length, slice_get, Option, Some, Result, Ok, Err}
use Rattle.std.specs.List.{AllByRecursion}
use Rattle.in_syntax.specs.declared.faults.Refusal.{Refusal}
use Rattle.in_syntax.specs.declared.faults.Fault.{Fault}
use Rattle.in_syntax.specs.declared.faults.Fault.TheVariants.{Refused, Memory}
use Rattle.in_syntax.specs.declared.tree.Source.{Source}
use Rattle.in_syntax.specs.Answers.{Then}
use Rattle.in_syntax.specs.Parsing.{IsOfText, Parses}
use Rattle.in_symbols.specs.Tables.{Tables, Tabulates}
use Rattle.in_net.specs.Parts.{Parts}
use Rattle.in_net.specs.Built.{Builds}
use Rattle.in_net.specs.Rules.{RuleParts, BuildsRule}
use Rattle.in_typing.specs.Typed.{Types, TypesRule}
use Rattle.in_cover.specs.Table.{Cells}
use Rattle.in_cover.specs.Cover.{Covers}
use Rattle.in_check.specs.declared.checked.Certificate.{Certificate}
use Rattle.in_check.specs.declared.checking.DeclaredText.{DeclaredText}
use Rattle.in_check.specs.Certificates.{CertifiesRules, CertifiesNet}
use Rattle.in_check.specs.Programs.{Certified, Program}
use Rattle.in_syntax.specs.declared.text_limits.TextLimits.{TextLimits}

-- ---- rule by rule

-- the rules are those of the text
pub record AreRulesOf (s : Source) (t : Tables) (rules : List RuleParts) : Type 0 where
  pub count : length rules ≡ length s.rules
  pub each : (i : ℕ) (p : RuleParts) → slice_get rules i ≡ Some p → BuildsRule s t i (Ok p)

-- a rule is refused, and no rule before it is
pub record IsRuleRefused (s : Source) (t : Tables) (r : Refusal) : Type 0 where
  pub number : ℕ
  pub stands : BuildsRule s t number (Err (Refused r))
  pub first : (i : ℕ) → i < number → (p : RuleParts) × BuildsRule s t i (Ok p)

abbrev pub BuildsRules : Source → Tables → Result (List RuleParts) Fault → Type 0
BuildsRules s t (Ok rules) = AreRulesOf s t rules
BuildsRules s t (Err (Refused r)) = IsRuleRefused s t r
BuildsRules s t (Err (Memory e)) = Unit {0}

-- the types of a rule are refused, and those of no rule before it are
pub record IsRuleUntyped (t : Tables) (rules : List RuleParts) (r : Refusal) : Type 0 where
  pub number : ℕ
  pub rule : RuleParts
  pub stands : slice_get rules number ≡ Some rule
  pub refused : TypesRule t rule (Err r)
  pub first : (i : ℕ) (p : RuleParts) → i < number → slice_get rules i ≡ Some p → TypesRule t p (Ok tt)

abbrev pub TypesRules : Tables → List RuleParts → Result (Unit {0}) Refusal → Type 0
TypesRules t rules (Ok u) = AllByRecursion (λ p. TypesRule t p (Ok tt)) rules
TypesRules t rules (Err r) = IsRuleUntyped t rules r

-- rule by rule, and then the net
abbrev pub TypesAll : Tables → List RuleParts → Parts → Result (Unit {0}) Refusal → Type 0
TypesAll t rules n (Ok u) = TypesRules t rules (Ok tt) × Types t n (Ok tt)
TypesAll t rules n (Err r) = TypesRules t rules (Err r) ⊎ (TypesRules t rules (Ok tt) × Types t n (Err r))

-- .. as the result of a pass, which takes no memory
abbrev pub TypePasses : Tables → List RuleParts → Parts → Result (Unit {0}) Fault → Type 0
TypePasses t rules n (Ok u) = TypesAll t rules n (Ok u)
TypePasses t rules n (Err (Refused r)) = TypesAll t rules n (Err r)
TypePasses t rules n (Err (Memory e)) = ⊥

-- ---- pass by pass: each has a result, and, if that is Ok, so do the later ones

module _ (t : Tables) (rules : List RuleParts) (n : Parts) where
  -- the results of the passes are kept
  abbrev pub KeepsAnswers : Cells → List Certificate → Certificate → Result Certified Fault → Type 0
  KeepsAnswers numbers cs c (Ok x) = x ≡ record { program = record { tables = t; rules = rules; net = n; numbers = numbers }; rule_certificates = cs; net_certificate = c }
  KeepsAnswers numbers cs c (Err (Refused r)) = ⊥
  KeepsAnswers numbers cs c (Err (Memory e)) = Unit {0}

  -- the steps of the net
  abbrev pub ChecksNetSteps : Cells → List Certificate → Result Certified Fault → Type 0
  ChecksNetSteps numbers cs = Then (CertifiesNet t n) (KeepsAnswers numbers cs)

  -- the steps of the rules, and the rest
  abbrev pub ChecksRuleSteps : Cells → Result Certified Fault → Type 0
  ChecksRuleSteps numbers = Then (CertifiesRules t rules) (ChecksNetSteps numbers)

  -- one rule for each pair, and the rest
  abbrev pub ChecksPairs : Result Certified Fault → Type 0
  ChecksPairs = Then (Covers t rules) ChecksRuleSteps

  -- the types, and the rest
  abbrev pub ChecksTypes : Result Certified Fault → Type 0
  ChecksTypes = Then (TypePasses t rules n) (λ u. ChecksPairs)

-- the net, and the rest
abbrev pub ChecksNet : Source → Tables → List RuleParts → Result Certified Fault → Type 0
ChecksNet s t rules = Then (Builds s t) (ChecksTypes t rules)

-- the rules, and the rest
abbrev pub ChecksRules : Source → Tables → Result Certified Fault → Type 0
ChecksRules s t = Then (BuildsRules s t) (ChecksNet s t)

-- the names, and the rest
abbrev pub ChecksNames : Source → Result Certified Fault → Type 0
ChecksNames s = Then (Tabulates s) (ChecksRules s)

-- the tree, and the rest: the program that all passes accept, with its certificates, or the refusal of the first that refuses. (A proof that
-- only has a program need not look inside.)
unfoldable pub IsChecked : TextLimits → List ℕ → Result Certified Fault → Type 0
IsChecked limits text = Then (Parses limits text) ChecksNames

-- ---- the parts that a text declares, before the passes over them

abbrev pub KeepsDeclared : Tables → List RuleParts → Parts → Result DeclaredText Fault → Type 0
KeepsDeclared t rules n (Ok d) = d ≡ record { symbols = t; rules = rules; net = n }
KeepsDeclared t rules n (Err (Refused r)) = ⊥
KeepsDeclared t rules n (Err (Memory e)) = Unit {0}

abbrev pub DeclaresNet : Source → Tables → List RuleParts → Result DeclaredText Fault → Type 0
DeclaresNet s t rules = Then (Builds s t) (KeepsDeclared t rules)

abbrev pub DeclaresRules : Source → Tables → Result DeclaredText Fault → Type 0
DeclaresRules s t = Then (BuildsRules s t) (DeclaresNet s t)

abbrev pub DeclaresNames : Source → Result DeclaredText Fault → Type 0
DeclaresNames s = Then (Tabulates s) (DeclaresRules s)

abbrev pub DeclaresText : TextLimits → List ℕ → Result DeclaredText Fault → Type 0
DeclaresText limits text = Then (Parses limits text) DeclaresNames

-- ---- all passes

-- the program of a text that all passes accept, with its certificates
abbrev pub IsCertified : TextLimits → List ℕ → Certified → Type 0
IsCertified limits text c = IsChecked limits text (Ok c)

-- .. and the program alone
abbrev pub IsAccepted : TextLimits → List ℕ → Program → Type 0
IsAccepted limits text p = (c : Certified) × (c.program ≡ p) × IsCertified limits text c

-- the first pass that refuses the text gives this refusal
abbrev pub IsRefused : TextLimits → List ℕ → Refusal → Type 0
IsRefused limits text r = IsChecked limits text (Err (Refused r))

-- the refusal is found; if memory ran out, the finding is that of before
abbrev pub IsFound : Option Refusal → Option Refusal → Fault → Type 0
IsFound before found (Refused r) = found ≡ Some r
IsFound before found (Memory e) = found ≡ before

-- ---- the results of the passes for an accepted program, each in a field

-- the text has a tree, the tree tables, rules and a net, each wire fits, each pair has its rule, and each rule and the net are built by
-- their steps
pub record IsProgramOf (limits : TextLimits) (text : List ℕ) (p : Program) : Type 0 where
  pub source : Source
  pub parses : Parses limits text (Ok source)
  pub tabulates : Tabulates source (Ok p.tables)
  pub builds_rules : BuildsRules source p.tables (Ok p.rules)
  pub builds : Builds source p.tables (Ok p.net)
  pub fits : TypesAll p.tables p.rules p.net (Ok tt)
  pub covers : Covers p.tables p.rules (Ok p.numbers)
  pub rule_certificates : List Certificate
  pub simple_rules : CertifiesRules p.tables p.rules (Ok rule_certificates)
  pub net_certificate : Certificate
  pub simple_net : CertifiesNet p.tables p.net (Ok net_certificate)

-- the tables, the rules and the net are those of one tree
pub record AreOfText (t : Tables) (rules : List RuleParts) (n : Parts) : Type 0 where
  pub source : Source
  pub tree : IsOfText source
  pub tabulates : Tabulates source (Ok t)
  pub builds_rules : BuildsRules source t (Ok rules)
  pub builds : Builds source t (Ok n)
