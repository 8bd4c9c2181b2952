-- A text has one result.
use Rattle.std.proofs.Common.{◌≡◌, ℕ, List, Option, Result, Ok, Err, refl, sym, subst, ◌∙◌}
use Rattle.in_syntax.specs.declared.faults.Fault.{Fault}
use Rattle.in_syntax.specs.declared.faults.Refusal.{Refusal}
use Rattle.in_syntax.specs.declared.faults.Fault.TheVariants.{Refused, Memory}
use Rattle.in_syntax.specs.declared.tree.Source.{Source}
use Rattle.in_syntax.specs.Answers.{AgreeBy, IsOneBy}
use Rattle.in_syntax.specs.Parsing.{IsOfText, Parses}
use Rattle.in_syntax.proofs.Public.{of_text, then_same, then_two, texts_begin_apart, parsed_once}
use Rattle.in_symbols.specs.Tables.{Tables, Tabulates}
use Rattle.in_symbols.proofs.Public.{one_tables}
use Rattle.in_net.specs.Parts.{Parts}
use Rattle.in_net.specs.Built.{Builds}
use Rattle.in_net.specs.Rules.{RuleParts, BuildsRule}
use Rattle.in_net.proofs.Public.{nets_once, rules_once}
use Rattle.in_open_nets.specs.OpenNets.{OpenNet, IsOpenNet}
use Rattle.in_open_nets_of_programs.specs.Opening.{Opens}
use Rattle.in_open_nets_of_programs.specs.OpeningRules.{OpensRule}
use Rattle.in_open_nets_of_programs.proofs.Public.{tables_numbered, opened_once, rules_open, one_open_net, is_open_net, rule_whole}
use Rattle.in_cover.specs.Table.{Cells}
use Rattle.in_cover.specs.Cover.{Covers}
use Rattle.in_cover.specs.Laws.{AreOneTable}
use Rattle.in_cover.proofs.Public.{covered_once}
use Rattle.in_syntax.specs.declared.faults.Code.TheVariants.{E12, E13}
use Rattle.in_check.specs.declared.checked.Certificate.{Certificate}
use Rattle.in_check.specs.Certificates.{CertifiesRules, CertifiesNet}
use Rattle.in_check.specs.Checking.{BuildsRules, ChecksNames, ChecksNet, ChecksNetSteps, ChecksPairs, ChecksRules, ChecksRuleSteps, ChecksTypes, IsAccepted, IsChecked, IsFound, IsRefused, KeepsAnswers, TypePasses}
use Rattle.in_check.specs.Laws.{AreOneCertified, AreOneProgram, TextsAreCheckedOnce}
use Rattle.in_check.specs.Programs.{Certified, Program}
use Rattle.in_check.proofs.OnePass.{AllOne, one_certified, one_rules, one_rules_steps, one_types}
use Rattle.in_syntax.specs.declared.text_limits.TextLimits.{TextLimits}

kept : (t : Tables) (rules : List RuleParts) (n : Parts) (a b : Cells) (cs : List Certificate) (c : Certificate) → AreOneTable a b → (x y : Result Certified Fault) → KeepsAnswers t rules n a cs c x → KeepsAnswers t rules n b cs c y → AgreeBy AreOneCertified x y
kept t rules n a b cs c e (Ok p) (Ok q) h k =
    subst (λ p. AreOneCertified p q) (sym h) (subst (AreOneCertified (record { program = record { tables = t; rules = rules; net = n; numbers = a }; rule_certificates = cs; net_certificate = c })) (sym k)
    (record { program = record { tables = refl; rules = refl; net = refl; numbers = e }; rule_certificates = refl; net_certificate = refl }))
kept t rules n a b cs c e (Ok p) (Err (Refused r)) h k = k
kept t rules n a b cs c e (Ok p) (Err (Memory m)) h k = tt
kept t rules n a b cs c e (Err (Refused q)) y h k = absurd h
kept t rules n a b cs c e (Err (Memory m)) y h k = tt

-- ---- the open nets of a text are open nets, and each has one

net_opens : (s : Source) (t : Tables) (n : Parts) (o : OpenNet) → Tabulates s (Ok t) → Builds s t (Ok n) → Opens t n o → IsOpenNet o
net_opens s t n o tabled builds opens = is_open_net t n o (tables_numbered s t tabled.0) builds.1.whole builds.0 opens

rule_opens : (s : Source) (t : Tables) (i : ℕ) (p : RuleParts) (o : OpenNet) → Tabulates s (Ok t) → BuildsRule s t i (Ok p) → OpensRule t p o → IsOpenNet o
rule_opens s t i p o tabled builds opens = rules_open t p o (tables_numbered s t tabled.0) (rule_whole s.limits t builds.0 p builds.2) builds.2.1.member.whole builds.2.0 opens

-- ---- each pass up to the net has one result, and then the others

module _ (s : Source) (t : Tables) (of_text : IsOfText s) (tabled : Tabulates s (Ok t)) where
  all_one : (rules : List RuleParts) → BuildsRules s t (Ok rules) → AllOne t rules
  all_one rules builds i p is =
      one_certified (OpensRule t p) E12 (λ o opens. rule_opens s t i p o tabled (builds.each i p is) opens) (λ o u g h. opened_once t p o u (builds.each i p is).2.1.member.whole (builds.each i p is).2.0 g h)

  steps_once : (rules : List RuleParts) (n : Parts) (a b : Cells) → BuildsRules s t (Ok rules) → Builds s t (Ok n) → AreOneTable a b → (x y : Result Certified Fault) → ChecksRuleSteps t rules n a x → ChecksRuleSteps t rules n b y →
      AgreeBy AreOneCertified x y
  steps_once rules n a b rs net e =
      then_two (λ cs ds. cs ≡ ds) AreOneCertified (CertifiesRules t rules) (ChecksNetSteps t rules n a) (ChecksNetSteps t rules n b) (one_rules_steps t rules (all_one rules rs))
      (λ cs ds f h k x y l r. net_steps cs x y l (subst (λ ds. ChecksNetSteps t rules n b ds y) (sym f) r))
    where
      net_steps : (cs : List Certificate) (x y : Result Certified Fault) → ChecksNetSteps t rules n a cs x → ChecksNetSteps t rules n b cs y → AgreeBy AreOneCertified x y
      net_steps cs =
          then_two (λ c d. c ≡ d) AreOneCertified (CertifiesNet t n) (KeepsAnswers t rules n a cs) (KeepsAnswers t rules n b cs) (one_certified (Opens t n) E13 (λ o opens. net_opens s t n o tabled net opens) (λ o u l r. one_open_net t n o u l r))
          (λ c d g h k x y l r. kept t rules n a b cs c e x y l (subst (λ d. KeepsAnswers t rules n b cs d y) (sym g) r))

  pub rules_and_net_once : IsOneBy AreOneCertified (ChecksRules s t)
  rules_and_net_once =
      then_same AreOneCertified (BuildsRules s t) (ChecksNet s t) (one_rules s t (λ i. rules_once s t i of_text tabled)) (λ rules rs.
      then_same AreOneCertified (Builds s t) (ChecksTypes t rules) (nets_once s t of_text tabled) (λ n net.
      then_two (λ u v. Unit {0}) AreOneCertified (TypePasses t rules n) (λ u. ChecksPairs t rules n) (λ u. ChecksPairs t rules n) (one_types t rules n) (λ u v w h k.
      then_two AreOneTable AreOneCertified (Covers t rules) (ChecksRuleSteps t rules n) (ChecksRuleSteps t rules n) (covered_once t rules) (λ a b e l r. steps_once rules n a b rs net e))))

pub checked_once : TextsAreCheckedOnce
unfolding IsChecked
checked_once limits text =
    then_same AreOneCertified (Parses limits text) ChecksNames (parsed_once limits text) (λ s tree.
    let tree_of : IsOfText s = of_text limits text s tree in
    then_same AreOneCertified (Tabulates s) (ChecksRules s) (one_tables s (texts_begin_apart limits text s tree)) (λ t tabled. rules_and_net_once s t tree_of tabled))

-- .. so an accepted text has one program, and no refusal
pub programs_once : (limits : TextLimits) (text : List ℕ) (p q : Program) → IsAccepted limits text p → IsAccepted limits text q → AreOneProgram p q
programs_once limits text p q (c, is, h) (d, was, k) = subst (AreOneProgram p) was (subst (λ z. AreOneProgram z d.program) is (checked_once limits text (Ok c) (Ok d) h k).program)

pub never_both : (limits : TextLimits) (text : List ℕ) (p : Program) (r : Refusal) → IsAccepted limits text p → IsRefused limits text r → ⊥
never_both limits text p r (c, is, h) k = checked_once limits text (Ok c) (Err (Refused r)) h k

-- ---- findings

pub one_finding : (before one other : Option Refusal) (f : Fault) → IsFound before one f → IsFound before other f → one ≡ other
one_finding before one other (Refused r) h g = h ∙ sym g
one_finding before one other (Memory e) h g = h ∙ sym g
