-- A chain of passes: the first one refuses, or the result is that of the others.
use Rattle.std.proofs.Common.{◌≡◌, inl, inr, List, length, ℕ, ◌<◌, ◌^◌, Result, Ok, Err, ap, sym, subst, ◌∙◌, arith}
use Rattle.std.specs.Prelude.{None, Some}
use Rattle.std.specs.Result.{result_err}
use Rattle.in_syntax.specs.declared.faults.Fault.{Fault}
use Rattle.in_syntax.specs.declared.faults.Fault.TheVariants.{Refused, Memory}
use Rattle.in_syntax.specs.Answers.{Then}
use Rattle.in_syntax.specs.declared.tree.Source.{Source}
use Rattle.in_syntax.specs.Parsing.{IsOfText, Parses}
use Rattle.in_syntax.proofs.Public.{of_text, rules_few, tree_sized}
use Rattle.in_symbols.specs.Tables.{Tables}
use Rattle.in_net.specs.Rules.{RuleParts}
use Rattle.in_check.specs.Checking.{BuildsRules, ChecksNames, IsAccepted, IsCertified, IsChecked, IsProgramOf}
use Rattle.in_check.specs.Programs.{Certified, Program}
use Rattle.in_syntax.specs.declared.text_limits.TextLimits.{TextLimits}

pub then_refused : {A B : Type 0} (P : Result A Fault → Type 0) (Q : A → Result B Fault → Type 0) (e : Fault) → P (Err e) → Then P Q (Err e)
then_refused P Q (Refused r) h = inl h
then_refused P Q (Memory e) h = tt

pub then_rest : {A B : Type 0} (P : Result A Fault → Type 0) (Q : A → Result B Fault → Type 0) (a : A) (x : Result B Fault) → P (Ok a) → Q a x → Then P Q x
then_rest P Q a (Ok b) p h = (a, p, h)
then_rest P Q a (Err (Refused r)) p h = inr (a, p, h)
then_rest P Q a (Err (Memory e)) p h = tt

-- the results of all passes for an accepted program
pub program_of : (limits : TextLimits) (text : List ℕ) (p : Program) → IsAccepted limits text p → IsProgramOf limits text p
unfolding IsChecked
program_of limits text p (x, is_it, (s, parses, (t, tabulates, (rules, builds_rules, (n, builds, (u, fits, (numbers, covers, (cs, simple_rules, (c, simple_net, e))))))))) =
    subst (IsProgramOf limits text) (sym (ap (λ (z : Certified). z.program) e) ∙ is_it) (record {
      source = s;
      parses = parses;
      tabulates = tabulates;
      builds_rules = builds_rules;
      builds = builds;
      fits = fits;
      covers = covers;
      rule_certificates = cs;
      simple_rules = simple_rules;
      net_certificate = c;
      simple_net = simple_net;
    })

-- the whole chain
pub chain_of : (limits : TextLimits) (text : List ℕ) (x : Result Certified Fault) → Then (Parses limits text) ChecksNames x → IsChecked limits text x
unfolding IsChecked
chain_of limits text x h = h

-- the rules of a text are few
pub few_rules : (s : Source) (t : Tables) (rules : List RuleParts) → IsOfText s → BuildsRules s t (Ok rules) → length rules < 2 ^ 32
few_rules s t rules tree builds = let sized = tree_sized s.limits tree.text s tree.tree in omega (arith, builds.count, sized.rules, rules_few s.limits)

-- .. and so of a program that is accepted, with a certificate for each
pub few_rules_of : (limits : TextLimits) (text : List ℕ) (p : Program) → IsAccepted limits text p → length p.rules < 2 ^ 32
few_rules_of limits text p h = let a = program_of limits text p h in few_rules a.source p.tables p.rules (of_text limits text a.source a.parses) a.builds_rules

pub certified_each : (limits : TextLimits) (text : List ℕ) (x : Certified) → IsCertified limits text x → length x.rule_certificates ≡ length x.program.rules
unfolding IsChecked
certified_each limits text x (s, parses, (t, tabulates, (rules, builds_rules, (n, builds, (u, fits, (numbers, covers, (cs, simple_rules, (c, simple_net, e)))))))) =
    subst (λ (z : Certified). length z.rule_certificates ≡ length z.program.rules) (sym e) simple_rules.count

-- a result that isn't refused is there
pub some_accepted : {A : Type 0} (P : Result A Fault → Type 0) (x : Result A Fault) → P x → result_err x ≡ None → (a : A) × P (Ok a)
some_accepted P (Ok a) p e = (a, p)
some_accepted P (Err f) p e = (let wrong : Some f ≡ None = e in cc)
