-- The declared parts of a text, and the passes over them: together they are all passes.
use Rattle.std.proofs.Common.{inl, inr, List, ℕ, Result, Ok, Err, sym, subst}
use Rattle.in_syntax.specs.declared.faults.Fault.{Fault}
use Rattle.in_syntax.specs.declared.faults.Fault.TheVariants.{Refused, Memory}
use Rattle.in_syntax.specs.declared.tree.Source.{Source}
use Rattle.in_syntax.specs.Parsing.{IsOfText, Parses}
use Rattle.in_symbols.specs.Tables.{Tabulates}
use Rattle.in_net.specs.Built.{Builds}
use Rattle.in_check.specs.declared.checking.DeclaredText.{DeclaredText}
use Rattle.in_check.specs.Checking.{AreOfText, BuildsRules, ChecksNames, ChecksNet, ChecksRules, ChecksTypes, DeclaresNames, DeclaresText, IsChecked}
use Rattle.in_check.specs.Programs.{Certified}
use Rattle.in_check.proofs.Chain.{chain_of, then_rest}
use Rattle.in_syntax.specs.declared.text_limits.TextLimits.{TextLimits}
use Rattle.in_syntax.proofs.Public.{of_text}

-- all declared parts are of one tree
pub declared_of : (s : Source) (d : DeclaredText) → IsOfText s → DeclaresNames s (Ok d) → AreOfText d.symbols d.rules d.net
declared_of s d tree (t, tabulates, (rules, builds_rules, (n, builds, e))) =
    subst (λ (z : DeclaredText). AreOfText z.symbols z.rules z.net) (sym e) (record {
      source = s;
      tree = tree;
      tabulates = tabulates;
      builds_rules = builds_rules;
      builds = builds;
    })

-- a tree that declares parts, and the passes over these
pub names_checked : (s : Source) (d : DeclaredText) (x : Result Certified Fault) → DeclaresNames s (Ok d) → ChecksTypes d.symbols d.rules d.net x → ChecksNames s x
names_checked s d x (t, tabulates, (rules, builds_rules, (n, builds, e))) h =
    let typed : ChecksTypes t rules n x = subst (λ (z : DeclaredText). ChecksTypes z.symbols z.rules z.net x) e h in
    then_rest (Tabulates s) (ChecksRules s) t x tabulates
    (then_rest (BuildsRules s t) (ChecksNet s t) rules x builds_rules
    (then_rest (Builds s t) (ChecksTypes t rules) n x builds typed))

-- a tree that declares none
pub names_refused : (s : Source) (e : Fault) → DeclaresNames s (Err e) → ChecksNames s (Err e)
names_refused s (Refused r) (inl h) = inl h
names_refused s (Refused r) (inr (t, tabulates, inl h)) = inr (t, tabulates, inl h)
names_refused s (Refused r) (inr (t, tabulates, inr (rules, builds_rules, inl h))) = inr (t, tabulates, inr (rules, builds_rules, inl h))
names_refused s (Refused r) (inr (t, tabulates, inr (rules, builds_rules, inr (n, builds, wrong)))) = absurd wrong
names_refused s (Memory e) h = tt

-- .. and so for a text
pub text_declared : (limits : TextLimits) (text : List ℕ) (d : DeclaredText) → DeclaresText limits text (Ok d) → AreOfText d.symbols d.rules d.net
text_declared limits text d (s, parses, h) = declared_of s d (of_text limits text s parses) h

pub text_checked : (limits : TextLimits) (text : List ℕ) (d : DeclaredText) (x : Result Certified Fault) → DeclaresText limits text (Ok d) → ChecksTypes d.symbols d.rules d.net x → IsChecked limits text x
text_checked limits text d x (s, parses, h) typed = chain_of limits text x (then_rest (Parses limits text) ChecksNames s x parses (names_checked s d x h typed))

pub text_refused : (limits : TextLimits) (text : List ℕ) (e : Fault) → DeclaresText limits text (Err e) → IsChecked limits text (Err e)
text_refused limits text (Refused r) (inl h) = chain_of limits text (Err (Refused r)) (inl h)
text_refused limits text (Refused r) (inr (s, parses, h)) = chain_of limits text (Err (Refused r)) (inr (s, parses, names_refused s (Refused r) h))
text_refused limits text (Memory e) h = chain_of limits text (Err (Memory e)) tt
