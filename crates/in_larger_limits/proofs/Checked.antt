-- The result of checking a text by the large limits.
use Rattle.std.proofs.Common.{◌≢◌, inl, inr, ℕ, List, Result, Ok, Err}
use Rattle.in_base.proofs.Each.{all_at}
use Rattle.in_syntax.specs.declared.faults.Code.TheVariants.{E03}
use Rattle.in_syntax.specs.declared.faults.Fault.{Fault}
use Rattle.in_syntax.specs.declared.faults.Fault.TheVariants.{Refused, Memory}
use Rattle.in_syntax.specs.declared.faults.Refusal.{Refusal}
use Rattle.in_syntax.specs.declared.text_limits.TextLimits.{TextLimits}
use Rattle.in_syntax.specs.declared.text_limits.TextLimits.TheVariants.{Large}
use Rattle.in_syntax.specs.declared.tree.Source.{Source}
use Rattle.in_syntax.specs.declared.tree.SourceRule.{SourceRule}
use Rattle.in_syntax.specs.Answers.{Then}
use Rattle.in_syntax.specs.Order.{IsRuleInOrder, IsWrittenInOrder}
use Rattle.in_syntax.specs.Parsing.{Parses}
use Rattle.in_syntax.specs.TextLimits.{max_agents, max_member_agents}
use Rattle.in_syntax.proofs.Public.{agents_few, member_agents_few, tree_in_order}
use Rattle.in_symbols.specs.Tables.{Tables, Tabulates}
use Rattle.in_net.specs.Built.{Builds}
use Rattle.in_net.specs.Parts.{Parts}
use Rattle.in_net.specs.Rules.{BuildsRule, BuildsRuleOf, RuleParts, body_of_rule}
use Rattle.in_net.specs.TextNet.{body_of}
use Rattle.in_check.specs.Checking.{BuildsRules, ChecksNames, ChecksNet, ChecksRules, ChecksTypes, IsChecked}
use Rattle.in_check.specs.Programs.{Certified}
use Rattle.in_larger_limits.specs.Laws.{AcceptedByLarge, IsOfNoLimit, TextsAreCheckedAlike, read_by}
use Rattle.in_larger_limits.proofs.Agents.{first_still, member_rises, net_rises, none_still}
use Rattle.in_larger_limits.proofs.Faults.{tabulates_kept}
use Rattle.in_larger_limits.proofs.Parsed.{parsed_alike}

module _ (limits : TextLimits) (t : Tables) where
  rule_of_kept : (r : SourceRule) (x : Result RuleParts Fault) → IsRuleInOrder r → IsOfNoLimit x → BuildsRuleOf limits t r x → BuildsRuleOf Large t r x
  rule_of_kept r (Ok p) order other h = (h.0, h.1, none_still (max_member_agents limits) (max_member_agents Large) t (body_of_rule t r) (member_agents_few limits) h.2, h.3)
  rule_of_kept r (Err (Refused f)) order other h = (first_still (max_member_agents limits) (max_member_agents Large) t (body_of_rule t r) (member_agents_few limits) (member_rises t r order) f.code f.place other h.0, h.1)
  rule_of_kept r (Err (Memory e)) order other h = tt

module _ (s : Source) (order : IsWrittenInOrder s) (t : Tables) where
  rule_kept : (i : ℕ) (x : Result RuleParts Fault) → IsOfNoLimit x → BuildsRule s t i x → BuildsRule (read_by Large s) t i x
  rule_kept i x other h = (h.0, h.1, rule_of_kept s.limits t h.0 x (all_at IsRuleInOrder s.rules i h.0 order.rules h.1) other h.2)

  rules_kept : (x : Result (List RuleParts) Fault) → IsOfNoLimit x → BuildsRules s t x → BuildsRules (read_by Large s) t x
  rules_kept (Ok rules) other h = record { count = h.count; each = λ i p e. rule_kept i (Ok p) tt (h.each i p e) }
  rules_kept (Err (Refused r)) other h = record { number = h.number; stands = rule_kept h.number (Err (Refused r)) other h.stands; first = λ i lt. let p = h.first i lt in (p.0, rule_kept i (Ok p.0) tt p.1) }
  rules_kept (Err (Memory e)) other h = tt

  net_kept : (x : Result Parts Fault) → IsOfNoLimit x → Builds s t x → Builds (read_by Large s) t x
  net_kept (Ok n) other h = (h.0, h.1, none_still (max_agents s.limits) (max_agents Large) t (body_of s.net) (agents_few s.limits) h.2, h.3)
  net_kept (Err (Refused r)) other h = (first_still (max_agents s.limits) (max_agents Large) t (body_of s.net) (agents_few s.limits) (net_rises t s.net order.net) r.code r.place other h.0, h.1)
  net_kept (Err (Memory e)) other h = tt

-- a pass and the rest, whose value is another one
then_kept : {A B : Type 0} (P P' : Result A Fault → Type 0) (Q Q' : A → Result B Fault → Type 0) (f : A → A) (x : Result B Fault) → IsOfNoLimit x →
    ((a : A) → P (Ok a) → P' (Ok (f a))) → ((r : Refusal) → r.code ≢ E03 → P (Err (Refused r)) → P' (Err (Refused r))) → ((a : A) → P (Ok a) → Q a x → Q' (f a) x) → Then P Q x → Then P' Q' x
then_kept P P' Q Q' f (Ok b) other ok refused rest h = (f h.0, ok h.0 h.1, rest h.0 h.1 h.2)
then_kept P P' Q Q' f (Err (Refused r)) other ok refused rest (inl h) = inl (refused r other h)
then_kept P P' Q Q' f (Err (Refused r)) other ok refused rest (inr h) = inr (f h.0, ok h.0 h.1, rest h.0 h.1 h.2)
then_kept P P' Q Q' f (Err (Memory e)) other ok refused rest h = tt

module _ (s : Source) (order : IsWrittenInOrder s) (x : Result Certified Fault) (other : IsOfNoLimit x) where
  net_checked : (t : Tables) (rules : List RuleParts) → ChecksNet s t rules x → ChecksNet (read_by Large s) t rules x
  net_checked t rules =
      then_kept (Builds s t) (Builds (read_by Large s) t) (ChecksTypes t rules) (ChecksTypes t rules) (λ n. n) x other
      (λ n. net_kept s order t (Ok n) tt) (λ r apart. net_kept s order t (Err (Refused r)) apart) (λ n b h. h)

  rules_checked : (t : Tables) → ChecksRules s t x → ChecksRules (read_by Large s) t x
  rules_checked t =
      then_kept (BuildsRules s t) (BuildsRules (read_by Large s) t) (ChecksNet s t) (ChecksNet (read_by Large s) t) (λ rules. rules) x other
      (λ rules. rules_kept s order t (Ok rules) tt) (λ r apart. rules_kept s order t (Err (Refused r)) apart) (λ rules b h. net_checked t rules h)

  names_checked : ChecksNames s x → ChecksNames (read_by Large s) x
  names_checked =
      then_kept (Tabulates s) (Tabulates (read_by Large s)) (ChecksRules s) (ChecksRules (read_by Large s)) (λ t. t) x other
      (λ t. tabulates_kept Large s (Ok t)) (λ r apart. tabulates_kept Large s (Err (Refused r))) (λ t b h. rules_checked t h)

pub checked_alike : TextsAreCheckedAlike
unfolding IsChecked
checked_alike limits text x other h =
    then_kept (Parses limits text) (Parses Large text) ChecksNames ChecksNames (read_by Large) x other
    (λ s. parsed_alike limits text (Ok s) tt) (λ r apart. parsed_alike limits text (Err (Refused r)) apart) (λ s tree rest. names_checked s (tree_in_order limits text s tree) x other rest) h

pub accepted_by_large : AcceptedByLarge
accepted_by_large limits text p h = (h.0, h.1, checked_alike limits text (Ok h.0) tt h.2)
