-- How a word stores the number of a rule, or that there is none. No contract of a public call speaks of it. This project's own choice.
use Rattle.std.specs.Prelude.{◌≡◌, ℕ, nat_eq, cond, Option, Some, None}
use Rattle.std.proofs.Common.{inl, inr, ap, sym, ◌∙◌}
use Rattle.std.proofs.lemmas.Bool.Decides.{eqb_tells}
use Rattle.in_cover.specs.declared.table.RuleNo.{RuleNo}

-- no rule has this number
abbrev pub no_rule : ℕ
no_rule = 4294967295

abbrev pub rule_from : ℕ → Option RuleNo
rule_from number = cond (nat_eq number no_rule) None (Some (record { 0 = number }))

abbrev pub word_of : Option RuleNo → ℕ
word_of None = no_rule
word_of (Some k) = k.0

-- so nothing is lost in the word
pub word_back : (n : ℕ) → word_of (rule_from n) ≡ n
word_back n = elim (eqb_tells n no_rule) [
  | inl h ↦ ap (λ b. word_of (cond b None (Some (record { 0 = n })))) h.0 ∙ sym h.1
  | inr h ↦ ap (λ b. word_of (cond b None (Some (record { 0 = n })))) h.0
]
