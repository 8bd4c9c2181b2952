-- The pieces that are written are the whole.
use Rattle.std.proofs.Common.{◌≡◌, ◌<◌, ◌+◌, Option, option_map, ℕ, List, ◌∷◌, ◌++◌, append_assoc, codes, decimal, length, drop, slice_get, get_or, Some, None, refl, sym, ap, subst, ◌∙◌, arith}
use Rattle.std.proofs.lemmas.List.{drop_more}
use Rattle.in_base.proofs.Places.{left_from}
use Rattle.in_symbols.specs.Tables.{Tables}
use Rattle.in_net.specs.Rules.{RuleParts}
use Rattle.in_open_nets.specs.declared.derivations.Derivation.{Derivation}
use Rattle.in_open_nets.specs.declared.derivations.Step.{Step}
use Rattle.in_open_nets.specs.OpenNets.{OpenNet}
use Rattle.in_check.specs.declared.checked.Certificate.{Certificate}
use Rattle.in_program.specs.Lines.{line_end}
use Rattle.in_program.specs.Steps.{step_text, numbers_text, lines_from, heads_line, rule_lines, rules_lines}

-- one number more
pub number_written : (numbers bytes more : List ℕ) (k number : ℕ) → k < length numbers → number ≡ get_or numbers k number → more ≡ bytes ++ (codes " " ++ decimal number) →
    more ++ numbers_text (drop (k + 1) numbers) ≡ bytes ++ numbers_text (drop k numbers)
number_written numbers bytes more k number lt is wrote =
    ap (λ z. z ++ numbers_text (drop (k + 1) numbers)) wrote
    ∙ append_assoc bytes (codes " " ++ decimal number) (numbers_text (drop (k + 1) numbers))
    ∙ ap (λ z. bytes ++ z) (append_assoc (codes " ") (decimal number) (numbers_text (drop (k + 1) numbers)) ∙ sym (ap numbers_text (drop_more numbers k number lt ∙ ap (λ z. z ∷ drop (k + 1) numbers) (sym is))))

-- one step more
pub line_written : (t : Tables) (o : OpenNet) (steps : List Step) (bytes more : List ℕ) (k : ℕ) (s : Step) → k < length steps → s ≡ get_or steps k s →
    more ≡ bytes ++ (decimal k ++ (codes " " ++ (step_text t o s ++ line_end))) → more ++ lines_from t o (k + 1) (drop (k + 1) steps) ≡ bytes ++ lines_from t o k (drop k steps)
line_written t o steps bytes more k s lt is wrote =
    let rest = lines_from t o (k + 1) (drop (k + 1) steps) in
    ap (λ z. z ++ rest) wrote
    ∙ append_assoc bytes (decimal k ++ (codes " " ++ (step_text t o s ++ line_end))) rest
    ∙ ap (λ z. bytes ++ z)
    (append_assoc (decimal k) (codes " " ++ (step_text t o s ++ line_end)) rest
    ∙ ap (λ z. decimal k ++ z) (append_assoc (codes " ") (step_text t o s ++ line_end) rest ∙ ap (λ z. codes " " ++ z) (append_assoc (step_text t o s) line_end rest))
    ∙ one
    ∙ sym (ap (lines_from t o k) (drop_more steps k s lt ∙ ap (λ z. z ∷ drop (k + 1) steps) (sym is))))
  where
    one : decimal k ++ (codes " " ++ (step_text t o s ++ (line_end ++ lines_from t o (k + 1) (drop (k + 1) steps)))) ≡ lines_from t o k (s ∷ drop (k + 1) steps)
    one = ap (λ j. decimal k ++ (codes " " ++ (step_text t o s ++ (line_end ++ lines_from t o j (drop (k + 1) steps))))) (omega arith)

-- one rule more
pub rule_written : (t : Tables) (rules : List RuleParts) (certificates : List Certificate) (bytes more : List ℕ) (k : ℕ) (p : RuleParts) (c : Certificate) → slice_get rules k ≡ Some p → slice_get certificates k ≡ Some c →
    more ≡ bytes ++ rule_lines t p c → more ++ rules_lines t (drop (k + 1) rules) (drop (k + 1) certificates) ≡ bytes ++ rules_lines t (drop k rules) (drop k certificates)
rule_written t rules certificates bytes more k p c at made wrote =
    let rest = rules_lines t (drop (k + 1) rules) (drop (k + 1) certificates) in
    ap (λ z. z ++ rest) wrote
    ∙ append_assoc bytes (rule_lines t p c) rest
    ∙ ap (λ z. bytes ++ z) (sym (ap (λ z. rules_lines t z (drop k certificates)) (left_from rules k p at) ∙ ap (λ z. rules_lines t (p ∷ drop (k + 1) rules) z) (left_from certificates k c made)))

certified : (x : Option Certificate) (o : OpenNet) (d : Derivation) → option_map (λ (c : Certificate). c.shape) x ≡ Some o → option_map (λ (c : Certificate). c.derivation) x ≡ Some d →
    (c : Certificate) × (x ≡ Some c) × (c.shape ≡ o) × (c.derivation ≡ d)
certified None o d e f = absurd (let wrong : ◌≡◌ {A = Option OpenNet} None (Some o) = e in cc)
certified (Some c) o d e f = (c, refl, (let same : c.shape ≡ o = cc in same), (let same : c.derivation ≡ d = cc in same))

pub rule_made : (t u : Tables) (rules : List RuleParts) (certificates : List Certificate) (bytes middle more : List ℕ) (k : ℕ) (p : RuleParts) (o : OpenNet) (d : Derivation) → u ≡ t → slice_get rules k ≡ Some p →
    option_map (λ (c : Certificate). c.shape) (slice_get certificates k) ≡ Some o → option_map (λ (c : Certificate). c.derivation) (slice_get certificates k) ≡ Some d →
    middle ≡ bytes ++ heads_line u p → more ≡ middle ++ lines_from u o 0 d.steps →
    more ++ rules_lines t (drop (k + 1) rules) (drop (k + 1) certificates) ≡ bytes ++ rules_lines t (drop k rules) (drop k certificates)
rule_made t u rules certificates bytes middle more k p o d same at shape steps first second =
    let c = certified (slice_get certificates k) o d shape steps in
    let whole : more ≡ bytes ++ rule_lines u p c.0 =
    second ∙ ap (λ z. z ++ lines_from u o 0 d.steps) first ∙ append_assoc bytes (heads_line u p) (lines_from u o 0 d.steps)
    ∙ ap (λ (z : OpenNet). bytes ++ (heads_line u p ++ lines_from u z 0 d.steps)) (sym c.2) ∙ ap (λ (z : Derivation). bytes ++ (heads_line u p ++ lines_from u c.0.shape 0 z.steps)) (sym c.3)
    in
    rule_written t rules certificates bytes more k p c.0 at c.1 (subst (λ z. more ≡ bytes ++ rule_lines z p c.0) same whole)
