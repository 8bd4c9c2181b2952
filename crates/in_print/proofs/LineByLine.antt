-- The lines of free ends and of active pairs, one after the other.
use Rattle.std.proofs.Common.{◌≡◌, ◌+◌, ℕ, zero, suc, List, [], ◌∷◌, ◌++◌, take, slice_get, Some, refl, sym, ap, ◌∙◌, arith, append_assoc}
use Rattle.std.proofs.lemmas.Option.{same_Some}
use Rattle.in_arena.specs.declared.content.CellNo.{CellNo}
use Rattle.in_arena.specs.declared.content.End.TheVariants as end
use Rattle.in_net.specs.Nets.{Port, Free, Signature, Net}
use Rattle.in_check.specs.NetText.{Words, TextPart, Bytes, agent_term, term, free_lines, pair_lines}
use Rattle.in_reducer.specs.Machines.{MachineParts}
use Rattle.in_machine.specs.Machines.{IsMachine}
use Rattle.in_print.specs.Terms.{term_in}
use Rattle.in_print.specs.Texts.{setting_of, IsPointAt, Wrote, free_lines_in, pair_lines_in}
use Rattle.in_print.specs.Writings.{Setting, TextSoFar, with_bytes, with_parts}
use Rattle.in_print.proofs.Looking.{shown_partner, net}
use Rattle.in_print.proofs.Remaining.{agent_at}
use Rattle.in_print.proofs.Texts.{with_parts_join}

-- a front, a term, and the end of the line
pub one_line : (s : Setting) (w : TextSoFar) (front : List ℕ) (parts : List (TextPart ℕ)) → with_bytes (with_parts s (with_bytes w front) parts) (10 ∷ []) ≡ with_parts s w (Bytes front ∷ (parts ++ (Bytes (10 ∷ []) ∷ [])))
one_line s w front parts = sym (with_parts_join s (with_bytes w front) parts (Bytes (10 ∷ []) ∷ []))

pub two_terms : (s : Setting) (w : TextSoFar) (first second : List (TextPart ℕ)) → with_bytes (with_parts s (with_bytes (with_parts s w first) (32 ∷ 126 ∷ 32 ∷ [])) second) (10 ∷ []) ≡ with_parts s w (first ++ (Bytes (32 ∷ 126 ∷ 32 ∷ []) ∷ (second ++ (Bytes (10 ∷ []) ∷ []))))
two_terms s w first second = one_line s (with_parts s w first) (32 ∷ 126 ∷ 32 ∷ []) second ∙ sym (with_parts_join s w first (Bytes (32 ∷ 126 ∷ 32 ∷ []) ∷ (second ++ (Bytes (10 ∷ []) ∷ []))))

-- one line more
free_more : (sig : Signature) (words : Words) (n : Net ℕ) (d k a : ℕ) → free_lines sig words n d k (suc a) ≡ free_lines sig words n d k a ++ free_lines sig words n d (k + a) 1
free_more sig words n d k zero = ap (λ j. free_lines sig words n d j 1) (let e : k ≡ k + 0 = omega arith in e)
free_more sig words n d k (suc a) =
    let front = words.free k ++ 32 ∷ 61 ∷ 32 ∷ [] in
    let one = term sig n d (Free k) in
    let next : suc k + a ≡ k + suc a = omega arith in
    let rest = free_lines sig words n d (suc k) a in
    let last = free_lines sig words n d (k + suc a) 1 in
    ap (λ l. Bytes front ∷ (one ++ (Bytes (10 ∷ []) ∷ l))) (free_more sig words n d (suc k) a ∙ ap (λ j. rest ++ free_lines sig words n d j 1) next)
    ∙ ap (λ l. Bytes front ∷ l) (sym (append_assoc one (Bytes (10 ∷ []) ∷ rest) last))

pair_more : (sig : Signature) (n : Net ℕ) (d : ℕ) (qs rs : List (ℕ × ℕ)) → pair_lines sig n d (qs ++ rs) ≡ pair_lines sig n d qs ++ pair_lines sig n d rs
pair_more sig n d [] rs = refl
pair_more sig n d (q ∷ qs) rs =
    let one = agent_term sig n (term sig n d) q.0 in
    let two = agent_term sig n (term sig n d) q.1 in
    let rest = pair_lines sig n d qs in
    let last = pair_lines sig n d rs in
    ap (λ l. one ++ (Bytes (32 ∷ 126 ∷ 32 ∷ []) ∷ (two ++ (Bytes (10 ∷ []) ∷ l)))) (pair_more sig n d qs rs)
    ∙ ap (λ l. one ++ (Bytes (32 ∷ 126 ∷ 32 ∷ []) ∷ l)) (sym (append_assoc two (Bytes (10 ∷ []) ∷ rest) last))
    ∙ sym (append_assoc one (Bytes (32 ∷ 126 ∷ 32 ∷ []) ∷ (two ++ (Bytes (10 ∷ []) ∷ rest))) last)

take_more : (qs : List (ℕ × ℕ)) (i : ℕ) (q : ℕ × ℕ) → slice_get qs i ≡ Some q → take (suc i) qs ≡ take i qs ++ q ∷ []
take_more [] i q h = cc
take_more (r ∷ qs) zero q h = ap (λ r. r ∷ []) (same_Some r q h)
take_more (r ∷ qs) (suc i) q h = ap (λ l. r ∷ l) (take_more qs i q h)

module _ (m : MachineParts) (start : TextSoFar) where
  pub wrote_free : (old new : TextSoFar) (k : ℕ) → Wrote m start old (λ d. free_lines_in m d 0 k) → Wrote m old new (λ d. free_lines_in m d k 1) → Wrote m start new (λ d. free_lines_in m d 0 (k + 1))
  wrote_free old new k h g d le =
      let s = setting_of m in
      let at : 0 + k ≡ k = omega arith in
      let next : suc k ≡ k + 1 = omega arith in
      g d le ∙ ap (λ w. with_parts s w (free_lines_in m d k 1)) (h d le) ∙ sym (with_parts_join s start (free_lines_in m d 0 k) (free_lines_in m d k 1))
      ∙ ap (with_parts s start) (sym (free_more s.symbols s.words s.net d 0 k ∙ ap (λ j. free_lines_in m d 0 k ++ free_lines_in m d j 1) at) ∙ ap (free_lines_in m d 0) next)

  pub wrote_pair : (old new : TextSoFar) (i : ℕ) (q : ℕ × ℕ) → slice_get m.queue i ≡ Some q → Wrote m start old (λ d. pair_lines_in m d (take i m.queue)) → Wrote m old new (λ d. pair_lines_in m d (q ∷ [])) → Wrote m start new (λ d. pair_lines_in m d (take (i + 1) m.queue))
  wrote_pair old new i q at h g d le =
      let s = setting_of m in
      let next : suc i ≡ i + 1 = omega arith in
      g d le ∙ ap (λ w. with_parts s w (pair_lines_in m d (q ∷ []))) (h d le) ∙ sym (with_parts_join s start (pair_lines_in m d (take i m.queue)) (pair_lines_in m d (q ∷ [])))
      ∙ ap (with_parts s start) (sym (ap (pair_lines_in m d) (take_more m.queue i q at) ∙ pair_more s.symbols s.net d (take i m.queue) (q ∷ [])) ∙ ap (λ i. pair_lines_in m d (take i m.queue)) next)

-- ---- an active pair of the queue

module _ (m : MachineParts) (machine : IsMachine m) (i : ℕ) (one two : CellNo) (at : slice_get m.queue i ≡ Some (one.0, two.0)) where
  pub first_leads : (setting_of m).net.partner (Port one.0 0) ≡ Some (Port two.0 0)
  first_leads = shown_partner m (end.Cell one 0) (end.Cell two 0) (machine.queue.pairs i (one.0, two.0) at).active

  pub second_leads : (setting_of m).net.partner (Port two.0 0) ≡ Some (Port one.0 0)
  second_leads = (net m machine).back (Port one.0 0) (Port two.0 0) first_leads

  pub first_there : IsPointAt m (end.Cell one 0)
  first_there = (net m machine).points (Port one.0 0) (Port two.0 0) first_leads

  pub second_there : IsPointAt m (end.Cell two 0)
  second_there = (net m machine).points (Port two.0 0) (Port one.0 0) second_leads

  pub first_term : (d : ℕ) → term_in (setting_of m) (suc d) (Port two.0 0) ≡ agent_term (setting_of m).symbols (setting_of m).net (term_in (setting_of m) d) one.0
  first_term d = agent_at (setting_of m) d (Port two.0 0) one.0 second_leads

  pub second_term : (d : ℕ) → term_in (setting_of m) (suc d) (Port one.0 0) ≡ agent_term (setting_of m).symbols (setting_of m).net (term_in (setting_of m) d) two.0
  second_term d = agent_at (setting_of m) d (Port one.0 0) two.0 first_leads
