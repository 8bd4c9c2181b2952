-- Which marked signs lead from one reader to another: each marked as its turn says.
use Rattle.std.proofs.Common.{◌≡◌, Bool, true, false, List, [], ◌∷◌, ◌++◌, refl, sym, ◌∙◌, ap, subst, Option, Some, None}
use Rattle.in_syntax.specs.declared.faults.Code.{Code}
use Rattle.in_syntax.specs.declared.faults.Code.TheVariants.{E02, E03}
use Rattle.in_syntax.specs.declared.signs.Sign.{Sign}
use Rattle.in_syntax.specs.declared.reader.Reader.{Reader}
use Rattle.in_syntax.specs.Moves.{Move}
use Rattle.in_syntax.specs.Moves as move
use Rattle.in_syntax.specs.Grammar.{Marked, Spelling, marked}
use Rattle.in_syntax.specs.Programs.{signs, unmarked}
use Rattle.in_syntax.specs.Steps.{Step, goes, adds_types, adds_symbol, adds_rule, stuck, step, move_of, Answer, reads, refused, net_of, whole, at_state, with_types, with_symbol, with_rule, counts_of, run}

pub data Turn : Type 0 where
  turns : Bool → Reader → Turn
  halts : Turn

abbrev pub turn_of : Reader → Step → Turn
turn_of r (goes past p) = turns past (at_state r p)
turn_of r (adds_types names) = turns false (with_types r names)
turn_of r (adds_symbol s) = turns false (with_symbol r s)
turn_of r (adds_rule y) = turns false (with_rule r y)
turn_of r stuck = halts

abbrev pub turn : Reader → Sign → Turn
turn r x = turn_of r (step (counts_of r) r.state x)

abbrev pub Path : Reader → Spelling → Reader → Type 0
Path a [] b = a ≡ b
Path a (x ∷ m) b = (mid : Reader) × (turn a x.sign ≡ turns x.past mid) × Path mid m b

pub join : (m n : Spelling) (a b c : Reader) → Path a m b → Path b n c → Path a (m ++ n) c
join [] n a b c p q = subst (λ z. Path z n c) (sym p) q
join (x ∷ m) n a b c p q = (p.0, p.1, join m n p.0 b c p.2 q)

pub split : (m n : Spelling) (a c : Reader) → Path a (m ++ n) c → (b : Reader) × Path a m b × Path b n c
split [] n a c p = (a, refl, p)
split (x ∷ m) n a c p =
    let rest = split m n p.0 c p.2 in
    (rest.0, (p.0, p.1, rest.1), rest.2)

same_turn : (x y : Marked) (a mid last : Reader) → turn a x.sign ≡ turns x.past mid → turn a y.sign ≡ turns y.past last → x.sign ≡ y.sign → (x ≡ y) × (mid ≡ last)
same_turn x y a mid last p q e =
    let t : turns x.past mid ≡ turns y.past last = sym p ∙ ap (turn a) e ∙ q in
    let past : x.past ≡ y.past = cc in
    let r : mid ≡ last = cc in
    (ap (λ b. marked b x.sign) past ∙ ap (marked y.past) e, r)

-- the signs say where they lead, and their marks
pub same : (m n : Spelling) (a b c : Reader) → Path a m b → Path a n c → signs m ≡ signs n → (m ≡ n) × (b ≡ c)
same [] [] a b c p q e = (refl, sym p ∙ q)
same [] (y ∷ n) a b c p q e = cc
same (x ∷ m) [] a b c p q e = cc
same (x ∷ m) (y ∷ n) a b c p q e =
    let s : x.sign ≡ y.sign = cc in
    let rest : signs m ≡ signs n = cc in
    let t = same_turn x y a p.0 q.0 p.1 q.1 s in
    let k = same m n p.0 b c p.2 (subst (λ z. Path z n c) (sym t.1) q.2) rest in
    (ap (λ z. z ∷ m) t.0 ∙ ap (λ z. y ∷ z) k.0, k.1)

-- ---- the outcome of the code's run

abbrev pub IsFaultAt : Code → Reader → List Sign → Type 0
IsFaultAt E02 r [] = net_of r.state ≡ None
IsFaultAt E02 r (x ∷ rest) = turn r x ≡ halts
IsFaultAt E03 r (x ∷ rest) = (next : Reader) × (turn r x ≡ turns true next)
IsFaultAt _ r rest = ⊥

abbrev pub IsTrace : Reader → List Sign → Answer → Type 0
IsTrace r s (reads source) = (last : Reader) × Path r (unmarked s) last × (whole last (net_of last.state) ≡ reads source)
IsTrace r s (refused c rest) = (front : List Sign) × (s ≡ front ++ rest) × (last : Reader) × Path r (unmarked front) last × IsFaultAt c last rest

at_end : (r : Reader) (n : Option _) → net_of r.state ≡ n → IsTrace r [] (whole r n)
at_end r (Some n) e = (r, refl, ap (whole r) e)
at_end r None e = ([], refl, r, refl, e)

one_more : (r next : Reader) (x : Sign) (s : List Sign) (a : Answer) → turn r x ≡ turns false next → IsTrace next s a → IsTrace r (x ∷ s) a
one_more r next x s (reads source) e t = (t.0, (next, e, t.1), t.2)
one_more r next x s (refused c rest) e t = (x ∷ t.0, ap (λ z. x ∷ z) t.1, t.2, (next, e, t.3), t.4)

abbrev pub along : Reader → Sign → List Sign → Move → Answer
along r x s m = elim m as (λ m. Answer) [
  | move.Goes p ↦ run (at_state r p) s
  | move.Types names ↦ run (with_types r names) s
  | move.Symbol y ↦ run (with_symbol r y) s
  | move.Rule y ↦ run (with_rule r y) s
  | move.Refuses c ↦ refused c (x ∷ s)
]

trace_step : (r : Reader) (x : Sign) (s : List Sign) → ((next : Reader) → IsTrace next s (run next s)) → (m : Step) → step (counts_of r) r.state x ≡ m → IsTrace r (x ∷ s) (along r x s (move_of m))
trace_step r x s ih (goes false p) e = one_more r (at_state r p) x s (run (at_state r p) s) (ap (turn_of r) e) (ih (at_state r p))
trace_step r x s ih (goes true p) e = ([], refl, r, refl, (at_state r p, ap (turn_of r) e))
trace_step r x s ih (adds_types names) e = one_more r (with_types r names) x s (run (with_types r names) s) (ap (turn_of r) e) (ih (with_types r names))
trace_step r x s ih (adds_symbol y) e = one_more r (with_symbol r y) x s (run (with_symbol r y) s) (ap (turn_of r) e) (ih (with_symbol r y))
trace_step r x s ih (adds_rule y) e = one_more r (with_rule r y) x s (run (with_rule r y) s) (ap (turn_of r) e) (ih (with_rule r y))
trace_step r x s ih stuck e = ([], refl, r, refl, ap (turn_of r) e)

pub trace : (s : List Sign) (r : Reader) → IsTrace r s (run r s)
trace [] r = at_end r (net_of r.state) refl
trace (x ∷ s) r = trace_step r x s (λ next. trace s next) (step (counts_of r) r.state x) refl
