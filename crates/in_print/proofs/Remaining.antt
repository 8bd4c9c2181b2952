-- The text that is still to be written, step by step.
use Rattle.std.proofs.Common.{◌≡◌, ℕ, zero, suc, ◌+◌, ◌-◌, ◌<◌, ◌≤◌, List, [], ◌∷◌, ◌++◌, length, Option, Some, None, IsSomeAnd, refl, sym, ap, ◌∙◌, subst, arith, length-append, append_assoc}
use Rattle.in_net.specs.Nets.{Point, Port, Free, IsPoint, IsNet}
use Rattle.in_check.specs.NetText.{TextPart, Bytes, Head, Variable, arity_of, listed, bracketed, agent_term, term_at, IsAuxiliary}
use Rattle.in_arena.specs.declared.content.CellNo.{CellNo}
use Rattle.in_print.specs.declared.terms.Frame.{Frame}
use Rattle.in_print.specs.Writings.{Setting, TextSoFar, with_parts}
use Rattle.in_print.specs.Terms.{arity_at, term_in, rest_of, LeadsDown, remaining, last_point, IsInHand, IsShallow, WritesOn}
use Rattle.in_print.proofs.Texts.{with_parts_join}

abbrev pub frame : CellNo → ℕ → Frame
frame y i = record { cell = y; place = i }

-- the places of an agent one by one, and the bracket
listed_rest : (t : Point ℕ → List (TextPart ℕ)) (y i k : ℕ) → listed t y i (suc k) ++ Bytes (41 ∷ []) ∷ [] ≡ t (Port y i) ++ rest_of t y i k
listed_rest t y i zero = refl
listed_rest t y i (suc k) =
    append_assoc (t (Port y i)) (Bytes (44 ∷ 32 ∷ []) ∷ listed t y (suc i) (suc k)) (Bytes (41 ∷ []) ∷ [])
    ∙ ap (λ l. t (Port y i) ++ Bytes (44 ∷ 32 ∷ []) ∷ l) (listed_rest t y (suc i) k)

-- .. of an agent that has some
opened_term : (s : Setting) (d y a : ℕ) → arity_at s y ≡ suc a → agent_term s.symbols s.net (term_in s d) y ≡ Head y ∷ Bytes (40 ∷ []) ∷ (term_in s d (Port y 1) ++ rest_of (term_in s d) y 1 a)
opened_term s d y a e =
    ap (λ k. Head y ∷ bracketed k (listed (term_in s d) y 1 k)) e ∙ ap (λ l. Head y ∷ Bytes (40 ∷ []) ∷ l) (listed_rest (term_in s d) y 1 a)

closed_term : (s : Setting) (d y : ℕ) → arity_at s y ≡ 0 → agent_term s.symbols s.net (term_in s d) y ≡ Head y ∷ []
closed_term s d y e = ap (λ k. Head y ∷ bracketed k (listed (term_in s d) y 1 k)) e

-- the term at a point whose partner is a principal port
pub agent_at : (s : Setting) (d : ℕ) (p : Point ℕ) (y : ℕ) → s.net.partner p ≡ Some (Port y 0) → term_in s (suc d) p ≡ agent_term s.symbols s.net (term_in s d) y
agent_at s d p y e = ap (term_at (agent_term s.symbols s.net (term_in s d)) p) e

-- a term that is one part
leaf : (s : Setting) (d : ℕ) (fs : List Frame) (p : Point ℕ) (x : TextPart ℕ) → length fs ≤ d → ((k : ℕ) → length fs + k ≡ d → term_in s k p ≡ x ∷ []) → remaining s d fs (Some p) ≡ x ∷ remaining s d fs None
leaf s d [] p x le h = h d (omega arith)
leaf s zero (f ∷ fs) p x le h = absurd (omega (arith, le))
leaf s (suc d) (f ∷ fs) p x le h = ap (λ l. l ++ rest_of (term_in s d) f.cell.0 f.place (arity_at s f.cell.0 - f.place)) (leaf s d fs p x (omega (arith, le)) (λ k e. h k (omega (arith, e))))

-- an agent with auxiliary ports
opened : (s : Setting) (d : ℕ) (fs : List Frame) (p : Point ℕ) (y : CellNo) (a : ℕ) → length fs < d → s.net.partner p ≡ Some (Port y.0 0) → arity_at s y.0 ≡ suc a
    → remaining s d fs (Some p) ≡ Head y.0 ∷ Bytes (40 ∷ []) ∷ remaining s d (fs ++ frame y 1 ∷ []) (Some (Port y.0 1))
opened s zero fs p y a lt e k = absurd (omega (arith, lt))
opened s (suc d) [] p y a lt e k =
    let left : a ≡ arity_at s y.0 - 1 = omega (arith, k) in
    agent_at s d p y.0 e ∙ opened_term s d y.0 a k ∙ ap (λ m. Head y.0 ∷ Bytes (40 ∷ []) ∷ (term_in s d (Port y.0 1) ++ rest_of (term_in s d) y.0 1 m)) left
opened s (suc d) (f ∷ fs) p y a lt e k = ap (λ l. l ++ rest_of (term_in s d) f.cell.0 f.place (arity_at s f.cell.0 - f.place)) (opened s d fs p y a (omega (arith, lt)) e k)

-- the last place of the agent on top is written
closed : (s : Setting) (d : ℕ) (fs : List Frame) (f : Frame) → length fs < d → arity_at s f.cell.0 - f.place ≡ 0 → remaining s d (fs ++ f ∷ []) None ≡ Bytes (41 ∷ []) ∷ remaining s d fs None
closed s zero fs f lt e = absurd (omega (arith, lt))
closed s (suc d) [] f lt e = ap (rest_of (term_in s d) f.cell.0 f.place) e
closed s (suc d) (g ∷ fs) f lt e = ap (λ l. l ++ rest_of (term_in s d) g.cell.0 g.place (arity_at s g.cell.0 - g.place)) (closed s d fs f (omega (arith, lt)) e)

-- another place of it follows
followed : (s : Setting) (d : ℕ) (fs : List Frame) (y : CellNo) (i : ℕ) → length fs < d → i < arity_at s y.0
    → remaining s d (fs ++ frame y i ∷ []) None ≡ Bytes (44 ∷ 32 ∷ []) ∷ remaining s d (fs ++ frame y (i + 1) ∷ []) (Some (Port y.0 (i + 1)))
followed s zero fs y i lt le = absurd (omega (arith, lt))
followed s (suc d) [] y i lt le =
    let k = arity_at s y.0 - (i + 1) in
    let more : arity_at s y.0 - i ≡ suc k = omega (arith, le) in
    let next : i + 1 ≡ suc i = omega arith in
    ap (rest_of (term_in s d) y.0 i) more ∙ ap (λ j. Bytes (44 ∷ 32 ∷ []) ∷ (term_in s d (Port y.0 j) ++ rest_of (term_in s d) y.0 j k)) (sym next)
followed s (suc d) (g ∷ fs) y i lt le = ap (λ l. l ++ rest_of (term_in s d) g.cell.0 g.place (arity_at s g.cell.0 - g.place)) (followed s d fs y i (omega (arith, lt)) le)

-- ---- the agents that hang on each other

pub leads_push : (s : Setting) (p : Point ℕ) (fs : List Frame) (f : Frame) → LeadsDown s p fs → s.net.partner (last_point p fs) ≡ Some (Port f.cell.0 0) → 0 < f.place → f.place ≤ arity_at s f.cell.0 → LeadsDown s p (fs ++ f ∷ [])
leads_push s p [] f h e lt le = (e, lt, le, tt)
leads_push s p (g ∷ fs) f h e lt le = (h.0, h.1, h.2, leads_push s (Port g.cell.0 g.place) fs f h.3 e lt le)

pub leads_pop : (s : Setting) (p : Point ℕ) (fs : List Frame) (f : Frame) → LeadsDown s p (fs ++ f ∷ []) → LeadsDown s p fs × (s.net.partner (last_point p fs) ≡ Some (Port f.cell.0 0)) × (0 < f.place) × (f.place ≤ arity_at s f.cell.0)
leads_pop s p [] f h = (tt, h.0, h.1, h.2)
leads_pop s p (g ∷ fs) f h = let r = leads_pop s (Port g.cell.0 g.place) fs f h.3 in ((h.0, h.1, h.2, r.0), r.1, r.2, r.3)

pub last_push : (p : Point ℕ) (fs : List Frame) (f : Frame) → last_point p (fs ++ f ∷ []) ≡ Port f.cell.0 f.place
last_push p [] f = refl
last_push p (g ∷ fs) f = last_push (Port g.cell.0 g.place) fs f

-- ---- each step

-- these parts were written
step : (s : Setting) (d : ℕ) (p : Point ℕ) (w : TextSoFar) (fs gs : List Frame) (x y : Option (Point ℕ)) (done : List (TextPart ℕ)) → 0 < length done → remaining s d fs x ≡ done ++ remaining s d gs y → LeadsDown s p gs → IsInHand p gs y
    → WritesOn s d p w fs x (with_parts s w done) gs y
step s d p w fs gs x y done some e h f =
    record { text = sym (with_parts_join s w done (remaining s d gs y)) ∙ ap (with_parts s w) (sym e); fewer = omega (arith, ap length e, length-append done (remaining s d gs y), some); leads = h; in_hand = f }

-- there is room for one agent more
deeper : (s : Setting) (d : ℕ) (p : Point ℕ) (fs : List Frame) (f : Frame) → IsShallow s d p → LeadsDown s p (fs ++ f ∷ []) → length fs < d
deeper s d p fs f shallow h = let le = (shallow (fs ++ f ∷ []) h).0 in omega (arith, length-append fs (f ∷ []), le)

variable_at : (agent : ℕ → List (TextPart ℕ)) (p q : Point ℕ) → IsAuxiliary q → term_at agent p (Some q) ≡ Variable p q ∷ []
variable_at agent p (Port y zero) h = absurd h
variable_at agent p (Port y (suc i)) h = refl
variable_at agent p (Free k) h = refl

variable_term : (s : Setting) (k : ℕ) (p q : Point ℕ) → s.net.partner p ≡ Some q → IsAuxiliary q → term_in s k p ≡ Variable p q ∷ []
variable_term s zero p q e h = ap (term_at (λ y. []) p) e ∙ variable_at (λ y. []) p q h
variable_term s (suc k) p q e h = ap (term_at (agent_term s.symbols s.net (term_in s k)) p) e ∙ variable_at (agent_term s.symbols s.net (term_in s k)) p q h

pub writes_variable : (s : Setting) (d : ℕ) (p : Point ℕ) (w : TextSoFar) (fs : List Frame) (x q : Point ℕ) → IsShallow s d p → LeadsDown s p fs → s.net.partner x ≡ Some q → IsAuxiliary q
    → WritesOn s d p w fs (Some x) (with_parts s w (Variable x q ∷ [])) fs None
writes_variable s d p w fs x q shallow h e aux =
    step s d p w fs fs (Some x) None (Variable x q ∷ []) (omega arith) (leaf s d fs x (Variable x q) (shallow fs h).0 (λ k i. variable_term s k x q e aux)) h tt

head_term : (s : Setting) (k : ℕ) (p : Point ℕ) (y : ℕ) → s.net.partner p ≡ Some (Port y 0) → arity_at s y ≡ 0 → 0 < k → term_in s k p ≡ Head y ∷ []
head_term s zero p y e a lt = absurd (omega (arith, lt))
head_term s (suc k) p y e a lt = agent_at s k p y e ∙ closed_term s k y a

pub writes_head : (s : Setting) (d : ℕ) (p : Point ℕ) (w : TextSoFar) (fs : List Frame) (x : Point ℕ) (y : CellNo) → IsShallow s d p → LeadsDown s p fs → x ≡ last_point p fs → s.net.partner x ≡ Some (Port y.0 0) → arity_at s y.0 ≡ 0
    → WritesOn s d p w fs (Some x) (with_parts s w (Head y.0 ∷ [])) fs None
writes_head s d p w fs x y shallow h at e a =
    let lt : length fs < d = (shallow fs h).1 y.0 (ap s.net.partner (sym at) ∙ e) in
    step s d p w fs fs (Some x) None (Head y.0 ∷ []) (omega arith) (leaf s d fs x (Head y.0) (omega (arith, lt)) (λ k i. head_term s k x y.0 e a (omega (arith, i, lt)))) h tt

pred_of : (a : ℕ) → 0 < a → (k : ℕ) × (a ≡ suc k)
pred_of zero lt = absurd (omega (arith, lt))
pred_of (suc k) lt = (k, refl)

pub writes_agent : (s : Setting) (d : ℕ) (p : Point ℕ) (w : TextSoFar) (fs : List Frame) (x : Point ℕ) (y : CellNo) → IsShallow s d p → LeadsDown s p fs → x ≡ last_point p fs → s.net.partner x ≡ Some (Port y.0 0) → 0 < arity_at s y.0
    → WritesOn s d p w fs (Some x) (with_parts s w (Head y.0 ∷ Bytes (40 ∷ []) ∷ [])) (fs ++ frame y 1 ∷ []) (Some (Port y.0 1))
writes_agent s d p w fs x y shallow h at e lt =
    let more = leads_push s p fs (frame y 1) h (ap s.net.partner (sym at) ∙ e) (omega arith) (omega (arith, lt)) in
    let a = pred_of (arity_at s y.0) lt in
    step s d p w fs (fs ++ frame y 1 ∷ []) (Some x) (Some (Port y.0 1)) (Head y.0 ∷ Bytes (40 ∷ []) ∷ []) (omega arith)
    (opened s d fs x y a.0 (deeper s d p fs (frame y 1) shallow more) e a.1) more (sym (last_push p fs (frame y 1)))

pub writes_close : (s : Setting) (d : ℕ) (p : Point ℕ) (w : TextSoFar) (fs : List Frame) (f : Frame) → IsShallow s d p → LeadsDown s p (fs ++ f ∷ []) → arity_at s f.cell.0 ≤ f.place
    → WritesOn s d p w (fs ++ f ∷ []) None (with_parts s w (Bytes (41 ∷ []) ∷ [])) fs None
writes_close s d p w fs f shallow h le =
    step s d p w (fs ++ f ∷ []) fs None None (Bytes (41 ∷ []) ∷ []) (omega arith) (closed s d fs f (deeper s d p fs f shallow h) (omega (arith, le))) (leads_pop s p fs f h).0 tt

pub writes_comma : (s : Setting) (d : ℕ) (p : Point ℕ) (w : TextSoFar) (fs : List Frame) (y : CellNo) (i : ℕ) → IsShallow s d p → LeadsDown s p (fs ++ frame y i ∷ []) → i < arity_at s y.0
    → WritesOn s d p w (fs ++ frame y i ∷ []) None (with_parts s w (Bytes (44 ∷ 32 ∷ []) ∷ [])) (fs ++ frame y (i + 1) ∷ []) (Some (Port y.0 (i + 1)))
writes_comma s d p w fs y i shallow h lt =
    let old = leads_pop s p fs (frame y i) h in
    step s d p w (fs ++ frame y i ∷ []) (fs ++ frame y (i + 1) ∷ []) None (Some (Port y.0 (i + 1))) (Bytes (44 ∷ 32 ∷ []) ∷ []) (omega arith)
    (followed s d fs y i (deeper s d p fs (frame y i) shallow h) lt) (leads_push s p fs (frame y (i + 1)) old.0 old.1 (omega arith) (omega (arith, lt))) (sym (last_push p fs (frame y (i + 1))))

-- ---- points of the net

-- the point in hand is one
pub last_there : (s : Setting) → IsNet s.symbols s.net → (p : Point ℕ) (fs : List Frame) (q : Point ℕ) → IsPoint s.symbols s.net p → LeadsDown s p fs → q ≡ last_point p fs → IsPoint s.symbols s.net q
last_there s net p [] q h leads e = subst (IsPoint s.symbols s.net) (sym e) h
last_there s net p (f ∷ fs) q h leads e = last_there s net (Port f.cell.0 f.place) fs q (there (s.net.symbol f.cell.0) (net.points (Port f.cell.0 0) p (net.back p (Port f.cell.0 0) leads.0)) leads.2) leads.3 e
  where
    there : (o : Option ℕ) → IsSomeAnd o (λ t. 0 ≤ s.symbols.arity t) → f.place ≤ arity_of s.symbols o → IsSomeAnd o (λ t. f.place ≤ s.symbols.arity t)
    there None k le = absurd k
    there (Some t) k le = le
