-- A program that is spelled is read.
use Rattle.std.proofs.Common.{◌≡◌, ℕ, zero, suc, ◌+◌, ◌<◌, ◌≤◌, max, Bool, true, false, cond, nat_lt, List, [], ◌∷◌, ◌++◌, length, map, refl, sym, ◌∙◌, ap, subst, append_assoc, append-nil, length-append, arith, Option, Some, None}
use Rattle.std.specs.List.{flat_map, AllByRecursion}
use Rattle.in_syntax.specs.declared.words.TokenKind.TheVariants as kind
use Rattle.in_syntax.specs.declared.signs.Sign.{Sign}
use Rattle.in_syntax.specs.declared.signs.Sign.TheVariants.{Named, Tilde, Plain}
use Rattle.in_syntax.specs.declared.counts.Counts.{Counts}
use Rattle.in_syntax.specs.declared.places.Place.{Place}
use Rattle.in_syntax.specs.declared.tree.Name.{Name}
use Rattle.in_syntax.specs.declared.tree.SourcePort.{SourcePort}
use Rattle.in_syntax.specs.declared.tree.SourceSymbol.{SourceSymbol}
use Rattle.in_syntax.specs.declared.tree.SourceRule.{SourceRule}
use Rattle.in_syntax.specs.declared.tree.Head.{Head}
use Rattle.in_syntax.specs.declared.tree.SourceFree.{SourceFree}
use Rattle.in_syntax.specs.declared.tree.SourceNet.{SourceNet}
use Rattle.in_syntax.specs.declared.tree.Equation.{Equation}
use Rattle.in_syntax.specs.declared.tree.Term.{Term, out-Term, roll-Term}
use Rattle.in_syntax.specs.declared.tree.Term.TheOpen.{Term-F}
use Rattle.in_syntax.specs.declared.tree.Term.TheFolds.{fold-Term, fold_out-Term}
use Rattle.in_syntax.specs.declared.tree.Term.TheViews.{out-roll-Term, roll-out-Term}
use Rattle.in_syntax.specs.declared.reader.Reader.{Reader}
use Rattle.in_syntax.specs.declared.states.State.{State}
use Rattle.in_syntax.specs.declared.states.State.TheVariants as state
use Rattle.in_syntax.specs.declared.states.PortOf.{PortOf}
use Rattle.in_syntax.specs.declared.states.PortOf.TheVariants.{Principal, Auxiliary, Free}
use Rattle.in_syntax.specs.declared.states.HeadOf.{HeadOf}
use Rattle.in_syntax.specs.declared.states.HeadOf.TheVariants.{First, Second}
use Rattle.in_syntax.specs.declared.states.TermOf.TheVariants.{Left, Right, Inside}
use Rattle.in_syntax.specs.declared.states.Nest.{Nest}
use Rattle.in_syntax.specs.declared.states.EquationsOf.{EquationsOf}
use Rattle.in_syntax.specs.declared.states.EquationsOf.TheVariants as body
use Rattle.in_syntax.specs.Grammar.{Spelling, marked, within, plain, separated, numbered, spell_auxiliary, spell_class, spell_classes, spell_symbol, spell_type, spell_types, spell_arguments, spell_term, spell_outermost, spell_head, spell_with, StandAfterWord, spell_rule, spell_equation, spell_free, spell_net, max_types, max_depth, Item, types, symbol, rule, none_yet, counted, spell_items, IsItem, types_in, symbols_in, rules_in, GrammarProgram, spelling}
use Rattle.in_syntax.specs.Steps.{at_term_open, at_term_end, after_port, body_with, step, at_state, with_types, with_symbol, with_rule, counts_of, between_items, start}
use Rattle.in_syntax.specs.Trees.{bare, bare_head, bare_rule, with_argument, with_class, with_term}
use Rattle.in_syntax.proofs.Grammar.Separated.{ports_after, after}
use Rattle.in_syntax.proofs.Grammar.Paths.{turns, turn_of, turn, Path, join}
use Rattle.in_syntax.proofs.Grammar.Sound.{free_one, arguments_at, spell_out, counts_types, counts_symbol, counts_rule}
use Rattle.in_syntax.specs.declared.text_limits.TextLimits.{TextLimits}

-- a path to a state that is another way to write the same
to_state : (a r : Reader) (m : Spelling) (p q : State) → p ≡ q → Path a m (at_state r p) → Path a m (at_state r q)
to_state a r m p q e path = subst (λ z. Path a m (at_state r z)) e path

-- ---- types

-- the number of a reader's next type
abbrev next_type : Reader → ℕ
next_type r = length r.types + 1

path_names : (r : Reader) (names more : List Name) →
    Path (at_state r (state.TypeEnd names)) (after (numbered spell_type (next_type r + length names) more)) (at_state r (state.TypeEnd (names ++ more)))
path_names r names [] = ap (λ z. at_state r (state.TypeEnd z)) (sym (append-nil names))
path_names r names (n ∷ more) =
    let e : next_type r + length (names ++ n ∷ []) ≡ (next_type r + length names) + 1 = omega (arith, length-append names (n ∷ [])) in (
      at_state r (state.TypeName names),
      refl,
      (
        at_state r (state.TypeEnd (names ++ n ∷ [])),
        refl,
        subst (λ k. Path (at_state r (state.TypeEnd (names ++ n ∷ []))) (after (numbered spell_type k more)) (at_state r (state.TypeEnd (names ++ n ∷ more)))) e
            (to_state (at_state r (state.TypeEnd (names ++ n ∷ []))) r (after (numbered spell_type (next_type r + length (names ++ n ∷ [])) more)) (state.TypeEnd ((names ++ n ∷ []) ++ more)) (state.TypeEnd (names ++ n ∷ more))
            (ap (λ z. state.TypeEnd z) (append_assoc names (n ∷ []) more)) (path_names r (names ++ n ∷ []) more)),
      ),
    )

path_types : (r : Reader) (names : List Name) → 0 < length names → Path (at_state r state.Item) (spell_types (next_type r) names) (with_types r names)
path_types r [] full = absurd (omega (arith, full))
path_types r (n ∷ more) full =
    let e : next_type r + 0 ≡ next_type r = omega arith in (
      at_state r (state.TypeName []),
      refl,
      (
        at_state r (state.TypeEnd (n ∷ [])),
        ap (λ k. turns (nat_lt max_types k) (at_state r (state.TypeEnd (n ∷ [])))) e,
        join (after (numbered spell_type (next_type r + 1) more)) (plain kind.Semicolon ∷ []) (at_state r (state.TypeEnd (n ∷ []))) (at_state r (state.TypeEnd (n ∷ more))) (with_types r (n ∷ more))
            (path_names r (n ∷ []) more) (with_types r (n ∷ more), refl, refl),
      ),
    )

-- ---- ports and symbols

sign_turn : (r : Reader) (o : PortOf) (k : Name) (b : Bool) → turn (at_state r (state.PortSign o k)) (Plain (cond b kind.Plus kind.Minus)) ≡ turns false (at_state r (after_port o (record { kind = k; output = b })))
sign_turn r o k true = refl
sign_turn r o k false = refl

-- a port of a class
path_port : (r : Reader) (s : SourceSymbol) (c : List SourcePort) (number : ℕ) (p : SourcePort) →
    Path (at_state r (state.PortKind (Auxiliary s c number))) (spell_auxiliary number p) (at_state r (state.ClassEnd s (c ++ p ∷ []) (number + 1)))
path_port r s c number p =
    (at_state r (state.PortSign (Auxiliary s c (number + 1)) p.kind), refl, (at_state r (state.ClassEnd s (c ++ p ∷ []) (number + 1)), sign_turn r (Auxiliary s c (number + 1)) p.kind p.output, refl))

path_ports : (r : Reader) (s : SourceSymbol) (more c : List SourcePort) (number : ℕ) →
    Path (at_state r (state.ClassEnd s c number)) (after (numbered spell_auxiliary number more)) (at_state r (state.ClassEnd s (c ++ more) (number + length more)))
path_ports r s [] c number =
    let e : number ≡ number + 0 = omega arith in
    ap (λ z. at_state r (state.ClassEnd s z number)) (sym (append-nil c)) ∙ ap (λ z. at_state r (state.ClassEnd s (c ++ []) z)) e
path_ports r s (p ∷ more) c number =
    let e : (number + 1) + length more ≡ number + length (p ∷ more) = omega arith in (
      at_state r (state.PortKind (Auxiliary s c number)),
      refl,
      join (spell_auxiliary number p) (after (numbered spell_auxiliary (number + 1) more)) (at_state r (state.PortKind (Auxiliary s c number))) (at_state r (state.ClassEnd s (c ++ p ∷ []) (number + 1)))
          (at_state r (state.ClassEnd s (c ++ p ∷ more) (number + length (p ∷ more))))
          (path_port r s c number p)
          (to_state (at_state r (state.ClassEnd s (c ++ p ∷ []) (number + 1))) r (after (numbered spell_auxiliary (number + 1) more)) (state.ClassEnd s ((c ++ p ∷ []) ++ more) ((number + 1) + length more))
          (state.ClassEnd s (c ++ p ∷ more) (number + length (p ∷ more)))
          (ap (λ z. state.ClassEnd s z ((number + 1) + length more)) (append_assoc c (p ∷ []) more) ∙ ap (λ z. state.ClassEnd s (c ++ p ∷ more) z) e)
          (path_ports r s more (c ++ p ∷ []) (number + 1))),
    )

path_class : (r : Reader) (s : SourceSymbol) (c : List SourcePort) (number : ℕ) → 0 < length c →
    Path (at_state r (state.SymbolEnd s number)) (spell_class number c) (at_state r (state.SymbolEnd (with_class s c) (number + length c)))
path_class r s [] number full = absurd (omega (arith, full))
path_class r s (p ∷ more) number full =
    let e : (number + 1) + length more ≡ number + length (p ∷ more) = omega arith in (
      at_state r (state.PortKind (Auxiliary s [] number)),
      refl,
      join (spell_auxiliary number p ++ after (numbered spell_auxiliary (number + 1) more)) (plain kind.CloseBrace ∷ []) (at_state r (state.PortKind (Auxiliary s [] number)))
          (at_state r (state.ClassEnd s (p ∷ more) ((number + 1) + length more))) (at_state r (state.SymbolEnd (with_class s (p ∷ more)) (number + length (p ∷ more))))
          (join (spell_auxiliary number p) (after (numbered spell_auxiliary (number + 1) more)) (at_state r (state.PortKind (Auxiliary s [] number))) (at_state r (state.ClassEnd s (p ∷ []) (number + 1)))
          (at_state r (state.ClassEnd s (p ∷ more) ((number + 1) + length more)))
          (path_port r s [] number p) (path_ports r s more (p ∷ []) (number + 1)))
          (at_state r (state.SymbolEnd (with_class s (p ∷ more)) ((number + 1) + length more)), refl, ap (λ z. at_state r (state.SymbolEnd (with_class s (p ∷ more)) z)) e),
    )

abbrev with_classes : SourceSymbol → List (List SourcePort) → SourceSymbol
with_classes s cs = record { name = s.name; port = s.port; classes = s.classes ++ cs }

path_classes : (r : Reader) (cs : List (List SourcePort)) (s : SourceSymbol) (number : ℕ) → AllByRecursion (λ c. 0 < length c) cs →
    Path (at_state r (state.SymbolEnd s number)) (spell_classes number cs) (at_state r (state.SymbolEnd (with_classes s cs) (ports_after number cs)))
path_classes r [] s number each = ap (λ z. at_state r (state.SymbolEnd (record { name = s.name; port = s.port; classes = z }) number)) (sym (append-nil s.classes))
path_classes r (c ∷ cs) s number each =
    join (spell_class number c) (spell_classes (number + length c) cs) (at_state r (state.SymbolEnd s number)) (at_state r (state.SymbolEnd (with_class s c) (number + length c)))
    (at_state r (state.SymbolEnd (with_classes s (c ∷ cs)) (ports_after number (c ∷ cs))))
    (path_class r s c number each.0)
    (to_state (at_state r (state.SymbolEnd (with_class s c) (number + length c))) r (spell_classes (number + length c) cs) (state.SymbolEnd (with_classes (with_class s c) cs) (ports_after number (c ∷ cs)))
    (state.SymbolEnd (with_classes s (c ∷ cs)) (ports_after number (c ∷ cs)))
    (ap (λ z. state.SymbolEnd (record { name = s.name; port = s.port; classes = z }) (ports_after number (c ∷ cs))) (append_assoc s.classes (c ∷ []) cs))
    (path_classes r cs (with_class s c) (number + length c) each.1))

abbrev no_classes : SourceSymbol → SourceSymbol
no_classes s = record { name = s.name; port = s.port; classes = [] }

path_symbol : (r : Reader) (s : SourceSymbol) → AllByRecursion (λ c. 0 < length c) s.classes → Path (at_state r state.Item) (spell_symbol r.limits (length r.symbols + 1) s) (with_symbol r s)
path_symbol r s each = (
  at_state r state.SymbolName,
  refl,
  (
    at_state r (state.SymbolColon s.name),
    refl,
    (
      at_state r (state.PortKind (Principal s.name)),
      refl,
      (
        at_state r (state.PortSign (Principal s.name) s.port.kind),
        refl,
        (
          at_state r (state.SymbolEnd (no_classes s) 1),
          sign_turn r (Principal s.name) s.port.kind s.port.output,
          join (spell_classes 1 s.classes) (plain kind.Semicolon ∷ []) (at_state r (state.SymbolEnd (no_classes s) 1)) (at_state r (state.SymbolEnd s (ports_after 1 s.classes))) (with_symbol r s)
              (path_classes r s.classes (no_classes s) 1 each) (with_symbol r s, refl, refl),
        ),
      ),
    ),
  ),
)

-- ---- terms

abbrev tallest : List ℕ → ℕ
tallest [] = 0
tallest (n ∷ ns) = max n (tallest ns)

abbrev height : Term → ℕ
height = fold-Term ℕ (λ f. tallest f.args + 1)

height_out : (t : Term) → height t ≡ tallest (map height (out-Term t).args) + 1
height_out = fold_out-Term ℕ (λ f. tallest f.args + 1)

abbrev inside : Term → Nest → Nest
inside f b = record { of = b.of; around = f ∷ b.around }

-- after a term: a bare name can still be followed by arguments
abbrev ended_by : Nest → Term → List Term → State
ended_by b t [] = state.TermOpen b (out-Term t).name
ended_by b t (a ∷ more) = state.TermEnd b t

abbrev ended : Nest → Term → State
ended b t = ended_by b t (out-Term t).args

abbrev pub IsPast : Sign → Type 0
IsPast (Plain kind.OpenParenthesis) = ⊥
IsPast _ = Unit {0}

pub open_past : (b : Nest) (n : Name) (x : Sign) → IsPast x → at_term_open b n x ≡ at_term_end b (bare n) x
open_past b n (Plain kind.OpenParenthesis) p = absurd p
open_past b n x p = refl

bare_is : (t : Term) → (out-Term t).args ≡ [] → bare (out-Term t).name ≡ t
bare_is t e = ap (λ z. roll-Term (record { name = (out-Term t).name; args = z })) (sym e) ∙ roll-out-Term t

past_ended : (c : Counts) (b : Nest) (t : Term) (args : List Term) → (out-Term t).args ≡ args → (x : Sign) → IsPast x → step c (ended_by b t args) x ≡ at_term_end b t x
past_ended c b t [] e x p = open_past b (out-Term t).name x p ∙ ap (λ z. at_term_end b z x) (bare_is t e)
past_ended c b t (a ∷ more) e x p = refl

ended_turn : (r : Reader) (b : Nest) (t : Term) (x : Sign) → IsPast x → turn (at_state r (ended b t)) x ≡ turn_of r (at_term_end b t x)
ended_turn r b t x p = ap (turn_of r) (past_ended (counts_of r) b t (out-Term t).args refl x p)

abbrev with_arguments : Term → List Term → Term
with_arguments f ts = roll-Term (record { name = (out-Term f).name; args = (out-Term f).args ++ ts })

with_again : (f t : Term) (ts : List Term) → with_arguments (with_argument f t) ts ≡ with_arguments f (t ∷ ts)
with_again f t ts =
    ap (λ (y : Term-F Term). roll-Term (record { name = y.name; args = y.args ++ ts })) (out-roll-Term (record { name = (out-Term f).name; args = (out-Term f).args ++ t ∷ [] }))
    ∙ ap (λ z. roll-Term (record { name = (out-Term f).name; args = z })) (append_assoc (out-Term f).args (t ∷ []) ts)

bare_with : (n : Name) (ts : List Term) → with_arguments (bare n) ts ≡ roll-Term (record { name = n; args = ts })
bare_with n ts = ap (λ (y : Term-F Term). roll-Term (record { name = y.name; args = y.args ++ ts })) (out-roll-Term (record { name = n; args = [] }))

abbrev ReadsTerms : ℕ → Type 0
ReadsTerms h = (t : Term) (r : Reader) (b : Nest) → height t ≤ h → Path (at_state r (state.TermName b)) (spell_term t (length b.around + 1)) (at_state r (ended b t))

-- an argument, at the depth that its agent gives it
path_argument : (h : ℕ) → ReadsTerms h → (t f : Term) (r : Reader) (b : Nest) → height t ≤ h →
    Path (at_state r (state.TermName (inside f b))) (spell_term t ((length b.around + 1) + 1)) (at_state r (ended (inside f b) t))
path_argument h ih t f r b short =
    let e : length (f ∷ b.around) + 1 ≡ (length b.around + 1) + 1 = omega arith in
    subst (λ d. Path (at_state r (state.TermName (inside f b))) (spell_term t d) (at_state r (ended (inside f b) t))) e (ih t r (inside f b) short)

path_more : (h : ℕ) → ReadsTerms h → (more : List Term) (f a : Term) (r : Reader) (b : Nest) → tallest (map height more) ≤ h →
    Path (at_state r (ended (inside f b) a)) (after (arguments_at ((length b.around + 1) + 1) more) ++ plain kind.CloseParenthesis ∷ []) (at_state r (state.TermEnd b (with_arguments f (a ∷ more))))
path_more h ih [] f a r b short = (at_state r (state.TermEnd b (with_argument f a)), ended_turn r (inside f b) a (Plain kind.CloseParenthesis) tt, refl)
path_more h ih (c ∷ more) f a r b short =
    let d : ℕ = (length b.around + 1) + 1 in
    let rest : Spelling = after (arguments_at ((length b.around + 1) + 1) more) in (
      at_state r (state.TermName (inside (with_argument f a) b)),
      ended_turn r (inside f b) a (Plain kind.Comma) tt,
      subst (λ z. Path (at_state r (state.TermName (inside (with_argument f a) b))) z (at_state r (state.TermEnd b (with_arguments f (a ∷ c ∷ more)))))
          (sym (append_assoc (spell_term c ((length b.around + 1) + 1)) (after (arguments_at ((length b.around + 1) + 1) more)) (plain kind.CloseParenthesis ∷ [])))
          (join (spell_term c ((length b.around + 1) + 1)) (after (arguments_at ((length b.around + 1) + 1) more) ++ plain kind.CloseParenthesis ∷ [])
          (at_state r (state.TermName (inside (with_argument f a) b))) (at_state r (ended (inside (with_argument f a) b) c)) (at_state r (state.TermEnd b (with_arguments f (a ∷ c ∷ more))))
          (path_argument h ih c (with_argument f a) r b (omega arith))
          (to_state (at_state r (ended (inside (with_argument f a) b) c)) r (after (arguments_at ((length b.around + 1) + 1) more) ++ plain kind.CloseParenthesis ∷ [])
          (state.TermEnd b (with_arguments (with_argument f a) (c ∷ more))) (state.TermEnd b (with_arguments f (a ∷ c ∷ more)))
          (ap (λ z. state.TermEnd b z) (with_again f a (c ∷ more)))
          (path_more h ih more (with_argument f a) c r b (omega arith)))),
    )

path_level : (h : ℕ) → ReadsTerms h → (n : Name) (args : List Term) (r : Reader) (b : Nest) → tallest (map height args) ≤ h →
    Path (at_state r (state.TermOpen b n)) (spell_arguments (arguments_at ((length b.around + 1) + 1) args)) (at_state r (ended_by b (roll-Term (record { name = n; args = args })) args))
path_level h ih n [] r b short = ap (λ (y : Term-F Term). at_state r (state.TermOpen b y.name)) (sym (out-roll-Term (record { name = n; args = [] })))
path_level h ih n (a ∷ more) r b short = (
  at_state r (state.TermName (inside (bare n) b)),
  refl,
  subst (λ z. Path (at_state r (state.TermName (inside (bare n) b))) z (at_state r (state.TermEnd b (roll-Term (record { name = n; args = a ∷ more })))))
      (sym (append_assoc (spell_term a ((length b.around + 1) + 1)) (after (arguments_at ((length b.around + 1) + 1) more)) (plain kind.CloseParenthesis ∷ [])))
      (join (spell_term a ((length b.around + 1) + 1)) (after (arguments_at ((length b.around + 1) + 1) more) ++ plain kind.CloseParenthesis ∷ [])
      (at_state r (state.TermName (inside (bare n) b))) (at_state r (ended (inside (bare n) b) a)) (at_state r (state.TermEnd b (roll-Term (record { name = n; args = a ∷ more }))))
      (path_argument h ih a (bare n) r b (omega arith))
      (to_state (at_state r (ended (inside (bare n) b) a)) r (after (arguments_at ((length b.around + 1) + 1) more) ++ plain kind.CloseParenthesis ∷ [])
      (state.TermEnd b (with_arguments (bare n) (a ∷ more))) (state.TermEnd b (roll-Term (record { name = n; args = a ∷ more })))
      (ap (λ z. state.TermEnd b z) (bare_with n (a ∷ more)))
      (path_more h ih more (bare n) a r b (omega arith)))),
)

path_out : (h : ℕ) → ReadsTerms h → (o : Term-F Term) (r : Reader) (b : Nest) → tallest (map height o.args) ≤ h →
    Path (at_state r (state.TermName b)) (marked (nat_lt max_depth (length b.around + 1)) (Named o.name) ∷ spell_arguments (arguments_at ((length b.around + 1) + 1) o.args)) (at_state r (ended_by b (roll-Term o) o.args))
path_out h ih o r b short = (at_state r (state.TermOpen b o.name), refl, path_level h ih o.name o.args r b short)

path_terms : (h : ℕ) → ReadsTerms h
path_terms zero t r b short = absurd (omega (arith, height_out t))
path_terms (suc h) t r b short =
    let out : Path (at_state r (state.TermName b)) (marked (nat_lt max_depth (length b.around + 1)) (Named (out-Term t).name) ∷ spell_arguments (arguments_at ((length b.around + 1) + 1) (out-Term t).args))
    (at_state r (ended_by b (roll-Term (out-Term t)) (out-Term t).args)) =
    path_out h (λ u q c le. path_terms h u q c le) (out-Term t) r b (omega (arith, height_out t)) in
    subst (λ z. Path (at_state r (state.TermName b)) z (at_state r (ended b t))) (sym (spell_out t (length b.around + 1)))
    (to_state (at_state r (state.TermName b)) r (marked (nat_lt max_depth (length b.around + 1)) (Named (out-Term t).name) ∷ spell_arguments (arguments_at ((length b.around + 1) + 1) (out-Term t).args))
    (ended_by b (roll-Term (out-Term t)) (out-Term t).args) (ended b t) (ap (λ z. ended_by b z (out-Term t).args) (roll-out-Term t)) out)

path_term : (t : Term) (r : Reader) (b : Nest) → Path (at_state r (state.TermName b)) (spell_term t (length b.around + 1)) (at_state r (ended b t))
path_term t r b = path_terms (height t) t r b (omega arith)

-- ---- equations

abbrev left_of : EquationsOf → Nest
left_of b = record { of = Left b; around = [] }

abbrev right_of : EquationsOf → Term → Place → Nest
right_of b l p = record { of = Right b l p; around = [] }

path_left : (t : Term) (r : Reader) (b : EquationsOf) → Path (at_state r (state.Equation b)) (spell_term t 1) (at_state r (ended (left_of b) t))
path_left t r b =
    let p : Path (at_state r (state.TermName (left_of b))) (marked false (Named (out-Term t).name) ∷ spell_arguments (arguments_at 2 (out-Term t).args)) (at_state r (ended (left_of b) t)) =
    subst (λ z. Path (at_state r (state.TermName (left_of b))) z (at_state r (ended (left_of b) t))) (spell_out t 1) (path_term t r (left_of b)) in
    subst (λ z. Path (at_state r (state.Equation b)) z (at_state r (ended (left_of b) t))) (sym (spell_out t 1)) (p.0, p.1, p.2)

path_equation : (e : Equation) (r : Reader) (b : EquationsOf) → Path (at_state r (state.Equation b)) (spell_equation e) (at_state r (state.Equation (body_with b e)))
path_equation e r b =
    join (spell_term e.left 1 ++ within (Tilde e.tilde) ∷ spell_term e.right 1) (plain kind.Semicolon ∷ []) (at_state r (state.Equation b)) (at_state r (ended (right_of b e.left e.tilde) e.right))
    (at_state r (state.Equation (body_with b e)))
    (join (spell_term e.left 1) (within (Tilde e.tilde) ∷ spell_term e.right 1) (at_state r (state.Equation b)) (at_state r (ended (left_of b) e.left)) (at_state r (ended (right_of b e.left e.tilde) e.right))
    (path_left e.left r b)
    (at_state r (state.TermName (right_of b e.left e.tilde)), ended_turn r (left_of b) e.left (Tilde e.tilde) tt, path_term e.right r (right_of b e.left e.tilde)))
    (at_state r (state.Equation (body_with b e)), ended_turn r (right_of b e.left e.tilde) e.right (Plain kind.Semicolon) tt, refl)

-- with these equations more
abbrev body_and : EquationsOf → List Equation → EquationsOf
body_and (body.Net n) es = body.Net (record { free = n.free; equations = n.equations ++ es })
body_and (body.Rule y p) es = body.Rule (record { first = y.first; second = y.second; equations = y.equations ++ es }) p

and_none : (b : EquationsOf) → b ≡ body_and b []
and_none (body.Net n) = ap (λ z. body.Net (record { free = n.free; equations = z })) (sym (append-nil n.equations))
and_none (body.Rule y p) = ap (λ z. body.Rule (record { first = y.first; second = y.second; equations = z }) p) (sym (append-nil y.equations))

and_more : (b : EquationsOf) (e : Equation) (es : List Equation) → body_and (body_with b e) es ≡ body_and b (e ∷ es)
and_more (body.Net n) e es = ap (λ z. body.Net (record { free = n.free; equations = z })) (append_assoc n.equations (e ∷ []) es)
and_more (body.Rule y p) e es = ap (λ z. body.Rule (record { first = y.first; second = y.second; equations = z }) p) (append_assoc y.equations (e ∷ []) es)

path_equations : (es : List Equation) (r : Reader) (b : EquationsOf) → Path (at_state r (state.Equation b)) (flat_map spell_equation es) (at_state r (state.Equation (body_and b es)))
path_equations [] r b = ap (λ z. at_state r (state.Equation z)) (and_none b)
path_equations (e ∷ es) r b =
    join (spell_equation e) (flat_map spell_equation es) (at_state r (state.Equation b)) (at_state r (state.Equation (body_with b e)))
    (at_state r (state.Equation (body_and b (e ∷ es))))
    (path_equation e r b)
    (to_state (at_state r (state.Equation (body_with b e))) r (flat_map spell_equation es) (state.Equation (body_and (body_with b e) es)) (state.Equation (body_and b (e ∷ es)))
    (ap (λ z. state.Equation z) (and_more b e es))
    (path_equations es r (body_with b e)))

-- ---- rules

abbrev nest_of : HeadOf → Head → Nest
nest_of o h = record { of = Inside o h; around = [] }

abbrev with_terms : Head → List Term → Head
with_terms h ts = record { name = h.name; terms = h.terms ++ ts }

path_more_terms : (more : List Term) (a : Term) (r : Reader) (o : HeadOf) (h : Head) →
    Path (at_state r (ended (nest_of o h) a)) (after (map spell_outermost more) ++ plain kind.CloseBracket ∷ []) (at_state r (state.HeadEnd o (with_terms h (a ∷ more))))
path_more_terms [] a r o h = (at_state r (state.HeadEnd o (with_term h a)), ended_turn r (nest_of o h) a (Plain kind.CloseBracket) tt, refl)
path_more_terms (c ∷ more) a r o h = (
  at_state r (state.TermName (nest_of o (with_term h a))),
  ended_turn r (nest_of o h) a (Plain kind.Comma) tt,
  subst (λ z. Path (at_state r (state.TermName (nest_of o (with_term h a)))) z (at_state r (state.HeadEnd o (with_terms h (a ∷ c ∷ more)))))
      (sym (append_assoc (spell_term c 1) (after (map spell_outermost more)) (plain kind.CloseBracket ∷ [])))
      (join (spell_term c 1) (after (map spell_outermost more) ++ plain kind.CloseBracket ∷ [])
      (at_state r (state.TermName (nest_of o (with_term h a)))) (at_state r (ended (nest_of o (with_term h a)) c)) (at_state r (state.HeadEnd o (with_terms h (a ∷ c ∷ more))))
      (path_term c r (nest_of o (with_term h a)))
      (to_state (at_state r (ended (nest_of o (with_term h a)) c)) r (after (map spell_outermost more) ++ plain kind.CloseBracket ∷ [])
      (state.HeadEnd o (with_terms (with_term h a) (c ∷ more))) (state.HeadEnd o (with_terms h (a ∷ c ∷ more)))
      (ap (λ z. state.HeadEnd o (record { name = h.name; terms = z })) (append_assoc h.terms (a ∷ []) (c ∷ more)))
      (path_more_terms more c r o (with_term h a)))),
)

path_first_term : (t : Term) (r : Reader) (o : HeadOf) (n : Name) → Path (at_state r (state.HeadFirst o n)) (spell_term t 1) (at_state r (ended (nest_of o (bare_head n)) t))
path_first_term t r o n =
    let p : Path (at_state r (state.TermName (nest_of o (bare_head n)))) (marked false (Named (out-Term t).name) ∷ spell_arguments (arguments_at 2 (out-Term t).args)) (at_state r (ended (nest_of o (bare_head n)) t)) =
    subst (λ z. Path (at_state r (state.TermName (nest_of o (bare_head n)))) z (at_state r (ended (nest_of o (bare_head n)) t))) (spell_out t 1) (path_term t r (nest_of o (bare_head n))) in
    subst (λ z. Path (at_state r (state.HeadFirst o n)) z (at_state r (ended (nest_of o (bare_head n)) t))) (sym (spell_out t 1)) (p.0, p.1, p.2)

path_head_terms : (ts : List Term) (r : Reader) (o : HeadOf) (n : Name) →
    Path (at_state r (state.HeadFirst o n)) (separated (map spell_outermost ts) ++ plain kind.CloseBracket ∷ []) (at_state r (state.HeadEnd o (record { name = n; terms = ts })))
path_head_terms [] r o n = (at_state r (state.HeadEnd o (bare_head n)), refl, refl)
path_head_terms (t ∷ more) r o n =
    subst (λ z. Path (at_state r (state.HeadFirst o n)) z (at_state r (state.HeadEnd o (record { name = n; terms = t ∷ more }))))
    (sym (append_assoc (spell_term t 1) (after (map spell_outermost more)) (plain kind.CloseBracket ∷ [])))
    (join (spell_term t 1) (after (map spell_outermost more) ++ plain kind.CloseBracket ∷ [])
    (at_state r (state.HeadFirst o n)) (at_state r (ended (nest_of o (bare_head n)) t)) (at_state r (state.HeadEnd o (record { name = n; terms = t ∷ more })))
    (path_first_term t r o n) (path_more_terms more t r o (bare_head n)))

path_head : (r : Reader) (o : HeadOf) (h : Head) → Path (at_state r (state.HeadName o)) (spell_head h) (at_state r (state.HeadEnd o h))
path_head r o h = (at_state r (state.HeadOpen o h.name), refl, (at_state r (state.HeadFirst o h.name), refl, path_head_terms h.terms r o h.name))

path_heads : (r : Reader) (f h : Head) → Path (at_state r (state.HeadName First)) (spell_head f ++ plain kind.Meets ∷ spell_head h) (at_state r (state.HeadEnd (Second f) h))
path_heads r f h =
    join (spell_head f) (plain kind.Meets ∷ spell_head h)
    (at_state r (state.HeadName First)) (at_state r (state.HeadEnd First f)) (at_state r (state.HeadEnd (Second f) h))
    (path_head r First f) (at_state r (state.HeadName (Second f)), refl, path_head r (Second f) h)

-- after the heads
path_with : (r : Reader) (y : SourceRule) (w : Option Place) → StandAfterWord w y.equations →
    Path (at_state r (state.HeadEnd (Second y.first) y.second)) (spell_with w y.equations ++ plain kind.Semicolon ∷ []) (with_rule r y)
path_with r y None none = (with_rule r (bare_rule y.first y.second), refl, ap (λ z. with_rule r (record { first = y.first; second = y.second; equations = z })) (sym none))
path_with r y (Some p) some = (
  at_state r (state.RuleOpen y.first y.second p),
  refl,
  (
    at_state r (state.Equation (body.Rule (bare_rule y.first y.second) p)),
    refl,
    join (flat_map spell_equation y.equations ++ plain kind.CloseBrace ∷ []) (plain kind.Semicolon ∷ [])
        (at_state r (state.Equation (body.Rule (bare_rule y.first y.second) p))) (at_state r (state.RuleClose y p)) (with_rule r y)
        (join (flat_map spell_equation y.equations) (plain kind.CloseBrace ∷ [])
        (at_state r (state.Equation (body.Rule (bare_rule y.first y.second) p))) (at_state r (state.Equation (body.Rule y p))) (at_state r (state.RuleClose y p))
        (path_equations y.equations r (body.Rule (bare_rule y.first y.second) p)) (at_state r (state.RuleClose y p), refl, refl))
        (with_rule r y, refl, refl),
  ),
)

path_rule : (r : Reader) (w : Option Place) (y : SourceRule) → StandAfterWord w y.equations → Path (at_state r state.Item) (spell_rule r.limits (length r.rules + 1) w y) (with_rule r y)
path_rule r w y is = (
  at_state r (state.HeadName First),
  refl,
  subst (λ z. Path (at_state r (state.HeadName First)) z (with_rule r y)) (sym (append_assoc (spell_head y.first ++ plain kind.Meets ∷ spell_head y.second) (spell_with w y.equations) (plain kind.Semicolon ∷ [])))
      (join (spell_head y.first ++ plain kind.Meets ∷ spell_head y.second) (spell_with w y.equations ++ plain kind.Semicolon ∷ [])
      (at_state r (state.HeadName First)) (at_state r (state.HeadEnd (Second y.first) y.second)) (with_rule r y)
      (path_heads r y.first y.second) (path_with r y w is)),
)

-- ---- items

abbrev pub with_items : Reader → List Item → Reader
with_items r items = record {
  limits = r.limits;
  types = r.types ++ flat_map types_in items;
  symbols = r.symbols ++ flat_map symbols_in items;
  rules = r.rules ++ flat_map rules_in items;
  state = state.Item;
}

path_items : (items : List Item) (r : Reader) → AllByRecursion IsItem items → Path (at_state r state.Item) (spell_items (counts_of r) items) (with_items r items)
path_items [] r each =
    ap (λ z. between_items r.limits z r.symbols r.rules) (sym (append-nil r.types))
    ∙ ap (λ z. between_items r.limits (r.types ++ []) z r.rules) (sym (append-nil r.symbols))
    ∙ ap (λ z. between_items r.limits (r.types ++ []) (r.symbols ++ []) z) (sym (append-nil r.rules))
path_items (types names ∷ items) r each =
    join (spell_types (length r.types + 1) names) (spell_items (counted (counts_of r) (types names)) items) (at_state r state.Item) (with_types r names) (with_items r (types names ∷ items))
    (path_types r names each.0)
    (subst (λ c. Path (with_types r names) (spell_items c items) (with_items r (types names ∷ items))) (counts_types r names)
    (subst (λ z. Path (with_types r names) (spell_items (counts_of (with_types r names)) items) (between_items r.limits z (r.symbols ++ flat_map symbols_in items) (r.rules ++ flat_map rules_in items)))
    (append_assoc r.types names (flat_map types_in items)) (path_items items (with_types r names) each.1)))
path_items (symbol s ∷ items) r each =
    join (spell_symbol r.limits (length r.symbols + 1) s) (spell_items (counted (counts_of r) (symbol s)) items) (at_state r state.Item) (with_symbol r s) (with_items r (symbol s ∷ items))
    (path_symbol r s each.0)
    (subst (λ c. Path (with_symbol r s) (spell_items c items) (with_items r (symbol s ∷ items))) (counts_symbol r s)
    (subst (λ z. Path (with_symbol r s) (spell_items (counts_of (with_symbol r s)) items) (between_items r.limits (r.types ++ flat_map types_in items) z (r.rules ++ flat_map rules_in items)))
    (append_assoc r.symbols (s ∷ []) (flat_map symbols_in items)) (path_items items (with_symbol r s) each.1)))
path_items (rule w y ∷ items) r each =
    join (spell_rule r.limits (length r.rules + 1) w y) (spell_items (counted (counts_of r) (rule w y)) items) (at_state r state.Item) (with_rule r y) (with_items r (rule w y ∷ items))
    (path_rule r w y each.0)
    (subst (λ c. Path (with_rule r y) (spell_items c items) (with_items r (rule w y ∷ items))) (counts_rule r w y)
    (subst (λ z. Path (with_rule r y) (spell_items (counts_of (with_rule r y)) items) (between_items r.limits (r.types ++ flat_map types_in items) (r.symbols ++ flat_map symbols_in items) z))
    (append_assoc r.rules (y ∷ []) (flat_map rules_in items)) (path_items items (with_rule r y) each.1)))

-- ---- the net

path_free : (f : SourceFree) (r : Reader) (fs : List SourceFree) → Path (at_state r (state.FreeName fs)) (spell_free r.limits (1 + length fs) f) (at_state r (state.FreeEnd (fs ++ f ∷ [])))
path_free f r fs = (
  at_state r (state.FreeColon fs f.name),
  refl,
  (
    at_state r (state.PortKind (Free fs f.name)),
    refl,
    (at_state r (state.PortSign (Free fs f.name) f.port.kind), refl, (at_state r (state.FreeEnd (fs ++ f ∷ [])), sign_turn r (Free fs f.name) f.port.kind f.port.output, refl)),
  ),
)

path_frees : (more : List SourceFree) (r : Reader) (fs : List SourceFree) → Path (at_state r (state.FreeEnd fs)) (after (numbered (spell_free r.limits) (1 + length fs) more)) (at_state r (state.FreeEnd (fs ++ more)))
path_frees [] r fs = ap (λ z. at_state r (state.FreeEnd z)) (sym (append-nil fs))
path_frees (f ∷ more) r fs =
    let e : 1 + length (fs ++ f ∷ []) ≡ (1 + length fs) + 1 = omega (arith, length-append fs (f ∷ [])) in (
      at_state r (state.FreeName fs),
      refl,
      join (spell_free r.limits (1 + length fs) f) (after (numbered (spell_free r.limits) ((1 + length fs) + 1) more)) (at_state r (state.FreeName fs)) (at_state r (state.FreeEnd (fs ++ f ∷ []))) (at_state r (state.FreeEnd (fs ++ f ∷ more)))
          (path_free f r fs)
          (subst (λ k. Path (at_state r (state.FreeEnd (fs ++ f ∷ []))) (after (numbered (spell_free r.limits) k more)) (at_state r (state.FreeEnd (fs ++ f ∷ more)))) e
          (to_state (at_state r (state.FreeEnd (fs ++ f ∷ []))) r (after (numbered (spell_free r.limits) (1 + length (fs ++ f ∷ [])) more)) (state.FreeEnd ((fs ++ f ∷ []) ++ more)) (state.FreeEnd (fs ++ f ∷ more))
          (ap (λ z. state.FreeEnd z) (append_assoc fs (f ∷ []) more)) (path_frees more r (fs ++ f ∷ [])))),
    )

-- the free names with their closing sign
path_all_frees : (fs : List SourceFree) (r : Reader) → Path (at_state r state.FreeFirst) (separated (numbered (spell_free r.limits) 1 fs) ++ plain kind.CloseParenthesis ∷ []) (at_state r (state.BodyOpen fs))
path_all_frees [] r = (at_state r (state.BodyOpen []), refl, refl)
path_all_frees (f ∷ more) r =
    let p = path_free f r [] in
    join (spell_free r.limits 1 f ++ after (numbered (spell_free r.limits) 2 more)) (plain kind.CloseParenthesis ∷ []) (at_state r state.FreeFirst) (at_state r (state.FreeEnd (f ∷ more))) (at_state r (state.BodyOpen (f ∷ more)))
    (join (spell_free r.limits 1 f) (after (numbered (spell_free r.limits) 2 more)) (at_state r state.FreeFirst) (at_state r (state.FreeEnd (f ∷ []))) (at_state r (state.FreeEnd (f ∷ more)))
    (p.0, ap (λ past. turns past (at_state (at_state r state.FreeFirst) (state.FreeColon [] f.name))) (sym (free_one r.limits)) ∙ p.1, p.2) (path_frees more r (f ∷ [])))
    (at_state r (state.BodyOpen (f ∷ more)), refl, refl)

abbrev no_equations : SourceNet → SourceNet
no_equations n = record { free = n.free; equations = [] }

net_again : (f c o e d : Spelling) → (f ++ c) ++ (o ++ (e ++ d)) ≡ (f ++ (c ++ (o ++ e))) ++ d
net_again f c o e d = simp append_assoc

path_net : (n : SourceNet) (r : Reader) → Path (at_state r state.Item) (spell_net r.limits n) (at_state r (state.Done n))
path_net n r = (
  at_state r state.NetOpen,
  refl,
  (
    at_state r state.FreeFirst,
    refl,
    subst (λ z. Path (at_state r state.FreeFirst) z (at_state r (state.Done n)))
        (net_again (separated (numbered (spell_free r.limits) 1 n.free)) (plain kind.CloseParenthesis ∷ []) (plain kind.OpenBrace ∷ []) (flat_map spell_equation n.equations) (plain kind.CloseBrace ∷ []))
        (join (separated (numbered (spell_free r.limits) 1 n.free) ++ plain kind.CloseParenthesis ∷ []) (plain kind.OpenBrace ∷ (flat_map spell_equation n.equations ++ plain kind.CloseBrace ∷ []))
        (at_state r state.FreeFirst) (at_state r (state.BodyOpen n.free)) (at_state r (state.Done n))
        (path_all_frees n.free r) (
          at_state r (state.Equation (body.Net (no_equations n))),
          refl,
          join (flat_map spell_equation n.equations) (plain kind.CloseBrace ∷ []) (at_state r (state.Equation (body.Net (no_equations n)))) (at_state r (state.Equation (body.Net n))) (at_state r (state.Done n))
              (path_equations n.equations r (body.Net (no_equations n))) (at_state r (state.Done n), refl, refl),
        )),
  ),
)

abbrev pub done_with : TextLimits → GrammarProgram → Reader
done_with limits p = record {
  limits = limits;
  types = flat_map types_in p.items;
  symbols = flat_map symbols_in p.items;
  rules = flat_map rules_in p.items;
  state = state.Done p.net;
}

-- a program's signs, with their marks, lead to its tree
pub program_path : (limits : TextLimits) (p : GrammarProgram) → Path (start limits) (spelling limits p) (done_with limits p)
program_path limits p =
    join (spell_items (none_yet limits) p.items) (spell_net limits p.net) (start limits) (with_items (start limits) p.items) (done_with limits p)
    (path_items p.items (start limits) p.each) (path_net p.net (with_items (start limits) p.items))
