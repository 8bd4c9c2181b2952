-- The loop over the tokens: the rest of the text after one more.
use Rattle.std.proofs.Common.{◌≡◌, ℕ, zero, suc, ◌+◌, ◌<◌, true, false, List, [], ◌∷◌, ◌++◌, take, drop, length, get_or, Some, refl, sym, ◌∙◌, ap, subst, add-one}
use Rattle.std.proofs.Math.Seq.{drop-cons, take-suc}
use Rattle.std.proofs.lemmas.List.{map-append}
use Rattle.in_syntax.specs.declared.words.Token.{Token}
use Rattle.in_syntax.specs.declared.words.TokenKind.TheVariants as kind
use Rattle.in_syntax.specs.declared.signs.Sign.{Sign}
use Rattle.in_syntax.specs.declared.reader.Reader.{Reader}
use Rattle.in_syntax.specs.Moves.{Move}
use Rattle.in_syntax.specs.Moves as move
use Rattle.in_syntax.specs.Programs.{HasTexts, sign_of, signs_of, unmarked}
use Rattle.in_syntax.specs.Steps.{Step, goes, adds_types, adds_symbol, adds_rule, stuck, step, move_of, Answer, at_state, with_types, with_symbol, with_rule, counts_of, run, start, moved, taken, SignsLead}
use Rattle.in_syntax.proofs.Grammar.Paths.{turns, turn_of, Path, along}

texts_suc : (text : List ℕ) (i : ℕ) (tokens : List Token) → HasTexts text (drop i tokens) → HasTexts text (drop (suc i) tokens)
texts_suc text zero [] h = h
texts_suc text zero (t ∷ ts) h = h.1
texts_suc text (suc i) [] h = h
texts_suc text (suc i) (t ∷ ts) h = texts_suc text i ts h

pub texts_after : (text : List ℕ) (i : ℕ) (tokens : List Token) → HasTexts text (drop i tokens) → HasTexts text (drop (i + 1) tokens)
texts_after text i tokens h = rw (add-one i) (texts_suc text i tokens h)

abbrev no_token : Token
no_token = record { kind = kind.Name; place = record { from = 0; to = 0; line = 0; col = 0 } }

-- after a move to another reader the run continues from there
run_moved : (r next : Reader) (x : Sign) (s : List Sign) (m : Move) → moved r m ≡ Some next → along r x s m ≡ run next s
run_moved r next x s (move.Goes p) e = let is : at_state r p ≡ next = cc in ap (λ z. run z s) is
run_moved r next x s (move.Types names) e = let is : with_types r names ≡ next = cc in ap (λ z. run z s) is
run_moved r next x s (move.Symbol y) e = let is : with_symbol r y ≡ next = cc in ap (λ z. run z s) is
run_moved r next x s (move.Rule y) e = let is : with_rule r y ≡ next = cc in ap (λ z. run z s) is
run_moved r next x s (move.Refuses c) e = cc

pub run_taken : (r next : Reader) (x : Sign) (s : List Sign) → taken r x ≡ Some next → run r (x ∷ s) ≡ run next s
run_taken r next x s e = run_moved r next x s (move_of (step (counts_of r) r.state x)) e

pub goes_on : (text : List ℕ) (i : ℕ) (tokens : List Token) (reader next : Reader) (all : Answer) → i < length tokens →
    taken reader (sign_of text (get_or tokens i no_token)) ≡ Some next →
    run reader (signs_of text (drop i tokens)) ≡ all → run next (signs_of text (drop (i + 1) tokens)) ≡ all
goes_on text i tokens reader next all lt takes e =
    rw (add-one i) (sym (run_taken reader next (sign_of text (get_or tokens i no_token)) (signs_of text (drop (suc i) tokens)) takes) ∙ ap (λ z. run reader (signs_of text z)) (sym (drop-cons tokens i no_token lt)) ∙ e)

-- ---- the signs that lead to a reader

lead_on : (s : List Sign) (x : Sign) (r mid next : Reader) → SignsLead r s mid → taken mid x ≡ Some next → SignsLead r (s ++ x ∷ []) next
lead_on [] x r mid next p e = (next, ap (λ z. taken z x) p ∙ e, refl)
lead_on (y ∷ s) x r mid next p e = (p.0, p.1, lead_on s x p.0 mid next p.2 e)

pub leads_after : (first : Reader) (text : List ℕ) (i : ℕ) (tokens : List Token) (reader next : Reader) → i < length tokens → taken reader (sign_of text (get_or tokens i no_token)) ≡ Some next →
    SignsLead first (signs_of text (take i tokens)) reader → SignsLead first (signs_of text (take (i + 1) tokens)) next
leads_after first text i tokens reader next lt takes h =
    rw (add-one i) (subst (λ z. SignsLead first z next) (sym (ap (signs_of text) (take-suc tokens i no_token lt) ∙ map-append (sign_of text) (take i tokens) (get_or tokens i no_token ∷ [])))
    (lead_on (signs_of text (take i tokens)) (sign_of text (get_or tokens i no_token)) first reader next h takes))

turn_moved : (r next : Reader) (m : Step) → moved r (move_of m) ≡ Some next → turn_of r m ≡ turns false next
turn_moved r next (goes false p) e = let is : at_state r p ≡ next = cc in ap (turns false) is
turn_moved r next (goes true p) e = cc
turn_moved r next (adds_types names) e = let is : with_types r names ≡ next = cc in ap (turns false) is
turn_moved r next (adds_symbol y) e = let is : with_symbol r y ≡ next = cc in ap (turns false) is
turn_moved r next (adds_rule y) e = let is : with_rule r y ≡ next = cc in ap (turns false) is
turn_moved r next stuck e = cc

pub led_path : (s : List Sign) (r last : Reader) → SignsLead r s last → Path r (unmarked s) last
led_path [] r last h = h
led_path (x ∷ s) r last h = (h.0, turn_moved r h.0 (step (counts_of r) r.state x) h.1, led_path s h.0 last h.2)
