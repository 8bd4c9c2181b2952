-- Each text has one tree or one first fault.
use Rattle.std.proofs.Common.{◌≡◌, ◌⊎◌, inl, inr, ℕ, List, drop, None, Result, Ok, Err, refl, sym, ◌∙◌, ap, subst}
use Rattle.in_syntax.specs.declared.faults.Fault.TheVariants.{Refused, Memory}
use Rattle.in_syntax.specs.declared.faults.Refusal.{Refusal}
use Rattle.in_syntax.specs.declared.tree.Source.{Source}
use Rattle.in_syntax.specs.declared.words.Token.{Token}
use Rattle.in_syntax.specs.declared.signs.Sign.{Sign}
use Rattle.in_syntax.specs.Places.{end_place}
use Rattle.in_syntax.specs.Tokens.{IsTokensOf, IsTokenFault}
use Rattle.in_syntax.specs.Programs.{signs_of, Outcome, tree, fault, IsOutcomeOfSigns, place_at}
use Rattle.in_syntax.specs.Parsing.{IsTreeOf, IsGrammarFault, IsTextFault, IsAnswer, Parses}
use Rattle.in_syntax.specs.Answers.{IsOne}
use Rattle.in_syntax.specs.Laws.{OneAnswer}
use Rattle.in_syntax.proofs.Lexing.TextLaws.{tokens_unique, fault_unique, not_both, tokens_or_fault}
use Rattle.in_syntax.proofs.Grammar.Outcomes.{one_outcome}
use Rattle.in_syntax.specs.declared.text_limits.TextLimits.{TextLimits}

same_place : (text : List ℕ) (q r : Refusal) (ts us : List Token) (i j : ℕ) → ts ≡ us → i ≡ j → q.place ≡ place_at (drop i ts) (end_place text) → r.place ≡ place_at (drop j us) (end_place text) → q.place ≡ r.place
same_place text q r ts us i j e f x y = x ∙ ap (λ z. place_at (drop i z) (end_place text)) e ∙ ap (λ k. place_at (drop k us) (end_place text)) f ∙ sym y

pub same_refusal : (q r : Refusal) → q.code ≡ r.code → q.place ≡ r.place → q.other ≡ r.other → q ≡ r
same_refusal q r e f g =
    ap (λ c. record { code = c; place = q.place; other = q.other }) e
    ∙ ap (λ p. record { code = r.code; place = p; other = q.other }) f
    ∙ ap (λ o. record { code = r.code; place = r.place; other = o }) g

module _ (limits : TextLimits) where
  -- an outcome of one list of tokens is that of another
  moved : (text : List ℕ) (ts us : List Token) (o : Outcome) → ts ≡ us → IsOutcomeOfSigns limits (signs_of text ts) o → IsOutcomeOfSigns limits (signs_of text us) o
  moved text ts us o e is = subst (λ z. IsOutcomeOfSigns limits (signs_of text z) o) e is

  outcomes : (s : List Sign) (o p : Outcome) → IsOutcomeOfSigns limits s o → IsOutcomeOfSigns limits s p → o ≡ p
  outcomes s o p x y =
      let one = one_outcome limits s in
      one.2 o x ∙ sym (one.2 p y)

  two_trees : (text : List ℕ) (a b : Source) → IsTreeOf limits text a → IsTreeOf limits text b → a ≡ b
  two_trees text a b x y =
      let same : tree a ≡ tree b = outcomes (signs_of text y.tokens) (tree a) (tree b) (moved text x.tokens y.tokens (tree a) (tokens_unique limits text x.tokens y.tokens x.read y.read) x.tree) y.tree in
      cc

  tree_and_fault : (text : List ℕ) (a : Source) (r : Refusal) → IsTreeOf limits text a → IsTextFault limits text r → ⊥
  tree_and_fault text a r x (inl f) = not_both limits text x.tokens r x.read f
  tree_and_fault text a r x (inr g) =
      let same : tree a ≡ fault r.code g.at = outcomes (signs_of text g.tokens) (tree a) (fault r.code g.at) (moved text x.tokens g.tokens (tree a) (tokens_unique limits text x.tokens g.tokens x.read g.read) x.tree) g.first in
      cc

  two_grammar_faults : (text : List ℕ) (q r : Refusal) → IsGrammarFault limits text q → IsGrammarFault limits text r → q ≡ r
  two_grammar_faults text q r x y =
      let tokens = tokens_unique limits text x.tokens y.tokens x.read y.read in
      let same : fault q.code x.at ≡ fault r.code y.at = outcomes (signs_of text y.tokens) (fault q.code x.at) (fault r.code y.at) (moved text x.tokens y.tokens (fault q.code x.at) tokens x.first) y.first in
      let code : q.code ≡ r.code = cc in
      let at : x.at ≡ y.at = cc in
      same_refusal q r code (same_place text q r x.tokens y.tokens x.at y.at tokens at x.place y.place) (x.other ∙ sym y.other)

  two_faults : (text : List ℕ) (q r : Refusal) → IsTextFault limits text q → IsTextFault limits text r → q ≡ r
  two_faults text q r (inl x) (inl y) = fault_unique limits text q r x y
  two_faults text q r (inl x) (inr y) = absurd (not_both limits text y.tokens q y.read x)
  two_faults text q r (inr x) (inl y) = absurd (not_both limits text x.tokens r x.read y)
  two_faults text q r (inr x) (inr y) = two_grammar_faults text q r x y

  answers : (text : List ℕ) (a b : Result Source Refusal) → IsAnswer limits text a → IsAnswer limits text b → a ≡ b
  answers text (Ok a) (Ok b) x y = ap (λ z. Ok z) (two_trees text a b x y)
  answers text (Ok a) (Err r) x y = absurd (tree_and_fault text a r x y)
  answers text (Err q) (Ok b) x y = absurd (tree_and_fault text b q y x)
  answers text (Err q) (Err r) x y = ap (λ z. Err z) (two_faults text q r x y)

  abbrev Some : List ℕ → Type 0
  Some text = (a : Result Source Refusal) × IsAnswer limits text a

  of_tokens : (text : List ℕ) (ts : List Token) → IsTokensOf limits text ts → (o : Outcome) → IsOutcomeOfSigns limits (signs_of text ts) o → Some text
  of_tokens text ts read (tree source) is = (Ok source, record { tokens = ts; read = read; tree = is })
  of_tokens text ts read (fault c i) is = (
    Err (record { code = c; place = place_at (drop i ts) (end_place text); other = None }),
    inr (record { tokens = ts; read = read; at = i; first = is; place = refl; other = refl }),
  )

  some_answer : (text : List ℕ) → ((ts : List Token) × IsTokensOf limits text ts) ⊎ ((r : Refusal) × IsTokenFault limits text r) → Some text
  some_answer text (inl h) =
      let one = one_outcome limits (signs_of text h.0) in
      of_tokens text h.0 h.1 one.0 one.1
  some_answer text (inr h) = (Err h.0, inl h.1)

  pub one_answer : (text : List ℕ) → (a : Result Source Refusal) × IsAnswer limits text a × ((b : Result Source Refusal) → IsAnswer limits text b → b ≡ a)
  one_answer text =
      let h = some_answer text (tokens_or_fault limits text) in
      (h.0, h.1, λ b is. answers text b h.0 is h.1)

  pub parsed_once : (text : List ℕ) → IsOne (Parses limits text)
  parsed_once text (Ok a) (Ok b) x y = two_trees text a b x y
  parsed_once text (Ok a) (Err (Refused r)) x y = tree_and_fault text a r x y
  parsed_once text (Ok a) (Err (Memory e)) x y = tt
  parsed_once text (Err (Refused q)) (Ok b) x y = tree_and_fault text b q y x
  parsed_once text (Err (Refused q)) (Err (Refused r)) x y = two_faults text q r x y
  parsed_once text (Err (Refused q)) (Err (Memory e)) x y = tt
  parsed_once text (Err (Memory e)) b x y = tt
