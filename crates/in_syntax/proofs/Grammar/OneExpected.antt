-- Signs have at most one expectation, and a text has one noted expectation.
use Rattle.std.proofs.Common.{◌≡◌, ◌⊎◌, inl, inr, ℕ, Bool, List, refl, sym, ◌∙◌, ap, subst, take, if◌then◌else◌, Err}
use Rattle.std.proofs.Math.Path.{fun_ext}
use Rattle.std.specs.Bool.{one_answer}
use Rattle.in_syntax.specs.declared.expecting.Expected.{Expected}
use Rattle.in_syntax.specs.declared.expecting.Expected.TheVariants as expected
use Rattle.in_syntax.specs.declared.expecting.PartOf.TheVariants as part
use Rattle.in_syntax.specs.declared.faults.Code.{Code}
use Rattle.in_syntax.specs.declared.faults.Fault.TheVariants.{Refused}
use Rattle.in_syntax.specs.declared.faults.Refusal.{Refusal}
use Rattle.in_syntax.specs.declared.places.Place.{Place}
use Rattle.in_syntax.specs.declared.signs.Sign.{Sign}
use Rattle.in_syntax.specs.declared.words.Token.{Token}
use Rattle.in_syntax.specs.declared.words.TokenKind.{TokenKind}
use Rattle.in_syntax.specs.declared.words.TokenKind.TheVariants as kind
use Rattle.in_syntax.specs.Expecting.{takes, Section, between, types, symbol, ports, head, terms, free, free_port, body, after_body, section, IsAt, IsExpected, IsNoted, IsNotedOf}
use Rattle.in_syntax.specs.Programs.{fault, IsOutcomeOfSigns, sign_at, signs_of}
use Rattle.in_syntax.proofs.Grammar.Outcomes.{one_outcome}
use Rattle.in_syntax.proofs.Lexing.TextLaws.{tokens_unique, not_both}
use Rattle.in_syntax.specs.declared.text_limits.TextLimits.{TextLimits}

-- ---- from the tokens that are expected, and the section

abbrev name_in : Section → Expected
name_in between = expected.Nothing
name_in types = expected.TypeName
name_in symbol = expected.SymbolName
name_in ports = expected.PortType
name_in head = expected.HeadName
name_in terms = expected.Term
name_in free = expected.FreeName
name_in free_port = expected.PortType
name_in body = expected.Term
name_in after_body = expected.Nothing

abbrev closing_in : Section → Expected
closing_in free_port = expected.FreeEnd
closing_in s = expected.AfterTerm part.Agent

abbrev ending_in : Section → Expected
ending_in terms = expected.RuleEnd
ending_in after_body = expected.RuleClose
ending_in s = expected.AfterTerm part.Right

-- the kinds of tokens
abbrev Kinds : Type 0
Kinds = TokenKind → Bool

abbrev by_name : Kinds → Section → Expected
by_name f s =
    if f kind.CloseBracket then expected.HeadFirst else if f kind.CloseParenthesis then expected.FreeFirst else if f kind.CloseBrace then expected.Equation else name_in s

abbrev by_open : Kinds → Expected
by_open f =
    if f kind.Tilde then expected.AfterName part.Left else if f kind.Semicolon then expected.AfterName part.Right
    else if f kind.CloseBracket then expected.AfterName part.Head else if f kind.Comma then expected.AfterName part.Agent else expected.NetOpen

abbrev by_comma : Kinds → Section → Expected
by_comma f s =
    if f kind.Semicolon then expected.TypeEnd else if f kind.CloseBrace then expected.ClassEnd else if f kind.CloseBracket then expected.AfterTerm part.Head else closing_in s

abbrev by_other : Kinds → Expected
by_other f =
    if f kind.Type then expected.Item else if f kind.Tilde then expected.AfterTerm part.Left else if f kind.Plus then expected.PortSign
    else if f kind.Colon then expected.Colon else if f kind.OpenBracket then expected.HeadOpen else if f kind.Meets then expected.Meets else expected.Nothing

abbrev by_tokens : Kinds → Section → Expected
by_tokens f s =
    if f kind.Name then by_name f s else if f kind.OpenParenthesis then by_open f
    else if f kind.OpenBrace then (if f kind.Semicolon then expected.SymbolEnd else expected.BodyOpen)
    else if f kind.Comma then by_comma f s else if f kind.Semicolon then ending_in s else by_other f

either : (f : Section → Expected) (e : Expected) (s a b : Section) → (s ≡ a) ⊎ (s ≡ b) → f a ≡ e → f b ≡ e → f s ≡ e
either f e s a b (inl h) p q = ap f h ∙ p
either f e s a b (inr h) p q = ap f h ∙ q

abbrev some_place : Place
some_place = record { from = 0; to = 0; line = 0; col = 0 }

-- the kinds of tokens that are expected at a place without a name
abbrev kinds : List ℕ → Expected → Kinds
kinds text e k = takes e (sign_at text k some_place)

told : (text : List ℕ) (e : Expected) (s : Section) → IsAt e s → by_tokens (kinds text e) s ≡ e
told text expected.TypeName s h = ap name_in h
told text expected.SymbolName s h = ap name_in h
told text expected.PortType s h = either name_in expected.PortType s ports free_port h refl refl
told text expected.HeadName s h = ap name_in h
told text expected.FreeName s h = ap name_in h
told text expected.Term s h = either name_in expected.Term s terms body h refl refl
told text expected.RuleEnd s h = ap ending_in h
told text expected.RuleClose s h = ap ending_in h
told text expected.FreeEnd s h = ap closing_in h
told text (expected.AfterTerm part.Left) s h = refl
told text (expected.AfterTerm part.Right) s h = ap ending_in h
told text (expected.AfterTerm part.Head) s h = refl
told text (expected.AfterTerm part.Agent) s h = either closing_in (expected.AfterTerm part.Agent) s terms body h refl refl
told text (expected.AfterName part.Left) s h = refl
told text (expected.AfterName part.Right) s h = refl
told text (expected.AfterName part.Head) s h = refl
told text (expected.AfterName part.Agent) s h = refl
told text _ s h = refl

module _ (limits : TextLimits) where
  same_tokens : (text : List ℕ) (front : List Sign) (d e : Expected) → IsExpected limits text front d → IsExpected limits text front e → (k : TokenKind) → kinds text d k ≡ kinds text e k
  same_tokens text front d e g h k = one_answer (kinds text d k) (kinds text e k) (g.tokens (record { kind = k; place = some_place })) (h.tokens (record { kind = k; place = some_place }))

  pub one_expected : (text : List ℕ) (front : List Sign) (d e : Expected) → IsExpected limits text front d → IsExpected limits text front e → d ≡ e
  one_expected text front d e g h =
      sym (told text d (section front) g.sort) ∙ ap (λ f. by_tokens f (section front)) (fun_ext (same_tokens text front d e g h)) ∙ told text e (section front) h.sort

  -- ---- the noted expectation

  same_at : (s : List Sign) (c d : Code) (i j : ℕ) → IsOutcomeOfSigns limits s (fault c i) → IsOutcomeOfSigns limits s (fault d j) → i ≡ j
  same_at s c d i j p q =
      let o = one_outcome limits s in
      let same : fault c i ≡ fault d j = o.2 (fault c i) p ∙ sym (o.2 (fault d j) q) in
      cc

  noted_of : (text : List ℕ) (ts us : List Token) (q r : Refusal) (d e : Expected) → ts ≡ us → IsNotedOf limits text ts (Err (Refused q)) d → IsNotedOf limits text us (Err (Refused r)) e → d ≡ e
  noted_of text ts us q r d e same g h =
      let f : IsNotedOf limits text us (Err (Refused q)) d = subst (λ z. IsNotedOf limits text z (Err (Refused q)) d) same g in
      let at : f.0 ≡ h.0 = same_at (signs_of text us) q.code r.code f.0 h.0 f.1 h.1 in
      one_expected text (take h.0 (signs_of text us)) d e (subst (λ i. IsExpected limits text (take i (signs_of text us)) d) at f.2) h.2

  pub texts_are_noted_once :
      (text : List ℕ) (before d e : Expected) (q r : Refusal) → IsNoted limits text before d (Err (Refused q)) → IsNoted limits text before e (Err (Refused r)) → d ≡ e
  texts_are_noted_once text before d e q r (inl g) (inl h) = g.1 ∙ sym h.1
  texts_are_noted_once text before d e q r (inl g) (inr h) = absurd (not_both limits text h.0 q h.1 g.0)
  texts_are_noted_once text before d e q r (inr g) (inl h) = absurd (not_both limits text g.0 r g.1 h.0)
  texts_are_noted_once text before d e q r (inr g) (inr h) = noted_of text g.0 h.0 q r d e (tokens_unique limits text g.0 h.0 g.1 h.1) g.2 h.2
