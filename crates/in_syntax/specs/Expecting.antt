-- How a program can continue at some place: with which tokens, and with which sort of name. The sorts, as the signs of the grammar, are this
-- project's own choice.
use Rattle.std.specs.Prelude.{◌≡◌, ◌↔◌, ◌⊎◌, ℕ, Bool, true, false, List, [], ◌∷◌, ◌++◌, take, IsTrue, Result, Ok, Err}
use Rattle.in_syntax.specs.declared.expecting.Expected.{Expected}
use Rattle.in_syntax.specs.declared.expecting.Expected.TheVariants as expected
use Rattle.in_syntax.specs.declared.expecting.PartOf.{PartOf}
use Rattle.in_syntax.specs.declared.expecting.PartOf.TheVariants as part
use Rattle.in_syntax.specs.declared.faults.Fault.{Fault}
use Rattle.in_syntax.specs.declared.faults.Fault.TheVariants.{Refused, Memory}
use Rattle.in_syntax.specs.declared.signs.Sign.{Sign}
use Rattle.in_syntax.specs.declared.signs.Sign.TheVariants.{Named, Tilde, Plain}
use Rattle.in_syntax.specs.declared.tree.Source.{Source}
use Rattle.in_syntax.specs.declared.words.Token.{Token}
use Rattle.in_syntax.specs.declared.words.TokenKind.TheVariants as kind
use Rattle.in_syntax.specs.Grammar.{is_with}
use Rattle.in_syntax.specs.Programs.{Begins, IsOutcomeOfSigns, fault, sign_of, signs_of}
use Rattle.in_syntax.specs.Tokens.{IsTokensOf, IsTokenFault}
use Rattle.in_syntax.specs.declared.text_limits.TextLimits.{TextLimits}

-- ---- tokens

-- the tokens that may follow a whole term
abbrev pub follows_term : PartOf → Sign → Bool
follows_term part.Left (Tilde place) = true
follows_term part.Right (Plain kind.Semicolon) = true
follows_term part.Head (Plain kind.Comma) = true
follows_term part.Head (Plain kind.CloseBracket) = true
follows_term part.Agent (Plain kind.Comma) = true
follows_term part.Agent (Plain kind.CloseParenthesis) = true
follows_term p x = false

-- the tokens that may follow a bare name: `(`, or those that follow a whole term
abbrev pub follows_name : PartOf → Sign → Bool
follows_name p (Plain kind.OpenParenthesis) = true
follows_name p x = follows_term p x

-- which signs are expected
abbrev pub takes : Expected → Sign → Bool
takes expected.Item (Plain kind.Type) = true
takes expected.Item (Plain kind.Symbol) = true
takes expected.Item (Plain kind.Rule) = true
takes expected.Item (Plain kind.Net) = true
takes expected.TypeName (Named n) = true
takes expected.TypeEnd (Plain kind.Comma) = true
takes expected.TypeEnd (Plain kind.Semicolon) = true
takes expected.SymbolName (Named n) = true
takes expected.Colon (Plain kind.Colon) = true
takes expected.PortType (Named n) = true
takes expected.PortSign (Plain kind.Plus) = true
takes expected.PortSign (Plain kind.Minus) = true
takes expected.SymbolEnd (Plain kind.OpenBrace) = true
takes expected.SymbolEnd (Plain kind.Semicolon) = true
takes expected.ClassEnd (Plain kind.Comma) = true
takes expected.ClassEnd (Plain kind.CloseBrace) = true
takes expected.HeadName (Named n) = true
takes expected.HeadOpen (Plain kind.OpenBracket) = true
takes expected.HeadFirst (Named n) = true
takes expected.HeadFirst (Plain kind.CloseBracket) = true
takes expected.Meets (Plain kind.Meets) = true
takes expected.RuleEnd (Plain kind.Semicolon) = true
takes expected.RuleEnd (Named n) = is_with n
takes expected.RuleClose (Plain kind.Semicolon) = true
takes expected.NetOpen (Plain kind.OpenParenthesis) = true
takes expected.FreeFirst (Named n) = true
takes expected.FreeFirst (Plain kind.CloseParenthesis) = true
takes expected.FreeName (Named n) = true
takes expected.FreeEnd (Plain kind.Comma) = true
takes expected.FreeEnd (Plain kind.CloseParenthesis) = true
takes expected.BodyOpen (Plain kind.OpenBrace) = true
takes expected.Equation (Named n) = true
takes expected.Equation (Plain kind.CloseBrace) = true
takes expected.Term (Named n) = true
takes (expected.AfterName p) x = follows_name p x
takes (expected.AfterTerm p) x = follows_term p x
takes e x = false

-- ---- sorts of names

-- the part of a program in which signs end, by the sort of a name that may come: between items, where none does; in a list of types; after
-- `symbol`; in a symbol's ports; before and in a head; before a free end and in its port; in the equations of a rule or of the net, and after them
pub data Section : Type 0 where
  between types symbol ports head terms free free_port body after_body : Section

-- the section with one sign more
abbrev pub further : Section → Sign → Section
further between (Plain kind.Type) = types
further between (Plain kind.Symbol) = symbol
further between (Plain kind.Rule) = head
further between (Plain kind.Net) = free
further types (Plain kind.Semicolon) = between
further symbol x = ports
further ports (Plain kind.Semicolon) = between
further head x = terms
further terms (Plain kind.Meets) = head
further terms (Plain kind.Semicolon) = between
further terms (Plain kind.OpenBrace) = body
further body (Plain kind.CloseBrace) = after_body
further after_body (Plain kind.Semicolon) = between
further free (Plain kind.Colon) = free_port
further free (Plain kind.OpenBrace) = body
further free_port (Plain kind.Comma) = free
further free_port (Plain kind.CloseParenthesis) = free
further s x = s

-- the section of signs from a section on
abbrev pub section_from : Section → List Sign → Section
section_from s [] = s
section_from s (x ∷ front) = section_from (further s x) front

abbrev pub section : List Sign → Section
section = section_from between

-- the sections in which each can be expected, if not in all: they distinguish the sorts of names, and the items that a `;` or a `)` ends
abbrev pub IsAt : Expected → Section → Type 0
IsAt expected.TypeName s = s ≡ types
IsAt expected.SymbolName s = s ≡ symbol
IsAt expected.PortType s = (s ≡ ports) ⊎ (s ≡ free_port)
IsAt expected.HeadName s = s ≡ head
IsAt expected.FreeName s = s ≡ free
IsAt expected.Term s = (s ≡ terms) ⊎ (s ≡ body)
IsAt expected.RuleEnd s = s ≡ terms
IsAt expected.RuleClose s = s ≡ after_body
IsAt expected.FreeEnd s = s ≡ free_port
IsAt (expected.AfterTerm part.Right) s = s ≡ body
IsAt (expected.AfterTerm part.Agent) s = (s ≡ terms) ⊎ (s ≡ body)
IsAt _ s = Unit {0}

-- ---- the expected tokens

-- after these signs, exactly the expected tokens continue with some program, and a name is of the sort of this section
pub record IsExpected (limits : TextLimits) (text : List ℕ) (front : List Sign) (e : Expected) : Type 0 where
  pub tokens : (t : Token) → IsTrue (takes e (sign_of text t)) ↔ Begins limits (front ++ sign_of text t ∷ [])
  pub sort : IsAt e (section front)

-- a relation between the tokens of a text, the result on them, and the noted expectation
abbrev pub Noting : Type 1
Noting = TextLimits → List ℕ → List Token → Result Source Fault → Expected → Type 0

-- the noted expectation of tokens: nothing more if they are a program, and at a fault the tokens expected after the signs before it
abbrev pub IsNotedOf : Noting
IsNotedOf limits text tokens (Ok source) e = e ≡ expected.Nothing
IsNotedOf limits text tokens (Err (Refused r)) e =
    (at : ℕ) × IsOutcomeOfSigns limits (signs_of text tokens) (fault r.code at) × IsExpected limits text (take at (signs_of text tokens)) e
IsNotedOf limits text tokens (Err (Memory m)) e = Unit {0}

-- the expectation noted for a text, where `before` was noted: it stays if the tokens have a fault, otherwise it is that of the tokens; running
-- out of memory isn't covered
abbrev pub IsNoted : TextLimits → List ℕ → Expected → Expected → Result Source Fault → Type 0
IsNoted limits text before e (Ok source) = e ≡ expected.Nothing
IsNoted limits text before e (Err (Refused r)) =
    (IsTokenFault limits text r × (e ≡ before)) ⊎ ((tokens : List Token) × IsTokensOf limits text tokens × IsNotedOf limits text tokens (Err (Refused r)) e)
IsNoted limits text before e (Err (Memory m)) = Unit {0}
