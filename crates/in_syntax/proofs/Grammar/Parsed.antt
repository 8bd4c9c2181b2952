-- The result of reading the tokens of a text and then their grammar.
use Rattle.std.proofs.Common.{◌≡◌, ℕ, List, [], ◌∷◌, drop, Result, Ok, Err, inr, arith, ap, sym, subst, IfOk}
use Rattle.std.specs.List.{AllByRecursion}
use Rattle.in_syntax.specs.declared.expecting.Expected.{Expected}
use Rattle.in_syntax.specs.declared.faults.Fault.{Fault}
use Rattle.in_syntax.specs.declared.faults.Fault.TheVariants.{Refused, Memory}
use Rattle.in_syntax.specs.declared.tree.Source.{Source}
use Rattle.in_syntax.specs.declared.words.Token.{Token}
use Rattle.in_syntax.specs.declared.words.TokenKind.{TokenKind}
use Rattle.in_syntax.specs.declared.words.TokenKind.TheVariants as kind
use Rattle.in_syntax.specs.declared.places.Place.{Place}
use Rattle.in_syntax.specs.Expecting.{IsNotedOf, IsNoted}
use Rattle.in_syntax.specs.Places.{end_place}
use Rattle.in_syntax.specs.Tokens.{IsTokensOf, StandsIn}
use Rattle.in_syntax.specs.Programs.{IsTextAt, HasText, HasTexts, IsParsing, place_at}
use Rattle.in_syntax.specs.Parsing.{IsOfText, IsTreeOf, Parses}
use Rattle.in_syntax.specs.declared.text_limits.TextLimits.{TextLimits}

has_text : (text : List ℕ) (t : Token) (k : TokenKind) → StandsIn text t → HasText text k t.place
has_text text t k h = go k
  where
    here : IsTextAt text t.place
    here = let some = h.some in record { order = omega (arith, some); within = h.within; utf8 = h.utf8 }

    go : (k : TokenKind) → HasText text k t.place
    go kind.Name = here
    go _ = tt

pub has_texts : (text : List ℕ) (ts : List Token) → AllByRecursion (StandsIn text) ts → HasTexts text ts
has_texts text [] all = tt
has_texts text (t ∷ ts) all = (has_text text t t.kind all.0, has_texts text ts all.1)

module _ (limits : TextLimits) where
  pub parsed : (text : List ℕ) (ts : List Token) (end : Place) (r : Result Source Fault) → IsTokensOf limits text ts → end ≡ end_place text → IsParsing limits text ts end r → Parses limits text r
  parsed text ts end (Ok source) read last p = record { tokens = ts; read = read; tree = p }
  parsed text ts end (Err (Refused r)) read last p =
      inr (record { tokens = ts; read = read; at = p.0; first = p.1; place = subst (λ e. r.place ≡ place_at (drop p.0 ts) e) last p.2; other = p.3 })
  parsed text ts end (Err (Memory e)) read last p = tt

  -- the tree says by which limits it was read
  pub limits_are : (text : List ℕ) (source : Source) → IsTreeOf limits text source → source.limits ≡ limits
  limits_are text source p = ap (λ z. z.limits) (sym p.tree.2)

  pub of_text : (text : List ℕ) (source : Source) → IsTreeOf limits text source → IsOfText source
  of_text text source p = record { text = text; tree = subst (λ z. IsTreeOf z text source) (sym (limits_are text source p)) p }

  pub of_text_when : (text : List ℕ) (r : Result Source Fault) → Parses limits text r → IfOk r IsOfText
  of_text_when text (Ok source) p = of_text text source p
  of_text_when text (Err e) p = tt

  -- the noted expectation of a text's tokens is that of the text
  pub noted_when : (text : List ℕ) (ts : List Token) (before e : Expected) (r : Result Source Fault) → IsTokensOf limits text ts → IsNotedOf limits text ts r e → IsNoted limits text before e r
  noted_when text ts before e (Ok source) read n = n
  noted_when text ts before e (Err (Refused r)) read n = inr (ts, read, n)
  noted_when text ts before e (Err (Memory m)) read n = tt
