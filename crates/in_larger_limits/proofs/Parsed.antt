-- The result of parsing a text by the large limits.
use Rattle.std.proofs.Common.{◌≡◌, inl, inr, ℕ, List, [], ◌∷◌, drop, take, Ok, Err, refl, ◌∙◌, ap, arith}
use Rattle.in_syntax.specs.declared.faults.Code.{Code}
use Rattle.in_syntax.specs.declared.faults.Code.TheVariants.{E01, E02, E03, E04, E05, E06, E07, E08, E09, E10, E11, E12, E13, E14, E15}
use Rattle.in_syntax.specs.declared.faults.Fault.TheVariants.{Refused, Memory}
use Rattle.in_syntax.specs.declared.faults.Refusal.{Refusal}
use Rattle.in_syntax.specs.declared.signs.Sign.{Sign}
use Rattle.in_syntax.specs.declared.tree.Source.{Source}
use Rattle.in_syntax.specs.declared.words.Token.{Token}
use Rattle.in_syntax.specs.declared.text_limits.TextLimits.{TextLimits}
use Rattle.in_syntax.specs.declared.text_limits.TextLimits.TheVariants.{Large}
use Rattle.in_syntax.specs.Grammar.{GrammarProgram, spelling}
use Rattle.in_syntax.specs.Parsing.{IsGrammarFault, IsTextFault, IsTreeOf}
use Rattle.in_syntax.specs.Programs.{BeginsWithin, IsFault, IsTree, signs, signs_of}
use Rattle.in_syntax.specs.Tokens.{IsTokenFault, IsTokensOf, long_text, first_fault, ill_formed}
use Rattle.in_syntax.proofs.Public.{text_few}
use Rattle.in_larger_limits.specs.Laws.{TextsAreParsedAlike, read_by}
use Rattle.in_larger_limits.proofs.Spellings.{all_eased, front_eased, same_signs, spelling_eased}

module _ (limits : TextLimits) where
  tokens_kept : (text : List ℕ) (ts : List Token) → IsTokensOf limits text ts → IsTokensOf Large text ts
  tokens_kept text ts h = record { short = omega (arith, h.short, text_few limits); utf8 = h.utf8; reads = h.reads }

  tree_kept : (s : List Sign) (source : Source) → IsTree limits s source → IsTree Large s (read_by Large source)
  tree_kept s source h = (h.0, all_eased s (spelling_eased limits h.0) h.1, ap (read_by Large) h.2)

  same_spelled : (p : GrammarProgram) → signs (spelling limits p) ≡ signs (spelling Large p)
  same_spelled p = same_signs (spelling_eased limits p)

  begins_kept : (front : List Sign) → BeginsWithin limits front → BeginsWithin Large front
  begins_kept front h = let b = front_eased front h.1 (spelling_eased limits h.0) h.2 in (h.0, b.0, b.1)

  fault_kept : (code : Code) (front rest : List Sign) → (code ≡ E03 → ⊥) → IsFault limits code front rest → IsFault Large code front rest
  fault_kept E02 front [] other h = (begins_kept front h.0, λ p. h.1 (p.0, same_spelled p.0 ∙ p.1))
  fault_kept E02 front (s ∷ rest) other h = (begins_kept front h.0, λ p. h.1 (p.0, p.1, same_spelled p.0 ∙ p.2))
  fault_kept E03 front rest other h = absurd (other refl)
  fault_kept E01 front rest other h = absurd h
  fault_kept E04 front rest other h = absurd h
  fault_kept E05 front rest other h = absurd h
  fault_kept E06 front rest other h = absurd h
  fault_kept E07 front rest other h = absurd h
  fault_kept E08 front rest other h = absurd h
  fault_kept E09 front rest other h = absurd h
  fault_kept E10 front rest other h = absurd h
  fault_kept E11 front rest other h = absurd h
  fault_kept E12 front rest other h = absurd h
  fault_kept E13 front rest other h = absurd h
  fault_kept E14 front rest other h = absurd h
  fault_kept E15 front rest other h = absurd h

  token_fault_kept : (text : List ℕ) (r : Refusal) → (r.code ≡ E03 → ⊥) → IsTokenFault limits text r → IsTokenFault Large text r
  token_fault_kept text r other (long_text long) = absurd (other refl)
  token_fault_kept text r other (first_fault code at short stops) = first_fault code at (omega (arith, short, text_few limits)) stops
  token_fault_kept text r other (ill_formed short reads ends) = ill_formed (omega (arith, short, text_few limits)) reads ends

  grammar_fault_kept : (text : List ℕ) (r : Refusal) → (r.code ≡ E03 → ⊥) → IsGrammarFault limits text r → IsGrammarFault Large text r
  grammar_fault_kept text r other h = record {
    tokens = h.tokens;
    read = tokens_kept text h.tokens h.read;
    at = h.at;
    first = (h.first.0, fault_kept r.code (take h.at (signs_of text h.tokens)) (drop h.at (signs_of text h.tokens)) other h.first.1);
    place = h.place;
    other = h.other;
  }

  pub tree_of_text_kept : (text : List ℕ) (source : Source) → IsTreeOf limits text source → IsTreeOf Large text (read_by Large source)
  tree_of_text_kept text source h = record { tokens = h.tokens; read = tokens_kept text h.tokens h.read; tree = tree_kept (signs_of text h.tokens) source h.tree }

  pub text_fault_kept : (text : List ℕ) (r : Refusal) → (r.code ≡ E03 → ⊥) → IsTextFault limits text r → IsTextFault Large text r
  text_fault_kept text r other (inl h) = inl (token_fault_kept text r other h)
  text_fault_kept text r other (inr h) = inr (grammar_fault_kept text r other h)

pub parsed_alike : TextsAreParsedAlike
parsed_alike limits text (Ok source) other h = tree_of_text_kept limits text source h
parsed_alike limits text (Err (Refused r)) other h = text_fault_kept limits text r other h
parsed_alike limits text (Err (Memory e)) other h = tt
