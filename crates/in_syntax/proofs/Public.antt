-- The lemmas that proofs of other crates cite. They import this module alone, so all others may be renamed and cut anew.
pub use Rattle.in_syntax.proofs.FirstFaults.FirstFault.{IsFirst, IsOneOf, Of, both_first, code_is, first_as, first_of_three, first_same}
pub use Rattle.in_syntax.proofs.FirstFaults.Least.{IsLeast, earlier_none, earliest_none, least_earlier, least_earliest, least_of_all}
pub use Rattle.in_syntax.proofs.FirstFaults.Least.{least_same, left, shift, shift_back}
pub use Rattle.in_syntax.proofs.Trees.Ordered.{back_rises, front_rises, places_out, tree_in_order}
pub use Rattle.in_syntax.proofs.Trees.Sized.{tree_sized}
pub use Rattle.in_syntax.proofs.Trees.SourcePlaces.{part_small, texts_begin_apart}
pub use Rattle.in_syntax.proofs.Trees.Terms.{names_out, term_by_arguments, terms_by_arguments}
pub use Rattle.in_syntax.proofs.Trees.Walks.{walk_out}
pub use Rattle.in_syntax.proofs.Grammar.ThenOne.{then_same, then_two}
pub use Rattle.in_syntax.proofs.Grammar.Parsed.{limits_are, of_text}
pub use Rattle.in_syntax.proofs.Grammar.WholeTexts.{parsed_once, same_refusal}
pub use Rattle.in_syntax.proofs.AnyLimits.{agents_few, free_few, member_agents_few, rules_few, symbols_few, text_few}
