-- The lemmas that proofs of other crates cite. They import this module alone, so all others may be renamed and cut anew.
pub use Rattle.in_typing.proofs.OneFault.{one_mistyped, one_rule_mistyped, rule_not_both}
pub use Rattle.in_typing.proofs.TypedAlong.{port_type, typed_after}
pub use Rattle.in_typing.proofs.TypedParts.{net_typed, opposite_twice}
