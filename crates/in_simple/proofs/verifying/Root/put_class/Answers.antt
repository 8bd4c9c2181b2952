use Rattle.std.proofs.Common.{inl}
use Rattle.in_open_nets.proofs.Public.{not_both}
use Rattle.in_simple.proofs.verifying.Root.put_class.Goals as goal

pub returns-else-has_class-clause-refused : goal.returns-else-has_class-clause-refused
returns-else-has_class-clause-refused c = λ _. inl (λ h. not_both c.has_class.result (c.has_class.ensures.1 h) c.if-has_class.false)
