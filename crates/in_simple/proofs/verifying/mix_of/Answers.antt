use Rattle.std.proofs.Common.{refl}
use Rattle.in_open_nets.specs.declared.derivations.Step.TheVariants.{Mix}
use Rattle.in_open_nets.proofs.Public.{if_ok}
use Rattle.in_simple.proofs.VerifyRun.{step_pair, first_refused, second_refused}
use Rattle.in_simple.proofs.VerifyTaken.{taken_kept}
use Rattle.in_simple.proofs.verifying.mix_of.Goals as goal

pub mix-requires-clause-a : goal.mix-requires-clause-a
mix-requires-clause-a c = c.requires c.args.a c.in-Some-taken.first (taken_kept c.args.b c.args.parts.now.items c.taken.new.parts.items c.in-Some.second c.in-Some.ensures c.args.a c.in-Some-taken.first c.in-Some-taken.ensures.0)

pub returns-in-Some-taken : goal.returns-in-Some-taken
returns-in-Some-taken c =
    if_ok c.mix.result (λ r h. step_pair c.args.open.now Mix (λ i j. refl) (λ i j. refl) c.args.a c.args.b c.args.parts.now.items c.taken.new.parts.items c.taken-in-Some.new.parts.items c.in-Some-taken.first c.in-Some.second r c.in-Some.ensures c.in-Some-taken.ensures h) c.mix.ensures

pub returns-in-None-taken : goal.returns-in-None-taken
returns-in-None-taken c =
    first_refused c.args.open.now Mix (λ i j. refl) (λ i j. refl) c.args.a c.args.b c.args.parts.now.items c.taken.new.parts.items c.taken-in-Some.new.parts.items c.in-Some.second c.in-Some.ensures c.in-None-taken.ensures

pub returns-in-None : goal.returns-in-None
returns-in-None c = second_refused c.args.open.now Mix (λ i j. refl) (λ i j. refl) c.args.a c.args.b c.args.parts.now.items c.taken.new.parts.items c.in-None.ensures
