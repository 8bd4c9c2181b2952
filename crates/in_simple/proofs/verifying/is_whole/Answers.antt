use Rattle.std.proofs.Common.{◌≡◌, ◌++◌, ◌∷◌, [], Some, subst}
use Rattle.in_simple.proofs.VerifyRun.{whole_last}
use Rattle.in_simple.proofs.verifying.is_whole.Goals as goal

pub returns-in-Some-Some-clause-whole : goal.returns-in-Some-Some-clause-whole
returns-in-Some-Some-clause-whole c =
    let o = c.args.open.now in
    let parts = c.args.parts.now.items in
    let others = c.pop.new.self.items in
    let b = c.in-Some-Some.last in
    let e : parts ≡ others ++ Some b ∷ [] = subst (λ z. parts ≡ others ++ z ∷ []) c.in-Some-Some.field-0-is c.in-Some-Some.ensures.items in (
      (λ t. (others, b, e, c.is_last.ensures.last.0 t)),
      λ w. c.is_last.ensures.last.1 (whole_last o parts others b e w),
    )
