use Rattle.std.proofs.Common.{sym, subst, inl, inr}
use Rattle.in_simple.specs.Checking.{IsFrom, ends_at}
use Rattle.in_open_nets.proofs.Public.{wire_read, not_both}
use Rattle.in_simple.proofs.VerifyMade.{joint_at}
use Rattle.in_simple.proofs.verifying.is_joint.Goals as goal

pub returns-then-is_from : goal.returns-then-is_from
returns-then-is_from c =
    let w = c.args.wire in
    let nodes = c.args.a.now.nodes in
    let v = c.wire-one.result in
    let f = subst (λ z. IsFrom nodes v.0 (ends_at z w).1 (ends_at c.as_slice-2.result.now w).0) c.as_slice.ensures (c.is_from.ensures.0 c.if-is_from.true) in
    let g = subst (λ z. IsFrom nodes v.0 (ends_at c.args.a.now.ends w).1 (ends_at z w).0) c.as_slice-2.ensures f in (
      (λ t. (v.0, v.1, wire_read c.args.open.now w v c.wire-one.ensures, inl g)),
      λ j. c.if-is_from.true,
    )

pub returns-else-is_from : goal.returns-else-is_from
returns-else-is_from c =
    let w = c.args.wire in
    let a = c.args.a.now in
    let b = c.args.b.now in
    let v = c.wire-one.result in (
      (λ t.
          let f = subst (λ z. IsFrom a.nodes v.1 (ends_at z w).0 (ends_at c.as_slice-2.result.now w).1) c.as_slice.ensures (c.is_from-else-is_from.ensures.0 t) in
          let g = subst (λ z. IsFrom a.nodes v.1 (ends_at a.ends w).0 (ends_at z w).1) c.as_slice-2.ensures f in
          (v.0, v.1, wire_read c.args.open.now w v c.wire-one.ensures, inr g)),
      λ j. elim (joint_at c.args.open.now w a b v c.wire-one.ensures j) [
        | inl f ↦
            let g = subst (λ z. IsFrom a.nodes v.0 (ends_at a.ends w).1 (ends_at z w).0) (sym c.as_slice-2.ensures) f in
            absurd (not_both c.is_from.result (c.is_from.ensures.1 (subst (λ z. IsFrom a.nodes v.0 (ends_at z w).1 (ends_at c.as_slice-2.result.now w).0) (sym c.as_slice.ensures) g)) c.if-is_from.false)
        | inr f ↦
            let g = subst (λ z. IsFrom a.nodes v.1 (ends_at a.ends w).0 (ends_at z w).1) (sym c.as_slice-2.ensures) f in
            c.is_from-else-is_from.ensures.1 (subst (λ z. IsFrom a.nodes v.1 (ends_at z w).0 (ends_at c.as_slice-2.result.now w).1) (sym c.as_slice.ensures) g)
      ],
    )
