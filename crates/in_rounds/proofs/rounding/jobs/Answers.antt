use Rattle.std.proofs.Common.{◌≡◌, Some, None, IsSome, [], ◌∷◌, length, length-append, slice_get, sym, ap, subst, ◌∙◌, arith}
use Rattle.in_syntax.specs.declared.symbol_no.SymbolNo.{SymbolNo}
use Rattle.in_compile.specs.Templates.{template_at}
use Rattle.in_reducer.specs.Inside.{reducer_view}
use Rattle.in_reducer.proofs.Public.{each_push}
use Rattle.in_reducer.proofs.Public.Found as found
use Rattle.in_rounds.proofs.rounding.jobs.Goals as goal

pub loop-number-init : goal.loop-number-init
loop-number-init c =
    record {
      room = (let e = c.in_ok-jobs.ensures.capacity in omega (arith, e));
      count = ap length c.in_ok-jobs.ensures.items;
      plan = λ k h at. absurd (let e : None ≡ Some h = ap (λ zs. slice_get zs k) (sym c.in_ok-jobs.ensures.items) ∙ at in cc);
    }

pub loop-number-preserved : goal.loop-number-preserved
loop-number-preserved c =
    let r = c.args.body.now in
    let ts = c.args.templates.now in
    let h = c.heads.ensures in
    let inv = c.loop-number.invariant in
    let here = found.is_there (reducer_view r) c.requires.net.reducer c.loop-number.number h.pair h.stands ts c.requires.templates c.heads.result.0 c.heads.result.1 h.one h.two in
    record {
      room = (let l = inv.room in let e = c.push_reserved.ensures.capacity in omega (arith, l, e));
      count = (let n = inv.count in let e = ap length c.push_reserved.ensures.items in let f = length-append c.loop-number.jobs.items (c.heads.result ∷ []) in omega (arith, n, e, f));
      plan = λ k x at. each_push (λ (z : SymbolNo × SymbolNo). IsSome (template_at ts z.0.0 z.1.0)) c.loop-number.jobs.items c.heads.result inv.plan here k x (subst (λ zs. slice_get zs k ≡ Some x) c.push_reserved.ensures.items at);
    }

pub heads-requires-clause-net : goal.heads-requires-clause-net
heads-requires-clause-net c = c.requires.net

pub heads-requires-clause-pair : goal.heads-requires-clause-pair
heads-requires-clause-pair c = let few = c.requires.count in omega (arith, few)

pub push_reserved-requires : goal.push_reserved-requires
push_reserved-requires c =
    let inv = c.loop-number.invariant in
    omega (arith, inv.room, inv.count, c.loop-number.jobs.ok.0)

pub returns-clause-plan : goal.returns-clause-plan
returns-clause-plan c = c.loop-number.invariant.plan
