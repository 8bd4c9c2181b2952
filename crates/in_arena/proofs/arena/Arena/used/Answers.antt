use Rattle.std.proofs.Common.{◌+◌, ◌≤◌, ap, subst, sym, arith}
use Rattle.in_arena.specs.Arenas.{IsUsedOf}
use Rattle.in_arena.specs.Classes.{amount, first_of}
use Rattle.in_arena.specs.declared.free_list.FreeList.{FreeList}
use Rattle.in_arena.proofs.Classes.{class_few, class_within}
use Rattle.in_arena.proofs.Inside.{fresh_few, used_of}
use Rattle.in_arena.proofs.arena.Arena.used.Goals as goal

pub overflow_add-result : goal.overflow_add-result
overflow_add-result c =
    let a = c.self.inside in let few = subst (λ (l : FreeList). l.fresh ≤ amount a.cells c.args.class) (sym c.of.ensures) (fresh_few a c.self.invariant c.args.class) in
    record { fits = omega (arith, few, c.first.ensures, class_within a.cells c.args.class, (class_few a.cells c.self.invariant.few c.args.class).1) }

pub returns : goal.returns
returns c =
    let a = c.self.inside in
    subst (λ n. IsUsedOf c.args.self.now c.args.class n) (ap (λ n. n + c.of.result.fresh) (sym c.first.ensures)) (subst (λ k. IsUsedOf c.args.self.now c.args.class (first_of a.cells c.args.class + k)) (sym (ap (λ (l : FreeList). l.fresh) c.of.ensures)) (used_of a c.self.invariant c.args.self.now c.self.view_is c.args.class))
