use Rattle.std.proofs.Common.{◌≡◌, ◌≤◌, ◌<◌, ℕ, ap, subst, length, arith}
use Rattle.in_arena.specs.Arenas.{state_at}
use Rattle.in_arena.specs.Classes.{all_of, classes}
use Rattle.in_arena.specs.States.{Vacant}
use Rattle.in_arena.proofs.Classes.{of_first}
use Rattle.in_arena.proofs.Inside.{arena_all}
use Rattle.in_arena.proofs.arena.Arena.bound.Goals as goal

pub returns-clause-few : goal.returns-clause-few
returns-clause-few c =
    let i = c.loop-class.invariant in
    let items = ap length i.items in
    let at = c.loop-class.auto.class-index-end in
    let done = c.loop-class-test.false in
    let all : c.loop-class.class-index ≡ length classes = omega (arith, items, at, done) in
    let few = subst (λ k. c.loop-class.bound ≤ of_first c.args.self.now.cells k) all i.few in
    let long = arena_all c.self.inside c.self.invariant in
    let view = ap (λ v. length v.states) c.self.view_is in
    let cells = ap (λ v. all_of v.cells) c.self.view_is in
    omega (arith, few, long, view, cells)

pub returns-clause-rest : goal.returns-clause-rest
returns-clause-rest c = λ n low high. (
    let i = c.loop-class.invariant in
    let items = ap length i.items in
    let at = c.loop-class.auto.class-index-end in
    let done = c.loop-class-test.false in
    let all : c.loop-class.class-index ≡ length classes = omega (arith, items, at, done) in
    let rest = subst (λ k. (n : ℕ) → c.loop-class.bound ≤ n → n < of_first c.args.self.now.cells k → state_at c.args.self.now n ≡ Vacant) all i.rest in
    let long = arena_all c.self.inside c.self.invariant in
    let view = ap (λ v. length v.states) c.self.view_is in
    let cells = ap (λ v. all_of v.cells) c.self.view_is in
    rest n low (omega (arith, high, long, view, cells))
    )
