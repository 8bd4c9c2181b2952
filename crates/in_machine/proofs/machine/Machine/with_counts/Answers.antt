use Rattle.std.proofs.Common.{◌≡◌, ◌∙◌, sym, ap, subst, arith}
use Rattle.in_arena.specs.declared.content.CellClass.{CellClass}
use Rattle.in_symbols.specs.Tables.{Tables}
use Rattle.in_net.specs.Parts.{Parts}
use Rattle.in_check.specs.Programs.{Program}
use Rattle.in_compile.specs.Cells.{agents_of, count_of}
use Rattle.in_compile.specs.Templates.{AreTemplatesOf}
use Rattle.in_reducer.proofs.Public.{net_over_at, net_there_at}
use Rattle.in_machine.proofs.SameStart.{start_machine}
use Rattle.in_machine.proofs.machine.Machine.with_counts.Goals as goal

pub need_of_net-need-requires-clause-over : goal.need_of_net-need-requires-clause-over
need_of_net-need-requires-clause-over c = net_over_at c.is_accepted.ensures.accepted.0 c.is_accepted.ensures.accepted.1 c.args.checked.now.program c.is_accepted.ensures.accepted.2 _ _ c.symbols.ensures c.net.ensures

pub need_of_net-need-requires-clause-there : goal.need_of_net-need-requires-clause-there
need_of_net-need-requires-clause-there c = net_there_at c.is_accepted.ensures.accepted.0 c.is_accepted.ensures.accepted.1 c.args.checked.now.program c.is_accepted.ensures.accepted.2 _ c.net.ensures

pub new-requires-clause-fits : goal.new-requires-clause-fits
new-requires-clause-fits c class =
    let enough = c.in_default.ensures {u = tt} class in
    let each = c.of_counts.ensures class in
    let need = c.need_of_net-need.ensures class in
    let tables = ap (λ (t : Tables). agents_of t class c.net.result.now.cells) c.symbols.ensures in
    let cells = ap (λ (n : Parts). agents_of c.args.checked.now.program.tables class n.cells) c.net.ensures in
    omega (arith, enough, each, need, tables, cells)

pub invariant_of-result : goal.invariant_of-result
invariant_of-result c =
    let start = c.in_ok-reducer.ensures {u = tt} in (
      start_machine c.is_accepted.ensures.accepted.0 c.is_accepted.ensures.accepted.1 c.args.checked.now.program c.is_accepted.ensures.accepted.2 c.args.cells c.in_ok-reducer.reducer start c.requires,
      subst (λ (p : Program). AreTemplatesOf p c.in_ok-templates.templates) (sym start.program) (c.in_ok-templates.ensures {u = tt}),
    )

pub returns-in-Some : goal.returns-in-Some
returns-in-Some c =
    let p = c.args.checked.now.program in
    let class = c.in-Some.class in
    let short = c.in-Some.ensures {u = tt} in
    let many : (d : CellClass) → count_of c.need_of_net-need.result d ≡ agents_of p.tables d p.net.cells =
    λ d. c.need_of_net-need.ensures d ∙ ap (λ (t : Tables). agents_of t d c.net.result.now.cells) c.symbols.ensures ∙ ap (λ (n : Parts). agents_of p.tables d n.cells) c.net.ensures in (
      (
        omega (arith, short.0, many class, c.of_counts.ensures class),
        λ d before. omega (arith, short.1 d before, many d, c.of_counts.ensures d),
      ),
      c.of.ensures ∙ many class,
      c.of-in-Some.ensures,
    )
