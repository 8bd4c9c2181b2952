use Rattle.std.proofs.Common.{◌≡◌, ℕ, length, refl, sym, ap, subst, ◌∙◌}
use Rattle.std.proofs.lemmas.List.{length-set}
use Rattle.in_arena.specs.Arenas.{ArenaView, changed, state_at}
use Rattle.in_arena.specs.States.{Vacant, IsLive}
use Rattle.in_cells.specs.Between.{IsReadyToJoin}
use Rattle.in_cells.specs.Cells.{KeepsCells}
use Rattle.in_compile.specs.Members.{IsSoundMember}
use Rattle.in_reducer.specs.Interacting.{interaction_of}
use Rattle.in_reducer.proofs.Steps.SetUp as ready
use Rattle.in_reducer.proofs.Steps.StillNet as still
use Rattle.in_reducer.proofs.interacting.interact.Goals as goal

pub set_sides-requires-clause-ports : goal.set_sides-requires-clause-ports
set_sides-requires-clause-ports c =
    let s = c.requires.beside.0 in
    let a = c.requires.beside.1.0 in
    let about = c.requires.beside.1.1 in
    let put = c.requires.beside.1.2 in
    ready.has_port c.args.symbols.now s c.args.next.now.template.now c.args.next.now.pair c.args.next.now.own a c.args.ends.now about c.args.next.now.placed.now.cells c.args.arena.now put

pub set_sides-requires-clause-joints : goal.set_sides-requires-clause-joints
set_sides-requires-clause-joints c =
    let s = c.requires.beside.0 in
    let a = c.requires.beside.1.0 in
    let about = c.requires.beside.1.1 in
    let put = c.requires.beside.1.2 in
    let sound = subst IsSoundMember c.member.ensures c.is_sound.ensures in
    ready.has_joint c.args.symbols.now s c.args.next.now.template.now c.args.next.now.pair c.args.next.now.own a c.args.ends.now about c.args.next.now.placed.now.cells c.args.arena.now put sound

pub retire-requires : goal.retire-requires
retire-requires c =
    let s = c.requires.beside.0 in
    let a = c.requires.beside.1.0 in
    let about = c.requires.beside.1.1 in
    let put = c.requires.beside.1.2 in
    ready.one_live c.args.symbols.now s c.args.next.now.template.now c.args.next.now.pair c.args.next.now.own a c.args.ends.now about c.args.next.now.placed.now.cells c.args.arena.now put

pub retire-requires-2 : goal.retire-requires-2
retire-requires-2 c =
    let s = c.requires.beside.0 in
    let a = c.requires.beside.1.0 in
    let about = c.requires.beside.1.1 in
    let put = c.requires.beside.1.2 in
    subst (λ (b : ArenaView). IsLive (state_at b c.args.next.now.pair.other.0)) (sym c.retire.ensures)
    (ready.other_live c.args.symbols.now s c.args.next.now.template.now c.args.next.now.pair c.args.next.now.own a c.args.ends.now about c.args.next.now.placed.now.cells c.args.arena.now put)

pub join_all-requires-clause-ready : goal.join_all-requires-clause-ready
join_all-requires-clause-ready c =
    let s = c.requires.beside.0 in
    let a = c.requires.beside.1.0 in
    let about = c.requires.beside.1.1 in
    let put = c.requires.beside.1.2 in
    let retired = c.retire-2.ensures ∙ ap (λ (b : ArenaView). changed b c.args.next.now.pair.other.0 Vacant) c.retire.ensures in
    let x = interaction_of s c.args.next.now.placed.now.cells in
    let is_ready = ready.is_ready c.args.symbols.now s c.args.next.now.template.now c.args.next.now.pair c.args.next.now.own a c.args.ends.now about c.args.next.now.placed.now.cells c.args.arena.now put
    c.retire-2.new.self retired c.set_sides.new.ends c.set_sides.ensures in
    (x, subst (λ (many : ℕ). IsReadyToJoin c.args.symbols.now x c.args.next.now.own many c.retire-2.new.self c.set_sides.new.ends) (sym (c.from-many.ensures ∙ c.boundary_ends.ensures)) is_ready)

pub join_all-requires-clause-symbols : goal.join_all-requires-clause-symbols
join_all-requires-clause-symbols c =
    let s = c.requires.beside.0 in
    let a = c.requires.beside.1.0 in
    let about = c.requires.beside.1.1 in
    let put = c.requires.beside.1.2 in
    let retired = c.retire-2.ensures ∙ ap (λ (b : ArenaView). changed b c.args.next.now.pair.other.0 Vacant) c.retire.ensures in
    ready.has_symbols c.args.symbols.now s c.args.next.now.template.now c.args.next.now.pair c.args.next.now.own a c.args.ends.now about c.args.next.now.placed.now.cells c.args.arena.now put
    c.retire-2.new.self retired c.set_sides.new.ends c.set_sides.ensures

pub returns-clause-interacted : goal.returns-clause-interacted
returns-clause-interacted c s beside =
    let a = beside.0 in
    let about = beside.1 in
    let put = beside.2 in
    let retired = c.retire-2.ensures ∙ ap (λ (b : ArenaView). changed b c.args.next.now.pair.other.0 Vacant) c.retire.ensures in
    let x = interaction_of s c.args.next.now.placed.now.cells in
    let is_ready = ready.is_ready c.args.symbols.now s c.args.next.now.template.now c.args.next.now.pair c.args.next.now.own a c.args.ends.now about c.args.next.now.placed.now.cells c.args.arena.now put
    c.retire-2.new.self retired c.set_sides.new.ends c.set_sides.ensures in
    let at = subst (λ (many : ℕ). IsReadyToJoin c.args.symbols.now x c.args.next.now.own many c.retire-2.new.self c.set_sides.new.ends) (sym (c.from-many.ensures ∙ c.boundary_ends.ensures)) is_ready in
    (c.join_all.ensures.done x at, c.join_all.ensures.made x at)

pub returns-clause-net : goal.returns-clause-net
returns-clause-net c =
    let t = c.args.symbols.now in
    let s = c.requires.beside.0 in
    let a = c.requires.beside.1.0 in
    let about = c.requires.beside.1.1 in
    let put = c.requires.beside.1.2 in
    let b = c.args.arena.now in
    let one = ready.one_live t s c.args.next.now.template.now c.args.next.now.pair c.args.next.now.own a c.args.ends.now about c.args.next.now.placed.now.cells b put in
    let two = ready.other_live t s c.args.next.now.template.now c.args.next.now.pair c.args.next.now.own a c.args.ends.now about c.args.next.now.placed.now.cells b put in
    let first = changed b c.args.next.now.pair.one.0 Vacant in
    let second = changed first c.args.next.now.pair.other.0 Vacant in
    let retired = c.retire-2.ensures ∙ ap (λ (b : ArenaView). changed b c.args.next.now.pair.other.0 Vacant) c.retire.ensures in
    let many_first : length first.states ≡ length b.states = length-set b.states c.args.next.now.pair.one.0 Vacant in
    let many_second : length second.states ≡ length b.states = length-set first.states c.args.next.now.pair.other.0 Vacant ∙ many_first in
    let good_first = still.retired_good t b b c.args.next.now.pair.one.0 refl one (still.good_of t b c.requires.net) in
    let good_second = still.retired_good t b first c.args.next.now.pair.other.0 many_first two good_first in
    let kept = subst (λ (b : ArenaView). KeepsCells b c.join_all.new.arena) retired c.join_all.ensures.kept in
    still.net_in t b c.join_all.new.arena c.requires.net.all kept.cells (still.as_many second c.join_all.new.arena kept ∙ many_second) (still.kept_good second c.join_all.new.arena kept t b good_second)

pub returns-clause-leased : goal.returns-clause-leased
returns-clause-leased c =
    let t = c.args.symbols.now in
    let s = c.requires.beside.0 in
    let a = c.requires.beside.1.0 in
    let about = c.requires.beside.1.1 in
    let put = c.requires.beside.1.2 in
    let b = c.args.arena.now in
    let one = ready.one_live t s c.args.next.now.template.now c.args.next.now.pair c.args.next.now.own a c.args.ends.now about c.args.next.now.placed.now.cells b put in
    let two = ready.other_live t s c.args.next.now.template.now c.args.next.now.pair c.args.next.now.own a c.args.ends.now about c.args.next.now.placed.now.cells b put in
    let first = changed b c.args.next.now.pair.one.0 Vacant in
    let second = changed first c.args.next.now.pair.other.0 Vacant in
    let retired = c.retire-2.ensures ∙ ap (λ (b : ArenaView). changed b c.args.next.now.pair.other.0 Vacant) c.retire.ensures in
    let kept = subst (λ (b : ArenaView). KeepsCells b c.join_all.new.arena) retired c.join_all.ensures.kept in
    still.alike_through b first c.join_all.new.arena (still.retired_alike b first c.args.next.now.pair.one.0 one refl)
    (still.alike_through first second c.join_all.new.arena (still.retired_alike first second c.args.next.now.pair.other.0 two refl) (still.kept_alike second c.join_all.new.arena kept))
