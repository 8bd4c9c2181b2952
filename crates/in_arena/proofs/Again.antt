use Rattle.std.proofs.Common.{◌≡◌, ◌∙◌, ap, subst, sym, get_or-set_same}
use Rattle.in_arena.specs.Arenas.{ArenaView, BeginsCell, changed, state_at}
use Rattle.in_arena.specs.Classes.{IsNumberOf}
use Rattle.in_arena.specs.States.{State, Vacant, Leased, IsLive, IsBegun}
use Rattle.in_arena.specs.declared.content.CellClass.{CellClass}
use Rattle.in_arena.proofs.FreeLists.{set_twice}
use Rattle.in_arena.proofs.Arenas.{live_inside}

-- the same cell again
pub begun_again : (a b : ArenaView) (d e : CellClass) (n symbol places : _) (x : State) → d ≡ e → IsNumberOf a.cells d n → IsLive (state_at a n) → IsBegun symbol places x → b ≡ changed a n x → BeginsCell e symbol places (changed a n Vacant) n b
begun_again a b d e n symbol places x same at live begun is = record {
  at = subst (λ (z : CellClass). IsNumberOf a.cells z n) same at;
  was = get_or-set_same a.states n Vacant Leased (live_inside a n live);
  state = x;
  begun = begun;
  arena = is ∙ ap (λ ss. let v : ArenaView = record { memory = a.memory; cells = a.cells; states = ss } in v) (sym (set_twice a.states n Vacant x));
}
