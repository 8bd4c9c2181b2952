-- The agent to which the wire of a machine's free end leads exists.
use Rattle.std.proofs.Common.{◌≡◌, ◌≤◌, ℕ, Option, Some, None, IsSome, IsSomeAnd, option_map, is_some, refl, ap, subst}
use Rattle.in_arena.specs.declared.content.CellNo.{CellNo}
use Rattle.in_arena.specs.declared.content.End.TheVariants as end
use Rattle.in_symbols.specs.Tables.{arity_of}
use Rattle.in_syntax.specs.declared.symbol_no.SymbolNo.{SymbolNo}
use Rattle.in_net.specs.declared.nets.Point as coded
use Rattle.in_net.specs.Nets.{Port, Free, net_of, point_of}
use Rattle.in_net.specs.Parts.{symbol_in, partner_in}
use Rattle.in_check.specs.Promises.{IsAsPromised}
use Rattle.in_check.specs.Systems.{system_of}
use Rattle.in_check.proofs.Public.{promised}
use Rattle.in_reducer.specs.Machines.{MachineParts, parts_of, plain_of, point_at}
use Rattle.in_machine.specs.Machines.{IsMachine}

pub agent_led_to : (m : MachineParts) → IsMachine m → (k : ℕ) (c : CellNo) (i : ℕ) → partner_in (parts_of m) (point_at (end.Free k)) ≡ Some (point_at (end.Cell c i)) → IsSome (symbol_in (parts_of m) c.0)
agent_led_to m machine k c i e =
    let all : IsAsPromised (system_of m.program) (net_of (parts_of m)) = promised machine.accepted.0 machine.accepted.1 (plain_of m) machine.accepted.2 machine.plain in
    let leads : (net_of (parts_of m)).partner (Free k) ≡ Some (Port c.0 i) = ap (λ (o : Option coded.Point). option_map point_of o) e in
    by (symbol_in (parts_of m) c.0) refl (all.typed.0.points (Port c.0 i) (Free k) (all.typed.0.back (Free k) (Port c.0 i) leads))
  where
    by : (o : Option SymbolNo) → symbol_in (parts_of m) c.0 ≡ o → IsSomeAnd (option_map (λ s. s.0) (symbol_in (parts_of m) c.0)) (λ s. i ≤ arity_of m.program.tables s) → IsSome (symbol_in (parts_of m) c.0)
    by None k h = absurd (subst (λ o. IsSomeAnd (option_map (λ s. s.0) o) (λ s. i ≤ arity_of m.program.tables s)) k h)
    by (Some s) k h = ap is_some k
