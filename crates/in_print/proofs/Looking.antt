-- The results of a machine's accessors, by the net that it shows.
use Rattle.std.proofs.Common.{◌≡◌, ◌≤◌, ℕ, Option, Some, None, IsSome, IsSomeAnd, option_map, List, refl, sym, ap, ◌∙◌, subst, is_some, true≢false}
use Rattle.std.proofs.lemmas.Option.{same_Some}
use Rattle.in_arena.specs.declared.content.End.{End}
use Rattle.in_arena.specs.declared.content.End.TheVariants as end
use Rattle.in_symbols.specs.Names.{name_in}
use Rattle.in_symbols.specs.Tables.{arity_of}
use Rattle.in_syntax.specs.declared.symbol_no.SymbolNo.{SymbolNo}
use Rattle.in_net.specs.declared.nets.Point as points
use Rattle.in_net.specs.Nets.{Point, Port, IsNet, net_of, signature_of, point_of, coded_point}
use Rattle.in_net.specs.Parts.{IsPointOf, symbol_in, partner_in}
use Rattle.in_net.proofs.Public.{has_partner}
use Rattle.in_check.specs.NetText.{symbol_name}
use Rattle.in_check.specs.NetText as text
use Rattle.in_check.specs.Promises.{IsAsPromised}
use Rattle.in_check.specs.Systems.{system_of}
use Rattle.in_check.proofs.Public.{promised}
use Rattle.in_reducer.specs.Machines.{MachineParts, parts_of, plain_of}
use Rattle.in_machine.specs.Machines.{IsMachine}
use Rattle.in_reducer.specs.Machines as machines
use Rattle.in_print.specs.Points.{point_at}
use Rattle.in_print.specs.Terms.{arity_at}
use Rattle.in_print.specs.Texts.{setting_of, IsPointAt}

-- the point in the code's words
end_point : (e : End) → coded_point (point_at e) ≡ machines.point_at e
end_point (end.Cell c i) = refl
end_point (end.Free k) = refl

back_point : (e : End) → point_of (machines.point_at e) ≡ point_at e
back_point (end.Cell c i) = refl
back_point (end.Free k) = refl

module _ (m : MachineParts) where
  pub shown_partner : (e f : End) → partner_in (parts_of m) (machines.point_at e) ≡ Some (machines.point_at f) → (net_of (parts_of m)).partner (point_at e) ≡ Some (point_at f)
  shown_partner e f h = ap (λ p. option_map point_of (partner_in (parts_of m) p)) (end_point e) ∙ ap (option_map point_of) h ∙ ap (λ p. Some p) (back_point f)

  pub shown_arity : (y : ℕ) (a : ℕ) → option_map (λ s. arity_of m.program.tables s.0) (symbol_in (parts_of m) y) ≡ Some a → arity_at (setting_of m) y ≡ a
  shown_arity y a h = by (symbol_in (parts_of m) y) refl h
    where
      by : (o : Option SymbolNo) → symbol_in (parts_of m) y ≡ o → option_map (λ s. arity_of m.program.tables s.0) o ≡ Some a → arity_at (setting_of m) y ≡ a
      by None e k = cc
      by (Some s) e k = ap (λ o. text.arity_of (signature_of m.program.tables) (option_map (λ s. s.0) o)) e ∙ same_Some (arity_of m.program.tables s.0) a k

  pub shown_name : (y : ℕ) (name : List ℕ) → option_map (λ s. name_in s.0 m.program.tables.names) (symbol_in (parts_of m) y) ≡ Some name → symbol_name (setting_of m).words ((setting_of m).net.symbol y) ≡ name
  shown_name y name h = by (symbol_in (parts_of m) y) refl h
    where
      by : (o : Option SymbolNo) → symbol_in (parts_of m) y ≡ o → option_map (λ s. name_in s.0 m.program.tables.names) o ≡ Some name → symbol_name (setting_of m).words ((setting_of m).net.symbol y) ≡ name
      by None e k = cc
      by (Some s) e k = ap (λ o. symbol_name (setting_of m).words (option_map (λ s. s.0) o)) e ∙ same_Some (name_in s.0 m.program.tables.names) name k

  module _ (machine : IsMachine m) where
    pub as_promised : IsAsPromised (system_of m.program) (net_of (parts_of m))
    as_promised = promised machine.accepted.0 machine.accepted.1 (plain_of m) machine.accepted.2 machine.plain

    pub net : IsNet (setting_of m).symbols (setting_of m).net
    net = as_promised.typed.0

    -- a point of the net is one of the machine's
    pub point_there : (e : End) → IsPointAt m e → IsPointOf (parts_of m) (machines.point_at e)
    point_there e h = by (partner_in (parts_of m) (machines.point_at e)) refl (subst (λ p. IsSome (option_map point_of (partner_in (parts_of m) p))) (end_point e) (net.joined (point_at e) h))
      where
        by : (o : Option points.Point) → partner_in (parts_of m) (machines.point_at e) ≡ o → IsSome (option_map point_of (partner_in (parts_of m) (machines.point_at e))) → IsPointOf (parts_of m) (machines.point_at e)
        by None k h = absurd (no_value (subst (λ o. IsSome (option_map point_of o)) k h))
          where
            no_value : IsSome (option_map point_of None) → ⊥
            no_value h = absurd (true≢false (sym h))
        by (Some q) k h = has_partner (parts_of m) (machines.point_at e) q k

    -- an agent whose principal port is a partner is there
    pub agent_there : (p : Point ℕ) (y : ℕ) → (setting_of m).net.partner p ≡ Some (Port y 0) → IsSome (symbol_in (parts_of m) y)
    agent_there p y e = by (symbol_in (parts_of m) y) refl (net.points (Port y 0) p (net.back p (Port y 0) e))
      where
        by : (o : Option SymbolNo) → symbol_in (parts_of m) y ≡ o → IsSomeAnd (option_map (λ s. s.0) (symbol_in (parts_of m) y)) (λ s. 0 ≤ arity_of m.program.tables s) → IsSome (symbol_in (parts_of m) y)
        by None k h = absurd (subst (λ o. IsSomeAnd (option_map (λ s. s.0) o) (λ s. 0 ≤ arity_of m.program.tables s)) k h)
        by (Some s) k h = ap is_some k
