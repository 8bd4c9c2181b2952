-- The points of a reducer's net, and their partners.
use Rattle.std.proofs.Common.{◌≡◌, ◌≤◌, ◌<◌, ◌+◌, ℕ, Option, Some, None, IsSome, IsSomeAnd, option_map, refl, sym, ap, ◌∙◌, subst, is_some, arith}
use Rattle.std.proofs.lemmas.Option.{same_Some}
use Rattle.in_arena.specs.declared.content.End.{End}
use Rattle.in_arena.specs.declared.content.End.TheVariants as end
use Rattle.in_cells.specs.Shown as joining
use Rattle.in_symbols.specs.Tables.{arity_of}
use Rattle.in_syntax.specs.declared.symbol_no.SymbolNo.{SymbolNo}
use Rattle.in_net.specs.declared.nets.Point as points
use Rattle.in_net.specs.declared.nets.Point.TheVariants as point
use Rattle.in_net.specs.Nets.{Point, Port, IsNet, signature_of, point_of, coded_point}
use Rattle.in_net.specs.Parts.{symbol_in, partner_in}
use Rattle.in_net.proofs.Public.{has_partner}
use Rattle.in_reducer.specs.Cutting.{net_in}
use Rattle.in_reducer.specs.Machines.{MachineParts, parts_of, point_at}
use Rattle.in_reducer.specs.Reducers.{IsReducer}
use Rattle.in_phases.specs.Branches.{HasAgent, AgentHasPlace, LeadsSomewhere}
use Rattle.in_gluing.proofs.Public.{not_some}

-- the point of an end, in the code's words and back
end_point : (e : End) → coded_point (joining.point_of e) ≡ point_at e
end_point (end.Cell c i) = refl
end_point (end.Free k) = refl

back_point : (e : End) → point_of (point_at e) ≡ joining.point_of e
back_point (end.Cell c i) = refl
back_point (end.Free k) = refl

module _ (m : MachineParts) where
  -- the result of an accessor is the net's partner
  pub partner_shown : (e f : End) → partner_in (parts_of m) (point_at e) ≡ Some (point_at f) → (net_in m).partner (joining.point_of e) ≡ Some (joining.point_of f)
  partner_shown e f h = ap (λ p. option_map point_of (partner_in (parts_of m) p)) (end_point e) ∙ ap (option_map point_of) h ∙ ap (λ p. Some p) (back_point f)

  -- an agent of the net has a symbol, and the other way round
  pub agent_in_net : (y : ℕ) → HasAgent m y → IsSome ((net_in m).symbol y)
  agent_in_net y h = by (symbol_in (parts_of m) y) refl h
    where
      by : (o : Option SymbolNo) → symbol_in (parts_of m) y ≡ o → IsSome o → IsSome ((net_in m).symbol y)
      by None e k = cc
      by (Some s) e k = ap is_some (ap (option_map (λ (s : SymbolNo). s.0)) e)

  pub agent_of_net : (y : ℕ) → IsSome ((net_in m).symbol y) → HasAgent m y
  agent_of_net y h = by (symbol_in (parts_of m) y) refl
    where
      by : (o : Option SymbolNo) → symbol_in (parts_of m) y ≡ o → HasAgent m y
      by None e = absurd (not_some (option_map (λ s. s.0) (symbol_in (parts_of m) y)) (ap (option_map (λ s. s.0)) e) h)
      by (Some s) e = ap is_some e

  module _ (h : IsReducer m) where
    pub net : IsNet (signature_of m.program.tables) (net_in m)
    net = h.net.sound.net

    -- an agent has a point at each of its places
    pub place_there : (c i a : ℕ) → option_map (λ s. arity_of m.program.tables s.0) (symbol_in (parts_of m) c) ≡ Some a → i < a + 1 → AgentHasPlace m c i
    place_there c i a e low = by (symbol_in (parts_of m) c) refl e
      where
        there : (o : Option points.Point) → partner_in (parts_of m) (point.Port (record { 0 = c }) i) ≡ o → IsSome ((net_in m).partner (Port c i)) → AgentHasPlace m c i
        there None k g = absurd (not_some ((net_in m).partner (Port c i)) (ap (option_map point_of) k) g)
        there (Some q) k g = has_partner (parts_of m) (point.Port (record { 0 = c }) i) q k

        by : (o : Option SymbolNo) → symbol_in (parts_of m) c ≡ o → option_map (λ s. arity_of m.program.tables s.0) o ≡ Some a → AgentHasPlace m c i
        by None k f = cc
        by (Some s) k f =
            let same : arity_of m.program.tables s.0 ≡ a = same_Some (arity_of m.program.tables s.0) a f in
            let symbol : (net_in m).symbol c ≡ Some s.0 = ap (option_map (λ s. s.0)) k in
            there (partner_in (parts_of m) (point.Port (record { 0 = c }) i)) refl
            (net.joined (Port c i) (subst (λ (o : Option ℕ). IsSomeAnd o (λ (z : ℕ). i ≤ arity_of m.program.tables z)) (sym symbol) (let z : i ≤ arity_of m.program.tables s.0 = omega (arith, low, same) in z)))

    -- .. and no further one
    pub place_below : (c i a : ℕ) (q : Point ℕ) → option_map (λ s. arity_of m.program.tables s.0) (symbol_in (parts_of m) c) ≡ Some a → (net_in m).partner (Port c i) ≡ Some q → i < a + 1
    place_below c i a q e f = by (symbol_in (parts_of m) c) refl e
      where
        by : (o : Option SymbolNo) → symbol_in (parts_of m) c ≡ o → option_map (λ s. arity_of m.program.tables s.0) o ≡ Some a → i < a + 1
        by None k g = cc
        by (Some s) k g =
            let same : arity_of m.program.tables s.0 ≡ a = same_Some (arity_of m.program.tables s.0) a g in
            let low : i ≤ arity_of m.program.tables s.0 = subst (λ (o : Option ℕ). IsSomeAnd o (λ (z : ℕ). i ≤ arity_of m.program.tables z)) (ap (option_map (λ (s : SymbolNo). s.0)) k) (net.points (Port c i) q f) in
            omega (arith, same, low)

    -- the agent to which a point leads exists
    pub leads_somewhere : (p : Point ℕ) (e : End) → (net_in m).partner p ≡ Some (joining.point_of e) → LeadsSomewhere m e
    leads_somewhere p (end.Free k) f = tt
    leads_somewhere p (end.Cell c i) f = agent_of_net c.0 (by ((net_in m).symbol c.0) refl (net.points (Port c.0 i) p (net.back p (Port c.0 i) f)))
      where
        by : (o : Option ℕ) → (net_in m).symbol c.0 ≡ o → IsSomeAnd o (λ s. i ≤ arity_of m.program.tables s) → IsSome ((net_in m).symbol c.0)
        by None k g = absurd g
        by (Some s) k g = ap is_some k
