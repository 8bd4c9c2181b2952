-- The partners of points that stay and of new agents' ports, as the paths land.
use Rattle.std.proofs.Common.{◌≡◌, ◌<◌, ◌≤◌, ℕ, Option, Some, None, IsSomeAnd, length, slice_get, refl, sym, subst, ap, ◌∙◌, arith}
use Rattle.std.specs.Prelude.{option_map}
use Rattle.in_symbols.specs.Tables.{Tables, arity_of}
use Rattle.in_syntax.specs.declared.symbol_no.SymbolNo.{SymbolNo}
use Rattle.in_net.specs.declared.nets.AgentNo.{AgentNo}
use Rattle.in_net.specs.declared.nets.Cell.{Cell}
use Rattle.in_net.specs.declared.nets.Point as coded
use Rattle.in_net.specs.declared.nets.Point.TheVariants as code
use Rattle.in_interaction.specs.Following.{SiteParts, IsSite, IsOld, Lands, most_turns, port_of}
use Rattle.in_interaction.specs.Interacting.{unused, CanInteract}
use Rattle.in_net.specs.Interactions.{AreJoined}
use Rattle.in_interaction.specs.Making.{end_point, redex_of}
use Rattle.in_net.specs.Nets.{Point, Port, Free, IsPoint, net_of, signature_of, point_of, coded_point}
use Rattle.in_net.specs.Parts.{Parts, cell_in, partner_in}
use Rattle.in_net.proofs.Public.{has_partner, cell_within, round_point, round_code, map_is}
use Rattle.in_interaction.proofs.Stepping.Sites.{Site, at_site, first_is}
use Rattle.in_interaction.proofs.Stepping.Landing as landing

-- partners of the code are partners of the net
pub net_wire : (n : Parts) (p q : coded.Point) → partner_in n p ≡ Some q → (net_of n).partner (point_of p) ≡ Some (point_of q)
net_wire n p q e = ap (λ (z : coded.Point). option_map point_of (partner_in n z)) (round_code p) ∙ ap (option_map point_of) e

-- joined by an alternating path
abbrev Joined : Tables → SiteParts → Point ℕ → Point ℕ → Type 0
Joined t s = AreJoined (signature_of t) (net_of s.net) (redex_of s) (unused s.net.cells)

module _ (s : SiteParts) (site : IsSite s) where
  pub named : (t : Tables) (k i : ℕ) → IsPoint (signature_of t) (net_of s.rule.member) (Port k i) → slice_get s.names k ≡ Some (record { 0 = unused s.net.cells k })
  named t k i h = go (cell_in s.rule.member k) refl h
    where
      go : (o : Option Cell) → cell_in s.rule.member k ≡ o → IsSomeAnd (option_map (λ (s : SymbolNo). s.0) (option_map (λ (c : Cell). c.symbol) o)) (λ s. i ≤ arity_of t s) → slice_get s.names k ≡ Some (record { 0 = unused s.net.cells k })
      go None is h = absurd h
      go (Some c) is h = let l = cell_within s.rule.member.cells k c is in let m = site.many in site.names k (omega (arith, l, m))

  -- the name of the agent that a new agent's wire leads to
  pub name_at : (k l : AgentNo) (i j : ℕ) → partner_in s.rule.member (code.Port k i) ≡ Some (code.Port l j) → slice_get s.names l.0 ≡ Some (record { 0 = unused s.net.cells l.0 })
  name_at k l i j e = go (cell_in s.rule.member l.0) refl (has_partner s.rule.member (code.Port l j) (code.Port k i) (site.member.back (code.Port k i) (code.Port l j) e))
    where
      go : (o : Option Cell) → cell_in s.rule.member l.0 ≡ o → IsSomeAnd o (λ c. j < length c.ends) → slice_get s.names l.0 ≡ Some (record { 0 = unused s.net.cells l.0 })
      go None is h = absurd h
      go (Some c) is h = let m = cell_within s.rule.member.cells l.0 c is in let n = site.many in site.names l.0 (omega (arith, m, n))

  module _ (t : Tables) (can : CanInteract t s.net s.rule s.one s.two) where
    abbrev here : Site
    here = at_site s site t can

    -- .. as the landing lemmas have it
    pub outer_at : (p q : coded.Point) → IsOld s p → partner_in s.net p ≡ Some q → (v : Point ℕ) × Joined t s (point_of p) v × Lands s most_turns q (coded_point v)
    outer_at p q old e =
        let r = landing.outer_lands here s.names (named t) (point_of p) (point_of q) old.1 (net_wire s.net p q e) in
        let lands : Lands s most_turns (coded_point (point_of q)) (coded_point r.0) =
        subst (λ (z : ℕ). Lands (record s { first = z }) most_turns (coded_point (point_of q)) (coded_point r.0)) (first_is s site t can) r.2 in
        (r.0, r.1, subst (λ (z : coded.Point). Lands s most_turns z (coded_point r.0)) (round_code q) lands)

    pub inner_port : (k l : AgentNo) (i j : ℕ) → partner_in s.rule.member (code.Port k i) ≡ Some (code.Port l j) → Joined t s (Port (unused s.net.cells k.0) i) (Port (unused s.net.cells l.0) j)
    inner_port k l i j e =
        let r = landing.inner_lands here s.names (named t) k.0 i (Port l.0 j) (net_wire s.rule.member (code.Port k i) (code.Port l j) e) in
        subst (Joined t s (Port (unused s.net.cells k.0) i)) (sym r.2) r.1

    pub inner_free : (k : AgentNo) (i e : ℕ) → partner_in s.rule.member (code.Port k i) ≡ Some (code.Free e) →
        (v : Point ℕ) × Joined t s (Port (unused s.net.cells k.0) i) v
        × ((r : coded.Point) × (partner_in s.net (port_of s.one s.two s.first e) ≡ Some r) × Lands s most_turns r (coded_point v))
    inner_free k i e w =
        let r = landing.inner_lands here s.names (named t) k.0 i (Free e) (net_wire s.rule.member (code.Port k i) (code.Free e) w) in
        let port = landing.port_is here e in
        let first = first_is s site t can in
        let out : partner_in s.net (port_of s.one s.two s.first e) ≡ Some (coded_point r.2.0) =
        ap (λ (z : ℕ). partner_in s.net (port_of s.one s.two z e)) (sym first) ∙ ap (partner_in s.net) port ∙ map_is (partner_in s.net (coded_point (end_point t s e))) r.2.0 r.2.1 in (
          r.0,
          r.1,
          (coded_point r.2.0, out, subst (λ (z : ℕ). Lands (record s { first = z }) most_turns (coded_point r.2.0) (coded_point r.0)) first r.2.2),
        )

-- the point at which a path lands is the partner of its first point
pub partner_is : (s : SiteParts) (t : Tables) (u v : Point ℕ) (p : coded.Point) → p ≡ coded_point v → Joined t s u v → Joined t s u (point_of p)
partner_is s t u v p e h = subst (Joined t s u) (sym (ap point_of e ∙ round_point v)) h
