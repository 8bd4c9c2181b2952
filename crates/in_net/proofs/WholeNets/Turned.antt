-- Points come in the order of their spots.
use Rattle.std.proofs.Common.{◌≡◌, ◌≢◌, ◌⊎◌, inl, inr, ℕ, ◌+◌, ◌-◌, ◌<◌, ◌≤◌, length, refl, sym, ◌∙◌, ap, subst, arith}
use Rattle.std.proofs.lemmas.Bool.{cases_eq, cases_lt}
use Rattle.in_syntax.specs.declared.places.Place.{Place}
use Rattle.in_symbols.specs.Tables.{Tables}
use Rattle.in_net.specs.declared.reading.TextSpot.{TextSpot}
use Rattle.in_net.specs.declared.reading.TextSpot.TheVariants as spot
use Rattle.in_net.specs.declared.reading.Reading.{Reading}
use Rattle.in_net.specs.declared.nets.Point.{Point}
use Rattle.in_net.specs.Building.{nth_spot, nth_agent, IsPointSpot, point_in}
use Rattle.in_net.specs.Built.{IsEnd, IsNumbered}
use Rattle.in_net.specs.TextNet.{ComesBefore}
use Rattle.in_net.proofs.WholeNets.Points.{Stands}

module _ (t : Tables) (free : ℕ) (r : Reading) (numbered : IsNumbered t free r) where
  -- a free or boundary end's spot has its number
  end_before : (k l a c : ℕ) → k < length r.spots → l < length r.spots → IsEnd (nth_spot r.spots k) a → IsEnd (nth_spot r.spots l) c → k < l → a < c
  end_before k l a c k_in l_in x y lt = let one = (numbered.end k a k_in x).0 in let other = (numbered.end l c l_in y).0 in omega (arith, one, other, lt)

  -- no port is before an end
  no_port : (k l a i c : ℕ) (p : Place) → l < length r.spots → nth_spot r.spots k ≡ spot.Port a i p → IsEnd (nth_spot r.spots l) c → k < l → ⊥
  no_port k l a i c p l_in is y lt =
      let end = numbered.end l c l_in y in
      let there = numbered.ends k (let e = end.0 in let f = end.1 in omega (arith, e, f, lt)) in
      subst (λ s. IsEnd s k) is there.1

  port_is : (a c i j : ℕ) (p q : Place) → spot.Port a i p ≡ spot.Port c j q → a ≡ c
  port_is a c i j p q e = cc

  -- ports of an agent are before those of a later one
  ports_before : (k l a c i j : ℕ) (p q : Place) → k < length r.spots → l < length r.spots → nth_spot r.spots k ≡ spot.Port a i p → nth_spot r.spots l ≡ spot.Port c j q → k < l → (a < c) ⊎ ((a ≡ c) × (i < j))
  ports_before k l a c i j p q k_in l_in is at lt = by_order (cases_eq a c) (cases_lt a c)
    where
      by_order : (a ≡ c) ⊎ (a ≢ c) → (a < c) ⊎ (c ≤ a) → (a < c) ⊎ ((a ≡ c) × (i < j))
      by_order (inl e) y =
          let one = (numbered.port k a i p k_in is).number in
          let other = (numbered.port l c j q l_in at).number in
          let first = ap (λ n. (nth_agent r.agents n).first) e in
          inr (e, omega (arith, one, other, first, lt))
      by_order (inr e) (inl y) = inl y
      by_order (inr e) (inr y) =
          let one = numbered.port k a i p k_in is in
          let other = numbered.port l c j q l_in at in
          let one_at = one.number in
          let other_at = other.number in
          let most = other.place in
          let less = numbered.rise a c (omega (arith, e, y)) one.agent in
          let past : ℕ = (nth_agent r.agents a).first - (nth_agent r.agents c).first in
          let fits : (nth_agent r.agents c).first + ((nth_agent r.agents a).first - (nth_agent r.agents c).first) ≡ (nth_agent r.agents a).first + 0 = omega (arith, less) in
          let there = numbered.ports c past other.agent (omega (arith, one_at, other_at, most, less, lt)) in
          let here = numbered.ports a 0 one.agent (omega arith) in
          absurd (e (port_is a c 0 past (nth_agent r.agents a).place (nth_agent r.agents c).place (sym here.1 ∙ ap (nth_spot r.spots) (sym fits) ∙ there.1)))

  pub comes_before : (x y : Point) (k l : ℕ) → Stands r.spots x k → Stands r.spots y l → k < l → ComesBefore x y
  comes_before x y k l h g lt =
      subst (λ x. ComesBefore x y) h.is (subst (ComesBefore (point_in (nth_spot r.spots k))) g.is (by_spots (nth_spot r.spots k) (nth_spot r.spots l) refl refl h.point g.point))
    where
      end_of : (s : TextSpot) (n a : ℕ) → nth_spot r.spots n ≡ s → IsEnd s a → IsEnd (nth_spot r.spots n) a
      end_of s n a e is = subst (λ s. IsEnd s a) (sym e) is

      by_spots : (s u : TextSpot) → nth_spot r.spots k ≡ s → nth_spot r.spots l ≡ u → IsPointSpot s → IsPointSpot u → ComesBefore (point_in s) (point_in u)
      by_spots (spot.Port a i p) (spot.Port c j q) e f m n = ports_before k l a c i j p q h.inside g.inside e f lt
      by_spots (spot.Port a i p) (spot.Free c m_) e f m n = absurd (no_port k l a i c p g.inside e (end_of (spot.Free c m_) l c f refl) lt)
      by_spots (spot.Port a i p) (spot.End c) e f m n = absurd (no_port k l a i c p g.inside e (end_of (spot.End c) l c f refl) lt)
      by_spots (spot.Port a i p) (spot.Occurrence c q) e f m n = absurd n
      by_spots (spot.Free a m_) (spot.Port c j q) e f m n = tt
      by_spots (spot.Free a m_) (spot.Free c n_) e f m n = end_before k l a c h.inside g.inside (end_of (spot.Free a m_) k a e refl) (end_of (spot.Free c n_) l c f refl) lt
      by_spots (spot.Free a m_) (spot.End c) e f m n = end_before k l a c h.inside g.inside (end_of (spot.Free a m_) k a e refl) (end_of (spot.End c) l c f refl) lt
      by_spots (spot.Free a m_) (spot.Occurrence c q) e f m n = absurd n
      by_spots (spot.End a) (spot.Port c j q) e f m n = tt
      by_spots (spot.End a) (spot.Free c n_) e f m n = end_before k l a c h.inside g.inside (end_of (spot.End a) k a e refl) (end_of (spot.Free c n_) l c f refl) lt
      by_spots (spot.End a) (spot.End c) e f m n = end_before k l a c h.inside g.inside (end_of (spot.End a) k a e refl) (end_of (spot.End c) l c f refl) lt
      by_spots (spot.End a) (spot.Occurrence c q) e f m n = absurd n
      by_spots (spot.Occurrence a p) u e f m n = absurd m
