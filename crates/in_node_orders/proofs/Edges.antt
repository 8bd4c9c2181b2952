-- The next edge, and what is known of an edge that has come.
use Rattle.std.proofs.Common.{◌≡◌, ◌≢◌, ◌⊎◌, ◌<◌, ◌≤◌, ◌+◌, ℕ, List, length, length-set, set, Some, refl, sym, subst, ap, inl, inr, ◌∙◌, arith}
use Rattle.std.specs.Prelude.{slice_get}
use Rattle.std.proofs.lemmas.Option.{slice_get_within}
use Rattle.in_simple_bridges.specs.Spans.{AreWithin, at}
use Rattle.in_simple_bridges.specs.Walks.{HasTwoEnds, IsOnCycle}
use Rattle.in_node_orders.specs.declared.growing.Growing.{Growing}
use Rattle.in_node_orders.specs.Growing.{IsGrowing, Merges, come}
use Rattle.in_node_orders.proofs.Blobs.{is_bridge, is_on_cycle, shows_linked, shows_merged, shows_none}
use Rattle.in_node_orders.proofs.Climbs.{all_zero}
use Rattle.in_node_orders.proofs.Prefixes.{get_take}

pub ends_small : (count : ℕ) (edges : List (ℕ × ℕ)) → AreWithin count edges → (k a b : ℕ) → HasTwoEnds edges k a b → (a < count) × (b < count)
ends_small count edges within k a b (inl h) = within k a b h
ends_small count edges within k a b (inr h) = let r = within k b a h in (r.1, r.0)

ends_within : (edges : List (ℕ × ℕ)) (k a b : ℕ) → HasTwoEnds edges k a b → k < length edges
ends_within edges k a b (inl h) = slice_get_within edges k (a, b) h
ends_within edges k a b (inr h) = slice_get_within edges k (b, a) h

-- the higher end and the lower one
pub ends_of : (edges : List (ℕ × ℕ)) (k a b high low : ℕ) → slice_get edges k ≡ Some (a, b) → ((high ≡ a) × (low ≡ b)) ⊎ ((high ≡ b) × (low ≡ a)) → HasTwoEnds edges k high low
ends_of edges k a b high low e (inl s) = inl (e ∙ ap (λ z. Some (z, b)) (sym s.0) ∙ ap (λ z. Some (high, z)) (sym s.1))
ends_of edges k a b high low e (inr s) = inr (e ∙ ap (λ z. Some (z, b)) (sym s.1) ∙ ap (λ z. Some (low, z)) (sym s.0))

-- ---- the next edge

pub growing_new : (edges : List (ℕ × ℕ)) (ups vias skips : List ℕ) (count : ℕ) → AreWithin count edges → length ups ≡ count → length vias ≡ count → length skips ≡ count →
    ((n : ℕ) → n < count → at ups n ≡ 0) → ((n : ℕ) → n < count → at skips n ≡ n) → IsGrowing (record { edges = edges; come = 0; ups = ups; vias = vias; skips = skips })
growing_new edges ups vias skips count within u v s roots own = record {
  most = omega arith;
  within = subst (λ z. AreWithin z edges) (sym u) within;
  vias = v ∙ sym u;
  skips = s ∙ sym u;
  blobs = shows_none edges ups vias skips (all_zero ups (λ n l. roots n (omega (arith, l, u)))) (λ n l. own n (omega (arith, l, s)));
}

module _ (edges : List (ℕ × ℕ)) (k : ℕ) (ups vias skips : List ℕ) (g : IsGrowing (record { edges = edges; come = k; ups = ups; vias = vias; skips = skips })) where
  pub growing_linked : (high low : ℕ) → HasTwoEnds edges k high low → at ups high ≡ 0 → low < high → IsGrowing (record { edges = edges; come = k + 1; ups = set ups high (low + 1); vias = set vias high k; skips = skips })
  growing_linked high low ends root lower =
      let l = ends_within edges k high low ends in
      let small = (ends_small (length ups) edges g.within k high low ends).0 in
      let size = g.vias in
      record {
        most = omega (arith, l);
        within = subst (λ z. AreWithin z edges) (sym (length-set ups high (low + 1))) g.within;
        vias = length-set vias high k ∙ g.vias ∙ sym (length-set ups high (low + 1));
        skips = g.skips ∙ sym (length-set ups high (low + 1));
        blobs = elim ends [
          | inl h ↦ shows_linked edges k high low l h ups vias skips high low root lower small (omega (arith, small, size)) (inl (refl, refl)) g.blobs
          | inr h ↦ shows_linked edges k low high l h ups vias skips high low root lower small (omega (arith, small, size)) (inr (refl, refl)) g.blobs
        ];
      }

  pub growing_covered : (one other : ℕ) (skips' : List ℕ) → slice_get edges k ≡ Some (one, other) → length skips' ≡ length skips → Merges ups skips skips' one other → IsGrowing (record { edges = edges; come = k + 1; ups = ups; vias = vias; skips = skips' })
  growing_covered one other skips' h size merges =
      let l = slice_get_within edges k (one, other) h in
      record {
        most = omega (arith, l);
        within = g.within;
        vias = g.vias;
        skips = size ∙ g.skips;
        blobs = shows_merged edges k one other l h ups vias skips skips' merges g.blobs;
      }

-- ---- an edge that has come

module _ (g : Growing) (grown : IsGrowing g) (e high low : ℕ) (ends : HasTwoEnds g.edges e high low) (most : low ≤ high) (here : e < g.come) where
  ends_come : HasTwoEnds (come g) e high low
  ends_come = elim ends [ inl h ↦ inl (get_take g.edges g.come e here ∙ h) | inr h ↦ inr (get_take g.edges g.come e here ∙ h) ]

  small : high < length g.skips
  small = let s = (ends_small (length g.ups) g.edges grown.within e high low ends).0 in let size = grown.skips in omega (arith, s, size)

  pub off_cycles : at g.ups high ≢ 0 → at g.vias high ≡ e → at g.skips high ≡ high → IsOnCycle (come g) e → ⊥
  off_cycles some via own on = is_bridge (come g) g.ups g.vias g.skips grown.blobs e high low ends_come most small (omega (arith, some)) via own on

  pub on_cycles : (at g.ups high ≡ 0) ⊎ (at g.vias high ≢ e) ⊎ (at g.skips high ≢ high) → IsOnCycle (come g) e
  on_cycles other = is_on_cycle (come g) g.ups g.vias g.skips grown.blobs e high low ends_come most small other
