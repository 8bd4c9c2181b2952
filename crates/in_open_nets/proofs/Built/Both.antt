-- The laws for the whole open net.
use Rattle.std.proofs.Common.{◌≡◌, ◌⊎◌, ◌↔◌, ◌<◌, ℕ, Bool, nat_lt, length, subst, inl, inr, ltb-true, lt-ltb, arith}
use mathlib.Core.Path.{fun_ext}
use native.Mathlib.Decide.{ℕ_discrete}
use Rattle.in_base.specs.Graphs.{CrossingCircle}
use Rattle.in_open_nets.specs.declared.open_nets.OpenPoint.TheVariants.{Port}
use Rattle.in_open_nets.specs.Constructions.{IsIn, Built}
use Rattle.in_open_nets.specs.Splitting.{IsStuck}
use Rattle.in_open_nets.proofs.Splits.EachSplits.{each_part_splits}
use Rattle.in_open_nets.proofs.Built.NoCircle.{no_circle}
use Rattle.in_open_nets.specs.OpenNets.{OpenNet, IsOpenNet, IsAgent, IsNode, classes_of, IsDerivable, NetSplits, open_graph}
use Rattle.in_open_nets.specs.Laws.{HasNoFirstStuck, HasOneFirstStuck}
use Rattle.in_open_nets.specs.Stuck.{FirstStuck, whole, within, IsFirstStuck}
use Rattle.in_open_nets.proofs.PartsOf.Sums.{same_test, point_node}
use Rattle.in_open_nets.proofs.Built.Balance.{wire_turn}
use Rattle.in_open_nets.proofs.Splits.Search.{Found, search, count, not_both_ways, one_stuck, smaller}
use Rattle.in_open_nets.proofs.Built.Grow.{built_constructions, splits_built}

module _ (o : OpenNet) (net : IsOpenNet o) where
  all : ℕ → Bool
  all n = nat_lt n (length o.nodes)

  all_nodes : (n : ℕ) → IsIn n all ↔ IsNode o n
  unfolding all
  all_nodes n = ((λ h. ltb-true n (length o.nodes) h), λ h. lt-ltb n (length o.nodes) h)

  pub all_one : (s t : ℕ → Bool) → ((n : ℕ) → IsIn n s ↔ IsNode o n) → ((n : ℕ) → IsIn n t ↔ IsNode o n) → s ≡ t
  all_one s t f g = fun_ext (λ n. same_test (s n) (t n) (λ h. (g n).1 ((f n).0 h)) (λ h. (f n).1 ((g n).0 h)))

  found : (s : ℕ → Bool) → ((n : ℕ) → IsIn n s ↔ IsNode o n) → Found o net s
  found s f = search o net (count s (length o.nodes)) s (λ m h. (f m).0 h) (omega arith)

  -- a first stuck sub-net is one in which no node splits
  stuck_inside : (s t : ℕ → Bool) → ((n : ℕ) → IsIn n s → n < length o.nodes) → FirstStuck o s t → IsStuck (open_graph o) t × ((n : ℕ) → IsIn n t → IsIn n s)
  stuck_inside s _ f (whole _ h) = (h, λ n k. k)
  stuck_inside s t f (within _ n c k _ first part comes before stuck) =
      let e = smaller o net s f n first.here c part in
      let r = stuck_inside c t (λ n h. f n (e.0 n h).0) stuck in
      (r.0, λ n h. (e.0 n (r.1 n h)).0)

  -- it has nodes, and all of them are nodes of the open net
  pub stuck_nodes : (t : ℕ → Bool) → IsFirstStuck o t → ((n : ℕ) × IsIn n t) × ((n : ℕ) → IsIn n t → IsNode o n)
  stuck_nodes t h = let r = stuck_inside h.0 t (λ n i. (h.1 n).0 i) h.2 in (r.0.0, λ n i. (h.1 n).0 (r.1 n i))

  pub derivable_splits : IsDerivable o → NetSplits o
  derivable_splits d = go (found d.0 d.1)
    where
      go : Found o net d.0 → NetSplits o
      go (inl h) = (d.0, d.1, h)
      go (inr r) =
          let e = stuck_inside d.0 r.0 (λ n h. (d.1 n).0 h) r.1 in
          let n = each_part_splits (open_graph o) (λ u v w. (w.0, wire_turn o w.0 (Port u.0 u.1) (Port v.0 v.1) w.1)) d.2 r.0 e.1 e.0.0.0 e.0.0.1 in
          absurd (e.0.1 n.0 n.1 n.2)

  pub splits_derivable : NetSplits o → IsDerivable o
  splits_derivable r = (r.0, r.1, splits_built o net (Built (open_graph o) (IsAgent o) (classes_of o)) (built_constructions o) r.0 (λ n h. (r.1 n).0 h) r.2)

  pub splits_or_stuck : NetSplits o ⊎ ((t : ℕ → Bool) × IsFirstStuck o t)
  splits_or_stuck = go (found all all_nodes)
    where
      go : Found o net all → NetSplits o ⊎ ((t : ℕ → Bool) × IsFirstStuck o t)
      go (inl h) = inl (all, all_nodes, h)
      go (inr r) = inr (r.0, (all, all_nodes, r.1))

  pub one_first_stuck : (t : ℕ → Bool) → IsFirstStuck o t → (NetSplits o → ⊥) × ((u : ℕ → Bool) → IsFirstStuck o u → t ≡ u)
  one_first_stuck t h = (
    (λ r. not_both_ways o net r.0 t (subst (λ z. FirstStuck o z t) (all_one h.0 r.0 h.1 r.1) h.2) r.2),
    λ u k. one_stuck o net h.0 t u (λ n i. (h.1 n).0 i) h.2 (subst (λ z. FirstStuck o z u) (all_one k.0 h.0 k.1 h.1) k.2),
  )

  pub splits_or_first_stuck : (NetSplits o × HasNoFirstStuck o) ⊎ ((NetSplits o → ⊥) × HasOneFirstStuck o)
  splits_or_first_stuck = go splits_or_stuck
    where
      go : NetSplits o ⊎ ((t : ℕ → Bool) × IsFirstStuck o t) → (NetSplits o × HasNoFirstStuck o) ⊎ ((NetSplits o → ⊥) × HasOneFirstStuck o)
      go (inl h) = inl (h, λ t k. (one_first_stuck t k).0 h)
      go (inr r) = let e = one_first_stuck r.0 r.1 in inr (e.0, (r.0, r.1, e.1))

  pub derivable_no_circle : IsDerivable o → CrossingCircle (open_graph o) → ⊥
  derivable_no_circle d circle = no_circle (open_graph o) ℕ_discrete (IsAgent o) (classes_of o) d.0
      (λ u v w. (w.0, wire_turn o w.0 (Port u.0 u.1) (Port v.0 v.1) w.1))
      (λ u v w. (d.1 v.0).1 (point_node o v.0 v.1 (net.points w.0 (Port v.0 v.1) (Port u.0 u.1) (wire_turn o w.0 (Port u.0 u.1) (Port v.0 v.1) w.1))))
      d.2 circle
