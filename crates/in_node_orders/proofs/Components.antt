-- Which nodes split a set is decided in each of its components.
use Rattle.std.proofs.Common.{◌≡◌, ◌≢◌, ℕ, Bool, false, inl, inr, subst}
use Rattle.std.proofs.lemmas.Bool.{cases_Bool}
use Rattle.in_open_nets.specs.declared.open_nets.OpenPoint.TheVariants.{Port}
use Rattle.in_open_nets.specs.Constructions.{IsIn}
use Rattle.in_open_nets.specs.OpenNets.{OpenNet, IsWire, open_graph}
use Rattle.in_open_nets.specs.Splitting.{Linked, alone, onward, Without, SplitsAt, IsComponent}
use Rattle.in_open_nets.specs.Stuck.{IsFirstToSplit, IsPart}
use Rattle.in_node_orders.specs.Orders.{IsLeft}
use Rattle.in_open_nets.proofs.Public.{Decided, both_decided, link_back, link_first, link_join, link_map, not_both, same_nat}

abbrev pub In : (ℕ → Bool) → ℕ → Type 0
In s n = IsIn n s

is_in : (s : ℕ → Bool) (n : ℕ) → Decided (In s n)
is_in s n = elim (cases_Bool (s n)) [ inl h ↦ inl h | inr h ↦ inr (λ k. not_both (s n) k h) ]

is_other : (m n : ℕ) → Decided (m ≢ n)
is_other m n = elim (same_nat m n) [ inl e ↦ inr (λ d. d e) | inr d ↦ inl d ]

is_left : (n : ℕ) (s : ℕ → Bool) (m : ℕ) → Decided (Without n s m)
is_left n s m = both_decided (is_in s m) (is_other m n)

module _ (o : OpenNet) where
  -- the nodes that have P are those of some components of the nodes that have Q
  pub record AreComponents (P Q : ℕ → Type 0) : Type 0 where
    pub inside : (m : ℕ) → P m → Q m
    pub closed : (l m i j w : ℕ) → P l → IsWire o w (Port l i) (Port m j) → Q m → P m

  -- a link from a node of these components stays in them
  pub link_within : (P Q : ℕ → Type 0) → AreComponents P Q → (l m : ℕ) → P l → Linked (open_graph o) Q l m → Linked (open_graph o) P l m
  link_within P Q c l m here (alone _ h) = alone l here
  link_within P Q c l m here (onward _ k _ i j h w r) = onward l k m i j here w (link_within P Q c k m (c.closed l k i j w.0 here w.1 (link_first (open_graph o) Q k m r)) r)

  -- one component
  one_component : (P : ℕ → Type 0) → ((n : ℕ) → Decided (P n)) → (c : ℕ → Bool) → IsComponent (open_graph o) P c → AreComponents (In c) P
  one_component P dec c part = record {
    inside = inside;
    closed = λ l m i j w h wire k. (part.2 m).1 (link_join o P dec part.0 l m ((part.2 l).0 h) (onward l m m i j (inside l h) (w, wire) (alone m k)));
  }
    where
      inside : (m : ℕ) → IsIn m c → P m
      inside m h = link_first (open_graph o) P m part.0 (link_back o P dec part.0 m ((part.2 m).0 h))

  pub component_of : (s c : ℕ → Bool) → IsComponent (open_graph o) (In s) c → AreComponents (In c) (In s)
  component_of s c part = one_component (In s) (is_in s) c part

  pub part_of : (n : ℕ) (s c : ℕ → Bool) → IsPart o n s c → AreComponents (In c) (Without n s)
  part_of n s c h = one_component (Without n s) (is_left n s) c h

  -- components of components
  pub of_components : (P Q R : ℕ → Type 0) → AreComponents P Q → AreComponents Q R → AreComponents P R
  of_components P Q R a b = record {
    inside = λ m h. b.inside m (a.inside m h);
    closed = λ l m i j w h wire k. a.closed l m i j w h wire (b.closed l m i j w (a.inside l h) wire k);
  }

  pub all_of : (s : ℕ → Bool) → AreComponents (In s) (In s)
  all_of s = record { inside = λ m h. h; closed = λ l m i j w h wire k. k }

  module _ (p s : ℕ → Bool) where
    without_both : (n : ℕ) → AreComponents (In p) (In s) → AreComponents (Without n p) (Without n s)
    without_both n c = record { inside = λ m h. (c.inside m h.0, h.1); closed = λ l m i j w h wire k. (c.closed l m i j w h.0 wire k.0, k.1) }

    -- without a node that isn't in p
    without_other : (n : ℕ) → p n ≡ false → AreComponents (In p) (In s) → AreComponents (In p) (Without n s)
    without_other n out c = record {
      inside = λ m h. (c.inside m h, λ e. not_both (p n) (subst (λ z. IsIn z p) e h) out);
      closed = λ l m i j w h wire k. c.closed l m i j w h wire k.0;
    }

    -- .. where t has the nodes of s without it
    module _ (t : ℕ → Bool) (n : ℕ) (left : IsLeft n s t) (c : AreComponents (In p) (In s)) where
      pub left_both : AreComponents (Without n p) (In t)
      left_both = let d = without_both n c in record { inside = λ m h. (left m).1 (d.inside m h); closed = λ l m i j w h wire k. d.closed l m i j w h wire ((left m).0 k) }

      pub left_other : p n ≡ false → AreComponents (In p) (In t)
      left_other out = let d = without_other n out c in record { inside = λ m h. (left m).1 (d.inside m h); closed = λ l m i j w h wire k. d.closed l m i j w h wire ((left m).0 k) }

    pub splits_smaller : (n : ℕ) → ((m : ℕ) → IsIn m p → IsIn m s) → SplitsAt (open_graph o) n s → SplitsAt (open_graph o) n p
    splits_smaller n f h = record {
      own = h.own;
      touched = λ i j l m k e w v link. h.touched i j l m k e w v (link_map (open_graph o) (Without n p) (Without n s) (λ u g. (f u g.0, g.1)) l m link);
    }

    pub splits_larger : (n : ℕ) → AreComponents (In p) (In s) → IsIn n p → SplitsAt (open_graph o) n p → SplitsAt (open_graph o) n s
    splits_larger n c here h = record {
      own = h.own;
      touched = λ i j l m k e w v link.
          let first = link_first (open_graph o) (Without n s) l m link in
          h.touched i j l m k e w v (link_within (Without n p) (Without n s) (without_both n c) l m (c.closed n l i k w.0 here w.1 first.0, first.1) link);
    }

    pub first_of_components : (n : ℕ) → AreComponents (In p) (In s) → IsIn n p → IsFirstToSplit o n s → IsFirstToSplit o n p
    first_of_components n c here f = record {
      here = here;
      splits = splits_smaller n c.inside f.splits;
      first = λ m h less k. f.first m (c.inside m h) less (splits_larger m c h k);
    }
