-- The order of a set is that of each of its components, and of each part that deriving meets.
use Rattle.std.proofs.Common.{◌≡◌, ◌⊎◌, ◌↔◌, ◌<◌, ℕ, Bool, true, false, cond, List, ◌∷◌, Option, Some, refl, sym, subst, ap, inl, inr, ◌∙◌}
use mathlib.Core.Path.{fun_ext}
use Rattle.std.proofs.lemmas.Bool.{cases_Bool, false_from_ne_true}
use Rattle.in_open_nets.specs.Constructions.{IsIn}
use Rattle.in_open_nets.specs.OpenNets.{OpenNet, IsOpenNet, open_graph}
use Rattle.in_open_nets.specs.Splitting.{alone, Without, IsComponent, Splits, none, first}
use Rattle.in_open_nets.specs.Stuck.{FirstStuck, IsFirstToSplit, IsPart, whole, within}
use Rattle.in_open_nets.proofs.Public.{component, is_component, link_map, linked, not_both, one_first, same_nat, same_test, test_yes}
use Rattle.in_node_orders.specs.Laws.{AreNodes}
use Rattle.in_node_orders.specs.Orders.{IsFirstOrNone, IsLeft, IsMet, IsOrder, NoNodeSplits, ends, first_in, itself, piece, takes}
use Rattle.in_node_orders.proofs.Components.{AreComponents, In, all_of, first_of_components, left_both, left_other, link_within, of_components, part_of, splits_larger}

by_test : (o : OpenNet) (p : ℕ → Bool) (n : ℕ) (found : Option ℕ) (b : Bool) → (b ≡ true → IsFirstToSplit o n p) → (b ≡ false → IsFirstOrNone o p found) → IsFirstOrNone o p (cond b (Some n) found)
by_test o p n found true f g = f refl
by_test o p n found false f g = g refl

skip : (c : ℕ → Bool) (n : ℕ) (ns : List ℕ) → (IsIn n c → ⊥) → first_in c (n ∷ ns) ≡ first_in c ns
skip c n ns out = let e : c n ≡ false = false_from_ne_true (c n) out in rw e refl

pub one_left : (n m : ℕ) (s t u : ℕ → Bool) → n ≡ m → IsLeft n s t → IsLeft m s u → t ≡ u
one_left n m s t u e f g = fun_ext (λ l. same_test (t l) (u l)
    (λ h. let k = (f l).0 h in (g l).1 (k.0, λ z. k.1 (z ∙ sym e)))
    (λ h. let k = (g l).0 h in (f l).1 (k.0, λ z. k.1 (z ∙ e))))

module _ (o : OpenNet) (net : IsOpenNet o) where
  abbrev Some_of : (ℕ → Bool) → (ℕ → Bool) → Type 0
  Some_of p s = AreComponents o (In p) (In s)

  -- the first node of the order in some components
  first_or_none : (s rest : ℕ → Bool) (ns : List ℕ) → IsOrder o s ns rest → (p : ℕ → Bool) → Some_of p s → IsFirstOrNone o p (first_in p ns)
  first_or_none s _ _ (ends _ h) p c = λ n here k. h n (c.inside n here) (splits_larger o p s n c here k)
  first_or_none s rest _ (takes _ t _ n ns f left later) p c =
      by_test o p n (first_in p ns) (p n) (λ here. first_of_components o p s n c here f)
      (λ out. first_or_none t rest ns later p (left_other o p s t n left c out))

  -- what is left and still to be taken once n, the first node of p, is taken
  record After (p : ℕ → Bool) (n : ℕ) (ns : List ℕ) (rest : ℕ → Bool) : Type 0 where
    now : ℕ → Bool
    later : List ℕ
    order : IsOrder o now later rest
    out : IsIn n now → ⊥
    closed : AreComponents o (Without n p) (In now)
    same : (c : ℕ → Bool) → ((m : ℕ) → IsIn m c → Without n p m) → first_in c ns ≡ first_in c later

  after : (s rest : ℕ → Bool) (ns : List ℕ) → IsOrder o s ns rest → (p : ℕ → Bool) (n : ℕ) → Some_of p s → IsFirstToSplit o n p → After p n ns rest
  after s _ _ (ends _ h) p n c f = absurd (h n (c.inside n f.here) (splits_larger o p s n c f.here f.splits))
  after s rest _ (takes _ t _ m ns f left later) p n c g = elim (cases_Bool (p m)) [
    | inl here ↦ subst (λ z. After p z (m ∷ ns) rest) (one_first o net p m n (first_of_components o p s m c here f) g) (record {
      now = t;
      later = ns;
      order = later;
      out = λ h. ((left m).0 h).1 refl;
      closed = left_both o p s t m left c;
      same = λ d inside. skip d m ns (λ h. (inside m h).1 refl);
    })
    | inr out ↦
        let r = after t rest ns later p n (left_other o p s t m left c out) g in
        record {
          now = r.now;
          later = r.later;
          order = r.order;
          out = r.out;
          closed = r.closed;
          same = λ d inside. skip d m ns (λ h. not_both (p m) (inside m h).0 out) ∙ r.same d inside;
        }
  ]

  -- p has some components of what is left at some time, and no node of it is taken before
  record AtTime (p : ℕ → Bool) (ns : List ℕ) (rest : ℕ → Bool) : Type 0 where
    now : ℕ → Bool
    later : List ℕ
    order : IsOrder o now later rest
    closed : Some_of p now
    same : (c : ℕ → Bool) → ((m : ℕ) → IsIn m c → IsIn m p) → first_in c ns ≡ first_in c later

  part_after : (p c : ℕ → Bool) (n : ℕ) (ns : List ℕ) (rest : ℕ → Bool) → IsPart o n p c → After p n ns rest → AtTime c ns rest
  part_after p c n ns rest h a =
      let some = part_of o n p c h in
      record {
        now = a.now;
        later = a.later;
        order = a.order;
        closed = of_components o (In c) (Without n p) (In a.now) some a.closed;
        same = λ d inside. a.same d (λ m k. some.inside m (inside m k));
      }

  at_time : (s rest : ℕ → Bool) (ns : List ℕ) → IsOrder o s ns rest → (p : ℕ → Bool) → IsMet o s p → AtTime p ns rest
  at_time s rest ns h _ (itself _) = record { now = s; later = ns; order = h; closed = all_of o s; same = λ c inside. refl }
  at_time s rest ns h c (piece _ p _ n met f k) =
      let a = at_time s rest ns h p met in
      let b = part_after p c n a.later rest k (after a.now rest a.later a.order p n a.closed f) in
      let some = part_of o n p c k in
      record { now = b.now; later = b.later; order = b.order; closed = b.closed; same = λ d inside. a.same d (λ m g. (some.inside m (inside m g)).0) ∙ b.same d inside }

  pub for_all_parts : (s rest : ℕ → Bool) (ns : List ℕ) → IsOrder o s ns rest → (p : ℕ → Bool) → IsMet o s p → IsFirstOrNone o p (first_in p ns)
  for_all_parts s rest ns h p met =
      let a = at_time s rest ns h p met in
      subst (λ z. IsFirstOrNone o p z) (sym (a.same p (λ m k. k))) (first_or_none a.now rest a.later a.order p a.closed)

  -- ---- one order

  pub one_order : (s r t : ℕ → Bool) (ns ms : List ℕ) → IsOrder o s ns r → IsOrder o s ms t → (ns ≡ ms) × (r ≡ t)
  one_order s _ _ _ _ (ends _ h) (ends _ k) = (refl, refl)
  one_order s _ t _ _ (ends _ h) (takes _ u _ n ns f left k) = absurd (h n f.here f.splits)
  one_order s r _ _ _ (takes _ u _ n ns f left h) (ends _ k) = absurd (k n f.here f.splits)
  one_order s r t _ _ (takes _ u _ n ns f left h) (takes _ v _ m ms g left' k) =
      let e = one_first o net s n m f g in
      let q = one_order u r t ns ms h (subst (λ z. IsOrder o z ms t) (sym (one_left n m s u v e left left')) k) in
      (ap (λ z. z ∷ ns) e ∙ ap (λ z. m ∷ z) q.0, q.1)

  -- ---- all taken

  inside : (s rest : ℕ → Bool) (ns : List ℕ) → IsOrder o s ns rest → (m : ℕ) → IsIn m rest → IsIn m s
  inside s _ _ (ends _ h) m k = k
  inside s rest _ (takes _ t _ n ns f left later) m k = ((left m).0 (inside t rest ns later m k)).0

  abbrev AllSplit : (ℕ → Bool) → Type 0
  AllSplit s = Splits (open_graph o) (λ m n. m < n) s

  -- a part that splits has no node that is left
  none_left : (p : ℕ → Bool) → AllSplit p → AreNodes o p → (s rest : ℕ → Bool) (ns : List ℕ) → IsOrder o s ns rest → Some_of p s → (m : ℕ) → IsIn m p → IsIn m rest → ⊥
  none_left _ (none p e) nodes s rest ns h c m here k = not_both (p m) here (e m)
  none_left _ (first p n f each) nodes s rest ns h c m here k =
      let a = after s rest ns h p n c f in
      elim (same_nat m n) [
        | inl e ↦ a.out (inside a.now rest a.later a.order n (subst (λ z. IsIn z rest) e k))
        | inr d ↦
            let d_part = is_component o net p nodes n m (here, d) in
            let b = part_after p (component o net p nodes n m) n ns rest d_part a in
            none_left (component o net p nodes n m) (each (component o net p nodes n m) d_part)
            (λ l g. nodes l ((part_of o n p (component o net p nodes n m) d_part).inside l g).0)
            b.now rest b.later b.order b.closed m (test_yes (linked o net p nodes n m m) (alone m (here, d))) k
      ]

  -- if none is left, each part splits
  all_split : (s rest : ℕ → Bool) (ns : List ℕ) → IsOrder o s ns rest → ((n : ℕ) → rest n ≡ false) → (p : ℕ → Bool) → Some_of p s → AllSplit p
  all_split s _ _ (ends _ h) empty p c = none p (λ n. false_from_ne_true (p n) (λ k. not_both (s n) (c.inside n k) (empty n)))
  all_split s rest _ (takes _ t _ n ns f left later) empty p c = elim (cases_Bool (p n)) [
    | inl here ↦ first p n (first_of_components o p s n c here f) (λ d k. all_split t rest ns later empty d
        (of_components o (In d) (Without n p) (In t) (part_of o n p d k) (left_both o p s t n left c)))
    | inr out ↦ all_split t rest ns later empty p (left_other o p s t n left c out)
  ]

  pub splits_taken : (s rest : ℕ → Bool) (ns : List ℕ) → AreNodes o s → IsOrder o s ns rest → AllSplit s ↔ ((n : ℕ) → rest n ≡ false)
  splits_taken s rest ns nodes h = (
    (λ all n. false_from_ne_true (rest n) (λ k. none_left s all nodes s rest ns h (all_of o s) n (inside s rest ns h n k) k)),
    λ empty. all_split s rest ns h empty s (all_of o s),
  )

  -- ---- the first stuck sub-net

  -- components that no node splits are components of what is left
  stays : (s rest : ℕ → Bool) (ns : List ℕ) → IsOrder o s ns rest → (p : ℕ → Bool) → Some_of p s → NoNodeSplits o p → Some_of p rest
  stays s _ _ (ends _ h) p c stuck = c
  stays s rest _ (takes _ t _ n ns f left later) p c stuck = elim (cases_Bool (p n)) [
    | inl here ↦ absurd (stuck n here (first_of_components o p s n c here f).splits)
    | inr out ↦ stays t rest ns later p (left_other o p s t n left c out) stuck
  ]

  -- a part is a component of what is left, if it stays
  still_component : (p c : ℕ → Bool) (n : ℕ) (rest : ℕ → Bool) → IsPart o n p c → Some_of c rest → IsComponent (open_graph o) (In rest) c
  still_component p c n rest h some =
      let kept = part_of o n p c h in
      let start = (h.2 h.0).1 (alone h.0 h.1) in (
        h.0,
        some.inside h.0 start,
        λ k. (
          (λ u. link_map (open_graph o) (In c) (In rest) some.inside h.0 k (link_within o (In c) (Without n p) kept h.0 k start ((h.2 k).0 u))),
          λ u. (h.2 k).1 (link_map (open_graph o) (In c) (Without n p) kept.inside h.0 k (link_within o (In c) (In rest) some h.0 k start u)),
        ),
      )

  stuck_component : (p t : ℕ → Bool) → FirstStuck o p t → (q : ℕ → Bool) (n : ℕ) → IsPart o n q p → (s rest : ℕ → Bool) (ns : List ℕ) → IsOrder o s ns rest → Some_of p s → IsComponent (open_graph o) (In rest) t
  stuck_component p _ (whole _ h) q n k s rest ns order c = still_component q p n rest k (stays s rest ns order p c h.1)
  stuck_component p t (within _ m d _ _ f k comes before later) q n _ s rest ns order c =
      let a = part_after p d m ns rest k (after s rest ns order p m c f) in
      stuck_component d t later p m k a.now rest a.later a.order a.closed

  pub stuck_left : (s rest t : ℕ → Bool) (ns : List ℕ) → IsOrder o s ns rest → FirstStuck o s t → (t ≡ rest) ⊎ IsComponent (open_graph o) (In rest) t
  stuck_left s rest _ ns h (whole _ k) =
      let some = stays s rest ns h s (all_of o s) k.1 in
      inl (fun_ext (λ m. same_test (s m) (rest m) (some.inside m) (inside s rest ns h m)))
  stuck_left s rest t ns h (within _ m d _ _ f k comes before later) =
      let a = part_after s d m ns rest k (after s rest ns h s m (all_of o s) f) in
      inr (stuck_component d t later s m k a.now rest a.later a.order a.closed)
