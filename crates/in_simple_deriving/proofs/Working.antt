-- The procedure's tasks decide which sub-net is the first stuck one, and grow fewer.
use Rattle.std.proofs.Common.{◌≡◌, ◌⊎◌, ◌<◌, ◌≤◌, ℕ, suc, Bool, true, false, ◌||◌, List, [], ◌∷◌, ◌++◌, length, refl, sym, subst, ap, inl, inr, ◌∙◌, arith}
use Rattle.in_simple_deriving.specs.declared.plans.StackStep.{StackStep}
use Rattle.in_simple_deriving.specs.declared.plans.Task.{Task}
use Rattle.in_simple_deriving.specs.declared.plans.Task.TheVariants.{Derive, Make}
use Rattle.in_open_nets.specs.Constructions.{IsIn}
use Rattle.in_open_nets.specs.Splitting.{alone, Without, IsFirstSplitting, first}
use Rattle.in_open_nets.specs.OpenNets.{OpenNet, IsOpenNet, IsDerivable, open_graph}
use Rattle.in_open_nets.specs.Stuck.{IsPart, ComesAt, FirstStuck, IsFirstStuck, whole, within}
use Rattle.in_open_nets.specs.Members.{nodes_in}
use Rattle.in_simple_deriving.specs.Procedure.{AllSplit, HasNoTurn, Lists, AreSizedTasks, AreMakes, StuckIn, pending_in, AreTasksApart, ArePieces, IsWork, StartsWork, PassesSteps}
use Rattle.in_open_nets.specs.Parts.{IsFirst, NoneSplits}
use Rattle.in_simple_deriving.specs.Turns.{HeadedPart}
use Rattle.in_open_nets.proofs.Public.{not_both, same_nat, at_most, link_first, link_back, component_piece, missing_none, in_length, count}
use Rattle.in_open_nets.proofs.Public.{count_less, comes_at, one_turn, turn_same, meet_same, without, derivable_splits, one_first_stuck}
use Rattle.in_simple_deriving.proofs.Planning.{sized_more}
use Rattle.std.proofs.lemmas.Bool.{or_cases, or_left, or_right, or_from, false_from_ne_true}

-- ---- steps alone

pub makes_more : (ts : List Task) (x : StackStep) → AreMakes ts → AreMakes (ts ++ Make x ∷ [])
makes_more [] x h = tt
makes_more (Derive c ∷ ts) x h = h
makes_more (Make y ∷ ts) x h = makes_more ts x h

makes_stuck : (o : OpenNet) (ts : List Task) (t : ℕ → Bool) → AreMakes ts → StuckIn o ts t → ⊥
makes_stuck o [] t h s = s
makes_stuck o (Derive c ∷ ts) t h s = h
makes_stuck o (Make y ∷ ts) t h s = makes_stuck o ts t h s

makes_sized : (o : OpenNet) (ts : List Task) → AreMakes ts → AreSizedTasks o ts
makes_sized o [] h = tt
makes_sized o (Derive c ∷ ts) h = absurd h
makes_sized o (Make y ∷ ts) h = makes_sized o ts h

makes_apart : (ts : List Task) → AreMakes ts → AreTasksApart ts
makes_apart [] h = tt
makes_apart (Derive c ∷ ts) h = absurd h
makes_apart (Make y ∷ ts) h = makes_apart ts h

makes_pieces : (o : OpenNet) (ts : List Task) → AreMakes ts → ArePieces o ts
makes_pieces o [] h = tt
makes_pieces o (Derive c ∷ ts) h = absurd h
makes_pieces o (Make y ∷ ts) h = makes_pieces o ts h

makes_none : (ts : List Task) → AreMakes ts → (m : ℕ) → pending_in ts m ≡ false
makes_none [] h m = refl
makes_none (Derive c ∷ ts) h m = absurd h
makes_none (Make y ∷ ts) h m = makes_none ts h m

empty_work : (o : OpenNet) (ts : List Task) → length o.nodes ≡ 0 → AreMakes ts → IsWork o ts
empty_work o ts e h = record {
  sized = makes_sized o ts h;
  apart = makes_apart ts h;
  pieces = makes_pieces o ts h;
  whole = λ m. false;
  nodes = λ n. ((λ k. absurd (not_both false k refl)), λ k. absurd (omega arith));
  stuck = λ t s. absurd (makes_stuck o ts t h s);
}

pub start_work : (o : OpenNet) (ts : List Task) → StartsWork o ts → IsWork o ts
start_work o [] h = empty_work o [] h tt
start_work o (Make x ∷ ts) h = empty_work o (Make x ∷ ts) h.0 h.1
start_work o (Derive c ∷ ts) h = record {
  sized = (h.0, (0, h.2 0 h.1), makes_sized o ts h.3);
  apart = ((λ m k g. not_both (pending_in ts m) g (makes_none ts h.3 m)), makes_apart ts h.3);
  pieces = ((λ some. let none = missing_none c.nodes (λ m l. let size = h.0.1 in h.2 m (omega arith)) in absurd (omega arith)), makes_pieces o ts h.3);
  whole = nodes_in c.nodes;
  nodes = λ n. ((λ k. let a = in_length c.nodes n k in let b = h.0.1 in omega arith), h.2 n);
  stuck = λ t s. elim s [ inl f ↦ f | inr f ↦ absurd (makes_stuck o ts t h.3 f.1) ];
}

pub pass_same : (a : List Task) → PassesSteps a a
pass_same a = ((λ o h. h), λ m. refl)

pub pass_make : (a b : List Task) (x : StackStep) → PassesSteps a (Make x ∷ b) → PassesSteps a b
pass_make a b x h = ((λ o w. go o (h.0 o w)), h.1)
  where
    go : (o : OpenNet) → IsWork o (Make x ∷ b) → IsWork o b
    go o w = record { sized = w.sized; apart = w.apart; pieces = w.pieces; whole = w.whole; nodes = w.nodes; stuck = w.stuck }

-- ---- a part that a node splits

module _ (o : OpenNet) (net : IsOpenNet o) where
  pending_app : (ps ts : List Task) (m : ℕ) → pending_in (ps ++ ts) m ≡ (pending_in ps m || pending_in ts m)
  pending_app [] ts m = refl
  pending_app (Derive c ∷ ps) ts m = ap (λ z. nodes_in c.nodes m || z) (pending_app ps ts m) ∙ or_or (nodes_in c.nodes m) (pending_in ps m) (pending_in ts m)
    where
      or_or : (a b c : Bool) → (a || (b || c)) ≡ ((a || b) || c)
      or_or true b c = refl
      or_or false b c = refl
  pending_app (Make x ∷ ps) ts m = pending_app ps ts m

  module _ (n : ℕ) (s : ℕ → Bool) (in_net : (m : ℕ) → IsIn m s → m < length o.nodes) where
    inside : (d : ℕ → Bool) → IsPart o n s d → (m : ℕ) → IsIn m d → Without n s m
    inside d part m h = link_first (open_graph o) (Without n s) m part.0 (link_back o (Without n s) (without o net s in_net n) part.0 m ((part.2 m).0 h))

    pending_part : (low : ℕ) (ps : List Task) → Lists o n s low ps → (m : ℕ) → IsIn m (pending_in ps) → (d : ℕ → Bool) × (l : ℕ) × IsPart o n s d × ComesAt o n d l × (low ≤ l) × IsIn m d
    pending_part low [] h m g = absurd (not_both false g refl)
    pending_part low (Derive c ∷ ps) h m g = elim (or_cases (nodes_in c.nodes m) (pending_in ps m) g) [
      | inl k ↦ (nodes_in c.nodes, h.0, h.2, h.3, h.1, k)
      | inr k ↦ let x = pending_part (suc h.0) ps h.5 m k in let a = h.1 in let b = x.4 in (x.0, x.1, x.2, x.3, omega arith, x.5)
    ]
    pending_part low (Make x ∷ ps) h m g = pending_part low ps h m g

    apart_more : (low : ℕ) (ps ts : List Task) → Lists o n s low ps → AreTasksApart ts → ((m : ℕ) → IsIn m s → IsIn m (pending_in ts) → ⊥) → AreTasksApart (ps ++ ts)
    apart_more low [] ts h a off = a
    apart_more low (Make x ∷ ps) ts h a off = apart_more low ps ts h a off
    apart_more low (Derive c ∷ ps) ts h a off = (
      (λ m k g. elim (or_cases (pending_in ps m) (pending_in ts m) (sym (pending_app ps ts m) ∙ g)) [
        | inl u ↦
            let x = pending_part (suc h.0) ps h.5 m u in
            let e = meet_same o net s in_net n (nodes_in c.nodes) x.0 h.2 x.2 m k x.5 in
            let f = one_turn o net s in_net n x.0 h.0 x.1 (subst (λ z. ComesAt o n z h.0) e h.3) x.3 in
            let l = x.4 in
            omega arith
        | inr u ↦ off m (inside (nodes_in c.nodes) h.2 m k).0 u
      ]),
      apart_more (suc h.0) ps ts h.5 a off,
    )

    -- the components are in one piece each
    pieces_more : (low : ℕ) (ps ts : List Task) → Lists o n s low ps → ArePieces o ts → ArePieces o (ps ++ ts)
    pieces_more low [] ts h a = a
    pieces_more low (Make x ∷ ps) ts h a = pieces_more low ps ts h a
    pieces_more low (Derive c ∷ ps) ts h a = ((λ some. component_piece o (Without n s) (without o net s in_net n) c.nodes h.2), pieces_more (suc h.0) ps ts h.5 a)

    module _ (f : IsFirstSplitting (open_graph o) (λ m n. m < n) n s) where
      abbrev SplitBefore : ℕ → Type 0
      SplitBefore low = (d : ℕ → Bool) (l : ℕ) → IsPart o n s d → ComesAt o n d l → l < low → AllSplit o d

      all_parts : (low : ℕ) → SplitBefore low → Lists o n s low [] → AllSplit o s
      all_parts low before h = first s n f (λ c part.
          let here = (part.2 part.0).1 (alone part.0 part.1) in
          let q = comes_at o net s in_net n c part.0 here (in_net part.0 part.1.0) in
          elim (at_most low q.0) [ inl l ↦ absurd (h c q.0 part q.1 l) | inr l ↦ before c q.0 part q.1 l ])

      before_more : (low : ℕ) (c : HeadedPart) (k : ℕ) → SplitBefore low → IsPart o n s (nodes_in c.nodes) → ComesAt o n (nodes_in c.nodes) k → HasNoTurn o n s low k → AllSplit o (nodes_in c.nodes) → SplitBefore (suc k)
      before_more low c k before part comes off split d l part' comes' less = elim (same_nat l k) [
        | inl e ↦ subst (AllSplit o) (turn_same o net s in_net n (nodes_in c.nodes) d part part' k comes (subst (λ z. ComesAt o n d z) e comes')) split
        | inr d' ↦ elim (at_most low l) [ inl u ↦ absurd (off d l part' comes' u (omega arith)) | inr u ↦ before d l part' comes' u ]
      ]

      stuck_more : (low : ℕ) (ps ts : List Task) → SplitBefore low → Lists o n s low ps → (t : ℕ → Bool) → StuckIn o (ps ++ ts) t → FirstStuck o s t ⊎ (AllSplit o s × StuckIn o ts t)
      stuck_more low [] ts before h t g = inr (all_parts low before h, g)
      stuck_more low (Make x ∷ ps) ts before h t g = stuck_more low ps ts before h t g
      stuck_more low (Derive c ∷ ps) ts before h t (inl g) =
          inl (within s n (nodes_in c.nodes) h.0 t f h.2 h.3 (λ d l part comes less. elim (at_most low l) [ inl u ↦ absurd (h.4 d l part comes u less) | inr u ↦ before d l part comes u ]) g)
      stuck_more low (Derive c ∷ ps) ts before h t (inr g) =
          stuck_more (suc h.0) ps ts (before_more low c h.0 before h.2 h.3 h.4 g.0) h.5 t g.1

  part_in_net : (part : HeadedPart) (ts : List Task) → IsWork o (Derive part ∷ ts) → (m : ℕ) → IsIn m (nodes_in part.nodes) → m < length o.nodes
  part_in_net part ts w m h = let a = in_length part.nodes m h in let b = w.sized.0.1 in omega arith

  pub expand_work : (part : HeadedPart) (n : ℕ) (ps ts : List Task) → IsWork o (Derive part ∷ ts) → IsFirst o part.nodes n → Lists o n (nodes_in part.nodes) 0 ps → AreSizedTasks o ps → IsWork o (ps ++ ts)
  expand_work part n ps ts w f h sized = record {
    sized = sized_more o ps ts sized w.sized.2;
    apart = apart_more n (nodes_in part.nodes) (part_in_net part ts w) 0 ps ts h w.apart.1 w.apart.0;
    pieces = pieces_more n (nodes_in part.nodes) (part_in_net part ts w) 0 ps ts h w.pieces.1;
    whole = w.whole;
    nodes = w.nodes;
    stuck = λ t s. w.stuck t (stuck_more n (nodes_in part.nodes) (part_in_net part ts w) f 0 ps ts (λ d l p c e. absurd (omega arith)) h t s);
  }

  pub expand_fewer : (part : HeadedPart) (n : ℕ) (ps ts : List Task) → IsWork o (Derive part ∷ ts) → IsFirst o part.nodes n → Lists o n (nodes_in part.nodes) 0 ps → count (pending_in (ps ++ ts)) (length o.nodes) < count (pending_in (Derive part ∷ ts)) (length o.nodes)
  expand_fewer part n ps ts w f h = count_less (pending_in (Derive part ∷ ts)) (pending_in (ps ++ ts)) kept n (or_left (nodes_in part.nodes n) (pending_in ts n) f.here) gone (length o.nodes) (part_in_net part ts w n f.here)
    where
      kept : (m : ℕ) → IsIn m (pending_in (ps ++ ts)) → IsIn m (pending_in (Derive part ∷ ts))
      kept m g = elim (or_cases (pending_in ps m) (pending_in ts m) (sym (pending_app ps ts m) ∙ g)) [
        | inl u ↦
            let x = pending_part n (nodes_in part.nodes) (part_in_net part ts w) 0 ps h m u in
            or_left (nodes_in part.nodes m) (pending_in ts m) (inside n (nodes_in part.nodes) (part_in_net part ts w) x.0 x.2 m x.5).0
        | inr u ↦ or_right (nodes_in part.nodes m) (pending_in ts m) u
      ]

      gone : pending_in (ps ++ ts) n ≡ false
      gone = pending_app ps ts n ∙ or_from (pending_in ps n) (pending_in ts n)
          (false_from_ne_true (pending_in ps n) (λ u. let x = pending_part n (nodes_in part.nodes) (part_in_net part ts w) 0 ps h n u in (inside n (nodes_in part.nodes) (part_in_net part ts w) x.0 x.2 n x.5).1 refl))
          (false_from_ne_true (pending_in ts n) (λ u. w.apart.0 n f.here u))

  pub stuck_first : (part : HeadedPart) (ts : List Task) → IsWork o (Derive part ∷ ts) → NoneSplits o part.nodes (length o.nodes) → IsFirstStuck o (nodes_in part.nodes)
  stuck_first part ts w h = (w.whole, w.nodes, w.stuck (nodes_in part.nodes) (inl (whole (nodes_in part.nodes) (w.sized.1, λ n k g. h n (part_in_net part ts w n k) (k, g)))))

  pub stuck_underivable : (t : ℕ → Bool) → IsFirstStuck o t → IsDerivable o → ⊥
  stuck_underivable t h d = (one_first_stuck o net t h).0 (derivable_splits o net d)
