-- The cells that the workers have together once they are back, and those on lease once the results are gathered.
use Rattle.std.proofs.Common.{◌≡◌, ◌⊎◌, inl, inr, ◌<◌, ℕ, zero, suc, List, [], ◌∷◌, ◌++◌, length, replicate, All, Some, refl, sym, ap, ◌∙◌, subst, arith}
use Rattle.std.specs.List.{AllZip}
use Rattle.std.proofs.lemmas.List.{append-nil}
use Rattle.std.proofs.lemmas.List.Elements.{All-append, All-cons, All-head, All-map, All-nil, All-tail, All-weaker}
use Rattle.in_arena.specs.Arenas.{ArenaView, NoneLeased, state_at}
use Rattle.in_arena.specs.Bags.{AreOfOne}
use Rattle.in_arena.specs.States.{IsLeased}
use Rattle.in_compile.specs.Templates.{TemplatesParts}
use Rattle.in_rounds.specs.Dones.{DoneParts}
use Rattle.in_rounds.specs.Gathers.{bags_of}
use Rattle.in_rounds.specs.Holding.{AreBagsOf, HaveAllLeased, Returns, holders}
use Rattle.in_rounds.specs.declared.gather.JobState.{JobState}
use Rattle.in_rounds.specs.declared.gather.JobState.TheVariants.{Fresh, Kept}
use Rattle.in_rounds.proofs.Holding.{are_bags_by, bags_are_of_one, fewer_or_same, holders-append}
use Rattle.in_rounds.proofs.Placing.{one_of_one}
use Rattle.in_rounds.specs.Bringing.{in_hand, in_hands, AreMadeWith, IsHandMadeWith, HandsAreMadeWith}
use Rattle.in_rounds.specs.Lending.{AreLentOut}
use Rattle.in_rounds.specs.Plans.{PlanParts}
use Rattle.in_rounds.specs.Works.{IsDoneJob, IsWorked, bags}
use Rattle.in_rounds.specs.declared.hand.Hand.{Hand}
use Rattle.in_rounds.proofs.Lent.{in_hands-append}
use Rattle.in_rounds.proofs.Threading.{last_of, all_but_last}

-- ---- one worker

module _ (plan : PlanParts) (p q : Hand) (w : IsWorked plan p q) (none : p.done.items ≡ []) where
  all_its_own : q.done.items ≡ w.works.more
  all_its_own = w.works.list ∙ ap (λ (ds : List DoneParts). ds ++ w.works.more) none

  hand_count : (n : ℕ) → holders n (in_hand q) ≡ holders n (in_hand p)
  hand_count n = ap (λ ds. holders n (q.stock.bag ∷ bags ds)) all_its_own ∙ w.works.cells n ∙ ap (λ ds. holders n (p.stock.bag ∷ bags ds)) (sym none)

  hand_of_one : (a : ArenaView) → AreOfOne a p.stock.bag → All (AreOfOne a) (in_hand q)
  hand_of_one a one =
      All-cons (AreOfOne a) q.stock.bag (bags q.done.items) (one_of_one a p.stock.bag q.stock.bag one w.works.one.0)
      (subst (λ ds. All (AreOfOne a) (bags ds)) (sym all_its_own)
      (All-map (AreOfOne a) (λ (d : DoneParts). d.placed.placed.bag) w.works.more
      (All-weaker (λ (d : DoneParts). AreOfOne p.stock.bag d.placed.placed.bag) (λ (d : DoneParts). AreOfOne a d.placed.placed.bag) (λ d of. one_of_one a p.stock.bag d.placed.placed.bag one of) w.works.more w.works.one.1)))

  made_with : IsHandMadeWith plan.templates q
  made_with = subst (All (λ (d : DoneParts). d.templates ≡ plan.templates)) (sym all_its_own) (All-weaker (IsDoneJob plan) (λ (d : DoneParts). d.templates ≡ plan.templates) (λ d is. is.templates) w.works.more w.works.each)

-- ---- all

abbrev HaveNone : List Hand → Type 0
HaveNone ps = All (λ (p : Hand). p.done.items ≡ []) ps

pub hands_count : (plan : PlanParts) (ps qs : List Hand) (n : ℕ) → AllZip (IsWorked plan) ps qs → HaveNone ps → holders n (in_hands qs) ≡ holders n (in_hands ps)
hands_count plan [] [] n all none = refl
hands_count plan [] (q ∷ qs) n all none = absurd all
hands_count plan (p ∷ ps) [] n all none = absurd all
hands_count plan (p ∷ ps) (q ∷ qs) n all none =
    let first = hand_count plan p q all.0 (All-head (λ (p : Hand). p.done.items ≡ []) p ps none) n in
    let rest = hands_count plan ps qs n all.1 (All-tail (λ (p : Hand). p.done.items ≡ []) p ps none) in
    let new = holders-append n (in_hand q) (in_hands qs) in
    let old = holders-append n (in_hand p) (in_hands ps) in
    omega (arith, first, rest, new, old)

pub hands_of_one : (plan : PlanParts) (ps qs : List Hand) (a : ArenaView) → AllZip (IsWorked plan) ps qs → HaveNone ps → All (λ (p : Hand). AreOfOne a p.stock.bag) ps → All (AreOfOne a) (in_hands qs)
hands_of_one plan [] [] a all none one = All-nil (AreOfOne a)
hands_of_one plan [] (q ∷ qs) a all none one = absurd all
hands_of_one plan (p ∷ ps) [] a all none one = absurd all
hands_of_one plan (p ∷ ps) (q ∷ qs) a all none one =
    All-append (AreOfOne a) (in_hand q) (in_hands qs)
    (hand_of_one plan p q all.0 (All-head (λ (p : Hand). p.done.items ≡ []) p ps none) a (All-head (λ (p : Hand). AreOfOne a p.stock.bag) p ps one))
    (hands_of_one plan ps qs a all.1 (All-tail (λ (p : Hand). p.done.items ≡ []) p ps none) (All-tail (λ (p : Hand). AreOfOne a p.stock.bag) p ps one))

pub parts_made_with : (plan : PlanParts) (ps qs : List Hand) → AllZip (IsWorked plan) ps qs → HaveNone ps → HandsAreMadeWith plan.templates qs
parts_made_with plan [] [] all none = All-nil (IsHandMadeWith plan.templates)
parts_made_with plan [] (q ∷ qs) all none = absurd all
parts_made_with plan (p ∷ ps) [] all none = absurd all
parts_made_with plan (p ∷ ps) (q ∷ qs) all none =
    All-cons (IsHandMadeWith plan.templates) q qs
    (made_with plan p q all.0 (All-head (λ (p : Hand). p.done.items ≡ []) p ps none))
    (parts_made_with plan ps qs all.1 (All-tail (λ (p : Hand). p.done.items ≡ []) p ps none))

stocks_of_one : (a : ArenaView) (ps : List Hand) → All (AreOfOne a) (in_hands ps) → All (λ (p : Hand). AreOfOne a p.stock.bag) ps
stocks_of_one a [] one = All-nil (λ (p : Hand). AreOfOne a p.stock.bag)
stocks_of_one a (p ∷ ps) one =
    All-cons (λ (p : Hand). AreOfOne a p.stock.bag) p ps (All-head (AreOfOne a) p.stock.bag (bags p.done.items ++ in_hands ps) one)
    (stocks_of_one a ps (rest (bags p.done.items) (All-tail (AreOfOne a) p.stock.bag (bags p.done.items ++ in_hands ps) one)))
  where
    rest : (bs : List ArenaView) → All (AreOfOne a) (bs ++ in_hands ps) → All (AreOfOne a) (in_hands ps)
    rest [] all = all
    rest (b ∷ bs) all = rest bs (All-tail (AreOfOne a) b (bs ++ in_hands ps) all)

-- ---- the gather

pub none_kept : (n : ℕ) → bags_of (replicate n Fresh) ≡ []
none_kept zero = refl
none_kept (suc n) = none_kept n

pub none_made : (ts : TemplatesParts) (n : ℕ) → AreMadeWith ts (replicate n Fresh)
none_made ts zero k d at = cc
none_made ts (suc n) zero d at = absurd (let e : Some Fresh ≡ Some (Kept d) = at in cc)
none_made ts (suc n) (suc k) d at = none_made ts n k d at

-- the workers' hands, of which the caller's was the last, have the cells that were lent
module _ (plan : PlanParts) (lent others results : List Hand) (mine : Hand) (split : lent ≡ others ++ mine ∷ []) (all : AllZip (IsWorked plan) (mine ∷ others) results) (none : HaveNone lent) (slots : List JobState) (fresh : (k : ℕ) × (slots ≡ replicate k Fresh)) (a a' : ArenaView) (out : AreLentOut (in_hands lent) a a') where
  none_first : HaveNone (mine ∷ others)
  none_first = first (λ (p : Hand). p.done.items ≡ []) lent others mine split none
    where
      first : (P : Hand → Type 0) (ps qs : List Hand) (p : Hand) → ps ≡ qs ++ p ∷ [] → All P ps → All P (p ∷ qs)
      first P ps qs p e all = All-cons P p qs (last_of P ps qs p e all) (all_but_last P ps qs p e all)

  pub made : HandsAreMadeWith plan.templates results
  made = parts_made_with plan (mine ∷ others) results all none_first

  no_bags_kept : bags_of slots ≡ []
  no_bags_kept = ap bags_of fresh.1 ∙ none_kept fresh.0

  pub same_count : (n : ℕ) → holders n (in_hands results ++ bags_of slots) ≡ holders n (in_hands lent)
  same_count n =
      let back = hands_count plan (mine ∷ others) results n all none_first in
      let cons = holders-append n (in_hand mine) (in_hands others) in
      let was = ap (λ ps. holders n (in_hands ps)) split ∙ ap (holders n) (in_hands-append others (mine ∷ [])) ∙ holders-append n (in_hands others) (in_hand mine ++ []) in
      let last = ap (holders n) (append-nil (in_hand mine)) in
      let now = ap (λ bs. holders n (in_hands results ++ bs)) no_bags_kept ∙ ap (holders n) (append-nil (in_hands results)) in
      omega (arith, back, cons, was, last, now)

  pub are_bags : AreBagsOf (in_hands results ++ bags_of slots) a'
  are_bags =
      let one = stocks_of_one a' lent (bags_are_of_one (in_hands lent) a' out.bags) in
      let mine_first = All-cons (λ (p : Hand). AreOfOne a' p.stock.bag) mine others (last_of (λ (p : Hand). AreOfOne a' p.stock.bag) lent others mine split one) (all_but_last (λ (p : Hand). AreOfOne a' p.stock.bag) lent others mine split one) in
      are_bags_by (in_hands lent) (in_hands results ++ bags_of slots) a' out.bags
      (subst (λ bs. All (AreOfOne a') (in_hands results ++ bs)) (sym no_bags_kept) (subst (All (AreOfOne a')) (sym (append-nil (in_hands results))) (hands_of_one plan (mine ∷ others) results a' all none_first mine_first)))
      (λ n. let e = same_count n in omega (arith, e))

-- ---- the cells lent out in the end

module _ (bs cs ds : List ArenaView) (a a' a'' : ArenaView) (out : AreLentOut bs a a') (same : (n : ℕ) → holders n cs ≡ holders n bs) (back : Returns cs ds a' a'') (left : AreBagsOf ds a'') where
  one_by : (n : ℕ) → holders n ds ≡ 1 → holders n bs ≡ 1
  one_by n e = let f = back.fewer n in let g = same n in let o = out.bags.once n in omega (arith, e, f, g, o)

  others_by : (n : ℕ) → (holders n ds < holders n cs) ⊎ (holders n ds ≡ holders n cs) → holders n ds ≡ 0 → state_at a'' n ≡ state_at a n
  others_by n (inl less) e = back.free n less ∙ sym (out.free n (let g = same n in let o = out.bags.once n in omega (arith, less, e, g, o)))
  others_by n (inr equal) e = back.others n equal ∙ out.others n (let g = same n in omega (arith, equal, e, g))

  pub lent_back : AreLentOut ds a a''
  lent_back = record {
    memory = back.memory ∙ out.memory;
    cells = back.cells ∙ out.cells;
    count = back.count ∙ out.count;
    bags = left;
    free = λ n e. out.free n (one_by n e);
    others = λ n e. others_by n (fewer_or_same (holders n ds) (holders n cs) (back.fewer n)) e;
  }

-- .. and if no cell was on lease before, all leased cells are in these bags
pub lent_have_all : (bs : List ArenaView) (a a' : ArenaView) → NoneLeased a → AreLentOut bs a a' → HaveAllLeased bs a'
lent_have_all bs a a' whole out = record { bags = out.bags; all = λ n inside leased. go n inside leased (fewer_or_same (holders n bs) 1 (out.bags.once n)) }
  where
    go : (n : ℕ) → n < length a'.states → IsLeased (state_at a' n) → (holders n bs < 1) ⊎ (holders n bs ≡ 1) → holders n bs ≡ 1
    go n inside leased (inl less) =
        absurd (whole n (let c = out.count in omega (arith, inside, c)) (subst IsLeased (out.others n (omega (arith, less))) leased))
    go n inside leased (inr one) = one
