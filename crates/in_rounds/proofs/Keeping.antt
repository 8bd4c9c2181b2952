-- The bags of the kept results, as one is put, taken or given back.
use Rattle.std.proofs.Common.{◌≡◌, ◌+◌, ℕ, zero, suc, List, [], ◌∷◌, ◌++◌, Option, Some, Ok, slice_get, set, All, refl, sym, ap, subst, ◌∙◌, arith}
use Rattle.std.specs.Option.{option_to_list}
use Rattle.std.proofs.lemmas.List.{append-nil}
use Rattle.std.proofs.lemmas.List.Elements.{All-cons, All-head, All-pop, All-tail}
use Rattle.in_arena.specs.Arenas.{ArenaView}
use Rattle.in_arena.specs.Bags.{AreOfOne, IsBagOf}
use Rattle.in_arena.specs.States.{Vacant}
use Rattle.in_compile.specs.Stocks.{Regains}
use Rattle.in_rounds.specs.Dones.{DoneParts}
use Rattle.in_rounds.specs.Gathers.{GatherParts, Puts, TakesDone, bags_of}
use Rattle.in_rounds.specs.Holding.{holders, AreBagsOf, HaveAllLeased, Returns}
use Rattle.in_rounds.specs.declared.gather.JobState.{JobState}
use Rattle.in_rounds.specs.declared.gather.JobState.TheVariants.{Fresh, Kept, Taken}
use Rattle.in_rounds.proofs.Holding.{same_have_all, holders-append, holders-cons, bags_are_of_one, first_is_bag, rest_are_bags, left_are_bags, one_returned, returns_by, returns_both}

pub bags_of-append : (xs ys : List JobState) → bags_of (xs ++ ys) ≡ bags_of xs ++ bags_of ys
bags_of-append [] ys = refl
bags_of-append (Fresh ∷ xs) ys = bags_of-append xs ys
bags_of-append (Kept d ∷ xs) ys = ap (λ bs. d.placed.placed.bag ∷ bs) (bags_of-append xs ys)
bags_of-append (Taken ∷ xs) ys = bags_of-append xs ys

-- a result that is put for a job without one
pub put_holders : (n : ℕ) (slots : List JobState) (j : ℕ) (d : DoneParts) → slice_get slots j ≡ Some Fresh → holders n (bags_of (set slots j (Kept d))) ≡ holders n (d.placed.placed.bag ∷ []) + holders n (bags_of slots)
put_holders n [] j d at = cc
put_holders n (Fresh ∷ slots) zero d at = holders-cons n d.placed.placed.bag (bags_of slots)
put_holders n (Kept e ∷ slots) zero d at = absurd (let f : Some (Kept e) ≡ Some Fresh = at in cc)
put_holders n (Taken ∷ slots) zero d at = absurd (let f : Some Taken ≡ Some Fresh = at in cc)
put_holders n (Fresh ∷ slots) (suc j) d at = put_holders n slots j d at
put_holders n (Kept e ∷ slots) (suc j) d at =
    let rest = put_holders n slots j d at in
    let new = holders-cons n e.placed.placed.bag (bags_of (set slots j (Kept d))) in
    let old = holders-cons n e.placed.placed.bag (bags_of slots) in
    omega (arith, rest, new, old)
put_holders n (Taken ∷ slots) (suc j) d at = put_holders n slots j d at

pub put_all : (P : ArenaView → Type 0) (slots : List JobState) (j : ℕ) (d : DoneParts) → P d.placed.placed.bag → All P (bags_of slots) → All P (bags_of (set slots j (Kept d)))
put_all P [] j d one all = all
put_all P (Fresh ∷ slots) zero d one all = All-cons P d.placed.placed.bag (bags_of slots) one all
put_all P (Kept e ∷ slots) zero d one all = All-cons P d.placed.placed.bag (bags_of slots) one (All-tail P e.placed.placed.bag (bags_of slots) all)
put_all P (Taken ∷ slots) zero d one all = All-cons P d.placed.placed.bag (bags_of slots) one all
put_all P (Fresh ∷ slots) (suc j) d one all = put_all P slots j d one all
put_all P (Kept e ∷ slots) (suc j) d one all =
    All-cons P e.placed.placed.bag (bags_of (set slots j (Kept d))) (All-head P e.placed.placed.bag (bags_of slots) all) (put_all P slots j d one (All-tail P e.placed.placed.bag (bags_of slots) all))
put_all P (Taken ∷ slots) (suc j) d one all = put_all P slots j d one all

-- a result that is taken
pub take_holders : (n : ℕ) (slots : List JobState) (j : ℕ) (d : DoneParts) → slice_get slots j ≡ Some (Kept d) → holders n (bags_of slots) ≡ holders n (d.placed.placed.bag ∷ []) + holders n (bags_of (set slots j Taken))
take_holders n [] j d at = cc
take_holders n (Fresh ∷ slots) zero d at = absurd (let f : Some Fresh ≡ Some (Kept d) = at in cc)
take_holders n (Kept e ∷ slots) zero d at =
    let same : e ≡ d = (let f : Some (Kept e) ≡ Some (Kept d) = at in cc) in
    subst (λ (z : DoneParts). holders n (e.placed.placed.bag ∷ bags_of slots) ≡ holders n (z.placed.placed.bag ∷ []) + holders n (bags_of slots)) same (holders-cons n e.placed.placed.bag (bags_of slots))
take_holders n (Taken ∷ slots) zero d at = absurd (let f : Some Taken ≡ Some (Kept d) = at in cc)
take_holders n (Fresh ∷ slots) (suc j) d at = take_holders n slots j d at
take_holders n (Kept e ∷ slots) (suc j) d at =
    let rest = take_holders n slots j d at in
    let new = holders-cons n e.placed.placed.bag (bags_of (set slots j Taken)) in
    let old = holders-cons n e.placed.placed.bag (bags_of slots) in
    omega (arith, rest, new, old)
take_holders n (Taken ∷ slots) (suc j) d at = take_holders n slots j d at

pub take_all : (P : ArenaView → Type 0) (slots : List JobState) (j : ℕ) (d : DoneParts) → slice_get slots j ≡ Some (Kept d) → All P (bags_of slots) → P d.placed.placed.bag × All P (bags_of (set slots j Taken))
take_all P [] j d at all = cc
take_all P (Fresh ∷ slots) zero d at all = absurd (let f : Some Fresh ≡ Some (Kept d) = at in cc)
take_all P (Kept e ∷ slots) zero d at all =
    let same : e ≡ d = (let f : Some (Kept e) ≡ Some (Kept d) = at in cc) in
    (subst (λ (z : DoneParts). P z.placed.placed.bag) same (All-head P e.placed.placed.bag (bags_of slots) all), All-tail P e.placed.placed.bag (bags_of slots) all)
take_all P (Taken ∷ slots) zero d at all = absurd (let f : Some Taken ≡ Some (Kept d) = at in cc)
take_all P (Fresh ∷ slots) (suc j) d at all = take_all P slots j d at all
take_all P (Kept e ∷ slots) (suc j) d at all =
    let rest = take_all P slots j d at (All-tail P e.placed.placed.bag (bags_of slots) all) in
    (rest.0, All-cons P e.placed.placed.bag (bags_of (set slots j Taken)) (All-head P e.placed.placed.bag (bags_of slots) all) rest.1)
take_all P (Taken ∷ slots) (suc j) d at all = take_all P slots j d at all

-- if each leased cell was kept or in hand, it still is after a result is taken
pub taken_have_all : (d : DoneParts) (g h : GatherParts) (job : ℕ) (a : ArenaView) → HaveAllLeased (bags_of g.slots) a → TakesDone g job (Some d) h → HaveAllLeased (d.placed.placed.bag ∷ bags_of h.slots) a
taken_have_all d g h job a have takes =
    let bag = d.placed.placed.bag in
    let slots = ap (λ (z : GatherParts). z.slots) takes.1 in
    let parts = take_all (AreOfOne a) g.slots job d takes.0 (bags_are_of_one (bags_of g.slots) a have.bags) in
    same_have_all (bags_of g.slots) (bag ∷ bags_of h.slots) a have (All-cons (AreOfOne a) bag (bags_of h.slots) parts.0 (subst (λ (z : List JobState). All (AreOfOne a) (bags_of z)) (sym slots) parts.1))
    (λ n.
    let take = take_holders n g.slots job d takes.0 in
    let now = ap (λ (z : List JobState). holders n (bags_of z)) slots in
    let first = holders-cons n bag (bags_of h.slots) in
    omega (arith, take, now, first))

-- .. and once it is put
pub put_have_all : (d : DoneParts) (g h : GatherParts) (u : Unit {0}) (a : ArenaView) → HaveAllLeased (d.placed.placed.bag ∷ bags_of g.slots) a → Puts g d (Ok u) h → HaveAllLeased (bags_of h.slots) a
put_have_all d g h u a have puts =
    let bag = d.placed.placed.bag in
    let slots = ap (λ (z : GatherParts). z.slots) puts.2 in
    let one = bags_are_of_one (bag ∷ bags_of g.slots) a have.bags in
    same_have_all (bag ∷ bags_of g.slots) (bags_of h.slots) a have
    (subst (λ (z : List JobState). All (AreOfOne a) (bags_of z)) (sym slots) (put_all (AreOfOne a) g.slots d.job d (All-head (AreOfOne a) bag (bags_of g.slots) one) (All-tail (AreOfOne a) bag (bags_of g.slots) one)))
    (λ n.
    let put = ap (λ (z : List JobState). holders n (bags_of z)) slots ∙ put_holders n g.slots d.job d puts.1 in
    let first = holders-cons n bag (bags_of g.slots) in
    omega (arith, put, first))

-- ---- the last slot

pub last_slot : (slots rest : List JobState) (popped : Option JobState) (s t : JobState) → slots ≡ rest ++ option_to_list popped → popped ≡ Some s → s ≡ t → slots ≡ rest ++ t ∷ []
last_slot slots rest popped s t split some is = split ∙ ap (λ r. rest ++ option_to_list r) some ∙ ap (λ (z : JobState). rest ++ z ∷ []) is

module _ (slots rest : List JobState) (d : DoneParts) (split : slots ≡ rest ++ Kept d ∷ []) where
  pub last_holders : (n : ℕ) → holders n (d.placed.placed.bag ∷ bags_of rest) ≡ holders n (bags_of slots)
  last_holders n =
      let whole = ap (λ zs. holders n (bags_of zs)) split ∙ ap (holders n) (bags_of-append rest (Kept d ∷ [])) ∙ holders-append n (bags_of rest) (d.placed.placed.bag ∷ []) in
      let parts = holders-cons n d.placed.placed.bag (bags_of rest) in
      omega (arith, whole, parts)

  last_each : (P : ArenaView → Type 0) → All P (bags_of slots) → All P (d.placed.placed.bag ∷ bags_of rest)
  last_each P all =
      let whole : bags_of slots ≡ bags_of rest ++ d.placed.placed.bag ∷ [] = ap bags_of split ∙ bags_of-append rest (Kept d ∷ []) in
      let both = All-pop P (bags_of slots) (bags_of rest) (Some d.placed.placed.bag) whole all in
      All-cons P d.placed.placed.bag (bags_of rest) both.1 both.0

  -- the last one first
  pub last_first : (a : ArenaView) → AreBagsOf (bags_of slots) a → AreBagsOf (d.placed.placed.bag ∷ bags_of rest) a
  last_first a of = record {
    each = last_each (λ b. IsBagOf b a) of.each;
    once = λ n. let e = last_holders n in let o = of.once n in omega (arith, e, o);
  }

pub last_is_bag : (a : ArenaView) (slots rest : List JobState) (d : DoneParts) → slots ≡ rest ++ Kept d ∷ [] → AreBagsOf (bags_of slots) a → IsBagOf d.placed.placed.bag a
last_is_bag a slots rest d split of = first_is_bag d.placed.placed.bag (bags_of rest) a (last_first slots rest d split a of)

pub last_returned : (a b b' : ArenaView) (all slots rest : List JobState) (d : DoneParts) → slots ≡ rest ++ Kept d ∷ [] → AreBagsOf (bags_of slots) b → Returns (bags_of all) (bags_of slots) a b → Regains (λ _. Vacant) b d.placed.placed.bag b'
    → AreBagsOf (bags_of rest) b' × Returns (bags_of all) (bags_of rest) a b'
last_returned a b b' all slots rest d split of before back =
    let bag = d.placed.placed.bag in
    let now = last_first slots rest d split b of in
    let one = one_returned bag (bags_of rest) b b' back in
    let step = returns_by (bag ∷ bags_of rest) (bags_of rest) (bags_of slots) (bags_of rest) b b' (λ n. sym (last_holders slots rest d split n)) (λ n. refl) one in (
      left_are_bags (bag ∷ bags_of rest) (bags_of rest) b b' now (bags_are_of_one (bags_of rest) b (rest_are_bags bag (bags_of rest) b now)) one,
      returns_both (bags_of all) (bags_of slots) (bags_of rest) a b b' before step,
    )

none_in : (s : JobState) → ((d : DoneParts) → s ≡ Kept d → ⊥) → bags_of (s ∷ []) ≡ []
none_in Fresh other = refl
none_in (Kept d) other = absurd (other d refl)
none_in Taken other = refl

pub none_kept : (a b : ArenaView) (all slots rest : List JobState) (s : JobState) → slots ≡ rest ++ s ∷ [] → ((d : DoneParts) → s ≡ Kept d → ⊥) → AreBagsOf (bags_of slots) b → Returns (bags_of all) (bags_of slots) a b
    → AreBagsOf (bags_of rest) b × Returns (bags_of all) (bags_of rest) a b
none_kept a b all slots rest s split other of before =
    let same : bags_of slots ≡ bags_of rest = ap bags_of split ∙ bags_of-append rest (s ∷ []) ∙ ap (λ bs. bags_of rest ++ bs) (none_in s other) ∙ append-nil (bags_of rest) in
    (subst (λ bs. AreBagsOf bs b) same of, subst (λ bs. Returns (bags_of all) bs a b) same before)
