-- Bags that have cells, and the cells of them that are given back.
use Rattle.std.proofs.Common.{◌≡◌, ◌⊎◌, inl, inr, ◌≤◌, ◌<◌, ◌+◌, ℕ, cond, List, [], ◌∷◌, ◌++◌, length, All, refl, sym, ap, subst, ◌∙◌, arith}
use Rattle.std.proofs.lemmas.List.Elements.{All-append, All-cons, All-head, All-tail}
use Rattle.std.proofs.lemmas.List.Sums.{sum_by-append}
use Rattle.in_arena.specs.Arenas.{ArenaView, NoneLeased, state_at}
use Rattle.in_arena.specs.Bags.{IsBagOf, IsInBag, AreOfOne}
use Rattle.in_arena.specs.States.{State, Vacant, Leased, Live, IsLeased}
use Rattle.in_compile.specs.Stocks.{Regains}
use Rattle.in_rounds.specs.Holding.{is_own, holders, AreBagsOf, HaveAllLeased, Returns}

-- ---- the number of bags that have a cell

pub holders-append : (n : ℕ) (bs cs : List ArenaView) → holders n (bs ++ cs) ≡ holders n bs + holders n cs
holders-append n bs cs = sum_by-append (λ c. cond (is_own (state_at c n)) 1 0) bs cs

pub holders-cons : (n : ℕ) (b : ArenaView) (bs : List ArenaView) → holders n (b ∷ bs) ≡ holders n (b ∷ []) + holders n bs
holders-cons n b bs = holders-append n (b ∷ []) bs

-- a bag has a cell once, or not
pub data InOrOut (b : ArenaView) (n : ℕ) : Type 0 where
  IsHere : IsInBag b n → holders n (b ∷ []) ≡ 1 → InOrOut b n
  IsOut : state_at b n ≡ Leased → holders n (b ∷ []) ≡ 0 → InOrOut b n

pub in_or_out : (b : ArenaView) (n : ℕ) → InOrOut b n
in_or_out b n = go (state_at b n) refl
  where
    go : (x : State) → state_at b n ≡ x → InOrOut b n
    go Vacant e = IsHere (λ leased. subst IsLeased e leased) (let h = ap (λ y. cond {A = ℕ} (is_own y) 1 0) e in omega (arith, h))
    go Leased e = IsOut e (let h = ap (λ y. cond {A = ℕ} (is_own y) 1 0) e in omega (arith, h))
    go (Live w es) e = IsHere (λ leased. subst IsLeased e leased) (let h = ap (λ y. cond {A = ℕ} (is_own y) 1 0) e in omega (arith, h))

pub in_one : (b : ArenaView) (n : ℕ) → IsInBag b n → holders n (b ∷ []) ≡ 1
in_one b n in_it = elim (in_or_out b n) [ IsHere h one ↦ one | IsOut out none ↦ absurd (in_it (subst IsLeased (sym out) tt)) ]

pub out_of_one : (b : ArenaView) (n : ℕ) → state_at b n ≡ Leased → holders n (b ∷ []) ≡ 0
out_of_one b n out = elim (in_or_out b n) [ IsHere h one ↦ absurd (h (subst IsLeased (sym out) tt)) | IsOut e none ↦ none ]

-- a cell that some bag has
pub holder_of : (P : ArenaView → Type 0) (n : ℕ) (bs : List ArenaView) → 0 < holders n bs → All P bs → (b : ArenaView) × P b × IsInBag b n
holder_of P n [] some all = absurd (omega (arith, some))
holder_of P n (b ∷ bs) some all = go (in_or_out b n) (λ more. holder_of P n bs more (All-tail P b bs all))
  where
    go : InOrOut b n → (0 < holders n bs → (c : ArenaView) × P c × IsInBag c n) → (c : ArenaView) × P c × IsInBag c n
    go (IsHere h one) rest = (b, All-head P b bs all, h)
    go (IsOut e none) rest = rest (let split = holders-cons n b bs in omega (arith, some, split, none))

pub leased_of : (bs : List ArenaView) (a : ArenaView) (n : ℕ) → AreBagsOf bs a → 0 < holders n bs → state_at a n ≡ Leased
leased_of bs a n of some = let b = holder_of (λ b. IsBagOf b a) n bs some of.each in b.1.leased n b.2

-- ---- the bags of an arena

-- bags of its memory that have no other cells than bags of the arena had
pub each_of : (a : ArenaView) (cs : List ArenaView) → All (AreOfOne a) cs → ((n : ℕ) → 0 < holders n cs → state_at a n ≡ Leased) → All (λ b. IsBagOf b a) cs
each_of a [] one leased = λ i d lt. absurd (omega (arith, lt))
each_of a (c ∷ cs) one leased =
    let here = All-head (AreOfOne a) c cs one in
    All-cons (λ b. IsBagOf b a) c cs
    (record {
      memory = here.0;
      cells = here.1;
      leased = λ n in_it. let split = holders-cons n c cs in let one = in_one c n in_it in leased n (omega (arith, split, one));
    })
    (each_of a cs (All-tail (AreOfOne a) c cs one) (λ n some. let split = holders-cons n c cs in leased n (omega (arith, some, split))))

pub are_bags_by : (bs cs : List ArenaView) (a : ArenaView) → AreBagsOf bs a → All (AreOfOne a) cs → ((n : ℕ) → holders n cs ≤ holders n bs) → AreBagsOf cs a
are_bags_by bs cs a of one fewer = record {
  each = each_of a cs one (λ n some. let f = fewer n in leased_of bs a n of (omega (arith, some, f)));
  once = λ n. let f = fewer n in let o = of.once n in omega (arith, f, o);
}

one_of : (bs : List ArenaView) (a : ArenaView) → All (λ b. IsBagOf b a) bs → All (AreOfOne a) bs
one_of [] a all = λ i d lt. absurd (omega (arith, lt))
one_of (b ∷ bs) a all = let here = All-head (λ b. IsBagOf b a) b bs all in All-cons (AreOfOne a) b bs (here.memory, here.cells) (one_of bs a (All-tail (λ b. IsBagOf b a) b bs all))

pub bags_are_of_one : (bs : List ArenaView) (a : ArenaView) → AreBagsOf bs a → All (AreOfOne a) bs
bags_are_of_one bs a of = one_of bs a of.each

pub rest_are_bags : (b : ArenaView) (bs : List ArenaView) (a : ArenaView) → AreBagsOf (b ∷ bs) a → AreBagsOf bs a
rest_are_bags b bs a of =
    are_bags_by (b ∷ bs) bs a of (All-tail (AreOfOne a) b bs (bags_are_of_one (b ∷ bs) a of)) (λ n. let split = holders-cons n b bs in omega (arith, split))

pub first_is_bag : (b : ArenaView) (bs : List ArenaView) (a : ArenaView) → AreBagsOf (b ∷ bs) a → IsBagOf b a
first_is_bag b bs a of = All-head (λ b. IsBagOf b a) b bs of.each

pub no_bags : (a : ArenaView) → AreBagsOf [] a
no_bags a = record { each = λ i d lt. absurd (omega (arith, lt)); once = λ n. omega arith }

all_left : (P : ArenaView → Type 0) (bs cs : List ArenaView) → All P (bs ++ cs) → All P bs
all_left P [] cs all = λ i d lt. absurd (omega (arith, lt))
all_left P (b ∷ bs) cs all = All-cons P b bs (All-head P b (bs ++ cs) all) (all_left P bs cs (All-tail P b (bs ++ cs) all))

all_right : (P : ArenaView → Type 0) (bs cs : List ArenaView) → All P (bs ++ cs) → All P cs
all_right P [] cs all = all
all_right P (b ∷ bs) cs all = all_right P bs cs (All-tail P b (bs ++ cs) all)

pub front_are_bags : (bs cs : List ArenaView) (a : ArenaView) → AreBagsOf (bs ++ cs) a → AreBagsOf bs a
front_are_bags bs cs a of = are_bags_by (bs ++ cs) bs a of (all_left (AreOfOne a) bs cs (bags_are_of_one (bs ++ cs) a of)) (λ n. let split = holders-append n bs cs in omega (arith, split))

pub end_are_bags : (bs cs : List ArenaView) (a : ArenaView) → AreBagsOf (bs ++ cs) a → AreBagsOf cs a
end_are_bags bs cs a of = are_bags_by (bs ++ cs) cs a of (all_right (AreOfOne a) bs cs (bags_are_of_one (bs ++ cs) a of)) (λ n. let split = holders-append n bs cs in omega (arith, split))

-- a bag between others goes to the front
pub holders-first : (n : ℕ) (bs cs : List ArenaView) (b : ArenaView) → holders n (b ∷ (bs ++ cs)) ≡ holders n ((bs ++ b ∷ []) ++ cs)
holders-first n bs cs b =
    let first = holders-cons n b (bs ++ cs) in
    let others = holders-append n bs cs in
    let whole = holders-append n (bs ++ b ∷ []) cs in
    let front = holders-append n bs (b ∷ []) in
    omega (arith, first, others, whole, front)

pub first_are_bags : (bs cs : List ArenaView) (b a : ArenaView) → AreBagsOf ((bs ++ b ∷ []) ++ cs) a → AreBagsOf (b ∷ (bs ++ cs)) a
first_are_bags bs cs b a of =
    let one = bags_are_of_one ((bs ++ b ∷ []) ++ cs) a of in
    let front = all_left (AreOfOne a) (bs ++ b ∷ []) cs one in
    are_bags_by ((bs ++ b ∷ []) ++ cs) (b ∷ (bs ++ cs)) a of
    (All-cons (AreOfOne a) b (bs ++ cs) (All-head (AreOfOne a) b [] (all_right (AreOfOne a) bs (b ∷ []) front))
    (All-append (AreOfOne a) bs cs (all_left (AreOfOne a) bs (b ∷ []) front) (all_right (AreOfOne a) (bs ++ b ∷ []) cs one)))
    (λ n. let e = holders-first n bs cs b in omega (arith, e))

-- ---- cells that are given back

pub none_returned : (bs cs : List ArenaView) (a : ArenaView) → ((n : ℕ) → holders n cs ≡ holders n bs) → Returns bs cs a a
none_returned bs cs a same = record {
  memory = refl;
  cells = refl;
  count = refl;
  fewer = λ n. let e = same n in omega (arith, e);
  free = λ n lt. absurd (let e = same n in omega (arith, e, lt));
  others = λ n e. refl;
}

pub returns_by : (bs cs bs' cs' : List ArenaView) (a a' : ArenaView) → ((n : ℕ) → holders n bs' ≡ holders n bs) → ((n : ℕ) → holders n cs' ≡ holders n cs) → Returns bs cs a a' → Returns bs' cs' a a'
returns_by bs cs bs' cs' a a' before after r = record {
  memory = r.memory;
  cells = r.cells;
  count = r.count;
  fewer = λ n. let e = before n in let f = after n in let g = r.fewer n in omega (arith, e, f, g);
  free = λ n lt. let e = before n in let f = after n in r.free n (omega (arith, e, f, lt));
  others = λ n same. let e = before n in let f = after n in r.others n (omega (arith, e, f, same));
}

-- other bags stay
pub returns_beside : (ds bs cs : List ArenaView) (a a' : ArenaView) → Returns bs cs a a' → Returns (ds ++ bs) (ds ++ cs) a a'
returns_beside ds bs cs a a' r = record {
  memory = r.memory;
  cells = r.cells;
  count = r.count;
  fewer = λ n. let e = holders-append n ds bs in let f = holders-append n ds cs in let g = r.fewer n in omega (arith, e, f, g);
  free = λ n lt. let e = holders-append n ds bs in let f = holders-append n ds cs in r.free n (omega (arith, e, f, lt));
  others = λ n same. let e = holders-append n ds bs in let f = holders-append n ds cs in r.others n (omega (arith, e, f, same));
}

pub fewer_or_same : (m n : ℕ) → m ≤ n → (m < n) ⊎ (m ≡ n)
fewer_or_same m n le = grind arith

module _ (bs cs ds : List ArenaView) (a a' a'' : ArenaView) (r : Returns bs cs a a') (s : Returns cs ds a' a'') where
  free_by : (n : ℕ) → (holders n ds < holders n cs) ⊎ (holders n ds ≡ holders n cs) → holders n ds < holders n bs → state_at a'' n ≡ Vacant
  free_by n (inl lt) less = s.free n lt
  free_by n (inr e) less = s.others n e ∙ r.free n (omega (arith, e, less))

  pub returns_both : Returns bs ds a a''
  returns_both = record {
    memory = s.memory ∙ r.memory;
    cells = s.cells ∙ r.cells;
    count = s.count ∙ r.count;
    fewer = λ n. let f = r.fewer n in let g = s.fewer n in omega (arith, f, g);
    free = λ n lt. free_by n (fewer_or_same (holders n ds) (holders n cs) (s.fewer n)) lt;
    others = λ n e.
        let f = r.fewer n in let g = s.fewer n in
        s.others n (omega (arith, e, f, g)) ∙ r.others n (omega (arith, e, f, g));
  }

-- the cells of one bag
module _ (b : ArenaView) (bs : List ArenaView) (a a' : ArenaView) (back : Regains (λ _. Vacant) a b a') where
  free_one : (n : ℕ) → InOrOut b n → holders n bs < holders n (b ∷ bs) → state_at a' n ≡ Vacant
  free_one n (IsHere h one) lt = back.back n h
  free_one n (IsOut e none) lt = absurd (let split = holders-cons n b bs in omega (arith, split, none, lt))

  others_one : (n : ℕ) → InOrOut b n → holders n bs ≡ holders n (b ∷ bs) → state_at a' n ≡ state_at a n
  others_one n (IsHere h one) e = absurd (let split = holders-cons n b bs in omega (arith, split, one, e))
  others_one n (IsOut out none) e = back.others n out

  pub one_returned : Returns (b ∷ bs) bs a a'
  one_returned = record {
    memory = back.memory;
    cells = back.cells;
    count = back.count;
    fewer = λ n. let split = holders-cons n b bs in omega (arith, split);
    free = λ n lt. free_one n (in_or_out b n) lt;
    others = λ n e. others_one n (in_or_out b n) e;
  }

pub of_one_by : (a a' : ArenaView) (cs : List ArenaView) → a'.memory ≡ a.memory → a'.cells ≡ a.cells → All (AreOfOne a) cs → All (AreOfOne a') cs
of_one_by a a' [] memory cells all = λ i d lt. absurd (omega (arith, lt))
of_one_by a a' (c ∷ cs) memory cells all =
    let here = All-head (AreOfOne a) c cs all in
    All-cons (AreOfOne a') c cs (here.0 ∙ sym memory, here.1 ∙ sym cells) (of_one_by a a' cs memory cells (All-tail (AreOfOne a) c cs all))

-- bags that are left are of the arena
pub left_are_bags : (bs cs : List ArenaView) (a a' : ArenaView) → AreBagsOf bs a → All (AreOfOne a) cs → Returns bs cs a a' → AreBagsOf cs a'
left_are_bags bs cs a a' of one r = record {
  each = each_of a' cs (of_one_by a a' cs r.memory r.cells one) (λ n some. let f = r.fewer n in let o = of.once n in r.others n (omega (arith, f, o, some)) ∙ leased_of bs a n of (omega (arith, some, f)));
  once = λ n. let f = r.fewer n in let o = of.once n in omega (arith, f, o);
}

-- .. also with other bags
pub beside_are_bags : (ds bs cs : List ArenaView) (a a' : ArenaView) → AreBagsOf (ds ++ bs) a → Returns bs cs a a' → AreBagsOf cs a' → AreBagsOf (ds ++ cs) a'
beside_are_bags ds bs cs a a' of r left =
    left_are_bags (ds ++ bs) (ds ++ cs) a a' of
    (All-append (AreOfOne a) ds cs (all_left (AreOfOne a) ds bs (bags_are_of_one (ds ++ bs) a of)) (of_one_by a' a cs (sym r.memory) (sym r.cells) (bags_are_of_one cs a' left)))
    (returns_beside ds bs cs a a' r)

-- .. and if each leased cell was in one of them, each still is
pub left_have_all : (bs cs : List ArenaView) (a a' : ArenaView) → HaveAllLeased bs a → All (AreOfOne a) cs → Returns bs cs a a' → HaveAllLeased cs a'
left_have_all bs cs a a' have one r = record {
  bags = left_are_bags bs cs a a' have.bags one r;
  all = λ n lt leased. go n lt leased (fewer_or_same (holders n cs) (holders n bs) (r.fewer n));
}
  where
    go : (n : ℕ) → n < length a'.states → IsLeased (state_at a' n) → (holders n cs < holders n bs) ⊎ (holders n cs ≡ holders n bs) → holders n cs ≡ 1
    go n lt leased (inl less) = absurd (subst IsLeased (r.free n less) leased)
    go n lt leased (inr e) = e ∙ have.all n (let c = r.count in omega (arith, lt, c)) (subst IsLeased (r.others n e) leased)

-- the first bag is given back
pub one_less : (b : ArenaView) (bs : List ArenaView) (a a' : ArenaView) → HaveAllLeased (b ∷ bs) a → Regains (λ _. Vacant) a b a' → HaveAllLeased bs a'
one_less b bs a a' have back =
    left_have_all (b ∷ bs) bs a a' have (bags_are_of_one bs a (rest_are_bags b bs a have.bags)) (one_returned b bs a a' back)

-- bags with the same cells
pub same_have_all : (bs cs : List ArenaView) (a : ArenaView) → HaveAllLeased bs a → All (AreOfOne a) cs → ((n : ℕ) → holders n cs ≡ holders n bs) → HaveAllLeased cs a
same_have_all bs cs a have one same = left_have_all bs cs a a have one (none_returned bs cs a same)

pub none_leased_by : (a : ArenaView) → HaveAllLeased [] a → NoneLeased a
none_leased_by a have = λ n lt leased. let one : 0 ≡ 1 = have.all n lt leased in omega (arith, one)

pub all_leased_by : (a : ArenaView) → NoneLeased a → HaveAllLeased [] a
all_leased_by a none = record { bags = no_bags a; all = λ n lt leased. absurd (none n lt leased) }
