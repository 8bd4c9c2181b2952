-- While the first pairs of a queue are taken in turn, those behind them stay as they are, and their cells stay free.
use Rattle.std.proofs.Common.{◌≡◌, ◌⊎◌, inl, inr, ◌<◌, ◌≤◌, ◌+◌, ℕ, zero, suc, Some, List, [], ◌∷◌, ◌++◌, length, map, drop, remove, slice_get, append_assoc, refl, sym, ap, subst, ◌∙◌, arith}
use Rattle.std.proofs.lemmas.List.{append-nil}
use Rattle.std.proofs.lemmas.Option.{slice_get_within}
use Rattle.in_base.proofs.Places.{kept_at}
use Rattle.in_arena.specs.declared.content.CellClass.{CellClass}
use Rattle.in_syntax.specs.declared.symbol_no.SymbolNo.{SymbolNo}
use Rattle.in_net.specs.Parts.{symbol_in}
use Rattle.in_check.specs.Plain.{IsRuleAt}
use Rattle.in_check.specs.Programs.{Program}
use Rattle.in_interaction.specs.Queues.{agents_at, numbers_of}
use Rattle.in_compile.specs.declared.cells.Need.{Need}
use Rattle.in_compile.specs.Cells.{count_of, IsNeedOf}
use Rattle.in_reducer.specs.Machines.{MachineParts, parts_of}
use Rattle.in_machine.specs.MachineLaws.{QueuesMoveUp}
use Rattle.in_machine.specs.Machines.{IsMachine}
use Rattle.in_machine.specs.Together.{NeedTogether, none, then_next, HasRoomFor}
use Rattle.in_reducer.specs.Steps.{NeedsAt, HasRoomAt, StepsAt}
use Rattle.in_reducer.specs.Runs.{Runs, at_start, then_step}
use Rattle.in_reducer.proofs.Public.{symbols_stay, takes_its_need}
use Rattle.in_machine.proofs.StepsOn.{as_reducer, machine_on}

-- ---- queues

first_removed : {X : Type 0} (xs : List X) (j : ℕ) (ys : List X) → j < length xs → remove (drop j xs ++ ys) 0 ≡ drop (suc j) xs ++ ys
first_removed [] zero ys l = absurd (omega (arith, l))
first_removed [] (suc j) ys l = absurd (omega (arith, l))
first_removed (x ∷ xs) zero ys l = refl
first_removed (x ∷ xs) (suc j) ys l = first_removed xs j ys (omega (arith, l))

first_of_rest : {X : Type 0} (xs : List X) (j : ℕ) (ys : List X) (x : X) → slice_get xs j ≡ Some x → slice_get (drop j xs ++ ys) 0 ≡ Some x
first_of_rest [] zero ys x e = cc
first_of_rest [] (suc j) ys x e = cc
first_of_rest (y ∷ xs) zero ys x e = e
first_of_rest (y ∷ xs) (suc j) ys x e = first_of_rest xs j ys x e

later_of_rest : {X : Type 0} (xs : List X) (j i : ℕ) (ys : List X) (x : X) → slice_get xs (j + i) ≡ Some x → slice_get (drop j xs ++ ys) i ≡ Some x
later_of_rest xs zero i ys x e = kept_at xs ys i x (ap (slice_get xs) (let z : i ≡ 0 + i = omega arith in z) ∙ e)
later_of_rest [] (suc j) i ys x e = cc
later_of_rest (y ∷ xs) (suc j) i ys x e = later_of_rest xs j i ys x (ap (slice_get (y ∷ xs)) (let z : suc (j + i) ≡ suc j + i = omega arith in z) ∙ e)

-- the pairs of an interaction, in their order
abbrev news : (n o : MachineParts) → StepsAt n 0 o → List (ℕ × ℕ)
news n o s = map numbers_of s.made

moves_up : (qs : List (ℕ × ℕ)) (j : ℕ) (new : List (ℕ × ℕ)) (n o : MachineParts) → n.queue ≡ drop j qs ++ new → (s : StepsAt n 0 o) → suc j ≤ length qs → o.queue ≡ drop (suc j) qs ++ (new ++ map numbers_of s.made)
moves_up qs j new n o e s l =
    s.queue ∙ ap (λ (z : List (ℕ × ℕ)). remove z 0 ++ news n o s) e ∙ ap (λ (z : List (ℕ × ℕ)). z ++ news n o s) (first_removed qs j new (omega (arith, l)))
    ∙ append_assoc (drop (suc j) qs) new (news n o s)

pub queues_move : QueuesMoveUp
queues_move m n zero (at_start _) l = ([], sym (append-nil m.queue), (λ o s k. moves_up m.queue 0 [] m o (sym (append-nil m.queue)) s k))
queues_move m o (suc j) (then_step _ n _ _ before s) l =
    let r = queues_move m n j before (omega (arith, l)) in
    let e = r.2 o s l in
    (r.0 ++ map numbers_of s.made, e, (λ v z k. moves_up m.queue (suc j) (r.0 ++ map numbers_of s.made) o v e z k))

-- ---- needs together

pub record NextOf (m : MachineParts) (j : ℕ) (sum : CellClass → ℕ) : Type 0 where
  pub sum_before : CellClass → ℕ
  pub before : NeedTogether m j sum_before
  pub need : Need
  pub needs : NeedsAt m j need
  pub fits : (c : CellClass) → sum_before c + count_of need c ≤ sum c

next_of : (m : MachineParts) (k : ℕ) (sum : CellClass → ℕ) → NeedTogether m k sum → (j : ℕ) → j < k → NextOf m j sum
next_of m zero _ (none) j l = absurd (omega (arith, l))
next_of m (suc k) _ (then_next _ s need before at) j l = elim (let c : (j < k) ⊎ (j ≡ k) = grind (arith, l) in c) [
  | inl less ↦ (
      let r = next_of m k s before j less in
      record { sum_before = r.sum_before; before = r.before; need = r.need; needs = r.needs; fits = λ c. (let a = r.fits c in omega (arith, a)) }
      )
  | inr same ↦ subst (λ (i : ℕ). NextOf m i (λ c. s c + count_of need c)) (sym same) (record { sum_before = s; before = before; need = need; needs = at; fits = λ c. omega arith })
]

within : (m : MachineParts) (k : ℕ) (sum : CellClass → ℕ) → NeedTogether m k sum → k ≤ length m.queue
within m zero _ (none) = omega arith
within m (suc k) _ (then_next _ s need before at) = let l = slice_get_within m.queue k at.pair at.stands in omega (arith, l)

-- ---- on the way

-- the pairs from this one on are still in the net
pub record StandsOn (m n : MachineParts) (j : ℕ) : Type 0 where
  pub program : n.program ≡ m.program
  pub machine : IsMachine n
  pub new : List (ℕ × ℕ)
  pub queue : n.queue ≡ drop j m.queue ++ new
  pub symbols : (i : ℕ) (q : ℕ × ℕ) (c d : SymbolNo) → slice_get m.queue (j + i) ≡ Some q → symbol_in (parts_of m) q.0 ≡ Some c → symbol_in (parts_of m) q.1 ≡ Some d → (symbol_in (parts_of n) q.0 ≡ Some c) × (symbol_in (parts_of n) q.1 ≡ Some d)

pub stands_on : (m n : MachineParts) (j : ℕ) → IsMachine m → Runs m j n → j ≤ length m.queue → StandsOn m n j
stands_on m n zero h (at_start _) l = record {
  program = refl;
  machine = h;
  new = [];
  queue = sym (append-nil m.queue);
  symbols = λ i q c d at one two. (one, two);
}
stands_on m o (suc j) h (then_step _ n _ _ before s) l =
    let r = stands_on m n j h before (omega (arith, l)) in
    record {
      program = s.step.program ∙ r.program;
      machine = machine_on n o 0 r.machine s;
      new = r.new ++ map numbers_of s.made;
      queue = moves_up m.queue j r.new n o r.queue s l;
      symbols = λ i q c d at one two. (
          let here : slice_get m.queue (j + suc i) ≡ Some q = ap (slice_get m.queue) (let z : j + suc i ≡ suc j + i = omega arith in z) ∙ at in
          let now = r.symbols (suc i) q c d here one two in
          let place : slice_get n.queue (suc i) ≡ Some q = ap (λ (z : List (ℕ × ℕ)). slice_get z (suc i)) r.queue ∙ later_of_rest m.queue j (suc i) r.new q here in
          symbols_stay n o (as_reducer n r.machine) s i q c d place now.0 now.1
          );
    }

-- the need of the next pair is the same at first and at its turn
need_lasts : (m n : MachineParts) (j : ℕ) → StandsOn m n j → (x : Need) → NeedsAt m j x → NeedsAt n 0 x
need_lasts m n j r x h =
    let here : slice_get m.queue (j + 0) ≡ Some h.pair = ap (slice_get m.queue) (let z : j + 0 ≡ j = omega arith in z) ∙ h.stands in
    let symbols = r.symbols 0 h.pair h.rule.heads.0 h.rule.heads.1 here h.is_rule.one h.is_rule.two in
    record {
      pair = h.pair;
      stands = ap (λ (z : List (ℕ × ℕ)). slice_get z 0) r.queue ∙ first_of_rest m.queue j r.new h.pair h.stands;
      number = h.number;
      rule = h.rule;
      is_rule = subst (λ (z : Program). IsRuleAt (record { program = z; net = parts_of n }) (agents_at h.pair).0 (agents_at h.pair).1 h.number h.rule) (sym r.program)
          (record { stands = h.is_rule.stands; over = h.is_rule.over; declared = h.is_rule.declared; one = symbols.0; two = symbols.1 });
      is_need = subst (λ (z : Program). IsNeedOf z.tables h.rule.member.cells x) (sym r.program) h.is_need;
    }

-- at most the cells that the pairs, now gone, needed together are gone
left_free : (m n : MachineParts) (j : ℕ) → IsMachine m → Runs m j n → (sum : CellClass → ℕ) → NeedTogether m j sum → (c : CellClass) → count_of m.vacant c ≤ count_of n.vacant c + sum c
left_free m n zero h (at_start _) sum together c = omega arith
left_free m o (suc j) h (then_step _ n _ _ before s) _ (then_next _ sum need rest at) c =
    let r = left_free m n j h before sum rest c in
    let l = slice_get_within m.queue j at.pair at.stands in
    let on = stands_on m n j h before (omega (arith, l)) in
    let step = takes_its_need n o 0 (as_reducer n on.machine) s need (need_lasts m n j on need at) c in
    omega (arith, r, step)

pub room_lasts : (m n : MachineParts) (j k : ℕ) → IsMachine m → HasRoomFor m k → Runs m j n → j < k → HasRoomAt n 0
room_lasts m n j k h (sum, together, enough) run less =
    let r = next_of m k sum together j less in
    let at = slice_get_within m.queue j r.needs.pair r.needs.stands in
    let on = stands_on m n j h run (omega (arith, at)) in
    (r.need, need_lasts m n j on r.need r.needs, λ c. (let free = left_free m n j h run r.sum_before r.before c in let a = r.fits c in let e = enough c in omega (arith, free, a, e)))
