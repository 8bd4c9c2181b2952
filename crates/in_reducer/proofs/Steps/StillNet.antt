-- After an interaction each live cell is of the class of its agent's symbol, and the cells on lease are those of before.
use Rattle.std.proofs.Common.{◌≡◌, ◌≢◌, ◌⊎◌, inl, inr, ◌<◌, ℕ, true, Some, None, List, length, get_or, refl, sym, ap, subst, ◌∙◌, get_or-set_same, get_or-set_other, arith}
use Rattle.std.proofs.Math.ListN.{get_or-map}
use Rattle.std.proofs.lemmas.List.{length-map, length-set}
use native.Mathlib.Decide.{ℕ_discrete}
use Rattle.std.proofs.lemmas.Bool.{cases_eq}
use Rattle.in_arena.specs.Arenas.{ArenaView, NoneLeased, changed, state_at}
use Rattle.in_arena.specs.Changes.{HasAllCells}
use Rattle.in_arena.specs.Classes.{IsNumberOf, all_of}
use Rattle.in_arena.specs.States.{State, Vacant, Leased, Live, IsLeased, IsLive, word_of}
use Rattle.in_arena.specs.declared.content.CellClass.{CellClass}
use Rattle.in_arena.specs.declared.content.CellCounts.{CellCounts}
use Rattle.in_arena.specs.declared.content.CellNo.{CellNo}
use Rattle.in_arena.proofs.Public.{state_inside, numbers_apart, live_in}
use Rattle.in_symbols.specs.Tables.{Tables}
use Rattle.in_net.specs.Built.{IsOver}
use Rattle.in_net.specs.Parts.{Parts}
use Rattle.in_cells.specs.Cells.{KeepsCells, outline}
use Rattle.in_cells.proofs.Public.{word_kept}
use Rattle.in_compile.specs.Cells.{is_of}
use Rattle.in_compile.specs.Members.{MemberParts, IsMemberOf}
use Rattle.in_reducer.specs.Wiring.{HasBegun}
use Rattle.in_reducer.specs.Placed.{IsNoneOf}
use Rattle.in_reducer.specs.Standing.{AreLeasedAlike, IsNetIn, at_rest}
use Rattle.in_reducer.proofs.Cells.AtRest as rest
use Rattle.in_reducer.proofs.Steps.Laid as laid
use Rattle.in_reducer.proofs.Steps.Laid.{in_or_out}

-- a live cell is of the class for its symbol
abbrev pub IsGood : Tables → ArenaView → ℕ → State → Type 0
IsGood t a n x = (c : CellClass) (s : ℕ) → IsNumberOf a.cells c n → word_of x ≡ Some s → is_of t c s ≡ true

pub net_in : (t : Tables) (a b : ArenaView) → HasAllCells (at_rest a) → b.cells ≡ a.cells → length b.states ≡ length a.states → ((n : ℕ) → IsGood t a n (state_at b n)) → IsNetIn t (at_rest b)
net_in t a b all cells many good = record {
  all = (let f = ap all_of cells in let g = rest.as_many a in let h = rest.as_many b in omega (arith, all, many, f, g, h));
  none = rest.none_at_rest b;
  classed = λ c n s at w. good n c s (subst (λ (z : CellCounts). IsNumberOf z c n) cells at) (sym (rest.word_at b n) ∙ w);
}

pub good_of : (t : Tables) (a : ArenaView) → IsNetIn t (at_rest a) → (n : ℕ) → IsGood t a n (state_at a n)
good_of t a h n c s at w = h.classed c n s at (rest.word_at a n ∙ w)

pub good_vacant : (t : Tables) (a : ArenaView) (n : ℕ) → IsGood t a n Vacant
good_vacant t a n c s at w = absurd (let f : None ≡ Some s = w in cc)

-- a retired cell, and others as they were
pub retired_good : (t : Tables) (a b : ArenaView) (y : ℕ) → length b.states ≡ length a.states → IsLive (state_at b y) → ((n : ℕ) → IsGood t a n (state_at b n)) → (n : ℕ) → IsGood t a n (state_at (changed b y Vacant) n)
retired_good t a b y many live good n = elim (ℕ_discrete n y) [
  | yes e ↦ subst (IsGood t a n) (sym (ap (state_at (changed b y Vacant)) e ∙ get_or-set_same b.states y Vacant Leased (state_inside b y (λ f. (subst IsLive f live))))) (good_vacant t a n)
  | no ne ↦ subst (IsGood t a n) (sym (get_or-set_other b.states y n Vacant Leased ne)) (good n)
]

module _ (t : Tables) (n : Parts) (over : IsOver t n) (m : MemberParts) (of : IsMemberOf t n m) (ns : List CellNo) (a b : ArenaView) (begun : HasBegun m ns a b) where
  pub begun_good : IsNetIn t (at_rest a) → (y : ℕ) → IsGood t a y (state_at b y)
  begun_good net y = go (in_or_out ns y)
    where
      go : laid.InOrOut ns y → IsGood t a y (state_at b y)
      go (inr out) = subst (IsGood t a y) (sym (begun.others y out)) (good_of t a net y)
      go (inl at) =
          let x = laid.begun_whose t n over m of ns a b begun at.0 y at.1 in
          let there = begun.each at.0 x.0 (record { 0 = y }) x.1 at.1 in
          let number : IsNumberOf a.cells x.0.class y = subst (λ (z : CellCounts). IsNumberOf z x.0.class y) begun.cells there.0 in
          λ c s in_class w. (
          let same : x.0.symbol.0 ≡ s = (let f : Some x.0.symbol.0 ≡ Some s = sym (ap word_of there.2.2) ∙ w in cc) in
          let one : x.0.class ≡ c = numbers_apart a.cells y x.0.class c number in_class in
          subst (λ (d : CellClass). is_of t d s ≡ true) one (subst (λ (z : ℕ). is_of t x.0.class z ≡ true) same (of.classes at.0 x.0 x.1))
          )

  -- no cell is on lease if none was
  pub begun_unleased : NoneLeased a → NoneLeased b
  begun_unleased none y low leased = none y (let e = begun.many in omega (arith, e, low)) (go (in_or_out ns y))
    where
      go : laid.InOrOut ns y → IsLeased (state_at a y)
      go (inr out) = subst IsLeased (begun.others y out) leased
      go (inl at) = let x = laid.begun_whose t n over m of ns a b begun at.0 y at.1 in absurd (subst IsLeased (begun.each at.0 x.0 (record { 0 = y }) x.1 at.1).2.2 leased)

-- ---- leases

pub alike_through : (a b c : ArenaView) → AreLeasedAlike a b → AreLeasedAlike b c → AreLeasedAlike a c
alike_through a b c h k = record {
  memory = k.memory ∙ h.memory;
  cells = k.cells ∙ h.cells;
  many = k.many ∙ h.many;
  stay = λ n l. k.stay n (h.stay n l);
  none = λ n low l. h.none n low (k.none n (subst (λ (z : ℕ). n < z) (sym h.many) low) l);
}

-- a retired cell wasn't one of them, and isn't one
pub retired_alike : (a b : ArenaView) (y : ℕ) → IsLive (state_at a y) → b ≡ changed a y Vacant → AreLeasedAlike a b
retired_alike a b y live e = subst (AreLeasedAlike a) (sym e) (record {
  memory = refl;
  cells = refl;
  many = length-set a.states y Vacant;
  stay = λ n l. go n l (cases_eq n y);
  none = λ n low l. back n l (cases_eq n y);
})
  where
    go : (n : ℕ) → IsLeased (state_at a n) → (n ≡ y) ⊎ (n ≢ y) → IsLeased (state_at (changed a y Vacant) n)
    go n l (inl same) = absurd (live_in (state_at a y) live (subst (λ (z : ℕ). IsLeased (state_at a z)) same l))
    go n l (inr ne) = subst IsLeased (sym (get_or-set_other a.states y n Vacant Leased ne)) l

    back : (n : ℕ) → IsLeased (state_at (changed a y Vacant) n) → (n ≡ y) ⊎ (n ≢ y) → IsLeased (state_at a n)
    back n l (inl same) = absurd (subst IsLeased (ap (state_at (changed a y Vacant)) same ∙ get_or-set_same a.states y Vacant Leased (state_inside a y (λ f. (subst IsLive f live)))) l)
    back n l (inr ne) = subst IsLeased (get_or-set_other a.states y n Vacant Leased ne) l

-- ---- joining

leased_outline : (x : State) → IsLeased x → outline x ≡ Leased
leased_outline Vacant h = absurd h
leased_outline Leased h = refl
leased_outline (Live w es) h = absurd h

outline_leased : (x : State) → outline x ≡ Leased → IsLeased x
outline_leased Vacant e = absurd (subst IsLeased (sym e) tt)
outline_leased Leased e = tt
outline_leased (Live w es) e = absurd (subst IsLeased (sym e) tt)

module _ (a b : ArenaView) (kept : KeepsCells a b) where
  pub as_many : length b.states ≡ length a.states
  as_many = sym (length-map b.states outline) ∙ ap length kept.outlines ∙ length-map a.states outline

  same_outline : (n : ℕ) → outline (state_at b n) ≡ outline (state_at a n)
  same_outline n = sym (get_or-map outline b.states n Leased) ∙ ap (λ (xs : List State). get_or xs n Leased) kept.outlines ∙ get_or-map outline a.states n Leased

  pub kept_good : (t : Tables) (first : ArenaView) → ((n : ℕ) → IsGood t first n (state_at a n)) → (n : ℕ) → IsGood t first n (state_at b n)
  kept_good t first good n c s at w = good n c s at (sym (word_kept a b kept n) ∙ w)

  pub kept_alike : AreLeasedAlike a b
  kept_alike = record {
    memory = kept.memory;
    cells = kept.cells;
    many = as_many;
    stay = λ n l. outline_leased (state_at b n) (same_outline n ∙ leased_outline (state_at a n) l);
    none = λ n low l. outline_leased (state_at a n) (sym (same_outline n) ∙ leased_outline (state_at b n) l);
  }

-- .. so too if cells are on lease as before
pub still_unleased : (a b : ArenaView) → AreLeasedAlike a b → NoneLeased a → NoneLeased b
still_unleased a b alike none n low leased = let e = alike.many in none n (omega (arith, e, low)) (alike.none n (omega (arith, e, low)) leased)

-- ---- bags

-- a bag without cells is one of each arena in that memory
pub none_there : (b a c : ArenaView) → c.memory ≡ a.memory → c.cells ≡ a.cells → IsNoneOf b a → IsNoneOf b c
none_there b a c memory cells h = (
  record {
    memory = h.0.memory ∙ sym memory;
    cells = h.0.cells ∙ sym cells;
    leased = λ n here. absurd (here (subst IsLeased (sym (h.1 n)) tt));
  },
  h.1,
)

-- .. and so of the arena after
pub still_none : (b a c : ArenaView) → AreLeasedAlike a c → IsNoneOf b a → IsNoneOf b c
still_none b a c alike h = none_there b a c alike.memory alike.cells h
