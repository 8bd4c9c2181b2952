-- The changes of an arena by calls in a row.
use Rattle.std.proofs.Common.{◌≡◌, ◌<◌, refl, ℕ, List, length, set, get_or, Option, Some, sym, ap, ◌∙◌, subst, ⊎_elim, arith, length-set, get_or-set_same, get_or-set_other}
use Rattle.std.proofs.lemmas.Bool.{cases_eq}
use Rattle.std.proofs.lemmas.List.{set-set, set-get_or, length-replicate}
use Rattle.in_arena.specs.Arenas.{ArenaView, BeginsCell, LeaseView, Leases, NoneLeased, changed, state_at, written}
use Rattle.in_arena.specs.Bags.{LeasesTo, empty_bag}
use Rattle.in_arena.specs.Changes.{HasAllCells}
use Rattle.in_arena.specs.Classes.{IsNumberOf, all_of}
use Rattle.in_arena.specs.States.{State, Vacant, Leased, Live, IsLeased}
use Rattle.in_arena.specs.declared.content.CellClass.{CellClass}
use Rattle.in_arena.specs.declared.content.End.{End}
use Rattle.in_arena.specs.declared.content.CellNo.{CellNo}
use Rattle.in_arena.proofs.Public.{vacant_inside, number_inside}

-- a free cell that changed and is free again
free_again : (a : ArenaView) (n : ℕ) (x : State) → state_at a n ≡ Vacant → changed (changed a n x) n Vacant ≡ a
free_again a n x free = λ i. record { memory = a.memory; cells = a.cells; states = (set-set a.states n x Vacant ∙ ap (set a.states n) (sym free) ∙ set-get_or a.states n Leased) i }

-- .. as one that was lent and given back
pub given_back : (a b d : ArenaView) (c : CellClass) (r : Option LeaseView) (l : LeaseView) → Leases a c r b → r ≡ Some l → d ≡ changed b l.number Vacant → d ≡ a
given_back a b d c r l made is e =
    let m = subst (λ o. Leases a c o b) is made in
    e ∙ ap (λ v. changed v l.number Vacant) m.3 ∙ free_again a l.number Leased m.2

-- .. or begun and retired
pub begun_back : (c : CellClass) (s p : ℕ) (a b d : ArenaView) (n : ℕ) → BeginsCell c s p a n b → d ≡ changed b n Vacant → d ≡ a
begun_back c s p a b d n h e = e ∙ ap (λ v. changed v n Vacant) h.arena ∙ free_again a n h.state h.was

-- a cell that becomes live, while no other is on lease
pub live_now : (a b d : ArenaView) (n : ℕ) (x : State) (word : ℕ) (ends : List End) → NoneLeased a → state_at a n ≡ Vacant → b ≡ changed a n Leased → d ≡ changed b n x → x ≡ Live word ends → NoneLeased d × (state_at d n ≡ Live word ends)
live_now a b d n x word ends none free lent e is =
    let y = Live word ends in
    let states : d.states ≡ set a.states n y = ap (λ (v : ArenaView). v.states) e ∙ ap (λ (v : ArenaView). set v.states n x) lent ∙ set-set a.states n Leased x ∙ ap (set a.states n) is in
    let long : length d.states ≡ length a.states = ap length states ∙ length-set a.states n y in
    let here : state_at d n ≡ y = ap (λ l. get_or l n Leased) states ∙ get_or-set_same a.states n y Leased (vacant_inside a n free) in (
      λ i lt leased. ⊎_elim
          (λ same. subst IsLeased (ap (state_at d) same ∙ here) leased)
          (λ other. none i (omega (arith, lt, long)) (subst IsLeased (ap (λ l. get_or l i Leased) states ∙ get_or-set_other a.states n i y Leased other) leased))
          (cases_eq i n),
      here,
    )

-- a cell that was lent, written and settled
pub settled : (a b d : ArenaView) (c : CellClass) (r : Option LeaseView) (l m : LeaseView) (word k : ℕ) (ends : List End) → NoneLeased a → Leases a c r b → r ≡ Some l → m ≡ written l (Live word ends) → d ≡ changed b m.number m.state → k ≡ l.number → NoneLeased d × (state_at d k ≡ Live word ends)
settled a b d c r l m word k ends none made is write e at =
    let y = subst (λ o. Leases a c o b) is made in let n = l.number in
    let now = live_now a b d n (Live word ends) word ends none y.2 y.3 (e ∙ ap (λ (v : LeaseView). changed b v.number v.state) write) refl in
    (now.0, ap (state_at d) at ∙ now.1)

-- ---- bags

pub leased_in : (a : ArenaView) (c : CellClass) (b : ArenaView) (r : Option CellNo) (n : CellNo) (a' b' : ArenaView) → LeasesTo a c b r a' b' → r ≡ Some n → LeasesTo a c b (Some n) a' b'
leased_in a c b r n a' b' made is = subst (λ o. LeasesTo a c b o a' b') is made

pub set_there : (b d : ArenaView) (n : ℕ) (x : State) → n < length b.states → d ≡ changed b n x → state_at d n ≡ x
set_there b d n x lt e = ap (λ (v : ArenaView). state_at v n) e ∙ get_or-set_same b.states n x Leased lt

pub written_there : (b d : ArenaView) (n : ℕ) (x : State) → state_at b n ≡ Vacant → d ≡ changed b n x → state_at d n ≡ x
written_there b d n x free e = set_there b d n x (vacant_inside b n free) e

pub same_room : (a b : ArenaView) (c : CellClass) (n : ℕ) → b ≡ empty_bag a → IsNumberOf a.cells c n → n < length b.states
same_room a b c n e is =
    let all : HasAllCells b = ap (λ (v : ArenaView). length v.states) e ∙ length-replicate (all_of a.cells) Leased ∙ ap (λ (v : ArenaView). all_of v.cells) (sym e) in
    number_inside b n c all (subst (λ k. IsNumberOf k c n) (ap (λ (v : ArenaView). v.cells) (sym e)) is)

pub same_room_after : (a b d : ArenaView) (c : CellClass) (n : ℕ) (x : State) → b ≡ empty_bag a → d ≡ changed b n x → IsNumberOf a.cells c n → n < length d.states
same_room_after a b d c n x e f is = let lt = same_room a b c n e is in omega (arith, lt, ap (λ (v : ArenaView). length v.states) f, length-set b.states n x)

-- a cell may change to its own state
pub same_again : (a : ArenaView) (n : ℕ) (x : State) → state_at a n ≡ x → changed a n x ≡ a
same_again a n x is = λ i. record { memory = a.memory; cells = a.cells; states = (ap (set a.states n) (sym is) ∙ set-get_or a.states n Leased) i }
