-- Copies as parts of nets.
use Rattle.std.specs.Prelude.{◌≡◌, ◌<◌, ℕ, zero, suc, List, [], ◌∷◌, length, map, Option, Some, None, slice_get, option_map}
use Rattle.in_arena.specs.Arenas.{ArenaView, NoneLeased, state_at}
use Rattle.in_arena.specs.declared.content.CellNo.{CellNo}
use Rattle.in_arena.specs.States.{Vacant, end_at, word_of}
use Rattle.in_arena.specs.declared.content.End.{End}
use Rattle.in_arena.specs.declared.content.End.TheVariants as end
use Rattle.in_net.specs.Nets.{Point, Port, Free, Net}
use Rattle.in_gluing.specs.AsGluing.{two_parts}
use Rattle.in_gluing.specs.Joining.{WiresLeadBack}
use Rattle.in_cells.specs.Shown.{IsShown, AreExchanged}
use Rattle.in_gluing.specs.SideBySide.{StandBeside}
use Rattle.in_cells.specs.Copying.{ArePart, AreAllLive, AreClosed, IsCopied, moved, moved_end, name_in, number_in}

-- ---- two ends that are exchanged

-- two ends are exchanged in one way: the cells and the list of ends are determined
abbrev pub ExchangesAreOne : Type 0
ExchangesAreOne = (x y : End) (a b c : ArenaView) (ends after other : List End) → AreExchanged x y a ends b after → AreExchanged x y a ends c other → (b ≡ c) × (after ≡ other)

-- ---- some agents of a net

-- a point, if agents and free ends have these numbers
abbrev pub moved_point : (ℕ → ℕ) → (ℕ → ℕ) → Point ℕ → Point ℕ
moved_point name number (Port y i) = Port (name y) i
moved_point name number (Free k) = Free (number k)

-- the net has these agents of another one as new agents, under these names and with their wires, with these numbers of free ends; its other agents
-- are as before, with the wires that they had
pub record HasCopies (n : Net ℕ) (agents : List CellNo) (name number : ℕ → ℕ) (old new : Net ℕ) : Type 0 where
  pub symbols : (k : ℕ) (c : CellNo) → slice_get agents k ≡ Some c → new.symbol (name c.0) ≡ n.symbol c.0
  pub wires : (k i : ℕ) (c : CellNo) → slice_get agents k ≡ Some c → new.partner (Port (name c.0) i) ≡ option_map (moved_point name number) (n.partner (Port c.0 i))
  pub are_new : (k : ℕ) (c : CellNo) → slice_get agents k ≡ Some c → old.symbol (name c.0) ≡ None
  pub apart : (j k : ℕ) (c d : CellNo) → slice_get agents j ≡ Some c → slice_get agents k ≡ Some d → name c.0 ≡ name d.0 → c ≡ d
  pub others : (y : ℕ) → ((k : ℕ) (c : CellNo) → slice_get agents k ≡ Some c → name c.0 ≡ y → ⊥) → (new.symbol y ≡ old.symbol y) × ((i : ℕ) → new.partner (Port y i) ≡ old.partner (Port y i))

-- the net that the cells show afterwards has copies of the agents, for any lists of ends
abbrev pub CopiesAreShown : Type 0
CopiesAreShown = (from old new : ArenaView) (agents names : List CellNo) (ends : List ℕ) (of_from of_old of_new : List End) (n m w : Net ℕ) → IsShown from of_from n → IsShown old of_old m →
    IsCopied from agents ends names old new → IsShown new of_new w → HasCopies n agents (name_in names) (number_in ends) m w

-- if no cell was on lease, none is
abbrev pub NoneIsLeased : Type 0
NoneIsLeased = (from old new : ArenaView) (agents names : List CellNo) (ends : List ℕ) → ArePart from agents → IsCopied from agents ends names old new → NoneLeased old → NoneLeased new

-- ---- all agents of a net

-- if all agents of a net are copied, with its free ends, they lead only to each other and to these
abbrev pub AllAreClosed : Type 0
AllAreClosed = (a : ArenaView) (agents : List CellNo) (of_a : List End) (n : Net ℕ) → IsShown a of_a n → WiresLeadBack n → AreAllLive a agents → AreClosed a agents (length of_a)

-- the cells show the net, and the list has the partners of its free ends
pub record ShowsAll (a : ArenaView) (ends : List End) (n : Net ℕ) : Type 0 where
  pub shown : IsShown a ends n
  pub many : length ends ≡ length n.free

-- the same cells, if free ends have these numbers
abbrev pub AreRenumbered : (ℕ → ℕ) → ArenaView → ArenaView → Type 0
AreRenumbered own a b = (y : ℕ) → state_at b y ≡ moved (λ z. z) own (state_at a y)

-- the number of a free end of a part: the first list has those of part 0, the second those of part 1
abbrev pub number_of : (ℕ → ℕ) → (ℕ → ℕ) → ℕ → ℕ → ℕ
number_of own number zero e = own e
number_of own number (suc i) e = number e

-- the partner there of a free end of a part, if part 0 has the first of these lists of ends and part 1 the second
abbrev pub leads_to : (ℕ → ℕ) → (ℕ → ℕ) → (ℕ → ℕ) → List End → List End → ℕ → ℕ → Option End
leads_to name own number of_one of_two zero e = option_map (moved_end (λ z. z) own) (slice_get of_one e)
leads_to name own number of_one of_two (suc zero) e = option_map (moved_end name number) (slice_get of_two e)
leads_to name own number of_one of_two (suc (suc i)) e = None

-- the list has the partner of each free end of both parts, in this order of free ends
pub record AreEndsOfBoth (one two : Net ℕ) (name own number : ℕ → ℕ) (of_one of_two : List End) (ends : List (ℕ × ℕ)) (of_both : List End) : Type 0 where
  pub many : length of_both ≡ length ends
  pub each : (k i e : ℕ) → slice_get ends k ≡ Some (i, e) → (number_of own number i e ≡ k) × (slice_get of_both k ≡ leads_to name own number of_one of_two i e)
  pub all : (i e : ℕ) → e < length (two_parts one two i).free → slice_get ends (number_of own number i e) ≡ Some (i, e)

-- if the free ends of a net in cells get other numbers, and all agents of another one are copied to these cells, the cells show both side by side,
-- with the free ends in any order
abbrev pub CopiesStandBeside : Type 0
CopiesStandBeside = (from before old new : ArenaView) (agents names : List CellNo) (numbers : List ℕ) (own : ℕ → ℕ) (of_from of_before of_new : List End) (ends : List (ℕ × ℕ)) (n m w : Net ℕ) →
    ShowsAll from of_from n → ShowsAll before of_before m → AreAllLive from agents → AreRenumbered own before old → IsCopied from agents numbers names old new →
    AreEndsOfBoth m n (name_in names) own (number_in numbers) of_before of_from ends of_new → IsShown new of_new w →
    map (λ t. Some t) w.free ≡ map (λ p. slice_get (two_parts m n p.0).free p.1) ends → StandBeside m n (name_in names) ends w

-- a given number of free ends of this part, from this one on
abbrev pub ends_of : ℕ → ℕ → ℕ → List (ℕ × ℕ)
ends_of i first zero = []
ends_of i first (suc k) = (i, first) ∷ ends_of i (suc first) k

-- ---- agents that are taken out

-- no agent is in its cells
abbrev pub HasNoAgent : ArenaView → Type 0
HasNoAgent a = (y : ℕ) → word_of (state_at a y) ≡ None

-- these agents are gone, and the other cells are the same, with these numbers of free ends
pub record AreTakenOut (agents : List CellNo) (own : ℕ → ℕ) (a b : ArenaView) : Type 0 where
  pub gone : (k : ℕ) (c : CellNo) → slice_get agents k ≡ Some c → state_at b c.0 ≡ Vacant
  pub others : (y : ℕ) → ((k : ℕ) → slice_get agents k ≡ Some (record { 0 = y }) → ⊥) → state_at b y ≡ moved (λ z. z) own (state_at a y)

-- an end of the net leads into the part: to one of these agents, or to a free end that is one of part 1
abbrev pub LeadsIntoPart : List CellNo → List (ℕ × ℕ) → End → Type 0
LeadsIntoPart agents ends (end.Cell c i) = (k : ℕ) × (slice_get agents k ≡ Some c)
LeadsIntoPart agents ends (end.Free f) = (e : ℕ) × (slice_get ends f ≡ Some (1, e))

-- each free end of the net is one of the rest (part 0) or of the part (part 1), and there it has the same partner as in the net
pub record AreEndsSplit (one two : Net ℕ) (agents : List CellNo) (name own number : ℕ → ℕ) (place : ℕ → ℕ → ℕ) (of_both of_one of_two : List End) (ends : List (ℕ × ℕ)) : Type 0 where
  pub many : length of_both ≡ length ends
  pub places : (k i e : ℕ) → slice_get ends k ≡ Some (i, e) → place i e ≡ k
  pub all : (i e : ℕ) → e < length (two_parts one two i).free → slice_get ends (place i e) ≡ Some (i, e)
  pub rest : (k e : ℕ) → slice_get ends k ≡ Some (0, e) → (own k ≡ e) × (slice_get of_one e ≡ option_map (moved_end (λ z. z) own) (slice_get of_both k))
  pub part : (k e : ℕ) → slice_get ends k ≡ Some (1, e) → (number k ≡ e) × (slice_get of_two e ≡ option_map (moved_end name number) (slice_get of_both k))
  pub only_two : (k i e : ℕ) → slice_get ends k ≡ Some (i, e) → i < 2
  pub apart : (k e : ℕ) (x : End) → slice_get ends k ≡ Some (0, e) → slice_get of_both k ≡ Some x → LeadsIntoPart agents ends x → ⊥
  pub closed : (k e : ℕ) (x : End) → slice_get ends k ≡ Some (1, e) → slice_get of_both k ≡ Some x → LeadsIntoPart agents ends x

-- if agents that lead only to each other and to free ends are copied to cells that show no agent, and are taken out, the net before is the
-- rest and the part side by side: the agents of the part had these names there
abbrev pub PartStandsBeside : Type 0
PartStandsBeside = (from left old new : ArenaView) (agents names : List CellNo) (numbers : List ℕ) (own origin : ℕ → ℕ) (place : ℕ → ℕ → ℕ) (of_from of_left of_new : List End) (ends : List (ℕ × ℕ)) (n m p : Net ℕ) →
    ShowsAll from of_from n → WiresLeadBack n → ShowsAll left of_left m → ShowsAll new of_new p →
    IsCopied from agents numbers names old new → HasNoAgent old → AreTakenOut agents own from left →
    ((k : ℕ) (c : CellNo) → slice_get agents k ≡ Some c → origin (name_in names c.0) ≡ c.0) →
    ((k i : ℕ) (c : CellNo) (x : End) → slice_get agents k ≡ Some c → end_at (state_at from c.0) i ≡ Some x → LeadsIntoPart agents ends x) →
    AreEndsSplit m p agents (name_in names) own (number_in numbers) place of_from of_left of_new ends →
    map (λ t. Some t) n.free ≡ map (λ q. slice_get (two_parts m p q.0).free q.1) ends → StandBeside m p origin ends n
