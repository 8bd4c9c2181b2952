-- The view of a cell: free, leased, or live with a symbol word and its ends.
use Rattle.std.specs.Prelude.{◌≡◌, ℕ, Bool, true, false, List, length, slice_get, slice_set, Option, Some, None}
use Rattle.in_arena.specs.declared.content.End.{End}

pub data State : Type 0 where
  Vacant : State
  Leased : State
  Live : ℕ → List End → State

abbrev pub is_vacant : State → Bool
is_vacant Vacant = true
is_vacant Leased = false
is_vacant (Live word ends) = false

abbrev pub IsLive : State → Type 0
IsLive Vacant = ⊥
IsLive Leased = ⊥
IsLive (Live word ends) = Unit {0}

abbrev pub IsLeased : State → Type 0
IsLeased Vacant = ⊥
IsLeased Leased = Unit {0}
IsLeased (Live word ends) = ⊥

-- the number of its places, the principal one among them
abbrev pub places : State → ℕ
places Vacant = 0
places Leased = 0
places (Live word ends) = length ends

abbrev pub word_of : State → Option ℕ
word_of Vacant = None
word_of Leased = None
word_of (Live word ends) = Some word

abbrev pub end_at : State → ℕ → Option End
end_at Vacant place = None
end_at Leased place = None
end_at (Live word ends) place = slice_get ends place

-- live with this symbol word and `count` open ends
abbrev pub IsBegun : ℕ → ℕ → State → Type 0
IsBegun word count x = (ends : List End) × (length ends ≡ count) × (x ≡ Live word ends)

-- live with these ends
abbrev pub HasEnds : List End → State → Type 0
HasEnds ends x = (word : ℕ) × (x ≡ Live word ends)

-- the same with this end at that place
abbrev pub with_end : State → ℕ → End → State
with_end Vacant place end = Vacant
with_end Leased place end = Leased
with_end (Live word ends) place end = Live word (slice_set ends place end)
