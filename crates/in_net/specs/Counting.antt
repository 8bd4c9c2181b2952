-- How often each name of a net occurs. No public contract names this.
use Rattle.std.specs.Prelude.{ℕ, zero, suc, ◌+◌, ◌<◌, List, [], ◌∷◌, map, Option, Some, None, option_map, slice_get, slice_set, slice_index_or}
use Rattle.std.specs.List.{AllByRecursion}
use Rattle.in_syntax.specs.declared.tree.SourceFree.{SourceFree}
use Rattle.in_syntax.specs.Refusals.{earlier, earliest}
use Rattle.in_syntax.specs.declared.places.Place.{Place}
use Rattle.in_net.specs.declared.reading.TextSpot.{TextSpot}
use Rattle.in_net.specs.declared.reading.TextSpot.TheVariants as spot
use Rattle.in_net.specs.declared.counting.Counting.{Counting}
use Rattle.in_net.specs.declared.counting.Seen.{Seen}
use Rattle.in_net.specs.declared.counting.Seen.TheVariants.{Never, Once, Twice, Often}

-- the number of a spot's name
abbrev pub name_of : TextSpot → Option ℕ
name_of (spot.Port a i p) = None
name_of (spot.Free k m) = Some m
name_of (spot.End k) = None
name_of (spot.Occurrence m p) = Some m

abbrev pub seen_again : Seen → ℕ → Seen
seen_again Never at = Once at
seen_again (Once one) at = Twice
seen_again Twice at = Often
seen_again Often at = Often

abbrev pub none_seen : ℕ → List Seen
none_seen zero = []
none_seen (suc n) = Never ∷ none_seen n

abbrev pub count_name : List Seen → ℕ → Option ℕ → List Seen
count_name seen at None = seen
count_name seen at (Some m) = slice_set seen m (seen_again (slice_index_or seen m Never) at)

abbrev pub counted : List Seen → ℕ → TextSpot → List Seen
counted seen at s = count_name seen at (name_of s)

-- counts these spots, of which the first has this number
abbrev pub counted_from : ℕ → List TextSpot → List Seen → List Seen
counted_from at [] seen = seen
counted_from at (s ∷ ss) seen = counted_from (at + 1) ss (counted seen at s)

-- the spot is the third one of its name, if two were seen before
abbrev pub third_time : Seen → TextSpot → Option Place
third_time Never s = None
third_time (Once one) s = None
third_time Twice (spot.Port a i p) = None
third_time Twice (spot.Free k m) = None
third_time Twice (spot.End k) = None
third_time Twice (spot.Occurrence m p) = Some p
third_time Often s = None

abbrev pub nothing_counted : ℕ → Counting
nothing_counted names = record { seen = none_seen names; third = None }

abbrev pub counts_named : Counting → ℕ → TextSpot → Option ℕ → Counting
counts_named c at s None = c
counts_named c at s (Some m) =
    let before = slice_index_or c.seen m Never in
    record { seen = slice_set c.seen m (seen_again before at); third = earlier c.third (third_time before s) }

abbrev pub counts_spot : Counting → ℕ → TextSpot → Counting
counts_spot c at s = counts_named c at s (name_of s)

-- counts these spots, and the first third occurrence among them; the first spot has this number
abbrev pub counts_from : ℕ → List TextSpot → Counting → Counting
counts_from at [] c = c
counts_from at (s ∷ ss) c = counts_from (at + 1) ss (counts_spot c at s)

abbrev pub place_at : List SourceFree → Option TextSpot → Option Place
place_at free None = None
place_at free (Some (spot.Port a i p)) = None
place_at free (Some (spot.Free k m)) = option_map (λ f. f.name.place) (slice_get free k)
place_at free (Some (spot.End k)) = None
place_at free (Some (spot.Occurrence m p)) = Some p

-- the place of the only spot of a name
abbrev pub lonely_place : List TextSpot → List SourceFree → Seen → Option Place
lonely_place spots free Never = None
lonely_place spots free (Once at) = place_at free (slice_get spots at)
lonely_place spots free Twice = None
lonely_place spots free Often = None

abbrev pub lonely : List TextSpot → List SourceFree → List Seen → Option Place
lonely spots free seen = earliest None (map (lonely_place spots free) seen)

-- the first name that occurs only once or a third time
abbrev pub miscounted : ℕ → List TextSpot → List SourceFree → Option Place
miscounted names spots free =
    let c = counts_from 0 spots (nothing_counted names) in
    earlier c.third (lonely spots free c.seen)

-- ---- the numbers are in range

abbrev pub IsNumberInside : ℕ → Option ℕ → Type 0
IsNumberInside names None = Unit {0}
IsNumberInside names (Some m) = m < names

abbrev pub IsNameInside : ℕ → TextSpot → Type 0
IsNameInside names s = IsNumberInside names (name_of s)

abbrev pub NamesInside : ℕ → List TextSpot → Type 0
NamesInside names = AllByRecursion (IsNameInside names)

abbrev pub IsSeenInside : ℕ → Seen → Type 0
IsSeenInside spots Never = Unit {0}
IsSeenInside spots (Once s) = s < spots
IsSeenInside spots Twice = Unit {0}
IsSeenInside spots Often = Unit {0}

abbrev pub SeenInside : ℕ → List Seen → Type 0
SeenInside spots = AllByRecursion (IsSeenInside spots)
