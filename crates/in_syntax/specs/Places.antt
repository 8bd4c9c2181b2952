-- Spots and places in a text. Lines end with a line feed, a column is one character, and both are counted from 1.
-- That columns are characters is this project's own choice.
use Rattle.std.specs.Prelude.{ℕ, ◌+◌, ◌==◌, if◌then◌else◌, List, [], ◌∷◌, length}
use Rattle.std.specs.Char.{encode_utf8}
use Rattle.std.specs.Str.{chars}
use Rattle.in_syntax.specs.Characters.{line_feed}
use Rattle.in_syntax.specs.declared.characters.Spot.{Spot}
use Rattle.in_syntax.specs.declared.places.Place.{Place}

-- the beginning of a text
abbrev pub start : Spot
start = record { at = 0; line = 1; col = 1 }

-- the spot after a character
abbrev pub past : Spot → ℕ → Spot
past s c = record {
  at = s.at + length (encode_utf8 c);
  line = if c == line_feed then s.line + 1 else s.line;
  col = if c == line_feed then 1 else s.col + 1;
}

-- the spot after some characters
abbrev pub past_all : Spot → List ℕ → Spot
past_all s [] = s
past_all s (c ∷ cs) = past_all (past s c) cs

-- the place from one spot to another
abbrev pub place_between : Spot → Spot → Place
place_between s t = record { from = s.at; to = t.at; line = s.line; col = s.col }

-- the empty place at a spot
abbrev pub place_at : Spot → Place
place_at s = place_between s s

-- the place after a text's last character
abbrev pub end_place : List ℕ → Place
end_place text = place_at (past_all start (chars text))
