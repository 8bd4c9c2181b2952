-- Characters in a program, by their codes. This project's own choice: Lafont 1990 has nothing on characters.
use Rattle.std.specs.Prelude.{ℕ, Bool, not, ◌||◌, ◌==◌}
use Rattle.unicode_ident.specs.Ident.{is_xid_start, is_xid_continue}

-- a line ends with it
abbrev pub line_feed : ℕ
line_feed = 10

-- `#`, which begins a comment
abbrev pub hash : ℕ
hash = 35

-- space, tab, carriage return and line feed
abbrev pub is_blank : ℕ → Bool
is_blank c = c == 32 || c == 9 || c == 13 || c == line_feed

-- a name begins with such a character: XID_Start or `_`
abbrev pub begins_name : ℕ → Bool
begins_name c = is_xid_start c || c == 95

-- a name continues with such characters: XID_Continue
abbrev pub continues_name : ℕ → Bool
continues_name c = is_xid_continue c

-- a comment is made of such characters: all but a line feed
abbrev pub stays_in_comment : ℕ → Bool
stays_in_comment c = not (c == line_feed)
