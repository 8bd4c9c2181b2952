-- If each use of an argument without a fault keeps a property, a walk over words without a fault keeps it.
use Rattle.std.proofs.Common.{◌≡◌, ℕ, zero, suc, Bool, true, false, cond, List, [], ◌∷◌, Option, Some, None, is_some, length, drop, refl}
use Rattle.std.specs.Prelude.{codes, encode_utf8, find, fold, not, IfSome, ◌&&◌, slice_get}
use Rattle.std.specs.Option.{option_map_or}
use Rattle.std.specs.Str.{bytes_eq, chars}
use Rattle.clap.specs.Faults.{bundle_step_fault, flag_word_fault, flags_fault, long_fault, option_fault, other_fault, positional_fault, react_fault, settle_fault, short_fault, step_fault, turn_fault, use_fault, walk_fault, word_fault}
use Rattle.clap.specs.Kinds.{Kinds, or_else}
use Rattle.clap.specs.Lexer.{long_of, short_of}
use Rattle.clap.specs.Simple.{Shape}
use Rattle.clap.specs.Walk.{Held, Names, Outcome, Row, Rule, Step, Text, Waiting, Walk, after_flag, after_step, arg_by_id, arg_by_index, arg_by_long, arg_by_short, attached_value, bundle, bundle_met, bundle_step, flag_met, is_pending, long_met, long_or_other, option_met, option_word, plain_word, reacted, settled, settled_rows, short_met, short_or_plain, subcommand_met, subcommand_or_other, takes_several, takes_values, to_positional, used, used_by_id, walked, walked_from, word_met}
use Rattle.clap.specs.Walk.{done, waits, plain, refused, idle, option, positional, next, trailing, subcommand, value}
use Rattle.clap.specs.declared.error.kind.ErrorKind.TheVariants as kind

pub first_none : (a b : Kinds) → or_else a b ≡ [] → (a ≡ []) × (b ≡ [])
first_none [] b e = (refl, e)
first_none (k ∷ ks) b e = cc

-- a use without a fault keeps this property of the rows
abbrev pub Keeps : (List Row → Type 0) → Rule → Type 0
Keeps Good a = (again : Bool) (values : List Text) (rows : List Row) → Good rows → use_fault again a values rows ≡ [] → Good (used a values rows)

abbrev pub AllKeep : (List Row → Type 0) → List Rule → Type 0
AllKeep Good c = (f : Rule → Bool) (a : Rule) → find f c ≡ Some a → Keeps Good a

module _ (Good : List Row → Type 0) (c : List Rule) (keep : AllKeep Good c) (again : Bool) where
  used_keeps : (f : Rule → Bool) (o : Option Rule) → find f c ≡ o → (values : List Text) (rows : List Row) → Good rows
      → option_map_or (λ a. use_fault again a values rows) o [] ≡ [] → Good (used_by_id o values rows)
  used_keeps f None is values rows good none = good
  used_keeps f (Some a) is values rows good none = keep f a is again values rows good none

  pub settled_keeps : (h : Held) → Good h.rows → settle_fault c again h ≡ [] → Good (settled c h).rows
  settled_keeps h good none = go h.pending none
    where
      go : (p : Option (Text × List Text)) → option_map_or (λ q. option_map_or (λ a. use_fault again a q.1 h.rows) (arg_by_id c q.0) []) p [] ≡ [] → Good (settled_rows c p h.rows)
      go None e = good
      go (Some p) e = used_keeps _ (arg_by_id c p.0) refl p.1 h.rows good e

  reacted_keeps : (f : Rule → Bool) (a : Rule) → find f c ≡ Some a → (values : List Text) (h : Held) → Good h.rows → react_fault c again a values h ≡ [] → Good (reacted c a values h).rows
  reacted_keeps f a is values h good none =
      let parts = first_none (settle_fault c again h) _ none in
      keep f a is again values (settled c h).rows (settled_keeps h good parts.0) parts.1

  option_keeps : (f : Rule → Bool) (a : Rule) → find f c ≡ Some a → (v : Option Text) (h : Held) → Good h.rows → option_fault c again a v h ≡ [] → Good ((option_met c a v h).0).rows
  option_keeps f a is (Some v) h good none = reacted_keeps f a is (v ∷ []) h good none
  option_keeps f a is None h good none = settled_keeps h good none

  long_keeps : (f : Rule → Bool) (o : Option Rule) → find f c ≡ o → (v : Option Text) (h : Held) → Good h.rows → long_fault c again o v h ≡ [] → Good ((long_met c o v h).0).rows
  long_keeps f None is v h good none = good
  long_keeps f (Some a) is v h good none = go (takes_values a) v none
    where
      go : (takes : Bool) (v : Option Text) → cond takes (option_fault c again a v h) (cond (is_some v) (kind.TooManyValues ∷ []) (react_fault c again a [] h)) ≡ []
          → Good ((cond takes (option_met c a v h) (flag_met c a v h)).0).rows
      go true v e = option_keeps f a is v h good e
      go false (Some v) e = good
      go false None e = reacted_keeps f a is [] h good e

  short_keeps : (f : Rule → Bool) (o : Option Rule) → find f c ≡ o → (rest : Text) (h : Held) (more : Held → Held × Outcome) (check : Held → Kinds)
      → ((x : Held) → Good x.rows → check x ≡ [] → Good ((more x).0).rows) → Good h.rows → short_fault c again o rest h check ≡ [] → Good ((short_met c o rest h more).0).rows
  short_keeps f None is rest h more check step good none = good
  short_keeps f (Some a) is rest h more check step good none = go (takes_values a) none
    where
      go : (takes : Bool) → cond takes (option_fault c again a (attached_value rest) h) (or_else (react_fault c again a [] h) (check (reacted c a [] h))) ≡ []
          → Good ((cond takes (option_met c a (attached_value rest) h) (more (reacted c a [] h))).0).rows
      go true e = option_keeps f a is (attached_value rest) h good e
      go false e =
          let parts = first_none (react_fault c again a [] h) _ e in
          step (reacted c a [] h) (reacted_keeps f a is [] h good parts.0) parts.1

  step_keeps : (o : Option ℕ) (flags : Text) (skip : ℕ) (so_far : Outcome) (h : Held) (more : Text → ℕ → Outcome → Held → Held × Outcome) (check : Text → ℕ → Held → Kinds)
      → ((t : Text) (n : ℕ) (x : Outcome) (y : Held) → Good y.rows → check t n y ≡ [] → Good ((more t n x y).0).rows)
      → Good h.rows → bundle_step_fault c again o flags skip h check ≡ [] → Good ((bundle_step c o flags skip so_far h more).0).rows
  step_keeps None flags skip so_far h more check step good none = good
  step_keeps (Some x) flags zero so_far h more check step good none =
      let rest = drop (length (encode_utf8 x)) flags in
      short_keeps _ (arg_by_short c x) refl rest h (more rest 0 done) (check rest 0) (λ y. step rest 0 done y) good none
  step_keeps (Some x) flags (suc skip) so_far h more check step good none = step (drop (length (encode_utf8 x)) flags) skip so_far h good none

  bundle_keeps : (k : ℕ) (flags : Text) (skip : ℕ) (so_far : Outcome) (h : Held) → Good h.rows → flags_fault c again k flags skip h ≡ [] → Good ((bundle_met c k flags skip so_far h).0).rows
  unfolding bundle_met flags_fault
  bundle_keeps zero flags skip so_far h good none = good
  bundle_keeps (suc k) flags skip so_far h good none =
      step_keeps (slice_get (chars flags) 0) flags skip so_far h (bundle_met c k) (flags_fault c again k) (bundle_keeps k) good none

  plain_keeps : (waiting : Waiting) (word : Text) (h : Held) → Good h.rows → Good ((plain_word c waiting word h).0).rows
  plain_keeps idle word h good = good
  plain_keeps positional word h good = good
  plain_keeps (option id) word h good = go (arg_by_id c id)
    where
      go : (o : Option Rule) → Good ((option_word o id word h).0).rows
      go None = good
      go (Some a) = good

  flag_keeps : (waiting : Waiting) (word : Text) (h : Held) (o : Outcome) → Good h.rows → Good ((after_flag c waiting word h o).0).rows
  flag_keeps waiting word h done good = good
  flag_keeps waiting word h (waits id) good = good
  flag_keeps waiting word h plain good = plain_keeps waiting word h good
  flag_keeps waiting word h refused good = plain_keeps waiting word h good

  flag_word_keeps : (waiting : Waiting) (word : Text) (o : Option (Text × Option Text)) (h : Held) → Good h.rows → flag_word_fault c again o word h ≡ [] → Good ((long_or_other c waiting word o h).0).rows
  flag_word_keeps waiting word (Some p) h good none = flag_keeps waiting word _ (long_met c (arg_by_long c p.0) p.1 h).1 (long_keeps _ (arg_by_long c p.0) refl p.1 h good none)
  flag_word_keeps waiting word None h good none = go (short_of word) none
    where
      go : (o : Option Text) → option_map_or (λ flags. flags_fault c again (length flags) flags h.skip (record h { skip = 0 })) o [] ≡ [] → Good ((short_or_plain c waiting word o h).0).rows
      go None e = plain_keeps waiting word h good
      go (Some flags) e = flag_keeps waiting word _ _ (bundle_keeps (length flags) flags h.skip plain (record h { skip = 0 }) good e)

module _ (Good : List Row → Type 0) (s : Shape) (keep : AllKeep Good s.rules) (names : Names) where
  word_keeps : (is_trailing : Bool) (waiting : Waiting) (position : ℕ) (word : Text) (h : Held) → Good h.rows → word_fault s names is_trailing waiting word h ≡ []
      → Good ((word_met s.rules names is_trailing waiting position word h).0).rows
  word_keeps true waiting position word h good none = good
  word_keeps false waiting position word h good none = go (subcommand_met names waiting word) none
    where
      plainly : (b : Bool) → cond b [] (flag_word_fault s.rules s.args_override_self (long_of word) word h) ≡ []
          → Good ((cond b (h, trailing position) (long_or_other s.rules waiting word (long_of word) h)).0).rows
      plainly true e = good
      plainly false e = flag_word_keeps Good s.rules keep s.args_override_self waiting word (long_of word) h good e

      go : (o : Option Text) → other_fault s o word h ≡ [] → Good ((subcommand_or_other s.rules o waiting position word h).0).rows
      go (Some name) e = good
      go None e = plainly (bytes_eq word (45 ∷ 45 ∷ [])) e

  positional_keeps : (o : Option Rule) (word : Text) (w : Walk) (h : Held) (stray : Kinds) → Good h.rows
      → option_map_or (λ a. positional_fault s.rules s.args_override_self a h) o stray ≡ [] → Good ((to_positional s.rules o word w h).held).rows
  positional_keeps None word w h stray good none = good
  positional_keeps (Some a) word w h stray good none = go (is_pending a h.pending && takes_several a) none
    where
      go : (b : Bool) → cond b [] (settle_fault s.rules s.args_override_self h) ≡ [] → Good (cond b h (settled s.rules h)).rows
      go true e = good
      go false e = settled_keeps Good s.rules keep s.args_override_self h good e

  after_keeps : (word : Text) (w : Walk) (h : Held) (step : Step) → Good h.rows → step_fault s w.position h step ≡ [] → Good ((after_step s.rules word w h step).held).rows
  after_keeps word w h (next waiting) good none = good
  after_keeps word w h (trailing position) good none = good
  after_keeps word w h (subcommand name) good none = good
  after_keeps word w h value good none = positional_keeps (arg_by_index s.rules w.position) word w h _ good none

  turn_keeps : (w : Walk) (word : Text) → Good w.held.rows → turn_fault s names w word ≡ [] → Good ((walked s.rules names w word).held).rows
  unfolding walked
  turn_keeps w word good none = go w.stopped none
    where
      go : (stopped : Option (Text × List Text)) → cond (is_some stopped) [] (or_else (word_fault s names w.is_trailing w.waiting word w.held) (step_fault s w.position (word_met s.rules names w.is_trailing w.waiting w.position word w.held).0 (word_met s.rules names w.is_trailing w.waiting w.position word w.held).1)) ≡ []
          → Good ((walked_from s.rules names stopped w word).held).rows
      go (Some p) e = good
      go None e =
          let parts = first_none (word_fault s names w.is_trailing w.waiting word w.held) _ e in
          after_keeps word w _ _ (word_keeps w.is_trailing w.waiting w.position word w.held good parts.0) parts.1

  pub walk_keeps : (words : List Text) (w : Walk) → Good w.held.rows → walk_fault s names w words ≡ [] → Good ((fold (walked s.rules names) w words).held).rows
  unfolding walk_fault
  walk_keeps [] w good none = good
  walk_keeps (word ∷ rest) w good none =
      let parts = first_none (turn_fault s names w word) _ none in
      walk_keeps rest (walked s.rules names w word) (turn_keeps w word good parts.0) parts.1

-- ---- the end of such a walk

-- the words name another subcommand than `help`
abbrev pub IsNoHelp : Text → Type 0
IsNoHelp name = bytes_eq name (codes "help") ≡ false

abbrev pub StopsWell : Option (Text × List Text) → Type 0
StopsWell stopped = IfSome stopped (λ p. IsNoHelp p.0)

abbrev pub StepsWell : Step → Type 0
StepsWell (subcommand name) = IsNoHelp name
StepsWell _ = Unit {0}

plain_well : (c : List Rule) (waiting : Waiting) (word : Text) (h : Held) → StepsWell (plain_word c waiting word h).1
plain_well c idle word h = tt
plain_well c (option id) word h = tt
plain_well c positional word h = tt

flag_well : (c : List Rule) (waiting : Waiting) (word : Text) (h : Held) (o : Outcome) → StepsWell (after_flag c waiting word h o).1
flag_well c waiting word h done = tt
flag_well c waiting word h (waits id) = tt
flag_well c waiting word h plain = plain_well c waiting word h
flag_well c waiting word h refused = plain_well c waiting word h

other_well : (c : List Rule) (waiting : Waiting) (word : Text) (o : Option (Text × Option Text)) (h : Held) → StepsWell (long_or_other c waiting word o h).1
other_well c waiting word (Some p) h = flag_well c waiting word _ (long_met c (arg_by_long c p.0) p.1 h).1
other_well c waiting word None h = go (short_of word)
  where
    go : (o : Option Text) → StepsWell (short_or_plain c waiting word o h).1
    go None = plain_well c waiting word h
    go (Some flags) = flag_well c waiting word _ (bundle c flags h).1

no_help : (b off : Bool) → off ≡ false → cond (b && not off) (kind.DisplayHelp ∷ kind.InvalidSubcommand ∷ []) [] ≡ [] → b ≡ false
no_help false off on e = refl
no_help true off on e =
    let bad : (kind.DisplayHelp ∷ kind.InvalidSubcommand ∷ []) ≡ [] = rw on at e in
    cc

module _ (s : Shape) (names : Names) (on : s.disable_help_subcommand ≡ false) where
  word_well : (is_trailing : Bool) (waiting : Waiting) (position : ℕ) (word : Text) (h : Held) → word_fault s names is_trailing waiting word h ≡ []
      → StepsWell (word_met s.rules names is_trailing waiting position word h).1
  word_well true waiting position word h none = tt
  word_well false waiting position word h none = go (subcommand_met names waiting word) none
    where
      plainly : (b : Bool) → StepsWell (cond b (h, trailing position) (long_or_other s.rules waiting word (long_of word) h)).1
      plainly true = tt
      plainly false = other_well s.rules waiting word (long_of word) h

      go : (o : Option Text) → other_fault s o word h ≡ [] → StepsWell (subcommand_or_other s.rules o waiting position word h).1
      go (Some name) e = no_help (bytes_eq name (codes "help")) s.disable_help_subcommand on e
      go None e = plainly (bytes_eq word (45 ∷ 45 ∷ []))

  after_well : (word : Text) (w : Walk) (h : Held) (step : Step) → StepsWell step → StopsWell w.stopped → StopsWell (after_step s.rules word w h step).stopped
  after_well word w h (next waiting) well before = before
  after_well word w h (trailing position) well before = before
  after_well word w h (subcommand name) well before = well
  after_well word w h value well before = go (arg_by_index s.rules w.position)
    where
      go : (o : Option Rule) → StopsWell (to_positional s.rules o word w h).stopped
      go None = before
      go (Some a) = tt

  turn_well : (w : Walk) (word : Text) → StopsWell w.stopped → turn_fault s names w word ≡ [] → StopsWell (walked s.rules names w word).stopped
  unfolding walked
  turn_well w word before none = go w.stopped before none
    where
      go : (stopped : Option (Text × List Text)) → StopsWell stopped
          → cond (is_some stopped) [] (or_else (word_fault s names w.is_trailing w.waiting word w.held) (step_fault s w.position (word_met s.rules names w.is_trailing w.waiting w.position word w.held).0 (word_met s.rules names w.is_trailing w.waiting w.position word w.held).1)) ≡ []
          → StopsWell (walked_from s.rules names stopped w word).stopped
      go (Some p) well e = well
      go None well e = after_well word w _ _ (word_well w.is_trailing w.waiting w.position word w.held (first_none (word_fault s names w.is_trailing w.waiting word w.held) _ e).0) before

  pub walk_well : (words : List Text) (w : Walk) → StopsWell w.stopped → walk_fault s names w words ≡ [] → StopsWell (fold (walked s.rules names) w words).stopped
  unfolding walk_fault
  walk_well [] w before none = before
  walk_well (word ∷ rest) w before none =
      let parts = first_none (turn_fault s names w word) _ none in
      walk_well rest (walked s.rules names w word) (turn_well w word before parts.0) parts.1
