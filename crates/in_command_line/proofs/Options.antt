-- The options of `run` after words without fault: each has a text that its parser takes.
use Rattle.std.proofs.Common.{◌≡◌, ◌==◌, ◌||◌, ℕ, Bool, true, false, cond, List, [], ◌∷◌, ◌++◌, length, Option, Some, None, refl, sym, ◌∙◌, ap, subst, ◌≤◌, arith}
use Rattle.std.proofs.lemmas.Option.{same_Some}
use Rattle.std.specs.Prelude.{codes, slice_get}
use Rattle.std.proofs.lemmas.Bool.{eqb-true}
use Rattle.std.specs.Str.{bytes_eq}
use Rattle.std.specs.Str.Parse.{without_leading_plus, digits_value}
use Rattle.clap.specs.Faults.{level_fault, repeat_fault, settle_fault, walk_fault}
use Rattle.clap.specs.Kinds.{range_kinds, value_kinds}
use Rattle.clap.specs.Simple.{Shape, built, built_leaf, filled, help_rule, inherited, with_index}
use Rattle.clap.specs.ValueTests.{accepts}
use Rattle.clap.specs.Values.{refused_kind}
use Rattle.clap.specs.Walk.{Row, Rule, Text, at_row, has_row, more_values, nothing_held, one_of, row_text, reading_by, rows_after, settled, values_or_missing, walk, walk_from, with_default, with_values, without}
use Rattle.clap.specs.declared.builder.value_parser.Reading.{Reading}
use Rattle.clap.specs.declared.builder.value_parser.Reading.TheVariants.{AsWritten}
use Rattle.clap.specs.declared.builder.value_parser.ValueParser.{ValueParser}
use Rattle.clap.specs.declared.builder.value_parser.ValueParser.TheVariants.{Unsigned}
use Rattle.clap.specs.declared.error.kind.ErrorKind.TheVariants as kind
use Rattle.clap.specs.declared.parser.matches.ValueSource.{ValueSource}
use Rattle.clap.specs.declared.parser.matches.ValueSource.TheVariants.{DefaultValue, CommandLine}
use Rattle.clap.proofs.ValueTestLemmas.{accepts-Accepts}
use Rattle.in_arena.specs.Limiting.{most_larger_cells, most_small_cells}
use Rattle.in_limits.specs.Limiting.{least_cells, most_cells, most_interactions, most_workers}
use Rattle.in_limits.specs.declared.limits.Limits.{Limits}
use Rattle.in_command_line.specs.Asking.{HasLimits, IsNumber, option_for}
use Rattle.in_command_line.specs.CommandLine.{command_line, count_option, file_argument, flag, number_option, run_command}
use Rattle.in_command_line.proofs.Faultless.{AllKeep, Keeps, first_none, settled_keeps, walk_keeps}

-- ---- lists of rows

abbrev pub Each : (Row → Type 0) → List Row → Type 0
Each P [] = Unit {0}
Each P (r ∷ rs) = P r × Each P rs

each_append : (P : Row → Type 0) (xs ys : List Row) → Each P xs → Each P ys → Each P (xs ++ ys)
each_append P [] ys h g = g
each_append P (x ∷ xs) ys h g = (h.0, each_append P xs ys h.1 g)

each_at : (P : Row → Type 0) (id : Text) (change : Row → List Row) (missing rows : List Row) → ((r : Row) → P r → Each P (change r)) → Each P missing → Each P rows
    → Each P (at_row id change missing rows)
each_at P id change missing [] changed new h = new
each_at P id change missing (r ∷ rs) changed new h = go (bytes_eq r.id id) (each_at P id change missing rs changed new h.1)
  where
    go : (b : Bool) → Each P (at_row id change missing rs) → Each P (cond b (change r ++ rs) (r ∷ at_row id change missing rs))
    go true later = each_append P (change r) rs (changed r h.0) h.1
    go false later = (h.0, later)

-- ---- the rows of the options with numbers

-- the row has a text between these bounds, as it was written
pub record Fits (least most : ℕ) (r : Row) : Type 0 where
  pub text : Text
  pub reading : r.reading ≡ AsWritten
  pub first : slice_get r.values 0 ≡ Some text
  pub passes : accepts false (Unsigned least most) text ≡ true

-- an option that takes a number and has a default, as a command that is built has it
abbrev pub number_rule : Text → Text → ℕ → ℕ → Rule
number_rule name usual least most = with_index 1 (filled (number_option name usual least most))

abbrev pub workers_rule : Rule
workers_rule = number_rule (codes "workers") (codes "1") 1 most_workers

abbrev pub limit_rule : Rule
limit_rule = number_rule (codes "limit") (codes "1000000") 0 most_interactions

abbrev pub cells_rule : Rule
cells_rule = number_rule (codes "cells") (codes "65536") least_cells most_cells

-- .. and one without a default
abbrev pub count_rule : Text → ℕ → ℕ → Rule
count_rule name least most = with_index 1 (filled (count_option name least most))

abbrev pub small_cells_rule : Rule
small_cells_rule = count_rule (codes "small-cells") least_cells most_small_cells

abbrev pub large_cells_rule : Rule
large_cells_rule = count_rule (codes "large-cells") least_cells most_larger_cells

abbrev pub wide_cells_rule : Rule
wide_cells_rule = count_rule (codes "wide-cells") least_cells most_larger_cells

-- a flag, as a command that is built has it
abbrev pub flag_rule : Text → Rule
flag_rule name = with_index 1 (filled (flag name))

abbrev pub no_net_rule : Rule
no_net_rule = flag_rule (codes "no-net")

abbrev pub stats_rule : Rule
stats_rule = flag_rule (codes "stats")

abbrev pub large_rule : Rule
large_rule = flag_rule (codes "large")

abbrev pub file_rule : Rule
file_rule = with_index 1 (filled file_argument)

abbrev pub help_flag : Rule
help_flag = with_index 1 (filled help_rule)

-- `run`, as the command that is built has it
abbrev pub run_shape : Shape
run_shape = built_leaf (inherited (built command_line).top run_command.top)

-- the row of an option has values that the option takes
abbrev pub IsGood : Row → Type 0
IsGood r = (bytes_eq r.id (codes "workers") ≡ true → Fits 1 most_workers r) × (bytes_eq r.id (codes "limit") ≡ true → Fits 0 most_interactions r) × (bytes_eq r.id (codes "cells") ≡ true → Fits least_cells most_cells r)
    × (bytes_eq r.id (codes "small-cells") ≡ true → Fits least_cells most_small_cells r) × (bytes_eq r.id (codes "large-cells") ≡ true → Fits least_cells most_larger_cells r)
    × (bytes_eq r.id (codes "wide-cells") ≡ true → Fits least_cells most_larger_cells r)

abbrev pub Good : List Row → Type 0
Good rows = Each IsGood rows

first_stays : (xs ys : List Text) (t : Text) → slice_get xs 0 ≡ Some t → slice_get (xs ++ ys) 0 ≡ Some t
first_stays [] ys t e = cc
first_stays (x ∷ xs) ys t e = e

fits_more : (least most : ℕ) (values : List Text) (r : Row) (source : Option ValueSource) → Fits least most r → Fits least most (record r { values = r.values ++ values; source = source })
fits_more least most values r source h = record { text = h.text; reading = h.reading; first = first_stays r.values values h.text h.first; passes = h.passes }

-- more values, after those of a row, or otherwise a new row
values_keep : (id : Text) (how : Reading) (s : ValueSource) (values : List Text) (rows : List Row)
    → IsGood (record { id = id; values = values; count = None; source = Some s; reading = how }) → Good rows → Good (with_values id how s values rows)
values_keep id how s values rows new h =
    each_at IsGood id (more_values s values) _ rows
    (λ r g. ((λ e. fits_more _ _ values r _ (g.0 e), λ e. fits_more _ _ values r _ (g.1 e), λ e. fits_more _ _ values r _ (g.2 e), λ e. fits_more _ _ values r _ (g.3 e), λ e. fits_more _ _ values r _ (g.4 e), λ e. fits_more _ _ values r _ (g.5 e)), tt)) (new, tt) h

without_keeps : (id : Text) (rows : List Row) → Good rows → Good (without id rows)
without_keeps id rows h = each_at IsGood id (λ _. []) [] rows (λ r g. tt) tt h

-- ---- a use with no fault

one_value : (n : ℕ) → range_kinds 1 1 n ≡ [] → n ≡ 1
one_value n e = sym (eqb-true 1 n (go (n == 0) (1 == n) e))
  where
    go : (none one : Bool) → cond none (kind.InvalidValue ∷ []) (cond one [] (kind.WrongNumberOfValues ∷ [])) ≡ [] → one ≡ true
    go true one e = cc
    go false true e = refl
    go false false e = cc

is_taken : (parser : ValueParser) (text : Text) → value_kinds false parser text ≡ [] → accepts false parser text ≡ true
is_taken parser text e = go (accepts false parser text) e
  where
    go : (b : Bool) → cond b [] (refused_kind parser ∷ []) ≡ [] → b ≡ true
    go true e = refl
    go false e = cc

-- a row of one text
abbrev pub new_row : Text → Text → ValueSource → Row
new_row name text s = record { id = name; values = text ∷ []; count = None; source = Some s; reading = AsWritten }

number_keeps : (name usual : Text) (least most : ℕ) → ((text : Text) → accepts false (Unsigned least most) text ≡ true → IsGood (new_row name text CommandLine))
    → Keeps Good (number_rule name usual least most)
number_keeps name usual least most new again [] rows good none = cc
number_keeps name usual least most new again (v ∷ w ∷ vs) rows good none =
    let one = one_value (length (v ∷ w ∷ vs)) (first_none _ _ none).0 in
    absurd (omega arith)
number_keeps name usual least most new again (v ∷ []) rows good none =
    let set = first_none (repeat_fault again name rows) _ (first_none (range_kinds 1 1 1) _ none).1 in
    let passed = first_none (value_kinds false (Unsigned least most) v) [] set.1 in
    values_keep name AsWritten CommandLine (v ∷ []) (without name rows) (new v (is_taken (Unsigned least most) v passed.0)) (without_keeps name rows good)

workers_row : (s : ValueSource) (text : Text) → accepts false (Unsigned 1 most_workers) text ≡ true → IsGood (new_row (codes "workers") text s)
workers_row s text fits = (λ _. record { text = text; reading = refl; first = refl; passes = fits }, λ e. cc, λ e. cc, λ e. cc, λ e. cc, λ e. cc)

limit_row : (s : ValueSource) (text : Text) → accepts false (Unsigned 0 most_interactions) text ≡ true → IsGood (new_row (codes "limit") text s)
limit_row s text fits = (λ e. cc, λ _. record { text = text; reading = refl; first = refl; passes = fits }, λ e. cc, λ e. cc, λ e. cc, λ e. cc)

cells_row : (s : ValueSource) (text : Text) → accepts false (Unsigned least_cells most_cells) text ≡ true → IsGood (new_row (codes "cells") text s)
cells_row s text fits = (λ e. cc, λ e. cc, λ _. record { text = text; reading = refl; first = refl; passes = fits }, λ e. cc, λ e. cc, λ e. cc)

small_cells_row : (s : ValueSource) (text : Text) → accepts false (Unsigned least_cells most_small_cells) text ≡ true → IsGood (new_row (codes "small-cells") text s)
small_cells_row s text fits = (λ e. cc, λ e. cc, λ e. cc, λ _. record { text = text; reading = refl; first = refl; passes = fits }, λ e. cc, λ e. cc)

large_cells_row : (s : ValueSource) (text : Text) → accepts false (Unsigned least_cells most_larger_cells) text ≡ true → IsGood (new_row (codes "large-cells") text s)
large_cells_row s text fits = (λ e. cc, λ e. cc, λ e. cc, λ e. cc, λ _. record { text = text; reading = refl; first = refl; passes = fits }, λ e. cc)

wide_cells_row : (s : ValueSource) (text : Text) → accepts false (Unsigned least_cells most_larger_cells) text ≡ true → IsGood (new_row (codes "wide-cells") text s)
wide_cells_row s text fits = (λ e. cc, λ e. cc, λ e. cc, λ e. cc, λ e. cc, λ _. record { text = text; reading = refl; first = refl; passes = fits })

-- a use doesn't read the defaults
count_keeps : (name : Text) (least most : ℕ) → ((text : Text) → accepts false (Unsigned least most) text ≡ true → IsGood (new_row name text CommandLine)) → Keeps Good (count_rule name least most)
count_keeps name least most new = number_keeps name (codes "1") least most new

-- the rows of the other arguments are open
flag_keeps : (name : Text) → ((values : List Text) → IsGood (record { id = name; values = values; count = None; source = Some CommandLine; reading = reading_by (flag_rule name) })) → Keeps Good (flag_rule name)
flag_keeps name new again values rows good none =
    values_keep name (reading_by (flag_rule name)) CommandLine (values_or_missing (flag_rule name) values) (without name rows) (new (values_or_missing (flag_rule name) values)) (without_keeps name rows good)

file_keeps : Keeps Good file_rule
file_keeps again values rows good none =
    values_keep (codes "file") (reading_by file_rule) CommandLine (values_or_missing file_rule values) (without (codes "file") rows) (λ e. cc, λ e. cc, λ e. cc, λ e. cc, λ e. cc, λ e. cc) (without_keeps (codes "file") rows good)

-- the rules of arguments with other rows, after those with numbers
others_keep : (a : Rule) (w x v y z : Bool) → cond w (Some no_net_rule) (cond x (Some stats_rule) (cond v (Some large_rule) (cond y (Some file_rule) (cond z (Some help_flag) None)))) ≡ Some a → Keeps Good a
others_keep a true x v y z e = subst (Keeps Good) (same_Some _ _ e) (flag_keeps (codes "no-net") (λ values. (λ e. cc, λ e. cc, λ e. cc, λ e. cc, λ e. cc, λ e. cc)))
others_keep a false true v y z e = subst (Keeps Good) (same_Some _ _ e) (flag_keeps (codes "stats") (λ values. (λ e. cc, λ e. cc, λ e. cc, λ e. cc, λ e. cc, λ e. cc)))
others_keep a false false true y z e = subst (Keeps Good) (same_Some _ _ e) (flag_keeps (codes "large") (λ values. (λ e. cc, λ e. cc, λ e. cc, λ e. cc, λ e. cc, λ e. cc)))
others_keep a false false false true z e = subst (Keeps Good) (same_Some _ _ e) file_keeps
others_keep a false false false false true e = subst (Keeps Good) (same_Some _ _ e) (λ again values rows good none. good)
others_keep a false false false false false e = cc

pub options_keep : AllKeep Good (workers_rule ∷ limit_rule ∷ cells_rule ∷ small_cells_rule ∷ large_cells_rule ∷ wide_cells_rule ∷ no_net_rule ∷ stats_rule ∷ large_rule ∷ file_rule ∷ help_flag ∷ [])
options_keep f a is =
    go _ (others_keep a (f no_net_rule) (f stats_rule) (f large_rule) (f file_rule) (f help_flag)) (f workers_rule) (f limit_rule) (f cells_rule) (f small_cells_rule) (f large_cells_rule) (f wide_cells_rule) is
  where
    go : (others : Option Rule) → (others ≡ Some a → Keeps Good a) → (q r s t u v : Bool) → cond q (Some workers_rule) (cond r (Some limit_rule) (cond s (Some cells_rule) (cond t (Some small_cells_rule) (cond u (Some large_cells_rule) (cond v (Some wide_cells_rule) others))))) ≡ Some a
        → Keeps Good a
    go others keep true r s t u v e = subst (Keeps Good) (same_Some _ _ e) (number_keeps (codes "workers") (codes "1") 1 most_workers (workers_row CommandLine))
    go others keep false true s t u v e = subst (Keeps Good) (same_Some _ _ e) (number_keeps (codes "limit") (codes "1000000") 0 most_interactions (limit_row CommandLine))
    go others keep false false true t u v e = subst (Keeps Good) (same_Some _ _ e) (number_keeps (codes "cells") (codes "65536") least_cells most_cells (cells_row CommandLine))
    go others keep false false false true u v e = subst (Keeps Good) (same_Some _ _ e) (count_keeps (codes "small-cells") least_cells most_small_cells (small_cells_row CommandLine))
    go others keep false false false false true v e = subst (Keeps Good) (same_Some _ _ e) (count_keeps (codes "large-cells") least_cells most_larger_cells (large_cells_row CommandLine))
    go others keep false false false false false true e = subst (Keeps Good) (same_Some _ _ e) (count_keeps (codes "wide-cells") least_cells most_larger_cells (wide_cells_row CommandLine))
    go others keep false false false false false false e = keep e

-- ---- the default texts of missing options

default_keeps : (name usual : Text) (least most : ℕ) → IsGood (new_row name usual DefaultValue) → (rows : List Row) → Good rows → Good (with_default rows (number_rule name usual least most))
default_keeps name usual least most new rows good = go (has_row name rows)
  where
    go : (b : Bool) → Good (cond b rows (with_values name AsWritten DefaultValue (usual ∷ []) rows))
    go true = good
    go false = values_keep name AsWritten DefaultValue (usual ∷ []) rows new good

-- a row of the id is there after values are added to it, and each other row stays
has_new : (id : Text) (how : Reading) (s : ValueSource) (values : List Text) (rows : List Row) → bytes_eq id id ≡ true → has_row id (with_values id how s values rows) ≡ true
has_new id how s values [] same = rw same refl
has_new id how s values (r ∷ rs) same = go (bytes_eq r.id id) refl (has_new id how s values rs same)
  where
    go : (b : Bool) → bytes_eq r.id id ≡ b → has_row id (with_values id how s values rs) ≡ true
        → has_row id (cond b (more_values s values r ++ rs) (r ∷ with_values id how s values rs)) ≡ true
    go true is later = rw is refl
    go false is later = rw is later

has_kept : (name id : Text) (how : Reading) (s : ValueSource) (values : List Text) (rows : List Row) → has_row name rows ≡ true → has_row name (with_values id how s values rows) ≡ true
has_kept name id how s values [] has = cc
has_kept name id how s values (r ∷ rs) has = go (bytes_eq r.id id) (has_kept name id how s values rs)
  where
    here : (b : Bool) → (b || has_row name rs) ≡ true → (has_row name rs ≡ true → has_row name (with_values id how s values rs) ≡ true) → (b || has_row name (with_values id how s values rs)) ≡ true
    here true h later = refl
    here false h later = later h

    go : (b : Bool) → (has_row name rs ≡ true → has_row name (with_values id how s values rs) ≡ true)
        → has_row name (cond b (more_values s values r ++ rs) (r ∷ with_values id how s values rs)) ≡ true
    go true later = has
    go false later = here (bytes_eq r.id name) has later

has_default : (name usual : Text) (least most : ℕ) (rows : List Row) → bytes_eq name name ≡ true → has_row name (with_default rows (number_rule name usual least most)) ≡ true
has_default name usual least most rows same = go (has_row name rows) refl
  where
    go : (b : Bool) → has_row name rows ≡ b → has_row name (cond b rows (with_values name AsWritten DefaultValue (usual ∷ []) rows)) ≡ true
    go true is = is
    go false is = has_new name AsWritten DefaultValue (usual ∷ []) rows same

has_still : (other name usual : Text) (least most : ℕ) (rows : List Row) → has_row other rows ≡ true → has_row other (with_default rows (number_rule name usual least most)) ≡ true
has_still other name usual least most rows has = go (has_row name rows)
  where
    go : (b : Bool) → has_row other (cond b rows (with_values name AsWritten DefaultValue (usual ∷ []) rows)) ≡ true
    go true = has
    go false = has_kept other name AsWritten DefaultValue (usual ∷ []) rows has

-- a flag's usual text
flag_default_keeps : (name : Text) → IsGood (record { id = name; values = codes "false" ∷ []; count = None; source = Some DefaultValue; reading = reading_by (flag_rule name) }) → (rows : List Row) → Good rows
    → Good (with_default rows (flag_rule name))
flag_default_keeps name new rows good = go (has_row name rows)
  where
    go : (b : Bool) → Good (cond b rows (with_values name (reading_by (flag_rule name)) DefaultValue (codes "false" ∷ []) rows))
    go true = good
    go false = values_keep name (reading_by (flag_rule name)) DefaultValue (codes "false" ∷ []) rows new good

has_beside : (other name : Text) (rows : List Row) → has_row other rows ≡ true → has_row other (with_default rows (flag_rule name)) ≡ true
has_beside other name rows has = go (has_row name rows)
  where
    go : (b : Bool) → has_row other (cond b rows (with_values name (reading_by (flag_rule name)) DefaultValue (codes "false" ∷ []) rows)) ≡ true
    go true = has
    go false = has_kept other name (reading_by (flag_rule name)) DefaultValue (codes "false" ∷ []) rows has

-- the rows with the usual texts of the flags
abbrev with_flags : List Row → List Row
with_flags rows = with_default (with_default (with_default rows no_net_rule) stats_rule) large_rule

has_beside_flags : (other : Text) (rows : List Row) → has_row other rows ≡ true → has_row other (with_flags rows) ≡ true
has_beside_flags other rows has =
    has_beside other (codes "large") (with_default (with_default rows no_net_rule) stats_rule)
    (has_beside other (codes "stats") (with_default rows no_net_rule) (has_beside other (codes "no-net") rows has))

flags_keep : (rows : List Row) → Good rows → Good (with_flags rows)
flags_keep rows good =
    let with_no_net = with_default rows no_net_rule in
    let good_no_net = flag_default_keeps (codes "no-net") (λ e. cc, λ e. cc, λ e. cc, λ e. cc, λ e. cc, λ e. cc) rows good in
    let good_stats = flag_default_keeps (codes "stats") (λ e. cc, λ e. cc, λ e. cc, λ e. cc, λ e. cc, λ e. cc) with_no_net good_no_net in
    flag_default_keeps (codes "large") (λ e. cc, λ e. cc, λ e. cc, λ e. cc, λ e. cc, λ e. cc) (with_default with_no_net stats_rule) good_stats

-- the options of each class, the file and the help flag have none
either_way : (b : Bool) (rows : List Row) → cond b rows rows ≡ rows
either_way true rows = refl
either_way false rows = refl

with_count : (name : Text) (least most : ℕ) (rows : List Row) → with_default rows (count_rule name least most) ≡ rows
with_count name least most rows = either_way (has_row name rows) rows

with_counts : (rows : List Row) → with_default (with_default (with_default rows small_cells_rule) large_cells_rule) wide_cells_rule ≡ rows
with_counts rows =
    with_count (codes "wide-cells") least_cells most_larger_cells (with_default (with_default rows small_cells_rule) large_cells_rule)
    ∙ with_count (codes "large-cells") least_cells most_larger_cells (with_default rows small_cells_rule)
    ∙ with_count (codes "small-cells") least_cells most_small_cells rows

with_file : (rows : List Row) → with_default rows file_rule ≡ rows
with_file rows = either_way (has_row (codes "file") rows) rows

with_help : (rows : List Row) → with_default rows help_flag ≡ rows
with_help rows = either_way (has_row (codes "help") rows) rows

-- ---- the numbers

-- the text of the option's row spells a number between the bounds
row_text_is : (r : Row) (text : Text) → r.reading ≡ AsWritten → slice_get r.values 0 ≡ Some text → row_text r ≡ Some text
row_text_is r text reading first = rw (reading, first) refl

read_number : (name : Text) (least most : ℕ) → ((r : Row) → IsGood r → bytes_eq r.id name ≡ true → Fits least most r) → (rows : List Row) → Good rows → has_row name rows ≡ true
    → (n : ℕ) × IsNumber name rows n × (least ≤ n) × (n ≤ most)
read_number name least most fits [] good has = cc
read_number name least most fits (r ∷ rs) good has = go (bytes_eq r.id name) refl has (read_number name least most fits rs good.1)
  where
    go : (b : Bool) → bytes_eq r.id name ≡ b → (b || has_row name rs) ≡ true → (has_row name rs ≡ true → (n : ℕ) × IsNumber name rs n × (least ≤ n) × (n ≤ most))
        → (n : ℕ) × IsNumber name (r ∷ rs) n × (least ≤ n) × (n ≤ most)
    go true is h later =
        let f = fits r good.0 is in
        let a = accepts-Accepts false (Unsigned least most) f.text f.passes in
        let one : one_of name (r ∷ rs) ≡ Some f.text = rw is (row_text_is r f.text f.reading f.first) in
        (digits_value 10 (without_leading_plus f.text), (f.text, one, (a.0, refl)), a.2, a.3)
    go false is h later =
        let l = later h in
        let one : one_of name (r ∷ rs) ≡ one_of name rs = rw is refl in
        (l.0, (l.1.0, one ∙ l.1.1, l.1.2), l.2, l.3)

-- the number of cells of a class, if each has its own option or that for all
read_count : (name : Text) (most : ℕ) → most_cells ≤ most → ((r : Row) → IsGood r → bytes_eq r.id name ≡ true → Fits least_cells most r) → (rows : List Row) → Good rows → has_row (codes "cells") rows ≡ true
    → (n : ℕ) × IsNumber (option_for name rows) rows n × (least_cells ≤ n) × (n ≤ most)
read_count name most more fits rows good has = go (has_row name rows) refl
  where
    go : (b : Bool) → has_row name rows ≡ b → (n : ℕ) × IsNumber (cond b name (codes "cells")) rows n × (least_cells ≤ n) × (n ≤ most)
    go true own = read_number name least_cells most fits rows good own
    go false own =
        let usual = read_number (codes "cells") least_cells most_cells (λ r g. g.2) rows good has in
        (usual.0, usual.1, usual.2, omega (arith, usual.3, more))

-- the options of `run` after words with no fault
pub limits_asked : (args : List Text) → level_fault run_shape [] nothing_held args false [] ≡ [] → (l : Limits) × HasLimits (rows_after run_shape.rules [] args) l
limits_asked args none =
    let end = (walk run_shape.rules [] nothing_held args).held in
    let first = first_none (walk_fault run_shape [] (walk_from nothing_held) args) _ none in
    let second = first_none (settle_fault run_shape.rules run_shape.args_override_self end) _ first.1 in
    let walked = walk_keeps Good run_shape options_keep [] args (walk_from nothing_held) tt first.0 in
    let rows = (settled run_shape.rules end).rows in
    let good = settled_keeps Good run_shape.rules options_keep run_shape.args_override_self end walked second.0 in
    let with_workers = with_default rows workers_rule in
    let with_limit = with_default with_workers limit_rule in
    let with_all = with_default with_limit cells_rule in
    let good_workers = default_keeps (codes "workers") (codes "1") 1 most_workers (workers_row DefaultValue (codes "1") refl) rows good in
    let good_limit = default_keeps (codes "limit") (codes "1000000") 0 most_interactions (limit_row DefaultValue (codes "1000000") refl) with_workers good_workers in
    let good_all = default_keeps (codes "cells") (codes "65536") least_cells most_cells (cells_row DefaultValue (codes "65536") refl) with_limit good_limit in
    let workers_first = has_default (codes "workers") (codes "1") 1 most_workers rows refl in
    let workers_then = has_still (codes "workers") (codes "limit") (codes "1000000") 0 most_interactions with_workers workers_first in
    let has_workers = has_still (codes "workers") (codes "cells") (codes "65536") least_cells most_cells with_limit workers_then in
    let limit_first = has_default (codes "limit") (codes "1000000") 0 most_interactions with_workers refl in
    let has_limit = has_still (codes "limit") (codes "cells") (codes "65536") least_cells most_cells with_limit limit_first in
    let has_cells = has_default (codes "cells") (codes "65536") least_cells most_cells with_limit refl in
    let flagged = with_flags with_all in
    let good_flags = flags_keep with_all good_all in
    let workers = read_number (codes "workers") 1 most_workers (λ r g. g.0) flagged good_flags (has_beside_flags (codes "workers") with_all has_workers) in
    let limit = read_number (codes "limit") 0 most_interactions (λ r g. g.1) flagged good_flags (has_beside_flags (codes "limit") with_all has_limit) in
    let has_still_cells = has_beside_flags (codes "cells") with_all has_cells in
    let small = read_count (codes "small-cells") most_small_cells (omega arith) (λ r g. g.3) flagged good_flags has_still_cells in
    let large = read_count (codes "large-cells") most_larger_cells (omega arith) (λ r g. g.4) flagged good_flags has_still_cells in
    let wide = read_count (codes "wide-cells") most_larger_cells (omega arith) (λ r g. g.5) flagged good_flags has_still_cells in
    let l : Limits = record {
      workers = workers.0;
      limit = limit.0;
      cells = record { small_cells = small.0; large_cells = large.0; wide_cells = wide.0 };
      some_worker = workers.2;
      few_workers = workers.3;
      limit_in_range = limit.3;
      least = (small.2, large.2, wide.2);
      most = record { small = small.3; large = large.3; wide = wide.3 };
    } in
    let with_counts_flags = with_flags (with_default (with_default (with_default with_all small_cells_rule) large_cells_rule) wide_cells_rule) in
    let same : with_counts_flags ≡ flagged = ap with_flags (with_counts with_all) in
    (l, subst (λ (rs : List Row). HasLimits rs l) (sym (with_help (with_default with_counts_flags file_rule) ∙ with_file with_counts_flags ∙ same)) (workers.1, limit.1, (small.1, large.1, wide.1)))
