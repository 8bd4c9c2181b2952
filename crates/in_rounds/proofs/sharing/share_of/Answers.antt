use Rattle.std.proofs.Common.{rules, ◌≡◌, ◌≤◌, ◌*◌, ◌/◌, ℕ, true, false, Option, Some, None, sym, subst, ◌∙◌, arith}
use Rattle.std.specs.Prelude.{MatchOption, is_some}
use Rattle.std.proofs.lemmas.Nat.{le-div}
use Rattle.std.proofs.Math.Nat.{mul_comm, le-div_iff_mul-le}
use Rattle.in_arena.specs.declared.content.CellClass.{CellClass}
use Rattle.in_compile.specs.declared.cells.Need.{Need}
use Rattle.in_compile.specs.Cells.{IsEnough, IsFirstShort, count_of}
use Rattle.in_rounds.proofs.sharing.share_of.Goals as goal

short_if : (o : Option CellClass) (need free : Need) → MatchOption o (IsEnough (count_of need) (count_of free)) (IsFirstShort (count_of need) (count_of free)) → is_some o ≡ true → (c : CellClass) × IsFirstShort (count_of need) (count_of free) c
short_if None need free h e = absurd (let f : false ≡ true = e in cc)
short_if (Some c) need free h e = (c, h)

pub returns-then-is_some-clause-once : goal.returns-then-is_some-clause-once
returns-then-is_some-clause-once c all d =
    let w = c.args.workers in
    let short = short_if c.first_short.result c.args.largest c.by_class-part.result c.first_short.ensures (sym c.is_some.ensures ∙ c.if-is_some.true) in
    let k = short.0 in
    let l = count_of c.args.largest k in
    let fits = all k in
    let some = c.requires.some in
    let up = le-div l (count_of c.args.free k) w (omega (arith, some)) (subst (λ (z : ℕ). z ≤ count_of c.args.free k) (mul_comm w l) fits) in
    let is : count_of c.by_class-part.result k ≡ count_of c.args.free k / w = (let e = c.by_class-part.ensures k in search rules) in
    let less = short.1.0 in
    absurd (omega (arith, up, is, less))

none_short : (o : Option CellClass) (need free : Need) → MatchOption o (IsEnough (count_of need) (count_of free)) (IsFirstShort (count_of need) (count_of free)) → is_some o ≡ false → (c : CellClass) → count_of need c ≤ count_of free c
none_short None need free h e = h
none_short (Some c) need free h e = absurd (let f : true ≡ false = e in cc)

-- a part for each worker is no more than there is
all_parts : (workers part share there : ℕ) → 1 ≤ workers → part ≡ there / workers → share ≤ part → workers * share ≤ there
all_parts workers part share there some is less =
    subst (λ (z : ℕ). z ≤ there) (mul_comm share workers) ((le-div_iff_mul-le {k = workers} {x = share} {y = there} (omega (arith, some))).0 (subst (λ (z : ℕ). share ≤ z) is less))

pub returns-clause-share : goal.returns-clause-share
returns-clause-share c = λ d. (
    let part : count_of c.by_class-part.result d ≡ count_of c.args.free d / c.args.workers = (let e = c.by_class-part.ensures d in search rules) in
    let most : count_of c.by_class.result d ≤ count_of c.by_class-part.result d = (let e = c.by_class.ensures d in search rules) in
    all_parts c.args.workers (count_of c.by_class-part.result d) (count_of c.by_class.result d) (count_of c.args.free d) c.requires.some part most
    )

pub returns-clause-once : goal.returns-clause-once
returns-clause-once c all d =
    let enough = none_short c.first_short.result c.args.largest c.by_class-part.result c.first_short.ensures (sym c.is_some.ensures ∙ c.if-is_some.false) d in
    (let e = c.by_class.ensures d in search rules)
