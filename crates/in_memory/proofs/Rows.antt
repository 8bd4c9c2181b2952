-- One cell is taken out of a row of cells, put back, or seen; two owners' rows become one; room is a row. Assumes `Logic`.
use mathlib.Core.Path.{◌≡◌, refl, ap}
use Prim.Native.Nat.{ℕ, zero, suc, ◌+◌, ◌*◌, ◌<◌}
use native.Mathlib.Omega.{arith}
use native.Mathlib.Nat.{zero-mul, suc-mul}
use mathlib.Core.List.{List, [], ◌∷◌}
use lib.ListN.{length, set, get_or, replicate}
use seplogic.Ra.Ura.{Ura}
use base.Fraction.{full_share}
use base.Logic.{ent, sep, emp, via, snd∗, id⊢}
use base.Fml.{Fml, Lft, ftrue, fsep, fat, froom}
use mir.Syntax.{ty_array}
use mir.Val.{Val}
use types.Logic.{Logic, sem}
use types.Kit.{‵, some, given, ◌⊛◌, ◌$◌, ◌∵◌, !, qed, by, move, keep, use0, use1, use2, pick, learn, split, fsplit, fjoin, rewrite, done}
use denote.Steps.{nothing}
use Rattle.std.specs.Prelude.{Bool, true, false, not, Option, Some, None}
use Rattle.core.proofs.mem.Param.{El, R, el_x, elτ}
use Rattle.std_alloc.proofs.RcSteps.{Good}
use Rattle.in_memory.specs.Places.{AreHere, either_of, together}
use Rattle.in_memory.specs.Splitting.{held, those_of, but}
use Rattle.in_memory.specs.Ownership.{cell, row, cell_lent, row_lent}
use Rattle.in_memory.proofs.Memory.{Place, sz, value_out}

pub filled_inside : {X : Type 0} (cs : List (Option X)) (i : ℕ) (x : X) → get_or cs i None ≡ Some x → i < length cs
filled_inside [] i x e = cc
filled_inside (c ∷ cs) zero x e = omega arith
filled_inside (c ∷ cs) (suc i) x e = omega (arith, filled_inside cs i x e)

pub length-together : {X : Type 0} (cs ds : List (Option (Option X))) → length (together cs ds) ≡ length cs
length-together [] ds = refl
length-together (c ∷ cs) [] = refl
length-together (c ∷ cs) (d ∷ ds) = ap suc (length-together cs ds)

module _ (E : El) {M : Type 1} {𝓤 : Ura M} (𝓛 : Logic 𝓤) (b : ℕ) where
  open 𝓛 use {H}

  abbrev s : ℕ
  s = sz E

  abbrev Cell : ℕ → Place E → Fml
  Cell = cell (R E) b

  abbrev Row : ℕ → List (Place E) → Fml
  Row = row (R E) b

  -- the row from o on, except its i-th cell
  abbrev pub Others : ℕ → List (Place E) → ℕ → Fml
  Others o [] i = ftrue
  Others o (c ∷ cs) zero = Row (o + s) cs
  Others o (c ∷ cs) (suc i) = fsep (Cell o c) (Others (o + s) cs i)

  pub cell_out : (o : ℕ) (cs : List (Place E)) (i at : ℕ) → i < length cs → at ≡ i * s + o → ent 𝓤 (sem 𝓛 (Row o cs)) (sep 𝓤 (sem 𝓛 (Cell at (get_or cs i None))) (sem 𝓛 (Others o cs i)))
  cell_out o [] i at lt e = absurd (omega arith)
  cell_out o (c ∷ cs) zero at lt e = qed 𝓛 (‵ (Row o (c ∷ cs)) ∷ []) ∵ fsplit ! $ rewrite ! 0 (λ (k : ℕ). ‵ (Cell k c)) {x = at} (omega (arith, e, zero-mul s)) refl $ done !
  cell_out o (c ∷ cs) (suc i) at lt e =
      qed 𝓛 (‵ (Row o (c ∷ cs)) ∷ []) ∵ fsplit ! $ move ! (1 ∷ []) $
      use1 𝓛 (‵ (Cell at (get_or cs i None)) ⊛ ‵ (Others (o + s) cs i)) (cell_out (o + s) cs i at (omega arith) (omega (arith, e, suc-mul i s))) $ split ! $ move ! (2 ∷ 1 ∷ []) $ fjoin ! $ move ! (1 ∷ 0 ∷ []) $ done !

  pub cell_in : (o : ℕ) (cs : List (Place E)) (i at : ℕ) (c : Place E) → i < length cs → at ≡ i * s + o → ent 𝓤 (sep 𝓤 (sem 𝓛 (Cell at c)) (sem 𝓛 (Others o cs i))) (sem 𝓛 (Row o (set cs i c)))
  cell_in o [] i at c lt e = absurd (omega arith)
  cell_in o (d ∷ cs) zero at c lt e = qed 𝓛 (‵ (Cell at c) ∷ ‵ (Row (o + s) cs) ∷ []) ∵ rewrite ! 0 (λ (k : ℕ). ‵ (Cell k c)) {x = o} (omega (arith, e, zero-mul s)) refl $ fjoin ! $ done !
  cell_in o (d ∷ cs) (suc i) at c lt e =
      qed 𝓛 (‵ (Cell at c) ∷ ‵ (Others o (d ∷ cs) (suc i)) ∷ []) ∵ move ! (1 ∷ []) $ fsplit ! $ move ! (2 ∷ 1 ∷ []) $
      use2 𝓛 (‵ (Row (o + s) (set cs i c))) (cell_in (o + s) cs i at c (omega arith) (omega (arith, e, suc-mul i s))) $ move ! (1 ∷ 0 ∷ []) $ fjoin ! $ done !

  -- a row of another owner's cells takes nothing
  pub none_here : (o n : ℕ) → ent 𝓤 (emp 𝓤) (sem 𝓛 (Row o (replicate n None)))
  none_here o zero = id⊢ 𝓤 (emp 𝓤)
  none_here o (suc n) = qed 𝓛 [] ∵ use0 𝓛 (‵ (Row (o + s) (replicate n None))) (none_here (o + s) n) $ nothing ! $ fjoin ! $ done !

  -- the chosen cells go to another owner
  pub rows_part : (p : ℕ → Bool) (o : ℕ) (cs : List (Place E)) → ent 𝓤 (sem 𝓛 (Row o cs)) (sep 𝓤 (sem 𝓛 (Row o (those_of p cs))) (sem 𝓛 (Row o (those_of (but p) cs))))
  rows_part p o [] = qed 𝓛 (‵ (Row o []) ∷ []) ∵ nothing ! $ done !
  rows_part p o (c ∷ cs) =
      let q : ℕ → Bool = λ k. p (suc k) in
      qed 𝓛 (‵ (Row o (c ∷ cs)) ∷ []) ∵ fsplit ! $ use1 𝓛 (‵ (Cell o (held (p 0) c)) ⊛ ‵ (Cell o (held (not (p 0)) c))) (one (p 0) o c) $ split ! $ move ! (2 ∷ []) $
      use1 𝓛 (‵ (Row (o + s) (those_of q cs)) ⊛ ‵ (Row (o + s) (those_of (but q) cs))) (rows_part q (o + s) cs) $ split ! $ move ! (2 ∷ 0 ∷ []) $ fjoin ! $ move ! (2 ∷ 1 ∷ []) $ fjoin ! $ move ! (1 ∷ 0 ∷ []) $ done !
    where
      one : (b : Bool) (o : ℕ) (c : Place E) → ent 𝓤 (sem 𝓛 (Cell o c)) (sep 𝓤 (sem 𝓛 (Cell o (held b c))) (sem 𝓛 (Cell o (held (not b) c))))
      one true o c = qed 𝓛 (‵ (Cell o c) ∷ []) ∵ nothing ! $ move ! (1 ∷ 0 ∷ []) $ done !
      one false o c = qed 𝓛 (‵ (Cell o c) ∷ []) ∵ nothing ! $ done !

  -- two owners' cells become one owner's
  pub rows_join : (o : ℕ) (cs ds : List (Place E)) → ent 𝓤 (sep 𝓤 (sem 𝓛 (Row o cs)) (sem 𝓛 (Row o ds))) (sem 𝓛 (Row o (together cs ds)))
  rows_join o [] ds = qed 𝓛 (‵ (Row o []) ∷ ‵ (Row o ds) ∷ []) ∵ keep ! (0 ∷ []) $ done !
  rows_join o (c ∷ cs) [] = qed 𝓛 (‵ (Row o (c ∷ cs)) ∷ ‵ (Row o []) ∷ []) ∵ keep ! (0 ∷ []) $ done !
  rows_join o (c ∷ cs) (d ∷ ds) =
      qed 𝓛 (‵ (Row o (c ∷ cs)) ∷ ‵ (Row o (d ∷ ds)) ∷ []) ∵ fsplit ! $ move ! (2 ∷ []) $ fsplit ! $ move ! (3 ∷ 1 ∷ []) $
      use2 𝓛 (‵ (Row (o + s) (together cs ds))) (rows_join (o + s) cs ds) $ move ! (2 ∷ 1 ∷ []) $ use2 𝓛 (‵ (Cell o (either_of c d))) (either o c d) $ fjoin ! $ done !
    where
      either : (o : ℕ) (c d : Place E) → ent 𝓤 (sep 𝓤 (sem 𝓛 (Cell o c)) (sem 𝓛 (Cell o d))) (sem 𝓛 (Cell o (either_of c d)))
      either o None d = qed 𝓛 (‵ (Cell o None) ∷ ‵ (Cell o d) ∷ []) ∵ keep ! (1 ∷ []) $ done !
      either o (Some c) d = qed 𝓛 (‵ (Cell o (Some c)) ∷ ‵ (Cell o d) ∷ []) ∵ keep ! (0 ∷ []) $ done !

  -- room for an array is a row that was never written
  pub of_room : (n o : ℕ) → ent 𝓤 (H.room (ty_array (elτ E) n) b o) (sem 𝓛 (Row o (replicate n (Some None))))
  of_room zero o = qed 𝓛 (‵ (froom (ty_array (elτ E) 0) b o) ∷ []) ∵ keep ! [] $ done !
  of_room (suc n) o =
      qed 𝓛 (‵ (froom (ty_array (elτ E) (suc n)) b o) ∷ []) ∵
      use1 𝓛 (‵ (froom (elτ E) b o) ⊛ ‵ (froom (ty_array (elτ E) n) b (o + s))) (𝓛.laws.room_uncons (elτ E) n b o) $ split ! $
      use1 𝓛 (‵ (Cell o (Some None))) (𝓛.laws.room-raw (elτ E) b o) $ move ! (1 ∷ []) $ use1 𝓛 (‵ (Row (o + s) (replicate n (Some None)))) (of_room n (o + s)) $ move ! (1 ∷ 0 ∷ []) $ fjoin ! $ done !

  -- a cell here is room for a value, with any content
  pub cell_room : (c : Option (el_x E)) (o : ℕ) → ent 𝓤 (sem 𝓛 (Cell o (Some c))) (H.room (elτ E) b o)
  cell_room None o = 𝓛.laws.raw-room (elτ E) b o
  cell_room (Some x) o =
      qed 𝓛 (‵ (Cell o (Some (Some x))) ∷ []) ∵
      use1 𝓛 (some (λ (v : Val). given (Good (elτ E) v) (‵ (fat full_share (elτ E) b o v) ⊛ ‵ (E.row.own_val x (v ∷ []))))) (value_out E.row E.laws 𝓛 x b o) $
      pick ! (λ v. learn ! (λ good. split ! $ keep ! (0 ∷ []) $ by ! (𝓛.laws.at_room (elτ E) b o v)))

  -- a row with all its cells here is room for an array
  pub to_room : (cs : List (Place E)) (o : ℕ) → AreHere cs → ent 𝓤 (sem 𝓛 (Row o cs)) (H.room (ty_array (elτ E) (length cs)) b o)
  to_room [] o here = 𝓛.laws.room_nil (elτ E) b o
  to_room (None ∷ cs) o here = absurd here
  to_room (Some c ∷ cs) o here =
      qed 𝓛 (‵ (Row o (Some c ∷ cs)) ∷ []) ∵ fsplit ! $ use1 𝓛 (‵ (froom (elτ E) b o)) (cell_room c o) $ move ! (1 ∷ []) $
      use1 𝓛 (‵ (froom (ty_array (elτ E) (length cs)) b (o + s))) (to_room cs (o + s) here) $ move ! (1 ∷ 0 ∷ []) $ by ! (𝓛.laws.room_cons (elτ E) (length cs) b o)

  -- the part of one cell that a `&` to a row shows
  pub cell_seen : (κ : Lft) (o : ℕ) (cs : List (Place E)) (i at : ℕ) → i < length cs → at ≡ i * s + o → ent 𝓤 (sem 𝓛 (row_lent (R E) b o cs κ)) (sem 𝓛 (cell_lent (R E) b at (get_or cs i None) κ))
  cell_seen κ o [] i at lt e = absurd (omega arith)
  cell_seen κ o (c ∷ cs) zero at lt e =
      qed 𝓛 (‵ (row_lent (R E) b o (c ∷ cs) κ) ∷ []) ∵ fsplit ! $ rewrite ! 0 (λ (k : ℕ). ‵ (cell_lent (R E) b k c κ)) {x = at} (omega (arith, e, zero-mul s)) refl $ keep ! (0 ∷ []) $ done !
  cell_seen κ o (c ∷ cs) (suc i) at lt e =
      via 𝓤 (sem 𝓛 (row_lent (R E) b (o + s) cs κ)) (snd∗ 𝓤 (sem 𝓛 (cell_lent (R E) b o c κ)) (sem 𝓛 (row_lent (R E) b (o + s) cs κ))) (cell_seen κ (o + s) cs i at (omega arith) (omega (arith, e, suc-mul i s)))
