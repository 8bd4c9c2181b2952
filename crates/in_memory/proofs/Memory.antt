-- The common part of the walks over a row of cells: a base and an owner of cells as machine values, and the contents of one cell. Assumes `Logic`.
use mathlib.Core.Path.{◌≡◌, refl, subst}
use Prim.Native.Nat.{ℕ}
use mathlib.Core.List.{List, [], ◌∷◌, ◌++◌}
use seplogic.Ra.Ura.{Ura}
use base.Fraction.{full_share}
use mir.Syntax.{Ty}
use mir.Val.{Val, vstruct, vcons, vnil, of_list}
use base.Logic.{SProp, ent, sep, emp, ex, guard, via}
use base.Fml.{Lft, GName, Share, fat, flft, fobs, fbor}
use types.Logic.{Logic, sem}
use contract.Monad.{fact, fact_i}
use types.Kit.{Item, Goal, Seq, Step, step, prop, ‵, raw, some, ◌⊛◌, ◌$◌, ◌∵◌, !, qed, move, drop as skip, use0, use1, pick, split, check, show, frame, fsplit, fjoin, fpick, fpack, feq_i, feq_l, rewrite, done}
use types.SemTy.{Body as Borrowed}
use denote.RattleType.{RattleType, Valss}
use denote.Laws.{Typed, Is, shows}
use denote.Param.{param, layout}
use denote.Param.Laws.{Laws, param_laws}
use denote.Memory.{mem, part_at}
use denote.RawPtr.{Ptr, RawPtr, ptr_val}
use denote.Shadow.{makes_shadow}
use denote.Steps.{nothing, peeks}
use denote.Struct.Struct.{Shape, Struct, within}
use denote.Struct.Owning.{shape}
use borrow.Table.OneValue.{part_in, part_out}
use Rattle.std.specs.Prelude.{Option}
use Rattle.std.specs.Mem.{type_size}
use Rattle.core.proofs.mem.Param.{El, R, el_x}
use Rattle.std_alloc.proofs.RcSteps.{Good, word}
use Rattle.in_memory.specs.Places.{IsFilled}
use Rattle.in_memory.specs.contracts.cells.Cells as cells
use Rattle.in_memory.specs.contracts.cells.Base as base-row

module _ (E : El) where
  abbrev pub Owner : RattleType
  Owner = cells.the_row (R E)

  abbrev pub Begin : RattleType
  Begin = base-row.the_row (R E)

  -- the one field of an owner, which takes no bytes
  abbrev pub Mark : RattleType
  Mark = Struct (shape (cells.the_type (R E)))

  abbrev pub sz : ℕ
  sz = type_size (R E)

  abbrev pub Place : Type 0
  Place = Option (Option (el_x E))

  -- the base is that of the owner's row, and a value is in the cell of that number
  abbrev pub IsFilledFrom : Owner.Denot → Begin.Denot → ℕ → Type 0
  IsFilledFrom d base index = (base.ptr ≡ d.at) × IsFilled d.slots index

  -- an owner in the same row, of these cells
  abbrev pub HasCells : Owner.Denot → List Place → Owner.Denot → Type 0
  HasCells d places new = (new.at ≡ d.at) × (new.slots ≡ places)

  -- the meaning of a `&mut` to an owner, once it leads to this owner
  abbrev pub lent : {M : Type 1} {𝓤 : Ura M} (𝓛 : Logic 𝓤) → Lft → Share → ℕ → ℕ → GName → Owner.Denot → List (Item 𝓤)
  lent 𝓛 κ q rb ro γ new = ‵ (fobs γ (Owner.coded.code new)) ∷ ‵ (fbor κ (Borrowed (mem Owner) rb ro γ)) ∷ ‵ (flft κ q) ∷ []

abbrev one_pointer : Shape
one_pointer = record { name = []; args = []; types = []; fields = RawPtr ∷ [] }

abbrev pub mark : Val
mark = vstruct (vcons (vstruct vnil) vnil)

pub mark_made : (E : El) {M : Type 1} {𝓤 : Ura M} (𝓛 : Logic 𝓤) → ent 𝓤 (emp 𝓤) (sem 𝓛 ((Mark E).own_val (tt, tt) (mark ∷ [])))
mark_made E 𝓛 = makes_shadow 𝓛 ((Mark E).own_val (tt, tt) (mark ∷ [])) (λ vss. (tt, ((λ uss. (tt, tt)), tt))) ((vstruct vnil ∷ [], tt), (refl, ((tt, (refl, tt)), tt)))

module _ {M : Type 1} {𝓤 : Ura M} {𝓛 : Logic 𝓤} {K : Type 0} {Γ : List (Item 𝓤)} {G : Goal 𝓤 𝓛.H} where
  pub word_had : K → (p : Ptr) (vs : List Val) → (vs ≡ word p ∷ [] → Seq K 𝓛 Γ G) → Seq K 𝓛 (‵ ((Struct one_pointer).own_val (p, tt) vs) ∷ Γ) G
  word_had t p vs k = fpick t (λ vss. fsplit t $ feq_l t (λ made. fsplit t $ feq_l t (λ e. skip t $ k (subst (λ (ws : List Val). vs ≡ vstruct (of_list (ws ++ [])) ∷ []) e made))))

  pub word_made : K → (p : Ptr) → Step K 𝓛 (‵ ((Struct one_pointer).own_val (p, tt) (word p ∷ [])) ∷ Γ) G Γ G
  word_made t p = step (λ rest.
      nothing t $ feq_i t (List Val) (ptr_val p ∷ []) (ptr_val p ∷ []) refl $ fjoin t $ feq_i t (List Val) (word p ∷ []) (word p ∷ []) refl $ fjoin t $
      fpack t (Valss (RawPtr ∷ [])) (within one_pointer (p, tt) (word p ∷ [])) (ptr_val p ∷ [], tt) $ rest)

  pub mark_had : K → (E : El) (vs : List Val) → (vs ≡ mark ∷ [] → Seq K 𝓛 Γ G) → Seq K 𝓛 (‵ ((Mark E).own_val (tt, tt) vs) ∷ Γ) G
  mark_had t E vs k = fpick t (λ vss. fsplit t $ feq_l t (λ made. fsplit t $ fpick t (λ uss. fsplit t $ feq_l t (λ e. skip t $ skip t $
      k (subst (λ (ws : List Val). vs ≡ vstruct (of_list (ws ++ [])) ∷ []) e made)))))

-- a value in a cell is its bytes and the assets that it owns
module _ (Y : RattleType) (L : Laws Y) {M : Type 1} {𝓤 : Ura M} (𝓛 : Logic 𝓤) where
  open 𝓛 use {H}

  pub value_out : (x : Y.Denot) (b o : ℕ) → ent 𝓤 (sem 𝓛 (part_at (param 0 Y) full_share x b o)) (ex 𝓤 (λ (v : Val). guard 𝓤 (Good (layout Y) v) (sep 𝓤 (H.at full_share (layout Y) b o v) (sem 𝓛 (Y.own_val x (v ∷ []))))))
  value_out x b o = qed 𝓛 (‵ (part_at (param 0 Y) full_share x b o) ∷ []) ∵
      use1 𝓛 (some (λ (v : Val). ‵ (fat full_share (layout Y) b o v) ⊛ ‵ (Y.own_val x (v ∷ [])))) (part_out 𝓛 (param 0 Y) refl full_share x b o) $ pick ! (λ v. split ! $ move ! (1 ∷ []) $
      peeks ! (param 0 Y) (Is (param 0 Y)) (shows 𝓛 (param 0 Y)) x (v ∷ []) (λ is.
      show ! (λ (w : Val). guard 𝓤 (Good (layout Y) w) (sep 𝓤 (H.at full_share (layout Y) b o w) (sem 𝓛 (Y.own_val x (w ∷ []))))) v $ check ! (((param_laws 0 Y L).lawful 𝓛).typed x (v ∷ []) is).0 $ move ! (1 ∷ 0 ∷ []) $ done !))

  pub value_in : (x : Y.Denot) (b o : ℕ) (v : Val) → ent 𝓤 (sep 𝓤 (H.at full_share (layout Y) b o v) (sem 𝓛 (Y.own_val x (v ∷ [])))) (sem 𝓛 (part_at (param 0 Y) full_share x b o))
  value_in x b o v = part_in 𝓛 (param 0 Y) refl full_share x b o v

alone : (τ : Ty) (vs : List Val) → Typed (τ ∷ []) vs → (v : Val) × ((vs ≡ v ∷ []) × Good τ v)
alone τ [] t = absurd t
alone τ (v ∷ []) t = (v, (refl, t.0))
alone τ (v ∷ w ∷ vs) t = absurd t.1

-- the owned part of a value is one machine value, of its type
module _ (Y : RattleType) (L : Laws Y) {M : Type 1} {𝓤 : Ura M} {𝓛 : Logic 𝓤} {K : Type 0} {Γ : List (Item 𝓤)} {G : Goal 𝓤 𝓛.H} where
  pub tells : K → (x : Y.Denot) (vs : List Val) → ((v : Val) → vs ≡ v ∷ [] → Good (layout Y) v → Seq K 𝓛 (‵ (Y.own_val x (v ∷ [])) ∷ Γ) G) → Seq K 𝓛 (‵ (Y.own_val x vs) ∷ Γ) G
  tells t x vs k =
      peeks t (param 0 Y) (Is (param 0 Y)) (shows 𝓛 (param 0 Y)) x vs (λ is.
      let one = alone (layout Y) vs (((param_laws 0 Y L).lawful 𝓛).typed x vs is) in
      rewrite t 0 (λ (us : List Val). ‵ (Y.own_val x us)) one.1.0 refl $ k one.0 one.1.0 one.1.1)

-- an `ensures` of two facts
module _ {M : Type 1} {𝓤 : Ura M} {𝓛 : Logic 𝓤} {K : Type 0} {Γ : List (Item 𝓤)} where
  pub says_both : K → {φ ψ : Type 0} {P : SProp 𝓤} → φ → ψ → Step K 𝓛 Γ (prop P) Γ (prop (sep 𝓤 P (sep 𝓤 (fact 𝓤 φ) (fact 𝓤 ψ))))
  says_both t {φ} {ψ} {P} x y = step (λ rest. record {
    prf = via 𝓤 P rest.prf (qed 𝓛 (raw P ∷ []) {P = sep 𝓤 P (sep 𝓤 (fact 𝓤 φ) (fact 𝓤 ψ))} (
        frame ! $ use0 𝓛 (raw (fact 𝓤 ψ)) (fact_i 𝓤 ψ (emp 𝓤) y) $ use0 𝓛 (raw (fact 𝓤 φ)) (fact_i 𝓤 φ (emp 𝓤) x) $ done !));
  })
