-- `join` takes in another owner's cells of the same row. Assumes `Logic`.
use mathlib.Core.Path.{◌≡◌, refl, sym, subst, ◌∙◌}
use Prim.Native.Nat.{ℕ, ◌*◌, ◌<◌, ◌^◌}
use mathlib.Core.List.{List, [], ◌∷◌, ◌++◌}
use seplogic.Ra.Ura.{Ura}
use base.Logic.{SProp, ent, never, id⊢}
use base.Fml.{Lft, GName, Share, ftrue, flft, fobs, fbor}
use mir.MapTy.{inst_fn}
use prog.Wp.{Calls, Loops, WpFn}
use contract.Monad.{fact}
use contract.Running.{tables}
use types.Logic.{Logic}
use types.SemTy.{Body as Borrowed}
use denote.Exit.{yes, no}
use denote.RattleType.{owns}
use denote.Ref.{MutBor, MutRef}
use denote.Signature.{plain}
use denote.Triple.Clauses.{Clauses, Ended}
use denote.Triple.Entry.{on_entry}
use lib.ListN.{length}
use mir.Syntax.{Fn, named}
use mir.Val.{Val, vptr, vunit}
use types.Kit.{Item, ⋆, ‵, ◌⊛◌, ◌$◌, ◌∵◌, !, qed, by, move, keep, drop, use2, split, join, rewrite, fsplit, fsplit3, fjoin, fjoin3, feq_i, feq_l, flt_l, flt_i, suffices, frame, done}
use types.Run.{unit_lit, of_opd, returns, enter}
use types.ByLocal.{alloc_all, pass_all, free_all, look_at, sets}
use denote.Builtin.{RefMutOf, unit}
use denote.Memory.{mem}
use denote.RawPtr.{Ptr, in_a_block}
use denote.Steps.{nothing, opens, closes}
use denote.Triple.Walked.{says, needs, Stays, stay_dropped, stay_ref, walk_of, ends_at, Goes-ref}
use Rattle.core.proofs.alloc.Calls.{Goes-blank}
use Rattle.core.proofs.mem.Param.{El, R, args}
use Rattle.in_memory.specs.Places.{together}
use Rattle.in_memory.specs.Ownership.{row, cells_own}
use Rattle.in_memory.specs.Lends.{with_slots}
use Rattle.in_memory.proofs.Memory.{Owner, HasCells, sz, lent, mark, mark_had}
use Rattle.in_memory.proofs.Walks.{walked}
use Rattle.in_memory.proofs.Rows.{rows_join, length-together}
use Rattle.in_memory.specs.contracts.cells.Cells.join.Key.{name as #self}
use Rattle.in_memory.proofs.cells.Cells.join.Statement as stated
use Rattle.in_memory.proofs.cells.Cells.join.Code as code

module _ (E : El) where
  abbrev function : Fn
  function = inst_fn (args E) code.function

  abbrev ended : Ended
  ended = record { signature = record { lifetimes = 1; outlives = []; params = RefMutOf (0 ∷ []) tt (plain (λ _. Owner E)) (λ _. tt) ∷ plain (λ _. Owner E) ∷ []; result = plain (λ _. unit) }; kept = (yes, (no, tt)) }

  abbrev stayed : Stays ended.signature.params ended.kept
  stayed = (stay_ref (0 ∷ []) tt (plain (λ _. Owner E)), (stay_dropped (plain (λ _. Owner E)) no, tt))

  abbrev Asks : (Owner E).Denot → (Owner E).Denot → Type 0
  Asks d other = (other.at ≡ d.at) × (length other.slots ≡ length d.slots)

  abbrev Gives : (Owner E).Denot → (Owner E).Denot → (Owner E).Denot → Type 0
  Gives d other new = HasCells E d (together d.slots other.slots) new

module _ (E : El) {M : Type 1} {𝓤 : Ura M} (𝓛 : Logic 𝓤) where
  abbrev spec : Clauses 𝓤 (ended E)
  spec κs a = record { ghost = Unit {0}; requires = λ _. fact 𝓤 (Asks E a.0.now a.1.0); ensures = λ _ r w. fact 𝓤 (Gives E a.0.now a.1.0 w.0.now) }

module _ (E : El) {M : Type 1} {𝓤 : Ura M} (𝓛 : Logic 𝓤) (C : Calls 𝓤 𝓛.H) (Λ : Loops 𝓤 𝓛.H) (κ : Lft) (q : Share) (rb ro : ℕ) (γ : GName) (d other : (Owner E).Denot) (us0 us1 : List Val) where
  open 𝓛 use {H}

  abbrev self : MutBor (Owner E).Denot
  self = record { ref_ptr = (rb, ro); ghost_name = γ; now = d }

  abbrev bound : (walk_of 𝓛 (ended E) (stayed E) (spec E 𝓛)).Ghost
  bound = (((κ, tt), (q, tt), tt, (self, (other, tt)), (us0, (us1, tt))), tt)

  abbrev Post : Val → SProp 𝓤
  Post = (walk_of 𝓛 (ended E) (stayed E) (spec E 𝓛)).post bound

  exits : us0 ≡ vptr rb ro ∷ [] → (new : (Owner E).Denot) → Gives E d other new → ent 𝓤 (⋆ 𝓛 (lent E 𝓛 κ q rb ro γ new)) (Post vunit)
  exits passed new given_it =
      qed 𝓛 (lent E 𝓛 κ q rb ro γ new) ∵ suffices ! _ (ends_at 𝓛 (ended E) (stayed E) (spec E 𝓛) bound vunit tt (new, (tt, tt)) (tt, (tt, tt))) $ says ! given_it $
      feq_i ! (List Val) (vunit ∷ []) (vunit ∷ []) refl $ move ! (1 ∷ 2 ∷ 3 ∷ 0 ∷ []) $ nothing ! $ move ! (3 ∷ 0 ∷ []) $ join ! $ frame ! $
      feq_i ! (List Val) us0 (vptr rb ro ∷ []) passed $ fjoin3 ! $ nothing ! $ nothing ! $ fjoin ! $ move ! (1 ∷ 0 ∷ []) $ fjoin ! $ done !

  abbrev Had : List (Item 𝓤)
  Had = ‵ (fobs γ ((Owner E).coded.code d)) ∷ ‵ (fbor κ (Borrowed (mem (Owner E)) rb ro γ)) ∷ ‵ (flft κ q) ∷ ‵ (cells_own (R E) other.at other.slots) ∷ []

  walk : us0 ≡ vptr rb ro ∷ [] → Asks E d other → ent 𝓤 (⋆ 𝓛 Had) (WpFn 𝓤 H C Λ (function E) (vptr rb ro ∷ mark ∷ []) Post)
  walk passed asked =
      let s = sz E in let all = together d.slots other.slots in let new : (Owner E).Denot = with_slots d all in
      qed 𝓛 Had ∵ enter ! C Λ (function E) (vptr rb ro ∷ mark ∷ []) _ $ alloc_all ! (λ l. pass_all ! refl ((tt, tt), ((tt, (tt, tt)), tt)) $
      opens ! tt (Owner E) {h = d} rb ro (λ vs. move ! (1 ∷ []) $ fsplit ! $ move ! (1 ∷ []) $
      in_a_block ! d.at (λ p. cells_own (R E) p d.slots) (id⊢ 𝓤 (never 𝓤)) (λ b o e. fsplit ! $ flt_l ! (λ small.
      -- [the cells; the mark; the owner's bytes; the open borrow, in three entries; the other's cells]
      move ! (6 ∷ []) $ rewrite ! 0 (λ (p : Ptr). ‵ (cells_own (R E) p other.slots)) (asked.0 ∙ e) refl $ fsplit ! $ drop ! $ move ! (1 ∷ 0 ∷ []) $
      use2 𝓛 (‵ (row (R E) b o all)) (rows_join E 𝓛 b o d.slots other.slots) $
      flt_i ! (length all * s) (2 ^ 63) (subst (λ k. k * s < 2 ^ 63) (sym (length-together d.slots other.slots)) small) $ fjoin ! $
      rewrite ! 0 (λ (p : Ptr). ‵ (cells_own (R E) p all)) (sym e) refl $ move ! (1 ∷ 0 ∷ []) $ fjoin ! $ move ! (1 ∷ 0 ∷ []) $ closes ! tt (Owner E) new vs rb ro $
      sets ! (of_opd ! (unit_lit !)) refl (tt, tt) $ returns ! (look_at ! 0 refl) $ free_all ! refl $ keep ! (0 ∷ 1 ∷ 2 ∷ []) $ by ! (exits passed new (refl, refl))))))

  entry : Asks E d other → ent 𝓤 (on_entry 𝓛 (ended E).signature (κ, tt) (q, tt) (self, (other, tt)) (us0, (us1, tt))) (WpFn 𝓤 H C Λ (function E) (us0 ++ (us1 ++ [])) Post)
  entry asked =
      qed 𝓛 ((‵ (flft κ q) ⊛ ‵ ftrue) ∷ ‵ (owns (MutRef (named 0) κ (Owner E) ∷ Owner E ∷ []) (self, (other, tt)) (us0, (us1, tt))) ∷ []) ∵
      split ! $ move ! (2 ∷ []) $ fsplit ! $ fsplit3 ! $ feq_l ! (λ e0. move ! (2 ∷ []) $ fsplit ! $ fsplit ! $ mark_had ! E us1 (λ e1. keep ! (2 ∷ 3 ∷ 4 ∷ 0 ∷ []) $
      by ! (subst (λ (ws : List Val × List Val). ent 𝓤 (⋆ 𝓛 Had) (WpFn 𝓤 H C Λ (function E) (ws.0 ++ (ws.1 ++ [])) Post)) (λ j. (sym e0 j, sym e1 j)) (walk e0 asked))))

pub join_spec : {M : Type 1} → stated.statement M
join_spec 𝓤 𝓛 𝓜 𝓡 wired X LX y =
    let E : El = record { row = X; laws = LX } in let 𝓣 = tables 𝓤 𝓛.H 𝓜 𝓡 𝓡.env in
    walked 𝓤 𝓛 𝓜 𝓡 X.lives (#self (args E)) (function E) (ended E) (stayed E) (spec E 𝓛) (code.unfolded 𝓤 𝓛.H 𝓜 𝓡 wired (X, tt))
    (Goes-ref 𝓛 1 0 tt (plain (λ _. Owner E)), (Goes-blank 𝓛 1 (plain (λ _. Owner E)) no (λ κs x f. tt), tt))
    (λ z. let a = z.0.3 in let us = z.0.4 in
    needs 𝓤 (Asks E a.0.now a.1.0) _ (entry E 𝓛 𝓣.C 𝓣.Λ z.0.0.0 z.0.1.0 a.0.ref_ptr.0 a.0.ref_ptr.1 a.0.ghost_name a.0.now a.1.0 us.0 us.1.0))
    ((y.0.0, y.0.1, tt, y.0.3, y.0.4), y.1)
