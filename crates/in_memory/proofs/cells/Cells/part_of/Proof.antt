-- `part_of` gives the chosen cells to another owner. Assumes `Logic`.
use mathlib.Core.Path.{◌≡◌, refl, sym, subst}
use Prim.Native.Nat.{ℕ, ◌*◌, ◌<◌, ◌^◌}
use mathlib.Core.List.{List, [], ◌∷◌, ◌++◌}
use seplogic.Ra.Ura.{Ura}
use base.Logic.{SProp, ent, sep, emp, via, fst∗, never, id⊢}
use base.Fml.{Lft, GName, Share, ftrue, flft, fobs, fbor}
use mir.MapTy.{inst_fn}
use prog.Wp.{Calls, Loops, WpFn}
use contract.Monad.{fact}
use contract.Running.{tables}
use types.Logic.{Logic}
use types.SemTy.{Body as Borrowed}
use denote.Exit.{yes}
use denote.RattleType.{owns}
use denote.Ref.{MutBor, MutRef}
use denote.Signature.{plain}
use denote.Triple.Clauses.{Clauses, Ended}
use denote.Triple.Entry.{on_entry}
use Rattle.std.specs.Prelude.{Bool}
use Rattle.in_memory.specs.Splitting.{those_of, but}
use Rattle.in_memory.proofs.Splitting.{length-those_of}
use lib.ListN.{length}
use mir.Syntax.{Fn, named}
use mir.Val.{Val, vptr}
use types.Kit.{Item, ⋆, ‵, ◌⊛◌, ◌$◌, ◌∵◌, !, qed, by, move, keep, use0, use1, split, join, rewrite, fsplit, fsplit3, fjoin, fjoin3, feq_i, feq_l, flt_l, flt_i, suffices, frame, done}
use types.Part.{agg}
use types.Run.{and_then, no_more, returns, enter}
use types.ByLocal.{alloc_all, pass_all, free_all, look_at, get, sets}
use denote.Builtin.{RefMutOf}
use denote.Memory.{mem}
use denote.RawPtr.{Ptr, in_a_block}
use denote.Steps.{nothing, opens, closes}
use denote.Triple.Walked.{Stays, stay_ref, walk_of, ends_at, Goes-ref}
use Rattle.core.proofs.mem.Param.{El, R, args}
use Rattle.in_memory.specs.Ownership.{row, cells_own}
use Rattle.in_memory.specs.Lends.{with_slots}
use Rattle.in_memory.proofs.Memory.{Owner, Mark, HasCells, sz, lent, mark, mark_made, says_both}
use Rattle.in_memory.proofs.Walks.{walked}
use Rattle.in_memory.proofs.Rows.{rows_part}
use Rattle.in_memory.specs.contracts.cells.Cells.part_of.Key.{name as #self}
use Rattle.in_memory.proofs.cells.Cells.part_of.Statement as stated
use Rattle.in_memory.proofs.cells.Cells.part_of.Code as code

module _ (E : El) where
  abbrev function : Fn
  function = inst_fn (args E) code.function

  abbrev ended : Ended
  ended = record { signature = record { lifetimes = 1; outlives = []; params = RefMutOf (0 ∷ []) tt (plain (λ _. Owner E)) (λ _. tt) ∷ []; result = plain (λ _. Owner E) }; kept = (yes, tt) }

  abbrev stayed : Stays ended.signature.params ended.kept
  stayed = (stay_ref (0 ∷ []) tt (plain (λ _. Owner E)), tt)

module _ (E : El) {M : Type 1} {𝓤 : Ura M} (𝓛 : Logic 𝓤) where
  abbrev spec : Clauses 𝓤 (ended E)
  spec κs a = record { ghost = ℕ → Bool; requires = λ _. emp 𝓤; ensures = λ p r w. sep 𝓤 (fact 𝓤 (HasCells E a.0.now (those_of p a.0.now.slots) r)) (fact 𝓤 (HasCells E a.0.now (those_of (but p) a.0.now.slots) w.0.now)) }

module _ (E : El) {M : Type 1} {𝓤 : Ura M} (𝓛 : Logic 𝓤) (C : Calls 𝓤 𝓛.H) (Λ : Loops 𝓤 𝓛.H) (κ : Lft) (q : Share) (rb ro : ℕ) (γ : GName) (d : (Owner E).Denot) (p : ℕ → Bool) (us0 : List Val) where
  open 𝓛 use {H}

  abbrev self : MutBor (Owner E).Denot
  self = record { ref_ptr = (rb, ro); ghost_name = γ; now = d }

  abbrev bound : (walk_of 𝓛 (ended E) (stayed E) (spec E 𝓛)).Ghost
  bound = (((κ, tt), (q, tt), tt, (self, tt), (us0, tt)), p)

  abbrev Post : Val → SProp 𝓤
  Post = (walk_of 𝓛 (ended E) (stayed E) (spec E 𝓛)).post bound

  exits : us0 ≡ vptr rb ro ∷ [] → (r new : (Owner E).Denot) → HasCells E d (those_of p d.slots) r → HasCells E d (those_of (but p) d.slots) new
      → ent 𝓤 (⋆ 𝓛 (‵ (fobs γ ((Owner E).coded.code new)) ∷ ‵ (fbor κ (Borrowed (mem (Owner E)) rb ro γ)) ∷ ‵ (flft κ q) ∷ ‵ ((Owner E).own_val r (mark ∷ [])) ∷ [])) (Post mark)
  exits passed r new one rest =
      qed 𝓛 (‵ (fobs γ ((Owner E).coded.code new)) ∷ ‵ (fbor κ (Borrowed (mem (Owner E)) rb ro γ)) ∷ ‵ (flft κ q) ∷ ‵ ((Owner E).own_val r (mark ∷ [])) ∷ []) ∵
      suffices ! _ (ends_at 𝓛 (ended E) (stayed E) (spec E 𝓛) bound mark r (new, tt) (tt, tt)) $ says_both ! one rest $
      nothing ! $ move ! (3 ∷ 0 ∷ []) $ join ! $ frame ! $ feq_i ! (List Val) us0 (vptr rb ro ∷ []) passed $ fjoin3 ! $ nothing ! $ move ! (1 ∷ 0 ∷ []) $ fjoin ! $ done !

  abbrev Had : List (Item 𝓤)
  Had = lent E 𝓛 κ q rb ro γ d

  walk : us0 ≡ vptr rb ro ∷ [] → ent 𝓤 (⋆ 𝓛 Had) (WpFn 𝓤 H C Λ (function E) (vptr rb ro ∷ []) Post)
  walk passed =
      let s = sz E in let n = length d.slots in let one = those_of p d.slots in let rest = those_of (but p) d.slots in
      let apart : (Owner E).Denot = with_slots d one in let new : (Owner E).Denot = with_slots d rest in
      let long_one : length one ≡ n = length-those_of p d.slots in
      qed 𝓛 Had ∵ enter ! C Λ (function E) (vptr rb ro ∷ []) _ $ alloc_all ! (λ l. pass_all ! refl ((tt, tt), tt) $
      opens ! tt (Owner E) {h = d} rb ro (λ vs. move ! (1 ∷ []) $ fsplit ! $ move ! (1 ∷ []) $
      in_a_block ! d.at (λ p. cells_own (R E) p d.slots) (id⊢ 𝓤 (never 𝓤)) (λ b o e. fsplit ! $ flt_l ! (λ small.
      sets ! (agg ! (no_more !)) refl (tt, tt) $ sets ! (agg ! (and_then ! (get ! refl) (no_more !))) refl (tt, (tt, tt)) $
      use1 𝓛 (‵ (row (R E) b o one) ⊛ ‵ (row (R E) b o rest)) (rows_part E 𝓛 b p o d.slots) $ split ! $
      -- [the cell that leaves; those that stay; the mark; the owner's bytes; the open borrow, in three entries]
      flt_i ! (length one * s) (2 ^ 63) (subst (λ k. k * s < 2 ^ 63) (sym long_one) small) $ fjoin ! $
      rewrite ! 0 (λ (p : Ptr). ‵ (cells_own (R E) p one)) (sym e) refl $ use0 𝓛 (‵ ((Mark E).own_val (tt, tt) (mark ∷ []))) (mark_made E 𝓛) $ fjoin ! $
      move ! (1 ∷ 2 ∷ 3 ∷ 4 ∷ 5 ∷ 6 ∷ 0 ∷ []) $
      flt_i ! (length rest * s) (2 ^ 63) (subst (λ k. k * s < 2 ^ 63) (sym (length-those_of (but p) d.slots)) small) $ fjoin ! $
      rewrite ! 0 (λ (p : Ptr). ‵ (cells_own (R E) p rest)) (sym e) refl $ move ! (1 ∷ 0 ∷ []) $ fjoin ! $ move ! (1 ∷ 0 ∷ []) $ closes ! tt (Owner E) new vs rb ro $
      returns ! (look_at ! 0 refl) $ free_all ! refl $ keep ! (0 ∷ 1 ∷ 2 ∷ 3 ∷ []) $ by ! (exits passed apart new (refl, refl) (refl, refl))))))

  entry : ent 𝓤 (on_entry 𝓛 (ended E).signature (κ, tt) (q, tt) (self, tt) (us0, tt)) (WpFn 𝓤 H C Λ (function E) (us0 ++ []) Post)
  entry =
      qed 𝓛 ((‵ (flft κ q) ⊛ ‵ ftrue) ∷ ‵ (owns (MutRef (named 0) κ (Owner E) ∷ []) (self, tt) (us0, tt)) ∷ []) ∵
      split ! $ move ! (2 ∷ []) $ fsplit ! $ fsplit3 ! $ feq_l ! (λ e0. keep ! (0 ∷ 1 ∷ 3 ∷ []) $
      by ! (subst (λ (ws : List Val). ent 𝓤 (⋆ 𝓛 Had) (WpFn 𝓤 H C Λ (function E) (ws ++ []) Post)) (sym e0) (walk e0)))

pub part_of_spec : {M : Type 1} → stated.statement M
part_of_spec 𝓤 𝓛 𝓜 𝓡 wired X LX y =
    let E : El = record { row = X; laws = LX } in let 𝓣 = tables 𝓤 𝓛.H 𝓜 𝓡 𝓡.env in
    walked 𝓤 𝓛 𝓜 𝓡 X.lives (#self (args E)) (function E) (ended E) (stayed E) (spec E 𝓛) (code.unfolded 𝓤 𝓛.H 𝓜 𝓡 wired (X, tt))
    (Goes-ref 𝓛 1 0 tt (plain (λ _. Owner E)), tt)
    (λ z. let a = z.0.3 in let us = z.0.4 in
    via 𝓤 _ (fst∗ 𝓤 _ (emp 𝓤)) (entry E 𝓛 𝓣.C 𝓣.Λ z.0.0.0 z.0.1.0 a.0.ref_ptr.0 a.0.ref_ptr.1 a.0.ghost_name a.0.now z.1 us.0))
    ((y.0.0, y.0.1, tt, y.0.3, y.0.4), y.1)
