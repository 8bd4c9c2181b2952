-- `write` fills a cell that is here and was never written. Assumes `Logic`.
use mathlib.Core.Path.{◌≡◌, refl, sym, subst, ◌∙◌}
use Prim.Native.Nat.{ℕ, ◌+◌, ◌*◌, ◌<◌, ◌^◌}
use native.Mathlib.Omega.{arith}
use mathlib.Core.List.{List, [], ◌∷◌, ◌++◌}
use seplogic.Ra.Ura.{Ura}
use base.Logic.{SProp, ent, never, id⊢}
use base.Fml.{Lft, GName, Share, ftrue, fat, froom, flft, fobs, fbor}
use mir.MapTy.{inst_fn}
use prog.Wp.{Env, Calls, Loops, WpFn}
use contract.Monad.{fact}
use contract.Running.{tables}
use types.Logic.{Logic}
use types.SemTy.{Body as Borrowed}
use denote.Exit.{yes, no}
use denote.RattleType.{owns}
use denote.Ref.{MutBor, MutRef}
use denote.Signature.{plain}
use denote.Triple.Clauses.{Clauses, Ended}
use denote.Triple.Entry.{on_entry}
use Rattle.std.specs.Prelude.{Some, None}
use base.Fraction.{full_share}
use lib.ListN.{length, set, get_or, length-set}
use mir.Syntax.{Fn, named, w64}
use mir.Val.{Val, vptr, vint, vunit}
use types.Kit.{Item, ⋆, ‵, ◌⊛◌, at_ret, ◌$◌, ◌∵◌, !, qed, by, move, keep, use1, use2, split, join, rewrite, fsplit, fsplit3, fjoin, fjoin3, feq_i, feq_l, flt_l, flt_i, suffices, frame, done}
use types.Part.{whole, sub}
use types.Run.{init, stop, fld, unit_lit, of_opd, bin, size_lit, assigns_last, first, blocks, exec, returns, enter}
use types.ByLocal.{alloc_all, pass_all, free_all, look_at, get, get_in, take_at, give_at, through, sets, env}
use denote.Builtin.{RefMutOf, unit, usize}
use denote.Memory.{mem}
use denote.Param.{layout}
use denote.RawPtr.{Ptr, in_a_block}
use denote.Steps.{nothing, opens, closes}
use denote.Triple.Walked.{says, needs, Stays, stay_dropped, stay_ref, walk_of, ends_at, Goes-dropped, Goes-ref}
use Rattle.core.proofs.mem.Param.{El, R, args, elτ}
use Rattle.core.proofs.ptr.Rows.{times_below, one_below}
use Rattle.std_alloc.proofs.RcSteps.{Good, word, word-Good}
use Rattle.std_alloc.proofs.VecSteps.Shapes.{after}
use Rattle.in_memory.specs.Ownership.{cell, row, cells_own}
use Rattle.in_memory.specs.Lends.{with_slots}
use Rattle.in_memory.proofs.Memory.{Owner, Begin, HasCells, sz, Place, lent, word_had, value_in, tells}
use Rattle.in_memory.proofs.Walks.{walked}
use Rattle.in_memory.specs.Places.{IsHere}
use Rattle.in_memory.proofs.Rows.{Others, cell_out, cell_in, cell_room, filled_inside}
use Rattle.in_memory.specs.contracts.cells.Cells.write.Key.{name as #self}
use Rattle.in_memory.proofs.cells.Cells.write.Statement as stated
use Rattle.in_memory.proofs.cells.Cells.write.Code as code

module _ (E : El) where
  abbrev function : Fn
  function = inst_fn (args E) code.function

  abbrev ended : Ended
  ended = record { signature = record { lifetimes = 1; outlives = []; params = RefMutOf (0 ∷ []) tt (plain (λ _. Owner E)) (λ _. tt) ∷ plain (λ _. Begin E) ∷ plain (λ _. usize) ∷ plain (λ _. R E) ∷ []; result = plain (λ _. unit) }; kept = (yes, (no, (no, (no, tt)))) }

  abbrev stayed : Stays ended.signature.params ended.kept
  stayed = (stay_ref (0 ∷ []) tt (plain (λ _. Owner E)), (stay_dropped (plain (λ _. Begin E)) no, (stay_dropped (plain (λ _. usize)) no, (stay_dropped (plain (λ _. R E)) no, tt))))

  abbrev Asks : (Owner E).Denot → (Begin E).Denot → ℕ → Type 0
  Asks d base index = (base.ptr ≡ d.at) × IsHere d.slots index

  abbrev Gives : (Owner E).Denot → ℕ → (R E).Denot → (Owner E).Denot → Type 0
  Gives d index content new = HasCells E d (set d.slots index (Some (Some content))) new

module _ (E : El) {M : Type 1} {𝓤 : Ura M} (𝓛 : Logic 𝓤) where
  abbrev spec : Clauses 𝓤 (ended E)
  spec κs a = record { ghost = Unit {0}; requires = λ _. fact 𝓤 (Asks E a.0.now a.1.0 a.1.1.0); ensures = λ _ r w. fact 𝓤 (Gives E a.0.now a.1.1.0 a.1.1.1.0 w.0.now) }

module _ (E : El) {M : Type 1} {𝓤 : Ura M} (𝓛 : Logic 𝓤) (C : Calls 𝓤 𝓛.H) (Λ : Loops 𝓤 𝓛.H) (κ : Lft) (q : Share) (rb ro : ℕ) (γ : GName) (d : (Owner E).Denot) (base : (Begin E).Denot) (index : ℕ) (content : (R E).Denot) (us0 us1 us2 us3 : List Val) where
  open 𝓛 use {H}

  abbrev self : MutBor (Owner E).Denot
  self = record { ref_ptr = (rb, ro); ghost_name = γ; now = d }

  abbrev bound : (walk_of 𝓛 (ended E) (stayed E) (spec E 𝓛)).Ghost
  bound = (((κ, tt), (q, tt), tt, (self, (base, (index, (content, tt)))), (us0, (us1, (us2, (us3, tt))))), tt)

  abbrev Post : Val → SProp 𝓤
  Post = (walk_of 𝓛 (ended E) (stayed E) (spec E 𝓛)).post bound

  exits : us0 ≡ vptr rb ro ∷ [] → (new : (Owner E).Denot) → Gives E d index content new → ent 𝓤 (⋆ 𝓛 (lent E 𝓛 κ q rb ro γ new)) (Post vunit)
  exits passed new given_it =
      qed 𝓛 (lent E 𝓛 κ q rb ro γ new) ∵ suffices ! _ (ends_at 𝓛 (ended E) (stayed E) (spec E 𝓛) bound vunit tt (new, (tt, (tt, (tt, tt)))) (tt, (tt, (tt, (tt, tt))))) $ says ! given_it $
      feq_i ! (List Val) (vunit ∷ []) (vunit ∷ []) refl $ move ! (1 ∷ 2 ∷ 3 ∷ 0 ∷ []) $ nothing ! $ move ! (3 ∷ 0 ∷ []) $ join ! $ frame ! $
      feq_i ! (List Val) us0 (vptr rb ro ∷ []) passed $ fjoin3 ! $ nothing ! $ nothing ! $ fjoin ! $ nothing ! $ fjoin ! $ nothing ! $ fjoin ! $ move ! (1 ∷ 0 ∷ []) $ fjoin ! $ done !

  abbrev Had : Val → List (Item 𝓤)
  Had v = ‵ (fobs γ ((Owner E).coded.code d)) ∷ ‵ (fbor κ (Borrowed (mem (Owner E)) rb ro γ)) ∷ ‵ (flft κ q) ∷ ‵ ((R E).own_val content (v ∷ [])) ∷ []

  walk : us0 ≡ vptr rb ro ∷ [] → Asks E d base index → index < 2 ^ 64 → (v : Val) → Good (layout (R E)) v → ent 𝓤 (⋆ 𝓛 (Had v)) (WpFn 𝓤 H C Λ (function E) (vptr rb ro ∷ word base.ptr ∷ vint w64 index ∷ v ∷ []) Post)
  walk passed asked fits v good =
      let had = asked.1.0 in let is = asked.1.1 in let inside = filled_inside d.slots index had is in let s = sz E in let cs = set d.slots index (Some (Some content)) in let new : (Owner E).Denot = with_slots d cs in
      qed 𝓛 (Had v) ∵ enter ! C Λ (function E) (vptr rb ro ∷ word base.ptr ∷ vint w64 index ∷ v ∷ []) _ $ alloc_all ! (λ l. pass_all ! refl ((tt, tt), (word-Good [] base.ptr, ((tt, record { fits = fits }), (good, tt)))) $
      let En : Env 𝓤 H = env (function E).locals l in
      opens ! tt (Owner E) {h = d} rb ro (λ vs. move ! (1 ∷ []) $ fsplit ! $ move ! (1 ∷ []) $
      in_a_block ! d.at (λ p. cells_own (R E) p d.slots) (id⊢ 𝓤 (never 𝓤)) (λ b o e. fsplit ! $ flt_l ! (λ small.
      let tiny : s < 2 ^ 64 = omega (arith, one_below (length d.slots) s (2 ^ 63) (omega arith) small) in let at = index * s + o in
      let far : index * s < 2 ^ 64 = omega (arith, times_below index (length d.slots) s (2 ^ 63) (omega arith) small) in
      take_at ! 2 $ rewrite ! 0 (λ (p : Ptr). ‵ (fat full_share (layout (Begin E)) (l 2) 0 (word p))) (asked.0 ∙ e) refl $ give_at ! 2 $ first ! $ blocks ! $
      sets ! (bin ! (get ! refl) (size_lit ! (record { fits = tiny })) (record { fits = far })) refl (tt, record { fits = far }) $
      sets ! (bin ! (get_in ! (fld ! refl (stop !)) (sub ! 0 refl (whole !))) (get ! refl) tt) refl (tt, tt) $
      use1 𝓛 (‵ (cell (R E) b at (get_or d.slots index None)) ⊛ ‵ (Others E 𝓛 b o d.slots index)) (cell_out E 𝓛 b o d.slots index at inside refl) $ split ! $
      rewrite ! 0 (λ (c : Place E). ‵ (cell (R E) b at c)) is refl $ use1 𝓛 (‵ (froom (elτ E) b at)) (cell_room E 𝓛 b had at) $
      -- [the room; the other cells; the mark; the owner's bytes; the open borrow, in three entries; what the content owns]
      sets ! (of_opd ! (get ! refl)) refl good $ assigns_last ! (of_opd ! (get ! refl)) (through ! refl (stop !)) (init ! 0 refl good) $
      exec ! C Λ En (after 1 (function E).body) (at_ret En Post) $ sets ! (of_opd ! (unit_lit !)) refl (tt, tt) $
      move ! (0 ∷ 7 ∷ []) $ use2 𝓛 (‵ (cell (R E) b at (Some (Some content)))) (value_in E.row E.laws 𝓛 content b at v) $
      use2 𝓛 (‵ (row (R E) b o cs)) (cell_in E 𝓛 b o d.slots index at (Some (Some content)) inside refl) $
      flt_i ! (length cs * s) (2 ^ 63) (subst (λ k. k * s < 2 ^ 63) (sym (length-set d.slots index (Some (Some content)))) small) $ fjoin ! $
      rewrite ! 0 (λ (p : Ptr). ‵ (cells_own (R E) p cs)) (sym e) refl $ move ! (1 ∷ 0 ∷ []) $ fjoin ! $ move ! (1 ∷ 0 ∷ []) $ closes ! tt (Owner E) new vs rb ro $
      returns ! (look_at ! 0 refl) $ free_all ! refl $ keep ! (0 ∷ 1 ∷ 2 ∷ []) $ by ! (exits passed new (refl, refl))))))

  entry : Asks E d base index → ent 𝓤 (on_entry 𝓛 (ended E).signature (κ, tt) (q, tt) (self, (base, (index, (content, tt)))) (us0, (us1, (us2, (us3, tt))))) (WpFn 𝓤 H C Λ (function E) (us0 ++ (us1 ++ (us2 ++ (us3 ++ [])))) Post)
  entry asked =
      qed 𝓛 ((‵ (flft κ q) ⊛ ‵ ftrue) ∷ ‵ (owns (MutRef (named 0) κ (Owner E) ∷ Begin E ∷ usize ∷ R E ∷ []) (self, (base, (index, (content, tt)))) (us0, (us1, (us2, (us3, tt))))) ∷ []) ∵
      split ! $ move ! (2 ∷ []) $ fsplit ! $ fsplit3 ! $ feq_l ! (λ e0. move ! (2 ∷ []) $ fsplit ! $ word_had ! base.ptr us1 (λ e1.
      fsplit ! $ fsplit ! $ feq_l ! (λ e2. flt_l ! (λ fits. fsplit ! $ tells E.row E.laws ! content us3 (λ v e3 good. keep ! (2 ∷ 3 ∷ 4 ∷ 0 ∷ []) $
      by ! (subst (λ (ws : List Val × List Val × List Val × List Val). ent 𝓤 (⋆ 𝓛 (Had v)) (WpFn 𝓤 H C Λ (function E) (ws.0 ++ (ws.1 ++ (ws.2 ++ (ws.3 ++ [])))) Post)) (λ j. (sym e0 j, sym e1 j, sym e2 j, sym e3 j)) (walk e0 asked fits v good)))))))

pub write_spec : {M : Type 1} → stated.statement M
write_spec 𝓤 𝓛 𝓜 𝓡 wired X LX y =
    let E : El = record { row = X; laws = LX } in let 𝓣 = tables 𝓤 𝓛.H 𝓜 𝓡 𝓡.env in
    walked 𝓤 𝓛 𝓜 𝓡 X.lives (#self (args E)) (function E) (ended E) (stayed E) (spec E 𝓛) (code.unfolded 𝓤 𝓛.H 𝓜 𝓡 wired (X, tt))
    (Goes-ref 𝓛 1 0 tt (plain (λ _. Owner E)), (Goes-dropped 𝓛 1 (plain (λ _. Begin E)) no (λ κs x f. refl), (Goes-dropped 𝓛 1 (plain (λ _. usize)) no (λ κs x f. refl), (Goes-dropped 𝓛 1 (plain (λ _. R E)) no (λ κs x f. refl), tt))))
    (λ z. let a = z.0.3 in let us = z.0.4 in
    needs 𝓤 (Asks E a.0.now a.1.0 a.1.1.0) _ (entry E 𝓛 𝓣.C 𝓣.Λ z.0.0.0 z.0.1.0 a.0.ref_ptr.0 a.0.ref_ptr.1 a.0.ghost_name a.0.now a.1.0 a.1.1.0 a.1.1.1.0 us.0 us.1.0 us.1.1.0 us.1.1.1.0))
    ((y.0.0, y.0.1, tt, y.0.3, y.0.4), y.1)
