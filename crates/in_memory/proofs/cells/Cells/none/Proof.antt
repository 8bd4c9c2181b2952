-- `none` gives an owner of none of a row's cells. Assumes `Logic`.
use mathlib.Core.Path.{◌≡◌, refl, sym, subst}
use Prim.Native.Nat.{ℕ, ◌*◌, ◌<◌, ◌^◌}
use mathlib.Core.List.{List, [], ◌∷◌, ◌++◌}
use seplogic.Ra.Ura.{Ura}
use base.Logic.{SProp, ent, emp, never, via, fst∗, id⊢}
use base.Fml.{Lft, Share, ftrue, flft}
use mir.MapTy.{inst_fn}
use mir.Syntax.{Fn, named}
use mir.Val.{Val, vptr}
use prog.Wp.{Calls, Loops, WpFn}
use contract.Monad.{fact}
use contract.Running.{tables}
use types.Logic.{Logic}
use types.Kit.{Item, ⋆, ‵, ◌⊛◌, ◌$◌, ◌∵◌, !, qed, by, move, keep, drop, use0, split, join, rewrite, fsplit, fjoin, feq_l, flt_l, flt_i, suffices, frame, done}
use types.Part.{agg}
use types.Run.{and_then, no_more, returns, enter}
use types.ByLocal.{alloc_all, pass_all, free_all, look_at, get, sets}
use lib.ListN.{length, replicate, length-replicate}
use denote.Builtin.{RefOf}
use denote.Exit.{yes}
use denote.Memory.{hidden_shr}
use denote.Opens.{unhide}
use denote.RattleType.{owns}
use denote.RawPtr.{Ptr, in_a_block}
use denote.Ref.{Bor, ShrRef}
use denote.Signature.{plain}
use denote.Steps.{nothing}
use denote.Triple.Clauses.{Clauses, Ended}
use denote.Triple.Entry.{on_entry}
use denote.Triple.Walked.{says, Stays, stay_dropped, walk_of, ends_at, Goes-dropped}
use Rattle.std.specs.Prelude.{None}
use Rattle.core.proofs.mem.Param.{El, R, args}
use Rattle.in_memory.specs.Ownership.{row, cells_own, cells_lent}
use Rattle.in_memory.specs.Lends.{with_slots}
use Rattle.in_memory.proofs.Memory.{Owner, Mark, Place, HasCells, sz, mark, mark_made}
use Rattle.in_memory.proofs.Walks.{walked}
use Rattle.in_memory.proofs.Rows.{none_here}
use Rattle.in_memory.specs.contracts.cells.Cells.none.Key.{name as #self}
use Rattle.in_memory.proofs.cells.Cells.none.Statement as stated
use Rattle.in_memory.proofs.cells.Cells.none.Code as code

module _ (E : El) where
  abbrev function : Fn
  function = inst_fn (args E) code.function

  abbrev ended : Ended
  ended = record { signature = record { lifetimes = 1; outlives = []; params = RefOf (0 ∷ []) tt (plain (λ _. Owner E)) (λ _. tt) ∷ []; result = plain (λ _. Owner E) }; kept = (yes, tt) }

  abbrev stayed : Stays ended.signature.params ended.kept
  stayed = (stay_dropped (RefOf (0 ∷ []) tt (plain (λ _. Owner E)) (λ _. tt)) yes, tt)

  -- all cells are another owner's
  abbrev none_of : (Owner E).Denot → List (Place E)
  none_of d = replicate (length d.slots) None

module _ (E : El) {M : Type 1} {𝓤 : Ura M} (𝓛 : Logic 𝓤) where
  abbrev spec : Clauses 𝓤 (ended E)
  spec κs a = record { ghost = Unit {0}; requires = λ _. emp 𝓤; ensures = λ _ r w. fact 𝓤 (HasCells E a.0.now (none_of E a.0.now) r) }

module _ (E : El) {M : Type 1} {𝓤 : Ura M} (𝓛 : Logic 𝓤) (C : Calls 𝓤 𝓛.H) (Λ : Loops 𝓤 𝓛.H) (κ : Lft) (q : Share) (rb ro : ℕ) (d : (Owner E).Denot) (us0 : List Val) where
  open 𝓛 use {H}

  abbrev self : Bor (Owner E).Denot
  self = record { ref_ptr = (rb, ro); now = d }

  abbrev bound : (walk_of 𝓛 (ended E) (stayed E) (spec E 𝓛)).Ghost
  bound = (((κ, tt), (q, tt), tt, (self, tt), (us0, tt)), tt)

  abbrev Post : Val → SProp 𝓤
  Post = (walk_of 𝓛 (ended E) (stayed E) (spec E 𝓛)).post bound

  exits : (r : (Owner E).Denot) → HasCells E d (none_of E d) r → ent 𝓤 (⋆ 𝓛 (‵ (flft κ q) ∷ ‵ ((Owner E).own_val r (mark ∷ [])) ∷ [])) (Post mark)
  exits r none =
      qed 𝓛 (‵ (flft κ q) ∷ ‵ ((Owner E).own_val r (mark ∷ [])) ∷ []) ∵
      suffices ! _ (ends_at 𝓛 (ended E) (stayed E) (spec E 𝓛) bound mark r (tt, tt) (tt, tt)) $ says ! none $
      nothing ! $ move ! (1 ∷ 0 ∷ []) $ join ! $ frame ! $ nothing ! $ nothing ! $ fjoin ! $ done !

  abbrev Had : List (Item 𝓤)
  Had = ‵ (hidden_shr (Owner E) κ d rb ro) ∷ ‵ (flft κ q) ∷ []

  walk : ent 𝓤 (⋆ 𝓛 Had) (WpFn 𝓤 H C Λ (function E) (vptr rb ro ∷ []) Post)
  walk =
      let s = sz E in let none = none_of E d in let apart : (Owner E).Denot = with_slots d none in
      let long : length none ≡ length d.slots = length-replicate (length d.slots) None in
      qed 𝓛 Had ∵ enter ! C Λ (function E) (vptr rb ro ∷ []) _ $ alloc_all ! (λ l. pass_all ! refl ((tt, tt), tt) $
      unhide ! $ fsplit ! $ drop ! $ in_a_block ! d.at (λ p. cells_lent (R E) p d.slots κ) (id⊢ 𝓤 (never 𝓤)) (λ b o e. fsplit ! $ flt_l ! (λ small. drop ! $
      sets ! (agg ! (no_more !)) refl (tt, tt) $ sets ! (agg ! (and_then ! (get ! refl) (no_more !))) refl (tt, (tt, tt)) $
      use0 𝓛 (‵ (row (R E) b o none)) (none_here E 𝓛 b o (length d.slots)) $
      flt_i ! (length none * s) (2 ^ 63) (subst (λ k. k * s < 2 ^ 63) (sym long) small) $ fjoin ! $
      rewrite ! 0 (λ (p : Ptr). ‵ (cells_own (R E) p none)) (sym e) refl $ use0 𝓛 (‵ ((Mark E).own_val (tt, tt) (mark ∷ []))) (mark_made E 𝓛) $ fjoin ! $ move ! (1 ∷ 0 ∷ []) $
      returns ! (look_at ! 0 refl) $ free_all ! refl $ keep ! (0 ∷ 1 ∷ []) $ by ! (exits apart (refl, refl)))))

  entry : ent 𝓤 (on_entry 𝓛 (ended E).signature (κ, tt) (q, tt) (self, tt) (us0, tt)) (WpFn 𝓤 H C Λ (function E) (us0 ++ []) Post)
  entry =
      qed 𝓛 ((‵ (flft κ q) ⊛ ‵ ftrue) ∷ ‵ (owns (ShrRef (named 0) κ (Owner E) ∷ []) (self, tt) (us0, tt)) ∷ []) ∵
      split ! $ move ! (2 ∷ []) $ fsplit ! $ fsplit ! $ feq_l ! (λ e0. keep ! (0 ∷ 2 ∷ []) $
      by ! (subst (λ (ws : List Val). ent 𝓤 (⋆ 𝓛 Had) (WpFn 𝓤 H C Λ (function E) (ws ++ []) Post)) (sym e0) walk))

pub none_spec : {M : Type 1} → stated.statement M
none_spec 𝓤 𝓛 𝓜 𝓡 wired X LX y =
    let E : El = record { row = X; laws = LX } in let 𝓣 = tables 𝓤 𝓛.H 𝓜 𝓡 𝓡.env in
    walked 𝓤 𝓛 𝓜 𝓡 X.lives (#self (args E)) (function E) (ended E) (stayed E) (spec E 𝓛) (code.unfolded 𝓤 𝓛.H 𝓜 𝓡 wired (X, tt))
    (Goes-dropped 𝓛 1 (RefOf (0 ∷ []) tt (plain (λ _. Owner E)) (λ _. tt)) yes (λ κs x f. refl), tt)
    (λ z. let a = z.0.3 in let us = z.0.4 in
    via 𝓤 _ (fst∗ 𝓤 _ (emp 𝓤)) (entry E 𝓛 𝓣.C 𝓣.Λ z.0.0.0 z.0.1.0 a.0.ref_ptr.0 a.0.ref_ptr.1 a.0.now us.0))
    ((y.0.0, y.0.1, tt, y.0.3, y.0.4), y.1)
