-- `get` shows the contents of one cell. Assumes `Logic`.
use mathlib.Core.Path.{◌≡◌, refl, sym, subst, ◌∙◌}
use Prim.Native.Nat.{ℕ, ◌+◌, ◌*◌, ◌<◌, ◌^◌}
use native.Mathlib.Omega.{arith}
use mathlib.Core.List.{List, [], ◌∷◌, ◌++◌}
use lib.ListN.{length, get_or}
use seplogic.Ra.Ura.{Ura}
use base.Fraction.{full_share}
use base.Logic.{SProp, ent, never, id⊢}
use base.Fml.{Lft, Share, ftrue, fat, flft}
use mir.Syntax.{Fn, named, w64}
use mir.MapTy.{inst_fn}
use mir.Val.{Val, vptr, vint}
use prog.Wp.{Env, Calls, Loops, WpFn}
use contract.Monad.{fact}
use contract.Running.{tables}
use types.Logic.{Logic}
use types.Kit.{Item, ⋆, ‵, ◌⊛◌, at_ret, ◌$◌, ◌∵◌, !, qed, by, move, keep, drop, use1, split, join, rewrite, fsplit, fjoin, feq_i, feq_l, flt_l, suffices, frame, done}
use types.Part.{whole, sub}
use types.Run.{stop, fld, of_opd, bin, size_lit, addr, first, blocks, exec, returns, enter}
use types.ByLocal.{alloc_all, pass_all, free_all, look_at, get, get_in, take_at, give_at, through, sets, sets_last, env}
use denote.Builtin.{RefOf, usize}
use denote.Exit.{yes, no}
use denote.Memory.{hidden_shr}
use denote.Opens.{hide, unhide}
use denote.Param.{layout}
use denote.RattleType.{owns}
use denote.RawPtr.{Ptr, in_a_block}
use denote.Ref.{Bor, ShrRef}
use denote.Signature.{plain}
use denote.Steps.{nothing}
use denote.Triple.Clauses.{Clauses, Ended}
use denote.Triple.Entry.{on_entry}
use denote.Triple.Walked.{says, needs, Stays, stay_dropped, walk_of, ends_at, Goes-dropped}
use Rattle.std.specs.Prelude.{Some, None}
use Rattle.core.proofs.mem.Param.{El, R, args, el_x}
use Rattle.core.proofs.ptr.Rows.{times_below, one_below}
use Rattle.std_alloc.proofs.RcSteps.{word, word-Good}
use Rattle.std_alloc.proofs.VecSteps.Shapes.{after}
use Rattle.in_memory.specs.Ownership.{cell_lent, cells_lent}
use Rattle.in_memory.proofs.Memory.{Owner, Begin, sz, Place, IsFilledFrom, word_had}
use Rattle.in_memory.proofs.Walks.{walked}
use Rattle.in_memory.proofs.Rows.{cell_seen, filled_inside}
use Rattle.in_memory.specs.contracts.cells.Cells.get.Key.{name as #self}
use Rattle.in_memory.proofs.cells.Cells.get.Statement as stated
use Rattle.in_memory.proofs.cells.Cells.get.Code as code

module _ (E : El) where
  abbrev function : Fn
  function = inst_fn (args E) code.function

  abbrev ended : Ended
  ended = record { signature = record { lifetimes = 1; outlives = []; params = RefOf (0 ∷ []) tt (plain (λ _. Owner E)) (λ _. tt) ∷ plain (λ _. Begin E) ∷ plain (λ _. usize) ∷ []; result = RefOf (0 ∷ []) tt (plain (λ _. R E)) (λ _. tt) }; kept = (yes, (no, (no, tt))) }

  abbrev stayed : Stays ended.signature.params ended.kept
  stayed = (stay_dropped (RefOf (0 ∷ []) tt (plain (λ _. Owner E)) (λ _. tt)) yes, (stay_dropped (plain (λ _. Begin E)) no, (stay_dropped (plain (λ _. usize)) no, tt)))

  abbrev Gives : (Owner E).Denot → ℕ → Bor (el_x E) → Type 0
  Gives d index r = get_or d.slots index None ≡ Some (Some r.now)

module _ (E : El) {M : Type 1} {𝓤 : Ura M} (𝓛 : Logic 𝓤) where
  abbrev spec : Clauses 𝓤 (ended E)
  spec κs a = record { ghost = Unit {0}; requires = λ _. fact 𝓤 (IsFilledFrom E a.0.now a.1.0 a.1.1.0); ensures = λ _ r w. fact 𝓤 (Gives E a.0.now a.1.1.0 r) }

module _ (E : El) {M : Type 1} {𝓤 : Ura M} (𝓛 : Logic 𝓤) (C : Calls 𝓤 𝓛.H) (Λ : Loops 𝓤 𝓛.H) (κ : Lft) (q : Share) (rb ro : ℕ) (d : (Owner E).Denot) (base : (Begin E).Denot) (index : ℕ) (us0 us1 us2 : List Val) where
  open 𝓛 use {H}

  abbrev self : Bor (Owner E).Denot
  self = record { ref_ptr = (rb, ro); now = d }

  abbrev bound : (walk_of 𝓛 (ended E) (stayed E) (spec E 𝓛)).Ghost
  bound = (((κ, tt), (q, tt), tt, (self, (base, (index, tt))), (us0, (us1, (us2, tt)))), tt)

  abbrev Post : Val → SProp 𝓤
  Post = (walk_of 𝓛 (ended E) (stayed E) (spec E 𝓛)).post bound

  exits : (r : (ShrRef (named 0) κ (R E)).Denot) (v : Val) → Gives E d index r → ent 𝓤 (⋆ 𝓛 (‵ (flft κ q) ∷ ‵ ((ShrRef (named 0) κ (R E)).own_val r (v ∷ [])) ∷ [])) (Post v)
  exits r v given_it =
      qed 𝓛 (‵ (flft κ q) ∷ ‵ ((ShrRef (named 0) κ (R E)).own_val r (v ∷ [])) ∷ []) ∵
      suffices ! _ (ends_at 𝓛 (ended E) (stayed E) (spec E 𝓛) bound v r (tt, (tt, (tt, tt))) (tt, (tt, (tt, tt)))) $ says ! given_it $
      nothing ! $ move ! (1 ∷ 0 ∷ []) $ join ! $ frame ! $ nothing ! $ nothing ! $ fjoin ! $ nothing ! $ fjoin ! $ nothing ! $ fjoin ! $ done !

  abbrev Had : List (Item 𝓤)
  Had = ‵ (hidden_shr (Owner E) κ d rb ro) ∷ ‵ (flft κ q) ∷ []

  walk : IsFilledFrom E d base index → index < 2 ^ 64 → ent 𝓤 (⋆ 𝓛 Had) (WpFn 𝓤 H C Λ (function E) (vptr rb ro ∷ word base.ptr ∷ vint w64 index ∷ []) Post)
  walk asked fits =
      let x = asked.1.0 in let is = asked.1.1 in let inside = filled_inside d.slots index (Some x) is in let s = sz E in
      qed 𝓛 Had ∵ enter ! C Λ (function E) (vptr rb ro ∷ word base.ptr ∷ vint w64 index ∷ []) _ $ alloc_all ! (λ l. pass_all ! refl ((tt, tt), (word-Good [] base.ptr, ((tt, record { fits = fits }), tt))) $
      let En : Env 𝓤 H = env (function E).locals l in
      unhide ! $ fsplit ! $ drop ! $ in_a_block ! d.at (λ p. cells_lent (R E) p d.slots κ) (id⊢ 𝓤 (never 𝓤)) (λ b o e. fsplit ! $ flt_l ! (λ small.
      let tiny : s < 2 ^ 64 = omega (arith, one_below (length d.slots) s (2 ^ 63) (omega arith) small) in let at = index * s + o in
      let far : index * s < 2 ^ 64 = omega (arith, times_below index (length d.slots) s (2 ^ 63) (omega arith) small) in
      -- the base is the pointer at which the row lies
      take_at ! 2 $ rewrite ! 0 (λ (p : Ptr). ‵ (fat full_share (layout (Begin E)) (l 2) 0 (word p))) (asked.0 ∙ e) refl $ give_at ! 2 $ first ! $ blocks ! $
      sets ! (bin ! (get ! refl) (size_lit ! (record { fits = tiny })) (record { fits = far })) refl (tt, record { fits = far }) $
      sets ! (bin ! (get_in ! (fld ! refl (stop !)) (sub ! 0 refl (whole !))) (get ! refl) tt) refl (tt, tt) $
      -- [what a `&` to the cell holds; the token; the locals]
      use1 𝓛 (‵ (cell_lent (R E) b at (get_or d.slots index None) κ)) (cell_seen E 𝓛 b κ o d.slots index at inside refl) $
      rewrite ! 0 (λ (c : Place E). ‵ (cell_lent (R E) b at c κ)) is refl $ hide ! $
      sets_last ! (addr ! (through ! refl (stop !))) refl (tt, tt) $ exec ! C Λ En (after 1 (function E).body) (at_ret En Post) $ sets ! (of_opd ! (get ! refl)) refl (tt, tt) $
      feq_i ! (List Val) (vptr b at ∷ []) (vptr b at ∷ []) refl $ fjoin ! $
      returns ! (look_at ! 0 refl) $ free_all ! refl $ keep ! (1 ∷ 0 ∷ []) $ by ! (exits (record { ref_ptr = (b, at); now = x }) (vptr b at) is))))

  entry : IsFilledFrom E d base index → ent 𝓤 (on_entry 𝓛 (ended E).signature (κ, tt) (q, tt) (self, (base, (index, tt))) (us0, (us1, (us2, tt)))) (WpFn 𝓤 H C Λ (function E) (us0 ++ (us1 ++ (us2 ++ []))) Post)
  entry asked =
      qed 𝓛 ((‵ (flft κ q) ⊛ ‵ ftrue) ∷ ‵ (owns (ShrRef (named 0) κ (Owner E) ∷ Begin E ∷ usize ∷ []) (self, (base, (index, tt))) (us0, (us1, (us2, tt)))) ∷ []) ∵
      split ! $ move ! (2 ∷ []) $ fsplit ! $ fsplit ! $ feq_l ! (λ e0. move ! (1 ∷ []) $ fsplit ! $ word_had ! base.ptr us1 (λ e1.
      fsplit ! $ fsplit ! $ feq_l ! (λ e2. flt_l ! (λ fits. keep ! (1 ∷ 2 ∷ []) $
      by ! (subst (λ (ws : List Val × List Val × List Val). ent 𝓤 (⋆ 𝓛 Had) (WpFn 𝓤 H C Λ (function E) (ws.0 ++ (ws.1 ++ (ws.2 ++ []))) Post)) (λ j. (sym e0 j, sym e1 j, sym e2 j)) (walk asked fits))))))

pub get_spec : {M : Type 1} → stated.statement M
get_spec 𝓤 𝓛 𝓜 𝓡 wired X LX y =
    let E : El = record { row = X; laws = LX } in let 𝓣 = tables 𝓤 𝓛.H 𝓜 𝓡 𝓡.env in
    walked 𝓤 𝓛 𝓜 𝓡 X.lives (#self (args E)) (function E) (ended E) (stayed E) (spec E 𝓛) (code.unfolded 𝓤 𝓛.H 𝓜 𝓡 wired (X, tt))
    (Goes-dropped 𝓛 1 (RefOf (0 ∷ []) tt (plain (λ _. Owner E)) (λ _. tt)) yes (λ κs x f. refl), (Goes-dropped 𝓛 1 (plain (λ _. Begin E)) no (λ κs x f. refl), (Goes-dropped 𝓛 1 (plain (λ _. usize)) no (λ κs x f. refl), tt)))
    (λ z. let a = z.0.3 in let us = z.0.4 in
    needs 𝓤 (IsFilledFrom E a.0.now a.1.0 a.1.1.0) _ (entry E 𝓛 𝓣.C 𝓣.Λ z.0.0.0 z.0.1.0 a.0.ref_ptr.0 a.0.ref_ptr.1 a.0.now a.1.0 a.1.1.0 us.0 us.1.0 us.1.1.0))
    ((y.0.0, y.0.1, tt, y.0.3, y.0.4), y.1)
