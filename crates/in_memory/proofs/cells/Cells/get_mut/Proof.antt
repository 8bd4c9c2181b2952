-- `get_mut` lends the contents of one cell, and the owner's cells follow it. Assumes `Logic`.
use mathlib.Core.Path.{◌≡◌, refl, sym, subst, ◌∙◌}
use Prim.Native.Nat.{ℕ, ◌+◌, ◌*◌, ◌<◌, ◌^◌}
use native.Mathlib.Omega.{arith}
use mathlib.Core.List.{List, [], ◌∷◌, ◌++◌}
use lib.ListN.{length, set, get_or, length-set}
use seplogic.Ra.Ura.{Ura}
use base.Fraction.{full_share}
use base.Logic.{SProp, ent, sep, never, id⊢}
use base.Fml.{Lft, GName, Share, Fml, ftrue, fsep, fat, flft}
use mir.Syntax.{Fn, named, w64}
use mir.MapTy.{inst_fn}
use mir.Val.{Val, vptr, vint}
use prog.Wp.{Env, Calls, Loops, WpFn}
use contract.Monad.{fact}
use contract.Running.{tables}
use types.Logic.{Logic, sem}
use types.Kit.{Item, ⋆, ‵, raw, ◌⊛◌, some, later, await, pick, at_ret, ◌$◌, ◌∵◌, !, qed, by, move, keep, use1, use2, split, join, group, rewrite, fsplit, fsplit3, fjoin, fjoin3, fpack, feq_l, flt_l, flt_i, suffices, frame, done}
use types.Part.{whole, sub}
use types.Run.{stop, fld, of_opd, bin, size_lit, addr, first, blocks, exec, returns, enter}
use types.ByLocal.{alloc_all, pass_all, free_all, look_at, get, get_in, take_at, give_at, through, sets, sets_last, env}
use denote.Builtin.{RefMutOf, usize}
use denote.Exit.{no}
use denote.Follow.{follows, Part, lends_Part}
use denote.Memory.{mem, cell_at, part_of}
use denote.Param.{layout}
use denote.RattleType.{owns}
use denote.RawPtr.{Ptr, block_ptr, in_a_block}
use denote.Ref.{MutBor, MutRef}
use denote.Signature.{plain, mut_ref_to}
use denote.Steps.{nothing, opens}
use denote.Triple.Clauses.{Clauses, Ended}
use denote.Triple.Entry.{on_entry}
use denote.Triple.Walked.{says, needs, Stays, stay_dropped, walk_of, ends_at, Goes-dropped, Goes-spent_ref}
use Rattle.std.specs.Prelude.{Some, None}
use Rattle.core.proofs.mem.Param.{El, R, args, el_x}
use Rattle.core.proofs.ptr.Rows.{times_below, one_below}
use Rattle.std_alloc.proofs.RcSteps.{word, word-Good}
use Rattle.std_alloc.proofs.VecSteps.Shapes.{after}
use Rattle.in_memory.specs.Ownership.{cell, row, cells_own}
use Rattle.in_memory.specs.Lends.{with_slots}
use Rattle.in_memory.proofs.Memory.{Owner, Begin, Mark, sz, Place, IsFilledFrom, lent, word_had}
use Rattle.in_memory.proofs.Walks.{walked}
use Rattle.in_memory.proofs.Rows.{Others, cell_out, cell_in, filled_inside}
use Rattle.in_memory.specs.contracts.cells.Cells.get_mut.Key.{name as #self}
use Rattle.in_memory.proofs.cells.Cells.get_mut.Statement as stated
use Rattle.in_memory.proofs.cells.Cells.get_mut.Code as code

module _ (E : El) where
  abbrev function : Fn
  function = inst_fn (args E) code.function

  abbrev ended : Ended
  ended = record { signature = record { lifetimes = 1; outlives = []; params = RefMutOf (0 ∷ []) tt (plain (λ _. Owner E)) (λ _. tt) ∷ plain (λ _. Begin E) ∷ plain (λ _. usize) ∷ []; result = RefMutOf (0 ∷ []) tt (plain (λ _. R E)) (λ _. tt) }; kept = (no, (no, (no, tt))) }

  abbrev stayed : Stays ended.signature.params ended.kept
  stayed = (stay_dropped (mut_ref_to (0 ∷ []) tt (plain (λ _. Owner E))) no, (stay_dropped (plain (λ _. Begin E)) no, (stay_dropped (plain (λ _. usize)) no, tt)))

  abbrev Gives : (Owner E).Denot → ℕ → MutBor (el_x E) → Type 0
  Gives d index r = get_or d.slots index None ≡ Some (Some r.now)

  -- the owner once w is in the cell
  abbrev new : (Owner E).Denot → ℕ → el_x E → (Owner E).Denot
  new d index w = with_slots d (set d.slots index (Some (Some w)))

module _ (E : El) {M : Type 1} {𝓤 : Ura M} (𝓛 : Logic 𝓤) where
  abbrev spec : Clauses 𝓤 (ended E)
  spec κs a = record {
    ghost = Unit {0};
    requires = λ _. fact 𝓤 (IsFilledFrom E a.0.now a.1.0 a.1.1.0);
    ensures = λ _ r w. sep 𝓤 (sem 𝓛 (follows (Owner E) (R E) a.0.ghost_name r.ghost_name (new E a.0.now a.1.1.0))) (fact 𝓤 (Gives E a.0.now a.1.1.0 r));
  }

module _ (E : El) {M : Type 1} {𝓤 : Ura M} (𝓛 : Logic 𝓤) (C : Calls 𝓤 𝓛.H) (Λ : Loops 𝓤 𝓛.H) (κ : Lft) (q : Share) (rb ro : ℕ) (γ : GName) (d : (Owner E).Denot) (base : (Begin E).Denot) (index : ℕ) (us0 us1 us2 : List Val) where
  open 𝓛 use {H, A}

  abbrev self : MutBor (Owner E).Denot
  self = record { ref_ptr = (rb, ro); ghost_name = γ; now = d }

  abbrev bound : (walk_of 𝓛 (ended E) (stayed E) (spec E 𝓛)).Ghost
  bound = (((κ, tt), (q, tt), tt, (self, (base, (index, tt))), (us0, (us1, (us2, tt)))), tt)

  abbrev Post : Val → SProp 𝓤
  Post = (walk_of 𝓛 (ended E) (stayed E) (spec E 𝓛)).post bound

  -- the rest that is kept while the value in the cell is lent
  module _ (vs : List Val) (b o : ℕ) where
    abbrev Rest : Fml
    Rest = fsep (Others E 𝓛 b o d.slots index) (fsep ((Mark E).own_val (tt, tt) vs) (cell_at full_share (Owner E).mir vs rb ro))

    back : d.at ≡ block_ptr b o → index < length d.slots → length d.slots * sz E < 2 ^ 63
        → (w : el_x E) → ent 𝓤 (sep 𝓤 (sem 𝓛 ((mem (R E)).own_at w b (index * sz E + o))) (sem 𝓛 Rest)) (sem 𝓛 ((mem (Owner E)).own_at (new E d index w) rb ro))
    unfolding part_of
    back e inside small w =
        let cs = set d.slots index (Some (Some w)) in let long = length-set d.slots index (Some (Some w)) in
        qed 𝓛 (‵ (cell (R E) b (index * sz E + o) (Some (Some w))) ∷ ‵ Rest ∷ []) ∵ move ! (1 ∷ []) $ fsplit3 ! $ move ! (3 ∷ 0 ∷ []) $
        use2 𝓛 (‵ (row (R E) b o cs)) (cell_in E 𝓛 b o d.slots index (index * sz E + o) (Some (Some w)) inside refl) $
        flt_i ! (length cs * sz E) (2 ^ 63) (subst (λ k. k * sz E < 2 ^ 63) (sym long) small) $ fjoin ! $
        rewrite ! 0 (λ (p : Ptr). ‵ (cells_own (R E) p cs)) (sym e) refl $ move ! (1 ∷ 0 ∷ []) $ fjoin ! $ move ! (1 ∷ 0 ∷ []) $ fjoin ! $
        fpack ! (List Val) (λ us. fsep (cell_at full_share (Owner E).mir us rb ro) ((Owner E).own_val (new E d index w) us)) vs $ done !

  exits : (v : Val) (r : MutBor (el_x E)) → Gives E d index r
      → ent 𝓤 (sep 𝓤 (sem 𝓛 ((MutRef (named 0) κ (R E)).own_val r (v ∷ []))) (sep 𝓤 (A.lft κ q) (sem 𝓛 (follows (Owner E) (R E) γ r.ghost_name (new E d index))))) (Post v)
  exits v r given_it =
      qed 𝓛 (‵ ((MutRef (named 0) κ (R E)).own_val r (v ∷ [])) ∷ ‵ (flft κ q) ∷ ‵ (follows (Owner E) (R E) γ r.ghost_name (new E d index)) ∷ []) ∵
      suffices ! _ (ends_at 𝓛 (ended E) (stayed E) (spec E 𝓛) bound v r (tt, (tt, (tt, tt))) (tt, (tt, (tt, tt)))) $
      nothing ! $ nothing ! $ fjoin ! $ nothing ! $ fjoin ! $ nothing ! $ fjoin ! $ join ! $ nothing ! $ move ! (2 ∷ 0 ∷ []) $ join ! $ join ! $ frame ! $ says ! given_it $ done !

  abbrev Had : List (Item 𝓤)
  Had = lent E 𝓛 κ q rb ro γ d

  walk : IsFilledFrom E d base index → index < 2 ^ 64 → ent 𝓤 (⋆ 𝓛 Had) (WpFn 𝓤 H C Λ (function E) (vptr rb ro ∷ word base.ptr ∷ vint w64 index ∷ []) Post)
  walk asked fits =
      let x = asked.1.0 in let is = asked.1.1 in let inside = filled_inside d.slots index (Some x) is in let s = sz E in let coded = (Owner E).coded.code d in
      qed 𝓛 Had ∵ enter ! C Λ (function E) (vptr rb ro ∷ word base.ptr ∷ vint w64 index ∷ []) _ $ alloc_all ! (λ l. pass_all ! refl ((tt, tt), (word-Good [] base.ptr, ((tt, record { fits = fits }), tt))) $
      let En : Env 𝓤 H = env (function E).locals l in
      opens ! tt (Owner E) {h = d} rb ro (λ vs. move ! (1 ∷ []) $ fsplit ! $ move ! (1 ∷ []) $
      in_a_block ! d.at (λ p. cells_own (R E) p d.slots) (id⊢ 𝓤 (never 𝓤)) (λ b o e. fsplit ! $ flt_l ! (λ small.
      let tiny : s < 2 ^ 64 = omega (arith, one_below (length d.slots) s (2 ^ 63) (omega arith) small) in let at = index * s + o in
      let far : index * s < 2 ^ 64 = omega (arith, times_below index (length d.slots) s (2 ^ 63) (omega arith) small) in
      take_at ! 2 $ rewrite ! 0 (λ (p : Ptr). ‵ (fat full_share (layout (Begin E)) (l 2) 0 (word p))) (asked.0 ∙ e) refl $ give_at ! 2 $ first ! $ blocks ! $
      sets ! (bin ! (get ! refl) (size_lit ! (record { fits = tiny })) (record { fits = far })) refl (tt, record { fits = far }) $
      sets ! (bin ! (get_in ! (fld ! refl (stop !)) (sub ! 0 refl (whole !))) (get ! refl) tt) refl (tt, tt) $
      -- [the cell; the other cells; the mark; the owner's bytes; the open borrow, in three entries; the locals]
      use1 𝓛 (‵ (cell (R E) b at (get_or d.slots index None)) ⊛ ‵ (Others E 𝓛 b o d.slots index)) (cell_out E 𝓛 b o d.slots index at inside refl) $ split ! $
      rewrite ! 0 (λ (c : Place E). ‵ (cell (R E) b at c)) is refl $
      let way = back vs b o e inside small in
      sets_last ! (addr ! (through ! refl (stop !))) refl (tt, tt) $ exec ! C Λ En (after 1 (function E).body) (at_ret En Post) $ sets ! (of_opd ! (get ! refl)) refl (tt, tt) $
      move ! (1 ∷ 2 ∷ 3 ∷ []) $ fjoin3 ! $ move ! (2 ∷ 3 ∷ 4 ∷ 1 ∷ 0 ∷ []) $ group ! 5 $
      use1 𝓛 (later (some (λ (δ : GName). raw (Part 𝓛 (Owner E) (R E) (new E d index) (named 0) κ q rb ro b at γ (sem 𝓛 (Rest vs b o)) way x δ))))
      (lends_Part 𝓛 (Owner E) (R E) (new E d index) (named 0) κ q rb ro b at γ (sem 𝓛 (Rest vs b o)) way coded coded x) $ await ! tt $ pick ! (λ δ.
      returns ! (look_at ! 0 refl) $ free_all ! refl $ keep ! (0 ∷ []) $ by ! (exits (vptr b at) (record { ref_ptr = (b, at); ghost_name = δ; now = x }) is))))))

  entry : IsFilledFrom E d base index → ent 𝓤 (on_entry 𝓛 (ended E).signature (κ, tt) (q, tt) (self, (base, (index, tt))) (us0, (us1, (us2, tt)))) (WpFn 𝓤 H C Λ (function E) (us0 ++ (us1 ++ (us2 ++ []))) Post)
  entry asked =
      qed 𝓛 ((‵ (flft κ q) ⊛ ‵ ftrue) ∷ ‵ (owns (MutRef (named 0) κ (Owner E) ∷ Begin E ∷ usize ∷ []) (self, (base, (index, tt))) (us0, (us1, (us2, tt)))) ∷ []) ∵
      split ! $ move ! (2 ∷ []) $ fsplit ! $ fsplit3 ! $ feq_l ! (λ e0. move ! (2 ∷ []) $ fsplit ! $ word_had ! base.ptr us1 (λ e1.
      fsplit ! $ fsplit ! $ feq_l ! (λ e2. flt_l ! (λ fits. keep ! (1 ∷ 2 ∷ 3 ∷ []) $
      by ! (subst (λ (ws : List Val × List Val × List Val). ent 𝓤 (⋆ 𝓛 Had) (WpFn 𝓤 H C Λ (function E) (ws.0 ++ (ws.1 ++ (ws.2 ++ []))) Post)) (λ j. (sym e0 j, sym e1 j, sym e2 j)) (walk asked fits))))))

pub get_mut_spec : {M : Type 1} → stated.statement M
get_mut_spec 𝓤 𝓛 𝓜 𝓡 wired X LX y =
    let E : El = record { row = X; laws = LX } in let 𝓣 = tables 𝓤 𝓛.H 𝓜 𝓡 𝓡.env in
    walked 𝓤 𝓛 𝓜 𝓡 X.lives (#self (args E)) (function E) (ended E) (stayed E) (spec E 𝓛) (code.unfolded 𝓤 𝓛.H 𝓜 𝓡 wired (X, tt))
    (Goes-spent_ref 𝓛 1 (0 ∷ []) tt (plain (λ _. Owner E)), (Goes-dropped 𝓛 1 (plain (λ _. Begin E)) no (λ κs x f. refl), (Goes-dropped 𝓛 1 (plain (λ _. usize)) no (λ κs x f. refl), tt)))
    (λ z. let a = z.0.3 in let us = z.0.4 in
    needs 𝓤 (IsFilledFrom E a.0.now a.1.0 a.1.1.0) _ (entry E 𝓛 𝓣.C 𝓣.Λ z.0.0.0 z.0.1.0 a.0.ref_ptr.0 a.0.ref_ptr.1 a.0.ghost_name a.0.now a.1.0 a.1.1.0 us.0 us.1.0 us.1.1.0))
    ((y.0.0, y.0.1, tt, y.0.3, y.0.4), y.1)
