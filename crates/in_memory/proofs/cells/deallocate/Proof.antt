-- `deallocate` makes the block of its cells, and hands it back with the allocator's token. Assumes `Logic`.
use mathlib.Core.Path.{◌≡◌, refl, sym, ap, subst, ◌∙◌}
use Prim.Native.Nat.{ℕ, ◌*◌, ◌<◌, ◌^◌}
use native.Mathlib.Omega.{arith}
use mathlib.Core.List.{List, [], ◌∷◌, ◌++◌}
use lib.Dec.{T}
use lib.ListN.{length}
use seplogic.Ra.Ura.{Ura}
use base.Logic.{SProp, ent, never, id⊢}
use base.Fml.{Lft, Share, ftrue, froom, flft, Incl-trans}
use mir.Syntax.{Fn, named, w64, ty_unit, ty_array}
use mir.MapTy.{inst_fn}
use mir.Val.{Val, vptr, vint, vunit, has_ty, WT}
use prog.Capped.{capped_fits}
use prog.Memory.{Memory, align, capped}
use prog.Routine.{Routine}
use prog.Wp.{Env, Calls, Loops, WpFn, Tables}
use contract.BorrowLft.{◌⊑◌}
use contract.Monad.{Fun, fact}
use contract.Running.{tables, tables_of}
use sound.WpLaws.{WpFn-mono, FmC, fm_of}
use types.Logic.{Logic}
use types.Kit.{Item, ⋆, ‵, raw, ◌⊛◌, given, later, await, learn, at_ret, ◌$◌, ◌∵◌, !, qed, by, move, keep, use1, split, join, group, rewrite, fsplit, fsplit3, fjoin, feq_i, feq_l, flt_l, suffices, done}
use types.Part.{whole, sub}
use types.Run.{stop, fld, unit_lit, of_opd, bin, and_then, no_more, size_word, align_word, first, blocks, exec, returns, enter}
use types.ByLocal.{alloc_all, pass_all, free_all, look_at, get, get_in, sets, lands_last, is, env}
use denote.Builtin.{RefOf, usize}
use denote.Exit.{yes, no}
use denote.Memory.{hidden_shr}
use denote.RattleType.{RattleType, owns}
use denote.RawPtr.{Ptr, ptr_val, in_a_block}
use denote.Ref.{Bor, ShrRef}
use denote.Signature.{plain}
use denote.Steps.{nothing}
use denote.Triple.Call.{calls_at_last}
use denote.Triple.Clauses.{Ended, closing}
use denote.Triple.Entry.{on_entry}
use denote.Triple.Spec.{Meets, triple_of}
use denote.Triple.Statement.{Triple}
use denote.Triple.Table.{entered}
use denote.Triple.Walked.{needs, Stays, stay_dropped, walk_of, ends_at, Goes-dropped, walk_Meets}
use Rattle.core.proofs.alloc.Calls.{Al, second, token, gives_key, Gives, at_gives, Gives-goes, Gives-Gives, Goes-blank}
use Rattle.core.proofs.mem.Param.{El, R, elτ}
use Rattle.core.proofs.slots.Leases.{uncapped, block_ty, block_size, block_align, args, P}
use Rattle.std_alloc.proofs.RawLayout.{as_raw}
use Rattle.std_alloc.proofs.RcSteps.{word, word-Good}
use Rattle.std_alloc.proofs.VecSteps.Shapes.{after}
use Rattle.in_memory.specs.Places.{AreHere}
use Rattle.in_memory.specs.Ownership.{cells_own, deed_owns}
use Rattle.in_memory.proofs.Memory.{Owner, Begin, sz, mark, mark_had, word_had}
use Rattle.in_memory.proofs.Rows.{to_room}
use Rattle.in_memory.specs.contracts.cells.Deed as deeds
use Rattle.in_memory.specs.contracts.cells.deallocate as F
use Rattle.in_memory.specs.contracts.cells.deallocate.Key.{name as #self}
use Rattle.in_memory.proofs.cells.deallocate.Statement as stated
use Rattle.in_memory.proofs.cells.deallocate.Code as code

module _ (E : El) (Z : Al) where
  abbrev function : Fn
  function = inst_fn (args E Z) code.function

  abbrev ended : Ended
  ended = F.ended E.row Z.row Z.g Z.d Z.drops

  abbrev Right : RattleType
  Right = deeds.the_row (R E) (P E Z) Z.g

  abbrev stayed : Stays ended.signature.params ended.kept
  stayed = (stay_dropped (RefOf (0 ∷ []) tt (plain (λ _. P E Z)) (λ _. tt)) yes, (stay_dropped (plain (λ _. Begin E)) no, (stay_dropped (plain (λ _. usize)) yes, (stay_dropped (plain (λ _. Owner E)) no, (stay_dropped (plain (λ _. Right)) no, tt)))))

  abbrev Asks : Z.row.Denot → (Begin E).Denot → ℕ → (Owner E).Denot → Right.Denot → Type 0
  Asks a base len cells deed = (cells.at ≡ base.ptr) × (length cells.slots ≡ len) × AreHere cells.slots × (deed.at ≡ base.ptr) × (deed.len ≡ len) × (deed.alloc ≡ a)

module _ (E : El) (Z : Al) {M : Type 1} {𝓤 : Ura M} (𝓛 : Logic 𝓤) (at_mem : Memory → SProp 𝓤) (run : Routine → Fun 𝓤) (C : Calls 𝓤 𝓛.H) (Λ : Loops 𝓤 𝓛.H) (fm : FmC 𝓤 𝓛.H 𝓛.laws C)
    (callee : Triple 𝓤 (C (gives_key Z)) (Gives Z 𝓛 at_mem run)) (κ κ₁ κ₂ : Lft) (q q₁ q₂ : Share) (short : κ ⊑ κ₂) (within_life : κ₂ ⊑ Z.row.lives) (rb ro : ℕ) (a : Z.row.Denot) (base : (Begin E).Denot) (len : ℕ) (cells : (Owner E).Denot) (deed : (Right E Z).Denot) (us0 us1 us2 us3 us4 : List Val) where
  open 𝓛 use {H}

  abbrev self : Bor Z.row.Denot
  self = record { ref_ptr = (rb, ro); now = a }

  abbrev others : Item 𝓤
  others = ‵ (flft κ₁ q₁) ⊛ ‵ (flft κ₂ q₂) ⊛ ‵ ftrue

  abbrev bound : (walk_of 𝓛 (ended E Z) (stayed E Z) (F.clauses E.row Z.row Z.g Z.d Z.drops 𝓛 at_mem run)).Ghost
  bound = (((κ, (κ₁, (κ₂, tt))), (q, (q₁, (q₂, tt))), (short, tt), (self, (base, (len, (cells, (deed, tt))))), (us0, (us1, (us2, (us3, (us4, tt)))))), tt)

  abbrev Post : Val → SProp 𝓤
  Post = (walk_of 𝓛 (ended E Z) (stayed E Z) (F.clauses E.row Z.row Z.g Z.d Z.drops 𝓛 at_mem run)).post bound

  exits : ent 𝓤 (⋆ 𝓛 (‵ (flft κ q) ∷ others ∷ [])) (Post vunit)
  exits =
      qed 𝓛 (‵ (flft κ q) ∷ others ∷ []) ∵
      suffices ! _ (ends_at 𝓛 (ended E Z) (stayed E Z) (F.clauses E.row Z.row Z.g Z.d Z.drops 𝓛 at_mem run) bound vunit tt (tt, (tt, (tt, (tt, (tt, tt))))) (tt, (tt, (tt, (tt, (tt, tt)))))) $
      join ! $ feq_i ! (List Val) (vunit ∷ []) (vunit ∷ []) refl $ nothing ! $ nothing ! $ fjoin ! $ nothing ! $ fjoin ! $ nothing ! $ fjoin ! $ nothing ! $ fjoin ! $ nothing ! $ fjoin ! $ join ! $
      move ! (1 ∷ 0 ∷ []) $ join ! $ nothing ! $ move ! (1 ∷ 0 ∷ []) $ done !

  abbrev Had : List (Item 𝓤)
  Had = ‵ (cells_own (R E) cells.at cells.slots) ∷ ‵ (deed_owns (R E) (token Z deed.alloc) deed.at deed.len) ∷ ‵ (hidden_shr (P E Z) κ a rb ro) ∷ ‵ (flft κ q) ∷ others ∷ []

  walk : Asks E Z a base len cells deed → len < 2 ^ 64 → ent 𝓤 (⋆ 𝓛 Had) (WpFn 𝓤 H C Λ (function E Z) (vptr rb ro ∷ word base.ptr ∷ vint w64 len ∷ mark ∷ mark ∷ []) Post)
  walk asked fits =
      let here = asked.2 in let long = asked.1 in
      qed 𝓛 Had ∵ enter ! C Λ (function E Z) (vptr rb ro ∷ word base.ptr ∷ vint w64 len ∷ mark ∷ mark ∷ []) _ $
      alloc_all ! (λ l. pass_all ! refl ((tt, tt), (word-Good [] base.ptr, ((tt, record { fits = fits }), ((tt, (tt, tt)), ((tt, (tt, tt)), tt))))) $
      let En : Env 𝓤 H = env (function E Z).locals l in let s = sz E in let al : ℕ = capped (align (elτ E)) in
      rewrite ! 0 (λ (p : Ptr). ‵ (cells_own (R E) p cells.slots)) asked.0 refl $
      in_a_block ! base.ptr (λ p. cells_own (R E) p cells.slots) (id⊢ 𝓤 (never 𝓤)) (λ b o e. fsplit ! $ flt_l ! (λ fit.
      let small : len * s < 2 ^ 63 = subst (λ k. k * s < 2 ^ 63) long fit in let bytes : len * s < 2 ^ 64 = omega arith in
      let y : (Gives Z 𝓛 at_mem run).Ghost = at_gives Z 𝓛 at_mem run κ q (rb, ro) a b o (len * s) al (block_ty E len) in
      rewrite ! 1 (λ (d : Z.row.Denot × Ptr × ℕ). ‵ (deed_owns (R E) (token Z d.0) d.1 d.2)) (λ i. (asked.5 i, (asked.3 ∙ e) i, asked.4 i)) refl $
      use1 𝓛 (‵ (froom (ty_array (elτ E) (length cells.slots)) b o)) (to_room E 𝓛 b cells.slots o here) $
      rewrite ! 0 (λ (k : ℕ). ‵ (froom (ty_array (elτ E) k) b o)) long refl $ as_raw ! (ty_array (elτ E) len) b o $ first ! $ blocks ! $
      sets ! (is ! (of_opd ! (get_in ! (fld ! refl (stop !)) (sub ! 0 refl (whole !)))) (ap ptr_val e)) refl (tt, tt) $
      sets ! (is ! (bin ! (get ! refl) (size_word !) (record { fits = subst (λ (k : ℕ). k < 2 ^ 64) (sym (uncapped len s bytes)) bytes })) (ap (vint w64) (uncapped len s bytes))) refl (tt, record { fits = bytes }) $
      group ! 4 $ use1 𝓛 (raw ((Gives Z 𝓛 at_mem run).pre y)) (Gives-goes Z 𝓛 at_mem run κ q (rb, ro) a (Incl-trans short within_life) b o (len * s) al (block_ty E len) (block_size E len bytes) (block_align E len) bytes (capped_fits (align (elτ E)))) $
      calls_at_last ! fm (Gives Z 𝓛 at_mem run) callee y (and_then ! (get ! refl) (and_then ! (get ! refl) (and_then ! (get ! refl) (and_then ! (align_word !) (no_more !))))) (λ v.
      use1 𝓛 (later (given (v ≡ vunit) (‵ (flft κ q)))) (Gives-Gives Z 𝓛 at_mem run κ q (rb, ro) a b o (len * s) al (block_ty E len) v) $ await ! tt $ learn ! (λ is_unit.
      lands_last ! refl (subst (λ (z : Val). T (has_ty ty_unit z) × WT z) (sym is_unit) (tt, tt)) $ exec ! C Λ En (after 1 (function E Z).body) (at_ret En Post) $
      sets ! (of_opd ! (unit_lit !)) refl (tt, tt) $ returns ! (look_at ! 0 refl) $ free_all ! refl $ keep ! (0 ∷ 1 ∷ []) $ by ! exits)))))

  entry : Asks E Z a base len cells deed → ent 𝓤 (on_entry 𝓛 (ended E Z).signature (κ, (κ₁, (κ₂, tt))) (q, (q₁, (q₂, tt))) (self, (base, (len, (cells, (deed, tt))))) (us0, (us1, (us2, (us3, (us4, tt)))))) (WpFn 𝓤 H C Λ (function E Z) (us0 ++ (us1 ++ (us2 ++ (us3 ++ (us4 ++ []))))) Post)
  entry asked =
      qed 𝓛 ((‵ (flft κ q) ⊛ others) ∷ ‵ (owns (ShrRef (named 0) κ (P E Z) ∷ Begin E ∷ usize ∷ Owner E ∷ Right E Z ∷ []) (self, (base, (len, (cells, (deed, tt))))) (us0, (us1, (us2, (us3, (us4, tt)))))) ∷ []) ∵ split ! $ move ! (2 ∷ []) $ fsplit3 ! $ fsplit ! $ feq_l ! (λ e0.
      move ! (1 ∷ []) $ word_had ! base.ptr us1 (λ e1. move ! (1 ∷ []) $ fsplit3 ! $ fsplit ! $ feq_l ! (λ e2. flt_l ! (λ fits.
      fsplit ! $ mark_had ! E us3 (λ e3. move ! (1 ∷ []) $ fsplit ! $ fsplit ! $ mark_had ! E us4 (λ e4. keep ! (2 ∷ 0 ∷ 3 ∷ 4 ∷ 5 ∷ []) $
      by ! (subst (λ (ws : List Val × List Val × List Val × List Val × List Val). ent 𝓤 (⋆ 𝓛 Had) (WpFn 𝓤 H C Λ (function E Z) (ws.0 ++ (ws.1 ++ (ws.2 ++ (ws.3 ++ (ws.4 ++ []))))) Post))
      (λ j. (sym e0 j, sym e1 j, sym e2 j, sym e3 j, sym e4 j)) (walk asked fits))))))))

meets : (E : El) (Z : Al) {M : Type 1} {𝓤 : Ura M} (𝓛 : Logic 𝓤) (at_mem : Memory → SProp 𝓤) (run : Routine → Fun 𝓤) (𝓣 : Tables 𝓤 𝓛.H) → Triple 𝓤 (𝓣.C (gives_key Z)) (Gives Z 𝓛 at_mem run)
    → Meets 𝓛 (ended E Z).signature (WpFn 𝓤 𝓛.H 𝓣.C 𝓣.Λ (function E Z)) (closing 𝓛 (ended E Z) (F.clauses E.row Z.row Z.g Z.d Z.drops 𝓛 at_mem run))
meets E Z {𝓤 = 𝓤} 𝓛 at_mem run 𝓣 callee =
    walk_Meets 𝓛 (ended E Z) (stayed E Z) (Goes-dropped 𝓛 3 (RefOf (0 ∷ []) tt (plain (λ _. P E Z)) (λ _. tt)) yes (λ κs x f. refl), (Goes-dropped 𝓛 3 (plain (λ _. Begin E)) no (λ κs x f. refl), (Goes-dropped 𝓛 3 (plain (λ _. usize)) yes (λ κs x f. refl), (Goes-blank 𝓛 3 (plain (λ _. Owner E)) no (λ κs x f. tt), (Goes-blank 𝓛 3 (plain (λ _. Right E Z)) no (λ κs x f. tt), tt)))))
    (F.clauses E.row Z.row Z.g Z.d Z.drops 𝓛 at_mem run) (WpFn 𝓤 𝓛.H 𝓣.C 𝓣.Λ (function E Z)) (WpFn-mono 𝓤 𝓛.H 𝓛.laws 𝓣 (function E Z))
    (λ z. let κs = z.0.0 in let qs = z.0.1 in let a = z.0.3 in let us = z.0.4 in let On : SProp 𝓤 = on_entry 𝓛 (ended E Z).signature κs qs a us in
    let asks = Asks E Z a.0.now a.1.0 a.1.1.0 a.1.1.1.0 a.1.1.1.1.0 in
    second 𝓤 (κs.1.0 ⊑ E.row.lives) (κs.1.1.0 ⊑ Z.row.lives) On (fact 𝓤 asks) (λ life. needs 𝓤 asks On
    (entry E Z 𝓛 at_mem run 𝓣.C 𝓣.Λ (fm_of 𝓤 𝓛.H 𝓛.laws 𝓣) callee κs.0 κs.1.0 κs.1.1.0 qs.0 qs.1.0 qs.1.1.0 z.0.2.0 life a.0.ref_ptr.0 a.0.ref_ptr.1 a.0.now a.1.0 a.1.1.0 a.1.1.1.0 a.1.1.1.1.0 us.0 us.1.0 us.1.1.0 us.1.1.1.0 us.1.1.1.1.0)))

pub deallocate_spec : {M : Type 1} → stated.statement M
unfolding tables_of
deallocate_spec 𝓤 𝓛 𝓜 𝓡 wired X W LX LW g d dd met md =
    let E : El = record { row = X; laws = LX } in let Z : Al = record { row = W; laws = LW; g = g; d = d; drops = dd } in
    let 𝓣 : Tables 𝓤 𝓛.H = tables_of 𝓤 𝓛.H 𝓜 (tables 𝓤 𝓛.H 𝓜 𝓡 𝓡.env) in
    entered 𝓤 𝓛.H (triple_of 𝓛 (ended E Z).signature (F.spec X W g d dd 𝓛 𝓜.mem 𝓡.returns)) 𝓣.C 𝓣.Λ (#self (args E Z)) (function E Z) (code.unfolded 𝓤 𝓛.H 𝓜 𝓡 wired (X, (W, tt)) d dd)
    (meets E Z 𝓛 𝓜.mem 𝓡.returns 𝓣 (met.deallocate dd))
