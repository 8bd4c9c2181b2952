-- The steps that were taken, and the nets that they had built.
use Rattle.std.proofs.Common.{◌≡◌, ◌≤◌, ◌+◌, ℕ, zero, suc, false, Option, Some, None, List, [], ◌∷◌, length, slice_get, refl, sym, subst, ap, inl, inr, ◌∙◌, arith}
use Rattle.std.proofs.Math.ListN.{set}
use Rattle.std.proofs.lemmas.Option.{slice_get_within}
use Rattle.in_simple.specs.declared.verifying.Built.{Built}
use Rattle.in_open_nets.specs.OpenNets.{OpenNet}
use Rattle.in_open_nets.specs.Derivations.{Part, is_among, HaveNoRepeats, AreEarlier, times}
use Rattle.in_simple.specs.Checking.{BuiltParts, IsBuiltPart, AllHold, AreHeld, AreSizedBuilt, IsTaken, Took, TakesNamed, in_one, left_of, left_at, times_left}
use Rattle.in_open_nets.proofs.Public.{different_of, same_nat, not_both, among_times}
use Rattle.in_simple.proofs.Named.{take_one, take_none}
use Rattle.in_base.proofs.Places.{set_here, set_there}
use Rattle.in_base.proofs.Places.{some_same}

pub left_most : (parts : BuiltParts) (i : ℕ) → left_at parts i ≤ 1
left_most parts i = go (slice_get parts i)
  where
    go : (x : Option (Option Built)) → left_of x ≤ 1
    go None = omega arith
    go (Some None) = omega arith
    go (Some (Some b)) = omega arith

pub taken_takes : (i : ℕ) (old new : BuiltParts) (b : Built) → IsTaken i old new b → TakesNamed (i ∷ []) old new
taken_takes i old new b h = subst (λ z. TakesNamed (i ∷ []) old z) (sym h.1) (take_one old i b (slice_get_within old i (Some b) h.0) h.0)

pub taken_kept : (i : ℕ) (old new : BuiltParts) (b : Built) → IsTaken i old new b → (j : ℕ) (c : Built) → slice_get new j ≡ Some (Some c) → slice_get old j ≡ Some (Some c)
taken_kept i old new b h j c g =
    let e : slice_get (set old i None) j ≡ Some (Some c) = subst (λ z. slice_get z j ≡ Some (Some c)) h.1 g in
    elim (same_nat j i) [
      | inl f ↦ let u = set_here old i None (slice_get_within old i (Some b) h.0) in let v : slice_get (set old i None) i ≡ Some (Some c) = subst (λ z. slice_get (set old i None) z ≡ Some (Some c)) f e in cc
      | inr f ↦ sym (set_there old i j None f) ∙ e
    ]

counted_set : (n : ℕ) (parts : BuiltParts) (i : ℕ) (b : Built) → slice_get parts i ≡ Some (Some b) → times_left n (set parts i None) + in_one b n ≡ times_left n parts
counted_set n [] i b h = cc
counted_set n (None ∷ parts) zero b h = cc
counted_set n (Some c ∷ parts) zero b h = let e : in_one c n ≡ in_one b n = ap (λ z. in_one z n) (some_same (Some c) c b refl (some_same (Some (Some c)) (Some c) (Some b) refl h)) in omega arith
counted_set n (None ∷ parts) (suc i) b h = counted_set n parts i b h
counted_set n (Some c ∷ parts) (suc i) b h = let r = counted_set n parts i b h in omega arith

pub taken_counted : (i : ℕ) (old new : BuiltParts) (b : Built) → IsTaken i old new b → (n : ℕ) → times_left n new + in_one b n ≡ times_left n old
taken_counted i old new b h n = subst (λ z. times_left n z + in_one b n ≡ times_left n old) (sym h.1) (counted_set n old i b h.0)

pub took_takes : (is : List ℕ) (old new : BuiltParts) (bs : List Built) → Took is old new bs → TakesNamed is old new
took_takes [] old new [] h = subst (λ z. TakesNamed [] old z) (sym h) (take_none old)
took_takes [] old new (b ∷ bs) h = absurd h
took_takes (i ∷ is) old new [] h = absurd h
took_takes (i ∷ is) old new (b ∷ bs) h =
    let r = took_takes is old h.0 bs h.1 in
    let t = taken_takes i h.0 new b h.2 in
    record {
      size = t.size ∙ r.size;
      each = λ j. let x = r.each j in let y = t.each j in omega arith;
    }

pub took_kept : (is : List ℕ) (old new : BuiltParts) (bs : List Built) → Took is old new bs → (j : ℕ) (c : Built) → slice_get new j ≡ Some (Some c) → slice_get old j ≡ Some (Some c)
took_kept [] old new [] h j c g = subst (λ z. slice_get z j ≡ Some (Some c)) h g
took_kept [] old new (b ∷ bs) h j c g = absurd h
took_kept (i ∷ is) old new [] h j c g = absurd h
took_kept (i ∷ is) old new (b ∷ bs) h j c g = took_kept is old h.0 bs h.1 j c (taken_kept i h.0 new b h.2 j c g)

pub took_different : (is : List ℕ) (old new : BuiltParts) (bs : List Built) → Took is old new bs → HaveNoRepeats is
took_different is old new bs h = let t = took_takes is old new bs h in different_of is (λ j. let a = t.each j in let b = left_most old j in omega arith)

-- a step that is named and was not left when others had been taken was not left before
pub again_left : (is : List ℕ) (old mid : BuiltParts) (bs : List Built) (i : ℕ) → Took is old mid bs → left_at mid i ≡ 0 → is_among i is ≡ false → left_at old i ≡ 0
again_left is old mid bs i h none out =
    let t = took_takes is old mid bs h in
    let a = t.each i in
    elim (same_nat (times i is) 0) [
      | inl e ↦ omega arith
      | inr d ↦ absurd (not_both (is_among i is) (among_times i is (omega arith)) out)
    ]

module _ (o : OpenNet) where
  pub taken_sized : (i : ℕ) (old new : BuiltParts) (b : Built) → IsTaken i old new b → AreSizedBuilt o old → AreSizedBuilt o new
  taken_sized i old new b h all j c g = all j c (taken_kept i old new b h j c g)

  pub took_sized : (is : List ℕ) (old new : BuiltParts) (bs : List Built) → Took is old new bs → AreSizedBuilt o old → AreSizedBuilt o new
  took_sized is old new bs h all j c g = all j c (took_kept is old new bs h j c g)

  -- the parts of the steps that were taken
  pub took_hold : (all : List Part) (k : ℕ) (is : List ℕ) (old new : BuiltParts) (bs : List Built) (xs : List Part) → Took is old new bs → AreHeld o old all → AreEarlier all k is xs → AllHold o bs xs
  took_hold all k [] old new [] [] h held e = tt
  took_hold all k [] old new [] (x ∷ xs) h held e = absurd e
  took_hold all k [] old new (b ∷ bs) xs h held e = absurd h
  took_hold all k (i ∷ is) old new [] xs h held e = absurd h
  took_hold all k (i ∷ is) old new (b ∷ bs) [] h held e = absurd e
  took_hold all k (i ∷ is) old new (b ∷ bs) (x ∷ xs) h held e =
      let g = held i b (took_kept is old h.0 bs h.1 i b h.2.0) in
      (subst (λ z. IsBuiltPart o b z) (some_same (slice_get all i) g.0 x g.1 e.1) g.2, took_hold all k is old h.0 bs xs h.1 held e.2)

  pub took_from : (all : List Part) (is : List ℕ) (old new : BuiltParts) (bs : List Built) → Took is old new bs → AreHeld o old all → (xs : List Part) × AreEarlier all (length old) is xs × AllHold o bs xs
  took_from all [] old new [] h held = ([], tt, tt)
  took_from all [] old new (b ∷ bs) h held = absurd h
  took_from all (i ∷ is) old new [] h held = absurd h
  took_from all (i ∷ is) old new (b ∷ bs) h held =
      let at = took_kept is old h.0 bs h.1 i b h.2.0 in
      let g = held i b at in
      let r = took_from all is old h.0 bs h.1 held in
      (g.0 ∷ r.0, (slice_get_within old i (Some b) at, g.1, r.1), (g.2, r.2))

pub earlier_length : (all : List Part) (k : ℕ) (is : List ℕ) (xs : List Part) → AreEarlier all k is xs → length is ≡ length xs
earlier_length all k [] [] e = refl
earlier_length all k [] (x ∷ xs) e = absurd e
earlier_length all k (i ∷ is) [] e = absurd e
earlier_length all k (i ∷ is) (x ∷ xs) e = ap suc (earlier_length all k is xs e.2)
