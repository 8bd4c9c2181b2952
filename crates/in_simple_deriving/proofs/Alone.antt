-- Nodes that lead to themselves, before any is put back.
use Rattle.std.proofs.Common.{◌≡◌, ◌<◌, ◌+◌, ℕ, List, [], ◌∷◌, ◌++◌, length, slice_index_or, sym, subst, inl, inr, ◌∙◌, arith}
use Rattle.std.proofs.Math.ListN.{get_or-append, length-append}
use Rattle.std.proofs.Math.Seq.{get_or-append_seam}
use Rattle.in_open_nets.proofs.Public.{same_nat}
use Rattle.in_simple_deriving.specs.Heads.{AreAlone, LeadsEarlier}

pub alone_none : AreAlone 0 []
alone_none = record { size = omega arith; each = λ m l. absurd (omega arith) }

pub alone_more : (count : ℕ) (up : List ℕ) → AreAlone count up → AreAlone (count + 1) (up ++ count ∷ [])
alone_more count up a = record {
  size = let e = length-append up (count ∷ []) in let s = a.size in omega arith;
  each = λ m l. elim (same_nat m count) [
    | inl e ↦ subst (λ z. slice_index_or (up ++ count ∷ []) z 0 ≡ z) (a.size ∙ sym e) (get_or-append_seam up count [] 0 ∙ sym a.size)
    | inr d ↦ let s = a.size in get_or-append up (count ∷ []) 0 m (omega arith) ∙ a.each m (omega arith)
  ];
}

pub alone_up : (turns : List ℕ) (count : ℕ) (up : List ℕ) → AreAlone count up → LeadsEarlier turns up
alone_up turns count up a m l = let s = a.size in let e = a.each m (omega arith) in (subst (λ z. z < length up) (sym e) l, inl e)
