-- Putting, taking, giving back and lending have one result.
use Rattle.std.proofs.Common.{◌≡◌, ◌⊎◌, inl, inr, ◌<◌, ℕ, Some, None, Ok, Err, slice_get, refl, sym, ap, ◌∙◌, arith}
use Rattle.in_arena.specs.Arenas.{state_at}
use Rattle.in_compile.proofs.Public.{one_arena}
use Rattle.in_rounds.specs.Dones.{DoneParts}
use Rattle.in_rounds.specs.Gathers.{GatherParts, IsPutRefused}
use Rattle.in_rounds.specs.Holding.{holders}
use Rattle.in_rounds.specs.Laws.{LentArenasAreOne, PutsAreOne, ReturnsAreOne, TakesAreOne}
use Rattle.in_rounds.specs.declared.gather.JobState.TheVariants.{Fresh, Kept, Taken}
use Rattle.in_rounds.specs.declared.gather.Why.{Why}
use Rattle.in_rounds.specs.declared.gather.Why.TheVariants.{Double, Stranger}
use Rattle.in_rounds.proofs.Holding.{fewer_or_same, leased_of}

one_why : (g : GatherParts) (d : DoneParts) (v w : Why) → IsPutRefused g d v → IsPutRefused g d w → v ≡ w
one_why g d Stranger Stranger h k = refl
one_why g d Double Double h k = refl
one_why g d Stranger Double h k = absurd (h k.0)
one_why g d Double Stranger h k = absurd (k h.0)

not_both : (g : GatherParts) (d : DoneParts) (w : Why) → IsPutRefused g d w → (slice_get g.jobs d.job ≡ Some d.heads) → (slice_get g.slots d.job ≡ Some Fresh) → ⊥
not_both g d Stranger h has fresh = h has
not_both g d Double (h, inl (e, kept)) has fresh = let f : Some Fresh ≡ Some (Kept e) = sym fresh ∙ kept in cc
not_both g d Double (h, inr taken) has fresh = let f : Some Fresh ≡ Some Taken = sym fresh ∙ taken in cc

pub puts_are_one : PutsAreOne
puts_are_one g h i d (Ok u) (Ok v) a b = (refl, a.2 ∙ sym b.2)
puts_are_one g h i d (Err e) (Err f) a b =
    let first : e.0 ≡ f.0 = a.0 ∙ sym b.0 in
    let second : e.1 ≡ f.1 = one_why g d e.1 f.1 a.1 b.1 in
    ((λ j. Err (first j, second j)), a.2 ∙ sym b.2)
puts_are_one g h i d (Ok u) (Err f) a b = absurd (not_both g d f.1 b.1 a.0 a.1)
puts_are_one g h i d (Err e) (Ok v) a b = absurd (not_both g d e.1 a.1 b.0 b.1)

one_kept : (g : GatherParts) (job : ℕ) (d e : DoneParts) → slice_get g.slots job ≡ Some (Kept d) → slice_get g.slots job ≡ Some (Kept e) → d ≡ e
one_kept g job d e a b = let f : Some (Kept d) ≡ Some (Kept e) = sym a ∙ b in cc

pub takes_are_one : TakesAreOne
takes_are_one g h i job (Some d) (Some e) a b = (ap (λ (z : DoneParts). Some z) (one_kept g job d e a.0 b.0), a.1 ∙ sym b.1)
takes_are_one g h i job None None a b = (refl, a.1 ∙ sym b.1)
takes_are_one g h i job (Some d) None a b = absurd (b.0 d a.0)
takes_are_one g h i job None (Some e) a b = absurd (a.0 e b.0)

pub returns_are_one : ReturnsAreOne
returns_are_one before after a new other x y =
    one_arena new other (x.memory ∙ sym y.memory) (x.cells ∙ sym y.cells) (x.count ∙ sym y.count) (λ n. at n (fewer_or_same (holders n after) (holders n before) (x.fewer n)))
  where
    at : (n : ℕ) → (holders n after < holders n before) ⊎ (holders n after ≡ holders n before) → state_at new n ≡ state_at other n
    at n (inl less) = x.free n less ∙ sym (y.free n less)
    at n (inr same) = x.others n same ∙ sym (y.others n same)

pub lent_once : LentArenasAreOne
lent_once bs a new other x y =
    one_arena new other (x.memory ∙ sym y.memory) (x.cells ∙ sym y.cells) (x.count ∙ sym y.count) (λ n. at n (fewer_or_same (holders n bs) 1 (x.bags.once n)))
  where
    at : (n : ℕ) → (holders n bs < 1) ⊎ (holders n bs ≡ 1) → state_at new n ≡ state_at other n
    at n (inl less) = let none : holders n bs ≡ 0 = omega (arith, less) in x.others n none ∙ sym (y.others n none)
    at n (inr one) = let some : 0 < holders n bs = omega (arith, one) in leased_of bs new n x.bags some ∙ sym (leased_of bs other n y.bags some)
