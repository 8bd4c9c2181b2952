-- Joining at names keeps numbers in range.
use Rattle.std.proofs.Common.{◌≡◌, ℕ, zero, suc, ◌+◌, ◌-◌, ◌<◌, Bool, true, false, cond, ◌==◌, List, [], ◌∷◌, ◌++◌, length, Option, Some, None, refl, sym, ◌∙◌, ap, subst, arith, append_assoc, get_or, set}
use Rattle.std.proofs.lemmas.List.{length-set}
use Rattle.std.specs.List.{AllByRecursion}
use Rattle.in_syntax.specs.declared.places.Place.{Place}
use Rattle.in_net.specs.declared.joining.Link.{Link}
use Rattle.in_net.specs.declared.joining.Joining.{Joining}
use Rattle.in_net.specs.declared.reading.TextSpot.{TextSpot}
use Rattle.in_net.specs.declared.counting.Counting.{Counting}
use Rattle.in_net.specs.declared.counting.Seen.{Seen}
use Rattle.in_net.specs.declared.counting.Seen.TheVariants.{Never, Once, Twice, Often}
use Rattle.in_net.specs.Counting.{name_of, seen_again, none_seen, count_name, counted, counts_named, counts_spot, IsNumberInside, IsNameInside, IsSeenInside, SeenInside}
use Rattle.in_net.specs.Joining.{no_link, with_link, apart, merged, met, later_of, joins_named, joins, LinksInside, IsJoiningInside}
use Rattle.in_net.proofs.Wiring.Links.{all_set, all_at, within_link, length-with_link}

either_way : {X : Type 0} (P : X → Type 0) (b : Bool) (x y : X) → P x → P y → P (cond b x y)
either_way P true x y p q = p
either_way P false x y p q = q

pub length-apart : (links : List Link) (one other : ℕ) → length (apart links one other) ≡ length links
length-apart links one other = simp length-set refl

pub length-merged : (links : List Link) (one other : ℕ) → length (merged links one other).0 ≡ length links
length-merged links one other =
    let p : Link = get_or links one no_link in
    let q : Link = get_or links other no_link in
    let P : List Link × Option Place → Type 0 = λ m. length m.0 ≡ length links in
    either_way P (p.to == other) (apart links one other, Some p.place) (with_link (apart links one other) p.to q.to (later_of p.place q.place), None)
    (length-apart links one other) (length-with_link (apart links one other) p.to q.to (later_of p.place q.place) ∙ length-apart links one other)

within_apart : (n : ℕ) (links : List Link) (one other : ℕ) → AllByRecursion (λ l. l.to < n) links → one < n → other < n → AllByRecursion (λ l. l.to < n) (apart links one other)
within_apart n links one other all h k = all_set (λ l. l.to < n) _ other _ (all_set (λ l. l.to < n) links one _ all h) k

within_merged : (n : ℕ) (links : List Link) (one other : ℕ) → length links ≡ n → AllByRecursion (λ l. l.to < n) links → one < n → other < n → AllByRecursion (λ l. l.to < n) (merged links one other).0
within_merged n links one other count all h k =
    let p : Link = get_or links one no_link in
    let q : Link = get_or links other no_link in
    let P : List Link × Option Place → Type 0 = λ m. AllByRecursion (λ l. l.to < n) m.0 in
    let begun = within_apart n links one other all h k in
    either_way P (p.to == other) (apart links one other, Some p.place) (with_link (apart links one other) p.to q.to (later_of p.place q.place), None)
    begun (within_link n (apart links one other) p.to q.to (later_of p.place q.place) begun (all_at (λ l. l.to < n) links one no_link all (omega (arith, count))) (all_at (λ l. l.to < n) links other no_link all (omega (arith, count))))

pub length-met : (links : List Link) (s : Seen) (at : ℕ) → length (met links s at).0 ≡ length links
length-met links Never at = refl
length-met links (Once one) at = length-merged links one at
length-met links Twice at = refl
length-met links Often at = refl

within_met : (links : List Link) (s : Seen) (at : ℕ) → LinksInside links → IsSeenInside (length links) s → at < length links → AllByRecursion (λ l. l.to < length links) (met links s at).0
within_met links Never at all h lt = all
within_met links (Once one) at all h lt = within_merged (length links) links one at refl all h lt
within_met links Twice at all h lt = all
within_met links Often at all h lt = all

again_inside : (n : ℕ) (s : Seen) (at : ℕ) → at < n → IsSeenInside n (seen_again s at)
again_inside n Never at lt = lt
again_inside n (Once one) at lt = tt
again_inside n Twice at lt = tt
again_inside n Often at lt = tt

-- the properties that one spot keeps
pub record IsStepKept (j k : Joining) : Type 0 where
  pub links : length k.links ≡ length j.links
  pub seen : length k.seen ≡ length j.seen
  pub inside : IsJoiningInside k

kept_named : (j : Joining) (at : ℕ) (o : Option ℕ) → IsJoiningInside j → IsNumberInside (length j.seen) o → at < length j.links → IsStepKept j (joins_named j at o)
kept_named j at None inside name lt = record { links = refl; seen = refl; inside = inside }
kept_named j at (Some m) inside name lt =
    let s : Seen = get_or j.seen m Never in
    let count = length-met j.links s at in
    let here = all_at (IsSeenInside (length j.links)) j.seen m Never inside.seen name in
    record {
      links = count;
      seen = length-set j.seen m (seen_again s at);
      inside = record {
        links = subst (λ n. AllByRecursion (λ l. l.to < n) (met j.links s at).0) (sym count) (within_met j.links s at inside.links here lt);
        seen = subst (λ n. SeenInside n (set j.seen m (seen_again s at))) (sym count) (all_set (IsSeenInside (length j.links)) j.seen m (seen_again s at) inside.seen (again_inside (length j.links) s at lt));
      };
    }

pub kept : (j : Joining) (at : ℕ) (s : TextSpot) → IsJoiningInside j → IsNameInside (length j.seen) s → at < length j.links → IsStepKept j (joins j at s)
kept j at s inside name lt = kept_named j at (name_of s) inside name lt

length-count_name : (seen : List Seen) (at : ℕ) (o : Option ℕ) → length (count_name seen at o) ≡ length seen
length-count_name seen at None = refl
length-count_name seen at (Some m) = length-set seen m (seen_again (get_or seen m Never) at)

pub length-counted : (seen : List Seen) (at : ℕ) (s : TextSpot) → length (counted seen at s) ≡ length seen
length-counted seen at s = length-count_name seen at (name_of s)

pub length-none_seen : (n : ℕ) → length (none_seen n) ≡ n
length-none_seen zero = refl
length-none_seen (suc n) = ap suc (length-none_seen n)

pub none_inside : (spots n : ℕ) → SeenInside spots (none_seen n)
none_inside spots zero = tt
none_inside spots (suc n) = (tt, none_inside spots n)

-- one name more
pub one_unseen : (counter names : ℕ) (seen new all : List Seen) → counter < names → new ≡ seen ++ Never ∷ [] → seen ++ none_seen (names - counter) ≡ all → new ++ none_seen (names - (counter + 1)) ≡ all
one_unseen counter names seen new all lt pushed e =
    let size : names - counter ≡ suc (names - (counter + 1)) = omega arith in
    ap (λ z. z ++ none_seen (names - (counter + 1))) pushed ∙ append_assoc seen (Never ∷ []) (none_seen (names - (counter + 1))) ∙ ap (λ z. seen ++ z) (sym (ap none_seen size)) ∙ e

pub length-counts_spot : (c : Counting) (at : ℕ) (s : TextSpot) → length (counts_spot c at s).seen ≡ length c.seen
length-counts_spot c at s = by_name (name_of s)
  where
    by_name : (o : Option ℕ) → length (counts_named c at s o).seen ≡ length c.seen
    by_name None = refl
    by_name (Some m) = length-set c.seen m (seen_again (get_or c.seen m Never) at)
