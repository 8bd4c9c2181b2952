-- Parts that are brought in one after another.
use Rattle.std.proofs.Common.{◌≡◌, ◌≢◌, ◌⊎◌, inl, inr, ℕ, List, [], ◌∷◌, ◌++◌, set, All, Some, slice_get, refl, sym, ap, ◌∙◌, subst, arith}
use Rattle.std.proofs.lemmas.Bool.{cases_eq}
use Rattle.std.proofs.lemmas.List.{append_assoc, append-nil, map-append}
use Rattle.std.proofs.lemmas.Option.{same_Some, slice_get_within}
use Rattle.in_base.proofs.Places.{set_here, set_there}
use Rattle.std.proofs.lemmas.List.Elements.{All-append}
use Rattle.in_arena.specs.Arenas.{ArenaView}
use Rattle.in_arena.specs.Bags.{IsBagOf, AreOfOne}
use Rattle.in_arena.specs.States.{Vacant}
use Rattle.in_compile.specs.Stocks.{Regains}
use Rattle.in_compile.specs.Templates.{TemplatesParts}
use Rattle.in_rounds.specs.Dones.{DoneParts}
use Rattle.in_rounds.specs.Gathers.{bags_of}
use Rattle.in_rounds.specs.Holding.{AreBagsOf, Returns, holders}
use Rattle.in_rounds.specs.declared.gather.JobState.{JobState}
use Rattle.in_rounds.specs.declared.gather.JobState.TheVariants.{Fresh, Kept}
use Rattle.in_rounds.proofs.Holding.{are_bags_by, bags_are_of_one, beside_are_bags, end_are_bags, first_are_bags, first_is_bag, front_are_bags, holders-append, holders-cons, holders-first, left_are_bags, none_returned, one_returned, rest_are_bags, returns_beside, returns_both, returns_by}
use Rattle.in_rounds.proofs.Keeping.{put_all, put_holders}
use Rattle.in_rounds.specs.Bringing.{in_hand, in_hands, AreMadeWith}
use Rattle.in_rounds.specs.Works.{bags}
use Rattle.in_rounds.specs.declared.hand.Hand.{Hand}
use Rattle.in_rounds.proofs.Lent.{in_hands-append}

-- ---- one bag of several

pub one_gone : (b : ArenaView) (bs : List ArenaView) (a a' : ArenaView) → AreBagsOf (b ∷ bs) a → Regains (λ _. Vacant) a b a' → Returns (b ∷ bs) bs a a' × AreBagsOf bs a'
one_gone b bs a a' of back =
    let one = one_returned b bs a a' back in
    (one, left_are_bags (b ∷ bs) bs a a' of (bags_are_of_one bs a (rest_are_bags b bs a of)) one)

-- ---- the last job

bags_split : (ds es : List DoneParts) (d : DoneParts) → ds ≡ es ++ d ∷ [] → bags ds ≡ bags es ++ d.placed.placed.bag ∷ []
bags_split ds es d split = ap bags split ∙ map-append (λ (e : DoneParts). e.placed.placed.bag) es (d ∷ [])

module _ (ds es : List DoneParts) (d : DoneParts) (ks : List ArenaView) (split : ds ≡ es ++ d ∷ []) where
  pub last_first : (b : ArenaView) → AreBagsOf (bags ds ++ ks) b → AreBagsOf (d.placed.placed.bag ∷ (bags es ++ ks)) b
  last_first b of = first_are_bags (bags es) ks d.placed.placed.bag b (subst (λ bs. AreBagsOf (bs ++ ks) b) (bags_split ds es d split) of)

  last_holders : (n : ℕ) → holders n (bags ds ++ ks) ≡ holders n (d.placed.placed.bag ∷ (bags es ++ ks))
  last_holders n = ap (λ bs. holders n (bs ++ ks)) (bags_split ds es d split) ∙ sym (holders-first n (bags es) ks d.placed.placed.bag)

  pub last_is_bag : (b : ArenaView) → AreBagsOf (bags ds ++ ks) b → IsBagOf d.placed.placed.bag b
  last_is_bag b of = first_is_bag d.placed.placed.bag (bags es ++ ks) b (last_first b of)

  -- it is given back
  pub last_gone : (a b c : ArenaView) (xs : List ArenaView) → Returns xs (bags ds ++ ks) a b → AreBagsOf (bags ds ++ ks) b → Regains (λ _. Vacant) b d.placed.placed.bag c → Returns xs (bags es ++ ks) a c × AreBagsOf (bags es ++ ks) c
  last_gone a b c xs before of back =
      let bag = d.placed.placed.bag in
      let t = one_gone bag (bags es ++ ks) b c (last_first b of) back in (
        returns_both xs (bags ds ++ ks) (bags es ++ ks) a b c before
            (returns_by (bag ∷ (bags es ++ ks)) (bags es ++ ks) (bags ds ++ ks) (bags es ++ ks) b c last_holders (λ n. refl) t.0),
        t.1,
      )

-- or kept
pub last_kept : (ds es : List DoneParts) (d : DoneParts) (slots new : List JobState) (split : ds ≡ es ++ d ∷ []) (a b : ArenaView) (xs : List ArenaView) → Returns xs (bags ds ++ bags_of slots) a b → AreBagsOf (bags ds ++ bags_of slots) b
    → slice_get slots d.job ≡ Some Fresh → new ≡ set slots d.job (Kept d) → Returns xs (bags es ++ bags_of new) a b × AreBagsOf (bags es ++ bags_of new) b
last_kept ds es d slots new split a b xs before of fresh is =
    let bag = d.placed.placed.bag in
    let first = last_first ds es d (bags_of slots) split b of in
    let one = bags_are_of_one (bag ∷ (bags es ++ bags_of slots)) b first in
    let rest = rest_are_bags bag (bags es ++ bags_of slots) b first in
    let same : (n : ℕ) → holders n (bags es ++ bags_of new) ≡ holders n (bags ds ++ bags_of slots) = λ n.
    let put = ap (λ (z : List JobState). holders n (bags_of z)) is ∙ put_holders n slots d.job d fresh in
    let now = holders-append n (bags es) (bags_of new) in
    let old = last_holders ds es d (bags_of slots) split n in
    let cons = holders-cons n bag (bags es ++ bags_of slots) in
    let both = holders-append n (bags es) (bags_of slots) in
    omega (arith, put, now, old, cons, both)
    in
    let here = first_is_bag bag (bags es ++ bags_of slots) b first in
    let kept = subst (λ (z : List JobState). All (AreOfOne b) (bags_of z)) (sym is)
    (put_all (AreOfOne b) slots d.job d (here.memory, here.cells) (bags_are_of_one (bags_of slots) b (end_are_bags (bags es) (bags_of slots) b rest)))
    in (
      returns_both xs (bags ds ++ bags_of slots) (bags es ++ bags_of new) a b b before (none_returned (bags ds ++ bags_of slots) (bags es ++ bags_of new) b same),
      are_bags_by (bags ds ++ bags_of slots) (bags es ++ bags_of new) b of
          (All-append (AreOfOne b) (bags es) (bags_of new) (bags_are_of_one (bags es) b (front_are_bags (bags es) (bags_of slots) b rest)) kept)
          (λ n. let e = same n in omega (arith, e)),
    )

pub made_with : (ts : TemplatesParts) (slots new : List JobState) (d : DoneParts) → AreMadeWith ts slots → d.templates ≡ ts → slice_get slots d.job ≡ Some Fresh → new ≡ set slots d.job (Kept d) → AreMadeWith ts new
made_with ts slots new d all one fresh is k e at = go (cases_eq k d.job)
  where
    at_set : slice_get (set slots d.job (Kept d)) k ≡ Some (Kept e)
    at_set = sym (ap (λ (z : List JobState). slice_get z k) is) ∙ at

    go : (k ≡ d.job) ⊎ (k ≢ d.job) → e.templates ≡ ts
    go (inl same) =
        let here = set_here slots d.job (Kept d) (slice_get_within slots d.job Fresh fresh) in
        let both : Kept d ≡ Kept e = same_Some (Kept d) (Kept e) (sym here ∙ ap (slice_get (set slots d.job (Kept d))) (sym same) ∙ at_set) in
        let equal : d ≡ e = cc in
        ap (λ (z : DoneParts). z.templates) (sym equal) ∙ one
    go (inr other) = all k e (sym (set_there slots d.job k (Kept d) other) ∙ at_set)

-- ---- the last hand

module _ (ps qs : List Hand) (p : Hand) (ks : List ArenaView) (split : ps ≡ qs ++ p ∷ []) where
  last_part : in_hands ps ++ ks ≡ in_hands qs ++ (in_hand p ++ ks)
  last_part = ap (λ bs. bs ++ ks) (ap in_hands split ∙ in_hands-append qs (p ∷ []) ∙ ap (λ bs. in_hands qs ++ bs) (append-nil (in_hand p))) ∙ append_assoc (in_hands qs) (in_hand p) ks

  pub part_bags : (b : ArenaView) → AreBagsOf (in_hands ps ++ ks) b → AreBagsOf (in_hand p ++ ks) b
  part_bags b of = end_are_bags (in_hands qs) (in_hand p ++ ks) b (subst (λ bs. AreBagsOf bs b) last_part of)

  pub part_in : (a b c : ArenaView) (xs new : List ArenaView) → Returns xs (in_hands ps ++ ks) a b → AreBagsOf (in_hands ps ++ ks) b → Returns (in_hand p ++ ks) new b c → AreBagsOf new c → Returns xs (in_hands qs ++ new) a c × AreBagsOf (in_hands qs ++ new) c
  part_in a b c xs new before of one left =
      let step = returns_beside (in_hands qs) (in_hand p ++ ks) new b c one in (
        returns_both xs (in_hands ps ++ ks) (in_hands qs ++ new) a b c before (subst (λ bs. Returns bs (in_hands qs ++ new) b c) (sym last_part) step),
        beside_are_bags (in_hands qs) (in_hand p ++ ks) new b c (subst (λ bs. AreBagsOf bs b) last_part of) one left,
      )
