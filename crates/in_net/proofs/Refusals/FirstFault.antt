-- The first fault of a net's agents and names, and the properties of a net without any.
use Rattle.std.proofs.Common.{◌≡◌, ◌⊎◌, inl, inr, ℕ, length, Option, Some, None, true, refl, sym, ◌∙◌, ap, subst, arith}
use Rattle.in_syntax.specs.declared.faults.Code.{Code}
use Rattle.in_syntax.specs.declared.faults.Code.TheVariants.{E03, E07, E08}
use Rattle.in_syntax.specs.declared.faults.Refusal.{Refusal}
use Rattle.in_syntax.specs.declared.places.Place.{Place}
use Rattle.in_syntax.specs.Order.{Rises}
use Rattle.in_syntax.specs.Refusals.{earlier_refusal, refused}
use Rattle.in_symbols.specs.Tables.{Tables}
use Rattle.in_syntax.proofs.Public.{IsFirst, Of, first_same, first_of_three, first_as, IsLeast}
use Rattle.in_symbols.proofs.Public.{refusal_none, refused_none}
use Rattle.in_net.specs.declared.reading.Reading.{Reading}
use Rattle.in_net.specs.Arities.{all_arities_fit}
use Rattle.in_net.specs.Building.{AreTwice}
use Rattle.in_net.specs.Counting.{NamesInside, none_seen, counted_from}
use Rattle.in_net.specs.Counting as counting
use Rattle.in_net.specs.NetFaults.{IsTooManyAt, IsMisfitAt, IsMiscountedAt, IsNetFaultAt, too_many, misfit, miscounted, HasNoNetFault, IsFirstNameFault}
use Rattle.in_net.specs.Reading.{reading_of}
use Rattle.in_net.specs.Searching.{misfit_in_body, first_fault}
use Rattle.in_net.specs.Searching as searching
use Rattle.in_net.proofs.Refusals.Miscounted.{names_least, all_stand_twice}
use Rattle.in_net.proofs.Texts.Read.{name_inside}
use Rattle.in_net.specs.TextNet.{Body}
use Rattle.in_net.proofs.Texts.Known.{IsBodyKnown, AreDifferent}
use Rattle.in_net.proofs.Refusals.Misfits.{agents_least, arities_least, body_fits}
use Rattle.in_net.proofs.Texts.NamedSpots.{names_read}
use Rattle.in_net.proofs.Texts.NamesApart.{names_apart}
use Rattle.in_net.proofs.Texts.Order.{roots_rise, body_places}
use Rattle.in_net.proofs.Texts.TextPlaces.{text_places}
use Rattle.in_base.proofs.Each.{all_map}

abbrev Coded : ℕ → Tables → Body → Code → Place → Type 0
Coded most t b c q = (Of E03 (IsTooManyAt most t b) c q ⊎ Of E07 (IsMisfitAt t b) c q) ⊎ Of E08 (IsMiscountedAt t b) c q

as_fault : (most : ℕ) (t : Tables) (b : Body) (c : Code) (q : Place) → Coded most t b c q → IsNetFaultAt most t b c q
as_fault most t b c q (inl (inl h)) = subst (λ k. IsNetFaultAt most t b k q) (sym h.0) (too_many q h.1)
as_fault most t b c q (inl (inr h)) = subst (λ k. IsNetFaultAt most t b k q) (sym h.0) (misfit q h.1)
as_fault most t b c q (inr h) = subst (λ k. IsNetFaultAt most t b k q) (sym h.0) (miscounted q h.1)

of_fault : (most : ℕ) (t : Tables) (b : Body) (c : Code) (q : Place) → IsNetFaultAt most t b c q → Coded most t b c q
of_fault most t b _ _ (too_many q h) = inl (inl (refl, h))
of_fault most t b _ _ (misfit q h) = inl (inr (refl, h))
of_fault most t b _ _ (miscounted q h) = inr (refl, h)

first_of : (most : ℕ) (t : Tables) (b : Body) (agents arities names : Option Place) → IsLeast (IsTooManyAt most t b) agents → IsLeast (IsMisfitAt t b) arities → IsLeast (IsMiscountedAt t b) names →
    IsFirst (IsNetFaultAt most t b) (earlier_refusal (earlier_refusal (refused E03 agents) (refused E07 arities)) (refused E08 names))
first_of most t b agents arities names a c d =
    first_same (Coded most t b) (IsNetFaultAt most t b) _ (as_fault most t b) (of_fault most t b)
    (first_of_three E03 E07 E08 (IsTooManyAt most t b) (IsMisfitAt t b) (IsMiscountedAt t b) (omega arith) (omega arith) agents arities names a c d)

-- a body before it is read: its heads are symbols', its names are in order, its free names are different
pub record IsReady (t : Tables) (b : Body) : Type 0 where
  pub known : IsBodyKnown t b
  pub rises : Rises (body_places b)
  pub order : Rises (text_places b)
  pub differ : AreDifferent b

-- the code finds the first fault
pub found_first : (most : ℕ) (t : Tables) (b : Body) → IsReady t b → IsFirst (IsNetFaultAt most t b) (first_fault most t b (reading_of t b))
found_first most t b ready =
    let r : Reading = reading_of t b in
    first_of most t b (searching.too_many most r.agents) (misfit_in_body t b) (counting.miscounted (length r.names) r.spots b.free)
    (agents_least most t b) (arities_least t b)
    (names_least t b r (names_read t b) (roots_rise t b ready.rises) (names_apart t b) ready.differ)

-- a fault that is found is the first one
pub is_first : (most : ℕ) (t : Tables) (b : Body) (reading : Reading) (r : Refusal) → IsReady t b → reading ≡ reading_of t b → Some r ≡ first_fault most t b reading →
    IsFirstNameFault most t b r.code r.place × (let nothing : Option Place = None in r.other ≡ nothing)
is_first most t b reading r ready read is =
    first_as (IsNetFaultAt most t b) (first_fault most t b (reading_of t b)) r (found_first most t b ready) (ap (first_fault most t b) (sym read) ∙ sym is)

-- if none is found, there is none
pub no_fault : (most : ℕ) (t : Tables) (b : Body) (reading : Reading) → IsReady t b → reading ≡ reading_of t b → None ≡ first_fault most t b reading → HasNoNetFault most t b
no_fault most t b reading ready read is = subst (IsFirst (IsNetFaultAt most t b)) (ap (first_fault most t b) (sym read) ∙ sym is) (found_first most t b ready)

-- then the numbers of arguments fit
pub none_misfit : (most : ℕ) (t : Tables) (b : Body) (reading : Reading) → None ≡ first_fault most t b reading → all_arities_fit t b ≡ true
none_misfit most t b reading is =
    let all = refusal_none (earlier_refusal (refused E03 (searching.too_many most reading.agents)) (refused E07 (misfit_in_body t b))) (refused E08 (counting.miscounted (length reading.names) reading.spots b.free)) (sym is) in
    let two = refusal_none (refused E03 (searching.too_many most reading.agents)) (refused E07 (misfit_in_body t b)) all.0 in
    body_fits t b (refused_none E07 (misfit_in_body t b) two.1)

-- and each name occurs twice
pub none_miscounted : (most : ℕ) (t : Tables) (b : Body) → IsReady t b → None ≡ first_fault most t b (reading_of t b) →
    AreTwice (reading_of t b).spots (counted_from 0 (reading_of t b).spots (none_seen (length (reading_of t b).names)))
none_miscounted most t b ready is =
    let r : Reading = reading_of t b in
    let all = refusal_none (earlier_refusal (refused E03 (searching.too_many most r.agents)) (refused E07 (misfit_in_body t b))) (refused E08 (counting.miscounted (length r.names) r.spots b.free)) (sym is) in
    all_stand_twice t b r (names_read t b) (roots_rise t b ready.rises) (names_apart t b) ready.differ
    (refused_none E08 (counting.miscounted (length r.names) r.spots b.free) all.1)

-- the names that are read are in range, for any numbers of arguments
pub names_inside : (t : Tables) (b : Body) → NamesInside (length (reading_of t b).names) (reading_of t b).spots
names_inside t b = all_map _ _ (λ s h. name_inside t b (reading_of t b).names s h) (reading_of t b).spots (names_read t b).named_as
