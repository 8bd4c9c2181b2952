-- Each name before ( and [ is a symbol's, in a whole body.
use Rattle.std.proofs.Common.{◌≡◌, ◌≢◌, ◌⊎◌, inl, inr, ℕ, zero, suc, ◌<◌, ◌≤◌, true, List, [], ◌∷◌, map, Some, None, slice_get, sym, ◌∙◌, ap, arith}
use Rattle.std.specs.List.{AllByRecursion}
use Rattle.in_syntax.specs.declared.tree.Source.{Source}
use Rattle.in_syntax.specs.declared.faults.Code.TheVariants.{E04}
use Rattle.in_syntax.specs.declared.tree.Name.{Name}
use Rattle.in_syntax.specs.declared.tree.SourceFree.{SourceFree}
use Rattle.in_syntax.specs.declared.tree.SourceRule.{SourceRule}
use Rattle.in_base.specs.Lists.{AnyByRecursion}
use Rattle.in_symbols.specs.Faults.{IsRepeatedAt, IsDeclaredTwiceAt, declared_twice, IsFaultless}
use Rattle.in_symbols.specs.Tables.{Tables, heads_known, HeadsKnown, IsRuleKnown, IsTabled}
use Rattle.in_net.specs.TextNet.{Body, LeftHead, body_of, heads_at}
use Rattle.std.proofs.lemmas.Bool.{cases_eq, cases_lt}

abbrev pub AreHeadsKnown : Tables → List LeftHead → Type 0
AreHeadsKnown t = AllByRecursion (λ h. AllByRecursion (λ u. heads_known t.names u ≡ true) h.head.terms)

pub record IsBodyKnown (t : Tables) (b : Body) : Type 0 where
  pub heads : AreHeadsKnown t b.heads
  pub equations : HeadsKnown t.names b.equations

pub net_known : (source : Source) (t : Tables) → IsTabled source t → IsBodyKnown t (body_of source.net)
net_known source t tabled = record { heads = tt; equations = tabled.heads }

pub rule_known : (t : Tables) (r : SourceRule) (first second : ℕ) → IsRuleKnown t.names r → IsBodyKnown t (record { free = []; heads = heads_at r first second; equations = r.equations })
rule_known t r first second known = record { heads = (known.0.1, (known.1.1, tt)); equations = known.2 }

-- the free names of a body are different
abbrev pub AreDifferent : Body → Type 0
AreDifferent b = (k l : ℕ) (f g : SourceFree) → slice_get b.free k ≡ Some f → slice_get b.free l ≡ Some g → f.name.text ≡ g.name.text → k ≡ l

-- so are those of a faultless program
named_there : (fs : List SourceFree) (k : ℕ) (g : SourceFree) (n : Name) → slice_get fs k ≡ Some g → g.name.text ≡ n.text → AnyByRecursion (λ m. (m.text ≡ n.text) × (m.place ≡ g.name.place)) (map (λ f. f.name) fs)
named_there [] k g n is e = absurd (let wrong : None ≡ Some g = is in cc)
named_there (f ∷ fs) zero g n is e = let same : f ≡ g = cc in inl (ap (λ (f : SourceFree). f.name.text) same ∙ e, ap (λ (f : SourceFree). f.name.place) same)
named_there (f ∷ fs) (suc k) g n is e = inr (named_there fs k g n is e)

repeated : (fs : List SourceFree) (k l : ℕ) (f g : SourceFree) → k < l → slice_get fs k ≡ Some f → slice_get fs l ≡ Some g → f.name.text ≡ g.name.text → IsRepeatedAt (map (λ f. f.name) fs) g.name.place
repeated [] k l f g lt is_f is_g e = absurd (let wrong : None ≡ Some f = is_f in cc)
repeated (x ∷ fs) zero zero f g lt is_f is_g e = absurd (omega (arith, lt))
repeated (x ∷ fs) zero (suc l) f g lt is_f is_g e = let same : x ≡ f = cc in inl (named_there fs l g x.name is_g (sym e ∙ ap (λ (f : SourceFree). f.name.text) (sym same)))
repeated (x ∷ fs) (suc k) zero f g lt is_f is_g e = absurd (omega (arith, lt))
repeated (x ∷ fs) (suc k) (suc l) f g lt is_f is_g e = inr (repeated fs k l f g (omega (arith, lt)) is_f is_g e)

pub free_differ : (source : Source) → IsFaultless source → AreDifferent (body_of source.net)
free_differ source faultless k l f g is_f is_g e = by_order (cases_eq k l) (cases_lt k l)
  where
    by_order : (k ≡ l) ⊎ (k ≢ l) → (k < l) ⊎ (l ≤ k) → k ≡ l
    by_order (inl x) y = x
    by_order (inr x) (inl y) = absurd (faultless E04 g.name.place (declared_twice g.name.place (IsDeclaredTwiceAt.free_twice (repeated source.net.free k l f g y is_f is_g e))))
    by_order (inr x) (inr y) = absurd (faultless E04 f.name.place (declared_twice f.name.place (IsDeclaredTwiceAt.free_twice (repeated source.net.free l k g f (omega (arith, x, y)) is_g is_f (sym e)))))
