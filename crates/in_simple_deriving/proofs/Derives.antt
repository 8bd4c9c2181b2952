-- A derivable open net has a derivation.
use Rattle.std.proofs.Common.{◌≡◌, ◌↔◌, ◌+◌, ◌-◌, ℕ, zero, suc, Bool, true, false, cond, ◌||◌, nat_eq, Some, List, length, slice_get, refl, sym, subst, ap, inl, inr, ◌∙◌, eqb-true, arith}
use Rattle.in_open_nets.specs.declared.open_nets.OpenPoint.TheVariants.{Free}
use Rattle.in_open_nets.specs.Constructions.{IsIn}
use Rattle.in_open_nets.specs.OpenNets.{OpenNet, IsNode, IsOpenNet, IsDerivable}
use Rattle.in_open_nets.specs.declared.derivations.Step.{Step}
use Rattle.in_open_nets.specs.Derivations.{is_free, BuildsPart, IsDerivation}
use Rattle.in_simple_deriving.specs.Stacks.{no_wires, loose_in, loose_below}
use Rattle.in_base.proofs.Places.{some_same}
use Rattle.in_open_nets.proofs.Public.{not_both, one_other, splits_built, Agrees, derivable_splits}
use Rattle.in_simple_deriving.proofs.Make.{Made, LinkOf, make_link, make_mix, same_links, constructions}
use Rattle.in_simple_deriving.proofs.Finishing.{loose_points, loose_no_port, below_small, below_none, below_past, below_more, below_all, last_ends}
use Rattle.std.proofs.lemmas.Bool.{or_left}

module _ (o : OpenNet) (net : IsOpenNet o) where
  -- with a Link of each wire between free ends
  with_loose : (s : ℕ → Bool) → Made o net s no_wires 0 → (b : ℕ) → Made o net s (loose_below o b) 0
  with_loose s x zero = same_links o net s no_wires (loose_below o 0) 0 (λ w. sym (below_none o w)) x
  with_loose s x (suc b) = let e : b + 1 ≡ suc b = omega arith in subst (λ z. Made o net s (loose_below o z) 0) e (go (loose_in o b) refl (with_loose s x b))
    where
      go : (on : Bool) → loose_in o b ≡ on → Made o net s (loose_below o b) 0 → Made o net s (loose_below o (b + 1)) 0
      go false h x = same_links o net s (loose_below o b) (loose_below o (b + 1)) 0 (λ w. below_past o b h w) x
      go true h x = same_links o net s (λ w. loose_below o b w || nat_eq w b) (loose_below o (b + 1)) 0 (λ w. below_more o b h w)
          (make_mix o net s s (λ m. false) (loose_below o b) (λ w. nat_eq w b)
          (λ m. (((λ h. inl h), λ h. elim h [ inl e ↦ e | inr e ↦ absurd (not_both false e refl) ]), λ h g. not_both false g refl))
          (λ l i m j w h y z. not_both false z refl)
          cross 0 x (let y = loose_points o b h in make_link o net b (Free y.0) (Free y.1) (inl y.2)))
        where
          cross : (w : ℕ) → LinkOf o net s (loose_below o b) w → LinkOf o net (λ m. false) (λ w. nat_eq w b) w → ⊥
          cross w y (inr z) = not_both false z.4 refl
          cross w (inl y) (inl z) = let e = (below_small o b w y).0 in let f = eqb-true w b z in omega arith
          cross w (inr y) (inl z) = loose_no_port o w y.0 y.1 y.2 (ap (loose_in o) (eqb-true w b z) ∙ h) y.3

  module _ (s : ℕ → Bool) (nodes : (n : ℕ) → IsIn n s ↔ IsNode o n) (x : Made o net s (loose_below o (length o.wires)) 0) where
    agrees : Agrees 0 x.parts x.parts
    agrees i y h = let e : i ≡ 0 + i = omega arith in subst (λ z. slice_get x.parts z ≡ Some y) e h

    is_derivation : IsDerivation o x.steps
    is_derivation = record {
      parts = x.parts;
      each = λ k step h. let y = x.forest.each x.parts agrees k step h in let e : 0 + k ≡ k = omega arith in (y.0, y.1, subst (λ z. BuildsPart o x.parts z step y.0) e y.2);
      named_once = λ k l. let a = x.forest.inside k (omega arith) (omega arith) in let b = x.last in let c = one_other k x.root (λ e. omega arith) in omega arith;
      node_once = λ n l. x.forest.nodes n ∙ ap (λ b. cond b 1 0) (or_left (x.top.nodes n) false (x.nodes n ∙ (nodes n).1 l));
      some = let b = x.last in omega arith;
      ends = λ y h w p q g.
          let b = x.last in
          let e = (x.forest.earlier x.parts agrees).1 in
          let r : x.root ≡ length x.steps - 1 = omega arith in
          let same : x.top ≡ y = some_same (slice_get x.parts (length x.steps - 1)) x.top y (subst (λ z. slice_get x.parts z ≡ Some x.top) r e) h in
          let f = x.ends w p q g in
          let d : cond {A = ℕ} (loose_below o (length o.wires) w) 1 0 ≡ cond (loose_in o w) 1 0 = ap (λ z. cond z 1 0) (below_all o w) in
          let k = last_ends o net s nodes w p q g in
          ap (λ z. z.ends q) (sym same) ∙ (let m : x.top.ends q ≡ is_free q = omega arith in m);
    }

  pub derivable_has_derivation : IsDerivable o → (steps : List Step) × IsDerivation o steps
  derivable_has_derivation d =
      let r = derivable_splits o net d in
      let x = with_loose r.0 (splits_built o net (λ s. (k : ℕ) → Made o net s no_wires k) (constructions o net) r.0 (λ n h. (r.1 n).0 h) r.2 0) (length o.wires) in
      (x.steps, is_derivation r.0 r.1 x)
