-- The partner of each spot after two spots of a name are joined.
use Rattle.std.proofs.Common.{◌≡◌, ◌≢◌, ◌⊎◌, inl, inr, ℕ, ◌<◌, Bool, true, false, cond, ◌==◌, List, length, Option, Some, None, refl, sym, ◌∙◌, ap, subst, arith, set}
use Rattle.std.proofs.lemmas.Bool.{eqb-true, eqb-false}
use Rattle.std.proofs.lemmas.List.{length-set, get_or-set_same, get_or-set_other}
use Rattle.in_syntax.specs.declared.places.Place.{Place}
use Rattle.in_net.specs.declared.joining.Link.{Link}
use Rattle.in_net.specs.Building.{nth_link}
use Rattle.in_net.specs.Joining.{no_link, with_link, apart, merged, later_of}
use Rattle.in_net.proofs.Wiring.Linked.{at_first, at_second, at_third}
use Rattle.in_net.proofs.Wiring.Joins.{length-apart}

module _ (links : List Link) (a b : ℕ) (a_in : a < length links) (b_in : b < length links) (differ : a ≢ b) where
  alone_a : nth_link (apart links a b) a ≡ record { to = a; place = (nth_link links a).place }
  alone_a = get_or-set_other (set links a (record { to = a; place = (nth_link links a).place })) b a (record { to = b; place = (nth_link links b).place }) no_link differ
      ∙ get_or-set_same links a (record { to = a; place = (nth_link links a).place }) no_link a_in

  alone_b : nth_link (apart links a b) b ≡ record { to = b; place = (nth_link links b).place }
  alone_b =
      let count = length-set links a (record { to = a; place = (nth_link links a).place }) in
      get_or-set_same (set links a (record { to = a; place = (nth_link links a).place })) b (record { to = b; place = (nth_link links b).place }) no_link (omega (arith, count, b_in))

  others : (i : ℕ) → i ≢ a → i ≢ b → nth_link (apart links a b) i ≡ nth_link links i
  others i x y =
      get_or-set_other (set links a (record { to = a; place = (nth_link links a).place })) b i (record { to = b; place = (nth_link links b).place }) no_link y
      ∙ get_or-set_other links a i (record { to = a; place = (nth_link links a).place }) no_link x

-- the wire is closed: both are joined to nothing any more
pub record IsClosed (links new : List Link) (a b : ℕ) (closed : Option Place) : Type 0 where
  pub round : (nth_link links a).to ≡ b
  pub place : closed ≡ Some (nth_link links a).place
  pub one : (nth_link new a).to ≡ a
  pub other : (nth_link new b).to ≡ b
  pub rest : (i : ℕ) → i ≢ a → i ≢ b → nth_link new i ≡ nth_link links i

-- their partners are joined: p and q
pub record IsOpened (links new : List Link) (a b p q : ℕ) (closed : Option Place) : Type 0 where
  pub on : p ≢ b
  pub place : closed ≡ None
  pub at_p : nth_link new p ≡ record { to = q; place = later_of (nth_link links a).place (nth_link links b).place }
  pub at_q : nth_link new q ≡ record { to = p; place = later_of (nth_link links a).place (nth_link links b).place }
  pub one : a ≢ p → (nth_link new a).to ≡ a
  pub other : (nth_link new b).to ≡ b
  pub rest : (i : ℕ) → i ≢ a → i ≢ b → i ≢ p → i ≢ q → nth_link new i ≡ nth_link links i

module _ (links : List Link) (a b : ℕ) (a_in : a < length links) (b_in : b < length links) (differ : a ≢ b) (p_in : (nth_link links a).to < length links) (q_in : (nth_link links b).to < length links)
    (p_not_q : (nth_link links a).to ≢ (nth_link links b).to) (q_not_a : (nth_link links a).to ≢ b → (nth_link links b).to ≢ a) (q_not_b : (nth_link links b).to ≢ b) where
  abbrev p : ℕ
  p = (nth_link links a).to

  abbrev q : ℕ
  q = (nth_link links b).to

  merged_by : (c : Bool) → (p == b) ≡ c → IsClosed links (merged links a b).0 a b (merged links a b).1 ⊎ IsOpened links (merged links a b).0 a b p q (merged links a b).1
  merged_by true is =
      let same : merged links a b ≡ (apart links a b, Some (nth_link links a).place) =
      ap (λ c. cond c (apart links a b, Some (nth_link links a).place) (with_link (apart links a b) p q (later_of (nth_link links a).place (nth_link links b).place), None)) is in
      let P : List Link × Option Place → Type 0 = λ m. IsClosed links m.0 a b m.1 in
      inl (subst P (sym same)
      (record {
        round = eqb-true _ _ is;
        place = refl;
        one = ap (λ (l : Link). l.to) (alone_a links a b a_in b_in differ);
        other = ap (λ (l : Link). l.to) (alone_b links a b a_in b_in differ);
        rest = others links a b a_in b_in differ;
      }))
  merged_by false is =
      let same : merged links a b ≡ (with_link (apart links a b) p q (later_of (nth_link links a).place (nth_link links b).place), None) =
      ap (λ c. cond c (apart links a b, Some (nth_link links a).place) (with_link (apart links a b) p q (later_of (nth_link links a).place (nth_link links b).place), None)) is in
      let P : List Link × Option Place → Type 0 = λ m. IsOpened links m.0 a b p q m.1 in
      let on : p ≢ b = eqb-false p b is in
      let count = length-apart links a b in
      let place : Place = later_of (nth_link links a).place (nth_link links b).place in
      inr (subst P (sym same)
      (record {
        on = on;
        place = refl;
        at_p = at_first (apart links a b) p q place (omega (arith, p_in, count)) (omega (arith, q_in, count)) p_not_q;
        at_q = at_second (apart links a b) p q place (omega (arith, p_in, count)) (omega (arith, q_in, count));
        one = λ x. ap (λ (l : Link). l.to) (at_third (apart links a b) p q place a x (λ e. q_not_a on (sym e)) ∙ alone_a links a b a_in b_in differ);
        other = ap (λ (l : Link). l.to) (at_third (apart links a b) p q place b (λ e. on (sym e)) (λ e. q_not_b (sym e)) ∙ alone_b links a b a_in b_in differ);
        rest = λ i x y z w. at_third (apart links a b) p q place i z w ∙ others links a b a_in b_in differ i x y;
      }))

  pub merges : IsClosed links (merged links a b).0 a b (merged links a b).1 ⊎ IsOpened links (merged links a b).0 a b p q (merged links a b).1
  merges = merged_by (p == b) refl
