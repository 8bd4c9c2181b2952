-- The agents of a net, each once, are as many under other names.
use Rattle.std.proofs.Common.{◌≡◌, ◌≢◌, ◌≤◌, IsSome, List, [], ◌∷◌, map, length, refl, sym, subst, ap, ◌∙◌, arith}
use Rattle.std.specs.List.{AllByRecursion}
use Rattle.std.proofs.lemmas.List.{length-map}
use Rattle.in_base.proofs.Among.{among_all, in_map, of_map}
use Rattle.in_base.proofs.Each.{all_of}
use Rattle.in_net.specs.Nets.{Net}
use Rattle.in_interaction.specs.Pieces.{AreDifferent}
use Rattle.in_base.specs.Lists.{IsAmong}
use Rattle.in_interaction.proofs.Public.{has_value, few}
use Rattle.in_check.specs.Runs.{IsRenamed}
use Rattle.in_check.specs.NetText.{AreAgents}
use Rattle.in_base.proofs.Places.{is_some}

different_map : {X Y : Type 0} (f : X → Y) (xs : List X) → AreDifferent (map f xs) → AreDifferent xs
different_map f [] d = tt
different_map f (x ∷ xs) d =
    (all_of (λ y. x ≢ y) xs (λ y a e. among_all (λ z. f x ≢ z) (map f xs) (f y) d.0 (in_map f xs y a) (ap f e)), different_map f xs d.1)

module _ {A B : Type 0} (f : A → B) (n : Net A) (m : Net B) (r : IsRenamed f n m) where
  lift : (ys : List B) → AllByRecursion (λ y. IsSome (m.symbol y)) ys → (xs : List A) × (map f xs ≡ ys) × AllByRecursion (λ x. IsSome (n.symbol x)) xs
  lift [] h = ([], refl, tt)
  lift (y ∷ ys) h =
      let s = has_value (m.symbol y) h.0 in
      let x = (r.agents y s.0).0 s.1 in
      let rest = lift ys h.1 in
      (x.0 ∷ rest.0, ap (λ z. z ∷ map f rest.0) x.1 ∙ ap (λ zs. y ∷ zs) rest.1, (is_some (n.symbol x.0) s.0 x.2, rest.2))

  pub agents_before : (ys : List B) → AreAgents m ys → (xs : List A) × (length xs ≡ length ys) × AreAgents n xs
  agents_before ys h =
      let l = lift ys (all_of (λ y. IsSome (m.symbol y)) ys (λ y a. (h.all y).1 a)) in (
        l.0,
        sym (length-map l.0 f) ∙ ap length l.1,
        record {
          all = λ x. (
            (λ there. (
                let s = has_value (n.symbol x) there in
                let in_m : IsSome (m.symbol (f x)) = is_some (m.symbol (f x)) s.0 ((r.agents (f x) s.0).1 (x, refl, s.1)) in
                let z = of_map f l.0 (f x) (subst (λ ys. IsAmong (f x) ys) (sym l.1) ((h.all (f x)).0 in_m)) in
                let same : z.0 ≡ x = r.apart z.0 x (among_all (λ x. IsSome (n.symbol x)) l.0 z.0 l.2 z.1) there z.2 in
                subst (λ x. IsAmong x l.0) same z.1
                )),
            (λ a. among_all (λ x. IsSome (n.symbol x)) l.0 x l.2 a),
          );
          once = different_map f l.0 (subst AreDifferent (sym l.1) h.once);
        },
      )

-- a net has one number of agents
pub one_count : {A : Type 0} (n : Net A) (xs ys : List A) → AreAgents n xs → AreAgents n ys → length xs ≡ length ys
one_count n xs ys h k =
    let a : length xs ≤ length ys = few xs ys h.once (λ x m. (k.all x).0 ((h.all x).1 m)) in
    let b : length ys ≤ length xs = few ys xs k.once (λ x m. (h.all x).0 ((k.all x).1 m)) in
    omega arith
