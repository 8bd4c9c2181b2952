-- A net under two kinds of names.
use Rattle.std.proofs.Common.{◌≡◌, ℕ, IsSome, refl, sym, ap, ◌∙◌}
use Rattle.in_net.specs.Nets.{Point, Port, Free, Signature, Net, IsPoint, IsNet}
use Rattle.in_interaction.proofs.Public.{has_value}
use Rattle.in_net.specs.Renaming.{renamed, IsRenamed}
use Rattle.in_check.proofs.Public.{name_after, after_new, live}
use Rattle.in_base.proofs.Places.{is_some as there}

-- ---- a net under two kinds of names

module _ (sig : Signature) (n m k : Net ℕ) (net : IsNet sig n) (h g : ℕ → ℕ) (one : IsRenamed h n m) (two : IsRenamed g n k) where
  pub between : ℕ → ℕ
  between = name_after n.symbol h g (λ y. y) net.agents

  pub from_to : (x : ℕ) → IsSome (n.symbol x) → between (h x) ≡ g x
  unfolding between
  from_to x a =
      let s = has_value (n.symbol x) a in
      after_new n.symbol h g (λ y. y) net.agents x s.0 (net.all x a) s.1 (λ l t is same. one.apart l x (there (n.symbol l) t is) a same)

  point_between : (p : Point ℕ) → IsPoint sig n p → renamed between (renamed h p) ≡ renamed g p
  point_between (Port x i) a = ap (λ (y : ℕ). Port y i) (from_to x (live sig h n m net one x i a))
  point_between (Free j) a = refl

  pub renamed_between : IsRenamed between m k
  renamed_between = record {
    apart = λ x y a b e. (
        let s = has_value (m.symbol x) a in
        let t = has_value (m.symbol y) b in
        let u = (one.agents x s.0).0 s.1 in
        let v = (one.agents y t.0).0 t.1 in
        let in_u = there (n.symbol u.0) s.0 u.2 in
        let in_v = there (n.symbol v.0) t.0 v.2 in
        let same : u.0 ≡ v.0 = two.apart u.0 v.0 in_u in_v (sym (from_to u.0 in_u) ∙ ap between u.1 ∙ e ∙ ap between (sym v.1) ∙ from_to v.0 in_v) in
        sym u.1 ∙ ap h same ∙ v.1
        );
    agents = λ y s. (
      (λ e. (let x = (two.agents y s).0 e in (h x.0, from_to x.0 (there (n.symbol x.0) s x.2) ∙ x.1, (one.agents (h x.0) s).1 (x.0, refl, x.2)))),
      (λ x. (let z = (one.agents x.0 s).0 x.2 in (two.agents y s).1 (z.0, sym (from_to z.0 (there (n.symbol z.0) s z.2)) ∙ ap between z.1 ∙ x.1, z.2))),
    );
    wires = λ u v. (
      (λ e. (
          let w = (two.wires u v).0 e in
          let near = net.points w.0 w.1 w.4 in
          let far = net.points w.1 w.0 (net.back w.0 w.1 w.4) in
          (renamed h w.0, renamed h w.1, point_between w.0 near ∙ w.2, point_between w.1 far ∙ w.3, (one.wires (renamed h w.0) (renamed h w.1)).1 (w.0, w.1, refl, refl, w.4))
          )),
      (λ x. (
          let w = (one.wires x.0 x.1).0 x.4 in
          let near = net.points w.0 w.1 w.4 in
          let far = net.points w.1 w.0 (net.back w.0 w.1 w.4) in
          (two.wires u v).1 (w.0, w.1, sym (point_between w.0 near) ∙ ap (renamed between) w.2 ∙ x.2, sym (point_between w.1 far) ∙ ap (renamed between) w.3 ∙ x.3, w.4)
          )),
    );
    free = two.free ∙ sym one.free;
  }
