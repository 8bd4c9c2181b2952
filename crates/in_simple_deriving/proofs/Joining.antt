-- The shape that each joint makes of nets on the way.
use Rattle.std.proofs.Common.{◌≡◌, ◌↔◌, ℕ, Bool, false, ◌||◌, nat_eq, List, [], ◌∷◌, length, refl, ap, ◌∙◌, arith}
use mathlib.Core.Path.{fun_ext}
use Rattle.in_open_nets.specs.declared.open_nets.OpenPoint.{OpenPoint}
use Rattle.in_open_nets.specs.declared.open_nets.OpenPoint.TheVariants.{Port}
use Rattle.in_simple_deriving.specs.declared.plans.StackStep.TheVariants as joint
use Rattle.in_open_nets.specs.Constructions.{IsIn, AreParts}
use Rattle.in_open_nets.specs.OpenNets.{OpenNet, IsClass, IsAgent, IsWire, IsOpenNet}
use Rattle.in_open_nets.specs.declared.derivations.Step.{Step}
use Rattle.in_open_nets.specs.declared.derivations.Step.TheVariants.{Empty, Link, Given, Cut, Mix}
use Rattle.in_open_nets.specs.Derivations.{Part, named}
use Rattle.in_simple_deriving.specs.Stacks.{Shape, shape, no_wires, HasShape, HaveShapes, IsLinkOf, step_of, BuildsOver, Fits}
use Rattle.in_simple_deriving.proofs.Make.{part_of, ends_wire, Fit, fit_empty, fit_link, fit_given, fit_mix, fit_cut, OnlyWire}

pub shape_same : (x : Shape) (s d : ℕ → Bool) → ((n : ℕ) → x.nodes n ≡ s n) → ((w : ℕ) → x.links w ≡ d w) → x ≡ shape s d
shape_same x s d f g = ap (λ z. shape z x.links) (fun_ext f) ∙ ap (λ z. shape s z) (fun_ext g)

module _ (o : OpenNet) (net : IsOpenNet o) where
  -- a step over these parts builds a net of this shape
  abbrev pub BuiltOver : Shape → Step → List ℕ → List Part → Type 0
  BuiltOver x step names from = (y : Part) × HasShape o x y × BuildsOver o step names from y

  pub built_over : (s d : ℕ → Bool) (step : Step) (names : List ℕ) (from : List Part) → Fit o net s d step from → named step ≡ names → BuiltOver (shape s d) step names from
  built_over s d step names from fit e = (
    part_of o net s d step from,
    record { nodes = λ n. refl; ends = λ w p q h. ends_wire o net s d w p q h; links = fit.links },
    record {
      names_are = e;
      own_once = fit.once;
      fresh = fit.fresh;
      apart = fit.apart;
      nodes = fit.nodes;
      links = λ w. refl;
      joins = fit.joins;
    },
  )

  -- over no part
  over_none : (x : Shape) (step : List ℕ → Step) → BuiltOver x (step []) [] [] → (names : List ℕ) (from : List Part) → length names ≡ 0 → HaveShapes o [] from → BuiltOver x (step names) names from
  over_none x step f [] [] l h = f
  over_none x step f [] (y ∷ ys) l h = absurd h
  over_none x step f (i ∷ is) from l h = absurd (omega arith)

  -- over two
  over_both : (x a b : Shape) (step : List ℕ → Step) → ((i j : ℕ) (y z : Part) → HasShape o a y → HasShape o b z → BuiltOver x (step (i ∷ j ∷ [])) (i ∷ j ∷ []) (y ∷ z ∷ [])) → (names : List ℕ) (from : List Part) → length names ≡ 2 → HaveShapes o (a ∷ b ∷ []) from → BuiltOver x (step names) names from
  over_both x a b step f [] from l h = absurd (omega arith)
  over_both x a b step f (i ∷ []) from l h = absurd (omega arith)
  over_both x a b step f (i ∷ j ∷ k ∷ is) from l h = absurd (omega arith)
  over_both x a b step f (i ∷ j ∷ []) [] l h = absurd h
  over_both x a b step f (i ∷ j ∷ []) (y ∷ []) l h = absurd h.1
  over_both x a b step f (i ∷ j ∷ []) (y ∷ z ∷ []) l h = f i j y z h.0 h.1.0
  over_both x a b step f (i ∷ j ∷ []) (y ∷ z ∷ u ∷ us) l h = absurd h.1.1

  pub fits_empty : Fits o joint.Empty [] (shape (λ n. false) no_wires)
  fits_empty = record {
    many = refl;
    builds = λ names from l h. over_none (shape (λ n. false) no_wires) (step_of joint.Empty) (built_over (λ n. false) no_wires Empty [] [] (fit_empty o net (λ n. false) (λ n. refl)) refl) names from l h;
  }

  pub fits_link : (v : ℕ) (p q : OpenPoint) → IsWire o v p q → Fits o (joint.Link v) [] (shape (λ n. false) (λ w. nat_eq w v))
  fits_link v p q wire = record {
    many = refl;
    builds = λ names from l h. over_none (shape (λ n. false) (λ w. nat_eq w v)) (step_of (joint.Link v)) (built_over (λ n. false) (λ w. nat_eq w v) (Link v) [] [] (fit_link o net v p q wire) refl) names from l h;
  }

  pub fits_given : (n : ℕ) (s : ℕ → Bool) → IsClass o n → ((m : ℕ) → IsIn m s ↔ (m ≡ n)) → ((i j w : ℕ) → IsWire o w (Port n i) (Port n j) → ⊥) → Fits o (joint.Given n) [] (shape s no_wires)
  fits_given n s c all self = record {
    many = refl;
    builds = λ names from l h. over_none (shape s no_wires) (step_of (joint.Given n)) (built_over s no_wires (Given n) [] [] (fit_given o net n s c all self) refl) names from l h;
  }

  pub fits_mix : (s a b d e : ℕ → Bool) → AreParts s a b → ((l i m j w : ℕ) → IsWire o w (Port l i) (Port m j) → IsIn l a → IsIn m b → ⊥) → ((w : ℕ) → IsLinkOf o (shape a d) w → IsLinkOf o (shape b e) w → ⊥) → Fits o joint.Mix (shape a d ∷ shape b e ∷ []) (shape s (λ w. d w || e w))
  fits_mix s a b d e parts off cross = record {
    many = refl;
    builds = λ names from l h. over_both (shape s (λ w. d w || e w)) (shape a d) (shape b e) (step_of joint.Mix)
        (λ i j y z f g. built_over s (λ w. d w || e w) (Mix i j) (i ∷ j ∷ []) (y ∷ z ∷ []) (fit_mix o net s a b d e parts off cross y z f g i j) refl) names from l h;
  }

  pub fits_cut : (s a b : ℕ → Bool) (l i m j v : ℕ) → AreParts s a b → IsWire o v (Port l i) (Port m j) → (IsAgent o l → i ≡ 0) → IsIn l a → IsIn m b → OnlyWire o net a b l i m j → Fits o (joint.Cut v) (shape a no_wires ∷ shape b no_wires ∷ []) (shape s no_wires)
  fits_cut s a b l i m j v parts wire firm la mb only = record {
    many = refl;
    builds = λ names from t h. over_both (shape s no_wires) (shape a no_wires) (shape b no_wires) (step_of (joint.Cut v))
        (λ g k y z f f'. built_over s no_wires (Cut v g k) (g ∷ k ∷ []) (y ∷ z ∷ []) (fit_cut o net s a b l i m j v parts wire firm la mb only y z f f' g k) refl) names from t h;
  }
