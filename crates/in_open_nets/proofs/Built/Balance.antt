-- At each wire, a part's ends for one point and for the other differ as its ports do.
use Rattle.std.proofs.Common.{◌≡◌, ◌+◌, ℕ, Bool, true, false, ◌||◌, nat_eq, ◌<◌, length, List, [], ◌∷◌, refl, sym, ap, inl, inr, ◌∙◌, arith}
use Rattle.in_open_nets.specs.declared.open_nets.OpenPoint.{OpenPoint}
use Rattle.in_open_nets.specs.Constructions.{IsIn}
use Rattle.in_open_nets.specs.OpenNets.{OpenNet, IsWire}
use Rattle.in_open_nets.specs.Derivations.{Step, Empty, Link, Given, Graft, Cut, Mix, Part, named, AreEarlier, own_nodes, is_port_in, is_among, nodes_of, ends_of, ShareNothing, Joins}
use Rattle.in_open_nets.proofs.PartsOf.Sums.{not_both, port_none, port_same, port_or, own_port}
use Rattle.std.proofs.lemmas.Bool.{or_left}
use Rattle.std.proofs.lemmas.Option.{slice_get_within}

pub wire_turn : (o : OpenNet) (w : ℕ) (p q : OpenPoint) → IsWire o w p q → IsWire o w q p
wire_turn o w p q (inl h) = inr h
wire_turn o w p q (inr h) = inl h

pub wire_within : (o : OpenNet) (w : ℕ) (p q : OpenPoint) → IsWire o w p q → w < length o.wires
wire_within o w p q (inl h) = slice_get_within o.wires w (p, q) h
wire_within o w p q (inr h) = slice_get_within o.wires w (q, p) h

module _ (o : OpenNet) where
  abbrev pub IsBalanced : (OpenPoint → ℕ) → (ℕ → Bool) → Type 0
  IsBalanced ends s = (w : ℕ) (p q : OpenPoint) → IsWire o w p q → ends q + is_port_in s q ≡ ends p + is_port_in s p

  abbrev pub AllBalanced : List Part → Type 0
  AllBalanced [] = Unit {0}
  AllBalanced (x ∷ xs) = IsBalanced x.ends x.nodes × AllBalanced xs

  pub list_balanced : (xs : List Part) → ShareNothing xs → AllBalanced xs → IsBalanced (ends_of xs) (nodes_of xs)
  list_balanced [] s b w p q h =
      let e : is_port_in (λ n. false) p ≡ 0 = port_none (λ n. false) p (λ n. refl) in
      let f : is_port_in (λ n. false) q ≡ 0 = port_none (λ n. false) q (λ n. refl) in
      e' e f
    where
      e' : is_port_in (λ n. false) p ≡ 0 → is_port_in (λ n. false) q ≡ 0 → 0 + is_port_in (nodes_of []) q ≡ 0 + is_port_in (nodes_of []) p
      e' e f = ap (λ z. 0 + z) (f ∙ sym e)
  list_balanced (x ∷ xs) s b w p q h =
      let rest = list_balanced xs s.2 b.1 w p q h in
      let here = b.0 w p q h in
      let e = port_or x.nodes (nodes_of xs) p s.0 in
      let f = port_or x.nodes (nodes_of xs) q s.0 in
      omega arith

  abbrev pub all_nodes : Step → List Part → ℕ → Bool
  all_nodes step xs n = is_among n (own_nodes step) || nodes_of xs n

  none_same : (s : ℕ → Bool) (p q : OpenPoint) → ((n : ℕ) → s n ≡ false) → is_port_in s p ≡ is_port_in s q
  none_same s p q h = port_none s p h ∙ sym (port_none s q h)

  or_end : (b : Bool) → ((b || false) || false) ≡ b
  or_end true = refl
  or_end false = refl

  or_or : (b c : Bool) → ((b || false) || c) ≡ (b || c)
  or_or true c = refl
  or_or false c = refl

  -- a step's part is balanced if those that it names are
  pub step_balanced : (parts : List Part) (k : ℕ) (step : Step) (xs : List Part) (x : Part) → AreEarlier parts k (named step) xs → ShareNothing xs → AllBalanced xs → Joins o step xs x → ((n : ℕ) → is_among n (own_nodes step) ≡ true → nodes_of xs n ≡ false) → ((n : ℕ) → x.nodes n ≡ all_nodes step xs n) → IsBalanced x.ends x.nodes
  step_balanced parts k Empty [] x e s b j fresh nodes w p q h =
      let f = none_same x.nodes p q nodes in
      let u = j w p q h in
      let v = j w q p (wire_turn o w p q h) in
      omega arith
  step_balanced parts k Empty (y ∷ ys) x e s b j fresh nodes w p q h = absurd e
  step_balanced parts k (Link l) [] x e s b j fresh nodes w p q h =
      let f = none_same x.nodes p q nodes in
      let u = j.1 w p q h in
      let v = j.1 w q p (wire_turn o w p q h) in
      omega arith
  step_balanced parts k (Link l) (y ∷ ys) x e s b j fresh nodes w p q h = absurd e
  step_balanced parts k (Given n) [] x e s b j fresh nodes w p q h =
      let f = port_same x.nodes (λ m. nat_eq m n) p (λ m. nodes m ∙ or_end (nat_eq m n)) in
      let g = port_same x.nodes (λ m. nat_eq m n) q (λ m. nodes m ∙ or_end (nat_eq m n)) in
      let u = j.1 w p q h in
      let v = j.1 w q p (wire_turn o w p q h) in
      omega arith
  step_balanced parts k (Given n) (y ∷ ys) x e s b j fresh nodes w p q h = absurd e
  step_balanced parts k (Graft n is) xs x e s b j fresh nodes w p q h =
      let apart : (m : ℕ) → IsIn m (λ m. nat_eq m n) → IsIn m (nodes_of xs) → ⊥ = λ m c d. not_both (nodes_of xs m) d (fresh m (or_left (nat_eq m n) false c)) in
      let same : (m : ℕ) → x.nodes m ≡ (nat_eq m n || nodes_of xs m) = λ m. nodes m ∙ or_or (nat_eq m n) (nodes_of xs m) in
      let f = port_same x.nodes (λ m. nat_eq m n || nodes_of xs m) p same ∙ port_or (λ m. nat_eq m n) (nodes_of xs) p apart in
      let g = port_same x.nodes (λ m. nat_eq m n || nodes_of xs m) q same ∙ port_or (λ m. nat_eq m n) (nodes_of xs) q apart in
      let c = own_port n p in
      let d = own_port n q in
      let u = j.1 w p q h in
      let v = j.1 w q p (wire_turn o w p q h) in
      let all = list_balanced xs s b w p q h in
      omega arith
  step_balanced parts k (Cut l c d) [] x e s b j fresh nodes w p q h = absurd e
  step_balanced parts k (Cut l c d) (y ∷ []) x e s b j fresh nodes w p q h = absurd j
  step_balanced parts k (Cut l c d) (y ∷ z ∷ []) x e s b j fresh nodes w p q h =
      let f = port_same x.nodes (nodes_of (y ∷ z ∷ [])) p nodes in
      let g = port_same x.nodes (nodes_of (y ∷ z ∷ [])) q nodes in
      let u = j.1 w p q h in
      let v = j.1 w q p (wire_turn o w p q h) in
      let all = list_balanced (y ∷ z ∷ []) s b w p q h in
      omega arith
  step_balanced parts k (Cut l c d) (y ∷ z ∷ v ∷ vs) x e s b j fresh nodes w p q h = absurd e.2.2
  step_balanced parts k (Mix c d) xs x e s b j fresh nodes w p q h =
      let f = port_same x.nodes (nodes_of xs) p nodes in
      let g = port_same x.nodes (nodes_of xs) q nodes in
      let u = j w p q h in
      let v = j w q p (wire_turn o w p q h) in
      let all = list_balanced xs s b w p q h in
      omega arith
