-- The points of a rule's right member and those of its open net: each of these is one of those, and of one alone.
use Rattle.std.proofs.Common.{◌≡◌, ◌≢◌, ◌<◌, ◌≤◌, ◌+◌, ◌-◌, ℕ, zero, suc, cond, nat_eq, length, refl, ap, inl, inr, arith}
use Rattle.std.proofs.lemmas.Bool.Decides.{eqb_tells}
use Rattle.in_symbols.specs.Tables.{Tables, class_at, classes_of}
use Rattle.in_net.specs.Rules.{RuleParts}
use Rattle.in_net.proofs.Public.{lt_tells}
use Rattle.in_open_nets_of_programs.specs.OpeningRules.{places_in, agents_before, agent_node, second_node, rule_nodes}

one_same : (a b : ℕ) → a ≡ b → ◌≡◌ {A = ℕ} (cond (nat_eq a b) 1 0) 1
one_same a b e = elim (eqb_tells a b) [ inl h ↦ ap (λ z. cond z 1 0) h.0 | inr h ↦ absurd (h.1 e) ]

one_other : (a b : ℕ) → a ≢ b → ◌≡◌ {A = ℕ} (cond (nat_eq a b) 1 0) 0
one_other a b e = elim (eqb_tells a b) [ inl h ↦ absurd (e h.1) | inr h ↦ ap (λ z. cond z 1 0) h.0 ]

-- ---- the places of a class

-- the number rises at each place of the class
places_step : (t : Tables) (s c n : ℕ) → places_in t s c n ≤ places_in t s c (suc n)
places_step t s c n = omega arith

places_rise : (t : Tables) (s c m n : ℕ) → m ≤ n → places_in t s c m ≤ places_in t s c n
places_rise t s c zero n l = omega arith
places_rise t s c (suc m) zero l = absurd (omega arith)
places_rise t s c (suc m) (suc n) l = elim (eqb_tells m n) [
  | inl h ↦ let e : places_in t s c (suc m) ≡ places_in t s c (suc n) = ap (λ z. places_in t s c (suc z)) h.1 in omega arith
  | inr h ↦ let f = h.1 in let r = places_rise t s c (suc m) n (below m n (omega arith) f) in let k = places_step t s c n in omega arith
]
  where
    below : (m n : ℕ) → m ≤ n → m ≢ n → suc m ≤ n
    below zero zero l f = absurd (f refl)
    below zero (suc n) l f = omega arith
    below (suc m) zero l f = absurd (omega arith)
    below (suc m) (suc n) l f = let r = below m n (omega arith) (λ e. f (ap suc e)) in omega arith

places_more : (t : Tables) (s c n : ℕ) → class_at t s (suc n) ≡ c → places_in t s c (suc n) ≡ places_in t s c n + 1
places_more t s c n e = let f = one_same (class_at t s (suc n)) c e in omega arith

-- each position is that of a place
pub place_there : (t : Tables) (s c n j : ℕ) → j < places_in t s c n → (i : ℕ) × (suc i ≤ n) × (class_at t s (suc i) ≡ c) × (places_in t s c i ≡ j)
place_there t s c zero j h = absurd (omega arith)
place_there t s c (suc n) j h = elim (lt_tells j (places_in t s c n)) [
  | inl l ↦ let r = place_there t s c n j l.1 in let u = r.1 in (r.0, omega arith, r.2, r.3)
  | inr l ↦
      elim (eqb_tells (class_at t s (suc n)) c) [
        | inl e ↦ let f = places_more t s c n e.1 in let k = l.1 in (n, omega arith, e.1, omega arith)
        | inr e ↦ let f = one_other (class_at t s (suc n)) c e.1 in let k = l.1 in absurd (omega arith)
      ]
]

-- places of one class have different positions
pub place_within : (t : Tables) (s c n i : ℕ) → suc i ≤ n → class_at t s (suc i) ≡ c → places_in t s c i < places_in t s c n
place_within t s c n i l e = let f = places_more t s c i e in let r = places_rise t s c (suc i) n l in omega arith

pub same_place : (t : Tables) (s c i j : ℕ) → class_at t s (suc i) ≡ c → class_at t s (suc j) ≡ c → places_in t s c i ≡ places_in t s c j → i ≡ j
same_place t s c i j e f h = elim (lt_tells i j) [
  | inl l ↦ let k = l.1 in let r = place_within t s c j i (omega arith) e in absurd (omega arith)
  | inr l ↦ elim (lt_tells j i) [
    | inl m ↦ let k = m.1 in let r = place_within t s c i j (omega arith) f in absurd (omega arith)
    | inr m ↦ let k = l.1 in let n = m.1 in omega arith
  ]
]

-- ---- the numbers of nodes

module _ (t : Tables) (p : RuleParts) where
  node_low : (x : ℕ) → x < agents_before p → agent_node t p x ≡ classes_of t p.written.0.0 + x
  node_low x h = elim (lt_tells x (agents_before p)) [
    | inl l ↦ ap (λ z. cond z (classes_of t p.written.0.0 + x) (classes_of t p.written.0.0 + (classes_of t p.written.1.0 + x))) l.0
    | inr l ↦ let k = l.1 in absurd (omega arith)
  ]

  node_high : (x : ℕ) → agents_before p ≤ x → agent_node t p x ≡ classes_of t p.written.0.0 + (classes_of t p.written.1.0 + x)
  node_high x h = elim (lt_tells x (agents_before p)) [
    | inl l ↦ let k = l.1 in absurd (omega arith)
    | inr l ↦ ap (λ z. cond z (classes_of t p.written.0.0 + x) (classes_of t p.written.0.0 + (classes_of t p.written.1.0 + x))) l.0
  ]

  -- an agent's node is no class node
  pub not_first : (x n : ℕ) → n < classes_of t p.written.0.0 → n ≡ agent_node t p x → ⊥
  not_first x n h e = elim (lt_tells x (agents_before p)) [
    | inl l ↦ let f = node_low x l.1 in omega arith
    | inr l ↦ let f = node_high x l.1 in omega arith
  ]

  pub not_second : (x c n : ℕ) → c < classes_of t p.written.1.0 → n ≡ second_node t p + c → n ≡ agent_node t p x → ⊥
  not_second x c n h e g = elim (lt_tells x (agents_before p)) [
    | inl l ↦ let k = l.1 in let f = node_low x l.1 in omega arith
    | inr l ↦ let k = l.1 in let f = node_high x l.1 in omega arith
  ]

  pub same_agent : (x y : ℕ) → agent_node t p x ≡ agent_node t p y → x ≡ y
  same_agent x y e = elim (lt_tells x (agents_before p)) [
    | inl l ↦ elim (lt_tells y (agents_before p)) [
      | inl m ↦ let a = l.1 in let b = m.1 in let f = node_low x a in let g = node_low y b in omega arith
      | inr m ↦ let a = l.1 in let b = m.1 in let f = node_low x a in let g = node_high y b in absurd (omega arith)
    ]
    | inr l ↦ elim (lt_tells y (agents_before p)) [
      | inl m ↦ let a = l.1 in let b = m.1 in let f = node_high x a in let g = node_low y b in absurd (omega arith)
      | inr m ↦ let a = l.1 in let b = m.1 in let f = node_high x a in let g = node_high y b in omega arith
    ]
  ]

  pub agent_within : (x : ℕ) → x < length p.member.cells → agent_node t p x < rule_nodes t p
  agent_within x h = elim (lt_tells x (agents_before p)) [
    | inl l ↦ let f = node_low x l.1 in omega arith
    | inr l ↦ let f = node_high x l.1 in omega arith
  ]

  -- the kinds of nodes
  pub data NodeKind (n : ℕ) : Type 0 where
    of_first : n < classes_of t p.written.0.0 → NodeKind n
    of_second : (c : ℕ) → c < classes_of t p.written.1.0 → n ≡ second_node t p + c → NodeKind n
    of_agent : (x : ℕ) → x < length p.member.cells → n ≡ agent_node t p x → NodeKind n

  pub kind_of : (n : ℕ) → agents_before p ≤ length p.member.cells → n < rule_nodes t p → NodeKind n
  kind_of n b h = elim (lt_tells n (classes_of t p.written.0.0)) [
    | inl l ↦ of_first l.1
    | inr l ↦ elim (lt_tells (n - classes_of t p.written.0.0) (agents_before p)) [
      | inl m ↦ let a = l.1 in let k = m.1 in let f = node_low (n - classes_of t p.written.0.0) k in of_agent (n - classes_of t p.written.0.0) (omega arith) (omega arith)
      | inr m ↦ elim (lt_tells (n - classes_of t p.written.0.0 - agents_before p) (classes_of t p.written.1.0)) [
        | inl u ↦ let a = l.1 in let k = m.1 in of_second (n - classes_of t p.written.0.0 - agents_before p) u.1 (omega arith)
        | inr u ↦ let a = l.1 in let k = m.1 in let v = u.1 in
            let f = node_high (n - classes_of t p.written.0.0 - classes_of t p.written.1.0) (omega arith) in
            of_agent (n - classes_of t p.written.0.0 - classes_of t p.written.1.0) (omega arith) (omega arith)
      ]
    ]
  ]
