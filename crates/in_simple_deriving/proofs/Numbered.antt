-- All nodes: the given ones, and then the others; and their turns.
use Rattle.std.proofs.Common.{◌≡◌, ◌<◌, ◌≤◌, ◌+◌, ℕ, List, [], ◌∷◌, ◌++◌, length, append_assoc, slice_index_or, refl, sym, ap, inl, inr, ◌∙◌, arith}
use Rattle.std.proofs.Math.ListN.{get_or-append, length-append}
use Rattle.std.proofs.Math.Seq.{get_or-append_seam}
use Rattle.std.proofs.lemmas.Bool.{cases_eq, cases_lt}
use Rattle.std.proofs.lemmas.List.{append-nil}
use Rattle.std.proofs.lemmas.Option.{get_or_from_slice_get, slice_get-get_or}
use Rattle.in_node_orders.specs.Turns.{AreDistinct, AreTurns}
use Rattle.in_simple_deriving.specs.Turns.{AreAllFrom, AreFirst}

pub first_fit : (first nodes : List ℕ) → AreFirst first nodes → length first ≤ length nodes
first_fit first nodes a = let e = ap length a.1 in let many = length-append first a.0 in omega (arith, e, many)

pub first_same : (first nodes : List ℕ) → AreFirst first nodes → (t : ℕ) → t < length first → slice_index_or nodes t 0 ≡ slice_index_or first t 0
first_same first nodes a t l = ap (λ z. slice_index_or z t 0) a.1 ∙ get_or-append first a.0 0 t l

-- the others among the nodes below n follow; they rise, and have no turn in the given ones
pub record HasOthers (first turns : List ℕ) (n : ℕ) (nodes : List ℕ) : Type 0 where
  pub begins : AreFirst first nodes
  pub others : (t : ℕ) → length first ≤ t → t < length nodes → (slice_index_or nodes t 0 < n) × (slice_index_or turns (slice_index_or nodes t 0) 0 ≡ length first)
  pub rise : (s t : ℕ) → length first ≤ s → s < t → t < length nodes → slice_index_or nodes s 0 < slice_index_or nodes t 0
  pub all : (m : ℕ) → m < n → (t : ℕ) × (t < length nodes) × (slice_index_or nodes t 0 ≡ m)

pub others_begin : (first turns : List ℕ) → HasOthers first turns 0 first
others_begin first turns = record {
  begins = ([], sym (append-nil first));
  others = λ t l m. absurd (omega (arith, l, m));
  rise = λ s t l b m. absurd (omega (arith, l, b, m));
  all = λ m l. absurd (omega (arith, l));
}

-- one more
pub others_more : (first turns : List ℕ) (n : ℕ) (nodes : List ℕ) → HasOthers first turns n nodes → slice_index_or turns n 0 ≡ length first → HasOthers first turns (n + 1) (nodes ++ n ∷ [])
others_more first turns n nodes h none = record {
  begins = (h.begins.0 ++ n ∷ [], ap (λ z. z ++ n ∷ []) h.begins.1 ∙ append_assoc first h.begins.0 (n ∷ []));
  others = λ t l m. elim (cases_eq t (length nodes)) [
    | inl e ↦
        let at = last t e in
        (omega (arith, at), ap (λ z. slice_index_or turns z 0) at ∙ none)
    | inr d ↦
        let less : t < length nodes = omega (arith, m, many, d) in
        let r = h.others t l less in
        let small = r.0 in
        let at = old t less in
        (omega (arith, small, at), ap (λ z. slice_index_or turns z 0) at ∙ r.1)
  ];
  rise = λ s t l b m. elim (cases_eq t (length nodes)) [
    | inl e ↦
        let less : s < length nodes = omega (arith, b, e) in
        let small = (h.others s l less).0 in
        let at_s = old s less in
        let at_t = last t e in
        omega (arith, small, at_s, at_t)
    | inr d ↦
        let less : t < length nodes = omega (arith, m, many, d) in
        let rise = h.rise s t l b less in
        let at_s = old s (omega (arith, b, less)) in
        let at_t = old t less in
        omega (arith, rise, at_s, at_t)
  ];
  all = λ m l. elim (cases_eq m n) [
    | inl e ↦ (length nodes, omega (arith, many), last (length nodes) refl ∙ sym e)
    | inr d ↦ let r = h.all m (omega (arith, l, d)) in let less = r.1 in (r.0, omega (arith, less, many), old r.0 r.1 ∙ r.2)
  ];
}
  where
    many : length (nodes ++ n ∷ []) ≡ length nodes + 1
    many = length-append nodes (n ∷ [])

    old : (t : ℕ) → t < length nodes → slice_index_or (nodes ++ n ∷ []) t 0 ≡ slice_index_or nodes t 0
    old t l = get_or-append nodes (n ∷ []) 0 t l

    last : (t : ℕ) → t ≡ length nodes → slice_index_or (nodes ++ n ∷ []) t 0 ≡ n
    last t e = ap (λ z. slice_index_or (nodes ++ n ∷ []) z 0) e ∙ get_or-append_seam nodes n [] 0

module _ (count : ℕ) (first turns : List ℕ) (ts : AreTurns count first turns) where
  -- one of the given ones
  pub others_past : (n : ℕ) (nodes : List ℕ) → HasOthers first turns n nodes → n < count → (slice_index_or turns n 0 ≡ length first → ⊥) → HasOthers first turns (n + 1) nodes
  others_past n nodes h small some = record {
    begins = h.begins;
    others = λ t l m. let r = h.others t l m in let less = r.0 in (omega (arith, less), r.1);
    rise = h.rise;
    all = λ m l. elim (cases_eq m n) [
      | inl e ↦ elim (ts.of_turn n small) [
        | inl none ↦ absurd (some none)
        | inr r ↦ let less = r.0 in let most = first_fit first nodes h.begins in (slice_index_or turns n 0, omega (arith, less, most), first_same first nodes h.begins (slice_index_or turns n 0) r.0 ∙ get_or_from_slice_get first (slice_index_or turns n 0) n 0 r.1 ∙ sym e)
      ]
      | inr d ↦ h.all m (omega (arith, l, d))
    ];
  }

  pub others_end : (nodes : List ℕ) → AreDistinct count first → HasOthers first turns count nodes → AreAllFrom count first nodes
  others_end nodes distinct h = record {
    begins = h.begins;
    distinct = record {
      below = λ t l. elim (cases_lt t (length first)) [
        | inl early ↦ let e = first_same first nodes h.begins t early in let less = distinct.below t early in omega (arith, e, less)
        | inr late ↦ (h.others t late l).0
      ];
      once = λ s t b l e. elim (cases_lt t (length first)) [
        | inl early ↦ distinct.once s t b early (sym (first_same first nodes h.begins s (omega (arith, b, early))) ∙ e ∙ first_same first nodes h.begins t early)
        | inr late ↦ elim (cases_lt s (length first)) [
          | inl early ↦
              let own : slice_index_or turns (slice_index_or first s 0) 0 ≡ s = (ts.of_node s (slice_index_or first s 0) early (slice_get-get_or first s 0 early)).1 in
              let none = (h.others t late l).1 in
              let is : s ≡ length first = sym own ∙ ap (λ z. slice_index_or turns z 0) (sym (first_same first nodes h.begins s early) ∙ e) ∙ none in
              omega (arith, early, is)
          | inr too ↦ let less = h.rise s t too b l in omega (arith, less, e)
        ]
      ];
    };
    all = h.all;
  }

-- ---- the turns of all nodes

module _ (count : ℕ) (first nodes turns : List ℕ) (a : AreAllFrom count first nodes) (ts : AreTurns count nodes turns) where
  pub node_turn : (t : ℕ) → t < length nodes → (slice_index_or nodes t 0 < count) × (slice_index_or turns (slice_index_or nodes t 0) 0 ≡ t)
  node_turn t l = ts.of_node t (slice_index_or nodes t 0) l (slice_get-get_or nodes t 0 l)

  pub turn_node : (n : ℕ) → n < count → (slice_index_or turns n 0 < length nodes) × (slice_index_or nodes (slice_index_or turns n 0) 0 ≡ n)
  turn_node n l = elim (ts.of_turn n l) [
    | inl none ↦
        let r = a.all n l in
        let less = r.1 in
        let is : slice_index_or turns n 0 ≡ r.0 = ap (λ z. slice_index_or turns z 0) (sym r.2) ∙ (node_turn r.0 r.1).1 in
        absurd (omega (arith, none, less, is))
    | inr r ↦ (r.0, get_or_from_slice_get nodes (slice_index_or turns n 0) n 0 r.1)
  ]
