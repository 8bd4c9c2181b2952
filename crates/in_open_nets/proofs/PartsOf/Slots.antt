-- The slots of an open net's ports have their wires.
use Rattle.std.proofs.Common.{◌≡◌, ◌⊎◌, ◌<◌, ◌≤◌, ◌+◌, ◌*◌, ℕ, Bool, true, false, Option, Some, None, IsSomeAnd, List, length, slice_get, get_or, refl, sym, subst, inl, inr, ◌∙◌, arith}
use Rattle.std.proofs.Math.ListN.{set}
use Rattle.std.proofs.lemmas.List.{length-set, get_or-set_same, get_or-set_other}
use Rattle.std.proofs.lemmas.Option.{slice_get_within}
use Rattle.in_open_nets.specs.declared.open_nets.OpenNode.{OpenNode}
use Rattle.in_open_nets.specs.declared.open_nets.OpenPoint.{OpenPoint}
use Rattle.in_open_nets.specs.declared.open_nets.OpenPoint.TheVariants.{Port, Free}
use Rattle.in_open_nets.specs.OpenNets.{OpenNet, IsWire, IsOpenPoint, IsOrderly, ports_in}
use Rattle.in_open_nets.specs.Parts.{Slot, slot_at, led, HasSlot, AreLed, IsWired, IsNeighbour}
use Rattle.in_open_nets.specs.Members.{nodes_in}
use Rattle.in_open_nets.specs.Stuck.{ports_of}
use Rattle.in_base.proofs.Places.{some_same}
use Rattle.in_open_nets.proofs.Built.Balance.{wire_within}
use Rattle.in_open_nets.proofs.PartsOf.Sums.{some_of, not_both}
use Rattle.in_open_nets.proofs.Reached.Links.{same_nat}
use Rattle.in_open_nets.proofs.Built.Sound.{wire_points, port_place}
use Rattle.in_syntax.specs.Grammar.{max_ports}

pub port_point : (o : OpenNet) (n i : ℕ) → i < ports_of o n → IsOpenPoint o (Port n i)
port_point o n i h = go (slice_get o.nodes n) h
  where
    go : (m : Option OpenNode) → i < elim m [ None ↦ 0 | Some m ↦ length m.class_of ] → IsSomeAnd m (λ m. i < length m.class_of)
    go None h = absurd (omega arith)
    go (Some m) h = h

pub wire_read : (o : OpenNet) (w : ℕ) (v : OpenPoint × OpenPoint) → slice_get o.wires w ≡ Some v → slice_get o.wires w ≡ Some (v.0, v.1)
wire_read o w (p, q) h = h

module _ (o : OpenNet) (orderly : IsOrderly o) where
  pub place : (n i : ℕ) → IsOpenPoint o (Port n i) → (n < length o.nodes) × (i < max_ports + 1)
  place n i h =
      let x = some_of (λ (m : OpenNode). i < length m.class_of) (slice_get o.nodes n) h in
      let few : length x.0.class_of ≤ max_ports + 1 = subst (λ z. ports_in z ≤ max_ports + 1) x.1 (orderly.ports n) in
      let l = x.2 in
      (slice_get_within o.nodes n x.0 x.1, omega arith)

  pub has_slot : (slots : List Slot) (p : OpenPoint) → length slots ≡ length o.nodes * (max_ports + 1) → IsOpenPoint o p → HasSlot slots p
  has_slot slots (Port n i) e h = let k = place n i h in let a = k.0 in let b = k.1 in omega arith
  has_slot slots (Free k) e h = tt

  pub length_led : (slots : List Slot) (w : ℕ) (p q : OpenPoint) → length (led slots w p q) ≡ length slots
  length_led slots w (Port n i) q = length-set slots (n * (max_ports + 1) + i) (Some (w, q))
  length_led slots w (Free k) q = refl

  -- the content of a slot after a write
  at_led : (slots : List Slot) (w : ℕ) (n i : ℕ) (q : OpenPoint) → n * (max_ports + 1) + i < length slots → i < max_ports + 1 → (m j : ℕ) → j < max_ports + 1
      → ((m ≡ n) × (j ≡ i) × (slot_at (led slots w (Port n i) q) m j ≡ Some (w, q))) ⊎ (slot_at (led slots w (Port n i) q) m j ≡ slot_at slots m j)
  at_led slots w n i q l a m j b = elim (same_nat (m * (max_ports + 1) + j) (n * (max_ports + 1) + i)) [
    | inl e ↦
        let f : m ≡ n = omega arith in
        let g : j ≡ i = omega arith in
        inl (f, g, subst (λ z. get_or (set slots (n * (max_ports + 1) + i) (Some (w, q))) z None ≡ Some (w, q)) (sym e) (get_or-set_same slots (n * (max_ports + 1) + i) (Some (w, q)) None l))
    | inr d ↦ inr (get_or-set_other slots (n * (max_ports + 1) + i) (m * (max_ports + 1) + j) (Some (w, q)) None d)
  ]

  abbrev IsRight : List Slot → Type 0
  IsRight slots = (n i w : ℕ) (q : OpenPoint) → n < length o.nodes → i < max_ports + 1 → slot_at slots n i ≡ Some (w, q) → IsWire o w (Port n i) q

  led_right : (slots : List Slot) (w : ℕ) (p q : OpenPoint) → HasSlot slots p → IsOpenPoint o p → IsWire o w p q → IsRight slots → IsRight (led slots w p q)
  led_right slots w (Free k) q l c h r m j v t a b e = r m j v t a b e
  led_right slots w (Port n i) q l c h r m j v t a b e = elim (at_led slots w n i q l (place n i c).1 m j b) [
    | inl f ↦ subst (λ z. IsWire o z.0 (Port m j) z.1) (same (f.2) e) (subst (λ z. IsWire o w (Port z j) q) (sym f.0) (subst (λ z. IsWire o w (Port n z) q) (sym f.1) h))
    | inr f ↦ r m j v t a b (sym f ∙ e)
  ]
    where
      same : {x : Slot} → x ≡ Some (w, q) → x ≡ Some (v, t) → ◌≡◌ {A = ℕ × OpenPoint} (w, q) (v, t)
      same {x} g k = some_same x (w, q) (v, t) g k

  led_kept : (slots : List Slot) (w : ℕ) (p q : OpenPoint) → HasSlot slots p → IsOpenPoint o p → (m j : ℕ) → j < max_ports + 1 → (slot_at slots m j ≡ None → ⊥) → slot_at (led slots w p q) m j ≡ None → ⊥
  led_kept slots w (Free k) q l c m j b h e = h e
  led_kept slots w (Port n i) q l c m j b h e = elim (at_led slots w n i q l (place n i c).1 m j b) [
    | inl f ↦ let g = f.2 in cc
    | inr f ↦ h (sym f ∙ e)
  ]

  led_here : (slots : List Slot) (w : ℕ) (p q : OpenPoint) (n i : ℕ) → HasSlot slots p → p ≡ Port n i → slot_at (led slots w p q) n i ≡ None → ⊥
  led_here slots w (Free k) q n i l e f = cc
  led_here slots w (Port m j) q n i l e f =
      let g = port_place m n j i e in
      let a : m * (max_ports + 1) + j ≡ n * (max_ports + 1) + i = let x = g.0 in let y = g.1 in omega arith in
      let h : get_or (set slots (m * (max_ports + 1) + j) (Some (w, q))) (n * (max_ports + 1) + i) None ≡ Some (w, q) = subst (λ z. get_or (set slots (m * (max_ports + 1) + j) (Some (w, q))) z None ≡ Some (w, q)) a (get_or-set_same slots (m * (max_ports + 1) + j) (Some (w, q)) None l) in
      cc

  pub led_nothing : (slots : List Slot) → length slots ≡ length o.nodes * (max_ports + 1) → ((i : ℕ) → get_or slots i None ≡ None) → AreLed o 0 slots
  led_nothing slots e h = record {
    all = e;
    right = λ n i w q a b f. let g = h (n * (max_ports + 1) + i) in cc;
    some = λ n i w q l a b f g. omega arith;
  }

  pub led_more : (slots : List Slot) (b : ℕ) (p q : OpenPoint) → AreLed o b slots → slice_get o.wires b ≡ Some (p, q) → AreLed o (b + 1) (led (led slots b p q) b q p)
  led_more slots b p q h e =
      let pq : IsWire o b p q = inl e in
      let qp : IsWire o b q p = inr e in
      let cp = orderly.net.points b p q pq in
      let cq = orderly.net.points b q p qp in
      let sp = has_slot slots p h.all cp in
      let l1 = length_led slots b p q in
      let l2 = length_led (led slots b p q) b q p in
      let sq = has_slot (led slots b p q) q (l1 ∙ h.all) cq in
      record {
        all = l2 ∙ l1 ∙ h.all;
        right = led_right (led slots b p q) b q p sq cq qp (led_right slots b p q sp cp pq h.right);
        some = λ n i w r l a c f. elim (same_nat w b) [
          | inl g ↦ elim (wire_points o b p q (Port n i) r pq (subst (λ z. IsWire o z (Port n i) r) g f)) [
            | inl k ↦ led_kept (led slots b p q) b q p sq cq n i c (led_here slots b p q n i sp (sym k.0))
            | inr k ↦ led_here (led slots b p q) b q p n i sq (sym k.0)
          ]
          | inr g ↦ led_kept (led slots b p q) b q p sq cq n i c (led_kept slots b p q sp cp n i c (h.some n i w r (omega arith) a c f))
        ];
      }

  -- the wires that lead to a set of nodes
  pub neighbour_free : (within : List Bool) (w n i k : ℕ) → IsWire o w (Port n i) (Free k) → IsNeighbour o within n i None
  neighbour_free within w n i k h v l j g m = let e = (orderly.net.once w v (Port n i) (Free k) (Port l j) h g).1 in cc

  pub neighbour_out : (within : List Bool) (w n i l j : ℕ) → IsWire o w (Port n i) (Port l j) → nodes_in within l ≡ false → IsNeighbour o within n i None
  neighbour_out within w n i l j h f v l' j' g m =
      let e = port_place l l' j j' (orderly.net.once w v (Port n i) (Port l j) (Port l' j') h g).1 in
      not_both (nodes_in within l') m (subst (λ z. nodes_in within z ≡ false) e.0 f)

  pub neighbour_in : (within : List Bool) (w n i l j : ℕ) → IsWire o w (Port n i) (Port l j) → IsOpenPoint o (Port l j) → nodes_in within l ≡ true → IsNeighbour o within n i (Some l)
  neighbour_in within w n i l j h p f = (w, j, h, f, (place l j p).0)

  pub slot_there : (slots : List Slot) (n i : ℕ) → IsWired o slots → n < length o.nodes → i < ports_of o n → slot_at slots n i ≡ None → ⊥
  slot_there slots n i h a b e =
      let p = port_point o n i b in
      let w = orderly.net.joined (Port n i) p in
      h.some n i w.0 w.1 (wire_within o w.0 (Port n i) w.1 w.2) a (place n i p).1 w.2 e

  pub slot_right : (slots : List Slot) (n i : ℕ) (v : ℕ × OpenPoint) → IsWired o slots → n < length o.nodes → i < ports_of o n → slot_at slots n i ≡ Some v → IsWire o v.0 (Port n i) v.1
  slot_right slots n i v h a b e = h.right n i v.0 v.1 a (place n i (port_point o n i b)).1 e
