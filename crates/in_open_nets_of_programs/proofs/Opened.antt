-- The open net of a whole net is an open net.
use Rattle.std.proofs.Common.{◌≡◌, ◌<◌, ◌≤◌, ◌+◌, ℕ, Option, Some, None, IsSomeAnd, List, length, slice_get, get_or, refl, sym, subst, ap, inl, inr, ◌∙◌, arith}
use Rattle.std.specs.Prelude.{option_map, option_and_then}
use Rattle.std.proofs.lemmas.Option.{slice_get_within, get_or_from_slice_get}
use Rattle.in_syntax.specs.declared.symbol_no.SymbolNo.{SymbolNo}
use Rattle.in_symbols.specs.Tables.{Tables, arity_of, class_at, classes_of}
use Rattle.in_net.specs.declared.nets.Cell.{Cell}
use Rattle.in_net.specs.declared.nets.Point as points
use Rattle.in_net.specs.declared.nets.Point.TheVariants as point
use Rattle.in_net.specs.declared.nets.FreeEnd.{FreeEnd}
use Rattle.in_net.specs.declared.nets.Wire.{Wire}
use Rattle.in_net.proofs.Public.{cell_over, has_partner}
use Rattle.in_net.specs.Built.{IsOver}
use Rattle.in_net.specs.Parts.{Parts, IsWhole, IsPointOf, IsWireBetween, cell_in, symbol_in, partner_in, wire_in}
use Rattle.in_open_nets.specs.declared.open_nets.Node.{Node}
use Rattle.in_open_nets.specs.declared.open_nets.Node.TheVariants.{AgentNode, ClassNode}
use Rattle.in_open_nets.specs.declared.open_nets.OpenNode.{OpenNode}
use Rattle.in_open_nets.specs.declared.open_nets.OpenPoint.{OpenPoint}
use Rattle.in_open_nets.specs.declared.open_nets.OpenPoint.TheVariants.{Port, Free}
use Rattle.in_open_nets.specs.OpenNets as nets
use Rattle.in_open_nets.specs.OpenNets.{OpenNet, IsWire, IsOpenNet, IsOrderly, ports_in, IsAgentNode, IsAgent, class_in}
use Rattle.in_open_nets_of_programs.specs.Opening.{Each, IsNodeOf, AreNumbered, Opens, open_point, open_wire}
use Rattle.in_base.proofs.Places.{some_same}
use Rattle.in_open_nets.proofs.Public.{some_of}
use Rattle.in_base.proofs.Each.{at_index}
use Rattle.in_syntax.specs.Grammar.{max_ports}

-- the point of the net for a point of the open net
abbrev net_point : OpenPoint → points.Point
net_point (Port x i) = point.Port (record { 0 = x }) i
net_point (Free k) = point.Free k

net_of_open : (p : points.Point) → net_point (open_point p) ≡ p
net_of_open (point.Port x i) = refl
net_of_open (point.Free k) = refl

open_of_net : (p : OpenPoint) → open_point (net_point p) ≡ p
open_of_net (Port x i) = refl
open_of_net (Free k) = refl

pub same_wire : (r s u v : points.Point) → r ≡ u → s ≡ v → ◌≡◌ {A = Option (points.Point × points.Point)} (Some (r, s)) (Some (u, v))
same_wire r s u v e f = cc

pub lower_point : (o : OpenNet) (x i j : ℕ) → i ≤ j → nets.IsOpenPoint o (Port x j) → nets.IsOpenPoint o (Port x i)
lower_point o x i j l h =
    let m = some_of (λ (m : OpenNode). j < length m.class_of) (slice_get o.nodes x) h in
    let k = m.2 in
    subst (λ z. IsSomeAnd z (λ (m : OpenNode). i < length m.class_of)) (sym m.1) (omega arith)

pub few_ports : (o : OpenNet) → Each (λ n node. length node.class_of ≤ max_ports + 1) o.nodes → (x : ℕ) → ports_in (slice_get o.nodes x) ≤ max_ports + 1
few_ports o few x = at (slice_get o.nodes x) refl
  where
    at : (m : Option OpenNode) → slice_get o.nodes x ≡ m → ports_in m ≤ max_ports + 1
    at None e = omega arith
    at (Some m) e = few x m e

module _ (t : Tables) (n : Parts) (o : OpenNet) (numbered : AreNumbered t) (whole : IsWhole n) (over : IsOver t n) (opens : Opens t n o) where
  wire_of_net : (w : ℕ) (p q : OpenPoint) → slice_get o.wires w ≡ Some (p, q) → wire_in n w ≡ Some (net_point p, net_point q)
  wire_of_net w p q e = go (wire_in n w) (opens.wires.1 w (p, q) e)
    where
      go : (v : Option (points.Point × points.Point)) → option_map open_wire v ≡ Some (p, q) → v ≡ Some (net_point p, net_point q)
      go None h = cc
      go (Some (r, s)) h =
          let f : (open_point r, open_point s) ≡ (p, q) = some_same (Some (open_point r, open_point s)) (open_point r, open_point s) (p, q) refl h in
          let g : r ≡ net_point p = sym (net_of_open r) ∙ ap net_point (ap (λ z. z.0) f) in
          let k : s ≡ net_point q = sym (net_of_open s) ∙ ap net_point (ap (λ z. z.1) f) in
          same_wire r s (net_point p) (net_point q) g k

  wire_listed : (w : ℕ) (r s : points.Point) → wire_in n w ≡ Some (r, s) → slice_get o.wires w ≡ Some (open_point r, open_point s)
  wire_listed w r s e =
      let x = at_index o.wires w (omega (arith, opens.wires.0, wire_within w (r, s) e)) in
      let h : Some (open_point r, open_point s) ≡ Some x.0 = ap (option_map open_wire) (sym e) ∙ opens.wires.1 w x.0 x.1 in
      x.1 ∙ sym h
    where
      wire_within : (w : ℕ) (v : points.Point × points.Point) → wire_in n w ≡ Some v → w < length n.wires
      wire_within w v e = go (slice_get n.wires w) refl e
        where
          go : (x : Option Wire) → slice_get n.wires w ≡ x → option_map (λ (v : Wire). (v.one, v.other)) x ≡ Some v → w < length n.wires
          go None f h = cc
          go (Some x) f h = slice_get_within n.wires w x f

  partners : (w : ℕ) (p q : OpenPoint) → IsWire o w p q → partner_in n (net_point p) ≡ Some (net_point q)
  partners w p q (inl h) = whole.partners w (net_point p) (net_point q) (wire_of_net w p q h)
  partners w p q (inr h) = whole.back (net_point q) (net_point p) (whole.partners w (net_point q) (net_point p) (wire_of_net w q p h))

  between : (w : ℕ) (p q : OpenPoint) → IsWire o w p q → IsWireBetween n w (net_point p) (net_point q)
  between w p q (inl h) = inl (wire_of_net w p q h)
  between w p q (inr h) = inr (wire_of_net w q p h)

  pub listed : (w : ℕ) (r s : points.Point) → IsWireBetween n w r s → IsWire o w (open_point r) (open_point s)
  listed w r s (inl h) = inl (wire_listed w r s h)
  listed w r s (inr h) = inr (wire_listed w s r h)

  same_point : (p q : OpenPoint) → net_point p ≡ net_point q → p ≡ q
  same_point p q e = sym (open_of_net p) ∙ ap open_point e ∙ open_of_net q

  -- the agent of a number, as a cell and as a node
  record IsBoth (x : ℕ) : Type 0 where
    pub cell : Cell
    pub node : OpenNode
    pub here : cell_in n x ≡ Some cell
    pub there : slice_get o.nodes x ≡ Some node
    pub ports : length node.class_of ≡ length cell.ends
    pub is : IsNodeOf t n x node

  both_at : (x : ℕ) (m : OpenNode) → slice_get o.nodes x ≡ Some m → IsBoth x
  both_at x m e = go (slice_get n.cells x) refl (opens.nodes.1 x m e).here
    where
      is : IsNodeOf t n x m
      is = opens.nodes.1 x m e

      go : (c : Option (Option Cell)) → slice_get n.cells x ≡ c → symbol_in n x ≡ Some is.symbol → IsBoth x
      go None f h = let g : symbol_in n x ≡ None = ap (λ z. option_map (λ (c : Cell). c.symbol) (option_and_then (λ c. c) z)) f in cc
      go (Some None) f h = let g : symbol_in n x ≡ None = ap (λ z. option_map (λ (c : Cell). c.symbol) (option_and_then (λ c. c) z)) f in cc
      go (Some (Some c)) f h =
          let g : symbol_in n x ≡ Some c.symbol = ap (λ z. option_map (λ (c : Cell). c.symbol) (option_and_then (λ c. c) z)) f in
          let s : is.symbol ≡ c.symbol = some_same (symbol_in n x) is.symbol c.symbol h g in
          let a : arity_of t is.symbol.0 ≡ arity_of t c.symbol.0 = ap (λ (z : SymbolNo). arity_of t z.0) s in
          let l = (cell_over t n.cells x c over.cells (ap (option_and_then (λ (c : Option Cell). c)) f)).1 in
          let k = is.ports.0 in
          record {
            cell = c;
            node = m;
            here = ap (λ z. option_and_then (λ c. c) z) f;
            there = e;
            ports = omega arith;
            is = is;
          }

  points_open : (p : OpenPoint) → IsPointOf n (net_point p) → nets.IsOpenPoint o p
  points_open (Free k) h = let e = opens.free in omega arith
  points_open (Port x i) h =
      let c = some_of (λ (c : Cell). i < length c.ends) (cell_in n x) h in
      let m = at_index o.nodes x (omega (arith, opens.nodes.0, cell_within x c.0 c.1)) in
      let b = both_at x m.0 m.1 in
      let s : b.cell ≡ c.0 = some_same (cell_in n x) b.cell c.0 b.here c.1 in
      let l : length b.cell.ends ≡ length c.0.ends = ap (λ (z : Cell). length z.ends) s in
      let k = c.2 in
      let r = b.ports in
      subst (λ z. IsSomeAnd z (λ (m : OpenNode). i < length m.class_of)) (sym b.there) (omega arith)
    where
      cell_within : (x : ℕ) (c : Cell) → cell_in n x ≡ Some c → x < length n.cells
      cell_within x c e = go (slice_get n.cells x) refl e
        where
          go : (y : Option (Option Cell)) → slice_get n.cells x ≡ y → option_and_then (λ (c : Option Cell). c) y ≡ Some c → x < length n.cells
          go None f h = cc
          go (Some y) f h = slice_get_within n.cells x y f

  partner_at : (p : OpenPoint) → nets.IsOpenPoint o p → (r : points.Point) × (partner_in n (net_point p) ≡ Some r)
  partner_at (Free k) h =
      let f = at_index n.free k (omega (arith, opens.free, h)) in
      (f.0.end, ap (option_map (λ (z : FreeEnd). z.end)) f.1)
  partner_at (Port x i) h =
      let m = some_of (λ (m : OpenNode). i < length m.class_of) (slice_get o.nodes x) h in
      let b = both_at x m.0 m.1 in
      let s : b.node ≡ m.0 = some_same (slice_get o.nodes x) b.node m.0 b.there m.1 in
      let l : length b.node.class_of ≡ length m.0.class_of = ap (λ (z : OpenNode). length z.class_of) s in
      let k = m.2 in
      let r = b.ports in
      let y = at_index b.cell.ends i (omega arith) in
      (y.0, ap (option_and_then (λ (c : Cell). slice_get c.ends i)) b.here ∙ y.1)

  -- the class of an agent's place is that of its symbol's
  class_is : (x i : ℕ) → IsAgent o x → nets.IsOpenPoint o (Port x i) → (s : SymbolNo) × (i ≤ arity_of t s.0) × (class_in o x i ≡ class_at t s.0 i) × (nets.classes_of o x ≡ classes_of t s.0)
  class_is x i agent h =
      let m = some_of (λ (m : OpenNode). i < length m.class_of) (slice_get o.nodes x) h in
      let is = opens.nodes.1 x m.0 m.1 in
      let c = at_index m.0.class_of i m.2 in
      let k = m.2 in
      let l = is.ports.0 in
      let at : nets.class_at (Some m.0) i ≡ c.0 = by_node m.0 is.node ∙ class_there m.0.class_of i c.0 c.1 in (
        is.symbol,
        omega arith,
        ap (λ z. nets.class_at z i) m.1 ∙ at ∙ is.ports.1 i c.0 c.1,
        ap (λ (z : Option OpenNode). elim z [ None ↦ 0 | Some m ↦ m.classes ]) m.1 ∙ is.classes,
      )
    where
      by_node : (m : OpenNode) → {s : SymbolNo} → m.node ≡ AgentNode s → nets.class_at (Some m) i ≡ get_or m.class_of i 0
      by_node m e = ap (λ (z : Node). elim z [ AgentNode y ↦ get_or m.class_of i 0 | ClassNode y c ↦ i ]) e

      class_there : (xs : List ℕ) (i c : ℕ) → slice_get xs i ≡ Some c → get_or xs i 0 ≡ c
      class_there xs i c e = get_or_from_slice_get xs i c 0 e

  -- classes of its places by its symbol's
  class_same : (x i j : ℕ) → (a : IsAgent o x) → (h : nets.IsOpenPoint o (Port x i)) → (k : nets.IsOpenPoint o (Port x j)) → (class_is x i a h).0 ≡ (class_is x j a k).0
  unfolding class_is
  class_same x i j a h k = go (some_of (λ (m : OpenNode). i < length m.class_of) (slice_get o.nodes x) h) (some_of (λ (m : OpenNode). j < length m.class_of) (slice_get o.nodes x) k)
    where
      go : (u : (m : OpenNode) × (slice_get o.nodes x ≡ Some m) × (i < length m.class_of)) → (v : (m : OpenNode) × (slice_get o.nodes x ≡ Some m) × (j < length m.class_of)) → (opens.nodes.1 x u.0 u.1).symbol ≡ (opens.nodes.1 x v.0 v.1).symbol
      go u v = some_same (symbol_in n x) (opens.nodes.1 x u.0 u.1).symbol (opens.nodes.1 x v.0 v.1).symbol (opens.nodes.1 x u.0 u.1).here (opens.nodes.1 x v.0 v.1).here

  pub in_order : (x i j : ℕ) → IsAgent o x → nets.IsOpenPoint o (Port x j) → 0 < i → i ≤ j → class_in o x i ≤ class_in o x j
  in_order x i j a k z l =
      let h = lower_point o x i j l k in
      let c = class_is x i a h in
      let d = class_is x j a k in
      let e : class_at t c.0.0 j ≡ class_at t d.0.0 j = ap (λ (s : SymbolNo). class_at t s.0 j) (class_same x i j a h k) in
      let f : arity_of t c.0.0 ≡ arity_of t d.0.0 = ap (λ (s : SymbolNo). arity_of t s.0) (class_same x i j a h k) in
      let b = d.1 in
      let u = numbered.ordered c.0.0 i j z l (omega arith) in
      let v = c.2 in
      let w = d.2 in
      omega arith

  pub is_open_net : IsOpenNet o
  is_open_net = record {
    points = λ w p q h. points_open p (has_partner n (net_point p) (net_point q) (partners w p q h));
    joined = λ p h.
        let r = partner_at p h in
        let w = whole.listed (net_point p) r.0 r.1 in
        (w.0, open_point r.0, subst (λ z. IsWire o w.0 z (open_point r.0)) (open_of_net p) (listed w.0 (net_point p) r.0 w.1));
    once = λ w v p q r h k.
        let e : q ≡ r = same_point q r (some_same (partner_in n (net_point p)) (net_point q) (net_point r) (partners w p q h) (partners v p r k)) in
        (whole.once w v (net_point p) (net_point q) (between w p q h) (between v p q (subst (λ z. IsWire o v p z) (sym e) k)), e);
    apart = λ w p q h e. whole.apart (net_point p) (subst (λ z. partner_in n (net_point p) ≡ Some (net_point z)) (sym e) (partners w p q h));
    principal = λ x i agent h.
        let c = class_is x i agent h in
        let k = numbered.principal c.0.0 i c.1 in
        ((λ e. k.0 (sym c.2 ∙ e)), λ e. c.2 ∙ k.1 e);
    classes = λ x i agent h.
        let c = class_is x i agent h in
        let k = numbered.most c.0.0 i c.1 in
        let e = c.2 in
        let f = c.3 in
        omega arith;
  }

pub is_orderly : (t : Tables) (n : Parts) (o : OpenNet) → AreNumbered t → IsWhole n → IsOver t n → Opens t n o → Each (λ n node. length node.class_of ≤ max_ports + 1) o.nodes → IsOrderly o
is_orderly t n o numbered whole over opens few = record {
  nodes = let a = whole.agents in let b = opens.nodes.0 in omega arith;
  wires = let a = whole.wires in let b = opens.wires.0 in omega arith;
  ports = few_ports o few;
  net = is_open_net t n o numbered whole over opens;
  ordered = λ x i j a k z l. in_order t n o numbered whole over opens x i j a k z l;
}
