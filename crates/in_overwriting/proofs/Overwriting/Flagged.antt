-- A wire that leads from an active pair back to it is a crossing circle, unless it joins ports of one class.
use Rattle.std.proofs.Common.{◌≡◌, ◌≢◌, inl, inr, ◌≤◌, ℕ, suc, Option, Some, IsSomeAnd, [], ◌∷◌, sym, subst, ap, ◌∙◌}
use native.Mathlib.Decide.{ℕ_discrete}
use Rattle.in_base.specs.Graphs.{Passage}
use Rattle.in_net.specs.Graphs.{class_of_symbol}
use Rattle.in_net.specs.Interactions.{Redex, IsRedex}
use Rattle.in_net.specs.Nets.{Point, Port, Signature, Net}
use Rattle.in_net.proofs.Public.{symbol_of}
use Rattle.in_typing.proofs.Public.{port_type}
use Rattle.in_overwriting.specs.Flag.{IsMarkedSymbol, IsMarkedAt, IsCalm, NoWireBetween, OneClassOfOneAgent, UnmarkedPairsAreApart}
use Rattle.in_overwriting.specs.Overwriting.{NoneLeadsBack}

module _ (sig : Signature) (n : Net ℕ) (calm : IsCalm sig n) where
  -- an auxiliary port is of another class than the principal one
  crosses : (y i s : ℕ) → n.symbol y ≡ Some s → class_of_symbol sig (n.symbol y) (suc i) ≢ class_of_symbol sig (n.symbol y) 0
  crosses y i s e = subst (λ (o : Option ℕ). class_of_symbol sig o (suc i) ≢ class_of_symbol sig o 0) (sym e) (calm.classes s i)

  symbol_at : (y i : ℕ) (v : Point ℕ) → n.partner (Port y i) ≡ Some v → (s : ℕ) × (n.symbol y ≡ Some s)
  symbol_at y i v e = symbol_of sig (n.symbol y) i (calm.net.points (Port y i) v e)

  place_at : (y i s : ℕ) (v : Point ℕ) → n.symbol y ≡ Some s → n.partner (Port y i) ≡ Some v → i ≤ sig.arity s
  place_at y i s v h e =
      let p : IsSomeAnd (Some s) (λ s. i ≤ sig.arity s) = subst (λ (o : Option ℕ). IsSomeAnd o (λ s. i ≤ sig.arity s)) h (calm.net.points (Port y i) v e) in
      p

  -- different agents, whose principal ports are joined
  differ : (a b : ℕ) → n.partner (Port a 0) ≡ Some (Port b 0) → a ≢ b
  differ a b e same = calm.net.apart (Port a 0) (e ∙ ap (λ (y : ℕ). Some (Port y 0)) (sym same))

  between : (a b i j : ℕ) → n.partner (Port a 0) ≡ Some (Port b 0) → n.partner (Port a (suc i)) ≢ Some (Port b (suc j))
  between a b i j active wire =
      let s = symbol_at a (suc i) (Port b (suc j)) wire in
      let t = symbol_at b 0 (Port a 0) (calm.net.back (Port a 0) (Port b 0) active) in
      let out : Passage ℕ = record { node = b; enter = suc j; leave = 0 } in
      let back : Passage ℕ = record { node = a; enter = 0; leave = suc i } in
      calm.no_circle (record {
        first = out;
        rest = back ∷ [];
        closed = (calm.net.back (Port a 0) (Port b 0) active, wire);
        crossing = (crosses b j t.0 t.1, ((λ e. crosses a i s.0 s.1 (sym e)), tt));
        apart = (((λ e. differ a b active (sym e)), tt), (tt, tt));
      })

  within : (a i j s : ℕ) → n.symbol a ≡ Some s → n.partner (Port a (suc i)) ≡ Some (Port a (suc j)) → IsMarkedAt sig s i j
  within a i j s h wire = record {
    first = place_at a (suc i) s (Port a (suc j)) h wire;
    second = place_at a (suc j) s (Port a (suc i)) h (calm.net.back (Port a (suc i)) (Port a (suc j)) wire);
    class = class;
    types = calm.typed (Port a (suc i)) (Port a (suc j)) (sig.type_of s (suc i)) (sig.type_of s (suc j)) wire (port_type sig n a (suc i) s h) (port_type sig n a (suc j) s h);
  }
    where
      go : Dec (sig.class_of s (suc j) ≡ sig.class_of s (suc i)) → sig.class_of s (suc i) ≡ sig.class_of s (suc j)
      go (yes e) = sym e
      go (no d) =
          let here : Passage ℕ = record { node = a; enter = suc j; leave = suc i } in
          absurd (calm.no_circle (record {
            first = here;
            rest = [];
            closed = wire;
            crossing = (subst (λ (o : Option ℕ). class_of_symbol sig o (suc j) ≢ class_of_symbol sig o (suc i)) (sym h) d, tt);
            apart = (tt, tt);
          }))

      class : sig.class_of s (suc i) ≡ sig.class_of s (suc j)
      class = go (ℕ_discrete (sig.class_of s (suc j)) (sig.class_of s (suc i)))

  moved : (y z a b i j : ℕ) → y ≡ a → z ≡ b → n.partner (Port y (suc i)) ≡ Some (Port z (suc j)) → n.partner (Port a (suc i)) ≡ Some (Port b (suc j))
  moved y z a b i j e d wire = ap (λ (y : ℕ). n.partner (Port y (suc i))) (sym e) ∙ wire ∙ ap (λ (z : ℕ). Some (Port z (suc j))) d

  module _ (x : Redex ℕ ℕ) (redex : IsRedex sig n x) (one : IsMarkedSymbol sig x.first → ⊥) (two : IsMarkedSymbol sig x.second → ⊥) where
    apart_pair : NoneLeadsBack n x
    apart_pair y z i j (inl e) (inl d) wire = one (i, j, within x.one i j x.first redex.one (moved y z x.one x.one i j e d wire))
    apart_pair y z i j (inr e) (inr d) wire = two (i, j, within x.two i j x.second redex.two (moved y z x.two x.two i j e d wire))
    apart_pair y z i j (inl e) (inr d) wire = between x.one x.two i j redex.active (moved y z x.one x.two i j e d wire)
    apart_pair y z i j (inr e) (inl d) wire = between x.one x.two j i redex.active (calm.net.back (Port x.two (suc i)) (Port x.one (suc j)) (moved y z x.two x.one i j e d wire))

pub no_wire_between : NoWireBetween
no_wire_between sig n a b i j calm active wire = between sig n calm a b i j active wire

pub one_class_of_one_agent : OneClassOfOneAgent
one_class_of_one_agent sig n a i j s calm h wire = within sig n calm a i j s h wire

pub unmarked_pairs_are_apart : UnmarkedPairsAreApart
unmarked_pairs_are_apart sig n x calm redex one two = apart_pair sig n calm x redex one two
