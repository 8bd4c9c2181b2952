-- Two agents that can interact: the net and the right member are nets, the pair is one of the definitions, and the unused numbers are names.
use Rattle.std.proofs.Common.{◌≡◌, ◌+◌, ◌*◌, ◌≤◌, ℕ, Option, Some, None, length, length-append, refl, sym, ap, ◌∙◌, arith}
use Rattle.std.specs.Prelude.{option_map}
use Rattle.std.proofs.lemmas.List.{length-map}
use Rattle.in_syntax.specs.Grammar.{max_ports}
use Rattle.in_syntax.specs.declared.symbol_no.SymbolNo.{SymbolNo}
use Rattle.in_symbols.specs.Tables.{Tables, arity_of}
use Rattle.in_net.specs.declared.nets.AgentNo.{AgentNo}
use Rattle.in_net.specs.declared.nets.Cell.{Cell}
use Rattle.in_net.specs.declared.nets.FreeEnd.{FreeEnd}
use Rattle.in_net.specs.declared.nets.Point as coded
use Rattle.in_net.specs.Built.{IsOver}
use Rattle.in_interaction.specs.Following.{SiteParts, IsSite}
use Rattle.in_interaction.specs.Interacting.{unused, CanInteract}
use Rattle.in_net.specs.Interactions.{Redex, IsRedex, IsNaming, redex_at}
use Rattle.in_net.specs.Nets.{Port, Signature, Net, IsNet, net_of, signature_of, point_of}
use Rattle.in_net.specs.Parts.{Parts, IsWhole, cell_in, symbol_in}
use Rattle.in_net.specs.Rules.{RuleParts, auxiliary_types}
use Rattle.in_net.proofs.Public.{is_net, cell_over, types_many, declared_at}
use Rattle.in_interaction.proofs.Stepping.Unused.{unused_free, unused_apart}

-- the pair is one of the definitions, in any net
module _ (t : Tables) (n : Parts) (r : RuleParts) (a b : AgentNo) (net : IsNet (signature_of t) (net_of n)) (can : CanInteract t n r a b) where
  active : (net_of n).partner (Port a.0 0) ≡ Some (Port b.0 0)
  active = ap (λ (o : Option coded.Point). option_map point_of o) can.active

  pub redex_in : IsRedex (signature_of t) (net_of n) (redex_at r a.0 b.0)
  redex_in = record {
    one = ap (λ (o : Option SymbolNo). option_map (λ (s : SymbolNo). s.0) o) can.one;
    two = ap (λ (o : Option SymbolNo). option_map (λ (s : SymbolNo). s.0) o) can.two;
    differ = λ same. net.apart (Port a.0 0) (active ∙ ap (λ y. Some (Port y 0)) (sym same));
    active = active;
    ends =
        ap length can.declared ∙ length-append (auxiliary_types t r.heads.0.0) (auxiliary_types t r.heads.1.0)
        ∙ ap (λ z. z + length (auxiliary_types t r.heads.1.0)) (types_many t r.heads.0.0 1 (arity_of t r.heads.0.0)) ∙ ap (λ z. arity_of t r.heads.0.0 + z) (types_many t r.heads.1.0 1 (arity_of t r.heads.1.0));
    declared = declared_at t r a.0 b.0 can.declared;
  }

-- an agent with this symbol has a cell with an end for each place
pub agent_ends : (t : Tables) (n : Parts) → IsOver t n → (x : ℕ) (s : SymbolNo) → symbol_in n x ≡ Some s → (c : Cell) × (cell_in n x ≡ Some c) × (c.symbol ≡ s) × (length c.ends ≡ arity_of t s.0 + 1)
agent_ends t n over x s e = go (cell_in n x) refl e
  where
    go : (o : Option Cell) → cell_in n x ≡ o → option_map (λ (c : Cell). c.symbol) o ≡ Some s → (c : Cell) × (cell_in n x ≡ Some c) × (c.symbol ≡ s) × (length c.ends ≡ arity_of t s.0 + 1)
    go None is e = cc
    go (Some c) is e =
        let same : c.symbol ≡ s = cc in
        (c, is, same, (cell_over t n.cells x c over.cells is).1 ∙ ap (λ (s : SymbolNo). arity_of t s.0 + 1) same)

-- a net in which two agents can interact, whole as the right member of their rule is
pub record Site : Type 0 where
  pub t : Tables
  pub n : Parts
  pub r : RuleParts
  pub a : AgentNo
  pub b : AgentNo
  pub whole : IsWhole n
  pub small : IsWhole r.member
  pub can : CanInteract t n r a b

module _ (here : Site) where
  open here use {t, n, r, a, b, whole, small, can}

  pub net : IsNet (signature_of t) (net_of n)
  net = is_net t n whole can.net

  pub inside : IsNet (signature_of t) (net_of r.member)
  inside = is_net t r.member small can.rule.member

  pub redex : IsRedex (signature_of t) (net_of n) (redex_at r a.0 b.0)
  redex = redex_in t n r a b net can

  pub naming : IsNaming (net_of n) (redex_at r a.0 b.0) (unused n.cells)
  naming = record {
    fresh = λ k s e. ap (λ (o : Option Cell). option_map (λ (s : SymbolNo). s.0) (option_map (λ (c : Cell). c.symbol) o)) (unused_free n.cells k);
    apart = λ k l s u e f same. unused_apart n.cells k l same;
  }

  -- the two have few auxiliary places
  pub few_places : arity_of t r.heads.0.0 + arity_of t r.heads.1.0 ≤ 2 * max_ports
  few_places =
      let x = agent_ends t n can.net a.0 r.heads.0 can.one in
      let y = agent_ends t n can.net b.0 r.heads.1 can.two in
      let l = whole.ports a.0 x.0 x.1 in
      let m = whole.ports b.0 y.0 y.1 in
      omega (arith, l, m, x.3, y.3)

-- a lemma on interactions, at this site: it gets the net, the pair, the names, and their properties
pub known : {Fact : (sig : Signature) (n : Net ℕ) (x : Redex ℕ ℕ) (name : ℕ → ℕ) → IsNet sig n → IsNet sig x.member → IsRedex sig n x → IsNaming n x name → Type 0} →
    (here : Site) →
    ((sig : Signature) (n : Net ℕ) (x : Redex ℕ ℕ) (name : ℕ → ℕ) →
    (net : IsNet sig n) (inside : IsNet sig x.member) (redex : IsRedex sig n x) (naming : IsNaming n x name) → Fact sig n x name net inside redex naming) →
    Fact (signature_of here.t) (net_of here.n) (redex_at here.r here.a.0 here.b.0) (unused here.n.cells) (net here) (inside here) (redex here) (naming here)
known here lemma = lemma (signature_of here.t) (net_of here.n) (redex_at here.r here.a.0 here.b.0) (unused here.n.cells) (net here) (inside here) (redex here) (naming here)

-- ---- in the code

-- two agents that can interact at a site
abbrev pub at_site : (s : SiteParts) → IsSite s → (t : Tables) → CanInteract t s.net s.rule s.one s.two → Site
at_site s site t can = record { t = t; n = s.net; r = s.rule; a = s.one; b = s.two; whole = site.whole; small = site.member; can = can }

module _ (s : SiteParts) (site : IsSite s) where
  pub first_is : (t : Tables) → CanInteract t s.net s.rule s.one s.two → arity_of t s.rule.heads.0.0 ≡ s.first
  first_is t can =
      let c = agent_ends t s.net can.net s.one.0 s.rule.heads.0 can.one in
      let many = site.first c.0 c.1 in
      omega (arith, many, c.3)

  pub ends_fit : (s.first ≤ max_ports) × (length s.rule.member.free ≤ s.first + max_ports)
  ends_fit =
      let t = site.over.0 in
      let can = site.over.1 in
      let a = agent_ends t s.net can.net s.one.0 s.rule.heads.0 can.one in
      let b = agent_ends t s.net can.net s.two.0 s.rule.heads.1 can.two in
      let small = site.whole.ports s.one.0 a.0 a.1 in
      let other = site.whole.ports s.two.0 b.0 b.1 in
      let first = first_is t can in
      let many = (redex (at_site s site t can)).ends in
      let types = length-map s.rule.member.free (λ (f : FreeEnd). f.kind) in
      (omega (arith, small, a.3, first), omega (arith, other, b.3, first, many, types))
