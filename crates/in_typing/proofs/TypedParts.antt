-- Parts that are typed are a typed net.
use Rattle.std.proofs.Common.{◌≡◌, ℕ, zero, suc, Bool, true, false, not, Option, Some, None, List, [], ◌∷◌, map, slice_get, refl, sym, ap, inl, inr, ◌∙◌}
use Rattle.std.specs.Prelude.{option_map}
use Rattle.std.proofs.lemmas.Option.{same_Some}
use Rattle.in_symbols.specs.declared.symbols.PortType.{PortType}
use Rattle.in_syntax.specs.declared.symbol_no.SymbolNo.{SymbolNo}
use Rattle.in_symbols.specs.Tables.{Tables, port_at}
use Rattle.in_net.specs.declared.nets.FreeEnd.{FreeEnd}
use Rattle.in_net.specs.Nets.{Point, Port, Free, net_of, signature_of, coded_point}
use Rattle.in_net.specs.Parts.{Parts, IsWhole, IsWireBetween, partner_in, symbol_in}
use Rattle.in_net.proofs.Public.{map_is}
use Rattle.in_typing.specs.Typed.{opposite, type_at, IsTyped}
use Rattle.in_typing.specs.TypedNets.{type_in, IsTypedNet}

pub opposite_twice : (t : PortType) → opposite (opposite t) ≡ t
opposite_twice t = ap (λ b. record { kind = t.kind; output = b }) (not_twice t.output)
  where
    not_twice : (b : Bool) → not (not b) ≡ b
    not_twice true = refl
    not_twice false = refl

free_type : (fs : List FreeEnd) (k : ℕ) (s : PortType) → ◌≡◌ {A = Option PortType} (elim (slice_get (map (λ (f : FreeEnd). f.kind) fs) k) [ None ↦ None | Some t ↦ Some (opposite t) ]) (Some s) →
    option_map opposite (option_map (λ (f : FreeEnd). f.kind) (slice_get fs k)) ≡ Some s
free_type [] k s e = cc
free_type (f ∷ fs) zero s e = e
free_type (f ∷ fs) (suc k) s e = free_type fs k s e

module _ (t : Tables) (n : Parts) (whole : IsWhole n) where
  same_type : (p : Point ℕ) (s : PortType) → type_in (signature_of t) (net_of n) p ≡ Some s → type_at t n (coded_point p) ≡ Some s
  same_type (Port x i) s e = go (symbol_in n x) e
    where
      go : (o : Option SymbolNo) → ◌≡◌ {A = Option PortType} (elim (option_map (λ (s : SymbolNo). s.0) o) [ None ↦ None | Some c ↦ Some (port_at t c i) ]) (Some s) → option_map (λ (s : SymbolNo). port_at t s.0 i) o ≡ Some s
      go None e = cc
      go (Some c) e = e
  same_type (Free k) s e = free_type n.free k s e

  pub net_typed : IsTyped t n → IsTypedNet (signature_of t) (net_of n)
  net_typed typed p q s u e hs hu =
      let w = whole.listed (coded_point p) (coded_point q) (map_is (partner_in n (coded_point p)) q e) in
      by_side w.0 w.1
    where
      by_side : (w : ℕ) → IsWireBetween n w (coded_point p) (coded_point q) → u ≡ opposite s
      by_side w (inl wire) =
          let fits = typed w (coded_point p) (coded_point q) wire in
          let same : s ≡ opposite u = same_Some s (opposite u) (sym (same_type p s hs) ∙ fits ∙ ap (option_map opposite) (same_type q u hu)) in
          sym (opposite_twice u) ∙ ap opposite (sym same)
      by_side w (inr wire) =
          let fits = typed w (coded_point q) (coded_point p) wire in
          same_Some u (opposite s) (sym (same_type q u hu) ∙ fits ∙ ap (option_map opposite) (same_type p s hs))
