-- The program of an accepted text is a sound system.
use Rattle.std.proofs.Common.{◌≡◌, ◌≢◌, ◌⊎◌, ◌<◌, ◌≤◌, ℕ, zero, suc, Bool, true, false, not, ◌&&◌, nat_eq, cond, Option, Some, None, Ok, List, [], ◌∷◌, ◌++◌, length, slice_get, get_or, refl, sym, subst, ap, inl, inr, ◌∙◌, arith, eq-eqb}
use Rattle.std.specs.Prelude.{option_map, option_and_then}
use Rattle.std.specs.List.{AllByRecursion}
use Rattle.std.proofs.lemmas.Bool.Decides.{eqb_tells}
use Rattle.std.proofs.lemmas.List.{length-map}
use Rattle.std.proofs.lemmas.Option.{slice_get_within}
use Rattle.in_syntax.specs.declared.tree.Source.{Source}
use Rattle.in_syntax.specs.declared.tree.SourcePort.{SourcePort}
use Rattle.in_syntax.specs.declared.tree.SourceRule.{SourceRule}
use Rattle.in_symbols.specs.declared.symbols.Shape.{Shape}
use Rattle.in_syntax.specs.declared.symbol_no.SymbolNo.{SymbolNo}
use Rattle.in_symbols.specs.Tables.{Tables, IsTabled, tables_of, type_names, classes_from, shape_of, class_in, port_at, is_constructor, are_opposite, matching}
use Rattle.in_net.specs.declared.nets.Cell.{Cell}
use Rattle.in_net.specs.declared.nets.FreeEnd.{FreeEnd}
use Rattle.in_net.specs.Built.{IsCellOver}
use Rattle.in_net.specs.Nets.{AreClasses, net_of, signature_of}
use Rattle.in_net.specs.Parts.{IsWhole}
use Rattle.in_net.specs.Rules as written
use Rattle.in_net.specs.Rules.{RuleParts, IsRuleOf, IsRuleOver, types_from, auxiliary_types}
use Rattle.in_net.proofs.Public.{is_net, declared_at}
use Rattle.in_typing.specs.Typed.{TypesRule}
use Rattle.in_typing.proofs.Public.{net_typed}
use Rattle.in_cover.specs.Cover.{IsComplete}
use Rattle.in_open_nets_of_programs.specs.Opening.{AreNumbered}
use Rattle.in_open_nets.proofs.Public.{derivable_no_circle, at_most, derivation_builds}
use Rattle.in_open_nets_of_programs.proofs.Public.{class_between, of_map, tables_numbered, net_circle, rule_circle, rules_open, no_circle}
use Rattle.in_open_nets_of_programs.proofs.Public.{rule_whole}
use Rattle.in_open_nets_of_programs.proofs.Public.Opened as opened_nets
use Rattle.in_check.specs.Certificates.{CertifiesRule}
use Rattle.in_check.specs.Checking.{IsAccepted, IsProgramOf}
use Rattle.in_check.specs.Programs.{Program}
use Rattle.in_check.specs.Systems.{SystemRule, IsMatching, IsSoundRule, IsSound, HasOneRule, IsSoundSystem, rule_in, system_of}
use Rattle.in_check.proofs.Chain.{program_of}
use Rattle.in_base.proofs.Each.{at_index, all_at}
use Rattle.in_base.proofs.Places.{of_mapped, to_mapped}
use Rattle.std.proofs.lemmas.Bool.{and_parts}
use Rattle.in_syntax.specs.declared.text_limits.TextLimits.{TextLimits}

-- ---- classes

beyond : (xs : List ℕ) (j d : ℕ) → length xs ≤ j → get_or xs j d ≡ d
beyond [] j d h = refl
beyond (x ∷ xs) zero d h = absurd (omega arith)
beyond (x ∷ xs) (suc j) d h = beyond xs j d (omega arith)

class_some : (cs : List (List SourcePort)) (j : ℕ) → 1 ≤ get_or (classes_from 1 cs) j 1
class_some cs j = elim (at_most (length (classes_from 1 cs)) j) [
  | inl l ↦ let e = beyond (classes_from 1 cs) j 1 l in omega arith
  | inr l ↦ let r = class_between 1 cs j l in r.0
]

tables_classed : (source : Source) (t : Tables) → IsTabled source t → AreClasses (signature_of t)
tables_classed source t h = subst (λ (t : Tables). AreClasses (signature_of t)) (sym h.tables) (λ s i. go s i (slice_get (tables_of source).shapes s) refl)
  where
    go : (s i : ℕ) (d : Option Shape) → slice_get (tables_of source).shapes s ≡ d → class_in d (suc i) ≢ class_in d 0
    go s i None e f = cc
    go s i (Some d) e f =
        let x = of_map (shape_of (type_names source)) source.symbols s d e in
        let g : class_in (Some (shape_of (type_names source) x.0)) (suc i) ≡ class_in (Some (shape_of (type_names source) x.0)) 0 = subst (λ (z : Shape). class_in (Some z) (suc i) ≡ class_in (Some z) 0) (sym x.1) f in
        let k : 1 ≤ class_in (Some (shape_of (type_names source) x.0)) (suc i) = class_some x.0.classes i in
        let z : class_in (Some (shape_of (type_names source) x.0)) 0 ≡ 0 = refl in
        absurd (omega (arith, g, k, z))

-- ---- symbols

below : (t : Tables) (cs : List (Option Cell)) → AllByRecursion (IsCellOver t) cs → (x s : ℕ) →
    option_map (λ (s : SymbolNo). s.0) (option_map (λ (c : Cell). c.symbol) (option_and_then (λ (c : Option Cell). c) (slice_get cs x))) ≡ Some s → s < length t.names
below t [] all x s e = cc
below t (None ∷ cs) all zero s e = cc
below t (Some c ∷ cs) all zero s e = let same : c.symbol.0 ≡ s = cc in subst (λ z. z < length t.names) same all.0.0
below t (c ∷ cs) all (suc x) s e = below t cs all.1 x s e

opposite_is : (a b : Bool) → are_opposite a b ≡ true → a ≡ not b
opposite_is true true e = cc
opposite_is true false e = refl
opposite_is false true e = refl
opposite_is false false e = cc

matching_is : (t : Tables) (c d : ℕ) → matching t c d ≡ true → ((port_at t c 0).kind ≡ (port_at t d 0).kind) × (is_constructor t c ≡ not (is_constructor t d))
matching_is t c d e =
    let both = and_parts (nat_eq (port_at t c 0).kind (port_at t d 0).kind) (are_opposite (is_constructor t c) (is_constructor t d)) e in (
      elim (eqb_tells (port_at t c 0).kind (port_at t d 0).kind) [ inl h ↦ h.1 | inr h ↦ absurd (let f = both.0 in let g = h.0 in (let z : true ≡ false = sym f ∙ g in cc)) ],
      opposite_is (is_constructor t c) (is_constructor t d) both.1,
    )

pub is_matching : (t : Tables) (c d : ℕ) → IsMatching (signature_of t) c d → matching t c d ≡ true
is_matching t c d h =
    ap (λ z. z && are_opposite (is_constructor t c) (is_constructor t d)) (eq-eqb (port_at t c 0).kind (port_at t d 0).kind h.2)
    ∙ ap (λ z. are_opposite z (is_constructor t d)) h.0 ∙ ap (λ z. not z) h.1

-- the first of a rule's two symbols is the constructor
heads_match : (t : Tables) (r : SourceRule) (p : RuleParts) → p.heads ≡ written.heads_of t r → matching t p.heads.0.0 p.heads.1.0 ≡ true → IsMatching (signature_of t) p.heads.0.0 p.heads.1.0
heads_match t r p e m = subst (λ (h : SymbolNo × SymbolNo). IsMatching (signature_of t) h.0.0 h.1.0) (sym e) (go (is_constructor t (written.symbol_of t r.first)) refl (matching t (written.symbol_of t r.first) (written.symbol_of t r.second)) refl (subst (λ (h : SymbolNo × SymbolNo). matching t h.0.0 h.1.0 ≡ true) e m))
  where
    c : ℕ
    c = written.symbol_of t r.first

    d : ℕ
    d = written.symbol_of t r.second

    pick : Bool → SymbolNo × SymbolNo
    pick b = cond b ((written.written_of t r).1, (written.written_of t r).0) (written.written_of t r)

    at : (b : Bool) → written.is_turned t c d ≡ b → written.heads_of t r ≡ pick b
    at b h = ap pick h

    go : (k : Bool) → is_constructor t c ≡ k → (b : Bool) → matching t c d ≡ b → matching t (written.heads_of t r).0.0 (written.heads_of t r).1.0 ≡ true → IsMatching (signature_of t) (written.heads_of t r).0.0 (written.heads_of t r).1.0
    go true hk b hb m =
        let f : written.heads_of t r ≡ pick false = at false (ap (λ z. matching t c d && not z) hk ∙ and_false (matching t c d)) in
        let g : matching t c d ≡ true = subst (λ (h : SymbolNo × SymbolNo). matching t h.0.0 h.1.0 ≡ true) f m in
        let o = matching_is t c d g in
        subst (λ (h : SymbolNo × SymbolNo). IsMatching (signature_of t) h.0.0 h.1.0) (sym f) (hk, turned (is_constructor t c) (is_constructor t d) o.1 hk, o.0)
      where
        and_false : (b : Bool) → (b && false) ≡ false
        and_false true = refl
        and_false false = refl

        turned : (a b : Bool) → a ≡ not b → a ≡ true → b ≡ false
        turned a true e h = cc
        turned a false e h = refl
    go false hk true hb m =
        let f : written.heads_of t r ≡ pick true = at true (ap (λ z. z && not (is_constructor t c)) hb ∙ ap not hk) in
        let o = matching_is t c d hb in
        subst (λ (h : SymbolNo × SymbolNo). IsMatching (signature_of t) h.0.0 h.1.0) (sym f) (turned (is_constructor t c) (is_constructor t d) o.1 hk, hk, sym o.0)
      where
        turned : (a b : Bool) → a ≡ not b → a ≡ false → b ≡ true
        turned a true e h = refl
        turned a false e h = cc
    go false hk false hb m =
        let f : written.heads_of t r ≡ pick false = at false (ap (λ z. z && not (is_constructor t c)) hb) in
        let g : matching t c d ≡ true = subst (λ (h : SymbolNo × SymbolNo). matching t h.0.0 h.1.0 ≡ true) f m in
        absurd (let z : true ≡ false = sym g ∙ hb in cc)

-- ---- the program

module _ (limits : TextLimits) (text : List ℕ) (p : Program) (accepted : IsAccepted limits text p) where
  a : IsProgramOf limits text p
  a = program_of limits text p accepted

  numbered : AreNumbered p.tables
  numbered = tables_numbered a.source p.tables a.tabulates.0

  rule_kept : (i : ℕ) (r : RuleParts) → slice_get p.rules i ≡ Some r → IsSoundRule (system_of p) (rule_in r)
  rule_kept i r e =
      let b = a.builds_rules.each i r e in
      let of : IsRuleOf p.tables b.0 r = b.2.1 in
      let over : IsRuleOver p.tables r = b.2.0 in
      let whole : IsWhole r.member = of.member.whole in
      let fits = all_at (λ r. TypesRule p.tables r (Ok tt)) p.rules i r a.fits.0 e in
      let complete = rule_whole a.source.limits p.tables b.0 r b.2 in
      let c = at_index a.rule_certificates i (omega (arith, slice_get_within p.rules i r e, a.simple_rules.count)) in
      let k : CertifiesRule p.tables r (Ok c.0) = a.simple_rules.each i r c.0 e c.1 in
      let open_net = rules_open p.tables r c.0.shape numbered complete whole over k.0 in
      let heads : written.heads_of p.tables b.0 ≡ r.heads = sym of.heads in
      record {
        matching = heads_match p.tables b.0 r of.heads fits.0;
        net = is_net p.tables r.member whole over.member;
        within = λ x s h. below p.tables r.member.cells over.member.cells x s h;
        ends = length-map r.member.free (λ (f : FreeEnd). f.kind) ∙ complete.ends;
        declared = declared_at p.tables r 0 0 (of.member.types ∙ ap (λ (h : SymbolNo × SymbolNo). auxiliary_types p.tables h.0.0 ++ auxiliary_types p.tables h.1.0) heads);
        typed = net_typed p.tables r.member whole fits.1;
        no_circle = λ circle. no_circle p.tables r c.0.shape numbered complete whole over k.0 (derivation_builds c.0.shape open_net c.0.derivation.steps k.1.0)
            (rule_circle p.tables r c.0.shape numbered complete whole over.member over.built k.0 circle);
      }

  start_kept : IsSound (system_of p) (net_of p.net)
  start_kept =
      let over = a.builds.0 in
      let whole : IsWhole p.net = a.builds.1.whole in
      let k = a.simple_net in
      let open_net = opened_nets.is_open_net p.tables p.net a.net_certificate.shape numbered whole over k.0 in
      record {
        net = is_net p.tables p.net whole over;
        within = λ x s h. below p.tables p.net.cells over.cells x s h;
        typed = net_typed p.tables p.net whole a.fits.1;
        no_circle = λ circle. derivable_no_circle a.net_certificate.shape open_net (derivation_builds a.net_certificate.shape open_net a.net_certificate.derivation.steps k.1.0)
            (net_circle p.tables p.net a.net_certificate.shape numbered whole over k.0 circle);
      }

  -- one rule for two symbols, the constructor first
  covered : (c d : ℕ) → c < length p.tables.names → d < length p.tables.names → IsMatching (signature_of p.tables) c d → HasOneRule (system_of p) c d
  covered c d hc hd m =
      let complete : IsComplete p.tables p.rules = a.covers.0 in
      let k = complete.at_least_one c d (record { first = hc; second = hd; matched = is_matching p.tables c d m }) in
      let r = rule_kept k.0 k.1.rule k.1.stands in
      let first = in_order k.1.rule r.matching k.1.symbols in (
        k.0,
        (rule_in k.1.rule, to_mapped rule_in p.rules k.0 k.1.rule k.1.stands, first.0, first.1),
        λ j h. (
            let x = of_mapped rule_in p.rules j h.0 h.1 in
            complete.at_most_one c d j k.0 (record { rule = x.0; stands = x.1; symbols = inl (ap (λ (z : SystemRule). z.first) x.2 ∙ h.2, ap (λ (z : SystemRule). z.second) x.2 ∙ h.3) }) k.1
            ),
        λ j h. (
            let x = of_mapped rule_in p.rules j h.0 h.1 in
            let s = rule_kept j x.0 x.1 in
            let z : true ≡ false = sym s.matching.0 ∙ ap (λ z. (port_at p.tables z 0).output) (ap (λ (z : SystemRule). z.first) x.2 ∙ h.2) ∙ m.1 in
            cc
            ),
      )
    where
      in_order : (r : RuleParts) → IsMatching (signature_of p.tables) r.heads.0.0 r.heads.1.0 → ((r.heads.0.0 ≡ c) × (r.heads.1.0 ≡ d)) ⊎ ((r.heads.0.0 ≡ d) × (r.heads.1.0 ≡ c)) → (r.heads.0.0 ≡ c) × (r.heads.1.0 ≡ d)
      in_order r h (inl e) = e
      in_order r h (inr e) = absurd (let z : true ≡ false = sym h.0 ∙ ap (λ z. (port_at p.tables z 0).output) e.0 ∙ m.1 in cc)

  pub is_sound : IsSoundSystem (system_of p)
  is_sound = record {
    classes = tables_classed a.source p.tables a.tabulates.0;
    start = start_kept;
    rule = λ i r e. (let x = of_mapped rule_in p.rules i r e in subst (IsSoundRule (system_of p)) x.2 (rule_kept i x.0 x.1));
    covered = covered;
  }
