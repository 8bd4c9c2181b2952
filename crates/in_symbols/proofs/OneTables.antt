-- Building the tables of a program has one result.
use Rattle.std.proofs.Common.{◌≡◌, ◌⊎◌, inl, inr, List, [], ◌∷◌, ◌++◌, map, Ok, Err, refl, sym, ◌∙◌, ap, subst, arith}
use Rattle.std.specs.List.{flat_map}
use Rattle.in_syntax.specs.declared.faults.Code.{Code}
use Rattle.in_syntax.specs.declared.faults.Code.TheVariants.{E04, E05, E06}
use Rattle.in_syntax.specs.declared.faults.Fault.TheVariants.{Refused, Memory}
use Rattle.in_syntax.specs.declared.places.Place.{Place}
use Rattle.in_syntax.specs.declared.tree.Equation.{Equation}
use Rattle.in_syntax.specs.declared.tree.Head.{Head}
use Rattle.in_syntax.specs.declared.tree.Name.{Name}
use Rattle.in_syntax.specs.declared.tree.Source.{Source}
use Rattle.in_syntax.specs.declared.tree.SourceFree.{SourceFree}
use Rattle.in_syntax.specs.declared.tree.SourcePort.{SourcePort}
use Rattle.in_syntax.specs.declared.tree.SourceRule.{SourceRule}
use Rattle.in_syntax.specs.declared.tree.SourceSymbol.{SourceSymbol}
use Rattle.in_syntax.specs.declared.tree.Term.{Term, out-Term}
use Rattle.in_syntax.specs.Order.{BeginApart, term_places, equation_places, head_places, symbol_places, rule_places, free_places, source_places}
use Rattle.in_base.specs.Lists.{AnyByRecursion}
use Rattle.in_syntax.proofs.Public.{both_first, IsOneOf, code_is, places_out, same_refusal}
use Rattle.in_symbols.specs.Faults.{IsSymbolName, HasPartIn, IsRepeatedAt, IsDeclaredTwiceAt, type_twice, symbol_twice, free_twice, free_symbol, IsUntypedAt, IsUnknownTypeAt, of_principal, of_auxiliary, of_free, HasPart, itself, argument, IsUnknownHead, OfAHead, IsUnknownHeadAt, in_equation, in_rule_equation, of_head, in_head, IsFaultAt, declared_twice, unknown_type, unknown_symbol}
use Rattle.in_symbols.specs.Tables.{Tabulates}
use Rattle.in_syntax.specs.Answers.{IsOne}
use Rattle.in_base.specs.Lists.{IsAmong}
use Rattle.in_base.proofs.Among.{among_left, among_right, in_flat, in_map, of_map}

pub any_among : {X : Type 0} (P : X → Type 0) (xs : List X) → AnyByRecursion P xs → (x : X) × IsAmong x xs × P x
any_among P [] h = absurd h
any_among P (x ∷ xs) (inl h) = (x, inl refl, h)
any_among P (x ∷ xs) (inr h) = let r = any_among P xs h in (r.0, inr r.1, r.2)

repeated : (ns : List Name) (p : Place) → IsRepeatedAt ns p → (n : Name) × IsAmong n ns × (n.place ≡ p)
repeated [] p h = absurd h
repeated (n ∷ ns) p (inl h) = let r = any_among (λ (m : Name). (m.text ≡ n.text) × (m.place ≡ p)) ns h in (r.0, inr r.1, r.2.1)
repeated (n ∷ ns) p (inr h) = let r = repeated ns p h in (r.0, inr r.1, r.2)

in_term : (s : Source) (p : Place) (t : Term) → HasPart (IsUnknownHead s p) t → IsAmong p (term_places t)
in_term s p _ (itself t h) = subst (IsAmong p) (sym (places_out t)) (inl h.place)
in_term s p _ (argument t a among h) =
    let at = any_among (λ (b : Term). b ≡ a) (out-Term t).args among in
    let there : IsAmong (term_places a) (map term_places (out-Term t).args) = in_map term_places (out-Term t).args a (subst (λ z. IsAmong z (out-Term t).args) at.2 at.1) in
    subst (IsAmong p) (sym (places_out t)) (inr (in_flat (λ (ps : List Place). ps) (map term_places (out-Term t).args) (term_places a) p there (in_term s p a h)))

module _ (s : Source) where
  abbrev in_nets : List Place
  in_nets = flat_map free_places s.net.free ++ flat_map equation_places s.net.equations

  abbrev in_rules : List Place
  in_rules = flat_map rule_places s.rules ++ in_nets

  abbrev in_symbols : List Place
  in_symbols = flat_map symbol_places s.symbols ++ in_rules

  at_symbol : (d : SourceSymbol) (p : Place) → IsAmong d s.symbols → IsAmong p (symbol_places d) → IsAmong p (source_places s)
  at_symbol d p among h = among_right p (map (λ (n : Name). n.place) s.types) in_symbols (among_left p (flat_map symbol_places s.symbols) in_rules (in_flat symbol_places s.symbols d p among h))

  at_rule : (r : SourceRule) (p : Place) → IsAmong r s.rules → IsAmong p (rule_places r) → IsAmong p (source_places s)
  at_rule r p among h =
      among_right p (map (λ (n : Name). n.place) s.types) in_symbols (among_right p (flat_map symbol_places s.symbols) in_rules (among_left p (flat_map rule_places s.rules) in_nets (in_flat rule_places s.rules r p among h)))

  at_net : (p : Place) → IsAmong p in_nets → IsAmong p (source_places s)
  at_net p h = among_right p (map (λ (n : Name). n.place) s.types) in_symbols (among_right p (flat_map symbol_places s.symbols) in_rules (among_right p (flat_map rule_places s.rules) in_nets h))

  pub at_free : (f : SourceFree) (p : Place) → IsAmong f s.net.free → IsAmong p (free_places f) → IsAmong p (source_places s)
  at_free f p among h = at_net p (among_left p (flat_map free_places s.net.free) (flat_map equation_places s.net.equations) (in_flat free_places s.net.free f p among h))

  pub at_equations : (p : Place) → IsAmong p (flat_map equation_places s.net.equations) → IsAmong p (source_places s)
  at_equations p h = at_net p (among_right p (flat_map free_places s.net.free) (flat_map equation_places s.net.equations) h)

  head_at : (r : SourceRule) (P : Head → Type 0) (p : Place) → IsAmong r s.rules → ((h : Head) → P h → IsAmong p (head_places h)) → OfAHead P r → IsAmong p (source_places s)
  head_at r P p among on (inl h) = at_rule r p among (among_left p (head_places r.first ++ head_places r.second) (flat_map equation_places r.equations) (among_left p (head_places r.first) (head_places r.second) (on r.first h)))
  head_at r P p among on (inr h) = at_rule r p among (among_left p (head_places r.first ++ head_places r.second) (flat_map equation_places r.equations) (among_right p (head_places r.first) (head_places r.second) (on r.second h)))

  twice : (p : Place) → IsDeclaredTwiceAt s p → IsAmong p (source_places s)
  twice p (type_twice h) =
      let n = repeated s.types p h in
      among_left p (map (λ (n : Name). n.place) s.types) in_symbols (subst (λ p. IsAmong p (map (λ (n : Name). n.place) s.types)) n.2 (in_map (λ (n : Name). n.place) s.types n.0 n.1))
  twice p (symbol_twice h) =
      let n = repeated (map (λ (d : SourceSymbol). d.name) s.symbols) p h in
      let d = of_map (λ (d : SourceSymbol). d.name) s.symbols n.0 n.1 in
      at_symbol d.0 p d.1 (inl (ap (λ (n : Name). n.place) d.2 ∙ n.2))
  twice p (free_twice h) =
      let n = repeated (map (λ (f : SourceFree). f.name) s.net.free) p h in
      let f = of_map (λ (f : SourceFree). f.name) s.net.free n.0 n.1 in
      at_free f.0 p f.1 (inl (ap (λ (n : Name). n.place) f.2 ∙ n.2))
  twice p (free_symbol h) = let f = any_among (λ (f : SourceFree). IsSymbolName s f.name.text × (f.name.place ≡ p)) s.net.free h in at_free f.0 p f.1 (inl f.2.1)

  untyped : (p : Place) → IsUnknownTypeAt s p → IsAmong p (source_places s)
  untyped p (of_principal h) = let d = any_among (λ (d : SourceSymbol). IsUntypedAt s p d.port) s.symbols h in at_symbol d.0 p d.1 (inr (inl d.2.1))
  untyped p (of_auxiliary h) =
      let d = any_among (λ (d : SourceSymbol). AnyByRecursion (AnyByRecursion (IsUntypedAt s p)) d.classes) s.symbols h in
      let c = any_among (AnyByRecursion (IsUntypedAt s p)) d.0.classes d.2 in
      let q = any_among (IsUntypedAt s p) c.0 c.2 in
      at_symbol d.0 p d.1 (inr (inr (in_flat (λ (c : List SourcePort). map (λ (q : SourcePort). q.kind.place) c) d.0.classes c.0 p c.1
      (subst (λ p. IsAmong p (map (λ (q : SourcePort). q.kind.place) c.0)) q.2.1 (in_map (λ (q : SourcePort). q.kind.place) c.0 q.0 q.1)))))
  untyped p (of_free h) = let f = any_among (λ (f : SourceFree). IsUntypedAt s p f.port) s.net.free h in at_free f.0 p f.1 (inr (inl f.2.1))

  either : (e : Equation) (p : Place) → HasPart (IsUnknownHead s p) e.left ⊎ HasPart (IsUnknownHead s p) e.right → IsAmong p (equation_places e)
  either e p (inl h) = among_left p (term_places e.left) (e.tilde ∷ term_places e.right) (in_term s p e.left h)
  either e p (inr h) = among_right p (term_places e.left) (e.tilde ∷ term_places e.right) (inr (in_term s p e.right h))

  headless : (p : Place) → IsUnknownHeadAt s p → IsAmong p (source_places s)
  headless p (in_equation h) =
      let e = any_among (λ (e : Equation). HasPart (IsUnknownHead s p) e.left ⊎ HasPart (IsUnknownHead s p) e.right) s.net.equations h in
      at_equations p (in_flat equation_places s.net.equations e.0 p e.1 (either e.0 p e.2))
  headless p (in_rule_equation h) =
      let r = any_among (λ (r : SourceRule). HasPartIn (IsUnknownHead s p) r.equations) s.rules h in
      let e = any_among (λ (e : Equation). HasPart (IsUnknownHead s p) e.left ⊎ HasPart (IsUnknownHead s p) e.right) r.0.equations r.2 in
      at_rule r.0 p r.1 (among_right p (head_places r.0.first ++ head_places r.0.second) (flat_map equation_places r.0.equations) (in_flat equation_places r.0.equations e.0 p e.1 (either e.0 p e.2)))
  headless p (of_head h) =
      let r = any_among (OfAHead (λ (h : Head). (IsSymbolName s h.name.text → ⊥) × (h.name.place ≡ p))) s.rules h in
      head_at r.0 (λ (h : Head). (IsSymbolName s h.name.text → ⊥) × (h.name.place ≡ p)) p r.1 (λ h k. inl k.1) r.2
  headless p (in_head h) =
      let r = any_among (OfAHead (λ (h : Head). AnyByRecursion (HasPart (IsUnknownHead s p)) h.terms)) s.rules h in
      head_at r.0 (λ (h : Head). AnyByRecursion (HasPart (IsUnknownHead s p)) h.terms) p r.1 (λ h k. let t = any_among (HasPart (IsUnknownHead s p)) h.terms k in inr (in_flat term_places h.terms t.0 p t.1 (in_term s p t.0 t.2))) r.2

  table_fault : (c : Code) (p : Place) → IsFaultAt s c p → IsOneOf E04 E05 E06 c × IsAmong p (source_places s)
  table_fault _ _ (declared_twice p h) = (inl refl, twice p h)
  table_fault _ _ (unknown_type p h) = (inr (inl refl), untyped p h)
  table_fault _ _ (unknown_symbol p h) = (inr (inr refl), headless p h)

  pub one_tables : BeginApart (source_places s) → IsOne (Tabulates s)
  one_tables apart (Ok t) (Ok u) h k = h.0.tables ∙ sym k.0.tables
  one_tables apart (Ok t) (Err (Refused r)) h k = h.1 r.code r.place k.0.stands
  one_tables apart (Ok t) (Err (Memory e)) h k = tt
  one_tables apart (Err (Refused q)) (Ok u) h k = k.1 q.code q.place h.0.stands
  one_tables apart (Err (Refused q)) (Err (Refused r)) h k =
      let a = table_fault q.code q.place h.0.stands in
      let e = table_fault r.code r.place k.0.stands in
      let both = both_first q.code r.code q.place r.place (h.0.first r.code r.place k.0.stands) (k.0.first q.code q.place h.0.stands) in
      same_refusal q r (code_is E04 E05 E06 (omega arith) (omega arith) q.code r.code a.0 e.0 both.1) (apart q.place r.place a.1 e.1 both.0) (h.1 ∙ sym k.1)
  one_tables apart (Err (Refused q)) (Err (Memory e)) h k = tt
  one_tables apart (Err (Memory e)) b h k = tt
