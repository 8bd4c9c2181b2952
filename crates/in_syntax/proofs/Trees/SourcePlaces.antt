-- At most one name or ~ begins at each byte of a text.
use Rattle.std.proofs.Common.{◌≡◌, ◌⊎◌, inl, inr, ℕ, zero, suc, ◌+◌, ◌≤◌, Bool, List, [], ◌∷◌, ◌++◌, length, map, refl, sym, ◌∙◌, ap, subst, arith, Option, Some, None}
use Rattle.std.specs.List.{AllByRecursion, flat_map}
use Rattle.in_syntax.specs.declared.counts.Counts.{Counts}
use Rattle.in_syntax.specs.declared.places.Place.{Place}
use Rattle.in_syntax.specs.declared.signs.Sign.{Sign}
use Rattle.in_syntax.specs.declared.signs.Sign.TheVariants.{Named, Tilde, Plain}
use Rattle.in_syntax.specs.declared.tree.Equation.{Equation}
use Rattle.in_syntax.specs.declared.tree.Head.{Head}
use Rattle.in_syntax.specs.declared.tree.Name.{Name}
use Rattle.in_syntax.specs.declared.tree.Source.{Source}
use Rattle.in_syntax.specs.declared.tree.SourceFree.{SourceFree}
use Rattle.in_syntax.specs.declared.tree.SourceNet.{SourceNet}
use Rattle.in_syntax.specs.declared.tree.SourcePort.{SourcePort}
use Rattle.in_syntax.specs.declared.tree.SourceRule.{SourceRule}
use Rattle.in_syntax.specs.declared.tree.SourceSymbol.{SourceSymbol}
use Rattle.in_syntax.specs.declared.tree.Term.{Term, out-Term}
use Rattle.in_syntax.specs.declared.words.Token.{Token}
use Rattle.in_syntax.specs.declared.words.TokenKind.{TokenKind}
use Rattle.in_syntax.specs.declared.words.TokenKind.TheVariants as kind
use Rattle.in_syntax.specs.Grammar.{Marked, Spelling, within, plain, separated, numbered, spell_level, spell_arguments, spell_term, spell_outermost, spell_head, named, word_at, spell_with, StandAfterWord, IsItem, spell_rule, spell_equation, spell_free, spell_net, spell_port, spell_auxiliary, spell_class, spell_classes, spell_symbol, spell_type, spell_types, Item, types, symbol, rule, none_yet, counted, spell_item, spell_items, types_in, symbols_in, rules_in, GrammarProgram, spelling, source_of}
use Rattle.in_syntax.specs.Order.{BeginApart, term_places, equation_places, head_places, symbol_places, rule_places, free_places, source_places}
use Rattle.in_syntax.specs.Parsing.{IsTreeOf}
use Rattle.in_syntax.specs.Programs.{sign_at, sign_of, signs_of, unmarked}
use Rattle.in_syntax.specs.Sizes.{names_in, total}
use Rattle.in_syntax.specs.Tokens.{StandsIn, StandInOrder}
use Rattle.in_syntax.proofs.Lexing.Standing.{tokens_stand, tokens_in_order}
use Rattle.in_base.specs.Lists.{IsAmong}
use Rattle.in_base.proofs.Among.{among_left, among_right, among_either, among_all, in_map, of_flat, of_map}
use Rattle.in_syntax.proofs.Trees.Ordered.{places_out}
use Rattle.in_syntax.proofs.Trees.Terms.{names_out, spell_out}
use Rattle.in_syntax.proofs.Grammar.Separated.{after}
use Rattle.in_syntax.specs.declared.text_limits.TextLimits.{TextLimits}

abbrev kept : Sign → List Place
kept (Named n) = n.place ∷ []
kept (Tilde p) = p ∷ []
kept (Plain k) = []

-- one of the signs keeps the place
record Spells (ms : Spelling) (p : Place) : Type 0 where
  one : Marked
  among : IsAmong one ms
  keeps : IsAmong p (kept one.sign)

on_left : (a b : Spelling) (p : Place) → Spells a p → Spells (a ++ b) p
on_left a b p h = record { one = h.one; among = among_left h.one a b h.among; keeps = h.keeps }

on_right : (a b : Spelling) (p : Place) → Spells b p → Spells (a ++ b) p
on_right a b p h = record { one = h.one; among = among_right h.one a b h.among; keeps = h.keeps }

on : (m : Marked) (b : Spelling) (p : Place) → Spells b p → Spells (m ∷ b) p
on m b p h = record { one = h.one; among = inr h.among; keeps = h.keeps }

here : (m : Marked) (b : Spelling) (p : Place) → IsAmong p (kept m.sign) → Spells (m ∷ b) p
here m b p h = record { one = m; among = inl refl; keeps = h }

in_commas : (bs : List Spelling) (b : Spelling) (p : Place) → IsAmong b bs → Spells b p → Spells (after bs) p
in_commas [] b p h k = absurd h
in_commas (c ∷ bs) b p (inl e) k = on (plain kind.Comma) (c ++ after bs) p (on_left c (after bs) p (subst (λ b. Spells b p) (sym e) k))
in_commas (c ∷ bs) b p (inr h) k = on (plain kind.Comma) (c ++ after bs) p (on_right c (after bs) p (in_commas bs b p h k))

in_separated : (bs : List Spelling) (b : Spelling) (p : Place) → IsAmong b bs → Spells b p → Spells (separated bs) p
in_separated [] b p h k = absurd h
in_separated (c ∷ bs) b p (inl e) k = on_left c (after bs) p (subst (λ b. Spells b p) (sym e) k)
in_separated (c ∷ bs) b p (inr h) k = on_right c (after bs) p (in_commas bs b p h k)

in_numbered : {A : Type 0} (f : ℕ → A → Spelling) (k : ℕ) (xs : List A) (x : A) → IsAmong x xs → (j : ℕ) × IsAmong (f j x) (numbered f k xs)
in_numbered f k [] x h = absurd h
in_numbered f k (y ∷ xs) x (inl e) = (k, inl (ap (f k) e))
in_numbered f k (y ∷ xs) x (inr h) = let r = in_numbered f (k + 1) xs x h in (r.0, inr r.1)

-- ---- terms

pub part_small : (us : List Term) (v : Term) → IsAmong v us → names_in v ≤ total (map names_in us)
part_small [] v h = absurd h
part_small (u ∷ us) v (inl e) = subst (λ v. names_in v ≤ names_in u + total (map names_in us)) e (omega arith)
part_small (u ∷ us) v (inr h) = let r = part_small us v h in omega (arith, r)

in_arguments : (bs : List Spelling) (b : Spelling) (p : Place) → IsAmong b bs → Spells b p → Spells (spell_arguments bs) p
in_arguments [] b p h k = absurd h
in_arguments (c ∷ bs) b p h k =
    on (plain kind.OpenParenthesis) (separated (c ∷ bs) ++ plain kind.CloseParenthesis ∷ []) p (on_left (separated (c ∷ bs)) (plain kind.CloseParenthesis ∷ []) p (in_separated (c ∷ bs) b p h k))

term_by : (h d : ℕ) (u : Term) (p : Place) → ((v : Term) → names_in v ≤ h → IsAmong p (term_places v) → Spells (spell_term v (d + 1)) p) → names_in u ≤ suc h →
    IsAmong p ((out-Term u).name.place ∷ flat_map (λ (ps : List Place). ps) (map term_places (out-Term u).args)) → Spells (spell_level (record { name = (out-Term u).name; args = map spell_term (out-Term u).args }) d) p
term_by h d u p ih le (inl e) = here _ _ p (inl e)
term_by h d u p ih le (inr k) =
    let ps = of_flat (λ (ps : List Place). ps) (map term_places (out-Term u).args) p k in
    let v = of_map term_places (out-Term u).args ps.0 ps.1 in
    let small = part_small (out-Term u).args v.0 v.1 in
    let e = names_out u in
    let lt : names_in v.0 ≤ h = omega (arith, small, e, le) in
    on _ _ p (in_arguments (map (λ (a : ℕ → Spelling). a (d + 1)) (map spell_term (out-Term u).args)) (spell_term v.0 (d + 1)) p
    (in_map (λ (a : ℕ → Spelling). a (d + 1)) (map spell_term (out-Term u).args) (spell_term v.0) (in_map spell_term (out-Term u).args v.0 v.1)) (ih v.0 lt (subst (IsAmong p) (sym v.2) ps.2)))

in_term : (h d : ℕ) (u : Term) (p : Place) → names_in u ≤ h → IsAmong p (term_places u) → Spells (spell_term u d) p
in_term zero d u p le k = absurd (let e = names_out u in omega (arith, le, e))
in_term (suc h) d u p le k = subst (λ (f : ℕ → Spelling). Spells (f d) p) (sym (spell_out u)) (term_by h d u p (λ v small among. in_term h (d + 1) v p small among) le (subst (IsAmong p) (places_out u) k))

term : (d : ℕ) (u : Term) (p : Place) → IsAmong p (term_places u) → Spells (spell_term u d) p
term d u p k = in_term (names_in u) d u p (omega arith) k

in_equation : (e : Equation) (p : Place) → IsAmong p (equation_places e) → Spells (spell_equation e) p
in_equation e p h = on_left (spell_term e.left 1 ++ within (Tilde e.tilde) ∷ spell_term e.right 1) (plain kind.Semicolon ∷ []) p (by_side (among_either p (term_places e.left) (e.tilde ∷ term_places e.right) h))
  where
    by_side : IsAmong p (term_places e.left) ⊎ IsAmong p (e.tilde ∷ term_places e.right) → Spells (spell_term e.left 1 ++ within (Tilde e.tilde) ∷ spell_term e.right 1) p
    by_side (inl a) = on_left (spell_term e.left 1) (within (Tilde e.tilde) ∷ spell_term e.right 1) p (term 1 e.left p a)
    by_side (inr (inl a)) = on_right (spell_term e.left 1) (within (Tilde e.tilde) ∷ spell_term e.right 1) p (here (within (Tilde e.tilde)) (spell_term e.right 1) p (inl a))
    by_side (inr (inr a)) = on_right (spell_term e.left 1) (within (Tilde e.tilde) ∷ spell_term e.right 1) p (on (within (Tilde e.tilde)) (spell_term e.right 1) p (term 1 e.right p a))

in_each : {A : Type 0} (f : A → Spelling) (g : A → List Place) (p : Place) → ((x : A) → IsAmong p (g x) → Spells (f x) p) → (xs : List A) → IsAmong p (flat_map g xs) → Spells (flat_map f xs) p
in_each f g p one [] h = absurd h
in_each f g p one (x ∷ xs) h = elim (among_either p (g x) (flat_map g xs) h) [ inl a ↦ on_left (f x) (flat_map f xs) p (one x a) | inr a ↦ on_right (f x) (flat_map f xs) p (in_each f g p one xs a) ]

in_head : (h : Head) (p : Place) → IsAmong p (head_places h) → Spells (spell_head h) p
in_head h p (inl e) = here _ _ p (inl e)
in_head h p (inr k) =
    let u = of_flat term_places h.terms p k in
    on _ _ p (on _ _ p (on_left (separated (map spell_outermost h.terms)) _ p (in_separated (map spell_outermost h.terms) (spell_outermost u.0) p (in_map spell_outermost h.terms u.0 u.1) (term 1 u.0 p u.2))))

in_with : (w : Option Place) (es : List Equation) (p : Place) → StandAfterWord w es → IsAmong p (flat_map equation_places es) → Spells (spell_with w es) p
in_with None es p none h = absurd (subst (λ z. IsAmong p (flat_map equation_places z)) none h)
in_with (Some w) es p some h =
    on (named (word_at w)) _ p (on (plain kind.OpenBrace) _ p (on_left (flat_map spell_equation es) (plain kind.CloseBrace ∷ []) p (in_each spell_equation equation_places p (λ e a. in_equation e p a) es h)))

in_rule : (limits : TextLimits) (k : ℕ) (w : Option Place) (r : SourceRule) (p : Place) → StandAfterWord w r.equations → IsAmong p (rule_places r) → Spells (spell_rule limits k w r) p
in_rule limits k w r p is h =
    on _ _ p (on_left (heads ++ spell_with w r.equations) (plain kind.Semicolon ∷ []) p (by_part (among_either p (head_places r.first ++ head_places r.second) (flat_map equation_places r.equations) h)))
  where
    heads : Spelling
    heads = spell_head r.first ++ plain kind.Meets ∷ spell_head r.second

    by_side : IsAmong p (head_places r.first) ⊎ IsAmong p (head_places r.second) → Spells heads p
    by_side (inl a) = on_left (spell_head r.first) (plain kind.Meets ∷ spell_head r.second) p (in_head r.first p a)
    by_side (inr a) = on_right (spell_head r.first) (plain kind.Meets ∷ spell_head r.second) p (on (plain kind.Meets) (spell_head r.second) p (in_head r.second p a))

    by_part : IsAmong p (head_places r.first ++ head_places r.second) ⊎ IsAmong p (flat_map equation_places r.equations) → Spells (heads ++ spell_with w r.equations) p
    by_part (inl a) = on_left heads (spell_with w r.equations) p (by_side (among_either p (head_places r.first) (head_places r.second) a))
    by_part (inr a) = on_right heads (spell_with w r.equations) p (in_with w r.equations p is a)

in_port : (past : Bool) (q : SourcePort) → Spells (spell_port past q) q.kind.place
in_port past q = here _ _ q.kind.place (inl refl)

in_classes : (k : ℕ) (cs : List (List SourcePort)) (c : List SourcePort) (q : SourcePort) → IsAmong c cs → IsAmong q c → Spells (spell_classes k cs) q.kind.place
in_classes k [] c q h g = absurd h
in_classes k (d ∷ cs) c q (inl e) g =
    let j = in_numbered spell_auxiliary k d q (subst (IsAmong q) (sym e) g) in
    on_left (spell_class k d) (spell_classes (k + length d) cs) q.kind.place
    (on _ _ q.kind.place (on_left (separated (numbered spell_auxiliary k d)) _ q.kind.place (in_separated (numbered spell_auxiliary k d) (spell_auxiliary j.0 q) q.kind.place j.1 (in_port _ q))))
in_classes k (d ∷ cs) c q (inr h) g = on_right (spell_class k d) (spell_classes (k + length d) cs) q.kind.place (in_classes (k + length d) cs c q h g)

in_symbol : (limits : TextLimits) (k : ℕ) (s : SourceSymbol) (p : Place) → IsAmong p (symbol_places s) → Spells (spell_symbol limits k s) p
in_symbol limits k s p (inl e) = on _ _ p (here _ _ p (inl e))
in_symbol limits k s p (inr (inl e)) = on _ _ p (on _ _ p (on _ _ p (on_left (spell_port _ s.port) _ p (subst (Spells (spell_port _ s.port)) e (in_port _ s.port)))))
in_symbol limits k s p (inr (inr h)) =
    let c = of_flat (λ (c : List SourcePort). map (λ (q : SourcePort). q.kind.place) c) s.classes p h in
    let q = of_map (λ (q : SourcePort). q.kind.place) c.0 p c.2 in
    on _ _ p (on _ _ p (on _ _ p (on_right (spell_port _ s.port) _ p (on_left (spell_classes 1 s.classes) _ p (subst (Spells (spell_classes 1 s.classes)) q.2 (in_classes 1 s.classes c.0 q.0 c.1 q.1))))))

in_types : (k : ℕ) (ns : List Name) (p : Place) → IsAmong p (map (λ (n : Name). n.place) ns) → Spells (spell_types k ns) p
in_types k ns p h =
    let n = of_map (λ (n : Name). n.place) ns p h in
    let j = in_numbered spell_type k ns n.0 n.1 in
    on _ _ p (on_left (separated (numbered spell_type k ns)) _ p (in_separated (numbered spell_type k ns) (spell_type j.0 n.0) p j.1 (here _ _ p (inl n.2))))

abbrev opened : SourceNet → Spelling
opened n = plain kind.CloseParenthesis ∷ plain kind.OpenBrace ∷ flat_map spell_equation n.equations

in_frees : (limits : TextLimits) (n : SourceNet) (p : Place) → IsAmong p (flat_map free_places n.free) → Spells (spell_net limits n) p
in_frees limits n p h =
    let f = of_flat free_places n.free p h in
    let j = in_numbered (spell_free limits) 1 n.free f.0 f.1 in
    on _ _ p (on _ _ p (on_left (separated (numbered (spell_free limits) 1 n.free) ++ opened n) (plain kind.CloseBrace ∷ []) p (on_left (separated (numbered (spell_free limits) 1 n.free)) (opened n) p (in_separated (numbered (spell_free limits) 1 n.free) (spell_free limits j.0 f.0) p j.1 (by_free j.0 f.0 f.2)))))
  where
    by_free : (j : ℕ) (f : SourceFree) → IsAmong p (free_places f) → Spells (spell_free limits j f) p
    by_free j f (inl e) = here _ _ p (inl e)
    by_free j f (inr (inl e)) = on _ _ p (on _ _ p (subst (Spells (spell_port _ f.port)) e (in_port _ f.port)))
    by_free j f (inr (inr k)) = absurd k

in_net : (limits : TextLimits) (n : SourceNet) (p : Place) → IsAmong p (flat_map free_places n.free) ⊎ IsAmong p (flat_map equation_places n.equations) → Spells (spell_net limits n) p
in_net limits n p (inl h) = in_frees limits n p h
in_net limits n p (inr h) = on _ _ p (on _ _ p (on_left (separated (numbered (spell_free limits) 1 n.free) ++ opened n) (plain kind.CloseBrace ∷ []) p (on_right (separated (numbered (spell_free limits) 1 n.free)) (opened n) p (on _ _ p (on _ _ p (in_each spell_equation equation_places p (λ e a. in_equation e p a) n.equations h))))))

-- ---- a program

in_items : (i : Item) (p : Place) → ((c : Counts) → Spells (spell_item c i) p) → (is : List Item) → IsAmong i is → (c : Counts) → Spells (spell_items c is) p
in_items i p one [] h c = absurd h
in_items i p one (j ∷ is) (inl e) c = on_left (spell_item c j) (spell_items (counted c j) is) p (subst (λ z. Spells (spell_item c z) p) (sym e) (one c))
in_items i p one (j ∷ is) (inr h) c = on_right (spell_item c j) (spell_items (counted c j) is) p (in_items i p one is h (counted c j))

type_item : (i : Item) (n : Name) → IsAmong n (types_in i) → (c : Counts) → Spells (spell_item c i) n.place
type_item (types ns) n h c = in_types (c.types + 1) ns n.place (in_map (λ (n : Name). n.place) ns n h)
type_item (symbol s) n h c = absurd h
type_item (rule w r) n h c = absurd h

symbol_item : (i : Item) (s : SourceSymbol) (p : Place) → IsAmong s (symbols_in i) → IsAmong p (symbol_places s) → (c : Counts) → Spells (spell_item c i) p
symbol_item (types ns) s p h k c = absurd h
symbol_item (symbol u) s p (inl e) k c = in_symbol c.limits (c.symbols + 1) u p (subst (λ s. IsAmong p (symbol_places s)) (sym e) k)
symbol_item (symbol u) s p (inr h) k c = absurd h
symbol_item (rule w r) s p h k c = absurd h

rule_item : (i : Item) (r : SourceRule) (p : Place) → IsItem i → IsAmong r (rules_in i) → IsAmong p (rule_places r) → (c : Counts) → Spells (spell_item c i) p
rule_item (types ns) r p is h k c = absurd h
rule_item (symbol s) r p is h k c = absurd h
rule_item (rule w u) r p is (inl e) k c = in_rule c.limits (c.rules + 1) w u p is (subst (λ r. IsAmong p (rule_places r)) (sym e) k)
rule_item (rule w u) r p is (inr h) k c = absurd h

in_program : (limits : TextLimits) (g : GrammarProgram) (p : Place) → IsAmong p (source_places (source_of limits g)) → Spells (spelling limits g) p
in_program limits g p h = by_types (among_either p (map (λ (n : Name). n.place) (flat_map types_in g.items)) _ h)
  where
    front : Spells (spell_items (none_yet limits) g.items) p → Spells (spelling limits g) p
    front h = on_left (spell_items (none_yet limits) g.items) (spell_net limits g.net) p h

    by_rules : IsAmong p (flat_map rule_places (flat_map rules_in g.items)) ⊎ IsAmong p (flat_map free_places g.net.free ++ flat_map equation_places g.net.equations) → Spells (spelling limits g) p
    by_rules (inl a) =
        let r = of_flat rule_places (flat_map rules_in g.items) p a in
        let i = of_flat rules_in g.items r.0 r.1 in
        front (in_items i.0 p (rule_item i.0 r.0 p (among_all IsItem g.items i.0 g.each i.1) i.2 r.2) g.items i.1 (none_yet limits))
    by_rules (inr a) = on_right (spell_items (none_yet limits) g.items) (spell_net limits g.net) p (in_net limits g.net p (among_either p (flat_map free_places g.net.free) (flat_map equation_places g.net.equations) a))

    by_symbols : IsAmong p (flat_map symbol_places (flat_map symbols_in g.items)) ⊎ IsAmong p (flat_map rule_places (flat_map rules_in g.items) ++ (flat_map free_places g.net.free ++ flat_map equation_places g.net.equations)) → Spells (spelling limits g) p
    by_symbols (inl a) =
        let s = of_flat symbol_places (flat_map symbols_in g.items) p a in
        let i = of_flat symbols_in g.items s.0 s.1 in
        front (in_items i.0 p (symbol_item i.0 s.0 p i.2 s.2) g.items i.1 (none_yet limits))
    by_symbols (inr a) = by_rules (among_either p (flat_map rule_places (flat_map rules_in g.items)) (flat_map free_places g.net.free ++ flat_map equation_places g.net.equations) a)

    by_types : IsAmong p (map (λ (n : Name). n.place) (flat_map types_in g.items)) ⊎ IsAmong p (flat_map symbol_places (flat_map symbols_in g.items) ++ (flat_map rule_places (flat_map rules_in g.items) ++ (flat_map free_places g.net.free ++ flat_map equation_places g.net.equations))) → Spells (spelling limits g) p
    by_types (inl a) =
        let n = of_map (λ (n : Name). n.place) (flat_map types_in g.items) p a in
        let i = of_flat types_in g.items n.0 n.1 in
        front (in_items i.0 p (λ c. subst (Spells (spell_item c i.0)) n.2 (type_item i.0 n.0 i.2 c)) g.items i.1 (none_yet limits))
    by_types (inr a) = by_symbols (among_either p (flat_map symbol_places (flat_map symbols_in g.items)) (flat_map rule_places (flat_map rules_in g.items) ++ (flat_map free_places g.net.free ++ flat_map equation_places g.net.equations)) a)

-- ---- tokens

abbrev IsPlaceOf : List Token → Place → Type 0
IsPlaceOf ts p = (t : Token) × IsAmong t ts × (t.place ≡ p)

sign_place : (text : List ℕ) (k : TokenKind) (at p : Place) → IsAmong p (kept (sign_at text k at)) → at ≡ p
sign_place text kind.Name at p (inl e) = e
sign_place text kind.Name at p (inr h) = absurd h
sign_place text kind.Tilde at p (inl e) = e
sign_place text kind.Tilde at p (inr h) = absurd h
sign_place text _ at p h = absurd h

of_tokens : (text : List ℕ) (ts : List Token) (p : Place) → Spells (unmarked (signs_of text ts)) p → IsPlaceOf ts p
of_tokens text ts p h =
    let s = of_map within (signs_of text ts) h.one h.among in
    let t = of_map (sign_of text) ts s.0 s.1 in
    (t.0, t.1, sign_place text t.0.kind t.0.place p (subst (λ z. IsAmong p (kept z)) (sym (t.2 ∙ ap (λ (m : Marked). m.sign) s.2)) h.keeps))

later : (text : List ℕ) (n : ℕ) (ts : List Token) (t : Token) → StandInOrder n ts → AllByRecursion (StandsIn text) ts → IsAmong t ts → n ≤ t.place.from
later text n [] t order all h = absurd h
later text n (u ∷ ts) t order all (inl e) = subst (λ (t : Token). n ≤ t.place.from) e order.0
later text n (u ∷ ts) t order all (inr h) = let a = order.0 in let b = all.0.some in let c = later text u.place.to ts t order.1 all.1 h in omega (arith, a, b, c)

one_token : (text : List ℕ) (n : ℕ) (ts : List Token) (t u : Token) → StandInOrder n ts → AllByRecursion (StandsIn text) ts → IsAmong t ts → IsAmong u ts → t.place.from ≡ u.place.from → t.place ≡ u.place
one_token text n [] t u order all h k e = absurd h
one_token text n (v ∷ ts) t u order all (inl a) (inl c) e = ap (λ (t : Token). t.place) (sym a ∙ c)
one_token text n (v ∷ ts) t u order all (inl a) (inr k) e =
    let x = later text v.place.to ts u order.1 all.1 k in let y = all.0.some in let z : v.place.from ≡ t.place.from = ap (λ (t : Token). t.place.from) a in absurd (omega (arith, x, y, z, e))
one_token text n (v ∷ ts) t u order all (inr h) (inl c) e =
    let x = later text v.place.to ts t order.1 all.1 h in let y = all.0.some in let z : v.place.from ≡ u.place.from = ap (λ (t : Token). t.place.from) c in absurd (omega (arith, x, y, z, e))
one_token text n (v ∷ ts) t u order all (inr h) (inr k) e = one_token text v.place.to ts t u order.1 all.1 h k e

pub texts_begin_apart : (limits : TextLimits) (text : List ℕ) (s : Source) → IsTreeOf limits text s → BeginApart (source_places s)
texts_begin_apart limits text s tree p q h k e =
    let there : (p : Place) → IsAmong p (source_places s) → IsPlaceOf tree.tokens p = λ p h.
    of_tokens text tree.tokens p (subst (λ ms. Spells ms p) tree.tree.1 (in_program limits tree.tree.0 p (subst (λ s. IsAmong p (source_places s)) (sym tree.tree.2) h))) in
    let t = there p h in
    let u = there q k in
    sym t.2 ∙ one_token text 0 tree.tokens t.0 u.0 (tokens_in_order limits text tree.tokens tree.read) (tokens_stand limits text tree.tokens tree.read) t.1 u.1 (ap (λ (p : Place). p.from) t.2 ∙ e ∙ sym (ap (λ (p : Place). p.from) u.2)) ∙ u.2
