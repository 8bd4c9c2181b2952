-- From every reader on, some signs end a program.
use Rattle.std.proofs.Common.{◌≡◌, ℕ, ◌+◌, Bool, true, false, nat_lt, List, [], ◌∷◌, ◌++◌, length, refl, ap}
use Rattle.in_syntax.specs.declared.words.TokenKind.TheVariants as kind
use Rattle.in_syntax.specs.declared.signs.Sign.{Sign}
use Rattle.in_syntax.specs.declared.signs.Sign.TheVariants.{Named, Tilde, Plain}
use Rattle.in_syntax.specs.declared.places.Place.{Place}
use Rattle.in_syntax.specs.declared.tree.Name.{Name}
use Rattle.in_syntax.specs.declared.tree.SourcePort.{SourcePort}
use Rattle.in_syntax.specs.declared.tree.SourceSymbol.{SourceSymbol}
use Rattle.in_syntax.specs.declared.tree.Head.{Head}
use Rattle.in_syntax.specs.declared.tree.SourceFree.{SourceFree}
use Rattle.in_syntax.specs.declared.tree.SourceNet.{SourceNet}
use Rattle.in_syntax.specs.declared.tree.SourceRule.{SourceRule}
use Rattle.in_syntax.specs.declared.tree.Term.{Term}
use Rattle.in_syntax.specs.declared.reader.Reader.{Reader}
use Rattle.in_syntax.specs.declared.states.State.{State}
use Rattle.in_syntax.specs.declared.states.State.TheVariants as state
use Rattle.in_syntax.specs.declared.states.PortOf.{PortOf}
use Rattle.in_syntax.specs.declared.states.PortOf.TheVariants.{Principal, Auxiliary, Free}
use Rattle.in_syntax.specs.declared.states.HeadOf.{HeadOf}
use Rattle.in_syntax.specs.declared.states.HeadOf.TheVariants.{First, Second}
use Rattle.in_syntax.specs.declared.states.TermOf.{TermOf}
use Rattle.in_syntax.specs.declared.states.TermOf.TheVariants.{Left, Right, Inside}
use Rattle.in_syntax.specs.declared.states.Nest.{Nest}
use Rattle.in_syntax.specs.declared.states.EquationsOf.{EquationsOf}
use Rattle.in_syntax.specs.declared.states.EquationsOf.TheVariants as body
use Rattle.in_syntax.specs.TextLimits.{max_symbols, max_free}
use Rattle.in_syntax.specs.Grammar.{Spelling, marked, max_types, max_ports, max_depth}
use Rattle.in_syntax.specs.Steps.{at_term_end, after_port, body_with, step, at_state, with_types, with_symbol, with_rule, counts_of}
use Rattle.in_syntax.specs.Trees.{bare, bare_head, bare_rule, with_argument, with_class, with_term}
use Rattle.in_syntax.proofs.Grammar.Paths.{turns, turn_of, turn, Path}
use Rattle.in_syntax.proofs.Grammar.Complete.{IsPast, open_past}

pub record CanEnd (r : Reader) : Type 0 where
  pub more : Spelling
  pub last : Reader
  pub net : SourceNet
  pub path : Path r more last
  pub done : last.state ≡ state.Done net

by_sign : (r next : Reader) (past : Bool) (x : Sign) → turn r x ≡ turns past next → CanEnd next → CanEnd r
by_sign r next past x e c = record { more = marked past x ∷ c.more; last = c.last; net = c.net; path = (next, e, c.path); done = c.done }

-- any name, and any place
abbrev some_place : Place
some_place = record { from = 0; to = 0; line = 0; col = 0 }

abbrev some_name : Name
some_name = record { text = []; place = some_place }

at_done : (r : Reader) (n : SourceNet) → CanEnd (at_state r (state.Done n))
at_done r n = record { more = []; last = at_state r (state.Done n); net = n; path = refl; done = refl }

-- ---- the net

at_net_equation : (r : Reader) (n : SourceNet) → CanEnd (at_state r (state.Equation (body.Net n)))
at_net_equation r n = by_sign (at_state r (state.Equation (body.Net n))) (at_state r (state.Done n)) false (Plain kind.CloseBrace) refl (at_done r n)

at_body_open : (r : Reader) (fs : List SourceFree) → CanEnd (at_state r (state.BodyOpen fs))
at_body_open r fs =
    by_sign (at_state r (state.BodyOpen fs)) (at_state r (state.Equation (body.Net (record { free = fs; equations = [] })))) false (Plain kind.OpenBrace) refl (at_net_equation r (record { free = fs; equations = [] }))

at_free_end : (r : Reader) (fs : List SourceFree) → CanEnd (at_state r (state.FreeEnd fs))
at_free_end r fs = by_sign (at_state r (state.FreeEnd fs)) (at_state r (state.BodyOpen fs)) false (Plain kind.CloseParenthesis) refl (at_body_open r fs)

at_free_first : (r : Reader) → CanEnd (at_state r state.FreeFirst)
at_free_first r = by_sign (at_state r state.FreeFirst) (at_state r (state.BodyOpen [])) false (Plain kind.CloseParenthesis) refl (at_body_open r [])

at_net_open : (r : Reader) → CanEnd (at_state r state.NetOpen)
at_net_open r = by_sign (at_state r state.NetOpen) (at_state r state.FreeFirst) false (Plain kind.OpenParenthesis) refl (at_free_first r)

-- ---- items and ports

at_item : (r : Reader) → CanEnd (at_state r state.Item)
at_item r = by_sign (at_state r state.Item) (at_state r state.NetOpen) false (Plain kind.Net) refl (at_net_open r)

at_symbol_end : (r : Reader) (s : SourceSymbol) (number : ℕ) → CanEnd (at_state r (state.SymbolEnd s number))
at_symbol_end r s number = by_sign (at_state r (state.SymbolEnd s number)) (with_symbol r s) false (Plain kind.Semicolon) refl (at_item (with_symbol r s))

at_class_end : (r : Reader) (s : SourceSymbol) (c : List SourcePort) (number : ℕ) → CanEnd (at_state r (state.ClassEnd s c number))
at_class_end r s c number =
    by_sign (at_state r (state.ClassEnd s c number)) (at_state r (state.SymbolEnd (with_class s c) number)) false (Plain kind.CloseBrace) refl (at_symbol_end r (with_class s c) number)

at_after_port : (r : Reader) (o : PortOf) (p : SourcePort) → CanEnd (at_state r (after_port o p))
at_after_port r (Principal n) p = at_symbol_end r (record { name = n; port = p; classes = [] }) 1
at_after_port r (Auxiliary s c number) p = at_class_end r s (c ++ p ∷ []) number
at_after_port r (Free fs n) p = at_free_end r (fs ++ (record { name = n; port = p }) ∷ [])

at_port_sign : (r : Reader) (o : PortOf) (k : Name) → CanEnd (at_state r (state.PortSign o k))
at_port_sign r o k =
    by_sign (at_state r (state.PortSign o k)) (at_state r (after_port o (record { kind = k; output = true }))) false (Plain kind.Plus) refl (at_after_port r o (record { kind = k; output = true }))

at_port_kind : (r : Reader) (o : PortOf) → CanEnd (at_state r (state.PortKind o))
at_port_kind r (Principal n) = by_sign (at_state r (state.PortKind (Principal n))) (at_state r (state.PortSign (Principal n) some_name)) false (Named some_name) refl (at_port_sign r (Principal n) some_name)
at_port_kind r (Auxiliary s c number) =
    by_sign (at_state r (state.PortKind (Auxiliary s c number))) (at_state r (state.PortSign (Auxiliary s c (number + 1)) some_name)) (nat_lt max_ports number) (Named some_name) refl (at_port_sign r (Auxiliary s c (number + 1)) some_name)
at_port_kind r (Free fs n) = by_sign (at_state r (state.PortKind (Free fs n))) (at_state r (state.PortSign (Free fs n) some_name)) false (Named some_name) refl (at_port_sign r (Free fs n) some_name)

at_symbol_colon : (r : Reader) (n : Name) → CanEnd (at_state r (state.SymbolColon n))
at_symbol_colon r n = by_sign (at_state r (state.SymbolColon n)) (at_state r (state.PortKind (Principal n))) false (Plain kind.Colon) refl (at_port_kind r (Principal n))

at_symbol_name : (r : Reader) → CanEnd (at_state r state.SymbolName)
at_symbol_name r =
    by_sign (at_state r state.SymbolName) (at_state r (state.SymbolColon some_name)) (nat_lt (max_symbols r.limits) (length r.symbols + 1)) (Named some_name) refl (at_symbol_colon r some_name)

at_free_colon : (r : Reader) (fs : List SourceFree) (n : Name) → CanEnd (at_state r (state.FreeColon fs n))
at_free_colon r fs n = by_sign (at_state r (state.FreeColon fs n)) (at_state r (state.PortKind (Free fs n))) false (Plain kind.Colon) refl (at_port_kind r (Free fs n))

at_free_name : (r : Reader) (fs : List SourceFree) → CanEnd (at_state r (state.FreeName fs))
at_free_name r fs =
    by_sign (at_state r (state.FreeName fs)) (at_state r (state.FreeColon fs some_name)) (nat_lt (max_free r.limits) (1 + length fs)) (Named some_name) refl (at_free_colon r fs some_name)

at_type_end : (r : Reader) (names : List Name) → CanEnd (at_state r (state.TypeEnd names))
at_type_end r names = by_sign (at_state r (state.TypeEnd names)) (with_types r names) false (Plain kind.Semicolon) refl (at_item (with_types r names))

at_type_name : (r : Reader) (names : List Name) → CanEnd (at_state r (state.TypeName names))
at_type_name r names =
    by_sign (at_state r (state.TypeName names)) (at_state r (state.TypeEnd (names ++ some_name ∷ []))) (nat_lt max_types ((length r.types + 1) + length names)) (Named some_name) refl (at_type_end r (names ++ some_name ∷ []))

-- ---- rules

at_second_end : (r : Reader) (f h : Head) → CanEnd (at_state r (state.HeadEnd (Second f) h))
at_second_end r f h =
    by_sign (at_state r (state.HeadEnd (Second f) h)) (with_rule r (bare_rule f h)) false (Plain kind.Semicolon) refl (at_item (with_rule r (bare_rule f h)))

at_second_first : (r : Reader) (f : Head) (n : Name) → CanEnd (at_state r (state.HeadFirst (Second f) n))
at_second_first r f n =
    by_sign (at_state r (state.HeadFirst (Second f) n)) (at_state r (state.HeadEnd (Second f) (bare_head n))) false (Plain kind.CloseBracket) refl (at_second_end r f (bare_head n))

at_second_open : (r : Reader) (f : Head) (n : Name) → CanEnd (at_state r (state.HeadOpen (Second f) n))
at_second_open r f n = by_sign (at_state r (state.HeadOpen (Second f) n)) (at_state r (state.HeadFirst (Second f) n)) false (Plain kind.OpenBracket) refl (at_second_first r f n)

at_second_name : (r : Reader) (f : Head) → CanEnd (at_state r (state.HeadName (Second f)))
at_second_name r f = by_sign (at_state r (state.HeadName (Second f))) (at_state r (state.HeadOpen (Second f) some_name)) false (Named some_name) refl (at_second_open r f some_name)

at_head_end : (r : Reader) (o : HeadOf) (h : Head) → CanEnd (at_state r (state.HeadEnd o h))
at_head_end r First h = by_sign (at_state r (state.HeadEnd First h)) (at_state r (state.HeadName (Second h))) false (Plain kind.Meets) refl (at_second_name r h)
at_head_end r (Second f) h = at_second_end r f h

at_head_first : (r : Reader) (o : HeadOf) (n : Name) → CanEnd (at_state r (state.HeadFirst o n))
at_head_first r o n =
    by_sign (at_state r (state.HeadFirst o n)) (at_state r (state.HeadEnd o (bare_head n))) false (Plain kind.CloseBracket) refl (at_head_end r o (bare_head n))

at_head_open : (r : Reader) (o : HeadOf) (n : Name) → CanEnd (at_state r (state.HeadOpen o n))
at_head_open r o n = by_sign (at_state r (state.HeadOpen o n)) (at_state r (state.HeadFirst o n)) false (Plain kind.OpenBracket) refl (at_head_first r o n)

at_head_name : (r : Reader) (o : HeadOf) → CanEnd (at_state r (state.HeadName o))
at_head_name r o = by_sign (at_state r (state.HeadName o)) (at_state r (state.HeadOpen o some_name)) false (Named some_name) refl (at_head_open r o some_name)

at_rule_close : (r : Reader) (y : SourceRule) (p : Place) → CanEnd (at_state r (state.RuleClose y p))
at_rule_close r y p = by_sign (at_state r (state.RuleClose y p)) (with_rule r y) false (Plain kind.Semicolon) refl (at_item (with_rule r y))

at_equation : (r : Reader) (b : EquationsOf) → CanEnd (at_state r (state.Equation b))
at_equation r (body.Net n) = at_net_equation r n
at_equation r (body.Rule y p) = by_sign (at_state r (state.Equation (body.Rule y p))) (at_state r (state.RuleClose y p)) false (Plain kind.CloseBrace) refl (at_rule_close r y p)

at_rule_open : (r : Reader) (f h : Head) (p : Place) → CanEnd (at_state r (state.RuleOpen f h p))
at_rule_open r f h p =
    by_sign (at_state r (state.RuleOpen f h p)) (at_state r (state.Equation (body.Rule (bare_rule f h) p))) false (Plain kind.OpenBrace) refl (at_equation r (body.Rule (bare_rule f h) p))

-- ---- terms: a state after a whole term, which is left as its end is

abbrev ActsAs : Reader → State → Nest → Term → Type 0
ActsAs r p b t = (x : Sign) → IsPast x → step (counts_of r) p x ≡ at_term_end b t x

abbrev nest : TermOf → List Term → Nest
nest of around = record { of = of; around = around }

after_right : (r : Reader) (p : State) (b : EquationsOf) (l t : Term) (tilde : Place) → ActsAs r p (nest (Right b l tilde) []) t → CanEnd (at_state r p)
after_right r p b l t tilde acts =
    by_sign (at_state r p) (at_state r (state.Equation (body_with b (record { left = l; tilde = tilde; right = t })))) false (Plain kind.Semicolon)
    (ap (turn_of r) (acts (Plain kind.Semicolon) tt)) (at_equation r (body_with b (record { left = l; tilde = tilde; right = t })))

-- a name on the right
at_right : (r : Reader) (b : EquationsOf) (l : Term) (tilde : Place) → CanEnd (at_state r (state.TermName (nest (Right b l tilde) [])))
at_right r b l tilde =
    by_sign (at_state r (state.TermName (nest (Right b l tilde) []))) (at_state r (state.TermOpen (nest (Right b l tilde) []) some_name)) false (Named some_name) refl
    (after_right r (state.TermOpen (nest (Right b l tilde) []) some_name) b l (bare some_name) tilde (open_past (nest (Right b l tilde) []) some_name))

after_outermost : (r : Reader) (p : State) (of : TermOf) (t : Term) → ActsAs r p (nest of []) t → CanEnd (at_state r p)
after_outermost r p (Left b) t acts =
    by_sign (at_state r p) (at_state r (state.TermName (nest (Right b t some_place) []))) false (Tilde some_place) (ap (turn_of r) (acts (Tilde some_place) tt)) (at_right r b t some_place)
after_outermost r p (Right b l tilde) t acts = after_right r p b l t tilde acts
after_outermost r p (Inside o h) t acts =
    by_sign (at_state r p) (at_state r (state.HeadEnd o (with_term h t))) false (Plain kind.CloseBracket) (ap (turn_of r) (acts (Plain kind.CloseBracket) tt)) (at_head_end r o (with_term h t))

after_term : (around : List Term) (r : Reader) (p : State) (of : TermOf) (t : Term) → ActsAs r p (nest of around) t → CanEnd (at_state r p)
after_term [] r p of t acts = after_outermost r p of t acts
after_term (outer ∷ around) r p of t acts =
    by_sign (at_state r p) (at_state r (state.TermEnd (nest of around) (with_argument outer t))) false (Plain kind.CloseParenthesis) (ap (turn_of r) (acts (Plain kind.CloseParenthesis) tt))
    (after_term around r (state.TermEnd (nest of around) (with_argument outer t)) of (with_argument outer t) (λ x past. refl))

at_term_opens : (r : Reader) (b : Nest) (n : Name) → CanEnd (at_state r (state.TermOpen b n))
at_term_opens r b n = after_term b.around r (state.TermOpen b n) b.of (bare n) (open_past b n)

at_term_name : (r : Reader) (b : Nest) → CanEnd (at_state r (state.TermName b))
at_term_name r b = by_sign (at_state r (state.TermName b)) (at_state r (state.TermOpen b some_name)) (nat_lt max_depth (length b.around + 1)) (Named some_name) refl (at_term_opens r b some_name)

can_end_at : (r : Reader) (p : State) → CanEnd (at_state r p)
can_end_at r state.Item = at_item r
can_end_at r (state.TypeName names) = at_type_name r names
can_end_at r (state.TypeEnd names) = at_type_end r names
can_end_at r state.SymbolName = at_symbol_name r
can_end_at r (state.SymbolColon n) = at_symbol_colon r n
can_end_at r (state.PortKind o) = at_port_kind r o
can_end_at r (state.PortSign o k) = at_port_sign r o k
can_end_at r (state.SymbolEnd s number) = at_symbol_end r s number
can_end_at r (state.ClassEnd s c number) = at_class_end r s c number
can_end_at r (state.HeadName o) = at_head_name r o
can_end_at r (state.HeadOpen o n) = at_head_open r o n
can_end_at r (state.HeadFirst o n) = at_head_first r o n
can_end_at r (state.HeadEnd o h) = at_head_end r o h
can_end_at r (state.RuleOpen f h p) = at_rule_open r f h p
can_end_at r (state.RuleClose y p) = at_rule_close r y p
can_end_at r state.NetOpen = at_net_open r
can_end_at r state.FreeFirst = at_free_first r
can_end_at r (state.FreeName fs) = at_free_name r fs
can_end_at r (state.FreeColon fs n) = at_free_colon r fs n
can_end_at r (state.FreeEnd fs) = at_free_end r fs
can_end_at r (state.BodyOpen fs) = at_body_open r fs
can_end_at r (state.Equation b) = at_equation r b
can_end_at r (state.TermName b) = at_term_name r b
can_end_at r (state.TermOpen b n) = at_term_opens r b n
can_end_at r (state.TermEnd b t) = after_term b.around r (state.TermEnd b t) b.of t (λ x past. refl)
can_end_at r (state.Done n) = at_done r n

pub can_end : (r : Reader) → CanEnd r
can_end r = can_end_at r r.state
