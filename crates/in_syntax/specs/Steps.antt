-- How the code reads a program from the left, one sign at a time. No public contract names this.
use Rattle.std.specs.Prelude.{◌≡◌, ℕ, ◌+◌, ◌≤◌, Bool, true, false, nat_lt, List, [], ◌∷◌, ◌++◌, length, take, drop, Option, Some, None, Result, Ok, Err}
use Rattle.in_syntax.specs.Refusals.{refusal_of}
use Rattle.in_syntax.specs.declared.places.Place.{Place}
use Rattle.in_syntax.specs.declared.faults.Code.{Code}
use Rattle.in_syntax.specs.declared.faults.Code.TheVariants.{E02, E03}
use Rattle.in_syntax.specs.declared.faults.Fault.{Fault}
use Rattle.in_syntax.specs.declared.faults.Fault.TheVariants.{Refused, Memory}
use Rattle.in_syntax.specs.declared.words.Token.{Token}
use Rattle.in_syntax.specs.declared.words.TokenKind.TheVariants as kind
use Rattle.in_syntax.specs.declared.signs.Sign.{Sign}
use Rattle.in_syntax.specs.declared.signs.Sign.TheVariants.{Named, Tilde, Plain}
use Rattle.in_syntax.specs.declared.tree.Name.{Name}
use Rattle.in_syntax.specs.declared.tree.SourcePort.{SourcePort}
use Rattle.in_syntax.specs.declared.tree.SourceSymbol.{SourceSymbol}
use Rattle.in_syntax.specs.declared.counts.Counts.{Counts}
use Rattle.in_syntax.specs.declared.tree.SourceRule.{SourceRule}
use Rattle.in_syntax.specs.declared.tree.Head.{Head}
use Rattle.in_syntax.specs.declared.tree.SourceFree.{SourceFree}
use Rattle.in_syntax.specs.declared.tree.SourceNet.{SourceNet}
use Rattle.in_syntax.specs.declared.tree.Source.{Source}
use Rattle.in_syntax.specs.declared.tree.Term.{Term}
use Rattle.in_syntax.specs.declared.tree.Equation.{Equation}
use Rattle.in_syntax.specs.declared.states.State.{State}
use Rattle.in_syntax.specs.declared.states.State.TheVariants as state
use Rattle.in_syntax.specs.declared.states.PortOf.{PortOf}
use Rattle.in_syntax.specs.declared.states.PortOf.TheVariants.{Principal, Auxiliary, Free}
use Rattle.in_syntax.specs.declared.states.HeadOf.{HeadOf}
use Rattle.in_syntax.specs.declared.states.HeadOf.TheVariants.{First, Second}
use Rattle.in_syntax.specs.declared.states.TermOf.{TermOf}
use Rattle.in_syntax.specs.declared.states.TermOf.TheVariants.{Left, Right, Inside}
use Rattle.in_syntax.specs.declared.states.Nest.{Nest}
use Rattle.in_syntax.specs.declared.states.EquationsOf.{EquationsOf}
use Rattle.in_syntax.specs.declared.states.EquationsOf.TheVariants as body
use Rattle.in_syntax.specs.declared.expecting.Expected.{Expected}
use Rattle.in_syntax.specs.declared.expecting.Expected.TheVariants as expected
use Rattle.in_syntax.specs.declared.expecting.PartOf.{PartOf}
use Rattle.in_syntax.specs.declared.expecting.PartOf.TheVariants as part
use Rattle.in_syntax.specs.Moves.{Move}
use Rattle.in_syntax.specs.Moves as move
use Rattle.in_syntax.specs.declared.machine.Event.{Event}
use Rattle.in_syntax.specs.declared.machine.Event.TheVariants as event
use Rattle.in_syntax.specs.declared.reader.Reader.{Reader}
use Rattle.in_syntax.specs.Expecting.{Noting}
use Rattle.in_syntax.specs.Grammar.{max_types, max_ports, max_depth, is_with}
use Rattle.in_syntax.specs.Trees.{bare, bare_head, bare_rule, with_argument, with_class, with_equation, rule_with_equation, with_term}
use Rattle.in_syntax.specs.Programs.{signs_of, place_at}
use Rattle.in_syntax.specs.declared.text_limits.TextLimits.{TextLimits}
use Rattle.in_syntax.specs.TextLimits.{max_symbols, max_rules, max_free}

-- the step that a sign makes, by the grammar alone
pub data Step : Type 0 where
  -- to another state; and whether the sign passes a limit
  goes : Bool → State → Step
  -- past a whole item
  adds_types : List Name → Step
  adds_symbol : SourceSymbol → Step
  adds_rule : SourceRule → Step
  -- no step: the token is unexpected
  stuck : Step

-- to another state, within the limits
abbrev pub on : State → Step
on = goes false

abbrev pub at_item : Counts → Sign → Step
at_item c (Plain kind.Type) = on (state.TypeName [])
at_item c (Plain kind.Symbol) = on state.SymbolName
at_item c (Plain kind.Rule) = goes (nat_lt (max_rules c.limits) (c.rules + 1)) (state.HeadName First)
at_item c (Plain kind.Net) = on state.NetOpen
at_item c _ = stuck

abbrev pub at_type_name : Counts → List Name → Sign → Step
at_type_name c names (Named n) = goes (nat_lt max_types ((c.types + 1) + length names)) (state.TypeEnd (names ++ n ∷ []))
at_type_name c names _ = stuck

abbrev pub at_type_end : List Name → Sign → Step
at_type_end names (Plain kind.Comma) = on (state.TypeName names)
at_type_end names (Plain kind.Semicolon) = adds_types names
at_type_end names _ = stuck

abbrev pub at_symbol_name : Counts → Sign → Step
at_symbol_name c (Named n) = goes (nat_lt (max_symbols c.limits) (c.symbols + 1)) (state.SymbolColon n)
at_symbol_name c _ = stuck

abbrev pub at_symbol_colon : Name → Sign → Step
at_symbol_colon n (Plain kind.Colon) = on (state.PortKind (Principal n))
at_symbol_colon n _ = stuck

abbrev pub kind_of : PortOf → Name → Step
kind_of (Principal n) k = on (state.PortSign (Principal n) k)
kind_of (Auxiliary s c number) k = goes (nat_lt max_ports number) (state.PortSign (Auxiliary s c (number + 1)) k)
kind_of (Free fs n) k = on (state.PortSign (Free fs n) k)

abbrev pub at_port_kind : PortOf → Sign → Step
at_port_kind o (Named k) = kind_of o k
at_port_kind o _ = stuck

abbrev pub after_port : PortOf → SourcePort → State
after_port (Principal n) p = state.SymbolEnd (record { name = n; port = p; classes = [] }) 1
after_port (Auxiliary s c number) p = state.ClassEnd s (c ++ p ∷ []) number
after_port (Free fs n) p = state.FreeEnd (fs ++ (record { name = n; port = p }) ∷ [])

abbrev pub at_port_sign : PortOf → Name → Sign → Step
at_port_sign o k (Plain kind.Plus) = on (after_port o (record { kind = k; output = true }))
at_port_sign o k (Plain kind.Minus) = on (after_port o (record { kind = k; output = false }))
at_port_sign o k _ = stuck

abbrev pub at_symbol_end : SourceSymbol → ℕ → Sign → Step
at_symbol_end s number (Plain kind.OpenBrace) = on (state.PortKind (Auxiliary s [] number))
at_symbol_end s number (Plain kind.Semicolon) = adds_symbol s
at_symbol_end s number _ = stuck

abbrev pub at_class_end : SourceSymbol → List SourcePort → ℕ → Sign → Step
at_class_end s c number (Plain kind.Comma) = on (state.PortKind (Auxiliary s c number))
at_class_end s c number (Plain kind.CloseBrace) = on (state.SymbolEnd (with_class s c) number)
at_class_end s c number _ = stuck

abbrev pub at_head_name : HeadOf → Sign → Step
at_head_name o (Named n) = on (state.HeadOpen o n)
at_head_name o _ = stuck

abbrev pub at_head_open : HeadOf → Name → Sign → Step
at_head_open o n (Plain kind.OpenBracket) = on (state.HeadFirst o n)
at_head_open o n _ = stuck

abbrev pub at_head_first : HeadOf → Name → Sign → Step
at_head_first o n (Named m) = on (state.TermOpen (record { of = Inside o (bare_head n); around = [] }) m)
at_head_first o n (Plain kind.CloseBracket) = on (state.HeadEnd o (bare_head n))
at_head_first o n _ = stuck

-- the step at a name after the heads of a rule, which has to be the word `with`
abbrev pub at_with : Head → Head → Place → Bool → Step
at_with f h p true = on (state.RuleOpen f h p)
at_with f h p false = stuck

abbrev pub at_head_end : HeadOf → Head → Sign → Step
at_head_end First h (Plain kind.Meets) = on (state.HeadName (Second h))
at_head_end (Second f) h (Plain kind.Semicolon) = adds_rule (bare_rule f h)
at_head_end (Second f) h (Named n) = at_with f h n.place (is_with n)
at_head_end _ h _ = stuck

abbrev pub at_rule_open : Head → Head → Place → Sign → Step
at_rule_open f h p (Plain kind.OpenBrace) = on (state.Equation (body.Rule (bare_rule f h) p))
at_rule_open f h p _ = stuck

abbrev pub at_rule_close : SourceRule → Sign → Step
at_rule_close y (Plain kind.Semicolon) = adds_rule y
at_rule_close y _ = stuck

abbrev pub at_net_open : Sign → Step
at_net_open (Plain kind.OpenParenthesis) = on state.FreeFirst
at_net_open _ = stuck

abbrev pub at_free_first : Sign → Step
at_free_first (Named n) = on (state.FreeColon [] n)
at_free_first (Plain kind.CloseParenthesis) = on (state.BodyOpen [])
at_free_first _ = stuck

abbrev pub at_free_name : Counts → List SourceFree → Sign → Step
at_free_name c fs (Named n) = goes (nat_lt (max_free c.limits) (1 + length fs)) (state.FreeColon fs n)
at_free_name c fs _ = stuck

abbrev pub at_free_colon : List SourceFree → Name → Sign → Step
at_free_colon fs n (Plain kind.Colon) = on (state.PortKind (Free fs n))
at_free_colon fs n _ = stuck

abbrev pub at_free_end : List SourceFree → Sign → Step
at_free_end fs (Plain kind.Comma) = on (state.FreeName fs)
at_free_end fs (Plain kind.CloseParenthesis) = on (state.BodyOpen fs)
at_free_end fs _ = stuck

abbrev pub at_body_open : List SourceFree → Sign → Step
at_body_open fs (Plain kind.OpenBrace) = on (state.Equation (body.Net (record { free = fs; equations = [] })))
at_body_open fs _ = stuck

-- after the `}` of the equations
abbrev pub after_equations : EquationsOf → State
after_equations (body.Net n) = state.Done n
after_equations (body.Rule y p) = state.RuleClose y p

abbrev pub at_equation : EquationsOf → Sign → Step
at_equation b (Named m) = on (state.TermOpen (record { of = Left b; around = [] }) m)
at_equation b (Plain kind.CloseBrace) = on (after_equations b)
at_equation b _ = stuck

abbrev pub at_term_name : Nest → Sign → Step
at_term_name b (Named n) = goes (nat_lt max_depth (length b.around + 1)) (state.TermOpen b n)
at_term_name b _ = stuck

abbrev pub after_argument : TermOf → List Term → Term → Term → Sign → Step
after_argument o around outer t (Plain kind.Comma) =
    on (state.TermName (record { of = o; around = with_argument outer t ∷ around }))
after_argument o around outer t (Plain kind.CloseParenthesis) =
    on (state.TermEnd (record { of = o; around = around }) (with_argument outer t))
after_argument o around outer t _ = stuck

abbrev pub after_left : EquationsOf → Term → Sign → Step
after_left b t (Tilde p) = on (state.TermName (record { of = Right b t p; around = [] }))
after_left b t _ = stuck

-- one more equation
abbrev pub body_with : EquationsOf → Equation → EquationsOf
body_with (body.Net n) e = body.Net (with_equation n e)
body_with (body.Rule y p) e = body.Rule (rule_with_equation y e) p

abbrev pub after_right : EquationsOf → Term → Place → Term → Sign → Step
after_right b l p t (Plain kind.Semicolon) = on (state.Equation (body_with b (record { left = l; tilde = p; right = t })))
after_right b l p t _ = stuck

abbrev pub after_head_term : HeadOf → Head → Term → Sign → Step
after_head_term o h t (Plain kind.Comma) = on (state.TermName (record { of = Inside o (with_term h t); around = [] }))
after_head_term o h t (Plain kind.CloseBracket) = on (state.HeadEnd o (with_term h t))
after_head_term o h t _ = stuck

abbrev pub after_outermost : TermOf → Term → Sign → Step
after_outermost (Left b) t x = after_left b t x
after_outermost (Right b l p) t x = after_right b l p t x
after_outermost (Inside o h) t x = after_head_term o h t x

abbrev pub after_term : TermOf → List Term → Term → Sign → Step
after_term o [] t x = after_outermost o t x
after_term o (outer ∷ around) t x = after_argument o around outer t x

abbrev pub at_term_end : Nest → Term → Sign → Step
at_term_end b t x = after_term b.of b.around t x

abbrev pub at_term_open : Nest → Name → Sign → Step
at_term_open b n (Plain kind.OpenParenthesis) = on (state.TermName (record { of = b.of; around = bare n ∷ b.around }))
at_term_open b n x = at_term_end b (bare n) x

abbrev pub step : Counts → State → Sign → Step
step c state.Item x = at_item c x
step c (state.TypeName names) x = at_type_name c names x
step c (state.TypeEnd names) x = at_type_end names x
step c state.SymbolName x = at_symbol_name c x
step c (state.SymbolColon n) x = at_symbol_colon n x
step c (state.PortKind o) x = at_port_kind o x
step c (state.PortSign o k) x = at_port_sign o k x
step c (state.SymbolEnd s number) x = at_symbol_end s number x
step c (state.ClassEnd s k number) x = at_class_end s k number x
step c (state.HeadName o) x = at_head_name o x
step c (state.HeadOpen o n) x = at_head_open o n x
step c (state.HeadFirst o n) x = at_head_first o n x
step c (state.HeadEnd o h) x = at_head_end o h x
step c (state.RuleOpen f h p) x = at_rule_open f h p x
step c (state.RuleClose y p) x = at_rule_close y x
step c state.NetOpen x = at_net_open x
step c state.FreeFirst x = at_free_first x
step c (state.FreeName fs) x = at_free_name c fs x
step c (state.FreeColon fs n) x = at_free_colon fs n x
step c (state.FreeEnd fs) x = at_free_end fs x
step c (state.BodyOpen fs) x = at_body_open fs x
step c (state.Equation b) x = at_equation b x
step c (state.TermName b) x = at_term_name b x
step c (state.TermOpen b n) x = at_term_open b n x
step c (state.TermEnd b t) x = at_term_end b t x
step c (state.Done n) x = stuck

-- the code's move of a step: it refuses if a limit is passed
abbrev pub move_of : Step → Move
move_of (goes false s) = move.Goes s
move_of (goes true s) = move.Refuses E03
move_of (adds_types names) = move.Types names
move_of (adds_symbol s) = move.Symbol s
move_of (adds_rule r) = move.Rule r
move_of stuck = move.Refuses E02

-- the move of the code's event, if this state was written
abbrev pub led : Event → State → Move
led event.Goes s = move.Goes s
led (event.Types names) s = move.Types names
led (event.Symbol y) s = move.Symbol y
led (event.Rule r) s = move.Rule r
led (event.Refuses c) s = move.Refuses c

abbrev pub start : TextLimits → Reader
start limits = record { limits = limits; types = []; symbols = []; rules = []; state = state.Item }

-- a tree, or a fault and the signs from it on
pub data Answer : Type 0 where
  reads : Source → Answer
  refused : Code → List Sign → Answer

abbrev pub net_of : State → Option SourceNet
net_of (state.Done n) = Some n
net_of _ = None

abbrev pub whole : Reader → Option SourceNet → Answer
whole r (Some n) = reads (record { limits = r.limits; types = r.types; symbols = r.symbols; rules = r.rules; net = n })
whole r None = refused E02 []

abbrev pub at_state : Reader → State → Reader
at_state r s = record { limits = r.limits; types = r.types; symbols = r.symbols; rules = r.rules; state = s }

abbrev pub between_items : TextLimits → List Name → List SourceSymbol → List SourceRule → Reader
between_items limits types symbols rules = record { limits = limits; types = types; symbols = symbols; rules = rules; state = state.Item }

abbrev pub with_types : Reader → List Name → Reader
with_types r names = between_items r.limits (r.types ++ names) r.symbols r.rules

abbrev pub with_symbol : Reader → SourceSymbol → Reader
with_symbol r s = between_items r.limits r.types (r.symbols ++ s ∷ []) r.rules

abbrev pub with_rule : Reader → SourceRule → Reader
with_rule r y = between_items r.limits r.types r.symbols (r.rules ++ y ∷ [])

abbrev pub counts_of : Reader → Counts
counts_of r = record { limits = r.limits; types = length r.types; symbols = length r.symbols; rules = length r.rules }

-- reads the signs from a reader on, to their end
abbrev pub run : Reader → List Sign → Answer
run r [] = whole r (net_of r.state)
run r (x ∷ s) = elim (move_of (step (counts_of r) r.state x)) as (λ m. Answer) [
  | move.Goes p ↦ run (at_state r p) s
  | move.Types names ↦ run (with_types r names) s
  | move.Symbol y ↦ run (with_symbol r y) s
  | move.Rule y ↦ run (with_rule r y) s
  | move.Refuses c ↦ refused c (x ∷ s)
]

abbrev pub fault_at : Code → Place → Fault
fault_at c place = Refused (refusal_of c place)

-- the reader after a move, unless it refuses
abbrev pub moved : Reader → Move → Option Reader
moved r (move.Goes p) = Some (at_state r p)
moved r (move.Types names) = Some (with_types r names)
moved r (move.Symbol y) = Some (with_symbol r y)
moved r (move.Rule y) = Some (with_rule r y)
moved r (move.Refuses c) = None

-- the reader after a sign
abbrev pub taken : Reader → Sign → Option Reader
taken r x = moved r (move_of (step (counts_of r) r.state x))

-- the signs lead from one reader to another
abbrev pub SignsLead : Reader → List Sign → Reader → Type 0
SignsLead r [] last = r ≡ last
SignsLead r (x ∷ s) last = (next : Reader) × (taken r x ≡ Some next) × SignsLead next s last

-- how one sign, that of a token at a place, changes a reader
abbrev pub TakesSign : Reader → Sign → Place → Reader → Result (Unit {0}) Fault → Type 0
TakesSign r x place next (Ok u) = taken r x ≡ Some next
TakesSign r x place next (Err (Refused f)) = ((s : List Sign) → run r (x ∷ s) ≡ refused f.code (x ∷ s)) × (f.place ≡ place) × (f.other ≡ None)
TakesSign r x place next (Err (Memory e)) = Unit {0}

-- how the reader ends at the end of the text
abbrev pub EndsText : Reader → Place → Result Source Fault → Type 0
EndsText r end (Ok source) = run r [] ≡ reads source
EndsText r end (Err (Refused f)) = (run r [] ≡ refused f.code []) × (f.place ≡ end) × (f.other ≡ None)
EndsText r end (Err (Memory e)) = Unit {0}

-- the result of the code's run
abbrev pub GivesSource : TextLimits → List ℕ → List Token → Place → Result Source Fault → Type 0
GivesSource limits text tokens end (Ok source) = run (start limits) (signs_of text tokens) ≡ reads source
GivesSource limits text tokens end (Err (Refused r)) =
    (i : ℕ) × (i ≤ length tokens) × (run (start limits) (signs_of text tokens) ≡ refused r.code (signs_of text (drop i tokens)))
    × (r.place ≡ place_at (drop i tokens) end) × (r.other ≡ None)
GivesSource limits text tokens end (Err (Memory e)) = Unit {0}

-- ---- the tokens expected in a state

-- the part that a term belongs to
abbrev pub outermost_part : TermOf → PartOf
outermost_part (Left b) = part.Left
outermost_part (Right b l p) = part.Right
outermost_part (Inside o h) = part.Head

abbrev pub part_within : TermOf → List Term → PartOf
part_within of [] = outermost_part of
part_within of (outer ∷ around) = part.Agent

abbrev pub part_of : Nest → PartOf
part_of b = part_within b.of b.around

abbrev pub head_end : HeadOf → Expected
head_end First = expected.Meets
head_end (Second h) = expected.RuleEnd

abbrev pub expected_in : State → Expected
expected_in state.Item = expected.Item
expected_in (state.TypeName names) = expected.TypeName
expected_in (state.TypeEnd names) = expected.TypeEnd
expected_in state.SymbolName = expected.SymbolName
expected_in (state.SymbolColon n) = expected.Colon
expected_in (state.PortKind o) = expected.PortType
expected_in (state.PortSign o k) = expected.PortSign
expected_in (state.SymbolEnd s number) = expected.SymbolEnd
expected_in (state.ClassEnd s c number) = expected.ClassEnd
expected_in (state.HeadName o) = expected.HeadName
expected_in (state.HeadOpen o n) = expected.HeadOpen
expected_in (state.HeadFirst o n) = expected.HeadFirst
expected_in (state.HeadEnd o h) = head_end o
expected_in (state.RuleOpen f h p) = expected.BodyOpen
expected_in (state.RuleClose y p) = expected.RuleClose
expected_in state.NetOpen = expected.NetOpen
expected_in state.FreeFirst = expected.FreeFirst
expected_in (state.FreeName fs) = expected.FreeName
expected_in (state.FreeColon fs n) = expected.Colon
expected_in (state.FreeEnd fs) = expected.FreeEnd
expected_in (state.BodyOpen fs) = expected.BodyOpen
expected_in (state.Equation b) = expected.Equation
expected_in (state.TermName b) = expected.Term
expected_in (state.TermOpen b n) = expected.AfterName (part_of b)
expected_in (state.TermEnd b t) = expected.AfterTerm (part_of b)
expected_in (state.Done n) = expected.Nothing

-- the noted expectation after the first `i` tokens
abbrev pub IsNotedBefore : TextLimits → List ℕ → List Token → ℕ → Expected → Type 0
IsNotedBefore limits text tokens i e = (last : Reader) × SignsLead (start limits) (signs_of text (take i tokens)) last × (e ≡ expected_in last.state)

-- the noted expectation of a run with this result
abbrev pub Notes : Noting
Notes limits text tokens (Ok source) e = e ≡ expected.Nothing
Notes limits text tokens (Err (Refused r)) e =
    (i : ℕ) × (i ≤ length tokens) × (run (start limits) (signs_of text tokens) ≡ refused r.code (signs_of text (drop i tokens))) × IsNotedBefore limits text tokens i e
Notes limits text tokens (Err (Memory m)) e = Unit {0}
