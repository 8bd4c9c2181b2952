-- The tokens expected in a state are those with which some program continues.
use Rattle.std.proofs.Common.{◌≡◌, ◌⊎◌, inl, inr, ℕ, zero, suc, Bool, true, false, List, [], ◌∷◌, ◌++◌, take, refl, sym, ◌∙◌, ap, subst, IsTrue, Result, Ok, Err}
use Rattle.in_syntax.specs.declared.expecting.Expected.{Expected}
use Rattle.in_syntax.specs.declared.faults.Fault.{Fault}
use Rattle.in_syntax.specs.declared.faults.Fault.TheVariants.{Refused, Memory}
use Rattle.in_syntax.specs.declared.tree.Source.{Source}
use Rattle.in_syntax.specs.declared.words.Token.{Token}
use Rattle.in_syntax.specs.declared.words.TokenKind.{TokenKind}
use Rattle.in_syntax.specs.declared.words.TokenKind.TheVariants as kind
use Rattle.in_syntax.specs.declared.signs.Sign.{Sign}
use Rattle.in_syntax.specs.declared.signs.Sign.TheVariants.{Named, Tilde, Plain}
use Rattle.in_syntax.specs.declared.counts.Counts.{Counts}
use Rattle.in_syntax.specs.declared.places.Place.{Place}
use Rattle.in_syntax.specs.declared.tree.Name.{Name}
use Rattle.in_syntax.specs.declared.tree.Head.{Head}
use Rattle.in_syntax.specs.declared.tree.Term.{Term}
use Rattle.in_syntax.specs.declared.reader.Reader.{Reader}
use Rattle.in_syntax.specs.declared.states.State.{State}
use Rattle.in_syntax.specs.declared.states.State.TheVariants as state
use Rattle.in_syntax.specs.declared.states.PortOf.{PortOf}
use Rattle.in_syntax.specs.declared.states.PortOf.TheVariants.{Principal, Auxiliary, Free}
use Rattle.in_syntax.specs.declared.states.HeadOf.{HeadOf}
use Rattle.in_syntax.specs.declared.states.HeadOf.TheVariants.{First, Second}
use Rattle.in_syntax.specs.declared.states.TermOf.{TermOf}
use Rattle.in_syntax.specs.declared.states.TermOf.TheVariants.{Left, Right, Inside}
use Rattle.in_syntax.specs.declared.states.Nest.{Nest}
use Rattle.in_syntax.specs.declared.states.EquationsOf.{EquationsOf}
use Rattle.in_syntax.specs.declared.states.EquationsOf.TheVariants as body_of
use Rattle.in_syntax.specs.Grammar.{Spelling, is_with}
use Rattle.in_syntax.specs.Programs.{Begins, name_at, sign_at, sign_of, signs_of, signs, unmarked}
use Rattle.in_syntax.specs.Expecting.{follows_term, takes, Section, between, types, symbol, ports, head, terms, free, free_port, body, after_body, further, section_from, section, IsAt, IsExpected, IsNotedOf}
use Rattle.in_syntax.specs.Steps.{Step, goes, adds_types, adds_symbol, adds_rule, stuck, step, at_port_kind, at_with, at_head_end, after_equations, after_term, at_term_open, at_state, with_types, with_symbol, with_rule, counts_of, start, part_within, expected_in, Notes}
use Rattle.in_syntax.specs.Trees.{bare}
use Rattle.in_syntax.proofs.Grammar.Paths.{turns, turn_of, turn, Path}
use Rattle.in_syntax.proofs.Grammar.Outcomes.{signs_unmarked, begins_on, no_beginning, refused_outcome}
use Rattle.in_syntax.proofs.Lexing.Reading.{led_path}
use Rattle.in_syntax.specs.declared.text_limits.TextLimits.{TextLimits}

-- ---- tokens

abbrev leads_on : Step → Bool
leads_on stuck = false
leads_on _ = true

-- the tokens that are expected in a state are those with a step to another state
abbrev Tells : Counts → State → Type 0
Tells c p = (text : List ℕ) (place : Place) (k : TokenKind) → takes (expected_in p) (sign_at text k place) ≡ leads_on (step c p (sign_at text k place))

tells_port_kind : (c : Counts) (o : PortOf) → Tells c (state.PortKind o)
tells_port_kind c (Principal n) text place kind.Name = refl
tells_port_kind c (Principal n) text place _ = refl
tells_port_kind c (Auxiliary s k number) text place kind.Name = refl
tells_port_kind c (Auxiliary s k number) text place _ = refl
tells_port_kind c (Free fs n) text place kind.Name = refl
tells_port_kind c (Free fs n) text place _ = refl

tells_with : (f h : Head) (place : Place) (b : Bool) → b ≡ leads_on (at_with f h place b)
tells_with f h place true = refl
tells_with f h place false = refl

tells_head_end : (c : Counts) (o : HeadOf) (h : Head) → Tells c (state.HeadEnd o h)
tells_head_end c First h text place kind.Meets = refl
tells_head_end c First h text place _ = refl
tells_head_end c (Second f) h text place kind.Semicolon = refl
tells_head_end c (Second f) h text place kind.Name = tells_with f h place (is_with (name_at text place))
tells_head_end c (Second f) h text place _ = refl

tells_after_term : (of : TermOf) (around : List Term) (t : Term) (text : List ℕ) (place : Place) (k : TokenKind) →
    follows_term (part_within of around) (sign_at text k place) ≡ leads_on (after_term of around t (sign_at text k place))
tells_after_term (Left n) [] t text place kind.Tilde = refl
tells_after_term (Left n) [] t text place _ = refl
tells_after_term (Right n l p) [] t text place kind.Semicolon = refl
tells_after_term (Right n l p) [] t text place _ = refl
tells_after_term (Inside o h) [] t text place kind.Comma = refl
tells_after_term (Inside o h) [] t text place _ = refl
tells_after_term of (outer ∷ around) t text place kind.Comma = refl
tells_after_term of (outer ∷ around) t text place _ = refl

tells_term_open : (c : Counts) (b : Nest) (n : Name) → Tells c (state.TermOpen b n)
tells_term_open c b n text place kind.OpenParenthesis = refl
tells_term_open c b n text place k = tells_after_term b.of b.around (bare n) text place k

tells : (c : Counts) (p : State) → Tells c p
tells c state.Item text place kind.Name = refl
tells c state.Item text place _ = refl
tells c (state.TypeName names) text place kind.Name = refl
tells c (state.TypeName names) text place _ = refl
tells c (state.TypeEnd names) text place kind.Name = refl
tells c (state.TypeEnd names) text place _ = refl
tells c state.SymbolName text place kind.Name = refl
tells c state.SymbolName text place _ = refl
tells c (state.SymbolColon n) text place kind.Name = refl
tells c (state.SymbolColon n) text place _ = refl
tells c (state.PortKind o) text place k = tells_port_kind c o text place k
tells c (state.PortSign o n) text place kind.Name = refl
tells c (state.PortSign o n) text place _ = refl
tells c (state.SymbolEnd s number) text place kind.Name = refl
tells c (state.SymbolEnd s number) text place _ = refl
tells c (state.ClassEnd s l number) text place kind.Name = refl
tells c (state.ClassEnd s l number) text place _ = refl
tells c (state.HeadName o) text place kind.Name = refl
tells c (state.HeadName o) text place _ = refl
tells c (state.HeadOpen o n) text place kind.Name = refl
tells c (state.HeadOpen o n) text place _ = refl
tells c (state.HeadFirst o n) text place kind.Name = refl
tells c (state.HeadFirst o n) text place _ = refl
tells c (state.HeadEnd o h) text place k = tells_head_end c o h text place k
tells c (state.RuleOpen f h p) text place kind.Name = refl
tells c (state.RuleOpen f h p) text place _ = refl
tells c (state.RuleClose y p) text place kind.Name = refl
tells c (state.RuleClose y p) text place _ = refl
tells c state.NetOpen text place kind.Name = refl
tells c state.NetOpen text place _ = refl
tells c state.FreeFirst text place kind.Name = refl
tells c state.FreeFirst text place _ = refl
tells c (state.FreeName fs) text place kind.Name = refl
tells c (state.FreeName fs) text place _ = refl
tells c (state.FreeColon fs n) text place kind.Name = refl
tells c (state.FreeColon fs n) text place _ = refl
tells c (state.FreeEnd fs) text place kind.Name = refl
tells c (state.FreeEnd fs) text place _ = refl
tells c (state.BodyOpen fs) text place kind.Name = refl
tells c (state.BodyOpen fs) text place _ = refl
tells c (state.Equation n) text place kind.Name = refl
tells c (state.Equation n) text place _ = refl
tells c (state.TermName b) text place kind.Name = refl
tells c (state.TermName b) text place _ = refl
tells c (state.TermOpen b n) text place k = tells_term_open c b n text place k
tells c (state.TermEnd b t) text place k = tells_after_term b.of b.around t text place k
tells c (state.Done n) text place kind.Name = refl
tells c (state.Done n) text place _ = refl

-- ---- sections

abbrev port_section : PortOf → Section
port_section (Principal n) = ports
port_section (Auxiliary s c number) = ports
port_section (Free fs n) = free_port

abbrev term_section : TermOf → Section
term_section (Left n) = body
term_section (Right n l p) = body
term_section (Inside o h) = terms

abbrev section_of : State → Section
section_of state.Item = between
section_of (state.TypeName names) = types
section_of (state.TypeEnd names) = types
section_of state.SymbolName = symbol
section_of (state.SymbolColon n) = ports
section_of (state.PortKind o) = port_section o
section_of (state.PortSign o k) = port_section o
section_of (state.SymbolEnd s number) = ports
section_of (state.ClassEnd s c number) = ports
section_of (state.HeadName o) = head
section_of (state.HeadOpen o n) = terms
section_of (state.HeadFirst o n) = terms
section_of (state.HeadEnd o h) = terms
section_of (state.RuleOpen f h p) = terms
section_of (state.RuleClose y p) = after_body
section_of state.NetOpen = free
section_of state.FreeFirst = free
section_of (state.FreeName fs) = free
section_of (state.FreeColon fs n) = free
section_of (state.FreeEnd fs) = free_port
section_of (state.BodyOpen fs) = free
section_of (state.Equation n) = body
section_of (state.TermName b) = term_section b.of
section_of (state.TermOpen b n) = term_section b.of
section_of (state.TermEnd b t) = term_section b.of
section_of (state.Done n) = after_body

-- a step leads into the section that its sign leads to
abbrev Follows : Section → Sign → Step → Type 0
Follows s x (goes past q) = section_of q ≡ further s x
Follows s x (adds_types names) = between ≡ further s x
Follows s x (adds_symbol y) = between ≡ further s x
Follows s x (adds_rule y) = between ≡ further s x
Follows s x stuck = Unit {0}

follows_port_kind : (o : PortOf) (x : Sign) → Follows (port_section o) x (at_port_kind o x)
follows_port_kind (Principal n) (Named k) = refl
follows_port_kind (Principal n) _ = tt
follows_port_kind (Auxiliary s c number) (Named k) = refl
follows_port_kind (Auxiliary s c number) _ = tt
follows_port_kind (Free fs n) (Named k) = refl
follows_port_kind (Free fs n) _ = tt

follows_port_sign : (c : Counts) (o : PortOf) (n : Name) (x : Sign) → Follows (port_section o) x (step c (state.PortSign o n) x)
follows_port_sign c (Principal m) n (Plain kind.Plus) = refl
follows_port_sign c (Principal m) n (Plain kind.Minus) = refl
follows_port_sign c (Principal m) n _ = tt
follows_port_sign c (Auxiliary s k number) n (Plain kind.Plus) = refl
follows_port_sign c (Auxiliary s k number) n (Plain kind.Minus) = refl
follows_port_sign c (Auxiliary s k number) n _ = tt
follows_port_sign c (Free fs m) n (Plain kind.Plus) = refl
follows_port_sign c (Free fs m) n (Plain kind.Minus) = refl
follows_port_sign c (Free fs m) n _ = tt

follows_with : (f h : Head) (n : Name) (b : Bool) → Follows terms (Named n) (at_with f h n.place b)
follows_with f h n true = refl
follows_with f h n false = tt

follows_equations : (b : EquationsOf) → section_of (after_equations b) ≡ after_body
follows_equations (body_of.Net n) = refl
follows_equations (body_of.Rule y p) = refl

follows_head_end : (o : HeadOf) (h : Head) (x : Sign) → Follows terms x (at_head_end o h x)
follows_head_end First h (Plain kind.Meets) = refl
follows_head_end First h _ = tt
follows_head_end (Second f) h (Plain kind.Semicolon) = refl
follows_head_end (Second f) h (Named n) = follows_with f h n (is_with n)
follows_head_end (Second f) h _ = tt

-- in the net's body, and between the signs that end a rule and its heads, terms stay where they are
stays_name : (of : TermOf) (n : Name) → term_section of ≡ further (term_section of) (Named n)
stays_name (Left k) n = refl
stays_name (Right k l p) n = refl
stays_name (Inside o h) n = refl

stays_open : (of : TermOf) → term_section of ≡ further (term_section of) (Plain kind.OpenParenthesis)
stays_open (Left n) = refl
stays_open (Right n l p) = refl
stays_open (Inside o h) = refl

stays_close : (of : TermOf) → term_section of ≡ further (term_section of) (Plain kind.CloseParenthesis)
stays_close (Left n) = refl
stays_close (Right n l p) = refl
stays_close (Inside o h) = refl

stays_comma : (of : TermOf) → term_section of ≡ further (term_section of) (Plain kind.Comma)
stays_comma (Left n) = refl
stays_comma (Right n l p) = refl
stays_comma (Inside o h) = refl

follows_after_term : (of : TermOf) (around : List Term) (t : Term) (x : Sign) → Follows (term_section of) x (after_term of around t x)
follows_after_term (Left n) [] t (Tilde p) = refl
follows_after_term (Left n) [] t _ = tt
follows_after_term (Right n l p) [] t (Plain kind.Semicolon) = refl
follows_after_term (Right n l p) [] t _ = tt
follows_after_term (Inside o h) [] t (Plain kind.Comma) = refl
follows_after_term (Inside o h) [] t (Plain kind.CloseBracket) = refl
follows_after_term (Inside o h) [] t _ = tt
follows_after_term of (outer ∷ around) t (Plain kind.Comma) = stays_comma of
follows_after_term of (outer ∷ around) t (Plain kind.CloseParenthesis) = stays_close of
follows_after_term of (outer ∷ around) t _ = tt

follows_term_open : (b : Nest) (n : Name) (x : Sign) → Follows (term_section b.of) x (at_term_open b n x)
follows_term_open b n (Plain kind.OpenParenthesis) = stays_open b.of
follows_term_open b n x = follows_after_term b.of b.around (bare n) x

follows : (c : Counts) (p : State) (x : Sign) → Follows (section_of p) x (step c p x)
follows c state.Item (Plain kind.Type) = refl
follows c state.Item (Plain kind.Symbol) = refl
follows c state.Item (Plain kind.Rule) = refl
follows c state.Item (Plain kind.Net) = refl
follows c state.Item _ = tt
follows c (state.TypeName names) (Named n) = refl
follows c (state.TypeName names) _ = tt
follows c (state.TypeEnd names) (Plain kind.Comma) = refl
follows c (state.TypeEnd names) (Plain kind.Semicolon) = refl
follows c (state.TypeEnd names) _ = tt
follows c state.SymbolName (Named n) = refl
follows c state.SymbolName _ = tt
follows c (state.SymbolColon n) (Plain kind.Colon) = refl
follows c (state.SymbolColon n) _ = tt
follows c (state.PortKind o) x = follows_port_kind o x
follows c (state.PortSign o n) x = follows_port_sign c o n x
follows c (state.SymbolEnd s number) (Plain kind.OpenBrace) = refl
follows c (state.SymbolEnd s number) (Plain kind.Semicolon) = refl
follows c (state.SymbolEnd s number) _ = tt
follows c (state.ClassEnd s l number) (Plain kind.Comma) = refl
follows c (state.ClassEnd s l number) (Plain kind.CloseBrace) = refl
follows c (state.ClassEnd s l number) _ = tt
follows c (state.HeadName o) (Named n) = refl
follows c (state.HeadName o) _ = tt
follows c (state.HeadOpen o n) (Plain kind.OpenBracket) = refl
follows c (state.HeadOpen o n) _ = tt
follows c (state.HeadFirst o n) (Named m) = refl
follows c (state.HeadFirst o n) (Plain kind.CloseBracket) = refl
follows c (state.HeadFirst o n) _ = tt
follows c (state.HeadEnd o h) x = follows_head_end o h x
follows c (state.RuleOpen f h p) (Plain kind.OpenBrace) = refl
follows c (state.RuleOpen f h p) _ = tt
follows c (state.RuleClose y p) (Plain kind.Semicolon) = refl
follows c (state.RuleClose y p) _ = tt
follows c state.NetOpen (Plain kind.OpenParenthesis) = refl
follows c state.NetOpen _ = tt
follows c state.FreeFirst (Named n) = refl
follows c state.FreeFirst (Plain kind.CloseParenthesis) = refl
follows c state.FreeFirst _ = tt
follows c (state.FreeName fs) (Named n) = refl
follows c (state.FreeName fs) _ = tt
follows c (state.FreeColon fs n) (Plain kind.Colon) = refl
follows c (state.FreeColon fs n) _ = tt
follows c (state.FreeEnd fs) (Plain kind.Comma) = refl
follows c (state.FreeEnd fs) (Plain kind.CloseParenthesis) = refl
follows c (state.FreeEnd fs) _ = tt
follows c (state.BodyOpen fs) (Plain kind.OpenBrace) = refl
follows c (state.BodyOpen fs) _ = tt
follows c (state.Equation n) (Named m) = refl
follows c (state.Equation n) (Plain kind.CloseBrace) = follows_equations n
follows c (state.Equation n) _ = tt
follows c (state.TermName b) (Named n) = stays_name b.of n
follows c (state.TermName b) _ = tt
follows c (state.TermOpen b n) x = follows_term_open b n x
follows c (state.TermEnd b t) x = follows_after_term b.of b.around t x
follows c (state.Done n) x = tt

turned_section : (r next : Reader) (x : Sign) (past : Bool) (m : Step) → Follows (section_of r.state) x m → turn_of r m ≡ turns past next → section_of next.state ≡ further (section_of r.state) x
turned_section r next x past (goes b q) f e =
    let is : at_state r q ≡ next = cc in
    ap (λ z. section_of z.state) (sym is) ∙ f
turned_section r next x past (adds_types names) f e =
    let is : with_types r names ≡ next = cc in
    ap (λ z. section_of z.state) (sym is) ∙ f
turned_section r next x past (adds_symbol y) f e =
    let is : with_symbol r y ≡ next = cc in
    ap (λ z. section_of z.state) (sym is) ∙ f
turned_section r next x past (adds_rule y) f e =
    let is : with_rule r y ≡ next = cc in
    ap (λ z. section_of z.state) (sym is) ∙ f
turned_section r next x past stuck f e = cc

section_along : (m : Spelling) (r last : Reader) → Path r m last → section_from (section_of r.state) (signs m) ≡ section_of last.state
section_along [] r last path = ap (λ z. section_of z.state) path
section_along (x ∷ m) r last path =
    let here : section_of path.0.state ≡ further (section_of r.state) x.sign =
    turned_section r path.0 x.sign x.past (step (counts_of r) r.state x.sign) (follows (counts_of r) r.state x.sign) path.1 in
    ap (λ z. section_from z (signs m)) (sym here) ∙ section_along m path.0 last path.2

-- the tokens expected in a state can be expected in its section
at_port : (o : PortOf) → (port_section o ≡ ports) ⊎ (port_section o ≡ free_port)
at_port (Principal n) = inl refl
at_port (Auxiliary s c number) = inl refl
at_port (Free fs n) = inr refl

at_head_end_of : (o : HeadOf) (h : Head) → IsAt (expected_in (state.HeadEnd o h)) terms
at_head_end_of First h = tt
at_head_end_of (Second f) h = refl

at_term : (of : TermOf) → (term_section of ≡ terms) ⊎ (term_section of ≡ body)
at_term (Left n) = inr refl
at_term (Right n l p) = inr refl
at_term (Inside o h) = inl refl

at_term_end_of : (of : TermOf) (around : List Term) (t : Term) → IsAt (expected_in (state.TermEnd (record { of = of; around = around }) t)) (term_section of)
at_term_end_of (Left n) [] t = tt
at_term_end_of (Right n l p) [] t = refl
at_term_end_of (Inside o h) [] t = tt
at_term_end_of of (outer ∷ around) t = at_term of

stands : (p : State) → IsAt (expected_in p) (section_of p)
stands (state.TypeName names) = refl
stands state.SymbolName = refl
stands (state.PortKind o) = at_port o
stands (state.HeadName o) = refl
stands (state.HeadEnd o h) = at_head_end_of o h
stands (state.RuleClose y p) = refl
stands (state.FreeName fs) = refl
stands (state.FreeEnd fs) = refl
stands (state.TermName b) = at_term b.of
stands (state.TermEnd b t) = at_term_end_of b.of b.around t
stands _ = tt

-- ---- the expected tokens

take_signs : (text : List ℕ) (i : ℕ) (tokens : List Token) → signs_of text (take i tokens) ≡ take i (signs_of text tokens)
take_signs text zero tokens = refl
take_signs text (suc i) [] = refl
take_signs text (suc i) (t ∷ tokens) = ap (λ z. sign_of text t ∷ z) (take_signs text i tokens)

module _ (limits : TextLimits) where
  begins_when : (front : List Sign) (x : Sign) (last : Reader) → Path (start limits) (unmarked front) last → (m : Step) → turn last x ≡ turn_of last m → IsTrue (leads_on m) → Begins limits (front ++ x ∷ [])
  begins_when front x last path (goes past q) e leads = begins_on limits front x last (at_state last q) past path e
  begins_when front x last path (adds_types names) e leads = begins_on limits front x last (with_types last names) false path e
  begins_when front x last path (adds_symbol y) e leads = begins_on limits front x last (with_symbol last y) false path e
  begins_when front x last path (adds_rule y) e leads = begins_on limits front x last (with_rule last y) false path e
  begins_when front x last path stuck e leads = cc

  when_begins : (front : List Sign) (x : Sign) (last : Reader) → Path (start limits) (unmarked front) last → (m : Step) → turn last x ≡ turn_of last m → Begins limits (front ++ x ∷ []) → IsTrue (leads_on m)
  when_begins front x last path stuck e begins = absurd (no_beginning limits front x last path e begins)
  when_begins front x last path _ e begins = refl

  section_after : (front : List Sign) (last : Reader) → Path (start limits) (unmarked front) last → section front ≡ section_of last.state
  section_after front last path = ap (λ z. section z) (sym (signs_unmarked front)) ∙ section_along (unmarked front) (start limits) last path

  -- if signs lead to a state, the tokens expected in it are expected after them
  pub expected_after : (text : List ℕ) (front : List Sign) (last : Reader) → Path (start limits) (unmarked front) last → IsExpected limits text front (expected_in last.state)
  expected_after text front last path = record {
    tokens = λ t. (
      λ yes. begins_when front (sign_of text t) last path (here t) refl (sym (told t) ∙ yes),
      λ begins. told t ∙ when_begins front (sign_of text t) last path (here t) refl begins,
    );
    sort = subst (IsAt (expected_in last.state)) (sym (section_after front last path)) (stands last.state);
  }
    where
      here : Token → Step
      here t = step (counts_of last) last.state (sign_of text t)

      told : (t : Token) → takes (expected_in last.state) (sign_of text t) ≡ leads_on (here t)
      told t = tells (counts_of last) last.state text t.place t.kind

  -- the run notes the right expectation
  pub noted : (text : List ℕ) (tokens : List Token) (r : Result Source Fault) (e : Expected) → Notes limits text tokens r e → IsNotedOf limits text tokens r e
  noted text tokens (Ok source) e is = is
  noted text tokens (Err (Refused r)) e (i, le, is, (last, leads, same)) =
      let path : Path (start limits) (unmarked (signs_of text (take i tokens))) last = led_path (signs_of text (take i tokens)) (start limits) last leads in
      let after : IsExpected limits text (take i (signs_of text tokens)) (expected_in last.state) =
      subst (λ z. IsExpected limits text z (expected_in last.state)) (take_signs text i tokens) (expected_after text (signs_of text (take i tokens)) last path) in
      (i, refused_outcome limits text i tokens r.code le is, subst (IsExpected limits text (take i (signs_of text tokens))) (sym same) after)
  noted text tokens (Err (Memory m)) e is = tt
