-- A right member that is put beside an active pair: its agents have names that the net doesn't have.
use Rattle.std.proofs.Common.{◌≡◌, ◌≢◌, ◌⊎◌, inl, inr, ℕ, zero, suc, Option, Some, None, List, [], ◌∷◌, length, map, slice_get, refl, sym, ap, ◌∙◌, arith}
use Rattle.std.specs.Prelude.{option_map, option_and_then, slice_index_or}
use Rattle.std.proofs.lemmas.List.{length-map}
use Rattle.std.proofs.lemmas.Option.{same_Some, slice_get-map, slice_get_within}
use native.Mathlib.Decide.{ℕ_discrete}
use Rattle.in_base.proofs.Each.{all_at, at_index}
use Rattle.in_arena.specs.Arenas.{ArenaView, state_at}
use Rattle.in_arena.specs.States.{State, IsBegun, word_of, end_at, places}
use Rattle.in_arena.specs.declared.content.CellNo.{CellNo}
use Rattle.in_symbols.specs.Tables.{Tables, arity_of}
use Rattle.in_syntax.specs.declared.symbol_no.SymbolNo.{SymbolNo}
use Rattle.in_net.specs.declared.nets.Cell.{Cell}
use Rattle.in_net.specs.declared.nets.Point as coded
use Rattle.in_net.specs.declared.nets.Point.TheVariants as code
use Rattle.in_net.specs.Built.{IsOver, IsCellOver}
use Rattle.in_net.specs.Nets.{Point, Port, Free, net_of, point_of}
use Rattle.in_net.specs.Parts.{Parts, symbol_in, partner_in}
use Rattle.in_cells.specs.Shown.{end_of}
use Rattle.in_compile.specs.declared.joints.Joint.{Joint}
use Rattle.in_compile.specs.declared.joints.Joint.TheVariants.{ToAgent, ToBoundary}
use Rattle.in_compile.specs.Members.{AgentParts, MemberParts, IsMemberOf, joint_of, joint_at}
use Rattle.in_compile.specs.Placing.{end_in, content}
use Rattle.in_compile.proofs.Public.{read_at}
use Rattle.in_reducer.specs.Interacting.{named}
use Rattle.in_compile.specs.Putting.{IsPut}
use Rattle.in_reducer.specs.Wiring.{HasBegun}

-- ---- lists

-- a number is that of one of these cells, or of none
abbrev pub InOrOut : List CellNo → ℕ → Type 0
InOrOut ns y = ((k : ℕ) × (slice_get ns k ≡ Some (record { 0 = y }))) ⊎ ((k : ℕ) → slice_get ns k ≡ Some (record { 0 = y }) → ⊥)

pub in_or_out : (ns : List CellNo) (y : ℕ) → InOrOut ns y
in_or_out [] y = inr (λ k e. cc)
in_or_out (n ∷ ns) y = elim (ℕ_discrete n.0 y) [
  | yes e ↦ inl (0, ap (λ (z : ℕ). Some (record { 0 = z })) e)
  | no ne ↦ go ne (in_or_out ns y)
]
  where
    go : n.0 ≢ y → InOrOut ns y → InOrOut (n ∷ ns) y
    go ne (inl at) = inl (suc at.0, at.1)
    go ne (inr out) = inr later
      where
        later : (k : ℕ) → slice_get (n ∷ ns) k ≡ Some (record { 0 = y }) → ⊥
        later zero e = ne (ap (λ (z : CellNo). z.0) (same_Some n (record { 0 = y }) e))
        later (suc k) e = out k e

-- lists with the same elements under a map are as long
same_length : {X Y : Type 0} (f : Y → X) (xs : List X) (ys : List Y) → ((i : ℕ) → slice_get xs i ≡ option_map f (slice_get ys i)) → length xs ≡ length ys
same_length f [] [] h = refl
same_length f [] (y ∷ ys) h = absurd (let e : None ≡ Some (f y) = h 0 in cc)
same_length f (x ∷ xs) [] h = absurd (let e : Some x ≡ None = h 0 in cc)
same_length f (x ∷ xs) (y ∷ ys) h = ap suc (same_length f xs ys (λ i. h (suc i)))

-- ---- points

point_back : (q : coded.Point) (v : Point ℕ) → point_of q ≡ v → (y i : ℕ) → v ≡ Port y i → q ≡ code.Port (record { 0 = y }) i
point_back (code.Port x j) v e y i f =
    let g : Port x.0 j ≡ Port y i = e ∙ f in
    let one : x.0 ≡ y = cc in
    let two : j ≡ i = cc in
    ap (λ (z : ℕ). code.Port (record { 0 = z }) j) one ∙ ap (code.Port (record { 0 = y })) two
point_back (code.Free k) v e y i f = absurd (let g : Free k ≡ Port y i = e ∙ f in cc)

pub point_there : (o : Option coded.Point) (v : Point ℕ) → option_map point_of o ≡ Some v → (q : coded.Point) × (o ≡ Some q) × (point_of q ≡ v)
point_there None v h = absurd (let e : None ≡ Some v = h in cc)
point_there (Some q) v h = (q, refl, same_Some (point_of q) v h)

-- ---- the agents

module _ (t : Tables) (n : Parts) (over : IsOver t n) (m : MemberParts) (of : IsMemberOf t n m) where
  pub agent_at : (k s : ℕ) → (net_of n).symbol k ≡ Some s → (a : AgentParts) × (slice_get m.agents k ≡ Some a) × (a.symbol.0 ≡ s)
  agent_at k s e = go (slice_get m.agents k) refl (ap (option_map (λ (s : SymbolNo). s.0)) (of.agents k) ∙ e)
    where
      go : (o : Option AgentParts) → slice_get m.agents k ≡ o → option_map (λ (s : SymbolNo). s.0) (option_map (λ (a : AgentParts). a.symbol) o) ≡ Some s → (a : AgentParts) × (slice_get m.agents k ≡ Some a) × (a.symbol.0 ≡ s)
      go None is h = absurd (let f : None ≡ Some s = h in cc)
      go (Some a) is h = (a, is, same_Some a.symbol.0 s h)

  pub symbol_of : (k : ℕ) (a : AgentParts) → slice_get m.agents k ≡ Some a → (net_of n).symbol k ≡ Some a.symbol.0
  symbol_of k a e = sym (ap (option_map (λ (s : SymbolNo). s.0)) (of.agents k)) ∙ ap (λ (o : Option AgentParts). option_map (λ (s : SymbolNo). s.0) (option_map (λ (a : AgentParts). a.symbol) o)) e

  -- the cell in the net of an agent
  cell_of : (k : ℕ) (a : AgentParts) → slice_get m.agents k ≡ Some a → (c : Cell) × (slice_get n.cells k ≡ Some (Some c)) × (a.symbol ≡ c.symbol)
  cell_of k a e = go (slice_get n.cells k) refl
    where
      told : Some a.symbol ≡ symbol_in n k
      told = sym (ap (option_map (λ (a : AgentParts). a.symbol)) e) ∙ of.agents k

      go : (o : Option (Option Cell)) → slice_get n.cells k ≡ o → (c : Cell) × (slice_get n.cells k ≡ Some (Some c)) × (a.symbol ≡ c.symbol)
      go None is = absurd (let f : Some a.symbol ≡ None = told ∙ ap (λ (o : Option (Option Cell)). option_map (λ (c : Cell). c.symbol) (option_and_then (λ (c : Option Cell). c) o)) is in cc)
      go (Some None) is = absurd (let f : Some a.symbol ≡ None = told ∙ ap (λ (o : Option (Option Cell)). option_map (λ (c : Cell). c.symbol) (option_and_then (λ (c : Option Cell). c) o)) is in cc)
      go (Some (Some c)) is = (c, is, same_Some a.symbol c.symbol (told ∙ ap (λ (o : Option (Option Cell)). option_map (λ (c : Cell). c.symbol) (option_and_then (λ (c : Option Cell). c) o)) is))

  pub places_of : (k : ℕ) (a : AgentParts) → slice_get m.agents k ≡ Some a → length a.ends ≡ suc (arity_of t a.symbol.0)
  places_of k a e =
      let c = cell_of k a e in
      let ends : length a.ends ≡ length c.0.ends = same_length joint_of a.ends c.0.ends (λ i. (
      sym (ap (λ (o : Option AgentParts). option_and_then (λ (a : AgentParts). slice_get a.ends i) o) e) ∙ of.joints (code.Port (record { 0 = k }) i)
      ∙ ap (λ (o : Option (Option Cell)). option_map joint_of (option_and_then (λ (c : Cell). slice_get c.ends i) (option_and_then (λ (c : Option Cell). c) o))) c.1
      )) in
      let long = (all_at (IsCellOver t) n.cells k (Some c.0) over.cells c.1).1 in
      let same : arity_of t c.0.symbol.0 ≡ arity_of t a.symbol.0 = ap (λ (s : SymbolNo). arity_of t s.0) (sym c.2) in
      omega (arith, ends, long, same)

  -- the joint of a wire that leads to another agent's port, or to a boundary end
  joint_by : (q : coded.Point) (v : Point ℕ) → (net_of n).partner (point_of q) ≡ Some v → (p : coded.Point) × (joint_at m (joint_of q) ≡ Some (joint_of p)) × (point_of p ≡ v)
  joint_by (code.Port x i) v e = let p = point_there (partner_in n (code.Port x i)) v e in (p.0, of.joints (code.Port x i) ∙ ap (option_map joint_of) p.1, p.2)
  joint_by (code.Free k) v e = let p = point_there (partner_in n (code.Free k)) v e in (p.0, of.joints (code.Free k) ∙ ap (option_map joint_of) p.1, p.2)

  pub inner_joint : (k i l j : ℕ) → (net_of n).partner (Port k i) ≡ Some (Port l j) → joint_at m (ToAgent k i) ≡ Some (ToAgent l j)
  inner_joint k i l j e =
      let p = joint_by (code.Port (record { 0 = k }) i) (Port l j) e in
      p.1 ∙ ap (λ (q : coded.Point). Some (joint_of q)) (point_back p.0 (Port l j) p.2 l j refl)

  pub boundary_joint : (e : ℕ) (v : Point ℕ) → (net_of n).partner (Free e) ≡ Some v → (p : coded.Point) × (slice_get m.joints e ≡ Some (joint_of p)) × (point_of p ≡ v)
  boundary_joint e v h = joint_by (code.Free e) v h

  -- ---- the agents are begun

  module _ (ns : List CellNo) (old new : ArenaView) (begun : HasBegun m ns old new) where
    -- an agent's own cell
    own_cell : (k : ℕ) (a : AgentParts) → slice_get m.agents k ≡ Some a → slice_get ns k ≡ Some (slice_index_or ns k (record { 0 = 0 }))
    own_cell k a e = read_at ns k (let l = slice_get_within m.agents k a e in let c = begun.count in omega (arith, l, c))

    pub begun_free : (k : ℕ) (a : AgentParts) → slice_get m.agents k ≡ Some a → word_of (state_at old (named ns k)) ≡ None
    begun_free k a e = (begun.each k a (slice_index_or ns k (record { 0 = 0 })) e (own_cell k a e)).1

    begun_there : (k : ℕ) (a : AgentParts) → slice_get m.agents k ≡ Some a → IsBegun a.symbol.0 (length a.ends) (state_at new (named ns k))
    begun_there k a e = (begun.each k a (slice_index_or ns k (record { 0 = 0 })) e (own_cell k a e)).2

    pub begun_once : (k l : ℕ) (a b : AgentParts) → slice_get m.agents k ≡ Some a → slice_get m.agents l ≡ Some b → named ns k ≡ named ns l → k ≡ l
    begun_once k l a b e f same =
        begun.once k l (slice_index_or ns k (record { 0 = 0 })) (own_cell k a e)
        (own_cell l b f ∙ ap (λ (z : ℕ). Some (record { 0 = z })) (sym same))

    -- a cell of these is an agent's
    pub begun_whose : (k y : ℕ) → slice_get ns k ≡ Some (record { 0 = y }) → (a : AgentParts) × (slice_get m.agents k ≡ Some a) × (named ns k ≡ y)
    begun_whose k y at =
        let l = slice_get_within ns k (record { 0 = y }) at in
        let a = at_index m.agents k (let c = begun.count in omega (arith, l, c)) in
        let here : slice_index_or ns k (record { 0 = 0 }) ≡ record { 0 = y } = same_Some (slice_index_or ns k (record { 0 = 0 })) (record { 0 = y }) (sym (read_at ns k l) ∙ at) in
        (a.0, a.1, ap (λ (z : CellNo). z.0) here)

    pub begun_word : (k s : ℕ) → (net_of n).symbol k ≡ Some s → word_of (state_at new (named ns k)) ≡ Some s
    begun_word k s e = let a = agent_at k s e in ap word_of (begun_there k a.0 a.1).2 ∙ ap (λ (z : ℕ). Some z) a.2

    pub begun_places : (k s : ℕ) → (net_of n).symbol k ≡ Some s → places (state_at new (named ns k)) ≡ suc (arity_of t s)
    begun_places k s e =
        let a = agent_at k s e in
        ap places (begun_there k a.0 a.1).2 ∙ (begun_there k a.0 a.1).1 ∙ places_of k a.0 a.1 ∙ ap (λ (z : ℕ). suc (arity_of t z)) a.2

  -- ---- .. and put

  pub begun_of : (ns : List CellNo) (old new : ArenaView) → IsPut m ns old new → HasBegun m ns old new
  begun_of ns old new put = record {
    count = put.count;
    each = λ k a n e at. (let z = put.each k a n e at in (z.0, z.1, (map (end_in ns) a.ends, length-map a.ends (end_in ns), z.2)));
    once = put.once;
    others = put.others;
    memory = put.memory;
    cells = put.cells;
    many = put.many;
  }

  module _ (ns : List CellNo) (old new : ArenaView) (put : IsPut m ns old new) where
    pub stands_there : (k : ℕ) (a : AgentParts) → slice_get m.agents k ≡ Some a → state_at new (named ns k) ≡ content ns a
    stands_there k a e = (put.each k a (slice_index_or ns k (record { 0 = 0 })) e (own_cell ns old new (begun_of ns old new put) k a e)).2

    by_joint : (k i : ℕ) (j : Joint) (o : Option AgentParts) → slice_get m.agents k ≡ o → option_and_then (λ (a : AgentParts). slice_get a.ends i) o ≡ Some j → end_at (state_at new (named ns k)) i ≡ Some (end_in ns j)
    by_joint k i j None is e = absurd (let f : None ≡ Some j = e in cc)
    by_joint k i j (Some a) is e = ap (λ (x : State). end_at x i) (stands_there k a is) ∙ slice_get-map (end_in ns) a.ends i ∙ ap (option_map (end_in ns)) e

    pub wire_there : (k i l j : ℕ) → (net_of n).partner (Port k i) ≡ Some (Port l j) → end_at (state_at new (named ns k)) i ≡ Some (end_of (Port (named ns l) j))
    wire_there k i l j e = by_joint k i (ToAgent l j) (slice_get m.agents k) refl (inner_joint k i l j e)

    -- a place that leads to a boundary end holds the end's number
    pub end_number_there : (k i e : ℕ) → joint_at m (ToAgent k i) ≡ Some (ToBoundary e) → end_at (state_at new (named ns k)) i ≡ Some (end_in ns (ToBoundary e))
    end_number_there k i e h = by_joint k i (ToBoundary e) (slice_get m.agents k) refl h
