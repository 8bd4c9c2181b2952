-- A net whose agents were copied is beside the net of the other cells.
use Rattle.std.proofs.Common.{◌≡◌, inl, inr, ◌<◌, ◌+◌, ℕ, zero, suc, true, false, Some, None, List, [], ◌∷◌, ◌++◌, length, map, slice_get, refl, sym, ap, subst, ◌∙◌, arith}
use Rattle.std.specs.Prelude.{option_map}
use Rattle.std.proofs.lemmas.Option.{same_Some, slice_get_within}
use Rattle.in_base.proofs.Each.{at_index}
use Rattle.in_arena.specs.Arenas.{ArenaView, state_at}
use Rattle.in_arena.specs.States.{IsLive, end_at, word_of}
use Rattle.in_arena.specs.declared.content.CellNo.{CellNo}
use Rattle.in_arena.specs.declared.content.End.{End}
use Rattle.in_arena.proofs.Public.{word_live}
use Rattle.in_net.specs.Nets.{Point, Port, Free, Net}
use Rattle.in_gluing.specs.AsGluing.{old_and_new, two_parts}
use Rattle.in_gluing.specs.Joining.{IsAtNumber, IsBeside}
use Rattle.in_gluing.specs.Laws.{KeepsApart}
use Rattle.in_gluing.proofs.Public.{mapped}
use Rattle.in_cells.specs.Shown.{IsShown, point_of}
use Rattle.in_gluing.specs.SideBySide.{StandBeside}
use Rattle.in_cells.specs.Copying.{AreAllLive, IsCopied, name_in, number_in}
use Rattle.in_cells.specs.Laws.{moved_point, ShowsAll, AreRenumbered, number_of, AreEndsOfBoth, CopiesStandBeside, ends_of}
use Rattle.in_cells.proofs.Shown.{word_moved, end_moved, point_moved, end_live, NamedOr, named_or}
use Rattle.in_cells.proofs.Written.{moved_live}
use Rattle.in_interaction.proofs.Public.{has_value}

-- ---- side by side

-- the point for a part's point
abbrev pub placed : (ℕ × ℕ → ℕ) → (ℕ → ℕ) → ℕ → Point ℕ → Point ℕ
placed number name i (Port x k) = Port (old_and_new name i x) k
placed number name i (Free e) = Free (number (i, e))

pub is_placed : (number : ℕ × ℕ → ℕ) (name : ℕ → ℕ) (i : ℕ) (p u : Point ℕ) → IsAtNumber number (old_and_new name) i p u → u ≡ placed number name i p
is_placed number name i (Port x k) u e = e
is_placed number name i (Free k) u e = e

pub at_placed : (number : ℕ × ℕ → ℕ) (name : ℕ → ℕ) (i : ℕ) (p : Point ℕ) → IsAtNumber number (old_and_new name) i p (placed number name i p)
at_placed number name i (Port x k) = refl
at_placed number name i (Free k) = refl

-- all agents of a net are copied into the cells of another net, whose free ends get other numbers before: the cells then show both
pub record AreCopiedBeside (from before old new : ArenaView) (agents names : List CellNo) (numbers : List ℕ) (own : ℕ → ℕ) (of_from of_before of_new : List End) (ends : List (ℕ × ℕ)) (n m w : Net ℕ) : Type 0 where
  -- the cells that are copied show the one net
  pub shows_n : ShowsAll from of_from n
  -- the cells that the copies are put in show the other net
  pub shows_m : ShowsAll before of_before m
  -- these agents are all that the one net has
  pub all : AreAllLive from agents
  -- the free ends of the other net get their new numbers
  pub numbered : AreRenumbered own before old
  -- each agent is copied to its own cell
  pub copied : IsCopied from agents numbers names old new
  -- the new list has the partner of each free end of both nets
  pub lists : AreEndsOfBoth m n (name_in names) own (number_in numbers) of_before of_from ends of_new
  -- the cells afterwards show this net
  pub shows_w : IsShown new of_new w

module _ (from before old new : ArenaView) (agents names : List CellNo) (numbers : List ℕ) (own : ℕ → ℕ) (of_from of_before of_new : List End) (ends : List (ℕ × ℕ)) (n m w : Net ℕ)
    (given : AreCopiedBeside from before old new agents names numbers own of_from of_before of_new ends n m w) where
  open given use {shows_n, shows_m, all, numbered, copied, lists, shows_w}

  abbrev name : ℕ → ℕ
  name = name_in names

  abbrev number : ℕ × ℕ → ℕ
  number p = number_of own (number_in numbers) p.0 p.1

  -- a point of the other net, and one of the copied net, under the new numbers
  abbrev kept : Point ℕ → Point ℕ
  kept = moved_point (λ z. z) own

  abbrev to : Point ℕ → Point ℕ
  to = moved_point name (number_in numbers)

  -- ---- the points

  agent_of : (x s : ℕ) → n.symbol x ≡ Some s → (k : ℕ) × (slice_get agents k ≡ Some (record { 0 = x }))
  agent_of x s e = all x (word_live (state_at from x) s (sym (shows_n.shown.agents x) ∙ e))

  wired_agent : (x i : ℕ) (q : Point ℕ) → n.partner (Port x i) ≡ Some q → (k : ℕ) × (slice_get agents k ≡ Some (record { 0 = x }))
  wired_agent x i q e = let t = mapped point_of (end_at (state_at from x) i) q (sym (shows_n.shown.wires (Port x i)) ∙ e) in all x (end_live (state_at from x) i t.0 t.1)

  -- an agent of the other net has no copy's name
  no_name : (y : ℕ) → IsLive (state_at before y) → (k : ℕ) (c : CellNo) → slice_get agents k ≡ Some c → name c.0 ≡ y → ⊥
  no_name y live k c s e = subst IsLive (sym (numbered y) ∙ ap (state_at old) (sym e) ∙ (copied.each k c s).0) (moved_live (λ z. z) own (state_at before y) live)

  old_live : (y s : ℕ) → m.symbol y ≡ Some s → IsLive (state_at before y)
  old_live y s e = word_live (state_at before y) s (sym (shows_m.shown.agents y) ∙ e)

  old_wired : (y i : ℕ) (q : Point ℕ) → m.partner (Port y i) ≡ Some q → IsLive (state_at before y)
  old_wired y i q e = let t = mapped point_of (end_at (state_at before y) i) q (sym (shows_m.shown.wires (Port y i)) ∙ e) in end_live (state_at before y) i t.0 t.1

  -- ---- the cell of an agent

  abbrev IsNoName : ℕ → Type 0
  IsNoName y = (k : ℕ) (c : CellNo) → slice_get agents k ≡ Some c → name c.0 ≡ y → ⊥

  symbol_copied : (k : ℕ) (c : CellNo) → slice_get agents k ≡ Some c → w.symbol (name c.0) ≡ n.symbol c.0
  symbol_copied k c s = shows_w.agents (name c.0) ∙ ap word_of (copied.each k c s).1 ∙ word_moved name (number_in numbers) (state_at from c.0) ∙ sym (shows_n.shown.agents c.0)

  symbol_kept : (y : ℕ) → IsNoName y → w.symbol y ≡ m.symbol y
  symbol_kept y out = shows_w.agents y ∙ ap word_of (copied.others y out ∙ numbered y) ∙ word_moved (λ z. z) own (state_at before y) ∙ sym (shows_m.shown.agents y)

  wire_copied : (k i : ℕ) (c : CellNo) → slice_get agents k ≡ Some c → w.partner (Port (name c.0) i) ≡ option_map to (n.partner (Port c.0 i))
  wire_copied k i c s =
      shows_w.wires (Port (name c.0) i) ∙ ap (λ x. option_map point_of (end_at x i)) (copied.each k c s).1 ∙ ap (option_map point_of) (end_moved name (number_in numbers) (state_at from c.0) i)
      ∙ point_moved name (number_in numbers) (end_at (state_at from c.0) i) ∙ ap (option_map to) (sym (shows_n.shown.wires (Port c.0 i)))

  wire_kept : (y i : ℕ) → IsNoName y → w.partner (Port y i) ≡ option_map kept (m.partner (Port y i))
  wire_kept y i out =
      shows_w.wires (Port y i) ∙ ap (λ x. option_map point_of (end_at x i)) (copied.others y out ∙ numbered y) ∙ ap (option_map point_of) (end_moved (λ z. z) own (state_at before y) i)
      ∙ point_moved (λ z. z) own (end_at (state_at before y) i) ∙ ap (option_map kept) (sym (shows_m.shown.wires (Port y i)))

  -- .. and at a free end
  free_kept : (k e : ℕ) → slice_get ends k ≡ Some (0, e) → w.partner (Free k) ≡ option_map kept (m.partner (Free e))
  free_kept k e at = shows_w.wires (Free k) ∙ ap (option_map point_of) (lists.each k 0 e at).1 ∙ point_moved (λ z. z) own (slice_get of_before e) ∙ ap (option_map kept) (sym (shows_m.shown.wires (Free e)))

  free_copied : (k e : ℕ) → slice_get ends k ≡ Some (1, e) → w.partner (Free k) ≡ option_map to (n.partner (Free e))
  free_copied k e at = shows_w.wires (Free k) ∙ ap (option_map point_of) (lists.each k 1 e at).1 ∙ point_moved name (number_in numbers) (slice_get of_from e) ∙ ap (option_map to) (sym (shows_n.shown.wires (Free e)))

  -- ---- wires

  is_kept : (q : Point ℕ) → kept q ≡ placed number name 0 q
  is_kept (Port x i) = refl
  is_kept (Free k) = refl

  is_copied : (q : Point ℕ) → to q ≡ placed number name 1 q
  is_copied (Port x i) = refl
  is_copied (Free k) = refl

  abbrev IsWire : Point ℕ → Point ℕ → Type 0
  IsWire u v = (i : ℕ) × (p q : Point ℕ) × IsAtNumber number (old_and_new name) i p u × IsAtNumber number (old_and_new name) i q v × ((two_parts m n i).partner p ≡ Some q)

  old_wire : (p u v : Point ℕ) → placed number name 0 p ≡ u → option_map kept (m.partner p) ≡ Some v → IsWire u v
  old_wire p u v at e =
      let t = mapped kept (m.partner p) v e in
      (0, p, t.0, subst (IsAtNumber number (old_and_new name) 0 p) at (at_placed number name 0 p), subst (IsAtNumber number (old_and_new name) 0 t.0) (sym (is_kept t.0) ∙ t.2) (at_placed number name 0 t.0), t.1)

  new_wire : (p u v : Point ℕ) → placed number name 1 p ≡ u → option_map to (n.partner p) ≡ Some v → IsWire u v
  new_wire p u v at e =
      let t = mapped to (n.partner p) v e in
      (1, p, t.0, subst (IsAtNumber number (old_and_new name) 1 p) at (at_placed number name 1 p), subst (IsAtNumber number (old_and_new name) 1 t.0) (sym (is_copied t.0) ∙ t.2) (at_placed number name 1 t.0), t.1)

  wire_there : (u v : Point ℕ) → w.partner u ≡ Some v → IsWire u v
  wire_there (Port y i) v e = go (named_or agents name y)
    where
      go : NamedOr agents name y → IsWire (Port y i) v
      go (inl at) = new_wire (Port at.1.0 i) (Port y i) v (ap (λ (z : ℕ). Port z i) at.3) (sym (wire_copied at.0 i at.1 at.2) ∙ ap (λ (z : ℕ). w.partner (Port z i)) at.3 ∙ e)
      go (inr out) = old_wire (Port y i) (Port y i) v refl (sym (wire_kept y i out) ∙ e)
  wire_there (Free k) v e = go at.0.0 at.0.1 at.1
    where
      here : (x : End) × (slice_get of_new k ≡ Some x) × (point_of x ≡ v)
      here = mapped point_of (slice_get of_new k) v (sym (shows_w.wires (Free k)) ∙ e)

      at : (p : ℕ × ℕ) × (slice_get ends k ≡ Some p)
      at = at_index ends k (let l = slice_get_within of_new k here.0 here.1 in let m = lists.many in omega (arith, l, m))

      go : (i f : ℕ) → slice_get ends k ≡ Some (i, f) → IsWire (Free k) v
      go zero f s = old_wire (Free f) (Free k) v (ap Free (lists.each k 0 f s).0) (sym (free_kept k f s) ∙ e)
      go (suc zero) f s = new_wire (Free f) (Free k) v (ap Free (lists.each k 1 f s).0) (sym (free_copied k f s) ∙ e)
      go (suc (suc i)) f s = absurd (let g : None ≡ Some here.0 = sym (lists.each k (suc (suc i)) f s).1 ∙ here.1 in cc)

  old_back : (p q : Point ℕ) → m.partner p ≡ Some q → w.partner (placed number name 0 p) ≡ Some (placed number name 0 q)
  old_back (Port y i) q e = wire_kept y i (no_name y (old_wired y i q e)) ∙ ap (option_map kept) e ∙ ap (λ (z : Point ℕ). Some z) (is_kept q)
  old_back (Free f) q e =
      let t = mapped point_of (slice_get of_before f) q (sym (shows_m.shown.wires (Free f)) ∙ e) in
      let at = lists.all 0 f (let l = slice_get_within of_before f t.0 t.1 in let m = shows_m.many in omega (arith, l, m)) in
      free_kept (own f) f at ∙ ap (option_map kept) e ∙ ap (λ (z : Point ℕ). Some z) (is_kept q)

  new_back : (p q : Point ℕ) → n.partner p ≡ Some q → w.partner (placed number name 1 p) ≡ Some (placed number name 1 q)
  new_back (Port x i) q e = let k = wired_agent x i q e in wire_copied k.0 i (record { 0 = x }) k.1 ∙ ap (option_map to) e ∙ ap (λ (z : Point ℕ). Some z) (is_copied q)
  new_back (Free f) q e =
      let t = mapped point_of (slice_get of_from f) q (sym (shows_n.shown.wires (Free f)) ∙ e) in
      let at = lists.all 1 f (let l = slice_get_within of_from f t.0 t.1 in let m = shows_n.many in omega (arith, l, m)) in
      free_copied (number_in numbers f) f at ∙ ap (option_map to) e ∙ ap (λ (z : Point ℕ). Some z) (is_copied q)

  wire_back : (u v : Point ℕ) (i : ℕ) (p q : Point ℕ) → IsAtNumber number (old_and_new name) i p u → IsAtNumber number (old_and_new name) i q v → (two_parts m n i).partner p ≡ Some q → w.partner u ≡ Some v
  wire_back u v zero p q at too e = ap w.partner (is_placed number name 0 p u at) ∙ old_back p q e ∙ ap (λ (z : Point ℕ). Some z) (sym (is_placed number name 0 q v too))
  wire_back u v (suc zero) p q at too e = ap w.partner (is_placed number name 1 p u at) ∙ new_back p q e ∙ ap (λ (z : Point ℕ). Some z) (sym (is_placed number name 1 q v too))
  wire_back u v (suc (suc i)) p q at too e = absurd (let f : None ≡ Some q = e in cc)

  -- ---- agents

  abbrev IsAgent : ℕ → ℕ → Type 0
  IsAgent y s = (i : ℕ) × (x : ℕ) × (old_and_new name i x ≡ y) × ((two_parts m n i).symbol x ≡ Some s)

  agent_there : (y s : ℕ) → w.symbol y ≡ Some s → IsAgent y s
  agent_there y s e = go (named_or agents name y)
    where
      go : NamedOr agents name y → IsAgent y s
      go (inl at) = (1, at.1.0, at.3, sym (symbol_copied at.0 at.1 at.2) ∙ ap w.symbol at.3 ∙ e)
      go (inr out) = (0, y, refl, sym (symbol_kept y out) ∙ e)

  agent_back : (y s i x : ℕ) → old_and_new name i x ≡ y → (two_parts m n i).symbol x ≡ Some s → w.symbol y ≡ Some s
  agent_back y s zero x is e = ap w.symbol (sym is) ∙ symbol_kept x (no_name x (old_live x s e)) ∙ e
  agent_back y s (suc zero) x is e = let k = agent_of x s e in ap w.symbol (sym is) ∙ symbol_copied k.0 (record { 0 = x }) k.1 ∙ e
  agent_back y s (suc (suc i)) x is e = absurd (let f : None ≡ Some s = e in cc)

  beside : IsBeside (two_parts m n) (old_and_new name) number w
  beside = record {
    agents = λ y s. (agent_there y s, λ t. agent_back y s t.0 t.1 t.2 t.3);
    wires = λ u v. (wire_there u v, λ t. wire_back u v t.0 t.1 t.2 t.3 t.4 t.5);
  }

  kept_apart : KeepsApart (two_parts m n) (old_and_new name)
  kept_apart zero zero x y sx sy e = (refl, e)
  kept_apart zero (suc zero) x y sx sy e =
      let s = has_value (m.symbol x) sx in let t = has_value (n.symbol y) sy in let k = agent_of y t.0 t.1 in
      absurd (no_name x (old_live x s.0 s.1) k.0 (record { 0 = y }) k.1 (sym e))
  kept_apart (suc zero) zero x y sx sy e =
      let s = has_value (m.symbol y) sy in let t = has_value (n.symbol x) sx in let k = agent_of x t.0 t.1 in
      absurd (no_name y (old_live y s.0 s.1) k.0 (record { 0 = x }) k.1 e)
  kept_apart (suc zero) (suc zero) x y sx sy e =
      let s = has_value (n.symbol x) sx in let t = has_value (n.symbol y) sy in let j = agent_of x s.0 s.1 in let k = agent_of y t.0 t.1 in
      (refl, ap (λ (z : CellNo). z.0) (same_Some (record { 0 = x }) (record { 0 = y }) (sym j.1 ∙ ap (slice_get agents) (copied.once j.0 k.0 (record { 0 = x }) (record { 0 = y }) j.1 k.1 e) ∙ k.1)))
  kept_apart (suc (suc i)) j x y sx sy e = absurd (let f : false ≡ true = sx in cc)
  kept_apart zero (suc (suc j)) x y sx sy e = absurd (let f : false ≡ true = sy in cc)
  kept_apart (suc zero) (suc (suc j)) x y sx sy e = absurd (let f : false ≡ true = sy in cc)

  pub stands : map (λ t. Some t) w.free ≡ map (λ p. slice_get (two_parts m n p.0).free p.1) ends → StandBeside m n name ends w
  stands free = record {
    number = number;
    beside = beside;
    numbered = λ k p e. (lists.each k p.0 p.1 e).0;
    all = lists.all;
    free = free;
    apart = kept_apart;
  }

pub copies_stand_beside : CopiesStandBeside
copies_stand_beside from before old new agents names numbers own of_from of_before of_new ends n m w shows_n shows_m all numbered copied lists shows_w free =
    stands from before old new agents names numbers own of_from of_before of_new ends n m w
    (record { shows_n = shows_n; shows_m = shows_m; all = all; numbered = numbered; copied = copied; lists = lists; shows_w = shows_w })
    free

-- ---- lists of free ends

pub length-ends_of : (i first count : ℕ) → length (ends_of i first count) ≡ count
length-ends_of i first zero = refl
length-ends_of i first (suc count) = ap suc (length-ends_of i (suc first) count)

pub ends_there : (i first count k : ℕ) → k < count → slice_get (ends_of i first count) k ≡ Some (i, first + k)
ends_there i first zero k less = absurd (omega (arith, less))
ends_there i first (suc count) zero less = ap (λ (z : ℕ). Some (i, z)) (let e : first ≡ first + 0 = omega arith in e)
ends_there i first (suc count) (suc k) less = ends_there i (suc first) count k (omega (arith, less)) ∙ ap (λ (z : ℕ). Some (i, z)) (let e : suc first + k ≡ first + suc k = omega arith in e)

pub past_first : {X : Type 0} (xs ys : List X) (j : ℕ) → slice_get (xs ++ ys) (length xs + j) ≡ slice_get ys j
past_first [] ys j = ap (slice_get ys) (let e : 0 + j ≡ j = omega arith in e)
past_first (x ∷ xs) ys j = ap (slice_get (x ∷ xs ++ ys)) (let e : suc (length xs) + j ≡ suc (length xs + j) = omega arith in e) ∙ past_first xs ys j
