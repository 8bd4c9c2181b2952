-- The net that cells show once agents were copied to them.
use Rattle.std.proofs.Common.{◌≡◌, ◌≢◌, ◌⊎◌, inl, inr, ℕ, zero, suc, Option, Some, None, List, [], ◌∷◌, length, slice_get, refl, sym, ap, subst, ◌∙◌, arith}
use Rattle.std.specs.Prelude.{option_map}
use Rattle.std.proofs.lemmas.Option.{same_Some, slice_get-map, slice_get_within}
use native.Mathlib.Decide.{ℕ_discrete}
use Rattle.in_arena.specs.Arenas.{ArenaView, state_at}
use Rattle.in_arena.specs.States.{State, Vacant, Leased, Live, IsLeased, IsLive, end_at, word_of}
use Rattle.in_arena.specs.declared.content.CellNo.{CellNo}
use Rattle.in_arena.specs.declared.content.End.{End}
use Rattle.in_arena.specs.declared.content.End.TheVariants.{Cell, Free as FreeEnd}
use Rattle.in_net.specs.Nets.{Point, Port, Net}
use Rattle.in_gluing.proofs.Public.{mapped}
use Rattle.in_gluing.specs.Joining.{WiresLeadBack}
use Rattle.in_cells.specs.Shown.{IsShown, point_of, stands_at}
use Rattle.in_cells.specs.Copying.{LeadsInto, moved, moved_end, name_in, number_in}
use Rattle.in_cells.specs.Laws.{moved_point, CopiesAreShown, NoneIsLeased, AllAreClosed}

-- ---- states and points

pub word_moved : (name number : ℕ → ℕ) (x : State) → word_of (moved name number x) ≡ word_of x
word_moved name number Vacant = refl
word_moved name number Leased = refl
word_moved name number (Live w es) = refl

pub end_moved : (name number : ℕ → ℕ) (x : State) (i : ℕ) → end_at (moved name number x) i ≡ option_map (moved_end name number) (end_at x i)
end_moved name number Vacant i = refl
end_moved name number Leased i = refl
end_moved name number (Live w es) i = slice_get-map (moved_end name number) es i

pub point_moved : (name number : ℕ → ℕ) (o : Option End) → option_map point_of (option_map (moved_end name number) o) ≡ option_map (moved_point name number) (option_map point_of o)
point_moved name number None = refl
point_moved name number (Some (Cell c i)) = refl
point_moved name number (Some (FreeEnd k)) = refl

pub end_live : (x : State) (i : ℕ) (e : End) → end_at x i ≡ Some e → IsLive x
end_live Vacant i e h = let f : None ≡ Some e = h in cc
end_live Leased i e h = let f : None ≡ Some e = h in cc
end_live (Live w es) i e h = tt

-- ---- some agents

pub copies_are_shown : CopiesAreShown
copies_are_shown from old new agents names ends of_from of_old of_new n m w shows_n shows_m copied shows_w = record {
  symbols = λ k c s. shows_w.agents (name_in names c.0) ∙ ap word_of (copied.each k c s).1 ∙ word_moved (name_in names) (number_in ends) (state_at from c.0) ∙ sym (shows_n.agents c.0);
  wires = λ k i c s. (
      shows_w.wires (Port (name_in names c.0) i) ∙ ap (λ x. option_map point_of (end_at x i)) (copied.each k c s).1 ∙ ap (option_map point_of) (end_moved (name_in names) (number_in ends) (state_at from c.0) i)
      ∙ point_moved (name_in names) (number_in ends) (end_at (state_at from c.0) i) ∙ ap (option_map (moved_point (name_in names) (number_in ends))) (sym (shows_n.wires (Port c.0 i)))
      );
  are_new = λ k c s. shows_m.agents (name_in names c.0) ∙ ap word_of (copied.each k c s).0;
  apart = λ j k c d s r e. same_Some c d (sym s ∙ ap (slice_get agents) (copied.once j k c d s r e) ∙ r);
  others = λ y out. (
    shows_w.agents y ∙ ap word_of (copied.others y out) ∙ sym (shows_m.agents y),
    λ i. shows_w.wires (Port y i) ∙ ap (λ x. option_map point_of (end_at x i)) (copied.others y out) ∙ sym (shows_m.wires (Port y i)),
  );
}

-- ---- all agents

module _ (a : ArenaView) (of_a : List End) (n : Net ℕ) (shown : IsShown a of_a n) (back : WiresLeadBack n) where
  -- each point to which a wire leads has an end
  leads_back : (u v : Point ℕ) → n.partner u ≡ Some v → (e : End) × (stands_at a of_a v ≡ Some e)
  leads_back u v h = let t = mapped point_of (stands_at a of_a v) u (sym (shown.wires v) ∙ back.0 u v h) in (t.0, t.1)

pub all_are_closed : AllAreClosed
all_are_closed a agents of_a n shown back all k i c e s at = go e (leads_back a of_a n shown back (Port c.0 i) (point_of e) (shown.wires (Port c.0 i) ∙ ap (option_map point_of) at))
  where
    go : (e : End) → (f : End) × (stands_at a of_a (point_of e) ≡ Some f) → LeadsInto agents (length of_a) e
    go (Cell d j) f = all d.0 (end_live (state_at a d.0) j f.0 f.1)
    go (FreeEnd k) f = slice_get_within of_a k f.0 f.1

-- ---- names

-- a number is the name of one of these agents, or of none
abbrev pub NamedOr : List CellNo → (ℕ → ℕ) → ℕ → Type 0
NamedOr agents name y = ((k : ℕ) × (c : CellNo) × (slice_get agents k ≡ Some c) × (name c.0 ≡ y)) ⊎ ((k : ℕ) (c : CellNo) → slice_get agents k ≡ Some c → name c.0 ≡ y → ⊥)

pub named_or : (agents : List CellNo) (name : ℕ → ℕ) (y : ℕ) → NamedOr agents name y
named_or [] name y = inr (λ k c e. (let f : None ≡ Some c = e in cc))
named_or (d ∷ agents) name y = elim (ℕ_discrete (name d.0) y) [
  | yes e ↦ inl (0, d, refl, e)
  | no ne ↦ go ne (named_or agents name y)
]
  where
    go : name d.0 ≢ y → NamedOr agents name y → NamedOr (d ∷ agents) name y
    go ne (inl at) = inl (suc at.0, at.1, at.2, at.3)
    go ne (inr out) = inr later
      where
        later : (k : ℕ) (c : CellNo) → slice_get (d ∷ agents) k ≡ Some c → name c.0 ≡ y → ⊥
        later zero c e f = ne (ap (λ (z : CellNo). name z.0) (same_Some d c e) ∙ f)
        later (suc k) c e f = out k c e f

pub not_leased : (name number : ℕ → ℕ) (x : State) → IsLive x → IsLeased (moved name number x) → ⊥
not_leased name number Vacant live leased = live
not_leased name number Leased live leased = live
not_leased name number (Live w es) live leased = leased

pub none_is_leased : NoneIsLeased
none_is_leased from old new agents names ends part copied none n less leased = go (named_or agents (name_in names) n)
  where
    go : NamedOr agents (name_in names) n → ⊥
    go (inl at) =
        not_leased (name_in names) (number_in ends) (state_at from at.1.0) (part.live at.0 at.1 at.2)
        (subst IsLeased (ap (state_at new) (sym at.3) ∙ (copied.each at.0 at.1 at.2).1) leased)
    go (inr out) = none n (let m = copied.many in omega (arith, less, m)) (subst IsLeased (copied.others n out) leased)
