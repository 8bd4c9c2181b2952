-- The cells after an interaction, number by number.
use Rattle.std.proofs.Common.{◌≡◌, ◌≢◌, ◌⊎◌, inl, inr, ◌+◌, ◌^◌, ◌<◌, ◌≤◌, ℕ, zero, suc, max, Option, Some, None, List, [], ◌∷◌, ◌++◌, map, length, slice_get, refl, sym, ap, subst, ◌∙◌, arith}
use Rattle.std.specs.Prelude.{option_and_then}
use Rattle.std.proofs.lemmas.Option.{slice_get_within}
use Rattle.in_interaction.specs.After.{AreEndsAfter, IsAgentAfter, StaysAt, IsNewAt, IsCellAfter, AreCellsAfter, cell_at, IsFreeAfter, AreOuterEnds, AreFreeAfter}
use Rattle.in_net.specs.Renewing.{Rejoins}
use Rattle.in_interaction.specs.Following.{SiteParts, IsSite, IsPartnerAfter}
use Rattle.in_interaction.specs.Interacting.{unused, numbers_after}
use Rattle.in_interaction.specs.Listing.{AreEndsOf}
use Rattle.in_syntax.specs.TextLimits.{most_member_agents}
use Rattle.in_net.specs.Nets as nets
use Rattle.in_net.specs.Parts.{cell_in}
use Rattle.in_net.specs.declared.nets.Cell.{Cell}
use Rattle.in_net.specs.declared.nets.FreeEnd.{FreeEnd}
use Rattle.in_net.specs.declared.nets.Point.{Point}
use Rattle.in_base.proofs.Places.{more_at, last_at}
use Rattle.in_net.proofs.Public.{cell_within}
use Rattle.in_base.proofs.Places.{some_same}
use Rattle.in_interaction.proofs.Stepping.Unused.{few_unused, unused_rises, unused_free, unused_apart}
use Rattle.in_base.proofs.Each.{at_index}

-- ---- ends

pub no_ends : (s : SiteParts) (y : ℕ) → AreEndsAfter s y []
no_ends s y i q e = cc

pub more_ends : (s : SiteParts) (y : ℕ) (ends : List Point) (q : Point) → AreEndsAfter s y ends → IsPartnerAfter s (nets.Port y (length ends)) q → AreEndsAfter s y (ends ++ q ∷ [])
more_ends s y ends q h k i p e = go (more_at ends q p i e)
  where
    go : (slice_get ends i ≡ Some p) ⊎ ((i ≡ length ends) × (q ≡ p)) → IsPartnerAfter s (nets.Port y i) p
    go (inl f) = h i p f
    go (inr f) = subst (λ (z : Point). IsPartnerAfter s (nets.Port y i) z) f.1 (subst (λ (j : ℕ). IsPartnerAfter s (nets.Port y j) q) (sym f.0) k)

-- ---- one cell

absent : (o : Option Cell) (c : Cell) → o ≡ None → o ≡ Some c → ⊥
absent o c h k = cc

same_cell : (c d : Cell) → ◌≡◌ {A = Option Cell} (Some c) (Some d) → c ≡ d
same_cell c d e = cc

module _ (s : SiteParts) where
  -- a number of the old net is no new one
  not_new : (y : ℕ) (c d : Cell) → cell_in s.net y ≡ Some c → IsNewAt s y d → ⊥
  not_new y c d e h = absent (cell_in s.net y) c (subst (λ (z : ℕ). cell_in s.net z ≡ None) h.name (unused_free s.net.cells h.agent)) e

  pub after_kept : (y : ℕ) (c d : Cell) → StaysAt s y c → IsAgentAfter s y c d → IsCellAfter s y (Some d)
  after_kept y c d h a = record {
    stays = λ e k. (d, refl, subst (λ (z : Cell). IsAgentAfter s y z d) (some_same (cell_in s.net y) c e h.there k.there) a);
    fresh = λ e k. absurd (not_new y c e h.there k);
    only = λ e k. (c, inl h, subst (IsAgentAfter s y c) (same_cell d e k) a);
  }

  pub after_pair : (y : ℕ) (c : Cell) → cell_in s.net y ≡ Some c → (y ≡ s.one.0) ⊎ (y ≡ s.two.0) → IsCellAfter s y None
  after_pair y c h o = record {
    stays = λ e k. absurd (elim o [ inl f ↦ k.one f | inr f ↦ k.two f ]);
    fresh = λ e k. absurd (not_new y c e h k);
    only = λ e k. cc;
  }

  pub after_new : (y k : ℕ) (c d : Cell) → cell_in s.net y ≡ None → k < length s.names → unused s.net.cells k ≡ y → cell_in s.rule.member k ≡ Some c → IsAgentAfter s (unused s.net.cells k) c d → IsCellAfter s y (Some d)
  after_new y k c d none at_index name there a = record {
    stays = λ e h. absurd (absent (cell_in s.net y) e none h.there);
    fresh = λ e h. (d, refl, subst (λ (z : Cell). IsAgentAfter s y z d) (same_new e h) here);
    only = λ e h. (c, inr (record { agent = k; within = at_index; name = name; there = there }), subst (IsAgentAfter s y c) (same_cell d e h) here);
  }
    where
      here : IsAgentAfter s y c d
      here = subst (λ (z : ℕ). IsAgentAfter s z c d) name a

      same_new : (e : Cell) → IsNewAt s y e → c ≡ e
      same_new e h = some_same (cell_in s.rule.member k) c e there (ap (cell_in s.rule.member) (unused_apart s.net.cells k h.agent (name ∙ sym h.name)) ∙ h.there)

  pub after_no_new : (y k : ℕ) → cell_in s.net y ≡ None → unused s.net.cells k ≡ y → cell_in s.rule.member k ≡ None → IsCellAfter s y None
  after_no_new y k none name there = record {
    stays = λ e h. absurd (absent (cell_in s.net y) e none h.there);
    fresh = λ e h. absurd (absent (cell_in s.rule.member k) e there (ap (cell_in s.rule.member) (unused_apart s.net.cells k h.agent (name ∙ sym h.name)) ∙ h.there));
    only = λ e h. cc;
  }

  pub after_no_name : (y : ℕ) → cell_in s.net y ≡ None → ((k : ℕ) → k < length s.names → unused s.net.cells k ≢ y) → IsCellAfter s y None
  after_no_name y none unnamed = record {
    stays = λ e h. absurd (absent (cell_in s.net y) e none h.there);
    fresh = λ e h. absurd (unnamed h.agent h.within h.name);
    only = λ e h. cc;
  }

-- ---- all cells

pub name_below : (cs : List (Option Cell)) (count k : ℕ) → k < count → unused cs k < numbers_after cs count
name_below cs zero k h = absurd (omega (arith, h))
name_below cs (suc n) k h = by_last (let o : (k < n) ⊎ (k ≡ n) = grind arith in o)
  where
    by_last : (k < n) ⊎ (k ≡ n) → unused cs k < max (length cs) (suc (unused cs n))
    by_last (inl l) = let r = unused_rises cs k n l in omega (arith, r)
    by_last (inr e) = let r : unused cs k ≡ unused cs n = ap (unused cs) e in omega (arith, r)

pub old_below : (cs : List (Option Cell)) (count : ℕ) → length cs ≤ numbers_after cs count
old_below cs zero = omega arith
old_below cs (suc n) = omega arith

pub numbers_fit : (s : SiteParts) → IsSite s → numbers_after s.net.cells (length s.rule.member.cells) < 2 ^ 32
numbers_fit s site = go (length s.rule.member.cells) site.few
  where
    go : (k : ℕ) → k ≤ most_member_agents → numbers_after s.net.cells k < 2 ^ 32
    go zero h = site.whole.agents
    go (suc k) h = let few = few_unused s.net.cells k in let room = site.room in let all = site.whole.agents in omega (arith, few, room, all, h)

pub more_cells : (s : SiteParts) (cells : List (Option Cell)) (o : Option Cell) → ((y : ℕ) → y < length cells → IsCellAfter s y (cell_at cells y)) → IsCellAfter s (length cells) o →
    (y : ℕ) → y < length cells + 1 → IsCellAfter s y (cell_at (cells ++ o ∷ []) y)
more_cells s cells o h k y lt = by_last (let o : (y < length cells) ⊎ (y ≡ length cells) = grind arith in o)
  where
    before : (cs : List (Option Cell)) (y : ℕ) → y < length cs → cell_at cs y ≡ cell_at (cs ++ o ∷ []) y
    before [] y l = absurd (omega (arith, l))
    before (c ∷ cs) zero l = refl
    before (c ∷ cs) (suc y) l = before cs y (omega (arith, l))

    by_last : (y < length cells) ⊎ (y ≡ length cells) → IsCellAfter s y (cell_at (cells ++ o ∷ []) y)
    by_last (inl l) = subst (IsCellAfter s y) (before cells y l) (h y l)
    by_last (inr e) =
        let here : o ≡ cell_at (cells ++ o ∷ []) (length cells) = ap (option_and_then (λ (c : Option Cell). c)) (sym (last_at cells o)) in
        subst (λ (z : ℕ). IsCellAfter s z (cell_at (cells ++ o ∷ []) z)) (sym e) (subst (IsCellAfter s (length cells)) here k)

-- past the last number there is none
pub all_cells : (s : SiteParts) → IsSite s → (cells : List (Option Cell)) → length cells ≡ numbers_after s.net.cells (length s.rule.member.cells) → ((y : ℕ) → y < length cells → IsCellAfter s y (cell_at cells y)) → AreCellsAfter s cells
all_cells s site cells many h y = by_last (let o : (y < length cells) ⊎ (length cells ≤ y) = grind arith in o)
  where
    past : (cs : List (Option Cell)) (y : ℕ) → length cs ≤ y → None ≡ cell_at cs y
    past [] y l = refl
    past (c ∷ cs) zero l = absurd (omega (arith, l))
    past (c ∷ cs) (suc y) l = past cs y (omega (arith, l))

    by_last : (y < length cells) ⊎ (length cells ≤ y) → IsCellAfter s y (cell_at cells y)
    by_last (inl l) = h y l
    by_last (inr l) = subst (IsCellAfter s y) (past cells y l) (record {
      stays = λ c k.
          let a = cell_within s.net.cells y c k.there in
          let b = old_below s.net.cells (length s.rule.member.cells) in
          absurd (omega (arith, a, b, l, many));
      fresh = λ c k.
          let a = k.within in
          let n = site.many in
          let b = name_below s.net.cells (length s.rule.member.cells) k.agent (omega (arith, a, n)) in
          let e = k.name in
          absurd (omega (arith, b, e, l, many));
      only = λ c k. cc;
    })

-- ---- free ends

pub more_outer : (s : SiteParts) (ends : List Point) (q : Point) → ((k : ℕ) (p : Point) → slice_get ends k ≡ Some p → IsPartnerAfter s (nets.Free k) p) → IsPartnerAfter s (nets.Free (length ends)) q →
    (k : ℕ) (p : Point) → slice_get (ends ++ q ∷ []) k ≡ Some p → IsPartnerAfter s (nets.Free k) p
more_outer s ends q each here k p got = go (more_at ends q p k got)
  where
    go : (slice_get ends k ≡ Some p) ⊎ ((k ≡ length ends) × (q ≡ p)) → IsPartnerAfter s (nets.Free k) p
    go (inl old) = each k p old
    go (inr new) = subst (λ (z : Point). IsPartnerAfter s (nets.Free k) z) new.1 (subst (λ (j : ℕ). IsPartnerAfter s (nets.Free j) q) (sym new.0) here)

-- free ends that get their partners
pub all_rejoined : (s : SiteParts) (ends : List Point) (free : List FreeEnd) → AreOuterEnds s ends → Rejoins ends s.net.free free → AreFreeAfter s free
all_rejoined s ends free outer new = record {
  many = new.many;
  each = λ k f g there got.
      let lt = slice_get_within s.net.free k f there in
      let many = outer.many in
      let q = at_index ends k (omega (arith, lt, many)) in
      let made : FreeEnd = record { name = f.name; kind = f.kind; end = q.0 } in
      let same : made ≡ g = some_same (slice_get free k) made g (new.each k f q.0 there q.1) got in
      subst (IsFreeAfter s k f) same (record { name = refl; kind = refl; end = outer.each k q.0 q.1 });
}

pub ends_rejoined : (ends : List Point) (old free : List FreeEnd) → length ends ≡ length old → Rejoins ends old free → AreEndsOf ends free
ends_rejoined ends old free many new = go free ends (new.many ∙ sym many) (λ k g q got at. one k g q got at)
  where
    one : (k : ℕ) (g : FreeEnd) (q : Point) → slice_get free k ≡ Some g → slice_get ends k ≡ Some q → g.end ≡ q
    one k g q got at =
        let lt = slice_get_within ends k q at in
        let f = at_index old k (omega (arith, lt, many)) in
        let made : FreeEnd = record { name = f.0.name; kind = f.0.kind; end = q } in
        ap (λ (z : FreeEnd). z.end) (some_same (slice_get free k) g made got (new.each k f.0 q f.1 at))

    go : (gs : List FreeEnd) (qs : List Point) → length gs ≡ length qs → ((k : ℕ) (g : FreeEnd) (q : Point) → slice_get gs k ≡ Some g → slice_get qs k ≡ Some q → g.end ≡ q) → map (λ (f : FreeEnd). f.end) gs ≡ qs
    go [] [] e h = refl
    go [] (q ∷ qs) e h = absurd (omega (arith, e))
    go (g ∷ gs) [] e h = absurd (omega (arith, e))
    go (g ∷ gs) (q ∷ qs) e h = ap (λ (z : Point). z ∷ map (λ (f : FreeEnd). f.end) gs) (h 0 g q refl refl) ∙ ap (λ (zs : List Point). q ∷ zs) (go gs qs (omega (arith, e)) (λ k x y a b. h (suc k) x y a b))
