-- A wire that is cut and joined again, and nets side by side, as gluings of two parts.
use Rattle.std.proofs.Common.{◌≡◌, ◌⊎◌, ◌<◌, ◌≤◌, ◌+◌, ℕ, zero, suc, Bool, false, cond, nat_eq, Option, Some, None, IsSome, List, [], ◌∷◌, ◌++◌, map, length, length-append, slice_get, refl, sym, subst, ap, ◌∙◌, inl, inr, arith, eq-eqb}
use native.Mathlib.Decide.{ℕ_discrete}
use Rattle.std.proofs.lemmas.Bool.{ne_eqb}
use Rattle.in_symbols.specs.declared.symbols.PortType.{PortType}
use Rattle.std.proofs.lemmas.Option.{same_Some}
use Rattle.in_net.specs.Nets.{Point, Port, Free, Signature, Net, IsNet}
use Rattle.in_check.specs.Runs.{Reached, at_start, then_step, then_renamed}
use Rattle.in_check.proofs.Public.{sound_reached, renamed_self}
use Rattle.in_order.specs.Laws.{from_net}
use Rattle.in_check.specs.Systems.{System, IsSound, IsSoundSystem}
use Rattle.in_gluing.specs.AsGluing.{empty, old_and_new, two_parts}
use Rattle.in_gluing.specs.Gluing.{Cuts, IsGlued}
use Rattle.in_gluing.specs.Joining.{HasOwnNumber, IsInUse, IsAtNumber, IsBeside, IsJoinedBy, IsOneMore, IsNeither, IsRenumbered, JoinsEnds, WiresLeadBack}
use Rattle.in_gluing.specs.Laws.{KeepsApart}
use Rattle.in_order.specs.Leading.{Leads, CutOnceIsSound, CutLeadsAreJoined, BesideLeads}
use Rattle.in_gluing.specs.SideBySide.{StandBeside}
use Rattle.in_gluing.proofs.Public.{beside_joins_none, all_joined_is_glued, cuts_are_joined, joins_next, none_some}
use Rattle.in_order.proofs.Gluing.Sound.{sound_is_start}
use Rattle.in_order.proofs.Gluing.SoundCuts.{cuts_keep_sound}
use Rattle.in_order.proofs.Parts.Leading.{empty_sound, no_wire, parts_lead_the_whole}

pub cut_once_is_sound : CutOnceIsSound
cut_once_is_sound p w m sound c = cuts_keep_sound p w c.one c.other c.first c.second m sound c.wire c.type_one c.type_other c.free c.cut

pub leads_back : (p : System) (n : Net ℕ) → IsSound p n → WiresLeadBack n
leads_back p n h = (h.net.back, h.net.apart)

-- ---- one part whose last two free ends are joined

nothing : IsSome {T = ℕ} None → ⊥
nothing h = cc

abbrev no_joint : ℕ × ℕ → Option (ℕ × ℕ)
no_joint p = None

-- the free ends from this one on, of the first part
abbrev own : ℕ → ℕ → List (ℕ × ℕ)
own first zero = []
own first (suc k) = (0, first) ∷ own (suc first) k

own_at : (first many k : ℕ) → k < many → slice_get (own first many) k ≡ Some (0, first + k)
own_at first zero k l = absurd (omega (arith, l))
own_at first (suc many) zero l = ap (λ (z : ℕ). Some (0, z)) (let e : first ≡ first + 0 = omega arith in e)
own_at first (suc many) (suc k) l = own_at (suc first) many k (omega (arith, l)) ∙ ap (λ (z : ℕ). Some (0, z)) (let e : suc first + k ≡ first + suc k = omega arith in e)

at_own : (first many k : ℕ) (p : ℕ × ℕ) → slice_get (own first many) k ≡ Some p → (k < many) × (p ≡ (0, first + k))
at_own first zero k p e = cc
at_own first (suc many) zero p e = ((omega arith), (let f : Some (0, first) ≡ Some p = e in let g : first ≡ first + 0 = omega arith in cc))
at_own first (suc many) (suc k) p e =
    let r = at_own (suc first) many k p e in
    let l = r.0 in
    ((omega (arith, l)), r.1 ∙ ap (λ (z : ℕ). (0, z)) (let f : suc first + k ≡ first + suc k = omega arith in f))

module _ (f : ℕ) where
  -- the last two of f + 2 free ends
  abbrev across_by : Bool → Bool → Option (ℕ × ℕ)
  across_by at_first at_second = cond at_first (Some (0, suc f)) (cond at_second (Some (0, f)) None)

  abbrev across : ℕ × ℕ → Option (ℕ × ℕ)
  across (zero, e) = across_by (nat_eq e f) (nat_eq e (suc f))
  across (suc i, e) = None

  abbrev cuts : Cuts
  cuts = record { across = across; outer = own 0 f }

  abbrev none : Cuts
  none = record { across = no_joint; outer = own 0 f }

  abbrev number : ℕ × ℕ → ℕ
  number p = p.1

  at_first : across (0, f) ≡ Some (0, suc f)
  at_first = ap (λ (b : Bool). across_by b (nat_eq f (suc f))) (eq-eqb f f refl)

  at_second : across (0, suc f) ≡ Some (0, f)
  at_second = ap (λ (b : Bool). across_by b (nat_eq (suc f) (suc f))) (ne_eqb (suc f) f (λ e. omega (arith, e))) ∙ ap (λ (b : Bool). across_by false b) (eq-eqb (suc f) (suc f) refl)

  -- a joint is the one between the two
  joint_is : (p q : ℕ × ℕ) → across p ≡ Some q → ((p ≡ (0, f)) × (q ≡ (0, suc f))) ⊎ ((p ≡ (0, suc f)) × (q ≡ (0, f)))
  joint_is (zero, e) q h = go (ℕ_discrete e f) (ℕ_discrete e (suc f))
    where
      go : Dec (e ≡ f) → Dec (e ≡ suc f) → (◌≡◌ {A = ℕ × ℕ} (0, e) (0, f) × (q ≡ (0, suc f))) ⊎ (◌≡◌ {A = ℕ × ℕ} (0, e) (0, suc f) × (q ≡ (0, f)))
      go (yes a) d = inl (ap (λ (z : ℕ). (0, z)) a, (let g : Some (0, suc f) ≡ Some q = sym at_first ∙ ap (λ (z : ℕ). across (0, z)) (sym a) ∙ h in cc))
      go (no c) (yes a) = inr (ap (λ (z : ℕ). (0, z)) a, (let g : Some (0, f) ≡ Some q = sym at_second ∙ ap (λ (z : ℕ). across (0, z)) (sym a) ∙ h in cc))
      go (no c) (no d) = absurd (none_some (across_by false false) q refl (sym (ap (λ (b : Bool). across_by b (nat_eq e (suc f))) (ne_eqb e f c) ∙ ap (λ (b : Bool). across_by false b) (ne_eqb e (suc f) d)) ∙ h))
  joint_is (suc i, e) q h = cc

  is_one_more : IsOneMore none cuts (0, f) (0, suc f)
  is_one_more = record {
    free_one = refl;
    free_other = refl;
    joints = λ p q. ((λ h. inr (joint_is p q h)), (λ h. back p q h));
  }
    where
      back : (p q : ℕ × ℕ) → (◌≡◌ {A = Option (ℕ × ℕ)} None (Some q)) ⊎ ((p ≡ (0, f)) × (q ≡ (0, suc f))) ⊎ ((p ≡ (0, suc f)) × (q ≡ (0, f))) → across p ≡ Some q
      back p q (inl h) = cc
      back p q (inr (inl h)) = ap across h.0 ∙ at_first ∙ ap (λ (z : ℕ × ℕ). Some z) (sym h.1)
      back p q (inr (inr h)) = ap across h.0 ∙ at_second ∙ ap (λ (z : ℕ × ℕ). Some z) (sym h.1)

  module _ (m : Net ℕ) (back : WiresLeadBack m) (low : (e : ℕ) (u : Point ℕ) → m.partner (Free e) ≡ Some u → e < suc (suc f)) where
    abbrev parts : ℕ → Net ℕ
    parts = two_parts m empty

    abbrev same : ℕ → ℕ → ℕ
    same = old_and_new (λ x. x)

    beside : IsBeside parts same number m
    beside = record {
      agents = λ y s. ((λ e. (0, y, refl, e)), (λ r. agent r.0 r.1 y s r.2 r.3));
      wires = λ u v. ((λ e. (0, u, v, own_point u, own_point v, e)), (λ r. wire r.0 r.1 r.2 u v r.3 r.4 r.5));
    }
      where
        agent : (i x y s : ℕ) → same i x ≡ y → (parts i).symbol x ≡ Some s → m.symbol y ≡ Some s
        agent zero x y s e h = ap m.symbol (sym e) ∙ h
        agent (suc zero) x y s e h = cc
        agent (suc (suc i)) x y s e h = cc

        own_point : (u : Point ℕ) → IsAtNumber number same 0 u u
        own_point (Port x k) = refl
        own_point (Free e) = refl

        is_own : (p u : Point ℕ) → IsAtNumber number same 0 p u → u ≡ p
        is_own (Port x k) u e = e
        is_own (Free k) u e = e

        wire : (i : ℕ) (p q u v : Point ℕ) → IsAtNumber number same i p u → IsAtNumber number same i q v → (parts i).partner p ≡ Some q → m.partner u ≡ Some v
        wire zero p q u v a b e = ap m.partner (is_own p u a) ∙ e ∙ ap (λ (z : Point ℕ). Some z) (sym (is_own q v b))
        wire (suc zero) p q u v a b e = absurd (no_wire p q e)
        wire (suc (suc i)) p q u v a b e = absurd (no_wire p q e)

    -- only free ends of the first part are in use
    in_use : (p : ℕ × ℕ) → IsInUse parts cuts p → p.0 ≡ 0
    in_use (zero, e) h = refl
    in_use (suc i, e) (inl h) = absurd (unused i (Free e) h.0 h.1)
      where
        unused : (i : ℕ) (u v : Point ℕ) → (parts (suc i)).partner u ≡ Some v → ⊥
        unused zero u v e = no_wire u v e
        unused (suc i) u v e = no_wire u v e
    in_use (suc i, e) (inr (inl h)) = absurd (unused i h.0 (Free e) h.1)
      where
        unused : (i : ℕ) (u v : Point ℕ) → (parts (suc i)).partner u ≡ Some v → ⊥
        unused zero u v e = no_wire u v e
        unused (suc i) u v e = no_wire u v e
    in_use (suc i, e) (inr (inr h)) = elim (joint_is h.0 (suc i, e) h.1) [
      | inl r ↦ ap (λ (z : ℕ × ℕ). z.0) r.1
      | inr r ↦ ap (λ (z : ℕ × ℕ). z.0) r.1
    ]

    own_number : (e : ℕ) → HasOwnNumber parts cuts number (0, e)
    own_number e p taken same_number = let part = in_use p taken in λ i. (part i, same_number i)

    module _ (w : Net ℕ) (joins : JoinsEnds m f (suc f) w) (first second : PortType) (long : length w.free ≡ f) (free : m.free ≡ w.free ++ (first ∷ second ∷ [])) where
      joined : IsJoinedBy parts same number cuts w
      joined = joins_next parts same number none cuts (0, f) (0, suc f) m w (own_number f) (own_number (suc f)) (λ p q h. cc) back (beside_joins_none parts same number none m (λ p. refl) beside) is_one_more joins

      -- the free ends of the net after are the first ones
      within : (e : ℕ) (u v : Point ℕ) → u ≡ Free e → IsNeither f (suc f) u → m.partner u ≡ Some v → e < f
      within e u v is (one, two) h =
          let l = low e v (ap m.partner (sym is) ∙ h) in
          let no_first : e ≡ f → ⊥ = λ d. one (is ∙ ap (λ (z : ℕ). Free z) d) in
          let no_second : e ≡ suc f → ⊥ = λ d. two (is ∙ ap (λ (z : ℕ). Free z) d) in
          omega (arith, l, no_first, no_second)

      first_low : (e : ℕ) (u v : Point ℕ) → u ≡ Free e → w.partner u ≡ Some v → e < f
      first_low e u v is h = let r = (joins.wires u v).0 h in elim r.2 [
        | inl s ↦ within e u v is r.0 s
        | inr s ↦ elim s [ inl s ↦ within e u (Free f) is r.0 s.0 | inr s ↦ within e u (Free (suc f)) is r.0 s.0 ]
      ]

      second_low : (e : ℕ) (u v : Point ℕ) → v ≡ Free e → w.partner u ≡ Some v → e < f
      second_low e u v is h = let r = (joins.wires u v).0 h in elim r.2 [
        | inl s ↦ within e v u is r.1 (back.0 u v s)
        | inr s ↦ elim s [ inl s ↦ within e v (Free (suc f)) is r.1 (back.0 (Free (suc f)) v s.1) | inr s ↦ within e v (Free f) is r.1 (back.0 (Free f) v s.1) ]
      ]

      first_free : (ts : List PortType) (k : ℕ) → k < length ts → slice_get (ts ++ (first ∷ second ∷ [])) k ≡ slice_get ts k
      first_free [] k l = absurd (omega (arith, l))
      first_free (t ∷ ts) zero l = refl
      first_free (t ∷ ts) (suc k) l = first_free ts k (omega (arith, l))

      own_of : (k : ℕ) (p : ℕ × ℕ) → slice_get (own 0 f) k ≡ Some p → HasOwnNumber parts cuts number p
      own_of k p at = let r = at_own 0 f k p at in subst (HasOwnNumber parts cuts number) (sym r.1) (own_number (0 + k))

      stays : (u : Point ℕ) → ((k : ℕ) → u ≡ Free k → k < f) → IsRenumbered number (own 0 f) u u
      stays (Port y i) low = refl
      stays (Free k) low = (k, (0, k), refl, own_at 0 f k (low k refl) ∙ ap (λ (z : ℕ). Some (0, z)) (let e : 0 + k ≡ k = omega arith in e), refl)

      kept : (u v : Point ℕ) → IsRenumbered number (own 0 f) u v → u ≡ v
      kept (Port y i) v e = sym e
      kept (Free a) v e =
          let r = at_own 0 f e.0 e.1 e.3 in
          let is : a ≡ e.0 = sym e.4 ∙ ap (λ (z : ℕ × ℕ). z.1) r.1 ∙ (let g : 0 + e.0 ≡ e.0 = omega arith in g) in
          ap (λ (a : ℕ). Free a) is ∙ sym e.2

      frees : (ts : List PortType) (from many : ℕ) → ((k : ℕ) → k < length ts → slice_get m.free (from + k) ≡ slice_get ts k) → length ts ≡ many → map (λ t. Some t) ts ≡ map (λ p. slice_get (parts p.0).free p.1) (own from many)
      frees [] from zero at e = refl
      frees [] from (suc many) at e = absurd (omega (arith, e))
      frees (t ∷ ts) from zero at e = absurd (omega (arith, e))
      frees (t ∷ ts) from (suc many) at e =
          let head : slice_get m.free from ≡ Some t = ap (slice_get m.free) (let z : from ≡ from + 0 = omega arith in z) ∙ at 0 (omega arith) in
          let rest = frees ts (suc from) many (λ k l. ap (slice_get m.free) (let z : suc from + k ≡ from + suc k = omega arith in z) ∙ at (suc k) (omega (arith, l))) (omega (arith, e)) in
          λ i. (sym head i ∷ rest i)

      pub glued : IsGlued parts same cuts w
      glued = all_joined_is_glued parts same number cuts w w own_of joined (record {
        agents = λ y s. ((λ e. e), (λ e. e));
        wires = λ u v. (
          (λ e. (u, v, stays u (λ k is. first_low k u v is e), stays v (λ k is. second_low k u v is e), e)),
          (λ r. ap w.partner (sym (kept r.0 u r.2)) ∙ r.4 ∙ ap (λ (z : Point ℕ). Some z) (kept r.1 v r.3)),
        );
        free = frees w.free 0 f (λ k l. ap (slice_get m.free) (let z : 0 + k ≡ k = omega arith in z) ∙ ap (λ ts. slice_get ts k) free ∙ first_free w.free k l) long;
      })

    pub apart : KeepsApart parts same
    apart zero zero x y h g e = (refl, e)
    apart zero (suc zero) x y h g e = absurd (nothing g)
    apart zero (suc (suc j)) x y h g e = absurd (nothing g)
    apart (suc zero) j x y h g e = absurd (nothing h)
    apart (suc (suc i)) j x y h g e = absurd (nothing h)

-- a run keeps the free ends
same_free_ends : (p : System) (s : Net ℕ) (k : ℕ) (n : Net ℕ) → Reached (from_net p s) k n → n.free ≡ s.free
same_free_ends p s k n (at_start f _ r) = r.free
same_free_ends p s _ n (then_step k l x name _ before act) = act.step.free ∙ same_free_ends p s k l before
same_free_ends p s k n (then_renamed _ l f _ before r) = r.free ∙ same_free_ends p s k l before

sound_after : (p : System) (k : ℕ) (s n : Net ℕ) → IsSoundSystem p → IsSound p s → Leads p k s n → IsNet p.symbols n
sound_after p k s n good sound lead = (sound_reached (from_net p s) (sound_is_start p s good sound) ℕ_discrete k n lead).net

no_end : (sig : Signature) (n : Net ℕ) (k : ℕ) → IsNet sig n → length n.free ≤ k → n.partner (Free k) ≡ None
no_end sig n k net high = go (n.partner (Free k)) refl
  where
    go : (o : Option (Point ℕ)) → n.partner (Free k) ≡ o → o ≡ None
    go None e = refl
    go (Some u) e = let l : k < length n.free = net.points (Free k) u e in absurd (omega (arith, high, l))

two_more : (ts : List PortType) (s t : PortType) → length (ts ++ (s ∷ t ∷ [])) ≡ suc (suc (length ts))
two_more ts s t = let e = length-append ts (s ∷ t ∷ []) in omega (arith, e)

pub cut_leads_are_joined : CutLeadsAreJoined
cut_leads_are_joined p k w m n o good sound c lead j =
    let f = length w.free in
    let sound_m = cut_once_is_sound p w m sound c in
    let net_n = sound_after p k m n good sound_m lead in
    let many_m : length m.free ≡ suc (suc f) = ap length c.free ∙ two_more w.free c.first c.second in
    let many_n : length n.free ≡ suc (suc f) = ap length (same_free_ends p m k n lead) ∙ many_m in
    let many_o : length o.free ≡ f = (let e = ap length j.free ∙ two_more o.free j.first j.second in omega (arith, e, many_n)) in
    let cut_joined : JoinsEnds m f (suc f) w = cuts_are_joined w c.one c.other f (suc f) m (leads_back p w sound) c.wire (λ e. omega (arith, e)) (no_end p.symbols w f sound.net (omega arith)) (no_end p.symbols w (suc f) sound.net (omega arith)) c.cut in
    let joined : JoinsEnds n f (suc f) o = subst (λ i. JoinsEnds n i (suc i) o) many_o j.joins in
    let before = glued f m (leads_back p m sound_m) (λ e u h. (let l = sound_m.net.points (Free e) u h in omega (arith, l, many_m))) w cut_joined c.first c.second refl c.free in
    let after = glued f n (net_n.back, net_n.apart) (λ e u h. (let l = net_n.points (Free e) u h in omega (arith, l, many_n))) o joined j.first j.second many_o j.free in
    let both = parts_lead_the_whole p k 0 w o m empty n empty (old_and_new (λ x. x)) (old_and_new (λ x. x)) (cuts f) good sound before (apart f m (leads_back p m sound_m) (λ e u h. (let l = sound_m.net.points (Free e) u h in omega (arith, l, many_m))))
    sound_m (empty_sound p) lead (at_start (λ x. x) empty (renamed_self empty)) after (apart f n (net_n.back, net_n.apart) (λ e u h. (let l = net_n.points (Free e) u h in omega (arith, l, many_n)))) in
    subst (λ i. Leads p i w o) (let e : k + 0 ≡ k = omega arith in e) both

-- ---- side by side

module _ (sig : Signature) (one two : Net ℕ) (name : ℕ → ℕ) (ends : List (ℕ × ℕ)) (m : Net ℕ) (net_one : IsNet sig one) (net_two : IsNet sig two) (h : StandBeside one two name ends m) where
  abbrev both : ℕ → Net ℕ
  both = two_parts one two

  abbrev pub loose : Cuts
  loose = record { across = no_joint; outer = ends }

  is_end : (i e : ℕ) (u : Point ℕ) → (both i).partner (Free e) ≡ Some u → e < length (both i).free
  is_end zero e u at = net_one.points (Free e) u at
  is_end (suc zero) e u at = net_two.points (Free e) u at
  is_end (suc (suc i)) e u at = absurd (no_wire (Free e) u at)

  led_to : (i e : ℕ) (u : Point ℕ) → (both i).partner u ≡ Some (Free e) → e < length (both i).free
  led_to zero e u at = is_end zero e u (net_one.back u (Free e) at)
  led_to (suc zero) e u at = is_end (suc zero) e u (net_two.back u (Free e) at)
  led_to (suc (suc i)) e u at = absurd (no_wire u (Free e) at)

  used : (p : ℕ × ℕ) → IsInUse both loose p → p.1 < length (both p.0).free
  used p (inl r) = is_end p.0 p.1 r.0 r.1
  used p (inr (inl r)) = led_to p.0 p.1 r.0 r.1
  used p (inr (inr r)) = cc

  own_numbers : (k : ℕ) (p : ℕ × ℕ) → slice_get ends k ≡ Some p → HasOwnNumber both loose h.number p
  own_numbers k p at q taken same_number =
      let here : slice_get ends k ≡ Some q = ap (slice_get ends) (sym (h.numbered k p at) ∙ sym same_number) ∙ h.all q.0 q.1 (used q taken) in
      same_Some q p (sym here ∙ at)

  at_end : (i : ℕ) (q u : Point ℕ) → ((e : ℕ) → q ≡ Free e → e < length (both i).free) → IsAtNumber h.number (old_and_new name) i q u → IsRenumbered h.number ends u u
  at_end i (Port x k) u low at = subst (λ u. IsRenumbered h.number ends u u) (sym at) refl
  at_end i (Free e) u low at = subst (λ u. IsRenumbered h.number ends u u) (sym at) (h.number (i, e), (i, e), refl, h.all i e (low e refl), refl)

  one_end : (u v : Point ℕ) → IsRenumbered h.number ends u v → u ≡ v
  one_end (Port y i) v e = sym e
  one_end (Free a) v e = ap (λ (a : ℕ). Free a) (sym e.4 ∙ h.numbered e.0 e.1 e.3) ∙ sym e.2

  pub stand_glued : IsGlued both (old_and_new name) loose m
  stand_glued = all_joined_is_glued both (old_and_new name) h.number loose m m own_numbers (beside_joins_none both (old_and_new name) h.number loose m (λ p. refl) h.beside) (record {
    agents = λ y s. ((λ e. e), (λ e. e));
    wires = λ u v. (
      (λ e. (
          let r = (h.beside.wires u v).0 e in
          (u, v, at_end r.0 r.1 u (λ k is. is_end r.0 k r.2 (ap (both r.0).partner (sym is) ∙ r.5)) r.3, at_end r.0 r.2 v (λ k is. led_to r.0 k r.1 (r.5 ∙ ap (λ (z : Point ℕ). Some z) is)) r.4, e)
          )),
      (λ r. ap m.partner (sym (one_end r.0 u r.2)) ∙ r.4 ∙ ap (λ (z : Point ℕ). Some z) (one_end r.1 v r.3)),
    );
    free = h.free;
  })

pub beside_leads : BesideLeads
beside_leads p j k one two one_after two_after n m before after ends good sound sound_one sound_two stand lead_one lead_two stand_after =
    parts_lead_the_whole p j k n m one two one_after two_after (old_and_new before) (old_and_new after) (record { across = no_joint; outer = ends }) good sound
    (stand_glued p.symbols one two before ends n sound_one.net sound_two.net stand) stand.apart sound_one sound_two lead_one lead_two
    (stand_glued p.symbols one_after two_after after ends m (sound_after p j one one_after good sound_one lead_one) (sound_after p k two two_after good sound_two lead_two) stand_after) stand_after.apart
