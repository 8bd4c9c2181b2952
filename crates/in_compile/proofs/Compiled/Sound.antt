-- The member of a net is sound.
use Rattle.std.proofs.Common.{◌≡◌, ◌⊎◌, inl, inr, ◌<◌, ◌≤◌, ◌+◌, ℕ, suc, Bool, true, false, cond, nat_eq, Option, Some, None, List, [], ◌∷◌, length, map, count_by, is_some, slice_get, refl, sym, ap, subst, ◌∙◌, arith}
use Rattle.std.specs.Prelude.{option_map, option_and_then}
use Rattle.std.proofs.lemmas.Bool.{eq-eqb, ne_eqb}
use Rattle.std.proofs.lemmas.List.{length-map}
use Rattle.std.proofs.lemmas.List.Sums.{sum_by-cons}
use Rattle.std.proofs.lemmas.Option.{same_Some, slice_get-map, slice_get_past}
use Rattle.in_base.proofs.Each.{all_at, at_index}
use Rattle.in_arena.specs.declared.content.CellClass.{CellClass}
use Rattle.in_arena.specs.Classes.{Holds, holds, class_no}
use Rattle.in_arena.proofs.Public.{same_class}
use Rattle.in_symbols.specs.Tables.{Tables, arity_of}
use Rattle.in_syntax.specs.declared.symbol_no.SymbolNo.{SymbolNo}
use Rattle.in_net.specs.Built.{IsOver, IsCellOver}
use Rattle.in_syntax.specs.TextLimits.{most_net_agents}
use Rattle.in_net.specs.declared.nets.Cell.{Cell}
use Rattle.in_net.specs.declared.nets.FreeEnd.{FreeEnd}
use Rattle.in_net.specs.declared.nets.Point.{Point}
use Rattle.in_net.specs.declared.nets.Point.TheVariants.{Port, Free}
use Rattle.in_net.specs.Parts.{Parts, IsWhole, cell_in, partner_in}
use Rattle.in_net.proofs.Public.{all_same}
use Rattle.in_open_nets_of_programs.specs.Opening.{AreAllThere}
use Rattle.in_compile.specs.declared.joints.Joint.{Joint}
use Rattle.in_compile.specs.declared.joints.Joint.TheVariants.{ToAgent, ToBoundary}
use Rattle.in_compile.specs.Cells.{is_of, takes, count_of}
use Rattle.in_compile.specs.Members.{AgentParts, AgentsFit, JointsLeadBack, MemberParts, joint_of, joint_at, has_class, IsMemberOf, IsSoundMember}
use Rattle.in_compile.proofs.Compiled.Laid.{end_joint}
use Rattle.in_compile.proofs.Compiled.OneTemplate.{held, one_class}
use Rattle.in_compile.proofs.Needs.Classes.{is_class}

-- ---- points and joints are the same

unfoldable pub point_of : Joint → Point
point_of (ToAgent k i) = Port (record { 0 = k }) i
point_of (ToBoundary e) = Free e

pub back_joint : (j : Joint) → joint_of (point_of j) ≡ j
unfolding point_of
back_joint (ToAgent k i) = refl
back_joint (ToBoundary e) = refl

pub back_point : (q : Point) → point_of (joint_of q) ≡ q
unfolding point_of
back_point (Port x i) = refl
back_point (Free e) = refl

pub mapped_back : (o : Option Point) (j : Joint) → option_map joint_of o ≡ Some j → o ≡ Some (point_of j)
mapped_back None j h = let e : None ≡ Some j = h in cc
mapped_back (Some q) j h = ap (λ (z : Point). Some z) (sym (back_point q) ∙ ap point_of (same_Some (joint_of q) j h))

-- ---- cells of one class

-- a number of ends has one class
one_holds : (c d : CellClass) (n : ℕ) (b : Bool) → holds d n ≡ true → holds c n ≡ b → b ≡ nat_eq (class_no d) (class_no c)
one_holds c d n b h g = go b g (is_class d c)
  where
    go : (b : Bool) → holds c n ≡ b → (d ≡ c) ⊎ (d ≡ c → ⊥) → b ≡ nat_eq (class_no d) (class_no c)
    go b g (inl e) = sym g ∙ ap (λ (x : CellClass). holds x n) (sym e) ∙ h ∙ sym (eq-eqb (class_no d) (class_no c) (ap class_no e))
    go true g (inr apart) = absurd (apart (one_class n d c h g))
    go false g (inr apart) = sym (ne_eqb (class_no d) (class_no c) (λ e. apart (same_class d c e)))

-- two lists with the same results have the same count
same_count : {X Y : Type 0} (f : X → Bool) (g : Y → Bool) (xs : List X) (ys : List Y) → ((k : ℕ) → option_map f (slice_get xs k) ≡ option_map g (slice_get ys k)) → count_by f xs ≡ count_by g ys
same_count f g [] [] h = refl
same_count f g [] (y ∷ ys) h = let e : None ≡ Some (g y) = h 0 in cc
same_count f g (x ∷ xs) [] h = let e : Some (f x) ≡ None = h 0 in cc
same_count f g (x ∷ xs) (y ∷ ys) h =
    sum_by-cons (λ z. cond (f z) 1 0) x xs ∙ ap (λ (b : Bool). cond b 1 0 + count_by f xs) (same_Some (f x) (g y) (h 0))
    ∙ ap (λ n. cond (g y) 1 0 + n) (same_count f g xs ys (λ k. h (suc k))) ∙ sym (sum_by-cons (λ z. cond (g z) 1 0) y ys)

module _ (t : Tables) (n : Parts) (m : MemberParts) (of : IsMemberOf t n m) where
  module _ (k : ℕ) where
    cell_by : (a : AgentParts) (o : Option Cell) → slice_get m.agents k ≡ Some a → cell_in n k ≡ o → (c : Cell) × (cell_in n k ≡ Some c) × (a.symbol ≡ c.symbol)
    cell_by a None s e =
        let h : Some a.symbol ≡ None = sym (ap (option_map (λ (z : AgentParts). z.symbol)) s) ∙ of.agents k ∙ ap (option_map (λ (z : Cell). z.symbol)) e in
        cc
    cell_by a (Some c) s e =
        let h : Some a.symbol ≡ Some c.symbol = sym (ap (option_map (λ (z : AgentParts). z.symbol)) s) ∙ of.agents k ∙ ap (option_map (λ (z : Cell). z.symbol)) e in
        (c, e, same_Some a.symbol c.symbol h)

    its_cell : (a : AgentParts) → slice_get m.agents k ≡ Some a → (c : Cell) × (cell_in n k ≡ Some c) × (a.symbol ≡ c.symbol)
    its_cell a s = cell_by a (cell_in n k) s refl

  few_by : (most : ℕ) → length n.cells ≤ most → (length m.agents ≤ most) ⊎ (most < length m.agents) → length m.agents ≤ most
  few_by most few (inl l) = l
  few_by most few (inr l) =
      let a = at_index m.agents most l in
      let c = its_cell most a.0 a.1 in
      let past : cell_in n most ≡ None = ap (λ (o : Option (Option Cell)). option_and_then (λ (c : Option Cell). c) o) (slice_get_past n.cells most few) in
      absurd (let e : None ≡ Some c.0 = sym past ∙ c.1 in cc)

  -- no more agents than the net has
  pub few_agents : (most : ℕ) → length n.cells ≤ most → length m.agents ≤ most
  few_agents most few = few_by most few (let o : (length m.agents ≤ most) ⊎ (most < length m.agents) = grind arith in o)

  -- as many boundary ends as free ones
  pub joints_many : length m.joints ≡ length n.free
  joints_many =
      let same : m.joints ≡ map (λ f. joint_of f.end) n.free = all_same m.joints (map (λ f. joint_of f.end) n.free) (λ e.
      of.joints (Free e) ∙ sym (end_joint (slice_get n.free e)) ∙ sym (slice_get-map (λ (f : FreeEnd). joint_of f.end) n.free e)) in
      ap length same ∙ length-map n.free (λ (f : FreeEnd). joint_of f.end)

module _ (t : Tables) (n : Parts) (m : MemberParts) (whole : IsWhole n) (over : IsOver t n) (there : AreAllThere n) (few : length n.cells ≤ most_net_agents) (of : IsMemberOf t n m) where
  back_by : (p q : Point) (i j : Joint) → joint_of p ≡ i → joint_of q ≡ j → joint_at m i ≡ Some j → joint_at m j ≡ Some i
  back_by p q i j ei ej h =
      let at : option_map joint_of (partner_in n p) ≡ Some j = sym (of.joints p) ∙ ap (joint_at m) ei ∙ h in
      let to : partner_in n p ≡ Some q = mapped_back (partner_in n p) j at ∙ ap (λ (z : Joint). Some (point_of z)) (sym ej) ∙ ap (λ (z : Point). Some z) (back_point q) in
      sym (ap (joint_at m) ej) ∙ of.joints q ∙ ap (option_map joint_of) (whole.back p q to) ∙ ap (λ (z : Joint). Some z) ei

  back : JointsLeadBack m
  back i j h = back_by (point_of i) (point_of j) i j (back_joint i) (back_joint j) h

  over_at : (k : ℕ) (c : Cell) (o : Option (Option Cell)) → slice_get n.cells k ≡ o → cell_in n k ≡ Some c → IsCellOver t (Some c)
  over_at k c None s e = let h : None ≡ Some c = sym (ap (λ (o : Option (Option Cell)). option_and_then (λ (c : Option Cell). c) o) s) ∙ e in cc
  over_at k c (Some o) s e =
      let h : o ≡ Some c = sym (ap (λ (o : Option (Option Cell)). option_and_then (λ (c : Option Cell). c) o) s) ∙ e in
      subst (IsCellOver t) h (all_at (IsCellOver t) n.cells k o over.cells s)

  many : (k : ℕ) (a : AgentParts) → slice_get m.agents k ≡ Some a → length a.ends ≡ arity_of t a.symbol.0 + 1
  many k a s =
      let c = its_cell t n m of k a s in
      let same : a.ends ≡ map joint_of c.0.ends = all_same a.ends (map joint_of c.0.ends) (λ i.
      sym (ap (λ (o : Option AgentParts). option_and_then (λ (z : AgentParts). slice_get z.ends i) o) s) ∙ of.joints (Port (record { 0 = k }) i)
      ∙ ap (λ (o : Option Cell). option_map joint_of (option_and_then (λ (z : Cell). slice_get z.ends i) o)) c.1 ∙ sym (slice_get-map joint_of c.0.ends i)) in
      ap length same ∙ length-map c.0.ends joint_of ∙ (over_at k c.0 (slice_get n.cells k) refl c.1).1 ∙ ap (λ (z : SymbolNo). arity_of t z.0 + 1) (sym c.2)

  fits : AgentsFit m
  fits k a s = subst (Holds a.class) (sym (many k a s)) (held a.class (arity_of t a.symbol.0 + 1) (of.classes k a s))

  module _ (c : CellClass) where
    taken_by : (k : ℕ) (o : Option AgentParts) (u : Option (Option Cell)) → slice_get m.agents k ≡ o → slice_get n.cells k ≡ u → option_map (has_class c) (slice_get m.agents k) ≡ option_map (takes t c) (slice_get n.cells k)
    taken_by k None None s e = ap (option_map (has_class c)) s ∙ sym (ap (option_map (takes t c)) e)
    taken_by k None (Some None) s e = absurd (let f : false ≡ true = all_at (λ c. is_some c ≡ true) n.cells k None there e in cc)
    taken_by k None (Some (Some d)) s e =
        absurd (let h : None ≡ Some d.symbol = sym (ap (option_map (λ (z : AgentParts). z.symbol)) s) ∙ of.agents k ∙ ap (λ (o : Option (Option Cell)). option_map (λ (z : Cell). z.symbol) (option_and_then (λ (c : Option Cell). c) o)) e in cc)
    taken_by k (Some a) None s e =
        absurd (let h : Some a.symbol ≡ None = sym (ap (option_map (λ (z : AgentParts). z.symbol)) s) ∙ of.agents k ∙ ap (λ (o : Option (Option Cell)). option_map (λ (z : Cell). z.symbol) (option_and_then (λ (c : Option Cell). c) o)) e in cc)
    taken_by k (Some a) (Some None) s e = absurd (let f : false ≡ true = all_at (λ c. is_some c ≡ true) n.cells k None there e in cc)
    taken_by k (Some a) (Some (Some d)) s e =
        let h : Some a.symbol ≡ Some d.symbol = sym (ap (option_map (λ (z : AgentParts). z.symbol)) s) ∙ of.agents k ∙ ap (λ (o : Option (Option Cell)). option_map (λ (z : Cell). z.symbol) (option_and_then (λ (c : Option Cell). c) o)) e in
        let same = same_Some a.symbol d.symbol h in
        let one : is_of t c d.symbol.0 ≡ has_class c a = one_holds c a.class (arity_of t d.symbol.0 + 1) (is_of t c d.symbol.0) (sym (ap (λ (z : SymbolNo). is_of t a.class z.0) same) ∙ of.classes k a s) refl in
        ap (option_map (has_class c)) s ∙ ap (λ (b : Bool). Some b) (sym one) ∙ sym (ap (option_map (takes t c)) e)

    counts : count_of m.need c ≡ count_by (has_class c) m.agents
    counts = of.need c ∙ sym (same_count (has_class c) (takes t c) m.agents n.cells (λ k. taken_by k (slice_get m.agents k) (slice_get n.cells k) refl refl))

  pub sound : IsSoundMember m
  sound = record { fits = fits; back = back; counts = counts; few = (let l = few_agents t n m of most_net_agents few in omega (arith, l)) }
