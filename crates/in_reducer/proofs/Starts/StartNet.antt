-- A program's net that is placed in an empty arena: the cells show the net under other numbers.
use Rattle.std.proofs.Common.{◌≡◌, ◌⊎◌, inl, inr, ◌<◌, ◌≤◌, ◌+◌, ◌*◌, ℕ, zero, suc, cond, Option, Some, None, List, length, map, take, replicate, get_or, slice_get, refl, sym, ap, subst, ◌∙◌, arith}
use Rattle.std.specs.Prelude.{option_map, IsSomeAnd}
use Rattle.std.proofs.lemmas.List.{length-map, length-replicate}
use Rattle.std.proofs.lemmas.List.Sums.{sum_by-cons}
use Rattle.std.proofs.lemmas.Option.{same_Some, slice_get-map, slice_get_within}
use Rattle.in_arena.specs.Arenas.{ArenaView, NoneLeased, free_of, state_at}
use Rattle.in_arena.specs.Changes.{HasAllCells}
use Rattle.in_arena.specs.Classes.{all_of, amount}
use Rattle.in_arena.specs.States.{State, Vacant, Leased, IsLeased, word_of, end_at, places}
use Rattle.in_arena.specs.declared.content.CellClass.{CellClass}
use Rattle.in_arena.specs.declared.content.CellCounts.{CellCounts}
use Rattle.in_arena.specs.declared.content.CellNo.{CellNo}
use Rattle.in_arena.specs.declared.content.End.{End}
use Rattle.in_arena.specs.declared.content.End.TheVariants as end
use Rattle.in_syntax.specs.TextLimits.{most_free}
use Rattle.in_symbols.specs.Tables.{Tables, arity_of}
use Rattle.in_net.specs.declared.nets.FreeEnd.{FreeEnd}
use Rattle.in_net.specs.Built.{IsOver}
use Rattle.in_net.specs.Nets.{Point, Port, Free, IsPoint, IsNet, coded_point, net_of, signature_of}
use Rattle.in_net.specs.Parts.{Parts, partner_in}
use Rattle.in_net.proofs.Public.{map_is}
use Rattle.in_interaction.specs.Queues.{both}
use Rattle.in_interaction.proofs.Public.{has_value, symbol_number}
use Rattle.in_check.specs.Checking.{IsAccepted}
use Rattle.in_check.specs.Programs.{Program}
use Rattle.in_check.specs.Runs.{renamed, IsRenamed}
use Rattle.in_cells.specs.Shown as shown
use Rattle.in_cells.specs.Shown.{end_of, stands_at}
use Rattle.in_cells.proofs.Public.{place_within}
use Rattle.in_compile.specs.declared.joints.Joint.{Joint}
use Rattle.in_compile.specs.declared.joints.Joint.TheVariants.{ToAgent, ToBoundary}
use Rattle.in_compile.specs.Cells.{agents_of, count_of, takes, IsEnough}
use Rattle.in_compile.specs.Members.{MemberParts, IsMemberOf, IsSoundMember, joint_at, joint_of}
use Rattle.in_compile.proofs.Public.Accepted as accepting
use Rattle.in_compile.proofs.Public.{inside_of, joints_many, sound, sum_at_most}
use Rattle.in_reducer.specs.Inside.{most_ends}
use Rattle.in_reducer.specs.Interacting.{named}
use Rattle.in_compile.specs.Putting.{IsPut}
use Rattle.in_reducer.specs.Wiring.{HasBegun}
use Rattle.in_reducer.specs.Sides.{HasJoint, inner_of}
use Rattle.in_reducer.specs.Standing.{agent_in, agents_in, at_rest, leading_to, vacant_in, IsNetIn}
use Rattle.in_reducer.specs.Starts.{IsStart}
use Rattle.in_reducer.proofs.Starts.Accepted.{few_ports, net_over, net_promised, net_whole}
use Rattle.in_reducer.proofs.Cells.AtRest.{all_at_rest, rests}
use Rattle.in_reducer.proofs.Cells.Counted.{all_cells, cells_at_rest}
use Rattle.in_reducer.proofs.Steps.Laid as laid
use Rattle.in_reducer.proofs.Steps.Laid.{in_or_out}
use Rattle.in_reducer.proofs.Pairs.Queues.{all_classes, half_of}
use Rattle.in_reducer.proofs.Cells.Shown.{is_over, partner_seen, same_kinds, same_names, seen, symbol_seen}
use Rattle.in_reducer.proofs.Starts.Started.{net_at, sound_at}
use Rattle.in_reducer.proofs.Steps.StillNet.{begun_good, begun_unleased, net_in}
use Rattle.in_syntax.specs.declared.text_limits.TextLimits.{TextLimits}

-- ---- an empty arena

empty_at : (m n : ℕ) → (get_or (replicate m Vacant) n Leased ≡ Vacant) ⊎ ((m ≤ n) × (get_or (replicate m Vacant) n Leased ≡ Leased))
empty_at zero n = inr (omega arith, refl)
empty_at (suc m) zero = inl refl
empty_at (suc m) (suc n) = elim (empty_at m n) [ inl e ↦ inl e | inr h ↦ inr ((let l = h.0 in omega (arith, l)), h.1) ]

module _ (a : ArenaView) (cells : CellCounts) (same : a.cells ≡ cells) (empty : a.states ≡ replicate (all_of cells) Vacant) where
  vacant_or_past : (n : ℕ) → (state_at a n ≡ Vacant) ⊎ ((length a.states ≤ n) × (state_at a n ≡ Leased))
  vacant_or_past n = elim (empty_at (all_of cells) n) [
    | inl e ↦ inl (ap (λ (xs : List State). get_or xs n Leased) empty ∙ e)
    | inr h ↦ inr ((let m = many in let l = h.0 in omega (arith, m, l)), ap (λ (xs : List State). get_or xs n Leased) empty ∙ h.1)
  ]
    where
      many : length a.states ≡ all_of cells
      many = ap length empty ∙ length-replicate (all_of cells) Vacant

  pub empty_all : HasAllCells a
  empty_all = ap length empty ∙ length-replicate (all_of cells) Vacant ∙ ap all_of (sym same)

  pub empty_none : NoneLeased a
  empty_none n l leased = elim (vacant_or_past n) [ inl e ↦ subst IsLeased e leased | inr h ↦ (let m = h.0 in omega (arith, l, m)) ]

  pub no_word : (n : ℕ) → word_of (state_at a n) ≡ None
  no_word n = elim (vacant_or_past n) [ inl e ↦ ap word_of e | inr h ↦ ap word_of h.1 ]

  no_end : (n i : ℕ) → end_at (state_at a n) i ≡ None
  no_end n i = elim (vacant_or_past n) [ inl e ↦ ap (λ (x : State). end_at x i) e | inr h ↦ ap (λ (x : State). end_at x i) h.1 ]

  module _ (t : Tables) where
    empty_net : IsNetIn t a
    empty_net = record {
      all = empty_all;
      none = empty_none;
      classed = λ c n s at w. absurd (let f : None ≡ Some s = sym (no_word n) ∙ w in cc);
    }

    no_agents : (c : CellClass) (m : ℕ) → agents_of t c (map agent_in (replicate m Vacant)) ≡ 0
    no_agents c zero = refl
    no_agents c (suc m) = let e = sum_by-cons (λ x. cond (takes t c x) 1 0) None (map agent_in (replicate m Vacant)) in let f = no_agents c m in omega (arith, e, f)

    -- all its cells are free
    pub all_free : (c : CellClass) → free_of a c ≡ amount cells c
    all_free c =
        let e = all_cells t a empty_net c in
        let f : agents_of t c (agents_in a) ≡ 0 = ap (λ (xs : List State). agents_of t c (map agent_in xs)) empty ∙ no_agents c (all_of cells) in
        let n = ap (λ (z : CellCounts). amount z c) same in
        omega (arith, e, f, n)

-- ---- points

point_again : (v : Point ℕ) → shown.point_of (end_of v) ≡ v
point_again (Port y i) = refl
point_again (Free k) = refl

was_some : {X Y : Type 0} (f : X → Y) (o : Option X) (v : Y) → option_map f o ≡ Some v → (w : X) × (o ≡ Some w)
was_some f None v h = absurd (let e : None ≡ Some v = h in cc)
was_some f (Some w) v h = (w, refl)

-- ---- the program's net

module _ (limits : TextLimits) (text : List ℕ) (p : Program) (accepted : IsAccepted limits text p) (m : MemberParts) (of : IsMemberOf p.tables p.net m) where
  over : IsOver p.tables p.net
  over = net_over limits text p accepted

  net : IsNet (signature_of p.tables) (net_of p.net)
  net = net_at limits text p accepted

  pub own_many : length m.joints ≡ length p.net.free
  own_many = joints_many p.tables p.net m of

  pub few_joints : length m.joints ≤ most_free
  few_joints = let l = (net_whole limits text p accepted).ends in let e = own_many in omega (arith, l, e)

  -- it has no more active pairs than half of the cells
  pub few_pairs : (cells : CellCounts) → ((c : CellClass) → agents_of p.tables c p.net.cells ≤ amount cells c) → 2 * length m.pairs ≤ all_of cells
  few_pairs cells fits =
      let h = half_of p p.net (net_promised limits text p accepted) m.pairs of.pairs.pairs in
      let a = all_classes p.tables (few_ports limits text p accepted) p.net.cells in
      let each = sum_at_most (λ c. agents_of p.tables c p.net.cells) cells fits in
      omega (arith, h, a, each)

  -- the cells that it needs are free if `cells` cells of each class are
  pub enough : (cells : CellCounts) (free : CellClass → ℕ) → ((c : CellClass) → agents_of p.tables c p.net.cells ≤ amount cells c) → ((c : CellClass) → free c ≡ amount cells c) → IsEnough (count_of m.need) free
  enough cells free fits all c = let e = of.need c in let f = fits c in let g = all c in omega (arith, e, f, g)

  module _ (ns : List CellNo) (count : length ns ≡ length m.agents) where
    pub has_joint : (e : ℕ) (j : Joint) → slice_get m.joints e ≡ Some j → HasJoint ns j
    has_joint e (ToAgent k i) h =
        let s : IsSoundMember m = sound p.tables p.net m (net_whole limits text p accepted) over (accepting.net_there limits text p accepted) (accepting.net_few limits text p accepted) of in
        let l = inside_of m s (ToBoundary e) (ToAgent k i) h in
        let z : k < length ns = omega (arith, l, count) in
        z
    has_joint e (ToBoundary f) h = tt

    -- the agents of a pair are there
    pub has_pair : (k : ℕ) (q : ℕ × ℕ) → slice_get m.pairs k ≡ Some q → (q.0 < length ns) × (q.1 < length ns)
    has_pair k q e =
        let h = of.pairs.pairs.pairs k q e in
        let x = laid.agent_at p.tables p.net over m of q.0 h.first.0 (symbol_number _ h.first h.one) in
        let y = laid.agent_at p.tables p.net over m of q.1 h.second.0 (symbol_number _ h.second h.two) in
        let i = slice_get_within m.agents q.0 x.0 x.1 in
        let j = slice_get_within m.agents q.1 y.0 y.1 in
        (omega (arith, i, count), omega (arith, j, count))

  -- ---- placed

  module _ (ns : List CellNo) (a b : ArenaView) (cells : CellCounts) (same : a.cells ≡ cells) (empty : a.states ≡ replicate (all_of cells) Vacant) (put : IsPut m ns a b) where
    begun : HasBegun m ns a b
    begun = laid.begun_of p.tables p.net over m of ns a b put

    empty_at_rest : IsNetIn p.tables (at_rest a)
    empty_at_rest = subst (IsNetIn p.tables) (sym (rests a (empty_none a cells same empty))) (empty_net a cells same empty p.tables)

    pub net_in_cells : IsNetIn p.tables (at_rest b)
    net_in_cells = net_in p.tables a b (all_at_rest a (empty_all a cells same empty)) put.cells put.many (begun_good p.tables p.net over m of ns a b begun empty_at_rest)

    -- no cell is on lease
    pub none_after : NoneLeased b
    none_after = begun_unleased p.tables p.net over m of ns a b begun (empty_none a cells same empty)

    pub cells_after : b.cells ≡ cells
    cells_after = put.cells ∙ same

    -- a live cell is that of an agent
    whose : (y s : ℕ) → word_of (state_at b y) ≡ Some s → (k : ℕ) × (named ns k ≡ y) × ((net_of p.net).symbol k ≡ Some s)
    whose y s w = go (in_or_out ns y)
      where
        go : laid.InOrOut ns y → (k : ℕ) × (named ns k ≡ y) × ((net_of p.net).symbol k ≡ Some s)
        go (inr out) = absurd (let f : None ≡ Some s = sym (no_word a cells same empty y) ∙ sym (ap word_of (put.others y out)) ∙ w in cc)
        go (inl at) =
            let x = laid.begun_whose p.tables p.net over m of ns a b begun at.0 y at.1 in
            let there : word_of (state_at b y) ≡ Some x.0.symbol.0 = ap (λ (z : ℕ). word_of (state_at b z)) (sym x.2) ∙ ap word_of (laid.stands_there p.tables p.net over m of ns a b put at.0 x.0 x.1) in
            (at.0, x.2, laid.symbol_of p.tables p.net over m of at.0 x.0 x.1 ∙ sym there ∙ w)

    -- a place that has an end is one of an agent
    whose_place : (y i : ℕ) (e : End) → end_at (state_at b y) i ≡ Some e → (k : ℕ) × (named ns k ≡ y) × IsPoint (signature_of p.tables) (net_of p.net) (Port k i)
    whose_place y i e h = go (in_or_out ns y)
      where
        go : laid.InOrOut ns y → (k : ℕ) × (named ns k ≡ y) × IsPoint (signature_of p.tables) (net_of p.net) (Port k i)
        go (inr out) = absurd (let f : None ≡ Some e = sym (no_end a cells same empty y i) ∙ sym (ap (λ (x : State). end_at x i) (put.others y out)) ∙ h in cc)
        go (inl at) =
            let x = laid.begun_whose p.tables p.net over m of ns a b begun at.0 y at.1 in
            let is = laid.symbol_of p.tables p.net over m of at.0 x.0 x.1 in
            let many = laid.begun_places p.tables p.net over m of ns a b begun at.0 x.0.symbol.0 is in
            let l = place_within (state_at b y) i e h in
            let f : places (state_at b y) ≡ places (state_at b (named ns at.0)) = ap (λ (z : ℕ). places (state_at b z)) (sym x.2) in
            let low : i ≤ arity_of p.tables x.0.symbol.0 = omega (arith, l, f, many) in
            (at.0, x.2, subst (λ (o : Option ℕ). IsSomeAnd o (λ s. i ≤ arity_of p.tables s)) (sym is) low)

    module _ (es : List End) (first : take (length m.joints) es ≡ map (inner_of ns 0) m.joints) (long : length m.joints + most_ends + most_ends ≤ length es) where
      abbrev pub start : Parts
      start = seen b p.net.free es

      few_free : length p.net.free ≤ length es
      few_free = let e = own_many in omega (arith, e, long)

      ends_are : take (length p.net.free) es ≡ map (inner_of ns 0) m.joints
      ends_are = ap (λ (z : ℕ). take z es) (sym own_many) ∙ first

      joint_there : (u v : Point ℕ) → (net_of p.net).partner u ≡ Some v → joint_at m (joint_of (coded_point u)) ≡ Some (joint_of (coded_point v))
      joint_there u v e = of.joints (coded_point u) ∙ ap (option_map joint_of) (map_is (partner_in p.net (coded_point u)) v e)

      end_is : (v : Point ℕ) → inner_of ns 0 (joint_of (coded_point v)) ≡ end_of (renamed (named ns) v)
      end_is (Port l j) = refl
      end_is (Free d) = ap end.Free (let z : 0 + d ≡ d = omega arith in z)

      leads : (u v : Point ℕ) → (net_of p.net).partner u ≡ Some v → stands_at b (take (length p.net.free) es) (renamed (named ns) u) ≡ Some (end_of (renamed (named ns) v))
      leads (Port k i) (Port l j) e = laid.wire_there p.tables p.net over m of ns a b put k i l j e
      leads (Port k i) (Free d) e = laid.end_number_there p.tables p.net over m of ns a b put k i d (joint_there (Port k i) (Free d) e)
      leads (Free d) v e =
          ap (λ (zs : List End). slice_get zs d) ends_are ∙ slice_get-map (inner_of ns 0) m.joints d
          ∙ ap (option_map (inner_of ns 0)) (joint_there (Free d) v e) ∙ ap (λ (z : End). Some z) (end_is v)

      -- a wire under the numbers of cells
      wire_kept : (u v : Point ℕ) → (net_of p.net).partner u ≡ Some v → (net_of start).partner (renamed (named ns) u) ≡ Some (renamed (named ns) v)
      wire_kept u v e =
          partner_seen b p.net.free es (renamed (named ns) u) ∙ ap (option_map shown.point_of) (leads u v e)
          ∙ ap (λ (z : Point ℕ). Some z) (point_again (renamed (named ns) v))

      -- each point that leads on is one of the net's
      point_before : (u v : Point ℕ) → (net_of start).partner u ≡ Some v → (q : Point ℕ) × (renamed (named ns) q ≡ u) × IsPoint (signature_of p.tables) (net_of p.net) q
      point_before (Free d) v e =
          let w = was_some shown.point_of (slice_get (take (length p.net.free) es) d) v (sym (partner_seen b p.net.free es (Free d)) ∙ e) in
          let l = slice_get_within (map (inner_of ns 0) m.joints) d w.0 (sym (ap (λ (zs : List End). slice_get zs d) ends_are) ∙ w.1) in
          let many = length-map m.joints (inner_of ns 0) in
          let own = own_many in
          let kinds = length-map p.net.free (λ (f : FreeEnd). f.kind) in
          let low : d < length (map (λ (f : FreeEnd). f.kind) p.net.free) = omega (arith, l, many, own, kinds) in
          (Free d, refl, low)
      point_before (Port y i) v e =
          let w = was_some shown.point_of (end_at (state_at b y) i) v (sym (partner_seen b p.net.free es (Port y i)) ∙ e) in
          let x = whose_place y i w.0 w.1 in
          (Port x.0 i, ap (λ (z : ℕ). Port z i) x.1, x.2)

      pub renamed_start : IsRenamed (named ns) (net_of p.net) (net_of start)
      renamed_start = record {
        apart = λ x y h k e. (
            let s = has_value ((net_of p.net).symbol x) h in
            let r = has_value ((net_of p.net).symbol y) k in
            let c = laid.agent_at p.tables p.net over m of x s.0 s.1 in
            let d = laid.agent_at p.tables p.net over m of y r.0 r.1 in
            laid.begun_once p.tables p.net over m of ns a b begun x y c.0 d.0 c.1 d.1 e
            );
        agents = λ y s. (
          (λ e. whose y s (sym (symbol_seen b p.net.free es y) ∙ e)),
          (λ h. symbol_seen b p.net.free es y ∙ ap (λ (z : ℕ). word_of (state_at b z)) (sym h.1) ∙ laid.begun_word p.tables p.net over m of ns a b begun h.0 s h.2),
        );
        wires = λ u v. (
          (λ e. (
              let q = point_before u v e in
              let w = has_value ((net_of p.net).partner q.0) (net.joined q.0 q.2) in
              (q.0, w.0, q.1, same_Some (renamed (named ns) w.0) v (sym (wire_kept q.0 w.0 w.1) ∙ ap (net_of start).partner q.1 ∙ e), w.1)
              )),
          (λ h. ap (net_of start).partner (sym h.2) ∙ wire_kept h.0 h.1 h.4 ∙ ap (λ (z : Point ℕ). Some z) h.3),
        );
        free = same_kinds p.net.free es few_free;
      }

      over_start : IsOver p.tables start
      over_start = let s = sound_at limits text p accepted (named ns) start renamed_start in is_over p.tables b p.net.free es s.net s.within

      pub is_start : (queue : List (ℕ × ℕ)) → queue ≡ map (both (named ns)) m.pairs
          → IsStart p cells (record { program = p; agents = agents_in b; free = leading_to p.net.free es; queue = queue; vacant = vacant_in (at_rest b) })
      is_start queue is = record {
        program = refl;
        over = over_start;
        name = named ns;
        net = renamed_start;
        names = same_names p.net.free es few_free;
        first = m.pairs;
        pairs = of.pairs;
        queue = is;
        counted = λ c. cells_at_rest p.tables b net_in_cells c ∙ ap (λ (z : CellCounts). amount z c) cells_after;
      }
