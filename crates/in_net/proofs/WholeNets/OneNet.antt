-- A text has one net, and whole parts are a net.
use Rattle.std.proofs.Common.{◌≡◌, ◌≢◌, ◌⊎◌, inl, inr, ℕ, zero, suc, ◌+◌, ◌<◌, ◌≤◌, List, [], ◌∷◌, length, Option, Some, None, IsSome, IsSomeAnd, option_map, option_and_then, slice_get, refl, sym, ◌∙◌, ap, subst, arith}
use Rattle.std.specs.List.{AllByRecursion}
use Rattle.std.proofs.lemmas.Bool.{cases_eq}
use Rattle.in_syntax.specs.declared.tree.SourceFree.{SourceFree}
use Rattle.in_syntax.specs.declared.tree.SourceNet.{SourceNet}
use Rattle.in_syntax.specs.declared.symbol_no.SymbolNo.{SymbolNo}
use Rattle.in_symbols.specs.Tables.{Tables, arity_of}
use Rattle.in_net.specs.declared.nets.Cell.{Cell}
use Rattle.in_net.specs.declared.nets.FreeEnd.{FreeEnd}
use Rattle.in_net.specs.declared.nets.Point as coded
use Rattle.in_net.specs.declared.nets.Point.TheVariants as code
use Rattle.in_net.specs.Built.{IsOver, IsCellOver}
use Rattle.in_net.specs.Laws.{AreOneNet}
use Rattle.in_net.specs.Nets.{Point, Port, Free, IsPoint, IsNet, net_of, signature_of, point_of, coded_point}
use Rattle.in_net.specs.Parts.{Parts, IsWhole, IsPointOf, cell_in, partner_in}
use Rattle.in_base.specs.Lists.{IsAmong}
use Rattle.in_net.specs.TextNet.{Written, AreCellsFor, AreFreeOf, body_of, IsWireOf, IsNetOf, spot_at}
use Rattle.std.proofs.lemmas.List.{length-map}
use Rattle.in_net.proofs.WholeNets.WireAt.{has_partner}
use Rattle.in_base.proofs.Each.{at_index}

-- ---- two nets of one text

abbrev pub symbol_of : Option (Option Cell) → Option SymbolNo
symbol_of o = option_map (λ (c : Cell). c.symbol) (option_and_then (λ c. c) o)

same_symbols : (t : Tables) (ws : List Written) (cs ds : List (Option Cell)) (x : ℕ) → AreCellsFor t ws cs → AreCellsFor t ws ds → symbol_of (slice_get cs x) ≡ symbol_of (slice_get ds x)
same_symbols t [] [] [] x h k = refl
same_symbols t [] [] (d ∷ ds) x h k = absurd k
same_symbols t [] (c ∷ cs) ds x h k = absurd h
same_symbols t (w ∷ ws) [] ds x h k = absurd h
same_symbols t (w ∷ ws) (None ∷ cs) ds x h k = absurd h
same_symbols t (w ∷ ws) (Some c ∷ cs) [] x h k = absurd k
same_symbols t (w ∷ ws) (Some c ∷ cs) (None ∷ ds) x h k = absurd k
same_symbols t (w ∷ ws) (Some c ∷ cs) (Some d ∷ ds) zero h k = ap (λ n. let s : SymbolNo = record { 0 = n } in Some s) (h.0.symbol ∙ sym k.0.symbol)
same_symbols t (w ∷ ws) (Some c ∷ cs) (Some d ∷ ds) (suc x) h k = same_symbols t ws cs ds x h.1 k.1

same_types : (t : Tables) (fs : List SourceFree) (es ds : List FreeEnd) (k : ℕ) → AreFreeOf t fs es → AreFreeOf t fs ds → option_map (λ (f : FreeEnd). f.kind) (slice_get es k) ≡ option_map (λ (f : FreeEnd). f.kind) (slice_get ds k)
same_types t [] [] [] k a b = refl
same_types t [] [] (d ∷ ds) k a b = absurd b
same_types t [] (e ∷ es) ds k a b = absurd a
same_types t (f ∷ fs) [] ds k a b = absurd a
same_types t (f ∷ fs) (e ∷ es) [] k a b = absurd b
same_types t (f ∷ fs) (e ∷ es) (d ∷ ds) zero a b = ap Some (a.0.1 ∙ sym b.0.1)
same_types t (f ∷ fs) (e ∷ es) (d ∷ ds) (suc k) a b = same_types t fs es ds k a.1 b.1

same_names : (t : Tables) (fs : List SourceFree) (es ds : List FreeEnd) (k : ℕ) → AreFreeOf t fs es → AreFreeOf t fs ds → option_map (λ (f : FreeEnd). f.name) (slice_get es k) ≡ option_map (λ (f : FreeEnd). f.name) (slice_get ds k)
same_names t [] [] [] k a b = refl
same_names t [] [] (d ∷ ds) k a b = absurd b
same_names t [] (e ∷ es) ds k a b = absurd a
same_names t (f ∷ fs) [] ds k a b = absurd a
same_names t (f ∷ fs) (e ∷ es) [] k a b = absurd b
same_names t (f ∷ fs) (e ∷ es) (d ∷ ds) zero a b = ap Some (a.0.0 ∙ sym b.0.0)
same_names t (f ∷ fs) (e ∷ es) (d ∷ ds) (suc k) a b = same_names t fs es ds k a.1 b.1

same_ends : (t : Tables) (ws : List Written) (cs ds : List (Option Cell)) (x i : ℕ) → AreCellsFor t ws cs → AreCellsFor t ws ds →
    IsSomeAnd (option_and_then (λ c. c) (slice_get cs x)) (λ c. i < length c.ends) → IsSomeAnd (option_and_then (λ c. c) (slice_get ds x)) (λ c. i < length c.ends)
same_ends t [] [] [] x i h k there = there
same_ends t [] [] (d ∷ ds) x i h k there = absurd k
same_ends t [] (c ∷ cs) ds x i h k there = absurd h
same_ends t (w ∷ ws) [] ds x i h k there = absurd h
same_ends t (w ∷ ws) (None ∷ cs) ds x i h k there = absurd h
same_ends t (w ∷ ws) (Some c ∷ cs) [] x i h k there = absurd k
same_ends t (w ∷ ws) (Some c ∷ cs) (None ∷ ds) x i h k there = absurd k
same_ends t (w ∷ ws) (Some c ∷ cs) (Some d ∷ ds) zero i h k there = let a = h.0.ends in let b = k.0.ends in omega (arith, there, a, b)
same_ends t (w ∷ ws) (Some c ∷ cs) (Some d ∷ ds) (suc x) i h k there = same_ends t ws cs ds x i h.1 k.1 there

same_count : (t : Tables) (fs : List SourceFree) (es ds : List FreeEnd) → AreFreeOf t fs es → AreFreeOf t fs ds → length es ≡ length ds
same_count t [] [] [] a b = refl
same_count t [] [] (d ∷ ds) a b = absurd b
same_count t [] (e ∷ es) ds a b = absurd a
same_count t (f ∷ fs) [] ds a b = absurd a
same_count t (f ∷ fs) (e ∷ es) [] a b = absurd b
same_count t (f ∷ fs) (e ∷ es) (d ∷ ds) a b = ap suc (same_count t fs es ds a.1 b.1)

same_point : (t : Tables) (text : SourceNet) (n m : Parts) → IsNetOf t text n → IsNetOf t text m → (p : coded.Point) → IsPointOf n p → IsPointOf m p
same_point t text n m h k (code.Port x i) there = same_ends t _ n.cells m.cells x.0 i h.agents.agents k.agents.agents there
same_point t text n m h k (code.Free j) there = omega (arith, there, same_count t text.free n.free m.free h.free k.free)

same_spot : (n m : Parts) (p : coded.Point) → n.places ≡ m.places → spot_at n p ≡ spot_at m p
same_spot n m (code.Port x i) e = ap (λ places. spot_at (record m { places = places }) (code.Port x i)) e
same_spot n m (code.Free k) e = refl

pub one_net : (t : Tables) (text : SourceNet) (n m : Parts) → IsNetOf t text n → IsNetOf t text m → AreOneNet n m
one_net t text n m h k =
    let places : n.places ≡ m.places = h.agents.places ∙ sym k.agents.places in
    record {
      points = same_point t text n m h k;
      symbols = λ x. same_symbols t _ n.cells m.cells x h.agents.agents k.agents.agents;
      places = places;
      types = λ j. same_types t text.free n.free m.free j h.free k.free;
      names = λ j. same_names t text.free n.free m.free j h.free k.free;
      partners = λ p x y e f.
          let wire = k.wires.partners p y f in
          sym (h.wires.only p x (spot_at m y) wire.0 e (subst (λ s. IsWireOf t (body_of text) s (spot_at m y) wire.0) (sym (same_spot n m p places)) wire.1));
    }

-- ---- whole parts are a net

numbers : ℕ → ℕ → List ℕ
numbers k zero = []
numbers k (suc n) = k ∷ numbers (k + 1) n

among_numbers : (k n x : ℕ) → k ≤ x → x < k + n → IsAmong x (numbers k n)
unfolding numbers
among_numbers k zero x le lt = absurd (omega (arith, le, lt))
among_numbers k (suc n) x le lt = by_same (cases_eq k x) (λ e. among_numbers (k + 1) n x (omega (arith, le, e)) (omega (arith, lt)))
  where
    by_same : (k ≡ x) ⊎ (k ≢ x) → (k ≢ x → IsAmong x (numbers (k + 1) n)) → IsAmong x (k ∷ numbers (k + 1) n)
    by_same (inl e) next = inl e
    by_same (inr e) next = inr (next e)

pub round_point : (p : Point ℕ) → point_of (coded_point p) ≡ p
round_point (Port x i) = refl
round_point (Free k) = refl

pub round_code : (p : coded.Point) → coded_point (point_of p) ≡ p
round_code (code.Port x i) = refl
round_code (code.Free k) = refl

-- a point that the net leads to is that of the code
pub map_is : (o : Option coded.Point) (q : Point ℕ) → option_map point_of o ≡ Some q → o ≡ Some (coded_point q)
map_is None q e = cc
map_is (Some p) q e = let same : point_of p ≡ q = cc in ap Some (sym (round_code p) ∙ ap coded_point same)

some_map : (o : Option coded.Point) (p : coded.Point) → o ≡ Some p → option_map point_of o ≡ Some (point_of p)
some_map o p e = ap (option_map point_of) e

pub cell_over : (t : Tables) (cs : List (Option Cell)) (x : ℕ) (c : Cell) → AllByRecursion (IsCellOver t) cs → option_and_then (λ c. c) (slice_get cs x) ≡ Some c → (x < length cs) × (length c.ends ≡ arity_of t c.symbol.0 + 1)
cell_over t [] x c all e = cc
cell_over t (None ∷ cs) zero c all e = cc
cell_over t (Some d ∷ cs) zero c all e = let same : d ≡ c = cc in (omega arith, subst (λ c. length c.ends ≡ arity_of t c.symbol.0 + 1) same all.0.1)
cell_over t (d ∷ cs) (suc x) c all e = let rest = cell_over t cs x c all.1 e in (omega (arith, rest.0), rest.1)

module _ (t : Tables) (n : Parts) (whole : IsWhole n) (over : IsOver t n) where
  all_agents : (x : ℕ) → IsSome ((net_of n).symbol x) → IsAmong x (numbers 0 (length n.cells))
  all_agents x h = by_cell (cell_in n x) refl h
    where
      by_cell : (o : Option Cell) → cell_in n x ≡ o → IsSome (option_map (λ (s : SymbolNo). s.0) (option_map (λ (c : Cell). c.symbol) o)) → IsAmong x (numbers 0 (length n.cells))
      by_cell None is h = cc
      by_cell (Some c) is h = let there = cell_over t n.cells x c over.cells is in among_numbers 0 (length n.cells) x (omega arith) (omega (arith, there.0))

  joined_point : (p : Point ℕ) → IsPoint (signature_of t) (net_of n) p → IsSome ((net_of n).partner p)
  joined_point (Port x i) h = by_cell (cell_in n x) refl h
    where
      by_cell : (o : Option Cell) → cell_in n x ≡ o → IsSomeAnd (option_map (λ (s : SymbolNo). s.0) (option_map (λ (c : Cell). c.symbol) o)) (λ s. i ≤ arity_of t s) → IsSome (option_map point_of (option_and_then (λ c. slice_get c.ends i) o))
      by_cell None is h = absurd h
      by_cell (Some c) is h =
          let there = cell_over t n.cells x c over.cells is in
          let end = at_index c.ends i (omega (arith, h, there.1)) in
          subst (λ o. IsSome (option_map point_of o)) (sym end.1) refl
  joined_point (Free k) h =
      let end = at_index n.free k (omega (arith, h, length-map n.free (λ (f : FreeEnd). f.kind))) in
      subst (λ o. IsSome (option_map point_of (option_map (λ (f : FreeEnd). f.end) o))) (sym end.1) refl

  point_there : (p : Point ℕ) → IsPointOf n (coded_point p) → IsPoint (signature_of t) (net_of n) p
  point_there (Port x i) h = by_cell (cell_in n x) refl h
    where
      by_cell : (o : Option Cell) → cell_in n x ≡ o → IsSomeAnd o (λ c. i < length c.ends) → IsSomeAnd (option_map (λ (s : SymbolNo). s.0) (option_map (λ (c : Cell). c.symbol) o)) (λ s. i ≤ arity_of t s)
      by_cell None is h = absurd h
      by_cell (Some c) is h = let there = cell_over t n.cells x c over.cells is in omega (arith, h, there.1)
  point_there (Free k) h = omega (arith, h, length-map n.free (λ (f : FreeEnd). f.kind))

  pub is_net : IsNet (signature_of t) (net_of n)
  is_net = record {
    agents = numbers 0 (length n.cells);
    all = all_agents;
    joined = joined_point;
    points = λ p q e. point_there p (has_partner n (coded_point p) (coded_point q) (map_is (partner_in n (coded_point p)) q e));
    back = λ p q e.
        some_map (partner_in n (coded_point q)) (coded_point p) (whole.back (coded_point p) (coded_point q) (map_is (partner_in n (coded_point p)) q e)) ∙ ap Some (round_point p);
    apart = λ p e. whole.apart (coded_point p) (map_is (partner_in n (coded_point p)) p e);
  }
