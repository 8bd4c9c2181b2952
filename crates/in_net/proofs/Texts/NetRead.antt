-- A whole net or rule is read: its free ends are joined to nothing yet, all else is.
use Rattle.std.proofs.Common.{◌≡◌, ◌≢◌, ◌⊎◌, inl, inr, ℕ, zero, suc, ◌+◌, ◌<◌, ◌≤◌, true, ◌&&◌, List, [], ◌∷◌, ◌++◌, length, map, Some, refl, sym, ◌∙◌, ap, subst, arith, slice_get, length-append, append_assoc, append-nil}
use Rattle.std.proofs.lemmas.Option.{none-some}
use Rattle.std.specs.List.{AllByRecursion, list_all}
use Rattle.in_syntax.specs.declared.tree.Term.{Term}
use Rattle.in_syntax.specs.declared.tree.Equation.{Equation}
use Rattle.in_syntax.specs.declared.tree.SourceFree.{SourceFree}
use Rattle.in_syntax.specs.Sizes.{total, names_in, names_in_equation, names_in_equations}
use Rattle.in_net.specs.declared.joining.Link.{Link}
use Rattle.in_net.specs.declared.reading.TextSpot.{TextSpot}
use Rattle.in_net.specs.declared.reading.TextSpot.TheVariants.{Port, Free, End, Occurrence}
use Rattle.in_net.specs.declared.reading.Reading.{Reading}
use Rattle.in_symbols.specs.Tables.{Tables, heads_known, HeadsKnown}
use Rattle.in_symbols.specs.Names.{number_in}
use Rattle.in_net.specs.Arities.{fits_arity, arities_fit, equation_fits, head_fits, all_arities_fit}
use Rattle.in_net.specs.Reading.{with_joint, with_ends, boundary_spots, number_with, reader_of, reads_arguments, reads_equation, reads_equations, reads_heads, reads_free_end, reads_free_from, reads_free, nothing_read, ends_of, reading_of}
use Rattle.in_net.specs.Joining.{links_of, self_link, self_links, with_joints}
use Rattle.in_net.specs.Building.{no_spot, nth_spot, nth_link}
use Rattle.in_net.specs.TextNet as text
use Rattle.in_base.specs.Lists.{IsAmong}
use Rattle.in_net.specs.TextNet.{Body, LeftHead, IsTermOf, IsPartOf, PlacedJoint, spot_of, place_of}
use Rattle.in_net.proofs.Wiring.Linked.{nth_self, at_front, at_first, at_second, at_third, links_joint, length-links_of}
use Rattle.in_net.proofs.Wiring.Sound.{named}
use Rattle.in_net.specs.Built.{HaveFewPorts, IsEnd}
use Rattle.in_net.proofs.Texts.Folds.{place_read}
use Rattle.in_net.proofs.Texts.Read.{IsRead, with_joint_read, more_names, free_end_read, boundary_end_read}
use Rattle.in_net.proofs.Texts.Known.{AreHeadsKnown, IsBodyKnown}
use Rattle.in_net.proofs.Texts.Kept.{IsSettled, Keeps, keeps_both, keeps_itself, keeps_joint, settled_joint}
use Rattle.in_net.proofs.Texts.Terms.{IsHeldIn, IsReadOn, held_stays, reads_on, among_middle, middle}
use Rattle.std.proofs.lemmas.Bool.{and_parts, cases_eq, cases_lt}

-- a reading in which some spots wait to be joined and are free or boundary ends: they are joined to nothing, and each other
-- spot is joined
pub record IsReadBut (t : Tables) (b : Body) (free count : ℕ) (waits : ℕ → Type 0) (r : Reading) : Type 0 where
  pub read : IsRead t b free count r
  pub wide : free ≤ length r.spots
  pub first : (i : ℕ) → waits i → i < free
  pub alone : (i : ℕ) → waits i → nth_link (links_of r) i ≡ self_link i
  pub joined : (i : ℕ) → i < length r.spots → (waits i → ⊥) → (nth_link (links_of r) i).to ≢ i

-- the free ends are joined to nothing, and each spot after them is joined
pub record IsNetRead (t : Tables) (b : Body) (free count : ℕ) (r : Reading) : Type 0 where
  pub read : IsRead t b free count r
  pub wide : free ≤ length r.spots
  pub alone : (i : ℕ) → i < length b.free → nth_link (links_of r) i ≡ self_link i
  pub joined : (i : ℕ) → length b.free ≤ i → i < length r.spots → (nth_link (links_of r) i).to ≢ i

-- ---- equations

-- the joint of an equation and those in its terms are among the spots
pub record IsEquationHeld (t : Tables) (e : Equation) (r : Reading) : Type 0 where
  pub joint : IsSettled r (spot_of t e.left) (spot_of t e.right) e.tilde
  pub left : IsHeldIn t e.left r
  pub right : IsHeldIn t e.right r

equation_stays : (t : Tables) (e : Equation) (r q : Reading) → Keeps r q → IsEquationHeld t e r → IsEquationHeld t e q
equation_stays t e r q keeps h = record { joint = keeps.settled _ _ _ h.joint; left = held_stays t e.left r q keeps h.left; right = held_stays t e.right r q keeps h.right }

-- the reading after an equation
pub record IsEquationRead (t : Tables) (b : Body) (free count : ℕ) (waits : ℕ → Type 0) (e : Equation) (before after : Reading) : Type 0 where
  pub net : IsReadBut t b free count waits after
  pub keeps : Keeps before after
  pub held : IsEquationHeld t e after

pub equation_read : (t : Tables) (b : Body) (free count : ℕ) (waits : ℕ → Type 0) → HaveFewPorts t → (e : Equation) (r : Reading) → IsAmong e b.equations → arities_fit t e.left ≡ true → arities_fit t e.right ≡ true →
    (heads_known t.names e.left ≡ true) × (heads_known t.names e.right ≡ true) → IsReadBut t b free count waits r →
    IsEquationRead t b free (count + names_in_equation e) waits e r (reads_equation t e r)
equation_read t b free count waits small e r among fits_left fits_right known net =
    let r1 : Reading = ((reader_of t e.left).reads r).0 in
    let one : ℕ = ((reader_of t e.left).reads r).1 in
    let r2 : Reading = ((reader_of t e.right).reads ((reader_of t e.left).reads r).0).0 in
    let other : ℕ = ((reader_of t e.right).reads ((reader_of t e.left).reads r).0).1 in
    let a = reads_on t b free small e.left count r fits_left known.0 (λ v part. IsTermOf.in_left e among part) net.read in
    let c = reads_on t b free small e.right (count + names_in e.left) ((reader_of t e.left).reads r).0 fits_right known.1 (λ v part. IsTermOf.in_right e among part) a.read in
    let wide_1 = ap length a.spots ∙ length-append r.spots a.more in
    let wide_2 = ap length c.spots ∙ length-append r1.spots c.more in
    let zero_on : one + 0 ≡ one = omega arith in
    let one_in : one < length r2.spots = omega (arith, a.there, wide_2) in
    let one_stands : named (nth_spot r2.spots one) ≡ spot_of t e.left = ap named (ap (λ z. nth_spot z one) c.spots ∙ at_front r1.spots c.more one no_spot a.there) ∙ a.stands in
    let joint : PlacedJoint t b (named (nth_spot r2.spots (one + 0))) (named (nth_spot r2.spots other)) e.tilde =
    subst (λ k. PlacedJoint t b (named (nth_spot r2.spots k)) (named (nth_spot r2.spots other)) e.tilde) (sym zero_on)
    (subst (λ s. PlacedJoint t b s (named (nth_spot r2.spots other)) e.tilde) (sym one_stands) (subst (λ s. PlacedJoint t b (spot_of t e.left) s e.tilde) (sym c.stands) (PlacedJoint.of_equation e among))) in
    let one_alone : (nth_link (links_of r2) (one + 0)).to ≡ one + 0 =
    ap (λ k. (nth_link (links_of r2) k).to) zero_on ∙ ap (λ (l : Link). l.to) (c.links one a.there) ∙ a.alone ∙ sym zero_on in
    let apart : one + 0 ≢ other = λ e. absurd (omega (arith, e, c.root_is, a.there)) in
    let third : (i : ℕ) → i ≢ one + 0 → i ≢ other → nth_link (links_of (with_joint r2 one 0 other e.tilde)) i ≡ nth_link (links_of r2) i =
    λ i x y. ap (λ z. nth_link z i) (links_joint r2 one 0 other e.tilde) ∙ at_third (links_of r2) (one + 0) other e.tilde i x y in
    let size = length-links_of r2 in
    let one_to : (nth_link (links_of (with_joint r2 one 0 other e.tilde)) (one + 0)).to ≡ other =
    ap (λ (z : List Link). (nth_link z (one + 0)).to) (links_joint r2 one 0 other e.tilde) ∙ ap (λ (l : Link). l.to) (at_first (links_of r2) (one + 0) other e.tilde (omega (arith, one_in, size)) (omega (arith, c.there, size)) apart) in
    let other_to : (nth_link (links_of (with_joint r2 one 0 other e.tilde)) other).to ≡ one + 0 =
    ap (λ (z : List Link). (nth_link z other).to) (links_joint r2 one 0 other e.tilde) ∙ ap (λ (l : Link). l.to) (at_second (links_of r2) (one + 0) other e.tilde (omega (arith, one_in, size)) (omega (arith, c.there, size))) in
    let keeps_joined = keeps_joint r2 one 0 other e.tilde one_alone c.alone in
    let settled : IsSettled (with_joint r2 one 0 other e.tilde) (named (nth_spot r2.spots (one + 0))) (named (nth_spot r2.spots other)) e.tilde =
    settled_joint r2 one 0 other e.tilde (omega (arith, one_in, size)) (omega (arith, c.there, size)) size apart in
    let one_is : named (nth_spot r2.spots (one + 0)) ≡ spot_of t e.left = ap (λ k. named (nth_spot r2.spots k)) zero_on ∙ one_stands in
    let whole : IsReadBut t b free (count + names_in_equation e) waits (reads_equation t e r) = record {
      read =
          more_names t b free (count + names_in e.left + names_in e.right) (count + names_in_equation e) _ (omega arith)
          (with_joint_read t b free (count + names_in e.left + names_in e.right) r2 one 0 other e.tilde c.read (omega (arith, one_in)) c.there apart one_alone c.alone joint);
      wide = omega (arith, net.wide, wide_1, wide_2);
      first = net.first;
      alone = λ i w.
          let lt = net.first i w in
          third i (λ f. absurd (omega (arith, f, lt, a.root_is, net.wide))) (λ f. absurd (omega (arith, f, lt, c.root_is, wide_1, net.wide)))
          ∙ c.links i (omega (arith, lt, net.wide, wide_1)) ∙ a.links i (omega (arith, lt, net.wide)) ∙ net.alone i w;
      joined = λ i in_ from. by_side i from in_ (cases_eq i (one + 0)) (cases_eq i other) (cases_lt i (length r.spots)) (cases_lt i (length r1.spots)) third one_to other_to apart a.links c.links a.joined c.joined a.root_is c.root_is;
    } in
    record {
      net = whole;
      keeps = keeps_both r r1 _ a.keeps (keeps_both r1 r2 _ c.keeps keeps_joined);
      held = record {
        joint = subst (λ s. IsSettled (with_joint r2 one 0 other e.tilde) s (spot_of t e.right) e.tilde) one_is (subst (λ s. IsSettled (with_joint r2 one 0 other e.tilde) (named (nth_spot r2.spots (one + 0))) s e.tilde) c.stands settled);
        left = held_stays t e.left r1 _ (keeps_both r1 r2 _ c.keeps keeps_joined) a.held;
        right = held_stays t e.right r2 _ keeps_joined c.held;
      };
    }
  where
    r1 : Reading
    r1 = ((reader_of t e.left).reads r).0

    one : ℕ
    one = ((reader_of t e.left).reads r).1

    r2 : Reading
    r2 = ((reader_of t e.right).reads ((reader_of t e.left).reads r).0).0

    other : ℕ
    other = ((reader_of t e.right).reads ((reader_of t e.left).reads r).0).1

    last : List Link
    last = links_of (with_joint (((reader_of t e.right).reads ((reader_of t e.left).reads r).0).0) (((reader_of t e.left).reads r).1) 0 (((reader_of t e.right).reads ((reader_of t e.left).reads r).0).1) e.tilde)

    by_side : (i : ℕ) → (waits i → ⊥) → i < length r2.spots → (i ≡ one + 0) ⊎ (i ≢ one + 0) → (i ≡ other) ⊎ (i ≢ other) → (i < length r.spots) ⊎ (length r.spots ≤ i) → (i < length r1.spots) ⊎ (length r1.spots ≤ i) →
        ((i : ℕ) → i ≢ one + 0 → i ≢ other → nth_link last i ≡ nth_link (links_of r2) i) → (nth_link last (one + 0)).to ≡ other → (nth_link last other).to ≡ one + 0 → one + 0 ≢ other →
        ((i : ℕ) → i < length r.spots → nth_link (links_of r1) i ≡ nth_link (links_of r) i) → ((i : ℕ) → i < length r1.spots → nth_link (links_of r2) i ≡ nth_link (links_of r1) i) →
        ((i : ℕ) → one < i → i < length r1.spots → (nth_link (links_of r1) i).to ≢ i) → ((i : ℕ) → other < i → i < length r2.spots → (nth_link (links_of r2) i).to ≢ i) → one ≡ length r.spots → other ≡ length r1.spots →
        (nth_link last i).to ≢ i
    by_side i from in_ (inl x) y s s1 third one_to other_to apart l1 l2 j1 j2 w1 w2 f = apart (sym x ∙ sym f ∙ ap (λ k. (nth_link last k).to) x ∙ one_to)
    by_side i from in_ (inr x) (inl y) s s1 third one_to other_to apart l1 l2 j1 j2 w1 w2 f = apart (sym other_to ∙ sym (ap (λ k. (nth_link last k).to) y) ∙ f ∙ y)
    by_side i from in_ (inr x) (inr y) (inl a) (inl b_) third one_to other_to apart l1 l2 j1 j2 w1 w2 f =
        net.joined i a from (sym (ap (λ (l : Link). l.to) (third i x y ∙ l2 i b_ ∙ l1 i a)) ∙ f)
    by_side i from in_ (inr x) (inr y) (inr a) (inl b_) third one_to other_to apart l1 l2 j1 j2 w1 w2 f =
        j1 i (beyond_one (cases_lt one i)) b_ (sym (ap (λ (l : Link). l.to) (third i x y ∙ l2 i b_)) ∙ f)
      where
        beyond_one : (one < i) ⊎ (i ≤ one) → one < i
        beyond_one (inl g) = g
        beyond_one (inr g) = absurd (x (omega (arith, g, a, w1)))
    by_side i from in_ (inr x) (inr y) (inl a) (inr b_) third one_to other_to apart l1 l2 j1 j2 w1 w2 f = j2 i (beyond (cases_lt other i)) in_ (sym (ap (λ (l : Link). l.to) (third i x y)) ∙ f)
      where
        beyond : (other < i) ⊎ (i ≤ other) → other < i
        beyond (inl g) = g
        beyond (inr g) = absurd (y (omega (arith, g, b_, w2)))
    by_side i from in_ (inr x) (inr y) (inr a) (inr b_) third one_to other_to apart l1 l2 j1 j2 w1 w2 f = j2 i (beyond (cases_lt other i)) in_ (sym (ap (λ (l : Link). l.to) (third i x y)) ∙ f)
      where
        beyond : (other < i) ⊎ (i ≤ other) → other < i
        beyond (inl g) = g
        beyond (inr g) = absurd (y (omega (arith, g, b_, w2)))

-- the reading after equations
pub record AreEquationsRead (t : Tables) (b : Body) (free count : ℕ) (waits : ℕ → Type 0) (es : List Equation) (before after : Reading) : Type 0 where
  pub net : IsReadBut t b free count waits after
  pub keeps : Keeps before after
  pub held : (e : Equation) → IsAmong e es → IsEquationHeld t e after

pub equations_read : (t : Tables) (b : Body) (free count : ℕ) (waits : ℕ → Type 0) → HaveFewPorts t → (es : List Equation) (r : Reading) → ((e : Equation) → IsAmong e es → IsAmong e b.equations) →
    list_all (equation_fits t) es ≡ true → HeadsKnown t.names es → IsReadBut t b free count waits r → AreEquationsRead t b free (count + names_in_equations es) waits es r (reads_equations t es r)
equations_read t b free count waits small [] r among fits known net = record {
  net = record { read = more_names t b free count (count + names_in_equations []) r (omega arith) net.read; wide = net.wide; first = net.first; alone = net.alone; joined = net.joined };
  keeps = keeps_itself r;
  held = λ e h. absurd h;
}
equations_read t b free count waits small (e ∷ es) r among fits known net =
    let both = and_parts (arities_fit t e.left && arities_fit t e.right) (list_all (equation_fits t) es) fits in
    let here = and_parts (arities_fit t e.left) (arities_fit t e.right) both.0 in
    let one = equation_read t b free count waits small e r (among e (inl refl)) here.0 here.1 known.0 net in
    let all = equations_read t b free (count + names_in_equation e) waits small es (reads_equation t e r) (λ x h. among x (inr h)) both.1 known.1 one.net in
    record {
      net = record { read = more_names t b free (count + names_in_equation e + names_in_equations es) (count + names_in_equations (e ∷ es)) _ (omega arith) all.net.read; wide = all.net.wide; first = all.net.first; alone = all.net.alone; joined = all.net.joined };
      keeps = keeps_both r (reads_equation t e r) _ one.keeps all.keeps;
      held = λ x h. held_by x h one.held all.keeps all.held;
    }
  where
    held_by : (x : Equation) → IsAmong x (e ∷ es) → IsEquationHeld t e (reads_equation t e r) → Keeps (reads_equation t e r) (reads_equations t es (reads_equation t e r)) →
        ((x : Equation) → IsAmong x es → IsEquationHeld t x (reads_equations t es (reads_equation t e r))) → IsEquationHeld t x (reads_equations t es (reads_equation t e r))
    held_by x (inl y) here keeps others = subst (λ x. IsEquationHeld t x (reads_equations t es (reads_equation t e r))) y (equation_stays t e (reads_equation t e r) _ keeps here)
    held_by x (inr y) here keeps others = others x y

-- ---- the terms of a head

-- the reading after a head's term and its joint
pub record IsPlaceRead (t : Tables) (b : Body) (free count : ℕ) (waits : ℕ → Type 0) (at : ℕ) (v : Term) (before after : Reading) : Type 0 where
  pub net : IsReadBut t b free count waits after
  pub keeps : Keeps before after
  pub settled : IsSettled after (text.free_end at) (spot_of t v) (place_of v)
  pub held : IsHeldIn t v after

end_named : (u : TextSpot) (k : ℕ) → IsEnd u k → named u ≡ text.free_end k
end_named (Port a i p) k h = absurd h
end_named (Free j m) k h = ap text.free_end h
end_named (End j) k h = ap text.free_end h
end_named (Occurrence m p) k h = absurd h

-- one end that waited is joined to a term
module _ (t : Tables) (b : Body) (free count : ℕ) (waits then_ : ℕ → Type 0) (small : HaveFewPorts t) (v : Term) (r : Reading) (first port : ℕ)
    (terms : (u : Term) → IsPartOf u v → IsTermOf b u) (fits : arities_fit t v ≡ true) (known : heads_known t.names v ≡ true) (joint : PlacedJoint t b (text.free_end (first + port)) (spot_of t v) (place_of v))
    (waited : waits (first + port)) (still : (i : ℕ) → then_ i → waits i) (done : then_ (first + port) → ⊥) (others : (i : ℕ) → waits i → (i ≡ first + port) ⊎ then_ i) (net : IsReadBut t b free count waits r) where
  abbrev r1 : Reading
  r1 = ((reader_of t v).reads r).0

  abbrev other : ℕ
  other = ((reader_of t v).reads r).1

  abbrev r2 : Reading
  r2 = with_joint r1 first port other (reader_of t v).place

  on : IsReadOn t b free (count + names_in v) v r r1 other
  on = reads_on t b free small v count r fits known terms net.read

  wider : length r1.spots ≡ length r.spots + length on.more
  wider = ap length on.spots ∙ length-append r.spots on.more

  low : first + port < length r.spots
  low = let lt = net.first (first + port) waited in let w = net.wide in omega (arith, lt, w)

  in_ : first + port < length r1.spots
  in_ = let l = low in omega (arith, l, wider)

  apart : first + port ≢ other
  apart e = absurd (let l = low in omega (arith, e, on.root_is, l))

  here : named (nth_spot r1.spots (first + port)) ≡ text.free_end (first + port)
  here =
      let end = net.read.numbered.ends (first + port) (net.first (first + port) waited) in
      ap named (ap (λ z. nth_spot z (first + port)) on.spots ∙ at_front r.spots on.more (first + port) no_spot low) ∙ end_named (nth_spot r.spots (first + port)) (first + port) end.1

  alone_there : (nth_link (links_of r1) (first + port)).to ≡ first + port
  alone_there = ap (λ (l : Link). l.to) (on.links (first + port) low ∙ net.alone (first + port) waited)

  stands : PlacedJoint t b (named (nth_spot r1.spots (first + port))) (named (nth_spot r1.spots other)) (reader_of t v).place
  stands =
      subst (λ p. PlacedJoint t b (named (nth_spot r1.spots (first + port))) (named (nth_spot r1.spots other)) p) (sym (place_read t v r1))
      (subst (λ s. PlacedJoint t b s (named (nth_spot r1.spots other)) (place_of v)) (sym here)
      (subst (λ s. PlacedJoint t b (text.free_end (first + port)) s (place_of v)) (sym on.stands) joint))

  third : (i : ℕ) → i ≢ first + port → i ≢ other → nth_link (links_of r2) i ≡ nth_link (links_of r1) i
  third i x y = ap (λ z. nth_link z i) (links_joint r1 first port other (reader_of t v).place) ∙ at_third (links_of r1) (first + port) other (reader_of t v).place i x y

  one_to : (nth_link (links_of r2) (first + port)).to ≡ other
  one_to =
      let size = length-links_of r1 in
      let i = in_ in
      ap (λ (z : List Link). (nth_link z (first + port)).to) (links_joint r1 first port other (reader_of t v).place)
      ∙ ap (λ (l : Link). l.to) (at_first (links_of r1) (first + port) other (reader_of t v).place (omega (arith, i, size)) (omega (arith, on.there, size)) apart)

  other_to : (nth_link (links_of r2) other).to ≡ first + port
  other_to =
      let size = length-links_of r1 in
      let i = in_ in
      ap (λ (z : List Link). (nth_link z other).to) (links_joint r1 first port other (reader_of t v).place)
      ∙ ap (λ (l : Link). l.to) (at_second (links_of r1) (first + port) other (reader_of t v).place (omega (arith, i, size)) (omega (arith, on.there, size)))

  old : (i : ℕ) → i < length r.spots → i ≢ first + port → nth_link (links_of r2) i ≡ nth_link (links_of r) i
  old i lt x = third i x (λ e. absurd (omega (arith, e, on.root_is, lt))) ∙ on.links i lt

  joined_by : (i : ℕ) → i < length r1.spots → (then_ i → ⊥) → (i ≡ first + port) ⊎ (i ≢ first + port) → (i ≡ other) ⊎ (i ≢ other) → (i < length r.spots) ⊎ (length r.spots ≤ i) → (nth_link (links_of r2) i).to ≢ i
  joined_by i lt past (inl e) y z f = apart (sym e ∙ sym f ∙ ap (λ k. (nth_link (links_of r2) k).to) e ∙ one_to)
  joined_by i lt past (inr x) (inl e) z f = apart (sym other_to ∙ sym (ap (λ k. (nth_link (links_of r2) k).to) e) ∙ f ∙ e)
  joined_by i lt past (inr x) (inr y) (inl front) f = net.joined i front (λ w. waiting (others i w)) (sym (ap (λ (l : Link). l.to) (old i front x)) ∙ f)
    where
      waiting : (i ≡ first + port) ⊎ then_ i → ⊥
      waiting (inl e) = x e
      waiting (inr w) = past w
  joined_by i lt past (inr x) (inr y) (inr behind) f = on.joined i (after (cases_lt other i)) lt (sym (ap (λ (l : Link). l.to) (third i x y)) ∙ f)
    where
      after : (other < i) ⊎ (i ≤ other) → other < i
      after (inl a) = a
      after (inr a) = absurd (y (omega (arith, a, behind, on.root_is)))

  alone_by : (i : ℕ) → then_ i → (i ≡ first + port) ⊎ (i ≢ first + port) → nth_link (links_of r2) i ≡ self_link i
  alone_by i w (inl e) = absurd (done (subst then_ e w))
  alone_by i w (inr x) = let lt = net.first i (still i w) in let wide = net.wide in old i (omega (arith, lt, wide)) x ∙ net.alone i (still i w)

  pub place_joined : IsPlaceRead t b free (count + names_in v) then_ (first + port) v r r2
  place_joined =
      let size = length-links_of r1 in
      let i_in = in_ in
      let keeps_one = keeps_joint r1 first port other (reader_of t v).place alone_there on.alone in
      let settled = settled_joint r1 first port other (reader_of t v).place (omega (arith, i_in, size)) (omega (arith, on.there, size)) size apart in
      record {
        net = record {
          read = with_joint_read t b free (count + names_in v) r1 first port other (reader_of t v).place on.read in_ on.there apart alone_there on.alone stands;
          wide = let w = net.wide in omega (arith, w, wider);
          first = λ i w. net.first i (still i w);
          alone = λ i w. alone_by i w (cases_eq i (first + port));
          joined = λ i lt past. joined_by i lt past (cases_eq i (first + port)) (cases_eq i other) (cases_lt i (length r.spots));
        };
        keeps = keeps_both r r1 r2 on.keeps keeps_one;
        settled =
            subst (λ p. IsSettled r2 (text.free_end (first + port)) (spot_of t v) p) (place_read t v r1)
            (subst (λ s. IsSettled r2 (text.free_end (first + port)) s (reader_of t v).place) on.stands
            (subst (λ s. IsSettled r2 s (named (nth_spot r1.spots other)) (reader_of t v).place) here settled));
        held = held_stays t v r1 r2 keeps_one on.held;
      }

-- the reading after the terms of a head, from one place on
pub record ArePlacesRead (t : Tables) (b : Body) (free count : ℕ) (waits : ℕ → Type 0) (first port : ℕ) (vs : List Term) (before after : Reading) : Type 0 where
  pub net : IsReadBut t b free count waits after
  pub keeps : Keeps before after
  pub settled : (j : ℕ) (v : Term) → slice_get vs j ≡ Some v → IsSettled after (text.free_end (first + (port + j))) (spot_of t v) (place_of v)
  pub held : (v : Term) → IsAmong v vs → IsHeldIn t v after

-- the ends of a head from one place on, or others
abbrev Waits : (first port n : ℕ) → (ℕ → Type 0) → ℕ → Type 0
Waits first port n rest i = ((j : ℕ) × (j < n) × (i ≡ first + (port + j))) ⊎ rest i

but_same : (t : Tables) (b : Body) (free count : ℕ) (W V : ℕ → Type 0) (r : Reading) → ((i : ℕ) → V i → W i) → ((i : ℕ) → W i → V i) → IsReadBut t b free count W r → IsReadBut t b free count V r
but_same t b free count W V r to back h = record {
  read = h.read;
  wide = h.wide;
  first = λ i w. h.first i (to i w);
  alone = λ i w. h.alone i (to i w);
  joined = λ i lt past. h.joined i lt (λ w. past (back i w));
}

places_read : (t : Tables) (b : Body) (free count : ℕ) (rest : ℕ → Type 0) → HaveFewPorts t → (h : LeftHead) → IsAmong h b.heads → (done vs : List Term) → done ++ vs ≡ h.head.terms → (port : ℕ) → port ≡ length done → (r : Reading) →
    list_all (arities_fit t) vs ≡ true → AllByRecursion (λ u. heads_known t.names u ≡ true) vs → ((i j : ℕ) → rest i → j < length h.head.terms → i ≢ h.first + j) → IsReadBut t b free count (Waits h.first port (length vs) rest) r →
    ArePlacesRead t b free (count + total (map names_in vs)) rest h.first port vs r (reads_arguments h.first (map (reader_of t) vs) port r)
places_read t b free count rest small h among done [] all port at r fits known differ net =
    let none : (i : ℕ) → Waits h.first port 0 rest i → rest i = λ i w. elim w [ inl x ↦ absurd (omega (arith, x.1)) | inr x ↦ x ] in
    let same = but_same t b free count (Waits h.first port 0 rest) rest r (λ i w. inr w) none net in
    record {
      net = record { read = more_names t b free count (count + total (map names_in [])) r (omega arith) same.read; wide = same.wide; first = same.first; alone = same.alone; joined = same.joined };
      keeps = keeps_itself r;
      settled = λ j v e. absurd (none-some v e);
      held = λ v x. absurd x;
    }
places_read t b free count rest small h among done (v ∷ vs) all port at r fits known differ net =
    let both = and_parts (arities_fit t v) (list_all (arities_fit t) vs) fits in
    let there : slice_get h.head.terms (length done) ≡ Some v = subst (λ z. slice_get z (length done) ≡ Some v) all (middle done vs v) in
    let in_head : IsAmong v h.head.terms = subst (IsAmong v) all (among_middle done vs v) in
    let size : length h.head.terms ≡ length done + suc (length vs) = sym (ap length all) ∙ length-append done (v ∷ vs) in
    let joint : PlacedJoint t b (text.free_end (h.first + port)) (spot_of t v) (place_of v) =
    subst (λ k. PlacedJoint t b (text.free_end (h.first + k)) (spot_of t v) (place_of v)) (sym at) (PlacedJoint.of_head h v (length done) among there) in
    let then_ : ℕ → Type 0 = Waits h.first (port + 1) (length vs) rest in
    let one =
    place_joined t b free count (Waits h.first port (suc (length vs)) rest) (Waits h.first (port + 1) (length vs) rest) small v r h.first port (λ u part. IsTermOf.in_head h v among in_head part) both.0 known.0 joint
    (inl (0, omega arith, omega arith)) later
    (λ w. not_again size w) sooner net in
    let more = places_read t b free (count + names_in v) rest small h among (done ++ v ∷ []) vs (append_assoc done (v ∷ []) vs ∙ all) (port + 1) (omega (arith, at, length-append done (v ∷ []))) _ both.1 known.1 differ one.net in
    record {
      net = record {
        read = more_names t b free (count + names_in v + total (map names_in vs)) (count + total (map names_in (v ∷ vs))) _ (omega arith) more.net.read;
        wide = more.net.wide;
        first = more.net.first;
        alone = more.net.alone;
        joined = more.net.joined;
      };
      keeps = keeps_both r _ _ one.keeps more.keeps;
      settled = λ j u e. settled_by j u e one.settled more.keeps more.settled;
      held = λ u x. held_by u x one.held more.keeps more.held;
    }
  where
    q : Reading
    q = with_joint ((reader_of t v).reads r).0 h.first port ((reader_of t v).reads r).1 (reader_of t v).place

    after : Reading
    after = reads_arguments h.first (map (reader_of t) vs) (port + 1) (with_joint ((reader_of t v).reads r).0 h.first port ((reader_of t v).reads r).1 (reader_of t v).place)

    later : (i : ℕ) → Waits h.first (port + 1) (length vs) rest i → Waits h.first port (suc (length vs)) rest i
    later i (inl (j, lt, e)) = inl (suc j, omega (arith, lt), omega (arith, e))
    later i (inr w) = inr w

    not_again : length h.head.terms ≡ length done + suc (length vs) → Waits h.first (port + 1) (length vs) rest (h.first + port) → ⊥
    not_again size (inl (j, lt, e)) = absurd (omega (arith, e))
    not_again size (inr w) = differ (h.first + port) port w (omega (arith, at, size)) refl

    sooner : (i : ℕ) → Waits h.first port (suc (length vs)) rest i → (i ≡ h.first + port) ⊎ Waits h.first (port + 1) (length vs) rest i
    sooner i (inl (zero, lt, e)) = inl (omega (arith, e))
    sooner i (inl (suc j, lt, e)) = inr (inl (j, omega (arith, lt), omega (arith, e)))
    sooner i (inr w) = inr (inr w)

    settled_by : (j : ℕ) (u : Term) → slice_get (v ∷ vs) j ≡ Some u → IsSettled q (text.free_end (h.first + port)) (spot_of t v) (place_of v) → Keeps q after →
        ((j : ℕ) (u : Term) → slice_get vs j ≡ Some u → IsSettled after (text.free_end (h.first + (port + 1 + j))) (spot_of t u) (place_of u)) → IsSettled after (text.free_end (h.first + (port + j))) (spot_of t u) (place_of u)
    settled_by zero u e here keeps more =
        let same : v ≡ u = cc in
        let n : h.first + port ≡ h.first + (port + 0) = omega arith in
        subst (λ k. IsSettled after (text.free_end k) (spot_of t u) (place_of u)) n (subst (λ x. IsSettled after (text.free_end (h.first + port)) (spot_of t x) (place_of x)) same (keeps.settled _ _ _ here))
    settled_by (suc j) u e here keeps more = let n : h.first + (port + 1 + j) ≡ h.first + (port + suc j) = omega arith in subst (λ k. IsSettled after (text.free_end k) (spot_of t u) (place_of u)) n (more j u e)

    held_by : (u : Term) → IsAmong u (v ∷ vs) → IsHeldIn t v q → Keeps q after → ((u : Term) → IsAmong u vs → IsHeldIn t u after) → IsHeldIn t u after
    held_by u (inl e) here keeps more = held_stays t u q after keeps (subst (λ u. IsHeldIn t u q) e here)
    held_by u (inr x) here keeps more = more u x

-- ---- heads

-- a head's ends are joined to its terms, and so is all in its terms
pub record IsHeadHeld (t : Tables) (h : LeftHead) (r : Reading) : Type 0 where
  pub settled : (i : ℕ) (v : Term) → slice_get h.head.terms i ≡ Some v → IsSettled r (text.free_end (h.first + i)) (spot_of t v) (place_of v)
  pub held : (v : Term) → IsAmong v h.head.terms → IsHeldIn t v r

head_stays : (t : Tables) (h : LeftHead) (r q : Reading) → Keeps r q → IsHeadHeld t h r → IsHeadHeld t h q
head_stays t h r q keeps x = record { settled = λ i v e. keeps.settled _ _ _ (x.settled i v e); held = λ v among. held_stays t v r q keeps (x.held v among) }

-- the ends of some heads, or others
abbrev pub AtHeads : List LeftHead → (ℕ → Type 0) → ℕ → Type 0
AtHeads [] rest i = rest i
AtHeads (h ∷ hs) rest i = ((j : ℕ) × (j < length h.head.terms) × (i ≡ h.first + j)) ⊎ AtHeads hs rest i

-- no two heads share an end, and no head shares one with others
abbrev pub AreHeadsApart : List LeftHead → (ℕ → Type 0) → Type 0
AreHeadsApart [] rest = Unit {0}
AreHeadsApart (h ∷ hs) rest = ((i j : ℕ) → AtHeads hs rest i → j < length h.head.terms → i ≢ h.first + j) × AreHeadsApart hs rest

pub record AreHeadsRead (t : Tables) (b : Body) (free count : ℕ) (waits : ℕ → Type 0) (hs : List LeftHead) (before after : Reading) : Type 0 where
  pub net : IsReadBut t b free count waits after
  pub keeps : Keeps before after
  pub held : (h : LeftHead) → IsAmong h hs → IsHeadHeld t h after

-- the names in the terms of heads
abbrev pub names_in_heads : List LeftHead → ℕ
names_in_heads hs = total (map (λ h. total (map names_in h.head.terms)) hs)

heads_read : (t : Tables) (b : Body) (free count : ℕ) (rest : ℕ → Type 0) → HaveFewPorts t → (hs : List LeftHead) → ((h : LeftHead) → IsAmong h hs → IsAmong h b.heads) → (r : Reading) → list_all (head_fits t) hs ≡ true → AreHeadsKnown t hs → AreHeadsApart hs rest →
    IsReadBut t b free count (AtHeads hs rest) r → AreHeadsRead t b free (count + names_in_heads hs) rest hs r (reads_heads t hs r)
heads_read t b free count rest small [] among r fits known apart net = record {
  net = record { read = more_names t b free count (count + names_in_heads []) r (omega arith) net.read; wide = net.wide; first = net.first; alone = net.alone; joined = net.joined };
  keeps = keeps_itself r;
  held = λ h x. absurd x;
}
heads_read t b free count rest small (h ∷ hs) among r fits known apart net =
    let both = and_parts (head_fits t h) (list_all (head_fits t) hs) fits in
    let here = and_parts (fits_arity t (number_in h.head.name.text t.names) (length h.head.terms)) (list_all (arities_fit t) h.head.terms) both.0 in
    let W : ℕ → Type 0 = Waits h.first 0 (length h.head.terms) (AtHeads hs rest) in
    let ready = but_same t b free count (AtHeads (h ∷ hs) rest) (Waits h.first 0 (length h.head.terms) (AtHeads hs rest)) r to back net in
    let one = places_read t b free count (AtHeads hs rest) small h (among h (inl refl)) [] h.head.terms refl 0 refl r here.1 known.0 apart.0 ready in
    let more = heads_read t b free (count + total (map names_in h.head.terms)) rest small hs (λ g x. among g (inr x)) (reads_arguments h.first (map (reader_of t) h.head.terms) 0 r) both.1 known.1 apart.1 one.net in
    record {
      net = record {
        read = more_names t b free (count + total (map names_in h.head.terms) + names_in_heads hs) (count + names_in_heads (h ∷ hs)) _ (omega arith) more.net.read;
        wide = more.net.wide;
        first = more.net.first;
        alone = more.net.alone;
        joined = more.net.joined;
      };
      keeps = keeps_both r _ _ one.keeps more.keeps;
      held = λ g x. held_by g x one.settled one.held more.keeps more.held;
    }
  where
    q : Reading
    q = reads_arguments h.first (map (reader_of t) h.head.terms) 0 r

    to : (i : ℕ) → Waits h.first 0 (length h.head.terms) (AtHeads hs rest) i → AtHeads (h ∷ hs) rest i
    to i (inl (j, lt, e)) = inl (j, lt, omega (arith, e))
    to i (inr w) = inr w

    back : (i : ℕ) → AtHeads (h ∷ hs) rest i → Waits h.first 0 (length h.head.terms) (AtHeads hs rest) i
    back i (inl (j, lt, e)) = inl (j, lt, omega (arith, e))
    back i (inr w) = inr w

    held_by : (g : LeftHead) → IsAmong g (h ∷ hs) → ((j : ℕ) (v : Term) → slice_get h.head.terms j ≡ Some v → IsSettled q (text.free_end (h.first + (0 + j))) (spot_of t v) (place_of v)) →
        ((v : Term) → IsAmong v h.head.terms → IsHeldIn t v q) → Keeps q (reads_heads t hs q) → ((g : LeftHead) → IsAmong g hs → IsHeadHeld t g (reads_heads t hs q)) → IsHeadHeld t g (reads_heads t hs q)
    held_by g (inl e) settled held keeps others =
        let here : IsHeadHeld t h q = record {
          settled = λ i v f. let n : h.first + (0 + i) ≡ h.first + i = omega arith in subst (λ k. IsSettled q (text.free_end k) (spot_of t v) (place_of v)) n (settled i v f);
          held = held;
        } in
        subst (λ g. IsHeadHeld t g (reads_heads t hs q)) e (head_stays t h q (reads_heads t hs q) keeps here)
    held_by g (inr x) settled held keeps others = others g x

-- ---- free and boundary ends

-- only free and boundary ends are read
pub record AreFreeRead (t : Tables) (b : Body) (k : ℕ) (r : Reading) : Type 0 where
  pub read : IsRead t b k 0 r
  pub size : length r.spots ≡ k
  pub agents : r.agents ≡ []
  pub joints : r.joints ≡ []

pub nothing : (t : Tables) (b : Body) → AreFreeRead t b 0 nothing_read
nothing t b = record {
  read = record {
    numbered = record { port = λ k a i p lt e. absurd (omega (arith, lt)); end = λ k j lt e. absurd (omega (arith, lt)); ports = λ a i lt le. absurd (omega (arith, lt)); ends = λ k lt. absurd (omega (arith, lt)); rise = λ a c less lt. absurd (omega (arith, lt)) };
    joints = tt;
    linked = record { inside = λ i lt. absurd (omega (arith, lt)); back = λ i lt. absurd (omega (arith, lt)); sound = λ i lt apart. absurd (omega (arith, lt)) };
    known = tt;
    named_as = tt;
    few_agents = omega arith;
    few_spots = omega arith;
  };
  size = refl;
  agents = refl;
  joints = refl;
}

pub free_read : (t : Tables) (b : Body) (done fs : List SourceFree) (r : Reading) → done ++ fs ≡ b.free → AreFreeRead t b (length done) r → AreFreeRead t b (length b.free) (reads_free_from (length done) fs r)
free_read t b done [] r all h = let same : length done ≡ length b.free = ap length (sym (append-nil done) ∙ all) in subst (λ n. AreFreeRead t b n r) same h
free_read t b done (f ∷ fs) r all h =
    let here : slice_get b.free (length done) ≡ Some f = subst (λ z. slice_get z (length done) ≡ Some f) all (middle done fs f) in
    let count : length (done ++ f ∷ []) ≡ length done + 1 = length-append done (f ∷ []) in
    let spot : TextSpot = Free (length done) (number_with r.names f.name.text) in
    let grown = length-append r.spots (spot ∷ []) in
    let one : AreFreeRead t b (length done + 1) (reads_free_end (length done) f r) = record {
      read = free_end_read t b (length done) r f here h.size h.agents h.joints h.read;
      size = omega (arith, grown, h.size);
      agents = h.agents;
      joints = h.joints;
    } in
    subst (λ n. AreFreeRead t b (length b.free) (reads_free_from n fs (reads_free_end (length done) f r))) count
    (free_read t b (done ++ f ∷ []) fs (reads_free_end (length done) f r) (append_assoc done (f ∷ []) fs ∙ all) (subst (λ n. AreFreeRead t b n (reads_free_end (length done) f r)) (sym count) one))

ends_apart : (k n : ℕ) (spots : List TextSpot) → spots ++ boundary_spots k (suc n) ≡ (spots ++ End k ∷ []) ++ boundary_spots (k + 1) n
ends_apart k n spots = sym (append_assoc spots (End k ∷ []) (boundary_spots (k + 1) n))

pub ends_read : (t : Tables) (b : Body) (k n : ℕ) (r : Reading) → AreFreeRead t b k r → AreFreeRead t b (k + n) (record r { spots = r.spots ++ boundary_spots k n })
ends_read t b k zero r h =
    let e : k + 0 ≡ k = omega arith in
    let same : r.spots ++ [] ≡ r.spots = append-nil r.spots in
    subst (λ z. AreFreeRead t b (k + 0) (record r { spots = z })) (sym same) (subst (λ k. AreFreeRead t b k r) (sym e) h)
ends_read t b k (suc n) r h =
    let one : AreFreeRead t b (k + 1) (record r { spots = r.spots ++ End k ∷ [] }) = record {
      read = boundary_end_read t b k r h.size h.agents h.joints h.read;
      size = omega (arith, length-append r.spots (End k ∷ []), h.size);
      agents = h.agents;
      joints = h.joints;
    } in
    let e : k + 1 + n ≡ k + suc n = omega arith in
    subst (λ z. AreFreeRead t b (k + suc n) (record r { spots = z })) (sym (ends_apart k n r.spots))
    (subst (λ m. AreFreeRead t b m (record r { spots = (r.spots ++ End k ∷ []) ++ boundary_spots (k + 1) n })) e (ends_read t b (k + 1) n (record r { spots = r.spots ++ End k ∷ [] }) one))

with_ends_read : (t : Tables) (b : Body) (n : ℕ) (r : Reading) → AreFreeRead t b (length b.free) r → AreFreeRead t b (length b.free + n) (with_ends r n)
with_ends_read t b zero r h = let e : length b.free + 0 ≡ length b.free = omega arith in subst (λ k. AreFreeRead t b k r) (sym e) h
with_ends_read t b (suc n) r h =
    let sized : length r.spots ≡ length b.free = h.size in
    subst (λ k. AreFreeRead t b (length b.free + suc n) (record r { spots = r.spots ++ boundary_spots k (suc n) })) (sym sized) (ends_read t b (length b.free) (suc n) r h)

-- each free name waits for its name
abbrev pub AtFree : Body → ℕ → Type 0
AtFree b i = i < length b.free

-- the heads of a body have the ends after the free names, each of them one, and no other
pub record AreHeadsOf (t : Tables) (b : Body) : Type 0 where
  pub apart : AreHeadsApart b.heads (AtFree b)
  pub inside : (i : ℕ) → AtHeads b.heads (AtFree b) i → i < length b.free + ends_of t b.heads
  pub covered : (i : ℕ) → i < length b.free + ends_of t b.heads → AtHeads b.heads (AtFree b) i

begun : (t : Tables) (b : Body) (r : Reading) → AreHeadsOf t b → AreFreeRead t b (length b.free + ends_of t b.heads) r → IsReadBut t b (length b.free + ends_of t b.heads) 0 (AtHeads b.heads (AtFree b)) r
begun t b r heads h = record {
  read = h.read;
  wide = let e = h.size in omega (arith, e);
  first = heads.inside;
  alone = λ i w. let lt = heads.inside i w in let e = h.size in self i (omega (arith, lt, e));
  joined = λ i lt past. absurd (past (heads.covered i (let e = h.size in omega (arith, lt, e))));
}
  where
    self : (i : ℕ) → i < length r.spots → nth_link (links_of r) i ≡ self_link i
    self i lt = let e : 0 + i ≡ i = omega arith in ap (λ js. nth_link (with_joints (self_links 0 (length r.spots)) js) i) h.joints ∙ nth_self 0 (length r.spots) i lt ∙ ap self_link e

-- ---- the reading of a body

abbrev pub ends_in : Tables → Body → ℕ
ends_in t b = length b.free + ends_of t b.heads

abbrev pub names_in_body : Body → ℕ
names_in_body b = names_in_heads b.heads + names_in_equations b.equations

pub record IsBodyRead (t : Tables) (b : Body) (r : Reading) : Type 0 where
  pub net : IsNetRead t b (ends_in t b) (names_in_body b) r
  pub heads : (h : LeftHead) → IsAmong h b.heads → IsHeadHeld t h r
  pub equations : (e : Equation) → IsAmong e b.equations → IsEquationHeld t e r

pub body_read : (t : Tables) (b : Body) → HaveFewPorts t → AreHeadsOf t b → all_arities_fit t b ≡ true → IsBodyKnown t b → IsBodyRead t b (reading_of t b)
body_read t b small ends fits known =
    let both = and_parts (list_all (head_fits t) b.heads) (list_all (equation_fits t) b.equations) fits in
    let free = free_read t b [] b.free nothing_read refl (nothing t b) in
    let start : AreFreeRead t b (ends_in t b) (with_ends (reads_free b.free) (ends_of t b.heads)) = with_ends_read t b (ends_of t b.heads) (reads_free b.free) free in
    let heads = heads_read t b (ends_in t b) 0 (AtFree b) small b.heads (λ h x. x) (with_ends (reads_free b.free) (ends_of t b.heads)) both.0 known.heads ends.apart (begun t b (with_ends (reads_free b.free) (ends_of t b.heads)) ends start) in
    let all = equations_read t b (ends_in t b) (0 + names_in_heads b.heads) (AtFree b) small b.equations (reads_heads t b.heads (with_ends (reads_free b.free) (ends_of t b.heads))) (λ e x. x) both.1 known.equations heads.net in
    let count : 0 + names_in_heads b.heads + names_in_equations b.equations ≡ names_in_body b = omega arith in
    let net = subst (λ k. IsReadBut t b (ends_in t b) k (AtFree b) (reading_of t b)) count all.net in
    record {
      net = record { read = net.read; wide = net.wide; alone = net.alone; joined = λ i from lt. net.joined i lt (λ w. absurd (omega (arith, w, from))) };
      heads = λ h x. head_stays t h _ (reading_of t b) all.keeps (heads.held h x);
      equations = all.held;
    }
