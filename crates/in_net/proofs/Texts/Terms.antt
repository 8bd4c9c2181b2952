-- A term is read: the added spots are joined, except for the term's own.
use Rattle.std.proofs.Common.{◌≡◌, ◌≢◌, ◌⊎◌, inl, inr, ℕ, zero, suc, ◌+◌, ◌<◌, ◌≤◌, true, List, [], ◌∷◌, ◌++◌, length, map, Option, Some, None, IsSome, refl, sym, ◌∙◌, ap, subst, arith, slice_get, length-append, append_assoc, append-nil}
use Rattle.std.proofs.lemmas.Option.{none-some}
use Rattle.std.specs.List.{AllByRecursion}
use Rattle.std.specs.Str.{bytes_eq}
use Rattle.std.proofs.lemmas.List.Quantifiers.{position-Some}
use Rattle.in_syntax.specs.declared.tree.Term.{Term, out-Term}
use Rattle.in_syntax.specs.Sizes.{total, names_in}
use Rattle.in_syntax.specs.declared.symbol_no.SymbolNo.{SymbolNo}
use Rattle.in_net.specs.declared.joining.Link.{Link}
use Rattle.in_net.specs.declared.reading.TextSpot.{TextSpot}
use Rattle.in_net.specs.declared.reading.TextSpot.TheVariants.{Port, Occurrence}
use Rattle.in_net.specs.declared.reading.Reading.{Reading}
use Rattle.in_symbols.specs.Names.{number_in}
use Rattle.in_symbols.specs.Tables.{Tables, arity_of, all_true, heads_known}
use Rattle.in_net.specs.Arities.{arities_fit}
use Rattle.in_net.specs.Reading.{with_agent, with_occurrence, with_joint, number_with, ports_from, reader_of, reads_arguments}
use Rattle.in_net.specs.Joining.{links_of}
use Rattle.in_net.specs.Built.{HaveFewPorts}
use Rattle.in_net.specs.Building.{no_spot, nth_spot, nth_link}
use Rattle.in_net.specs.TextNet as text
use Rattle.in_base.specs.Lists.{IsAmong}
use Rattle.in_net.specs.TextNet.{Body, IsTermOf, IsPartOf, IsVariable, PlacedJoint, name_of, place_of, spot_of, spot_by}
use Rattle.in_net.proofs.Texts.Folds.{fits_agent, read_agent, read_occurrence, place_read}
use Rattle.in_net.proofs.Wiring.Linked.{at_front, at_back, at_first, at_second, at_third, stays, added, links_joint, length-links_of}
use Rattle.in_net.proofs.Wiring.Sound.{named}
use Rattle.in_net.proofs.Texts.HeadsOf.{arguments_known, no_arguments}
use Rattle.in_net.proofs.Texts.Kept.{IsSettled, IsHeldAt, Keeps, keeps_both, keeps_itself, keeps_more, keeps_joint, settled_joint}
use Rattle.in_net.proofs.Texts.Read.{name_there, grows_by, IsRead, with_agent_read, with_occurrence_read, with_joint_read, more_names, new_spot, wider_agent}
use Rattle.std.proofs.lemmas.Bool.{and_parts, cases_eq, cases_lt}
use Rattle.in_syntax.proofs.Public.{names_out, term_by_arguments}

-- the joints of a term's arguments and its variables are among the spots
pub record IsHeldIn (t : Tables) (u : Term) (r : Reading) : Type 0 where
  pub arguments : (v w : Term) (i : ℕ) → IsPartOf v u → IsSome (number_in (name_of v) t.names) → slice_get (out-Term v).args i ≡ Some w → IsSettled r (text.port_at (place_of v) (suc i)) (spot_of t w) (place_of w)
  pub variables : (v : Term) → IsPartOf v u → IsVariable t v → IsHeldAt r v

pub held_stays : (t : Tables) (u : Term) (r q : Reading) → Keeps r q → IsHeldIn t u r → IsHeldIn t u q
held_stays t u r q keeps h = record { arguments = λ v w i part symbol is. keeps.settled _ _ _ (h.arguments v w i part symbol is); variables = λ v part variable. keeps.held v (h.variables v part variable) }

-- the reading after a term
pub record IsReadOn (t : Tables) (b : Body) (free count : ℕ) (u : Term) (before after : Reading) (root : ℕ) : Type 0 where
  pub read : IsRead t b free count after
  pub more : List TextSpot
  pub spots : after.spots ≡ before.spots ++ more
  pub root_is : root ≡ length before.spots
  pub there : root < length after.spots
  pub links : (i : ℕ) → i < length before.spots → nth_link (links_of after) i ≡ nth_link (links_of before) i
  pub alone : (nth_link (links_of after) root).to ≡ root
  pub joined : (i : ℕ) → root < i → i < length after.spots → (nth_link (links_of after) i).to ≢ i
  pub stands : named (nth_spot after.spots root) ≡ spot_of t u
  pub more_names : List (List ℕ)
  pub names_on : after.names ≡ before.names ++ more_names
  pub keeps : Keeps before after
  pub held : IsHeldIn t u after

-- the links of an agent that begins at a spot, before the argument at that port is read
pub record IsPast (first arity port : ℕ) (q : Reading) : Type 0 where
  pub alone : (j : ℕ) → port ≤ j → j ≤ arity → (nth_link (links_of q) (first + j)).to ≡ first + j
  pub root : (nth_link (links_of q) first).to ≡ first
  pub joined : (i : ℕ) → first < i → i < length q.spots → (i < first + port) ⊎ (first + arity < i) → (nth_link (links_of q) i).to ≢ i

-- the reading after the rest of the arguments
pub record AreReadOn (t : Tables) (b : Body) (free count first port : ℕ) (u : Term) (args : List Term) (before after : Reading) : Type 0 where
  pub read : IsRead t b free count after
  pub more : List TextSpot
  pub spots : after.spots ≡ before.spots ++ more
  pub links : (i : ℕ) → i < first → nth_link (links_of after) i ≡ nth_link (links_of before) i
  pub root : (nth_link (links_of after) first).to ≡ first
  pub joined : (i : ℕ) → first < i → i < length after.spots → (nth_link (links_of after) i).to ≢ i
  pub more_names : List (List ℕ)
  pub names_on : after.names ≡ before.names ++ more_names
  pub keeps : Keeps before after
  pub held : (w : Term) → IsAmong w args → IsHeldIn t w after
  pub settled : (j : ℕ) (w : Term) → slice_get args j ≡ Some w → IsSettled after (text.port_at (place_of u) (port + j)) (spot_of t w) (place_of w)

abbrev ReadsOn : Tables → Body → ℕ → Term → Type 0
ReadsOn t b free u =
    (count : ℕ) (r : Reading) → arities_fit t u ≡ true → heads_known t.names u ≡ true → ((v : Term) → IsPartOf v u → IsTermOf b v) → IsRead t b free count r →
    IsReadOn t b free (count + names_in u) u r ((reader_of t u).reads r).0 ((reader_of t u).reads r).1

pub among_middle : {X : Type 0} (done rest : List X) (v : X) → IsAmong v (done ++ v ∷ rest)
among_middle [] rest v = inl refl
among_middle (x ∷ done) rest v = inr (among_middle done rest v)

pub middle : {X : Type 0} (done rest : List X) (v : X) → slice_get (done ++ v ∷ rest) (length done) ≡ Some v
middle [] rest v = refl
middle (x ∷ done) rest v = middle done rest v

-- one argument: q is before it, q1 after it, and then it is joined
module _ (t : Tables) (b : Body) (free count first arity port agent : ℕ) (u v : Term) (done rest : List Term) (q q1 : Reading) (other : ℕ)
    (is_agent : IsSome (number_in (name_of u) t.names)) (there : IsTermOf b u)
    (all : done ++ v ∷ rest ≡ (out-Term u).args) (at : port ≡ length done + 1) (le : port ≤ arity) (room : first + arity < length q.spots)
    (ports : (j : ℕ) → j ≤ arity → nth_spot q.spots (first + j) ≡ Port agent j (place_of u))
    (past : IsPast first arity port q) (on : IsReadOn t b free count v q q1 other) where
  abbrev q2 : Reading
  q2 = with_joint q1 first port other (reader_of t v).place

  wider : length q.spots ≤ length q1.spots
  wider = let e = ap length on.spots ∙ length-append q.spots on.more in omega (arith, e)

  still : (i : ℕ) → i < length q.spots → nth_spot q1.spots i ≡ nth_spot q.spots i
  still i lt = ap (λ z. nth_spot z i) on.spots ∙ at_front q.spots on.more i no_spot lt

  apart : first + port ≢ other
  apart e = absurd (omega (arith, e, on.root_is, room, le))

  alone : (nth_link (links_of q1) (first + port)).to ≡ first + port
  alone = ap (λ (l : Link). l.to) (on.links (first + port) (omega (arith, room, le))) ∙ past.alone port (omega arith) le

  here : named (nth_spot q1.spots (first + port)) ≡ text.port_at (place_of u) (suc (length done))
  here =
      let e : port ≡ suc (length done) = omega (arith, at) in
      ap named (still (first + port) (omega (arith, room, le)) ∙ ports port le) ∙ ap (λ i. text.port_at (place_of u) i) e

  joint : PlacedJoint t b (named (nth_spot q1.spots (first + port))) (named (nth_spot q1.spots other)) (reader_of t v).place
  joint =
      subst (λ p. PlacedJoint t b (named (nth_spot q1.spots (first + port))) (named (nth_spot q1.spots other)) p) (sym (place_read t v q1))
      (subst (λ s. PlacedJoint t b s (named (nth_spot q1.spots other)) (place_of v)) (sym here)
      (subst (λ s. PlacedJoint t b (text.port_at (place_of u) (suc (length done))) s (place_of v)) (sym on.stands)
      (PlacedJoint.of_argument u v (length done) there is_agent (subst (λ z. slice_get z (length done) ≡ Some v) all (middle done rest v)))))

  pub joint_read : IsRead t b free count q2
  joint_read = with_joint_read t b free count q1 first port other (reader_of t v).place on.read (omega (arith, room, le, wider)) on.there apart alone on.alone joint

  abbrev links1 : List Link
  links1 = links_of q1

  one_in : first + port < length (links_of q1)
  one_in = omega (arith, room, le, wider, length-links_of q1)

  other_in : other < length (links_of q1)
  other_in = omega (arith, on.there, length-links_of q1)

  pub third : (i : ℕ) → i ≢ first + port → i ≢ other → nth_link (links_of q2) i ≡ nth_link (links_of q1) i
  third i x y = ap (λ z. nth_link z i) (links_joint q1 first port other (reader_of t v).place) ∙ at_third (links_of q1) (first + port) other (reader_of t v).place i x y

  one_to : (nth_link (links_of q2) (first + port)).to ≡ other
  one_to = ap (λ (z : List Link). (nth_link z (first + port)).to) (links_joint q1 first port other (reader_of t v).place) ∙ ap (λ (l : Link). l.to) (at_first (links_of q1) (first + port) other (reader_of t v).place one_in other_in apart)

  other_to : (nth_link (links_of q2) other).to ≡ first + port
  other_to = ap (λ (z : List Link). (nth_link z other).to) (links_joint q1 first port other (reader_of t v).place) ∙ ap (λ (l : Link). l.to) (at_second (links_of q1) (first + port) other (reader_of t v).place one_in other_in)

  -- a spot of q that isn't that port is joined as before
  pub old : (i : ℕ) → i < length q.spots → i ≢ first + port → nth_link (links_of q2) i ≡ nth_link (links_of q) i
  old i lt x = third i x (λ e. absurd (omega (arith, e, on.root_is, lt))) ∙ on.links i lt

  joined_by : (i : ℕ) → first < i → i < length q1.spots → (i < first + (port + 1)) ⊎ (first + arity < i) → (i ≡ first + port) ⊎ (i ≢ first + port) → (i ≡ other) ⊎ (i ≢ other) → (i < length q.spots) ⊎ (length q.spots ≤ i) →
      (nth_link (links_of q2) i).to ≢ i
  joined_by i lt in_ side (inl e) y z f = apart (sym e ∙ sym f ∙ ap (λ k. (nth_link (links_of q2) k).to) e ∙ one_to)
  joined_by i lt in_ side (inr x) (inl e) z f = apart (sym other_to ∙ sym (ap (λ k. (nth_link (links_of q2) k).to) e) ∙ f ∙ e)
  joined_by i lt in_ side (inr x) (inr y) (inl front) f = past.joined i lt front (nearer side) (sym (ap (λ (l : Link). l.to) (old i front x)) ∙ f)
    where
      nearer : (i < first + (port + 1)) ⊎ (first + arity < i) → (i < first + port) ⊎ (first + arity < i)
      nearer (inl near) = part (cases_lt i (first + port))
        where
          part : (i < first + port) ⊎ (first + port ≤ i) → (i < first + port) ⊎ (first + arity < i)
          part (inl a) = inl a
          part (inr a) = absurd (x (omega (arith, a, near)))
      nearer (inr far) = inr far
  joined_by i lt in_ side (inr x) (inr y) (inr behind) f =
      on.joined i (after (cases_eq i other)) in_ (sym (ap (λ (l : Link). l.to) (third i x y)) ∙ f)
    where
      after : (i ≡ other) ⊎ (i ≢ other) → other < i
      after (inl e) = absurd (y e)
      after (inr e) = less (cases_lt other i)
        where
          less : (other < i) ⊎ (i ≤ other) → other < i
          less (inl a) = a
          less (inr a) = absurd (e (omega (arith, a, behind, on.root_is)))

  pub past_it : 1 ≤ port → IsPast first arity (port + 1) q2
  past_it some = record {
    alone = λ j from to_.
        ap (λ (l : Link). l.to) (old (first + j) (omega (arith, room, to_)) (λ e. absurd (omega (arith, e, from)))) ∙ past.alone j (omega (arith, from)) to_;
    root = ap (λ (l : Link). l.to) (old first (omega (arith, room)) (λ e. absurd (omega (arith, e, some)))) ∙ past.root;
    joined = λ i lt in_ side. joined_by i lt in_ side (cases_eq i (first + port)) (cases_eq i other) (cases_lt i (length q.spots));
  }

  pub keeps_it : Keeps q1 q2
  keeps_it = keeps_joint q1 first port other (reader_of t v).place alone on.alone

  pub settles_it : IsSettled q2 (text.port_at (place_of u) port) (spot_of t v) (place_of v)
  settles_it =
      let e : port ≡ suc (length done) = omega (arith, at) in
      subst (λ p. IsSettled q2 (text.port_at (place_of u) port) (spot_of t v) p) (place_read t v q1)
      (subst (λ s. IsSettled q2 (text.port_at (place_of u) port) s (reader_of t v).place) on.stands
      (subst (λ s. IsSettled q2 s (named (nth_spot q1.spots other)) (reader_of t v).place) (here ∙ ap (λ i. text.port_at (place_of u) i) (sym e)) (settled_joint q1 first port other (reader_of t v).place one_in other_in (length-links_of q1) apart)))

  pub ports_still : (j : ℕ) → j ≤ arity → nth_spot q1.spots (first + j) ≡ Port agent j (place_of u)
  ports_still j to_ = still (first + j) (omega (arith, room, to_)) ∙ ports j to_

reads_all : (t : Tables) (b : Body) (free : ℕ) (u : Term) (done args : List Term) → AllByRecursion (ReadsOn t b free) args → (first arity port agent count : ℕ) (q : Reading) → all_true (map (arities_fit t) args) ≡ true → all_true (map (heads_known t.names) args) ≡ true →
    IsSome (number_in (name_of u) t.names) → ((v : Term) → IsPartOf v u → IsTermOf b v) → done ++ args ≡ (out-Term u).args → port ≡ length done + 1 → port + length args ≡ arity + 1 → first + arity < length q.spots →
    ((j : ℕ) → j ≤ arity → nth_spot q.spots (first + j) ≡ Port agent j (place_of u)) → IsPast first arity port q → IsRead t b free count q →
    AreReadOn t b free (count + total (map names_in args)) first port u args q (reads_arguments first (map (reader_of t) args) port q)
reads_all t b free u done [] each first arity port agent count q fits known symbol terms all at rest room ports past read = record {
  read = more_names t b free count (count + total (map names_in [])) q (omega arith) read;
  more = [];
  spots = sym (append-nil q.spots);
  links = λ i lt. refl;
  root = past.root;
  joined = λ i lt in_. past.joined i lt in_ (side i (cases_lt i (first + port)));
  more_names = [];
  names_on = sym (append-nil q.names);
  keeps = keeps_itself q;
  held = λ w among. absurd among;
  settled = λ j w e. absurd (none-some w e);
}
  where
    side : (i : ℕ) → (i < first + port) ⊎ (first + port ≤ i) → (i < first + port) ⊎ (first + arity < i)
    side i (inl a) = inl a
    side i (inr a) = inr (omega (arith, a, rest))
reads_all t b free u done (v ∷ args) each first arity port agent count q fits known symbol terms all at rest room ports past read =
    let both = and_parts (arities_fit t v) (all_true (map (arities_fit t) args)) fits in
    let known_both = and_parts (heads_known t.names v) (all_true (map (heads_known t.names) args)) known in
    let q1 : Reading = ((reader_of t v).reads q).0 in
    let other : ℕ = ((reader_of t v).reads q).1 in
    let among : IsAmong v (out-Term u).args = subst (IsAmong v) all (among_middle done args v) in
    let on = each.0 count q both.0 known_both.0 (λ w part. terms w (IsPartOf.deeper w v u among part)) read in
    let le : port ≤ arity = omega (arith, rest) in
    let there = terms u (IsPartOf.itself u) in
    let q2 : Reading = with_joint ((reader_of t v).reads q).0 first port ((reader_of t v).reads q).1 (reader_of t v).place in
    let joined = joint_read t b free (count + names_in v) first arity port agent u v done args q q1 other symbol there all at le room ports past on in
    let then_ = past_it t b free (count + names_in v) first arity port agent u v done args q q1 other symbol there all at le room ports past on (omega (arith, at)) in
    let still = ports_still t b free (count + names_in v) first arity port agent u v done args q q1 other symbol there all at le room ports past on in
    let grown = ap length on.spots ∙ length-append q.spots on.more in
    let keeps_one = keeps_it t b free (count + names_in v) first arity port agent u v done args q q1 other symbol there all at le room ports past on in
    let settled_one = settles_it t b free (count + names_in v) first arity port agent u v done args q q1 other symbol there all at le room ports past on in
    let all_on : (done ++ v ∷ []) ++ args ≡ (out-Term u).args = append_assoc done (v ∷ []) args ∙ all in
    let more = reads_all t b free u (done ++ v ∷ []) args each.1 first arity (port + 1) agent (count + names_in v) q2 both.1 known_both.1 symbol terms all_on (omega (arith, at, length-append done (v ∷ []))) (omega (arith, rest))
    (omega (arith, room, grown)) still then_ joined in
    record {
      read = more_names t b free (count + names_in v + total (map names_in args)) (count + total (map names_in (v ∷ args))) _ (omega arith) more.read;
      more = on.more ++ more.more;
      spots = more.spots ∙ ap (λ z. z ++ more.more) on.spots ∙ append_assoc q.spots on.more more.more;
      links = λ i lt.
          more.links i lt
          ∙ old t b free (count + names_in v) first arity port agent u v done args q q1 other symbol there all at le room ports past on i (omega (arith, lt, room)) (λ e. absurd (omega (arith, e, lt)));
      root = more.root;
      joined = more.joined;
      more_names = on.more_names ++ more.more_names;
      names_on = more.names_on ∙ ap (λ z. z ++ more.more_names) on.names_on ∙ append_assoc q.names on.more_names more.more_names;
      keeps = keeps_both q q1 _ on.keeps (keeps_both q1 q2 _ keeps_one more.keeps);
      held = λ w among_. held_by w among_ on.held (keeps_both q1 q2 _ keeps_one more.keeps) more.held;
      settled = λ j w e. settled_by j w e settled_one more.keeps more.settled;
    }
  where
    after : Reading
    after = reads_arguments first (map (reader_of t) args) (port + 1) (with_joint ((reader_of t v).reads q).0 first port ((reader_of t v).reads q).1 (reader_of t v).place)

    held_by : (w : Term) → IsAmong w (v ∷ args) → IsHeldIn t v ((reader_of t v).reads q).0 → Keeps ((reader_of t v).reads q).0 after → ((w : Term) → IsAmong w args → IsHeldIn t w after) → IsHeldIn t w after
    held_by w (inl e) here keeps others = subst (λ w. IsHeldIn t w after) e (held_stays t v ((reader_of t v).reads q).0 after keeps here)
    held_by w (inr h) here keeps others = others w h

    settled_by : (j : ℕ) (w : Term) → slice_get (v ∷ args) j ≡ Some w → IsSettled (with_joint ((reader_of t v).reads q).0 first port ((reader_of t v).reads q).1 (reader_of t v).place) (text.port_at (place_of u) port) (spot_of t v) (place_of v) →
        Keeps (with_joint ((reader_of t v).reads q).0 first port ((reader_of t v).reads q).1 (reader_of t v).place) after →
        ((j : ℕ) (w : Term) → slice_get args j ≡ Some w → IsSettled after (text.port_at (place_of u) (port + 1 + j)) (spot_of t w) (place_of w)) → IsSettled after (text.port_at (place_of u) (port + j)) (spot_of t w) (place_of w)
    settled_by zero w e here keeps others =
        let same : v ≡ w = cc in
        let zero_on : port ≡ port + 0 = omega arith in
        subst (λ n. IsSettled after (text.port_at (place_of u) n) (spot_of t w) (place_of w)) zero_on (subst (λ x. IsSettled after (text.port_at (place_of u) port) (spot_of t x) (place_of x)) same (keeps.settled _ _ _ here))
    settled_by (suc j) w e here keeps others = let n : port + 1 + j ≡ port + suc j = omega arith in subst (λ n. IsSettled after (text.port_at (place_of u) n) (spot_of t w) (place_of w)) n (others j w e)

some_is : (o : Option ℕ) (s : ℕ) → o ≡ Some s → IsSome o
some_is None s e = cc
some_is (Some x) s e = refl

reads_term : (t : Tables) (b : Body) (free : ℕ) → HaveFewPorts t → (u : Term) → AllByRecursion (ReadsOn t b free) (out-Term u).args → (count : ℕ) (r : Reading) → arities_fit t u ≡ true → heads_known t.names u ≡ true → ((v : Term) → IsPartOf v u → IsTermOf b v) → IsRead t b free count r →
    (o : Option ℕ) → number_in (out-Term u).name.text t.names ≡ o → IsReadOn t b free (count + names_in u) u r ((reader_of t u).reads r).0 ((reader_of t u).reads r).1
reads_term t b free small u each count r fits heads terms read None is =
    let out = names_out u in
    let spot : TextSpot = Occurrence (number_with r.names (out-Term u).name.text) (out-Term u).name.place in
    let grown = length-append r.spots (spot ∷ []) in
    let stands : spot_by (number_in (name_of u) t.names) (place_of u) ≡ text.occurrence (place_of u) = ap (λ o. spot_by o (place_of u)) is in
    let zero_on : length r.spots ≡ length r.spots + 0 = omega arith in
    let last : nth_spot (r.spots ++ spot ∷ []) (length r.spots) ≡ spot = ap (nth_spot (r.spots ++ spot ∷ [])) zero_on ∙ at_back r.spots (spot ∷ []) 0 no_spot in
    let alone = added r.spots (spot ∷ []) r.joints read.joints 0 (omega arith) in
    let grown_names = grows_by r.names (out-Term u).name.text (number_in (out-Term u).name.text r.names) refl in
    let P : Reading × ℕ → Type 0 = λ p. IsReadOn t b free (count + names_in u) u r p.0 p.1 in
    subst P (sym (read_occurrence t u r is (no_arguments t.names u heads is)))
    (record {
      read = more_names t b free (count + 1) (count + names_in u) _ (omega (arith, out)) (with_occurrence_read t b free count r u (terms u (IsPartOf.itself u)) is read);
      more = spot ∷ [];
      spots = refl;
      root_is = refl;
      there = omega (arith, grown);
      links = λ i lt. stays r.spots (spot ∷ []) r.joints read.joints i lt;
      alone = ap (λ k. (nth_link (links_of (with_occurrence r (out-Term u).name)) k).to) zero_on ∙ ap (λ (l : Link). l.to) alone ∙ sym zero_on;
      joined = λ i lt in_. absurd (omega (arith, lt, in_, grown));
      stands = ap named last ∙ sym stands;
      more_names = grown_names.0;
      names_on = grown_names.1;
      keeps = keeps_more r (with_occurrence r (out-Term u).name) (spot ∷ []) grown_names.0 refl grown_names.1 (λ i lt. stays r.spots (spot ∷ []) r.joints read.joints i lt);
      held = record {
        arguments = λ v w i part symbol e. absurd (none_of_it v part (λ x y. no_symbol x symbol y));
        variables = λ v part variable. held_here v part last grown;
      };
    })
  where
    -- a term without arguments has no part but itself
    none_of_it : (v : Term) → IsPartOf v u → (v ≡ u → IsVariable t u → ⊥) → ⊥
    none_of_it _ (IsPartOf.itself _) h = h refl is
    none_of_it v (IsPartOf.deeper _ w _ among part) h = subst (IsAmong w) (no_arguments t.names u heads is) among

    no_symbol : {v : Term} → v ≡ u → IsSome (number_in (name_of v) t.names) → IsVariable t u → ⊥
    no_symbol e symbol variable = let wrong : IsSome {T = ℕ} None = subst IsSome variable (subst (λ v. IsSome (number_in (name_of v) t.names)) e symbol) in cc

    held_here : (v : Term) → IsPartOf v u → nth_spot (r.spots ++ Occurrence (number_with r.names (out-Term u).name.text) (out-Term u).name.place ∷ []) (length r.spots) ≡ Occurrence (number_with r.names (out-Term u).name.text) (out-Term u).name.place →
        length (r.spots ++ Occurrence (number_with r.names (out-Term u).name.text) (out-Term u).name.place ∷ []) ≡ length r.spots + 1 → IsHeldAt (with_occurrence r (out-Term u).name) v
    held_here _ (IsPartOf.itself _) last grown =
        let at = name_there r.names (out-Term u).name.text (number_in (out-Term u).name.text r.names) refl in
        record { spot = length r.spots; number = number_with r.names (out-Term u).name.text; inside = omega (arith, grown); is = last; known = at.0; name = at.1 }
    held_here v (IsPartOf.deeper _ w _ among part) last grown = absurd (subst (IsAmong w) (no_arguments t.names u heads is) among)
reads_term t b free small u each count r fits heads terms read (Some s) is =
    let symbol : SymbolNo = record { 0 = s } in
    let args = (out-Term u).args in
    let place = (out-Term u).name.place in
    let out = names_out u in
    let known = position-Some (bytes_eq (out-Term u).name.text) t.names s [] is in
    let fit = fits_agent t u symbol is fits in
    let more : List TextSpot = ports_from (length r.agents) (out-Term u).name.place 0 (arity_of t s + 1) in
    let begun : Reading = with_agent r symbol (arity_of t s) (out-Term u).name.place in
    let grown = wider_agent t free r read.numbered symbol place in
    let ready = with_agent_read t b free count r symbol place read known.0 (small s) in
    let ports = new_spot t free r read.numbered symbol place in
    let size : length more ≡ arity_of t s + 1 = omega (arith, grown, length-append r.spots more) in
    let fresh : (j : ℕ) → j ≤ arity_of t s → (nth_link (links_of (with_agent r symbol (arity_of t s) (out-Term u).name.place)) (length r.spots + j)).to ≡ length r.spots + j =
    λ j le. ap (λ (l : Link). l.to) (added r.spots more r.joints read.joints j (omega (arith, size, le))) in
    let zero_on : length r.spots ≡ length r.spots + 0 = omega arith in
    let root : (nth_link (links_of (with_agent r symbol (arity_of t s) (out-Term u).name.place)) (length r.spots)).to ≡ length r.spots =
    ap (λ k. (nth_link (links_of (with_agent r symbol (arity_of t s) (out-Term u).name.place)) k).to) zero_on ∙ fresh 0 (omega arith) ∙ sym zero_on in
    let past : IsPast (length r.spots) (arity_of t s) 1 (with_agent r symbol (arity_of t s) (out-Term u).name.place) = record {
      alone = λ j from le. fresh j le;
      root = root;
      joined = λ i lt in_ side. absurd (beyond i lt (omega (arith, in_, grown)) side);
    } in
    let on = reads_all t b free u [] args each (length r.spots) (arity_of t s) 1 (length r.agents) (count + 1) begun fit.1 (arguments_known t.names u heads) (some_is (number_in (name_of u) t.names) s is) terms refl (omega arith) (omega (arith, fit.0))
    (omega (arith, grown)) ports past ready in
    let all_spots : (reads_arguments (length r.spots) (map (reader_of t) args) 1 begun).spots ≡ r.spots ++ (more ++ on.more) = on.spots ∙ append_assoc r.spots more on.more in
    let count_all = ap length on.spots ∙ length-append (r.spots ++ more) on.more in
    let stands : spot_by (number_in (name_of u) t.names) (place_of u) ≡ text.port_at (place_of u) 0 = ap (λ o. spot_by o (place_of u)) is in
    let root_spot : nth_spot (reads_arguments (length r.spots) (map (reader_of t) args) 1 begun).spots (length r.spots) ≡ Port (length r.agents) 0 (out-Term u).name.place =
    ap (λ z. nth_spot z (length r.spots)) on.spots ∙ at_front (r.spots ++ more) on.more (length r.spots) no_spot (omega (arith, grown)) ∙ ap (nth_spot (r.spots ++ more)) zero_on ∙ ports 0 (omega arith) in
    let P : Reading × ℕ → Type 0 = λ p. IsReadOn t b free (count + names_in u) u r p.0 p.1 in
    subst P (sym (read_agent t u r symbol is))
    (record {
      read = more_names t b free (count + 1 + total (map names_in args)) (count + names_in u) _ (omega (arith, out)) on.read;
      more = more ++ on.more;
      spots = all_spots;
      root_is = refl;
      there = omega (arith, count_all, grown);
      links = λ i lt. on.links i lt ∙ stays r.spots more r.joints read.joints i lt;
      alone = on.root;
      joined = on.joined;
      stands = ap named root_spot ∙ sym stands;
      more_names = on.more_names;
      names_on = on.names_on;
      keeps = keeps_both r begun _ (keeps_more r begun more [] refl (sym (append-nil r.names)) (λ i lt. stays r.spots more r.joints read.joints i lt)) on.keeps;
      held = record {
        arguments = λ v w i part symbol_ e. argument_by v w i part symbol_ e on.settled on.held;
        variables = λ v part variable. variable_by v part variable on.held;
      };
    })
  where
    after : Reading
    after = reads_arguments (length r.spots) (map (reader_of t) (out-Term u).args) 1 (with_agent r (record { 0 = s }) (arity_of t s) (out-Term u).name.place)

    argument_by : (v w : Term) (i : ℕ) → IsPartOf v u → IsSome (number_in (name_of v) t.names) → slice_get (out-Term v).args i ≡ Some w →
        ((j : ℕ) (w : Term) → slice_get (out-Term u).args j ≡ Some w → IsSettled after (text.port_at (place_of u) (1 + j)) (spot_of t w) (place_of w)) → ((w : Term) → IsAmong w (out-Term u).args → IsHeldIn t w after) →
        IsSettled after (text.port_at (place_of v) (suc i)) (spot_of t w) (place_of w)
    argument_by _ w i (IsPartOf.itself _) symbol e settled held = let n : 1 + i ≡ suc i = omega arith in subst (λ n. IsSettled after (text.port_at (place_of u) n) (spot_of t w) (place_of w)) n (settled i w e)
    argument_by v w i (IsPartOf.deeper _ x _ among part) symbol e settled held = (held x among).arguments v w i part symbol e

    variable_by : (v : Term) → IsPartOf v u → IsVariable t v → ((w : Term) → IsAmong w (out-Term u).args → IsHeldIn t w after) → IsHeldAt after v
    variable_by _ (IsPartOf.itself _) variable held = absurd (let wrong : None ≡ Some s = sym variable ∙ is in cc)
    variable_by v (IsPartOf.deeper _ x _ among part) variable held = (held x among).variables v part variable

    beyond : (i : ℕ) → length r.spots < i → i < length r.spots + (arity_of t s + 1) → (i < length r.spots + 1) ⊎ (length r.spots + arity_of t s < i) → ⊥
    beyond i lt in_ (inl a) = absurd (omega (arith, lt, a))
    beyond i lt in_ (inr a) = absurd (omega (arith, in_, a))

pub reads_on : (t : Tables) (b : Body) (free : ℕ) → HaveFewPorts t → (u : Term) → ReadsOn t b free u
reads_on t b free small =
    term_by_arguments (ReadsOn t b free)
    (λ u each count r fits heads terms read. reads_term t b free small u each count r fits heads terms read (number_in (out-Term u).name.text t.names) refl)
