-- A derivation for each of the constructions.
use Rattle.std.proofs.Common.{◌≡◌, ◌≢◌, ◌⊎◌, ◌↔◌, ◌<◌, ◌≤◌, ◌+◌, ℕ, zero, suc, Bool, true, false, cond, ◌&&◌, ◌||◌, nat_eq, Some, List, [], ◌∷◌, ◌++◌, length, slice_get, refl, sym, subst, ap, inl, inr, ◌∙◌, eq-eqb, eqb-true, ne_eqb, arith}
use mathlib.Core.Path.{fun_ext}
use Rattle.in_open_nets.specs.declared.open_nets.OpenPoint.{OpenPoint}
use Rattle.in_open_nets.specs.declared.open_nets.OpenPoint.TheVariants.{Port, Free}
use Rattle.in_open_nets.specs.Constructions.{IsIn, AreParts, numbered, IsGraft}
use Rattle.in_open_nets.specs.OpenNets.{OpenNet, IsAgent, IsClass, class_in, classes_of, IsWire, IsOpenNet, open_graph}
use Rattle.in_open_nets.specs.declared.derivations.Step.{Step}
use Rattle.in_open_nets.specs.declared.derivations.Step.TheVariants.{Empty, Link, Given, Graft, Cut, Mix}
use Rattle.in_open_nets.specs.Derivations.{Part, named, own_nodes, own_links, one_if, is_port_in, is_principal, is_auxiliary, is_among, nodes_of, links_of, ends_of, ShareNothing, IsGrafted, Joins, times}
use Rattle.in_open_nets.specs.Stuck.{ports_of}
use Rattle.in_simple_deriving.specs.Stacks.{shape, no_wires, leads_out, IsLinkOf, HasShape}
use Rattle.in_base.proofs.Places.{some_same}
use Rattle.in_open_nets.proofs.Public.{not_both, same_test, numbered_is, port_yes, port_no, port_none, port_same, port_or, port_own}
use Rattle.in_open_nets.proofs.Public.{other_port, auxiliary_port, principal_one, one_same, one_other, of_nodes, in_nodes_of, both_left}
use Rattle.in_open_nets.proofs.Public.{both_right, wire_within, wire_turn, wire_points, port_place, Decided, same_nat, both_decided}
use Rattle.in_open_nets.proofs.Public.{at_most, least, test, test_yes, test_is, partner, in_ports, Constructions, Forest, nothing, beside}
use Rattle.in_open_nets.proofs.Public.{close, or_sum}
use Rattle.std.proofs.lemmas.Bool.{and_from, cond_both, or_cases, or_left, or_right, cases_Bool, false_from_ne_true}
use Rattle.in_base.proofs.Each.{at_index}

pub port_most : (s : ℕ → Bool) (p : OpenPoint) → is_port_in s p ≤ 1
port_most s (Port n i) = cond_both (s n) 1 0 (λ z. z ≤ 1) (λ e. omega arith) (λ e. omega arith)
port_most s (Free k) = omega arith

port_parts : (s a b : ℕ → Bool) → AreParts s a b → (p : OpenPoint) → is_port_in s p ≡ is_port_in a p + is_port_in b p
port_parts s a b parts p = port_same s (λ n. a n || b n) p (λ n. same_test (s n) (a n || b n)
    (λ h. elim ((parts n).0.0 h) [ inl k ↦ or_left (a n) (b n) k | inr k ↦ or_right (a n) (b n) k ])
    (λ h. (parts n).0.1 (or_cases (a n) (b n) h))) ∙ port_or a b p (λ n h k. (parts n).1 h k)

not_two : (a b : ℕ → Bool) (p q : OpenPoint) → ((l i m j : ℕ) → p ≡ Port l i → q ≡ Port m j → IsIn l a → IsIn m b → ⊥) → is_port_in a p + is_port_in b q ≤ 1
not_two a b p q f = elim (at_most 1 (is_port_in a p)) [
  | inl h ↦ elim (at_most 1 (is_port_in b q)) [
    | inl k ↦
        let u = port_most a p in
        let v = port_most b q in
        let x = port_own a p (omega arith) in
        let y = port_own b q (omega arith) in
        absurd (f x.0 x.1 y.0 y.1 x.2 y.2 x.3 y.3)
    | inr k ↦ let u = port_most a p in omega arith
  ]
  | inr h ↦ let v = port_most b q in omega arith
]

one_node : (x : Part) (n : ℕ) → IsIn n (nodes_of (x ∷ [])) → IsIn n x.nodes
one_node x n h = elim (or_cases (x.nodes n) false h) [ inl k ↦ k | inr k ↦ absurd (not_both false k refl) ]

one_link : (x : Part) (w : ℕ) → IsIn w (links_of (x ∷ [])) → IsIn w x.links
one_link x w h = elim (or_cases (x.links w) false h) [ inl k ↦ k | inr k ↦ absurd (not_both false k refl) ]

of_links : (xs : List Part) (w : ℕ) → IsIn w (links_of xs) → (i : ℕ) × (x : Part) × (slice_get xs i ≡ Some x) × IsIn w x.links
of_links [] n h = cc
of_links (y ∷ ys) n h = elim (or_cases (y.links n) (links_of ys n) h) [ inl k ↦ (0, y, refl, k) | inr k ↦ let r = of_links ys n k in (suc r.0, r.1, r.2, r.3) ]

sum_zero : (xs : List Part) (q : OpenPoint) → ((i : ℕ) (x : Part) → slice_get xs i ≡ Some x → x.ends q ≡ 0) → ends_of xs q ≡ 0
sum_zero [] q f = refl
sum_zero (x ∷ xs) q f = let a = f 0 x refl in let b = sum_zero xs q (λ i y h. f (suc i) y h) in omega arith

sum_one : (xs : List Part) (q : OpenPoint) (k : ℕ) (y : Part) → slice_get xs k ≡ Some y → ((i : ℕ) (x : Part) → i ≢ k → slice_get xs i ≡ Some x → x.ends q ≡ 0) → ends_of xs q ≡ y.ends q
sum_one [] q k y h f = cc
sum_one (x ∷ xs) q zero y h f =
    let e : x.ends q ≡ y.ends q = ap (λ z. z.ends q) (some_same (Some x) x y refl h) in
    let b = sum_zero xs q (λ i z g. f (suc i) z (λ u. omega arith) g) in
    omega arith
sum_one (x ∷ xs) q (suc k) y h f =
    let a = f 0 x (λ u. omega arith) refl in
    let b = sum_one xs q k y h (λ i z d g. f (suc i) z (λ u. d (omega arith)) g) in
    omega arith

abbrev OwnOnce : ℕ → Step → Type 0
OwnOnce n step = times n (own_nodes step) ≡ cond (is_among n (own_nodes step)) 1 0

module _ (o : OpenNet) (net : IsOpenNet o) where
  partner_of : (p : OpenPoint) → Decided ((w : ℕ) × (q : OpenPoint) × IsWire o w p q)
  partner_of (Port n i) = partner o net n i
  partner_of (Free k) = elim (at_most o.free k) [
    | inl h ↦ inr (λ r. let u : k < o.free = net.points r.0 (Free k) r.1 r.2 in omega arith)
    | inr h ↦ inl (net.joined (Free k) h)
  ]

  abbrev pub if_in : (ℕ → Bool) → ℕ → ℕ
  if_in d w = cond (d w) 1 0

  -- the ends of the net of s with the wires of d
  pub ends_at : (ℕ → Bool) → (ℕ → Bool) → OpenPoint → ℕ
  ends_at s d q = elim (partner_of q) [ inl r ↦ leads_out s r.1 q + if_in d r.0 | inr r ↦ 0 ]

  pub ends_wire : (s d : ℕ → Bool) (w : ℕ) (p q : OpenPoint) → IsWire o w p q → ends_at s d q ≡ leads_out s p q + if_in d w
  unfolding ends_at
  ends_wire s d w p q h = go (partner_of q)
    where
      go : (r : Decided ((w : ℕ) × (p : OpenPoint) × IsWire o w q p)) → elim r [ inl r ↦ leads_out s r.1 q + if_in d r.0 | inr r ↦ 0 ] ≡ leads_out s p q + if_in d w
      go (inl r) =
          let e = net.once r.0 w q r.1 p r.2 (wire_turn o w p q h) in
          let u : leads_out s r.1 q ≡ leads_out s p q = ap (λ z. leads_out s z q) e.1 in
          let v : if_in d r.0 ≡ if_in d w = ap (λ z. if_in d z) e.0 in
          omega arith
      go (inr r) = absurd (r (w, p, wire_turn o w p q h))

  abbrev pub LinkOf : (ℕ → Bool) → (ℕ → Bool) → ℕ → Type 0
  LinkOf s d w = IsLinkOf o (shape s d) w

  pub record Made (s d : ℕ → Bool) (k : ℕ) : Type 0 where
    pub steps : List Step
    pub parts : List Part
    pub root : ℕ
    pub top : Part
    pub forest : Forest o k steps parts (root ∷ []) (top ∷ [])
    pub last : suc root ≡ k + length steps
    pub nodes : (n : ℕ) → top.nodes n ≡ s n
    pub ends : (w : ℕ) (p q : OpenPoint) → IsWire o w p q → top.ends q ≡ leads_out s p q + if_in d w
    pub links : (w : ℕ) → IsIn w top.links → LinkOf s d w

  abbrev pub part_of : (ℕ → Bool) → (ℕ → Bool) → Step → List Part → Part
  part_of s d step tops = record { nodes = s; links = λ w. is_among w (own_links step) || links_of tops w; ends = ends_at s d }

  length_end : (xs : List Step) (x : Step) → length (xs ++ x ∷ []) ≡ suc (length xs)
  length_end [] x = refl
  length_end (y ∷ xs) x = let r = length_end xs x in omega arith

  -- a step over these nets builds the net of s, with Links of the wires of d
  abbrev pub TopOf : (ℕ → Bool) → (ℕ → Bool) → Part → Type 0
  TopOf s d y = HasShape o (shape s d) y

  pub record Fit (s d : ℕ → Bool) (step : Step) (tops : List Part) : Type 0 where
    pub apart : ShareNothing tops
    pub once : (n : ℕ) → OwnOnce n step
    pub fresh : (n : ℕ) → is_among n (own_nodes step) ≡ true → IsIn n (nodes_of tops) → ⊥
    pub nodes : (n : ℕ) → s n ≡ (is_among n (own_nodes step) || nodes_of tops n)
    pub links : (w : ℕ) → IsIn w (part_of s d step tops).links → LinkOf s d w
    pub joins : Joins o step tops (part_of s d step tops)

  top_of : (s d : ℕ → Bool) (k : ℕ) (x : Made s d k) → TopOf s d x.top
  top_of s d k x = record { nodes = x.nodes; ends = x.ends; links = x.links }

  finish : (s d : ℕ → Bool) (k : ℕ) (steps : List Step) (parts : List Part) (roots : List ℕ) (tops : List Part) (step : Step) → Forest o k steps parts roots tops → named step ≡ roots → Fit s d step tops → Made s d k
  finish s d k steps parts roots tops step f names fit = record {
    steps = steps ++ step ∷ [];
    parts = parts ++ part_of s d step tops ∷ [];
    root = k + length steps;
    top = part_of s d step tops;
    forest = close o k steps parts roots tops step (part_of s d step tops) f names fit.once fit.fresh fit.nodes (λ w. refl) fit.joins;
    last = let e = length_end steps step in omega arith;
    nodes = λ n. refl;
    ends = λ w p q h. ends_wire s d w p q h;
    links = fit.links;
  }

  pub fit_empty : (s : ℕ → Bool) → ((n : ℕ) → s n ≡ false) → Fit s no_wires Empty []
  fit_empty s off = record {
    apart = tt;
    once = λ n. refl;
    fresh = λ n h. absurd (not_both false h refl);
    nodes = off;
    links = λ w h. absurd (not_both false h refl);
    joins = λ w p q h. let e = ends_wire s no_wires w p q h in let z = port_none s p off in omega arith;
  }

  make_empty : (s : ℕ → Bool) → ((n : ℕ) → s n ≡ false) → (k : ℕ) → Made s no_wires k
  make_empty s off k = finish s no_wires k [] [] [] [] Empty (nothing o k) refl (fit_empty s off)

  pub fit_link : (v : ℕ) (p q : OpenPoint) → IsWire o v p q → Fit (λ n. false) (λ w. nat_eq w v) (Link v) []
  fit_link v p q h = record {
    apart = tt;
    once = λ n. refl;
    fresh = λ n h. absurd (not_both false h refl);
    nodes = λ n. refl;
    links = λ w h. inl (elim (or_cases (nat_eq w v || false) false h) [ inl a ↦ elim (or_cases (nat_eq w v) false a) [ inl b ↦ b | inr b ↦ absurd (not_both false b refl) ] | inr a ↦ absurd (not_both false a refl) ]);
    joins = ((p, q, h), λ w p q h. let e = ends_wire (λ n. false) (λ w. nat_eq w v) w p q h in let z = port_none (λ n. false) p (λ n. refl) in omega arith);
  }

  pub make_link : (v : ℕ) (p q : OpenPoint) → IsWire o v p q → (k : ℕ) → Made (λ n. false) (λ w. nat_eq w v) k
  make_link v p q h k = finish (λ n. false) (λ w. nat_eq w v) k [] [] [] [] (Link v) (nothing o k) refl (fit_link v p q h)

  once_given : (n m : ℕ) → OwnOnce m (Given n)
  once_given n m = go (nat_eq m n)
    where
      go : (b : Bool) → cond b 1 0 + 0 ≡ cond (b || false) 1 0
      go true = refl
      go false = refl

  pub fit_given : (n : ℕ) (s : ℕ → Bool) → IsClass o n → ((m : ℕ) → IsIn m s ↔ (m ≡ n)) → ((i j w : ℕ) → IsWire o w (Port n i) (Port n j) → ⊥) → Fit s no_wires (Given n) []
  fit_given n s c all self = record {
    apart = tt;
    once = λ m. once_given n m;
    fresh = λ m h g. not_both false g refl;
    nodes = λ m. same_test (s m) ((nat_eq m n || false) || false)
        (λ h. or_left (nat_eq m n || false) false (or_left (nat_eq m n) false (eq-eqb m n ((all m).0 h))))
        (λ h. (all m).1 (elim (or_cases (nat_eq m n || false) false h) [ inl a ↦ elim (or_cases (nat_eq m n) false a) [ inl b ↦ eqb-true m n b | inr b ↦ absurd (not_both false b refl) ] | inr a ↦ absurd (not_both false a refl) ]));
    links = λ w h. absurd (not_both false h refl);
    joins = (
      c,
      λ w p q h.
          let e = ends_wire s no_wires w p q h in
          let f = port_same s (λ m. nat_eq m n) p (λ m. same_test (s m) (nat_eq m n) (λ h. eq-eqb m n ((all m).0 h)) (λ h. (all m).1 (eqb-true m n h))) in
          let g = not_two s s p q (λ l i m j a b x y.
          let la = (all l).0 x in
          let mb = (all m).0 y in
          self i j w (subst (λ z. IsWire o w (Port n i) (Port z j)) mb (subst (λ z. IsWire o w (Port z i) (Port m j)) la (subst (λ z. IsWire o w (Port l i) z) b (subst (λ z. IsWire o w z q) a h))))) in
          let u = port_most s p in
          omega arith,
    );
  }

  make_given : (n : ℕ) (s : ℕ → Bool) → IsClass o n → ((m : ℕ) → IsIn m s ↔ (m ≡ n)) → ((i j w : ℕ) → IsWire o w (Port n i) (Port n j) → ⊥) → (k : ℕ) → Made s no_wires k
  make_given n s c all self k = finish s no_wires k [] [] [] [] (Given n) (nothing o k) refl (fit_given n s c all self)

  two_nodes : (s a b : ℕ → Bool) → AreParts s a b → (x y : Part) → ((n : ℕ) → x.nodes n ≡ a n) → ((n : ℕ) → y.nodes n ≡ b n) → (n : ℕ) → s n ≡ (x.nodes n || (y.nodes n || false))
  two_nodes s a b parts x y f g n = same_test (s n) (x.nodes n || (y.nodes n || false))
      (λ h. elim ((parts n).0.0 h) [ inl u ↦ or_left (x.nodes n) (y.nodes n || false) (f n ∙ u) | inr u ↦ or_right (x.nodes n) (y.nodes n || false) (or_left (y.nodes n) false (g n ∙ u)) ])
      (λ h. (parts n).0.1 (elim (or_cases (x.nodes n) (y.nodes n || false) h) [ inl u ↦ inl (sym (f n) ∙ u) | inr u ↦ inr (sym (g n) ∙ one_node y n u) ]))

  two_apart : (a b d e : ℕ → Bool) → ((n : ℕ) → IsIn n a → IsIn n b → ⊥) → ((w : ℕ) → LinkOf a d w → LinkOf b e w → ⊥) → (x y : Part) → TopOf a d x → TopOf b e y → ShareNothing (x ∷ y ∷ [])
  two_apart a b d e apart cross x y tx ty = (
    (λ n h g. apart n (sym (tx.nodes n) ∙ h) (sym (ty.nodes n) ∙ one_node y n g)),
    (λ w h g. cross w (tx.links w h) (ty.links w (one_link y w g))),
    ((λ n h g. not_both false g refl), (λ w h g. not_both false g refl), tt),
  )

  -- two runs, one after the other, and a step over both
  over_both : (s a b d e f : ℕ → Bool) (k : ℕ) (x : Made a d k) (y : Made b e (k + length x.steps)) (step : Step) → named step ≡ x.root ∷ y.root ∷ [] → Fit s f step (x.top ∷ y.top ∷ []) → Made s f k
  over_both s a b d e f k x y step names fit = finish s f k (x.steps ++ y.steps) (x.parts ++ y.parts) (x.root ∷ y.root ∷ []) (x.top ∷ y.top ∷ []) step
      (beside o k x.steps x.parts (x.root ∷ []) (x.top ∷ []) y.steps y.parts (y.root ∷ []) (y.top ∷ []) x.forest y.forest
      (λ n h g. fit.apart.0 n (one_node x.top n h) g)
      (λ w h g. fit.apart.1 w (one_link x.top w h) g))
      names fit

  -- two nets side by side
  pub fit_mix : (s a b d e : ℕ → Bool) → AreParts s a b → ((l i m j w : ℕ) → IsWire o w (Port l i) (Port m j) → IsIn l a → IsIn m b → ⊥) → ((w : ℕ) → LinkOf a d w → LinkOf b e w → ⊥) → (x y : Part) → TopOf a d x → TopOf b e y → (i j : ℕ) → Fit s (λ w. d w || e w) (Mix i j) (x ∷ y ∷ [])
  fit_mix s a b d e parts off cross x y tx ty i j = record {
    apart = two_apart a b d e (λ n h g. (parts n).1 h g) cross x y tx ty;
    once = λ n. refl;
    fresh = λ n h g. not_both false h refl;
    nodes = λ n. two_nodes s a b parts x y tx.nodes ty.nodes n;
    links = λ w h. elim (or_cases (x.links w) (y.links w || false) h) [
      | inl u ↦ elim (tx.links w u) [ inl v ↦ inl (or_left (d w) (e w) v) | inr v ↦ inr (v.0, v.1, v.2, v.3, (parts v.0).0.1 (inl v.4), v.5, v.6) ]
      | inr u ↦ elim (ty.links w (one_link y w u)) [ inl v ↦ inl (or_right (d w) (e w) v) | inr v ↦ inr (v.0, v.1, v.2, v.3, (parts v.0).0.1 (inr v.4), v.5, v.6) ]
    ];
    joins = λ w p q h.
        let r = ends_wire s (λ w. d w || e w) w p q h in
        let u = tx.ends w p q h in
        let v = ty.ends w p q h in
        let f = or_sum (d w) (e w) (λ z z'. cross w (inl z) (inl z')) in
        let pp = port_parts s a b parts p in
        let qq = port_parts s a b parts q in
        let m1 = not_two a b p q (λ l i m j g g' z z'. off l i m j w (subst (λ z. IsWire o w (Port l i) z) g' (subst (λ z. IsWire o w z q) g h)) z z') in
        let m2 = not_two a b q p (λ l i m j g g' z z'. off l i m j w (subst (λ z. IsWire o w (Port l i) z) g' (subst (λ z. IsWire o w z p) g (wire_turn o w p q h))) z z') in
        let n1 = not_two a b p p (λ l i m j g g' z z'. (parts m).1 (subst (λ z. IsIn z a) (port_place l m i j (sym g ∙ g')).0 z) z') in
        let n2 = not_two a b q q (λ l i m j g g' z z'. (parts m).1 (subst (λ z. IsIn z a) (port_place l m i j (sym g ∙ g')).0 z) z') in
        omega arith;
  }

  pub make_mix : (s a b d e : ℕ → Bool) → AreParts s a b → ((l i m j w : ℕ) → IsWire o w (Port l i) (Port m j) → IsIn l a → IsIn m b → ⊥) → ((w : ℕ) → LinkOf a d w → LinkOf b e w → ⊥) → (k : ℕ) → Made a d k → ((k : ℕ) → Made b e k) → Made s (λ w. d w || e w) k
  make_mix s a b d e parts off cross k x next = go (next (k + length x.steps))
    where
      go : Made b e (k + length x.steps) → Made s (λ w. d w || e w) k
      go y = over_both s a b d e (λ w. d w || e w) k x y (Mix x.root y.root) refl
          (fit_mix s a b d e parts off cross x.top y.top (top_of a d k x) (top_of b e (k + length x.steps) y) x.root y.root)

  -- two nets joined along the one wire between them, which is at a class node or an agent's principal port
  abbrev pub OnlyWire : (ℕ → Bool) → (ℕ → Bool) → ℕ → ℕ → ℕ → ℕ → Type 0
  OnlyWire a b l i m j = (l' i' m' j' w : ℕ) → IsWire o w (Port l' i') (Port m' j') → IsIn l' a → IsIn m' b → ((l' ≡ l) × (i' ≡ i)) × ((m' ≡ m) × (j' ≡ j))

  pub fit_cut : (s a b : ℕ → Bool) (l i m j v : ℕ) → AreParts s a b → IsWire o v (Port l i) (Port m j) → (IsAgent o l → i ≡ 0) → IsIn l a → IsIn m b → OnlyWire a b l i m j → (x y : Part) → TopOf a no_wires x → TopOf b no_wires y → (g h : ℕ) → Fit s no_wires (Cut v g h) (x ∷ y ∷ [])
  fit_cut s a b l i m j v parts wire firm la mb only x y tx ty g h = record {
    apart = two_apart a b no_wires no_wires (λ n h g. (parts n).1 h g) cross x y tx ty;
    once = λ n. refl;
    fresh = λ n h g. not_both false h refl;
    nodes = λ n. two_nodes s a b parts x y tx.nodes ty.nodes n;
    links = λ w h. elim (or_cases (x.links w) (y.links w || false) h) [
      | inl u ↦ elim (tx.links w u) [ inl v ↦ inl v | inr v ↦ inr (v.0, v.1, v.2, v.3, (parts v.0).0.1 (inl v.4), v.5, v.6) ]
      | inr u ↦ elim (ty.links w (one_link y w u)) [ inl v ↦ inl v | inr v ↦ inr (v.0, v.1, v.2, v.3, (parts v.0).0.1 (inr v.4), v.5, v.6) ]
    ];
    joins = (
      record {
        p = Port l i;
        q = Port m j;
        wire = wire;
        own = port_yes x.nodes l i (tx.nodes l ∙ la);
        first = (let u = tx.ends v (Port l i) (Port m j) wire in let f = port_yes a l i la in let g = port_no a m j (false_from_ne_true (a m) (λ z. (parts m).1 z mb)) in omega arith);
        second = (let u = ty.ends v (Port m j) (Port l i) (wire_turn o v (Port l i) (Port m j) wire) in let f = port_yes b m j mb in let g = port_no b l i (false_from_ne_true (b l) (λ z. (parts l).1 la z)) in omega arith);
      },
      λ w p q h.
          let r = ends_wire s no_wires w p q h in
          let u = tx.ends w p q h in
          let z = ty.ends w p q h in
          let pp = port_parts s a b parts p in
          let qq = port_parts s a b parts q in
          let n1 = not_two a b p p (λ l i m j g g' z z'. (parts m).1 (subst (λ z. IsIn z a) (port_place l m i j (sym g ∙ g')).0 z) z') in
          let n2 = not_two a b q q (λ l i m j g g' z z'. (parts m).1 (subst (λ z. IsIn z a) (port_place l m i j (sym g ∙ g')).0 z) z') in
          let al = port_yes a l i la in
          let bm = port_yes b m j mb in
          elim (same_nat w v) [
            | inl e ↦
                let one = one_same w v e in
                elim (wire_points o v (Port l i) (Port m j) p q wire (subst (λ z. IsWire o z p q) e h)) [
                  | inl f ↦
                      let fp : is_port_in a p ≡ 1 = subst (λ z. is_port_in a z ≡ 1) (sym f.0) al in
                      let fq : is_port_in b q ≡ 1 = subst (λ z. is_port_in b z ≡ 1) (sym f.1) bm in
                      omega arith
                  | inr f ↦
                      let fp : is_port_in b p ≡ 1 = subst (λ z. is_port_in b z ≡ 1) (sym f.0) bm in
                      let fq : is_port_in a q ≡ 1 = subst (λ z. is_port_in a z ≡ 1) (sym f.1) al in
                      omega arith
                ]
            | inr e ↦
                let one = one_other w v e in
                let m1 = not_two a b p q (λ l' i' m' j' g g' z z'. e (here l' i' m' j' w (subst (λ z. IsWire o w (Port l' i') z) g' (subst (λ z. IsWire o w z q) g h)) z z')) in
                let m2 = not_two a b q p (λ l' i' m' j' g g' z z'. e (here l' i' m' j' w (subst (λ z. IsWire o w (Port l' i') z) g' (subst (λ z. IsWire o w z p) g (wire_turn o w p q h))) z z')) in
                omega arith
          ],
    );
  }
    where
      here : (l' i' m' j' w : ℕ) → IsWire o w (Port l' i') (Port m' j') → IsIn l' a → IsIn m' b → w ≡ v
      here l' i' m' j' w h z z' =
          let e = only l' i' m' j' w h z z' in
          let h' : IsWire o w (Port l i) (Port m' j') = subst (λ z. IsWire o w (Port z i) (Port m' j')) e.0.0 (subst (λ z. IsWire o w (Port l' z) (Port m' j')) e.0.1 h) in
          (net.once w v (Port l i) (Port m' j') (Port m j) h' wire).0

      cross : (w : ℕ) → LinkOf a no_wires w → LinkOf b no_wires w → ⊥
      cross w (inl u) z = not_both false u refl
      cross w (inr u) (inl z) = not_both false z refl
      cross w (inr u) (inr z) = elim (wire_points o w (Port u.0 u.1) u.2 (Port z.0 z.1) z.2 u.3 z.3) [
        | inl e ↦ (parts z.0).1 (subst (λ t. IsIn t a) (sym (port_place z.0 u.0 z.1 u.1 e.0).0) u.4) z.4
        | inr e ↦
            let h : IsWire o w (Port u.0 u.1) (Port z.0 z.1) = subst (λ t. IsWire o w (Port u.0 u.1) t) (sym e.0) u.3 in
            let f = only u.0 u.1 z.0 z.1 w h u.4 z.4 in
            u.6 (f.0.1 ∙ firm (subst (λ t. IsAgent o t) f.0.0 u.5))
      ]

  make_cut : (s a b : ℕ → Bool) (l i m j v : ℕ) → AreParts s a b → IsWire o v (Port l i) (Port m j) → (IsAgent o l → i ≡ 0) → IsIn l a → IsIn m b → OnlyWire a b l i m j → (k : ℕ) → Made a no_wires k → ((k : ℕ) → Made b no_wires k) → Made s no_wires k
  make_cut s a b l i m j v parts wire firm la mb only k x next = go (next (k + length x.steps))
    where
      go : Made b no_wires (k + length x.steps) → Made s no_wires k
      go y = over_both s a b no_wires no_wires no_wires k x y (Cut v x.root y.root) refl
          (fit_cut s a b l i m j v parts wire firm la mb only x.top y.top (top_of a no_wires k x) (top_of b no_wires (k + length x.steps) y) x.root y.root)

  pub same_links : (s d e : ℕ → Bool) (k : ℕ) → ((w : ℕ) → d w ≡ e w) → Made s d k → Made s e k
  same_links s d e k f x = subst (λ z. Made s z k) (fun_ext f) x

  module _ (n : ℕ) (s : ℕ → Bool) (part : ℕ → ℕ) (agent : IsAgent o n) (zero_root : part n ≡ 0) (most : (m : ℕ) → IsIn m s → part m ≤ classes_of o n) (r : IsGraft (open_graph o) n (classes_of o n) s part) where
    abbrev pub of_class : ℕ → ℕ → Bool
    of_class c m = s m && nat_eq (part m) c

    class_in_s : (c m : ℕ) → IsIn m (of_class c) → IsIn m s
    class_in_s c m h = both_left (s m) (nat_eq (part m) c) h

    in_class : (c m : ℕ) → IsIn m s → part m ≡ c → IsIn m (of_class c)
    in_class c m h e = and_from (s m) (nat_eq (part m) c) h (eq-eqb (part m) c e)

    not_root : (c m : ℕ) → 0 < c → IsIn m (of_class c) → m ≢ n
    not_root c m l h e = let u = numbered_is s part c m h in let v : part m ≡ part n = ap part e in omega arith

    -- wire w is at a port of class c of n, and leads to no node of the class's net
    abbrev pub Dangles : ℕ → ℕ → Type 0
    Dangles c w = (i : ℕ) × (class_in o n i ≡ c) × ((q : OpenPoint) × IsWire o w (Port n i) q × (is_port_in (of_class c) q ≡ 0))

    pub dangles : (c w : ℕ) → Decided (Dangles c w)
    dangles c w = go (least At at (λ i. 0) (ports_of o n))
      where
        At : ℕ → Type 0
        At i = (class_in o n i ≡ c) × ((q : OpenPoint) × IsWire o w (Port n i) q × (is_port_in (of_class c) q ≡ 0))

        wired : (i : ℕ) → Decided ((v : ℕ) × (q : OpenPoint) × IsWire o v (Port n i) q) → Decided ((q : OpenPoint) × IsWire o w (Port n i) q × (is_port_in (of_class c) q ≡ 0))
        wired i (inr u) = inr (λ t. u (w, t.0, t.1))
        wired i (inl u) = elim (both_decided (same_nat u.0 w) (same_nat (is_port_in (of_class c) u.1) 0)) [
          | inl e ↦ inl (u.1, subst (λ z. IsWire o z (Port n i) u.1) e.0 u.2, e.1)
          | inr e ↦ inr (λ t. let f = net.once u.0 w (Port n i) u.1 t.0 u.2 t.1 in e (f.0, ap (is_port_in (of_class c)) f.1 ∙ t.2))
        ]

        at : (i : ℕ) → Decided (At i)
        at i = both_decided (same_nat (class_in o n i) c) (wired i (partner o net n i))

        go : ((i : ℕ) → i < ports_of o n → At i → ⊥) ⊎ ((i : ℕ) × (i < ports_of o n) × At i × ((j : ℕ) → j < ports_of o n → At j → 0 ≤ 0)) → Decided (Dangles c w)
        go (inl off) = inr (λ t. off t.0 (in_ports o net w n t.0 t.2.0 t.2.1) (t.1, t.2))
        go (inr t) = inl (t.0, t.2.0, t.2.1)

    -- those of the wires below b
    abbrev pub hanging : ℕ → ℕ → ℕ → Bool
    hanging c zero w = false
    hanging c (suc b) w = (nat_eq w b && test (dangles c b)) || hanging c b w

    pub hanging_is : (c b w : ℕ) → IsIn w (hanging c b) → (w < b) × Dangles c w
    hanging_is c zero w h = absurd (not_both false h refl)
    hanging_is c (suc b) w h = elim (or_cases (nat_eq w b && test (dangles c b)) (hanging c b w) h) [
      | inl e ↦
          let f = eqb-true w b (both_left (nat_eq w b) (test (dangles c b)) e) in
          (omega arith, subst (Dangles c) (sym f) (test_is (dangles c b) (both_right (nat_eq w b) (test (dangles c b)) e)))
      | inr e ↦ let f = hanging_is c b w e in let l = f.0 in (omega arith, f.1)
    ]

    pub hanging_yes : (c b w : ℕ) → w < b → Dangles c w → IsIn w (hanging c b)
    hanging_yes c zero w l h = absurd (omega arith)
    hanging_yes c (suc b) w l h = elim (same_nat w b) [
      | inl e ↦ or_left (nat_eq w b && test (dangles c b)) (hanging c b w) (and_from (nat_eq w b) (test (dangles c b)) (eq-eqb w b e) (test_yes (dangles c b) (subst (Dangles c) e h)))
      | inr e ↦ or_right (nat_eq w b && test (dangles c b)) (hanging c b w) (hanging_yes c b w (omega arith) h)
    ]

    abbrev Nets : Type 0
    Nets = (c : ℕ) → 0 < c → (k : ℕ) → Made (numbered s part c) no_wires k

    class_net : Nets → (c : ℕ) → 0 < c → (b k : ℕ) → Made (of_class c) (hanging c b) k
    class_net nets c l zero k = nets c l k
    class_net nets c l (suc b) k = go (dangles c b) (class_net nets c l b k)
      where
        go : (d : Decided (Dangles c b)) → Made (of_class c) (hanging c b) k → Made (of_class c) (λ w. (nat_eq w b && test d) || hanging c b w) k
        go (inr u) x = same_links (of_class c) (hanging c b) (λ w. (nat_eq w b && false) || hanging c b w) k (λ w. drop (nat_eq w b) (hanging c b w)) x
          where
            drop : (a e : Bool) → e ≡ ((a && false) || e)
            drop true e = refl
            drop false e = refl
        go (inl u) x = same_links (of_class c) (λ w. hanging c b w || nat_eq w b) (λ w. (nat_eq w b && true) || hanging c b w) k (λ w. turn (nat_eq w b) (hanging c b w))
            (make_mix (of_class c) (of_class c) (λ m. false) (hanging c b) (λ w. nat_eq w b)
            (λ m. (((λ h. inl h), λ h. elim h [ inl e ↦ e | inr e ↦ absurd (not_both false e refl) ]), λ h g. not_both false g refl))
            (λ l i m j w h y z. not_both false z refl)
            cross k x (make_link b (Port n u.0) u.2.0 u.2.1))
          where
            turn : (a e : Bool) → (e || a) ≡ ((a && true) || e)
            turn true true = refl
            turn true false = refl
            turn false true = refl
            turn false false = refl

            cross : (w : ℕ) → LinkOf (of_class c) (hanging c b) w → LinkOf (λ m. false) (λ w. nat_eq w b) w → ⊥
            cross w y (inr z) = not_both false z.4 refl
            cross w (inl y) (inl z) = let e = (hanging_is c b w y).0 in let f = eqb-true w b z in omega arith
            cross w (inr y) (inl z) =
                let f = eqb-true w b z in
                elim (wire_points o b (Port n u.0) u.2.0 (Port y.0 y.1) y.2 u.2.1 (subst (λ t. IsWire o t (Port y.0 y.1) y.2) f y.3)) [
                  | inl e ↦ not_root c y.0 l y.4 (port_place y.0 n y.1 u.0 e.0).0
                  | inr e ↦
                      let one : is_port_in (of_class c) u.2.0 ≡ 1 = subst (λ t. is_port_in (of_class c) t ≡ 1) e.0 (port_yes (of_class c) y.0 y.1 y.4) in
                      let none = u.2.2 in
                      omega arith
                ]

    all : ℕ
    all = length o.wires

    -- the step of class c builds this net
    abbrev pub ClassTop : ℕ → Part → Type 0
    ClassTop c y = TopOf (of_class c) (hanging c (length o.wires)) y

    record Tops (c many k : ℕ) : Type 0 where
      steps : List Step
      parts : List Part
      roots : List ℕ
      tops : List Part
      forest : Forest o k steps parts roots tops
      few : length tops ≡ many
      at : (i : ℕ) (y : Part) → slice_get tops i ≡ Some y → ClassTop (c + i) y

    -- no Link of two classes
    apart : (c d w : ℕ) → 0 < c → 0 < d → c ≢ d → LinkOf (of_class c) (hanging c (length o.wires)) w → LinkOf (of_class d) (hanging d (length o.wires)) w → ⊥
    apart c d w lc ld differ (inl u) (inl v) =
        let x = (hanging_is c (length o.wires) w u).1 in
        let y = (hanging_is d (length o.wires) w v).1 in
        elim (wire_points o w (Port n x.0) x.2.0 (Port n y.0) y.2.0 x.2.1 y.2.1) [
          | inl e ↦ differ (sym x.1 ∙ ap (class_in o n) (sym (port_place n n y.0 x.0 e.0).1) ∙ y.1)
          | inr e ↦ differ (sym x.1 ∙ r.own x.0 y.0 (w, subst (λ t. IsWire o w (Port n x.0) t) (sym e.0) x.2.1) ∙ y.1)
        ]
    apart c d w lc ld differ (inl u) (inr v) = mixed c d w lc ld differ (hanging_is c (length o.wires) w u).1 v
      where
        mixed : (c d w : ℕ) → 0 < c → 0 < d → c ≢ d → Dangles c w → ((l : ℕ) × (i : ℕ) × (q : OpenPoint) × IsWire o w (Port l i) q × IsIn l (of_class d) × IsAgent o l × (i ≢ 0)) → ⊥
        mixed c d w lc ld differ x v = elim (wire_points o w (Port n x.0) x.2.0 (Port v.0 v.1) v.2 x.2.1 v.3) [
          | inl e ↦ not_root d v.0 ld v.4 (port_place v.0 n v.1 x.0 e.0).0
          | inr e ↦ differ (sym x.1 ∙ sym (r.to x.0 v.1 v.0 (class_in_s d v.0 v.4) (not_root d v.0 ld v.4) (w, subst (λ t. IsWire o w (Port n x.0) t) (sym e.0) x.2.1)) ∙ numbered_is s part d v.0 v.4)
        ]
    apart c d w lc ld differ (inr u) (inl v) =
        let x = (hanging_is d (length o.wires) w v).1 in
        elim (wire_points o w (Port n x.0) x.2.0 (Port u.0 u.1) u.2 x.2.1 u.3) [
          | inl e ↦ not_root c u.0 lc u.4 (port_place u.0 n u.1 x.0 e.0).0
          | inr e ↦ differ (sym (sym x.1 ∙ sym (r.to x.0 u.1 u.0 (class_in_s c u.0 u.4) (not_root c u.0 lc u.4) (w, subst (λ t. IsWire o w (Port n x.0) t) (sym e.0) x.2.1)) ∙ numbered_is s part c u.0 u.4))
        ]
    apart c d w lc ld differ (inr u) (inr v) = elim (wire_points o w (Port u.0 u.1) u.2 (Port v.0 v.1) v.2 u.3 v.3) [
      | inl e ↦ differ (sym (numbered_is s part c u.0 u.4) ∙ ap part (sym (port_place v.0 u.0 v.1 u.1 e.0).0) ∙ numbered_is s part d v.0 v.4)
      | inr e ↦ differ (sym (numbered_is s part c u.0 u.4) ∙ r.among u.0 v.0 u.1 v.1 (class_in_s c u.0 u.4) (class_in_s d v.0 v.4) (not_root c u.0 lc u.4) (not_root d v.0 ld v.4) (w, subst (λ t. IsWire o w (Port u.0 u.1) t) (sym e.0) u.3) ∙ numbered_is s part d v.0 v.4)
    ]

    share_classes : (c : ℕ) → 0 < c → (ys : List Part) → ((i : ℕ) (y : Part) → slice_get ys i ≡ Some y → ClassTop (c + i) y) → ShareNothing ys
    share_classes c l [] at = tt
    share_classes c l (y ∷ ys) at = (
      (λ m h g.
          let t = of_nodes ys m g in
          let u = numbered_is s part c m (sym (here.nodes m) ∙ h) in
          let v = numbered_is s part (suc c + t.0) m (sym ((next t.0 t.1 t.2).nodes m) ∙ t.3) in
          omega arith),
      (λ w h g.
          let t = of_links ys w g in
          apart c (suc c + t.0) w l (omega arith) (λ e. omega arith) (here.links w h) ((next t.0 t.1 t.2).links w t.3)),
      share_classes (suc c) (omega arith) ys next,
    )
      where
        here : ClassTop c y
        here = let e : c + 0 ≡ c = omega arith in subst (λ u. ClassTop u y) e (at 0 y refl)

        next : (i : ℕ) (z : Part) → slice_get ys i ≡ Some z → ClassTop (suc c + i) z
        next i z h = let e : c + suc i ≡ suc c + i = omega arith in subst (λ u. ClassTop u z) e (at (suc i) z h)

    class_nets : Nets → (many c k : ℕ) → 0 < c → Tops c many k
    class_nets nets zero c k l = record { steps = []; parts = []; roots = []; tops = []; forest = nothing o k; few = refl; at = λ i y h. cc }
    class_nets nets (suc many) c k l = go (class_net nets c l (length o.wires) k) (λ j. class_nets nets many (suc c) j (omega arith))
      where
        go : Made (of_class c) (hanging c (length o.wires)) k → ((j : ℕ) → Tops (suc c) many j) → Tops c (suc many) k
        go x next = with_rest (next (k + length x.steps))
          where
            with_rest : Tops (suc c) many (k + length x.steps) → Tops c (suc many) k
            with_rest y = record {
              steps = x.steps ++ y.steps;
              parts = x.parts ++ y.parts;
              roots = x.root ∷ y.roots;
              tops = x.top ∷ y.tops;
              forest = beside o k x.steps x.parts (x.root ∷ []) (x.top ∷ []) y.steps y.parts y.roots y.tops x.forest y.forest
                  (λ m h g. shared.0 m (one_node x.top m h) g)
                  (λ w h g. shared.1 w (one_link x.top w h) g);
              few = let e = y.few in omega arith;
              at = at;
            }
              where
                at : (i : ℕ) (z : Part) → slice_get (x.top ∷ y.tops) i ≡ Some z → ClassTop (c + i) z
                at zero z h =
                    let e : c ≡ c + 0 = omega arith in
                    subst (λ u. ClassTop u z) e (subst (ClassTop c) (some_same (Some x.top) x.top z refl h) (top_of (of_class c) (hanging c (length o.wires)) k x))
                at (suc i) z h = let e : suc c + i ≡ c + suc i = omega arith in subst (λ u. ClassTop u z) e (y.at i z h)

                shared : ShareNothing (x.top ∷ y.tops)
                shared = share_classes c l (x.top ∷ y.tops) at

    module _ (tops : List Part) (few : length tops ≡ classes_of o n) (at : (i : ℕ) (y : Part) → slice_get tops i ≡ Some y → ClassTop (1 + i) y) where
      top : (c : ℕ) → 0 < c → c ≤ classes_of o n → (i : ℕ) × (c ≡ 1 + i) × (y : Part) × (slice_get tops i ≡ Some y) × ClassTop c y
      top zero l h = absurd (omega arith)
      top (suc c) l h =
          let f = few in
          let y = at_index tops c (omega arith) in
          let e : 1 + c ≡ suc c = omega arith in
          (c, omega arith, y.0, y.1, subst (λ z. ClassTop z y.0) e (at c y.0 y.1))

      -- the ends of all classes' nets for q, if only class c has any
      sum_class : (w : ℕ) (p q : OpenPoint) → IsWire o w p q → (c : ℕ) → 0 < c → c ≤ classes_of o n → ((d : ℕ) → 0 < d → d ≢ c → leads_out (of_class d) p q + if_in (hanging d (length o.wires)) w ≡ 0) → ends_of tops q ≡ leads_out (of_class c) p q + if_in (hanging c (length o.wires)) w
      sum_class w p q h c l m f =
          let y = top c l m in
          let e = y.1 in
          sum_one tops q y.0 y.2 y.3 (λ i z d g. (at i z g).ends w p q h ∙ f (1 + i) (omega arith) (λ u. d (omega arith))) ∙ y.4.ends w p q h

      sum_none : (w : ℕ) (p q : OpenPoint) → IsWire o w p q → ((d : ℕ) → 0 < d → leads_out (of_class d) p q + if_in (hanging d (length o.wires)) w ≡ 0) → ends_of tops q ≡ 0
      sum_none w p q h f = sum_zero tops q (λ i z g. (at i z g).ends w p q h ∙ f (1 + i) (omega arith))

      -- the cases of a point: a port of n, a port of another node of s, or another point
      abbrev Where : OpenPoint → Type 0
      Where p = ((i : ℕ) × (p ≡ Port n i)) ⊎ ((m : ℕ) × (j : ℕ) × (p ≡ Port m j) × IsIn m s × (m ≢ n)) ⊎ ((is_port_in s p ≡ 0) × ((i : ℕ) → p ≡ Port n i → ⊥))

      where_is : (p : OpenPoint) → Where p
      where_is (Port m j) = elim (same_nat m n) [
        | inl e ↦ inl (j, ap (λ z. Port z j) e)
        | inr e ↦ elim (cases_Bool (s m)) [ inl h ↦ inr (inl (m, j, refl, h, e)) | inr h ↦ inr (inr (port_no s m j h, λ i g. e (port_place m n j i g).0)) ]
      ]
      where_is (Free e) = inr (inr (refl, λ i g. let g' : ◌≡◌ {A = OpenPoint} (Free e) (Port n i) = g in cc))

      root_out : (c i : ℕ) → 0 < c → is_port_in (of_class c) (Port n i) ≡ 0
      root_out c i l = port_no (of_class c) n i (false_from_ne_true (of_class c n) (λ h. not_root c n l h refl))

      class_out : (c m j : ℕ) → part m ≢ c → is_port_in (of_class c) (Port m j) ≡ 0
      class_out c m j d = port_no (of_class c) m j (false_from_ne_true (of_class c m) (λ h. d (numbered_is s part c m h)))

      outer_out : (c : ℕ) (p : OpenPoint) → is_port_in s p ≡ 0 → is_port_in (of_class c) p ≡ 0
      outer_out c p h = elim (at_most 1 (is_port_in (of_class c) p)) [
        | inl u ↦
            let m = port_most (of_class c) p in
            let x = port_own (of_class c) p (omega arith) in
            let y : is_port_in s p ≡ 1 = subst (λ z. is_port_in s z ≡ 1) (sym x.2) (port_yes s x.0 x.1 (class_in_s c x.0 x.3)) in
            absurd (omega arith)
        | inr u ↦ omega arith
      ]

      hang_none : (c w : ℕ) → (Dangles c w → ⊥) → if_in (hanging c (length o.wires)) w ≡ 0
      hang_none c w f = let e : hanging c (length o.wires) w ≡ false = false_from_ne_true (hanging c (length o.wires) w) (λ h. f (hanging_is c (length o.wires) w h).1) in ap (λ b. cond b 1 0) e

      hang_one : (c w : ℕ) (p q : OpenPoint) → IsWire o w p q → Dangles c w → if_in (hanging c (length o.wires)) w ≡ 1
      hang_one c w p q h f = ap (λ b. cond b 1 0) (hanging_yes c (length o.wires) w (wire_within o w p q h) f)

      -- an end that dangles at a wire does so at one of its points
      dangle_at : (c w : ℕ) (p q : OpenPoint) → IsWire o w p q → Dangles c w → ((i : ℕ) × (p ≡ Port n i) × (class_in o n i ≡ c) × (is_port_in (of_class c) q ≡ 0)) ⊎ ((i : ℕ) × (q ≡ Port n i) × (class_in o n i ≡ c) × (is_port_in (of_class c) p ≡ 0))
      dangle_at c w p q h x = elim (wire_points o w p q (Port n x.0) x.2.0 h x.2.1) [
        | inl e ↦ inl (x.0, sym e.0, x.1, subst (λ z. is_port_in (of_class c) z ≡ 0) e.1 x.2.2)
        | inr e ↦ inr (x.0, sym e.0, x.1, subst (λ z. is_port_in (of_class c) z ≡ 0) e.1 x.2.2)
      ]

      same_class : (i j : ℕ) → ◌≡◌ {A = OpenPoint} (Port n i) (Port n j) → class_in o n i ≡ class_in o n j
      same_class i j e = ap (class_in o n) (port_place n n i j e).1

      root_in : (i : ℕ) → is_port_in s (Port n i) ≡ 1
      root_in i = port_yes s n i r.root

      principal_no : (i : ℕ) → i ≢ 0 → is_principal n (Port n i) ≡ 0
      principal_no i d = let e : nat_eq i 0 ≡ false = ne_eqb i 0 d in ap (λ b. cond b (one_if n n) 0) e

      principal_other : (m j : ℕ) → m ≢ n → is_principal n (Port m j) ≡ 0
      principal_other m j d = go (nat_eq j 0)
        where
          go : (b : Bool) → cond b (one_if n m) 0 ≡ 0
          go true = one_other n m (λ e. d (sym e))
          go false = refl

      outer_no : (p : OpenPoint) → ((i : ℕ) → p ≡ Port n i → ⊥) → (is_principal n p ≡ 0) × (is_auxiliary n p ≡ 0)
      outer_no (Port m j) f =
          let d : m ≢ n = λ e. f j (ap (λ z. Port z j) e) in
          (principal_other m j d, other_port n m j d)
      outer_no (Free e) f = (refl, refl)

      -- a port of n is the principal one, or of a class
      root_class : (w i : ℕ) (q : OpenPoint) → IsWire o w (Port n i) q → ((i ≡ 0) × (class_in o n i ≡ 0)) ⊎ ((i ≢ 0) × (0 < class_in o n i) × (class_in o n i ≤ classes_of o n))
      root_class w i q h =
          let iff = net.principal n i agent (net.points w (Port n i) q h) in
          elim (same_nat i 0) [
            | inl e ↦ inl (e, iff.1 e)
            | inr d ↦ inr (d, elim (at_most 1 (class_in o n i)) [ inl u ↦ u | inr u ↦ absurd (d (iff.0 (omega arith))) ], net.classes n i agent (net.points w (Port n i) q h))
          ]

      abbrev Equation : OpenPoint → OpenPoint → Type 0
      Equation p q = leads_out s p q + is_auxiliary n q ≡ ends_of tops q + is_principal n p

      root_root : (w i j : ℕ) → IsWire o w (Port n i) (Port n j) → Equation (Port n i) (Port n j)
      root_root w i j h =
          let back = wire_turn o w (Port n i) (Port n j) h in
          let own = r.own i j (w, h) in
          elim (root_class w i (Port n j) h) [
            | inl a ↦ elim (root_class w j (Port n i) back) [
              | inl b ↦ absurd (net.apart w (Port n i) (Port n j) h (ap (λ z. Port n z) (a.0 ∙ sym b.0)))
              | inr b ↦ let u = a.1 in let v = b.1 in absurd (omega arith)
            ]
            | inr a ↦ elim (root_class w j (Port n i) back) [
              | inl b ↦ let u = b.1 in let v = a.1 in absurd (omega arith)
              | inr b ↦
                  let c = class_in o n i in
                  let d1 = hang_one c w (Port n i) (Port n j) h (i, refl, (Port n j, h, root_out c j a.1)) in
                  let o1 = root_out c i a.1 in
                  let sum = sum_class w (Port n i) (Port n j) h c a.1 a.2 (λ d l x.
                  let z = hang_none d w (λ g. elim (dangle_at d w (Port n i) (Port n j) h g) [
                    | inl f ↦ x (sym f.2 ∙ same_class f.0 i (sym f.1))
                    | inr f ↦ x (sym f.2 ∙ same_class f.0 j (sym f.1) ∙ sym own)
                  ]) in
                  let z' = root_out d i l in
                  omega arith) in
                  let ri = root_in i in
                  let rj = root_in j in
                  let au = auxiliary_port n j b.0 in
                  let pr = principal_no i a.0 in
                  omega arith
            ]
          ]

      root_inner : (w i m j : ℕ) → IsWire o w (Port n i) (Port m j) → IsIn m s → m ≢ n → Equation (Port n i) (Port m j)
      root_inner w i m j h ms mn =
          let to = r.to i j m ms mn (w, h) in
          let pos = r.others m ms mn in
          let nz : i ≢ 0 = λ e. let u = (net.principal n i agent (net.points w (Port n i) (Port m j) h)).1 e in omega arith in
          let sum = sum_none w (Port n i) (Port m j) h (λ d l.
          let z = hang_none d w (λ g. elim (dangle_at d w (Port n i) (Port m j) h g) [
            | inl f ↦
                let cl : part m ≡ d = to ∙ same_class i f.0 f.1 ∙ f.2 in
                let one = port_yes (of_class d) m j (in_class d m ms cl) in
                let zero = f.3 in
                omega arith
            | inr f ↦ mn (port_place m n j f.0 f.1).0
          ]) in
          let z' = root_out d i l in
          omega arith) in
          let ri = root_in i in
          let rm = port_yes s m j ms in
          let au = other_port n m j mn in
          let pr = principal_no i nz in
          omega arith

      root_outer : (w i : ℕ) (q : OpenPoint) → IsWire o w (Port n i) q → is_port_in s q ≡ 0 → ((j : ℕ) → q ≡ Port n j → ⊥) → Equation (Port n i) q
      root_outer w i q h out off_root =
          let ri = root_in i in
          let au = (outer_no q off_root).1 in
          elim (root_class w i q h) [
            | inl a ↦
                let sum = sum_none w (Port n i) q h (λ d l.
                let z = hang_none d w (λ g. elim (dangle_at d w (Port n i) q h g) [
                  | inl f ↦ let u : class_in o n i ≡ d = same_class i f.0 f.1 ∙ f.2 in let v = a.1 in omega arith
                  | inr f ↦ off_root f.0 f.1
                ]) in
                let z' = root_out d i l in
                omega arith) in
                let pr : is_principal n (Port n i) ≡ 1 = ap (λ i. is_principal n (Port n i)) a.0 ∙ principal_one n in
                omega arith
            | inr a ↦
                let c = class_in o n i in
                let d1 = hang_one c w (Port n i) q h (i, refl, (q, h, outer_out c q out)) in
                let o1 = root_out c i a.1 in
                let sum = sum_class w (Port n i) q h c a.1 a.2 (λ d l x.
                let z = hang_none d w (λ g. elim (dangle_at d w (Port n i) q h g) [
                  | inl f ↦ x (sym f.2 ∙ same_class f.0 i (sym f.1))
                  | inr f ↦ off_root f.0 f.1
                ]) in
                let z' = root_out d i l in
                omega arith) in
                let pr = principal_no i a.0 in
                omega arith
          ]

      inner_root : (w l k j : ℕ) → IsWire o w (Port l k) (Port n j) → IsIn l s → l ≢ n → Equation (Port l k) (Port n j)
      inner_root w l k j h ls ln =
          let back = wire_turn o w (Port l k) (Port n j) h in
          let to = r.to j k l ls ln (w, back) in
          let pos = r.others l ls ln in
          let nz : j ≢ 0 = λ e. let u = (net.principal n j agent (net.points w (Port n j) (Port l k) back)).1 e in omega arith in
          let no_dangle : (d : ℕ) → 0 < d → if_in (hanging d (length o.wires)) w ≡ 0 = λ d g. hang_none d w (λ x. elim (dangle_at d w (Port l k) (Port n j) h x) [
            | inl f ↦ ln (port_place l n k f.0 f.1).0
            | inr f ↦
                let cl : part l ≡ d = to ∙ same_class j f.0 f.1 ∙ f.2 in
                let one = port_yes (of_class d) l k (in_class d l ls cl) in
                let zero = f.3 in
                omega arith
          ]) in
          let sum = sum_class w (Port l k) (Port n j) h (part l) pos (most l ls) (λ d g x. let z = no_dangle d g in let z' = class_out d l k (λ e. x (sym e)) in omega arith) in
          let dn = no_dangle (part l) pos in
          let one = port_yes (of_class (part l)) l k (in_class (part l) l ls refl) in
          let zero = root_out (part l) j pos in
          let rl = port_yes s l k ls in
          let rj = root_in j in
          let au = auxiliary_port n j nz in
          let pr = principal_other l k ln in
          omega arith

      inner_inner : (w l k m j : ℕ) → IsWire o w (Port l k) (Port m j) → IsIn l s → l ≢ n → IsIn m s → m ≢ n → Equation (Port l k) (Port m j)
      inner_inner w l k m j h ls ln ms mn =
          let among = r.among l m k j ls ms ln mn (w, h) in
          let sum = sum_none w (Port l k) (Port m j) h (λ d g.
          let z = hang_none d w (λ x. elim (dangle_at d w (Port l k) (Port m j) h x) [ inl f ↦ ln (port_place l n k f.0 f.1).0 | inr f ↦ mn (port_place m n j f.0 f.1).0 ]) in
          elim (same_nat (part l) d) [
            | inl e ↦
                let a = port_yes (of_class d) m j (in_class d m ms (sym among ∙ e)) in
                let b = port_most (of_class d) (Port l k) in
                omega arith
            | inr e ↦ let a = class_out d l k e in omega arith
          ]) in
          let rl = port_yes s l k ls in
          let rm = port_yes s m j ms in
          let au = other_port n m j mn in
          let pr = principal_other l k ln in
          omega arith

      inner_outer : (w l k : ℕ) (q : OpenPoint) → IsWire o w (Port l k) q → IsIn l s → l ≢ n → is_port_in s q ≡ 0 → ((j : ℕ) → q ≡ Port n j → ⊥) → Equation (Port l k) q
      inner_outer w l k q h ls ln out off_root =
          let pos = r.others l ls ln in
          let no_dangle : (d : ℕ) → if_in (hanging d (length o.wires)) w ≡ 0 = λ d. hang_none d w (λ x. elim (dangle_at d w (Port l k) q h x) [ inl f ↦ ln (port_place l n k f.0 f.1).0 | inr f ↦ off_root f.0 f.1 ]) in
          let sum = sum_class w (Port l k) q h (part l) pos (most l ls) (λ d g x. let z = no_dangle d in let z' = class_out d l k (λ e. x (sym e)) in omega arith) in
          let dn = no_dangle (part l) in
          let one = port_yes (of_class (part l)) l k (in_class (part l) l ls refl) in
          let zero = outer_out (part l) q out in
          let rl = port_yes s l k ls in
          let au = (outer_no q off_root).1 in
          let pr = principal_other l k ln in
          omega arith

      outer_root : (w j : ℕ) (p : OpenPoint) → IsWire o w p (Port n j) → is_port_in s p ≡ 0 → ((i : ℕ) → p ≡ Port n i → ⊥) → Equation p (Port n j)
      outer_root w j p h out off_root =
          let back = wire_turn o w p (Port n j) h in
          let pr = (outer_no p off_root).0 in
          elim (root_class w j p back) [
            | inl a ↦
                let sum = sum_none w p (Port n j) h (λ d l.
                let z = hang_none d w (λ g. elim (dangle_at d w p (Port n j) h g) [
                  | inl f ↦ off_root f.0 f.1
                  | inr f ↦ let u : class_in o n j ≡ d = same_class j f.0 f.1 ∙ f.2 in let v = a.1 in omega arith
                ]) in
                let z' = outer_out d p out in
                omega arith) in
                let au : is_auxiliary n (Port n j) ≡ 0 = ap (λ i. is_auxiliary n (Port n i)) a.0 in
                omega arith
            | inr a ↦
                let c = class_in o n j in
                let d1 = hang_one c w p (Port n j) h (j, refl, (p, back, outer_out c p out)) in
                let o1 = outer_out c p out in
                let sum = sum_class w p (Port n j) h c a.1 a.2 (λ d l x.
                let z = hang_none d w (λ g. elim (dangle_at d w p (Port n j) h g) [
                  | inl f ↦ off_root f.0 f.1
                  | inr f ↦ x (sym f.2 ∙ same_class f.0 j (sym f.1))
                ]) in
                let z' = outer_out d p out in
                omega arith) in
                let au = auxiliary_port n j a.0 in
                omega arith
          ]

      outer_any : (w : ℕ) (p q : OpenPoint) → IsWire o w p q → is_port_in s p ≡ 0 → ((i : ℕ) → p ≡ Port n i → ⊥) → ((i : ℕ) → q ≡ Port n i → ⊥) → is_auxiliary n q ≡ 0 → Equation p q
      outer_any w p q h out off_root off_root' au =
          let sum = sum_none w p q h (λ d l.
          let z = hang_none d w (λ g. elim (dangle_at d w p q h g) [ inl f ↦ off_root f.0 f.1 | inr f ↦ off_root' f.0 f.1 ]) in
          let z' = outer_out d p out in
          omega arith) in
          let pr = (outer_no p off_root).0 in
          omega arith

      equation : (w : ℕ) (p q : OpenPoint) → IsWire o w p q → Where p → Where q → Equation p q
      equation w p q h (inl a) (inl b) = subst (λ z. Equation z q) (sym a.1) (subst (λ z. Equation (Port n a.0) z) (sym b.1) (root_root w a.0 b.0 (subst (λ z. IsWire o w z (Port n b.0)) a.1 (subst (λ z. IsWire o w p z) b.1 h))))
      equation w p q h (inl a) (inr (inl b)) = subst (λ z. Equation z q) (sym a.1) (subst (λ z. Equation (Port n a.0) z) (sym b.2) (root_inner w a.0 b.0 b.1 (subst (λ z. IsWire o w z (Port b.0 b.1)) a.1 (subst (λ z. IsWire o w p z) b.2 h)) b.3 b.4))
      equation w p q h (inl a) (inr (inr b)) = subst (λ z. Equation z q) (sym a.1) (root_outer w a.0 q (subst (λ z. IsWire o w z q) a.1 h) b.0 b.1)
      equation w p q h (inr (inl a)) (inl b) = subst (λ z. Equation z q) (sym a.2) (subst (λ z. Equation (Port a.0 a.1) z) (sym b.1) (inner_root w a.0 a.1 b.0 (subst (λ z. IsWire o w z (Port n b.0)) a.2 (subst (λ z. IsWire o w p z) b.1 h)) a.3 a.4))
      equation w p q h (inr (inl a)) (inr (inl b)) = subst (λ z. Equation z q) (sym a.2) (subst (λ z. Equation (Port a.0 a.1) z) (sym b.2) (inner_inner w a.0 a.1 b.0 b.1 (subst (λ z. IsWire o w z (Port b.0 b.1)) a.2 (subst (λ z. IsWire o w p z) b.2 h)) a.3 a.4 b.3 b.4))
      equation w p q h (inr (inl a)) (inr (inr b)) = subst (λ z. Equation z q) (sym a.2) (inner_outer w a.0 a.1 q (subst (λ z. IsWire o w z q) a.2 h) a.3 a.4 b.0 b.1)
      equation w p q h (inr (inr a)) (inl b) = subst (λ z. Equation p z) (sym b.1) (outer_root w b.0 p (subst (λ z. IsWire o w p z) b.1 h) a.0 a.1)
      equation w p q h (inr (inr a)) (inr (inl b)) = outer_any w p q h a.0 a.1 (λ i e. b.4 (port_place b.0 n b.1 i (sym b.2 ∙ e)).0) (subst (λ z. is_auxiliary n z ≡ 0) (sym b.2) (other_port n b.0 b.1 b.4))
      equation w p q h (inr (inr a)) (inr (inr b)) = outer_any w p q h a.0 a.1 b.1 (outer_no q b.1).1

      grafted : IsGrafted o n tops
      grafted = record {
        agent = agent;
        many = few;
        each = λ w i c q x h e g.
            let y = at c x g in
            let back = wire_turn o w (Port n i) q h in
            let en = y.ends w q (Port n i) back in
            let z = root_out (1 + c) i (omega arith) in
            elim (at_most 1 (is_port_in (of_class (1 + c)) q)) [
              | inl u ↦ omega arith
              | inr u ↦ let d = hang_one (1 + c) w (Port n i) q h (i, e ∙ (let k : suc c ≡ 1 + c = omega arith in k), (q, h, omega arith)) in omega arith
            ];
      }

      pub fit_graft : (roots : List ℕ) → Fit s no_wires (Graft n roots) tops
      fit_graft roots = record {
        apart = share_classes 1 (omega arith) tops at;
        once = λ m. once_given n m;
        fresh = fresh;
        nodes = nodes;
        links = links;
        joins = (grafted, λ w p q h. let e = ends_wire s no_wires w p q h in let f = equation w p q h (where_is p) (where_is q) in omega arith);
      }
        where
          fresh : (m : ℕ) → is_among m (own_nodes (Graft n roots)) ≡ true → IsIn m (nodes_of tops) → ⊥
          fresh m h g =
              let x = of_nodes tops m g in
              not_root (1 + x.0) m (omega arith) (sym ((at x.0 x.1 x.2).nodes m) ∙ x.3)
              (elim (or_cases (nat_eq m n) false h) [ inl e ↦ eqb-true m n e | inr e ↦ absurd (not_both false e refl) ])

          nodes : (m : ℕ) → s m ≡ ((nat_eq m n || false) || nodes_of tops m)
          nodes m = same_test (s m) ((nat_eq m n || false) || nodes_of tops m)
              (λ h. elim (same_nat m n) [
                | inl e ↦ or_left (nat_eq m n || false) (nodes_of tops m) (or_left (nat_eq m n) false (eq-eqb m n e))
                | inr d ↦
                    let y = top (part m) (r.others m h d) (most m h) in
                    or_right (nat_eq m n || false) (nodes_of tops m) (in_nodes_of tops y.0 y.2 m y.3 (y.4.nodes m ∙ in_class (part m) m h refl))
              ])
              (λ h. elim (or_cases (nat_eq m n || false) (nodes_of tops m) h) [
                | inl e ↦ elim (or_cases (nat_eq m n) false e) [ inl f ↦ subst (λ z. IsIn z s) (sym (eqb-true m n f)) r.root | inr f ↦ absurd (not_both false f refl) ]
                | inr e ↦ let x = of_nodes tops m e in class_in_s (1 + x.0) m (sym ((at x.0 x.1 x.2).nodes m) ∙ x.3)
              ])

          links : (w : ℕ) → IsIn w (links_of tops) → LinkOf s no_wires w
          links w h =
              let x = of_links tops w h in
              elim ((at x.0 x.1 x.2).links w x.3) [
                | inl u ↦
                    let y = (hanging_is (1 + x.0) (length o.wires) w u).1 in
                    inr (n, y.0, y.2.0, y.2.1, r.root, agent, λ e. let z = (net.principal n y.0 agent (net.points w (Port n y.0) y.2.0 y.2.1)).1 e in let v = y.1 in omega arith)
                | inr u ↦ inr (u.0, u.1, u.2, u.3, class_in_s (1 + x.0) u.0 u.4, u.5, u.6)
              ]

    make_graft : Nets → (k : ℕ) → Made s no_wires k
    make_graft nets k = go (class_nets nets (classes_of o n) 1 k (omega arith))
      where
        go : Tops 1 (classes_of o n) k → Made s no_wires k
        go t = finish s no_wires k t.steps t.parts t.roots t.tops (Graft n t.roots) t.forest refl (fit_graft t.tops t.few t.at t.roots)

  -- Links at agents of nets that no wire joins are of different wires
  pub agents_apart : (s a b : ℕ → Bool) → AreParts s a b → ((l i m j w : ℕ) → IsWire o w (Port l i) (Port m j) → IsIn l a → IsIn m b → ⊥) → (w : ℕ) → LinkOf a no_wires w → LinkOf b no_wires w → ⊥
  agents_apart s a b parts off w (inl u) z = not_both false u refl
  agents_apart s a b parts off w (inr u) (inl z) = not_both false z refl
  agents_apart s a b parts off w (inr u) (inr z) = elim (wire_points o w (Port u.0 u.1) u.2 (Port z.0 z.1) z.2 u.3 z.3) [
    | inl e ↦ (parts z.0).1 (subst (λ t. IsIn t a) (sym (port_place z.0 u.0 z.1 u.1 e.0).0) u.4) z.4
    | inr e ↦ off u.0 u.1 z.0 z.1 w (subst (λ t. IsWire o w (Port u.0 u.1) t) (sym e.0) u.3) u.4 z.4
  ]

  pub constructions : Constructions o (λ s. (k : ℕ) → Made s no_wires k)
  constructions = record {
    empty = λ s h k. make_empty s h k;
    given = λ n s c all self k. make_given n s c all self k;
    mix = λ s a b parts off x y k. make_mix s a b no_wires no_wires parts off (agents_apart s a b parts off) k (x k) y;
    cut = λ s a b l i m j v parts wire firm la mb only x y k. make_cut s a b l i m j v parts wire firm la mb only k (x k) y;
    graft = λ n s part agent z most r nets k. make_graft n s part agent z most r nets k;
  }
