-- The text of a net doesn't depend on the names of its agents.
use Rattle.std.proofs.Common.{◌≡◌, ◌↔◌, ◌||◌, ◌&&◌, ℕ, zero, suc, Bool, true, cond, nat_eq, Option, Some, None, IsSome, List, [], ◌∷◌, ◌++◌, map, length, refl, sym, ap, ◌∙◌}
use Rattle.std.specs.List.{AllByRecursion}
use Rattle.std.proofs.lemmas.List.{map-append, length-map}
use Rattle.std.proofs.lemmas.Bool.{eq-eqb, eqb-true}
use Rattle.in_net.specs.Nets.{Point, Port, Free, Signature, Net, IsPoint, IsNet}
use Rattle.in_open_nets.proofs.Public.{same_test}
use Rattle.in_net.proofs.Public.{port_agent, port_place}
use Rattle.in_interaction.proofs.Public.{has_value}
use Rattle.in_check.specs.Runs.{renamed, IsRenamed}
use Rattle.in_check.specs.NetText.{Words, TextPart, Bytes, Head, Variable, listed, bracketed, arity_of, agent_term, term_at, term, free_lines, pair_lines, text_parts, same_point, number_of, symbol_name, variable_name, numbers, bytes_of, text, IsQueue, IsOfNet}
use Rattle.in_check.proofs.Reached.Renaming.{symbol_kept, wire_kept, live}
use Rattle.in_check.proofs.Reached.Others.{there, pieces_of}

-- a test of equality
abbrev pub IsTest : {A : Type 0} → (A → A → Bool) → Type 0
IsTest {A} same = (x y : A) → (same x y ≡ true) ↔ (x ≡ y)

pub nat_test : IsTest nat_eq
nat_test x y = ((λ e. eqb-true x y e), (λ e. eq-eqb x y e))

abbrev pub renamed_piece : {A B : Type 0} → (A → B) → TextPart A → TextPart B
renamed_piece f (Bytes bs) = Bytes bs
renamed_piece f (Head y) = Head (f y)
renamed_piece f (Variable p q) = Variable (renamed f p) (renamed f q)

abbrev pub renamed_option : {A B : Type 0} → (A → B) → Option (Point A) → Option (Point B)
renamed_option f None = None
renamed_option f (Some q) = Some (renamed f q)

-- a point at an agent of the net, or at a free end
abbrev pub IsLive : {A : Type 0} → Net A → Point A → Type 0
IsLive n (Port x i) = IsSome (n.symbol x)
IsLive n (Free k) = Unit {0}

-- brackets and commas around parts
bracketed_map : {A B : Type 0} (f : A → B) (k : ℕ) (ps : List (TextPart A)) → bracketed k (map (renamed_piece f) ps) ≡ map (renamed_piece f) (bracketed k ps)
bracketed_map f zero ps = refl
bracketed_map f (suc k) ps = ap (λ qs. Bytes (40 ∷ []) ∷ qs) (sym (map-append (renamed_piece f) ps (Bytes (41 ∷ []) ∷ [])))

listed_map : {A B : Type 0} (f : A → B) (s : Point A → List (TextPart A)) (t : Point B → List (TextPart B)) (y : A) → ((i : ℕ) → t (Port (f y) i) ≡ map (renamed_piece f) (s (Port y i))) → (i k : ℕ) → listed t (f y) i k ≡ map (renamed_piece f) (listed s y i k)
listed_map f s t y h i zero = refl
listed_map f s t y h i (suc zero) = h i
listed_map f s t y h i (suc (suc k)) =
    ap (λ ps. ps ++ Bytes (44 ∷ 32 ∷ []) ∷ listed t (f y) (suc i) (suc k)) (h i)
    ∙ ap (λ ps. map (renamed_piece f) (s (Port y i)) ++ Bytes (44 ∷ 32 ∷ []) ∷ ps) (listed_map f s t y h (suc i) (suc k))
    ∙ sym (map-append (renamed_piece f) (s (Port y i)) (Bytes (44 ∷ 32 ∷ []) ∷ listed s y (suc i) (suc k)))

module _ {A B : Type 0} (sig : Signature) (f : A → B) (n : Net A) (m : Net B) (net : IsNet sig n) (r : IsRenamed f n m) where
  symbol_same : (y : A) → IsSome (n.symbol y) → m.symbol (f y) ≡ n.symbol y
  symbol_same y h = let s = has_value (n.symbol y) h in symbol_kept sig f n m net r y s.0 s.1 ∙ sym s.1

  live_of : (p : Point A) → IsPoint sig n p → IsLive n p
  live_of (Port x i) h = live sig f n m net r x i h
  live_of (Free k) h = tt

  one_live : (p q : Point A) → IsLive n p → IsLive n q → renamed f p ≡ renamed f q → p ≡ q
  one_live (Port x i) (Port y j) h g e =
      let same : x ≡ y = r.apart x y h g (port_agent (f x) (f y) i j e) in
      let place : i ≡ j = port_place (f x) (f y) i j e in
      cc
  one_live (Port x i) (Free k) h g e = cc
  one_live (Free k) (Port x i) h g e = cc
  one_live (Free j) (Free k) h g e = let same : j ≡ k = cc in ap (λ k. Free k) same

  partner_same : (p : Point A) → IsLive n p → m.partner (renamed f p) ≡ renamed_option f (n.partner p)
  partner_same p h = go (n.partner p) refl (m.partner (renamed f p)) refl
    where
      go : (o : Option (Point A)) → n.partner p ≡ o → (w : Option (Point B)) → m.partner (renamed f p) ≡ w → m.partner (renamed f p) ≡ renamed_option f (n.partner p)
      go (Some q) e w e' = wire_kept sig f n m net r p q e ∙ ap (renamed_option f) (sym e)
      go None e None e' = e' ∙ ap (renamed_option f) (sym e)
      go None e (Some v) e' =
          let w = (r.wires (renamed f p) v).0 e' in
          let same : w.0 ≡ p = one_live w.0 p (live_of w.0 (net.points w.0 w.1 w.4)) h w.2 in
          let one : n.partner w.0 ≡ Some w.1 = w.4 in
          let other : n.partner w.0 ≡ None = ap n.partner same ∙ e in
          cc

  -- both ends of a wire are live
  far_live : (p q : Point A) → n.partner p ≡ Some q → IsLive n q
  far_live p q e = live_of q (net.points q p (net.back p q e))

  term_at_map : (s : A → List (TextPart A)) (t : B → List (TextPart B)) → ((y : A) → IsSome (n.symbol y) → t (f y) ≡ map (renamed_piece f) (s y)) → (p : Point A) (o : Option (Point A)) → n.partner p ≡ o → term_at t (renamed f p) (renamed_option f o) ≡ map (renamed_piece f) (term_at s p o)
  term_at_map s t h p None e = refl
  term_at_map s t h p (Some (Port y zero)) e = h y (far_live p (Port y zero) e)
  term_at_map s t h p (Some (Port y (suc i))) e = refl
  term_at_map s t h p (Some (Free k)) e = refl

  agent_map : (s : Point A → List (TextPart A)) (t : Point B → List (TextPart B)) → ((p : Point A) → IsLive n p → t (renamed f p) ≡ map (renamed_piece f) (s p)) → (y : A) → IsSome (n.symbol y) → agent_term sig m t (f y) ≡ map (renamed_piece f) (agent_term sig n s y)
  agent_map s t h y there =
      let k = arity_of sig (n.symbol y) in
      ap (λ o. Head (f y) ∷ bracketed (arity_of sig o) (listed t (f y) 1 (arity_of sig o))) (symbol_same y there)
      ∙ ap (λ ps. Head (f y) ∷ ps) (ap (bracketed k) (listed_map f s t y (λ i. h (Port y i) there) 1 k) ∙ bracketed_map f k (listed s y 1 k))

  term_map : (d : ℕ) (p : Point A) → IsLive n p → term sig m d (renamed f p) ≡ map (renamed_piece f) (term sig n d p)
  term_map zero p h =
      ap (term_at (λ y. []) (renamed f p)) (partner_same p h) ∙ term_at_map (λ y. []) (λ y. []) (λ y there. refl) p (n.partner p) refl
  term_map (suc d) p h =
      ap (term_at (agent_term sig m (term sig m d)) (renamed f p)) (partner_same p h)
      ∙ term_at_map (agent_term sig n (term sig n d)) (agent_term sig m (term sig m d)) (agent_map (term sig n d) (term sig m d) (λ p h. term_map d p h)) p (n.partner p) refl

  module _ (words : Words) (d : ℕ) where
    free_map : (k more : ℕ) → free_lines sig words m d k more ≡ map (renamed_piece f) (free_lines sig words n d k more)
    free_map k zero = refl
    free_map k (suc more) =
        ap (λ ps. Bytes (words.free k ++ 32 ∷ 61 ∷ 32 ∷ []) ∷ ps) (
        ap (λ ps. ps ++ Bytes (10 ∷ []) ∷ free_lines sig words m d (suc k) more) (term_map d (Free k) tt)
        ∙ ap (λ ps. map (renamed_piece f) (term sig n d (Free k)) ++ Bytes (10 ∷ []) ∷ ps) (free_map (suc k) more)
        ∙ sym (map-append (renamed_piece f) (term sig n d (Free k)) (Bytes (10 ∷ []) ∷ free_lines sig words n d (suc k) more))
        )

    abbrev Pairs : List (A × A) → Type 0
    Pairs qs = AllByRecursion (λ q. n.partner (Port q.0 0) ≡ Some (Port q.1 0)) qs

    pair_map : (qs : List (A × A)) → Pairs qs → pair_lines sig m d (map (λ q. (f q.0, f q.1)) qs) ≡ map (renamed_piece f) (pair_lines sig n d qs)
    pair_map [] h = refl
    pair_map (q ∷ qs) h =
        let one = agent_map (term sig n d) (term sig m d) (λ p h. term_map d p h) q.0 (there sig n net q.0 (Port q.1 0) (net.back (Port q.0 0) (Port q.1 0) h.0)) in
        let two = agent_map (term sig n d) (term sig m d) (λ p h. term_map d p h) q.1 (there sig n net q.1 (Port q.0 0) h.0) in
        let a = agent_term sig n (term sig n d) q.0 in
        let b = agent_term sig n (term sig n d) q.1 in
        ap (λ ps. ps ++ (Bytes (32 ∷ 126 ∷ 32 ∷ []) ∷ (agent_term sig m (term sig m d) (f q.1) ++ (Bytes (10 ∷ []) ∷ pair_lines sig m d (map (λ q. (f q.0, f q.1)) qs))))) one
        ∙ ap (λ ps. map (renamed_piece f) a ++ (Bytes (32 ∷ 126 ∷ 32 ∷ []) ∷ ps)) (
        ap (λ ps. ps ++ Bytes (10 ∷ []) ∷ pair_lines sig m d (map (λ q. (f q.0, f q.1)) qs)) two
        ∙ ap (λ ps. map (renamed_piece f) b ++ Bytes (10 ∷ []) ∷ ps) (pair_map qs h.1)
        ∙ sym (map-append (renamed_piece f) b (Bytes (10 ∷ []) ∷ pair_lines sig n d qs))
        )
        ∙ sym (map-append (renamed_piece f) a (Bytes (32 ∷ 126 ∷ 32 ∷ []) ∷ (b ++ (Bytes (10 ∷ []) ∷ pair_lines sig n d qs))))

    pieces_map : (qs : List (A × A)) → Pairs qs → text_parts sig words m d (map (λ q. (f q.0, f q.1)) qs) ≡ map (renamed_piece f) (text_parts sig words n d qs)
    pieces_map qs h =
        ap (λ ts. free_lines sig words m d 0 (length ts) ++ pair_lines sig m d (map (λ q. (f q.0, f q.1)) qs)) r.free
        ∙ ap (λ ps. ps ++ pair_lines sig m d (map (λ q. (f q.0, f q.1)) qs)) (free_map 0 (length n.free))
        ∙ ap (λ ps. map (renamed_piece f) (free_lines sig words n d 0 (length n.free)) ++ ps) (pair_map qs h)
        ∙ sym (map-append (renamed_piece f) (free_lines sig words n d 0 (length n.free)) (pair_lines sig n d qs))

    bytes_same : (ks : List ℕ) (ps : List (TextPart A)) → AllByRecursion (IsOfNet n) ps → bytes_of words m ks (map (renamed_piece f) ps) ≡ bytes_of words n ks ps
    bytes_same ks [] h = refl
    bytes_same ks (Bytes bs ∷ ps) h = ap (λ r. bs ++ r) (bytes_same ks ps h.1)
    bytes_same ks (Head y ∷ ps) h =
        ap (λ o. symbol_name words o ++ bytes_of words m ks (map (renamed_piece f) ps)) (symbol_same y h.0)
        ∙ ap (λ r. symbol_name words (n.symbol y) ++ r) (bytes_same ks ps h.1)
    bytes_same [] (Variable p q ∷ ps) h = bytes_same [] ps h.1
    bytes_same (k ∷ ks) (Variable p q ∷ ps) h = ap (λ r. variable_name k ++ r) (bytes_same ks ps h.1)

    module _ (s : A → A → Bool) (t : B → B → Bool) (is_s : IsTest s) (is_t : IsTest t) where
      agents_same : (x y : A) → IsSome (n.symbol x) → IsSome (n.symbol y) → t (f x) (f y) ≡ s x y
      agents_same x y h g = same_test (t (f x) (f y)) (s x y) (λ e. (is_s x y).1 (r.apart x y h g ((is_t (f x) (f y)).0 e))) (λ e. (is_t (f x) (f y)).1 (ap f ((is_s x y).0 e)))

      points_same : (p q : Point A) → IsLive n p → IsLive n q → same_point t (renamed f p) (renamed f q) ≡ same_point s p q
      points_same (Port x i) (Port y j) h g = ap (λ b. b && nat_eq i j) (agents_same x y h g)
      points_same (Port x i) (Free k) h g = refl
      points_same (Free k) (Port x i) h g = refl
      points_same (Free j) (Free k) h g = refl

      number_same : (met : List (Point A)) (p q : Point A) → AllByRecursion (IsLive n) met → IsLive n p → IsLive n q → number_of t (map (renamed f) met) (renamed f p) (renamed f q) ≡ number_of s met p q
      number_same [] p q h hp hq = refl
      number_same (u ∷ us) p q h hp hq =
          ap (λ b. cond (b || same_point t (renamed f u) (renamed f q)) (Some (suc (length (map (renamed f) us)))) (number_of t (map (renamed f) us) (renamed f p) (renamed f q))) (points_same u p h.0 hp)
          ∙ ap (λ b. cond (same_point s u p || b) (Some (suc (length (map (renamed f) us)))) (number_of t (map (renamed f) us) (renamed f p) (renamed f q))) (points_same u q h.0 hq)
          ∙ ap (λ k. cond (same_point s u p || same_point s u q) (Some (suc k)) (number_of t (map (renamed f) us) (renamed f p) (renamed f q))) (length-map us (renamed f))
          ∙ ap (λ o. cond (same_point s u p || same_point s u q) (Some (suc (length us))) o) (number_same us p q h.1 hp hq)

      numbers_same : (met : List (Point A)) (ps : List (TextPart A)) → AllByRecursion (IsLive n) met → AllByRecursion (IsOfNet n) ps → numbers t (map (renamed f) met) (map (renamed_piece f) ps) ≡ numbers s met ps
      numbers_same met [] h k = refl
      numbers_same met (Bytes bs ∷ ps) h k = numbers_same met ps h k.1
      numbers_same met (Head y ∷ ps) h k = numbers_same met ps h k.1
      numbers_same met (Variable p q ∷ ps) h k =
          let near : IsLive n p = live_of p (net.points p q k.0.0) in
          ap (λ o. elim o [
            | None ↦ suc (length (map (renamed f) met)) ∷ numbers t (renamed f p ∷ map (renamed f) met) (map (renamed_piece f) ps)
            | Some k ↦ k ∷ numbers t (map (renamed f) met) (map (renamed_piece f) ps)
          ]) (number_same met p q h near (far_live p q k.0.0))
          ∙ go (numbers_same (p ∷ met) ps (near, h) k.1) (numbers_same met ps h k.1) (number_of s met p q)
        where
          go : numbers t (renamed f p ∷ map (renamed f) met) (map (renamed_piece f) ps) ≡ numbers s (p ∷ met) ps → numbers t (map (renamed f) met) (map (renamed_piece f) ps) ≡ numbers s met ps → (o : Option ℕ) → ◌≡◌ {A = List ℕ} (elim o [
            | None ↦ suc (length (map (renamed f) met)) ∷ numbers t (renamed f p ∷ map (renamed f) met) (map (renamed_piece f) ps)
            | Some k ↦ k ∷ numbers t (map (renamed f) met) (map (renamed_piece f) ps)
          ]) (elim o [
            | None ↦ suc (length met) ∷ numbers s (p ∷ met) ps
            | Some k ↦ k ∷ numbers s met ps
          ])
          go new old None = ap (λ l. suc l ∷ numbers t (renamed f p ∷ map (renamed f) met) (map (renamed_piece f) ps)) (length-map met (renamed f)) ∙ ap (λ r. suc (length met) ∷ r) new
          go new old (Some l) = ap (λ r. l ∷ r) old

      pub text_same : (qs : List (A × A)) → IsQueue n qs → text sig words t m d (map (λ q. (f q.0, f q.1)) qs) ≡ text sig words s n d qs
      text_same qs h =
          let of = pieces_of sig n net words d qs h in
          ap (λ ps. bytes_of words m (numbers t [] ps) ps) (pieces_map qs h.active)
          ∙ ap (λ ks. bytes_of words m ks (map (renamed_piece f) (text_parts sig words n d qs))) (numbers_same [] (text_parts sig words n d qs) tt of)
          ∙ bytes_same (numbers s [] (text_parts sig words n d qs)) (text_parts sig words n d qs) of
