-- The place of an agent or a variable in the text: at the end of its climb, once.
use Rattle.std.proofs.Common.{◌≡◌, ◌≢◌, ◌⊎◌, ◌≤◌, ◌<◌, ◌+◌, ℕ, zero, suc, Option, Some, None, IsSome, IsSomeAnd, List, [], ◌∷◌, ◌++◌, length, refl, sym, subst, ap, inl, inr, ◌∙◌, arith}
use Rattle.std.specs.List.{AllByRecursion}
use native.Mathlib.Decide.{ℕ_discrete}
use Rattle.std.proofs.lemmas.Option.{same_Some}
use Rattle.in_base.proofs.Among.{among_all}
use Rattle.in_interaction.specs.Pieces.{AreDifferent}
use Rattle.in_net.specs.Nets.{Point, Port, Free, Signature, Net, IsPoint, IsNet}
use Rattle.in_base.specs.Lists.{IsAmong}
use Rattle.in_interaction.specs.Ahead.{MeetsPair, pair, pair_later, WaitsAt, free, free_later}
use Rattle.in_net.proofs.Public.{port_agent, port_place, symbol_of}
use Rattle.in_check.specs.NetText.{Words, TextPart, Bytes, Head, Variable, listed, bracketed, arity_of, agent_term, term_at, term, free_lines, pair_lines, text_parts, StandsTimes, agents_of, IsQueue, IsAuxiliary}
use Rattle.in_base.proofs.Places.{is_some}
use Rattle.in_base.proofs.Each.{all_of}

module _ {X : Type 0} (x : X) where
  nowhere_join : (xs ys : List X) → StandsTimes 0 x xs → StandsTimes 0 x ys → StandsTimes 0 x (xs ++ ys)
  nowhere_join [] ys h k = k
  nowhere_join (y ∷ xs) ys h k = (h.0, nowhere_join xs ys h.1 k)

  once_left : (xs ys : List X) → StandsTimes 1 x xs → StandsTimes 0 x ys → StandsTimes 1 x (xs ++ ys)
  once_left [] ys h k = absurd h
  once_left (y ∷ xs) ys (inl h) k = inl (h.0, nowhere_join xs ys h.1 k)
  once_left (y ∷ xs) ys (inr h) k = inr (h.0, once_left xs ys h.1 k)

  once_right : (xs ys : List X) → StandsTimes 0 x xs → StandsTimes 1 x ys → StandsTimes 1 x (xs ++ ys)
  once_right [] ys h k = k
  once_right (y ∷ xs) ys h k = inr (h.0, once_right xs ys h.1 k)

module _ {A : Type 0} (n : Net A) where
  -- from a point one goes up through a given number of agents to the other one
  abbrev pub Climb : Point A → ℕ → Point A → Type 0
  Climb p zero q = p ≡ q
  Climb p (suc l) q = (y : A) × (i : ℕ) × (Climb p l (Port y (suc i))) × (n.partner (Port y 0) ≡ Some q)

  climb_one : (l : ℕ) (p q r : Point A) → Climb p l q → Climb p l r → q ≡ r
  climb_one zero p q r c d = sym c ∙ d
  climb_one (suc l) p q r c d =
      let same : Port c.0 (suc c.1) ≡ Port d.0 (suc d.1) = climb_one l p (Port c.0 (suc c.1)) (Port d.0 (suc d.1)) c.2 d.2 in
      let agent : c.0 ≡ d.0 = port_agent c.0 d.0 (suc c.1) (suc d.1) same in
      same_Some q r (sym c.3 ∙ ap (λ y. n.partner (Port y 0)) agent ∙ d.3)

  climb_first : (l : ℕ) (y : A) (i : ℕ) (q r : Point A) → n.partner (Port y 0) ≡ Some q → Climb q l r → Climb (Port y (suc i)) (suc l) r
  climb_first zero y i q r e c = (y, i, refl, e ∙ ap (λ q. Some q) c)
  climb_first (suc l) y i q r e c = (c.0, c.1, climb_first l y i q (Port c.0 (suc c.1)) e c.2, c.3)

  -- the agents above a point, up to a free end or an active pair
  pub data Tops : Point A → List A → Type 0 where
    at_free : (k : ℕ) → Tops (Free k) []
    at_pair : (y : A) → Tops (Port y 0) []
    higher : (y : A) (i : ℕ) (q : Point A) (ys : List A) → n.partner (Port y 0) ≡ Some q → Tops q ys → Tops (Port y (suc i)) (y ∷ ys)

  -- the agents above an auxiliary port
  tops_up : (u : Point A) (ws : List A) (y : A) (i : ℕ) (q : Point A) → Tops u ws → u ≡ Port y (suc i) → n.partner (Port y 0) ≡ Some q → (zs : List A) × Tops q zs × (ws ≡ y ∷ zs)
  tops_up _ _ y i q (at_free k) e w = cc
  tops_up _ _ y i q (at_pair z) e w = absurd (no_suc 0 i refl (port_place z y 0 (suc i) e))
    where
      no_suc : (a b : ℕ) → a ≡ 0 → a ≡ suc b → ⊥
      no_suc a b e f = omega arith
  tops_up _ _ y i q (higher z j r zs e t) g w =
      let same : z ≡ y = port_agent z y (suc j) (suc i) g in
      let far : r ≡ q = same_Some r q (sym e ∙ ap (λ z. n.partner (Port z 0)) same ∙ w) in
      (zs, subst (λ q. Tops q zs) far t, ap (λ z. z ∷ zs) same)

  tops_root : (u : Point A) (ws : List A) → Tops u ws → (IsAuxiliary u → ⊥) → ws ≡ []
  tops_root _ _ (at_free k) h = refl
  tops_root _ _ (at_pair z) h = refl
  tops_root _ _ (higher z j r zs e t) h = absurd (h tt)

  tops_free : (u : Point A) (ws : List A) (k : ℕ) → Tops u ws → u ≡ Free k → ws ≡ []
  tops_free _ _ k (at_free j) e = refl
  tops_free _ _ k (at_pair z) e = refl
  tops_free _ _ k (higher z j r zs w t) e = cc

  tops_one : (u : Point A) (ys zs : List A) → Tops u ys → Tops u zs → ys ≡ zs
  tops_one _ _ zs (at_free k) t = sym (tops_free (Free k) zs k t refl)
  tops_one _ _ zs (at_pair y) t = sym (tops_root (Port y 0) zs t (λ h. h))
  tops_one _ _ zs (higher y i q ys e s) t =
      let r = tops_up (Port y (suc i)) zs y i q t refl e in
      ap (λ ys. y ∷ ys) (tops_one q ys r.0 s r.1) ∙ sym r.2

  -- a climb passes as many agents as it leaves behind
  climb_tops : (l : ℕ) (p q : Point A) (ys : List A) → Climb p l q → Tops p ys → (zs : List A) × Tops q zs × (length ys ≡ l + length zs)
  climb_tops zero p q ys c t = (ys, subst (λ q. Tops q ys) c t, (omega arith))
  climb_tops (suc l) p q ys c t =
      let r = climb_tops l p (Port c.0 (suc c.1)) ys c.2 t in
      let u = tops_up (Port c.0 (suc c.1)) r.0 c.0 c.1 q r.1 refl c.3 in
      let a : length ys ≡ l + length r.0 = r.2 in
      let b : length r.0 ≡ suc (length u.0) = ap length u.2 in
      (u.0, u.1, (omega arith))

  -- no climb comes back
  pub no_return : (l : ℕ) (p : Point A) (ys : List A) → Tops p ys → Climb p (suc l) p → ⊥
  no_return l p ys t c =
      let r = climb_tops (suc l) p p ys c t in
      let same : length r.0 ≡ length ys = ap length (tops_one p r.0 ys r.1 t) in
      let a : length ys ≡ suc l + length r.0 = r.2 in
      omega arith

  -- .. nor twice to one agent
  one_port : (l m : ℕ) (p : Point A) (ys : List A) (y : A) (i j : ℕ) (q : Point A) → n.partner (Port y 0) ≡ Some q → Tops p ys → Climb p l (Port y (suc i)) → Climb p m (Port y (suc j)) → i ≡ j
  one_port l m p ys y i j q e t c d =
      let r = climb_tops l p (Port y (suc i)) ys c t in
      let s = climb_tops m p (Port y (suc j)) ys d t in
      let u = tops_up (Port y (suc i)) r.0 y i q r.1 refl e in
      let v = tops_up (Port y (suc j)) s.0 y j q s.1 refl e in
      let same : u.0 ≡ v.0 = tops_one q u.0 v.0 u.1 v.1 in
      let lists : r.0 ≡ s.0 = u.2 ∙ ap (λ zs. y ∷ zs) same ∙ sym v.2 in
      let a : length ys ≡ l + length r.0 = r.2 in
      let b : length ys ≡ m + length s.0 = s.2 in
      let k : length r.0 ≡ length s.0 = ap length lists in
      let times : l ≡ m = omega arith in
      let ports : Port y (suc i) ≡ Port y (suc j) = climb_one m p (Port y (suc i)) (Port y (suc j)) (subst (λ l. Climb p l (Port y (suc i))) times c) d in
      let places : suc i ≡ suc j = port_place y y (suc i) (suc j) ports in
      omega arith

  -- the agents above differ
  lower : (q : Point A) (ys : List A) (y : A) → Tops q ys → IsAmong y ys → (i : ℕ) × (zs : List A) × Tops (Port y (suc i)) (y ∷ zs) × (length zs < length ys)
  lower _ _ y (at_free k) h = absurd h
  lower _ _ y (at_pair z) h = absurd h
  lower _ _ y (higher z i q ys e t) (inl h) = (i, ys, subst (λ z. Tops (Port z (suc i)) (z ∷ ys)) h (higher z i q ys e t), (omega arith))
  lower _ _ y (higher z i q ys e t) (inr h) =
      let r = lower q ys y t h in
      let a : length r.1 < length ys = r.3 in
      (r.0, r.1, r.2, (omega arith))

  pub tops_different : (p : Point A) (ys : List A) → Tops p ys → AreDifferent ys
  tops_different _ _ (at_free k) = tt
  tops_different _ _ (at_pair z) = tt
  tops_different _ _ (higher y i q ys e t) = (
    all_of (λ z. y ≢ z) ys (λ z a same. (
        let r = lower q ys z t a in
        let u = tops_up (Port z (suc r.0)) (z ∷ r.1) z r.0 q r.2 refl (ap (λ z. n.partner (Port z 0)) (sym same) ∙ e) in
        let lists : u.0 ≡ ys = tops_one q u.0 ys u.1 t in
        let whole : suc (length r.1) ≡ suc (length u.0) = ap length u.2 in
        let k : length u.0 ≡ length ys = ap length lists in
        let less : length r.1 < length ys = r.3 in
        let bad : ⊥ = omega arith in
        bad
        )),
    tops_different q ys t,
  )

  pub pair_tops : (x : A) (i : ℕ) → MeetsPair n x → (ys : List A) × Tops (Port x (suc i)) ys
  pair_tops _ i (pair x y e) = (x ∷ [], higher x i (Port y 0) [] e (at_pair y))
  pair_tops _ i (pair_later x y j e m) = let r = pair_tops y j m in (x ∷ r.0, higher x i (Port y (suc j)) r.0 e r.1)

  pub free_tops : (k : ℕ) (x : A) (i : ℕ) → WaitsAt n k x → (ys : List A) × Tops (Port x (suc i)) ys
  free_tops k _ i (free x e) = (x ∷ [], higher x i (Free k) [] e (at_free k))
  free_tops k _ i (free_later x y j e m) = let r = free_tops k y j m in (x ∷ r.0, higher x i (Port y (suc j)) r.0 e r.1)

  -- a climb to the end
  top_of : (p : Point A) (ys : List A) → Tops p ys → ((k : ℕ) × Climb p (length ys) (Free k)) ⊎ ((z : A) × Climb p (length ys) (Port z 0))
  top_of _ _ (at_free k) = inl (k, refl)
  top_of _ _ (at_pair y) = inr (y, refl)
  top_of _ _ (higher y i q ys e t) = elim (top_of q ys t) [
    | inl r ↦ inl (r.0, climb_first (length ys) y i q (Free r.0) e r.1)
    | inr r ↦ inr (r.0, climb_first (length ys) y i q (Port r.0 0) e r.1)
  ]

module _ {A : Type 0} (sig : Signature) (n : Net A) (net : IsNet sig n) where
  pub tops_live : (p : Point A) (ys : List A) → Tops n p ys → (y : A) → IsAmong y ys → IsSome (n.symbol y)
  tops_live _ _ (at_free k) y h = absurd h
  tops_live _ _ (at_pair z) y h = absurd h
  tops_live _ _ (higher z i q ys e t) y (inr h) = tops_live q ys t y h
  tops_live _ _ (higher z i q ys e t) y (inl h) =
      let s = symbol_of sig (n.symbol z) 0 (net.points (Port z 0) q e) in
      subst (λ y. IsSome (n.symbol y)) h (is_some (n.symbol z) s.0 s.1)

  climb_point : (l : ℕ) (p q : Point A) → IsPoint sig n p → Climb n p l q → IsPoint sig n q
  climb_point zero p q h c = subst (IsPoint sig n) c h
  climb_point (suc l) p q h c = net.points q (Port c.0 0) (net.back (Port c.0 0) q c.3)

  in_arity : (y : A) (i : ℕ) (o : Option ℕ) → IsSomeAnd o (λ s. suc i ≤ sig.arity s) → i < arity_of sig o
  in_arity y i None h = absurd h
  in_arity y i (Some s) h = let k : suc i ≤ sig.arity s = h in omega arith

  -- a part of the text, and the point to which it belongs
  module _ (p : Point A) (ys : List A) (tops : Tops n p ys) (point : IsPoint sig n p) (T : TextPart A) (bytes : (bs : List ℕ) → Bytes bs ≢ T) (heads : (y : A) (q : Point A) → n.partner q ≡ Some (Port y 0) → Head y ≡ T → q ≡ p) (variables : (q v : Point A) → Variable q v ≡ T → q ≡ p) where
    nowhere_at : (agent : A → List (TextPart A)) (q : Point A) (o : Option (Point A)) → n.partner q ≡ o → ((y : A) → n.partner q ≡ Some (Port y 0) → StandsTimes 0 T (agent y)) → q ≢ p → StandsTimes 0 T (term_at agent q o)
    nowhere_at agent q None e h differ = tt
    nowhere_at agent q (Some (Port y zero)) e h differ = h y e
    nowhere_at agent q (Some (Port y (suc i))) e h differ = ((λ w. differ (variables q (Port y (suc i)) w)), tt)
    nowhere_at agent q (Some (Free k)) e h differ = ((λ w. differ (variables q (Free k) w)), tt)

    nowhere_listed : (s : Point A → List (TextPart A)) (y : A) → ((i : ℕ) → StandsTimes 0 T (s (Port y (suc i)))) → (i k : ℕ) → StandsTimes 0 T (listed s y (suc i) k)
    nowhere_listed s y h i zero = tt
    nowhere_listed s y h i (suc zero) = h i
    nowhere_listed s y h i (suc (suc k)) = nowhere_join T (s (Port y (suc i))) (Bytes (44 ∷ 32 ∷ []) ∷ listed s y (suc (suc i)) (suc k)) (h i) (bytes (44 ∷ 32 ∷ []), nowhere_listed s y h (suc i) (suc k))

    nowhere_bracketed : (k : ℕ) (ps : List (TextPart A)) → StandsTimes 0 T ps → StandsTimes 0 T (bracketed k ps)
    nowhere_bracketed zero ps h = tt
    nowhere_bracketed (suc k) ps h = (bytes (40 ∷ []), nowhere_join T ps (Bytes (41 ∷ []) ∷ []) h (bytes (41 ∷ []), tt))

    pub nowhere_below : (s : Point A → List (TextPart A)) (y : A) → ((i : ℕ) → StandsTimes 0 T (s (Port y (suc i)))) → StandsTimes 0 T (bracketed (arity_of sig (n.symbol y)) (listed s y 1 (arity_of sig (n.symbol y))))
    nowhere_below s y h = nowhere_bracketed (arity_of sig (n.symbol y)) (listed s y 1 (arity_of sig (n.symbol y))) (nowhere_listed s y h 0 (arity_of sig (n.symbol y)))

    -- it is in no term of a point to which it doesn't climb
    pub nowhere : (d : ℕ) (q : Point A) → ((l : ℕ) → Climb n p l q → ⊥) → StandsTimes 0 T (term sig n d q)
    nowhere zero q h = nowhere_at (λ y. []) q (n.partner q) refl (λ y e. tt) (λ e. h 0 (sym e))
    nowhere (suc d) q h = nowhere_at (agent_term sig n (term sig n d)) q (n.partner q) refl
        (λ y e. (
          (λ w. h 0 (sym (heads y q e w))),
          nowhere_below (term sig n d) y (λ i. nowhere d (Port y (suc i)) (λ l c. h (suc l) (y, i, c, net.back q (Port y 0) e))),
        )) (λ e. h 0 (sym e))

    once_listed : (s : Point A → List (TextPart A)) (y : A) (i : ℕ) → StandsTimes 1 T (s (Port y (suc i))) → ((j : ℕ) → j ≢ i → StandsTimes 0 T (s (Port y (suc j)))) → (j k : ℕ) → j ≤ i → i < j + k → StandsTimes 1 T (listed s y (suc j) k)
    once_listed s y i h others j zero a b = absurd (omega arith)
    once_listed s y i h others j (suc zero) a b = let e : i ≡ j = omega arith in subst (λ j. StandsTimes 1 T (s (Port y (suc j)))) e h
    once_listed s y i h others j (suc (suc k)) a b = go (ℕ_discrete j i) (λ c. once_listed s y i h others (suc j) (suc k) c (omega arith))
      where
        go : Dec (j ≡ i) → (suc j ≤ i → StandsTimes 1 T (listed s y (suc (suc j)) (suc k))) → StandsTimes 1 T (s (Port y (suc j)) ++ (Bytes (44 ∷ 32 ∷ []) ∷ listed s y (suc (suc j)) (suc k)))
        go (yes e) again = once_left T (s (Port y (suc j))) (Bytes (44 ∷ 32 ∷ []) ∷ listed s y (suc (suc j)) (suc k)) (subst (λ j. StandsTimes 1 T (s (Port y (suc j)))) (sym e) h) (bytes (44 ∷ 32 ∷ []), later (suc j) (suc k) (omega arith))
          where
            later : (m k : ℕ) → i < m → StandsTimes 0 T (listed s y (suc m) k)
            later m zero l = tt
            later m (suc zero) l = others m (λ w. (let b : ⊥ = omega arith in b))
            later m (suc (suc k)) l = nowhere_join T (s (Port y (suc m))) (Bytes (44 ∷ 32 ∷ []) ∷ listed s y (suc (suc m)) (suc k)) (others m (λ w. (let b : ⊥ = omega arith in b))) (bytes (44 ∷ 32 ∷ []), later (suc m) (suc k) (omega arith))
        go (no e) again = once_right T (s (Port y (suc j))) (Bytes (44 ∷ 32 ∷ []) ∷ listed s y (suc (suc j)) (suc k)) (others j e) (inr (bytes (44 ∷ 32 ∷ []), again (omega arith)))

    once_bracketed : (k : ℕ) (qs : List (TextPart A)) → 0 < k → StandsTimes 1 T qs → StandsTimes 1 T (bracketed k qs)
    once_bracketed zero qs l h = absurd (omega arith)
    once_bracketed (suc k) qs l h = inr (bytes (40 ∷ []), once_left T qs (Bytes (41 ∷ []) ∷ []) h (bytes (41 ∷ []), tt))

    module _ (b : ℕ) (shown : (d : ℕ) → b ≤ d → StandsTimes 1 T (term sig n d p)) where
      -- it occurs once in the term of each point to which it climbs, if that is deep enough
      pub once : (l : ℕ) (q : Point A) (d : ℕ) → Climb n p l q → l + b ≤ d → StandsTimes 1 T (term sig n d q)
      once zero q d c h = subst (λ q. StandsTimes 1 T (term sig n d q)) c (shown d (omega arith))
      once (suc l) q zero c h = absurd (omega arith)
      once (suc l) q (suc d) c h =
          let y = c.0 in
          let i = c.1 in
          let k = arity_of sig (n.symbol y) in
          let back : n.partner q ≡ Some (Port y 0) = net.back (Port y 0) q c.3 in
          let within : i < k = in_arity y i (n.symbol y) (climb_point l p (Port y (suc i)) point c.2) in
          let inside : StandsTimes 1 T (term sig n d (Port y (suc i))) = once l (Port y (suc i)) d c.2 (omega arith) in
          subst (λ o. StandsTimes 1 T (term_at (agent_term sig n (term sig n d)) q o)) (sym back) (inr (
            (λ w. no_return n l p ys tops (subst (λ r. Climb n p (suc l) r) (heads y q back w) c)),
            once_bracketed k (listed (term sig n d) y 1 k) (omega arith)
                (once_listed (term sig n d) y i inside (λ j differ. nowhere d (Port y (suc j)) (λ m c'. differ (one_port n m l p ys y j i q c.3 tops c' c.2))) 0 k (omega arith) (omega arith)),
          ))

      module _ (words : Words) (d : ℕ) (deep : length ys + b ≤ d) (queue : List (A × A)) (is_queue : IsQueue n queue) (near : (z : A) → p ≡ Port z 0 → (y : A) × (n.partner (Port z 0) ≡ Some (Port y 0))) where
        -- it climbs to no other end
        elsewhere : (r q : Point A) → Climb n p (length ys) r → ((zs : List A) → Tops n q zs → zs ≡ []) → q ≢ r → (l : ℕ) → Climb n p l q → ⊥
        elsewhere r q c end differ l c' =
            let t = climb_tops n l p q ys c' tops in
            let none : length t.0 ≡ 0 = ap length (end t.0 t.1) in
            let a : length ys ≡ l + length t.0 = t.2 in
            let times : l ≡ length ys = omega arith in
            differ (climb_one n (length ys) p q r (subst (λ l. Climb n p l q) times c') c)

        free_end : (k : ℕ) (zs : List A) → Tops n (Free k) zs → zs ≡ []
        free_end k zs t = tops_free n (Free k) zs k t refl

        pair_end : (z : A) (zs : List A) → Tops n (Port z 0) zs → zs ≡ []
        pair_end z zs t = tops_root n (Port z 0) zs t (λ h. h)

        free_nowhere : (j more : ℕ) → ((i : ℕ) → j ≤ i → StandsTimes 0 T (term sig n d (Free i))) → StandsTimes 0 T (free_lines sig words n d j more)
        free_nowhere j zero h = tt
        free_nowhere j (suc more) h =
            (bytes (words.free j ++ 32 ∷ 61 ∷ 32 ∷ []), nowhere_join T (term sig n d (Free j)) (Bytes (10 ∷ []) ∷ free_lines sig words n d (suc j) more) (h j (omega arith)) (bytes (10 ∷ []), free_nowhere (suc j) more (λ i l. h i (omega arith))))

        free_once : (k : ℕ) → StandsTimes 1 T (term sig n d (Free k)) → ((i : ℕ) → i ≢ k → StandsTimes 0 T (term sig n d (Free i))) → (j more : ℕ) → j ≤ k → k < j + more → StandsTimes 1 T (free_lines sig words n d j more)
        free_once k h others j zero a c = absurd (omega arith)
        free_once k h others j (suc more) a c = inr (bytes (words.free j ++ 32 ∷ 61 ∷ 32 ∷ []), go (ℕ_discrete j k) (λ e. free_once k h others (suc j) more e (omega arith)))
          where
            go : Dec (j ≡ k) → (suc j ≤ k → StandsTimes 1 T (free_lines sig words n d (suc j) more)) → StandsTimes 1 T (term sig n d (Free j) ++ (Bytes (10 ∷ []) ∷ free_lines sig words n d (suc j) more))
            go (yes e) again = once_left T (term sig n d (Free j)) (Bytes (10 ∷ []) ∷ free_lines sig words n d (suc j) more) (subst (λ j. StandsTimes 1 T (term sig n d (Free j))) (sym e) h)
                (bytes (10 ∷ []), free_nowhere (suc j) more (λ i l. others i (λ w. (let b : ⊥ = omega arith in b))))
            go (no e) again = once_right T (term sig n d (Free j)) (Bytes (10 ∷ []) ∷ free_lines sig words n d (suc j) more) (others j e) (inr (bytes (10 ∷ []), again (omega arith)))

        -- an agent of an active pair is the term at the other one's principal port
        pair_term : (x y : A) → n.partner (Port y 0) ≡ Some (Port x 0) → term sig n (suc d) (Port y 0) ≡ agent_term sig n (term sig n d) x
        pair_term x y e = ap (term_at (agent_term sig n (term sig n d)) (Port y 0)) e

        pair_nowhere : (qs : List (A × A)) → AllByRecursion (λ q. n.partner (Port q.0 0) ≡ Some (Port q.1 0)) qs → ((z : A) → IsAmong z (agents_of qs) → StandsTimes 0 T (term sig n (suc d) (Port z 0))) → StandsTimes 0 T (pair_lines sig n d qs)
        pair_nowhere [] active h = tt
        pair_nowhere (q ∷ qs) active h =
            let one = subst (StandsTimes 0 T) (pair_term q.0 q.1 (net.back (Port q.0 0) (Port q.1 0) active.0)) (h q.1 (inr (inl refl))) in
            let two = subst (StandsTimes 0 T) (pair_term q.1 q.0 active.0) (h q.0 (inl refl)) in
            nowhere_join T (agent_term sig n (term sig n d) q.0) (Bytes (32 ∷ 126 ∷ 32 ∷ []) ∷ (agent_term sig n (term sig n d) q.1 ++ (Bytes (10 ∷ []) ∷ pair_lines sig n d qs))) one
            (bytes (32 ∷ 126 ∷ 32 ∷ []), nowhere_join T (agent_term sig n (term sig n d) q.1) (Bytes (10 ∷ []) ∷ pair_lines sig n d qs) two (bytes (10 ∷ []), pair_nowhere qs active.1 (λ z a. h z (inr (inr a)))))

        pair_once : (z : A) → StandsTimes 1 T (term sig n (suc d) (Port z 0)) → ((w : A) → w ≢ z → StandsTimes 0 T (term sig n (suc d) (Port w 0))) → (qs : List (A × A)) → AllByRecursion (λ q. n.partner (Port q.0 0) ≡ Some (Port q.1 0)) qs → AreDifferent (agents_of qs) → IsAmong z (agents_of qs) → StandsTimes 1 T (pair_lines sig n d qs)
        pair_once z h others [] active different among = absurd among
        pair_once z h others (q ∷ qs) active different among =
            go among (λ a. pair_once z h others qs active.1 different.1.1 a)
          where
            first : List (TextPart A)
            first = agent_term sig n (term sig n d) q.0

            second : List (TextPart A)
            second = agent_term sig n (term sig n d) q.1

            to_first : term sig n (suc d) (Port q.1 0) ≡ agent_term sig n (term sig n d) q.0
            to_first = pair_term q.0 q.1 (net.back (Port q.0 0) (Port q.1 0) active.0)

            to_second : term sig n (suc d) (Port q.0 0) ≡ agent_term sig n (term sig n d) q.1
            to_second = pair_term q.1 q.0 active.0

            rest_nowhere : (z ≡ q.0) ⊎ (z ≡ q.1) → StandsTimes 0 T (pair_lines sig n d qs)
            rest_nowhere (inl e) = pair_nowhere qs active.1 (λ w a. others w (λ f. among_all (λ r. q.0 ≢ r) (q.1 ∷ agents_of qs) w different.0 (inr a) (sym e ∙ sym f)))
            rest_nowhere (inr e) = pair_nowhere qs active.1 (λ w a. others w (λ f. among_all (λ r. q.1 ≢ r) (agents_of qs) w different.1.0 a (sym e ∙ sym f)))

            join : StandsTimes 0 T (agent_term sig n (term sig n d) q.0) → StandsTimes 1 T (agent_term sig n (term sig n d) q.1 ++ (Bytes (10 ∷ []) ∷ pair_lines sig n d qs)) → StandsTimes 1 T (pair_lines sig n d (q ∷ qs))
            join a h = once_right T (agent_term sig n (term sig n d) q.0) (Bytes (32 ∷ 126 ∷ 32 ∷ []) ∷ (agent_term sig n (term sig n d) q.1 ++ (Bytes (10 ∷ []) ∷ pair_lines sig n d qs))) a (inr (bytes (32 ∷ 126 ∷ 32 ∷ []), h))

            go : (q.0 ≡ z) ⊎ ((q.1 ≡ z) ⊎ IsAmong z (agents_of qs)) → (IsAmong z (agents_of qs) → StandsTimes 1 T (pair_lines sig n d qs)) → StandsTimes 1 T (pair_lines sig n d (q ∷ qs))
            go (inl e) again =
                join (subst (StandsTimes 0 T) to_first (others q.1 (λ f. different.0.0 (e ∙ sym f))))
                (once_left T (agent_term sig n (term sig n d) q.1) (Bytes (10 ∷ []) ∷ pair_lines sig n d qs) (subst (StandsTimes 1 T) to_second (subst (λ w. StandsTimes 1 T (term sig n (suc d) (Port w 0))) (sym e) h)) (bytes (10 ∷ []), rest_nowhere (inl (sym e))))
            go (inr (inl e)) again =
                once_left T (agent_term sig n (term sig n d) q.0) (Bytes (32 ∷ 126 ∷ 32 ∷ []) ∷ (agent_term sig n (term sig n d) q.1 ++ (Bytes (10 ∷ []) ∷ pair_lines sig n d qs)))
                (subst (StandsTimes 1 T) to_first (subst (λ w. StandsTimes 1 T (term sig n (suc d) (Port w 0))) (sym e) h)) (
                  bytes (32 ∷ 126 ∷ 32 ∷ []),
                  nowhere_join T (agent_term sig n (term sig n d) q.1) (Bytes (10 ∷ []) ∷ pair_lines sig n d qs)
                      (subst (StandsTimes 0 T) to_second (others q.0 (λ f. different.0.0 (f ∙ sym e)))) (bytes (10 ∷ []), rest_nowhere (inr (sym e))),
                )
            go (inr (inr a)) again =
                join (subst (StandsTimes 0 T) to_first (others q.1 (λ f. among_all (λ r. q.1 ≢ r) (agents_of qs) z different.1.0 a f)))
                (once_right T (agent_term sig n (term sig n d) q.1) (Bytes (10 ∷ []) ∷ pair_lines sig n d qs)
                (subst (StandsTimes 0 T) to_second (others q.0 (λ f. among_all (λ r. q.0 ≢ r) (q.1 ∷ agents_of qs) z different.0 (inr a) f)))
                (inr (bytes (10 ∷ []), again a)))

        -- the active pair at whose agent it ends
        last_pair : (l : ℕ) (z : A) → Climb n p l (Port z 0) → (y : A) × (n.partner (Port z 0) ≡ Some (Port y 0))
        last_pair zero z c = near z c
        last_pair (suc l) z c = (c.0, net.back (Port c.0 0) (Port z 0) c.3)

        pub holds : StandsTimes 1 T (text_parts sig words n d queue)
        holds = elim (top_of n p ys tops) [
          | inl r ↦ (
              let k = r.0 in
              let inside : k < length n.free = climb_point (length ys) p (Free k) point r.1 in
              let other : (i : ℕ) → i ≢ k → StandsTimes 0 T (term sig n d (Free i)) = λ i differ. nowhere d (Free i) (elsewhere (Free k) (Free i) r.1 (free_end i) (λ e. (let w : i ≡ k = cc in differ w))) in
              let pairs : (z : A) → StandsTimes 0 T (term sig n (suc d) (Port z 0)) = λ z. nowhere (suc d) (Port z 0) (elsewhere (Free k) (Port z 0) r.1 (pair_end z) (λ e. (let w : Port z 0 ≡ Free k = e in cc))) in
              once_left T (free_lines sig words n d 0 (length n.free)) (pair_lines sig n d queue)
              (free_once k (once (length ys) (Free k) d r.1 deep) other 0 (length n.free) (omega arith) (omega arith))
              (pair_nowhere queue is_queue.active (λ z a. pairs z))
              )
          | inr r ↦ (
              let z = r.0 in
              let y = last_pair (length ys) z r.1 in
              let free : (i : ℕ) → StandsTimes 0 T (term sig n d (Free i)) = λ i. nowhere d (Free i) (elsewhere (Port z 0) (Free i) r.1 (free_end i) (λ e. (let w : Free i ≡ Port z 0 = e in cc))) in
              let others : (w : A) → w ≢ z → StandsTimes 0 T (term sig n (suc d) (Port w 0)) = λ w differ. nowhere (suc d) (Port w 0) (elsewhere (Port z 0) (Port w 0) r.1 (pair_end w) (λ e. differ (port_agent w z 0 0 e))) in
              once_right T (free_lines sig words n d 0 (length n.free)) (pair_lines sig n d queue)
              (free_nowhere 0 (length n.free) (λ i l. free i))
              (pair_once z (once (length ys) (Port z 0) (suc d) r.1 (omega arith)) others queue is_queue.active is_queue.once (is_queue.all z y.0 y.1))
              )
        ]
