-- Parts that others have begun, and that come back.
use Rattle.std.proofs.Common.{◌≡◌, ◌≤◌, List, [], ◌∷◌, ◌++◌, length, All, refl, sym, ap, ◌∙◌, subst, arith}
use Rattle.std.specs.List.{AllZip}
use Rattle.std.proofs.lemmas.List.{append-nil, append_assoc, length-append, get_or_append_left, get_or_at, nil_from_length}
use Rattle.in_base.proofs.Options.{snoc_parts}
use Rattle.in_rounds.specs.declared.threads.Begun.{Begun}
use Rattle.in_rounds.specs.declared.threads.Begun.TheVariants.{There, Here}

-- the begun work on a part: a thread that returns this work's result of the part, or the result made here
abbrev pub IsBegun : {P W : Type 0} → (W → P → P → Type 0) → W → P → Begun P W → Type 0
IsBegun is_worked w p (There handle) = (handle.promise.work.value ≡ w) × (handle.promise.part.value ≡ p)
IsBegun is_worked w p (Here q) = is_worked w p q

-- the first of the first list goes with the last of the second, and so on
abbrev pub Mirrors : {P W : Type 0} → (W → P → P → Type 0) → W → List P → List (Begun P W) → Type 0
Mirrors is_worked w [] begun = begun ≡ []
Mirrors {P} {W} is_worked w (p ∷ ps) begun = (b : Begun P W) × (rest : List (Begun P W)) × (begun ≡ rest ++ b ∷ []) × IsBegun is_worked w p b × Mirrors is_worked w ps rest

-- of these parts the first have come back, and the others have begun
pub record Ends {P W : Type 0} (is_worked : W → P → P → Type 0) (w : W) (all got : List P) (begun : List (Begun P W)) : Type 0 where
  pub took : List P
  pub left : List P
  pub split : all ≡ took ++ left
  pub worked : AllZip (is_worked w) took got
  pub rest : Mirrors is_worked w left begun

-- ---- lists that are taken from their end

all_zip-push : {A B : Type 0} (R : A → B → Type 0) (xs : List A) (ys : List B) (x : A) (y : B) → AllZip R xs ys → R x y → AllZip R (xs ++ x ∷ []) (ys ++ y ∷ [])
all_zip-push R [] [] x y all one = (one, tt)
all_zip-push R [] (w ∷ ws) x y all one = absurd all
all_zip-push R (v ∷ vs) [] x y all one = absurd all
all_zip-push R (v ∷ vs) (w ∷ ws) x y all one = (all.0, all_zip-push R vs ws x y all.1 one)

pub last_of : {X : Type 0} (P : X → Type 0) (xs ys : List X) (x : X) → xs ≡ ys ++ x ∷ [] → All P xs → P x
last_of P xs ys x split all = subst P (get_or_at ys x [] x (length ys) refl) (subst (All P) split all (length ys) x (omega (arith, length-append ys (x ∷ []))))

pub all_but_last : {X : Type 0} (P : X → Type 0) (xs ys : List X) (x : X) → xs ≡ ys ++ x ∷ [] → All P xs → All P ys
all_but_last P xs ys x split all =
    let whole = subst (All P) split all in λ i d lt. subst P (get_or_append_left ys (x ∷ []) d i lt) (whole i d (omega (arith, length-append ys (x ∷ []))))

-- ---- parts that come back

module _ (P W : Type 0) (is_worked : W → P → P → Type 0) where
  pub mirrors_long : (w : W) (ps : List P) (bs : List (Begun P W)) → Mirrors is_worked w ps bs → length ps ≡ length bs
  mirrors_long w [] bs none = sym (ap length none)
  mirrors_long w (p ∷ ps) bs m = omega (arith, mirrors_long w ps m.1 m.4, ap length m.2, length-append m.1 (m.0 ∷ []))

  pub one_back : (w : W) (all got more : List P) (bs cs : List (Begun P W)) (b : Begun P W) (q : P) → bs ≡ cs ++ b ∷ [] → more ≡ got ++ q ∷ [] → ((p : P) → IsBegun is_worked w p b → is_worked w p q) → Ends is_worked w all got bs → Ends is_worked w all more cs
  one_back w all got more bs cs b q split pushed gives e = go e.left e.split e.rest
    where
      go : (left : List P) → all ≡ e.took ++ left → Mirrors is_worked w left bs → Ends is_worked w all more cs
      go [] whole none = absurd (omega (arith, ap length none, ap length split, length-append cs (b ∷ [])))
      go (p ∷ ps) whole m =
          let same = snoc_parts m.1 cs m.0 b (sym m.2 ∙ split) in
          record {
            took = e.took ++ p ∷ [];
            left = ps;
            split = whole ∙ sym (append_assoc e.took (p ∷ []) ps);
            worked = subst (AllZip (is_worked w) (e.took ++ p ∷ [])) (sym pushed) (all_zip-push (is_worked w) e.took got p q e.worked (gives p (subst (IsBegun is_worked w p) same.1 m.3)));
            rest = subst (Mirrors is_worked w ps) same.0 m.4;
          }

  pub none_back : (w : W) (all : List P) (bs : List (Begun P W)) → Mirrors is_worked w all bs → Ends is_worked w all [] bs
  none_back w all bs m = record { took = []; left = all; split = refl; worked = tt; rest = m }

  pub all_back : (w : W) (all got : List P) → Ends is_worked w all got [] → AllZip (is_worked w) all got
  all_back w all got e = go e.left e.split e.rest
    where
      go : (left : List P) → all ≡ e.took ++ left → Mirrors is_worked w left [] → AllZip (is_worked w) all got
      go [] whole none = subst (λ ps. AllZip (is_worked w) ps got) (sym (whole ∙ append-nil e.took)) e.worked
      go (p ∷ ps) whole m = absurd (omega (arith, ap length m.2, length-append m.1 (m.0 ∷ [])))

  pub ready_by : (is_ready : W → P → Type 0) (w v : W) (p q : P) → w ≡ v → p ≡ q → is_ready v q → is_ready w p
  ready_by is_ready w v p q e f is = subst (λ x. is_ready x p) (sym e) (subst (λ x. is_ready v x) (sym f) is)

  pub worked_by : (w v : W) (p p2 q : P) → w ≡ v → p ≡ p2 → is_worked w p q → is_worked v p2 q
  worked_by w v p p2 q e f is = subst (λ x. is_worked x p2 q) e (subst (λ x. is_worked w x q) f is)

  pub back_long : (w : W) (all rest back : List P) (bs : List (Begun P W)) → all ≡ rest ++ back → Mirrors is_worked w back bs → length bs ≤ length all
  back_long w all rest back bs split m = omega (arith, mirrors_long w back bs m, ap length split, length-append rest back)

  pub finish : (w : W) (mine own : P) (all rest back got done before : List P) (bs cs : List (Begun P W)) → all ≡ rest ++ back → length rest ≡ 0 → Mirrors is_worked w back bs →
      ((v : W) (ps : List P) → Mirrors is_worked v ps bs → Ends is_worked v ps got cs) → length cs ≡ 0 → is_worked w mine own → before ≡ own ∷ [] → done ≡ before ++ got → AllZip (is_worked w) (mine ∷ all) done
  finish w mine own all rest back got done before bs cs split none m ends empty own_is first list =
      let whole : all ≡ back = split ∙ ap (λ zs. zs ++ back) (nil_from_length rest none) in
      let end = subst (Ends is_worked w all got) (nil_from_length cs empty) (ends w all (subst (λ ps. Mirrors is_worked w ps bs) (sym whole) m)) in
      subst (AllZip (is_worked w) (mine ∷ all)) (sym (list ∙ ap (λ zs. zs ++ got) first)) (own_is, all_back w all got end)

pub some_back : {P : Type 0} (all rest back : List P) → all ≡ rest ++ back → length back ≤ length all
some_back all rest back split = omega (arith, ap length split, length-append rest back)
