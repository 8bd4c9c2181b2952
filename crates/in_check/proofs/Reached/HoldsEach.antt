-- The text of a net that is reached holds each agent and each variable.
use Rattle.std.proofs.Common.{◌≡◌, ◌≢◌, ◌⊎◌, ◌≤◌, ℕ, nat_eq, zero, suc, Option, Some, None, IsSome, IsSomeAnd, List, [], ◌∷◌, length, refl, sym, subst, ap, inl, inr, ◌∙◌, arith}
use Rattle.in_net.specs.Nets.{Point, Port, Free, Signature, Net, IsPoint, IsNet}
use Rattle.in_interaction.specs.Ahead.{MeetsPair, WaitsAt}
use Rattle.std.proofs.lemmas.Option.{same_Some}
use Rattle.in_interaction.proofs.Public.{has_value, few}
use Rattle.in_check.specs.Systems.{System}
use Rattle.in_check.specs.NetText.{Words, TextPart, Bytes, Head, Variable, agent_term, term_at, term, text_parts, AreAgents, StandsTimes, IsQueue, IsAuxiliary}
use Rattle.in_check.specs.Promises.{HoldsAll, LeadsOn}
use Rattle.in_check.proofs.Reached.SameText.{nat_test}
use Rattle.in_check.proofs.Reached.Others.{pieces_of}
use Rattle.in_check.proofs.Reached.Numbers.{number_twice, positive, one_wire}
use Rattle.in_check.proofs.Reached.Holds.{Tops, at_free, at_pair, higher, pair_tops, free_tops, tops_different, tops_live, no_return, nowhere, nowhere_below, holds}

-- the agents above a point, which differ
module _ {A : Type 0} (sig : Signature) (n : Net A) (net : IsNet sig n) (leads : (x : A) → IsSome (n.symbol x) → MeetsPair n x ⊎ ((k : ℕ) × WaitsAt n k x)) where
  pub tops_of : (p : Point A) → IsPoint sig n p → (ys : List A) × Tops n p ys
  tops_of (Free k) h = ([], at_free k)
  tops_of (Port y zero) h = ([], at_pair y)
  tops_of (Port y (suc i)) h = elim (leads y (live (n.symbol y) h)) [
    | inl m ↦ pair_tops n y i m
    | inr w ↦ free_tops n w.0 y i w.1
  ]
    where
      live : (o : Option ℕ) → IsSomeAnd o (λ s. suc i ≤ sig.arity s) → IsSome o
      live None h = absurd h
      live (Some s) h = refl

pub few_tops : {A : Type 0} (sig : Signature) (n : Net A) → IsNet sig n → (xs : List A) → AreAgents n xs → (p : Point A) (ys : List A) → Tops n p ys → length ys ≤ length xs
few_tops sig n net xs agents p ys tops = few ys xs (tops_different n p ys tops) (λ y a. (agents.all y).0 (tops_live sig n net p ys tops y a))

module _ {A : Type 0} (sig : Signature) (n : Net A) (net : IsNet sig n) (leads : (x : A) → IsSome (n.symbol x) → MeetsPair n x ⊎ ((k : ℕ) × WaitsAt n k x)) (words : Words) (xs : List A) (agents : AreAgents n xs) (queue : List (A × A)) (is_queue : IsQueue n queue) where
  -- a wire that leads to an auxiliary port or a free end is one variable
  led : (u : Point A) (s : A → List (TextPart A)) (w : Point A) → IsAuxiliary w → StandsTimes 1 (Variable u w) (term_at s u (Some w))
  led u s (Port y zero) h = absurd h
  led u s (Port y (suc i)) h = inl (refl, tt)
  led u s (Free k) h = inl (refl, tt)

  pub variable_once : (u v : Point A) → n.partner u ≡ Some v → IsAuxiliary u → IsAuxiliary v → StandsTimes 1 (Variable u v) (text_parts sig words n (length xs) queue)
  variable_once u v e aux_u aux_v =
      let t = tops_of sig n net leads u (net.points u v e) in
      let few_above : length t.0 ≤ length xs = few_tops sig n net xs agents u t.0 t.1 in
      holds sig n net u t.0 t.1 (net.points u v e) (Variable u v) (λ bs w. cc) (λ y q w f. cc) (λ q w f. (let g : Variable q w ≡ Variable u v = f in cc)) 0
      (λ d h. shown d v e aux_v) words (length xs) (omega arith) queue is_queue (λ z f. absurd (subst IsAuxiliary f aux_u))
    where
      shown : (d : ℕ) (w : Point A) → n.partner u ≡ Some w → IsAuxiliary w → StandsTimes 1 (Variable u w) (term sig n d u)
      shown zero w e h = subst (λ o. StandsTimes 1 (Variable u w) (term_at (λ y. []) u o)) (sym e) (led u (λ y. []) w h)
      shown (suc d) w e h = subst (λ o. StandsTimes 1 (Variable u w) (term_at (agent_term sig n (term sig n d)) u o)) (sym e) (led u (agent_term sig n (term sig n d)) w h)

  pub agent_once : (x : A) → IsSome (n.symbol x) → StandsTimes 1 (Head x) (text_parts sig words n (length xs) queue)
  agent_once x there =
      let s = has_value (n.symbol x) there in
      let point : IsPoint sig n (Port x 0) = subst (λ o. IsSomeAnd o (λ s. 0 ≤ sig.arity s)) (sym s.1) (omega arith) in
      let p = has_value (n.partner (Port x 0)) (net.joined (Port x 0) point) in
      let back : n.partner p.0 ≡ Some (Port x 0) = net.back (Port x 0) p.0 p.1 in
      let point_p = net.points p.0 (Port x 0) back in
      let t = tops_of sig n net leads p.0 point_p in
      let whole : Tops n (Port x 1) (x ∷ t.0) = higher x 0 p.0 t.0 p.1 t.1 in
      let few_above : length (x ∷ t.0) ≤ length xs = few_tops sig n net xs agents (Port x 1) (x ∷ t.0) whole in
      let bytes : (bs : List ℕ) → Bytes bs ≢ Head x = λ bs w. cc in
      let heads : (y : A) (q : Point A) → n.partner q ≡ Some (Port y 0) → Head y ≡ Head x → q ≡ p.0 = λ y q e w. (
      let same : y ≡ x = cc in
      same_Some q p.0 (sym (net.back q (Port y 0) e) ∙ ap (λ y. n.partner (Port y 0)) same ∙ p.1)
      ) in
      let variables : (q v : Point A) → Variable q v ≡ Head x → q ≡ p.0 = λ q v w. cc in
      holds sig n net p.0 t.0 t.1 point_p (Head x) bytes heads variables 1
      (λ d h. shown x p.0 t.0 t.1 point_p p.1 back bytes heads variables d h) words (length xs) (omega arith) queue is_queue (λ z f. (x, ap n.partner (sym f) ∙ back))
    where
      shown : (x : A) (p : Point A) (ys : List A) → Tops n p ys → IsPoint sig n p → n.partner (Port x 0) ≡ Some p → n.partner p ≡ Some (Port x 0) → ((bs : List ℕ) → Bytes bs ≢ Head x) → ((y : A) (q : Point A) → n.partner q ≡ Some (Port y 0) → Head y ≡ Head x → q ≡ p) → ((q v : Point A) → Variable q v ≡ Head x → q ≡ p) → (d : ℕ) → 1 ≤ d → StandsTimes 1 (Head x) (term sig n d p)
      shown x p ys tops point e back bytes heads variables zero h = absurd (omega arith)
      shown x p ys tops point e back bytes heads variables (suc d) h =
          subst (λ o. StandsTimes 1 (Head x) (term_at (agent_term sig n (term sig n d)) p o)) (sym back)
          (inl (refl, nowhere_below sig n net p ys tops point (Head x) bytes heads variables (term sig n d) x (λ i. nowhere sig n net p ys tops point (Head x) bytes heads variables d (Port x (suc i)) (λ l c. no_return n l p ys tops (x, i, c, e)))))

pub holds_all : (p : System) (n : Net ℕ) → IsNet p.symbols n → LeadsOn n → (words : Words) (xs : List ℕ) → AreAgents n xs → (queue : List (ℕ × ℕ)) → IsQueue n queue → HoldsAll n (text_parts p.symbols words n (length xs) queue)
holds_all p n net leads words xs agents queue is_queue =
    let parts = text_parts p.symbols words n (length xs) queue in
    let of = pieces_of p.symbols n net words (length xs) queue is_queue in
    let each = variable_once p.symbols n net leads words xs agents queue is_queue in
    record {
      agents = agent_once p.symbols n net leads words xs agents queue is_queue;
      variables = each;
      others = of;
      twice = λ k among. number_twice nat_eq nat_test p.symbols n net parts of [] tt (λ u v e a b m. each u v e a b) k (positive nat_eq nat_test parts [] k among) among;
      one_wire = λ k u v a b. one_wire nat_eq nat_test n p.symbols net parts of k u v a b;
    }
