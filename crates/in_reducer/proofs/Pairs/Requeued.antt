-- The queue after an interaction is one of the net after it.
use Rattle.std.proofs.Common.{◌≡◌, ◌≢◌, ◌⊎◌, inl, inr, ◌<◌, ◌+◌, ℕ, zero, suc, Option, Some, None, List, [], ◌∷◌, ◌++◌, length, map, remove, slice_get, refl, sym, ap, subst, ◌∙◌, arith}
use Rattle.std.specs.Prelude.{option_map}
use Rattle.std.proofs.lemmas.Option.{same_Some}
use Rattle.in_symbols.specs.Tables.{Tables}
use Rattle.in_syntax.specs.declared.symbol_no.SymbolNo.{SymbolNo}
use Rattle.in_net.specs.declared.nets.AgentNo.{AgentNo}
use Rattle.in_net.specs.declared.nets.Point.TheVariants as code
use Rattle.in_net.specs.ActivePairs.{IsActivePair}
use Rattle.in_interaction.specs.Interacting.{CanInteract, InteractsAs}
use Rattle.in_net.specs.Interactions.{Outer, Inner, InnerWire, IsNaming, redex_at}
use Rattle.in_net.specs.Nets.{Port, IsNet, net_of, signature_of}
use Rattle.in_net.specs.Parts.{Parts, symbol_in}
use Rattle.in_net.specs.Rules.{RuleParts}
use Rattle.in_base.proofs.Places.{kept_at, of_mapped, to_mapped}
use Rattle.in_check.proofs.Public.{AreOpposed, stands_anywhere}
use Rattle.in_interaction.specs.Made.{AreMadeOverEnds, IsOwn}
use Rattle.in_interaction.specs.OutcomeLaws.{IsOtherPair}
use Rattle.in_interaction.proofs.Public.{apart, back_in, kept_or_made, not_made, net_wire}
use Rattle.in_interaction.specs.Queues.{agents_at, numbers_of, both, IsQueueOf}
use Rattle.in_cells.proofs.Public.{past_first}

-- ---- lists

module _ {X : Type 0} where
  abbrev pub StandOnce : List X → Type 0
  StandOnce xs = (j k : ℕ) (x : X) → slice_get xs j ≡ Some x → slice_get xs k ≡ Some x → j ≡ k

  pub was_there : (xs : List X) (i k : ℕ) (x : X) → slice_get (remove xs i) k ≡ Some x → (j : ℕ) × (j ≢ i) × (slice_get xs j ≡ Some x)
  was_there [] zero k x e = cc
  was_there [] (suc i) k x e = cc
  was_there (y ∷ ys) zero k x e = (suc k, (λ f. (omega (arith, f))), e)
  was_there (y ∷ ys) (suc i) zero x e = (zero, (λ f. (omega (arith, f))), e)
  was_there (y ∷ ys) (suc i) (suc k) x e = let r = was_there ys i k x e in (suc r.0, (λ f. r.1 (omega (arith, f))), r.2)

  still_there : (xs : List X) (i k : ℕ) (x : X) → slice_get xs k ≡ Some x → k ≢ i → (j : ℕ) × (slice_get (remove xs i) j ≡ Some x)
  still_there [] i k x e ne = cc
  still_there (y ∷ ys) zero zero x e ne = absurd (ne refl)
  still_there (y ∷ ys) zero (suc k) x e ne = (k, e)
  still_there (y ∷ ys) (suc i) zero x e ne = (zero, e)
  still_there (y ∷ ys) (suc i) (suc k) x e ne = let r = still_there ys i k x e (λ f. ne (ap suc f)) in (suc r.0, r.1)

  remove_once : (xs : List X) (i : ℕ) → StandOnce xs → StandOnce (remove xs i)
  remove_once [] zero once j k x e f = cc
  remove_once [] (suc i) once j k x e f = cc
  remove_once (y ∷ ys) zero once j k x e f = let z : suc j ≡ suc k = once (suc j) (suc k) x e f in omega (arith, z)
  remove_once (y ∷ ys) (suc i) once zero zero x e f = refl
  remove_once (y ∷ ys) (suc i) once zero (suc k) x e f = let r = was_there ys i k x f in absurd (let z : 0 ≡ suc r.0 = once 0 (suc r.0) x e r.2 in omega (arith, z))
  remove_once (y ∷ ys) (suc i) once (suc j) zero x e f = let r = was_there ys i j x e in absurd (let z : suc r.0 ≡ 0 = once (suc r.0) 0 x r.2 f in omega (arith, z))
  remove_once (y ∷ ys) (suc i) once (suc j) (suc k) x e f = ap suc (remove_once ys i (λ j k x e f. (let z : suc j ≡ suc k = once (suc j) (suc k) x e f in omega (arith, z))) j k x e f)

  -- an element of two lists, one after the other
  pub in_part : (xs ys : List X) (k : ℕ) (x : X) → slice_get (xs ++ ys) k ≡ Some x → (slice_get xs k ≡ Some x) ⊎ ((j : ℕ) × (k ≡ length xs + j) × (slice_get ys j ≡ Some x))
  in_part [] ys k x e = inr (k, (let z : k ≡ 0 + k = omega arith in z), e)
  in_part (y ∷ zs) ys zero x e = inl e
  in_part (y ∷ zs) ys (suc k) x e = elim (in_part zs ys k x e) [ inl h ↦ inl h | inr h ↦ inr (h.0, (let a = h.1 in omega (arith, a)), h.2) ]

  append_once : (xs ys : List X) → StandOnce xs → StandOnce ys → ((j k : ℕ) (x : X) → slice_get xs j ≡ Some x → slice_get ys k ≡ Some x → ⊥) → StandOnce (xs ++ ys)
  append_once xs ys one two none j k x e f = go (in_part xs ys j x e) (in_part xs ys k x f)
    where
      go : (slice_get xs j ≡ Some x) ⊎ ((i : ℕ) × (j ≡ length xs + i) × (slice_get ys i ≡ Some x)) → (slice_get xs k ≡ Some x) ⊎ ((i : ℕ) × (k ≡ length xs + i) × (slice_get ys i ≡ Some x)) → j ≡ k
      go (inl a) (inl b) = one j k x a b
      go (inl a) (inr b) = absurd (none j b.0 x a b.2)
      go (inr a) (inl b) = absurd (none k a.0 x b a.2)
      go (inr a) (inr b) = let c = two a.0 b.0 x a.2 b.2 in let d = a.1 in let g = b.1 in omega (arith, c, d, g)

as_number : (n : Parts) (x : ℕ) (s : SymbolNo) → symbol_in n x ≡ Some s → (net_of n).symbol x ≡ Some s.0
as_number n x s e = ap (option_map (λ (s : SymbolNo). s.0)) e

-- ---- the other pairs of a queue

module _ (t : Tables) (n : Parts) (a b : AgentNo) (qs : List (ℕ × ℕ)) (i : ℕ) (net : IsNet (signature_of t) (net_of n)) (queue : IsQueueOf t n qs) (stands : slice_get qs i ≡ Some (a.0, b.0)) where
  pub other_pair : (k : ℕ) (q : ℕ × ℕ) → slice_get qs k ≡ Some q → k ≢ i → IsOtherPair t n a b (agents_at q)
  other_pair k q e ne = (h, (λ f. gone (inl f)), (λ f. gone (inr (inl f))), (λ f. gone (inr (inr (inl f)))), (λ f. gone (inr (inr (inr f)))))
    where
      h : IsActivePair t n (agents_at q)
      h = queue.pairs k q e

      gone : ((agents_at q).0 ≡ a) ⊎ ((agents_at q).0 ≡ b) ⊎ ((agents_at q).1 ≡ a) ⊎ ((agents_at q).1 ≡ b) → ⊥
      gone f =
          let same : agents_at q ≡ (a, b) = apart t n (back_in t n net) (agents_at q) (a, b) h (queue.pairs i (a.0, b.0) stands) f in
          ne (queue.once k i q e (stands ∙ ap (λ (z : AgentNo × AgentNo). Some (numbers_of z)) (sym same)))

-- ---- the queue after

-- an interaction of two agents that stand at a place of the queue
pub record InteractsInQueue (t : Tables) (n : Parts) (r : RuleParts) (a b : AgentNo) (name : ℕ → ℕ) (m : Parts) (made : List (AgentNo × AgentNo)) (own qs : List (ℕ × ℕ)) (i : ℕ) : Type 0 where
  -- the agents before are those of a net
  pub net : IsNet (signature_of t) (net_of n)
  -- so are those of the right member
  pub inside : IsNet (signature_of t) (net_of r.member)
  -- the two agents are an active pair of the rule's two symbols
  pub can : CanInteract t n r a b
  -- their interaction leads to the net after, with these names of the new agents
  pub act : InteractsAs t n r a b name m
  -- of each active pair of the right member, just one agent is a constructor
  pub opposed : AreOpposed t r.member
  -- these are the active pairs that are made over boundary ends
  pub are_made : AreMadeOverEnds t n r a b name made
  -- these are the right member's own active pairs
  pub inner : IsQueueOf t r.member own
  -- the queue has the active pairs of the net before
  pub queue : IsQueueOf t n qs
  -- the two agents stand at this place of it
  pub stands : slice_get qs i ≡ Some (a.0, b.0)

module _ (t : Tables) (n : Parts) (r : RuleParts) (a b : AgentNo) (name : ℕ → ℕ) (m : Parts) (made : List (AgentNo × AgentNo)) (own qs : List (ℕ × ℕ)) (i : ℕ) (given : InteractsInQueue t n r a b name m made own qs i) where
  open given use {net, inside, can, act, opposed, are_made, inner, queue, stands}

  abbrev Made : AgentNo × AgentNo → Type 0
  Made q = (k : ℕ) × (slice_get made k ≡ Some q)

  kept : (q : AgentNo × AgentNo) → (IsActivePair t m q → IsOtherPair t n a b q ⊎ Made q ⊎ IsOwn t r name q) × (IsOtherPair t n a b q ⊎ Made q ⊎ IsOwn t r name q → IsActivePair t m q)
  kept q = kept_or_made t n r a b name m made net inside can act are_made q

  naming : IsNaming (net_of n) (redex_at r a.0 b.0) name
  naming = act.step.naming

  -- the rest of the queue are pairs of other agents
  left : (k : ℕ) (q : ℕ × ℕ) → slice_get (remove qs i) k ≡ Some q → IsOtherPair t n a b (agents_at q)
  left k q e = let x = was_there qs i k q e in other_pair t n a b qs i net queue stands x.0 q x.2 x.1

  -- ---- the right member's own

  own_pair : (k : ℕ) (q : ℕ × ℕ) → slice_get own k ≡ Some q → IsOwn t r name (agents_at (both name q))
  own_pair k q e =
      let h = inner.pairs k q e in
      let x = (agents_at q).0 in
      let y = (agents_at q).1 in
      let z = agents_at (both name q) in
      record { inner = agents_at q; active = h.active; first = h.first; second = h.second; one = h.one; two = h.two; named = (refl, refl); order = stands_anywhere t r.member x y x y h.first h.second opposed h.active h.one h.two h.order z.0 z.1 }

  of_own : (q : AgentNo × AgentNo) → IsOwn t r name q → (k : ℕ) × (slice_get (map (both name) own) k ≡ Some (numbers_of q))
  of_own q h =
      let pair : IsActivePair t r.member h.inner =
      record { active = h.active; first = h.first; second = h.second; one = h.one; two = h.two; order = stands_anywhere t r.member h.inner.0 h.inner.1 q.0 q.1 h.first h.second opposed h.active h.one h.two h.order h.inner.0 h.inner.1 } in
      let k = inner.all h.inner pair in
      (k.0, to_mapped (both name) own k.0 (numbers_of h.inner) k.1 ∙ ap (λ (z : ℕ). Some (z, name h.inner.1.0)) h.named.0 ∙ ap (λ (z : ℕ). Some (q.0.0, z)) h.named.1)

  own_once : StandOnce (map (both name) own)
  own_once j k q e f =
      let x = of_mapped (both name) own j q e in
      let y = of_mapped (both name) own k q f in
      let g = inner.pairs j x.0 x.1 in
      let h = inner.pairs k y.0 y.1 in
      let named : both name x.0 ≡ both name y.0 = x.2 ∙ sym y.2 in
      let one : x.0.0 ≡ y.0.0 = naming.apart x.0.0 y.0.0 g.first.0 h.first.0 (as_number r.member x.0.0 g.first g.one) (as_number r.member y.0.0 h.first h.one) (ap (λ (z : ℕ × ℕ). z.0) named) in
      let two : x.0.1 ≡ y.0.1 = naming.apart x.0.1 y.0.1 g.second.0 h.second.0 (as_number r.member x.0.1 g.second g.two) (as_number r.member y.0.1 h.second h.two) (ap (λ (z : ℕ × ℕ). z.1) named) in
      let same : x.0 ≡ y.0 = ap (λ (z : ℕ). let w : ℕ × ℕ = (z, x.0.1) in w) one ∙ ap (λ (z : ℕ). let w : ℕ × ℕ = (y.0.0, z) in w) two in
      inner.once j k y.0 (x.1 ∙ ap (λ (z : ℕ × ℕ). Some z) same) y.1

  -- ---- each once

  made_once : StandOnce made
  made_once j k q e f = go (let o : (j ≡ k) ⊎ (j < k) ⊎ (k < j) = grind arith in o)
    where
      go : (j ≡ k) ⊎ (j < k) ⊎ (k < j) → j ≡ k
      go (inl same) = same
      go (inr (inl l)) = absurd (let h = are_made.each j q e in let z = are_made.rising j k h.0 h.0 q q l e f h.1 h.1 in omega (arith, z))
      go (inr (inr l)) = absurd (let h = are_made.each j q e in let z = are_made.rising k j h.0 h.0 q q l f e h.1 h.1 in omega (arith, z))

  mapped_once : StandOnce (map numbers_of made)
  mapped_once j k q e f =
      let x = of_mapped numbers_of made j q e in
      let y = of_mapped numbers_of made k q f in
      let same : x.0 ≡ y.0 = ap agents_at (x.2 ∙ sym y.2) in
      made_once j k x.0 x.1 (y.1 ∙ ap (λ (z : AgentNo × AgentNo). Some z) (sym same))

  made_at : (k : ℕ) (q : ℕ × ℕ) → slice_get (map numbers_of made) k ≡ Some q → Made (agents_at q)
  made_at k q f = let y = of_mapped numbers_of made k q f in (k, y.1 ∙ ap (λ (z : ℕ × ℕ). Some (agents_at z)) y.2)

  own_at : (k : ℕ) (q : ℕ × ℕ) → slice_get (map (both name) own) k ≡ Some q → IsOwn t r name (agents_at q)
  own_at k q f = let y = of_mapped (both name) own k q f in subst (λ (z : ℕ × ℕ). IsOwn t r name (agents_at z)) y.2 (own_pair k y.0 y.1)

  old_and_made : (j k : ℕ) (q : ℕ × ℕ) → slice_get (remove qs i) j ≡ Some q → slice_get (map numbers_of made) k ≡ Some q → ⊥
  old_and_made j k q e f =
      let y = made_at k q f in
      let h = are_made.each y.0 (agents_at q) y.1 in
      let g = left j q e in
      not_made t n r a b name m net inside can act Outer (agents_at q) (net_wire n (code.Port (agents_at q).0 0) (code.Port (agents_at q).1 0) g.0.active) h.0 h.1

  old_and_own : (j k : ℕ) (q : ℕ × ℕ) → slice_get (remove qs i) j ≡ Some q → slice_get (map (both name) own) k ≡ Some q → ⊥
  old_and_own j k q e f =
      let g = left j q e in
      let h = own_at k q f in
      let none : (net_of n).symbol q.0 ≡ None = ap (net_of n).symbol (sym h.named.0) ∙ naming.fresh h.inner.0.0 h.first.0 (as_number r.member h.inner.0.0 h.first h.one) in
      let z : ◌≡◌ {A = Option ℕ} None (Some g.0.first.0) = sym none ∙ as_number n q.0 g.0.first g.0.one in
      cc

  made_and_own : (j k : ℕ) (q : ℕ × ℕ) → slice_get (map numbers_of made) j ≡ Some q → slice_get (map (both name) own) k ≡ Some q → ⊥
  made_and_own j k q e f =
      let y = made_at j q e in
      let g = are_made.each y.0 (agents_at q) y.1 in
      let h = own_at k q f in
      let wire : InnerWire (signature_of t) (redex_at r a.0 b.0) name (Port q.0 0) (Port q.1 0) =
      (Port h.inner.0.0 0, Port h.inner.1.0 0, ap (λ (z : ℕ). Port z 0) h.named.0, ap (λ (z : ℕ). Port z 0) h.named.1, net_wire r.member (code.Port h.inner.0 0) (code.Port h.inner.1 0) h.active) in
      not_made t n r a b name m net inside can act Inner (agents_at q) wire g.0 g.1

  old_and_new : (j k : ℕ) (q : ℕ × ℕ) → slice_get (remove qs i) j ≡ Some q → slice_get (map numbers_of made ++ map (both name) own) k ≡ Some q → ⊥
  old_and_new j k q e f = elim (in_part (map numbers_of made) (map (both name) own) k q f) [ inl g ↦ old_and_made j k q e g | inr g ↦ old_and_own j g.0 q e g.2 ]

  pub is_queue_after : IsQueueOf t m (remove qs i ++ (map numbers_of made ++ map (both name) own))
  is_queue_after = record {
    pairs = pairs;
    all = all;
    once = append_once (remove qs i) (map numbers_of made ++ map (both name) own) (remove_once qs i queue.once) (append_once (map numbers_of made) (map (both name) own) mapped_once own_once made_and_own) old_and_new;
  }
    where
      new : (k : ℕ) (q : ℕ × ℕ) → slice_get (map numbers_of made ++ map (both name) own) k ≡ Some q → IsActivePair t m (agents_at q)
      new k q e = elim (in_part (map numbers_of made) (map (both name) own) k q e) [
        | inl f ↦ (kept (agents_at q)).1 (inr (inl (made_at k q f)))
        | inr f ↦ (kept (agents_at q)).1 (inr (inr (own_at f.0 q f.2)))
      ]

      pairs : (k : ℕ) (q : ℕ × ℕ) → slice_get (remove qs i ++ (map numbers_of made ++ map (both name) own)) k ≡ Some q → IsActivePair t m (agents_at q)
      pairs k q e = elim (in_part (remove qs i) (map numbers_of made ++ map (both name) own) k q e) [
        | inl f ↦ (kept (agents_at q)).1 (inl (left k q f))
        | inr f ↦ new f.0 q f.2
      ]

      all : (q : AgentNo × AgentNo) → IsActivePair t m q → (k : ℕ) × (slice_get (remove qs i ++ (map numbers_of made ++ map (both name) own)) k ≡ Some (numbers_of q))
      all q h = elim ((kept q).0 h) [
        | inl o ↦ (
            let k = queue.all q o.0 in
            let ne : k.0 ≢ i = λ f. o.1 (ap (λ (z : ℕ × ℕ). (agents_at z).0) (same_Some (numbers_of q) (a.0, b.0) (sym k.1 ∙ ap (slice_get qs) f ∙ stands))) in
            let j = still_there qs i k.0 (numbers_of q) k.1 ne in
            (j.0, kept_at (remove qs i) (map numbers_of made ++ map (both name) own) j.0 (numbers_of q) j.1)
            )
        | inr o ↦ elim o [
          | inl g ↦ (
            length (remove qs i) + g.0,
            past_first (remove qs i) (map numbers_of made ++ map (both name) own) g.0 ∙ kept_at (map numbers_of made) (map (both name) own) g.0 (numbers_of q) (to_mapped numbers_of made g.0 q g.1),
          )
          | inr g ↦ (
              let k = of_own q g in (
                length (remove qs i) + (length (map numbers_of made) + k.0),
                past_first (remove qs i) (map numbers_of made ++ map (both name) own) (length (map numbers_of made) + k.0) ∙ past_first (map numbers_of made) (map (both name) own) k.0 ∙ k.1,
              )
              )
        ]
      ]
