-- The symbols of pairs that were read ahead stay while pairs before them interact.
use Rattle.std.proofs.Common.{◌≡◌, ◌⊎◌, inl, inr, ◌<◌, ◌+◌, ℕ, suc, Some, List, [], ◌∷◌, ◌++◌, ◌≢◌, map, remove, set, slice_get, sym, ap, subst, ◌∙◌, arith}
use Rattle.std.proofs.lemmas.Bool.{cases_eq}
use Rattle.std.proofs.lemmas.List.{length-set}
use Rattle.std.proofs.lemmas.Option.{same_Some, slice_get_within}
use Rattle.in_base.proofs.Places.{kept_at, set_here, set_there}
use Rattle.in_syntax.specs.declared.symbol_no.SymbolNo.{SymbolNo}
use Rattle.in_net.specs.Parts.{symbol_in}
use Rattle.in_interaction.specs.Queues.{agents_at, both, numbers_of}
use Rattle.in_interaction.proofs.Public.{has_symbol}
use Rattle.in_reducer.specs.Machines.{MachineParts, parts_of}
use Rattle.in_reducer.specs.Reducers.{IsReducer}
use Rattle.in_reducer.specs.Same.{StepsUpToNumbers}
use Rattle.in_reducer.specs.Steps.{StepsAt}
use Rattle.in_reducer.specs.Taking.{AreAhead}
use Rattle.in_reducer.specs.Templates.{HasHeadsAt}
use Rattle.in_reducer.proofs.Pairs.Requeued.{other_pair}
use Rattle.in_reducer.proofs.Numbers.OfSame.{reducer_same}
use Rattle.in_reducer.proofs.Numbers.SameStep.{pair_moved}
use Rattle.in_reducer.proofs.Starts.Started.{symbol_moved}
use Rattle.in_reducer.proofs.Steps.StepsOn.{can_at, inside_at, net_at}

-- an element behind the first one moves to the place before
moved_up : {X : Type 0} (xs ys : List X) (i : ℕ) (x : X) → slice_get xs (suc i) ≡ Some x → slice_get (remove xs 0 ++ ys) i ≡ Some x
moved_up [] ys i x e = cc
moved_up (y ∷ xs) ys i x e = kept_at xs ys i x e

module _ (m n : MachineParts) (h : IsReducer m) (s : StepsAt m 0 n) where
  -- the agents of another pair keep their symbols
  pub symbols_stay : (i : ℕ) (q : ℕ × ℕ) (c d : SymbolNo) → slice_get m.queue (suc i) ≡ Some q → symbol_in (parts_of m) q.0 ≡ Some c → symbol_in (parts_of m) q.1 ≡ Some d
      → (symbol_in (parts_of n) q.0 ≡ Some c) × (symbol_in (parts_of n) q.1 ≡ Some d)
  symbols_stay i q c d at one two =
      let t = m.program.tables in
      let a = (agents_at s.pair).0 in
      let b = (agents_at s.pair).1 in
      let other = other_pair t (parts_of m) a b m.queue 0 (net_at m h) h.queue s.stands (suc i) q at (λ e. omega (arith, e)) in
      let can = can_at m n 0 h s in
      let inside = inside_at m n 0 h s in (
        has_symbol t (parts_of m) s.step.rule a b s.name (parts_of n) (net_at m h) inside can s.step.acts (agents_at q).0 c (inl (other.1, other.2, one)),
        has_symbol t (parts_of m) s.step.rule a b s.name (parts_of n) (net_at m h) inside can s.step.acts (agents_at q).1 d (inl (other.3, other.4, two)),
      )

  pub heads_stay : (i : ℕ) (x : SymbolNo × SymbolNo) → HasHeadsAt m (suc i) x → HasHeadsAt n i x
  heads_stay i x at =
      let symbols = symbols_stay i at.pair x.0 x.1 at.stands at.one at.two in
      record {
        pair = at.pair;
        stands = ap (λ (qs : List (ℕ × ℕ)). slice_get qs i) s.queue ∙ moved_up m.queue (map numbers_of s.made) i at.pair at.stands;
        one = symbols.0;
        two = symbols.1;
      }

-- .. also if the interaction is one up to numbers
pub heads_stay_same : (m n : MachineParts) → IsReducer m → StepsUpToNumbers m 0 n → (i : ℕ) (x : SymbolNo × SymbolNo) → HasHeadsAt m (suc i) x → HasHeadsAt n i x
heads_stay_same m n h (s, (f, same), step) i x at = heads_stay s n (reducer_same m s h f same) step i x (record {
  pair = both f at.pair;
  stands = pair_moved f m s same (suc i) at.pair at.stands;
  one = symbol_moved f (parts_of m) (parts_of s) same.net at.pair.0 x.0 at.one;
  two = symbol_moved f (parts_of m) (parts_of s) same.net at.pair.1 x.1 at.two;
})

-- ---- read ahead

-- the first pair interacts
pub goes_on : (m n : MachineParts) → IsReducer m → StepsUpToNumbers m 0 n → (read : List (SymbolNo × SymbolNo)) (next : ℕ) → AreAhead m read next → AreAhead n read (next + 1)
goes_on m n h s read next ahead = record {
  long = ahead.long;
  each = λ k x at. heads_stay_same m n h s k x (ahead.each (suc k) x (ap (slice_get read) (let z : next + suc k ≡ next + 1 + k = omega arith in z) ∙ at));
}

-- ---- one after another

-- a property of the first n elements, and of one more
pub each_set : {X : Type 0} (P : ℕ → X → Type 0) (xs : List X) (n : ℕ) (v : X) → ((k : ℕ) (x : X) → k < n → slice_get xs k ≡ Some x → P k x) → P n v → (k : ℕ) (x : X) → k < n + 1 → slice_get (set xs n v) k ≡ Some x → P k x
each_set {X} P xs n v each here k x low at = go (cases_eq k n)
  where
    go : (k ≡ n) ⊎ (k ≢ n) → P k x
    go (inl same) =
        let l = slice_get_within (set xs n v) k x at in
        let m = length-set xs n v in
        let stands : slice_get (set xs n v) n ≡ Some x = ap (slice_get (set xs n v)) (sym same) ∙ at in
        let is : v ≡ x = same_Some v x (sym (set_here xs n v (omega (arith, l, m, same))) ∙ stands) in
        subst (λ (i : ℕ). P i x) (sym same) (subst (P n) is here)
    go (inr other) = each k x (let z : k < n = omega (arith, low, other) in z) (sym (set_there xs n k v other) ∙ at)
