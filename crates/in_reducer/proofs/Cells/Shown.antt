-- The cells and the list of ends show the net that contracts see.
use Rattle.std.proofs.Common.{◌≡◌, ◌⊎◌, inl, inr, ◌<◌, ◌≤◌, ℕ, zero, suc, Option, Some, None, List, [], ◌∷◌, length, map, take, get_or, slice_get, refl, sym, ap, subst, ◌∙◌, arith}
use Rattle.std.specs.Prelude.{option_map, option_and_then, IsSome, IsSomeAnd}
use Rattle.std.specs.List.{AllByRecursion}
use Rattle.std.proofs.lemmas.Bool.{cases_lt}
use Rattle.std.proofs.lemmas.List.{length-map}
use Rattle.std.proofs.lemmas.Option.{same_Some}
use Rattle.in_arena.specs.Arenas.{ArenaView, state_at}
use Rattle.in_arena.specs.States.{State, Vacant, Leased, Live, word_of, end_at, places}
use Rattle.in_arena.specs.declared.content.End.{End}
use Rattle.in_arena.specs.declared.content.End.TheVariants as end
use Rattle.in_symbols.specs.declared.symbols.PortType.{PortType}
use Rattle.in_syntax.specs.declared.symbol_no.SymbolNo.{SymbolNo}
use Rattle.in_symbols.specs.Tables.{Tables, arity_of}
use Rattle.in_net.specs.declared.nets.Cell.{Cell}
use Rattle.in_net.specs.declared.nets.FreeEnd.{FreeEnd}
use Rattle.in_net.specs.Built.{IsOver, IsCellOver}
use Rattle.in_net.specs.Nets as nets
use Rattle.in_net.specs.Nets.{Port, Free, IsNet, IsPoint, net_of, signature_of}
use Rattle.in_net.specs.Parts.{Parts}
use Rattle.in_interaction.specs.Listing.{unlisted}
use Rattle.in_interaction.proofs.Public.{has_value}
use Rattle.in_cells.specs.Shown.{point_of, stands_at, IsShown}
use Rattle.in_cells.proofs.Public.{place_within}
use Rattle.in_reducer.specs.Machines.{point_at}
use Rattle.in_reducer.specs.Standing.{HaveTheirPlaces, agent_in, agents_in, leading_to}
use Rattle.in_cells.proofs.Public.{end_there as end_some, mapped_some}

-- ---- cells

same_point : (e : End) → nets.point_of (point_at e) ≡ point_of e
same_point (end.Cell c i) = refl
same_point (end.Free k) = refl

word_there : (xs : List State) (y : ℕ) → option_map (λ (s : SymbolNo). s.0) (option_map (λ (c : Cell). c.symbol) (option_and_then (λ (c : Option Cell). c) (slice_get (map agent_in xs) y))) ≡ word_of (get_or xs y Leased)
word_there [] y = refl
word_there (Vacant ∷ xs) zero = refl
word_there (Leased ∷ xs) zero = refl
word_there (Live w es ∷ xs) zero = refl
word_there (x ∷ xs) (suc y) = word_there xs y

end_of_list : (es : List End) (i : ℕ) → option_map nets.point_of (slice_get (map point_at es) i) ≡ option_map point_of (slice_get es i)
end_of_list [] i = refl
end_of_list (e ∷ es) zero = ap (λ (p : nets.Point ℕ). Some p) (same_point e)
end_of_list (e ∷ es) (suc i) = end_of_list es i

end_there : (xs : List State) (y i : ℕ) → option_map nets.point_of (option_and_then (λ (c : Cell). slice_get c.ends i) (option_and_then (λ (c : Option Cell). c) (slice_get (map agent_in xs) y))) ≡ option_map point_of (end_at (get_or xs y Leased) i)
end_there [] y i = refl
end_there (Vacant ∷ xs) zero i = refl
end_there (Leased ∷ xs) zero i = refl
end_there (Live w es ∷ xs) zero i = end_of_list es i
end_there (x ∷ xs) (suc y) i = end_there xs y i

-- ---- free ends

free_there : (fs : List FreeEnd) (es : List End) (k : ℕ) → option_map nets.point_of (option_map (λ (f : FreeEnd). f.end) (slice_get (leading_to fs es) k)) ≡ option_map point_of (slice_get (take (length fs) es) k)
free_there [] es k = refl
free_there (f ∷ fs) [] k = refl
free_there (f ∷ fs) (e ∷ es) zero = ap (λ (p : nets.Point ℕ). Some p) (same_point e)
free_there (f ∷ fs) (e ∷ es) (suc k) = free_there fs es k

pub same_kinds : (fs : List FreeEnd) (es : List End) → length fs ≤ length es → map (λ (f : FreeEnd). f.kind) (leading_to fs es) ≡ map (λ (f : FreeEnd). f.kind) fs
same_kinds [] es l = refl
same_kinds (f ∷ fs) [] l = absurd (omega (arith, l))
same_kinds (f ∷ fs) (e ∷ es) l = ap (λ (ks : List PortType). f.kind ∷ ks) (same_kinds fs es (omega (arith, l)))

pub same_names : (fs : List FreeEnd) (es : List End) → length fs ≤ length es → map (λ (f : FreeEnd). f.name) (leading_to fs es) ≡ map (λ (f : FreeEnd). f.name) fs
same_names [] es l = refl
same_names (f ∷ fs) [] l = absurd (omega (arith, l))
same_names (f ∷ fs) (e ∷ es) l = ap (λ (ns : List (List ℕ)). f.name ∷ ns) (same_names fs es (omega (arith, l)))

pub same_many : (fs : List FreeEnd) (es : List End) → length fs ≤ length es → length (leading_to fs es) ≡ length fs
same_many [] es l = refl
same_many (f ∷ fs) [] l = absurd (omega (arith, l))
same_many (f ∷ fs) (e ∷ es) l = ap suc (same_many fs es (omega (arith, l)))

-- ---- the net

-- the net that the cells of an arena and the first ends of a list are, the free ends having these names and types
abbrev pub seen : ArenaView → List FreeEnd → List End → Parts
seen a fs es = unlisted (agents_in a) (leading_to fs es)

module _ (a : ArenaView) (fs : List FreeEnd) (es : List End) where
  pub symbol_seen : (y : ℕ) → (net_of (seen a fs es)).symbol y ≡ word_of (state_at a y)
  symbol_seen y = word_there a.states y

  pub partner_seen : (u : nets.Point ℕ) → (net_of (seen a fs es)).partner u ≡ option_map point_of (stands_at a (take (length fs) es) u)
  partner_seen (Port y i) = end_there a.states y i
  partner_seen (Free k) = free_there fs es k

  pub is_shown : IsShown a (take (length fs) es) (net_of (seen a fs es))
  is_shown = record { agents = symbol_seen; wires = partner_seen }

-- ---- the places of an agent

length_by : (n m : ℕ) → ((i : ℕ) → i < n → i < m) → ((i : ℕ) → i < m → i < n) → n ≡ m
length_by n m f g = go (cases_lt n m) (cases_lt m n)
  where
    go : (n < m) ⊎ (m ≤ n) → (m < n) ⊎ (n ≤ m) → n ≡ m
    go (inl l) other = absurd (let z = g n l in omega (arith, z))
    go (inr l) (inl k) = absurd (let z = f m k in omega (arith, z))
    go (inr l) (inr k) = omega (arith, l, k)

-- an option isn't empty if its image isn't
unmapped : {X Y : Type 0} (f : X → Y) (o : Option X) → IsSome (option_map f o) → IsSome o
unmapped f (Some x) h = refl
unmapped f None h = h

module _ (t : Tables) (a : ArenaView) (fs : List FreeEnd) (es : List End) (net : IsNet (signature_of t) (net_of (seen a fs es))) (within : (y s : ℕ) → (net_of (seen a fs es)).symbol y ≡ Some s → s < length t.names) where
  pub places_seen : HaveTheirPlaces t a
  places_seen y s e = length_by (places (state_at a y)) (suc (arity_of t s)) forth back
    where
      symbol : (net_of (seen a fs es)).symbol y ≡ Some s
      symbol = symbol_seen a fs es y ∙ e

      forth : (i : ℕ) → i < places (state_at a y) → i < suc (arity_of t s)
      forth i l =
          let some : IsSome ((net_of (seen a fs es)).partner (Port y i)) = subst IsSome (sym (partner_seen a fs es (Port y i))) (mapped_some point_of (end_at (state_at a y) i) (end_some (state_at a y) i l)) in
          let v = has_value ((net_of (seen a fs es)).partner (Port y i)) some in
          let p = net.points (Port y i) v.0 v.1 in
          go ((net_of (seen a fs es)).symbol y) symbol p
        where
          go : (o : Option ℕ) → o ≡ Some s → IsSomeAnd o (λ s. i ≤ arity_of t s) → i < suc (arity_of t s)
          go (Some r) f h = let z : r ≡ s = same_Some r s f in let l = subst (λ (r : ℕ). i ≤ arity_of t r) z h in omega (arith, l)
          go None f h = absurd h

      back : (i : ℕ) → i < suc (arity_of t s) → i < places (state_at a y)
      back i l =
          let point : IsPoint (signature_of t) (net_of (seen a fs es)) (Port y i) = subst (λ (o : Option ℕ). IsSomeAnd o (λ s. i ≤ arity_of t s)) (sym symbol) (let z : i ≤ arity_of t s = omega (arith, l) in z) in
          let some = net.joined (Port y i) point in
          let there = unmapped point_of (end_at (state_at a y) i) (subst IsSome (partner_seen a fs es (Port y i)) some) in
          let v = has_value (end_at (state_at a y) i) there in
          place_within (state_at a y) i v.0 v.1

  over_here : (x : State) → ((s : ℕ) → word_of x ≡ Some s → (places x ≡ suc (arity_of t s)) × (s < length t.names)) → IsCellOver t (agent_in x)
  over_here Vacant h = tt
  over_here Leased h = tt
  over_here (Live w es) h = let z = h w refl in let e = z.0 in let m = length-map es point_at in (z.1, omega (arith, e, m))

  all_over : (xs : List State) → ((y : ℕ) → IsCellOver t (agent_in (get_or xs y Leased))) → AllByRecursion (IsCellOver t) (map agent_in xs)
  all_over [] h = tt
  all_over (x ∷ xs) h = (h 0, all_over xs (λ y. h (suc y)))

  pub is_over : IsOver t (seen a fs es)
  is_over = record { cells = all_over a.states (λ y. over_here (state_at a y) (λ s e. (places_seen y s e, within y s (symbol_seen a fs es y ∙ e)))) }
