-- An agent is written end by end.
use Rattle.std.proofs.Common.{◌≡◌, ◌≤◌, ◌<◌, ◌+◌, ℕ, Option, Some, None, List, [], ◌∷◌, ◌++◌, length, map, take, set, slice_get, refl, sym, ap, subst, ◌∙◌, get_or-set_same, arith}
use Rattle.std.specs.Prelude.{option_map, option_and_then}
use Rattle.std.proofs.lemmas.List.{length-set, take_more_set, take_all}
use Rattle.std.proofs.lemmas.Option.{same_Some, slice_get_within}
use Rattle.in_arena.specs.Arenas.{ArenaView, changed, state_at}
use Rattle.in_arena.specs.Bags.{IsInBag}
use Rattle.in_arena.specs.States.{State, Leased, Live, IsBegun, places, with_end}
use Rattle.in_arena.specs.declared.content.CellNo.{CellNo}
use Rattle.in_arena.specs.declared.content.End.{End}
use Rattle.in_arena.proofs.Public.{changed_twice}
use Rattle.in_syntax.specs.declared.symbol_no.SymbolNo.{SymbolNo}
use Rattle.in_compile.specs.declared.joints.Joint.{Joint}
use Rattle.in_compile.specs.declared.joints.Joint.TheVariants.{ToAgent, ToBoundary}
use Rattle.in_compile.specs.Members.{AgentParts, MemberParts, joint_at, places_at, symbol_at, IsSoundMember}
use Rattle.in_compile.specs.Placing.{end_in, content}
use Rattle.in_compile.specs.PlacingSteps.{IsBeingWritten, IsInside}
use Rattle.in_compile.proofs.Placements.Stocked.{in_range}
use Rattle.in_compile.proofs.Compiled.Taken.{mapped_more}

-- a joint leads to an agent that is there
module _ (m : MemberParts) (sound : IsSoundMember m) where
  there : (l p : ℕ) (i : Joint) (o : Option AgentParts) → slice_get m.agents l ≡ o → option_and_then (λ (a : AgentParts). slice_get a.ends p) o ≡ Some i → l < length m.agents
  there l p i None e h = let f : None ≡ Some i = h in cc
  there l p i (Some a) e h = slice_get_within m.agents l a e

  pub inside_of : (i j : Joint) → joint_at m i ≡ Some j → IsInside (length m.agents) j
  inside_of i (ToAgent l p) h = there l p i (slice_get m.agents l) refl (sound.back i (ToAgent l p) h)
  inside_of i (ToBoundary e) h = tt

-- as many places as ends
pub places_are : (m : MemberParts) (k count : ℕ) (a : AgentParts) → slice_get m.agents k ≡ Some a → places_at m k ≡ Some count → length a.ends ≡ count
places_are m k count a stands is = same_Some (length a.ends) count (sym (ap (option_map (λ (a : AgentParts). length a.ends)) stands) ∙ is)

-- the symbol that was read
pub symbol_is : (m : MemberParts) (k word : ℕ) (a : AgentParts) → slice_get m.agents k ≡ Some a → symbol_at m k ≡ Some (record { 0 = word }) → a.symbol.0 ≡ word
symbol_is m k word a stands is =
    let same : Some a.symbol ≡ Some (record { 0 = word }) = sym (ap (option_map (λ (a : AgentParts). a.symbol)) stands) ∙ is in
    ap (λ (s : SymbolNo). s.0) (same_Some a.symbol (record { 0 = word }) same)

module _ (m : MemberParts) (ns : List CellNo) (k : ℕ) (n : CellNo) (first : ArenaView) where
  -- no end is written
  pub begun : (a : AgentParts) (word count : ℕ) (x : State) (b : ArenaView) → slice_get m.agents k ≡ Some a → a.symbol.0 ≡ word → length a.ends ≡ count → IsBegun word count x → b ≡ changed first n.0 x → IsBeingWritten m ns k 0 n first b
  begun a word count x b stands symbol many is e = record {
    agent = a;
    stands = stands;
    ends = is.0;
    bag = e ∙ ap (changed first n.0) (is.2 ∙ ap (λ w. Live w is.0) (sym symbol));
    count = is.1 ∙ sym many;
    so_far = refl;
  }

  module _ (x : ℕ) (b : ArenaView) (h : IsBeingWritten m ns k x n first b) where
    module _ (in_it : IsInBag first n.0) where
      now : state_at b n.0 ≡ Live h.agent.symbol.0 h.ends
      now = ap (λ v. state_at v n.0) h.bag ∙ get_or-set_same first.states n.0 (Live h.agent.symbol.0 h.ends) Leased (in_range first n.0 in_it)

      pub has_place : (count : ℕ) → places_at m k ≡ Some count → x < count → x < places (state_at b n.0)
      has_place count is less =
          let many = places_are m k count h.agent h.stands is in
          let long = h.count in
          subst (λ (y : State). x < places y) (sym now) (omega (arith, less, many, long))

      pub one_more_end : (j : Joint) (e : End) (b' : ArenaView) → joint_at m (ToAgent k x) ≡ Some j → e ≡ end_in ns j → b' ≡ changed b n.0 (with_end (state_at b n.0) x e) → IsBeingWritten m ns k (x + 1) n first b'
      one_more_end j e b' at is change =
          let here : slice_get h.agent.ends x ≡ Some j = sym (ap (λ (o : Option AgentParts). option_and_then (λ (a : AgentParts). slice_get a.ends x) o) h.stands) ∙ at in
          let room : x < length h.ends = (let l = slice_get_within h.agent.ends x j here in let c = h.count in omega (arith, l, c)) in
          record {
            agent = h.agent;
            stands = h.stands;
            ends = set h.ends x e;
            bag =
                change ∙ ap (λ (y : State). changed b n.0 (with_end y x e)) now ∙ ap (λ v. changed v n.0 (Live h.agent.symbol.0 (set h.ends x e))) h.bag
                ∙ changed_twice first n.0 (Live h.agent.symbol.0 h.ends) (Live h.agent.symbol.0 (set h.ends x e));
            count = length-set h.ends x e ∙ h.count;
            so_far = mapped_more (end_in ns) h.agent.ends x j [] (take x h.ends) (take (x + 1) (set h.ends x e)) here h.so_far (take_more_set h.ends x e room ∙ ap (λ (z : End). take x h.ends ++ z ∷ []) is);
          }

    -- all ends are
    pub all_written : (count : ℕ) → places_at m k ≡ Some count → count ≤ x → (a : AgentParts) → slice_get m.agents k ≡ Some a → b ≡ changed first n.0 (content ns a)
    all_written count is le a stands =
        let same : h.agent ≡ a = same_Some h.agent a (sym h.stands ∙ stands) in
        let many = places_are m k count h.agent h.stands is in
        let long = h.count in
        let ends : h.ends ≡ map (end_in ns) h.agent.ends =
        sym (take_all x h.ends (omega (arith, le, many, long))) ∙ h.so_far ∙ ap (map (end_in ns)) (take_all x h.agent.ends (omega (arith, le, many))) in
        h.bag ∙ ap (λ (es : List End). changed first n.0 (Live h.agent.symbol.0 es)) ends ∙ ap (λ (z : AgentParts). changed first n.0 (content ns z)) same
