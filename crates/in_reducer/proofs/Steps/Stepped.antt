-- One interaction of a reducer: the goals of its call, and its result.
use Rattle.std.proofs.Common.{◌≡◌, ◌<◌, ◌≤◌, ◌+◌, ℕ, List, [], ◌∷◌, ◌++◌, append_assoc, length, length-append, map, remove, take, reverse, slice_get, Option, Some, None, refl, sym, ap, subst, ◌∙◌, arith}
use Rattle.std.specs.Prelude.{option_map}
use Rattle.std.proofs.lemmas.List.{length-map, length-reverse, map-append, reverse-append, reverse-reverse}
use Rattle.std.proofs.lemmas.Option.{same_Some, slice_get_within}
use Rattle.in_arena.proofs.Public.{counts_alike}
use Rattle.in_arena.specs.Arenas.{ArenaView, NoneLeased, free_of}
use Rattle.in_arena.specs.Classes.{all_of, amount}
use Rattle.in_arena.specs.declared.content.CellClass.{CellClass}
use Rattle.in_arena.specs.declared.content.CellCounts.{CellCounts}
use Rattle.in_arena.specs.declared.content.CellNo.{CellNo}
use Rattle.in_arena.specs.declared.content.End.{End}
use Rattle.in_syntax.specs.declared.symbol_no.SymbolNo.{SymbolNo}
use Rattle.in_symbols.specs.Tables.{Tables}
use Rattle.in_net.specs.declared.nets.AgentNo.{AgentNo}
use Rattle.in_net.specs.declared.nets.FreeEnd.{FreeEnd}
use Rattle.in_net.specs.Interactions.{IsStep, redex_at}
use Rattle.in_syntax.specs.TextLimits.{most_member_agents}
use Rattle.in_net.specs.Nets.{net_of, point_of, signature_of}
use Rattle.in_net.specs.Rules.{RuleParts}
use Rattle.in_interaction.specs.Interacting.{InteractsAs}
use Rattle.in_interaction.specs.Made.{AreMade}
use Rattle.in_interaction.specs.Queues.{agents_at, both, numbers_of}
use Rattle.in_interaction.proofs.Public.{made_numbers}
use Rattle.in_check.specs.Runs.{IsInteraction}
use Rattle.in_check.specs.Systems.{IsSound, rule_in, system_of}
use Rattle.in_check.proofs.Public.{is_sound}
use Rattle.in_base.proofs.Places.{to_mapped}
use Rattle.in_order.proofs.Public.{sound_steps}
use Rattle.in_cells.specs.Shown.{IsShown}
use Rattle.in_overwriting.specs.Flag.{IsCalm}
use Rattle.in_overwriting.proofs.Public.{unmarked_pairs_are_apart}
use Rattle.in_cells.proofs.Public.{shown_is_step}
use Rattle.in_compile.specs.declared.cells.Need.{Need}
use Rattle.in_compile.specs.Cells.{agents_of, count_of}
use Rattle.in_compile.specs.Members.{AgentParts}
use Rattle.in_compile.specs.Templates.{TemplateParts}
use Rattle.in_compile.proofs.Public.{counted_by}
use Rattle.in_compile.proofs.Public.Accepted as rules
use Rattle.in_compile.proofs.Public.Sound as members
use Rattle.in_reducer.specs.declared.body.Body.{Body}
use Rattle.in_reducer.specs.declared.sides.Pair.{Pair}
use Rattle.in_reducer.specs.Inside.{KeepsNet, declared_as, most_ends, own_free, reducer_view}
use Rattle.in_reducer.specs.Interacting.{IsAbout, IsInteracted, PairSetting, interaction_of, named}
use Rattle.in_reducer.specs.Machines.{MachineParts, parts_of}
use Rattle.in_reducer.specs.Reducers.{IsReducer}
use Rattle.in_reducer.specs.Standing.{IsNetIn, agents_in, at_rest, leading_to, vacant_in}
use Rattle.in_reducer.specs.Steps.{HasRoomAt, NeedsAt, StepsAt}
use Rattle.in_reducer.specs.Templates.{IsTemplateAt}
use Rattle.in_reducer.proofs.Starts.Accepted.{few_ports}
use Rattle.in_reducer.proofs.Cells.AtRest.{rests}
use Rattle.in_reducer.proofs.Cells.Counted.{cells_at_rest}
use Rattle.in_reducer.proofs.Pairs.Queues.{short_queue}
use Rattle.in_reducer.proofs.Cells.Shown.{is_over, is_shown, same_kinds, same_many, same_names, seen}
use Rattle.in_reducer.proofs.Steps.StepsOn as steps

-- ---- lists

map_reverse : {X Y : Type 0} (f : X → Y) (xs : List X) → map f (reverse xs) ≡ reverse (map f xs)
map_reverse f [] = refl
map_reverse f (x ∷ xs) =
    ap (map f) (reverse-append (x ∷ []) xs) ∙ map-append f (reverse xs) (x ∷ []) ∙ ap (λ ys. ys ++ f x ∷ []) (map_reverse f xs) ∙ sym (reverse-append (f x ∷ []) (map f xs))

-- pairs that were added the last one first
pub turned_back : {X Y : Type 0} (f : X → Y) (xs : List X) → reverse (map f (reverse xs)) ≡ map f xs
turned_back f xs = sym (map_reverse f (reverse xs)) ∙ ap (map f) (reverse-reverse xs)

pub free_is : (a : ArenaView) (c : CellClass) → count_of (vacant_in a) c ≡ free_of a c
free_is a c = counted_by (free_of a) c

-- ---- before

module _ (r : Body) (k : KeepsNet r) (i : ℕ) (p : TemplateParts) (at : IsTemplateAt (reducer_view r) i p) where
  abbrev t : Tables
  t = r.checked.now.program.tables

  abbrev one : AgentNo
  one = (agents_at at.pair).0

  abbrev two : AgentNo
  two = (agents_at at.pair).1

  abbrev pub setting : PairSetting
  setting = record { net = parts_of (reducer_view r); rule = at.rule; one = (agents_at at.pair).0; two = (agents_at at.pair).1 }

  -- as many free ends as named
  pub own_many : length (own_free r) ≡ length r.free.items
  own_many = length-map r.free.items (declared_as r.checked.now.program)

  fits_ends : length (own_free r) ≤ length r.ends.items
  fits_ends = let e = k.ends in let m = own_many in omega (arith, e, m)

  pub few_agents : length p.member.agents ≤ most_member_agents
  few_agents = members.few_agents t at.rule.member p.member at.template.member most_member_agents (rules.whole_rule k.reducer.accepted.0 k.reducer.accepted.1 r.checked.now.program k.reducer.accepted.2 at.number at.rule at.is_rule.stands).few

  pub few_joints : length p.member.joints ≤ most_ends
  few_joints =
      let many = members.joints_many t at.rule.member p.member at.template.member in
      let ends = (rules.whole_rule k.reducer.accepted.0 k.reducer.accepted.1 r.checked.now.program k.reducer.accepted.2 at.number at.rule at.is_rule.stands).ends in
      let a = few_ports k.reducer.accepted.0 k.reducer.accepted.1 r.checked.now.program k.reducer.accepted.2 at.rule.heads.0.0 in
      let b = few_ports k.reducer.accepted.0 k.reducer.accepted.1 r.checked.now.program k.reducer.accepted.2 at.rule.heads.1.0 in
      omega (arith, many, ends, a, b)

  -- there is room for the sides of the boundary ends
  pub room_there : (own : ℕ) → own ≡ length (own_free r) → (ends : List End) → ends ≡ r.ends.items → own + length p.member.joints + length p.member.joints ≤ length ends
  room_there own is_own ends is_ends = let l = ap length is_ends in let e = k.ends in let f = few_joints in let m = own_many in omega (arith, l, e, f, m, is_own)

  -- a sound net is typed and without crossing circle
  calm : IsCalm (signature_of t) (net_of (parts_of (reducer_view r)))
  calm = record {
    classes = (is_sound k.reducer.accepted.0 k.reducer.accepted.1 r.checked.now.program k.reducer.accepted.2).classes;
    net = k.reducer.net.sound.net;
    typed = k.reducer.net.sound.typed;
    no_circle = k.reducer.net.sound.no_circle;
  }

  pub is_about : (tables : Tables) → tables ≡ t → (pair : Pair) → pair.one.0 ≡ one.0 → pair.other.0 ≡ two.0 → pair.first_ends ≡ p.first_ends → (own : ℕ) → own ≡ length (own_free r) → (ends : List End) → ends ≡ r.ends.items
      → IsAbout tables setting p pair own r.arena ends
  is_about tables same pair is_one is_two is_first own is_own ends is_ends = subst (λ (u : Tables). IsAbout u setting p pair own r.arena ends) (sym same) (record {
    net = k.reducer.net.sound.net;
    over = k.reducer.net.over;
    typed = k.reducer.net.sound.typed;
    inside = steps.member_net (reducer_view r) k.reducer at.number at.rule at.is_rule.stands;
    typed_inside = steps.member_typed (reducer_view r) k.reducer at.number at.rule at.is_rule.stands;
    member_over = at.is_rule.over.member;
    redex = steps.redex (reducer_view r) k.reducer one two at.active at.number at.rule at.is_rule;
    template = at.template;
    apart = λ none. unmarked_pairs_are_apart (signature_of t) (net_of (parts_of (reducer_view r))) (redex_at at.rule one.0 two.0) calm
        (steps.redex (reducer_view r) k.reducer one two at.active at.number at.rule at.is_rule) none.0 none.1;
    one = is_one;
    two = is_two;
    first_ends = is_first;
    own_ends = is_own ∙ sym (same_many (own_free r) r.ends.items fits_ends);
    shown = subst (λ (n : ℕ). IsShown r.arena (take n ends) (net_of (parts_of (reducer_view r)))) (sym is_own)
        (subst (λ (es : List End). IsShown r.arena (take (length (own_free r)) es) (net_of (parts_of (reducer_view r)))) (sym is_ends) (is_shown r.arena (own_free r) r.ends.items));
    room = room_there own is_own ends is_ends;
  })

  -- the pair's need is the template's
  pub same_need : (x : Need) → NeedsAt (reducer_view r) i x → (c : CellClass) → count_of x c ≡ count_of p.member.need c
  same_need x needs c =
      let pair : needs.pair ≡ at.pair = same_Some needs.pair at.pair (sym needs.stands ∙ at.stands) in
      let rule : needs.rule ≡ at.rule =
      steps.same_rule (reducer_view r) k.reducer needs.pair at.pair needs.number at.number needs.rule at.rule pair needs.is_rule at.is_rule in
      needs.is_need c ∙ ap (λ (z : RuleParts). agents_of t c z.member.cells) rule ∙ sym (at.template.member.need c)

  pub free_at_rest : NoneLeased r.arena → (c : CellClass) → count_of (vacant_in (at_rest r.arena)) c ≡ free_of r.arena c
  free_at_rest none c = free_is (at_rest r.arena) c ∙ ap (λ (v : ArenaView). free_of v c) (rests r.arena none)

  -- that is free
  pub enough : NoneLeased r.arena → HasRoomAt (reducer_view r) i → (c : CellClass) → count_of p.member.need c ≤ free_of r.arena c
  enough none (need, needs, free) c =
      let a = same_need need needs c in
      let l = free c in
      let e = free_at_rest none c in
      omega (arith, a, l, e)

  -- the pairs of the right member are of its agents, whose number is n
  pub pairs_there : (n : ℕ) → n ≡ length p.member.agents → (j : ℕ) (q : ℕ × ℕ) → slice_get p.member.pairs j ≡ Some q → (q.0 < n) × (q.1 < n)
  pairs_there n many j q e =
      let active = at.template.member.pairs.pairs.pairs j q e in
      (agent_there q.0 active.first (at.template.member.agents q.0 ∙ active.one), agent_there q.1 active.second (at.template.member.agents q.1 ∙ active.two))
    where
      agent_there : (x : ℕ) (s : SymbolNo) → option_map (λ (a : AgentParts). a.symbol) (slice_get p.member.agents x) ≡ Some s → x < n
      agent_there x s e = go (slice_get p.member.agents x) refl e
        where
          go : (o : Option AgentParts) → slice_get p.member.agents x ≡ o → option_map (λ (a : AgentParts). a.symbol) o ≡ Some s → x < n
          go None is h = absurd (let f : None ≡ Some s = h in cc)
          go (Some a) is h = let l = slice_get_within p.member.agents x a is in omega (arith, l, many)

  -- ---- after

  module _ (free : HasRoomAt (reducer_view r) i) (own : ℕ) (is_own : own ≡ length (own_free r)) (ns : List CellNo) (a : ArenaView) (es : List End) (made : List (ℕ × ℕ)) (did : IsInteracted t setting own ns a es [] made) (net : IsNetIn t (at_rest a)) (cells : a.cells ≡ r.arena.cells) (long : length es ≡ length r.ends.items) where
    abbrev fs : List FreeEnd
    fs = own_free r

    still_fits : length (own_free r) ≤ length es
    still_fits = let e = fits_ends in omega (arith, e, long)

    shown : IsShown a (take own es) (net_of (seen a (own_free r) es))
    shown = subst (λ (n : ℕ). IsShown a (take n es) (net_of (seen a (own_free r) es))) (sym is_own) (is_shown a (own_free r) es)

    step : IsStep (signature_of t) (net_of (parts_of (reducer_view r))) (redex_at at.rule one.0 two.0) (named ns) (net_of (seen a (own_free r) es))
    step = shown_is_step t (interaction_of setting ns) own a es (net_of (seen a (own_free r) es)) did.0 shown (same_kinds fs es still_fits ∙ sym (same_kinds fs r.ends.items fits_ends))

    act : IsInteraction (system_of r.checked.now.program) (net_of (parts_of (reducer_view r))) (redex_at at.rule one.0 two.0) (named ns) (net_of (seen a (own_free r) es))
    act = record {
      at = record {
        one = ap (option_map (λ (s : SymbolNo). s.0)) at.is_rule.one;
        two = ap (option_map (λ (s : SymbolNo). s.0)) at.is_rule.two;
        active = ap (option_map point_of) at.active.active;
        rule = (at.number, to_mapped rule_in r.checked.now.program.rules at.number at.rule at.is_rule.stands);
      };
      step = step;
    }

    sound : IsSound (system_of r.checked.now.program) (net_of (seen a (own_free r) es))
    sound =
        sound_steps (system_of r.checked.now.program) (net_of (parts_of (reducer_view r))) (redex_at at.rule one.0 two.0) (named ns) (net_of (seen a (own_free r) es))
        (is_sound k.reducer.accepted.0 k.reducer.accepted.1 r.checked.now.program k.reducer.accepted.2) k.reducer.net.sound act

    acts : InteractsAs t (parts_of (reducer_view r)) at.rule one two (named ns) (seen a (own_free r) es)
    acts = record {
      step = step;
      over = is_over t a fs es sound.net sound.within;
      names = same_names fs es still_fits ∙ sym (same_names fs r.ends.items fits_ends);
    }

    abbrev pub news : List (AgentNo × AgentNo)
    news = did.1.0 ++ map (λ (z : ℕ × ℕ). agents_at (both (named ns) z)) p.member.pairs

    are_made : AreMade t (parts_of (reducer_view r)) at.rule one two (named ns) news
    are_made = record { over = did.1.0; own = p.member.pairs; are_over = did.1.2; are_own = at.template.member.pairs; listed = refl }

    abbrev pub after : List (ℕ × ℕ) → MachineParts
    after queue = record { program = r.checked.now.program; agents = agents_in a; free = leading_to (own_free r) es; queue = queue; vacant = vacant_in (at_rest a) }

    abbrev pub final : List (ℕ × ℕ)
    final = remove r.queue.items i ++ map numbers_of news

    pub is_step : StepsAt (reducer_view r) i (after final)
    is_step = record {
      pair = at.pair;
      stands = at.stands;
      active = at.active;
      room = free;
      name = named ns;
      step = record { number = at.number; rule = at.rule; is_rule = at.is_rule; acts = acts; program = refl };
      made = news;
      new = are_made;
      queue = refl;
      cells = λ c. cells_at_rest t a net c ∙ ap (λ (z : CellCounts). amount z c) cells ∙ sym (cells_at_rest t r.arena k.net c);
    }

    pub reducer_after : IsReducer (after final)
    reducer_after = steps.reducer_on (reducer_view r) (after final) i k.reducer is_step

    -- the queue as made, one list after another
    pub in_turn : (removed middle queue : List (ℕ × ℕ)) → removed ≡ remove r.queue.items i → middle ≡ removed ++ reverse made → queue ≡ middle ++ map (both (named ns)) p.member.pairs → queue ≡ final
    unfolding are_made
    in_turn removed middle queue e f g =
        let back : reverse made ≡ map numbers_of did.1.0 = ap reverse did.1.1 ∙ turned_back numbers_of did.1.0 in
        g ∙ ap (λ (z : List (ℕ × ℕ)). z ++ map (both (named ns)) p.member.pairs) (f ∙ ap (λ (z : List (ℕ × ℕ)). z ++ reverse made) e ∙ ap (λ (z : List (ℕ × ℕ)). remove r.queue.items i ++ z) back)
        ∙ append_assoc (remove r.queue.items i) (map numbers_of did.1.0) (map (both (named ns)) p.member.pairs)
        ∙ ap (λ (z : List (ℕ × ℕ)). remove r.queue.items i ++ z) (sym (made_numbers t (parts_of (reducer_view r)) at.rule one two (named ns) news are_made))

    pub few_pairs : length final ≤ r.queue.room
    few_pairs =
        let short = short_queue (after final) reducer_after in
        let many = counts_alike reducer_after.cells.0 a.cells (λ c. sym (reducer_after.cells.2 c) ∙ cells_at_rest t a net c) in
        let same = ap all_of cells in
        let room = k.queue in
        omega (arith, short, many, same, room)

    -- no more pairs in all than the queue has room for
    pub lengths : length (remove r.queue.items i) + length made + length p.member.pairs ≤ r.queue.room
    lengths =
        let rest = remove r.queue.items i in
        let own_pairs = map (both (named ns)) p.member.pairs in
        let same = ap length (in_turn rest (rest ++ reverse made) ((rest ++ reverse made) ++ own_pairs) refl refl refl) in
        let a = length-append (rest ++ reverse made) own_pairs in
        let b = length-append rest (reverse made) in
        let c = length-reverse made in
        let d = length-map p.member.pairs (both (named ns)) in
        let few = few_pairs in
        omega (arith, same, a, b, c, d, few)
