-- The outcome of signs is that of the run.
use Rattle.std.proofs.Common.{◌≡◌, ℕ, zero, suc, ◌≤◌, Bool, true, false, List, [], ◌∷◌, ◌++◌, length, take, drop, refl, sym, ◌∙◌, ap, subst, append_assoc, append-nil, arith, length-append, length-drop, take-append-drop, Option, Some, None, Result, Ok, Err}
use Rattle.std.proofs.Math.Seq.{take-append_seam, drop-append_seam}
use Rattle.std.proofs.lemmas.List.{map-append}
use Rattle.std.specs.List.{flat_map}
use Rattle.in_syntax.specs.declared.expecting.Expected.TheVariants as expected
use Rattle.in_syntax.specs.declared.faults.Code.{Code}
use Rattle.in_syntax.specs.declared.faults.Code.TheVariants.{E02, E03}
use Rattle.in_syntax.specs.declared.faults.Fault.{Fault}
use Rattle.in_syntax.specs.declared.faults.Fault.TheVariants.{Refused, Memory}
use Rattle.in_syntax.specs.declared.places.Place.{Place}
use Rattle.in_syntax.specs.declared.words.Token.{Token}
use Rattle.in_syntax.specs.declared.signs.Sign.{Sign}
use Rattle.in_syntax.specs.declared.tree.Source.{Source}
use Rattle.in_syntax.specs.declared.tree.SourceNet.{SourceNet}
use Rattle.in_syntax.specs.declared.reader.Reader.{Reader}
use Rattle.in_syntax.specs.declared.states.State.{State}
use Rattle.in_syntax.specs.declared.states.State.TheVariants as state
use Rattle.in_syntax.specs.Grammar.{Spelling, marked, GrammarProgram, spelling, source_of, none_yet, spell_items, spell_net, types_in, symbols_in, rules_in}
use Rattle.in_syntax.specs.Programs.{signs_of, signs, unmarked, IsProgram, Begins, BeginsWithin, BeginsPast, IsFault, Outcome, tree, fault, IsOutcomeOfSigns, IsParsing}
use Rattle.in_syntax.specs.Steps.{Step, goes, adds_types, adds_symbol, adds_rule, stuck, step, move_of, Answer, reads, refused, net_of, whole, counts_of, run, start, GivesSource, expected_in}
use Rattle.in_syntax.proofs.Grammar.Paths.{Turn, turns, halts, turn_of, turn, Path, join, split, same, IsFaultAt, IsTrace, along, trace}
use Rattle.in_syntax.proofs.Grammar.Sound.{HasRead, has_read, read_nothing, spelled}
use Rattle.in_syntax.proofs.Grammar.Complete.{done_with, program_path}
use Rattle.in_syntax.proofs.Grammar.Closing.{can_end}
use Rattle.in_syntax.specs.declared.text_limits.TextLimits.{TextLimits}

pub signs_unmarked : (s : List Sign) → signs (unmarked s) ≡ s
signs_unmarked [] = refl
signs_unmarked (x ∷ s) = ap (λ z. x ∷ z) (signs_unmarked s)

done_state : (p : State) (n : SourceNet) → net_of p ≡ Some n → p ≡ state.Done n
done_state (state.Done k) n e = let is : k ≡ n = cc in ap (λ z. state.Done z) is
done_state p n e = cc

-- if the net is whole, nothing more is expected
whole_state : (p : State) (r : Reader) (source : Source) (o : Option SourceNet) → net_of p ≡ o → whole r o ≡ reads source → expected_in p ≡ expected.Nothing
whole_state p r source (Some n) e is = ap expected_in (done_state p n e)
whole_state p r source None e is = cc

pub whole_expects : (r : Reader) (source : Source) → run r [] ≡ reads source → expected_in r.state ≡ expected.Nothing
whole_expects r source is = whole_state r.state r source (net_of r.state) refl is

-- ---- the run along a path

abbrev after_turn : Sign → List Sign → Turn → Answer
after_turn x s (turns false next) = run next s
after_turn x s (turns true next) = refused E03 (x ∷ s)
after_turn x s halts = refused E02 (x ∷ s)

turned : (r : Reader) (x : Sign) (s : List Sign) (m : Step) (t : Turn) → turn_of r m ≡ t → along r x s (move_of m) ≡ after_turn x s t
turned r x s (goes false p) t e = ap (after_turn x s) e
turned r x s (goes true p) t e = ap (after_turn x s) e
turned r x s (adds_types names) t e = ap (after_turn x s) e
turned r x s (adds_symbol y) t e = ap (after_turn x s) e
turned r x s (adds_rule y) t e = ap (after_turn x s) e
turned r x s stuck t e = ap (after_turn x s) e

run_turn : (r : Reader) (x : Sign) (s : List Sign) (t : Turn) → turn r x ≡ t → run r (x ∷ s) ≡ after_turn x s t
run_turn r x s t e = turned r x s (step (counts_of r) r.state x) t e

run_along : (s rest : List Sign) (r last : Reader) → Path r (unmarked s) last → run r (s ++ rest) ≡ run last rest
run_along [] rest r last p = ap (λ z. run z rest) p
run_along (x ∷ s) rest r last p = run_turn r x (s ++ rest) (turns false p.0) p.1 ∙ run_along s rest p.0 last p.2

-- ---- the run's result is the outcome

split_signs : (m : Spelling) (a b : List Sign) → signs m ≡ a ++ b → (k : Spelling) × (l : Spelling) × (m ≡ k ++ l) × (signs k ≡ a) × (signs l ≡ b)
split_signs m [] b e = ([], m, refl, refl, e)
split_signs [] (x ∷ a) b e = cc
split_signs (y ∷ m) (x ∷ a) b e =
    let here : y.sign ≡ x = cc in
    let more : signs m ≡ a ++ b = cc in
    let rest = split_signs m a b more in
    (y ∷ rest.0, rest.1, ap (λ z. y ∷ z) rest.2, ap (λ z. z ∷ signs rest.0) here ∙ ap (λ z. x ∷ z) rest.3, rest.4)

halts_there : (x : Sign) (last mid done : Reader) (l : Spelling) (more : List Sign) → mid ≡ last → turn last x ≡ halts → Path mid l done → signs l ≡ x ∷ more → ⊥
halts_there x last mid done [] more is e path f = cc
halts_there x last mid done (y ∷ l) more is e path f =
    let here : y.sign ≡ x = cc in
    let t : turns y.past path.0 ≡ halts = sym path.1 ∙ ap (λ z. turn z y.sign) is ∙ ap (turn last) here ∙ e in
    cc

signs_begun : (front : List Sign) (x : Sign) (b : Bool) (more : Spelling) → signs ((unmarked front ++ marked b x ∷ []) ++ more) ≡ (front ++ x ∷ []) ++ signs more
signs_begun front x b more =
    map-append (λ m. m.sign) (unmarked front ++ marked b x ∷ []) more
    ∙ ap (λ z. z ++ signs more) (map-append (λ m. m.sign) (unmarked front) (marked b x ∷ []) ∙ ap (λ z. z ++ x ∷ []) (signs_unmarked front))

-- ---- each outcome is the run's result

abbrev answer_of : List Sign → Outcome → Answer
answer_of s (tree source) = reads source
answer_of s (fault c i) = refused c (drop i s)

-- ---- the function's result

drop_signs : (text : List ℕ) (i : ℕ) (tokens : List Token) → signs_of text (drop i tokens) ≡ drop i (signs_of text tokens)
drop_signs text zero tokens = refl
drop_signs text (suc i) [] = refl
drop_signs text (suc i) (t ∷ tokens) = drop_signs text i tokens

count_signs : (text : List ℕ) (tokens : List Token) → length tokens ≡ length (signs_of text tokens)
count_signs text [] = refl
count_signs text (t ∷ tokens) = ap (λ n. suc n) (count_signs text tokens)

module _ (limits : TextLimits) where
  -- the program that was read, if the net is whole
  abbrev Reads : Reader → Spelling → SourceNet → Type 0
  Reads last m n = (p : GrammarProgram) × (spelling limits p ≡ m) × (source_of limits p ≡ record { limits = last.limits; types = last.types; symbols = last.symbols; rules = last.rules; net = n })

  program_read : (last : Reader) (m : Spelling) (n : SourceNet) → HasRead limits last m → last.state ≡ state.Done n → Reads last m n
  program_read last m n h e = (
    record { items = h.items; each = h.each; net = n },
    sym (h.spells ∙ ap (λ z. spell_items (none_yet limits) h.items ++ spelled (counts_of last) z) e ∙ ap (λ z. spell_items (none_yet limits) h.items ++ spell_net z n) h.by),
    ap (λ z. record { limits = z; types = flat_map types_in h.items; symbols = flat_map symbols_in h.items; rules = flat_map rules_in h.items; net = n }) (sym h.by)
        ∙ ap (λ z. record { limits = last.limits; types = z; symbols = flat_map symbols_in h.items; rules = flat_map rules_in h.items; net = n }) (sym h.types)
        ∙ ap (λ z. record { limits = last.limits; types = last.types; symbols = z; rules = flat_map rules_in h.items; net = n }) (sym h.symbols)
        ∙ ap (λ z. record { limits = last.limits; types = last.types; symbols = last.symbols; rules = z; net = n }) (sym h.rules),
  )

  read_path : (m : Spelling) (last : Reader) → Path (start limits) m last → HasRead limits last m
  read_path m last path = has_read limits m [] (start limits) last (read_nothing limits) path

  -- the signs of a path from the start begin a program
  begun : (front : Spelling) (last : Reader) → Path (start limits) front last → (p : GrammarProgram) × (more : Spelling) × (spelling limits p ≡ front ++ more)
  begun front last path =
      let c = can_end last in
      let p = program_read c.last (front ++ c.more) c.net (has_read limits c.more front last c.last (read_path front last path) c.path) c.done in
      (p.0, c.more, p.1)

  read_end : (s : List Sign) (source : Source) (last : Reader) → Path (start limits) (unmarked s) last → (o : Option SourceNet) → net_of last.state ≡ o → whole last o ≡ reads source →
      IsOutcomeOfSigns limits s (tree source)
  read_end s source last path (Some n) is e =
      let p = program_read last (unmarked s) n (read_path (unmarked s) last path) (done_state last.state n is) in
      let same : record { limits = last.limits; types = last.types; symbols = last.symbols; rules = last.rules; net = n } ≡ source = cc in
      (p.0, p.1, p.2 ∙ same)
  read_end s source last path None is e = cc

  pub tree_outcome : (s : List Sign) (source : Source) → run (start limits) s ≡ reads source → IsOutcomeOfSigns limits s (tree source)
  tree_outcome s source e =
      let t : IsTrace (start limits) s (reads source) = subst (IsTrace (start limits) s) e (trace s (start limits)) in
      read_end s source t.0 t.1 (net_of t.0.state) refl t.2

  begins_within : (front : List Sign) (last : Reader) → Path (start limits) (unmarked front) last → BeginsWithin limits front
  begins_within front last path = begun (unmarked front) last path

  no_program : (front : List Sign) (last : Reader) → Path (start limits) (unmarked front) last → net_of last.state ≡ None → IsProgram limits front → ⊥
  no_program front last path e (p, is) =
      let k = same (spelling limits p) (unmarked front) (start limits) (done_with limits p) last (program_path limits p) path (is ∙ sym (signs_unmarked front)) in
      let never : Some p.net ≡ None = ap (λ z. net_of z.state) k.1 ∙ e in
      cc

  pub no_beginning : (front : List Sign) (x : Sign) (last : Reader) → Path (start limits) (unmarked front) last → turn last x ≡ halts → Begins limits (front ++ x ∷ []) → ⊥
  no_beginning front x last path e (p, more, is) =
      let parts = split_signs (spelling limits p) front (x ∷ more) (is ∙ append_assoc front (x ∷ []) more) in
      let two = split parts.0 parts.1 (start limits) (done_with limits p) (subst (λ z. Path (start limits) z (done_with limits p)) parts.2 (program_path limits p)) in
      let k = same parts.0 (unmarked front) (start limits) two.0 last two.1 path (parts.3 ∙ sym (signs_unmarked front)) in
      halts_there x last two.0 (done_with limits p) parts.1 more k.1 e two.2 parts.4

  -- some program continues with a sign that leads to another state
  pub begins_on : (front : List Sign) (x : Sign) (last next : Reader) (past : Bool) → Path (start limits) (unmarked front) last → turn last x ≡ turns past next → Begins limits (front ++ x ∷ [])
  begins_on front x last next past path e =
      let p = begun (unmarked front ++ marked past x ∷ []) next (join (unmarked front) (marked past x ∷ []) (start limits) last next path (next, e, refl)) in
      (p.0, signs p.1, ap signs p.2 ∙ signs_begun front x past p.1)

  begins_past : (front : List Sign) (x : Sign) (last next : Reader) → Path (start limits) (unmarked front) last → turn last x ≡ turns true next → BeginsPast limits front x
  begins_past front x last next path e =
      let p = begun (unmarked front ++ marked true x ∷ []) next (join (unmarked front) (marked true x ∷ []) (start limits) last next path (next, e, refl)) in
      (p.0, p.1, p.2 ∙ append_assoc (unmarked front) (marked true x ∷ []) p.1)

  explained : (c : Code) (front rest : List Sign) (last : Reader) → Path (start limits) (unmarked front) last → IsFaultAt c last rest → IsFault limits c front rest
  explained E02 front [] last path at = (begins_within front last path, no_program front last path at)
  explained E02 front (x ∷ rest) last path at = (begins_within front last path, no_beginning front x last path at)
  explained E03 front (x ∷ rest) last path at = begins_past front x last at.0 path at.1
  explained c front rest last path at = absurd at

  fault_from : (c : Code) (s front rest : List Sign) (i : ℕ) → s ≡ front ++ rest → length front ≡ i → IsFault limits c front rest → IsOutcomeOfSigns limits s (fault c i)
  fault_from c s front rest i e size is =
      let short : length front ≤ length s = omega (arith, ap length e, length-append front rest) in
      let there : IsFault limits c (take (length front) (front ++ rest)) (drop (length front) (front ++ rest)) =
      subst (λ z. IsFault limits c z (drop (length front) (front ++ rest))) (sym (take-append_seam front rest)) (subst (λ z. IsFault limits c front z) (sym (drop-append_seam front rest)) is) in
      subst (λ k. IsOutcomeOfSigns limits s (fault c k)) size (short, subst (λ z. IsFault limits c (take (length front) z) (drop (length front) z)) (sym e) there)

  pub fault_outcome : (s rest : List Sign) (c : Code) (i : ℕ) → i ≤ length s → rest ≡ drop i s → run (start limits) s ≡ refused c rest → IsOutcomeOfSigns limits s (fault c i)
  fault_outcome s rest c i le is e =
      let t : IsTrace (start limits) s (refused c rest) = subst (IsTrace (start limits) s) e (trace s (start limits)) in
      let size : length t.0 ≡ i = omega (arith, ap length t.1, length-append t.0 rest, ap length is, length-drop i s) in
      fault_from c s t.0 rest i t.1 size (explained c t.0 rest t.2 t.3 t.4)

  found : (s : List Sign) (a : Answer) → run (start limits) s ≡ a → (o : Outcome) × IsOutcomeOfSigns limits s o
  found s (reads source) e = (tree source, tree_outcome s source e)
  found s (refused c rest) e =
      let t : IsTrace (start limits) s (refused c rest) = subst (IsTrace (start limits) s) e (trace s (start limits)) in
      (fault c (length t.0), fault_from c s t.0 rest (length t.0) t.1 refl (explained c t.0 rest t.2 t.3 t.4))

  decided_tree : (s : List Sign) (source : Source) → IsOutcomeOfSigns limits s (tree source) → run (start limits) s ≡ reads source
  decided_tree s source (p, e, g) =
      ap (run (start limits)) (sym (append-nil s)) ∙ run_along s [] (start limits) (done_with limits p) (subst (λ z. Path (start limits) z (done_with limits p)) e (program_path limits p)) ∙ ap (λ z. reads z) g

  -- a beginning leads to a reader
  leads : (front : List Sign) → BeginsWithin limits front → (mid : Reader) × Path (start limits) (unmarked front) mid
  leads front (p, more, e) =
      let two = split (unmarked front) more (start limits) (done_with limits p) (subst (λ z. Path (start limits) z (done_with limits p)) e (program_path limits p)) in
      (two.0, two.1)

  end_refuses : (front : List Sign) (mid : Reader) → Path (start limits) (unmarked front) mid → ¬ IsProgram limits front → (o : Option SourceNet) → net_of mid.state ≡ o → whole mid o ≡ refused E02 []
  end_refuses front mid path never (Some n) e =
      let p = program_read mid (unmarked front) n (read_path (unmarked front) mid path) (done_state mid.state n e) in
      absurd (never (p.0, ap signs p.1 ∙ signs_unmarked front))
  end_refuses front mid path never None e = refl

  sign_refuses : (front rest : List Sign) (x : Sign) (mid : Reader) → Path (start limits) (unmarked front) mid → ¬ Begins limits (front ++ x ∷ []) → (t : Turn) → turn mid x ≡ t → after_turn x rest t ≡ refused E02 (x ∷ rest)
  sign_refuses front rest x mid path never (turns b next) e = absurd (never (begins_on front x mid next b path e))
  sign_refuses front rest x mid path never halts e = refl

  past_refuses : (front rest : List Sign) (x : Sign) → BeginsPast limits front x → run (start limits) (front ++ x ∷ rest) ≡ refused E03 (x ∷ rest)
  past_refuses front rest x (p, more, e) =
      let two = split (unmarked front) (marked true x ∷ more) (start limits) (done_with limits p) (subst (λ z. Path (start limits) z (done_with limits p)) e (program_path limits p)) in
      run_along front (x ∷ rest) (start limits) two.0 two.1 ∙ run_turn two.0 x rest (turns true two.2.0) two.2.1

  faulted : (c : Code) (front rest : List Sign) → IsFault limits c front rest → run (start limits) (front ++ rest) ≡ refused c rest
  faulted E02 front [] is =
      let at = leads front is.0 in
      run_along front [] (start limits) at.0 at.1 ∙ end_refuses front at.0 at.1 is.1 (net_of at.0.state) refl
  faulted E02 front (x ∷ rest) is =
      let at = leads front is.0 in
      run_along front (x ∷ rest) (start limits) at.0 at.1 ∙ run_turn at.0 x rest (turn at.0 x) refl ∙ sign_refuses front rest x at.0 at.1 is.1 (turn at.0 x) refl
  faulted E03 front (x ∷ rest) is = past_refuses front rest x is
  faulted c front rest is = absurd is

  decided : (s : List Sign) (o : Outcome) → IsOutcomeOfSigns limits s o → run (start limits) s ≡ answer_of s o
  decided s (tree source) is = decided_tree s source is
  decided s (fault c i) is = ap (run (start limits)) (sym (take-append-drop i s)) ∙ faulted c (take i s) (drop i s) is.1

  same_outcome : (s : List Sign) (o p : Outcome) → IsOutcomeOfSigns limits s o → IsOutcomeOfSigns limits s p → answer_of s o ≡ answer_of s p → o ≡ p
  same_outcome s (tree a) (tree b) x y e = let is : a ≡ b = cc in ap (λ z. tree z) is
  same_outcome s (tree a) (fault d j) x y e = cc
  same_outcome s (fault c i) (tree b) x y e = cc
  same_outcome s (fault c i) (fault d j) x y e =
      let code : c ≡ d = cc in
      let rest : drop i s ≡ drop j s = cc in
      let at : i ≡ j = omega (arith, x.0, y.0, ap length rest, length-drop i s, length-drop j s) in
      ap (λ z. fault z i) code ∙ ap (λ z. fault d z) at

  pub one_outcome : (s : List Sign) → (o : Outcome) × IsOutcomeOfSigns limits s o × ((p : Outcome) → IsOutcomeOfSigns limits s p → p ≡ o)
  one_outcome s =
      let o = found s (run (start limits) s) refl in
      (o.0, o.1, λ p is. same_outcome s p o.0 is o.1 (sym (decided s p is) ∙ decided s o.0 o.1))

  pub one_tree : (p q : GrammarProgram) → signs (spelling limits p) ≡ signs (spelling limits q) → (source_of limits p ≡ source_of limits q) × (spelling limits p ≡ spelling limits q)
  one_tree p q e =
      let k = same (spelling limits p) (spelling limits q) (start limits) (done_with limits p) (done_with limits q) (program_path limits p) (program_path limits q) e in
      let trees : reads (source_of limits p) ≡ reads (source_of limits q) = ap (λ r. whole r (net_of r.state)) k.1 in
      let tree : source_of limits p ≡ source_of limits q = cc in
      (tree, k.0)

  pub refused_outcome : (text : List ℕ) (i : ℕ) (tokens : List Token) (c : Code) → i ≤ length tokens → run (start limits) (signs_of text tokens) ≡ refused c (signs_of text (drop i tokens)) →
      IsOutcomeOfSigns limits (signs_of text tokens) (fault c i)
  refused_outcome text i tokens c le is =
      fault_outcome (signs_of text tokens) (signs_of text (drop i tokens)) c i (omega (arith, le, count_signs text tokens)) (drop_signs text i tokens) is

  pub parsing : (text : List ℕ) (tokens : List Token) (end : Place) (r : Result Source Fault) → GivesSource limits text tokens end r → IsParsing limits text tokens end r
  parsing text tokens end (Ok source) g = tree_outcome (signs_of text tokens) source g
  parsing text tokens end (Err (Refused r)) g = (g.0, refused_outcome text g.0 tokens r.code g.1 g.2, g.3, g.4)
  parsing text tokens end (Err (Memory e)) g = tt
