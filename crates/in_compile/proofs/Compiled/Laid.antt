-- The agents of a right member, laid one after another with their joints.
use Rattle.std.proofs.Common.{◌≡◌, ◌⊎◌, inl, inr, ◌<◌, ◌≤◌, ◌+◌, ℕ, true, Option, Some, None, List, [], ◌∷◌, ◌++◌, length, map, take, drop, slice_get, refl, sym, ap, subst, ◌∙◌, length-append, append_assoc, append-nil, length-drop, arith}
use Rattle.std.specs.Prelude.{option_map, option_and_then}
use Rattle.std.proofs.lemmas.Bool.{cases_lt}
use Rattle.std.proofs.lemmas.List.{take-append-le, drop-append-le, length-map}
use Rattle.std.proofs.lemmas.Option.{slice_get-map, slice_get_past}
use Rattle.std.proofs.Math.Seq.{take-append_seam}
use Rattle.in_base.proofs.Each.{at_index}
use Rattle.in_base.proofs.Places.{more_at}
use Rattle.in_syntax.specs.Grammar.{max_ports}
use Rattle.in_symbols.specs.Tables.{Tables}
use Rattle.in_syntax.specs.declared.symbol_no.SymbolNo.{SymbolNo}
use Rattle.in_net.specs.declared.nets.Cell.{Cell}
use Rattle.in_net.specs.declared.nets.FreeEnd.{FreeEnd}
use Rattle.in_net.specs.declared.nets.Point.TheVariants.{Free}
use Rattle.in_net.specs.Parts.{Parts, cell_in, symbol_in, partner_in}
use Rattle.in_compile.specs.declared.joints.Joint.{Joint}
use Rattle.in_arena.specs.declared.head.NewCell.{NewCell}
use Rattle.in_compile.specs.Cells.{is_of}
use Rattle.in_compile.specs.Storing.{ends_from, agent_from, agents_from, IsAgentOf, AddsAgent, AreLaidBelow}
use Rattle.in_compile.specs.Members.{AgentParts, joint_of}

-- the other ends of the wires at free ends
abbrev pub ends_of : List FreeEnd → List Joint
ends_of free = map (λ f. joint_of f.end) free

-- the other end of the wire at a free end
pub end_joint : (o : Option FreeEnd) → option_map (λ (f : FreeEnd). joint_of f.end) o ≡ option_map joint_of (option_map (λ (f : FreeEnd). f.end) o)
end_joint None = refl
end_joint (Some f) = refl

-- the ends in a list stay when the list gets longer
pub ends_kept : (joints more : List Joint) (a : NewCell) → a.mark + a.head.count ≤ length joints → ends_from (joints ++ more) a ≡ ends_from joints a
ends_kept joints more a within =
    let room : a.head.count ≤ length (drop a.mark joints) = omega (arith, within, length-drop a.mark joints) in
    let begin : a.mark ≤ length joints = omega (arith, within) in
    ap (take a.head.count) (drop-append-le a.mark joints more begin) ∙ take-append-le a.head.count (drop a.mark joints) more room

abbrev symbol_numbered : ℕ → SymbolNo
symbol_numbered s = record { 0 = s }

module _ (t : Tables) where
  pub agent_kept : (joints more : List Joint) (c : Cell) (a : NewCell) → IsAgentOf t joints c a → IsAgentOf t (joints ++ more) c a
  agent_kept joints more c a h = record {
    symbol = h.symbol;
    class = h.class;
    within = (let w = h.within in omega (arith, w, length-append joints more));
    ends = ends_kept joints more a h.within ∙ h.ends;
  }

  module _ (n : Parts) where
    pub none_laid : (joints : List Joint) → joints ≡ ends_of n.free → AreLaidBelow t n 0 [] joints
    none_laid joints e = record {
      count = refl;
      rest = [];
      ends = e ∙ sym (append-nil (ends_of n.free));
      each = λ k a s. cc;
      long = (let l = ap length e ∙ length-map n.free (λ (f : FreeEnd). joint_of f.end) in omega (arith, l));
    }

    pub one_laid : (x : ℕ) (c : Cell) (agents : List NewCell) (joints : List Joint) (more : List NewCell) (longer : List Joint) → slice_get n.cells x ≡ Some (Some c) → length c.ends ≤ max_ports + 1 →
        AreLaidBelow t n x agents joints → AddsAgent t c agents joints more longer → AreLaidBelow t n (x + 1) more longer
    one_laid x c agents joints more longer stands few h adds = record {
      count = ap length adds.added ∙ length-append agents (adds.agent ∷ []) ∙ ap (λ z. z + 1) h.count;
      rest = h.rest ++ map joint_of c.ends;
      ends = adds.joints_are ∙ ap (λ z. z ++ map joint_of c.ends) h.ends ∙ append_assoc (ends_of n.free) h.rest (map joint_of c.ends);
      each = λ k a s. go k a (more_at agents adds.agent a k (sym (ap (λ z. slice_get z k) adds.added) ∙ s));
      long = (let l = h.long in let m = ap length adds.joints_are ∙ length-append joints (map joint_of c.ends) in let e = length-map c.ends joint_of in omega (arith, l, m, e, few));
    }
      where
        go : (k : ℕ) (a : NewCell) → (slice_get agents k ≡ Some a) ⊎ ((k ≡ length agents) × (adds.agent ≡ a)) → (d : Cell) × (slice_get n.cells k ≡ Some (Some d)) × IsAgentOf t longer d a
        go k a (inl s) =
            let before = h.each k a s in
            (before.0, before.1, subst (λ (z : List Joint). IsAgentOf t z before.0 a) (sym adds.joints_are) (agent_kept joints (map joint_of c.ends) before.0 a before.2))
        go k a (inr s) =
            let at : k ≡ x = s.0 ∙ h.count in
            (c, ap (slice_get n.cells) at ∙ stands, subst (λ (z : NewCell). IsAgentOf t longer c z) s.1 adds.of)

    -- ---- all of them

    module _ (agents : List NewCell) (joints : List Joint) (laid : AreLaidBelow t n (length n.cells) agents joints) where
      found : (k : ℕ) → k < length agents → (a : NewCell) × (c : Cell) × (slice_get (agents_from joints agents) k ≡ Some (agent_from joints a)) × (cell_in n k ≡ Some c) × IsAgentOf t joints c a
      found k l =
          let a = at_index agents k l in
          let c = laid.each k a.0 a.1 in
          (a.0, c.0, slice_get-map (agent_from joints) agents k ∙ ap (option_map (agent_from joints)) a.1, ap (λ (o : Option (Option Cell)). option_and_then (λ (c : Option Cell). c) o) c.1, c.2)

      past : (k : ℕ) → length agents ≤ k → (slice_get (agents_from joints agents) k ≡ None) × (cell_in n k ≡ None)
      past k l =
          let count = laid.count in (
            slice_get-map (agent_from joints) agents k ∙ ap (option_map (agent_from joints)) (slice_get_past agents k l),
            ap (λ (o : Option (Option Cell)). option_and_then (λ (c : Option Cell). c) o) (slice_get_past n.cells k (omega (arith, l, count))),
          )

      pub symbols_are : (k : ℕ) → option_map (λ (a : AgentParts). a.symbol) (slice_get (agents_from joints agents) k) ≡ symbol_in n k
      symbols_are k = go (cases_lt k (length agents))
        where
          go : (k < length agents) ⊎ (length agents ≤ k) → option_map (λ (a : AgentParts). a.symbol) (slice_get (agents_from joints agents) k) ≡ symbol_in n k
          go (inl l) =
              let f = found k l in
              ap (option_map (λ (a : AgentParts). a.symbol)) f.2 ∙ ap (λ (s : ℕ). Some (symbol_numbered s)) f.4.symbol ∙ sym (ap (option_map (λ (c : Cell). c.symbol)) f.3)
          go (inr l) = let f = past k l in ap (option_map (λ (a : AgentParts). a.symbol)) f.0 ∙ sym (ap (option_map (λ (c : Cell). c.symbol)) f.1)

      pub classes_are : (k : ℕ) (a : AgentParts) → slice_get (agents_from joints agents) k ≡ Some a → is_of t a.class a.symbol.0 ≡ true
      classes_are k a s = go (cases_lt k (length agents))
        where
          same : (b : AgentParts) → slice_get (agents_from joints agents) k ≡ Some b → b ≡ a
          same b e = let both : Some b ≡ Some a = sym e ∙ s in cc

          go : (k < length agents) ⊎ (length agents ≤ k) → is_of t a.class a.symbol.0 ≡ true
          go (inl l) =
              let f = found k l in
              subst (λ (b : AgentParts). is_of t b.class b.symbol.0 ≡ true) (same (agent_from joints f.0) f.2) (ap (is_of t f.0.class) f.4.symbol ∙ f.4.class)
          go (inr l) = let e : None ≡ Some a = sym (past k l).0 ∙ s in cc

      pub ends_are : (x i : ℕ) → option_and_then (λ (a : AgentParts). slice_get a.ends i) (slice_get (agents_from joints agents) x) ≡ option_map joint_of (option_and_then (λ (c : Cell). slice_get c.ends i) (cell_in n x))
      ends_are x i = go (cases_lt x (length agents))
        where
          go : (x < length agents) ⊎ (length agents ≤ x) →
              option_and_then (λ (a : AgentParts). slice_get a.ends i) (slice_get (agents_from joints agents) x) ≡ option_map joint_of (option_and_then (λ (c : Cell). slice_get c.ends i) (cell_in n x))
          go (inl l) =
              let f = found x l in
              ap (λ (o : Option AgentParts). option_and_then (λ (a : AgentParts). slice_get a.ends i) o) f.2 ∙ ap (λ (z : List Joint). slice_get z i) f.4.ends ∙ slice_get-map joint_of f.1.ends i
              ∙ sym (ap (λ (o : Option Cell). option_map joint_of (option_and_then (λ (c : Cell). slice_get c.ends i) o)) f.3)
          go (inr l) =
              let f = past x l in
              ap (λ (o : Option AgentParts). option_and_then (λ (a : AgentParts). slice_get a.ends i) o) f.0
              ∙ sym (ap (λ (o : Option Cell). option_map joint_of (option_and_then (λ (c : Cell). slice_get c.ends i) o)) f.1)

      -- ---- the boundary ends come first

      pub start_is : (boundary : ℕ) → boundary ≡ length n.free → take boundary joints ≡ ends_of n.free
      start_is boundary e =
          let long : boundary ≡ length (ends_of n.free) = e ∙ sym (length-map n.free (λ (f : FreeEnd). joint_of f.end)) in
          ap (λ z. take z joints) long ∙ ap (take (length (ends_of n.free))) laid.ends ∙ take-append_seam (ends_of n.free) laid.rest

      pub ends_within : length n.free ≤ length joints
      ends_within =
          let l = ap length laid.ends ∙ length-append (ends_of n.free) laid.rest in
          let m = length-map n.free (λ (f : FreeEnd). joint_of f.end) in
          omega (arith, l, m)

      pub boundary_is : (boundary : ℕ) → boundary ≡ length n.free → (e : ℕ) → slice_get (take boundary joints) e ≡ option_map joint_of (partner_in n (Free e))
      boundary_is boundary same e =
          ap (λ z. slice_get z e) (start_is boundary same) ∙ slice_get-map (λ (f : FreeEnd). joint_of f.end) n.free e ∙ end_joint (slice_get n.free e)
