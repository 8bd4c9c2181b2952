use Rattle.std.proofs.Common.{◌≡◌, ◌∙◌, ◌≤◌, ◌<◌, ℕ, List, ap, sym, subst, refl, arith, eq-eqb, get_or, None}
use Rattle.std.specs.Prelude.{Bool, true, false, IsTrue, nat_eq, not}
use Rattle.std.proofs.lemmas.Bool.{eqb-true}
use Rattle.in_arena.specs.Arenas.{state_at}
use Rattle.in_arena.specs.FreeLists.{state_of, with_ends}
use Rattle.in_arena.specs.States.{IsLive, IsLeased}
use Rattle.in_arena.specs.declared.content.End.{End}
use Rattle.in_arena.specs.declared.free_list.FreeList.{FreeList}
use Rattle.in_arena.proofs.FreeLists.{live_or}
use Rattle.in_arena.proofs.Inside.{inside_all, near_spot, never_used, used_here}
use Rattle.in_arena.proofs.Rewriting.{count_of_head}
use Rattle.in_arena.proofs.Rows.{state_is}
use Rattle.in_arena.proofs.arena.Arena.is_live.Goals as goal

-- a cell is live if its count isn't 0
tested : (w n : ℕ) (es : List End) (b : Bool) → nat_eq n 0 ≡ b → (IsTrue (not b) → IsLive (with_ends n w es)) × (IsLive (with_ends n w es) → IsTrue (not b))
tested w n es true e = (λ t. absurd (let f : false ≡ true = t in cc), λ live. absurd ((live_or w n es).0 (eqb-true n 0 e) live))
tested w n es false e = (λ t. (live_or w n es).1 (λ z. (let f : false ≡ true = sym e ∙ eq-eqb n 0 z in cc)), λ live. refl)

pub spot_of-spot-requires : goal.spot_of-spot-requires
spot_of-spot-requires c = (c.self.invariant.few, inside_all c.self.inside c.self.invariant c.args.self.now c.self.view_is c.args.cell.0 c.requires.there)

pub returns-then-of-spot : goal.returns-then-of-spot
returns-then-of-spot c =
    let a = c.self.inside in let h = c.self.invariant in let n = c.args.cell.0 in let s = c.spot_of-spot.result in let p = c.spot_of-spot.ensures.1 in
    let free = ap (λ w. state_at w n) (sym c.self.view_is) ∙ state_is a.words.at a.cells a.words.slots n s.class s.index p ∙ ap state_of (never_used a h s.class s.index (subst (λ (l : FreeList). l.fresh ≤ s.index) c.of.ensures c.if-of-spot.true) p.0) in
    (λ t. absurd (let f : false ≡ true = t in cc), λ live. absurd (subst IsLive free live))

pub head_of-requires : goal.head_of-requires
head_of-requires c =
    let a = c.self.inside in let h = c.self.invariant in let n = c.args.cell.0 in let s = c.spot_of-spot.result in let p = c.spot_of-spot.ensures.1 in
    let out = subst (λ x. IsLeased x → ⊥) (ap (λ w. state_at w n) (sym c.self.view_is) ∙ state_is a.words.at a.cells a.words.slots n s.class s.index p) c.requires.not_leased in
    let x = used_here a h s.class s.index p.0 (subst (λ (l : FreeList). s.index < l.fresh) c.of.ensures c.if-of-spot.false) out in
    (sym h.block.0, (x.head, ap (λ k. get_or a.words.slots k None) (near_spot a.cells n s.class s.index 3 p (omega arith)) ∙ x.at))

pub returns : goal.returns
returns c =
    let a = c.self.inside in let h = c.self.invariant in let n = c.args.cell.0 in let s = c.spot_of-spot.result in let p = c.spot_of-spot.ensures.1 in
    let is = ap (λ w. state_at w n) (sym c.self.view_is) ∙ state_is a.words.at a.cells a.words.slots n s.class s.index p in
    let x = used_here a h s.class s.index p.0 (subst (λ (l : FreeList). s.index < l.fresh) c.of.ensures c.if-of-spot.false) (subst (λ x. IsLeased x → ⊥) is c.requires.not_leased) in
    let f = x.says c.head_of.result (ap (λ k. get_or a.words.slots k None) (sym (near_spot a.cells n s.class s.index 3 p (omega arith))) ∙ c.head_of.ensures) in
    let same : c.place.result ≡ x.content.count = count_of_head c.head_of.result c.place.result f.1 c.place.ensures ∙ f.0 in
    let now = is ∙ ap state_of x.is in
    let t = tested x.content.word x.content.count x.content.ends (nat_eq c.place.result 0) (ap (λ k. nat_eq k 0) (sym same)) in
    (λ e. subst IsLive (sym now) (t.0 e), λ live. t.1 (subst IsLive now live))
