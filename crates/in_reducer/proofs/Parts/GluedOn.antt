-- A reducer, and a part that is glued on to it, as contracts see both.
use Rattle.std.proofs.Common.{◌≡◌, ◌≤◌, ◌+◌, ◌-◌, ◌*◌, ℕ, length, sym, ap, subst, ◌∙◌, arith}
use Rattle.std.proofs.lemmas.List.{length-map}
use Rattle.in_arena.specs.Classes.{all_of, amount, classes}
use Rattle.in_arena.specs.declared.content.CellClass.TheVariants.{Large, Small, Wide}
use Rattle.in_arena.specs.declared.content.CellClass.{CellClass}
use Rattle.in_compile.specs.Cells.{agents_of, count_of}
use Rattle.in_reducer.specs.declared.body.Body.{Body}
use Rattle.in_reducer.specs.Gluing.{CanAppend}
use Rattle.in_reducer.specs.Inside.{KeepsNet, reducer_view}
use Rattle.in_reducer.specs.Machines.{MachineParts}
use Rattle.in_reducer.specs.Parting.{IsGluedOn}
use Rattle.in_reducer.specs.Standing.{rested}
use Rattle.in_reducer.proofs.Cells.Counted.{cells_at_rest}
use Rattle.in_reducer.proofs.Cuts.CutOff.{free_many}

-- the free ends of both, and that the part can be glued on
pub record AreApart (r o : Body) (own cuts : ℕ) : Type 0 where
  pub rest : length r.free.items ≡ own + cuts
  pub part : length o.free.items ≡ cuts
  pub can : CanAppend (reducer_view r) (reducer_view o)

pub known : (r o : Body) → KeepsNet r → KeepsNet o → (m p : MachineParts) → reducer_view r ≡ m → reducer_view o ≡ p → (all cuts : ℕ) → all ≡ length m.free → cuts ≡ length p.free → length p.free ≤ length m.free → CanAppend m p →
    AreApart r o (all - cuts) cuts
known r o k l m p is_rest is_part all cuts many_rest many_part fewer can = record {
  rest = (let many = free_many r k in let v = ap (λ (z : MachineParts). length z.free) is_rest in omega (arith, many, v, many_rest, many_part, fewer));
  part = (let many = free_many o l in let v = ap (λ (z : MachineParts). length z.free) is_part in omega (arith, many, v, many_part));
  can = subst (λ (z : MachineParts). CanAppend z (reducer_view o)) (sym is_rest) (subst (CanAppend m) (sym is_part) can);
}

-- the number of cells of a class
abbrev pub cells_for : CellClass → MachineParts → ℕ
cells_for c m = count_of m.vacant c + agents_of m.program.tables c m.agents

-- as many names as the part has cells
pub names_fit : (o : Body) → KeepsNet o → (p : MachineParts) → reducer_view o ≡ p → (size names : ℕ) → ((c : CellClass) → cells_for c p ≤ size) → length classes * size ≤ names → length o.arena.states ≤ names
names_fit o l p view size names few fits =
    let many : length o.arena.states ≡ all_of o.arena.cells = sym (length-map o.arena.states rested) ∙ l.net.all in
    let each : (c : CellClass) → amount o.arena.cells c ≤ size = λ c. (let all = cells_at_rest o.checked.now.program.tables o.arena l.net c in let v = ap (cells_for c) view in omega (arith, all, v, few c)) in
    omega (arith, each Small, each Large, each Wide, many, fits)

-- the same, as contracts see both
pub glued_there : (r m o p : MachineParts) (own n cuts many : ℕ) (new : MachineParts) → r ≡ m → o ≡ p → own ≡ n → cuts ≡ many → IsGluedOn r o own cuts new → IsGluedOn m p n many new
glued_there r m o p own n cuts many new is_rest is_part is_own is_cuts h =
    subst (λ (z : MachineParts). IsGluedOn z p n many new) is_rest
    (subst (λ (z : MachineParts). IsGluedOn r z n many new) is_part (subst (λ (z : ℕ). IsGluedOn r o z many new) is_own (subst (λ (z : ℕ). IsGluedOn r o own z new) is_cuts h)))
