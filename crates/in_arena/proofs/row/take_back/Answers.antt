use Rattle.std.proofs.Common.{◌≡◌, ◌∙◌, ap, get_or, set, Some, None, refl, sym, arith}
use Rattle.in_arena.specs.FreeLists.{vacancy}
use Rattle.in_arena.specs.Words.{head}
use Rattle.in_arena.specs.declared.content.End.{End}
use Rattle.in_arena.specs.declared.content.End.TheVariants.{Cell}
use Rattle.in_arena.specs.declared.free_list.FreeList.{FreeList}
use Rattle.in_arena.proofs.Filling.{changes_twice}
use Rattle.in_arena.proofs.Classes.{class_few}
use Rattle.in_arena.proofs.Rewriting.{free_few, next_few, head_filled, head_rewrites, one_freed, put_in}
use Rattle.in_arena.proofs.Rows.{with_word}
use Rattle.in_arena.proofs.row.take_back.Goals as goal

pub write-requires : goal.write-requires
write-requires c =
    let w = c.requires.words in let o = c.requires.one in let s = c.args.spot in let p = put_in c.args.words.now c.args.one s o w.2 c.join.new.self.slots c.join.ensures.1 in
    let h = head_filled c.join.new.self c.join.new.self s o.content o.index p.whole p.cell refl in
    (w.0 ∙ sym c.join.ensures.0, (Some h.0, ap (λ k. get_or c.join.new.self.slots k None) c.head.ensures ∙ h.1))

pub port-requires : goal.port-requires
port-requires c =
    let w = c.requires.words in let s = c.args.spot in let most = class_few s.cells w.1 s.class in
    (omega (arith, next_few s.cells s.class c.args.words.now c.args.lists.now w.2 c.requires.lists, most.0, ap (λ (l : FreeList). l.next) c.of-list.ensures), omega arith)

pub push-requires : goal.push-requires
push-requires c =
    let w = c.requires.words in let s = c.args.spot in let most = class_few s.cells w.1 s.class in
    let few = free_few s.cells s.class c.args.words.now c.args.lists.now w.2 c.requires.lists in
    omega (arith, few, most.0)

pub returns : goal.returns
returns c =
    let w = c.requires.words in let o = c.requires.one in let s = c.args.spot in let words = c.args.words.now in let both = c.join.new.self in
    let p = put_in words c.args.one s o w.2 both.slots c.join.ensures.1 in
    let h : End = Cell (record { 0 = c.of-list.result.next }) 0 in
    let at : c.write.new.self.slots ≡ with_word s.cells both.slots s.class s.index head h = c.write.ensures.1 ∙ ap (λ n. set both.slots n (Some (Some c.port.result))) c.head.ensures ∙ ap (λ e. with_word s.cells both.slots s.class s.index head e) c.port.ensures in
    let r = head_rewrites both c.write.new.self s o.content o.index p.whole p.cell c.write.ensures.0 h tt at in
    let z = one_freed s.cells s.class words c.args.lists.now w.2 c.requires.lists s.index o.index (ap vacancy o.out) c.write.new.self c.push.new.self (record { word = c.of-list.result.next; count = 0; ends = o.content.ends })
    (changes_twice s.cells words.slots both.slots c.write.new.self.slots s.class s.index p.changes r.changes) r.cell refl (ap (λ (l : FreeList). l.next) c.of-list.ensures)
    c.push.ensures.class c.push.ensures.others in
    record { same = c.write.ensures.0 ∙ c.join.ensures.0; whole = r.whole; free = z.0; rows = z.1 }
