use Rattle.std.proofs.Common.{◌≡◌, List, [], ◌∷◌, ◌++◌, length, refl, sym, ap, ◌∙◌, arith, rules}
use Rattle.std.specs.Option.{option_to_list}
use Rattle.std.proofs.lemmas.List.{append_assoc, append-nil}
use Rattle.in_rounds.specs.declared.threads.Begun.{Begun}
use Rattle.in_rounds.specs.declared.threads.Begun.TheVariants.{There, Here}
use Rattle.in_rounds.proofs.Threading.{last_of, all_but_last, one_back, none_back, ready_by, worked_by, back_long, some_back, finish}
use Rattle.in_rounds.proofs.threads.fn.all.scope.Goals as goal

pub loop-part-init : goal.loop-part-init
loop-part-init g c = record {
  back = [];
  others = sym (append-nil c.captures.others.items);
  begun = c.requires.3;
  ready = c.requires.1;
  threads = omega arith;
  room = omega (arith, c.requires.4, ap length c.requires.3, c.captures.begun.ok.0);
}

pub spawn_with-requires-clause-runs : goal.spawn_with-requires-clause-runs
spawn_with-requires-clause-runs g c κs within =
    let split = c.pop.ensures.items ∙ ap (λ r. c.pop.new.self.items ++ option_to_list r) c.in-Some.is in
    last_of (g.W.Work.is_ready c.captures.work.now) c.loop-part.others.items c.pop.new.self.items c.in-Some.part split c.loop-part.invariant.ready

pub loop-part-preserved-in-Ok : goal.loop-part-preserved-in-Ok
loop-part-preserved-in-Ok g c =
    let split = c.pop.ensures.items ∙ ap (λ r. c.pop.new.self.items ++ option_to_list r) c.in-Some.is in
    let v = c.loop-part.invariant in let p = c.in-Some.part in
    let work : c.in-Ok.handle.promise.work.value ≡ c.captures.work.now = (λ i. (c.in-Ok.ensures.ok i).work.value) ∙ c.of.ensures in
    let part : c.in-Ok.handle.promise.part.value ≡ p = (λ i. (c.in-Ok.ensures.ok i).part.value) ∙ c.of-in-Some.ensures in
    record {
      back = p ∷ v.back;
      others = v.others ∙ ap (λ (l : List g.row.P.Denot). l ++ v.back) split ∙ append_assoc c.pop.new.self.items (p ∷ []) v.back;
      begun = (There c.in-Ok.handle, c.loop-part.begun.items, c.push_reserved.ensures.items, (work, part), v.begun);
      ready = all_but_last (g.W.Work.is_ready c.captures.work.now) c.loop-part.others.items c.pop.new.self.items p split v.ready;
      threads = omega (arith, v.threads);
      room = omega (arith, v.room, c.push_reserved.ensures.len, c.push_reserved.ensures.capacity, c.in-Some.ensures.cases);
    }

pub run-requires : goal.run-requires
run-requires g c κs within =
    let split = c.pop.ensures.items ∙ ap (λ r. c.pop.new.self.items ++ option_to_list r) c.in-Some.is in
    let ready = last_of (g.W.Work.is_ready c.captures.work.now) c.loop-part.others.items c.pop.new.self.items c.in-Some.part split c.loop-part.invariant.ready in
    let err = c.in-Err.ensures.err in
    let here : g.W.Work.is_ready c.in-Err.refused.value.0.now c.in-Err.refused.value.1 =
    ready_by g.row.P.Denot g.row.W.Denot g.W.Work.is_worked g.W.Work.is_ready _ c.captures.work.now _ c.in-Some.part (λ i. (err i).0.now) (λ i. (err i).1) ready
    in
    search rules

pub loop-part-preserved : goal.loop-part-preserved
loop-part-preserved g c =
    let split = c.pop.ensures.items ∙ ap (λ r. c.pop.new.self.items ++ option_to_list r) c.in-Some.is in
    let v = c.loop-part.invariant in let p = c.in-Some.part in let err = c.in-Err.ensures.err in
    let worked = worked_by g.row.P.Denot g.row.W.Denot g.W.Work.is_worked _ c.captures.work.now _ p c.run.result (λ i. (err i).0.now) (λ i. (err i).1) c.run.ensures in
    record {
      back = p ∷ v.back;
      others = v.others ∙ ap (λ (l : List g.row.P.Denot). l ++ v.back) split ∙ append_assoc c.pop.new.self.items (p ∷ []) v.back;
      begun = (Here c.run.result, c.loop-part.begun.items, c.push_reserved-in-Err.ensures.items, worked, v.begun);
      ready = all_but_last (g.W.Work.is_ready c.captures.work.now) c.loop-part.others.items c.pop.new.self.items p split v.ready;
      threads = omega (arith, v.threads);
      room = omega (arith, v.room, c.push_reserved-in-Err.ensures.len, c.push_reserved-in-Err.ensures.capacity, c.in-Some.ensures.cases);
    }

pub loop-one-init : goal.loop-one-init
loop-one-init g c =
    let v = c.loop-part.invariant in
    let long = back_long g.row.P.Denot g.row.W.Denot g.W.Work.is_worked c.captures.work.now c.captures.others.items c.loop-part.others.items v.back c.loop-part.begun.items v.others v.begun in
    record {
      got = [];
      done = sym (append-nil c.push_reserved-2.new.self.items);
      ends = λ w all m. none_back g.row.P.Denot g.row.W.Denot g.W.Work.is_worked w all c.loop-part.begun.items m;
      room = omega (arith, long, c.push_reserved-2.ensures.len, c.push_reserved-2.ensures.capacity, c.requires.6, ap length c.requires.5, c.captures.done.ok.0, c.captures.others.ok.0, c.loop-part.begun.ok.0);
    }

pub loop-one-preserved-in-There : goal.loop-one-preserved-in-There
loop-one-preserved-in-There g c =
    let v = c.loop-one.invariant in let h = c.in-There.handle in let q = c.join.result in
    let split = c.pop-in-loop-one.ensures.items ∙ ap (λ r. c.pop-in-loop-one.new.self.items ++ option_to_list r) c.in-Some-pop.is ∙ ap (λ (b : Begun g.row.P.Denot g.row.W.Denot). c.pop-in-loop-one.new.self.items ++ b ∷ []) c.in-There.is in
    record {
      got = v.got ++ q ∷ [];
      done = c.push_reserved-in-There.ensures.items ∙ ap (λ (l : List g.row.P.Denot). l ++ q ∷ []) v.done ∙ append_assoc c.push_reserved-2.new.self.items v.got (q ∷ []);
      ends = λ w all m. one_back g.row.P.Denot g.row.W.Denot g.W.Work.is_worked w all v.got (v.got ++ q ∷ []) c.loop-one.begun.items c.pop-in-loop-one.new.self.items (There h) q split refl
          (λ p is. worked_by g.row.P.Denot g.row.W.Denot g.W.Work.is_worked h.promise.work.value w h.promise.part.value p q is.0 is.1 c.join.ensures) (v.ends w all m);
      room = omega (arith, v.room, c.push_reserved-in-There.ensures.len, c.push_reserved-in-There.ensures.capacity, c.in-Some-pop.ensures.cases);
    }

pub loop-one-preserved : goal.loop-one-preserved
loop-one-preserved g c =
    let v = c.loop-one.invariant in let q = c.in-Here.part in
    let split = c.pop-in-loop-one.ensures.items ∙ ap (λ r. c.pop-in-loop-one.new.self.items ++ option_to_list r) c.in-Some-pop.is ∙ ap (λ (b : Begun g.row.P.Denot g.row.W.Denot). c.pop-in-loop-one.new.self.items ++ b ∷ []) c.in-Here.is in
    record {
      got = v.got ++ q ∷ [];
      done = c.push_reserved-in-Here.ensures.items ∙ ap (λ (l : List g.row.P.Denot). l ++ q ∷ []) v.done ∙ append_assoc c.push_reserved-2.new.self.items v.got (q ∷ []);
      ends = λ w all m. one_back g.row.P.Denot g.row.W.Denot g.W.Work.is_worked w all v.got (v.got ++ q ∷ []) c.loop-one.begun.items c.pop-in-loop-one.new.self.items (Here q) q split refl (λ p is. is) (v.ends w all m);
      room = omega (arith, v.room, c.push_reserved-in-Here.ensures.len, c.push_reserved-in-Here.ensures.capacity, c.in-Some-pop.ensures.cases);
    }

pub returns : goal.returns
returns g c =
    let v = c.loop-part.invariant in let w = c.loop-one.invariant in
    let none : length c.loop-part.others.items ≡ 0 = omega (arith, c.in_default.ensures.cases.0, c.loop-part.others.ok.0) in
    let empty : length c.loop-one.begun.items ≡ 0 = omega (arith, c.in_default-pop.ensures.cases.0, c.loop-one.begun.ok.0) in
    let first = c.push_reserved-2.ensures.items ∙ ap (λ (l : List g.row.P.Denot). l ++ c.work.result ∷ []) c.requires.5 in (
      finish g.row.P.Denot g.row.W.Denot g.W.Work.is_worked c.captures.work.now c.captures.mine c.work.result c.captures.others.items c.loop-part.others.items v.back w.got c.loop-one.done.items c.push_reserved-2.new.self.items c.loop-part.begun.items c.loop-one.begun.items
          v.others none v.begun w.ends empty c.work.ensures first w.done,
      omega (arith, v.threads, some_back c.captures.others.items c.loop-part.others.items v.back v.others, c.captures.others.ok.0),
    )
