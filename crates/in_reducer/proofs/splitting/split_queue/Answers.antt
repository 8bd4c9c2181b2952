use Rattle.std.proofs.Common.{◌≡◌, ◌<◌, ◌+◌, ℕ, suc, Bool, true, false, cond, List, [], ◌∷◌, ◌++◌, length, map, take, drop, refl, sym, ap, ◌∙◌, append_assoc, arith}
use Rattle.in_reducer.specs.PairQueues.{QueueParts}
use Rattle.std.specs.List.{filter}
use Rattle.std.proofs.lemmas.List.{append-nil, length-map, map-append}
use Rattle.in_arena.specs.Arenas.{state_at}
use Rattle.in_arena.specs.States.{State, Vacant, Leased, Live, IsLive}
use Rattle.in_interaction.specs.Queues.{both}
use Rattle.in_cells.specs.Copying.{name_in}
use Rattle.in_reducer.specs.Splitting.{goes, is_gone, is_there, stays}
use Rattle.in_reducer.proofs.Pairs.QueueSplit.{filter_next, next_of, room_for}
use Rattle.in_reducer.proofs.splitting.split_queue.Goals as goal
use Rattle.in_reducer.proofs.splitting.split_queue.Goals.{then-is_live, else-is_live}

live_stays : (x : State) → IsLive x → (is_there x ≡ true) × (is_gone x ≡ false)
live_stays Vacant h = absurd h
live_stays Leased h = absurd h
live_stays (Live w es) h = (refl, refl)

other_goes : (x : State) → (IsLive x → ⊥) → (is_there x ≡ false) × (is_gone x ≡ true)
other_goes Vacant h = (refl, refl)
other_goes Leased h = (refl, refl)
other_goes (Live w es) h = absurd (h tt)

pub is_live-requires-clause-there : goal.is_live-requires-clause-there
is_live-requires-clause-there c =
    let q = c.pop_front-one.result in
    let x = c.loop-pair._pair in
    let old = c.args.queue.now.items in
    let r = c.loop-pair.invariant in
    let low : x < length old = (let t = c.loop-pair-test.true in let e = c.len-pair-end.ensures in omega (arith, t, e)) in
    let next = next_of old (filter (stays c.args.arena.now) (take x old)) c.pop_front-one.new.self.items x q low (sym r.rest ∙ c.pop_front-one.ensures.items) in
    c.requires.there x q next.0

pub is_live-requires-clause-not_leased : goal.is_live-requires-clause-not_leased
is_live-requires-clause-not_leased c =
    let q = c.pop_front-one.result in
    let x = c.loop-pair._pair in
    let old = c.args.queue.now.items in
    let r = c.loop-pair.invariant in
    let low : x < length old = (let t = c.loop-pair-test.true in let e = c.len-pair-end.ensures in omega (arith, t, e)) in
    let next = next_of old (filter (stays c.args.arena.now) (take x old)) c.pop_front-one.new.self.items x q low (sym r.rest ∙ c.pop_front-one.ensures.items) in
    c.requires.none q.0 (c.requires.there x q next.0)

pub pair_named-requires : goal.pair_named-requires
pair_named-requires c =
    let q = c.pop_front-one.result in
    let x = c.loop-pair._pair in
    let old = c.args.queue.now.items in
    let r = c.loop-pair.invariant in
    let low : x < length old = (let t = c.loop-pair-test.true in let e = c.len-pair-end.ensures in omega (arith, t, e)) in
    let next = next_of old (filter (stays c.args.arena.now) (take x old)) c.pop_front-one.new.self.items x q low (sym r.rest ∙ c.pop_front-one.ensures.items) in
    c.requires.names x q next.0

pub push_back_reserved-requires-else-is_live : goal.push_back_reserved-requires-else-is_live
push_back_reserved-requires-else-is_live c =
    let q : ℕ × ℕ = c.pop_front-one.result in
    let x = c.loop-pair._pair in
    let old = c.args.queue.now.items in
    let a = c.args.arena.now in
    let r = c.loop-pair.invariant in
    let low : x < length old = (let t = c.loop-pair-test.true in let e = c.len-pair-end.ensures in omega (arith, t, e)) in
    let next = next_of old (filter (stays a) (take x old)) c.pop_front-one.new.self.items x q low (sym r.rest ∙ c.pop_front-one.ensures.items) in
    let other = other_goes (state_at a q.0) (λ live. (let f : false ≡ true = c.if-is_live.ensures.1 live in cc)) in
    let room = room_for (goes a) old x q next.0 other.1 in
    let long = ap length r.part ∙ length-map (filter (goes a) (take x old)) (both (name_in c.args.names.now)) in
    let all = c.requires.part.1 in
    let kept = r.part_room in
    omega (arith, room, long, all, kept)

pub loop-pair-preserved : goal.loop-pair-preserved
loop-pair-preserved c =
    let q : ℕ × ℕ = c.pop_front-one.result in
    let x = c.loop-pair._pair in
    let old = c.args.queue.now.items in
    let a = c.args.arena.now in
    let ns = c.args.names.now in
    let r = c.loop-pair.invariant in
    let low : x < length old = (let t = c.loop-pair-test.true in let e = c.len-pair-end.ensures in omega (arith, t, e)) in
    let more : x + 1 ≡ suc x = omega arith in
    let next = next_of old (filter (stays a) (take x old)) c.pop_front-one.new.self.items x q low (sym r.rest ∙ c.pop_front-one.ensures.items) in
    let stay = filter_next (stays a) old x q next.0 in
    let go = filter_next (goes a) old x q next.0 in
    elim c.if-is_live.branch [
      | then-is_live w ↦ (
          let is = live_stays (state_at a q.0) (w.if-is_live.ensures.0 refl) in
          record {
            rest = ap (λ z. z.items) w.queue-is ∙ w.push_back_reserved.ensures.items ∙ ap (λ (zs : List (ℕ × ℕ)). zs ++ q ∷ []) next.1
                ∙ append_assoc (drop (suc x) old) (filter (stays a) (take x old)) (q ∷ [])
                ∙ ap (λ (zs : List (ℕ × ℕ)). drop (suc x) old ++ zs) (ap (λ (b : Bool). filter (stays a) (take x old) ++ cond b (q ∷ []) []) (sym is.0) ∙ sym stay)
                ∙ ap (λ (z : ℕ). drop z old ++ filter (stays a) (take z old)) (sym more);
            part = ap (λ z. z.items) w.part-is ∙ r.part ∙ ap (map (both (name_in ns))) (
                sym (append-nil (filter (goes a) (take x old))) ∙ ap (λ (b : Bool). filter (goes a) (take x old) ++ cond b (q ∷ []) []) (sym is.1) ∙ sym go
                ∙ ap (λ (z : ℕ). filter (goes a) (take z old)) (sym more)
                );
            rest_room = ap (λ (z : QueueParts). z.room) w.queue-is ∙ w.push_back_reserved.ensures.capacity ∙ c.pop_front-one.ensures.capacity ∙ r.rest_room;
            part_room = ap (λ (z : QueueParts). z.room) w.part-is ∙ r.part_room;
          }
          )
      | else-is_live w ↦ (
          let is = other_goes (state_at a q.0) (λ live. (let f : false ≡ true = w.if-is_live.ensures.1 live in cc)) in
          record {
            rest = ap (λ z. z.items) w.queue-is ∙ next.1
                ∙ ap (λ (zs : List (ℕ × ℕ)). drop (suc x) old ++ zs) (sym (append-nil (filter (stays a) (take x old))) ∙ ap (λ (b : Bool). filter (stays a) (take x old) ++ cond b (q ∷ []) []) (sym is.0) ∙ sym stay)
                ∙ ap (λ (z : ℕ). drop z old ++ filter (stays a) (take z old)) (sym more);
            part = ap (λ z. z.items) w.part-is ∙ w.push_back_reserved-else-is_live.ensures.items ∙ ap (λ (p : ℕ × ℕ). c.loop-pair.part.items ++ p ∷ []) w.pair_named.ensures ∙ ap (λ (zs : List (ℕ × ℕ)). zs ++ both (name_in ns) q ∷ []) r.part
                ∙ sym (map-append (both (name_in ns)) (filter (goes a) (take x old)) (q ∷ []))
                ∙ ap (map (both (name_in ns))) (
                ap (λ (b : Bool). filter (goes a) (take x old) ++ cond b (q ∷ []) []) (sym is.1) ∙ sym go ∙ ap (λ (z : ℕ). filter (goes a) (take z old)) (sym more)
                );
            rest_room = ap (λ (z : QueueParts). z.room) w.queue-is ∙ c.pop_front-one.ensures.capacity ∙ r.rest_room;
            part_room = ap (λ (z : QueueParts). z.room) w.part-is ∙ w.push_back_reserved-else-is_live.ensures.capacity ∙ r.part_room;
          }
          )
    ]
