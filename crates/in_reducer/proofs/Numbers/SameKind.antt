-- Being the same up to the numbers of agents is an equivalence of machines.
use Rattle.std.proofs.Common.{◌≡◌, ℕ, IsSome, List, [], ◌∷◌, map, refl, sym, ap, ◌∙◌}
use Rattle.in_net.specs.Nets.{Point, Port, Free, Net, net_of, signature_of}
use Rattle.in_net.specs.Renaming.{renamed, IsRenamed}
use Rattle.in_check.proofs.Public.{renamed_self}
use Rattle.in_base.proofs.Places.{is_some as there}
use Rattle.in_interaction.proofs.Public.{has_value, symbol_number}
use Rattle.in_net.specs.Parts.{symbol_in}
use Rattle.in_interaction.specs.Queues.{both}
use Rattle.in_reducer.specs.NameLaws.{EachIsTheSame, SameGoesThrough, AreSameIsAnEquivalence}
use Rattle.in_reducer.specs.Machines.{MachineParts, parts_of}
use Rattle.in_reducer.specs.Reducers.{IsReducer}
use Rattle.in_reducer.specs.Same.{IsSameMachine, AreSame}
use Rattle.in_reducer.proofs.Numbers.Between.{between, from_to, renamed_between}
use Rattle.in_reducer.proofs.Numbers.SameStep.{map_same, map_twice}
use Rattle.in_reducer.proofs.Steps.StepsOn.{net_at}

-- pairs under their own numbers
map_self : (qs : List (ℕ × ℕ)) → map (both (λ x. x)) qs ≡ qs
map_self [] = refl
map_self (q ∷ qs) = ap (λ (zs : List (ℕ × ℕ)). q ∷ zs) (map_self qs)

-- ---- under one name after another

module _ (f g : ℕ → ℕ) (a b c : Net ℕ) (one : IsRenamed f a b) (two : IsRenamed g b c) where
  twice : (p : Point ℕ) → renamed g (renamed f p) ≡ renamed (λ x. g (f x)) p
  twice (Port x i) = refl
  twice (Free k) = refl

  pub composed : IsRenamed (λ x. g (f x)) a c
  composed = record {
    apart = λ x y h k e. (
        let s = has_value (a.symbol x) h in
        let t = has_value (a.symbol y) k in
        one.apart x y h k (two.apart (f x) (f y) (there (b.symbol (f x)) s.0 ((one.agents (f x) s.0).1 (x, refl, s.1))) (there (b.symbol (f y)) t.0 ((one.agents (f y) t.0).1 (y, refl, t.1))) e)
        );
    agents = λ y s. (
      (λ e. (let z = (two.agents y s).0 e in let x = (one.agents z.0 s).0 z.2 in (x.0, ap g x.1 ∙ z.1, x.2))),
      (λ x. (two.agents y s).1 (f x.0, x.1, (one.agents (f x.0) s).1 (x.0, refl, x.2))),
    );
    wires = λ u v. (
      (λ e. (let w = (two.wires u v).0 e in let z = (one.wires w.0 w.1).0 w.4 in (z.0, z.1, sym (twice z.0) ∙ ap (renamed g) z.2 ∙ w.2, sym (twice z.1) ∙ ap (renamed g) z.3 ∙ w.3, z.4))),
      (λ z. (two.wires u v).1 (renamed f z.0, renamed f z.1, twice z.0 ∙ z.2, twice z.1 ∙ z.3, (one.wires (renamed f z.0) (renamed f z.1)).1 (z.0, z.1, refl, refl, z.4))),
    );
    free = two.free ∙ one.free;
  }

-- ---- machines

pub same_self : EachIsTheSame
same_self m = ((λ x. x), record { program = refl; net = renamed_self (net_of (parts_of m)); names = refl; queue = sym (map_self m.queue); vacant = refl })

pub same_through : SameGoesThrough
same_through m n o (f, h) (g, k) = (
  (λ x. g (f x)),
  record {
    program = k.program ∙ h.program;
    net = composed f g (net_of (parts_of m)) (net_of (parts_of n)) (net_of (parts_of o)) h.net k.net;
    names = k.names ∙ h.names;
    queue = k.queue ∙ ap (map (both g)) h.queue ∙ map_twice (both g) (both f) m.queue;
    vacant = k.vacant ∙ h.vacant;
  },
)

module _ (m n : MachineParts) (reducer : IsReducer m) (f : ℕ → ℕ) (h : IsSameMachine f m n) where
  back : ℕ → ℕ
  back = between (signature_of m.program.tables) (net_of (parts_of m)) (net_of (parts_of n)) (net_of (parts_of m)) (net_at m reducer) f (λ x. x) h.net (renamed_self (net_of (parts_of m)))

  back_to : (x : ℕ) → IsSome ((net_of (parts_of m)).symbol x) → back (f x) ≡ x
  unfolding back
  back_to = from_to (signature_of m.program.tables) (net_of (parts_of m)) (net_of (parts_of n)) (net_of (parts_of m)) (net_at m reducer) f (λ x. x) h.net (renamed_self (net_of (parts_of m)))

  queue_back : m.queue ≡ map (both back) n.queue
  queue_back =
      sym (map_self m.queue)
      ∙ map_same (both (λ x. x)) (λ q. both back (both f q)) m.queue (λ k q e. (
      let z = reducer.queue.pairs k q e in
      let one = back_to q.0 (there ((net_of (parts_of m)).symbol q.0) z.first.0 (symbol_number (symbol_in (parts_of m) q.0) z.first z.one)) in
      let two = back_to q.1 (there ((net_of (parts_of m)).symbol q.1) z.second.0 (symbol_number (symbol_in (parts_of m) q.1) z.second z.two)) in
      ap (λ (v : ℕ). let w : ℕ × ℕ = (v, q.1) in w) (sym one) ∙ ap (λ (v : ℕ). let w : ℕ × ℕ = (back (f q.0), v) in w) (sym two)
      ))
      ∙ sym (map_twice (both back) (both f) m.queue) ∙ ap (map (both back)) (sym h.queue)

  pub same_back : AreSame n m
  unfolding back
  same_back = (
    back,
    record {
      program = sym h.program;
      net = renamed_between (signature_of m.program.tables) (net_of (parts_of m)) (net_of (parts_of n)) (net_of (parts_of m)) (net_at m reducer) f (λ x. x) h.net (renamed_self (net_of (parts_of m)));
      names = sym h.names;
      queue = queue_back;
      vacant = sym h.vacant;
    },
  )

pub an_equivalence : AreSameIsAnEquivalence
an_equivalence = record { itself = same_self; back = λ m n machine s. same_back m n machine s.0 s.1; through = same_through }
