-- The agents of a net can be listed, each once, and so can its active pairs.
use Rattle.std.proofs.Common.{◌≡◌, ◌≢◌, ◌⊎◌, ℕ, zero, suc, Option, Some, None, IsSome, List, [], ◌∷◌, refl, sym, subst, ap, inl, inr, ◌∙◌}
use Rattle.std.specs.List.{AllByRecursion}
use Rattle.std.proofs.lemmas.Option.{same_Some}
use native.Mathlib.Decide.{ℕ_discrete}
use Rattle.in_base.specs.Lists.{IsAmong}
use Rattle.in_net.specs.Nets.{Point, Port, Free, Signature, Net, IsNet}
use Rattle.in_interaction.specs.Pieces.{AreDifferent}
use Rattle.in_net.proofs.Public.{symbol_of, port_agent, port_place}
use Rattle.in_check.specs.NetText.{AreAgents, IsQueue, agents_of}
use Rattle.in_base.proofs.Each.{all_of}
use Rattle.in_base.proofs.Places.{is_some}

among_or_not : (x : ℕ) (xs : List ℕ) → IsAmong x xs ⊎ (IsAmong x xs → ⊥)
among_or_not x [] = inr (λ h. h)
among_or_not x (y ∷ ys) = elim (ℕ_discrete y x) [
  | yes e ↦ inl (inl e)
  | no d ↦ elim (among_or_not x ys) [ inl h ↦ inl (inr h) | inr k ↦ inr (λ h. elim h [ inl e ↦ d e | inr m ↦ k m ]) ]
]

all_others : (x : ℕ) (xs : List ℕ) → (IsAmong x xs → ⊥) → AllByRecursion (λ y. x ≢ y) xs
all_others x xs out = all_of (λ y. x ≢ y) xs (λ y a e. out (subst (λ z. IsAmong z xs) (sym e) a))

some_or_none : (o : Option ℕ) → IsSome o ⊎ (IsSome o → ⊥)
some_or_none None = inr (λ h. cc)
some_or_none (Some s) = inl refl

module _ (sig : Signature) (n : Net ℕ) (net : IsNet sig n) where
  -- those of these numbers that are agents, each once
  record Listed (xs : List ℕ) : Type 0 where
    agents : List ℕ
    there : (x : ℕ) → IsAmong x agents → IsSome (n.symbol x)
    all : (x : ℕ) → IsAmong x xs → IsSome (n.symbol x) → IsAmong x agents
    once : AreDifferent agents

  list : (xs : List ℕ) → Listed xs
  list [] = record { agents = []; there = λ x h. absurd h; all = λ x h s. h; once = tt }
  list (x ∷ xs) = go (list xs) (some_or_none (n.symbol x))
    where
      more : (r : Listed xs) → IsSome (n.symbol x) → IsAmong x r.agents ⊎ (IsAmong x r.agents → ⊥) → Listed (x ∷ xs)
      more r here (inl in_it) = record { agents = r.agents; there = r.there; all = λ y h s. elim h [ inl e ↦ subst (λ z. IsAmong z r.agents) e in_it | inr m ↦ r.all y m s ]; once = r.once }
      more r here (inr out) = record {
        agents = x ∷ r.agents;
        there = λ y h. elim h [ inl e ↦ subst (λ z. IsSome (n.symbol z)) e here | inr m ↦ r.there y m ];
        all = λ y h s. elim h [ inl e ↦ inl e | inr m ↦ inr (r.all y m s) ];
        once = (all_others x r.agents out, r.once);
      }

      go : Listed xs → IsSome (n.symbol x) ⊎ (IsSome (n.symbol x) → ⊥) → Listed (x ∷ xs)
      go r (inl here) = more r here (among_or_not x r.agents)
      go r (inr none) = record { agents = r.agents; there = r.there; all = λ y h s. elim h [ inl e ↦ absurd (none (subst (λ z. IsSome (n.symbol z)) (sym e) s)) | inr m ↦ r.all y m s ]; once = r.once }

  pub listed_agents : (xs : List ℕ) × AreAgents n xs
  listed_agents = (let r = list net.agents in (r.agents, record { all = λ x. ((λ h. r.all x (net.all x h) h), r.there x); once = r.once }))

  -- the active pairs of these agents, each once
  record Queued (xs : List ℕ) : Type 0 where
    queue : List (ℕ × ℕ)
    active : AllByRecursion (λ q. n.partner (Port q.0 0) ≡ Some (Port q.1 0)) queue
    all : (x y : ℕ) → IsAmong x xs → n.partner (Port x 0) ≡ Some (Port y 0) → IsAmong x (agents_of queue)
    once : AreDifferent (agents_of queue)

  -- with each agent its partner is queued
  both : (qs : List (ℕ × ℕ)) → AllByRecursion (λ q. n.partner (Port q.0 0) ≡ Some (Port q.1 0)) qs → (x y : ℕ) → IsAmong x (agents_of qs) → n.partner (Port x 0) ≡ Some (Port y 0) → IsAmong y (agents_of qs)
  both [] a x y h e = h
  both (q ∷ qs) a x y (inl same) e = inr (inl (port_agent q.1 y 0 0 (same_Some (Port q.1 0) (Port y 0) (sym a.0 ∙ ap (λ z. n.partner (Port z 0)) same ∙ e))))
  both (q ∷ qs) a x y (inr (inl same)) e = inl (port_agent q.0 y 0 0 (same_Some (Port q.0 0) (Port y 0) (sym (net.back (Port q.0 0) (Port q.1 0) a.0) ∙ ap (λ z. n.partner (Port z 0)) same ∙ e)))
  both (q ∷ qs) a x y (inr (inr m)) e = inr (inr (both qs a.1 x y m e))

  queue : (xs : List ℕ) → Queued xs
  queue [] = record { queue = []; active = tt; all = λ x y h e. h; once = tt }
  queue (x ∷ xs) = go (queue xs) (n.partner (Port x 0)) refl
    where
      -- x has no partner at a principal port, or is queued already
      as_before : (r : Queued xs) → ((y : ℕ) → n.partner (Port x 0) ≡ Some (Port y 0) → IsAmong x (agents_of r.queue)) → Queued (x ∷ xs)
      as_before r here = record {
        queue = r.queue;
        active = r.active;
        all = λ z y h e. elim h [ inl same ↦ subst (λ w. IsAmong w (agents_of r.queue)) same (here y (ap (λ w. n.partner (Port w 0)) same ∙ e)) | inr m ↦ r.all z y m e ];
        once = r.once;
      }

      more : (r : Queued xs) (y : ℕ) → n.partner (Port x 0) ≡ Some (Port y 0) → IsAmong x (agents_of r.queue) ⊎ (IsAmong x (agents_of r.queue) → ⊥) → Queued (x ∷ xs)
      more r y e (inl in_it) = as_before r (λ z f. in_it)
      more r y e (inr out) = record {
        queue = (x, y) ∷ r.queue;
        active = (e, r.active);
        all = λ z w h f. elim h [ inl same ↦ inl same | inr m ↦ inr (inr (r.all z w m f)) ];
        once = (
          ((λ same. net.apart (Port x 0) (e ∙ ap (λ z. Some (Port z 0)) (sym same))), all_others x (agents_of r.queue) out),
          (all_others y (agents_of r.queue) (λ m. out (both r.queue r.active y x m (net.back (Port x 0) (Port y 0) e))), r.once),
        );
      }

      go : Queued xs → (o : Option (Point ℕ)) → n.partner (Port x 0) ≡ o → Queued (x ∷ xs)
      go r None e = as_before r (λ y f. absurd (let z : ◌≡◌ {A = Option (Point ℕ)} None (Some (Port y 0)) = sym e ∙ f in cc))
      go r (Some (Free k)) e = as_before r (λ y f. absurd (let z : ◌≡◌ {A = Point ℕ} (Free k) (Port y 0) = same_Some (Free k) (Port y 0) (sym e ∙ f) in cc))
      go r (Some (Port y zero)) e = more r y e (among_or_not x (agents_of r.queue))
      go r (Some (Port y (suc i))) e = as_before r (λ w f. absurd (let z = port_place y w (suc i) 0 (same_Some (Port y (suc i)) (Port w 0) (sym e ∙ f)) in cc))

  pub queued_pairs : (qs : List (ℕ × ℕ)) × IsQueue n qs
  queued_pairs = (
      let r = queue net.agents in (
        r.queue,
        record {
          active = r.active;
          all = λ x y e. (let s = symbol_of sig (n.symbol x) 0 (net.points (Port x 0) (Port y 0) e) in r.all x y (net.all x (is_some (n.symbol x) s.0 s.1)) e);
          once = r.once;
        },
      )
      )
