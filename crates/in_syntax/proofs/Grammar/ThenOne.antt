-- If each link of a chain of passes has one result, the chain has one.
use Rattle.std.proofs.Common.{◌≡◌, inl, inr, Result, Ok, Err, subst}
use Rattle.in_syntax.specs.declared.faults.Fault.{Fault}
use Rattle.in_syntax.specs.declared.faults.Fault.TheVariants.{Refused, Memory}
use Rattle.in_syntax.specs.Answers.{AgreeBy, IsOne, IsOneBy, Then}

-- two chains that begin with one pass
pub then_two : {A B : Type 0} (R : A → A → Type 0) (S : B → B → Type 0) (P : Result A Fault → Type 0) (Q Q1 : A → Result B Fault → Type 0) → IsOneBy R P →
    ((a b : A) → R a b → P (Ok a) → P (Ok b) → (x y : Result B Fault) → Q a x → Q1 b y → AgreeBy S x y) → (x y : Result B Fault) → Then P Q x → Then P Q1 y → AgreeBy S x y
then_two R S P Q Q1 one on (Ok x) (Ok y) h k = on h.0 k.0 (one (Ok h.0) (Ok k.0) h.1 k.1) h.1 k.1 (Ok x) (Ok y) h.2 k.2
then_two R S P Q Q1 one on (Ok x) (Err (Refused r)) h (inl k) = one (Ok h.0) (Err (Refused r)) h.1 k
then_two R S P Q Q1 one on (Ok x) (Err (Refused r)) h (inr k) = on h.0 k.0 (one (Ok h.0) (Ok k.0) h.1 k.1) h.1 k.1 (Ok x) (Err (Refused r)) h.2 k.2
then_two R S P Q Q1 one on (Ok x) (Err (Memory e)) h k = tt
then_two R S P Q Q1 one on (Err (Refused q)) (Ok y) (inl h) k = one (Err (Refused q)) (Ok k.0) h k.1
then_two R S P Q Q1 one on (Err (Refused q)) (Ok y) (inr h) k = on h.0 k.0 (one (Ok h.0) (Ok k.0) h.1 k.1) h.1 k.1 (Err (Refused q)) (Ok y) h.2 k.2
then_two R S P Q Q1 one on (Err (Refused q)) (Err (Refused r)) (inl h) (inl k) = one (Err (Refused q)) (Err (Refused r)) h k
then_two R S P Q Q1 one on (Err (Refused q)) (Err (Refused r)) (inl h) (inr k) = absurd (one (Err (Refused q)) (Ok k.0) h k.1)
then_two R S P Q Q1 one on (Err (Refused q)) (Err (Refused r)) (inr h) (inl k) = absurd (one (Ok h.0) (Err (Refused r)) h.1 k)
then_two R S P Q Q1 one on (Err (Refused q)) (Err (Refused r)) (inr h) (inr k) = on h.0 k.0 (one (Ok h.0) (Ok k.0) h.1 k.1) h.1 k.1 (Err (Refused q)) (Err (Refused r)) h.2 k.2
then_two R S P Q Q1 one on (Err (Refused q)) (Err (Memory e)) h k = tt
then_two R S P Q Q1 one on (Err (Memory e)) y h k = tt

-- if the first pass has one value, the others need only be one for that
pub then_same : {A B : Type 0} (S : B → B → Type 0) (P : Result A Fault → Type 0) (Q : A → Result B Fault → Type 0) → IsOne P → ((a : A) → P (Ok a) → IsOneBy S (Q a)) → IsOneBy S (Then P Q)
then_same S P Q one on = then_two (λ a b. a ≡ b) S P Q Q one (λ a b e h k x y l r. on b k x y (subst (λ z. Q z x) e l) r)
