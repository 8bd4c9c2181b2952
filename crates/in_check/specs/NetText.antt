-- The text of a net, as a list of agents' names, variables and bytes, as printing writes it. Each agent's term names its symbol and has the
-- terms at its auxiliary places; a wire without principal ports is a variable. This project's own choice, after the notation of Lafont 1990.
use Rattle.std.specs.Prelude.{◌≡◌, ◌↔◌, ◌⊎◌, ◌≢◌, ◌||◌, ◌&&◌, ℕ, zero, suc, Bool, false, cond, List, [], ◌∷◌, ◌++◌, length, Option, Some, None, IsSome, decimal, nat_eq}
use Rattle.std.specs.List.{AllByRecursion}
use Rattle.in_net.specs.Nets.{Point, Port, Free, Signature, Net}
use Rattle.in_interaction.specs.Pieces.{AreDifferent}
use Rattle.in_base.specs.Lists.{IsAmong}

-- the names of the symbols and of the free ends
pub record Words : Type 0 where
  pub symbol : ℕ → List ℕ
  pub free : ℕ → List ℕ

-- a part of a text: bytes, the name of an agent's symbol, or the variable of a wire, by one of its points and the other one
pub data TextPart (A : Type 0) : Type 0 where
  Bytes : List ℕ → TextPart A
  Head : A → TextPart A
  Variable : Point A → Point A → TextPart A

-- the terms at a given number of places from this one on, joined by commas
abbrev pub listed : {A : Type 0} → (Point A → List (TextPart A)) → A → ℕ → ℕ → List (TextPart A)
listed term y i zero = []
listed term y i (suc zero) = term (Port y i)
listed term y i (suc (suc k)) = term (Port y i) ++ (Bytes (44 ∷ 32 ∷ []) ∷ listed term y (suc i) (suc k))

-- .. in brackets, if there are any
abbrev pub bracketed : {A : Type 0} → ℕ → List (TextPart A) → List (TextPart A)
bracketed zero ps = []
bracketed (suc k) ps = Bytes (40 ∷ []) ∷ (ps ++ (Bytes (41 ∷ []) ∷ []))

abbrev pub arity_of : Signature → Option ℕ → ℕ
arity_of sig None = 0
arity_of sig (Some s) = sig.arity s

-- an agent's term, from the terms at points
abbrev pub agent_term : {A : Type 0} → Signature → Net A → (Point A → List (TextPart A)) → A → List (TextPart A)
agent_term sig n term y = Head y ∷ bracketed (arity_of sig (n.symbol y)) (listed term y 1 (arity_of sig (n.symbol y)))

-- the term at a point with this partner, from the agents' terms
abbrev pub term_at : {A : Type 0} → (A → List (TextPart A)) → Point A → Option (Point A) → List (TextPart A)
term_at agent p None = []
term_at agent p (Some (Port y zero)) = agent y
term_at agent p (Some (Port y (suc i))) = Variable p (Port y (suc i)) ∷ []
term_at agent p (Some (Free k)) = Variable p (Free k) ∷ []

-- the term at a point, at most a given number of agents deep
abbrev pub term : {A : Type 0} → Signature → Net A → ℕ → Point A → List (TextPart A)
term sig n zero p = term_at (λ y. []) p (n.partner p)
term sig n (suc d) p = term_at (agent_term sig n (term sig n d)) p (n.partner p)

-- a line for each of a given number of free ends, from number k on
abbrev pub free_lines : {A : Type 0} → Signature → Words → Net A → ℕ → ℕ → ℕ → List (TextPart A)
free_lines sig words n d k zero = []
free_lines sig words n d k (suc more) = Bytes (words.free k ++ 32 ∷ 61 ∷ 32 ∷ []) ∷ (term sig n d (Free k) ++ (Bytes (10 ∷ []) ∷ free_lines sig words n d (suc k) more))

-- a line for each pair
abbrev pub pair_lines : {A : Type 0} → Signature → Net A → ℕ → List (A × A) → List (TextPart A)
pair_lines sig n d [] = []
pair_lines sig n d (q ∷ qs) = agent_term sig n (term sig n d) q.0 ++ (Bytes (32 ∷ 126 ∷ 32 ∷ []) ∷ (agent_term sig n (term sig n d) q.1 ++ (Bytes (10 ∷ []) ∷ pair_lines sig n d qs)))

-- the whole text, in parts
abbrev pub text_parts : {A : Type 0} → Signature → Words → Net A → ℕ → List (A × A) → List (TextPart A)
text_parts sig words n d queue = free_lines sig words n d 0 (length n.free) ++ pair_lines sig n d queue

-- points are distinguished as agents are
abbrev pub same_point : {A : Type 0} → (A → A → Bool) → Point A → Point A → Bool
same_point same (Port x i) (Port y j) = same x y && nat_eq i j
same_point same (Port x i) (Free k) = false
same_point same (Free k) (Port x i) = false
same_point same (Free j) (Free k) = nat_eq j k

-- the number of the wire of these two points among those met before, the last one first, each by the point at which it was met
abbrev pub number_of : {A : Type 0} → (A → A → Bool) → List (Point A) → Point A → Point A → Option ℕ
number_of same [] p q = None
number_of same (u ∷ us) p q = cond (same_point same u p || same_point same u q) (Some (suc (length us))) (number_of same us p q)

abbrev pub symbol_name : Words → Option ℕ → List ℕ
symbol_name words None = []
symbol_name words (Some s) = words.symbol s

abbrev pub variable_name : ℕ → List ℕ
variable_name k = 118 ∷ decimal k

-- the numbers of the variables in these parts, after these wires were met
abbrev pub numbers : {A : Type 0} → (A → A → Bool) → List (Point A) → List (TextPart A) → List ℕ
numbers same met [] = []
numbers same met (Bytes bs ∷ ps) = numbers same met ps
numbers same met (Head y ∷ ps) = numbers same met ps
numbers same met (Variable p q ∷ ps) = elim (number_of same met p q) [
  | None ↦ suc (length met) ∷ numbers same (p ∷ met) ps
  | Some k ↦ k ∷ numbers same met ps
]

-- the bytes of parts, whose variables have these numbers in turn
abbrev pub bytes_of : {A : Type 0} → Words → Net A → List ℕ → List (TextPart A) → List ℕ
bytes_of words n ks [] = []
bytes_of words n ks (Bytes bs ∷ ps) = bs ++ bytes_of words n ks ps
bytes_of words n ks (Head y ∷ ps) = symbol_name words (n.symbol y) ++ bytes_of words n ks ps
bytes_of words n [] (Variable p q ∷ ps) = bytes_of words n [] ps
bytes_of words n (k ∷ ks) (Variable p q ∷ ps) = variable_name k ++ bytes_of words n ks ps

-- the text of a net with d agents, its active pairs in this order
abbrev pub text : {A : Type 0} → Signature → Words → (A → A → Bool) → Net A → ℕ → List (A × A) → List ℕ
text sig words same n d queue = bytes_of words n (numbers same [] (text_parts sig words n d queue)) (text_parts sig words n d queue)

-- the agents of a net, each once
pub record AreAgents {A : Type 0} (n : Net A) (xs : List A) : Type 0 where
  pub all : (x : A) → IsSome (n.symbol x) ↔ IsAmong x xs
  pub once : AreDifferent xs

-- the element is exactly a given number of times in the list
abbrev pub StandsTimes : {X : Type 0} → ℕ → X → List X → Type 0
StandsTimes zero x [] = Unit {0}
StandsTimes (suc n) x [] = ⊥
StandsTimes zero x (y ∷ ys) = (y ≢ x) × StandsTimes zero x ys
StandsTimes (suc n) x (y ∷ ys) = ((y ≡ x) × StandsTimes n x ys) ⊎ ((y ≢ x) × StandsTimes (suc n) x ys)

-- the agents of these pairs
abbrev pub agents_of : {A : Type 0} → List (A × A) → List A
agents_of [] = []
agents_of (q ∷ qs) = q.0 ∷ q.1 ∷ agents_of qs

-- the active pairs, each once
pub record IsQueue {A : Type 0} (n : Net A) (queue : List (A × A)) : Type 0 where
  pub active : AllByRecursion (λ q. n.partner (Port q.0 0) ≡ Some (Port q.1 0)) queue
  pub all : (x y : A) → n.partner (Port x 0) ≡ Some (Port y 0) → IsAmong x (agents_of queue)
  pub once : AreDifferent (agents_of queue)

-- a free end or an auxiliary port
abbrev pub IsAuxiliary : {A : Type 0} → Point A → Type 0
IsAuxiliary (Port y zero) = ⊥
IsAuxiliary (Port y (suc i)) = Unit {0}
IsAuxiliary (Free k) = Unit {0}

-- a name is that of an agent of the net, and a variable that of a wire without principal ports
abbrev pub IsOfNet : {A : Type 0} → Net A → TextPart A → Type 0
IsOfNet n (Bytes bs) = Unit {0}
IsOfNet n (Head y) = IsSome (n.symbol y)
IsOfNet n (Variable u v) = (n.partner u ≡ Some v) × IsAuxiliary u × IsAuxiliary v

-- the variables of these parts, each with its number and its point
abbrev pub numbered : {A : Type 0} → List ℕ → List (TextPart A) → List (ℕ × Point A)
numbered ks [] = []
numbered ks (Bytes bs ∷ ps) = numbered ks ps
numbered ks (Head y ∷ ps) = numbered ks ps
numbered [] (Variable p q ∷ ps) = numbered [] ps
numbered (k ∷ ks) (Variable p q ∷ ps) = (k, p) ∷ numbered ks ps
