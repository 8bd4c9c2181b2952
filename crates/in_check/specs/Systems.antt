-- A program over any names of agents, and its soundness. Lafont 1990: for two opposite symbols of one type there is one rule, whose
-- right member has the auxiliary ports of both as its free ends, each of that port's type. That there is no crossing circle, in the
-- initial net and in each right member with its class nodes, is this project's own condition, which his semi-simple nets meet.
use Rattle.std.specs.Prelude.{◌≡◌, ◌<◌, ◌+◌, ℕ, true, false, List, length, map, slice_get, Some}
use Rattle.in_symbols.specs.declared.symbols.PortType.{PortType}
use Rattle.in_base.specs.Graphs.{CrossingCircle}
use Rattle.in_net.specs.Graphs.{graph_of}
use Rattle.in_net.specs.Interactions.{Redex, end_symbol, end_place, open_member}
use Rattle.in_net.specs.Nets.{Signature, AreClasses, Net, IsNet, net_of, signature_of}
use Rattle.in_net.specs.Rules.{RuleParts}
use Rattle.in_typing.specs.TypedNets.{IsTypedNet}
use Rattle.in_check.specs.Programs.{Program}

-- the symbols of a rule's two agents, and its right member
pub record SystemRule : Type 0 where
  pub first : ℕ
  pub second : ℕ
  pub member : Net ℕ

-- the number of symbols, their places, the rules in order, and the initial net
pub record System : Type 0 where
  pub count : ℕ
  pub symbols : Signature
  pub rules : List SystemRule
  pub start : Net ℕ

-- ---- the system of a program: the first head of a rule is the constructor's

abbrev pub rule_in : RuleParts → SystemRule
rule_in r = record { first = r.heads.0.0; second = r.heads.1.0; member = net_of r.member }

abbrev pub system_of : Program → System
system_of p = record { count = length p.tables.names; symbols = signature_of p.tables; rules = map rule_in p.rules; start = net_of p.net }

-- ---- one rule for each pair

-- the first is a constructor, the second a destructor, and their principal types have one name
abbrev pub IsMatching : Signature → ℕ → ℕ → Type 0
IsMatching sig c d = ((sig.type_of c 0).output ≡ true) × ((sig.type_of d 0).output ≡ false) × ((sig.type_of c 0).kind ≡ (sig.type_of d 0).kind)

-- the rule of this number is for these two symbols
abbrev pub IsNumberOfRule : System → ℕ → ℕ → ℕ → Type 0
IsNumberOfRule p c d i = (r : SystemRule) × (slice_get p.rules i ≡ Some r) × (r.first ≡ c) × (r.second ≡ d)

-- exactly one rule is for the two symbols in this order, and none is for them in the other order
abbrev pub HasOneRule : System → ℕ → ℕ → Type 0
HasOneRule p c d = (i : ℕ) × (IsNumberOfRule p c d i) × ((j : ℕ) → IsNumberOfRule p c d j → j ≡ i) × ((j : ℕ) → IsNumberOfRule p d c j → ⊥)

-- ---- a sound system

abbrev pub HasSymbolsBelow : {A : Type 0} → ℕ → Net A → Type 0
HasSymbolsBelow {A} k n = (x : A) (s : ℕ) → n.symbol x ≡ Some s → s < k

-- a typed net without crossing circle, of the system's symbols
pub record IsSound {A : Type 0} (p : System) (n : Net A) : Type 0 where
  pub net : IsNet p.symbols n
  pub within : HasSymbolsBelow p.count n
  pub typed : IsTypedNet p.symbols n
  pub no_circle : CrossingCircle (graph_of p.symbols n) → ⊥

-- the rule at a pair with the names 0 and 1, as good as any pair
abbrev pub alone : SystemRule → Redex ℕ ℕ
alone r = record { one = 0; two = 1; first = r.first; second = r.second; member = r.member }

-- the rule is for two matching symbols. Its free ends are their auxiliary places, declared with these places' types; it is typed, and with its
-- class nodes it has no crossing circle
pub record IsSoundRule (p : System) (r : SystemRule) : Type 0 where
  pub matching : IsMatching p.symbols r.first r.second
  pub net : IsNet p.symbols r.member
  pub within : HasSymbolsBelow p.count r.member
  pub ends : length r.member.free ≡ p.symbols.arity r.first + p.symbols.arity r.second
  pub declared : (e : ℕ) (t : PortType) → slice_get r.member.free e ≡ Some t → t ≡ p.symbols.type_of (end_symbol p.symbols (alone r) e) (end_place p.symbols (alone r) e)
  pub typed : IsTypedNet p.symbols r.member
  pub no_circle : CrossingCircle (open_member p.symbols (alone r)) → ⊥

-- principal ports are classes by themselves, the initial net and each rule are sound, and each matching pair of symbols has exactly one rule
pub record IsSoundSystem (p : System) : Type 0 where
  pub classes : AreClasses p.symbols
  pub start : IsSound p p.start
  pub rule : (i : ℕ) (r : SystemRule) → slice_get p.rules i ≡ Some r → IsSoundRule p r
  pub covered : (c d : ℕ) → c < p.count → d < p.count → IsMatching p.symbols c d → HasOneRule p c d
