-- An open net of a net or of a rule, whose signs follow the symbols, under the laws of open nets.
use Rattle.std.proofs.Common.{◌≡◌, ◌≢◌, ◌↔◌, ℕ, Some, slice_get, sym, inl, inr}
use Rattle.in_symbols.specs.Tables.{Tables}
use Rattle.in_open_nets.specs.declared.open_nets.OpenPoint.TheVariants.{Port}
use Rattle.in_open_nets.specs.OpenNets.{OpenNet, IsOpenNet, IsDerivable, open_graph}
use Rattle.in_usual_braces.specs.Directions.{AreSigned, HaveOutputsTogether, AreByThemselves, Crosses, DirectedCircle}
use Rattle.in_usual_braces.specs.Laws.{CrossingDirectedCirclesDecide, UsualBracesDecide}
use Rattle.in_usual_braces_of_programs.specs.Signs.{AreUsual, AreWide, signs_of}

-- a listed wire between two ports joins an output to an input
abbrev pub AreListedSigned : Tables → OpenNet → Type 0
AreListedSigned t o = (w n i m j : ℕ) → slice_get o.wires w ≡ Some (Port n i, Port m j) → signs_of t o n i ≢ signs_of t o m j

-- if all outputs of each symbol are of one class, so are those of each node
abbrev pub StayTogether : Tables → OpenNet → Type 0
StayTogether t o = AreWide t → HaveOutputsTogether o (signs_of t o)

-- .. and if no input of a symbol is of that class, no input of a node is of the class of one of its outputs
abbrev pub StayByThemselves : Tables → OpenNet → Type 0
StayByThemselves t o = AreUsual t → AreByThemselves o (signs_of t o)

pub record FollowsSymbols (t : Tables) (o : OpenNet) : Type 0 where
  pub net : IsOpenNet o
  pub listed : AreListedSigned t o
  pub together : StayTogether t o
  pub alone : StayByThemselves t o

module _ (t : Tables) (o : OpenNet) (follows : FollowsSymbols t o) where
  signed : AreSigned o (signs_of t o)
  signed w n i m j (inl e) = follows.listed w n i m j e
  signed w n i m j (inr e) = λ same. follows.listed w m j n i e (sym same)

  pub decided : UsualBracesDecide → AreUsual t → IsDerivable o ↔ (DirectedCircle (open_graph o) (signs_of t o) → ⊥)
  decided law usual = law o (signs_of t o) follows.net signed (follows.together (λ s. (usual s).wide)) (follows.alone usual)

  pub crossing_decided : CrossingDirectedCirclesDecide → AreWide t → IsDerivable o ↔ ((c : DirectedCircle (open_graph o) (signs_of t o)) → Crosses (open_graph o) (signs_of t o) c → ⊥)
  crossing_decided law wide = law o (signs_of t o) follows.net signed (follows.together wide)
