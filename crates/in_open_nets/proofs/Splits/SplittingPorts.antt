-- A node that splits a part, port by port.
use Rattle.std.proofs.Common.{ℕ, Bool, List}
use Rattle.in_open_nets.specs.Constructions.{IsIn}
use Rattle.in_open_nets.specs.Splitting.{Without, SplitsAt}
use Rattle.in_open_nets.specs.OpenNets.{OpenNet, IsOpenNet, open_graph}
use Rattle.in_open_nets.specs.Members.{nodes_in}
use Rattle.in_open_nets.specs.Parts.{IsRest, PortSplits}
use Rattle.in_open_nets.proofs.Reached.Links.{link_map}

module _ (o : OpenNet) (net : IsOpenNet o) where
  -- a port with no wire splits too
  pub each_split : (part rest : List Bool) (n : ℕ) → IsRest n part rest → SplitsAt (open_graph o) n (nodes_in part) → (i : ℕ) → PortSplits o rest n i
  each_split part rest n r s i = record {
    own = λ j w h. s.own i j (w, h);
    touched = λ j w v l m k h g g' link. s.touched i j l m k h (w, g) (v, g') (link_map (open_graph o) (λ m. IsIn m (nodes_in rest)) (Without n (nodes_in part)) (λ k h. (r k).0 h) l m link);
  }
