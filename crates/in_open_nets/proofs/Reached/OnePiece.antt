-- Sets of nodes in one piece.
use Rattle.std.proofs.Common.{◌≡◌, ◌<◌, ℕ, suc, Bool, true, false, true≢false, List, [], ◌∷◌, length, refl, sym, arith}
use Rattle.in_open_nets.specs.Constructions.{IsIn}
use Rattle.in_open_nets.specs.OpenNets.{OpenNet, open_graph}
use Rattle.in_open_nets.specs.Pieces.{AreJoinedWithin, IsOnePiece}
use Rattle.in_open_nets.specs.Members.{nodes_in, missing}
use Rattle.in_open_nets.specs.Splitting.{IsComponent, Linked, alone, onward}
use Rattle.in_open_nets.proofs.Reached.Links.{Decided, link_back, link_first, link_join, link_snoc}
use Rattle.in_open_nets.proofs.Splits.Search.{is_in}

pub missing_none : (xs : List Bool) → ((n : ℕ) → n < length xs → IsIn n (nodes_in xs)) → missing xs ≡ 0
missing_none [] h = refl
missing_none (true ∷ xs) h = let r = missing_none xs (λ n l. h (suc n) (omega arith)) in omega arith
missing_none (false ∷ xs) h = absurd (true≢false (sym (h 0 (omega arith))))

module _ (o : OpenNet) (s : List Bool) where
  pub joined_back : (k l : ℕ) → AreJoinedWithin o s k l → AreJoinedWithin o s l k
  joined_back k l h = link_back o (λ m. IsIn m (nodes_in s)) (λ n. is_in n (nodes_in s)) k l h

  pub joined_on : (k l m : ℕ) → AreJoinedWithin o s k l → AreJoinedWithin o s l m → AreJoinedWithin o s k m
  joined_on k l m h g = link_join o (λ m. IsIn m (nodes_in s)) (λ n. is_in n (nodes_in s)) k l m h g

-- a component is in one piece
pub component_piece : (o : OpenNet) (P : ℕ → Type 0) → ((n : ℕ) → Decided (P n)) → (c : List Bool) → IsComponent (open_graph o) P (nodes_in c) → IsOnePiece o c
component_piece o P dec c part k l x y = within k l x (link_join o P dec k part.0 l (link_back o P dec part.0 k ((part.2 k).0 x)) ((part.2 l).0 y))
  where
    within : (k l : ℕ) → IsIn k (nodes_in c) → Linked (open_graph o) P k l → AreJoinedWithin o c k l
    within k l x (alone _ h) = alone k x
    within k l x (onward _ m _ i j h w q) =
        onward k m l i j x w (within m l ((part.2 m).1 (link_snoc o P part.0 k m i j w.0 ((part.2 k).0 x) w.1 (link_first (open_graph o) P m l q))) q)
