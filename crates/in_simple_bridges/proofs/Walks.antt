-- Walks that are continued, and walks back.
use Rattle.in_simple_bridges.specs.Walks.{EdgeWalk, done, along}

module _ (V : Type 0) (E : V → V → Type 0) where
  pub walk_further : (u v w : V) → EdgeWalk V E u v → EdgeWalk V E v w → EdgeWalk V E u w
  walk_further u _ w (done _) r = r
  walk_further u v w (along _ x _ e q) r = along u x w e (walk_further x v w q r)

  pub walk_turned : ((u v : V) → E u v → E v u) → (u v : V) → EdgeWalk V E u v → EdgeWalk V E v u
  walk_turned turn u _ (done _) = done u
  walk_turned turn u v (along _ x _ e q) = walk_further v x u (walk_turned turn x v q) (along x u u (turn u x e) (done u))
