-- The cells of all hands of a round, once they are back.
use Rattle.std.specs.Prelude.{◌≡◌, ℕ, List, [], ◌∷◌, ◌++◌, Some, slice_get, All}
use Rattle.in_arena.specs.Arenas.{ArenaView}
use Rattle.in_compile.specs.Templates.{TemplatesParts}
use Rattle.in_rounds.specs.Dones.{DoneParts}
use Rattle.in_rounds.specs.declared.gather.JobState.{JobState}
use Rattle.in_rounds.specs.declared.gather.JobState.TheVariants.{Kept}
use Rattle.in_rounds.specs.Works.{bags}
use Rattle.in_rounds.specs.declared.hand.Hand.{Hand}

-- the bags of a hand: its stock's and its results'; and those of all hands
abbrev pub in_hand : Hand → List ArenaView
in_hand p = p.stock.bag ∷ bags p.done.items

abbrev pub in_hands : List Hand → List ArenaView
in_hands [] = []
in_hands (p ∷ ps) = in_hand p ++ in_hands ps

-- each kept result was made with these templates
abbrev pub AreMadeWith : TemplatesParts → List JobState → Type 0
AreMadeWith ts slots = (k : ℕ) (d : DoneParts) → slice_get slots k ≡ Some (Kept d) → d.templates ≡ ts

abbrev pub IsHandMadeWith : TemplatesParts → Hand → Type 0
IsHandMadeWith ts p = All (λ (d : DoneParts). d.templates ≡ ts) p.done.items

abbrev pub HandsAreMadeWith : TemplatesParts → List Hand → Type 0
HandsAreMadeWith ts ps = All (IsHandMadeWith ts) ps
