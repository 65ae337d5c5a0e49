-- A flood that goes on and on.
use Rattle.std.proofs.Common.{Bool, List, ◌∙◌}
use Rattle.incidence.specs.declared.pairs.Across.{Across}
use Rattle.hole_carve.specs.declared.flood.Flood.{Flood}
use Rattle.hole_carve.specs.Flooding.{IsQueued}
use Rattle.hole_carve.specs.Floods.{IsFlood, HasGrown, GoesOn}
use Rattle.hole_carve.proofs.Flooding.{extends_itself, extends_more}

pub goes_on_none : (ways : List Across) (seeds : List Bool) (f : Flood) → IsFlood ways seeds f → GoesOn ways seeds f f
goes_on_none ways seeds f flood = record { flood = flood; grown = extends_itself _ _ }

pub goes_on_more : (ways : List Across) (seeds : List Bool) (f g h : Flood) → GoesOn ways seeds f g → GoesOn ways seeds g h → GoesOn ways seeds f h
goes_on_more ways seeds f g h a b = record { flood = b.flood; grown = extends_more _ _ _ _ _ _ a.grown b.grown }

-- one place was reached
pub goes_on_reached : (ways : List Across) (seeds : List Bool) (f g : Flood) → IsFlood ways seeds f → IsQueued ways seeds g.marks.items g.queue.items → HasGrown f g → GoesOn ways seeds f g
goes_on_reached ways seeds f g flood filled grown = record { flood = record { long = grown.long ∙ flood.long; filled = filled }; grown = grown }
