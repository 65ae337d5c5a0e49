use Rattle.std.proofs.Common.{◌≡◌, Bool, Option, Some, None, true, not, refl, ap, ◌∙◌}
use Rattle.std.specs.Prelude.{MatchOption}
use Rattle.std.specs.Option.{is_some}
use Rattle.geo_laws.specs.declared.tetrahedra.Tet.{Tet}
use Rattle.tangle_laws.proofs.Apart.{fails_true}
use Rattle.tangle_fill.proofs.accept.is_alone_among.Goals as goal

none_there : {A : Type 0} (B : Tet → Type 0) (r : Option Tet) (b : Bool) → is_some r ≡ not b → b ≡ true → MatchOption r A B → A
none_there B None b e h m = m
none_there B (Some t) b e h m = fails_true true (e ∙ ap not h) refl

pub returns : goal.returns
returns c h = none_there _ c.other_round.result c.is_none.result c.is_none.ensures h c.other_round.ensures
