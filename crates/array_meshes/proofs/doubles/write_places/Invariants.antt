use Rattle.std.proofs.Common.{◌≡◌, drop, map, take, Some}
use Rattle.array_meshes.specs.Doubles.{rounded_place}
use Rattle.array_meshes.proofs.doubles.write_places.Given as goal

abbrev pub invariant-loop-i : goal.invariant-loop-i
invariant-loop-i l = record {
  places : map Some (take l.i l.places) ≡ map (rounded_place l.decimals) (take l.i l.points);
  behind : drop l.i l.places ≡ drop l.i l.fn.places;
}
