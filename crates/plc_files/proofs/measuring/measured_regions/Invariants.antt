use Rattle.std.proofs.Common.{◌≡◌, map, take}
use Rattle.plc_files.specs.Measuring.{measured_region}
use Rattle.plc_files.proofs.measuring.measured_regions.Given as goal

abbrev pub invariant-loop-region : goal.invariant-loop-region
invariant-loop-region l = l.made ≡ map (measured_region l.w l.decimals) (take l.region-index l.regions)
