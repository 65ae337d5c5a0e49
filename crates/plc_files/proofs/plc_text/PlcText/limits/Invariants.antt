use Rattle.std.proofs.Common.{◌≡◌, map, take}
use Rattle.plc_files.specs.declared.parts.RegionText.{RegionText}
use Rattle.plc_files.proofs.plc_text.PlcText.limits.Given as goal

abbrev pub invariant-loop-region : goal.invariant-loop-region
invariant-loop-region l = l.limits ≡ map (λ (r : RegionText). r.limit) (take l.region-index l.self.regions)
