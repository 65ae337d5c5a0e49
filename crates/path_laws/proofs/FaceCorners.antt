-- The corners of a face differ.
use Rattle.std.proofs.Common.{◌≡◌, arith}
use Rattle.geo_laws.specs.Faces.{face_numbers}
use Rattle.geo_laws.specs.declared.faces.Face.{Face}
use Rattle.geo_laws.proofs.RowFaces.{Ascends}
use Rattle.path_laws.proofs.Room.{AllDiffer, three_differ}

pub face_differs : (f : Face) → Ascends f → AllDiffer (face_numbers f)
face_differs f p = three_differ f.a f.b f.c (let h = p.first in λ e. omega arith) (let h = p.first in let k = p.second in λ e. omega arith) (let k = p.second in λ e. omega arith)
