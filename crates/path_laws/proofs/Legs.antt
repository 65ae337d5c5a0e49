-- Two points off all face planes: their places, and when a free path joins them.
use Rattle.path_laws.specs.Places.{LegLaw}
use Rattle.path_laws.proofs.FreePaths.{law_free_path}
use Rattle.path_laws.proofs.OnePlace.{law_one_place}

pub law_leg : LegLaw
law_leg ps ts rows fill x xw y yw x_off y_off =
    let p = law_one_place ps ts rows fill x xw x_off in
    let q = law_one_place ps ts rows fill y yw y_off in
    (p.0, q.0, (p.1, p.2), (q.1, q.2), law_free_path ps ts rows fill x xw y yw p.0 q.0 x_off y_off p.1 q.1)
