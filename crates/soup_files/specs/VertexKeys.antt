-- Points as keys that are told apart by their coordinates alone.
use Rattle.std.specs.Cmp.{IsEquivalence, IsPartialEquivalence, on_equiv, partial_equiv_from_equiv}
use Rattle.soup_files.specs.declared.vertex_set.Vertex.{Vertex}
use Rattle.soup_files.specs.Vertices.{same_vertex, vertices_equiv}

pub keys_equiv : IsEquivalence (λ (u v : Vertex). same_vertex u.point v.point)
keys_equiv = on_equiv (λ (v : Vertex). v.point) vertices_equiv

pub keys_per : IsPartialEquivalence (λ (u v : Vertex). same_vertex u.point v.point)
keys_per = partial_equiv_from_equiv keys_equiv
