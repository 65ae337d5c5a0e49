use Rattle.std.proofs.Common.{ap, ◌∙◌}
use Rattle.soup_files.specs.Vertices.{with_vertex, vertex_place}
use Rattle.soup_files.proofs.FoundVertices.{points_of, put_key, place_alike}
use Rattle.soup_files.proofs.vertex_set.VertexSet.put.Goals as goal

pub returns-clause-found : goal.returns-clause-found
returns-clause-found c =
    ap points_of c.in_ok-place.ensures.keys ∙ put_key c.self.inside.found.keys (record { point = c.args.point }) ∙ ap (λ ps. with_vertex ps c.args.point) c.self.view_is

pub returns-clause-place : goal.returns-clause-place
returns-clause-place c =
    c.in_ok-place.ensures.index ∙ place_alike c.self.inside.found.keys (record { point = c.args.point }) ∙ ap (λ ps. vertex_place ps c.args.point) c.self.view_is
