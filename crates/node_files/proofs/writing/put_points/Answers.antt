use Rattle.std.proofs.Common.{ℕ, ap, ◌∙◌, arith, ◌++◌, ◌+◌, length}
use Rattle.sign_predicates.specs.Point.{origin}
use Rattle.node_files.specs.Writing.{point_lines, point_line}
use Rattle.node_files.proofs.Written.{points_more, points_all, share_left, share_here}
use Rattle.node_files.proofs.writing.put_points.Goals as goal

pub split_at-requires : goal.split_at-requires
split_at-requires c = share_here c.args.table.now.attribute_count (length c.args.table.now.listed) c.loop-i.i (length c.loop-i.attributes.now) (omega arith) c.loop-i.invariant.attributes

pub loop-i-preserved : goal.loop-i-preserved
loop-i-preserved c =
    let t = c.args.table.now in
    let f = c.args.frame.now in
    let marks = c.marks_of-marks.result in
    let whole = c.args.out.now ++ point_lines f.origin f.grid t.attribute_count marks c.args.first t.listed t.attributes t.markers in
    let line = c.in_ok-put_point.ensures ∙ ap (λ (n : ℕ). c.loop-i.out ++ point_line f.origin f.grid (n + c.loop-i.i) c.at.result c.split_at.result.0.now c.split_at-in-loop-i.result.0.now) c.from.ensures in
    record {
      written = points_more c.loop-i.out c.put_point.new.out whole f.origin f.grid t.attribute_count marks c.args.first c.loop-i.i t.listed c.at.result
          c.loop-i.attributes.now c.split_at.result.0.now c.split_at.result.1.now c.loop-i.markers.now c.split_at-in-loop-i.result.0.now c.split_at-in-loop-i.result.1.now
          (omega arith) (c.at.ensures origin) c.split_at.ensures.front c.split_at.ensures.back c.split_at-in-loop-i.ensures.front c.split_at-in-loop-i.ensures.back line c.loop-i.invariant.written;
      attributes = share_left t.attribute_count (length t.listed) c.loop-i.i (length c.loop-i.attributes.now) (length c.split_at.result.1.now) (omega arith) c.loop-i.invariant.attributes c.split_at.ensures.back_len;
      markers = share_left marks (length t.listed) c.loop-i.i (length c.loop-i.markers.now) (length c.split_at-in-loop-i.result.1.now) (omega arith) c.loop-i.invariant.markers c.split_at-in-loop-i.ensures.back_len;
    }

pub returns : goal.returns
returns c =
    let t = c.args.table.now in
    let f = c.args.frame.now in
    let marks = c.marks_of-marks.result in
    let whole = c.args.out.now ++ point_lines f.origin f.grid t.attribute_count marks c.args.first t.listed t.attributes t.markers in
    points_all c.loop-i.out whole f.origin f.grid t.attribute_count marks (c.args.first + c.loop-i.i) c.loop-i.i t.listed c.loop-i.attributes.now c.loop-i.markers.now (omega arith) c.loop-i.invariant.written
    ∙ ap (λ (m : ℕ). c.args.out.now ++ point_lines f.origin f.grid t.attribute_count m c.args.first t.listed t.attributes t.markers) c.marks_of-marks.ensures
