use Rattle.sign_predicates.specs.Meeting.{grid_triangle}
use Rattle.sign_predicates.proofs.Legs.{not_beyond_a, not_beyond_b, not_beyond_c, not_beyond_d}
use Rattle.sign_predicates.proofs.entering.triangle_lows.Goals as goal

pub returns-then-is_beyond-clause-none : goal.returns-then-is_beyond-clause-none
returns-then-is_beyond-clause-none c e enters =
    let is = c.is_beyond.ensures.0 c.if-is_beyond.true in
    let f = c.face_lows-at_a.ensures in
    not_beyond_a c.args.t.now (grid_triangle c.args.f.now) enters (f.a_low.0 is.0, f.b_low.0 is.1, f.c_low.0 is.2)

pub returns-then-is_beyond-2-clause-none : goal.returns-then-is_beyond-2-clause-none
returns-then-is_beyond-2-clause-none c e enters =
    let is = c.is_beyond-2.ensures.0 c.if-is_beyond-2.true in
    let f = c.face_lows-at_b.ensures in
    not_beyond_b c.args.t.now (grid_triangle c.args.f.now) enters (f.a_low.0 is.0, f.b_low.0 is.1, f.c_low.0 is.2)

pub returns-then-is_beyond-3-clause-none : goal.returns-then-is_beyond-3-clause-none
returns-then-is_beyond-3-clause-none c e enters =
    let is = c.is_beyond-3.ensures.0 c.if-is_beyond-3.true in
    let f = c.face_lows-at_c.ensures in
    not_beyond_c c.args.t.now (grid_triangle c.args.f.now) enters (f.a_low.0 is.0, f.b_low.0 is.1, f.c_low.0 is.2)

pub returns-then-is_beyond-4-clause-none : goal.returns-then-is_beyond-4-clause-none
returns-then-is_beyond-4-clause-none c e enters =
    let is = c.is_beyond-4.ensures.0 c.if-is_beyond-4.true in
    let f = c.face_lows-at_d.ensures in
    not_beyond_d c.args.t.now (grid_triangle c.args.f.now) enters (f.a_low.0 is.0, f.b_low.0 is.1, f.c_low.0 is.2)
