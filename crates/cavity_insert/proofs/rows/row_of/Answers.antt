use Rattle.cavity_insert.proofs.rows.row_of.Goals as goal

pub returns-in-Row : goal.returns-in-Row
returns-in-Row c = record {
  four = c.in-Row.four;
  is = c.in-Row.ensures;
  even = c.arranged.ensures.even;
  first = c.arranged.ensures.first;
  second = c.arranged.ensures.second;
}
