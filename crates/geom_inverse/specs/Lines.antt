-- How contracts see the rows of a matrix, and the minors of two of them.
use Rattle.raim_model.specs.Geometry.{Axis, East, North, Up, Clock}
use Rattle.fix_interval.specs.Ends.{Ends}
use Rattle.geom_laws.specs.Rows.{RowEnds}
use Rattle.geom_laws.specs.Symmetric.{SymEnds, entry}
use Rattle.geom_laws.specs.Determinant.{MinorEnds, crossed_of}
use Rattle.geom_laws.specs.Adjugate.{along_of}
use Rattle.geom_inverse.specs.declared.entries.Entries.{Entries}
use Rattle.geom_inverse.specs.declared.line.Line.{Line}
use Rattle.geom_inverse.specs.declared.minor.Minors.{Minors}
use Rattle.fix_interval.specs.Intervals.{ends_64}

abbrev pub entries_ends : Entries → SymEnds
entries_ends h = record {
  a11 = ends_64 h.a11;
  a12 = ends_64 h.a12;
  a13 = ends_64 h.a13;
  a14 = ends_64 h.a14;
  a22 = ends_64 h.a22;
  a23 = ends_64 h.a23;
  a24 = ends_64 h.a24;
  a33 = ends_64 h.a33;
  a34 = ends_64 h.a34;
  a44 = ends_64 h.a44;
}

abbrev pub line_ends : Line → RowEnds
line_ends l = record { e = ends_64 l.e; n = ends_64 l.n; u = ends_64 l.u; k = ends_64 l.k }

abbrev pub minor_ends : Minors → MinorEnds
minor_ends m = record {
  m12 = ends_64 m.m12;
  m13 = ends_64 m.m13;
  m14 = ends_64 m.m14;
  m23 = ends_64 m.m23;
  m24 = ends_64 m.m24;
  m34 = ends_64 m.m34;
}

-- the row of a matrix
abbrev pub line_of : SymEnds → Axis → RowEnds
line_of h p = record { e = entry h p East; n = entry h p North; u = entry h p Up; k = entry h p Clock }

-- the minors of two rows
abbrev pub line_minors : (p q : RowEnds) → MinorEnds
line_minors p q = record {
  m12 = crossed_of p.e q.n p.n q.e;
  m13 = crossed_of p.e q.u p.u q.e;
  m14 = crossed_of p.e q.k p.k q.e;
  m23 = crossed_of p.n q.u p.u q.n;
  m24 = crossed_of p.n q.k p.k q.n;
  m34 = crossed_of p.u q.k p.k q.u;
}

-- the three by three minors of a row and of the two rows of m, without a column
abbrev pub along_east : RowEnds → MinorEnds → Ends
along_east b m = along_of b.n b.u b.k m.m34 m.m24 m.m23

abbrev pub along_north : RowEnds → MinorEnds → Ends
along_north b m = along_of b.e b.u b.k m.m34 m.m14 m.m13

abbrev pub along_up : RowEnds → MinorEnds → Ends
along_up b m = along_of b.e b.n b.k m.m24 m.m14 m.m12

abbrev pub along_clock : RowEnds → MinorEnds → Ends
along_clock b m = along_of b.e b.n b.u m.m23 m.m13 m.m12
