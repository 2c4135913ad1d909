use Rattle.std.proofs.Common.{◌≡◌, arith, ap, sym, subst, ◌∙◌, ◌+◌, ◌^◌, List}
use Rattle.geometry_laws.specs.Without.{without}
use Rattle.geom_laws.specs.Rows.{RowEnds}
use Rattle.geom_laws.specs.Symmetric.{SymEnds, SymWithin}
use Rattle.geom_laws.specs.Gram.{sums_of, rounded_of, gram_of, gram_without_of}
use Rattle.geom_laws.specs.Determinant.{det_of}
use Rattle.geom_laws.proofs.Bounds.{gram_without_within}
use Rattle.geom_inverse.specs.Views.{rows_ends, sym_ends}
use Rattle.geom_inverse.proofs.Spans.{rows_within, rows_length}
use Rattle.geom_inverse.proofs.determinant.det_without.Goals as goal

-- the rounded difference is the normal matrix without the row
rounded_is : (d : SymEnds) (rows : List RowEnds) (i : _) → d ≡ sums_of (without i rows) → rounded_of d ≡ gram_without_of rows i
unfolding gram_without_of gram_of
rounded_is d rows i e = ap rounded_of e

pub entries_of_sums-requires-clause-bound : goal.entries_of_sums-requires-clause-bound
entries_of_sums-requires-clause-bound c =
    let l = rows_length c.args.rows.now in
    subst (λ (t : SymEnds). SymWithin t (2 ^ 43 + 2 ^ 7)) (sym (rounded_is (sym_ends c.difference.result) (rows_ends c.args.rows.now) c.args.i c.difference.ensures.exact))
    (gram_without_within (rows_ends c.args.rows.now) c.args.i (omega (arith, c.requires.few)) (rows_within c.args.rows.now))

pub returns : goal.returns
returns c = record {
  exact = c.in_64_bits.ensures ∙ c.by_minors.ensures.exact
      ∙ ap det_of (c.entries_of_sums.ensures ∙ rounded_is (sym_ends c.difference.result) (rows_ends c.args.rows.now) c.args.i c.difference.ensures.exact);
}
