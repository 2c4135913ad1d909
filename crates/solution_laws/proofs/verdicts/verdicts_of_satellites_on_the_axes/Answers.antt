-- Each verdict is computed, once the mode and the biases are put in.
use Rattle.std.specs.Prelude.{true, false, [], ◌∷◌, take, refl}
use Rattle.fractions.specs.Pair.{pair_ratio, pair_is_at_most, pair_inverse}
use Rattle.fractions.specs.Fraction.{ratio, ◌+ᶠ◌, ◌*ᶠ◌, neg, lift_both, is_at_most}
use Rattle.fractions.specs.Inverse.{inverse}
use Rattle.raim_model.specs.declared.verdict.Verdict.TheVariants.{Available, Unavailable}
use Rattle.raim_model.specs.declared.verdict.Why.TheVariants.{Few, Singular, Slope as TooSteep}
use Rattle.raim_model.specs.Geometry.{horizontal, vertical, normal_matrix, determinant, inverse_of}
use Rattle.raim_model.specs.PointVerdict.{fault_of, is_steep, reason_of}
use Rattle.geometry_laws.specs.Worked.{five_rows, six_rows, rows_up}
use Rattle.solution_laws.proofs.Parts.{by_parts}
use Rattle.solution_laws.proofs.verdicts.verdicts_of_satellites_on_the_axes.Goals as goal

pub returns-clause-five_pass : goal.returns-clause-five_pass
unfolding reason_of fault_of is_steep inverse_of determinant normal_matrix ◌+ᶠ◌ ◌*ᶠ◌ lift_both neg ratio pair_ratio is_at_most pair_is_at_most inverse pair_inverse
returns-clause-five_pass c limits mode biases = by_parts horizontal limits 1000 five_rows false (1000 ∷ 9000 ∷ []) Available mode biases refl

pub returns-clause-five_steep : goal.returns-clause-five_steep
unfolding reason_of fault_of is_steep inverse_of determinant normal_matrix ◌+ᶠ◌ ◌*ᶠ◌ lift_both neg ratio pair_ratio is_at_most pair_is_at_most inverse pair_inverse
returns-clause-five_steep c limits mode biases = by_parts horizontal limits 1000 five_rows false (1001 ∷ 0 ∷ []) (Unavailable TooSteep) mode biases refl

pub returns-clause-six_pass : goal.returns-clause-six_pass
unfolding reason_of fault_of is_steep inverse_of determinant normal_matrix ◌+ᶠ◌ ◌*ᶠ◌ lift_both neg ratio pair_ratio is_at_most pair_is_at_most inverse pair_inverse
returns-clause-six_pass c limits mode biases = by_parts horizontal limits 1000 six_rows false (9000 ∷ 1150 ∷ []) Available mode biases refl

pub returns-clause-six_steep : goal.returns-clause-six_steep
unfolding reason_of fault_of is_steep inverse_of determinant normal_matrix ◌+ᶠ◌ ◌*ᶠ◌ lift_both neg ratio pair_ratio is_at_most pair_is_at_most inverse pair_inverse
returns-clause-six_steep c limits mode biases = by_parts horizontal limits 1000 six_rows false (0 ∷ 1200 ∷ 0 ∷ []) (Unavailable TooSteep) mode biases refl

pub returns-clause-last_pass : goal.returns-clause-last_pass
unfolding reason_of fault_of is_steep inverse_of determinant normal_matrix ◌+ᶠ◌ ◌*ᶠ◌ lift_both neg ratio pair_ratio is_at_most pair_is_at_most inverse pair_inverse
returns-clause-last_pass c limits mode biases = by_parts horizontal limits 1000 six_rows false (1150 ∷ []) Available mode biases refl

pub returns-clause-last_steep : goal.returns-clause-last_steep
unfolding reason_of fault_of is_steep inverse_of determinant normal_matrix ◌+ᶠ◌ ◌*ᶠ◌ lift_both neg ratio pair_ratio is_at_most pair_is_at_most inverse pair_inverse
returns-clause-last_steep c limits mode biases = by_parts horizontal limits 1000 six_rows false (1200 ∷ []) (Unavailable TooSteep) mode biases refl

pub returns-clause-few : goal.returns-clause-few
unfolding reason_of fault_of is_steep inverse_of determinant normal_matrix ◌+ᶠ◌ ◌*ᶠ◌ lift_both neg ratio pair_ratio is_at_most pair_is_at_most inverse pair_inverse
returns-clause-few c limits mode biases = by_parts horizontal limits 1000 (take 4 five_rows) false (0 ∷ []) (Unavailable Few) mode biases refl

pub returns-clause-singular : goal.returns-clause-singular
unfolding reason_of fault_of is_steep inverse_of determinant normal_matrix ◌+ᶠ◌ ◌*ᶠ◌ lift_both neg ratio pair_ratio is_at_most pair_is_at_most inverse pair_inverse
returns-clause-singular c limits mode biases = by_parts horizontal limits 1000 rows_up false (0 ∷ []) (Unavailable Singular) mode biases refl

pub returns-clause-excluded_pass : goal.returns-clause-excluded_pass
unfolding reason_of fault_of is_steep inverse_of determinant normal_matrix ◌+ᶠ◌ ◌*ᶠ◌ lift_both neg ratio pair_ratio is_at_most pair_is_at_most inverse pair_inverse
returns-clause-excluded_pass c limits mode biases = by_parts horizontal limits 1000 six_rows true (0 ∷ 1150 ∷ []) Available mode biases refl

pub returns-clause-excluded_whole_steep : goal.returns-clause-excluded_whole_steep
unfolding reason_of fault_of is_steep inverse_of determinant normal_matrix ◌+ᶠ◌ ◌*ᶠ◌ lift_both neg ratio pair_ratio is_at_most pair_is_at_most inverse pair_inverse
returns-clause-excluded_whole_steep c limits mode biases = by_parts horizontal limits 1000 six_rows true (0 ∷ 1200 ∷ []) (Unavailable TooSteep) mode biases refl

pub returns-clause-excluded_five_steep : goal.returns-clause-excluded_five_steep
unfolding reason_of fault_of is_steep inverse_of determinant normal_matrix ◌+ᶠ◌ ◌*ᶠ◌ lift_both neg ratio pair_ratio is_at_most pair_is_at_most inverse pair_inverse
returns-clause-excluded_five_steep c limits mode biases = by_parts horizontal limits 1000 six_rows true (1 ∷ 0 ∷ []) (Unavailable TooSteep) mode biases refl

pub returns-clause-excluded_few : goal.returns-clause-excluded_few
unfolding reason_of fault_of is_steep inverse_of determinant normal_matrix ◌+ᶠ◌ ◌*ᶠ◌ lift_both neg ratio pair_ratio is_at_most pair_is_at_most inverse pair_inverse
returns-clause-excluded_few c limits mode biases = by_parts horizontal limits 1000 five_rows true (0 ∷ []) (Unavailable Few) mode biases refl

pub returns-clause-up_pass : goal.returns-clause-up_pass
unfolding reason_of fault_of is_steep inverse_of determinant normal_matrix ◌+ᶠ◌ ◌*ᶠ◌ lift_both neg ratio pair_ratio is_at_most pair_is_at_most inverse pair_inverse
returns-clause-up_pass c limits mode biases = by_parts vertical limits 2000 six_rows false (9000 ∷ 2300 ∷ []) Available mode biases refl

pub returns-clause-up_steep : goal.returns-clause-up_steep
unfolding reason_of fault_of is_steep inverse_of determinant normal_matrix ◌+ᶠ◌ ◌*ᶠ◌ lift_both neg ratio pair_ratio is_at_most pair_is_at_most inverse pair_inverse
returns-clause-up_steep c limits mode biases = by_parts vertical limits 2000 six_rows false (0 ∷ 2400 ∷ []) (Unavailable TooSteep) mode biases refl
