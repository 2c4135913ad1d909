-- Each fact is computed.
use Rattle.std.specs.Prelude.{◌≡◌, T, refl}
use Rattle.fractions.specs.Pair.{pair_ratio, pair_is_at_most, pair_inverse}
use Rattle.fractions.specs.Fraction.{Fraction, ratio, ◌+ᶠ◌, ◌*ᶠ◌, neg, lift_both, is_at_most}
use Rattle.fractions.specs.Inverse.{inverse}
use Rattle.fractions.proofs.Laws.{≤ᶠ_antisym}
use Rattle.raim_model.specs.Geometry.{normal_matrix, determinant, inverse_of}
use Rattle.raim_model.specs.PointVerdict.{fault_of, is_steep, reason_of}
use Rattle.geometry_laws.specs.Minors.{adjugate}
use Rattle.geometry_laws.specs.Without.{without}
use Rattle.geometry_laws.proofs.laws.worked_geometries.Goals as goal

-- both tests together say that two fractions are equal
equal : {x y : Fraction} → T (is_at_most x y) → T (is_at_most y x) → x ≡ y
equal p q = ≤ᶠ_antisym record { le = p } record { le = q }

pub returns-clause-five : goal.returns-clause-five
unfolding without determinant normal_matrix ◌+ᶠ◌ ◌*ᶠ◌ lift_both neg ratio pair_ratio is_at_most pair_is_at_most
returns-clause-five c = equal tt tt

pub returns-clause-five_without_first : goal.returns-clause-five_without_first
unfolding without determinant normal_matrix ◌+ᶠ◌ ◌*ᶠ◌ lift_both neg ratio pair_ratio is_at_most pair_is_at_most
returns-clause-five_without_first c = equal tt tt

pub returns-clause-five_without_last : goal.returns-clause-five_without_last
unfolding without determinant normal_matrix ◌+ᶠ◌ ◌*ᶠ◌ lift_both neg ratio pair_ratio is_at_most pair_is_at_most
returns-clause-five_without_last c = equal tt tt

pub returns-clause-six : goal.returns-clause-six
unfolding without determinant normal_matrix ◌+ᶠ◌ ◌*ᶠ◌ lift_both neg ratio pair_ratio is_at_most pair_is_at_most
returns-clause-six c = equal tt tt

pub returns-clause-six_without_third : goal.returns-clause-six_without_third
unfolding without determinant normal_matrix ◌+ᶠ◌ ◌*ᶠ◌ lift_both neg ratio pair_ratio is_at_most pair_is_at_most
returns-clause-six_without_third c = equal tt tt

pub returns-clause-six_without_two : goal.returns-clause-six_without_two
unfolding without determinant normal_matrix ◌+ᶠ◌ ◌*ᶠ◌ lift_both neg ratio pair_ratio is_at_most pair_is_at_most
returns-clause-six_without_two c = equal tt tt

pub returns-clause-halved_five : goal.returns-clause-halved_five
unfolding without determinant normal_matrix ◌+ᶠ◌ ◌*ᶠ◌ lift_both neg ratio pair_ratio is_at_most pair_is_at_most
returns-clause-halved_five c = equal tt tt

pub returns-clause-halved_without_first : goal.returns-clause-halved_without_first
unfolding without determinant normal_matrix ◌+ᶠ◌ ◌*ᶠ◌ lift_both neg ratio pair_ratio is_at_most pair_is_at_most
returns-clause-halved_without_first c = equal tt tt

pub returns-clause-alpha_first : goal.returns-clause-alpha_first
unfolding adjugate determinant normal_matrix ◌+ᶠ◌ ◌*ᶠ◌ lift_both neg ratio pair_ratio is_at_most pair_is_at_most
returns-clause-alpha_first c = equal tt tt

pub returns-clause-alpha_last : goal.returns-clause-alpha_last
unfolding adjugate determinant normal_matrix ◌+ᶠ◌ ◌*ᶠ◌ lift_both neg ratio pair_ratio is_at_most pair_is_at_most
returns-clause-alpha_last c = equal tt tt

pub returns-clause-passes : goal.returns-clause-passes
unfolding reason_of fault_of is_steep inverse_of determinant normal_matrix ◌+ᶠ◌ ◌*ᶠ◌ lift_both neg ratio pair_ratio is_at_most pair_is_at_most inverse pair_inverse
returns-clause-passes c = refl

pub returns-clause-steep : goal.returns-clause-steep
unfolding reason_of fault_of is_steep inverse_of determinant normal_matrix ◌+ᶠ◌ ◌*ᶠ◌ lift_both neg ratio pair_ratio is_at_most pair_is_at_most inverse pair_inverse
returns-clause-steep c = refl

pub returns-clause-up_steep : goal.returns-clause-up_steep
unfolding reason_of fault_of is_steep inverse_of determinant normal_matrix ◌+ᶠ◌ ◌*ᶠ◌ lift_both neg ratio pair_ratio is_at_most pair_is_at_most inverse pair_inverse
returns-clause-up_steep c = refl

pub returns-clause-singular : goal.returns-clause-singular
unfolding reason_of fault_of is_steep inverse_of determinant normal_matrix ◌+ᶠ◌ ◌*ᶠ◌ lift_both neg ratio pair_ratio is_at_most pair_is_at_most inverse pair_inverse
returns-clause-singular c = refl

pub returns-clause-few : goal.returns-clause-few
unfolding reason_of fault_of is_steep inverse_of determinant normal_matrix ◌+ᶠ◌ ◌*ᶠ◌ lift_both neg ratio pair_ratio is_at_most pair_is_at_most inverse pair_inverse
returns-clause-few c = refl

pub returns-clause-six_pass : goal.returns-clause-six_pass
unfolding reason_of fault_of is_steep inverse_of determinant normal_matrix ◌+ᶠ◌ ◌*ᶠ◌ lift_both neg ratio pair_ratio is_at_most pair_is_at_most inverse pair_inverse
returns-clause-six_pass c = refl

pub returns-clause-one_excluded : goal.returns-clause-one_excluded
unfolding reason_of fault_of is_steep inverse_of determinant normal_matrix ◌+ᶠ◌ ◌*ᶠ◌ lift_both neg ratio pair_ratio is_at_most pair_is_at_most inverse pair_inverse
returns-clause-one_excluded c = refl

pub returns-clause-one_excluded_passes : goal.returns-clause-one_excluded_passes
unfolding reason_of fault_of is_steep inverse_of determinant normal_matrix ◌+ᶠ◌ ◌*ᶠ◌ lift_both neg ratio pair_ratio is_at_most pair_is_at_most inverse pair_inverse
returns-clause-one_excluded_passes c = refl

pub returns-clause-few_to_exclude : goal.returns-clause-few_to_exclude
unfolding reason_of fault_of is_steep inverse_of determinant normal_matrix ◌+ᶠ◌ ◌*ᶠ◌ lift_both neg ratio pair_ratio is_at_most pair_is_at_most inverse pair_inverse
returns-clause-few_to_exclude c = refl

pub returns-clause-halved_passes : goal.returns-clause-halved_passes
unfolding reason_of fault_of is_steep inverse_of determinant normal_matrix ◌+ᶠ◌ ◌*ᶠ◌ lift_both neg ratio pair_ratio is_at_most pair_is_at_most inverse pair_inverse
returns-clause-halved_passes c = refl

pub returns-clause-halved_steep : goal.returns-clause-halved_steep
unfolding reason_of fault_of is_steep inverse_of determinant normal_matrix ◌+ᶠ◌ ◌*ᶠ◌ lift_both neg ratio pair_ratio is_at_most pair_is_at_most inverse pair_inverse
returns-clause-halved_steep c = refl

pub returns-clause-six_without_first : goal.returns-clause-six_without_first
unfolding without adjugate determinant normal_matrix ◌+ᶠ◌ ◌*ᶠ◌ lift_both neg ratio pair_ratio is_at_most pair_is_at_most
returns-clause-six_without_first c = equal tt tt

pub returns-clause-alpha_second : goal.returns-clause-alpha_second
unfolding without adjugate determinant normal_matrix ◌+ᶠ◌ ◌*ᶠ◌ lift_both neg ratio pair_ratio is_at_most pair_is_at_most
returns-clause-alpha_second c = equal tt tt

pub returns-clause-alpha_third : goal.returns-clause-alpha_third
unfolding without adjugate determinant normal_matrix ◌+ᶠ◌ ◌*ᶠ◌ lift_both neg ratio pair_ratio is_at_most pair_is_at_most
returns-clause-alpha_third c = equal tt tt

pub returns-clause-halved_alpha_first : goal.returns-clause-halved_alpha_first
unfolding without adjugate determinant normal_matrix ◌+ᶠ◌ ◌*ᶠ◌ lift_both neg ratio pair_ratio is_at_most pair_is_at_most
returns-clause-halved_alpha_first c = equal tt tt

pub returns-clause-up_alpha_last : goal.returns-clause-up_alpha_last
unfolding without adjugate determinant normal_matrix ◌+ᶠ◌ ◌*ᶠ◌ lift_both neg ratio pair_ratio is_at_most pair_is_at_most
returns-clause-up_alpha_last c = equal tt tt

pub returns-clause-up_passes : goal.returns-clause-up_passes
unfolding reason_of fault_of is_steep inverse_of determinant normal_matrix ◌+ᶠ◌ ◌*ᶠ◌ lift_both neg ratio pair_ratio is_at_most pair_is_at_most inverse pair_inverse
returns-clause-up_passes c = refl

pub returns-clause-up_six_pass : goal.returns-clause-up_six_pass
unfolding reason_of fault_of is_steep inverse_of determinant normal_matrix ◌+ᶠ◌ ◌*ᶠ◌ lift_both neg ratio pair_ratio is_at_most pair_is_at_most inverse pair_inverse
returns-clause-up_six_pass c = refl

pub returns-clause-up_six_steep : goal.returns-clause-up_six_steep
unfolding reason_of fault_of is_steep inverse_of determinant normal_matrix ◌+ᶠ◌ ◌*ᶠ◌ lift_both neg ratio pair_ratio is_at_most pair_is_at_most inverse pair_inverse
returns-clause-up_six_steep c = refl
