use Rattle.std.proofs.Common.{ap, ap₂, ◌∙◌, ◌+◌, ◌*◌, ◌^◌}
use lib.Dec.{lit≤}
use Rattle.time_forms.specs.Forms.{Form}
use Rattle.time_forms.specs.Operations.{fixed_of, sub_form, wide_form}
use Rattle.time_forms.specs.Programs.{form, wide, IsFormWithin}
use Rattle.site_forms.proofs.Bounds.{wider_form}
use Rattle.site_forms.proofs.Constants.{eccentricity-is}
use Rattle.site_forms.proofs.ellipsoid.radicand.Goals as goal

pub wide_product-requires-clause-a_small : goal.wide_product-requires-clause-a_small
wide_product-requires-clause-a_small c = wider_form (2 * 2 ^ 31) (2 ^ 60) (lit≤ tt) (c.steady.ensures.small (2 ^ 31) record { low = record { le = tt }; high = record { le = tt } })

pub sub_wide-requires-clause-a_small : goal.sub_wide-requires-clause-a_small
sub_wide-requires-clause-a_small c = wider_form (2 * 2 ^ 76) (2 ^ 125) (lit≤ tt) (c.steady_wide.ensures.small (2 ^ 76) record { low = record { le = tt }; high = record { le = tt } })

pub sub_wide-requires-clause-b_small : goal.sub_wide-requires-clause-b_small
sub_wide-requires-clause-b_small c =
    wider_form (6 * (2 * 2 ^ 31 * 2 ^ 58) + 1) (2 ^ 125) (lit≤ tt) (c.wide_product.ensures.small (2 * 2 ^ 31) (2 ^ 58) (c.steady.ensures.small (2 ^ 31) record { low = record { le = tt }; high = record { le = tt } }) c.requires)

pub returns-clause-exact : goal.returns-clause-exact
returns-clause-exact c =
    c.sub_wide.ensures.exact
    ∙ ap₂ sub_form c.steady_wide.ensures.exact (c.wide_product.ensures.exact ∙ ap (λ (f : Form). wide_form f (form c.args.square)) (c.steady.ensures.exact ∙ ap fixed_of eccentricity-is))

pub returns-clause-small : goal.returns-clause-small
returns-clause-small c =
    let one : IsFormWithin (wide c.steady_wide.result) (2 * 2 ^ 76) = c.steady_wide.ensures.small (2 ^ 76) record { low = record { le = tt }; high = record { le = tt } } in
    let less : IsFormWithin (wide c.wide_product.result) (6 * (2 * 2 ^ 31 * 2 ^ 58) + 1) = c.wide_product.ensures.small (2 * 2 ^ 31) (2 ^ 58) (c.steady.ensures.small (2 ^ 31) record { low = record { le = tt }; high = record { le = tt } }) c.requires in
    wider_form (2 * 2 ^ 76 + (6 * (2 * 2 ^ 31 * 2 ^ 58) + 1)) (2 ^ 122) (lit≤ tt) (c.sub_wide.ensures.small (2 * 2 ^ 76) (6 * (2 * 2 ^ 31 * 2 ^ 58) + 1) one less)
