use Rattle.std.proofs.Common.{◌∙◌, sym, ap, ◌^◌, ◌&&◌, Some, None}
use Rattle.whole_numbers.proofs.Casts.{plain}
use Rattle.time_forms.specs.Programs.{is_below, is_short, short_of, form_from}
use Rattle.time_forms.proofs.FormSums.{same_form}
use Rattle.time_forms.proofs.Shorts.{both_hold, short_plain, chosen, not_chosen}
use Rattle.time_forms.proofs.short.short_form.Goals as goal

pub returns-then-are_short : goal.returns-then-are_short
unfolding short_of
returns-then-are_short c =
    let e = rw (plain c.ranges.centre, plain c.ranges.turning, plain c.ranges.remainder) at (sym c.if-are_short.true ∙ c.are_short.ensures) in
    let p = both_hold (is_below c.args.centre (2 ^ 58)) (is_below c.args.turning (2 ^ 58) && is_below c.args.remainder (2 ^ 58)) e in
    let q = both_hold (is_below c.args.turning (2 ^ 58)) (is_below c.args.remainder (2 ^ 58)) p.1 in
    ap Some (same_form (short_plain c.args.centre c.ranges.centre p.0) (short_plain c.args.turning c.ranges.turning q.0) (short_plain c.args.remainder c.ranges.remainder q.1))
    ∙ chosen (is_short (form_from c.args.centre c.args.turning c.args.remainder)) (Some (form_from c.args.centre c.args.turning c.args.remainder)) None e

pub returns-else-are_short : goal.returns-else-are_short
unfolding short_of
returns-else-are_short c =
    let e = rw (plain c.ranges.centre, plain c.ranges.turning, plain c.ranges.remainder) at (sym c.if-are_short.false ∙ c.are_short.ensures) in
    not_chosen (is_short (form_from c.args.centre c.args.turning c.args.remainder)) (Some (form_from c.args.centre c.args.turning c.args.remainder)) None e
