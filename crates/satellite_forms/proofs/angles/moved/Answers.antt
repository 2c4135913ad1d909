use Rattle.std.proofs.Common.{ap, ◌∙◌, ◌+◌, ◌*◌, ◌^◌, ◌≡◌, Some, unsigned_abs}
use Rattle.std.proofs.lemmas.Int.{to_z-of_z}
use Rattle.std.specs.Option.{option_map}
use mir.Syntax.{w64}
use lib.Dec.{lit≤}
use Rattle.fix_interval.specs.Intervals.{ends}
use Rattle.time_forms.specs.Forms.{Form}
use Rattle.time_forms.specs.Operations.{linear_of, add_form, narrow_form}
use Rattle.time_forms.specs.Programs.{form, wide, short_of}
use Rattle.satellite_forms.proofs.Bounds.{wider_form}
use Rattle.satellite_forms.proofs.Found.{moved_none, moved_some}
use Rattle.satellite_forms.proofs.angles.moved.Goals as goal

pub returns-in_err-motion-clause-exact : goal.returns-in_err-motion-clause-exact
returns-in_err-motion-clause-exact c =
    let l : wide c.linear.result ≡ linear_of (ends c.args.rate) c.args.k (unsigned_abs c.args.half) = rw (to_z-of_z w64 c.args.k c.ranges.k, to_z-of_z w64 c.args.half c.ranges.half) at c.linear.ensures.exact in
    ap (option_map form) c.from_residual.ensures
    ∙ moved_none (ends c.args.start) (ends c.args.rate) c.args.k (unsigned_abs c.args.half) (c.in_err-motion.ensures.exact ∙ ap (λ (f : Form). short_of (narrow_form f)) l)

pub add-requires-clause-a_small : goal.add-requires-clause-a_small
add-requires-clause-a_small c = wider_form (2 * 2 ^ 41) (2 ^ 61) (lit≤ tt) (c.steady.ensures.small (2 ^ 41) c.requires.start_small)

pub returns-clause-exact : goal.returns-clause-exact
returns-clause-exact c =
    let l : wide c.linear.result ≡ linear_of (ends c.args.rate) c.args.k (unsigned_abs c.args.half) = rw (to_z-of_z w64 c.args.k c.ranges.k, to_z-of_z w64 c.args.half c.ranges.half) at c.linear.ensures.exact in
    ap Some (c.add.ensures.exact ∙ ap (λ (f : Form). add_form f (form c.in_ok-motion.motion)) c.steady.ensures.exact)
    ∙ moved_some (ends c.args.start) (ends c.args.rate) c.args.k (unsigned_abs c.args.half) (form c.in_ok-motion.motion) (c.in_ok-motion.ensures.exact ∙ ap (λ (f : Form). short_of (narrow_form f)) l)

pub returns-clause-small : goal.returns-clause-small
returns-clause-small c = wider_form (2 * 2 ^ 41 + 2 ^ 58) (2 ^ 59) (lit≤ tt) (c.add.ensures.small (2 * 2 ^ 41) (2 ^ 58) (c.steady.ensures.small (2 ^ 41) c.requires.start_small) c.in_ok-motion.ensures.small)
