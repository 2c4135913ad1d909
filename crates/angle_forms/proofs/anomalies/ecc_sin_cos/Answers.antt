use Rattle.std.proofs.Common.{rules, ap, ap₂, sym, ◌∙◌, ◌≡◌, ◌^◌, ℤ, Option, Some, None}
use mir.Syntax.{w128}
use mir.Val.{SFits}
use lib.Dec.{lit≤}
use Rattle.std.specs.Option.{option_map}
use Rattle.whole_numbers.proofs.Casts.{plain}
use Rattle.fix_interval.specs.Ends.{Ends}
use Rattle.fix_interval.specs.Intervals.{ends}
use Rattle.fix_interval.specs.Ranges.{point}
use Rattle.trig_laws.specs.SinCos.{sin_cos_of}
use Rattle.kepler_laws.specs.EccentricSine.{ecc_sin_cos_of}
use Rattle.time_forms.specs.Forms.{Form}
use Rattle.time_forms.specs.Operations.{fixed_of}
use Rattle.time_forms.specs.Programs.{form, short_of, IsFormWithin}
use Rattle.time_forms.proofs.Bits.{centre_within, turning_within, remainder_within, form_within, wider_bits}
use Rattle.time_forms.proofs.Shorts.{short_same, short_within}
use Rattle.orbit_forms.specs.Anomalies.{anomaly_at, anomaly_form, ecc_slack}
use Rattle.orbit_forms.specs.Positions.{PairForm, PairHolds}
use Rattle.angle_forms.specs.Pairs.{pair_form, IsPairWithin}
use Rattle.angle_forms.specs.Checked.{sines_at, checked_lines, checked_ecc_sin_cos}
use Rattle.angle_forms.proofs.Fits.{long-plain, short-plain}
use Rattle.angle_forms.proofs.EccentricPairs.{ecc_sin_cos_holds, ecc_sin_cos_small}
use Rattle.angle_forms.proofs.Steps.{none_step, some_step, if_pair}
use Rattle.angle_forms.proofs.anomalies.ecc_sin_cos.Goals as goal

-- the pair, after the eccentric anomaly
abbrev after : Form → Form → Option PairForm
after m e = checked_lines (sines_at e.centre) e (ecc_slack m)

none_is : (m : Form) (eps : Ends) → None ≡ short_of (anomaly_form m eps) → None ≡ checked_ecc_sin_cos m eps
unfolding checked_ecc_sin_cos
none_is m eps e = none_step (short_of (anomaly_form m eps)) (after m) e

some_is : (m : Form) (eps : Ends) (e : Form) → Some e ≡ short_of (anomaly_form m eps) → after m e ≡ checked_ecc_sin_cos m eps
unfolding checked_ecc_sin_cos
some_is m eps e q = some_step (short_of (anomaly_form m eps)) e (after m) q

-- its centre is the middle's
centre_is : (m : Form) (eps : Ends) (e : Form) → Some e ≡ short_of (anomaly_form m eps) → e.centre ≡ (anomaly_at m eps).centre
unfolding anomaly_form
centre_is m eps e q = ap (λ (f : Form). f.centre) (short_same (anomaly_form m eps) e (sym q))

wider_form : (f : Form) → IsFormWithin f (2 ^ 58) → IsFormWithin f (2 ^ 59)
wider_form f p = form_within f (2 ^ 59) (wider_bits (2 ^ 58) (2 ^ 59) (lit≤ tt) (centre_within p)) (wider_bits (2 ^ 58) (2 ^ 59) (lit≤ tt) (turning_within p)) (wider_bits (2 ^ 58) (2 ^ 59) (lit≤ tt) (remainder_within p))

pub anomaly-requires-clause-cosine : goal.anomaly-requires-clause-cosine
anomaly-requires-clause-cosine c =
    long-plain c.sines_of_point-at.result.cosine.centre (wider_bits (2 ^ 39) (2 ^ 60) (lit≤ tt) (centre_within c.sines_of_point-at.ensures.small.cosine))
    ∙ ap (λ (p : PairForm). p.cosine.centre) c.sines_of_point-at.ensures.exact
    ∙ ap (λ z. (fixed_of (sin_cos_of (point z)).cosine).centre) (short-plain c.bracket-middle.result.centre c.bracket-middle.ensures.centre_small ∙ sym (ap (λ (f : Form). f.centre) c.widened.ensures))

pub returns-in_err-anomaly-clause-exact : goal.returns-in_err-anomaly-clause-exact
returns-in_err-anomaly-clause-exact c =
    ap (option_map pair_form) c.from_residual.ensures
    ∙ none_is (form c.args.m) (ends c.args.eps) (c.in_err-anomaly.ensures ∙ ap (λ (f : Form). short_of (anomaly_form f (ends c.args.eps))) c.widened-mean.ensures)

pub lines-requires-clause-u_small : goal.lines-requires-clause-u_small
lines-requires-clause-u_small c = wider_form (form c.in_ok-anomaly.anomaly) (short_within _ (form c.in_ok-anomaly.anomaly) (sym c.in_ok-anomaly.ensures))

pub returns-clause-exact : goal.returns-clause-exact
returns-clause-exact c =
    let m : Form = form c.args.m in
    let eps : Ends = ends c.args.eps in
    let e : Form = form c.in_ok-anomaly.anomaly in
    let s : SFits w128 c.slack_of.result = search rules in
    let q : Some e ≡ short_of (anomaly_form m eps) = c.in_ok-anomaly.ensures ∙ ap (λ (f : Form). short_of (anomaly_form f eps)) c.widened-mean.ensures in
    let z = short-plain c.bracket-middle.result.centre c.bracket-middle.ensures.centre_small
    ∙ ap (λ (f : Form). f.centre) c.bracket-middle.ensures.exact ∙ ap (λ (f : Form). (anomaly_at f eps).centre) c.widened-mean.ensures ∙ sym (centre_is m eps e q) in
    c.lines.ensures ∙ ap₂ (λ (p : PairForm) (k : ℤ). checked_lines p e k) (c.sines_of_point-at.ensures.exact ∙ ap sines_at z) (plain s ∙ c.slack_of.ensures.value)
    ∙ some_is m eps e q

pub returns-clause-holds : goal.returns-clause-holds
returns-clause-holds c n h d a t k =
    if_pair _ (checked_ecc_sin_cos (form c.args.m) (ends c.args.eps)) (returns-clause-exact c) (λ p. PairHolds h d p (ecc_sin_cos_of a (ends c.args.eps)))
    (λ p e. ecc_sin_cos_holds (form c.args.m) (ends c.args.eps) a p record { low = c.requires.eps_low; ordered = c.args.eps.ordered; high = c.requires.eps_high } n t k e)

pub returns-clause-small : goal.returns-clause-small
returns-clause-small c = if_pair _ (checked_ecc_sin_cos (form c.args.m) (ends c.args.eps)) (returns-clause-exact c) (λ p. IsPairWithin p (2 ^ 58)) (λ p e. ecc_sin_cos_small (form c.args.m) (ends c.args.eps) p e)
