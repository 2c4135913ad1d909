use Rattle.std.proofs.Common.{rules, ap₂, ◌∙◌, ◌≡◌, ℤ, ◌-ℤ◌, unsigned_abs, to_z, of_z}
use mir.Val.{SFits}
use mir.Syntax.{w64, w128}
use Rattle.fix_interval.specs.Ends.{Ends}
use Rattle.fix_interval.specs.Intervals.{ends}
use Rattle.time_forms.specs.Forms.{Form}
use Rattle.time_forms.specs.Operations.{moving_of, coarser_form}
use Rattle.time_forms.specs.Programs.{short_of}
use Rattle.leg_place.proofs.Pieces.{plain, widened}
use Rattle.site_forms.specs.Places.{growth_of, along_form}
use Rattle.site_forms.proofs.leg.along.Goals as goal

pub returns : goal.returns
unfolding along_form
returns c =
    let l = c.args.leg.now in
    let s : SFits w64 l.start = search rules in
    let e : SFits w64 l.stop = search rules in
    let h : SFits w64 l.half = search rules in
    let n : SFits w64 c.apart-length.result = search rules in
    let g : Ends = growth_of (ends c.args.a) (ends c.args.b) in
    let long : to_z w128 (of_z w128 (to_z w64 (of_z w64 c.apart-length.result))) ≡ l.stop -ℤ l.start = widened n ∙ rw (plain s, plain e) at c.apart-length.ensures in
    c.over.ensures ∙ ap₂ (λ (f : Form) (k : ℤ). short_of (coarser_form f (unsigned_abs k)))
    (c.moving.ensures.exact ∙ ap₂ (λ (v : Ends) (k : ℤ). moving_of v g (unsigned_abs k)) c.weighted-value.ensures.exact (widened h)) long
