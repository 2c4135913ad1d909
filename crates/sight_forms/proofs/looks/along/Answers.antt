use Rattle.std.proofs.Common.{inr}
use Rattle.time_forms.specs.Programs.{form}
use Rattle.site_forms.specs.Frames.{frame_form}
use Rattle.sight_forms.specs.Views.{component_form}
use Rattle.sight_forms.proofs.Along.{are_of, hidden_along, visible_along, visible_or_unsure}
use Rattle.sight_forms.proofs.looks.along.Goals as goal

pub returns-then-hidden : goal.returns-then-hidden
returns-then-hidden c =
    let d = component_form c.args.line in
    let of = are_of (frame_form c.args.frame.now) d (form c.args.mask) (form c.in_ok-range.range) (form c.in_ok-upward.upward) (form c.in_ok-beyond.beyond) c.in_ok-range.ensures.some c.in_ok-range.ensures.exact c.in_ok-upward.ensures.exact c.named.ensures c.in_ok-beyond.ensures.exact in
    inr (hidden_along _ d _ _ _ _ (form c.args.weight) of c.if-hidden.ensures)

pub returns-then-visible : goal.returns-then-visible
returns-then-visible c =
    let d = component_form c.args.line in
    let of = are_of (frame_form c.args.frame.now) d (form c.args.mask) (form c.in_ok-range.range) (form c.in_ok-upward.upward) (form c.in_ok-beyond.beyond) c.in_ok-range.ensures.some c.in_ok-range.ensures.exact c.in_ok-upward.ensures.exact c.named.ensures c.in_ok-beyond.ensures.exact in
    visible_or_unsure c.in_sight.result _ _ c.in_sight.ensures (visible_along _ d _ _ _ _ (form c.args.weight) of c.if-hidden.ensures c.if-visible.ensures)
