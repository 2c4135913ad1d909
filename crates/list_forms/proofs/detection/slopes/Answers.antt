use Rattle.std.proofs.Common.{arith, sym, ◌∙◌}
use Rattle.time_forms.specs.Programs.{form}
use Rattle.list_forms.specs.Views.{told}
use Rattle.list_forms.specs.Lines.{slope_along, removal_of}
use Rattle.list_forms.proofs.Answers.{slope_or_unknown}
use Rattle.list_forms.proofs.Slopes.{along_by_slope, none_before, slopes_more, slopes_all, slopes_stop}
use Rattle.list_forms.proofs.detection.slopes.Goals as goal

pub loop-i-init : goal.loop-i-init
loop-i-init c = none_before (slope_along c.args.lines.now (form c.args.determinant) (form c.args.kappa)) c.args.rows.now

pub returns-then-fails : goal.returns-then-fails
returns-then-fails c =
    let f = slope_along c.args.lines.now (form c.args.determinant) (form c.args.kappa) in
    let each = slope_or_unknown c.slope_at.result c.unwrap_or-this.result (λ y. f (removal_of c.args.rows.now c.loop-i.i y)) c.slope_at.ensures c.unwrap_or-this.ensures in
    slopes_stop (told c.unwrap_or-this.result) f c.args.rows.now c.loop-i.i (along_by_slope c.args.lines.now (form c.args.determinant) (form c.args.kappa)) (omega arith) (sym c.fails.ensures ∙ c.if-fails.true) each

pub loop-i-preserved : goal.loop-i-preserved
loop-i-preserved c =
    let f = slope_along c.args.lines.now (form c.args.determinant) (form c.args.kappa) in
    let each = slope_or_unknown c.slope_at.result c.unwrap_or-this.result (λ y. f (removal_of c.args.rows.now c.loop-i.i y)) c.slope_at.ensures c.unwrap_or-this.ensures in
    slopes_more (told c.loop-i.so_far) (told c.unwrap_or-this.result) (told c.and-so_far.result) f c.args.rows.now c.loop-i.i c.loop-i.invariant (sym c.fails.ensures ∙ c.if-fails.false) each c.and-so_far.ensures

pub returns : goal.returns
returns c = slopes_all (told c.loop-i.so_far) (slope_along c.args.lines.now (form c.args.determinant) (form c.args.kappa)) c.args.rows.now c.loop-i.i c.loop-i-test.false c.loop-i.invariant
