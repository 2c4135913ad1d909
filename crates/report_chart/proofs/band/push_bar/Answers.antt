use Rattle.std.proofs.Common.{rules, FitsSigned, w64}
use Rattle.std.proofs.lemmas.Int.{to_z-of_z}
use Rattle.report_chart.proofs.BandLemmas.{bar_grows}
use Rattle.report_chart.proofs.band.push_bar.Goals as goal

pub returns : goal.returns
returns c =
    let first : FitsSigned w64 c.args.run.now.first = search rules in
    let end : FitsSigned w64 c.args.run.now.end = search rules in
    let x = simp to_z-of_z at c.place-x.ensures in
    let y = simp to_z-of_z at c.place.ensures in
    let title = simp to_z-of_z at c.push_bar_title.ensures in
    bar_grows c.args.span c.args.run.now c.of-kind.result c.place-x.result c.place.result c.push_bar_title.result
    c.args.text.now.items c.push_bar_style.new.text.items c.push_bar_title.new.text.items
    c.of-kind.ensures x y c.in_ok-push_bar_style.ensures title
