use Rattle.std.proofs.Common.{◌∙◌}
use Rattle.raim_run.proofs.FileLemmas.{demo_case, demo_stopped, same_texts}
use Rattle.raim_run.proofs.files.read_demonstration.Goals as goal

pub returns-clause-ok : goal.returns-clause-ok
returns-clause-ok c holds =
    let made = c.new-desk.ensures in
    let texts = c.in-Ok.ensures in
    demo_case c.args.number c.new-desk.result.texts
    (same_texts c.args.number c.new-desk.result.texts (made.limits ∙ texts.limits) (made.almanac ∙ texts.almanac) (made.outages ∙ texts.outages) (made.route ∙ texts.route))
    holds c.read_files.result c.read_files.ensures.ok c.read_files.ensures.ranges

pub returns-clause-cause : goal.returns-clause-cause
returns-clause-cause c holds before now =
    let made = c.new-desk.ensures in
    let texts = c.in-Ok.ensures in
    demo_stopped c.args.number c.new-desk.result.texts
    (same_texts c.args.number c.new-desk.result.texts (made.limits ∙ texts.limits) (made.almanac ∙ texts.almanac) (made.outages ∙ texts.outages) (made.route ∙ texts.route))
    holds before now c.read_files.result c.read_files.ensures.refused c.read_files.ensures.too_long c.read_files.ensures.fault
