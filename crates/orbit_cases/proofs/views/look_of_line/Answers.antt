use Rattle.orbit_cases.proofs.views.look_of_line.Goals as goal

pub look-requires-clause-frame : goal.look-requires-clause-frame
look-requires-clause-frame c = c.frame-site.ensures.frame
