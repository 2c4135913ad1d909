-- The texts of a fleet's four files.
use Rattle.raim_base.specs.MemDeskState.{Each}
use Rattle.text_lines.specs.Lines.{Text}
use Rattle.fleet_run.specs.declared.files.FleetFiles.{FleetFiles}
use Rattle.fleet_run.specs.declared.texts.FleetTexts.{FleetTexts}

abbrev pub texts_of : FleetTexts → Each Text
texts_of texts = record { limits = texts.limits.now; almanac = texts.almanac.now; outages = texts.outages.now; route = texts.routes.now }

-- as they were read
abbrev pub texts_read : FleetFiles → Each Text
texts_read files = record { limits = files.limits.items; almanac = files.almanac.items; outages = files.outages.items; route = files.routes.items }
