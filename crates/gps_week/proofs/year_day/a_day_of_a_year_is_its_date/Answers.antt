use Rattle.gps_week.proofs.YearDayLemmas.{minutes_of_year, minutes_of_date}
use Rattle.gps_week.proofs.year_day.a_day_of_a_year_is_its_date.Goals as goal

pub returns-clause-minute : goal.returns-clause-minute
returns-clause-minute c = minutes_of_year

pub returns-clause-instant : goal.returns-clause-instant
returns-clause-instant c = minutes_of_date
