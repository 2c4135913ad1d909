use Rattle.fractions.specs.Fraction.{◌+ᶠ◌}
use Rattle.raim_model.specs.Constants.{eccentricity_squared}
use Rattle.raim_model.specs.Receiver.{prime_vertical_radius}
use Rattle.solution_laws.proofs.Sites.{east_and_north, east_and_up, north_and_up, up_x, up_y, up_z, line_across, line_up}
use Rattle.solution_laws.proofs.laws.receivers_stand_on_the_ellipsoid.Goals as goal

pub returns-clause-east_and_north : goal.returns-clause-east_and_north
returns-clause-east_and_north c N p s = east_and_north s.sin_lat s.cos_lat s.sin_lon s.cos_lon

pub returns-clause-east_and_up : goal.returns-clause-east_and_up
returns-clause-east_and_up c N p s = east_and_up s.sin_lat s.cos_lat s.sin_lon s.cos_lon

pub returns-clause-north_and_up : goal.returns-clause-north_and_up
returns-clause-north_and_up c N p s = north_and_up s.sin_lat s.cos_lat s.sin_lon s.cos_lon

pub returns-clause-up_x : goal.returns-clause-up_x
returns-clause-up_x c N p s = up_x s.sin_lat s.cos_lat s.sin_lon s.cos_lon

pub returns-clause-up_y : goal.returns-clause-up_y
returns-clause-up_y c N p s = up_y s.sin_lat s.cos_lat s.sin_lon s.cos_lon

pub returns-clause-up_z : goal.returns-clause-up_z
returns-clause-up_z c N p s = up_z s.sin_lat s.cos_lat s.sin_lon s.cos_lon

pub returns-clause-line_x : goal.returns-clause-line_x
returns-clause-line_x c N p s = line_across (prime_vertical_radius s +ᶠ p.height) s.cos_lat s.cos_lon

pub returns-clause-line_y : goal.returns-clause-line_y
returns-clause-line_y c N p s = line_across (prime_vertical_radius s +ᶠ p.height) s.cos_lat s.sin_lon

pub returns-clause-line_z : goal.returns-clause-line_z
returns-clause-line_z c N p s = line_up (prime_vertical_radius s) eccentricity_squared p.height s.sin_lat
