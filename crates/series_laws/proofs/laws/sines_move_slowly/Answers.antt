use Rattle.series_laws.proofs.Slow.{sine_moves_any}
use Rattle.series_laws.proofs.laws.sines_move_slowly.Goals as goal

pub returns : goal.returns
returns c N M u v s k t d p q = sine_moves_any N M u v s k t d p q
