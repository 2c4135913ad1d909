use Rattle.fractions.proofs.Laws.{corners_above, corners_below}
use Rattle.fractions.proofs.field.products_lie_between_corners.Goals as goal

pub returns-clause-above : goal.returns-clause-above
returns-clause-above c l h m k x y b p q r s lm lk hm hk = corners_below p q r s lm lk hm hk

pub returns-clause-below : goal.returns-clause-below
returns-clause-below c l h m k x y b p q r s lm lk hm hk = corners_above p q r s lm lk hm hk
