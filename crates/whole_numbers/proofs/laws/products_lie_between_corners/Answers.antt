use Rattle.whole_numbers.proofs.Products.{least_corner-least, greatest_corner-greatest}
use Rattle.whole_numbers.proofs.laws.products_lie_between_corners.Goals as goal

pub returns-clause-least : goal.returns-clause-least
returns-clause-least c = least_corner-least

pub returns-clause-greatest : goal.returns-clause-greatest
returns-clause-greatest c = greatest_corner-greatest
