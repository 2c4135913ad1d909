use Rattle.std.proofs.Common.{arith, ◌≤◌}
use Rattle.series_laws.proofs.Bracket.{sine_near, cosine_near}
use Rattle.series_laws.proofs.laws.seven_terms_suffice.Goals as goal

pub returns-clause-sine : goal.returns-clause-sine
returns-clause-sine c N x s h p = let m : 7 ≤ N.terms = omega (arith, N.enough) in sine_near N.terms x s m h p

pub returns-clause-cosine : goal.returns-clause-cosine
returns-clause-cosine c N x k h p = let m : 8 ≤ N.terms = omega (arith, N.enough) in cosine_near N.terms x k m h p
