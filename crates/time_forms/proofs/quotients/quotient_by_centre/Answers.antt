use Rattle.std.proofs.Common.{◌^◌}
use Rattle.time_forms.proofs.Shorts.{below_within}
use Rattle.time_forms.proofs.quotients.quotient_by_centre.Goals as goal

pub quotient_by_turn-requires-clause-turn_small : goal.quotient_by_turn-requires-clause-turn_small
quotient_by_turn-requires-clause-turn_small c = below_within _ (2 ^ 58) c.if-is_short_number.ensures
