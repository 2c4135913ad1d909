use Rattle.slope_test.proofs.MarkLemmas.{none_marked}
use Rattle.piece_verdict.proofs.HiddenLemmas.{none_hidden}
use Rattle.piece_verdict.proofs.known.Known.nothing.Goals as goal

pub returns-clause-knows : goal.returns-clause-knows
returns-clause-knows c = λ alert flight first last.
    record {
      here = tt;
      hidden = none_hidden flight first last _ c.none.ensures.unmarked;
      slopes = record { sure = λ i t. absurd (none_marked _ c.none-2.ensures.unmarked i t); pass = λ i row lt t. absurd (none_marked _ c.none-2.ensures.unmarked i t) };
      lists = record { sure = λ i t. absurd (none_marked _ c.none-3.ensures.unmarked i t); pass = λ i lt t. absurd (none_marked _ c.none-3.ensures.unmarked i t) };
    }
