use Rattle.vert_run.proofs.laws.vertical_answers_say_what_is_so.Goals as goal

pub returns-clause-answer : goal.returns-clause-answer
returns-clause-answer c paths vertical_mm holds text answer =
    let found = answer.found in
    record {
      case = answer.case;
      runs = answer.runs;
      accepted = found.accepted.accepted;
      written = answer.written;
      runs_are = found.runs_are;
      right = found.right;
      undecided = found.undecided;
    }

pub returns-clause-overflow : goal.returns-clause-overflow
returns-clause-overflow c paths vertical_mm holds at prn h = (h.case, h.accepted.accepted, h.first)

pub returns-clause-too_many : goal.returns-clause-too_many
returns-clause-too_many c paths vertical_mm holds h = (h.case, h.accepted.accepted, h.many)
