use Rattle.std.proofs.Common.{◌≡◌, ◌++◌, ◌∷◌, take}
use Rattle.std.specs.Prelude.{filter, nat_lt}
use Rattle.notice_book.proofs.entries.put.Given as goal

abbrev pub invariant-loop-e : goal.invariant-loop-e
invariant-loop-e l = l.after.items ≡ filter (λ x. nat_lt x.number l.entry.number) (take l.e-index l.live)

abbrev pub invariant-rest : goal.invariant-rest
invariant-rest l = l.after.items ≡ filter (λ x. nat_lt x.number l.entry.number) l.live ++ l.entry ∷ filter (λ x. nat_lt l.entry.number x.number) (take l.e-index l.live)
