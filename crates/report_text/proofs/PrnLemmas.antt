-- PRNs from 1 to 32, as a test and as a fact.
use Rattle.std.proofs.Common.{◌≡◌, ℕ, zero, suc, true, List, [], ◌∷◌, refl, arith}
use Rattle.std.specs.Prelude.{All}
use Rattle.std.specs.List.{list_all}
use Rattle.report_text.specs.Report.{IsPrn}
use Rattle.report_text.specs.ReportLines.{is_prn}
use Rattle.report_text.proofs.PlainLemmas.{and_parts}

prn_passes : (n : ℕ) → IsPrn n → is_prn n ≡ true
prn_passes n h = grind arith

is_passing : (n : ℕ) → is_prn n ≡ true → IsPrn n
is_passing n h = grind arith

-- PRNs that are all 1 to 32 pass the test
pub prns_pass : (xs : List ℕ) → All IsPrn xs → list_all is_prn xs ≡ true
prns_pass [] h = refl
prns_pass (x ∷ xs) h = rw (prn_passes x (h 0 0 (omega arith)), prns_pass xs (λ k d i. h (suc k) d (omega arith))) refl

-- PRNs that pass it are all 1 to 32
pub prns_are : (xs : List ℕ) → list_all is_prn xs ≡ true → All IsPrn xs
prns_are [] h k d i = absurd (omega arith)
prns_are (x ∷ xs) h zero d i = is_passing x (and_parts (is_prn x) (list_all is_prn xs) h).0
prns_are (x ∷ xs) h (suc k) d i = prns_are xs (and_parts (is_prn x) (list_all is_prn xs) h).1 k d (omega arith)
