-- Lines that are printed one after another.
use Rattle.std.proofs.Common.{◌≡◌, ◌∙◌, refl, sym, ap, ℕ, List, [], ◌∷◌, ◌++◌, append_assoc, ◌<◌, ◌+◌, length, take, get_or, subst}
use Rattle.std.specs.Prelude.{codes}
use Rattle.std.proofs.lemmas.List.{take_more}
use Rattle.raim_model.specs.declared.verdict.Run.{Run}
use Rattle.text_lines.specs.Lines.{Text}
use Rattle.gps_week.specs.GpsTime.{SpellsInstant}
use Rattle.report_text.specs.Report.{IsLineOf, IsReport, IsPrintable, verdict_text}
use Rattle.report_text.specs.Appended.{Appended}

-- a line, printed part by part
pub line_appended : (leap : ℕ) (run : Run) (t0 t1 t2 t3 t4 t5 t6 : Text) → IsPrintable leap run → Appended (λ more. SpellsInstant more leap run.first) t0 t1 → t2 ≡ t1 ++ 32 ∷ []
    → Appended (λ more. SpellsInstant more leap run.end) t2 t3 → t4 ≡ t3 ++ 32 ∷ [] → t5 ≡ t4 ++ verdict_text run.verdict → t6 ≡ t5 ++ 10 ∷ []
    → Appended (λ more. (line : Text) × IsLineOf leap run line × (more ≡ line ++ 10 ∷ [])) t0 t6
line_appended leap run t0 t1 t2 t3 t4 t5 t6 p start a end b c d =
    let line : Text = start.0 ++ codes " " ++ end.0 ++ codes " " ++ verdict_text run.verdict in (
      line ++ 10 ∷ [],
      (line, record { start = start.0; end = end.0; starts = start.1; ends = end.1; written = p.written; spelled = refl }, refl),
      d ∙ ap (λ t. t ++ 10 ∷ []) (c ∙ ap (λ t. t ++ verdict_text run.verdict) (b ∙ ap (λ t. t ++ 32 ∷ []) (end.2 ∙ ap (λ t. t ++ end.0) (a ∙ ap (λ t. t ++ 32 ∷ []) start.2)))) ∙ simp append_assoc refl,
    )

report_more : (leap : ℕ) (runs : List Run) (text : Text) (run : Run) (line : Text) → IsReport leap runs text → IsLineOf leap run line → IsReport leap (runs ++ run ∷ []) (text ++ (line ++ 10 ∷ []))
report_more leap [] text run line printed is = (line, [], is, refl, ap (λ t. t ++ (line ++ 10 ∷ [])) printed)
report_more leap (r ∷ rs) text run line printed is = (
  printed.0,
  printed.1 ++ (line ++ 10 ∷ []),
  printed.2,
  report_more leap rs printed.1 run line printed.3 is,
  ap (λ t. t ++ (line ++ 10 ∷ [])) printed.4 ∙ append_assoc printed.0 (10 ∷ printed.1) (line ++ 10 ∷ []),
)

-- the same by the count of the runs that are printed
pub report_step : (leap : ℕ) (runs : List Run) (i : ℕ) (d : Run) (text new : Text) → i < length runs → IsReport leap (take i runs) text
    → Appended (λ more. (line : Text) × IsLineOf leap (get_or runs i d) line × (more ≡ line ++ 10 ∷ [])) text new → IsReport leap (take (i + 1) runs) new
report_step leap runs i d text new within printed more =
    let line : Text = more.1.0 in
    let whole : new ≡ text ++ (line ++ 10 ∷ []) = more.2 ∙ ap (λ t. text ++ t) more.1.2 in
    subst (λ l. IsReport leap l new) (sym (take_more runs i d within))
    (subst (λ t. IsReport leap (take i runs ++ get_or runs i d ∷ []) t) (sym whole) (report_more leap (take i runs) text (get_or runs i d) line printed more.1.1))
