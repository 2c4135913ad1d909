-- Lines that are printed one after another.
use Rattle.std.proofs.Common.{◌≡◌, ◌∙◌, refl, sym, ap, ℕ, List, [], ◌∷◌, ◌++◌, append_assoc, ◌<◌, ◌+◌, length, take, get_or, subst}
use Rattle.std.specs.Prelude.{codes}
use Rattle.std.proofs.lemmas.List.{take_more}
use Rattle.raim_model.specs.declared.Outage.{Outage}
use Rattle.text_lines.specs.Lines.{Text}
use Rattle.gps_week.specs.TimeText.{two_digits}
use Rattle.gps_week.specs.GpsTime.{SpellsInstant}
use Rattle.outage_notice.specs.Printing.{IsEndText, IsLineOf, ListsOutages}
use Rattle.outage_notice.specs.Appended.{Appended}

-- a line, printed part by part
pub line_appended : (leap : ℕ) (o : Outage) (t0 t1 t2 t3 t4 t5 t6 : Text) → t1 ≡ t0 ++ two_digits o.prn → t2 ≡ t1 ++ 32 ∷ []
    → Appended (λ more. SpellsInstant more leap o.start) t2 t3 → t4 ≡ t3 ++ 32 ∷ [] → Appended (IsEndText leap o.end) t4 t5 → t6 ≡ t5 ++ 10 ∷ []
    → Appended (λ more. (line : Text) × IsLineOf leap o line × (more ≡ line ++ 10 ∷ [])) t0 t6
line_appended leap o t0 t1 t2 t3 t4 t5 t6 a b start c end d =
    let line : Text = two_digits o.prn ++ codes " " ++ start.0 ++ codes " " ++ end.0 in (
      line ++ 10 ∷ [],
      (line, record { start = start.0; end = end.0; starts = start.1; ends = end.1; spelled = refl }, refl),
      d ∙ ap (λ t. t ++ 10 ∷ []) (end.2 ∙ ap (λ t. t ++ end.0) (c ∙ ap (λ t. t ++ 32 ∷ []) (start.2 ∙ ap (λ t. t ++ start.0) (b ∙ ap (λ t. t ++ 32 ∷ []) a)))) ∙ simp append_assoc refl,
    )

-- one more line at the end
lists_more : (leap : ℕ) (os : List Outage) (text : Text) (o : Outage) (line : Text) → ListsOutages leap os text → IsLineOf leap o line → ListsOutages leap (os ++ o ∷ []) (text ++ (line ++ 10 ∷ []))
lists_more leap [] text o line printed is = (line, [], is, refl, ap (λ t. t ++ (line ++ 10 ∷ [])) printed)
lists_more leap (p ∷ ps) text o line printed is = (
  printed.0,
  printed.1 ++ (line ++ 10 ∷ []),
  printed.2,
  lists_more leap ps printed.1 o line printed.3 is,
  ap (λ t. t ++ (line ++ 10 ∷ [])) printed.4 ∙ append_assoc printed.0 (10 ∷ printed.1) (line ++ 10 ∷ []),
)

-- the same by the count of the outages that are printed
pub lists_step : (leap : ℕ) (os : List Outage) (i : ℕ) (d : Outage) (text new : Text) → i < length os → ListsOutages leap (take i os) text
    → Appended (λ more. (line : Text) × IsLineOf leap (get_or os i d) line × (more ≡ line ++ 10 ∷ [])) text new → ListsOutages leap (take (i + 1) os) new
lists_step leap os i d text new within printed more =
    let line : Text = more.1.0 in
    let whole : new ≡ text ++ (line ++ 10 ∷ []) = more.2 ∙ ap (λ t. text ++ t) more.1.2 in
    subst (λ l. ListsOutages leap l new) (sym (take_more os i d within))
    (subst (λ t. ListsOutages leap (take i os ++ get_or os i d ∷ []) t) (sym whole) (lists_more leap (take i os) text (get_or os i d) line printed more.1.1))
