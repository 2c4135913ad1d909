-- The text of outages is read as these, and outages that were read have a text.
use Rattle.std.proofs.Common.{rules, ◌≡◌, ◌<◌, ◌≤◌, ◌+◌, ◌||◌, ℕ, ℤ, zero, suc, Bool, true, false, not, cond, List, [], ◌∷◌, ◌++◌, length, get_or, take, map, Option, Some, None, Ok, refl, sym, ap, ap₂, ◌∙◌, arith, subst, append-nil, append_assoc, length-append, nat_lt, nat_le}
use Rattle.std.specs.Prelude.{codes, bytes_eq, int_lt, ◌<ℤ◌, All, IfSome}
use Rattle.std.specs.Option.{option_to_list}
use Rattle.std.proofs.lemmas.List.Elements.{All-cons, All-head, All-tail}
use Rattle.std.proofs.Math.Seq.{take-suc, take-length}
use Rattle.raim_model.specs.declared.TextWhy.TheVariants.{Word, TooMany, Range, EmptySpan}
use Rattle.raim_model.specs.declared.Outage.{Outage}
use Rattle.text_lines.specs.Lines.{Text, lines_of}
use Rattle.text_lines.specs.Words.{words_of, triple_of}
use Rattle.text_lines.specs.Fields.{◌>>=◌, or_else, any_whole, whole_in, in_range}
use Rattle.text_lines.specs.Reading.{Reads}
use Rattle.text_lines.proofs.Cuts.{lines-cons, not_false}
use Rattle.text_lines.proofs.FieldLemmas.{bind_then, ok_is, unless_then}
use Rattle.text_lines.proofs.ReadingLaws.{same_entries}
use Rattle.text_lines.proofs.ReadingMore.{reads_none, reads_more, filter_map-more}
use Rattle.gps_week.specs.TimeText.{two_digits}
use Rattle.gps_week.specs.GpsTime.{IsInstant}
use Rattle.gps_week.specs.TimeReading.{time_in}
use Rattle.gps_week.proofs.InstantLemmas.{one_text, instant_in_range}
use Rattle.gps_week.proofs.TimeReadingLemmas.{says_instant}
use Rattle.outage_notice.specs.declared.entry.Entry.{Entry}
use Rattle.outage_notice.specs.declared.entry.Entry.TheVariants as entry
use Rattle.outage_notice.specs.Outages.{outage_in, outages_in, end_of, is_after, outage_of, notice_of, entry_of, words_entry_of, outage_lines}
use Rattle.outage_notice.specs.Answers.{SayOutages}
use Rattle.outage_notice.specs.Printing.{IsEndText, IsLineOf, ListsOutages, IsPrn, IsPrintable, IsReadable, AreReadable}
use Rattle.outage_notice.specs.Laws.{HaveOneText, HasOneMeaning, ReadsLists, ArePrintedAgain}
use Rattle.outage_notice.proofs.PlainLemmas.{line_above, inside, no_return}
use Rattle.outage_notice.proofs.LineLemmas.{line_says}

-- An outage has one line.

one_end : (leap : ℕ) (end : Option ℤ) (a b : Text) → IsEndText leap end a → IsEndText leap end b → b ≡ a
one_end leap None a b x y = y ∙ sym x
one_end leap (Some end) a b x y = one_text a b leap end x y

one_line : (leap : ℕ) (o : Outage) (a b : Text) → IsLineOf leap o a → IsLineOf leap o b → b ≡ a
one_line leap o a b x y =
    y.spelled
    ∙ ap₂ (λ s e. two_digits o.prn ++ codes " " ++ s ++ codes " " ++ e) (one_text x.start y.start leap o.start x.starts y.starts) (one_end leap o.end x.end y.end x.ends y.ends)
    ∙ sym x.spelled

-- outages have one text at most
pub one_list : HaveOneText
one_list leap [] text other a b = b ∙ sym a
one_list leap (o ∷ os) text other a b =
    b.4 ∙ ap₂ (λ l r. l ++ 10 ∷ r) (one_line leap o a.0 b.0 a.2 b.2) (one_list leap os a.1 b.1 a.3 b.3) ∙ sym a.4

-- The lines of a text say the outages that it lists.

-- the entries that outages are
abbrev entries_of : List Outage → List Entry
entries_of os = map (λ o. entry.Outage o) os

said_again : (os : List Outage) → outages_in (entries_of os) ≡ os
said_again [] = refl
said_again (o ∷ os) = ap (λ xs. o ∷ xs) (said_again os)

-- the first line of a text
first_line : (leap : ℕ) (o : Outage) (line rest text : Text) → IsLineOf leap o line → text ≡ line ++ 10 ∷ rest → lines_of text ≡ line ∷ lines_of rest
first_line leap o line rest text x e =
    let high = line_above leap o line x in
    ap lines_of e ∙ lines-cons line rest (inside line high) ∙ ap (λ l. l ∷ lines_of rest) (no_return line high)

-- lines that are read, and the lines of a text behind them
reads_behind : (leap : ℕ) (os : List Outage) (text : Text) (done : List Text) (entries : List Entry) (before : List Outage) → ListsOutages leap os text → All IsReadable os
    → Reads (outage_lines leap) done entries → outages_in entries ≡ before → length before + length os ≤ 256
    → Reads (outage_lines leap) (done ++ lines_of text) (entries ++ entries_of os)
reads_behind leap [] text done entries before printed all reads said few =
    subst (λ (ls : List Text). Reads (outage_lines leap) ls (entries ++ [])) (sym (ap (λ t. done ++ lines_of t) printed ∙ append-nil done))
    (subst (λ (es : List Entry). Reads (outage_lines leap) done es) (sym (append-nil entries)) reads)
reads_behind leap (o ∷ os) text done entries before printed all reads said few =
    let line : Text = printed.0 in
    let rest : Text = printed.1 in
    let low : length before < 256 = omega (arith, few) in
    let says : entry_of leap (outages_in entries) line ≡ Ok (entry.Outage o) = ap (λ os. entry_of leap os line) said ∙ line_says leap before o line printed.2 (All-head IsReadable o os all) low in
    let more : outages_in (entries ++ entry.Outage o ∷ []) ≡ before ++ o ∷ [] = filter_map-more outage_in entries (entry.Outage o) ∙ ap (λ os. os ++ o ∷ []) said in
    let fits : length (before ++ o ∷ []) + length os ≤ 256 = rw (length-append before (o ∷ [])) (omega (arith, few)) in
    let tail = reads_behind leap os rest (done ++ line ∷ []) (entries ++ entry.Outage o ∷ []) (before ++ o ∷ []) printed.3 (All-tail IsReadable o os all)
    (reads_more (outage_lines leap) done entries line (entry.Outage o) reads says) more fits in
    subst (λ (ls : List Text). Reads (outage_lines leap) ls (entries ++ entries_of (o ∷ os)))
    (append_assoc done (line ∷ []) (lines_of rest) ∙ ap (λ ls. done ++ ls) (sym (first_line leap o line rest text printed.2 printed.4)))
    (subst (λ (es : List Entry). Reads (outage_lines leap) ((done ++ line ∷ []) ++ lines_of rest) es) (append_assoc entries (entry.Outage o ∷ []) (entries_of os)) tail)

-- the text of readable outages is read as these
pub list_reads : ReadsLists
list_reads leap os text printed readable = record {
  entries = entries_of os;
  accepted = record {
    reads = reads_behind leap os text [] [] [] printed readable.each (reads_none (outage_lines leap)) refl (omega (arith, readable.few));
    ends = refl;
  };
  same = sym (said_again os);
}

-- a file says one list of outages
pub says_once : (leap : ℕ) (lines : List Text) (some other : List Outage) → SayOutages leap lines some → SayOutages leap lines other → other ≡ some
says_once leap lines some other s o =
    o.same ∙ ap outages_in (same_entries (outage_lines leap) lines o.entries s.entries o.accepted.reads s.accepted.reads) ∙ sym s.same

-- a text lists one list of readable outages at most
pub one_meaning : HasOneMeaning
one_meaning leap os others text printed readable again too =
    says_once leap (lines_of text) os others (list_reads leap os text printed readable) (list_reads leap others text again too)

-- What a line says is printable and readable.

abbrev IsFine : ℕ → Outage → Type 0
IsFine leap o = IsPrintable leap o × IsReadable o

abbrev IsFineEntry : ℕ → Entry → Type 0
IsFineEntry leap entry.Blank = Unit {0}
IsFineEntry leap (entry.Outage o) = IsFine leap o

prn_in : (n m : ℕ) → in_range 1 32 n ≡ Ok m → IsPrn m
prn_in n m h =
    let u = unless_then (nat_lt n 1 || nat_lt 32 n) Range _ m h in
    subst IsPrn (ok_is n m u.1) (within u.0)
  where
    within : (nat_lt n 1 || nat_lt 32 n) ≡ false → IsPrn n
    within e = grind arith

instant_in : (leap : ℕ) (word : Text) (ms : ℤ) → time_in leap word ≡ Ok ms → IsInstant leap ms
instant_in leap word ms h = instant_in_range word leap ms (says_instant word leap ms h)

end_in : (leap : ℕ) (word : Text) (end : Option ℤ) → end_of leap word ≡ Ok end → IfSome end (IsInstant leap)
end_in leap word end h = go (bytes_eq word (codes "-")) h
  where
    go : (t : Bool) → cond t (Ok None) (time_in leap word >>= (λ e. Ok (Some e))) ≡ Ok end → IfSome end (IsInstant leap)
    go true k = subst (λ (e : Option ℤ). IfSome e (IsInstant leap)) (ok_is None end k) tt
    go false k =
        let b = bind_then (time_in leap word) (λ e. Ok (Some e)) end k in
        subst (λ (e : Option ℤ). IfSome e (IsInstant leap)) (ok_is (Some b.0) end b.2) (instant_in leap word b.0 b.1)

is_below : (a b : ℤ) → int_lt a b ≡ true → a <ℤ b
is_below a b h = search rules

after_is : (start : ℤ) (end : Option ℤ) → is_after start end ≡ true → IfSome end (λ e. start <ℤ e)
after_is start None h = tt
after_is start (Some end) h = is_below start end h

outage_fine : (leap : ℕ) (ws : Text × Text × Text) (o : Outage) → outage_of leap ws ≡ Ok o → IsFine leap o
outage_fine leap ws o h =
    let p = bind_then (whole_in 1 32 ws.0) _ o h in
    let n = bind_then (any_whole ws.0) (in_range 1 32) p.0 p.1 in
    let s = bind_then (time_in leap ws.1) _ o p.2 in
    let e = bind_then (end_of leap ws.2) _ o s.2 in
    let u = unless_then (not (is_after s.0 e.0)) EmptySpan _ o e.2 in
    let prn = prn_in n.0 p.0 n.2 in
    subst (IsFine leap) (ok_is (record { prn = p.0; start = s.0; end = e.0 }) o u.1) (
      record { prn = prn; start = instant_in leap ws.1 s.0 s.1; end = end_in leap ws.2 e.0 e.1 },
      record { prn = prn; forward = after_is s.0 e.0 (not_false (is_after s.0 e.0) u.0) },
    )

notice_fine : (leap : ℕ) (before : List Outage) (words : List Text) (e : Entry) → notice_of leap before words ≡ Ok e → IsFineEntry leap e
notice_fine leap before words e h =
    let three = bind_then (or_else Word (triple_of words)) _ e h in
    let room = unless_then (nat_le 256 (length before)) TooMany _ e three.2 in
    let o = bind_then (outage_of leap three.0) (λ o. Ok (entry.Outage o)) e room.1 in
    subst (IsFineEntry leap) (ok_is (entry.Outage o.0) e o.2) (outage_fine leap three.0 o.0 o.1)

entry_fine : (leap : ℕ) (before : List Outage) (words : List Text) (e : Entry) → words_entry_of leap before words ≡ Ok e → IsFineEntry leap e
entry_fine leap before [] e h = subst (IsFineEntry leap) (ok_is entry.Blank e h) tt
entry_fine leap before (word ∷ words) e h = notice_fine leap before (word ∷ words) e h

said_fine : (leap : ℕ) (entries : List Entry) → All (IsFineEntry leap) entries → All (IsFine leap) (outages_in entries)
said_fine leap [] all = λ k d h. absurd (omega arith)
said_fine leap (entry.Blank ∷ es) all = said_fine leap es (All-tail (IsFineEntry leap) entry.Blank es all)
said_fine leap (entry.Outage o ∷ es) all =
    All-cons (IsFine leap) o (outages_in es) (All-head (IsFineEntry leap) (entry.Outage o) es all) (said_fine leap es (All-tail (IsFineEntry leap) (entry.Outage o) es all))

-- Each outage has a place before the 256th.

abbrev FewAt : ℕ → List Outage → Entry → Type 0
FewAt leap before entry.Blank = Unit {0}
FewAt leap before (entry.Outage o) = length before < 256

notice_few : (leap : ℕ) (before : List Outage) (words : List Text) (e : Entry) → words_entry_of leap before words ≡ Ok e → FewAt leap before e
notice_few leap before [] e h = subst (FewAt leap before) (ok_is entry.Blank e h) tt
notice_few leap before (word ∷ words) e h =
    let three = bind_then (or_else Word (triple_of (word ∷ words))) _ e h in
    let room = unless_then (nat_le 256 (length before)) TooMany _ e three.2 in
    let o = bind_then (outage_of leap three.0) (λ o. Ok (entry.Outage o)) e room.1 in
    subst (FewAt leap before) (ok_is (entry.Outage o.0) e o.2) (low (nat_le 256 (length before)) refl room.0)
  where
    low : (t : Bool) → nat_le 256 (length before) ≡ t → t ≡ false → length before < 256
    low true e n = cc
    low false e n = grind (arith, e)

module _ (leap : ℕ) (lines : List Text) (entries : List Entry) (reads : Reads (outage_lines leap) lines entries) where
  says_at : (k : ℕ) (d : Entry) → k < length entries → entry_of leap (outages_in (take k entries)) (get_or lines k []) ≡ Ok (get_or entries k d)
  says_at k d below = reads.each k d (omega (arith, below, reads.count))

  all_fine : All (IsFineEntry leap) entries
  all_fine = λ k d below. entry_fine leap (outages_in (take k entries)) (words_of (get_or lines k [])) (get_or entries k d) (says_at k d below)

  one_more : (before : List Outage) (e : Entry) → FewAt leap before e → length before ≤ 256 → length (before ++ option_to_list (outage_in e)) ≤ 256
  one_more before entry.Blank f h = rw (append-nil before) h
  one_more before (entry.Outage o) f h = rw (length-append before (o ∷ [])) (omega (arith, f))

  few_at : (k : ℕ) → k ≤ length entries → length (outages_in (take k entries)) ≤ 256
  few_at zero below = omega arith
  few_at (suc k) below =
      let d : Entry = entry.Blank in
      let within : k < length entries = omega (arith, below) in
      let e = get_or entries k d in
      let before = outages_in (take k entries) in
      let grown : outages_in (take (suc k) entries) ≡ before ++ option_to_list (outage_in e) = ap outages_in (take-suc entries k d within) ∙ filter_map-more outage_in (take k entries) e in
      let few : FewAt leap before e = notice_few leap before (words_of (get_or lines k [])) e (says_at k d within) in
      subst (λ (os : List Outage). length os ≤ 256) (sym grown) (one_more before e few (few_at k (omega (arith, below))))

  all_few : length (outages_in entries) ≤ 256
  all_few = subst (λ (es : List Entry). length (outages_in es) ≤ 256) (take-length entries) (few_at (length entries) (omega arith))

-- outages that were read are readable, and each has a line
pub printed_again : ArePrintedAgain
printed_again leap lines outages s =
    let fine = said_fine leap s.entries (all_fine leap lines s.entries s.accepted.reads) in
    let few = all_few leap lines s.entries s.accepted.reads in
    subst (λ (os : List Outage). All (IsPrintable leap) os × AreReadable os) (sym s.same) (
      λ k d below. (fine k d below).0,
      record { few = few; each = λ k d below. (fine k d below).1 },
    )
