-- The line of an outage is read as that outage.
use Rattle.std.proofs.Common.{rules, ◌≡◌, ◌<◌, ◌+◌, ◌-◌, ◌*◌, ◌/◌, ◌%◌, ◌||◌, ℕ, ℤ, Bool, true, false, List, [], ◌∷◌, ◌++◌, length, Option, Some, None, Ok, refl, sym, ap, ◌∙◌, arith, subst, append-nil, nat_lt, nat_le}
use Rattle.std.specs.Prelude.{codes, bytes_eq, int_lt, ◌<ℤ◌, IfSome}
use Rattle.std.specs.List.{list_all}
use Rattle.std.specs.Char.{is_ascii_digit}
use Rattle.std.proofs.lemmas.Slice.Eq.{bytes_eq-Decides}
use Rattle.raim_model.specs.declared.Outage.{Outage}
use Rattle.text_lines.specs.Lines.{Text, onto_first}
use Rattle.text_lines.specs.Words.{words_of, begins_blank, is_blank_byte}
use Rattle.text_lines.specs.WholeNumber.{whole_of}
use Rattle.text_lines.specs.Fields.{whole_in}
use Rattle.gps_week.specs.TimeText.{two_digits}
use Rattle.gps_week.specs.GpsTime.{SpellsInstant}
use Rattle.gps_week.proofs.TimeReadingLemmas.{instant_says}
use Rattle.outage_notice.specs.declared.entry.Entry.TheVariants as entry
use Rattle.outage_notice.specs.Outages.{end_of, is_after, outage_of, entry_of, words_entry_of}
use Rattle.outage_notice.specs.Printing.{IsEndText, IsLineOf, IsPrn, IsReadable}
use Rattle.outage_notice.proofs.PlainLemmas.{AllAbove, flat, no_blank, instant_above, prn_above}

-- a byte of a word goes onto the word that follows it
onto_word : (b : ℕ) (bs : Text) → is_blank_byte b ≡ false → begins_blank bs ≡ false → words_of (b ∷ bs) ≡ onto_first b (words_of bs)
onto_word b bs p q = rw (p, q) refl

-- the last byte of a word ends it
last_byte : (b : ℕ) (bs : Text) → is_blank_byte b ≡ false → begins_blank bs ≡ true → words_of (b ∷ bs) ≡ (b ∷ []) ∷ words_of bs
last_byte b bs p q = rw (p, q) refl

-- a word is the first where a blank, or nothing, follows it
word_first : (b : ℕ) (word back : Text) → AllAbove 44 (b ∷ word) → begins_blank back ≡ true → words_of ((b ∷ word) ++ back) ≡ (b ∷ word) ∷ words_of back
word_first b [] back high blank = last_byte b back (no_blank b high.0) blank
word_first b (c ∷ cs) back high blank =
    onto_word b (c ∷ cs ++ back) (no_blank b high.0) (no_blank c high.1.0) ∙ ap (onto_first b) (word_first c cs back high.1 blank)

-- a word of one byte or more
abbrev IsWord : Text → Type 0
IsWord [] = ⊥
IsWord (b ∷ bs) = AllAbove 44 (b ∷ bs)

first_word : (word back : Text) → IsWord word → words_of (word ++ 32 ∷ back) ≡ word ∷ words_of back
first_word [] back w = absurd w
first_word (b ∷ bs) back w = word_first b bs (32 ∷ back) w refl

last_word : (word : Text) → IsWord word → words_of word ≡ word ∷ []
last_word [] w = absurd w
last_word (b ∷ bs) w = ap words_of (sym (append-nil (b ∷ bs))) ∙ word_first b bs [] w refl

instant_word : (text : Text) (leap : ℕ) (ms : ℤ) → SpellsInstant text leap ms → IsWord text
instant_word [] leap ms s = let bad = s.spelled.spelled in cc
instant_word (b ∷ bs) leap ms s = instant_above (b ∷ bs) leap ms s

end_word : (leap : ℕ) (end : Option ℤ) (text : Text) → IsEndText leap end text → IsWord text
end_word leap None text s = subst IsWord (sym s) (omega arith, tt)
end_word leap (Some end) text s = instant_word text leap end s

-- the three words of a line
line_words : (leap : ℕ) (o : Outage) (line : Text) (x : IsLineOf leap o line) → words_of line ≡ two_digits o.prn ∷ x.start ∷ x.end ∷ []
line_words leap o line x =
    ap words_of (x.spelled ∙ flat (two_digits o.prn) x.start x.end)
    ∙ first_word (two_digits o.prn) (x.start ++ 32 ∷ x.end) (prn_above o.prn)
    ∙ ap (λ ws. two_digits o.prn ∷ ws) (first_word x.start x.end (instant_word x.start leap o.start x.starts) ∙ ap (λ ws. x.start ∷ ws) (last_word x.end (end_word leap o.end x.end x.ends)))

-- the PRN
digits : (n : ℕ) → n < 100 → list_all is_ascii_digit (two_digits n) ≡ true
digits n few = grind arith

some_whole : (n : ℕ) → n < 100 → whole_of (two_digits n) ≡ Some n
some_whole n few =
    let value : 10 * (10 * 0 + (48 + n / 10 - 48)) + (48 + n % 10 - 48) ≡ n = omega (arith, few) in
    rw (digits n few) (ap Some value)

in_order : (n : ℕ) → IsPrn n → (nat_lt n 1 || nat_lt 32 n) ≡ false
in_order n h = grind arith

prn_says : (n : ℕ) → IsPrn n → whole_in 1 32 (two_digits n) ≡ Ok n
prn_says n h = rw (some_whole n (omega (arith, h.1))) (rw (in_order n h) refl)

-- the end
no_mark : (text : Text) (leap : ℕ) (ms : ℤ) → SpellsInstant text leap ms → bytes_eq text (codes "-") ≡ false
no_mark text leap ms s = go (bytes_eq text (codes "-")) refl
  where
    go : (t : Bool) → bytes_eq text (codes "-") ≡ t → t ≡ false
    go false e = refl
    go true e = let bad = sym s.spelled.spelled ∙ (bytes_eq-Decides text (codes "-")).0 e in cc

end_says : (leap : ℕ) (end : Option ℤ) (text : Text) → IsEndText leap end text → end_of leap text ≡ Ok end
end_says leap None text s = ap (end_of leap) s
end_says leap (Some end) text s = rw (no_mark text leap end s) (rw (instant_says text leap end s) refl)

int_below : (a b : ℤ) → a <ℤ b → int_lt a b ≡ true
int_below a b h = search rules

after_says : (start : ℤ) (end : Option ℤ) → IfSome end (λ e. start <ℤ e) → is_after start end ≡ true
after_says start None h = refl
after_says start (Some end) h = int_below start end h

outage_says : (leap : ℕ) (o : Outage) (line : Text) (x : IsLineOf leap o line) → IsReadable o → outage_of leap (two_digits o.prn, x.start, x.end) ≡ Ok o
outage_says leap o line x r =
    rw (prn_says o.prn r.prn) (rw (instant_says x.start leap o.start x.starts) (rw (end_says leap o.end x.end x.ends) (rw (after_says o.start o.end r.forward) refl)))

-- fewer than 256 stand before it
room : (n : ℕ) → n < 256 → nat_le 256 n ≡ false
room n few = grind arith

-- the line is read as the outage
pub line_says : (leap : ℕ) (before : List Outage) (o : Outage) (line : Text) → IsLineOf leap o line → IsReadable o → length before < 256 → entry_of leap before line ≡ Ok (entry.Outage o)
line_says leap before o line x r few =
    ap (words_entry_of leap before) (line_words leap o line x)
    ∙ rw (room (length before) few) (rw (outage_says leap o line x r) refl)
