-- Calls that are made in turn, and reads that go on.
use Rattle.std.proofs.Common.{◌≡◌, ◌++◌, ◌∷◌, ◌∙◌, ◌<◌, List, [], ℕ, Option, Some, None, true, refl, sym, ap, subst, append_assoc, append-nil}
use Rattle.raim_model.specs.declared.FileNo.{FileNo}
use Rattle.raim_base.specs.Calls.{Call, naming, reading, Makes, MakesCalls, AreAboveZero, ReadsThen, ReadsAFront, readings}

-- what is made in turn is made together
pub makes-trans : (a b c : Option (List Call)) (some more : List Call) → Makes a b some → Makes b c more → Makes a c (some ++ more)
makes-trans None b c some more m n = tt
makes-trans (Some xs) b c some more m n =
    let next : Makes (Some (xs ++ some)) c more = subst (λ (o : Option (List Call)). Makes o c more) m n in
    next ∙ ap (λ l. Some l) (append_assoc xs some more)

-- counts above 0, and one more
above_zero-snoc : (ns : List ℕ) (n : ℕ) → AreAboveZero ns → 0 < n → AreAboveZero (ns ++ n ∷ [])
above_zero-snoc [] n above here = (here, tt)
above_zero-snoc (m ∷ ns) n (first, above) here = (first, above_zero-snoc ns n above here)

-- one more read
readings-snoc : (file : FileNo) (ns : List ℕ) (n : ℕ) → readings file ns ++ reading file (Some n) ∷ [] ≡ readings file (ns ++ n ∷ [])
readings-snoc file [] n = refl
readings-snoc file (m ∷ ns) n = ap (λ l. reading file (Some m) ∷ l) (readings-snoc file ns n)

module _ (a b c : Option (List Call)) (file : FileNo) (path : List ℕ) where
  -- a file that was named, of which nothing was read yet
  pub reads_none : Makes a b (naming file path true ∷ []) → MakesCalls a b (ReadsAFront file path)
  reads_none m = (naming file path true ∷ [], m, ([], tt, refl))

  -- a read that gives some bytes goes on
  pub reads_more : (n : ℕ) → MakesCalls a b (ReadsAFront file path) → Makes b c (reading file (Some n) ∷ []) → 0 < n → MakesCalls a c (ReadsAFront file path)
  reads_more n (made, so_far, (counts, above, is)) next some =
      let longer : made ++ reading file (Some n) ∷ [] ≡ naming file path true ∷ (readings file (counts ++ n ∷ []) ++ []) =
      ap (λ l. l ++ reading file (Some n) ∷ []) (is ∙ ap (λ l. naming file path true ∷ l) (append-nil (readings file counts)))
      ∙ ap (λ l. naming file path true ∷ l) (readings-snoc file counts n ∙ sym (append-nil (readings file (counts ++ n ∷ [])))) in
      (made ++ reading file (Some n) ∷ [], makes-trans a b c made (reading file (Some n) ∷ []) so_far next, (counts ++ n ∷ [], above_zero-snoc counts n above some, longer))

  -- the last calls stand behind the reads
  pub reads_last : (last : List Call) → MakesCalls a b (ReadsAFront file path) → Makes b c last → MakesCalls a c (ReadsThen file path last)
  reads_last last (made, so_far, (counts, above, is)) next =
      let longer : made ++ last ≡ naming file path true ∷ (readings file counts ++ last) =
      ap (λ l. l ++ last) (is ∙ ap (λ l. naming file path true ∷ l) (append-nil (readings file counts))) in
      (made ++ last, makes-trans a b c made last so_far next, (counts, above, longer))
