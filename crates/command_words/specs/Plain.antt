-- The plain forms of the words.
use Rattle.std.specs.Prelude.{◌≡◌, ◌≢◌, ◌<◌, ◌^◌, [], ◌∷◌, Some, codes}
use Rattle.std.specs.Str.Parse.{IsNumeral, digits_value}
use Rattle.text_lines.specs.Lines.{Text}
use Rattle.command_words.specs.Asked.{asked_of}
use Rattle.command_words.specs.Asked.Asked.{Prediction, Demonstration}

-- not empty, and begins with no hyphen
abbrev pub IsPlainWord : Text → Type 0
IsPlainWord [] = ⊥
IsPlainWord (byte ∷ bytes) = byte ≢ 45

abbrev pub PlainPathsAreRead : Type 0
PlainPathsAreRead = (name limits almanac outages route : Text) → IsPlainWord limits → IsPlainWord almanac → IsPlainWord outages → IsPlainWord route
    → asked_of (name ∷ codes "predict" ∷ limits ∷ almanac ∷ outages ∷ route ∷ [])
    ≡ Some (Prediction (record { limits = limits; almanac = almanac; outages = outages; route = route }))

-- decimal digits alone, of a number below 2^32
abbrev pub PlainNumberIsRead : Type 0
PlainNumberIsRead = (name number : Text) → IsNumeral 10 number → digits_value 10 number < 2 ^ 32
    → asked_of (name ∷ codes "demo" ∷ number ∷ []) ≡ Some (Demonstration (digits_value 10 number))
