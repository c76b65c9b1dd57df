-- The date and time in a line of a log (as Taylor UUCP 1.07 writes them).
use Rattle.std.specs.Prelude.{ℕ, ◌+◌, ◌/◌, ◌%◌, List, [], ◌∷◌, ◌++◌}
use Rattle.uug_taylor_text.specs.declared.moment.Moment.{Moment}

-- the last two decimal digits of a number
abbrev pub two_digits : ℕ → List ℕ
two_digits n = (48 + n / 10 % 10) ∷ (48 + n % 10) ∷ []

-- YEAR-MONTH-DAY HOUR:MINUTE:SECOND.HUNDREDTHS
abbrev pub moment_text : Moment → List ℕ
moment_text m =
    two_digits (m.year / 100) ++ two_digits m.year ++ 45 ∷ two_digits m.month ++ 45 ∷ two_digits m.day
    ++ 32 ∷ two_digits m.hour ++ 58 ∷ two_digits m.minute ++ 58 ∷ two_digits m.second ++ 46 ∷ two_digits m.hundredths
