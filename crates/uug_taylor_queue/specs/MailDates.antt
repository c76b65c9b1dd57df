-- The words of a date in the first line of a mail.
use Rattle.std.specs.Prelude.{◌+◌, ◌-◌, ◌*◌, ◌/◌, ◌%◌, ◌==◌, ℕ, List, codes, nat_lt, if◌then◌else◌}
use Rattle.uug_taylor_text.specs.declared.moment.Moment.{Moment}

-- ---- months

abbrev pub month_word : ℕ → List ℕ
month_word month =
    if month == 1 then codes "Jan" else (if month == 2 then codes "Feb" else (if month == 3 then codes "Mar" else
    (if month == 4 then codes "Apr" else (if month == 5 then codes "May" else (if month == 6 then codes "Jun" else
    (if month == 7 then codes "Jul" else (if month == 8 then codes "Aug" else (if month == 9 then codes "Sep" else
    (if month == 10 then codes "Oct" else (if month == 11 then codes "Nov" else codes "Dec"))))))))))

-- ---- days of the week

-- the offset of a month in the formula for the day of the week, in which years begin in March: January and February are
-- the last months of the year before
abbrev pub month_shift : ℕ → ℕ
month_shift month =
    if month == 1 then 0 else (if month == 2 then 3 else (if month == 3 then 2 else
    (if month == 4 then 5 else (if month == 5 then 0 else (if month == 6 then 3 else
    (if month == 7 then 5 else (if month == 8 then 1 else (if month == 9 then 4 else
    (if month == 10 then 6 else (if month == 11 then 2 else 4))))))))))

abbrev pub march_year : (year month : ℕ) → ℕ
march_year year month = if nat_lt month 3 then year - 1 else year

-- the day of the week, 0 for Sunday: each year shifts it by a day, and each leap year by one more (every fourth year,
-- but for three in four hundred)
abbrev pub weekday_in : (year month day : ℕ) → ℕ
weekday_in year month day = (year + year / 4 + 6 * (year / 100) + year / 400 + month_shift month + day) % 7

abbrev pub weekday_of : Moment → ℕ
weekday_of m = weekday_in (march_year m.year m.month) m.month m.day

abbrev pub day_named : ℕ → List ℕ
day_named day =
    if day == 0 then codes "Sun" else (if day == 1 then codes "Mon" else (if day == 2 then codes "Tue" else
    (if day == 3 then codes "Wed" else (if day == 4 then codes "Thu" else (if day == 5 then codes "Fri" else codes "Sat")))))

abbrev pub day_word : Moment → List ℕ
day_word m = day_named (weekday_of m)
