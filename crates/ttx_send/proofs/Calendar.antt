-- The date of a day, reckoned at once and counted day by day.
use Rattle.std.proofs.Common.{◌≡◌, ℕ, zero, suc, ◌+◌, ◌-◌, ◌*◌, ◌/◌, ◌%◌, ◌<◌, ◌==◌, ◌&&◌, Bool, true, refl, ap, ◌∙◌, arith}
use Rattle.std.proofs.lemmas.Bool.{agree_below, agree_below_at, and_parts, eqb-true}
use Rattle.ttx_send.specs.IsoTexts.{Date, date_at, next_day, date_of}

-- by eras of 400 years, from March 1st of year 0 on
abbrev pub year_of : ℕ → ℕ
year_of e = ((e + e / 36524) - (e / 1460 + e / 146096)) / 365

abbrev pub day_of_year : ℕ → ℕ
day_of_year e = e - ((365 * year_of e + year_of e / 4) - year_of e / 100)

abbrev pub date_in : ℕ → ℕ → ℕ → Date
date_in year day fifth = date_at (year + fifth / 10) ((fifth + 2) % 12 + 1) ((day - (153 * fifth + 2) / 5) + 1)

abbrev pub date_by : ℕ → Date
date_by days =
    let e = days % 146097 in
    date_in (400 * (days / 146097) + year_of e) (day_of_year e) ((5 * day_of_year e + 2) / 153)

same_date : Date → Date → Bool
same_date a b = (a.year == b.year) && (a.month == b.month) && (a.day == b.day)

follows : ℕ → Bool
follows mjd = same_date (date_by (suc mjd + 678881)) (next_day (date_by (mjd + 678881)))

all_follow : agree_below follows (λ _. true) 100001 ≡ true
unfolding follows same_date
all_follow = refl

one_date : (a b : Date) → same_date a b ≡ true → a ≡ b
unfolding same_date
one_date a b e =
    let front = and_parts ((a.year == b.year) && (a.month == b.month)) (a.day == b.day) e in
    let parts = and_parts (a.year == b.year) (a.month == b.month) front.0 in
    let year : a.year ≡ b.year = eqb-true a.year b.year parts.0 in
    let month : a.month ≡ b.month = eqb-true a.month b.month parts.1 in
    let day : a.day ≡ b.day = eqb-true a.day b.day front.1 in
    λ i. date_at (year i) (month i) (day i)

one_later : (mjd : ℕ) → mjd < 100001 → date_by (suc mjd + 678881) ≡ next_day (date_by (mjd + 678881))
unfolding follows
one_later mjd l = one_date _ _ (agree_below_at follows (λ _. true) 100001 mjd all_follow l)

pub is_date : (mjd : ℕ) → mjd < 100001 → date_by (mjd + 678881) ≡ date_of mjd
unfolding date_of
is_date zero l = refl
is_date (suc mjd) l = one_later mjd (omega arith) ∙ ap next_day (is_date mjd (omega arith))
