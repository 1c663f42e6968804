-- How links, dates and times are written (profile).
--
--   link_id_text, link_ids_text    links, each after a space, and - where a link leads nowhere
--   last_two_digits, date_text, time_text    a date in five decimal digits, a time in six
use Rattle.std.specs.Prelude.{ℕ, ◌/◌, ◌%◌, List, [], ◌∷◌, ◌++◌, codes, Option, Some, None}
use Rattle.ttx_header.specs.Ids.{Id}
use Rattle.ttx_digits.specs.Digits.{hex_digit}
use Rattle.ttx_digits.specs.PageIds.{id_text}

abbrev pub link_id_text : Option Id → List ℕ
link_id_text None = codes " -"
link_id_text (Some id) = 32 ∷ id_text id

abbrev pub link_ids_text : List (Option Id) → List ℕ
link_ids_text [] = []
link_ids_text (link ∷ links) = link_id_text link ++ link_ids_text links

-- the last two decimal digits of a number
abbrev pub last_two_digits : ℕ → List ℕ
last_two_digits n = hex_digit (n / 10 % 10) ∷ hex_digit (n % 10) ∷ []

-- a Modified Julian Date below 100,000
abbrev pub date_text : ℕ → List ℕ
date_text mjd = hex_digit (mjd / 10000 % 10) ∷ last_two_digits (mjd / 100) ++ last_two_digits mjd

-- hours, minutes and seconds
abbrev pub time_text : ℕ → List ℕ
time_text utc = last_two_digits (utc / 10000) ++ last_two_digits (utc / 100) ++ last_two_digits utc
