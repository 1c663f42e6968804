-- A packet 8/30 format 1 whose bytes encode its fields.
use Rattle.std.proofs.Common.{◌≡◌, ℕ, ◌<◌, ◌%◌, ◌&&◌, true, false, nat_lt, List, Ok, is_some, length, map, ap, ◌∙◌, arith, slice_index, slice_range}
use Rattle.std.specs.Prelude.{unwrap_or}
use Rattle.std.specs.List.{list_all}
use Rattle.std.proofs.lemmas.Bool.Decides.{nat_tests}
use Rattle.ttx_code.specs.Words.{reading, is_odd}
use Rattle.ttx_code.specs.Laws.{OddBytesHoldTheirCodes}
use Rattle.ttx_header.specs.Headers.{number}
use Rattle.ttx_links.specs.Sets.{IsLink}
use Rattle.ttx_links.specs.Laws.{SaidLinkIsRead}
use Rattle.ttx_info.specs.Infos.{InfoFields, IsInfoFields, info_at, is_half_digit, value_of, date_digits}
use Rattle.ttx_info.specs.Infos.{time_digits, info_fields, info_of, info_behind_link, SaysInfo}
use Rattle.ttx_info.proofs.Digits.{both, date_is_digits, time_is_digits, date_value, time_value, codes_of_bytes, bytes_are_odd}

not_above_one : (n : ℕ) → n < 2 → nat_lt 1 n ≡ false
not_above_one n l = grind (arith, nat_tests)

module _ (holds : OddBytesHoldTheirCodes) (link : SaidLinkIsRead) where
  pub info_said : (f : InfoFields) (s : List ℕ) → IsInfoFields f → IsLink f.initial → length s ≡ 42 → SaysInfo f s → info_of s ≡ Ok f
  unfolding info_of info_behind_link
  info_said f s is target size says =
      let (initial, linked) = link 8 f.initial s 3 target says.initial (omega (arith, size)) in
      let first : number s 2 ≡ f.designation = ap (λ o. unwrap_or o 0) says.designation in
      let second : is_some (reading (slice_index s 2)) ≡ true = ap is_some says.designation in
      let low : nat_lt 1 (number s 2) ≡ false = ap (nat_lt 1) first ∙ not_above_one f.designation is.range.designation in
      let digits : (list_all is_half_digit (date_digits s) && list_all is_half_digit (time_digits s)) ≡ true =
      both _ _ (ap (list_all is_half_digit) says.date ∙ date_is_digits f.mjd) (ap (list_all is_half_digit) says.time ∙ time_is_digits f.utc) in
      let odd : list_all is_odd (slice_range s 22 42) ≡ true = ap (list_all is_odd) says.text ∙ bytes_are_odd holds f.text is.range.text in
      let mjd : value_of (date_digits s) ≡ f.mjd = ap value_of says.date ∙ date_value f.mjd is.range.mjd in
      let utc : value_of (time_digits s) ≡ f.utc = ap value_of says.time ∙ time_value f.utc is.range.utc in
      let text : map (λ b. b % 128) (slice_range s 22 42) ≡ f.text = ap (map (λ b. b % 128)) says.text ∙ codes_of_bytes holds f.text is.range.text in
      let fields : info_fields s ≡ f = λ i. info_at (first i) (initial i) (says.network i) (says.halves i) (says.west i) (mjd i) (utc i) (text i) in
      rw (second, low, linked, digits, odd) (ap Ok fields)
