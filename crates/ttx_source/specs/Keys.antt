-- The keys of a service definition, a line for each (profile). Pages are in Services.
--
--   lines, serial                         the keys of the service
--   designation .. text, info_of_table          the keys of the table `info`: packet 8/30 format 1 (EN 300 706, 9.8.1)
--   control_of_table                            the keys of a page that set control bits (EN 300 706, 9.3.1.3)
--   head, rows                            the texts of a page
--   six_links, crc, links_of_table              the keys of a page for its packet X/27/0 (EN 300 706, 9.6.1)
use Rattle.std.specs.Prelude.{ℕ, suc, ℤ, pos, negsuc, ◌+◌, ◌-◌, ◌*◌, ◌/◌, ◌%◌, ◌<◌, ◌++◌, List, [], ◌∷◌, codes, length, map, replicate}
use Rattle.std.specs.Prelude.{slice_index_or, Bool, true, false, ◌&&◌, ◌||◌, ◌==◌, nat_le, nat_lt, Option, Some, None, Result, Ok, Err}
use Rattle.std.specs.Prelude.{if◌then◌else◌}
use Rattle.std.specs.List.{list_any}
use Rattle.std.specs.Str.{bytes_eq}
use Rattle.toml.specs.Data.{Data, Items, no_items, item, Members, no_members, member, get_member, as_integer, as_bool, as_str, as_array, as_table}
use Rattle.ttx_header.specs.Ids.{Id}
use Rattle.ttx_links.specs.Sets.{LinksFields, links_at}
use Rattle.ttx_info.specs.Infos.{InfoFields, info_at}
use Rattle.ttx_page.specs.Pages.{IsRow}
use Rattle.ttx_source.specs.Values.{Fault, out_of_range, wrong_often, ◌>>=◌, or_fault, of_kind, required, with_default}
use Rattle.ttx_source.specs.Values.{integer_at, integer_at_or, magnitude, characters, link, byte_pair}

-- the slots in a field
abbrev pub lines : Members → Result ℕ Fault
lines table = integer_at (codes "lines") 1 32 table

-- C11 of every header
abbrev pub serial : Members → Result Bool Fault
serial table = required (codes "serial") as_bool table

-- the designation of packet 8/30
abbrev pub designation : Members → Result ℕ Fault
designation table = integer_at_or (codes "designation") 0 1 0 table

-- the page that a receiver shows first
abbrev pub initial : Members → Result (Option Id) Fault
initial table = with_default (codes "initial") as_str [] table >>= link

-- the code of the network
abbrev pub network : Members → Result (List ℕ) Fault
network table = required (codes "network") as_str table >>= byte_pair (codes "network")

-- local time against UTC: the number of half hours, and whether it is negative (west)
abbrev pub is_negative : ℤ → Bool
is_negative (pos n) = false
is_negative (negsuc n) = true

abbrev pub half_hours : ℤ → Result (ℕ × Bool) Fault
half_hours z = if nat_le (magnitude z) 31 then Ok (magnitude z, is_negative z) else Err (out_of_range (codes "halves"))

abbrev pub halves : Members → Result (ℕ × Bool) Fault
halves table = with_default (codes "halves") as_integer (pos 0) table >>= half_hours

-- the Modified Julian Date
abbrev pub mjd : Members → Result ℕ Fault
mjd table = integer_at (codes "mjd") 0 99999 table

-- hours, minutes and seconds, as six digits
abbrev pub utc : Members → Result ℕ Fault
utc table = integer_at (codes "utc") 0 999999 table

-- the local offset, the date and the time
unfoldable pub clock_of : Members → Result ((ℕ × Bool) × (ℕ × ℕ)) Fault
clock_of table = do
  offset ← halves table
  date ← mjd table
  time ← utc table
  Ok (offset, (date, time))

-- the status display
abbrev pub text : Members → Result (List ℕ) Fault
text table = with_default (codes "text") as_str [] table >>= characters 20

-- the packet 8/30 in a table
unfoldable pub info_of_table : Members → Result InfoFields Fault
info_of_table table = do
  number ← designation table
  page ← initial table
  code ← network table
  clock ← clock_of table
  status ← text table
  Ok (info_at number page code clock.0.0 clock.0.1 clock.1.0 clock.1.1 status)

-- the packet 8/30 of a service, which may have none
abbrev pub info_in : Option Data → Result (Option InfoFields) Fault
info_in None = Ok None
info_in (Some value) = of_kind (codes "info") as_table value >>= info_of_table >>= (λ fields. Ok (Some fields))

abbrev pub info : Members → Result (Option InfoFields) Fault
info table = info_in (get_member (codes "info") table)

-- how often a page is sent: 1, 2, 4 or 8 times
abbrev pub is_often : ℕ → Bool
is_often n = ((n == 1 || n == 2) || n == 4) || n == 8

abbrev pub often_in : ℤ → Result ℕ Fault
often_in (pos n) = if is_often n then Ok n else Err wrong_often
often_in (negsuc n) = Err wrong_often

abbrev pub often : Members → Result ℕ Fault
often table = with_default (codes "often") as_integer (pos 1) table >>= often_in

-- the national option
abbrev pub option : Members → Result ℕ Fault
option table = integer_at_or (codes "option") 0 7 0 table

-- the value of a control bit if it is set; C4 is the lowest bit, and C12 is the upper bit of the national option
abbrev pub bit_at : ℕ → Bool → ℕ
bit_at weight set = if set then weight else 0

abbrev pub national : ℕ → ℕ
national number = 256 * (number / 4) + 512 * (number / 2 % 2) + 1024 * (number % 2)

abbrev pub flag_at : List ℕ → Members → Result Bool Fault
flag_at key table = with_default key as_bool false table

-- the control bits C5 to C7 of a page
unfoldable pub lower_flags_of : Members → Result ℕ Fault
lower_flags_of table = do
  newsflash ← flag_at (codes "newsflash") table
  subtitle ← flag_at (codes "subtitle") table
  suppress ← flag_at (codes "suppress") table
  Ok (bit_at 2 newsflash + bit_at 4 subtitle + bit_at 8 suppress)

-- the control bits C8 to C10 of a page
unfoldable pub upper_flags_of : Members → Result ℕ Fault
upper_flags_of table = do
  update ← flag_at (codes "update") table
  interrupted ← flag_at (codes "interrupted") table
  inhibit ← flag_at (codes "inhibit") table
  Ok (bit_at 16 update + bit_at 32 interrupted + bit_at 64 inhibit)

-- all control bits of a page; C11 is as the service has it
unfoldable pub control_of_table : Bool → Members → Result ℕ Fault
control_of_table is_serial table = do
  number ← option table
  lower ← lower_flags_of table
  upper ← upper_flags_of table
  Ok (lower + upper + bit_at 128 is_serial + national number)

-- columns 8 to 31 of row 0
abbrev pub head : Members → Result (List ℕ) Fault
head table = with_default (codes "head") as_str [] table >>= characters 24

-- a row; spaces if there is none
abbrev pub row_of : Option Data → Result (List ℕ) Fault
row_of None = Ok (replicate 40 32)
row_of (Some value) = of_kind (codes "rows") as_str value >>= characters 40

-- the rows in a list of values
unfoldable pub rows_of : List (Option Data) → Result (List (List ℕ)) Fault
rows_of [] = Ok []
rows_of (value ∷ values) = row_of value >>= (λ row. rows_of values >>= (λ rows. Ok (row ∷ rows)))

-- 1 to 24, without leading zeros
unfoldable pub row_keys : List (List ℕ)
row_keys =
    codes "1" ∷ codes "2" ∷ codes "3" ∷ codes "4" ∷ codes "5" ∷ codes "6" ∷ codes "7" ∷ codes "8"
    ∷ codes "9" ∷ codes "10" ∷ codes "11" ∷ codes "12" ∷ codes "13" ∷ codes "14" ∷ codes "15" ∷ codes "16"
    ∷ codes "17" ∷ codes "18" ∷ codes "19" ∷ codes "20" ∷ codes "21" ∷ codes "22" ∷ codes "23" ∷ codes "24" ∷ []

abbrev pub is_row_key : List ℕ → Bool
is_row_key key = list_any (λ name. bytes_eq name key) row_keys

-- every key of a table passes a test
abbrev pub keys_pass : (List ℕ → Bool) → Members → Bool
keys_pass test no_members = true
keys_pass test (member key value table) = test key && keys_pass test table

-- the values of rows 1 to 24 in a table of rows; None if it has another key
abbrev pub row_values : Members → Option (List (Option Data))
row_values table = if keys_pass is_row_key table then Some (map (λ key. get_member key table) row_keys) else None

-- the table of rows: its keys are tested before its texts
abbrev pub rows_in : Members → Result (List (List ℕ)) Fault
rows_in table = or_fault (out_of_range (codes "rows")) (row_values table) >>= rows_of

abbrev pub rows_member : Option Data → Result (List (List ℕ)) Fault
rows_member None = Ok (replicate 24 (replicate 40 32))
rows_member (Some value) = of_kind (codes "rows") as_table value >>= rows_in

abbrev pub rows : Members → Result (List (List ℕ)) Fault
rows table = rows_member (get_member (codes "rows") table)

-- rows of 40 characters below 128
abbrev pub AreRows : List (List ℕ) → Type 0
AreRows rows = (r : ℕ) → r < 24 → IsRow (slice_index_or rows r [])

-- the number of items in an array
abbrev pub count : Items → ℕ
count no_items = 0
count (item value values) = suc (count values)

-- one link of an array
abbrev pub link_of : Data → Result (Option Id) Fault
link_of value = of_kind (codes "links") as_str value >>= link

unfoldable pub links_in : Items → Result (List (Option Id)) Fault
links_in no_items = Ok []
links_in (item value values) = link_of value >>= (λ first. links_in values >>= (λ others. Ok (first ∷ others)))

abbrev pub filled : List (Option Id) → List (Option Id)
filled targets = targets ++ replicate (6 - length targets) None

unfoldable pub six_of : Items → Result (List (Option Id)) Fault
six_of values = links_in values >>= (λ targets. Ok (filled targets))

abbrev pub six_in : Items → Result (List (Option Id)) Fault
six_in values = if nat_lt 6 (count values) then Err (out_of_range (codes "links")) else six_of values

abbrev pub six_links : Members → Result (List (Option Id)) Fault
six_links table = with_default (codes "links") as_array no_items table >>= six_in

-- the two bytes of the page CRC
abbrev pub zeros : List ℕ
zeros = codes "0000"

abbrev pub crc : Members → Result (List ℕ) Fault
crc table = with_default (codes "crc") as_str zeros table >>= byte_pair (codes "crc")

-- the packet X/27/0
unfoldable pub links_of_table : Members → Result LinksFields Fault
links_of_table table = do
  six ← six_links table
  show24 ← flag_at (codes "row24") table
  bytes ← crc table
  Ok (links_at six show24 bytes)
