-- What each key of a service definition takes, in words (profile).
--
--   takes_of                what a key takes
--   all_keys, key_table     all keys; their names, and what they take
--   key_names, is_key_name  the names alone
--   taken_in, accepted_at   what the key of a name takes
use Rattle.std.specs.Prelude.{List, [], ◌∷◌, codes, ℕ, map, Bool, if◌then◌else◌}
use Rattle.std.specs.List.{list_any}
use Rattle.std.specs.Str.{bytes_eq}
use Rattle.ttx_source.specs.KeyFaults.{key_name}
use Rattle.ttx_source.specs.declared.keys.Key.{Key}
use Rattle.ttx_source.specs.declared.keys.Key.TheVariants as key

abbrev pub takes_of : Key → List ℕ
takes_of key.Lines = codes "an integer from 1 to 32"
takes_of key.Serial = codes "true or false"
takes_of key.Info = codes "a table"
takes_of key.Designation = codes "0 or 1"
takes_of key.Initial = codes "a text: a page as \"100\" or \"100/0001\", or nothing"
takes_of key.Network = codes "a text of four hexadecimal digits"
takes_of key.Halves = codes "an integer from -31 to 31"
takes_of key.Mjd = codes "an integer from 0 to 99999"
takes_of key.Utc = codes "an integer from 0 to 999999, the digits hhmmss"
takes_of key.Text = codes "a text of at most 20 characters"
takes_of key.Page = codes "an array of at most 2000 tables"
takes_of key.Number = codes "a text: a page number as \"100\""
takes_of key.Sub = codes "a text: a subcode as \"0001\""
takes_of key.Often = codes "1, 2, 4 or 8"
takes_of key.Option = codes "an integer from 0 to 7"
takes_of key.Newsflash = codes "true or false"
takes_of key.Subtitle = codes "true or false"
takes_of key.Suppress = codes "true or false"
takes_of key.Update = codes "true or false"
takes_of key.Interrupted = codes "true or false"
takes_of key.Inhibit = codes "true or false"
takes_of key.Head = codes "a text of at most 24 characters"
takes_of key.Rows = codes "a table of texts of at most 40 characters at keys from \"1\" to \"24\""
takes_of key.Links = codes "an array of at most six texts, each a page as \"100\" or \"100/0001\", or nothing"
takes_of key.Row24 = codes "true or false"
takes_of key.Crc = codes "a text of four hexadecimal digits"
takes_of key.Within = codes "seconds from 0.02 to 20000, an integer or a float"
takes_of key.Stays = codes "seconds from 0.02 to 20000, an integer or a float"

unfoldable pub all_keys : List Key
all_keys =
    key.Number ∷ key.Sub ∷ key.Head ∷ key.Rows ∷ key.Often ∷ key.Option ∷ key.Newsflash ∷ key.Subtitle ∷ key.Suppress ∷ key.Update ∷ key.Interrupted ∷ key.Inhibit ∷ key.Links ∷ key.Row24 ∷ key.Crc ∷ key.Within ∷ key.Stays ∷ key.Lines ∷ key.Serial ∷ key.Info ∷ key.Designation ∷ key.Initial ∷ key.Network ∷ key.Halves ∷ key.Mjd ∷ key.Utc ∷ key.Text ∷ key.Page ∷ []

unfoldable pub key_table : List (List ℕ × List ℕ)
key_table = map (λ k. (key_name k, takes_of k)) all_keys

-- the names of all keys
unfoldable pub key_names : List (List ℕ)
key_names = map key_name all_keys

abbrev pub is_key_name : List ℕ → Bool
is_key_name name = list_any (λ key. bytes_eq key name) key_names

abbrev pub taken_in : List (List ℕ × List ℕ) → List ℕ → List ℕ
taken_in [] name = codes "no value"
taken_in (key ∷ keys) name = if bytes_eq key.0 name then key.1 else taken_in keys name

unfoldable pub accepted_at : List ℕ → List ℕ
accepted_at name = taken_in key_table name
