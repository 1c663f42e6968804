-- What the key of a name takes (profile).
--
--   all_keys, takes         all keys; what the one of a name takes, in words
use Rattle.std.specs.Prelude.{ℕ, List, [], ◌∷◌, find, option_map, unwrap_or}
use Rattle.std.specs.Str.{bytes_eq}
use Rattle.ttx_source.specs.Accepted.{takes_of}
use Rattle.ttx_source.specs.KeyFaults.{key_name}
use Rattle.ttx_source.specs.declared.keys.Key.{Key}
use Rattle.ttx_source.specs.declared.keys.Key.TheVariants as key

unfoldable pub all_keys : List Key
all_keys =
    key.Lines ∷ key.Serial ∷ key.Info ∷ key.Designation ∷ key.Initial ∷ key.Network ∷ key.Halves ∷ key.Mjd ∷ key.Utc ∷ key.Text ∷ key.Page ∷ key.Number ∷ key.Sub ∷ key.Often
    ∷ key.Option ∷ key.Newsflash ∷ key.Subtitle ∷ key.Suppress ∷ key.Update ∷ key.Interrupted ∷ key.Inhibit ∷ key.Head ∷ key.Rows ∷ key.Links ∷ key.Row24 ∷ key.Crc ∷ key.Within ∷ key.Stays ∷ []

unfoldable pub takes : List ℕ → List ℕ
takes name = unwrap_or (option_map takes_of (find (λ k. bytes_eq (key_name k) name) all_keys)) []
