-- What a key takes is what the key of its name takes.
use Rattle.std.proofs.Common.{◌≡◌, refl}
use Rattle.ttx_source.specs.Accepted.{takes_of}
use Rattle.ttx_source.specs.KeyFaults.{key_name}
use Rattle.ttx_source.specs.declared.keys.Key.{Key}
use Rattle.ttx_source.specs.declared.keys.Key.TheVariants as key
use Rattle.ttx_mistakes.specs.Takes.{all_keys, takes}

pub takes_named : (k : Key) → takes (key_name k) ≡ takes_of k
unfolding takes all_keys
takes_named key.Lines = refl
takes_named key.Serial = refl
takes_named key.Info = refl
takes_named key.Designation = refl
takes_named key.Initial = refl
takes_named key.Network = refl
takes_named key.Halves = refl
takes_named key.Mjd = refl
takes_named key.Utc = refl
takes_named key.Text = refl
takes_named key.Page = refl
takes_named key.Number = refl
takes_named key.Sub = refl
takes_named key.Often = refl
takes_named key.Option = refl
takes_named key.Newsflash = refl
takes_named key.Subtitle = refl
takes_named key.Suppress = refl
takes_named key.Update = refl
takes_named key.Interrupted = refl
takes_named key.Inhibit = refl
takes_named key.Head = refl
takes_named key.Rows = refl
takes_named key.Links = refl
takes_named key.Row24 = refl
takes_named key.Crc = refl
takes_named key.Within = refl
takes_named key.Stays = refl
