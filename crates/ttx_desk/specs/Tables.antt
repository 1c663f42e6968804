-- Tables of TOML.
--
--   put, without            a table with a value at a key, and without a key
--   text_at, table_at, array_at       the text, table or array at a key, where there is one
use Rattle.std.specs.Prelude.{ℕ, List, Option, option_and_then, if◌then◌else◌}
use Rattle.std.specs.Ordering.{nat_cmp, match_ordering}
use Rattle.std.specs.Cmp.Lexicographic.{slice_cmp}
use Rattle.toml.specs.Data.{Data, Items, Members, no_members, member, get_member, same_key, as_str, as_table, as_array}

-- the value at the key, in place of another one if there is one
abbrev pub put : List ℕ → Data → Members → Members
put key value no_members = member key value no_members
put key value (member k d table) =
    match_ordering (slice_cmp nat_cmp key k) (member key value (member k d table)) (member k value table) (member k d (put key value table))

-- the other keys
abbrev pub without : List ℕ → Members → Members
without key no_members = no_members
without key (member k d table) = if same_key key k then table else member k d (without key table)

abbrev pub text_at : List ℕ → Members → Option (List ℕ)
text_at key table = option_and_then as_str (get_member key table)

abbrev pub table_at : List ℕ → Members → Option Members
table_at key table = option_and_then as_table (get_member key table)

abbrev pub array_at : List ℕ → Members → Option Items
array_at key table = option_and_then as_array (get_member key table)
