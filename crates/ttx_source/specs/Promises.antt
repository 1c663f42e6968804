-- The promises of a service definition: the key `within` of a page, the seconds within which a viewer is to see it, and its key `stays`, the
-- seconds for which each page of its number is to stay (profile).
--
--   PromiseFields           a page that has a promise, as contracts see it
--   microseconds, fields_of_float, fields_of_integer, fields_of     the seconds of a value as whole fields of 0.02 s
--   promise_of              the promise of a page at a key, which may have none
--   promises_in, promises_of, read_key     those of an array of pages, of a table and of a text, or the first fault
--   read_promises, read_stays       those at `within` and at `stays`
use Rattle.std.specs.Prelude.{ℕ, ℤ, suc, ◌*◌, ◌/◌, ◌&&◌, ◌++◌, List, [], ◌∷◌, codes, Bool, Option, Some, None, Result, Ok, Err}
use Rattle.std.specs.Prelude.{if◌then◌else◌, nat_le, is_some, Float}
use Rattle.std.specs.Float.Ieee.{add, mul, of_bits, binary64, to_unsigned}
use Rattle.toml.specs.Data.{Data, string, integer, float, boolean, datetime, array, table, Items, no_items, item, Members, get_member, as_table}
use Rattle.ttx_source.specs.Documents.{document_of, or_not_toml}
use Rattle.ttx_source.specs.Values.{Fault, out_of_range, wrong_kind, ◌>>=◌, of_kind, integer_within}
use Rattle.ttx_source.specs.Services.{in_page, page_tables}

-- a page by its index in authored order, the fields of its promise, and whether it has the key `often`
pub record PromiseFields : Type 0 where
  pub page : ℕ
  pub fields : ℕ
  pub fixed : Bool

abbrev pub promise_at : ℕ → ℕ → Bool → PromiseFields
promise_at page fields fixed = record { page = page; fields = fields; fixed = fixed }

-- The nearest number of microseconds, in double precision: 1000000 times the seconds and a half, without the fraction. So what is written with
-- at most six decimals is taken as it is written.
unfoldable pub microseconds : Float → ℕ
microseconds x = to_unsigned 64 (add binary64 (mul binary64 x (of_bits binary64 0x412e_8480_0000_0000)) (of_bits binary64 0x3fe0_0000_0000_0000))

-- 0.02 to 20000 seconds; a field has 20000 microseconds, and what is left of one does not count
abbrev pub whole_fields : List ℕ → ℕ → Result ℕ Fault
whole_fields key n = if nat_le 20000 n && nat_le n 20000000000 then Ok (n / 20000) else Err (out_of_range key)

abbrev pub fields_of_float : List ℕ → Float → Result ℕ Fault
fields_of_float key x = whole_fields key (microseconds x)

-- 1 to 20000 seconds
abbrev pub fields_of_integer : List ℕ → ℤ → Result ℕ Fault
fields_of_integer key z = integer_within key 1 20000 z >>= (λ n. Ok (50 * n))

-- the fields of the value of a key, which is an integer or a float
abbrev pub fields_of : List ℕ → Data → Result ℕ Fault
fields_of key (integer z) = fields_of_integer key z
fields_of key (float x) = fields_of_float key x
fields_of key (string s) = Err (wrong_kind key)
fields_of key (boolean b) = Err (wrong_kind key)
fields_of key (datetime d) = Err (wrong_kind key)
fields_of key (array a) = Err (wrong_kind key)
fields_of key (table t) = Err (wrong_kind key)

-- the promise of the page at an index
abbrev pub promise_by : List ℕ → ℕ → Members → Option Data → Result (List PromiseFields) Fault
promise_by key page keys None = Ok []
promise_by key page keys (Some value) = fields_of key value >>= (λ n. Ok (promise_at page n (is_some (get_member (codes "often") keys)) ∷ []))

abbrev pub promise_of : List ℕ → ℕ → Members → Result (List PromiseFields) Fault
promise_of key page keys = promise_by key page keys (get_member key keys)

-- the same for an item of the array of pages; pages are counted from 1 in faults
abbrev pub promise_in : List ℕ → ℕ → Data → Result (List PromiseFields) (Fault × ℕ)
promise_in key page value = in_page 0 (of_kind (codes "page") as_table value) >>= (λ keys. in_page (suc page) (promise_of key page keys))

-- the promises of pages, the first of which has this index
unfoldable pub promises_in : List ℕ → ℕ → Items → Result (List PromiseFields) (Fault × ℕ)
promises_in key page no_items = Ok []
promises_in key page (item value values) =
    promise_in key page value >>= (λ first. promises_in key (suc page) values >>= (λ others. Ok (first ++ others)))

-- the promises of the service that a table is
abbrev pub promises_of : List ℕ → Members → Result (List PromiseFields) (Fault × ℕ)
promises_of key keys = in_page 0 (page_tables keys) >>= promises_in key 0

abbrev pub promises_or : List ℕ → Option Members → Result (List PromiseFields) (Fault × ℕ)
promises_or key document = or_not_toml document >>= promises_of key

-- the promises of the service that a text is
abbrev pub read_key : List ℕ → List ℕ → Result (List PromiseFields) (Fault × ℕ)
read_key key bytes = promises_or key (document_of bytes)

abbrev pub read_promises : List ℕ → Result (List PromiseFields) (Fault × ℕ)
read_promises bytes = read_key (codes "within") bytes

abbrev pub read_stays : List ℕ → Result (List PromiseFields) (Fault × ℕ)
read_stays bytes = read_key (codes "stays") bytes
