-- What a file is, by its first bytes (profile).
--
--   are_slots, is_packets   whole slots, eight or more; the first 64, or all, are such, and are not recognised as anything else
--   is_author, is_service   the first key of a TOML text is that of authors' texts; or one of services
--   kind_of                 a title, or packets, or a first key
use Rattle.std.specs.Prelude.{ℕ, ◌%◌, Bool, not, ◌&&◌, ◌||◌, ◌==◌, nat_le, if◌then◌else◌, List, length, codes, Option, Some, None}
use Rattle.ttx_recognition.specs.Recognition.{judged, is_unlike}
use Rattle.ttx_kinds.specs.Texts.{text_of, begins_with, has_key}
use Rattle.ttx_kinds.specs.declared.kinds.Kind.{Kind}
use Rattle.ttx_kinds.specs.declared.kinds.Kind.TheVariants.{Packets, Service, Author, Certificate, CounterRun}

abbrev pub are_slots : List ℕ → Bool
are_slots bytes = nat_le 336 (length bytes) && (length bytes % 42 == 0)

abbrev pub is_packets : List ℕ → Bool
is_packets bytes = are_slots (judged bytes) && not (is_unlike (judged bytes))

abbrev pub is_author : List ℕ → Bool
is_author text = has_key text (codes "author")

abbrev pub is_service : List ℕ → Bool
is_service text = has_key text (codes "lines") || has_key text (codes "serial") || has_key text (codes "info") || has_key text (codes "page")

abbrev pub key_kind : List ℕ → Option Kind
key_kind text = if is_author text then Some Author else if is_service text then Some Service else None

-- of bytes without a title
abbrev pub untitled_kind : List ℕ → Option Kind
untitled_kind bytes = if is_packets bytes then Some Packets else key_kind (text_of bytes)

abbrev pub kind_of : List ℕ → Option Kind
kind_of bytes =
    if begins_with bytes (codes "ttx certificate ") then Some Certificate
    else if begins_with bytes (codes "ttx counter ") then Some CounterRun
    else untitled_kind bytes
