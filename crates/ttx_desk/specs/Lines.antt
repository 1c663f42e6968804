-- The lines of a text of several lines. Line 0 is the first.
--
--   after_feed, before_feed     what follows the first line feed; what stands before it
--   rest_after, line            the text after a number of line feeds; a line, without a carriage return at its end
--   is_blank                whether there are only spaces
use Rattle.std.specs.Prelude.{ℕ, zero, suc, ◌+◌, ◌-◌, ◌==◌, Bool, List, [], Option, Some, None, take, drop, length, slice_index, if◌then◌else◌}
use Rattle.std.specs.List.{position, list_all}

abbrev pub feed_in : List ℕ → Option ℕ
feed_in text = position (λ c. c == 10) text

abbrev pub rest_at : List ℕ → Option ℕ → List ℕ
rest_at text None = []
rest_at text (Some place) = drop (place + 1) text

abbrev pub front_at : List ℕ → Option ℕ → List ℕ
front_at text None = text
front_at text (Some place) = take place text

unfoldable pub after_feed : List ℕ → List ℕ
after_feed text = rest_at text (feed_in text)

unfoldable pub before_feed : List ℕ → List ℕ
before_feed text = front_at text (feed_in text)

unfoldable pub rest_after : ℕ → List ℕ → List ℕ
rest_after zero text = text
rest_after (suc feeds) text = rest_after feeds (after_feed text)

-- lines may end in a carriage return and a line feed
unfoldable pub without_return : List ℕ → List ℕ
without_return text = if slice_index text (length text - 1) == 13 then take (length text - 1) text else text

abbrev pub line : ℕ → List ℕ → List ℕ
line number text = without_return (before_feed (rest_after number text))

abbrev pub is_blank : List ℕ → Bool
is_blank text = list_all (λ c. c == 0x20) text
