-- What paths mean.
--
--   PathsAreUnique          a path is that of one list of parts: no two lists of keys and numbers have the same
use Rattle.std.specs.Prelude.{◌≡◌, ℕ, List, []}
use Rattle.ttx_places.specs.Paths.{under}

abbrev pub PathsAreUnique : Type 0
PathsAreUnique = (parts others : List (List ℕ)) → under [] parts ≡ under [] others → parts ≡ others
