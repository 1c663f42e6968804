-- The answer of `refute` as a JSON object (profile).
--
--   counter_members         a counter-run to a page
--   counter_record, none_record     the object of a counter-run; that there is none
use Rattle.std.specs.Prelude.{ℕ, List, [], ◌∷◌, codes, length}
use Rattle.ttx_header.specs.Ids.{Id}
use Rattle.ttx_digits.specs.PageIds.{id_text}
use Rattle.ttx_counter.specs.Counters.{CounterRun}
use Rattle.ttx_json.specs.Objects.{Member, word, count}
use Rattle.ttx_records.specs.Names.{line}

abbrev pub counter_members : Id → CounterRun → List Member
counter_members page c =
    word (codes "answer") (codes "counter") ∷ word (codes "page") (id_text page) ∷ count (codes "start") c.start ∷ count (codes "slots") c.slots
    ∷ count (codes "hits") (length c.hits) ∷ count (codes "choices") (length c.choices) ∷ []

abbrev pub counter_record : Id → CounterRun → List ℕ
counter_record page c = line (counter_members page c)

abbrev pub none_record : List ℕ
none_record = line (word (codes "answer") (codes "none") ∷ [])
