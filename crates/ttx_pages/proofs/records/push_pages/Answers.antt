use Rattle.std.proofs.Common.{◌≡◌, ◌++◌, List, ℕ, OnOk, string_bytes, subst, ap, ◌∙◌}
use Rattle.std.specs.List.{flat_map}
use Rattle.ttx_pages.specs.CountedRecords.{counted_record}
use Rattle.ttx_pages.specs.Records.{header_record, page_records}
use Rattle.ttx_pages.proofs.ListedRecords.{records_are}
use Rattle.ttx_pages.proofs.records.push_pages.Goals as goal

pub returns : goal.returns
returns c =
    let slots : List (List ℕ) = c.args.slots.now in
    let headers : List (List ℕ) = c.as_slice.result.now in
    let same : flat_map (counted_record c.args.all.now) headers ≡ page_records slots =
    records_are slots c.args.all.now headers (record { heads = c.requires.heads; rows = c.requires.rows; links = c.requires.links })
    ∙ ap (λ (hs : List (List ℕ)). flat_map (header_record slots) hs) (c.as_slice.ensures.value ∙ c.in_ok-headers.ensures) in
    subst (λ (t : List ℕ). OnOk c.push_headers.result (string_bytes c.push_headers.new.text ≡ string_bytes c.args.text.now ++ t)) same
    c.push_headers.ensures
