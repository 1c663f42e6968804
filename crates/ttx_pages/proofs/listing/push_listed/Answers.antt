use Rattle.std.proofs.Common.{◌≡◌, ◌++◌, List, ℕ, OnOk, string_bytes, subst, sym, ap, ◌∙◌}
use Rattle.std.specs.List.{flat_map}
use Rattle.ttx_pages.specs.Counting.{counted_line}
use Rattle.ttx_pages.specs.Listing.{header_line, listed_lines}
use Rattle.ttx_pages.proofs.Listed.{lines_are}
use Rattle.ttx_pages.proofs.listing.push_listed.Goals as goal

pub returns : goal.returns
returns c =
    let slots : List (List ℕ) = c.args.slots.now in
    let headers : List (List ℕ) = c.as_slice.result.now in
    let same : flat_map (counted_line c.args.all.now) headers ≡ listed_lines slots =
    lines_are slots c.args.all.now headers (record { heads = c.requires.heads; rows = c.requires.rows; links = c.requires.links })
    ∙ ap (λ (hs : List (List ℕ)). flat_map (header_line slots) hs) (c.as_slice.ensures.value ∙ c.in_ok-headers.ensures) in
    subst (λ (t : List ℕ). OnOk c.push_lines.result (string_bytes c.push_lines.new.text ≡ string_bytes c.args.text.now ++ t)) same
    c.push_lines.ensures
