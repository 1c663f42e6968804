-- What an author writes is seen in the pages of a service that says it.
use Rattle.std.proofs.Common.{◌≡◌, ◌∙◌, ◌++◌, take, drop, length, replicate, ap, sym, Ok}
use Rattle.std.proofs.Math.Seq.{take-append_seam}
use Rattle.ttx_page.specs.Memories.{memory_of_page, memory_row}
use Rattle.ttx_page.specs.Pages.{Page}
use Rattle.ttx_author.specs.Seen.{RowIsSeen, HeadIsSeen}
use Rattle.ttx_desk.specs.Said.{author_head, author_row}
use Rattle.ttx_desk.specs.Seen.{TextsAreSeen}

-- columns 8 to 31 of row 0 are the head
head-columns : (page : Page) → length page.head ≡ 24 → take 24 (drop 8 (memory_row (memory_of_page page) 0)) ≡ page.head
head-columns page size =
    ap (λ n. take n (page.head ++ replicate 8 32)) (sym size) ∙ take-append_seam page.head (replicate 8 32)

pub texts_are_seen_lem : RowIsSeen → HeadIsSeen → TextsAreSeen
texts_are_seen_lem row_seen head_seen author service says index page size got =
    let said = says index page got in (
      said.0,
      said.1,
      record {
        rows = λ i c inside own. row_seen (memory_of_page page) i c (author_row said.0 i) (said.2.rows i inside) own;
        head = λ c own.
            head_seen (memory_of_page page) c (author_head said.0) (said.2.head ∙ ap Ok (sym (head-columns page size))) own;
      },
    )
