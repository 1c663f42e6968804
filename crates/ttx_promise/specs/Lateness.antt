-- Which pages come too late for their promises, from the least deadline of each page.
--
--   often_at                how often the page at an index is sent; 8 times where there is none
--   may_rise                the page of a promise may be sent more often: it has no key `often`, and is sent less than 8 times
--   fields_late             by how many fields the page of a promise comes too late
--   weight, weight_at       the same for a page that may be sent more often, and 0 of each other; of the promise with a number
--   page_at                 the page of the promise with a number
--   NoneMayRise, IsLatest   no page that comes too late may be sent more often; the first of the latest of those that may
--   late_of                 the pages that come too late, with their deadlines and promises
use Rattle.std.specs.Prelude.{◌≡◌, ℕ, ◌-◌, ◌<◌, ◌≤◌, List, [], ◌∷◌, ◌++◌, slice_get, slice_index_or, Bool, not, ◌&&◌, nat_lt, if◌then◌else◌}
use Rattle.std.specs.Prelude.{Option, Some, None}
use Rattle.ttx_header.specs.Ids.{Id}
use Rattle.ttx_page.specs.Pages.{Page}
use Rattle.ttx_source.specs.Promises.{PromiseFields}
use Rattle.ttx_source.specs.Services.{Authored}

abbrev pub often_or : Option Authored → ℕ
often_or None = 8
often_or (Some page) = page.often

abbrev pub often_at : List Authored → ℕ → ℕ
often_at pages index = often_or (slice_get pages index)

abbrev pub may_rise : List Authored → PromiseFields → Bool
may_rise pages promise = not promise.fixed && nat_lt (often_at pages promise.page) 8

abbrev pub fields_late : List ℕ → PromiseFields → ℕ
fields_late deadlines promise = slice_index_or deadlines promise.page 0 - promise.fields

abbrev pub weight : List Authored → List ℕ → PromiseFields → ℕ
weight pages deadlines promise = if may_rise pages promise then fields_late deadlines promise else 0

abbrev pub weight_or_none : List Authored → List ℕ → Option PromiseFields → ℕ
weight_or_none pages deadlines None = 0
weight_or_none pages deadlines (Some promise) = weight pages deadlines promise

-- of the promise with this number
abbrev pub weight_at : List Authored → List ℕ → List PromiseFields → ℕ → ℕ
weight_at pages deadlines promises number = weight_or_none pages deadlines (slice_get promises number)

abbrev pub page_or_none : Option PromiseFields → ℕ
page_or_none None = 0
page_or_none (Some promise) = promise.page

abbrev pub page_at : List PromiseFields → ℕ → ℕ
page_at promises number = page_or_none (slice_get promises number)

abbrev pub NoneMayRise : List Authored → List ℕ → List PromiseFields → Type 0
NoneMayRise pages deadlines promises = (number : ℕ) → weight_at pages deadlines promises number ≡ 0

-- the promise with this number
pub record IsLatest (pages : List Authored) (deadlines : List ℕ) (promises : List PromiseFields) (number : ℕ) : Type 0 where
  pub promise : PromiseFields
  pub at : slice_get promises number ≡ Some promise
  pub late : 0 < weight_at pages deadlines promises number
  pub most : (other : ℕ) → weight_at pages deadlines promises other ≤ weight_at pages deadlines promises number
  pub first : (other : ℕ) → other < number → weight_at pages deadlines promises other < weight_at pages deadlines promises number

-- a page, the fields that a viewer waits for it, and those of its promise
pub record LateFields : Type 0 where
  pub page : Id
  pub fields : ℕ
  pub promise : ℕ

abbrev pub late_at : Id → ℕ → ℕ → LateFields
late_at page fields promise = record { page = page; fields = fields; promise = promise }

abbrev pub late_page : Option Page → List ℕ → PromiseFields → List LateFields
late_page None deadlines promise = []
late_page (Some page) deadlines promise =
    if nat_lt promise.fields (slice_index_or deadlines promise.page 0)
    then late_at page.id (slice_index_or deadlines promise.page 0) promise.fields ∷ [] else []

-- in the order of the promises
abbrev pub late_of : List Page → List ℕ → List PromiseFields → List LateFields
late_of pages deadlines [] = []
late_of pages deadlines (promise ∷ promises) = late_page (slice_get pages promise.page) deadlines promise ++ late_of pages deadlines promises
