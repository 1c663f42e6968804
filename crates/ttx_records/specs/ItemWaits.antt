-- How long viewers wait for the items of pages, as JSON objects (profile): the names and values of the lines of `wait --items`.
--
--   own_members, item_members       how long for an item, or why never
--   item_record, item_records       the object of an item; those of several
--   records_under           those of the items of a page, if the page is sent unchanged
--   wait_record, both_records       the object of a page; those of pages with those of their items
--   item_wait_records       all objects
--   IsItemWaitRecord        those of a cycle and a service; the deadline for all pages
use Rattle.std.specs.Prelude.{◌≡◌, ℕ, List, [], ◌∷◌, ◌++◌, codes, drop, get_or, Option, None}
use Rattle.ttx_header.specs.Ids.{Id}
use Rattle.ttx_digits.specs.PageIds.{id_text}
use Rattle.ttx_page.specs.declared.class.Class.{Class}
use Rattle.ttx_promise.specs.PromisedWaits.{beside}
use Rattle.ttx_source.specs.Services.{ServiceFields, pages_of}
use Rattle.ttx_wait.specs.Reports.{IsFirstBad, deadline_of}
use Rattle.ttx_witness.specs.laws.WaitLaws.{greatest}
use Rattle.ttx_witness.specs.wait_times.ItemWaits.{AreItemWaits}
use Rattle.ttx_witness.specs.wait_times.PageWaits.{AreWaits}
use Rattle.ttx_witness.specs.declared.wait_times.wait.ItemWait.{ItemWait}
use Rattle.ttx_witness.specs.declared.wait_times.wait.Losses.{Losses}
use Rattle.ttx_witness.specs.declared.wait_times.wait.OwnWait.{OwnWait}
use Rattle.ttx_witness.specs.declared.wait_times.wait.OwnWait.TheVariants.{Least, Never}
use Rattle.ttx_witness.specs.declared.wait_times.wait.PageWait.{PageWait}
use Rattle.ttx_witness.specs.declared.wait_times.wait.Wait.{Wait}
use Rattle.ttx_witness.specs.declared.wait_times.wait.Wait.TheVariants.{Faulty}
use Rattle.ttx_json.specs.Objects.{Member, word, count}
use Rattle.ttx_records.specs.Names.{line, item_name}
use Rattle.ttx_records.specs.Waits.{never, fields_members, page_record, all_members}

abbrev pub unsure_members : Losses → List Member
unsure_members c = never (count (codes "sent") c.sent ∷ count (codes "near") c.near ∷ count (codes "cut") c.cut ∷ [])

abbrev pub own_members : OwnWait → List Member
own_members (Least fields) = fields_members fields
own_members (Never losses) = unsure_members losses

abbrev pub item_members : List ℕ → List ℕ → List Member → List Member
item_members page item members = word (codes "page") page ∷ word (codes "item") item ∷ members

unfoldable pub item_record : Id → ItemWait → List ℕ
item_record page told = line (item_members (id_text page) (item_name told.item) (own_members told.wait))

abbrev pub item_records : Id → List ItemWait → List ℕ
item_records page [] = []
item_records page (told ∷ rest) = item_record page told ++ item_records page rest

-- no deadline is enough for a page that is not sent unchanged
abbrev pub records_under : Wait → Id → List ItemWait → List ℕ
records_under (Faulty reason) page items = []
records_under wait page items = item_records page items

-- a page without a promise
abbrev pub wait_record : PageWait → List ℕ
wait_record told = page_record (beside told None)

abbrev pub both_records : List PageWait → List (List ItemWait) → List ℕ
both_records [] all = []
both_records (told ∷ rest) all = wait_record told ++ records_under told.wait told.page (get_or all 0 []) ++ both_records rest (drop 1 all)

abbrev pub item_wait_records : Option ℕ → List PageWait → List (List ItemWait) → List ℕ
item_wait_records bad told all = both_records told all ++ line (all_members bad (greatest told))

pub record IsItemWaitRecord (cycle : List (List ℕ)) (service : ServiceFields) (class : Class) (repeat : ℕ) (text : List ℕ) (deadline : Option ℕ)
    : Type 0 where
  pub bad : Option ℕ
  pub first_bad : IsFirstBad cycle bad
  pub told : List PageWait
  pub waits : AreWaits cycle (pages_of service) class repeat service.lines told
  pub items : List (List ItemWait)
  pub item_waits : AreItemWaits cycle (pages_of service) class repeat service.lines items
  pub text_is : text ≡ item_wait_records bad told items
  pub deadline_is : deadline ≡ deadline_of bad (greatest told)
