-- The end of a second list.
use Rattle.std.proofs.Common.{◌≡◌, ℕ, zero, suc, ◌-◌, ◌≤◌, pos, ◌-ℤ◌, List, [], ◌∷◌, length, map, slice_get, Option, Some, None, refl, sym, ap, ◌∙◌, arith}
use Rattle.ttx_page.specs.Pages.{Page}
use Rattle.ttx_page.specs.Views.{page_of, ids_of}
use Rattle.ttx_page.specs.declared.page.Page.{Page as PageValue}
use Rattle.ttx_page.specs.Streams.{run_length}
use Rattle.ttx_page.specs.declared.item.Item.{Item}
use Rattle.ttx_witness.specs.runs.Transmissions.{runs}
use Rattle.ttx_witness.specs.runs.Confirming.{after_runs, not_begun}
use Rattle.ttx_witness.specs.declared.runs.confirmation.Progress.{Progress}
use Rattle.ttx_witness.specs.Coverage.{Certificate, limit}
use Rattle.ttx_witness.specs.laws.CycleLaws.{progress_of}
use Rattle.ttx_witness.specs.sent.ItemTransmissions.{sent_in}
use Rattle.ttx_header.specs.Ids.{Id}
use Rattle.ttx_page.specs.Streams.{repeated}
use Rattle.ttx_witness.specs.sent.ItemTransmissions.{owner_scan, owner_moved, entry_owner}
use Rattle.ttx_witness.specs.sent.Collected.{owner_for}
use Rattle.ttx_witness.specs.declared.sent.owners.Owner.{Owner}
use Rattle.ttx_certify.proofs.walk_lemmas.ReturningOwners.{steady_entry, own_entry}

pub progress_told : (y : List (List ℕ)) (p : Page) (w : Certificate) (item : Item) (starts : List ℕ) (lim period repeat : ℕ) (progress : Progress) →
    starts ≡ w.starts p.id item → lim ≡ limit w → period ≡ length y → repeat ≡ run_length w.repeat item →
    progress ≡ after_runs lim starts not_begun (runs period (repeat - 1) (sent_in y p.id w.lines item)) → progress
    ≡ progress_of y p w item (run_length w.repeat item - 1)
progress_told y p w item starts lim period repeat progress e f g h told =
    let ts = sent_in y p.id w.lines item in
    told ∙ ap (λ ss. after_runs lim ss not_begun (runs period (repeat - 1) ts)) e
    ∙ ap (λ l. after_runs l (w.starts p.id item) not_begun (runs period (repeat - 1) ts)) f
    ∙ ap (λ n. after_runs (limit w) (w.starts p.id item) not_begun (runs n (repeat - 1) ts)) g
    ∙ ap (λ r. after_runs (limit w) (w.starts p.id item) not_begun (runs (length y) (r - 1) ts)) h

pub empty_is : (y : List (List ℕ)) → length y ≡ 0 → y ≡ []
empty_is [] e = refl
empty_is (z ∷ y) e = absurd (omega arith)

-- the page whose id is at an index
pub page_of_id : (pages : List PageValue) (i : ℕ) (id : Id) → slice_get (ids_of pages) i ≡ Some id →
    (p : Page) × (slice_get (map page_of pages) i ≡ Some p) × (p.id ≡ id)
page_of_id [] i id e = let h : None ≡ Some id = e in cc
page_of_id (q ∷ pages) zero id e = (page_of q, refl, let h : (page_of q).id ≡ id = cc in h)
page_of_id (q ∷ pages) (suc i) id e = page_of_id pages i id e

-- the owners before a list that has the owners of the first list before it
module _ (entry owners : List (Option Owner)) (x y : List (List ℕ)) (i : ℕ) (id : Id)
    (seen : owner_for owners i id ≡ owner_scan id (repeated y) (entry_owner x id) (length y))
    (begun : owner_for entry i id ≡ entry_owner x id) (count : ℕ) (is : count ≡ length y) where
  pub again : entry_owner x id ≡ entry_owner y id → owner_moved (pos 0 -ℤ pos count) (owner_for owners i id) ≡ owner_for entry i id
  again e =
      ap (λ n. owner_moved (pos 0 -ℤ pos n) (owner_for owners i id)) is ∙ ap (owner_moved (pos 0 -ℤ pos (length y))) seen
      ∙ ap (λ o. owner_moved (pos 0 -ℤ pos (length y)) (owner_scan id (repeated y) o (length y))) e
      ∙ own_entry y id ∙ sym e ∙ sym begun

  pub own : 1 ≤ length y → owner_moved (pos 0 -ℤ pos count) (owner_for owners i id) ≡ owner_for entry i id → entry_owner x id ≡ entry_owner y id
  own some steady = steady_entry y some id (entry_owner x id)
      (sym (ap (owner_moved (pos 0 -ℤ pos (length y))) seen) ∙ sym (ap (λ n. owner_moved (pos 0 -ℤ pos n) (owner_for owners i id)) is)
      ∙ steady ∙ begun)
