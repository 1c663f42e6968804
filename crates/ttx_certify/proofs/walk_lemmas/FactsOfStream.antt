-- What the facts of a page say about the stream after the whole list.
use Rattle.std.proofs.Common.{◌≡◌, ℕ, ◌≤◌, List, length, get_or, slice_get, Option, Some, None}
use Rattle.std.proofs.Common.{sym, subst, arith}
use Rattle.std.proofs.lemmas.List.{length-map}
use Rattle.std.proofs.lemmas.Option.{slice_get_within}
use Rattle.ttx_header.specs.Ids.{IsId}
use Rattle.ttx_page.specs.Pages.{Page}
use Rattle.ttx_page.specs.Views.{page_of}
use Rattle.ttx_page.specs.Streams.{repeated}
use Rattle.ttx_page.specs.Steady.{OtherSubpageAt}
use Rattle.ttx_witness.specs.declared.faults.subcodes.Subcodes.TheVariants.{Unlisted}
use Rattle.ttx_witness.specs.faults.Faults.{AreFirst, TellsFirst}
use Rattle.ttx_witness.specs.sent.ItemTransmissions.{entry_owner}
use Rattle.ttx_witness.specs.faults.OtherSubpages.{place, AreSubcodes, AreAllSubcodes, HeadsOtherAt}
use Rattle.ttx_witness.proofs.FirstFaults.{tells_same, first_slots, all_sent, other_is, first_all}
use Rattle.ttx_witness.specs.faults.FirstSlots.{SentBelow}
use Rattle.ttx_certify.specs.declared.walks.page_facts.Facts.{Facts}
use Rattle.ttx_certify.specs.declared.walks.page_results.EndedWalk.{EndedWalk}
use Rattle.ttx_certify.specs.walks.PageFacts.{AreFacts}
use Rattle.ttx_certify.specs.walks.Passing.{IsEnded, ended_pages, ended_certificate}

module _ (ended : EndedWalk) (y : List (List ℕ)) (kept : IsEnded ended y) (n : ℕ) (p : Page)
    (at : slice_get (ended_pages ended) n ≡ Some p) (is : IsId p.id) where
  some : 1 ≤ length y
  some = let s = kept.cycle.some in omega arith

  abbrev other : Option ℕ
  other = get_or ended.others.first.items (place p.id.mag p.id.page) None

  other_first : TellsFirst y (OtherSubpageAt (repeated y) (ended_pages ended) p) other
  other_first =
      let table = ended.others.subcodes.items in
      let here : AreSubcodes (ended_pages ended) (length (ended_pages ended)) p.id.mag p.id.page (get_or table (place p.id.mag p.id.page) Unlisted) =
      subst (λ k. AreAllSubcodes (ended_pages ended) k table)
      (sym (length-map ended.pages.now page_of)) kept.subcodes p.id.mag p.id.page is.mag_from is.mag_to is.page in
      tells_same y (HeadsOtherAt table (repeated y) p.id.mag p.id.page) (OtherSubpageAt (repeated y) (ended_pages ended) p)
      (other_is (ended_pages ended) p n at (slice_get_within (ended_pages ended) n p at) table (repeated y) here) other
      (first_all y some table p.id.mag p.id.page other (kept.others p.id.mag p.id.page is.mag_from is.mag_to is.page))

  pub facts_first : (f : Facts) → AreFacts (ended_certificate ended) p (repeated y) (entry_owner y p.id) (length y) f →
      AreFirst y (ended_pages ended) p (record f.first { other_subpage = other })
  facts_first f a =
      first_slots y some p (SentBelow p.id (repeated y) (entry_owner y p.id) (length y)) (λ item it. all_sent y some p.id item)
      (ended_pages ended) other other_first f.first a.first
