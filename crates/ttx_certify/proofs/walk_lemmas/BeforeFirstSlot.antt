-- A walk before its first slot.
use Rattle.std.proofs.Common.{◌≡◌, ℕ, ◌-◌, zero, suc, ◌<◌, List, [], ◌∷◌, length, slice_get, replicate, Some, None, refl, ap, ◌∙◌, arith}
use Rattle.std.proofs.lemmas.List.{get_or-replicate, length-replicate}
use Rattle.std.proofs.lemmas.Option.{slice_get-get_or}
use Rattle.std.specs.Prelude.{Vec}
use Rattle.std.specs.declared.alloc.Global.{Global}
use Rattle.std.specs.List.{All}
use Rattle.ttx_witness.specs.sent.Collected.{IsItem, item_number}
use Rattle.ttx_certify.proofs.walk_lemmas.ChangedTracks.{item_below}
use Rattle.ttx_page.specs.Pages.{Page}
use Rattle.ttx_page.specs.declared.item.Item.{Item}
use Rattle.ttx_page.specs.Streams.{Stream, run_length}
use Rattle.ttx_witness.specs.Coverage.{Certificate, limit}
use Rattle.ttx_witness.specs.sent.ItemTransmissions.{sent_scan}
use Rattle.ttx_certify.specs.declared.walks.page_facts.Facts.{Facts}
use Rattle.ttx_witness.specs.Elements.{HoldsAt}
use Rattle.ttx_certify.specs.declared.walks.packed_track.PackedTrack.{PackedTrack}
use Rattle.ttx_certify.specs.walks.PackedTracks.{IsPacked, IsUntracked, IsTrackedAt}
use Rattle.ttx_certify.specs.walks.PageFacts.{AreFacts, heads_of}
use Rattle.ttx_witness.specs.faults.FirstSlots.{none_yet, SentBelow}
use Rattle.ttx_witness.proofs.FirstFaults.{none_taken}

abbrev pub none_noted : Facts
none_noted = record { heads = None; first = none_yet }

pub nothing_noted : (w : Certificate) (p : Page) (s : Stream) (all : List Facts) (count n : ℕ) → all ≡ replicate count none_noted →
    n < count → HoldsAt Facts all n (AreFacts w p s None 0)
unfolding sent_scan heads_of
nothing_noted w p s all count n e lt = record {
  value = none_noted;
  here = ap (λ l. slice_get l n) e
      ∙ slice_get-get_or (replicate count none_noted) n none_noted (let l = length-replicate {A = Facts} count none_noted in omega arith)
      ∙ ap Some (get_or-replicate {A = Facts} count n none_noted none_noted lt);
  is = record { heads = refl; first = none_taken p s (SentBelow p.id s None 0) (λ item j t. let lt = t.0 in absurd (omega arith)) };
}

all_at : {A : Type 0} (P : A → Type 0) (xs : List A) → All P xs → (n : ℕ) → n < length xs → HoldsAt A xs n P
all_at P [] all n lt = absurd (omega arith)
all_at P (x ∷ xs) all zero lt = record { value = x; here = refl; is = all zero x lt }
all_at P (x ∷ xs) all (suc n) lt =
    let h = all_at P xs (λ m d less. all (suc m) d (omega arith)) n (omega arith) in record { value = h.value; here = h.here; is = h.is }

pub nothing_tracked : (w : Certificate) (p : Page) (item : Item) → IsItem item → (tracks : List (Vec PackedTrack Global)) →
    All (λ page. IsUntracked page.items) tracks → (i : ℕ) → i < length tracks → IsTrackedAt w p item [] i tracks
nothing_tracked w p item it tracks all i lt =
    let h = all_at (λ page. IsUntracked page.items) tracks all i lt in
    let g = all_at (λ packed. (k limit : ℕ) (starts : List ℕ) → IsPacked k limit starts [] packed) h.value.items h.is.each (item_number item) (let c = h.is.count in let b = item_below item it in omega arith) in
    record { value = h.value; here = h.here; is = record { value = g.value; here = g.here; is = record { kept = λ small. g.is (run_length w.repeat item - 1) (limit w) (w.starts p.id item) } } }
