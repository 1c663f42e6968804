-- The tracks of items; one slot changes that of at most one item.
use Rattle.std.proofs.Common.{◌≡◌, ℕ, zero, suc, ◌-◌, ◌<◌, ◌&&◌, ◌==◌, if◌then◌else◌, List, [], ◌∷◌, ◌++◌}
use Rattle.std.proofs.Common.{length, set, slice_get, Some, sym, ap, ◌∙◌, subst, inl, inr, arith, eqb-true, eq-eqb}
use Rattle.std.specs.Prelude.{Vec}
use Rattle.std.specs.declared.alloc.Global.{Global}
use Rattle.std.specs.List.{All}
use Rattle.std.proofs.lemmas.Bool.{cases_Bool, and_parts, both_ways}
use Rattle.std.proofs.lemmas.List.{append-nil}
use Rattle.ttx_page.specs.Pages.{Page}
use Rattle.ttx_page.specs.Streams.{run_length}
use Rattle.ttx_page.specs.declared.item.Item.{Item}
use Rattle.ttx_witness.specs.Coverage.{Certificate, limit}
use Rattle.ttx_witness.specs.Elements.{HoldsAt}
use Rattle.ttx_witness.specs.declared.runs.transmissions.Transmission.{Transmission}
use Rattle.ttx_witness.specs.declared.sent.one_slot.Sent.{Sent}
use Rattle.ttx_witness.specs.runs.Tracks.{IsWithin}
use Rattle.ttx_witness.specs.sent.Collected.{IsItem, item_number}
use Rattle.ttx_witness.specs.sent.OneSlot.{sent_of}
use Rattle.ttx_witness.proofs.FirstFaults.{placed}
use Rattle.ttx_witness.proofs.SentItems.{place_below}
use Rattle.ttx_certify.specs.declared.walks.packed_track.PackedTrack.{PackedTrack}
use Rattle.ttx_certify.specs.walks.PackedTracks.{AreSlots, IsPacked, IsTracked, IsTrackedAt}
use Rattle.ttx_certify.proofs.walk_lemmas.ChangedPlaces.{set_here, set_other}

all_left : {A : Type 0} (P : A → Type 0) (xs ys : List A) → All P (xs ++ ys) → All P xs
all_left P [] ys a k d lt = absurd (omega arith)
all_left P (x ∷ xs) ys a zero d lt = a zero d (omega arith)
all_left P (x ∷ xs) ys a (suc k) d lt = all_left P xs ys (λ j e less. a (suc j) e (omega arith)) k d (omega arith)

abbrev PageTracks : Type 0
PageTracks = Vec PackedTrack Global

-- one more transmission of an item
pub tracked_more : (w : Certificate) (p : Page) (item : Item) (repeat lim : ℕ) (starts : List ℕ) (t : Transmission) (old new : PackedTrack) →
    repeat ≡ run_length w.repeat item → lim ≡ limit w → starts ≡ w.starts p.id item → AreSlots (w.starts p.id item) →
    ((ts : List Transmission) → AreSlots starts → All (IsWithin 65536) (ts ++ t ∷ []) → IsPacked (repeat - 1) lim starts ts old →
    IsPacked (repeat - 1) lim starts (ts ++ t ∷ []) new) →
    (ts : List Transmission) → IsTracked w p item ts old → IsTracked w p item (ts ++ t ∷ []) new
tracked_more w p item repeat lim starts t old new e f g are step ts h = record {
  kept = λ small.
      subst (λ r. IsPacked (r - 1) (limit w) (w.starts p.id item) (ts ++ t ∷ []) new) e
      (subst (λ l. IsPacked (repeat - 1) l (w.starts p.id item) (ts ++ t ∷ []) new) f
      (subst (λ ss. IsPacked (repeat - 1) lim ss (ts ++ t ∷ []) new) g
      (step ts (subst AreSlots (sym g) are) small
      (subst (λ ss. IsPacked (repeat - 1) lim ss ts old) (sym g)
      (subst (λ l. IsPacked (repeat - 1) l (w.starts p.id item) ts old) (sym f)
      (subst (λ r. IsPacked (r - 1) (limit w) (w.starts p.id item) ts old) (sym e)
      (h.kept (all_left (IsWithin 65536) ts (t ∷ []) small))))))));
}

-- the slot does not send the item
pub silent : (s : Sent) (i : ℕ) (item : Item) → (item_number item ≡ s.number → s.page ≡ i → ⊥) → sent_of i item (Some s) ≡ []
silent s i item other = elim (cases_Bool ((item_number item == s.number) && (s.page == i))) as (λ _. sent_of i item (Some s) ≡ []) [
  | inl e ↦ (let parts = and_parts (item_number item == s.number) (s.page == i) e in
      absurd (other (eqb-true _ _ parts.0) (eqb-true _ _ parts.1)))
  | inr e ↦ ap (λ b. if b then s.transmission ∷ [] else []) e
]

pub item_below : (item : Item) → IsItem item → item_number item < 26
item_below item is = let low = place_below 0 item 1 (omega arith) is in omega arith

module _ (w : Certificate) (i : ℕ) (p : Page) (item : Item) (ts : List Transmission) where
  pub tracked_nothing : (all : List PageTracks) (us : List Transmission) → us ≡ [] → IsTrackedAt w p item ts i all → IsTrackedAt w p item (ts ++ us) i all
  tracked_nothing all us e h = subst (λ vs. IsTrackedAt w p item vs i all) (sym (ap (λ us. ts ++ us) e ∙ append-nil ts)) h

  -- the track of another item of the same page
  same_page : (all : List PageTracks) (s : Sent) (page : PageTracks) → s.page < length all → s.page ≡ i →
      (h : IsTrackedAt w p item ts i all) → slice_get page.items (item_number item) ≡ slice_get h.value.items (item_number item) →
      IsTrackedAt w p item ts i (set all s.page page)
  same_page all s page lt e h same = record {
    value = page;
    here = ap (slice_get (set all s.page page)) (sym e) ∙ set_here all s.page page lt;
    is = (let k = h.is in record { value = k.value; here = same ∙ k.here; is = k.is });
  }

  -- the slot sends an item of a page
  pub tracked_page : (all : List PageTracks) (s : Sent) (old new : PageTracks) → slice_get all s.page ≡ Some old → s.page < length all →
      ((n : ℕ) → (n ≡ s.number → ⊥) → slice_get new.items n ≡ slice_get old.items n) →
      ((x : PackedTrack) → slice_get old.items s.number ≡ Some x → s.page ≡ i → item_number item ≡ s.number →
      HoldsAt PackedTrack new.items s.number (λ y. IsTracked w p item ts x → IsTracked w p item (ts ++ s.transmission ∷ []) y)) →
      IsTrackedAt w p item ts i all → IsTrackedAt w p item (ts ++ sent_of i item (Some s)) i (set all s.page new)
  tracked_page all s old new at_old lt others taken h = elim (cases_Bool (s.page == i)) as
      (λ _. IsTrackedAt w p item (ts ++ sent_of i item (Some s)) i (set all s.page new)) [
        | inr e ↦
            let apart : i ≡ s.page → ⊥ = λ q. both_ways _ e (eq-eqb s.page i (sym q)) in
            let h' : IsTrackedAt w p item ts i (set all s.page new) = record { value = h.value; here = set_other all s.page i new apart ∙ h.here; is = h.is } in
            tracked_nothing (set all s.page new) (sent_of i item (Some s)) (silent s i item (λ n q. apart (sym q))) h'
        | inl e ↦
            let page_is : s.page ≡ i = eqb-true _ _ e in
            let same_old : old ≡ h.value = placed _ old h.value at_old (ap (slice_get all) page_is ∙ h.here) in
            elim (cases_Bool (item_number item == s.number)) as
            (λ _. IsTrackedAt w p item (ts ++ sent_of i item (Some s)) i (set all s.page new)) [
              | inr d ↦
                  let apart : item_number item ≡ s.number → ⊥ = λ q. both_ways _ d (eq-eqb (item_number item) s.number q) in
                  tracked_nothing (set all s.page new) (sent_of i item (Some s)) (silent s i item (λ n q. apart n))
                  (same_page all s new lt page_is h (others (item_number item) apart ∙ ap (λ v. slice_get v.items (item_number item)) same_old))
              | inl d ↦
                  let number_is : item_number item ≡ s.number = eqb-true _ _ d in
                  let k = h.is in
                  let next = taken k.value (ap (slice_get old.items) (sym number_is) ∙ ap (λ v. slice_get v.items (item_number item)) same_old ∙ k.here)
                  page_is number_is in
                  let told : sent_of i item (Some s) ≡ s.transmission ∷ [] =
                  ap (λ b. if b && (s.page == i) then s.transmission ∷ [] else []) d ∙ ap (λ b. if b then s.transmission ∷ [] else []) e in
                  record {
                    value = new;
                    here = ap (slice_get (set all s.page new)) (sym page_is) ∙ set_here all s.page new lt;
                    is = record {
                      value = next.value;
                      here = ap (slice_get new.items) number_is ∙ next.here;
                      is = subst (λ us. IsTracked w p item (ts ++ us) next.value) (sym told) (next.is k.is);
                    };
                  }
            ]
      ]
