-- The transmissions of an item of a page in a cycle that is sent again and again.
use Rattle.std.proofs.Common.{◌≡◌, ℕ, ◌≤◌, ℤ, pos, ◌+ℤ◌, ◌≤ℤ◌, List, [], ◌∷◌, length, slice_index_or, refl, sym, ap, subst, arith}
use Rattle.std.specs.List.{Contains, AllByRecursion}
use Rattle.std.proofs.lemmas.Int.{ints}
use Rattle.ttx_header.specs.Ids.{Id}
use Rattle.ttx_page.specs.Pages.{Page}
use Rattle.ttx_page.specs.declared.item.Item.{Item}
use Rattle.ttx_page.specs.Streams as S
use Rattle.ttx_page.specs.Streams.{Stream, repeated, IsOwned, IsTransmission, IsSure, IsSureTransmission, AreSuccessive, run_length}
use Rattle.ttx_witness.specs.runs.Transmissions.{Transmission, slot_of}
use Rattle.ttx_witness.specs.runs.Tracks.{AreInOrder, IsWithin}
use Rattle.ttx_witness.specs.runs.Repeating as R
use Rattle.ttx_witness.specs.runs.Repeating.{Repeats, Successive, IsSentAt, IsSureSent, AreSent, Covers}
use Rattle.ttx_witness.specs.Coverage.{Certificate, limit, IsCovered}
use Rattle.ttx_witness.specs.sent.ItemTransmissions.{sent_in, entry_owner}
use Rattle.ttx_witness.proofs.lemmas.runs.Coverage.{turned_once}
use Rattle.ttx_witness.proofs.AllBetween.{lists_low, lists_high, lists_rise}
use Rattle.ttx_witness.proofs.lemmas.sent.Periods.{repeats}
use Rattle.ttx_witness.proofs.lemmas.sent.StreamOwners as O

pub period_of : (cycle : List (List ℕ)) (i : ℤ) → repeated cycle (i +ℤ pos (length cycle)) ≡ repeated cycle i
period_of cycle i = ap (λ x. slice_index_or cycle x []) (turned_once (length cycle) i)

-- runs of as many transmissions as the repeat count says, and runs of k
module _ (s : Stream) (page : Id) (lines repeat : ℕ) (item : Item) (k : ℕ) (len : run_length repeat item ≡ k) where
  pub sure_run_to : (i : ℤ) → S.HasSureRun s page lines repeat item i → R.BeginsSureRun (IsOwned s page item) (IsSure s lines page.mag item) k i
  sure_run_to i = subst (λ n. R.BeginsSureRun (IsOwned s page item) (IsSure s lines page.mag item) n i) len

  pub sure_run_from : (i : ℤ) → R.BeginsSureRun (IsOwned s page item) (IsSure s lines page.mag item) k i → S.HasSureRun s page lines repeat item i
  sure_run_from i = subst (λ n. R.BeginsSureRun (IsOwned s page item) (IsSure s lines page.mag item) n i) (sym len)

  pub ends_to : (i e : ℤ) → S.EndsBelow s page repeat item i e → R.RunEndsBelow (IsOwned s page item) k i e
  ends_to i e = subst (λ n. R.RunEndsBelow (IsOwned s page item) n i e) len

  pub ends_from : (i e : ℤ) → R.RunEndsBelow (IsOwned s page item) k i e → S.EndsBelow s page repeat item i e
  ends_from i e = subst (λ n. R.RunEndsBelow (IsOwned s page item) n i e) (sym len)

turned_same : (n : ℕ) (i : ℤ) → R.turned n i ≡ S.turned n i
turned_same n (ℤ.pos a) = refl
turned_same n (ℤ.negsuc a) = refl

module _ (cycle : List (List ℕ)) (some : 1 ≤ length cycle) (page : Id) (lines : ℕ) (item : Item) where
  pub law : Repeats (length cycle) (IsOwned (repeated cycle) page item) (IsSure (repeated cycle) lines page.mag item)
  law = repeats (repeated cycle) (length cycle) some (period_of cycle) page lines item

  -- a scan of a period lists its transmissions
  pub sent_told : AreSent (IsOwned (repeated cycle) page item) (IsSure (repeated cycle) lines page.mag item) (pos 0)
      (pos (length cycle)) (sent_in cycle page lines item)
  sent_told = O.scan_told page (repeated cycle) lines item (entry_owner cycle page)
      (O.first_entry page (repeated cycle) (length cycle) some (period_of cycle)) (length cycle)

  -- their numbers are small
  pub told_within : length cycle ≤ 65536 → (low : ℤ) → pos 0 ≤ℤ low → (ts : List Transmission) →
      AreSent (IsOwned (repeated cycle) page item) (IsSure (repeated cycle) lines page.mag item) low (pos (length cycle)) ts →
      AllByRecursion (IsWithin 65536) ts
  told_within few low from [] l = tt
  told_within few low from (t ∷ ts) l =
      let a = law.near t.owner t.slot l.0.owned in
      let b = law.before t.owner t.slot l.0.owned in
      let c = l.1 in let d = l.2 in (
        record { slot_low = omega (arith, ints); slot_high = omega (arith, ints); owner_low = omega (arith, ints); owner_high = omega (arith, ints) },
        told_within few (t.slot +ℤ pos 1) (omega (arith, ints)) ts l.4,
      )

  -- and they come slot by slot
  pub told_in_order : length cycle ≤ 65536 → (ts : List Transmission) →
      AreSent (IsOwned (repeated cycle) page item) (IsSure (repeated cycle) lines page.mag item) (pos 0) (pos (length cycle)) ts → AreInOrder ts
  told_in_order few ts l = record {
    low = λ k d lt. lists_low slot_of _ _ (pos 0) (pos (length cycle)) ts l k d lt;
    high = λ k d lt. let h = lists_high slot_of _ _ (pos 0) (pos (length cycle)) ts l k d lt in omega (arith, ints);
    rising = lists_rise slot_of _ _ (pos 0) (pos (length cycle)) ts l;
  }

-- the coverage of a cycle is that of its transmissions
module _ (cycle : List (List ℕ)) (p : Page) (w : Certificate) (item : Item) (k : ℕ) (len : run_length w.repeat item ≡ k) where
  abbrev s : Stream
  s = repeated cycle

  abbrev Covering : Type 0
  Covering = Covers (IsOwned s p.id item) (IsSure s w.lines p.id.mag item) (length cycle) k (limit w) (w.starts p.id item)

  pub covered_to : IsCovered cycle p w item → Covering
  covered_to c = record {
    named = c.named;
    sure = λ start h. let a = c.sure start h in (a.0, sure_run_to s p.id w.lines w.repeat item k len (pos start) a.1);
    in_time = λ tau. let t = c.in_time tau in
        record {
          start = t.0;
          owner = t.1;
          named = subst (Contains (w.starts p.id item)) (sym (turned_same (length cycle) t.0)) t.2;
          owned = t.3;
          not_before = t.4;
          ends = ends_to s p.id w.lines w.repeat item k len t.0 (tau +ℤ pos (limit w)) t.5;
        };
  }

  pub covered_from : Covering → IsCovered cycle p w item
  covered_from c = record {
    named = c.named;
    sure = λ start h. let a = c.sure start h in (a.0, sure_run_from s p.id w.lines w.repeat item k len (pos start) a.1);
    in_time = λ tau. let t = c.in_time tau in (
      t.start,
      t.owner,
      subst (Contains (w.starts p.id item)) (turned_same (length cycle) t.start) t.named,
      t.owned,
      t.not_before,
      ends_from s p.id w.lines w.repeat item k len t.start (tau +ℤ pos (limit w)) t.ends,
    );
  }
