-- What a row monitor makes of one more slot of a feed that has stayed within the rule.
use Rattle.std.proofs.Common.{◌≡◌, ℕ, ◌+◌, ◌-◌, ◌^◌, ◌<◌, ◌≤◌, ℤ, pos, List, [], ◌∷◌, ◌++◌, length, Option, Some, None, refl, sym, ap, ◌∙◌, subst, inl, inr, arith}
use Rattle.std.proofs.Common.{append_assoc}
use Rattle.std.proofs.lemmas.List.{length_push}
use Rattle.std.proofs.lemmas.Int.{ints}
use Rattle.ttx_page.specs.Pages.{Page}
use Rattle.ttx_page.specs.Receptions.{OneIs}
use Rattle.ttx_witness.specs.Coverage.{Certificate}
use Rattle.ttx_monitor.specs.FeedVerdicts.{IsFoundIn, BeginsAt}
use Rattle.ttx_rows.specs.RowReceptions.{AreAmong}
use Rattle.ttx_cycle.specs.Files.{file_of}
use Rattle.ttx_monitor.specs.Watching.{Watched}
use Rattle.ttx_monitor.specs.Waiting.{IsLeft}
use Rattle.ttx_monitor.specs.declared.ahead.Ahead.{Ahead}
use Rattle.ttx_monitor.proofs.HeardFeeds.{file_more}
use Rattle.ttx_row_monitor.specs.RowFeeds.{IsWithinByRows}
use Rattle.ttx_row_monitor.specs.RowStanding.{RowStands, IsRowHeard}
use Rattle.ttx_row_monitor.specs.RowStepping.{IsRowShift, ComesNext, IsHeardNext}
use Rattle.ttx_row_monitor.specs.RowVerdicts.{IsWholeByRows, IsBrokenByRows, IsSlippedByRows, start_of, IsRowVerdictOf, IsRowVerdict}
use Rattle.ttx_row_monitor.specs.declared.verdict.RowVerdict.{RowVerdict}
use Rattle.ttx_row_monitor.specs.declared.verdict.RowVerdict.TheVariants.{Unlike, Yes, No, Shifted}
use Rattle.ttx_row_monitor.specs.declared.breach.RowBreach.{RowBreach}
use Rattle.ttx_row_monitor.specs.declared.monitor.RowMonitor.{RowMonitor}

-- so many slots of a feed are heard, and within the rule
pub record HeardRowsSo (w : Watched) (bytes : List ℕ) (m : RowMonitor) (a : Ahead) (remaining : Option (List ℕ)) (count : ℕ) : Type 0 where
  pub feed : List (List ℕ)
  pub rest : List ℕ
  pub size : length feed ≡ count
  pub same : bytes ≡ file_of feed ++ rest
  pub stands : RowStands m w feed
  pub within : IsWithinByRows w feed
  pub left : IsLeft a remaining rest

module _ (w : Watched) (bytes : List ℕ) (m : RowMonitor) (a : Ahead) (remaining : Option (List ℕ)) (count : ℕ)
    (h : HeardRowsSo w bytes m a remaining count) where
  pub so_ended : (after : RowMonitor) (rest : ℕ) → rest < 42 → length h.rest ≡ rest → RowStands after w h.feed → IsWholeByRows w bytes after rest
  so_ended after rest few left stands = record {
    feed = h.feed;
    tail = h.rest;
    same = h.same;
    ended = inl (few, left);
    stands = stands;
    within = h.within;
  }

  pub so_long : (rest : ℕ) → 2 ^ 64 - 1 ≤ count → IsWholeByRows w bytes m rest
  so_long rest long = record {
    feed = h.feed;
    tail = h.rest;
    same = h.same;
    ended = inr (let size = h.size in omega arith);
    stands = h.stands;
    within = h.within;
  }

  same_more : (slot after : List ℕ) → ComesNext h.rest slot after → bytes ≡ (file_of h.feed ++ slot) ++ after
  same_more slot after next = h.same ∙ ap (λ l. file_of h.feed ++ l) next.same ∙ sym (append_assoc (file_of h.feed) slot after)

  pub so_broken : (slot after : List ℕ) → ComesNext h.rest slot after → (breach : RowBreach) → IsRowShift w h.feed h.rest slot None →
      IsRowHeard w h.feed slot (Some breach) → IsBrokenByRows w bytes count breach
  so_broken slot after next breach in_place how = record {
    feed = h.feed;
    received = slot;
    rest = after;
    same = same_more slot after next;
    is_slot = next.is_slot;
    within = h.within;
    in_place = subst (λ b. IsRowShift w h.feed b slot None) next.same in_place;
    how = how;
    slot_is = sym h.size;
  }

  pub so_slipped : (slot after : List ℕ) → ComesNext h.rest slot after → (by : ℕ) → IsRowShift w h.feed h.rest slot (Some by) →
      IsSlippedByRows w bytes count by
  so_slipped slot after next by slipped = record {
    feed = h.feed;
    received = slot;
    rest = after;
    same = same_more slot after next;
    is_slot = next.is_slot;
    within = h.within;
    how = subst (λ b. IsRowShift w h.feed b slot (Some by)) next.same slipped;
    slot_is = sym h.size;
  }

  pub so_more : (new : RowMonitor) (b : Ahead) (left : Option (List ℕ)) → IsHeardNext w h.feed h.rest new b left →
      HeardRowsSo w bytes new b left (count + 1)
  so_more new b left n = record {
    feed = h.feed ++ n.slot ∷ [];
    rest = n.after;
    size = length_push h.feed n.slot ∙ ap (λ k. k + 1) h.size;
    same = same_more n.slot n.after n.next ∙ ap (λ l. l ++ n.after) (file_more h.feed n.slot);
    stands = n.stands;
    within = n.within h.within;
    left = n.left;
  }

none_inside : (Q : ℤ → Type 0) (start : ℕ) (slots : List ℤ) → 1 ≤ length slots → AreAmong (pos start) 0 slots → OneIs Q slots
none_inside Q start [] some inside = absurd (omega arith)
none_inside Q start (j ∷ slots) some inside = absurd (let low = inside.0.0 in let high = inside.0.1 in omega (arith, ints))

nothing_within : (w : Watched) → 1 ≤ w.repeat → IsWithinByRows w []
nothing_within w some = record {
  each = λ n lt. absurd (omega arith);
  rows = λ i p is r need slots len succ inside. none_inside _ w.start slots (let l = len in let s = some in omega arith) inside;
}

pub none_heard : (w : Watched) (bytes : List ℕ) (m : RowMonitor) (a : Ahead) (remaining : Option (List ℕ)) → RowStands m w [] → IsLeft a remaining bytes →
    HeardRowsSo w bytes m a remaining 0
none_heard w bytes m a remaining stands left = record {
  feed = [];
  rest = bytes;
  size = refl;
  same = refl;
  stands = stands;
  within = nothing_within w stands.stands.some;
  left = left;
}

-- the verdict on a feed of packets
pub judged : (cycle : List (List ℕ)) (pages : List Page) (c : Certificate) (named : Option ℕ) (bytes : List ℕ) (verdict : RowVerdict) →
    IsFoundIn cycle bytes None → BeginsAt cycle bytes named (start_of verdict) → IsRowVerdictOf cycle pages c bytes verdict →
    IsRowVerdict cycle pages c named bytes verdict
judged cycle pages c named bytes (Unlike unlike) found begins is = absurd is
judged cycle pages c named bytes (Yes start slots lost rest) found begins is = (found, begins, is)
judged cycle pages c named bytes (No start slot breach) found begins is = (found, begins, is)
judged cycle pages c named bytes (Shifted start slot by count) found begins is = (found, begins, is)
