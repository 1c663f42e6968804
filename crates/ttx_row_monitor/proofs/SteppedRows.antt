-- One step of a row monitor.
use Rattle.std.proofs.Common.{◌≡◌, ℕ, List, [], ◌∷◌, ◌++◌, length, Option, Some, None, Result, Ok, Err, IfOk, map, sym, ap, ◌∙◌, subst, inr}
use Rattle.std.proofs.Common.{append_assoc}
use Rattle.ttx_packet.specs.Slots.{IsSlot}
use Rattle.ttx_cycle.specs.Files.{file_of}
use Rattle.ttx_page.specs.Views.{page_of}
use Rattle.ttx_files.specs.declared.faults.FeedFault.{FeedFault}
use Rattle.ttx_monitor.specs.Watching.{Watched, sent_at}
use Rattle.ttx_monitor.specs.Events.{IsShift}
use Rattle.ttx_monitor.specs.Stepping.{BeginsWith, IsPlacedFor}
use Rattle.ttx_monitor.specs.Waiting.{waiting, IsLeft}
use Rattle.ttx_monitor.specs.declared.ahead.Ahead.{Ahead}
use Rattle.ttx_row_monitor.specs.RowFeeds.{Arrives, IsWithinByRows}
use Rattle.ttx_row_monitor.specs.Flags.{AreFlags}
use Rattle.ttx_row_monitor.specs.RowStanding.{RowStands}
use Rattle.ttx_row_monitor.specs.RowStepping.{IsRowPlaced, ComesNext, IsHeardNext}
use Rattle.ttx_row_monitor.specs.declared.monitor.RowMonitor.{RowMonitor}
use Rattle.ttx_monitor.proofs.SteppedFeeds.{passed_left}

pub if_shift : (P Q : Option ℕ → Type 0) (r : Result (Option ℕ) FeedFault) → ((x : Option ℕ) → P x → Q x) → IfOk r P → IfOk r Q
if_shift P Q (Ok x) f p = f x p
if_shift P Q (Err e) f p = p

-- the monitor of the muted feed is placed
module _ (old new : RowMonitor) (w : Watched) (feed : List (List ℕ)) (st : RowStands old w feed) (bytes slot : List ℕ) (a : Ahead)
    (remaining : Option (List ℕ)) (not : Arrives w.pages (sent_at w (length feed)) slot → ⊥) where
  pub placed : (shift : Option ℕ) → new.pages ≡ old.pages → new.flags ≡ old.flags → new.lost ≡ old.lost →
      IsPlacedFor w st.muted bytes slot new.monitor a remaining shift → IsRowPlaced w feed bytes slot new a remaining shift
  placed None pages flags lost p = (
    inr (subst (λ n. IsShift w n bytes slot None) st.are_muted.size p.told),
    record {
      muted = st.muted;
      are_muted = st.are_muted;
      stands = p.stands;
      pages = ap (λ ps. map page_of ps.now) pages ∙ st.pages;
      flags = subst (λ f. AreFlags w.cycle w.pages f.items) (sym flags) st.flags;
      count = st.count;
      lost = st.lost;
      lost_is = lost ∙ st.lost_is;
    },
    p.left,
    p.begins,
  )
  placed (Some by) pages flags lost p = (not, subst (λ n. IsShift w n bytes slot (Some by)) st.are_muted.size p.told)

-- a slot that waits comes next
pub comes : (a : Ahead) (remaining : Option (List ℕ)) (bytes slot : List ℕ) → IsLeft a remaining bytes → BeginsWith slot a → IsSlot slot →
    (after : List ℕ) × ComesNext bytes slot after
comes a remaining bytes slot l b is = (
  file_of b.0 ++ l.behind,
  record {
    same = l.same ∙ ap (λ s. file_of s ++ l.behind) b.1 ∙ append_assoc slot (file_of b.0) l.behind;
    is_slot = is;
  },
)

-- it is heard
pub heard_next : (w : Watched) (feed : List (List ℕ)) (bytes slot : List ℕ) (a passed : Ahead) (remaining : Option (List ℕ)) (new : RowMonitor) →
    IsLeft a remaining bytes → BeginsWith slot a → IsSlot slot →
    ((slot : List ℕ) (more : List (List ℕ)) → waiting a ≡ slot ∷ more → waiting passed ≡ more) → passed.end ≡ a.end →
    RowStands new w (feed ++ slot ∷ []) → (IsWithinByRows w feed → IsWithinByRows w (feed ++ slot ∷ [])) →
    IsHeardNext w feed bytes new passed remaining
heard_next w feed bytes slot a passed remaining new l b is passes end stands within =
    let left = passed_left a passed remaining bytes slot l b passes end in
    record {
      slot = slot;
      after = left.0;
      next = record { same = left.1; is_slot = is };
      stands = stands;
      within = within;
      left = left.2;
    }
