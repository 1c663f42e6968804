-- What one slot does to a memory: when storing begins, continues and ends, and what is left when it has ended.
use Rattle.std.proofs.Common.{◌≡◌, ℕ, Bool, true, false, sym, subst, arith}
use Rattle.ttx_page.specs.Packets.{Packet}
use Rattle.ttx_page.specs.Pages.{Page, selected_mag}
use Rattle.ttx_page.specs.declared.selection.Selection.{Selection}
use Rattle.ttx_page.specs.declared.class.Class.{Class}
use Rattle.ttx_page.specs.Memories.{Memory, memory_of_page}
use Rattle.ttx_page.specs.Receivers.{after, older}
use Rattle.ttx_page.specs.Streams.{heads, heads_matched}
use Rattle.ttx_render.specs.View.{view_of}
use Rattle.ttx_render.specs.Laws.{ContentsDecide}
use Rattle.ttx_render.specs.Comparison.{SameButClock}
use Rattle.ttx_certify.specs.Seen.{HasView}

-- the same rows, control bits and links
pub record Same (a b : Memory) : Type 0 where
  pub rows : a.rows ≡ b.rows
  pub control : a.control ≡ b.control
  pub links : a.links ≡ b.links

-- a View depends only on these
pub has_view_same : ContentsDecide → (p : Page) (a b : Memory) → Same b a → HasView p a → HasView p b
has_view_same decide p a b s h =
    subst (λ v. SameButClock v (view_of (memory_of_page p))) (decide a b (sym s.rows) (sym s.control) (sym s.links)) h

module _ (class : Class) (lines : ℕ) (sel : Selection) where
  -- a header that the selection matches begins storing
  pub after_matched : (choice : Bool) (m : Memory) (pkt : Packet) → heads_matched sel pkt ≡ true → (after class lines sel choice m pkt).storing ≡ true
  after_matched choice m pkt h = grind arith

  -- a slot after which nothing is being stored leaves what was held unchanged
  pub after_stopped : (choice : Bool) (m new : Memory) (pkt : Packet) → new ≡ after class lines sel choice (older m) pkt → new.storing ≡ false →
      Same m new
  after_stopped choice m new pkt is st = grind arith

  -- a slot that is not a header of the magazine, without a choice taken, does not change whether the receiver is storing
  pub after_quiet : (m : Memory) (pkt : Packet) → heads (selected_mag sel) pkt ≡ false → heads_matched sel pkt ≡ false →
      (after class lines sel false m pkt).storing ≡ m.storing
  after_quiet m pkt other none = grind arith
