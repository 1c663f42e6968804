use Rattle.std.proofs.Common.{◌≡◌, ℕ, Bool, true, false, not, ◌&&◌, ◌==◌, Option, Some, None, refl, sym, subst}
use Rattle.std.proofs.lemmas.Bool.{and_parts, cond_both, both_ways}
use Rattle.ttx_header.specs.Control.{c11}
use Rattle.ttx_links.specs.Sets.{LinkSet}
use Rattle.ttx_page.specs.Memories.{Memory}
use Rattle.ttx_page.specs.Packets.{Packet, Header, Row, Links, packet_of}
use Rattle.ttx_page.specs.Pages.{matches, selected_mag}
use Rattle.ttx_page.specs.Receivers.{older, misses, with_links, after}
use Rattle.ttx_page.specs.declared.class.Class.{Class}
use Rattle.ttx_page.specs.declared.selection.Selection.{Selection}
use Rattle.ttx_receiver.specs.Touching.{AreAlikeBut}
use Rattle.ttx_receiver.proofs.laws.idle_steps_touch_nothing.Goals as goal

module _ (class : Class) (lines : ℕ) (sel : Selection) (choice : Bool) (m : Memory) where
  -- nothing of what is shown changes if storing has ended
  IsIdle : Memory → Type 0
  IsIdle new = new.storing ≡ false → AreAlikeBut 0 0 m new

  links_idle : (content : Option LinkSet) → m.storing ≡ true → IsIdle (with_links (older m) content)
  unfolding IsIdle
  links_idle None s e = absurd (both_ways m.storing e s)
  links_idle (Some content) s e = absurd (both_ways m.storing e s)

  packet_idle : (packet : Packet) → IsIdle (after class lines sel choice (older m) packet)
  unfolding IsIdle
  packet_idle (Header id control text) =
      cond_both (matches sel id) _ _ IsIdle (λ t e. absurd (both_ways true e refl))
      (λ t. cond_both (id.mag == selected_mag sel) _ _ IsIdle (λ u e. record { control = refl; links = refl; count = refl; rows = λ k out. refl })
      (λ u. cond_both (c11 control && choice) _ _ IsIdle (λ v e. record { control = refl; links = refl; count = refl; rows = λ k out. refl })
      (λ v e. record { control = refl; links = refl; count = refl; rows = λ k out. refl })))
  packet_idle (Row mag number text) =
      cond_both ((mag == selected_mag sel) && m.storing && not (misses lines choice (older m))) _ _ IsIdle
      (λ t e. absurd (both_ways m.storing e ((and_parts (mag == selected_mag sel) m.storing (and_parts _ _ t).0).1)))
      (λ t e. record { control = refl; links = refl; count = refl; rows = λ k out. refl })
  packet_idle (Links mag content) =
      cond_both ((mag == selected_mag sel) && m.storing && not (misses lines choice (older m))) _ _ IsIdle
      (λ t. links_idle content ((and_parts (mag == selected_mag sel) m.storing (and_parts _ _ t).0).1))
      (λ t e. record { control = refl; links = refl; count = refl; rows = λ k out. refl })
  packet_idle _ = λ e. record { control = refl; links = refl; count = refl; rows = λ k out. refl }

pub returns : goal.returns
unfolding IsIdle
returns c = λ class lines sel m received new step.
    subst (IsIdle class lines sel step.choice m) (sym step.is) (packet_idle class lines sel step.choice m (packet_of received))
