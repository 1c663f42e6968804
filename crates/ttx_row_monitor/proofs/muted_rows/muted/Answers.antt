use Rattle.std.proofs.Common.{map, refl, inl}
use Rattle.std.proofs.lemmas.Bool.{both_ways}
use Rattle.ttx_page.specs.Views.{page_of}
use Rattle.ttx_row_monitor.specs.RowFeeds.{Arrives}
use Rattle.ttx_row_monitor.proofs.TornRows.{and_not}
use Rattle.ttx_row_monitor.proofs.muted_rows.muted.Goals as goal

pub returns-then-not-arrives : goal.returns-then-not-arrives
returns-then-not-arrives c =
    let gone : Arrives (map page_of c.args.pages.now) c.args.sent.now c.args.received.now → ⊥ = λ a. both_ways _ c.if-not-arrives.true (c.arrives.ensures.1 a) in
    record {
      slot = c.requires.received;
      may = λ a. absurd (gone a);
      arrives = λ may. inl may;
      whole = λ a. absurd (gone a);
      right = λ a. absurd (gone a);
      strange = λ _. refl;
    }

pub returns-then-is_refused : goal.returns-then-is_refused
returns-then-is_refused c =
    let here = c.arrives.ensures.0 c.if-not-arrives.false in
    let refused = c.is_refused.ensures.refused c.if-is_refused.true in
    record {
      slot = c.torn.ensures.slot;
      may = λ _. c.torn.ensures.near (and_not _ _ refused.0);
      arrives = λ _. here;
      whole = λ _ _ x low high. ((λ e. absurd (c.torn.ensures.wrong x low high e)), (λ w. absurd (refused.1 w)));
      right = λ _ off. absurd (both_ways _ off refused.0);
      strange = λ gone. absurd (gone here);
    }

pub returns : goal.returns
returns c =
    let here = c.arrives.ensures.0 c.if-not-arrives.false in
    record {
      slot = c.requires.sent;
      may = λ _. c.each_slot_may_be_received_as_sent.ensures c.args.sent.now c.requires.sent;
      arrives = λ _. here;
      whole = λ _ on x low high. ((λ _. c.is_refused.ensures.whole c.if-is_refused.false on), (λ _. refl));
      right = λ _ _ x high. refl;
      strange = λ gone. absurd (gone here);
    }
