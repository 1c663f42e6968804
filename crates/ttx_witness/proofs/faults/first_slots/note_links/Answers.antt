use Rattle.std.proofs.Common.{◌≡◌, ◌||◌, ◌==◌, ℕ, List, Bool, true, false, refl, subst, eqb-true}
use Rattle.ttx_page.specs.Pages.{Page, needed}
use Rattle.ttx_page.specs.Views.{page_of}
use Rattle.ttx_page.specs.declared.item.Item.TheVariants.{Row as TheRow}
use Rattle.ttx_witness.specs.sent.Collected.{item_number}
use Rattle.ttx_witness.specs.faults.FirstSlots.{RowWrong}
use Rattle.ttx_witness.proofs.faults.first_slots.note_links.Goals as goal

or_false : (b : Bool) → b ≡ (b || false)
or_false true = refl
or_false false = refl

never : (false ≡ true) → ⊥
never e = cc

-- no viewer needs a row 25
no_row : (p : Page) (slot : List ℕ) → RowWrong p (λ item. item_number item == 25) slot → ⊥
no_row p slot w = never (subst (λ r. needed p (TheRow r) ≡ true) (eqb-true w.row 25 w.sent) w.needed)

pub returns : goal.returns
returns c =
    let p = page_of c.args.page.now in let slot = c.args.slot.now in
    record {
      has_header = or_false c.args.first.now.has_header;
      erased = record { holds = false; exact = ((λ e. absurd (never e)), (λ w. absurd (never w.0))); first = refl };
      head = record { holds = false; exact = ((λ e. absurd (never e)), (λ w. absurd (never w.0))); first = refl };
      row = record { holds = false; exact = ((λ e. absurd (never e)), (λ w. absurd (no_row p slot w))); first = refl };
      links = record {
        holds = c.is_wrong.result;
        exact = ((λ e. (refl, c.is_wrong.ensures.0 e)), (λ w. c.is_wrong.ensures.1 w.1));
        first = c.noted-first.ensures;
      };
    }
