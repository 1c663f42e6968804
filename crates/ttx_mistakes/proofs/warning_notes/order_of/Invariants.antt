use Rattle.std.proofs.Common.{◌≡◌, ◌+◌, drop, map}
use Rattle.ttx_page.specs.Views.{page_of}
use Rattle.ttx_mistakes.specs.WarningNotes.{order_from}
use Rattle.ttx_mistakes.proofs.warning_notes.order_of.Given as goal

abbrev pub invariant-loop-index : goal.invariant-loop-index
invariant-loop-index l = order_from (l.index + 1) (map (λ p. p.id) (map page_of (drop l.index l.pages))) l.id
    ≡ order_from 1 (map (λ p. p.id) (map page_of l.pages)) l.id
