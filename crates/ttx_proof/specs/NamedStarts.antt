-- The starts that are named on either side of a splice, and the transmissions of an item there, as the walk gets them.
--
--   stands_at_start         whether a slot is at a named start
--   AreSentOf, AreStartsOf  the transmissions are those of the item, and the starts too
use Rattle.std.specs.Prelude.{ℕ, ℤ, Bool}
use Rattle.ttx_page.specs.Pages.{Page}
use Rattle.ttx_page.specs.declared.item.Item.{Item}
use Rattle.ttx_proof.specs.Bridging.{is_start}
use Rattle.ttx_proof.specs.Joining.{AreGiven, AreOf}
use Rattle.ttx_proof.specs.Splices.{Splice}
use Rattle.ttx_proof.specs.declared.joined_items.ItemSent.{ItemSent}
use Rattle.ttx_proof.specs.declared.starts.NamedStarts.{NamedStarts}

abbrev pub stands_at_start : NamedStarts → ℤ → Bool
stands_at_start starts i = is_start starts.olds.now starts.news.now starts.old_period starts.new_period i

abbrev pub AreSentOf : Splice → Page → Item → ItemSent → Type 0
AreSentOf c p item sent = AreGiven c p item sent.olds.now sent.middle.now sent.news.now

-- a run has `repeat` transmissions, and the deadline `limit` slots
abbrev pub AreStartsOf : Splice → Page → Item → NamedStarts → ℕ → ℕ → Type 0
AreStartsOf c p item starts repeat limit = AreOf c p item starts.olds.now starts.news.now starts.old_period starts.new_period repeat limit
