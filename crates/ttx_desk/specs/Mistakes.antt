-- The mistakes of an author's text.
--
--   mistake                 a mistake
--   lack_mistake            the mistake of a mark that has no code
use Rattle.std.specs.Prelude.{ℕ}
use Rattle.ttx_author.specs.declared.rows.Lack.{Lack}
use Rattle.ttx_desk.specs.declared.mistakes.Mistake.{Mistake}
use Rattle.ttx_desk.specs.declared.mistakes.Part.{Part}
use Rattle.ttx_desk.specs.declared.mistakes.Fault.{Fault}
use Rattle.ttx_desk.specs.declared.mistakes.Fault.TheVariants.{Mark}

abbrev pub mistake : ℕ → Part → ℕ → Fault → Mistake
mistake page part place fault = record { page = page; part = part; place = place; fault = fault }

abbrev pub lack_mistake : ℕ → Part → Lack → Mistake
lack_mistake page part lack = mistake page part lack.place (Mark lack.why)
