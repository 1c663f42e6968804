-- A feed before its first slot is judged.
--
--   IsOpened                its first period has been read: what it is, the slot of the cycle with which it begins, and what waits
--   IsBegun                 the same, and nothing has been judged
use Rattle.std.specs.Prelude.{◌≡◌, ℕ, List, [], Option}
use Rattle.ttx_page.specs.Pages.{Page}
use Rattle.ttx_witness.specs.Coverage.{Certificate}
use Rattle.ttx_monitor.specs.Watching.{watched}
use Rattle.ttx_monitor.specs.Standing.{Stands}
use Rattle.ttx_monitor.specs.Waiting.{IsLeft}
use Rattle.ttx_monitor.specs.FeedVerdicts.{IsFoundIn, BeginsAt}
use Rattle.ttx_monitor.specs.Tallies.{nothing_yet}
use Rattle.ttx_monitor.specs.declared.begun_feed.Opened.{Opened}
use Rattle.ttx_monitor.specs.declared.begun_feed.Begun.{Begun}

pub record IsOpened (cycle : List (List ℕ)) (named : Option ℕ) (bytes : List ℕ) (remaining : Option (List ℕ)) (opened : Opened) : Type 0 where
  pub found : IsFoundIn cycle bytes opened.found
  pub begins : BeginsAt cycle bytes named opened.start
  pub left : IsLeft opened.ahead remaining bytes

pub record IsBegun (cycle : List (List ℕ)) (pages : List Page) (c : Certificate) (named : Option ℕ) (bytes : List ℕ) (remaining : Option (List ℕ))
    (begun : Begun) : Type 0 where
  pub found : IsFoundIn cycle bytes begun.found
  pub begins : BeginsAt cycle bytes named begun.start
  pub stands : Stands begun.following.monitor (watched cycle pages c.repeat begun.start) []
  pub left : IsLeft begun.following.ahead remaining bytes
  pub none : begun.following.tally ≡ nothing_yet
