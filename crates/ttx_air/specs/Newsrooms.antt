-- What a newsroom returns.
--
--   Candidate, candidate_of         an edition that may be put on the air, and its mark in the log
--   News, news_of                   nothing, a next edition, or why a text has none, such as lack of memory
use Rattle.std.specs.Prelude.{ℕ, List, codes, string_bytes}
use Rattle.ttx_playout.specs.Schedules.{Edition}
use Rattle.ttx_playout.specs.Takeovers.{edition_of}
use Rattle.ttx_air.specs.declared.candidate.Candidate.{Candidate as CandidateValue}
use Rattle.ttx_air.specs.declared.candidate.News.{News as NewsValue}
use Rattle.ttx_air.specs.declared.candidate.News.TheVariants as value

pub record Candidate : Type 0 where
  pub edition : Edition
  pub mark : List ℕ

pub data News : Type 0 where
  Nothing : News
  Next : Candidate → News
  Refused : List ℕ → List ℕ → News

abbrev pub candidate_of : CandidateValue → Candidate
candidate_of c = record { edition = edition_of c.edition; mark = string_bytes c.mark }

abbrev pub news_of : NewsValue → News
news_of value.Nothing = Nothing
news_of (value.Next next) = Next (candidate_of next)
news_of (value.Refused mark words) = Refused (string_bytes mark) (string_bytes words)
news_of (value.NoMemory mark) = Refused (string_bytes mark) (codes "out of memory")
