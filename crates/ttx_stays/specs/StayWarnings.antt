-- The warnings about the stays of a service (profile).
--
--   stay_warnings           first the numbers whose pages may change before they are read, then the stays that no plan keeps
use Rattle.std.specs.Prelude.{ℕ, List, ◌++◌}
use Rattle.ttx_source.specs.Promises.{PromiseFields}
use Rattle.ttx_source.specs.Services.{ServiceFields, pages_of}
use Rattle.ttx_stays.specs.ShortNumbers.{short_lines}
use Rattle.ttx_stays.specs.UnkeptStays.{unkept_lines}

abbrev pub stay_warnings : ServiceFields → List PromiseFields → List ℕ
stay_warnings service stays = short_lines (pages_of service) stays ++ unkept_lines service.lines (pages_of service) stays
