use Rattle.std.proofs.Common.{◌≡◌, ◌++◌, drop, string_bytes}
use Rattle.std.specs.List.{flat_map}
use Rattle.ttx_pages.specs.CountedRecords.{counted_record}
use Rattle.ttx_pages.proofs.records.push_headers.Given as goal

abbrev pub invariant-loop-header : goal.invariant-loop-header
invariant-loop-header l = string_bytes l.text ++ flat_map (counted_record l.all) (drop l.header-index l.headers)
    ≡ string_bytes l.initial.text ++ flat_map (counted_record l.all) l.headers
