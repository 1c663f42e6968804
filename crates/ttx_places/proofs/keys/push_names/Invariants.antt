use Rattle.std.proofs.Common.{◌≡◌, drop, map, string_bytes}
use Rattle.ttx_places.specs.Paths.{all_named}
use Rattle.ttx_places.proofs.keys.push_names.Given as goal

abbrev pub invariant-loop-part : goal.invariant-loop-part
invariant-loop-part l = all_named l.pages (string_bytes l.path) (map string_bytes (drop l.part-index l.parts)) ≡ all_named l.pages (string_bytes l.fn.path) (map string_bytes l.parts)
