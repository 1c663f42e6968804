use Rattle.std.proofs.Common.{◌≡◌, length}
use Rattle.std.specs.List.{All}
use Rattle.ttx_certify.specs.walks.PackedTracks.{IsUntracked}
use Rattle.ttx_certify.proofs.walks.tracks.Tracks.new.Given as goal

abbrev pub invariant-loop-i : goal.invariant-loop-i
invariant-loop-i l = record { count : length l.each.items ≡ l.i; nothing : All (λ page. IsUntracked page.items) l.each.items }
