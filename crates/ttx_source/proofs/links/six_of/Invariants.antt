use Rattle.std.proofs.Common.{◌≡◌, ◌-◌, drop, take, length, replicate, None}
use Rattle.toml.specs.View.{items_view}
use Rattle.ttx_source.specs.Keys.{links_in}
use Rattle.ttx_source.proofs.Sequences.{then}
use Rattle.ttx_source.proofs.links.six_of.Given as goal

-- the links so far, and then those of the values left; the other places have none
abbrev pub invariant-loop-place : goal.invariant-loop-place
invariant-loop-place l = record {
  long : length l.six ≡ 6;
  free : drop l.place l.six ≡ replicate (6 - l.place) None;
  so_far : links_in (items_view l.values) ≡ then (take l.place l.six) (links_in (items_view (drop l.place l.values)));
}
