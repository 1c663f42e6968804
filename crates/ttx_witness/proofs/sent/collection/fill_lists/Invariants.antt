use Rattle.std.proofs.Common.{◌≡◌, ◌*◌, List, length}
use Rattle.ttx_header.specs.Ids.{Id}
use Rattle.ttx_cycle.specs.Cycles.{slots_of}
use Rattle.ttx_witness.specs.sent.Collected.{IsIndex, AreApart, AreOwners, AreCollected}
use Rattle.ttx_witness.proofs.sent.collection.fill_lists.Given as goal

abbrev pub invariant-loop-j : goal.invariant-loop-j
invariant-loop-j l = record {
  owners : (ids : List Id) → IsIndex ids l.index → AreOwners ids (slots_of l.before) l.slots l.j l.owners;
  apart : (ids : List Id) → IsIndex ids l.index → AreApart ids l.owners;
  lists : (ids : List Id) → IsIndex ids l.index → length l.initial.lists.items ≡ 26 * length ids →
      AreCollected ids (slots_of l.before) l.slots l.lines l.j l.lists.items;
}
