use Rattle.std.proofs.Common.{ℕ, List, [], length, sym, ap, ◌∙◌, subst}
use Rattle.std.specs.List.{All}
use Rattle.std.proofs.lemmas.List.{length-replicate}
use Rattle.std.proofs.lemmas.List.Elements.{All-replicate}
use Rattle.ttx_certify.specs.declared.walks.packed_track.PackedTrack.{PackedTrack}
use Rattle.ttx_certify.specs.walks.PackedTracks.{IsPacked}
use Rattle.ttx_certify.proofs.walks.tracks.nothing_of_page.Goals as goal

pub returns-in-Ok : goal.returns-in-Ok
returns-in-Ok c =
    let Nothing = λ (packed : PackedTrack). (k limit : ℕ) (starts : List ℕ) → IsPacked k limit starts [] packed in
    let items = c.in-Ok.ensures.items_if_clones_equal (λ y e. e) in
    record {
      count = ap length items ∙ length-replicate {A = PackedTrack} 26 c.nothing_packed.result;
      each = subst (All Nothing) (sym items)
          (All-replicate Nothing 26 c.nothing_packed.result c.nothing_packed.ensures);
    }
