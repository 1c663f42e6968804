-- Tracks that are packed.
use Rattle.std.proofs.Common.{◌≡◌, ℕ, suc, ◌-◌, ◌<◌, min, List, [], length, map, take, refl, sym, ap, ◌∙◌, subst, arith, IfSome}
use Rattle.std.proofs.lemmas.List.{length-take, length-drop}
use Rattle.std.proofs.lemmas.List.Elements.{All-take, All-drop}
use Rattle.std.proofs.Math.Seq.{take-nil, drop-nil}
use Rattle.std.specs.List.{All}
use Rattle.ttx_witness.specs.declared.runs.named_starts.Track.{Track}
use Rattle.ttx_witness.specs.declared.runs.transmissions.Transmission.{Transmission}
use Rattle.ttx_witness.specs.runs.Transmissions.{windows}
use Rattle.ttx_witness.specs.runs.Confirming.{after_runs, not_begun}
use Rattle.ttx_witness.specs.runs.Tracks.{Held, held_in, ended, IsRecent, IsTrack, IsWithin}
use Rattle.ttx_certify.specs.declared.walks.packed_track.PackedTrack.{PackedTrack}
use Rattle.ttx_certify.specs.walks.PackedTracks.{transmission_of, held_of, progress_of, AreSlots, IsPackable, IsPacked}
use Rattle.ttx_certify.proofs.walk_lemmas.SmallProgress.{progress_small}

pub same_held : (a b : ℕ) (ws xs fs gs : List Transmission) → a ≡ b → ws ≡ xs → fs ≡ gs →
    ◌≡◌ {A = Held} (record { repeat = a; window = ws; firsts = fs }) (record { repeat = b; window = xs; firsts = gs })
same_held a b ws xs fs gs e f g = cc

module _ (k limit : ℕ) (starts : List ℕ) (ts : List Transmission) where
  -- a track that is unpacked
  pub as_track : (packed : PackedTrack) (track : Track) → IsPacked k limit starts ts packed → held_in track.recent ≡ held_of (suc k) packed →
      track.progress ≡ progress_of packed → IsTrack k limit starts ts track
  as_track packed track is e f = record { recent = subst (IsRecent k ts) (sym e) is.recent; progress = f ∙ is.progress }

  -- and one that is packed
  pub as_packed : (packed : PackedTrack) (track : Track) → IsTrack k limit starts ts track → held_of track.recent.repeat packed ≡ held_in track.recent →
      progress_of packed ≡ track.progress → IsPacked k limit starts ts packed
  as_packed packed track is e f = record {
    recent = subst (IsRecent k ts) (sym (ap (λ n. held_of n packed) (sym is.recent.repeat) ∙ e)) is.recent;
    progress = f ∙ is.progress;
  }

  pub packable : (track : Track) → IsTrack k limit starts ts track → AreSlots starts → All (IsWithin 65536) ts → IsPackable track
  packable track is are small =
      let p = progress_small limit starts are (ended k ts) in
      let window : length track.recent.window.items ≡ length ts - (length ts - suc k) =
      ap length is.recent.window ∙ length-drop (length ts - suc k) ts in
      let firsts : length track.recent.firsts.items ≡ min k (length ts) = ap length is.recent.firsts ∙ length-take k ts in
      let repeat : track.recent.repeat ≡ suc k = is.recent.repeat in
      record {
        window = subst (All (IsWithin 65536)) (sym is.recent.window) (All-drop (IsWithin 65536) (length ts - suc k) ts small);
        firsts = subst (All (IsWithin 65536)) (sym is.recent.firsts) (All-take (IsWithin 65536) k ts small);
        count = omega arith;
        next = (let e = ap (λ m. m.next) is.progress in let few = p.0 in omega arith);
        late = subst (λ m. IfSome m.late (λ start. start < 65536)) (sym is.progress) p.1;
      }

-- before the first transmission
pub nothing_is : (k limit : ℕ) (starts : List ℕ) (packed : PackedTrack) → packed.count ≡ 0 → progress_of packed ≡ not_begun → IsPacked k limit starts [] packed
unfolding windows after_runs
nothing_is k limit starts packed e f = record {
  recent = record {
    repeat = refl;
    window = ap (λ n. map transmission_of (take n packed.window)) e ∙ sym (drop-nil (length {A = Transmission} [] - suc k));
    firsts = ap (λ n. map transmission_of (take n packed.firsts)) (let z : min packed.count (suc k - 1) ≡ 0 = omega arith in z) ∙ sym (take-nil k);
  };
  progress = f;
}
