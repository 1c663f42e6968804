-- One more slot of a run that starves a receiver.
use Rattle.std.proofs.Common.{◌≡◌, ℕ, suc, ◌+◌, ◌%◌, ℤ, pos, ◌+ℤ◌, Bool, true, false, if◌then◌else◌, List, [], ◌∷◌, ◌++◌, map, length, get_or, refl}
use Rattle.std.proofs.Common.{sym, ap, ◌∙◌, arith}
use Rattle.std.proofs.lemmas.List.{map-append}
use Rattle.std.proofs.lemmas.Int.{ints}
use Rattle.ttx_page.specs.Packets.{packet_of}
use Rattle.ttx_page.specs.declared.selection.Selection.{Selection}
use Rattle.ttx_page.specs.declared.item.Item.{Item}
use Rattle.ttx_page.specs.declared.class.Class.TheVariants.{Any}
use Rattle.ttx_page.specs.Memories.{Memory}
use Rattle.ttx_page.specs.Receivers.{older, has_choice}
use Rattle.ttx_page.specs.Streams.{Stream, repeated}
use Rattle.ttx_receiver.specs.Starving.{heard, is_received_wrong, careful_after, starved_memory, starved_hits, starved_choices}
use Rattle.ttx_counter.specs.Counters.{Hit}
use Rattle.ttx_counter.specs.StarvingRuns.{hit_at}

one_more : (n : ℕ) → suc n ≡ n + 1
one_more n = omega arith

-- the slot of a run in the cycle
pub slot_of_run : (cycle : List (List ℕ)) (start i at : ℕ) → at ≡ (start + i) % length cycle → get_or cycle at []
    ≡ repeated cycle (pos start +ℤ pos i)
slot_of_run cycle start i at e =
    let p : pos (start + i) ≡ pos start +ℤ pos i = omega (arith, ints) in
    ap (λ x. get_or cycle x []) e ∙ ap (λ z. repeated cycle z) p

module _ (lines : ℕ) (sel : Selection) (item : Item) (s : Stream) (tau : ℤ) (former : Memory) where
  abbrev mem : ℕ → Memory
  mem n = starved_memory lines sel item s tau former n

  pub memory_begins : former ≡ mem 0
  unfolding starved_memory
  memory_begins = refl

  pub hits_begin : (hits : List Hit) → hits ≡ [] → hits ≡ map (hit_at item) (starved_hits lines sel item s tau former 0)
  unfolding starved_hits
  hits_begin hits e = e

  pub choices_begin : (choices : List Bool) → choices ≡ [] → choices ≡ starved_choices lines sel item s tau former 0
  unfolding starved_choices
  choices_begin choices e = e

  memory_next : (n : ℕ) → mem (suc n) ≡ careful_after lines sel (mem n) (heard lines sel item (mem n) (s (tau +ℤ pos n)))
  unfolding starved_memory
  memory_next n = refl

  hits_next : (n : ℕ) → starved_hits lines sel item s tau former (suc n)
      ≡ (if is_received_wrong lines sel item (mem n) (s (tau +ℤ pos n)) then starved_hits lines sel item s tau former n ++ n ∷ []
      else starved_hits lines sel item s tau former n)
  unfolding starved_hits
  hits_next n = refl

  choices_next : (n : ℕ) → starved_choices lines sel item s tau former (suc n)
      ≡ (if has_choice Any lines sel (older (mem n)) (packet_of (heard lines sel item (mem n) (s (tau +ℤ pos n))))
      then starved_choices lines sel item s tau former n ++ true ∷ [] else starved_choices lines sel item s tau former n)
  unfolding starved_choices
  choices_next n = refl

  module _ (n : ℕ) (m : Memory) (slot : List ℕ) (is : m ≡ mem n) (sent : slot ≡ s (tau +ℤ pos n)) where
    pub memory_more : (new : Memory) → new ≡ careful_after lines sel m (heard lines sel item m slot) → new ≡ mem (n + 1)
    memory_more new e =
        e ∙ ap (λ x. careful_after lines sel x (heard lines sel item x slot)) is
        ∙ ap (λ x. careful_after lines sel (mem n) (heard lines sel item (mem n) x)) sent
        ∙ sym (memory_next n) ∙ ap mem (one_more n)

    pub hits_more : (hits new : List Hit) (hit : Bool) → hits ≡ map (hit_at item) (starved_hits lines sel item s tau former n) → hit
        ≡ is_received_wrong lines sel item m slot →
        new ≡ (if hit then hits ++ hit_at item n ∷ [] else hits) → new ≡ map (hit_at item) (starved_hits lines sel item s tau former (n + 1))
    hits_more hits new hit was h e =
        let old = starved_hits lines sel item s tau former n in
        let test = is_received_wrong lines sel item (mem n) (s (tau +ℤ pos n)) in
        let same : hit ≡ test = h ∙ ap (λ x. is_received_wrong lines sel item x slot) is
        ∙ ap (λ x. is_received_wrong lines sel item (mem n) x) sent in
        e ∙ ap (λ x. if x then hits ++ hit_at item n ∷ [] else hits) same ∙ ap (λ x. if test then x ++ hit_at item n ∷ [] else x) was
        ∙ mapped test old ∙ ap (map (hit_at item)) (sym (hits_next n))
        ∙ ap (λ x. map (hit_at item) (starved_hits lines sel item s tau former x)) (one_more n)
      where
        mapped : (b : Bool) (old : List ℕ) → (if b then map (hit_at item) old ++ hit_at item n ∷ [] else map (hit_at item) old)
            ≡ map (hit_at item) (if b then old ++ n ∷ [] else old)
        mapped true old = sym (map-append (hit_at item) old (n ∷ []))
        mapped false old = refl

    pub choices_more : (choices new : List Bool) (choice : Bool) → choices ≡ starved_choices lines sel item s tau former n →
        choice ≡ has_choice Any lines sel (older m) (packet_of (heard lines sel item m slot)) →
        new ≡ (if choice then choices ++ true ∷ [] else choices) → new ≡ starved_choices lines sel item s tau former (n + 1)
    choices_more choices new choice was h e =
        let test = has_choice Any lines sel (older (mem n)) (packet_of (heard lines sel item (mem n) (s (tau +ℤ pos n)))) in
        let same : choice ≡ test =
        h ∙ ap (λ x. has_choice Any lines sel (older x) (packet_of (heard lines sel item x slot))) is
        ∙ ap (λ x. has_choice Any lines sel (older (mem n)) (packet_of (heard lines sel item (mem n) x))) sent in
        e ∙ ap (λ x. if x then choices ++ true ∷ [] else choices) same ∙ ap (λ x. if test then x ++ true ∷ [] else x) was
        ∙ sym (choices_next n) ∙ ap (starved_choices lines sel item s tau former) (one_more n)
