-- What a starved receiver receives and chooses, as hits and as a script.
use Rattle.std.proofs.Common.{◌≡◌, ℕ, zero, suc, ◌+◌, ◌<◌, ℤ, pos, ◌+ℤ◌, Bool, true, false, List, [], ◌∷◌, ◌++◌, length, get_or, refl, sym, ap, ◌∙◌}
use Rattle.std.proofs.Common.{subst, inl, inr, arith, length-append, append_assoc}
use Rattle.std.specs.List.{Contains}
use Rattle.std.proofs.lemmas.Bool.{cases_lt, cases_Bool, cond_both, both_ways}
use Rattle.std.proofs.lemmas.List.{get_or_append_left, append-nil}
use Rattle.std.proofs.Math.Seq.{get_or-append_seam}
use Rattle.std.proofs.lemmas.List.Elements.{Contains-get_or, Contains-append_left, Contains-append_right, Contains-append_cases}
use Rattle.ttx_packet.specs.Slots.{is_empty}
use Rattle.ttx_page.specs.Packets.{packet_of}
use Rattle.ttx_page.specs.declared.selection.Selection.{Selection}
use Rattle.ttx_page.specs.declared.item.Item.{Item}
use Rattle.ttx_page.specs.declared.item.Item.TheVariants.{Head as TheHead, Row as TheRow, Links as TheLinks}
use Rattle.ttx_page.specs.declared.class.Class.TheVariants.{Any}
use Rattle.ttx_page.specs.Memories.{Memory}
use Rattle.ttx_page.specs.Receivers.{older, after, has_choice, next_choice, later_choices, scripted}
use Rattle.ttx_page.specs.Streams.{Stream}
use Rattle.ttx_page.specs.Laws.{ChoicesAreChoices}
use Rattle.ttx_receiver.specs.Starving.{spoilt, takes, heard, is_received_wrong, first_byte}
use Rattle.ttx_receiver.specs.Starving.{starved_memory, starved_slots, starved_hits, starved_choices}
use Rattle.ttx_receiver.specs.Starving.{StarvedIsScripted}
use Rattle.ttx_receiver.proofs.ReceivedPackets.{packet_empty}
use Rattle.ttx_receiver.proofs.StarvedUnder.{slot_at, takes_something}

-- the choices that a run leaves of a script
abbrev left : ℕ → Selection → List Bool → Memory → List (List ℕ) → List Bool
left lines sel script m [] = script
left lines sel script m (slot ∷ rest) =
    let has = has_choice Any lines sel (older m) (packet_of slot) in
    left lines sel (later_choices has script) (after Any lines sel (next_choice has script) (older m) (packet_of slot)) rest

module _ (lines : ℕ) (sel : Selection) where
  scripted_more : (script : List Bool) (m : Memory) (slots : List (List ℕ)) (slot : List ℕ) →
      let held = scripted Any lines sel script m slots in
      let has = has_choice Any lines sel (older held) (packet_of slot) in
      (scripted Any lines sel script m (slots ++ slot ∷ [])
      ≡ after Any lines sel (next_choice has (left lines sel script m slots)) (older held) (packet_of slot))
      × (left lines sel script m (slots ++ slot ∷ []) ≡ later_choices has (left lines sel script m slots))
  scripted_more script m [] slot = (refl, refl)
  scripted_more script m (first ∷ slots) slot =
      let has = has_choice Any lines sel (older m) (packet_of first) in
      scripted_more (later_choices has script) (after Any lines sel (next_choice has script) (older m) (packet_of first)) slots slot

hit_heard : (lines : ℕ) (sel : Selection) (item : Item) (m : Memory) (slot : List ℕ) → is_received_wrong lines sel item m slot ≡ true →
    (heard lines sel item m slot ≡ spoilt slot (first_byte item)) × (is_empty slot ≡ false)
hit_heard lines sel TheHead m slot h = (
  cond_both (takes lines sel TheHead (older m) (packet_of slot)) (spoilt slot 10) slot (λ y. y ≡ spoilt slot 10) (λ _. refl)
      (λ e. absurd (both_ways _ e h)),
  elim (cases_Bool (is_empty slot)) as (λ _. is_empty slot ≡ false)
      [ inl e ↦ absurd (takes_something lines sel TheHead (older m) (packet_of slot) h (packet_empty slot e)) | inr e ↦ e ],
)
hit_heard lines sel (TheRow r) m slot h = (
  cond_both (takes lines sel (TheRow r) (older m) (packet_of slot)) (spoilt slot 2) slot (λ y. y ≡ spoilt slot 2) (λ _. refl)
      (λ e. absurd (both_ways _ e h)),
  elim (cases_Bool (is_empty slot)) as (λ _. is_empty slot ≡ false)
      [ inl e ↦ absurd (takes_something lines sel (TheRow r) (older m) (packet_of slot) h (packet_empty slot e)) | inr e ↦ e ],
)
hit_heard lines sel TheLinks m slot h = absurd (both_ways false refl h)

unhit_heard : (lines : ℕ) (sel : Selection) (item : Item) (m : Memory) (slot : List ℕ) → is_received_wrong lines sel item m slot
    ≡ false → heard lines sel item m slot ≡ slot
unhit_heard lines sel TheHead m slot h = cond_both (takes lines sel TheHead (older m) (packet_of slot)) (spoilt slot 10) slot
    (λ y. y ≡ slot) (λ e. absurd (both_ways _ h e)) (λ _. refl)
unhit_heard lines sel (TheRow r) m slot h = cond_both (takes lines sel (TheRow r) (older m) (packet_of slot)) (spoilt slot 2) slot
    (λ y. y ≡ slot) (λ e. absurd (both_ways _ h e)) (λ _. refl)
unhit_heard lines sel TheLinks m slot h = refl

only_one : (n a : ℕ) → Contains (n ∷ []) a → n ≡ a
only_one n a (zero, lt, e) = e
only_one n a (suc k, lt, e) = absurd (omega arith)

rising_more : (xs : List ℕ) (n : ℕ) → ((i j : ℕ) → i < j → j < length xs → get_or xs i 0 < get_or xs j 0) →
    ((j : ℕ) → j < length xs → get_or xs j 0 < n) →
    (i j : ℕ) → i < j → j < length (xs ++ n ∷ []) → get_or (xs ++ n ∷ []) i 0 < get_or (xs ++ n ∷ []) j 0
rising_more xs n rising below i j lt inside =
    let long : length (xs ++ n ∷ []) ≡ length xs + 1 = length-append xs (n ∷ []) in
    let first : i < length xs = omega arith in
    let at_i : get_or (xs ++ n ∷ []) i 0 ≡ get_or xs i 0 = get_or_append_left xs (n ∷ []) 0 i first in
    elim (cases_lt j (length xs)) as (λ _. get_or (xs ++ n ∷ []) i 0 < get_or (xs ++ n ∷ []) j 0) [
      | inl less ↦
          let at_j : get_or (xs ++ n ∷ []) j 0 ≡ get_or xs j 0 = get_or_append_left xs (n ∷ []) 0 j less in
          let up = rising i j lt less in omega arith
      | inr ge ↦
          let e : length xs ≡ j = omega arith in
          let at_j : get_or (xs ++ n ∷ []) j 0 ≡ n = subst (λ x. get_or (xs ++ n ∷ []) x 0 ≡ n) e (get_or-append_seam xs n [] 0) in
          let up = below i first in omega arith
    ]

module _ (lines : ℕ) (sel : Selection) (item : Item) (s : Stream) (tau : ℤ) (former : Memory) where
  abbrev mem : ℕ → Memory
  mem t = starved_memory lines sel item s tau former t

  abbrev sent : ℕ → List ℕ
  sent t = s (tau +ℤ pos t)

  abbrev hits : ℕ → List ℕ
  hits n = starved_hits lines sel item s tau former n

  abbrev hit_at : ℕ → Bool
  hit_at t = is_received_wrong lines sel item (mem t) (sent t)

  -- the hits are the slots received with a wrong bit
  hits_are : (n t : ℕ) → Contains (hits n) t → (t < n) × (hit_at t ≡ true)
  unfolding starved_hits
  hits_are zero t c = absurd (let lt = c.1 in omega arith)
  hits_are (suc n) t c =
      cond_both (hit_at n) (hits n ++ n ∷ []) (hits n) (λ z. Contains z t → (t < suc n) × (hit_at t ≡ true))
      (λ e c. elim (Contains-append_cases (hits n) (n ∷ []) t c) as (λ _. (t < suc n) × (hit_at t ≡ true)) [
        | inl d ↦ let h = hits_are n t d in ((let lt = h.0 in omega arith), h.1)
        | inr d ↦ let same : n ≡ t = only_one n t d in ((omega arith), subst (λ x. hit_at x ≡ true) same e)
      ])
      (λ e c. let h = hits_are n t c in ((let lt = h.0 in omega arith), h.1)) c

  hits_have : (n t : ℕ) → t < n → hit_at t ≡ true → Contains (hits n) t
  unfolding starved_hits
  hits_have zero t lt h = absurd (omega arith)
  hits_have (suc n) t lt h =
      cond_both (hit_at n) (hits n ++ n ∷ []) (hits n) (λ z. Contains z t)
      (λ e. elim (cases_lt t n) as (λ _. Contains (hits n ++ n ∷ []) t) [
        | inl less ↦ Contains-append_left (hits n) (n ∷ []) t (hits_have n t less h)
        | inr ge ↦ let same : n ≡ t = omega arith in Contains-append_right (hits n) (n ∷ []) t (0, (omega arith), same)
      ])
      (λ e. elim (cases_lt t n) as (λ _. Contains (hits n) t) [
        | inl less ↦ hits_have n t less h
        | inr ge ↦ let same : t ≡ n = omega arith in absurd (both_ways _ e (subst (λ x. hit_at x ≡ true) same h))
      ])

  hits_rise : (n i j : ℕ) → i < j → j < length (hits n) → get_or (hits n) i 0 < get_or (hits n) j 0
  unfolding starved_hits
  hits_rise zero i j lt inside = absurd (omega arith)
  hits_rise (suc n) i j lt inside =
      cond_both (hit_at n) (hits n ++ n ∷ []) (hits n) (λ z. j < length z → get_or z i 0 < get_or z j 0)
      (λ e in_list. rising_more (hits n) n (hits_rise n)
      (λ k kt. (hits_are n (get_or (hits n) k 0) (Contains-get_or (hits n) k 0 kt)).0) i j lt in_list)
      (λ e in_list. hits_rise n i j lt in_list) inside

  -- the script gives the memory, and leaves what follows it in a longer script
  script_is : ChoicesAreChoices → (n : ℕ) (more : List Bool) → let script = starved_choices lines sel item s tau former n ++ more
      in let slots = starved_slots lines sel item s tau former n in
      (scripted Any lines sel script former slots ≡ mem n) × (left lines sel script former slots ≡ more)
  unfolding starved_choices starved_slots starved_memory
  script_is plain zero more = (refl, refl)
  script_is plain (suc n) more =
      cond_both has (before ++ true ∷ []) before
      (λ (z : List Bool). (scripted Any lines sel (z ++ more) former (slots ++ now ∷ []) ≡ new)
      × (left lines sel (z ++ more) former (slots ++ now ∷ []) ≡ more))
      (λ e. subst (λ z. (scripted Any lines sel z former (slots ++ now ∷ []) ≡ new)
      × (left lines sel z former (slots ++ now ∷ []) ≡ more)) (sym (append_assoc before (true ∷ []) more))
      (let i = script_is plain n (true ∷ more) in one_more true e (before ++ true ∷ more) (true ∷ more) i.0 i.1 refl refl))
      (λ e. let i = script_is plain n more in one_more false e (before ++ more) more i.0 i.1
      (sym (plain Any lines sel (older (mem n)) (packet_of now) e)) refl)
    where
      before : List Bool
      before = starved_choices lines sel item s tau former n

      slots : List (List ℕ)
      slots = starved_slots lines sel item s tau former n

      now : List ℕ
      now = heard lines sel item (mem n) (sent n)

      new : Memory
      new = after Any lines sel true (older (mem n)) (packet_of now)

      has : Bool
      has = has_choice Any lines sel (older (mem n)) (packet_of now)

      one_more : (b : Bool) → has ≡ b → (script rest : List Bool) → scripted Any lines sel script former slots ≡ mem n →
          left lines sel script former slots ≡ rest →
          after Any lines sel (next_choice b rest) (older (mem n)) (packet_of now) ≡ new → later_choices b rest ≡ more →
          (scripted Any lines sel script former (slots ++ now ∷ []) ≡ new) × (left lines sel script former (slots ++ now ∷ []) ≡ more)
      one_more b e script rest held over is later =
          let w = scripted_more lines sel script former slots now in
          let choice : has_choice Any lines sel (older (scripted Any lines sel script former slots)) (packet_of now) ≡ b =
          ap (λ x. has_choice Any lines sel (older x) (packet_of now)) held ∙ e in (
            w.0 ∙ ap (λ c. after Any lines sel (next_choice c (left lines sel script former slots))
                (older (scripted Any lines sel script former slots)) (packet_of now)) choice
                ∙ ap (λ x. after Any lines sel (next_choice b x) (older (scripted Any lines sel script former slots)) (packet_of now)) over
                ∙ ap (λ x. after Any lines sel (next_choice b rest) (older x) (packet_of now)) held ∙ is,
            w.1 ∙ ap (λ c. later_choices c (left lines sel script former slots)) choice ∙ ap (later_choices b) over ∙ later,
          )

pub starved_is_scripted : ChoicesAreChoices → StarvedIsScripted
starved_is_scripted plain lines sel item s tau former n = record {
  inside = λ t c. (hits_are lines sel item s tau former n t c).0;
  some = λ t c. (hit_heard lines sel item (mem lines sel item s tau former t) (s (tau +ℤ pos t)) (hits_are lines sel item s tau former n t c).1).1;
  hit = λ t c. let h = hits_are lines sel item s tau former n t c in
      slot_at lines sel item s tau former n t h.0 ∙ (hit_heard lines sel item (mem lines sel item s tau former t) (s (tau +ℤ pos t)) h.1).0;
  other = λ t lt no. slot_at lines sel item s tau former n t lt
      ∙ elim (cases_Bool (is_received_wrong lines sel item (mem lines sel item s tau former t) (s (tau +ℤ pos t)))) as
      (λ _. heard lines sel item (mem lines sel item s tau former t) (s (tau +ℤ pos t)) ≡ s (tau +ℤ pos t)) [
        | inl e ↦ absurd (no (hits_have lines sel item s tau former n t lt e))
        | inr e ↦ unhit_heard lines sel item (mem lines sel item s tau former t) (s (tau +ℤ pos t)) e
      ];
  rising = hits_rise lines sel item s tau former n;
  script = subst (λ z. scripted Any lines sel z former (starved_slots lines sel item s tau former n) ≡ mem lines sel item s tau former n)
      (append-nil (starved_choices lines sel item s tau former n)) (script_is lines sel item s tau former plain n []).0;
}
