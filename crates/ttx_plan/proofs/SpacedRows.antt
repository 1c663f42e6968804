-- Each row and X/27/0 comes more than a field after its header. In a serial cycle no header of any magazine comes between.
use Rattle.std.proofs.Common.{◌≡◌, ℕ, zero, suc, ◌+◌, ◌-◌, ◌<◌, Bool, true, false, not, ◌&&◌, cond, eqb, List, [], ◌∷◌, ◌++◌, map, length, take}
use Rattle.std.proofs.Common.{get_or, replicate}
use Rattle.std.proofs.Common.{Option, Some, None, drop, refl, sym, ap, ◌∙◌, subst, inl, inr, arith, append_assoc}
use Rattle.std.specs.Prelude.{flat_map}
use Rattle.std.specs.List.{list_any}
use Rattle.std.proofs.lemmas.Bool.{cases_lt, eq-eqb, not-true, or_parts, and_from, and_right}
use Rattle.std.proofs.lemmas.List.{get_or_at, get_or_append_left, get_or_past, get_or-drop}
use Rattle.ttx_plan.specs.declared.packet.Packet.{Packet}
use Rattle.ttx_plan.specs.declared.packet.Kind.{Kind}
use Rattle.ttx_plan.specs.declared.packet.Kind.TheVariants.{PageHeader, RowOrLinks, TimeFilling}
use Rattle.ttx_plan.specs.declared.packet.Slot.{Slot}
use Rattle.ttx_plan.specs.declared.packet.Slot.TheVariants.{Empty, Info, Sent}
use Rattle.ttx_plan.specs.Blocks.{Block, rest_packet, used_queues, time_filling_packet}
use Rattle.ttx_plan.specs.Packets.{has_header, is_page_header, is_row_or_links}
use Rattle.ttx_plan.specs.Serial.{serial_page, serial_block, serial_list, info_if, with_info, serial_slots}
use Rattle.ttx_plan.specs.Turns.{Magazines, waits, may_go, KeepsTurns, is_info_due, missing}
use Rattle.ttx_plan.proofs.CursorsLookBack.{IsFrom, turn_from_queues}
use Rattle.ttx_plan.proofs.QueueSlots.{heads, timed, timed_length}

-- slot j holds a row or X/27/0 whose magazine has its latest header in slot i
pub record IsUnder (slots : List Slot) (m i j : ℕ) : Type 0 where
  pub header : Packet
  pub packet : Packet
  pub header_at : get_or slots i Empty ≡ Sent m header
  pub opens : is_page_header header.kind ≡ true
  pub packet_at : get_or slots j Empty ≡ Sent m packet
  pub late : is_row_or_links packet.kind ≡ true
  pub earlier : i < j
  pub none_between : (k : ℕ) → i < k → k < j → heads m (get_or slots k Empty) ≡ false

abbrev pub AreSpaced : ℕ → Bool → List Slot → Type 0
AreSpaced lines serial slots = (m i j : ℕ) → IsUnder slots m i j →
    (i + lines < j) × (serial ≡ true → (k n : ℕ) → i < k → k < j → heads n (get_or slots k Empty) ≡ false)

-- filling changes nothing
pub filled_at : (slots : List Slot) (n i : ℕ) → get_or (slots ++ replicate n Empty) i Empty ≡ get_or slots i Empty
filled_at [] zero i = refl
filled_at [] (suc n) zero = refl
filled_at [] (suc n) (suc i) = filled_at [] n i
filled_at (slot ∷ slots) n zero = refl
filled_at (slot ∷ slots) n (suc i) = filled_at slots n i

pub filled_spaced : (lines : ℕ) (serial : Bool) (slots : List Slot) (n : ℕ) → AreSpaced lines serial slots →
    AreSpaced lines serial (slots ++ replicate n Empty)
filled_spaced lines serial slots n spaced m i j u =
    let s = spaced m i j (record {
      header = u.header;
      packet = u.packet;
      header_at = sym (filled_at slots n i) ∙ u.header_at;
      opens = u.opens;
      packet_at = sym (filled_at slots n j) ∙ u.packet_at;
      late = u.late;
      earlier = u.earlier;
      none_between = λ k low high. ap (heads m) (sym (filled_at slots n k)) ∙ u.none_between k low high;
    }) in
    (s.0, λ is k q low high. ap (heads q) (filled_at slots n k) ∙ s.1 is k q low high)

not_both : (kind : Kind) → is_page_header kind ≡ true → is_row_or_links kind ≡ false
not_both PageHeader e = refl
not_both RowOrLinks e = cc
not_both TimeFilling e = refl

-- ---- serial transmission: the magazine of the latest header, and how many slots ago it came, packets 8/30 aside

module _ (lines : ℕ) where
  abbrev Follows : ℕ → ℕ → List Slot → Type 0
  Follows mag age [] = Unit {0}
  Follows mag age (Empty ∷ rest) = Follows mag (suc age) rest
  Follows mag age (Info bytes ∷ rest) = Follows mag age rest
  Follows mag age (Sent m p ∷ rest) = (is_row_or_links p.kind ≡ true → (m ≡ mag) × (lines < age))
      × Follows (cond (is_row_or_links p.kind) mag m) (cond (is_row_or_links p.kind) (suc age) 1) rest

  abbrev FollowsAny : List Slot → Type 0
  FollowsAny slots = (mag age : ℕ) → Follows mag age slots

  fields_follow : (mag age n : ℕ) (slots : List Slot) → Follows mag (age + n) slots → Follows mag age (replicate n Empty ++ slots)
  fields_follow mag age zero slots f = let e : age + 0 ≡ age = omega arith in subst (λ x. Follows mag x slots) e f
  fields_follow mag age (suc n) slots f = let e : age + suc n ≡ suc age + n = omega arith
      in fields_follow mag (suc age) n slots (subst (λ x. Follows mag x slots) e f)

  rows_follow : (queue age : ℕ) (rows : List (List ℕ)) (slots : List Slot) → lines < age → FollowsAny slots →
      Follows queue age (map (λ bytes. Sent queue (rest_packet bytes)) rows ++ slots)
  rows_follow queue age [] slots lt f = f queue age
  rows_follow queue age (x ∷ rows) slots lt f = (λ late. (refl, lt), rows_follow queue (suc age) rows slots (omega arith) f)

  apart : true ≡ false → ⊥
  apart e = cc

  block_follows : (block : Block) (slots : List Slot) → FollowsAny slots → FollowsAny (serial_block lines block ++ slots)
  block_follows block slots f = by block.filler
    where
      rows : List Slot
      rows = map (λ bytes. Sent block.queue (rest_packet bytes)) block.rest

      page : FollowsAny (serial_page lines block ++ slots)
      page mag age = (
        λ late. absurd (apart (sym late)),
        subst (Follows block.queue 1) (sym (append_assoc (replicate lines Empty) rows slots))
            (fields_follow block.queue 1 lines (rows ++ slots) (rows_follow block.queue (1 + lines) block.rest slots (omega arith) f)),
      )

      by : (b : Bool) →
          FollowsAny ((map (Sent block.queue) (cond b (time_filling_packet true block.queue ∷ []) []) ++ serial_page lines block) ++ slots)
      by true mag age = (λ late. absurd (apart (sym late)), page block.queue 1)
      by false mag age = page mag age

  blocks_follow : (sent : List Block) (slots : List Slot) → FollowsAny slots → FollowsAny (flat_map (serial_block lines) sent ++ slots)
  blocks_follow [] slots f = f
  blocks_follow (block ∷ sent) slots f = λ mag age.
      subst (Follows mag age) (sym (append_assoc (serial_block lines block) (flat_map (serial_block lines) sent) slots))
      (block_follows block (flat_map (serial_block lines) sent ++ slots) (blocks_follow sent slots f) mag age)

  fillers_follow : (queues : List ℕ) → FollowsAny (map (λ m. Sent m (time_filling_packet true m)) queues)
  fillers_follow [] mag age = tt
  fillers_follow (m ∷ queues) mag age = (λ late. absurd (apart (sym late)), fillers_follow queues m 1)

  informed_follows : (info : Option (List ℕ)) (mag age at : ℕ) (slots : List Slot) → Follows mag age slots →
      Follows mag age (with_info lines info at slots)
  informed_follows info mag age at [] f = tt
  informed_follows info mag age at (slot ∷ slots) f =
      first info (is_info_due lines at)
      (step slot f (λ g a h. informed_follows info g a (at + length (info_if info (is_info_due lines at)) + 1) slots h))
    where
      next : List Slot
      next = with_info lines info (at + length (info_if info (is_info_due lines at)) + 1) slots

      first : (o : Option (List ℕ)) (due : Bool) → Follows mag age (slot ∷ next) → Follows mag age (info_if o due ++ slot ∷ next)
      first None due f = f
      first (Some bytes) true f = f
      first (Some bytes) false f = f

      step : (s : Slot) → Follows mag age (s ∷ slots) → ((g a : ℕ) → Follows g a slots → Follows g a next) → Follows mag age (s ∷ next)
      step Empty f again = again mag (suc age) f
      step (Info bytes) f again = again mag age f
      step (Sent m p) f again = (f.0, again _ _ f.1)

  abbrev IsFirst : ℕ → ℕ → ℕ → ℕ → List Slot → Type 0
  IsFirst m mag age j slots = (m ≡ mag) × (lines < age + j) × ((k n : ℕ) → k < j → heads n (get_or slots k Empty) ≡ false)

  -- a row or X/27/0 before the first header of its magazine
  follows_on : (mag age : ℕ) (slots : List Slot) → Follows mag age slots → (j m : ℕ) (p : Packet) → get_or slots j Empty ≡ Sent m p →
      is_row_or_links p.kind ≡ true → ((k : ℕ) → k < j → heads m (get_or slots k Empty) ≡ false) → IsFirst m mag age j slots
  follows_on mag age [] f j m p e late none = let g : Empty ≡ Sent m p = e in cc
  follows_on mag age (slot ∷ slots) f zero m p e late none =
      let r = (subst (λ s. Follows mag age (s ∷ slots)) e f).0 late in
      (r.0, omega (arith, r.1), λ k n lt. absurd (omega arith))
  follows_on mag age (slot ∷ slots) f (suc j) m p e late none = by slot f (none 0 (omega arith))
      (λ g a h. follows_on g a slots h j m p e late (λ k lt. none (suc k) (omega arith)))
    where
      quiet : (s : Slot) → ((n : ℕ) → heads n s ≡ false) → ((k n : ℕ) → k < j → heads n (get_or slots k Empty) ≡ false) →
          (k n : ℕ) → k < suc j → heads n (get_or (s ∷ slots) k Empty) ≡ false
      quiet s off later zero n lt = off n
      quiet s off later (suc k) n lt = later k n (omega arith)

      sent : (n : ℕ) (x : Packet) (b : Bool) → is_row_or_links x.kind ≡ b → heads m (Sent n x) ≡ false →
          IsFirst m (cond b mag n) (cond b (suc age) 1) j slots → IsFirst m mag age (suc j) (Sent n x ∷ slots)
      sent n x true l off r = (r.0, omega (arith, r.1), quiet (Sent n x) (λ q. and_right (eqb n q) _ (ap not l)) r.2)
      sent n x false l off r = absurd (apart (sym (and_from _ _ (eq-eqb n m (sym r.0)) (ap not l)) ∙ off))

      by : (s : Slot) → Follows mag age (s ∷ slots) → heads m s ≡ false → ((g a : ℕ) → Follows g a slots → IsFirst m g a j slots) →
          IsFirst m mag age (suc j) (s ∷ slots)
      by Empty f off again = let r = again mag (suc age) f in (r.0, omega (arith, r.1), quiet Empty (λ n. refl) r.2)
      by (Info bytes) f off again = let r = again mag age f in (r.0, omega (arith, r.1), quiet (Info bytes) (λ n. refl) r.2)
      by (Sent n x) f off again = sent n x (is_row_or_links x.kind) refl off (again _ _ f.1)

  -- the slots after a header
  follows_after : (mag age : ℕ) (slots : List Slot) → Follows mag age slots → (i m : ℕ) (h : Packet) → get_or slots i Empty ≡ Sent m h →
      is_row_or_links h.kind ≡ false → Follows m 1 (drop (suc i) slots)
  follows_after mag age [] f i m h e early = let g : Empty ≡ Sent m h = e in cc
  follows_after mag age (slot ∷ slots) f zero m h e early =
      subst (λ b. Follows (cond b mag m) (cond b (suc age) 1) slots) early (subst (λ s. Follows mag age (s ∷ slots)) e f).1
  follows_after mag age (Empty ∷ slots) f (suc i) m h e early = follows_after mag (suc age) slots f i m h e early
  follows_after mag age (Info bytes ∷ slots) f (suc i) m h e early = follows_after mag age slots f i m h e early
  follows_after mag age (Sent n x ∷ slots) f (suc i) m h e early = follows_after _ _ slots f.1 i m h e early

  follows_spaced : (slots : List Slot) → Follows 0 0 slots → AreSpaced lines true slots
  follows_spaced slots f m i j u =
      let at : (k : ℕ) → i < k → get_or (drop (suc i) slots) (k - suc i) Empty ≡ get_or slots k Empty = λ k lt.
      let e : suc i + (k - suc i) ≡ k = omega arith in get_or-drop (suc i) slots (k - suc i) Empty ∙ ap (λ x. get_or slots x Empty) e in
      let r = follows_on m 1 (drop (suc i) slots) (follows_after 0 0 slots f i m u.header u.header_at (not_both u.header.kind u.opens)) (j - suc i) m
      u.packet (at j u.earlier ∙ u.packet_at) u.late
      (λ k lt. ap (heads m) (get_or-drop (suc i) slots k Empty) ∙ u.none_between (suc i + k) (omega arith) (omega (arith, u.earlier))) in
      (omega (arith, r.1, u.earlier), λ is k n low high. ap (heads n) (sym (at k low)) ∙ r.2 (k - suc i) n (omega arith))

pub serial_spaced : (lines : ℕ) (info : Option (List ℕ)) (sent : List Block) → AreSpaced lines true (serial_slots lines info sent)
serial_spaced lines info sent =
    let laid = with_info lines info 0 (serial_list lines sent) in
    filled_spaced lines true laid (missing lines (length laid)) (follows_spaced lines laid (informed_follows lines info 0 0 0 (serial_list lines sent)
    (blocks_follow lines sent (map (λ m. Sent m (time_filling_packet true m)) (used_queues sent)) (fillers_follow lines (used_queues sent)) 0 0)))

-- ---- parallel transmission

at_last : (slot : Slot) (before : List Slot) (j : ℕ) → j ≡ length before → get_or (timed before ++ slot ∷ []) j Empty ≡ slot
at_last slot before j e = get_or_at (timed before) slot [] Empty j (timed_length before ∙ sym e)

at_older : (slot : Slot) (before : List Slot) (j : ℕ) → j < length before → get_or (timed before ++ slot ∷ []) j Empty ≡ get_or (timed before) j Empty
at_older slot before j lt = get_or_append_left (timed before) (slot ∷ []) Empty j (omega (arith, timed_length before))

-- no header of a block in the last slots
recent : (m lines : ℕ) (before : List Slot) (i : ℕ) (h : Packet) → get_or (timed before) i Empty ≡ Sent m h → is_page_header h.kind ≡ true →
    list_any (has_header m) (take lines before) ≡ false → i < length before → i + lines < length before
recent m zero before i h e opens none lt = omega arith
recent m (suc n) [] i h e opens none lt = absurd (omega arith)
recent m (suc n) (slot ∷ before) i h e opens none lt =
    let two = or_parts (has_header m slot) (list_any (has_header m) (take n before)) none in
    elim (cases_lt i (length before)) as (λ _. i + suc n < suc (length before)) [
      | inl less ↦ let r : i + n < length before = recent m n before i h (sym (at_older slot before i less) ∙ e) opens two.1 less in omega arith
      | inr more ↦
          let is : slot ≡ Sent m h = sym (at_last slot before i (omega arith)) ∙ e in
          absurd (apart 0 (sym (and_from _ _ (eq-eqb m m refl) opens) ∙ ap (has_header m) (sym is) ∙ two.0))
    ]

-- a row or X/27/0 waits for a field
aged : (mags : Magazines) (before : List Slot) (m : ℕ) (p : Packet) → IsFrom mags before (Sent m p) → is_row_or_links p.kind ≡ true →
    list_any (has_header m) (take mags.lines before) ≡ false
aged mags before m p from late =
    sym (ap (λ b. b && list_any (has_header m) (take mags.lines before)) late)
    ∙ not-true (waits mags m before p) (ap (may_go mags m before) (sym from.1) ∙ from.2)

turns_spaced : (mags : Magazines) (before : List Slot) → KeepsTurns mags before → (m i j : ℕ) → IsUnder (timed before) m i j → j < length before →
    i + mags.lines < j
turns_spaced mags [] t m i j u lt = absurd (omega arith)
turns_spaced mags (slot ∷ before) t m i j u lt =
    let small : i < length before = omega (arith, u.earlier) in
    let header_at : get_or (timed before) i Empty ≡ Sent m u.header = sym (at_older slot before i small) ∙ u.header_at in
    elim (cases_lt j (length before)) as (λ _. i + mags.lines < j) [
      | inl less ↦ turns_spaced mags before t.1 m i j (record {
        header = u.header;
        packet = u.packet;
        header_at = header_at;
        opens = u.opens;
        packet_at = sym (at_older slot before j less) ∙ u.packet_at;
        late = u.late;
        earlier = u.earlier;
        none_between = λ k low high. ap (heads m) (sym (at_older slot before k (omega arith))) ∙ u.none_between k low high;
      }) less
      | inr more ↦
          let is : slot ≡ Sent m u.packet = sym (at_last slot before j (omega arith)) ∙ u.packet_at in
          let from = subst (IsFrom mags before) (sym t.0 ∙ is) (turn_from_queues mags before) in
          let r : i + mags.lines < length before = recent m mags.lines before i u.header header_at u.opens
          (aged mags before m u.packet from u.late) small in
          omega arith
    ]

pub parallel_spaced : (mags : Magazines) (before : List Slot) (n : ℕ) → KeepsTurns mags before →
    AreSpaced mags.lines false (timed before ++ replicate n Empty)
parallel_spaced mags before n t = filled_spaced mags.lines false (timed before) n (λ m i j u.
    (turns_spaced mags before t m i j u (within m j u.packet u.packet_at), λ is. absurd (apart 0 (sym is))))
  where
    within : (m j : ℕ) (p : Packet) → get_or (timed before) j Empty ≡ Sent m p → j < length before
    within m j p e = elim (cases_lt j (length before)) as (λ _. j < length before) [
      | inl lt ↦ lt
      | inr ge ↦ let f : Empty ≡ Sent m p = sym (get_or_past (timed before) j Empty (omega (arith, timed_length before))) ∙ e in cc
    ]
