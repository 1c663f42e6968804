-- What is kept of the streaks of all text bytes of a page while slots pass: for each row the number of slots up to its latest
-- transmission, and for each of its bytes the same for its latest wrong transmission, with the length of that streak.
--
--   is_text, IsTextByteOf    the bytes of rows that are text, row 0 being that of headers
--   cell_at, streak_of      what is kept of a byte
--   running                 the length of a byte's streak; the number is that of its row's latest transmission
--   AreCounted, IsStreakReached    the wrong bytes of one transmission are counted; one of them makes a streak of k
--   is_row, TellsSlot       what is sent and wrong in one slot
--   AreStreaks, IsBroken    what is kept of n slots; a streak of k
use Rattle.std.specs.Prelude.{◌≡◌, ℕ, suc, ◌+◌, ◌*◌, ◌<◌, ◌≤◌, Bool, true, false, ◌&&◌, ◌==◌, if◌then◌else◌, nat_le, nat_lt, List, slice_index}
use Rattle.std.specs.Prelude.{slice_index_or, Option, Some, None}
use Rattle.ttx_counter.specs.Keys.{key_at, byte_in}
use Rattle.ttx_counter.specs.Streaks.{streak_to}
use Rattle.ttx_counter.specs.declared.streaks.Streak.{Streak}

abbrev pub is_text : ℕ → ℕ → Bool
is_text r x = if r == 0 then nat_le 10 x && nat_lt x 34 else nat_le 2 x && nat_lt x 42

abbrev pub streak_of : ℕ → ℕ → Streak
streak_of last count = record { last = last; count = count }

abbrev pub cell_at : List Streak → ℕ → ℕ → Streak
cell_at cells r x = slice_index_or cells (42 * r + x) (streak_of 0 0)

-- a streak ends with a transmission in which the byte is right
abbrev pub running : ℕ → Streak → ℕ
running latest cell = if cell.last == latest then cell.count else 0

-- each byte that is hit continues its streak, which stays below k; all others are unchanged
pub record AreCounted (row latest now k : ℕ) (keys : List ℕ) (from to : ℕ) (old new : List Streak) : Type 0 where
  pub hit : (i : ℕ) → from ≤ i → i < to → is_text row (byte_in (key_at keys i)) ≡ true →
      (cell_at new row (byte_in (key_at keys i)) ≡ streak_of now (suc (running latest (cell_at old row (byte_in (key_at keys i))))))
      × (suc (running latest (cell_at old row (byte_in (key_at keys i)))) < k)
  pub other : (q : ℕ) → ((i : ℕ) → from ≤ i → i < to → is_text row (byte_in (key_at keys i)) ≡ true → 42 * row + byte_in (key_at keys i) ≡ q → ⊥) →
      slice_index_or new q (streak_of 0 0) ≡ slice_index_or old q (streak_of 0 0)

pub record IsStreakReached (row latest k : ℕ) (keys : List ℕ) (from to : ℕ) (old : List Streak) : Type 0 where
  pub key : ℕ
  pub after : from ≤ key
  pub before : key < to
  pub text : is_text row (byte_in (key_at keys key)) ≡ true
  pub long : k ≤ suc (running latest (cell_at old row (byte_in (key_at keys key))))

abbrev pub is_row : ℕ → Option ℕ → Bool
is_row r None = false
is_row r (Some row) = row == r

-- slot n sends this row, if any, and exactly the bytes of these keys are wrong in it
pub record TellsSlot (sent wrong : ℕ → ℕ → Bool) (row : Option ℕ) (keys : List ℕ) (from to n : ℕ) : Type 0 where
  pub sent_is : (r : ℕ) → r < 25 → sent r n ≡ is_row r row
  pub hit : (i : ℕ) → from ≤ i → i < to → wrong (byte_in (key_at keys i)) n ≡ true
  pub other : (x : ℕ) → x < 42 → ((i : ℕ) → from ≤ i → i < to → byte_in (key_at keys i) ≡ x → ⊥) → wrong x n ≡ false

pub record IsCell (streak latest : ℕ) (cell : Streak) : Type 0 where
  pub past : cell.last ≤ latest
  pub is : streak ≡ running latest cell

pub record AreStreaks (sent wrong : ℕ → ℕ → Bool) (k n : ℕ) (latest : List ℕ) (cells : List Streak) : Type 0 where
  pub past : (r : ℕ) → r < 25 → slice_index latest r ≤ n
  pub counted : (r x : ℕ) → r < 25 → is_text r x ≡ true → IsCell (streak_to (sent r) (wrong x) n) (slice_index latest r) (cell_at cells r x)
  pub below : (r x m : ℕ) → r < 25 → is_text r x ≡ true → m ≤ n → streak_to (sent r) (wrong x) m < k

pub record IsBroken (sent wrong : ℕ → ℕ → Bool) (k n : ℕ) : Type 0 where
  pub row : ℕ
  pub byte : ℕ
  pub inside : row < 25
  pub text : is_text row byte ≡ true
  pub long : k ≤ streak_to (sent row) (wrong byte) n

-- after one more slot: true, the streaks are those of n slots; false, one has reached k
abbrev pub StreaksAfter : Bool → (ℕ → ℕ → Bool) → (ℕ → ℕ → Bool) → ℕ → ℕ → List ℕ → List Streak → Type 0
StreaksAfter true sent wrong k n latest cells = AreStreaks sent wrong k n latest cells
StreaksAfter false sent wrong k n latest cells = IsBroken sent wrong k n
