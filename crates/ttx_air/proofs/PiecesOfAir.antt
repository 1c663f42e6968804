-- The pieces in which the air goes out.
use Rattle.std.proofs.Common.{◌≡◌, ℕ, suc, ◌+◌, ◌*◌, ◌/◌, ◌<◌, ◌≤◌, List, [], ◌∷◌, ◌++◌, length, take, map, Option, Err}
use Rattle.std.proofs.Common.{refl, sym, ap, ◌∙◌, subst, inl, arith, length-append, append_assoc, append-nil}
use Rattle.std.proofs.lemmas.Grind.{flat_map-append}
use Rattle.std.proofs.Math.Nat.{mul-add-div_right, div-lt_iff_lt-mul}
use Rattle.std.proofs.Math.Seq.{take-append-add}
use Rattle.std.proofs.KnownBytes.{Appends-nil, Appends-trans}
use Rattle.std.specs.Io.KnownBytes.{Appends}
use Rattle.ttx_cycle.specs.Files.{file_of}
use Rattle.ttx_send.specs.Times.{Moment}
use Rattle.ttx_send.specs.Airing.{Times, at_time, field_time}
use Rattle.ttx_playout.specs.Schedules.{Edition}
use Rattle.ttx_playout.specs.declared.state.OnAir.{OnAir}
use Rattle.ttx_air.specs.declared.airtime.Receivers.{Receivers}
use Rattle.ttx_air.specs.Newsrooms.{Candidate, News}
use Rattle.ttx_air.specs.declared.faults.AirFault.{AirFault}
use Rattle.ttx_air.specs.declared.faults.AirFault.TheVariants.{Start, NeverShown, TooFar, Write}
use Rattle.ttx_air.specs.Judgements.{IsServed, IsRefused}
use Rattle.ttx_air.specs.Endings.{Ending}
use Rattle.ttx_air.specs.LogLines.{Tick, tick, first_line, lines_of, end_line}
use Rattle.ttx_air.specs.Airings.{timed_from, air_of, Written, Logs, Scene, scene, Aired, Airtime, Airs}
use Rattle.ttx_air.specs.Entries.{Adds}
use Rattle.ttx_air.specs.Steps.{IsOpening, SoFar, SentMore}

-- ---- one slot more of a piece

one_more_bytes : (f : List ℕ → List ℕ) (xs : List (List ℕ)) (x : List ℕ) → file_of (map f (xs ++ x ∷ [])) ≡ file_of (map f xs) ++ f x
one_more_bytes f [] x = append-nil (f x)
one_more_bytes f (y ∷ xs) x = ap (λ l. f y ++ l) (one_more_bytes f xs x) ∙ sym (append_assoc (f y) (file_of (map f xs)) (f x))

module _ {N : Type 0} {gives : N → Edition → ℕ → News → N → Type 0} {receivers : Receivers} {times : Times} {lines started : ℕ} {first : Candidate}
    {gone : N} {begin : Written} where
  pub more_sent : {o o' : OnAir} {news news' : N} {log log' : Written} {slots : List (List ℕ)} {moment : Moment} {n : ℕ} {bytes : List ℕ}
      (bytes' slot : List ℕ) → (s : SentMore gives receivers times lines started first gone begin o news log slots moment n bytes) →
      (endings : List Ending) × SoFar gives receivers times lines started first gone begin o' news' log' endings ((slots ++ s.more) ++ slot ∷ []) →
      bytes' ≡ bytes ++ at_time moment slot → SentMore gives receivers times lines started first gone begin o' news' log' slots moment (n + 1) bytes'
  more_sent {o' = o'} {news' = news'} {log' = log'} {slots = slots} {moment = moment} bytes' slot s next is = record {
    past = next.0;
    more = s.more ++ slot ∷ [];
    so_far = subst (SoFar gives receivers times lines started first gone begin o' news' log' next.0) (append_assoc slots s.more (slot ∷ [])) next.1;
    long = length-append s.more (slot ∷ []) ∙ ap (λ m. m + 1) s.long;
    are_bytes = is ∙ ap (λ l. l ++ at_time moment slot) s.are_bytes ∙ sym (one_more_bytes (at_time moment) s.more slot);
  }

  pub nothing_more : {o : OnAir} {news : N} {log : Written} {past : List Ending} {slots : List (List ℕ)} (moment : Moment) →
      SoFar gives receivers times lines started first gone begin o news log past slots →
      SentMore gives receivers times lines started first gone begin o news log slots moment 0 []
  nothing_more {o} {news} {log} {past} {slots} moment so_far = record {
    past = past;
    more = [];
    so_far = subst (SoFar gives receivers times lines started first gone begin o news log past) (sym (append-nil slots)) so_far;
    long = refl;
    are_bytes = refl;
  }

  pub more_is : {o : OnAir} {news : N} {log : Written} {slots : List (List ℕ)} {moment : Moment} (n m : ℕ) (bytes : List ℕ) → n ≡ m →
      SentMore gives receivers times lines started first gone begin o news log slots moment n (take (42 * n) bytes) →
      SentMore gives receivers times lines started first gone begin o news log slots moment m (take (42 * m) bytes)
  more_is {o} {news} {log} {slots} {moment} n m bytes e s =
      subst (λ k. SentMore gives receivers times lines started first gone begin o news log slots moment k (take (42 * k) bytes)) e s

-- ---- the times of a piece

pub timed-append : (times : Times) (lines k : ℕ) (xs ys : List (List ℕ)) →
    timed_from times lines k (xs ++ ys) ≡ timed_from times lines k xs ++ timed_from times lines (k + length xs) ys
timed-append times lines k [] ys = let e : k ≡ k + 0 = omega arith in ap (λ m. timed_from times lines m ys) e
timed-append times lines k (x ∷ xs) ys =
    let e : suc k + length xs ≡ k + suc (length xs) = omega arith in
    ap (λ l. at_time (field_time times (k / lines)) x ∷ l)
    (timed-append times lines (suc k) xs ys ∙ ap (λ m. timed_from times lines (suc k) xs ++ timed_from times lines m ys) e)

module _ (times : Times) (lines field m : ℕ) (some : 0 < lines) (second : (n : ℕ) → n < m → (field + n) / 50 ≡ field / 50) where
  timed_inside : (j : ℕ) (xs : List (List ℕ)) → j + length xs ≤ m * lines →
      timed_from times lines (field * lines + j) xs ≡ map (at_time (field_time times field)) xs
  timed_inside j [] fits = refl
  timed_inside j (x ∷ xs) fits =
      let at : (field * lines + j) / lines ≡ field + j / lines = mul-add-div_right some field j in
      let lt : j / lines < m = (div-lt_iff_lt-mul some).1 (omega (arith, fits)) in
      let e : suc (field * lines + j) ≡ field * lines + suc j = omega arith in
      let head = ap (field_time times) at ∙ ap times (second (j / lines) lt) in
      ap (λ t. at_time t x ∷ timed_from times lines (suc (field * lines + j)) xs) head
      ∙ ap (λ k. at_time (field_time times field) x ∷ timed_from times lines k xs) e
      ∙ ap (λ l. at_time (field_time times field) x ∷ l) (timed_inside (suc j) xs (omega (arith, fits)))

  pub piece_timed : (xs : List (List ℕ)) → length xs ≡ m * lines → timed_from times lines (field * lines) xs ≡ map (at_time (field_time times field)) xs
  piece_timed xs long =
      let e : field * lines ≡ field * lines + 0 = omega arith in
      ap (λ k. timed_from times lines k xs) e ∙ timed_inside 0 xs (omega (arith, long))

-- ---- the air so far

pub record AirSoFar {N : Type 0} (gives : N → Edition → ℕ → News → N → Type 0) (receivers : Receivers) (times : Times) (lines started : ℕ)
    (first : Candidate) (gone : N) (begin : Written) (o : OnAir) (news : N) (log : Written) (before after : Option (List ℕ)) (count : ℕ) : Type 0 where
  pub past : List Ending
  pub slots : List (List ℕ)
  pub so_far : SoFar gives receivers times lines started first gone begin o news log past slots
  pub long : length slots ≡ count
  pub size : length (air_of times first.edition slots) ≡ 42 * count
  pub bytes : Appends before after (air_of times first.edition slots)

pub opening_at : {receivers : Receivers} {t u : Tick} {first : Candidate} {old new : Written} {o : OnAir} → t ≡ u →
    IsOpening receivers t first old new o → IsOpening receivers u first old new o
opening_at {receivers} {t} {u} {first} {old} {new} {o} e opening = subst (λ s. IsOpening receivers s first old new o) e opening

pub nothing_sent : {N : Type 0} {gives : N → Edition → ℕ → News → N → Type 0} {receivers : Receivers} {times : Times} {first : Candidate} {begin log : Written} {o : OnAir}
    (news : N) (lines started : ℕ) (before : Option (List ℕ)) → IsOpening receivers (tick times 0) first begin log o →
    lines ≡ first.edition.certificate.lines → started ≡ begin.faults →
    AirSoFar gives receivers times lines started first news begin o news log before before 0
nothing_sent {N} {gives} {receivers} {times} {first} {begin} {log} {o} news lines started before opening is_lines is_started = record {
  past = [];
  slots = [];
  so_far = record {
    aired = record {
      sent = opening.on_air;
      current = opening.start.0;
      held = opening.start.2;
      place = omega (arith, opening.start.1);
      endings = tt;
      answers = refl;
    };
    lines = is_lines;
    faults = sym is_started;
    logged = subst (Logs begin log) (sym (append-nil (first_line (tick times 0) first.mark first.edition)))
        (opening.line.further begin [] refl (inl (refl, Appends-nil begin.bytes)));
  };
  long = refl;
  size = refl;
  bytes = Appends-nil before;
}

module _ {N : Type 0} {gives : N → Edition → ℕ → News → N → Type 0} {receivers : Receivers} {times : Times} {lines started : ℕ} {first : Candidate} {gone : N}
    {begin : Written} {o o' : OnAir} {news news' : N} {log log' : Written} {before w : Option (List ℕ)} {number count : ℕ}
    {part : List ℕ} {moment : Moment} (w' : Option (List ℕ)) (field m : ℕ)
    (s : AirSoFar gives receivers times lines started first gone begin o news log before w number)
    (some : 0 < lines) (is_number : number ≡ field * lines) (is_count : count ≡ m * lines)
    (second : (n : ℕ) → n < m → (field + n) / 50 ≡ field / 50) (is_moment : moment ≡ field_time times field)
    (piece : SentMore gives receivers times lines started first gone begin o' news' log' s.slots moment count part) (size : length part ≡ 42 * count) where
  air_more : air_of times first.edition (s.slots ++ piece.more) ≡ air_of times first.edition s.slots ++ part
  air_more =
      let n = first.edition.certificate.lines in
      let long : length s.slots ≡ field * lines = s.long ∙ is_number in
      let timed : timed_from times lines (length s.slots) piece.more ≡ map (at_time moment) piece.more =
      ap (λ k. timed_from times lines k piece.more) long ∙ piece_timed times lines field m some second piece.more (piece.long ∙ is_count)
      ∙ ap (λ t. map (at_time t) piece.more) (sym is_moment)
      in
      ap file_of (timed-append times n 0 s.slots piece.more)
      ∙ flat_map-append (λ slot. slot) (timed_from times n 0 s.slots) (timed_from times n (0 + length s.slots) piece.more)
      ∙ ap (λ l. air_of times first.edition s.slots ++ l)
      ((let z : 0 + length s.slots ≡ length s.slots = omega arith in ap (λ k. file_of (timed_from times n k piece.more)) z)
      ∙ ap (λ k. file_of (timed_from times k (length s.slots) piece.more)) (sym s.so_far.lines) ∙ ap file_of timed ∙ sym piece.are_bytes)

  pub air_so_far_more : Appends w w' part → AirSoFar gives receivers times lines started first gone begin o' news' log' before w' (number + count)
  air_so_far_more out = record {
    past = piece.past;
    slots = s.slots ++ piece.more;
    so_far = piece.so_far;
    long = length-append s.slots piece.more ∙ (λ i. s.long i + piece.long i);
    size = omega (arith, ap length air_more, length-append (air_of times first.edition s.slots) part, s.size, size);
    bytes = subst (Appends before w') (sym air_more) (Appends-trans before w w' (air_of times first.edition s.slots) part s.bytes out);
  }

  -- a write failed
  module _ (served : IsServed receivers first.edition) where
    aired_cut : Aired gives receivers times first (scene gone begin before) (scene news' log' w') []
    aired_cut = record {
      past = piece.past;
      slots = s.slots ++ piece.more;
      on_air = o';
      served = served;
      aired = piece.so_far.aired;
      logged = subst (Logs begin log') (sym (append-nil (first_line (tick times 0) first.mark first.edition ++ lines_of times first.edition piece.past))) piece.so_far.logged;
    }

    pub air_cut : (n total : ℕ) → total ≡ 42 * number + n → n < length part → Appends w w' (take n part) →
        (a : Aired gives receivers times first (scene gone begin before) (scene news' log' w') [])
        × (total < length (air_of times first.edition a.slots)) × Appends before w' (take total (air_of times first.edition a.slots))
    unfolding aired_cut
    air_cut n total e lt out = (
      aired_cut,
      omega (arith, ap length air_more, length-append (air_of times first.edition s.slots) part, s.size, lt, e),
      (let cut : take total (air_of times first.edition (s.slots ++ piece.more)) ≡ air_of times first.edition s.slots ++ take n part =
          ap (λ k. take k (air_of times first.edition (s.slots ++ piece.more))) e
          ∙ ap (take (42 * number + n)) air_more ∙ ap (λ k. take (k + n) (air_of times first.edition s.slots ++ part)) (sym s.size)
          ∙ take-append-add (air_of times first.edition s.slots) part n
          in
          subst (Appends before w') (sym cut) (Appends-trans before w w' (air_of times first.edition s.slots) (take n part) s.bytes out)),
    )

-- all fields went out, and the last line was added
pub air_whole : {N : Type 0} {gives : N → Edition → ℕ → News → N → Type 0} {receivers : Receivers} {times : Times} {lines started : ℕ} {first : Candidate} {gone : N}
    {begin : Written} {o : OnAir} {news : N} {log log' : Written} {before w : Option (List ℕ)} {number : ℕ} →
    IsServed receivers first.edition → AirSoFar gives receivers times lines started first gone begin o news log before w number →
    (fields : ℕ) → number ≡ fields * first.edition.certificate.lines → Adds started log log' (end_line (tick times fields)) →
    (a : Aired gives receivers times first (scene gone begin before) (scene news log' w) (end_line (tick times fields)))
    × (length a.slots ≡ fields * first.edition.certificate.lines) × Appends before w (air_of times first.edition a.slots)
air_whole {times = times} {first = first} {begin = begin} {o = o} served s fields e adds = (
  record {
    past = s.past;
    slots = s.slots;
    on_air = o;
    served = served;
    aired = s.so_far.aired;
    logged = adds.further begin (first_line (tick times 0) first.mark first.edition ++ lines_of times first.edition s.past) s.so_far.faults s.so_far.logged;
  },
  s.long ∙ e,
  s.bytes,
)

pub so_far_at : {N : Type 0} {gives : N → Edition → ℕ → News → N → Type 0} {receivers : Receivers} {times : Times} {lines started : ℕ} {first : Candidate} {gone : N}
    {begin : Written} {o : OnAir} {news : N} {log : Written} {before after : Option (List ℕ)} {n m : ℕ} → n ≡ m →
    AirSoFar gives receivers times lines started first gone begin o news log before after n →
    AirSoFar gives receivers times lines started first gone begin o news log before after m
so_far_at {gives = gives} {receivers = receivers} {times = times} {lines = lines} {started = started} {first = first} {gone = gone} {begin = begin} {o = o} {news = news}
    {log = log} {before = before} {after = after} e s =
    subst (AirSoFar gives receivers times lines started first gone begin o news log before after) e s
