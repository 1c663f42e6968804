-- The numbers in a counter-run's text describe this counter-run.
use Rattle.std.proofs.Common.{◌≡◌, ℕ, suc, ◌*◌, ◌/◌, ◌%◌, ◌<◌, Bool, true, false, not, ◌&&◌, ◌==◌, nat_le, nat_lt, List, [], ◌∷◌, ◌++◌, length, map}
use Rattle.std.proofs.Common.{take, drop, get_or, Option, Some, None, Ok, Err, refl, sym, ap, ◌∙◌, subst, arith, append_assoc}
use Rattle.std.specs.Prelude.{All, slice_index}
use Rattle.std.specs.Str.{bytes_eq}
use Rattle.std.proofs.Math.Seq.{take-append_seam, drop-append_seam}
use Rattle.std.proofs.lemmas.Bool.Decides.{nat_tests}
use Rattle.std.proofs.lemmas.List.{length-append}
use Rattle.std.proofs.lemmas.Slice.Eq.{bytes_eq-Decides}
use Rattle.std.proofs.lemmas.Bool.{and_from, cond_both, cond-true}
use Rattle.ttx_header.specs.Ids.{Id, id_at}
use Rattle.ttx_links.specs.Sets.{IsTarget, IsLink, AreLinks}
use Rattle.ttx_page.specs.Pages.{IsRow}
use Rattle.ttx_page.specs.Memories.{Memory, memory_at}
use Rattle.ttx_counter.specs.Counters.{Hit, CounterRun}
use Rattle.ttx_counter.specs.CounterTexts.{yes_as_one, bits, target_numbers, links_numbers, hits_numbers, counter_text}
use Rattle.ttx_counter.specs.CounterReading.{at_most, is_one, characters_in, read_rows, is_target, read_link, read_links, hit_of, hits_in, memory_in}
use Rattle.ttx_counter.specs.CounterReading.{choices_in, hits_after, numbers_behind, counter_in, line_numbers, judged, IsHitFields, IsCounterFields}
use Rattle.ttx_counter.specs.CounterReading.{AcceptedCounterTextsAreWritten, WrittenCounterTextsAreRead}
use Rattle.ttx_counter.proofs.ReadNumbers.{AreSmall, EachSmall, joined, numbers_of, whole}

one : (b : Bool) → is_one (yes_as_one b) ≡ b
one true = refl
one false = refl

-- characters and rows
abbrev pub AreCodes : List ℕ → Type 0
AreCodes [] = Unit {0}
AreCodes (c ∷ row) = (c < 128) × AreCodes row

each_code : (row : List ℕ) → ((c : ℕ) → slice_index row c < 128) → AreCodes row
each_code [] low = tt
each_code (x ∷ row) low = (low 0, each_code row (λ c. low (suc c)))

characters : (row rest : List ℕ) → AreCodes row → characters_in (length row) (row ++ rest) ≡ row
unfolding characters_in
characters [] rest low = refl
characters (x ∷ row) rest low = let e : at_most 127 x ≡ x = omega (arith, low.0)
    in ap (λ y. y ∷ characters_in (length row) (row ++ rest)) e ∙ ap (λ r. x ∷ r) (characters row rest low.1)

abbrev pub AreRows : List (List ℕ) → Type 0
AreRows [] = Unit {0}
AreRows (row ∷ rs) = IsRow row × AreRows rs

each_row : (rs : List (List ℕ)) → ((r : ℕ) → r < length rs → IsRow (get_or rs r [])) → AreRows rs
each_row [] is = tt
each_row (row ∷ rs) is = (is 0 (omega arith), each_row rs (λ r lt. is (suc r) (omega arith)))

drop_row : (row rest : List ℕ) → length row ≡ 40 → drop 40 (row ++ rest) ≡ rest
drop_row row rest long = subst (λ n. drop n (row ++ rest) ≡ rest) long (drop-append_seam row rest)

take_row : (row rest : List ℕ) → IsRow row → characters_in 40 (row ++ rest) ≡ row
take_row row rest is = subst (λ n. characters_in n (row ++ rest) ≡ row) is.length (characters row rest (each_code row is.codes))

rows : (rs : List (List ℕ)) (rest : List ℕ) → AreRows rs → read_rows (length rs) (joined rs ++ rest) ≡ rs
unfolding read_rows
rows [] rest are = refl
rows (row ∷ rs) rest are =
    ap (λ ns. characters_in 40 ns ∷ read_rows (length rs) (drop 40 ns)) (append_assoc row (joined rs) rest)
    ∙ ap (λ r. r ∷ read_rows (length rs) (drop 40 (row ++ (joined rs ++ rest)))) (take_row row (joined rs ++ rest) are.0)
    ∙ ap (λ ns. row ∷ read_rows (length rs) ns) (drop_row row (joined rs ++ rest) are.0.length) ∙ ap (λ x. row ∷ x) (rows rs rest are.1)

joined_length : (rs : List (List ℕ)) → AreRows rs → length (joined rs) ≡ 40 * length rs
joined_length [] are = refl
joined_length (row ∷ rs) are = length-append row (joined rs) ∙ omega (arith, are.0.length, joined_length rs are.1)

codes_small : (row : List ℕ) → AreCodes row → AreSmall row
codes_small [] low = tt
codes_small (x ∷ row) low = let l = low.0 in (omega arith, codes_small row low.1)

rows_small : (rs : List (List ℕ)) → AreRows rs → EachSmall rs
rows_small [] are = tt
rows_small (row ∷ rs) are = (codes_small row (each_code row are.0.codes), rows_small rs are.1)

-- links
not_it : (a : Bool) → a ≡ false → not a ≡ true
not_it true h = sym h
not_it false h = refl

target : (id : Id) → IsTarget id → is_target id.mag id.page id.sub ≡ true
target id is =
    let r = is.ranges in
    let low : nat_le 1 id.mag ≡ true = (let h = r.mag_from in grind (arith, nat_tests)) in
    let high : nat_le id.mag 8 ≡ true = (let h = r.mag_to in grind (arith, nat_tests)) in
    let page : nat_lt id.page 256 ≡ true = (let h = r.page in grind (arith, nat_tests)) in
    let top : nat_lt id.sub 16384 ≡ true = (let h = r.sub.top in grind (arith, nat_tests)) in
    let mask : (id.sub / 128 % 2 == 0) ≡ true = (let h = r.sub.gap in grind (arith, nat_tests)) in
    and_from _ _ (and_from _ _ (and_from _ _ (and_from _ _ (and_from _ _ low high) page) top) mask) (not_it _ is.link)

abbrev first_link : List ℕ → Option Id
first_link ns = read_link (slice_index ns 0) (slice_index ns 1) (slice_index ns 2)

link : (l : Option Id) (rest : List ℕ) → IsLink l → first_link (target_numbers l ++ rest) ≡ l
link None rest is = refl
link (Some id) rest is = cond-true (is_target id.mag id.page id.sub) (Some (id_at id.mag id.page id.sub)) None (target id is)

drop_link : (l : Option Id) (rest : List ℕ) → drop 3 (target_numbers l ++ rest) ≡ rest
drop_link None rest = refl
drop_link (Some id) rest = refl

links : (six : List (Option Id)) (rest : List ℕ) → AreLinks six → read_links (length six) (links_numbers six ++ rest) ≡ six
unfolding read_links
links [] rest are = refl
links (l ∷ six) rest are =
    ap (λ ns. first_link ns ∷ read_links (length six) (drop 3 ns)) (append_assoc (target_numbers l) (links_numbers six) rest)
    ∙ ap (λ x. x ∷ read_links (length six) (drop 3 (target_numbers l ++ (links_numbers six ++ rest)))) (link l (links_numbers six ++ rest) are.0)
    ∙ ap (λ ns. l ∷ read_links (length six) ns) (drop_link l (links_numbers six ++ rest)) ∙ ap (λ x. l ∷ x) (links six rest are.1)

link_length : (l : Option Id) → length (target_numbers l) ≡ 3
link_length None = refl
link_length (Some id) = refl

links_length : (six : List (Option Id)) → length (links_numbers six) ≡ 3 * length six
links_length [] = refl
links_length (l ∷ six) = length-append (target_numbers l) (links_numbers six) ∙ omega (arith, link_length l, links_length six)

link_small : (l : Option Id) (ns : List ℕ) → IsLink l → AreSmall ns → AreSmall (target_numbers l ++ ns)
link_small None ns is small = (omega arith, (omega arith, (omega arith, small)))
link_small (Some id) ns is small =
    let r = is.ranges in let a = r.mag_to in let b = r.page in let c = r.sub.top in (omega arith, (omega arith, (omega arith, small)))

links_small : (six : List (Option Id)) → AreLinks six → AreSmall (links_numbers six)
links_small [] are = tt
links_small (l ∷ six) are = link_small l (links_numbers six) are.0 (links_small six are.1)

-- choices and hits
choices : (cs : List Bool) → map is_one (bits cs) ≡ cs
choices [] = refl
choices (b ∷ cs) = ap (λ x. x ∷ map is_one (bits cs)) (one b) ∙ ap (λ x. b ∷ x) (choices cs)

bits_length : (cs : List Bool) → length (bits cs) ≡ length cs
bits_length [] = refl
bits_length (b ∷ cs) = ap suc (bits_length cs)

take_bits : (cs : List Bool) (rest : List ℕ) → take (length cs) (bits cs ++ rest) ≡ bits cs
take_bits cs rest = subst (λ n. take n (bits cs ++ rest) ≡ bits cs) (bits_length cs) (take-append_seam (bits cs) rest)

drop_bits : (cs : List Bool) (rest : List ℕ) → drop (length cs) (bits cs ++ rest) ≡ rest
drop_bits cs rest = subst (λ n. drop n (bits cs ++ rest) ≡ rest) (bits_length cs) (drop-append_seam (bits cs) rest)

abbrev pub AreHits : List Hit → Type 0
AreHits [] = Unit {0}
AreHits (h ∷ hs) = IsHitFields h × AreHits hs

one_hit : (h : Hit) → IsHitFields h → hit_of h.index h.byte h.bit ≡ h
one_hit h is =
    let b : at_most 255 h.byte ≡ h.byte = (let l = is.1 in omega arith) in
    let c : at_most 255 h.bit ≡ h.bit = (let l = is.2 in omega arith) in
    λ i. record { index = h.index; byte = b i; bit = c i }

hits : (hs : List Hit) (rest : List ℕ) → AreHits hs → hits_in (length hs) (hits_numbers hs ++ rest) ≡ hs
unfolding hits_in
hits [] rest are = refl
hits (h ∷ hs) rest are = ap (λ x. x ∷ hits_in (length hs) (hits_numbers hs ++ rest)) (one_hit h are.0) ∙ ap (λ x. h ∷ x) (hits hs rest are.1)

hits_small : (hs : List Hit) → AreHits hs → AreSmall (hits_numbers hs)
hits_small [] are = tt
hits_small (h ∷ hs) are = let i = are.0.0 in let b = are.0.1 in let c = are.0.2 in (i, (omega arith, (omega arith, hits_small hs are.1)))

module _ (c : CounterRun) (is : IsCounterFields c) (are : AreHits c.hits) where
  abbrev m : Memory
  m = c.former

  abbrev ns : List ℕ
  ns = numbers_of c

  of_rows : AreRows m.rows
  of_rows = each_row m.rows (λ r lt. is.former.rows r (omega (arith, is.former.row_count)))

  abbrev behind : List ℕ
  behind = length c.choices ∷ (bits c.choices ++ (length c.hits ∷ (hits_numbers c.hits ++ [])))

  after_links : drop 18 (drop 14 ns) ≡ joined m.rows ++ behind
  after_links =
      let e : length (links_numbers m.links.six) ≡ 18 = links_length m.links.six ∙ omega (arith, is.six) in
      subst (λ n. drop n (links_numbers m.links.six ++ (joined m.rows ++ behind)) ≡ joined m.rows ++ behind) e
      (drop-append_seam (links_numbers m.links.six) (joined m.rows ++ behind))

  after_rows : numbers_behind ns ≡ behind
  after_rows =
      let e : length (joined m.rows) ≡ 1000 = joined_length m.rows of_rows ∙ omega (arith, is.former.row_count) in
      ap (drop 1000) after_links ∙ subst (λ n. drop n (joined m.rows ++ behind) ≡ behind) e (drop-append_seam (joined m.rows) behind)

  six_is : read_links 6 (drop 14 ns) ≡ m.links.six
  six_is = subst (λ n. read_links n (links_numbers m.links.six ++ (joined m.rows ++ behind)) ≡ m.links.six) is.six
      (links m.links.six (joined m.rows ++ behind) is.links)

  rows_are : read_rows 25 (drop 18 (drop 14 ns)) ≡ m.rows
  rows_are = ap (read_rows 25) after_links ∙ subst (λ n. read_rows n (joined m.rows ++ behind) ≡ m.rows) is.former.row_count
      (rows m.rows behind of_rows)

  memory_is : memory_in ns ≡ m
  memory_is =
      let control : at_most 2047 m.control ≡ m.control = (let l = is.former.control in omega arith) in
      let age : at_most 64 m.age ≡ m.age = (let l = is.former.at_most in omega arith) in
      λ i. memory_at (rows_are i) (control i) (record { six = six_is i; show24 = one m.links.show24 i }) (one m.storing i) (age i) (one m.fresh i)

  choices_are : choices_in (numbers_behind ns) ≡ c.choices
  choices_are = ap choices_in after_rows ∙ ap (map is_one) (take_bits c.choices (length c.hits ∷ (hits_numbers c.hits ++ []))) ∙ choices c.choices

  hits_are : hits_after (drop (slice_index (numbers_behind ns) 0) (drop 1 (numbers_behind ns))) ≡ c.hits
  hits_are =
      ap (λ xs. hits_after (drop (slice_index xs 0) (drop 1 xs))) after_rows
      ∙ ap hits_after (drop_bits c.choices (length c.hits ∷ (hits_numbers c.hits ++ [])))
      ∙ hits c.hits [] are

  same : counter_in ns ≡ c
  same =
      let lines : at_most 255 c.lines ≡ c.lines = (let l = is.lines in omega arith) in
      let repeat : at_most 255 c.repeat ≡ c.repeat = (let l = is.repeat in omega arith) in
      λ i. record {
        page = c.page;
        any_sub = one c.any_sub i;
        start = c.start;
        slots = c.slots;
        former = memory_is i;
        choices = choices_are i;
        hits = hits_are i;
        lines = lines i;
        repeat = repeat i;
        deadline = c.deadline;
      }

  pub read : counter_in (line_numbers (counter_text c)) ≡ c
  read = ap counter_in (whole c (record {
    lines = is.lines;
    repeat = is.repeat;
    deadline = is.deadline;
    page = is.page;
    start = is.start;
    slots = is.slots;
    control = is.former.control;
    age = is.former.at_most;
    links = links_small m.links.six is.links;
    rows = rows_small m.rows of_rows;
    choices = is.choices;
    hits = is.hits;
    places = hits_small c.hits are;
  })) ∙ same

each_hit : (hs : List Hit) → All IsHitFields hs → AreHits hs
each_hit [] all = tt
each_hit (h ∷ hs) all = (all 0 h (omega arith), each_hit hs (λ k d lt. all (suc k) d (omega arith)))

itself : (bytes : List ℕ) → bytes_eq bytes bytes ≡ true
itself bytes = (bytes_eq-Decides bytes bytes).1 refl

pub written_is_read : WrittenCounterTextsAreRead
written_is_read c is =
    let e = read c is (each_hit c.hits is.each) in
    ap (judged (counter_text c)) e ∙ cond-true (bytes_eq (counter_text c) (counter_text c)) (Ok c) (Err _) (itself (counter_text c))

pub accepted_is_written : AcceptedCounterTextsAreWritten
accepted_is_written bytes c read =
    let d = counter_in (line_numbers bytes) in
    cond_both (bytes_eq (counter_text d) bytes) (Ok d) (Err _) (λ r. r ≡ Ok c → bytes ≡ counter_text c)
    (λ same h. sym ((bytes_eq-Decides (counter_text d) bytes).0 same) ∙ ap counter_text (let k : d ≡ c = cc in k))
    (λ _ h. absurd (let k : Err _ ≡ Ok c = h in cc)) read
