-- Runs without hits and choices.
use Rattle.std.proofs.Common.{◌≡◌, ℕ, zero, suc, ◌+◌, ◌-◌, ◌*◌, ◌<◌, ◌≤◌, ℤ, pos, ◌+ℤ◌, Bool, true, false, ◌&&◌, if◌then◌else◌, not, ◌==◌, List, []}
use Rattle.std.proofs.Common.{length, get_or, refl, sym, ap, ◌∙◌, subst, arith}
use Rattle.std.proofs.lemmas.Int.{ints}
use Rattle.ttx_header.specs.Control.{c11}
use Rattle.ttx_page.specs.Packets.{Packet, Empty, Unreadable, Header, Row, Links, Info, Other, packet_of}
use Rattle.ttx_page.specs.Pages.{Page}
use Rattle.ttx_page.specs.declared.selection.Selection.{Selection}
use Rattle.ttx_page.specs.declared.selection.Selection.TheVariants.{Exact}
use Rattle.ttx_page.specs.declared.class.Class.TheVariants.{Any}
use Rattle.ttx_page.specs.Memories.{Memory}
use Rattle.ttx_page.specs.Receivers.{after, older, with_storing, misses, has_choice, next_choice, later_choices, scripted}
use Rattle.ttx_page.specs.Streams.{Stream, repeated, heads_page}
use Rattle.ttx_page.specs.Laws.{sent_from, ExactIsReceived, EachSlotTurns, CyclesRepeat}
use Rattle.ttx_certify.specs.Seen.{HasView}
use Rattle.ttx_receiver.specs.Tuning.{Tuned, tuned_at, stepped}
use Rattle.ttx_witness.specs.Coverage.{Certificate, IsCertificate}
use Rattle.ttx_counter.specs.Refutations.{IsCounterTo}
use Rattle.ttx_counter.specs.Sources.{plain_from, PlainRunsAreCounterRuns, AbsentPagesAreWrong, PeriodsRepeat}
use Rattle.ttx_counter.proofs.CheckIsExact.{slots_are, same_page}
use Rattle.ttx_counter.specs.Counters.{CounterRun, AreCertificateNumbers, IsCounterRun, selection_for}
use Rattle.ttx_counter.specs.Sources.{plain_counter, IsWrongAfter, TellsWrong, IsPlainlyRight}
use Rattle.std.specs.Prelude.{slice_get, Some, None}
use Rattle.std.proofs.lemmas.Bool.{both_ways}
use Rattle.ttx_cycle.specs.Files.{IsCycle}
use Rattle.ttx_page.specs.Pages.{Fits}
use Rattle.ttx_page.specs.Memories.{IsMemory, memory_of_page}

sent_length : (s : Stream) (tau : ℤ) (n : ℕ) → length (sent_from s tau n) ≡ n
sent_length s tau zero = refl
sent_length s tau (suc n) = ap suc (sent_length s (tau +ℤ pos 1) n)

sent_at : (s : Stream) (tau : ℤ) (n i : ℕ) → i < n → get_or (sent_from s tau n) i [] ≡ s (tau +ℤ pos i)
sent_at s tau zero i lt = absurd (omega arith)
sent_at s tau (suc n) zero lt = let e : tau ≡ tau +ℤ pos 0 = omega (arith, ints) in ap s e
sent_at s tau (suc n) (suc i) lt = let e : (tau +ℤ pos 1) +ℤ pos i ≡ tau +ℤ pos (suc i) = omega (arith, ints)
    in sent_at s (tau +ℤ pos 1) n i (omega arith) ∙ ap s e

no_choice : (has : Bool) → next_choice has [] ≡ false
no_choice true = refl
no_choice false = refl

none_later : (has : Bool) → later_choices has [] ≡ []
none_later true = refl
none_later false = refl

-- a script without choices
pub unscripted : (lines : ℕ) (sel : Selection) (m : Memory) (s : Stream) (tau : ℤ) (n : ℕ) →
    scripted Any lines sel [] m (sent_from s tau n) ≡ plain_from lines sel m s tau n
unfolding plain_from
unscripted lines sel m s tau zero = refl
unscripted lines sel m s tau (suc n) =
    let has = has_choice Any lines sel (older m) (packet_of (s tau)) in
    ap (λ c. scripted Any lines sel c (after Any lines sel (next_choice has []) (older m) (packet_of (s tau)))
    (sent_from s (tau +ℤ pos 1) n)) (none_later has)
    ∙ ap (λ c. scripted Any lines sel [] (after Any lines sel c (older m) (packet_of (s tau))) (sent_from s (tau +ℤ pos 1) n)) (no_choice has)
    ∙ unscripted lines sel (after Any lines sel false (older m) (packet_of (s tau))) s (tau +ℤ pos 1) n

pub counter_runs : ExactIsReceived → EachSlotTurns → PlainRunsAreCounterRuns
counter_runs exact turns cycle pages p index any_sub former lines repeat deadline n is here fits known numbers lasts wrong = record {
  page = p;
  here = here;
  fits = fits;
  numbers = numbers;
  lasts = lasts;
  hits = record { each = λ k d lt. absurd (omega arith); once = λ i j d lt lj. absurd (omega arith) };
  former = known;
  received = sent_from (repeated cycle) (pos 0) n;
  with_hits = record {
    count = sent_length (repeated cycle) (pos 0) n;
    each = λ i lt. record {
      size = ap length (sent_at (repeated cycle) (pos 0) n i lt);
      hit = λ h c at. absurd (let b = c.1 in omega arith);
      other = λ x none. ap (λ l. get_or l x 0) (sent_at (repeated cycle) (pos 0) n i lt);
    };
  };
  permitted = exact (repeated cycle) p.id repeat (pos 0) n (slots_are turns cycle is) numbers.some_repeats;
  wrong = λ v. wrong (subst (λ m. HasView p m) (unscripted lines _ former (repeated cycle) (pos 0) n) v);
}

stopped : (a b c : Bool) → b ≡ false → (a && b && c) ≡ false
stopped true true c h = absurd (both_ways _ h refl)
stopped true false c h = refl
stopped false b c h = refl

unchanged : (m x : Memory) (b : Bool) → b ≡ false → m.storing ≡ false → let new = (if b then x else m) in (new.storing ≡ false)
    × (new.links ≡ m.links)
unchanged m x true h off = absurd (both_ways _ h refl)
unchanged m x false h off = (off, refl)

-- a slot that is not a header of the page
still : (p : Page) (lines : ℕ) (m : Memory) (pk : Packet) → heads_page p.id pk ≡ false → m.storing ≡ false → let new =
    after Any lines (Exact p.id) false m pk in (new.storing ≡ false) × (new.links ≡ m.links)
still p lines m (Header id control text) no_head off = rw no_head (other (id.mag == p.id.mag) (c11 control))
  where
    other : (a b : Bool) → let new = (if a then with_storing m false else (if b && false then with_storing m false else m))
        in (new.storing ≡ false) × (new.links ≡ m.links)
    other true b = (refl, refl)
    other false true = (off, refl)
    other false false = (off, refl)
still p lines m (Row mag number text) no_head off =
    unchanged m _ ((mag == p.id.mag) && m.storing && not (misses lines false m))
    (stopped (mag == p.id.mag) m.storing (not (misses lines false m)) off) off
still p lines m (Links mag content) no_head off =
    unchanged m _ ((mag == p.id.mag) && m.storing && not (misses lines false m))
    (stopped (mag == p.id.mag) m.storing (not (misses lines false m)) off) off
still p lines m Empty no_head off = (off, refl)
still p lines m Unreadable no_head off = (off, refl)
still p lines m Info no_head off = (off, refl)
still p lines m Other no_head off = (off, refl)

links_stay : (s : Stream) (p : Page) (lines : ℕ) → ((j : ℤ) → heads_page p.id (packet_of (s j)) ≡ false) →
    (n : ℕ) (tau : ℤ) (m : Memory) → m.storing ≡ false → (plain_from lines (Exact p.id) m s tau n).links ≡ m.links
unfolding plain_from
links_stay s p lines none zero tau m off = refl
links_stay s p lines none (suc n) tau m off =
    let w = still p lines (older m) (packet_of (s tau)) (none tau) off in
    links_stay s p lines none n (tau +ℤ pos 1) (after Any lines (Exact p.id) false (older m) (packet_of (s tau))) w.0 ∙ w.1

pub absent : AbsentPagesAreWrong
absent s p former lines n none off differ tau v = differ (sym (ap (λ l. l.six) (links_stay s p lines none n tau former off)) ∙ v.links)

-- one run after another
plain_more : (lines : ℕ) (sel : Selection) (s : Stream) (a b : ℕ) (m : Memory) (tau : ℤ) → plain_from lines sel m s tau (a + b)
    ≡ plain_from lines sel (plain_from lines sel m s tau a) s (tau +ℤ pos a) b
unfolding plain_from
plain_more lines sel s zero b m tau =
    let e : 0 + b ≡ b = omega arith in let f : tau ≡ tau +ℤ pos 0 = omega (arith, ints) in
    ap (plain_from lines sel m s tau) e ∙ ap (λ t. plain_from lines sel m s t b) f
plain_more lines sel s (suc a) b m tau =
    let e : suc a + b ≡ suc (a + b) = omega arith in
    let f : (tau +ℤ pos 1) +ℤ pos a ≡ tau +ℤ pos (suc a) = omega (arith, ints) in
    let next = after Any lines sel false (older m) (packet_of (s tau)) in
    ap (plain_from lines sel m s tau) e ∙ plain_more lines sel s a b next (tau +ℤ pos 1)
    ∙ ap (λ t. plain_from lines sel (plain_from lines sel next s (tau +ℤ pos 1) a) s t b) f

-- a period later the same is sent
plain_later : (lines : ℕ) (sel : Selection) (s : Stream) (d : ℤ) → ((i : ℤ) → s (i +ℤ d) ≡ s i) → (n : ℕ) (m : Memory) (tau : ℤ) →
    plain_from lines sel m s (tau +ℤ d) n ≡ plain_from lines sel m s tau n
unfolding plain_from
plain_later lines sel s d period zero m tau = refl
plain_later lines sel s d period (suc n) m tau =
    let e : (tau +ℤ d) +ℤ pos 1 ≡ (tau +ℤ pos 1) +ℤ d = omega (arith, ints) in
    ap (λ slot. plain_from lines sel (after Any lines sel false (older m) (packet_of slot)) s ((tau +ℤ d) +ℤ pos 1) n) (period tau)
    ∙ ap (λ t. plain_from lines sel (after Any lines sel false (older m) (packet_of (s tau))) s t n) e
    ∙ plain_later lines sel s d period n (after Any lines sel false (older m) (packet_of (s tau))) (tau +ℤ pos 1)

none : (lines : ℕ) (sel : Selection) (m : Memory) (s : Stream) → plain_from lines sel m s (pos 0) 0 ≡ m
unfolding plain_from
none lines sel m s = refl

mul_suc : (q n : ℕ) → suc q * n ≡ n + q * n
mul_suc q n = omega arith

pub periods : CyclesRepeat → PeriodsRepeat
periods repeat cycle lines sel m q some back = go q
  where
    go : (q : ℕ) → plain_from lines sel m (repeated cycle) (pos 0) (q * length cycle) ≡ m
    go zero = let e : 0 * length cycle ≡ 0 = omega arith in ap (plain_from lines sel m (repeated cycle) (pos 0)) e ∙ none lines sel m (repeated cycle)
    go (suc q) =
        let n = length cycle in
        let e : suc q * length cycle ≡ length cycle + q * length cycle = mul_suc q (length cycle) in
        ap (plain_from lines sel m (repeated cycle) (pos 0)) e
        ∙ plain_more lines sel (repeated cycle) (length cycle) (q * length cycle) m (pos 0)
        ∙ ap (λ x. plain_from lines sel x (repeated cycle) (pos 0 +ℤ pos (length cycle)) (q * length cycle)) back
        ∙ plain_later lines sel (repeated cycle) (pos (length cycle)) (repeat cycle some) (q * length cycle) m (pos 0)
        ∙ go q

plain_one : (lines : ℕ) (sel : Selection) (s : Stream) (m : Memory) (tau : ℤ) → plain_from lines sel m s tau 1
    ≡ after Any lines sel false (older m) (packet_of (s tau))
unfolding plain_from
plain_one lines sel s m tau = refl

-- slot by slot
pub plain_next : (lines : ℕ) (sel : Selection) (s : Stream) (m : Memory) (tau : ℤ) (i : ℕ) → plain_from lines sel m s tau (i + 1)
    ≡ after Any lines sel false (older (plain_from lines sel m s tau i)) (packet_of (s (tau +ℤ pos i)))
plain_next lines sel s m tau i = plain_more lines sel s i 1 m tau ∙ plain_one lines sel s (plain_from lines sel m s tau i) (tau +ℤ pos i)

pub plain_none : (lines : ℕ) (sel : Selection) (s : Stream) (m : Memory) (tau : ℤ) → plain_from lines sel m s tau 0 ≡ m
unfolding plain_from
plain_none lines sel s m tau = refl

pub plain_on : (lines : ℕ) (sel : Selection) (s : Stream) (m : Memory) (a b : ℕ) → plain_from lines sel m s (pos 0) (a + b)
    ≡ plain_from lines sel (plain_from lines sel m s (pos 0) a) s (pos a) b
plain_on lines sel s m a b = let e : pos 0 +ℤ pos a ≡ pos a = omega (arith, ints) in plain_more lines sel s a b m (pos 0)
    ∙ ap (λ t. plain_from lines sel (plain_from lines sel m s (pos 0) a) s t b) e

same_on : CyclesRepeat → (cycle : List (List ℕ)) → 0 < length cycle → (q : ℕ) (i : ℤ) → repeated cycle (i +ℤ pos (q * length cycle))
    ≡ repeated cycle i
same_on repeat cycle some zero i = let e : i +ℤ pos (0 * length cycle) ≡ i = omega (arith, ints) in ap (repeated cycle) e
same_on repeat cycle some (suc q) i =
    let f : suc q * length cycle ≡ length cycle + q * length cycle = mul_suc q (length cycle) in
    let e : i +ℤ pos (length cycle + q * length cycle) ≡ (i +ℤ pos (q * length cycle)) +ℤ pos (length cycle) = omega (arith, ints) in
    ap (λ n. repeated cycle (i +ℤ pos n)) f ∙ ap (repeated cycle) e ∙ repeat cycle some (i +ℤ pos (q * length cycle)) ∙ same_on repeat cycle some q i

from_period : CyclesRepeat → (cycle : List (List ℕ)) → 0 < length cycle → (lines : ℕ) (sel : Selection) (m : Memory) (q n : ℕ) →
    plain_from lines sel m (repeated cycle) (pos (q * length cycle)) n ≡ plain_from lines sel m (repeated cycle) (pos 0) n
from_period repeat cycle some lines sel m q n =
    let e : pos 0 +ℤ pos (q * length cycle) ≡ pos (q * length cycle) = omega (arith, ints) in
    sym (ap (λ t. plain_from lines sel m (repeated cycle) t n) e)
    ∙ plain_later lines sel (repeated cycle) (pos (q * length cycle)) (same_on repeat cycle some q) n m (pos 0)

-- one more period
pub period_more : (lines : ℕ) (sel : Selection) (s : Stream) (m now : Memory) (i n : ℕ) → now
    ≡ plain_from lines sel m s (pos 0) (i * n) → plain_from lines sel now s (pos (i * n)) n
    ≡ plain_from lines sel m s (pos 0) ((i + 1) * n)
period_more lines sel s m now i n e =
    let f : i * n + n ≡ (i + 1) * n = omega arith in
    ap (λ x. plain_from lines sel x s (pos (i * n)) n) e ∙ sym (plain_on lines sel s m (i * n) n) ∙ ap (plain_from lines sel m s (pos 0)) f

dist : (a b n : ℕ) → a * n + b * n ≡ (a + b) * n
dist a b n = omega arith

mul_rest : (i q n : ℕ) → i ≤ q → i * n + (q - i) * n ≡ q * n
mul_rest i q n le = let e : i + (q - i) ≡ q = omega arith in dist i (q - i) n ∙ ap (λ x. x * n) e

-- if a period leaves the memory as it was, so do all later ones
pub settled : CyclesRepeat → (cycle : List (List ℕ)) → 0 < length cycle →
    (lines : ℕ) (sel : Selection) (m now next : Memory) (i q : ℕ) → i ≤ q → now
    ≡ plain_from lines sel m (repeated cycle) (pos 0) (i * length cycle) →
    next ≡ plain_from lines sel now (repeated cycle) (pos (i * length cycle)) (length cycle) → next ≡ now → next
    ≡ plain_from lines sel m (repeated cycle) (pos 0) (q * length cycle)
settled repeat cycle some lines sel m now next i q le e step back =
    let d : ℕ = q - i in
    let f : i * length cycle + d * length cycle ≡ q * length cycle = mul_rest i q (length cycle) le in
    let once : plain_from lines sel now (repeated cycle) (pos 0) (length cycle) ≡ now =
    sym (from_period repeat cycle some lines sel now i (length cycle)) ∙ sym step ∙ back in
    sym (sym (ap (plain_from lines sel m (repeated cycle) (pos 0)) f)
    ∙ plain_on lines sel (repeated cycle) m (i * length cycle) (d * length cycle)
    ∙ sym (ap (λ x. plain_from lines sel x (repeated cycle) (pos (i * length cycle)) (d * length cycle)) e)
    ∙ from_period repeat cycle some lines sel now i (d * length cycle)
    ∙ periods repeat cycle lines sel now d some once ∙ sym back)

-- a receiver that takes no choice, slot by slot
pub plain_step : (old now new : Tuned) (s : Stream) (tau : ℤ) (i : ℕ) (slot : List ℕ) → s (tau +ℤ pos i) ≡ slot → now.memory
    ≡ plain_from old.lines old.selection old.memory s tau i → now.selection ≡ old.selection → now.lines ≡ old.lines →
    new ≡ stepped Any false now slot → new.memory ≡ plain_from old.lines old.selection old.memory s tau (i + 1)
plain_step old now new s tau i slot at memory selection lines step =
    ap (λ t. t.memory) step
    ∙ ap (λ l. after Any l now.selection false (older now.memory) (packet_of slot)) lines
    ∙ ap (λ c. after Any old.lines c false (older now.memory) (packet_of slot)) selection
    ∙ ap (λ m. after Any old.lines old.selection false (older m) (packet_of slot)) memory
    ∙ ap (λ x. after Any old.lines old.selection false (older (plain_from old.lines old.selection old.memory s tau i)) (packet_of x)) (sym at)
    ∙ sym (plain_next old.lines old.selection s old.memory tau i)

-- the same, with the period and the settings as the code has them
pub settled_at : CyclesRepeat → (cycle : List (List ℕ)) → 0 < length cycle → (old now : Tuned) (next : Memory) (i q n : ℕ) → n
    ≡ length cycle → i ≤ q → now.selection ≡ old.selection → now.lines ≡ old.lines →
    now.memory ≡ plain_from old.lines old.selection old.memory (repeated cycle) (pos 0) (i * n) →
    next ≡ plain_from now.lines now.selection now.memory (repeated cycle) (pos (i * n)) n → next ≡ now.memory → next
    ≡ plain_from old.lines old.selection old.memory (repeated cycle) (pos 0) (q * n)
settled_at repeat cycle some old now next i q n e le selection lines at step back =
    settled repeat cycle some old.lines old.selection old.memory now.memory next i q le
    (at ∙ ap (λ z. plain_from old.lines old.selection old.memory (repeated cycle) (pos 0) (i * z)) e)
    (step ∙ ap (λ l. plain_from l now.selection now.memory (repeated cycle) (pos (i * n)) n) lines
    ∙ ap (λ c. plain_from old.lines c now.memory (repeated cycle) (pos (i * n)) n) selection
    ∙ ap (λ z. plain_from old.lines old.selection now.memory (repeated cycle) (pos (i * z)) z) e)
    back
    ∙ ap (λ z. plain_from old.lines old.selection old.memory (repeated cycle) (pos 0) (q * z)) (sym e)

pub period_at : (old now : Tuned) (next : Memory) (s : Stream) (i n : ℕ) → now.selection ≡ old.selection → now.lines ≡ old.lines →
    now.memory ≡ plain_from old.lines old.selection old.memory s (pos 0) (i * n) →
    next ≡ plain_from now.lines now.selection now.memory s (pos (i * n)) n → next
    ≡ plain_from old.lines old.selection old.memory s (pos 0) ((i + 1) * n)
period_at old now next s i n selection lines at step =
    step ∙ ap (λ l. plain_from l now.selection now.memory s (pos (i * n)) n) lines
    ∙ ap (λ c. plain_from old.lines c now.memory s (pos (i * n)) n) selection
    ∙ period_more old.lines old.selection s old.memory now.memory i n at

-- whole periods, and then the rest
pub runs_on : (T : ℕ → Selection → Memory → Type 0) (lines : ℕ) (sel : Selection) (former : Memory) (r0 r1 r2 : Tuned) (s : Stream)
    (a b low : ℕ) → r0 ≡ tuned_at sel lines former →
    r1.memory ≡ plain_from r0.lines r0.selection r0.memory s (pos 0) a → r1.selection ≡ r0.selection → r1.lines ≡ r0.lines →
    r2.memory ≡ plain_from r1.lines r1.selection r1.memory s (pos a) b → r2.selection ≡ r1.selection → r2.lines ≡ r1.lines → a + b ≡ low →
    (r2.memory ≡ plain_from r2.lines r2.selection former s (pos 0) low → T r2.lines r2.selection former) → T lines sel former
runs_on T lines sel former r0 r1 r2 s a b low is m1 s1 l1 m2 s2 l2 sum told =
    let l0 : r1.lines ≡ lines = l1 ∙ ap (λ t. t.lines) is in
    let c0 : r1.selection ≡ sel = s1 ∙ ap (λ t. t.selection) is in
    let l : r2.lines ≡ lines = l2 ∙ l0 in
    let c : r2.selection ≡ sel = s2 ∙ c0 in
    let first : r1.memory ≡ plain_from lines sel former s (pos 0) a = m1
    ∙ ap (λ (t : Tuned). plain_from t.lines t.selection t.memory s (pos 0) a) is in
    let second : r2.memory ≡ plain_from lines sel former s (pos 0) low =
    m2 ∙ ap (λ z. plain_from z r1.selection r1.memory s (pos a) b) l0 ∙ ap (λ z. plain_from lines z r1.memory s (pos a) b) c0
    ∙ ap (λ z. plain_from lines sel z s (pos a) b) first
    ∙ sym (plain_on lines sel s former a b) ∙ ap (plain_from lines sel former s (pos 0)) sum in
    let third : r2.memory ≡ plain_from r2.lines r2.selection former s (pos 0) low =
    second ∙ ap (λ z. plain_from z sel former s (pos 0) low) (sym l) ∙ ap (λ z. plain_from r2.lines z former s (pos 0) low) (sym c) in
    subst (λ z. T z sel former) l (subst (λ z. T r2.lines z former) c (told third))

pub numbers_of : (w : Certificate) → IsCertificate w → AreCertificateNumbers w.lines w.repeat w.deadline
numbers_of w is = record {
  some_lines = is.some_lines;
  few_lines = is.few_lines;
  some_repeats = is.some_repeats;
  few_repeats = is.few_repeats;
  some_fields = is.some_fields;
  few_fields = is.few_fields;
}

-- a run without hits and choices, with the certificate's numbers
pub plain_to : (cycle : List (List ℕ)) (pages : List Page) (w : Certificate) (index : ℕ) (any_sub : Bool) (former : Memory) (n : ℕ)
    (run : CounterRun) →
    run ≡ plain_counter index any_sub former w.lines w.repeat w.deadline n → IsCounterRun cycle pages run → IsCounterTo cycle pages w run
plain_to cycle pages w index any_sub former n run made is = record {
  is = is;
  lines = ap (λ (r : CounterRun). r.lines) made;
  repeat = ap (λ (r : CounterRun). r.repeat) made;
  deadline = ap (λ (r : CounterRun). r.deadline) made;
}

-- what a search for plain runs returns
pub found : PlainRunsAreCounterRuns → (cycle : List (List ℕ)) → IsCycle cycle →
    (pages : List Page) (p : Page) (index : ℕ) (any_sub : Bool) (sel : Selection) (former : Memory) (lines repeat deadline n : ℕ)
    (run : CounterRun) →
    slice_get pages index ≡ Some p → sel ≡ selection_for any_sub p.id → Fits pages p sel → IsMemory former → former ≡ memory_of_page p →
    AreCertificateNumbers lines repeat deadline → deadline * lines ≤ n →
    IsWrongAfter cycle p lines sel (memory_of_page p) n → run ≡ plain_counter index any_sub former lines repeat deadline n →
    IsCounterRun cycle pages run
found law cycle is pages p index any_sub sel former lines repeat deadline n run here same fits known own numbers lasts wrong made =
    subst (IsCounterRun cycle pages) (sym made)
    (law cycle pages p index any_sub former lines repeat deadline n is here (subst (Fits pages p) same fits) known numbers lasts
    (subst (λ m. IsWrongAfter cycle p lines (selection_for any_sub p.id) m n) (sym own)
    (subst (λ z. IsWrongAfter cycle p lines z (memory_of_page p) n) same wrong)))

pub not_found : (cycle : List (List ℕ)) (pages : List Page) (p : Page) (index : ℕ) (any_sub : Bool) (sel : Selection) (lines low : ℕ) →
    slice_get pages index ≡ Some p → sel ≡ selection_for any_sub p.id →
    TellsWrong cycle p lines sel (memory_of_page p) low (low + 2 * length cycle) None → IsPlainlyRight cycle pages index any_sub lines low
not_found cycle pages p index any_sub sel lines low here same none q at fits n from to wrong =
    let e : q ≡ p = same_page pages index q p at here in
    none n from to (subst (λ z. IsWrongAfter cycle p lines z (memory_of_page p) n) (sym same)
    (subst (λ z. IsWrongAfter cycle z lines (selection_for any_sub z.id) (memory_of_page z) n) e wrong))

-- a run that is found ends wrong
pub not_right : (cycle : List (List ℕ)) (pages : List Page) (p : Page) (index : ℕ) (any_sub : Bool) (sel : Selection) (lines low n : ℕ) →
    slice_get pages index ≡ Some p → sel ≡ selection_for any_sub p.id → Fits pages p sel → low ≤ n → n ≤ low + 2 * length cycle →
    IsWrongAfter cycle p lines sel (memory_of_page p) n → IsPlainlyRight cycle pages index any_sub lines low → ⊥
not_right cycle pages p index any_sub sel lines low n here same fits from to wrong right =
    right p here (subst (Fits pages p) same fits) n from to (subst (λ z. IsWrongAfter cycle p lines z (memory_of_page p) n) same wrong)
