-- The settings in the first line of a log. NAME_read: what is written of a value is read as this value. NAME_is: a text that is read is the
-- one that is written of its value, and the value is in its range.
use Rattle.std.proofs.Common.{◌≡◌, ℕ, zero, suc, ◌^◌, ◌<◌, ◌≤◌, ◌==◌, nat_lt, nat_le, nat_abs, ℤ, pos, negsuc, Bool, true, false, not, ◌&&◌, List, ◌∷◌, ◌++◌, codes, Option, Some, None, refl, sym, ap, ◌∙◌, subst, arith, if◌then◌else◌}
use Rattle.std.specs.Fmt.{decimal, signed_decimal}
use Rattle.std.specs.List.{list_all}
use Rattle.std.proofs.lemmas.Bool.{and_from, and_parts, cond-true, true≢false}
use Rattle.std.proofs.lemmas.Bool.Decides.{nat_tests}
use Rattle.std.proofs.lemmas.Option.{cond_some, same_Some, none-some}
use Rattle.ttx_logbook.specs.Cuts.{after, cut}
use Rattle.ttx_logbook.specs.Steps.{◌>>=◌}
use Rattle.ttx_logbook.specs.Numbers.{number_in, keyed_number}
use Rattle.ttx_logbook.specs.LogTexts.{Lacks, keyed_text, either_text, PromiseFields, SizeFields, BeginFields, ClockFields, Zone, Ahead, SettingsFields}
use Rattle.ttx_logbook.specs.LogTexts.{promise_text, size_text, second_text, begin_text, clock_text, settings_text, IsClock, IsSettings}
use Rattle.ttx_logbook.specs.SettingsReading.{or_second, either, ranged_number, promise_in, size_in, second_in, begin_in, behind, before, ahead_by, ahead_in, clock_by, clock_in, settings_in}
use Rattle.ttx_logbook.proofs.CutLaws.{after_key, key_after, cut_mark, mark_cut}
use Rattle.ttx_logbook.proofs.NumberLaws.{step, number_read, number_is, decimal_lacks, keyed_read, keyed_is}
use Rattle.ttx_logbook.proofs.SecondLaws.{second_lacks, second_read, second_is}

-- ---- one of two keys

either_read : (first second : List ℕ) → ((rest : List ℕ) → after first (second ++ rest) ≡ None) → (b : Bool) (rest : List ℕ) →
    either first second (either_text first second b rest) ≡ Some (b, rest)
unfolding either
either_read first second apart true rest = ap (λ o. or_second o (after second (first ++ rest))) (after_key first rest)
either_read first second apart false rest =
    ap (λ o. or_second o (after second (second ++ rest))) (apart rest) ∙ ap (λ o. or_second None o) (after_key second rest)

either_is : (first second text : List ℕ) (b : Bool) (rest : List ℕ) → either first second text ≡ Some (b, rest) → text ≡ either_text first second b rest
unfolding either
either_is first second text b rest is = by (after first text) (after second text) refl refl is
  where
    by : (x y : Option (List ℕ)) → after first text ≡ x → after second text ≡ y → or_second x y ≡ Some (b, rest) → text ≡ either_text first second b rest
    by (Some r) y x_is y_is is =
        subst (λ p. text ≡ either_text first second p.0 p.1) (same_Some (true, r) (b, rest) is) (key_after first text r x_is)
    by None None x_is y_is is = absurd (none-some (b, rest) is)
    by None (Some r) x_is y_is is =
        subst (λ p. text ≡ either_text first second p.0 p.1) (same_Some (false, r) (b, rest) is) (key_after second text r y_is)

late_apart : (rest : List ℕ) → after (codes "late ") (codes "at-once " ++ rest) ≡ None
unfolding after
late_apart rest = refl

spread_apart : (rest : List ℕ) → after (codes "spread ") (codes "plain " ++ rest) ≡ None
unfolding after
spread_apart rest = refl

zone_apart : (rest : List ℕ) → after (codes "zone ") (codes "ahead " ++ rest) ≡ None
unfolding after
zone_apart rest = refl

-- ---- numbers in a range

ranged_read : (key : List ℕ) (n most : ℕ) (rest : List ℕ) → n < 2 ^ 32 → 1 ≤ n → n ≤ most → ranged_number key most (keyed_text key n 32 rest) ≡ Some (n, rest)
unfolding ranged_number
ranged_read key n most rest small low high =
    let a : nat_le 1 n ≡ true = grind (arith, nat_tests) in
    let b : nat_le n most ≡ true = grind (arith, nat_tests) in
    ap (λ o. o >>= (λ p. if nat_le 1 p.0 && nat_le p.0 most then Some p else None)) (keyed_read key n 32 rest refl small)
    ∙ cond-true (nat_le 1 n && nat_le n most) (Some (n, rest)) None (and_from _ _ a b)

ranged_is : (key : List ℕ) (most : ℕ) (text : List ℕ) (n : ℕ) (rest : List ℕ) → ranged_number key most text ≡ Some (n, rest) →
    (text ≡ keyed_text key n 32 rest) × (1 ≤ n) × (n ≤ most)
unfolding ranged_number
ranged_is key most text n rest is =
    step (keyed_number key 32 text) _ (n, rest) ((text ≡ keyed_text key n 32 rest) × (1 ≤ n) × (n ≤ most)) is (λ p p_is then_p.
    let c = cond_some (nat_le 1 p.0 && nat_le p.0 most) p (n, rest) then_p in
    let parts = and_parts (nat_le 1 p.0) (nat_le p.0 most) c.0 in
    let a = parts.0 in
    let b = parts.1 in
    let low : 1 ≤ p.0 = grind (arith, nat_tests) in
    let high : p.0 ≤ most = grind (arith, nat_tests) in
    subst (λ q. (text ≡ keyed_text key q.0 32 q.1) × (1 ≤ q.0) × (q.0 ≤ most)) c.1 ((keyed_is key 32 text p.0 p.1 p_is).0, low, high))

-- ---- the parts of the line

abbrev IsPromise : PromiseFields → Type 0
IsPromise p = ((1 ≤ p.within) × (p.within ≤ 1000000)) × ((1 ≤ p.repeat) × (p.repeat ≤ 8))

promise_read : (p : PromiseFields) (rest : List ℕ) → IsPromise p → promise_in (promise_text p rest) ≡ Some (p, rest)
unfolding promise_in
promise_read p rest is =
    let within = is.0 in
    let repeat = is.1 in
    ap (λ o. o >>= (λ within. ranged_number (codes "repeat ") 8 within.1 >>= (λ repeat. either (codes "late ") (codes "at-once ") repeat.1
    >>= (λ late. either (codes "spread ") (codes "plain ") late.1 >>= (λ spread.
    Some (record { within = within.0; repeat = repeat.0; late = late.0; spread = spread.0 }, spread.1))))))
    (ranged_read (codes "air within ") p.within 1000000 _ (omega (arith, within)) within.0 within.1)
    ∙ ap (λ o. o >>= (λ repeat. either (codes "late ") (codes "at-once ") repeat.1
    >>= (λ late. either (codes "spread ") (codes "plain ") late.1 >>= (λ spread.
    Some (record { within = p.within; repeat = repeat.0; late = late.0; spread = spread.0 }, spread.1)))))
    (ranged_read (codes "repeat ") p.repeat 8 _ (omega (arith, repeat)) repeat.0 repeat.1)
    ∙ ap (λ o. o >>= (λ late. either (codes "spread ") (codes "plain ") late.1 >>= (λ spread.
    Some (record { within = p.within; repeat = p.repeat; late = late.0; spread = spread.0 }, spread.1))))
    (either_read (codes "late ") (codes "at-once ") late_apart p.late _)
    ∙ ap (λ o. o >>= (λ spread. Some (record { within = p.within; repeat = p.repeat; late = p.late; spread = spread.0 }, spread.1)))
    (either_read (codes "spread ") (codes "plain ") spread_apart p.spread rest)

promise_is : (text : List ℕ) (p : PromiseFields) (rest : List ℕ) → promise_in text ≡ Some (p, rest) → (text ≡ promise_text p rest) × IsPromise p
unfolding promise_in
promise_is text p rest is =
    let C = (text ≡ promise_text p rest) × IsPromise p in
    step _ _ (p, rest) C is (λ within within_is then_within.
    step _ _ (p, rest) C then_within (λ repeat repeat_is then_repeat.
    step _ _ (p, rest) C then_repeat (λ late late_is then_late.
    step _ _ (p, rest) C then_late (λ spread spread_is end.
    let a = ranged_is (codes "air within ") 1000000 text within.0 within.1 within_is in
    let b = ranged_is (codes "repeat ") 8 within.1 repeat.0 repeat.1 repeat_is in
    let c = either_is (codes "late ") (codes "at-once ") repeat.1 late.0 late.1 late_is in
    let d = either_is (codes "spread ") (codes "plain ") late.1 spread.0 spread.1 spread_is in
    subst (λ q. (text ≡ promise_text q.0 q.1) × IsPromise q.0)
    (same_Some (record { within = within.0; repeat = repeat.0; late = late.0; spread = spread.0 }, spread.1) (p, rest) end) (
      a.0 ∙ ap (λ r. keyed_text (codes "air within ") within.0 32 r)
          (b.0 ∙ ap (λ r. keyed_text (codes "repeat ") repeat.0 32 r) (c ∙ ap (λ r. either_text (codes "late ") (codes "at-once ") late.0 r) d)),
      ((a.1, a.2), (b.1, b.2)),
    )))))

size_read : (s : SizeFields) (rest : List ℕ) → s.lines < 2 ^ 32 → s.fields < 2 ^ 32 → size_in (size_text s rest) ≡ Some (s, rest)
unfolding size_in
size_read s rest lines fields =
    ap (λ o. o >>= (λ lines. keyed_number (codes "fields ") 32 lines.1 >>= (λ fields. Some (record { lines = lines.0; fields = fields.0 }, fields.1))))
    (keyed_read (codes "lines ") s.lines 32 _ refl lines)
    ∙ ap (λ o. o >>= (λ fields. Some (record { lines = s.lines; fields = fields.0 }, fields.1))) (keyed_read (codes "fields ") s.fields 32 rest refl fields)

size_is : (text : List ℕ) (s : SizeFields) (rest : List ℕ) → size_in text ≡ Some (s, rest) →
    (text ≡ size_text s rest) × (s.lines < 2 ^ 32) × (s.fields < 2 ^ 32)
unfolding size_in
size_is text s rest is =
    let C = (text ≡ size_text s rest) × (s.lines < 2 ^ 32) × (s.fields < 2 ^ 32) in
    step _ _ (s, rest) C is (λ lines lines_is then_lines.
    step _ _ (s, rest) C then_lines (λ fields fields_is end.
    let a = keyed_is (codes "lines ") 32 text lines.0 lines.1 lines_is in
    let b = keyed_is (codes "fields ") 32 lines.1 fields.0 fields.1 fields_is in
    subst (λ q. (text ≡ size_text q.0 q.1) × (q.0.lines < 2 ^ 32) × (q.0.fields < 2 ^ 32))
    (same_Some (record { lines = lines.0; fields = fields.0 }, fields.1) (s, rest) end)
    (a.0 ∙ ap (λ r. keyed_text (codes "lines ") lines.0 32 r) b.0, a.1, b.1)))

begin_read : (b : BeginFields) (rest : List ℕ) → b.mjd < 100000 → b.second < 86400 → begin_in (begin_text b rest) ≡ Some (b, rest)
unfolding begin_in
begin_read b rest mjd second =
    let few : nat_lt b.mjd 100000 ≡ true = grind (arith, nat_tests) in
    ap (λ o. o >>= (λ mjd. cut 32 mjd.1 >>= (λ parts. second_in parts.0 >>= (λ second.
    if nat_lt mjd.0 100000 then Some (record { mjd = mjd.0; second = second }, parts.1) else None))))
    (keyed_read (codes "at ") b.mjd 47 _ refl (omega arith))
    ∙ ap (λ o. o >>= (λ parts. second_in parts.0 >>= (λ second.
    if nat_lt b.mjd 100000 then Some (record { mjd = b.mjd; second = second }, parts.1) else None)))
    (cut_mark 32 (second_text b.second) rest (second_lacks b.second))
    ∙ ap (λ o. o >>= (λ second. if nat_lt b.mjd 100000 then Some (record { mjd = b.mjd; second = second }, rest) else None)) (second_read b.second second)
    ∙ cond-true (nat_lt b.mjd 100000) (Some (b, rest)) None few

begin_is : (text : List ℕ) (b : BeginFields) (rest : List ℕ) → begin_in text ≡ Some (b, rest) →
    (text ≡ begin_text b rest) × (b.mjd < 100000) × (b.second < 86400)
unfolding begin_in
begin_is text b rest is =
    let C = (text ≡ begin_text b rest) × (b.mjd < 100000) × (b.second < 86400) in
    step _ _ (b, rest) C is (λ mjd mjd_is then_mjd.
    step _ _ (b, rest) C then_mjd (λ parts parts_are then_parts.
    step _ _ (b, rest) C then_parts (λ second second_is_in end.
    let c = cond_some (nat_lt mjd.0 100000) (record { mjd = mjd.0; second = second }, parts.1) (b, rest) end in
    let test = c.0 in
    let few : mjd.0 < 100000 = grind (arith, nat_tests) in
    let n = keyed_is (codes "at ") 47 text mjd.0 mjd.1 mjd_is in
    let cuts = mark_cut 32 mjd.1 parts.0 parts.1 parts_are in
    let s = second_is parts.0 second second_is_in in
    subst (λ q. (text ≡ begin_text q.0 q.1) × (q.0.mjd < 100000) × (q.0.second < 86400)) c.1
    (n.0 ∙ ap (λ r. keyed_text (codes "at ") mjd.0 47 r) (cuts.0 ∙ ap (λ w. w ++ 32 ∷ parts.1) s.0), few, s.1))))

-- ---- the clock

no_sign : (n : ℕ) → n < 2 ^ 32 → after (codes "-") (decimal n) ≡ None
no_sign n small = by (after (codes "-") (decimal n)) refl
  where
    by : (o : Option (List ℕ)) → after (codes "-") (decimal n) ≡ o → o ≡ None
    by None is = refl
    by (Some rest) is =
        let lacks = subst (Lacks 45) (key_after (codes "-") (decimal n) rest is) (decimal_lacks 45 n refl small) in
        absurd (true≢false (sym (and_parts (not (45 == 45)) (list_all (λ b. not (b == 45)) rest) lacks).0))

ahead_read : (z : ℤ) → nat_abs z < 86400 → ahead_in (signed_decimal z) ≡ Some z
unfolding ahead_in
ahead_read (pos n) small =
    let few : nat_lt n 86400 ≡ true = grind (arith, nat_tests) in
    ap (λ o. ahead_by o (decimal n)) (no_sign n (omega arith)) ∙ ap before (number_read n (omega arith)) ∙ cond-true (nat_lt n 86400) (Some (pos n)) None few
ahead_read (negsuc n) small =
    let some : nat_lt 0 (suc n) ≡ true = grind (arith, nat_tests) in
    let few : nat_lt (suc n) 86400 ≡ true = grind (arith, nat_tests) in
    ap (λ o. ahead_by o (signed_decimal (negsuc n))) (after_key (codes "-") (decimal (suc n))) ∙ ap behind (number_read (suc n) (omega arith))
    ∙ cond-true (nat_lt 0 (suc n) && nat_lt (suc n) 86400) (Some (negsuc n)) None (and_from _ _ some few)

behind_is : (z : ℤ) (digits : List ℕ) (o : Option ℕ) → number_in digits ≡ o → behind o ≡ Some z → (45 ∷ digits ≡ signed_decimal z) × (nat_abs z < 86400)
behind_is z digits None is goes = absurd (none-some z goes)
behind_is z digits (Some zero) is goes = absurd (none-some z goes)
behind_is z digits (Some (suc n)) is goes =
    let c = cond_some (nat_lt 0 (suc n) && nat_lt (suc n) 86400) (negsuc n) z goes in
    let test = (and_parts (nat_lt 0 (suc n)) (nat_lt (suc n) 86400) c.0).1 in
    let few : suc n < 86400 = grind (arith, nat_tests) in
    subst (λ z. (45 ∷ digits ≡ signed_decimal z) × (nat_abs z < 86400)) c.1 (ap (λ d. 45 ∷ d) (number_is digits (suc n) is).0, few)

before_is : (z : ℤ) (word : List ℕ) (o : Option ℕ) → number_in word ≡ o → before o ≡ Some z → (word ≡ signed_decimal z) × (nat_abs z < 86400)
before_is z word None is goes = absurd (none-some z goes)
before_is z word (Some n) is goes =
    let c = cond_some (nat_lt n 86400) (pos n) z goes in
    let test = c.0 in
    let few : n < 86400 = grind (arith, nat_tests) in
    subst (λ z. (word ≡ signed_decimal z) × (nat_abs z < 86400)) c.1 ((number_is word n is).0, few)

ahead_is : (word : List ℕ) (z : ℤ) → ahead_in word ≡ Some z → (word ≡ signed_decimal z) × (nat_abs z < 86400)
unfolding ahead_in
ahead_is word z is = by (after (codes "-") word) refl is
  where
    by : (o : Option (List ℕ)) → after (codes "-") word ≡ o → ahead_by o word ≡ Some z → (word ≡ signed_decimal z) × (nat_abs z < 86400)
    by (Some digits) o_is is =
        let b = behind_is z digits (number_in digits) refl is in (key_after (codes "-") word digits o_is ∙ b.0, b.1)
    by None o_is is = before_is z word (number_in word) refl is

clock_read : (c : ClockFields) → IsClock c → clock_in (clock_text c) ≡ Some c
unfolding clock_in
clock_read (Zone name) is = ap (λ o. clock_by o (after (codes "ahead ") (codes "zone " ++ name))) (after_key (codes "zone ") name)
clock_read (Ahead z) is =
    ap (λ o. clock_by o (after (codes "ahead ") (codes "ahead " ++ signed_decimal z))) (zone_apart (signed_decimal z))
    ∙ ap (λ o. clock_by None o) (after_key (codes "ahead ") (signed_decimal z))
    ∙ ap (λ o. o >>= (λ seconds. Some (Ahead seconds))) (ahead_read z is)

clock_is : (text : List ℕ) (c : ClockFields) → clock_in text ≡ Some c → (text ≡ clock_text c) × IsClock c
unfolding clock_in
clock_is text c is = by (after (codes "zone ") text) refl is
  where
    by : (o : Option (List ℕ)) → after (codes "zone ") text ≡ o → clock_by o (after (codes "ahead ") text) ≡ Some c → (text ≡ clock_text c) × IsClock c
    by (Some name) o_is is =
        subst (λ c. (text ≡ clock_text c) × IsClock c) (same_Some (Zone name) c is) (key_after (codes "zone ") text name o_is, tt)
    by None o_is is =
        let C = (text ≡ clock_text c) × IsClock c in
        step _ _ c C is (λ word word_is then_word.
        step _ _ c C then_word (λ z z_is end.
        let a = ahead_is word z z_is in
        subst (λ c. (text ≡ clock_text c) × IsClock c) (same_Some (Ahead z) c end)
        (key_after (codes "ahead ") text word word_is ∙ ap (λ w. codes "ahead " ++ w) a.0, a.1)))

-- ---- the line

pub settings_read : (s : SettingsFields) → IsSettings s → settings_in (settings_text s) ≡ Some s
unfolding settings_in settings_text
settings_read s is =
    ap (λ o. o >>= (λ promise. size_in promise.1 >>= (λ size. begin_in size.1 >>= (λ begin. clock_in begin.1 >>= (λ clock.
    Some (record { promise = promise.0; size = size.0; begin = begin.0; clock = clock }))))))
    (promise_read s.promise _ (is.within, is.repeat))
    ∙ ap (λ o. o >>= (λ size. begin_in size.1 >>= (λ begin. clock_in begin.1 >>= (λ clock.
    Some (record { promise = s.promise; size = size.0; begin = begin.0; clock = clock }))))) (size_read s.size _ is.lines is.fields)
    ∙ ap (λ o. o >>= (λ begin. clock_in begin.1 >>= (λ clock.
    Some (record { promise = s.promise; size = s.size; begin = begin.0; clock = clock })))) (begin_read s.begin _ is.mjd is.second)
    ∙ ap (λ o. o >>= (λ clock. Some (record { promise = s.promise; size = s.size; begin = s.begin; clock = clock }))) (clock_read s.clock is.clock)

pub settings_is : (line : List ℕ) (s : SettingsFields) → Lacks 10 line → settings_in line ≡ Some s → (line ≡ settings_text s) × IsSettings s
unfolding settings_in settings_text
settings_is line s one is =
    let C = (line ≡ settings_text s) × IsSettings s in
    step _ _ s C is (λ promise promise_is_in then_promise.
    step _ _ s C then_promise (λ size size_is_in then_size.
    step _ _ s C then_size (λ begin begin_is_in then_begin.
    step _ _ s C then_begin (λ clock clock_is_in end.
    let a = promise_is line promise.0 promise.1 promise_is_in in
    let b = size_is promise.1 size.0 size.1 size_is_in in
    let c = begin_is size.1 begin.0 begin.1 begin_is_in in
    let d = clock_is begin.1 clock clock_is_in in
    let read : SettingsFields = record { promise = promise.0; size = size.0; begin = begin.0; clock = clock } in
    let whole : line ≡ promise_text promise.0 (size_text size.0 (begin_text begin.0 (clock_text clock))) =
    a.0 ∙ ap (promise_text promise.0) (b.0 ∙ ap (size_text size.0) (c.0 ∙ ap (begin_text begin.0) d.0)) in
    subst (λ s. (line ≡ settings_text s) × IsSettings s) (same_Some read s end) (
      whole,
      record {
        within = a.1.0;
        repeat = a.1.1;
        lines = b.1;
        fields = b.2;
        mjd = c.1;
        second = c.2;
        clock = d.1;
        line = subst (Lacks 10) whole one;
      },
    )))))
