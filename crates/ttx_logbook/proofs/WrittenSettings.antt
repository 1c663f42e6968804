-- The parts of the first line, one after another.
use Rattle.std.proofs.Common.{◌≡◌, ℕ, Bool, List, [], ◌∷◌, ◌++◌, codes, append_assoc, if◌then◌else◌, sym, ap, ◌∙◌}
use Rattle.std.specs.Fmt.{decimal}
use Rattle.ttx_logbook.specs.LogTexts.{keyed_text, either_text, PromiseFields, SizeFields, BeginFields, SettingsFields, promise_text, size_text, second_text, begin_text, clock_text, settings_text}

keyed_more : (key : List ℕ) (n mark : ℕ) (rest more : List ℕ) → keyed_text key n mark (rest ++ more) ≡ keyed_text key n mark rest ++ more
keyed_more key n mark rest more =
    sym (append_assoc key (decimal n ++ mark ∷ rest) more ∙ ap (λ l. key ++ l) (append_assoc (decimal n) (mark ∷ rest) more))

either_more : (first second : List ℕ) (b : Bool) (rest more : List ℕ) → either_text first second b (rest ++ more) ≡ either_text first second b rest ++ more
either_more first second b rest more = sym (append_assoc (if b then first else second) rest more)

promise_then : (p : PromiseFields) (rest : List ℕ) → promise_text p rest ≡ promise_text p [] ++ rest
promise_then p rest =
    let spread = either_text (codes "spread ") (codes "plain ") p.spread [] in
    let late = either_text (codes "late ") (codes "at-once ") p.late spread in
    let repeat = keyed_text (codes "repeat ") p.repeat 32 late in
    ap (keyed_text (codes "air within ") p.within 32)
    (ap (keyed_text (codes "repeat ") p.repeat 32)
    (ap (either_text (codes "late ") (codes "at-once ") p.late) (either_more (codes "spread ") (codes "plain ") p.spread [] rest)
    ∙ either_more (codes "late ") (codes "at-once ") p.late spread rest)
    ∙ keyed_more (codes "repeat ") p.repeat 32 late rest)
    ∙ keyed_more (codes "air within ") p.within 32 repeat rest

size_then : (s : SizeFields) (rest : List ℕ) → size_text s rest ≡ size_text s [] ++ rest
size_then s rest =
    ap (keyed_text (codes "lines ") s.lines 32) (keyed_more (codes "fields ") s.fields 32 [] rest)
    ∙ keyed_more (codes "lines ") s.lines 32 (keyed_text (codes "fields ") s.fields 32 []) rest

begin_then : (b : BeginFields) (rest : List ℕ) → begin_text b rest ≡ begin_text b [] ++ rest
begin_then b rest =
    ap (keyed_text (codes "at ") b.mjd 47) (sym (append_assoc (second_text b.second) (32 ∷ []) rest))
    ∙ keyed_more (codes "at ") b.mjd 47 (second_text b.second ++ 32 ∷ []) rest

-- what is appended, part by part, is the line
pub written : (s : SettingsFields) (t0 t1 t2 t3 t4 t5 : List ℕ) → t0 ≡ [] → t1 ≡ t0 ++ promise_text s.promise [] → t2 ≡ t1 ++ size_text s.size [] →
    t3 ≡ t2 ++ begin_text s.begin [] → t4 ≡ t3 ++ clock_text s.clock → t5 ≡ t4 ++ 10 ∷ [] → t5 ≡ settings_text s ++ 10 ∷ []
unfolding settings_text
written s t0 t1 t2 t3 t4 t5 e0 e1 e2 e3 e4 e5 =
    let clock = clock_text s.clock in
    let p = promise_text s.promise [] in
    let z = size_text s.size [] in
    let b = begin_text s.begin [] in
    let line : settings_text s ≡ ((p ++ z) ++ b) ++ clock =
    promise_then s.promise _ ∙ ap (λ l. p ++ l) (size_then s.size _ ∙ ap (λ l. z ++ l) (begin_then s.begin clock))
    ∙ sym (append_assoc p z (b ++ clock)) ∙ sym (append_assoc (p ++ z) b clock) in
    e5 ∙ ap (λ l. l ++ 10 ∷ []) (e4 ∙ ap (λ l. l ++ clock) (e3 ∙ ap (λ l. l ++ b) (e2 ∙ ap (λ l. l ++ z) (e1 ∙ ap (λ l. l ++ p) e0))) ∙ sym line)
