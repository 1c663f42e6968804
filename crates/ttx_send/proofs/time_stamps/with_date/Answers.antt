use Rattle.std.proofs.Common.{◌≡◌, ℕ, List, get_or, ◌+◌, ◌*◌, ◌/◌, ◌++◌, ◌∷◌, [], sym, ap, ◌∙◌, take, drop, take_all, length, length-drop}
use Rattle.std.proofs.Common.{slice_index, arith}
use Rattle.ttx_send.specs.Times.{Moment, date_and_time, shown_offset}
use Rattle.ttx_info.specs.Infos.{half_byte}
use Rattle.ttx_send.proofs.time_stamps.with_date.Goals as goal

same_date : (front : List ℕ) (byte high : ℕ) (t : Moment) (offset : ℕ) (date : List ℕ) → offset ≡ shown_offset t.offset byte →
    date ≡ date_and_time 0 t →
    front ++ offset ∷ (16 * high + get_or date 0 0) ∷ get_or date 1 0 ∷ get_or date 2 0 ∷ get_or date 3 0 ∷ get_or date 4 0 ∷ get_or date 5 0
    ∷ [] ≡ front ++ shown_offset t.offset byte ∷ date_and_time high t
same_date front byte high t offset date o e =
    let low : get_or date 0 0 ≡ half_byte t.mjd 10000 = ap (λ d. get_or d 0 0) e ∙ omega arith in
    let first : 16 * high + get_or date 0 0 ≡ 16 * high + half_byte t.mjd 10000 = ap (λ n. 16 * high + n) low in
    λ i. front ++ o i ∷ first i ∷ get_or (e i) 1 0 ∷ get_or (e i) 2 0 ∷ get_or (e i) 3 0 ∷ get_or (e i) 4 0 ∷ get_or (e i) 5 0 ∷ []

pub returns : goal.returns
returns c =
    let s = c.args.slot.now in
    let b1 = c.put.new.bytes in
    let b2 = c.put-2.new.bytes in
    let t = c.args.stamp.now.moment in
    let seven : take 18 b1 ≡ take 11 s ++ shown_offset t.offset (slice_index s 11) ∷ date_and_time (slice_index s 12 / 16) t =
    c.put.ensures
    ∙ same_date (take 11 s) (slice_index s 11) (slice_index s 12 / 16) t c.shown_offset-offset.result c.args.stamp.now.date
    c.shown_offset-offset.ensures c.args.stamp.now.date_is in
    let size : length b2 ≡ 42 = c.put-2.array_long in
    let l24 : length (drop 18 s) ≡ 24 = omega (arith, length-drop 18 s, c.is_whole.ensures) in
    let t24 : take 24 (drop 18 s) ≡ drop 18 s = take_all 24 (drop 18 s) (omega (arith, l24)) in
    let all : take 42 b2 ≡ take 18 b1 ++ drop 18 s =
    let e : 18 + length (take 24 (drop 18 s)) ≡ 42 = omega (arith, l24, ap length t24) in
    ap (λ n. take n b2) (sym e) ∙ c.put-2.ensures ∙ ap (λ l. take 18 b1 ++ l) t24 in
    sym (take_all 42 b2 (omega (arith, size))) ∙ all ∙ ap (λ l. l ++ drop 18 s) seven
