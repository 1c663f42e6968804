use Rattle.std.proofs.Common.{◌≡◌, ℕ, ◌+◌, ◌-◌, ◌*◌, ◌/◌, ◌%◌, ◌<◌, ◌≤◌, List, length, length-take-le, take, sym, ap, ◌∙◌, arith}
use Rattle.std.proofs.Math.Nat.{add-mul, mul-le-mul_left}
use Rattle.ttx_air.specs.Newsrooms.{candidate_of}
use Rattle.ttx_air.specs.LogLines.{tick_at, end_line}
use Rattle.ttx_air.specs.Airings.{written_of}
use Rattle.ttx_air.proofs.AddedLines.{adds_same, adds_since}
use Rattle.ttx_air.proofs.PiecesOfAir.{opening_at, nothing_sent, air_so_far_more, so_far_at, air_cut, air_whole}
use Rattle.ttx_air.proofs.airing.air.Goals as goal

-- a piece ends with its second, or amid it
same_second : (field m : ℕ) → 0 < m → ((n : ℕ) → n < m → (field + n) / 50 ≡ field / 50) → 0 < (field + m) % 50 → field / 50 ≡ (field + m) / 50
same_second field m some second amid =
    let e : (field + (m - 1)) / 50 ≡ field / 50 = second (m - 1) (omega arith) in
    omega (arith, e, amid)

piece_long : (bytes : List ℕ) (slots : ℕ) → length bytes ≡ 5376 → slots ≤ 128 → length (take (42 * slots) bytes) ≡ 42 * slots
piece_long bytes slots long few = length-take-le (42 * slots) bytes (omega (arith, long, few))

pub loop-field-init : goal.loop-field-init
loop-field-init g c =
    let opening = c.in_ok-on_air.ensures in
    let is_lines : c.from-lines.result ≡ (candidate_of c.args.first).edition.certificate.lines =
    c.from-lines.ensures ∙ c.lines.ensures ∙ ap (λ e. e.certificate.lines) (c.current.ensures ∙ opening.start.0) in
    record {
      count = omega arith;
      few = omega arith;
      inside = omega arith;
      stamp = λ amid. absurd (omega (arith, amid));
      so_far = nothing_sent c.args.newsroom.now c.from-lines.result c.faults-started.result _
          (opening_at (ap (tick_at 0) c.after-begin.ensures) opening) is_lines c.faults-started.ensures;
    }

pub loop-field-preserved : goal.loop-field-preserved
loop-field-preserved g c =
    let piece = c.next_piece-piece.result in
    let m = piece.fields in
    let lines = c.from-lines.result in
    let field = c.loop-field.field in
    let opening = c.in_ok-on_air.ensures in
    let edition = opening.on_air.on_air.editions in
    let is_lines : lines ≡ (candidate_of c.args.first).edition.certificate.lines =
    c.from-lines.ensures ∙ c.lines.ensures ∙ ap (λ e. e.certificate.lines) (c.current.ensures ∙ opening.start.0) in
    let some : 0 < lines = omega (arith, is_lines, edition.certificate.some_lines) in
    let most : lines ≤ 32 = omega (arith, is_lines, edition.certificate.few_lines) in
    let wide : m * lines ≤ m * 32 = mul-le-mul_left m most in
    let load = c.next_load-load.result in
    let count : load.slots ≡ m * lines = c.next_load-load.ensures.slots ∙ c.next_piece-piece.ensures.slots in
    let fits : load.slots ≤ 128 = omega (arith, c.next_load-load.ensures.slots, c.next_piece-piece.ensures.fits) in
    let long = piece_long c.piece_bytes-bytes.result load.slots c.piece_bytes-bytes.ensures.long fits in
    let s = c.loop-field.invariant.so_far in
    let sends = c.piece_bytes-bytes.ensures.so_far c.args.newsroom.now (candidate_of c.args.first) (written_of g.L.Write.contents c.args.outputs.now.log)
    s.past s.slots (sym s.long) s.so_far in
    record {
      count = omega (arith, c.loop-field.invariant.count, c.piece_bytes-bytes.ensures.sent, count, add-mul field m lines);
      few = omega (arith, c.loop-field.invariant.few, c.piece_bytes-bytes.ensures.sent, wide, count);
      inside = c.next_piece-piece.ensures.inside;
      stamp = λ amid.
          c.next_load-load.ensures.time
          ∙ ap (g.C.Clock.shows c.args.airtime.now.clock)
          (same_second field m c.next_piece-piece.ensures.some c.next_piece-piece.ensures.second amid);
      so_far = so_far_at (sym c.piece_bytes-bytes.ensures.sent)
          (air_so_far_more _ field m s some c.loop-field.invariant.count count c.next_piece-piece.ensures.second
          c.next_load-load.ensures.time sends long c.in_default.ensures.bytes);
    }

pub returns-in-Err : goal.returns-in-Err
returns-in-Err g c =
    let piece = c.next_piece-piece.result in
    let m = piece.fields in
    let lines = c.from-lines.result in
    let field = c.loop-field.field in
    let opening = c.in_ok-on_air.ensures in
    let edition = opening.on_air.on_air.editions in
    let is_lines : lines ≡ (candidate_of c.args.first).edition.certificate.lines =
    c.from-lines.ensures ∙ c.lines.ensures ∙ ap (λ e. e.certificate.lines) (c.current.ensures ∙ opening.start.0) in
    let some : 0 < lines = omega (arith, is_lines, edition.certificate.some_lines) in
    let load = c.next_load-load.result in
    let count : load.slots ≡ m * lines = c.next_load-load.ensures.slots ∙ c.next_piece-piece.ensures.slots in
    let fits : load.slots ≤ 128 = omega (arith, c.next_load-load.ensures.slots, c.next_piece-piece.ensures.fits) in
    let long = piece_long c.piece_bytes-bytes.result load.slots c.piece_bytes-bytes.ensures.long fits in
    let s = c.loop-field.invariant.so_far in
    let sends = c.piece_bytes-bytes.ensures.so_far c.args.newsroom.now (candidate_of c.args.first) (written_of g.L.Write.contents c.args.outputs.now.log)
    s.past s.slots (sym s.long) s.so_far in
    air_cut _ field m s some c.loop-field.invariant.count count c.next_piece-piece.ensures.second
    c.next_load-load.ensures.time sends long opening.served c.in-Err.fault.written c.written.result c.written.ensures c.in-Err.ensures.bytes.0 c.in-Err.ensures.bytes.1

pub returns : goal.returns
returns g c =
    let opening = c.in_ok-on_air.ensures in
    let is_lines : c.from-lines.result ≡ (candidate_of c.args.first).edition.certificate.lines =
    c.from-lines.ensures ∙ c.lines.ensures ∙ ap (λ e. e.certificate.lines) (c.current.ensures ∙ opening.start.0) in
    let all : c.loop-field.field ≡ c.args.airtime.now.fields = omega arith in
    let e : c.loop-field.station.sent ≡ c.args.airtime.now.fields * (candidate_of c.args.first).edition.certificate.lines =
    c.loop-field.invariant.count ∙ (λ i. all i * is_lines i) in
    let ended = adds_since c.entry_at-entry.ensures.started (adds_same (ap end_line c.entry_at-entry.ensures.tick) c.note_end.ensures) in
    air_whole opening.served c.loop-field.invariant.so_far c.args.airtime.now.fields e ended
