-- What a head-end has sent so far is seen.
use Rattle.std.proofs.Common.{◌≡◌, ℕ, zero, suc, ◌<◌, ℤ, pos, ◌+ℤ◌, ◌-ℤ◌, ◌<ℤ◌, ◌≤ℤ◌, nat_abs, List, [], length, get_or, sym, ap, ◌∙◌, subst, arith}
use Rattle.std.proofs.lemmas.Int.{ints}
use Rattle.ttx_page.specs.Streams.{Stream}
use Rattle.ttx_page.specs.Laws.{sent_from}
use Rattle.ttx_playout.specs.Schedules.{Edition, Showing, sent}
use Rattle.ttx_playout.specs.Takeovers.{HasSent}
use Rattle.ttx_playout.specs.declared.state.OnAir.{OnAir}
use Rattle.ttx_playout.specs.Laws.{SentSoFarIsSeen, HeadEndIsSeen, IsLogFrom}

sent_at : (s : Stream) (a : ℤ) (n k : ℕ) → k < n → get_or (sent_from s a n) k [] ≡ s (a +ℤ pos k)
sent_at s a zero k lt = absurd (omega arith)
sent_at s a (suc n) zero lt = let e : a ≡ a +ℤ pos 0 = omega (arith, ints) in ap s e
sent_at s a (suc n) (suc k) lt =
    let e : (a +ℤ pos 1) +ℤ pos k ≡ a +ℤ pos (suc k) = omega (arith, ints) in sent_at s (a +ℤ pos 1) n k (omega arith) ∙ ap s e

pub log_is_sent : (log : List (List ℕ)) (o : OnAir) (first : Edition) (later : List Showing) (has : HasSent log o first later) (s : Stream) →
    IsLogFrom log s (has.next -ℤ pos (length log)) → (i : ℤ) → (has.next -ℤ pos (length log)) ≤ℤ i → i <ℤ has.next → s i ≡ sent first later i
log_is_sent log o first later has s is_log i low high =
    let start = has.next -ℤ pos (length log) in
    let k = nat_abs (i -ℤ start) in
    let e : start +ℤ pos k ≡ i = omega (arith, ints) in
    let lt : k < length log = omega (arith, ints) in
    subst (λ z. s z ≡ sent first later z) e
    (is_log k lt ∙ ap (λ xs. get_or xs k []) (sym has.is_log) ∙ sent_at (sent first later) start (length log) k lt)

pub head_end_is_seen : SentSoFarIsSeen → HeadEndIsSeen
head_end_is_seen so_far log o first later has s is_log =
    so_far first later has.on_air.editions has.on_air.handed s (has.next -ℤ pos (length log)) has.next (log_is_sent log o first later has s is_log)
