-- At repeat 1 each text byte of the page comes right, whatever a receiver does with bytes of even parity.
use Rattle.std.proofs.Common.{◌≡◌, ℕ, ◌<◌, ℤ, pos, ◌+ℤ◌, Bool, true, false, List, [], ◌∷◌, length, get_or}
use Rattle.std.proofs.Common.{refl, sym, ap, ◌∙◌, subst, inl, inr, arith}
use Rattle.std.proofs.lemmas.Int.{ints}
use Rattle.ttx_code.specs.Words.{is_odd}
use Rattle.ttx_page.specs.Pages.{Page, needed}
use Rattle.ttx_page.specs.declared.item.Item.{Item}
use Rattle.ttx_page.specs.declared.item.Item.TheVariants.{Head as TheHead, Row as TheRow}
use Rattle.ttx_page.specs.Streams.{Stream, repeated, IsTransmission}
use Rattle.ttx_page.specs.Receptions.{IsTextByte, IsRight, OneIs, Received}
use Rattle.ttx_page.proofs.SlotDistances.{offset}
use Rattle.ttx_rows.specs.RowReceptions.{IsWhole, RowsArrive, NoRowIsTorn, ReceivedByRows, HeadsArrive, LateHeadsArrive}
use Rattle.ttx_rows.specs.RowReceivers.{Manner, spoils_heads}
use Rattle.ttx_rows.specs.Laws.{SentRowsAreOdd, AcceptedIsSeenByRows, AcceptedIsShownByRows, OnceIsForAll, SeenOnceByAll, ShownOnceByAll}
use Rattle.ttx_rows.proofs.ManySlots.{all_sent, whole_is_right}

module _ (s : Stream) (p : Page) (repeat : ℕ) (once : repeat ≡ 1) (tau : ℤ) (received : List (List ℕ)) (rule : Received s p.id repeat tau received)
    (odd : (r : ℕ) → needed p (TheRow r) ≡ true → (j : ℤ) → IsTransmission s p.id (TheRow r) j → (x : ℕ) → IsTextByte (TheRow r) x →
    is_odd (get_or (s j) x 0) ≡ true) where
  -- each transmission has each byte of its text right
  right : (item : Item) (x : ℕ) → IsTextByte item x → (n : ℕ) → n < length received → IsTransmission s p.id item (tau +ℤ pos n) →
      get_or (get_or received n []) x 0 ≡ get_or (s (tau +ℤ pos n)) x 0
  right item x text n lt sent =
      let one : OneIs (IsRight s tau received x) ((tau +ℤ pos n) ∷ []) =
      rule.one_right item x text ((tau +ℤ pos n) ∷ []) (sym once) sent ((omega (arith, ints), omega (arith, ints)), tt) in
      elim one as (λ _. get_or (get_or received n []) x 0 ≡ get_or (s (tau +ℤ pos n)) x 0) [
        | inl r ↦
            let place = r.place in
            let same : r.index ≡ n = omega (arith, ints) in
            subst (λ k. get_or (get_or received k []) x 0 ≡ get_or (s (tau +ℤ pos n)) x 0) same r.right
        | inr none ↦ absurd none
      ]

  whole : (r : ℕ) → needed p (TheRow r) ≡ true → (n : ℕ) → n < length received → IsTransmission s p.id (TheRow r) (tau +ℤ pos n) →
      IsWhole (s (tau +ℤ pos n)) (get_or received n [])
  whole r need n lt sent = record {
    may = rule.each n lt;
    right = λ x low high. right (TheRow r) x (low, high) n lt sent;
    odd = λ x low high. ap is_odd (right (TheRow r) x (low, high) n lt sent) ∙ odd r need (tau +ℤ pos n) sent x (low, high);
  }

  rows_whole : RowsArrive true s p repeat tau received
  rows_whole r need [] count run among = absurd (omega arith)
  rows_whole r need (j ∷ slots) count run among =
      let low = among.0.0 in
      let high = among.0.1 in
      let k = offset tau j low in
      let place = k.1 in
      let inside : k.0 < length received = omega (arith, ints) in
      let sent = (all_sent s p.id (TheRow r) (j ∷ slots) run).0 in
      inl (record {
        index = k.0;
        place = k.1;
        whole = subst (λ i. IsWhole (s i) (get_or received k.0 [])) (sym k.1)
            (whole r need k.0 inside (subst (IsTransmission s p.id (TheRow r)) k.1 sent));
      })

  rows : (refuses : Bool) → RowsArrive refuses s p repeat tau received
  rows true = rows_whole
  rows false = whole_is_right s p repeat tau received rows_whole

  untorn : (stores : Bool) → NoRowIsTorn stores s p tau received
  untorn true = λ r need n lt sent. inr (whole r need n lt sent)
  untorn false = tt

  pub all_rows : (how : Manner) → ReceivedByRows how s p repeat tau received
  all_rows how = record { each = λ n lt. inl (rule.each n lt); rows = rows how.refuses; untorn = untorn how.stores }

  pub last_heads : (spoils : Bool) → HeadsArrive spoils s p.id repeat tau received
  last_heads true = λ n is x text. right TheHead x text n is.0 (record { owner = tau +ℤ pos n; owned = (refl, is.1) })
  last_heads false = λ x text slots count run among. rule.one_right TheHead x text slots count run among

  pub all_heads : (spoils : Bool) → LateHeadsArrive spoils s p.id repeat tau received
  all_heads true = λ n is x text. right TheHead x text n is.0 (record { owner = tau +ℤ pos n; owned = (refl, is.1) })
  all_heads false = λ x text slots count run among. rule.one_right TheHead x text slots count run among

pub once_is_for_all : SentRowsAreOdd → OnceIsForAll
once_is_for_all odd cycle pages w is_cycle are_pages accepts once n p here how tau received rule = (
  all_rows (repeated cycle) p w.repeat once tau received rule (odd cycle pages w is_cycle are_pages accepts n p here) how,
  last_heads (repeated cycle) p w.repeat once tau received rule (odd cycle pages w is_cycle are_pages accepts n p here) (spoils_heads how),
  all_heads (repeated cycle) p w.repeat once tau received rule (odd cycle pages w is_cycle are_pages accepts n p here) (spoils_heads how),
)

pub seen_once_by_all : SentRowsAreOdd → AcceptedIsSeenByRows → SeenOnceByAll
seen_once_by_all odd seen cycle pages w is_cycle are_pages is_certificate accepts once n p here how sel fits tau former m received is_former rule long
    run =
    let r = once_is_for_all odd cycle pages w is_cycle are_pages accepts once n p here how tau received rule in
    ((seen cycle pages w is_cycle are_pages is_certificate accepts n p here).shown how sel fits tau former m received is_former r.0 long run).1 r.1

pub shown_once_by_all : SentRowsAreOdd → AcceptedIsShownByRows → ShownOnceByAll
shown_once_by_all odd shown cycle pages w is_cycle are_pages is_certificate accepts once n p here gap followed how sel fits tau former d received
    is_former rule long run =
    let r = once_is_for_all odd cycle pages w is_cycle are_pages accepts once n p here how tau received rule in
    let s = shown cycle pages w is_cycle are_pages is_certificate accepts n p here gap followed in
    (s.shown how sel fits tau former d received is_former r.0 long run).1 r.2
