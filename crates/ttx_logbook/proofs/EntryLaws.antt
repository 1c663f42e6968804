-- The lines behind the first one are read as they are written.
use Rattle.std.proofs.Common.{◌≡◌, ℕ, List, ◌∷◌, ◌++◌, codes, Option, Some, None, refl, sym, ap, ◌∙◌, subst, inl, inr}
use Rattle.std.proofs.lemmas.Bool.{cases_Bool, cond-true, cond-false}
use Rattle.std.proofs.lemmas.Option.{same_Some}
use Rattle.std.proofs.lemmas.Slice.Eq.{bytes_eq-Decides}
use Rattle.std.specs.Str.{bytes_eq}
use Rattle.ttx_logbook.specs.Cuts.{after, cut}
use Rattle.ttx_logbook.specs.Steps.{◌>>=◌}
use Rattle.ttx_logbook.specs.Numbers.{keyed_number}
use Rattle.ttx_logbook.specs.LogTexts.{Lacks, keyed_text, marked_text, StartFields, EventFields, Changed, Kept, Unread, End, EntryFields, at_field, event_text, start_text, entry_text, IsEvent, IsStart, IsEntry}
use Rattle.ttx_logbook.specs.EntryReading.{marked, by_key, or_else, changed_in, kept_in, event_in, start_in, entry_in}
use Rattle.ttx_logbook.proofs.CutLaws.{after_key, key_after, cut_mark, mark_cut}
use Rattle.ttx_logbook.proofs.NumberLaws.{step, keyed_read, keyed_is}

-- ---- marks

marked_read : (digest words : List ℕ) → Lacks 58 digest → marked (marked_text digest words) ≡ Some (digest, words)
unfolding marked
marked_read digest words lacks =
    ap (λ o. o >>= (λ parts. after (codes " ") parts.1 >>= (λ words. Some (parts.0, words)))) (cut_mark 58 digest (32 ∷ words) lacks)
    ∙ ap (λ o. o >>= (λ words. Some (digest, words))) (after_key (codes " ") words)

marked_is : (text digest words : List ℕ) → marked text ≡ Some (digest, words) → (text ≡ marked_text digest words) × Lacks 58 digest
unfolding marked
marked_is text digest words is =
    let C = (text ≡ marked_text digest words) × Lacks 58 digest in
    step (cut 58 text) _ (digest, words) C is (λ parts parts_are then_parts.
    step (after (codes " ") parts.1) _ (digest, words) C then_parts (λ r r_is end.
    let cuts = mark_cut 58 text parts.0 parts.1 parts_are in
    subst (λ p. (text ≡ marked_text p.0 p.1) × Lacks 58 p.0) (same_Some (parts.0, r) (digest, words) end)
    (cuts.0 ∙ ap (λ r. parts.0 ++ 58 ∷ r) (key_after (codes " ") parts.1 r r_is), cuts.1)))

-- ---- events

event_read : (e : EventFields) → IsEvent e → event_in (event_text e) ≡ Some e
unfolding event_in changed_in kept_in after
event_read (Changed digest words) lacks =
    ap (λ o. or_else (o >>= (λ p. Some (Changed p.0 p.1))) (kept_in (event_text (Changed digest words)))) (marked_read digest words lacks)
event_read (Kept digest words) lacks = ap (λ o. o >>= (λ p. Some (Kept p.0 p.1))) (marked_read digest words lacks)
event_read (Unread words) lacks = refl
event_read End lacks = refl

abbrev Says : List ℕ → EventFields → Type 0
Says text e = (text ≡ event_text e) × IsEvent e

changed_is : (text : List ℕ) (e : EventFields) → changed_in text ≡ Some e → Says text e
unfolding changed_in
changed_is text e is =
    step (after (codes "changed ") text) _ e (Says text e) is (λ r r_is then_r.
    step (marked r) _ e (Says text e) then_r (λ mark mark_is end.
    let m = marked_is r mark.0 mark.1 mark_is in
    subst (Says text) (same_Some (Changed mark.0 mark.1) e end)
    (key_after (codes "changed ") text r r_is ∙ ap (λ r. codes "changed " ++ r) m.0, m.1)))

kept_by : (text : List ℕ) (e : EventFields) (first : Option (List ℕ)) → after (codes "kept: ") text ≡ first →
    by_key first (λ words. Some (Unread words)) (after (codes "kept ") text) (λ rest. marked rest >>= (λ p. Some (Kept p.0 p.1))) ≡ Some e →
    Says text e
kept_by text e (Some words) here is = subst (Says text) (same_Some (Unread words) e is) (key_after (codes "kept: ") text words here, tt)
kept_by text e None other is =
    step (after (codes "kept ") text) _ e (Says text e) is (λ r r_is then_r.
    step (marked r) _ e (Says text e) then_r (λ mark mark_is end.
    let m = marked_is r mark.0 mark.1 mark_is in
    subst (Says text) (same_Some (Kept mark.0 mark.1) e end)
    (key_after (codes "kept ") text r r_is ∙ ap (λ r. codes "kept " ++ r) m.0, m.1)))

either_is : (text : List ℕ) (e : EventFields) (first : Option EventFields) → changed_in text ≡ first → or_else first (kept_in text) ≡ Some e →
    Says text e
unfolding kept_in
either_is text e (Some event) here is = changed_is text e (here ∙ is)
either_is text e None other is = kept_by text e (after (codes "kept: ") text) refl is

event_is : (text : List ℕ) (e : EventFields) → event_in text ≡ Some e → Says text e
unfolding event_in
event_is text e is = elim (cases_Bool (bytes_eq text (codes "end"))) [
  | inl end ↦
      let same = same_Some _ _ (sym (cond-true (bytes_eq text (codes "end")) (Some End) (or_else (changed_in text) (kept_in text)) end) ∙ is) in
      subst (Says text) same ((bytes_eq-Decides text (codes "end")).0 end, tt)
  | inr other ↦
      either_is text e (changed_in text) refl (sym (cond-false (bytes_eq text (codes "end")) (Some End) (or_else (changed_in text) (kept_in text)) other) ∙ is)
]

-- ---- lines

pub start_read : (s : StartFields) → IsStart s → start_in (start_text s) ≡ Some s
unfolding start_in start_text
start_read s is =
    let text = codes "on air " ++ marked_text s.digest s.words in
    let whole : (o : Option (ℕ × List ℕ)) → Option StartFields = λ o. o >>= (λ field. cut 32 field.1 >>= (λ parts. after (codes "on air ") parts.1
    >>= (λ text. marked text >>= (λ mark. Some (record { field = field.0; time = parts.0; digest = mark.0; words = mark.1 }))))) in
    let timed : (o : Option (List ℕ × List ℕ)) → Option StartFields = λ o. o >>= (λ parts. after (codes "on air ") parts.1
    >>= (λ text. marked text >>= (λ mark. Some (record { field = s.field; time = parts.0; digest = mark.0; words = mark.1 })))) in
    let keyed : (o : Option (List ℕ)) → Option StartFields = λ o. o
    >>= (λ text. marked text >>= (λ mark. Some (record { field = s.field; time = s.time; digest = mark.0; words = mark.1 }))) in
    ap whole (keyed_read (codes "field ") s.field 32 (s.time ++ 32 ∷ text) refl is.field)
    ∙ ap timed (cut_mark 32 s.time text is.time)
    ∙ ap keyed (after_key (codes "on air ") (marked_text s.digest s.words))
    ∙ ap (λ o. o >>= (λ mark. Some (record { field = s.field; time = s.time; digest = mark.0; words = mark.1 }))) (marked_read s.digest s.words is.digest)

pub start_is : (line : List ℕ) (s : StartFields) → Lacks 10 line → start_in line ≡ Some s → (line ≡ start_text s) × IsStart s
unfolding start_in start_text
start_is line s one is =
    let C = (line ≡ start_text s) × IsStart s in
    step (keyed_number (codes "field ") 32 line) _ s C is (λ field field_is then_field.
    step (cut 32 field.1) _ s C then_field (λ parts parts_are then_parts.
    step (after (codes "on air ") parts.1) _ s C then_parts (λ text text_is then_text.
    step (marked text) _ s C then_text (λ mark mark_is end.
    let number = keyed_is (codes "field ") 32 line field.0 field.1 field_is in
    let time = mark_cut 32 field.1 parts.0 parts.1 parts_are in
    let m = marked_is text mark.0 mark.1 mark_is in
    let event : parts.1 ≡ codes "on air " ++ marked_text mark.0 mark.1 = key_after (codes "on air ") parts.1 text text_is ∙ ap (λ r. codes "on air " ++ r) m.0 in
    let whole : line ≡ at_field field.0 parts.0 (codes "on air " ++ marked_text mark.0 mark.1) =
    number.0 ∙ ap (λ r. keyed_text (codes "field ") field.0 32 r) (time.0 ∙ ap (λ r. parts.0 ++ 32 ∷ r) event) in
    subst (λ s. (line ≡ start_text s) × IsStart s)
    (same_Some (record { field = field.0; time = parts.0; digest = mark.0; words = mark.1 }) s end)
    (whole, record { field = number.1; time = time.1; digest = m.1; line = subst (Lacks 10) whole one })))))

pub entry_read : (e : EntryFields) → IsEntry e → entry_in (entry_text e) ≡ Some e
unfolding entry_in entry_text
entry_read e is =
    ap (λ o. o >>= (λ field. cut 32 field.1 >>= (λ parts. event_in parts.1 >>= (λ event. Some (record { field = field.0; time = parts.0; event = event })))))
    (keyed_read (codes "field ") e.field 32 (e.time ++ 32 ∷ event_text e.event) refl is.field)
    ∙ ap (λ o. o >>= (λ parts. event_in parts.1 >>= (λ event. Some (record { field = e.field; time = parts.0; event = event })))) (cut_mark 32 e.time (event_text e.event) is.time)
    ∙ ap (λ o. o >>= (λ event. Some (record { field = e.field; time = e.time; event = event }))) (event_read e.event is.event)

pub entry_is : (line : List ℕ) (e : EntryFields) → Lacks 10 line → entry_in line ≡ Some e → (line ≡ entry_text e) × IsEntry e
unfolding entry_in entry_text
entry_is line e one is =
    let C = (line ≡ entry_text e) × IsEntry e in
    step (keyed_number (codes "field ") 32 line) _ e C is (λ field field_is then_field.
    step (cut 32 field.1) _ e C then_field (λ parts parts_are then_parts.
    step (event_in parts.1) _ e C then_parts (λ event event_is_in end.
    let number = keyed_is (codes "field ") 32 line field.0 field.1 field_is in
    let time = mark_cut 32 field.1 parts.0 parts.1 parts_are in
    let says = event_is parts.1 event event_is_in in
    let whole : line ≡ at_field field.0 parts.0 (event_text event) =
    number.0 ∙ ap (λ r. keyed_text (codes "field ") field.0 32 r) (time.0 ∙ ap (λ r. parts.0 ++ 32 ∷ r) says.0) in
    subst (λ e. (line ≡ entry_text e) × IsEntry e) (same_Some (record { field = field.0; time = parts.0; event = event }) e end)
    (whole, record { field = number.1; time = time.1; event = says.1; line = subst (Lacks 10) whole one }))))
