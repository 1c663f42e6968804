-- The codes of an author's text are below 80.
use Rattle.std.proofs.Common.{◌≡◌, ℕ, ◌<◌, ◌≤◌, Bool, false, List, length, get_or, Ok, Result, arith, inl, inr, subst, sym, nat_lt}
use Rattle.std.proofs.lemmas.Bool.{cases_Bool, ltb-true, ltb-false}
use Rattle.std.proofs.lemmas.List.{get_or_past}
use Rattle.ttx_author.specs.declared.marks.Mark.{Mark}
use Rattle.ttx_author.specs.declared.marks.Mark.TheVariants.{Sign, Control, Stray}
use Rattle.ttx_author.specs.Marks.{Placed, marks_of}
use Rattle.ttx_author.specs.Rows.{code_at, codes_of, lack_at, why_not}
use Rattle.ttx_author.proofs.Codes.{nth_mark, codes_of-at, code_of-shows, shown_by-code, same-ok}
use Rattle.ttx_author.proofs.Written.{IsWritten, marks_from-below}

mark-below : (option place code : ℕ) (mosaic : Bool) (mark : Mark) → IsWritten mark → code_at option mosaic place mark ≡ Ok code → code < 128
mark-below option place code mosaic (Sign character) written e =
    (code_of-shows mosaic option character code (shown_by-code (lack_at place (why_not option mosaic character)) _ code e)).1
mark-below option place code mosaic (Control k) written e =
    let same : k ≡ code = same-ok k code e in
    let low : code < 0x20 = subst (λ n. n < 0x20) same written in
    omega arith
mark-below option place code mosaic Stray written e = cc

-- each code of a text is below 80
pub codes_of-below : (option room : ℕ) (text codes : List ℕ) → codes_of option false room (marks_of text) ≡ Ok codes → (c : ℕ) → get_or codes c 0 < 128
codes_of-below option room text codes e c =
    elim (cases_Bool (nat_lt c (length codes))) [
      | inl own ↦
          let found = codes_of-at option room false (marks_of text) codes c e (ltb-true c (length codes) own) in
          mark-below option found.0 (get_or codes c 0) _ (nth_mark (marks_of text) c) (marks_from-below 0 0 text c) found.1
      | inr past ↦
          let none : get_or codes c 0 ≡ 0 = get_or_past codes c 0 (ltb-false c (length codes) past) in
          omega arith
    ]
