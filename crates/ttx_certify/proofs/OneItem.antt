-- The first true reason of one item, from what one pass finds about its named starts.
use Rattle.std.proofs.Common.{◌≡◌, ℕ, ◌-◌, ◌<◌, ◌≤◌, pos, ◌+ℤ◌, true, false, List, [], length, slice_index_or, Option, Some, None, refl, sym, ap}
use Rattle.std.proofs.Common.{subst, inl, inr, arith}
use Rattle.std.specs.List.{Contains}
use Rattle.ttx_header.specs.Ids.{Id}
use Rattle.ttx_page.specs.Pages.{Page, IsBlank, needed}
use Rattle.ttx_page.specs.declared.class.Class.TheVariants.{Clearing}
use Rattle.ttx_page.specs.declared.item.Item.{Item}
use Rattle.ttx_page.specs.declared.item.Item.TheVariants.{Head as TheHead, Row as TheRow, Links as TheLinks}
use Rattle.ttx_page.specs.Streams.{run_length}
use Rattle.ttx_witness.specs.declared.runs.confirmation.Progress.{Progress}
use Rattle.ttx_witness.specs.declared.faults.reason.Reason.{Reason}
use Rattle.ttx_witness.specs.declared.faults.reason.Reason.TheVariants.{BadSlot, NoHeader, OtherSubpage, Erased, HeadDiffers, RowDiffers, LinksDiffer}
use Rattle.ttx_witness.specs.declared.faults.reason.Reason.TheVariants.{NoWitness, WitnessBad, Late, Unsteady, LateBlank}
use Rattle.ttx_witness.specs.runs.Confirming.{late_after}
use Rattle.ttx_witness.specs.Coverage.{Certificate, IsCertificate, limit}
use Rattle.ttx_witness.specs.laws.CycleLaws.{progress_of}
use Rattle.ttx_witness.specs.faults.Reasons.{HasNoWitness, WitnessBadAt, LateAt, LateBlankAt}
use Rattle.ttx_witness.specs.laws.JudgingLaws.{ItemsAreJudged, IsFirstOf, IsLateAnswer, IsHeaderAnswer}
use Rattle.ttx_certify.specs.ItemReasons.{reason_number, start_in, IsTrueOf, IsFine, IsFirstReason, IsItemReason}

abbrev pub late_reason : Id → Item → Option ℕ → Option Reason
late_reason page item None = None
late_reason page item (Some start) = Some (Late page item start)

abbrev pub blank_reason : Id → Item → Option ℕ → Option Reason
blank_reason page item None = None
blank_reason page item (Some header) = Some (LateBlank page item header)

pub some_run : (repeat : ℕ) (item : Item) → 1 ≤ repeat → 1 ≤ run_length repeat item
some_run repeat TheHead h = h
some_run repeat (TheRow r) h = h
some_run repeat TheLinks h = omega arith

module _ (cycle : List (List ℕ)) (p : Page) (w : Certificate) (item : Item) where
  abbrev T : Reason → Type 0
  T = IsTrueOf cycle p w item

  -- what holds for each of the four reasons that can be true of an item holds for each true one
  pub of_four : (P : Reason → Type 0) →
      ((page : Id) (of : Item) → page ≡ p.id → of ≡ item → HasNoWitness p w item → P (NoWitness page of)) →
      ((page : Id) (of : Item) (start : ℕ) → page ≡ p.id → of ≡ item → WitnessBadAt cycle p w item start → P (WitnessBad page of start)) →
      ((page : Id) (of : Item) (start : ℕ) → page ≡ p.id → of ≡ item → LateAt cycle p w item start → P (Late page of start)) →
      ((page : Id) (of : Item) (header : ℕ) → page ≡ p.id → of ≡ item → LateBlankAt cycle p w item header → P (LateBlank page of header)) →
      (reason : Reason) → T reason → P reason
  of_four P a b c d (NoWitness page of) t = a page of t.0 t.1 t.2
  of_four P a b c d (WitnessBad page of start) t = b page of start t.0 t.1 t.2
  of_four P a b c d (Late page of start) t = c page of start t.0 t.1 t.2
  of_four P a b c d (LateBlank page of header) t = d page of header t.0 t.1 t.2
  of_four P a b c d (BadSlot slot) t = absurd t
  of_four P a b c d (NoHeader page) t = absurd t
  of_four P a b c d (OtherSubpage page slot) t = absurd t
  of_four P a b c d (Erased page slot) t = absurd t
  of_four P a b c d (HeadDiffers page slot) t = absurd t
  of_four P a b c d (RowDiffers page slot) t = absurd t
  of_four P a b c d (LinksDiffer page slot) t = absurd t
  of_four P a b c d Unsteady t = absurd t

  pub true_needed : (reason : Reason) → T reason → needed p item ≡ true
  true_needed = of_four (λ r. needed p item ≡ true) (λ page of e f h. h.needed) (λ page of start e f h. h.needed)
      (λ page of start e f h. h.needed) (λ page of header e f h. h.needed)

  abbrev named : List ℕ
  named = w.starts p.id item

  not_empty : (xs : List ℕ) → 0 < length xs → xs ≡ [] → ⊥
  not_empty xs lt e = let z : length xs ≡ 0 = ap length e in omega arith

  -- what is known of the named starts after all runs of a period
  pub record AreJudged (starts : List ℕ) (bound period : ℕ) (m : Progress) : Type 0 where
    pub next : m.next ≤ length starts
    pub bad : m.next < length starts → IsItemReason cycle p w item (Some (WitnessBad p.id item (slice_index_or starts m.next 0)))
    pub late : m.next ≡ length starts → IsItemReason cycle p w item (late_reason p.id item (late_after bound starts m (m.first_end +ℤ pos period)))

  bad_first : 0 < length named → (at : ℕ) → IsFirstOf (WitnessBadAt cycle p w item) at → IsFirstReason cycle p w item (WitnessBad p.id item at)
  bad_first any at f = record {
    here = (refl, refl, f.0);
    no_start = of_four (λ r. reason_number r ≡ 9 → start_in r < at → ⊥)
        (λ page of i j h e lt. omega arith) (λ page of start i j h e lt. f.1 start lt h) (λ page of start i j h e lt. omega arith)
        (λ page of header i j h e lt. omega arith);
    no_number = of_four (λ r. reason_number r < 9 → ⊥)
        (λ page of i j h lt. not_empty named any h.none) (λ page of start i j h lt. omega arith) (λ page of start i j h lt. omega arith)
        (λ page of header i j h lt. omega arith);
  }

  late_first : 0 < length named → ((start : ℕ) → WitnessBadAt cycle p w item start → ⊥) → (o : Option ℕ) →
      IsLateAnswer cycle p w item o → IsItemReason cycle p w item (late_reason p.id item o)
  late_first any good None a = record {
    none = of_four (λ r. ⊥)
        (λ page of i j h. not_empty named any h.none) (λ page of start i j h. good start h) (λ page of start i j h. a.1 start h)
        (λ page of header i j h. not_empty named any h.none);
    covered = λ _. inl a.0;
  }
  late_first any good (Some at) a = record {
    here = (refl, refl, a.0);
    no_start = of_four (λ r. reason_number r ≡ 10 → start_in r < at → ⊥)
        (λ page of i j h e lt. omega arith) (λ page of start i j h e lt. omega arith) (λ page of start i j h e lt. a.1 start lt h)
        (λ page of header i j h e lt. omega arith);
    no_number = of_four (λ r. reason_number r < 10 → ⊥)
        (λ page of i j h lt. not_empty named any h.none) (λ page of start i j h lt. good start h)
        (λ page of start i j h lt. omega arith) (λ page of header i j h lt. omega arith);
  }

  module _ (laws : ItemsAreJudged) (some : 1 ≤ length cycle) (is : IsCertificate w) (need : needed p item ≡ true) (any : 0 < length named) where
    judged : AreJudged named (limit w) (length cycle) (progress_of cycle p w item (run_length w.repeat item - 1))
    judged =
        let one = some_run w.repeat item is.some_repeats in
        let j = laws cycle some p w item (run_length w.repeat item - 1) (omega arith) (is.rising p.id item) need in
        record {
          next = j.0;
          bad = λ lt. bad_first any _ (j.1 lt);
          late = λ all. late_first any (j.2 all) _ (j.3 all any);
        }

    pub judged_so : (starts : List ℕ) (period : ℕ) (m : Progress) → starts ≡ named → period ≡ length cycle → m
        ≡ progress_of cycle p w item (run_length w.repeat item - 1) → AreJudged starts (limit w) period m
    judged_so starts period m e f g =
        subst (λ ss. AreJudged ss (limit w) period m) (sym e)
        (subst (λ n. AreJudged named (limit w) n m) (sym f) (subst (AreJudged named (limit w) (length cycle)) (sym g) judged))

-- an item for which no start is named
module _ (cycle : List (List ℕ)) (p : Page) (w : Certificate) (item : Item) (need : needed p item ≡ true) (empty : w.starts p.id item ≡ []) where
  no_start : (x : ℕ) → Contains (w.starts p.id item) x → ⊥
  no_start x c = let lt = c.1 in let z : length (w.starts p.id item) ≡ 0 = ap length empty in omega arith

  no_index : (i : ℕ) → i < length (w.starts p.id item) → ⊥
  no_index i lt = let z : length (w.starts p.id item) ≡ 0 = ap length empty in omega arith

  pub unnamed_first : (w.class ≡ Clearing → IsBlank p item → ⊥) → IsFirstReason cycle p w item (NoWitness p.id item)
  unnamed_first sent = record {
    here = (refl, refl, record { needed = need; none = empty; sent = sent });
    no_start = λ other t e lt. omega arith;
    no_number = of_four cycle p w item (λ r. reason_number r < 8 → ⊥)
        (λ page of i j h lt. omega arith) (λ page of start i j h lt. omega arith) (λ page of start i j h lt. omega arith)
        (λ page of header i j h lt. omega arith);
  }

  pub blank_first : w.class ≡ Clearing → IsBlank p item → (late : Option ℕ) → IsHeaderAnswer cycle p w late →
      IsItemReason cycle p w item (blank_reason p.id item late)
  blank_first clearing blank None a = record {
    none = of_four cycle p w item (λ r. ⊥)
        (λ page of i j h. h.sent clearing blank) (λ page of start i j h. no_start start h.named)
        (λ page of start i j h. no_index h.index h.within) (λ page of header i j h. a.1 item header h);
    covered = λ _. inr (record { clearing = clearing; blank = blank; no_line = empty; in_time = a.0 });
  }
  blank_first clearing blank (Some at) a =
      let f = a item need clearing blank empty in
      record {
        here = (refl, refl, f.0);
        no_start = of_four cycle p w item (λ r. reason_number r ≡ 12 → start_in r < at → ⊥)
            (λ page of i j h e lt. omega arith) (λ page of start i j h e lt. omega arith) (λ page of start i j h e lt. omega arith)
            (λ page of header i j h e lt. f.1 header lt h);
        no_number = of_four cycle p w item (λ r. reason_number r < 12 → ⊥)
            (λ page of i j h lt. h.sent clearing blank) (λ page of start i j h lt. no_start start h.named)
            (λ page of start i j h lt. no_index h.index h.within) (λ page of header i j h lt. omega arith);
      }

-- an item that no viewer sees
pub unseen_fine : (cycle : List (List ℕ)) (p : Page) (w : Certificate) (item : Item) → needed p item ≡ false → IsFine cycle p w item
unseen_fine cycle p w item not = record { none = λ reason t. let need = true_needed cycle p w item reason t in cc; covered = λ need. cc }
