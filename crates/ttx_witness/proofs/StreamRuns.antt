-- The runs of a period's list are the runs of the stream.
use Rattle.std.proofs.Common.{◌≡◌, ◌↔◌, ℕ, suc, ℤ, pos, ◌+ℤ◌, ◌-ℤ◌, ◌<ℤ◌, true, List, [], ◌∷◌, map, refl, ◌∙◌, subst, arith}
use Rattle.std.specs.List.{AllByRecursion}
use Rattle.std.proofs.lemmas.List.{length-map}
use Rattle.std.proofs.lemmas.Int.{ints}
use Rattle.std.proofs.lemmas.Bool.{and_from, and_parts}
use Rattle.ttx_witness.specs.runs.Transmissions.{Transmission, slot_of, later, extended, windows, run_of, runs, last_slot, all_sure}
use Rattle.ttx_witness.specs.runs.Repeating.{Successive, Repeats, IsSentAt, IsSureSent, Tells, AreSent, IsRunFrom, IsRunOf}
use Rattle.ttx_witness.proofs.AllBetween.{successive_same, slots, IsWindow}
use Rattle.ttx_witness.proofs.lemmas.runs.Rounds.{extended_windows}

module _ (Owned Sure : ℤ → ℤ → Type 0) where
  abbrev pub Sent : ℤ → Type 0
  Sent = IsSentAt Owned

  abbrev pub Told : Transmission → Type 0
  Told = Tells Owned Sure

  pub told_sent : (t : Transmission) → Told t → Sent t.slot
  told_sent t a = record { owner = t.owner; owned = a.owned }

  module _ (one_owner : (h k j : ℤ) → Owned h j → Owned k j → h ≡ k) where
    sure_of : (t : Transmission) → Told t → (t.sure ≡ true) ↔ IsSureSent Owned Sure t.slot
    sure_of t a = (
      (λ e. record { owner = t.owner; owned = a.owned; sure = a.sure.0 e }),
      (λ b. let e = one_owner b.owner t.owner t.slot b.owned a.owned in a.sure.1 (subst (λ h. Sure h t.slot) e b.sure)),
    )

    all_sure_of : (ts : List Transmission) → AllByRecursion Told ts → (all_sure ts ≡ true) ↔ AllByRecursion (IsSureSent Owned Sure) (slots ts)
    all_sure_of [] a = (λ _. tt, λ _. refl)
    all_sure_of (t ∷ ts) a =
        let i = all_sure_of ts a.1 in
        ((λ e. ((sure_of t a.0).0 ((and_parts _ _ e).0), i.0 ((and_parts _ _ e).1))), (λ b. and_from _ _ ((sure_of t a.0).1 b.0) (i.1 b.1)))

    ends_of : (t : Transmission) (ts : List Transmission) (e : ℤ) → Successive Sent (slots (t ∷ ts)) → (last_slot t.slot ts <ℤ e)
        ↔ AllByRecursion (λ j. j <ℤ e) (slots (t ∷ ts))
    ends_of t [] e a = ((λ l. (l, tt)), (λ l. l.0))
    ends_of t (u ∷ ts) e a =
        let i = ends_of u ts e a.3 in
        ((λ l. let w = i.0 l in (first (a.1) w.0, w)), (λ l. i.1 l.1))
      where
        first : t.slot <ℤ u.slot → u.slot <ℤ e → t.slot <ℤ e
        first h k = omega (arith, ints)

    pub window_is : (k : ℕ) (w : List Transmission) → IsWindow slot_of Sent Told told_sent (suc k) w → IsRunOf Owned Sure (suc k) (run_of w)
    window_is k [] w = let c = w.count in absurd (omega arith)
    window_is k (t ∷ ts) w =
        let run : IsRunFrom Owned (suc k) t.slot (slots ts) = record {
          count = length-map (t ∷ ts) slot_of ∙ w.count;
          successive = w.successive;
        } in
        let same = λ (rest : List ℤ) (r : IsRunFrom Owned (suc k) t.slot rest).
        let c = r.count in let d = run.count in
        successive_same Sent t.slot rest (slots ts) (omega arith) r.successive w.successive in
        let sures = all_sure_of (t ∷ ts) w.each in
        record {
          owned = w.each.0.owned;
          sure = (
            (λ e. record { rest = slots ts; run = run; all_sure = sures.0 e }),
            (λ h. sures.1 (subst (λ z. AllByRecursion (IsSureSent Owned Sure) (t.slot ∷ z)) (same h.rest h.run) h.all_sure)),
          );
          ends = λ e. (
            (λ l. record { rest = slots ts; run = run; ends = (ends_of t ts e w.successive).0 l }),
            (λ h. (ends_of t ts e w.successive).1 (subst (λ z. AllByRecursion (λ j. j <ℤ e) (t.slot ∷ z)) (same h.rest h.run) h.ends)),
          );
        }

    all_windows : (k : ℕ) (ws : List (List Transmission)) → AllByRecursion (IsWindow slot_of Sent Told told_sent (suc k)) ws →
        AllByRecursion (IsRunOf Owned Sure (suc k)) (map run_of ws)
    all_windows k [] a = tt
    all_windows k (w ∷ ws) a = (window_is k w a.0, all_windows k ws a.1)

  module _ (n : ℕ) (law : Repeats n Owned Sure) where
    back : (x : ℤ) → (x +ℤ pos n) -ℤ pos n ≡ x
    back x = omega (arith, ints)

    pub told_later : (t : Transmission) → Told t → Told (later n t)
    told_later t a = record {
      owned = law.owned_later t.owner t.slot a.owned;
      sure = (
        (λ e. law.sure_later t.owner t.slot (a.sure.0 e)),
        (λ b. a.sure.1 (subst (λ h. Sure h t.slot) (back t.owner)
            (subst (λ j. Sure ((t.owner +ℤ pos n) -ℤ pos n) j) (back t.slot)
            (law.sure_earlier (t.owner +ℤ pos n) (t.slot +ℤ pos n) b)))),
      );
    }

    pub sent_earlier : (x : ℤ) → Sent (x +ℤ pos n) → Sent x
    sent_earlier x a = record {
      owner = a.owner -ℤ pos n;
      owned = subst (Owned (a.owner -ℤ pos n)) (back x) (law.owned_earlier a.owner (x +ℤ pos n) a.owned);
    }

    -- the runs of a period are those of the stream
    pub runs_are : (k : ℕ) (ts : List Transmission) → AreSent Owned Sure (pos 0) (pos n) ts →
        AllByRecursion (IsRunOf Owned Sure (suc k)) (runs n k ts)
    runs_are k ts l = all_windows law.one_owner k (windows (suc k) (extended n k ts))
        (extended_windows Sent Told told_sent n told_later sent_earlier k ts l)
