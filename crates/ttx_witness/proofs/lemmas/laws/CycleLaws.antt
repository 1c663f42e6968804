-- The laws of certificates over cycles, from the laws of repeating transmissions.
use Rattle.std.proofs.Common.{◌≡◌, suc, ◌*◌, pos, ◌+ℤ◌, length, sym, ap, ◌∙◌, subst}
use Rattle.ttx_page.specs.Streams as S
use Rattle.ttx_page.specs.Streams.{repeated, IsOwned, IsSure}
use Rattle.ttx_witness.specs.runs.Repeating as R
use Rattle.ttx_witness.specs.Coverage.{limit}
use Rattle.ttx_witness.specs.sent.ItemTransmissions.{sent_in}
use Rattle.ttx_witness.specs.laws.CycleLaws.{CoverageIsDecided, FirstsAreFound, FurtherStartsCover, SureStartsAreFound, LeastLimitIsFound}
use Rattle.ttx_witness.proofs.lemmas.runs.Coverage as C
use Rattle.ttx_witness.proofs.lemmas.runs.FirstBadAndLate as L
use Rattle.ttx_witness.proofs.lemmas.runs.SureStarts as F
use Rattle.ttx_witness.proofs.lemmas.sent.CycleTransmissions.{law, sent_told, covered_to, covered_from, sure_run_to, sure_run_from}

pub coverage_is_decided : CoverageIsDecided
coverage_is_decided cycle some p w item k len rising =
    let d = C.decides (IsOwned (repeated cycle) p.id item) (IsSure (repeated cycle) w.lines p.id.mag item) (length cycle) k (limit w)
    (law cycle some p.id w.lines item)
    (w.starts p.id item) rising (sent_in cycle p.id w.lines item) (sent_told cycle some p.id w.lines item) in
    ((λ a. covered_from cycle p w item (suc k) len (d.0 a)), (λ a. d.1 (covered_to cycle p w item (suc k) len a)))

pub firsts_are_found : FirstsAreFound
firsts_are_found cycle some p w item k len rising =
    let told = sent_told cycle some p.id w.lines item in
    let l = law cycle some p.id w.lines item in (
      L.not_past (IsOwned (repeated cycle) p.id item) (IsSure (repeated cycle) w.lines p.id.mag item) (length cycle) k (limit w) l
          (w.starts p.id item) rising (sent_in cycle p.id w.lines item) told,
      L.stops_at_first (IsOwned (repeated cycle) p.id item) (IsSure (repeated cycle) w.lines p.id.mag item) (length cycle) k (limit w) l
          (w.starts p.id item) rising (sent_in cycle p.id w.lines item) told,
      L.late_first (IsOwned (repeated cycle) p.id item) (IsSure (repeated cycle) w.lines p.id.mag item) (length cycle) k (limit w) l
          (w.starts p.id item) rising (sent_in cycle p.id w.lines item) told,
    )

pub further_starts_cover : FurtherStartsCover
further_starts_cover cycle p w v item el er ed more sure c = record {
  named = (c.named.0, more c.named.0 c.named.1);
  sure = sure;
  in_time = λ tau. let t = c.in_time tau in
      let win : limit w ≡ limit v = ap (λ d. d * w.lines) ed ∙ ap (λ l. v.deadline * l) el in (
        t.0,
        t.1,
        more _ t.2,
        t.3,
        t.4,
        subst (λ r. S.EndsBelow (repeated cycle) p.id r item t.0 (tau +ℤ pos (limit v))) er
            (subst (λ x. S.EndsBelow (repeated cycle) p.id w.repeat item t.0 (tau +ℤ pos x)) win t.5),
      );
}

pub sure_starts_are_found : SureStartsAreFound
sure_starts_are_found cycle some page lines repeat item k len start =
    let f = F.found_starts (IsOwned (repeated cycle) page item) (IsSure (repeated cycle) lines page.mag item) (length cycle) k
    (law cycle some page lines item)
    (sent_in cycle page lines item) (sent_told cycle some page lines item) start in (
      (λ h. let a = f.0 h in (a.0, sure_run_from (repeated cycle) page lines repeat item (suc k) len (pos start) a.1)),
      (λ b. f.1 (b.0, sure_run_to (repeated cycle) page lines repeat item (suc k) len (pos start) b.1)),
    )

pub least_limit_is_found : LeastLimitIsFound
least_limit_is_found cycle some p w item k len =
    let to = covered_to cycle p w item (suc k) len in (
      (λ e c. F.found_none (IsOwned (repeated cycle) p.id item) (IsSure (repeated cycle) w.lines p.id.mag item) (length cycle) k
          (law cycle some p.id w.lines item)
          (sent_in cycle p.id w.lines item) (sent_told cycle some p.id w.lines item) e (limit w) (w.starts p.id item) (to c)),
      (λ s e.
          let f = F.found_some (IsOwned (repeated cycle) p.id item) (IsSure (repeated cycle) w.lines p.id.mag item) (length cycle) k
          (law cycle some p.id w.lines item)
          (sent_in cycle p.id w.lines item) (sent_told cycle some p.id w.lines item) s e (limit w) in (
            (λ c. f.1 (F.found_more (IsOwned (repeated cycle) p.id item) (IsSure (repeated cycle) w.lines p.id.mag item)
                (length cycle) k (law cycle some p.id w.lines item)
                (sent_in cycle p.id w.lines item) (sent_told cycle some p.id w.lines item) (limit w) (w.starts p.id item) (to c))),
            (λ same le. covered_from cycle p w item (suc k) len
                (subst (λ x. R.Covers (IsOwned (repeated cycle) p.id item) (IsSure (repeated cycle) w.lines p.id.mag item)
                (length cycle) (suc k) (limit w) x) (sym same) (f.0 le))),
          )),
    )
