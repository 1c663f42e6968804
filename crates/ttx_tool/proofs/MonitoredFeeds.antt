-- What is told of a feed once the three files are read.
use Rattle.std.proofs.Common.{◌≡◌, ◌∙◌, refl, [], ◌⊎◌, ℕ, zero, suc, ◌-◌, ◌^◌, ◌<◌, ◌≤◌, Bool, true, false, List, length, Option, Some, None, Result, Ok, Err, ◌++◌, append_assoc, sym, subst, inl, inr, arith}
use Rattle.std.specs.Prelude.{IfSome}
use Rattle.std.proofs.lemmas.Option.{IfSome_then}
use Rattle.std.specs.Io.KnownBytes.{Appends}
use Rattle.ttx_cycle.specs.Cycles.{slots_of}
use Rattle.ttx_cycle.specs.Files.{IsPacketFile}
use Rattle.ttx_certificate.specs.Certificates.{fields_of}
use Rattle.ttx_certificate.specs.Entries.{CertificateFields, certificate_at}
use Rattle.ttx_files.specs.Inputs.{ReadsInputs}
use Rattle.ttx_files.specs.Texts.{IsServiceText, IsCertificateText}
use Rattle.ttx_files.specs.declared.faults.FeedFault.TheVariants as feed
use Rattle.ttx_files.specs.declared.readers.Inputs.{Inputs}
use Rattle.ttx_files.specs.declared.told.Told.{Told}
use Rattle.ttx_page.specs.Pages.{Page}
use Rattle.ttx_source.specs.Services.{ServiceFields, pages_of}
use Rattle.ttx_monitor.specs.FeedVerdicts.{IsFeedVerdict, IsHeardWhole}
use Rattle.ttx_monitor.specs.FeedReports.{telling_for, ReportsFeed}
use Rattle.ttx_monitor.specs.Wordings.{sum_text}
use Rattle.ttx_monitor.specs.declared.verdict.FeedVerdict.{FeedVerdict}
use Rattle.ttx_monitor.specs.declared.verdict.FeedVerdict.TheVariants.{Unlike, Yes, No, Shifted}
use Rattle.ttx_row_monitor.specs.RowVerdicts.{IsRowVerdict}
use Rattle.ttx_row_monitor.specs.declared.verdict.RowVerdict.{RowVerdict}
use Rattle.ttx_row_monitor.specs.declared.verdict.RowVerdict.TheVariants as row
use Rattle.ttx_monitor.specs.declared.asked.Asked.{Asked}
use Rattle.ttx_tool.specs.MonitorReports.{report_status, report_words, MonitorsLines, MeansReported}
use Rattle.ttx_tool.specs.Monitor.{feed_status, row_status, feed_said, row_said, IsTelling, TellsFeed, IsFaultOfFeed, IsNotMonitored, MonitorsText, Monitors, IsWellReceived, MeansReceived}
use Rattle.ttx_faults.specs.declared.faults.ToolFault.{ToolFault}

-- the three files and the feed, where their bytes are known
pub if_all : {P Q : List ℕ → List ℕ → List ℕ → List ℕ → Type 0} (a b c d : Option (List ℕ)) →
    IfSome a (λ x. IfSome b (λ y. IfSome c (λ z. IfSome d (P x y z)))) → ((x y z u : List ℕ) → P x y z u → Q x y z u) →
    IfSome a (λ x. IfSome b (λ y. IfSome c (λ z. IfSome d (Q x y z))))
if_all a b c d h f = IfSome_then a h (λ x h. IfSome_then b h (λ y h. IfSome_then c h (λ z h. IfSome_then d h (f x y z))))

pub if_read : {P : List ℕ → List ℕ → List ℕ → Type 0} {Q : List ℕ → Type 0} {R : List ℕ → List ℕ → List ℕ → List ℕ → Type 0}
    (a b c d : Option (List ℕ)) → IfSome a (λ x. IfSome b (λ y. IfSome c (P x y))) → IfSome d Q →
    ((x y z u : List ℕ) → P x y z → Q u → R x y z u) → IfSome a (λ x. IfSome b (λ y. IfSome c (λ z. IfSome d (R x y z))))
if_read a b c d h q f = IfSome_then a h (λ x h. IfSome_then b h (λ y h. IfSome_then c h (λ z h. IfSome_then d q (λ u. f x y z u h))))

module _ (inputs : Inputs) (json by_rows : Bool) (named : Option ℕ) where
  pub told_of : (result : Result (Told ℕ) ToolFault) → IsFaultOfFeed result → (a b c d : List ℕ) → ReadsInputs a b c (Ok inputs) →
      TellsFeed (IsTelling json by_rows (slots_of inputs.cycle) inputs.service (fields_of inputs.certificate) named d) result →
      MonitorsText json by_rows a b c named d result
  told_of (Ok told) own a b c d read is = record {
    slots = slots_of inputs.cycle;
    service = inputs.service;
    w = fields_of inputs.certificate;
    cycle_is = read.0;
    service_is = read.1;
    certificate_is = read.2;
    told = is;
  }
  told_of (Err fault) (feed.Read, own) a b c d read is =
      subst (IsNotMonitored a b c) (sym own) (slots_of inputs.cycle, inputs.service, fields_of inputs.certificate, read.0, read.1, read.2)
  told_of (Err fault) (feed.NoMemory, own) a b c d read is = subst (IsNotMonitored a b c) (sym own) tt

ended_so : (rest : ℕ) (tail : List ℕ) (feed : List (List ℕ)) → ((rest < 42) × (length tail ≡ rest)) ⊎ (2 ^ 64 - 1 ≤ length feed) →
    (length tail < 42) ⊎ (2 ^ 64 - 1 ≤ length feed)
ended_so rest tail feed (inl e) = inl (let few = e.0 in let is = e.1 in omega arith)
ended_so rest tail feed (inr long) = inr long

heard_whole : (a b c d : List ℕ) (slots : List (List ℕ)) (service : ServiceFields) (w : CertificateFields) → IsPacketFile a slots → IsServiceText b service →
    IsCertificateText c w → (start count wrong streak rest : ℕ) →
    IsHeardWhole slots (pages_of service) (certificate_at w) d start count wrong streak rest → IsWellReceived a b c d start
heard_whole a b c d slots service w cycle_is service_is certificate_is start count wrong streak rest h = record {
  slots = slots;
  service = service;
  w = w;
  cycle_is = cycle_is;
  service_is = service_is;
  certificate_is = certificate_is;
  received = h.feed;
  rest = h.tail;
  same = h.same;
  all = ended_so rest h.tail h.feed h.ended;
  within = h.within.pages;
  seen = h.seen;
}

-- the words of a yes are those for no pages
feed_yes : (json : Bool) (pages : List Page) (start slots wrong streak rest : ℕ) →
    feed_said json pages (Yes start slots wrong streak rest) ≡ feed_said json [] (Yes start slots wrong streak rest)
feed_yes false pages start slots wrong streak rest = refl
feed_yes true pages start slots wrong streak rest = refl

row_yes : (json : Bool) (pages : List Page) (start slots lost rest : ℕ) →
    row_said json pages (row.Yes start slots lost rest) ≡ row_said json [] (row.Yes start slots lost rest)
row_yes false pages start slots lost rest = refl
row_yes true pages start slots lost rest = refl

-- a yes is one of a verdict
module _ (json : Bool) (a b c : List ℕ) (named : Option ℕ) (d : List ℕ) (old new : Option (List ℕ)) (slots : List (List ℕ)) (service : ServiceFields)
    (w : CertificateFields) (cycle_is : IsPacketFile a slots) (service_is : IsServiceText b service) (certificate_is : IsCertificateText c w)
    (text : List ℕ) (out : Appends old new text) where
  bytes_mean : (verdict : FeedVerdict) → IsFeedVerdict slots (pages_of service) (certificate_at w) named d verdict →
      text ≡ feed_said json (pages_of service) verdict → zero ≡ feed_status verdict → MeansReceived json false a b c d old new (Ok zero)
  bytes_mean (Unlike unlike) exact said is = absurd (omega arith)
  bytes_mean (No start slot breach) exact said is = absurd (omega arith)
  bytes_mean (Shifted start slot by count) exact said is = absurd (omega arith)
  bytes_mean (Yes start count wrong streak rest) exact said is = (
    start,
    count,
    wrong,
    streak,
    rest,
    subst (Appends old new) (said ∙ feed_yes json (pages_of service) start count wrong streak rest) out,
    heard_whole a b c d slots service w cycle_is service_is certificate_is start count wrong streak rest exact.2,
  )

  rows_mean : (verdict : RowVerdict) → IsRowVerdict slots (pages_of service) (certificate_at w) named d verdict →
      text ≡ row_said json (pages_of service) verdict → zero ≡ row_status verdict → MeansReceived json true a b c d old new (Ok zero)
  rows_mean (row.Unlike unlike) exact said is = absurd (omega arith)
  rows_mean (row.No start slot breach) exact said is = absurd (omega arith)
  rows_mean (row.Shifted start slot by count) exact said is = absurd (omega arith)
  rows_mean (row.Yes start count lost rest) exact said is =
      let h = exact.2 in (
        start,
        count,
        lost,
        rest,
        subst (Appends old new) (said ∙ row_yes json (pages_of service) start count lost rest) out,
        record {
          slots = slots;
          service = service;
          w = w;
          cycle_is = cycle_is;
          service_is = service_is;
          certificate_is = certificate_is;
          received = h.feed;
          rest = h.tail;
          same = h.same;
          all = ended_so rest h.tail h.feed h.ended;
          within = h.received;
          seen = h.seen;
          shown = h.shown;
        },
      )

pub means : (json by_rows : Bool) (named : Option ℕ) (old new : Option (List ℕ)) (result : Result ℕ ToolFault) (a b c d : List ℕ) →
    Monitors json by_rows a b c named d old new result → MeansReceived json by_rows a b c d old new result
means json false named old new (Ok zero) a b c d (text, i, out) =
    bytes_mean json a b c named d old new i.slots i.service i.w i.cycle_is i.service_is i.certificate_is text out i.told.0 i.told.1 i.told.2 i.told.3
means json true named old new (Ok zero) a b c d (text, i, out) =
    rows_mean json a b c named d old new i.slots i.service i.w i.cycle_is i.service_is i.certificate_is text out i.told.0 i.told.1 i.told.2 i.told.3
means json false named old new (Ok (suc n)) a b c d m = tt
means json false named old new (Err fault) a b c d m = tt
means json true named old new (Ok (suc n)) a b c d m = tt
means json true named old new (Err fault) a b c d m = tt

-- the words of a yes in a report
report_yes : (json : Bool) (pages : List Page) (start slots wrong streak rest : ℕ) →
    (report_words json).verdict pages (Yes start slots wrong streak rest) ≡ feed_said json [] (Yes start slots wrong streak rest)
report_yes false pages start slots wrong streak rest = refl
report_yes true pages start slots wrong streak rest = refl

-- the same of a report
reports_mean : (json : Bool) (a b c d : List ℕ) (asked : Asked) (old new : Option (List ℕ)) (slots : List (List ℕ)) (service : ServiceFields) (w : CertificateFields) →
    IsPacketFile a slots → IsServiceText b service → IsCertificateText c w → (verdict : Option FeedVerdict) → zero ≡ report_status verdict →
    ReportsFeed (report_words json) slots (pages_of service) (certificate_at w) asked d old new (Ok verdict) → MeansReported json a b c d old new (Ok zero)
reports_mean json a b c d asked old new slots service w cycle_is service_is certificate_is None is r = absurd (omega arith)
reports_mean json a b c d asked old new slots service w cycle_is service_is certificate_is (Some (No start slot breach)) is r = absurd (omega arith)
reports_mean json a b c d asked old new slots service w cycle_is service_is certificate_is (Some (Shifted start slot by count)) is r = absurd (omega arith)
reports_mean json a b c d asked old new slots service w cycle_is service_is certificate_is (Some (Unlike unlike)) is r = absurd (omega arith)
reports_mean json a b c d asked old new slots service w cycle_is service_is certificate_is (Some (Yes start count wrong streak rest)) is (inl none) =
    absurd none
reports_mean json a b c d asked old new slots service w cycle_is service_is certificate_is (Some (Yes start count wrong streak rest)) is (inr (inl other)) =
    absurd (unlike other.2.0)
  where
    unlike : Some (Yes start count wrong streak rest) ≡ Some (Unlike other.0) → ⊥
    unlike e = cc
reports_mean json a b c d asked old new slots service w cycle_is service_is certificate_is (Some (Yes start count wrong streak rest)) is (inr (inr r)) =
    let g = telling_for (report_words json) slots (pages_of service) (certificate_at w) asked r.0 in
    let e = r.3 in (
      e.0,
      sum_text g e.1,
      start,
      count,
      wrong,
      streak,
      rest,
      subst (λ said. Appends old new (e.0 ++ said ++ sum_text g e.1)) (report_yes json (pages_of service) start count wrong streak rest)
          (subst (Appends old new)
          (sym (append_assoc e.0 ((report_words json).verdict (pages_of service) (Yes start count wrong streak rest)) (sum_text g e.1))) e.4),
      heard_whole a b c d slots service w cycle_is service_is certificate_is start count wrong streak rest e.3.said.1,
    )

pub report_means : (json : Bool) (asked : Asked) (old new : Option (List ℕ)) (result : Result ℕ ToolFault) (a b c d : List ℕ) →
    MonitorsLines json a b c asked d old new result → MeansReported json a b c d old new result
report_means json asked old new (Ok zero) a b c d (inl refused) = absurd refused.0
report_means json asked old new (Ok zero) a b c d (inr m) = reports_mean json a b c d asked old new m.0 m.1 m.2 m.3 m.4 m.5 m.6.0 m.6.1 m.6.2
report_means json asked old new (Ok (suc n)) a b c d m = tt
report_means json asked old new (Err fault) a b c d m = tt
