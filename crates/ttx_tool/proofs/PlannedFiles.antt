-- What is found in a packet file of a plan, and what is certified of what is found.
use Rattle.std.proofs.Common.{◌≡◌, ◌∙◌, ℕ, zero, suc, pos, ◌≤◌, Bool, true, List, [], ◌∷◌, length, map, Option, Some, None, Ok, refl, sym, ap}
use Rattle.std.proofs.Common.{subst, arith}
use Rattle.std.specs.Prelude.{All, IfSome}
use Rattle.std.specs.Io.KnownBytes.{Appends}
use Rattle.ttx_cycle.specs.Bounded.{most_bytes}
use Rattle.ttx_cycle.specs.Files.{IsPacketFile}
use Rattle.ttx_files.specs.Texts.{IsServiceText, IsCertificateText}
use Rattle.ttx_certify.specs.Laws.{ArePages}
use Rattle.ttx_certify.specs.VerdictLines.{verdict_line}
use Rattle.ttx_certify.specs.Verdicts.{IsVerdict, Means}
use Rattle.ttx_certify.specs.declared.verdict.Verdict.{Verdict}
use Rattle.ttx_certify.specs.declared.verdict.Verdict.TheVariants.{Yes, No}
use Rattle.ttx_deadline.specs.declared.asked_deadlines.Asked.{Asked}
use Rattle.ttx_late.specs.Followed.{IsGreatestGap}
use Rattle.ttx_late.specs.LateVerdictLines.{late_verdict_line}
use Rattle.ttx_late.specs.LateVerdicts.{IsLateVerdict}
use Rattle.ttx_late.specs.Laws.{AcceptedIsShown, SomeGapIsGreatest}
use Rattle.ttx_late.specs.declared.verdict.LateVerdict.{LateVerdict}
use Rattle.ttx_late.specs.declared.verdict.LateVerdict.TheVariants as late
use Rattle.ttx_page.specs.declared.class.Class.{Class}
use Rattle.ttx_page.specs.Pages.{Page, IsPage}
use Rattle.ttx_plan.specs.Acceptance.{IsPlanned, PlannedIsFound}
use Rattle.ttx_plan.specs.Following.{AreFollowed, PlannedIsFollowed}
use Rattle.ttx_source.specs.Services.{Authored, ServiceFields, IsAuthored, pages_of, read_bytes}
use Rattle.ttx_tool.specs.Find.{TellsFound, IsFinding}
use Rattle.ttx_tool.specs.FindDeadline.{TellsAsked, IsAsked}
use Rattle.ttx_tool.specs.PlannedFiles as T
use Rattle.ttx_tool.specs.PlannedFiles.{IsCertified, FoundIsCertified, AskedIsCertified, LateIsCertified, FindsDeadline, MakesCertified}
use Rattle.ttx_tool.proofs.SameInputs.{same_slots, same_ok}
use Rattle.ttx_certificate.specs.CertificateLaws.{WrittenTextsAreRead}
use Rattle.ttx_certificate.specs.CertificateReading.{read_text}
use Rattle.ttx_certificate.specs.CertificateTexts.{certificate_text}
use Rattle.ttx_witness.specs.Coverage.{Accepts, IsCertificate}
use Rattle.ttx_certificate.specs.Entries.{CertificateFields, IsCertificateFields, certificate_at}
use Rattle.ttx_witness.specs.search.Finding.{IsFoundFor}

-- where there is a deadline the status is 0
deadline_told : (slots : List (List ℕ)) (service : ServiceFields) (w : CertificateFields) (answer : Option ℕ) (deadline : ℕ)
    (file line : List ℕ) (status : ℕ) →
    answer ≡ Some deadline → TellsFound slots service w answer file line status → status ≡ 0
deadline_told slots service w None deadline file line status e t = cc
deadline_told slots service w (Some d) deadline file line status e t = t.written.2

pub planned_is_found : PlannedIsFound → T.PlannedFilesAreFound
planned_is_found law a b late class p repeat one eight file line status f =
    let slots : p.slots ≡ f.slots = same_slots p.slots f.slots p.plan.is_cycle.each f.cycle_is.is_cycle.each (sym p.file ∙ f.cycle_is.same) in
    let service : p.plan.service ≡ f.service = same_ok (read_bytes b) p.plan.service f.service p.plan.text.says f.service_is.says in
    let planned : IsPlanned late class f.service f.slots =
    subst (λ x. IsPlanned late class x f.slots) service (subst (IsPlanned late class p.plan.service) slots p.plan.planned) in
    let t = f.told in
    let found = law late class f.service f.slots planned repeat one eight (certificate_at t.w) t.deadline t.found in
    deadline_told f.slots f.service t.w t.deadline found.deadline file line status found.is t.told

-- ---- what is found is accepted, and its text is that of one certificate

module _ (slots : List (List ℕ)) (service : ServiceFields) (w : CertificateFields) (file : List ℕ) where
  -- the file has the text of the certificate, with which the slots are accepted
  record IsAccepted : Type 0 where
    fields : IsCertificateFields w
    ranges : IsCertificate (certificate_at w)
    text : file ≡ certificate_text w
    most : length file ≤ most_bytes
    accepted : Accepts slots (pages_of service) (certificate_at w)
    seen : Means slots (pages_of service) (certificate_at w) Yes

  module _ (fields : IsCertificateFields w) (ranges : IsCertificate (certificate_at w)) (line : List ℕ) where
    found_accepted : (repeat : ℕ) (class : Class) (answer : Option ℕ) →
        IsFoundFor slots (pages_of service) repeat service.lines class (certificate_at w) answer →
        TellsFound slots service w answer file line 0 → IsAccepted
    found_accepted repeat class None f t = cc
    found_accepted repeat class (Some d) f t =
        record { fields = fields; ranges = ranges; text = t.written.0; most = t.most; accepted = f.least.1; seen = t.seen }

    asked_accepted : (deadline : ℕ) (verdict : Verdict) → IsVerdict slots (pages_of service) (certificate_at w) verdict →
        TellsAsked slots service w deadline verdict file line 0 → IsAccepted
    asked_accepted deadline Yes v t =
        record { fields = fields; ranges = ranges; text = t.written.0; most = t.most; accepted = v; seen = t.seen }
    asked_accepted deadline (No reason) v t = cc

-- the same for the slots of a packet file and the service of a text
record IsAcceptedText (a b file : List ℕ) : Type 0 where
  slots : List (List ℕ)
  service : ServiceFields
  w : CertificateFields
  cycle_is : IsPacketFile a slots
  service_is : IsServiceText b service
  is : IsAccepted slots service w file

found_text : (a b : List ℕ) (class : Class) (repeat : ℕ) (file line : List ℕ) → IsFinding a b repeat class file line 0 → IsAcceptedText a b file
found_text a b class repeat file line f =
    let t = f.told in
    record {
      slots = f.slots;
      service = f.service;
      w = t.w;
      cycle_is = f.cycle_is;
      service_is = f.service_is;
      is = found_accepted f.slots f.service t.w file t.fields t.ranges line repeat class t.deadline t.found t.told;
    }

asked_text : (a b : List ℕ) (asked : Asked) (file line : List ℕ) → IsAsked a b asked file line 0 → IsAcceptedText a b file
asked_text a b asked file line f =
    let t = f.told in
    record {
      slots = f.slots;
      service = f.service;
      w = t.w;
      cycle_is = f.cycle_is;
      service_is = f.service_is;
      is = asked_accepted f.slots f.service t.w file t.found.fields t.found.ranges line asked.deadline t.verdict t.found.certified t.told;
    }

module _ (law : WrittenTextsAreRead) (a b file : List ℕ) (t : IsAcceptedText a b file) where
  is_read : read_text file ≡ Ok t.w
  is_read = ap read_text t.is.text ∙ law t.w t.is.fields

  certificate_is : IsCertificateText file t.w
  certificate_is = record { most = t.is.most; says = is_read }

  -- what is so with any inputs that these three files have is so with these
  with_these : (P : List (List ℕ) → ServiceFields → CertificateFields → Type 0) (slots : List (List ℕ)) (service : ServiceFields) (w : CertificateFields) →
      IsPacketFile a slots → IsServiceText b service → IsCertificateText file w → P slots service w → P t.slots t.service t.w
  with_these P slots service w cycle service_text certificate is =
      let same_cycle : slots ≡ t.slots = same_slots slots t.slots cycle.is_cycle.each t.cycle_is.is_cycle.each (sym cycle.same ∙ t.cycle_is.same) in
      let same_service : service ≡ t.service = same_ok (read_bytes b) service t.service service_text.says t.service_is.says in
      let same_text : w ≡ t.w = same_ok (read_text file) w t.w certificate.says is_read in
      subst (P t.slots t.service) same_text (subst (λ x. P t.slots x w) same_service (subst (λ x. P x service w) same_cycle is))

is_yes : (slots : List (List ℕ)) (service : ServiceFields) (w : CertificateFields) (verdict : Verdict) →
    Accepts slots (pages_of service) (certificate_at w) →
    IsVerdict slots (pages_of service) (certificate_at w) verdict → verdict ≡ Yes
is_yes slots service w Yes a v = refl
is_yes slots service w (No reason) a v = absurd (v.1 a)

certified : WrittenTextsAreRead → (a b file : List ℕ) → IsAcceptedText a b file → IsCertified a b file
certified law a b file t = record {
  line = verdict_line t.w (length t.service.pages) Yes;
  yes = record {
    slots = t.slots;
    service = t.service;
    w = t.w;
    cycle_is = t.cycle_is;
    service_is = t.service_is;
    certificate_is = certificate_is law a b file t;
    judged = record { exact = t.is.accepted; seen = t.is.seen; line_is = refl };
  };
  only = λ verdict said c. is_yes t.slots t.service t.w verdict t.is.accepted
      (with_these law a b file t (λ slots service w. IsVerdict slots (pages_of service) (certificate_at w) verdict) c.slots c.service c.w c.cycle_is
      c.service_is c.certificate_is c.judged.exact);
}

pub found_is_certified : WrittenTextsAreRead → FoundIsCertified
found_is_certified law a b class repeat file line f = certified law a b file (found_text a b class repeat file line f)

pub asked_is_certified : WrittenTextsAreRead → AskedIsCertified
asked_is_certified law a b asked file line f = certified law a b file (asked_text a b asked file line f)

-- ---- for receivers that show a page late

-- no other gap is the greatest
one_gap : (cycle : List (List ℕ)) (pages : List Page) (g h : ℕ) → IsGreatestGap cycle pages g → IsGreatestGap cycle pages h → g ≡ h
one_gap cycle pages g h x y =
    let up = x.least h y.within in
    let down = y.least g x.within in
    omega (arith, up, down)

is_late_yes : (slots : List (List ℕ)) (service : ServiceFields) (w : CertificateFields) (gap : ℕ) (verdict : LateVerdict) →
    Accepts slots (pages_of service) (certificate_at w) → AreFollowed slots (pages_of service) → IsGreatestGap slots (pages_of service) gap →
    IsLateVerdict slots (pages_of service) (certificate_at w) verdict → verdict ≡ late.Yes gap
is_late_yes slots service w gap (late.Yes other) a f g v = ap (λ n. late.Yes n) (one_gap slots (pages_of service) other gap v.2 g)
is_late_yes slots service w gap (late.No reason) a f g v = absurd (v.1 a)
is_late_yes slots service w gap (late.NeverShown page slot) a f g v =
    let first = v.1.first in
    absurd (first.here.1 (f v.1.index first.page first.listed (pos slot) first.here.0))

are_pages : (serial : Bool) (pages : List Authored) → All (IsAuthored serial) pages → ArePages (map (λ p. p.page) pages)
are_pages serial [] all n p e = cc
are_pages serial (q ∷ pages) all zero p e =
    let there : Some q.page ≡ Some p = e in
    let same : q.page ≡ p = cc in
    subst IsPage same (all 0 q (omega arith)).page
are_pages serial (q ∷ pages) all (suc n) p e = are_pages serial pages (λ k d lt. all (suc k) d (omega arith)) n p e

module _ (law : WrittenTextsAreRead) (shown : AcceptedIsShown) (a b file : List ℕ) (t : IsAcceptedText a b file) (are : ArePages (pages_of t.service))
    (followed : AreFollowed t.slots (pages_of t.service)) (gap : ℕ) (greatest : IsGreatestGap t.slots (pages_of t.service) gap) where
  late_certified : T.IsLateCertified a b file
  late_certified = record {
    gap = gap;
    line = late_verdict_line t.w (length t.service.pages) (late.Yes gap);
    yes = record {
      slots = t.slots;
      service = t.service;
      w = t.w;
      cycle_is = t.cycle_is;
      service_is = t.service_is;
      certificate_is = certificate_is law a b file t;
      judged = record {
        exact = (t.is.accepted, followed, greatest);
        seen = λ n p listed. (
          t.is.seen n p listed,
          shown t.slots (pages_of t.service) (certificate_at t.w) t.cycle_is.is_cycle are t.is.ranges t.is.accepted n p listed gap (greatest.within n p listed),
        );
        line_is = refl;
      };
    };
    only = λ verdict said c. is_late_yes t.slots t.service t.w gap verdict t.is.accepted followed greatest
        (with_these law a b file t (λ slots service w. IsLateVerdict slots (pages_of service) (certificate_at w) verdict) c.slots c.service c.w c.cycle_is
        c.service_is c.certificate_is c.judged.exact);
  }

pub late_is_certified : WrittenTextsAreRead → PlannedIsFollowed → SomeGapIsGreatest → AcceptedIsShown → LateIsCertified
late_is_certified law follow some shown a b class p asked repeat file line f =
    let t = found_text a b asked repeat file line f in
    let slots : p.slots ≡ t.slots = same_slots p.slots t.slots p.plan.is_cycle.each t.cycle_is.is_cycle.each (sym p.file ∙ t.cycle_is.same) in
    let service : p.plan.service ≡ t.service = same_ok (read_bytes b) p.plan.service t.service p.plan.text.says t.service_is.says in
    let planned : IsPlanned true class t.service t.slots =
    subst (λ x. IsPlanned true class x t.slots) service (subst (IsPlanned true class p.plan.service) slots p.plan.planned) in
    let followed = follow class t.service t.slots planned in
    let gap = some t.slots (pages_of t.service) t.cycle_is.is_cycle.some followed in
    late_certified law shown a b file t (are_pages t.service.serial t.service.pages planned.service_is.pages) followed gap.0 gap.1

-- ---- what `find` answers and writes

-- what was written to an empty file
written_is : (content file : List ℕ) → Appends (Some []) (Some content) file → file ≡ content
written_is content file a = sym a

module _ (file : List ℕ) (status : ℕ) (Finds : List ℕ → List ℕ → Type 0) (law : (a b : List ℕ) → status ≡ 0 → Finds a b → IsCertified a b file) where
  makes_certified : (old new : Option (List ℕ)) → Appends old new file → (a b : List ℕ) → Finds a b → MakesCertified a b old new (Ok status)
  makes_certified old new appended a b f content empty full right =
      let none : status ≡ 0 = cc in
      let there : Appends (Some []) (Some content) file =
      subst (λ x. Appends (Some []) x file) full (subst (λ x. Appends x new file) empty appended) in
      subst (IsCertified a b) (written_is content file there) (law a b none f)

  all_make : (old new : Option (List ℕ)) → Appends old new file → (a b : Option (List ℕ)) → IfSome a (λ x. IfSome b (λ y. Finds x y)) →
      IfSome a (λ x. IfSome b (λ y. MakesCertified x y old new (Ok status)))
  all_make old new appended (Some a) (Some b) f = makes_certified old new appended a b f
  all_make old new appended (Some a) None f = tt
  all_make old new appended None b f = tt

module _ (repeat : ℕ) (class : Class) (file line : List ℕ) (status : ℕ) where
  pub all_find : T.PlannedFilesAreFound → 1 ≤ repeat → repeat ≤ 8 → (a b : Option (List ℕ)) →
      IfSome a (λ x. IfSome b (λ y. IsFinding x y repeat class file line status)) →
      IfSome a (λ x. IfSome b (λ y. FindsDeadline x y class (Ok status)))
  all_find law one eight (Some a) (Some b) f = λ late p. law a b late class p repeat one eight file line status f
  all_find law one eight (Some a) None f = tt
  all_find law one eight None b f = tt

  pub all_certify : FoundIsCertified → (old new : Option (List ℕ)) → Appends old new file → (a b : Option (List ℕ)) →
      IfSome a (λ x. IfSome b (λ y. IsFinding x y repeat class file line status)) →
      IfSome a (λ x. IfSome b (λ y. MakesCertified x y old new (Ok status)))
  all_certify law = all_make file status (λ a b. IsFinding a b repeat class file line status)
      (λ a b none f. law a b class repeat file line (subst (IsFinding a b repeat class file line) none f))

pub all_asked : (asked : Asked) (file line : List ℕ) (status : ℕ) → AskedIsCertified → (old new : Option (List ℕ)) → Appends old new file →
    (a b : Option (List ℕ)) → IfSome a (λ x. IfSome b (λ y. IsAsked x y asked file line status)) →
    IfSome a (λ x. IfSome b (λ y. MakesCertified x y old new (Ok status)))
all_asked asked file line status law = all_make file status (λ a b. IsAsked a b asked file line status)
    (λ a b none f. law a b asked file line (subst (IsAsked a b asked file line) none f))
