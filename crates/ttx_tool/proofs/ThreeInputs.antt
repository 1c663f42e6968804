-- What is refuted of the pages of a service.
use Rattle.std.proofs.Common.{◌≡◌, ◌↔◌, ℕ, true, List, is_some, Option, Result, Ok, Err, IfOk, subst}
use Rattle.ttx_counter.specs.Counters.{CounterRun}
use Rattle.ttx_page.specs.Pages.{Page}
use Rattle.ttx_page.specs.declared.class.Class.TheVariants.{Any}
use Rattle.ttx_source.specs.Services.{ServiceFields, pages_of}
use Rattle.ttx_tool.specs.Refute.{TellsAnswer, IsRefutation}
use Rattle.ttx_tool.specs.declared.commands.refute.Asked.{Asked}
use Rattle.ttx_certificate.specs.Entries.{CertificateFields}
use Rattle.ttx_witness.specs.search.Finding.{IsSentUnchanged, CanBeAccepted}

-- three facts of an answer
pub all_three : {A E : Type 0} (P Q R T : A → Type 0) (r : Result A E) → ((a : A) → P a → Q a → R a → T a) → IfOk r P → IfOk r Q → IfOk r R → IfOk r T
all_three P Q R T (Ok a) f p q r = f a p q r
all_three P Q R T (Err e) f p q r = tt

-- what is told of the pages of a service
pub refutation : (slots : List (List ℕ)) (pages : List Page) (service : ServiceFields) (w : CertificateFields) (asked : Asked) → pages
    ≡ pages_of service → w.class ≡ Any →
    (answer : Option CounterRun) →
    (IsSentUnchanged slots pages → (is_some answer ≡ true) ↔ (CanBeAccepted slots pages Any w.lines w.repeat w.deadline → ⊥)) →
    (file line : List ℕ) (status : ℕ) → TellsAnswer slots pages w asked answer file line status → IsRefutation slots service w asked file line status
refutation slots pages service w asked same any answer exact file line status told = record {
  class = any;
  answer = answer;
  told = subst (λ q. TellsAnswer slots q w asked answer file line status) same told;
  exact = subst (λ q. IsSentUnchanged slots q → (is_some answer ≡ true) ↔ (CanBeAccepted slots q Any w.lines w.repeat w.deadline → ⊥)) same exact;
}
