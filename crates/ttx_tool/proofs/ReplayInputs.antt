-- What is told of a counter-run once the three inputs are read.
use Rattle.std.proofs.Common.{ℕ, List, Option, Some, None, Result, Ok, Err, IfOk}
use Rattle.std.specs.Prelude.{IfSome}
use Rattle.ttx_files.specs.Texts.{IsServiceText}
use Rattle.ttx_counter.specs.Counters.{CounterRun}
use Rattle.ttx_cycle.specs.Files.{IsPacketFile}
use Rattle.ttx_page.specs.Pages.{Page}
use Rattle.ttx_source.specs.Services.{ServiceFields, pages_of}
use Rattle.ttx_tool.specs.Replay.{IsCounterText, IsReplaying}

-- two facts of an answer
pub both_of : {A E : Type 0} (P Q T : A → Type 0) (r : Result A E) → ((a : A) → P a → Q a → T a) → IfOk r P → IfOk r Q → IfOk r T
both_of P Q T (Ok a) f p q = f a p q
both_of P Q T (Err e) f p q = tt

module _ (Says : List (List ℕ) → List Page → CounterRun → List ℕ → ℕ → Type 0) (slots : List (List ℕ)) (service : ServiceFields)
    (run : CounterRun) (text : List ℕ) (status : ℕ) (told : Says slots (pages_of service) run text status) where
  pub replaying_of : (a b c : Option (List ℕ)) → IfSome a (λ x. IfSome b (λ y. IsPacketFile x slots × IsServiceText y service)) →
      IfSome c (λ z. IsCounterText z run) →
      IfSome a (λ x. IfSome b (λ y. IfSome c (λ z. IsReplaying Says x y z text status)))
  replaying_of (Some a) (Some b) (Some c) is r = record {
    slots = slots;
    service = service;
    run = run;
    cycle_is = is.0;
    service_is = is.1;
    counter_is = r;
    told = told;
  }
  replaying_of (Some a) (Some b) None is r = tt
  replaying_of (Some a) None c is r = tt
  replaying_of None b c is r = tt
