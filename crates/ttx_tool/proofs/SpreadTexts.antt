-- What is answered and written for the text of a service with promises and stays.
use Rattle.std.proofs.Common.{◌≡◌, ℕ, List, Ok, Err, Some, Result, IfOk, IfErr, sym, ap, ◌∙◌, subst, inl, inr, string_bytes}
use Rattle.std.specs.declared.alloc.AllocError.{AllocError}
use Rattle.std.specs.declared.alloc.Global.{Global}
use Rattle.std.specs.Prelude.{String}
use Rattle.ttx_carousel.specs.Planning.{AnswersStays}
use Rattle.ttx_carousel.specs.declared.faults.StayFault.{StayFault}
use Rattle.ttx_cycle.specs.declared.cycles.Cycle.{Cycle}
use Rattle.ttx_promise.specs.declared.promised_plan.Viewers.{Viewers}
use Rattle.ttx_source.specs.Promises.{PromiseFields}
use Rattle.ttx_source.specs.Services.{ServiceFields}
use Rattle.ttx_files.specs.declared.faults.FilesFault.TheVariants as files
use Rattle.ttx_tool.specs.SpreadPlans.{IsStayingText, Plans, SaysFault, Spreads, missed_text}
use Rattle.ttx_tool.specs.declared.commands.plan_spread.Spread.{Spread}
use Rattle.ttx_tool.specs.declared.commands.plan_spread.Spread.TheVariants as spread
use Rattle.ttx_faults.specs.declared.faults.ToolFault.{ToolFault}
use Rattle.ttx_faults.specs.declared.faults.ToolFault.TheVariants.{Files}

pub plans_of : (v : Viewers) (bytes : List ℕ) (service : ServiceFields) (promises stays : List PromiseFields) →
    IsStayingText bytes service promises stays → (sent : ServiceFields) (answer : Result Cycle StayFault) →
    AnswersStays v promises stays service sent answer → Plans bytes v answer
plans_of v bytes service promises stays text sent answer h = record {
  service = service;
  promises = promises;
  stays = stays;
  text = text;
  sent = sent;
  answered = h;
}

pub said : (v : Viewers) (bytes : List ℕ) (fault : StayFault) → Plans bytes v (Err fault) → (result : Result Spread ToolFault) →
    SaysFault fault result → Spreads bytes v result
said v bytes fault plans result (inl told) = subst (Spreads bytes v) (sym told.1) (fault, plans, told.2)
said v bytes fault plans result (inr (inl why)) = subst (Spreads bytes v) (sym why.1) (fault, plans, why.2)
said v bytes fault plans result (inr (inr memory)) = subst (Spreads bytes v) (sym memory) tt

pub said_lines : (fault : StayFault) (text : List ℕ) (lines : Result (String Global) AllocError) (result : Result Spread ToolFault) →
    missed_text fault ≡ Some text → IfOk lines (λ line. string_bytes line ≡ text) → IfOk lines (λ line. result ≡ Ok (spread.Missed line)) →
    IfErr lines (λ _. result ≡ Err (Files files.NoMemory)) → SaysFault fault result
said_lines fault text (Ok line) result is bytes told memory = inl (line, told, is ∙ ap Some (sym bytes))
said_lines fault text (Err e) result is bytes told memory = inr (inr memory)
