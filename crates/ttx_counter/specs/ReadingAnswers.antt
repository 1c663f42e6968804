-- The answers of the reader, in terms of the definitions.
--
--   counter_outcome                 a value as a function shows it, or its fault
--   IsCounterUnlessMemory          a fact that holds unless memory ran out
use Rattle.std.specs.Prelude.{◌≡◌, ◌⊎◌, Result, Ok, Err}
use Rattle.ttx_counter.specs.declared.counter_faults.CounterFault.{CounterFault}
use Rattle.ttx_counter.specs.declared.counter_faults.CounterFault.TheVariants.{NoMemory}

abbrev pub counter_outcome : {A B : Type 0} → (A → B) → Result A CounterFault → Result B CounterFault
counter_outcome seen (Ok a) = Ok (seen a)
counter_outcome seen (Err fault) = Err fault

abbrev pub IsCounterUnlessMemory : {A : Type 0} → Result A CounterFault → Type 0 → Type 0
IsCounterUnlessMemory (Ok a) P = P
IsCounterUnlessMemory (Err fault) P = (fault ≡ NoMemory) ⊎ P
