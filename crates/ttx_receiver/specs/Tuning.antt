-- The receivers of the program, as contracts see them.
--
--   tuned_after             the memory after a packet, by what the receiver is set to and its choice
--   Tuned, tuned_at         a receiver: what it is set to, the slots in a field, and what it holds
--   stepped                 a receiver after one slot, with or without taking its choice
--   Script, script_step             a receiver with the choices that are left of its script
use Rattle.std.specs.Prelude.{ℕ, Bool, List}
use Rattle.ttx_page.specs.Packets.{Packet, packet_of}
use Rattle.ttx_page.specs.declared.class.Class.{Class}
use Rattle.ttx_page.specs.declared.class.Class.TheVariants.{Any}
use Rattle.ttx_page.specs.declared.selection.Selection.{Selection}
use Rattle.ttx_page.specs.Memories.{Memory}
use Rattle.ttx_page.specs.Receivers.{after, older, has_choice, next_choice, later_choices}
use Rattle.ttx_receiver.specs.declared.tuning.Tuning.{Tuning}

-- the memory after a packet; its age has already grown
abbrev pub tuned_after : Tuning → Bool → Memory → Packet → Memory
tuned_after t choice m packet = after t.class t.lines t.selection choice m packet

pub record Tuned : Type 0 where
  pub selection : Selection
  pub lines : ℕ
  pub memory : Memory

abbrev pub tuned_at : Selection → ℕ → Memory → Tuned
tuned_at selection lines memory = record { selection = selection; lines = lines; memory = memory }

-- one slot, with this choice if there is one
abbrev pub stepped : Class → Bool → Tuned → List ℕ → Tuned
stepped class choice t slot = tuned_at t.selection t.lines (after class t.lines t.selection choice (older t.memory) (packet_of slot))

pub record Script : Type 0 where
  pub tuned : Tuned
  pub choices : List Bool

abbrev pub script_at : Tuned → List Bool → Script
script_at tuned choices = record { tuned = tuned; choices = choices }

-- whether the receiver has a choice at a slot
abbrev pub chooses : Tuned → List ℕ → Bool
chooses t slot = has_choice Any t.lines t.selection (older t.memory) (packet_of slot)

-- one slot, with the next choice of the script if there is one to make
abbrev pub script_step : Script → List ℕ → Script
script_step s slot =
    let has = chooses s.tuned slot in
    script_at (stepped Any (next_choice has s.choices) s.tuned slot) (later_choices has s.choices)
