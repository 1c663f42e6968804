-- A text that is refused after a packet file.
use Rattle.std.proofs.Common.{ℕ, List}
use Rattle.ttx_cycle.specs.Files.{IsPacketFile}
use Rattle.ttx_files.specs.Inputs.{IsRefusedText, IsRefused}
use Rattle.ttx_files.specs.declared.faults.FilesFault.{FilesFault}
use Rattle.ttx_files.specs.declared.faults.FilesFault.TheVariants.{Cycle, Service, Certificate, Read, TooLong, Write, NoMemory}
use Rattle.ttx_files.specs.declared.faults.TextFile.TheVariants as text

pub after_packets : (slots : List (List ℕ)) (a b c : List ℕ) (fault : FilesFault) → IsPacketFile a slots → IsRefusedText b c fault → IsRefused a b c fault
after_packets slots a b c (Cycle f) is h = absurd h
after_packets slots a b c (Service f) is h = (slots, is, h)
after_packets slots a b c (Certificate f) is h = (slots, h.0, is, h.1, h.2)
after_packets slots a b c (Read text.Service) is h = (slots, is)
after_packets slots a b c (Read text.Certificate) is h = (slots, h.0, is, h.1)
after_packets slots a b c (TooLong text.Service) is h = (slots, is, h)
after_packets slots a b c (TooLong text.Certificate) is h = (slots, h.0, is, h.1, h.2)
after_packets slots a b c (Write n) is h = absurd h
after_packets slots a b c NoMemory is h = tt
