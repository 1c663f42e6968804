-- C11 of the first header of a list of slots.
use Rattle.std.proofs.Common.{◌≡◌, ℕ, suc, ◌+◌, ◌<◌, ◌≤◌, Bool, false, List, [], ◌∷◌, length, drop, get_or, Some, None, refl, ap, ◌∙◌, arith}
use Rattle.std.proofs.Math.Seq.{drop-cons}
use Rattle.std.proofs.Math.ListN.{drop_of_length-le}
use Rattle.ttx_page.specs.Packets.{packet_of}
use Rattle.ttx_extract.specs.FirstPackets.{header_serial, first_serial, serial_or}

first_of : (slot : List ℕ) (slots : List (List ℕ)) → first_serial (slot ∷ slots) ≡ serial_or (header_serial (packet_of slot)) (first_serial slots)
unfolding first_serial
first_of slot slots = refl

first_none : first_serial [] ≡ false
unfolding first_serial
first_none = refl

module _ (slots : List (List ℕ)) (i : ℕ) (e : first_serial slots ≡ first_serial (drop i slots)) where
  module _ (lt : i < length slots) where
    here : first_serial slots ≡ serial_or (header_serial (packet_of (get_or slots i []))) (first_serial (drop (suc i) slots))
    here = e ∙ ap first_serial (drop-cons slots i [] lt) ∙ first_of (get_or slots i []) (drop (suc i) slots)

    pub found : (b : Bool) → header_serial (packet_of (get_or slots i [])) ≡ Some b → first_serial slots ≡ b
    found b is = here ∙ ap (λ o. serial_or o (first_serial (drop (suc i) slots))) is

    pub none_yet : header_serial (packet_of (get_or slots i [])) ≡ None → first_serial slots ≡ first_serial (drop (i + 1) slots)
    none_yet is =
        let one : suc i ≡ i + 1 = omega arith in
        here ∙ ap (λ o. serial_or o (first_serial (drop (suc i) slots))) is ∙ ap (λ n. first_serial (drop n slots)) one

  pub none : length slots ≤ i → first_serial slots ≡ false
  none past = e ∙ ap first_serial (drop_of_length-le slots past) ∙ first_none
