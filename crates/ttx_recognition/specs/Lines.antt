-- The line about bytes that are no packets of 42 bytes: what they are, and what to do (profile).
--
--   skip_text, order_text, framing_text     the steps: bytes before the first packet, the order of bits, bytes before each packet
--   unlike_line             the line
use Rattle.std.specs.Prelude.{ℕ, zero, suc, ◌-◌, Bool, if◌then◌else◌, List, [], ◌∷◌, ◌++◌, codes}
use Rattle.std.specs.Fmt.{decimal}
use Rattle.ttx_recognition.specs.declared.form.Form.{Form}
use Rattle.ttx_recognition.specs.declared.form.Unlike.{Unlike}
use Rattle.ttx_recognition.specs.declared.form.Unlike.TheVariants as unlike

abbrev pub skip_text : ℕ → List ℕ
skip_text zero = []
skip_text (suc n) = codes "; skip " ++ decimal (suc n) ++ codes " at the start"

abbrev pub order_text : Bool → List ℕ
order_text reversed = if reversed then codes "; reverse the bits of each byte" else []

abbrev pub framing_text : ℕ → List ℕ
framing_text zero = []
framing_text (suc n) = codes "; drop the first " ++ decimal (suc n) ++ codes " of each"

abbrev pub form_text : Form → List ℕ
form_text f =
    codes "packets of " ++ decimal f.size ++ codes " bytes" ++ skip_text f.off ++ order_text f.reversed ++ framing_text (f.size - 42)

abbrev pub unlike_text : Unlike → List ℕ
unlike_text (unlike.Form f) = form_text f
unlike_text unlike.NoTeletext = codes "no teletext"

abbrev pub unlike_line : Unlike → List ℕ
unlike_line u = codes "no slots: " ++ unlike_text u ++ 10 ∷ []
