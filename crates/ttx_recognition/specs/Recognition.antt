-- What bytes are that should be packets of 42 bytes (profile).
--
--   judged                  the bytes that are judged: those of 64 packets, or what there is
--   is_unlike               there are eight packets or more that are not empty, and not one in ten reads
--   IsRecognised            nothing if so many read; otherwise the first form that fits, or none
use Rattle.std.specs.Prelude.{◌≡◌, ℕ, ◌*◌, ◌<◌, Bool, true, false, ◌&&◌, nat_le, nat_lt, List, take, Option, Some, None}
use Rattle.ttx_recognition.specs.Forms.{as_sent, sent_in, read_in, fits, form_at, forms}
use Rattle.ttx_recognition.specs.declared.form.Form.{Form}
use Rattle.ttx_recognition.specs.declared.form.Unlike.{Unlike}
use Rattle.ttx_recognition.specs.declared.form.Unlike.TheVariants as unlike

abbrev pub judged : List ℕ → List ℕ
judged bytes = take 2688 bytes

abbrev pub is_unlike : List ℕ → Bool
is_unlike bytes = nat_le 8 (sent_in as_sent bytes) && nat_lt (10 * read_in as_sent bytes) (sent_in as_sent bytes)

-- the n-th form is the first that fits
pub record IsFirstForm (bytes : List ℕ) (f : Form) : Type 0 where
  pub number : ℕ
  pub few : number < forms
  pub is : f ≡ form_at number
  pub does : fits f bytes ≡ true
  pub first : (m : ℕ) → m < number → fits (form_at m) bytes ≡ false

abbrev pub FitsNone : List ℕ → Type 0
FitsNone bytes = (m : ℕ) → m < forms → fits (form_at m) bytes ≡ false

abbrev pub IsRecognised : List ℕ → Option Unlike → Type 0
IsRecognised bytes None = is_unlike bytes ≡ false
IsRecognised bytes (Some (unlike.Form f)) = (is_unlike bytes ≡ true) × IsFirstForm bytes f
IsRecognised bytes (Some unlike.NoTeletext) = (is_unlike bytes ≡ true) × FitsNone bytes
