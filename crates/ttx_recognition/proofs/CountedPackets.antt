-- Packets that are counted one after another.
use Rattle.std.proofs.Common.{◌≡◌, ℕ, suc, ◌+◌, ◌&&◌, if◌then◌else◌, List, refl, ap, ◌∙◌, arith}
use Rattle.ttx_packet.specs.Slots.{is_empty}
use Rattle.ttx_recognition.specs.Packets.{reads}
use Rattle.ttx_recognition.specs.Forms.{packet_at, is_framed, sent_to, read_to}
use Rattle.ttx_recognition.specs.declared.form.Form.{Form}

pub none_sent : (f : Form) (bytes : List ℕ) → 0 ≡ sent_to f bytes 0
unfolding sent_to
none_sent f bytes = refl

pub none_read : (f : Form) (bytes : List ℕ) → 0 ≡ read_to f bytes 0
unfolding read_to
none_read f bytes = refl

module _ (f : Form) (bytes : List ℕ) (n : ℕ) where
  one_more : suc n ≡ n + 1
  one_more = omega arith

  sent_suc : (if is_empty (packet_at f bytes n) then sent_to f bytes n else suc (sent_to f bytes n)) ≡ sent_to f bytes (suc n)
  unfolding sent_to
  sent_suc = refl

  read_suc : (if is_framed f bytes n && reads (packet_at f bytes n) then suc (read_to f bytes n) else read_to f bytes n) ≡ read_to f bytes (suc n)
  unfolding read_to
  read_suc = refl

  pub sent_more : (if is_empty (packet_at f bytes n) then sent_to f bytes n else suc (sent_to f bytes n)) ≡ sent_to f bytes (n + 1)
  sent_more = sent_suc ∙ ap (sent_to f bytes) one_more

  pub read_more : (if is_framed f bytes n && reads (packet_at f bytes n) then suc (read_to f bytes n) else read_to f bytes n) ≡ read_to f bytes (n + 1)
  read_more = read_suc ∙ ap (read_to f bytes) one_more
