use Rattle.std.proofs.Common.{◌≡◌, ℕ, ◌++◌, List, Result, Ok, Err, OnOk, is_ok, if◌then◌else◌, string_bytes, subst, sym}
use Rattle.ttx_certificate.specs.CertificateTexts.{item_text}
use Rattle.ttx_certificate.proofs.writer.push_item.Goals as goal

-- what a call adds that may lack memory
added : {T E : Type 0} (r : Result T E) (new all old : List ℕ) → new ≡ (if is_ok r then all else old) → OnOk r (new ≡ all)
added (Ok x) new all old e = e
added (Err y) new all old e = tt

pub returns-in-Links : goal.returns-in-Links
returns-in-Links c =
    subst (λ item. OnOk c.push_str-in-Links.result (string_bytes c.push_str-in-Links.new.self ≡ string_bytes c.args.text.now ++ item_text item))
    (sym c.in-Links.is) (added _ _ _ _ c.push_str-in-Links.ensures.bytes)
