-- The documents of texts, and of bytes that are none.
use Rattle.std.proofs.Common.{◌≡◌, ℕ, List, None, false, inl, inr, refl}
use Rattle.std.specs.Str.{IsUtf8, is_utf8}
use Rattle.std.proofs.lemmas.Bool.{cases_Bool}
use Rattle.std.proofs.lemmas.Str.{is_utf8-from_IsUtf8, IsUtf8-from_is_utf8}
use Rattle.toml.specs.Parse.{parse_document}
use Rattle.ttx_source.specs.Documents.{document_of}

pub not_utf8 : (bytes : List ℕ) → (IsUtf8 bytes → ⊥) → is_utf8 bytes ≡ false
not_utf8 bytes fails = elim (cases_Bool (is_utf8 bytes)) [ inl t ↦ absurd (fails (IsUtf8-from_is_utf8 bytes t)) | inr h ↦ h ]

pub of_no_text : (bytes : List ℕ) → (IsUtf8 bytes → ⊥) → document_of bytes ≡ None
of_no_text bytes fails = rw (not_utf8 bytes fails) refl

pub of_text : (bytes : List ℕ) → IsUtf8 bytes → document_of bytes ≡ parse_document bytes
of_text bytes is = rw (is_utf8-from_IsUtf8 bytes is) refl
