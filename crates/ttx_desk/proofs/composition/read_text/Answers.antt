use Rattle.std.proofs.Common.{◌≡◌, ◌∙◌, ◌⊎◌, Err, true, inl, inr, ap, sym, subst, ℕ, List}
use Rattle.std.proofs.lemmas.Str.{is_utf8-from_IsUtf8}
use Rattle.std.specs.Str.{is_utf8}
use Rattle.toml.specs.Parse.{parse_document}
use Rattle.ttx_source.specs.declared.faults.SourceError.{SourceError}
use Rattle.ttx_source.specs.Faults.{fault_of}
use Rattle.ttx_source.specs.KeyFaults.{out_of_memory}
use Rattle.ttx_source.specs.Services.{read_bytes, service_in}
use Rattle.ttx_desk.specs.declared.composition.ComposeFault.{ComposeFault}
use Rattle.ttx_desk.specs.declared.composition.ComposeFault.TheVariants.{NotToml, Mistakes, Service, Unsaid, NoMemory}
use Rattle.ttx_desk.specs.Composing.{IsFaultFor, IsRefusedText}
use Rattle.ttx_desk.proofs.composition.read_text.Goals as goal

refused-by : (text : List ℕ) (error : SourceError) (fault : ComposeFault) → is_utf8 text ≡ true → IsFaultFor error fault
    → (error ≡ out_of_memory) ⊎ (Err (fault_of error.fault, error.page) ≡ read_bytes text) → IsRefusedText text fault
refused-by text error NotToml utf8 none told = absurd none
refused-by text error (Mistakes found) utf8 none told = absurd none
refused-by text error (Service error') utf8 for (inl is) = absurd (for.1 is)
refused-by text error (Service error') utf8 for (inr is) =
    let read : Err (fault_of error.fault, error.page) ≡ service_in (parse_document text) = rw utf8 at is in
    sym read ∙ ap (λ (e : SourceError). Err (fault_of e.fault, e.page)) (sym for.0)
refused-by text error Unsaid utf8 none told = absurd none
refused-by text error NoMemory utf8 for told = tt

pub returns-in-Err : goal.returns-in-Err
returns-in-Err c =
    record {
      service = tt;
      refused =
          refused-by c.args.text.now c.in-Err.error c.fault_for.result (is_utf8-from_IsUtf8 c.args.text.now c.utf8.text) c.fault_for.ensures
          (subst (λ bytes. (c.in-Err.error ≡ out_of_memory) ⊎ (Err (fault_of c.in-Err.error.fault, c.in-Err.error.page) ≡ read_bytes bytes)) c.as_bytes.ensures.value c.in-Err.ensures);
    }
