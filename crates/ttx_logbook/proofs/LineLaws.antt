-- The first line of a text, by a way to read lines.
use Rattle.std.proofs.Common.{◌≡◌, ◌≢◌, ℕ, List, ◌∷◌, ◌++◌, Option, Some, None, sym, ap, ◌∙◌}
use Rattle.std.proofs.lemmas.Option.{same_Some, none-some}
use Rattle.ttx_logbook.specs.Cuts.{cut}
use Rattle.ttx_logbook.specs.LogTexts.{Lacks}
use Rattle.ttx_logbook.proofs.CutLaws.{cut_mark, mark_cut}

-- what is written in a line is read as it is written, and what is read is written so
pub record Reads {F : Type 0} (read : List ℕ → Option F) (text_of : F → List ℕ) (Is : F → Type 0) : Type 0 where
  pub lacks : (f : F) → Is f → Lacks 10 (text_of f)
  pub reads : (f : F) → Is f → read (text_of f) ≡ Some f
  pub writes : (line : List ℕ) (f : F) → Lacks 10 line → read line ≡ Some f → (line ≡ text_of f) × Is f

module _ {F : Type 0} {read : List ℕ → Option F} {text_of : F → List ℕ} {Is : F → Type 0} (r : Reads read text_of Is) (text : List ℕ) where
  pub no_line : None ≡ cut 10 text → (f : F) (more : List ℕ) → Is f → text ≢ text_of f ++ 10 ∷ more
  no_line none f more is same = none-some (text_of f, more) (none ∙ ap (cut 10) same ∙ cut_mark 10 (text_of f) more (r.lacks f is))

  pub other_line : (line rest : List ℕ) → Some (line, rest) ≡ cut 10 text → None ≡ read line → (f : F) (more : List ℕ) → Is f → text ≢ text_of f ++ 10 ∷ more
  other_line line rest cuts none f more is same =
      let e = same_Some (line, rest) (text_of f, more) (cuts ∙ ap (cut 10) same ∙ cut_mark 10 (text_of f) more (r.lacks f is)) in
      none-some f (none ∙ ap read (ap (λ p. p.0) e) ∙ r.reads f is)

  pub is_line : (line rest : List ℕ) (f : F) → Some (line, rest) ≡ cut 10 text → Some f ≡ read line → Is f × (text ≡ text_of f ++ 10 ∷ rest)
  is_line line rest f cuts reads =
      let parts = mark_cut 10 text line rest (sym cuts) in
      let w = r.writes line f parts.1 (sym reads) in
      (w.1, parts.0 ∙ ap (λ l. l ++ 10 ∷ rest) w.0)
