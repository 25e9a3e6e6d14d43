-- The work on one file more.
use Rattle.std.proofs.Common.{◌≡◌, ◌≢◌, ℕ, ◌+◌, ◌<◌, ◌≤◌, max, List, [], ◌∷◌, ◌++◌, length, take, drop, get_or, Option, sym, ap, ◌∙◌, subst, append_assoc, take-append-drop, true, false}
use Rattle.std.specs.declared.alloc.Global.{Global}
use Rattle.std.specs.Prelude.{String, string_bytes, Ok, Err}
use Rattle.std.proofs.lemmas.List.{take_more, take_all}
use Rattle.json5_write.specs.Pieces.{AppendsFront}
use Rattle.cli_files.specs.declared.failure.Failure.TheVariants as failure
use Rattle.cli_tidy.specs.declared.files.Outcome.TheVariants as outcome
use Rattle.cli_tidy.specs.declared.requests.FileRequest.{FileRequest}
use Rattle.cli_tidy.specs.declared.trouble.FileTrouble.{FileTrouble}
use Rattle.cli_tidy.specs.declared.trouble.FileTrouble.TheVariants as trouble
use Rattle.cli_tidy.specs.Files.{WorksOnFile, GoesThrough, tidy, untidy, bad, WorksThrough, through, stopped}
use Rattle.cli_files.specs.Stores.{Known}
use Rattle.cli_tidy.specs.Troubles.{trouble_line, file_trouble_status}

-- the files so far, and this one
pub one_more : (names : List (String Global)) (i : ℕ) (name : String Global) → i < length names → name ≡ get_or names i name → take (i + 1) names ≡ take i names ++ name ∷ []
one_more names i name h is = take_more names i name h ∙ ap (λ x. take i names ++ x ∷ []) (sym is)

split_at : (names : List (String Global)) (i : ℕ) (name : String Global) → i < length names → name ≡ get_or names i name → names ≡ take i names ++ name ∷ drop (i + 1) names
split_at names i name h is =
    sym (take-append-drop (i + 1) names) ∙ ap (λ l. l ++ drop (i + 1) names) (one_more names i name h is) ∙ append_assoc (take i names) (name ∷ []) (drop (i + 1) names)

module _ (known : Known) (request : FileRequest) (output errors before after said : Option (List ℕ)) (names : List (String Global)) (i status : ℕ) (name : String Global)
    (h : i < length names) (is : name ≡ get_or names i name) (g : GoesThrough known request output errors (take i names) before said status) where
  pub more_tidy : WorksOnFile known request (string_bytes name) before after (Ok outcome.Tidy) → GoesThrough known request output errors (take (i + 1) names) after said status
  more_tidy k = subst (λ l. GoesThrough known request output errors l after said status) (sym (one_more names i name h is)) (tidy name g k)

  pub more_untidy : WorksOnFile known request (string_bytes name) before after (Ok outcome.Untidy) → GoesThrough known request output errors (take (i + 1) names) after said (max status 1)
  more_untidy k = subst (λ l. GoesThrough known request output errors l after said (max status 1)) (sym (one_more names i name h is)) (untidy name g k)

  pub more_bad : (more : Option (List ℕ)) (e : FileTrouble) → WorksOnFile known request (string_bytes name) before after (Err e) → e ≢ trouble.Failed failure.Write → AppendsFront said more (trouble_line (string_bytes name) e)
      → GoesThrough known request output errors (take (i + 1) names) after more (max status (file_trouble_status e))
  more_bad more e k other a = subst (λ l. GoesThrough known request output errors l after more (max status (file_trouble_status e))) (sym (one_more names i name h is)) (bad name e g k other a)

  pub stops : (more : Option (List ℕ)) (e : FileTrouble) → WorksOnFile known request (string_bytes name) before after (Err e) → e ≡ trouble.Failed failure.Write → AppendsFront said more (trouble_line (string_bytes name) e)
      → WorksThrough known request output errors names after more (max status (file_trouble_status e)) false
  stops more e k write a =
      subst (λ n. WorksThrough known request output errors names after more n false) (ap (λ x. max status (file_trouble_status x)) (sym write))
      (stopped name (drop (i + 1) names) (split_at names i name h is) g (subst (λ x. WorksOnFile known request (string_bytes name) before after (Err x)) write k) (subst (λ x. AppendsFront said more (trouble_line (string_bytes name) x)) write a))

pub ends : (known : Known) (request : FileRequest) (output errors after said : Option (List ℕ)) (names : List (String Global)) (i status : ℕ) → length names ≤ i
    → GoesThrough known request output errors (take i names) after said status → WorksThrough known request output errors names after said status true
ends known request output errors after said names i status h g = through (subst (λ l. GoesThrough known request output errors l after said status) (take_all i names h) g)
