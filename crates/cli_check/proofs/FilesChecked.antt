-- One file more that is checked.
use Rattle.std.proofs.Common.{◌≡◌, ◌≢◌, ℕ, ◌+◌, ◌<◌, ◌≤◌, max, true, false, List, [], ◌∷◌, ◌++◌, length, take, drop, get_or, append_assoc, take-append-drop, Option, Result, Err, sym, ap, ◌∙◌, subst}
use Rattle.std.specs.declared.alloc.Global.{Global}
use Rattle.std.specs.Prelude.{String, string_bytes}
use Rattle.std.proofs.lemmas.List.{take_more, take_all}
use Rattle.json5_types.specs.ValueMeanings.{Datum}
use Rattle.cli_files.specs.Stores.{Known}
use Rattle.cli_check.specs.declared.options.Options.{Options}
use Rattle.cli_check.specs.declared.verdict.Verdict.{Verdict}
use Rattle.cli_check.specs.declared.trouble.Trouble.{Trouble}
use Rattle.cli_check.specs.declared.trouble.Trouble.TheVariants as trouble
use Rattle.cli_check.specs.Checks.{JudgesFile, status_of, ChecksFiles, next, ChecksThrough, through, stopped}

pub one_longer : (names : List (String Global)) (i : ℕ) (name : String Global) → i < length names → name ≡ get_or names i name → take (i + 1) names ≡ take i names ++ name ∷ []
one_longer names i name h is = take_more names i name h ∙ ap (λ x. take i names ++ x ∷ []) (sym is)

parted : (names : List (String Global)) (i : ℕ) (name : String Global) → i < length names → name ≡ get_or names i name → names ≡ take i names ++ name ∷ drop (i + 1) names
parted names i name h is =
    sym (take-append-drop (i + 1) names) ∙ ap (λ l. l ++ drop (i + 1) names) (one_longer names i name h is) ∙ append_assoc (take i names) (name ∷ []) (drop (i + 1) names)

module _ (known : Known) (given : Option Datum) (o : Options) (input : Option (List ℕ)) (names : List (String Global)) (i status : ℕ) where
  -- the files so far, and this one
  pub one_more : (left more : Option (List ℕ)) (name : String Global) (text : List ℕ) (r : Result Verdict Trouble) → i < length names → name ≡ get_or names i name → text ≡ string_bytes name
      → ChecksFiles known given o input (take i names) left status → JudgesFile known given o left text more r → r ≢ Err trouble.Write
      → ChecksFiles known given o input (take (i + 1) names) more (max status (status_of r))
  one_more left more name text r h is value g k other =
      subst (λ l. ChecksFiles known given o input l more (max status (status_of r))) (sym (one_longer names i name h is))
      (next name r g (subst (λ t. JudgesFile known given o left t more r) value k) other)

  -- this one couldn't be told
  pub stops : (left more : Option (List ℕ)) (name : String Global) (text : List ℕ) (r : Result Verdict Trouble) → i < length names → name ≡ get_or names i name → text ≡ string_bytes name
      → ChecksFiles known given o input (take i names) left status → JudgesFile known given o left text more r → r ≡ Err trouble.Write
      → ChecksThrough known given o input names more (max status (status_of r)) false
  stops left more name text r h is value g k write =
      subst (λ n. ChecksThrough known given o input names more n false) (ap (λ x. max status (status_of x)) (sym write))
      (stopped name (drop (i + 1) names) (parted names i name h is) g (subst (λ x. JudgesFile known given o left (string_bytes name) more x) write (subst (λ t. JudgesFile known given o left t more r) value k)))

  pub ends : (left : Option (List ℕ)) → length names ≤ i → ChecksFiles known given o input (take i names) left status → ChecksThrough known given o input names left status true
  ends left h g = through (subst (λ l. ChecksFiles known given o input l left status) (take_all i names h) g)
