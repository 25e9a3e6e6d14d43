-- Names that are appended one after the other.
use Rattle.std.proofs.Common.{◌≡◌, ℕ, ◌+◌, ◌<◌, ◌≤◌, List, [], ◌∷◌, ◌++◌, length, take, get_or, sym, ap, ◌∙◌, append_assoc}
use Rattle.std.specs.declared.alloc.Global.{Global}
use Rattle.std.specs.Prelude.{String, string_bytes}
use Rattle.std.proofs.lemmas.List.{map-append, take_all}
use Rattle.cli_files.specs.NameLists.{names_of}
use Rattle.cli_tidy.proofs.FilesWorked.{one_more}

module _ (old more : List (String Global)) (i : ℕ) where
  pub pushed_more : (now new : List (String Global)) (name : String Global) (text : List ℕ) → i < length more → name ≡ get_or more i name → text ≡ string_bytes name
      → names_of now ≡ names_of old ++ names_of (take i more) → names_of new ≡ names_of now ++ text ∷ [] → names_of new ≡ names_of old ++ names_of (take (i + 1) more)
  pushed_more now new name text h is value before e =
      e ∙ ap (λ l. l ++ text ∷ []) before ∙ append_assoc (names_of old) (names_of (take i more)) (text ∷ [])
      ∙ ap (λ l. names_of old ++ l) (ap (λ t. names_of (take i more) ++ t ∷ []) value ∙ sym (map-append string_bytes (take i more) (name ∷ [])) ∙ ap names_of (sym (one_more more i name h is)))

  pub pushed_all : (now : List (String Global)) → length more ≤ i → names_of now ≡ names_of old ++ names_of (take i more) → names_of now ≡ names_of old ++ names_of more
  pushed_all now h before = before ∙ ap (λ l. names_of old ++ names_of l) (take_all i more h)
