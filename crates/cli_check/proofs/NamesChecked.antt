-- The files that a name of the command line stands for, and one name more.
use Rattle.std.proofs.Common.{◌≡◌, ◌≢◌, ℕ, ◌+◌, ◌<◌, ◌≤◌, max, Bool, true, false, List, [], ◌∷◌, ◌++◌, length, take, drop, get_or, take-append-drop, Option, Result, Ok, Err, sym, ap, ◌∙◌, subst}
use Rattle.std.specs.declared.alloc.AllocError.{AllocError}
use Rattle.std.specs.declared.alloc.Global.{Global}
use Rattle.std.specs.Prelude.{IfOk, String, string_bytes, Vec}
use Rattle.std.proofs.lemmas.List.{take_all, nil_from_length}
use lib.Chars.{codes}
use Rattle.json5_types.specs.ValueMeanings.{Datum}
use Rattle.cli_files.specs.Folders.{StandsFor}
use Rattle.cli_files.specs.NameLists.{names_of}
use Rattle.cli_files.specs.Stores.{Known}
use Rattle.cli_check.specs.declared.options.Options.{Options}
use Rattle.cli_check.specs.Checks.{ChecksThrough}
use Rattle.cli_check.specs.Names.{Stands, stream, named, ChecksBelow, checked, no_file, ChecksEach, next, ChecksNames, through, stopped}
use Rattle.cli_check.proofs.FilesChecked.{one_longer}

module _ (known : Known) (o : Options) (name : List ℕ) where
  pub alone : (old new : List (String Global)) → name ≡ codes "-" → old ≡ [] → names_of new ≡ names_of old ++ name ∷ [] → Stands known o name (names_of new)
  alone old new is empty e = subst (Stands known o name) (sym (e ∙ ap (λ l. names_of l ++ name ∷ []) empty)) (stream is)

  pub found : (r : Result (Vec (String Global) Global) AllocError) (endings excluded : List (String Global)) → name ≢ codes "-" → endings ≡ o.endings.items → excluded ≡ o.excluded.items
      → IfOk r (λ all. StandsFor known endings excluded name (names_of all.items)) → IfOk r (λ all. Stands known o name (names_of all.items))
  found (Ok all) endings excluded other same alike k =
      named other (subst (λ l. StandsFor known l o.excluded.items name (names_of all.items)) same (subst (λ l. StandsFor known endings l name (names_of all.items)) alike k))
  found (Err e) endings excluded other same alike k = tt

  module _ (given : Option Datum) (input : Option (List ℕ)) (all : List (String Global)) where
    pub below : (left : Option (List ℕ)) (status : ℕ) (goes_on : Bool) (each : List (String Global)) → all ≢ [] → each ≡ all → Stands known o name (names_of all)
        → ChecksThrough known given o input each left status goes_on → ChecksBelow known given o input name left status goes_on
    below left status goes_on each some same stands k = checked all some stands (subst (λ l. ChecksThrough known given o input l left status goes_on) same k)

    pub none_below : length all ≡ 0 → Stands known o name (names_of all) → ChecksBelow known given o input name input 2 true
    none_below empty stands = no_file (subst (λ l. Stands known o name (names_of l)) (nil_from_length all empty) stands)

module _ (known : Known) (given : Option Datum) (o : Options) (input : Option (List ℕ)) (names : List (String Global)) (i : ℕ) where
  pub one_name_more : (left more : Option (List ℕ)) (status met : ℕ) (goes_on : Bool) (name : String Global) (text : List ℕ) → i < length names → name ≡ get_or names i name → text ≡ string_bytes name
      → ChecksEach known given o input (take i names) left status true → ChecksBelow known given o left text more met goes_on
      → ChecksEach known given o input (take (i + 1) names) more (max status met) goes_on
  one_name_more left more status met goes_on name text h is value g k =
      subst (λ l. ChecksEach known given o input l more (max status met) goes_on) (sym (one_longer names i name h is))
      (next name g (subst (λ t. ChecksBelow known given o left t more met goes_on) value k))

  pub goes_more : (left more : Option (List ℕ)) (status met : ℕ) (goes_on : Bool) (name : String Global) (text : List ℕ) → i < length names → name ≡ get_or names i name → text ≡ string_bytes name → goes_on ≡ true
      → ChecksEach known given o input (take i names) left status true → ChecksBelow known given o left text more met goes_on
      → ChecksEach known given o input (take (i + 1) names) more (max status met) true
  goes_more left more status met goes_on name text h is value on g k =
      subst (λ b. ChecksEach known given o input (take (i + 1) names) more (max status met) b) on (one_name_more left more status met goes_on name text h is value g k)

  pub stops_there : (left : Option (List ℕ)) (status : ℕ) (goes_on : Bool) → names ≡ o.names.items → goes_on ≡ false → ChecksEach known given o input (take (i + 1) names) left status goes_on
      → ChecksNames known given o input status
  stops_there left status goes_on same off g =
      stopped (take (i + 1) names) (drop (i + 1) names) (sym same ∙ sym (take-append-drop (i + 1) names)) (subst (ChecksEach known given o input (take (i + 1) names) left status) off g)

  pub goes_through : (left : Option (List ℕ)) (status : ℕ) → names ≡ o.names.items → length names ≤ i → ChecksEach known given o input (take i names) left status true → ChecksNames known given o input status
  goes_through left status same h g = through (subst (λ l. ChecksEach known given o input l left status true) (take_all i names h ∙ same) g)
