-- The work on one name of the command line more.
use Rattle.std.proofs.Common.{◌≡◌, ◌≢◌, ◌==◌, ℕ, ◌+◌, ◌<◌, ◌≤◌, max, List, [], length, take, drop, get_or, Option, Bool, true, false, true≢false, ap, sym, subst, ◌∙◌, take-append-drop}
use Rattle.std.specs.declared.alloc.Global.{Global}
use Rattle.std.specs.Prelude.{String, string_bytes}
use Rattle.std.proofs.lemmas.List.{take_all, nil_from_length}
use Rattle.cli_tidy.specs.declared.requests.FileRequest.{FileRequest}
use Rattle.cli_tidy.specs.Files.{WorksThrough}
use Rattle.cli_files.specs.NameLists.{names_of}
use Rattle.cli_tidy.specs.Names.{Stands, WorksBelow, worked, GoesThroughNames, next, WorksThroughNames, through, stopped}
use Rattle.cli_files.specs.Stores.{Known}
use Rattle.cli_tidy.proofs.FilesWorked.{one_more}

module _ (known : Known) (request : FileRequest) (output errors : Option (List ℕ)) (names : List (String Global)) (i : ℕ) where
  pub one_name_more : (before after said more : Option (List ℕ)) (status met : ℕ) (goes_on : Bool) (name : String Global) (text : List ℕ) → i < length names → name ≡ get_or names i name → text ≡ string_bytes name
      → GoesThroughNames known request output errors (take i names) before said status true → WorksBelow known request text before said after more met goes_on
      → GoesThroughNames known request output errors (take (i + 1) names) after more (max status met) goes_on
  one_name_more before after said more status met goes_on name text h is value g k =
      subst (λ l. GoesThroughNames known request output errors l after more (max status met) goes_on) (sym (one_more names i name h is))
      (next name g (subst (λ t. WorksBelow known request t before said after more met goes_on) value k))

  pub goes_more : (before after said more : Option (List ℕ)) (status met : ℕ) (goes_on : Bool) (name : String Global) (text : List ℕ) → i < length names → name ≡ get_or names i name → text ≡ string_bytes name → goes_on ≡ true
      → GoesThroughNames known request output errors (take i names) before said status true → WorksBelow known request text before said after more met goes_on
      → GoesThroughNames known request output errors (take (i + 1) names) after more (max status met) true
  goes_more before after said more status met goes_on name text h is value on g k =
      subst (λ b. GoesThroughNames known request output errors (take (i + 1) names) after more (max status met) b) on (one_name_more before after said more status met goes_on name text h is value g k)

  pub stops_there : (after said : Option (List ℕ)) (status : ℕ) (goes_on : Bool) → names ≡ request.names.items → goes_on ≡ false → GoesThroughNames known request output errors (take (i + 1) names) after said status goes_on
      → WorksThroughNames known request output errors after said status
  stops_there after said status goes_on same off g =
      stopped (take (i + 1) names) (drop (i + 1) names) (sym same ∙ sym (take-append-drop (i + 1) names)) (subst (GoesThroughNames known request output errors (take (i + 1) names) after said status) off g)

  pub goes_through : (after said : Option (List ℕ)) (status : ℕ) → names ≡ request.names.items → length names ≤ i → GoesThroughNames known request output errors (take i names) after said status true
      → WorksThroughNames known request output errors after said status
  goes_through after said status same h g =
      through (subst (λ l. GoesThroughNames known request output errors l after said status true) (take_all i names h ∙ same) g)

pub some_file : (files : List (String Global)) (n : ℕ) → n ≡ length files → (n == 0) ≡ false → files ≢ []
some_file files n e f is = true≢false (sym (ap (λ m. m == 0) (e ∙ ap length is)) ∙ f)

module _ (known : Known) (request : FileRequest) (name : List ℕ) (files : List (String Global)) where
  pub works_below : (output errors after said : Option (List ℕ)) (all : List (String Global)) (status : ℕ) (goes_on : Bool) → files ≢ [] → all ≡ files
      → Stands known request name (names_of files) → WorksThrough known request output errors all after said status goes_on
      → WorksBelow known request name output errors after said status goes_on
  works_below output errors after said all status goes_on some every stands k =
      worked files some stands (subst (λ l. WorksThrough known request output errors l after said status goes_on) every k)

  pub stands_for_none : length files ≡ 0 → Stands known request name (names_of files) → Stands known request name []
  stands_for_none empty stands = subst (λ l. Stands known request name (names_of l)) (nil_from_length files empty) stands
