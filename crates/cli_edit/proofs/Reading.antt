-- VALUE is read before FILE.
use Rattle.std.proofs.Common.{◌≡◌, ◌⊎◌, inl, inr, ℕ, List, subst}
use Rattle.std.specs.Prelude.{Option}
use Rattle.cli_files.specs.declared.failure.Failure.{Failure}
use Rattle.cli_files.specs.Stores.{Known}
use Rattle.json5_edit.specs.declared.path_texts.parsed.Path.{Path}
use Rattle.cli_edit.specs.declared.requests.Task.{Task}
use Rattle.cli_edit.specs.Works.{DoesWith, Holds, HoldsNone, reads, reads_none, stream_word}

-- what is read of a file isn't read of standard input
elsewhere : (known : Known) (file : List ℕ) (i j : Option (List ℕ)) (text : List ℕ) → ¬ (file ≡ stream_word) → Holds known file i text → Holds known file j text
elsewhere known file i j text other (inl (is, k)) = absurd (other is)
elsewhere known file i j text other (inr k) = inr k

elsewhere_none : (known : Known) (file : List ℕ) (i j : Option (List ℕ)) (f : Failure) → ¬ (file ≡ stream_word) → HoldsNone known file i f → HoldsNone known file j f
elsewhere_none known file i j f other (inl (is, k)) = absurd (other is)
elsewhere_none known file i j f other (inr k) = inr k

pub kept_for_file : (known : Known) (path : Path) (t : Task) (given : List ℕ) (i j output errors written said : Option (List ℕ)) (status : ℕ)
    → ¬ (t.file.now ≡ stream_word) ⊎ (i ≡ j) → DoesWith known path t given i output errors written said status → DoesWith known path t given j output errors written said status
kept_for_file known path t given i j output errors written said status (inr same) d = subst (λ x. DoesWith known path t given x output errors written said status) same d
kept_for_file known path t given i j output errors written said status (inl other) (reads text h d) = reads text (elsewhere known t.file.now i j text other h) d
kept_for_file known path t given i j output errors written said status (inl other) (reads_none f h k) = reads_none f (elsewhere_none known t.file.now i j f other h) k
