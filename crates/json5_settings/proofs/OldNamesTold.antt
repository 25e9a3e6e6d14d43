-- What is told of old names.
use Rattle.std.proofs.Common.{◌≡◌, ℕ, ◌+◌, ◌<◌, ◌≤◌, List, [], ◌∷◌, ◌++◌, length, take, get_or, subst, sym, Option}
use Rattle.std.specs.Borrow.{Bor}
use Rattle.std.proofs.lemmas.List.{take_all, take_more}
use Rattle.json5_types.specs.declared.error.Error.{Error}
use Rattle.json5_settings.specs.OldNames.{AreOldNames, Names, TellsName, list_of, one_more}

abbrev pub no_pair : Bor (List ℕ) × Bor (List ℕ)
no_pair = (record { ref_ptr = (0, 0); now = [] }, record { ref_ptr = (0, 0); now = [] })

pub names_more : {text : List ℕ} (i : ℕ) (ns : Names) (es after : List Error) (told : Option Error) → i < length ns → AreOldNames text (take i ns) es → TellsName text (get_or ns i no_pair).0.now told → after ≡ es ++ list_of told → AreOldNames text (take (i + 1) ns) after
names_more {text = text} i ns es after told inside so_far tells added =
    subst (λ z. AreOldNames text z after) (sym (take_more ns i no_pair inside)) (subst (AreOldNames text (take i ns ++ get_or ns i no_pair ∷ [])) (sym added) (one_more (get_or ns i no_pair) told so_far tells))

pub all_names : {text : List ℕ} (i : ℕ) (ns : Names) (es : List Error) → length ns ≤ i → AreOldNames text (take i ns) es → AreOldNames text ns es
all_names {text = text} i ns es end so_far = subst (λ z. AreOldNames text z es) (take_all i ns end) so_far
