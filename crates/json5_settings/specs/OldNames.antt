-- Members that have an old name.
-- A promise rests on this.
use Rattle.std.specs.Borrow.{Bor}
use Rattle.std.specs.Prelude.{◌≡◌, ℕ, List, [], ◌∷◌, ◌++◌, take, Option, Some, None, MatchOption}
use Rattle.std.specs.Str.{chars}
use Rattle.json5_grammar.specs.Faults.Positions.{position_after}
use Rattle.json5_types.specs.declared.error.Error.{Error}
use Rattle.json5_types.specs.Errors.{IsCustomAt}
use Rattle.json5_walk.specs.declared.place.Place.{Place}
use Rattle.json5_edit.specs.PathTexts.{AreStepsOf, SpellsPath}
use Rattle.json5_edit.specs.Places.{Leads, LeadsNowhere}
use Rattle.json5_edit.specs.declared.path_texts.parsed.Path.{Path}
use Rattle.json5_edit.specs.declared.paths.Step.{Step}

-- the name is a path, which has these steps in the text
abbrev pub AreStepsIn : (text name : List ℕ) → List Step → Type 0
AreStepsIn text name steps = (path : Path) × SpellsPath path name × AreStepsOf text path.written.items steps

-- a custom fault where the value begins to which the path leads
abbrev pub IsFaultWhere : (text : List ℕ) → List Step → Error → Type 0
IsFaultWhere text path e = (place : Place) × Leads text path (Some place) × IsCustomAt (Some (position_after (chars (take place.start text)))) e

-- a fault is told there, or the name leads nowhere
abbrev pub TellsName : (text name : List ℕ) → Option Error → Type 0
TellsName text name told = (path : List Step) × AreStepsIn text name path × MatchOption told (LeadsNowhere text path) (IsFaultWhere text path)

abbrev pub list_of : Option Error → List Error
list_of None = []
list_of (Some e) = e ∷ []

-- old names with the new ones
abbrev pub Names : Type 0
Names = List (Bor (List ℕ) × Bor (List ℕ))

-- what is told of each old name, one after another
pub data AreOldNames (text : List ℕ) : Names → List Error → Type 0 where
  no_name : AreOldNames text [] []
  one_more : {ns : Names} {es : List Error} (n : Bor (List ℕ) × Bor (List ℕ)) (told : Option Error) → AreOldNames text ns es → TellsName text n.0.now told → AreOldNames text (ns ++ n ∷ []) (es ++ list_of told)
