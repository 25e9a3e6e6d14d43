-- What reading refuses with is the input's one fault, with all that is said of it.
use Rattle.std.proofs.Common.{ℕ, List, subst, Option}
use Rattle.json5_grammar.specs.Faults.Codes.{ErrorCode}
use Rattle.json5_grammar.specs.Language.Documents.{Doc}
use Rattle.json5_grammar.specs.Faults.{FaultWhere, Anywhere, InValue}
use Rattle.json5_grammar.specs.Faults.Fronts.{Expects}
use Rattle.json5_grammar.specs.Model.ReadValues.{document}
use Rattle.json5_grammar.specs.Faults.Refusals.{Blames, BlamesText, BlamesValue}
use Rattle.json5_grammar.specs.Language.Trees.{Tree}
use Rattle.json5_grammar.proofs.Refusals.{Refuses}
use Rattle.json5_grammar.proofs.OneTree.{phrase_reader}
use Rattle.json5_grammar.proofs.DocumentOrFault.{Faulty, refused_faulty, value_faulty, no_fault, one_fault, anywhere}
use Rattle.json5_grammar.proofs.BeforeFaults.{fault_begins}
use Rattle.json5_grammar.proofs.FaultParts.{fault_in, fault_part}
use Rattle.json5_grammar.proofs.FaultsShown.{fault_shows}
use Rattle.json5_grammar.proofs.FaultsRemain.{hopeless}
use Rattle.json5_grammar.proofs.FaultsRefused.{fault_refused, value_fault_refused}

-- all that is said of a fault
said : (Where : Expects → Type 0) (limit : ℕ) (x : List ℕ) (code : Option ErrorCode) (place : Option (List ℕ)) → Faulty Where limit x code place
    → Blames Where limit x code place
said Where limit x code place f = record {
  before = f.before;
  part = f.part;
  shown = f.shown;
  found = f.found;
  only = λ other there b p how g. one_fault g (anywhere f.found);
  begins = fault_begins f.found;
  through = λ h. hopeless (anywhere (subst (FaultWhere Where limit x code place f.before f.part) h f.found));
  is_part = fault_part f.found;
  inside = fault_in f.found;
  at = λ h. fault_shows (subst (FaultWhere Where limit x code place f.before f.part) h f.found);
}

-- what refuses a text
pub blames_text : (limit : ℕ) (x : List ℕ) (code : Option ErrorCode) (place : Option (List ℕ)) → Refuses (document limit x) x code place
    → BlamesText limit x code place
blames_text limit x code place k = said Anywhere limit x code place (refused_faulty limit x code place k)

-- what refuses a value after blanks
pub blames_value : (limit : ℕ) (x : List ℕ) (code : Option ErrorCode) (place : Option (List ℕ)) → Refuses (phrase_reader limit x) x code place
    → BlamesValue limit x code place
blames_value limit x code place k = said InValue limit x code place (value_faulty limit x code place k)

-- and the other way round
pub text_refuses : (limit : ℕ) (x : List ℕ) (code : Option ErrorCode) (place : Option (List ℕ)) → BlamesText limit x code place
    → Refuses (document limit x) x code place
text_refuses limit x code place b = fault_refused b.found

pub value_refuses : (limit : ℕ) (x : List ℕ) (code : Option ErrorCode) (place : Option (List ℕ)) → BlamesValue limit x code place
    → Refuses (phrase_reader limit x) x code place
value_refuses limit x code place b = value_fault_refused b.found

-- a document is blamed for nothing
pub no_blame : (limit : ℕ) (x : List ℕ) (t : Tree) (code : Option ErrorCode) (place : Option (List ℕ)) → Doc limit x t
    → BlamesText limit x code place → ⊥
no_blame limit x t code place d b = no_fault t d b.found
