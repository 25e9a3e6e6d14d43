use Rattle.json5_schema.proofs.Named.{leads_to}
use Rattle.json5_schema.proofs.laws.names_lead.Goals as goal

pub returns : goal.returns
returns c = λ name root s e. leads_to name root s e
