use Rattle.json5_schema.proofs.Knowing.{map_ok}
use Rattle.json5_schema.proofs.references.look_strictly.Goals as goal

pub returns-clause-taken : goal.returns-clause-taken
returns-clause-taken c = map_ok c.look.result (λ h. (h.1, c.in_ok-check_keywords_of.ensures.known)) c.look.ensures.taken
